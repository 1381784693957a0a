-- The names of outputs differ where at most one output is counted of each name: each word keeps that.
use Rattle.std.proofs.Common.{◌≡◌, ℕ, ◌+◌, ◌≤◌, Bool, true, false, cond, ◌||◌, List, [], ◌∷◌, Option, None, Some, refl, ap, sym, ◌∙◌, subst, arith}
use Rattle.std.specs.Option.{option_map}
use Rattle.std.specs.Str.{bytes_eq}
use Rattle.std.proofs.lemmas.Slice.Eq.{bytes_eq-Decides}
use Rattle.wm_base.specs.declared.ids.ConId.{ConId}
use Rattle.wm_base.specs.declared.plan.Border.{Border}
use Rattle.wm_base.specs.declared.plan.OutputPlan.{OutputPlan}
use Rattle.law_fullscreen.proofs.HasOneLemmas.{IsFirst, first_found}
use Rattle.law_names.proofs.FoundLemmas.{Found, at_most_one, one_if, two_counted}
use Rattle.law_names.proofs.LastCounts.{AtMostOne, NewNamesKeep, NewSpacesKeep, alike, counts_last}
use Rattle.law_names.proofs.OutputRows.{outputs_in_row, row_first}
use Rattle.law_names.proofs.WordCounts.{IsOfPlaces, by_kind}
use Rattle.law_lasting.specs.Lasting.{Lasts}
use Rattle.law_workspaces.proofs.AddLaws.{adds_other}
use Rattle.law_workspaces.specs.Added.{OutputNamesDiffer, name_in, output_name}
use Rattle.wm_layouts.specs.Plan.{NamesDiffer, is_taken}
use Rattle.wm_opens.proofs.WordLemmas.{put_none}
use Rattle.wm_spaces.specs.Coming.{output_added_tree}
use Rattle.wm_spaces.specs.Names.{output_called}
use Rattle.wm_forest.proofs.CountLemmas.{count-same}
use Rattle.wm_forest.proofs.RecencyLemmas.{same_is}
use Rattle.wm_forest.specs.Counts.{count}
use Rattle.wm_forest.specs.declared.kind.KindEdit.{KindEdit}
use Rattle.wm_forest.specs.declared.kind.KindEdit.TheVariants as edits
use Rattle.wm_forest.specs.declared.part.NodeKind.{NodeKind}
use Rattle.wm_forest.specs.declared.part.NodeKind.TheVariants.{Root, Output, Space, Con}
use Rattle.wm_forest.specs.declared.part.OutputPart.{OutputPart}
use Rattle.wm_forest.specs.declared.part.Part.{Part}
use Rattle.wm_forest.specs.declared.place.Place.TheVariants.{Last}
use Rattle.wm_forest.specs.Forest.{Forest, end, con}
use Rattle.wm_forest.specs.Kinds.{changed, kind_changed}
use Rattle.wm_forest.specs.Look.{first_kids, first_part, in_row, kind_by, node_in, only, output_kind, same}
use Rattle.wm_forest.specs.RootId.{id}
use Rattle.wm_tree.specs.Outputs.{new_space, with_space}
use Rattle.wm_tree.specs.Sound.{IsSound}
use Rattle.wm_tree.specs.TreeValue.{TreeValue, digit, opening, opening_outputs, output_part, space_part}
use Rattle.wm_tree.specs.Words.{edited}

-- one where the node is an output of this name
abbrev pub outputs_called : List ℕ → NodeKind → ℕ
outputs_called n kind = cond (output_called n (output_kind kind)) 1 0

abbrev is_called : List ℕ → Part → Bool
is_called n p = output_called n (output_kind p.kind)

abbrev name_by : Option OutputPart → Option (List ℕ)
name_by o = option_map (λ (p : OutputPart). p.name) o

called_name : (n : List ℕ) (o : Option OutputPart) → output_called n o ≡ true → name_by o ≡ Some n
called_name n None h = cc
called_name n (Some s) h = ap (λ z. Some z) ((bytes_eq-Decides s.name n).0 h)

called_by : (n : List ℕ) (o : Option OutputPart) → name_by o ≡ Some n → output_called n o ≡ true
called_by n None h = cc
called_by n (Some s) h = let e : s.name ≡ n = cc in (bytes_eq-Decides s.name n).1 e

-- ---- names that differ, counted

-- the node under the id u is found as an output of the name
record IsBearer (n : List ℕ) (u : ConId) (f : Forest) (part : Part) : Type 0 where
  is : part.id ≡ u
  named : is_called n part ≡ true
  first : first_part (only part.id f) ≡ Some part

record Bearer (n : List ℕ) (u : ConId) (f : Forest) : Type 0 where
  part : Part
  bears : IsBearer n u f part

bearer : (n : List ℕ) (u : ConId) (f : Forest) → name_by (kind_by output_kind (first_part (only u f))) ≡ Some n → Bearer n u f
bearer n u f h = by (only u f) refl (first_found u f) h
  where
    by : (g : Forest) → only u f ≡ g → IsFirst u g → name_by (kind_by output_kind (first_part g)) ≡ Some n → Bearer n u f
    by end e i h = cc
    by (con part kids floats rest) e i h =
        let one : part.id ≡ u = same_is part.id u i in
        record { part = part; bears = record { is = one; named = called_by n (output_kind part.kind) h; first = ap (λ z. first_part (only z f)) one ∙ ap first_part e } }

-- an output of the row is found in the tree as in its row
row_name : (n : List ℕ) (u : ConId) (t : TreeValue) → IsSound t → output_name u t ≡ Some n → name_by (kind_by output_kind (first_part (only u t.nodes))) ≡ Some n
row_name n u t s h = ap (λ z. name_by (kind_by output_kind z)) (row_first u t s (stands (first_kids t.nodes) h)) ∙ h
  where
    stands : (row : Forest) → name_in u row ≡ Some n → in_row u row ≡ true
    stands end h = cc
    stands (con part kids floats rest) h = step (same part.id u) h (stands rest)
      where
        step : (b : Bool) → name_by (kind_by output_kind (first_part (cond b (con part kids floats rest) (node_in u rest)))) ≡ Some n → (name_in u rest ≡ Some n → in_row u rest ≡ true) → (b || in_row u rest) ≡ true
        step true h ih = refl
        step false h ih = ih h

pub differ_of : (t : TreeValue) → IsSound t → AtMostOne outputs_called t → OutputNamesDiffer t
differ_of t s p v w n ev ew = step (same v w) refl
  where
    step : (b : Bool) → same v w ≡ b → v ≡ w
    step true e = same_is v w e
    step false e =
        let x : Bearer n v t.nodes = bearer n v t.nodes (row_name n v t s ev) in
        let y : Bearer n w t.nodes = bearer n w t.nodes (row_name n w t s ew) in
        let apart : same x.part.id y.part.id ≡ false = ap (λ z. same z y.part.id) x.bears.is ∙ (ap (λ z. same v z) y.bears.is ∙ e) in
        let two : 2 ≤ count (one_if (is_called n)) t.nodes = two_counted (is_called n) x.part y.part t.nodes x.bears.named x.bears.first y.bears.named y.bears.first apart in
        let one : count (one_if (is_called n)) t.nodes ≤ 1 = p.one n in
        absurd (omega (arith, two, one))

name_of : (n : List ℕ) (t : TreeValue) → IsSound t → (x : Found (is_called n) t.nodes) → output_name x.part.id t ≡ Some n
name_of n t s x =
    let name : name_by (output_kind x.part.kind) ≡ Some n = called_name n (output_kind x.part.kind) x.passes in
    let stands : in_row x.part.id (first_kids t.nodes) ≡ true = outputs_in_row x.part.id x.part t s x.first (some (output_kind x.part.kind) name) in
    ap (λ z. name_by (kind_by output_kind z)) (sym (row_first x.part.id t s stands) ∙ x.first) ∙ name
  where
    some : (o : Option OutputPart) → name_by o ≡ Some n → o ≡ None → ⊥
    some None h e = cc
    some (Some p) h e = cc

pub once_of : (t : TreeValue) → IsSound t → OutputNamesDiffer t → AtMostOne outputs_called t
once_of t s differ = record { one = λ n. at_most_one (is_called n) t.nodes s.once (λ x y. differ x.part.id y.part.id n (name_of n t s x) (name_of n t s y)) }

-- ---- the words

changed_called : (n : List ℕ) (edit : KindEdit) (kind : NodeKind) → outputs_called n (changed edit kind) ≡ outputs_called n kind
changed_called n edit (Root c) = by_edit edit
  where
    by_edit : (e : KindEdit) → outputs_called n (changed e (Root c)) ≡ outputs_called n (Root c)
    by_edit (edits.Current o) = refl
    by_edit other = refl
changed_called n edit (Output o) = by_edit edit
  where
    by_edit : (e : KindEdit) → outputs_called n (changed e (Output o)) ≡ outputs_called n (Output o)
    by_edit (edits.Shown w) = refl
    by_edit other = refl
changed_called n edit (Space s) = by_edit edit
  where
    by_edit : (e : KindEdit) → outputs_called n (changed e (Space s)) ≡ outputs_called n (Space s)
    by_edit (edits.Name m) = refl
    by_edit other = refl
changed_called n edit (Con c) = by_edit edit
  where
    by_edit : (e : KindEdit) → outputs_called n (changed e (Con c)) ≡ outputs_called n (Con c)
    by_edit (edits.State s) = refl
    by_edit other = refl

pub outputs_placed : (n : List ℕ) → IsOfPlaces (outputs_called n)
outputs_placed n = record { root = λ c. refl; inner = λ c. refl; edited = λ edit kind h. changed_called n edit kind }

names_keep : NewNamesKeep (AtMostOne outputs_called)
names_keep was name w t s fits is =
    alike outputs_called outputs_placed t (edited w (edits.Name name) t)
    (λ n. count-same (by_kind (outputs_called n)) w kind_changed (edits.Name name) (λ part kids floats rest. omega (arith, changed_called n (edits.Name name) part.kind)) t.nodes)

spaces_keep : NewSpacesKeep (AtMostOne outputs_called)
spaces_keep o name t s out after free =
    alike outputs_called outputs_placed t (with_space o name t) (λ n. put_none (by_kind (outputs_called n)) (Last o) (new_space (id t.next_id) name t) t.nodes refl)

pub outputs_last : Lasts (AtMostOne outputs_called)
outputs_last = counts_last outputs_called outputs_placed names_keep spaces_keep (λ plan t s fine after p. once_of (output_added_tree plan t) after ((adds_other plan t s fine).1 (differ_of t s p)))

-- ---- the opening tree

head_name : (o : ConId) (k last inner outer : ℕ) (plan : OutputPlan) (plans : List OutputPlan)
    → name_in o (opening_outputs k last inner outer (plan ∷ plans)) ≡ cond (same (id (k + 1)) o) (Some plan.name) (name_in o (opening_outputs (k + 1) last inner outer plans))
head_name o k last inner outer plan plans = step (same (id (k + 1)) o)
  where
    row : Forest
    row = opening_outputs (k + 1) last inner outer plans

    step : (b : Bool) → name_by (kind_by output_kind (first_part (cond b (con (output_part (id (k + 1)) plan (id (last + k))) (con (space_part (id (last + k)) (digit k) inner outer) end end end) end row) (node_in o row))))
        ≡ cond b (Some plan.name) (name_in o row)
    step true = refl
    step false = refl

row_taken : (n : List ℕ) (o : ConId) (k last inner outer : ℕ) (plans : List OutputPlan) → name_in o (opening_outputs k last inner outer plans) ≡ Some n → is_taken n plans ≡ true
row_taken n o k last inner outer [] h = cc
row_taken n o k last inner outer (plan ∷ plans) h = step (same (id (k + 1)) o) (sym (head_name o k last inner outer plan plans) ∙ h) (row_taken n o (k + 1) last inner outer plans)
  where
    row : Forest
    row = opening_outputs (k + 1) last inner outer plans

    behind : (a b : Bool) → b ≡ true → (a || b) ≡ true
    behind true b h = refl
    behind false b h = h

    step : (b : Bool) → cond b (Some plan.name) (name_in o row) ≡ Some n → (name_in o row ≡ Some n → is_taken n plans ≡ true) → (bytes_eq plan.name n || is_taken n plans) ≡ true
    step true h ih = let e : plan.name ≡ n = cc in rw ((bytes_eq-Decides plan.name n).1 e) refl
    step false h ih = behind (bytes_eq plan.name n) (is_taken n plans) (ih h)

row_differs : (k last inner outer : ℕ) (plans : List OutputPlan) → NamesDiffer plans → (o p : ConId) (n : List ℕ) → name_in o (opening_outputs k last inner outer plans) ≡ Some n → name_in p (opening_outputs k last inner outer plans) ≡ Some n → o ≡ p
row_differs k last inner outer [] d o p n eo ep = cc
row_differs k last inner outer (plan ∷ plans) d o p n eo ep =
    by (same (id (k + 1)) o) refl (same (id (k + 1)) p) refl (sym (head_name o k last inner outer plan plans) ∙ eo) (sym (head_name p k last inner outer plan plans) ∙ ep) (row_differs (k + 1) last inner outer plans d.1 o p n)
  where
    row : Forest
    row = opening_outputs (k + 1) last inner outer plans

    mixed : (q : ConId) → Some plan.name ≡ Some n → name_in q row ≡ Some n → ⊥
    mixed q mine h =
        let e : plan.name ≡ n = cc in
        let taken : is_taken plan.name plans ≡ true = subst (λ z. is_taken z plans ≡ true) (sym e) (row_taken n q (k + 1) last inner outer plans h) in
        cc (taken, d.0)

    by : (a : Bool) → same (id (k + 1)) o ≡ a → (b : Bool) → same (id (k + 1)) p ≡ b → cond a (Some plan.name) (name_in o row) ≡ Some n → cond b (Some plan.name) (name_in p row) ≡ Some n
        → (name_in o row ≡ Some n → name_in p row ≡ Some n → o ≡ p) → o ≡ p
    by true ha true hb eo ep ih = sym (same_is (id (k + 1)) o ha) ∙ same_is (id (k + 1)) p hb
    by true ha false hb eo ep ih = absurd (mixed p eo ep)
    by false ha true hb eo ep ih = absurd (mixed o ep eo)
    by false ha false hb eo ep ih = ih eo ep

pub opening_differs : (plans : List OutputPlan) (border : Border) (inner outer : ℕ) → NamesDiffer plans → OutputNamesDiffer (opening plans border inner outer)
opening_differs plans border inner outer d = row_differs 1 _ inner outer plans d
