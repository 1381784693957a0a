-- The names of workspaces differ where at most one workspace is counted of each name: each word keeps that.
use Rattle.std.proofs.Common.{◌≡◌, ℕ, ◌+◌, ◌<◌, ◌≤◌, Bool, true, false, cond, ◌⊎◌, inl, inr, List, [], ◌∷◌, length, Option, None, Some, refl, ap, sym, ◌∙◌, subst, arith}
use Rattle.std.specs.Str.{bytes_eq}
use Rattle.std.proofs.lemmas.Slice.Eq.{bytes_eq-Decides}
use Rattle.wm_base.specs.declared.ids.ConId.{ConId}
use Rattle.wm_base.specs.declared.plan.Border.{Border}
use Rattle.wm_base.specs.declared.plan.OutputPlan.{OutputPlan}
use Rattle.law_fullscreen.proofs.HasOneLemmas.{IsFirst, first_found}
use Rattle.law_names.proofs.FoundLemmas.{Found, at_most_one, found, one_if, two_counted}
use Rattle.law_lasting.proofs.FreeNames.{new_name_free, spaces_called}
use Rattle.law_names.proofs.LastCounts.{AtMostOne, NewNamesKeep, NewSpacesKeep, counts_last}
use Rattle.law_names.proofs.WordCounts.{IsOfPlaces, by_kind, is_name}
use Rattle.law_lasting.specs.Lasting.{Lasts}
use Rattle.law_workspaces.proofs.FoundNames.{found_named}
use Rattle.law_workspaces.proofs.NameLemmas.{name_by, seen}
use Rattle.law_workspaces.proofs.RenameLaws.{renames}
use Rattle.law_workspaces.specs.Renamed.{SpaceNamesDiffer}
use Rattle.wm_opens.proofs.SureSpaces.{sure_renamed}
use Rattle.wm_opens.proofs.WordLemmas.{put_most}
use Rattle.wm_shared.specs.Showing.{space_name}
use Rattle.wm_spaces.specs.Coming.{free_name, output_added_tree}
use Rattle.wm_spaces.specs.Names.{space_called, space_named}
use Rattle.wm_spaces.specs.Renaming.{renamed}
use Rattle.wm_forest.proofs.RecencyLemmas.{same_is}
use Rattle.wm_forest.specs.Counts.{count}
use Rattle.wm_forest.specs.declared.kind.KindEdit.{KindEdit}
use Rattle.wm_forest.specs.declared.kind.KindEdit.TheVariants as edits
use Rattle.wm_forest.specs.declared.part.NodeKind.{NodeKind}
use Rattle.wm_forest.specs.declared.part.NodeKind.TheVariants.{Root, Output, Space, Con}
use Rattle.wm_forest.specs.declared.part.Part.{Part}
use Rattle.wm_forest.specs.declared.part.SpacePart.{SpacePart}
use Rattle.wm_forest.specs.declared.place.Place.TheVariants.{Last}
use Rattle.wm_forest.specs.Forest.{Forest, end, con}
use Rattle.wm_forest.specs.Kinds.{changed}
use Rattle.wm_forest.specs.Look.{first_part, kind_by, only, same, space_kind}
use Rattle.wm_forest.specs.RootId.{id, root}
use Rattle.wm_tree.specs.Outputs.{new_output, new_space}
use Rattle.wm_tree.specs.Sound.{IsSound}
use Rattle.wm_tree.specs.TreeValue.{TreeValue, digit, opening, opening_outputs}

-- the node is a workspace of this name
abbrev is_called : List ℕ → Part → Bool
is_called n p = space_called n (space_kind p.kind)

called_name : (n : List ℕ) (o : Option SpacePart) → space_called n o ≡ true → name_by o ≡ Some n
called_name n None h = cc
called_name n (Some s) h = ap (λ z. Some z) ((bytes_eq-Decides s.name n).0 h)

called_by : (n : List ℕ) (o : Option SpacePart) → name_by o ≡ Some n → space_called n o ≡ true
called_by n None h = cc
called_by n (Some s) h = let e : s.name ≡ n = cc in (bytes_eq-Decides s.name n).1 e

-- ---- names that differ, counted

-- the node under the id u is found as a workspace of the name
record IsBearer (n : List ℕ) (u : ConId) (f : Forest) (part : Part) : Type 0 where
  is : part.id ≡ u
  named : is_called n part ≡ true
  first : first_part (only part.id f) ≡ Some part

record Bearer (n : List ℕ) (u : ConId) (f : Forest) : Type 0 where
  part : Part
  bears : IsBearer n u f part

bearer : (n : List ℕ) (u : ConId) (f : Forest) → name_by (seen u f) ≡ Some n → Bearer n u f
bearer n u f h = by (only u f) refl (first_found u f) h
  where
    by : (g : Forest) → only u f ≡ g → IsFirst u g → name_by (kind_by space_kind (first_part g)) ≡ Some n → Bearer n u f
    by end e i h = cc
    by (con part kids floats rest) e i h =
        let one : part.id ≡ u = same_is part.id u i in
        record { part = part; bears = record { is = one; named = called_by n (space_kind part.kind) h; first = ap (λ z. first_part (only z f)) one ∙ ap first_part e } }

pub differ_of : (t : TreeValue) → AtMostOne spaces_called t → SpaceNamesDiffer t
differ_of t p v w n ev ew = step (same v w) refl
  where
    step : (b : Bool) → same v w ≡ b → v ≡ w
    step true e = same_is v w e
    step false e =
        let x : Bearer n v t.nodes = bearer n v t.nodes ev in
        let y : Bearer n w t.nodes = bearer n w t.nodes ew in
        let apart : same x.part.id y.part.id ≡ false = ap (λ z. same z y.part.id) x.bears.is ∙ (ap (λ z. same v z) y.bears.is ∙ e) in
        let two : 2 ≤ count (one_if (is_called n)) t.nodes = two_counted (is_called n) x.part y.part t.nodes x.bears.named x.bears.first y.bears.named y.bears.first apart in
        let one : count (one_if (is_called n)) t.nodes ≤ 1 = p.one n in
        absurd (omega (arith, two, one))

name_of : (n : List ℕ) (t : TreeValue) (x : Found (is_called n) t.nodes) → space_name x.part.id t ≡ Some n
name_of n t x = ap (λ o. name_by (kind_by space_kind o)) x.first ∙ called_name n (space_kind x.part.kind) x.passes

pub once_of : (t : TreeValue) → IsSound t → SpaceNamesDiffer t → AtMostOne spaces_called t
once_of t s differ = record { one = λ n. at_most_one (is_called n) t.nodes s.once (λ x y. differ x.part.id y.part.id n (name_of n t x) (name_of n t y)) }

-- ---- the words

changed_called : (n : List ℕ) (edit : KindEdit) (kind : NodeKind) → is_name edit ≡ false → spaces_called n (changed edit kind) ≡ spaces_called n kind
changed_called n (edits.Name m) kind h = cc
changed_called n other (Root c) h = refl
changed_called n other (Output o) h = refl
changed_called n other (Space s) h = refl
changed_called n other (Con c) h = refl

pub spaces_placed : (n : List ℕ) → IsOfPlaces (spaces_called n)
spaces_placed n = record { root = λ c. refl; inner = λ c. refl; edited = changed_called n }

-- a name that finds none is none's
none_called : (n : List ℕ) (t : TreeValue) → IsSound t → AtMostOne spaces_called t → space_named n t ≡ None → count (by_kind (spaces_called n)) t.nodes ≡ 0
none_called n t s p free = step (found (is_called n) t.nodes s.once)
  where
    step : (count (one_if (is_called n)) t.nodes ≡ 0) ⊎ Found (is_called n) t.nodes → count (by_kind (spaces_called n)) t.nodes ≡ 0
    step (inl e) = e
    step (inr x) = let bad : space_named n t ≡ Some x.part.id = found_named n x.part.id t s (differ_of t p) (name_of n t x) in absurd (cc (bad, free))

-- of a tree with one more workspace, whose name no other one has, at most one is counted
one_more : (name : List ℕ) (t new : TreeValue) → IsSound t → space_named name t ≡ None → AtMostOne spaces_called t
    → ((n : List ℕ) → count (by_kind (spaces_called n)) new.nodes ≤ count (by_kind (spaces_called n)) t.nodes + cond (bytes_eq name n) 1 0) → AtMostOne spaces_called new
one_more name t new s free p most = record { one = λ n. by n (bytes_eq name n) refl (most n) }
  where
    by : (n : List ℕ) (b : Bool) → bytes_eq name n ≡ b → count (by_kind (spaces_called n)) new.nodes ≤ count (by_kind (spaces_called n)) t.nodes + cond b 1 0 → count (by_kind (spaces_called n)) new.nodes ≤ 1
    by n true e h =
        let none : count (by_kind (spaces_called n)) t.nodes ≡ 0 = subst (λ z. count (by_kind (spaces_called z)) t.nodes ≡ 0) ((bytes_eq-Decides name n).0 e) (none_called name t s p free) in
        omega (arith, none, h)
    by n false e h = omega (arith, p.one n, h)

names_keep : NewNamesKeep (AtMostOne spaces_called)
names_keep was name w t s fits is p =
    let now : SpaceNamesDiffer (renamed (Some w) name t) = subst (λ o. SpaceNamesDiffer (renamed o name t)) is ((renames was name w t s fits is).differ (differ_of t p)) in
    once_of (renamed (Some w) name t) (sure_renamed (Some w) name t s).sound now

spaces_keep : NewSpacesKeep (AtMostOne spaces_called)
spaces_keep o name t s out after free p = one_more name t _ s free p (λ n. omega (arith, put_most (by_kind (spaces_called n)) (Last o) (new_space (id t.next_id) name t) t.nodes))

-- an output that comes
pub added_keeps : (plan : OutputPlan) (t : TreeValue) → IsSound t → AtMostOne spaces_called t → AtMostOne spaces_called (output_added_tree plan t)
added_keeps plan t s p =
    one_more (free_name t) t (output_added_tree plan t) s (new_name_free t s) p
    (λ n. omega (arith, put_most (by_kind (spaces_called n)) (Last root) (new_output (id t.next_id) plan (id (t.next_id + 1)) (free_name t) t) t.nodes))

pub spaces_last : Lasts (AtMostOne spaces_called)
spaces_last = counts_last spaces_called spaces_placed names_keep spaces_keep (λ plan t s fine after p. added_keeps plan t s p)

-- ---- the opening tree

none_open : (n : List ℕ) (j k last inner outer : ℕ) (plans : List OutputPlan) → digit j ≡ n → j < k → count (by_kind (spaces_called n)) (opening_outputs k last inner outer plans) ≡ 0
none_open n j k last inner outer [] e less = refl
none_open n j k last inner outer (plan ∷ plans) e less = step (bytes_eq (digit k) n) refl (none_open n j (k + 1) last inner outer plans e (omega (arith, less)))
  where
    step : (b : Bool) → bytes_eq (digit k) n ≡ b → count (by_kind (spaces_called n)) (opening_outputs (k + 1) last inner outer plans) ≡ 0
        → 0 + (cond b 1 0 + 0 + 0 + 0) + 0 + count (by_kind (spaces_called n)) (opening_outputs (k + 1) last inner outer plans) ≡ 0
    step true h none =
        let same_text : digit j ≡ digit k = e ∙ sym ((bytes_eq-Decides (digit k) n).0 h) in
        let same_number : 48 + j ≡ 48 + k = cc in
        absurd (omega (arith, same_number, less))
    step false h none = omega (arith, none)

one_open : (n : List ℕ) (k last inner outer : ℕ) (plans : List OutputPlan) → count (by_kind (spaces_called n)) (opening_outputs k last inner outer plans) ≤ 1
one_open n k last inner outer [] = omega arith
one_open n k last inner outer (plan ∷ plans) = step (bytes_eq (digit k) n) refl (one_open n (k + 1) last inner outer plans)
  where
    step : (b : Bool) → bytes_eq (digit k) n ≡ b → count (by_kind (spaces_called n)) (opening_outputs (k + 1) last inner outer plans) ≤ 1
        → 0 + (cond b 1 0 + 0 + 0 + 0) + 0 + count (by_kind (spaces_called n)) (opening_outputs (k + 1) last inner outer plans) ≤ 1
    step true h less =
        let none : count (by_kind (spaces_called n)) (opening_outputs (k + 1) last inner outer plans) ≡ 0 = none_open n k (k + 1) last inner outer plans ((bytes_eq-Decides (digit k) n).0 h) (omega arith) in
        omega (arith, none)
    step false h less = omega (arith, less)

pub opening_differs : (plans : List OutputPlan) (border : Border) (inner outer : ℕ) → SpaceNamesDiffer (opening plans border inner outer)
opening_differs plans border inner outer = differ_of (opening plans border inner outer) (record { one = λ n. omega (arith, one_open n 1 (1 + length plans) inner outer plans) })
