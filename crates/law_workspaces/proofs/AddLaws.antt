-- The names of outputs differ after one came.
use Rattle.std.proofs.Common.{◌≡◌, ℕ, ◌+◌, Bool, true, false, cond, ◌||◌, List, Option, None, Some, refl, ap, sym, ◌∙◌, arith}
use Rattle.std.specs.Prelude.{is_some}
use Rattle.std.specs.Option.{option_map}
use Rattle.std.proofs.lemmas.Slice.Eq.{bytes_eq-Decides}
use Rattle.wm_base.specs.declared.errors.Refusal.{Refusal}
use Rattle.wm_base.specs.declared.errors.Refusal.TheVariants.{NameTaken}
use Rattle.wm_base.specs.declared.ids.ConId.{ConId}
use Rattle.wm_base.specs.declared.plan.OutputPlan.{OutputPlan}
use Rattle.law_workspaces.specs.Added.{AddsOther, OutputNamesDiffer, name_in, output_name}
use Rattle.wm_shared.specs.Refusing.{full_error}
use Rattle.wm_spaces.specs.Coming.{free_name, output_added_refusal, output_added_tree}
use Rattle.wm_spaces.specs.Names.{output_called, output_in_row, output_named}
use Rattle.wm_tree.proofs.AttachLemmas.{has_row}
use Rattle.wm_tree.proofs.FocusLemmas.{has_kids}
use Rattle.wm_forest.proofs.CountLemmas.{counted}
use Rattle.wm_forest.proofs.RecencyLemmas.{same_is, same_self}
use Rattle.wm_forest.specs.Change.{append}
use Rattle.wm_forest.specs.declared.part.NodeKind.{NodeKind}
use Rattle.wm_forest.specs.declared.part.NodeKind.TheVariants.{Root, Output, Space, Con}
use Rattle.wm_forest.specs.declared.part.OutputPart.{OutputPart}
use Rattle.wm_forest.specs.declared.place.Place.TheVariants.{Last}
use Rattle.wm_forest.specs.Forest.{Forest, end, con}
use Rattle.wm_forest.specs.Look.{first_kids, first_part, in_row, kind_by, node_in, output_kind, same}
use Rattle.wm_forest.specs.Place.{put}
use Rattle.wm_forest.specs.RootId.{id, root}
use Rattle.wm_forest.specs.SoundRow.{IsNode, IsSoundRow, roots, tally}
use Rattle.wm_tree.specs.Outputs.{new_output, passed_by_output}
use Rattle.wm_tree.specs.Sound.{IsSound}
use Rattle.wm_tree.specs.TreeValue.{TreeValue}

abbrev name_by : Option OutputPart → Option (List ℕ)
name_by o = option_map (λ (p : OutputPart). p.name) o

-- what comes last in the root comes last among the outputs
comes_last : (row f : Forest) → IsSoundRow roots false 0 f → in_row root f ≡ true → first_kids (put (Last root) row f) ≡ append (first_kids f) row
comes_last row end p h = cc
comes_last row (con part kids floats rest) p h = rw (same_self part.id root (by part.kind p.0)) refl
  where
    by : (kind : NodeKind) → IsNode roots false 0 part.id kind part.marks kids → part.id ≡ root
    by (Root c) n = n.0
    by (Output o) n = absurd n
    by (Space w) n = absurd n
    by (Con c) n = absurd n

name_append : (o : ConId) (a b : Forest) → name_in o (append a b) ≡ cond (in_row o a) (name_in o a) (name_in o b)
name_append o end b = refl
name_append o (con part kids floats rest) b = step (same part.id o) (name_append o rest b)
  where
    step : (x : Bool) → name_in o (append rest b) ≡ cond (in_row o rest) (name_in o rest) (name_in o b)
        → name_by (kind_by output_kind (first_part (cond x (con part kids floats (append rest b)) (node_in o (append rest b)))))
        ≡ cond (x || in_row o rest) (name_by (kind_by output_kind (first_part (cond x (con part kids floats rest) (node_in o rest))))) (name_in o b)
    step true e = refl
    step false e = e

called_by : (n : List ℕ) (o : Option OutputPart) → name_by o ≡ Some n → output_called n o ≡ true
called_by n None h = cc
called_by n (Some p) h = let e : p.name ≡ n = cc in (bytes_eq-Decides p.name n).1 e

-- where no output of a row is found by a name, none has it
none_named : (n : List ℕ) (o : ConId) (row : Forest) → output_in_row n row ≡ None → name_in o row ≡ Some n → ⊥
none_named n o end e h = cc
none_named n o (con part kids floats rest) e h = step (output_called n (output_kind part.kind)) refl (same part.id o) e h (none_named n o rest)
  where
    step : (c : Bool) → output_called n (output_kind part.kind) ≡ c → (x : Bool) → cond c (Some part.id) (output_in_row n rest) ≡ None
        → name_by (kind_by output_kind (first_part (cond x (con part kids floats rest) (node_in o rest)))) ≡ Some n → (output_in_row n rest ≡ None → name_in o rest ≡ Some n → ⊥) → ⊥
    step true d x e h ih = cc
    step false d true e h ih = let called = called_by n (output_kind part.kind) h in cc
    step false d false e h ih = ih e h

new_name : (c o v : ConId) (plan : OutputPlan) (first n : List ℕ) (t : TreeValue) → name_in o (new_output c plan v first t) ≡ Some n → (c ≡ o) × (plan.name ≡ n)
new_name c o v plan first n t h = step (same c o) refl h
  where
    step : (x : Bool) → same c o ≡ x → name_by (kind_by output_kind (first_part (cond x (new_output c plan v first t) end))) ≡ Some n → (c ≡ o) × (plan.name ≡ n)
    step true e h = (same_is c o e, cc)
    step false e h = cc

free_of : (o : Option ConId) (rest : Option Refusal) → cond (is_some o) (Some NameTaken) rest ≡ None → o ≡ None
free_of None rest h = refl
free_of (Some p) rest h = cc

others_differ : (plan : OutputPlan) (t : TreeValue) → IsSound t → output_added_refusal plan t ≡ None → OutputNamesDiffer t → OutputNamesDiffer (output_added_tree plan t)
others_differ plan t s fine d o p n eo ep =
    by (in_row o (first_kids t.nodes)) (in_row p (first_kids t.nodes)) (seen o eo) (seen p ep)
  where
    new : Forest
    new = new_output (id t.next_id) plan (id (t.next_id + 1)) (free_name t) t

    seen : (x : ConId) → name_in x (first_kids (put (Last root) new t.nodes)) ≡ Some n → cond (in_row x (first_kids t.nodes)) (name_in x (first_kids t.nodes)) (name_in x new) ≡ Some n
    seen x e = sym (name_append x (first_kids t.nodes) new) ∙ (ap (name_in x) (sym (comes_last new t.nodes s.shaped s.rooted)) ∙ e)

    free : output_in_row plan.name (first_kids t.nodes) ≡ None
    free = free_of (output_named plan.name t) (full_error (passed_by_output t.nodes t.next_id)) fine

    mixed : (x y : ConId) → name_in x (first_kids t.nodes) ≡ Some n → name_in y new ≡ Some n → ⊥
    mixed x y ex ey =
        let mine = new_name (id t.next_id) y (id (t.next_id + 1)) plan (free_name t) n t ey in
        none_named plan.name x (first_kids t.nodes) free (ex ∙ ap (λ z. Some z) (sym mine.1))

    by : (a b : Bool) → cond a (name_in o (first_kids t.nodes)) (name_in o new) ≡ Some n → cond b (name_in p (first_kids t.nodes)) (name_in p new) ≡ Some n → o ≡ p
    by true true x y = d o p n x y
    by true false x y = absurd (mixed o p x y)
    by false true x y = absurd (mixed p o y x)
    by false false x y =
        let one = new_name (id t.next_id) o (id (t.next_id + 1)) plan (free_name t) n t x in
        let two = new_name (id t.next_id) p (id (t.next_id + 1)) plan (free_name t) n t y in
        sym one.0 ∙ two.0

-- the id of the new output is that of no other
new_row : (t : TreeValue) → IsSound t → in_row (id t.next_id) (first_kids t.nodes) ≡ false
new_row t s = by (in_row (id t.next_id) (first_kids t.nodes)) refl
  where
    by : (b : Bool) → in_row (id t.next_id) (first_kids t.nodes) ≡ b → in_row (id t.next_id) (first_kids t.nodes) ≡ false
    by false e = e
    by true e =
        let none : tally (id t.next_id) t.nodes ≡ 0 = s.fresh (id t.next_id) (omega arith) in
        absurd (omega (arith, none, counted (id t.next_id) t.nodes (has_kids (id t.next_id) t.nodes (has_row (id t.next_id) (first_kids t.nodes) e))))

new_named : (plan : OutputPlan) (t : TreeValue) → IsSound t → output_name (id t.next_id) (output_added_tree plan t) ≡ Some plan.name
new_named plan t s =
    ap (name_in (id t.next_id)) (comes_last new t.nodes s.shaped s.rooted)
    ∙ (name_append (id t.next_id) (first_kids t.nodes) new
    ∙ (ap (λ b. cond b (name_in (id t.next_id) (first_kids t.nodes)) (name_in (id t.next_id) new)) (new_row t s) ∙ own))
  where
    new : Forest
    new = new_output (id t.next_id) plan (id (t.next_id + 1)) (free_name t) t

    own : name_in (id t.next_id) (new_output (id t.next_id) plan (id (t.next_id + 1)) (free_name t) t) ≡ Some plan.name
    own = rw (same_self (id t.next_id) (id t.next_id) refl) refl

pub adds_other : AddsOther
adds_other plan t s fine = (new_named plan t s, others_differ plan t s fine)
