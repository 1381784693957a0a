-- Laws of marks.
use Rattle.std.proofs.Common.{◌≡◌, ℕ, Bool, true, false, cond, List, Option, None, Some, refl, ap, ◌∙◌}
use Rattle.std.specs.Option.{option_or}
use Rattle.wm_base.specs.declared.ids.ConId.{ConId}
use Rattle.wm_tree.proofs.BearerLemmas.{bearer_marks, none_other}
use Rattle.wm_tree.proofs.MarkForests.{has_off}
use Rattle.wm_focus.specs.Laws.{FindsMarked, NoOtherHasIt, NoneIsLeft}
use Rattle.wm_focus.specs.Marks.{bare, bearer, bears, kept_marks, taken_off, with_mark}
use Rattle.wm_forest.proofs.RecencyLemmas.{same_is}
use Rattle.wm_forest.specs.Change.{at}
use Rattle.wm_forest.specs.Forest.{Forest, end, con}
use Rattle.wm_forest.specs.Look.{first_marks, has, only, same}
use Rattle.wm_tree.specs.Move.{marks_in}
use Rattle.wm_forest.specs.Marks.{marks_word}

-- where none is found none has the mark
bearer_none : (n : List ℕ) (c : ConId) (f : Forest) → bearer None n f ≡ None → bears n (marks_in c f) ≡ false
bearer_none n c end h = refl
bearer_none n c (con part kids floats rest) h =
    step (bears n part.marks) (bearer None n kids) (bearer None n floats) (same part.id c) (has c kids) (has c floats) refl refl refl (bearer_none n c kids) (bearer_none n c floats) (bearer_none n c rest) h
  where
    step : (b : Bool) (x y : Option ConId) (s k l : Bool) → bears n part.marks ≡ b → bearer None n kids ≡ x → bearer None n floats ≡ y → (bearer None n kids ≡ None → bears n (marks_in c kids) ≡ false)
        → (bearer None n floats ≡ None → bears n (marks_in c floats) ≡ false) → (bearer None n rest ≡ None → bears n (marks_in c rest) ≡ false) → cond b (Some part.id) (option_or x (option_or y (bearer None n rest))) ≡ None
        → bears n (first_marks (cond s (con part kids floats end) (cond k (only c kids) (cond l (only c floats) (only c rest))))) ≡ false
    step true x y s k l eb p q u v w h = cc
    step false (Some i) y s k l eb p q u v w h = cc
    step false None (Some i) s k l eb p q u v w h = cc
    step false None None true k l eb p q u v w h = eb
    step false None None false true l eb p q u v w h = u p
    step false None None false false true eb p q u v w h = v q
    step false None None false false false eb p q u v w h = w h

pub finds_marked : FindsMarked
finds_marked n t s = (λ c h. bearer_marks None n t.nodes c s.once h, λ h c. bearer_none n c t.nodes h)

-- a mark that is taken off all nodes but one is on no other
off_others : (c other : ConId) (n : List ℕ) (f : Forest) → same other c ≡ false → bears n (marks_in other (taken_off (Some c) n f)) ≡ false
off_others c other n end apart = refl
off_others c other n (con part kids floats rest) apart =
    by (same part.id other) (same part.id c) (has other kids) (has other floats) refl refl refl refl (off_others c other n kids apart) (off_others c other n floats apart) (off_others c other n rest apart)
  where
    by : (a d k l : Bool) → same part.id other ≡ a → same part.id c ≡ d → has other kids ≡ k → has other floats ≡ l → bears n (marks_in other (taken_off (Some c) n kids)) ≡ false
        → bears n (marks_in other (taken_off (Some c) n floats)) ≡ false → bears n (marks_in other (taken_off (Some c) n rest)) ≡ false → bears n (marks_in other (taken_off (Some c) n (con part kids floats rest))) ≡ false
    by true d k l ea ed ek el p q r =
        let another : same part.id c ≡ false = ap (λ i. same i c) (same_is part.id other ea) ∙ apart in
        simp (another, ea) (none_other n part.marks)
    by false true true l ea ed ek el p q r = simp (ed, ea, has_off other (Some c) n kids, ek) p
    by false false true l ea ed ek el p q r = simp (ed, ea, has_off other (Some c) n kids, ek) p
    by false true false true ea ed ek el p q r = simp (ed, ea, has_off other (Some c) n kids, ek, has_off other (Some c) n floats, el) q
    by false false false true ea ed ek el p q r = simp (ed, ea, has_off other (Some c) n kids, ek, has_off other (Some c) n floats, el) q
    by false true false false ea ed ek el p q r = simp (ed, ea, has_off other (Some c) n kids, ek, has_off other (Some c) n floats, el) r
    by false false false false ea ed ek el p q r = simp (ed, ea, has_off other (Some c) n kids, ek, has_off other (Some c) n floats, el) r

pub no_other : NoOtherHasIt
no_other c other n add t apart = off_others c other n (at c marks_word (with_mark n (kept_marks n add (marks_in c t.nodes))) t.nodes) apart

none_bare : (n : List ℕ) (f : Forest) → bearer None n (bare f) ≡ None
none_bare n end = refl
none_bare n (con part kids floats rest) = simp (none_bare n kids, none_bare n floats) (none_bare n rest)

none_off : (n : List ℕ) (f : Forest) → bearer None n (taken_off None n f) ≡ None
none_off n end = refl
none_off n (con part kids floats rest) = simp (none_other n part.marks, none_off n kids, none_off n floats) (none_off n rest)

pub none_left : NoneIsLeft
none_left n t = (none_bare n t.nodes, none_off n t.nodes)
