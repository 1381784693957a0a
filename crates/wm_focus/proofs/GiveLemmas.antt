-- What giving a mark makes of a tree.
use Rattle.std.proofs.Common.{◌≡◌, ◌≢◌, ℕ, Bool, true, false, List, [], ◌∷◌, ◌++◌, None, Some, is_some, refl, ap, sym, ◌∙◌, subst}
use Rattle.wm_base.specs.declared.ids.ConId.{ConId}
use Rattle.wm_focus.proofs.MarkLists.{bears_that}
use Rattle.wm_focus.specs.Marks.{bears, cleared, freed, full_of_marks, give_refusal, given_mark, is_marked, kept_marks, taken_off, that_mark, with_mark}
use Rattle.wm_shared.specs.Refusing.{IsCause, refusal_by}
use Rattle.wm_shared.specs.Subject.{is_container}
use Rattle.wm_forest.proofs.ForestLemmas.{only_absent}
use Rattle.wm_tree.proofs.GivingLemmas.{given_last, marks_kept}
use Rattle.wm_tree.proofs.MarkForests.{kind_marks, kind_off, marks_off, marks_set, marks_twice, off_marks}
use Rattle.wm_tree.specs.declared.refusal.TreeRefusal.{TreeRefusal}
use Rattle.wm_tree.specs.declared.refusal.TreeRefusal.TheVariants.{Full, Missing, NoMemory}
use Rattle.wm_forest.specs.Change.{at}
use Rattle.wm_forest.specs.Forest.{Forest, end}
use Rattle.wm_forest.specs.Look.{con_kind, first_part, has, kind_by, kind_of}
use Rattle.wm_tree.specs.Marks.{IsGivingCause, all_or_none, is_full_for, only_mark}
use Rattle.wm_tree.specs.Move.{is_full_of_marks, marked, marks_in, with_marks}
use Rattle.wm_forest.specs.Marks.{marks_word}
use Rattle.wm_tree.specs.TreeValue.{TreeValue}

held_given : (c : ConId) (n : List ℕ) (t : TreeValue) → bears n (marks_in c t.nodes) ≡ true → t ≡ with_marks c (with_mark n (marks_in c t.nodes)) t
held_given c n t h =
    let own : with_mark n (marks_in c t.nodes) ≡ marks_in c t.nodes = simp h refl in
    sym (ap (λ ms. with_marks c ms t) own ∙ marks_kept c t)

-- ---- the same in another order

pub in_place : (c : ConId) (n : List ℕ) (add : Bool) (t : TreeValue) → has c t.nodes ≡ true → bears n (marks_in c t.nodes) ≡ false
    → marked c n (freed c n (with_marks c (all_or_none add (marks_in c t.nodes)) t)) ≡ given_mark c n add t
in_place c n add t there h =
    let ms : List (List ℕ) = all_or_none add (marks_in c t.nodes) in
    let f : Forest = t.nodes in
    let now : marks_in c (taken_off (Some c) n (at c marks_word ms f)) ≡ ms = marks_off c n (at c marks_word ms f) ∙ marks_set c ms f there in
    let new : with_mark n (kept_marks n add (marks_in c t.nodes)) ≡ ms ++ n ∷ [] = given_last n add (marks_in c t.nodes) h in
    ap (λ g. record t { nodes = g })
    (ap (λ l. at c marks_word (l ++ n ∷ []) (taken_off (Some c) n (at c marks_word ms f))) now
    ∙ ap (at c marks_word (ms ++ n ∷ [])) (off_marks c n ms f)
    ∙ marks_twice c (ms ++ n ∷ []) ms (taken_off (Some c) n f)
    ∙ sym (off_marks c n (ms ++ n ∷ []) f))
    ∙ ap (λ l. freed c n (with_marks c l t)) (sym new)

-- ---- what is given

pub container_there : (t : TreeValue) (c : ConId) → is_container t c ≡ true → has c t.nodes ≡ true
container_there t c h = by (has c t.nodes) refl where
  by : (b : Bool) → has c t.nodes ≡ b → has c t.nodes ≡ true
  by true e = e
  by false e =
      let P : Forest → Type 0 = λ f. is_some (kind_by con_kind (first_part f)) ≡ true in
      let none : P end = subst P (only_absent c t.nodes e) h in
      cc

-- the mark that c has, with all others of c or alone
pub given_all : (c : ConId) (n : List ℕ) (t : TreeValue) → is_marked c n t ≡ true → freed c n t ≡ given_mark c n true t
given_all c n t held = ap (freed c n) (held_given c n t held)

pub given_alone : (c : ConId) (n : List ℕ) (t : TreeValue) → is_marked c n t ≡ true → freed c n (with_marks c (only_mark (Some n) (marks_in c t.nodes)) t) ≡ given_mark c n false t
given_alone c n t held =
    let among : bears n (that_mark n (marks_in c t.nodes)) ≡ true = bears_that n (marks_in c t.nodes) ∙ held in
    let own : with_mark n (that_mark n (marks_in c t.nodes)) ≡ that_mark n (marks_in c t.nodes) = simp among refl in
    ap (λ ms. freed c n (with_marks c ms t)) (sym own)

-- ---- why it is refused

abbrev readied : ConId → List ℕ → Bool → TreeValue → TreeValue
readied c n add t = freed c n (with_marks c (all_or_none add (marks_in c t.nodes)) t)

pub ready_kind : (c : ConId) (n : List ℕ) (add : Bool) (t : TreeValue) → is_container t c ≡ true → kind_of con_kind c (readied c n add t).nodes ≢ None
ready_kind c n add t h e =
    let ms : List (List ℕ) = all_or_none add (marks_in c t.nodes) in
    let same_kind : kind_of con_kind c (readied c n add t).nodes ≡ kind_of con_kind c t.nodes = kind_off con_kind c n (at c marks_word ms t.nodes) ∙ kind_marks con_kind c ms t.nodes in
    let none : is_some (kind_of con_kind c t.nodes) ≡ false = ap (λ o. is_some o) (sym same_kind ∙ e) in
    cc

pub not_full : (b : Bool) → (b ≡ true → ⊥) → b ≡ false
not_full true h = absurd (h refl)
not_full false h = refl

-- a mark that c has is not refused
pub held_fine : (c : ConId) (n : List ℕ) (add : Bool) (t : TreeValue) → is_marked c n t ≡ true → give_refusal c n add t ≡ None
held_fine c n add t held = rw held refl

-- nor another one where there is room
pub give_fine : (c : ConId) (n : List ℕ) (add : Bool) (t : TreeValue) → is_marked c n t ≡ false → is_full_for c n add t ≡ false → give_refusal c n add t ≡ None
give_fine c n add t other room =
    let fits : is_full_of_marks c (cleared c n add t).nodes ≡ false = room in
    rw (other, fits) refl

pub give_cause : (c : ConId) (n : List ℕ) (add : Bool) (t : TreeValue) (error : TreeRefusal) → has c t.nodes ≡ true → is_marked c n t ≡ false → IsGivingCause c n add t error → IsCause (give_refusal c n add t) (refusal_by error)
give_cause c n add t (Full limit) there other h =
    let alone : give_refusal c n add t ≡ full_of_marks c (cleared c n add t).nodes = simp other refl in
    let full : is_full_of_marks c (cleared c n add t).nodes ≡ true = h.1 in
    alone ∙ rw full (ap (λ l. Some (refusal_by (Full l))) (sym h.2))
give_cause c n add t (Missing i) there other h = absurd (cc (h.1, there))
give_cause c n add t NoMemory there other h = tt
