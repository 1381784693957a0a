-- Lemmas on a frame that is not whole yet.
use Rattle.std.proofs.Common.{◌≡◌, ℕ, zero, suc, true, ◌+◌, ◌-◌, ◌<◌, ◌≤◌, min, Some, None, List, [], ◌∷◌, ◌++◌, length, take, drop, refl, sym, ◌∙◌, ap, subst, arith, append_assoc, length-append, length-drop, append-nil}
use Rattle.std.proofs.lemmas.List.{take-append-drop, length-take}
use Rattle.wm_frames.specs.Frame.{MAGIC}
use Rattle.wm_frames.specs.Front.{agrees, front_of, length_field}
use Rattle.wm_frames.specs.Step.{fault_at, kept}
use Rattle.wm_frames.specs.Partial.{IsPartial}
use Rattle.wm_frames.specs.declared.message.FrameFault.{FrameFault}
use Rattle.wm_frames.specs.declared.front.Front.{Front}
use Rattle.wm_frames.specs.declared.front.Front.TheVariants.{Whole, Part, Wrong, Long}
use Rattle.wm_frames.proofs.FrontLemmas.{FrontIs, is_whole, is_short, is_part, is_wrong, is_long, front_is, front_of-whole, agrees-long, length_field-append}

no_bytes : front_of [] ≡ Part
unfolding front_of
no_bytes = refl

-- nothing is a part of a frame
pub empty_partial : (head body : List ℕ) → head ≡ [] → body ≡ [] → IsPartial head body
empty_partial head body h b = record { head_first = λ _. b; part = ap front_of (ap (λ xs. xs ++ body) h ∙ b) ∙ no_bytes }

nil_of : (xs : List ℕ) → length xs ≡ 0 → xs ≡ []
nil_of [] h = refl
nil_of (x ∷ xs) h = absurd (omega arith)

drop_all : (n : ℕ) (xs : List ℕ) → length xs ≤ n → drop n xs ≡ []
drop_all n xs h = nil_of (drop n xs) (omega (arith, length-drop n xs))

-- The head is filled from the piece, and the others of its bytes go behind the body.
abbrev pub Filled : List ℕ → List ℕ → List ℕ → List ℕ → ℕ → Type 0
Filled head body piece head' taken = ((head ++ body) ++ piece ≡ head' ++ (body ++ drop taken piece)) × (length head' < 14 → body ++ drop taken piece ≡ [])

filled_full : (head body piece head' : List ℕ) → 14 ≤ length head → head' ≡ head ++ [] → Filled head body piece head' 0
filled_full head body piece head' h is = (
  append_assoc head body piece ∙ ap (λ xs. xs ++ (body ++ piece)) (sym (append-nil head) ∙ sym is),
  λ l. let k : length head' ≡ length head = ap length (is ∙ append-nil head) in absurd (omega arith),
)

filled_open : (head body piece head' : List ℕ) (taken : ℕ) → body ≡ [] → taken ≡ min (14 - length head) (length piece) → length head < 14 → head' ≡ head ++ take taken piece → Filled head body piece head' taken
filled_open head body piece head' taken b count h is = (
  ap (λ xs. (head ++ xs) ++ piece) b
      ∙ ap (λ xs. xs ++ piece) (append-nil head)
      ∙ ap (λ xs. head ++ xs) (sym (take-append-drop taken piece))
      ∙ sym (append_assoc head (take taken piece) (drop taken piece))
      ∙ ap (λ xs. xs ++ drop taken piece) (sym is)
      ∙ ap (λ xs. head' ++ (xs ++ drop taken piece)) (sym b),
  λ l. let k : length head' ≡ length (head ++ take taken piece) = ap length is in
      ap (λ xs. xs ++ drop taken piece) b ∙ drop_all taken piece (omega (arith, length-append head (take taken piece), length-take taken piece)),
)

filled_by : (k : ℕ) (head body piece head' : List ℕ) (taken : ℕ) → k ≡ 14 - length head → (length head < 14 → body ≡ []) → taken ≡ min (14 - length head) (length piece) → head' ≡ head ++ take taken piece → Filled head body piece head' taken
filled_by zero head body piece head' taken e first count is =
    let t : taken ≡ 0 = omega arith in
    let P : ℕ → Type 0 = λ n. head' ≡ head ++ take n piece → Filled head body piece head' n in
    subst P (sym t) (λ is'. filled_full head body piece head' (omega arith) is') is
filled_by (suc k) head body piece head' taken e first count is = filled_open head body piece head' taken (first (omega arith)) count (omega arith) is

pub filled : (head body piece head' : List ℕ) (taken : ℕ) → (length head < 14 → body ≡ []) → taken ≡ min (14 - length head) (length piece) → head' ≡ head ++ take taken piece → Filled head body piece head' taken
filled head body piece head' taken first count is = filled_by (14 - length head) head body piece head' taken refl first count is

-- ---- with no fault at the front of the head

no_fault_at : (at : ℕ) (bytes : List ℕ) (f : Front) → FrontIs bytes f → fault_at at f ≡ None → (agrees MAGIC bytes ≡ true) × (10 ≤ length bytes → length_field bytes ≤ 262144)
no_fault_at at bytes _ (is_whole a b c) h = (a, λ _. b)
no_fault_at at bytes _ (is_short a b) h = (a, λ l. absurd (omega arith))
no_fault_at at bytes _ (is_part a b c) h = (a, λ _. b)
no_fault_at at bytes _ (is_wrong a) h = absurd (cc)
no_fault_at at bytes _ (is_long a b c) h = absurd (cc)

part_at : (bytes : List ℕ) (f : Front) → FrontIs bytes f → agrees MAGIC bytes ≡ true → (10 ≤ length bytes → length_field bytes ≤ 262144) → length bytes < 14 + length_field bytes → f ≡ Part
part_at bytes _ (is_whole a b c) h k l = absurd (omega arith)
part_at bytes _ (is_short a b) h k l = refl
part_at bytes _ (is_part a b c) h k l = refl
part_at bytes _ (is_wrong a) h k l = absurd (cc)
part_at bytes _ (is_long a b c) h k l = absurd (omega arith)

-- a head that is not whole, or has a payload of more bytes than these, begins a part of a frame
pub part_goes_on : (at : ℕ) (head body : List ℕ) → fault_at at (front_of head) ≡ None → length head ≤ 14 → (length head < 14 → body ≡ []) → (14 ≤ length head → length body < length_field head) → IsPartial head body
part_goes_on at head body none short first more = record { head_first = first; part = go (14 - length head) refl }
  where
    facts : (agrees MAGIC head ≡ true) × (10 ≤ length head → length_field head ≤ 262144)
    facts = no_fault_at at head (front_of head) (front_is head) none

    go : (k : ℕ) → k ≡ 14 - length head → front_of (head ++ body) ≡ Part
    go zero e =
        let m : length body < length_field head = more (omega arith) in
        let l : length_field (head ++ body) ≡ length_field head = length_field-append head body (omega arith) in
        let b : length_field head ≤ 262144 = facts.1 (omega arith) in
        part_at (head ++ body) (front_of (head ++ body)) (front_is (head ++ body)) (agrees-long MAGIC head body (omega arith) ∙ facts.0) (λ _. omega arith) (omega (arith, length-append head body))
    go (suc k) e =
        let n : body ≡ [] = first (omega arith) in
        ap front_of (ap (λ xs. head ++ xs) n ∙ append-nil head)
        ∙ part_at head (front_of head) (front_is head) facts.0 facts.1 (omega arith)

-- a whole head with all of its payload's bytes begins a whole frame
pub whole_goes_on : (at : ℕ) (head body : List ℕ) → fault_at at (front_of head) ≡ None → length head ≡ 14 → length_field head ≤ length body → front_of (head ++ body) ≡ Whole (length_field head)
whole_goes_on at head body none full more =
    let facts : (agrees MAGIC head ≡ true) × (10 ≤ length head → length_field head ≤ 262144) = no_fault_at at head (front_of head) (front_is head) none in
    let b : length_field head ≤ 262144 = facts.1 (omega arith) in
    let l : length_field (head ++ body) ≡ length_field head = length_field-append head body (omega arith) in
    front_of-whole (head ++ body) (agrees-long MAGIC head body (omega arith) ∙ facts.0) (omega arith) (omega (arith, length-append head body))
    ∙ ap (λ n. Whole n) l

-- a part of a frame has fewer bytes than its payload
part_facts_at : (bytes : List ℕ) (f : Front) → FrontIs bytes f → f ≡ Part → 14 ≤ length bytes → length bytes < 14 + length_field bytes
part_facts_at bytes _ (is_whole a b c) e h = absurd (cc)
part_facts_at bytes _ (is_short a b) e h = absurd (omega arith)
part_facts_at bytes _ (is_part a b c) e h = c
part_facts_at bytes _ (is_wrong a) e h = absurd (cc)
part_facts_at bytes _ (is_long a b c) e h = absurd (cc)

pub body_short : (head body : List ℕ) → IsPartial head body → length head ≡ 14 → length body < length_field head
body_short head body p full =
    let l : length_field (head ++ body) ≡ length_field head = length_field-append head body (omega arith) in
    let f : length (head ++ body) < 14 + length_field (head ++ body) = part_facts_at (head ++ body) (front_of (head ++ body)) (front_is (head ++ body)) p.part (omega (arith, length-append head body)) in
    omega (arith, length-append head body)

-- no frame and no fault: a part
pub part_of_no_fault : (at : ℕ) (f : Front) → fault_at at f ≡ None → ((n : ℕ) → f ≡ Whole n → ⊥) → f ≡ Part
part_of_no_fault at (Whole n) h k = absurd (k n refl)
part_of_no_fault at Part h k = refl
part_of_no_fault at Wrong h k = absurd (cc)
part_of_no_fault at (Long n) h k = absurd (cc)

pub kept_part : (bytes : List ℕ) (f : Front) → f ≡ Part → kept bytes f ≡ bytes
kept_part bytes f e = ap (kept bytes) e

-- with a fault nothing is kept
pub kept_fault : (at : ℕ) (bytes : List ℕ) (f : Front) (x : FrameFault) → fault_at at f ≡ Some x → kept bytes f ≡ []
kept_fault at bytes (Whole n) x h = absurd (cc)
kept_fault at bytes Part x h = absurd (cc)
kept_fault at bytes Wrong x h = refl
kept_fault at bytes (Long n) x h = refl

-- with no fault at the front the magic is right so far, and the length within the limit
pub no_fault : (at : ℕ) (bytes : List ℕ) → fault_at at (front_of bytes) ≡ None → (agrees MAGIC bytes ≡ true) × (10 ≤ length bytes → length_field bytes ≤ 262144)
no_fault at bytes h = no_fault_at at bytes (front_of bytes) (front_is bytes) h
