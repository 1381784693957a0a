-- What a step on outputs does, by what is known of the tree, and what steps promise.
use Rattle.std.proofs.Common.{◌≡◌, Result, Ok, Err, Bool, true, false, not, is_some, Option, Some, None, refl, ap, subst, sym, ◌∙◌, ℕ, List, ◌∷◌}
use Rattle.wm_base.specs.declared.errors.Limit.{Limit}
use Rattle.wm_base.specs.declared.errors.Refusal.{Refusal}
use Rattle.wm_base.specs.declared.errors.Refusal.TheVariants.{Full, NameTaken}
use Rattle.wm_base.specs.declared.plan.OutputPlan.{OutputPlan}
use Rattle.wm_shared.specs.Refusing.{full_error}
use Rattle.wm_spaces.specs.Coming.{output_added_refusal, output_removed_refusal}
use Rattle.wm_spaces.specs.Names.{output_named}
use Rattle.wm_tree.specs.Outputs.{passed_by_output}
use Rattle.wm_tree.specs.TreeValue.{TreeValue}
use Rattle.wm_base.specs.declared.errors.NoMemory.{NoMemory}
use Rattle.wm_core.specs.DeskValue.{DeskValue, Stands, StandsFrom, in_mode}
use Rattle.wm_history.specs.Effect.{done_or_refused, leaving, refused}
use Rattle.wm_json.specs.declared.views.EventBody.{EventBody}
use Rattle.wm_kept.specs.Log.{Log}
use Rattle.wm_history.specs.Events.{IsToldOn, later_events}
use Rattle.wm_history.specs.History.{Entry, opening_of}
use Rattle.wm_history.proofs.EventLemmas.{nothing_later, told_nothing}
use Rattle.wm_core.specs.Steps.{Answers, Commits, GoesOn, IsAnswer, IsThere, Takes}
use Rattle.wm_history.specs.Outputs.{add_answer, added, remove_answer, removed, unless_full}
use Rattle.wm_history.specs.declared.step.Answer.{Answer}
use Rattle.wm_history.specs.declared.step.Answer.TheVariants as answers
use Rattle.wm_layouts.specs.Plan.{is_fit_rect}
use Rattle.std.specs.Prelude.{IsErrAnd, if◌then◌else◌}

room : (p : Option Limit) → full_error p ≡ None → p ≡ None
room None h = refl
room (Some limit) h = cc

limit : (p : Option Limit) (l : Limit) → full_error p ≡ Some (Full l) → p ≡ Some l
limit None l h = cc
limit (Some m) l h = cc

never : (p : Option Limit) → full_error p ≡ Some NameTaken → ⊥
never None h = cc
never (Some m) h = cc

module _ (plan : OutputPlan) (t : TreeValue) (free : is_some (output_named plan.name t) ≡ false) where
  pub has_room : output_added_refusal plan t ≡ None → passed_by_output t.nodes t.next_id ≡ None
  has_room h = room (passed_by_output t.nodes t.next_id) (rw free at h)

  pub has_limit : (l : Limit) → output_added_refusal plan t ≡ Some (Full l) → passed_by_output t.nodes t.next_id ≡ Some l
  has_limit l h = limit (passed_by_output t.nodes t.next_id) l (rw free at h)

  pub never_taken : output_added_refusal plan t ≡ Some NameTaken → ⊥
  never_taken h = never (passed_by_output t.nodes t.next_id) (rw free at h)

-- the answer to an output that comes, by what was tested
abbrev add_by : Bool → Bool → Option Limit → Answer
add_by taken fit passed = if taken then answers.NameTaken else if not fit then answers.BadRect else unless_full passed

add_is : (plan : OutputPlan) (t : TreeValue) (passed : Option Limit) → is_some (output_named plan.name t) ≡ false → is_fit_rect plan.rect ≡ true → passed_by_output t.nodes t.next_id ≡ passed
    → add_answer plan t ≡ unless_full passed
add_is plan t passed free fit h =
    ap (λ b. add_by b (is_fit_rect plan.rect) (passed_by_output t.nodes t.next_id)) free ∙ (ap (λ b. add_by false b (passed_by_output t.nodes t.next_id)) fit ∙ ap (add_by false true) h)

-- an output for which there is room comes
pub is_added : (plan : OutputPlan) (t : TreeValue) → is_some (output_named plan.name t) ≡ false → is_fit_rect plan.rect ≡ true → passed_by_output t.nodes t.next_id ≡ None
    → done_or_refused (add_answer plan t) t (added plan t) ≡ leaving answers.Done t (added plan t) None
is_added plan t free fit h = ap (λ a. done_or_refused a t (added plan t)) (add_is plan t None free fit h)

-- another one is refused
pub not_added : (plan : OutputPlan) (t : TreeValue) (l : Limit) → is_some (output_named plan.name t) ≡ false → is_fit_rect plan.rect ≡ true → passed_by_output t.nodes t.next_id ≡ Some l
    → done_or_refused (add_answer plan t) t (added plan t) ≡ refused (answers.Full l) t
not_added plan t l free fit h = ap (λ a. done_or_refused a t (added plan t)) (add_is plan t (Some l) free fit h)

-- an output that is not taken out is refused
pub not_removed : (name : List ℕ) (t copy : TreeValue) (e : Refusal) → copy ≡ t → output_removed_refusal name copy ≡ Some e
    → done_or_refused (remove_answer name t) t (removed name t) ≡ refused answers.NoTarget t
not_removed name t copy e same h =
    let refused : output_removed_refusal name t ≡ Some e = ap (output_removed_refusal name) (sym same) ∙ h in
    rw refused refl

pub is_removed : (name : List ℕ) (t : TreeValue) → output_removed_refusal name t ≡ None → done_or_refused (remove_answer name t) t (removed name t) ≡ leaving answers.Done t (removed name t) None
is_removed name t h = rw h refl

-- ---- what a step promises

-- one that takes no memory promises no less than one that may
pub taken : (old new : DeskValue) (said : Answer) (entry : Entry) → Answers old new said entry → Takes old new (Ok said) entry
taken old new said entry a = record { there = a.there; answer = a.answer; stands = a.stands; plan = a.plan; count = a.count; err = tt }

-- what is answered after the rest was done
pub answered_after : (old new : DeskValue) (set : Option (List ℕ)) (later : List EventBody) (log : Log) (said : Answer) (entry : Entry) → IsThere old entry said → IsAnswer old entry said → IsToldOn new.events later log
    → Commits old new set later (Ok tt) entry → Takes old (in_mode set log new) (Ok said) entry
answered_after old new set later log said entry t a told c = record { there = t; answer = a; stands = c.stands log told; plan = c.plan; count = c.count; err = tt }

-- the same, where no mode is set and nothing is left to tell
pub answered_alone : (old new : DeskValue) (said : Answer) (entry : Entry) → IsThere old entry said → IsAnswer old entry said
    → Commits old new None (later_events old.mode old.stopped None false None) (Ok tt) entry → Takes old new (Ok said) entry
answered_alone old new said entry t a c =
    answered_after old new None (later_events old.mode old.stopped None false None) new.events said entry t a (told_nothing new.events (later_events old.mode old.stopped None false None) (nothing_later old.mode old.stopped)) c

-- after want of memory nothing is answered
pub none_answered : (old new : DeskValue) (set : Option (List ℕ)) (later : List EventBody) (entry : Entry) (r : Result Answer NoMemory) (e f : NoMemory) → IsErrAnd r (λ x. x ≡ f) → Commits old new set later (Err e) entry → Takes old new r entry
none_answered old new set later entry (Ok said) e f is c = absurd is
none_answered old new set later entry (Err x) e f is c = record { there = tt; answer = tt; stands = tt; plan = c.plan; count = tt; err = c.err }

-- a desk that goes on stands for the entry from the opening of its plan
pub goes_on : (old new : DeskValue) (entry : Entry) → GoesOn old new entry → new.plan ≡ old.plan → (history : List Entry) → Stands old history → Stands new (entry ∷ history)
goes_on old new entry goes plan history s = subst (λ p. StandsFrom (opening_of p) new (entry ∷ history)) (sym plan) (goes (opening_of old.plan) history s)
