-- A history whose callers run no text with an exit does not stop a desk.
use Rattle.std.proofs.Common.{◌≡◌, ◌<◌, refl, ap₂, subst, ℕ, ◌==◌, ◌||◌, Bool, true, false, if◌then◌else◌, List, [], ◌∷◌, ◌++◌, map, Option, None, Some}
use Rattle.std.proofs.lemmas.Bool.{eq-eqb}
use Rattle.std.proofs.lemmas.List.Elements.{All-head, All-tail}
use Rattle.std.specs.List.{All, AllByRecursion}
use Rattle.std.specs.Str.{bytes_eq}
use Rattle.wm_base.specs.declared.errors.Limit.{Limit}
use Rattle.wm_base.specs.declared.ids.Buffer.{Buffer}
use Rattle.wm_base.specs.declared.ids.ConId.{ConId}
use Rattle.wm_base.specs.declared.properties.Props.{Props}
use Rattle.wm_history.specs.Act.{KeyChoice, act_of, choice_of, text_if_some}
use Rattle.wm_history.specs.Effect.{effect, has_no_pixels, key_effect, limit_of, map_effect, mapped, mapped_id, refused, telling, then_outcome, window_answer}
use Rattle.wm_history.specs.Keys.{bound, chosen}
use Rattle.wm_history.specs.Outputs.{add_answer, added, remove_answer, removed, reserve_answer, reserved}
use Rattle.wm_history.specs.Windows.{is_window}
use Rattle.wm_history.specs.declared.step.Answer.TheVariants as answers
use Rattle.wm_history.specs.declared.step.Choice.{Choice}
use Rattle.wm_criteria.specs.declared.prepared.Prepared.{Prepared}
use Rattle.wm_txn.specs.History as commits
use Rattle.wm_core.specs.Entries.{history_of}
use Rattle.wm_history.specs.History.{Start, mode, stopped, tree}
use Rattle.wm_history.specs.declared.client.ClientStep.TheVariants as client
use Rattle.wm_history.specs.declared.step.Step.{Step}
use Rattle.wm_history.specs.declared.step.Step.TheVariants as step
use Rattle.wm_layouts.specs.declared.plan.Env.{Env}
use Rattle.wm_tree.specs.TreeValue.{TreeValue}
use Rattle.wm_turn.specs.declared.view.Entry.{Entry}
use Rattle.wm_serve.specs.Said.{text_in, text_then, texts_of}
use Rattle.wm_serve.proofs.StayLemmas.{Stays}
use Rattle.wm_serve.proofs.StopLemmas.{calm, calm_if, run_goes_on, text_goes_on}

-- ---- one step

-- the text that a map brings has no exit
then_calm : (env : Env) (brought : Option Prepared) (c : ConId) (t : TreeValue) → AllByRecursion Stays (text_then (text_if_some brought)) → (then_outcome env (text_if_some brought) c t).exit ≡ false
then_calm env None c t every = refl
then_calm env (Some p) c t every = text_goes_on env p.text p.verdict (Some c) t p.meant every.0

map_calm : (env : Env) (t : TreeValue) (who : ℕ) (props : Props) (buffer : Buffer) (brought : Option Prepared) (limit : Option Limit) → AllByRecursion Stays (text_then (text_if_some brought))
    → (map_effect env t who props buffer (text_if_some brought) limit).stops ≡ false
map_calm env t who props buffer brought None every = then_calm env brought (mapped_id props t) (mapped t who props buffer.size) every
map_calm env t who props buffer brought (Some limit) every = refl

-- nor has the text of any choice of a key
key_calm : (env : Env) (mode chord : List ℕ) (t : TreeValue) (choices : List Choice) → AllByRecursion Stays (map (λ (c : KeyChoice). c.text.text) (map choice_of choices))
    → (key_effect env chord (chosen mode (map choice_of choices)) t).stops ≡ false
key_calm env mode chord t [] every = refl
key_calm env mode chord t (choice ∷ choices) every = by_test (bytes_eq choice.mode mode) (key_calm env mode chord t choices every.1)
  where
    by_test : (b : Bool) → (key_effect env chord (chosen mode (map choice_of choices)) t).stops ≡ false
        → (key_effect env chord (if b then Some (choice_of choice) else chosen mode (map choice_of choices)) t).stops ≡ false
    by_test true others = run_goes_on env choice.prepared.text choice.prepared.verdict (Some (bound chord choice.prepared.text)) t choice.prepared.meant every.0
    by_test false others = others

-- a step whose texts have no exit does not stop a desk
calm_step : (env : Env) (mode : List ℕ) (t : TreeValue) (who : ℕ) (s : Step) → AllByRecursion Stays (text_in (act_of s)) → (effect env mode t who (act_of s)).stops ≡ false
calm_step env mode t who (step.Run p) every = run_goes_on env p.text p.verdict None t p.meant every.0
calm_step env mode t who (step.Map props buffer brought) every = calm_if (has_no_pixels buffer.size) (refused answers.Empty t) _ refl (map_calm env t who props buffer brought (limit_of props t) every)
calm_step env mode t who (step.Close con) every = calm (window_answer t who con) t _
calm_step env mode t who (step.Retitle con title) every = calm (window_answer t who con) t _
calm_step env mode t who (step.Urgent con on) every = calm (window_answer t who con) t _
calm_step env mode t who step.Gone every = refl
calm_step env mode t who (step.OutputAdd plan) every = calm (add_answer plan t) t (added plan t)
calm_step env mode t who (step.OutputRemove name) every = calm (remove_answer name t) t (removed name t)
calm_step env mode t who (step.Reserve name edges) every = calm (reserve_answer name t) t (reserved name edges t)
calm_step env mode t who (step.Key chord choices) every = key_calm env mode chord t choices every
calm_step env mode t who (step.Tick payload) every = refl
calm_step env mode t who (step.Client (client.Ack con serial)) every = calm_if (is_window t who con) (telling (commits.Acked con serial) _ t) (refused answers.NoView t) refl refl
calm_step env mode t who (step.Client (client.Buffer con buffer)) every =
    calm_if (is_window t who con) (if has_no_pixels buffer.size then refused answers.Empty t else telling (commits.Gave con buffer) (λ judge. answers.Done) t) (refused answers.NoView t)
    (calm_if (has_no_pixels buffer.size) (refused answers.Empty t) (telling (commits.Gave con buffer) (λ judge. answers.Done) t) refl refl) refl
calm_step env mode t who (step.Client (client.Deadline number)) every = refl

-- ---- all of them

stay_parts : (xs ys : List (List ℕ)) → AllByRecursion Stays (xs ++ ys) → AllByRecursion Stays xs × AllByRecursion Stays ys
stay_parts [] ys every = (tt, every)
stay_parts (x ∷ xs) ys every =
    let both = stay_parts xs ys every.1 in
    ((every.0, both.0), both.1)

-- where no caller below this number runs a text with an exit, and no other has an entry, the desk goes on
pub calm_history : (start : Start) (seats : ℕ) (history : List (Entry Step)) → All (λ entry. entry.who < seats) history
    → ((who : ℕ) → who < seats → AllByRecursion Stays (texts_of who (history_of history))) → stopped start (history_of history) ≡ false
calm_history start seats [] theirs calm = refl
calm_history start seats (entry ∷ history) theirs calm =
    let here = (stay_parts (texts_of entry.who (history_of history)) (if entry.who == entry.who then text_in (act_of entry.step) else []) (calm entry.who (All-head (λ (e : Entry Step). e.who < seats) entry history theirs))).1 in
    let own : AllByRecursion Stays (text_in (act_of entry.step)) =
    subst (λ b. AllByRecursion Stays (if b then text_in (act_of entry.step) else [])) (eq-eqb entry.who entry.who refl) here in
    ap₂ (λ a b. a || b)
    (calm_history start seats history (All-tail (λ (e : Entry Step). e.who < seats) entry history theirs)
    (λ who less. (stay_parts (texts_of who (history_of history)) (if entry.who == who then text_in (act_of entry.step) else []) (calm who less)).0))
    (calm_step start.env (mode start (history_of history)) (tree start (history_of history)) entry.who entry.step own)
