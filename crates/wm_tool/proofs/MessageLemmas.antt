-- One message of i3-ipc is answered: what it adds to the history, what is written for it, and the talk after it.
use Rattle.std.proofs.Common.{◌≡◌, ◌∙◌, refl, ap, ap₂, sym, subst, ℕ, ◌+◌, ◌≤◌, List, [], ◌∷◌, ◌++◌, Option, None, Some, codes, length, arith}
use Rattle.wm_criteria.specs.Building.{Log}
use Rattle.wm_frames.specs.declared.message.Message.{Message}
use Rattle.wm_base.specs.declared.plan.Border.TheVariants.{Bare}
use Rattle.wm_layouts.specs.declared.plan.Env.{Env}
use Rattle.wm_layouts.specs.Plan.{bare_env, default_outputs}
use Rattle.wm_tree.specs.TreeValue.{TreeValue, opening}
use Rattle.wm_core.specs.DeskValue.{DeskValue, Stands}
use Rattle.wm_history.specs.History.{History, Start, answer, opening_of}
use Rattle.wm_talk.specs.Calls.{call_of}
use Rattle.wm_talk.specs.declared.calls.Call.{Call}
use Rattle.wm_talk.specs.declared.calls.Call.TheVariants as call
use Rattle.wm_talk.specs.declared.got.Got.TheVariants as got
use Rattle.wm_talk.specs.declared.talk.Talk.{Talk}
use Rattle.wm_script.specs.Refusals.{IsRising, refusal_at}
use Rattle.wm_script.specs.declared.refused.Refused.{Refused}
use Rattle.wm_tool.specs.Ipc.{after_call, after_message, call_step, got_of, message_step, message_texts, replies_from, said, said_with, talk_after, talk_with}
use Rattle.wm_tool.specs.Planning.{IsPlain}
use Rattle.wm_tool.specs.Output.{start}
use Rattle.wm_tool.specs.Running.{Leads, Notes, Plays, Stops}
use Rattle.wm_tool.proofs.RefusalLemmas.{refusal_before}
use Rattle.wm_tool.proofs.RunLemmas.{stops_step, plays_led, run_same}

abbrev opening_with : TreeValue → Env → List ℕ → Start
opening_with t env config = record { opened = t; env = env; mode = codes "default"; config = config; windows = [] }

opens : (desk : DeskValue) → IsPlain desk.plan → start ≡ opening_of desk.plan
opens desk plain = let plan = plain.standard in sym (ap₂ (λ t env. opening_with t env desk.plan.config) (ap (λ outputs. opening outputs desk.plan.border desk.plan.inner desk.plan.outer) plan.outputs ∙ (ap (λ border. opening default_outputs border desk.plan.inner desk.plan.outer) plan.border ∙ ap₂ (λ inner outer. opening default_outputs Bare inner outer) plan.inner plan.outer)) plan.env ∙ ap (opening_with (opening default_outputs Bare 0 0) bare_env) plain.config)

longer : (c : Call) (rs : List Refused) (h : History) → length (after_call c rs h) ≡ length h + length (call_step c)
longer (call.Run text) rs h = omega arith
longer (call.Tick text) rs h = omega arith
longer (call.Look q) rs h = omega arith

pub one_call : (c : Call) → length (call_step c) ≤ 1
one_call (call.Run text) = omega arith
one_call (call.Tick text) = omega arith
one_call (call.Look q) = omega arith

same_after : (c : Call) (rs more : List Refused) (h : History) → IsRising (length (after_call c rs h)) more → after_call c (rs ++ more) h ≡ after_call c rs h
same_after (call.Run text) rs more h rising = ap (λ e. e ∷ h) (run_same 0 rs more h text rising)
same_after (call.Tick text) rs more h rising = refl
same_after (call.Look q) rs more h rising = refl

same_got : (opening : Start) (c : Call) (rs more : List Refused) (h : History) → IsRising (length (after_call c rs h)) more → got_of opening c (rs ++ more) h ≡ got_of opening c rs h
same_got opening (call.Run text) rs more h rising = ap (λ e. got.Answer (answer opening h e)) (run_same 0 rs more h text rising)
same_got opening (call.Tick text) rs more h rising = refl
same_got opening (call.Look q) rs more h rising = refl

-- what is refused behind a message changes nothing of it
same_said : (m : Message) (t : Talk) (rs more : List Refused) (h : History) → IsRising (length (after_message m rs h)) more → said start m t (rs ++ more) h ≡ said start m t rs h
same_said m t rs more h rising = ap₂ (said_with start m t) (same_got start (call_of m) rs more h rising) (same_after (call_of m) rs more h rising)

same_talk : (m : Message) (t : Talk) (rs more : List Refused) (h : History) → IsRising (length (after_message m rs h)) more → talk_after start m t (rs ++ more) h ≡ talk_after start m t rs h
same_talk m t rs more h rising = ap₂ (talk_with start m t) (same_got start (call_of m) rs more h rising) (same_after (call_of m) rs more h rising)

module _ (old now : Option (List ℕ)) (desk : DeskValue) (before after_refused : List Refused) (piece : List ℕ) (whole : List Refused → List ℕ) (texts : List Refused → List (Option (List ℕ)))
    (first l1 l2 : Log) (t : Talk) (m : Message) (queue others : List Message) (is : queue ≡ m ∷ others)
    (p : Plays old now desk before piece (replies_from (Some t) queue) whole (λ rs h. message_texts queue) texts first l1)
    (notes : Notes desk.steps (message_step m) before after_refused l1 l2)
  where
    first_message : Plays old now desk before piece (replies_from (Some t) (m ∷ others)) whole (λ rs h. message_step m ++ message_texts others) texts first l1
    first_message = subst (λ ms. Plays old now desk before piece (replies_from (Some t) ms) whole (λ rs h. message_texts ms) texts first l1) is p

    pub stops_message : Stops old now whole texts first l2
    stops_message =
        stops_step old now desk before after_refused piece (after_message m) (said start m t) (replies_from (Some t) (m ∷ others)) (replies_from (Some t) others) whole
        (λ h. message_step m) (λ rs h. message_step m ++ message_texts others) (λ rs h. message_texts others) texts first l1 l2
        (longer (call_of m)) (λ rs h. refl) first_message notes

    pub plays_message : (next : DeskValue) (later : Option Talk) (text : List ℕ) → IsPlain desk.plan
        → (refusal_at desk.steps before ≡ None → Leads desk next (after_message m after_refused) (said (opening_of desk.plan) m t after_refused) piece text)
        → (refusal_at desk.steps before ≡ None → (h : History) → Stands desk h → later ≡ talk_after (opening_of desk.plan) m t after_refused h)
        → next.steps ≡ desk.steps + length (message_step m) → Plays old now next after_refused text (replies_from later others) whole (λ rs h. message_texts others) texts first l2
    plays_message next later text plan leads talks moved =
        let h = first_message.runs.history in
        let opens = opens desk plan in
        plays_led old now desk before after_refused piece (after_message m) (said start m t) (replies_from (Some t) (m ∷ others)) (replies_from later others) whole
        (λ h. message_step m) (λ rs h. message_step m ++ message_texts others) (λ rs h. message_texts others) texts first l1 l2
        (longer (call_of m)) (λ rs h. refl) first_message notes
        next text
        (λ more rising.
        let rs = after_refused ++ more in
        let talked : talk_after start m t rs h ≡ later =
        same_talk m t after_refused more h rising
        ∙ sym (subst (λ o. later ≡ talk_after o m t after_refused h) (sym opens) (talks (refusal_before desk.steps before first_message.backed.below) h first_message.runs.stands)) in
        ap (λ w. said start m t rs h ++ replies_from w others rs (after_message m rs h)) talked)
        (λ rs more h rising. (same_after (call_of m) rs more h rising, same_said m t rs more h rising))
        (subst (λ o. refusal_at desk.steps before ≡ None → Leads desk next (after_message m after_refused) (said o m t after_refused) piece text) (sym opens) leads)
        moved
