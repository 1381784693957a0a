-- No message asks for events.
use Rattle.std.proofs.Common.{◌≡◌, refl, subst, ℕ, ◌==◌, Bool, true, false, if◌then◌else◌, List, Option, None, Some}
use Rattle.std.specs.Prelude.{⊤}
use Rattle.wm_history.specs.declared.look.Query.{Query}
use Rattle.wm_history.specs.declared.look.Query.TheVariants as query
use Rattle.wm_frames.specs.declared.message.Message.{Message}
use Rattle.wm_talk.specs.Calls.{call_of, look_call, query_of, run_call, text_of, tick_call, tick_of}
use Rattle.wm_talk.specs.declared.calls.Call.{Call}
use Rattle.wm_talk.specs.declared.calls.Call.TheVariants as call
use Rattle.wm_session.specs.Walk.{events_above}

abbrev AsksNoEvents : Call → Type 0
AsksNoEvents (call.Run text) = ⊤
AsksNoEvents (call.Tick text) = ⊤
AsksNoEvents (call.Look q) = events_above q ≡ None

abbrev HasNoEvents : Option Query → Type 0
HasNoEvents None = ⊤
HasNoEvents (Some q) = events_above q ≡ None

either : {A : Type 0} (P : A → Type 0) (x y : A) → P x → P y → (b : Bool) → P (if b then x else y)
either P x y p q true = p
either P x y p q false = q

no_query : (kind : ℕ) → HasNoEvents (query_of kind)
no_query kind =
    either HasNoEvents (Some query.Workspaces) _ refl
    (either HasNoEvents (Some query.Outputs) _ refl
    (either HasNoEvents (Some query.Tree) _ refl
    (either HasNoEvents (Some query.Marks) _ refl
    (either HasNoEvents (Some query.Modes) _ refl
    (either HasNoEvents (Some query.Config) _ refl
    (either HasNoEvents (Some query.Mode) None refl (record {}) (kind == 12)) (kind == 9)) (kind == 8)) (kind == 5)) (kind == 4)) (kind == 3)) (kind == 1)

no_look : (o : Option Query) → HasNoEvents o → AsksNoEvents (look_call o)
no_look None h = refl
no_look (Some q) h = h

no_run : (o : Option (List ℕ)) → AsksNoEvents (run_call o)
no_run None = refl
no_run (Some text) = record {}

no_tick : (o : Option (List ℕ)) → AsksNoEvents (tick_call o)
no_tick None = refl
no_tick (Some text) = record {}

no_events : (m : Message) → AsksNoEvents (call_of m)
no_events m =
    either AsksNoEvents (run_call (text_of m.payload)) _ (no_run (text_of m.payload))
    (either AsksNoEvents (tick_call (tick_of m.payload)) (look_call (query_of m.kind)) (no_tick (tick_of m.payload)) (no_look (query_of m.kind) (no_query m.kind)) (m.kind == 10)) (m.kind == 0)

pub looks_at_no_events : (m : Message) (q : Query) → call_of m ≡ call.Look q → events_above q ≡ None
looks_at_no_events m q e = subst AsksNoEvents e (no_events m)
