-- Laws of lines that take steps, and of what callers do.
use Rattle.std.proofs.Common.{◌≡◌, ◌∙◌, refl, ap, sym, subst, true, cond, ℕ, List, None, Some}
use Rattle.std.specs.Str.{IsUtf8}
use Rattle.wm_history.specs.declared.client.ClientStep.TheVariants.{Ack, Buffer as Give}
use Rattle.wm_history.specs.declared.step.Step.{Step}
use Rattle.wm_history.specs.declared.step.Step.TheVariants.{Map, Retitle, Urgent, Close, Client}
use Rattle.wm_fields.specs.Fields.{or_none}
use Rattle.wm_lines.specs.Lines.{client_step_of, is_client_step, step_line_of}
use Rattle.wm_script.specs.declared.line.Deed.{Deed}
use Rattle.law_script.proofs.DeedLemmas.{deed_reads}
use Rattle.law_script.proofs.StepReads.{step_reads}
use Rattle.law_script.proofs.StepSplits.{step_splits}
use Rattle.law_script.proofs.Turns.{none_by, same_some, test_by}
use Rattle.law_script.specs.Deeds.{SaysDeed}
use Rattle.law_script.specs.Steps.{IsOfClient, SaysOfClient, SaysStep}

pub one_step : (text : List ℕ) (a b : Step) → SaysStep text a → SaysStep text b → a ≡ b
one_step text a b first second = same_some a b (sym (step_reads text a first) ∙ step_reads text b second)

pub one_deed : (text : List ℕ) (a b : Deed) → IsUtf8 text → SaysDeed text a → SaysDeed text b → a ≡ b
one_deed text a b utf8 first second = same_some a b (sym (deed_reads text a utf8 first) ∙ deed_reads text b utf8 second)

-- ---- clients

client_passes : (text : List ℕ) (step : Step) → SaysStep text step → IsOfClient step → is_client_step step ≡ true
client_passes text (Map props buffer None) says is = refl
client_passes text (Map props buffer (Some then)) says is = absurd says
client_passes text (Retitle con title) says is = refl
client_passes text (Urgent con on) says is = refl
client_passes text (Close con) says is = refl
client_passes text (Client (Ack con serial)) says is = refl
client_passes text (Client (Give con buffer)) says is = refl
client_passes text other says is = absurd is

passes_client : (step : Step) → is_client_step step ≡ true → IsOfClient step
passes_client (Map props buffer then) e = tt
passes_client (Retitle con title) e = tt
passes_client (Urgent con on) e = tt
passes_client (Close con) e = tt
passes_client (Client (Ack con serial)) e = tt
passes_client (Client (Give con buffer)) e = tt
passes_client other e = cc

pub client_reads : (text : List ℕ) (step : Step) → SaysOfClient text step → client_step_of text ≡ Some step
client_reads text step says =
    ap (λ o. or_none o (λ s. cond (is_client_step s) (Some s) None)) (step_reads text step says.says)
    ∙ ap (λ t. cond t (Some step) None) (client_passes text step says.says says.of_client)

pub client_splits : (text : List ℕ) (step : Step) → client_step_of text ≡ Some step → SaysOfClient text step
client_splits text step e = none_by (step_line_of text) (λ s. cond (is_client_step s) (Some s) None) step (λ s a f. test_by (is_client_step s) (Some s) step (λ t g.
    subst (SaysOfClient text) (same_some s step g) (record { of_client = passes_client s t; says = step_splits text s a })) f) e
