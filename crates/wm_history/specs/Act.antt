-- What steps say to the history.
use Rattle.std.specs.Prelude.{Bool, ℕ, List, map, Option, None, Some}
use Rattle.wm_base.specs.declared.geometry.Edges.{Edges}
use Rattle.wm_base.specs.declared.ids.Buffer.{Buffer}
use Rattle.wm_base.specs.declared.ids.ConId.{ConId}
use Rattle.wm_base.specs.declared.plan.OutputPlan.{OutputPlan}
use Rattle.wm_base.specs.declared.properties.Props.{Props}
use Rattle.wm_criteria.specs.declared.prepared.Prepared.{Prepared}
use Rattle.wm_criteria.specs.declared.verdict.Verdict.{Verdict}
use Rattle.wm_history.specs.declared.client.ClientStep.{ClientStep}
use Rattle.wm_history.specs.declared.client.ClientStep.TheVariants as client
use Rattle.wm_history.specs.declared.step.Choice.{Choice}
use Rattle.wm_history.specs.declared.step.Step.{Step}
use Rattle.wm_history.specs.declared.step.Step.TheVariants as step

-- a prepared text as it counts in a history: the text, and the verdict on it
pub record CommandText : Type 0 where
  pub text : List ℕ
  pub verdict : Verdict

-- what a key does in a mode
pub record KeyChoice : Type 0 where
  pub mode : List ℕ
  pub text : CommandText

pub data Act : Type 0 where
  Run : CommandText → Act
  Map : Props → Buffer → Option CommandText → Act
  Close : ConId → Act
  Retitle : ConId → List ℕ → Act
  Urgent : ConId → Bool → Act
  Gone : Act
  OutputAdd : OutputPlan → Act
  OutputRemove : List ℕ → Act
  Reserve : List ℕ → Edges → Act
  Key : List ℕ → List KeyChoice → Act
  Tick : List ℕ → Act
  Ack : ConId → ℕ → Act
  Give : ConId → Buffer → Act
  Deadline : ℕ → Act

abbrev pub text_of : Prepared → CommandText
text_of p = record { text = p.text; verdict = p.verdict }

abbrev pub text_if_some : Option Prepared → Option CommandText
text_if_some None = None
text_if_some (Some p) = Some (text_of p)

abbrev pub choice_of : Choice → KeyChoice
choice_of choice = record { mode = choice.mode; text = text_of choice.prepared }

-- what the step of a client or a timer says to the history
abbrev pub client_act : ClientStep → Act
client_act (client.Ack con serial) = Ack con serial
client_act (client.Buffer con buffer) = Give con buffer
client_act (client.Deadline number) = Deadline number

-- what the step says to the history
abbrev pub act_of : Step → Act
act_of (step.Run p) = Run (text_of p)
act_of (step.Map props buffer then) = Map props buffer (text_if_some then)
act_of (step.Close con) = Close con
act_of (step.Retitle con title) = Retitle con title
act_of (step.Urgent con on) = Urgent con on
act_of step.Gone = Gone
act_of (step.OutputAdd plan) = OutputAdd plan
act_of (step.OutputRemove name) = OutputRemove name
act_of (step.Reserve name edges) = Reserve name edges
act_of (step.Key chord choices) = Key chord (map choice_of choices)
act_of (step.Tick payload) = Tick payload
act_of (step.Client step) = client_act step
