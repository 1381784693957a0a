-- Clients, timers and painters run no texts.
use Rattle.std.specs.Option.{option_map}
use Rattle.std.proofs.Common.{◌≡◌, ◌∙◌, refl, sym, ap, ap₂, ℕ, nat_le, Bool, true, false, if◌then◌else◌, List, [], ◌∷◌, ◌++◌, length, Option, None, Some}
use Rattle.wm_actors.specs.Due.{due}
use Rattle.wm_actors.specs.Paints as paints
use Rattle.wm_actors.specs.Ticks as ticks
use Rattle.wm_actors.specs.declared.ending.ActorEnd.TheVariants as end
use Rattle.wm_clients.specs.Lines.{LONGEST, line_act}
use Rattle.wm_clients.specs.Served.{Leaves}
use Rattle.wm_clients.specs.Walk.{FitsClient, IsNextStep, walk}
use Rattle.wm_history.specs.Act.{Act, act_of}
use Rattle.wm_history.specs.History.{Entry, History, Start}
use Rattle.wm_core.specs.Passes.{Begins, Pass}
use Rattle.wm_core.specs.declared.asked.Asked.{Asked}
use Rattle.wm_core.specs.declared.asked.Asked.TheVariants as asked
use Rattle.wm_history.specs.declared.look.Query.TheVariants as query
use Rattle.wm_history.specs.declared.client.ClientStep.TheVariants as client
use Rattle.wm_history.specs.declared.step.Step.{Step}
use Rattle.wm_history.specs.declared.step.Step.TheVariants as step
use Rattle.wm_fields.specs.Fields.{or_none}
use Rattle.wm_lines.specs.Lines.{client_act, is_client_step, step_line_of}
use Rattle.wm_session.specs.Places.{entry_at}
use Rattle.wm_turn.specs.History.{wrote}
use Rattle.wm_turn.specs.declared.view.Mark.{Mark}
use Rattle.wm_turn.specs.declared.view.Mark.TheVariants.{Wrote, Read}
use Rattle.wm_serve.specs.Said.{text_in}
use Rattle.wm_serve.proofs.PlaceLemmas.{text_at, texts_at, texts_both, wrote_append}

-- marks that run no texts, behind others that run none
pub silent_both : (seen : History) (xs ys : List (Mark Asked)) → texts_at seen (wrote xs) ≡ [] → texts_at seen (wrote ys) ≡ [] → texts_at seen (wrote (xs ++ ys)) ≡ []
silent_both seen xs ys first second =
    ap (texts_at seen) (wrote_append xs ys) ∙ texts_both seen (wrote xs) (wrote ys) ∙ ap₂ (λ (ts us : List (List ℕ)). ts ++ us) second first

-- ---- the lines of clients

abbrev text_of_some : Option Act → List (List ℕ)
text_of_some None = []
text_of_some (Some a) = text_in a

step_silent : (s : Step) → text_of_some (option_map act_of (if is_client_step s then Some s else None)) ≡ []
step_silent (step.Map props buffer None) = refl
step_silent (step.Retitle con title) = refl
step_silent (step.Urgent con on) = refl
step_silent (step.Close con) = refl
step_silent (step.Client (client.Ack con serial)) = refl
step_silent (step.Client (client.Buffer con buffer)) = refl
step_silent other = refl

steps_silent : (o : Option Step) → text_of_some (option_map act_of (or_none o (λ s. if is_client_step s then Some s else None))) ≡ []
steps_silent None = refl
steps_silent (Some s) = step_silent s

if_silent : (b : Bool) (o : Option Act) → text_of_some o ≡ [] → text_of_some (if b then o else None) ≡ []
if_silent true o silent = silent
if_silent false o silent = refl

line_silent : (line : List ℕ) (a : Act) → line_act line ≡ Some a → text_in a ≡ []
line_silent line a is = ap text_of_some (sym is) ∙ if_silent (nat_le (length line) LONGEST) (client_act line) (steps_silent (step_line_of line))

next_silent : (lines : List (List ℕ)) (entry : Option Entry) → IsNextStep lines entry → text_at entry ≡ []
next_silent [] entry none = absurd none
next_silent (line ∷ lines) None none = absurd none
next_silent (line ∷ lines) (Some entry) is = line_silent line entry.act is

-- ---- sessions of clients

pub lines_silent : (start : Start) (who : ℕ) (seen : History) (lines : List (List ℕ)) (marks : List (Mark Asked)) → FitsClient start who seen lines marks → texts_at seen (wrote marks) ≡ []
lines_silent start who seen lines [] fit = refl
lines_silent start who seen lines (Wrote place ∷ marks) (fit, (free, is)) =
    ap₂ (λ (ts us : List (List ℕ)). ts ++ us) (lines_silent start who seen lines marks fit) (next_silent (walk start who seen lines marks).left (entry_at place seen) is)
lines_silent start who seen lines (Read question count ∷ marks) (fit, fits) = lines_silent start who seen lines marks fit

-- the step that closes the windows of a client runs no text
pub gone_silent : (closes : Bool) (pass : Pass) (gone : List (Mark Asked)) (later : History) → Leaves closes pass gone → Begins pass.seen later → texts_at later (wrote gone) ≡ []
gone_silent true pass gone later left begins = ap (λ ms. texts_at later (wrote ms)) left.mark ∙ ap text_at (left.entry later begins)
gone_silent false pass gone later left begins = ap (λ ms. texts_at later (wrote ms)) left

-- ---- timers

given_silent : (who : ℕ) (seen : History) (is_due : Option ℕ) (gave : Option ℕ) → ticks.IsGiven who seen is_due gave → texts_at seen (wrote (ticks.wrote_at gave)) ≡ []
given_silent who seen is_due None given = refl
given_silent who seen None (Some place) given = absurd cc
given_silent who seen (Some number) (Some place) given = ap text_at given

pub rounds_silent : (start : Start) (who hold : ℕ) (seen : History) (rounds : List ticks.Round) → ticks.AreRounds start who hold seen rounds → texts_at seen (wrote (ticks.all_marks rounds)) ≡ []
rounds_silent start who hold seen [] are = refl
rounds_silent start who hold seen (round ∷ rounds) (are, is) =
    silent_both seen (ticks.marks_of round) (ticks.all_marks rounds)
    (silent_both seen (ticks.wrote_at round.gave) (Read (asked.Query query.State) round.looked ∷ Read asked.Stopped round.asked ∷ []) (given_silent who seen (due hold (ticks.pairs_of (round ∷ rounds))) round.gave is.gave) refl)
    (rounds_silent start who hold seen rounds are)

pub last_silent : (start : Start) (hold : ℕ) (seen : History) (rounds : List ticks.Round) (last : ticks.Last) → ticks.IsLast end.Stopped start hold seen rounds last → texts_at seen (wrote (ticks.last_marks last)) ≡ []
last_silent start hold seen rounds (ticks.Asked_alone count) is = refl
last_silent start hold seen rounds (ticks.Not_given round) none = absurd none

-- ---- painters

painted_none : (rounds : List paints.Round) → wrote (paints.all_marks rounds) ≡ []
painted_none [] = refl
painted_none (round ∷ rounds) = painted_none rounds

pub painter_none : (last : paints.Last) (rounds : List paints.Round) → wrote (paints.last_marks last ++ paints.all_marks rounds) ≡ []
painter_none (paints.Asked_alone count) rounds = painted_none rounds
painter_none (paints.Painted round) rounds = painted_none rounds
