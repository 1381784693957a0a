-- The text `exit` reads as the command that stops the desk.
use Rattle.std.proofs.Common.{◌≡◌, ◌∙◌, refl, ap, sym, subst, ℕ, Bool, true, false, ◌||◌, List, [], ◌∷◌, Option, None, Some, IfSome, IsTrue, arith, codes}
use Rattle.std.specs.List.{slice_get}
use Rattle.std.specs.Option.{is_some, option_and_then, option_map, unwrap_or}
use Rattle.wm_history.specs.Act.{Act}
use Rattle.wm_history.specs.Act as act
use Rattle.wm_history.specs.History.{History, Start, opening_of, stopped}
use Rattle.wm_core.specs.Passes.{Pass}
use Rattle.wm_criteria.specs.Patterns.{pattern_at, patterns_of, unless_plain}
use Rattle.wm_criteria.specs.Verdict.{IsVerdict}
use Rattle.wm_criteria.specs.declared.verdict.Verdict.{Verdict}
use Rattle.wm_criteria.specs.declared.verdict.Verdict.TheVariants as verdict
use Rattle.wm_grammar.specs.Reading.{groups_of}
use Rattle.wm_grammar.proofs.BatchesAgain.{groups_again}
use Rattle.wm_language.specs.Spelling.{commands_text, groups_text, more_commands_text, more_groups_text, spelled}
use Rattle.wm_language.specs.declared.batch.Batch.{Batch}
use Rattle.wm_language.specs.declared.batch.Group.{Group}
use Rattle.wm_language.specs.declared.command.Command.TheVariants as commands
use Rattle.wm_actors.specs.Exits.{IsExit, SaidExit}

if_some : {A : Type 0} {P : A → Type 0} (o : Option A) → ((x : A) → P x) → IfSome o P
if_some None h = tt
if_some (Some x) h = h x

-- the one group of the text
abbrev pub GROUP : Group
GROUP = record { criteria = None; commands = commands.Exit ∷ [] }

exit_groups : groups_of (codes "exit") ≡ Some (GROUP ∷ [])
unfolding groups_of groups_text more_groups_text commands_text more_commands_text spelled
exit_groups = groups_again (GROUP ∷ []) 4 (omega arith) ((tt, refl, (tt, tt)), tt)

-- a text of one group has no patterns where the group has no criteria
no_pattern : (n : ℕ) → pattern_at (codes "exit") n ≡ None
no_pattern n = ap {A = Option (List Group)} (λ o. option_and_then (λ gs. slice_get (patterns_of gs) n) o) exit_groups

-- the batch that the text reads as
abbrev pub EXIT : Batch
EXIT = record { groups = GROUP ∷ [] }

-- a text that reads reads as one batch
one_batch : (one other : Batch) → Some one ≡ Some other → other ≡ one
one_batch one other e = sym (ap {A = Option Batch} (λ o. unwrap_or o one) e)

-- the batch of these groups
abbrev pub batch_in : Option (List Group) → Option Batch
batch_in groups = option_map (λ gs. record { groups = gs }) groups

-- a text that reads does not fail to
not_none : (o : Option Batch) → o ≡ Some EXIT → o ≡ None → ⊥
not_none o e none = absurd cc

not_true : IsTrue false → ⊥
not_true h = absurd cc

-- the verdict on the text
exit_ready : (v : Verdict) → IsVerdict (codes "exit") v → v ≡ verdict.Ready EXIT
exit_ready (verdict.Ready batch) is =
    ap (λ b. verdict.Ready b) (one_batch EXIT batch (sym (ap batch_in exit_groups) ∙ is))
exit_ready (verdict.Bad at) is = absurd (not_none (batch_in (groups_of (codes "exit"))) (ap batch_in exit_groups) is.0)
exit_ready (verdict.PatternRefused n) is = absurd (not_true (subst (λ o. IsTrue (is_some (unless_plain o))) (no_pattern n) is))

-- an entry with the text stops the desk
ready_stops : (start : Start) (before : History) (who : ℕ) (so : Bool) → stopped start before ≡ so
    → stopped start (record { who = who; act = act.Run (record { text = codes "exit"; verdict = verdict.Ready EXIT }) } ∷ before) ≡ true
ready_stops start before who true e = ap (λ b. b || true) e
ready_stops start before who false e = ap (λ b. b || true) e

entry_stops : (start : Start) (before : History) (who : ℕ) (said : Act) → IsExit said → stopped start (record { who = who; act = said } ∷ before) ≡ true
entry_stops start before who said is =
    let run = λ (v : Verdict). act.Run (record { text = codes "exit"; verdict = v }) in
    subst (λ a. stopped start (record { who = who; act = a } ∷ before) ≡ true) (sym is.text)
    (subst (λ v. stopped start (record { who = who; act = run v } ∷ before) ≡ true) (sym (exit_ready is.verdict is.verdict_is))
    (ready_stops start before who (stopped start before) refl))

-- where `exit` was said the desk is to stop
pub exit_stops : (before now : Pass) → SaidExit before now → IfSome before.opening (λ plan. stopped (opening_of plan) now.seen ≡ true)
exit_stops before now s =
    let seen = ap {A = Pass} (λ p. p.seen) s.took.pass in
    if_some before.opening (λ plan. subst (λ h. stopped (opening_of plan) h ≡ true) (sym seen) (entry_stops (opening_of plan) s.took.before before.caller s.said s.exit))
