-- The patterns that were refused in a run, and the verdicts on its texts.
use Rattle.std.specs.Prelude.{ℕ, ◌+◌, ◌==◌, ◌≤◌, if◌then◌else◌, List, [], ◌∷◌, length, take, Option, None, Some, is_some, option_and_then, slice_get, IsTrue}
use Rattle.std.specs.List.{flat_map, AllByRecursion}
use Rattle.std.specs.Option.{option_to_list}
use Rattle.wm_txn.specs.Commits.{greatest}
use Rattle.wm_criteria.specs.Building.{Grew, Log}
use Rattle.wm_criteria.specs.Patterns.{pattern_at, unless_plain}
use Rattle.wm_criteria.specs.declared.verdict.Verdict.{Verdict}
use Rattle.wm_criteria.specs.declared.verdict.Verdict.TheVariants.{Ready, Bad, PatternRefused}
use Rattle.wm_grammar.specs.Reading.{batch_of, is_whole}
use Rattle.wm_language.specs.declared.batch.Batch.{Batch}
use Rattle.wm_script.specs.declared.refused.Refused.{Refused}

-- the number of the pattern that was refused at a place of the history
abbrev pub refusal_at : ℕ → List Refused → Option ℕ
refusal_at place [] = None
refusal_at place (r ∷ rs) = if r.place == place then Some r.pattern else refusal_at place rs

-- the greatest n such that the first n bytes of the text are empty, or read and end with `;`
abbrev pub reach : List ℕ → ℕ
reach text = greatest (λ n. is_whole (take n text)) (length text)

abbrev pub verdict_by : Option Batch → Option ℕ → List ℕ → Verdict
verdict_by None refusal text = Bad (reach text)
verdict_by (Some batch) None text = Ready batch
verdict_by (Some batch) (Some pattern) text = PatternRefused pattern

-- the verdict on the text that is run at a place: it does not read, or a pattern of it was refused there, or it is ready
abbrev pub verdict_of : List Refused → ℕ → List ℕ → Verdict
verdict_of refused place text = verdict_by (batch_of text) (refusal_at place refused) text

-- ---- when a list of refusals is fair for a run, and backed by its build

-- the places rise from n on, so that each is there once at most
abbrev pub IsRising : ℕ → List Refused → Type 0
IsRising n [] = Unit {0}
IsRising n (r ∷ rs) = (n ≤ r.place) × IsRising (r.place + 1) rs

-- the text that is run at a place, where the step there runs one
abbrev pub text_at : List (Option (List ℕ)) → ℕ → Option (List ℕ)
text_at texts place = option_and_then (λ text. text) (slice_get texts place)

-- the pattern of a refusal
abbrev pub pattern_in : List (Option (List ℕ)) → Refused → Option (List ℕ)
pattern_in texts r = option_and_then (λ text. pattern_at text r.pattern) (text_at texts r.place)

-- it is a pattern of a text that reads, and not plain
abbrev pub IsRefusable : List (Option (List ℕ)) → Refused → Type 0
IsRefusable texts r = IsTrue (is_some (unless_plain (pattern_in texts r)))

abbrev pub patterns_in : List (Option (List ℕ)) → List Refused → List (List ℕ)
patterns_in texts refused = flat_map (λ r. option_to_list (pattern_in texts r)) refused

-- Of steps with these texts: each refusal names a place, once, and a pattern of its text that is not plain; and between
-- the build's two logs these patterns were refused, in order.
pub record IsBacked (texts : List (Option (List ℕ))) (refused : List Refused) (old new : Log) : Type 0 where
  pub rising : IsRising 0 refused
  pub fair : AllByRecursion (IsRefusable texts) refused
  pub grew : Grew old new (patterns_in texts refused)
