-- What the verdict on a text says.
use Rattle.std.specs.Prelude.{◌≡◌, ℕ, List, [], None, Some, IsTrue, is_some, ⊤}
use Rattle.std.specs.Option.{option_to_list}
use Rattle.std.specs.Coded.{Coded-set, coded_option, ×_prop}
use Rattle.std.proofs.Props.{props}
use Rattle.wm_language.specs.contracts.batch.Batch.{the_row}
use Rattle.wm_grammar.specs.Reading.{batch_of, Reads, IsReach}
use Rattle.wm_criteria.specs.declared.verdict.Verdict.{Verdict}
use Rattle.wm_criteria.specs.declared.verdict.Verdict.TheVariants.{Ready, Bad, PatternRefused}
use Rattle.wm_criteria.specs.Patterns.{pattern_at, unless_plain}

-- the batch of which the text is a spelling; or there is none, and this is how far it reads; or it has this pattern,
-- which is not plain
abbrev pub IsVerdict : List ℕ → Verdict → Type 0
IsVerdict text (Ready batch) = Reads text batch
IsVerdict text (Bad at) = (batch_of text ≡ None) × IsReach text at
IsVerdict text (PatternRefused n) = IsTrue (is_some (unless_plain (pattern_at text n)))

-- the patterns of the text that the verdict says were refused
abbrev pub refused_patterns : List ℕ → Verdict → List (List ℕ)
refused_patterns text (Ready batch) = []
refused_patterns text (Bad at) = []
refused_patterns text (PatternRefused n) = option_to_list (pattern_at text n)

-- the fact, where the verdict is a refusal
abbrev pub OnRefusal : Verdict → Type 0 → Type 0
OnRefusal (Ready batch) fact = ⊤
OnRefusal (Bad at) fact = ⊤
OnRefusal (PatternRefused n) fact = fact

reach_prop : (text : List ℕ) (at : ℕ) → IsProp (IsReach text at)
reach_prop text at = hlevel props

-- a text has a verdict in one way at most
pub IsVerdict-prop : (text : List ℕ) (verdict : Verdict) → IsProp (IsVerdict text verdict)
IsVerdict-prop text (Ready batch) = Coded-set (coded_option the_row.coded) (batch_of text) (Some batch)
IsVerdict-prop text (Bad at) = ×_prop (Coded-set (coded_option the_row.coded) (batch_of text) None) (reach_prop text at)
IsVerdict-prop text (PatternRefused n) = hlevel props
