-- Where building the patterns of a text stopped.
use Rattle.std.specs.Prelude.{ℕ, List, [], Result, Ok, Err, IsTrue, is_some, ⊤}
use Rattle.std.specs.Option.{option_to_list}
use Rattle.wm_criteria.specs.declared.forms.Stop.{Stop}
use Rattle.wm_criteria.specs.declared.forms.Stop.TheVariants.{Refused, NoMemory}
use Rattle.wm_criteria.specs.Patterns.{numbered, unless_plain}

-- a refusal is one of a pattern that is not plain, by its number among these, of which the first has that number
abbrev pub IsStop : ℕ → List (List ℕ) → Stop → Type 0
IsStop first patterns (Refused n) = IsTrue (is_some (unless_plain (numbered first patterns n)))
IsStop first patterns NoMemory = ⊤

-- the patterns that were refused
abbrev pub stop_texts : ℕ → List (List ℕ) → Stop → List (List ℕ)
stop_texts first patterns (Refused n) = option_to_list (numbered first patterns n)
stop_texts first patterns NoMemory = []

abbrev pub texts_of : {X : Type 0} → ℕ → List (List ℕ) → Result X Stop → List (List ℕ)
texts_of first patterns (Ok x) = []
texts_of first patterns (Err e) = stop_texts first patterns e
