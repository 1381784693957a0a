-- What a prepared text has of its built patterns, and what preparing it refused.
use Rattle.std.specs.Prelude.{◌≡◌, ℕ, Bool, List, [], None, Result, Ok, Err}
use Rattle.wm_base.specs.declared.errors.NoMemory.{NoMemory}
use Rattle.wm_criteria.specs.declared.prepared.Prepared.{Prepared}
use Rattle.wm_criteria.specs.Forms.{has_forms}
use Rattle.wm_criteria.specs.Verdict.{refused_patterns}

-- nothing is to be matched, or each pattern that is not plain has its built form
abbrev pub is_built : Prepared → Bool
is_built p = has_forms p.verdict p.forms

-- it has no built patterns
abbrev pub IsBare : Prepared → Type 0
IsBare p = p.forms ≡ None

-- the patterns of the text that were refused when it was prepared with this result
abbrev pub refused_by : List ℕ → Result Prepared NoMemory → List (List ℕ)
refused_by text (Ok p) = refused_patterns text p.verdict
refused_by text (Err e) = []
