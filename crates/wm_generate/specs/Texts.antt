-- The texts of commands that are run.
use Rattle.std.specs.Prelude.{ℕ, ◌/◌, ◌%◌, ◌==◌, Bool, false, if◌then◌else◌, List, [], Option, None, Some, unwrap_or, codes}
use Rattle.wm_criteria.specs.Forms.{are_plain}
use Rattle.wm_criteria.specs.declared.verdict.Verdict.{Verdict}
use Rattle.wm_criteria.specs.declared.verdict.Verdict.TheVariants.{Ready}
use Rattle.wm_grammar.specs.Reading.{groups_of}
use Rattle.wm_language.specs.declared.batch.Group.{Group}

-- the text that shows one of the first four workspaces, by a number
abbrev pub showing : ℕ → List ℕ
showing n =
    if n % 4 == 0 then codes "workspace number 1"
    else if n % 4 == 1 then codes "workspace number 2"
    else if n % 4 == 2 then codes "workspace number 3"
    else codes "workspace number 4"

-- the text that is run, by a number
abbrev pub text_by : ℕ → List ℕ
text_by q =
    if q % 8 == 0 then codes "split toggle"
    else if q % 8 == 1 then codes "layout toggle all"
    else if q % 8 == 2 then codes "focus left"
    else if q % 8 == 3 then codes "focus right"
    else if q % 8 == 4 then codes "move left"
    else if q % 8 == 5 then codes "move right"
    else if q % 8 == 6 then codes "floating toggle"
    else showing (q / 8)

-- the groups that a text reads as; none where it does not read
abbrev pub groups_in : List ℕ → List Group
groups_in text = unwrap_or (groups_of text) []

-- the verdict on a text that reads and has no pattern that is to be built
abbrev pub ready : List ℕ → Verdict
ready text = Ready (record { groups = groups_in text })

-- the groups have no pattern that is to be built
abbrev pub has_plain : Option (List Group) → Bool
has_plain None = false
has_plain (Some groups) = are_plain groups

-- the text reads, and has no pattern that is to be built
abbrev pub reads_plain : List ℕ → Bool
reads_plain text = has_plain (groups_of text)
