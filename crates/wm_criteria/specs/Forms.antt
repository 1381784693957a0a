-- The built forms of patterns: for each key of each group the pattern that was built, where it had to be.
use Rattle.std.specs.Prelude.{◌≡◌, ℕ, Bool, true, ◌||◌, List, [], Option, map, is_some}
use Rattle.std.specs.List.{list_all}
use Rattle.std.specs.Option.{ForSome}
use Rattle.wm_language.specs.declared.batch.Group.{Group}
use Rattle.wm_criteria.specs.declared.verdict.Verdict.{Verdict}
use Rattle.wm_criteria.specs.declared.verdict.Verdict.TheVariants.{Ready, Bad, PatternRefused}
use Rattle.wm_criteria.specs.Plain.{is_plain}
use Rattle.wm_criteria.specs.Patterns.{patterns_of, keys_of, to_build}

abbrev pub Forms : Type 0
Forms = List (List (Option (List ℕ)))

-- the forms of groups: each pattern that is not plain, in the place of its key
abbrev pub forms_of : List Group → Forms
forms_of gs = map (λ g. map to_build (keys_of g)) gs

abbrev pub verdict_forms : Verdict → Forms
verdict_forms (Ready b) = forms_of b.groups
verdict_forms (Bad at) = []
verdict_forms (PatternRefused n) = []

-- forms, where they are there, are those of the verdict's batch
abbrev pub Fits : Verdict → Option Forms → Type 0
Fits verdict forms = ForSome forms (λ fs. fs ≡ verdict_forms verdict)

-- no pattern of the groups has to be built
abbrev pub are_plain : List Group → Bool
are_plain gs = list_all is_plain (patterns_of gs)

-- nothing is to be matched, or each pattern that is not plain has its built form
abbrev pub has_forms : Verdict → Option Forms → Bool
has_forms (Ready b) forms = is_some forms || are_plain b.groups
has_forms (Bad at) forms = true
has_forms (PatternRefused n) forms = true
