-- What a pattern matches, plain or not, and the built forms that a search is handed.
use Rattle.std.specs.Prelude.{◌≡◌, ℕ, Bool, false, if◌then◌else◌, List, [], ◌∷◌, Option, None, Some, is_some, ⊤}
use Rattle.std.specs.List.{slice_get}
use Rattle.std.specs.Option.{option_map_or}
use Rattle.std.specs.Str.{chars}
use Rattle.std.specs.Coded.{Coded-set, coded_list, coded_option, coded_ℕ, ×_prop}
use Rattle.std.proofs.Props.{props}
use Rattle.regex.specs.Patterns.{default_config, find_str}
use Rattle.regex_syntax.specs.Grammar.{read}
use Rattle.wm_language.specs.declared.batch.Key.{Key}
use Rattle.wm_criteria.specs.declared.verdict.Verdict.{Verdict}
use Rattle.wm_criteria.specs.declared.verdict.Verdict.TheVariants.{Ready, Bad, PatternRefused}
use Rattle.wm_criteria.specs.Forms.{Forms}
use Rattle.wm_criteria.specs.Patterns.{keys_of, to_build}
use Rattle.wm_criteria.specs.Plain.{is_plain, plain_search}

-- what is read in the pattern by the crate of regular expressions is found in the text
abbrev pub regex_search : List ℕ → List ℕ → Bool
regex_search p text = option_map_or (λ x. is_some (find_str x.0.value text 0)) (read default_config (chars p)) false

-- the pattern matches the text
abbrev pub searches : List ℕ → List ℕ → Bool
searches p text = if is_plain p then plain_search p text else regex_search p text

-- the text is matched by the pattern that was built, where one was
abbrev pub form_search : Option (List ℕ) → List ℕ → Bool
form_search None text = false
form_search (Some p) text = regex_search p text

-- ---- the keys and forms of a group

-- the keys of this group of the verdict's batch; none where it is not there
abbrev pub group_keys : Verdict → ℕ → List Key
group_keys (Ready b) n = option_map_or keys_of (slice_get b.groups n) []
group_keys (Bad at) n = []
group_keys (PatternRefused k) n = []

-- the forms of this group; none where it is not there
abbrev pub forms_at : Forms → ℕ → List (Option (List ℕ))
forms_at fs n = option_map_or (λ f. f) (slice_get fs n) []

-- the first of the forms, and those behind it
abbrev pub first_form : List (Option (List ℕ)) → Option (List ℕ)
first_form [] = None
first_form (f ∷ fs) = f

abbrev pub forms_behind : List (Option (List ℕ)) → List (Option (List ℕ))
forms_behind [] = []
forms_behind (f ∷ fs) = fs

-- each key that needs a form has it in its place
abbrev pub AreFormsOf : List Key → List (Option (List ℕ)) → Type 0
AreFormsOf [] fs = ⊤
AreFormsOf (k ∷ ks) fs = (first_form fs ≡ to_build k) × AreFormsOf ks (forms_behind fs)

-- keys have forms in one way at most
pub AreFormsOf-prop : (ks : List Key) (fs : List (Option (List ℕ))) → IsProp (AreFormsOf ks fs)
AreFormsOf-prop [] fs = hlevel props
AreFormsOf-prop (k ∷ ks) fs = ×_prop (Coded-set (coded_option (coded_list coded_ℕ)) (first_form fs) (to_build k)) (AreFormsOf-prop ks (forms_behind fs))
