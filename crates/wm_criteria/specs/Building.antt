-- Building patterns: what a built one is, and the log of the refused ones.
use Rattle.std.specs.Prelude.{◌≡◌, ℕ, ◌+◌, ◌≤◌, min, Bool, List, [], ◌∷◌, ◌++◌, length, Option, None, Some, Result, Ok, Err, ⊤}
use Rattle.std.specs.List.{list_any}
use Rattle.std.specs.Str.{bytes_eq}
use Rattle.regex.specs.Patterns.{default_config}
use Rattle.regex.specs.Strings.{regex_source, regex_config, IsReadFromSource}
use Rattle.regex.specs.declared.string.regex.Regex.{Regex}
use Rattle.wm_defs.specs.Counts.{LAST_COUNT}
use Rattle.wm_criteria.specs.declared.build.BuildFault.{BuildFault}
use Rattle.wm_criteria.specs.declared.build.BuildFault.TheVariants.{Refused, NoMemory}

-- the regex is the one that is read from its text under the default options
pub record IsRead (regex : Regex) : Type 0 where
  pub options : regex_config regex ≡ default_config
  pub text : IsReadFromSource regex

-- the regex is the one that is read from this text
pub record IsReadFrom (text : List ℕ) (regex : Regex) : Type 0 where
  pub source : regex_source regex ≡ text
  pub read : IsRead regex

-- the texts that were refused by a building with this result: this one, or none
abbrev pub refused_in : {X : Type 0} → Result X BuildFault → List ℕ → List (List ℕ)
refused_in (Ok x) text = []
refused_in (Err Refused) text = text ∷ []
refused_in (Err NoMemory) text = []

-- how many refusals a build counted, and the texts that it refused, in order, where it tells them
pub record Log : Type 0 where
  pub count : ℕ
  pub texts : Option (List (List ℕ))

-- a count rose by n at least, or stands at its last value
abbrev pub RoseBy : ℕ → ℕ → ℕ → Type 0
RoseBy n old new = min (old + n) LAST_COUNT ≤ new

-- the texts that are told are the old ones, and then these
abbrev pub Tells : Option (List (List ℕ)) → Option (List (List ℕ)) → List (List ℕ) → Type 0
Tells None new refused = ⊤
Tells (Some old) new refused = new ≡ Some (old ++ refused)

-- between two logs these texts were refused, in this order: the count rose by as many, and no others are told
pub record Grew (old new : Log) (refused : List (List ℕ)) : Type 0 where
  pub kept : old.count ≤ new.count
  pub rose : RoseBy (length refused) old.count new.count
  pub told : Tells old.texts new.texts refused

-- what a build from a list holds: the texts of its list, those that it refused, and how many refusals it counted
pub record ListState : Type 0 where
  pub listed : List (List ℕ)
  pub told : List (List ℕ)
  pub refusals : ℕ

-- its log, with all the texts that it refused
abbrev pub list_log : ListState → Log
list_log build = record { count = build.refusals; texts = Some build.told }

-- the text is in the list
abbrev pub is_listed : List (List ℕ) → List ℕ → Bool
is_listed listed text = list_any (λ x. bytes_eq x text) listed
