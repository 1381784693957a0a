-- What a placeholder swallows: patterns for the properties of windows.
use Rattle.std.specs.Prelude.{ℕ, if◌then◌else◌, List, [], ◌∷◌, ◌++◌, Option, Some, None, Ok, Err, codes}
use Rattle.serde_json.specs.Data.{Data}
use Rattle.serde_json.specs.Find.{get}
use Rattle.wm_forest.specs.declared.part.Swallow.{Swallow}
use Rattle.wm_forest.specs.declared.part.SwallowKey.{SwallowKey}
use Rattle.wm_forest.specs.declared.part.SwallowKey.TheVariants.{Class, Instance, Machine, Role, Title}
use Rattle.wm_criteria.specs.Plain.{is_plain}
use Rattle.wm_saved.specs.declared.refusal.LayoutRefusal.TheVariants.{PatternRefused}
use Rattle.wm_saved.specs.Answers.{Answer, ◌>>=◌, below, or_bad}
use Rattle.wm_saved.specs.Fields.{array_field, text_in}

-- patterns, each with the property that it is held against
abbrev pub Keys : Type 0
Keys = List (SwallowKey × List ℕ)

-- only a plain pattern is taken
abbrev pub plain_only : List ℕ → List ℕ → Answer (Option (List ℕ))
plain_only path p = if is_plain p then Ok (Some p) else Err (PatternRefused path)

-- the pattern of a key, a text of at most 1,024 bytes, or none where the key is missing
abbrev pub found_pattern : List ℕ → Option Data → Answer (Option (List ℕ))
found_pattern path None = Ok None
found_pattern path (Some d) = or_bad path (text_in d) >>= plain_only path

abbrev pub pattern_of : List ℕ → List ℕ → Data → Answer (Option (List ℕ))
pattern_of path key d = found_pattern (below path key) (get key d)

-- the key that has the pattern for a property
abbrev pub key_of : SwallowKey → List ℕ
key_of Class = codes "class"
key_of Instance = codes "instance"
key_of Machine = codes "machine"
key_of Title = codes "title"
key_of Role = codes "window_role"

-- the properties, in the byte order of their keys
abbrev pub properties : List SwallowKey
properties = Class ∷ Instance ∷ Machine ∷ Title ∷ Role ∷ []

-- a pattern for a property, or none
abbrev pub keyed : SwallowKey → Option (List ℕ) → Keys
keyed k None = []
keyed k (Some p) = (k, p) ∷ []

-- behind other patterns, the one for a property
abbrev pub and_pattern : Keys → List ℕ → SwallowKey → Data → Answer Keys
and_pattern keys path k d = pattern_of path (key_of k) d >>= λ p. Ok (keys ++ keyed k p)

-- behind other patterns, those for these properties of the object at a path
unfoldable pub and_patterns : Keys → List ℕ → List SwallowKey → Data → Answer Keys
and_patterns keys path [] d = Ok keys
and_patterns keys path (k ∷ ks) d = and_pattern keys path k d >>= λ more. and_patterns more path ks d

-- at least one key
abbrev pub some_of : List ℕ → Keys → Answer Swallow
some_of path [] = or_bad path None
some_of path (k ∷ ks) = Ok (record { keys = k ∷ ks })

-- an object of such patterns, at least one
unfoldable pub swallow_at : List ℕ → Data → Answer Swallow
swallow_at path d = and_patterns [] path properties d >>= some_of path

abbrev pub swallows_of : List ℕ → Data → Answer (List Swallow)
swallows_of path d = array_field swallow_at path (codes "swallows") d
