-- The patterns of a text: the values of its keys that are searched, in the order of the text.
use Rattle.std.specs.Prelude.{ℕ, ◌+◌, ◌==◌, if◌then◌else◌, List, [], ◌∷◌, Option, Some, None, codes, option_and_then}
use Rattle.std.specs.List.{flat_map, slice_get}
use Rattle.std.specs.Option.{option_to_list}
use Rattle.std.specs.Str.{bytes_eq}
use Rattle.wm_grammar.specs.Reading.{groups_of}
use Rattle.wm_language.specs.declared.batch.Key.{Key}
use Rattle.wm_language.specs.declared.batch.Key.TheVariants as keys
use Rattle.wm_language.specs.declared.batch.Criteria.{Criteria}
use Rattle.wm_language.specs.declared.batch.Group.{Group}
use Rattle.wm_criteria.specs.Plain.{is_plain}

-- a value that may stand for the focused window or workspace, and is then no pattern
abbrev pub unless_focused : List ℕ → Option (List ℕ)
unless_focused x = if bytes_eq x (codes "__focused__") then None else Some x

-- the pattern of a key, where its value is one
abbrev pub pattern_of : Key → Option (List ℕ)
pattern_of (keys.Class x) = unless_focused x
pattern_of (keys.Instance x) = unless_focused x
pattern_of (keys.Role x) = unless_focused x
pattern_of (keys.Kind x) = None
pattern_of (keys.Machine x) = unless_focused x
pattern_of (keys.Title x) = unless_focused x
pattern_of (keys.Mark x) = Some x
pattern_of (keys.Workspace x) = unless_focused x
pattern_of (keys.Id n) = None
pattern_of (keys.Con o) = None
pattern_of (keys.Urgent latest) = None
pattern_of keys.Floating = None
pattern_of keys.Tiling = None
pattern_of keys.All = None

abbrev pub criteria_keys : Option Criteria → List Key
criteria_keys None = []
criteria_keys (Some criteria) = criteria.keys

-- the keys of a group
abbrev pub keys_of : Group → List Key
keys_of g = criteria_keys g.criteria

-- the patterns of keys, and of groups, in their order
abbrev pub key_patterns : List Key → List (List ℕ)
key_patterns ks = flat_map (λ k. option_to_list (pattern_of k)) ks

abbrev pub patterns_of : List Group → List (List ℕ)
patterns_of gs = flat_map (λ g. key_patterns (keys_of g)) gs

-- pattern number n of the text, counted from 0
abbrev pub pattern_at : List ℕ → ℕ → Option (List ℕ)
pattern_at text n = option_and_then (λ gs. slice_get (patterns_of gs) n) (groups_of text)

-- a pattern that has to be built: one that is not plain
abbrev pub unless_plain : Option (List ℕ) → Option (List ℕ)
unless_plain None = None
unless_plain (Some p) = if is_plain p then None else Some p

-- the pattern of a key, where it has to be built
abbrev pub to_build : Key → Option (List ℕ)
to_build k = unless_plain (pattern_of k)

-- the pattern of this number among some, of which the first has that number
abbrev pub numbered : ℕ → List (List ℕ) → ℕ → Option (List ℕ)
numbered first [] n = None
numbered first (p ∷ ps) n = if n == first then Some p else numbered (first + 1) ps n
