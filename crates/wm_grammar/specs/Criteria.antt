-- Criteria: keys between brackets.
use Rattle.std.specs.Prelude.{ℕ, zero, suc, Bool, true, false, not, ◌||◌, ◌&&◌, ◌==◌, if◌then◌else◌, List, [], ◌∷◌, ◌++◌, drop, Option, Some, None, codes, option_map}
use Rattle.wm_language.specs.declared.batch.Key.{Key}
use Rattle.wm_language.specs.declared.batch.Key.TheVariants as keys
use Rattle.wm_grammar.specs.declared.keys.KeyName.{KeyName}
use Rattle.wm_grammar.specs.declared.keys.KeyName.TheVariants as names
use Rattle.wm_words.specs.Pieces.{◌>>=◌, is_nil, is_blank, ends_name, ends_value, starts, until, from, skip, choice, is_text, natural, argument, unquote}
use Rattle.wm_grammar.specs.Openings.{before_rest}

-- the names of keys that have a value
abbrev pub name_words : List (List ℕ × KeyName)
name_words = (codes "class", names.Class) ∷ (codes "instance", names.Instance) ∷ (codes "window_role", names.Role) ∷ (codes "window_type", names.Kind) ∷ (codes "machine", names.Machine) ∷ (codes "title", names.Title) ∷ (codes "con_mark", names.Mark) ∷ (codes "workspace", names.Workspace) ∷ (codes "id", names.Id) ∷ (codes "con_id", names.Con) ∷ (codes "urgent", names.Urgent) ∷ []

-- keys without a value
abbrev pub flag_words : List (List ℕ × Key)
flag_words = (codes "floating", keys.Floating) ∷ (codes "tiling", keys.Tiling) ∷ (codes "all", keys.All) ∷ []

-- which urgent window: true is the last
abbrev pub urgent_words : List (List ℕ × Bool)
urgent_words = (codes "latest", true) ∷ (codes "newest", true) ∷ (codes "last", true) ∷ (codes "recent", true) ∷ (codes "oldest", false) ∷ (codes "first", false) ∷ []

-- the key of a name and its value
unfoldable pub key_of : KeyName → List ℕ → Option Key
key_of names.Class x = option_map keys.Class (argument x)
key_of names.Instance x = option_map keys.Instance (argument x)
key_of names.Role x = option_map keys.Role (argument x)
key_of names.Kind x = option_map keys.Kind (argument x)
key_of names.Machine x = option_map keys.Machine (argument x)
key_of names.Title x = option_map keys.Title (argument x)
key_of names.Mark x = option_map keys.Mark (argument x)
key_of names.Workspace x = option_map keys.Workspace (argument x)
key_of names.Id x = option_map keys.Id (natural x)
key_of names.Con x = if is_text x (codes "__focused__") then Some (keys.Con None) else option_map (λ n. keys.Con (Some n)) (natural x)
key_of names.Urgent x = option_map keys.Urgent (choice urgent_words x)

-- the key of a name whose value is a text
abbrev pub texted : KeyName → List ℕ → Option Key
texted names.Class x = Some (keys.Class x)
texted names.Instance x = Some (keys.Instance x)
texted names.Role x = Some (keys.Role x)
texted names.Kind x = Some (keys.Kind x)
texted names.Machine x = Some (keys.Machine x)
texted names.Title x = Some (keys.Title x)
texted names.Mark x = Some (keys.Mark x)
texted names.Workspace x = Some (keys.Workspace x)
texted n x = None

-- a value, quoted or not, and what follows
unfoldable pub value_at : List ℕ → Option (List ℕ × List ℕ)
value_at s =
    if starts 34 s then unquote (drop 1 s)
    else if is_nil (until ends_value s) then None
    else Some (until ends_value s, from ends_value s)

-- the value behind = and what follows
unfoldable pub valued_at : KeyName → List ℕ → Option (Key × List ℕ)
valued_at name s = value_at s >>= λ v. option_map (before_rest v.1) (key_of name v.0)

-- a key, and what follows
unfoldable pub key_at : List ℕ → Option (Key × List ℕ)
key_at s =
    if starts 61 (from ends_name s) then choice name_words (until ends_name s) >>= (λ name. valued_at name (drop 1 (from ends_name s)))
    else option_map (before_rest (from ends_name s)) (choice flag_words (until ends_name s))

-- ---- each key at most once

-- the place of a key among all keys
abbrev pub place_of : Key → ℕ
place_of (keys.Class x) = 0
place_of (keys.Instance x) = 1
place_of (keys.Role x) = 2
place_of (keys.Kind x) = 3
place_of (keys.Machine x) = 4
place_of (keys.Title x) = 5
place_of (keys.Mark x) = 6
place_of (keys.Workspace x) = 7
place_of (keys.Id n) = 8
place_of (keys.Con o) = 9
place_of (keys.Urgent latest) = 10
place_of keys.Floating = 11
place_of keys.Tiling = 12
place_of keys.All = 13

-- a key of this place is among them
unfoldable pub has_place : ℕ → List Key → Bool
has_place p [] = false
has_place p (k ∷ ks) = (place_of k == p) || has_place p ks

-- a key ends here: at a blank or ]
abbrev pub ends_key : List ℕ → Bool
ends_key [] = false
ends_key (c ∷ r) = is_blank c || (c == 93)

-- ---- the keys up to ]

-- the keys that were read, where ] stands here, and what follows it
abbrev pub closed_keys : List Key → List ℕ → Option (List Key × List ℕ)
closed_keys seen s = if starts 93 s && not (is_nil seen) then Some (seen, drop 1 s) else None

-- behind a key: more keys, where the key ends and is new
abbrev pub and_keys : (List Key → List ℕ → Option (List Key × List ℕ)) → List Key → Key × List ℕ → Option (List Key × List ℕ)
and_keys go seen k = if ends_key k.1 && not (has_place (place_of k.0) seen) then go (seen ++ k.0 ∷ []) k.1 else None

-- at most n more keys behind those seen, and ]
unfoldable pub keys_at : ℕ → List Key → List ℕ → Option (List Key × List ℕ)
keys_at zero seen s = closed_keys seen (skip s)
keys_at (suc n) seen s = if starts 93 (skip s) then closed_keys seen (skip s) else key_at (skip s) >>= and_keys (keys_at n) seen

-- the criteria behind [ and what follows them: one to sixteen keys
unfoldable pub criteria_at : List ℕ → Option (List Key × List ℕ)
criteria_at s = keys_at 16 [] s
