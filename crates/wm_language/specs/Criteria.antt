-- Which text is which criteria.
use Rattle.std.specs.Prelude.{◌≡◌, ℕ, ◌≤◌, ◌⊎◌, Bool, true, false, List, [], ◌∷◌, ◌++◌, length, Some, None, codes}
use Rattle.wm_language.specs.declared.batch.Key.{Key}
use Rattle.wm_language.specs.declared.batch.Key.TheVariants as keys
use Rattle.wm_language.specs.Words.{IsArgument, in_small, Quoted, IsNatural}
use Rattle.wm_language.specs.Bytes.{IsBlank, IsQuote, Each}

-- ---- keys

-- the name of a key
abbrev pub name_of : Key → List ℕ
name_of (keys.Class x) = codes "class"
name_of (keys.Instance x) = codes "instance"
name_of (keys.Role x) = codes "window_role"
name_of (keys.Kind x) = codes "window_type"
name_of (keys.Machine x) = codes "machine"
name_of (keys.Title x) = codes "title"
name_of (keys.Mark x) = codes "con_mark"
name_of (keys.Workspace x) = codes "workspace"
name_of (keys.Id n) = codes "id"
name_of (keys.Con o) = codes "con_id"
name_of (keys.Urgent latest) = codes "urgent"
name_of keys.Floating = codes "floating"
name_of keys.Tiling = codes "tiling"
name_of keys.All = codes "all"

-- one byte or more, and no blank, `]` or `"`
pub record IsBareValue (x : List ℕ) : Type 0 where
  pub some : 1 ≤ length x
  pub each : Each (λ c. (IsBlank c → ⊥) × (c ≡ 93 → ⊥) × (IsQuote c → ⊥)) x

-- the text is the value x, quoted or not
abbrev pub IsValue : List ℕ → List ℕ → Type 0
IsValue x text = Quoted x text ⊎ ((text ≡ x) × IsBareValue x)

-- the text is the name in any case, `=`, and a value that means what it has to
pub record HasValue (name : List ℕ) (Means : List ℕ → Type 0) (text : List ℕ) : Type 0 where
  pub key : List ℕ
  pub written : List ℕ
  pub value : List ℕ
  pub whole : text ≡ key ++ 61 ∷ written
  pub named : in_small key ≡ name
  pub is : IsValue value written
  pub means : Means value

-- the value is this pattern
abbrev pub IsPattern : List ℕ → List ℕ → Type 0
IsPattern x value = IsArgument x × (value ≡ x)

-- which urgent window, in any case: the latest or the oldest
pub data UrgentWord : List ℕ → Bool → Type 0 where
  urgent_latest : UrgentWord (codes "latest") true
  urgent_newest : UrgentWord (codes "newest") true
  urgent_last : UrgentWord (codes "last") true
  urgent_recent : UrgentWord (codes "recent") true
  urgent_oldest : UrgentWord (codes "oldest") false
  urgent_first : UrgentWord (codes "first") false

-- the text is the key
abbrev pub IsKey : Key → List ℕ → Type 0
IsKey (keys.Class x) text = HasValue (codes "class") (IsPattern x) text
IsKey (keys.Instance x) text = HasValue (codes "instance") (IsPattern x) text
IsKey (keys.Role x) text = HasValue (codes "window_role") (IsPattern x) text
IsKey (keys.Kind x) text = HasValue (codes "window_type") (IsPattern x) text
IsKey (keys.Machine x) text = HasValue (codes "machine") (IsPattern x) text
IsKey (keys.Title x) text = HasValue (codes "title") (IsPattern x) text
IsKey (keys.Mark x) text = HasValue (codes "con_mark") (IsPattern x) text
IsKey (keys.Workspace x) text = HasValue (codes "workspace") (IsPattern x) text
IsKey (keys.Id n) text = HasValue (codes "id") (λ v. IsNatural n v) text
IsKey (keys.Con None) text = HasValue (codes "con_id") (λ v. v ≡ codes "__focused__") text
IsKey (keys.Con (Some n)) text = HasValue (codes "con_id") (λ v. IsNatural n v) text
IsKey (keys.Urgent latest) text = HasValue (codes "urgent") (λ v. UrgentWord (in_small v) latest) text
IsKey keys.Floating text = in_small text ≡ codes "floating"
IsKey keys.Tiling text = in_small text ≡ codes "tiling"
IsKey keys.All text = in_small text ≡ codes "all"

-- ---- criteria

-- a key, blanks, and the other keys
pub record KeyThen (k : Key) (Others : List ℕ → Type 0) (text : List ℕ) : Type 0 where
  pub key : List ℕ
  pub blanks : List ℕ
  pub others : List ℕ
  pub whole : text ≡ key ++ (blanks ++ others)
  pub is : IsKey k key
  pub blank : Each IsBlank blanks
  pub some : 1 ≤ length blanks
  pub more : Others others

-- the text is the keys, one or more, with blanks between them
abbrev pub AreKeys : List Key → List ℕ → Type 0
AreKeys [] text = ⊥
AreKeys (k ∷ []) text = IsKey k text
AreKeys (k ∷ l ∷ ks) text = KeyThen k (AreKeys (l ∷ ks)) text

-- none of the keys has that name
abbrev pub HasNot : List ℕ → List Key → Type 0
HasNot name [] = Unit {0}
HasNot name (k ∷ ks) = (name_of k ≡ name → ⊥) × HasNot name ks

-- each name stands at most once
abbrev pub Once : List Key → Type 0
Once [] = Unit {0}
Once (k ∷ ks) = HasNot (name_of k) ks × Once ks

-- the text is the keys between `[` and `]`, with blanks at both ends or not
pub record Bracketed (ks : List Key) (text : List ℕ) : Type 0 where
  pub front : List ℕ
  pub inner : List ℕ
  pub back : List ℕ
  pub whole : text ≡ 91 ∷ (front ++ (inner ++ (back ++ 93 ∷ [])))
  pub front_blank : Each IsBlank front
  pub back_blank : Each IsBlank back
  pub keys : AreKeys ks inner
  pub few : length ks ≤ 16
  pub once : Once ks
