-- Where the first fault of a layout file stands.
use Rattle.std.specs.Prelude.{◌≡◌, ℕ, List, [], ◌∷◌, Option, Some, Err, option_and_then, decimal, ◌⊎◌}
use Rattle.serde_json.specs.Data.{Data}
use Rattle.serde_json.specs.Find.{at, get}
use Rattle.wm_saved.specs.Answers.{below}
use Rattle.wm_saved.specs.Reading.{trees_at}
use Rattle.wm_saved.specs.declared.refusal.LayoutRefusal.{LayoutRefusal}
use Rattle.wm_saved.specs.declared.refusal.LayoutRefusal.TheVariants.{BadField, PatternRefused}

-- a step down: to the value of a key, or to the item at a place
pub data Step : Type 0 where
  to_key : List ℕ → Step
  to_place : ℕ → Step

-- how a path has it
abbrev pub step_word : Step → List ℕ
step_word (to_key k) = k
step_word (to_place i) = decimal i

-- the value one step down
abbrev pub down : Step → Data → Option Data
down (to_key k) d = get k d
down (to_place i) d = at i d

-- the value to which steps lead
abbrev pub led : List Step → Data → Option Data
led [] d = Some d
led (s ∷ ss) d = option_and_then (led ss) (down s d)

-- the path of steps from a path on
abbrev pub path_of : List ℕ → List Step → List ℕ
path_of path [] = path
path_of path (s ∷ ss) = path_of (below path (step_word s)) ss

-- a refusal names this path, for a value or for a pattern
abbrev pub names : LayoutRefusal → List ℕ → Type 0
names e path = (e ≡ BadField path) ⊎ (e ≡ PatternRefused path)

-- a refusal names the path of a value that is there, below a path
abbrev pub IsThere : List ℕ → Data → LayoutRefusal → Type 0
IsThere path d e = (steps : List Step) × (v : Data) × (led steps d ≡ Some v) × names e (path_of path steps)

-- the first fault is that of a value that is there, and its path leads to it
abbrev pub FaultsAreThere : Type 0
FaultsAreThere = (d : Data) (e : LayoutRefusal) → trees_at [] d ≡ Err e → IsThere [] d e
