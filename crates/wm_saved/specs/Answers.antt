-- What reading answers: what is read, or why it is not; and the paths of faults.
use Rattle.std.specs.Prelude.{◌≡◌, ℕ, List, [], ◌∷◌, ◌++◌, Option, Some, None, Result, Ok, Err}
use Rattle.wm_saved.specs.declared.refusal.LayoutRefusal.{LayoutRefusal}
use Rattle.wm_saved.specs.declared.refusal.LayoutRefusal.TheVariants.{BadField, NoMemory}

-- what is read, or why it is not
abbrev pub Answer : Type 0 → Type 0
Answer A = Result A LayoutRefusal

infixl 10 ◌>>=◌
-- what is read of the one, and then of the other by it; the first refusal counts
abbrev pub ◌>>=◌ : {A B : Type 0} → Answer A → (A → Answer B) → Answer B
Ok x >>= f = f x
Err e >>= f = Err e

-- the path one step further down: keys and places joined by dots
abbrev pub below : List ℕ → List ℕ → List ℕ
below [] step = step
below (c ∷ path) step = c ∷ path ++ 46 ∷ step

-- a value that has none of the forms it may have is at fault at its path
abbrev pub or_bad : {A : Type 0} → List ℕ → Option A → Answer A
or_bad path (Some x) = Ok x
or_bad path None = Err (BadField path)

-- a refusal is this one, or want of memory
abbrev pub IsRefusal : LayoutRefusal → LayoutRefusal → Type 0
IsRefusal d e = (e ≡ NoMemory → ⊥) → d ≡ e

-- what was answered is what the definition answers, or want of memory
abbrev pub IsAnswer : {A : Type 0} → Answer A → Answer A → Type 0
IsAnswer d (Ok x) = d ≡ Ok x
IsAnswer d (Err e) = (e ≡ NoMemory → ⊥) → d ≡ Err e
