-- How far a text is a spelling.
use Rattle.std.specs.Prelude.{◌≡◌, ℕ, ◌<◌, ◌≤◌, ◌⊎◌, List, [], length, take}
use Rattle.wm_language.specs.declared.batch.Batch.{Batch}
use Rattle.wm_language.specs.Bytes.{Last}
use Rattle.wm_language.specs.Batches.{Spells}

-- the text is empty, or it ends with `;` and is a spelling of some batch
abbrev pub IsWhole : List ℕ → Type 0
IsWhole text = (text ≡ []) ⊎ (Last (λ c. c ≡ 59) text × ((b : Batch) × Spells text b))

-- n is the greatest number of bytes at the front of the text that are so
pub record IsFarthest (text : List ℕ) (n : ℕ) : Type 0 where
  pub within : n ≤ length text
  pub whole : IsWhole (take n text)
  pub greatest : (m : ℕ) → n < m → m ≤ length text → IsWhole (take m text) → ⊥
