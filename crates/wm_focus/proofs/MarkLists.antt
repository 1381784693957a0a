-- Marks that are the same, and a list with one of them alone.
use Rattle.std.proofs.Common.{◌≡◌, ℕ, Bool, true, false, List, [], ◌∷◌, refl}
use Rattle.std.proofs.lemmas.Slice.Eq.{bytes_eq-Decides}
use Rattle.std.specs.Str.{bytes_eq}
use Rattle.wm_focus.specs.Marks.{bears, that_mark}

pub bytes_self : (n : List ℕ) → bytes_eq n n ≡ true
bytes_self n = (bytes_eq-Decides n n).1 refl

pub bytes_one : (m n : List ℕ) → bytes_eq m n ≡ true → m ≡ n
bytes_one m n h = (bytes_eq-Decides m n).0 h

-- the mark is among the marks where it is left alone
pub bears_that : (n : List ℕ) (ms : List (List ℕ)) → bears n (that_mark n ms) ≡ bears n ms
bears_that n [] = refl
bears_that n (m ∷ ms) = by (bytes_eq m n) refl (bears_that n ms) where
  by : (b : Bool) → bytes_eq m n ≡ b → bears n (that_mark n ms) ≡ bears n ms → bears n (that_mark n (m ∷ ms)) ≡ bears n (m ∷ ms)
  by true e h = simp e refl
  by false e h = simp e h
