-- What stands before the last quote of a text, by its last byte.
use Rattle.std.proofs.Common.{◌≡◌, ℕ, ◌-◌, ◌≤◌, false, List, [], ◌∷◌, ◌++◌, length, get_or, take, Some, refl, sym, ap, ◌∙◌}
use Rattle.std.specs.Prelude.{◌==◌}
use Rattle.std.proofs.lemmas.Bool.{ne_eqb}
use Rattle.wm_grammar.specs.Farthest.{before_quote, before_last_quote}
use Rattle.wm_words.proofs.Pieces.{last_split}

quote_last : (xs : List ℕ) → before_last_quote (xs ++ 34 ∷ []) ≡ Some xs
unfolding before_last_quote
quote_last [] = refl
quote_last (x ∷ xs) = ap (before_quote x) (quote_last xs)

quote_other : (xs : List ℕ) (c : ℕ) → (c ≡ 34 → ⊥) → before_last_quote (xs ++ c ∷ []) ≡ before_last_quote xs
unfolding before_last_quote
quote_other [] c e = let miss : (c == 34) ≡ false = ne_eqb c 34 e in rw miss refl
quote_other (x ∷ xs) c e = ap (before_quote x) (quote_other xs c e)

pub last_quote_found : (s : List ℕ) → 1 ≤ length s → get_or s (length s - 1) 0 ≡ 34 → before_last_quote s ≡ Some (take (length s - 1) s)
last_quote_found s h e = ap before_last_quote (last_split s h ∙ ap (λ (c : ℕ). take (length s - 1) s ++ c ∷ []) e) ∙ quote_last (take (length s - 1) s)

pub last_quote_other : (s : List ℕ) → 1 ≤ length s → (get_or s (length s - 1) 0 ≡ 34 → ⊥) → before_last_quote (take (length s - 1) s) ≡ before_last_quote s
last_quote_other s h e = sym (ap before_last_quote (last_split s h) ∙ quote_other (take (length s - 1) s) (get_or s (length s - 1) 0) e)
