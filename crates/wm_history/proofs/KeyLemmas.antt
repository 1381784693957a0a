-- Chords: their parts, from one `+` to the next.
use Rattle.std.proofs.Common.{◌≡◌, ◌≢◌, ◌∙◌, ap, sym, refl, ℕ, suc, ◌<◌, ◌+◌, Bool, true, false, cond, eqb, List, [], ◌∷◌, ◌++◌, append-nil, append_assoc, length, get_or, Option, Some, None, Bor, arith}
use Rattle.std.specs.Option.{MatchOption}
use Rattle.std.proofs.lemmas.Bool.{ne_eqb}
use Rattle.std.proofs.lemmas.List.{length-append}
use Rattle.std.proofs.lemmas.Str.Pattern.{IsSplitOnceResult, split_parts}
use Rattle.wm_history.specs.Keys.{Chord, IsPartOf, chord_from, chord_of, with_part}

otherwise : (b : Bool) (x y : Chord) → b ≡ false → cond b x y ≡ y
otherwise true x y h = cc
otherwise false x y h = refl

-- a text without a `+` lengthens the part
plain : (part xs ys : List ℕ) → ((i : ℕ) → i < length xs → get_or xs i 0 ≢ 43) → chord_from part (xs ++ ys) ≡ chord_from (part ++ xs) ys
plain part [] ys none = ap (λ p. chord_from p ys) (sym (append-nil part))
plain part (x ∷ xs) ys none =
    otherwise (eqb x 43) (with_part part (chord_from [] (xs ++ ys))) (chord_from (part ++ x ∷ []) (xs ++ ys)) (ne_eqb x 43 (none 0 (omega arith)))
    ∙ (plain (part ++ x ∷ []) xs ys (λ i l. none (suc i) (omega (arith, l))) ∙ ap (λ p. chord_from p ys) (append_assoc part (x ∷ []) xs))

pub first_part : (chord : List ℕ) (r : Option (Bor (List ℕ) × Bor (List ℕ))) → IsSplitOnceResult 43 chord r
    → MatchOption r (chord_of chord ≡ record { mask = []; key = chord }) (λ x. IsPartOf chord x.0.now x.1.now)
first_part chord None h =
    ap chord_of (sym (append-nil chord)) ∙ plain [] chord [] (split_parts 43 chord None h (omega arith))
first_part chord (Some x) h =
    let parts = split_parts 43 chord (Some x) h (omega arith) in
    record {
      parts = ap chord_of parts.0 ∙ plain [] x.0.now (43 ∷ x.1.now) parts.1;
      whole = omega (arith, ap length parts.0, length-append x.0.now (43 ∷ x.1.now));
    }
