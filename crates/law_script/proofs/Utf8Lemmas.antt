-- What stands behind a gap of a line in UTF-8 is in UTF-8.
use Rattle.std.proofs.Common.{◌≡◌, ◌∙◌, refl, ap, subst, ℕ, suc, ◌+◌, ◌<◌, ◌≤◌, List, [], ◌∷◌, ◌++◌, length, length-append, drop, get_or, arith}
use Rattle.std.specs.List.{AllByRecursion}
use Rattle.std.specs.Str.{IsUtf8}
use Rattle.std.proofs.lemmas.Str.{IsCharBoundary-after_ascii, IsUtf8-drop}
use Rattle.law_script.specs.Pieces.{IsBefore}

get_there : (front rest : List ℕ) → get_or (front ++ 32 ∷ rest) (length front) 0 ≡ 32
get_there [] rest = refl
get_there (c ∷ cs) rest = get_there cs rest

drop_there : (front rest : List ℕ) → drop (suc (length front)) (front ++ 32 ∷ rest) ≡ rest
drop_there [] rest = refl
drop_there (c ∷ cs) rest = drop_there cs rest

after_space : (front rest : List ℕ) → IsUtf8 (front ++ 32 ∷ rest) → IsUtf8 rest
after_space front rest utf8 =
    let low : get_or (front ++ 32 ∷ rest) (length front) 0 < 128 = omega (arith, get_there front rest) in
    let one : length front + 1 ≡ suc (length front) = omega arith in
    subst IsUtf8 (ap (λ k. drop k (front ++ 32 ∷ rest)) one ∙ drop_there front rest)
    (IsUtf8-drop (front ++ 32 ∷ rest) (length front + 1) utf8
    (IsCharBoundary-after_ascii (front ++ 32 ∷ rest) (length front) utf8 (omega (arith, length-append front (32 ∷ rest))) low))

spaces_utf8 : (gap later : List ℕ) → AllByRecursion (λ c. c ≡ 32) gap → IsUtf8 (gap ++ later) → IsUtf8 later
spaces_utf8 [] later spaces utf8 = utf8
spaces_utf8 (c ∷ cs) later spaces utf8 = spaces_utf8 cs later spaces.1 (after_space [] (cs ++ later) (subst (λ d. IsUtf8 (d ∷ (cs ++ later))) spaces.0 utf8))

gap_utf8 : (front gap later : List ℕ) → 1 ≤ length gap → AllByRecursion (λ c. c ≡ 32) gap → IsUtf8 (front ++ (gap ++ later)) → IsUtf8 later
gap_utf8 front [] later some spaces utf8 = absurd (omega (arith, some))
gap_utf8 front (c ∷ cs) later some spaces utf8 = spaces_utf8 cs later spaces.1 (after_space front (cs ++ later) (subst (λ d. IsUtf8 (front ++ (d ∷ (cs ++ later)))) spaces.0 utf8))

pub later_utf8 : (word text : List ℕ) (Holds : List ℕ → Type 0) (is : IsBefore word Holds text) → IsUtf8 text → IsUtf8 is.later
later_utf8 word text Holds is utf8 = gap_utf8 word is.gap is.later is.is_gap.some is.is_gap.spaces (subst IsUtf8 is.whole utf8)
