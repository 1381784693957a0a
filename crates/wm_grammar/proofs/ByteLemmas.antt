-- Bytes and texts as the language speaks of them, and as the reading tests them.
use Rattle.std.proofs.Common.{◌≡◌, ℕ, ◌⊎◌, Bool, true, false, List, [], ◌∷◌, ◌++◌, refl, sym, ap, ◌∙◌, inl, inr}
use Rattle.std.specs.Prelude.{if◌then◌else◌, ◌==◌, ◌&&◌}
use Rattle.std.proofs.lemmas.Bool.{eqb-true, eq-eqb, or_cases, or_parts, and_parts, false≢true, false_from_ne_true}
use Rattle.wm_words.specs.Pieces.{is_blank, is_end, until, from, has, skip, ends, lower, is_word, is_text}
use Rattle.wm_words.proofs.NumbersAgain.{stops_at}
use Rattle.wm_language.specs.Bytes.{IsBlank, IsSeparator, Each, MayFollow}
use Rattle.wm_language.specs.Words.{small, in_small}

-- ---- bytes

pub blank_told : (c : ℕ) → is_blank c ≡ true → IsBlank c
blank_told c h =
    elim (or_cases (c == 32) (c == 9) h) [
      | inl e ↦ inl (eqb-true c 32 e)
      | inr e ↦ inr (eqb-true c 9 e)
    ]

pub blank_true : (c : ℕ) → IsBlank c → is_blank c ≡ true
blank_true c (inl e) = ap is_blank e
blank_true c (inr e) = ap is_blank e

pub blank_false : (c : ℕ) → (IsBlank c → ⊥) → is_blank c ≡ false
blank_false c h = false_from_ne_true (is_blank c) (λ e. h (blank_told c e))

pub no_blank_told : (c : ℕ) → is_blank c ≡ false → IsBlank c → ⊥
no_blank_told c e h = false≢true (sym e ∙ blank_true c h)

pub end_told : (c : ℕ) → is_end c ≡ true → IsSeparator c
end_told c h =
    elim (or_cases (c == 44) (c == 59) h) [
      | inl e ↦ inl (eqb-true c 44 e)
      | inr e ↦ inr (eqb-true c 59 e)
    ]

pub end_true : (c : ℕ) → IsSeparator c → is_end c ≡ true
end_true c (inl e) = ap is_end e
end_true c (inr e) = ap is_end e

pub end_false : (c : ℕ) → (IsSeparator c → ⊥) → is_end c ≡ false
end_false c h = false_from_ne_true (is_end c) (λ e. h (end_told c e))

pub no_end_told : (c : ℕ) → is_end c ≡ false → IsSeparator c → ⊥
no_end_told c e h = false≢true (sym e ∙ end_true c h)

pub blank_no_end : (c : ℕ) → IsBlank c → is_end c ≡ false
blank_no_end c (inl e) = ap is_end e
blank_no_end c (inr e) = ap is_end e

pub end_no_blank : (c : ℕ) → IsSeparator c → is_blank c ≡ false
end_no_blank c (inl e) = ap is_blank e
end_no_blank c (inr e) = ap is_blank e

-- ---- texts

pub each_has : (p : ℕ → Bool) (Q : ℕ → Type 0) → ((c : ℕ) → Q c → p c ≡ false) → (t : List ℕ) → Each Q t → has p t ≡ false
unfolding has
each_has p Q f [] h = refl
each_has p Q f (c ∷ t) h = rw (f c h.0) (each_has p Q f t h.1)

pub has_each : (p : ℕ → Bool) (Q : ℕ → Type 0) → ((c : ℕ) → p c ≡ false → Q c) → (t : List ℕ) → has p t ≡ false → Each Q t
unfolding has
has_each p Q f [] h = tt
has_each p Q f (c ∷ t) h = let both = or_parts (p c) (has p t) h in (f c both.0, has_each p Q f t both.1)

pub has_append : (p : ℕ → Bool) (s t : List ℕ) → has p s ≡ false → has p t ≡ false → has p (s ++ t) ≡ false
unfolding has
has_append p [] t h k = k
has_append p (c ∷ s) t h k = let both = or_parts (p c) (has p s) h in rw both.0 (has_append p s t both.1 k)

pub each_append : (Q : ℕ → Type 0) (s t : List ℕ) → Each Q s → Each Q t → Each Q (s ++ t)
each_append Q [] t h k = k
each_append Q (c ∷ s) t h k = (h.0, each_append Q s t h.1 k)

pub each_more : (P Q : ℕ → Type 0) → ((c : ℕ) → P c → Q c) → (t : List ℕ) → Each P t → Each Q t
each_more P Q f [] h = tt
each_more P Q f (c ∷ t) h = (f c h.0, each_more P Q f t h.1)

-- ---- the text up to a byte that passes, and from there on

has_step : (p : ℕ → Bool) (c : ℕ) (u : List ℕ) (b : Bool) → p c ≡ b → has p u ≡ false → has p (if b then [] else c ∷ u) ≡ false
unfolding has
has_step p c u true e h = refl
has_step p c u false e h = rw e h

pub until_clean : (p : ℕ → Bool) (t : List ℕ) → has p (until p t) ≡ false
unfolding until has
until_clean p [] = refl
until_clean p (c ∷ t) = has_step p c (until p t) (p c) refl (until_clean p t)

join_step : (c : ℕ) (t u w : List ℕ) (b : Bool) → u ++ w ≡ t → (if b then [] else c ∷ u) ++ (if b then c ∷ t else w) ≡ c ∷ t
join_step c t u w true e = refl
join_step c t u w false e = ap (λ (s : List ℕ). c ∷ s) e

pub until_from : (p : ℕ → Bool) (t : List ℕ) → until p t ++ from p t ≡ t
unfolding until from
until_from p [] = refl
until_from p (c ∷ t) = join_step c t (until p t) (from p t) (p c) (until_from p t)

stops_step : (p : ℕ → Bool) (c : ℕ) (t w : List ℕ) (b : Bool) → p c ≡ b → stops_at p w ≡ true → stops_at p (if b then c ∷ t else w) ≡ true
stops_step p c t w true e h = e
stops_step p c t w false e h = h

pub from_stops : (p : ℕ → Bool) (t : List ℕ) → stops_at p (from p t) ≡ true
unfolding from
from_stops p [] = refl
from_stops p (c ∷ t) = stops_step p c t (from p t) (p c) refl (from_stops p t)

-- ---- blanks at the front

-- the blanks that are passed over
pub record Skipped (t : List ℕ) : Type 0 where
  pub blanks : List ℕ
  pub whole : t ≡ blanks ++ skip t
  pub blank : Each IsBlank blanks

skipped_step : (c : ℕ) (t u : List ℕ) (b : Bool) → is_blank c ≡ b → (s : List ℕ) → t ≡ s ++ u → Each IsBlank s → (a : List ℕ) × (c ∷ t ≡ a ++ (if b then u else c ∷ t)) × Each IsBlank a
skipped_step c t u true e s w h = (c ∷ s, ap (λ (x : List ℕ). c ∷ x) w, (blank_told c e, h))
skipped_step c t u false e s w h = ([], refl, tt)

skipped_parts : (t : List ℕ) → (a : List ℕ) × (t ≡ a ++ skip t) × Each IsBlank a
unfolding skip
skipped_parts [] = ([], refl, tt)
skipped_parts (c ∷ t) = let i = skipped_parts t in skipped_step c t (skip t) (is_blank c) refl i.0 i.1 i.2

pub skipped : (t : List ℕ) → Skipped t
skipped t = let i = skipped_parts t in record { blanks = i.0; whole = i.1; blank = i.2 }

pub skip_blanks : (b t : List ℕ) → Each IsBlank b → skip (b ++ t) ≡ skip t
unfolding skip
skip_blanks [] t h = refl
skip_blanks (c ∷ b) t h = rw (blank_true c h.0) (skip_blanks b t h.1)

pub skip_kept : (c : ℕ) (t : List ℕ) → is_blank c ≡ false → skip (c ∷ t) ≡ c ∷ t
unfolding skip
skip_kept c t h = rw h refl

no_blank_step : (c : ℕ) (t u : List ℕ) (b : Bool) → is_blank c ≡ b → stops_at is_blank u ≡ false ⊎ (u ≡ []) → stops_at is_blank (if b then u else c ∷ t) ≡ false ⊎ ((if b then u else c ∷ t) ≡ [])
no_blank_step c t u true e h = h
no_blank_step c t u false e h = inl e

-- what is left begins with no blank
pub skip_first : (t : List ℕ) → (stops_at is_blank (skip t) ≡ false) ⊎ (skip t ≡ [])
unfolding skip
skip_first [] = inr refl
skip_first (c ∷ t) = no_blank_step c t (skip t) (is_blank c) refl (skip_first t)

-- ---- where commands end

pub ends_told : (t : List ℕ) → ends t ≡ true → MayFollow t
ends_told [] h = tt
ends_told (c ∷ t) h = end_told c h

pub ends_true : (t : List ℕ) → MayFollow t → ends t ≡ true
ends_true [] h = refl
ends_true (c ∷ t) h = end_true c h

pub ends_at : (t : List ℕ) → MayFollow t → stops_at is_end t ≡ true
ends_at [] h = refl
ends_at (c ∷ t) h = end_true c h

pub at_ends : (t : List ℕ) → stops_at is_end t ≡ true → MayFollow t
at_ends [] h = tt
at_ends (c ∷ t) h = end_told c h

pub ends_until : (t : List ℕ) → MayFollow t → until is_end t ≡ []
unfolding until
ends_until [] h = refl
ends_until (c ∷ t) h = rw (end_true c h) refl

-- ---- words in any case

pub word_small : (w name : List ℕ) → is_word w name ≡ is_text (in_small w) name
unfolding is_word is_text
word_small [] [] = refl
word_small [] (y ∷ ys) = refl
word_small (x ∷ xs) [] = refl
word_small (x ∷ xs) (y ∷ ys) = ap (λ (b : Bool). (lower x == y) && b) (word_small xs ys)

pub text_same : (w name : List ℕ) → is_text w name ≡ true → w ≡ name
unfolding is_text
text_same [] [] h = refl
text_same [] (y ∷ ys) h = absurd (false≢true h)
text_same (x ∷ xs) [] h = absurd (false≢true h)
text_same (x ∷ xs) (y ∷ ys) h =
    let both = and_parts (x == y) (is_text xs ys) h in
    ap (λ (c : ℕ). c ∷ xs) (eqb-true x y both.0) ∙ ap (λ (t : List ℕ). y ∷ t) (text_same xs ys both.1)

pub same_text : (w : List ℕ) → is_text w w ≡ true
unfolding is_text
same_text [] = refl
same_text (x ∷ xs) = let e : (x == x) ≡ true = eq-eqb x x refl in rw e (same_text xs)

-- a word that is this name, in small letters
pub word_told : (w name : List ℕ) → is_word w name ≡ true → in_small w ≡ name
word_told w name h = text_same (in_small w) name (sym (word_small w name) ∙ h)

-- what a word says, where its small letters are known
pub word_says : (w n name : List ℕ) → in_small w ≡ n → is_word w name ≡ is_text n name
word_says w n name e = word_small w name ∙ ap (λ (t : List ℕ). is_text t name) e

-- a test that a capital letter passes as its small one does
pub has_small : (p : ℕ → Bool) → ((c : ℕ) → p c ≡ true → p (small c) ≡ true) → (w : List ℕ) → has p (in_small w) ≡ false → has p w ≡ false
unfolding has
has_small p f [] h = refl
has_small p f (c ∷ w) h =
    let both = or_parts (p (small c)) (has p (in_small w)) h in
    let miss : p c ≡ false = false_from_ne_true (p c) (λ e. false≢true (sym both.0 ∙ f c e)) in
    rw miss (has_small p f w both.1)

pub small_blank : (c : ℕ) → is_blank c ≡ true → is_blank (small c) ≡ true
small_blank c h =
    elim (blank_told c h) [
      | inl e ↦ ap (λ (k : ℕ). is_blank (small k)) e
      | inr e ↦ ap (λ (k : ℕ). is_blank (small k)) e
    ]

pub small_end : (c : ℕ) → is_end c ≡ true → is_end (small c) ≡ true
small_end c h =
    elim (end_told c h) [
      | inl e ↦ ap (λ (k : ℕ). is_end (small k)) e
      | inr e ↦ ap (λ (k : ℕ). is_end (small k)) e
    ]

pub small_quote : (c : ℕ) → (c == 34) ≡ true → (small c == 34) ≡ true
small_quote c h = ap (λ (k : ℕ). small k == 34) (eqb-true c 34 h)
