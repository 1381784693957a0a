-- Plain patterns and the texts that they match.
use Rattle.std.proofs.Common.{◌≡◌, ℕ, Bool, true, false, List, [], ◌∷◌, ◌++◌, length, Some, refl, sym, ◌∙◌, ap, subst, arith, append_assoc, eqb-true}
use Rattle.std.specs.Prelude.{◌||◌, ◌&&◌, ◌==◌, not, option_map, if◌then◌else◌}
use Rattle.wm_words.specs.Pieces.{starts}
use Rattle.wm_criteria.specs.Plain.{Plain, character, characters, is_found, is_part, is_special, is_quotable, plain_of, stands, with_character}
use Rattle.wm_criteria.specs.Parts.{HasPart, mark, quoted}
use Rattle.wm_criteria.proofs.PlainLemmas.{characters-step, first_of_more, stands-same}

-- ---- characters that stand at the beginning

-- the text begins with the characters, and is no more where they are to be last
pub record Begins (wanted : List ℕ) (ends : Bool) (text : List ℕ) : Type 0 where
  pub behind : List ℕ
  pub whole : text ≡ wanted ++ behind
  pub last : ends ≡ true → behind ≡ []

only_empty : (t : List ℕ) → (length t == 0) ≡ true → t ≡ []
only_empty [] h = refl
only_empty (c ∷ t) h = let none : length (c ∷ t) ≡ 0 = eqb-true (length (c ∷ t)) 0 h in absurd (omega arith)

none_behind : (ends : Bool) (t : List ℕ) → (not ends || (length t == 0)) ≡ true → ends ≡ true → t ≡ []
none_behind true t h e = only_empty t h
none_behind false t h e = cc

and_first : (a b : Bool) → (a && b) ≡ true → a ≡ true
and_first true b h = refl
and_first false b h = h

stands_first : (c : ℕ) (w : List ℕ) (ends : Bool) (d : ℕ) (t : List ℕ) → stands (c ∷ w) ends (d ∷ t) ≡ true → c ≡ d
stands_first c w ends d t h = eqb-true c d (and_first (c == d) _ (and_first _ _ h))

pub stands_begins : (w : List ℕ) (ends : Bool) (t : List ℕ) → stands w ends t ≡ true → Begins w ends t
stands_begins [] ends t h = record { behind = t; whole = refl; last = none_behind ends t h }
stands_begins (c ∷ w) ends [] h = absurd (cc)
stands_begins (c ∷ w) ends (d ∷ t) h =
    let same : c ≡ d = stands_first c w ends d t h in
    let more = stands_begins w ends t (sym (stands-same c w ends t) ∙ subst (λ (k : ℕ). stands (c ∷ w) ends (k ∷ t) ≡ true) (sym same) h) in
    record {
      behind = more.behind;
      whole = ap (λ (k : ℕ). k ∷ t) (sym same) ∙ ap (λ (s : List ℕ). c ∷ s) more.whole;
      last = more.last;
    }

empty_stands : (ends : Bool) (b : List ℕ) → (ends ≡ true → b ≡ []) → (not ends || (length b == 0)) ≡ true
empty_stands false b h = refl
empty_stands true b h = ap (λ (s : List ℕ). length s == 0) (h refl)

pub begins_stands : (w : List ℕ) (ends : Bool) (b : List ℕ) → (ends ≡ true → b ≡ []) → stands w ends (w ++ b) ≡ true
begins_stands [] ends b h = empty_stands ends b h
begins_stands (c ∷ w) ends b h = stands-same c w ends (w ++ b) ∙ begins_stands w ends b h

-- ---- characters that stand at some place

-- the text has the characters behind some text, and nothing behind them where they are to be last
pub record Part (wanted : List ℕ) (ends : Bool) (text : List ℕ) : Type 0 where
  pub before : List ℕ
  pub behind : List ℕ
  pub whole : text ≡ before ++ (wanted ++ behind)
  pub last : ends ≡ true → behind ≡ []

begins_part : (w : List ℕ) (ends : Bool) (t : List ℕ) → Begins w ends t → Part w ends t
begins_part w ends t b = record { before = []; behind = b.behind; whole = b.whole; last = b.last }

later_part : (w : List ℕ) (ends : Bool) (c : ℕ) (t : List ℕ) → Part w ends t → Part w ends (c ∷ t)
later_part w ends c t p = record { before = c ∷ p.before; behind = p.behind; whole = ap (λ (s : List ℕ). c ∷ s) p.whole; last = p.last }

either_part : (w : List ℕ) (ends : Bool) (t : List ℕ) (here later : Bool) → (here ≡ true → Part w ends t) → (later ≡ true → Part w ends t) → (here || later) ≡ true → Part w ends t
either_part w ends t true later f g h = f refl
either_part w ends t false later f g h = g h

part_true : (w : List ℕ) (ends : Bool) (t : List ℕ) → is_part w ends t ≡ true → Part w ends t
part_true w ends [] h = either_part w ends [] (stands w ends []) false (λ e. begins_part w ends [] (stands_begins w ends [] e)) (λ e. cc) h
part_true w ends (c ∷ t) h = either_part w ends (c ∷ t) (stands w ends (c ∷ t)) (is_part w ends t)
    (λ e. begins_part w ends (c ∷ t) (stands_begins w ends (c ∷ t) e))
    (λ e. later_part w ends c t (part_true w ends t e)) h

or_true : (a : Bool) → (a || true) ≡ true
or_true true = refl
or_true false = refl

part_here : (w : List ℕ) (ends : Bool) (t : List ℕ) → stands w ends t ≡ true → is_part w ends t ≡ true
part_here w ends [] h = rw h refl
part_here w ends (c ∷ t) h = rw h refl

true_part : (w : List ℕ) (ends : Bool) (a b : List ℕ) → (ends ≡ true → b ≡ []) → is_part w ends (a ++ (w ++ b)) ≡ true
true_part w ends [] b h = part_here w ends (w ++ b) (begins_stands w ends b h)
true_part w ends (c ∷ a) b h = rw (true_part w ends a b h) (or_true (stands w ends (c ∷ (a ++ (w ++ b)))))

found_at : (first : Bool) (w : List ℕ) (ends : Bool) (t : List ℕ) → (if first then stands w ends t else is_part w ends t) ≡ true → HasPart (record { first = first; wanted = w; last = ends }) t
found_at true w ends t h = let b = stands_begins w ends t h in record { before = []; behind = b.behind; whole = b.whole; first = λ e. refl; last = b.last }
found_at false w ends t h = let p = part_true w ends t h in record { before = p.before; behind = p.behind; whole = p.whole; first = λ e. cc; last = p.last }

pub found_part : (x : Plain) (t : List ℕ) → is_found x t ≡ true → HasPart x t
found_part x t h = found_at x.first x.wanted x.last t h

at_found : (first : Bool) (w : List ℕ) (ends : Bool) (a b : List ℕ) → (first ≡ true → a ≡ []) → (ends ≡ true → b ≡ []) → (if first then stands w ends (a ++ (w ++ b)) else is_part w ends (a ++ (w ++ b))) ≡ true
at_found true w ends a b f l = subst (λ (s : List ℕ). stands w ends (s ++ (w ++ b)) ≡ true) (sym (f refl)) (begins_stands w ends b l)
at_found false w ends a b f l = true_part w ends a b l

pub part_found : (x : Plain) (t : List ℕ) → HasPart x t → is_found x t ≡ true
part_found x t p = subst (λ (s : List ℕ). is_found x s ≡ true) (sym p.whole) (at_found x.first x.wanted x.last p.before p.behind p.first p.last)

-- ---- texts with \ before what is more than itself

module _ (c : ℕ) where
  at : (k : ℕ) → is_quotable k ≡ true → (c == k) ≡ true → is_quotable c ≡ true
  at k q e = subst (λ (n : ℕ). is_quotable n ≡ true) (sym (eqb-true c k e)) q

  either : {a b : Bool} → (a ≡ true → is_quotable c ≡ true) → (b ≡ true → is_quotable c ≡ true) → (a || b) ≡ true → is_quotable c ≡ true
  either {a = true} {b = b} f g h = f refl
  either {a = false} {b = b} f g h = g h

  special_quotable : is_special c ≡ true → is_quotable c ≡ true
  special_quotable = either (either (either (either (either (either (either (either (either (either (either (either (either (at 92 refl) (at 46 refl)) (at 43 refl)) (at 42 refl)) (at 63 refl)) (at 40 refl)) (at 41 refl)) (at 124 refl)) (at 91 refl)) (at 93 refl)) (at 123 refl)) (at 125 refl)) (at 94 refl)) (at 36 refl)

-- a character that is no more than itself is none of the special ones
other_than : (c k : ℕ) → is_special k ≡ true → is_special c ≡ false → (c == k) ≡ false
other_than c k special plain = by (c == k) refl where
  by : (b : Bool) → (c == k) ≡ b → b ≡ false
  by true e = sym (subst (λ (n : ℕ). is_special n ≡ true) (sym (eqb-true c k e)) special) ∙ plain
  by false e = refl

more_plain : (c d : ℕ) (r : List ℕ) (mark quotable special : Bool) → mark ≡ false → special ≡ false → first_of_more c d r mark quotable special ≡ Some (c, d ∷ r)
more_plain c d r true quotable special e f = cc
more_plain c d r false quotable true e f = cc
more_plain c d r false quotable false e f = refl

character_plain : (c : ℕ) (r : List ℕ) → is_special c ≡ false → character (c ∷ r) ≡ Some (c, r)
character_plain c [] h = rw h refl
character_plain c (d ∷ r) h = more_plain c d r (c == 92) (is_quotable d) (is_special c) (other_than c 92 refl h) h

character_quoted : (c : ℕ) (r : List ℕ) → is_special c ≡ true → character (92 ∷ c ∷ r) ≡ Some (c, r)
character_quoted c r h = rw (special_quotable c h) refl

abbrev one_quoted : ℕ → Bool → List ℕ
one_quoted c special = if special then 92 ∷ c ∷ [] else c ∷ []

quoted_step : (c : ℕ) (special : Bool) (rest w : List ℕ) (last : Bool) → is_special c ≡ special → characters rest ≡ Some (w, last) → characters (one_quoted c special ++ rest) ≡ Some (c ∷ w, last)
quoted_step c true rest w last e h = characters-step (92 ∷ c ∷ rest) c rest (character_quoted c rest e) ∙ ap (with_character c) h
quoted_step c false rest w last e h = characters-step (c ∷ rest) c rest (character_plain c rest e) ∙ ap (with_character c) h

characters_quoted : (w : List ℕ) (last : Bool) → characters (quoted w ++ mark last 36) ≡ Some (w, last)
unfolding characters
characters_quoted [] true = refl
characters_quoted [] false = refl
characters_quoted (c ∷ w) last =
    ap (λ (s : List ℕ). characters s) (append_assoc (one_quoted c (is_special c)) (quoted w) (mark last 36))
    ∙ quoted_step c (is_special c) (quoted w ++ mark last 36) w last refl (characters_quoted w last)

starts_quoted : (c : ℕ) (special : Bool) (rest : List ℕ) → is_special c ≡ special → starts 94 (one_quoted c special ++ rest) ≡ false
starts_quoted c true rest e = refl
starts_quoted c false rest e = other_than c 94 refl e

no_start : (w : List ℕ) (last : Bool) → starts 94 (quoted w ++ mark last 36) ≡ false
no_start [] true = refl
no_start [] false = refl
no_start (c ∷ w) last =
    ap (λ (s : List ℕ). starts 94 s) (append_assoc (one_quoted c (is_special c)) (quoted w) (mark last 36))
    ∙ starts_quoted c (is_special c) (quoted w ++ mark last 36) refl

pub quoted_plain : (first : Bool) (w : List ℕ) (last : Bool) → plain_of (mark first 94 ++ (quoted w ++ mark last 36)) ≡ Some (record { first = first; wanted = w; last = last })
quoted_plain true w last = ap (option_map (λ x. record { first = true; wanted = x.0; last = x.1 })) (characters_quoted w last)
quoted_plain false w last = rw (no_start w last) (ap (option_map (λ x. record { first = false; wanted = x.0; last = x.1 })) (characters_quoted w last))
