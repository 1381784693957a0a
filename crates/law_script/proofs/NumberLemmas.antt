-- Numbers, sizes, places and inks are read as they stand.
use Rattle.std.proofs.Common.{◌≡◌, ◌∙◌, refl, ap, sym, subst, Bool, true, false, cond, leb, eqb, ℕ, ℤ, ◌+◌, ◌*◌, ◌-◌, ◌^◌, ◌≤◌, ◌&&◌, inl, inr, List, [], ◌∷◌, ◌++◌, length, drop, take_while, Option, None, Some, codes, arith}
use Rattle.std.specs.Prelude.{pos, neg_ℤ, nat_le}
use Rattle.std.specs.Char.{is_ascii_digit}
use Rattle.std.specs.List.{AllByRecursion}
use Rattle.std.proofs.Math.Nat.{pow-suc}
use Rattle.std.proofs.Math.Seq.{drop-append_seam}
use Rattle.std.proofs.lemmas.Bool.{and_parts, le-leb, leb-true, lt-leb, ne_eqb}
use Rattle.std.proofs.lemmas.List.{append_assoc}
use Rattle.wm_defs.specs.Hex.{hex_value}
use Rattle.wm_base.specs.declared.geometry.Size.{Size}
use Rattle.wm_fields.specs.Fields.{behind, coordinate_at, decimal_value, ink_at, number_at, or_none, size_at, size_of, with_digit}
use Rattle.law_script.proofs.Turns.{else_by, none_by, same_some, test_by}
use Rattle.law_script.proofs.WordLemmas.{Ends, Reads, Starts, behind_split, front_all, front_and_rest, front_is, starts_longer}
use Rattle.law_script.specs.Pieces.{IsCoordinate, IsDigit, IsHexDigit, IsInk, IsNumber, IsPlace, IsSize, value_of}

-- ---- decimal numbers

step_value : (v k power rest : ℕ) → (v * 10 + k) * power + rest ≡ v * (power * 10) + (k * power + rest)
step_value v k power rest = omega arith

value_is : (v : ℕ) (digits : List ℕ) → decimal_value v digits ≡ v * 10 ^ length digits + value_of digits
value_is v [] = omega arith
value_is v (d ∷ ds) =
    value_is (v * 10 + (d - 48)) ds ∙ step_value v (d - 48) (10 ^ length ds) (value_of ds)
    ∙ ap (λ power. v * power + ((d - 48) * 10 ^ length ds + value_of ds)) (sym (pow-suc 10 (length ds)))

value_whole : (digits : List ℕ) → decimal_value 0 digits ≡ value_of digits
value_whole digits = value_is 0 digits ∙ (omega arith)

digit_passes : (c : ℕ) → IsDigit c → is_ascii_digit c ≡ true
digit_passes c is = rw (le-leb 48 c is.0, le-leb c 57 is.1) refl

digits_pass : (digits : List ℕ) → AllByRecursion IsDigit digits → AllByRecursion (λ c. is_ascii_digit c ≡ true) digits
digits_pass [] all = tt
digits_pass (c ∷ cs) all = (digit_passes c all.0, digits_pass cs all.1)

digit_is : (c : ℕ) → is_ascii_digit c ≡ true → IsDigit c
digit_is c e = let both : (leb 48 c ≡ true) × (leb c 57 ≡ true) = and_parts (leb 48 c) (leb c 57) e in (leb-true 48 c both.0, leb-true c 57 both.1)

-- it does not begin with a digit
abbrev pub Stops : List ℕ → Type 0
Stops [] = Unit {0}
Stops (c ∷ cs) = is_ascii_digit c ≡ false

stops_there : (rest : List ℕ) → Stops rest → take_while is_ascii_digit rest ≡ []
stops_there [] stops = refl
stops_there (c ∷ cs) stops = rw stops refl

pub number_reads : (most n : ℕ) (text rest : List ℕ) → IsNumber most text n → Stops rest → number_at most (text ++ rest) ≡ Some (n, rest)
number_reads most n text rest is stops =
    let whole : take_while is_ascii_digit (text ++ rest) ≡ text = front_is is_ascii_digit text rest (digits_pass text is.digits) (stops_there rest stops) in
    let value : decimal_value 0 text ≡ n = value_whole text ∙ sym is.value in
    rw (whole, le-leb 1 (length text) is.some, le-leb (length text) 20 is.few, value, le-leb n most is.within, drop-append_seam text rest) refl

-- a text is a number, and what is behind it
pub record IsNumbered (most : ℕ) (text : List ℕ) (n : ℕ) (rest : List ℕ) : Type 0 where
  pub front : List ℕ
  pub whole : text ≡ front ++ rest
  pub is : IsNumber most front n

pub number_split : (most : ℕ) (text : List ℕ) (n : ℕ) (rest : List ℕ) → number_at most text ≡ Some (n, rest) → IsNumbered most text n rest
number_split most text n rest e =
    let digits = take_while is_ascii_digit text in
    let value = decimal_value 0 digits in
    test_by (nat_le 1 (length digits) && nat_le (length digits) 20 && nat_le value most) (Some (value, drop (length digits) text)) (n, rest) (λ t f.
    let three : ((nat_le 1 (length digits) && nat_le (length digits) 20) ≡ true) × (nat_le value most ≡ true) = and_parts _ _ t in
    let two : (nat_le 1 (length digits) ≡ true) × (nat_le (length digits) 20 ≡ true) = and_parts _ _ three.0 in
    let found : (value, drop (length digits) text) ≡ (n, rest) = same_some _ _ f in
    let same : value ≡ n = ap (λ p. p.0) found in
    let left : drop (length digits) text ≡ rest = ap (λ p. p.1) found in
    record {
      front = digits;
      whole = front_and_rest is_ascii_digit text ∙ ap (λ xs. digits ++ xs) left;
      is = record {
        digits = front_all is_ascii_digit digit_is text;
        some = leb-true 1 (length digits) two.0;
        few = leb-true (length digits) 20 two.1;
        value = sym same ∙ value_whole digits;
        within = subst (λ k. k ≤ most) same (leb-true value most three.1);
      };
    }) e

pub ends_stop : (rest : List ℕ) → Ends rest → Stops rest
ends_stop [] ends = tt
ends_stop (c ∷ cs) ends = rw ends refl

pub number_word : (most n : ℕ) (text : List ℕ) → IsNumber most text n → Reads (number_at most) text n
number_word most n text is = λ rest ends. number_reads most n text rest is (ends_stop rest ends)

digit_starts : (text : List ℕ) → 1 ≤ length text → AllByRecursion IsDigit text → Starts text
digit_starts [] some all = absurd (omega (arith, some))
digit_starts (c ∷ cs) some all = λ e. absurd (omega (arith, all.0.0, e))

pub number_starts : (most n : ℕ) (text : List ℕ) → IsNumber most text n → Starts text
number_starts most n text is = digit_starts text is.some is.digits

-- ---- sizes

x_stops : (height : List ℕ) → Stops (codes "x" ++ height)
x_stops height = refl

pub size_reads : (text : List ℕ) (size : Size) → IsSize text size.w size.h → Reads size_at text size
size_reads text size is = λ rest ends.
    ap (λ t. size_at (t ++ rest)) is.whole
    ∙ ap size_at (append_assoc is.width (codes "x" ++ is.height) rest)
    ∙ rw (number_reads 16384 size.w is.width (codes "x" ++ (is.height ++ rest)) is.is_width refl, number_reads 16384 size.h is.height rest is.is_height (ends_stop rest ends)) refl

pub size_starts : (text : List ℕ) (w h : ℕ) → IsSize text w h → Starts text
size_starts text w h is = subst Starts (sym is.whole) (starts_longer is.width (codes "x" ++ is.height) (number_starts 16384 w is.width is.is_width))

-- a text is a size, and what is behind it
pub record IsSized (text : List ℕ) (size : Size) (rest : List ℕ) : Type 0 where
  pub front : List ℕ
  pub whole : text ≡ front ++ rest
  pub is : IsSize front size.w size.h

pub size_split : (text : List ℕ) (size : Size) (rest : List ℕ) → size_at text ≡ Some (size, rest) → IsSized text size rest
size_split text size rest e =
    none_by (number_at 16384 text) _ (size, rest) (λ w a f. none_by (behind (codes "x") w.1) _ (size, rest) (λ height b g. none_by (number_at 16384 height) _ (size, rest) (λ h c i.
    let wide : IsNumbered 16384 text w.0 w.1 = number_split 16384 text w.0 w.1 a in
    let high : IsNumbered 16384 height h.0 h.1 = number_split 16384 height h.0 h.1 c in
    let mid : w.1 ≡ codes "x" ++ height = behind_split (codes "x") w.1 height b in
    let found : (size_of w.0 h.0, h.1) ≡ (size, rest) = same_some _ _ i in
    let whole : text ≡ (wide.front ++ (codes "x" ++ high.front)) ++ h.1 =
    wide.whole ∙ ap (λ t. wide.front ++ t) (mid ∙ ap (λ t. codes "x" ++ t) high.whole) ∙ sym (append_assoc wide.front (codes "x" ++ high.front) h.1) in
    subst (λ (p : Size × List ℕ). IsSized text p.0 p.1) found (record {
      front = wide.front ++ (codes "x" ++ high.front);
      whole = whole;
      is = record { width = wide.front; height = high.front; whole = refl; is_width = wide.is; is_height = high.is };
    })) g) f) e

-- ---- places

not_minus : (c : ℕ) → IsDigit c → eqb 45 c ≡ false
not_minus c is = ne_eqb 45 c (λ e. absurd (omega (arith, is.0, e)))

no_minus : (digits rest : List ℕ) → 1 ≤ length digits → AllByRecursion IsDigit digits → behind (codes "-") (digits ++ rest) ≡ None
no_minus [] rest some all = absurd (omega (arith, some))
no_minus (c ∷ cs) rest some all = rw (not_minus c all.0) refl

pub coordinate_reads : (text rest : List ℕ) (x : ℤ) → IsCoordinate text x → Stops rest → coordinate_at (text ++ rest) ≡ Some (x, rest)
coordinate_reads text rest x (inl is) stops =
    rw (no_minus text rest is.is_number.some is.is_number.digits, number_reads 131071 is.n text rest is.is_number stops) (ap (λ z. Some (z, rest)) (sym is.value))
coordinate_reads text rest x (inr is) stops =
    ap (λ t. coordinate_at (t ++ rest)) is.whole
    ∙ rw (number_reads 131072 is.n is.digits rest is.is_number stops) (ap (λ z. Some (z, rest)) (sym is.value))

-- a text is a coordinate, and what is behind it
pub record IsPlaced (text : List ℕ) (x : ℤ) (rest : List ℕ) : Type 0 where
  pub front : List ℕ
  pub whole : text ≡ front ++ rest
  pub is : IsCoordinate front x

pub coordinate_split : (text : List ℕ) (x : ℤ) (rest : List ℕ) → coordinate_at text ≡ Some (x, rest) → IsPlaced text x rest
coordinate_split text x rest e =
    else_by (behind (codes "-") text) _ _ (x, rest)
    (λ digits a f. none_by (number_at 131072 digits) _ (x, rest) (λ n b g.
    let number : IsNumbered 131072 digits n.0 n.1 = number_split 131072 digits n.0 n.1 b in
    let found : (neg_ℤ (pos n.0), n.1) ≡ (x, rest) = same_some _ _ g in
    subst (λ (p : ℤ × List ℕ). IsPlaced text p.0 p.1) found (record {
      front = codes "-" ++ number.front;
      whole = behind_split (codes "-") text digits a ∙ ap (λ t. codes "-" ++ t) number.whole;
      is = inr (record { digits = number.front; n = n.0; whole = refl; is_number = number.is; value = refl });
    })) f)
    (λ f. none_by (number_at 131071 text) _ (x, rest) (λ n b g.
    let number : IsNumbered 131071 text n.0 n.1 = number_split 131071 text n.0 n.1 b in
    let found : (pos n.0, n.1) ≡ (x, rest) = same_some _ _ g in
    subst (λ (p : ℤ × List ℕ). IsPlaced text p.0 p.1) found (record {
      front = number.front;
      whole = number.whole;
      is = inl (record { n = n.0; is_number = number.is; value = refl });
    })) f) e

coordinate_starts : (text : List ℕ) (x : ℤ) → IsCoordinate text x → Starts text
coordinate_starts text x (inl is) = number_starts 131071 is.n text is.is_number
coordinate_starts text x (inr is) = subst Starts (sym is.whole) (λ e. absurd (omega (arith, e)))

pub place_starts : (text : List ℕ) (x y : ℤ) → IsPlace text x y → Starts text
place_starts text x y is = subst Starts (sym is.whole) (starts_longer is.across (codes "," ++ is.down) (coordinate_starts is.across x is.is_across))

-- ---- inks

sub_add : (k n : ℕ) → (k + n) - k ≡ n
sub_add k n = omega arith

hex_reads : (c n : ℕ) → IsHexDigit c n → hex_value c ≡ Some n
hex_reads c n (inl is) =
    ap hex_value is.1 ∙ rw (le-leb 48 (48 + n) (omega arith), le-leb (48 + n) 57 (omega (arith, is.0))) (ap Some (sub_add 48 n))
hex_reads c n (inr (inl is)) =
    ap hex_value is.2
    ∙ rw (le-leb 48 (87 + n) (omega arith), lt-leb (87 + n) 57 (omega arith), le-leb 97 (87 + n) (omega (arith, is.0)), le-leb (87 + n) 102 (omega (arith, is.1))) (ap Some (sub_add 87 n))
hex_reads c n (inr (inr is)) =
    ap hex_value is.2
    ∙ rw (le-leb 48 (55 + n) (omega arith), lt-leb (55 + n) 57 (omega (arith, is.0)), lt-leb 97 (55 + n) (omega (arith, is.1)), le-leb 65 (55 + n) (omega (arith, is.0)), le-leb (55 + n) 70 (omega (arith, is.1))) (ap Some (sub_add 55 n))

between : (a b c : ℕ) → (leb a c && leb c b) ≡ true → (a ≤ c) × (c ≤ b)
between a b c e = let both : (leb a c ≡ true) × (leb c b ≡ true) = and_parts (leb a c) (leb c b) e in (leb-true a c both.0, leb-true c b both.1)

hex_split : (c n : ℕ) → hex_value c ≡ Some n → IsHexDigit c n
hex_split c n e = by (leb 48 c && leb c 57) (leb 97 c && leb c 102) (leb 65 c && leb c 70) refl refl refl e
  where
    by : (x y z : Bool) → (leb 48 c && leb c 57) ≡ x → (leb 97 c && leb c 102) ≡ y → (leb 65 c && leb c 70) ≡ z
        → cond x (Some (c - 48)) (cond y (Some (c - 87)) (cond z (Some (c - 55)) None)) ≡ Some n → IsHexDigit c n
    by true y z p q r f = let at : c - 48 ≡ n = same_some (c - 48) n f in let is : (48 ≤ c) × (c ≤ 57) = between 48 57 c p in inl (omega arith, omega arith)
    by false true z p q r f = let at : c - 87 ≡ n = same_some (c - 87) n f in let is : (97 ≤ c) × (c ≤ 102) = between 97 102 c q in inr (inl (omega arith, omega arith, omega arith))
    by false false true p q r f = let at : c - 55 ≡ n = same_some (c - 55) n f in let is : (65 ≤ c) × (c ≤ 70) = between 65 70 c r in inr (inr (omega arith, omega arith, omega arith))
    by false false false p q r f = cc

-- six digits one after another
abbrev six : Option ℕ → Option ℕ → Option ℕ → Option ℕ → Option ℕ → Option ℕ → List ℕ → Option (ℕ × List ℕ)
six a b c d e f rest =
    or_none (with_digit 0 a) (λ v. or_none (with_digit v b) (λ v. or_none (with_digit v c) (λ v.
    or_none (with_digit v d) (λ v. or_none (with_digit v e) (λ v. or_none (with_digit v f) (λ v. Some (v, rest)))))))

six_value : ℕ → ℕ → ℕ → ℕ → ℕ → ℕ → ℕ
six_value a b c d e f = (((((0 * 16 + a) * 16 + b) * 16 + c) * 16 + d) * 16 + e) * 16 + f

six_reads : (a b c d e f : ℕ) (p q r s t u : Option ℕ) (rest : List ℕ) → p ≡ Some a → q ≡ Some b → r ≡ Some c → s ≡ Some d → t ≡ Some e → u ≡ Some f
    → six p q r s t u rest ≡ Some (six_value a b c d e f, rest)
unfolding six_value
six_reads a b c d e f p q r s t u rest p_is q_is r_is s_is t_is u_is = rw (p_is, q_is, r_is, s_is, t_is, u_is) refl

six_is : (a b c d e f red green blue ink : ℕ) → red ≡ a * 16 + b → green ≡ c * 16 + d → blue ≡ e * 16 + f → ink ≡ red * 65536 + green * 256 + blue → six_value a b c d e f ≡ ink
unfolding six_value
six_is a b c d e f red green blue ink r g b' i = omega arith

pub ink_reads : (text rest : List ℕ) (ink : ℕ) → IsInk text ink → ink_at (text ++ rest) ≡ Some (ink, rest)
ink_reads text rest ink is =
    let r = is.is_red in let g = is.is_green in let b = is.is_blue in
    let whole : text ≡ r.first ∷ r.second ∷ g.first ∷ g.second ∷ b.first ∷ b.second ∷ [] =
    is.whole ∙ (ap (λ t. t ++ (is.green_text ++ is.blue_text)) r.whole ∙ ap (λ t. r.first ∷ r.second ∷ (t ++ is.blue_text)) g.whole
    ∙ ap (λ t. r.first ∷ r.second ∷ g.first ∷ g.second ∷ t) b.whole) in
    ap (λ t. ink_at (t ++ rest)) whole
    ∙ (six_reads r.high r.low g.high g.low b.high b.low (hex_value r.first) (hex_value r.second) (hex_value g.first) (hex_value g.second) (hex_value b.first) (hex_value b.second) rest
    (hex_reads r.first r.high r.is_high) (hex_reads r.second r.low r.is_low) (hex_reads g.first g.high g.is_high) (hex_reads g.second g.low g.is_low)
    (hex_reads b.first b.high b.is_high) (hex_reads b.second b.low b.is_low)
    ∙ ap (λ v. Some (v, rest)) (six_is r.high r.low g.high g.low b.high b.low is.red is.green is.blue ink r.value g.value b.value is.value))

digit_by : {C : Type 0} (v : ℕ) (o : Option ℕ) (w : ℕ) → ((d : ℕ) → o ≡ Some d → v * 16 + d ≡ w → C) → with_digit v o ≡ Some w → C
digit_by v None w go e = cc
digit_by v (Some d) w go e = go d refl (same_some (v * 16 + d) w e)

-- a text is an ink, and what is behind it
pub record IsInked (text : List ℕ) (ink : ℕ) (rest : List ℕ) : Type 0 where
  pub front : List ℕ
  pub whole : text ≡ front ++ rest
  pub is : IsInk front ink

pub ink_split : (text : List ℕ) (ink : ℕ) (rest : List ℕ) → ink_at text ≡ Some (ink, rest) → IsInked text ink rest
ink_split (a ∷ b ∷ c ∷ d ∷ e ∷ f ∷ xs) ink rest is =
    none_by (with_digit 0 (hex_value a)) _ (ink, rest) (λ va pa is. none_by (with_digit va (hex_value b)) _ (ink, rest) (λ vb pb is. none_by (with_digit vb (hex_value c)) _ (ink, rest) (λ vc pc is.
    none_by (with_digit vc (hex_value d)) _ (ink, rest) (λ vd pd is. none_by (with_digit vd (hex_value e)) _ (ink, rest) (λ ve pe is. none_by (with_digit ve (hex_value f)) _ (ink, rest) (λ vf pf is.
    digit_by 0 (hex_value a) va (λ na ha ea. digit_by va (hex_value b) vb (λ nb hb eb. digit_by vb (hex_value c) vc (λ nc hc ec.
    digit_by vc (hex_value d) vd (λ nd hd ed. digit_by vd (hex_value e) ve (λ ne he ee. digit_by ve (hex_value f) vf (λ nf hf ef.
    let both : (vf, xs) ≡ (ink, rest) = same_some _ _ is in
    let value : vf ≡ ink = ap (λ p. p.0) both in
    record {
      front = a ∷ b ∷ c ∷ d ∷ e ∷ f ∷ [];
      whole = ap (λ p. a ∷ b ∷ c ∷ d ∷ e ∷ f ∷ p.1) both;
      is = record {
        red_text = a ∷ b ∷ [];
        green_text = c ∷ d ∷ [];
        blue_text = e ∷ f ∷ [];
        red = na * 16 + nb;
        green = nc * 16 + nd;
        blue = ne * 16 + nf;
        whole = refl;
        is_red = record { first = a; second = b; high = na; low = nb; whole = refl; is_high = hex_split a na ha; is_low = hex_split b nb hb; value = refl };
        is_green = record { first = c; second = d; high = nc; low = nd; whole = refl; is_high = hex_split c nc hc; is_low = hex_split d nd hd; value = refl };
        is_blue = record { first = e; second = f; high = ne; low = nf; whole = refl; is_high = hex_split e ne he; is_low = hex_split f nf hf; value = refl };
        value = omega (arith, ea, eb, ec, ed, ee, ef, value);
      };
    }) pf) pe) pd) pc) pb) pa) is) is) is) is) is) is
ink_split text ink rest is = cc

hex_starts : (c n : ℕ) → IsHexDigit c n → ¬ (c ≡ 32)
hex_starts c n (inl is) = λ e. absurd (omega (arith, is.1, e))
hex_starts c n (inr (inl is)) = λ e. absurd (omega (arith, is.2, e))
hex_starts c n (inr (inr is)) = λ e. absurd (omega (arith, is.2, e))

pub ink_starts : (text : List ℕ) (ink : ℕ) → IsInk text ink → Starts text
ink_starts text ink is =
    subst Starts (sym (is.whole ∙ ap (λ t. t ++ (is.green_text ++ is.blue_text)) is.is_red.whole)) (hex_starts is.is_red.first is.is_red.high is.is_red.is_high)
