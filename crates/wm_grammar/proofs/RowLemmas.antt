-- A text of a form, as the reading goes through it: word by word up to the first end of a command.
use Rattle.std.proofs.Common.{◌≡◌, ℕ, ◌≤◌, Bool, true, false, List, [], ◌∷◌, ◌++◌, length, Option, Some, None, refl, sym, ap, subst, ◌∙◌, append_assoc, arith, inl, inr}
use Rattle.std.specs.Prelude.{if◌then◌else◌, ◌==◌, ◌||◌, ◌&&◌, nat_le, ℤ}
use Rattle.std.proofs.lemmas.Bool.{or_parts, ne_eqb, false≢true, true≢false, lt-leb}
use Rattle.wm_words.specs.Pieces.{◌>>=◌, is_nil, is_blank, is_end, is_gap, until, from, has, skip, word, after, is_word, is_text, choice, single, only, natural, integer, only_number}
use Rattle.wm_words.proofs.NumbersAgain.{stops_at, until_past, from_past, until_through}
use Rattle.wm_language.specs.Bytes.{IsBlank, IsSeparator, IsQuote, IsDigit, Each, First, Last, MayFollow}
use Rattle.wm_language.specs.Words.{in_small, Quoted, IsWord, IsText, IsNatural, IsInteger}
use Rattle.wm_language.specs.Slots.{Slot, said, number, signed, word as one_word, text, anything, Fills, Gap, Begins, Filled}
use Rattle.wm_grammar.proofs.ByteLemmas.{blank_true, blank_false, end_true, blank_no_end, each_has, has_append, until_from, skip_blanks, ends_until, word_says, has_small, small_blank, small_end, small_quote}
use Rattle.wm_grammar.proofs.NumberLemmas.{natural_back, integer_back}
use Rattle.wm_grammar.proofs.TextLemmas.{Unblanked, none_there, no_blank, unblanked_append, unblanked_kept}

-- ---- names that are one word

-- a letter from A to Z, or a digit
abbrev pub is_other : ℕ → Bool
is_other c = (nat_le 65 c && nat_le c 90) || (nat_le 48 c && nat_le c 57)

abbrev pub clean_bytes : List ℕ → Bool
clean_bytes [] = true
clean_bytes (c ∷ t) = if is_gap c || (c == 34) then false else (if is_other c then false else clean_bytes t)

-- one byte or more, and no blank, `,`, `;` or `"`, no capital and no digit
abbrev pub clean : List ℕ → Bool
clean [] = false
clean (c ∷ t) = clean_bytes (c ∷ t)

-- each keyword is such a name
abbrev pub proper : List Slot → Bool
proper [] = true
proper (said name ∷ slots) = if clean name then proper slots else false
proper (number n ∷ slots) = proper slots
proper (signed z ∷ slots) = proper slots
proper (one_word x ∷ slots) = proper slots
proper (text x ∷ slots) = proper slots
proper (anything ∷ slots) = proper slots

pub if_parts : (a b : Bool) → (if a then b else false) ≡ true → (a ≡ true) × (b ≡ true)
if_parts true b h = (refl, h)
if_parts false b h = absurd (false≢true h)

unless_parts : (a b : Bool) → (if a then false else b) ≡ true → (a ≡ false) × (b ≡ true)
unless_parts true b h = absurd (false≢true h)
unless_parts false b h = (refl, h)

-- a test on bytes that are no part of a name
bytes_clean : (p : ℕ → Bool) → ((c : ℕ) → (is_gap c || (c == 34)) ≡ false → p c ≡ false) → (t : List ℕ) → clean_bytes t ≡ true → has p t ≡ false
unfolding has
bytes_clean p f [] h = refl
bytes_clean p f (c ∷ t) h = let both = unless_parts (is_gap c || (c == 34)) (if is_other c then false else clean_bytes t) h in rw (f c both.0) (bytes_clean p f t (unless_parts (is_other c) (clean_bytes t) both.1).1)

-- a test that capitals and digits alone pass
pub others_clean : (p : ℕ → Bool) → ((c : ℕ) → is_other c ≡ false → p c ≡ false) → (t : List ℕ) → clean_bytes t ≡ true → has p t ≡ false
unfolding has
others_clean p f [] h = refl
others_clean p f (c ∷ t) h =
    let both = unless_parts (is_other c) (clean_bytes t) (unless_parts (is_gap c || (c == 34)) (if is_other c then false else clean_bytes t) h).1 in
    rw (f c both.0) (others_clean p f t both.1)

pub clean_some : (n : List ℕ) → clean n ≡ true → clean_bytes n ≡ true
clean_some [] h = absurd (false≢true h)
clean_some (c ∷ n) h = h

-- ---- pieces

-- a piece that goes on up to a blank or the end of a command
pub record Bare (w : List ℕ) : Type 0 where
  pub some : is_nil w ≡ false
  pub blanks : has is_blank w ≡ false
  pub ends : has is_end w ≡ false
  pub quotes : has (λ c. c == 34) w ≡ false

nil_name : (w n : List ℕ) → in_small w ≡ n → clean n ≡ true → is_nil w ≡ false
nil_name [] n e h = absurd (false≢true (ap clean e ∙ h))
nil_name (c ∷ w) n e h = refl

pub said_bare : (n w : List ℕ) → clean n ≡ true → in_small w ≡ n → Bare w
said_bare n w h e =
    let k : clean_bytes (in_small w) ≡ true = ap clean_bytes e ∙ clean_some n h in
    record {
      some = nil_name w n e h;
      blanks = has_small is_blank small_blank w (bytes_clean is_blank (λ c f. (or_parts (is_blank c) (is_end c) (or_parts (is_gap c) (c == 34) f).0).0) (in_small w) k);
      ends = has_small is_end small_end w (bytes_clean is_end (λ c f. (or_parts (is_blank c) (is_end c) (or_parts (is_gap c) (c == 34) f).0).1) (in_small w) k);
      quotes = has_small (λ c. c == 34) small_quote w (bytes_clean (λ c. c == 34) (λ c f. (or_parts (is_gap c) (c == 34) f).1) (in_small w) k);
    }

digit_blank : (c : ℕ) → IsDigit c → is_blank c ≡ false
digit_blank c h = let a : (c == 32) ≡ false = ne_eqb c 32 (λ e. omega (arith, e, h.0)) in let b : (c == 9) ≡ false = ne_eqb c 9 (λ e. omega (arith, e, h.0)) in rw (a, b) refl

digit_end : (c : ℕ) → IsDigit c → is_end c ≡ false
digit_end c h = let a : (c == 44) ≡ false = ne_eqb c 44 (λ e. omega (arith, e, h.0)) in let b : (c == 59) ≡ false = ne_eqb c 59 (λ e. omega (arith, e, h.1)) in rw (a, b) refl

digit_quote : (c : ℕ) → IsDigit c → (c == 34) ≡ false
digit_quote c h = ne_eqb c 34 (λ e. omega (arith, e, h.0))

long_some : (w : List ℕ) → 1 ≤ length w → is_nil w ≡ false
long_some [] h = absurd (omega arith)
long_some (c ∷ w) h = refl

pub natural_bare : (n : ℕ) (w : List ℕ) → IsNatural n w → Bare w
natural_bare n w h = record { some = long_some w h.some; blanks = each_has is_blank IsDigit digit_blank w h.digits; ends = each_has is_end IsDigit digit_end w h.digits; quotes = each_has (λ c. c == 34) IsDigit digit_quote w h.digits }

minus_bare : (w : List ℕ) → Bare w → Bare (45 ∷ w)
unfolding has
minus_bare w b = record { some = refl; blanks = b.blanks; ends = b.ends; quotes = b.quotes }

pub integer_bare : (z : ℤ) (w : List ℕ) → IsInteger z w → Bare w
integer_bare z w (inl h) = subst Bare (sym h.whole) (minus_bare h.digits (natural_bare h.size h.digits h.natural))
integer_bare z w (inr h) = natural_bare h.size w h.natural

-- no letter stands first
abbrev pub NoName : List ℕ → Type 0
NoName w = (c : ℕ) (name : List ℕ) → 65 ≤ c → is_word w (c ∷ name) ≡ false

low_name : (x : ℕ) (xs : List ℕ) → x ≤ 57 → NoName (x ∷ xs)
unfolding is_word
low_name x xs h c name big =
    let low : nat_le 65 x ≡ false = lt-leb 65 x (omega (arith, h)) in
    let differ : (x == c) ≡ false = ne_eqb x c (λ e. omega (arith, h, e, big)) in
    rw (low, differ) refl

natural_name : (n : ℕ) (w : List ℕ) → IsNatural n w → NoName w
natural_name n [] h = absurd (omega (arith, h.some))
natural_name n (x ∷ xs) h = low_name x xs h.digits.0.1

integer_name : (z : ℤ) (w : List ℕ) → IsInteger z w → NoName w
integer_name z w (inl h) = subst NoName (sym h.whole) (low_name 45 h.digits (omega arith))
integer_name z w (inr h) = natural_name h.size w h.natural

-- ---- what begins with no blank

bare_first : (w q : List ℕ) → Bare w → Unblanked (w ++ q)
unfolding has
bare_first [] q b = absurd (true≢false b.some)
bare_first (c ∷ w) q b = no_blank (or_parts (is_blank c) (has is_blank w) b.blanks).0

quoted_unblanked : (x p q : List ℕ) → Quoted x p → Unblanked (p ++ q)
quoted_unblanked x p q k = subst (λ (t : List ℕ). Unblanked (t ++ q)) (sym k.whole) (no_blank refl)

word_unblanked : (x p q : List ℕ) → IsWord x p → Unblanked (p ++ q)
word_unblanked x p q (inl k) = quoted_unblanked x p q k
word_unblanked x p q (inr h) = subst (λ (t : List ℕ). Unblanked (t ++ q)) (sym h.0) (by x h.1.some h.1.each)
  where
    by : (x : List ℕ) → 1 ≤ length x → Each (λ c. (IsBlank c → ⊥) × (IsSeparator c → ⊥) × (IsQuote c → ⊥)) x → Unblanked (x ++ q)
    by [] h e = absurd (omega arith)
    by (c ∷ x) h e = no_blank (blank_false c e.0.0)

text_unblanked : (x p q : List ℕ) → IsText x p → Unblanked (p ++ q)
text_unblanked x p q (inl k) = quoted_unblanked x p q k
text_unblanked x p q (inr h) = subst (λ (t : List ℕ). Unblanked (t ++ q)) (sym h.0) (by x h.1.first)
  where
    by : (x : List ℕ) → First (λ c. (IsBlank c → ⊥) × (IsQuote c → ⊥)) x → Unblanked (x ++ q)
    by [] h = elim h [ ]
    by (c ∷ x) h = no_blank (blank_false c h.0)

pub filled_unblanked : (slots : List Slot) (p : List ℕ) → proper slots ≡ true → Filled slots p → Unblanked p
filled_unblanked [] p h f = subst Unblanked (sym f) none_there
filled_unblanked (said n ∷ slots) p h f = subst Unblanked (sym f.whole) (bare_first f.piece (f.blanks ++ f.others) (said_bare n f.piece (if_parts (clean n) (proper slots) h).0 f.fills))
filled_unblanked (number n ∷ slots) p h f = subst Unblanked (sym f.whole) (bare_first f.piece (f.blanks ++ f.others) (natural_bare n f.piece f.fills))
filled_unblanked (signed z ∷ slots) p h f = subst Unblanked (sym f.whole) (bare_first f.piece (f.blanks ++ f.others) (integer_bare z f.piece f.fills))
filled_unblanked (one_word x ∷ slots) p h f = subst Unblanked (sym f.whole) (word_unblanked x f.piece (f.blanks ++ f.others) f.fills.1)
filled_unblanked (text x ∷ slots) p h f = subst Unblanked (sym f.whole) (text_unblanked x f.piece (f.blanks ++ f.others) f.fills.1)
filled_unblanked (anything ∷ slots) p h f = subst Unblanked (sym f.whole) (text_unblanked f.fills.0 f.piece (f.blanks ++ f.others) f.fills.1)

-- ---- the words of a text, one after another

-- what the reading takes of a text of the form: r is the text up to the first end of a command, e the rest of it
abbrev pub Row : List Slot → List ℕ → List ℕ → List ℕ → Type 0
Row [] rest e r = (r ≡ []) × (e ≡ rest)
Row (said n ∷ slots) rest e r = (is_nil r ≡ false) × (in_small (word r) ≡ n) × Row slots rest e (after r)
Row (number n ∷ slots) rest e r = (is_nil r ≡ false) × (natural (word r) ≡ Some n) × NoName (word r) × Row slots rest e (after r)
Row (signed z ∷ slots) rest e r = (is_nil r ≡ false) × (integer (word r) ≡ Some z) × NoName (word r) × Row slots rest e (after r)
Row (one_word x ∷ slots) rest e r = (q : List ℕ) × (r ++ e ≡ q ++ rest) × Filled (one_word x ∷ slots) q × Unblanked r
Row (text x ∷ slots) rest e r = (q : List ℕ) × (r ++ e ≡ q ++ rest) × Filled (text x ∷ slots) q × Unblanked r
Row (anything ∷ slots) rest e r = (q : List ℕ) × (r ++ e ≡ q ++ rest) × Filled (anything ∷ slots) q × Unblanked r

until_unblanked : (t : List ℕ) → Unblanked t → Unblanked (until is_end t)
unfolding until
until_unblanked [] u = none_there
until_unblanked (c ∷ t) (no_blank h) = by (is_end c)
  where
    by : (b : Bool) → Unblanked (if b then [] else c ∷ until is_end t)
    by true = none_there
    by false = no_blank h

last_has : (p : ℕ → Bool) (Q : ℕ → Type 0) → ((c : ℕ) → Q c → p c ≡ true) → (w : List ℕ) → has p w ≡ false → Last Q w → ⊥
unfolding has
last_has p Q f [] h l = l
last_has p Q f (c ∷ []) h l = false≢true (sym (or_parts (p c) _ h).0 ∙ f c l)
last_has p Q f (c ∷ d ∷ w) h l = last_has p Q f (d ∷ w) (or_parts (p c) (has p (d ∷ w)) h).1 l

-- a bare piece, the blanks behind it, and what follows
pub record Head (w b q rest : List ℕ) : Type 0 where
  pub raw : until is_end ((w ++ (b ++ q)) ++ rest) ≡ w ++ (b ++ until is_end (q ++ rest))
  pub behind : from is_end ((w ++ (b ++ q)) ++ rest) ≡ from is_end (q ++ rest)
  pub first : word (w ++ (b ++ until is_end (q ++ rest))) ≡ w
  pub others : after (w ++ (b ++ until is_end (q ++ rest))) ≡ until is_end (q ++ rest)
  pub some : is_nil (w ++ (b ++ until is_end (q ++ rest))) ≡ false

from_through : (p : ℕ → Bool) (s t : List ℕ) → has p s ≡ false → from p (s ++ t) ≡ from p t
unfolding from has
from_through p [] t h = refl
from_through p (x ∷ s) t h = let both = or_parts (p x) (has p s) h in rw both.0 (from_through p s t both.1)

blank_stops : (b u : List ℕ) → Each IsBlank b → is_nil b ≡ false → stops_at is_blank (b ++ u) ≡ true
blank_stops [] u h k = absurd (true≢false k)
blank_stops (c ∷ b) u h k = blank_true c h.0

gap_stops : (w b q rest : List ℕ) → Bare w → Each IsBlank b → Gap w b q → MayFollow rest → stops_at is_blank (b ++ until is_end (q ++ rest)) ≡ true
gap_stops w (c ∷ b) q rest k h g l = blank_true c h.0
gap_stops w [] [] rest k h g l = ap (stops_at is_blank) (ends_until rest l)
gap_stops w [] (c ∷ q) rest k h g l = absurd (last_has (λ c. c == 34) IsQuote (λ c e. ap (λ (n : ℕ). n == 34) e) w k.quotes g)

nil_append : (w u : List ℕ) → is_nil w ≡ false → is_nil (w ++ u) ≡ false
nil_append [] u h = absurd (true≢false h)
nil_append (c ∷ w) u h = refl

pub head_of : (w b q rest : List ℕ) → Bare w → Each IsBlank b → Gap w b q → MayFollow rest → Unblanked q → Head w b q rest
head_of w b q rest k h g l u =
    let t : List ℕ = until is_end (q ++ rest) in
    let same : (w ++ (b ++ q)) ++ rest ≡ (w ++ b) ++ (q ++ rest) = append_assoc w (b ++ q) rest ∙ (ap (λ (s : List ℕ). w ++ s) (append_assoc b q rest) ∙ sym (append_assoc w b (q ++ rest))) in
    let no_end : has is_end (w ++ b) ≡ false = has_append is_end w b k.ends (each_has is_end IsBlank blank_no_end b h) in
    let stop : stops_at is_blank (b ++ t) ≡ true = gap_stops w b q rest k h g l in
    let kept : Unblanked t = until_unblanked (q ++ rest) (unblanked_append q rest u l) in
    record {
      raw = ap (until is_end) same ∙ (until_through is_end (w ++ b) (q ++ rest) no_end ∙ append_assoc w b t);
      behind = ap (from is_end) same ∙ from_through is_end (w ++ b) (q ++ rest) no_end;
      first = until_past is_blank w (b ++ t) k.blanks stop;
      others = ap skip (from_past is_blank w (b ++ t) k.blanks stop) ∙ (skip_blanks b t h ∙ unblanked_kept t kept);
      some = nil_append w (b ++ t) k.some;
    }

raw_whole : (p rest r e : List ℕ) → r ≡ until is_end (p ++ rest) → e ≡ from is_end (p ++ rest) → r ++ e ≡ p ++ rest
raw_whole p rest r e h k = ap (λ (t : List ℕ). t ++ e) h ∙ (ap (λ (t : List ℕ). until is_end (p ++ rest) ++ t) k ∙ until_from is_end (p ++ rest))

raw_unblanked : (slots : List Slot) (p rest r : List ℕ) → proper slots ≡ true → Filled slots p → MayFollow rest → r ≡ until is_end (p ++ rest) → Unblanked r
raw_unblanked slots p rest r h f l e = subst Unblanked (sym e) (until_unblanked (p ++ rest) (unblanked_append p rest (filled_unblanked slots p h f) l))

-- what is known of a text that begins with a bare piece
record Started (s : Slot) (slots : List Slot) (rest e r : List ℕ) : Type 0 where
  some : is_nil r ≡ false
  fills : Fills s (word r)
  others : List ℕ
  more : Filled slots others
  raw : after r ≡ until is_end (others ++ rest)
  behind : e ≡ from is_end (others ++ rest)

started : (s : Slot) (slots : List Slot) (p rest r e : List ℕ) → proper slots ≡ true → (f : Begins s (Filled slots) p) → Bare f.piece → MayFollow rest → r ≡ until is_end (p ++ rest) → e ≡ from is_end (p ++ rest) → Started s slots rest e r
started s slots p rest r e h f b l g k =
    let d = head_of f.piece f.blanks f.others rest b f.blank f.gap l (filled_unblanked slots f.others h f.more) in
    let raw : r ≡ f.piece ++ (f.blanks ++ until is_end (f.others ++ rest)) = g ∙ (ap (λ (t : List ℕ). until is_end (t ++ rest)) f.whole ∙ d.raw) in
    record {
      some = ap is_nil raw ∙ d.some;
      fills = subst (λ (t : List ℕ). Fills s t) (sym (ap word raw ∙ d.first)) f.fills;
      others = f.others;
      more = f.more;
      raw = ap after raw ∙ d.others;
      behind = k ∙ (ap (λ (t : List ℕ). from is_end (t ++ rest)) f.whole ∙ d.behind);
    }

from_ends : (t : List ℕ) → MayFollow t → from is_end t ≡ t
unfolding from
from_ends [] h = refl
from_ends (c ∷ t) h = rw (end_true c h) refl

pub filled_row : (slots : List Slot) (p rest r e : List ℕ) → proper slots ≡ true → Filled slots p → MayFollow rest → r ≡ until is_end (p ++ rest) → e ≡ from is_end (p ++ rest) → Row slots rest e r
filled_row [] p rest r e h f l g k = (g ∙ (ap (λ (t : List ℕ). until is_end (t ++ rest)) f ∙ ends_until rest l), k ∙ (ap (λ (t : List ℕ). from is_end (t ++ rest)) f ∙ from_ends rest l))
filled_row (said n ∷ slots) p rest r e h f l g k =
    let both = if_parts (clean n) (proper slots) h in
    let s = started (said n) slots p rest r e both.1 f (said_bare n f.piece both.0 f.fills) l g k in
    (s.some, s.fills, filled_row slots s.others rest (after r) e both.1 s.more l s.raw s.behind)
filled_row (number n ∷ slots) p rest r e h f l g k =
    let s = started (number n) slots p rest r e h f (natural_bare n f.piece f.fills) l g k in
    (s.some, natural_back n (word r) s.fills, natural_name n (word r) s.fills, filled_row slots s.others rest (after r) e h s.more l s.raw s.behind)
filled_row (signed z ∷ slots) p rest r e h f l g k =
    let s = started (signed z) slots p rest r e h f (integer_bare z f.piece f.fills) l g k in
    (s.some, integer_back z (word r) s.fills, integer_name z (word r) s.fills, filled_row slots s.others rest (after r) e h s.more l s.raw s.behind)
filled_row (one_word x ∷ slots) p rest r e h f l g k = (p, raw_whole p rest r e g k, f, raw_unblanked (one_word x ∷ slots) p rest r h f l g)
filled_row (text x ∷ slots) p rest r e h f l g k = (p, raw_whole p rest r e g k, f, raw_unblanked (text x ∷ slots) p rest r h f l g)
filled_row (anything ∷ slots) p rest r e h f l g k = (p, raw_whole p rest r e g k, f, raw_unblanked (anything ∷ slots) p rest r h f l g)

-- ---- words that are known

-- the value of a name in a table
abbrev pub exact : {A : Type 0} → List (List ℕ × A) → List ℕ → Option A
exact [] n = None
exact (row ∷ rows) n = if is_text n row.0 then Some row.1 else exact rows n

pub choice_back : {A : Type 0} (table : List (List ℕ × A)) (w n : List ℕ) → in_small w ≡ n → choice table w ≡ exact table n
choice_back [] w n e = refl
choice_back (row ∷ rows) w n e = rw (word_says w n row.0 e, choice_back rows w n e) refl

pub single_back : (r : List ℕ) → after r ≡ [] → single r ≡ Some (word r)
unfolding single
single_back r e = rw e refl

pub only_back : {A : Type 0} (table : List (List ℕ × A)) (r n : List ℕ) → in_small (word r) ≡ n → after r ≡ [] → only table r ≡ exact table n
only_back table r n e f = ap (λ (o : Option (List ℕ)). o >>= choice table) (single_back r f) ∙ choice_back table (word r) n e

pub only_number_back : (r : List ℕ) (n : ℕ) → natural (word r) ≡ Some n → after r ≡ [] → only_number r ≡ Some n
only_number_back r n e f = ap (λ (o : Option (List ℕ)). o >>= natural) (single_back r f) ∙ e
