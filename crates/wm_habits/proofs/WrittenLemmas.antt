-- Numbers that were written are read, and lines made of them.
use Rattle.std.proofs.Common.{◌≡◌, refl, ◌∙◌, ap, subst, Bool, true, false, eqb, ℕ, suc, ◌+◌, ◌<◌, ◌≤◌, ◌^◌, List, [], ◌∷◌, ◌++◌, length, take, Some, codes, take_while, arith}
use Rattle.std.proofs.Math.Seq.{drop-append_seam}
use Rattle.std.proofs.lemmas.Bool.Decides.{Decides-eqb}
use Rattle.std.proofs.lemmas.Bool.{le-leb}
use Rattle.std.proofs.lemmas.Fmt.{decimal_nonempty, digits_decimal, digits_value-decimal, length-decimal-le}
use Rattle.std.proofs.lemmas.List.{append-nil}
use Rattle.std.proofs.lemmas.Str.Parse.{IsNumeralModel, digit_from_value, numerals_by_fold, tells_digits}
use Rattle.std.specs.Char.{is_ascii_digit}
use Rattle.std.specs.Fmt.{decimal}
use Rattle.std.specs.List.{prefix_len}
use Rattle.std.specs.Str.Parse.{AllDigits}
use Rattle.wm_base.specs.declared.geometry.Size.{Size}
use Rattle.wm_base.specs.declared.ids.ConId.{ConId}
use Rattle.wm_habits.specs.Asking.{asked_of}
use Rattle.wm_habits.specs.Saying.{ack_text, buffer_text, close_text}
use Rattle.wm_habits.specs.Written.{blue, configure_text, kill_text}
use Rattle.wm_habits.specs.declared.asking.Asked.TheVariants as asked
use Rattle.wm_history.specs.declared.client.ClientStep.TheVariants.{Ack, Buffer}
use Rattle.wm_history.specs.declared.step.Step.TheVariants.{Client, Close}
use Rattle.wm_fields.specs.Fields.{decimal_value, number_at, past_spaces}
use Rattle.wm_lines.specs.Lines.{client_step_of}

-- ---- numbers

numerals : IsNumeralModel (AllDigits 10) (decimal_value 0)
numerals = numerals_by_fold (AllDigits 10) tells_digits decimal_value (record { empty = λ n. refl; more = λ n c cs range. refl })

take_more : (d k : ℕ) (xs : List ℕ) → take (1 + k) (d ∷ xs) ≡ d ∷ take k xs
take_more d k xs = let one : 1 + k ≡ suc k = omega arith in rw one refl

whole_digits : (ds rest : List ℕ) → AllDigits 10 ds → take_while is_ascii_digit rest ≡ [] → take_while is_ascii_digit (ds ++ rest) ≡ ds
whole_digits [] rest digits end = end
whole_digits (d ∷ ds) rest digits end =
    let range = digit_from_value d digits.0 in
    rw (le-leb 48 d range.0, le-leb d 57 range.1) (take_more d (prefix_len is_ascii_digit (ds ++ rest)) (ds ++ rest) ∙ ap (λ xs. d ∷ xs) (whole_digits ds rest digits.1 end))

number_is : (most n : ℕ) (ds rest : List ℕ) → take_while is_ascii_digit (ds ++ rest) ≡ ds → 1 ≤ length ds → length ds ≤ 20
    → decimal_value 0 ds ≡ n → n ≤ most → number_at most (ds ++ rest) ≡ Some (n, rest)
number_is most n ds rest whole some few value within =
    rw (whole, le-leb 1 (length ds) some, le-leb (length ds) 20 few, value, le-leb n most within, drop-append_seam ds rest) refl

pub number_read : (most n : ℕ) (rest : List ℕ) → n ≤ most → n < 2 ^ 64 → take_while is_ascii_digit rest ≡ [] → number_at most (decimal n ++ rest) ≡ Some (n, rest)
number_read most n rest within small end =
    number_is most n (decimal n) rest (whole_digits (decimal n) rest (digits_decimal numerals n small) end) (decimal_nonempty n small)
    (length-decimal-le 20 n (omega arith) (omega (arith, small)) small) (digits_value-decimal numerals n small) within

last_read : (most n : ℕ) → n ≤ most → n < 2 ^ 64 → number_at most (decimal n) ≡ Some (n, [])
last_read most n within small = subst (λ text. number_at most text ≡ Some (n, [])) (append-nil (decimal n)) (number_read most n [] within small refl)

-- ---- what is asked

pub configure_read : (con : ConId) (serial : ℕ) (size : Size) → con.0 < 4294967296 → serial < 18446744073709551616 → size.w ≤ 16384 → size.h ≤ 16384
    → asked_of (configure_text con serial size) ≡ Some (asked.Configure con serial size)
configure_read con serial size id long wide high =
    let sides = decimal size.w ++ (codes "x" ++ decimal size.h) in
    rw (
      number_read 4294967295 con.0 (codes " " ++ (decimal serial ++ (codes " " ++ sides))) (omega (arith, id)) (omega (arith, id)) refl,
      number_read 18446744073709551615 serial (codes " " ++ sides) (omega (arith, long)) (omega (arith, long)) refl,
      number_read 16384 size.w (codes "x" ++ decimal size.h) wide (omega (arith, wide)) refl,
      last_read 16384 size.h high (omega (arith, high)),
    ) refl

pub kill_read : (con : ConId) (number : ℕ) → con.0 < 4294967296 → number < 18446744073709551616 → asked_of (kill_text con number) ≡ Some (asked.Kill con)
kill_read con number id long =
    rw (
      number_read 4294967295 con.0 (codes " " ++ decimal number) (omega (arith, id)) (omega (arith, id)) refl,
      last_read 18446744073709551615 number (omega (arith, long)) (omega (arith, long)),
    ) refl

-- ---- what is said

-- digits do not begin with a space
not_space : (d : ℕ) → 48 ≤ d → eqb d 32 ≡ false
not_space d least = by (eqb d 32) refl
  where
    by : (t : Bool) → eqb d 32 ≡ t → t ≡ false
    by false e = refl
    by true e = let same : d ≡ 32 = (Decides-eqb d 32).0 e in absurd (omega (arith, same, least))

no_spaces : (ds rest : List ℕ) → AllDigits 10 ds → 1 ≤ length ds → past_spaces (ds ++ rest) ≡ ds ++ rest
no_spaces [] rest digits some = absurd (omega (arith, some))
no_spaces (d ∷ ds) rest digits some = let range = digit_from_value d digits.0 in rw (not_space d range.0) refl

number_begins : (n : ℕ) (rest : List ℕ) → n < 2 ^ 64 → past_spaces (decimal n ++ rest) ≡ decimal n ++ rest
number_begins n rest small = no_spaces (decimal n) rest (digits_decimal numerals n small) (decimal_nonempty n small)

last_begins : (n : ℕ) → n < 2 ^ 64 → past_spaces (decimal n) ≡ decimal n
last_begins n small = subst (λ text. past_spaces text ≡ text) (append-nil (decimal n)) (number_begins n [] small)

pub ack_read : (con : ConId) (serial : ℕ) → con.0 < 4294967296 → serial < 18446744073709551616 → client_step_of (ack_text con serial) ≡ Some (Client (Ack con serial))
ack_read con serial id long =
    rw (
      number_begins con.0 (codes " " ++ decimal serial) (omega (arith, id)),
      number_read 4294967295 con.0 (codes " " ++ decimal serial) (omega (arith, id)) (omega (arith, id)) refl,
      last_begins serial (omega (arith, long)),
      last_read 18446744073709551615 serial (omega (arith, long)) (omega (arith, long)),
    ) refl

pub buffer_read : (con : ConId) (size : Size) → con.0 < 4294967296 → size.w ≤ 16384 → size.h ≤ 16384
    → client_step_of (buffer_text con size) ≡ Some (Client (Buffer con (blue size)))
buffer_read con size id wide high =
    let sides = decimal size.w ++ (codes "x" ++ decimal size.h) in
    rw (
      number_begins con.0 (codes " 0000ff " ++ sides) (omega (arith, id)),
      number_read 4294967295 con.0 (codes " 0000ff " ++ sides) (omega (arith, id)) (omega (arith, id)) refl,
      number_begins size.w (codes "x" ++ decimal size.h) (omega (arith, wide)),
      number_read 16384 size.w (codes "x" ++ decimal size.h) wide (omega (arith, wide)) refl,
      last_read 16384 size.h high (omega (arith, high)),
    ) refl

pub close_read : (con : ConId) → con.0 < 4294967296 → client_step_of (close_text con) ≡ Some (Close con)
close_read con id = rw (last_begins con.0 (omega (arith, id)), last_read 4294967295 con.0 (omega (arith, id)) (omega (arith, id))) refl
