-- The lines of the bytes received, and the first bad one of them.
use Rattle.std.proofs.Common.{◌≡◌, ◌∙◌, refl, ap, sym, ℕ, ◌+◌, ◌<◌, ◌≤◌, true, false, if◌then◌else◌, nat_le, List, [], ◌∷◌, ◌++◌, length, length-append, None, Some, arith, append_assoc}
use Rattle.std.proofs.lemmas.Bool.Decides.{nat_tests}
use Rattle.std.proofs.lemmas.List.{append-nil}
use Rattle.wm_history.specs.Act.{Act}
use Rattle.wm_cut.specs.Lines.{behind_line, first_line, lines_in, rest_in}
use Rattle.wm_cut.proofs.CutLemmas.{fronts}
use Rattle.wm_clients.specs.Lines.{LONGEST, bad_from, bad_here, line_act}
use Rattle.wm_clients.specs.Serving.{Cuts}

-- ---- which lines were taken, and which bytes are pending

pub cuts_first : Cuts [] [] []
cuts_first = record { lines = λ later. refl; rest = λ later. refl }

pub cuts_more : (received : List ℕ) (given : List (List ℕ)) (pending piece : List ℕ) → Cuts received given pending → Cuts (received ++ piece) given (pending ++ piece)
cuts_more received given pending piece c = record {
  lines = λ later. ap lines_in (append_assoc received piece later) ∙ c.lines (piece ++ later) ∙ ap (λ p. given ++ lines_in p) (sym (append_assoc pending piece later));
  rest = λ later. ap rest_in (append_assoc received piece later) ∙ c.rest (piece ++ later) ∙ ap rest_in (sym (append_assoc pending piece later));
}

pub cuts_line : (received : List ℕ) (given : List (List ℕ)) (pending line : List ℕ) → first_line pending ≡ Some line → Cuts received given pending → Cuts received (given ++ line ∷ []) (behind_line pending)
cuts_line received given pending line first c = record {
  lines = λ later. c.lines later ∙ ap (λ ls. given ++ ls) (fronts pending line later first).lines ∙ sym (append_assoc given (line ∷ []) (lines_in (behind_line pending ++ later)));
  rest = λ later. c.rest later ∙ (fronts pending line later first).rest;
}

pub lines_now : (received : List ℕ) (given : List (List ℕ)) (pending : List ℕ) → Cuts received given pending → lines_in received ≡ given ++ lines_in pending
lines_now received given pending c = ap lines_in (sym (append-nil received)) ∙ c.lines [] ∙ ap (λ p. given ++ lines_in p) (append-nil pending)

pub rest_now : (received : List ℕ) (given : List (List ℕ)) (pending : List ℕ) → Cuts received given pending → rest_in received ≡ rest_in pending
rest_now received given pending c = ap rest_in (sym (append-nil received)) ∙ c.rest [] ∙ ap rest_in (append-nil pending)

-- the first line is pending, and then those behind it
pub lines_ahead : (pending line : List ℕ) → first_line pending ≡ Some line → lines_in pending ≡ line ∷ lines_in (behind_line pending)
lines_ahead pending line first = ap lines_in (sym (append-nil pending)) ∙ (fronts pending line [] first).lines ∙ ap (λ p. line ∷ lines_in p) (append-nil (behind_line pending))

-- ---- the first bad line

-- none of these lines, so many of them, is bad
abbrev pub AreGood : List (List ℕ) → ℕ → Type 0
AreGood given count = (more : List (List ℕ)) (rest : List ℕ) → bad_from 1 (given ++ more) rest ≡ bad_from (count + 1) more rest

pub good_line : (given : List (List ℕ)) (count : ℕ) (line : List ℕ) (act : Act) → line_act line ≡ Some act → AreGood given count → AreGood (given ++ line ∷ []) (count + 1)
good_line given count line act step good = λ more rest.
    ap (λ ls. bad_from 1 ls rest) (append_assoc given (line ∷ []) more)
    ∙ good (line ∷ more) rest
    ∙ ap (λ o. bad_here o (count + 1) (bad_from ((count + 1) + 1) more rest)) step

pub counted_line : (given : List (List ℕ)) (count : ℕ) (line : List ℕ) → length given ≡ count → length (given ++ line ∷ []) ≡ count + 1
counted_line given count line is = omega (arith, is, length-append given (line ∷ []))

-- the next line is bad
pub bad_next : (count : ℕ) (line : List ℕ) (lines : List (List ℕ)) (rest : List ℕ) → line_act line ≡ None → bad_from count (line ∷ lines) rest ≡ Some count
bad_next count line lines rest bad = ap (λ o. bad_here o count (bad_from (count + 1) lines rest)) bad

-- the bytes behind the last line feed are too long already, or they are not
pub bad_long : (count : ℕ) (rest : List ℕ) → LONGEST < length rest → bad_from count [] rest ≡ Some count
bad_long count rest long = ap (λ b. if b then None else Some count) (is_longer (length rest) long)
  where
    is_longer : (n : ℕ) → LONGEST < n → nat_le n LONGEST ≡ false
    is_longer n h = grind (arith, nat_tests)

pub none_bad : (count : ℕ) (rest : List ℕ) → length rest ≤ LONGEST → bad_from count [] rest ≡ None
none_bad count rest short = ap (λ b. if b then None else Some count) (is_within (length rest) short)
  where
    is_within : (n : ℕ) → n ≤ LONGEST → nat_le n LONGEST ≡ true
    is_within n h = grind (arith, nat_tests)
