-- A script is what its lines say, and a refusal names the first one that is outside the grammar.
use Rattle.std.proofs.Common.{◌≡◌, ◌∙◌, refl, ap, sym, subst, ℕ, ◌+◌, List, [], ◌∷◌, ◌++◌, length, Option, None, Some, Result, Ok, Err, arith}
use Rattle.wm_fields.specs.Split.{lines_of}
use Rattle.wm_script.specs.Lines.{said_of}
use Rattle.wm_script.specs.Script.{at_first, go_on, script, script_from, script_of, with_said, with_text, with_text_said}
use Rattle.wm_script.specs.declared.reading.Reading.{Reading}
use Rattle.wm_script.specs.declared.said.Said.{Said}
use Rattle.wm_script.specs.declared.script.Script.{Script}
use Rattle.law_script.proofs.LineLemmas.{line_reads, line_splits}
use Rattle.law_script.specs.Lines.{Says}
use Rattle.law_script.specs.Scripts.{AreLines, AreScript, IsFirstOutside, IsOutside}

-- ---- one line

-- a line was taken
record IsTaken (before : Reading) (text : List ℕ) (next : Reading) : Type 0 where
  pub said : Said
  pub says : Says text said
  pub may : with_said before said ≡ Some next

taken_is : (before : Reading) (text : List ℕ) (next : Reading) → with_text before text ≡ Some next → IsTaken before text next
taken_is before text next e = by (said_of text) refl e
  where
    by : (o : Option Said) → said_of text ≡ o → with_text_said before o ≡ Some next → IsTaken before text next
    by None is f = cc
    by (Some said) is f = record { said = said; says = line_splits text said is; may = f }

takes : (before : Reading) (text : List ℕ) (said : Said) → Says text said → with_text before text ≡ with_said before said
takes before text said says = ap (with_text_said before) (line_reads text said says)

refused_is : (before : Reading) (text : List ℕ) → with_text before text ≡ None → IsOutside before text
refused_is before text e = λ said says. sym (takes before text said says) ∙ e

refuses : (before : Reading) (text : List ℕ) → IsOutside before text → with_text before text ≡ None
refuses before text outside = by (said_of text) refl
  where
    by : (o : Option Said) → said_of text ≡ o → with_text before text ≡ None
    by None is = ap (with_text_said before) is
    by (Some said) is = ap (with_text_said before) is ∙ outside said (line_splits text said is)

-- ---- lines one after another

abbrev OnlyOk : Result Script ℕ → Type 0
OnlyOk (Ok s) = Unit {0}
OnlyOk (Err n) = ⊥

abbrev script_in : Script → Result Script ℕ → Script
script_in other (Ok s) = s
script_in other (Err n) = other

abbrev number_in : Result Script ℕ → ℕ
number_in (Ok s) = 0
number_in (Err n) = n

from_reads : (count : ℕ) (before after : Reading) (texts : List (List ℕ)) → AreLines before texts after → script_from count before texts ≡ Ok (script_of after)
from_reads count before after [] lines = ap (λ r. Ok (script_of r)) lines
from_reads count before after (text ∷ texts) lines =
    ap (λ o. go_on (count + 1) o (λ next. script_from (count + 1) next texts)) (takes before text lines.said lines.says ∙ lines.may)
    ∙ from_reads (count + 1) lines.next after texts lines.holds

-- texts come to a script
record ComeTo (before : Reading) (texts : List (List ℕ)) (s : Script) : Type 0 where
  pub after : Reading
  pub lines : AreLines before texts after
  pub is : script_of after ≡ s

from_splits : (count : ℕ) (before : Reading) (texts : List (List ℕ)) (s : Script) → script_from count before texts ≡ Ok s → ComeTo before texts s
from_splits count before [] s e = record { after = before; lines = refl; is = ap (script_in s) e }
from_splits count before (text ∷ texts) s e = by (with_text before text) refl (λ next. from_splits (count + 1) next texts s) e
  where
    by : (o : Option Reading) → with_text before text ≡ o → ((next : Reading) → script_from (count + 1) next texts ≡ Ok s → ComeTo next texts s)
        → go_on (count + 1) o (λ next. script_from (count + 1) next texts) ≡ Ok s → ComeTo before (text ∷ texts) s
    by None is more f = absurd (subst OnlyOk (sym f) tt)
    by (Some next) is more f =
        let taken : IsTaken before text next = taken_is before text next is in
        let rest : ComeTo next texts s = more next f in
        record { after = rest.after; lines = record { said = taken.said; next = next; says = taken.says; may = taken.may; holds = rest.lines }; is = rest.is }

pub script_reads : (bytes : List ℕ) (s : Script) → AreScript (lines_of bytes) s → script bytes ≡ Ok s
script_reads bytes s are = from_reads 0 at_first are.after (lines_of bytes) are.lines ∙ ap (λ x. Ok x) are.is

pub script_splits : (bytes : List ℕ) (s : Script) → script bytes ≡ Ok s → AreScript (lines_of bytes) s
script_splits bytes s e = let to : ComeTo at_first (lines_of bytes) s = from_splits 0 at_first (lines_of bytes) s e in record { after = to.after; lines = to.lines; is = to.is }

-- ---- the first line outside

-- the first line outside among these texts, behind so many lines
record IsOutsideFrom (count : ℕ) (first : Reading) (texts : List (List ℕ)) (line : ℕ) : Type 0 where
  pub before : List (List ℕ)
  pub text : List ℕ
  pub later : List (List ℕ)
  pub whole : texts ≡ before ++ text ∷ later
  pub counted : line ≡ count + length before + 1
  pub reading : Reading
  pub lines : AreLines first before reading
  pub outside : IsOutside reading text

outside_splits : (count : ℕ) (first : Reading) (texts : List (List ℕ)) (line : ℕ) → script_from count first texts ≡ Err line → IsOutsideFrom count first texts line
outside_splits count first [] line e = absurd (subst OnlyOk e tt)
outside_splits count first (text ∷ texts) line e = by (with_text first text) refl (λ next. outside_splits (count + 1) next texts line) e
  where
    by : (o : Option Reading) → with_text first text ≡ o → ((next : Reading) → script_from (count + 1) next texts ≡ Err line → IsOutsideFrom (count + 1) next texts line)
        → go_on (count + 1) o (λ next. script_from (count + 1) next texts) ≡ Err line → IsOutsideFrom count first (text ∷ texts) line
    by None is more f =
        let at : count + 1 ≡ line = ap number_in f in
        record { before = []; text = text; later = texts; whole = refl; counted = omega (arith, at); reading = first; lines = refl; outside = refused_is first text is }
    by (Some next) is more f =
        let taken : IsTaken first text next = taken_is first text next is in
        let rest : IsOutsideFrom (count + 1) next texts line = more next f in
        let at : line ≡ count + 1 + length rest.before + 1 = rest.counted in
        record {
          before = text ∷ rest.before;
          text = rest.text;
          later = rest.later;
          whole = ap (λ ts. text ∷ ts) rest.whole;
          counted = omega (arith, at);
          reading = rest.reading;
          lines = record { said = taken.said; next = next; says = taken.says; may = taken.may; holds = rest.lines };
          outside = rest.outside;
        }

outside_reads : (count : ℕ) (first reading : Reading) (before later : List (List ℕ)) (text : List ℕ) (line : ℕ) → AreLines first before reading → IsOutside reading text
    → line ≡ count + length before + 1 → script_from count first (before ++ text ∷ later) ≡ Err line
outside_reads count first reading [] later text line lines outside counted =
    ap (λ o. go_on (count + 1) o (λ next. script_from (count + 1) next later)) (refuses first text (subst (λ r. IsOutside r text) (sym lines) outside))
    ∙ ap (λ n. Err n) (let at : count + 1 ≡ line = omega (arith, counted) in at)
outside_reads count first reading (one ∷ before) later text line lines outside counted =
    ap (λ o. go_on (count + 1) o (λ next. script_from (count + 1) next (before ++ text ∷ later))) (takes first one lines.said lines.says ∙ lines.may)
    ∙ outside_reads (count + 1) lines.next reading before later text line lines.holds outside (omega (arith, counted))

pub first_outside_splits : (bytes : List ℕ) (line : ℕ) → script bytes ≡ Err line → IsFirstOutside (lines_of bytes) line
first_outside_splits bytes line e =
    let from : IsOutsideFrom 0 at_first (lines_of bytes) line = outside_splits 0 at_first (lines_of bytes) line e in
    record {
      before = from.before;
      text = from.text;
      later = from.later;
      whole = from.whole;
      counted = omega (arith, from.counted);
      reading = from.reading;
      lines = from.lines;
      outside = from.outside;
    }

pub first_outside_reads : (bytes : List ℕ) (line : ℕ) → IsFirstOutside (lines_of bytes) line → script bytes ≡ Err line
first_outside_reads bytes line is =
    ap (script_from 0 at_first) is.whole ∙ outside_reads 0 at_first is.reading is.before is.later is.text line is.lines is.outside (omega (arith, is.counted))
