-- A line says something exactly where the grammar tells so.
use Rattle.std.proofs.Common.{◌≡◌, ◌∙◌, refl, ap, sym, subst, Bool, true, false, cond, eqb, ℕ, ◌||◌, inl, inr, List, [], ◌∷◌, ◌++◌, drop, Option, None, Some, codes, nat_eq, arith}
use Rattle.std.specs.List.{AllByRecursion, starts_with}
use Rattle.std.specs.Option.{option_map}
use Rattle.std.specs.Str.{is_utf8, IsUtf8}
use Rattle.std.proofs.lemmas.Bool.{and_from, and_parts, eq-eqb, eqb-true}
use Rattle.std.proofs.lemmas.Str.{IsUtf8-from_is_utf8, is_utf8-from_IsUtf8}
use Rattle.wm_fields.specs.Fields.{behind, gap_at, if_end, number_at, or_else, or_none, word_then}
use Rattle.wm_script.specs.Lines.{by_caller, deed_of, is_blank, or, plan_line_of, said_by, said_of, says_nothing, something_of, spoken_at, version_at}
use Rattle.wm_script.specs.declared.line.Line.{Line}
use Rattle.wm_script.specs.declared.said.Said.{Said}
use Rattle.wm_script.specs.declared.said.Said.TheVariants.{Nothing, Version, Output, Border, Inner, Outer, Mode, Bind, Layout, Does}
use Rattle.law_script.proofs.DeedLemmas.{deed_reads, deed_splits}
use Rattle.law_script.proofs.FirstWords.{IsDeedText, deed_alone}
use Rattle.law_script.proofs.NumberLemmas.{IsNumbered, ends_stop, number_reads, number_split}
use Rattle.law_script.proofs.PlanLemmas.{plan_begins, plan_reads, plan_splits}
use Rattle.law_script.proofs.StepReads.{over}
use Rattle.law_script.proofs.FieldSplits.{last_word}
use Rattle.law_script.proofs.Turns.{else_by, end_by, map_by, none_by, or_by, same_some, test_by}
use Rattle.law_script.proofs.Utf8Lemmas.{later_utf8}
use Rattle.law_script.proofs.WordLemmas.{IsGapped, IsThen, before, begins_split, behind_split, gap_ends, gap_split, then_split}
use Rattle.law_script.specs.Deeds.{SaysBy, SaysDeed}
use Rattle.law_script.specs.Lines.{Says, SaysSo}
use Rattle.law_script.specs.Pieces.{AreWords, IsBefore}

-- ---- told by the grammar, and so read

blank_is : (text : List ℕ) → AllByRecursion (λ c. c ≡ 32) text → is_blank text ≡ true
blank_is [] spaces = refl
blank_is (c ∷ cs) spaces = and_from (eqb c 32) (is_blank cs) (eq-eqb c 32 spaces.0) (blank_is cs spaces.1)

nothing_is : (text : List ℕ) → SaysSo text Nothing → says_nothing text ≡ true
nothing_is text (inl spaces) = ap (λ b. b || starts_with nat_eq text (codes "#")) (blank_is text spaces)
nothing_is text (inr is) = ap says_nothing is.whole

nothing_reads : (text : List ℕ) → IsUtf8 text → says_nothing text ≡ true → said_of text ≡ Some Nothing
nothing_reads text utf8 is =
    ap (λ b. cond b (cond (says_nothing text) (Some Nothing) (something_of text)) None) (is_utf8-from_IsUtf8 text utf8)
    ∙ ap (λ b. cond b (Some Nothing) (something_of text)) is

something_reads : (text : List ℕ) (said : Said) → IsUtf8 text → says_nothing text ≡ false → something_of text ≡ Some said → said_of text ≡ Some said
something_reads text said utf8 is reads =
    ap (λ b. cond b (cond (says_nothing text) (Some Nothing) (something_of text)) None) (is_utf8-from_IsUtf8 text utf8)
    ∙ (ap (λ b. cond b (Some Nothing) (something_of text)) is ∙ reads)

version_reads : (text : List ℕ) → IsUtf8 text → SaysSo text Version → said_of text ≡ Some Version
version_reads text utf8 w =
    let gap : gap_at (w.gap ++ w.later) ≡ Some w.later = over (codes "version") (codes "1") text [] w (λ e. absurd (omega (arith, e))) in
    something_reads text Version utf8 (ap says_nothing w.whole) (ap something_of w.whole ∙ rw (gap, w.holds) refl)

caller_reads : (text : List ℕ) (line : Line) → IsUtf8 text → SaysDeed text line.deed → line.who ≡ 0 → said_of text ≡ Some (Does line)
caller_reads text line utf8 says who =
    let alone : IsDeedText text = deed_alone text line.deed says in
    let reads : said_by 0 text ≡ Some (Does line) =
    ap (option_map (λ deed. Does (by_caller 0 deed))) (deed_reads text line.deed utf8 says) ∙ ap (λ n. Some (Does (by_caller n line.deed))) (sym who) in
    something_reads text (Does line) utf8 alone.something
    (ap (λ o. or_else o version_at (or_else (behind (codes "@") text) spoken_at (or (plan_line_of text) (said_by 0 text)))) alone.version
    ∙ (ap (λ o. or_else o spoken_at (or (plan_line_of text) (said_by 0 text))) alone.who
    ∙ (ap (λ o. or o (said_by 0 text)) alone.plan ∙ reads)))

spoken_reads : (text : List ℕ) (line : Line) → IsUtf8 text → SaysBy text line → said_of text ≡ Some (Does line)
spoken_reads text line utf8 says =
    let w : IsBefore (codes "@" ++ says.number) (AreWords (says.deed ∷ [])) text = says.words in
    let rest : List ℕ = w.gap ++ w.later in
    let number : number_at 4294967295 (says.number ++ rest) ≡ Some (line.who, rest) =
    number_reads 4294967295 line.who says.number rest says.is_number (ends_stop rest (gap_ends w.gap w.later w.is_gap)) in
    let alone : IsDeedText says.deed = deed_alone says.deed line.deed says.is_deed in
    let gap : gap_at rest ≡ Some w.later = over (codes "@" ++ says.number) says.deed text [] w alone.starts in
    let deep : IsUtf8 says.deed = subst IsUtf8 w.holds (later_utf8 (codes "@" ++ says.number) text (AreWords (says.deed ∷ [])) w utf8) in
    let reads : said_by line.who w.later ≡ Some (Does line) =
    ap (said_by line.who) w.holds ∙ ap (option_map (λ deed. Does (by_caller line.who deed))) (deed_reads says.deed line.deed deep says.is_deed) in
    let spoken : spoken_at (says.number ++ rest) ≡ Some (Does line) =
    ap (λ o. or_none o (λ who. or_none (gap_at who.1) (said_by who.0))) number ∙ (ap (λ o. or_none o (said_by line.who)) gap ∙ reads) in
    something_reads text (Does line) utf8 (ap says_nothing w.whole) (ap something_of w.whole ∙ spoken)

so_reads : (text : List ℕ) (said : Said) → IsUtf8 text → SaysSo text said → said_of text ≡ Some said
so_reads text Nothing utf8 so = nothing_reads text utf8 (nothing_is text so)
so_reads text Version utf8 so = version_reads text utf8 so
so_reads text (Does line) utf8 (inl so) = caller_reads text line utf8 so.1 so.0
so_reads text (Does line) utf8 (inr so) = spoken_reads text line utf8 so
so_reads text (Output o) utf8 so = something_reads text (Output o) utf8 (plan_begins text (Output o) tt so) (plan_reads text (Output o) tt utf8 so)
so_reads text (Border b) utf8 so = something_reads text (Border b) utf8 (plan_begins text (Border b) tt so) (plan_reads text (Border b) tt utf8 so)
so_reads text (Inner n) utf8 so = something_reads text (Inner n) utf8 (plan_begins text (Inner n) tt so) (plan_reads text (Inner n) tt utf8 so)
so_reads text (Outer n) utf8 so = something_reads text (Outer n) utf8 (plan_begins text (Outer n) tt so) (plan_reads text (Outer n) tt utf8 so)
so_reads text (Mode name) utf8 so = something_reads text (Mode name) utf8 (plan_begins text (Mode name) tt so) (plan_reads text (Mode name) tt utf8 so)
so_reads text (Bind mode chord command) utf8 so =
    something_reads text (Bind mode chord command) utf8 (plan_begins text (Bind mode chord command) tt so) (plan_reads text (Bind mode chord command) tt utf8 so)
so_reads text (Layout name layout) utf8 so = something_reads text (Layout name layout) utf8 (plan_begins text (Layout name layout) tt so) (plan_reads text (Layout name layout) tt utf8 so)

pub line_reads : (text : List ℕ) (said : Said) → Says text said → said_of text ≡ Some said
line_reads text said says = so_reads text said says.utf8 says.so

-- ---- read, and so told by the grammar

is_blank_all : (text : List ℕ) → is_blank text ≡ true → AllByRecursion (λ c. c ≡ 32) text
is_blank_all [] e = tt
is_blank_all (c ∷ cs) e = let both : (eqb c 32 ≡ true) × (is_blank cs ≡ true) = and_parts (eqb c 32) (is_blank cs) e in (eqb-true c 32 both.0, is_blank_all cs both.1)

nothing_splits : (text : List ℕ) → says_nothing text ≡ true → SaysSo text Nothing
nothing_splits text e = by (is_blank text) refl e
  where
    by : (t : Bool) → is_blank text ≡ t → (t || starts_with nat_eq text (codes "#")) ≡ true → SaysSo text Nothing
    by true is f = inl (is_blank_all text is)
    by false is f = inr (record { remark = drop 1 text; whole = begins_split (codes "#") text f })

version_splits : (text rest : List ℕ) (said : Said) → IsThen (codes "version") text rest → version_at rest ≡ Some said → SaysSo text said
version_splits text rest said then e = none_by (behind (codes "1") rest) (if_end Version) said (λ more b f. end_by Version more said (λ ended same.
    subst (SaysSo text) same (before (codes "version") text rest (AreWords (codes "1" ∷ [])) then (last_word (codes "1") rest more (behind_split (codes "1") rest more b) ended))) f) e

spoken_splits : (text rest : List ℕ) (said : Said) → text ≡ codes "@" ++ rest → spoken_at rest ≡ Some said → SaysSo text said
spoken_splits text rest said whole e = none_by (number_at 4294967295 rest) _ said (λ who a f. none_by (gap_at who.1) (said_by who.0) said (λ later b g.
    map_by (λ deed. Does (by_caller who.0 deed)) (deed_of later) said (λ deed c same.
    let number : IsNumbered 4294967295 rest who.0 who.1 = number_split 4294967295 rest who.0 who.1 a in
    let gapped : IsGapped who.1 later = gap_split who.1 later b in
    subst (SaysSo text) same (inr (record {
      number = number.front;
      deed = later;
      words = record {
        gap = gapped.gap;
        later = later;
        whole = whole ∙ ap (λ t. codes "@" ++ t) (number.whole ∙ ap (λ r. number.front ++ r) gapped.whole);
        is_gap = gapped.is_gap;
        holds = refl;
      };
      is_number = number.is;
      is_deed = deed_splits later deed c;
    }))) g) f) e

something_splits : (text : List ℕ) (said : Said) → something_of text ≡ Some said → SaysSo text said
something_splits text said e =
    else_by (word_then (codes "version") text) version_at _ said (λ rest w f. version_splits text rest said (then_split (codes "version") text rest w) f) (λ e.
    else_by (behind (codes "@") text) spoken_at _ said (λ rest b f. spoken_splits text rest said (behind_split (codes "@") text rest b) f) (λ e.
    or_by (plan_line_of text) (said_by 0 text) said (plan_splits text said) (λ e.
    map_by (λ deed. Does (by_caller 0 deed)) (deed_of text) said (λ deed c same. subst (SaysSo text) same (inl (refl, deed_splits text deed c))) e) e) e) e

pub line_splits : (text : List ℕ) (said : Said) → said_of text ≡ Some said → Says text said
line_splits text said e = test_by (is_utf8 text) (cond (says_nothing text) (Some Nothing) (something_of text)) said (λ t f.
    record { utf8 = IsUtf8-from_is_utf8 text t; so = by (says_nothing text) refl f }) e
  where
    by : (t : Bool) → says_nothing text ≡ t → cond t (Some Nothing) (something_of text) ≡ Some said → SaysSo text said
    by true is f = subst (SaysSo text) (same_some Nothing said f) (nothing_splits text is)
    by false is f = something_splits text said f

-- ---- lines outside the grammar

pub one_thing : (text : List ℕ) (a b : Said) → Says text a → Says text b → a ≡ b
one_thing text a b first second = same_some a b (sym (line_reads text a first) ∙ line_reads text b second)

pub outside_none : (text : List ℕ) → ((said : Said) → Says text said → ⊥) → said_of text ≡ None
outside_none text outside = by (said_of text) refl
  where
    by : (o : Option Said) → said_of text ≡ o → o ≡ None
    by None is = refl
    by (Some said) is = absurd (outside said (line_splits text said is))

pub none_outside : (text : List ℕ) → said_of text ≡ None → (said : Said) → Says text said → ⊥
none_outside text none said says = no (sym (line_reads text said says) ∙ none)
  where
    no : Some said ≡ None → ⊥
    no e = cc
