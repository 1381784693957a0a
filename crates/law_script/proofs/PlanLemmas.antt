-- A line says something of the plan exactly where the grammar tells so.
use Rattle.std.proofs.Common.{◌≡◌, ◌∙◌, refl, ap, sym, subst, true, false, cond, ℕ, ℤ, zero, suc, ◌*◌, ◌≤◌, ◌&&◌, inl, inr, List, [], ◌∷◌, ◌++◌, length, None, Some, codes, arith}
use Rattle.std.specs.Prelude.{pos, neg_ℤ, negsuc, int_le, nat_le}
use Rattle.std.specs.Str.{is_utf8, IsUtf8}
use Rattle.std.proofs.lemmas.Bool.{and_parts, le-leb, leb-true}
use Rattle.std.proofs.lemmas.Str.{is_utf8-from_IsUtf8}
use Rattle.wm_base.specs.declared.geometry.Rect.{Rect}
use Rattle.wm_base.specs.declared.plan.Border.TheVariants as border
use Rattle.wm_base.specs.declared.plan.OutputPlan.{OutputPlan}
use Rattle.wm_binds.specs.Lines.{layout_of}
use Rattle.wm_fields.specs.Fields.{behind, gap_at, if_end, number_at, or_none, word_then}
use Rattle.wm_fields.specs.Quoted.{name_at}
use Rattle.wm_layouts.specs.Plan.{is_fit_place, is_fit_rect, is_fit_size}
use Rattle.wm_lines.specs.Lines.{output_at}
use Rattle.wm_saved.specs.declared.saved.SavedLayout.{SavedLayout}
use Rattle.wm_script.specs.Lines.{bind_at, border_at, chord_at, command_in, command_of, gaps_at, layout_at, layout_in, mode_at, plan_line_of, planned_at, says_nothing, set_line_of, sized, something_of}
use Rattle.wm_script.specs.declared.said.Said.{Said}
use Rattle.wm_script.specs.declared.said.Said.TheVariants.{Output, Border as Borders, Inner, Outer, Mode, Bind, Layout}
use Rattle.law_script.proofs.NumberLemmas.{IsNumbered, number_split, number_starts}
use Rattle.law_script.proofs.StepReads.{name_before, name_last, number_last, output_gap, output_reads, over}
use Rattle.law_script.proofs.FieldSplits.{last_word, output_splits, tail_from}
use Rattle.law_script.proofs.TextLemmas.{IsNamed, name_split, name_starts}
use Rattle.law_script.proofs.Turns.{else_by, end_by, none_by, same_some, test_by}
use Rattle.law_script.proofs.Utf8Lemmas.{later_utf8}
use Rattle.law_script.proofs.WordLemmas.{IsGapped, IsThen, before, behind_split, gap_over, gap_split, then_split, words_from}
use Rattle.law_script.specs.Lines.{SaysSo}
use Rattle.law_script.specs.Pieces.{AreWords, BeginsWithout, IsBefore, IsCoordinate}
use Rattle.law_script.specs.PlanLines.{SaysBind, SaysLayout, SaysMode, SaysPlanned, SaysSet}

-- ---- told by the grammar, and so read

-- a coordinate is within the limits of a place
record IsWithin (x : ℤ) : Type 0 where
  pub low : int_le (negsuc 131071) x ≡ true
  pub high : int_le x (pos 131071) ≡ true

back_within : (n : ℕ) → n ≤ 131072 → IsWithin (neg_ℤ (pos n))
back_within zero few = record { low = refl; high = refl }
back_within (suc m) few = record { low = le-leb m 131071 (omega (arith, few)); high = refl }

coordinate_within : (text : List ℕ) (x : ℤ) → IsCoordinate text x → IsWithin x
coordinate_within text x (inl is) = subst IsWithin (sym is.value) (record { low = refl; high = le-leb is.n 131071 is.is_number.within })
coordinate_within text x (inr is) = subst IsWithin (sym is.value) (back_within is.n is.is_number.within)

rect_fits : (text : List ℕ) (o : OutputPlan) → SaysPlanned text o → is_fit_rect o.rect ≡ true
rect_fits text o says =
    let x : IsWithin o.rect.x = coordinate_within says.output.is_place.across o.rect.x says.output.is_place.is_across in
    let y : IsWithin o.rect.y = coordinate_within says.output.is_place.down o.rect.y says.output.is_place.is_down in
    rw (
      x.low,
      x.high,
      y.low,
      y.high,
      le-leb 1 o.rect.w says.wide,
      le-leb o.rect.w 16384 says.output.is_size.is_width.within,
      le-leb 1 o.rect.h says.high,
      le-leb o.rect.h 16384 says.output.is_size.is_height.within,
      le-leb (o.rect.w * o.rect.h) 33554432 says.area,
    ) refl

planned_reads : (text : List ℕ) (o : OutputPlan) → SaysPlanned text o → something_of text ≡ Some (Output o)
planned_reads text o says =
    let w = says.output.words in
    ap something_of w.whole ∙ rw (output_gap (codes "output") text o says.output, output_reads (codes "output") text o says.output, rect_fits text o says) refl

bare_reads : (text : List ℕ) → AreWords (codes "border" ∷ codes "none" ∷ []) text → something_of text ≡ Some (Borders border.Bare)
bare_reads text w =
    let gap : gap_at (w.gap ++ w.later) ≡ Some w.later = over (codes "border") (codes "none") text [] w (λ e. absurd (omega (arith, e))) in
    ap something_of w.whole ∙ rw (gap, w.holds) refl

pixel_reads : (text : List ℕ) (n : ℕ) → SaysSet (codes "border") (codes "pixel") 64 text n → something_of text ≡ Some (Borders (border.Pixel n))
pixel_reads text n says =
    let w : IsBefore (codes "border") (AreWords (codes "pixel" ∷ says.number ∷ [])) text = says.words in
    let gap : gap_at (w.gap ++ w.later) ≡ Some w.later = over (codes "border") (codes "pixel") text (says.number ∷ []) w (λ e. absurd (omega (arith, e))) in
    let next : gap_at (w.holds.gap ++ w.holds.later) ≡ Some w.holds.later = over (codes "pixel") says.number w.later [] w.holds (number_starts 64 n says.number says.is_number) in
    let number : number_at 64 w.holds.later ≡ Some (n, []) = number_last 64 n says.number w.holds.later w.holds.holds says.is_number in
    ap something_of w.whole ∙ rw (gap, w.holds.whole, next, number) refl

normal_reads : (text : List ℕ) (n : ℕ) → SaysSet (codes "border") (codes "normal") 64 text n → something_of text ≡ Some (Borders (border.Normal n))
normal_reads text n says =
    let w : IsBefore (codes "border") (AreWords (codes "normal" ∷ says.number ∷ [])) text = says.words in
    let gap : gap_at (w.gap ++ w.later) ≡ Some w.later = over (codes "border") (codes "normal") text (says.number ∷ []) w (λ e. absurd (omega (arith, e))) in
    let next : gap_at (w.holds.gap ++ w.holds.later) ≡ Some w.holds.later = over (codes "normal") says.number w.later [] w.holds (number_starts 64 n says.number says.is_number) in
    let number : number_at 64 w.holds.later ≡ Some (n, []) = number_last 64 n says.number w.holds.later w.holds.holds says.is_number in
    ap something_of w.whole ∙ rw (gap, w.holds.whole, next, number) refl

inner_reads : (text : List ℕ) (n : ℕ) → SaysSet (codes "gaps") (codes "inner") 1000 text n → something_of text ≡ Some (Inner n)
inner_reads text n says =
    let w : IsBefore (codes "gaps") (AreWords (codes "inner" ∷ says.number ∷ [])) text = says.words in
    let gap : gap_at (w.gap ++ w.later) ≡ Some w.later = over (codes "gaps") (codes "inner") text (says.number ∷ []) w (λ e. absurd (omega (arith, e))) in
    let next : gap_at (w.holds.gap ++ w.holds.later) ≡ Some w.holds.later = over (codes "inner") says.number w.later [] w.holds (number_starts 1000 n says.number says.is_number) in
    let number : number_at 1000 w.holds.later ≡ Some (n, []) = number_last 1000 n says.number w.holds.later w.holds.holds says.is_number in
    ap something_of w.whole ∙ rw (gap, w.holds.whole, next, number) refl

outer_reads : (text : List ℕ) (n : ℕ) → SaysSet (codes "gaps") (codes "outer") 1000 text n → something_of text ≡ Some (Outer n)
outer_reads text n says =
    let w : IsBefore (codes "gaps") (AreWords (codes "outer" ∷ says.number ∷ [])) text = says.words in
    let gap : gap_at (w.gap ++ w.later) ≡ Some w.later = over (codes "gaps") (codes "outer") text (says.number ∷ []) w (λ e. absurd (omega (arith, e))) in
    let next : gap_at (w.holds.gap ++ w.holds.later) ≡ Some w.holds.later = over (codes "outer") says.number w.later [] w.holds (number_starts 1000 n says.number says.is_number) in
    let number : number_at 1000 w.holds.later ≡ Some (n, []) = number_last 1000 n says.number w.holds.later w.holds.holds says.is_number in
    ap something_of w.whole ∙ rw (gap, w.holds.whole, next, number) refl

mode_reads : (text said : List ℕ) → SaysMode text said → something_of text ≡ Some (Mode said)
mode_reads text said says =
    let w : IsBefore (codes "mode") (AreWords (says.name ∷ [])) text = says.words in
    let gap : gap_at (w.gap ++ w.later) ≡ Some w.later = over (codes "mode") says.name text [] w (name_starts says.name said says.is_name) in
    let name : name_at w.later ≡ Some (said, []) = name_last said says.name w.later w.holds says.is_name in
    ap something_of w.whole ∙ rw (gap, name) refl

command_reads : (mode chord text command : List ℕ) → text ≡ command → 1 ≤ length command → IsUtf8 text → command_of mode chord text ≡ Some (Bind mode chord command)
command_reads mode chord text [] same some utf8 = absurd (omega (arith, some))
command_reads mode chord text (c ∷ cs) same some utf8 =
    ap (command_of mode chord) same ∙ ap (λ t. or_none (cond t (Some (c ∷ cs)) None) (λ command. Some (Bind mode chord command))) (is_utf8-from_IsUtf8 (c ∷ cs) (subst IsUtf8 same utf8))

bind_reads : (text mode chord command : List ℕ) → IsUtf8 text → SaysBind text mode chord command → something_of text ≡ Some (Bind mode chord command)
bind_reads text mode chord command utf8 says =
    let w : IsBefore (codes "bind") (AreWords (says.mode_name ∷ says.chord_name ∷ command ∷ [])) text = says.words in
    let m : IsBefore says.mode_name (AreWords (says.chord_name ∷ command ∷ [])) w.later = w.holds in
    let k : IsBefore says.chord_name (AreWords (command ∷ [])) m.later = m.holds in
    let gap : gap_at (w.gap ++ w.later) ≡ Some w.later = over (codes "bind") says.mode_name text (says.chord_name ∷ command ∷ []) w (name_starts says.mode_name mode says.is_mode) in
    let one : name_at w.later ≡ Some (mode, m.gap ++ m.later) = name_before mode says.mode_name w.later (AreWords (says.chord_name ∷ command ∷ [])) m says.is_mode in
    let next : gap_at (m.gap ++ m.later) ≡ Some m.later = over says.mode_name says.chord_name w.later (command ∷ []) m (name_starts says.chord_name chord says.is_chord) in
    let two : name_at m.later ≡ Some (chord, k.gap ++ k.later) = name_before chord says.chord_name m.later (AreWords (command ∷ [])) k says.is_chord in
    let last : gap_at (k.gap ++ k.later) ≡ Some k.later = gap_over k.gap k.later k.is_gap (subst (BeginsWithout 32) (sym k.holds) says.begins) in
    let deep : IsUtf8 k.later =
    later_utf8 says.chord_name m.later (AreWords (command ∷ [])) k (later_utf8 says.mode_name w.later (AreWords (says.chord_name ∷ command ∷ [])) m
    (later_utf8 (codes "bind") text (AreWords (says.mode_name ∷ says.chord_name ∷ command ∷ [])) w utf8)) in
    let bound : bind_at w.later ≡ Some (Bind mode chord command) =
    ap (λ o. or_none o (λ mode. or_none (gap_at mode.1) (chord_at mode.0))) one
    ∙ ap (λ o. or_none o (chord_at mode)) next
    ∙ ap (λ o. or_none o (λ chord. or_none (gap_at chord.1) (command_of mode chord.0))) two
    ∙ ap (λ o. or_none o (command_of mode chord)) last
    ∙ command_reads mode chord k.later command k.holds says.some deep in
    ap something_of w.whole ∙ rw (gap, bound) refl

layout_reads : (text said : List ℕ) (layout : SavedLayout) → SaysLayout text said layout → something_of text ≡ Some (Layout said layout)
layout_reads text said layout says =
    let w : IsBefore (codes "layout") (AreWords (says.name ∷ says.json ∷ [])) text = says.words in
    let n : IsBefore says.name (AreWords (says.json ∷ [])) w.later = w.holds in
    let gap : gap_at (w.gap ++ w.later) ≡ Some w.later = over (codes "layout") says.name text (says.json ∷ []) w (name_starts says.name said says.is_name) in
    let one : name_at w.later ≡ Some (said, n.gap ++ n.later) = name_before said says.name w.later (AreWords (says.json ∷ [])) n says.is_name in
    let next : gap_at (n.gap ++ n.later) ≡ Some n.later = gap_over n.gap n.later n.is_gap (subst (BeginsWithout 32) (sym n.holds) says.begins) in
    let is : layout_of n.later ≡ Some layout = ap layout_of n.holds ∙ says.is_layout in
    let placed : layout_at w.later ≡ Some (Layout said layout) =
    ap (λ o. or_none o (λ name. or_none (gap_at name.1) (layout_in name.0))) one
    ∙ ap (λ o. or_none o (layout_in said)) next
    ∙ ap (λ o. or_none o (λ layout. Some (Layout said layout))) is in
    ap something_of w.whole ∙ rw (gap, placed) refl

-- what a line says of the plan
abbrev pub IsOfPlan : Said → Type 0
IsOfPlan (Output o) = Unit {0}
IsOfPlan (Borders b) = Unit {0}
IsOfPlan (Inner n) = Unit {0}
IsOfPlan (Outer n) = Unit {0}
IsOfPlan (Mode name) = Unit {0}
IsOfPlan (Bind mode chord command) = Unit {0}
IsOfPlan (Layout name layout) = Unit {0}
IsOfPlan other = ⊥

pub plan_reads : (text : List ℕ) (said : Said) → IsOfPlan said → IsUtf8 text → SaysSo text said → something_of text ≡ Some said
plan_reads text (Output o) plan utf8 says = planned_reads text o says
plan_reads text (Borders border.Bare) plan utf8 says = bare_reads text says
plan_reads text (Borders (border.Pixel n)) plan utf8 says = pixel_reads text n says
plan_reads text (Borders (border.Normal n)) plan utf8 says = normal_reads text n says
plan_reads text (Inner n) plan utf8 says = inner_reads text n says
plan_reads text (Outer n) plan utf8 says = outer_reads text n says
plan_reads text (Mode name) plan utf8 says = mode_reads text name says
plan_reads text (Bind mode chord command) plan utf8 says = bind_reads text mode chord command utf8 says
plan_reads text (Layout name layout) plan utf8 says = layout_reads text name layout says
plan_reads text other plan utf8 says = absurd plan

-- a line of the plan says something
pub plan_begins : (text : List ℕ) (said : Said) → IsOfPlan said → SaysSo text said → says_nothing text ≡ false
plan_begins text (Output o) plan says = ap says_nothing says.output.words.whole
plan_begins text (Borders border.Bare) plan says = ap says_nothing says.whole
plan_begins text (Borders (border.Pixel n)) plan says = ap says_nothing says.words.whole
plan_begins text (Borders (border.Normal n)) plan says = ap says_nothing says.words.whole
plan_begins text (Inner n) plan says = ap says_nothing says.words.whole
plan_begins text (Outer n) plan says = ap says_nothing says.words.whole
plan_begins text (Mode name) plan says = ap says_nothing says.words.whole
plan_begins text (Bind mode chord command) plan says = ap says_nothing says.words.whole
plan_begins text (Layout name layout) plan says = ap says_nothing says.words.whole
plan_begins text other plan says = absurd plan

-- ---- read, and so told by the grammar

planned_splits : (text rest : List ℕ) (said : Said) → IsThen (codes "output") text rest → planned_at rest ≡ Some said → SaysSo text said
planned_splits text rest said then e = none_by (output_at rest) _ said (λ o a f. test_by (is_fit_rect o.rect) (Some (Output o)) said (λ t g.
    let r : Rect = o.rect in
    let two : (is_fit_place r ≡ true) × (is_fit_size r ≡ true) = and_parts (is_fit_place r) (is_fit_size r) t in
    let area : ((nat_le 1 r.w && nat_le r.w 16384 && nat_le 1 r.h && nat_le r.h 16384) ≡ true) × (nat_le (r.w * r.h) 33554432 ≡ true) = and_parts _ _ two.1 in
    let tall : ((nat_le 1 r.w && nat_le r.w 16384 && nat_le 1 r.h) ≡ true) × (nat_le r.h 16384 ≡ true) = and_parts _ _ area.0 in
    let high : ((nat_le 1 r.w && nat_le r.w 16384) ≡ true) × (nat_le 1 r.h ≡ true) = and_parts _ _ tall.0 in
    let wide : (nat_le 1 r.w ≡ true) × (nat_le r.w 16384 ≡ true) = and_parts _ _ high.0 in
    subst (SaysSo text) (same_some (Output o) said g) (record {
      output = output_splits (codes "output") text rest o then a;
      wide = leb-true 1 r.w wide.0;
      high = leb-true 1 r.h high.1;
      area = leb-true (r.w * r.h) 33554432 area.1;
    })) f) e

-- two words and a number
set_splits : (first second : List ℕ) (most : ℕ) (text rest later : List ℕ) (said : Said) (one : ℕ → Said) → ((n : ℕ) → SaysSet first second most text n → SaysSo text (one n))
    → IsThen first text rest → IsThen second rest later → sized most one later ≡ Some said → SaysSo text said
set_splits first second most text rest later said one so then more e = none_by (number_at most later) _ said (λ n a f. end_by (one n.0) n.1 said (λ ended same.
    let number : IsNumbered most later n.0 n.1 = number_split most later n.0 n.1 a in
    subst (SaysSo text) same (so n.0 (record {
      number = number.front;
      words = before first text rest (AreWords (second ∷ number.front ∷ [])) then
          (before second rest later (AreWords (number.front ∷ [])) more (last_word number.front later n.1 number.whole ended));
      is_number = number.is;
    }))) f) e

border_splits : (text rest : List ℕ) (said : Said) → IsThen (codes "border") text rest → border_at rest ≡ Some said → SaysSo text said
border_splits text rest said then e =
    else_by (word_then (codes "pixel") rest) (sized 64 (λ n. Borders (border.Pixel n))) _ said
    (λ later w f. set_splits (codes "border") (codes "pixel") 64 text rest later said (λ n. Borders (border.Pixel n)) (λ n s. s) then (then_split (codes "pixel") rest later w) f) (λ e.
    else_by (word_then (codes "normal") rest) (sized 64 (λ n. Borders (border.Normal n))) _ said
    (λ later w f. set_splits (codes "border") (codes "normal") 64 text rest later said (λ n. Borders (border.Normal n)) (λ n s. s) then (then_split (codes "normal") rest later w) f) (λ e.
    else_by (behind (codes "none") rest) (if_end (Borders border.Bare)) None said
    (λ later b f. end_by (Borders border.Bare) later said (λ ended same.
    subst (SaysSo text) same (before (codes "border") text rest (AreWords (codes "none" ∷ [])) then (last_word (codes "none") rest later (behind_split (codes "none") rest later b) ended))) f)
    (λ e. cc) e) e) e

gaps_splits : (text rest : List ℕ) (said : Said) → IsThen (codes "gaps") text rest → gaps_at rest ≡ Some said → SaysSo text said
gaps_splits text rest said then e =
    else_by (word_then (codes "inner") rest) (sized 1000 Inner) _ said
    (λ later w f. set_splits (codes "gaps") (codes "inner") 1000 text rest later said Inner (λ n s. s) then (then_split (codes "inner") rest later w) f) (λ e.
    else_by (word_then (codes "outer") rest) (sized 1000 Outer) None said
    (λ later w f. set_splits (codes "gaps") (codes "outer") 1000 text rest later said Outer (λ n s. s) then (then_split (codes "outer") rest later w) f)
    (λ e. cc) e) e

mode_splits : (text rest : List ℕ) (said : Said) → IsThen (codes "mode") text rest → mode_at rest ≡ Some said → SaysSo text said
mode_splits text rest said then e = none_by (name_at rest) _ said (λ name a f. end_by (Mode name.0) name.1 said (λ ended same.
    let named : IsNamed rest name.0 name.1 = name_split rest name.0 name.1 a in
    subst (SaysSo text) same (record {
      name = named.front;
      words = before (codes "mode") text rest (AreWords (named.front ∷ [])) then (last_word named.front rest name.1 named.whole ended);
      is_name = named.is;
    })) f) e

-- a command that was taken is not empty
record IsCommand (text command : List ℕ) : Type 0 where
  pub same : text ≡ command
  pub some : 1 ≤ length command

command_split : (text command : List ℕ) → command_in text ≡ Some command → IsCommand text command
command_split [] command e = cc
command_split (c ∷ cs) command e = test_by (is_utf8 (c ∷ cs)) (Some (c ∷ cs)) command (λ t f.
    let same : c ∷ cs ≡ command = same_some (c ∷ cs) command f in
    subst (IsCommand (c ∷ cs)) same (record { same = refl; some = omega arith })) e

bind_splits : (text rest : List ℕ) (said : Said) → IsThen (codes "bind") text rest → bind_at rest ≡ Some said → SaysSo text said
bind_splits text rest said then e = none_by (name_at rest) _ said (λ mode a f. none_by (gap_at mode.1) (chord_at mode.0) said (λ later b g. none_by (name_at later) _ said (λ chord c h.
    none_by (gap_at chord.1) (command_of mode.0 chord.0) said (λ last d i. none_by (command_in last) (λ command. Some (Bind mode.0 chord.0 command)) said (λ command j k.
    let one : IsNamed rest mode.0 mode.1 = name_split rest mode.0 mode.1 a in
    let two : IsNamed later chord.0 chord.1 = name_split later chord.0 chord.1 c in
    let gapped : IsGapped chord.1 last = gap_split chord.1 last d in
    let is : IsCommand last command = command_split last command j in
    subst (SaysSo text) (same_some (Bind mode.0 chord.0 command) said k) (record {
      mode_name = one.front;
      chord_name = two.front;
      words = before (codes "bind") text rest (AreWords (one.front ∷ two.front ∷ command ∷ [])) then
          (words_from one.front rest mode.1 (two.front ∷ command ∷ []) one.whole (tail_from two.front mode.1 later chord.1 (command ∷ []) (gap_split mode.1 later b) two.whole
          (record { gap = gapped.gap; later = last; whole = gapped.whole; is_gap = gapped.is_gap; holds = is.same })));
      is_mode = one.is;
      is_chord = two.is;
      some = is.some;
      begins = subst (BeginsWithout 32) is.same gapped.begins;
    })) i) h) g) f) e

layout_splits : (text rest : List ℕ) (said : Said) → IsThen (codes "layout") text rest → layout_at rest ≡ Some said → SaysSo text said
layout_splits text rest said then e = none_by (name_at rest) _ said (λ name a f. none_by (gap_at name.1) (layout_in name.0) said (λ json b g. none_by (layout_of json) (λ layout. Some (Layout name.0 layout)) said (λ layout c h.
    let named : IsNamed rest name.0 name.1 = name_split rest name.0 name.1 a in
    let gapped : IsGapped name.1 json = gap_split name.1 json b in
    subst (SaysSo text) (same_some (Layout name.0 layout) said h) (record {
      name = named.front;
      json = json;
      words = before (codes "layout") text rest (AreWords (named.front ∷ json ∷ [])) then
          (words_from named.front rest name.1 (json ∷ []) named.whole (record { gap = gapped.gap; later = json; whole = gapped.whole; is_gap = gapped.is_gap; holds = refl }));
      is_name = named.is;
      begins = gapped.begins;
      is_layout = c;
    })) g) f) e

pub plan_splits : (text : List ℕ) (said : Said) → plan_line_of text ≡ Some said → SaysSo text said
plan_splits text said e =
    else_by (word_then (codes "output") text) planned_at _ said (λ rest w f. planned_splits text rest said (then_split (codes "output") text rest w) f) (λ e.
    else_by (word_then (codes "mode") text) mode_at _ said (λ rest w f. mode_splits text rest said (then_split (codes "mode") text rest w) f) (λ e.
    else_by (word_then (codes "bind") text) bind_at _ said (λ rest w f. bind_splits text rest said (then_split (codes "bind") text rest w) f) (λ e.
    else_by (word_then (codes "layout") text) layout_at (set_line_of text) said (λ rest w f. layout_splits text rest said (then_split (codes "layout") text rest w) f) (λ e.
    else_by (word_then (codes "border") text) border_at _ said (λ rest w f. border_splits text rest said (then_split (codes "border") text rest w) f) (λ e.
    else_by (word_then (codes "gaps") text) gaps_at None said (λ rest w f. gaps_splits text rest said (then_split (codes "gaps") text rest w) f) (λ e. cc) e) e) e) e) e) e
