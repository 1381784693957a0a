-- A line says what a caller does exactly where the grammar tells so.
use Rattle.std.proofs.Common.{◌≡◌, ◌∙◌, refl, ap, sym, subst, true, ℕ, List, [], ◌∷◌, ◌++◌, None, Some, codes}
use Rattle.std.specs.Option.{option_map}
use Rattle.std.specs.Str.{is_utf8, IsUtf8}
use Rattle.std.proofs.lemmas.Str.{is_utf8-from_IsUtf8}
use Rattle.wm_history.specs.declared.look.Query.TheVariants as query
use Rattle.wm_binds.specs.Words.{text_of}
use Rattle.wm_fields.specs.Fields.{behind, gap_at, if_end, number_at, serial_at, word_then}
use Rattle.wm_fields.specs.Quoted.{name_at}
use Rattle.wm_lines.specs.Lines.{step_line_of}
use Rattle.wm_script.specs.Lines.{deed_of, key_at, look_line_of, other_deed_of, run_at, wants_at}
use Rattle.wm_script.specs.declared.line.Deed.{Deed}
use Rattle.wm_script.specs.declared.line.Deed.TheVariants.{Run, Do, Key, Paint, Look}
use Rattle.law_script.proofs.FirstWords.{deed_is_step}
use Rattle.law_script.proofs.NumberLemmas.{IsNumbered, number_split, number_starts}
use Rattle.law_script.proofs.StepReads.{name_last, number_before, number_last, over, step_reads}
use Rattle.law_script.proofs.FieldSplits.{last_word, tail_from}
use Rattle.law_script.proofs.StepSplits.{step_splits}
use Rattle.law_script.proofs.TextLemmas.{IsNamed, name_split, name_starts}
use Rattle.law_script.proofs.Turns.{else_by, end_by, map_by, none_by, or_by, same_some, test_by}
use Rattle.law_script.proofs.Utf8Lemmas.{later_utf8}
use Rattle.law_script.proofs.WordLemmas.{IsThen, before, behind_split, gap_over, gap_split, then_split, words_from}
use Rattle.law_script.specs.Deeds.{SaysDeed, SaysKey, SaysRun, SaysWants}
use Rattle.law_script.specs.Pieces.{AreWords, BeginsWithout, IsBefore}

-- ---- told by the grammar, and so read

run_reads : (text commands : List ℕ) → IsUtf8 text → SaysRun text commands → deed_of text ≡ Some (Run commands)
run_reads text commands utf8 says =
    let w : IsBefore (codes "run") (AreWords (commands ∷ [])) text = says.words in
    let gap : gap_at (w.gap ++ w.later) ≡ Some w.later = gap_over w.gap w.later w.is_gap (subst (BeginsWithout 32) (sym w.holds) says.begins) in
    let good : is_utf8 w.later ≡ true = is_utf8-from_IsUtf8 w.later (later_utf8 (codes "run") text (AreWords (commands ∷ [])) w utf8) in
    ap deed_of w.whole ∙ rw (gap, good) (ap (λ t. Some (Run t)) w.holds)

key_reads : (text chord : List ℕ) → SaysKey text chord → deed_of text ≡ Some (Key chord)
key_reads text chord says =
    let w : IsBefore (codes "key") (AreWords (says.name ∷ [])) text = says.words in
    let gap : gap_at (w.gap ++ w.later) ≡ Some w.later = over (codes "key") says.name text [] w (name_starts says.name chord says.is_name) in
    let name : name_at w.later ≡ Some (chord, []) = name_last chord says.name w.later w.holds says.is_name in
    ap deed_of w.whole ∙ rw (gap, name) refl

wants_reads : (text : List ℕ) (serial kill : ℕ) → SaysWants text serial kill → deed_of text ≡ Some (Look (query.Wants serial kill))
wants_reads text serial kill says =
    let w : IsBefore (codes "wants") (AreWords (says.first ∷ says.second ∷ [])) text = says.words in
    let gap : gap_at (w.gap ++ w.later) ≡ Some w.later = over (codes "wants") says.first text (says.second ∷ []) w (number_starts 18446744073709551615 serial says.first says.is_serial) in
    let one : number_at 18446744073709551615 w.later ≡ Some (serial, w.holds.gap ++ w.holds.later) = number_before 18446744073709551615 serial says.first w.later (AreWords (says.second ∷ [])) w.holds says.is_serial in
    let next : gap_at (w.holds.gap ++ w.holds.later) ≡ Some w.holds.later = over says.first says.second w.later [] w.holds (number_starts 18446744073709551615 kill says.second says.is_kill) in
    let two : number_at 18446744073709551615 w.holds.later ≡ Some (kill, []) = number_last 18446744073709551615 kill says.second w.holds.later w.holds.holds says.is_kill in
    ap deed_of w.whole ∙ rw (gap, one, next, two) refl

pub deed_reads : (text : List ℕ) (deed : Deed) → IsUtf8 text → SaysDeed text deed → deed_of text ≡ Some deed
deed_reads text (Run commands) utf8 says = run_reads text commands utf8 says
deed_reads text (Do step) utf8 says = deed_is_step text step says ∙ ap (option_map Do) (step_reads text step says)
deed_reads text (Key chord) utf8 says = key_reads text chord says
deed_reads text Paint utf8 says = ap deed_of says
deed_reads text (Look query.Tree) utf8 says = ap deed_of says
deed_reads text (Look query.Workspaces) utf8 says = ap deed_of says
deed_reads text (Look query.Outputs) utf8 says = ap deed_of says
deed_reads text (Look query.Marks) utf8 says = ap deed_of says
deed_reads text (Look (query.Wants serial kill)) utf8 says = wants_reads text serial kill says
deed_reads text other utf8 says = absurd says

-- ---- read, and so told by the grammar

run_splits : (text rest : List ℕ) (deed : Deed) → IsThen (codes "run") text rest → run_at rest ≡ Some deed → SaysDeed text deed
run_splits text rest deed then e = map_by Run (text_of rest) deed (λ commands a same. test_by (is_utf8 rest) (Some rest) commands (λ t f.
    subst (SaysDeed text) (ap Run (same_some rest commands f) ∙ same) (record { words = before (codes "run") text rest (AreWords (rest ∷ [])) then refl; begins = then.begins })) a) e

key_splits : (text rest : List ℕ) (deed : Deed) → IsThen (codes "key") text rest → key_at rest ≡ Some deed → SaysDeed text deed
key_splits text rest deed then e = none_by (name_at rest) _ deed (λ chord a f. end_by (Key chord.0) chord.1 deed (λ ended same.
    let named : IsNamed rest chord.0 chord.1 = name_split rest chord.0 chord.1 a in
    subst (SaysDeed text) same (record {
      name = named.front;
      words = before (codes "key") text rest (AreWords (named.front ∷ [])) then (last_word named.front rest chord.1 named.whole ended);
      is_name = named.is;
    })) f) e

-- a word alone
alone_splits : (word text rest : List ℕ) (one deed : Deed) → (text ≡ word → SaysDeed text one) → behind word text ≡ Some rest → if_end one rest ≡ Some deed → SaysDeed text deed
alone_splits word text rest one deed says b e = end_by one rest deed (λ ended same. subst (SaysDeed text) same (says (last_word word text rest (behind_split word text rest b) ended))) e

wants_splits : (text rest : List ℕ) (deed : Deed) → IsThen (codes "wants") text rest → wants_at rest ≡ Some deed → SaysDeed text deed
wants_splits text rest deed then e = none_by (serial_at rest) _ deed (λ serial a f. none_by (gap_at serial.1) _ deed (λ later b g. none_by (serial_at later) _ deed (λ kill c h.
    end_by (Look (query.Wants serial.0 kill.0)) kill.1 deed (λ ended same.
    let one : IsNumbered 18446744073709551615 rest serial.0 serial.1 = number_split 18446744073709551615 rest serial.0 serial.1 a in
    let two : IsNumbered 18446744073709551615 later kill.0 kill.1 = number_split 18446744073709551615 later kill.0 kill.1 c in
    subst (SaysDeed text) same (record {
      first = one.front;
      second = two.front;
      words = before (codes "wants") text rest (AreWords (one.front ∷ two.front ∷ [])) then
          (words_from one.front rest serial.1 (two.front ∷ []) one.whole (tail_from two.front serial.1 later kill.1 [] (gap_split serial.1 later b) two.whole ended));
      is_serial = one.is;
      is_kill = two.is;
    })) h) g) f) e

looks : (text : List ℕ) (deed : Deed) → look_line_of text ≡ Some deed → SaysDeed text deed
looks text deed e =
    else_by (behind (codes "tree") text) (if_end (Look query.Tree)) _ deed (λ rest b f. alone_splits (codes "tree") text rest (Look query.Tree) deed (λ s. s) b f) (λ e.
    else_by (behind (codes "workspaces") text) (if_end (Look query.Workspaces)) _ deed (λ rest b f. alone_splits (codes "workspaces") text rest (Look query.Workspaces) deed (λ s. s) b f) (λ e.
    else_by (behind (codes "outputs") text) (if_end (Look query.Outputs)) _ deed (λ rest b f. alone_splits (codes "outputs") text rest (Look query.Outputs) deed (λ s. s) b f) (λ e.
    else_by (behind (codes "marks") text) (if_end (Look query.Marks)) _ deed (λ rest b f. alone_splits (codes "marks") text rest (Look query.Marks) deed (λ s. s) b f) (λ e.
    else_by (word_then (codes "wants") text) wants_at None deed (λ rest w f. wants_splits text rest deed (then_split (codes "wants") text rest w) f) (λ e. cc) e) e) e) e) e

pub deed_splits : (text : List ℕ) (deed : Deed) → deed_of text ≡ Some deed → SaysDeed text deed
deed_splits text deed e =
    else_by (word_then (codes "run") text) run_at _ deed (λ rest w f. run_splits text rest deed (then_split (codes "run") text rest w) f) (λ e.
    else_by (word_then (codes "key") text) key_at _ deed (λ rest w f. key_splits text rest deed (then_split (codes "key") text rest w) f) (λ e.
    else_by (behind (codes "paint") text) (if_end Paint) _ deed (λ rest b f. alone_splits (codes "paint") text rest Paint deed (λ s. s) b f) (λ e.
    or_by (look_line_of text) (other_deed_of text) deed (looks text deed) (λ e. map_by Do (step_line_of text) deed (λ step a same. subst (SaysDeed text) same (step_splits text step a)) e) e) e) e) e
