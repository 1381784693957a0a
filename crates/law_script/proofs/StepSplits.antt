-- A line that takes a step is one that the grammar tells.
use Rattle.std.proofs.Common.{◌≡◌, ◌∙◌, refl, ap, sym, subst, Bool, true, false, ℕ, List, [], ◌∷◌, None, Some, codes}
use Rattle.std.proofs.lemmas.List.{append-nil}
use Rattle.wm_history.specs.declared.client.ClientStep.TheVariants.{Ack, Buffer as Give, Deadline}
use Rattle.wm_history.specs.declared.step.Step.{Step}
use Rattle.wm_history.specs.declared.step.Step.TheVariants.{Retitle, Urgent, Close, Gone, Client, Tick, OutputAdd, OutputRemove, Reserve}
use Rattle.wm_fields.specs.Fields.{behind, buffer_at, edges_at, edges_of, if_end, serial_at, width_at, word_then}
use Rattle.wm_fields.specs.Properties.{window_at}
use Rattle.wm_fields.specs.Quoted.{name_at, quoted_at, quoted_within}
use Rattle.wm_lines.specs.Lines.{ack_at, added_at, client_line_of, close_at, con_at, deadline_at, given_at, map_at, of_con, output_at, output_line_of, removed_at, reserved_at, step_line_of, switch_at, tick_at, title_at, urgent_at, window_line_of}
use Rattle.law_script.proofs.NumberLemmas.{IsNumbered, number_split}
use Rattle.law_script.proofs.PropertyLemmas.{IsWindow, window_split}
use Rattle.law_script.proofs.TextLemmas.{IsNamed, IsQuotedOff, name_split, quoted_split}
use Rattle.law_script.proofs.Turns.{else_by, end_by, map_by, none_by, same_some, step_by}
use Rattle.law_script.proofs.WordLemmas.{IsThen, before, behind_split, then_split, words_from}
use Rattle.law_script.specs.Pieces.{AreWords}
use Rattle.law_script.specs.Steps.{SaysStep, switch}
use Rattle.law_script.proofs.FieldSplits.{IsBuffered, IsConned, IsWidened, buffer_split, con_by, con_split, last_word, output_splits, tail_from, width_split}

-- ---- windows

map_splits : (text rest : List ℕ) (step : Step) → IsThen (codes "map") text rest → map_at rest ≡ Some step → SaysStep text step
map_splits text rest step then e = none_by (buffer_at rest) _ step (λ found a f. none_by (window_at found.1) _ step (λ props b g.
    let shown : IsBuffered rest found.0 found.1 = buffer_split rest found.0 found.1 a in
    let window : IsWindow found.1 props = window_split found.1 props b in
    subst (SaysStep text) (same_some _ _ g) (record {
      ink = shown.ink;
      size = shown.size;
      properties = window.words;
      given = window.ps;
      words = before (codes "map") text rest (AreWords (shown.ink ∷ shown.size ∷ window.words)) then
          (words_from shown.ink rest shown.front (shown.size ∷ window.words) shown.whole (tail_from shown.size shown.front shown.later found.1 window.words shown.gapped shown.left window.tail));
      is_ink = shown.is_ink;
      is_size = shown.is_size;
      are_properties = window.are;
      once = window.once;
      are_props = window.gives;
    })) f) e

title_splits : (text rest : List ℕ) (step : Step) → IsThen (codes "title") text rest → of_con rest title_at ≡ Some step → SaysStep text step
title_splits text rest step then e = con_by rest title_at step (λ con later is f. none_by (quoted_at later) _ step (λ title a g. end_by (Retitle con title.0) title.1 step (λ ended same.
    let off : IsQuotedOff 1024 later title.0 title.1 = quoted_split 1024 later title.0 title.1 a in
    subst (SaysStep text) same (record {
      id = is.id;
      quoted = off.front;
      words = before (codes "title") text rest (AreWords (is.id ∷ off.front ∷ [])) then
          (words_from is.id rest is.front (off.front ∷ []) is.whole (tail_from off.front is.front later title.1 [] is.gapped off.whole ended));
      is_id = is.is_id;
      is_quoted = off.is;
    })) g) f) e

-- `on` or `off` stands there
switch_split : (text : List ℕ) (on : Bool) → switch_at text ≡ Some on → text ≡ switch on
switch_split text on e = else_by (behind (codes "on") text) (if_end true) _ on
    (λ rest b f. end_by true rest on (λ ended same. last_word (codes "on") text rest (behind_split (codes "on") text rest b) ended ∙ ap switch same) f)
    (λ e. else_by (behind (codes "off") text) (if_end false) None on
    (λ rest b f. end_by false rest on (λ ended same. last_word (codes "off") text rest (behind_split (codes "off") text rest b) ended ∙ ap switch same) f)
    (λ e. cc) e) e

urgent_splits : (text rest : List ℕ) (step : Step) → IsThen (codes "urgent") text rest → of_con rest urgent_at ≡ Some step → SaysStep text step
urgent_splits text rest step then e = con_by rest urgent_at step (λ con later is f. map_by (Urgent con) (switch_at later) step (λ on a same.
    subst (SaysStep text) same (record {
      id = is.id;
      words = before (codes "urgent") text rest (AreWords (is.id ∷ switch on ∷ [])) then
          (words_from is.id rest is.front (switch on ∷ []) is.whole (tail_from (switch on) is.front later [] [] is.gapped (switch_split later on a ∙ sym (append-nil (switch on))) refl));
      is_id = is.is_id;
    })) f) e

close_splits : (text rest : List ℕ) (step : Step) → IsThen (codes "close") text rest → close_at rest ≡ Some step → SaysStep text step
close_splits text rest step then e = none_by (con_at rest) _ step (λ con a f. end_by (Close con.0) con.1 step (λ ended same.
    let is : IsConned rest con.0 con.1 = con_split rest con.0 con.1 a in
    subst (SaysStep text) same (record {
      id = is.id;
      words = before (codes "close") text rest (AreWords (is.id ∷ [])) then (last_word is.id rest con.1 is.whole ended);
      is_id = is.is_id;
    })) f) e

gone_splits : (text rest : List ℕ) (step : Step) → behind (codes "gone") text ≡ Some rest → if_end Gone rest ≡ Some step → SaysStep text step
gone_splits text rest step b e = end_by Gone rest step (λ ended same. subst (SaysStep text) same (last_word (codes "gone") text rest (behind_split (codes "gone") text rest b) ended)) e

windows : (text : List ℕ) (step : Step) → window_line_of text ≡ Some step → SaysStep text step
windows text step e =
    else_by (word_then (codes "map") text) map_at _ step (λ rest w f. map_splits text rest step (then_split (codes "map") text rest w) f) (λ e.
    else_by (word_then (codes "title") text) (λ rest. of_con rest title_at) _ step (λ rest w f. title_splits text rest step (then_split (codes "title") text rest w) f) (λ e.
    else_by (word_then (codes "urgent") text) (λ rest. of_con rest urgent_at) _ step (λ rest w f. urgent_splits text rest step (then_split (codes "urgent") text rest w) f) (λ e.
    else_by (word_then (codes "close") text) close_at _ step (λ rest w f. close_splits text rest step (then_split (codes "close") text rest w) f) (λ e.
    else_by (behind (codes "gone") text) (if_end Gone) None step (λ rest b f. gone_splits text rest step b f) (λ e. cc) e) e) e) e) e

-- ---- clients and the timer

ack_splits : (text rest : List ℕ) (step : Step) → IsThen (codes "ack") text rest → of_con rest ack_at ≡ Some step → SaysStep text step
ack_splits text rest step then e = con_by rest ack_at step (λ con later is f. none_by (serial_at later) _ step (λ serial a g. end_by (Client (Ack con serial.0)) serial.1 step (λ ended same.
    let number : IsNumbered 18446744073709551615 later serial.0 serial.1 = number_split 18446744073709551615 later serial.0 serial.1 a in
    subst (SaysStep text) same (record {
      id = is.id;
      serial = number.front;
      words = before (codes "ack") text rest (AreWords (is.id ∷ number.front ∷ [])) then
          (words_from is.id rest is.front (number.front ∷ []) is.whole (tail_from number.front is.front later serial.1 [] is.gapped number.whole ended));
      is_id = is.is_id;
      is_serial = number.is;
    })) g) f) e

given_splits : (text rest : List ℕ) (step : Step) → IsThen (codes "buffer") text rest → of_con rest given_at ≡ Some step → SaysStep text step
given_splits text rest step then e = con_by rest given_at step (λ con later is f. none_by (buffer_at later) _ step (λ buffer a g. end_by (Client (Give con buffer.0)) buffer.1 step (λ ended same.
    let shown : IsBuffered later buffer.0 buffer.1 = buffer_split later buffer.0 buffer.1 a in
    subst (SaysStep text) same (record {
      id = is.id;
      ink = shown.ink;
      size = shown.size;
      words = before (codes "buffer") text rest (AreWords (is.id ∷ shown.ink ∷ shown.size ∷ [])) then
          (words_from is.id rest is.front (shown.ink ∷ shown.size ∷ []) is.whole (tail_from shown.ink is.front later shown.front (shown.size ∷ []) is.gapped shown.whole
          (tail_from shown.size shown.front shown.later buffer.1 [] shown.gapped shown.left ended)));
      is_id = is.is_id;
      is_ink = shown.is_ink;
      is_size = shown.is_size;
    })) g) f) e

deadline_splits : (text rest : List ℕ) (step : Step) → IsThen (codes "deadline") text rest → deadline_at rest ≡ Some step → SaysStep text step
deadline_splits text rest step then e = none_by (serial_at rest) _ step (λ n a f. end_by (Client (Deadline n.0)) n.1 step (λ ended same.
    let number : IsNumbered 18446744073709551615 rest n.0 n.1 = number_split 18446744073709551615 rest n.0 n.1 a in
    subst (SaysStep text) same (record {
      number = number.front;
      words = before (codes "deadline") text rest (AreWords (number.front ∷ [])) then (last_word number.front rest n.1 number.whole ended);
      is_number = number.is;
    })) f) e

clients : (text : List ℕ) (step : Step) → client_line_of text ≡ Some step → SaysStep text step
clients text step e =
    else_by (word_then (codes "ack") text) (λ rest. of_con rest ack_at) _ step (λ rest w f. ack_splits text rest step (then_split (codes "ack") text rest w) f) (λ e.
    else_by (word_then (codes "buffer") text) (λ rest. of_con rest given_at) _ step (λ rest w f. given_splits text rest step (then_split (codes "buffer") text rest w) f) (λ e.
    else_by (word_then (codes "deadline") text) deadline_at None step (λ rest w f. deadline_splits text rest step (then_split (codes "deadline") text rest w) f) (λ e. cc) e) e) e

-- ---- outputs, and what all are told

added_splits : (text rest : List ℕ) (step : Step) → IsThen (codes "output-add") text rest → added_at rest ≡ Some step → SaysStep text step
added_splits text rest step then e = map_by OutputAdd (output_at rest) step (λ o a same. subst (SaysStep text) same (output_splits (codes "output-add") text rest o then a)) e

removed_splits : (text rest : List ℕ) (step : Step) → IsThen (codes "output-remove") text rest → removed_at rest ≡ Some step → SaysStep text step
removed_splits text rest step then e = none_by (name_at rest) _ step (λ name a f. end_by (OutputRemove name.0) name.1 step (λ ended same.
    let named : IsNamed rest name.0 name.1 = name_split rest name.0 name.1 a in
    subst (SaysStep text) same (record {
      name = named.front;
      words = before (codes "output-remove") text rest (AreWords (named.front ∷ [])) then (last_word named.front rest name.1 named.whole ended);
      is_name = named.is;
    })) f) e

reserve_splits : (text rest : List ℕ) (step : Step) → IsThen (codes "reserve") text rest → reserved_at rest ≡ Some step → SaysStep text step
reserve_splits text rest step then e = none_by (name_at rest) _ step (λ name a f. none_by (edges_at name.1) _ step (λ edges b g. end_by (Reserve name.0 edges.0) edges.1 step (λ ended same.
    none_by (width_at name.1) _ edges (λ top c h. none_by (width_at top.1) _ edges (λ right d h. none_by (width_at right.1) _ edges (λ bottom i h. none_by (width_at bottom.1) _ edges (λ left j h.
    let named : IsNamed rest name.0 name.1 = name_split rest name.0 name.1 a in
    let t : IsWidened name.1 top.0 top.1 = width_split name.1 top.0 top.1 c in
    let r : IsWidened top.1 right.0 right.1 = width_split top.1 right.0 right.1 d in
    let u : IsWidened right.1 bottom.0 bottom.1 = width_split right.1 bottom.0 bottom.1 i in
    let l : IsWidened bottom.1 left.0 left.1 = width_split bottom.1 left.0 left.1 j in
    let both : (edges_of top.0 right.0 bottom.0 left.0, left.1) ≡ edges = same_some _ _ h in
    let end : left.1 ≡ [] = ap (λ p. p.1) both ∙ ended in
    subst (SaysStep text) (ap (λ p. Reserve name.0 p.0) both ∙ same) (record {
      name = named.front;
      top = t.front;
      right = r.front;
      bottom = u.front;
      left = l.front;
      words = before (codes "reserve") text rest (AreWords (named.front ∷ t.front ∷ r.front ∷ u.front ∷ l.front ∷ [])) then
          (words_from named.front rest name.1 (t.front ∷ r.front ∷ u.front ∷ l.front ∷ []) named.whole
          (tail_from t.front name.1 t.later top.1 (r.front ∷ u.front ∷ l.front ∷ []) t.gapped t.whole
          (tail_from r.front top.1 r.later right.1 (u.front ∷ l.front ∷ []) r.gapped r.whole
          (tail_from u.front right.1 u.later bottom.1 (l.front ∷ []) u.gapped u.whole
          (tail_from l.front bottom.1 l.later left.1 [] l.gapped l.whole end)))));
      is_name = named.is;
      is_top = t.is;
      is_right = r.is;
      is_bottom = u.is;
      is_left = l.is;
    })) h) h) h) b) g) f) e

tick_splits : (text rest : List ℕ) (step : Step) → IsThen (codes "tick") text rest → tick_at rest ≡ Some step → SaysStep text step
tick_splits text rest step then e = none_by (quoted_within 4096 rest) _ step (λ said a f. end_by (Tick said.0) said.1 step (λ ended same.
    let off : IsQuotedOff 4096 rest said.0 said.1 = quoted_split 4096 rest said.0 said.1 a in
    subst (SaysStep text) same (record {
      quoted = off.front;
      words = before (codes "tick") text rest (AreWords (off.front ∷ [])) then (last_word off.front rest said.1 off.whole ended);
      is_quoted = off.is;
    })) f) e

outputs : (text : List ℕ) (step : Step) → output_line_of text ≡ Some step → SaysStep text step
outputs text step e =
    else_by (word_then (codes "output-add") text) added_at _ step (λ rest w f. added_splits text rest step (then_split (codes "output-add") text rest w) f) (λ e.
    else_by (word_then (codes "output-remove") text) removed_at _ step (λ rest w f. removed_splits text rest step (then_split (codes "output-remove") text rest w) f) (λ e.
    else_by (word_then (codes "reserve") text) reserved_at _ step (λ rest w f. reserve_splits text rest step (then_split (codes "reserve") text rest w) f) (λ e.
    else_by (word_then (codes "tick") text) tick_at None step (λ rest w f. tick_splits text rest step (then_split (codes "tick") text rest w) f) (λ e. cc) e) e) e) e

-- ---- all of them

pub step_splits : (text : List ℕ) (step : Step) → step_line_of text ≡ Some step → SaysStep text step
step_splits text step e = step_by (window_line_of text) _ step (windows text step) (step_by (client_line_of text) (output_line_of text) step (clients text step) (outputs text step)) e
