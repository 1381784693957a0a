-- What is read of ids, buffers, outputs and edges stands in words.
use Rattle.std.proofs.Common.{◌≡◌, ◌∙◌, refl, ap, sym, subst, ℕ, List, [], ◌∷◌, ◌++◌, Option, Some, codes}
use Rattle.std.proofs.lemmas.List.{append-nil, append_assoc}
use Rattle.wm_base.specs.declared.geometry.Rect.{Rect}
use Rattle.wm_base.specs.declared.ids.Buffer.{Buffer}
use Rattle.wm_base.specs.declared.ids.ConId.{ConId}
use Rattle.wm_base.specs.declared.plan.OutputPlan.{OutputPlan}
use Rattle.wm_history.specs.declared.step.Step.{Step}
use Rattle.wm_fields.specs.Fields.{behind, buffer_at, buffer_of, coordinate_at, gap_at, ink_at, number_at, or_none, output_of, rect_at, rect_of, size_at, width_at}
use Rattle.wm_fields.specs.Quoted.{name_at}
use Rattle.wm_lines.specs.Lines.{con_at, con_of, con_then_at, of_con, output_at}
use Rattle.law_script.proofs.NumberLemmas.{IsInked, IsNumbered, IsPlaced, IsSized, coordinate_split, ink_split, number_split, size_split}
use Rattle.law_script.proofs.TextLemmas.{IsNamed, name_split}
use Rattle.law_script.proofs.Turns.{end_by, none_by, same_some}
use Rattle.law_script.proofs.WordLemmas.{IsGapped, IsThen, before, behind_split, gap_split, words_from}
use Rattle.law_script.specs.Pieces.{AreWords, IsId, IsInk, IsPlace, IsSize, IsWidth}
use Rattle.law_script.specs.Steps.{SaysOutput}

-- ---- words one after another

-- a word at the end
pub last_word : (word text rest : List ℕ) → text ≡ word ++ rest → rest ≡ [] → text ≡ word
last_word word text rest whole ended = whole ∙ ap (λ r. word ++ r) ended ∙ append-nil word

-- a gap, a word, and the words behind it
pub tail_from : (word text later rest : List ℕ) (words : List (List ℕ)) → IsGapped text later → later ≡ word ++ rest → AreWords ([] ∷ words) rest → AreWords ([] ∷ word ∷ words) text
tail_from word text later rest words gapped whole tail = record {
  gap = gapped.gap;
  later = later;
  whole = gapped.whole;
  is_gap = gapped.is_gap;
  holds = words_from word later rest words whole tail;
}

-- ---- ids and buffers

-- a text is the id of a container, and what is behind it
pub record IsConned (text : List ℕ) (con : ConId) (rest : List ℕ) : Type 0 where
  pub id : List ℕ
  pub whole : text ≡ id ++ rest
  pub is_id : IsId id con.0

pub con_split : (text : List ℕ) (con : ConId) (rest : List ℕ) → con_at text ≡ Some (con, rest) → IsConned text con rest
con_split text con rest e = none_by (number_at 4294967295 text) (λ id. Some (con_of id.0, id.1)) (con, rest) (λ id a f.
    let number : IsNumbered 4294967295 text id.0 id.1 = number_split 4294967295 text id.0 id.1 a in
    let both : (con_of id.0, id.1) ≡ (con, rest) = same_some _ _ f in
    subst (λ (p : ConId × List ℕ). IsConned text p.0 p.1) both (record { id = number.front; whole = number.whole; is_id = number.is })) e

-- a text is the id of a container, a gap, and what is behind it
pub record IsOfCon (text : List ℕ) (con : ConId) (rest : List ℕ) : Type 0 where
  pub id : List ℕ
  pub front : List ℕ
  pub whole : text ≡ id ++ front
  pub is_id : IsId id con.0
  pub gapped : IsGapped front rest

pub con_by : {C : Type 0} (text : List ℕ) (said : ConId → List ℕ → Option Step) (step : Step) → ((con : ConId) (rest : List ℕ) → IsOfCon text con rest → said con rest ≡ Some step → C)
    → of_con text said ≡ Some step → C
con_by text said step go e = none_by (con_then_at text) (λ con. said con.0 con.1) step (λ found a f.
    go found.0 found.1 (none_by (con_at text) (λ con. or_none (gap_at con.1) (λ rest. Some (con.0, rest))) found (λ con b g.
    none_by (gap_at con.1) (λ rest. Some (con.0, rest)) found (λ rest c h.
    let is : IsConned text con.0 con.1 = con_split text con.0 con.1 b in
    subst (λ (p : ConId × List ℕ). IsOfCon text p.0 p.1) (same_some (con.0, rest) found h)
    (record { id = is.id; front = con.1; whole = is.whole; is_id = is.is_id; gapped = gap_split con.1 rest c })) g) a) f) e

-- a text is an ink, a gap and a size, and what is behind them
pub record IsBuffered (text : List ℕ) (buffer : Buffer) (rest : List ℕ) : Type 0 where
  pub ink : List ℕ
  pub size : List ℕ
  pub front : List ℕ
  pub later : List ℕ
  pub whole : text ≡ ink ++ front
  pub gapped : IsGapped front later
  pub left : later ≡ size ++ rest
  pub is_ink : IsInk ink buffer.ink.0
  pub is_size : IsSize size buffer.size.w buffer.size.h

pub buffer_split : (text : List ℕ) (buffer : Buffer) (rest : List ℕ) → buffer_at text ≡ Some (buffer, rest) → IsBuffered text buffer rest
buffer_split text buffer rest e = none_by (ink_at text) _ (buffer, rest) (λ ink a f. none_by (gap_at ink.1) _ (buffer, rest) (λ later b g. none_by (size_at later) _ (buffer, rest) (λ size c h.
    let inked : IsInked text ink.0 ink.1 = ink_split text ink.0 ink.1 a in
    let sized : IsSized later size.0 size.1 = size_split later size.0 size.1 c in
    let both : (buffer_of ink.0 size.0, size.1) ≡ (buffer, rest) = same_some _ _ h in
    subst (λ (p : Buffer × List ℕ). IsBuffered text p.0 p.1) both (record {
      ink = inked.front;
      size = sized.front;
      front = ink.1;
      later = later;
      whole = inked.whole;
      gapped = gap_split ink.1 later b;
      left = sized.whole;
      is_ink = inked.is;
      is_size = sized.is;
    })) g) f) e

-- ---- outputs

-- a text is a place, a gap and a size, and what is behind them
record IsRected (text : List ℕ) (r : Rect) (rest : List ℕ) : Type 0 where
  pub place : List ℕ
  pub size : List ℕ
  pub front : List ℕ
  pub later : List ℕ
  pub whole : text ≡ place ++ front
  pub gapped : IsGapped front later
  pub left : later ≡ size ++ rest
  pub is_place : IsPlace place r.x r.y
  pub is_size : IsSize size r.w r.h

rect_split : (text : List ℕ) (r : Rect) (rest : List ℕ) → rect_at text ≡ Some (r, rest) → IsRected text r rest
rect_split text r rest e = none_by (coordinate_at text) _ (r, rest) (λ x a f. none_by (behind (codes ",") x.1) _ (r, rest) (λ down b g. none_by (coordinate_at down) _ (r, rest) (λ y c h.
    none_by (gap_at y.1) _ (r, rest) (λ later d i. none_by (size_at later) _ (r, rest) (λ size j k.
    let across : IsPlaced text x.0 x.1 = coordinate_split text x.0 x.1 a in
    let below : IsPlaced down y.0 y.1 = coordinate_split down y.0 y.1 c in
    let sized : IsSized later size.0 size.1 = size_split later size.0 size.1 j in
    let comma : x.1 ≡ codes "," ++ down = behind_split (codes ",") x.1 down b in
    let both : (rect_of x.0 y.0 size.0, size.1) ≡ (r, rest) = same_some _ _ k in
    subst (λ (p : Rect × List ℕ). IsRected text p.0 p.1) both (record {
      place = across.front ++ (codes "," ++ below.front);
      size = sized.front;
      front = y.1;
      later = later;
      whole = across.whole ∙ ap (λ t. across.front ++ t) (comma ∙ ap (λ t. codes "," ++ t) below.whole) ∙ sym (append_assoc across.front (codes "," ++ below.front) y.1);
      gapped = gap_split y.1 later d;
      left = sized.whole;
      is_place = record { across = across.front; down = below.front; whole = refl; is_across = across.is; is_down = below.is };
      is_size = sized.is;
    })) i) h) g) f) e

pub output_splits : (word text rest : List ℕ) (o : OutputPlan) → IsThen word text rest → output_at rest ≡ Some o → SaysOutput word text o
output_splits word text rest o then e = none_by (name_at rest) _ o (λ name a f. none_by (gap_at name.1) _ o (λ later b g. none_by (rect_at later) _ o (λ rect c h.
    end_by (output_of name.0 rect.0) rect.1 o (λ ended same.
    let named : IsNamed rest name.0 name.1 = name_split rest name.0 name.1 a in
    let placed : IsRected later rect.0 rect.1 = rect_split later rect.0 rect.1 c in
    subst (SaysOutput word text) same (record {
      name = named.front;
      place = placed.place;
      size = placed.size;
      words = before word text rest (AreWords (named.front ∷ placed.place ∷ placed.size ∷ [])) then
          (words_from named.front rest name.1 (placed.place ∷ placed.size ∷ []) named.whole (tail_from placed.place name.1 later placed.front (placed.size ∷ []) (gap_split name.1 later b) placed.whole
          (tail_from placed.size placed.front placed.later rect.1 [] placed.gapped placed.left ended)));
      is_name = named.is;
      is_place = placed.is_place;
      is_size = placed.is_size;
      reserved = record { top = refl; right = refl; bottom = refl; left = refl };
    })) h) g) f) e

-- ---- edges

-- a text is a gap and a width, and what is behind them
pub record IsWidened (text : List ℕ) (n : ℕ) (rest : List ℕ) : Type 0 where
  pub front : List ℕ
  pub later : List ℕ
  pub gapped : IsGapped text later
  pub whole : later ≡ front ++ rest
  pub is : IsWidth front n

pub width_split : (text : List ℕ) (n : ℕ) (rest : List ℕ) → width_at text ≡ Some (n, rest) → IsWidened text n rest
width_split text n rest e = none_by (gap_at text) (number_at 16384) (n, rest) (λ later a f.
    let number : IsNumbered 16384 later n rest = number_split 16384 later n rest f in
    record { front = number.front; later = later; gapped = gap_split text later a; whole = number.whole; is = number.is }) e
