-- A line that the grammar tells takes its step.
use Rattle.std.proofs.Common.{◌≡◌, ◌∙◌, refl, ap, sym, Bool, true, false, ℕ, List, [], ◌∷◌, ◌++◌, None, Some, codes, arith}
use Rattle.std.proofs.lemmas.List.{append_assoc}
use Rattle.wm_base.specs.declared.geometry.Edges.{Edges}
use Rattle.wm_base.specs.declared.geometry.Rect.{Rect}
use Rattle.wm_base.specs.declared.geometry.Size.{Size}
use Rattle.wm_base.specs.declared.ids.Buffer.{Buffer}
use Rattle.wm_base.specs.declared.ids.ConId.{ConId}
use Rattle.wm_base.specs.declared.plan.OutputPlan.{OutputPlan}
use Rattle.wm_base.specs.declared.properties.Props.{Props}
use Rattle.wm_history.specs.declared.client.ClientStep.TheVariants.{Ack, Buffer as Give, Deadline}
use Rattle.wm_history.specs.declared.step.Step.{Step}
use Rattle.wm_history.specs.declared.step.Step.TheVariants.{Map, Retitle, Urgent, Close, Gone, Client, Tick, OutputAdd, OutputRemove, Reserve}
use Rattle.wm_fields.specs.Fields.{behind, buffer_at, coordinate_at, edges_at, edges_of, gap_at, if_end, ink_at, number_at, or_else, or_none, output_of, rect_at, rect_of, size_at, width_at, word_then}
use Rattle.wm_fields.specs.Properties.{window_at}
use Rattle.wm_fields.specs.Quoted.{name_at, quoted_at, quoted_within}
use Rattle.wm_lines.specs.Lines.{output_at, reserved_at, step_line_of, tick_at}
use Rattle.law_script.proofs.NumberLemmas.{coordinate_reads, ends_stop, ink_reads, ink_starts, number_starts, number_word, place_starts, size_reads, size_starts}
use Rattle.law_script.proofs.PropertyLemmas.{window_reads}
use Rattle.law_script.proofs.TextLemmas.{name_starts, name_word, quoted_word, short_starts}
use Rattle.law_script.proofs.WordLemmas.{IsFirst, Starts, first_of_words, gap_ends, gap_over, read_before, read_last, words_start}
use Rattle.law_script.specs.Pieces.{AreWords, IsBefore, IsInk, IsName, IsNumber, IsPlace, IsSize, IsWidth}
use Rattle.law_script.specs.Steps.{AreNoEdges, SaysAck, SaysAdded, SaysBuffer, SaysClose, SaysDeadline, SaysMap, SaysOutput, SaysRemoved, SaysReserve, SaysStep, SaysTick, SaysTitle, SaysUrgent, switch}

-- ---- words in their places

-- the gap before a word that begins with no space
pub over : (word next text : List ℕ) (words : List (List ℕ)) (is : IsBefore word (AreWords (next ∷ words)) text) → Starts next → gap_at (is.gap ++ is.later) ≡ Some is.later
over word next text words is starts = gap_over is.gap is.later is.is_gap (words_start next is.later words starts is.holds)

-- a number with a gap behind it
pub number_before : (most n : ℕ) (word text : List ℕ) (Holds : List ℕ → Type 0) (is : IsBefore word Holds text) → IsNumber most word n → number_at most text ≡ Some (n, is.gap ++ is.later)
number_before most n word text Holds is number = read_before (number_at most) word text n Holds (number_word most n word number) is

-- a number at the end
pub number_last : (most n : ℕ) (word text : List ℕ) → text ≡ word → IsNumber most word n → number_at most text ≡ Some (n, [])
number_last most n word text whole number = read_last (number_at most) word text n (number_word most n word number) whole

pub name_before : (name word text : List ℕ) (Holds : List ℕ → Type 0) (is : IsBefore word Holds text) → IsName word name → name_at text ≡ Some (name, is.gap ++ is.later)
name_before name word text Holds is named = read_before name_at word text name Holds (name_word word name named) is

pub name_last : (name word text : List ℕ) → text ≡ word → IsName word name → name_at text ≡ Some (name, [])
name_last name word text whole named = read_last name_at word text name (name_word word name named) whole

-- ---- buffers

pub buffer_reads : (ink size text : List ℕ) (words : List (List ℕ)) (buffer : Buffer) (is : IsBefore ink (AreWords (size ∷ words)) text) → IsInk ink buffer.ink.0 → IsSize size buffer.size.w buffer.size.h
    → buffer_at text ≡ Some (buffer, (first_of_words size is.later words is.holds).rest)
buffer_reads ink size text words buffer is is_ink is_size =
    let first : IsFirst size words is.later = first_of_words size is.later words is.holds in
    let inked : ink_at text ≡ Some (buffer.ink.0, is.gap ++ is.later) = read_before ink_at ink text buffer.ink.0 (AreWords (size ∷ words)) (λ rest ends. ink_reads ink rest buffer.ink.0 is_ink) is in
    let gap : gap_at (is.gap ++ is.later) ≡ Some is.later = over ink size text words is (size_starts size buffer.size.w buffer.size.h is_size) in
    let sized : size_at is.later ≡ Some (buffer.size, first.rest) = ap size_at first.whole ∙ size_reads size buffer.size is_size first.rest first.ends in
    ap (λ o. or_none o (λ i. or_none (gap_at i.1) (λ rest. or_none (size_at rest) (λ s. Some (record { ink = record { 0 = i.0 }; size = s.0 }, s.1))))) inked
    ∙ ap (λ o. or_none o (λ rest. or_none (size_at rest) (λ s. Some (record { ink = record { 0 = buffer.ink.0 }; size = s.0 }, s.1)))) gap
    ∙ ap (λ o. or_none o (λ s. Some (record { ink = record { 0 = buffer.ink.0 }; size = s.0 }, s.1))) sized

-- ---- windows

map_reads : (text : List ℕ) (props : Props) (buffer : Buffer) → SaysMap text props buffer → step_line_of text ≡ Some (Map props buffer None)
map_reads text props buffer says =
    let w : IsBefore (codes "map") (AreWords (says.ink ∷ says.size ∷ says.properties)) text = says.words in
    let first : IsFirst says.size says.properties w.holds.later = first_of_words says.size w.holds.later says.properties w.holds.holds in
    let gap : gap_at (w.gap ++ w.later) ≡ Some w.later = over (codes "map") says.ink text (says.size ∷ says.properties) w (ink_starts says.ink buffer.ink.0 says.is_ink) in
    let shown : buffer_at w.later ≡ Some (buffer, first.rest) = buffer_reads says.ink says.size w.later says.properties buffer w.holds says.is_ink says.is_size in
    let window : window_at first.rest ≡ Some props = window_reads first.rest says.properties says.given props says.are_properties says.once says.are_props first.tail in
    ap step_line_of w.whole ∙ rw (gap, shown, window) refl

title_reads : (text : List ℕ) (con : ConId) (title : List ℕ) → SaysTitle text con.0 title → step_line_of text ≡ Some (Retitle con title)
title_reads text con title says =
    let w : IsBefore (codes "title") (AreWords (says.id ∷ says.quoted ∷ [])) text = says.words in
    let gap : gap_at (w.gap ++ w.later) ≡ Some w.later = over (codes "title") says.id text (says.quoted ∷ []) w (number_starts 4294967295 con.0 says.id says.is_id) in
    let id : number_at 4294967295 w.later ≡ Some (con.0, w.holds.gap ++ w.holds.later) = number_before 4294967295 con.0 says.id w.later (AreWords (says.quoted ∷ [])) w.holds says.is_id in
    let second : gap_at (w.holds.gap ++ w.holds.later) ≡ Some w.holds.later = over says.id says.quoted w.later [] w.holds (short_starts 1024 says.quoted title says.is_quoted) in
    let quoted : quoted_at w.holds.later ≡ Some (title, []) = read_last quoted_at says.quoted w.holds.later title (quoted_word 1024 says.quoted title says.is_quoted) w.holds.holds in
    ap step_line_of w.whole ∙ rw (gap, id, second, quoted) refl

close_reads : (text : List ℕ) (con : ConId) → SaysClose text con.0 → step_line_of text ≡ Some (Close con)
close_reads text con says =
    let w : IsBefore (codes "close") (AreWords (says.id ∷ [])) text = says.words in
    let gap : gap_at (w.gap ++ w.later) ≡ Some w.later = over (codes "close") says.id text [] w (number_starts 4294967295 con.0 says.id says.is_id) in
    let id : number_at 4294967295 w.later ≡ Some (con.0, []) = number_last 4294967295 con.0 says.id w.later w.holds says.is_id in
    ap step_line_of w.whole ∙ rw (gap, id) refl

switch_starts : (on : Bool) → Starts (switch on)
switch_starts true = λ e. absurd (omega (arith, e))
switch_starts false = λ e. absurd (omega (arith, e))

urgent_reads : (text : List ℕ) (con : ConId) (on : Bool) → SaysUrgent text con.0 on → step_line_of text ≡ Some (Urgent con on)
urgent_reads text con true says =
    let w : IsBefore (codes "urgent") (AreWords (says.id ∷ switch true ∷ [])) text = says.words in
    let gap : gap_at (w.gap ++ w.later) ≡ Some w.later = over (codes "urgent") says.id text (switch true ∷ []) w (number_starts 4294967295 con.0 says.id says.is_id) in
    let id : number_at 4294967295 w.later ≡ Some (con.0, w.holds.gap ++ w.holds.later) = number_before 4294967295 con.0 says.id w.later (AreWords (switch true ∷ [])) w.holds says.is_id in
    let second : gap_at (w.holds.gap ++ w.holds.later) ≡ Some w.holds.later = over says.id (switch true) w.later [] w.holds (switch_starts true) in
    ap step_line_of w.whole ∙ rw (gap, id, second, w.holds.holds) refl
urgent_reads text con false says =
    let w : IsBefore (codes "urgent") (AreWords (says.id ∷ switch false ∷ [])) text = says.words in
    let gap : gap_at (w.gap ++ w.later) ≡ Some w.later = over (codes "urgent") says.id text (switch false ∷ []) w (number_starts 4294967295 con.0 says.id says.is_id) in
    let id : number_at 4294967295 w.later ≡ Some (con.0, w.holds.gap ++ w.holds.later) = number_before 4294967295 con.0 says.id w.later (AreWords (switch false ∷ [])) w.holds says.is_id in
    let second : gap_at (w.holds.gap ++ w.holds.later) ≡ Some w.holds.later = over says.id (switch false) w.later [] w.holds (switch_starts false) in
    ap step_line_of w.whole ∙ rw (gap, id, second, w.holds.holds) refl

-- ---- clients and the timer

ack_reads : (text : List ℕ) (con : ConId) (n : ℕ) → SaysAck text con.0 n → step_line_of text ≡ Some (Client (Ack con n))
ack_reads text con n says =
    let w : IsBefore (codes "ack") (AreWords (says.id ∷ says.serial ∷ [])) text = says.words in
    let gap : gap_at (w.gap ++ w.later) ≡ Some w.later = over (codes "ack") says.id text (says.serial ∷ []) w (number_starts 4294967295 con.0 says.id says.is_id) in
    let id : number_at 4294967295 w.later ≡ Some (con.0, w.holds.gap ++ w.holds.later) = number_before 4294967295 con.0 says.id w.later (AreWords (says.serial ∷ [])) w.holds says.is_id in
    let second : gap_at (w.holds.gap ++ w.holds.later) ≡ Some w.holds.later = over says.id says.serial w.later [] w.holds (number_starts 18446744073709551615 n says.serial says.is_serial) in
    let serial : number_at 18446744073709551615 w.holds.later ≡ Some (n, []) = number_last 18446744073709551615 n says.serial w.holds.later w.holds.holds says.is_serial in
    ap step_line_of w.whole ∙ rw (gap, id, second, serial) refl

given_reads : (text : List ℕ) (con : ConId) (buffer : Buffer) → SaysBuffer text con.0 buffer → step_line_of text ≡ Some (Client (Give con buffer))
given_reads text con buffer says =
    let w : IsBefore (codes "buffer") (AreWords (says.id ∷ says.ink ∷ says.size ∷ [])) text = says.words in
    let gap : gap_at (w.gap ++ w.later) ≡ Some w.later = over (codes "buffer") says.id text (says.ink ∷ says.size ∷ []) w (number_starts 4294967295 con.0 says.id says.is_id) in
    let id : number_at 4294967295 w.later ≡ Some (con.0, w.holds.gap ++ w.holds.later) = number_before 4294967295 con.0 says.id w.later (AreWords (says.ink ∷ says.size ∷ [])) w.holds says.is_id in
    let second : gap_at (w.holds.gap ++ w.holds.later) ≡ Some w.holds.later = over says.id says.ink w.later (says.size ∷ []) w.holds (ink_starts says.ink buffer.ink.0 says.is_ink) in
    let shown : buffer_at w.holds.later ≡ Some (buffer, []) = buffer_reads says.ink says.size w.holds.later [] buffer w.holds.holds says.is_ink says.is_size in
    ap step_line_of w.whole ∙ rw (gap, id, second, shown) refl

deadline_reads : (text : List ℕ) (n : ℕ) → SaysDeadline text n → step_line_of text ≡ Some (Client (Deadline n))
deadline_reads text n says =
    let w : IsBefore (codes "deadline") (AreWords (says.number ∷ [])) text = says.words in
    let gap : gap_at (w.gap ++ w.later) ≡ Some w.later = over (codes "deadline") says.number text [] w (number_starts 18446744073709551615 n says.number says.is_number) in
    let number : number_at 18446744073709551615 w.later ≡ Some (n, []) = number_last 18446744073709551615 n says.number w.later w.holds says.is_number in
    ap step_line_of w.whole ∙ rw (gap, number) refl

-- ---- outputs, and what all are told

rect_reads : (place size text : List ℕ) (r : Rect) (is : IsBefore place (AreWords (size ∷ [])) text) → IsPlace place r.x r.y → IsSize size r.w r.h → rect_at text ≡ Some (r, [])
rect_reads place size text r is is_place is_size =
    let rest : List ℕ = is.gap ++ is.later in
    let whole : text ≡ is_place.across ++ (codes "," ++ (is_place.down ++ rest)) =
    is.whole ∙ ap (λ t. t ++ rest) is_place.whole ∙ append_assoc is_place.across (codes "," ++ is_place.down) rest in
    let first : coordinate_at text ≡ Some (r.x, codes "," ++ (is_place.down ++ rest)) =
    ap coordinate_at whole ∙ coordinate_reads is_place.across (codes "," ++ (is_place.down ++ rest)) r.x is_place.is_across refl in
    let second : coordinate_at (is_place.down ++ rest) ≡ Some (r.y, rest) =
    coordinate_reads is_place.down rest r.y is_place.is_down (ends_stop rest (gap_ends is.gap is.later is.is_gap)) in
    let gap : gap_at rest ≡ Some is.later = over place size text [] is (size_starts size r.w r.h is_size) in
    let sides : Size = record { w = r.w; h = r.h } in
    let sized : size_at is.later ≡ Some (sides, []) = read_last size_at size is.later sides (size_reads size sides is_size) is.holds in
    ap (λ o. or_none o (λ x. or_none (behind (codes ",") x.1) (λ down. or_none (coordinate_at down) (λ y. or_none (gap_at y.1) (λ rest. or_none (size_at rest) (λ size. Some (rect_of x.0 y.0 size.0, size.1))))))) first
    ∙ ap (λ o. or_none o (λ y. or_none (gap_at y.1) (λ rest. or_none (size_at rest) (λ size. Some (rect_of r.x y.0 size.0, size.1))))) second
    ∙ ap (λ o. or_none o (λ rest. or_none (size_at rest) (λ size. Some (rect_of r.x r.y size.0, size.1)))) gap
    ∙ ap (λ o. or_none o (λ size. Some (rect_of r.x r.y size.0, size.1))) sized

none_reserved : (edges : Edges) → AreNoEdges edges → edges_of 0 0 0 0 ≡ edges
none_reserved edges none = λ i. record { top = sym none.top i; right = sym none.right i; bottom = sym none.bottom i; left = sym none.left i }

-- the output behind the first word
pub output_reads : (word text : List ℕ) (o : OutputPlan) (says : SaysOutput word text o) → output_at says.words.later ≡ Some o
output_reads word text o says =
    let n : IsBefore says.name (AreWords (says.place ∷ says.size ∷ [])) says.words.later = says.words.holds in
    let name : name_at says.words.later ≡ Some (o.name, n.gap ++ n.later) = name_before o.name says.name says.words.later (AreWords (says.place ∷ says.size ∷ [])) n says.is_name in
    let gap : gap_at (n.gap ++ n.later) ≡ Some n.later = over says.name says.place says.words.later (says.size ∷ []) n (place_starts says.place o.rect.x o.rect.y says.is_place) in
    let rect : rect_at n.later ≡ Some (o.rect, []) = rect_reads says.place says.size n.later o.rect n.holds says.is_place says.is_size in
    ap (λ a. or_none a (λ name. or_none (gap_at name.1) (λ rest. or_none (rect_at rest) (λ rect. if_end (output_of name.0 rect.0) rect.1)))) name
    ∙ ap (λ a. or_none a (λ rest. or_none (rect_at rest) (λ rect. if_end (output_of o.name rect.0) rect.1))) gap
    ∙ ap (λ a. or_none a (λ rect. if_end (output_of o.name rect.0) rect.1)) rect
    ∙ ap (λ e. Some (record { name = o.name; rect = o.rect; reserved = e })) (none_reserved o.reserved says.reserved)

pub output_gap : (word text : List ℕ) (o : OutputPlan) (says : SaysOutput word text o) → gap_at (says.words.gap ++ says.words.later) ≡ Some says.words.later
output_gap word text o says = over word says.name text (says.place ∷ says.size ∷ []) says.words (name_starts says.name o.name says.is_name)

added_reads : (text : List ℕ) (o : OutputPlan) → SaysAdded text o → step_line_of text ≡ Some (OutputAdd o)
added_reads text o says = ap step_line_of says.words.whole ∙ rw (output_gap (codes "output-add") text o says, output_reads (codes "output-add") text o says) refl

removed_reads : (text said : List ℕ) → SaysRemoved text said → step_line_of text ≡ Some (OutputRemove said)
removed_reads text said says =
    let w : IsBefore (codes "output-remove") (AreWords (says.name ∷ [])) text = says.words in
    let gap : gap_at (w.gap ++ w.later) ≡ Some w.later = over (codes "output-remove") says.name text [] w (name_starts says.name said says.is_name) in
    let name : name_at w.later ≡ Some (said, []) = name_last said says.name w.later w.holds says.is_name in
    ap step_line_of w.whole ∙ rw (gap, name) refl

width_reads : (word next text : List ℕ) (words : List (List ℕ)) (n : ℕ) (is : IsBefore word (AreWords (next ∷ words)) text) → IsWidth next n
    → width_at (is.gap ++ is.later) ≡ Some (n, (first_of_words next is.later words is.holds).rest)
width_reads word next text words n is width =
    let first : IsFirst next words is.later = first_of_words next is.later words is.holds in
    ap (λ o. or_none o (number_at 16384)) (over word next text words is (number_starts 16384 n next width))
    ∙ ap (number_at 16384) first.whole ∙ number_word 16384 n next width first.rest first.ends

reserve_reads : (text said : List ℕ) (edges : Edges) → SaysReserve text said edges → step_line_of text ≡ Some (Reserve said edges)
reserve_reads text said edges says =
    let w : IsBefore (codes "reserve") (AreWords (says.name ∷ says.top ∷ says.right ∷ says.bottom ∷ says.left ∷ [])) text = says.words in
    let n : IsBefore says.name (AreWords (says.top ∷ says.right ∷ says.bottom ∷ says.left ∷ [])) w.later = w.holds in
    let t : IsBefore says.top (AreWords (says.right ∷ says.bottom ∷ says.left ∷ [])) n.later = n.holds in
    let r : IsBefore says.right (AreWords (says.bottom ∷ says.left ∷ [])) t.later = t.holds in
    let b : IsBefore says.bottom (AreWords (says.left ∷ [])) r.later = r.holds in
    let gap : gap_at (w.gap ++ w.later) ≡ Some w.later = over (codes "reserve") says.name text (says.top ∷ says.right ∷ says.bottom ∷ says.left ∷ []) w (name_starts says.name said says.is_name) in
    let name : name_at w.later ≡ Some (said, n.gap ++ n.later) = name_before said says.name w.later (AreWords (says.top ∷ says.right ∷ says.bottom ∷ says.left ∷ [])) n says.is_name in
    let top : width_at (n.gap ++ n.later) ≡ Some (edges.top, t.gap ++ t.later) = width_reads says.name says.top w.later (says.right ∷ says.bottom ∷ says.left ∷ []) edges.top n says.is_top in
    let right : width_at (t.gap ++ t.later) ≡ Some (edges.right, r.gap ++ r.later) = width_reads says.top says.right n.later (says.bottom ∷ says.left ∷ []) edges.right t says.is_right in
    let bottom : width_at (r.gap ++ r.later) ≡ Some (edges.bottom, b.gap ++ b.later) = width_reads says.right says.bottom t.later (says.left ∷ []) edges.bottom r says.is_bottom in
    let left : width_at (b.gap ++ b.later) ≡ Some (edges.left, []) = width_reads says.bottom says.left r.later [] edges.left b says.is_left in
    let all : edges_at (n.gap ++ n.later) ≡ Some (edges, []) =
    ap (λ o. or_none o (λ top. or_none (width_at top.1) (λ right. or_none (width_at right.1) (λ bottom. or_none (width_at bottom.1) (λ left. Some (edges_of top.0 right.0 bottom.0 left.0, left.1)))))) top
    ∙ ap (λ o. or_none o (λ right. or_none (width_at right.1) (λ bottom. or_none (width_at bottom.1) (λ left. Some (edges_of edges.top right.0 bottom.0 left.0, left.1))))) right
    ∙ ap (λ o. or_none o (λ bottom. or_none (width_at bottom.1) (λ left. Some (edges_of edges.top edges.right bottom.0 left.0, left.1)))) bottom
    ∙ ap (λ o. or_none o (λ left. Some (edges_of edges.top edges.right edges.bottom left.0, left.1))) left in
    ap step_line_of w.whole ∙ ap (λ o. or_else o reserved_at (or_else (word_then (codes "tick") (codes "reserve" ++ (w.gap ++ w.later))) tick_at None)) gap
    ∙ ap (λ o. or_none o (λ name. or_none (edges_at name.1) (λ edges. if_end (Reserve name.0 edges.0) edges.1))) name
    ∙ ap (λ o. or_none o (λ edges. if_end (Reserve said edges.0) edges.1)) all

tick_reads : (text said : List ℕ) → SaysTick text said → step_line_of text ≡ Some (Tick said)
tick_reads text said says =
    let w : IsBefore (codes "tick") (AreWords (says.quoted ∷ [])) text = says.words in
    let gap : gap_at (w.gap ++ w.later) ≡ Some w.later = over (codes "tick") says.quoted text [] w (short_starts 4096 says.quoted said says.is_quoted) in
    let quoted : quoted_within 4096 w.later ≡ Some (said, []) = read_last (quoted_within 4096) says.quoted w.later said (quoted_word 4096 says.quoted said says.is_quoted) w.holds in
    ap step_line_of w.whole ∙ rw (gap, quoted) refl

-- ---- all of them

pub step_reads : (text : List ℕ) (step : Step) → SaysStep text step → step_line_of text ≡ Some step
step_reads text (Map props buffer None) says = map_reads text props buffer says
step_reads text (Retitle con title) says = title_reads text con title says
step_reads text (Urgent con on) says = urgent_reads text con on says
step_reads text (Close con) says = close_reads text con says
step_reads text Gone says = ap step_line_of says
step_reads text (Client (Ack con serial)) says = ack_reads text con serial says
step_reads text (Client (Give con buffer)) says = given_reads text con buffer says
step_reads text (Client (Deadline number)) says = deadline_reads text number says
step_reads text (OutputAdd o) says = added_reads text o says
step_reads text (OutputRemove name) says = removed_reads text name says
step_reads text (Reserve name edges) says = reserve_reads text name edges says
step_reads text (Tick said) says = tick_reads text said says
step_reads text other says = absurd says
