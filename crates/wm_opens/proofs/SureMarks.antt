-- Giving marks and taking them off keep a sound tree sound, what is known, and containers without floating windows.
use Rattle.std.proofs.Common.{◌≡◌, ℕ, ◌≤◌, suc, Bool, true, false, cond, ◌&&◌, ◌||◌, inl, List, [], ◌∷◌, ◌++◌, length, filter, Option, None, Some, refl, ap, subst, sym, ◌∙◌, arith}
use Rattle.std.specs.List.{list_any}
use Rattle.std.specs.Str.{bytes_eq}
use Rattle.wm_base.specs.declared.errors.Limit.TheVariants as limits
use Rattle.wm_base.specs.declared.errors.Refusal.TheVariants.{Full}
use Rattle.wm_base.specs.declared.ids.ConId.{ConId}
use Rattle.wm_tree.proofs.EachLemmas.{sound-bare, sound-off}
use Rattle.wm_focus.proofs.GiveLemmas.{in_place, ready_kind}
use Rattle.wm_tree.proofs.GivingLemmas.{cleared_is}
use Rattle.wm_focus.specs.Marks.{bare, bears, cleared, freed, full_of_marks, give_refusal, given_mark, is_marked, kept_marks, mark_tree, taken_off, that_mark, unmark_tree, with_mark}
use Rattle.wm_tree.specs.Marks.{all_or_none}
use Rattle.wm_opens.proofs.KeptLemmas.{kept_count, kept_unmarked, kept_with_marks}
use Rattle.wm_opens.proofs.SureLemmas.{Sure, sure_by, sure_trans}
use Rattle.wm_opens.proofs.TidyLemmas.{tidy_bare, tidy_taken_off, tidy_unmarked, tidy_with_marks}
use Rattle.wm_opens.proofs.WordLemmas.{count-bare, count-taken_off}
use Rattle.wm_shared.specs.Subject.{is_container}
use Rattle.wm_forest.proofs.ChangeLemmas.{by_change}
use Rattle.wm_forest.proofs.CountLemmas.{count-same}
use Rattle.wm_tree.proofs.MarkLemmas.{sound-marked, sound-unmarked}
use Rattle.wm_forest.proofs.PutLemmas.{Here}
use Rattle.wm_forest.proofs.RowLemmas.{Grows, behind_row, keeps_by, node_keeps, same_row}
use Rattle.wm_forest.specs.Change.{at}
use Rattle.wm_forest.specs.Counts.{con_of, mark_count, row_with, space_of}
use Rattle.wm_forest.specs.declared.part.NodeKind.{NodeKind}
use Rattle.wm_forest.specs.declared.part.NodeKind.TheVariants.{Root, Output, Space, Con}
use Rattle.wm_forest.specs.declared.part.Part.{Part}
use Rattle.wm_forest.specs.declared.spot.Spot.{Spot}
use Rattle.wm_forest.specs.Forest.{Forest, end, con}
use Rattle.wm_forest.specs.Look.{first_marks, has, only}
use Rattle.wm_tree.specs.Move.{is_full_of_marks, marked, marks_in, unmarked, with_marks}
use Rattle.wm_forest.specs.Marks.{marks_word}
use Rattle.wm_forest.specs.SoundRow.{IsNode, IsSoundRow, Level, containers, one_of, outputs, rank_of, roots, spaces}
use Rattle.wm_tree.specs.Sound.{IsSound}
use Rattle.wm_forest.specs.Spot.{top}
use Rattle.wm_tree.specs.TreeValue.{TreeValue}
use Rattle.wm_forest.specs.RootId.{root}

-- ---- taking off

sure_off : (keep : Option ConId) (n : List ℕ) (t : TreeValue) → IsSound t → Sure t (record t { nodes = taken_off keep n t.nodes })
sure_off keep n t s =
    let new : TreeValue = record t { nodes = taken_off keep n t.nodes } in
    sure_by t new (sound-off keep n t s) (kept_count t new refl (λ m k. omega (arith, count-taken_off m k keep n t.nodes))) refl (tidy_taken_off keep n t.nodes)

sure_bare : (t : TreeValue) → IsSound t → Sure t (record t { nodes = bare t.nodes })
sure_bare t s =
    let new : TreeValue = record t { nodes = bare t.nodes } in
    sure_by t new (sound-bare t s) (kept_count t new refl (λ m k. omega (arith, count-bare m k t.nodes))) refl (tidy_bare t.nodes)

sure_unmarked : (c : ConId) (n : List ℕ) (t : TreeValue) → IsSound t → Sure t (unmarked c n t)
sure_unmarked c n t s = sure_by t (unmarked c n t) (sound-unmarked c n t s) (kept_unmarked c n t) refl (tidy_unmarked c n t.nodes)

-- ---- other marks in the place of those that a node had

-- a node has at most 32 marks; only containers have any
marks_node : (l : Level) (tiled : Bool) (room : ℕ) (id : ConId) (kind : NodeKind) (marks : List (List ℕ)) (kids : Forest) → IsNode l tiled room id kind marks kids → length marks ≤ 32
marks_node roots tiled room id (Root c) marks kids h = let e : length marks ≡ 0 = ap length h.2 in omega (arith, e)
marks_node roots tiled room id (Output o) marks kids h = absurd h
marks_node roots tiled room id (Space w) marks kids h = absurd h
marks_node roots tiled room id (Con c) marks kids h = absurd h
marks_node outputs tiled room id (Root c) marks kids h = absurd h
marks_node outputs tiled room id (Output o) marks kids h = let e : length marks ≡ 0 = ap length h.2 in omega (arith, e)
marks_node outputs tiled room id (Space w) marks kids h = absurd h
marks_node outputs tiled room id (Con c) marks kids h = absurd h
marks_node spaces tiled room id (Root c) marks kids h = absurd h
marks_node spaces tiled room id (Output o) marks kids h = absurd h
marks_node spaces tiled room id (Space w) marks kids h = let e : length marks ≡ 0 = ap length h in omega (arith, e)
marks_node spaces tiled room id (Con c) marks kids h = absurd h
marks_node containers tiled room id (Root c) marks kids h = absurd h
marks_node containers tiled room id (Output o) marks kids h = absurd h
marks_node containers tiled room id (Space w) marks kids h = absurd h
marks_node containers tiled room id (Con c) marks kids h = h.2

-- fewer marks fit where more did
node_fewer : (l : Level) (tiled : Bool) (room : ℕ) (id : ConId) (kind : NodeKind) (old new : List (List ℕ)) (kids : Forest) → length new ≤ length old → (old ≡ [] → new ≡ []) → IsNode l tiled room id kind old kids → IsNode l tiled room id kind new kids
node_fewer roots tiled room id (Root c) old new kids le f h = (h.0, h.1, f h.2)
node_fewer roots tiled room id (Output o) old new kids le f h = absurd h
node_fewer roots tiled room id (Space w) old new kids le f h = absurd h
node_fewer roots tiled room id (Con c) old new kids le f h = absurd h
node_fewer outputs tiled room id (Root c) old new kids le f h = absurd h
node_fewer outputs tiled room id (Output o) old new kids le f h = (h.0, h.1, f h.2)
node_fewer outputs tiled room id (Space w) old new kids le f h = absurd h
node_fewer outputs tiled room id (Con c) old new kids le f h = absurd h
node_fewer spaces tiled room id (Root c) old new kids le f h = absurd h
node_fewer spaces tiled room id (Output o) old new kids le f h = absurd h
node_fewer spaces tiled room id (Space w) old new kids le f h = f h
node_fewer spaces tiled room id (Con c) old new kids le f h = absurd h
node_fewer containers tiled room id (Root c) old new kids le f h = absurd h
node_fewer containers tiled room id (Output o) old new kids le f h = absurd h
node_fewer containers tiled room id (Space w) old new kids le f h = absurd h
node_fewer containers tiled room id (Con c) old new kids le f h = (h.0, h.1, omega (arith, le, h.2), h.3)

none_fewer : (old new : List (List ℕ)) → length new ≤ length old → old ≡ [] → new ≡ []
none_fewer old [] le e = refl
none_fewer old (x ∷ xs) le e = let z : length old ≡ 0 = ap length e in absurd (omega (arith, le, z))

-- no more marks than the node had
abbrev FitsMarks : List (List ℕ) → Forest → Type 0
FitsMarks marks end = Unit {0}
FitsMarks marks (con part kids floats rest) = length marks ≤ length part.marks

fits_marks : (marks : List (List ℕ)) (f : Forest) → length marks ≤ length (first_marks f) → FitsMarks marks f
fits_marks marks end h = tt
fits_marks marks (con part kids floats rest) h = h

shaped_fewer : (c : ConId) (marks : List (List ℕ)) (l : Level) (s : Spot) (forest : Forest) → FitsMarks marks (only c forest) → IsSoundRow l s.tiled s.room forest
    → Grows 0 l s.tiled s.room forest forest (at c marks_word marks forest) (row_with c forest forest)
shaped_fewer c marks l s forest ok p = keeps_by IsNode node_keeps c marks_word marks 0 (λ found sp st. FitsMarks marks found) (λ found sp st h. inl refl) here l s forest forest ok p
  where
    here : (l : Level) (s : Spot) (whole : Forest) (part : Part) (kids floats rest : Forest) → FitsMarks marks (con part kids floats end) → Here 0 l s (con part kids floats rest) (con (record part { marks = marks }) kids floats rest)
    here l s whole part kids floats rest ok p = (
      (node_fewer l s.tiled s.room part.id part.kind part.marks marks kids ok (none_fewer part.marks marks ok) p.0, p.1, p.2, p.3, p.4),
      behind_row l part (record part { marks = marks }) kids floats rest kids floats rest refl (same_row l rest),
      omega arith,
    )

set_fewer : (c : ConId) (ms : List (List ℕ)) (f : Forest) → length ms ≤ length (marks_in c f) → mark_count (at c marks_word ms f) ≤ mark_count f
set_fewer c ms =
    by_change c marks_word ms (λ old new found. length ms ≤ length (first_marks found) → mark_count new ≤ mark_count old) (λ h. omega arith)
    (λ part kids floats rest h. omega (arith, h))
    (λ part kids floats rest new found p h. omega (arith, p h))
    (λ part kids floats rest new found p h. omega (arith, p h))
    (λ part kids floats rest new found p h. omega (arith, p h))

sound_fewer : (c : ConId) (ms : List (List ℕ)) (t : TreeValue) → length ms ≤ length (marks_in c t.nodes) → IsSound t → IsSound (with_marks c ms t)
sound_fewer c ms t le s =
    let g = shaped_fewer c ms roots top t.nodes (fits_marks ms (only c t.nodes) le) s.shaped in
    record {
      shaped = g.sound;
      rooted = g.keeps root s.rooted;
      once = λ i. omega (arith, count-same (one_of i) c marks_word ms (λ part kids floats rest. refl) t.nodes, s.once i);
      fresh = λ i above. omega (arith, count-same (one_of i) c marks_word ms (λ part kids floats rest. refl) t.nodes, s.fresh i above);
      low = omega (arith, count-same (one_of (record { 0 = 0 })) c marks_word ms (λ part kids floats rest. refl) t.nodes, s.low);
      above = s.above;
      known = λ i. s.known i ∙ sym (count-same (rank_of i) c marks_word ms (λ part kids floats rest. refl) t.nodes);
      few = omega (arith, count-same con_of c marks_word ms (λ part kids floats rest. refl) t.nodes, s.few);
      few_spaces = omega (arith, count-same space_of c marks_word ms (λ part kids floats rest. refl) t.nodes, s.few_spaces);
      few_marks = omega (arith, set_fewer c ms t.nodes le, s.few_marks);
      ids = s.ids;
    }

sure_fewer : (c : ConId) (ms : List (List ℕ)) (t : TreeValue) → length ms ≤ length (marks_in c t.nodes) → IsSound t → Sure t (with_marks c ms t)
sure_fewer c ms t le s = sure_by t (with_marks c ms t) (sound_fewer c ms t le s) (kept_with_marks c ms t) refl (tidy_with_marks c ms t.nodes)

pub sure_unmark : (c : Option ConId) (n : Option (List ℕ)) (t : TreeValue) → IsSound t → Sure t (unmark_tree c n t)
sure_unmark None None t s = sure_bare t s
sure_unmark None (Some n) t s = sure_off None n t s
sure_unmark (Some c) None t s = sure_fewer c [] t (omega arith) s
sure_unmark (Some c) (Some n) t s = sure_unmarked c n t s

-- ---- giving

bears_step : (p : List ℕ → Bool) (x : List ℕ) (xs : List (List ℕ)) (b : Bool) → p x ≡ b → list_any p (filter p xs) ≡ list_any p xs → list_any p (cond b (x ∷ filter p xs) (filter p xs)) ≡ (b || list_any p xs)
bears_step p x xs true e h = rw e refl
bears_step p x xs false e h = h

bears_that : (n : List ℕ) (ms : List (List ℕ)) → bears n (that_mark n ms) ≡ bears n ms
bears_that n [] = refl
bears_that n (m ∷ ms) = bears_step (λ x. bytes_eq x n) m ms (bytes_eq m n) refl (bears_that n ms)

that_most : (n : List ℕ) (ms : List (List ℕ)) → length (that_mark n ms) ≤ length ms
that_most n [] = omega arith
that_most n (m ∷ ms) = step (bytes_eq m n) (that_most n ms)
  where
    step : (b : Bool) → length (that_mark n ms) ≤ length ms → length (cond b (m ∷ that_mark n ms) (that_mark n ms)) ≤ suc (length ms)
    step true h = omega (arith, h)
    step false h = omega (arith, h)

-- marks among which one is keep as they are, with it
with_held : (n : List ℕ) (add : Bool) (ms : List (List ℕ)) → bears n ms ≡ true → length (with_mark n (kept_marks n add ms)) ≤ length ms
with_held n true ms h = rw h (omega arith)
with_held n false ms h = let e : bears n (that_mark n ms) ≡ true = bears_that n ms ∙ h in rw e (omega (arith, that_most n ms))

room_for : (b : Bool) → cond b (Some (Full limits.Marks)) None ≡ None → b ≡ false
room_for true h = cc
room_for false h = refl

some_or_none : (add : Bool) (ms : List (List ℕ)) → length (all_or_none add ms) ≤ length ms
some_or_none true ms = omega arith
some_or_none false ms = omega arith

pub sure_given : (c : ConId) (n : List ℕ) (add : Bool) (t : TreeValue) → IsSound t → has c t.nodes ≡ true → is_container t c ≡ true → give_refusal c n add t ≡ None → Sure t (given_mark c n add t)
sure_given c n add t s there is fits = by (is_marked c n t) refl fits
  where
    given : TreeValue
    given = with_marks c (with_mark n (kept_marks n add (marks_in c t.nodes))) t

    by : (b : Bool) → is_marked c n t ≡ b → cond b None (full_of_marks c (cleared c n add t).nodes) ≡ None → Sure t (given_mark c n add t)
    by true e k =
        let first : Sure t given = sure_fewer c (with_mark n (kept_marks n add (marks_in c t.nodes))) t (with_held n add (marks_in c t.nodes) e) s in
        sure_trans t given (given_mark c n add t) first (sure_off (Some c) n given first.sound)
    by false e k =
        let some : List (List ℕ) = all_or_none add (marks_in c t.nodes) in
        let less : TreeValue = with_marks c some t in
        let ready : TreeValue = freed c n less in
        let first : Sure t less = sure_fewer c some t (some_or_none add (marks_in c t.nodes)) s in
        let second : Sure t ready = sure_trans t less ready first (sure_off (Some c) n less first.sound) in
        let room : is_full_of_marks c ready.nodes ≡ false = sym (ap (λ (x : TreeValue). is_full_of_marks c x.nodes) (cleared_is c n add t e)) ∙ room_for (is_full_of_marks c (cleared c n add t).nodes) k in
        let marked_sound : IsSound (marked c n ready) = sound-marked c n ready (ready_kind c n add t is) room second.sound in
        let third : Sure ready (marked c n ready) =
        sure_by ready (marked c n ready) marked_sound (kept_with_marks c (marks_in c ready.nodes ++ n ∷ []) ready) refl (tidy_with_marks c (marks_in c ready.nodes ++ n ∷ []) ready.nodes) in
        subst (Sure t) (in_place c n add t there e) (sure_trans t ready (marked c n ready) second third)

pub sure_mark : (c : ConId) (n : List ℕ) (add toggle : Bool) (t : TreeValue) → IsSound t → has c t.nodes ≡ true → is_container t c ≡ true → give_refusal c n add t ≡ None → Sure t (mark_tree c n add toggle t)
sure_mark c n add toggle t s there is fits = step (toggle && is_marked c n t)
  where
    step : (b : Bool) → Sure t (cond b (unmarked c n t) (given_mark c n add t))
    step true = sure_unmarked c n t s
    step false = sure_given c n add t s there is fits
