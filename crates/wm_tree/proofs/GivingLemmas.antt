-- Giving a mark to one container alone.
use Rattle.std.proofs.Common.{◌≡◌, ◌≢◌, ℕ, ◌+◌, ◌≤◌, ◌<◌, Bool, true, false, cond, leb, ◌||◌, ◌==◌, List, [], ◌∷◌, ◌++◌, length, Option, None, Some, refl, ap, sym, ◌∙◌, arith}
use Rattle.std.proofs.lemmas.Bool.Decides.{nat_tests}
use Rattle.std.specs.Str.{bytes_eq}
use Rattle.wm_base.specs.declared.ids.ConId.{ConId}
use Rattle.wm_forest.proofs.PutLemmas.{IsConFirst}
use Rattle.wm_forest.specs.Change.{at, is_id}
use Rattle.wm_forest.specs.Counts.{mark_count}
use Rattle.wm_forest.specs.Forest.{Forest, end, con}
use Rattle.wm_forest.specs.Look.{con_kind, has, kind_of, only}
use Rattle.wm_forest.specs.Marks.{marks_word, other_marks, unmark_word}
use Rattle.wm_tree.proofs.BearerLemmas.{bearer_marks, bearer_other, fewer_marks, off_unmarked, other_most}
use Rattle.wm_tree.proofs.MarkForests.{has_off, kind_off, marks_off, marks_same, marks_set, off_marks}
use Rattle.wm_tree.proofs.MarkLemmas.{count_marks, given, given_most, length_last, room_for_mark, sound-with_marks}
use Rattle.wm_tree.specs.Marks.{all_or_none, bearer, bears, cleared, freed, given_mark, is_full_for, kept_marks, taken_off, that_mark, with_mark}
use Rattle.wm_tree.specs.Move.{is_full_of_marks, marks_in, with_marks}
use Rattle.wm_tree.specs.Sound.{IsSound}
use Rattle.wm_tree.specs.TreeValue.{TreeValue}

-- its own marks make no difference
pub marks_kept : (c : ConId) (t : TreeValue) → with_marks c (marks_in c t.nodes) t ≡ t
marks_kept c t = ap (λ f. record t { nodes = f }) (marks_same c t.nodes)

-- ---- what stays beside a mark that is not there

-- where the mark is not among them nothing of it is
pub that_none : (n : List ℕ) (ms : List (List ℕ)) → bears n ms ≡ false → that_mark n ms ≡ []
that_none n [] h = refl
that_none n (m ∷ ms) h = by (bytes_eq m n) (that_none n ms) h where
  by : (b : Bool) → (bears n ms ≡ false → that_mark n ms ≡ []) → (b || bears n ms) ≡ false → cond b (m ∷ that_mark n ms) (that_mark n ms) ≡ []
  by true r h = cc
  by false r h = r h

kept_none : (n : List ℕ) (add : Bool) (ms : List (List ℕ)) → bears n ms ≡ false → kept_marks n add ms ≡ all_or_none add ms
kept_none n true ms h = refl
kept_none n false ms h = that_none n ms h

pub cleared_is : (c : ConId) (n : List ℕ) (add : Bool) (t : TreeValue) → bears n (marks_in c t.nodes) ≡ false → cleared c n add t ≡ freed c n (with_marks c (all_or_none add (marks_in c t.nodes)) t)
cleared_is c n add t h = ap (λ ms. freed c n (with_marks c ms t)) (kept_none n add (marks_in c t.nodes) h)

none_there : (n : List ℕ) (add : Bool) (ms : List (List ℕ)) → bears n ms ≡ false → with_mark n (all_or_none add ms) ≡ all_or_none add ms ++ n ∷ []
none_there n true ms h = simp h refl
none_there n false ms h = refl

-- the marks that are given
pub given_last : (n : List ℕ) (add : Bool) (ms : List (List ℕ)) → bears n ms ≡ false → with_mark n (kept_marks n add ms) ≡ all_or_none add ms ++ n ∷ []
given_last n add ms h = ap (with_mark n) (kept_none n add ms h) ∙ none_there n add ms h

-- the mark off all others, and then given
given_is : (c : ConId) (n : List ℕ) (add : Bool) (t : TreeValue) → bears n (marks_in c t.nodes) ≡ false
    → with_marks c (all_or_none add (marks_in c t.nodes) ++ n ∷ []) (freed c n t) ≡ given_mark c n add t
given_is c n add t h =
    let new : List (List ℕ) = all_or_none add (marks_in c t.nodes) ++ n ∷ [] in
    ap (λ f. record t { nodes = f }) (sym (off_marks c n new t.nodes)) ∙ ap (λ l. freed c n (with_marks c l t)) (sym (given_last n add (marks_in c t.nodes) h))

pub as_given : (c : ConId) (n : List ℕ) (add : Bool) (t : TreeValue) → bears n (marks_in c t.nodes) ≡ false → (new : TreeValue) → new ≡ with_marks c (all_or_none add (marks_in c t.nodes) ++ n ∷ []) (freed c n t) → new ≡ given_mark c n add t
as_given c n add t h new e = e ∙ given_is c n add t h

-- ---- limits

pub off_fewer : (keep : Option ConId) (n : List ℕ) (f : Forest) → mark_count (taken_off keep n f) ≤ mark_count f
off_fewer keep n end = omega arith
off_fewer keep n (con part kids floats rest) = step (is_id part.id keep) (off_fewer keep n kids) (off_fewer keep n floats) (off_fewer keep n rest) where
  step : (b : Bool) → mark_count (taken_off keep n kids) ≤ mark_count kids → mark_count (taken_off keep n floats) ≤ mark_count floats → mark_count (taken_off keep n rest) ≤ mark_count rest
      → length (cond b part (record part { marks = other_marks n part.marks })).marks + mark_count (taken_off keep n kids) + mark_count (taken_off keep n floats) + mark_count (taken_off keep n rest) ≤ mark_count (con part kids floats rest)
  step true p q r = omega (arith, p, q, r)
  step false p q r = omega (arith, other_most n part.marks, p, q, r)

few_full : (all own : ℕ) → all < 1024 → own < 32 → (leb 1024 all || leb 32 own) ≡ false
few_full all own p q = grind (arith, nat_tests)

below_most : (all : ℕ) → all < 1024 → leb 1024 all ≡ false
below_most all p = grind (arith, nat_tests)

-- where the mark goes off another container there is room in all
pub room_off : (c x : ConId) (n : List ℕ) (t : TreeValue) → IsSound t → bearer (Some c) n t.nodes ≡ Some x → leb 1024 (mark_count (taken_off (Some c) n t.nodes)) ≡ false
room_off c x n t s h =
    let fewer = fewer_marks x n t.nodes (bearer_marks (Some c) n t.nodes x s.once h) in
    let less : mark_count (taken_off (Some c) n t.nodes) ≤ mark_count (at x unmark_word n t.nodes) =
    rw (← off_unmarked (Some c) n x t.nodes (bearer_other (Some c) n t.nodes x h)) (off_fewer (Some c) n (at x unmark_word n t.nodes)) in
    below_most (mark_count (taken_off (Some c) n t.nodes)) (omega (arith, less, fewer, s.few_marks))

-- where all marks stay, none but this one goes
full_kept : (c : ConId) (n : List ℕ) (add : Bool) (t : TreeValue) → kept_marks n add (marks_in c t.nodes) ≡ marks_in c t.nodes
    → is_full_for c n add t ≡ (leb 1024 (mark_count (taken_off (Some c) n t.nodes)) || leb 32 (length (marks_in c t.nodes)))
full_kept c n add t e =
    ap (λ ms. is_full_of_marks c (freed c n (with_marks c ms t)).nodes) e ∙ ap (λ (x : TreeValue). is_full_of_marks c (freed c n x).nodes) (marks_kept c t)
    ∙ ap (λ (ms : List (List ℕ)). leb 1024 (mark_count (taken_off (Some c) n t.nodes)) || leb 32 (length ms)) (marks_off c n t.nodes)

-- a container whose own marks stay, by whether there are as many in all as there may be
pub beside_full : (c : ConId) (n : List ℕ) (t : TreeValue) (all : Bool) → all ≡ leb 1024 (mark_count (taken_off (Some c) n t.nodes)) → all ≡ true → all ≡ is_full_for c n true t
beside_full c n t all e full =
    full ∙ sym (full_kept c n true t refl ∙ ap (λ b. b || leb 32 (length (marks_in c t.nodes))) (sym e ∙ full))

pub beside_room : (c : ConId) (n : List ℕ) (t : TreeValue) (own : List (List ℕ)) (all : Bool) → own ≡ marks_in c t.nodes → all ≡ leb 1024 (mark_count (taken_off (Some c) n t.nodes)) → all ≡ false → leb 32 (length own) ≡ is_full_for c n true t
beside_room c n t own all o e room =
    ap (λ (ms : List (List ℕ)). leb 32 (length ms)) o ∙ sym (full_kept c n true t refl ∙ ap (λ b. b || leb 32 (length (marks_in c t.nodes))) (sym e ∙ room))

none_kept : (n : List ℕ) (ms : List (List ℕ)) → ms ≡ [] → that_mark n ms ≡ ms
none_kept n ms e = rw e refl

or_few : (a : Bool) (ms : List (List ℕ)) → ms ≡ [] → (a || leb 32 (length ms)) ≡ a
or_few true ms e = refl
or_few false ms e = rw e refl

no_marks : (ms : List (List ℕ)) → (length ms == 0) ≡ true → ms ≡ []
no_marks [] e = refl
no_marks (m ∷ ms) e = first_of (cc, grind (arith, nat_tests))

some_marks : (ms : List (List ℕ)) → (length ms == 0) ≡ false → 1 ≤ length ms
some_marks [] e = first_of (cc, grind (arith, nat_tests))
some_marks (m ∷ ms) e = omega arith

-- a container whose own marks go, and has none
pub alone_first : (c : ConId) (n : List ℕ) (t : TreeValue) (own : List (List ℕ)) (all : Bool) → own ≡ marks_in c t.nodes → (length own == 0) ≡ true → all ≡ leb 1024 (mark_count (taken_off (Some c) n t.nodes)) → all ≡ is_full_for c n false t
alone_first c n t own all o none e =
    let empty : marks_in c t.nodes ≡ [] = sym o ∙ no_marks own none in
    e ∙ sym (full_kept c n false t (none_kept n (marks_in c t.nodes) empty) ∙ or_few (leb 1024 (mark_count (taken_off (Some c) n t.nodes))) (marks_in c t.nodes) empty)

-- or has some, which leave room
pub alone_room : (c : ConId) (n : List ℕ) (t : TreeValue) (own : List (List ℕ)) → IsSound t → has c t.nodes ≡ true → bears n (marks_in c t.nodes) ≡ false → own ≡ marks_in c t.nodes → (length own == 0) ≡ false → false ≡ is_full_for c n false t
alone_room c n t own s there h o some =
    let more : 1 ≤ length own = some_marks own some in
    let same : length own ≡ length (marks_in c t.nodes) = ap (λ (ms : List (List ℕ)). length ms) o in
    let f : Forest = at c marks_word [] t.nodes in
    let now : length (marks_in c (taken_off (Some c) n f)) ≡ 0 = ap (λ (ms : List (List ℕ)). length ms) (marks_off c n f ∙ marks_set c [] t.nodes there) in
    let few : mark_count (taken_off (Some c) n f) < 1024 = omega (arith, off_fewer (Some c) n f, count_marks c [] t.nodes, given_most 0 (only c t.nodes), more, same, s.few_marks) in
    sym (ap (λ (x : TreeValue). is_full_of_marks c x.nodes) (cleared_is c n false t h) ∙ few_full (mark_count (taken_off (Some c) n f)) (length (marks_in c (taken_off (Some c) n f))) few (omega (arith, now)))

-- ---- soundness

given_next : (k : ℕ) (found : Forest) → given (k + 1) found ≤ given k found + 1
given_next k end = omega arith
given_next k (con part kids floats rest) = omega arith

pub given_sound : (c : ConId) (n : List ℕ) (add : Bool) (t : TreeValue) → (has c t.nodes ≡ true → kind_of con_kind c t.nodes ≢ None) → has c t.nodes ≡ true → bears n (marks_in c t.nodes) ≡ false → is_full_for c n add t ≡ false
    → IsSound (freed c n t) → IsSound (with_marks c (all_or_none add (marks_in c t.nodes) ++ n ∷ []) (freed c n t))
given_sound c n add t kind there h room s =
    let kept : List (List ℕ) = all_or_none add (marks_in c t.nodes) in
    let new : List (List ℕ) = kept ++ n ∷ [] in
    let f : Forest = taken_off (Some c) n t.nodes in
    let first : IsConFirst (only c f) = λ e. kind there (sym (kind_off con_kind c n t.nodes) ∙ e) in
    let ready : is_full_of_marks c (at c marks_word kept f) ≡ false =
    sym (ap (λ (x : TreeValue). is_full_of_marks c x.nodes) (cleared_is c n add t h) ∙ ap (is_full_of_marks c) (off_marks c n kept t.nodes)) ∙ room in
    let few = room_for_mark (mark_count (at c marks_word kept f)) (length (marks_in c (at c marks_word kept f))) ready in
    let own : length (marks_in c (at c marks_word kept f)) ≡ length kept = ap (λ (ms : List (List ℕ)). length ms) (marks_set c kept f (has_off c (Some c) n t.nodes ∙ there)) in
    let long = length_last kept n in
    let one_more : given (length new) (only c f) ≡ given (length kept + 1) (only c f) = ap (λ k. given k (only c f)) long in
    sound-with_marks c new (freed c n t) first (omega (arith, long, own, few.1))
    (omega (arith, count_marks c new f, count_marks c kept f, one_more, given_next (length kept) (only c f), few.0)) s
