-- A mark that a container is given goes off all other ones: no mark is there twice then, where none was.
use Rattle.std.proofs.Common.{◌≡◌, ℕ, ◌+◌, ◌≤◌, Bool, true, false, cond, List, Option, Some, refl, ap, subst, arith}
use Rattle.std.specs.Str.{bytes_eq}
use Rattle.std.proofs.lemmas.Slice.Eq.{bytes_eq-Decides}
use Rattle.wm_base.specs.declared.ids.ConId.{ConId}
use Rattle.law_fullscreen.proofs.HasOneLemmas.{IsFirst, first_found}
use Rattle.law_marks.proofs.MarkTimes.{times_beside, times_given, times_kept, times_off, times_other}
use Rattle.law_marks.specs.Marks.{MarksDiffer, mark_times, times_on}
use Rattle.wm_focus.specs.Marks.{bare, given_mark, kept_marks, taken_off, with_mark}
use Rattle.wm_forest.proofs.ChangeLemmas.{by_change}
use Rattle.wm_forest.proofs.CountLemmas.{count-without, found_counted, tally-absent}
use Rattle.wm_forest.specs.Change.{at, is_id, without}
use Rattle.wm_forest.specs.Counts.{count}
use Rattle.wm_forest.specs.declared.part.Part.{Part}
use Rattle.wm_forest.specs.Forest.{Forest, end, con}
use Rattle.wm_forest.specs.Look.{first_marks, has, only, same}
use Rattle.wm_forest.specs.Marks.{marks_word, other_marks, unmark_word}
use Rattle.wm_forest.specs.SoundRow.{one_of, tally}
use Rattle.wm_tree.specs.Move.{marks_in}
use Rattle.wm_tree.specs.Sound.{IsSound}
use Rattle.wm_tree.specs.TreeValue.{TreeValue}

-- ---- marks that are taken off

module _ (n : List ℕ) where
  pub bare_times : (f : Forest) → count (times_on n) (bare f) ≤ count (times_on n) f
  bare_times end = omega arith
  bare_times (con part kids floats rest) = omega (arith, bare_times kids, bare_times floats, bare_times rest)

  pub unmarked_times : (c : ConId) (k : List ℕ) (f : Forest) → count (times_on n) (at c unmark_word k f) ≤ count (times_on n) f
  unmarked_times c k =
      by_change c unmark_word k (λ old new found. count (times_on n) new ≤ count (times_on n) old) (omega arith)
      (λ part kids floats rest. omega (arith, times_other k n part.marks))
      (λ part kids floats rest new found h. omega (arith, h))
      (λ part kids floats rest new found h. omega (arith, h))
      (λ part kids floats rest new found h. omega (arith, h))

  pub taken_times : (keep : Option ConId) (k : List ℕ) (f : Forest) → count (times_on n) (taken_off keep k f) ≤ count (times_on n) f
  taken_times keep k end = omega arith
  taken_times keep k (con part kids floats rest) = omega (arith, step (is_id part.id keep), taken_times keep k kids, taken_times keep k floats, taken_times keep k rest)
    where
      step : (b : Bool) → times_on n (cond b part (record part { marks = other_marks k part.marks })) ≤ times_on n part
      step true = omega arith
      step false = times_other k n part.marks

  -- ---- marks in the place of those that a node had

  first_times : (f : Forest) → mark_times n (first_marks f) ≤ count (times_on n) f
  first_times end = omega arith
  first_times (con part kids floats rest) = omega arith

  pub own_times : (c : ConId) (f : Forest) → mark_times n (first_marks (only c f)) ≤ count (times_on n) f
  own_times c f = omega (arith, first_times (only c f), count-without (times_on n) c f)

  remarked : (c : ConId) (marks : List (List ℕ)) (f : Forest) → count (times_on n) (at c marks_word marks f) + mark_times n (first_marks (only c f)) ≤ count (times_on n) f + mark_times n marks
  remarked c marks =
      by_change c marks_word marks (λ old new found. count (times_on n) new + mark_times n (first_marks found) ≤ count (times_on n) old + mark_times n marks) (omega arith)
      (λ part kids floats rest. omega arith)
      (λ part kids floats rest new found h. omega (arith, h))
      (λ part kids floats rest new found h. omega (arith, h))
      (λ part kids floats rest new found h. omega (arith, h))

  pub fewer_times : (c : ConId) (marks : List (List ℕ)) (f : Forest) → mark_times n marks ≤ mark_times n (first_marks (only c f)) → count (times_on n) (at c marks_word marks f) ≤ count (times_on n) f
  fewer_times c marks f h = omega (arith, remarked c marks f, h)

-- ---- the mark that is given

module _ (n : List ℕ) (c : ConId) where
  -- how often the nodes with the id c have the mark
  abbrev owned : Part → ℕ
  owned p = cond (same p.id c) (mark_times n p.marks) 0

  abbrev first_owned : Forest → ℕ
  first_owned end = 0
  first_owned (con part kids floats rest) = owned part

  owned_by : (a : Bool) (m : ℕ) → cond {A = ℕ} a 1 0 ≡ 0 → cond {A = ℕ} a m 0 ≡ 0
  owned_by true m h = absurd (omega (arith, h))
  owned_by false m h = refl

  none_owned : (f : Forest) → tally c f ≡ 0 → count owned f ≡ 0
  none_owned end h = refl
  none_owned (con part kids floats rest) h =
      let here : owned part ≡ 0 = owned_by (same part.id c) (mark_times n part.marks) (omega (arith, h)) in
      omega (arith, here, none_owned kids (omega (arith, h)), none_owned floats (omega (arith, h)), none_owned rest (omega (arith, h)))

  -- the node that is found alone
  alone_owned : (g : Forest) → IsFirst c g → tally c g ≤ 1 → count owned g ≤ first_owned g
  alone_owned end i once = omega arith
  alone_owned (con part kids floats rest) i once =
      let one : cond {A = ℕ} (same part.id c) 1 0 ≡ 1 = ap (λ b. cond {A = ℕ} b 1 0) i in
      omega (arith, none_owned kids (omega (arith, once, one)), none_owned floats (omega (arith, once, one)), none_owned rest (omega (arith, once, one)))

  found_owned : (f : Forest) → tally c f ≤ 1 → count owned f ≤ first_owned (only c f)
  found_owned f once = by (has c f) refl
    where
      by : (b : Bool) → has c f ≡ b → count owned f ≤ first_owned (only c f)
      by false e = omega (arith, none_owned f (tally-absent c f e))
      by true e =
          let split = count-without (one_of c) c f in
          let none : tally c (without c f) ≡ 0 = omega (arith, split, found_counted c f e, once) in
          omega (arith, count-without owned c f, none_owned (without c f) none, alone_owned (only c f) (first_found c f) (omega (arith, split, once)))

  owned_most : (b : Bool) (m k : ℕ) → cond b m 0 + cond b k 0 ≤ cond b k 0 + m
  owned_most true m k = omega arith
  owned_most false m k = omega arith

  remarked_owned : (marks : List (List ℕ)) (f : Forest) → count owned (at c marks_word marks f) + first_owned (only c f) ≤ count owned f + mark_times n marks
  remarked_owned marks =
      by_change c marks_word marks (λ old new found. count owned new + first_owned found ≤ count owned old + mark_times n marks) (omega arith)
      (λ part kids floats rest. omega (arith, owned_most (same part.id c) (mark_times n marks) (mark_times n part.marks)))
      (λ part kids floats rest new found h. omega (arith, h))
      (λ part kids floats rest new found h. omega (arith, h))
      (λ part kids floats rest new found h. omega (arith, h))

  -- what is left where the mark is taken off all nodes but c
  left_owned : (f : Forest) → count (times_on n) (taken_off (Some c) n f) ≤ count owned f
  left_owned end = omega arith
  left_owned (con part kids floats rest) = omega (arith, step (same part.id c), left_owned kids, left_owned floats, left_owned rest)
    where
      step : (b : Bool) → times_on n (cond b part (record part { marks = other_marks n part.marks })) ≤ cond b (mark_times n part.marks) 0
      step true = omega arith
      step false = omega (arith, times_off n part.marks)

-- a mark that is given, where marks differ: they do so then
pub given_differ : (c : ConId) (k : List ℕ) (add : Bool) (t : TreeValue) → IsSound t → MarksDiffer t → MarksDiffer (given_mark c k add t)
given_differ c k add t s differ n = by (bytes_eq k n) refl
  where
    kept : List (List ℕ)
    kept = kept_marks k add (marks_in c t.nodes)

    less : (m : List ℕ) → mark_times m kept ≤ mark_times m (marks_in c t.nodes)
    less m = times_kept k m add (marks_in c t.nodes)

    here : count (times_on k) (taken_off (Some c) k (at c marks_word (with_mark k kept) t.nodes)) ≤ 1
    here =
        let one : mark_times k (with_mark k kept) ≤ 1 = times_given k kept (omega (arith, less k, own_times k c t.nodes, differ k)) in
        omega (
          arith,
          one,
          left_owned k c (at c marks_word (with_mark k kept) t.nodes),
          remarked_owned k c (with_mark k kept) t.nodes,
          found_owned k c t.nodes (s.once c),
        )

    by : (b : Bool) → bytes_eq k n ≡ b → count (times_on n) (given_mark c k add t).nodes ≤ 1
    by true e = subst (λ z. count (times_on z) (taken_off (Some c) k (at c marks_word (with_mark k kept) t.nodes)) ≤ 1) ((bytes_eq-Decides k n).0 e) here
    by false e =
        let fewer : mark_times n (with_mark k kept) ≤ mark_times n (marks_in c t.nodes) = omega (arith, times_beside k n kept e, less n) in
        omega (arith, taken_times n (Some c) k (at c marks_word (with_mark k kept) t.nodes), fewer_times n c (with_mark k kept) t.nodes fewer, differ n)
