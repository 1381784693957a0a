-- How many marks there are when one is taken off others, and when a container gets other marks.
use Rattle.std.proofs.Common.{◌≡◌, ℕ, ◌+◌, ◌≤◌, Bool, true, false, cond, ◌||◌, ◌&&◌, not, List, [], ◌∷◌, length, Some, suc, refl, arith}
use Rattle.std.specs.Str.{bytes_eq}
use Rattle.wm_base.specs.declared.ids.ConId.{ConId}
use Rattle.wm_focus.specs.Marks.{bears, taken_off}
use Rattle.wm_forest.specs.Change.{at, is_end}
use Rattle.wm_forest.specs.Counts.{mark_count}
use Rattle.wm_forest.specs.Forest.{Forest, end, con}
use Rattle.wm_forest.specs.Look.{first_marks, has, only, same}
use Rattle.wm_forest.specs.Marks.{marks_word, other_marks}
use Rattle.wm_forest.specs.SoundRow.{tally}
use Rattle.wm_forest.proofs.ChangeLemmas.{by_change}
use Rattle.wm_forest.proofs.CountLemmas.{found_counted}
use Rattle.wm_swallow.proofs.HeldLemmas.{held_beside}
use Rattle.wm_tree.specs.Move.{marks_in}

other_length : (m : List ℕ) (ms : List (List ℕ)) → length (other_marks m ms) + cond (bears m ms) 1 0 ≤ length ms
other_length m [] = omega arith
other_length m (x ∷ xs) = by (bytes_eq x m) (bears m xs) (other_length m xs)
  where
    by : (b k : Bool) → length (other_marks m xs) + cond k 1 0 ≤ length xs → length (cond (not b) (x ∷ other_marks m xs) (other_marks m xs)) + cond (b || k) 1 0 ≤ suc (length xs)
    by true true h = omega (arith, h)
    by true false h = omega (arith, h)
    by false true h = omega (arith, h)
    by false false h = omega (arith, h)

-- a mark that is taken off others than c leaves one the fewer where another one had it
pub off_count : (c : ConId) (m : List ℕ) (f : Forest) → mark_count (taken_off (Some c) m f) + cond (held_beside c m f) 1 0 ≤ mark_count f
off_count c m end = omega arith
off_count c m (con part kids floats rest) =
    by (same part.id c) (bears m part.marks) (held_beside c m kids) (held_beside c m floats) (held_beside c m rest) refl (off_count c m kids) (off_count c m floats) (off_count c m rest)
  where
    own : (a b : Bool) → bears m part.marks ≡ b → length (cond a part (record part { marks = other_marks m part.marks })).marks + cond (not a && b) 1 0 ≤ length part.marks
    own true b e = omega arith
    own false b e = rw (← e) (other_length m part.marks)

    some_of : (a k l r : Bool) → cond (a || k || l || r) 1 0 ≤ cond a 1 0 + cond k 1 0 + cond l 1 0 + cond r 1 0
    some_of true k l r = omega arith
    some_of false true l r = omega arith
    some_of false false true r = omega arith
    some_of false false false r = omega arith

    by : (a b k l r : Bool) → bears m part.marks ≡ b → mark_count (taken_off (Some c) m kids) + cond k 1 0 ≤ mark_count kids → mark_count (taken_off (Some c) m floats) + cond l 1 0 ≤ mark_count floats
        → mark_count (taken_off (Some c) m rest) + cond r 1 0 ≤ mark_count rest
        → length (cond a part (record part { marks = other_marks m part.marks })).marks + mark_count (taken_off (Some c) m kids) + mark_count (taken_off (Some c) m floats) + mark_count (taken_off (Some c) m rest)
        + cond ((not a && b) || k || l || r) 1 0
        ≤ mark_count (con part kids floats rest)
    by a b k l r e x y z = omega (arith, own a b e, some_of (not a && b) k l r, x, y, z)

some_found : (c : ConId) (f : Forest) → 1 ≤ tally c f → is_end f ≡ false
some_found c end h = absurd (omega (arith, h))
some_found c (con part kids floats rest) h = refl

-- other marks of c
pub set_count : (c : ConId) (new : List (List ℕ)) (f : Forest) → has c f ≡ true → mark_count (at c marks_word new f) + length (marks_in c f) ≡ mark_count f + length new
set_count c new f there = counts f (some_found c (only c f) (found_counted c f there))
  where
    counts : (f : Forest) → is_end (only c f) ≡ false → mark_count (at c marks_word new f) + length (first_marks (only c f)) ≡ mark_count f + length new
    counts =
        by_change c marks_word new (λ old after found. is_end found ≡ false → mark_count after + length (first_marks found) ≡ mark_count old + length new) (λ h. cc)
        (λ part kids floats rest h. omega arith)
        (λ part kids floats rest after found p h. omega (arith, p h))
        (λ part kids floats rest after found p h. omega (arith, p h))
        (λ part kids floats rest after found p h. omega (arith, p h))
