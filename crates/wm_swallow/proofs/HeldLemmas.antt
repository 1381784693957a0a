-- Who has a mark before and after it is given to a container.
use Rattle.std.proofs.Common.{◌≡◌, ℕ, ◌+◌, ◌≤◌, Bool, true, false, cond, ◌||◌, ◌&&◌, not, List, [], ◌∷◌, ◌++◌, length, Option, Some, None, refl, sym, ◌∙◌, subst, arith}
use Rattle.std.specs.Prelude.{is_some}
use Rattle.std.specs.Option.{option_or}
use Rattle.std.specs.Str.{bytes_eq}
use Rattle.wm_base.specs.declared.ids.ConId.{ConId}
use Rattle.wm_focus.specs.Marks.{bearer, bears, taken_off, with_mark}
use Rattle.wm_focus.proofs.MarkLists.{bytes_one, bytes_self}
use Rattle.wm_forest.specs.declared.part.Part.{Part}
use Rattle.wm_forest.specs.Change.{append, at, is_id}
use Rattle.wm_forest.specs.declared.kind.KindEdit.{KindEdit}
use Rattle.wm_forest.specs.declared.place.Place.TheVariants.{Last}
use Rattle.wm_forest.specs.Kinds.{kind_changed}
use Rattle.wm_forest.specs.Place.{put, put_word}
use Rattle.wm_forest.specs.Forest.{Forest, end, con}
use Rattle.wm_forest.specs.Look.{first_marks, has, only, same}
use Rattle.wm_forest.specs.Marks.{marks_word, other_marks}
use Rattle.wm_forest.specs.SoundRow.{tally}
use Rattle.wm_forest.proofs.ChangeLemmas.{by_change}
use Rattle.wm_forest.proofs.CountLemmas.{counted, tally-absent}
use Rattle.wm_swallow.specs.Limits.{is_held}
use Rattle.wm_tree.specs.Move.{marks_in}

-- ---- lists of marks

-- taking off one mark leaves the others
bears_others : (m x : List ℕ) (ms : List (List ℕ)) → bytes_eq x m ≡ false → bears x (other_marks m ms) ≡ bears x ms
bears_others m x [] d = refl
bears_others m x (y ∷ ys) d = by (bytes_eq y m) refl (bears_others m x ys d)
  where
    by : (b : Bool) → bytes_eq y m ≡ b → bears x (other_marks m ys) ≡ bears x ys → bears x (cond (not b) (y ∷ other_marks m ys) (other_marks m ys)) ≡ (bytes_eq y x || bears x ys)
    by true e h = rw (not_this (bytes_eq y x) refl) h
      where
        not_this : (b : Bool) → bytes_eq y x ≡ b → bytes_eq y x ≡ false
        not_this true f = let one : y ≡ x = bytes_one y x f in let two : bytes_eq x m ≡ true = subst (λ z. bytes_eq z m ≡ true) one e in cc
        not_this false f = f
    by false e h = rw h refl

bears_append : (x m : List ℕ) (ms : List (List ℕ)) → bears x (ms ++ m ∷ []) ≡ (bears x ms || bytes_eq m x)
bears_append x m [] = by (bytes_eq m x)
  where
    by : (b : Bool) → (b || false) ≡ b
    by true = refl
    by false = refl
bears_append x m (y ∷ ys) = by (bytes_eq y x) (bears_append x m ys)
  where
    by : (b : Bool) → bears x (ys ++ m ∷ []) ≡ (bears x ys || bytes_eq m x) → (b || bears x (ys ++ m ∷ [])) ≡ ((b || bears x ys) || bytes_eq m x)
    by true h = refl
    by false h = h

pub with_mark_own : (m : List ℕ) (ms : List (List ℕ)) → bears m (with_mark m ms) ≡ true
with_mark_own m ms = by (bears m ms) refl
  where
    by : (b : Bool) → bears m ms ≡ b → bears m (cond b ms (ms ++ m ∷ [])) ≡ true
    by true e = e
    by false e = rw (bears_append m m ms, e, bytes_self m) refl

pub with_mark_others : (m x : List ℕ) (ms : List (List ℕ)) → bytes_eq x m ≡ false → bears x (with_mark m ms) ≡ bears x ms
with_mark_others m x ms d = by (bears m ms)
  where
    swapped : (b : Bool) → bytes_eq m x ≡ b → bytes_eq m x ≡ false
    swapped true e = let one : m ≡ x = bytes_one m x e in let two : bytes_eq x m ≡ true = rw one (bytes_self x) in cc
    swapped false e = e

    right : (b : Bool) → (b || false) ≡ b
    right true = refl
    right false = refl

    by : (b : Bool) → bears x (cond b ms (ms ++ m ∷ [])) ≡ bears x ms
    by true = refl
    by false = rw (bears_append x m ms, swapped (bytes_eq m x) refl) (right (bears x ms))

pub with_mark_length : (m : List ℕ) (ms : List (List ℕ)) → length (with_mark m ms) ≡ length ms + cond (bears m ms) 0 1
with_mark_length m ms = by (bears m ms)
  where
    one : (ms : List (List ℕ)) → length (ms ++ m ∷ []) ≡ length ms + 1
    one [] = refl
    one (y ∷ ys) = omega (arith, one ys)

    by : (b : Bool) → length (cond b ms (ms ++ m ∷ [])) ≡ length ms + cond b 0 1
    by true = omega arith
    by false = one ms

-- ---- who has a mark

-- some node has the mark
abbrev pub held : List ℕ → Forest → Bool
held m end = false
held m (con part kids floats rest) = bears m part.marks || held m kids || held m floats || held m rest

-- some node but c has the mark
abbrev pub held_beside : ConId → List ℕ → Forest → Bool
held_beside c m end = false
held_beside c m (con part kids floats rest) = (not (same part.id c) && bears m part.marks) || held_beside c m kids || held_beside c m floats || held_beside c m rest

pub held_is : (m : List ℕ) (f : Forest) → is_held f m ≡ held m f
held_is m end = refl
held_is m (con part kids floats rest) =
    by (bears m part.marks) (bearer None m kids) (bearer None m floats) (bearer None m rest) (held m kids) (held m floats) (held m rest) (held_is m kids) (held_is m floats) (held_is m rest)
  where
    by : (b : Bool) (x y z : Option ConId) (k l r : Bool) → is_some x ≡ k → is_some y ≡ l → is_some z ≡ r → is_some (cond (true && b) (Some part.id) (option_or x (option_or y z))) ≡ (b || k || l || r)
    by true x y z k l r p q s = refl
    by false (Some d) y z k l r p q s = rw (← p) refl
    by false None (Some d) z k l r p q s = rw (← p, ← q) refl
    by false None None z k l r p q s = rw (← p, ← q, s) refl

-- other marks are held as before
pub held_off : (keep : Option ConId) (m x : List ℕ) (f : Forest) → bytes_eq x m ≡ false → held x (taken_off keep m f) ≡ held x f
held_off keep m x end d = refl
held_off keep m x (con part kids floats rest) d = by (is_id part.id keep) (held_off keep m x kids d) (held_off keep m x floats d) (held_off keep m x rest d)
  where
    by : (b : Bool) → held x (taken_off keep m kids) ≡ held x kids → held x (taken_off keep m floats) ≡ held x floats → held x (taken_off keep m rest) ≡ held x rest
        → (bears x (cond b part (record part { marks = other_marks m part.marks })).marks || held x (taken_off keep m kids) || held x (taken_off keep m floats) || held x (taken_off keep m rest)) ≡ held x (con part kids floats rest)
    by true p q r = rw (p, q, r) refl
    by false p q r = rw (bears_others m x part.marks d, p, q, r) refl

pub held_set : (c : ConId) (new : List (List ℕ)) (x : List ℕ) (f : Forest) → bears x new ≡ bears x (marks_in c f) → held x (at c marks_word new f) ≡ held x f
held_set c new x =
    by_change c marks_word new (λ old after found. bears x new ≡ bears x (first_marks found) → held x after ≡ held x old) (λ h. refl)
    (λ part kids floats rest h. rw h refl)
    (λ part kids floats rest after found p h. rw (p h) refl)
    (λ part kids floats rest after found p h. rw (p h) refl)
    (λ part kids floats rest after found p h. rw (p h) refl)

none_of_four : (a k l r : Bool) → (a || k || l || r) ≡ false → (a ≡ false) × (k ≡ false) × (l ≡ false) × (r ≡ false)
none_of_four false false false false h = (refl, refl, refl, refl)
none_of_four false false false true h = cc
none_of_four false false true r h = cc
none_of_four false true l r h = cc
none_of_four true k l r h = cc

-- one of four that holds
second : (a k l r : Bool) → k ≡ true → (a || k || l || r) ≡ true
second true k l r h = refl
second false true l r h = refl
second false false l r h = cc

third : (a k l r : Bool) → l ≡ true → (a || k || l || r) ≡ true
third true k l r h = refl
third false true l r h = refl
third false false true r h = refl
third false false false r h = cc

last : (a k l r : Bool) → r ≡ true → (a || k || l || r) ≡ true
last true k l r h = refl
last false true l r h = refl
last false false true r h = refl
last false false false r h = h

-- a mark of c is held
pub held_own : (c : ConId) (m : List ℕ) (f : Forest) → bears m (marks_in c f) ≡ true → held m f ≡ true
held_own c m =
    by_change c (λ row part kids floats rest. rest) end (λ old after found. bears m (first_marks found) ≡ true → held m old ≡ true) (λ h. cc)
    (λ part kids floats rest h. rw h refl)
    (λ part kids floats rest after found p h. second (bears m part.marks) (held m kids) (held m floats) (held m rest) (p h))
    (λ part kids floats rest after found p h. third (bears m part.marks) (held m kids) (held m floats) (held m rest) (p h))
    (λ part kids floats rest after found p h. last (bears m part.marks) (held m kids) (held m floats) (held m rest) (p h))

-- a mark that a node has beside c is held
pub beside_held : (c : ConId) (m : List ℕ) (f : Forest) → held_beside c m f ≡ true → held m f ≡ true
beside_held c m end h = cc
beside_held c m (con part kids floats rest) h =
    by (same part.id c) (bears m part.marks) (held_beside c m kids) (held_beside c m floats) (held_beside c m rest) (beside_held c m kids) (beside_held c m floats) (beside_held c m rest) h
  where
    by : (a b k l r : Bool) → (k ≡ true → held m kids ≡ true) → (l ≡ true → held m floats ≡ true) → (r ≡ true → held m rest ≡ true) → ((not a && b) || k || l || r) ≡ true → (b || held m kids || held m floats || held m rest) ≡ true
    by a true k l r p q s h = refl
    by true false true l r p q s h = second false (held m kids) (held m floats) (held m rest) (p refl)
    by false false true l r p q s h = second false (held m kids) (held m floats) (held m rest) (p refl)
    by true false false true r p q s h = third false (held m kids) (held m floats) (held m rest) (q refl)
    by false false false true r p q s h = third false (held m kids) (held m floats) (held m rest) (q refl)
    by true false false false r p q s h = last false (held m kids) (held m floats) (held m rest) (s h)
    by false false false false r p q s h = last false (held m kids) (held m floats) (held m rest) (s h)

-- where c is not there, every node is beside it
beside_all : (c : ConId) (m : List ℕ) (f : Forest) → has c f ≡ false → held_beside c m f ≡ held m f
beside_all c m end h = refl
beside_all c m (con part kids floats rest) h =
    let n = none_of_four (same part.id c) (has c kids) (has c floats) (has c rest) h in
    rw (n.0, beside_all c m kids n.1, beside_all c m floats n.2, beside_all c m rest n.3) refl

pub absent : (c : ConId) (f : Forest) → tally c f ≡ 0 → has c f ≡ false
absent c f h = by (has c f) refl
  where
    by : (b : Bool) → has c f ≡ b → has c f ≡ false
    by true e = absurd (omega (arith, h, counted c f e))
    by false e = e

-- where c is not there either, a mark that no node has beside c is not held
not_held : (c : ConId) (m : List ℕ) (f : Forest) → tally c f ≡ 0 → held_beside c m f ≡ false → held m f ≡ false
not_held c m f h b = sym (beside_all c m f (absent c f h)) ∙ b

first_left : (a k l r : Bool) → (a || k || l || r) ≡ true → k ≡ false → l ≡ false → r ≡ false → a ≡ true
first_left true k l r h x y z = refl
first_left false k l r h x y z = let n : (false || false || false) ≡ true = rw (x, y, z) at h in cc

second_left : (a k l r : Bool) → (a || k || l || r) ≡ true → a ≡ false → l ≡ false → r ≡ false → k ≡ true
second_left a true l r h x y z = refl
second_left a false l r h x y z = let n : (false || false || false) ≡ true = rw (x, y, z) at h in cc

third_left : (a k l r : Bool) → (a || k || l || r) ≡ true → a ≡ false → k ≡ false → r ≡ false → l ≡ true
third_left a k true r h x y z = refl
third_left a k false r h x y z = let n : (false || false || false) ≡ true = rw (x, y, z) at h in cc

last_left : (a k l r : Bool) → (a || k || l || r) ≡ true → a ≡ false → k ≡ false → l ≡ false → r ≡ true
last_left a k l true h x y z = refl
last_left a k l false h x y z = let n : (false || false || false) ≡ true = rw (x, y, z) at h in cc

-- a mark that is held and that no node has beside c, is one of c, which is there at most once
pub held_by : (c : ConId) (m : List ℕ) (f : Forest) → tally c f ≤ 1 → held m f ≡ true → held_beside c m f ≡ false → bears m (marks_in c f) ≡ true
held_by c m end once h b = cc
held_by c m (con part kids floats rest) once h b =
    by (same part.id c) (has c kids) (has c floats) refl refl refl (held_by c m kids (omega (arith, once))) (held_by c m floats (omega (arith, once))) (held_by c m rest (omega (arith, once)))
    (none_of_four (not (same part.id c) && bears m part.marks) (held_beside c m kids) (held_beside c m floats) (held_beside c m rest) b)
  where
    total : (a : Bool) → same part.id c ≡ a → cond a 1 0 + tally c kids + tally c floats + tally c rest ≤ 1
    total a e = rw (← e) once

    by : (a k l : Bool) → same part.id c ≡ a → has c kids ≡ k → has c floats ≡ l → (held m kids ≡ true → held_beside c m kids ≡ false → bears m (marks_in c kids) ≡ true) → (held m floats ≡ true → held_beside c m floats ≡ false → bears m (marks_in c floats) ≡ true)
        → (held m rest ≡ true → held_beside c m rest ≡ false → bears m (marks_in c rest) ≡ true)
        → ((not (same part.id c) && bears m part.marks) ≡ false) × (held_beside c m kids ≡ false) × (held_beside c m floats ≡ false) × (held_beside c m rest ≡ false)
        → bears m (first_marks (cond a (con part kids floats end) (cond k (only c kids) (cond l (only c floats) (only c rest))))) ≡ true
    by true k l ea ek el p q r n =
        let t = total true ea in
        first_left (bears m part.marks) (held m kids) (held m floats) (held m rest) h (not_held c m kids (omega (arith, t)) n.1) (not_held c m floats (omega (arith, t)) n.2) (not_held c m rest (omega (arith, t)) n.3)
    by false true l ea ek el p q r n =
        let t = total false ea in
        let one = counted c kids ek in
        let own : bears m part.marks ≡ false = rw ea at n.0 in
        p (second_left (bears m part.marks) (held m kids) (held m floats) (held m rest) h own (not_held c m floats (omega (arith, t, one)) n.2) (not_held c m rest (omega (arith, t, one)) n.3)) n.1
    by false false true ea ek el p q r n =
        let t = total false ea in
        let one = counted c floats el in
        let own : bears m part.marks ≡ false = rw ea at n.0 in
        q (third_left (bears m part.marks) (held m kids) (held m floats) (held m rest) h own (not_held c m kids (tally-absent c kids ek) n.1) (not_held c m rest (omega (arith, t, one)) n.3)) n.2
    by false false false ea ek el p q r n =
        let own : bears m part.marks ≡ false = rw ea at n.0 in
        r (last_left (bears m part.marks) (held m kids) (held m floats) (held m rest) h own (not_held c m kids (tally-absent c kids ek) n.1) (not_held c m floats (tally-absent c floats el) n.2)) n.3

-- ---- a container that comes without marks

held_more : (new : Part) (x : List ℕ) (f : Forest) → bears x new.marks ≡ false → held x (append f (con new end end end)) ≡ held x f
held_more new x end h = rw h refl
held_more new x (con part kids floats rest) h = rw (held_more new x rest h) refl

-- nothing more is held
pub held_come : (p : ConId) (new : Part) (x : List ℕ) (f : Forest) → bears x new.marks ≡ false → held x (put (Last p) (con new end end end) f) ≡ held x f
held_come p new x f none =
    by_change p (put_word (Last p)) (con new end end end) (λ old after found. held x after ≡ held x old) refl
    (λ part kids floats rest. rw (held_more new x kids none) refl)
    (λ part kids floats rest after found h. rw h refl)
    (λ part kids floats rest after found h. rw h refl)
    (λ part kids floats rest after found h. rw h refl)
    f

pub held_edit : (c : ConId) (edit : KindEdit) (x : List ℕ) (f : Forest) → held x (at c kind_changed edit f) ≡ held x f
held_edit c edit x =
    by_change c kind_changed edit (λ old after found. held x after ≡ held x old) refl
    (λ part kids floats rest. refl)
    (λ part kids floats rest after found h. rw h refl)
    (λ part kids floats rest after found h. rw h refl)
    (λ part kids floats rest after found h. rw h refl)
