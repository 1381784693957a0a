-- Forests with other marks.
use Rattle.std.proofs.Common.{◌≡◌, ℕ, Bool, true, false, cond, List, Option, Some, refl, ap, sym, ◌∙◌}
use Rattle.wm_base.specs.declared.ids.ConId.{ConId}
use Rattle.wm_tree.specs.Marks.{part_off, taken_off}
use Rattle.wm_forest.specs.declared.part.Part.{Part}
use Rattle.wm_forest.specs.Change.{at, is_id}
use Rattle.wm_forest.specs.Forest.{Forest, end, con}
use Rattle.wm_forest.specs.declared.part.NodeKind.{NodeKind}
use Rattle.wm_forest.specs.Look.{has, kind_of, same}
use Rattle.wm_tree.specs.Move.{marks_in}
use Rattle.wm_forest.specs.Marks.{keep_word, marks_word, only_mark, other_marks, unmark_word}

-- ---- one node's marks

pub has_marks : (i c : ConId) (new : List (List ℕ)) (f : Forest) → has i (at c marks_word new f) ≡ has i f
has_marks i c new end = refl
has_marks i c new (con part kids floats rest) =
    step (same part.id c) (has c kids) (has c floats) (has_marks i c new kids) (has_marks i c new floats) (has_marks i c new rest)
  where
    step : (a k l : Bool) → has i (at c marks_word new kids) ≡ has i kids → has i (at c marks_word new floats) ≡ has i floats → has i (at c marks_word new rest) ≡ has i rest
        → has i (cond a (con (record part { marks = new }) kids floats rest) (cond k (con part (at c marks_word new kids) floats rest) (cond l (con part kids (at c marks_word new floats) rest) (con part kids floats (at c marks_word new rest)))))
        ≡ has i (con part kids floats rest)
    step true k l p q r = refl
    step false true l p q r = rw p refl
    step false false true p q r = rw q refl
    step false false false p q r = rw r refl

-- a node that is there has the marks that it is given
pub marks_set : (c : ConId) (new : List (List ℕ)) (f : Forest) → has c f ≡ true → marks_in c (at c marks_word new f) ≡ new
marks_set c new end h = cc
marks_set c new (con part kids floats rest) h = by (same part.id c) (has c kids) (has c floats) refl refl refl (marks_set c new kids) (marks_set c new floats) (marks_set c new rest) where
  by : (a k l : Bool) → same part.id c ≡ a → has c kids ≡ k → has c floats ≡ l → (has c kids ≡ true → marks_in c (at c marks_word new kids) ≡ new) → (has c floats ≡ true → marks_in c (at c marks_word new floats) ≡ new)
      → (has c rest ≡ true → marks_in c (at c marks_word new rest) ≡ new) → marks_in c (at c marks_word new (con part kids floats rest)) ≡ new
  by true k l ea ek el p q r = simp ea refl
  by false true l ea ek el p q r = simp (ea, ek, has_marks c c new kids) (p ek)
  by false false true ea ek el p q r = simp (ea, ek, el, has_marks c c new floats) (q el)
  by false false false ea ek el p q r = let there : has c rest ≡ true = simp (ea, ek, el) at h in simp (ea, ek, el) (r there)

-- of two lists given the last counts
pub marks_twice : (c : ConId) (new old : List (List ℕ)) (f : Forest) → at c marks_word new (at c marks_word old f) ≡ at c marks_word new f
marks_twice c new old end = refl
marks_twice c new old (con part kids floats rest) = by (same part.id c) (has c kids) (has c floats) refl refl refl (marks_twice c new old kids) (marks_twice c new old floats) (marks_twice c new old rest) where
  by : (a k l : Bool) → same part.id c ≡ a → has c kids ≡ k → has c floats ≡ l → at c marks_word new (at c marks_word old kids) ≡ at c marks_word new kids → at c marks_word new (at c marks_word old floats) ≡ at c marks_word new floats → at c marks_word new (at c marks_word old rest) ≡ at c marks_word new rest → at c marks_word new (at c marks_word old (con part kids floats rest)) ≡ at c marks_word new (con part kids floats rest)
  by true k l ea ek el p q r = simp ea refl
  by false true l ea ek el p q r = simp (ea, ek, has_marks c c old kids) (ap (λ z. con part z floats rest) p)
  by false false true ea ek el p q r = simp (ea, ek, el, has_marks c c old floats) (ap (λ z. con part kids z rest) q)
  by false false false ea ek el p q r = simp (ea, ek, el) (ap (λ z. con part kids floats z) r)

-- its own marks change nothing
pub marks_same : (c : ConId) (f : Forest) → at c marks_word (marks_in c f) f ≡ f
marks_same c end = refl
marks_same c (con part kids floats rest) = by (same part.id c) (has c kids) (has c floats) refl refl refl (marks_same c kids) (marks_same c floats) (marks_same c rest) where
  by : (a k l : Bool) → same part.id c ≡ a → has c kids ≡ k → has c floats ≡ l → at c marks_word (marks_in c kids) kids ≡ kids → at c marks_word (marks_in c floats) floats ≡ floats → at c marks_word (marks_in c rest) rest ≡ rest → at c marks_word (marks_in c (con part kids floats rest)) (con part kids floats rest) ≡ con part kids floats rest
  by true k l ea ek el p q r = simp ea refl
  by false true l ea ek el p q r =
      let own : marks_in c (con part kids floats rest) ≡ marks_in c kids = simp (ea, ek) refl in
      ap (λ ms. at c marks_word ms (con part kids floats rest)) own ∙ simp (ea, ek) (ap (λ z. con part z floats rest) p)
  by false false true ea ek el p q r =
      let own : marks_in c (con part kids floats rest) ≡ marks_in c floats = simp (ea, ek, el) refl in
      ap (λ ms. at c marks_word ms (con part kids floats rest)) own ∙ simp (ea, ek, el) (ap (λ z. con part kids z rest) q)
  by false false false ea ek el p q r =
      let own : marks_in c (con part kids floats rest) ≡ marks_in c rest = simp (ea, ek, el) refl in
      ap (λ ms. at c marks_word ms (con part kids floats rest)) own ∙ simp (ea, ek, el) (ap (λ z. con part kids floats z) r)

-- a node with the marks that g makes of x and of its own
abbrev pub marks_by : {X : Type 0} → (X → List (List ℕ) → List (List ℕ)) → X → Part → Forest → Forest → Forest → Forest
marks_by g x part kids floats rest = con (record part { marks = g x part.marks }) kids floats rest

-- that is the same as giving it those marks
pub marks_made : {X : Type 0} (g : X → List (List ℕ) → List (List ℕ)) (c : ConId) (x : X) (f : Forest) → at c (marks_by g) x f ≡ at c marks_word (g x (marks_in c f)) f
marks_made g c x end = refl
marks_made g c x (con part kids floats rest) = by (same part.id c) (has c kids) (has c floats) refl refl refl (marks_made g c x kids) (marks_made g c x floats) (marks_made g c x rest) where
  by : (a k l : Bool) → same part.id c ≡ a → has c kids ≡ k → has c floats ≡ l → at c (marks_by g) x kids ≡ at c marks_word (g x (marks_in c kids)) kids → at c (marks_by g) x floats ≡ at c marks_word (g x (marks_in c floats)) floats → at c (marks_by g) x rest ≡ at c marks_word (g x (marks_in c rest)) rest → at c (marks_by g) x (con part kids floats rest) ≡ at c marks_word (g x (marks_in c (con part kids floats rest))) (con part kids floats rest)
  by true k l ea ek el p q r = simp ea refl
  by false true l ea ek el p q r =
      let own : marks_in c (con part kids floats rest) ≡ marks_in c kids = simp (ea, ek) refl in
      let there : at c (marks_by g) x (con part kids floats rest) ≡ con part (at c (marks_by g) x kids) floats rest = simp (ea, ek) refl in
      let here : at c marks_word (g x (marks_in c kids)) (con part kids floats rest) ≡ con part (at c marks_word (g x (marks_in c kids)) kids) floats rest = simp (ea, ek) refl in
      there ∙ ap (λ z. con part z floats rest) p ∙ sym here ∙ ap (λ ms. at c marks_word (g x ms) (con part kids floats rest)) (sym own)
  by false false true ea ek el p q r =
      let own : marks_in c (con part kids floats rest) ≡ marks_in c floats = simp (ea, ek, el) refl in
      let there : at c (marks_by g) x (con part kids floats rest) ≡ con part kids (at c (marks_by g) x floats) rest = simp (ea, ek, el) refl in
      let here : at c marks_word (g x (marks_in c floats)) (con part kids floats rest) ≡ con part kids (at c marks_word (g x (marks_in c floats)) floats) rest = simp (ea, ek, el) refl in
      there ∙ ap (λ z. con part kids z rest) q ∙ sym here ∙ ap (λ ms. at c marks_word (g x ms) (con part kids floats rest)) (sym own)
  by false false false ea ek el p q r =
      let own : marks_in c (con part kids floats rest) ≡ marks_in c rest = simp (ea, ek, el) refl in
      let there : at c (marks_by g) x (con part kids floats rest) ≡ con part kids floats (at c (marks_by g) x rest) = simp (ea, ek, el) refl in
      let here : at c marks_word (g x (marks_in c rest)) (con part kids floats rest) ≡ con part kids floats (at c marks_word (g x (marks_in c rest)) rest) = simp (ea, ek, el) refl in
      there ∙ ap (λ z. con part kids floats z) r ∙ sym here ∙ ap (λ ms. at c marks_word (g x ms) (con part kids floats rest)) (sym own)

-- taking one off gives the others
pub unmarked_marks : (c : ConId) (n : List ℕ) (f : Forest) → at c unmark_word n f ≡ at c marks_word (other_marks n (marks_in c f)) f
unmarked_marks c n f = marks_made other_marks c n f

-- keeping one gives that one alone
pub kept_marks : (c : ConId) (kept : Option (List ℕ)) (f : Forest) → at c keep_word kept f ≡ at c marks_word (only_mark kept (marks_in c f)) f
kept_marks c kept f = marks_made only_mark c kept f

-- ---- a mark taken off all nodes but one

part_off_id : (keep : Option ConId) (n : List ℕ) (part : Part) → (part_off keep n part).id ≡ part.id
part_off_id keep n part = by (is_id part.id keep) where
  by : (b : Bool) → (cond b part (record part { marks = other_marks n part.marks })).id ≡ part.id
  by true = refl
  by false = refl

pub has_off : (i : ConId) (keep : Option ConId) (n : List ℕ) (f : Forest) → has i (taken_off keep n f) ≡ has i f
has_off i keep n end = refl
has_off i keep n (con part kids floats rest) = rw (part_off_id keep n part, has_off i keep n kids, has_off i keep n floats, has_off i keep n rest) refl

-- other marks of the one that is kept
pub off_marks : (c : ConId) (n : List ℕ) (new : List (List ℕ)) (f : Forest) → taken_off (Some c) n (at c marks_word new f) ≡ at c marks_word new (taken_off (Some c) n f)
off_marks c n new end = refl
off_marks c n new (con part kids floats rest) = by (same part.id c) (has c kids) (has c floats) refl refl refl (off_marks c n new kids) (off_marks c n new floats) (off_marks c n new rest) where
  by : (a k l : Bool) → same part.id c ≡ a → has c kids ≡ k → has c floats ≡ l → taken_off (Some c) n (at c marks_word new kids) ≡ at c marks_word new (taken_off (Some c) n kids) → taken_off (Some c) n (at c marks_word new floats) ≡ at c marks_word new (taken_off (Some c) n floats) → taken_off (Some c) n (at c marks_word new rest) ≡ at c marks_word new (taken_off (Some c) n rest) → taken_off (Some c) n (at c marks_word new (con part kids floats rest)) ≡ at c marks_word new (taken_off (Some c) n (con part kids floats rest))
  by true k l ea ek el p q r = simp ea refl
  by false true l ea ek el p q r = simp (ea, has_off c (Some c) n kids, ek) (ap (λ z. con (record part { marks = other_marks n part.marks }) z (taken_off (Some c) n floats) (taken_off (Some c) n rest)) p)
  by false false true ea ek el p q r = simp (ea, has_off c (Some c) n kids, ek, has_off c (Some c) n floats, el) (ap (λ z. con (record part { marks = other_marks n part.marks }) (taken_off (Some c) n kids) z (taken_off (Some c) n rest)) q)
  by false false false ea ek el p q r = simp (ea, has_off c (Some c) n kids, ek, has_off c (Some c) n floats, el) (ap (λ z. con (record part { marks = other_marks n part.marks }) (taken_off (Some c) n kids) (taken_off (Some c) n floats) z) r)

pub marks_off : (c : ConId) (n : List ℕ) (f : Forest) → marks_in c (taken_off (Some c) n f) ≡ marks_in c f
marks_off c n end = refl
marks_off c n (con part kids floats rest) = by (same part.id c) (has c kids) (has c floats) refl refl refl (marks_off c n kids) (marks_off c n floats) (marks_off c n rest) where
  by : (a k l : Bool) → same part.id c ≡ a → has c kids ≡ k → has c floats ≡ l → marks_in c (taken_off (Some c) n kids) ≡ marks_in c kids → marks_in c (taken_off (Some c) n floats) ≡ marks_in c floats → marks_in c (taken_off (Some c) n rest) ≡ marks_in c rest → marks_in c (taken_off (Some c) n (con part kids floats rest)) ≡ marks_in c (con part kids floats rest)
  by true k l ea ek el p q r = simp ea refl
  by false true l ea ek el p q r = simp (ea, has_off c (Some c) n kids, ek) p
  by false false true ea ek el p q r = simp (ea, has_off c (Some c) n kids, ek, has_off c (Some c) n floats, el) q
  by false false false ea ek el p q r = simp (ea, has_off c (Some c) n kids, ek, has_off c (Some c) n floats, el) r

-- ---- what a node is

pub kind_marks : {A : Type 0} (of : NodeKind → Option A) (c : ConId) (new : List (List ℕ)) (f : Forest) → kind_of of c (at c marks_word new f) ≡ kind_of of c f
kind_marks of c new end = refl
kind_marks of c new (con part kids floats rest) = by (same part.id c) (has c kids) (has c floats) refl refl refl (kind_marks of c new kids) (kind_marks of c new floats) (kind_marks of c new rest) where
  by : (a k l : Bool) → same part.id c ≡ a → has c kids ≡ k → has c floats ≡ l → kind_of of c (at c marks_word new kids) ≡ kind_of of c kids → kind_of of c (at c marks_word new floats) ≡ kind_of of c floats
      → kind_of of c (at c marks_word new rest) ≡ kind_of of c rest → kind_of of c (at c marks_word new (con part kids floats rest)) ≡ kind_of of c (con part kids floats rest)
  by true k l ea ek el p q r = simp ea refl
  by false true l ea ek el p q r = simp (ea, ek, has_marks c c new kids) p
  by false false true ea ek el p q r = simp (ea, ek, el, has_marks c c new floats) q
  by false false false ea ek el p q r = simp (ea, ek, el) r

pub kind_off : {A : Type 0} (of : NodeKind → Option A) (c : ConId) (n : List ℕ) (f : Forest) → kind_of of c (taken_off (Some c) n f) ≡ kind_of of c f
kind_off of c n end = refl
kind_off of c n (con part kids floats rest) = by (same part.id c) (has c kids) (has c floats) refl refl refl (kind_off of c n kids) (kind_off of c n floats) (kind_off of c n rest) where
  by : (a k l : Bool) → same part.id c ≡ a → has c kids ≡ k → has c floats ≡ l → kind_of of c (taken_off (Some c) n kids) ≡ kind_of of c kids → kind_of of c (taken_off (Some c) n floats) ≡ kind_of of c floats
      → kind_of of c (taken_off (Some c) n rest) ≡ kind_of of c rest → kind_of of c (taken_off (Some c) n (con part kids floats rest)) ≡ kind_of of c (con part kids floats rest)
  by true k l ea ek el p q r = simp ea refl
  by false true l ea ek el p q r = simp (ea, has_off c (Some c) n kids, ek) p
  by false false true ea ek el p q r = simp (ea, has_off c (Some c) n kids, ek, has_off c (Some c) n floats, el) q
  by false false false ea ek el p q r = simp (ea, has_off c (Some c) n kids, ek, has_off c (Some c) n floats, el) r
