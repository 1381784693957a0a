-- Containers without floating windows stay without them, word by word.
use Rattle.std.proofs.Common.{◌≡◌, ℕ, Bool, true, false, cond, List, Option, None, refl, ap}
use Rattle.wm_base.specs.declared.geometry.Rect.{Rect}
use Rattle.wm_base.specs.declared.ids.ConId.{ConId}
use Rattle.wm_floats.specs.Fullscreen.{unfull_but}
use Rattle.wm_focus.specs.Marks.{bare, taken_off}
use Rattle.wm_opens.specs.Opens.{HoldsNone, IsTidy}
use Rattle.wm_forest.proofs.ChangeLemmas.{by_change}
use Rattle.wm_forest.specs.Sticky.{is_sticky, loose, loosened, sticky}
use Rattle.wm_forest.specs.Change.{append, arriving, at, hole, in_place, is_id, is_vacant, placed, raised_in, replaced, settled_row, shown_of, to_end, unfull, unfull_kind, without}
use Rattle.wm_forest.specs.Counts.{but}
use Rattle.wm_forest.specs.declared.kind.KindEdit.{KindEdit}
use Rattle.wm_forest.specs.declared.kind.KindEdit.TheVariants as edits
use Rattle.wm_forest.specs.declared.part.NodeKind.{NodeKind}
use Rattle.wm_forest.specs.declared.part.NodeKind.TheVariants.{Root, Output, Space, Con}
use Rattle.wm_forest.specs.declared.part.Part.{Part}
use Rattle.wm_forest.specs.declared.place.Place.{Place}
use Rattle.wm_forest.specs.declared.place.Place.TheVariants.{After, Before, First, Last, Float, Scratchpad}
use Rattle.wm_forest.specs.Forest.{Forest, end, con}
use Rattle.wm_forest.specs.Kinds.{changed, kind_changed}
use Rattle.wm_forest.specs.Look.{con_kind, first_alone, first_floats, first_kids, first_part, in_row, kind_by, kind_of, node_in, only, same}
use Rattle.wm_forest.specs.Exchange.{exchanged_nodes, holed}
use Rattle.wm_forest.specs.Marks.{marks_word, other_marks, unmark_word}
use Rattle.wm_tree.specs.Move.{wrap_word}
use Rattle.wm_forest.specs.Place.{put, put_word}

holds_as : (kind : NodeKind) (a b : Forest) → (a ≡ end → b ≡ end) → HoldsNone kind a → HoldsNone kind b
holds_as (Root c) a b f h = tt
holds_as (Output o) a b f h = tt
holds_as (Space s) a b f h = tt
holds_as (Con c) a b f h = f h

pub holds_free : (kind : NodeKind) (floats : Forest) → con_kind kind ≡ None → HoldsNone kind floats
holds_free (Root c) floats e = tt
holds_free (Output o) floats e = tt
holds_free (Space s) floats e = tt
holds_free (Con c) floats e = cc

-- ---- a change at one node

module _ {X : Type 0} (c : ConId) (f : X → Part → Forest → Forest → Forest → Forest) (x : X) where
  pub tidy_at : ((part : Part) (kids floats rest : Forest) → IsTidy (con part kids floats rest) → IsTidy (f x part kids floats rest)) → (forest : Forest) → IsTidy forest → IsTidy (at c f x forest)
  tidy_at here forest = (whole forest).0
    where
      whole : (g : Forest) → (IsTidy g → IsTidy (at c f x g)) × (g ≡ end → at c f x g ≡ end)
      whole =
          by_change c f x (λ old new found. (IsTidy old → IsTidy new) × (old ≡ end → new ≡ end)) (λ h. h, λ e. e)
          (λ part kids floats rest. (here part kids floats rest, λ e. cc))
          (λ part kids floats rest new found h. (λ p. (p.0, h.0 p.1, p.2, p.3), λ e. cc))
          (λ part kids floats rest new found h. (λ p. (holds_as part.kind floats new h.1 p.0, p.1, h.0 p.2, p.3), λ e. cc))
          (λ part kids floats rest new found h. (λ p. (p.0, p.1, p.2, h.0 p.3), λ e. cc))

  -- the same at a node that is no container
  pub tidy_free : ((part : Part) (kids floats rest : Forest) → con_kind part.kind ≡ None → IsTidy (con part kids floats rest) → IsTidy (f x part kids floats rest)) → (forest : Forest)
      → kind_of con_kind c forest ≡ None → IsTidy forest → IsTidy (at c f x forest)
  tidy_free here forest free = (whole forest).0 free
    where
      whole : (g : Forest) → (kind_of con_kind c g ≡ None → IsTidy g → IsTidy (at c f x g)) × (g ≡ end → at c f x g ≡ end)
      whole =
          by_change c f x (λ old new found. (kind_by con_kind (first_part found) ≡ None → IsTidy old → IsTidy new) × (old ≡ end → new ≡ end)) (λ k h. h, λ e. e)
          (λ part kids floats rest. (here part kids floats rest, λ e. cc))
          (λ part kids floats rest new found h. (λ k p. (p.0, h.0 k p.1, p.2, p.3), λ e. cc))
          (λ part kids floats rest new found h. (λ k p. (holds_as part.kind floats new h.1 p.0, p.1, h.0 k p.2, p.3), λ e. cc))
          (λ part kids floats rest new found h. (λ k p. (p.0, p.1, p.2, h.0 k p.3), λ e. cc))

-- ---- rows

pub tidy_append : (a b : Forest) → IsTidy a → IsTidy b → IsTidy (append a b)
tidy_append end b p q = q
tidy_append (con part kids floats rest) b p q = (p.0, p.1, p.2, tidy_append rest b p.3 q)

pub tidy_only : (c : ConId) (f : Forest) → IsTidy f → IsTidy (only c f)
tidy_only c =
    by_change c (λ row part kids floats rest. rest) end (λ old new found. IsTidy old → IsTidy found) (λ h. h)
    (λ part kids floats rest p. (p.0, p.1, p.2, tt))
    (λ part kids floats rest new found h p. h p.1)
    (λ part kids floats rest new found h p. h p.2)
    (λ part kids floats rest new found h p. h p.3)

pub tidy_without : (c : ConId) (f : Forest) → IsTidy f → IsTidy (without c f)
tidy_without c f = tidy_at c (λ row part kids floats rest. rest) end (λ part kids floats rest p. p.3) f

pub tidy_first_kids : (f : Forest) → IsTidy f → IsTidy (first_kids f)
tidy_first_kids end p = p
tidy_first_kids (con part kids floats rest) p = p.1

pub tidy_first_floats : (f : Forest) → IsTidy f → IsTidy (first_floats f)
tidy_first_floats end p = p
tidy_first_floats (con part kids floats rest) p = p.2

-- ---- kinds that change

holds_unfull : (kind : NodeKind) (floats : Forest) → HoldsNone kind floats → HoldsNone (unfull_kind kind) floats
holds_unfull (Root c) floats h = h
holds_unfull (Output o) floats h = h
holds_unfull (Space s) floats h = h
holds_unfull (Con c) floats h = h

holds_placed : (share : ℕ) (rect : Option Rect) (kind : NodeKind) (floats : Forest) → HoldsNone kind floats → HoldsNone (placed share rect kind) floats
holds_placed share rect (Root c) floats h = h
holds_placed share rect (Output o) floats h = h
holds_placed share rect (Space s) floats h = h
holds_placed share rect (Con c) floats h = h

holds_changed : (edit : KindEdit) (kind : NodeKind) (floats : Forest) → HoldsNone kind floats → HoldsNone (changed edit kind) floats
holds_changed edit (Root c) floats h = by_edit edit
  where
    by_edit : (e : KindEdit) → HoldsNone (changed e (Root c)) floats
    by_edit (edits.Current o) = tt
    by_edit other = tt
holds_changed edit (Output o) floats h = by_edit edit
  where
    by_edit : (e : KindEdit) → HoldsNone (changed e (Output o)) floats
    by_edit (edits.Shown w) = tt
    by_edit other = tt
holds_changed edit (Space s) floats h = by_edit edit
  where
    by_edit : (e : KindEdit) → HoldsNone (changed e (Space s)) floats
    by_edit (edits.Name n) = tt
    by_edit other = tt
holds_changed edit (Con c) floats h = by_edit edit
  where
    by_edit : (e : KindEdit) → HoldsNone (changed e (Con c)) floats
    by_edit (edits.Share s) = h
    by_edit other = h

holds_if : (b : Bool) (part : Part) (floats new : Forest) → (floats ≡ end → new ≡ end) → HoldsNone part.kind floats → HoldsNone (cond b part (record part { kind = unfull_kind part.kind })).kind new
holds_if true part floats new f h = holds_as part.kind floats new f h
holds_if false part floats new f h = holds_unfull part.kind new (holds_as part.kind floats new f h)

pub tidy_unfull : (c : ConId) (f : Forest) → IsTidy f → IsTidy (unfull c f)
tidy_unfull c end p = p
tidy_unfull c (con part kids floats rest) p = (holds_if (same part.id c) part floats (unfull c floats) (λ e. ap (unfull c) e) p.0, tidy_unfull c kids p.1, tidy_unfull c floats p.2, tidy_unfull c rest p.3)

pub tidy_arriving : (share : ℕ) (rect : Option Rect) (away : Bool) (f : Forest) → IsTidy f → IsTidy (arriving share rect away f)
tidy_arriving share rect away end p = p
tidy_arriving share rect true (con part kids floats rest) p = (
  holds_unfull (placed share rect part.kind) (unfull (record { 0 = 0 }) floats) (holds_placed share rect part.kind (unfull (record { 0 = 0 }) floats) (holds_as part.kind floats (unfull (record { 0 = 0 }) floats) (λ e. ap (unfull (record { 0 = 0 })) e) p.0)),
  tidy_unfull (record { 0 = 0 }) kids p.1,
  tidy_unfull (record { 0 = 0 }) floats p.2,
  p.3,
)
tidy_arriving share rect false (con part kids floats rest) p = (holds_placed share rect part.kind floats p.0, p.1, p.2, p.3)

pub tidy_edited : (c : ConId) (edit : KindEdit) (f : Forest) → IsTidy f → IsTidy (at c kind_changed edit f)
tidy_edited c edit f = tidy_at c kind_changed edit (λ part kids floats rest p. (holds_changed edit part.kind floats p.0, p.1, p.2, p.3)) f

-- ---- marks

pub tidy_with_marks : (c : ConId) (marks : List (List ℕ)) (f : Forest) → IsTidy f → IsTidy (at c marks_word marks f)
tidy_with_marks c marks f = tidy_at c marks_word marks (λ part kids floats rest p. p) f

pub tidy_unmarked : (c : ConId) (n : List ℕ) (f : Forest) → IsTidy f → IsTidy (at c unmark_word n f)
tidy_unmarked c n f = tidy_at c unmark_word n (λ part kids floats rest p. p) f

holds_off : (b : Bool) (marks : List (List ℕ)) (part : Part) (floats new : Forest) → (floats ≡ end → new ≡ end) → HoldsNone part.kind floats → HoldsNone (cond b part (record part { marks = marks })).kind new
holds_off true marks part floats new f h = holds_as part.kind floats new f h
holds_off false marks part floats new f h = holds_as part.kind floats new f h

pub tidy_taken_off : (keep : Option ConId) (n : List ℕ) (f : Forest) → IsTidy f → IsTidy (taken_off keep n f)
tidy_taken_off keep n end p = p
tidy_taken_off keep n (con part kids floats rest) p =
    (holds_off (is_id part.id keep) (other_marks n part.marks) part floats (taken_off keep n floats) (λ e. ap (taken_off keep n) e) p.0, tidy_taken_off keep n kids p.1, tidy_taken_off keep n floats p.2, tidy_taken_off keep n rest p.3)

pub tidy_bare : (f : Forest) → IsTidy f → IsTidy (bare f)
tidy_bare end p = p
tidy_bare (con part kids floats rest) p = (holds_as part.kind floats (bare floats) (λ e. ap bare e) p.0, tidy_bare kids p.1, tidy_bare floats p.2, tidy_bare rest p.3)

-- ---- raising

tidy_but : (c : ConId) (f : Forest) → IsTidy f → IsTidy (but c f)
tidy_but c end p = p
tidy_but c (con part kids floats rest) p = step (same part.id c) (tidy_but c rest p.3)
  where
    step : (b : Bool) → IsTidy (but c rest) → IsTidy (cond b rest (con part kids floats (but c rest)))
    step true q = p.3
    step false q = (p.0, p.1, p.2, q)

tidy_node_in : (c : ConId) (f : Forest) → IsTidy f → IsTidy (first_alone (node_in c f))
tidy_node_in c end p = p
tidy_node_in c (con part kids floats rest) p = step (same part.id c) (tidy_node_in c rest p.3)
  where
    step : (b : Bool) → IsTidy (first_alone (node_in c rest)) → IsTidy (first_alone (cond b (con part kids floats rest) (node_in c rest)))
    step true q = (p.0, p.1, p.2, tt)
    step false q = q

tidy_to_end : (c : ConId) (f : Forest) → IsTidy f → IsTidy (to_end c f)
tidy_to_end c f p = step (in_row c f)
  where
    step : (b : Bool) → IsTidy (cond b (append (but c f) (first_alone (node_in c f))) f)
    step true = tidy_append (but c f) (first_alone (node_in c f)) (tidy_but c f p) (tidy_node_in c f p)
    step false = p

pub tidy_raised_in : (w c : ConId) (f : Forest) → IsTidy f → IsTidy (at w raised_in c f)
tidy_raised_in w c f =
    tidy_at w raised_in c (λ part kids floats rest p.
    (holds_as part.kind floats (to_end c (unfull c floats)) (λ e. ap (λ z. to_end c (unfull c z)) e) p.0, tidy_unfull c kids p.1, tidy_to_end c (unfull c floats) (tidy_unfull c floats p.2), p.3)) f

pub tidy_unfull_but : (w c : ConId) (f : Forest) → IsTidy f → IsTidy (at w unfull_but c f)
tidy_unfull_but w c f =
    tidy_at w unfull_but c (λ part kids floats rest p. (holds_as part.kind floats (unfull c floats) (λ e. ap (unfull c) e) p.0, tidy_unfull c kids p.1, tidy_unfull c floats p.2, p.3)) f

-- ---- putting in

-- where the place is among floating windows, no container holds them
abbrev pub IsFreeAt : Place → Forest → Type 0
IsFreeAt (After c) f = Unit {0}
IsFreeAt (Before c) f = Unit {0}
IsFreeAt (First c) f = Unit {0}
IsFreeAt (Last c) f = Unit {0}
IsFreeAt (Float w r) f = kind_of con_kind w f ≡ None
IsFreeAt (Scratchpad r) f = kind_of con_kind (record { 0 = 1 }) f ≡ None

pub tidy_put : (p : Place) (row f : Forest) → IsFreeAt p f → IsTidy row → IsTidy f → IsTidy (put p row f)
tidy_put (After c) row f free q = tidy_at c (put_word (After c)) row (λ part kids floats rest p. (p.0, p.1, p.2, tidy_append row rest q p.3)) f
tidy_put (Before c) row f free q = tidy_at c (put_word (Before c)) row (λ part kids floats rest p. tidy_append row (con part kids floats rest) q p) f
tidy_put (First c) row f free q = tidy_at c (put_word (First c)) row (λ part kids floats rest p. (p.0, tidy_append row kids q p.1, p.2, p.3)) f
tidy_put (Last c) row f free q = tidy_at c (put_word (Last c)) row (λ part kids floats rest p. (p.0, tidy_append kids row p.1 q, p.2, p.3)) f
tidy_put (Float w r) row f free q =
    tidy_free w (put_word (Float w r)) row (λ part kids floats rest k p. (holds_free part.kind (append floats row) k, p.1, tidy_append floats row p.2 q, p.3)) f free
tidy_put (Scratchpad r) row f free q =
    tidy_free (record { 0 = 1 }) (put_word (Scratchpad r)) row (λ part kids floats rest k p. (holds_free part.kind (append floats row) k, p.1, tidy_append floats row p.2 q, p.3)) f free

-- ---- exchanging and wrapping

pub tidy_replaced : (c : ConId) (node f : Forest) → IsTidy node → IsTidy f → IsTidy (replaced c node f)
tidy_replaced c end f q = tidy_at c in_place end (λ part kids floats rest p. p) f
tidy_replaced c (con part kids floats rest) f q = tidy_at c in_place (con part kids floats rest) (λ pt ks fs rs p. (q.0, q.1, q.2, p.3)) f

pub tidy_exchanged : (a b : ConId) (sa sb : ℕ) (away : Bool) (f : Forest) → IsTidy f → IsTidy (exchanged_nodes a b sa sb away f)
tidy_exchanged a b sa sb away f p =
    let with_hole = tidy_replaced a hole f (tt, tt, tt, tt) p in
    let half = tidy_replaced b (arriving sb None away (only a f)) (holed a f) (tidy_arriving sb None away (only a f) (tidy_only a f p)) with_hole in
    tidy_replaced (record { 0 = 0 }) (arriving sa None away (only b (holed a f))) (replaced b (arriving sb None away (only a f)) (holed a f))
    (tidy_arriving sa None away (only b (holed a f)) (tidy_only b (holed a f) with_hole)) half

pub tidy_wrapped : (c : ConId) (split : Part) (f : Forest) → IsTidy f → IsTidy (at c wrap_word split f)
tidy_wrapped c split f = tidy_at c wrap_word split (λ part kids floats rest p. (holds_end split.kind, (holds_changed (edits.Share 65536) part.kind floats p.0, p.1, p.2, tt), tt, p.3)) f
  where
    holds_end : (kind : NodeKind) → HoldsNone kind end
    holds_end (Root d) = tt
    holds_end (Output o) = tt
    holds_end (Space s) = tt
    holds_end (Con d) = refl

-- ---- sticky windows

tidy_loose : (f : Forest) → IsTidy f → IsTidy (loose f)
tidy_loose end p = p
tidy_loose (con part kids floats rest) p = step (is_sticky part.kind) (tidy_loose rest p.3)
  where
    step : (b : Bool) → IsTidy (loose rest) → IsTidy (cond b (loose rest) (con part kids floats (loose rest)))
    step true q = q
    step false q = (p.0, p.1, p.2, q)

pub tidy_sticky : (f : Forest) → IsTidy f → IsTidy (sticky f)
tidy_sticky end p = p
tidy_sticky (con part kids floats rest) p = step (is_sticky part.kind) (tidy_sticky rest p.3)
  where
    step : (b : Bool) → IsTidy (sticky rest) → IsTidy (cond b (con part kids floats (sticky rest)) (sticky rest))
    step true q = (p.0, p.1, p.2, q)
    step false q = q

pub tidy_loosened : (v : ConId) (f : Forest) → IsTidy f → IsTidy (at v loosened end f)
tidy_loosened v f = tidy_at v loosened end (λ part kids floats rest p. (holds_as part.kind floats (loose floats) (λ e. ap loose e) p.0, p.1, tidy_loose floats p.2, p.3)) f

-- ---- settling

pub tidy_settled : (shown : Option ConId) (f : Forest) → IsTidy f → IsTidy (settled_row shown f)
tidy_settled shown end p = p
tidy_settled shown (con part kids floats rest) p =
    step (is_vacant shown part.id part.kind (settled_row (shown_of part.kind) kids) floats) (tidy_settled (shown_of part.kind) kids p.1) (tidy_settled shown rest p.3)
  where
    step : (b : Bool) → IsTidy (settled_row (shown_of part.kind) kids) → IsTidy (settled_row shown rest)
        → IsTidy (cond b (settled_row shown rest) (con part (settled_row (shown_of part.kind) kids) floats (settled_row shown rest)))
    step true k q = q
    step false k q = (p.0, k, p.2, q)
