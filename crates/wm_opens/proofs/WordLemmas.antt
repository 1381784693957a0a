-- What each word of a tree keeps of a measure, and which let it only fall.
use Rattle.std.proofs.Common.{◌≡◌, ℕ, ◌+◌, ◌≤◌, Bool, true, false, cond, List, [], Option, None, Some, refl, ap, arith}
use Rattle.wm_base.specs.declared.geometry.Rect.{Rect}
use Rattle.wm_base.specs.declared.ids.ConId.{ConId}
use Rattle.wm_base.specs.declared.plan.Layout.{Layout}
use Rattle.wm_base.specs.declared.plan.OutputPlan.{OutputPlan}
use Rattle.wm_focus.specs.Marks.{bare, part_off, taken_off}
use Rattle.wm_forest.specs.Change.{is_window_kind}
use Rattle.wm_opens.proofs.MeasureLemmas.{Fewer, IsFresh, IsMeasure, fewer_refl, fewer_same, fewer_trans}
use Rattle.wm_opens.specs.Opens.{is_fill}
use Rattle.wm_forest.proofs.ChangeLemmas.{by_change}
use Rattle.wm_forest.proofs.CountLemmas.{count-append, count-same, count-settled, count-without, found_counted}
use Rattle.wm_tree.proofs.RaiseLemmas.{count-raised, count-unfull}
use Rattle.wm_tree.specs.Along.{gone_along, nowhere}
use Rattle.wm_forest.specs.Sticky.{is_sticky, loose, loosened, sticky}
use Rattle.wm_forest.specs.Change.{arriving, at, hole, in_place, is_end, is_id, nobody, placed, replaced, unfull, without}
use Rattle.wm_forest.specs.Counts.{count}
use Rattle.wm_forest.specs.declared.kind.KindEdit.{KindEdit}
use Rattle.wm_forest.specs.declared.kind.KindEdit.TheVariants as edits
use Rattle.wm_forest.specs.declared.part.Part.{Part}
use Rattle.wm_forest.specs.declared.place.NewCon.{NewCon}
use Rattle.wm_forest.specs.declared.place.NewCon.TheVariants as new
use Rattle.wm_forest.specs.declared.place.Place.{Place}
use Rattle.wm_forest.specs.declared.place.Place.TheVariants.{After, Before, First, Last, Float, Scratchpad}
use Rattle.wm_forest.specs.Forest.{Forest, end, con}
use Rattle.wm_forest.specs.Kinds.{kind_changed}
use Rattle.wm_forest.specs.Look.{first_floats, first_kids, has, only, same}
use Rattle.wm_tree.specs.Move.{apart, exchanged, moved, moved_share, share_in, unmarked, with_marks, wrap_word, wrapped}
use Rattle.wm_forest.specs.Exchange.{exchanged_nodes, holed}
use Rattle.wm_forest.specs.Marks.{marks_word, other_marks, unmark_word}
use Rattle.wm_tree.specs.Outputs.{handed_on, left_to, new_output, new_space, space_moved, with_output, with_space, without_output, yielded}
use Rattle.wm_forest.specs.Taking.{heir, taking_in}
use Rattle.wm_forest.specs.Place.{named, new_kind, new_part, put, put_word, rect_at, share_at}
use Rattle.wm_forest.specs.SoundRow.{tally}
use Rattle.wm_tree.specs.TreeValue.{TreeValue, current, output_part, space_part, workspace_of}
use Rattle.wm_forest.specs.RootId.{id, root}
use Rattle.wm_tree.specs.Words.{attached, detached, edited, settled, with_raised}

-- a forest in which a node is counted is not empty
filled_by : (c : ConId) (f : Forest) → 1 ≤ tally c f → is_end f ≡ false
filled_by c end h = absurd (omega arith)
filled_by c (con part kids floats rest) h = refl

filled : (c : ConId) (f : Forest) → has c f ≡ true → is_end (only c f) ≡ false
filled c f h = filled_by c (only c f) (found_counted c f h)

filled_arriving : (share : ℕ) (rect : Option Rect) (away : Bool) (f : Forest) → is_end f ≡ false → is_end (arriving share rect away f) ≡ false
filled_arriving share rect away end h = h
filled_arriving share rect true (con part kids floats rest) h = refl
filled_arriving share rect false (con part kids floats rest) h = refl

module _ (m : Part → ℕ) where
  put_here : (p : Place) (row : Forest) (part : Part) (kids floats rest : Forest) → count m (put_word p row part kids floats rest) ≡ count m (con part kids floats rest) + count m row
  put_here (After c) row part kids floats rest = omega (arith, count-append m row rest)
  put_here (Before c) row part kids floats rest = omega (arith, count-append m row (con part kids floats rest))
  put_here (First c) row part kids floats rest = omega (arith, count-append m row kids)
  put_here (Last c) row part kids floats rest = omega (arith, count-append m kids row)
  put_here (Float w r) row part kids floats rest = omega (arith, count-append m floats row)
  put_here (Scratchpad r) row part kids floats rest = omega (arith, count-append m floats row)

  -- putting a row adds at most what the row counts
  pub put_most : (p : Place) (row f : Forest) → count m (put p row f) ≤ count m f + count m row
  put_most p row =
      by_change (named p) (put_word p) row (λ old now found. count m now ≤ count m old + count m row) (omega arith)
      (λ part kids floats rest. omega (arith, put_here p row part kids floats rest))
      (λ part kids floats rest now found h. omega (arith, h))
      (λ part kids floats rest now found h. omega (arith, h))
      (λ part kids floats rest now found h. omega (arith, h))

  -- a row that counts nothing adds nothing, wherever it is put
  pub put_none : (p : Place) (row f : Forest) → count m row ≡ 0 → count m (put p row f) ≡ count m f
  put_none p row f none = count-same m (named p) (put_word p) row (λ part kids floats rest. omega (arith, none, put_here p row part kids floats rest)) f

  held_by : (f : Forest) → count m (first_kids f) + count m (first_floats f) ≤ count m f
  held_by end = omega arith
  held_by (con part kids floats rest) = omega arith

  -- what a node holds that comes into another one is added at most
  taking_most : (h : ConId) (gone f : Forest) → count m (at h taking_in gone f) ≤ count m f + count m gone
  taking_most h gone =
      by_change h taking_in gone (λ old now found. count m now ≤ count m old + count m gone) (omega arith)
      (λ part kids floats rest. omega (arith, held_by gone, count-append m kids (first_kids gone), count-append m floats (first_floats gone)))
      (λ part kids floats rest now found e. omega (arith, e))
      (λ part kids floats rest now found e. omega (arith, e))
      (λ part kids floats rest now found e. omega (arith, e))

  -- a node in the place of another one
  in_place_of : (c : ConId) (part : Part) (kids floats rest f : Forest) → count m (replaced c (con part kids floats rest) f) + count m (only c f) ≤ count m f + count m (con part kids floats rest)
  in_place_of c part kids floats rest =
      by_change c in_place (con part kids floats rest) (λ old now found. count m now + count m found ≤ count m old + count m (con part kids floats rest)) (omega arith)
      (λ p ks fs r. omega arith)
      (λ p ks fs r now found h. omega (arith, h))
      (λ p ks fs r now found h. omega (arith, h))
      (λ p ks fs r now found h. omega (arith, h))

  replaced_filled : (c : ConId) (node f : Forest) → is_end node ≡ false → count m (replaced c node f) + count m (only c f) ≤ count m f + count m node
  replaced_filled c end f h = cc
  replaced_filled c (con part kids floats rest) f h = in_place_of c part kids floats rest f

  replaced_most : (c : ConId) (node f : Forest) → count m (replaced c node f) ≤ count m f + count m node
  replaced_most c end f = let e : count m (replaced c end f) ≡ count m f = count-same m c in_place end (λ part kids floats rest. refl) f in omega (arith, e)
  replaced_most c (con part kids floats rest) f = omega (arith, in_place_of c part kids floats rest f)

  loose_step : (b : Bool) (part : Part) (kids floats rest : Forest) → count m (loose rest) + count m (sticky rest) ≡ count m rest
      → count m (cond b (loose rest) (con part kids floats (loose rest))) + count m (cond b (con part kids floats (sticky rest)) (sticky rest)) ≡ count m (con part kids floats rest)
  loose_step true part kids floats rest h = omega (arith, h)
  loose_step false part kids floats rest h = omega (arith, h)

  -- the sticky nodes of a row and the others make the whole
  count-loose : (f : Forest) → count m (loose f) + count m (sticky f) ≡ count m f
  count-loose end = refl
  count-loose (con part kids floats rest) = loose_step (is_sticky part.kind) part kids floats rest (count-loose rest)

  pub count-loosened : (v : ConId) (f : Forest) → count m (at v loosened end f) + count m (sticky (first_floats (only v f))) ≡ count m f
  count-loosened v =
      by_change v loosened end (λ old now found. count m now + count m (sticky (first_floats found)) ≡ count m old) refl
      (λ part kids floats rest. omega (arith, count-loose floats))
      (λ part kids floats rest now found h. omega (arith, h))
      (λ part kids floats rest now found h. omega (arith, h))
      (λ part kids floats rest now found h. omega (arith, h))

module _ (m : Part → ℕ) (k : IsMeasure m) where
  -- ---- words that keep the measure

  pub count-arriving : (share : ℕ) (rect : Option Rect) (away : Bool) (f : Forest) → count m (arriving share rect away f) ≡ count m f
  count-arriving share rect away end = refl
  count-arriving share rect true (con part kids floats rest) =
      omega (arith, k.unfulled (record part { kind = placed share rect part.kind }), k.put share rect part, count-unfull nobody m k.unfulled kids, count-unfull nobody m k.unfulled floats)
  count-arriving share rect false (con part kids floats rest) = omega (arith, k.put share rect part)

  pub count-edited : (c : ConId) (edit : KindEdit) (t : TreeValue) → is_fill edit ≡ false → count m (edited c edit t).nodes ≡ count m t.nodes
  count-edited c edit t h = count-same m c kind_changed edit (λ part kids floats rest. omega (arith, k.edited edit part h)) t.nodes

  pub count-with_raised : (c : ConId) (t : TreeValue) → count m (with_raised c t).nodes ≡ count m t.nodes
  count-with_raised c t = count-raised m k.unfulled c (workspace_of t c) t.nodes

  pub count-with_marks : (c : ConId) (marks : List (List ℕ)) (t : TreeValue) → count m (with_marks c marks t).nodes ≡ count m t.nodes
  count-with_marks c marks t = count-same m c marks_word marks (λ part kids floats rest. omega (arith, k.remarked marks part)) t.nodes

  pub count-unmarked : (c : ConId) (n : List ℕ) (t : TreeValue) → count m (unmarked c n t).nodes ≡ count m t.nodes
  count-unmarked c n t = count-same m c unmark_word n (λ part kids floats rest. omega (arith, k.remarked (other_marks n part.marks) part)) t.nodes

  off : (keep : Option ConId) (n : List ℕ) (part : Part) → m (part_off keep n part) ≡ m part
  off keep n part = step (is_id part.id keep)
    where
      step : (b : Bool) → m (cond b part (record part { marks = other_marks n part.marks })) ≡ m part
      step true = refl
      step false = k.remarked (other_marks n part.marks) part

  pub count-taken_off : (keep : Option ConId) (n : List ℕ) (f : Forest) → count m (taken_off keep n f) ≡ count m f
  count-taken_off keep n end = refl
  count-taken_off keep n (con part kids floats rest) = omega (arith, off keep n part, count-taken_off keep n kids, count-taken_off keep n floats, count-taken_off keep n rest)

  pub count-bare : (f : Forest) → count m (bare f) ≡ count m f
  count-bare end = refl
  count-bare (con part kids floats rest) = omega (arith, k.remarked [] part, count-bare kids, count-bare floats, count-bare rest)

  pub fewer_edited : (c : ConId) (edit : KindEdit) (t : TreeValue) → is_fill edit ≡ false → Fewer m t (edited c edit t)
  fewer_edited c edit t h = fewer_same m t (edited c edit t) refl (omega (arith, count-edited c edit t h))

  pub fewer_raised : (c : ConId) (t : TreeValue) → Fewer m t (with_raised c t)
  fewer_raised c t = fewer_same m t (with_raised c t) refl (omega (arith, count-with_raised c t))

  pub fewer_with_marks : (c : ConId) (marks : List (List ℕ)) (t : TreeValue) → Fewer m t (with_marks c marks t)
  fewer_with_marks c marks t = fewer_same m t (with_marks c marks t) refl (omega (arith, count-with_marks c marks t))

  pub fewer_unmarked : (c : ConId) (n : List ℕ) (t : TreeValue) → Fewer m t (unmarked c n t)
  fewer_unmarked c n t = fewer_same m t (unmarked c n t) refl (omega (arith, count-unmarked c n t))

  -- ---- words that take out and put in

  pub fewer_settled : (t : TreeValue) → Fewer m t (settled t)
  fewer_settled t = fewer_same m t (settled t) refl (count-settled m None t.nodes)

  pub fewer_detached : (c : ConId) (t : TreeValue) → Fewer m t (detached c t)
  fewer_detached c t = fewer_same m t (detached c t) refl (omega (arith, count-without m c t.nodes))

  pub fewer_moved : (c : ConId) (p : Place) (t : TreeValue) → Fewer m t (moved c p t)
  fewer_moved c p t =
      let share : ℕ = moved_share c p t.nodes in
      let away : Bool = apart t c (named p) in
      fewer_same m t (moved c p t) refl
      (omega (arith, put_most m p (arriving share (rect_at p) away (only c t.nodes)) (without c t.nodes), count-arriving share (rect_at p) away (only c t.nodes), count-without m c t.nodes))

  pub fewer_space_moved : (w o : ConId) (t : TreeValue) → Fewer m t (space_moved w o t)
  fewer_space_moved w o t = fewer_same m t (space_moved w o t) refl (omega (arith, put_most m (Last o) (only w t.nodes) (without w t.nodes), count-without m w t.nodes))

  exchanged_count : (a b : ConId) (sa sb : ℕ) (away : Bool) (f : Forest) → has a f ≡ true → count m (exchanged_nodes a b sa sb away f) ≤ count m f
  exchanged_count a b sa sb away f h =
      let first : Forest = arriving sb None away (only a f) in
      let second : Forest = arriving sa None away (only b (holed a f)) in
      let half : Forest = replaced b first (holed a f) in
      omega (
        arith,
        k.hole,
        replaced_filled m a hole f refl,
        replaced_filled m b first (holed a f) (filled_arriving sb None away (only a f) (filled a f h)),
        replaced_most m nobody second half,
        count-arriving sb None away (only a f),
        count-arriving sa None away (only b (holed a f)),
      )

  -- two containers that change places, the first of which is there
  pub fewer_exchanged : (a b : ConId) (t : TreeValue) → has a t.nodes ≡ true → Fewer m t (exchanged a b t)
  fewer_exchanged a b t h = fewer_same m t (exchanged a b t) refl (exchanged_count a b (share_in a t.nodes) (share_in b t.nodes) (apart t a b) t.nodes h)

  pub fewer_along : (v w : ConId) (t : TreeValue) → Fewer m t (gone_along v w t)
  fewer_along v w t =
      let stuck : Forest = sticky (first_floats (only v t.nodes)) in
      fewer_same m t (gone_along v w t) refl
      (omega (arith, put_most m (Float w nowhere) (unfull nobody stuck) (at v loosened end t.nodes), count-unfull nobody m k.unfulled stuck, count-loosened m v t.nodes))

  -- ---- words that make nodes

  -- a container that comes, and is no window
  pub fewer_attached : (p : Place) (newcomer : NewCon) (t : TreeValue) → is_window_kind (new_kind newcomer) ≡ false → Fewer m t (attached p newcomer t)
  fewer_attached p newcomer t none = record { next = omega arith; fewer = fewer }
    where
      part : Part
      part = new_part (id t.next_id) (share_at p t.nodes) t.border (rect_at p) newcomer

      fewer : IsFresh m t.next_id → count m (attached p newcomer t).nodes ≤ count m t.nodes
      fewer f =
          let zero : m part ≡ 0 = f.nothing part (omega arith) (ap (λ b. cond {A = ℕ} b 1 0) none) in
          omega (arith, zero, put_most m p (con part end end end) t.nodes)

  pub fewer_wrapped : (c : ConId) (layout : Layout) (t : TreeValue) → Fewer m t (wrapped c layout t)
  fewer_wrapped c layout t = record { next = omega arith; fewer = fewer }
    where
      split : Part
      split = new_part (id t.next_id) (share_in c t.nodes) t.border None (new.Split layout)

      fewer : IsFresh m t.next_id → count m (wrapped c layout t).nodes ≤ count m t.nodes
      fewer f =
          let none : m split ≡ 0 = f.nothing split (omega arith) refl in
          let same : count m (at c wrap_word split t.nodes) ≡ count m t.nodes =
          count-same m c wrap_word split (λ part kids floats rest. omega (arith, none, k.edited (edits.Share 65536) part refl)) t.nodes in
          omega (arith, same)

  pub fewer_with_space : (o : ConId) (name : List ℕ) (t : TreeValue) → Fewer m t (with_space o name t)
  fewer_with_space o name t = record {
    next = omega arith;
    fewer = λ f.
        let none : m (space_part (id t.next_id) name t.inner t.outer) ≡ 0 = f.nothing (space_part (id t.next_id) name t.inner t.outer) (omega arith) refl in
        omega (arith, none, put_most m (Last o) (new_space (id t.next_id) name t) t.nodes);
  }

  pub fewer_with_output : (plan : OutputPlan) (first : List ℕ) (t : TreeValue) → Fewer m t (with_output plan first t)
  fewer_with_output plan first t = record { next = omega arith; fewer = fewer }
    where
      w : ConId
      w = id (t.next_id + 1)

      fewer : IsFresh m t.next_id → count m (with_output plan first t).nodes ≤ count m t.nodes
      fewer f =
          let none : m (space_part w first t.inner t.outer) ≡ 0 = f.nothing (space_part w first t.inner t.outer) (omega arith) refl in
          let nor : m (output_part (id t.next_id) plan w) ≡ 0 = f.nothing (output_part (id t.next_id) plan w) (omega arith) refl in
          omega (arith, none, nor, put_most m (Last root) (new_output (id t.next_id) plan w first t) t.nodes)

  -- ---- an output that goes

  handed : (o h : ConId) (t : TreeValue) → Fewer m t (handed_on o h t)
  handed o h t = fewer_same m t (handed_on o h t) refl (omega (arith, taking_most m h (only o t.nodes) (without o t.nodes), count-without m o t.nodes))

  yields : (o h : ConId) (t : TreeValue) → Fewer m t (yielded o h t)
  yields o h t = by_test (same (current t) o)
    where
      by_test : (b : Bool) → Fewer m t (cond b (edited root (edits.Current h) t) t)
      by_test true = fewer_edited root (edits.Current h) t refl
      by_test false = fewer_refl m t

  pub fewer_without_output : (o : ConId) (t : TreeValue) → Fewer m t (without_output o t)
  fewer_without_output o t = by_heir (heir o t.nodes)
    where
      by_heir : (h : Option ConId) → Fewer m t (left_to h o t)
      by_heir None = fewer_refl m t
      by_heir (Some h) = fewer_trans m t (yielded o h t) (handed_on o h (yielded o h t)) (yields o h t) (handed o h (yielded o h t))
