-- What the words of a tree leave of a count of outputs or workspaces: none adds to it but a new one and a new name.
use Rattle.std.proofs.Common.{◌≡◌, ℕ, ◌+◌, ◌≤◌, Bool, true, false, cond, List, Option, None, Some, refl, sym, ◌∙◌, arith}
use Rattle.std.specs.Option.{option_map}
use Rattle.wm_base.specs.declared.geometry.Rect.{Rect}
use Rattle.wm_base.specs.declared.ids.ConId.{ConId}
use Rattle.wm_base.specs.declared.plan.Border.{Border}
use Rattle.wm_base.specs.declared.plan.Layout.{Layout}
use Rattle.wm_floats.specs.Floating.{floating_rect, sink_tree, sunk, tiling_place}
use Rattle.wm_floats.specs.Fullscreen.{fullscreen_tree, others_unfull, unfull_but}
use Rattle.wm_floats.specs.Scratchpad.{put_away, to_scratchpad_tree}
use Rattle.wm_floats.specs.Windows.{flag_set, restated, state_of}
use Rattle.wm_focus.specs.Marks.{bare, taken_off}
use Rattle.wm_opens.proofs.WordLemmas.{count-loosened, put_most}
use Rattle.wm_shared.specs.Rects.{rect_of}
use Rattle.wm_forest.proofs.ChangeLemmas.{by_change}
use Rattle.wm_forest.proofs.CountLemmas.{count-append, count-same, count-settled, count-without, found_counted}
use Rattle.wm_forest.specs.Change.{arriving, at, hole, in_place, is_end, is_id, nobody, or_rect, placed, replaced, unfull, unfull_kind, without}
use Rattle.wm_forest.specs.Counts.{count}
use Rattle.wm_forest.specs.declared.kind.KindEdit.{KindEdit}
use Rattle.wm_forest.specs.declared.kind.KindEdit.TheVariants as edits
use Rattle.wm_forest.specs.declared.part.ConPart.{ConPart}
use Rattle.wm_forest.specs.declared.part.ConState.{ConState}
use Rattle.wm_forest.specs.declared.part.NodeKind.{NodeKind}
use Rattle.wm_forest.specs.declared.part.NodeKind.TheVariants.{Root, Output, Space, Con}
use Rattle.wm_forest.specs.declared.part.Part.{Part}
use Rattle.wm_forest.specs.declared.place.NewCon.{NewCon}
use Rattle.wm_forest.specs.declared.place.NewCon.TheVariants as new
use Rattle.wm_forest.specs.declared.place.Place.{Place}
use Rattle.wm_forest.specs.declared.place.Place.TheVariants.{Float, Last, Scratchpad}
use Rattle.wm_forest.specs.Exchange.{exchanged_nodes, holed}
use Rattle.wm_forest.specs.Forest.{Forest, end, con}
use Rattle.wm_forest.specs.Kinds.{changed, kind_changed}
use Rattle.wm_forest.specs.Look.{first_floats, first_kids, has, only, same}
use Rattle.wm_forest.specs.Marks.{marks_word, other_marks, unmark_word}
use Rattle.wm_forest.specs.Place.{named, new_part, rect_at, share_at}
use Rattle.wm_forest.specs.RootId.{id, root}
use Rattle.wm_forest.specs.SoundRow.{tally}
use Rattle.wm_forest.specs.Sticky.{loosened, sticky}
use Rattle.wm_forest.specs.Taking.{heir, taking_in}
use Rattle.wm_tree.proofs.RaiseLemmas.{count-raised, count-unfull}
use Rattle.wm_tree.specs.Along.{gone_along, nowhere}
use Rattle.wm_tree.specs.Move.{apart, exchanged, moved, moved_share, share_in, unmarked, with_marks, wrap_word, wrapped}
use Rattle.wm_tree.specs.Outputs.{handed_on, left_to, space_moved, without_output, yielded}
use Rattle.wm_tree.specs.TreeValue.{TreeValue, current, is_tiled_con, workspace_of}
use Rattle.wm_tree.specs.Words.{attached, detached, edited, settled, with_raised}

-- the change is of a name
abbrev pub is_name : KindEdit → Bool
is_name (edits.Name n) = true
is_name other = false

-- outputs or workspaces are counted, by nothing but what a name changes
pub record IsOfPlaces (w : NodeKind → ℕ) : Type 0 where
  pub root : (c : ConId) → w (Root c) ≡ 0
  pub inner : (c : ConPart) → w (Con c) ≡ 0
  pub edited : (edit : KindEdit) (kind : NodeKind) → is_name edit ≡ false → w (changed edit kind) ≡ w kind

abbrev pub by_kind : (NodeKind → ℕ) → Part → ℕ
by_kind w p = w p.kind

-- a forest in which a node is counted is not empty
filled_by : (c : ConId) (f : Forest) → 1 ≤ tally c f → is_end f ≡ false
filled_by c end h = absurd (omega arith)
filled_by c (con part kids floats rest) h = refl

pub filled : (c : ConId) (f : Forest) → has c f ≡ true → is_end (only c f) ≡ false
filled c f h = filled_by c (only c f) (found_counted c f h)

pub filled_arriving : (share : ℕ) (rect : Option Rect) (away : Bool) (f : Forest) → is_end f ≡ false → is_end (arriving share rect away f) ≡ false
filled_arriving share rect away end h = h
filled_arriving share rect true (con part kids floats rest) h = refl
filled_arriving share rect false (con part kids floats rest) h = refl

-- ---- what is put in

module _ (m : Part → ℕ) where
  held_by : (f : Forest) → count m (first_kids f) + count m (first_floats f) ≤ count m f
  held_by end = omega arith
  held_by (con part kids floats rest) = omega arith

  -- what a node holds that comes into another one is added at most
  pub taking_most : (h : ConId) (gone f : Forest) → count m (at h taking_in gone f) ≤ count m f + count m gone
  taking_most h gone =
      by_change h taking_in gone (λ old now found. count m now ≤ count m old + count m gone) (omega arith)
      (λ part kids floats rest. omega (arith, held_by gone, count-append m kids (first_kids gone), count-append m floats (first_floats gone)))
      (λ part kids floats rest now found e. omega (arith, e))
      (λ part kids floats rest now found e. omega (arith, e))
      (λ part kids floats rest now found e. omega (arith, e))

  -- a node in the place of another one
  in_place_of : (c : ConId) (part : Part) (kids floats rest f : Forest) → count m (replaced c (con part kids floats rest) f) + count m (only c f) ≤ count m f + count m (con part kids floats rest)
  in_place_of c part kids floats rest =
      by_change c in_place (con part kids floats rest) (λ old now found. count m now + count m found ≤ count m old + count m (con part kids floats rest)) (omega arith)
      (λ p ks fs r. omega arith)
      (λ p ks fs r now found h. omega (arith, h))
      (λ p ks fs r now found h. omega (arith, h))
      (λ p ks fs r now found h. omega (arith, h))

  pub replaced_filled : (c : ConId) (node f : Forest) → is_end node ≡ false → count m (replaced c node f) + count m (only c f) ≤ count m f + count m node
  replaced_filled c end f h = cc
  replaced_filled c (con part kids floats rest) f h = in_place_of c part kids floats rest f

  pub replaced_most : (c : ConId) (node f : Forest) → count m (replaced c node f) ≤ count m f + count m node
  replaced_most c end f = let e : count m (replaced c end f) ≡ count m f = count-same m c in_place end (λ part kids floats rest. refl) f in omega (arith, e)
  replaced_most c (con part kids floats rest) f = omega (arith, in_place_of c part kids floats rest f)

-- ---- the words

module _ (w : NodeKind → ℕ) (k : IsOfPlaces w) where
  unfulled : (kind : NodeKind) → w (unfull_kind kind) ≡ w kind
  unfulled (Root c) = refl
  unfulled (Output o) = refl
  unfulled (Space s) = refl
  unfulled (Con c) = k.inner (record c { state = record c.state { fullscreen = false } }) ∙ sym (k.inner c)

  set_in : (share : ℕ) (rect : Option Rect) (kind : NodeKind) → w (placed share rect kind) ≡ w kind
  set_in share rect (Root c) = refl
  set_in share rect (Output o) = refl
  set_in share rect (Space s) = refl
  set_in share rect (Con c) = k.inner (record c { share = share; state = record c.state { rect = or_rect rect c.state.rect } }) ∙ sym (k.inner c)

  count-none_full : (c : ConId) (f : Forest) → count (by_kind w) (unfull c f) ≡ count (by_kind w) f
  count-none_full c f = count-unfull c (by_kind w) (λ part. unfulled part.kind) f

  -- ---- changes of nodes

  pub count-edited : (c : ConId) (edit : KindEdit) (t : TreeValue) → is_name edit ≡ false → count (by_kind w) (edited c edit t).nodes ≡ count (by_kind w) t.nodes
  count-edited c edit t h = count-same (by_kind w) c kind_changed edit (λ part kids floats rest. omega (arith, k.edited edit part.kind h)) t.nodes

  count-restated : (c : ConId) (o : Option ConState) (t : TreeValue) → count (by_kind w) (restated c o t).nodes ≡ count (by_kind w) t.nodes
  count-restated c None t = refl
  count-restated c (Some s) t = count-edited c (edits.State s) t refl

  count-others : (c : ConId) (v : Option ConId) (t : TreeValue) → count (by_kind w) (others_unfull c v t).nodes ≡ count (by_kind w) t.nodes
  count-others c None t = refl
  count-others c (Some v) t = count-same (by_kind w) v unfull_but c (λ part kids floats rest. omega (arith, count-none_full c kids, count-none_full c floats)) t.nodes

  pub count-fullscreen : (c : ConId) (on : Bool) (t : TreeValue) → count (by_kind w) (fullscreen_tree c on t).nodes ≡ count (by_kind w) t.nodes
  count-fullscreen c true t =
      let alone : TreeValue = others_unfull c (workspace_of t c) t in
      count-restated c (option_map (λ (s : ConState). record s { fullscreen = true }) (state_of c alone)) alone ∙ count-others c (workspace_of t c) t
  count-fullscreen c false t = count-restated c (option_map (λ (s : ConState). record s { fullscreen = false }) (state_of c t)) t

  -- ---- marks

  pub count-marks : (c : ConId) (marks : List (List ℕ)) (t : TreeValue) → count (by_kind w) (with_marks c marks t).nodes ≡ count (by_kind w) t.nodes
  count-marks c marks t = count-same (by_kind w) c marks_word marks (λ part kids floats rest. refl) t.nodes

  pub count-unmarked : (c : ConId) (n : List ℕ) (t : TreeValue) → count (by_kind w) (unmarked c n t).nodes ≡ count (by_kind w) t.nodes
  count-unmarked c n t = count-same (by_kind w) c unmark_word n (λ part kids floats rest. refl) t.nodes

  pub count-taken_off : (keep : Option ConId) (n : List ℕ) (f : Forest) → count (by_kind w) (taken_off keep n f) ≡ count (by_kind w) f
  count-taken_off keep n end = refl
  count-taken_off keep n (con part kids floats rest) = omega (arith, step (is_id part.id keep), count-taken_off keep n kids, count-taken_off keep n floats, count-taken_off keep n rest)
    where
      step : (b : Bool) → by_kind w (cond b part (record part { marks = other_marks n part.marks })) ≡ by_kind w part
      step true = refl
      step false = refl

  pub count-bare : (f : Forest) → count (by_kind w) (bare f) ≡ count (by_kind w) f
  count-bare end = refl
  count-bare (con part kids floats rest) = omega (arith, count-bare kids, count-bare floats, count-bare rest)

  -- ---- nodes that change their places

  pub count-with_raised : (c : ConId) (t : TreeValue) → count (by_kind w) (with_raised c t).nodes ≡ count (by_kind w) t.nodes
  count-with_raised c t = count-raised (by_kind w) (λ part. unfulled part.kind) c (workspace_of t c) t.nodes

  count-arriving : (share : ℕ) (rect : Option Rect) (away : Bool) (f : Forest) → count (by_kind w) (arriving share rect away f) ≡ count (by_kind w) f
  count-arriving share rect away end = refl
  count-arriving share rect true (con part kids floats rest) =
      omega (arith, unfulled (placed share rect part.kind), set_in share rect part.kind, count-none_full nobody kids, count-none_full nobody floats)
  count-arriving share rect false (con part kids floats rest) = omega (arith, set_in share rect part.kind)

  pub moved_most : (c : ConId) (p : Place) (t : TreeValue) → count (by_kind w) (moved c p t).nodes ≤ count (by_kind w) t.nodes
  moved_most c p t =
      let share : ℕ = moved_share c p t.nodes in
      let away : Bool = apart t c (named p) in
      omega (
        arith,
        put_most (by_kind w) p (arriving share (rect_at p) away (only c t.nodes)) (without c t.nodes),
        count-arriving share (rect_at p) away (only c t.nodes),
        count-without (by_kind w) c t.nodes,
      )

  pub hidden_most : (c : ConId) (t : TreeValue) → count (by_kind w) (to_scratchpad_tree c t).nodes ≤ count (by_kind w) t.nodes
  hidden_most c t =
      let away : TreeValue = moved c (Scratchpad (floating_rect c t)) t in
      omega (arith, moved_most c (Scratchpad (floating_rect c t)) t, count-restated c (option_map (λ (s : ConState). record s { flagged = true }) (state_of c away)) away)

  pub put_away_most : (c : ConId) (t : TreeValue) → count (by_kind w) (put_away c t).nodes ≤ count (by_kind w) t.nodes
  put_away_most c t = moved_most c (Scratchpad (rect_of c t)) t

  sunk_most : (c : ConId) (v : Option ConId) (t : TreeValue) → count (by_kind w) (sunk c v t).nodes ≤ count (by_kind w) t.nodes
  sunk_most c None t = omega arith
  sunk_most c (Some v) t = step (is_tiled_con t c)
    where
      tiled : TreeValue
      tiled = moved c (tiling_place v t) t

      step : (b : Bool) → count (by_kind w) (cond b t (flag_set false c tiled)).nodes ≤ count (by_kind w) t.nodes
      step true = omega arith
      step false = omega (arith, moved_most c (tiling_place v t) t, count-restated c (option_map (λ (s : ConState). record s { flagged = false }) (state_of c tiled)) tiled)

  pub sink_most : (c : ConId) (t : TreeValue) → count (by_kind w) (sink_tree c t).nodes ≤ count (by_kind w) t.nodes
  sink_most c t = sunk_most c (workspace_of t c) t

  exchanged_count : (a b : ConId) (sa sb : ℕ) (away : Bool) (f : Forest) → has a f ≡ true → count (by_kind w) (exchanged_nodes a b sa sb away f) ≤ count (by_kind w) f
  exchanged_count a b sa sb away f h =
      let first : Forest = arriving sb None away (only a f) in
      let second : Forest = arriving sa None away (only b (holed a f)) in
      let half : Forest = replaced b first (holed a f) in
      omega (
        arith,
        k.root nobody,
        replaced_filled (by_kind w) a hole f refl,
        replaced_filled (by_kind w) b first (holed a f) (filled_arriving sb None away (only a f) (filled a f h)),
        replaced_most (by_kind w) nobody second half,
        count-arriving sb None away (only a f),
        count-arriving sa None away (only b (holed a f)),
      )

  pub exchanged_most : (a b : ConId) (t : TreeValue) → has a t.nodes ≡ true → count (by_kind w) (exchanged a b t).nodes ≤ count (by_kind w) t.nodes
  exchanged_most a b t h = exchanged_count a b (share_in a t.nodes) (share_in b t.nodes) (apart t a b) t.nodes h

  pub space_moved_most : (v o : ConId) (t : TreeValue) → count (by_kind w) (space_moved v o t).nodes ≤ count (by_kind w) t.nodes
  space_moved_most v o t = omega (arith, put_most (by_kind w) (Last o) (only v t.nodes) (without v t.nodes), count-without (by_kind w) v t.nodes)

  pub along_most : (u v : ConId) (t : TreeValue) → count (by_kind w) (gone_along u v t).nodes ≤ count (by_kind w) t.nodes
  along_most u v t =
      let stuck : Forest = sticky (first_floats (only u t.nodes)) in
      omega (arith, put_most (by_kind w) (Float v nowhere) (unfull nobody stuck) (at u loosened end t.nodes), count-none_full nobody stuck, count-loosened (by_kind w) u t.nodes)

  -- ---- nodes that come and go

  pub attached_most : (p : Place) (newcomer : NewCon) (t : TreeValue) → count (by_kind w) (attached p newcomer t).nodes ≤ count (by_kind w) t.nodes
  attached_most p newcomer t =
      let part : Part = new_part (id t.next_id) (share_at p t.nodes) t.border (rect_at p) newcomer in
      let none : by_kind w part ≡ 0 = new_none (id t.next_id) (share_at p t.nodes) t.border (rect_at p) newcomer in
      omega (arith, none, put_most (by_kind w) p (con part end end end) t.nodes)
    where
      new_none : (c : ConId) (share : ℕ) (border : Border) (rect : Option Rect) (newcomer : NewCon) → by_kind w (new_part c share border rect newcomer) ≡ 0
      new_none c share border rect newcomer = k.inner _

  pub count-wrapped : (c : ConId) (layout : Layout) (t : TreeValue) → count (by_kind w) (wrapped c layout t).nodes ≡ count (by_kind w) t.nodes
  count-wrapped c layout t =
      let split : Part = new_part (id t.next_id) (share_in c t.nodes) t.border None (new.Split layout) in
      let none : by_kind w split ≡ 0 = k.inner _ in
      count-same (by_kind w) c wrap_word split (λ part kids floats rest. omega (arith, none, k.edited (edits.Share 65536) part.kind refl)) t.nodes

  pub detached_most : (c : ConId) (t : TreeValue) → count (by_kind w) (detached c t).nodes ≤ count (by_kind w) t.nodes
  detached_most c t = omega (arith, count-without (by_kind w) c t.nodes)

  pub settled_most : (t : TreeValue) → count (by_kind w) (settled t).nodes ≤ count (by_kind w) t.nodes
  settled_most t = count-settled (by_kind w) None t.nodes

  handed_most : (o h : ConId) (t : TreeValue) → count (by_kind w) (handed_on o h t).nodes ≤ count (by_kind w) t.nodes
  handed_most o h t = omega (arith, taking_most (by_kind w) h (only o t.nodes) (without o t.nodes), count-without (by_kind w) o t.nodes)

  count-yielded : (o h : ConId) (t : TreeValue) → count (by_kind w) (yielded o h t).nodes ≡ count (by_kind w) t.nodes
  count-yielded o h t = step (same (current t) o)
    where
      step : (b : Bool) → count (by_kind w) (cond b (edited root (edits.Current h) t) t).nodes ≡ count (by_kind w) t.nodes
      step true = count-edited root (edits.Current h) t refl
      step false = refl

  pub without_output_most : (o : ConId) (t : TreeValue) → count (by_kind w) (without_output o t).nodes ≤ count (by_kind w) t.nodes
  without_output_most o t = by_heir (heir o t.nodes)
    where
      by_heir : (h : Option ConId) → count (by_kind w) (left_to h o t).nodes ≤ count (by_kind w) t.nodes
      by_heir None = omega arith
      by_heir (Some h) = omega (arith, handed_most o h (yielded o h t), count-yielded o h t)
