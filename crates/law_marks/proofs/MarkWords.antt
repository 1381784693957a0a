-- What the words of a tree leave of how often a mark is there: none adds to it but one that gives marks.
use Rattle.std.proofs.Common.{◌≡◌, ℕ, ◌+◌, ◌≤◌, Bool, true, false, cond, List, Option, None, Some, refl, ◌∙◌, arith}
use Rattle.std.specs.Option.{option_map}
use Rattle.wm_base.specs.declared.geometry.Rect.{Rect}
use Rattle.wm_base.specs.declared.ids.ConId.{ConId}
use Rattle.wm_base.specs.declared.plan.Layout.{Layout}
use Rattle.wm_base.specs.declared.plan.OutputPlan.{OutputPlan}
use Rattle.law_marks.specs.Marks.{times_on}
use Rattle.wm_floats.specs.Floating.{floating_rect, sink_tree, sunk, tiling_place}
use Rattle.wm_floats.specs.Fullscreen.{fullscreen_tree, others_unfull, unfull_but}
use Rattle.wm_floats.specs.Scratchpad.{put_away, to_scratchpad_tree}
use Rattle.wm_floats.specs.Windows.{flag_set, restated, state_of}
use Rattle.law_names.proofs.WordCounts.{filled, filled_arriving, replaced_filled, replaced_most, taking_most}
use Rattle.wm_opens.proofs.WordLemmas.{count-loosened, put_most}
use Rattle.wm_shared.specs.Rects.{rect_of}
use Rattle.wm_spaces.specs.Coming.{free_name, output_added_tree}
use Rattle.wm_forest.proofs.CountLemmas.{count-same, count-settled, count-without}
use Rattle.wm_forest.specs.Change.{arriving, at, hole, nobody, replaced, unfull, without}
use Rattle.wm_forest.specs.Counts.{count}
use Rattle.wm_forest.specs.declared.kind.KindEdit.{KindEdit}
use Rattle.wm_forest.specs.declared.kind.KindEdit.TheVariants as edits
use Rattle.wm_forest.specs.declared.part.ConState.{ConState}
use Rattle.wm_forest.specs.declared.part.Part.{Part}
use Rattle.wm_forest.specs.declared.place.NewCon.{NewCon}
use Rattle.wm_forest.specs.declared.place.NewCon.TheVariants as new
use Rattle.wm_forest.specs.declared.place.Place.{Place}
use Rattle.wm_forest.specs.declared.place.Place.TheVariants.{Float, Last, Scratchpad}
use Rattle.wm_forest.specs.Exchange.{exchanged_nodes, holed}
use Rattle.wm_forest.specs.Forest.{Forest, end, con}
use Rattle.wm_forest.specs.Kinds.{kind_changed}
use Rattle.wm_forest.specs.Look.{first_floats, has, only, same}
use Rattle.wm_forest.specs.Place.{named, new_part, rect_at, share_at}
use Rattle.wm_forest.specs.RootId.{id, root}
use Rattle.wm_forest.specs.Sticky.{loosened, sticky}
use Rattle.wm_forest.specs.Taking.{heir}
use Rattle.wm_tree.proofs.RaiseLemmas.{count-raised, count-unfull}
use Rattle.wm_tree.specs.Along.{gone_along, nowhere}
use Rattle.wm_tree.specs.Move.{apart, exchanged, moved, moved_share, share_in, wrap_word, wrapped}
use Rattle.wm_tree.specs.Outputs.{handed_on, left_to, new_output, new_space, space_moved, with_space, without_output, yielded}
use Rattle.wm_tree.specs.TreeValue.{TreeValue, current, is_tiled_con, workspace_of}
use Rattle.wm_tree.specs.Words.{attached, detached, edited, settled, with_raised}

module _ (n : List ℕ) where
  -- ---- changes of nodes

  none_full : (c : ConId) (f : Forest) → count (times_on n) (unfull c f) ≡ count (times_on n) f
  none_full c f = count-unfull c (times_on n) (λ part. refl) f

  pub times-edited : (c : ConId) (edit : KindEdit) (t : TreeValue) → count (times_on n) (edited c edit t).nodes ≡ count (times_on n) t.nodes
  times-edited c edit t = count-same (times_on n) c kind_changed edit (λ part kids floats rest. refl) t.nodes

  times-restated : (c : ConId) (o : Option ConState) (t : TreeValue) → count (times_on n) (restated c o t).nodes ≡ count (times_on n) t.nodes
  times-restated c None t = refl
  times-restated c (Some s) t = times-edited c (edits.State s) t

  times-others : (c : ConId) (v : Option ConId) (t : TreeValue) → count (times_on n) (others_unfull c v t).nodes ≡ count (times_on n) t.nodes
  times-others c None t = refl
  times-others c (Some v) t = count-same (times_on n) v unfull_but c (λ part kids floats rest. omega (arith, none_full c kids, none_full c floats)) t.nodes

  pub times-fullscreen : (c : ConId) (on : Bool) (t : TreeValue) → count (times_on n) (fullscreen_tree c on t).nodes ≡ count (times_on n) t.nodes
  times-fullscreen c true t =
      let alone : TreeValue = others_unfull c (workspace_of t c) t in
      times-restated c (option_map (λ (s : ConState). record s { fullscreen = true }) (state_of c alone)) alone ∙ times-others c (workspace_of t c) t
  times-fullscreen c false t = times-restated c (option_map (λ (s : ConState). record s { fullscreen = false }) (state_of c t)) t

  pub times-with_raised : (c : ConId) (t : TreeValue) → count (times_on n) (with_raised c t).nodes ≡ count (times_on n) t.nodes
  times-with_raised c t = count-raised (times_on n) (λ part. refl) c (workspace_of t c) t.nodes

  -- ---- nodes that change their places

  times-arriving : (share : ℕ) (rect : Option Rect) (away : Bool) (f : Forest) → count (times_on n) (arriving share rect away f) ≡ count (times_on n) f
  times-arriving share rect away end = refl
  times-arriving share rect true (con part kids floats rest) = omega (arith, none_full nobody kids, none_full nobody floats)
  times-arriving share rect false (con part kids floats rest) = refl

  pub moved_times : (c : ConId) (p : Place) (t : TreeValue) → count (times_on n) (moved c p t).nodes ≤ count (times_on n) t.nodes
  moved_times c p t =
      let share : ℕ = moved_share c p t.nodes in
      let away : Bool = apart t c (named p) in
      omega (
        arith,
        put_most (times_on n) p (arriving share (rect_at p) away (only c t.nodes)) (without c t.nodes),
        times-arriving share (rect_at p) away (only c t.nodes),
        count-without (times_on n) c t.nodes,
      )

  pub hidden_times : (c : ConId) (t : TreeValue) → count (times_on n) (to_scratchpad_tree c t).nodes ≤ count (times_on n) t.nodes
  hidden_times c t =
      let away : TreeValue = moved c (Scratchpad (floating_rect c t)) t in
      omega (arith, moved_times c (Scratchpad (floating_rect c t)) t, times-restated c (option_map (λ (s : ConState). record s { flagged = true }) (state_of c away)) away)

  pub put_away_times : (c : ConId) (t : TreeValue) → count (times_on n) (put_away c t).nodes ≤ count (times_on n) t.nodes
  put_away_times c t = moved_times c (Scratchpad (rect_of c t)) t

  sunk_times : (c : ConId) (v : Option ConId) (t : TreeValue) → count (times_on n) (sunk c v t).nodes ≤ count (times_on n) t.nodes
  sunk_times c None t = omega arith
  sunk_times c (Some v) t = step (is_tiled_con t c)
    where
      tiled : TreeValue
      tiled = moved c (tiling_place v t) t

      step : (b : Bool) → count (times_on n) (cond b t (flag_set false c tiled)).nodes ≤ count (times_on n) t.nodes
      step true = omega arith
      step false = omega (arith, moved_times c (tiling_place v t) t, times-restated c (option_map (λ (s : ConState). record s { flagged = false }) (state_of c tiled)) tiled)

  pub sink_times : (c : ConId) (t : TreeValue) → count (times_on n) (sink_tree c t).nodes ≤ count (times_on n) t.nodes
  sink_times c t = sunk_times c (workspace_of t c) t

  exchanged_count : (a b : ConId) (sa sb : ℕ) (away : Bool) (f : Forest) → has a f ≡ true → count (times_on n) (exchanged_nodes a b sa sb away f) ≤ count (times_on n) f
  exchanged_count a b sa sb away f h =
      let first : Forest = arriving sb None away (only a f) in
      let second : Forest = arriving sa None away (only b (holed a f)) in
      let half : Forest = replaced b first (holed a f) in
      omega (
        arith,
        replaced_filled (times_on n) a hole f refl,
        replaced_filled (times_on n) b first (holed a f) (filled_arriving sb None away (only a f) (filled a f h)),
        replaced_most (times_on n) nobody second half,
        times-arriving sb None away (only a f),
        times-arriving sa None away (only b (holed a f)),
      )

  pub exchanged_times : (a b : ConId) (t : TreeValue) → has a t.nodes ≡ true → count (times_on n) (exchanged a b t).nodes ≤ count (times_on n) t.nodes
  exchanged_times a b t h = exchanged_count a b (share_in a t.nodes) (share_in b t.nodes) (apart t a b) t.nodes h

  pub space_moved_times : (v o : ConId) (t : TreeValue) → count (times_on n) (space_moved v o t).nodes ≤ count (times_on n) t.nodes
  space_moved_times v o t = omega (arith, put_most (times_on n) (Last o) (only v t.nodes) (without v t.nodes), count-without (times_on n) v t.nodes)

  pub along_times : (u v : ConId) (t : TreeValue) → count (times_on n) (gone_along u v t).nodes ≤ count (times_on n) t.nodes
  along_times u v t =
      let stuck : Forest = sticky (first_floats (only u t.nodes)) in
      omega (arith, put_most (times_on n) (Float v nowhere) (unfull nobody stuck) (at u loosened end t.nodes), none_full nobody stuck, count-loosened (times_on n) u t.nodes)

  -- ---- nodes that come and go

  pub attached_times : (p : Place) (newcomer : NewCon) (t : TreeValue) → count (times_on n) (attached p newcomer t).nodes ≤ count (times_on n) t.nodes
  attached_times p newcomer t = omega (arith, put_most (times_on n) p (con (new_part (id t.next_id) (share_at p t.nodes) t.border (rect_at p) newcomer) end end end) t.nodes)

  pub times-wrapped : (c : ConId) (layout : Layout) (t : TreeValue) → count (times_on n) (wrapped c layout t).nodes ≡ count (times_on n) t.nodes
  times-wrapped c layout t =
      let split : Part = new_part (id t.next_id) (share_in c t.nodes) t.border None (new.Split layout) in
      count-same (times_on n) c wrap_word split (λ part kids floats rest. omega arith) t.nodes

  pub space_times : (o : ConId) (name : List ℕ) (t : TreeValue) → count (times_on n) (with_space o name t).nodes ≤ count (times_on n) t.nodes
  space_times o name t = omega (arith, put_most (times_on n) (Last o) (new_space (id t.next_id) name t) t.nodes)

  pub output_times : (plan : OutputPlan) (t : TreeValue) → count (times_on n) (output_added_tree plan t).nodes ≤ count (times_on n) t.nodes
  output_times plan t = omega (arith, put_most (times_on n) (Last root) (new_output (id t.next_id) plan (id (t.next_id + 1)) (free_name t) t) t.nodes)

  pub detached_times : (c : ConId) (t : TreeValue) → count (times_on n) (detached c t).nodes ≤ count (times_on n) t.nodes
  detached_times c t = omega (arith, count-without (times_on n) c t.nodes)

  pub settled_times : (t : TreeValue) → count (times_on n) (settled t).nodes ≤ count (times_on n) t.nodes
  settled_times t = count-settled (times_on n) None t.nodes

  handed_times : (o h : ConId) (t : TreeValue) → count (times_on n) (handed_on o h t).nodes ≤ count (times_on n) t.nodes
  handed_times o h t = omega (arith, taking_most (times_on n) h (only o t.nodes) (without o t.nodes), count-without (times_on n) o t.nodes)

  times-yielded : (o h : ConId) (t : TreeValue) → count (times_on n) (yielded o h t).nodes ≡ count (times_on n) t.nodes
  times-yielded o h t = step (same (current t) o)
    where
      step : (b : Bool) → count (times_on n) (cond b (edited root (edits.Current h) t) t).nodes ≡ count (times_on n) t.nodes
      step true = times-edited root (edits.Current h) t
      step false = refl

  pub without_output_times : (o : ConId) (t : TreeValue) → count (times_on n) (without_output o t).nodes ≤ count (times_on n) t.nodes
  without_output_times o t = by_heir (heir o t.nodes)
    where
      by_heir : (h : Option ConId) → count (times_on n) (left_to h o t).nodes ≤ count (times_on n) t.nodes
      by_heir None = omega arith
      by_heir (Some h) = omega (arith, handed_times o h (yielded o h t), times-yielded o h t)
