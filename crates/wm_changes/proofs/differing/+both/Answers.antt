use Rattle.std.proofs.Common.{refl, subst, arith, Some, []}
use Rattle.wm_changes.specs.declared.differing.Differing.{Differing}
use Rattle.wm_changes.specs.Differing.{IsFirst, node_windows, row_windows}
use Rattle.wm_changes.proofs.DifferingLemmas.{on_ok, put_both, put_two}
use Rattle.wm_changes.proofs.RowLemmas.{behind_narrow, behind_size, behind_windows}
use Rattle.wm_changes.proofs.differing.+both.Goals as goal

-- two nodes were put in, and those behind both are left
pub gather_both-loop-a-preserved-in_ok-gather_pair : goal.gather_both-loop-a-preserved-in_ok-gather_pair
gather_both-loop-a-preserved-in_ok-gather_pair t c =
    let kept = c.loop-a.invariant in
    let a : IsFirst c.loop-a.left (Some c.in-Some-Some.a) = subst (IsFirst c.loop-a.left) c.in-Some-Some.is-0 c.first.ensures in
    let b : IsFirst c.loop-a.right (Some c.in-Some-Some.b) = subst (IsFirst c.loop-a.right) c.in-Some-Some.is-1 c.first-in-loop-a.ensures in
    let size = behind_size c.loop-a.left c.rest-left.result c.in-Some-Some.a a c.rest-left.ensures in
    let size' = behind_size c.loop-a.right c.rest-right.result c.in-Some-Some.b b c.rest-right.ensures in
    record {
      left = omega (arith, size, kept.left);
      right = omega (arith, size', kept.right);
      narrow_left = behind_narrow c.loop-a.left c.rest-left.result c.in-Some-Some.a a c.rest-left.ensures kept.narrow_left;
      narrow_right = behind_narrow c.loop-a.right c.rest-right.result c.in-Some-Some.b b c.rest-right.ensures kept.narrow_right;
      put = λ d rest.
          kept.put d
          (
          rw (behind_windows c.loop-a.left c.rest-left.result c.in-Some-Some.a a c.rest-left.ensures, behind_windows c.loop-a.right c.rest-right.result c.in-Some-Some.b b c.rest-right.ensures)
          (put_both _ _ (node_windows c.in-Some-Some.a) (node_windows c.in-Some-Some.b) (row_windows c.rest-left.result) (row_windows c.rest-right.result) c.loop-a.found c.gather_pair.new.found d c.in_ok-gather_pair.ensures rest)
          );
    }

-- a node that went was put in, and those behind it are left
pub gather_both-loop-a-preserved-in_ok-gather_node : goal.gather_both-loop-a-preserved-in_ok-gather_node
gather_both-loop-a-preserved-in_ok-gather_node t c =
    let kept = c.loop-a.invariant in
    let a : IsFirst c.loop-a.left (Some c.in-Some-Some.a) = subst (IsFirst c.loop-a.left) c.in-Some-Some.is-0 c.first.ensures in
    let left = c.rest-left-then-goes_on_with.result in
    let behind = c.rest-left-then-goes_on_with.ensures in
    let size = behind_size c.loop-a.left left c.in-Some-Some.a a behind in
    let next : Differing = record { before = c.gather_node.new.map; after = c.loop-a.found.after } in
    record {
      left = omega (arith, size, kept.left);
      right = kept.right;
      narrow_left = behind_narrow c.loop-a.left left c.in-Some-Some.a a behind kept.narrow_left;
      narrow_right = kept.narrow_right;
      put = λ d rest.
          kept.put d
          (
          rw (behind_windows c.loop-a.left left c.in-Some-Some.a a behind)
          (
          put_both _ _ (node_windows c.in-Some-Some.a) [] (row_windows left) (row_windows c.loop-a.right) c.loop-a.found next d
          (put_two _ _ (node_windows c.in-Some-Some.a) [] c.loop-a.found next c.in_ok-gather_node.ensures refl) rest
          )
          );
    }

-- a node that came was put in, and those behind it are left
pub gather_both-loop-a-preserved : goal.gather_both-loop-a-preserved
gather_both-loop-a-preserved t c =
    let kept = c.loop-a.invariant in
    let b : IsFirst c.loop-a.right (Some c.in-Some-Some.b) = subst (IsFirst c.loop-a.right) c.in-Some-Some.is-1 c.first-in-loop-a.ensures in
    let right = c.rest-right-else-goes_on_with.result in
    let behind = c.rest-right-else-goes_on_with.ensures in
    let size = behind_size c.loop-a.right right c.in-Some-Some.b b behind in
    let next : Differing = record { before = c.loop-a.found.before; after = c.gather_node-else-goes_on_with.new.map } in
    record {
      left = kept.left;
      right = omega (arith, size, kept.right);
      narrow_left = kept.narrow_left;
      narrow_right = behind_narrow c.loop-a.right right c.in-Some-Some.b b behind kept.narrow_right;
      put = λ d rest.
          kept.put d
          (
          rw (behind_windows c.loop-a.right right c.in-Some-Some.b b behind)
          (
          put_both _ _ [] (node_windows c.in-Some-Some.b) (row_windows c.loop-a.left) (row_windows right) c.loop-a.found next d
          (put_two _ _ [] (node_windows c.in-Some-Some.b) c.loop-a.found next refl c.in_ok-gather_node-2.ensures) rest
          )
          );
    }

-- what is left of one row was put in
pub gather_both-returns : goal.gather_both-returns
gather_both-returns t c =
    on_ok c.gather-2.result c.gather-2.ensures
    (λ last. c.loop-a.invariant.put _ (put_two _ _ (row_windows c.loop-a.left) (row_windows c.loop-a.right) c.loop-a.found (record { before = c.gather.new.map; after = c.gather-2.new.map }) c.in_ok-gather.ensures last))

-- the nodes and both rows below them were put in
pub gather_pair-returns : goal.gather_pair-returns
gather_pair-returns t c =
    on_ok c.gather_both-2.result c.gather_both-2.ensures
    (λ floats.
    rw (← c.window-was.ensures, ← c.window-is.ensures)
    (
    put_both _ _ _ _ _ _ c.args.found.now c.gather_both.new.found c.gather_both-2.new.found
    (put_both _ _ _ _ _ _ c.args.found.now c.put_pair.new.found c.gather_both.new.found c.in_ok-put_pair.ensures (rw (c.below-old_kids.ensures.kids, c.below-new_kids.ensures.kids) at c.in_ok-gather_both.ensures))
    (rw (c.below-old_kids.ensures.floats, c.below-new_kids.ensures.floats) at floats)
    ))
