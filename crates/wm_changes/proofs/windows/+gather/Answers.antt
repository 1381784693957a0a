use Rattle.std.proofs.Common.{◌≡◌, ◌∙◌, ap, sym, subst, arith, Some}
use Rattle.wm_changes.specs.declared.standing.StandingRow.{StandingRow}
use Rattle.wm_changes.specs.Differing.{IsFirst, row_windows}
use Rattle.wm_changes.specs.Facts.{IsNarrow, put_windows}
use Rattle.wm_changes.proofs.RowLemmas.{narrow_rest, put_first, size_first}
use Rattle.wm_forest.specs.Forest.{node_count}
use Rattle.wm_changes.proofs.windows.+gather.Goals as goal

-- the windows of the node were put in, and those behind it are left
pub gather-loop-node-preserved : goal.gather-loop-node-preserved
gather-loop-node-preserved t c =
    let kept = c.loop-node.invariant in
    let first : IsFirst c.loop-node.left (Some c.in-Some.node) = subst (IsFirst c.loop-node.left) c.in-Some.is c.first.ensures in
    let size = size_first c.loop-node.left c.in-Some.node first in
    let behind : node_count c.rest-left.result.row ≡ node_count _ = ap (λ (r : StandingRow). node_count r.row) c.rest-left.ensures in
    record {
      left = omega (arith, size, behind, kept.left);
      narrow = subst (λ (r : StandingRow). IsNarrow r.row) (sym c.rest-left.ensures) (narrow_rest c.loop-node.left c.in-Some.node first kept.narrow);
      put =
          ap (λ (r : StandingRow). put_windows (row_windows r) c.gather_node.new.map.entries) c.rest-left.ensures
          ∙ put_first c.loop-node.left c.in-Some.node first c.loop-node.map.entries c.gather_node.new.map.entries _ c.in_ok-gather_node.ensures kept.put;
    }
