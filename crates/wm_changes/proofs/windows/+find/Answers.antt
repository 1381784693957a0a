use Rattle.std.proofs.Common.{◌≡◌, ◌∙◌, ap, sym, subst, arith, Some}
use Rattle.std.specs.Option.{option_or}
use Rattle.wm_changes.specs.declared.standing.StandingRow.{StandingRow}
use Rattle.wm_changes.specs.Differing.{IsFirst, last_of, row_windows}
use Rattle.wm_changes.specs.Facts.{IsNarrow}
use Rattle.wm_changes.proofs.RowLemmas.{last_first, narrow_rest, size_first}
use Rattle.wm_forest.specs.Forest.{node_count}
use Rattle.wm_changes.proofs.windows.+find.Goals as goal

-- the node was asked, and those behind it are left
pub find-loop-node-preserved : goal.find-loop-node-preserved
find-loop-node-preserved t c =
    let kept = c.loop-node.invariant in
    let first : IsFirst c.loop-node.left (Some c.in-Some.node) = subst (IsFirst c.loop-node.left) c.in-Some.is c.first.ensures in
    let size = size_first c.loop-node.left c.in-Some.node first in
    let behind : node_count c.rest-left.result.row ≡ node_count _ = ap (λ (r : StandingRow). node_count r.row) c.rest-left.ensures in
    record {
      left = omega (arith, size, behind, kept.left);
      narrow = subst (λ (r : StandingRow). IsNarrow r.row) (sym c.rest-left.ensures) (narrow_rest c.loop-node.left c.in-Some.node first kept.narrow);
      last =
          ap (λ (r : StandingRow). option_or (last_of c.args.id (row_windows r)) c.or-found.result) c.rest-left.ensures
          ∙ last_first c.loop-node.left c.in-Some.node first c.args.id c.loop-node.found c.or-found.result _ (c.or-found.ensures ∙ ap (λ o. option_or o c.loop-node.found) c.find_node.ensures) kept.last;
    }
