-- The rows of a tree by the id of their first node.
use Rattle.std.specs.Prelude.{◌≡◌}
use Rattle.wm_arrange.specs.Maps.{value_at}
use Rattle.wm_base.specs.declared.ids.ConId.{ConId}
use Rattle.wm_apply.specs.declared.finding.Rows.{Rows}
use Rattle.wm_apply.specs.Kills.{row_at}

-- the rows are those from each node of the tree on
abbrev pub AreRows : Rows → Type 0
AreRows r = (c : ConId) → value_at r.by_id c ≡ row_at c r.tree.now.nodes
