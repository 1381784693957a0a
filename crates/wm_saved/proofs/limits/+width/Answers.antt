use Rattle.std.proofs.Common.{◌∙◌, ap, sym, ◌||◌, ◌+◌, drop, nat_lt, length}
use Rattle.std.specs.List.{list_any}
use Rattle.wm_saved.specs.Containers.{containers}
use Rattle.wm_saved.specs.Limits.{is_wide_own}
use Rattle.wm_saved.proofs.NodeLemmas.{wide_left}
use Rattle.wm_saved.proofs.limits.+width.Goals as goal

pub is_wide-loop-node-preserved : goal.is_wide-loop-node-preserved
is_wide-loop-node-preserved t c =
    let rest = list_any is_wide_own (containers (drop (c.loop-node.node-index + 1) c.args.nodes.now)) in
    c.loop-node.invariant ∙ (wide_left c.args.nodes.now c.loop-node.node-index c.node-item.result c.loop-node-test.true c.node-item.is ∙ ap (λ b. b || rest) (sym c.if-is_kind_wide.ensures))

pub is_wide-returns-then-is_kind_wide : goal.is_wide-returns-then-is_kind_wide
is_wide-returns-then-is_kind_wide t c =
    let rest = list_any is_wide_own (containers (drop (c.loop-node.node-index + 1) c.args.nodes.now)) in
    let wide = c.loop-node.invariant ∙ (wide_left c.args.nodes.now c.loop-node.node-index c.node-item.result c.loop-node-test.true c.node-item.is ∙ ap (λ b. b || rest) (sym c.if-is_kind_wide.ensures)) in
    sym (ap (λ b. b || nat_lt 256 (length c.args.nodes.now)) wide)
