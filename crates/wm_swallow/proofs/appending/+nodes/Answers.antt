use Rattle.std.proofs.Common.{◌≡◌, sym, ◌∙◌, ap, subst, arith}
use Rattle.std.specs.Prelude.{OnOk}
use Rattle.wm_swallow.specs.Appending.{appended}
use Rattle.wm_swallow.specs.SavedRows.{Saved, row_below, rows, size}
use Rattle.wm_swallow.specs.Steps.{IsFree}
use Rattle.wm_swallow.proofs.SavedLemmas.{below_split}
use Rattle.wm_swallow.proofs.appending.+nodes.Goals as goal

pub attach_below-attach_all-requires : goal.attach_below-attach_all-requires
attach_below-attach_all-requires t c =
    let e : row_below c.args.kind.now ≡ rows c.items.result.now = ap row_below c.in-Split.is ∙ below_split c.in-Split.layout c.in-Split.nodes ∙ ap rows (sym c.items.ensures) in
    (omega (arith, ap size e), (c.requires.sound, subst (λ (r : Saved). IsFree c.args.con r c.args.tree.now) e c.requires.free))

pub attach_below-returns-in-Split-clause-tree : goal.attach_below-returns-in-Split-clause-tree
attach_below-returns-in-Split-clause-tree t c =
    let e : row_below c.args.kind.now ≡ rows c.items.result.now = ap row_below c.in-Split.is ∙ below_split c.in-Split.layout c.in-Split.nodes ∙ ap rows (sym c.items.ensures) in
    subst (λ (r : Saved). OnOk c.attach_all.result (c.attach_all.new.tree ≡ appended c.args.con r c.args.tree.now)) (sym e) c.attach_all.ensures.tree
