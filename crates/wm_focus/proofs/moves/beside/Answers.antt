use Rattle.std.proofs.Common.{sym, ◌∙◌}
use Rattle.wm_focus.proofs.BesideLemmas.{beside_none, beside_some}
use Rattle.wm_focus.proofs.moves.beside.Goals as goal

pub returns-in_err-neighbour_at : goal.returns-in_err-neighbour_at
returns-in_err-neighbour_at c =
    c.from_residual-in_err-neighbour_at.ensures
    ∙ beside_none c.args.d c.args.con c.in_ok-holder.field-0 c.args.t.now c.nodes.result c.nodes.ensures (c.requires ∙ c.in_ok-holder.was) (sym c.neighbour_at.ensures ∙ c.in_err-neighbour_at.was)

pub returns : goal.returns
returns c =
    beside_some c.args.d c.args.con c.in_ok-holder.field-0 c.args.t.now c.nodes.result c.in_ok-neighbour_at.field-0 c.nodes.ensures (c.requires ∙ c.in_ok-holder.was) (sym c.neighbour_at.ensures ∙ c.in_ok-neighbour_at.was)
