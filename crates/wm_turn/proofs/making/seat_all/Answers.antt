use Rattle.std.proofs.Common.{[], ◌∷◌, ◌++◌, ◌∙◌, arith}
use Rattle.wm_turn.proofs.Gathering.{first_next, split_pass, passes_next}
use Rattle.wm_turn.proofs.making.seat_all.Goals as goal

pub loop-caller-preserved : goal.loop-caller-preserved
loop-caller-preserved g c =
    let opening = g.V.Stands.opening c.args.common.now.key.1.value in
    let number = c.loop-caller.caller in
    let before = c.loop-caller.invariant in
    let split = c.split-other.ensures in
    let below = c.loop-caller-test.true in
    let door = c.args.common.now.table_id in
    let pass = split_pass c.args.seats number opening c.loop-caller.place.me door c.split-other.result before.1 (split.given.0 ∙ before.0) split.given.1 (omega (arith, below)) in (
      split.same.0 ∙ before.0,
      first_next c.args.seats number opening c.loop-caller.place.me c.split-other.new.place.me before.1 split.left below,
      c.push_reserved.ensures.items ∙ ((λ i. before.2 i ++ pass i ∷ []) ∙ passes_next door opening number c.loop-caller.auto.caller),
      omega (arith, c.push_reserved.ensures.len, before.3, c.loop-caller.auto.caller),
      omega (arith, c.push_reserved.ensures.capacity, before.4),
    )
