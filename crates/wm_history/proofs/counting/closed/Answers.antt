use Rattle.std.proofs.Common.{◌≡◌, ◌+◌, ap₂, sym, ◌∙◌}
use Rattle.wm_history.specs.Follows.{one_if_some}
use Rattle.wm_history.specs.Windows.{window_count}
use Rattle.wm_history.proofs.FollowLemmas.{none_closed}
use Rattle.wm_history.proofs.counting.closed.Goals as goal

pub returns-then-after-most : goal.returns-then-after-most
returns-then-after-most c = λ follows.
    let most : window_count c.args.new.now ≡ window_count c.args.old.now + one_if_some c.args.opened =
    sym c.requires.counted.1 ∙ (c.if-after-most.true ∙ ap₂ (λ a b. a + b) c.requires.counted.0 c.one_if_some.ensures.value) in
    c.new.ensures.items ∙ sym (none_closed c.args.old.now c.args.new.now c.args.opened c.requires.sound.0 c.requires.sound.1 follows most)
