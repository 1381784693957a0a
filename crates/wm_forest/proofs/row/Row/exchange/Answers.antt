use Rattle.wm_forest.specs.Row.{alone}
use Rattle.wm_forest.proofs.ExchangeLemmas.{exchange_steps}
use Rattle.wm_forest.proofs.row.Row.exchange.Goals as goal

pub returns : goal.returns
returns c = λ outside.
    exchange_steps c.args.a.0 c.args.b.0 c.args.self.now c.swap.new.self c.swap-2.new.self c.swap-3.new.self (alone c.args.spare.now)
    (alone c.swap.new.spare) (alone c.arrive.new.self) (alone c.swap-2.new.spare) (alone c.arrive-2.new.self) c.args.a.1 c.args.b.1 c.args.away
    c.requires.first c.requires.second outside c.requires.hole
    c.swap.ensures.left c.swap.ensures.taken c.arrive.ensures.alone c.swap-2.ensures.left c.swap-2.ensures.taken c.arrive-2.ensures.alone c.swap-3.ensures.left
