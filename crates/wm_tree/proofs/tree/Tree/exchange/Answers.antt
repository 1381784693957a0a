use Rattle.std.proofs.Common.{arith, rules}
use Rattle.std.proofs.lemmas.Grind.{common_steps}
use Rattle.wm_tree.specs.Move.{exchanged}
use Rattle.wm_tree.proofs.ExchangeLaws.{change_parents}
use Rattle.wm_tree.proofs.ExchangeSound.{sound-exchanged}
use Rattle.wm_tree.proofs.SoundLemmas.{as_is}
use Rattle.wm_tree.proofs.tree.Tree.exchange.Goals as goal

pub returns-clause-sound : goal.returns-clause-sound
returns-clause-sound c =
    λ m s.
    let k = c.in_ok-share_a.ensures.ok in
    let outside = m.2 in
    as_is (exchanged c.args.a c.args.b c.args.self.now) _ (first_of (search rules, grind (arith, common_steps)))
    (sound-exchanged c.args.a c.args.b c.args.self.now k.0 k.1 (m.0 k.0) (m.1 k.1) m.2 m.3 k.2 s)

pub returns-clause-swapped : goal.returns-clause-swapped
returns-clause-swapped c =
    λ m s.
    let k = c.in_ok-share_a.ensures.ok in
    change_parents c.args.a c.args.b c.args.self.now c.exchange.new.self (first_of (search rules, grind (arith, common_steps))) k.0 k.1 m.2 m.3 s
