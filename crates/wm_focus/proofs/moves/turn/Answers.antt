use Rattle.std.proofs.Common.{◌≡◌, arith, rules}
use Rattle.std.proofs.lemmas.Grind.{common_steps}
use Rattle.wm_focus.proofs.TurnLemmas.{turned_sound}
use Rattle.wm_focus.specs.Moves.{turned}
use Rattle.wm_tree.specs.Move.{exchanged}
use Rattle.wm_tree.specs.Sound.{IsSound}
use Rattle.wm_focus.proofs.moves.turn.Goals as goal

pub returns-in-Ok : goal.returns-in-Ok
returns-in-Ok c = record {
  tree = search rules;
  fine = search rules;
  err = search rules;
  cause = search rules;
  sound =
      let whole : c.set_share-in-Ok.new.self ≡ turned c.args.con c.args.next c.args.t.now = first_of (search rules, grind (arith, common_steps)) in
      let between : c.exchange.new.self ≡ exchanged c.args.con c.args.next c.args.t.now = c.in-Ok.ensures.ok c.requires.turn.2.2 in
      let after : IsSound (exchanged c.args.con c.args.next c.args.t.now) = rw between at (c.in-Ok.ensures.sound c.requires.turn.2 c.requires.sound) in
      rw whole (turned_sound c.args.con c.args.next c.args.t.now c.requires.turn c.requires.sound after);
}
