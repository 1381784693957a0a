use Rattle.std.proofs.Common.{arith, ◌≡◌, ◌∷◌, [], ◌++◌, List, Some, ap, ◌∙◌, ◌-◌, take, drop, length}
use Rattle.wm_language.specs.declared.command.Command.{Command}
use Rattle.wm_grammar.specs.Openings.{command_at}
use Rattle.wm_words.specs.Pieces.{skip}
use Rattle.wm_grammar.specs.Reading.{commands_at}
use Rattle.wm_grammar.proofs.Loops.{commands_step, with_commands}
use Rattle.wm_grammar.proofs.groups.commands_at.Goals as goal

pub loop-left-preserved : goal.loop-left-preserved
loop-left-preserved c =
    let pushed : c.push.new.self.items ≡ c.loop-left.commands.items ++ c.in-Some.command ∷ [] = grind (arith, c.in_ok-push.ensures.items) in
    let got : command_at (skip c.loop-left.rest.now) ≡ Some (c.in-Some.command, c.in-Some.behind.now) = grind (arith, c.in_ok-command.ensures) in
    ap (λ (front : List Command). with_commands front (commands_at (c.loop-left.left - 1) (take (length c.in-Some.behind.now - 1) (drop 1 c.in-Some.behind.now)))) pushed
    ∙ commands_step c.loop-left.commands.items c.in-Some.command c.loop-left.left c.loop-left.rest.now c.in-Some.behind.now _ c.loop-left-test.true got c.in-44.len_at_least (grind arith) c.loop-left.invariant
