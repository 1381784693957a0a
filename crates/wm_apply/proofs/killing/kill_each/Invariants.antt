use Rattle.std.proofs.Common.{◌≡◌, length}
use Rattle.wm_apply.specs.declared.rows.How.TheVariants as how
use Rattle.wm_apply.specs.Subjects.{each_error, each_tree, or_error}
use Rattle.wm_language.specs.declared.command.Command.TheVariants as commands
use Rattle.wm_tree.specs.Sound.{IsSound}
use Rattle.wm_apply.proofs.killing.kill_each.Given as goal

-- what the subjects so far did, and what the others will do, is what all do
abbrev pub invariant-loop-rest : goal.invariant-loop-rest
invariant-loop-rest l = record {
  tree : each_tree l.env how.Matched commands.Kill l.rest l.t ≡ each_tree l.env how.Matched commands.Kill l.cons l.initial.t;
  error : or_error l.first (each_error l.env how.Matched commands.Kill l.rest l.t) ≡ each_error l.env how.Matched commands.Kill l.cons l.initial.t;
  sound : IsSound l.t;
}

abbrev pub decreases-loop-rest : goal.decreases-loop-rest
decreases-loop-rest l = length l.rest
