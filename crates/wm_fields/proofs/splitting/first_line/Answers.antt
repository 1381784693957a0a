use Rattle.std.specs.Prelude.{length, take, drop, ◌-◌}
use Rattle.std.proofs.Common.{arith}
use Rattle.wm_fields.proofs.SplitLemmas.{split_line, nothing_behind, all_behind}
use Rattle.wm_fields.proofs.splitting.first_line.Goals as goal

pub returns-in-empty-clause-lines : goal.returns-in-empty-clause-lines
returns-in-empty-clause-lines c =
    split_line c.args.text.now c.split_at.result.0.now c.split_at.result.1.now c.split_at.result.1.now c.line_length-end.result c.requires c.line_length-end.ensures c.split_at.ensures.front c.split_at.ensures.back (nothing_behind c.split_at.result.1.now (omega arith))

pub returns-in-len1-up-clause-lines : goal.returns-in-len1-up-clause-lines
returns-in-len1-up-clause-lines c =
    split_line c.args.text.now c.split_at.result.0.now c.split_at.result.1.now (take (length c.split_at.result.1.now - 1) (drop 1 c.split_at.result.1.now)) c.line_length-end.result c.requires c.line_length-end.ensures c.split_at.ensures.front c.split_at.ensures.back (all_behind c.split_at.result.1.now)
