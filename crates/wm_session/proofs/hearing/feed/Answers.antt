use Rattle.std.proofs.Common.{arith}
use Rattle.wm_session.proofs.HearLemmas.{feeds_heard}
use Rattle.wm_session.proofs.hearing.feed.Goals as goal

pub returns-in-Ok-clause-heard : goal.returns-in-Ok-clause-heard
returns-in-Ok-clause-heard c = feeds_heard c.args.decoder.now c.feed.new.self c.args.piece.now c.requires (λ i. omega (arith, c.type_inv.piece i)) (c.in-Ok.ensures.stands (λ e. cc))

pub returns-in-Err-Magic-clause-heard : goal.returns-in-Err-Magic-clause-heard
returns-in-Err-Magic-clause-heard c = feeds_heard c.args.decoder.now c.feed.new.self c.args.piece.now c.requires (λ i. omega (arith, c.type_inv.piece i)) (c.in-Err-Magic.ensures.stands (λ e. cc))

pub returns-in-Err-TooLong-clause-heard : goal.returns-in-Err-TooLong-clause-heard
returns-in-Err-TooLong-clause-heard c = feeds_heard c.args.decoder.now c.feed.new.self c.args.piece.now c.requires (λ i. omega (arith, c.type_inv.piece i)) (c.in-Err-TooLong.ensures.stands (λ e. cc))
