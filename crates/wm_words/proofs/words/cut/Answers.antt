use Rattle.wm_words.specs.Words.{stops}
use Rattle.wm_words.proofs.Pieces.{until_found, from_found, until_end, from_end}
use Rattle.wm_words.proofs.words.cut.Goals as goal

pub returns-then-at-clause-front : goal.returns-then-at-clause-front
returns-then-at-clause-front c = let h = until_found (stops c.args.stop) c.args.text.now c.loop-i.i c.loop-i.invariant c.loop-i-test.true (cc) in cc h

pub returns-then-at-clause-back : goal.returns-then-at-clause-back
returns-then-at-clause-back c = let h = from_found (stops c.args.stop) c.args.text.now c.loop-i.i c.loop-i.invariant c.loop-i-test.true (cc) in cc h

pub returns-clause-front : goal.returns-clause-front
returns-clause-front c = until_end (stops c.args.stop) c.args.text.now c.loop-i.i c.loop-i.invariant c.loop-i-test.false

pub returns-clause-back : goal.returns-clause-back
returns-clause-back c = let h = from_end (stops c.args.stop) c.args.text.now c.loop-i.i c.loop-i.invariant c.loop-i-test.false in cc h
