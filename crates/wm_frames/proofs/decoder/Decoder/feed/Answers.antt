use Rattle.std.proofs.Common.{sym, ◌∙◌, ap}
use Rattle.wm_frames.proofs.DecodingLemmas.{takes_stands, fault_stands}
use Rattle.wm_frames.proofs.decoder.Decoder.feed.Goals as goal

pub returns-in-Some-clause-stands : goal.returns-in-Some-clause-stands
returns-in-Some-clause-stands c = λ _ fed given s. fault_stands fed c.args.piece.now given c.args.self.now c.in-Some.fault s (sym (ap (λ d. d.fault) c.self.view_is) ∙ c.in-Some.is)

pub returns-clause-stands : goal.returns-clause-stands
returns-clause-stands c = λ h fed given s. takes_stands fed c.args.piece.now given c.args.self.now c.take.new.self s (sym (ap (λ d. d.fault) c.self.view_is) ∙ c.in_default.is) (c.take.ensures.takes h)
