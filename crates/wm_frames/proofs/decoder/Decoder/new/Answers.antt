use Rattle.std.proofs.Common.{refl, ap, ◌∙◌, ◌++◌}
use Rattle.wm_frames.proofs.DecodingLemmas.{new_stands}
use Rattle.wm_frames.proofs.decoder.Decoder.new.Goals as goal

pub returns-clause-stands : goal.returns-clause-stands
returns-clause-stands c = new_stands _ c.new-2.ensures.items (ap (λ xs. xs ++ c.new.result.body.items) c.new.ensures.head ∙ c.new.ensures.body) refl refl
