use Rattle.std.proofs.Common.{◌+◌, sym, ◌∙◌, ap, drop}
use Rattle.std.proofs.lemmas.List.{take_rest}
use Rattle.wm_frames.specs.Reading.{with_first, reading}
use Rattle.wm_frames.proofs.ReadingLemmas.{reading-whole, reading-not_whole}
use Rattle.wm_frames.proofs.whole.first_frame.Goals as goal

pub returns-in_ok-message-in-Whole-clause-some : goal.returns-in_ok-message-in-Whole-clause-some
returns-in_ok-message-in-Whole-clause-some c =
    reading-whole c.args.bytes.now c.in-Whole.len (sym c.in-Whole.ensures.front)
    ∙ ap (λ m. with_first m (reading (drop (14 + c.in-Whole.len) c.args.bytes.now))) (sym c.in_ok-message-in-Whole.ensures)
    ∙ ap (λ xs. with_first c.in_ok-message-in-Whole.message (reading xs)) (sym (take_rest c.args.bytes.now (14 + c.in-Whole.len)))

pub returns-in_default : goal.returns-in_default
returns-in_default c = record {
  some = tt;
  shorter = tt;
  none = reading-not_whole c.args.bytes.now (λ n e. c.in_default.not-Whole n (c.read_front.ensures.front ∙ e));
}
