use Rattle.std.proofs.Common.{◌∙◌, [], Some, ap, sym}
use Rattle.wm_tool.specs.Ending.{rest_ending}
use Rattle.wm_tool.proofs.FramesLemmas.{fed_left, fed_long, fed_magic}
use Rattle.wm_tool.proofs.run.feed_all.Goals as goal

pub returns-in-Ok-clause-ends : goal.returns-in-Ok-clause-ends
returns-in-Ok-clause-ends c =
    let s = c.in-Ok.ensures.stands (λ e. cc) [] [] c.requires.fresh in
    c.frames_left.ensures ∙ (ap (λ n. rest_ending n) c.rest.ensures ∙ fed_left c.args.bytes.now c.feed.new.self s c.in-Ok.ensures.ok)

pub returns-in-Ok-clause-queue : goal.returns-in-Ok-clause-queue
returns-in-Ok-clause-queue c = sym (c.in-Ok.ensures.stands (λ e. cc) [] [] c.requires.fresh).each

pub returns-in-Err-Magic-clause-ends : goal.returns-in-Err-Magic-clause-ends
returns-in-Err-Magic-clause-ends c =
    let s = c.in-Err-Magic.ensures.stands (λ e. cc) [] [] c.requires.fresh in
    fed_magic c.args.bytes.now c.feed.new.self c.in-Err-Magic.at s c.requires.within (c.in-Err-Magic.ensures.fault (λ e. cc) ∙ ap (λ e. Some e) c.in-Err-Magic.field-0-is)

pub returns-in-Err-Magic-clause-queue : goal.returns-in-Err-Magic-clause-queue
returns-in-Err-Magic-clause-queue c = sym (c.in-Err-Magic.ensures.stands (λ e. cc) [] [] c.requires.fresh).each

pub returns-in-Err-TooLong-clause-ends : goal.returns-in-Err-TooLong-clause-ends
returns-in-Err-TooLong-clause-ends c =
    let s = c.in-Err-TooLong.ensures.stands (λ e. cc) [] [] c.requires.fresh in
    fed_long c.args.bytes.now c.feed.new.self c.in-Err-TooLong.at c.in-Err-TooLong.field-0-1 s c.requires.within (c.in-Err-TooLong.ensures.fault (λ e. cc) ∙ ap (λ e. Some e) c.in-Err-TooLong.field-0-is)

pub returns-in-Err-TooLong-clause-queue : goal.returns-in-Err-TooLong-clause-queue
returns-in-Err-TooLong-clause-queue c = sym (c.in-Err-TooLong.ensures.stands (λ e. cc) [] [] c.requires.fresh).each
