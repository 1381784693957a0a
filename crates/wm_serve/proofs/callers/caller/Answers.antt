use Rattle.std.proofs.Common.{◌≡◌, ◌++◌, ◌∙◌, ap}
use Rattle.wm_serve.proofs.CallerLemmas.{added, caller_new}
use Rattle.wm_serve.specs.Callers.{bytes_of, commands, last_text, texts}
use Rattle.wm_serve.proofs.callers.caller.Goals as goal

pub returns : goal.returns
returns c =
    let bytes : c.push_last.new.bytes.items ≡ bytes_of (texts c.args.i) =
    added c.new-bytes.result.items _ _ (commands c.args.i) (commands c.args.i ++ last_text c.args.i) c.in_ok-push_commands.ensures c.in_ok-push_last.ensures
    ∙ ap (λ before. before ++ bytes_of (texts c.args.i)) c.new-bytes.ensures.items in
    caller_new c.args.i c.new-3.result c.push_last.new.bytes.items c.new.result.items c.new-2.result.items bytes c.new.ensures.items c.new-2.ensures.items
    c.new-3.ensures.left c.new-3.ensures.sent c.new-3.ensures.room c.new-3.ensures.fails c.new-3.ensures.quiet c.new-3.ensures.calls c.new-3.ensures.turns c.new-3.ensures.faults
