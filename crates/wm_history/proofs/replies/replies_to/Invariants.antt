use Rattle.std.proofs.Common.{◌≡◌, map, take}
use Rattle.wm_history.specs.Effect.{reply_to}
use Rattle.wm_history.proofs.replies.replies_to.Given as goal

-- the replies so far are those to the first ones
abbrev pub invariant-loop-reply : goal.invariant-loop-reply
invariant-loop-reply l = l.all.items ≡ map reply_to (take l.reply-index l.replies)
