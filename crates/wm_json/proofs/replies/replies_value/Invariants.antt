use Rattle.std.proofs.Common.{◌≡◌, map, take}
use Rattle.serde_json.specs.View.{view}
use Rattle.wm_json.specs.Replies.{reply_data}
use Rattle.wm_json.proofs.replies.replies_value.Given as goal

-- the values so far are those of the replies so far
abbrev pub invariant-loop-reply : goal.invariant-loop-reply
invariant-loop-reply l = map view l.values.items ≡ map reply_data (take l.reply-index l.r)
