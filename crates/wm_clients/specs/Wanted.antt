-- What is asked of a client's windows, and the greatest numbers of it that were sent.
use Rattle.std.specs.Prelude.{ℕ, max, List, [], ◌∷◌}
use Rattle.std.specs.List.{flat_map}
use Rattle.wm_history.specs.declared.look.Query.{Query}
use Rattle.wm_history.specs.declared.look.Query.TheVariants as query
use Rattle.wm_history.specs.declared.look.View.{View}
use Rattle.wm_history.specs.declared.look.View.TheVariants as view
use Rattle.wm_history.specs.declared.state.Want.{Want}
use Rattle.wm_history.specs.declared.state.Want.TheVariants as want
use Rattle.wm_lines.specs.Told.{want_text}
use Rattle.wm_clients.specs.declared.sent.Sent.{Sent}

-- nothing was sent
abbrev pub NONE_SENT : Sent
NONE_SENT = record { serial = 0; kill = 0 }

-- the question for what is above the numbers that were sent
abbrev pub wants_above : Sent → Query
wants_above sent = query.Wants sent.serial sent.kill

-- what a view says is asked of windows
abbrev pub wants_in : View → List Want
wants_in (view.Wants wants) = wants
wants_in other = []

-- the lines of all that is asked
abbrev pub wants_text : List Want → List ℕ
wants_text wants = flat_map want_text wants

-- the greatest numbers after one more line, and after more of them
abbrev pub after_want : Want → Sent → Sent
after_want (want.Configure con serial size) sent = record sent { serial = max sent.serial serial }
after_want (want.Kill con number) sent = record sent { kill = max sent.kill number }

abbrev pub after_wants : List Want → Sent → Sent
after_wants [] sent = sent
after_wants (want ∷ wants) sent = after_wants wants (after_want want sent)
