-- What is told to who knows the events up to a number.
use Rattle.std.specs.Prelude.{ℕ, ◌+◌, ◌-◌, nat_lt, if◌then◌else◌, List, [], ◌∷◌, drop, length}
use Rattle.std.specs.List.{filter}
use Rattle.wm_json.specs.declared.views.EventBody.{EventBody}
use Rattle.wm_json.specs.declared.views.EventView.{EventView}
use Rattle.wm_kept.specs.declared.above.Above.{Above}
use Rattle.wm_kept.specs.declared.above.Above.TheVariants.{Events, Lagged}
use Rattle.wm_kept.specs.Log.{numbered}

-- the number of the first of these, 0 where there is none
abbrev pub oldest : List EventView → ℕ
oldest [] = 0
oldest (event ∷ events) = event.number

-- all of these that are numbered above n; where the one after n is kept no more, the number of the oldest that is
abbrev pub told_above : ℕ → List EventView → Above
told_above n events = if nat_lt (n + 1) (oldest events) then Lagged (oldest events) else Events (filter (λ e. nat_lt n e.number) events)

-- what is told to who knows the first n of all that were ever told: all the others, or, where more than 4,096 came since, the
-- number of the first of the last 4,096
abbrev pub told_since : ℕ → List EventBody → Above
told_since n all = if nat_lt (n + 4096) (length all) then Lagged (length all - 4096 + 1) else Events (drop n (numbered 0 all))
