-- What a client is told over messages and readings of events, one after another.
use Rattle.std.specs.Prelude.{ℕ, ◌<◌, List, [], ◌∷◌, ◌++◌, drop}
use Rattle.std.specs.List.{filter}
use Rattle.wm_history.specs.declared.look.View.{View}
use Rattle.wm_history.specs.declared.look.View.TheVariants as view
use Rattle.wm_frames.specs.declared.message.Message.{Message}
use Rattle.wm_json.specs.declared.views.EventBody.{EventBody}
use Rattle.wm_json.specs.declared.views.EventView.{EventView}
use Rattle.wm_kept.specs.Log.{numbered}
use Rattle.wm_talk.specs.Talking.{after_events, after_reply}
use Rattle.wm_talk.specs.Told.{is_due, replied, told}
use Rattle.wm_talk.specs.declared.got.Got.{Got}
use Rattle.wm_talk.specs.declared.talk.Talk.{Talk}

pub data Mark : Type 0 where
  -- a message, and what its call gave
  asked : Message → Got → Mark
  -- a reading of events
  read : View → Mark

-- the talk after a mark
abbrev pub after_mark : Mark → Talk → Talk
after_mark (asked m g) t = after_reply m g t
after_mark (read v) t = after_events v t

abbrev pub after_marks : List Mark → Talk → Talk
after_marks [] t = t
after_marks (mark ∷ marks) t = after_marks marks (after_mark mark t)

-- what is told at a mark
abbrev pub told_at : Talk → Mark → List Message
told_at t (asked m g) = replied t m g
told_at t (read v) = told t v

abbrev pub told_over : Talk → List Mark → List Message
told_over t [] = []
told_over t (mark ∷ marks) = told_at t mark ++ told_over (after_mark mark t) marks

-- the events that were read
abbrev pub events_in : View → List EventView
events_in (view.Events events) = events
events_in other = []

-- the events that are told at a mark, beside a first tick
abbrev pub events_at : Talk → Mark → List EventView
events_at t (asked m g) = []
events_at t (read v) = filter (is_due t.since) (events_in v)

abbrev pub events_over : Talk → List Mark → List EventView
events_over t [] = []
events_over t (mark ∷ marks) = events_at t mark ++ events_over (after_mark mark t) marks

-- the numbers of the events rise, the first being above n
abbrev pub Rise : ℕ → List EventView → Type 0
Rise n [] = Unit {0}
Rise n (event ∷ events) = (n < event.number) × Rise event.number events

-- a reading was asked with the number that the talk had then: it has events above it, by rising number
abbrev pub Answers : Talk → Mark → Type 0
Answers t (asked m g) = Unit {0}
Answers t (read v) = Rise t.above (events_in v)

abbrev pub AllAnswer : Talk → List Mark → Type 0
AllAnswer t [] = Unit {0}
AllAnswer t (mark ∷ marks) = Answers t mark × AllAnswer (after_mark mark t) marks

-- the reading of all events but the first n
abbrev pub behind : ℕ → List EventBody → View
behind n all = view.Events (drop n (numbered 0 all))
