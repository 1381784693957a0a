-- What is kept of the events of a desk: the last 4,096 of all that were ever told, numbered from 1.
use Rattle.std.specs.Prelude.{◌≡◌, ℕ, ◌+◌, min, List, [], ◌∷◌, ◌++◌, length, refl}
use Rattle.std.specs.Coded.{Coded, code_by, coded×, coded_ℕ, coded_list}
use Rattle.circular_buffer.specs.Buffer.{keep_last}
use Rattle.wm_json.specs.Kinds.{kind_of}
use Rattle.wm_json.specs.contracts.views.EventView as event
use Rattle.wm_json.specs.declared.views.EventBody.{EventBody}
use Rattle.wm_json.specs.declared.views.EventView.{EventView}

-- the number of the last event ever told, 0 where none was, and the events that are kept, the oldest first
pub record Log : Type 0 where
  pub last : ℕ
  pub events : List EventView

abbrev pub log_code : Coded Log
log_code = code_by (ℕ × List EventView) (coded× coded_ℕ (coded_list event.the_row.coded)) (λ k. (k.last, k.events)) (λ p. record { last = p.0; events = p.1 }) (λ _. refl)

-- these told one after another, where n were told before
abbrev pub numbered : ℕ → List EventBody → List EventView
numbered n [] = []
numbered n (body ∷ bodies) = record { number = n + 1; kind = kind_of body; body = body } ∷ numbered (n + 1) bodies

-- what is kept where these were told ever, in this order: the last 4,096 of them, numbered from 1
abbrev pub kept_of : List EventBody → Log
kept_of all = record { last = length all; events = keep_last 4096 (numbered 0 all) }

-- what is kept after these are told too
abbrev pub told : List EventBody → Log → Log
told bodies log = record { last = log.last + length bodies; events = keep_last 4096 (log.events ++ numbered log.last bodies) }

-- these are numbered one after another, up to last
abbrev pub AreNumbered : ℕ → List EventView → Type 0
AreNumbered last [] = Unit {0}
AreNumbered last (event ∷ events) = (event.number + length events ≡ last) × AreNumbered last events

-- these are the last of so many, numbered one after another: 4,096, or all where there are no more
abbrev pub AreLast : ℕ → List EventView → Type 0
AreLast last events = (length events ≡ min last 4096) × AreNumbered last events
