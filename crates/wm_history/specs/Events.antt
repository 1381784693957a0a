-- The events of a history: what each step tells of the trees before and after it, and beside.
use Rattle.std.specs.Prelude.{◌≡◌, ℕ, Bool, not, ◌&&◌, if◌then◌else◌, List, [], ◌∷◌, ◌++◌, Option, None, Some}
use Rattle.std.specs.Str.{bytes_eq}
use Rattle.wm_arrange.specs.Arranged.{arranged}
use Rattle.wm_changes.specs.Changes.{changes}
use Rattle.wm_json.specs.declared.views.EventBody.{EventBody}
use Rattle.wm_json.specs.declared.views.EventBody.TheVariants as body
use Rattle.wm_kept.specs.Log.{Log, kept_of}
use Rattle.wm_tree.specs.TreeValue.{TreeValue}
use Rattle.wm_history.specs.Effect.{Effect, mode_after}
use Rattle.wm_history.specs.History.{Entry, Start, effect_after, mode, stopped, tree}

-- the mode changed
abbrev pub mode_events : List ℕ → List ℕ → List EventBody
mode_events before after = if bytes_eq after before then [] else body.Mode after ∷ []

-- a tick came, or a key was bound
abbrev pub own_events : Option EventBody → List EventBody
own_events None = []
own_events (Some event) = event ∷ []

-- the desk became stopped
abbrev pub stop_events : Bool → Bool → List EventBody
stop_events before stops = if not before && stops then body.Shutdown ∷ [] else []

-- what is told beside the trees, in this mode, of a desk that is stopped or not: by the mode that is set, if any, whether the
-- desk stops, and the event of the step itself, if any
abbrev pub later_events : List ℕ → Bool → Option (List ℕ) → Bool → Option EventBody → List EventBody
later_events mode stopped set stops event = mode_events mode (mode_after set mode) ++ (own_events event ++ stop_events stopped stops)

-- what is told of an effect on this tree, in this mode, of a desk that is stopped or not
abbrev pub told_by : TreeValue → List ℕ → Bool → Effect → List EventBody
told_by t mode stopped e = changes t (arranged t) e.tree (arranged e.tree) ++ later_events mode stopped e.mode e.stops e.event

-- all events of a history, the oldest first
abbrev pub events : Start → List Entry → List EventBody
events start [] = []
events start (entry ∷ history) = events start history ++ told_by (tree start history) (mode start history) (stopped start history) (effect_after start history entry)

-- the log is the other one after these were told too, whatever was told before
abbrev pub IsToldOn : Log → List EventBody → Log → Type 0
IsToldOn old bodies new = (all : List EventBody) → old ≡ kept_of all → new ≡ kept_of (all ++ bodies)
