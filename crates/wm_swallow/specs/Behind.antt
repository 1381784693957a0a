-- What stands behind saved containers in a layout.
use Rattle.std.specs.Prelude.{◌≡◌, ℕ, ◌+◌, ◌<◌, Bool, List, [], ◌++◌, Option, MatchOption}
use Rattle.wm_swallow.specs.Limits.{different}
use Rattle.wm_swallow.specs.SavedRows.{all_marks, rows}
use Rattle.wm_swallow.specs.declared.behind.Behind.{Behind, Nothing, Row'}

-- the marks of all containers behind some, in order
abbrev pub behind_marks : Behind → List (List ℕ)
behind_marks Nothing = []
behind_marks (Row' nodes _ behind) = all_marks (rows nodes.now) ++ behind_marks behind

-- what is left of the room when the marks in front take their places, before those behind: one less for each different mark that
-- is not known and does not stand behind. None where there is not enough
abbrev pub IsRoomLeft : (List ℕ → Bool) → List (List ℕ) → List (List ℕ) → ℕ → Option ℕ → Type 0
IsRoomLeft known front behind room result =
    MatchOption result (room + different known behind < different known (front ++ behind)) (λ left. left + different known (front ++ behind) ≡ room + different known behind)
