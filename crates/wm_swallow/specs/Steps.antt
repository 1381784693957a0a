-- The steps of appending, one by one, and that none of them passes a limit.
use Rattle.std.specs.Prelude.{◌≡◌, ℕ, true, false, List, [], ◌∷◌, None, ⊤}
use Rattle.wm_base.specs.declared.ids.ConId.{ConId}
use Rattle.wm_focus.specs.Marks.{given_mark, mark_refusal}
use Rattle.wm_forest.specs.declared.place.Place.TheVariants.{Last}
use Rattle.wm_forest.specs.Look.{has}
use Rattle.wm_forest.specs.Place.{IsPlace, passed_limit}
use Rattle.wm_forest.specs.RootId.{id}
use Rattle.wm_shared.specs.Subject.{is_container}
use Rattle.wm_swallow.specs.Appending.{appended, come, come_marked}
use Rattle.wm_swallow.specs.SavedRows.{Saved, none, saved}
use Rattle.wm_tree.specs.TreeValue.{TreeValue}

-- p is a workspace or a split that is there, and one more container in it passes no limit
pub record IsRoomIn (p : ConId) (t : TreeValue) : Type 0 where
  pub there : has p t.nodes ≡ true
  pub place : IsPlace (Last p) t.nodes
  pub free : passed_limit (Last p) t.nodes t.next_id ≡ None

-- c is a container, and none of the marks passes a limit when it is given to c after those before it
abbrev pub IsRoomFor : ConId → List (List ℕ) → TreeValue → Type 0
IsRoomFor c [] t = ⊤
IsRoomFor c (m ∷ ms) t = (is_container t c ≡ true) × (mark_refusal c m true false t ≡ None) × IsRoomFor c ms (given_mark c m true t)

-- no step of appending the row to p passes a limit
abbrev pub IsFree : ConId → Saved → TreeValue → Type 0
IsFree p none t = ⊤
IsFree p (saved border marks newcomer kids rest) t =
    IsRoomIn p t × IsRoomFor (id t.next_id) marks (come p border newcomer t) × IsFree (id t.next_id) kids (come_marked p border marks newcomer t)
    × IsFree p rest (appended (id t.next_id) kids (come_marked p border marks newcomer t))
