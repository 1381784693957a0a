-- Laws of floating windows in a round: which one is the next in a direction, in the order of their ids.
use Rattle.std.specs.Prelude.{◌≡◌, ◌<◌, ◌≤◌, true, false, Option, None, Some}
use Rattle.wm_base.specs.declared.geometry.Dir.{Dir}
use Rattle.wm_base.specs.declared.geometry.Dir.TheVariants.{Left, Right, Up, Down}
use Rattle.wm_base.specs.declared.ids.ConId.{ConId}
use Rattle.wm_floats.specs.declared.kinds.Kind.TheVariants as kinds
use Rattle.wm_floats.specs.Kinds.{is_of}
use Rattle.wm_floats.specs.Rounds.{round_to}
use Rattle.wm_focus.specs.Direction.{focus_dir_refusal, focus_dir_tree}
use Rattle.wm_shared.specs.Showing.{focusing}
use Rattle.wm_forest.specs.Forest.{Forest, end}
use Rattle.wm_forest.specs.Look.{first_floats, in_row, only, same}
use Rattle.wm_tree.specs.Sound.{IsSound}
use Rattle.wm_tree.specs.TreeValue.{TreeValue, workspace_of}

-- the floating windows of the workspace, where there is one
abbrev pub windows_of : Option ConId → TreeValue → Forest
windows_of None t = end
windows_of (Some w) t = first_floats (only w t.nodes)

-- n is another one of the row than c. Where an id of the row is greater than c's, n's is the least of those that are;
-- where none is, n's is the least of all
pub record IsNext (c n : ConId) (row : Forest) : Type 0 where
  pub listed : in_row n row ≡ true
  pub other : same n c ≡ false
  pub greater : (o : ConId) → in_row o row ≡ true → c.0 < o.0 → (c.0 < n.0) × (n.0 ≤ o.0)
  pub round : ((o : ConId) → in_row o row ≡ true → o.0 ≤ c.0) → (o : ConId) → in_row o row ≡ true → n.0 ≤ o.0

-- n is another one of the row than c. Where an id of the row is smaller than c's, n's is the greatest of those that are;
-- where none is, n's is the greatest of all
pub record IsBefore (c n : ConId) (row : Forest) : Type 0 where
  pub listed : in_row n row ≡ true
  pub other : same n c ≡ false
  pub smaller : (o : ConId) → in_row o row ≡ true → o.0 < c.0 → (n.0 < c.0) × (o.0 ≤ n.0)
  pub round : ((o : ConId) → in_row o row ≡ true → c.0 ≤ o.0) → (o : ConId) → in_row o row ≡ true → o.0 ≤ n.0

-- right and down is the next one, left and up the one before
abbrev pub IsTowards : Dir → ConId → ConId → Forest → Type 0
IsTowards Left c n row = IsBefore c n row
IsTowards Right c n row = IsNext c n row
IsTowards Up c n row = IsBefore c n row
IsTowards Down c n row = IsNext c n row

-- no window is found exactly where the row has no other one than c
abbrev pub IsFound : Dir → ConId → Forest → Option ConId → Type 0
IsFound d c row None = (o : ConId) → in_row o row ≡ true → same o c ≡ true
IsFound d c row (Some n) = IsTowards d c n row

-- what is found from c is the next one in the direction of the floating windows of its workspace
abbrev pub GoesRound : Type 0
GoesRound = (c : ConId) (d : Dir) (t : TreeValue) → IsSound t → IsFound d c (windows_of (workspace_of t c) t) (round_to d c t)

-- focusing in a direction from a floating window, where that is not refused, focuses the next one in that direction of the
-- floating windows of its workspace
abbrev pub FocusesRound : Type 0
FocusesRound =
    (c : ConId) (d : Dir) (t : TreeValue) → IsSound t → is_of kinds.Floating t c ≡ true → focus_dir_refusal c d t ≡ None
    → (n : ConId) × (focus_dir_tree c d t ≡ focusing n t) × IsTowards d c n (windows_of (workspace_of t c) t)
