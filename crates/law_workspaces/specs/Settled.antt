-- Laws of settling, which follows each command: what is shown stays shown, and a step back comes to what is still there.
use Rattle.std.specs.Prelude.{◌≡◌, ℕ, Bool, true, not, List}
use Rattle.law_workspaces.specs.Shown.{IsOnShow}
use Rattle.law_workspaces.specs.Stepped.{step}
use Rattle.wm_base.specs.declared.ids.ConId.{ConId}
use Rattle.wm_shared.specs.Subject.{is_space}
use Rattle.wm_spaces.specs.Shows.{show_tree}
use Rattle.wm_tree.specs.Sound.{IsSound}
use Rattle.wm_tree.specs.TreeValue.{TreeValue, shown}
use Rattle.wm_tree.specs.Words.{settled}

-- a workspace that is focused and shown on its output is so in the settled tree, which has the same previous name
abbrev pub SettlesBeside : Type 0
SettlesBeside = (w o : ConId) (t : TreeValue) → IsSound t → IsOnShow w o t → IsOnShow w o (settled t) × ((settled t).previous ≡ t.previous)

-- `workspace next`, the tree settled behind it, and then `workspace prev`, or the other way round, comes to the workspace
-- that was focused, where that was not taken away as an empty one: whatever else was
abbrev pub StepsBackSettled : Type 0
StepsBackSettled =
    (here back : Bool) (homes : List (List ℕ × List ℕ)) (t : TreeValue) → IsSound t → is_space (settled (show_tree (step here back) homes t)) (shown t) ≡ true
    → shown (show_tree (step here (not back)) homes (settled (show_tree (step here back) homes t))) ≡ shown t
