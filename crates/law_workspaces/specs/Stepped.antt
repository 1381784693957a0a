-- A law of the next and the previous workspace.
use Rattle.std.specs.Prelude.{◌≡◌, ℕ, Bool, true, false, not, List}
use Rattle.wm_language.specs.declared.arguments.Target.{Target}
use Rattle.wm_language.specs.declared.arguments.Target.TheVariants as targets
use Rattle.wm_spaces.specs.Shows.{show_tree}
use Rattle.wm_tree.specs.Sound.{IsSound}
use Rattle.wm_tree.specs.TreeValue.{TreeValue, shown}

-- the neighbour in the order of workspaces, back or on, among those of the current output (`here`) or among all
abbrev pub step : Bool → Bool → Target
step false false = targets.Next
step false true = targets.Prev
step true false = targets.NextOnOutput
step true true = targets.PrevOnOutput

-- `workspace next` and then `workspace prev`, or the other way round, comes to the workspace that was focused, and so do
-- the two among the workspaces of the current output: with numbered names and others, however few workspaces there are,
-- since ids break ties, and the end of the order goes on at its beginning. The tree between them keeps all workspaces:
-- where an empty one is taken away as soon as it is not shown, there is no way back to it
abbrev pub StepsBack : Type 0
StepsBack =
    (here back : Bool) (homes : List (List ℕ × List ℕ)) (t : TreeValue) → IsSound t
    → shown (show_tree (step here (not back)) homes (show_tree (step here back) homes t)) ≡ shown t
