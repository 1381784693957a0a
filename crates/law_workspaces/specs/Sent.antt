-- A law of sending containers to workspaces.
use Rattle.std.specs.Prelude.{◌≡◌, ℕ, ◌+◌, List, [], ◌∷◌, ◌++◌}
use Rattle.wm_base.specs.declared.ids.ConId.{ConId}
use Rattle.wm_language.specs.declared.arguments.Target.{Target}
use Rattle.wm_spaces.specs.declared.targets.Goal.TheVariants.{There, Absent}
use Rattle.wm_spaces.specs.Sending.{send_to_tree}
use Rattle.wm_spaces.specs.Targets.{goal_of}
use Rattle.wm_tree.specs.TreeValue.{TreeValue}
use Rattle.wm_forest.specs.RootId.{id}

-- sending a container to a workspace that is there changes the nodes alone: all of them, the container too, keep their
-- order of recency, and what is urgent and the previous name stay
abbrev pub SendsInOrder : Type 0
SendsInOrder =
    (c w : ConId) (target : Target) (homes : List (List ℕ × List ℕ)) (t : TreeValue) → goal_of target t ≡ There w
    → send_to_tree c target homes t ≡ record t { nodes = (send_to_tree c target homes t).nodes }

-- where the workspace is made for it, that is the least recent of all, and the others keep their order
abbrev pub SendsNewInOrder : Type 0
SendsNewInOrder =
    (c : ConId) (n : List ℕ) (target : Target) (homes : List (List ℕ × List ℕ)) (t : TreeValue) → goal_of target t ≡ Absent n
    → send_to_tree c target homes t ≡ record t { nodes = (send_to_tree c target homes t).nodes; recency = t.recency ++ id t.next_id ∷ []; next_id = t.next_id + 1 }
