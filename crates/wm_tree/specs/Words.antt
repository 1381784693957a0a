-- The words in which trees change: each gives the tree back where the node is not there.
use Rattle.std.specs.Prelude.{◌≡◌, ◌+◌, true, false, List, [], ◌∷◌, ◌++◌, None, Some}
use Rattle.wm_base.specs.declared.ids.ConId.{ConId}
use Rattle.wm_forest.specs.declared.kind.KindEdit.{KindEdit}
use Rattle.wm_forest.specs.declared.place.Place.{Place}
use Rattle.wm_forest.specs.declared.place.NewCon.{NewCon}
use Rattle.wm_tree.specs.declared.refusal.TreeRefusal.{TreeRefusal}
use Rattle.wm_tree.specs.declared.refusal.TreeRefusal.TheVariants as refusals
use Rattle.wm_forest.specs.declared.shares.Sibling.{Sibling}
use Rattle.wm_forest.specs.Forest.{end, con}
use Rattle.wm_forest.specs.Change.{at, raised_at, settled_row, without}
use Rattle.wm_forest.specs.Kinds.{kind_changed}
use Rattle.wm_forest.specs.Look.{has, only}
use Rattle.wm_forest.specs.Place.{named, new_part, passed_limit, put, rect_at, share_at}
use Rattle.wm_forest.specs.Recency.{outside, raised, without_id}
use Rattle.wm_forest.specs.Settle.{vacated}
use Rattle.wm_forest.specs.Shares.{shares_word}
use Rattle.wm_forest.specs.SoundRow.{HasShare}
use Rattle.wm_tree.specs.TreeValue.{TreeValue, workspace_of}
use Rattle.wm_forest.specs.RootId.{id}

-- a newcomer at the place, under the next id, the least recent of all
abbrev pub attached : Place → NewCon → TreeValue → TreeValue
attached p newcomer t = record t {
  nodes = put p (con (new_part (id t.next_id) (share_at p t.nodes) t.border (rect_at p) newcomer) end end end) t.nodes;
  recency = t.recency ++ id t.next_id ∷ [];
  next_id = t.next_id + 1;
}

-- the tree without the node c and what is below it
abbrev pub detached : ConId → TreeValue → TreeValue
detached c t = record t {
  nodes = without c t.nodes;
  recency = outside (only c t.nodes) t.recency;
  urgent = outside (only c t.nodes) t.urgent;
}

-- the tree with a change of the node c
abbrev pub edited : ConId → KindEdit → TreeValue → TreeValue
edited c edit t = record t { nodes = at c kind_changed edit t.nodes }

-- the tree in which those children of c that are listed, in the order in which they stand, have the shares listed
abbrev pub with_shares : ConId → List Sibling → TreeValue → TreeValue
with_shares c siblings t = record t { nodes = at c shares_word siblings t.nodes }

-- each of the shares is one that a tiled container may have
abbrev pub AreShares : List Sibling → Type 0
AreShares [] = Unit {0}
AreShares (s ∷ siblings) = HasShare true s.share × AreShares siblings

-- the node c is the most recent, no longer urgent, the last of the floating windows where it is one of them,
-- and no other container of its workspace is fullscreen
abbrev pub with_raised : ConId → TreeValue → TreeValue
with_raised c t = record t {
  nodes = raised_at c (workspace_of t c) t.nodes;
  recency = raised c t.recency;
  urgent = without_id c t.urgent;
}

-- the tree without splits that have no children, and then without workspaces that have no containers and are not shown
abbrev pub settled : TreeValue → TreeValue
settled t = record t { nodes = settled_row None t.nodes; recency = outside (vacated None t.nodes) t.recency }

-- why putting a newcomer at a place was refused
abbrev pub IsAttachCause : TreeValue → Place → TreeRefusal → Type 0
IsAttachCause t p (refusals.Missing c) = (c ≡ named p) × (has (named p) t.nodes ≡ false)
IsAttachCause t p (refusals.Full limit) = (has (named p) t.nodes ≡ true) × (passed_limit p t.nodes t.next_id ≡ Some limit)
IsAttachCause t p refusals.NoMemory = (has (named p) t.nodes ≡ true) × (passed_limit p t.nodes t.next_id ≡ None)
