-- Which containers may be flagged for the scratchpad.
use Rattle.std.specs.Prelude.{◌≡◌, Bool, true, ◌||◌, not}
use Rattle.wm_forest.specs.Change.{is_window_kind}
use Rattle.law_lasting.specs.Each.{Each}
use Rattle.wm_forest.specs.declared.part.NodeKind.{NodeKind}
use Rattle.wm_forest.specs.declared.part.NodeKind.TheVariants.{Root, Output, Space, Con}
use Rattle.wm_tree.specs.TreeValue.{TreeValue}

-- a window, or a node without the flag
abbrev pub may_be_flagged : NodeKind → Bool
may_be_flagged (Root c) = true
may_be_flagged (Output o) = true
may_be_flagged (Space s) = true
may_be_flagged (Con c) = is_window_kind c.kind || not c.state.flagged

-- each flagged container of the tree is a window
abbrev pub FlagsOnlyWindows : TreeValue → Type 0
FlagsOnlyWindows t = Each (λ part. may_be_flagged part.kind ≡ true) t.nodes
