-- Laws of `split`: the layout that is then around its subject, and where that stands.
use Rattle.std.specs.Prelude.{◌≡◌, true, None}
use Rattle.law_layouts.specs.Layouts.{layouts_at}
use Rattle.wm_base.specs.declared.ids.ConId.{ConId}
use Rattle.wm_base.specs.declared.plan.Layout.TheVariants.{SplitH, SplitV}
use Rattle.wm_focus.specs.Splits.{other_split, split_refusal, split_tree}
use Rattle.wm_language.specs.declared.arguments.SplitArg.{SplitArg}
use Rattle.wm_language.specs.declared.arguments.SplitArg.TheVariants as splits
use Rattle.wm_shared.specs.Subject.{IsSubject}
use Rattle.wm_tree.specs.TreeValue.{TreeValue, focused, is_tiled_con, workspace_of}

-- after `split h` that is not refused, a workspace or the parent of a tiled container has the layout splith
abbrev pub SplitHIsSplitH : Type 0
SplitHIsSplitH = (c : ConId) (t : TreeValue) → IsSubject t c → split_refusal c splits.H t ≡ None → (layouts_at c (split_tree c splits.H t)).now ≡ SplitH

-- after `split v` it has splitv
abbrev pub SplitVIsSplitV : Type 0
SplitVIsSplitV = (c : ConId) (t : TreeValue) → IsSubject t c → split_refusal c splits.V t ≡ None → (layouts_at c (split_tree c splits.V t)).now ≡ SplitV

-- after `split toggle` it has splitv where splith was, and else splith
abbrev pub SplitToggleIsOther : Type 0
SplitToggleIsOther = (c : ConId) (t : TreeValue) → IsSubject t c → split_refusal c splits.Toggle t ≡ None → (layouts_at c (split_tree c splits.Toggle t)).now ≡ other_split (layouts_at c t).now

-- a tiled container is tiled still after a `split` that is not refused
abbrev pub SplitKeepsTiled : Type 0
SplitKeepsTiled = (c : ConId) (arg : SplitArg) (t : TreeValue) → IsSubject t c → split_refusal c arg t ≡ None → is_tiled_con t c ≡ true → is_tiled_con (split_tree c arg t) c ≡ true

-- and in the same workspace
abbrev pub SplitKeepsWorkspace : Type 0
SplitKeepsWorkspace = (c : ConId) (arg : SplitArg) (t : TreeValue) → IsSubject t c → split_refusal c arg t ≡ None → workspace_of (split_tree c arg t) c ≡ workspace_of t c

-- what was focused is focused still
abbrev pub SplitKeepsFocus : Type 0
SplitKeepsFocus = (c : ConId) (arg : SplitArg) (t : TreeValue) → IsSubject t c → split_refusal c arg t ≡ None → focused (split_tree c arg t) ≡ focused t
