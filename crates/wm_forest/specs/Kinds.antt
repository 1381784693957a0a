-- What a change of one node makes of it.
use Rattle.std.specs.Prelude.{ℕ, List, Bool, true, false}
use Rattle.wm_base.specs.declared.geometry.Size.{Size}
use Rattle.wm_base.specs.declared.plan.Layout.{Layout}
use Rattle.wm_base.specs.declared.plan.Layout.TheVariants as layouts
use Rattle.wm_base.specs.declared.properties.Props.{Props}
use Rattle.wm_forest.specs.declared.part.Part.{Part}
use Rattle.wm_forest.specs.declared.part.NodeKind.{NodeKind}
use Rattle.wm_forest.specs.declared.part.NodeKind.TheVariants.{Root, Output, Space, Con}
use Rattle.wm_forest.specs.declared.part.ConKind.{ConKind}
use Rattle.wm_forest.specs.declared.part.ConKind.TheVariants.{Split, Window, Placeholder}
use Rattle.wm_forest.specs.declared.kind.KindEdit.{KindEdit}
use Rattle.wm_forest.specs.declared.kind.KindEdit.TheVariants as edits
use Rattle.wm_forest.specs.Forest.{Forest, con}

-- a container
abbrev pub is_con_kind : NodeKind → Bool
is_con_kind (Root c) = false
is_con_kind (Output o) = false
is_con_kind (Space s) = false
is_con_kind (Con c) = true

-- the last of the two split layouts that a node had, when it takes this layout
abbrev pub last_split_of : Layout → Layout → Layout
last_split_of layouts.SplitH was = layouts.SplitH
last_split_of layouts.SplitV was = layouts.SplitV
last_split_of layouts.Tabbed was = was
last_split_of layouts.Stacked was = was

-- a split with another layout; windows and placeholders have none
abbrev pub laid_out : Layout → ConKind → ConKind
laid_out l (Split layout last) = Split l (last_split_of l last)
laid_out l (Window props owner natural) = Window props owner natural
laid_out l (Placeholder props swallows) = Placeholder props swallows

-- a window or placeholder with another title
abbrev pub titled : List ℕ → ConKind → ConKind
titled t (Split layout last) = Split layout last
titled t (Window props owner natural) = Window (record props { title = t }) owner natural
titled t (Placeholder props swallows) = Placeholder (record props { title = t }) swallows

-- a placeholder that becomes this window; others stay as they are
abbrev pub filled : Props → ℕ → Size → ConKind → ConKind
filled props owner natural (Split layout last) = Split layout last
filled props owner natural (Window p o n) = Window p o n
filled props owner natural (Placeholder p swallows) = Window props owner natural

-- what a change makes of a node; a node that it is not for stays as it was
abbrev pub changed : KindEdit → NodeKind → NodeKind
changed (edits.Share s) (Con c) = Con (record c { share = s })
changed (edits.Layout l) (Con c) = Con (record c { kind = laid_out l c.kind })
changed (edits.Layout l) (Space s) = Space (record s { layout = l; last_split = last_split_of l s.last_split })
changed (edits.State s) (Con c) = Con (record c { state = s })
changed (edits.Title t) (Con c) = Con (record c { kind = titled t c.kind })
changed (edits.TitleFormat t) (Con c) = Con (record c { title_format = t })
changed (edits.Fill props owner natural) (Con c) = Con (record c { kind = filled props owner natural c.kind })
changed (edits.Name n) (Space s) = Space (record s { name = n })
changed (edits.Gaps inner outer) (Space s) = Space (record s { inner = inner; outer = outer })
changed (edits.Reserved e) (Output o) = Output (record o { reserved = e })
changed (edits.Shown w) (Output o) = Output (record o { shown = w })
changed (edits.Current o) (Root c) = Root o
changed edit kind = kind

-- the change of a node's kind, the rest of it as it was
abbrev pub kind_changed : KindEdit → Part → Forest → Forest → Forest → Forest
kind_changed edit part kids floats rest = con (record part { kind = changed edit part.kind }) kids floats rest
