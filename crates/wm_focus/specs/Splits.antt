-- Splitting containers, and the layouts of what holds them.
use Rattle.std.specs.Prelude.{◌≡◌, Bool, true, false, ◌&&◌, ◌||◌, not, if◌then◌else◌, Option, None, Some, is_none}
use Rattle.std.specs.Option.{option_or}
use Rattle.wm_base.specs.declared.errors.ErrorText.TheVariants as texts
use Rattle.wm_base.specs.declared.errors.Refusal.{Refusal}
use Rattle.wm_base.specs.declared.ids.ConId.{ConId}
use Rattle.wm_base.specs.declared.plan.Layout.{Layout}
use Rattle.wm_base.specs.declared.plan.Layout.TheVariants.{SplitH, SplitV, Stacked, Tabbed}
use Rattle.wm_focus.specs.declared.splits.Layouts.{Layouts}
use Rattle.wm_focus.specs.declared.splits.Target.{Target}
use Rattle.wm_shared.specs.Refusing.{error_if, full_error}
use Rattle.wm_shared.specs.Subject.{is_hidden, is_space}
use Rattle.wm_language.specs.declared.arguments.Cycle.{Cycle}
use Rattle.wm_language.specs.declared.arguments.Cycle.TheVariants as cycles
use Rattle.wm_language.specs.declared.arguments.LayoutArg.{LayoutArg}
use Rattle.wm_language.specs.declared.arguments.LayoutArg.TheVariants as layouts
use Rattle.wm_language.specs.declared.arguments.SplitArg.{SplitArg}
use Rattle.wm_language.specs.declared.arguments.SplitArg.TheVariants as splits
use Rattle.wm_forest.specs.declared.kind.KindEdit.TheVariants as edits
use Rattle.wm_forest.specs.declared.part.ConKind.{ConKind}
use Rattle.wm_forest.specs.declared.part.ConKind.TheVariants.{Split, Window, Placeholder}
use Rattle.wm_forest.specs.declared.part.ConPart.{ConPart}
use Rattle.wm_forest.specs.declared.part.SpacePart.{SpacePart}
use Rattle.wm_forest.specs.Look.{con_kind, first_kids, kind_of, nth_id, only, space_kind}
use Rattle.wm_tree.specs.Move.{passed_by_wrap, wrapped}
use Rattle.wm_tree.specs.TreeValue.{TreeValue, is_tiled_con, or_id, parent}
use Rattle.wm_tree.specs.Words.{edited}

-- ---- whose layout it is

-- the node whose layout a command on c sets: a workspace's own, else that of c's parent
abbrev pub laid : TreeValue → ConId → ConId
laid t c = if is_space t c then c else or_id (parent t c) c

-- the layout and the last split layout of a split; others are as new workspaces are
abbrev pub split_layouts : ConKind → Layouts
split_layouts (Split layout last) = record { now = layout; last = last }
split_layouts (Window props owner natural) = record { now = SplitH; last = SplitH }
split_layouts (Placeholder props swallows) = record { now = SplitH; last = SplitH }

abbrev pub layouts_by : Option SpacePart → Option ConPart → Layouts
layouts_by (Some space) con = record { now = space.layout; last = space.last_split }
layouts_by None (Some con) = split_layouts con.kind
layouts_by None None = record { now = SplitH; last = SplitH }

-- those of a workspace or split
abbrev pub layouts_of : TreeValue → ConId → Layouts
layouts_of t c = layouts_by (kind_of space_kind c t.nodes) (kind_of con_kind c t.nodes)

-- the node whose layout a command on c sets, with its layouts, and whether it is c itself
pub record IsTarget (x : Target) (c : ConId) (t : TreeValue) : Type 0 where
  pub at : x.at ≡ laid t c
  pub layouts : x.layouts ≡ layouts_of t (laid t c)
  pub own : x.own ≡ is_space t c

-- the tree in which that node has this layout
abbrev pub laid_as : ConId → Layout → TreeValue → TreeValue
laid_as c layout t = edited (laid t c) (edits.Layout layout) t

-- a layout is set beside tiled containers and in workspaces, not for a floating window, nor in the scratchpad
abbrev pub layout_refusal : ConId → TreeValue → Option Refusal
layout_refusal c t =
    error_if (is_hidden t c) texts.NoWorkspace (error_if (not (is_space t c) && not (is_tiled_con t c)) texts.NotTiled None)

-- ---- setting a layout

abbrev pub set_layout_refusal : ConId → LayoutArg → TreeValue → Option Refusal
set_layout_refusal c arg t = layout_refusal c t

abbrev pub chosen : LayoutArg → Layout → Layout
chosen layouts.Default last = last
chosen layouts.SplitH last = SplitH
chosen layouts.SplitV last = SplitV
chosen layouts.Tabbed last = Tabbed
chosen layouts.Stacked last = Stacked

abbrev pub set_layout_tree : ConId → LayoutArg → TreeValue → TreeValue
set_layout_tree c arg t = laid_as c (chosen arg (layouts_of t (laid t c)).last) t

-- ---- the next layout

-- between the two splits, and to the last one from another layout
abbrev pub next_split : Layout → Layout → Layout
next_split SplitH last = SplitV
next_split SplitV last = SplitH
next_split Tabbed last = last
next_split Stacked last = last

-- from stacked to tabbed, from there to the last split, and to stacked
abbrev pub next_shown : Layout → Layout → Layout
next_shown SplitH last = Stacked
next_shown SplitV last = Stacked
next_shown Tabbed last = last
next_shown Stacked last = Tabbed

-- round all four
abbrev pub next_of_all : Layout → Layout
next_of_all SplitH = SplitV
next_of_all SplitV = Stacked
next_of_all Tabbed = SplitH
next_of_all Stacked = Tabbed

abbrev pub next_layout : Cycle → Layouts → Layout
next_layout cycles.Bare l = next_shown l.now l.last
next_layout cycles.Split l = next_split l.now l.last
next_layout cycles.All l = next_of_all l.now

abbrev pub cycle_layout_refusal : ConId → Cycle → TreeValue → Option Refusal
cycle_layout_refusal c arg t = layout_refusal c t

abbrev pub cycle_layout_tree : ConId → Cycle → TreeValue → TreeValue
cycle_layout_tree c arg t = laid_as c (next_layout arg (layouts_of t (laid t c))) t

-- ---- splitting

-- the other split than splith
abbrev pub other_split : Layout → Layout
other_split SplitH = SplitV
other_split SplitV = SplitH
other_split Tabbed = SplitH
other_split Stacked = SplitH

-- the split layout that is asked for, where the layout there is this one
abbrev pub asked_split : SplitArg → Layout → Layout
asked_split splits.H now = SplitH
asked_split splits.V now = SplitV
asked_split splits.Toggle now = other_split now

abbrev pub is_plain_split : Layout → Bool
is_plain_split SplitH = true
is_plain_split SplitV = true
is_plain_split Tabbed = false
is_plain_split Stacked = false

-- the node has no second child
abbrev pub has_no_second : TreeValue → ConId → Bool
has_no_second t c = is_none (nth_id 1 (first_kids (only c t.nodes)))

-- the layout is given to the node around: to a workspace itself, and to the parent of an only child, which is splith
-- or splitv
abbrev pub gives_layout : TreeValue → ConId → Bool
gives_layout t c = is_space t c || (has_no_second t (laid t c) && is_plain_split (layouts_of t (laid t c)).now)

abbrev pub split_refusal : ConId → SplitArg → TreeValue → Option Refusal
split_refusal c arg t =
    option_or (layout_refusal c t) (if gives_layout t c then None else full_error (passed_by_wrap c t.nodes t.next_id))

-- c in a new split with the layout, or the layout given to the node around
abbrev pub split_as : ConId → Layout → TreeValue → TreeValue
split_as c layout t = if gives_layout t c then laid_as c layout t else wrapped c layout t

abbrev pub split_tree : ConId → SplitArg → TreeValue → TreeValue
split_tree c arg t = split_as c (asked_split arg (layouts_of t (laid t c)).now) t
