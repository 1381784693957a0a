-- Laws of `layout toggle`: so many of them give the layout back that was.
use Rattle.std.specs.Prelude.{◌≡◌, ◌⊎◌, true, None}
use Rattle.wm_base.specs.declared.ids.ConId.{ConId}
use Rattle.wm_base.specs.declared.plan.Layout.{Layout}
use Rattle.wm_base.specs.declared.plan.Layout.TheVariants.{SplitV}
use Rattle.wm_focus.specs.declared.splits.Layouts.{Layouts}
use Rattle.wm_focus.specs.Splits.{cycle_layout_refusal, cycle_layout_tree, is_plain_split, laid, laid_as, layouts_of}
use Rattle.wm_forest.specs.Kinds.{last_split_of}
use Rattle.wm_language.specs.declared.arguments.Cycle.TheVariants as cycles
use Rattle.wm_shared.specs.Subject.{IsSubject}
use Rattle.wm_tree.specs.TreeValue.{TreeValue}

-- the layout that a command on c would change, and the last split layout there: those of a workspace, or of the parent of
-- a tiled container
abbrev pub layouts_at : ConId → TreeValue → Layouts
layouts_at c t = layouts_of t (laid t c)

-- ---- `layout toggle split`

abbrev pub split_toggled : ConId → TreeValue → TreeValue
split_toggled c t = cycle_layout_tree c cycles.Split t

-- from splith or splitv, `layout toggle split` twice leaves what setting the layout that was leaves: the last split
-- layout may have been the other one, and is then the one that was set
abbrev pub SplitTogglesAsSet : Type 0
SplitTogglesAsSet = (c : ConId) (t : TreeValue) → is_plain_split (layouts_at c t).now ≡ true → split_toggled c (split_toggled c t) ≡ laid_as c (layouts_at c t).now t

-- from splith or splitv, which is also the last split layout, `layout toggle split` twice gives the tree back
abbrev pub SplitTogglesBack : Type 0
SplitTogglesBack = (c : ConId) (t : TreeValue) → is_plain_split (layouts_at c t).now ≡ true → (layouts_at c t).last ≡ (layouts_at c t).now → split_toggled c (split_toggled c t) ≡ t

-- ---- `layout toggle all`

abbrev pub all_toggled : ConId → TreeValue → TreeValue
all_toggled c t = cycle_layout_tree c cycles.All t

-- from any layout, `layout toggle all` four times leaves what setting splitv and then the layout that was leaves: on the
-- way round splitv was the last split layout, but for splith, which is its own
abbrev pub AllTogglesAsSet : Type 0
AllTogglesAsSet = (c : ConId) (t : TreeValue) → all_toggled c (all_toggled c (all_toggled c (all_toggled c t))) ≡ laid_as c (layouts_at c t).now (laid_as c SplitV t)

-- it gives the tree back where the last split layout was that one already: splith under splith, and else splitv
abbrev pub AllTogglesBack : Type 0
AllTogglesBack = (c : ConId) (t : TreeValue) → (layouts_at c t).last ≡ last_split_of (layouts_at c t).now SplitV → all_toggled c (all_toggled c (all_toggled c (all_toggled c t))) ≡ t

-- each layout is the one that there is, or that after one, two or three times, where the command is not refused
abbrev pub AllVisitsAll : Type 0
AllVisitsAll =
    (c : ConId) (t : TreeValue) (l : Layout) → IsSubject t c → cycle_layout_refusal c cycles.All t ≡ None
    → ((layouts_at c t).now ≡ l) ⊎ (((layouts_at c (all_toggled c t)).now ≡ l) ⊎ (((layouts_at c (all_toggled c (all_toggled c t))).now ≡ l) ⊎ ((layouts_at c (all_toggled c (all_toggled c (all_toggled c t)))).now ≡ l)))
