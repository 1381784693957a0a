-- Windows hide in the scratchpad and come back.
use Rattle.std.specs.Prelude.{true, if◌then◌else◌, Option, None, Some}
use Rattle.std.specs.Option.{option_or}
use Rattle.wm_base.specs.declared.errors.ErrorText.TheVariants as texts
use Rattle.wm_base.specs.declared.errors.Refusal.{Refusal}
use Rattle.wm_base.specs.declared.errors.Refusal.TheVariants.{NoTarget}
use Rattle.wm_base.specs.declared.geometry.Rect.{Rect}
use Rattle.wm_base.specs.declared.ids.ConId.{ConId}
use Rattle.wm_floats.specs.declared.kinds.Kind.TheVariants as kinds
use Rattle.wm_floats.specs.Floating.{floating_rect, moved_refusal}
use Rattle.wm_floats.specs.Kinds.{is_of_space, latest}
use Rattle.wm_floats.specs.Places.{held_middle}
use Rattle.wm_floats.specs.Windows.{flag_set, window_refusal}
use Rattle.wm_shared.specs.Subject.{is_hidden}
use Rattle.wm_shared.specs.Rects.{rect_of}
use Rattle.wm_forest.specs.declared.part.OutputPart.{OutputPart}
use Rattle.wm_forest.specs.declared.place.Place.{Place}
use Rattle.wm_forest.specs.declared.place.Place.TheVariants.{Float, Scratchpad}
use Rattle.wm_forest.specs.Look.{first_floats, kind_of, nth_id, output_kind}
use Rattle.wm_tree.specs.Move.{moved}
use Rattle.wm_tree.specs.TreeValue.{TreeValue, current, focused, shown}
use Rattle.wm_tree.specs.Words.{with_raised}

-- ---- hiding

-- the window c floats, is flagged, and stands last in the scratchpad
abbrev pub to_scratchpad_tree : ConId → TreeValue → TreeValue
to_scratchpad_tree c t = flag_set true c (moved c (Scratchpad (floating_rect c t)) t)

abbrev pub to_scratchpad_refusal : ConId → TreeValue → Option Refusal
to_scratchpad_refusal c t = option_or (window_refusal c t) (moved_refusal c (Scratchpad (floating_rect c t)) t)

-- a floating window comes last into the scratchpad as it is
abbrev pub put_away : ConId → TreeValue → TreeValue
put_away c t = moved c (Scratchpad (rect_of c t)) t

abbrev pub put_away_refusal : ConId → TreeValue → Option Refusal
put_away_refusal c t = moved_refusal c (Scratchpad (rect_of c t)) t

-- ---- showing

abbrev pub middle_on : Option OutputPart → Rect → Rect
middle_on None r = r
middle_on (Some o) r = held_middle o.rect (record { w = r.w; h = r.h })

-- among the floating windows of the focused workspace, in the middle of the current output
abbrev pub coming_place : ConId → TreeValue → Place
coming_place c t = Float (shown t) (middle_on (kind_of output_kind (current t) t.nodes) (rect_of c t))

-- a window of the scratchpad comes to the focused workspace, last of the floating windows, and is focused there
abbrev pub brought : ConId → TreeValue → TreeValue
brought c t = with_raised c (moved c (coming_place c t) t)

abbrev pub brought_refusal : ConId → TreeValue → Option Refusal
brought_refusal c t = moved_refusal c (coming_place c t) t

abbrev pub first_brought : Option ConId → TreeValue → TreeValue
first_brought None t = t
first_brought (Some c) t = brought c t

abbrev pub first_brought_refusal : Option ConId → TreeValue → Option Refusal
first_brought_refusal None t = Some (NoTarget texts.ScratchEmpty)
first_brought_refusal (Some c) t = brought_refusal c t

-- the first window of the scratchpad
abbrev pub first_hidden : TreeValue → Option ConId
first_hidden t = nth_id 0 (first_floats t.nodes)

-- the first window of the scratchpad comes
abbrev pub bring_first_tree : TreeValue → TreeValue
bring_first_tree t = first_brought (first_hidden t) t

-- the scratchpad is not empty, and no limit is passed
abbrev pub bring_first_refusal : TreeValue → Option Refusal
bring_first_refusal t = first_brought_refusal (first_hidden t) t

abbrev pub latest_or_first : Option ConId → TreeValue → TreeValue
latest_or_first None t = bring_first_tree t
latest_or_first (Some c) t = with_raised c t

abbrev pub latest_or_first_refusal : Option ConId → TreeValue → Option Refusal
latest_or_first_refusal None t = bring_first_refusal t
latest_or_first_refusal (Some c) t = None

-- a flagged window that floats on the focused workspace is put away where it is focused, and else focused; where there is
-- none the first of the scratchpad comes, if that is not empty
abbrev pub show_next_tree : TreeValue → TreeValue
show_next_tree t =
    if is_of_space kinds.Flagged (shown t) t (focused t) then put_away (focused t) t
    else latest_or_first (latest kinds.Flagged (Some (shown t)) t) t

abbrev pub show_next_refusal : TreeValue → Option Refusal
show_next_refusal t =
    if is_of_space kinds.Flagged (shown t) t (focused t) then put_away_refusal (focused t) t
    else latest_or_first_refusal (latest kinds.Flagged (Some (shown t)) t) t

-- c comes where it is in the scratchpad, and is put away where it is flagged and floats on the focused workspace
abbrev pub show_this_tree : ConId → TreeValue → TreeValue
show_this_tree c t = if is_hidden t c then brought c t else put_away c t

abbrev pub show_this_refusal : ConId → TreeValue → Option Refusal
show_this_refusal c t =
    if is_hidden t c then brought_refusal c t
    else if is_of_space kinds.Flagged (shown t) t c then put_away_refusal c t
    else Some (NoTarget texts.NoContainer)

abbrev pub show_scratchpad_tree : Option ConId → TreeValue → TreeValue
show_scratchpad_tree None t = show_next_tree t
show_scratchpad_tree (Some c) t = show_this_tree c t

abbrev pub show_scratchpad_refusal : Option ConId → TreeValue → Option Refusal
show_scratchpad_refusal None t = show_next_refusal t
show_scratchpad_refusal (Some c) t = show_this_refusal c t
