-- What differs in a window or in a workspace from what it was, and the words for it.
use Rattle.std.specs.Prelude.{ℕ, Bool, true, false, ◌&&◌, ◌||◌, not, List, [], ◌∷◌, Option, None, Some, codes}
use Rattle.std.specs.Cmp.Lexicographic.{pointwise}
use Rattle.std.specs.Str.{bytes_eq}
use Rattle.wm_base.specs.declared.ids.ConId.{ConId}
use Rattle.wm_changes.specs.declared.words.Change.{Change}
use Rattle.wm_changes.specs.declared.words.Change.TheVariants.{New, Title, Move, Floating, FullscreenMode, Urgent, Mark, Close, Focus, Init, Rename, Empty}
use Rattle.wm_changes.specs.Facts.{SpaceFact, WindowFact}
use Rattle.wm_forest.specs.declared.part.ConKind.{ConKind}
use Rattle.wm_forest.specs.declared.part.ConKind.TheVariants.{Split, Window, Placeholder}
use Rattle.wm_forest.specs.Look.{same}
use Rattle.wm_forest.specs.Recency.{lists}
use Rattle.wm_tree.specs.TreeValue.{TreeValue}

-- ---- what differs in a window

abbrev pub title_by : ConKind → List ℕ
title_by (Split layout last) = []
title_by (Window props owner natural) = props.title
title_by (Placeholder props swallows) = props.title

abbrev pub title : WindowFact → List ℕ
title w = title_by w.state.kind

abbrev pub same_id : Option ConId → Option ConId → Bool
same_id None None = true
same_id None (Some d) = false
same_id (Some c) None = false
same_id (Some c) (Some d) = same c d

abbrev pub same_flag : Bool → Bool → Bool
same_flag false b = not b
same_flag true b = b

-- it has another title
abbrev pub is_retitled : WindowFact → WindowFact → Bool
is_retitled v w = not (bytes_eq (title v) (title w))

-- it has another parent or another workspace
abbrev pub is_moved : WindowFact → WindowFact → Bool
is_moved v w = not (same_id v.standing.holder w.standing.holder && same_id v.standing.space w.standing.space)

-- it floats now, or no longer does
abbrev pub is_floated : WindowFact → WindowFact → Bool
is_floated v w = not (same_flag v.standing.floating w.standing.floating)

-- it is fullscreen now, or no longer is
abbrev pub is_filled : WindowFact → WindowFact → Bool
is_filled v w = not (same_flag v.state.state.fullscreen w.state.state.fullscreen)

-- it is urgent now, or no longer is
abbrev pub is_urged : TreeValue → TreeValue → ConId → Bool
is_urged t u c = not (same_flag (lists c t.urgent) (lists c u.urgent))

-- it has other marks
abbrev pub is_marked : WindowFact → WindowFact → Bool
is_marked v w = not (pointwise bytes_eq v.part.marks w.part.marks)

-- something differs in it
abbrev pub differs : TreeValue → TreeValue → WindowFact → WindowFact → Bool
differs t u v w = is_filled v w || is_floated v w || is_moved v w || is_urged t u w.part.id || is_marked v w || is_retitled v w

-- ---- words

-- the word of a change
abbrev pub change_text : Change → List ℕ
change_text New = codes "new"
change_text Title = codes "title"
change_text Move = codes "move"
change_text Floating = codes "floating"
change_text FullscreenMode = codes "fullscreen_mode"
change_text Urgent = codes "urgent"
change_text Mark = codes "mark"
change_text Close = codes "close"
change_text Focus = codes "focus"
change_text Init = codes "init"
change_text Rename = codes "rename"
change_text Empty = codes "empty"

-- a word that holds is told
abbrev pub Word : Type 0
Word = Bool × Change

-- what differs in a window, in the order in which it is told
abbrev pub differences : TreeValue → TreeValue → WindowFact → WindowFact → List Word
differences t u v w =
    (is_retitled v w, Title)
    ∷ (is_moved v w, Move)
    ∷ (is_floated v w, Floating)
    ∷ (is_filled v w, FullscreenMode)
    ∷ (is_urged t u w.part.id, Urgent)
    ∷ (is_marked v w, Mark)
    ∷ []

-- a window that was not there is new
abbrev pub window_words : TreeValue → TreeValue → Option WindowFact → WindowFact → List Word
window_words t u None w = (true, New) ∷ []
window_words t u (Some v) w = differences t u v w

-- a workspace that was not there is begun; it may have another name, and stand on another output
abbrev pub space_words : Option SpaceFact → SpaceFact → List Word
space_words None s = (true, Init) ∷ []
space_words (Some r) s = (not (bytes_eq r.state.name s.state.name), Rename) ∷ (not (same r.output_id s.output_id), Move) ∷ []
