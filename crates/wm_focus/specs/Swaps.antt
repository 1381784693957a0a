-- Exchanging the places of two containers, and moving one after another.
use Rattle.std.specs.Prelude.{ℕ, Bool, ◌&&◌, ◌||◌, not, if◌then◌else◌, List, Option, None, Some}
use Rattle.wm_base.specs.declared.errors.ErrorText.{ErrorText}
use Rattle.wm_base.specs.declared.errors.ErrorText.TheVariants as texts
use Rattle.wm_base.specs.declared.errors.Limit.TheVariants as limits
use Rattle.wm_base.specs.declared.errors.Refusal.{Refusal}
use Rattle.wm_base.specs.declared.errors.Refusal.TheVariants.{Full, NoTarget}
use Rattle.wm_base.specs.declared.ids.ConId.{ConId}
use Rattle.wm_focus.specs.Marks.{holder_of}
use Rattle.wm_shared.specs.Refusing.{error_if, full_error}
use Rattle.wm_shared.specs.Subject.{is_hidden, is_space}
use Rattle.wm_language.specs.declared.arguments.SwapArg.{SwapArg}
use Rattle.wm_language.specs.declared.arguments.SwapArg.TheVariants as swaps
use Rattle.wm_spaces.specs.Sending.{sent_some, sent_some_refusal}
use Rattle.wm_forest.specs.declared.part.ConPart.{ConPart}
use Rattle.wm_forest.specs.declared.place.Place.TheVariants.{After}
use Rattle.wm_forest.specs.Change.{is_window_kind}
use Rattle.wm_forest.specs.Look.{con_kind, has, kind_of, only}
use Rattle.wm_tree.specs.Move.{exchanged, is_too_deep, moved, passed_by_move}
use Rattle.wm_tree.specs.TreeValue.{TreeValue, is_tiled_con, workspace_of}
use Rattle.wm_forest.specs.RootId.{id}

-- ---- whom the command names

abbrev pub con_named : ConId → Option ConPart → Option ConId
con_named c None = None
con_named c (Some part) = Some c

abbrev pub window_named : ConId → Option ConPart → Option ConId
window_named c None = None
window_named c (Some part) = if is_window_kind part.kind then Some c else None

-- the container of an id, the window of an id, or the container of a mark
abbrev pub partner : SwapArg → TreeValue → Option ConId
partner (swaps.Con n) t = con_named (id n) (kind_of con_kind (id n) t.nodes)
partner (swaps.Window n) t = window_named (id n) (kind_of con_kind (id n) t.nodes)
partner (swaps.Mark name) t = holder_of name t

-- what is answered where there is none
abbrev pub partner_text : SwapArg → ErrorText
partner_text (swaps.Con n) = texts.NoContainer
partner_text (swaps.Window n) = texts.NoContainer
partner_text (swaps.Mark name) = texts.NoMark

-- ---- exchanging

-- one is the other, or below it
abbrev pub is_part : TreeValue → ConId → ConId → Bool
is_part t a b = has b (only a t.nodes) || has a (only b t.nodes)

abbrev pub deep_error : Bool → Option Refusal
deep_error b = if b then Some (Full limits.Depth) else None

-- none is part of the other, both are tiled, and neither comes too deep
abbrev pub exchange_refusal : ConId → Option ConId → ErrorText → TreeValue → Option Refusal
exchange_refusal c None text t = Some (NoTarget text)
exchange_refusal c (Some o) text t =
    error_if (is_part t c o) texts.SameContainer (error_if (not (is_tiled_con t c && is_tiled_con t o)) texts.NotTiled (deep_error (is_too_deep c o t.nodes)))

-- one in the scratchpad has no workspace, and a workspace changes places with none
abbrev pub swap_refusal : ConId → SwapArg → TreeValue → Option Refusal
swap_refusal c arg t =
    error_if (is_hidden t c) texts.NoWorkspace (error_if (is_space t c) texts.AtWorkspace (exchange_refusal c (partner arg t) (partner_text arg) t))

abbrev pub exchanged_with : ConId → Option ConId → TreeValue → TreeValue
exchanged_with c None t = t
exchanged_with c (Some o) t = exchanged c o t

-- the two change places; the shares stay with the places
abbrev pub swap_tree : ConId → SwapArg → TreeValue → TreeValue
swap_tree c arg t = exchanged_with c (partner arg t) t

-- ---- moving

-- no limit is passed where c is sent to the workspace of another one
abbrev pub send_beside_refusal : ConId → ConId → TreeValue → Option Refusal
send_beside_refusal c o t = sent_some_refusal (workspace_of t o) c t

-- c is sent to the workspace of another one, if that has one
abbrev pub sent_beside : ConId → ConId → TreeValue → TreeValue
sent_beside c o t = sent_some (workspace_of t o) c t

-- the marked one is not part of the other, is tiled, and there is room beside it, or for a floating window in its workspace
abbrev pub beside_refusal : ConId → Option ConId → TreeValue → Option Refusal
beside_refusal c None t = Some (NoTarget texts.NoMark)
beside_refusal c (Some m) t =
    error_if (has m (only c t.nodes)) texts.SameContainer (error_if (not (is_tiled_con t m)) texts.NotTiled
    (if is_tiled_con t c then full_error (passed_by_move c (After m) t.nodes) else send_beside_refusal c m t))

-- one in the scratchpad has no workspace, and a workspace moves beside none
abbrev pub move_to_mark_refusal : ConId → List ℕ → TreeValue → Option Refusal
move_to_mark_refusal c name t =
    error_if (is_hidden t c) texts.NoWorkspace (error_if (is_space t c) texts.AtWorkspace (beside_refusal c (holder_of name t) t))

abbrev pub moved_after : ConId → Option ConId → TreeValue → TreeValue
moved_after c None t = t
moved_after c (Some m) t = if is_tiled_con t c then moved c (After m) t else sent_beside c m t

-- the container is put after the marked one; a floating window is sent to the workspace of that one
abbrev pub move_to_mark_tree : ConId → List ℕ → TreeValue → TreeValue
move_to_mark_tree c name t = moved_after c (holder_of name t) t
