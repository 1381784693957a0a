-- Floating windows in a direction: the next one by id, round both ends, and a shift by so many pixels.
use Rattle.std.specs.Prelude.{ℕ, ◌+◌, ◌-◌, nat_lt, ℤ, pos, ◌+ℤ◌, ◌-ℤ◌, if◌then◌else◌, List, [], Option, None, Some, is_none, option_and_then}
use Rattle.std.specs.Option.{option_map, option_or}
use Rattle.wm_base.specs.declared.errors.ErrorText.TheVariants as texts
use Rattle.wm_base.specs.declared.errors.Refusal.{Refusal}
use Rattle.wm_base.specs.declared.geometry.Dir.{Dir}
use Rattle.wm_base.specs.declared.geometry.Dir.TheVariants.{Left, Right, Up, Down}
use Rattle.wm_base.specs.declared.geometry.Rect.{Rect}
use Rattle.wm_base.specs.declared.ids.ConId.{ConId}
use Rattle.wm_floats.specs.Placing.{place_at_refusal, place_at_tree}
use Rattle.wm_shared.specs.declared.keys.Key.{Key}
use Rattle.wm_shared.specs.Keys.{least, with_key}
use Rattle.wm_shared.specs.Refusing.{error_if}
use Rattle.wm_shared.specs.Showing.{focusing}
use Rattle.wm_shared.specs.Subject.{is_hidden}
use Rattle.wm_shared.specs.Rects.{rect_of}
use Rattle.wm_forest.specs.Forest.{Forest, end, con}
use Rattle.wm_forest.specs.Look.{same}
use Rattle.wm_tree.specs.TreeValue.{TreeValue, workspace_of}

-- ---- the next one by id

-- how far the id b is ahead of a, where behind the greatest id of all the least one comes
abbrev pub ahead : ConId → ConId → ℕ
ahead a b = if nat_lt a.0 b.0 then b.0 - a.0 else b.0 + 4294967296 - a.0

-- how far b is off from a: ahead to the right and down, behind to the left and up
abbrev pub off : Dir → ConId → ConId → ℕ
off Left a b = ahead b a
off Right a b = ahead a b
off Up a b = ahead b a
off Down a b = ahead a b

abbrev pub key_round : Dir → ConId → ConId → Option Key
key_round d c other = if same other c then None else Some (record { first = off d c other; id = other })

-- how far off from c the other nodes of a row are
abbrev pub keys_round : Dir → ConId → Forest → List Key
keys_round d c end = []
keys_round d c (con part kids floats rest) = with_key (key_round d c part.id) (keys_round d c rest)

-- the row of floating windows of the node w, where that is there
abbrev pub floats_at : ConId → Forest → Option Forest
floats_at w end = None
floats_at w (con part kids floats rest) =
    if same part.id w then Some floats else option_or (floats_at w kids) (option_or (floats_at w floats) (floats_at w rest))

abbrev pub nearest_round : Dir → ConId → Forest → Option ConId
nearest_round d c row = option_map (λ (k : Key). k.id) (least (keys_round d c row))

abbrev pub round_in : Dir → ConId → Forest → ConId → Option ConId
round_in d c nodes w = option_and_then (nearest_round d c) (floats_at w nodes)

-- the next floating window of c's workspace in the order of ids, or the one before it, and behind the last the first
abbrev pub round_to : Dir → ConId → TreeValue → Option ConId
round_to d c t = option_and_then (round_in d c t.nodes) (workspace_of t c)

-- one in the scratchpad has no workspace, and there is another floating window
abbrev pub focus_round_refusal : ConId → Dir → TreeValue → Option Refusal
focus_round_refusal c d t = error_if (is_hidden t c) texts.NoWorkspace (error_if (is_none (round_to d c t)) texts.NoNeighbour None)

abbrev pub focused_some : Option ConId → TreeValue → TreeValue
focused_some None t = t
focused_some (Some c) t = focusing c t

abbrev pub focus_round_tree : ConId → Dir → TreeValue → TreeValue
focus_round_tree c d t = focused_some (round_to d c t) t

-- ---- a shift in a direction

abbrev pub shifted_x : Dir → ℕ → Rect → ℤ
shifted_x Left px r = r.x -ℤ pos px
shifted_x Right px r = r.x +ℤ pos px
shifted_x Up px r = r.x
shifted_x Down px r = r.x

abbrev pub shifted_y : Dir → ℕ → Rect → ℤ
shifted_y Left px r = r.y
shifted_y Right px r = r.y
shifted_y Up px r = r.y -ℤ pos px
shifted_y Down px r = r.y +ℤ pos px

abbrev pub shift_refusal : ConId → Dir → ℕ → TreeValue → Option Refusal
shift_refusal c d px t = place_at_refusal c (shifted_x d px (rect_of c t)) (shifted_y d px (rect_of c t)) t

-- the outer rectangle of c goes so many pixels in the direction
abbrev pub shift_tree : ConId → Dir → ℕ → TreeValue → TreeValue
shift_tree c d px t = place_at_tree c (shifted_x d px (rect_of c t)) (shifted_y d px (rect_of c t)) t
