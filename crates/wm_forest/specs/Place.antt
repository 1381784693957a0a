-- Places in a forest, and what is put there.
use Rattle.std.specs.Prelude.{◌≡◌, ◌≢◌, ℕ, Bool, true, false, codes, if◌then◌else◌, [], List, Option, None, Some, nat_le, nat_lt, ◌&&◌, not}
use Rattle.wm_base.specs.declared.errors.Limit.{Limit}
use Rattle.wm_base.specs.declared.errors.Limit.TheVariants.{Containers, Children, Depth, Ids}
use Rattle.wm_base.specs.declared.geometry.Rect.{Rect}
use Rattle.wm_base.specs.declared.ids.ConId.{ConId}
use Rattle.wm_base.specs.declared.plan.Border.{Border}
use Rattle.wm_base.specs.declared.plan.Layout.TheVariants.{SplitH}
use Rattle.wm_forest.specs.declared.part.Part.{Part}
use Rattle.wm_forest.specs.declared.part.NodeKind.{NodeKind}
use Rattle.wm_forest.specs.declared.part.NodeKind.TheVariants.{Root, Output, Space, Con}
use Rattle.wm_forest.specs.declared.part.ConKind.{ConKind}
use Rattle.wm_forest.specs.declared.part.ConKind.TheVariants.{Split, Window, Placeholder}
use Rattle.wm_forest.specs.declared.place.Place.{Place}
use Rattle.wm_forest.specs.declared.place.Place.TheVariants.{After, Before, First, Last, Float, Scratchpad}
use Rattle.wm_forest.specs.declared.place.NewCon.{NewCon}
use Rattle.wm_forest.specs.declared.place.NewCon.TheVariants as new
use Rattle.wm_forest.specs.declared.spot.Spot.{Spot}
use Rattle.wm_forest.specs.Forest.{Forest, con}
use Rattle.wm_forest.specs.Change.{at, append}
use Rattle.wm_forest.specs.Counts.{con_count, newcomer_share, row_length, row_with}
use Rattle.wm_forest.specs.Kinds.{last_split_of}
use Rattle.wm_forest.specs.Look.{con_kind, first_floats, first_kids, first_part, has, kind_of, only, space_kind}
use Rattle.wm_forest.specs.Spot.{room_below, spot_in, top}

-- the node that a place names; the root for the scratchpad
abbrev pub named : Place → ConId
named (After c) = c
named (Before c) = c
named (First c) = c
named (Last c) = c
named (Float w r) = w
named (Scratchpad r) = record { 0 = 1 }

-- a container is tiled there
abbrev pub tiles : Place → Bool
tiles (After c) = true
tiles (Before c) = true
tiles (First c) = true
tiles (Last c) = true
tiles (Float w r) = false
tiles (Scratchpad r) = false

-- the outer rectangle that a window gets there
abbrev pub rect_at : Place → Option Rect
rect_at (After c) = None
rect_at (Before c) = None
rect_at (First c) = None
rect_at (Last c) = None
rect_at (Float w r) = Some r
rect_at (Scratchpad r) = Some r

-- the place is before a container
abbrev pub is_before : Place → Bool
is_before (After c) = false
is_before (Before c) = true
is_before (First c) = false
is_before (Last c) = false
is_before (Float w r) = false
is_before (Scratchpad r) = false

-- a row before a node and the rest of its row
abbrev pub before_first : Forest → Part → Forest → Forest → Forest → Forest
before_first row part kids floats rest = append row (con part kids floats rest)

-- what putting a row at a place makes of the node that the place names
abbrev pub put_word : Place → Forest → Part → Forest → Forest → Forest → Forest
put_word (After c) row part kids floats rest = con part kids floats (append row rest)
put_word (Before c) row part kids floats rest = before_first row part kids floats rest
put_word (First c) row part kids floats rest = con part (append row kids) floats rest
put_word (Last c) row part kids floats rest = con part (append kids row) floats rest
put_word (Float w r) row part kids floats rest = con part kids (append floats row) rest
put_word (Scratchpad r) row part kids floats rest = con part kids (append floats row) rest

-- the nodes of a row put at a place
abbrev pub put : Place → Forest → Forest → Forest
put p row forest = at (named p) (put_word p) row forest

-- the row in which a newcomer stands there
abbrev pub siblings : Place → Forest → Forest
siblings (After c) forest = row_with c forest forest
siblings (Before c) forest = row_with c forest forest
siblings (First c) forest = first_kids (only c forest)
siblings (Last c) forest = first_kids (only c forest)
siblings (Float w r) forest = first_floats (only w forest)
siblings (Scratchpad r) forest = first_floats (only (record { 0 = 1 }) forest)

abbrev pub room_by : Option Spot → ℕ
room_by None = 0
room_by (Some s) = s.room

abbrev pub room_under : ℕ → Option Part → ℕ
room_under room None = 0
room_under room (Some part) = room_below room part.kind

-- how many levels the row of the node c may have
abbrev pub row_room : ConId → Forest → ℕ
row_room c forest = room_by (spot_in top c forest)

-- how many levels the row of a newcomer there may have
abbrev pub room_at : Place → Forest → ℕ
room_at (After c) forest = row_room c forest
room_at (Before c) forest = row_room c forest
room_at (First c) forest = room_under (row_room c forest) (first_part (only c forest))
room_at (Last c) forest = room_under (row_room c forest) (first_part (only c forest))
room_at (Float w r) forest = 32
room_at (Scratchpad r) forest = 32

-- ---- a new container

abbrev pub new_kind : NewCon → ConKind
new_kind (new.Window props owner natural) = Window props owner natural
new_kind (new.Placeholder props swallows) = Placeholder props swallows
new_kind (new.Split layout) = Split layout (last_split_of layout SplitH)

-- the format of a new container's title: the title as it is
abbrev pub plain_title : List ℕ
plain_title = codes "%title"

-- a new container: a border, no marks, and nothing of what a state may have
abbrev pub new_part : ConId → ℕ → Border → Option Rect → NewCon → Part
new_part c share border rect newcomer = record {
  id = c;
  kind = Con (record {
    state = record { border = border; sticky = false; fullscreen = false; flagged = false; rect = rect };
    share = share;
    title_format = plain_title;
    kind = new_kind newcomer;
  });
  marks = [];
}

-- the share of a newcomer at the place: windows that are not tiled have none
abbrev pub share_at : Place → Forest → ℕ
share_at p forest = if tiles p then newcomer_share (siblings p forest) else 0

-- the first limit that a newcomer at the place would pass
abbrev pub passed_limit : Place → Forest → ℕ → Option Limit
passed_limit p forest next_id =
    if nat_le 4096 (con_count forest) then Some Containers
    else if tiles p && nat_le 256 (row_length (siblings p forest)) then Some Children
    else if not (nat_lt 0 (room_at p forest)) then Some Depth
    else if nat_lt 4000000000 next_id then Some Ids
    else None

-- ---- which places there are

abbrev pub IsSplit : ConKind → Type 0
IsSplit (Split layout last) = Unit {0}
IsSplit (Window props owner natural) = ⊥
IsSplit (Placeholder props swallows) = ⊥

-- a workspace or a split
abbrev pub TakesKids : NodeKind → Type 0
TakesKids (Root c) = ⊥
TakesKids (Output o) = ⊥
TakesKids (Space w) = Unit {0}
TakesKids (Con c) = IsSplit c.kind

abbrev pub TakesFirst : Option Part → Type 0
TakesFirst None = ⊥
TakesFirst (Some part) = TakesKids part.kind

abbrev pub is_tiled : Option Spot → Bool
is_tiled None = false
is_tiled (Some s) = s.tiled

-- c is a tiled container
abbrev pub IsTiled : ConId → Forest → Type 0
IsTiled c forest = (kind_of con_kind c forest ≢ None) × (is_tiled (spot_in top c forest) ≡ true)

-- the place is beside a tiled container, in a workspace or a split, among the floating windows of a workspace, or in
-- the scratchpad, where its node is there
abbrev pub IsPlace : Place → Forest → Type 0
IsPlace (After c) forest = has c forest ≡ true → IsTiled c forest
IsPlace (Before c) forest = has c forest ≡ true → IsTiled c forest
IsPlace (First c) forest = has c forest ≡ true → TakesFirst (first_part (only c forest))
IsPlace (Last c) forest = has c forest ≡ true → TakesFirst (first_part (only c forest))
IsPlace (Float w r) forest = has w forest ≡ true → kind_of space_kind w forest ≢ None
IsPlace (Scratchpad r) forest = Unit {0}
