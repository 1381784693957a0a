-- Moving, wrapping and exchanging containers, and their marks.
use Rattle.std.specs.Prelude.{◌≢◌, ◌≡◌, ℕ, ◌+◌, ◌-◌, Bool, true, false, ◌&&◌, ◌||◌, not, ◌⊎◌, nat_le, nat_lt, if◌then◌else◌, List, [], ◌∷◌, ◌++◌, length, Option, None, Some}
use Rattle.wm_base.specs.declared.errors.Limit.{Limit}
use Rattle.wm_base.specs.declared.errors.Limit.TheVariants.{Containers, Children, Depth, Marks, Ids}
use Rattle.wm_base.specs.declared.ids.ConId.{ConId}
use Rattle.wm_base.specs.declared.plan.Layout.{Layout}
use Rattle.wm_forest.specs.declared.kind.KindEdit.TheVariants as edits
use Rattle.wm_forest.specs.declared.part.Part.{Part}
use Rattle.wm_forest.specs.declared.place.Place.{Place}
use Rattle.wm_forest.specs.declared.place.NewCon.TheVariants as new
use Rattle.wm_tree.specs.declared.refusal.TreeRefusal.{TreeRefusal}
use Rattle.wm_tree.specs.declared.refusal.TreeRefusal.TheVariants as refusals
use Rattle.wm_forest.specs.Exchange.{exchanged_nodes}
use Rattle.wm_forest.specs.Forest.{Forest, end, con}
use Rattle.wm_forest.specs.Change.{at, arriving, without}
use Rattle.wm_forest.specs.Counts.{but, con_count, mark_count, newcomer_share, row_length, share_of}
use Rattle.wm_forest.specs.Kinds.{changed}
use Rattle.wm_forest.specs.Look.{con_kind, first_marks, first_part, has, kind_of, only, same}
use Rattle.wm_forest.specs.Marks.{marks_word, unmark_word}
use Rattle.wm_forest.specs.Place.{IsTiled, IsPlace, named, new_part, put, rect_at, room_at, row_room, siblings, tiles}
use Rattle.wm_forest.specs.Spot.{fits}
use Rattle.wm_tree.specs.TreeValue.{TreeValue, workspace_of}
use Rattle.wm_forest.specs.RootId.{id}

-- ---- moving

-- the share at its new place: the mean of the others' shares there; windows that are not tiled have none
abbrev pub moved_share : ConId → Place → Forest → ℕ
moved_share c p forest = if tiles p then newcomer_share (but c (siblings p forest)) else 0

abbrev pub same_space : Option ConId → Option ConId → Bool
same_space None None = true
same_space None (Some b) = false
same_space (Some a) None = false
same_space (Some a) (Some b) = same a b

-- two nodes are not in one workspace
abbrev pub apart : TreeValue → ConId → ConId → Bool
apart t a b = not (same_space (workspace_of t a) (workspace_of t b))

-- the node c, with what is below it, taken out and put at the place
abbrev pub moved : ConId → Place → TreeValue → TreeValue
moved c p t = record t { nodes = put p (arriving (moved_share c p t.nodes) (rect_at p) (apart t c (named p)) (only c t.nodes)) (without c t.nodes) }

-- the node of the place is neither c nor below it, where they are there
abbrev pub IsOutside : ConId → Place → Forest → Type 0
IsOutside c p forest = has c forest ≡ true → has (named p) forest ≡ true → has (named p) (only c forest) ≡ false

-- c is a container, and the place is one outside of it
abbrev pub IsMove : ConId → Place → Forest → Type 0
IsMove c p forest = (has c forest ≡ true → kind_of con_kind c forest ≢ None) × IsPlace p forest × IsOutside c p forest

-- the first limit that moving c to the place would pass
abbrev pub passed_by_move : ConId → Place → Forest → Option Limit
passed_by_move c p forest =
    if tiles p && nat_le 256 (row_length (but c (siblings p forest))) then Some Children
    else if not (fits (room_at p forest) (only c forest)) then Some Depth
    else None

abbrev pub IsMoveCause : TreeValue → ConId → Place → TreeRefusal → Type 0
IsMoveCause t c p (refusals.Missing i) = ((i ≡ c) × (has c t.nodes ≡ false)) ⊎ ((i ≡ named p) × (has c t.nodes ≡ true) × (has (named p) t.nodes ≡ false))
IsMoveCause t c p (refusals.Full limit) = (has c t.nodes ≡ true) × (has (named p) t.nodes ≡ true) × (passed_by_move c p t.nodes ≡ Some limit)
IsMoveCause t c p refusals.NoMemory = ⊥

-- ---- wrapping

abbrev pub share_by : Option Part → ℕ
share_by None = 0
share_by (Some part) = share_of part.kind

-- the share of the node c
abbrev pub share_in : ConId → Forest → ℕ
share_in c forest = share_by (first_part (only c forest))

-- a new split in the place of a node, which it holds alone, with the share 65,536
abbrev pub wrap_word : Part → Part → Forest → Forest → Forest → Forest
wrap_word split part kids floats rest =
    con split (con (record part { kind = changed (edits.Share 65536) part.kind }) kids floats end) end rest

-- the container c in a new split with this layout, which has the share of c
abbrev pub wrapped : ConId → Layout → TreeValue → TreeValue
wrapped c layout t = record t {
  nodes = at c wrap_word (new_part (id t.next_id) (share_in c t.nodes) t.border None (new.Split layout)) t.nodes;
  recency = t.recency ++ id t.next_id ∷ [];
  next_id = t.next_id + 1;
}

-- the first limit that wrapping c would pass
abbrev pub passed_by_wrap : ConId → Forest → ℕ → Option Limit
passed_by_wrap c forest next_id =
    if nat_le 4096 (con_count forest) then Some Containers
    else if not (fits (row_room c forest - 1) (only c forest)) then Some Depth
    else if nat_lt 4000000000 next_id then Some Ids
    else None

abbrev pub IsWrapCause : TreeValue → ConId → TreeRefusal → Type 0
IsWrapCause t c (refusals.Missing i) = (i ≡ c) × (has c t.nodes ≡ false)
IsWrapCause t c (refusals.Full limit) = (has c t.nodes ≡ true) × (passed_by_wrap c t.nodes t.next_id ≡ Some limit)
IsWrapCause t c refusals.NoMemory = (has c t.nodes ≡ true) × (passed_by_wrap c t.nodes t.next_id ≡ None)

-- ---- exchanging

-- the two change places; the shares stay with the places
abbrev pub exchanged : ConId → ConId → TreeValue → TreeValue
exchanged a b t = record t { nodes = exchanged_nodes a b (share_in a t.nodes) (share_in b t.nodes) (apart t a b) t.nodes }

-- both are tiled containers, where they are there, and neither is below the other
abbrev pub IsExchange : ConId → ConId → Forest → Type 0
IsExchange a b forest =
    (has a forest ≡ true → IsTiled a forest) × (has b forest ≡ true → IsTiled b forest) × (has b (only a forest) ≡ false) × (has a (only b forest) ≡ false)

-- the only limit that an exchange may pass is the depth
abbrev pub is_too_deep : ConId → ConId → Forest → Bool
is_too_deep a b forest = not (fits (row_room b forest) (only a forest) && fits (row_room a forest) (only b forest))

abbrev pub IsExchangeCause : TreeValue → ConId → ConId → TreeRefusal → Type 0
IsExchangeCause t a b (refusals.Missing i) = ((i ≡ a) × (has a t.nodes ≡ false)) ⊎ ((i ≡ b) × (has a t.nodes ≡ true) × (has b t.nodes ≡ false))
IsExchangeCause t a b (refusals.Full limit) = (has a t.nodes ≡ true) × (has b t.nodes ≡ true) × (is_too_deep a b t.nodes ≡ true) × (limit ≡ Depth)
IsExchangeCause t a b refusals.NoMemory = ⊥

-- ---- marks and urgency

-- the marks of the node c
abbrev pub marks_in : ConId → Forest → List (List ℕ)
marks_in c forest = first_marks (only c forest)

-- the tree with these marks of the node c
abbrev pub with_marks : ConId → List (List ℕ) → TreeValue → TreeValue
with_marks c marks t = record t { nodes = at c marks_word marks t.nodes }

-- the mark put last among those of c
abbrev pub marked : ConId → List ℕ → TreeValue → TreeValue
marked c n t = with_marks c (marks_in c t.nodes ++ n ∷ []) t

abbrev pub unmarked : ConId → List ℕ → TreeValue → TreeValue
unmarked c n t = record t { nodes = at c unmark_word n t.nodes }

-- there are 1,024 marks, or 32 on c
abbrev pub is_full_of_marks : ConId → Forest → Bool
is_full_of_marks c forest = nat_le 1024 (mark_count forest) || nat_le 32 (length (marks_in c forest))

abbrev pub IsMarkCause : TreeValue → ConId → TreeRefusal → Type 0
IsMarkCause t c (refusals.Missing i) = (i ≡ c) × (has c t.nodes ≡ false)
IsMarkCause t c (refusals.Full limit) = (has c t.nodes ≡ true) × (is_full_of_marks c t.nodes ≡ true) × (limit ≡ Marks)
IsMarkCause t c refusals.NoMemory = (has c t.nodes ≡ true) × (is_full_of_marks c t.nodes ≡ false)
