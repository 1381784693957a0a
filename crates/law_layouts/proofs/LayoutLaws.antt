-- `layout toggle` so often as to come round to the layout that was.
use Rattle.std.proofs.Common.{◌≡◌, true, cond, Some, refl, ap, sym, ◌∙◌}
use Rattle.std.specs.Prelude.{is_some, option_and_then}
use Rattle.law_layouts.proofs.NodeChanges.{SameSort, as_kinded, kinded, kinded_alike, kinded_none, kinded_twice, seen_kinded, spot_kinded}
use Rattle.law_layouts.specs.Layouts.{AllTogglesAsSet, AllTogglesBack, SplitTogglesAsSet, SplitTogglesBack, all_toggled, layouts_at, split_toggled}
use Rattle.wm_base.specs.declared.ids.ConId.{ConId}
use Rattle.wm_base.specs.declared.plan.Layout.{Layout}
use Rattle.wm_base.specs.declared.plan.Layout.TheVariants.{SplitH, SplitV, Stacked, Tabbed}
use Rattle.wm_focus.specs.declared.splits.Layouts.{Layouts}
use Rattle.wm_focus.specs.Splits.{cycle_layout_tree, is_plain_split, laid, laid_as, layouts_by, next_layout}
use Rattle.wm_forest.specs.Change.{at}
use Rattle.wm_forest.specs.declared.kind.KindEdit.TheVariants as edits
use Rattle.wm_forest.specs.declared.part.ConKind.{ConKind}
use Rattle.wm_forest.specs.declared.part.ConKind.TheVariants.{Split, Window, Placeholder}
use Rattle.wm_forest.specs.declared.part.NodeKind.{NodeKind}
use Rattle.wm_forest.specs.declared.part.NodeKind.TheVariants.{Root, Output, Space, Con}
use Rattle.wm_forest.specs.declared.part.Part.{Part}
use Rattle.wm_forest.specs.declared.spot.Spot.{Spot}
use Rattle.wm_forest.specs.Kinds.{changed, last_split_of}
use Rattle.wm_forest.specs.Look.{con_kind, first_part, kind_by, only, space_kind}
use Rattle.wm_forest.specs.Spot.{top}
use Rattle.wm_language.specs.declared.arguments.Cycle.{Cycle}
use Rattle.wm_language.specs.declared.arguments.Cycle.TheVariants as cycles
use Rattle.wm_shared.specs.Subject.{is_space}
use Rattle.wm_tree.specs.TreeValue.{TreeValue, or_id, parent}

-- ---- one node's layouts

-- the layouts of a node of this kind
abbrev pub look : NodeKind → Layouts
look k = layouts_by (space_kind k) (con_kind k)

-- the kind with another layout
abbrev pub laid_kind : Layout → NodeKind → NodeKind
laid_kind l k = changed (edits.Layout l) k

-- the kind after one `layout toggle`
abbrev pub turn : Cycle → NodeKind → NodeKind
turn arg k = laid_kind (next_layout arg (look k)) k

pub same_sort : (l : Layout) (k : NodeKind) → SameSort k (laid_kind l k)
same_sort l (Root c) = record { spaces = refl; cons = refl; space = λ w id. refl; holder = λ b id. refl; room = λ n. refl }
same_sort l (Output o) = record { spaces = refl; cons = refl; space = λ w id. refl; holder = λ b id. refl; room = λ n. refl }
same_sort l (Space s) = record { spaces = refl; cons = refl; space = λ w id. refl; holder = λ b id. refl; room = λ n. refl }
same_sort l (Con c) = record { spaces = refl; cons = refl; space = λ w id. refl; holder = λ b id. refl; room = λ n. refl }

-- a node is of the same sort after the change
abbrev pub Keeps : (NodeKind → NodeKind) → Type 0
Keeps g = (k : NodeKind) → SameSort k (g k)

pub turn_keeps : (arg : Cycle) → Keeps (turn arg)
turn_keeps arg k = same_sort (next_layout arg (look k)) k

both_keep : (g h : NodeKind → NodeKind) → Keeps g → Keeps h → Keeps (λ k. g (h k))
both_keep g h p q k =
    let a = q k in
    let b = p (h k) in
    record { spaces = b.spaces ∙ a.spaces; cons = b.cons ∙ a.cons; space = λ w id. b.space w id ∙ a.space w id; holder = λ x id. b.holder x id ∙ a.holder x id; room = λ n. b.room n ∙ a.room n }

-- ---- the tree with another kind of the node whose layout it is

abbrev pub tuned : (NodeKind → NodeKind) → ConId → TreeValue → TreeValue
tuned g c t = record t { nodes = at (laid t c) kinded g t.nodes }

pub laid_tuned : (g : NodeKind → NodeKind) (c : ConId) (t : TreeValue) → Keeps g → laid (tuned g c t) c ≡ laid t c
laid_tuned g c t keeps =
    let space : is_space (tuned g c t) c ≡ is_space t c = seen_kinded (laid t c) c g (λ o. is_some (kind_by space_kind o)) (λ p. (keeps p.kind).spaces) t.nodes in
    let held : parent (tuned g c t) c ≡ parent t c = ap (λ o. option_and_then (λ (s : Spot). s.holder) o) (spot_kinded (laid t c) c g keeps top t.nodes) in
    ap (λ z. cond z c (or_id (parent (tuned g c t) c) c)) space ∙ ap (λ z. cond (is_space t c) c (or_id z c)) held

tuned_twice : (g h : NodeKind → NodeKind) (c : ConId) (t : TreeValue) → Keeps h → tuned g c (tuned h c t) ≡ tuned (λ k. g (h k)) c t
tuned_twice g h c t keeps =
    ap (λ n. record t { nodes = at n kinded g (at (laid t c) kinded h t.nodes) }) (laid_tuned h c t keeps) ∙ ap (λ z. record t { nodes = z }) (kinded_twice (laid t c) g h t.nodes)

abbrev AtNode : ConId → TreeValue → (NodeKind → Type 0) → Type 0
AtNode c t P = (p : Part) → first_part (only (laid t c) t.nodes) ≡ Some p → P p.kind

tuned_alike : (g h : NodeKind → NodeKind) (c : ConId) (t : TreeValue) → AtNode c t (λ k. g k ≡ h k) → tuned g c t ≡ tuned h c t
tuned_alike g h c t e = ap (λ z. record t { nodes = z }) (kinded_alike (laid t c) g h t.nodes e)

tuned_none : (g : NodeKind → NodeKind) (c : ConId) (t : TreeValue) → AtNode c t (λ k. g k ≡ k) → tuned g c t ≡ t
tuned_none g c t e = tuned_alike g (λ k. k) c t e ∙ ap (λ z. record t { nodes = z }) (kinded_none (laid t c) t.nodes)

-- the layouts of that node
look_at : (c : ConId) (t : TreeValue) (p : Part) → first_part (only (laid t c) t.nodes) ≡ Some p → layouts_at c t ≡ look p.kind
look_at c t p e = ap (λ o. layouts_by (kind_by space_kind o) (kind_by con_kind o)) e

pub cycle_tuned : (arg : Cycle) (c : ConId) (t : TreeValue) → cycle_layout_tree c arg t ≡ tuned (turn arg) c t
cycle_tuned arg c t =
    let l : Layout = next_layout arg (layouts_at c t) in
    ap (λ z. record t { nodes = z }) (as_kinded (laid t c) (edits.Layout l) t.nodes) ∙ tuned_alike (laid_kind l) (turn arg) c t (λ p e. ap (λ z. laid_kind (next_layout arg z) p.kind) (look_at c t p e))

pub cycle_again : (arg : Cycle) (g : NodeKind → NodeKind) (c : ConId) (t : TreeValue) → Keeps g → cycle_layout_tree c arg (tuned g c t) ≡ tuned (λ k. turn arg (g k)) c t
cycle_again arg g c t keeps = cycle_tuned arg c (tuned g c t) ∙ tuned_twice (turn arg) g c t keeps

pub set_tuned : (l : Layout) (c : ConId) (t : TreeValue) → laid_as c l t ≡ tuned (laid_kind l) c t
set_tuned l c t = ap (λ z. record t { nodes = z }) (as_kinded (laid t c) (edits.Layout l) t.nodes)

-- ---- `layout toggle split`

split_kind : (k : NodeKind) → is_plain_split (look k).now ≡ true → turn cycles.Split (turn cycles.Split k) ≡ laid_kind (look k).now k
split_kind (Root c) h = refl
split_kind (Output o) h = refl
split_kind (Space s) h = by s.layout h
  where
    by : (now : Layout) → is_plain_split now ≡ true → turn cycles.Split (turn cycles.Split (Space (record s { layout = now }))) ≡ laid_kind now (Space (record s { layout = now }))
    by SplitH h = refl
    by SplitV h = refl
    by Tabbed h = cc
    by Stacked h = cc
split_kind (Con d) h = by d.kind h
  where
    by : (kind : ConKind) → is_plain_split (look (Con (record d { kind = kind }))).now ≡ true → turn cycles.Split (turn cycles.Split (Con (record d { kind = kind }))) ≡ laid_kind (look (Con (record d { kind = kind }))).now (Con (record d { kind = kind }))
    by (Split SplitH last) h = refl
    by (Split SplitV last) h = refl
    by (Split Tabbed last) h = cc
    by (Split Stacked last) h = cc
    by (Window props owner natural) h = refl
    by (Placeholder props swallows) h = refl

pub split_toggles_as_set : SplitTogglesAsSet
split_toggles_as_set c t plain =
    ap (split_toggled c) (cycle_tuned cycles.Split c t) ∙ (cycle_again cycles.Split (turn cycles.Split) c t (turn_keeps cycles.Split)
    ∙ (tuned_alike (λ k. turn cycles.Split (turn cycles.Split k)) (laid_kind (layouts_at c t).now) c t same_kind ∙ sym (set_tuned (layouts_at c t).now c t)))
  where
    same_kind : AtNode c t (λ k. turn cycles.Split (turn cycles.Split k) ≡ laid_kind (layouts_at c t).now k)
    same_kind p e =
        let one = look_at c t p e in
        split_kind p.kind (ap (λ (z : Layouts). is_plain_split z.now) (sym one) ∙ plain) ∙ ap (λ (z : Layouts). laid_kind z.now p.kind) (sym one)

-- setting the layout that there is, where it is the last split layout too
set_kind : (k : NodeKind) → is_plain_split (look k).now ≡ true → (look k).last ≡ (look k).now → laid_kind (look k).now k ≡ k
set_kind (Root c) h e = refl
set_kind (Output o) h e = refl
set_kind (Space s) h e = by s.layout s.last_split h e
  where
    by : (now last : Layout) → is_plain_split now ≡ true → last ≡ now → laid_kind now (Space (record s { layout = now; last_split = last })) ≡ Space (record s { layout = now; last_split = last })
    by SplitH last h e = ap (λ z. Space (record s { layout = SplitH; last_split = z })) (sym e)
    by SplitV last h e = ap (λ z. Space (record s { layout = SplitV; last_split = z })) (sym e)
    by Tabbed last h e = cc
    by Stacked last h e = cc
set_kind (Con d) h e = by d.kind h e
  where
    by : (kind : ConKind) → is_plain_split (look (Con (record d { kind = kind }))).now ≡ true → (look (Con (record d { kind = kind }))).last ≡ (look (Con (record d { kind = kind }))).now
        → laid_kind (look (Con (record d { kind = kind }))).now (Con (record d { kind = kind })) ≡ Con (record d { kind = kind })
    by (Split SplitH last) h e = ap (λ z. Con (record d { kind = Split SplitH z })) (sym e)
    by (Split SplitV last) h e = ap (λ z. Con (record d { kind = Split SplitV z })) (sym e)
    by (Split Tabbed last) h e = cc
    by (Split Stacked last) h e = cc
    by (Window props owner natural) h e = refl
    by (Placeholder props swallows) h e = refl

pub split_toggles_back : SplitTogglesBack
split_toggles_back c t plain kept = split_toggles_as_set c t plain ∙ (set_tuned (layouts_at c t).now c t ∙ tuned_none (laid_kind (layouts_at c t).now) c t same_kind)
  where
    same_kind : AtNode c t (λ k. laid_kind (layouts_at c t).now k ≡ k)
    same_kind p e =
        let one = look_at c t p e in
        ap (λ (z : Layouts). laid_kind z.now p.kind) one ∙ set_kind p.kind (ap (λ (z : Layouts). is_plain_split z.now) (sym one) ∙ plain) (ap (λ (z : Layouts). z.last) (sym one) ∙ (kept ∙ ap (λ (z : Layouts). z.now) one))

-- ---- `layout toggle all`

abbrev pub turned_four : NodeKind → NodeKind
turned_four k = turn cycles.All (turn cycles.All (turn cycles.All (turn cycles.All k)))

all_kind : (k : NodeKind) → turned_four k ≡ laid_kind (look k).now (laid_kind SplitV k)
all_kind (Root c) = refl
all_kind (Output o) = refl
all_kind (Space s) = by s.layout
  where
    by : (now : Layout) → turned_four (Space (record s { layout = now })) ≡ laid_kind now (laid_kind SplitV (Space (record s { layout = now })))
    by SplitH = refl
    by SplitV = refl
    by Tabbed = refl
    by Stacked = refl
all_kind (Con d) = by d.kind
  where
    by : (kind : ConKind) → turned_four (Con (record d { kind = kind })) ≡ laid_kind (look (Con (record d { kind = kind }))).now (laid_kind SplitV (Con (record d { kind = kind })))
    by (Split SplitH last) = refl
    by (Split SplitV last) = refl
    by (Split Tabbed last) = refl
    by (Split Stacked last) = refl
    by (Window props owner natural) = refl
    by (Placeholder props swallows) = refl

-- one, two and three times, and four times
pub all_once : (c : ConId) (t : TreeValue) → all_toggled c t ≡ tuned (turn cycles.All) c t
all_once c t = cycle_tuned cycles.All c t

pub keeps_two : Keeps (λ k. turn cycles.All (turn cycles.All k))
keeps_two = both_keep (turn cycles.All) (turn cycles.All) (turn_keeps cycles.All) (turn_keeps cycles.All)

pub keeps_three : Keeps (λ k. turn cycles.All (turn cycles.All (turn cycles.All k)))
keeps_three = both_keep (turn cycles.All) (λ k. turn cycles.All (turn cycles.All k)) (turn_keeps cycles.All) keeps_two

pub all_two : (c : ConId) (t : TreeValue) → all_toggled c (all_toggled c t) ≡ tuned (λ k. turn cycles.All (turn cycles.All k)) c t
all_two c t = ap (all_toggled c) (all_once c t) ∙ cycle_again cycles.All (turn cycles.All) c t (turn_keeps cycles.All)

pub all_three : (c : ConId) (t : TreeValue) → all_toggled c (all_toggled c (all_toggled c t)) ≡ tuned (λ k. turn cycles.All (turn cycles.All (turn cycles.All k))) c t
all_three c t = ap (all_toggled c) (all_two c t) ∙ cycle_again cycles.All (λ k. turn cycles.All (turn cycles.All k)) c t keeps_two

all_four : (c : ConId) (t : TreeValue) → all_toggled c (all_toggled c (all_toggled c (all_toggled c t))) ≡ tuned turned_four c t
all_four c t = ap (all_toggled c) (all_three c t) ∙ cycle_again cycles.All (λ k. turn cycles.All (turn cycles.All (turn cycles.All k))) c t keeps_three

set_twice : (l m : Layout) (c : ConId) (t : TreeValue) → laid_as c l (laid_as c m t) ≡ tuned (λ k. laid_kind l (laid_kind m k)) c t
set_twice l m c t = ap (laid_as c l) (set_tuned m c t) ∙ (set_tuned l c (tuned (laid_kind m) c t) ∙ tuned_twice (laid_kind l) (laid_kind m) c t (same_sort m))

pub all_toggles_as_set : AllTogglesAsSet
all_toggles_as_set c t = all_four c t ∙ (tuned_alike turned_four (λ k. laid_kind (layouts_at c t).now (laid_kind SplitV k)) c t same_kind ∙ sym (set_twice (layouts_at c t).now SplitV c t))
  where
    same_kind : AtNode c t (λ k. turned_four k ≡ laid_kind (layouts_at c t).now (laid_kind SplitV k))
    same_kind p e = all_kind p.kind ∙ ap (λ (z : Layouts). laid_kind z.now (laid_kind SplitV p.kind)) (sym (look_at c t p e))

round_kind : (k : NodeKind) → (look k).last ≡ last_split_of (look k).now SplitV → laid_kind (look k).now (laid_kind SplitV k) ≡ k
round_kind (Root c) e = refl
round_kind (Output o) e = refl
round_kind (Space s) e = ap (λ z. Space (record s { last_split = z })) (sym e)
round_kind (Con d) e = by d.kind e
  where
    by : (kind : ConKind) → (look (Con (record d { kind = kind }))).last ≡ last_split_of (look (Con (record d { kind = kind }))).now SplitV
        → laid_kind (look (Con (record d { kind = kind }))).now (laid_kind SplitV (Con (record d { kind = kind }))) ≡ Con (record d { kind = kind })
    by (Split now last) e = ap (λ z. Con (record d { kind = Split now z })) (sym e)
    by (Window props owner natural) e = refl
    by (Placeholder props swallows) e = refl

pub all_toggles_back : AllTogglesBack
all_toggles_back c t kept = all_toggles_as_set c t ∙ (set_twice (layouts_at c t).now SplitV c t ∙ tuned_none (λ k. laid_kind (layouts_at c t).now (laid_kind SplitV k)) c t same_kind)
  where
    same_kind : AtNode c t (λ k. laid_kind (layouts_at c t).now (laid_kind SplitV k) ≡ k)
    same_kind p e =
        let one = look_at c t p e in
        ap (λ (z : Layouts). laid_kind z.now (laid_kind SplitV p.kind)) one ∙ round_kind p.kind (ap (λ (z : Layouts). z.last) (sym one) ∙ (kept ∙ ap (λ (z : Layouts). last_split_of z.now SplitV) one))
