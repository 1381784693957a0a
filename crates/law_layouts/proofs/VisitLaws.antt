-- `layout toggle all` comes to each layout.
use Rattle.std.proofs.Common.{◌≡◌, Bool, true, false, cond, not, ◌&&◌, ◌⊎◌, inl, inr, Option, None, Some, refl, ap, ◌∙◌}
use Rattle.std.specs.Prelude.{is_some}
use Rattle.law_layouts.proofs.HolderLemmas.{parent_of}
use Rattle.law_layouts.proofs.LayoutLaws.{Keeps, all_once, all_three, all_two, keeps_three, keeps_two, laid_tuned, look, tuned, turn, turn_keeps}
use Rattle.law_layouts.proofs.NodeChanges.{part_kinded}
use Rattle.law_layouts.specs.Layouts.{AllVisitsAll, all_toggled, layouts_at}
use Rattle.wm_base.specs.declared.errors.ErrorText.TheVariants as texts
use Rattle.wm_base.specs.declared.ids.ConId.{ConId}
use Rattle.wm_base.specs.declared.plan.Layout.{Layout}
use Rattle.wm_base.specs.declared.plan.Layout.TheVariants.{SplitH, SplitV, Stacked, Tabbed}
use Rattle.wm_focus.specs.declared.splits.Layouts.{Layouts}
use Rattle.wm_focus.specs.Splits.{laid, layout_refusal, layouts_by, layouts_of, next_of_all}
use Rattle.wm_forest.specs.declared.part.ConKind.{ConKind}
use Rattle.wm_forest.specs.declared.part.ConKind.TheVariants.{Split, Window, Placeholder}
use Rattle.wm_forest.specs.declared.part.NodeKind.{NodeKind}
use Rattle.wm_forest.specs.declared.part.NodeKind.TheVariants.{Root, Output, Space, Con}
use Rattle.wm_forest.specs.declared.part.Part.{Part}
use Rattle.wm_forest.specs.Look.{con_kind, first_part, kind_by, only, space_kind}
use Rattle.wm_forest.specs.Place.{TakesFirst, TakesKids}
use Rattle.wm_language.specs.declared.arguments.Cycle.TheVariants as cycles
use Rattle.wm_shared.specs.Refusing.{error_if}
use Rattle.wm_shared.specs.Subject.{is_hidden, is_space}
use Rattle.wm_tree.specs.Sound.{IsSound}
use Rattle.wm_tree.specs.TreeValue.{TreeValue, is_tiled_con, or_id, parent}

-- ---- whose layout it is

-- the node whose layout it is, with a kind that has one
pub record HasLayout (c : ConId) (t : TreeValue) : Type 0 where
  pub part : Part
  pub is : first_part (only (laid t c) t.nodes) ≡ Some part
  pub takes : TakesKids part.kind

-- what a layout command that is not refused is done to
pub fine_subject : (c : ConId) (t : TreeValue) → layout_refusal c t ≡ None → (is_space t c ≡ true) ⊎ ((is_space t c ≡ false) × (is_tiled_con t c ≡ true))
fine_subject c t h = by (is_hidden t c) (is_space t c) (is_tiled_con t c) refl refl h
  where
    by : (a b d : Bool) → is_space t c ≡ b → is_tiled_con t c ≡ d → error_if a texts.NoWorkspace (error_if (not b && not d) texts.NotTiled None) ≡ None → (is_space t c ≡ true) ⊎ ((is_space t c ≡ false) × (is_tiled_con t c ≡ true))
    by true b d eb ed h = cc
    by false true d eb ed h = inl eb
    by false false true eb ed h = inr (eb, ed)
    by false false false eb ed h = cc

space_part : (o : Option Part) → is_some (kind_by space_kind o) ≡ true → TakesFirst o
space_part None h = cc
space_part (Some part) h = by part.kind h
  where
    by : (k : NodeKind) → is_some (space_kind k) ≡ true → TakesKids k
    by (Root d) h = cc
    by (Output o) h = cc
    by (Space w) h = tt
    by (Con d) h = cc

pub laid_takes : (c : ConId) (t : TreeValue) → IsSound t → layout_refusal c t ≡ None → TakesFirst (first_part (only (laid t c) t.nodes))
laid_takes c t s h = by (fine_subject c t h)
  where
    by : (is_space t c ≡ true) ⊎ ((is_space t c ≡ false) × (is_tiled_con t c ≡ true)) → TakesFirst (first_part (only (cond (is_space t c) c (or_id (parent t c) c)) t.nodes))
    by (inl e) = rw e (space_part (first_part (only c t.nodes)) e)
    by (inr e) = let p = parent_of c t s e.1 in rw (e.0, p.is) p.takes

pub has_layout : (c : ConId) (t : TreeValue) → IsSound t → layout_refusal c t ≡ None → HasLayout c t
has_layout c t s h = by (first_part (only (laid t c) t.nodes)) refl (laid_takes c t s h)
  where
    by : (o : Option Part) → first_part (only (laid t c) t.nodes) ≡ o → TakesFirst o → HasLayout c t
    by None e k = absurd k
    by (Some part) e k = record { part = part; is = e; takes = k }

-- ---- after a change of that node

pub look_tuned : (g : NodeKind → NodeKind) (c : ConId) (t : TreeValue) (k : HasLayout c t) → Keeps g → layouts_at c (tuned g c t) ≡ look (g k.part.kind)
look_tuned g c t k keeps =
    ap (λ n. layouts_of (tuned g c t) n) (laid_tuned g c t keeps) ∙ ap (λ o. layouts_by (kind_by space_kind o) (kind_by con_kind o)) (part_kinded (laid t c) g k.part t.nodes k.is)

pub look_now : (c : ConId) (t : TreeValue) (k : HasLayout c t) → layouts_at c t ≡ look k.part.kind
look_now c t k = ap (λ o. layouts_by (kind_by space_kind o) (kind_by con_kind o)) k.is

-- ---- round all four

round : (now l : Layout) → (now ≡ l) ⊎ ((next_of_all now ≡ l) ⊎ ((next_of_all (next_of_all now) ≡ l) ⊎ (next_of_all (next_of_all (next_of_all now)) ≡ l)))
round SplitH SplitH = inl refl
round SplitH SplitV = inr (inl refl)
round SplitH Tabbed = inr (inr (inr refl))
round SplitH Stacked = inr (inr (inl refl))
round SplitV SplitH = inr (inr (inr refl))
round SplitV SplitV = inl refl
round SplitV Tabbed = inr (inr (inl refl))
round SplitV Stacked = inr (inl refl)
round Tabbed SplitH = inr (inl refl)
round Tabbed SplitV = inr (inr (inl refl))
round Tabbed Tabbed = inl refl
round Tabbed Stacked = inr (inr (inr refl))
round Stacked SplitH = inr (inr (inl refl))
round Stacked SplitV = inr (inr (inr refl))
round Stacked Tabbed = inr (inl refl)
round Stacked Stacked = inl refl

-- one step changes the layout of a workspace or split to the next
turned_now : (k : NodeKind) → TakesKids k → ((look (turn cycles.All k)).now ≡ next_of_all (look k).now) × TakesKids (turn cycles.All k)
turned_now (Root c) h = absurd h
turned_now (Output o) h = absurd h
turned_now (Space s) h = (refl, tt)
turned_now (Con d) h = by d.kind h
  where
    by : (kind : ConKind) → TakesKids (Con (record d { kind = kind }))
        → ((look (turn cycles.All (Con (record d { kind = kind })))).now ≡ next_of_all (look (Con (record d { kind = kind }))).now) × TakesKids (turn cycles.All (Con (record d { kind = kind })))
    by (Split now last) h = (refl, tt)
    by (Window props owner natural) h = absurd h
    by (Placeholder props swallows) h = absurd h

pub all_visits_all : AllVisitsAll
all_visits_all c t l sub fine =
    let k = has_layout c t sub.sound fine in
    let kind : NodeKind = k.part.kind in
    let one = turned_now kind k.takes in
    let two = turned_now (turn cycles.All kind) one.1 in
    let three = turned_now (turn cycles.All (turn cycles.All kind)) two.1 in
    let z0 : (layouts_at c t).now ≡ (look kind).now = ap (λ (z : Layouts). z.now) (look_now c t k) in
    let z1 : (layouts_at c (all_toggled c t)).now ≡ next_of_all (look kind).now = ap (λ x. (layouts_at c x).now) (all_once c t) ∙ (ap (λ (z : Layouts). z.now) (look_tuned (turn cycles.All) c t k (turn_keeps cycles.All)) ∙ one.0) in
    let z2 : (layouts_at c (all_toggled c (all_toggled c t))).now ≡ next_of_all (next_of_all (look kind).now) =
    ap (λ x. (layouts_at c x).now) (all_two c t) ∙ (ap (λ (z : Layouts). z.now) (look_tuned (λ x. turn cycles.All (turn cycles.All x)) c t k keeps_two) ∙ (two.0 ∙ ap next_of_all one.0)) in
    let z3 : (layouts_at c (all_toggled c (all_toggled c (all_toggled c t)))).now ≡ next_of_all (next_of_all (next_of_all (look kind).now)) =
    ap (λ x. (layouts_at c x).now) (all_three c t)
    ∙ (ap (λ (z : Layouts). z.now) (look_tuned (λ x. turn cycles.All (turn cycles.All (turn cycles.All x))) c t k keeps_three) ∙ (three.0 ∙ ap next_of_all (two.0 ∙ ap next_of_all one.0))) in
    by z0 z1 z2 z3 (round (look kind).now l)
  where
    by : {a b d e x y z w l : Layout} → a ≡ x → b ≡ y → d ≡ z → e ≡ w → (x ≡ l) ⊎ ((y ≡ l) ⊎ ((z ≡ l) ⊎ (w ≡ l))) → (a ≡ l) ⊎ ((b ≡ l) ⊎ ((d ≡ l) ⊎ (e ≡ l)))
    by p q r s (inl h) = inl (p ∙ h)
    by p q r s (inr (inl h)) = inr (inl (q ∙ h))
    by p q r s (inr (inr (inl h))) = inr (inr (inl (r ∙ h)))
    by p q r s (inr (inr (inr h))) = inr (inr (inr (s ∙ h)))
