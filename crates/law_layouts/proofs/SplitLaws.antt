-- After `split`: the layout around its subject, and where that stands.
use Rattle.std.proofs.Common.{◌≡◌, ◌≢◌, Bool, true, false, cond, ◌&&◌, ◌||◌, ◌⊎◌, inl, inr, Option, None, Some, refl, ap, sym, ◌∙◌, arith}
use Rattle.std.specs.Option.{option_or}
use Rattle.std.specs.Prelude.{is_some, option_and_then}
use Rattle.law_layouts.proofs.LayoutLaws.{laid_kind, look, same_sort, set_tuned, tuned}
use Rattle.law_layouts.proofs.NodeChanges.{seen_kinded, spot_kinded}
use Rattle.law_layouts.proofs.VisitLaws.{fine_subject, has_layout, look_tuned}
use Rattle.law_layouts.proofs.WrapLooks.{Inside, new_found, old_seen, old_spot}
use Rattle.law_layouts.specs.Layouts.{layouts_at}
use Rattle.law_layouts.specs.Splitting.{SplitHIsSplitH, SplitKeepsTiled, SplitKeepsWorkspace, SplitToggleIsOther, SplitVIsSplitV}
use Rattle.wm_base.specs.declared.errors.Refusal.{Refusal}
use Rattle.wm_base.specs.declared.ids.ConId.{ConId}
use Rattle.wm_base.specs.declared.plan.Layout.{Layout}
use Rattle.wm_focus.specs.declared.splits.Layouts.{Layouts}
use Rattle.wm_focus.specs.Splits.{asked_split, gives_layout, laid, laid_as, layout_refusal, layouts_by, layouts_of, split_refusal, split_tree}
use Rattle.wm_forest.proofs.RecencyLemmas.{same_is}
use Rattle.wm_forest.specs.declared.kind.KindEdit.TheVariants as edits
use Rattle.wm_forest.specs.declared.part.ConKind.{ConKind}
use Rattle.wm_forest.specs.declared.part.ConKind.TheVariants.{Split, Window, Placeholder}
use Rattle.wm_forest.specs.declared.part.NodeKind.{NodeKind}
use Rattle.wm_forest.specs.declared.part.NodeKind.TheVariants.{Root, Output, Space, Con}
use Rattle.wm_forest.specs.declared.part.Part.{Part}
use Rattle.wm_forest.specs.declared.spot.Spot.{Spot}
use Rattle.wm_forest.specs.Kinds.{changed}
use Rattle.wm_forest.specs.Look.{con_kind, first_part, has, kind_by, only, same, space_kind}
use Rattle.wm_forest.specs.Place.{TakesKids}
use Rattle.wm_forest.specs.RootId.{id}
use Rattle.wm_forest.specs.Spot.{spot_in, top}
use Rattle.wm_language.specs.declared.arguments.SplitArg.{SplitArg}
use Rattle.wm_language.specs.declared.arguments.SplitArg.TheVariants as splits
use Rattle.wm_shared.proofs.DownLemmas.{none}
use Rattle.wm_shared.proofs.KidLemmas.{con_there}
use Rattle.wm_shared.specs.Subject.{IsSubject, is_space}
use Rattle.wm_tree.specs.Move.{share_in, wrapped}
use Rattle.wm_tree.specs.Sound.{IsSound}
use Rattle.wm_tree.specs.TreeValue.{TreeValue, is_con, is_con_kind, is_tiled_con, is_tiled_spot, or_id, parent, workspace_of}

-- ---- the layout is given to the node around

given_kind : (l : Layout) (k : NodeKind) → TakesKids k → (look (laid_kind l k)).now ≡ l
given_kind l (Root d) h = absurd h
given_kind l (Output o) h = absurd h
given_kind l (Space s) h = refl
given_kind l (Con d) h = by d.kind h
  where
    by : (kind : ConKind) → TakesKids (Con (record d { kind = kind })) → (look (laid_kind l (Con (record d { kind = kind })))).now ≡ l
    by (Split now last) h = refl
    by (Window props owner natural) h = absurd h
    by (Placeholder props swallows) h = absurd h

given_layout : (c : ConId) (l : Layout) (t : TreeValue) → IsSound t → layout_refusal c t ≡ None → (layouts_at c (laid_as c l t)).now ≡ l
given_layout c l t s h =
    let k = has_layout c t s h in
    ap (λ x. (layouts_at c x).now) (set_tuned l c t) ∙ (ap (λ (z : Layouts). z.now) (look_tuned (laid_kind l) c t k (same_sort l)) ∙ given_kind l k.part.kind k.takes)

given_tiled : (c : ConId) (l : Layout) (t : TreeValue) → is_tiled_con (laid_as c l t) c ≡ is_tiled_con t c
given_tiled c l t =
    let as_tuned : is_tiled_con (laid_as c l t) c ≡ is_tiled_con (tuned (laid_kind l) c t) c = ap (λ x. is_tiled_con x c) (set_tuned l c t) in
    let con_same = seen_kinded (laid t c) c (laid_kind l) is_con (λ p. (same_sort l p.kind).cons) t.nodes in
    let spot_same = spot_kinded (laid t c) c (laid_kind l) (same_sort l) top t.nodes in
    as_tuned ∙ (ap (λ z. z && is_tiled_spot (spot_in top c (tuned (laid_kind l) c t).nodes)) con_same ∙ ap (λ z. is_con (first_part (only c t.nodes)) && is_tiled_spot z) spot_same)

given_space : (c : ConId) (l : Layout) (t : TreeValue) → workspace_of (laid_as c l t) c ≡ workspace_of t c
given_space c l t = ap (λ x. workspace_of x c) (set_tuned l c t) ∙ ap (λ o. option_and_then (λ (s : Spot). s.space) o) (spot_kinded (laid t c) c (laid_kind l) (same_sort l) top t.nodes)

-- ---- a new split

pub record Fresh (c : ConId) (t : TreeValue) : Type 0 where
  pub there : has c t.nodes ≡ true
  pub fresh : has (id t.next_id) t.nodes ≡ false
  pub other : same (id t.next_id) c ≡ false

con_has : (c : ConId) (t : TreeValue) → is_con (first_part (only c t.nodes)) ≡ true → has c t.nodes ≡ true
con_has c t h = con_there c t.nodes (by (first_part (only c t.nodes)) h)
  where
    by : (o : Option Part) → is_con o ≡ true → kind_by con_kind o ≢ None
    by None h = cc
    by (Some part) h = by_kind part.kind h
      where
        by_kind : (k : NodeKind) → is_con_kind k ≡ true → con_kind k ≢ None
        by_kind (Root d) h = cc
        by_kind (Output o) h = cc
        by_kind (Space w) h = cc
        by_kind (Con d) h = λ e. cc

both : (a b : Bool) → (a && b) ≡ true → (a ≡ true) × (b ≡ true)
both true b h = (refl, h)
both false b h = cc

pub fresh_id : (c : ConId) (t : TreeValue) → IsSound t → is_tiled_con t c ≡ true → Fresh c t
fresh_id c t s h =
    let there = con_has c t (both (is_con (first_part (only c t.nodes))) (is_tiled_spot (spot_in top c t.nodes)) h).0 in
    let fresh = none (id t.next_id) t.nodes (s.fresh (id t.next_id) (omega arith)) in
    record { there = there; fresh = fresh; other = by (same (id t.next_id) c) refl there fresh }
  where
    by : (b : Bool) → same (id t.next_id) c ≡ b → has c t.nodes ≡ true → has (id t.next_id) t.nodes ≡ false → same (id t.next_id) c ≡ false
    by false e there fresh = e
    by true e there fresh = let one : id t.next_id ≡ c = same_is (id t.next_id) c e in let bad : has c t.nodes ≡ false = ap (λ z. has z t.nodes) (sym one) ∙ fresh in cc

inside : (c : ConId) (l : Layout) (t : TreeValue) → Fresh c t → Inside (id t.next_id) (spot_in top c t.nodes) (spot_in top c (wrapped c l t).nodes)
inside c l t f = old_spot c (id t.next_id) (share_in c t.nodes) t.border l f.other top t.nodes f.there

share_con : (k : NodeKind) → is_con_kind (changed (edits.Share 65536) k) ≡ is_con_kind k
share_con (Root d) = refl
share_con (Output o) = refl
share_con (Space x) = refl
share_con (Con d) = refl

share_space : (k : NodeKind) → is_some (space_kind (changed (edits.Share 65536) k)) ≡ is_some (space_kind k)
share_space (Root d) = refl
share_space (Output o) = refl
share_space (Space x) = refl
share_space (Con d) = refl

wrapped_layout : (c : ConId) (l : Layout) (t : TreeValue) → IsSound t → is_space t c ≡ false → is_tiled_con t c ≡ true → (layouts_at c (wrapped c l t)).now ≡ l
wrapped_layout c l t s no_space tiled =
    let f = fresh_id c t s tiled in
    let space : is_space (wrapped c l t) c ≡ false =
    old_seen c (id t.next_id) (share_in c t.nodes) t.border l f.other (λ o. is_some (kind_by space_kind o)) (λ p. share_space p.kind) t.nodes f.there ∙ no_space in
    let held : parent (wrapped c l t) c ≡ Some (id t.next_id) = (inside c l t f).holder in
    let node : laid (wrapped c l t) c ≡ id t.next_id = ap (λ z. cond z c (or_id (parent (wrapped c l t) c) c)) space ∙ ap (λ z. or_id z c) held in
    ap (λ z. (layouts_of (wrapped c l t) z).now) node
    ∙ ap (λ o. (layouts_by (kind_by space_kind o) (kind_by con_kind o)).now) (new_found c (id t.next_id) (share_in c t.nodes) t.border l f.other t.nodes f.there f.fresh)

wrapped_tiled : (c : ConId) (l : Layout) (t : TreeValue) → IsSound t → is_tiled_con t c ≡ true → is_tiled_con (wrapped c l t) c ≡ true
wrapped_tiled c l t s tiled =
    let f = fresh_id c t s tiled in
    let is : is_con (first_part (only c (wrapped c l t).nodes)) ≡ true =
    old_seen c (id t.next_id) (share_in c t.nodes) t.border l f.other is_con (λ p. share_con p.kind) t.nodes f.there ∙ (both (is_con (first_part (only c t.nodes))) (is_tiled_spot (spot_in top c t.nodes)) tiled).0 in
    ap (λ z. z && is_tiled_spot (spot_in top c (wrapped c l t).nodes)) is ∙ (inside c l t f).tiled

-- ---- `split`

-- the two ways
pub record Ways (c : ConId) (arg : SplitArg) (t : TreeValue) : Type 0 where
  pub fine : layout_refusal c t ≡ None
  pub wraps : gives_layout t c ≡ false → (is_space t c ≡ false) × (is_tiled_con t c ≡ true)

first_none : (a b : Option Refusal) → option_or a b ≡ None → a ≡ None
first_none None b h = refl
first_none (Some x) b h = cc

or_no : (a b : Bool) → (a || b) ≡ false → a ≡ false
or_no true b h = cc
or_no false b h = refl

pub ways : (c : ConId) (arg : SplitArg) (t : TreeValue) → split_refusal c arg t ≡ None → Ways c arg t
ways c arg t h =
    let fine = first_none (layout_refusal c t) _ h in
    record { fine = fine; wraps = λ g. by (or_no (is_space t c) _ g) (fine_subject c t fine) }
  where
    by : is_space t c ≡ false → (is_space t c ≡ true) ⊎ ((is_space t c ≡ false) × (is_tiled_con t c ≡ true)) → (is_space t c ≡ false) × (is_tiled_con t c ≡ true)
    by n (inl e) = cc
    by n (inr e) = e

asked : (c : ConId) (arg : SplitArg) (t : TreeValue) → IsSubject t c → split_refusal c arg t ≡ None → (layouts_at c (split_tree c arg t)).now ≡ asked_split arg (layouts_at c t).now
asked c arg t sub h = by (gives_layout t c) refl
  where
    w : Ways c arg t
    w = ways c arg t h

    by : (b : Bool) → gives_layout t c ≡ b → (layouts_at c (cond b (laid_as c (asked_split arg (layouts_at c t).now) t) (wrapped c (asked_split arg (layouts_at c t).now) t))).now ≡ asked_split arg (layouts_at c t).now
    by true e = given_layout c (asked_split arg (layouts_at c t).now) t sub.sound w.fine
    by false e = let k = w.wraps e in wrapped_layout c (asked_split arg (layouts_at c t).now) t sub.sound k.0 k.1

pub split_h_is : SplitHIsSplitH
split_h_is c t sub h = asked c splits.H t sub h

pub split_v_is : SplitVIsSplitV
split_v_is c t sub h = asked c splits.V t sub h

pub split_toggle_is : SplitToggleIsOther
split_toggle_is c t sub h = asked c splits.Toggle t sub h

pub split_keeps_tiled : SplitKeepsTiled
split_keeps_tiled c arg t sub h tiled = by (gives_layout t c)
  where
    by : (b : Bool) → is_tiled_con (cond b (laid_as c (asked_split arg (layouts_at c t).now) t) (wrapped c (asked_split arg (layouts_at c t).now) t)) c ≡ true
    by true = given_tiled c (asked_split arg (layouts_at c t).now) t ∙ tiled
    by false = wrapped_tiled c (asked_split arg (layouts_at c t).now) t sub.sound tiled

pub split_keeps_workspace : SplitKeepsWorkspace
split_keeps_workspace c arg t sub h = by (gives_layout t c) refl
  where
    w : Ways c arg t
    w = ways c arg t h

    by : (b : Bool) → gives_layout t c ≡ b → workspace_of (cond b (laid_as c (asked_split arg (layouts_at c t).now) t) (wrapped c (asked_split arg (layouts_at c t).now) t)) c ≡ workspace_of t c
    by true e = given_space c (asked_split arg (layouts_at c t).now) t
    by false e = (inside c (asked_split arg (layouts_at c t).now) t (fresh_id c t sub.sound (w.wraps e).1)).space
