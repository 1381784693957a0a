-- A container that grows and then shrinks by as many hundredths, or the other way round, leaves the tree as it was.
use Rattle.std.proofs.Common.{◌≡◌, ℕ, ◌≤◌, Bool, true, false, cond, not, ◌&&◌, ◌||◌, List, [], ◌∷◌, Option, None, Some, refl, ap, sym, ◌∙◌, arith}
use Rattle.std.proofs.lemmas.Bool.Decides.{nat_tests}
use Rattle.std.specs.Prelude.{◌==◌, option_and_then}
use Rattle.law_sizes.proofs.DealLaws.{no_error}
use Rattle.law_sizes.proofs.EdgeLaws.{found_in}
use Rattle.law_sizes.proofs.SharelessViews.{AreShared, climb_un, con_un, forest_equal, kids_un, length_un, neighbour_un, only_un, row_un, share_first, tiled_un}
use Rattle.law_sizes.proofs.SharesKept.{differ, others_kept, set_unshared}
use Rattle.law_sizes.specs.Returning.{ResizesBack}
use Rattle.law_sizes.specs.Shares.{unshared}
use Rattle.wm_base.specs.declared.errors.ErrorText.TheVariants as texts
use Rattle.wm_base.specs.declared.errors.Refusal.TheVariants.{NoTarget}
use Rattle.wm_base.specs.declared.geometry.Axis.{Axis}
use Rattle.wm_base.specs.declared.ids.ConId.{ConId}
use Rattle.wm_language.specs.declared.arguments.Side.{Side}
use Rattle.wm_language.specs.declared.arguments.Side.TheVariants.{Width, Height, At}
use Rattle.wm_shared.proofs.DownLemmas.{Once, down_kids, once_kids, once_only, only_below}
use Rattle.wm_shared.proofs.KidLemmas.{spot_tiled, tiled_in}
use Rattle.wm_shared.specs.Neighbours.{neighbour}
use Rattle.wm_shared.specs.Subject.{is_hidden, is_space}
use Rattle.wm_sizes.proofs.AnewLemmas.{anew}
use Rattle.wm_sizes.proofs.BoolLemmas.{both}
use Rattle.wm_sizes.proofs.FamilyLemmas.{rung_family}
use Rattle.wm_sizes.proofs.HandLemmas.{fitting, or_none}
use Rattle.wm_sizes.proofs.SetLemmas.{family_tiled, set_sound}
use Rattle.wm_sizes.specs.Climbing.{climb, rung_of, side_axis}
use Rattle.wm_sizes.specs.Deals.{dealt, fits, fits_all, gained, is_named, part, siblings, turn_after}
use Rattle.wm_sizes.specs.declared.climbing.Climbed.{Climbed}
use Rattle.wm_sizes.specs.declared.climbing.Rung.{Rung}
use Rattle.wm_sizes.specs.declared.deals.Deal.{Deal}
use Rattle.wm_forest.specs.declared.shares.Sibling.{Sibling}
use Rattle.wm_sizes.specs.declared.tiled.Growth.{Growth}
use Rattle.wm_sizes.specs.Laws.{SharesAnew, share_among}
use Rattle.wm_sizes.specs.Resizing.{resize_refusal, resize_tree}
use Rattle.wm_sizes.specs.Tiled.{HasFamily, cannot, children_of, lacks, length_of, partner_of, partners_of, rung_deal, rung_refusal, rung_tree, tiled_refusal, tiled_tree}
use Rattle.wm_tree.proofs.AttachLemmas.{has_row}
use Rattle.wm_forest.specs.Counts.{row_length, share_of, share_sum}
use Rattle.wm_forest.specs.Forest.{Forest, end, con}
use Rattle.wm_forest.specs.Look.{first_kids, first_part, has, in_row, node_in, only, same}
use Rattle.wm_forest.specs.Spot.{top}
use Rattle.wm_tree.specs.Sound.{IsSound}
use Rattle.wm_tree.specs.TreeValue.{TreeValue, is_con, is_tiled_con, is_tiled_spot, spot}

-- ---- a deal and the one back

abbrev flip : Deal → Deal
flip d = record d { grow = not d.grow }

one_back : (g a n : Bool) (share amount piece : ℕ) → 1 ≤ cond a (gained g share amount) (cond (not a && n) (gained (not g) share piece) share)
    → cond a (gained (not g) (cond a (gained g share amount) (cond (not a && n) (gained (not g) share piece) share)) amount)
    (cond (not a && n) (gained (not (not g)) (cond a (gained g share amount) (cond (not a && n) (gained (not g) share piece) share)) piece) (cond a (gained g share amount) (cond (not a && n) (gained (not g) share piece) share)))
    ≡ share
one_back true true n share amount piece h = omega arith
one_back false true n share amount piece h = omega (arith, h)
one_back true false true share amount piece h = omega (arith, h)
one_back false false true share amount piece h = omega arith
one_back true false false share amount piece h = refl
one_back false false false share amount piece h = refl

dealt_back : (d : Deal) (turn : ℕ) (l : List Sibling) → fits_all d turn l ≡ true → dealt (flip d) turn (dealt d turn l) ≡ l
dealt_back d turn [] h = refl
dealt_back d turn (x ∷ l) h =
    let b = both (fits d x turn) (fits_all d (turn_after d x.id turn) l) h in
    let one = one_back d.grow (same x.id d.node) (is_named d.partner x.id) x.share d.amount (part d turn) (fitting d x turn b.0).0 in
    ap (λ (n : ℕ). record { id = x.id; share = n } ∷ dealt (flip d) (turn_after d x.id turn) (dealt d (turn_after d x.id turn) l)) one
    ∙ ap (λ (z : List Sibling). x ∷ z) (dealt_back d (turn_after d x.id turn) l b.1)

-- ---- shares of the children

share_at : (i : ConId) (row : Forest) → share_first (first_part (node_in i row)) ≡ share_among i (siblings row)
share_at i end = refl
share_at i (con own kids floats rest) = by (same own.id i) (share_at i rest) where
  by : (b : Bool) → share_first (first_part (node_in i rest)) ≡ share_among i (siblings rest)
      → share_first (first_part (cond b (con own kids floats rest) (node_in i rest))) ≡ cond b (share_of own.kind) (share_among i (siblings rest))
  by true u = refl
  by false u = u

-- the share of a child is that among its siblings
child_share : (p i : ConId) (f : Forest) → Once f → in_row i (first_kids (only p f)) ≡ true → share_first (first_part (only i f)) ≡ share_among i (siblings (first_kids (only p f)))
child_share p i f once h = by (only p f) (once_only p f once) refl h where
  by : (g : Forest) → Once g → only p f ≡ g → in_row i (first_kids g) ≡ true → share_first (first_part (only i f)) ≡ share_among i (siblings (first_kids g))
  by end o e h = cc
  by (con own kids floats rest) o e h =
      let in_kids = has_row i kids h in
      let low : only i (con own kids floats rest) ≡ only i kids = down_kids own kids floats rest o i in_kids in
      let there : has i (only p f) ≡ true = rw e (right (same own.id i) (has i kids) (has i floats) (has i rest) in_kids) in
      let below : only i f ≡ only i (con own kids floats rest) = sym (only_below i p f once there) ∙ ap (only i) e in
      ap (λ z. share_first (first_part z)) (below ∙ low) ∙ (ap share_first (found_in i kids (once_kids own kids floats rest o) h) ∙ share_at i kids)
    where
      right : (a k l r : Bool) → k ≡ true → (a || k || l || r) ≡ true
      right true k l r e = refl
      right false true l r e = refl
      right false false l r e = cc

children_un : (p : ConId) (t new : TreeValue) → unshared new.nodes ≡ unshared t.nodes → unshared (children_of p new) ≡ unshared (children_of p t)
children_un p t new e =
    sym (kids_un (only p new.nodes)) ∙ (ap first_kids (sym (only_un p new.nodes)) ∙ (ap (λ z. first_kids (only p z)) e ∙ (ap first_kids (only_un p t.nodes) ∙ kids_un (only p t.nodes))))

-- ---- the deal back

partner_same : (side : Side) (node : ConId) (a b : Forest) → unshared a ≡ unshared b → partner_of side node a ≡ partner_of side node b
partner_same Width node a b e = refl
partner_same Height node a b e = refl
partner_same (At d) node a b e = sym (neighbour_un d node a) ∙ (ap (neighbour d node) e ∙ neighbour_un d node b)

partners_same : (side : Side) (a b : Forest) → unshared a ≡ unshared b → partners_of side a ≡ partners_of side b
partners_same side a b e = by side where
  long : row_length a ≡ row_length b
  long = sym (length_un a) ∙ (ap row_length e ∙ length_un b)

  by : (side : Side) → partners_of side a ≡ partners_of side b
  by Width = rw long refl
  by Height = rw long refl
  by (At d) = refl

abbrev back : Growth → Growth
back g = record g { grow = not g.grow }

deal_back : (g : Growth) (r : Rung) (t new : TreeValue) → 1 ≤ g.ppt → unshared new.nodes ≡ unshared t.nodes → share_sum (children_of r.parent new) ≡ share_sum (children_of r.parent t) → rung_deal (back g) r new ≡ flip (rung_deal g r t)
deal_back g r t new some e sum =
    let rows = children_un r.parent t new e in
    let ppt : (g.ppt == 0) ≡ false = grind (arith, nat_tests) in
    rw (partner_same g.side r.node (children_of r.parent new) (children_of r.parent t) rows, partners_same g.side (children_of r.parent new) (children_of r.parent t) rows, sum, ppt) refl

-- ---- there and back

module _ (g : Growth) (r : Rung) (t : TreeValue) (s : IsSound t) (some : 1 ≤ g.ppt) (f : HasFamily r t.nodes) (fine : rung_refusal g (Some r) t ≡ None) where
  abbrev t1 : TreeValue
  t1 = rung_tree g (Some r) t

  abbrev row : Forest
  row = children_of r.parent t

  able : (lacks g.side r.node row ≡ false) × (cannot g (length_of g.side r.parent t) (rung_deal g r t) row ≡ false)
  able =
      let a = no_error (lacks g.side r.node row) (NoTarget texts.NoNeighbour) (cond (cannot g (length_of g.side r.parent t) (rung_deal g r t) row) (Some (NoTarget texts.CannotResize)) None) fine in
      let b = no_error (cannot g (length_of g.side r.parent t) (rung_deal g r t) row) (NoTarget texts.CannotResize) None a.1 in
      (a.0, b.0)

  fit : fits_all (rung_deal g r t) 0 (siblings row) ≡ true
  fit = or_none (g.ppt == 0 && length_of g.side r.parent t == 0) (fits_all (rung_deal g r t) 0 (siblings row)) able.1

  pub anew_one : SharesAnew g r t t1
  anew_one = anew g r (length_of g.side r.parent t) (rung_deal g r t) t t1 s f refl able.0 able.1 refl

  pub sound_one : IsSound t1
  sound_one = set_sound (rung_deal g r t) 0 (siblings row) t fit (family_tiled r t s f) s

  pub unshared_one : unshared t1.nodes ≡ unshared t.nodes
  unshared_one = ap (λ (x : TreeValue). x.nodes) (set_unshared (dealt (rung_deal g r t) 0 (siblings row)) t)

  pub fit_one : fits_all (rung_deal g r t) 0 (siblings row) ≡ true
  fit_one = fit

there_back : (g : Growth) (r : Rung) (t : TreeValue) → IsSound t → 1 ≤ g.ppt → HasFamily r t.nodes → HasFamily r (rung_tree g (Some r) t).nodes → rung_refusal g (Some r) t ≡ None → rung_refusal (back g) (Some r) (rung_tree g (Some r) t) ≡ None
    → rung_tree (back g) (Some r) (rung_tree g (Some r) t) ≡ t
there_back g r t s some f f1 fine fine1 = whole
  where
    mid : TreeValue
    mid = rung_tree g (Some r) t

    new : TreeValue
    new = rung_tree (back g) (Some r) mid

    e : unshared mid.nodes ≡ unshared t.nodes
    e = unshared_one g r t s some f fine

    sound : IsSound mid
    sound = sound_one g r t s some f fine

    first : SharesAnew g r t mid
    first = anew_one g r t s some f fine

    second : SharesAnew (back g) r mid new
    second = anew_one (back g) r mid sound some f1 fine1

    bare : record new { nodes = unshared new.nodes } ≡ record t { nodes = unshared t.nodes }
    bare = set_unshared (dealt (rung_deal (back g) r mid) 0 (siblings (children_of r.parent mid))) mid ∙ set_unshared (dealt (rung_deal g r t) 0 (siblings (children_of r.parent t))) t

    -- the children of the rung's parent have their shares back
    shares : siblings (children_of r.parent new) ≡ siblings (children_of r.parent t)
    shares =
        second.row ∙ (ap (λ (d : Deal). dealt d 0 (siblings (children_of r.parent mid))) (deal_back g r t mid some e first.sum)
        ∙ (ap (dealt (flip (rung_deal g r t)) 0) first.row ∙ dealt_back (rung_deal g r t) 0 (siblings (children_of r.parent t)) (fit_one g r t s some f fine)))

    rows : (i : ConId) → in_row i (children_of r.parent mid) ≡ in_row i (children_of r.parent t)
    rows i = sym (row_un i (children_of r.parent mid)) ∙ (ap (in_row i) (children_un r.parent t mid e) ∙ row_un i (children_of r.parent t))

    nodes : unshared new.nodes ≡ unshared t.nodes
    nodes = ap (λ (x : TreeValue). x.nodes) bare

    rows_new : (i : ConId) → in_row i (children_of r.parent new) ≡ in_row i (children_of r.parent t)
    rows_new i = sym (row_un i (children_of r.parent new)) ∙ (ap (in_row i) (children_un r.parent t new nodes) ∙ row_un i (children_of r.parent t))

    each : AreShared new.nodes t.nodes
    each i = by (in_row i (children_of r.parent t)) refl where
      by : (b : Bool) → in_row i (children_of r.parent t) ≡ b → share_first (first_part (only i new.nodes)) ≡ share_first (first_part (only i t.nodes))
      by true h =
          child_share r.parent i new.nodes (sound_one (back g) r mid sound some f1 fine1).once (rows_new i ∙ h)
          ∙ (ap (share_among i) shares ∙ sym (child_share r.parent i t.nodes s.once h))
      by false h =
          ap share_first (others_kept (rung_deal (back g) r mid) 0 i (children_of r.parent mid) mid (rows i ∙ h) ∙ others_kept (rung_deal g r t) 0 i (children_of r.parent t) t h)

    whole : new ≡ t
    whole =
        let same_nodes : new.nodes ≡ t.nodes = forest_equal new.nodes t.nodes nodes (sound_one (back g) r mid sound some f1 fine1).once each in
        ap (λ (x : TreeValue). record x { nodes = new.nodes }) bare ∙ ap (λ (n : Forest). record t { nodes = n }) same_nodes

-- ---- the law

rung_same : (a : Axis) (c : ConId) (t new : TreeValue) → unshared new.nodes ≡ unshared t.nodes → rung_of a c new ≡ rung_of a c t
rung_same a c t new e = ap (λ (z : Option Climbed). option_and_then (λ (x : Climbed). x.rung) z) (sym (climb_un a c new.nodes) ∙ (ap (climb a c) e ∙ climb_un a c t.nodes))

tiled_same : (c : ConId) (t new : TreeValue) → unshared new.nodes ≡ unshared t.nodes → is_tiled_con new c ≡ is_tiled_con t c
tiled_same c t new e =
    let cons : is_con (first_part (only c new.nodes)) ≡ is_con (first_part (only c t.nodes)) =
    sym (con_un (only c new.nodes)) ∙ (ap (λ z. is_con (first_part z)) (sym (only_un c new.nodes) ∙ (ap (only c) e ∙ only_un c t.nodes)) ∙ con_un (only c t.nodes)) in
    let tiled : tiled_in false c new.nodes ≡ tiled_in false c t.nodes = sym (tiled_un false c new.nodes) ∙ (ap (tiled_in false c) e ∙ tiled_un false c t.nodes) in
    ap (λ z. z && is_tiled_spot (spot new c)) cons ∙ ap (λ z. is_con (first_part (only c t.nodes)) && z) (spot_tiled c top new.nodes ∙ (tiled ∙ sym (spot_tiled c top t.nodes)))

-- a tiled container is refused as its rung is
tiled_fine : (c : ConId) (g : Growth) (t : TreeValue) → is_tiled_con t c ≡ true → resize_refusal c g.grow g.side g.px g.ppt t ≡ None → tiled_refusal c g t ≡ None
tiled_fine c g t tiled fine =
    let a = no_error (is_hidden t c) (NoTarget texts.NoWorkspace) (cond (is_space t c) (Some (NoTarget texts.AtWorkspace)) (tiled_refusal c g t)) (rw tiled at fine) in
    let b = no_error (is_space t c) (NoTarget texts.AtWorkspace) (tiled_refusal c g t) a.1 in
    b.1

by_rung : (c : ConId) (g : Growth) (t : TreeValue) → IsSound t → 1 ≤ g.ppt → (o : Option Rung) → rung_of (side_axis g.side) c t ≡ o → rung_refusal g o t ≡ None → (unshared (rung_tree g o t).nodes ≡ unshared t.nodes)
    → rung_refusal (back g) o (rung_tree g o t) ≡ None → rung_tree (back g) o (rung_tree g o t) ≡ t
by_rung c g t s some None e fine u fine1 = cc
by_rung c g t s some (Some r) e fine u fine1 =
    let f = rung_family (side_axis g.side) c t r s e in
    let sound = sound_one g r t s some f fine in
    let f1 = rung_family (side_axis g.side) c (rung_tree g (Some r) t) r sound (rung_same (side_axis g.side) c t (rung_tree g (Some r) t) u ∙ e) in
    there_back g r t s some f f1 fine fine1

tiled_back : (c : ConId) (g : Growth) (t : TreeValue) → IsSound t → 1 ≤ g.ppt → tiled_refusal c g t ≡ None → tiled_refusal c (back g) (tiled_tree c g t) ≡ None → unshared (tiled_tree c g t).nodes ≡ unshared t.nodes
    → tiled_tree c (back g) (tiled_tree c g t) ≡ t
tiled_back c g t s some fine fine1 u =
    let a : Axis = side_axis g.side in
    let rung = rung_same a c t (tiled_tree c g t) u in
    let fine2 : rung_refusal (back g) (rung_of a c t) (tiled_tree c g t) ≡ None = ap (λ o. rung_refusal (back g) o (tiled_tree c g t)) (sym rung) ∙ fine1 in
    ap (λ o. rung_tree (back g) o (tiled_tree c g t)) rung ∙ by_rung c g t s some (rung_of a c t) refl fine u fine2

pub resizes_back : ResizesBack
resizes_back c grow side px ppt t s tiled some fine fine1 =
    let g : Growth = record { grow = grow; side = side; px = px; ppt = ppt } in
    let one : resize_tree c grow side px ppt t ≡ tiled_tree c g t = rw tiled refl in
    let u : unshared (tiled_tree c g t).nodes ≡ unshared t.nodes = ap (λ (x : TreeValue). x.nodes) (differ g (rung_of (side_axis side) c t) t).rest in
    let still : is_tiled_con (tiled_tree c g t) c ≡ true = tiled_same c t (tiled_tree c g t) u ∙ tiled in
    let fine2 : resize_refusal c (not grow) side px ppt (tiled_tree c g t) ≡ None = ap (λ x. resize_refusal c (not grow) side px ppt x) (sym one) ∙ fine1 in
    let two : resize_tree c (not grow) side px ppt (tiled_tree c g t) ≡ tiled_tree c (back g) (tiled_tree c g t) = rw still refl in
    let done = tiled_back c g t s some (tiled_fine c g t tiled fine) (tiled_fine c (back g) (tiled_tree c g t) still fine2) u in
    ap (λ x. resize_tree c (not grow) side px ppt x) one ∙ (two ∙ done)
