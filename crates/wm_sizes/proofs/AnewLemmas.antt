-- A tree whose children of one node share anew: who has which share, and that the sum is as it was.
use Rattle.std.proofs.Common.{◌≡◌, ◌≢◌, ℕ, ◌+◌, ◌-◌, ◌≤◌, ◌<◌, Bool, true, false, cond, not, ◌&&◌, ◌||◌, List, [], ◌∷◌, Option, None, Some, refl, ap, sym, ◌∙◌, arith}
use Rattle.std.specs.Prelude.{◌==◌}
use Rattle.wm_base.specs.declared.ids.ConId.{ConId}
use Rattle.wm_shared.proofs.NeighbourLemmas.{neighbour_two}
use Rattle.wm_shared.proofs.KidLemmas.{kid_of}
use Rattle.wm_shared.specs.Neighbours.{neighbour}
use Rattle.wm_language.specs.declared.arguments.Side.{Side}
use Rattle.wm_language.specs.declared.arguments.Side.TheVariants.{Width, Height, At}
use Rattle.wm_shared.proofs.DownLemmas.{Once, not_below, once_kids, once_only, once_rest}
use Rattle.wm_sizes.proofs.BoolLemmas.{both}
use Rattle.wm_sizes.proofs.HandLemmas.{or_none}
use Rattle.wm_sizes.proofs.SetLemmas.{AreTiled, family_tiled, set_sound}
use Rattle.wm_sizes.proofs.ShareLaws.{IsConThere, all_reshared, kids_reshared, not_in, or_false, reshare, reshare_all}
use Rattle.wm_sizes.proofs.SumLemmas.{deal_keeps, ends, taken, total}
use Rattle.wm_sizes.specs.declared.climbing.Rung.{Rung}
use Rattle.wm_sizes.specs.declared.deals.Deal.{Deal}
use Rattle.wm_sizes.specs.declared.tiled.Growth.{Growth}
use Rattle.wm_sizes.specs.Climbing.{has_two}
use Rattle.wm_sizes.specs.Deals.{dealt, fits, fits_all, gained, is_partner, share_after, siblings, turn_after}
use Rattle.wm_sizes.specs.Laws.{SharesAnew, share_among}
use Rattle.wm_sizes.specs.Tiled.{HasFamily, cannot, children_of, lacks, partner_of, partners_of, rung_deal, shares_set}
use Rattle.wm_forest.proofs.RecencyLemmas.{same_is, same_self}
use Rattle.wm_forest.specs.Change.{at}
use Rattle.wm_forest.specs.Counts.{row_length, share_of, share_sum}
use Rattle.wm_forest.specs.declared.kind.KindEdit.TheVariants as edits
use Rattle.wm_forest.specs.declared.part.NodeKind.{NodeKind}
use Rattle.wm_forest.specs.declared.part.NodeKind.TheVariants.{Root, Output, Space, Con}
use Rattle.wm_forest.specs.declared.part.Part.{Part}
use Rattle.wm_forest.specs.declared.shares.Sibling.{Sibling}
use Rattle.wm_forest.specs.Forest.{Forest, end, con}
use Rattle.wm_forest.specs.Kinds.{changed, kind_changed}
use Rattle.wm_forest.specs.Look.{con_kind, first_kids, first_part, has, in_row, kind_by, only, same}
use Rattle.wm_tree.specs.Sound.{IsSound}
use Rattle.wm_forest.specs.SoundRow.{roots}
use Rattle.wm_tree.specs.TreeValue.{TreeValue, is_con, is_con_kind}

-- ---- containers stay containers

kind_stays : (n : ℕ) (kind : NodeKind) → is_con_kind (changed (edits.Share n) kind) ≡ is_con_kind kind
kind_stays n (Root c) = refl
kind_stays n (Output o) = refl
kind_stays n (Space w) = refl
kind_stays n (Con c) = refl

-- a node is seen as a container as before
record Seen (i : ConId) (old new : Forest) : Type 0 where
  there : has i new ≡ has i old
  con : is_con (first_part (only i new)) ≡ is_con (first_part (only i old))

con_stays : (c i : ConId) (n : ℕ) (f : Forest) → Seen i f (at c kind_changed (edits.Share n) f)
con_stays c i n end = record { there = refl; con = refl }
con_stays c i n (con part kids floats rest) =
    step (same part.id c) (has c kids) (has c floats) (con_stays c i n kids) (con_stays c i n floats) (con_stays c i n rest)
  where
    whole : (kind : NodeKind) (k l r : Forest) → is_con_kind kind ≡ is_con_kind part.kind → Seen i kids k → Seen i floats l → Seen i rest r → Seen i (con part kids floats rest) (con (record part { kind = kind }) k l r)
    whole kind k l r m a b d = record { there = rw (a.there, b.there, d.there) refl; con = rw (a.there, b.there) (by (same part.id i) (has i kids) (has i floats)) } where
      by : (x y z : Bool) → is_con (first_part (cond x (con (record part { kind = kind }) k l end) (cond y (only i k) (cond z (only i l) (only i r))))) ≡ is_con (first_part (cond x (con part kids floats end) (cond y (only i kids) (cond z (only i floats) (only i rest)))))
      by true y z = m
      by false true z = a.con
      by false false true = b.con
      by false false false = d.con

    as_was : (g : Forest) → Seen i g g
    as_was g = record { there = refl; con = refl }

    step : (s k l : Bool) → Seen i kids (at c kind_changed (edits.Share n) kids) → Seen i floats (at c kind_changed (edits.Share n) floats) → Seen i rest (at c kind_changed (edits.Share n) rest)
        → Seen i (con part kids floats rest) (cond s (con (record part { kind = changed (edits.Share n) part.kind }) kids floats rest) (cond k (con part (at c kind_changed (edits.Share n) kids) floats rest) (cond l (con part kids (at c kind_changed (edits.Share n) floats) rest) (con part kids floats (at c kind_changed (edits.Share n) rest)))))
    step true k l a b d = whole (changed (edits.Share n) part.kind) kids floats rest (kind_stays n part.kind) (as_was kids) (as_was floats) (as_was rest)
    step false true l a b d = whole part.kind (at c kind_changed (edits.Share n) kids) floats rest refl a (as_was floats) (as_was rest)
    step false false true a b d = whole part.kind kids (at c kind_changed (edits.Share n) floats) rest refl (as_was kids) b (as_was rest)
    step false false false a b d = whole part.kind kids floats (at c kind_changed (edits.Share n) rest) refl (as_was kids) (as_was floats) d

set_con : (l : List Sibling) (i : ConId) (t : TreeValue) → is_con (first_part (only i (shares_set l t).nodes)) ≡ is_con (first_part (only i t.nodes))
set_con [] i t = refl
set_con (s ∷ l) i t = (con_stays s.id i s.share (shares_set l t).nodes).con ∙ set_con l i t

abbrev AreCons : List Sibling → Forest → Type 0
AreCons [] f = Unit {0}
AreCons (s ∷ l) f = (is_con (first_part (only s.id f)) ≡ true) × AreCons l f

kind_con : (kind : NodeKind) → con_kind kind ≢ None → is_con_kind kind ≡ true
kind_con (Root c) h = absurd (h refl)
kind_con (Output o) h = absurd (h refl)
kind_con (Space w) h = absurd (h refl)
kind_con (Con c) h = refl

con_is : (o : Option Part) → kind_by con_kind o ≢ None → is_con o ≡ true
con_is None h = absurd (h refl)
con_is (Some part) h = kind_con part.kind h

or_right : (a b : Bool) → b ≡ true → (a || b) ≡ true
or_right true b h = refl
or_right false b h = h

row_cons : (f row : Forest) → ((i : ConId) → in_row i row ≡ true → is_con (first_part (only i f)) ≡ true) → AreCons (siblings row) f
row_cons f end h = tt
row_cons f (con part kids floats rest) h =
    (h part.id (rw (same_self part.id part.id refl) refl), row_cons f rest (λ i k. h i (or_right (same part.id i) (in_row i rest) k)))

family_cons : (r : Rung) (t : TreeValue) → IsSound t → HasFamily r t.nodes → AreCons (siblings (children_of r.parent t)) t.nodes
family_cons r t s h = row_cons t.nodes (children_of r.parent t) (λ i k. con_is (first_part (only i t.nodes)) (kid_of r.parent i roots false 0 t.nodes s.shaped s.once (ap (in_row i) h.tiled ∙ k)).0)

-- ---- the row after the deal

set_reshared : (p : ConId) (d : Deal) (turn : ℕ) (l : List Sibling) (t : TreeValue) → fits_all d turn l ≡ true → AreTiled l t.nodes → AreCons l t.nodes → IsSound t
    → siblings (children_of p (shares_set (dealt d turn l) t)) ≡ reshare_all (dealt d turn l) (siblings (children_of p t))
set_reshared p d turn [] t h k m s = refl
set_reshared p d turn (x ∷ l) t h k m s =
    let b = both (fits d x turn) (fits_all d (turn_after d x.id turn) l) h in
    let next : ℕ = turn_after d x.id turn in
    let t1 : TreeValue = shares_set (dealt d next l) t in
    let s1 = set_sound d next l t b.1 k.1 s in
    let ih = set_reshared p d next l t b.1 k.1 m.1 s in
    let ok : IsConThere x.id t1.nodes = λ there. set_con (dealt d next l) x.id t ∙ m.0 in
    kids_reshared x.id p (share_after d x turn) t1.nodes s1.once ok ∙ ap (reshare x.id (share_after d x turn)) ih

pub row_once : (p : ConId) (f : Forest) → Once f → Once (first_kids (only p f))
row_once p f once = by (only p f) (once_only p f once) where
  by : (g : Forest) → Once g → Once (first_kids g)
  by end o = o
  by (con part kids floats rest) o = once_kids part kids floats rest o

-- ---- the node and its partners are there once

not_there : (d : Deal) (row : Forest) → in_row d.node row ≡ false → taken d (siblings row) ≡ 0
not_there d end h = refl
not_there d (con part kids floats rest) h =
    let o = or_false (same part.id d.node) (in_row d.node rest) h in
    let none = not_there d rest o.1 in
    rw o.0 (omega (arith, none))

taken_once : (d : Deal) (row : Forest) → Once row → in_row d.node row ≡ true → taken d (siblings row) ≡ d.amount
taken_once d end once h = cc
taken_once d (con part kids floats rest) once h = by (same part.id d.node) refl h (taken_once d rest (once_rest part kids floats rest once)) where
  by : (a : Bool) → same part.id d.node ≡ a → (a || in_row d.node rest) ≡ true → (in_row d.node rest ≡ true → taken d (siblings rest) ≡ d.amount) → cond a d.amount 0 + taken d (siblings rest) ≡ d.amount
  by true e k ih = let none = not_there d rest (not_in d.node rest (not_below part kids floats rest once d.node e).2) in omega (arith, none)
  by false e k ih = let all = ih k in omega (arith, all)

-- where all others are partners
others : (d : Deal) (id : ConId) → d.partner ≡ None → is_partner d id ≡ not (same id d.node)
others d id e = rw e (and_true (not (same id d.node))) where
  and_true : (a : Bool) → (a && true) ≡ a
  and_true true = refl
  and_true false = refl

ends_others : (d : Deal) (turn : ℕ) (row : Forest) → d.partner ≡ None → in_row d.node row ≡ false → ends d turn (siblings row) ≡ turn + row_length row
ends_others d turn end e h = omega arith
ends_others d turn (con part kids floats rest) e h =
    let o = or_false (same part.id d.node) (in_row d.node rest) h in
    let mine : turn_after d part.id turn ≡ turn + 1 = rw (others d part.id e, o.0) refl in
    let k = ends_others d (turn + 1) rest e o.1 in
    let one = ap (λ m. ends d m (siblings rest)) mine in
    omega (arith, k, one)

ends_all : (d : Deal) (turn : ℕ) (row : Forest) → d.partner ≡ None → Once row → in_row d.node row ≡ true → ends d turn (siblings row) + 1 ≡ turn + row_length row
ends_all d turn end e once h = cc
ends_all d turn (con part kids floats rest) e once h =
    by (same part.id d.node) refl h (λ k. ends_all d (turn + 1) rest e (once_rest part kids floats rest once) k)
  where
    by : (a : Bool) → same part.id d.node ≡ a → (a || in_row d.node rest) ≡ true → (in_row d.node rest ≡ true → ends d (turn + 1) (siblings rest) + 1 ≡ turn + 1 + row_length rest)
        → ends d (turn_after d part.id turn) (siblings rest) + 1 ≡ turn + (1 + row_length rest)
    by true s k ih =
        let mine : turn_after d part.id turn ≡ turn = rw (others d part.id e, s) refl in
        let z = ends_others d turn rest e (not_in d.node rest (not_below part kids floats rest once d.node s).2) in
        let one = ap (λ m. ends d m (siblings rest)) mine in
        omega (arith, z, one)
    by false s k ih =
        let mine : turn_after d part.id turn ≡ turn + 1 = rw (others d part.id e, s) refl in
        let z = ih k in
        let one = ap (λ m. ends d m (siblings rest)) mine in
        omega (arith, z, one)

-- where one is the partner
ends_none : (d : Deal) (b : ConId) (turn : ℕ) (row : Forest) → d.partner ≡ Some b → in_row b row ≡ false → ends d turn (siblings row) ≡ turn
ends_none d b turn end e h = refl
ends_none d b turn (con part kids floats rest) e h =
    let o = or_false (same part.id b) (in_row b rest) h in
    let mine : turn_after d part.id turn ≡ turn = rw (e, o.0) (skip (not (same part.id d.node))) in
    ap (λ m. ends d m (siblings rest)) mine ∙ ends_none d b turn rest e o.1
  where
    skip : (a : Bool) → cond (a && false) (turn + 1) turn ≡ turn
    skip true = refl
    skip false = refl

ends_one : (d : Deal) (b : ConId) (turn : ℕ) (row : Forest) → d.partner ≡ Some b → same d.node b ≡ false → Once row → in_row b row ≡ true → ends d turn (siblings row) ≡ turn + 1
ends_one d b turn end e two once h = cc
ends_one d b turn (con part kids floats rest) e two once h = by (same part.id b) refl h (ends_one d b turn rest e two (once_rest part kids floats rest once)) where
  skip : (a : Bool) → cond (a && false) (turn + 1) turn ≡ turn
  skip true = refl
  skip false = refl

  other : same part.id b ≡ true → same part.id d.node ≡ false
  other s = by (same part.id d.node) refl where
    by : (x : Bool) → same part.id d.node ≡ x → same part.id d.node ≡ false
    by false f = f
    by true f = let one : d.node ≡ b = sym (same_is part.id d.node f) ∙ same_is part.id b s in let bad = same_self d.node b one in absurd (cc)

  by : (a : Bool) → same part.id b ≡ a → (a || in_row b rest) ≡ true → (in_row b rest ≡ true → ends d turn (siblings rest) ≡ turn + 1) → ends d (turn_after d part.id turn) (siblings rest) ≡ turn + 1
  by true s k ih =
      let mine : turn_after d part.id turn ≡ turn + 1 = rw (e, s, other s) refl in
      ap (λ m. ends d m (siblings rest)) mine ∙ ends_none d b (turn + 1) rest e (not_in b rest (not_below part kids floats rest once b s).2)
  by false s k ih =
      let mine : turn_after d part.id turn ≡ turn = rw (e, s) (skip (not (same part.id d.node))) in
      ap (λ m. ends d m (siblings rest)) mine ∙ ih k

-- ---- the node's share

among_after : (d : Deal) (turn : ℕ) (row : Forest) → in_row d.node row ≡ true → share_among d.node (dealt d turn (siblings row)) ≡ gained d.grow (share_among d.node (siblings row)) d.amount
among_after d turn end h = cc
among_after d turn (con part kids floats rest) h = by (same part.id d.node) refl h (among_after d (turn_after d part.id turn) rest) where
  by : (a : Bool) → same part.id d.node ≡ a → (a || in_row d.node rest) ≡ true
      → (in_row d.node rest ≡ true → share_among d.node (dealt d (turn_after d part.id turn) (siblings rest)) ≡ gained d.grow (share_among d.node (siblings rest)) d.amount)
      → cond a (share_after d (record { id = part.id; share = share_of part.kind }) turn) (share_among d.node (dealt d (turn_after d part.id turn) (siblings rest)))
      ≡ gained d.grow (cond a (share_of part.kind) (share_among d.node (siblings rest))) d.amount
  by true e k ih = rw e refl
  by false e k ih = ih k

row_total : (row : Forest) → share_sum row ≡ total (siblings row)
row_total end = refl
row_total (con part kids floats rest) = let e = row_total rest in omega (arith, e)

-- ---- the whole

two_long : (row : Forest) → has_two row ≡ true → 2 ≤ row_length row
two_long end h = cc
two_long (con part kids floats end) h = cc
two_long (con part kids floats (con p k l rest)) h = omega arith

-- there are as many partners as the deal says, and one at least
record Counted (d : Deal) (row : Forest) : Type 0 where
  some : 0 < d.partners
  all : ends d 0 (siblings row) ≡ d.partners

count_others : (d : Deal) (row : Forest) → d.partner ≡ None → d.partners ≡ row_length row - 1 → Once row → in_row d.node row ≡ true → has_two row ≡ true → Counted d row
count_others d row e n once h two =
    let long = two_long row two in
    let k = ends_all d 0 row e once h in
    record { some = omega (arith, long, n); all = omega (arith, long, n, k) }

counted_by : (side : Side) (d : Deal) (row : Forest) → d.partner ≡ partner_of side d.node row → d.partners ≡ partners_of side row → lacks side d.node row ≡ false → Once row → in_row d.node row ≡ true → has_two row ≡ true → Counted d row
counted_by Width d row e n l once h two = count_others d row e n once h two
counted_by Height d row e n l once h two = count_others d row e n once h two
counted_by (At dir) d row e n l once h two = by (neighbour dir d.node row) refl where
  by : (o : Option ConId) → neighbour dir d.node row ≡ o → Counted d row
  by None f = let bad : true ≡ false = rw f at l in cc
  by (Some b) f =
      let pair = neighbour_two dir d.node b row once f in
      let k = ends_one d b 0 row (e ∙ f) pair.two once pair.second in
      record { some = omega (arith, n); all = omega (arith, n, k) }

pub anew : (g : Growth) (r : Rung) (n : ℕ) (d : Deal) (t new : TreeValue) → IsSound t → HasFamily r t.nodes → d ≡ rung_deal g r t → lacks g.side r.node (children_of r.parent t) ≡ false → cannot g n d (children_of r.parent t) ≡ false
    → new ≡ shares_set (dealt d 0 (siblings (children_of r.parent t))) t → SharesAnew g r t new
anew g r n d t new s h e l able m =
    let once = row_once r.parent t.nodes s.once in
    let fit = or_none (g.ppt == 0 && n == 0) (fits_all d 0 (siblings (children_of r.parent t))) able in
    let node : d.node ≡ r.node = ap (λ (x : Deal). x.node) e in
    let mine : in_row d.node (children_of r.parent t) ≡ true = rw node h.node in
    let lack : lacks g.side d.node (children_of r.parent t) ≡ false = rw node l in
    let partner : d.partner ≡ partner_of g.side d.node (children_of r.parent t) = rw node (ap (λ (x : Deal). x.partner) e) in
    let c = counted_by g.side d (children_of r.parent t) partner (ap (λ (x : Deal). x.partners) e) lack once mine h.two in
    let after : siblings (children_of r.parent new) ≡ dealt d 0 (siblings (children_of r.parent t)) =
    ap (λ (v : TreeValue). siblings (children_of r.parent v)) m ∙ (set_reshared r.parent d 0 (siblings (children_of r.parent t)) t fit (family_tiled r t s h) (family_cons r t s h) s ∙ all_reshared d 0 (children_of r.parent t) once) in
    let sum = deal_keeps d (siblings (children_of r.parent t)) fit c.some c.all (taken_once d (children_of r.parent t) once mine) in
    let same_node : share_among d.node (dealt d 0 (siblings (children_of r.parent t))) ≡ gained d.grow (share_among d.node (siblings (children_of r.parent t))) d.amount = among_after d 0 (children_of r.parent t) mine in
    let grown : share_among r.node (siblings (children_of r.parent new)) ≡ gained d.grow (share_among r.node (siblings (children_of r.parent t))) d.amount = rw (after, ← node) same_node in
    record {
      row = after ∙ ap (λ x. dealt x 0 (siblings (children_of r.parent t))) e;
      sum = row_total (children_of r.parent new) ∙ (ap total after ∙ (sum ∙ sym (row_total (children_of r.parent t))));
      node = grown ∙ ap (λ (x : Deal). gained x.grow (share_among r.node (siblings (children_of r.parent t))) x.amount) e;
    }
