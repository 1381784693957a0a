-- What floats, and which shares are given, as commands use them.
use Rattle.std.proofs.Common.{◌≡◌, ◌≢◌, ℕ, ◌≤◌, Bool, true, false, cond, ◌&&◌, not, inl, inr, List, [], ◌∷◌, Option, None, Some, refl, ap, subst, ◌∙◌, arith}
use Rattle.std.proofs.lemmas.Bool.Decides.{nat_tests}
use Rattle.std.specs.Prelude.{is_none, nat_le, option_and_then}
use Rattle.wm_base.specs.declared.ids.ConId.{ConId}
use Rattle.law_lasting.proofs.RectLemmas.{sent_fits}
use Rattle.law_lasting.specs.Changes.{stows}
use Rattle.law_lasting.specs.Rects.{Floats}
use Rattle.wm_floats.specs.Scratchpad.{first_hidden}
use Rattle.wm_floats.specs.Windows.{natural_by, natural_in, natural_of}
use Rattle.wm_forest.specs.Change.{is_window_kind}
use Rattle.wm_opens.specs.Opens.{is_window_of, is_window_part}
use Rattle.wm_shared.specs.Rects.{output_part_of, rect_of}
use Rattle.wm_shared.specs.Subject.{is_hidden}
use Rattle.wm_sizes.specs.declared.deals.Deal.{Deal}
use Rattle.wm_forest.specs.declared.shares.Sibling.{Sibling}
use Rattle.wm_sizes.specs.Deals.{dealt, fits_all, share_after, turn_after}
use Rattle.wm_spaces.specs.Sending.{sent_place, shifted}
use Rattle.wm_forest.proofs.OnceLemmas.{spot_floats}
use Rattle.wm_forest.proofs.PutLemmas.{IsConFirst}
use Rattle.wm_forest.proofs.RecencyLemmas.{same_self}
use Rattle.wm_forest.proofs.StandLemmas.{HasSpot, has_spot}
use Rattle.wm_forest.specs.declared.part.ConKind.{ConKind}
use Rattle.wm_forest.specs.declared.part.ConKind.TheVariants.{Split, Window, Placeholder}
use Rattle.wm_forest.specs.declared.part.ConPart.{ConPart}
use Rattle.wm_forest.specs.declared.part.NodeKind.{NodeKind}
use Rattle.wm_forest.specs.declared.part.NodeKind.TheVariants.{Root, Output, Space, Con}
use Rattle.wm_forest.specs.declared.part.Part.{Part}
use Rattle.wm_forest.specs.declared.place.Place.{Place}
use Rattle.wm_forest.specs.declared.place.Place.TheVariants.{After, Before, First, Last, Float, Scratchpad}
use Rattle.wm_forest.specs.declared.spot.Spot.{Spot}
use Rattle.wm_forest.specs.Counts.{share_of}
use Rattle.wm_forest.specs.Forest.{Forest, end, con}
use Rattle.wm_forest.specs.Look.{con_kind, first_floats, first_part, has, kind_of, nth_id, only, same}
use Rattle.wm_forest.specs.Place.{IsTiled, is_tiled, tiles}
use Rattle.wm_forest.specs.SoundRow.{HasShare, IsNode, IsSoundRow, containers, roots, tally}
use Rattle.wm_forest.specs.Spot.{room_below, space_at, space_by, spot_below, spot_in, top}
use Rattle.wm_tree.proofs.MoveLemmas.{SoundFound, found_sound}
use Rattle.wm_tree.proofs.WrapLemmas.{node_share}
use Rattle.wm_tree.specs.Move.{share_by, share_in}
use Rattle.wm_tree.specs.Sound.{IsSound}
use Rattle.wm_tree.specs.TreeValue.{TreeValue, is_tiled_con, leaf, or_id}

-- ---- places

-- nothing floats at a place where containers are tiled
pub tiled_floats : (c : ConId) (p : Place) (t : TreeValue) → tiles p ≡ true → Floats c p t
tiled_floats c (After d) t h = (λ r. tt, tt)
tiled_floats c (Before d) t h = (λ r. tt, tt)
tiled_floats c (First d) t h = (λ r. tt, tt)
tiled_floats c (Last d) t h = (λ r. tt, tt)
tiled_floats c (Float w r) t h = cc
tiled_floats c (Scratchpad r) t h = cc

pub tiled_out : (p : Place) → tiles p ≡ true → stows p ≡ false
tiled_out (After d) h = refl
tiled_out (Before d) h = refl
tiled_out (First d) h = refl
tiled_out (Last d) h = refl
tiled_out (Float w r) h = refl
tiled_out (Scratchpad r) h = cc

-- what is sent and is not tiled floats already
pub sent_floats : (c w : ConId) (t : TreeValue) → Floats c (sent_place c w t) t
sent_floats c w t = step (is_tiled_con t c) refl (is_tiled_con t (or_id (leaf t w) w))
  where
    step : (a : Bool) → is_tiled_con t c ≡ a → (b : Bool) → Floats c (cond (not a) (Float w (shifted (output_part_of c t) (output_part_of w t) (rect_of c t))) (cond b (After (or_id (leaf t w) w)) (Last w))) t
    step false e b = (λ r. sent_fits c w t r, inr (inl e))
    step true e true = (λ r. tt, tt)
    step true e false = (λ r. tt, tt)

-- ---- windows, and who is hidden

natural_kind : (kind : ConKind) → natural_by kind ≢ None → is_window_kind kind ≡ true
natural_kind (Split layout last) h = absurd (h refl)
natural_kind (Window props owner natural) h = refl
natural_kind (Placeholder props swallows) h = absurd (h refl)

natural_part : (o : Option ConPart) → natural_in o ≢ None → is_window_part o ≡ true
natural_part None h = absurd (h refl)
natural_part (Some p) h = natural_kind p.kind h

pub natural_window : (c : ConId) (t : TreeValue) → natural_of c t ≢ None → is_window_of t c ≡ true
natural_window c t h = natural_part (kind_of con_kind c t.nodes) h

-- the first of the scratchpad has no workspace
pub first_is_hidden : (c : ConId) (t : TreeValue) → IsSound t → first_hidden t ≡ Some c → is_hidden t c ≡ true
first_is_hidden c t s h = by t.nodes s.shaped (s.once c) h
  where
    con_space : (room : ℕ) (q : Part) (kids : Forest) (kind : NodeKind) → q.kind ≡ kind → IsNode containers false room q.id kind q.marks kids → space_at None q ≡ None
    con_space room q kids (Root d) e n = absurd n
    con_space room q kids (Output o) e n = absurd n
    con_space room q kids (Space w) e n = absurd n
    con_space room q kids (Con d) e n = ap (space_by None q.id) e

    root_space : (part : Part) (kids : Forest) (kind : NodeKind) → part.kind ≡ kind → IsNode roots false 0 part.id kind part.marks kids → space_at None part ≡ None
    root_space part kids (Root d) e n = ap (space_by None part.id) e
    root_space part kids (Output o) e n = absurd n
    root_space part kids (Space w) e n = absurd n
    root_space part kids (Con d) e n = absurd n

    row : (part : Part) (floats : Forest) (room : ℕ) → space_at None part ≡ None → IsSoundRow containers false room floats → nth_id 0 floats ≡ Some c
        → (has c floats ≡ true) × (option_and_then (λ (z : Spot). z.space) (spot_in (spot_below false top part) c floats) ≡ None)
    row part end room free p h = cc
    row part (con q k l r) room free p h =
        let one : q.id ≡ c = cc in
        let own : same q.id c ≡ true = same_self q.id c one in
        let space : space_at (space_at None part) q ≡ None = ap (λ z. space_at z q) free ∙ con_space room q k q.kind refl p.0 in
        (rw own refl, rw own space)

    by : (f : Forest) → IsSoundRow roots false 0 f → tally c f ≤ 1 → nth_id 0 (first_floats f) ≡ Some c → is_none (option_and_then (λ (z : Spot). z.space) (spot_in top c f)) ≡ true
    by end p once h = cc
    by (con part kids floats rest) p once h =
        let there = row part floats (room_below 0 part.kind) (root_space part kids part.kind refl p.0) p.3 h in
        ap is_none (ap (option_and_then (λ (z : Spot). z.space)) (spot_floats c top part kids floats rest once there.0) ∙ there.1)

-- ---- shares

-- the share of a tiled container is one that it may have
pub own_share : (c : ConId) (t : TreeValue) → IsSound t → has c t.nodes ≡ true → IsTiled c t.nodes → 1 ≤ share_in c t.nodes
own_share c t s there ok = (by_spot (spot_in top c t.nodes) (only c t.nodes) (has_spot c top t.nodes there) ok.1 ok.0 (found_sound c roots top t.nodes s.shaped)).0
  where
    by_spot : (sp : Option Spot) (found : Forest) → HasSpot sp → is_tiled sp ≡ true → IsConFirst found → SoundFound sp found → HasShare true (share_by (first_part found))
    by_spot None found spot tiled con_first h = absurd spot
    by_spot (Some q) end spot tiled con_first h = absurd (con_first refl)
    by_spot (Some q) (con part kids floats rest) spot tiled con_first h =
        let Share : Bool → Type 0 = λ b. HasShare b (share_of part.kind) in
        subst Share tiled (node_share q.tiled q.room part.id part.kind part.marks kids (h con_first).0).0

-- each share of the siblings is one that a tiled container may have
abbrev pub MayHave : List Sibling → Type 0
MayHave [] = Unit {0}
MayHave (s ∷ l) = (1 ≤ s.share) × MayHave l

both : (a b : Bool) → (a && b) ≡ true → (a ≡ true) × (b ≡ true)
both true b h = (refl, h)
both false b h = cc

at_least : (n : ℕ) → nat_le 1 n ≡ true → 1 ≤ n
at_least n h = grind (arith, nat_tests)

pub dealt_may : (d : Deal) (turn : ℕ) (l : List Sibling) → fits_all d turn l ≡ true → MayHave (dealt d turn l)
dealt_may d turn [] h = tt
dealt_may d turn (child ∷ children) h =
    let own = both _ _ h in
    let first = both _ _ own.0 in
    (at_least (share_after d child turn) (both _ _ first.0).0, dealt_may d (turn_after d child.id turn) children own.1)
