-- What words on nodes and on lists leave of urgent ids.
use Rattle.std.proofs.Common.{◌≡◌, ℕ, zero, suc, ◌+◌, ◌≤◌, ◌<◌, Bool, true, false, cond, not, List, [], ◌∷◌, ◌++◌, Option, None, Some, refl, ap, subst, ◌∙◌, arith}
use Rattle.std.proofs.lemmas.Bool.Decides.{nat_tests}
use Rattle.std.specs.Prelude.{filter}
use Rattle.std.specs.Option.{option_map}
use Rattle.wm_base.specs.declared.geometry.Size.{Size}
use Rattle.wm_base.specs.declared.ids.ConId.{ConId}
use Rattle.wm_base.specs.declared.properties.Props.{Props}
use Rattle.law_marks.proofs.UrgentFacts.{IsKnown, Urgents, keep, kept_known, listed, rank_split, window_known}
use Rattle.wm_floats.specs.Floating.{floating_rect, sunk, tiling_place}
use Rattle.wm_floats.specs.Fullscreen.{fullscreen_tree, others_unfull}
use Rattle.wm_floats.specs.Scratchpad.{to_scratchpad_tree}
use Rattle.wm_floats.specs.Windows.{flag_set, restated, state_of}
use Rattle.wm_opens.proofs.KeptLemmas.{kept_detached, kept_raised}
use Rattle.wm_opens.proofs.SettleKeeps.{settling_keeps}
use Rattle.wm_opens.proofs.MeasureLemmas.{kinds_at, others, others_kept}
use Rattle.wm_opens.proofs.TidyLemmas.{IsFreeAt, tidy_edited, tidy_put, tidy_settled, tidy_without}
use Rattle.wm_opens.proofs.WordLemmas.{put_most}
use Rattle.wm_opens.specs.Opens.{IsTidy, is_window_of}
use Rattle.wm_forest.proofs.ChangeLemmas.{by_change}
use Rattle.wm_forest.proofs.CountLemmas.{count-settled}
use Rattle.wm_forest.proofs.RecencyLemmas.{same_is}
use Rattle.wm_forest.proofs.TimesLemmas.{times-append, times-dropped, times-kept, times-raised}
use Rattle.wm_forest.specs.Change.{at}
use Rattle.wm_forest.specs.Counts.{count}
use Rattle.wm_forest.specs.declared.kind.KindEdit.{KindEdit}
use Rattle.wm_forest.specs.declared.kind.KindEdit.TheVariants as edits
use Rattle.wm_forest.specs.declared.part.ConKind.{ConKind}
use Rattle.wm_forest.specs.declared.part.ConKind.TheVariants.{Split, Window, Placeholder}
use Rattle.wm_forest.specs.declared.part.ConState.{ConState}
use Rattle.wm_forest.specs.declared.part.NodeKind.{NodeKind}
use Rattle.wm_forest.specs.declared.part.NodeKind.TheVariants.{Root, Output, Space, Con}
use Rattle.wm_forest.specs.declared.part.Part.{Part}
use Rattle.wm_forest.specs.declared.place.NewCon.{NewCon}
use Rattle.wm_forest.specs.declared.place.Place.{Place}
use Rattle.wm_forest.specs.declared.place.Place.TheVariants.{Scratchpad}
use Rattle.wm_forest.specs.Forest.{Forest, end, con}
use Rattle.wm_forest.specs.Kinds.{changed, kind_changed}
use Rattle.wm_forest.specs.Look.{has, only, same}
use Rattle.wm_forest.specs.Place.{new_part, rect_at, share_at}
use Rattle.wm_forest.specs.Recency.{lists, without_id}
use Rattle.wm_forest.specs.RootId.{id}
use Rattle.wm_forest.specs.SoundRow.{times}
use Rattle.wm_tree.proofs.SettleLemmas.{sound-settled}
use Rattle.wm_tree.specs.Move.{moved}
use Rattle.wm_tree.specs.Sound.{IsSound}
use Rattle.wm_tree.specs.TreeValue.{TreeValue, is_tiled_con, workspace_of}
use Rattle.wm_tree.specs.Words.{attached, detached, edited, settled, with_raised}

-- ---- lists of ids

pub times_filter : (p : ConId → Bool) (v : ConId) (ids : List ConId) → times v (filter p ids) ≤ times v ids
times_filter p v ids = step (p v) refl
  where
    step : (b : Bool) → p v ≡ b → times v (filter p ids) ≤ times v ids
    step true e = omega (arith, times-kept p v ids e)
    step false e = omega (arith, times-dropped p v ids e)

-- what is left by a filter passes it
pub passed : (p : ConId → Bool) (v : ConId) (ids : List ConId) → 1 ≤ times v (filter p ids) → p v ≡ true
passed p v ids h = step (p v) refl
  where
    step : (b : Bool) → p v ≡ b → b ≡ true
    step true e = refl
    step false e = absurd (omega (arith, h, times-dropped p v ids e))

-- ---- changes of one node

filled_fewer : (props : Props) (owner : ℕ) (natural : Size) (kind : NodeKind) → others (changed (edits.Fill props owner natural) kind) ≤ others kind
filled_fewer props owner natural (Root c) = omega arith
filled_fewer props owner natural (Output o) = omega arith
filled_fewer props owner natural (Space s) = omega arith
filled_fewer props owner natural (Con c) = by c.kind refl
  where
    by : (kind : ConKind) → c.kind ≡ kind → others (changed (edits.Fill props owner natural) (Con c)) ≤ others (Con c)
    by (Split layout last) e = rw e (omega arith)
    by (Window p o n) e = rw e (omega arith)
    by (Placeholder p swallows) e = rw e (omega arith)

changed_fewer : (edit : KindEdit) (kind : NodeKind) → others (changed edit kind) ≤ others kind
changed_fewer edit kind = by edit
  where
    by : (e : KindEdit) → others (changed e kind) ≤ others kind
    by (edits.Fill props owner natural) = filled_fewer props owner natural kind
    by other = omega (arith, others_kept.edited other kind refl)

part_fewer : (b : Bool) (x y : ℕ) → x ≤ y → cond {A = ℕ} b x 0 ≤ cond {A = ℕ} b y 0
part_fewer true x y h = h
part_fewer false x y h = omega arith

edited_fewer : (v c : ConId) (edit : KindEdit) (f : Forest) → count (kinds_at others v) (at c kind_changed edit f) ≤ count (kinds_at others v) f
edited_fewer v c edit =
    by_change c kind_changed edit (λ old new found. count (kinds_at others v) new ≤ count (kinds_at others v) old) (omega arith)
    (λ part kids floats rest. omega (arith, part_fewer (same part.id v) (others (changed edit part.kind)) (others part.kind) (changed_fewer edit part.kind)))
    (λ part kids floats rest new found h. omega (arith, h))
    (λ part kids floats rest new found h. omega (arith, h))
    (λ part kids floats rest new found h. omega (arith, h))

-- also where a placeholder becomes a window
pub urgent_edited : (c : ConId) (edit : KindEdit) (t : TreeValue) → Urgents t → Urgents (edited c edit t)
urgent_edited c edit t p =
    keep t (edited c edit t) (tidy_edited c edit t.nodes) (λ v. omega arith)
    (λ v h i. record { known = i.known; window = omega (arith, edited_fewer v c edit t.nodes, i.window); given = i.given }) p

-- ---- trees with the lists of others

pub record SameLists (t new : TreeValue) : Type 0 where
  pub urgent : new.urgent ≡ t.urgent
  pub recency : new.recency ≡ t.recency

restated_lists : (c : ConId) (o : Option ConState) (t : TreeValue) → SameLists t (restated c o t)
restated_lists c None t = record { urgent = refl; recency = refl }
restated_lists c (Some s) t = record { urgent = refl; recency = refl }

others_lists : (c : ConId) (w : Option ConId) (t : TreeValue) → SameLists t (others_unfull c w t)
others_lists c None t = record { urgent = refl; recency = refl }
others_lists c (Some w) t = record { urgent = refl; recency = refl }

pub fullscreen_lists : (c : ConId) (on : Bool) (t : TreeValue) → SameLists t (fullscreen_tree c on t)
fullscreen_lists c true t =
    let alone : TreeValue = others_unfull c (workspace_of t c) t in
    let first = others_lists c (workspace_of t c) t in
    let last = restated_lists c (option_map (λ (s : ConState). record s { fullscreen = true }) (state_of c alone)) alone in
    record { urgent = last.urgent ∙ first.urgent; recency = last.recency ∙ first.recency }
fullscreen_lists c false t = restated_lists c (option_map (λ (s : ConState). record s { fullscreen = false }) (state_of c t)) t

pub hidden_lists : (c : ConId) (t : TreeValue) → SameLists t (to_scratchpad_tree c t)
hidden_lists c t =
    let away : TreeValue = moved c (Scratchpad (floating_rect c t)) t in
    let last = restated_lists c (option_map (λ (s : ConState). record s { flagged = true }) (state_of c away)) away in
    record { urgent = last.urgent; recency = last.recency }

pub sunk_lists : (c : ConId) (w : Option ConId) (t : TreeValue) → SameLists t (sunk c w t)
sunk_lists c None t = record { urgent = refl; recency = refl }
sunk_lists c (Some w) t = step (is_tiled_con t c)
  where
    tiled : TreeValue
    tiled = moved c (tiling_place w t) t

    step : (b : Bool) → SameLists t (cond b t (flag_set false c tiled))
    step true = record { urgent = refl; recency = refl }
    step false =
        let last = restated_lists c (option_map (λ (s : ConState). record s { flagged = false }) (state_of c tiled)) tiled in
        record { urgent = last.urgent; recency = last.recency }

-- ---- containers that come

other_id : (n : ℕ) (v : ConId) → v.0 < n → same (id n) v ≡ false
other_id n v less = grind (arith, nat_tests)

pub urgent_attached : (p : Place) (newcomer : NewCon) (t : TreeValue) → IsFreeAt p t.nodes → Urgents t → Urgents (attached p newcomer t)
urgent_attached p newcomer t free u =
    let part : Part = new_part (id t.next_id) (share_at p t.nodes) t.border (rect_at p) newcomer in
    keep t (attached p newcomer t) (tidy_put p (con part end end end) t.nodes free (refl, tt, tt, tt)) (λ v. omega arith)
    (λ v h i.
    let none : kinds_at others v part ≡ 0 = ap (λ b. cond {A = ℕ} b (others part.kind) 0) (other_id t.next_id v i.given) in
    record {
      known = omega (arith, times-append v t.recency (id t.next_id ∷ []), i.known);
      window = omega (arith, none, put_most (kinds_at others v) p (con part end end end) t.nodes, i.window);
      given = omega (arith, i.given);
    })
    u

-- ---- raising, closing and settling

pub urgent_raised : (c : ConId) (t : TreeValue) → (IsTidy t.nodes → IsTidy (with_raised c t).nodes) → Urgents t → Urgents (with_raised c t)
urgent_raised c t tidy p =
    keep t (with_raised c t) tidy (λ v. times_filter (λ i. not (same i c)) v t.urgent)
    (λ v h i. kept_known t (with_raised c t) (kept_raised c t) v (omega (arith, times-raised v c t.recency)) i) p

pub urgent_detached : (c : ConId) (t : TreeValue) → Urgents t → Urgents (detached c t)
urgent_detached c t p =
    keep t (detached c t) (tidy_without c t.nodes) (λ v. times_filter (λ i. not (has i (only c t.nodes))) v t.urgent)
    (λ v h i.
    let out = passed (λ i. not (has i (only c t.nodes))) v t.urgent h in
    kept_known t (detached c t) (kept_detached c t) v (omega (arith, times-kept (λ i. not (has i (only c t.nodes))) v t.recency out)) i)
    p

-- what settling takes out is no window, and holds none
pub urgent_settled : (t : TreeValue) → IsSound t → Urgents t → Urgents (settled t)
urgent_settled t s p =
    keep t (settled t) (tidy_settled None t.nodes) (λ v. omega arith)
    (λ v h i.
    let after : IsSound (settled t) = sound-settled t s in
    let less : count (kinds_at others v) (settled t).nodes ≤ count (kinds_at others v) t.nodes = count-settled (kinds_at others v) None t.nodes in
    record {
      known = omega (arith, after.known v, rank_split v (settled t).nodes, settling_keeps t v p.tidy, rank_split v t.nodes, s.known v, i.known, i.window);
      window = omega (arith, less, i.window);
      given = i.given;
    })
    p

-- ---- windows that become urgent

pub urgent_more : (v : ConId) (t : TreeValue) → IsSound t → is_window_of t v ≡ true → lists v t.urgent ≡ false → Urgents t → Urgents (record t { urgent = t.urgent ++ v ∷ [] })
urgent_more v t s window new p = record {
  each = λ u h. each_by u (same v u) refl (omega (arith, h, times-append u t.urgent (v ∷ [])));
  once = λ u. omega (arith, once_by u (same v u) refl, times-append u t.urgent (v ∷ []));
  tidy = p.tidy;
}
  where
    there : TreeValue
    there = record t { urgent = t.urgent ++ v ∷ [] }

    plain : (u : ConId) → IsKnown u t → IsKnown u there
    plain u i = record { known = i.known; window = i.window; given = i.given }

    each_by : (u : ConId) (b : Bool) → same v u ≡ b → 1 ≤ times u t.urgent + cond {A = ℕ} b 1 0 → IsKnown u there
    each_by u true e h = subst (λ z. IsKnown z there) (same_is v u e) (plain v (window_known v t s window))
    each_by u false e h = plain u (p.each u (omega (arith, h)))

    none : times v t.urgent ≡ 0
    none = step (times v t.urgent) refl
      where
        step : (n : ℕ) → times v t.urgent ≡ n → n ≡ 0
        step zero e = refl
        step (suc n) e = let bad : lists v t.urgent ≡ true = listed v t.urgent (omega (arith, e)) in absurd (cc (bad, new))

    once_by : (u : ConId) (b : Bool) → same v u ≡ b → times u t.urgent + cond {A = ℕ} b 1 0 ≤ 1
    once_by u true e = let z : times u t.urgent ≡ 0 = subst (λ w. times w t.urgent ≡ 0) (same_is v u e) none in omega (arith, z)
    once_by u false e = omega (arith, p.once u)

pub urgent_fewer : (v : ConId) (t : TreeValue) → Urgents t → Urgents (record t { urgent = without_id v t.urgent })
urgent_fewer v t p =
    keep t (record t { urgent = without_id v t.urgent }) (λ h. h) (λ u. times_filter (λ i. not (same i v)) u t.urgent) (λ u h i. record { known = i.known; window = i.window; given = i.given }) p
