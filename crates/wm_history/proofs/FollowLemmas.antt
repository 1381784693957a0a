-- A tree that follows another one has its windows, but those that closed, and the fresh one.
use Rattle.std.proofs.Common.{◌≡◌, ℕ, ◌+◌, ◌≤◌, Bool, true, false, cond, not, leb, ◌==◌, ◌&&◌, ◌||◌, List, [], ◌∷◌, ◌++◌, filter, Option, Some, None, refl, ap, ap₂, sym, subst, ◌∙◌, arith}
use Rattle.std.proofs.lemmas.Bool.{eq-eqb, eqb-true, le-leb, or_right}
use Rattle.std.specs.List.{list_any}
use Rattle.wm_base.specs.declared.geometry.Size.{Size}
use Rattle.wm_base.specs.declared.ids.Buffer.{Buffer}
use Rattle.wm_base.specs.declared.ids.ConId.{ConId}
use Rattle.wm_base.specs.declared.properties.Props.{Props}
use Rattle.wm_forest.specs.declared.part.Part.{Part}
use Rattle.wm_forest.specs.declared.place.NewCon.TheVariants as news
use Rattle.wm_forest.specs.declared.place.Place.{Place}
use Rattle.wm_forest.specs.Counts.{count}
use Rattle.wm_forest.specs.Forest.{Forest, end, con}
use Rattle.wm_forest.specs.Look.{same}
use Rattle.wm_forest.specs.Place.{new_part, rect_at, share_at}
use Rattle.wm_tree.specs.Sound.{IsSound}
use Rattle.wm_forest.specs.SoundRow.{times}
use Rattle.wm_tree.specs.TreeValue.{TreeValue, newcomer_place}
use Rattle.wm_forest.specs.RootId.{id}
use Rattle.wm_tree.specs.Words.{attached}
use Rattle.wm_forest.proofs.RecencyLemmas.{same_is}
use Rattle.wm_txn.specs.History.{is_fresh}
use Rattle.wm_opens.specs.Opens.{Fills, OpensNoOther, is_placeholder_of, is_window_of, may_open, owned_at, window_at, windows, windows_at}
use Rattle.wm_opens.proofs.OpenLemmas.{mapping_opens_one}
use Rattle.wm_opens.proofs.PlaceholderLemmas.{never_opens, opens_kept, opens_mapped, opens_trans, window_may_not_open}
use Rattle.wm_opens.proofs.SwallowLemmas.{filled_might_open}
use Rattle.wm_opens.proofs.KeptLemmas.{Kept}
use Rattle.wm_opens.proofs.MeasureLemmas.{IsFresh, IsMeasure, windows_fresh, windows_measured}
use Rattle.wm_opens.proofs.OwnerLemmas.{owned_fewer}
use Rattle.wm_opens.proofs.WordLemmas.{put_most}
use Rattle.wm_history.specs.Follows.{Follows, one_if_some}
use Rattle.wm_history.specs.Effect.{closed, fresh_ids}
use Rattle.wm_history.specs.Windows.{window_count, window_part}
use Rattle.wm_history.proofs.OpenLemmas.{counted_is_found, found_is_counted, ranked_window}

-- ---- windows with other ids

abbrev other_at : ConId → Part → ℕ
other_at v p = cond (same p.id v) 0 (windows p.kind)

abbrev others_at : ConId → TreeValue → ℕ
others_at v t = count (other_at v) t.nodes

split : (b : Bool) (n : ℕ) → cond b n 0 + cond b 0 n ≡ n
split true n = omega arith
split false n = omega arith

part_apart : (v : ConId) (p : Part) → window_at v p + other_at v p ≡ windows p.kind
part_apart v p = split (same p.id v) (windows p.kind)

forest_apart : (v : ConId) (f : Forest) → count (window_at v) f + count (other_at v) f ≡ count window_part f
forest_apart v end = refl
forest_apart v (con part kids floats rest) = omega (arith, part_apart v part, forest_apart v kids, forest_apart v floats, forest_apart v rest)

apart : (v : ConId) (t : TreeValue) → windows_at v t + others_at v t ≡ window_count t
apart v t = forest_apart v t.nodes

own : (c : ConId) (m n : ℕ) → cond (same c c) m 0 ≡ cond (same c c) n 0 → m ≡ n
own c m n h = let one : same c c ≡ true = eq-eqb c.0 c.0 refl in rw one at h

nothing_else : (b : Bool) (n : ℕ) → n ≡ 0 → cond b 0 n ≡ 0
nothing_else true n h = refl
nothing_else false n h = h

others_measured : (v : ConId) → IsMeasure (other_at v)
others_measured v = record {
  unfulled = λ p. ap (cond (same p.id v) 0) (own p.id _ _ ((windows_measured p.id).unfulled p));
  put = λ share rect p. ap (cond (same p.id v) 0) (own p.id _ _ ((windows_measured p.id).put share rect p));
  remarked = λ marks p. refl;
  edited = λ edit p h. ap (cond (same p.id v) 0) (own p.id _ _ ((windows_measured p.id).edited edit p h));
  hole = nothing_else (same (record { 0 = 0 }) v) 0 refl;
}

others_fresh : (v : ConId) (n : ℕ) → IsFresh (other_at v) n
others_fresh v n = record { nothing = λ p below none. nothing_else (same p.id v) (windows p.kind) none }

-- ---- trees that follow

-- one that opens no window
follows_kept : (old new : TreeValue) → Kept old new → Follows old new None
follows_kept old new k = record {
  opens = opens_kept old new k;
  fresh_id = λ v h. cc;
  fewer = λ v h. (k.fewer (window_at v) (windows_measured v)).fewer (windows_fresh v old.next_id);
  owned = λ who v h. owned_fewer who v old new k;
  others = λ v. omega (arith, apart v old, apart v new, (k.fewer (other_at v) (others_measured v)).fewer (others_fresh v old.next_id));
}

pub follows_made : (old word new : TreeValue) → new ≡ word → Kept old word → Follows old new None
follows_made old word new made k = subst (λ z. Follows old z None) (sym made) (follows_kept old word k)

-- and one of which no measure rises follows what the first one did
pub follows_then : (old mid new : TreeValue) (fresh : Option (ConId × Buffer)) → IsSound mid → IsSound new → Follows old mid fresh → Kept mid new → Follows old new fresh
follows_then old mid new fresh sound_mid sound_new f k = record {
  opens = opens_trans old mid new f.opens (opens_kept mid new k);
  fresh_id = λ v h. ((f.fresh_id v h).0, never_opens mid new v sound_mid sound_new (opens_kept mid new k) (f.fresh_id v h).1);
  fewer = λ v h. omega (arith, f.fewer v h, (k.fewer (window_at v) (windows_measured v)).fewer (windows_fresh v mid.next_id));
  owned = λ who v h. omega (arith, f.owned who v h, owned_fewer who v mid new k);
  others = λ v. rise v (cond (is_fresh v fresh) 0 (one_if_some fresh)) (f.others v);
}
  where
    rise : (v : ConId) (n : ℕ) → window_count mid + windows_at v old ≤ window_count old + windows_at v mid + n → window_count new + windows_at v old ≤ window_count old + windows_at v new + n
    rise v n h = omega (arith, h, apart v mid, apart v new, (k.fewer (other_at v) (others_measured v)).fewer (others_fresh v mid.next_id))

-- one that opens a window under the next id
module _ (props : Props) (who : ℕ) (natural : Size) (buffer : Buffer) (t : TreeValue) (sound : IsSound t) where
  abbrev place : Place
  place = newcomer_place t

  abbrev with_window : TreeValue
  with_window = attached (newcomer_place t) (news.Window props who natural) t

  abbrev window : Part
  window = new_part (id t.next_id) (share_at place t.nodes) t.border (rect_at place) (news.Window props who natural)

  put_windows : (v : ConId) → windows_at v with_window ≤ windows_at v t + cond (same (id t.next_id) v) 1 0
  put_windows v = omega (arith, put_most (window_at v) place (con window end end end) t.nodes)

  put_others : (v : ConId) → others_at v with_window ≤ others_at v t + cond (same (id t.next_id) v) 0 1
  put_others v = omega (arith, put_most (other_at v) place (con window end end end) t.nodes)

  put_owned : (other : ℕ) (v : ConId) → same (id t.next_id) v ≡ false → count (owned_at other v) with_window.nodes ≤ count (owned_at other v) t.nodes
  put_owned other v apart =
      let none : owned_at other v window ≡ 0 = rw apart refl in
      omega (arith, none, put_most (owned_at other v) place (con window end end end) t.nodes)

  there : (v : ConId) → IsSound with_window → same (id t.next_id) v ≡ true → is_window_of with_window v ≡ true
  there v now h = counted_is_found v with_window now (omega (arith, mapping_opens_one who props natural t v sound, ap (λ b. cond {A = ℕ} b 1 0) h))

  pub follows_attached : IsSound with_window → Follows t with_window (Some (id t.next_id, buffer))
  follows_attached now = record {
    opens = opens_mapped place who props natural t;
    fresh_id = λ v h.
        let at : t.next_id ≡ v.0 = eqb-true t.next_id v.0 h in
        (or_right (is_placeholder_of t v) (leb t.next_id v.0) (le-leb t.next_id v.0 (omega (arith, at))), window_may_not_open with_window v now (there v now h));
    fewer = λ v h. omega (arith, rw h at (put_windows v));
    owned = λ other v h. put_owned other v h;
    others = λ v. omega (arith, apart v t, apart v with_window, put_others v);
  }

-- one that opens a window in the place of a placeholder
module _ (c : ConId) (owner : ℕ) (buffer : Buffer) (t new : TreeValue) (k : Fills c owner t new) where
  own_one : (v : ConId) → same c v ≡ true → windows_at v new ≡ windows_at v t + 1
  own_one v h = k.one v ∙ ap (λ b. windows_at v t + cond b 1 0) h

  others_by : (v : ConId) (b : Bool) → windows_at v new ≡ windows_at v t + cond b 1 0 → window_count new + windows_at v t ≤ window_count t + windows_at v new + cond b 0 1
  others_by v true one = omega (arith, k.all, one)
  others_by v false one = omega (arith, k.all, one)

  pub follows_filled : OpensNoOther t new → Follows t new (Some (c, buffer))
  follows_filled opens = record {
    opens = opens;
    fresh_id = λ v h.
        let is : c ≡ v = same_is c v h in
        (subst (λ z. may_open t z ≡ true) is (filled_might_open c owner t new k), window_may_not_open new v k.sound (counted_is_found v new k.sound (omega (arith, own_one v h))));
    fewer = λ v h. omega (arith, k.one v ∙ ap (λ b. windows_at v t + cond b 1 0) h);
    owned = λ other v h. omega (arith, k.owned other v ∙ ap (λ b. count (owned_at other v) t.nodes + cond (b && (owner == other)) 1 0) h);
    others = λ v. others_by v (same c v) (k.one v);
  }

-- ---- lists of ids

pub any_filter : (test : ConId → Bool) (v : ConId) (ids : List ConId) → list_any (same v) (filter test ids) ≡ (list_any (same v) ids && test v)
any_filter test v [] = refl
any_filter test v (w ∷ ids) = step (test w) (same v w) refl refl (any_filter test v ids)
  where
    step : (b e : Bool) → test w ≡ b → same v w ≡ e → list_any (same v) (filter test ids) ≡ (list_any (same v) ids && test v)
        → list_any (same v) (cond b (w ∷ filter test ids) (filter test ids)) ≡ ((e || list_any (same v) ids) && test v)
    step true true at is h = let holds : test v ≡ true = ap test (same_is v w is) ∙ at in rw (is, holds) refl
    step true false at is h = rw is h
    step false true at is h = let fails : test v ≡ false = ap test (same_is v w is) ∙ at in h ∙ rw fails (both (list_any (same v) ids))
      where
        both : (b : Bool) → (b && false) ≡ false
        both true = refl
        both false = refl
    step false false at is h = h

-- what passes for none of the ids leaves none
filter_none : (test : ConId → Bool) (ids : List ConId) → ((v : ConId) → list_any (same v) ids ≡ true → test v ≡ false) → filter test ids ≡ []
filter_none test [] h = refl
filter_none test (w ∷ ids) h =
    let own_test : test w ≡ false = h w (ap (λ b. b || list_any (same w) ids) (eq-eqb w.0 w.0 refl)) in
    rw own_test (filter_none test ids (λ v there. h v (later (same v w) (list_any (same v) ids) there)))
  where
    later : (a b : Bool) → b ≡ true → (a || b) ≡ true
    later true b h = refl
    later false b h = h

counted_any : (v : ConId) (ids : List ConId) → 1 ≤ times v ids → list_any (same v) ids ≡ true
counted_any v [] h = absurd (omega arith)
counted_any v (w ∷ ids) h = step (same w v) refl (counted_any v ids) h
  where
    step : (b : Bool) → same w v ≡ b → (1 ≤ times v ids → list_any (same v) ids ≡ true) → 1 ≤ cond b 1 0 + times v ids → list_any (same v) (w ∷ ids) ≡ true
    step true e others k = let is : w ≡ v = same_is w v e in ap (λ b. b || list_any (same v) ids) (subst (λ z. same v z ≡ true) (sym is) (eq-eqb v.0 v.0 refl))
    step false e others k = later (same v w) (list_any (same v) ids) (others (omega arith))
      where
        later : (a b : Bool) → b ≡ true → (a || b) ≡ true
        later true b h = refl
        later false b h = h

pub swapped : (a b : ConId) → same a b ≡ same b a
swapped a b = by_test (same a b) (same b a) refl refl
  where
    by_test : (x y : Bool) → same a b ≡ x → same b a ≡ y → same a b ≡ same b a
    by_test true y e f = let is : a ≡ b = same_is a b e in ap₂ same is (sym is)
    by_test false true e f = let is : b ≡ a = same_is b a f in ap₂ same (sym is) is
    by_test false false e f = e ∙ sym f

-- ---- what is open after a step

module _ (old new : TreeValue) (fresh : Option (ConId × Buffer)) (sound_old : IsSound old) (sound_new : IsSound new) (f : Follows old new fresh) where
  -- v was a window, or is the fresh one
  abbrev pub was : ConId → Bool
  was v = is_fresh v fresh || is_window_of old v

  windows_listed : (v : ConId) → list_any (same v) (filter (is_window_of old) old.recency) ≡ is_window_of old v
  windows_listed v = any_filter (is_window_of old) v old.recency ∙ by_test (is_window_of old v) refl
    where
      both : (b : Bool) → (b && false) ≡ false
      both true = refl
      both false = refl

      by_test : (b : Bool) → is_window_of old v ≡ b → (list_any (same v) old.recency && b) ≡ b
      by_test true e = ap (λ z. z && true) (counted_any v old.recency (omega (arith, sound_old.known v, ranked_window v old.nodes, found_is_counted v old sound_old e)))
      by_test false e = both (list_any (same v) old.recency)

  listed_by : (v : ConId) (one : Option (ConId × Buffer)) → list_any (same v) (fresh_ids one ++ filter (is_window_of old) old.recency) ≡ (is_fresh v one || is_window_of old v)
  listed_by v None = windows_listed v
  listed_by v (Some window) = ap₂ (λ a b. a || b) (swapped v window.0) (windows_listed v)

  -- no window is new but the fresh one
  comes_by : (v : ConId) (b : Bool) → is_fresh v fresh ≡ b → is_window_of new v ≡ true → (b || is_window_of old v) ≡ true
  comes_by v true e h = refl
  comes_by v false e h = counted_is_found v old sound_old (omega (arith, f.fewer v e, found_is_counted v new sound_new h))

  kept_bool : (a n : Bool) → (n ≡ true → a ≡ true) → (a && not (a && not n)) ≡ n
  kept_bool true true h = refl
  kept_bool true false h = refl
  kept_bool false true h = let bad : false ≡ true = h refl in cc
  kept_bool false false h = refl

  -- those that closed are those that the new tree has not
  pub closed_are : (v : ConId) → list_any (same v) (closed old new fresh) ≡ (was v && not (is_window_of new v))
  closed_are v = any_filter (λ w. not (is_window_of new w)) v (fresh_ids fresh ++ filter (is_window_of old) old.recency) ∙ ap (λ b. b && not (is_window_of new v)) (listed_by v fresh)

  pub comes : (v : ConId) → is_window_of new v ≡ true → was v ≡ true
  comes v h = comes_by v (is_fresh v fresh) refl h

  pub opens : (v : ConId) → (was v && not (list_any (same v) (closed old new fresh))) ≡ is_window_of new v
  opens v = ap (λ b. was v && not b) (closed_are v) ∙ kept_bool (was v) (is_window_of new v) (comes v)

  stays_by : (v : ConId) (b : Bool) → window_count new ≡ window_count old + one_if_some fresh → is_fresh v fresh ≡ b → (b || is_window_of old v) ≡ true → is_window_of new v ≡ true
  stays_by v true most e h = counted_is_found v new sound_new (omega (arith, some fresh e, rw e at (f.others v)))
    where
      some : (one : Option (ConId × Buffer)) → is_fresh v one ≡ true → one_if_some one ≡ 1
      some None h = cc
      some (Some window) h = refl
  stays_by v false most e h = counted_is_found v new sound_new (omega (arith, rw e at (f.others v), found_is_counted v old sound_old h))

  -- where there are as many as there may be, none was closed
  pub none_closed : window_count new ≡ window_count old + one_if_some fresh → closed old new fresh ≡ []
  none_closed most =
      filter_none (λ w. not (is_window_of new w)) (fresh_ids fresh ++ filter (is_window_of old) old.recency)
      (λ v there. ap not (stays_by v (is_fresh v fresh) most refl (sym (listed_by v fresh) ∙ there)))
