-- `split` leaves the focus where it was.
use Rattle.std.proofs.Common.{◌≡◌, ◌≢◌, ℕ, ◌+◌, ◌≤◌, Bool, true, false, cond, ◌&&◌, ◌||◌, List, [], ◌∷◌, ◌++◌, Option, None, Some, refl, ap, sym, ◌∙◌, arith}
use Rattle.std.specs.Option.{option_or}
use Rattle.law_layouts.proofs.MoveLooks.{Led, led}
use Rattle.law_layouts.proofs.SplitLaws.{fresh_id, ways}
use Rattle.law_layouts.proofs.StaysBelow.{StaysBelow, stays_at}
use Rattle.law_layouts.proofs.Steps.{listed, no_limit, second_none}
use Rattle.law_layouts.proofs.UpperLooks.{blank, focused_is, level, shown_alike, upper, upper_at}
use Rattle.law_layouts.specs.Layouts.{layouts_at}
use Rattle.law_layouts.specs.Splitting.{SplitKeepsFocus}
use Rattle.wm_base.specs.declared.ids.ConId.{ConId}
use Rattle.wm_base.specs.declared.plan.Layout.{Layout}
use Rattle.wm_focus.proofs.SubjectLemmas.{tiled_is}
use Rattle.wm_focus.specs.Splits.{asked_split, gives_layout, laid, laid_as, layout_refusal}
use Rattle.wm_forest.proofs.EditLemmas.{fits_layout}
use Rattle.wm_forest.proofs.RecencyLemmas.{same_is, same_self}
use Rattle.wm_forest.specs.Change.{at, nobody}
use Rattle.wm_forest.specs.declared.kind.KindEdit.TheVariants as edits
use Rattle.wm_forest.specs.declared.part.NodeKind.{NodeKind}
use Rattle.wm_forest.specs.declared.part.NodeKind.TheVariants.{Root, Output, Space, Con}
use Rattle.wm_forest.specs.declared.part.Part.{Part}
use Rattle.wm_forest.specs.declared.place.NewCon.TheVariants as new
use Rattle.wm_forest.specs.Forest.{Forest, end, con}
use Rattle.wm_forest.specs.Kinds.{changed, kind_changed}
use Rattle.wm_forest.specs.Look.{first_kids, first_part, has, kind_by, only, same, space_kind}
use Rattle.wm_forest.specs.Place.{new_part}
use Rattle.wm_forest.specs.Recency.{first_held, lists}
use Rattle.wm_forest.specs.RootId.{id}
use Rattle.wm_forest.specs.SoundRow.{rank_of, ranked, ranks, tally, times}
use Rattle.wm_forest.specs.Spot.{spot_in, top}
use Rattle.wm_shared.proofs.ShowLemmas.{space_is}
use Rattle.wm_shared.proofs.SpaceLemmas.{IsSpaceIn}
use Rattle.wm_shared.proofs.StandingLemmas.{shown_stands, stands_space}
use Rattle.wm_shared.specs.Refusing.{full_error}
use Rattle.wm_shared.specs.Subject.{is_space}
use Rattle.wm_tree.proofs.SoundLemmas.{rank_le, sound-edited}
use Rattle.wm_tree.proofs.WrapLemmas.{sound-wrapped}
use Rattle.wm_tree.specs.Move.{passed_by_wrap, share_in, wrap_word, wrapped}
use Rattle.wm_tree.specs.Sound.{IsSound}
use Rattle.wm_tree.specs.TreeValue.{TreeValue, focused, is_con, is_con_kind, is_tiled_con, is_tiled_spot, or_id, shown}

-- ---- the first of the ids

held_same : (f g : Forest) (ids : List ConId) → ((x : ConId) → has x g ≡ has x f) → first_held g ids ≡ first_held f ids
held_same f g [] e = refl
held_same f g (id ∷ ids) e = rw (e id, held_same f g ids e) refl

-- with one more id at the end that the forest had not
held_more : (f g : Forest) (n : ConId) (ids : List ConId) → ((x : ConId) → same n x ≡ false → has x g ≡ has x f) → lists n ids ≡ false → first_held f ids ≢ None → first_held g (ids ++ n ∷ []) ≡ first_held f ids
held_more f g n [] e none some = absurd (some refl)
held_more f g n (id ∷ ids) e none some = step (same id n) (has id f) refl refl none some (held_more f g n ids e)
  where
    other : (b : Bool) → same n id ≡ b → same id n ≡ false → same n id ≡ false
    other false e k = e
    other true e k = let one = same_self id n (sym (same_is n id e)) in cc

    step : (s b : Bool) → same id n ≡ s → has id f ≡ b → (s || lists n ids) ≡ false → cond b (Some id) (first_held f ids) ≢ None → (lists n ids ≡ false → first_held f ids ≢ None → first_held g (ids ++ n ∷ []) ≡ first_held f ids)
        → cond (has id g) (Some id) (first_held g (ids ++ n ∷ [])) ≡ cond b (Some id) (first_held f ids)
    step true b es eb none some u = cc
    step false true es eb none some u = rw (e id (other (same n id) refl es), eb) refl
    step false false es eb none some u = rw (e id (other (same n id) refl es), eb) (u none some)

some_held : (f : Forest) (i : ConId) (ids : List ConId) → has i f ≡ true → lists i ids ≡ true → first_held f ids ≢ None
some_held f i [] h l = absurd (cc)
some_held f i (id ∷ ids) h l = step (has id f) (same id i) refl refl l (some_held f i ids h)
  where
    step : (b s : Bool) → has id f ≡ b → same id i ≡ s → (s || lists i ids) ≡ true → (lists i ids ≡ true → first_held f ids ≢ None) → cond b (Some id) (first_held f ids) ≢ None
    step true s eb es l u = λ e. cc
    step false true eb es l u = let one = same_is id i es in let there : has id f ≡ true = ap (λ z. has z f) one ∙ h in absurd (cc)
    step false false eb es l u = u l

not_listed : (c : ConId) (ids : List ConId) → times c ids ≡ 0 → lists c ids ≡ false
not_listed c [] h = refl
not_listed c (id ∷ ids) h = step (same id c) h (not_listed c ids)
  where
    step : (a : Bool) → cond a 1 0 + times c ids ≡ 0 → (times c ids ≡ 0 → lists c ids ≡ false) → (a || lists c ids) ≡ false
    step true h u = absurd (omega (arith, h))
    step false h u = u (omega (arith, h))

space_ranked : (w : ConId) (f : Forest) → IsSpaceIn w f → (1 ≤ ranked w f) × (has w (only w f) ≡ true)
space_ranked w end ok = absurd (ok refl)
space_ranked w (con part kids floats rest) ok = step (same part.id w) (has w kids) (has w floats) refl ok (space_ranked w kids) (space_ranked w floats) (space_ranked w rest)
  where
    by_kind : (k : NodeKind) → space_kind k ≢ None → ranks k ≡ 1
    by_kind (Root d) ok = absurd (ok refl)
    by_kind (Output o) ok = absurd (ok refl)
    by_kind (Space x) ok = refl
    by_kind (Con d) ok = refl

    step : (a k l : Bool) → same part.id w ≡ a → kind_by space_kind (first_part (cond a (con part kids floats end) (cond k (only w kids) (cond l (only w floats) (only w rest))))) ≢ None
        → (IsSpaceIn w kids → (1 ≤ ranked w kids) × (has w (only w kids) ≡ true)) → (IsSpaceIn w floats → (1 ≤ ranked w floats) × (has w (only w floats) ≡ true)) → (IsSpaceIn w rest → (1 ≤ ranked w rest) × (has w (only w rest) ≡ true))
        → (1 ≤ ranked w (con part kids floats rest)) × (has w (cond a (con part kids floats end) (cond k (only w kids) (cond l (only w floats) (only w rest)))) ≡ true)
    step true k l e ok u v z = let one : rank_of w part ≡ 1 = rw e (by_kind part.kind ok) in (omega (arith, one), rw e refl)
    step false true l e ok u v z = let r = u ok in (omega (arith, r.0), r.1)
    step false false true e ok u v z = let r = v ok in (omega (arith, r.0), r.1)
    step false false false e ok u v z = let r = z ok in (omega (arith, r.0), r.1)

-- ---- the layout is given to the node around

layout_upper : (l : Layout) (part : Part) (kids floats rest : Forest) → upper (kind_changed (edits.Layout l) part kids floats rest) ≡ upper (con part kids floats rest)
layout_upper l part kids floats rest = by part.kind refl
  where
    by : (k : NodeKind) → part.kind ≡ k → level (record part { kind = changed (edits.Layout l) k }) (changed (edits.Layout l) k) (upper kids) (upper rest) ≡ level part k (upper kids) (upper rest)
    by (Root d) e = ap (λ (z : NodeKind). con (record part { kind = z }) (upper kids) end (upper rest)) (sym e)
    by (Output o) e = ap (λ (z : NodeKind). con (record part { kind = z }) (upper kids) end (upper rest)) (sym e)
    by (Space w) e = refl
    by (Con d) e = refl

edit_stays : (x w n : ConId) (l : Layout) (f : Forest) → StaysBelow x w f (at n kind_changed (edits.Layout l) f)
edit_stays x w n l f = stays_at x w n kind_changed (edits.Layout l) (λ g. Unit {0}) (λ part kids floats rest a. record { one = refl; space = refl; under = by part kids floats rest (same part.id w) }) f tt
  where
    by : (part : Part) (kids floats rest : Forest) (a : Bool)
        → has x (cond a (kind_changed (edits.Layout l) part kids floats end) (cond (has w kids) (only w kids) (cond (has w floats) (only w floats) (only w rest))))
        ≡ has x (cond a (con part kids floats end) (cond (has w kids) (only w kids) (cond (has w floats) (only w floats) (only w rest))))
    by part kids floats rest true = refl
    by part kids floats rest false = refl

given_focus : (c : ConId) (l : Layout) (t : TreeValue) → IsSound t → focused (laid_as c l t) ≡ focused t
given_focus c l t s =
    let after : TreeValue = laid_as c l t in
    let n : ConId = laid t c in
    let s2 : IsSound after = sound-edited n (edits.Layout l) t (fits_layout l (spot_in top n t.nodes) (first_kids (only n t.nodes))) s in
    let looks : shown after ≡ shown t = shown_alike t after s s2 (upper_at n kind_changed (edits.Layout l) (λ g. Unit {0}) (λ part kids floats rest b. layout_upper l part kids floats rest) t.nodes tt) in
    focused_is after s2
    ∙ (ap (λ w. or_id (first_held (only w after.nodes) t.recency) w) looks ∙ (ap (λ o. or_id o (shown t)) (held_same (only (shown t) t.nodes) (only (shown t) after.nodes) t.recency (λ x. (edit_stays x (shown t) n l t.nodes).under))
    ∙ sym (focused_is t s)))

-- ---- a new split

module _ (n : ConId) (share : ℕ) (t : TreeValue) (l : Layout) where
  wrap_upper : (part : Part) (kids floats rest : Forest) → is_con_kind part.kind ≡ true → upper (wrap_word (new_part n share t.border None (new.Split l)) part kids floats rest) ≡ upper (con part kids floats rest)
  wrap_upper part kids floats rest h = by part.kind h
    where
      by : (k : NodeKind) → is_con_kind k ≡ true → con (blank nobody) end end (upper rest) ≡ level part k (upper kids) (upper rest)
      by (Root d) h = cc
      by (Output o) h = cc
      by (Space w) h = cc
      by (Con d) h = refl

  wrap_has : (s a k m r : Bool) → s ≡ false → (s || (a || k || m || false) || false || r) ≡ (a || k || m || r)
  wrap_has true a k m r e = cc
  wrap_has false true k m r e = refl
  wrap_has false false true m r e = refl
  wrap_has false false false true r e = refl
  wrap_has false false false false r e = refl

  under_wrap : (x w : ConId) (part inner : Part) (whole kids floats rest : Forest) (s a k m : Bool) → s ≡ false → a ≡ false
      → has x (cond s whole (cond (a || k || m || false) (cond a (con inner kids floats end) (cond k (only w kids) (cond m (only w floats) end))) (cond false end (only w rest))))
      ≡ has x (cond a (con part kids floats end) (cond k (only w kids) (cond m (only w floats) (only w rest))))
  under_wrap x w part inner whole kids floats rest true a k m e h = cc
  under_wrap x w part inner whole kids floats rest false true k m e h = cc
  under_wrap x w part inner whole kids floats rest false false true m e h = refl
  under_wrap x w part inner whole kids floats rest false false false true e h = refl
  under_wrap x w part inner whole kids floats rest false false false false e h = refl

  wrap_stays : (x w : ConId) → same n x ≡ false → same n w ≡ false → (part : Part) (kids floats rest : Forest) → same part.id w ≡ false → StaysBelow x w (con part kids floats rest) (wrap_word (new_part n share t.border None (new.Split l)) part kids floats rest)
  wrap_stays x w nx nw part kids floats rest pw = record {
    one = wrap_has (same n x) (same part.id x) (has x kids) (has x floats) (has x rest) nx;
    space = wrap_has (same n w) (same part.id w) (has w kids) (has w floats) (has w rest) nw;
    under = under_wrap x w part (record part { kind = changed (edits.Share 65536) part.kind }) (con (new_part n share t.border None (new.Split l)) (con (record part { kind = changed (edits.Share 65536) part.kind }) kids floats end) end end) kids floats rest (same n w) (same part.id w) (has w kids) (has w floats) nw pw;
  }

-- the node that is found is not w
abbrev IsOther : ConId → Forest → Type 0
IsOther w g = (p : Part) → first_part g ≡ Some p → (same p.id w ≡ false) × (is_con_kind p.kind ≡ true)

con_of : (p : Part) (o : Option Part) → is_con o ≡ true → o ≡ Some p → is_con_kind p.kind ≡ true
con_of p o h e = ap is_con (sym e) ∙ h

wrapped_focus : (c : ConId) (l : Layout) (t : TreeValue) → IsSound t → is_space t c ≡ false → is_tiled_con t c ≡ true → passed_by_wrap c t.nodes t.next_id ≡ None → focused (wrapped c l t) ≡ focused t
wrapped_focus c l t s no_space tiled fits =
    let f = fresh_id c t s tiled in
    let n : ConId = id t.next_id in
    let w : ConId = shown t in
    let after : TreeValue = wrapped c l t in
    let s2 : IsSound after = sound-wrapped c l t f.there (tiled_is t c tiled) fits s in
    let is = stands_space w t s (shown_stands t s) in
    let ok : IsSpaceIn w t.nodes = space_is w t is in
    let ranked_w = space_ranked w t.nodes ok in
    let in_w : lists w t.recency ≡ true = listed w t.recency (omega (arith, s.known w, ranked_w.0)) in
    let fresh : tally n t.nodes ≡ 0 = s.fresh n (omega arith) in
    let unlisted : lists n t.recency ≡ false = not_listed n t.recency (omega (arith, s.known n, rank_le n t.nodes, fresh)) in
    let other_w : same c w ≡ false = apart (same c w) refl is in
    let new_w : same n w ≡ false = newer (same n w) refl fresh ranked_w.0 in
    let found : IsOther w (only c t.nodes) = λ p e. (own p e other_w, con_of p (first_part (only c t.nodes)) (both (is_con (first_part (only c t.nodes))) (is_tiled_spot (spot_in top c t.nodes)) tiled).0 e) in
    let looks : shown after ≡ w =
    shown_alike t after s s2 (upper_at c wrap_word (new_part n (share_in c t.nodes) t.border None (new.Split l)) (IsOther w) (λ part kids floats rest b. wrap_upper n (share_in c t.nodes) t l part kids floats rest (b part refl).1) t.nodes found) in
    let stays : (x : ConId) → same n x ≡ false → has x (only w after.nodes) ≡ has x (only w t.nodes) =
    λ x nx. (stays_at x w c wrap_word (new_part n (share_in c t.nodes) t.border None (new.Split l)) (IsOther w) (λ part kids floats rest b. wrap_stays n (share_in c t.nodes) t l x w nx new_w part kids floats rest (b part refl).0) t.nodes found).under in
    focused_is after s2
    ∙ (ap (λ z. or_id (first_held (only z after.nodes) (t.recency ++ n ∷ [])) z) looks ∙ (ap (λ o. or_id o w) (held_more (only w t.nodes) (only w after.nodes) n t.recency stays unlisted (some_held (only w t.nodes) w t.recency ranked_w.1 in_w))
    ∙ sym (focused_is t s)))
  where
    both : (a b : Bool) → (a && b) ≡ true → (a ≡ true) × (b ≡ true)
    both true b h = (refl, h)
    both false b h = cc

    apart : (b : Bool) → same c (shown t) ≡ b → is_space t (shown t) ≡ true → same c (shown t) ≡ false
    apart false e is = e
    apart true e is = let bad : is_space t c ≡ true = ap (is_space t) (same_is c (shown t) e) ∙ is in cc

    newer : (b : Bool) → same (id t.next_id) (shown t) ≡ b → tally (id t.next_id) t.nodes ≡ 0 → 1 ≤ ranked (shown t) t.nodes → same (id t.next_id) (shown t) ≡ false
    newer false e none some = e
    newer true e none some =
        let one : tally (id t.next_id) t.nodes ≡ tally (shown t) t.nodes = ap (λ z. tally z t.nodes) (same_is (id t.next_id) (shown t) e) in
        absurd (omega (arith, one, none, some, rank_le (shown t) t.nodes))

    own : (p : Part) → first_part (only c t.nodes) ≡ Some p → same c (shown t) ≡ false → same p.id (shown t) ≡ false
    own p e other = by (led c t.nodes (fresh_id c t s tiled).there)
      where
        by : Led c (only c t.nodes) → same p.id (shown t) ≡ false
        by k =
            let part : p ≡ k.part = let z : Some p ≡ Some k.part = sym e ∙ ap first_part k.is in cc in
            let one : p.id ≡ c = ap (λ (z : Part). z.id) part ∙ same_is k.part.id c k.own in
            ap (λ z. same z (shown t)) one ∙ other

-- ---- `split`

pub split_keeps_focus : SplitKeepsFocus
split_keeps_focus c arg t sub h = by (gives_layout t c) refl h
  where
    by : (b : Bool) → gives_layout t c ≡ b → option_or (layout_refusal c t) (cond b None (full_error (passed_by_wrap c t.nodes t.next_id))) ≡ None
        → focused (cond b (laid_as c (asked_split arg (layouts_at c t).now) t) (wrapped c (asked_split arg (layouts_at c t).now) t)) ≡ focused t
    by true e h2 = given_focus c (asked_split arg (layouts_at c t).now) t sub.sound
    by false e h2 =
        let k = (ways c arg t h).wraps e in
        let fits = no_limit (passed_by_wrap c t.nodes t.next_id) (second_none (layout_refusal c t) (full_error (passed_by_wrap c t.nodes t.next_id)) h2).1 in
        wrapped_focus c (asked_split arg (layouts_at c t).now) t sub.sound k.0 k.1 fits
