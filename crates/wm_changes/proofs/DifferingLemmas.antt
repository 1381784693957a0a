-- Windows of two trees put in but for some that do not differ: what is told of those that were is what is told of all.
use Rattle.std.proofs.Common.{◌≡◌, ◌<◌, ◌≤◌, ◌+◌, inl, inr, OnOk, Result, Ok, Err, ℕ, Bool, true, false, cond, not, ◌||◌, List, [], ◌∷◌, ◌++◌, Option, Some, None, is_some, refl, ap, ap₂, sym, ◌∙◌, arith}
use Rattle.std.specs.BTreeMap.{is_at}
use Rattle.std.specs.List.{flat_map}
use Rattle.std.specs.List.Sorted.{IsStrictlySortedBy}
use Rattle.std.specs.Map.{keys_of, lookup, values_of}
use Rattle.std.specs.Option.{option_or}
use Rattle.std.specs.Ordering.{nat_cmp}
use Rattle.std.specs.declared.cmp.Ordering.{Ordering}
use Rattle.std.specs.declared.cmp.Ordering.TheVariants.{Less, Equal, Greater}
use Rattle.wm_arrange.specs.declared.parts.Placed.{Placed}
use Rattle.wm_base.specs.declared.ids.ConId.{ConId}
use Rattle.wm_changes.specs.declared.differing.Differing.{Differing}
use Rattle.wm_changes.specs.declared.standing.Standing.{Standing}
use Rattle.wm_changes.specs.declared.words.Change.{Change}
use Rattle.wm_changes.specs.declared.words.Change.TheVariants.{Close}
use Rattle.wm_changes.specs.Changes.{close_line, told, window_event, window_line, window_view}
use Rattle.wm_changes.specs.Differences.{differences, differs, is_filled, is_floated, is_marked, is_moved, is_retitled, is_urged, window_words}
use Rattle.wm_changes.specs.Differing.{ArePut, ArePutIn, IsAlike, IsDiffering, held, here_line, last_of, listed, lost_line}
use Rattle.wm_changes.specs.Facts.{WindowFact, float_standing, kid_standing, put_windows, top, window_by, window_here, windows, windows_in}
use Rattle.wm_changes.proofs.EntryLemmas.{Above, above_all, above_none, at_above, at_own, cmp_less, equal_is, greater_is, less_is}
use Rattle.wm_changes.proofs.FoundLemmas.{last_append, last_found, put_last}
use Rattle.wm_changes.proofs.StillLemmas.{gone_not, sorted_put, sorted_windows}
use Rattle.wm_forest.specs.declared.part.ConKind.{ConKind}
use Rattle.wm_forest.specs.declared.part.ConKind.TheVariants.{Split, Window, Placeholder}
use Rattle.wm_forest.specs.declared.part.NodeKind.{NodeKind}
use Rattle.wm_forest.specs.declared.part.NodeKind.TheVariants.{Root, Output, Space, Con}
use Rattle.wm_forest.specs.declared.part.Part.{Part}
use Rattle.wm_forest.specs.Forest.{Forest, end, con}
use Rattle.wm_forest.specs.Look.{con_kind, same}
use Rattle.wm_forest.specs.SoundRow.{one_of, tally}
pub use Rattle.wm_forest.proofs.RecencyLemmas.{same_is}
use Rattle.wm_json.specs.declared.views.EventBody.{EventBody}
use Rattle.wm_tree.specs.Sound.{IsSound}
use Rattle.wm_tree.specs.TreeValue.{TreeValue}
use Rattle.wm_views.proofs.MapLemmas.{or_assoc, or_none}
use Rattle.wm_views.specs.Maps.{value_at}

-- ---- how many have an id

held_append : (c : ConId) (vs ws : List WindowFact) → held c (vs ++ ws) ≡ held c vs + held c ws
held_append c [] ws = omega arith
held_append c (v ∷ vs) ws = let rest = held_append c vs ws in omega (arith, rest)

-- where none has it, there is no last one
none_held : (c : ConId) (ws : List WindowFact) → held c ws ≡ 0 → last_of c ws ≡ None
none_held c [] h = refl
none_held c (w ∷ ws) h = by_same (same w.part.id c) (none_held c ws) h
  where
    by_same : (b : Bool) → (held c ws ≡ 0 → last_of c ws ≡ None) → cond b 1 0 + held c ws ≡ 0 → option_or (last_of c ws) (cond b (Some w) None) ≡ None
    by_same true none z = absurd (omega (arith, z))
    by_same false none z = ap (λ o. option_or o None) (none (omega (arith, z)))

-- where there is a last one, one has it at least
some_held : (c : ConId) (ws : List WindowFact) (w : WindowFact) → last_of c ws ≡ Some w → 1 ≤ held c ws
some_held c [] w h = absurd cc
some_held c (x ∷ ws) w h = by_rest (last_of c ws) refl (same x.part.id c) (some_held c ws) h
  where
    by_rest : (o : Option WindowFact) → last_of c ws ≡ o → (b : Bool) → ((v : WindowFact) → last_of c ws ≡ Some v → 1 ≤ held c ws) → option_or o (cond b (Some x) None) ≡ Some w → 1 ≤ cond b 1 0 + held c ws
    by_rest (Some y) is b more h = let some = more y is in omega (arith, some)
    by_rest None is true more h = omega arith
    by_rest None is false more h = absurd cc

held_here : (c : ConId) (s : Standing) (part : Part) (kind : NodeKind) → held c (window_here s part (con_kind kind)) ≤ one_of c part
held_here c s part (Root d) = omega arith
held_here c s part (Output o) = omega arith
held_here c s part (Space w) = omega arith
held_here c s part (Con k) = by_kind k.kind
  where
    by_kind : (kind : ConKind) → held c (window_by s part k kind) ≤ one_of c part
    by_kind (Split layout last) = omega arith
    by_kind (Window props owner natural) = omega arith
    by_kind (Placeholder props swallows) = omega arith

-- no more windows of a row have it than nodes
held_in : (c : ConId) (s : Standing) (f : Forest) → held c (windows_in s f) ≤ tally c f
held_in c s end = omega arith
held_in c s (con part kids floats rest) =
    let here : List WindowFact = window_here s part (con_kind part.kind) in
    let below : List WindowFact = windows_in (kid_standing s part kids) kids in
    let beside : List WindowFact = windows_in (float_standing s part) floats in
    let behind : List WindowFact = windows_in s rest in
    omega (
      arith,
      held_append c (here ++ below ++ beside) behind,
      held_append c (here ++ below) beside,
      held_append c here below,
      held_here c s part part.kind,
      held_in c (kid_standing s part kids) kids,
      held_in c (float_standing s part) floats,
      held_in c s rest,
    )

-- the last one with an id has that id
last_id : (c : ConId) (ws : List WindowFact) (w : WindowFact) → last_of c ws ≡ Some w → w.part.id ≡ c
last_id c [] w h = absurd cc
last_id c (x ∷ ws) w h = by_rest (last_of c ws) refl (same x.part.id c) refl (last_id c ws) h
  where
    by_rest : (o : Option WindowFact) → last_of c ws ≡ o → (b : Bool) → same x.part.id c ≡ b → ((v : WindowFact) → last_of c ws ≡ Some v → v.part.id ≡ c) → option_or o (cond b (Some x) None) ≡ Some w → w.part.id ≡ c
    by_rest (Some y) is b own more h = more w (is ∙ h)
    by_rest None is true own more h = let one : x ≡ w = cc in ap (λ (z : WindowFact). z.part.id) (sym one) ∙ same_is x.part.id c own
    by_rest None is false own more h = absurd cc

-- ---- putting in

-- nothing is left out
pub put_two : (t u : TreeValue) (vs ws : List WindowFact) (old new : Differing) → new.before.entries ≡ put_windows vs old.before.entries → new.after.entries ≡ put_windows ws old.after.entries → ArePutIn t u vs ws old new
put_two t u vs ws old new before after = record {
  each = λ c one two. inl (ap (λ m. value_at m c) before ∙ put_last c vs old.before.entries, ap (λ m. value_at m c) after ∙ put_last c ws old.after.entries);
  before = λ sorted. rw (before) (sorted_put vs old.before.entries sorted);
  after = λ sorted. rw (after) (sorted_put ws old.after.entries sorted);
}

-- two windows that do not differ are left out
pub left_out : (t u : TreeValue) (v w : WindowFact) (d : Differing) → v.part.id ≡ w.part.id → differs t u v w ≡ false → ArePutIn t u (listed (Some v)) (listed (Some w)) d d
left_out t u v w d one alike = record {
  each = λ c once twice. by_same c (same v.part.id c) refl;
  before = λ sorted. sorted;
  after = λ sorted. sorted;
}
  where
    by_same : (c : ConId) (b : Bool) → same v.part.id c ≡ b
        → ArePut t u (last_of c (v ∷ [])) (last_of c (w ∷ [])) (value_at d.before.entries c) (value_at d.after.entries c) (value_at d.before.entries c) (value_at d.after.entries c)
    by_same c true is = let other : same w.part.id c ≡ true = ap (λ i. same i c) (sym one) ∙ is in rw (is, other) (inr (refl, refl, alike))
    by_same c false is = let other : same w.part.id c ≡ false = ap (λ i. same i c) (sym one) ∙ is in rw (is, other) (inl (refl, refl))

-- windows that do not differ are two
both_some : (t u : TreeValue) (c : ConId) (vs ws : List WindowFact) → IsAlike t u (last_of c vs) (last_of c ws) → (1 ≤ held c vs) × (1 ≤ held c ws)
both_some t u c vs ws alike = by_last (last_of c vs) refl (last_of c ws) refl alike
  where
    by_last : (v : Option WindowFact) → last_of c vs ≡ v → (w : Option WindowFact) → last_of c ws ≡ w → IsAlike t u v w → (1 ≤ held c vs) × (1 ≤ held c ws)
    by_last None is w are h = absurd h
    by_last (Some v) is None are h = absurd h
    by_last (Some v) is (Some w) are h = (some_held c vs v is, some_held c ws w are)

-- those of two lists are put in one after the other
module _ (t u : TreeValue) (vs ws vs' ws' : List WindowFact) (c : ConId) (once : held c (vs ++ vs') ≤ 1) (twice : held c (ws ++ ws') ≤ 1) where
  abbrev Step : (x y x' y' : Option WindowFact) → Type 0
  Step x y x' y' = ArePut t u (last_of c vs) (last_of c ws) x y x' y'

  abbrev Next : (x y x' y' : Option WindowFact) → Type 0
  Next x y x' y' = ArePut t u (last_of c vs') (last_of c ws') x y x' y'

  abbrev All : (x y x' y' : Option WindowFact) → Type 0
  All x y x' y' = ArePut t u (last_of c (vs ++ vs')) (last_of c (ws ++ ws')) x y x' y'

  put_more : (xs ys : List WindowFact) (x y z : Option WindowFact) → y ≡ option_or (last_of c xs) x → z ≡ option_or (last_of c ys) y → z ≡ option_or (last_of c (xs ++ ys)) x
  put_more xs ys x y z first next = next ∙ ap (option_or (last_of c ys)) first ∙ sym (ap (λ o. option_or o x) (last_append c xs ys) ∙ or_assoc (last_of c ys) (last_of c xs) x)

  one_then_none : (xs ys : List WindowFact) → held c (xs ++ ys) ≤ 1 → 1 ≤ held c xs → last_of c ys ≡ None
  one_then_none xs ys all some = none_held c ys (let sum = held_append c xs ys in omega (arith, sum, all, some))

  none_then_one : (xs ys : List WindowFact) → held c (xs ++ ys) ≤ 1 → 1 ≤ held c ys → last_of c xs ≡ None
  none_then_one xs ys all some = none_held c xs (let sum = held_append c xs ys in omega (arith, sum, all, some))

  first_only : (xs ys : List WindowFact) → last_of c ys ≡ None → last_of c (xs ++ ys) ≡ last_of c xs
  first_only xs ys none = last_append c xs ys ∙ ap (λ o. option_or o (last_of c xs)) none

  second_only : (xs ys : List WindowFact) → last_of c xs ≡ None → last_of c (xs ++ ys) ≡ last_of c ys
  second_only xs ys none = last_append c xs ys ∙ ap (option_or (last_of c ys)) none ∙ sym (or_none (last_of c ys))

  put_then : (x y x' y' x'' y'' : Option WindowFact) → Step x y x' y' → Next x' y' x'' y'' → All x y x'' y''
  put_then x y x' y' x'' y'' (inl first) (inl next) = inl (put_more vs vs' x x' x'' first.0 next.0, put_more ws ws' y y' y'' first.1 next.1)
  put_then x y x' y' x'' y'' (inr first) (inl next) =
      let some = both_some t u c vs ws first.2 in
      let no_v : last_of c vs' ≡ None = one_then_none vs vs' once some.0 in
      let no_w : last_of c ws' ≡ None = one_then_none ws ws' twice some.1 in
      inr (
        next.0 ∙ ap (λ o. option_or o x') no_v ∙ first.0,
        next.1 ∙ ap (λ o. option_or o y') no_w ∙ first.1,
        rw (first_only vs vs' no_v, first_only ws ws' no_w) first.2,
      )
  put_then x y x' y' x'' y'' (inl first) (inr next) =
      let some = both_some t u c vs' ws' next.2 in
      let no_v : last_of c vs ≡ None = none_then_one vs vs' once some.0 in
      let no_w : last_of c ws ≡ None = none_then_one ws ws' twice some.1 in
      inr (
        next.0 ∙ first.0 ∙ ap (λ o. option_or o x) no_v,
        next.1 ∙ first.1 ∙ ap (λ o. option_or o y) no_w,
        rw (second_only vs vs' no_v, second_only ws ws' no_w) next.2,
      )
  put_then x y x' y' x'' y'' (inr first) (inr next) =
      let some = both_some t u c vs' ws' next.2 in
      let no_v : last_of c vs ≡ None = none_then_one vs vs' once some.0 in
      let no_w : last_of c ws ≡ None = none_then_one ws ws' twice some.1 in
      inr (next.0 ∙ first.0, next.1 ∙ first.1, rw (second_only vs vs' no_v, second_only ws ws' no_w) next.2)

pub put_both : (t u : TreeValue) (vs ws vs' ws' : List WindowFact) (a b d : Differing) → ArePutIn t u vs ws a b → ArePutIn t u vs' ws' b d → ArePutIn t u (vs ++ vs') (ws ++ ws') a d
put_both t u vs ws vs' ws' a b d first next = record {
  each = λ c once twice.
      put_then t u vs ws vs' ws' c once twice (value_at a.before.entries c) (value_at a.after.entries c) (value_at b.before.entries c) (value_at b.after.entries c) (value_at d.before.entries c) (value_at d.after.entries c)
      (first.each c (let sum = held_append c vs vs' in omega (arith, sum, once)) (let sum = held_append c ws ws' in omega (arith, sum, twice)))
      (next.each c (let sum = held_append c vs vs' in omega (arith, sum, once)) (let sum = held_append c ws ws' in omega (arith, sum, twice)));
  before = λ sorted. next.before (first.before sorted);
  after = λ sorted. next.after (first.after sorted);
}

-- what holds where all went well may be said otherwise
pub on_ok : {A E P Q : Type 0} (result : Result A E) → OnOk result P → (P → Q) → OnOk result Q
on_ok (Ok x) held then = then held
on_ok (Err e) held then = tt

-- all windows of two sound trees are put in
pub all_put : (t u : TreeValue) (old new : Differing) → IsSound t → IsSound u → old.before.entries ≡ [] → old.after.entries ≡ [] → ArePutIn t u (windows_in top t.nodes) (windows_in top u.nodes) old new → IsDiffering t u new
unfolding IsStrictlySortedBy
all_put t u old new sound sound' none none' put = record {
  each = λ c.
      let once : held c (windows_in top t.nodes) ≤ 1 = omega (arith, held_in c top t.nodes, sound.once c) in
      let twice : held c (windows_in top u.nodes) ≤ 1 = omega (arith, held_in c top u.nodes, sound'.once c) in
      rw (last_found t c, last_found u c, none, none') at (put.each c once twice);
  before = put.before (rw (none) tt);
  after = put.after (rw (none') tt);
}

-- ---- what is told

or_false : (a b : Bool) → (a || b) ≡ false → (a ≡ false) × (b ≡ false)
or_false true b h = let bad : true ≡ false = h in absurd cc
or_false false b h = (refl, h)

-- nothing is told of a window that does not differ
none_told : (t u : TreeValue) (v w : WindowFact) (event : Change → EventBody) → differs t u v w ≡ false → told event (differences t u v w) ≡ []
none_told t u v w event h =
    let retitled = or_false (is_filled v w || is_floated v w || is_moved v w || is_urged t u w.part.id || is_marked v w) (is_retitled v w) h in
    let marked = or_false (is_filled v w || is_floated v w || is_moved v w || is_urged t u w.part.id) (is_marked v w) retitled.0 in
    let urged = or_false (is_filled v w || is_floated v w || is_moved v w) (is_urged t u w.part.id) marked.0 in
    let moved = or_false (is_filled v w || is_floated v w) (is_moved v w) urged.0 in
    let floated = or_false (is_filled v w) (is_floated v w) moved.0 in
    rw (floated.0, floated.1, moved.1, urged.1, marked.1, retitled.1) refl

-- what is told by the one line of what was found is what is told by the other of what there is; of what was not found nothing is
abbrev IsTold : {V X : Type 0} → (f g : V → List X) → Option V → Option V → Type 0
IsTold f g None None = Unit {0}
IsTold f g None (Some w) = g w ≡ []
IsTold f g (Some v) None = ⊥
IsTold f g (Some v) (Some w) = f v ≡ g w

module _ {V X : Type 0} (f g : V → List X) where
  abbrev AreTold : List (ℕ × V) → List (ℕ × V) → Type 0
  AreTold es ds = (k : ℕ) → IsTold f g (lookup (is_at (nat_cmp k)) es) (lookup (is_at (nat_cmp k)) ds)

  -- where the first key of both is the same, the rest is told
  told_behind : (e d : ℕ × V) (es ds : List (ℕ × V)) → e.0 ≡ d.0 → Above e.0 (keys_of es) → Above d.0 (keys_of ds) → AreTold (e ∷ es) (d ∷ ds) → AreTold es ds
  told_behind e d es ds one above above' all k = by_key (is_at (nat_cmp k) e.0) refl
    where
      by_key : (b : Bool) → is_at (nat_cmp k) e.0 ≡ b → IsTold f g (lookup (is_at (nat_cmp k)) es) (lookup (is_at (nat_cmp k)) ds)
      by_key true is = rw (above_none e.0 k es above is, above_none d.0 k ds above' (ap (is_at (nat_cmp k)) (sym one) ∙ is)) tt
      by_key false is = let other : is_at (nat_cmp k) d.0 ≡ false = ap (is_at (nat_cmp k)) (sym one) ∙ is in (rw (is, other) at (all k))

  -- where the first key of all is another one, it is passed by
  told_beside : (d : ℕ × V) (es ds : List (ℕ × V)) → Above d.0 (keys_of es) → Above d.0 (keys_of ds) → AreTold es (d ∷ ds) → AreTold es ds
  told_beside d es ds above above' all k = by_key (is_at (nat_cmp k) d.0) refl
    where
      by_key : (b : Bool) → is_at (nat_cmp k) d.0 ≡ b → IsTold f g (lookup (is_at (nat_cmp k)) es) (lookup (is_at (nat_cmp k)) ds)
      by_key true is = rw (above_none d.0 k es above is, above_none d.0 k ds above' is) tt
      by_key false is = (rw (is) at (all k))

  told_step : (e d : ℕ × V) (es ds : List (ℕ × V)) → IsStrictlySortedBy nat_cmp (keys_of (e ∷ es)) → IsStrictlySortedBy nat_cmp (keys_of (d ∷ ds)) → AreTold (e ∷ es) (d ∷ ds)
      → ((rest : List (ℕ × V)) → IsStrictlySortedBy nat_cmp (keys_of rest) → AreTold rest ds → flat_map f (values_of rest) ≡ flat_map g (values_of ds))
      → (r : Ordering) → nat_cmp e.0 d.0 ≡ r → flat_map f (values_of (e ∷ es)) ≡ flat_map g (values_of (d ∷ ds))
  unfolding IsStrictlySortedBy
  told_step e d es ds sorted sorted' all more Less is =
      let lt : e.0 < d.0 = less_is e.0 d.0 is in
      absurd (rw (at_own e.0, at_above e.0 e.0 d.0 (at_own e.0) lt, above_none e.0 e.0 ds (above_all e.0 d.0 (keys_of ds) lt sorted'.0) (at_own e.0)) at (all e.0))
  told_step e d es ds sorted sorted' all more Equal is =
      let one : e.0 ≡ d.0 = equal_is e.0 d.0 is in
      let own : f e.1 ≡ g d.1 = (rw (at_own e.0, ap (is_at (nat_cmp e.0)) (sym one) ∙ at_own e.0) at (all e.0)) in
      ap₂ (λ xs ys. xs ++ ys) own (more es sorted.1 (told_behind e d es ds one sorted.0 sorted'.0 all))
  told_step e d es ds sorted sorted' all more Greater is =
      let lt : d.0 < e.0 = greater_is e.0 d.0 is in
      let above : Above d.0 (keys_of (e ∷ es)) = (cmp_less d.0 e.0 lt, above_all d.0 e.0 (keys_of es) lt sorted.0) in
      let own : g d.1 ≡ [] = (rw (at_own d.0, above_none d.0 d.0 (e ∷ es) above (at_own d.0)) at (all d.0)) in
      rw (own) (more (e ∷ es) sorted (told_beside d (e ∷ es) ds above sorted'.0 all))

  -- of those that were found as much is told as of all
  told_lines : (ds es : List (ℕ × V)) → IsStrictlySortedBy nat_cmp (keys_of es) → IsStrictlySortedBy nat_cmp (keys_of ds) → AreTold es ds → flat_map f (values_of es) ≡ flat_map g (values_of ds)
  unfolding IsStrictlySortedBy
  told_lines [] [] sorted sorted' all = refl
  told_lines [] (e ∷ es) sorted sorted' all = absurd (rw (at_own e.0) at (all e.0))
  told_lines (d ∷ ds) [] sorted sorted' all =
      let own : g d.1 ≡ [] = (rw (at_own d.0) at (all d.0)) in
      rw (own) (told_lines ds [] tt sorted'.1 (told_beside d [] ds tt sorted'.0 all))
  told_lines (d ∷ ds) (e ∷ es) sorted sorted' all = told_step e d es ds sorted sorted' all (λ rest s a. told_lines ds rest s sorted'.1 a) (nat_cmp e.0 d.0) refl

-- ---- windows

module _ (t u : TreeValue) (d : Differing) (found : IsDiffering t u d) (parts : List Placed) (c : ConId) where
  abbrev Put : Option WindowFact → Option WindowFact → Type 0
  Put v w = ArePut t u v w None None (value_at d.before.entries c) (value_at d.after.entries c)

  own_id : (x : TreeValue) (w : WindowFact) → value_at (windows x) c ≡ Some w → w.part.id ≡ c
  own_id x w is = last_id c (windows_in top x.nodes) w (last_found x c ∙ is)

  -- an entry under the id of a window is what the map of all has there
  same_entry : (x : TreeValue) (es : List (ℕ × WindowFact)) (id : ConId) (o : Option WindowFact) → id ≡ c → value_at (windows x) c ≡ o → value_at es c ≡ option_or o None → value_at es id ≡ value_at (windows x) id
  same_entry x es id o own all put = ap (value_at es) own ∙ (put ∙ (sym (or_none o) ∙ (sym all ∙ ap (value_at (windows x)) (sym own))))

  here_told : (v : Option WindowFact) → value_at (windows t) c ≡ v → (w : Option WindowFact) → value_at (windows u) c ≡ w → Put v w → IsTold (here_line t u parts d.before.entries) (window_line t u parts) (value_at d.after.entries c) w
  here_told v old None new (inl put) = rw (put.1) tt
  here_told v old (Some w) new (inl put) =
      rw (put.1) (ap (λ o. told (window_event (window_view u parts w)) (window_words t u o w)) (same_entry t d.before.entries w.part.id v (own_id u w new) old put.0))
  here_told None old w new (inr out) = absurd out.2
  here_told (Some v) old None new (inr out) = absurd out.2
  here_told (Some v) old (Some w) new (inr out) =
      rw (out.1) (ap (λ o. told (window_event (window_view u parts w)) (window_words t u o w)) (ap (value_at (windows t)) (own_id u w new) ∙ old) ∙ none_told t u v w (window_event (window_view u parts w)) out.2)

  gone_told : (v : Option WindowFact) → value_at (windows t) c ≡ v → (w : Option WindowFact) → value_at (windows u) c ≡ w → Put v w → IsTold (lost_line t parts d.after.entries) (close_line t parts u) (value_at d.before.entries c) v
  gone_told None old w new (inl put) = rw (put.0) tt
  gone_told (Some v) old w new (inl put) =
      rw (put.0) (ap (λ o. told (window_event (window_view t parts v)) ((not (is_some o), Close) ∷ [])) (same_entry u d.after.entries v.part.id w (own_id t v old) new put.1))
  gone_told None old w new (inr out) = absurd out.2
  gone_told (Some v) old None new (inr out) = absurd out.2
  gone_told (Some v) old (Some w) new (inr out) =
      rw (out.0) (gone_not (windows u) v.part.id w (window_event (window_view t parts v)) Close (ap (value_at (windows u)) (own_id t v old) ∙ new))

-- windows that are new or differ
pub here_lines : (t u : TreeValue) (d : Differing) (parts : List Placed) → IsDiffering t u d
    → flat_map (here_line t u parts d.before.entries) (values_of d.after.entries) ≡ flat_map (window_line t u parts) (values_of (windows u))
here_lines t u d parts found =
    told_lines (here_line t u parts d.before.entries) (window_line t u parts) (windows u) d.after.entries found.after (sorted_windows (windows_in top u.nodes))
    (λ k. let c : ConId = record { 0 = k } in here_told t u d found parts c (value_at (windows t) c) refl (value_at (windows u) c) refl (found.each c))

-- windows that are gone
pub gone_lines : (t u : TreeValue) (d : Differing) (parts : List Placed) → IsDiffering t u d
    → flat_map (lost_line t parts d.after.entries) (values_of d.before.entries) ≡ flat_map (close_line t parts u) (values_of (windows t))
gone_lines t u d parts found =
    told_lines (lost_line t parts d.after.entries) (close_line t parts u) (windows t) d.before.entries found.before (sorted_windows (windows_in top t.nodes))
    (λ k. let c : ConId = record { 0 = k } in gone_told t u d found parts c (value_at (windows t) c) refl (value_at (windows u) c) refl (found.each c))
