-- Which ids stand in a tree as placeholders, and which may open, before and after each step.
use Rattle.std.proofs.Common.{◌≡◌, ℕ, ◌+◌, ◌≤◌, ◌<◌, Bool, true, false, cond, leb, ◌||◌, List, Option, None, Some, refl, ap, ◌∙◌, arith}
use Rattle.std.proofs.lemmas.Bool.Decides.{nat_tests}
use Rattle.wm_apply.specs.Batches.{outcome}
use Rattle.wm_base.specs.declared.geometry.Rect.{Rect}
use Rattle.wm_base.specs.declared.geometry.Size.{Size}
use Rattle.wm_base.specs.declared.ids.ConId.{ConId}
use Rattle.wm_base.specs.declared.plan.Layout.{Layout}
use Rattle.wm_base.specs.declared.plan.OutputPlan.{OutputPlan}
use Rattle.wm_base.specs.declared.properties.Props.{Props}
use Rattle.wm_criteria.specs.declared.verdict.Verdict.{Verdict}
use Rattle.wm_layouts.specs.declared.plan.Env.{Env}
use Rattle.wm_opens.proofs.CommandLemmas.{kept_outcome}
use Rattle.wm_opens.proofs.KeptLemmas.{Kept, kept_detached, kept_raised, kept_settled, kept_with_output}
use Rattle.wm_opens.proofs.MeasureLemmas.{IsKept, kinds_at, kinds_fresh, kinds_measured}
use Rattle.wm_opens.proofs.OpenLemmas.{IsAt, found_at, windows_seen, windows_tallied}
use Rattle.wm_opens.proofs.SpaceLemmas.{kept_output_removed}
use Rattle.wm_opens.proofs.WordLemmas.{put_none}
use Rattle.wm_opens.specs.Opens.{OpensNoOther, is_fill, is_placeholder_kind, is_placeholder_of, is_placeholder_part, is_window_of, is_window_part, may_open, placeholder_at, placeholders, placeholders_at, windows_at}
use Rattle.wm_forest.specs.Change.{is_window_kind}
use Rattle.wm_spaces.specs.Coming.{free_name, output_added_tree, output_removed_tree}
use Rattle.wm_forest.proofs.ChangeLemmas.{by_change}
use Rattle.wm_forest.proofs.CountLemmas.{count-without, found_counted, tally-absent}
use Rattle.wm_forest.proofs.ForestLemmas.{only_absent}
use Rattle.wm_forest.specs.Change.{at, placed, unfull_kind, without}
use Rattle.wm_forest.specs.Counts.{count}
use Rattle.wm_forest.specs.declared.kind.KindEdit.{KindEdit}
use Rattle.wm_forest.specs.declared.kind.KindEdit.TheVariants as edits
use Rattle.wm_forest.specs.declared.part.ConKind.{ConKind}
use Rattle.wm_forest.specs.declared.part.ConKind.TheVariants.{Split, Window, Placeholder}
use Rattle.wm_forest.specs.declared.part.ConPart.{ConPart}
use Rattle.wm_forest.specs.declared.part.NodeKind.{NodeKind}
use Rattle.wm_forest.specs.declared.part.NodeKind.TheVariants.{Root, Output, Space, Con}
use Rattle.wm_forest.specs.declared.part.Part.{Part}
use Rattle.wm_forest.specs.declared.place.NewCon.TheVariants as new
use Rattle.wm_forest.specs.declared.place.Place.{Place}
use Rattle.wm_forest.specs.Forest.{Forest, end, con}
use Rattle.wm_forest.specs.Kinds.{changed, filled, kind_changed, laid_out, titled}
use Rattle.wm_forest.specs.Look.{con_kind, first_part, has, kind_by, kind_of, only, same}
use Rattle.wm_forest.specs.Place.{new_part, rect_at, share_at}
use Rattle.wm_forest.specs.RootId.{id}
use Rattle.wm_forest.specs.SoundRow.{one_of, tally}
use Rattle.wm_tree.specs.Sound.{IsSound}
use Rattle.wm_tree.specs.TreeValue.{TreeValue}
use Rattle.wm_tree.specs.Words.{attached, detached, edited, settled, with_raised}

-- ---- the measure

laid_placeholder : (l : Layout) (kind : ConKind) → is_placeholder_kind (laid_out l kind) ≡ is_placeholder_kind kind
laid_placeholder l (Split layout last) = refl
laid_placeholder l (Window props owner natural) = refl
laid_placeholder l (Placeholder props swallows) = refl

titled_placeholder : (t : List ℕ) (kind : ConKind) → is_placeholder_kind (titled t kind) ≡ is_placeholder_kind kind
titled_placeholder t (Split layout last) = refl
titled_placeholder t (Window props owner natural) = refl
titled_placeholder t (Placeholder props swallows) = refl

unfull_placeholders : (kind : NodeKind) → placeholders (unfull_kind kind) ≡ placeholders kind
unfull_placeholders (Root c) = refl
unfull_placeholders (Output o) = refl
unfull_placeholders (Space s) = refl
unfull_placeholders (Con c) = refl

placed_placeholders : (share : ℕ) (rect : Option Rect) (kind : NodeKind) → placeholders (placed share rect kind) ≡ placeholders kind
placed_placeholders share rect (Root c) = refl
placed_placeholders share rect (Output o) = refl
placed_placeholders share rect (Space s) = refl
placed_placeholders share rect (Con c) = refl

changed_placeholders : (edit : KindEdit) (kind : NodeKind) → is_fill edit ≡ false → placeholders (changed edit kind) ≡ placeholders kind
changed_placeholders (edits.Layout l) (Con c) h = ap (λ b. cond {A = ℕ} b 1 0) (laid_placeholder l c.kind)
changed_placeholders (edits.Title t) (Con c) h = ap (λ b. cond {A = ℕ} b 1 0) (titled_placeholder t c.kind)
changed_placeholders (edits.Fill props owner natural) kind h = cc
changed_placeholders other (Root c) h = refl
changed_placeholders other (Output o) h = refl
changed_placeholders other (Space s) h = refl
changed_placeholders other (Con c) h = refl

placeholders_kept : IsKept placeholders
placeholders_kept = record { unfulled = unfull_placeholders; put = placed_placeholders; edited = changed_placeholders; root = λ c. refl }

-- ---- what is counted is what is found

module _ (w : NodeKind → ℕ) (test : Option ConPart → Bool) (told : (kind : NodeKind) → w kind ≡ cond (test (con_kind kind)) 1 0) (none : test None ≡ false) (v : ConId) where
  one_most : (b : Bool) → cond {A = ℕ} b 1 0 ≤ 1
  one_most true = omega arith
  one_most false = omega arith

  by_id : (b : Bool) (n : ℕ) → n ≤ 1 → cond b n 0 ≤ cond b 1 0
  by_id true n h = h
  by_id false n h = omega arith

  part_one : (p : Part) → kinds_at w v p ≤ one_of v p
  part_one p = by_id (same p.id v) (w p.kind) (omega (arith, told p.kind, one_most (test (con_kind p.kind))))

  kinds_tallied : (f : Forest) → count (kinds_at w v) f ≤ tally v f
  kinds_tallied end = omega arith
  kinds_tallied (con part kids floats rest) = omega (arith, part_one part, kinds_tallied kids, kinds_tallied floats, kinds_tallied rest)

  abbrev one_if : Forest → ℕ
  one_if f = cond (test (kind_by con_kind (first_part f))) 1 0

  seen_at : (f : Forest) → IsAt v f → tally v f ≤ 1 → count (kinds_at w v) f ≡ one_if f
  seen_at end h once = absurd h
  seen_at (con part kids floats rest) h once =
      let here : kinds_at w v part ≡ w part.kind = ap (λ b. cond b (w part.kind) 0) h.0 in
      let is : one_of v part ≡ 1 = ap (λ b. cond {A = ℕ} b 1 0) h.0 in
      omega (arith, here, is, once, told part.kind, kinds_tallied kids, kinds_tallied floats, kinds_tallied rest)

  -- where an id is there at most once, what has it is counted as it is looked up
  pub kinds_seen : (f : Forest) → tally v f ≤ 1 → count (kinds_at w v) f ≡ one_if (only v f)
  kinds_seen f once = by_test (has v f) refl
    where
      by_test : (b : Bool) → has v f ≡ b → count (kinds_at w v) f ≡ one_if (only v f)
      by_test true e =
          let all : tally v (without v f) + tally v (only v f) ≡ tally v f = count-without (one_of v) v f in
          let seen : count (kinds_at w v) (only v f) ≡ one_if (only v f) = seen_at (only v f) (found_at v f e) (omega (arith, all, once)) in
          omega (arith, seen, once, all, found_counted v f e, kinds_tallied (without v f), count-without (kinds_at w v) v f)
      by_test false e =
          let zero : one_if (only v f) ≡ 0 = ap one_if (only_absent v f e) ∙ ap (λ b. cond {A = ℕ} b 1 0) none in
          omega (arith, zero, kinds_tallied f, tally-absent v f e)

placeholder_told : (kind : NodeKind) → placeholders kind ≡ cond (is_placeholder_part (con_kind kind)) 1 0
placeholder_told (Root c) = refl
placeholder_told (Output o) = refl
placeholder_told (Space s) = refl
placeholder_told (Con c) = refl

-- in a sound tree a placeholder is counted once, and what is no placeholder not at all
pub placeholders_seen : (t : TreeValue) (v : ConId) → IsSound t → placeholders_at v t ≡ cond (is_placeholder_of t v) 1 0
placeholders_seen t v s = kinds_seen placeholders is_placeholder_part placeholder_told refl v t.nodes (s.once v)

-- ---- steps after which no other id may open

pub opens_kept : (t new : TreeValue) → Kept t new → OpensNoOther t new
opens_kept t now k = record {
  next = k.next;
  fewer = λ v below. (k.fewer (kinds_at placeholders v) (kinds_measured placeholders v placeholders_kept)).fewer (kinds_fresh placeholders v t.next_id below);
}

pub opens_refl : (t : TreeValue) → OpensNoOther t t
opens_refl t = record { next = omega arith; fewer = λ v below. omega arith }

pub opens_trans : (t mid new : TreeValue) → OpensNoOther t mid → OpensNoOther mid new → OpensNoOther t new
opens_trans t mid now a b = record { next = omega (arith, a.next, b.next); fewer = λ v below. omega (arith, a.fewer v below, b.fewer v (omega (arith, below, a.next))) }

pub opens_outcome : (env : Env) (verdict : Verdict) (subject : Option ConId) (t : TreeValue) → OpensNoOther t (outcome env verdict subject t).tree
opens_outcome env verdict subject t = opens_kept t (outcome env verdict subject t).tree (kept_outcome env verdict subject t)

pub opens_settled : (t : TreeValue) → OpensNoOther t (settled t)
opens_settled t = opens_kept t (settled t) (kept_settled t)

pub opens_raised : (c : ConId) (t : TreeValue) → OpensNoOther t (with_raised c t)
opens_raised c t = opens_kept t (with_raised c t) (kept_raised c t)

pub opens_detached : (c : ConId) (t : TreeValue) → OpensNoOther t (detached c t)
opens_detached c t = opens_kept t (detached c t) (kept_detached c t)

pub opens_added : (plan : OutputPlan) (t : TreeValue) → OpensNoOther t (output_added_tree plan t)
opens_added plan t = opens_kept t (output_added_tree plan t) (kept_with_output plan (free_name t) t)

pub opens_removed : (name : List ℕ) (t : TreeValue) → OpensNoOther t (output_removed_tree name t)
opens_removed name t = opens_kept t (output_removed_tree name t) (kept_output_removed name t)

nothing_by : (b : Bool) → cond {A = ℕ} b 0 0 ≡ 0
nothing_by true = refl
nothing_by false = refl

-- a new window is no placeholder
pub mapping_keeps_placeholders : (p : Place) (who : ℕ) (props : Props) (natural : Size) (t : TreeValue) (v : ConId) → placeholders_at v (attached p (new.Window props who natural) t) ≡ placeholders_at v t
mapping_keeps_placeholders p who props natural t v =
    let part : Part = new_part (id t.next_id) (share_at p t.nodes) t.border (rect_at p) (new.Window props who natural) in
    put_none (placeholder_at v) p (con part end end end) t.nodes (omega (arith, nothing_by (same (id t.next_id) v)))

pub opens_mapped : (p : Place) (who : ℕ) (props : Props) (natural : Size) (t : TreeValue) → OpensNoOther t (attached p (new.Window props who natural) t)
opens_mapped p who props natural t = record { next = omega arith; fewer = λ v below. omega (arith, mapping_keeps_placeholders p who props natural t v) }

filled_fewer : (props : Props) (owner : ℕ) (natural : Size) (kind : ConKind) → cond (is_placeholder_kind (filled props owner natural kind)) 1 0 ≤ cond (is_placeholder_kind kind) 1 0
filled_fewer props owner natural (Split layout last) = omega arith
filled_fewer props owner natural (Window p o n) = omega arith
filled_fewer props owner natural (Placeholder p swallows) = omega arith

-- a change makes no placeholder
changed_fewer : (edit : KindEdit) (kind : NodeKind) → placeholders (changed edit kind) ≤ placeholders kind
changed_fewer (edits.Fill props owner natural) (Root c) = omega arith
changed_fewer (edits.Fill props owner natural) (Output o) = omega arith
changed_fewer (edits.Fill props owner natural) (Space s) = omega arith
changed_fewer (edits.Fill props owner natural) (Con c) = filled_fewer props owner natural c.kind
changed_fewer other kind = let e : placeholders (changed other kind) ≡ placeholders kind = changed_placeholders other kind refl in omega (arith, e)

most_by_id : (b : Bool) (m n : ℕ) → m ≤ n → cond b m 0 ≤ cond b n 0
most_by_id true m n h = h
most_by_id false m n h = omega arith

edits_fewer : (v c : ConId) (edit : KindEdit) (f : Forest) → count (placeholder_at v) (at c kind_changed edit f) ≤ count (placeholder_at v) f
edits_fewer v c edit =
    by_change c kind_changed edit (λ old now found. count (placeholder_at v) now ≤ count (placeholder_at v) old) (omega arith)
    (λ part kids floats rest. omega (arith, most_by_id (same part.id v) (placeholders (changed edit part.kind)) (placeholders part.kind) (changed_fewer edit part.kind)))
    (λ part kids floats rest now found h. omega (arith, h))
    (λ part kids floats rest now found h. omega (arith, h))
    (λ part kids floats rest now found h. omega (arith, h))

pub opens_edited : (c : ConId) (edit : KindEdit) (t : TreeValue) → OpensNoOther t (edited c edit t)
opens_edited c edit t = record { next = omega arith; fewer = λ v below. edits_fewer v c edit t.nodes }

-- ---- what may open

or_last : (a b : Bool) → b ≡ true → (a || b) ≡ true
or_last true b h = refl
or_last false b h = h

or_first : (a b : Bool) → a ≡ true → (a || b) ≡ true
or_first true b h = refl
or_first false b h = cc

not_last : (a b : Bool) → (a || b) ≡ true → b ≡ false → a ≡ true
not_last true b h e = refl
not_last false true h e = cc
not_last false false h e = h

counted_true : (a b : Bool) → cond {A = ℕ} a 1 0 ≤ cond b 1 0 → a ≡ true → b ≡ true
counted_true a true le e = refl
counted_true true false le e = absurd (omega (arith, le))
counted_true false false le e = e

-- after a step that lets no other id open, an id may open only if it might before
pub no_other_may_open : (t new : TreeValue) (v : ConId) → IsSound t → IsSound new → OpensNoOther t new → may_open new v ≡ true → may_open t v ≡ true
no_other_may_open t now v s r o h = by (leb t.next_id v.0) refl
  where
    by : (b : Bool) → leb t.next_id v.0 ≡ b → may_open t v ≡ true
    by true e = or_last (is_placeholder_of t v) (leb t.next_id v.0) e
    by false e =
        let below : v.0 < t.next_id = grind (arith, nat_tests) in
        let next : t.next_id ≤ now.next_id = o.next in
        let still : v.0 < now.next_id = omega (arith, below, next) in
        let given : leb now.next_id v.0 ≡ false = grind (arith, nat_tests) in
        let there : is_placeholder_of now v ≡ true = not_last (is_placeholder_of now v) (leb now.next_id v.0) h given in
        let was : is_placeholder_of t v ≡ true = counted_true (is_placeholder_of now v) (is_placeholder_of t v) (omega (arith, o.fewer v below, placeholders_seen t v s, placeholders_seen now v r)) there in
        or_first (is_placeholder_of t v) (leb t.next_id v.0) was

neither_is : (a b : Bool) → (a ≡ true → b ≡ true) → b ≡ false → a ≡ false
neither_is true b h e = let t : b ≡ true = h refl in cc
neither_is false b h e = refl

-- what may not open may not open later
pub never_opens : (t new : TreeValue) (v : ConId) → IsSound t → IsSound new → OpensNoOther t new → may_open t v ≡ false → may_open new v ≡ false
never_opens t now v s r o h = neither_is (may_open now v) (may_open t v) (no_other_may_open t now v s r o) h

kind_apart : (kind : ConKind) → is_window_kind kind ≡ true → is_placeholder_kind kind ≡ false
kind_apart (Split layout last) h = refl
kind_apart (Window props owner natural) h = refl
kind_apart (Placeholder props swallows) h = cc

part_apart : (part : Option ConPart) → is_window_part part ≡ true → is_placeholder_part part ≡ false
part_apart None h = refl
part_apart (Some p) h = kind_apart p.kind h

-- an id that was given and is no placeholder's may not open
pub given_may_not_open : (t : TreeValue) (v : ConId) → v.0 < t.next_id → is_placeholder_of t v ≡ false → may_open t v ≡ false
given_may_not_open t v below none = let given : leb t.next_id v.0 ≡ false = grind (arith, nat_tests) in rw (none, given) refl

-- a node that is counted has an id that was given
pub counted_is_given : (t : TreeValue) (v : ConId) → IsSound t → 1 ≤ tally v t.nodes → v.0 < t.next_id
counted_is_given t v s h = by (leb t.next_id v.0) refl
  where
    by : (b : Bool) → leb t.next_id v.0 ≡ b → v.0 < t.next_id
    by true e = let above : t.next_id ≤ v.0 = grind (arith, nat_tests) in absurd (omega (arith, s.fresh v above, h))
    by false e = grind (arith, nat_tests)

-- what is a window may not open
pub window_may_not_open : (t : TreeValue) (v : ConId) → IsSound t → is_window_of t v ≡ true → may_open t v ≡ false
window_may_not_open t v s h = given_may_not_open t v (counted_is_given t v s there) (part_apart (kind_of con_kind v t.nodes) h)
  where
    there : 1 ≤ tally v t.nodes
    there = let one : windows_at v t ≡ 1 = windows_seen t v s ∙ ap (λ b. cond {A = ℕ} b 1 0) h in omega (arith, one, windows_tallied v t.nodes)

pub never_again : (t new : TreeValue) (v : ConId) → IsSound t → IsSound new → is_window_of t v ≡ true → OpensNoOther t new → may_open new v ≡ false
never_again t now v s r h o = never_opens t now v s r o (window_may_not_open t v s h)

-- ---- placeholders of sound trees

-- one that is counted is found
pub placeholder_found : (t : TreeValue) (v : ConId) → IsSound t → 1 ≤ placeholders_at v t → is_placeholder_of t v ≡ true
placeholder_found t v s h = found (is_placeholder_of t v) (omega (arith, h, placeholders_seen t v s))
  where
    found : (b : Bool) → 1 ≤ cond {A = ℕ} b 1 0 → b ≡ true
    found true h = refl
    found false h = absurd (omega (arith, h))

pub no_placeholder : (t : TreeValue) (v : ConId) → IsSound t → placeholders_at v t ≡ 0 → is_placeholder_of t v ≡ false
no_placeholder t v s h = none (is_placeholder_of t v) (omega (arith, h, placeholders_seen t v s))
  where
    none : (b : Bool) → cond {A = ℕ} b 1 0 ≡ 0 → b ≡ false
    none true h = absurd (omega (arith, h))
    none false h = refl

pub may_open_placeholder : (t : TreeValue) (v : ConId) → is_placeholder_of t v ≡ true → may_open t v ≡ true
may_open_placeholder t v h = or_first (is_placeholder_of t v) (leb t.next_id v.0) h

pub placeholder_is_given : (t : TreeValue) (v : ConId) → IsSound t → is_placeholder_of t v ≡ true → v.0 < t.next_id
placeholder_is_given t v s h = counted_is_given t v s there
  where
    there : 1 ≤ tally v t.nodes
    there =
        let one : placeholders_at v t ≡ 1 = placeholders_seen t v s ∙ ap (λ b. cond {A = ℕ} b 1 0) h in
        omega (arith, one, kinds_tallied placeholders is_placeholder_part placeholder_told refl v t.nodes)
