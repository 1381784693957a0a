-- Raising a container keeps its part and where it stands.
use Rattle.std.proofs.Common.{◌≡◌, ◌+◌, ◌≤◌, Bool, true, false, cond, ◌||◌, Option, None, Some, refl, ap, sym, ◌∙◌, arith}
use Rattle.law_layouts.proofs.NodeChanges.{SameSort}
use Rattle.wm_base.specs.declared.ids.ConId.{ConId}
use Rattle.wm_forest.proofs.CountLemmas.{counted}
use Rattle.wm_forest.proofs.LookLemmas.{none_of_four}
use Rattle.wm_forest.specs.Change.{append, at, raised_at, raised_in, to_end, unfull, unfull_kind}
use Rattle.wm_forest.specs.Counts.{but}
use Rattle.wm_forest.specs.declared.part.NodeKind.{NodeKind}
use Rattle.wm_forest.specs.declared.part.NodeKind.TheVariants.{Root, Output, Space, Con}
use Rattle.wm_forest.specs.declared.part.Part.{Part}
use Rattle.wm_forest.specs.declared.spot.Spot.{Spot}
use Rattle.wm_forest.specs.Forest.{Forest, end, con}
use Rattle.wm_forest.specs.Look.{first_alone, first_part, has, in_row, node_in, only, same}
use Rattle.wm_forest.specs.SoundRow.{one_of, tally}
use Rattle.wm_forest.specs.Spot.{spot_below, spot_in, spot_of, top}
use Rattle.wm_shared.proofs.DownLemmas.{none}
use Rattle.wm_tree.proofs.AttachLemmas.{has_row}
use Rattle.wm_tree.specs.Sound.{IsSound}
use Rattle.wm_tree.specs.TreeValue.{TreeValue, workspace_of}
use Rattle.wm_tree.specs.Words.{with_raised}

-- c looks in the new row as in the old one
pub record Looks (c : ConId) (s : Spot) (old new : Forest) : Type 0 where
  pub there : has c new ≡ has c old
  pub part : first_part (only c new) ≡ first_part (only c old)
  pub spot : spot_in s c new ≡ spot_in s c old

pub same_looks : (c : ConId) (s : Spot) (f : Forest) → Looks c s f f
same_looks c s f = record { there = refl; part = refl; spot = refl }

module _ (c : ConId) where
  -- a node of other rows that look so
  pub node_looks : (s : Spot) (part : Part) (kids floats rest newkids newfloats newrest : Forest) → Looks c (spot_below true s part) kids newkids → Looks c (spot_below false s part) floats newfloats → Looks c s rest newrest
      → Looks c s (con part kids floats rest) (con part newkids newfloats newrest)
  node_looks s part kids floats rest newkids newfloats newrest u v w = record {
    there = rw (u.there, v.there, w.there) refl;
    part = rw (u.there, v.there) (by_part (same part.id c) (has c kids) (has c floats));
    spot = rw (u.there, v.there, u.spot, v.spot, w.spot) refl;
  }
    where
      by_part : (a k l : Bool) → first_part (cond a (con part newkids newfloats end) (cond k (only c newkids) (cond l (only c newfloats) (only c newrest)))) ≡ first_part (cond a (con part kids floats end) (cond k (only c kids) (cond l (only c floats) (only c rest))))
      by_part true k l = refl
      by_part false true l = u.part
      by_part false false true = v.part
      by_part false false false = w.part

  -- ---- without fullscreen

  unfull_sort : (k : NodeKind) → SameSort k (unfull_kind k)
  unfull_sort (Root d) = record { spaces = refl; cons = refl; space = λ w id. refl; holder = λ b id. refl; room = λ n. refl }
  unfull_sort (Output o) = record { spaces = refl; cons = refl; space = λ w id. refl; holder = λ b id. refl; room = λ n. refl }
  unfull_sort (Space s) = record { spaces = refl; cons = refl; space = λ w id. refl; holder = λ b id. refl; room = λ n. refl }
  unfull_sort (Con d) = record { spaces = refl; cons = refl; space = λ w id. refl; holder = λ b id. refl; room = λ n. refl }

  plain_below : (b : Bool) (s : Spot) (part : Part) → spot_below b s (record part { kind = unfull_kind part.kind }) ≡ spot_below b s part
  plain_below b s part = let e = unfull_sort part.kind in rw (e.space s.space part.id, e.holder b part.id, e.room s.room) refl

  plain_looks : (s : Spot) (part : Part) (kids floats rest : Forest) → same part.id c ≡ false → Looks c s (con part kids floats rest) (con (record part { kind = unfull_kind part.kind }) kids floats rest)
  plain_looks s part kids floats rest e = record { there = refl; part = rw e refl; spot = rw (e, plain_below true s part, plain_below false s part) refl }

  looks_trans : (s : Spot) (f g h : Forest) → Looks c s f g → Looks c s g h → Looks c s f h
  looks_trans s f g h p q = record { there = q.there ∙ p.there; part = q.part ∙ p.part; spot = q.spot ∙ p.spot }

  pub unfull_looks : (s : Spot) (f : Forest) → Looks c s f (unfull c f)
  unfull_looks s end = same_looks c s end
  unfull_looks s (con part kids floats rest) =
      step (same part.id c) refl (node_looks s part kids floats rest (unfull c kids) (unfull c floats) (unfull c rest) (unfull_looks (spot_below true s part) kids) (unfull_looks (spot_below false s part) floats) (unfull_looks s rest))
    where
      step : (a : Bool) → same part.id c ≡ a → Looks c s (con part kids floats rest) (con part (unfull c kids) (unfull c floats) (unfull c rest))
          → Looks c s (con part kids floats rest) (con (cond a part (record part { kind = unfull_kind part.kind })) (unfull c kids) (unfull c floats) (unfull c rest))
      step true e inner = inner
      step false e inner =
          looks_trans s (con part kids floats rest) (con part (unfull c kids) (unfull c floats) (unfull c rest)) (con (record part { kind = unfull_kind part.kind }) (unfull c kids) (unfull c floats) (unfull c rest)) inner
          (plain_looks s part (unfull c kids) (unfull c floats) (unfull c rest) e)

  -- ---- last in its row

  append_last : (s : Spot) (f : Forest) (q : Part) (a b : Forest) → same q.id c ≡ true → has c f ≡ false
      → (has c (append f (con q a b end)) ≡ true) × (first_part (only c (append f (con q a b end))) ≡ Some q) × (spot_in s c (append f (con q a b end)) ≡ Some (spot_of s q))
  append_last s end q a b own h = (rw own refl, rw own refl, rw own refl)
  append_last s (con part kids floats rest) q a b own h =
      let n = none_of_four (same part.id c) (has c kids) (has c floats) (has c rest) h in
      let r = append_last s rest q a b own n.3 in
      (rw (n.0, n.1, n.2) r.0, rw (n.0, n.1, n.2) r.1, rw (n.0, n.1, n.2) r.2)

  -- one of the row itself
  record Stands (s : Spot) (row : Forest) : Type 0 where
    part : Part
    kids : Forest
    floats : Forest
    own : same part.id c ≡ true
    alone : first_alone (node_in c row) ≡ con part kids floats end
    others : has c (but c row) ≡ false
    found : first_part (only c row) ≡ Some part
    spot : spot_in s c row ≡ Some (spot_of s part)

  further : (s : Spot) (part : Part) (kids floats rest : Forest) → same part.id c ≡ false → has c kids ≡ false → has c floats ≡ false → Stands s rest → Stands s (con part kids floats rest)
  further s part kids floats rest e no_kids no_floats r =
      record { part = r.part; kids = r.kids; floats = r.floats; own = r.own; alone = rw e r.alone; others = rw (e, no_kids, no_floats, e) r.others; found = rw (e, no_kids, no_floats) r.found; spot = rw (e, no_kids, no_floats) r.spot }

  in_row_stands : (s : Spot) (row : Forest) → tally c row ≤ 1 → in_row c row ≡ true → Stands s row
  in_row_stands s end once h = cc
  in_row_stands s (con part kids floats rest) once h = step (same part.id c) refl h (in_row_stands s rest)
    where
      step : (a : Bool) → same part.id c ≡ a → (a || in_row c rest) ≡ true → (tally c rest ≤ 1 → in_row c rest ≡ true → Stands s rest) → Stands s (con part kids floats rest)
      step true e h u =
          let much : 1 + tally c kids + tally c floats + tally c rest ≤ 1 = rw e at once in
          record { part = part; kids = kids; floats = floats; own = e; alone = rw e refl; others = rw e (none c rest (omega (arith, much))); found = rw e refl; spot = rw e refl }
      step false e h u =
          let there = counted c rest (has_row c rest h) in
          further s part kids floats rest e (none c kids (omega (arith, once, there))) (none c floats (omega (arith, once, there))) (u (omega (arith, once)) h)

  pub end_looks : (s : Spot) (row : Forest) → tally c row ≤ 1 → Looks c s row (to_end c row)
  end_looks s row once = step (in_row c row) refl
    where
      step : (b : Bool) → in_row c row ≡ b → Looks c s row (cond b (append (but c row) (first_alone (node_in c row))) row)
      step false e = same_looks c s row
      step true e =
          let k = in_row_stands s row once e in
          let r = append_last s (but c row) k.part k.kids k.floats k.own k.others in
          record { there = ap (λ z. has c (append (but c row) z)) k.alone ∙ (r.0 ∙ sym (has_row c row e)); part = ap (λ z. first_part (only c (append (but c row) z))) k.alone ∙ (r.1 ∙ sym k.found); spot = ap (λ z. spot_in s c (append (but c row) z)) k.alone ∙ (r.2 ∙ sym k.spot) }

  -- ---- raised

  pub unfull_tally : (f : Forest) → tally c (unfull c f) ≡ tally c f
  unfull_tally end = refl
  unfull_tally (con part kids floats rest) = rw (unfull_tally kids, unfull_tally floats, unfull_tally rest) (step (same part.id c))
    where
      step : (a : Bool) → one_of c (cond a part (record part { kind = unfull_kind part.kind })) + tally c kids + tally c floats + tally c rest ≡ one_of c part + tally c kids + tally c floats + tally c rest
      step true = refl
      step false = refl

  raised_looks : (w : ConId) (s : Spot) (f : Forest) → tally c f ≤ 1 → Looks c s f (at w raised_in c f)
  raised_looks w s end once = same_looks c s end
  raised_looks w s (con part kids floats rest) once =
      step (same part.id w) (has w kids) (has w floats) (raised_looks w (spot_below true s part) kids (omega (arith, once))) (raised_looks w (spot_below false s part) floats (omega (arith, once))) (raised_looks w s rest (omega (arith, once)))
    where
      few : tally c (unfull c floats) ≤ 1
      few = omega (arith, once, unfull_tally floats)

      step : (a k l : Bool) → Looks c (spot_below true s part) kids (at w raised_in c kids) → Looks c (spot_below false s part) floats (at w raised_in c floats) → Looks c s rest (at w raised_in c rest)
          → Looks c s (con part kids floats rest) (cond a (raised_in c part kids floats rest) (cond k (con part (at w raised_in c kids) floats rest) (cond l (con part kids (at w raised_in c floats) rest) (con part kids floats (at w raised_in c rest)))))
      step true k l u v z =
          node_looks s part kids floats rest (unfull c kids) (to_end c (unfull c floats)) rest (unfull_looks (spot_below true s part) kids)
          (looks_trans (spot_below false s part) floats (unfull c floats) (to_end c (unfull c floats)) (unfull_looks (spot_below false s part) floats) (end_looks (spot_below false s part) (unfull c floats) few)) (same_looks c s rest)
      step false true l u v z = node_looks s part kids floats rest (at w raised_in c kids) floats rest u (same_looks c (spot_below false s part) floats) (same_looks c s rest)
      step false false true u v z = node_looks s part kids floats rest kids (at w raised_in c floats) rest (same_looks c (spot_below true s part) kids) v (same_looks c s rest)
      step false false false u v z = node_looks s part kids floats rest kids floats (at w raised_in c rest) (same_looks c (spot_below true s part) kids) (same_looks c (spot_below false s part) floats) z

-- in a sound tree
pub tree_raised : (c : ConId) (t : TreeValue) → IsSound t → Looks c top t.nodes (with_raised c t).nodes
tree_raised c t s = by (workspace_of t c)
  where
    by : (w : Option ConId) → Looks c top t.nodes (raised_at c w t.nodes)
    by None = same_looks c top t.nodes
    by (Some w) = raised_looks c w top t.nodes (s.once c)
