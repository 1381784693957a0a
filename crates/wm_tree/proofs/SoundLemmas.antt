-- Each change of a tree keeps what holds of every tree.
use Rattle.std.proofs.Common.{◌≡◌, ◌+◌, ◌≤◌, Bool, true, false, cond, not, List, Option, None, Some, refl, ap, sym, ◌∙◌, subst, arith}
use Rattle.wm_base.specs.declared.ids.ConId.{ConId}
use Rattle.wm_forest.specs.declared.kind.KindEdit.{KindEdit}
use Rattle.wm_forest.specs.declared.part.Part.{Part}
use Rattle.wm_forest.specs.declared.part.NodeKind.{NodeKind}
use Rattle.wm_forest.specs.declared.part.NodeKind.TheVariants.{Root, Output, Space, Con}
use Rattle.wm_forest.specs.Forest.{Forest, end, con}
use Rattle.wm_forest.specs.Change.{at, nobody, without}
use Rattle.wm_forest.specs.Counts.{con_of, count, marks_of, space_of}
use Rattle.wm_forest.specs.Kinds.{kind_changed}
use Rattle.wm_forest.specs.Look.{first_kids, has, only, same}
use Rattle.wm_forest.specs.Recency.{outside}
use Rattle.wm_tree.specs.Sound.{IsSound}
use Rattle.wm_forest.specs.SoundRow.{one_of, rank_of, ranked, ranks, roots, tally, times}
use Rattle.wm_forest.specs.Spot.{spot_in, top}
use Rattle.wm_tree.specs.TreeValue.{TreeValue, parent}
use Rattle.wm_forest.specs.RootId.{root}
use Rattle.wm_tree.specs.Sets.{IsShowable, shown_by, with_shown}
use Rattle.wm_forest.specs.declared.kind.KindEdit.TheVariants as edits
use Rattle.wm_tree.specs.Words.{detached, edited}
use Rattle.wm_forest.proofs.CountLemmas.{count-same, count-without, counted, found_counted, tally-absent, there}
use Rattle.wm_forest.proofs.ForestLemmas.{at_absent}
use Rattle.wm_forest.proofs.EditLemmas.{FitsEditAt, fits_shown, changed_one, changed_ranks, changed_space, sound-changed}
use Rattle.wm_forest.proofs.PutLemmas.{IsConFirst, sound-without}
use Rattle.wm_forest.proofs.TimesLemmas.{times-dropped, times-kept}

-- ---- ranks

ranks_one : (kind : NodeKind) → ranks kind ≤ 1
ranks_one (Root c) = omega arith
ranks_one (Output o) = omega arith
ranks_one (Space w) = omega arith
ranks_one (Con c) = omega arith

rank_part : (c : ConId) (p : Part) → rank_of c p ≤ one_of c p
rank_part c p = by_test (same p.id c)
  where
    by_test : (b : Bool) → cond b (ranks p.kind) 0 ≤ cond b 1 0
    by_test true = ranks_one p.kind
    by_test false = omega arith

-- no more nodes are ranked under an id than have it
pub rank_le : (c : ConId) (f : Forest) → ranked c f ≤ tally c f
rank_le c end = omega arith
rank_le c (con part kids floats rest) = omega (arith, rank_part c part, rank_le c kids, rank_le c floats, rank_le c rest)

-- ---- taking out

-- the ids that are left are as often in the list as they are ranked
known_without : (c i : ConId) (f : Forest) (ids : List ConId) → tally i f ≤ 1 → times i ids ≡ ranked i f → times i (outside (only c f) ids) ≡ ranked i (without c f)
known_without c i f ids once known = by_test (has i (only c f)) refl
  where
    by_test : (b : Bool) → has i (only c f) ≡ b → times i (outside (only c f) ids) ≡ ranked i (without c f)
    by_test true e =
        let gone : times i (outside (only c f) ids) ≡ 0 = times-dropped (λ id. not (has id (only c f))) i ids (ap not e) in
        omega (arith, gone, once, counted i (only c f) e, count-without (one_of i) c f, rank_le i (without c f))
    by_test false e =
        let same_times : times i (outside (only c f) ids) ≡ times i ids = times-kept (λ id. not (has id (only c f))) i ids (ap not e) in
        omega (arith, same_times, known, tally-absent i (only c f) e, rank_le i (only c f), count-without (rank_of i) c f)

pub sound-detached : (c : ConId) (t : TreeValue) → IsConFirst (only c t.nodes) → IsSound t → IsSound (detached c t)
sound-detached c t ok s =
    let g = sound-without c roots top t.nodes ok s.shaped in
    record {
      shaped = g.sound;
      rooted = g.keeps root s.rooted;
      once = λ i. omega (arith, count-without (one_of i) c t.nodes, s.once i);
      fresh = λ i above. omega (arith, count-without (one_of i) c t.nodes, s.fresh i above);
      low = omega (arith, count-without (one_of nobody) c t.nodes, s.low);
      above = s.above;
      known = λ i. known_without c i t.nodes t.recency (s.once i) (s.known i);
      few = omega (arith, count-without con_of c t.nodes, s.few);
      few_spaces = omega (arith, count-without space_of c t.nodes, s.few_spaces);
      few_marks = omega (arith, count-without marks_of c t.nodes, s.few_marks);
      ids = s.ids;
    }

-- an id that was taken out is there no more
pub gone-detached : (c : ConId) (t : TreeValue) → IsSound t → has c (without c t.nodes) ≡ false
gone-detached c t s = by_test (has c t.nodes) (has c (without c t.nodes)) refl refl
  where
    by_test : (a b : Bool) → has c t.nodes ≡ a → has c (without c t.nodes) ≡ b → b ≡ false
    by_test a false e d = refl
    by_test true true e d = absurd (omega (arith, found_counted c t.nodes e, counted c (without c t.nodes) d, count-without (one_of c) c t.nodes, s.once c))
    by_test false true e d = sym d ∙ (ap (has c) (at_absent c (λ row part kids floats rest. rest) end t.nodes e) ∙ e)

-- what is left was there
pub none_new-without : (c : ConId) (f : Forest) (v : ConId) → has v (without c f) ≡ true → has v f ≡ true
none_new-without c f v h = there v f (omega (arith, counted v (without c f) h, count-without (one_of v) c f))

-- ---- changing a node

-- a tree whose nodes count as before
record Alike (old new : Forest) : Type 0 where
  pub ones : (i : ConId) → count (one_of i) new ≡ count (one_of i) old
  pub ranked_as : (i : ConId) → count (rank_of i) new ≡ count (rank_of i) old
  pub cons : count con_of new ≡ count con_of old
  pub spaces : count space_of new ≡ count space_of old

edited_alike : (c : ConId) (edit : KindEdit) (f : Forest) → Alike f (at c kind_changed edit f)
edited_alike c edit f = record {
  ones = λ i. count-same (one_of i) c kind_changed edit (λ part kids floats rest. refl) f;
  ranked_as = λ i. count-same (rank_of i) c kind_changed edit (λ part kids floats rest. ap (λ n. cond (same part.id i) n 0 + count (rank_of i) kids + count (rank_of i) floats + count (rank_of i) rest) (changed_ranks edit part.kind)) f;
  cons = count-same con_of c kind_changed edit (λ part kids floats rest. ap (λ n. n + count con_of kids + count con_of floats + count con_of rest) (changed_one edit part.kind)) f;
  spaces = count-same space_of c kind_changed edit (λ part kids floats rest. ap (λ n. n + count space_of kids + count space_of floats + count space_of rest) (changed_space edit part.kind)) f;
}

pub sound-edited : (c : ConId) (edit : KindEdit) (t : TreeValue) → FitsEditAt edit (spot_in top c t.nodes) (first_kids (only c t.nodes)) → IsSound t → IsSound (edited c edit t)
sound-edited c edit t ok s =
    let g = sound-changed c edit roots top t.nodes ok s.shaped in
    let a = edited_alike c edit t.nodes in
    record {
      shaped = g.sound;
      rooted = g.keeps root s.rooted;
      once = λ i. omega (arith, a.ones i, s.once i);
      fresh = λ i above. omega (arith, a.ones i, s.fresh i above);
      low = omega (arith, a.ones nobody, s.low);
      above = s.above;
      known = λ i. s.known i ∙ sym (a.ranked_as i);
      few = omega (arith, a.cons, s.few);
      few_spaces = omega (arith, a.spaces, s.few_spaces);
      few_marks = omega (arith, count-same marks_of c kind_changed edit (λ part kids floats rest. refl) t.nodes, s.few_marks);
      ids = s.ids;
    }

-- a tree that is one that is sound
pub as_is : (next new : TreeValue) → new ≡ next → IsSound next → IsSound new
as_is next new e s = subst IsSound (sym e) s

-- the same of nodes that are those after taking out
pub none_new_by : (c : ConId) (t : TreeValue) (new : Forest) (v : ConId) → new ≡ without c t.nodes → has v new ≡ true → has v t.nodes ≡ true
none_new_by c t new v e h = none_new-without c t.nodes v (rw e at h)

pub lost_by : (c : ConId) (t : TreeValue) (new : Forest) (i : ConId) → new ≡ without c t.nodes → tally i new + tally i (only c t.nodes) ≡ tally i t.nodes
lost_by c t new i e = rw e (count-without (one_of i) c t.nodes)

pub gone_by : (c : ConId) (t : TreeValue) (new : Forest) → new ≡ without c t.nodes → IsSound t → has c new ≡ false
gone_by c t new e s = rw e (gone-detached c t s)

shown_by_sound : (o : Option ConId) (w : ConId) (t : TreeValue) → IsShowable o w t.nodes → IsSound t → IsSound (shown_by o w t)
shown_by_sound None w t ok s = s
shown_by_sound (Some o) w t ok s = sound-edited o (edits.Shown w) t (fits_shown w (spot_in top o t.nodes) (first_kids (only o t.nodes)) ok) s

pub sound-shown : (w : ConId) (t : TreeValue) → IsShowable (parent t w) w t.nodes → IsSound t → IsSound (with_shown w t)
sound-shown w t ok s = shown_by_sound (parent t w) w t ok s
