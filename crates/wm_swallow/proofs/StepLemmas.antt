-- What one step of appending makes of what is seen of the nodes.
use Rattle.std.proofs.Common.{◌≡◌, ◌≢◌, ◌⊎◌, eqb, ◌+◌, ◌-◌, ◌≤◌, ◌<◌, ℕ, Bool, true, false, cond, List, [], ◌∷◌, Option, Some, None, refl, ◌∙◌, ap, inl, inr, arith}
use Rattle.std.specs.Prelude.{option_map}
use Rattle.std.proofs.lemmas.Bool.Decides.{eqb_tells}
use Rattle.wm_base.specs.declared.ids.ConId.{ConId}
use Rattle.wm_base.specs.declared.plan.Border.{Border}
use Rattle.wm_focus.specs.Marks.{given_mark, taken_off}
use Rattle.wm_forest.specs.declared.kind.KindEdit.TheVariants as edits
use Rattle.wm_forest.specs.declared.part.ConState.{ConState}
use Rattle.wm_forest.specs.declared.part.NodeKind.{NodeKind}
use Rattle.wm_forest.specs.declared.part.NodeKind.TheVariants.{Root, Output, Space, Con}
use Rattle.wm_forest.specs.declared.part.Part.{Part}
use Rattle.wm_forest.specs.declared.place.NewCon.{NewCon}
use Rattle.wm_forest.specs.declared.place.Place.TheVariants.{Last}
use Rattle.wm_forest.specs.Change.{at, is_id, is_split}
use Rattle.wm_forest.specs.Counts.{con_count, con_of}
use Rattle.wm_forest.specs.Forest.{Forest, end, con}
use Rattle.wm_forest.specs.Kinds.{changed, kind_changed}
use Rattle.wm_forest.specs.Look.{has, same}
use Rattle.wm_forest.specs.Marks.{marks_word, other_marks}
use Rattle.wm_forest.specs.Place.{new_kind, new_part, share_at}
use Rattle.wm_forest.specs.RootId.{id}
use Rattle.wm_forest.specs.SoundRow.{one_of, tally}
use Rattle.wm_forest.specs.Spot.{top}
use Rattle.wm_forest.proofs.ChangeLemmas.{by_change}
use Rattle.wm_forest.proofs.CountLemmas.{count-put, tally-absent}
use Rattle.wm_forest.proofs.RecencyLemmas.{same_self}
use Rattle.wm_swallow.specs.Appending.{come, come_marked, given_marks, state_with}
use Rattle.wm_swallow.proofs.GrowLemmas.{has_grown, standing_new, standing_other, standing_own}
use Rattle.wm_swallow.proofs.StandLemmas.{Alike, Standing, alike_cons, alike_has, alike_standing, alike_tally, plain, plain_kind, seen, standing}
use Rattle.wm_tree.specs.TreeValue.{TreeValue}
use Rattle.wm_tree.specs.Words.{attached}

-- no node has the next id or one above it
abbrev pub Fresh : TreeValue → Type 0
Fresh t = (v : ConId) → t.next_id ≤ v.0 → has v t.nodes ≡ false

-- ---- what leaves all nodes as they are seen

-- another state
state_plain : (s : ConState) (kind : NodeKind) → plain_kind (changed (edits.State s) kind) ≡ plain_kind kind
state_plain s (Root c) = refl
state_plain s (Output o) = refl
state_plain s (Space w) = refl
state_plain s (Con c) = refl

pub alike_state : (c : ConId) (s : ConState) (f : Forest) → Alike f (at c kind_changed (edits.State s) f)
alike_state c s =
    by_change c kind_changed (edits.State s) (λ old new found. Alike old new) refl
    (λ part kids floats rest. ap (λ k. con (record { id = part.id; kind = k; marks = [] }) (plain kids) (plain floats) (plain rest)) (state_plain s part.kind))
    (λ part kids floats rest new found h. ap (λ z. con (record { id = part.id; kind = plain_kind part.kind; marks = [] }) z (plain floats) (plain rest)) h)
    (λ part kids floats rest new found h. ap (λ z. con (record { id = part.id; kind = plain_kind part.kind; marks = [] }) (plain kids) z (plain rest)) h)
    (λ part kids floats rest new found h. ap (λ z. con (record { id = part.id; kind = plain_kind part.kind; marks = [] }) (plain kids) (plain floats) z) h)

-- other marks
alike_word : (c : ConId) (ms : List (List ℕ)) (f : Forest) → Alike f (at c marks_word ms f)
alike_word c ms =
    by_change c marks_word ms (λ old new found. Alike old new) refl
    (λ part kids floats rest. refl)
    (λ part kids floats rest new found h. ap (λ z. con (record { id = part.id; kind = plain_kind part.kind; marks = [] }) z (plain floats) (plain rest)) h)
    (λ part kids floats rest new found h. ap (λ z. con (record { id = part.id; kind = plain_kind part.kind; marks = [] }) (plain kids) z (plain rest)) h)
    (λ part kids floats rest new found h. ap (λ z. con (record { id = part.id; kind = plain_kind part.kind; marks = [] }) (plain kids) (plain floats) z) h)

alike_off : (keep : Option ConId) (m : List ℕ) (f : Forest) → Alike f (taken_off keep m f)
alike_off keep m end = refl
alike_off keep m (con part kids floats rest) = by (is_id part.id keep) (alike_off keep m kids) (alike_off keep m floats) (alike_off keep m rest)
  where
    by : (b : Bool) → Alike kids (taken_off keep m kids) → Alike floats (taken_off keep m floats) → Alike rest (taken_off keep m rest)
        → plain (con (cond b part (record part { marks = other_marks m part.marks })) (taken_off keep m kids) (taken_off keep m floats) (taken_off keep m rest)) ≡ plain (con part kids floats rest)
    by true x y z = rw (x, y, z) refl
    by false x y z = rw (x, y, z) refl

pub alike_mark : (c : ConId) (m : List ℕ) (t : TreeValue) → Alike t.nodes (given_mark c m true t).nodes
alike_mark c m t = alike_off (Some c) m _ ∙ alike_word c _ t.nodes

pub alike_marks : (c : ConId) (ms : List (List ℕ)) (t : TreeValue) → Alike t.nodes (given_marks c ms t).nodes
alike_marks c [] t = refl
alike_marks c (m ∷ ms) t = alike_marks c ms (given_mark c m true t) ∙ alike_mark c m t

pub next_marks : (c : ConId) (ms : List (List ℕ)) (t : TreeValue) → (given_marks c ms t).next_id ≡ t.next_id
next_marks c [] t = refl
next_marks c (m ∷ ms) t = next_marks c ms (given_mark c m true t)

-- ---- a container that comes

-- a new container, as it is seen
abbrev pub newcomer_standing : NewCon → ℕ → Standing
newcomer_standing newcomer n = record { takes = is_split (new_kind newcomer); is_con = true; kids = 0; levels = n - 1 }

-- the tree after a container came last in p, which was seen so
pub record Came (p : ConId) (newcomer : NewCon) (t : TreeValue) (s : Standing) (after : TreeValue) : Type 0 where
  pub next : after.next_id ≡ t.next_id + 1
  pub fresh : Fresh after
  pub cons : con_count after.nodes ≡ con_count t.nodes + 1
  pub once : tally (id t.next_id) after.nodes ≤ 1
  pub own : standing 0 p after.nodes ≡ Some (record s { kids = s.kids + 1 })
  pub newcomer_is : standing 0 (id t.next_id) after.nodes ≡ Some (newcomer_standing newcomer s.levels)
  pub others : (q : ConId) → q.0 < t.next_id → same p q ≡ false → standing 0 q after.nodes ≡ standing 0 q t.nodes

-- ids of which one is lower differ
apart : (a b : ConId) → (a.0 ≡ b.0 → ⊥) → same a b ≡ false
apart a b h = by (eqb_tells a.0 b.0)
  where
    by : ((eqb a.0 b.0 ≡ true) × (a.0 ≡ b.0)) ⊎ ((eqb a.0 b.0 ≡ false) × (a.0 ≢ b.0)) → same a b ≡ false
    by (inl w) = absurd (h w.1)
    by (inr w) = w.0

pub lower : (a b : ConId) → b.0 < a.0 → same a b ≡ false
lower a b h = apart a b (λ e. omega (arith, h, e))

higher : (a b : ConId) → a.0 + 1 ≤ b.0 → same a b ≡ false
higher a b h = apart a b (λ e. omega (arith, h, e))

came_attached : (p : ConId) (newcomer : NewCon) (t : TreeValue) (s : Standing) → p.0 < t.next_id → Fresh t → standing 0 p t.nodes ≡ Some s → Came p newcomer t s (attached (Last p) newcomer t)
came_attached p newcomer t s low fresh h =
    let c : ConId = id t.next_id in
    let part : Part = new_part c (share_at (Last p) t.nodes) t.border None newcomer in
    let there : has p t.nodes ≡ true = (seen top p t.nodes s h).there in
    let absent : has c t.nodes ≡ false = fresh c (omega arith) in
    record {
      next = refl;
      fresh = λ v above. has_grown p part v (higher c v above) t.nodes ∙ fresh v (omega arith);
      cons = omega (arith, count-put con_of (Last p) (con part end end end) t.nodes there);
      once = omega (arith, count-put (one_of c) (Last p) (con part end end end) t.nodes there, tally-absent c t.nodes absent, own_once c);
      own = standing_own p part (lower c p low) 0 t.nodes ∙ ap (option_map (λ (z : Standing). record z { kids = z.kids + 1 })) h;
      newcomer_is = standing_new p part 0 t.nodes s absent h;
      others = λ q below other. standing_other p part q (lower c q below) 0 t.nodes other;
    }
  where
    own_once : (c : ConId) → cond (same c c) 1 0 + 0 + 0 + 0 ≤ 1
    own_once c = rw (same_self c c refl) (omega arith)

-- a change after which all nodes are seen as before
came_alike : (p : ConId) (newcomer : NewCon) (t : TreeValue) (s : Standing) (new after : TreeValue) → Came p newcomer t s new → Alike new.nodes after.nodes → after.next_id ≡ new.next_id → Came p newcomer t s after
came_alike p newcomer t s new after k a e = record {
  next = e ∙ k.next;
  fresh = λ v above. alike_has new.nodes after.nodes a v ∙ k.fresh v (omega (arith, above, e));
  cons = alike_cons new.nodes after.nodes a ∙ k.cons;
  once = omega (arith, alike_tally new.nodes after.nodes a (id t.next_id), k.once);
  own = alike_standing new.nodes after.nodes a 0 p ∙ k.own;
  newcomer_is = alike_standing new.nodes after.nodes a 0 (id t.next_id) ∙ k.newcomer_is;
  others = λ q below other. alike_standing new.nodes after.nodes a 0 q ∙ k.others q below other;
}

pub came : (p : ConId) (border : Border) (newcomer : NewCon) (t : TreeValue) (s : Standing) → p.0 < t.next_id → Fresh t → standing 0 p t.nodes ≡ Some s → Came p newcomer t s (come p border newcomer t)
came p border newcomer t s low fresh h =
    came_alike p newcomer t s (attached (Last p) newcomer t) (come p border newcomer t) (came_attached p newcomer t s low fresh h) (alike_state (id t.next_id) (state_with border) (attached (Last p) newcomer t).nodes) refl

pub came_with_marks : (p : ConId) (border : Border) (marks : List (List ℕ)) (newcomer : NewCon) (t : TreeValue) (s : Standing) → p.0 < t.next_id → Fresh t → standing 0 p t.nodes ≡ Some s
    → Came p newcomer t s (come_marked p border marks newcomer t)
came_with_marks p border marks newcomer t s low fresh h =
    came_alike p newcomer t s (come p border newcomer t) (come_marked p border marks newcomer t) (came p border newcomer t s low fresh h) (alike_marks (id t.next_id) marks (come p border newcomer t)) (next_marks (id t.next_id) marks (come p border newcomer t))
