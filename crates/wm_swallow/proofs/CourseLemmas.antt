-- Appending a row of saved containers: what is seen afterwards, and that no step of it passes a limit.
use Rattle.std.proofs.Common.{◌≡◌, ℕ, ◌+◌, ◌≤◌, ◌<◌, Bool, true, false, ◌&&◌, List, [], ◌∷◌, ◌++◌, Some, None, append_assoc, refl, sym, ◌∙◌, ap, subst, arith}
use Rattle.std.specs.List.{list_all}
use Rattle.wm_base.specs.declared.ids.ConId.{ConId}
use Rattle.wm_base.specs.declared.plan.Border.{Border}
use Rattle.wm_focus.specs.Marks.{given_mark, is_mark, mark_refusal}
use Rattle.wm_forest.specs.declared.place.NewCon.{NewCon}
use Rattle.wm_forest.specs.declared.place.Place.TheVariants.{Last}
use Rattle.wm_forest.specs.Counts.{con_count, mark_count, marks_of}
use Rattle.wm_forest.specs.Forest.{Forest, end, con}
use Rattle.wm_forest.specs.Look.{has, same}
use Rattle.wm_forest.specs.Place.{new_part, put, share_at}
use Rattle.wm_forest.specs.declared.part.Part.{Part}
use Rattle.wm_forest.specs.declared.kind.KindEdit.{KindEdit}
use Rattle.wm_forest.specs.declared.kind.KindEdit.TheVariants as edits
use Rattle.wm_forest.specs.Change.{at}
use Rattle.wm_forest.specs.Kinds.{kind_changed}
use Rattle.wm_forest.proofs.CountLemmas.{count-put, count-same}
use Rattle.wm_swallow.proofs.FillLemmas.{marks_stay}
use Rattle.wm_swallow.proofs.GrowLemmas.{marks_new}
use Rattle.wm_swallow.proofs.HeldLemmas.{held_come, held_edit, held_is}
use Rattle.wm_swallow.proofs.MarkBudget.{different_same}
use Rattle.wm_tree.specs.Move.{marks_in}
use Rattle.wm_forest.specs.RootId.{id}
use Rattle.wm_forest.specs.SoundRow.{tally}
use Rattle.wm_forest.specs.Spot.{top}
use Rattle.wm_swallow.specs.Appending.{appended, come, come_marked, given_marks, state_with}
use Rattle.wm_swallow.specs.Limits.{is_held}
use Rattle.wm_swallow.specs.SavedRows.{Saved, none, saved, all_marks, row_size, size}
use Rattle.wm_swallow.specs.Steps.{IsRoomFor}
use Rattle.wm_swallow.proofs.GiveLemmas.{HasRoom, HasRoomOf, not_refused, own_room_given, room_given}
use Rattle.wm_swallow.proofs.StandLemmas.{Seen, Standing, alike_standing, alike_tally, seen, standing}
use Rattle.wm_swallow.proofs.StepLemmas.{Came, Fresh, alike_mark, came, came_with_marks, lower, newcomer_standing}
use Rattle.wm_tree.specs.TreeValue.{TreeValue}

-- ---- marks

-- what a container that gets marks is
pub record IsBearer (c : ConId) (t : TreeValue) (s : Standing) : Type 0 where
  pub here : standing 0 c t.nodes ≡ Some s
  pub con : s.is_con ≡ true
  pub once : tally c t.nodes ≤ 1

bearer_given : (c : ConId) (m : List ℕ) (t : TreeValue) (s : Standing) → IsBearer c t s → IsBearer c (given_mark c m true t) s
bearer_given c m t s b = record {
  here = alike_standing t.nodes (given_mark c m true t).nodes (alike_mark c m t) 0 c ∙ b.here;
  con = b.con;
  once = omega (arith, alike_tally t.nodes (given_mark c m true t).nodes (alike_mark c m t) c, b.once);
}

-- where there is room for all that are to come, giving the first of them leaves room for the others
pub room_after : (c : ConId) (t : TreeValue) (s : Standing) → IsBearer c t s → (ms behind : List (List ℕ)) → HasRoom t.nodes (ms ++ behind) → HasRoom (given_marks c ms t).nodes behind
room_after c t s b [] behind room = room
room_after c t s b (m ∷ ms) behind room =
    room_after c (given_mark c m true t) s (bearer_given c m t s b) ms behind (room_given c m t (seen top c t.nodes s b.here).there b.once (ms ++ behind) room)

pub all_fit : (m : List ℕ) (ms : List (List ℕ)) → list_all is_mark (m ∷ ms) ≡ true → (is_mark m ≡ true) × (list_all is_mark ms ≡ true)
all_fit m ms h = by (is_mark m) (list_all is_mark ms) h
  where
    by : (a b : Bool) → (a && b) ≡ true → (a ≡ true) × (b ≡ true)
    by true b h = (refl, h)
    by false b h = cc

pub room_for : (c : ConId) (t : TreeValue) (s : Standing) → IsBearer c t s → (ms behind : List (List ℕ)) → HasRoom t.nodes (ms ++ behind) → HasRoomOf (marks_in c t.nodes) ms → list_all is_mark ms ≡ true → IsRoomFor c ms t
room_for c t s b [] behind room own fit = tt
room_for c t s b (m ∷ ms) behind room own fit =
    let k : Seen top c t.nodes s = seen top c t.nodes s b.here in
    let f = all_fit m ms fit in
    let free : mark_refusal c m true false t ≡ None = rw (k.space b.con, f.0) (not_refused c m t k.there b.once (ms ++ behind) ms room own) in
    (k.con b.con, free, room_for c (given_mark c m true t) s (bearer_given c m t s b) ms behind (room_given c m t k.there b.once (ms ++ behind) room) (own_room_given c m t k.there b.once ms own) f.1)

-- ---- containers

-- the tree after a row came last in p, which was seen so
pub record Course (p : ConId) (row : Saved) (t : TreeValue) (s : Standing) (after : TreeValue) : Type 0 where
  pub next : after.next_id ≡ t.next_id + size row
  pub fresh : Fresh after
  pub cons : con_count after.nodes ≡ con_count t.nodes + size row
  pub own : standing 0 p after.nodes ≡ Some (record s { kids = s.kids + row_size row })
  pub others : (q : ConId) → q.0 < t.next_id → same p q ≡ false → standing 0 q after.nodes ≡ standing 0 q t.nodes
  pub room : (behind : List (List ℕ)) → HasRoom t.nodes (all_marks row ++ behind) → HasRoom after.nodes behind

-- a container that comes has no marks yet, and the room for marks is as before
pub record CameBare (p : ConId) (border : Border) (newcomer : NewCon) (t : TreeValue) : Type 0 where
  pub marks : marks_in (id t.next_id) (come p border newcomer t).nodes ≡ []
  pub count : mark_count (come p border newcomer t).nodes ≡ mark_count t.nodes
  pub held : (x : List ℕ) → is_held (come p border newcomer t).nodes x ≡ is_held t.nodes x

pub came_bare : (p : ConId) (border : Border) (newcomer : NewCon) (t : TreeValue) → has p t.nodes ≡ true → has (id t.next_id) t.nodes ≡ false → CameBare p border newcomer t
came_bare p border newcomer t there absent =
    let c : ConId = id t.next_id in
    let part : Part = new_part c (share_at (Last p) t.nodes) t.border None newcomer in
    let edit : KindEdit = edits.State (state_with border) in
    let f : Forest = put (Last p) (con part end end end) t.nodes in
    record {
      marks = marks_stay c edit c f ∙ marks_new p part t.nodes absent there;
      count = omega (arith, count-same marks_of c kind_changed edit (λ part kids floats rest. refl) f, count-put marks_of (Last p) (con part end end end) t.nodes there);
      held = λ x. held_is x (at c kind_changed edit f) ∙ held_edit c edit x f ∙ held_come p part x t.nodes refl ∙ sym (held_is x t.nodes);
    }

pub room_came : (p : ConId) (border : Border) (newcomer : NewCon) (t : TreeValue) → CameBare p border newcomer t → (ms : List (List ℕ)) → HasRoom t.nodes ms → HasRoom (come p border newcomer t).nodes ms
room_came p border newcomer t b ms room = omega (arith, room, b.count, different_same (is_held t.nodes) (is_held (come p border newcomer t).nodes) b.held ms)

pub all_then : (a b c d : List (List ℕ)) → (a ++ (b ++ c)) ++ d ≡ a ++ (b ++ (c ++ d))
all_then a b c d = append_assoc a (b ++ c) d ∙ ap (λ z. a ++ z) (append_assoc b c d)

pub bearer_new : (p : ConId) (border : Border) (newcomer : NewCon) (t : TreeValue) (s : Standing) → Came p newcomer t s (come p border newcomer t) → IsBearer (id t.next_id) (come p border newcomer t) (newcomer_standing newcomer s.levels)
bearer_new p border newcomer t s b = record { here = b.newcomer_is; con = refl; once = b.once }

pub course : (p : ConId) (row : Saved) (t : TreeValue) (s : Standing) → p.0 < t.next_id → Fresh t → standing 0 p t.nodes ≡ Some s → Course p row t s (appended p row t)
course p none t s low fresh h = record {
  next = omega arith;
  fresh = fresh;
  cons = omega arith;
  own = h ∙ ap (λ n. Some (record s { kids = n })) (omega arith);
  others = λ q below other. refl;
  room = λ behind room. room;
}
course p (saved border marks newcomer kids rest) t s low fresh h =
    let c : ConId = id t.next_id in
    let t1 : TreeValue = come_marked p border marks newcomer t in
    let k : Came p newcomer t s t1 = came_with_marks p border marks newcomer t s low fresh h in
    let b : Came p newcomer t s (come p border newcomer t) = came p border newcomer t s low fresh h in
    let t2 : TreeValue = appended c kids t1 in
    let d : Course c kids t1 (newcomer_standing newcomer s.levels) t2 = course c kids t1 (newcomer_standing newcomer s.levels) (omega (arith, k.next)) k.fresh k.newcomer_is in
    let s2 : Standing = record s { kids = s.kids + 1 } in
    let e : Course p rest t2 s2 (appended p rest t2) = course p rest t2 s2 (omega (arith, d.next, k.next, low)) d.fresh (d.others p (omega (arith, k.next, low)) (lower c p low) ∙ k.own) in
    record {
      next = omega (arith, e.next, d.next, k.next);
      fresh = e.fresh;
      cons = omega (arith, e.cons, d.cons, k.cons);
      own = e.own ∙ ap (λ n. Some (record s { kids = n })) (omega arith);
      others = λ q below other. e.others q (omega (arith, d.next, k.next, below)) other ∙ d.others q (omega (arith, k.next, below)) (lower c q below) ∙ k.others q below other;
      room = λ behind room.
          let x : List (List ℕ) = all_marks kids ++ (all_marks rest ++ behind) in
          let bare : CameBare p border newcomer t = came_bare p border newcomer t (seen top p t.nodes s h).there (fresh c (omega arith)) in
          let room1 : HasRoom (come p border newcomer t).nodes (marks ++ x) = room_came p border newcomer t bare (marks ++ x) (subst (HasRoom t.nodes) (all_then marks (all_marks kids) (all_marks rest) behind) room) in
          e.room behind (d.room (all_marks rest ++ behind) (room_after c (come p border newcomer t) (newcomer_standing newcomer s.levels) (bearer_new p border newcomer t s b) marks x room1));
    }
