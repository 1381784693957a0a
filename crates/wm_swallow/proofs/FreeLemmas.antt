-- Where a layout as a whole passes no limit, no step of appending it passes one.
use Rattle.std.proofs.Common.{◌≡◌, ℕ, ◌+◌, ◌-◌, ◌≤◌, ◌<◌, Bool, true, false, cond, leb, ltb, ◌||◌, ◌&&◌, not, List, ◌++◌, Some, None, refl, sym, ◌∙◌, subst, arith}
use Rattle.std.specs.List.{list_all}
use Rattle.std.proofs.lemmas.Bool.Decides.{nat_tests}
use Rattle.std.proofs.lemmas.List.Folds.{list_all-append}
use Rattle.wm_base.specs.declared.errors.Limit.TheVariants.{Containers, Children, Depth, Ids}
use Rattle.wm_base.specs.declared.ids.ConId.{ConId}
use Rattle.wm_focus.specs.Marks.{is_mark}
use Rattle.wm_forest.specs.declared.place.Place.TheVariants.{Last}
use Rattle.wm_forest.specs.Change.{is_split}
use Rattle.wm_forest.specs.Counts.{con_count, row_length}
use Rattle.wm_forest.specs.Look.{first_kids, only}
use Rattle.wm_forest.specs.Place.{new_kind, room_at}
use Rattle.wm_forest.specs.RootId.{id}
use Rattle.wm_forest.specs.Spot.{top}
use Rattle.wm_swallow.specs.Appending.{appended, come, come_marked}
use Rattle.wm_swallow.specs.Limits.{different, is_overmarked}
use Rattle.wm_swallow.specs.SavedRows.{Saved, none, saved, all_marks, fits, is_wide, row_size, size}
use Rattle.wm_swallow.specs.Steps.{IsFree, IsRoomIn}
use Rattle.wm_swallow.proofs.CourseLemmas.{CameBare, Course, all_then, bearer_new, came_bare, course, room_after, room_came, room_for}
use Rattle.wm_swallow.proofs.GiveLemmas.{HasRoom, HasRoomOf}
use Rattle.wm_swallow.proofs.StandLemmas.{Seen, Standing, seen, standing}
use Rattle.wm_swallow.proofs.StepLemmas.{Came, Fresh, came, came_with_marks, lower, newcomer_standing}
use Rattle.wm_tree.specs.Move.{marks_in}
use Rattle.wm_tree.specs.TreeValue.{TreeValue}

-- ---- one container more

room_fine : (cons len room next : ℕ) → cons < 4096 → len < 256 → 0 < room → next ≤ 4000000000
    → cond (leb 4096 cons) (Some Containers) (cond (true && leb 256 len) (Some Children) (cond (not (ltb 0 room)) (Some Depth) (cond (ltb 4000000000 next) (Some Ids) None))) ≡ None
room_fine cons len room next a b c d =
    let e : leb 4096 cons ≡ false = grind (arith, nat_tests) in
    let f : leb 256 len ≡ false = grind (arith, nat_tests) in
    let g : ltb 0 room ≡ true = grind (arith, nat_tests) in
    let h : ltb 4000000000 next ≡ false = grind (arith, nat_tests) in
    rw (e, f, g, h) refl

pub room_in : (p : ConId) (t : TreeValue) (s : Standing) → standing 0 p t.nodes ≡ Some s → s.takes ≡ true → con_count t.nodes < 4096 → s.kids < 256 → 0 < s.levels → t.next_id ≤ 4000000000 → IsRoomIn p t
room_in p t s h takes cons kids levels next =
    let k : Seen top p t.nodes s = seen top p t.nodes s h in
    record {
      there = k.there;
      place = λ _. k.takes takes;
      free = room_fine (con_count t.nodes) (row_length (first_kids (only p t.nodes))) (room_at (Last p) t.nodes) t.next_id cons (omega (arith, k.kids, kids)) (omega (arith, k.levels, levels)) next;
    }

-- ---- rows

-- nothing
abbrev pub is_none : Saved → Bool
is_none none = true
is_none (saved border marks newcomer kids rest) = false

-- only splits have children
abbrev pub AreSplits : Saved → Type 0
AreSplits none = Unit {0}
AreSplits (saved border marks newcomer kids rest) = (is_none kids ≡ false → is_split (new_kind newcomer) ≡ true) × AreSplits kids × AreSplits rest

-- what is asked of a row that comes last in p, which is seen so: no limit is passed by the whole of it
pub record Fits (row : Saved) (t : TreeValue) (s : Standing) : Type 0 where
  pub splits : AreSplits row
  pub takes : is_none row ≡ false → s.takes ≡ true
  pub cons : con_count t.nodes + size row ≤ 4096
  pub kids : s.kids + row_size row ≤ 256
  pub narrow : is_wide row ≡ false
  pub deep : fits s.levels row ≡ true
  pub ids : t.next_id + size row ≤ 4000000001
  pub few : is_overmarked row ≡ false
  pub fit : list_all is_mark (all_marks row) ≡ true

or3 : (a b c : Bool) → (a || b || c) ≡ false → (a ≡ false) × (b ≡ false) × (c ≡ false)
or3 false false false h = (refl, refl, refl)
or3 false false true h = cc
or3 false true c h = cc
or3 true b c h = cc

and3 : (a b c : Bool) → (a && b && c) ≡ true → (a ≡ true) × (b ≡ true) × (c ≡ true)
and3 true true true h = (refl, refl, refl)
and3 true true false h = cc
and3 true false c h = cc
and3 false b c h = cc

and2 : (a b : Bool) → (a && b) ≡ true → (a ≡ true) × (b ≡ true)
and2 true b h = (refl, h)
and2 false b h = cc

fit3 : (a b c : List (List ℕ)) → list_all is_mark (a ++ (b ++ c)) ≡ true → (list_all is_mark a ≡ true) × (list_all is_mark b ≡ true) × (list_all is_mark c ≡ true)
fit3 a b c h =
    let x = and2 (list_all is_mark a) (list_all is_mark (b ++ c)) (sym (list_all-append is_mark a (b ++ c)) ∙ h) in
    let y = and2 (list_all is_mark b) (list_all is_mark c) (sym (list_all-append is_mark b c) ∙ x.1) in
    (x.0, y.0, y.1)

at_most : (n m : ℕ) → ltb n m ≡ false → m ≤ n
at_most n m h = grind (arith, nat_tests)

some_level : (n : ℕ) → ltb 0 n ≡ true → 0 < n
some_level n h = grind (arith, nat_tests)

pub free : (p : ConId) (row : Saved) (t : TreeValue) (s : Standing) → p.0 < t.next_id → Fresh t → standing 0 p t.nodes ≡ Some s → Fits row t s → (behind : List (List ℕ)) → HasRoom t.nodes (all_marks row ++ behind) → IsFree p row t
free p none t s low fresh h g behind room = tt
free p (saved border marks newcomer kids rest) t s low fresh h g behind room =
    let c : ConId = id t.next_id in
    let t0 : TreeValue = come p border newcomer t in
    let t1 : TreeValue = come_marked p border marks newcomer t in
    let t2 : TreeValue = appended c kids t1 in
    let b : Came p newcomer t s t0 = came p border newcomer t s low fresh h in
    let k : Came p newcomer t s t1 = came_with_marks p border marks newcomer t s low fresh h in
    let s1 : Standing = newcomer_standing newcomer s.levels in
    let s2 : Standing = record s { kids = s.kids + 1 } in
    let d : Course c kids t1 s1 t2 = course c kids t1 s1 (omega (arith, k.next)) k.fresh k.newcomer_is in
    let wide = or3 (ltb 256 (row_size kids)) (is_wide kids) (is_wide rest) g.narrow in
    let deep = and3 (ltb 0 s.levels) (fits (s.levels - 1) kids) (fits s.levels rest) g.deep in
    let few = or3 (ltb 32 (different (λ m. false) marks)) (is_overmarked kids) (is_overmarked rest) g.few in
    let fit = fit3 marks (all_marks kids) (all_marks rest) g.fit in
    let x : List (List ℕ) = all_marks kids ++ (all_marks rest ++ behind) in
    let bare : CameBare p border newcomer t = came_bare p border newcomer t (seen top p t.nodes s h).there (fresh c (omega arith)) in
    let room0 : HasRoom t0.nodes (marks ++ x) = room_came p border newcomer t bare (marks ++ x) (subst (HasRoom t.nodes) (all_then marks (all_marks kids) (all_marks rest) behind) room) in
    let own : HasRoomOf (marks_in c t0.nodes) marks = subst (λ (ms : List (List ℕ)). HasRoomOf ms marks) (sym bare.marks) (omega (arith, at_most 32 (different (λ m. false) marks) few.0)) in
    let room1 : HasRoom t1.nodes x = room_after c t0 s1 (bearer_new p border newcomer t s b) marks x room0 in
    let here2 : standing 0 p t2.nodes ≡ Some s2 = d.others p (omega (arith, k.next, low)) (lower c p low) ∙ k.own in (
      room_in p t s h (g.takes refl) (omega (arith, g.cons)) (omega (arith, g.kids)) (some_level s.levels deep.0) (omega (arith, g.ids)),
      room_for c t0 s1 (bearer_new p border newcomer t s b) marks x room0 own fit.0,
      free c kids t1 s1 (omega (arith, k.next)) k.fresh k.newcomer_is
          (record {
            splits = g.splits.1;
            takes = g.splits.0;
            cons = omega (arith, g.cons, k.cons);
            kids = omega (arith, at_most 256 (row_size kids) wide.0);
            narrow = wide.1;
            deep = deep.1;
            ids = omega (arith, g.ids, k.next);
            few = few.1;
            fit = fit.1;
          })
          (all_marks rest ++ behind) room1,
      free p rest t2 s2 (omega (arith, d.next, k.next, low)) d.fresh here2
          (record {
            splits = g.splits.2;
            takes = λ _. g.takes refl;
            cons = omega (arith, g.cons, d.cons, k.cons);
            kids = omega (arith, g.kids);
            narrow = wide.2;
            deep = deep.2;
            ids = omega (arith, g.ids, d.next, k.next);
            few = few.2;
            fit = fit.2;
          })
          behind (d.room (all_marks rest ++ behind) room1),
    )
