-- What is seen of a node: whether it takes children, how many it has, and how many levels may be below it.
use Rattle.std.proofs.Common.{◌≡◌, ℕ, Bool, true, false, cond, ◌||◌, [], Option, Some, None, refl, sym, ◌∙◌, ap, subst, arith}
use Rattle.std.specs.Prelude.{is_some}
use Rattle.wm_base.specs.declared.ids.ConId.{ConId}
use Rattle.wm_base.specs.declared.plan.Border.TheVariants.{Bare}
use Rattle.wm_forest.specs.declared.part.ConKind.{ConKind}
use Rattle.wm_forest.specs.declared.part.ConKind.TheVariants.{Split, Window, Placeholder}
use Rattle.wm_forest.specs.declared.part.NodeKind.{NodeKind}
use Rattle.wm_forest.specs.declared.part.NodeKind.TheVariants.{Root, Output, Space, Con}
use Rattle.wm_forest.specs.declared.part.Part.{Part}
use Rattle.wm_forest.specs.declared.spot.Spot.{Spot}
use Rattle.wm_forest.specs.Change.{is_split}
use Rattle.wm_forest.specs.Counts.{con_count, one_con, row_length}
use Rattle.wm_forest.specs.Forest.{Forest, end, con}
use Rattle.wm_forest.specs.Look.{con_kind, first_kids, first_part, has, kind_by, only, same, space_kind}
use Rattle.wm_forest.specs.Place.{IsSplit, TakesFirst, TakesKids, room_by, room_under}
use Rattle.wm_forest.specs.SoundRow.{tally}
use Rattle.wm_forest.specs.Spot.{room_below, spot_below, spot_in}
use Rattle.wm_swallow.specs.Appending.{state_with}
use Rattle.wm_tree.specs.TreeValue.{is_con_kind}

-- it takes children, it is a container, it has so many children, and there may be so many levels below it
pub record Standing : Type 0 where
  pub takes : Bool
  pub is_con : Bool
  pub kids : ℕ
  pub levels : ℕ

-- a workspace or a split takes children
abbrev pub takes_kids : NodeKind → Bool
takes_kids (Root c) = false
takes_kids (Output o) = false
takes_kids (Space s) = true
takes_kids (Con c) = is_split c.kind

abbrev pub standing_of : ℕ → Part → Forest → Standing
standing_of n part kids = record { takes = takes_kids part.kind; is_con = is_con_kind part.kind; kids = row_length kids; levels = room_below n part.kind }

-- the node q in a row that may have n levels; None where it is not there
abbrev pub standing : ℕ → ConId → Forest → Option Standing
standing n q end = None
standing n q (con part kids floats rest) =
    cond (same part.id q) (Some (standing_of n part kids))
    (cond (has q kids) (standing (room_below n part.kind) q kids) (cond (has q floats) (standing (room_below n part.kind) q floats) (standing n q rest)))

-- ---- what it says of the node

pub record Seen (sp : Spot) (q : ConId) (f : Forest) (s : Standing) : Type 0 where
  pub there : has q f ≡ true
  pub kids : row_length (first_kids (only q f)) ≡ s.kids
  pub takes : s.takes ≡ true → TakesFirst (first_part (only q f))
  pub levels : room_under (room_by (spot_in sp q f)) (first_part (only q f)) ≡ s.levels
  pub con : s.is_con ≡ true → is_some (kind_by con_kind (first_part (only q f))) ≡ true
  pub space : s.is_con ≡ true → is_some (kind_by space_kind (first_part (only q f))) ≡ false
  pub is_space : is_some (kind_by space_kind (first_part (only q f))) ≡ true → (s.takes ≡ true) × (s.levels ≡ 32)

split_is : (kind : ConKind) → is_split kind ≡ true → IsSplit kind
split_is (Split layout last) h = tt
split_is (Window props owner natural) h = cc
split_is (Placeholder props swallows) h = cc

kids_taken : (kind : NodeKind) → takes_kids kind ≡ true → TakesKids kind
kids_taken (Root c) h = cc
kids_taken (Output o) h = cc
kids_taken (Space s) h = tt
kids_taken (Con c) h = split_is c.kind h

con_is : (kind : NodeKind) → is_con_kind kind ≡ true → is_some (con_kind kind) ≡ true
con_is (Root c) h = cc
con_is (Output o) h = cc
con_is (Space s) h = cc
con_is (Con c) h = refl

space_not : (kind : NodeKind) → is_con_kind kind ≡ true → is_some (space_kind kind) ≡ false
space_not (Root c) h = cc
space_not (Output o) h = cc
space_not (Space s) h = cc
space_not (Con c) h = refl

space_is : (n : ℕ) (kind : NodeKind) → is_some (space_kind kind) ≡ true → (takes_kids kind ≡ true) × (room_below n kind ≡ 32)
space_is n (Root c) h = cc
space_is n (Output o) h = cc
space_is n (Space s) h = (refl, refl)
space_is n (Con c) h = cc

-- a node that is there is seen
pub is_seen : (n : ℕ) (q : ConId) (f : Forest) → has q f ≡ true → is_some (standing n q f) ≡ true
is_seen n q end h = cc
is_seen n q (con part kids floats rest) h = by (same part.id q) (has q kids) (has q floats) refl refl (is_seen (room_below n part.kind) q kids) (is_seen (room_below n part.kind) q floats) (is_seen n q rest) h
  where
    by : (a k l : Bool) → has q kids ≡ k → has q floats ≡ l → (has q kids ≡ true → is_some (standing (room_below n part.kind) q kids) ≡ true) → (has q floats ≡ true → is_some (standing (room_below n part.kind) q floats) ≡ true)
        → (has q rest ≡ true → is_some (standing n q rest) ≡ true) → (a || k || l || has q rest) ≡ true
        → is_some (cond a (Some (standing_of n part kids)) (cond k (standing (room_below n part.kind) q kids) (cond l (standing (room_below n part.kind) q floats) (standing n q rest)))) ≡ true
    by true k l ek el u v w h = refl
    by false true l ek el u v w h = u ek
    by false false true ek el u v w h = v el
    by false false false ek el u v w h = w h

pub seen : (sp : Spot) (q : ConId) (f : Forest) (s : Standing) → standing sp.room q f ≡ Some s → Seen sp q f s
seen sp q end s h = cc
seen sp q (con part kids floats rest) s h =
    by (same part.id q) (has q kids) (has q floats) refl refl refl (seen (spot_below true sp part) q kids s) (seen (spot_below false sp part) q floats s) (seen sp q rest s) h
  where
    by : (a k l : Bool) → same part.id q ≡ a → has q kids ≡ k → has q floats ≡ l → (standing (room_below sp.room part.kind) q kids ≡ Some s → Seen (spot_below true sp part) q kids s)
        → (standing (room_below sp.room part.kind) q floats ≡ Some s → Seen (spot_below false sp part) q floats s) → (standing sp.room q rest ≡ Some s → Seen sp q rest s)
        → cond a (Some (standing_of sp.room part kids)) (cond k (standing (room_below sp.room part.kind) q kids) (cond l (standing (room_below sp.room part.kind) q floats) (standing sp.room q rest))) ≡ Some s
        → Seen sp q (con part kids floats rest) s
    by true k l ea ek el u v w h =
        let e : standing_of sp.room part kids ≡ s = cc in
        subst (Seen sp q (con part kids floats rest)) e
        (record {
          there = rw ea refl;
          kids = rw ea refl;
          takes = λ h. rw ea (kids_taken part.kind h);
          levels = rw ea refl;
          con = λ h. rw ea (con_is part.kind h);
          space = λ h. rw ea (space_not part.kind h);
          is_space = λ h. space_is sp.room part.kind (rw ea at h);
        })
    by false true l ea ek el u v w h =
        let r = u h in
        record {
          there = rw (ea, ek) refl;
          kids = rw (ea, ek) r.kids;
          takes = λ h. rw (ea, ek) (r.takes h);
          levels = rw (ea, ek) r.levels;
          con = λ h. rw (ea, ek) (r.con h);
          space = λ h. rw (ea, ek) (r.space h);
          is_space = λ h. r.is_space (rw (ea, ek) at h);
        }
    by false false true ea ek el u v w h =
        let r = v h in
        record {
          there = rw (ea, ek, el) refl;
          kids = rw (ea, ek, el) r.kids;
          takes = λ h. rw (ea, ek, el) (r.takes h);
          levels = rw (ea, ek, el) r.levels;
          con = λ h. rw (ea, ek, el) (r.con h);
          space = λ h. rw (ea, ek, el) (r.space h);
          is_space = λ h. r.is_space (rw (ea, ek, el) at h);
        }
    by false false false ea ek el u v w h =
        let r = w h in
        record {
          there = rw (ea, ek, el, r.there) refl;
          kids = rw (ea, ek, el) r.kids;
          takes = λ h. rw (ea, ek, el) (r.takes h);
          levels = rw (ea, ek, el) r.levels;
          con = λ h. rw (ea, ek, el) (r.con h);
          space = λ h. rw (ea, ek, el) (r.space h);
          is_space = λ h. r.is_space (rw (ea, ek, el) at h);
        }

-- ---- without states and marks

-- a container without its state
abbrev pub plain_kind : NodeKind → NodeKind
plain_kind (Root c) = Root c
plain_kind (Output o) = Output o
plain_kind (Space s) = Space s
plain_kind (Con c) = Con (record c { state = state_with Bare })

-- the forest without the states of containers and without marks
abbrev pub plain : Forest → Forest
plain end = end
plain (con part kids floats rest) = con (record { id = part.id; kind = plain_kind part.kind; marks = [] }) (plain kids) (plain floats) (plain rest)

plain_takes : (kind : NodeKind) → takes_kids (plain_kind kind) ≡ takes_kids kind
plain_takes (Root c) = refl
plain_takes (Output o) = refl
plain_takes (Space s) = refl
plain_takes (Con c) = refl

plain_con : (kind : NodeKind) → is_con_kind (plain_kind kind) ≡ is_con_kind kind
plain_con (Root c) = refl
plain_con (Output o) = refl
plain_con (Space s) = refl
plain_con (Con c) = refl

plain_room : (n : ℕ) (kind : NodeKind) → room_below n (plain_kind kind) ≡ room_below n kind
plain_room n (Root c) = refl
plain_room n (Output o) = refl
plain_room n (Space s) = refl
plain_room n (Con c) = refl

has_plain : (q : ConId) (f : Forest) → has q (plain f) ≡ has q f
has_plain q end = refl
has_plain q (con part kids floats rest) = rw (has_plain q kids, has_plain q floats, has_plain q rest) refl

length_plain : (f : Forest) → row_length (plain f) ≡ row_length f
length_plain end = refl
length_plain (con part kids floats rest) = omega (arith, length_plain rest)

standing_plain : (n : ℕ) (q : ConId) (f : Forest) → standing n q (plain f) ≡ standing n q f
standing_plain n q end = refl
standing_plain n q (con part kids floats rest) =
    let of : standing_of n (record { id = part.id; kind = plain_kind part.kind; marks = [] }) (plain kids) ≡ standing_of n part kids = rw (plain_takes part.kind, plain_con part.kind, plain_room n part.kind, length_plain kids) refl in
    rw (of, plain_room n part.kind, has_plain q kids, has_plain q floats, standing_plain (room_below n part.kind) q kids, standing_plain (room_below n part.kind) q floats, standing_plain n q rest) refl

one_plain : (kind : NodeKind) → one_con (plain_kind kind) ≡ one_con kind
one_plain (Root c) = refl
one_plain (Output o) = refl
one_plain (Space s) = refl
one_plain (Con c) = refl

cons_plain : (f : Forest) → con_count (plain f) ≡ con_count f
cons_plain end = refl
cons_plain (con part kids floats rest) = omega (arith, one_plain part.kind, cons_plain kids, cons_plain floats, cons_plain rest)

tally_plain : (c : ConId) (f : Forest) → tally c (plain f) ≡ tally c f
tally_plain c end = refl
tally_plain c (con part kids floats rest) = omega (arith, tally_plain c kids, tally_plain c floats, tally_plain c rest)

-- forests that are one without states and marks are seen alike
abbrev pub Alike : Forest → Forest → Type 0
Alike old new = plain new ≡ plain old

pub alike_has : (old new : Forest) → Alike old new → (q : ConId) → has q new ≡ has q old
alike_has old new a q = sym (has_plain q new) ∙ ap (has q) a ∙ has_plain q old

pub alike_standing : (old new : Forest) → Alike old new → (n : ℕ) (q : ConId) → standing n q new ≡ standing n q old
alike_standing old new a n q = sym (standing_plain n q new) ∙ ap (standing n q) a ∙ standing_plain n q old

pub alike_cons : (old new : Forest) → Alike old new → con_count new ≡ con_count old
alike_cons old new a = sym (cons_plain new) ∙ ap con_count a ∙ cons_plain old

pub alike_tally : (old new : Forest) → Alike old new → (c : ConId) → tally c new ≡ tally c old
alike_tally old new a c = sym (tally_plain c new) ∙ ap (tally c) a ∙ tally_plain c old
