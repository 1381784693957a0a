-- Where workspaces stand: each on an output, which is one of the root's.
use Rattle.std.proofs.Common.{◌≡◌, ◌≢◌, ℕ, ◌+◌, ◌≤◌, Bool, true, false, cond, ◌||◌, ◌⊎◌, inl, inr, List, Option, None, Some, refl, ap, sym, ◌∙◌, arith}
use Rattle.std.specs.Prelude.{option_and_then}
use Rattle.wm_base.specs.declared.ids.ConId.{ConId}
use Rattle.wm_shared.proofs.DownLemmas.{once_only, only_below}
use Rattle.wm_shared.specs.Showing.{shown_on}
use Rattle.wm_tree.proofs.AttachLemmas.{has_row}
use Rattle.wm_forest.proofs.ForestLemmas.{only_absent}
use Rattle.wm_tree.proofs.MoveLemmas.{SoundFound, found_sound}
use Rattle.wm_forest.proofs.PutLemmas.{IsConFirst}
use Rattle.wm_forest.proofs.StandLemmas.{HasSpot, has_spot}
use Rattle.wm_forest.proofs.OnceLemmas.{in_kids, only_floats, only_kids, only_rest}
use Rattle.wm_forest.proofs.RecencyLemmas.{same_self}
use Rattle.wm_forest.specs.Change.{shown_of}
use Rattle.wm_forest.specs.declared.part.NodeKind.{NodeKind}
use Rattle.wm_forest.specs.declared.part.NodeKind.TheVariants.{Root, Output, Space, Con}
use Rattle.wm_forest.specs.declared.part.Part.{Part}
use Rattle.wm_forest.specs.declared.spot.Spot.{Spot}
use Rattle.wm_forest.specs.Forest.{Forest, end, con}
use Rattle.wm_forest.specs.Look.{first_kids, first_part, has, in_row, con_kind, kind_by, only, same, space_kind}
use Rattle.wm_forest.proofs.ChangeLemmas.{by_place}
use Rattle.wm_forest.specs.SoundRow.{IsNode, IsSoundRow, Level, below as level_below, containers, outputs, roots, spaces, tally}
use Rattle.wm_tree.specs.Sound.{IsSound}
use Rattle.wm_forest.specs.Spot.{room_below, space_at, space_by, spot_below, spot_in, spot_of, top}
use Rattle.wm_tree.specs.TreeValue.{TreeValue, parent, workspace_of}
use Rattle.wm_forest.specs.RootId.{root}

abbrev Once : Forest → Type 0
Once f = (i : ConId) → tally i f ≤ 1

abbrev held : Option Spot → Option ConId
held o = option_and_then (λ (s : Spot). s.holder) o

abbrev spaced : Option Spot → Option ConId
spaced o = option_and_then (λ (s : Spot). s.space) o

right : (a b : Bool) → b ≡ true → (a || b) ≡ true
right true b h = refl
right false b h = h

-- what the node w of a forest is as a workspace
abbrev pub IsSpaceIn : ConId → Forest → Type 0
IsSpaceIn w f = kind_by space_kind (first_part (only w f)) ≢ None

space_has : (v : ConId) (f : Forest) → IsSpaceIn v f → has v f ≡ true
space_has v f ok = by (has v f) refl where
  by : (b : Bool) → has v f ≡ b → has v f ≡ true
  by true e = e
  by false e = absurd (ok (ap (λ g. kind_by space_kind (first_part g)) (only_absent v f e)))

-- among containers there is none
no_space : (w : ConId) (tiled : Bool) (room : ℕ) (f : Forest) → IsSoundRow containers tiled room f → kind_by space_kind (first_part (only w f)) ≡ None
no_space w tiled room end p = refl
no_space w tiled room (con part kids floats rest) p =
    step (same part.id w) (has w kids) (has w floats) (no_space w true (room_below room part.kind) kids p.2) (no_space w false (room_below room part.kind) floats p.3) (no_space w tiled room rest p.4)
  where
    here : (kind : NodeKind) → IsNode containers tiled room part.id kind part.marks kids → space_kind kind ≡ None
    here (Root c) n = refl
    here (Output o) n = refl
    here (Space x) n = absurd n
    here (Con c) n = refl

    step : (a k l : Bool) → kind_by space_kind (first_part (only w kids)) ≡ None → kind_by space_kind (first_part (only w floats)) ≡ None → kind_by space_kind (first_part (only w rest)) ≡ None
        → kind_by space_kind (first_part (cond a (con part kids floats end) (cond k (only w kids) (cond l (only w floats) (only w rest))))) ≡ None
    step true k l u v x = here part.kind p.0
    step false true l u v x = u
    step false false true u v x = v
    step false false false u v x = x

-- one of a row of workspaces stands in the row itself, and what holds the row holds it
in_spaces : (w : ConId) (s : Spot) (tiled : Bool) (room : ℕ) (row : Forest) → IsSoundRow spaces tiled room row → IsSpaceIn w row → (in_row w row ≡ true) × (held (spot_in s w row) ≡ s.holder)
in_spaces w s tiled room end p ok = absurd (ok refl)
in_spaces w s tiled room (con part kids floats rest) p ok = step (same part.id w) (has w kids) (has w floats) (in_spaces w s tiled room rest p.4) ok where
  step : (a k l : Bool) → (IsSpaceIn w rest → (in_row w rest ≡ true) × (held (spot_in s w rest) ≡ s.holder))
      → kind_by space_kind (first_part (cond a (con part kids floats end) (cond k (only w kids) (cond l (only w floats) (only w rest))))) ≢ None
      → ((a || in_row w rest) ≡ true) × (held (cond a (Some (spot_of s part)) (cond k (spot_in (spot_below true s part) w kids) (cond l (spot_in (spot_below false s part) w floats) (spot_in s w rest)))) ≡ s.holder)
  step true k l u ok = (refl, refl)
  step false true l u ok = absurd (ok (no_space w true (room_below room part.kind) kids p.2))
  step false false true u ok = absurd (ok (no_space w false (room_below room part.kind) floats p.3))
  step false false false u ok = u ok

-- what a row of workspaces lists is one
listed_space : (v : ConId) (tiled : Bool) (room : ℕ) (row : Forest) → IsSoundRow spaces tiled room row → Once row → in_row v row ≡ true → IsSpaceIn v row
listed_space v tiled room end p once h = cc
listed_space v tiled room (con part kids floats rest) p once h = step (same part.id v) refl (listed_space v tiled room rest p.4 (λ i. omega (arith, once i))) h where
  here : (kind : NodeKind) → IsNode spaces tiled room part.id kind part.marks kids → space_kind kind ≢ None
  here (Root c) n = absurd n
  here (Output o) n = absurd n
  here (Space x) n = λ e. cc
  here (Con c) n = absurd n

  step : (a : Bool) → same part.id v ≡ a → (in_row v rest ≡ true → IsSpaceIn v rest) → (a || in_row v rest) ≡ true → IsSpaceIn v (con part kids floats rest)
  step true e u h = rw e (here part.kind p.0)
  step false e u h = rw (only_rest v part kids floats rest (once v) (has_row v rest h)) (u h)

-- ---- outputs

-- w is a workspace of an output of the row
record OnOutput (w : ConId) (s : Spot) (row : Forest) : Type 0 where
  output : ConId
  listed : in_row output row ≡ true
  inside : in_row w (first_kids (only output row)) ≡ true
  holder : held (spot_in s w row) ≡ Some output
  now : ConId
  shows : kind_by shown_of (first_part (only output row)) ≡ Some now
  now_space : IsSpaceIn now row

on_output : (w : ConId) (s : Spot) (tiled : Bool) (room : ℕ) (row : Forest) → IsSoundRow outputs tiled room row → Once row → IsSpaceIn w row → OnOutput w s row
on_output w s tiled room end p once ok = absurd (ok refl)
on_output w s tiled room (con part kids floats rest) p once ok =
    step (same part.id w) (has w kids) (has w floats) refl refl refl ok (on_output w s tiled room rest p.4 (λ i. omega (arith, once i)))
  where
    node : Forest
    node = con part kids floats rest

    output_none : (kind : NodeKind) → IsNode outputs tiled room part.id kind part.marks kids → space_kind kind ≡ None
    output_none (Root c) n = refl
    output_none (Output o) n = refl
    output_none (Space x) n = absurd n
    output_none (Con c) n = refl

    here : (kind : NodeKind) → part.kind ≡ kind → IsNode outputs tiled room part.id kind part.marks kids → same part.id w ≡ false → has w kids ≡ true → IsSpaceIn w kids → OnOutput w s node
    here (Root c) e n a k ok = absurd n
    here (Space x) e n a k ok = absurd n
    here (Con c) e n a k ok = absurd n
    here (Output o) e n a k ok =
        let own = same_self part.id part.id refl in
        let i = in_spaces w (spot_below true s part) true (room_below room part.kind) kids p.2 ok in
        record {
          output = part.id;
          listed = rw own refl;
          inside = rw own i.0;
          holder = rw (a, k) (i.1 ∙ rw e refl);
          now = o.shown;
          shows = rw (own, e) refl;
          now_space = rw (only_kids o.shown part kids floats rest (once o.shown) (has_row o.shown kids n.1)) (listed_space o.shown true (room_below room part.kind) kids p.2 (λ i. omega (arith, once i)) n.1);
        }

    behind : same part.id w ≡ false → has w kids ≡ false → has w floats ≡ false → OnOutput w s rest → OnOutput w s node
    behind a k l r =
        let found = only_rest r.output part kids floats rest (once r.output) (has_row r.output rest r.listed) in
        record {
          output = r.output;
          listed = right (same part.id r.output) (in_row r.output rest) r.listed;
          inside = rw found r.inside;
          holder = rw (a, k, l) r.holder;
          now = r.now;
          shows = rw found r.shows;
          now_space = rw (only_rest r.now part kids floats rest (once r.now) (space_has r.now rest r.now_space)) r.now_space;
        }

    step : (a k l : Bool) → same part.id w ≡ a → has w kids ≡ k → has w floats ≡ l
        → kind_by space_kind (first_part (cond a (con part kids floats end) (cond k (only w kids) (cond l (only w floats) (only w rest))))) ≢ None
        → (IsSpaceIn w rest → OnOutput w s rest) → OnOutput w s node
    step true k l ea ek el ok u = absurd (ok (output_none part.kind p.0))
    step false true l ea ek el ok u = here part.kind refl p.0 ea ek ok
    step false false true ea ek el ok u = absurd (ok (no_space w false (room_below room part.kind) floats p.3))
    step false false false ea ek el ok u = behind ea ek el (u ok)

-- ---- the tree

-- w is a workspace of one of the tree's outputs, which shows a workspace
pub record Placed (w : ConId) (t : TreeValue) : Type 0 where
  pub output : ConId
  pub held_by : parent t w ≡ Some output
  pub listed : in_row output (first_kids t.nodes) ≡ true
  pub inside : in_row w (first_kids (only output t.nodes)) ≡ true
  pub now : ConId
  pub shows : shown_on output t ≡ Some now
  pub now_space : IsSpaceIn now t.nodes

root_id : (id : ConId) (kind : NodeKind) (marks : List (List ℕ)) (kids : Forest) → IsNode roots false 0 id kind marks kids → (space_kind kind ≡ None) × (id ≡ root)
root_id id (Root c) marks kids n = (refl, n.0)
root_id id (Output o) marks kids n = absurd n
root_id id (Space x) marks kids n = absurd n
root_id id (Con c) marks kids n = absurd n

-- there is one root
one_root : (part : Part) (kids floats rest : Forest) → IsSoundRow roots false 0 (con part kids floats rest) → Once (con part kids floats rest) → rest ≡ end
one_root part kids floats end p once = refl
one_root part kids floats (con q k l r) p once =
    let first = same_self part.id root (root_id part.id part.kind part.marks kids p.0).1 in
    let second = same_self q.id root (root_id q.id q.kind q.marks k p.4.0).1 in
    let much : 1 + tally root kids + tally root floats + (1 + tally root k + tally root l + tally root r) ≤ 1 = rw (first, second) at (once root) in
    absurd (omega (arith, much))

pub placed : (w : ConId) (t : TreeValue) → IsSound t → IsSpaceIn w t.nodes → Placed w t
placed w t sound ok = by t.nodes refl sound.shaped sound.once ok where
  by : (f : Forest) → t.nodes ≡ f → IsSoundRow roots false 0 f → Once f → IsSpaceIn w f → Placed w t
  by end e p once ok = absurd (ok refl)
  by (con part kids floats rest) e p once ok = step (same part.id w) (has w kids) (has w floats) refl refl refl ok where
    below : same part.id w ≡ false → has w kids ≡ true → OnOutput w (spot_below true top part) kids → Placed w t
    below a k r =
        let there = has_row r.output kids r.listed in
        let found = only_kids r.output part kids floats rest (once r.output) there in
        record {
          output = r.output;
          held_by = rw (e, a, k) r.holder;
          listed = rw e r.listed;
          inside = rw (e, found) r.inside;
          now = r.now;
          shows = rw (e, found) r.shows;
          now_space = rw (e, only_kids r.now part kids floats rest (once r.now) (space_has r.now kids r.now_space)) r.now_space;
        }

    step : (a k l : Bool) → same part.id w ≡ a → has w kids ≡ k → has w floats ≡ l
        → kind_by space_kind (first_part (cond a (con part kids floats end) (cond k (only w kids) (cond l (only w floats) (only w rest))))) ≢ None → Placed w t
    step true k l ea ek el ok = absurd (ok (root_id part.id part.kind part.marks kids p.0).0)
    step false true l ea ek el ok = below ea ek (on_output w (spot_below true top part) true (room_below 0 part.kind) kids p.2 (λ i. omega (arith, once i)) ok)
    step false false true ea ek el ok = absurd (ok (no_space w false (room_below 0 part.kind) floats p.3))
    step false false false ea ek el ok = absurd (ok (ap (λ g. kind_by space_kind (first_part (only w g))) (one_root part kids floats rest p once)))

-- ---- the workspace of a node

-- it is that of the row, or one that is there
space_of_spot : (c : ConId) (s : Spot) (f : Forest) → Once f → (w : ConId) → spaced (spot_in s c f) ≡ Some w → (s.space ≡ Some w) ⊎ IsSpaceIn w f
space_of_spot c s end once w h = cc
space_of_spot c s (con part kids floats rest) once w h =
    step (same part.id c) (has c kids) (has c floats) (space_of_spot c (spot_below true s part) kids (λ i. omega (arith, once i)) w) (space_of_spot c (spot_below false s part) floats (λ i. omega (arith, once i)) w) (space_of_spot c s rest (λ i. omega (arith, once i)) w) h
  where
    node : Forest
    node = con part kids floats rest

    -- a node gives its row's workspace, or is one
    own : (kind : NodeKind) → part.kind ≡ kind → space_by s.space part.id kind ≡ Some w → (s.space ≡ Some w) ⊎ IsSpaceIn w node
    own (Root d) e h = inl h
    own (Output o) e h = inl h
    own (Con d) e h = inl h
    own (Space x) e h = let one : part.id ≡ w = cc in inr (rw (same_self part.id w one, e) (λ z. cc))

    up_kids : (s.space ≡ Some w) ⊎ IsSpaceIn w kids → (s.space ≡ Some w) ⊎ IsSpaceIn w node
    up_kids (inl h) = inl h
    up_kids (inr ok) = inr (rw (only_kids w part kids floats rest (once w) (space_has w kids ok)) ok)

    up_floats : (s.space ≡ Some w) ⊎ IsSpaceIn w floats → (s.space ≡ Some w) ⊎ IsSpaceIn w node
    up_floats (inl h) = inl h
    up_floats (inr ok) = inr (rw (only_floats w part kids floats rest (once w) (space_has w floats ok)) ok)

    up_rest : (s.space ≡ Some w) ⊎ IsSpaceIn w rest → (s.space ≡ Some w) ⊎ IsSpaceIn w node
    up_rest (inl h) = inl h
    up_rest (inr ok) = inr (rw (only_rest w part kids floats rest (once w) (space_has w rest ok)) ok)

    join : {A : Type 0} → (space_at s.space part ≡ Some w) ⊎ A → (A → (s.space ≡ Some w) ⊎ IsSpaceIn w node) → (s.space ≡ Some w) ⊎ IsSpaceIn w node
    join (inl h) f = own part.kind refl h
    join (inr a) f = f a

    step : (a k l : Bool) → (spaced (spot_in (spot_below true s part) c kids) ≡ Some w → (space_at s.space part ≡ Some w) ⊎ IsSpaceIn w kids)
        → (spaced (spot_in (spot_below false s part) c floats) ≡ Some w → (space_at s.space part ≡ Some w) ⊎ IsSpaceIn w floats) → (spaced (spot_in s c rest) ≡ Some w → (s.space ≡ Some w) ⊎ IsSpaceIn w rest)
        → spaced (cond a (Some (spot_of s part)) (cond k (spot_in (spot_below true s part) c kids) (cond l (spot_in (spot_below false s part) c floats) (spot_in s c rest)))) ≡ Some w
        → (s.space ≡ Some w) ⊎ IsSpaceIn w node
    step true k l u v x h = own part.kind refl h
    step false true l u v x h = join (u h) (λ ok. up_kids (inr ok))
    step false false true u v x h = join (v h) (λ ok. up_floats (inr ok))
    step false false false u v x h = up_rest (x h)

-- the workspace of a node is one
pub space_of_node : (c w : ConId) (t : TreeValue) → IsSound t → workspace_of t c ≡ Some w → IsSpaceIn w t.nodes
space_of_node c w t s h = by (space_of_spot c top t.nodes s.once w h) where
  by : (top.space ≡ Some w) ⊎ IsSpaceIn w t.nodes → IsSpaceIn w t.nodes
  by (inl e) = cc
  by (inr ok) = ok

-- a workspace is not within a container
pub not_within : (c w : ConId) (t : TreeValue) → IsSound t → kind_by con_kind (first_part (only c t.nodes)) ≢ None → IsSpaceIn w t.nodes → has w (only c t.nodes) ≡ false
not_within c w t s ok_c ok_w = by (has w (only c t.nodes)) refl where
  -- what is found below c is what is found in the whole
  inner : has w (only c t.nodes) ≡ true → only w (only c t.nodes) ≡ only w t.nodes
  inner h = only_below w c t.nodes s.once h

  found : (sp : Option Spot) (g : Forest) → SoundFound sp g → HasSpot sp → IsConFirst g → kind_by space_kind (first_part (only w g)) ≡ None
  found None g p spot con_first = absurd spot
  found (Some sp) g p spot con_first = no_space w sp.tiled sp.room g (p con_first)

  there : has c t.nodes ≡ true
  there = by_has (has c t.nodes) refl where
    by_has : (b : Bool) → has c t.nodes ≡ b → has c t.nodes ≡ true
    by_has true e = e
    by_has false e = absurd (ok_c (ap (λ g. kind_by con_kind (first_part g)) (only_absent c t.nodes e)))

  by : (b : Bool) → has w (only c t.nodes) ≡ b → has w (only c t.nodes) ≡ false
  by false e = e
  by true e =
      let none = found (spot_in top c t.nodes) (only c t.nodes) (found_sound c roots top t.nodes s.shaped) (has_spot c top t.nodes there) ok_c in
      absurd (ok_w (ap (λ g. kind_by space_kind (first_part g)) (sym (inner e)) ∙ none))

-- ---- what outputs show

abbrev FindsShown : Level → Spot → Forest → Forest → Forest → Forest → Option Spot → Forest → Type 0
FindsShown l s whole old new found sp st =
    IsSoundRow l s.tiled s.room old → (v : ConId) → kind_by shown_of (first_part found) ≡ Some v → (in_row v (first_kids found) ≡ true) × ((room : ℕ) × IsSoundRow spaces true room (first_kids found))

shown_rows : (o : ConId) (f : Forest) → IsSoundRow roots false 0 f → (v : ConId) → kind_by shown_of (first_part (only o f)) ≡ Some v
    → (in_row v (first_kids (only o f)) ≡ true) × ((room : ℕ) × IsSoundRow spaces true room (first_kids (only o f)))
shown_rows o f =
    by_place o (λ row part kids floats rest. rest) end FindsShown
    (λ l s whole p v h. cc)
    (λ l s whole part kids floats rest p v h. here l s.tiled s.room part kids part.kind refl p.0 p.2 v h)
    (λ l s whole part kids floats rest new found sp st k p. k p.2)
    (λ l s whole part kids floats rest new found sp st k p. k p.3)
    (λ l s whole part kids floats rest new found sp st k p. k p.4) roots top f f
  where
    here : (l : Level) (tiled : Bool) (room : ℕ) (part : Part) (kids : Forest) (kind : NodeKind) → part.kind ≡ kind → IsNode l tiled room part.id kind part.marks kids → IsSoundRow (level_below l) true (room_below room kind) kids
        → (v : ConId) → shown_of kind ≡ Some v → (in_row v kids ≡ true) × ((n : ℕ) × IsSoundRow spaces true n kids)
    here l tiled room part kids (Root c) e n p v h = cc
    here l tiled room part kids (Space x) e n p v h = cc
    here l tiled room part kids (Con c) e n p v h = cc
    here roots tiled room part kids (Output x) e n p v h = absurd n
    here outputs tiled room part kids (Output x) e n p v h = let one : x.shown ≡ v = cc in (rw (← one) n.1, (room_below room (Output x), p))
    here spaces tiled room part kids (Output x) e n p v h = absurd n
    here containers tiled room part kids (Output x) e n p v h = absurd n

-- what an output shows is a workspace
pub shown_is_space : (o w : ConId) (t : TreeValue) → IsSound t → shown_on o t ≡ Some w → IsSpaceIn w t.nodes
shown_is_space o w t s h = by (only o t.nodes) refl (shown_rows o t.nodes s.shaped w h) (once_only o t.nodes s.once) where
  by : (g : Forest) → only o t.nodes ≡ g → (in_row w (first_kids (only o t.nodes)) ≡ true) × ((n : ℕ) × IsSoundRow spaces true n (first_kids (only o t.nodes))) → Once (only o t.nodes) → IsSpaceIn w t.nodes
  by end e k once = let bad : in_row w end ≡ true = rw e at k.0 in cc
  by (con part kids floats rest) e k once =
      let listed : in_row w kids ≡ true = rw e at k.0 in
      let row : IsSoundRow spaces true k.1.0 kids = rw e at k.1.1 in
      let own : Once (con part kids floats rest) = rw e at once in
      let there = has_row w kids listed in
      let ok = listed_space w true k.1.0 kids row (λ i. omega (arith, own i)) listed in
      let inner : has w (only o t.nodes) ≡ true = rw e (in_kids w part kids floats rest there) in
      let found : only w t.nodes ≡ only w kids = sym (only_below w o t.nodes s.once inner) ∙ (ap (only w) e ∙ only_kids w part kids floats rest (own w) there) in
      rw found ok
