-- What a new name of one workspace changes, and where the names of workspaces are found.
use Rattle.std.proofs.Common.{◌≡◌, ℕ, ◌≤◌, Bool, true, false, cond, ◌||◌, ◌&&◌, List, Option, None, Some, refl, ap, sym, ◌∙◌}
use Rattle.std.specs.Prelude.{is_some, not}
use Rattle.std.specs.Option.{option_map, option_or}
use Rattle.std.proofs.lemmas.Slice.Eq.{bytes_eq-Decides}
use Rattle.wm_base.specs.declared.ids.ConId.{ConId}
use Rattle.wm_shared.proofs.ShowLemmas.{space_is}
use Rattle.wm_shared.proofs.SpaceLemmas.{placed}
use Rattle.wm_shared.proofs.StandingLemmas.{either, of_output, stands_has, stands_on}
use Rattle.wm_shared.specs.Showing.{space_name}
use Rattle.wm_shared.specs.Subject.{is_space}
use Rattle.wm_spaces.proofs.MoveLemmas.{held_on}
use Rattle.wm_spaces.specs.Names.{other_has, other_in_row, other_on, space_called, space_in_row, space_on}
use Rattle.wm_forest.proofs.OnceLemmas.{only_kids}
use Rattle.wm_forest.proofs.RecencyLemmas.{same_is, same_self}
use Rattle.wm_tree.proofs.FocusLemmas.{outputs_of}
use Rattle.wm_forest.specs.Change.{at}
use Rattle.wm_forest.specs.declared.kind.KindEdit.TheVariants as edits
use Rattle.wm_forest.specs.declared.part.NodeKind.{NodeKind}
use Rattle.wm_forest.specs.declared.part.NodeKind.TheVariants.{Root, Output, Space, Con}
use Rattle.wm_forest.specs.declared.part.Part.{Part}
use Rattle.wm_forest.specs.declared.part.SpacePart.{SpacePart}
use Rattle.wm_forest.specs.Forest.{Forest, end, con}
use Rattle.wm_forest.specs.Kinds.{changed, kind_changed}
use Rattle.wm_forest.specs.Look.{first_kids, first_part, has, in_row, kind_by, only, same, space_kind}
use Rattle.wm_forest.specs.SoundRow.{IsNode, IsSoundRow, containers, outputs, spaces, tally}
use Rattle.wm_forest.specs.Spot.{room_below}
use Rattle.wm_tree.specs.Sound.{IsSound}
use Rattle.wm_tree.specs.TreeValue.{TreeValue}

-- a node as a workspace
abbrev pub seen : ConId → Forest → Option SpacePart
seen v f = kind_by space_kind (first_part (only v f))

abbrev pub with_name : List ℕ → SpacePart → SpacePart
with_name n s = record s { name = n }

abbrev pub name_by : Option SpacePart → Option (List ℕ)
name_by o = option_map (λ (s : SpacePart). s.name) o

-- two ids that are not one, where a third is the first
pub apart : (i w v : ConId) → same w v ≡ false → same i w ≡ true → same i v ≡ false
apart i w v h e = by (same i v) refl
  where
    by : (x : Bool) → same i v ≡ x → same i v ≡ false
    by false f = f
    by true f = let one = same_self w v (sym (same_is i w e) ∙ same_is i v f) in absurd (cc (one, h))

pub apart_back : (i w v : ConId) → same w v ≡ false → same i v ≡ true → same i w ≡ false
apart_back i w v h e = by (same i w) refl
  where
    by : (x : Bool) → same i w ≡ x → same i w ≡ false
    by false f = f
    by true f = let one = same_self w v (sym (same_is i w f) ∙ same_is i v e) in absurd (cc (one, h))

-- ---- a new name of one

kind_named : (n : List ℕ) (kind : NodeKind) → space_kind (changed (edits.Name n) kind) ≡ option_map (with_name n) (space_kind kind)
kind_named n (Root c) = refl
kind_named n (Output o) = refl
kind_named n (Space w) = refl
kind_named n (Con c) = refl

has_named : (w v : ConId) (n : List ℕ) (f : Forest) → has v (at w kind_changed (edits.Name n) f) ≡ has v f
has_named w v n end = refl
has_named w v n (con part kids floats rest) = step (same part.id w) (has w kids) (has w floats) (has_named w v n kids) (has_named w v n floats) (has_named w v n rest)
  where
    step : (a k l : Bool) → has v (at w kind_changed (edits.Name n) kids) ≡ has v kids → has v (at w kind_changed (edits.Name n) floats) ≡ has v floats → has v (at w kind_changed (edits.Name n) rest) ≡ has v rest
        → has v (cond a (kind_changed (edits.Name n) part kids floats rest) (cond k (con part (at w kind_changed (edits.Name n) kids) floats rest) (cond l (con part kids (at w kind_changed (edits.Name n) floats) rest) (con part kids floats (at w kind_changed (edits.Name n) rest))))) ≡ has v (con part kids floats rest)
    step true k l u v x = refl
    step false true l u v x = rw u refl
    step false false true u v x = rw v refl
    step false false false u v x = rw x refl

pub own_named : (w : ConId) (n : List ℕ) (f : Forest) → seen w (at w kind_changed (edits.Name n) f) ≡ option_map (with_name n) (seen w f)
own_named w n end = refl
own_named w n (con part kids floats rest) = step (same part.id w) refl (has w kids) refl (has w floats) refl (own_named w n kids) (own_named w n floats) (own_named w n rest)
  where
    step : (s : Bool) → same part.id w ≡ s → (k : Bool) → has w kids ≡ k → (l : Bool) → has w floats ≡ l
        → seen w (at w kind_changed (edits.Name n) kids) ≡ option_map (with_name n) (seen w kids) → seen w (at w kind_changed (edits.Name n) floats) ≡ option_map (with_name n) (seen w floats) → seen w (at w kind_changed (edits.Name n) rest) ≡ option_map (with_name n) (seen w rest)
        → seen w (cond s (con (record part { kind = changed (edits.Name n) part.kind }) kids floats rest) (cond k (con part (at w kind_changed (edits.Name n) kids) floats rest) (cond l (con part kids (at w kind_changed (edits.Name n) floats) rest) (con part kids floats (at w kind_changed (edits.Name n) rest)))))
        ≡ option_map (with_name n) (kind_by space_kind (first_part (cond s (con part kids floats end) (cond k (only w kids) (cond l (only w floats) (only w rest))))))
    step true es k ek l el x y z = rw es (kind_named n part.kind)
    step false es true ek l el x y z = rw (es, has_named w w n kids, ek) x
    step false es false ek true el x y z = rw (es, ek, has_named w w n floats, el) y
    step false es false ek false el x y z = rw (es, ek, el) z

-- another node is seen as before
record As (v : ConId) (old new : Forest) : Type 0 where
  there : has v new ≡ has v old
  space : seen v new ≡ seen v old

as_was : (v : ConId) (f : Forest) → As v f f
as_was v f = record { there = refl; space = refl }

module _ (v : ConId) (part : Part) (kids floats rest : Forest) where
  together : (k l r : Forest) → As v kids k → As v floats l → As v rest r → As v (con part kids floats rest) (con part k l r)
  together k l r a b d = record { there = rw (a.there, b.there, d.there) refl; space = rw (a.there, b.there) (by (same part.id v) (has v kids) (has v floats)) } where
    by : (x y z : Bool) → kind_by space_kind (first_part (cond x (con part k l end) (cond y (only v k) (cond z (only v l) (only v r))))) ≡ kind_by space_kind (first_part (cond x (con part kids floats end) (cond y (only v kids) (cond z (only v floats) (only v rest)))))
    by true y z = refl
    by false true z = a.space
    by false false true = b.space
    by false false false = d.space

other_as : (w v : ConId) (n : List ℕ) (f : Forest) → same w v ≡ false → As v f (at w kind_changed (edits.Name n) f)
other_as w v n end h = as_was v end
other_as w v n (con part kids floats rest) h =
    step (same part.id w) refl (has w kids) (has w floats) (other_as w v n kids h) (other_as w v n floats h) (other_as w v n rest h)
  where
    step : (s : Bool) → same part.id w ≡ s → (k l : Bool) → As v kids (at w kind_changed (edits.Name n) kids) → As v floats (at w kind_changed (edits.Name n) floats) → As v rest (at w kind_changed (edits.Name n) rest)
        → As v (con part kids floats rest) (cond s (con (record part { kind = changed (edits.Name n) part.kind }) kids floats rest) (cond k (con part (at w kind_changed (edits.Name n) kids) floats rest) (cond l (con part kids (at w kind_changed (edits.Name n) floats) rest) (con part kids floats (at w kind_changed (edits.Name n) rest)))))
    step true e k l x y z = record { there = refl; space = rw (apart part.id w v h e) refl }
    step false e true l x y z = together v part kids floats rest (at w kind_changed (edits.Name n) kids) floats rest x (as_was v floats) (as_was v rest)
    step false e false true x y z = together v part kids floats rest kids (at w kind_changed (edits.Name n) floats) rest (as_was v kids) y (as_was v rest)
    step false e false false x y z = together v part kids floats rest kids floats (at w kind_changed (edits.Name n) rest) (as_was v kids) (as_was v floats) z

pub other_named : (w v : ConId) (n : List ℕ) (f : Forest) → same w v ≡ false → seen v (at w kind_changed (edits.Name n) f) ≡ seen v f
other_named w v n f h = (other_as w v n f h).space

-- ---- where workspaces are found

-- among containers there is none
pub no_space : (w : ConId) (tiled : Bool) (room : ℕ) (f : Forest) → IsSoundRow containers tiled room f → seen w f ≡ None
no_space w tiled room end p = refl
no_space w tiled room (con part kids floats rest) p =
    step (same part.id w) (has w kids) (has w floats) (no_space w true (room_below room part.kind) kids p.2) (no_space w false (room_below room part.kind) floats p.3) (no_space w tiled room rest p.4)
  where
    here : (kind : NodeKind) → IsNode containers tiled room part.id kind part.marks kids → space_kind kind ≡ None
    here (Root c) n = refl
    here (Output o) n = refl
    here (Space x) n = absurd n
    here (Con c) n = refl

    step : (a k l : Bool) → seen w kids ≡ None → seen w floats ≡ None → seen w rest ≡ None
        → kind_by space_kind (first_part (cond a (con part kids floats end) (cond k (only w kids) (cond l (only w floats) (only w rest))))) ≡ None
    step true k l u v x = here part.kind p.0
    step false true l u v x = u
    step false false true u v x = v
    step false false false u v x = x

-- a workspace stands below the root
pub found_below : (u : ConId) (t : TreeValue) → IsSound t → is_space t u ≡ true → only u t.nodes ≡ only u (first_kids t.nodes)
found_below u t s h = by t.nodes (s.once u) there
  where
    there : has u (first_kids t.nodes) ≡ true
    there =
        let p = placed u t s (space_is u t h) in
        let held = held_on u p.output t s h p.held_by in
        stands_has u (first_kids t.nodes) (of_output u p.output (first_kids t.nodes) held.1)

    by : (f : Forest) → tally u f ≤ 1 → has u (first_kids f) ≡ true → only u f ≡ only u (first_kids f)
    by end once h = refl
    by (con part kids floats rest) once h = only_kids u part kids floats rest once h

-- ---- another workspace of the name

pub called_by : (n : List ℕ) (o : Option SpacePart) → name_by o ≡ Some n → space_called n o ≡ true
called_by n None h = cc
called_by n (Some s) h = let e : s.name ≡ n = cc in (bytes_eq-Decides s.name n).1 e

pub none_called : (n : List ℕ) (o : Option SpacePart) → o ≡ None → name_by o ≡ Some n → ⊥
none_called n o e h = let bad : name_by None ≡ Some n = ap name_by (sym e) ∙ h in cc

module _ (w u : ConId) (n : List ℕ) (d : same w u ≡ false) where
  row_called : (tiled : Bool) (room : ℕ) (row : Forest) → IsSoundRow spaces tiled room row → name_by (seen u row) ≡ Some n → other_in_row w n row ≡ true
  row_called tiled room end p h = cc
  row_called tiled room (con part kids floats rest) p h = step (same part.id u) refl (has u kids) (has u floats) h (row_called tiled room rest p.4)
    where
      step : (a : Bool) → same part.id u ≡ a → (k l : Bool) → name_by (kind_by space_kind (first_part (cond a (con part kids floats end) (cond k (only u kids) (cond l (only u floats) (only u rest)))))) ≡ Some n
          → (name_by (seen u rest) ≡ Some n → other_in_row w n rest ≡ true) → ((not (same part.id w) && space_called n (space_kind part.kind)) || other_in_row w n rest) ≡ true
      step true e k l h ih = rw (apart_back part.id w u d e, called_by n (space_kind part.kind) h) refl
      step false e true l h ih = absurd (none_called n (seen u kids) (no_space u true (room_below room part.kind) kids p.2) h)
      step false e false true h ih = absurd (none_called n (seen u floats) (no_space u false (room_below room part.kind) floats p.3) h)
      step false e false false h ih = either (not (same part.id w) && space_called n (space_kind part.kind)) (other_in_row w n rest) (ih h)

  outs_called : (tiled : Bool) (room : ℕ) (row : Forest) → IsSoundRow outputs tiled room row → name_by (seen u row) ≡ Some n → other_on w n row ≡ true
  outs_called tiled room end p h = cc
  outs_called tiled room (con part kids floats rest) p h = step (same part.id u) (has u kids) (has u floats) h (outs_called tiled room rest p.4)
    where
      here : (kind : NodeKind) → IsNode outputs tiled room part.id kind part.marks kids → space_kind kind ≡ None
      here (Root c) q = refl
      here (Output o) q = refl
      here (Space x) q = absurd q
      here (Con c) q = refl

      step : (a k l : Bool) → name_by (kind_by space_kind (first_part (cond a (con part kids floats end) (cond k (only u kids) (cond l (only u floats) (only u rest)))))) ≡ Some n
          → (name_by (seen u rest) ≡ Some n → other_on w n rest ≡ true) → (other_in_row w n kids || other_on w n rest) ≡ true
      step true k l h ih = absurd (none_called n (space_kind part.kind) (here part.kind p.0) h)
      step false true l h ih = rw (row_called true (room_below room part.kind) kids p.2 h) refl
      step false false true h ih = absurd (none_called n (seen u floats) (no_space u false (room_below room part.kind) floats p.3) h)
      step false false false h ih = either (other_in_row w n kids) (other_on w n rest) (ih h)

  -- another workspace that has the name is seen
  pub called_other : (t : TreeValue) → IsSound t → space_name u t ≡ Some n → other_has w n t ≡ true
  called_other t s h =
      let is : is_space t u ≡ true = some_is (seen u t.nodes) h in
      let found : name_by (seen u (first_kids t.nodes)) ≡ Some n = ap (λ z. name_by (kind_by space_kind (first_part z))) (sym (found_below u t s is)) ∙ h in
      outs_called true 32 (first_kids t.nodes) (outputs_of t.nodes s.shaped) found
    where
      some_is : (o : Option SpacePart) → name_by o ≡ Some n → is_some o ≡ true
      some_is None h = cc
      some_is (Some x) h = refl

-- ---- the workspace of a name

pub row_finds : (n : List ℕ) (w : ConId) (row : Forest) → space_in_row n row ≡ Some w → in_row w row ≡ true
row_finds n w end h = cc
row_finds n w (con part kids floats rest) h = step (space_called n (space_kind part.kind)) h (row_finds n w rest)
  where
    step : (b : Bool) → cond b (Some part.id) (space_in_row n rest) ≡ Some w → (space_in_row n rest ≡ Some w → in_row w rest ≡ true) → (same part.id w || in_row w rest) ≡ true
    step true h ih = let e : part.id ≡ w = cc in rw (same_self part.id w e) refl
    step false h ih = either (same part.id w) (in_row w rest) (ih h)

pub outs_find : (n : List ℕ) (w : ConId) (row : Forest) → space_on n row ≡ Some w → stands_on w row ≡ true
outs_find n w end h = cc
outs_find n w (con part kids floats rest) h = step (space_in_row n kids) refl h (outs_find n w rest)
  where
    step : (o : Option ConId) → space_in_row n kids ≡ o → option_or o (space_on n rest) ≡ Some w → (space_on n rest ≡ Some w → stands_on w rest ≡ true) → (in_row w kids || stands_on w rest) ≡ true
    step None e h ih = either (in_row w kids) (stands_on w rest) (ih h)
    step (Some v) e h ih = rw (row_finds n w kids (e ∙ h)) refl
