-- A workspace that is renamed has its new name, and names differ as before.
use Rattle.std.proofs.Common.{◌≡◌, ◌≢◌, ℕ, Bool, true, false, cond, List, Option, None, Some, refl, ap, sym, ◌∙◌, subst}
use Rattle.std.specs.Prelude.{is_some}
use Rattle.std.specs.Option.{option_map}
use Rattle.wm_base.specs.declared.errors.ErrorText.TheVariants as texts
use Rattle.wm_base.specs.declared.errors.Refusal.TheVariants.{NameTaken}
use Rattle.wm_base.specs.declared.ids.ConId.{ConId}
use Rattle.law_workspaces.proofs.NameLemmas.{called_other, name_by, other_named, outs_find, own_named, seen, with_name}
use Rattle.law_workspaces.specs.Renamed.{IsRenamed, Renames, SpaceNamesDiffer}
use Rattle.wm_shared.proofs.StandingLemmas.{shown_stands, stands_space}
use Rattle.wm_shared.specs.Refusing.{error_if}
use Rattle.wm_shared.specs.Showing.{space_name}
use Rattle.wm_shared.specs.Subject.{is_space}
use Rattle.wm_spaces.specs.Names.{is_reserved, other_has}
use Rattle.wm_spaces.specs.Renaming.{renamed, renamed_space, renaming_refusal}
use Rattle.wm_forest.proofs.RecencyLemmas.{same_is}
use Rattle.wm_forest.specs.declared.part.SpacePart.{SpacePart}
use Rattle.wm_forest.specs.Look.{first_kids, same}
use Rattle.wm_tree.specs.Sound.{IsSound}
use Rattle.wm_tree.specs.TreeValue.{TreeValue, shown}

some_named : (n : List ℕ) (o : Option SpacePart) → is_some o ≡ true → name_by (option_map (with_name n) o) ≡ Some n
some_named n None h = cc
some_named n (Some s) h = refl

-- the workspace that is renamed is one
is_renamed_space : (was : Option (List ℕ)) (w : ConId) (t : TreeValue) → IsSound t → renamed_space was t ≡ Some w → is_space t w ≡ true
is_renamed_space None w t s e = let one : shown t ≡ w = cc in subst (λ z. is_space t z ≡ true) one (stands_space (shown t) t s (shown_stands t s))
is_renamed_space (Some n) w t s e = stands_space w t s (outs_find n w (first_kids t.nodes) e)

-- no other one has the name
none_other : (a b : Bool) → error_if a texts.NameReserved (cond b (Some NameTaken) None) ≡ None → b ≡ false
none_other true b h = cc
none_other false true h = cc
none_other false false h = refl

module _ (w : ConId) (name : List ℕ) (t : TreeValue) (s : IsSound t) (ok : is_space t w ≡ true) (free : other_has w name t ≡ false) where
  new : TreeValue
  new = renamed (Some w) name t

  own : space_name w (renamed (Some w) name t) ≡ Some name
  own = ap name_by (own_named w name t.nodes) ∙ some_named name (seen w t.nodes) ok

  other : (v : ConId) → same w v ≡ false → space_name v (renamed (Some w) name t) ≡ space_name v t
  other v h = ap name_by (other_named w v name t.nodes h)

  -- no other one has the new name afterwards
  not_other : (u : ConId) (n : List ℕ) → same w u ≡ false → space_name u (renamed (Some w) name t) ≡ Some n → name ≡ n → ⊥
  not_other u n h e one =
      let called : other_has w name t ≡ true = called_other w u name h t s (sym (other u h) ∙ (e ∙ ap (λ z. Some z) (sym one))) in
      cc (called, free)

  differs : SpaceNamesDiffer t → SpaceNamesDiffer (renamed (Some w) name t)
  differs d v u n ev eu = by (same w v) refl (same w u) refl
    where
      mine : (x : ConId) → same w x ≡ true → space_name x (renamed (Some w) name t) ≡ Some n → name ≡ n
      mine x h e =
          let at_w : space_name w (renamed (Some w) name t) ≡ Some n = ap (λ z. space_name z (renamed (Some w) name t)) (same_is w x h) ∙ e in
          let both : Some name ≡ Some n = sym own ∙ at_w in
          cc

      by : (a : Bool) → same w v ≡ a → (b : Bool) → same w u ≡ b → v ≡ u
      by true ha true hb = sym (same_is w v ha) ∙ same_is w u hb
      by true ha false hb = absurd (not_other u n hb eu (mine v ha ev))
      by false ha true hb = absurd (not_other v n ha ev (mine u hb eu))
      by false ha false hb = d v u n (sym (other v ha) ∙ ev) (sym (other u hb) ∙ eu)

  not_same : (v : ConId) → v ≢ w → same w v ≡ false
  not_same v ne = by (same w v) refl
    where
      by : (b : Bool) → same w v ≡ b → same w v ≡ false
      by false e = e
      by true e = absurd (ne (sym (same_is w v e)))

  renaming : IsRenamed w name t (renamed (Some w) name t)
  renaming = record { named = own; others = λ v ne. other v (not_same v ne); differ = differs }

pub renames : Renames
renames was name w t s fine e =
    let ok = is_renamed_space was w t s e in
    let free : other_has w name t ≡ false = none_other (is_reserved name) (other_has w name t) (subst (λ z. renaming_refusal z name t ≡ None) e fine) in
    subst (λ z. IsRenamed w name t (renamed z name t)) (sym e) (renaming w name t s ok free)
