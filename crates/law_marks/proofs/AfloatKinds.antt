-- What is kept of a container's kind: a rectangle is within the limits, and without a share it is a window with a rectangle.
use Rattle.std.proofs.Common.{◌≡◌, ℕ, Bool, true, false, ◌&&◌, Some, refl, ap, sym, ◌∙◌, subst, arith}
use Rattle.std.specs.Prelude.{List, is_some}
use Rattle.std.specs.Option.{option_map}
use Rattle.wm_base.specs.declared.geometry.Size.{Size}
use Rattle.wm_base.specs.declared.plan.Layout.{Layout}
use Rattle.wm_base.specs.declared.properties.Props.{Props}
use Rattle.law_lasting.specs.Changes.{is_calm}
use Rattle.law_lasting.specs.Each.{Each}
use Rattle.law_lasting.specs.Rects.{FitsKind, FitsRect, GivesShare}
use Rattle.wm_forest.specs.Change.{is_window_kind}
use Rattle.wm_forest.specs.Change.{unfull_kind}
use Rattle.wm_forest.specs.declared.kind.KindEdit.{KindEdit}
use Rattle.wm_forest.specs.declared.kind.KindEdit.TheVariants as edits
use Rattle.wm_forest.specs.declared.part.ConKind.{ConKind}
use Rattle.wm_forest.specs.declared.part.ConKind.TheVariants.{Split, Window, Placeholder}
use Rattle.wm_forest.specs.declared.part.ConPart.{ConPart}
use Rattle.wm_forest.specs.declared.part.ConState.{ConState}
use Rattle.wm_forest.specs.declared.part.NodeKind.{NodeKind}
use Rattle.wm_forest.specs.declared.part.NodeKind.TheVariants.{Root, Output, Space, Con}
use Rattle.wm_forest.specs.declared.part.Part.{Part}
use Rattle.wm_forest.specs.Forest.{Forest, end, con}
use Rattle.wm_forest.specs.Kinds.{changed, filled, laid_out, titled}
use Rattle.wm_forest.specs.Look.{con_kind}

abbrev pub IsRight : NodeKind → Type 0
IsRight (Root c) = Unit {0}
IsRight (Output o) = Unit {0}
IsRight (Space s) = Unit {0}
IsRight (Con c) = FitsRect c.state.rect × (c.share ≡ 0 → (is_window_kind c.kind && is_some c.state.rect) ≡ true)

abbrev pub Right : Part → Type 0
Right p = IsRight p.kind

pub both : (a b : Bool) → (a && b) ≡ true → (a ≡ true) × (b ≡ true)
both true b h = (refl, h)
both false b h = cc

pub and_true : (a b : Bool) → a ≡ true → b ≡ true → (a && b) ≡ true
and_true a b p q = rw (p, q) refl

pub right_unfull : (kind : NodeKind) → IsRight kind → IsRight (unfull_kind kind)
right_unfull (Root c) h = h
right_unfull (Output o) h = h
right_unfull (Space s) h = h
right_unfull (Con c) h = h

fits_kind : (kind : NodeKind) → IsRight kind → FitsKind kind
fits_kind (Root c) h = tt
fits_kind (Output o) h = tt
fits_kind (Space s) h = tt
fits_kind (Con c) h = h.0

pub rects_of : (f : Forest) → Each Right f → Each (λ part. FitsKind part.kind) f
rects_of end p = tt
rects_of (con part kids floats rest) p = (fits_kind part.kind p.0, rects_of kids p.1, rects_of floats p.2, rects_of rest p.3)

-- ---- changes

laid_window : (l : Layout) (kind : ConKind) → is_window_kind (laid_out l kind) ≡ is_window_kind kind
laid_window l (Split layout last) = refl
laid_window l (Window props owner natural) = refl
laid_window l (Placeholder props swallows) = refl

titled_window : (t : List ℕ) (kind : ConKind) → is_window_kind (titled t kind) ≡ is_window_kind kind
titled_window t (Split layout last) = refl
titled_window t (Window props owner natural) = refl
titled_window t (Placeholder props swallows) = refl

filled_window : (props : Props) (owner : ℕ) (natural : Size) (kind : ConKind) (b : Bool) → (is_window_kind kind && b) ≡ true → (is_window_kind (filled props owner natural kind) && b) ≡ true
filled_window props owner natural (Split layout last) b h = h
filled_window props owner natural (Window p o n) b h = h
filled_window props owner natural (Placeholder p swallows) b h = cc

pub right_changed : (edit : KindEdit) (kind : NodeKind) → is_calm edit ≡ true → GivesShare edit → IsRight kind → IsRight (changed edit kind)
right_changed edit (Root c) calm gives h = by_edit edit
  where
    by_edit : (e : KindEdit) → IsRight (changed e (Root c))
    by_edit (edits.Current o) = tt
    by_edit other = tt
right_changed edit (Output o) calm gives h = by_edit edit
  where
    by_edit : (e : KindEdit) → IsRight (changed e (Output o))
    by_edit (edits.Shown w) = tt
    by_edit other = tt
right_changed edit (Space s) calm gives h = by_edit edit
  where
    by_edit : (e : KindEdit) → IsRight (changed e (Space s))
    by_edit (edits.Name n) = tt
    by_edit other = tt
right_changed edit (Con c) calm gives h = by_edit edit calm gives
  where
    by_edit : (e : KindEdit) → is_calm e ≡ true → GivesShare e → IsRight (changed e (Con c))
    by_edit (edits.State s) z g = cc
    by_edit (edits.Share n) z g = (h.0, λ e. absurd (omega (arith, g, e)))
    by_edit (edits.Fill props owner natural) z g = (h.0, λ e. filled_window props owner natural c.kind (is_some c.state.rect) (h.1 e))
    by_edit (edits.Layout l) z g = (h.0, λ e. ap (λ b. b && is_some c.state.rect) (laid_window l c.kind) ∙ h.1 e)
    by_edit (edits.Title t) z g = (h.0, λ e. ap (λ b. b && is_some c.state.rect) (titled_window t c.kind) ∙ h.1 e)
    by_edit other z g = h

pub right_named : (n : List ℕ) (kind : NodeKind) → IsRight kind → IsRight (changed (edits.Name n) kind)
right_named n (Root c) h = tt
right_named n (Output o) h = tt
right_named n (Space s) h = tt
right_named n (Con c) h = h

pub right_state : (old now : ConState) (kind : NodeKind) → option_map (λ (q : ConPart). q.state) (con_kind kind) ≡ Some old → (FitsRect old.rect → FitsRect now.rect) → (is_some old.rect ≡ true → is_some now.rect ≡ true)
    → IsRight kind → IsRight (changed (edits.State now) kind)
right_state old now (Root d) g rects some h = cc
right_state old now (Output o) g rects some h = cc
right_state old now (Space w) g rects some h = cc
right_state old now (Con d) g rects some h =
    let one : d.state ≡ old = cc in (
      rects (subst (λ (z : ConState). FitsRect z.rect) one h.0),
      λ e.
          let b = both (is_window_kind d.kind) (is_some d.state.rect) (h.1 e) in
          and_true (is_window_kind d.kind) (is_some now.rect) b.0 (some (ap (λ (z : ConState). is_some z.rect) (sym one) ∙ b.1)),
    )
