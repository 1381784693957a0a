-- Changes of one node that keep what is below another one.
use Rattle.std.proofs.Common.{◌≡◌, Bool, true, false, cond, ◌||◌, refl, ap}
use Rattle.wm_base.specs.declared.ids.ConId.{ConId}
use Rattle.wm_forest.proofs.ChangeLemmas.{by_change}
use Rattle.wm_forest.specs.Change.{at}
use Rattle.wm_forest.specs.declared.part.Part.{Part}
use Rattle.wm_forest.specs.Forest.{Forest, end, con}
use Rattle.wm_forest.specs.Look.{has, only, same}

-- c and w are there as before, and c is below w as before
pub record StaysBelow (c w : ConId) (old new : Forest) : Type 0 where
  pub one : has c new ≡ has c old
  pub space : has w new ≡ has w old
  pub under : has c (only w new) ≡ has c (only w old)

module _ {X : Type 0} (c w x : ConId) (f : X → Part → Forest → Forest → Forest → Forest) (y : X) (A : Forest → Type 0)
    (here : (part : Part) (kids floats rest : Forest) → A (con part kids floats end) → StaysBelow c w (con part kids floats rest) (f y part kids floats rest))
  where
    pub stays_at : (g : Forest) → A (only x g) → StaysBelow c w g (at x f y g)
    stays_at =
        by_change x f y (λ old new found. A found → StaysBelow c w old new) (λ a. record { one = refl; space = refl; under = refl }) here
        (λ part kids floats rest new found p a.
        let s = p a in record { one = ap (λ z. same part.id c || z || has c floats || has c rest) s.one; space = ap (λ z. same part.id w || z || has w floats || has w rest) s.space; under = by_kids (same part.id w) part kids floats rest new s })
        (λ part kids floats rest new found p a.
        let s = p a in record { one = ap (λ z. same part.id c || has c kids || z || has c rest) s.one; space = ap (λ z. same part.id w || has w kids || z || has w rest) s.space; under = by_floats (same part.id w) (has w kids) part kids floats rest new s })
        (λ part kids floats rest new found p a.
        let s = p a in record { one = ap (λ z. same part.id c || has c kids || has c floats || z) s.one; space = ap (λ z. same part.id w || has w kids || has w floats || z) s.space; under = by_rest (same part.id w) (has w kids) (has w floats) part kids floats rest new s })
      where
        by_kids : (a : Bool) (part : Part) (kids floats rest new : Forest) → StaysBelow c w kids new
            → has c (cond a (con part new floats end) (cond (has w new) (only w new) (cond (has w floats) (only w floats) (only w rest))))
            ≡ has c (cond a (con part kids floats end) (cond (has w kids) (only w kids) (cond (has w floats) (only w floats) (only w rest))))
        by_kids true part kids floats rest new s = ap (λ z. same part.id c || z || has c floats || false) s.one
        by_kids false part kids floats rest new s = rw s.space (choose (has w kids))
          where
            choose : (b : Bool) → has c (cond b (only w new) (cond (has w floats) (only w floats) (only w rest))) ≡ has c (cond b (only w kids) (cond (has w floats) (only w floats) (only w rest)))
            choose true = s.under
            choose false = refl

        by_floats : (a k : Bool) (part : Part) (kids floats rest new : Forest) → StaysBelow c w floats new
            → has c (cond a (con part kids new end) (cond k (only w kids) (cond (has w new) (only w new) (only w rest))))
            ≡ has c (cond a (con part kids floats end) (cond k (only w kids) (cond (has w floats) (only w floats) (only w rest))))
        by_floats true k part kids floats rest new s = ap (λ z. same part.id c || has c kids || z || false) s.one
        by_floats false true part kids floats rest new s = refl
        by_floats false false part kids floats rest new s = rw s.space (choose (has w floats))
          where
            choose : (b : Bool) → has c (cond b (only w new) (only w rest)) ≡ has c (cond b (only w floats) (only w rest))
            choose true = s.under
            choose false = refl

        by_rest : (a k l : Bool) (part : Part) (kids floats rest new : Forest) → StaysBelow c w rest new
            → has c (cond a (con part kids floats end) (cond k (only w kids) (cond l (only w floats) (only w new))))
            ≡ has c (cond a (con part kids floats end) (cond k (only w kids) (cond l (only w floats) (only w rest))))
        by_rest true k l part kids floats rest new s = refl
        by_rest false true l part kids floats rest new s = refl
        by_rest false false true part kids floats rest new s = refl
        by_rest false false false part kids floats rest new s = s.under
