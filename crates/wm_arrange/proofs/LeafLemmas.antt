-- The windows and placeholders of a row, and below it, are told by their ids.
use Rattle.std.proofs.Common.{◌≡◌, ◌+◌, ◌≤◌, Bool, true, false, ◌||◌, refl, sym, ◌∙◌, arith}
use Rattle.wm_base.specs.declared.ids.ConId.{ConId}
use Rattle.wm_forest.specs.declared.part.Part.{Part}
use Rattle.wm_forest.specs.Forest.{Forest, end, con}
use Rattle.wm_forest.specs.Look.{same}
use Rattle.wm_forest.specs.SoundRow.{tally}
use Rattle.wm_forest.proofs.RecencyLemmas.{same_self}
use Rattle.wm_arrange.specs.Cover.{is_leaf, leaf_in}

-- the test tells the windows and placeholders of the row, and below it
abbrev pub Tells : (ConId → Bool) → Forest → Type 0
Tells leaf end = Unit {0}
Tells leaf (con part kids floats rest) = (leaf part.id ≡ is_leaf part.kind) × Tells leaf kids × Tells leaf rest

or_false : (b : Bool) → (b || false) ≡ b
or_false true = refl
or_false false = refl

absent_by : (b : Bool) (part : Part) (kids floats rest : Forest) (c : ConId) → same part.id c ≡ b → (tally c kids ≡ 0 → leaf_in kids c ≡ false) → (tally c rest ≡ 0 → leaf_in rest c ≡ false)
    → tally c (con part kids floats rest) ≡ 0 → leaf_in (con part kids floats rest) c ≡ false
absent_by true part kids floats rest c e f g h = let bad : 1 + tally c kids + tally c floats + tally c rest ≡ 0 = rw e at h in absurd (omega (arith, bad))
absent_by false part kids floats rest c e f g h = rw (e, f (omega (arith, h)), g (omega (arith, h))) refl

pub leaf-absent : (f : Forest) (c : ConId) → tally c f ≡ 0 → leaf_in f c ≡ false
leaf-absent end c h = refl
leaf-absent (con part kids floats rest) c h = absent_by (same part.id c) part kids floats rest c refl (leaf-absent kids c) (leaf-absent rest c) h

pub here_once : (part : Part) (kids floats rest : Forest) → tally part.id (con part kids floats rest) ≡ 1 + tally part.id kids + tally part.id floats + tally part.id rest
here_once part kids floats rest = rw (same_self part.id part.id refl) refl

tells_more : (P Q : ConId → Bool) (f : Forest) → ((v : ConId) → 1 ≤ tally v f → P v ≡ Q v) → Tells P f → Tells Q f
tells_more P Q end h t = tt
tells_more P Q (con part kids floats rest) h t = (
  sym (h part.id (omega (arith, here_once part kids floats rest))) ∙ t.0,
  tells_more P Q kids (λ v k. h v (omega (arith, k))) t.1,
  tells_more P Q rest (λ v k. h v (omega (arith, k))) t.2,
)

not_first : (b : Bool) (part : Part) (kids floats rest : Forest) (v : ConId) → same part.id v ≡ b → tally v (con part kids floats rest) ≤ 1 → 1 ≤ tally v kids + tally v rest → b ≡ false
not_first true part kids floats rest v e once more = let much : 1 + tally v kids + tally v floats + tally v rest ≤ 1 = rw e at once in absurd (omega (arith, much, more))
not_first false part kids floats rest v e once more = refl

-- where each id is there once, an id tells whether it is one of a window or placeholder
pub tells_leaves : (f : Forest) → ((c : ConId) → tally c f ≤ 1) → Tells (leaf_in f) f
tells_leaves end once = tt
tells_leaves (con part kids floats rest) once =
    let f = con part kids floats rest in
    let own = here_once part kids floats rest in
    let none_below : leaf_in kids part.id ≡ false = leaf-absent kids part.id (omega (arith, own, once part.id)) in
    let none_behind : leaf_in rest part.id ≡ false = leaf-absent rest part.id (omega (arith, own, once part.id)) in
    let in_kids : (v : ConId) → 1 ≤ tally v kids → leaf_in kids v ≡ leaf_in f v
    = λ v h. let no_rest : leaf_in rest v ≡ false = leaf-absent rest v (omega (arith, h, once v)) in
    rw (not_first (same part.id v) part kids floats rest v refl (once v) (omega (arith, h)), no_rest) (sym (or_false (leaf_in kids v))) in
    let in_rest : (v : ConId) → 1 ≤ tally v rest → leaf_in rest v ≡ leaf_in f v
    = λ v h. let no_kids : leaf_in kids v ≡ false = leaf-absent kids v (omega (arith, h, once v)) in
    rw (not_first (same part.id v) part kids floats rest v refl (once v) (omega (arith, h)), no_kids) refl in (
      rw (same_self part.id part.id refl, none_below, none_behind) (or_false (is_leaf part.kind)),
      tells_more (leaf_in kids) (leaf_in f) kids in_kids (tells_leaves kids (λ c. omega (arith, once c))),
      tells_more (leaf_in rest) (leaf_in f) rest in_rest (tells_leaves rest (λ c. omega (arith, once c))),
    )
