-- What a change leaves of what it brings along, and rows put together by a test.
use Rattle.std.proofs.Common.{◌≡◌, Bool, true, false, if◌then◌else◌, Option, None, Some, MatchOption, refl, sym, ◌∙◌, ap}
use Rattle.std.proofs.lemmas.Bool.{false≢true}
use Rattle.wm_base.specs.declared.ids.ConId.{ConId}
use Rattle.wm_forest.specs.declared.change.TakeOut.{TakeOut}
use Rattle.wm_forest.specs.declared.part.Part.{Part}
use Rattle.wm_forest.specs.declared.row.Cell.{Cell}
use Rattle.wm_forest.specs.declared.sticky.Loosen.{Loosen}
use Rattle.wm_forest.specs.Change.{append}
use Rattle.wm_forest.specs.Forest.{Forest, end, con}
use Rattle.wm_forest.specs.Look.{same, has, only, first_floats}
use Rattle.wm_forest.specs.Passing.{first_or, kept_onto, onto, taken_onto}
use Rattle.wm_forest.specs.Row.{alone}
use Rattle.wm_forest.specs.Sticky.{is_sticky, loose, sticky, sticky_in}
use Rattle.wm_forest.proofs.ForestLemmas.{append_end}

-- a node that is in a forest stands alone, one that is not leaves nothing
data Held (c : ConId) (forest : Forest) : Type 0 where
  here : (part : Part) (kids floats : Forest) → has c forest ≡ true → only c forest ≡ con part kids floats end → Held c forest
  away : has c forest ≡ false → only c forest ≡ end → Held c forest

held_by : (c : ConId) (part : Part) (kids floats rest : Forest) (s k f : Bool) → same part.id c ≡ s → has c kids ≡ k → has c floats ≡ f
    → Held c kids → Held c floats → Held c rest → Held c (con part kids floats rest)
held_by c part kids floats rest true k f es ek ef hk hf hr = here part kids floats (rw es refl) (rw es refl)
held_by c part kids floats rest false true f es ek ef (here p a b h o) hf hr = here p a b (rw (es, ek) refl) (rw (es, ek) o)
held_by c part kids floats rest false true f es ek ef (away h o) hf hr = absurd (false≢true (sym h ∙ ek))
held_by c part kids floats rest false false true es ek ef hk (here p a b h o) hr = here p a b (rw (es, ek, ef) refl) (rw (es, ek, ef) o)
held_by c part kids floats rest false false true es ek ef hk (away h o) hr = absurd (false≢true (sym h ∙ ef))
held_by c part kids floats rest false false false es ek ef hk hf (here p a b h o) = here p a b (rw (es, ek, ef) h) (rw (es, ek, ef) o)
held_by c part kids floats rest false false false es ek ef hk hf (away h o) = away (rw (es, ek, ef) h) (rw (es, ek, ef) o)

held : (c : ConId) (forest : Forest) → Held c forest
held c end = away refl refl
held c (con part kids floats rest) = held_by c part kids floats rest (same part.id c) (has c kids) (has c floats) refl refl refl (held c kids) (held c floats) (held c rest)

change_by : {E : Type 0} (edit : E) (c : ConId) (forest : Forest) → Held c forest
    → MatchOption (first_or (λ (x : Option E) (part : Part) (kids floats : Forest). None) (Some edit) (only c forest)) (has c forest ≡ true) (λ e. (has c forest ≡ false) × (e ≡ edit))
change_by edit c forest (here part kids floats h o) = rw o h
change_by edit c forest (away h o) = rw o (h, refl)

-- a change is left exactly where the node is not there
pub change_left : {E : Type 0} (edit : E) (c : ConId) (forest : Forest)
    → MatchOption (first_or (λ (x : Option E) (part : Part) (kids floats : Forest). None) (Some edit) (only c forest)) (has c forest ≡ true) (λ e. (has c forest ≡ false) × (e ≡ edit))
change_left edit c forest = change_by edit c forest (held c forest)

swap_by : (spare : Cell) (c : ConId) (forest : Forest) → Held c forest
    → alone (first_or (λ x part kids floats. record x { part = part; kids = kids; floats = floats }) spare (only c forest)) ≡ (if has c forest then only c forest else alone spare)
swap_by spare c forest (here part kids floats h o) = rw (h, o) refl
swap_by spare c forest (away h o) = rw (h, o) refl

-- what a spare cell is after it changed places with the node
pub swap_taken : (spare : Cell) (c : ConId) (forest : Forest)
    → alone (first_or (λ x part kids floats. record x { part = part; kids = kids; floats = floats }) spare (only c forest)) ≡ (if has c forest then only c forest else alone spare)
swap_taken spare c forest = swap_by spare c forest (held c forest)

out_by : (x : TakeOut) (c : ConId) (forest : Forest) → Held c forest → has c forest ≡ true
    → (first_or (λ (y : TakeOut) part kids floats. record { 0 = con part kids floats end }) x (only c forest)).0 ≡ only c forest
out_by x c forest (here part kids floats h o) there = rw o refl
out_by x c forest (away h o) there = absurd (false≢true (sym h ∙ there))

-- what was taken out is the node alone
pub out_taken : (x : TakeOut) (c : ConId) (forest : Forest) → has c forest ≡ true
    → (first_or (λ (y : TakeOut) part kids floats. record { 0 = con part kids floats end }) x (only c forest)).0 ≡ only c forest
out_taken x c forest there = out_by x c forest (held c forest) there

loose_by : (x : Loosen) (c : ConId) (row : Forest)
    → (first_or (λ (y : Loosen) part kids floats. record { 0 = append (sticky floats) y.0 }) x row).0 ≡ append (sticky (first_floats row)) x.0
loose_by x c end = refl
loose_by x c (con part kids floats rest) = refl

-- the sticky windows of the node before those taken so far
pub loosen_taken : (x : Loosen) (c : ConId) (forest : Forest)
    → (first_or (λ (y : Loosen) part kids floats. record { 0 = append (sticky floats) y.0 }) x (only c forest)).0 ≡ append (sticky (first_floats (only c forest))) x.0
loosen_taken x c forest = loose_by x c (only c forest)

-- ---- sticky nodes

kept_choice : (v : Bool) (part : Part) (kids floats row c : Forest) → append (if v then row else con part kids floats row) c ≡ (if v then append row c else con part kids floats (append row c))
kept_choice true part kids floats row c = refl
kept_choice false part kids floats row c = refl

taken_choice : (v : Bool) (part : Part) (kids floats row c : Forest) → append (if v then con part kids floats row else row) c ≡ (if v then con part kids floats (append row c) else append row c)
taken_choice true part kids floats row c = refl
taken_choice false part kids floats row c = refl

loose_onto : (a b c : Forest) → kept_onto sticky_in (onto a b) c ≡ kept_onto sticky_in b (append (loose a) c)
loose_onto end b c = refl
loose_onto (con part kids floats rest) b c =
    loose_onto rest (con part kids floats b) c ∙ ap (λ z. kept_onto sticky_in b z) (sym (kept_choice (is_sticky part.kind) part kids floats (loose rest) c))

sticky_onto : (a b c : Forest) → taken_onto sticky_in (onto a b) c ≡ taken_onto sticky_in b (append (sticky a) c)
sticky_onto end b c = refl
sticky_onto (con part kids floats rest) b c =
    sticky_onto rest (con part kids floats b) c ∙ ap (λ z. taken_onto sticky_in b z) (sym (taken_choice (is_sticky part.kind) part kids floats (sticky rest) c))

-- a row taken apart, and its other nodes put together
pub loose_turned : (row : Forest) → kept_onto sticky_in (onto row end) end ≡ loose row
loose_turned row = loose_onto row end end ∙ append_end (loose row)

-- and its sticky nodes before another row
pub sticky_turned : (row taken : Forest) → taken_onto sticky_in (onto row end) taken ≡ append (sticky row) taken
sticky_turned row taken = sticky_onto row end taken
