-- Where a tiled container or a workspace stands in a forest in which each id is there once.
use Rattle.std.proofs.Common.{◌≡◌, ℕ, ◌+◌, ◌≤◌, Bool, true, false, cond, refl, subst, ◌∙◌, arith}
use Rattle.wm_base.specs.declared.ids.ConId.{ConId}
use Rattle.wm_forest.specs.declared.part.Part.{Part}
use Rattle.wm_forest.specs.Change.{is_end}
use Rattle.wm_forest.specs.Forest.{Forest, end, con}
use Rattle.wm_forest.specs.Look.{same}
use Rattle.wm_forest.specs.SoundRow.{one_of, tally}
use Rattle.wm_arrange.specs.CoverTree.{inner_at, inner_or, or_row, tiled_at}
use Rattle.wm_arrange.proofs.LeafLemmas.{here_once}

-- ---- what is found is there

fewer_of : (d : ConId) (n : ℕ) (b : Bool) (first behind : Forest) → tally d first ≤ n → tally d behind ≤ n → tally d (cond b first behind) ≤ n
fewer_of d n true first behind p q = p
fewer_of d n false first behind p q = q

fewer_row : (d : ConId) (n : ℕ) (below behind : Forest) → tally d below ≤ n → tally d behind ≤ n → tally d (or_row below behind) ≤ n
fewer_row d n end behind p q = q
fewer_row d n (con part kids floats rest) behind p q = p

pub tiled-within : (c d : ConId) (row : Forest) → tally d (tiled_at c row) ≤ tally d row
tiled-within c d end = omega arith
tiled-within c d (con part kids floats rest) =
    let n : ℕ = tally d (con part kids floats rest) in
    fewer_of d n (same part.id c) (con part kids end end) (or_row (tiled_at c kids) (tiled_at c rest)) (omega arith)
    (fewer_row d n (tiled_at c kids) (tiled_at c rest) (omega (arith, tiled-within c d kids)) (omega (arith, tiled-within c d rest)))

there_row : (c : ConId) (below behind : Forest) → (is_end below ≡ false → 1 ≤ tally c below) → (is_end behind ≡ false → 1 ≤ tally c behind) → is_end (or_row below behind) ≡ false → 1 ≤ tally c (or_row below behind)
there_row c end behind p q h = q h
there_row c (con part kids floats rest) behind p q h = p refl

there_by : (c : ConId) (part : Part) (kids more : Forest) (b : Bool) → same part.id c ≡ b → (is_end more ≡ false → 1 ≤ tally c more) → is_end (cond b (con part kids end end) more) ≡ false → 1 ≤ tally c (cond b (con part kids end end) more)
there_by c part kids more true e p h = rw e (omega arith)
there_by c part kids more false e p h = p h

-- a node that is found has the id
pub tiled-there : (c : ConId) (row : Forest) → is_end (tiled_at c row) ≡ false → 1 ≤ tally c (tiled_at c row)
tiled-there c end h = cc
tiled-there c (con part kids floats rest) h =
    there_by c part kids (or_row (tiled_at c kids) (tiled_at c rest)) (same part.id c) refl
    (there_row c (tiled_at c kids) (tiled_at c rest) (tiled-there c kids) (tiled-there c rest)) h

-- ---- the first node of a row, what is below it, or what is behind it has it

module _ (c : ConId) (target : Forest) (A : Type 0) (part : Part) (kids floats rest : Forest) (once : (d : ConId) → tally d (con part kids floats rest) ≤ 1) where
  within : (row : Forest) → tiled_at c row ≡ target → (d : ConId) → tally d target ≤ tally d row
  within row e d = subst (λ z. tally d z ≤ tally d row) e (tiled-within c d row)

  -- the node itself is none of it
  gone_by : (row : Forest) → tiled_at c row ≡ target → tally part.id row ≤ tally part.id kids + tally part.id rest → tally part.id target ≡ 0
  gone_by row e less = omega (arith, within row e part.id, less, here_once part kids floats rest, once part.id)

  by_kids : same part.id c ≡ false → (u : Forest) → tiled_at c kids ≡ u → or_row u (tiled_at c rest) ≡ target
      → (tiled_at c kids ≡ target → tally part.id target ≡ 0 → inner_at c (con part kids floats rest) ≡ inner_or part.kind (inner_at c kids) → A)
      → (tiled_at c rest ≡ target → tally part.id target ≡ 0 → inner_at c (con part kids floats rest) ≡ inner_at c rest → A) → A
  by_kids e end none found below behind = behind found (gone_by rest found (omega arith)) (rw (e, none) refl)
  by_kids e (con p k l r) some found below behind = below (some ∙ found) (gone_by kids (some ∙ found) (omega arith)) (rw (e, some) refl)

  by_first : (b : Bool) → same part.id c ≡ b → cond b (con part kids end end) (or_row (tiled_at c kids) (tiled_at c rest)) ≡ target
      → (same part.id c ≡ true → con part kids end end ≡ target → inner_at c (con part kids floats rest) ≡ inner_or part.kind 0 → A)
      → (tiled_at c kids ≡ target → tally part.id target ≡ 0 → inner_at c (con part kids floats rest) ≡ inner_or part.kind (inner_at c kids) → A)
      → (tiled_at c rest ≡ target → tally part.id target ≡ 0 → inner_at c (con part kids floats rest) ≡ inner_at c rest → A) → A
  by_first true e found here below behind = here e found (rw e refl)
  by_first false e found here below behind = by_kids e (tiled_at c kids) refl found below behind

  pub stands_at : tiled_at c (con part kids floats rest) ≡ target
      → (same part.id c ≡ true → con part kids end end ≡ target → inner_at c (con part kids floats rest) ≡ inner_or part.kind 0 → A)
      → (tiled_at c kids ≡ target → tally part.id target ≡ 0 → inner_at c (con part kids floats rest) ≡ inner_or part.kind (inner_at c kids) → A)
      → (tiled_at c rest ≡ target → tally part.id target ≡ 0 → inner_at c (con part kids floats rest) ≡ inner_at c rest → A) → A
  stands_at found here below behind = by_first (same part.id c) refl found here below behind

  -- what is not below a node has none of it
  pub apart_here : con part kids end end ≡ target → (row : Forest) → ((d : ConId) → tally d row ≤ tally d floats + tally d rest) → (d : ConId) → 1 ≤ tally d row → tally d target ≡ 0
  apart_here e row less d k =
      let all : tally d target ≤ one_of d part + tally d kids = subst (λ z. tally d z ≤ one_of d part + tally d kids) e (omega arith) in
      omega (arith, all, less d, k, once d)

  pub apart_below : tiled_at c kids ≡ target → (row : Forest) → ((d : ConId) → tally d row ≤ tally d floats + tally d rest) → (d : ConId) → 1 ≤ tally d row → tally d target ≡ 0
  apart_below e row less d k = omega (arith, within kids e d, less d, k, once d)

  pub apart_behind : tiled_at c rest ≡ target → (row : Forest) → ((d : ConId) → tally d row ≤ tally d kids + tally d floats) → (d : ConId) → 1 ≤ tally d row → tally d target ≡ 0
  apart_behind e row less d k = omega (arith, within rest e d, less d, k, once d)
