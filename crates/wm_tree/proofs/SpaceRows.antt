-- A workspace that is taken from its output: what is left of the rows of a tree, and what was taken.
use Rattle.std.proofs.Common.{◌≡◌, ◌≢◌, ℕ, ◌≤◌, Bool, true, false, cond, ◌||◌, List, Option, None, Some, refl, ap, sym, ◌∙◌, subst, arith}
use Rattle.wm_base.specs.declared.ids.ConId.{ConId}
use Rattle.wm_forest.specs.declared.part.Part.{Part}
use Rattle.wm_forest.specs.declared.part.NodeKind.{NodeKind}
use Rattle.wm_forest.specs.declared.part.NodeKind.TheVariants.{Root, Output, Space, Con}
use Rattle.wm_forest.specs.declared.spot.Spot.{Spot}
use Rattle.wm_forest.specs.Forest.{Forest, end, con}
use Rattle.wm_forest.specs.Change.{is_id, shown_of, without}
use Rattle.wm_forest.specs.Counts.{count, row_length}
use Rattle.wm_forest.specs.Look.{first_kids, first_part, has, in_row, kind_by, kind_of, only, output_kind, same, space_kind}
use Rattle.wm_tree.specs.Outputs.{IsNotShown, IsOutput, shows}
use Rattle.wm_forest.specs.SoundRow.{Level, roots, outputs, spaces, containers, below, IsNode, IsSoundRow}
use Rattle.wm_tree.specs.Sound.{IsSound}
use Rattle.wm_forest.specs.Spot.{room_below, spot_of, top}
use Rattle.wm_tree.specs.TreeValue.{TreeValue}
use Rattle.wm_forest.proofs.ChangeLemmas.{by_place}
use Rattle.wm_forest.proofs.OnceLemmas.{within}
use Rattle.wm_tree.proofs.OutputRows.{output_found}
use Rattle.wm_forest.proofs.RecencyLemmas.{same_is, same_self}
use Rattle.wm_forest.proofs.RowLemmas.{kids_keep, or_keeps}

-- ---- what is found under an id has it

abbrev Named : ConId → Forest → Type 0
Named w found = (i : ConId) → in_row i found ≡ true → same w i ≡ true

named_here : (w : ConId) (part : Part) (kids floats : Forest) → same part.id w ≡ true → Named w (con part kids floats end)
named_here w part kids floats e i h = by_test (same part.id i) refl h
  where
    by_test : (b : Bool) → same part.id i ≡ b → (b || false) ≡ true → same w i ≡ true
    by_test true d h = same_self w i (sym (same_is part.id w e) ∙ same_is part.id i d)
    by_test false d h = cc

named_step : (w : ConId) (a k l : Bool) (part : Part) (kids floats rest : Forest) → same part.id w ≡ a → Named w (only w kids) → Named w (only w floats) → Named w (only w rest)
    → Named w (cond a (con part kids floats end) (cond k (only w kids) (cond l (only w floats) (only w rest))))
named_step w true k l part kids floats rest e p q r = named_here w part kids floats e
named_step w false true l part kids floats rest e p q r = p
named_step w false false true part kids floats rest e p q r = q
named_step w false false false part kids floats rest e p q r = r

only_named : (w : ConId) (f : Forest) → Named w (only w f)
only_named w end = λ i h. cc
only_named w (con part kids floats rest) = named_step w (same part.id w) (has w kids) (has w floats) part kids floats rest refl (only_named w kids) (only_named w floats) (only_named w rest)

-- ---- what is left

-- a row keeps its nodes, but one of workspaces that which is found
abbrev KeepsBut : Forest → Level → Forest → Forest → Type 0
KeepsBut found roots old new = (i : ConId) → in_row i old ≡ true → in_row i new ≡ true
KeepsBut found outputs old new = (i : ConId) → in_row i old ≡ true → in_row i new ≡ true
KeepsBut found spaces old new = (i : ConId) → in_row i found ≡ false → in_row i old ≡ true → in_row i new ≡ true
KeepsBut found containers old new = Unit {0}

but_same : (found : Forest) (l : Level) (f : Forest) → KeepsBut found l f f
but_same found roots f = λ i h. h
but_same found outputs f = λ i h. h
but_same found spaces f = λ i other h. h
but_same found containers f = tt

but_behind : (found : Forest) (l : Level) (part : Part) (kids floats rest kids' floats' rest' : Forest) → KeepsBut found l rest rest' → KeepsBut found l (con part kids floats rest) (con part kids' floats' rest')
but_behind found roots part kids floats rest kids' floats' rest' h = λ i there. or_keeps (same part.id i) (in_row i rest) (in_row i rest') (h i) there
but_behind found outputs part kids floats rest kids' floats' rest' h = λ i there. or_keeps (same part.id i) (in_row i rest) (in_row i rest') (h i) there
but_behind found spaces part kids floats rest kids' floats' rest' h = λ i other there. or_keeps (same part.id i) (in_row i rest) (in_row i rest') (h i other) there
but_behind found containers part kids floats rest kids' floats' rest' h = tt

-- the root keeps its outputs
abbrev KeepsOuts : Level → Forest → Forest → Type 0
KeepsOuts roots old new = (i : ConId) → in_row i (first_kids old) ≡ true → in_row i (first_kids new) ≡ true
KeepsOuts outputs old new = Unit {0}
KeepsOuts spaces old new = Unit {0}
KeepsOuts containers old new = Unit {0}

outs_same : (l : Level) (old new : Forest) → first_kids old ≡ first_kids new → KeepsOuts l old new
outs_same roots old new e = λ i h. rw (← e) h
outs_same outputs old new e = tt
outs_same spaces old new e = tt
outs_same containers old new e = tt

outs_kept : (found : Forest) (l : Level) (part : Part) (kids new floats rest : Forest) → KeepsBut found (below l) kids new → KeepsOuts l (con part kids floats rest) (con part new floats rest)
outs_kept found roots part kids new floats rest h = h
outs_kept found outputs part kids new floats rest h = tt
outs_kept found spaces part kids new floats rest h = tt
outs_kept found containers part kids new floats rest h = tt

record Left (found : Forest) (l : Level) (tiled : Bool) (room : ℕ) (old new : Forest) : Type 0 where
  pub sound : IsSoundRow l tiled room new
  pub keeps : KeepsBut found l old new
  pub ends : old ≡ end → new ≡ end
  pub short : row_length new ≤ row_length old
  pub outs : KeepsOuts l old new

-- a node that shows nothing of what is found
abbrev Free : Forest → NodeKind → Type 0
Free found kind = (d : ConId) → shown_of kind ≡ Some d → in_row d found ≡ false

free_node : (w : ConId) (found : Forest) (kind : NodeKind) → Named w found → cond (is_id w (shown_of kind)) 1 0 ≤ 0 → Free found kind
free_node w found kind named none d e = by_test (in_row d found) refl
  where
    by_test : (b : Bool) → in_row d found ≡ b → in_row d found ≡ false
    by_test false h = h
    by_test true h =
        let one : ◌≡◌ {A = ℕ} (cond (is_id w (shown_of kind)) 1 0) 1 = rw (e, named d h) refl in
        absurd (omega (arith, none, one))

node_left : (found : Forest) (l : Level) (tiled : Bool) (room : ℕ) (id : ConId) (kind : NodeKind) (marks : List (List ℕ)) (old new : Forest) → KeepsBut found (below l) old new → (old ≡ end → new ≡ end) → Free found kind
    → IsNode l tiled room id kind marks old → IsNode l tiled room id kind marks new
node_left found roots tiled room id (Root c) marks old new keeps ends free h = (h.0, keeps c h.1, h.2)
node_left found roots tiled room id (Output o) marks old new keeps ends free h = h
node_left found roots tiled room id (Space w) marks old new keeps ends free h = h
node_left found roots tiled room id (Con c) marks old new keeps ends free h = h
node_left found outputs tiled room id (Root c) marks old new keeps ends free h = h
node_left found outputs tiled room id (Output o) marks old new keeps ends free h = (h.0, keeps o.shown (free o.shown refl) h.1, h.2)
node_left found outputs tiled room id (Space w) marks old new keeps ends free h = h
node_left found outputs tiled room id (Con c) marks old new keeps ends free h = h
node_left found spaces tiled room id kind marks old new keeps ends free h = space_left kind h
  where
    space_left : (kind : NodeKind) → IsNode spaces tiled room id kind marks old → IsNode spaces tiled room id kind marks new
    space_left (Root c) h = h
    space_left (Output o) h = h
    space_left (Space w) h = h
    space_left (Con c) h = h
node_left found containers tiled room id (Root c) marks old new keeps ends free h = h
node_left found containers tiled room id (Output o) marks old new keeps ends free h = h
node_left found containers tiled room id (Space w) marks old new keeps ends free h = h
node_left found containers tiled room id (Con c) marks old new keeps ends free h = (h.0, h.1, h.2, kids_keep c.kind old new ends h.3)

abbrev IsSpaceFirst : Forest → Type 0
IsSpaceFirst found = kind_by space_kind (first_part found) ≢ None

-- a workspace stands among workspaces
space_level : (l : Level) (tiled : Bool) (room : ℕ) (id : ConId) (kind : NodeKind) (marks : List (List ℕ)) (kids : Forest) → space_kind kind ≢ None → IsNode l tiled room id kind marks kids → spaces ≡ l
space_level l tiled room id (Root c) marks kids ok h = absurd (ok refl)
space_level l tiled room id (Output o) marks kids ok h = absurd (ok refl)
space_level l tiled room id (Con c) marks kids ok h = absurd (ok refl)
space_level roots tiled room id (Space w) marks kids ok h = absurd h
space_level outputs tiled room id (Space w) marks kids ok h = absurd h
space_level spaces tiled room id (Space w) marks kids ok h = refl
space_level containers tiled room id (Space w) marks kids ok h = absurd h

module _ (w : ConId) where
  abbrev Leaves : Level → Spot → Forest → Forest → Forest → Forest → Option Spot → Forest → Type 0
  Leaves l s whole old new found sp st = IsSpaceFirst found → Named w found → count (shows w) old ≤ 0 → IsSoundRow l s.tiled s.room old → Left found l s.tiled s.room old new

  left_here : (l : Level) (s : Spot) (whole : Forest) (part : Part) (kids floats rest : Forest) → Leaves l s whole (con part kids floats rest) rest (con part kids floats end) (Some (spot_of s part)) whole
  left_here l s whole part kids floats rest ok named none p =
      let At : Level → Type 0 = λ l. IsSoundRow l s.tiled s.room (con part kids floats rest) → Left (con part kids floats end) l s.tiled s.room (con part kids floats rest) rest in
      subst At (space_level l s.tiled s.room part.id part.kind part.marks kids ok p.0)
      (λ q. record { sound = q.4; keeps = λ i other h. behind_it i (same part.id i) other h; ends = λ e. cc; short = omega arith; outs = tt }) p
    where
      behind_it : (i : ConId) (b : Bool) → (b || false) ≡ false → (b || in_row i rest) ≡ true → in_row i rest ≡ true
      behind_it i true other h = cc
      behind_it i false other h = h

  left : (l : Level) (s : Spot) (forest : Forest) → IsSpaceFirst (only w forest) → Named w (only w forest) → count (shows w) forest ≤ 0 → IsSoundRow l s.tiled s.room forest → Left (only w forest) l s.tiled s.room forest (without w forest)
  left l s forest =
      by_place w (λ row part kids floats rest. rest) end Leaves
      (λ l s whole ok named none p. record { sound = p; keeps = but_same end l end; ends = λ e. e; short = omega arith; outs = outs_same l end end refl })
      left_here
      (λ l s whole part kids floats rest new found sp st ih ok named none p.
      let g = ih ok named (omega (arith, none)) p.2 in
      record {
        sound = (node_left found l s.tiled s.room part.id part.kind part.marks kids new g.keeps g.ends (free_node w found part.kind named (omega (arith, none))) p.0, omega (arith, g.short, p.1), g.sound, p.3, p.4);
        keeps = but_behind found l part kids floats rest new floats rest (but_same found l rest);
        ends = λ e. cc;
        short = omega arith;
        outs = outs_kept found l part kids new floats rest g.keeps;
      })
      (λ l s whole part kids floats rest new found sp st ih ok named none p.
      let g = ih ok named (omega (arith, none)) p.3 in
      record {
        sound = (p.0, p.1, p.2, g.sound, p.4);
        keeps = but_behind found l part kids floats rest kids new rest (but_same found l rest);
        ends = λ e. cc;
        short = omega arith;
        outs = outs_same l (con part kids floats rest) (con part kids new rest) refl;
      })
      (λ l s whole part kids floats rest new found sp st ih ok named none p.
      let g = ih ok named (omega (arith, none)) p.4 in
      record {
        sound = (p.0, p.1, p.2, p.3, g.sound);
        keeps = but_behind found l part kids floats rest kids floats new g.keeps;
        ends = λ e. cc;
        short = omega (arith, g.short);
        outs = outs_same l (con part kids floats rest) (con part kids floats new) refl;
      }) l s forest forest

-- a tree without a workspace that is not shown
pub record LeftTree (old new : Forest) : Type 0 where
  pub sound : IsSoundRow roots false 0 new
  pub keeps : (i : ConId) → in_row i old ≡ true → in_row i new ≡ true
  pub outs : (i : ConId) → in_row i (first_kids old) ≡ true → in_row i (first_kids new) ≡ true

pub sound-left : (w : ConId) (f : Forest) → kind_of space_kind w f ≢ None → IsNotShown w f → IsSoundRow roots false 0 f → LeftTree f (without w f)
sound-left w f ok unshown s = let g = left w roots top f ok (only_named w f) (omega (arith, unshown)) s in record { sound = g.sound; keeps = g.keeps; outs = g.outs }

-- ---- what was taken

taken_here : (l : Level) (tiled : Bool) (room : ℕ) (id : ConId) (kind : NodeKind) (marks : List (List ℕ)) (kids floats : Forest) → space_kind kind ≢ None → IsNode l tiled room id kind marks kids
    → IsSoundRow (below l) true (room_below room kind) kids → IsSoundRow containers false (room_below room kind) floats
    → IsNode spaces true 32 id kind marks kids × IsSoundRow containers true (room_below 32 kind) kids × IsSoundRow containers false (room_below 32 kind) floats
taken_here l tiled room id (Root c) marks kids floats ok n k f = absurd (ok refl)
taken_here l tiled room id (Output o) marks kids floats ok n k f = absurd (ok refl)
taken_here l tiled room id (Con c) marks kids floats ok n k f = absurd (ok refl)
taken_here roots tiled room id (Space w) marks kids floats ok n k f = absurd n
taken_here outputs tiled room id (Space w) marks kids floats ok n k f = absurd n
taken_here spaces tiled room id (Space w) marks kids floats ok n k f = (n, k, f)
taken_here containers tiled room id (Space w) marks kids floats ok n k f = absurd n

abbrev Finds : Level → Spot → Forest → Forest → Forest → Forest → Option Spot → Forest → Type 0
Finds l s whole old new found sp st = IsSpaceFirst found → IsSoundRow l s.tiled s.room old → IsSoundRow spaces true 32 found

-- a workspace that is found is a sound row of its own
pub found_space : (w : ConId) (f : Forest) → kind_of space_kind w f ≢ None → IsSoundRow roots false 0 f → IsSoundRow spaces true 32 (only w f)
found_space w f =
    by_place w (λ row part kids floats rest. rest) end Finds
    (λ l s whole ok p. tt)
    (λ l s whole part kids floats rest ok p.
    let n = taken_here l s.tiled s.room part.id part.kind part.marks kids floats ok p.0 p.2 p.3 in (n.0, p.1, n.1, n.2, tt))
    (λ l s whole part kids floats rest new found sp st ih ok p. ih ok p.2)
    (λ l s whole part kids floats rest new found sp st ih ok p. ih ok p.3)
    (λ l s whole part kids floats rest new found sp st ih ok p. ih ok p.4) roots top f f

-- ---- no output is below a workspace

low_step : (o : ConId) (a k l : Bool) (part : Part) (kids floats rest : Forest) → output_kind part.kind ≡ None → kind_by output_kind (first_part (only o kids)) ≡ None → kind_by output_kind (first_part (only o floats)) ≡ None
    → kind_by output_kind (first_part (only o rest)) ≡ None → kind_by output_kind (first_part (cond a (con part kids floats end) (cond k (only o kids) (cond l (only o floats) (only o rest))))) ≡ None
low_step o true k l part kids floats rest here p q r = here
low_step o false true l part kids floats rest here p q r = p
low_step o false false true part kids floats rest here p q r = q
low_step o false false false part kids floats rest here p q r = r

low_node : (l : Level) (tiled : Bool) (room : ℕ) (id : ConId) (kind : NodeKind) (marks : List (List ℕ)) (kids : Forest) → below l ≡ containers → IsNode l tiled room id kind marks kids → output_kind kind ≡ None
low_node l tiled room id (Root c) marks kids low n = refl
low_node l tiled room id (Space w) marks kids low n = refl
low_node l tiled room id (Con c) marks kids low n = refl
low_node roots tiled room id (Output o) marks kids low n = absurd n
low_node outputs tiled room id (Output o) marks kids low n = cc
low_node spaces tiled room id (Output o) marks kids low n = absurd n
low_node containers tiled room id (Output o) marks kids low n = absurd n

low_none : (o : ConId) (l : Level) (tiled : Bool) (room : ℕ) (f : Forest) → below l ≡ containers → IsSoundRow l tiled room f → kind_by output_kind (first_part (only o f)) ≡ None
low_none o l tiled room end low p = refl
low_none o l tiled room (con part kids floats rest) low p =
    low_step o (same part.id o) (has o kids) (has o floats) part kids floats rest (low_node l tiled room part.id part.kind part.marks kids low p.0) (low_none o (below l) true (room_below room part.kind) kids (ap below low) p.2)
    (low_none o containers false (room_below room part.kind) floats refl p.3) (low_none o l tiled room rest low p.4)

-- an output is not below a workspace
pub is_apart : (w o : ConId) (t : TreeValue) → IsSound t → kind_of space_kind w t.nodes ≢ None → IsOutput o t.nodes → has o (only w t.nodes) ≡ false
is_apart w o t s ok out = by_test (has o (only w t.nodes)) refl
  where
    by_test : (b : Bool) → has o (only w t.nodes) ≡ b → has o (only w t.nodes) ≡ false
    by_test false h = h
    by_test true h =
        let e = (within w o t.nodes h).1 (s.once o) in
        let none = low_none o spaces true 32 (only w t.nodes) refl (found_space w t.nodes ok s.shaped) in
        absurd ((output_found o t.nodes s.shaped out (s.once o)).first (ap (λ z. kind_by output_kind (first_part z)) e ∙ none))
