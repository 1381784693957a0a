-- Another border for one subject, told of what it is, is the change of the windows listed where it alone is.
use Rattle.std.proofs.Common.{◌≡◌, ◌≤◌, ◌<◌, ℕ, Bool, true, false, cond, ◌&&◌, ltb, List, [], ◌∷◌, Option, None, Some, is_none, is_some, refl, ap, ◌∙◌, sym, arith}
use Rattle.std.proofs.lemmas.Bool.{and_parts, ltb-true}
use Rattle.std.specs.Option.{option_map, option_or}
use Rattle.wm_apply.proofs.MappedLemmas.{fixed, mapped_at}
use Rattle.wm_apply.specs.Bordering.{border_after, bordered, change_error, climbs, command_of, part_error, part_of, state_after, takes}
use Rattle.wm_apply.specs.declared.borders.BorderChange.{BorderChange}
use Rattle.wm_apply.specs.declared.borders.BorderChange.TheVariants.{To, Next}
use Rattle.wm_apply.specs.declared.rows.How.{How}
use Rattle.wm_apply.specs.Kills.{is_window_node}
use Rattle.wm_apply.specs.Subjects.{error_of, one_error, one_tree, unless_refused}
use Rattle.wm_base.specs.declared.errors.ErrorText.{ErrorText}
use Rattle.wm_base.specs.declared.errors.ErrorText.TheVariants as errors
use Rattle.wm_base.specs.declared.errors.Refusal.{Refusal}
use Rattle.wm_base.specs.declared.ids.ConId.{ConId}
use Rattle.wm_forest.proofs.RecencyLemmas.{same_is, same_self}
use Rattle.wm_forest.specs.Change.{is_window_kind}
use Rattle.wm_forest.specs.declared.kind.KindEdit.TheVariants as edits
use Rattle.wm_forest.specs.declared.part.ConKind.{ConKind}
use Rattle.wm_forest.specs.declared.part.ConKind.TheVariants.{Split, Window, Placeholder}
use Rattle.wm_forest.specs.declared.part.ConPart.{ConPart}
use Rattle.wm_forest.specs.declared.part.ConState.{ConState}
use Rattle.wm_forest.specs.declared.part.NodeKind.{NodeKind}
use Rattle.wm_forest.specs.declared.part.NodeKind.TheVariants.{Root, Output, Space, Con}
use Rattle.wm_forest.specs.declared.part.Part.{Part}
use Rattle.wm_forest.specs.Forest.{Forest, end, con}
use Rattle.wm_forest.specs.Look.{con_kind, first_part, has, kind_by, only, same, space_kind}
use Rattle.wm_forest.specs.Recency.{lists}
use Rattle.wm_forest.specs.SoundRow.{tally}
use Rattle.wm_layouts.specs.declared.plan.Env.{Env}
use Rattle.wm_shared.specs.Refusing.{error_if}
use Rattle.wm_shared.specs.Subject.{is_subject_kind}
use Rattle.wm_shared.specs.Windows.{natural_by, natural_in, restated, state_of}
use Rattle.wm_sizes.specs.Borders.{is_wide, next_border, turned}
use Rattle.wm_tree.specs.States.{kind_restated, part_restated}
use Rattle.wm_tree.specs.TreeValue.{TreeValue}
use Rattle.wm_tree.specs.Words.{edited, settled}

-- ---- one subject, by what it is

-- the states of what a node is, if it is a container
abbrev pub state_by : Option Part → Option ConState
state_by p = option_map (λ (c : ConPart). c.state) (kind_by con_kind p)

-- c with another border, given the state from which that follows, and the one in which it is put
abbrev pub given : BorderChange → ConId → Option ConState → Option ConState → TreeValue → TreeValue
given (To border) c was now t = restated c (option_map (λ (s : ConState). record s { border = border }) now) t
given Next c None now t = t
given Next c (Some s) now t = restated c (option_map (λ (u : ConState). record u { border = next_border s.border }) now) t

abbrev pub wide_refusal : BorderChange → Option Refusal
wide_refusal (To border) = error_if (is_wide border) errors.OutOfRange None
wide_refusal Next = None

abbrev pub refusal_by : BorderChange → Option Part → Option Refusal
refusal_by change p = option_or (error_if (is_some (kind_by space_kind p)) errors.AtWorkspace (error_if (is_none (natural_in (kind_by con_kind p))) errors.NotWindow None)) (wide_refusal change)

abbrev pub tree_by : BorderChange → ConId → Option Part → TreeValue → TreeValue
tree_by change c p t = cond (is_subject_kind (kind_by space_kind p) (kind_by con_kind p)) (unless_refused (refusal_by change p) t (settled (given change c (state_by p) (state_by p) t))) t

abbrev pub error_by : BorderChange → Option Part → Option ErrorText
error_by change p = cond (is_subject_kind (kind_by space_kind p) (kind_by con_kind p)) (option_map error_of (refusal_by change p)) None

or_none : (r : Option Refusal) → option_or r None ≡ r
or_none None = refl
or_none (Some e) = refl

turned_is : (c : ConId) (was : Option ConState) (t : TreeValue) → turned c was t ≡ given Next c was (state_of c t) t
turned_is c None t = refl
turned_is c (Some s) t = refl

pub one_by : (env : Env) (how : How) (change : BorderChange) (c : ConId) (t : TreeValue) → (one_tree env how (command_of change) c t ≡ tree_by change c (part_of c t) t) × (one_error env how (command_of change) c t ≡ error_by change (part_of c t))
one_by env how (To border) c t = (refl, refl)
one_by env how Next c t =
    let p = part_of c t in
    let r = error_if (is_some (kind_by space_kind p)) errors.AtWorkspace (error_if (is_none (natural_in (kind_by con_kind p))) errors.NotWindow None) in
    (rw (or_none r, turned_is c (state_by p) t) refl, rw (or_none r) refl)

-- what one subject is made, and its error, told of what it is
pub record IsBordered (change : BorderChange) (c : ConId) (p : Option Part) (t : TreeValue) : Type 0 where
  pub tree : tree_by change c p t ≡ cond (takes change p) (settled (given change c (state_by p) (state_by p) t)) t
  pub error : error_by change p ≡ part_error change p

by_con : (kind : ConKind) (wide : Bool) (old new : TreeValue) → (unless_refused (option_or (error_if (is_none (natural_by kind)) errors.NotWindow None) (error_if wide errors.OutOfRange None)) old new ≡ cond (is_window_kind kind && is_none (cond wide (Some errors.OutOfRange) None)) new old)
    × (option_map error_of (option_or (error_if (is_none (natural_by kind)) errors.NotWindow None) (error_if wide errors.OutOfRange None)) ≡ cond (is_window_kind kind) (cond wide (Some errors.OutOfRange) None) (Some errors.NotWindow))
by_con (Split layout last) wide old new = (refl, refl)
by_con (Placeholder props swallows) wide old new = (refl, refl)
by_con (Window props owner natural) true old new = (refl, refl)
by_con (Window props owner natural) false old new = (refl, refl)

by_con_next : (kind : ConKind) (old new : TreeValue) → (unless_refused (option_or (error_if (is_none (natural_by kind)) errors.NotWindow None) None) old new ≡ cond (is_window_kind kind && true) new old)
    × (option_map error_of (option_or (error_if (is_none (natural_by kind)) errors.NotWindow None) None) ≡ cond (is_window_kind kind) None (Some errors.NotWindow))
by_con_next (Split layout last) old new = (refl, refl)
by_con_next (Placeholder props swallows) old new = (refl, refl)
by_con_next (Window props owner natural) old new = (refl, refl)

by_kind : (change : BorderChange) (c : ConId) (id : ConId) (kind : NodeKind) (marks : List (List ℕ)) (t : TreeValue) → IsBordered change c (Some (record { id = id; kind = kind; marks = marks })) t
by_kind change c id (Root o) marks t = record { tree = refl; error = refl }
by_kind change c id (Output o) marks t = record { tree = refl; error = refl }
by_kind change c id (Space s) marks t = record { tree = refl; error = refl }
by_kind (To border) c id (Con own) marks t =
    let k = by_con own.kind (is_wide border) t (settled (given (To border) c (Some own.state) (Some own.state) t)) in record { tree = k.0; error = k.1 }
by_kind Next c id (Con own) marks t =
    let k = by_con_next own.kind t (settled (given Next c (Some own.state) (Some own.state) t)) in record { tree = k.0; error = k.1 }

pub by_part : (change : BorderChange) (c : ConId) (p : Option Part) (t : TreeValue) → IsBordered change c p t
by_part change c None t = record { tree = refl; error = refl }
by_part change c (Some part) t = by_kind change c part.id part.kind part.marks t

-- ---- ids

same_turned : (a b : ConId) (r : Bool) → same a b ≡ r → same b a ≡ r
same_turned a b true h = same_self b a (sym (same_is a b h))
same_turned a b false h = by_test (same b a) refl
  where
    by_test : (r : Bool) → same b a ≡ r → r ≡ false
    by_test true e = let bad : same a b ≡ true = same_self a b (sym (same_is b a e)) in cc
    by_test false e = refl

found_id : (c : ConId) (f : Forest) (p : Part) → first_part (only c f) ≡ Some p → same p.id c ≡ true
found_id c end p h = cc
found_id c (con part kids floats rest) p h = step (same part.id c) (has c kids) (has c floats) refl h (found_id c kids p) (found_id c floats p) (found_id c rest p)
  where
    step : (a b d : Bool) → same part.id c ≡ a → first_part (cond a (con part kids floats end) (cond b (only c kids) (cond d (only c floats) (only c rest)))) ≡ Some p
        → (first_part (only c kids) ≡ Some p → same p.id c ≡ true) → (first_part (only c floats) ≡ Some p → same p.id c ≡ true) → (first_part (only c rest) ≡ Some p → same p.id c ≡ true) → same p.id c ≡ true
    step true b d e h u v x = let it : part ≡ p = cc in rw (← it) e
    step false true d e h u v x = u h
    step false false true e h u v x = v h
    step false false false e h u v x = x h

-- an id below the first of those that rise is not among them
below_first : (b c : ConId) (cs : List ConId) → b.0 < c.0 → lists b cs ≡ false → lists b (c ∷ cs) ≡ false
below_first b c cs less h = step (same c b) refl
  where
    step : (r : Bool) → same c b ≡ r → lists b (c ∷ cs) ≡ false
    step true e = let one : c.0 ≡ b.0 = ap (λ (i : ConId). i.0) (same_is c b e) in absurd (omega (arith, less, one))
    step false e = rw e h

beyond : (b c : ConId) (cs : List ConId) → b.0 < c.0 → climbs (c ∷ cs) ≡ true → lists b (c ∷ cs) ≡ false
beyond b c [] less h = below_first b c [] less refl
beyond b c (d ∷ cs) less h =
    let both = and_parts (ltb c.0 d.0) (climbs (d ∷ cs)) h in
    let next = ltb-true c.0 d.0 both.0 in
    below_first b c (d ∷ cs) less (beyond b d cs (omega (arith, less, next)) both.1)

-- an id is not among those behind it
pub climbs_apart : (c : ConId) (cs : List ConId) → climbs (c ∷ cs) ≡ true → (lists c cs ≡ false) × (climbs cs ≡ true)
climbs_apart c [] h = (refl, refl)
climbs_apart c (d ∷ cs) h =
    let both = and_parts (ltb c.0 d.0) (climbs (d ∷ cs)) h in
    (beyond c d cs (ltb-true c.0 d.0 both.0) both.1, both.1)

-- ---- one subject at once with others

one_change : (change : BorderChange) (c : ConId) (p : Part) → same p.id c ≡ false → part_restated (state_after change (c ∷ [])) p ≡ p
one_change change c p h = by p.kind
  where
    other : (own : ConPart) → state_after change (c ∷ []) p.id own ≡ own.state
    other own = rw (same_turned p.id c false h) (unlisted (is_window_kind own.kind))
      where
        unlisted : (w : Bool) → cond (w && false) (record own.state { border = border_after change own.state.border }) own.state ≡ own.state
        unlisted true = refl
        unlisted false = refl

    by : (kind : NodeKind) → (record p { kind = kind_restated (state_after change (c ∷ [])) p.id kind }) ≡ record p { kind = kind }
    by (Root o) = refl
    by (Output o) = refl
    by (Space s) = refl
    by (Con own) = rw (other own) refl

-- the state that a taker is given
abbrev new_state : BorderChange → ConPart → ConState
new_state change own = record own.state { border = border_after change own.state.border }

given_is : (change : BorderChange) (c : ConId) (s : ConState) (t : TreeValue) → given change c (Some s) (Some s) t ≡ edited c (edits.State (record s { border = border_after change s.border })) t
given_is (To border) c s t = refl
given_is Next c s t = refl

listed_once : (change : BorderChange) (c id : ConId) (own : ConPart) → same id c ≡ true → is_window_kind own.kind ≡ true → state_after change (c ∷ []) id own ≡ new_state change own
listed_once change c id own h w = rw (w, same_turned id c true h) refl

not_window : (change : BorderChange) (cs : List ConId) (id : ConId) (own : ConPart) → is_window_kind own.kind ≡ false → state_after change cs id own ≡ own.state
not_window change cs id own w = rw w refl

-- what takes the change is changed alone, and anything else is left, where the border is not too wide
module _ (change : BorderChange) (fine : change_error change ≡ None) (c : ConId) (t : TreeValue) (once : tally c t.nodes ≤ 1) where
  abbrev with_nodes : Forest → TreeValue
  with_nodes f = record t { nodes = f }

  by_node : (id : ConId) (kind : NodeKind) (marks : List (List ℕ)) → part_of c t ≡ Some (record { id = id; kind = kind; marks = marks }) → is_window_node kind ≡ false → bordered change (c ∷ []) t ≡ t
  by_node id kind marks e w = ap with_nodes (fixed c (part_restated (state_after change (c ∷ []))) (one_change change c) t.nodes once (λ p q. let it : record { id = id; kind = kind; marks = marks } ≡ p = cc in rw (← it) (by kind w)))
    where
      by : (kind : NodeKind) → is_window_node kind ≡ false → ◌≡◌ {A = Part} (record { id = id; kind = kind_restated (state_after change (c ∷ [])) id kind; marks = marks }) (record { id = id; kind = kind; marks = marks })
      by (Root o) w = refl
      by (Output o) w = refl
      by (Space s) w = refl
      by (Con own) w = rw (not_window change (c ∷ []) id own w) refl

  taken : (id : ConId) (own : ConPart) (marks : List (List ℕ)) → part_of c t ≡ Some (record { id = id; kind = Con own; marks = marks }) → is_window_kind own.kind ≡ true → bordered change (c ∷ []) t ≡ edited c (edits.State (new_state change own)) t
  taken id own marks e w = ap with_nodes (mapped_at c (part_restated (state_after change (c ∷ []))) (one_change change c) (edits.State (new_state change own)) t.nodes once (λ p q. let it : record { id = id; kind = Con own; marks = marks } ≡ p = cc in rw (← it) (here (found_id c t.nodes (record { id = id; kind = Con own; marks = marks }) e))))
    where
      here : same id c ≡ true → ◌≡◌ {A = Part} (record { id = id; kind = Con (record own { state = state_after change (c ∷ []) id own }); marks = marks }) (record { id = id; kind = Con (record own { state = new_state change own }); marks = marks })
      here s = rw (listed_once change c id own s w) refl

  missing : part_of c t ≡ None → bordered change (c ∷ []) t ≡ t
  missing e = ap with_nodes (fixed c (part_restated (state_after change (c ∷ []))) (one_change change c) t.nodes once (λ p q. cc))

  one_node : (id : ConId) (kind : NodeKind) (marks : List (List ℕ)) → part_of c t ≡ Some (record { id = id; kind = kind; marks = marks })
      → cond (is_window_node kind && is_none (change_error change)) (given change c (option_map (λ (own : ConPart). own.state) (con_kind kind)) (option_map (λ (own : ConPart). own.state) (con_kind kind)) t) t ≡ bordered change (c ∷ []) t
  one_node id (Root o) marks e = sym (by_node id (Root o) marks e refl)
  one_node id (Output o) marks e = sym (by_node id (Output o) marks e refl)
  one_node id (Space s) marks e = sym (by_node id (Space s) marks e refl)
  one_node id (Con own) marks e = by (is_window_kind own.kind) refl
    where
      by : (w : Bool) → is_window_kind own.kind ≡ w → cond (w && is_none (change_error change)) (given change c (Some own.state) (Some own.state) t) t ≡ bordered change (c ∷ []) t
      by true w = rw fine (given_is change c own.state t ∙ sym (taken id own marks e w))
      by false w = sym (by_node id (Con own) marks e w)

  pub one_part : (p : Option Part) → part_of c t ≡ p → cond (takes change p) (given change c (state_by p) (state_by p) t) t ≡ bordered change (c ∷ []) t
  one_part None e = sym (missing e)
  one_part (Some part) e = one_node part.id part.kind part.marks e
