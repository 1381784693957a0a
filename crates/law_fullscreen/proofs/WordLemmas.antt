-- Words by which no workspace gets a fullscreen container that it had not.
use Rattle.std.proofs.Common.{◌≡◌, ℕ, ◌+◌, ◌≤◌, Bool, true, false, cond, List, Option, None, Some, refl, sym, subst, arith}
use Rattle.std.specs.Option.{option_map}
use Rattle.wm_base.specs.declared.ids.ConId.{ConId}
use Rattle.wm_base.specs.declared.plan.Layout.{Layout}
use Rattle.wm_floats.specs.Fullscreen.{is_full}
use Rattle.wm_floats.specs.Windows.{full_set, restated, state_of}
use Rattle.wm_focus.specs.Marks.{bare, taken_off}
use Rattle.law_fullscreen.proofs.RowLemmas.{full_unfull, within-to_end, within-unfull}
use Rattle.law_fullscreen.proofs.WithinLemmas.{cond_most, within-append, within-most, within-without, within_add, within_at}
use Rattle.law_fullscreen.specs.Fullscreen.{IsSingle, full_of, within}
use Rattle.wm_forest.specs.Change.{is_id, is_vacant, raised_in, settled_row, shown_of, unfull, raised_at}
use Rattle.wm_forest.specs.Counts.{count}
use Rattle.wm_forest.specs.declared.kind.KindEdit.{KindEdit}
use Rattle.wm_forest.specs.declared.kind.KindEdit.TheVariants as edits
use Rattle.wm_forest.specs.declared.part.ConPart.{ConPart}
use Rattle.wm_forest.specs.declared.part.ConState.{ConState}
use Rattle.wm_forest.specs.declared.part.NodeKind.{NodeKind}
use Rattle.wm_forest.specs.declared.part.NodeKind.TheVariants.{Root, Output, Space, Con}
use Rattle.wm_forest.specs.declared.part.Part.{Part}
use Rattle.wm_forest.specs.declared.place.NewCon.{NewCon}
use Rattle.wm_forest.specs.declared.place.NewCon.TheVariants as new
use Rattle.wm_forest.specs.declared.place.Place.{Place}
use Rattle.wm_forest.specs.declared.place.Place.TheVariants.{After, Before, First, Last, Float, Scratchpad}
use Rattle.wm_forest.specs.Forest.{Forest, end, con}
use Rattle.wm_forest.specs.Kinds.{changed, kind_changed}
use Rattle.wm_forest.specs.Look.{con_kind, kind_by}
use Rattle.wm_forest.specs.Marks.{marks_word, other_marks, unmark_word}
use Rattle.wm_tree.specs.Move.{share_in, unmarked, with_marks, wrap_word, wrapped}
use Rattle.wm_tree.specs.Outputs.{new_output, new_space, with_output, with_space}
use Rattle.wm_forest.specs.Place.{named, new_part, put, put_word, rect_at, share_at}
use Rattle.wm_forest.specs.Spot.{space_at, space_by, top}
use Rattle.wm_tree.specs.TreeValue.{TreeValue, workspace_of}
use Rattle.wm_forest.specs.RootId.{id, root}
use Rattle.wm_tree.specs.Words.{attached, detached, edited, settled, with_raised}
use Rattle.wm_base.specs.declared.plan.OutputPlan.{OutputPlan}

-- no workspace has more fullscreen containers in the new forest
abbrev pub Falls : Forest → Forest → Type 0
Falls f new = (w : ConId) → within full_of w None new ≤ within full_of w None f

pub single : (f new : Forest) → Falls f new → IsSingle f → IsSingle new
single f new less one w = omega (arith, less w, one w)

pub one_same : (t new : TreeValue) → new.nodes ≡ t.nodes → IsSingle t.nodes → IsSingle new.nodes
one_same t new e one = subst IsSingle (sym e) one

-- ---- changes of one node

-- the change is of a container's state
abbrev pub is_state : KindEdit → Bool
is_state (edits.State s) = true
is_state other = false

full_changed : (edit : KindEdit) (kind : NodeKind) → is_state edit ≡ false → is_full (changed edit kind) ≡ is_full kind
full_changed edit (Root c) e = by_edit edit
  where
    by_edit : (d : KindEdit) → is_full (changed d (Root c)) ≡ false
    by_edit (edits.Current o) = refl
    by_edit other = refl
full_changed edit (Output o) e = by_edit edit
  where
    by_edit : (d : KindEdit) → is_full (changed d (Output o)) ≡ false
    by_edit (edits.Shown w) = refl
    by_edit other = refl
full_changed edit (Space s) e = by_edit edit
  where
    by_edit : (d : KindEdit) → is_full (changed d (Space s)) ≡ false
    by_edit (edits.Name n) = refl
    by_edit other = refl
full_changed edit (Con c) e = by_edit edit e
  where
    by_edit : (d : KindEdit) → is_state d ≡ false → is_full (changed d (Con c)) ≡ is_full (Con c)
    by_edit (edits.State s) e = cc
    by_edit other e = refl

pub space_changed : (space : Option ConId) (i : ConId) (edit : KindEdit) (kind : NodeKind) → space_by space i (changed edit kind) ≡ space_by space i kind
space_changed space i edit (Root c) = by_edit edit
  where
    by_edit : (d : KindEdit) → space_by space i (changed d (Root c)) ≡ space
    by_edit (edits.Current o) = refl
    by_edit other = refl
space_changed space i edit (Output o) = by_edit edit
  where
    by_edit : (d : KindEdit) → space_by space i (changed d (Output o)) ≡ space
    by_edit (edits.Shown w) = refl
    by_edit other = refl
space_changed space i edit (Space s) = by_edit edit
  where
    by_edit : (d : KindEdit) → space_by space i (changed d (Space s)) ≡ Some i
    by_edit (edits.Name n) = refl
    by_edit other = refl
space_changed space i edit (Con c) = by_edit edit
  where
    by_edit : (d : KindEdit) → space_by space i (changed d (Con c)) ≡ space
    by_edit (edits.State s) = refl
    by_edit other = refl

-- a node of which no more counts
pub changed_most : (m : Part → ℕ) (w : ConId) (space : Option ConId) (edit : KindEdit) (part : Part) (kids floats rest : Forest) → m (record part { kind = changed edit part.kind }) ≤ m part
    → within m w space (kind_changed edit part kids floats rest) ≤ within m w space (con part kids floats rest)
changed_most m w space edit part kids floats rest less =
    rw (space_changed space part.id edit part.kind) (omega (arith, cond_most (is_id w (space_at space part)) (m (record part { kind = changed edit part.kind })) (m part) less))

pub one_edited : (c : ConId) (edit : KindEdit) (t : TreeValue) → is_state edit ≡ false → IsSingle t.nodes → IsSingle (edited c edit t).nodes
one_edited c edit t plain =
    single t.nodes (edited c edit t).nodes
    (λ w. omega (arith, within_at full_of w c kind_changed edit 0 (λ space part kids floats rest e. omega (arith, changed_most full_of w space edit part kids floats rest (rw (full_changed edit part.kind plain) (omega arith)))) None t.nodes))

abbrev state_by : Option Part → Option ConState
state_by o = option_map (λ (p : ConPart). p.state) (kind_by con_kind o)

full_restated : (r s : ConState) (part : Part) → state_by (Some part) ≡ Some s → r.fullscreen ≡ s.fullscreen → full_of (record part { kind = changed (edits.State r) part.kind }) ≡ full_of part
full_restated r s part h e = by part.kind h
  where
    by : (kind : NodeKind) → option_map (λ (p : ConPart). p.state) (con_kind kind) ≡ Some s → ◌≡◌ {A = ℕ} (cond (is_full (changed (edits.State r) kind)) 1 0) (cond (is_full kind) 1 0)
    by (Root c) k = cc
    by (Output o) k = cc
    by (Space p) k = cc
    by (Con c) k = let is : c.state ≡ s = cc in rw (e, is) refl

-- a state that is fullscreen where the old one is
pub one_restated : (c : ConId) (r s : ConState) (t : TreeValue) → state_of c t ≡ Some s → r.fullscreen ≡ s.fullscreen → IsSingle t.nodes → IsSingle (edited c (edits.State r) t).nodes
one_restated c r s t h e =
    single t.nodes (edited c (edits.State r) t).nodes
    (λ w.
    omega (
      arith,
      within_add full_of w c kind_changed (edits.State r) end (λ o. state_by o ≡ Some s)
          (λ space part kids floats rest k. omega (arith, changed_most full_of w space (edits.State r) part kids floats rest (omega (arith, full_restated r s part k e)))) top t.nodes h,
    ))

full_off : (r : ConState) (kind : NodeKind) → r.fullscreen ≡ false → cond (is_full (changed (edits.State r) kind)) 1 0 ≤ cond (is_full kind) 1 0
full_off r (Root c) e = omega arith
full_off r (Output o) e = omega arith
full_off r (Space s) e = omega arith
full_off r (Con c) e = rw e (omega arith)

pub one_full_set_off : (c : ConId) (t : TreeValue) → IsSingle t.nodes → IsSingle (full_set false c t).nodes
one_full_set_off c t one = by (state_of c t)
  where
    by : (o : Option ConState) → IsSingle (restated c (option_map (λ (s : ConState). record s { fullscreen = false }) o) t).nodes
    by None = one
    by (Some s) =
        let r : ConState = record s { fullscreen = false } in
        single t.nodes (edited c (edits.State r) t).nodes
        (λ w. omega (arith, within_at full_of w c kind_changed (edits.State r) 0 (λ space part kids floats rest e. omega (arith, changed_most full_of w space (edits.State r) part kids floats rest (full_off r part.kind refl))) None t.nodes))
        one

-- ---- marks

pub one_marks : (c : ConId) (marks : List (List ℕ)) (t : TreeValue) → IsSingle t.nodes → IsSingle (with_marks c marks t).nodes
one_marks c marks t = single t.nodes (with_marks c marks t).nodes (λ w. omega (arith, within_at full_of w c marks_word marks 0 (λ space part kids floats rest e. omega arith) None t.nodes))

pub one_unmarked : (c : ConId) (n : List ℕ) (t : TreeValue) → IsSingle t.nodes → IsSingle (unmarked c n t).nodes
one_unmarked c n t = single t.nodes (unmarked c n t).nodes (λ w. omega (arith, within_at full_of w c unmark_word n 0 (λ space part kids floats rest e. omega arith) None t.nodes))

within-off : (keep : Option ConId) (n : List ℕ) (w : ConId) (space : Option ConId) (f : Forest) → within full_of w space (taken_off keep n f) ≡ within full_of w space f
within-off keep n w space end = refl
within-off keep n w space (con part kids floats rest) =
    step (is_id part.id keep) (within-off keep n w (space_at space part) kids) (within-off keep n w (space_at space part) floats) (within-off keep n w space rest)
  where
    step : (b : Bool) → within full_of w (space_at space part) (taken_off keep n kids) ≡ within full_of w (space_at space part) kids
        → within full_of w (space_at space part) (taken_off keep n floats) ≡ within full_of w (space_at space part) floats → within full_of w space (taken_off keep n rest) ≡ within full_of w space rest
        → within full_of w space (con (cond b part (record part { marks = other_marks n part.marks })) (taken_off keep n kids) (taken_off keep n floats) (taken_off keep n rest)) ≡ within full_of w space (con part kids floats rest)
    step true p q r = omega (arith, p, q, r)
    step false p q r = omega (arith, p, q, r)

pub one_taken_off : (keep : Option ConId) (n : List ℕ) (t : TreeValue) → IsSingle t.nodes → IsSingle (taken_off keep n t.nodes)
one_taken_off keep n t = single t.nodes (taken_off keep n t.nodes) (λ w. omega (arith, within-off keep n w None t.nodes))

within-bare : (w : ConId) (space : Option ConId) (f : Forest) → within full_of w space (bare f) ≡ within full_of w space f
within-bare w space end = refl
within-bare w space (con part kids floats rest) = omega (arith, within-bare w (space_at space part) kids, within-bare w (space_at space part) floats, within-bare w space rest)

pub one_bare : (t : TreeValue) → IsSingle t.nodes → IsSingle (bare t.nodes)
one_bare t = single t.nodes (bare t.nodes) (λ w. omega (arith, within-bare w None t.nodes))

-- ---- raising

falls_raised : (c : ConId) (o : Option ConId) (f : Forest) → Falls f (raised_at c o f)
falls_raised c None f w = omega arith
falls_raised c (Some v) f w =
    let here : (space : Option ConId) (part : Part) (kids floats rest : Forest) → within full_of w space (raised_in c part kids floats rest) ≤ within full_of w space (con part kids floats rest) + 0 =
    λ space part kids floats rest.
    omega (
      arith,
      within-unfull full_of w c full_unfull (space_at space part) kids,
      within-unfull full_of w c full_unfull (space_at space part) floats,
      within-to_end full_of w c (space_at space part) (unfull c floats),
    ) in
    omega (arith, within_at full_of w v raised_in c 0 (λ space part kids floats rest e. here space part kids floats rest) None f)

pub one_raised : (c : ConId) (t : TreeValue) → IsSingle t.nodes → IsSingle (with_raised c t).nodes
one_raised c t = single t.nodes (with_raised c t).nodes (falls_raised c (workspace_of t c) t.nodes)

-- ---- settling and taking out

settled_step : (w : ConId) (b : Bool) (space shown : Option ConId) (part : Part) (kids floats rest : Forest)
    → within full_of w (space_at space part) (settled_row (shown_of part.kind) kids) ≤ within full_of w (space_at space part) kids → within full_of w space (settled_row shown rest) ≤ within full_of w space rest
    → within full_of w space (cond b (settled_row shown rest) (con part (settled_row (shown_of part.kind) kids) floats (settled_row shown rest))) ≤ within full_of w space (con part kids floats rest)
settled_step w true space shown part kids floats rest p q = omega (arith, q)
settled_step w false space shown part kids floats rest p q = omega (arith, p, q)

within-settled : (w : ConId) (space shown : Option ConId) (f : Forest) → within full_of w space (settled_row shown f) ≤ within full_of w space f
within-settled w space shown end = omega arith
within-settled w space shown (con part kids floats rest) =
    settled_step w (is_vacant shown part.id part.kind (settled_row (shown_of part.kind) kids) floats) space shown part kids floats rest
    (within-settled w (space_at space part) (shown_of part.kind) kids) (within-settled w space shown rest)

pub one_settled : (t : TreeValue) → IsSingle t.nodes → IsSingle (settled t).nodes
one_settled t = single t.nodes (settled t).nodes (λ w. within-settled w None None t.nodes)

pub one_detached : (c : ConId) (t : TreeValue) → IsSingle t.nodes → IsSingle (detached c t).nodes
one_detached c t = single t.nodes (detached c t).nodes (λ w. omega (arith, within-without full_of w c top t.nodes))

-- ---- newcomers

-- a row that counts nothing adds nothing, wherever it is put
pub within-put_none : (w : ConId) (p : Place) (row f : Forest) → count full_of row ≡ 0 → within full_of w None (put p row f) ≤ within full_of w None f
within-put_none w p row f none = omega (arith, within_at full_of w (named p) (put_word p) row 0 (λ space part kids floats rest e. here p space part kids floats rest) None f)
  where
    nothing : (space : Option ConId) → within full_of w space row ≡ 0
    nothing space = omega (arith, none, within-most full_of w space row)

    here : (q : Place) (space : Option ConId) (part : Part) (kids floats rest : Forest) → within full_of w space (put_word q row part kids floats rest) ≤ within full_of w space (con part kids floats rest) + 0
    here (After c) space part kids floats rest = omega (arith, nothing space, within-append full_of w space row rest)
    here (Before c) space part kids floats rest = omega (arith, nothing space, within-append full_of w space row (con part kids floats rest))
    here (First c) space part kids floats rest = omega (arith, nothing (space_at space part), within-append full_of w (space_at space part) row kids)
    here (Last c) space part kids floats rest = omega (arith, nothing (space_at space part), within-append full_of w (space_at space part) kids row)
    here (Float v r) space part kids floats rest = omega (arith, nothing (space_at space part), within-append full_of w (space_at space part) floats row)
    here (Scratchpad r) space part kids floats rest = omega (arith, nothing (space_at space part), within-append full_of w (space_at space part) floats row)

pub one_attached : (p : Place) (newcomer : NewCon) (t : TreeValue) → IsSingle t.nodes → IsSingle (attached p newcomer t).nodes
one_attached p newcomer t = single t.nodes (attached p newcomer t).nodes (λ w. within-put_none w p (con (new_part (id t.next_id) (share_at p t.nodes) t.border (rect_at p) newcomer) end end end) t.nodes refl)

pub one_with_space : (o : ConId) (name : List ℕ) (t : TreeValue) → IsSingle t.nodes → IsSingle (with_space o name t).nodes
one_with_space o name t = single t.nodes (with_space o name t).nodes (λ w. within-put_none w (Last o) (new_space (id t.next_id) name t) t.nodes refl)

pub one_with_output : (plan : OutputPlan) (name : List ℕ) (t : TreeValue) → IsSingle t.nodes → IsSingle (with_output plan name t).nodes
one_with_output plan name t = single t.nodes (with_output plan name t).nodes (λ w. within-put_none w (Last root) (new_output (id t.next_id) plan (id (t.next_id + 1)) name t) t.nodes refl)

-- a split in the place of a node adds nothing
pub one_wrapped : (c : ConId) (layout : Layout) (t : TreeValue) → IsSingle t.nodes → IsSingle (wrapped c layout t).nodes
one_wrapped c layout t =
    single t.nodes (wrapped c layout t).nodes
    (λ w. omega (arith, within_at full_of w c wrap_word (new_part (id t.next_id) (share_in c t.nodes) t.border None (new.Split layout)) 0 (λ space part kids floats rest e. here w space part kids floats rest) None t.nodes))
  where
    here : (w : ConId) (space : Option ConId) (part : Part) (kids floats rest : Forest)
        → within full_of w space (wrap_word (new_part (id t.next_id) (share_in c t.nodes) t.border None (new.Split layout)) part kids floats rest) ≤ within full_of w space (con part kids floats rest) + 0
    here w space part kids floats rest =
        omega (arith, zero_if (is_id w space), changed_most full_of w space (edits.Share 65536) part kids floats end (rw (full_changed (edits.Share 65536) part.kind refl) (omega arith)))
      where
        zero_if : (b : Bool) → ◌≡◌ {A = ℕ} (cond b 0 0) 0
        zero_if true = refl
        zero_if false = refl
