-- An output that comes or goes keeps what holds of every tree.
use Rattle.std.proofs.Common.{◌≡◌, ◌≢◌, ℕ, ◌+◌, ◌≤◌, ◌<◌, Bool, true, false, cond, leb, ltb, ⊎_elim, [], ◌∷◌, List, Option, None, Some, refl, ap, sym, ◌∙◌, subst, arith}
use Rattle.std.proofs.lemmas.Bool.Decides.{nat_tests}
use Rattle.wm_base.specs.declared.errors.Limit.TheVariants.{Ids, Outputs, Workspaces}
use Rattle.wm_base.specs.declared.ids.ConId.{ConId}
use Rattle.wm_base.specs.declared.plan.OutputPlan.{OutputPlan}
use Rattle.wm_forest.specs.declared.kind.KindEdit.TheVariants as edits
use Rattle.wm_forest.specs.declared.part.Part.{Part}
use Rattle.wm_forest.specs.declared.part.NodeKind.{NodeKind}
use Rattle.wm_forest.specs.declared.part.NodeKind.TheVariants.{Root, Output, Space, Con}
use Rattle.wm_forest.specs.declared.place.Place.TheVariants.{Last}
use Rattle.wm_forest.specs.Forest.{Forest, end, con}
use Rattle.wm_forest.specs.Change.{append, at, nobody, without}
use Rattle.wm_forest.specs.Counts.{but, con_of, count, marks_of, row_length, space_count, space_of}
use Rattle.wm_forest.specs.Kinds.{changed, kind_changed}
use Rattle.wm_forest.specs.Look.{first_floats, first_kids, first_part, has, in_row, kind_by, only, output_kind, same}
use Rattle.wm_tree.specs.Outputs.{IsOutput, handed_on, left_to, new_output, passed_by_output, with_output, without_output, yielded}
use Rattle.wm_forest.specs.Taking.{heir, taking_in}
use Rattle.wm_forest.specs.Place.{put}
use Rattle.wm_forest.specs.SoundRow.{IsNode, IsOutputRect, IsSoundRow, one_of, outputs, rank_of, ranks, roots, tally}
use Rattle.wm_tree.specs.Sound.{IsSound}
use Rattle.wm_tree.specs.TreeValue.{TreeValue, current, current_in}
use Rattle.wm_forest.specs.RootId.{current_of, id, root}
use Rattle.wm_tree.specs.Words.{edited}
use Rattle.wm_tree.proofs.AttachLemmas.{has_row, hits, one_node}
use Rattle.wm_forest.proofs.CountLemmas.{count-append, count-more, count-put, count-without}
use Rattle.wm_forest.proofs.EditLemmas.{fits_current}
use Rattle.wm_tree.proofs.FocusLemmas.{current_there, has_kids, outputs_of, root_kids}
use Rattle.wm_tree.proofs.MoveLemmas.{found_alone}
use Rattle.wm_forest.proofs.OnceLemmas.{at_kids}
use Rattle.wm_tree.proofs.OutputRows.{OutputFound, Taken, but_keeps, but_only, first_there, in_row-append, output_found, row_left, sound-taking, sound_top}
use Rattle.wm_tree.proofs.PlaceLemmas.{count_kids}
use Rattle.wm_forest.proofs.PutLemmas.{row_length-append, sound-append}
use Rattle.wm_forest.proofs.RecencyLemmas.{same_self}
use Rattle.wm_forest.proofs.RowLemmas.{KeepsRow, behind_row, same_row}
use Rattle.wm_tree.proofs.SoundLemmas.{sound-edited}
use Rattle.wm_forest.proofs.StandLemmas.{sound-but}
use Rattle.wm_forest.proofs.TimesLemmas.{times-append}

-- the first node of a tree is the root
is_root : (part : Part) (kids floats rest : Forest) → IsSoundRow roots false 0 (con part kids floats rest) → same part.id root ≡ true
is_root part kids floats rest s = by_kind part.kind s.0
  where
    by_kind : (kind : NodeKind) → IsNode roots false 0 part.id kind part.marks kids → same part.id root ≡ true
    by_kind (Root c) n = same_self part.id root n.0
    by_kind (Output o) n = absurd n
    by_kind (Space w) n = absurd n
    by_kind (Con c) n = absurd n

-- ---- an output that comes

room_for_output : (outs n next : ℕ) (a b e : Bool) → leb 8 outs ≡ a → leb 256 n ≡ b → ltb 4000000000 (next + 1) ≡ e → cond a (Some Outputs) (cond b (Some Workspaces) (cond e (Some Ids) None)) ≡ None
    → (outs < 8) × (n < 256) × (next + 1 ≤ 4000000000)
room_for_output outs n next true b e ea eb ee h = cc
room_for_output outs n next false true e ea eb ee h = cc
room_for_output outs n next false false true ea eb ee h = cc
room_for_output outs n next false false false ea eb ee h = (grind (arith, nat_tests), grind (arith, nat_tests), grind (arith, nat_tests))

new_sound : (c w : ConId) (plan : OutputPlan) (first : List ℕ) (t : TreeValue) → IsOutputRect plan.rect → IsSoundRow outputs true 32 (new_output c plan w first t)
new_sound c w plan first t fit = ((fit, rw (same_self w w refl) refl, refl), omega arith, (refl, omega arith, tt, tt, tt), tt, tt)

-- a tree with an output more
top_put : (row f : Forest) → IsSoundRow outputs true 32 row → IsSoundRow roots false 0 f → in_row root f ≡ true → row_length (first_kids f) + row_length row ≤ 256 → Taken f (put (Last root) row f)
top_put row end ok s rooted few = cc
top_put row (con part kids floats rest) ok s rooted few =
    let New : Forest → Type 0 = λ z. Taken (con part kids floats rest) z in
    let e : put (Last root) row (con part kids floats rest) ≡ con part (append kids row) floats rest = rw (is_root part kids floats rest s) refl in
    subst New (sym e)
    (record {
      sound = sound_top part kids (append kids row) floats rest s (sound-append outputs true 32 kids row (outputs_of (con part kids floats rest) s) ok) (omega (arith, row_length-append kids row, few))
          (in_row-append (current_of part.kind) kids row (current_there (con part kids floats rest) s rooted));
      keeps = behind_row roots part part kids floats rest (append kids row) floats rest refl (same_row roots rest);
      outs = λ i h. in_row-append i kids row h;
    })

zero : (b : Bool) → ◌≡◌ {A = ℕ} (cond b 0 0) 0
zero true = refl
zero false = refl

pub sound-with_output : (plan : OutputPlan) (first : List ℕ) (t : TreeValue) → IsOutputRect plan.rect → passed_by_output t.nodes t.next_id ≡ None → IsSound t → IsSound (with_output plan first t)
sound-with_output plan first t fit none s =
    let n = t.next_id in
    let row : Forest = new_output (id n) plan (id (n + 1)) first t in
    let r = room_for_output (row_length (first_kids t.nodes)) (space_count t.nodes) n (leb 8 (row_length (first_kids t.nodes))) (leb 256 (space_count t.nodes)) (ltb 4000000000 (n + 1)) refl refl refl none in
    let there : has root t.nodes ≡ true = has_row root t.nodes s.rooted in
    let g = top_put row t.nodes (new_sound (id n) (id (n + 1)) plan first t fit) s.shaped s.rooted (omega (arith, r.0)) in
    let ones : (i : ConId) → tally i (with_output plan first t).nodes ≡ tally i t.nodes + hits (id n) i + hits (id (n + 1)) i = λ i. omega (arith, count-put (one_of i) (Last root) row t.nodes there) in
    record {
      shaped = g.sound;
      rooted = g.keeps root s.rooted;
      once = λ i.
          ⊎_elim
          (λ a. ⊎_elim (λ b. omega (arith, a, b, ones i, s.once i)) (λ b. omega (arith, a, b.0, ones i, s.fresh i (omega (arith, b.1)))) (one_node (id (n + 1)) i))
          (λ a. ⊎_elim (λ b. omega (arith, a.0, b, ones i, s.fresh i (omega (arith, a.1)))) (λ b. absurd (omega (arith, a.1, b.1))) (one_node (id (n + 1)) i))
          (one_node (id n) i);
      fresh = λ i above.
          ⊎_elim
          (λ a. ⊎_elim (λ b. omega (arith, a, b, ones i, s.fresh i (omega (arith, above)))) (λ b. absurd (omega (arith, above, b.1))) (one_node (id (n + 1)) i))
          (λ a. absurd (omega (arith, above, a.1)))
          (one_node (id n) i);
      low =
          ⊎_elim
          (λ a. ⊎_elim (λ b. omega (arith, a, b, ones nobody, s.low)) (λ b. absurd (omega (arith, b.1))) (one_node (id (n + 1)) nobody))
          (λ a. absurd (omega (arith, a.1, s.above)))
          (one_node (id n) nobody);
      above = omega (arith, s.above);
      known = λ i. omega (arith, times-append i t.recency (id (n + 1) ∷ []), s.known i, count-put (rank_of i) (Last root) row t.nodes there, zero (same (id n) i));
      few = omega (arith, count-put con_of (Last root) row t.nodes there, s.few);
      few_spaces = omega (arith, count-put space_of (Last root) row t.nodes there, r.1);
      few_marks = omega (arith, count-put marks_of (Last root) row t.nodes there, s.few_marks);
      ids = omega (arith, r.2);
    }

-- ---- an output that goes

-- what the first node of a row counts
abbrev first_count : (Part → ℕ) → Forest → ℕ
first_count m end = 0
first_count m (con part kids floats rest) = m part

-- what a node that stands alone counts
count_alone : (m : Part → ℕ) (f : Forest) → row_length f ≤ 1 → count m f ≡ first_count m f + count m (first_kids f) + count m (first_floats f)
count_alone m end one = omega arith
count_alone m (con part kids floats end) one = omega arith
count_alone m (con part kids floats (con q k l r)) one = absurd (omega arith)

-- an output counts nothing in the order of recency
output_ranks : (i : ConId) (f : Forest) → kind_by output_kind (first_part f) ≢ None → first_count (rank_of i) f ≡ 0
output_ranks i end ok = refl
output_ranks i (con part kids floats rest) ok = by_kind part.kind ok
  where
    by_kind : (kind : NodeKind) → output_kind kind ≢ None → ◌≡◌ {A = ℕ} (cond (same part.id i) (ranks kind) 0) 0
    by_kind (Root c) ok = absurd (ok refl)
    by_kind (Output o) ok = zero (same part.id i)
    by_kind (Space w) ok = absurd (ok refl)
    by_kind (Con c) ok = absurd (ok refl)

-- the row of outputs without one of them
record TopLeft (o : ConId) (old new : Forest) : Type 0 where
  pub sound : IsSoundRow roots false 0 new
  pub keeps : KeepsRow roots old new
  pub rooted : in_row root new ≡ true
  pub row : first_kids new ≡ but o (first_kids old)

top_left : (o : ConId) (f : Forest) → IsSoundRow roots false 0 f → in_row root f ≡ true → IsOutput o f → tally o f ≤ 1 → in_row (current_in (first_part f)) (but o (first_kids f)) ≡ true → TopLeft o f (without o f)
top_left o end s rooted h once stays = cc
top_left o (con part kids floats rest) s rooted h once stays =
    let r = row_left o kids h (omega (arith, once)) in
    let e : without o (con part kids floats rest) ≡ con part (but o kids) floats rest =
    at_kids o (λ row part kids floats rest. rest) end part kids floats rest once (has_row o kids h) ∙ ap (λ z. con part z floats rest) r.0 in
    let New : Forest → Type 0 = λ z. TopLeft o (con part kids floats rest) z in
    subst New (sym e)
    (record {
      sound = sound_top part kids (but o kids) floats rest s (sound-but o outputs true 32 kids (outputs_of (con part kids floats rest) s)) (omega (arith, r.1, s.1)) stays;
      keeps = behind_row roots part part kids floats rest (but o kids) floats rest refl (same_row roots rest);
      rooted = rw (is_root part kids floats rest s) refl;
      row = refl;
    })

module _ (o h : ConId) (t : TreeValue) (s : IsSound t) (ok : IsOutput o t.nodes) (stays : in_row (current t) (but o (first_kids t.nodes)) ≡ true) (next : heir o t.nodes ≡ Some h) where
  left : TopLeft o t.nodes (without o t.nodes)
  left = top_left o t.nodes s.shaped s.rooted ok (s.once o) stays

  gone : OutputFound (only o t.nodes)
  gone = output_found o t.nodes s.shaped ok (s.once o)

  other : IsOutput h (without o t.nodes)
  other = rw left.row (first_there h (but o (first_kids t.nodes)) next)

  counts : (m : Part → ℕ) → count m (handed_on o h t).nodes + first_count m (only o t.nodes) ≡ count m t.nodes
  counts m =
      omega (
        arith,
        count-more m h taking_in (only o t.nodes) (count m (first_kids (only o t.nodes)) + count m (first_floats (only o t.nodes)))
            (λ part kids floats rest. omega (arith, count-append m kids (first_kids (only o t.nodes)), count-append m floats (first_floats (only o t.nodes)))) (without o t.nodes)
            (has_kids h (without o t.nodes) (has_row h (first_kids (without o t.nodes)) other)),
        count_alone m (only o t.nodes) (found_alone o t.nodes),
        count-without m o t.nodes,
      )

  handed : Taken (without o t.nodes) (handed_on o h t).nodes
  handed =
      let once : tally h (without o t.nodes) ≤ 1 = omega (arith, count-without (one_of h) o t.nodes, s.once h) in
      let found = output_found h (without o t.nodes) left.sound other once in
      sound-taking h taking_in (only o t.nodes) (first_kids (only o t.nodes)) (first_floats (only o t.nodes)) (λ part kids floats rest. refl) gone.spaces_sound gone.floats_sound (without o t.nodes) left.sound left.rooted other once
      (omega (
        arith,
        found.counted,
        gone.counted,
        count_kids space_of (only h (without o t.nodes)),
        count_kids space_of (only o t.nodes),
        count-without space_of h (without o t.nodes),
        count-without space_of o t.nodes,
        s.few_spaces,
      ))

  sound-handed : IsSound (handed_on o h t)
  sound-handed = record {
    shaped = handed.sound;
    rooted = handed.keeps root left.rooted;
    once = λ i. omega (arith, counts (one_of i), s.once i);
    fresh = λ i above. omega (arith, counts (one_of i), s.fresh i above);
    low = omega (arith, counts (one_of nobody), s.low);
    above = s.above;
    known = λ i. omega (arith, s.known i, counts (rank_of i), output_ranks i (only o t.nodes) gone.first);
    few = omega (arith, counts con_of, s.few);
    few_spaces = omega (arith, counts space_of, s.few_spaces);
    few_marks = omega (arith, counts marks_of, s.few_marks);
    ids = s.ids;
  }

-- what making another output current changes
pub record Yields (h : ConId) (old new : Forest) : Type 0 where
  pub row : first_kids new ≡ first_kids old
  pub now : current_in (first_part new) ≡ h

pub yields : (h : ConId) (f : Forest) → IsSoundRow roots false 0 f → in_row root f ≡ true → Yields h f (at root kind_changed (edits.Current h) f)
yields h end s rooted = cc
yields h (con part kids floats rest) s rooted =
    let New : Forest → Type 0 = λ z. Yields h (con part kids floats rest) z in
    let e : at root kind_changed (edits.Current h) (con part kids floats rest) ≡ con (record part { kind = changed (edits.Current h) part.kind }) kids floats rest = rw (is_root part kids floats rest s) refl in
    subst New (sym e) (record { row = refl; now = by_kind part.kind s.0 })
  where
    by_kind : (kind : NodeKind) → IsNode roots false 0 part.id kind part.marks kids → current_of (changed (edits.Current h) kind) ≡ h
    by_kind (Root c) n = refl
    by_kind (Output o) n = absurd n
    by_kind (Space w) n = absurd n
    by_kind (Con c) n = absurd n

sound_by : (o h : ConId) (t : TreeValue) → IsOutput o t.nodes → heir o t.nodes ≡ Some h → IsSound t → IsSound (handed_on o h (yielded o h t))
sound_by o h t ok next s = by_test (same (current t) o) refl
  where
    first : in_row h (but o (first_kids t.nodes)) ≡ true
    first = first_there h (but o (first_kids t.nodes)) next

    by_test : (b : Bool) → same (current t) o ≡ b → IsSound (handed_on o h (cond b (edited root (edits.Current h) t) t))
    by_test true e =
        let u : TreeValue = edited root (edits.Current h) t in
        let y = yields h t.nodes s.shaped s.rooted in
        let su : IsSound u = sound-edited root (edits.Current h) t (fits_current h _ _ (rw (root_kids t.nodes s.shaped s.rooted) (but_only o h (first_kids t.nodes) first))) s in
        sound-handed o h u su (rw y.row ok) (rw (y.now, y.row) first) (rw y.row next)
    by_test false e = sound-handed o h t s ok (but_keeps o (current t) (first_kids t.nodes) e (current_there t.nodes s.shaped s.rooted)) next

pub sound-without_output : (o : ConId) (t : TreeValue) → IsOutput o t.nodes → IsSound t → IsSound (without_output o t)
sound-without_output o t ok s = by_heir (heir o t.nodes) refl
  where
    by_heir : (h : Option ConId) → heir o t.nodes ≡ h → IsSound (left_to h o t)
    by_heir None e = s
    by_heir (Some h) e = sound_by o h t ok e s
