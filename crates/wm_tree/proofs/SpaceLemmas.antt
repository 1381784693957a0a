-- A workspace that comes, or moves to another output, keeps what holds of every tree.
use Rattle.std.proofs.Common.{◌≡◌, ◌≢◌, ℕ, ◌+◌, ◌≤◌, ◌<◌, Bool, true, false, cond, leb, ltb, List, None, Some, refl, ap, sym, ◌∙◌, arith}
use Rattle.std.proofs.lemmas.Bool.Decides.{nat_tests}
use Rattle.wm_base.specs.declared.errors.Limit.TheVariants.{Ids, Workspaces}
use Rattle.wm_base.specs.declared.ids.ConId.{ConId}
use Rattle.wm_forest.specs.declared.part.Part.{Part}
use Rattle.wm_forest.specs.declared.place.Place.TheVariants.{Last}
use Rattle.wm_forest.specs.Forest.{Forest, end, con}
use Rattle.wm_forest.specs.Change.{append, nobody, without}
use Rattle.wm_forest.specs.Counts.{con_of, count, marks_of, row_length, space_count, space_of}
use Rattle.wm_forest.specs.Look.{first_kids, has, in_row, kind_of, only, space_kind}
use Rattle.wm_tree.specs.Outputs.{IsNotShown, IsOutput, new_space, passed_by_space, space_moved, with_space}
use Rattle.wm_forest.specs.Place.{put, put_word}
use Rattle.wm_tree.specs.Sound.{IsSound}
use Rattle.wm_forest.specs.SoundRow.{IsSoundRow, one_of, rank_of, roots, spaces, tally}
use Rattle.wm_forest.specs.Spot.{top}
use Rattle.wm_tree.specs.TreeValue.{TreeValue}
use Rattle.wm_forest.specs.RootId.{id, root}
use Rattle.wm_tree.proofs.AttachLemmas.{has_row, sound-grown}
use Rattle.wm_forest.proofs.CountLemmas.{count-put, count-without}
use Rattle.wm_tree.proofs.FocusLemmas.{has_kids}
use Rattle.wm_forest.proofs.ForestLemmas.{append_end}
use Rattle.wm_forest.proofs.LookLemmas.{seen-without}
use Rattle.wm_tree.proofs.OutputRows.{Taken, output_found, sound-taking, spaces_counted}
use Rattle.wm_tree.proofs.PlaceLemmas.{count_kids}
use Rattle.wm_tree.proofs.SpaceRows.{found_space, is_apart, sound-left}

-- an output is in the tree
pub has_output : (o : ConId) (f : Forest) → IsOutput o f → has o f ≡ true
has_output o f h = has_kids o f (has_row o (first_kids f) h)

last_word : (o : ConId) (row : Forest) (part : Part) (kids floats rest : Forest) → put_word (Last o) row part kids floats rest ≡ con part (append kids row) (append floats end) rest
last_word o row part kids floats rest = ap (λ z. con part (append kids row) z rest) (sym (append_end floats))

-- an output of a tree takes in a row of workspaces
pub sound-put_spaces : (o : ConId) (row f : Forest) → IsSoundRow spaces true 32 row → IsSoundRow roots false 0 f → in_row root f ≡ true → IsOutput o f → tally o f ≤ 1 → space_count f + row_length row ≤ 256 → Taken f (put (Last o) row f)
sound-put_spaces o row f ok s rooted h once few =
    let found = output_found o f s h once in
    sound-taking o (put_word (Last o)) row row end (last_word o row) ok tt f s rooted h once (omega (arith, few, found.counted, count_kids space_of (only o f), count-without space_of o f))

-- ---- a workspace that comes

room_for_space : (n next : ℕ) (a e : Bool) → leb 256 n ≡ a → ltb 4000000000 next ≡ e → cond a (Some Workspaces) (cond e (Some Ids) None) ≡ None → (n < 256) × (next ≤ 4000000000)
room_for_space n next true e ea ee h = cc
room_for_space n next false true ea ee h = cc
room_for_space n next false false ea ee h = (grind (arith, nat_tests), grind (arith, nat_tests))

pub sound-with_space : (o : ConId) (name : List ℕ) (t : TreeValue) → has o t.nodes ≡ true → IsOutput o t.nodes → passed_by_space t.nodes t.next_id ≡ None → IsSound t → IsSound (with_space o name t)
sound-with_space o name t there ok none s =
    let row : Forest = new_space (id t.next_id) name t in
    let r = room_for_space (space_count t.nodes) t.next_id (leb 256 (space_count t.nodes)) (ltb 4000000000 t.next_id) refl refl none in
    let g = sound-put_spaces o row t.nodes (refl, omega arith, tt, tt, tt) s.shaped s.rooted ok (s.once o) (omega (arith, r.0)) in
    sound-grown t (put (Last o) row t.nodes) s (g.sound, g.keeps)
    (record {
      ones = λ i. omega (arith, count-put (one_of i) (Last o) row t.nodes there);
      ranked_more = λ i. omega (arith, count-put (rank_of i) (Last o) row t.nodes there);
      cons = omega (arith, count-put con_of (Last o) row t.nodes there, s.few);
      spaces = omega (arith, count-put space_of (Last o) row t.nodes there, r.0);
      marks = omega (arith, count-put marks_of (Last o) row t.nodes there);
    })
    r.1

-- ---- a workspace that moves

module _ (w o : ConId) (t : TreeValue) (s : IsSound t) (ok : kind_of space_kind w t.nodes ≢ None) (unshown : IsNotShown w t.nodes) (out : IsOutput o t.nodes) where
  left : Forest
  left = without w t.nodes

  -- the output is still there
  there : has o (without w t.nodes) ≡ true
  there = (seen-without w o top t.nodes (is_apart w o t s ok out)).there ∙ has_output o t.nodes out

  counts : (m : Part → ℕ) → count m (space_moved w o t).nodes ≡ count m t.nodes
  counts m = omega (arith, count-put m (Last o) (only w t.nodes) (without w t.nodes) there, count-without m w t.nodes)

  pub sound-space_moved : IsSound (space_moved w o t)
  sound-space_moved =
      let g = sound-left w t.nodes ok unshown s.shaped in
      let row = found_space w t.nodes ok s.shaped in
      let h =
      sound-put_spaces o (only w t.nodes) (without w t.nodes) row g.sound (g.keeps root s.rooted) (g.outs o out) (omega (arith, s.once o, count-without (one_of o) w t.nodes))
      (omega (arith, s.few_spaces, count-without space_of w t.nodes, spaces_counted true 32 (only w t.nodes) row)) in
      record {
        shaped = h.sound;
        rooted = h.keeps root (g.keeps root s.rooted);
        once = λ i. omega (arith, counts (one_of i), s.once i);
        fresh = λ i above. omega (arith, counts (one_of i), s.fresh i above);
        low = omega (arith, counts (one_of nobody), s.low);
        above = s.above;
        known = λ i. s.known i ∙ sym (counts (rank_of i));
        few = omega (arith, counts con_of, s.few);
        few_spaces = omega (arith, counts space_of, s.few_spaces);
        few_marks = omega (arith, counts marks_of, s.few_marks);
        ids = s.ids;
      }
