-- Outputs that come and go: the names that are free, and who is there.
use Rattle.std.proofs.Common.{◌≡◌, ℕ, zero, suc, ◌+◌, ◌-◌, ◌<◌, Bool, true, false, cond, ◌||◌, List, Some, refl, arith}
use Rattle.std.specs.Prelude.{is_some}
use Rattle.std.specs.Fmt.{decimal}
use Rattle.wm_base.specs.declared.ids.ConId.{ConId}
use Rattle.wm_shared.specs.Showing.{output_focused, space_name, with_current}
use Rattle.wm_spaces.specs.Coming.{free_from, left_output}
use Rattle.wm_spaces.specs.Names.{output_called, output_in_row, output_named, space_named}
use Rattle.wm_tree.proofs.OutputLemmas.{yields}
use Rattle.wm_tree.proofs.OutputRows.{but_only, first_there}
use Rattle.wm_forest.proofs.RecencyLemmas.{same_self}
use Rattle.wm_forest.specs.Counts.{but}
use Rattle.wm_forest.specs.Forest.{Forest, end, con}
use Rattle.wm_forest.specs.Look.{first_kids, in_row, output_kind, same}
use Rattle.wm_tree.specs.Outputs.{IsOutput}
use Rattle.wm_forest.specs.Taking.{heir}
use Rattle.wm_tree.specs.Sound.{IsSound}
use Rattle.wm_tree.specs.TreeValue.{TreeValue, current, shown}

-- a number that is a name is passed over
pub free_step : (n k : ℕ) (t : TreeValue) → 0 < n → is_some (space_named (decimal k) t) ≡ true → free_from n k t ≡ free_from (n - 1) (k + 1) t
free_step zero k t some taken = absurd (omega arith)
free_step (suc n) k t some taken = let e : suc n - 1 ≡ n = omega arith in rw (e, taken) refl

-- the output of a name is one of them
row_named : (n : List ℕ) (o : ConId) (row : Forest) → output_in_row n row ≡ Some o → in_row o row ≡ true
row_named n o end h = cc
row_named n o (con part kids floats rest) h = step (output_called n (output_kind part.kind)) h (row_named n o rest)
  where
    step : (b : Bool) → cond b (Some part.id) (output_in_row n rest) ≡ Some o → (output_in_row n rest ≡ Some o → in_row o rest ≡ true) → (same part.id o || in_row o rest) ≡ true
    step true h ih = let e : part.id ≡ o = cc in rw (same_self part.id o e) refl
    step false h ih = last (same part.id o) (ih h)
      where
        last : (a : Bool) → in_row o rest ≡ true → (a || in_row o rest) ≡ true
        last true p = refl
        last false p = p

pub named_output : (n : List ℕ) (o : ConId) (t : TreeValue) → output_named n t ≡ Some o → IsOutput o t.nodes
named_output n o t h = row_named n o (first_kids t.nodes) h

pub heir_output : (o h : ConId) (t : TreeValue) → heir o t.nodes ≡ Some h → IsOutput h t.nodes
heir_output o h t e = but_only o h (first_kids t.nodes) (first_there h (but o (first_kids t.nodes)) e)

-- another current output leaves the outputs as they are
pub outputs_left : (o h : ConId) (t : TreeValue) → IsSound t → first_kids (left_output o h t).nodes ≡ first_kids t.nodes
outputs_left o h t s = by_test (same (current t) o)
  where
    u : TreeValue
    u = with_current h t

    kept : (b : Bool) → first_kids (cond b (with_current h t) (record (with_current h t) { previous = space_name (shown t) t })).nodes ≡ first_kids t.nodes
    kept true = (yields h t.nodes s.shaped s.rooted).row
    kept false = (yields h t.nodes s.shaped s.rooted).row

    by_test : (b : Bool) → first_kids (cond b (output_focused h t) t).nodes ≡ first_kids t.nodes
    by_test true = kept (same (shown t) (shown (with_current h t)))
    by_test false = refl

-- the output that goes is still there
pub still_output : (o h : ConId) (t : TreeValue) → IsSound t → IsOutput o t.nodes → IsOutput o (left_output o h t).nodes
still_output o h t s ok = rw (outputs_left o h t s) ok

-- the same of a tree that is that one
pub still_by : (o h : ConId) (t new : TreeValue) → new ≡ left_output o h t → IsSound t → IsOutput o t.nodes → IsOutput o new.nodes
still_by o h t new e s ok = rw e (still_output o h t s ok)
