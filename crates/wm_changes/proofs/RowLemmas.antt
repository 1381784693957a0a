-- The first node of a row, and the row behind it.
use Rattle.std.proofs.Common.{◌≡◌, ◌+◌, ℕ, List, [], ◌++◌, Option, Some, None, append-nil, refl, ap, sym, subst, ◌∙◌}
use Rattle.std.specs.Option.{option_or}
use Rattle.wm_base.specs.declared.ids.ConId.{ConId}
use Rattle.wm_changes.specs.declared.standing.StandingNode.{StandingNode}
use Rattle.wm_changes.specs.declared.standing.StandingRow.{StandingRow}
use Rattle.wm_changes.specs.Differing.{IsFirst, IsNarrowNode, last_of, node_windows, row_windows}
use Rattle.wm_changes.specs.Facts.{IsNarrow, WindowFact, put_windows, window_here, windows_in}
use Rattle.wm_changes.proofs.FactLemmas.{windows_both}
use Rattle.wm_changes.proofs.FoundLemmas.{last_more}
use Rattle.wm_forest.specs.declared.part.Part.{Part}
use Rattle.wm_forest.specs.Forest.{Forest, end, con, node_count}
use Rattle.wm_forest.specs.Look.{con_kind, first_floats, first_kids, first_part, rest_of}

pub at_end : (f : Forest) → first_part f ≡ None → f ≡ end
at_end end h = refl
at_end (con part kids floats rest) h = cc

pub at_node : (f : Forest) (part : Part) → first_part f ≡ Some part → f ≡ con part (first_kids f) (first_floats f) (rest_of f)
at_node end part h = cc
at_node (con p kids floats rest) part h = let same : p ≡ part = cc in rw (same) refl

-- below a node with no rows no window is
pub leaf_windows : (n : StandingNode) → first_part n.kids ≡ None → first_part n.floats ≡ None → node_windows n ≡ window_here n.standing n.part.now (con_kind n.part.now.kind)
leaf_windows n kids floats =
    let own : List WindowFact = window_here n.standing n.part.now (con_kind n.part.now.kind) in
    rw (at_end n.kids kids, at_end n.floats floats) (append-nil (own ++ []) ∙ append-nil own)

-- ---- a row that stands somewhere

module _ (r : StandingRow) (n : StandingNode) (first : IsFirst r (Some n)) where
  pub narrow_first : IsNarrow r.row → IsNarrowNode n
  narrow_first h = let all : IsNarrow (con n.part.now n.kids n.floats (rest_of r.row)) = subst IsNarrow first.0 h in (all.0, all.2, all.3)

  pub narrow_rest : IsNarrow r.row → IsNarrow (rest_of r.row)
  narrow_rest h = let all : IsNarrow (con n.part.now n.kids n.floats (rest_of r.row)) = subst IsNarrow first.0 h in all.4

  pub size_first : node_count r.row ≡ 1 + node_count n.kids + node_count n.floats + node_count (rest_of r.row)
  size_first = ap node_count first.0

  -- its windows are those of the node and those behind
  pub windows_first : row_windows r ≡ node_windows n ++ windows_in r.standing (rest_of r.row)
  windows_first = ap (windows_in r.standing) first.0 ∙ rw (first.1) refl

  -- those behind are put in behind those of the node
  pub put_first : (done next all : List (ℕ × WindowFact)) → next ≡ put_windows (node_windows n) done → put_windows (row_windows r) done ≡ all → put_windows (windows_in r.standing (rest_of r.row)) next ≡ all
  put_first done next all here h =
      ap (put_windows (windows_in r.standing (rest_of r.row))) here
      ∙ (windows_both (node_windows n) (windows_in r.standing (rest_of r.row)) done ∙ (ap (λ ws. put_windows ws done) (sym windows_first) ∙ h))

  -- the last one behind comes before that of the node
  pub last_first : (c : ConId) (found next all : Option WindowFact) → next ≡ option_or (last_of c (node_windows n)) found → option_or (last_of c (row_windows r)) found ≡ all
      → option_or (last_of c (windows_in r.standing (rest_of r.row))) next ≡ all
  last_first c found next all here h =
      ap (option_or (last_of c (windows_in r.standing (rest_of r.row)))) here
      ∙ (last_more c (node_windows n) (windows_in r.standing (rest_of r.row)) found ∙ (ap (λ ws. option_or (last_of c ws) found) (sym windows_first) ∙ h))

-- the row behind the first node is no longer than the row, and narrow where the row is
pub behind_size : (r rest : StandingRow) (n : StandingNode) → IsFirst r (Some n) → rest ≡ record { standing = r.standing; row = rest_of r.row } → node_count r.row ≡ 1 + node_count n.kids + node_count n.floats + node_count rest.row
behind_size r rest n first behind = size_first r n first ∙ ap (λ (x : StandingRow). 1 + node_count n.kids + node_count n.floats + node_count x.row) (sym behind)

pub behind_narrow : (r rest : StandingRow) (n : StandingNode) → IsFirst r (Some n) → rest ≡ record { standing = r.standing; row = rest_of r.row } → IsNarrow r.row → IsNarrow rest.row
behind_narrow r rest n first behind narrow = subst (λ (x : StandingRow). IsNarrow x.row) (sym behind) (narrow_rest r n first narrow)

pub behind_windows : (r rest : StandingRow) (n : StandingNode) → IsFirst r (Some n) → rest ≡ record { standing = r.standing; row = rest_of r.row } → row_windows r ≡ node_windows n ++ row_windows rest
behind_windows r rest n first behind = windows_first r n first ∙ ap (λ (x : StandingRow). node_windows n ++ row_windows x) (sym behind)
