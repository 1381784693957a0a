use Rattle.std.proofs.Common.{◌≡◌, ℕ, ◌+◌, ◌<◌, Bool, List, ◌++◌, sym, subst, ap, append_assoc, arith}
use Rattle.std.proofs.lemmas.Grind.{common_steps}
use Rattle.wm_swallow.specs.SavedRows.{Saved, all_marks, row_below, rows, size}
use Rattle.wm_swallow.specs.Behind.{IsRoomLeft, behind_marks}
use Rattle.wm_swallow.specs.Limits.{different, is_held}
use Rattle.wm_swallow.proofs.BehindLemmas.{different_more}
use Rattle.wm_swallow.proofs.SavedLemmas.{below_is}
use Rattle.wm_swallow.proofs.behind.+fill.Goals as goal

pub room_after_below-room_after_marks-requires : goal.room_after_below-room_after_marks-requires
room_after_below-room_after_marks-requires t c =
    let e : row_below c.args.kind.now ≡ rows c.items.result.now = below_is _ _ _ _ c.in-Split.is c.items.ensures in
    (omega (arith, ap size e), tt)

pub room_after_below-returns-in-Split : goal.room_after_below-returns-in-Split
room_after_below-returns-in-Split t c =
    let e : row_below c.args.kind.now ≡ rows c.items.result.now = below_is _ _ _ _ c.in-Split.is c.items.ensures in
    subst (λ (r : Saved). IsRoomLeft (is_held c.args.tree.now.nodes) (all_marks r) (behind_marks c.args.behind.now) c.args.room c.room_after_marks.result) (sym e) c.room_after_marks.ensures

pub room_after_marks-returns-in_err-left : goal.room_after_marks-returns-in_err-left
room_after_marks-returns-in_err-left t c =
    let known : List ℕ → Bool = is_held c.args.tree.now.nodes in
    let all : List (List ℕ) = all_marks (rows c.args.nodes.now) in
    let last : List (List ℕ) = behind_marks c.args.behind.now in
    let less : c.args.room + different known last < different known (all ++ last) =
    let h = c.in_err-left.ensures in
    grind (arith, common_steps, different_more, append_assoc) in
    subst (λ r. IsRoomLeft known all last c.args.room r) (sym c.from_residual.ensures) less

pub room_after_node-returns-in_err-left : goal.room_after_node-returns-in_err-left
room_after_node-returns-in_err-left t c =
    let known : List ℕ → Bool = is_held c.args.tree.now.nodes in
    let own : List (List ℕ) = c.args.node.now.marks in
    let below : List (List ℕ) = all_marks (row_below c.args.node.now.kind) in
    let last : List (List ℕ) = behind_marks c.args.behind.now in
    let h : c.args.room + different known (below ++ last) < different known (c.items.result.now ++ (below ++ last)) = c.in_err-left.ensures in
    let less : c.args.room + different known last < different known ((own ++ below) ++ last) =
    omega (arith, h, ap (λ ms. different known (ms ++ (below ++ last))) c.items.ensures, ap (different known) (append_assoc own below last), different_more known below last) in
    subst (λ r. IsRoomLeft known (own ++ below) last c.args.room r) (sym c.from_residual.ensures) less
