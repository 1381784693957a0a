use Rattle.std.proofs.Common.{◌≡◌, ◌≤◌, ◌++◌, ◌∙◌, sym, ap, length, drop, arith}
use Rattle.std.proofs.lemmas.List.{length-append}
use Rattle.wm_cut.proofs.CutLemmas.{end_grows}
use Rattle.wm_cut.proofs.cutter.Cutter.feed.Goals as goal

pub invariant_of-self-2 : goal.invariant_of-self-2
invariant_of-self-2 c =
    let items = c.self.inside.bytes.items in
    let grown : c.extend_from_slice.new.self.items ≡ items ++ c.args.piece.now = c.in_ok-extend_from_slice.ensures.items in
    let count : c.rest-before.result ≡ length (drop c.self.inside.at items) = c.rest-before.ensures ∙ ap length (sym c.self.view_is) in
    let within : c.self.inside.at ≤ length (items ++ c.args.piece.now) = omega (arith, c.self.invariant.0, length-append items c.args.piece.now) in
    rw grown (within, end_grows items c.args.piece.now c.self.inside.at c.rest-before.result c.self.inside.end c.end_after-self-inside.result c.self.invariant.0 c.self.invariant.1 count c.end_after-self-inside.ensures)
