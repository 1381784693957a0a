use Rattle.std.proofs.Common.{◌≡◌, ◌+◌, ◌<◌, ◌≤◌, ◌++◌, length, take, vec_len, arith, subst, sym, ◌∙◌, ap}
use Rattle.std.proofs.lemmas.List.{length-take-le}
use Rattle.wm_ports.specs.Told.{ReadsCount}
use Rattle.wm_ports.proofs.ToldLemmas.{reads-step, reads-end, reads-count, joined_length}
use Rattle.wm_ports.proofs.whole.read_through.Goals as goal

pub returns-then-n-limit-clause-err : goal.returns-then-n-limit-clause-err
returns-then-n-limit-clause-err g c =
    let all = c.pieces.all.items in
    let n = c.in_ok-n.n in
    let count = reads-count _ _ _ (reads-step _ _ _ _ all c.read.new.room n c.in_ok-n.ensures.within c.pieces.invariant.2 c.in_ok-n.ensures.bytes) in
    let long : length (all ++ take n c.read.new.room) ≡ c.len-then-n-limit.result + n =
    joined_length all c.read.new.room n c.in_ok-n.ensures.within ∙ ap (λ k. k + n) (sym c.pieces.all.ok.0 ∙ sym c.len-then-n-limit.ensures) in
    (omega arith, subst (λ k. ReadsCount (g.R.Source.rest c.args.source.now) (g.R.Source.rest c.read.new.self) k) long count)

pub returns-then-n-eq0-clause-ok : goal.returns-then-n-eq0-clause-ok
returns-then-n-eq0-clause-ok g c =
    reads-end _ _ _ _ c.pieces.all.items c.read.new.room c.in_ok-n.n c.if-n-eq0.true c.pieces.invariant.2 c.in_ok-n.ensures.bytes

pub pieces-preserved : goal.pieces-preserved
pieces-preserved g c =
    let all = c.pieces.all.items in
    let told = reads-step _ _ _ _ all c.read.new.room c.in_ok-n.n c.in_ok-n.ensures.within c.pieces.invariant.2 c.in_ok-n.ensures.bytes in
    let counted : g.R.Source.faults c.args.source.now ≤ g.R.Source.faults c.read.new.self = omega (arith, c.pieces.invariant.3, c.read.ensures.counted) in
    let shorter : vec_len c.extend_from_slice.new.self ≤ c.args.limit =
    omega (arith, c.in_ok-extend_from_slice.ensures.len, length-take-le c.in_ok-n.n c.read.new.room c.in_ok-n.ensures.within, c.if-n-limit.false, c.len.ensures, c.pieces.invariant.0) in
    let some : 0 < length c.read.new.room = omega (arith, c.read.auto.room, c.pieces.invariant.1) in
    (shorter, some, rw c.in_ok-extend_from_slice.ensures.items told, counted)
