use Rattle.std.proofs.Common.{◌≡◌, ◌+◌, ◌-◌, min, length, take, drop, ◌∙◌, ap, arith}
use Rattle.wm_ports.proofs.ToldLemmas.{reads-slice}
use Rattle.wm_ports.proofs.memory.MemSourceSource.read.Goals as goal

pub returns-clause-bytes : goal.returns-clause-bytes
returns-clause-bytes c =
    let bytes = c.self.inside.bytes.items in
    let at = c.self.inside.at in
    let n = c.min-n.result in
    let count : n ≡ min (length c.args.room.now) (length bytes - at) =
    c.min-n.ensures ∙ ap (λ k. min (length c.args.room.now) (k - at)) (c.len.ensures ∙ c.self.inside.bytes.ok.0) in
    let copied : c.copy_from_slice.new.self ≡ take n (drop at bytes) =
    c.copy_from_slice.ensures.after ∙ ap (λ l. take (at + n - at) (drop at l)) c.deref-2.ensures.value
    ∙ ap (λ k. take k (drop at bytes)) (omega arith) in
    rw (← c.self.view_is) (reads-slice bytes c.args.room.now c.copy_from_slice.new.self at n c.self.invariant c.requires count copied)
