use Rattle.std.proofs.Common.{◌≡◌, ◌<◌, ◌≤◌, ◌^◌, ◌++◌, drop, length, take, sym, ◌∙◌, ap, refl, arith, rules}
use Rattle.wm_frames.specs.Front.{front_of, length_field}
use Rattle.wm_frames.specs.Reading.{messages}
use Rattle.wm_frames.specs.Decoding.{Decoding}
use Rattle.wm_frames.specs.Step.{fault_at}
use Rattle.wm_frames.proofs.StepLemmas.{began, misses, fault_takes, part_takes, frame_takes, still_part, partial_by, from_view, body_fits, frame_size, head_whole}
use Rattle.wm_frames.proofs.decoder.Decoder.take.Goals as goal

pub returns-in-Some-clause-takes : goal.returns-in-Some-clause-takes
returns-in-Some-clause-takes c = λ _.
    let range : c.self.inside.place < 2 ^ 64 = omega arith in
    let inside : Decoding = record { queue = c.self.inside.queue.items; rest = c.self.inside.partial.head ++ c.self.inside.partial.body.items; place = c.self.inside.place; fault = c.self.inside.fault } in
    from_view inside _ _ _ c.self.view_is
    (fault_takes inside _ c.self.inside.partial.head c.self.inside.partial.body.items c.args.piece.now c.fill-taken.new.self c.fill-taken.result c.in-Some.fault
    (began c.self.inside.partial.head c.copied-head.result c.self.inside.partial.body.items c.args.piece.now c.fill-taken.new.self c.bytes.result.now c.fill-taken.result
    c.self.invariant c.copied-head.ensures c.fill-taken.ensures.count c.fill-taken.ensures.bytes c.bytes.ensures.value c.bytes.ensures.short)
    refl range (ap (λ xs. fault_at c.self.inside.place (front_of xs)) (sym c.bytes.ensures.value) ∙ sym c.in-Some.ensures) refl
    (ap (λ xs. xs ++ c.new.result.body.items) c.new.ensures.head ∙ c.new.ensures.body) refl refl)

pub missing-missing-requires : goal.missing-missing-requires
missing-missing-requires c = λ _.
    let fits : length c.self.inside.partial.body.items ≤ length_field c.bytes-2.result.now = body_fits c.self.inside.partial.head c.self.inside.partial.body.items c.args.piece.now c.fill-taken.new.self c.bytes-2.result.now c.fill-taken.result
    (began c.self.inside.partial.head c.copied-head.result c.self.inside.partial.body.items c.args.piece.now c.fill-taken.new.self c.bytes.result.now c.fill-taken.result
    c.self.invariant c.copied-head.ensures c.fill-taken.ensures.count c.fill-taken.ensures.bytes c.bytes.ensures.value c.bytes.ensures.short) c.bytes-2.ensures.value in
    let e : c.len.result ≡ length c.self.inside.partial.body.items = (c.len.ensures ∙ search rules) in
    omega arith

pub invariant_of-self-then-after-missing : goal.invariant_of-self-then-after-missing
invariant_of-self-then-after-missing c =
    partial_by _ _ _ _ c.in_ok-go_on.ensures.ok_head c.in_ok-go_on.ensures.ok_body
    (still_part c.self.inside.place c.self.inside.partial.head c.self.inside.partial.body.items c.args.piece.now c.fill-taken.new.self c.split_at.result.1.now c.fill-taken.result c.missing-missing.result
    (began c.self.inside.partial.head c.copied-head.result c.self.inside.partial.body.items c.args.piece.now c.fill-taken.new.self c.bytes.result.now c.fill-taken.result
    c.self.invariant c.copied-head.ensures c.fill-taken.ensures.count c.fill-taken.ensures.bytes c.bytes.ensures.value c.bytes.ensures.short)
    c.split_at.ensures.back (ap (λ xs. fault_at c.self.inside.place (front_of xs)) (sym c.bytes.ensures.value) ∙ sym c.in_default.ensures)
    (misses c.bytes-2.result.now c.fill-taken.new.self c.self.inside.partial.body.items c.missing-missing.result c.len.result c.bytes-2.ensures.value (c.len.ensures ∙ search rules) c.missing-missing.ensures.head c.missing-missing.ensures.body) c.if-after-missing.true)

pub returns-then-after-missing-clause-takes : goal.returns-then-after-missing-clause-takes
returns-then-after-missing-clause-takes c = λ _.
    let range : c.self.inside.place < 2 ^ 64 = omega arith in
    let inside : Decoding = record { queue = c.self.inside.queue.items; rest = c.self.inside.partial.head ++ c.self.inside.partial.body.items; place = c.self.inside.place; fault = c.self.inside.fault } in
    from_view inside _ _ _ c.self.view_is
    (part_takes inside _ c.self.inside.partial.head c.self.inside.partial.body.items c.args.piece.now c.fill-taken.new.self c.split_at.result.1.now c.fill-taken.result
    (began c.self.inside.partial.head c.copied-head.result c.self.inside.partial.body.items c.args.piece.now c.fill-taken.new.self c.bytes.result.now c.fill-taken.result
    c.self.invariant c.copied-head.ensures c.fill-taken.ensures.count c.fill-taken.ensures.bytes c.bytes.ensures.value c.bytes.ensures.short)
    refl range c.split_at.ensures.back
    (still_part c.self.inside.place c.self.inside.partial.head c.self.inside.partial.body.items c.args.piece.now c.fill-taken.new.self c.split_at.result.1.now c.fill-taken.result c.missing-missing.result
    (began c.self.inside.partial.head c.copied-head.result c.self.inside.partial.body.items c.args.piece.now c.fill-taken.new.self c.bytes.result.now c.fill-taken.result
    c.self.invariant c.copied-head.ensures c.fill-taken.ensures.count c.fill-taken.ensures.bytes c.bytes.ensures.value c.bytes.ensures.short)
    c.split_at.ensures.back (ap (λ xs. fault_at c.self.inside.place (front_of xs)) (sym c.bytes.ensures.value) ∙ sym c.in_default.ensures)
    (misses c.bytes-2.result.now c.fill-taken.new.self c.self.inside.partial.body.items c.missing-missing.result c.len.result c.bytes-2.ensures.value (c.len.ensures ∙ search rules) c.missing-missing.ensures.head c.missing-missing.ensures.body) c.if-after-missing.true)
    refl (ap (λ xs. xs ++ c.go_on.new.self.body.items) c.in_ok-go_on.ensures.ok_head ∙ ap (λ xs. c.fill-taken.new.self ++ xs) c.in_ok-go_on.ensures.ok_body) refl (ap (λ d. d.fault) c.self.view_is ∙ c.requires))

pub end-requires-clause-head : goal.end-requires-clause-head
end-requires-clause-head c =
    head_whole c.self.inside.partial.head c.self.inside.partial.body.items c.args.piece.now c.fill-taken.new.self c.split_at.result.1.now c.fill-taken.result c.missing-missing.result
    (began c.self.inside.partial.head c.copied-head.result c.self.inside.partial.body.items c.args.piece.now c.fill-taken.new.self c.bytes.result.now c.fill-taken.result
    c.self.invariant c.copied-head.ensures c.fill-taken.ensures.count c.fill-taken.ensures.bytes c.bytes.ensures.value c.bytes.ensures.short) c.split_at.ensures.back
    (misses c.bytes-2.result.now c.fill-taken.new.self c.self.inside.partial.body.items c.missing-missing.result c.len.result c.bytes-2.ensures.value (c.len.ensures ∙ search rules) c.missing-missing.ensures.head c.missing-missing.ensures.body) c.if-after-missing.false

pub end-requires-clause-fits : goal.end-requires-clause-fits
end-requires-clause-fits c =
    frame_size c.self.inside.partial.head c.self.inside.partial.body.items c.args.piece.now c.fill-taken.new.self c.split_at.result.1.now c.self.inside.place c.fill-taken.result c.missing-missing.result
    (began c.self.inside.partial.head c.copied-head.result c.self.inside.partial.body.items c.args.piece.now c.fill-taken.new.self c.bytes.result.now c.fill-taken.result
    c.self.invariant c.copied-head.ensures c.fill-taken.ensures.count c.fill-taken.ensures.bytes c.bytes.ensures.value c.bytes.ensures.short) c.split_at.ensures.back
    (misses c.bytes-2.result.now c.fill-taken.new.self c.self.inside.partial.body.items c.missing-missing.result c.len.result c.bytes-2.ensures.value (c.len.ensures ∙ search rules) c.missing-missing.ensures.head c.missing-missing.ensures.body) c.if-after-missing.false (ap (λ xs. fault_at c.self.inside.place (front_of xs)) (sym c.bytes.ensures.value) ∙ sym c.in_default.ensures)

pub returns-clause-takes : goal.returns-clause-takes
returns-clause-takes c = λ _.
    let inside : Decoding = record { queue = c.self.inside.queue.items; rest = c.self.inside.partial.head ++ c.self.inside.partial.body.items; place = c.self.inside.place; fault = c.self.inside.fault } in
    from_view inside _ _ _ c.self.view_is
    (frame_takes inside _ c.self.inside.partial.head c.self.inside.partial.body.items c.args.piece.now c.fill-taken.new.self c.split_at.result.1.now
    (take c.missing-missing.result c.split_at.result.1.now) (drop c.missing-missing.result c.split_at.result.1.now) (messages (drop c.missing-missing.result c.split_at.result.1.now)) c.fill-taken.result c.missing-missing.result
    (began c.self.inside.partial.head c.copied-head.result c.self.inside.partial.body.items c.args.piece.now c.fill-taken.new.self c.bytes.result.now c.fill-taken.result
    c.self.invariant c.copied-head.ensures c.fill-taken.ensures.count c.fill-taken.ensures.bytes c.bytes.ensures.value c.bytes.ensures.short)
    refl c.split_at.ensures.back (ap (λ xs. fault_at c.self.inside.place (front_of xs)) (sym c.bytes.ensures.value) ∙ sym c.in_default.ensures)
    (misses c.bytes-2.result.now c.fill-taken.new.self c.self.inside.partial.body.items c.missing-missing.result c.len.result c.bytes-2.ensures.value (c.len.ensures ∙ search rules) c.missing-missing.ensures.head c.missing-missing.ensures.body) c.if-after-missing.false refl refl refl
    c.in_ok-place.ensures.ok_queue c.in_ok-place.ensures.ok_rest c.in_ok-place.ensures.ok_place c.in_ok-place.ensures.ok_fault)
