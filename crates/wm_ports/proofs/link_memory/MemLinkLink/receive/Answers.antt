use Rattle.std.proofs.Common.{◌≡◌, ◌-◌, min, length, true, false, sym, ◌∙◌, ap, length-drop}
use Rattle.wm_ports.specs.Memory.{is_listed, next}
use Rattle.wm_ports.proofs.LinkLemmas.{answer-failed, answer-quiet, answer-given, given-end, given-some}
use Rattle.wm_ports.specs.declared.links.Received.TheVariants as received
use Rattle.wm_ports.proofs.link_memory.MemLinkLink.receive.Goals as goal

pub returns-then-contains-clause-answer : goal.returns-then-contains-clause-answer
returns-then-contains-clause-answer c =
    let fails : is_listed c.args.self.now.fails (next c.args.self.now.calls) ≡ true =
    rw (← c.self.view_is, ← c.saturating_add-self-inside.ensures, ← c.deref.ensures.value) (sym c.contains.ensures.value ∙ c.if-contains.true) in
    answer-failed c.args.self.now (length c.args.room.now) fails

pub returns-then-contains-2-clause-answer : goal.returns-then-contains-2-clause-answer
returns-then-contains-2-clause-answer c =
    let fails : is_listed c.args.self.now.fails (next c.args.self.now.calls) ≡ false =
    rw (← c.self.view_is, ← c.saturating_add-self-inside.ensures, ← c.deref.ensures.value) (sym c.contains.ensures.value ∙ c.if-contains.false) in
    let quiet : is_listed c.args.self.now.quiet (next c.args.self.now.calls) ≡ true =
    rw (← c.self.view_is, ← c.saturating_add-self-inside.ensures, ← c.deref-2.ensures.value) (sym c.contains-2.ensures.value ∙ c.if-contains-2.true) in
    answer-quiet c.args.self.now (length c.args.room.now) fails quiet

pub returns-then-n-eq0-clause-answer : goal.returns-then-n-eq0-clause-answer
returns-then-n-eq0-clause-answer c =
    let fails : is_listed c.args.self.now.fails (next c.args.self.now.calls) ≡ false =
    rw (← c.self.view_is, ← c.saturating_add-self-inside.ensures, ← c.deref.ensures.value) (sym c.contains.ensures.value ∙ c.if-contains.false) in
    let quiet : is_listed c.args.self.now.quiet (next c.args.self.now.calls) ≡ false =
    rw (← c.self.view_is, ← c.saturating_add-self-inside.ensures, ← c.deref-2.ensures.value) (sym c.contains-2.ensures.value ∙ c.if-contains-2.false) in
    let count : c.min-n.result ≡ min (length c.args.room.now) (length c.args.self.now.left) =
    rw (← c.self.view_is) (c.min-n.ensures ∙ ap (λ k. min (length c.args.room.now) (k - c.self.inside.at)) (c.len.ensures ∙ c.self.inside.bytes.ok.0)
    ∙ ap (λ k. min (length c.args.room.now) k) (sym (length-drop c.self.inside.at c.self.inside.bytes.items))) in
    given-end c.args.self.now.left (length c.args.room.now) c.requires (sym count ∙ c.if-n-eq0.true)
    ∙ answer-given c.args.self.now (length c.args.room.now) fails quiet

pub returns-clause-answer : goal.returns-clause-answer
returns-clause-answer c =
    let fails : is_listed c.args.self.now.fails (next c.args.self.now.calls) ≡ false =
    rw (← c.self.view_is, ← c.saturating_add-self-inside.ensures, ← c.deref.ensures.value) (sym c.contains.ensures.value ∙ c.if-contains.false) in
    let quiet : is_listed c.args.self.now.quiet (next c.args.self.now.calls) ≡ false =
    rw (← c.self.view_is, ← c.saturating_add-self-inside.ensures, ← c.deref-2.ensures.value) (sym c.contains-2.ensures.value ∙ c.if-contains-2.false) in
    let count : c.min-n.result ≡ min (length c.args.room.now) (length c.args.self.now.left) =
    rw (← c.self.view_is) (c.min-n.ensures ∙ ap (λ k. min (length c.args.room.now) (k - c.self.inside.at)) (c.len.ensures ∙ c.self.inside.bytes.ok.0)
    ∙ ap (λ k. min (length c.args.room.now) k) (sym (length-drop c.self.inside.at c.self.inside.bytes.items))) in
    ap (λ k. received.Got k) count
    ∙ given-some c.args.self.now.left (length c.args.room.now) (λ none. c.if-n-eq0.false (count ∙ none))
    ∙ answer-given c.args.self.now (length c.args.room.now) fails quiet
