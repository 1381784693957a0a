use Rattle.std.proofs.Common.{length, ◌≡◌, ◌∷◌, [], true, false, sym, ◌∙◌, ap, subst, drop, arith}
use Rattle.std.specs.Vec.Iter.{into_iter_items}
use Rattle.wm_ports.specs.ListenMemory.{IsWaiting, accepted_at, chosen_link}
use Rattle.wm_ports.specs.Memory.{is_listed}
use Rattle.wm_ports.specs.declared.listens.Accepted.TheVariants as accepted
use Rattle.wm_ports.proofs.ListenLemmas.{no-links, fails-at, given-at, quiet-at, told-after, waiting-after}
use Rattle.wm_ports.proofs.listen_memory.MemListenListenMemLink.accept.Goals as goal

pub invariant_of-self : goal.invariant_of-self
invariant_of-self c =
    let fails : is_listed c.self.inside.fails.items c.saturating_add-self-inside.result ≡ true =
    rw (← c.deref.ensures.value) (sym c.contains.ensures.value ∙ c.if-contains.true) in
    let is : accepted.Failed ≡ accepted_at c.self.inside.fails.items c.self.inside.quiet.items c.saturating_add-self-inside.result (into_iter_items c.self.inside.waiting) =
    fails-at c.self.inside.fails.items c.self.inside.quiet.items c.saturating_add-self-inside.result (into_iter_items c.self.inside.waiting) fails in
    ((waiting-after c.self.inside.links.items c.self.inside.fails.items c.self.inside.quiet.items c.self.inside.calls c.saturating_add-self-inside.result (into_iter_items c.self.inside.waiting) (accepted.Failed) c.saturating_add-self-inside.ensures c.self.invariant.0 is), omega (arith, c.self.invariant.1), c.self.invariant.2)

pub returns-then-contains-clause-told : goal.returns-then-contains-clause-told
returns-then-contains-clause-told c =
    let fails : is_listed c.self.inside.fails.items c.saturating_add-self-inside.result ≡ true =
    rw (← c.deref.ensures.value) (sym c.contains.ensures.value ∙ c.if-contains.true) in
    let is : accepted.Failed ≡ accepted_at c.self.inside.fails.items c.self.inside.quiet.items c.saturating_add-self-inside.result (into_iter_items c.self.inside.waiting) =
    fails-at c.self.inside.fails.items c.self.inside.quiet.items c.saturating_add-self-inside.result (into_iter_items c.self.inside.waiting) fails in
    rw (← c.self.view_is) (told-after c.self.inside.links.items c.self.inside.fails.items c.self.inside.quiet.items c.self.inside.calls c.saturating_add-self-inside.result (into_iter_items c.self.inside.waiting) c.self.inside.returned.items (accepted.Failed) c.saturating_add-self-inside.ensures c.self.invariant.0 is)

pub invariant_of-self-then-contains-2 : goal.invariant_of-self-then-contains-2
invariant_of-self-then-contains-2 c =
    let fails : is_listed c.self.inside.fails.items c.saturating_add-self-inside.result ≡ false =
    rw (← c.deref.ensures.value) (sym c.contains.ensures.value ∙ c.if-contains.false) in
    let quiet : is_listed c.self.inside.quiet.items c.saturating_add-self-inside.result ≡ true =
    rw (← c.deref-2.ensures.value) (sym c.contains-2.ensures.value ∙ c.if-contains-2.true) in
    let is : accepted.Quiet ≡ accepted_at c.self.inside.fails.items c.self.inside.quiet.items c.saturating_add-self-inside.result (into_iter_items c.self.inside.waiting) =
    quiet-at c.self.inside.fails.items c.self.inside.quiet.items c.saturating_add-self-inside.result (into_iter_items c.self.inside.waiting) fails quiet in
    ((waiting-after c.self.inside.links.items c.self.inside.fails.items c.self.inside.quiet.items c.self.inside.calls c.saturating_add-self-inside.result (into_iter_items c.self.inside.waiting) (accepted.Quiet) c.saturating_add-self-inside.ensures c.self.invariant.0 is), omega (arith, c.self.invariant.1), c.self.invariant.2)

pub returns-then-contains-2-clause-told : goal.returns-then-contains-2-clause-told
returns-then-contains-2-clause-told c =
    let fails : is_listed c.self.inside.fails.items c.saturating_add-self-inside.result ≡ false =
    rw (← c.deref.ensures.value) (sym c.contains.ensures.value ∙ c.if-contains.false) in
    let quiet : is_listed c.self.inside.quiet.items c.saturating_add-self-inside.result ≡ true =
    rw (← c.deref-2.ensures.value) (sym c.contains-2.ensures.value ∙ c.if-contains-2.true) in
    let is : accepted.Quiet ≡ accepted_at c.self.inside.fails.items c.self.inside.quiet.items c.saturating_add-self-inside.result (into_iter_items c.self.inside.waiting) =
    quiet-at c.self.inside.fails.items c.self.inside.quiet.items c.saturating_add-self-inside.result (into_iter_items c.self.inside.waiting) fails quiet in
    rw (← c.self.view_is) (told-after c.self.inside.links.items c.self.inside.fails.items c.self.inside.quiet.items c.self.inside.calls c.saturating_add-self-inside.result (into_iter_items c.self.inside.waiting) c.self.inside.returned.items (accepted.Quiet) c.saturating_add-self-inside.ensures c.self.invariant.0 is)

pub invariant_of-self-in_default : goal.invariant_of-self-in_default
invariant_of-self-in_default c =
    let fails : is_listed c.self.inside.fails.items c.saturating_add-self-inside.result ≡ false =
    rw (← c.deref.ensures.value) (sym c.contains.ensures.value ∙ c.if-contains.false) in
    let quiet : is_listed c.self.inside.quiet.items c.saturating_add-self-inside.result ≡ false =
    rw (← c.deref-2.ensures.value) (sym c.contains-2.ensures.value ∙ c.if-contains-2.false) in
    let none : into_iter_items c.self.inside.waiting ≡ [] =
    no-links (into_iter_items c.self.inside.waiting) (sym c.self.invariant.2 ∙ c.in_default.ensures.cases.0) in
    let is : accepted.Quiet ≡ accepted_at c.self.inside.fails.items c.self.inside.quiet.items c.saturating_add-self-inside.result (into_iter_items c.self.inside.waiting) =
    ap (λ w. chosen_link false false w) (sym none) ∙ given-at c.self.inside.fails.items c.self.inside.quiet.items c.saturating_add-self-inside.result (into_iter_items c.self.inside.waiting) fails quiet in
    (subst (λ w. IsWaiting c.self.inside.links.items c.self.inside.fails.items c.self.inside.quiet.items c.saturating_add-self-inside.result w) c.in_default.ensures.items (waiting-after c.self.inside.links.items c.self.inside.fails.items c.self.inside.quiet.items c.self.inside.calls c.saturating_add-self-inside.result (into_iter_items c.self.inside.waiting) (accepted.Quiet) c.saturating_add-self-inside.ensures c.self.invariant.0 is), omega (arith, c.self.invariant.1, c.in_default.ensures.cases.0, c.in_default.ensures.cases.1), omega (arith, c.in_default.ensures.cases.1, ap length c.in_default.ensures.items, ap length none))

pub returns-in_default-clause-told : goal.returns-in_default-clause-told
returns-in_default-clause-told c =
    let fails : is_listed c.self.inside.fails.items c.saturating_add-self-inside.result ≡ false =
    rw (← c.deref.ensures.value) (sym c.contains.ensures.value ∙ c.if-contains.false) in
    let quiet : is_listed c.self.inside.quiet.items c.saturating_add-self-inside.result ≡ false =
    rw (← c.deref-2.ensures.value) (sym c.contains-2.ensures.value ∙ c.if-contains-2.false) in
    let none : into_iter_items c.self.inside.waiting ≡ [] =
    no-links (into_iter_items c.self.inside.waiting) (sym c.self.invariant.2 ∙ c.in_default.ensures.cases.0) in
    let is : accepted.Quiet ≡ accepted_at c.self.inside.fails.items c.self.inside.quiet.items c.saturating_add-self-inside.result (into_iter_items c.self.inside.waiting) =
    ap (λ w. chosen_link false false w) (sym none) ∙ given-at c.self.inside.fails.items c.self.inside.quiet.items c.saturating_add-self-inside.result (into_iter_items c.self.inside.waiting) fails quiet in
    rw (← c.self.view_is) (told-after c.self.inside.links.items c.self.inside.fails.items c.self.inside.quiet.items c.self.inside.calls c.saturating_add-self-inside.result (into_iter_items c.self.inside.waiting) c.self.inside.returned.items (accepted.Quiet) c.saturating_add-self-inside.ensures c.self.invariant.0 is)

pub invariant_of-self-2 : goal.invariant_of-self-2
invariant_of-self-2 c =
    let fails : is_listed c.self.inside.fails.items c.saturating_add-self-inside.result ≡ false =
    rw (← c.deref.ensures.value) (sym c.contains.ensures.value ∙ c.if-contains.false) in
    let quiet : is_listed c.self.inside.quiet.items c.saturating_add-self-inside.result ≡ false =
    rw (← c.deref-2.ensures.value) (sym c.contains-2.ensures.value ∙ c.if-contains-2.false) in
    let some : into_iter_items c.self.inside.waiting ≡ c.in-Some.link ∷ into_iter_items c.next.new.self = c.in-Some.ensures.items in
    let is : accepted.Link c.in-Some.link ≡ accepted_at c.self.inside.fails.items c.self.inside.quiet.items c.saturating_add-self-inside.result (into_iter_items c.self.inside.waiting) =
    ap (λ w. chosen_link false false w) (sym some) ∙ given-at c.self.inside.fails.items c.self.inside.quiet.items c.saturating_add-self-inside.result (into_iter_items c.self.inside.waiting) fails quiet in
    (subst (λ w. IsWaiting c.self.inside.links.items c.self.inside.fails.items c.self.inside.quiet.items c.saturating_add-self-inside.result w) (ap (λ w. drop 1 w) some) (waiting-after c.self.inside.links.items c.self.inside.fails.items c.self.inside.quiet.items c.self.inside.calls c.saturating_add-self-inside.result (into_iter_items c.self.inside.waiting) (accepted.Link c.in-Some.link) c.saturating_add-self-inside.ensures c.self.invariant.0 is), omega (arith, c.self.invariant.1, c.in-Some.ensures.cases.1), omega (arith, c.self.invariant.2, ap length some, c.in-Some.ensures.cases.1))

pub returns-clause-told : goal.returns-clause-told
returns-clause-told c =
    let fails : is_listed c.self.inside.fails.items c.saturating_add-self-inside.result ≡ false =
    rw (← c.deref.ensures.value) (sym c.contains.ensures.value ∙ c.if-contains.false) in
    let quiet : is_listed c.self.inside.quiet.items c.saturating_add-self-inside.result ≡ false =
    rw (← c.deref-2.ensures.value) (sym c.contains-2.ensures.value ∙ c.if-contains-2.false) in
    let some : into_iter_items c.self.inside.waiting ≡ c.in-Some.link ∷ into_iter_items c.next.new.self = c.in-Some.ensures.items in
    let is : accepted.Link c.in-Some.link ≡ accepted_at c.self.inside.fails.items c.self.inside.quiet.items c.saturating_add-self-inside.result (into_iter_items c.self.inside.waiting) =
    ap (λ w. chosen_link false false w) (sym some) ∙ given-at c.self.inside.fails.items c.self.inside.quiet.items c.saturating_add-self-inside.result (into_iter_items c.self.inside.waiting) fails quiet in
    rw (← c.self.view_is) (told-after c.self.inside.links.items c.self.inside.fails.items c.self.inside.quiet.items c.self.inside.calls c.saturating_add-self-inside.result (into_iter_items c.self.inside.waiting) c.self.inside.returned.items (accepted.Link c.in-Some.link) c.saturating_add-self-inside.ensures c.self.invariant.0 is)
