use Rattle.std.proofs.Common.{inl, inr, refl, sym, ◌∙◌, arith}
use Rattle.wm_ports.proofs.link_memory.MemLinkLink.send.Goals as goal
use Rattle.wm_ports.proofs.link_memory.MemLinkLink.send.Goals.{then-left-eq0-via-then-left-eq0, then-left-eq0-via-else-left-eq0+then-contains}

pub returns-then-left-eq0-clause-fails : goal.returns-then-left-eq0-clause-fails
returns-then-left-eq0-clause-fails c = (
  λ _. elim c.then-left-eq0.branch [
    | then-left-eq0-via-then-left-eq0 w ↦ inl (rw (← c.self.view_is) (omega (arith, w.if-left-eq0.true, c.len.ensures, c.self.inside.sent.ok.0)))
    | then-left-eq0-via-else-left-eq0+then-contains w ↦ inr (rw (← c.self.view_is)
        (rw (← c.saturating_add-self-inside.ensures, ← w.deref.ensures.value) (sym w.contains.ensures.value ∙ w.if-contains.true)))
  ],
  λ _. refl,
)
