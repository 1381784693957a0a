use Rattle.std.proofs.Common.{◌≡◌, ◌∙◌, subst, sym}
use Rattle.wm_ports.specs.Listening.{grown}
use Rattle.wm_ports.specs.declared.listens.Accepted.TheVariants as accepted
use Rattle.wm_serve.proofs.OnceLemmas.{once, telling, told_quiet}
use Rattle.wm_serve.specs.Once.{OnceState, answers, once_told}
use Rattle.wm_serve.proofs.once.OnceListenListenRehearsedLink.accept.Goals as goal

pub returns-in_default-clause-told : goal.returns-in_default-clause-told
returns-in_default-clause-told c =
    subst (λ (s : OnceState). once_told (once c.self.inside.link c.self.inside.left c.saturating_add-self-inside.result) ≡ telling s.link s.left (grown (answers s.link s.calls) accepted.Quiet))
    c.self.view_is
    (told_quiet c.self.inside.link c.self.inside.left c.self.inside.calls c.saturating_add-self-inside.result c.self.invariant.2 c.saturating_add-self-inside.ensures
    (sym c.in_default.is ∙ c.take.ensures.value ∙ c.self.invariant.0))
