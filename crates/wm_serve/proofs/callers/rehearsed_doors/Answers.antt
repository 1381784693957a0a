use Rattle.std.proofs.Common.{◌∙◌, ◌++◌, ◌∷◌, [], ◌+◌, List, ap, ap₂, arith}
use Rattle.wm_serve.proofs.CallerLemmas.{doors_more}
use Rattle.wm_serve.specs.Once.{OnceState, fresh}
use Rattle.wm_serve.proofs.callers.rehearsed_doors.Goals as goal

pub loop-door-preserved : goal.loop-door-preserved
loop-door-preserved c =
    c.in_ok-push.ensures.items
    ∙ ap₂ (λ (ds : List OnceState) (d : OnceState). ds ++ d ∷ []) c.loop-door.invariant (c.new-listen.ensures ∙ ap fresh c.in_ok-link_at.ensures)
    ∙ doors_more c.args.n c.loop-door.door (c.loop-door.door + 1) (omega arith)
