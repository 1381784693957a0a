use Rattle.std.proofs.Common.{[], ap, subst}
use Rattle.std.specs.Prelude.{OnErr, OnOk}
use Rattle.wm_history.specs.History.{opening_of}
use Rattle.wm_script.specs.Out.{out_from, texts_from}
use Rattle.wm_tool.specs.Running.{Finishes, Stops}
use Rattle.wm_tool.proofs.EndLemmas.{nothing_taken}
use Rattle.wm_tool.proofs.RunLemmas.{nothing_backed, on_err}
use Rattle.wm_tool.proofs.replay.replay_plan.Goals as goal

-- without a desk nothing was run
pub returns-in_err-desk-clause-part : goal.returns-in_err-desk-clause-part
returns-in_err-desk-clause-part g c =
    on_err c.from_residual.result ([], nothing_backed _ (g.B.Build.log c.args.build.now), nothing_taken (g.W.Sink.taken c.args.sink.now) _)

pub returns-clause-ok : goal.returns-clause-ok
returns-clause-ok g c =
    subst (λ o. OnOk c.replay_on-end.result (Finishes (g.W.Sink.taken c.args.sink.now) (g.W.Sink.taken c.replay_on-end.new.sink) (λ rs. out_from o c.args.binds.now c.args.lines.now rs []) c.replay_on-end.new.refused.items (λ rs. texts_from o c.args.binds.now c.args.lines.now rs []) (g.B.Build.log c.args.build.now) (g.B.Build.log c.replay_on-end.new.build)))
    (ap opening_of c.in_ok-desk.ensures.plan) c.replay_on-end.ensures.ok

pub returns-clause-part : goal.returns-clause-part
returns-clause-part g c =
    subst (λ o. OnErr c.replay_on-end.result (Stops (g.W.Sink.taken c.args.sink.now) (g.W.Sink.taken c.replay_on-end.new.sink) (λ rs. out_from o c.args.binds.now c.args.lines.now rs []) (λ rs. texts_from o c.args.binds.now c.args.lines.now rs []) (g.B.Build.log c.args.build.now) (g.B.Build.log c.replay_on-end.new.build)))
    (ap opening_of c.in_ok-desk.ensures.plan) c.replay_on-end.ensures.part
