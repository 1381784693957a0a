use Rattle.std.proofs.Common.{[], subst}
use Rattle.std.specs.Prelude.{OnErr, OnOk}
use Rattle.wm_history.specs.History.{opening_of}
use Rattle.wm_script.specs.Out.{texts_from}
use Rattle.wm_tool.specs.Drawing.{drawn_from}
use Rattle.wm_tool.specs.Running.{Finishes, Stops}
use Rattle.wm_tool.proofs.drawing.draw.Goals as goal

pub returns-clause-ok : goal.returns-clause-ok
returns-clause-ok g c =
    let start = opening_of c.args.script.plan in
    let old = g.W.Sink.taken c.args.sink.now in
    let new = g.W.Sink.taken c.draw_plan-end.new.sink in
    let first = g.B.Build.log c.args.build.now in
    let log = g.B.Build.log c.draw_plan-end.new.build in
    subst (λ bs. OnOk c.draw_plan-end.result (Finishes old new (λ rs. drawn_from start bs c.args.script.lines rs []) c.draw_plan-end.new.refused.items (λ rs. texts_from start bs c.args.script.lines rs []) first log)) c.items.ensures
    (subst (λ ls. OnOk c.draw_plan-end.result (Finishes old new (λ rs. drawn_from start c.items.result.now ls rs []) c.draw_plan-end.new.refused.items (λ rs. texts_from start c.items.result.now ls rs []) first log)) c.items-2.ensures c.draw_plan-end.ensures.ok)

pub returns-clause-part : goal.returns-clause-part
returns-clause-part g c =
    let start = opening_of c.args.script.plan in
    let old = g.W.Sink.taken c.args.sink.now in
    let new = g.W.Sink.taken c.draw_plan-end.new.sink in
    let first = g.B.Build.log c.args.build.now in
    let log = g.B.Build.log c.draw_plan-end.new.build in
    subst (λ bs. OnErr c.draw_plan-end.result (Stops old new (λ rs. drawn_from start bs c.args.script.lines rs []) (λ rs. texts_from start bs c.args.script.lines rs []) first log)) c.items.ensures
    (subst (λ ls. OnErr c.draw_plan-end.result (Stops old new (λ rs. drawn_from start c.items.result.now ls rs []) (λ rs. texts_from start c.items.result.now ls rs []) first log)) c.items-2.ensures c.draw_plan-end.ensures.part)
