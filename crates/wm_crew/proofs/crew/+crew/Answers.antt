use Rattle.std.proofs.Common.{◌≡◌, ◌+◌, ◌++◌, ◌<◌, arith, sym, ap, ◌∙◌, subst}
use Rattle.std.proofs.lemmas.List.Elements.{All-take, All-drop}
use Rattle.std.specs.List.{All}
use Rattle.wm_crew.specs.Crew.{AtAll, posts}
use Rattle.wm_crew.proofs.CrewLemmas.{beside, only, posts_append}
use Rattle.wm_crew.proofs.crew.+crew.Goals as goal

pub run_beside-join_mut-fault-requires-after_bounds : goal.run_beside-join_mut-fault-requires-after_bounds
run_beside-join_mut-fault-requires-after_bounds g t c κs within =
    let fits : c.args.first + 1 < 18446744073709551616 = omega (arith, c.requires.numbers) in
    ((omega (arith, c.decreases, c.requires.one.0), search (c.requires.ready.0, fits, c.requires-raw)), (omega (arith, c.decreases, c.requires.one.0), search (c.requires.ready.1, c.requires-raw)))

pub run_beside-returns : goal.run_beside-returns
run_beside-returns g t c = beside (g.W.Duty.does c.args.duty.now) c.args.first c.args.pass.now c.args.listen.now c.args.keep.now _ _ _ _ _ _ _ _ _ _ _ _ _
    c.join_mut-fault.result.0 c.join_mut-fault.result.1 c.worse.result c.requires.one c.worse.ensures
    (grind arith, grind arith, grind arith, grind arith, grind arith, grind arith)
    c.join_mut-fault.ensures.0.met.1 c.join_mut-fault.ensures.1.met.1

pub run_crew-returns-then-passes-eq1 : goal.run_crew-returns-then-passes-eq1
run_crew-returns-then-passes-eq1 g t c =
    only (g.W.Duty.does c.args.duty.now) c.args.first _ _ _ _ _ _ _ _ _ c.perform-end.result c.fault_of.result c.if-passes-eq1.true c.requires.listens c.requires.kept c.perform-end.ensures c.fault_of.ensures

pub run_crew-run_beside-requires-clause-ready : goal.run_crew-run_beside-requires-clause-ready
run_crew-run_beside-requires-clause-ready g t c κs within = (
  subst (λ xs. All (g.W.Duty.ready c.args.duty.now) xs) (sym c.split_at_mut-one.ensures.front) (All-take (g.W.Duty.ready c.args.duty.now) 1 c.args.passes.now c.requires.ready),
  subst (λ xs. All (g.W.Duty.ready c.args.duty.now) xs) (sym c.split_at_mut-one.ensures.back) (All-drop (g.W.Duty.ready c.args.duty.now) 1 c.args.passes.now c.requires.ready),
)

pub run_crew-returns : goal.run_crew-returns
run_crew-returns g t c =
    subst (λ xs. AtAll (g.W.Duty.does c.args.duty.now) c.args.first (posts c.args.passes.now c.args.listens.now c.args.kept.now) xs c.run_beside.result) (sym after)
    (subst (λ xs. AtAll (g.W.Duty.does c.args.duty.now) c.args.first xs (posts c.run_beside.new.pass c.run_beside.new.listen c.run_beside.new.keep ++ posts c.run_beside.new.passes c.run_beside.new.listens c.run_beside.new.kept) c.run_beside.result) (sym before) c.run_beside.ensures)
  where
    before : posts c.args.passes.now c.args.listens.now c.args.kept.now
        ≡ posts c.split_at_mut-one.result.0.now c.split_at_mut-listen.result.0.now c.split_at_mut-keep.result.0.now ++ posts c.split_at_mut-one.result.1.now c.split_at_mut-listen.result.1.now c.split_at_mut-keep.result.1.now
    before =
        ap (λ xs. posts xs c.args.listens.now c.args.kept.now) c.split_at_mut-one.ensures.value
        ∙ ap (λ xs. posts (c.split_at_mut-one.result.0.now ++ c.split_at_mut-one.result.1.now) xs c.args.kept.now) c.split_at_mut-listen.ensures.value
        ∙ ap (λ xs. posts (c.split_at_mut-one.result.0.now ++ c.split_at_mut-one.result.1.now) (c.split_at_mut-listen.result.0.now ++ c.split_at_mut-listen.result.1.now) xs) c.split_at_mut-keep.ensures.value
        ∙ posts_append c.split_at_mut-one.result.0.now c.split_at_mut-one.result.1.now c.split_at_mut-listen.result.0.now c.split_at_mut-listen.result.1.now c.split_at_mut-keep.result.0.now c.split_at_mut-keep.result.1.now
        (c.split_at_mut-listen.ensures.front_len ∙ sym c.split_at_mut-one.ensures.front_len) (c.split_at_mut-keep.ensures.front_len ∙ sym c.split_at_mut-one.ensures.front_len)

    after : posts (c.run_beside.new.pass ++ c.run_beside.new.passes) (c.run_beside.new.listen ++ c.run_beside.new.listens) (c.run_beside.new.keep ++ c.run_beside.new.kept)
        ≡ posts c.run_beside.new.pass c.run_beside.new.listen c.run_beside.new.keep ++ posts c.run_beside.new.passes c.run_beside.new.listens c.run_beside.new.kept
    after = posts_append _ _ _ _ _ _
        (omega (arith, c.run_beside.auto.listen, c.run_beside.auto.pass, c.split_at_mut-one.ensures.front_len, c.split_at_mut-listen.ensures.front_len))
        (omega (arith, c.run_beside.auto.keep, c.run_beside.auto.pass, c.split_at_mut-one.ensures.front_len, c.split_at_mut-keep.ensures.front_len))
