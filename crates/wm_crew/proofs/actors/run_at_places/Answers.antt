use Rattle.std.proofs.Common.{◌≡◌, ◌++◌, length, ◌∙◌, ap, arith}
use Rattle.wm_crew.proofs.CrewLemmas.{two_behind, two_set}
use Rattle.wm_crew.specs.Running.{crew}
use Rattle.wm_crew.proofs.actors.run_at_places.Goals as goal

pub returns : goal.returns
returns g c = record {
  old = crew c.split_at_mut-workers.result.0.now _ _;
  new = crew c.run_all.new.passes c.run_all.new.timer c.run_all.new.painter;
  old_are =
      c.split_at_mut-workers.ensures.value
      ∙ ap (λ xs. c.split_at_mut-workers.result.0.now ++ xs) c.split_at_mut-timer.ensures.value
      ∙ two_behind c.split_at_mut-workers.result.0.now c.split_at_mut-timer.result.0.now c.split_at_mut-timer.result.1.now c.index-timer-0.result c.index-painter-0.result
      c.split_at_mut-timer.ensures.front_len left;
  new_are = two_set c.run_all.new.passes c.split_at_mut-timer.result.0.now c.split_at_mut-timer.result.1.now c.run_all.new.timer c.run_all.new.painter
      c.split_at_mut-timer.ensures.front_len left;
  as_many = c.run_all.auto.passes;
  as_many_doors = c.run_all.auto.listens;
  as_many_builds = c.run_all.auto.builds;
  ran = c.run_all.ensures;
}
  where
    left : length c.split_at_mut-timer.result.1.now ≡ 1
    left = omega (arith, c.split_at_mut-timer.ensures.back_len, c.split_at_mut-workers.ensures.back_len, c.requires.passes)
