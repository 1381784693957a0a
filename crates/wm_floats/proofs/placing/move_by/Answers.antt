use Rattle.std.proofs.Common.{◌≡◌, Some, refl, arith, rules}
use Rattle.std.specs.Prelude.{◌+ℤ◌, IfErr}
use Rattle.wm_floats.specs.Placing.{place_at_refusal}
use Rattle.std.proofs.lemmas.Grind.{common_steps}
use Rattle.wm_floats.proofs.PlaceLemmas.{shift_cause}
use Rattle.wm_floats.proofs.placing.move_by.Goals as goal

pub returns : goal.returns
returns c = record {
  tree = search rules;
  fine = search rules;
  err = search rules;
  cause =
      let h : IfErr c.place_at.result (λ e. place_at_refusal c.args.con (c.rect_of-rect.result.x +ℤ c.args.dx) (c.rect_of-rect.result.y +ℤ c.args.dy) c.args.t.now ≡ Some e) = first_of (search rules, grind (arith, common_steps)) in
      shift_cause c.args.con c.rect_of-rect.result (c.rect_of-rect.result.x +ℤ c.args.dx) (c.rect_of-rect.result.y +ℤ c.args.dy) c.args.dx c.args.dy c.args.t.now c.place_at.result c.rect_of-rect.ensures refl refl h;
  sound = search rules;
}
