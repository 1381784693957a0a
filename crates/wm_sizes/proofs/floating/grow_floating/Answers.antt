use Rattle.std.proofs.Common.{◌≡◌, ◌∙◌, true, sym, arith, rules}
use Rattle.std.proofs.lemmas.Grind.{common_steps}
use Rattle.wm_sizes.proofs.BoolLemmas.{both}
use Rattle.wm_sizes.specs.Floating.{fits, has_place, has_sides}
use Rattle.wm_sizes.proofs.floating.grow_floating.Goals as goal

pub as_rect-requires-clause-place : goal.as_rect-requires-clause-place
as_rect-requires-clause-place c =
    let fine : fits c.grown-frame.result ≡ true = sym c.fits.ensures ∙ c.if-not-fits.false in
    (both (has_sides c.grown-frame.result) (has_place c.grown-frame.result) fine).1

pub returns : goal.returns
returns c = record {
  tree = first_of (search rules, grind (arith, common_steps));
  fine = first_of (search rules, grind (arith, common_steps));
  err = search rules;
  cause = search rules;
  sound = search rules;
}
