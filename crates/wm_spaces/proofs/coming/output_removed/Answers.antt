use Rattle.std.proofs.Common.{◌≡◌, true, false, Some, sym, ◌∙◌, arith, rules}
use Rattle.std.proofs.lemmas.Grind.{common_steps}
use Rattle.wm_spaces.specs.Names.{output_named}
use Rattle.wm_spaces.proofs.ComingLemmas.{heir_output, named_output, still_by}
use Rattle.wm_tree.proofs.SpaceLemmas.{has_output}
use Rattle.wm_tree.specs.Outputs.{IsOutput}
use Rattle.wm_spaces.proofs.coming.output_removed.Goals as goal

pub leave_output-requires-clause-heir : goal.leave_output-requires-clause-heir
leave_output-requires-clause-heir c =
    heir_output c.in-Some.output c.in-Some-heir.heir c.args.t.now (sym c.heir.ensures ∙ c.in-Some-heir.is)

pub returns : goal.returns
returns c = record {
  tree = first_of (search rules, grind (arith, common_steps));
  fine = first_of (search rules, grind (arith, common_steps));
  err = tt;
  cause = tt;
  sound =
      let named : output_named c.args.name.now c.args.t.now ≡ Some c.in-Some.output = first_of (search rules, grind (arith, common_steps)) in
      let there : IsOutput c.in-Some.output c.leave_output.new.t.nodes = still_by c.in-Some.output c.in-Some-heir.heir c.args.t.now c.leave_output.new.t (first_of (search rules, grind (arith, common_steps))) c.requires (named_output c.args.name.now c.in-Some.output c.args.t.now named) in
      c.remove_output.ensures.sound (λ h. there) c.leave_output.ensures.sound;
}

-- an output that is there is removed
pub unreachable-requires : goal.unreachable-requires
unreachable-requires c =
    let named : output_named c.args.name.now c.args.t.now ≡ Some c.in-Some.output = first_of (search rules, grind (arith, common_steps)) in
    let there : IsOutput c.in-Some.output c.leave_output.new.t.nodes = still_by c.in-Some.output c.in-Some-heir.heir c.args.t.now c.leave_output.new.t (first_of (search rules, grind (arith, common_steps))) c.requires (named_output c.args.name.now c.in-Some.output c.args.t.now named) in
    let bad : false ≡ true = c.in-Err.ensures.there (has_output c.in-Some.output c.leave_output.new.t.nodes there) in cc
