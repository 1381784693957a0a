use Rattle.std.proofs.Common.{◌≡◌, false, arith, rules}
use Rattle.std.proofs.lemmas.Grind.{common_steps}
use Rattle.wm_sizes.proofs.AnewLemmas.{anew}
use Rattle.wm_sizes.proofs.HandLemmas.{first_ready}
use Rattle.wm_sizes.proofs.SetLemmas.{anew_sound}
use Rattle.wm_sizes.specs.Tiled.{cannot, children_of, lacks, rung_deal}
use Rattle.wm_sizes.proofs.tiled.share_anew.Goals as goal

pub hand_out-requires-clause-ready : goal.hand_out-requires-clause-ready
hand_out-requires-clause-ready c =
    let no : cannot c.args.growth c.length_of-length.result c.deal_of-deal.result (children_of c.args.rung.parent c.args.t.now) ≡ false = first_of (search rules, grind (arith, common_steps)) in
    first_ready c.args.growth c.length_of-length.result c.deal_of-deal.result (children_of c.args.rung.parent c.args.t.now) no c.deal_of-deal.ensures.small c.requires.family.family.few

pub returns-clause-does : goal.returns-clause-does
returns-clause-does c = record {
  tree = search rules;
  fine = search rules;
  err = search rules;
  cause = search rules;
  sound =
      let no : cannot c.args.growth c.length_of-length.result c.deal_of-deal.result (children_of c.args.rung.parent c.args.t.now) ≡ false = first_of (search rules, grind (arith, common_steps)) in
      let r = first_ready c.args.growth c.length_of-length.result c.deal_of-deal.result (children_of c.args.rung.parent c.args.t.now) no c.deal_of-deal.ensures.small c.requires.family.family.few in
      anew_sound c.deal_of-deal.result c.args.rung c.args.t.now c.hand_out.new.t c.requires.sound c.requires.family r c.hand_out.ensures;
}

pub returns-clause-shares : goal.returns-clause-shares
returns-clause-shares c =
    let no : cannot c.args.growth c.length_of-length.result c.deal_of-deal.result (children_of c.args.rung.parent c.args.t.now) ≡ false = first_of (search rules, grind (arith, common_steps)) in
    let has_one : lacks c.args.growth.side c.args.rung.node (children_of c.args.rung.parent c.args.t.now) ≡ false = first_of (search rules, grind (arith, common_steps)) in
    let dealt_as : c.deal_of-deal.result ≡ rung_deal c.args.growth c.args.rung c.args.t.now = first_of (search rules, grind (arith, common_steps)) in
    anew c.args.growth c.args.rung c.length_of-length.result c.deal_of-deal.result c.args.t.now c.hand_out.new.t c.requires.sound c.requires.family dealt_as has_one no c.hand_out.ensures
