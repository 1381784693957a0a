use Rattle.std.proofs.Common.{◌≡◌, true, rules}
use Rattle.wm_spaces.proofs.SendLemmas.{far_by, is_move, ready_by, send_cause}
use Rattle.wm_tree.specs.Move.{apart}
use Rattle.wm_spaces.proofs.sending.send.Goals as goal

pub move_to-requires : goal.move_to-requires
move_to-requires c =
    let far : apart c.args.t.now c.args.con c.args.w ≡ true = far_by c.args.con c.args.w c.spot_of-space.result.0 c.workspace_of.result c.args.t.now c.spot_of-space.ensures.0 c.workspace_of.ensures c.if-eq.ensures in
    let r = ready_by c.args.con c.args.w c.sent_place-at.result c.args.t.now c.sent_place-at.ensures c.requires.sound c.requires.con c.requires.space far in
    λ h k. r.outside

pub returns-in-Ok : goal.returns-in-Ok
returns-in-Ok c = record {
  tree = search rules;
  fine = search rules;
  err = search rules;
  cause = search rules;
  sound =
      let far : apart c.args.t.now c.args.con c.args.w ≡ true = far_by c.args.con c.args.w c.spot_of-space.result.0 c.workspace_of.result c.args.t.now c.spot_of-space.ensures.0 c.workspace_of.ensures c.if-eq.ensures in
      let r = ready_by c.args.con c.args.w c.sent_place-at.result c.args.t.now c.sent_place-at.ensures c.requires.sound c.requires.con c.requires.space far in
      c.move_to.ensures.sound (is_move c.args.con c.sent_place-at.result c.args.t.now c.requires.con r) c.requires.sound;
}

pub returns-in-Err : goal.returns-in-Err
returns-in-Err c = record {
  tree = search rules;
  fine = search rules;
  err = search rules;
  cause =
      let far : apart c.args.t.now c.args.con c.args.w ≡ true = far_by c.args.con c.args.w c.spot_of-space.result.0 c.workspace_of.result c.args.t.now c.spot_of-space.ensures.0 c.workspace_of.ensures c.if-eq.ensures in
      let r = ready_by c.args.con c.args.w c.sent_place-at.result c.args.t.now c.sent_place-at.ensures c.requires.sound c.requires.con c.requires.space far in
      rw c.refused.ensures (send_cause c.args.con c.args.w c.sent_place-at.result c.args.t.now c.in-Err.error c.sent_place-at.ensures far c.requires.con r c.in-Err.ensures.cause);
  sound = search rules;
}
