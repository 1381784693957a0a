use Rattle.std.proofs.Common.{length}
use Rattle.wm_apply.proofs.GroupLemmas.{keys_first, done_step, few_step, group_step, numbered_step}
use Rattle.wm_apply.proofs.batches.Running.groups.Goals as goal

pub targets-requires : goal.targets-requires
targets-requires c = record { built = c.requires.built; keys = keys_first c.args.p.now.verdict c.group-item.result _ c.loop-rest.rest.now c.args.groups.now c.loop-rest.number c.requires.groups c.in-len1-up.len_at_least c.group-item.is c.loop-rest.invariant.numbered; sound = c.loop-rest.invariant.sound }

pub loop-rest-preserved : goal.loop-rest-preserved
loop-rest-preserved c =
    let kept = c.loop-rest.invariant in
    let gs = c.loop-rest.rest.now in
    record {
      done = done_step c.args.env.now c.args.subject c.group-item.result _ gs c.args.groups.now c.loop-rest.self c.commands.new.self c.args.self.now c.in-len1-up.len_at_least c.group-item.is kept.done
          (group_step c.args.env.now c.args.subject c.group-item.result c.loop-rest.self c.commands.new.self _ c.items.result.now c.in_ok-targets.ensures c.items.ensures c.in_ok-commands.ensures.done);
      numbered = numbered_step gs c.args.groups.now c.loop-rest.number c.in-len1-up.len_at_least kept.numbered;
      few = few_step gs c.loop-rest.number (length c.args.groups.now) c.in-len1-up.len_at_least kept.few;
      sound = c.in_ok-commands.ensures.sound;
    }

pub loop-rest-preserved-in_ok-commands : goal.loop-rest-preserved-in_ok-commands
loop-rest-preserved-in_ok-commands c =
    let kept = c.loop-rest.invariant in
    let gs = c.loop-rest.rest.now in
    record {
      done = done_step c.args.env.now c.args.subject c.group-item.result _ gs c.args.groups.now c.loop-rest.self c.commands.new.self c.args.self.now c.in-len1-up.len_at_least c.group-item.is kept.done
          (group_step c.args.env.now c.args.subject c.group-item.result c.loop-rest.self c.commands.new.self _ c.items.result.now c.in_ok-targets.ensures c.items.ensures c.in_ok-commands.ensures.done);
      numbered = numbered_step gs c.args.groups.now c.loop-rest.number c.in-len1-up.len_at_least kept.numbered;
      few = few_step gs c.loop-rest.number (length c.args.groups.now) c.in-len1-up.len_at_least kept.few;
      sound = c.in_ok-commands.ensures.sound;
    }
