use Rattle.std.proofs.Common.{◌≡◌, ℕ, ◌+◌, ◌≤◌, length}
use Rattle.std.specs.List.{slice_get}
use Rattle.wm_apply.specs.Batches.{groups_done}
use Rattle.wm_tree.specs.Sound.{IsSound}
use Rattle.wm_apply.proofs.batches.Running.groups.Given as goal

-- what the groups so far did, and what the others will do, is what all do; the others are numbered on
abbrev pub invariant-loop-rest : goal.invariant-loop-rest
invariant-loop-rest l = record {
  done : groups_done l.env l.subject l.rest l.self ≡ groups_done l.env l.subject l.groups l.initial.self;
  numbered : (n : ℕ) → slice_get l.rest n ≡ slice_get l.groups (n + l.number);
  few : l.number + length l.rest ≤ length l.groups;
  sound : IsSound l.self.tree;
}

abbrev pub decreases-loop-rest : goal.decreases-loop-rest
decreases-loop-rest l = length l.rest
