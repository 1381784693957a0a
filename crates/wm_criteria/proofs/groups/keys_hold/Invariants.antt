use Rattle.std.proofs.Common.{◌≡◌, length}
use Rattle.wm_criteria.specs.Holds.{holds}
use Rattle.wm_criteria.specs.Searching.{AreFormsOf}
use Rattle.wm_criteria.proofs.groups.keys_hold.Given as goal

-- all keys hold where those that are left do, and the forms that are left are theirs
abbrev pub invariant-loop-rest : goal.invariant-loop-rest
invariant-loop-rest l = record {
  held : holds l.asked.focus.tree.now l.rest l.subject.id ≡ holds l.asked.focus.tree.now l.asked.keys.now l.subject.id;
  forms : AreFormsOf l.rest l.forms;
}

abbrev pub decreases-loop-rest : goal.decreases-loop-rest
decreases-loop-rest l = length l.rest
