use Rattle.wm_changes.proofs.changing.changes.Goals as goal

-- what was found is of the tree before
pub returns-in-Ok : goal.returns-in-Ok
returns-in-Ok c = rw (c.in-Ok.ensures.tree) at c.changes_from.ensures
