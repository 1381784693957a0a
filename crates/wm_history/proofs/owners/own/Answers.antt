use Rattle.std.proofs.Common.{ap, sym, ◌∙◌}
use Rattle.wm_history.specs.ByWindow.{value_at}
use Rattle.wm_history.proofs.OwnerLemmas.{none_added, one_added}
use Rattle.wm_txn.proofs.WindowLemmas.{find_insert}
use Rattle.wm_history.proofs.owners.own.Goals as goal

-- the window is not there
pub returns-in_default-owner_of-clause-ok : goal.returns-in_default-owner_of-clause-ok
returns-in_default-owner_of-clause-ok c = λ v.
    none_added c.args.tree.now c.args.opened c.in-Some.con c.in-Some.field-0-1 v _ c.in-Some.is (sym c.owner_of.ensures ∙ c.in_default-owner_of.is)

-- its caller is put
pub returns-clause-ok : goal.returns-clause-ok
returns-clause-ok c = λ v.
    ap (λ m. value_at m v) c.in_ok-insert.ensures.ok
    ∙ (find_insert c.in-Some.con v c.in-Some-owner_of.owner c.args.owners.now
    ∙ one_added c.args.tree.now c.args.opened c.in-Some.con c.in-Some.field-0-1 c.in-Some-owner_of.owner v _ c.in-Some.is (sym c.owner_of.ensures ∙ c.in-Some-owner_of.is))
