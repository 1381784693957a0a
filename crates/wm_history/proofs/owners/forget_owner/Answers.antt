use Rattle.std.proofs.Common.{◌||◌, Bool, true, false, None, cond, refl, ap, sym, ◌∙◌, ◌≡◌}
use Rattle.wm_forest.specs.Look.{same}
use Rattle.wm_history.specs.ByWindow.{value_at}
use Rattle.wm_history.proofs.FollowLemmas.{swapped}
use Rattle.wm_ids.proofs.EntryLemmas.{test_same}
use Rattle.wm_history.proofs.owners.forget_owner.Goals as goal

or_none : (b : Bool) → b ≡ (b || false)
or_none true = refl
or_none false = refl

pub returns : goal.returns
returns c = λ v.
    c.remove.ensures.found v.0
    ∙ ap (λ b. cond b None (value_at c.args.owners.now v)) (test_same c.args.con.0 v.0 ∙ (sym (swapped v c.args.con) ∙ or_none (same v c.args.con)))
