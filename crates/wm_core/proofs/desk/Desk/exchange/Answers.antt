use Rattle.std.proofs.Common.{◌≡◌, ◌+◌, ◌<◌, ◌^◌, ◌++◌, arith, ap, ◌∷◌, Bool, List, Option, None, ℕ, cond, false, refl, subst, sym, true, ◌∙◌}
use Rattle.std.specs.List.{list_any}
use Rattle.wm_forest.specs.Look.{same}
use Rattle.wm_arrange.specs.Arranged.{arranged}
use Rattle.wm_arrange.specs.declared.parts.Placed.{Placed}
use Rattle.wm_base.specs.declared.ids.ConId.{ConId}
use Rattle.wm_txn.specs.History as commits
use Rattle.wm_txn.specs.Stands as transactions
use Rattle.wm_core.specs.DeskValue.{DeskValue, StandsFrom, may_come}
use Rattle.wm_history.specs.Follows.{AreOwners, Follows, kill_after, kill_in}
use Rattle.wm_changes.specs.Changes.{changes}
use Rattle.wm_kept.specs.Log.{kept_of}
use Rattle.wm_history.specs.Effect.{changing, closed, mode_after}
use Rattle.wm_history.specs.Events.{IsToldOn, later_events}
use Rattle.wm_history.proofs.EventLemmas.{told_both}
use Rattle.wm_history.specs.History.{done_by, entries, first}
use Rattle.wm_history.proofs.OwnerLemmas.{owners_after, owners_again}
use Rattle.wm_core.proofs.StandsLemmas.{fits, not_gone, place, stands_left}
use Rattle.wm_core.proofs.desk.Desk.exchange.Goals as goal

kept_by : (b : Bool) (number : Option ℕ) → b ≡ false → cond b None number ≡ number
kept_by true number gone = cc
kept_by false number gone = refl

-- the arrangement of the tree is admitted
pub returns-clause-commits : goal.returns-clause-commits
returns-clause-commits c = λ entry said set event is.
    let i = c.self.inside in
    let d : DeskValue = record { plan = i.plan; steps = i.steps; tree = i.tree; txn = i.txn; mode = i.mode; stopped = i.stopped; events = i.events; kills = i.kills.entries } in
    let t = c.args.tree.now in
    let fresh = c.args.opened in
    let here : done_by d.plan.env d.mode d.tree entry ≡ changing said d.tree t fresh set c.args.stops c.args.closes.now event = rw (← c.self.view_is) at is in
    let f : Follows d.tree t fresh = rw (← c.self.view_is) at c.requires.follows in
    let newest : c.in_ok-change.change.newest.parts ≡ arranged t = c.in_ok-change.ensures.newest in
    let gone : c.deref.result.now ≡ closed d.tree t fresh = c.deref.ensures.value ∙ (rw (← c.self.view_is) at (c.in_ok-change.ensures.gone c.requires.follows)) in
    record {
      stands = λ log told start history s.
          let stood : StandsFrom start d history = rw (← c.self.view_is) at s in
          let lasts : (v : ConId) → may_come t v ≡ true → list_any (same v) c.deref-2.result.now ≡ false = λ v may.
          ap (list_any (same v)) (c.deref-2.ensures.value ∙ (rw (← c.self.view_is) at (c.in_ok-change.ensures.gone c.requires.follows))) ∙ not_gone d start history stood t fresh c.self.invariant.1 c.requires.sound f v may in
          let kept : (v : ConId) → may_come t v ≡ true → kill_in c.tell.new.kills.entries v ≡ kill_after c.args.closes.now (d.steps + 1) v (kill_in d.kills v) = λ v may.
          c.tell.ensures.kills v ∙ (kept_by _ _ (lasts v may) ∙ (rw (← c.self.view_is) at (c.in_ok-change.ensures.noted v))) in
          let o = first start in
          let h = entries start history in
          let Fit : List Placed → List ConId → Type 0 = λ parts ids. transactions.IsFit o h parts fresh ids in
          let Came : List Placed → List ConId → Type 0 = λ parts ids. transactions.Stands o (commits.Arranged parts fresh ids ∷ h) c.admit.new.self in
          let fit : Fit (arranged t) (closed d.tree t fresh) = fits d start history stood t fresh c.self.invariant.1 c.requires.sound f in
          let admitted = c.in_default-admit.ensures.stands o h (place d start history stood) stood.commits (subst (λ z. Fit z c.deref.result.now) (sym newest) (subst (Fit (arranged t)) (sym gone) fit)) in
          let came : Came (arranged t) (closed d.tree t fresh) = subst (Came (arranged t)) gone (subst (λ z. Came z c.deref.result.now) newest admitted) in
          let Stops : Bool → Type 0 = λ b. StandsFrom start (record { plan = d.plan; steps = d.steps + 1; tree = t; txn = c.admit.new.self; mode = mode_after set d.mode; stopped = b; events = log; kills = c.tell.new.kills.entries }) (entry ∷ history) in
          let changed = changes d.tree (arranged d.tree) t (arranged t) in
          let seen : c.in_ok-change.change.told.events.items ≡ changed = rw (← c.self.view_is) at (c.in_ok-change.ensures.events start history s) in
          let first_told : IsToldOn d.events changed c.tell.new.events = λ all was. c.tell.ensures.events all was ∙ ap (λ bodies. kept_of (all ++ bodies)) seen in
          let logged : IsToldOn d.events (changed ++ later_events d.mode d.stopped set c.args.stops event) log = told_both d.events c.tell.new.events log changed (later_events d.mode d.stopped set c.args.stops event) first_told (rw (← c.self.view_is) at told) in
          rw c.swap.ensures.x_after (subst Stops (sym c.either-self-inside.ensures)
          (stands_left d start history stood t fresh c.self.invariant.1 c.requires.sound f entry said c.admit.new.self set c.args.stops c.args.closes.now event log c.tell.new.kills.entries here logged kept came));
      plan = rw (← c.self.view_is) refl;
      count = rw (← c.self.view_is) refl;
      err = tt;
    }

pub returns-clause-room : goal.returns-clause-room
returns-clause-room c =
    let few : c.self.inside.steps < 2 ^ 48 = rw (← c.self.view_is) at c.requires.few in
    (omega (arith, c.self.invariant.0.0.0.1, c.tell.ensures.last, c.in_ok-change.ensures.few), omega (arith, few))

-- the callers are those of the new tree
pub invariant_of-self-2 : goal.invariant_of-self-2
invariant_of-self-2 c =
    let t = c.self.inside.tree in
    let f : Follows t c.args.tree.now c.args.opened = rw (← c.self.view_is) at c.requires.follows in
    let owners : AreOwners c.forget_owners.new.owners c.args.tree.now =
    owners_after t c.args.tree.now c.args.opened c.self.invariant.1 c.requires.sound f c.self.inside.owners c.own.new.owners c.forget_owners.new.owners c.deref-3.result.now
    (c.deref-3.ensures.value ∙ (rw (← c.self.view_is) at (c.in_ok-change.ensures.gone c.requires.follows))) c.self.invariant.0.1 c.in_default.ensures.ok c.forget_owners.ensures in
    rw c.swap.ensures.x_after ((((omega (arith, c.in_default-admit.ensures.prefix), omega (arith, c.self.invariant.0.0.0.1, c.tell.ensures.last, c.in_ok-change.ensures.few)), c.in_ok-change.ensures.windows), owners), c.requires.sound)

-- where there was no memory the callers are those of the old tree
pub invariant_of-self-in-Err-admit : goal.invariant_of-self-in-Err-admit
invariant_of-self-in-Err-admit c =
    let t = c.self.inside.tree in
    let f : Follows t c.args.tree.now c.args.opened = rw (← c.self.view_is) at c.requires.follows in
    let owners : AreOwners c.disown.new.owners t =
    owners_again t c.args.tree.now c.args.opened c.self.invariant.1 f c.self.inside.owners c.own.new.owners c.disown.new.owners c.self.invariant.0.1 c.in_default.ensures.ok c.disown.ensures in
    ((rw c.in-Err-admit.ensures.err c.self.invariant.0.0, owners), c.self.invariant.1)
