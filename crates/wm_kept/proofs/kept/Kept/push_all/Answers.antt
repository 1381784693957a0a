use Rattle.std.proofs.Common.{rules, ◌≡◌, ◌++◌, ◌∷◌, [], length, ◌∙◌, ap, sym, append_assoc, arith}
use Rattle.std.specs.Vec.Iter.{into_iter_items, into_iter_len}
use Rattle.wm_kept.specs.Log.{told}
use Rattle.wm_kept.proofs.LogLemmas.{all_out, kept_told, told_more, told_none}
use Rattle.wm_kept.proofs.kept.Kept.push_all.Goals as goal

pub loop-body-init : goal.loop-body-init
loop-body-init c = (told_none c.self.inside.last c.self.inside.events.items c.args.self.now c.self.view_is c.self.invariant.1, search rules, search rules)

pub loop-body-preserved : goal.loop-body-preserved
loop-body-preserved c =
    let told_so_far = c.push.ensures.value ∙ (ap (told (c.in-Some.body ∷ [])) c.loop-body.invariant.0 ∙ told_more c.loop-body.yielded (c.in-Some.body ∷ []) c.args.self.now) in
    let behind = append_assoc c.loop-body.yielded (c.in-Some.body ∷ []) (into_iter_items c.next.new.self) ∙ (ap (λ bs. c.loop-body.yielded ++ bs) (sym c.in-Some.ensures.steps.0) ∙ c.loop-body.invariant.1) in
    let size : into_iter_len c.next.new.self ≡ length (into_iter_items c.next.new.self) =
    let k = ap length c.in-Some.ensures.steps.0 in let s = c.in-Some.ensures.steps.1 in let i = c.loop-body.invariant.2 in omega arith in
    (told_so_far, behind, size)

pub returns-clause-value : goal.returns-clause-value
returns-clause-value c =
    c.loop-body.invariant.0 ∙ ap (λ bs. told bs c.args.self.now) (all_out c.loop-body.yielded (into_iter_items c.loop-body.body-iterator) c.args.bodies.items (sym c.loop-body.invariant.2 ∙ c.in-None.ensures.steps.0) c.loop-body.invariant.1)

pub returns-clause-history : goal.returns-clause-history
returns-clause-history c all e = returns-clause-value c ∙ (ap (told c.args.bodies.items) e ∙ kept_told all c.args.bodies.items)
