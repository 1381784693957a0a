use Rattle.std.proofs.Common.{rules, ◌≡◌, ◌+◌, ◌∙◌, ◌++◌, ◌∷◌, [], ap, refl, sym, subst}
use Rattle.circular_buffer.specs.Buffer.{Buffer, buffer, keep_last}
use Rattle.wm_json.specs.declared.views.EventView.{EventView}
use Rattle.wm_kept.specs.Log.{AreLast, told}
use Rattle.wm_kept.proofs.LogLemmas.{kept_told, last_and}
use Rattle.wm_kept.proofs.kept.Kept.push.Goals as goal

-- the last of so many, and one more
pub invariant_of-self : goal.invariant_of-self
invariant_of-self c =
    let i = c.self.inside in
    let e : EventView = record { number = i.last + 1; kind = c.kind_of-kind.result; body = c.args.body } in
    let made : c.push_back-gone.new.self ≡ buffer (keep_last 4096 (i.events.items ++ e ∷ [])) 4096 =
    c.push_back-gone.ensures.items ∙ ap (λ n. buffer (keep_last n (i.events.items ++ e ∷ [])) n) c.self.invariant.0 in
    subst (λ (b : Buffer EventView). (b.capacity ≡ 4096) × AreLast (i.last + 1) b.items) (sym made) (refl, last_and i.last i.events.items e refl c.self.invariant.1)

pub returns-clause-value : goal.returns-clause-value
returns-clause-value c = search rules

pub returns-clause-history : goal.returns-clause-history
returns-clause-history c all e = returns-clause-value c ∙ (ap (told (c.args.body ∷ [])) e ∙ kept_told all (c.args.body ∷ []))
