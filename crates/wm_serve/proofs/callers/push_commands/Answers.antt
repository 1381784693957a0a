use Rattle.std.proofs.Common.{◌≡◌, ◌++◌, ◌∷◌, [], OnOk, codes, subst}
use Rattle.wm_serve.proofs.CallerLemmas.{added, then_added}
use Rattle.wm_serve.specs.Callers.{bytes_of, last_command}
use Rattle.wm_serve.proofs.callers.push_commands.Goals as goal

pub returns : goal.returns
returns c =
    let two : c.push_command-2.new.bytes.items ≡ c.args.bytes.now.items ++ bytes_of (codes "split toggle" ∷ codes "layout toggle all" ∷ []) =
    added _ _ _ (codes "split toggle" ∷ []) (codes "layout toggle all" ∷ []) c.in_ok-push_command.ensures c.in_ok-push_command-2.ensures in
    let three : c.push_command-3.new.bytes.items ≡ c.args.bytes.now.items ++ bytes_of (codes "split toggle" ∷ codes "layout toggle all" ∷ codes "focus left" ∷ []) =
    added _ _ _ (codes "split toggle" ∷ codes "layout toggle all" ∷ []) (codes "focus left" ∷ []) two c.in_ok-push_command-3.ensures in
    let four : c.push_command-4.new.bytes.items ≡ c.args.bytes.now.items ++ bytes_of (codes "split toggle" ∷ codes "layout toggle all" ∷ codes "focus left" ∷ codes "focus right" ∷ []) =
    added _ _ _ (codes "split toggle" ∷ codes "layout toggle all" ∷ codes "focus left" ∷ []) (codes "focus right" ∷ []) three c.in_ok-push_command-4.ensures in
    let five : c.push_command-5.new.bytes.items ≡ c.args.bytes.now.items ++ bytes_of (codes "split toggle" ∷ codes "layout toggle all" ∷ codes "focus left" ∷ codes "focus right" ∷ codes "move left" ∷ []) =
    added _ _ _ (codes "split toggle" ∷ codes "layout toggle all" ∷ codes "focus left" ∷ codes "focus right" ∷ []) (codes "move left" ∷ []) four c.in_ok-push_command-5.ensures in
    let six : c.push_command-6.new.bytes.items ≡ c.args.bytes.now.items ++ bytes_of (codes "split toggle" ∷ codes "layout toggle all" ∷ codes "focus left" ∷ codes "focus right" ∷ codes "move left" ∷ codes "move right" ∷ []) =
    added _ _ _ (codes "split toggle" ∷ codes "layout toggle all" ∷ codes "focus left" ∷ codes "focus right" ∷ codes "move left" ∷ []) (codes "move right" ∷ []) five c.in_ok-push_command-6.ensures in
    let seven : c.push_command-7.new.bytes.items ≡ c.args.bytes.now.items ++ bytes_of (codes "split toggle" ∷ codes "layout toggle all" ∷ codes "focus left" ∷ codes "focus right" ∷ codes "move left" ∷ codes "move right" ∷ codes "floating toggle" ∷ []) =
    added _ _ _ (codes "split toggle" ∷ codes "layout toggle all" ∷ codes "focus left" ∷ codes "focus right" ∷ codes "move left" ∷ codes "move right" ∷ []) (codes "floating toggle" ∷ []) six c.in_ok-push_command-7.ensures in
    then_added c.push_command-8.result _ _ _ (codes "split toggle" ∷ codes "layout toggle all" ∷ codes "focus left" ∷ codes "focus right" ∷ codes "move left" ∷ codes "move right" ∷ codes "floating toggle" ∷ []) (last_command c.args.i ∷ []) seven
    (subst (λ text. OnOk c.push_command-8.result (c.push_command-8.new.bytes.items ≡ c.push_command-7.new.bytes.items ++ bytes_of (text ∷ []))) c.last_command.ensures c.push_command-8.ensures)
