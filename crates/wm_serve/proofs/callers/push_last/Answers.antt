use Rattle.std.proofs.Common.{◌≡◌, ◌++◌, ◌∷◌, [], OnOk, codes, subst, sym}
use Rattle.wm_serve.proofs.CallerLemmas.{then_added}
use Rattle.wm_serve.specs.Callers.{bytes_of, commands, last_text}
use Rattle.wm_serve.proofs.callers.push_last.Goals as goal

pub returns-then-i-eq0 : goal.returns-then-i-eq0
returns-then-i-eq0 c =
    subst (λ k. OnOk c.push_command.result (c.push_command.new.bytes.items ≡ c.args.bytes.now.items ++ bytes_of (commands c.args.i ++ last_text k))) (sym c.if-i-eq0.true)
    (then_added c.push_command.result _ _ _ (commands c.args.i) (codes "exit" ∷ []) c.in_ok-push_commands.ensures c.push_command.ensures)
