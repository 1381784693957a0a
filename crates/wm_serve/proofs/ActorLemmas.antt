-- A timer and a painter that were told to stop ran no texts.
use Rattle.std.proofs.Common.{◌≡◌, ◌∙◌, ap, subst, ℕ, List, [], ◌++◌, Option}
use Rattle.std.proofs.lemmas.List.{append-nil}
use Rattle.atomic_table.specs.Seated.{TableId}
use Rattle.wm_actors.specs.Exits.{Exits}
use Rattle.wm_actors.specs.Paints as paints
use Rattle.wm_actors.specs.Pictured.{Pictured, Screen}
use Rattle.wm_actors.specs.Ticks as ticks
use Rattle.wm_actors.specs.Timed.{Timed}
use Rattle.wm_actors.specs.declared.ending.ActorEnd.{ActorEnd}
use Rattle.wm_actors.specs.declared.ending.ActorEnd.TheVariants as end
use Rattle.wm_book.specs.Carried.{carried}
use Rattle.wm_core.proofs.EntryLemmas.{history_begins}
use Rattle.wm_core.specs.Entries.{history_of}
use Rattle.wm_history.specs.History.{History, opening_of}
use Rattle.wm_core.specs.Passes.{Begins, Pass}
use Rattle.wm_core.specs.declared.asked.Asked.{Asked}
use Rattle.wm_history.specs.declared.step.Step.{Step}
use Rattle.wm_layouts.specs.declared.plan.Plan.{Plan}
use Rattle.wm_turn.specs.Pass.{IsKnown, new_pass}
use Rattle.wm_turn.specs.declared.view.Entry.{Entry}
use Rattle.wm_turn.specs.declared.view.Mark.{Mark}
use Rattle.wm_serve.specs.Said.{texts_of}
use Rattle.wm_serve.proofs.DeskLemmas.{Seat}
use Rattle.wm_serve.proofs.PlaceLemmas.{texts_at}
use Rattle.wm_serve.proofs.SaidLemmas.{seat_texts}
use Rattle.wm_serve.proofs.SilentLemmas.{last_silent, painter_none, rounds_silent, silent_both}

module _ (door : TableId) (plan : Plan) (who : ℕ) (seat : Seat) (history : List (Entry Step)) (known : IsKnown history seat) where
  seen_more : (before : Pass) → carried seat ≡ before → Begins before.seen (history_of history)
  seen_more before same = subst (λ (p : Pass). Begins p.seen (history_of history)) same (history_begins seat.seen history known.0)

  pub timer_silent : (hold : ℕ) (told told' : Option (List ℕ)) (e : ActorEnd) → e ≡ end.Stopped → Timed (carried (new_pass door plan who)) (carried seat) hold told told' e
      → texts_of who (history_of history) ≡ []
  timer_silent hold told told' e stopped t =
      let seen : History = history_of history in
      let same : carried seat ≡ t.before = subst (λ x. Exits x t.before (carried seat)) stopped t.exits in
      let since = t.ended.since in
      let last : List (Mark Asked) = ticks.last_marks t.ended.last in
      let rounds : List (Mark Asked) = ticks.all_marks t.ended.rounds in
      let caller : seat.caller ≡ who = ap {A = Pass} (λ p. p.caller) same ∙ ap {A = Pass} (λ p. p.caller) since.carried.pass in
      let mine : seat.mine ≡ (last ++ rounds) ++ [] = ap {A = Pass} (λ p. p.mine) same ∙ ap {A = Pass} (λ p. p.mine) since.carried.pass in
      let holds = since.lasts plan seen (ap {A = Pass} (λ p. p.opening) since.carried.pass) (seen_more t.before same) in
      seat_texts seat history who (last ++ rounds) known caller (mine ∙ append-nil (last ++ rounds))
      ∙ silent_both seen last rounds
      (last_silent (opening_of plan) hold seen t.ended.rounds t.ended.last (subst (λ x. ticks.IsLast x (opening_of plan) hold seen t.ended.rounds t.ended.last) stopped holds.1))
      (rounds_silent (opening_of plan) who hold seen t.ended.rounds holds.0)

  pub painter_silent : (from to : Screen) (e : ActorEnd) → e ≡ end.Stopped → Pictured (carried (new_pass door plan who)) (carried seat) from to e → texts_of who (history_of history) ≡ []
  painter_silent from to e stopped p =
      let same : carried seat ≡ p.before = subst (λ x. Exits x p.before (carried seat)) stopped p.exits in
      let since = p.ended.since in
      let marks : List (Mark Asked) = paints.last_marks p.ended.last ++ paints.all_marks p.ended.rounds in
      let caller : seat.caller ≡ who = ap {A = Pass} (λ x. x.caller) same ∙ ap {A = Pass} (λ x. x.caller) since.carried.pass in
      let mine : seat.mine ≡ marks ++ [] = ap {A = Pass} (λ x. x.mine) same ∙ ap {A = Pass} (λ x. x.mine) since.carried.pass in
      seat_texts seat history who marks known caller (mine ∙ append-nil marks) ∙ ap (texts_at (history_of history)) (painter_none p.ended.last p.ended.rounds)
