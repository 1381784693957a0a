use Rattle.std.proofs.Common.{◌≡◌, [], ◌∷◌, ◌++◌, Some, false, ap, sym, ◌∙◌, subst, arith}
use Rattle.std.specs.List.{All, sum_by}
use Rattle.std.proofs.lemmas.List.Elements.{All-push, All-pop}
use Rattle.std.proofs.lemmas.List.Sums.{sum_by_push}
use Rattle.wm_turn.specs.History.{longer}
use Rattle.wm_turn.specs.Pass.{Pass, IsKnown, longest}
use Rattle.wm_turn.proofs.Gathering.{at_rest_idle, longest_push, known_first, known_both}
use Rattle.wm_turn.proofs.Histories.{begins_self, longer_nothing}
use Rattle.wm_turn.proofs.making.gather.Goals as goal

pub loop-seat-init : goal.loop-seat-init
loop-seat-init g c =
    let place = c.into_place-place.result.0 in
    let seated = c.into_place-place.ensures.seated in
    let same = c.into_place-place.ensures.place in
    let left = c.pop-last.new.self.items in
    let items : c.args.seats.items ≡ left ++ c.in-Some.seat ∷ [] = c.in-Some.ensures.items in
    let conds = All-pop (λ seat. (seat.door ≡ c.args.common.now.table_id) × (seat.turn ≡ false)) c.args.seats.items left (Some c.in-Some.seat) items c.requires.seats in
    let idle = at_rest_idle place.me.0.stage place.me.1 (sym (ap (λ pass. pass.turn) same) ∙ conds.1.1) seated.rests in (
      sym (ap (λ pass. pass.door) same) ∙ conds.1.0,
      idle.0,
      seated.live,
      idle.1,
      seated.no_spare,
      omega (arith, ap (sum_by (λ (seat : Pass g.row.V-Opening.Denot g.row.V-Step.Denot g.row.V-Question.Denot). seat.parts)) items, sum_by_push (λ (seat : Pass g.row.V-Opening.Denot g.row.V-Step.Denot g.row.V-Question.Denot). seat.parts) left c.in-Some.seat, ap (λ pass. pass.parts) same),
      sym (ap (longest []) items ∙ (longest_push [] left c.in-Some.seat ∙ ap (λ seen. longest seen left) (longer_nothing c.in-Some.seat.seen ∙ ap (λ pass. pass.seen) same))),
      conds.0,
      λ history begins calls all. subst (All (IsKnown history)) (sym items)
          (known_first history place.me c.in-Some.seat left (sym (ap (λ pass. pass.seen) same), sym (ap (λ pass. pass.caller) same), sym (ap (λ pass. pass.mine) same)) seated.live begins calls all),
    )

pub merge-requires-clause-other : goal.merge-requires-clause-other
merge-requires-clause-other g c =
    let items : c.loop-seat.seats.items ≡ c.pop.new.self.items ++ c.in-Some-pop.seat ∷ [] = c.in-Some-pop.ensures.items in
    let conds = All-pop (λ seat. (seat.door ≡ c.args.common.now.table_id) × (seat.turn ≡ false)) c.loop-seat.seats.items c.pop.new.self.items (Some c.in-Some-pop.seat) items c.loop-seat.invariant.7 in
    sym (ap (λ pass. pass.door) c.into_place-other.ensures.place) ∙ conds.1.0

pub merge-requires-clause-idle : goal.merge-requires-clause-idle
merge-requires-clause-idle g c =
    let other = c.into_place-other.result.0 in
    let items : c.loop-seat.seats.items ≡ c.pop.new.self.items ++ c.in-Some-pop.seat ∷ [] = c.in-Some-pop.ensures.items in
    let conds = All-pop (λ seat. (seat.door ≡ c.args.common.now.table_id) × (seat.turn ≡ false)) c.loop-seat.seats.items c.pop.new.self.items (Some c.in-Some-pop.seat) items c.loop-seat.invariant.7 in
    let idle = at_rest_idle other.me.0.stage other.me.1 (sym (ap (λ pass. pass.turn) c.into_place-other.ensures.place) ∙ conds.1.1) c.into_place-other.ensures.seated.rests in
    (c.loop-seat.invariant.1, idle.0, idle.1)

pub loop-seat-preserved : goal.loop-seat-preserved
loop-seat-preserved g c =
    let me = c.loop-seat.place.me in
    let theirs = c.into_place-other.result.0.me in
    let after = c.merge.new.place.me in
    let merged = c.merge.ensures in
    let before = c.loop-seat.invariant in
    let same = c.into_place-other.ensures.place in
    let seat = c.in-Some-pop.seat in
    let left = c.pop.new.self.items in
    let items : c.loop-seat.seats.items ≡ left ++ seat ∷ [] = c.in-Some-pop.ensures.items in
    let conds = All-pop (λ s. (s.door ≡ c.args.common.now.table_id) × (s.turn ≡ false)) c.loop-seat.seats.items left (Some seat) items before.7 in (
      merged.same.0 ∙ before.0,
      ap (λ m. m.0.stage) merged.joined ∙ before.1,
      omega (arith, ap (λ m. m.0.parts) merged.joined, before.2),
      ap (λ m. m.1) merged.joined ∙ before.3,
      ap (λ m. m.0.spare) merged.joined ∙ before.4,
      omega (arith, ap (λ m. m.0.parts) merged.joined, before.5, ap (sum_by (λ (s : Pass g.row.V-Opening.Denot g.row.V-Step.Denot g.row.V-Question.Denot). s.parts)) items, sum_by_push (λ (s : Pass g.row.V-Opening.Denot g.row.V-Step.Denot g.row.V-Question.Denot). s.parts) left seat, ap (λ pass. pass.parts) same),
      ap (λ m. longest m.0.seen left) merged.joined ∙ (ap (λ pass. longest (longer pass.seen me.0.seen) left) (sym same) ∙ (sym (longest_push me.0.seen left seat) ∙ (ap (longest me.0.seen) (sym items) ∙ before.6))),
      conds.0,
      λ history begins calls all.
          let both = known_both me theirs after merged.joined before.2 merged.begins merged.calls history begins calls in
          before.8 history both.0 both.1
          (subst (All (IsKnown history)) (sym items)
          (All-push (IsKnown history) left seat all (subst (λ pass. IsKnown history pass) (sym same) (both.2, both.3)))),
    )

pub returns-clause-known : goal.returns-clause-known
returns-clause-known g c = λ calls. c.loop-seat.invariant.8 c.loop-seat.place.me.0.seen (begins_self c.loop-seat.place.me.0.seen) calls (λ k d lt. absurd (omega (arith, lt, c.in_default-pop.ensures.cases.0, c.loop-seat.seats.ok)))
