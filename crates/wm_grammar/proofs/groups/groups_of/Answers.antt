use Rattle.std.proofs.Common.{arith, ◌≡◌, ◌<◌, ◌≤◌, ◌∷◌, [], ◌++◌, List, ℕ, Some, refl, ap, ◌∙◌, ◌-◌, take, drop, length, get_or}
use denote.Bor.{Bor}
use Rattle.wm_words.specs.Pieces.{skip}
use Rattle.wm_grammar.specs.Reading.{group_at}
use Rattle.wm_grammar.proofs.Loops.{groups_step, groups_blank}
use Rattle.wm_grammar.proofs.groups.groups_of.Goals as goal
use Rattle.wm_grammar.proofs.groups.groups_of.Goals.{then-first-eq59, else-first-eq59+in_ok-group+in-Some+in_ok-push}

pub loop-rest-preserved : goal.loop-rest-preserved
loop-rest-preserved c =
    let pos : 0 < c.loop-rest.left = omega (arith, c.if-left-eq0.false) in
    let long : 1 ≤ length (skip c.loop-rest.rest.now) = rw (← c.skip.ensures) c.in-len1-up.len_at_least in
    elim c.if-first-eq59.branch [
      | then-first-eq59 w ↦
          let semi : get_or (skip c.loop-rest.rest.now) 0 0 ≡ 59 = rw (← c.skip.ensures) w.if-first-eq59.true in
          let h = groups_blank c.loop-rest.groups.items c.loop-rest.left c.loop-rest.rest.now _ pos long semi c.loop-rest.invariant in
          let rest : c.if-first-eq59.rest.now ≡ take (length (skip c.loop-rest.rest.now) - 1) (drop 1 (skip c.loop-rest.rest.now)) = ap (λ (b : Bor (List ℕ)). b.now) w.rest-is ∙ rw c.skip.ensures refl in
          rw (w.groups-is, rest) h
      | else-first-eq59+in_ok-group+in-Some+in_ok-push w ↦
          let other : get_or (skip c.loop-rest.rest.now) 0 0 ≡ 59 → ⊥ = rw (← c.skip.ensures) w.if-first-eq59.false in
          let got : group_at (skip c.loop-rest.rest.now) ≡ Some (w.in-Some.group, w.in-Some.behind.now) = grind (arith, w.in_ok-group.ensures) in
          let h = groups_step c.loop-rest.groups.items w.in-Some.group c.loop-rest.left c.loop-rest.rest.now w.in-Some.behind.now _ pos long other got c.loop-rest.invariant in
          let pushed : w.push.new.self.items ≡ c.loop-rest.groups.items ++ w.in-Some.group ∷ [] = grind (arith, w.in_ok-push.ensures.items) in
          rw (w.groups-is, w.rest-is, pushed, w.past-rest.ensures) h
    ]
