use Rattle.std.proofs.Common.{arith, rules, ◌≡◌, None}
use Rattle.wm_language.specs.declared.batch.Batch.{Batch}
use Rattle.wm_grammar.specs.Reading.{batch_of, Reads, IsReach}
use Rattle.wm_grammar.proofs.Fits.{readable}
use Rattle.wm_grammar.proofs.GroupLemmas.{spelled}
use Rattle.wm_grammar.proofs.PlaceLemmas.{refused, farthest_place}
use Rattle.wm_grammar.proofs.texts.read.Goals as goal

pub returns-in-Some-clause-readable : goal.returns-in-Some-clause-readable
returns-in-Some-clause-readable c =
    let batch : Batch = record { groups = c.of.result } in
    let found : Reads c.args.text.now batch = grind (arith, c.in_ok-groups.ensures) in
    readable c.args.text.now batch found

pub returns-in-Some-clause-answer : goal.returns-in-Some-clause-answer
returns-in-Some-clause-answer c =
    let batch : Batch = record { groups = c.of.result } in
    let found : Reads c.args.text.now batch = grind (arith, c.in_ok-groups.ensures) in
    spelled c.args.text.now batch found

pub returns-clause-answer : goal.returns-clause-answer
returns-clause-answer c =
    let none : batch_of c.args.text.now ≡ None = search rules in
    let reach : IsReach c.args.text.now c.in_ok-at.at = search rules in
    (λ batch is. refused c.args.text.now none batch is, farthest_place c.args.text.now c.in_ok-at.at reach)
