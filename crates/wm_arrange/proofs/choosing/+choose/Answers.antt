use Rattle.std.proofs.Common.{◌≡◌, ◌≤◌, ◌∙◌, ap, sym, arith}
use Rattle.std.specs.Option.{option_copied}
use Rattle.wm_forest.specs.Forest.{node_count}
use Rattle.wm_forest.specs.Look.{first_floats, first_kids, rest_of}
use Rattle.wm_forest.specs.SoundRow.{tally}
use Rattle.wm_arrange.specs.Choices.{nearest}
use Rattle.wm_arrange.proofs.ChoiceLemmas.{chosen_end, chosen_on, tallies}
use Rattle.wm_arrange.proofs.NearLemmas.{nearest_end, nearest_on, nearest_turn}
use Rattle.wm_arrange.proofs.RowLemmas.{rest_fewer}
use Rattle.wm_arrange.proofs.choosing.+choose.Goals as goal

pub returns-clause-near : goal.returns-clause-near
returns-clause-near t c = nearest_end c.args.recency.now.ids c.loop-part.left _ _ (sym c.part.ensures ∙ ap option_copied c.in_default.is) c.loop-part.invariant.nearest

pub returns-clause-chosen : goal.returns-clause-chosen
returns-clause-chosen t c = λ v once. chosen_end c.args.recency.now.ids v c.loop-part.left _ _ (sym c.part.ensures ∙ ap option_copied c.in_default.is) (c.loop-part.invariant.kept v once)

pub loop-part-preserved : goal.loop-part-preserved
loop-part-preserved t c =
    let ids = c.args.recency.now.ids in
    let row = c.loop-part.left in
    let kept = c.loop-part.invariant in
    let first = sym c.part.ensures ∙ ap option_copied c.in-Some.is in
    let fewer : node_count c.rest-left.result ≡ node_count _ = ap node_count c.rest-left.ensures in
    record {
      left = omega (arith, fewer, rest_fewer row, kept.left);
      fewer = λ v. let same : tally v c.rest-left.result ≡ tally v (rest_of row) = ap (tally v) c.rest-left.ensures in omega (arith, same, (tallies v row).2, kept.fewer v);
      nearest = rw (c.sooner-near.ensures, c.under-here.ensures, c.sooner-in-Some.ensures, c.sooner.ensures, c.at_place-own.ensures, c.place.ensures, c.in_ok-floats.ensures.near, c.in_ok-kids.ensures.near, c.floats.ensures, c.kids.ensures, c.rest-left.ensures)
          (nearest_on _ _ _ (nearest ids row) _ (nearest_turn ids row c.in-Some.part.now first) kept.nearest);
      kept = λ v once.
          let here : tally v row ≤ 1 = omega (arith, kept.fewer v, once) in
          let kids : tally v c.kids.result ≡ tally v (first_kids row) = ap (tally v) c.kids.ensures in
          let floats : tally v c.floats.result ≡ tally v (first_floats row) = ap (tally v) c.floats.ensures in
          chosen_on ids v row c.in-Some.part.now first c.kids.result c.floats.result c.rest-left.result c.in_ok-kids.kids _ _ _ _ _
          c.kids.ensures c.floats.ensures c.rest-left.ensures c.in_ok-kids.ensures.near here
          (c.in_ok-floats.ensures.chosen v (omega (arith, floats, (tallies v row).1, here))) (c.in_ok-kids.ensures.chosen v (omega (arith, kids, (tallies v row).0, here))) (c.in_ok-keep.ensures v) (kept.kept v once);
    }
