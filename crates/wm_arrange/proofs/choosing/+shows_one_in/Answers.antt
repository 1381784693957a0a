use Rattle.std.proofs.Common.{◌≡◌, ◌∙◌, ap, subst, sym, arith}
use Rattle.std.specs.Option.{option_copied}
use Rattle.wm_forest.specs.Forest.{node_count}
use Rattle.wm_arrange.specs.Choices.{shows_one, KnowsRow}
use Rattle.wm_arrange.proofs.ChoiceLemmas.{free_row, known_end}
use Rattle.wm_arrange.proofs.RowLemmas.{rest_fewer}
use Rattle.wm_arrange.proofs.choosing.+shows_one_in.Goals as goal

pub loop-part-preserved : goal.loop-part-preserved
loop-part-preserved t c =
    let fewer : node_count c.rest-left.result ≡ node_count _ = ap node_count c.rest-left.ensures in
    record {
      left = omega (arith, fewer, rest_fewer c.loop-part.left, c.loop-part.invariant.left);
      known = λ known ids more.
          c.loop-part.invariant.known known ids
          (free_row ids known c.loop-part.left c.in-Some.part.now (sym c.part.ensures ∙ ap option_copied c.in-Some.is) c.shows_one.result (c.shows_one.ensures ∙ ap shows_one c.row_layout.ensures) c.if-shows_one.false
          (subst (KnowsRow known ids) c.kids.ensures (c.shows_one_in.ensures known ids c.if-shows_one_in.false))
          (subst (KnowsRow known ids) c.rest-left.ensures more));
    }

pub returns : goal.returns
returns t c = λ known ids none. c.loop-part.invariant.known known ids (known_end ids known c.loop-part.left (sym c.part.ensures ∙ ap option_copied c.in_default.is))
