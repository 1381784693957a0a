use Rattle.std.proofs.Common.{◌≡◌, ◌∙◌, ◌+◌, ap, refl, sym, subst, arith}
use Rattle.std.specs.Option.{option_copied}
use Rattle.wm_forest.specs.Counts.{share_of, share_sum}
use Rattle.wm_forest.specs.Forest.{node_count}
use Rattle.wm_forest.specs.Look.{first_kids}
use Rattle.wm_arrange.specs.Maps.{value_at}
use Rattle.wm_arrange.specs.Slots.{HasSlots}
use Rattle.wm_arrange.specs.Scene.{seen}
use Rattle.wm_arrange.proofs.ChoiceLemmas.{known_turn}
use Rattle.wm_arrange.proofs.RowLemmas.{along, turn, turn_parts}
use Rattle.wm_arrange.proofs.children.+place.Goals as goal

pub place_row-place_child-requires : goal.place_row-place_child-requires
place_row-place_child-requires t c =
    let kept = c.loop-part.invariant in
    let first = sym c.part.ensures ∙ ap option_copied c.in-Some.is in
    let found = turn c.loop-part.left c.in-Some.part.now first kept.sound in
    let known = known_turn c.args.scene.now.tree.now.recency (value_at c.args.scene.now.chosen.now) c.loop-part.left c.in-Some.part.now first kept.known in
    (omega (arith, found.below, kept.left, c.decreases), (c.requires.scene, (found.few, (found.kids, (known.0, c.slot-slot.ensures.area)))))

pub place_row-loop-part-preserved : goal.place_row-loop-part-preserved
place_row-loop-part-preserved t c =
    let kept = c.loop-part.invariant in
    let row = c.loop-part.left in
    let part = c.in-Some.part.now in
    let first = sym c.part.ensures ∙ ap option_copied c.in-Some.is in
    let found = turn row part first kept.sound in
    let known = known_turn c.args.scene.now.tree.now.recency (value_at c.args.scene.now.chosen.now) row part first kept.known in
    let fewer : node_count c.rest-rest.result ≡ node_count _ = ap node_count c.rest-rest.ensures in
    let rest : share_sum c.rest-rest.result ≡ share_sum _ = ap share_sum c.rest-rest.ensures in
    let all : c.loop-part.before + share_sum row ≡ c.loop-part.before + c.from.result + share_sum c.rest-rest.result = omega (arith, rest, found.sum, c.from.ensures, c.share.ensures) in
    let after : c.loop-part.before + c.from.result ≡ c.loop-part.before + share_of part.kind = omega (arith, c.from.ensures, c.share.ensures) in
    let split = turn_parts (seen c.args.scene.now) c.args.slots c.loop-part.first c.loop-part.before row part found c.own.result c.is_end.result (c.loop-part.before + c.from.result) (first_kids row) c.rest-rest.result c.slot-slot.result
    c.own.ensures c.is_end.ensures after refl c.rest-rest.ensures c.slot-slot.ensures.value in
    record {
      left = omega (arith, fewer, found.behind, kept.left);
      placed = along _ _ _ _ _ _ c.in_ok-place_child.ensures split kept.placed;
      few = omega (arith, all, kept.few);
      sound = rw c.rest-rest.ensures found.rest;
      known = rw c.rest-rest.ensures known.1;
      fit = subst (HasSlots c.args.slots) all kept.fit;
    }
