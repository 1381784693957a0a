use Rattle.std.proofs.Common.{◌≡◌, arith, rules}
use Rattle.std.proofs.lemmas.Grind.{common_steps}
use Rattle.wm_floats.proofs.FloatLemmas.{window_con}
use Rattle.wm_floats.proofs.LeafLemmas.{tiling_by}
use Rattle.wm_floats.proofs.MovedLemmas.{sink_rect}
use Rattle.wm_tree.specs.Move.{moved}
use Rattle.wm_floats.proofs.floating.sink_on.Goals as goal

pub go-requires-clause-goal : goal.go-requires-clause-goal
go-requires-clause-goal c =
    tiling_by c.args.con c.args.w c.tiling_place-at.result c.args.t.now c.tiling_place-at.ensures c.requires.sound c.requires.window c.requires.space c.requires.loose

pub returns-clause-rect : goal.returns-clause-rect
returns-clause-rect c =
    let g = tiling_by c.args.con c.args.w c.tiling_place-at.result c.args.t.now c.tiling_place-at.ensures c.requires.sound c.requires.window c.requires.space c.requires.loose in
    let em : c.go.new.t ≡ moved c.args.con c.tiling_place-at.result c.args.t.now = first_of (search rules, grind (arith, common_steps)) in
    sink_rect c.args.con c.args.w c.tiling_place-at.result c.args.t.now c.go.new.t c.set_flag.new.t c.tiling_place-at.ensures em c.set_flag.ensures.tree c.requires.sound g (window_con c.args.con c.args.t.now c.requires.window)
