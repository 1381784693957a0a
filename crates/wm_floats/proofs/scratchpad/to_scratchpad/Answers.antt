use Rattle.std.proofs.Common.{◌≡◌, None, arith, rules}
use Rattle.std.proofs.lemmas.Grind.{common_steps}
use Rattle.wm_floats.proofs.FloatLemmas.{hide_goal, window_con, window_is}
use Rattle.wm_floats.proofs.MovedLemmas.{hidden_state}
use Rattle.wm_floats.specs.Windows.{window_refusal}
use Rattle.wm_forest.specs.declared.place.Place.TheVariants.{Scratchpad}
use Rattle.wm_tree.specs.Move.{moved}
use Rattle.wm_floats.proofs.scratchpad.to_scratchpad.Goals as goal

pub go-requires-clause-goal : goal.go-requires-clause-goal
go-requires-clause-goal c =
    let fine : window_refusal c.args.con c.args.t.now ≡ None = first_of (search rules, grind (arith, common_steps)) in
    let k = window_is c.args.con c.args.t.now fine in
    hide_goal c.args.con c.floating_rect-rect.result c.args.t.now c.requires.sound (window_con c.args.con c.args.t.now k.1) k.0

pub returns-clause-flagged : goal.returns-clause-flagged
returns-clause-flagged c =
    let fine : window_refusal c.args.con c.args.t.now ≡ None = first_of (search rules, grind (arith, common_steps)) in
    let em : c.go.new.t ≡ moved c.args.con (Scratchpad c.floating_rect-rect.result) c.args.t.now = first_of (search rules, grind (arith, common_steps)) in
    let k = window_is c.args.con c.args.t.now fine in
    let ok = window_con c.args.con c.args.t.now k.1 in
    (hidden_state c.args.con c.floating_rect-rect.result c.args.t.now c.go.new.t c.set_flag.new.t em c.set_flag.ensures.tree c.floating_rect-rect.ensures c.requires.sound (hide_goal c.args.con c.floating_rect-rect.result c.args.t.now c.requires.sound ok k.0) ok).0

pub returns-clause-rect : goal.returns-clause-rect
returns-clause-rect c =
    let fine : window_refusal c.args.con c.args.t.now ≡ None = first_of (search rules, grind (arith, common_steps)) in
    let em : c.go.new.t ≡ moved c.args.con (Scratchpad c.floating_rect-rect.result) c.args.t.now = first_of (search rules, grind (arith, common_steps)) in
    let k = window_is c.args.con c.args.t.now fine in
    let ok = window_con c.args.con c.args.t.now k.1 in
    (hidden_state c.args.con c.floating_rect-rect.result c.args.t.now c.go.new.t c.set_flag.new.t em c.set_flag.ensures.tree c.floating_rect-rect.ensures c.requires.sound (hide_goal c.args.con c.floating_rect-rect.result c.args.t.now c.requires.sound ok k.0) ok).1
