use Rattle.std.proofs.Common.{◌≡◌, true, false, Some, None, ap, ap₂, ◌∙◌, refl, sym, subst}
use Rattle.wm_tree.specs.Sound.{IsSound}
use Rattle.wm_history.specs.Act.{Map, text_if_some}
use Rattle.wm_core.specs.DeskValue.{DeskValue}
use Rattle.wm_history.specs.Follows.{Follows}
use Rattle.wm_history.specs.Effect.{has_no_pixels, limit_of, mapped, mapped_id, opened, refused, then_outcome}
use Rattle.wm_history.specs.History.{Entry, done_by}
use Rattle.wm_history.specs.declared.step.Answer.TheVariants.{Full}
use Rattle.wm_history.proofs.MapLemmas.{follows_window}
use Rattle.wm_core.proofs.StepLemmas.{taken}
use Rattle.wm_core.proofs.desk.Desk.map.Goals as goal

-- a buffer without pixels changes nothing
pub returns-then-has_no_pixels : goal.returns-then-has_no_pixels
returns-then-has_no_pixels c =
    let empty : has_no_pixels c.args.buffer.size ≡ true = sym c.has_no_pixels.ensures ∙ c.if-has_no_pixels.true in
    taken _ _ _ _ (c.stay.ensures (record { who = c.args.who; act = Map c.args.props.now c.args.buffer (text_if_some c.args.then.now) }) (rw empty refl))

-- nor does one for which there is no room
pub returns-in-Err-Full : goal.returns-in-Err-Full
returns-in-Err-Full c =
    let props = c.args.props.now in
    let same : c.in_ok-tree.tree ≡ c.args.self.now.tree = c.in_ok-tree.ensures ∙ ap (λ (d : DeskValue). d.tree) c.self.view_is in
    let pixels : has_no_pixels c.args.buffer.size ≡ false = sym c.has_no_pixels.ensures ∙ c.if-has_no_pixels.false in
    let full : limit_of props c.args.self.now.tree ≡ Some c.in-Err-Full.limit = ap (limit_of props) (sym same) ∙ (rw (c.in-Err-Full.field-0-is) at c.in-Err-Full.ensures.cause) in
    taken _ _ _ _ (c.stay-in-Err-Full.ensures (record { who = c.args.who; act = Map props c.args.buffer (text_if_some c.args.then.now) }) (rw (pixels, full) (ap (λ l. refused (Full l) c.args.self.now.tree) (sym c.in-Err-Full.limit-is))))

-- the new window is in its place, and the text that it brings is run
pub returns-in-Ok : goal.returns-in-Ok
returns-in-Ok c =
    let d = c.args.self.now in
    let t = d.tree in
    let props = c.args.props.now in
    let then = text_if_some c.args.then.now in
    let same : c.in_ok-tree.tree ≡ t = c.in_ok-tree.ensures ∙ ap (λ (d : DeskValue). d.tree) c.self.view_is in
    let pixels : has_no_pixels c.args.buffer.size ≡ false = sym c.has_no_pixels.ensures ∙ c.if-has_no_pixels.false in
    let room : limit_of props t ≡ None = ap (limit_of props) (sym same) ∙ c.in-Ok.ensures.room in
    let number : c.in-Ok.id ≡ mapped_id props t = c.in-Ok.ensures.id ∙ ap (mapped_id props) same in
    let made : c.open.new.tree ≡ mapped t c.args.who props c.args.buffer.size = c.in-Ok.ensures.tree ∙ ap (λ z. mapped z c.args.who props c.args.buffer.size) same in
    let entry : Entry = record { who = c.args.who; act = Map props c.args.buffer then } in
    let is : done_by d.plan.env d.mode t entry ≡ opened t (mapped_id props t, c.args.buffer) (then_outcome d.plan.env then (mapped_id props t) (mapped t c.args.who props c.args.buffer.size)) = rw (pixels, room) refl in
    c.open_with.ensures entry (is ∙ ap₂ (λ i z. opened t (i, c.args.buffer) (then_outcome d.plan.env then i z)) (sym number) (sym made))

-- no other window comes
pub open_with-requires-clause-come : goal.open_with-requires-clause-come
open_with-requires-clause-come c =
    let t = c.args.self.now.tree in
    let props = c.args.props.now in
    let same : c.in_ok-tree.tree ≡ t = c.in_ok-tree.ensures ∙ ap (λ (d : DeskValue). d.tree) c.self.view_is in
    let sound : IsSound t = subst IsSound (ap (λ (d : DeskValue). d.tree) c.self.view_is) c.self.invariant.1 in
    let room : limit_of props t ≡ None = ap (limit_of props) (sym same) ∙ c.in-Ok.ensures.room in
    let number : c.in-Ok.id ≡ mapped_id props t = c.in-Ok.ensures.id ∙ ap (mapped_id props) same in
    let made : c.open.new.tree ≡ mapped t c.args.who props c.args.buffer.size = c.in-Ok.ensures.tree ∙ ap (λ z. mapped z c.args.who props c.args.buffer.size) same in
    let window = follows_window t c.args.who props c.args.buffer sound room (subst IsSound made c.in-Ok.ensures.sound) in
    let follows = subst (λ z. Follows t c.open.new.tree z) (ap (λ i. Some (i, c.args.buffer)) (sym number)) (subst (λ z. Follows t z (Some (mapped_id props t, c.args.buffer))) (sym made) window) in
    record { few = c.requires.few; sound = c.in-Ok.ensures.sound; follows = follows }
