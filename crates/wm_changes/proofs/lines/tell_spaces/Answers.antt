use Rattle.std.proofs.Common.{◌≡◌, ◌∷◌, ◌++◌, ap, ◌∙◌}
use Rattle.std.proofs.lemmas.Map.Iter.{rest_more}
use Rattle.std.specs.Map.Iter.{deref}
use Rattle.wm_changes.specs.Changes.{space_line}
use Rattle.wm_changes.specs.Shot.{Shot}
use Rattle.wm_changes.proofs.ToldLemmas.{lines_more}
use Rattle.wm_changes.proofs.lines.tell_spaces.Goals as goal

-- the next workspace's line is told before those of the others
pub loop-site-preserved : goal.loop-site-preserved
loop-site-preserved c =
    let left : c.loop-site.site-iterator ≡ c.in-Some.site.now ∷ c.next.new.self = rest_more deref c.loop-site.site-iterator c.next.new.self c.next.result c.in-Some.site c.in-Some.is c.next.ensures.steps in
    record {
      events = lines_more (space_line c.args.before.now.tree.now c.args.viewer.now.tree c.args.viewer.now.parts) c.in-Some.site.now c.loop-site.site-iterator c.next.new.self c.loop-site.events.items
          c.tell_site.new.events.items _ left
          (c.in_ok-tell_site.ensures.events ∙ ap (λ (v : Shot). c.loop-site.events.items ++ space_line c.args.before.now.tree.now v.tree v.parts c.in-Some.site.now) c.loop-site.invariant.viewer)
          c.loop-site.invariant.events;
      viewer = c.tell_site.ensures.viewer ∙ c.loop-site.invariant.viewer;
    }
