use Rattle.std.proofs.Common.{ap, ◌∙◌}
use Rattle.std.proofs.lemmas.Result.{on_ok_weaker}
use Rattle.std.specs.Option.{option_or}
use Rattle.wm_views.specs.declared.maps.NodeRects.{NodeRects}
use Rattle.wm_views.specs.declared.maps.Wanted.TheVariants.{Areas, Contents, Titles}
use Rattle.wm_views.specs.Maps.{rect_kept, rect_of}
use Rattle.wm_views.proofs.MapLemmas.{kept_more}
use Rattle.wm_views.proofs.maps.keep.Goals as goal

pub returns : goal.returns
returns c = λ w v.
    let rects = c.with_part-rects.ensures in
    let area = rects.area ∙ ap (λ (r : NodeRects). option_or r.area (rect_of Areas c.args.placed.now)) c.held.ensures in
    let title = rects.title ∙ ap (λ (r : NodeRects). option_or r.title (rect_of Titles c.args.placed.now)) c.held.ensures in
    let content = rects.content ∙ ap (λ (r : NodeRects). option_or r.content (rect_of Contents c.args.placed.now)) c.held.ensures in
    on_ok_weaker c.put.result (λ put. ap (rect_kept w) put ∙ kept_more w c.args.placed.now v c.with_part-rects.result c.args.map.now area title content) (c.put.ensures v)
