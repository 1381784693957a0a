use Rattle.std.proofs.lemmas.Result.{on_ok_weaker}
use Rattle.wm_json.specs.Spaces.{name_fields, place_fields}
use Rattle.wm_written.proofs.SentLemmas.{object_of_two, sends_is, sends_then}
use Rattle.wm_written.proofs.spaces.put_workspace.Goals as goal

pub returns : goal.returns
returns c =
    let w = c.args.w.now in
    on_ok_weaker _ (λ last. sends_is (sends_then c.in_ok-open_object.ensures (sends_then c.in_ok-put_name.ensures (sends_then c.in_ok-put_place.ensures last))) (object_of_two (name_fields w) (place_fields w))) c.close_object.ensures
