use Rattle.std.proofs.Common.{◌∙◌, ap}
use Rattle.std.specs.Prelude.{string_bytes}
use Rattle.std.specs.List.{list_any}
use Rattle.std.specs.Str.{bytes_eq}
use Rattle.wm_binds.proofs.TableLemmas.{name_among}
use Rattle.wm_binds.proofs.modes.ModeTable.has.Goals as goal

pub returns : goal.returns
returns c =
    c.contains.ensures
    ∙ ap (λ n. list_any (λ k. bytes_eq n (string_bytes k)) c.self.inside.keys.keys) c.as_str.ensures.value
    ∙ name_among c.args.name.now c.self.inside.keys.keys c.self.inside.names.items c.self.invariant
    ∙ ap (list_any (bytes_eq c.args.name.now)) c.self.view_is
