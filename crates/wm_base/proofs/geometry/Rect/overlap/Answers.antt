use Rattle.std.proofs.Common.{rules}
use Rattle.wm_base.proofs.Spans.{overlap-both, overlap-across_apart, overlap-down_apart}
use Rattle.wm_base.proofs.geometry.Rect.overlap.Goals as goal
use Rattle.wm_base.proofs.geometry.Rect.overlap.Goals.{in_default-via-in-Some+in_default, in_default-via-in_default}

pub returns-in-Some-Some : goal.returns-in-Some-Some
returns-in-Some-Some c = search (rules, overlap-both)

pub returns-in_default : goal.returns-in_default
returns-in_default c =
    elim c.in_default.branch [
      | in_default-via-in-Some+in_default w ↦ search (rules, overlap-down_apart)
      | in_default-via-in_default w ↦ search (rules, overlap-across_apart)
    ]
