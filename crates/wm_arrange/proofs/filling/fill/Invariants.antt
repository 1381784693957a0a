use Rattle.std.proofs.Common.{◌≡◌, ◌++◌, length, string_bytes}
use denote.Text.{Utf8}
use denote.Shadow.{shadow}
use Rattle.wm_arrange.specs.TitleText.{filled}
use Rattle.wm_arrange.proofs.filling.fill.Given as goal

-- the text so far and the rest filled in make the whole
abbrev pub invariant-loop-before : goal.invariant-loop-before
invariant-loop-before l = shadow (Utf8 l.rest) × (string_bytes l.text ++ filled l.props l.rest ≡ string_bytes l.initial.text ++ filled l.props l.format)

abbrev pub decreases-loop-before : goal.decreases-loop-before
decreases-loop-before l = length l.rest
