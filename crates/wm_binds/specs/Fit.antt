-- What is read is within the limits of a plan.
use Rattle.std.specs.Prelude.{◌≤◌, IsTrue, length}
use Rattle.wm_layouts.specs.Plan.{FitLayouts, FitOutputs, IsFitBorder, IsFitOutput, NamesDiffer}
use Rattle.wm_saved.specs.Limits as saved
use Rattle.wm_saved.specs.declared.saved.SavedLayout.{SavedLayout}
use Rattle.wm_binds.specs.declared.draft.Draft.{Draft}
use Rattle.wm_binds.specs.declared.entry.Entry.{Entry}
use Rattle.wm_binds.specs.declared.entry.Entry.TheVariants.{Border, Inner, Outer, Output, Layout}

-- the borders and marks of a layout are within their limits
abbrev pub IsFitLayout : SavedLayout → Type 0
IsFitLayout layout = IsTrue (saved.is_fit layout)

-- what a line says is within the limits
abbrev pub IsFitEntry : Entry → Type 0
IsFitEntry (Border b) = IsFitBorder b
IsFitEntry (Inner n) = n ≤ 1000
IsFitEntry (Outer n) = n ≤ 1000
IsFitEntry (Output o) = IsFitOutput o
IsFitEntry (Layout name layout) = IsFitLayout layout
IsFitEntry other = Unit {0}

-- what was read so far is within the limits: at most eight outputs, each with a name of its own
pub record IsFitDraft (d : Draft) : Type 0 where
  pub few : length d.outputs ≤ 8
  pub fit : FitOutputs d.outputs
  pub names : NamesDiffer d.outputs
  pub border : IsFitBorder d.border
  pub inner : d.inner ≤ 1000
  pub outer : d.outer ≤ 1000
  pub layouts : FitLayouts d.layouts
