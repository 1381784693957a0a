-- Gaps of workspaces.
use Rattle.std.specs.Prelude.{◌≡◌, ℕ, ◌+◌, ◌-◌, min, Bool, if◌then◌else◌, Option, None, Some}
use Rattle.std.specs.Option.{option_map}
use Rattle.wm_base.specs.declared.errors.ErrorText.TheVariants as texts
use Rattle.wm_base.specs.declared.errors.Refusal.{Refusal}
use Rattle.wm_base.specs.declared.ids.ConId.{ConId}
use Rattle.wm_language.specs.declared.arguments.GapOp.{GapOp}
use Rattle.wm_language.specs.declared.arguments.GapOp.TheVariants.{Set, Plus, Minus}
use Rattle.wm_shared.specs.Refusing.{error_if}
use Rattle.wm_shared.specs.Subject.{is_hidden}
use Rattle.wm_sizes.specs.declared.gaps.Change.{Change}
use Rattle.wm_forest.specs.declared.kind.KindEdit.TheVariants as edits
use Rattle.wm_forest.specs.declared.part.SpacePart.{SpacePart}
use Rattle.wm_forest.specs.Each.{mapped}
use Rattle.wm_forest.specs.Look.{kind_of, space_kind}
use Rattle.wm_tree.specs.Gaps.{part_gapped}
use Rattle.wm_tree.specs.TreeValue.{TreeValue, workspace_of}
use Rattle.wm_tree.specs.Words.{edited}

-- the gap after the change, held within 0 and 1,000 pixels
abbrev pub gap_after : GapOp → ℕ → ℕ → ℕ
gap_after Set gap px = min px 1000
gap_after Plus gap px = min (gap + px) 1000
gap_after Minus gap px = min (gap - px) 1000

-- the inner and the outer gap: one of them is changed, the other is as it was
abbrev pub gapped : Change → ℕ → ℕ → ℕ × ℕ
gapped change inner outer =
    if change.outer then (inner, gap_after change.op outer change.px)
    else (gap_after change.op inner change.px, outer)

-- ---- workspaces

abbrev pub regapped : Change → ConId → Option SpacePart → TreeValue → TreeValue
regapped change w None t = t
regapped change w (Some s) t = edited w (edits.Gaps (gapped change s.inner s.outer).0 (gapped change s.inner s.outer).1) t

-- the gap of w is changed where it is a workspace
abbrev pub space_gapped : Change → ConId → TreeValue → TreeValue
space_gapped change w t = regapped change w (kind_of space_kind w t.nodes) t

-- the gap that new workspaces get is changed
abbrev pub default_gapped : Change → TreeValue → TreeValue
default_gapped change t = record t { inner = (gapped change t.inner t.outer).0; outer = (gapped change t.inner t.outer).1 }

-- the gaps of all workspaces and of new ones are changed
abbrev pub all_gapped : Change → TreeValue → TreeValue
all_gapped change t = default_gapped change (record t { nodes = mapped (part_gapped (gapped change)) t.nodes })

-- the workspace with its changed gap
abbrev pub space_after : Change → SpacePart → SpacePart
space_after change s = record s { inner = (gapped change s.inner s.outer).0; outer = (gapped change s.inner s.outer).1 }

-- each workspace is as it was but for its changed gap, and the others are none
abbrev pub AllGapped : Change → TreeValue → TreeValue → Type 0
AllGapped change old new = (w : ConId) → kind_of space_kind w new.nodes ≡ option_map (space_after change) (kind_of space_kind w old.nodes)

-- ---- the command

-- one in the scratchpad has no workspace
abbrev pub set_gaps_refusal : ConId → TreeValue → Option Refusal
set_gaps_refusal c t = error_if (is_hidden t c) texts.NoWorkspace None

abbrev pub own_gapped : Change → Option ConId → TreeValue → TreeValue
own_gapped change None t = t
own_gapped change (Some w) t = space_gapped change w t

-- the gap of the subject's workspace is changed, or of all workspaces and of new ones
abbrev pub set_gaps_tree : ConId → Bool → Bool → GapOp → ℕ → TreeValue → TreeValue
set_gaps_tree c outer all op px t =
    if all then all_gapped (record { outer = outer; op = op; px = px }) t
    else own_gapped (record { outer = outer; op = op; px = px }) (workspace_of t c) t
