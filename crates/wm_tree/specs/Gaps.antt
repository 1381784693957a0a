-- Gaps of all workspaces.
use Rattle.std.specs.Prelude.{ℕ}
use Rattle.wm_forest.specs.declared.part.NodeKind.{NodeKind}
use Rattle.wm_forest.specs.declared.part.NodeKind.TheVariants.{Root, Output, Space, Con}
use Rattle.wm_forest.specs.declared.part.Part.{Part}

-- a workspace with the gaps that f makes of its own; other nodes have none
abbrev pub kind_gapped : (ℕ → ℕ → ℕ × ℕ) → NodeKind → NodeKind
kind_gapped f (Root c) = Root c
kind_gapped f (Output o) = Output o
kind_gapped f (Space s) = Space (record s { inner = (f s.inner s.outer).0; outer = (f s.inner s.outer).1 })
kind_gapped f (Con c) = Con c

abbrev pub part_gapped : (ℕ → ℕ → ℕ × ℕ) → Part → Part
part_gapped f part = record part { kind = kind_gapped f part.kind }
