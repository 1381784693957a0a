-- Title formats of windows.
use Rattle.std.specs.Prelude.{ℕ, List, Option}
use Rattle.wm_base.specs.declared.errors.Refusal.{Refusal}
use Rattle.wm_base.specs.declared.ids.ConId.{ConId}
use Rattle.wm_sizes.specs.Windows.{look_refusal}
use Rattle.wm_forest.specs.declared.kind.KindEdit.TheVariants as edits
use Rattle.wm_tree.specs.TreeValue.{TreeValue}
use Rattle.wm_tree.specs.Words.{edited}

abbrev pub title_format_refusal : ConId → TreeValue → Option Refusal
title_format_refusal c t = look_refusal c t

-- c has this title format
abbrev pub title_format_tree : ConId → List ℕ → TreeValue → TreeValue
title_format_tree c format t = edited c (edits.TitleFormat format) t
