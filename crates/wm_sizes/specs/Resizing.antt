-- Growing and shrinking containers.
use Rattle.std.specs.Prelude.{ℕ, Bool, if◌then◌else◌, Option}
use Rattle.wm_base.specs.declared.errors.ErrorText.TheVariants as texts
use Rattle.wm_base.specs.declared.errors.Refusal.{Refusal}
use Rattle.wm_base.specs.declared.ids.ConId.{ConId}
use Rattle.wm_language.specs.declared.arguments.Side.{Side}
use Rattle.wm_shared.specs.Refusing.{error_if}
use Rattle.wm_shared.specs.Subject.{is_hidden, is_space}
use Rattle.wm_sizes.specs.Floating.{grow_refusal, grow_tree, step}
use Rattle.wm_sizes.specs.Tiled.{tiled_refusal, tiled_tree}
use Rattle.wm_tree.specs.TreeValue.{TreeValue, is_tiled_con}

-- one in the scratchpad has no workspace, and a workspace has no size of its own
abbrev pub resize_refusal : ConId → Bool → Side → ℕ → ℕ → TreeValue → Option Refusal
resize_refusal c grow side px ppt t =
    error_if (is_hidden t c) texts.NoWorkspace (error_if (is_space t c) texts.AtWorkspace
    (if is_tiled_con t c then tiled_refusal c (record { grow = grow; side = side; px = px; ppt = ppt }) t else grow_refusal c side (step grow px) t))

-- a tiled container shares anew with its siblings, and a floating window becomes longer or shorter
abbrev pub resize_tree : ConId → Bool → Side → ℕ → ℕ → TreeValue → TreeValue
resize_tree c grow side px ppt t =
    if is_tiled_con t c then tiled_tree c (record { grow = grow; side = side; px = px; ppt = ppt }) t else grow_tree c side (step grow px) t
