-- Windows as subjects of commands: who is none, and flags of their state.
use Rattle.std.specs.Prelude.{Bool, Option, None, is_none}
use Rattle.std.specs.Option.{option_map}
use Rattle.wm_base.specs.declared.errors.ErrorText.TheVariants as texts
use Rattle.wm_base.specs.declared.errors.Refusal.{Refusal}
use Rattle.wm_base.specs.declared.ids.ConId.{ConId}
use Rattle.wm_shared.specs.Refusing.{error_if}
use Rattle.wm_shared.specs.Subject.{is_hidden, is_space}
pub use Rattle.wm_shared.specs.Windows.{natural_by, natural_in, natural_of, rect_set, restated, state_of}
use Rattle.wm_forest.specs.declared.part.ConState.{ConState}
use Rattle.wm_tree.specs.TreeValue.{TreeValue}

-- one in the scratchpad has no workspace, and neither a workspace nor a split or placeholder is a window
abbrev pub window_refusal : ConId → TreeValue → Option Refusal
window_refusal c t = error_if (is_hidden t c) texts.NoWorkspace (error_if (is_space t c) texts.AtWorkspace (error_if (is_none (natural_of c t)) texts.NotWindow None))

-- ---- what its state is

-- c is sticky, or no longer so
abbrev pub sticky_set : Bool → ConId → TreeValue → TreeValue
sticky_set on c t = restated c (option_map (λ (s : ConState). record s { sticky = on }) (state_of c t)) t

-- c is fullscreen, or no longer so
abbrev pub full_set : Bool → ConId → TreeValue → TreeValue
full_set on c t = restated c (option_map (λ (s : ConState). record s { fullscreen = on }) (state_of c t)) t

-- c is flagged for the scratchpad, or no longer so
abbrev pub flag_set : Bool → ConId → TreeValue → TreeValue
flag_set on c t = restated c (option_map (λ (s : ConState). record s { flagged = on }) (state_of c t)) t
