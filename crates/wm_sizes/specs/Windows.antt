-- Windows as subjects of commands on their looks.
use Rattle.std.specs.Prelude.{Option, None, is_none}
use Rattle.std.specs.Option.{option_map}
use Rattle.wm_base.specs.declared.errors.ErrorText.TheVariants as texts
use Rattle.wm_base.specs.declared.errors.Refusal.{Refusal}
use Rattle.wm_base.specs.declared.ids.ConId.{ConId}
use Rattle.wm_base.specs.declared.plan.Border.{Border}
use Rattle.wm_shared.specs.Refusing.{error_if}
use Rattle.wm_shared.specs.Subject.{is_space}
use Rattle.wm_shared.specs.Windows.{natural_of, restated, state_of}
use Rattle.wm_forest.specs.declared.part.ConState.{ConState}
use Rattle.wm_tree.specs.TreeValue.{TreeValue}

-- neither a workspace nor a split or placeholder is a window; one of the scratchpad is one too
abbrev pub look_refusal : ConId → TreeValue → Option Refusal
look_refusal c t = error_if (is_space t c) texts.AtWorkspace (error_if (is_none (natural_of c t)) texts.NotWindow None)

-- c has this border
abbrev pub border_set : Border → ConId → TreeValue → TreeValue
border_set b c t = restated c (option_map (λ (s : ConState). record s { border = b }) (state_of c t)) t
