-- Why a split is refused.
use Rattle.std.proofs.Common.{◌≡◌, true, false, None, refl}
use Rattle.wm_base.specs.declared.ids.ConId.{ConId}
use Rattle.wm_shared.specs.Refusing.{IsCause, refusal_by}
use Rattle.wm_focus.specs.Splits.{gives_layout, layout_refusal, split_refusal}
use Rattle.wm_language.specs.declared.arguments.SplitArg.{SplitArg}
use Rattle.wm_tree.specs.declared.refusal.TreeRefusal.{TreeRefusal}
use Rattle.wm_tree.specs.declared.refusal.TreeRefusal.TheVariants.{Full, Missing, NoMemory}
use Rattle.wm_forest.specs.Look.{has}
use Rattle.wm_tree.specs.Move.{IsWrapCause}
use Rattle.wm_tree.specs.TreeValue.{TreeValue}

pub split_cause : (t : TreeValue) (c : ConId) (arg : SplitArg) (error : TreeRefusal) → has c t.nodes ≡ true → layout_refusal c t ≡ None → gives_layout t c ≡ false → IsWrapCause t c error → IsCause (split_refusal c arg t) (refusal_by error)
split_cause t c arg (Full limit) there free alone h = rw (free, alone, h.1) refl
split_cause t c arg (Missing i) there free alone h = absurd (cc)
split_cause t c arg NoMemory there free alone h = tt
