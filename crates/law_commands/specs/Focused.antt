-- A law of the command `focus`.
use Rattle.std.specs.Prelude.{◌≡◌, None}
use Rattle.wm_apply.specs.Rows.{come_refusal, focus_tree}
use Rattle.wm_base.specs.declared.ids.ConId.{ConId}
use Rattle.wm_shared.specs.Subject.{IsSubject}
use Rattle.wm_tree.specs.TreeValue.{TreeValue, focused}

-- where `focus` on a container or workspace is not refused, that is what is focused then
abbrev pub FocusFocuses : Type 0
FocusFocuses = (c : ConId) (t : TreeValue) → IsSubject t c → come_refusal c t ≡ None → focused (focus_tree c t) ≡ c
