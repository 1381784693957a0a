-- Appending the layout of a name: the focused workspace is there, and why it is refused.
use Rattle.std.proofs.Common.{◌≡◌, ◌≢◌, ◌∙◌, ap, sym, subst, true, is_some, Option, Some, None}
use Rattle.std.proofs.lemmas.Bool.{false≢true}
use Rattle.wm_base.specs.declared.ids.ConId.{ConId}
use Rattle.wm_forest.specs.declared.part.SpacePart.{SpacePart}
use Rattle.wm_forest.specs.Look.{has, kind_of, space_kind}
use Rattle.wm_saved.specs.declared.saved.SavedLayout.{SavedLayout}
use Rattle.wm_shared.proofs.StandingLemmas.{shown_stands, stands_space}
use Rattle.wm_shared.specs.Refusing.{IsCause, full_error, refusal_by}
use Rattle.wm_swallow.specs.Limits.{IsAppendCause, IsSpaceThere, passed_by_append}
use Rattle.wm_swallow.specs.SavedRows.{rows}
use Rattle.wm_tree.proofs.FocusLemmas.{shown_has}
use Rattle.wm_tree.specs.declared.refusal.TreeRefusal.{TreeRefusal}
use Rattle.wm_tree.specs.declared.refusal.TreeRefusal.TheVariants as refusals
use Rattle.wm_tree.specs.Sound.{IsSound}
use Rattle.wm_tree.specs.TreeValue.{TreeValue, shown}
use Rattle.wm_apply.specs.Layouts.{append_refusal}

some_space : (part : Option SpacePart) → is_some part ≡ true → part ≢ None
some_space None h e = cc
some_space (Some p) h e = cc

-- the focused workspace is one
pub shown_there : (t : TreeValue) (w : ConId) → IsSound t → w ≡ shown t → IsSpaceThere w t.nodes
shown_there t w s is there = some_space (kind_of space_kind w t.nodes) (ap (λ c. is_some (kind_of space_kind c t.nodes)) is ∙ stands_space (shown t) t s (shown_stands t s))

-- why the layout is not appended to it
pub append_cause : (t : TreeValue) (w : ConId) (layout : SavedLayout) (named : Option SavedLayout) (e : TreeRefusal) → IsSound t → w ≡ shown t → named ≡ Some layout
    → IsAppendCause t w (rows layout.trees) e → IsCause (append_refusal named t) (refusal_by e)
append_cause t w layout named (refusals.Missing c) s is found h =
    let there : has w t.nodes ≡ true = ap (λ c. has c t.nodes) is ∙ shown_has t s in
    absurd (false≢true (sym h.1 ∙ there))
append_cause t w layout named (refusals.Full limit) s is found h = rw found (ap full_error (subst (λ c. passed_by_append c (rows layout.trees) t ≡ Some limit) is h.1))
append_cause t w layout named refusals.NoMemory s is found h = tt
