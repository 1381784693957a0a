-- Why a container is not sent to an output that is there.
use Rattle.std.proofs.Common.{◌≡◌, Bool, true, false, Option, Some, refl}
use Rattle.wm_base.specs.declared.errors.ErrorText.TheVariants.{AtWorkspace, NoWorkspace}
use Rattle.wm_base.specs.declared.errors.Refusal.{Refusal}
use Rattle.wm_base.specs.declared.ids.ConId.{ConId}
use Rattle.wm_language.specs.declared.arguments.OutArg.{OutArg}
use Rattle.wm_apply.specs.OutputRows.{move_to_output_refusal, move_to_output_tree}
use Rattle.wm_shared.specs.Refusing.{error_if}
use Rattle.wm_shared.specs.Showing.{shown_on}
use Rattle.wm_shared.specs.Subject.{is_hidden, is_space}
use Rattle.wm_spaces.specs.Outs.{output_at}
use Rattle.wm_spaces.specs.Sending.{send_to_output_refusal, send_to_output_tree, sent_some_refusal}
use Rattle.wm_tree.specs.TreeValue.{TreeValue}

twice : (a b : Bool) (x : Option Refusal) → error_if a NoWorkspace (error_if b AtWorkspace (error_if a NoWorkspace (error_if b AtWorkspace x))) ≡ error_if a NoWorkspace (error_if b AtWorkspace x)
twice true b x = refl
twice false true x = refl
twice false false x = refl

pub sent_refusal_is : (c o : ConId) (arg : OutArg) (t : TreeValue) → output_at c arg t ≡ Some o → move_to_output_refusal c arg t ≡ send_to_output_refusal c o t
sent_refusal_is c o arg t e = rw e (twice (is_hidden t c) (is_space t c) (sent_some_refusal (shown_on o t) c t))

pub sent_tree_is : (c o : ConId) (arg : OutArg) (t : TreeValue) → output_at c arg t ≡ Some o → move_to_output_tree c arg t ≡ send_to_output_tree c o t
sent_tree_is c o arg t e = rw e refl
