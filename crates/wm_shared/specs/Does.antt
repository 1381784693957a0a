-- What a command does to the tree, in one line: it is done, or it is refused and changes nothing.
use Rattle.std.specs.Prelude.{◌≡◌, Option, None, Some, Result, OnOk, OnErr, IfErr}
use Rattle.wm_base.specs.declared.errors.Refusal.{Refusal}
use Rattle.wm_tree.specs.TreeValue.{TreeValue}
use Rattle.wm_tree.specs.Sound.{IsSound}
use Rattle.wm_shared.specs.Refusing.{IsCause}

-- Done only where nothing refuses it, and then the tree is that of the definition. Refused, the tree is as it was, for the
-- first error that it has or for want of memory. The tree is sound.
pub record Does {A : Type 0} (old new : TreeValue) (result : Result A Refusal) (refusal : TreeValue → Option Refusal) (after : TreeValue → TreeValue) : Type 0 where
  pub tree : OnOk result (new ≡ after old)
  pub fine : OnOk result (refusal old ≡ None)
  pub err : OnErr result (new ≡ old)
  pub cause : IfErr result (IsCause (refusal old))
  pub sound : IsSound new

-- the same of what wants no memory: refused exactly for the first error that it has
pub record DoesExactly {A : Type 0} (old new : TreeValue) (result : Result A Refusal) (refusal : TreeValue → Option Refusal) (after : TreeValue → TreeValue) : Type 0 where
  pub tree : OnOk result (new ≡ after old)
  pub fine : OnOk result (refusal old ≡ None)
  pub err : OnErr result (new ≡ old)
  pub cause : IfErr result (λ e. refusal old ≡ Some e)
  pub sound : IsSound new

-- the same of a tree that need not be sound before: what was sound stays so
pub record DoesIfSound {A : Type 0} (old new : TreeValue) (result : Result A Refusal) (refusal : TreeValue → Option Refusal) (after : TreeValue → TreeValue) : Type 0 where
  pub tree : OnOk result (new ≡ after old)
  pub fine : OnOk result (refusal old ≡ None)
  pub err : OnErr result (new ≡ old)
  pub cause : IfErr result (IsCause (refusal old))
  pub sound : IsSound old → IsSound new

-- the same of what wants no memory
pub record DoesExactlyIfSound {A : Type 0} (old new : TreeValue) (result : Result A Refusal) (refusal : TreeValue → Option Refusal) (after : TreeValue → TreeValue) : Type 0 where
  pub tree : OnOk result (new ≡ after old)
  pub fine : OnOk result (refusal old ≡ None)
  pub err : OnErr result (new ≡ old)
  pub cause : IfErr result (λ e. refusal old ≡ Some e)
  pub sound : IsSound old → IsSound new

-- what is never refused: the tree is that of the definition, and what was sound stays so
pub record Makes (old new : TreeValue) (after : TreeValue → TreeValue) : Type 0 where
  pub tree : new ≡ after old
  pub sound : IsSound old → IsSound new

-- a look before anything is done: it is fine exactly where nothing refuses it, and else refused for the first error
pub record Refuses {A : Type 0} (result : Result A Refusal) (first : Option Refusal) : Type 0 where
  pub fine : OnOk result (first ≡ None)
  pub cause : IfErr result (λ e. first ≡ Some e)
