-- Why a command is refused: the first error that it has, which yields to want of memory alone.
use Rattle.std.specs.Prelude.{◌≡◌, Bool, if◌then◌else◌, Option, None, Some}
use Rattle.wm_base.specs.declared.errors.ErrorText.{ErrorText}
use Rattle.wm_base.specs.declared.errors.ErrorText.TheVariants as texts
use Rattle.wm_base.specs.declared.errors.Limit.{Limit}
use Rattle.wm_base.specs.declared.errors.Refusal.{Refusal}
use Rattle.wm_base.specs.declared.errors.Refusal.TheVariants.{Full, NameTaken, NoMemory, NoTarget}
use Rattle.wm_tree.specs.declared.refusal.TreeRefusal.{TreeRefusal}
use Rattle.wm_tree.specs.declared.refusal.TreeRefusal.TheVariants as tree

-- a refusal is the first error, or memory ran out
abbrev pub IsCause : Option Refusal → Refusal → Type 0
IsCause first (NoTarget text) = first ≡ Some (NoTarget text)
IsCause first (Full limit) = first ≡ Some (Full limit)
IsCause first NameTaken = first ≡ Some NameTaken
IsCause first NoMemory = Unit {0}

-- the error with this text where the test holds, else the first of the others
abbrev pub error_if : Bool → ErrorText → Option Refusal → Option Refusal
error_if test text others = if test then Some (NoTarget text) else others

-- the error of a limit that would be passed
abbrev pub full_error : Option Limit → Option Refusal
full_error None = None
full_error (Some limit) = Some (Full limit)

-- what a command answers where the tree refuses
abbrev pub refusal_by : TreeRefusal → Refusal
refusal_by (tree.Full limit) = Full limit
refusal_by (tree.Missing c) = NoTarget texts.NoContainer
refusal_by tree.NoMemory = NoMemory
