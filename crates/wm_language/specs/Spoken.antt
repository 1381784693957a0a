-- Which text is a command, and which form of it is meant.
use Rattle.std.specs.Prelude.{◌≡◌, ℕ, ◌≤◌, ◌⊎◌, List, ◌++◌}
use Rattle.wm_language.specs.declared.command.Command.{Command}
use Rattle.wm_language.specs.Bytes.{IsBlank, Each, MayFollow}
use Rattle.wm_language.specs.Slots.{Slot, Filled, keywords}
use Rattle.wm_language.specs.WindowForms.{KeywordForm}
use Rattle.wm_language.specs.ArgumentForms.{ArgumentForm}

-- a kind of forms, with the command of each
abbrev pub Forms : Type 1
Forms = List Slot → Command → Type 0

-- the text begins with a command of this form, whatever stands behind its end
pub record Fits (Form : Forms) (slots : List Slot) (text : List ℕ) : Type 0 where
  pub command : Command
  pub spelled : List ℕ
  pub behind : List ℕ
  pub whole : text ≡ spelled ++ behind
  pub ends : MayFollow behind
  pub form : Form slots command
  pub filled : Filled slots spelled

-- Where a keyword form and a free argument both fit, the keyword form is meant: at the front of the text no form of keywords
-- and numbers alone fits, and none with more keywords before its argument.
pub record IsMeant (slots : List Slot) (text : List ℕ) : Type 0 where
  pub alone : (others : List Slot) → Fits KeywordForm others text → ⊥
  pub longest : (others : List Slot) → Fits ArgumentForm others text → keywords others ≤ keywords slots

-- the text is a command of keywords and numbers alone
pub record IsPlain (c : Command) (text : List ℕ) : Type 0 where
  pub slots : List Slot
  pub form : KeywordForm slots c
  pub filled : Filled slots text

-- the text, with what stands behind it, is a command that has a free argument
pub record IsFree (c : Command) (behind text : List ℕ) : Type 0 where
  pub slots : List Slot
  pub form : ArgumentForm slots c
  pub filled : Filled slots text
  pub meant : IsMeant slots (text ++ behind)

-- blanks, or nothing, and then a text of that kind
pub record Blanked (Is : List ℕ → Type 0) (text : List ℕ) : Type 0 where
  pub blanks : List ℕ
  pub others : List ℕ
  pub whole : text ≡ blanks ++ others
  pub blank : Each IsBlank blanks
  pub is : Is others

-- the text is the command, where that stands behind it
abbrev pub IsCommand : Command → List ℕ → List ℕ → Type 0
IsCommand c behind text = Blanked (λ t. IsPlain c t ⊎ IsFree c behind t) text
