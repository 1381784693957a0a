-- What callers do in a line of a script, a case each.
use Rattle.std.specs.Prelude.{◌≡◌, ℕ, ◌⊎◌, List, [], ◌∷◌, ◌++◌, codes}
use Rattle.wm_history.specs.declared.look.Query.{Query}
use Rattle.wm_history.specs.declared.look.Query.TheVariants as query
use Rattle.wm_script.specs.declared.line.Deed.{Deed}
use Rattle.wm_script.specs.declared.line.Deed.TheVariants.{Run, Do, Key, Paint, Look}
use Rattle.wm_script.specs.declared.line.Line.{Line}
use Rattle.law_script.specs.Pieces.{AreWords, BeginsWithout, IsId, IsLong, IsName}
use Rattle.law_script.specs.Steps.{SaysStep}

-- ---- looks

-- `wants SERIAL KILL`
pub record SaysWants (text : List ℕ) (serial kill : ℕ) : Type 0 where
  pub first : List ℕ
  pub second : List ℕ
  pub words : AreWords (codes "wants" ∷ first ∷ second ∷ []) text
  pub is_serial : IsLong first serial
  pub is_kill : IsLong second kill

-- `tree`, `workspaces`, `outputs`, `marks`, and `wants SERIAL KILL`; no line asks for other looks
abbrev pub SaysLook : List ℕ → Query → Type 0
SaysLook text query.Tree = AreWords (codes "tree" ∷ []) text
SaysLook text query.Workspaces = AreWords (codes "workspaces" ∷ []) text
SaysLook text query.Outputs = AreWords (codes "outputs" ∷ []) text
SaysLook text query.Marks = AreWords (codes "marks" ∷ []) text
SaysLook text (query.Wants serial kill) = SaysWants text serial kill
SaysLook text other = ⊥

-- ---- what callers do

-- `run TEXT`, where TEXT is the rest of the line behind the spaces, and may be empty
pub record SaysRun (text commands : List ℕ) : Type 0 where
  pub words : AreWords (codes "run" ∷ commands ∷ []) text
  pub begins : BeginsWithout 32 commands

-- `key CHORD`
pub record SaysKey (text chord : List ℕ) : Type 0 where
  pub name : List ℕ
  pub words : AreWords (codes "key" ∷ name ∷ []) text
  pub is_name : IsName name chord

-- `run TEXT`, a step of another kind, `key CHORD`, `paint`, or a look
abbrev pub SaysDeed : List ℕ → Deed → Type 0
SaysDeed text (Run commands) = SaysRun text commands
SaysDeed text (Do step) = SaysStep text step
SaysDeed text (Key chord) = SaysKey text chord
SaysDeed text Paint = AreWords (codes "paint" ∷ []) text
SaysDeed text (Look query) = SaysLook text query

-- `@WHO ` and a line
pub record SaysBy (text : List ℕ) (line : Line) : Type 0 where
  pub number : List ℕ
  pub deed : List ℕ
  pub words : AreWords ((codes "@" ++ number) ∷ deed ∷ []) text
  pub is_number : IsId number line.who
  pub is_deed : SaysDeed deed line.deed

-- what caller 0 does, or with `@WHO ` before it what that caller does
abbrev pub SaysLine : List ℕ → Line → Type 0
SaysLine text line = (line.who ≡ 0) × SaysDeed text line.deed ⊎ SaysBy text line
