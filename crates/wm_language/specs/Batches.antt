-- Which text is which batch of commands.
use Rattle.std.specs.Prelude.{◌≡◌, ℕ, List, [], ◌∷◌, ◌++◌, Option, Some, None}
use Rattle.wm_language.specs.declared.command.Command.{Command}
use Rattle.wm_language.specs.declared.batch.Criteria.{Criteria}
use Rattle.wm_language.specs.declared.batch.Group.{Group}
use Rattle.wm_language.specs.declared.batch.Batch.{Batch}
use Rattle.wm_language.specs.Bytes.{IsBlank, Each}
use Rattle.wm_language.specs.Spoken.{Blanked, IsCommand}
use Rattle.wm_language.specs.Criteria.{Bracketed}

-- ---- groups

-- a command, `,`, and the other commands
pub record CommandThen (c : Command) (behind : List ℕ) (Others : List ℕ → Type 0) (text : List ℕ) : Type 0 where
  pub first : List ℕ
  pub others : List ℕ
  pub whole : text ≡ first ++ 44 ∷ others
  pub is : IsCommand c (44 ∷ (others ++ behind)) first
  pub more : Others others

-- the text is the commands, one or more, with `,` between them, where that stands behind it
abbrev pub AreCommands : List Command → List ℕ → List ℕ → Type 0
AreCommands [] behind text = ⊥
AreCommands (c ∷ []) behind text = IsCommand c behind text
AreCommands (c ∷ d ∷ cs) behind text = CommandThen c behind (AreCommands (d ∷ cs) behind) text

-- the text is the criteria, or it is empty where there are none
abbrev pub AreCriteria : Option Criteria → List ℕ → Type 0
AreCriteria None text = text ≡ []
AreCriteria (Some c) text = Blanked (Bracketed c.keys) text

-- the text is the group, where that stands behind it: criteria or none, and commands
pub record IsGroup (g : Group) (behind text : List ℕ) : Type 0 where
  pub front : List ℕ
  pub others : List ℕ
  pub whole : text ≡ front ++ others
  pub criteria : AreCriteria g.criteria front
  pub commands : AreCommands g.commands behind others

-- ---- batches

-- the text is the groups, with `;` between them; a blank group counts for nothing
pub data AreGroups : List ℕ → List Group → Type 0 where
  last_blank : {text : List ℕ} → Each IsBlank text → AreGroups text []
  last_group : {text : List ℕ} {g : Group} → IsGroup g [] text → AreGroups text (g ∷ [])
  blank_then : {text : List ℕ} {gs : List Group} (front others : List ℕ) → text ≡ front ++ 59 ∷ others → Each IsBlank front → AreGroups others gs → AreGroups text gs
  group_then : {text : List ℕ} {g : Group} {gs : List Group} (front others : List ℕ) → text ≡ front ++ 59 ∷ others → IsGroup g (59 ∷ others) front → AreGroups others gs → AreGroups text (g ∷ gs)

-- the text is a spelling of the batch
abbrev pub Spells : List ℕ → Batch → Type 0
Spells text batch = AreGroups text batch.groups
