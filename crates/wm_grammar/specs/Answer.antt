-- What reading a text answers.
use Rattle.std.specs.Prelude.{◌≡◌, ℕ, List, None, Result, Ok, Err, ⊤}
use Rattle.wm_language.specs.Batches.{Spells}
use Rattle.wm_language.specs.Places.{IsFarthest}
use Rattle.wm_language.specs.declared.batch.Batch.{Batch}
use Rattle.wm_language.specs.declared.refusal.ReadRefusal.{ReadRefusal}
use Rattle.wm_language.specs.declared.refusal.ReadRefusal.TheVariants as refusals
use Rattle.wm_grammar.specs.Reading.{batch_of, Reads, IsReach}

-- the batch of which the text is a spelling; or it is a spelling of none, and this is how far it is one
abbrev pub IsAnswer : List ℕ → Result Batch ReadRefusal → Type 0
IsAnswer text (Ok batch) = Spells text batch
IsAnswer text (Err (refusals.Bad at)) = ((batch : Batch) → Spells text batch → ⊥) × IsFarthest text at
IsAnswer text (Err refusals.NoMemory) = ⊤

-- the same answer, as the text is read from its front to its end: what proofs above go on from
abbrev pub IsScanned : List ℕ → Result Batch ReadRefusal → Type 0
IsScanned text (Ok batch) = Reads text batch
IsScanned text (Err (refusals.Bad at)) = (batch_of text ≡ None) × IsReach text at
IsScanned text (Err refusals.NoMemory) = ⊤
