-- The configuration once more, with its names kept by their letters.
use Rattle.std.specs.Prelude.{◌≡◌, ℕ, ◌+◌, ◌<◌, if◌then◌else◌, List, [], ◌∷◌, length, Option, None, Some, Result, Ok, Err}
use Rattle.std.specs.Str.{is_utf8}
use Rattle.wm_binds.specs.Blocks.{in_bar}
use Rattle.wm_binds.specs.Letters.{Letters, found, put_name}
use Rattle.wm_binds.specs.Lines.{entry_of}
use Rattle.wm_binds.specs.Naming.{longest, replaced, set_at, set_line}
use Rattle.wm_binds.specs.Reading.{at_end, entered, go_on, or_outside, read_in, with_draft}
use Rattle.wm_binds.specs.declared.config.ConfigRefusal.{ConfigRefusal}
use Rattle.wm_binds.specs.declared.draft.Block.{Block}
use Rattle.wm_binds.specs.declared.draft.Block.TheVariants as block
use Rattle.wm_binds.specs.declared.draft.Draft.{Draft}
use Rattle.wm_binds.specs.declared.draft.LineRefusal.{LineRefusal}
use Rattle.wm_binds.specs.declared.draft.LineRefusal.TheVariants as faults
use Rattle.wm_binds.specs.declared.naming.Name.{Name}

-- the letters find what these names say
pub record Finds (letters : Letters) (names : List Name) : Type 0 where
  pub same : (text : List ℕ) → found letters text ≡ longest names text

-- the letters and the draft after a line that sets a name
abbrev pub letters_after : Letters → Draft → Block → List ℕ → Result (Letters × Draft) LineRefusal
letters_after letters draft block.Top text = or_outside (set_at (found letters) text) (λ n. read_in draft n.value (λ d. Ok (put_name n.name n.value letters, d)))
letters_after letters draft other text = Err faults.Outside

-- the draft after one that sets none
abbrev pub draft_after : Letters → Draft → List ℕ → Result Draft LineRefusal
draft_after letters draft text = read_in draft (replaced (found letters) text) (λ d. or_outside (entry_of (replaced (found letters) text)) (entered d d.block))

abbrev pub set_or_entered_by : Letters → Draft → List ℕ → Option (List ℕ) → Result (Letters × Draft) LineRefusal
set_or_entered_by letters draft text None = with_draft letters (draft_after letters draft text)
set_or_entered_by letters draft text (Some rest) = letters_after letters draft draft.block rest

abbrev pub text_by : Letters → Draft → Block → List ℕ → Result (Letters × Draft) LineRefusal
text_by letters draft block.Bar text = Ok (letters, in_bar draft text)
text_by letters draft other text = set_or_entered_by letters draft text (set_line text)

-- the letters and the draft after a line
abbrev pub line_by : Letters → Draft → List ℕ → Result (Letters × Draft) LineRefusal
line_by letters draft text = if is_utf8 text then text_by letters draft draft.block text else Err faults.Outside

-- what is read of texts behind so many lines, which gave these letters and this draft
abbrev pub read_by : ℕ → Letters → Draft → List (List ℕ) → Result Draft ConfigRefusal
read_by count letters draft [] = at_end count draft draft.block
read_by count letters draft (text ∷ texts) = go_on (count + 1) (line_by letters draft text) (λ letters draft. read_by (count + 1) letters draft texts)

-- why a text is not read: it has more bytes than that, or there was no memory
abbrev pub IsTooLong : ℕ → List ℕ → LineRefusal → Type 0
IsTooLong room text faults.Outside = room < length text
IsTooLong room text faults.Full = ⊥
IsTooLong room text faults.NoMemory = Unit {0}

-- why a name is not set: its value has more bytes than that, or there was no memory
abbrev pub IsValueTooLong : ℕ → Option Name → LineRefusal → Type 0
IsValueTooLong room None e = e ≡ faults.NoMemory
IsValueTooLong room (Some n) e = IsTooLong room n.value e

-- what was done is what the definition does, or want of memory
abbrev pub IsLine : Result (Letters × Draft) LineRefusal → Letters → Draft → Result Unit LineRefusal → Type 0
IsLine d letters draft (Ok done) = d ≡ Ok (letters, draft)
IsLine d letters draft (Err e) = (e ≡ faults.NoMemory → ⊥) → d ≡ Err e
