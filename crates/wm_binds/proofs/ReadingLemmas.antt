-- A configuration whose names are kept by their letters is read as one whose names are kept in a list.
use Rattle.std.proofs.Common.{◌≡◌, ◌∙◌, refl, ap, sym, subst, Bool, true, false, cond, ℕ, ◌+◌, ◌≤◌, List, [], ◌∷◌, Option, None, Some, Result, Ok, Err}
use Rattle.std.proofs.lemmas.Bool.{le-leb}
use Rattle.std.specs.Prelude.{◌-◌, nat_le, length}
use Rattle.std.specs.Str.{is_utf8}
use Rattle.wm_fields.specs.Split.{lines_of}
use Rattle.wm_binds.specs.Blocks.{blank_draft}
use Rattle.wm_binds.specs.Letters.{Letters, end, put_name}
use Rattle.wm_binds.specs.LettersReading.{Finds, letters_after, line_by, read_by, set_or_entered_by, text_by}
use Rattle.wm_binds.specs.Lines.{entry_of}
use Rattle.wm_binds.specs.Naming.{longest, replaced, set_at, set_line}
use Rattle.wm_binds.specs.Reading.{after_line, after_text, config, config_of, entered, finished, go_on, names_after, or_outside, read_from, read_in, refusal_at, set_or_entered, with_draft}
use Rattle.wm_binds.specs.declared.config.ConfigRefusal.{ConfigRefusal}
use Rattle.wm_binds.specs.declared.config.ConfigRefusal.TheVariants as refusals
use Rattle.wm_binds.specs.declared.draft.Block.{Block}
use Rattle.wm_binds.specs.declared.draft.Block.TheVariants as block
use Rattle.wm_binds.specs.declared.draft.Draft.{Draft}
use Rattle.wm_binds.specs.declared.draft.LineRefusal.{LineRefusal}
use Rattle.wm_binds.specs.declared.draft.LineRefusal.TheVariants as faults
use Rattle.wm_binds.specs.declared.naming.Name.{Name}
use Rattle.wm_binds.proofs.NameLemmas.{finds_none, finds_put, replaced_by, set_by, set_has}

-- a text for which there is room is read
pub read_within : {A : Type 0} (draft : Draft) (text : List ℕ) (go : Draft → Result A LineRefusal) → length text ≤ draft.room → read_in draft text go ≡ go (record draft { room = draft.room - length text })
read_within draft text go room = ap (λ t. cond t (go (record draft { room = draft.room - length text })) (Err faults.Outside)) (le-leb (length text) draft.room room)

-- both give the same draft, and letters that find what the names say; or both refuse alike
abbrev Agree : Result (Letters × Draft) LineRefusal → Result (List Name × Draft) LineRefusal → Type 0
Agree (Ok a) (Ok b) = Finds a.0 b.0 × (a.1 ≡ b.1)
Agree (Err e) (Err f) = e ≡ f
Agree (Ok a) (Err f) = ⊥
Agree (Err e) (Ok b) = ⊥

draft_agrees : (letters : Letters) (names : List Name) (r : Result Draft LineRefusal) → Finds letters names → Agree (with_draft letters r) (with_draft names r)
draft_agrees letters names (Ok draft) finds = (finds, refl)
draft_agrees letters names (Err e) finds = refl

-- both have room for a text, or none has
value_agrees : (draft : Draft) (value : List ℕ) (letters : Letters) (names : List Name) → Finds letters names
    → Agree (read_in draft value (λ d. Ok (letters, d))) (read_in draft value (λ d. Ok (names, d)))
value_agrees draft value letters names finds = by (nat_le (length value) draft.room)
  where
    by : (t : Bool) → Agree (cond t (Ok (letters, record draft { room = draft.room - length value })) (Err faults.Outside)) (cond t (Ok (names, record draft { room = draft.room - length value })) (Err faults.Outside))
    by true = (finds, refl)
    by false = refl

set_agrees : (letters : Letters) (names : List Name) (draft : Draft) (text : List ℕ) (o : Option Name) → set_at (longest names) text ≡ o → Finds letters names
    → Agree (or_outside o (λ n. read_in draft n.value (λ d. Ok (put_name n.name n.value letters, d)))) (or_outside o (λ n. read_in draft n.value (λ d. Ok (n ∷ names, d))))
set_agrees letters names draft text None e finds = refl
set_agrees letters names draft text (Some n) e finds = value_agrees draft n.value (put_name n.name n.value letters) (n ∷ names) (finds_put letters names n (set_has (longest names) text n e) finds)

name_agrees : (letters : Letters) (names : List Name) (draft : Draft) (b : Block) (text : List ℕ) → Finds letters names
    → Agree (letters_after letters draft b text) (names_after names draft b text)
name_agrees letters names draft block.Top text finds =
    subst (λ o. Agree (or_outside o (λ n. read_in draft n.value (λ d. Ok (put_name n.name n.value letters, d)))) (names_after names draft block.Top text))
    (sym (set_by letters names text finds)) (set_agrees letters names draft text (set_at (longest names) text) refl finds)
name_agrees letters names draft (block.Mode name) text finds = refl
name_agrees letters names draft block.Bar text finds = refl

either_agrees : (letters : Letters) (names : List Name) (draft : Draft) (text : List ℕ) (o : Option (List ℕ)) → Finds letters names
    → Agree (set_or_entered_by letters draft text o) (set_or_entered names draft text o)
either_agrees letters names draft text None finds =
    subst (λ t. Agree (with_draft letters (read_in draft t (λ d. or_outside (entry_of t) (entered d d.block)))) (set_or_entered names draft text None))
    (sym (replaced_by letters names text finds))
    (draft_agrees letters names (read_in draft (replaced (longest names) text) (λ d. or_outside (entry_of (replaced (longest names) text)) (entered d d.block))) finds)
either_agrees letters names draft text (Some rest) finds = name_agrees letters names draft draft.block rest finds

text_agrees : (letters : Letters) (names : List Name) (draft : Draft) (b : Block) (text : List ℕ) → Finds letters names
    → Agree (text_by letters draft b text) (after_text names draft b text)
text_agrees letters names draft block.Top text finds = either_agrees letters names draft text (set_line text) finds
text_agrees letters names draft (block.Mode name) text finds = either_agrees letters names draft text (set_line text) finds
text_agrees letters names draft block.Bar text finds = (finds, refl)

line_agrees : (letters : Letters) (names : List Name) (draft : Draft) (text : List ℕ) → Finds letters names → Agree (line_by letters draft text) (after_line names draft text)
line_agrees letters names draft text finds = by (is_utf8 text)
  where
    by : (t : Bool) → Agree (cond t (text_by letters draft draft.block text) (Err faults.Outside)) (cond t (after_text names draft draft.block text) (Err faults.Outside))
    by true = text_agrees letters names draft draft.block text finds
    by false = refl

on_agreed : (count : ℕ) (texts : List (List ℕ)) (a : Result (Letters × Draft) LineRefusal) (b : Result (List Name × Draft) LineRefusal) → Agree a b
    → ((letters : Letters) (names : List Name) (draft : Draft) → Finds letters names → read_by count letters draft texts ≡ read_from count names draft texts)
    → go_on count a (λ letters draft. read_by count letters draft texts) ≡ go_on count b (λ names draft. read_from count names draft texts)
on_agreed count texts (Ok a) (Ok b) agree same = same a.0 b.0 a.1 agree.0 ∙ ap (λ d. read_from count b.0 d texts) agree.1
on_agreed count texts (Err e) (Err f) agree same = ap (λ x. Err (refusal_at count x)) agree
on_agreed count texts (Ok a) (Err f) agree same = absurd agree
on_agreed count texts (Err e) (Ok b) agree same = absurd agree

read_agrees : (texts : List (List ℕ)) (count : ℕ) (letters : Letters) (names : List Name) (draft : Draft) → Finds letters names
    → read_by count letters draft texts ≡ read_from count names draft texts
read_agrees [] count letters names draft finds = refl
read_agrees (text ∷ texts) count letters names draft finds =
    on_agreed (count + 1) texts (line_by letters draft text) (after_line names draft text) (line_agrees letters names draft text finds) (read_agrees texts (count + 1))

-- from the first line on
pub read_is : (texts : List (List ℕ)) → read_by 0 end blank_draft texts ≡ read_from 0 [] blank_draft texts
read_is texts = read_agrees texts 0 end [] blank_draft finds_none

-- a refused line refuses the whole
pub refused : (count : ℕ) (letters : Letters) (draft : Draft) (text : List ℕ) (texts : List (List ℕ)) (r : LineRefusal)
    → ((r ≡ faults.NoMemory → ⊥) → line_by letters draft text ≡ Err r) → (refusal_at (count + 1) r ≡ refusals.NoMemory → ⊥)
    → read_by count letters draft (text ∷ texts) ≡ Err (refusal_at (count + 1) r)
refused count letters draft text texts faults.Outside is known = ap (λ o. go_on (count + 1) o (λ l d. read_by (count + 1) l d texts)) (is (λ e. cc))
refused count letters draft text texts faults.Full is known = ap (λ o. go_on (count + 1) o (λ l d. read_by (count + 1) l d texts)) (is (λ e. cc))
refused count letters draft text texts faults.NoMemory is known = absurd (known refl)

-- a line that is taken leaves the rest to be read
pub taken : (count : ℕ) (letters next : Letters) (draft later : Draft) (text : List ℕ) (texts : List (List ℕ)) → line_by letters draft text ≡ Ok (next, later)
    → read_by (count + 1) next later texts ≡ read_by count letters draft (text ∷ texts)
taken count letters next draft later text texts e = sym (ap (λ o. go_on (count + 1) o (λ l d. read_by (count + 1) l d texts)) e)

pub config_read : (text : List ℕ) (draft : Draft) → read_by 0 end blank_draft (lines_of text) ≡ Ok draft → config text ≡ Ok (config_of text draft)
config_read text draft e = ap (finished text) (sym (read_is (lines_of text)) ∙ e)

pub config_refused : (text : List ℕ) (e : ConfigRefusal) → read_by 0 end blank_draft (lines_of text) ≡ Err e → config text ≡ Err e
config_refused text e is = ap (finished text) (sym (read_is (lines_of text)) ∙ is)
