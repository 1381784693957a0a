-- What entries of a turnstile are as a history of a desk: it begins where they begin, has the same places, and its marks
-- are legal where theirs are.
use Rattle.std.proofs.Common.{◌≡◌, ◌++◌, ℕ, List, [], ◌∷◌, ap, length, refl, ◌∙◌}
use Rattle.std.proofs.lemmas.List.{length-map}
use Rattle.wm_core.specs.Entries.{desk_entry, history_of}
use Rattle.wm_history.specs.History.{History}
use Rattle.wm_core.specs.Passes.{Begins, acts, places}
use Rattle.wm_core.specs.declared.asked.Asked.{Asked}
use Rattle.wm_history.specs.declared.step.Step.{Step}
use Rattle.wm_turn.specs.History as turn
use Rattle.wm_turn.specs.declared.view.Entry.{Entry}
use Rattle.wm_turn.specs.declared.view.Mark.{Mark}

-- entries that were added are steps that were added
history_of-append : (more seen : List (Entry Step)) → history_of (more ++ seen) ≡ history_of more ++ history_of seen
history_of-append [] seen = refl
history_of-append (entry ∷ more) seen = ap (λ h. desk_entry entry ∷ h) (history_of-append more seen)

-- where entries begin others, so do their histories
pub history_begins : (seen entries : List (Entry Step)) → turn.Begins seen entries → Begins (history_of seen) (history_of entries)
history_begins seen entries begins = (history_of begins.0, ap history_of begins.1 ∙ history_of-append begins.0 seen)

-- as many steps as entries
pub history_length : (entries : List (Entry Step)) → length (history_of entries) ≡ length entries
history_length entries = length-map entries desk_entry

acts_length : (history : History) → length (acts history) ≡ length history
acts_length history = length-map history _

-- the steps stand at the places of the entries
pub history_places : (who : ℕ) (entries : List (Entry Step)) → places who (history_of entries) ≡ turn.places who entries
history_places who [] = refl
history_places who (entry ∷ entries) =
    rw (history_places who entries, acts_length (history_of entries) ∙ history_length entries) refl

-- marks that are legal for entries are legal for their history
pub history_legal : (caller : ℕ) (entries : List (Entry Step)) (mine : List (Mark Asked)) → turn.AreLegal caller entries mine → turn.AreLegal caller (acts (history_of entries)) mine
history_legal caller entries mine legal = record {
  written = history_places caller entries ∙ legal.written;
  in_order = legal.in_order;
  within = rw (acts_length (history_of entries) ∙ history_length entries) legal.within;
}
