-- What a caller said, by its entries in a history.
use Rattle.std.specs.Prelude.{◌≡◌, ℕ, ◌==◌, if◌then◌else◌, List, [], ◌∷◌, ◌++◌, length, map, take, Option, None, Some}
use Rattle.wm_history.specs.Act.{Act, CommandText, KeyChoice}
use Rattle.wm_history.specs.Act as act
use Rattle.wm_core.specs.Entries.{history_of}
use Rattle.wm_history.specs.History.{History}
use Rattle.wm_history.specs.declared.step.Step.{Step}
use Rattle.wm_turn.specs.History.{places}
use Rattle.wm_turn.specs.declared.view.Entry.{Entry}

-- the text that a map brings
abbrev pub text_then : Option CommandText → List (List ℕ)
text_then None = []
text_then (Some text) = text.text ∷ []

-- the texts that a step runs, or may run
abbrev pub text_in : Act → List (List ℕ)
text_in (act.Run text) = text.text ∷ []
text_in (act.Map props buffer brought) = text_then brought
text_in (act.Key chord choices) = map (λ (choice : KeyChoice). choice.text.text) choices
text_in other = []

-- the texts that a caller's entries run, in order; the newest entry comes first
abbrev pub texts_of : ℕ → History → List (List ℕ)
texts_of who [] = []
texts_of who (entry ∷ history) = texts_of who history ++ (if entry.who == who then text_in entry.act else [])

-- The texts that a caller's entries in a history run are a prefix of what it sends, of as many texts as it has entries.
abbrev pub Said : List (List ℕ) → ℕ → List (Entry Step) → Type 0
Said sent who history = texts_of who (history_of history) ≡ take (length (places who history)) sent
