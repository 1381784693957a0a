-- A built pattern is searched as what is read in its text.
use Rattle.std.proofs.Common.{◌≡◌, ℕ, ◌<◌, ◌≤◌, Bool, true, false, List, Option, None, Some, IsSomeAnd, is_some, option_map, length, get_or, sym, ap, ◌∙◌}
use Rattle.std.proofs.Math.Logic.{∥∥₁_elim}
use Rattle.std.specs.Coded.{Coded-set, coded_bool}
use Rattle.std.specs.Option.{ForSome, option_map_or}
use Rattle.regex.specs.Names.{names_of}
use Rattle.regex.specs.Patterns.{Re, SameCaptures, default_config, find_str, Reads}
use Rattle.regex.specs.Strings.{regex_pattern, regex_source}
use Rattle.regex.specs.declared.string.regex.Regex.{Regex}
use Rattle.regex.proofs.ForCallers.{is_match_alike}
use Rattle.regex_syntax.specs.Brackets.{Nested}
use Rattle.regex_syntax.specs.Grammar.{Names}
use Rattle.wm_criteria.specs.Building.{IsRead}
use Rattle.wm_criteria.specs.Searching.{form_search, regex_search}

abbrev Bytes : List ℕ → Type 0
Bytes text = (k : ℕ) → get_or text k 0 < 256

search_same : (a : Re) (text : List ℕ) → Bytes text → (o : Option (Nested Re × Names)) (limit n : ℕ) (names : Names)
    → IsSomeAnd o (λ (re, found). (re.depth ≤ limit) × SameCaptures a re.value × (names ≡ found) × (n ≤ length names))
    → is_some (find_str a text 0) ≡ option_map_or (λ x. is_some (find_str x.0.value text 0)) o false
search_same a text bytes None limit n names h = absurd h
search_same a text bytes (Some x) limit n names h = is_match_alike h.1 text bytes true 0

-- the pattern that a compiled one stands for is found where what is read in the text is
pub found_as_read : (r : Regex) (text : List ℕ) → Bytes text → IsRead r → is_some (find_str (regex_pattern r) text 0) ≡ regex_search (regex_source r) text
unfolding Reads
found_as_read r text bytes h =
    let reads : Reads default_config (regex_source r) r.pattern.program.hir (names_of r.pattern.names.items) = rw h.options at h.text in
    search_same (regex_pattern r) text bytes _ _ _ _ reads

-- what a built form finds is what is read in its text
pub form_found : (o : Option Regex) (r : Regex) (view : Option (List ℕ)) (found : Bool) (m : Re) (text : List ℕ) → Bytes text → ∥ ForSome o IsRead ∥₁ → o ≡ Some r → option_map regex_source o ≡ view
    → m ≡ regex_pattern r → found ≡ is_some (find_str m text 0) → found ≡ form_search view text
form_found o r view found m text bytes inv here seen pattern is_found =
    ∥∥₁_elim inv (Coded-set coded_bool found (form_search view text))
    (λ h. is_found ∙ ap (λ z. is_some (find_str z text 0)) pattern ∙ found_as_read r text bytes (h r here) ∙ ap (λ v. form_search v text) (ap (option_map regex_source) (sym here) ∙ seen))
