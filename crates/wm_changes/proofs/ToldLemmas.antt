-- Words that are told one after the other.
use Rattle.std.proofs.Common.{◌≡◌, Bool, true, false, cond, List, [], ◌∷◌, ◌++◌, append_assoc, refl, ap, ◌∙◌}
use Rattle.std.specs.List.{flat_map}
use Rattle.wm_changes.specs.declared.words.Change.{Change}
use Rattle.wm_changes.specs.Changes.{told}
use Rattle.wm_changes.specs.Differences.{Word}
use Rattle.wm_json.specs.declared.views.EventBody.{EventBody}

-- a word that holds is told before those behind it
pub told_more : (event : Change → EventBody) (w : Word) (after : List Word) (so_far more all : List EventBody) → w.0 ≡ true → more ≡ so_far ++ event w.1 ∷ [] → so_far ++ told event (w ∷ after) ≡ all → more ++ told event after ≡ all
told_more event w after so_far more all holds is rest = rw (is) (append_assoc so_far (event w.1 ∷ []) (told event after) ∙ (rw (holds) at rest))

-- two words are told one after the other
pub two_told : (event : Change → EventBody) (v w : Word) (so_far : List EventBody) → so_far ++ told event (v ∷ []) ++ told event (w ∷ []) ≡ so_far ++ told event (v ∷ w ∷ [])
two_told event v w so_far = append_assoc so_far (told event (v ∷ [])) (told event (w ∷ [])) ∙ ap (λ es. so_far ++ es) (by_flag v.0)
  where
    by_flag : (b : Bool) → cond b (event v.1 ∷ []) [] ++ told event (w ∷ []) ≡ cond b (event v.1 ∷ told event (w ∷ [])) (told event (w ∷ []))
    by_flag true = refl
    by_flag false = refl

-- the line of one is told before those of the others
pub lines_more : {A : Type 0} (line : A → List EventBody) (x : A) (left next : List A) (so_far more all : List EventBody) → left ≡ x ∷ next → more ≡ so_far ++ line x → so_far ++ flat_map line left ≡ all → more ++ flat_map line next ≡ all
lines_more line x left next so_far more all is one rest = rw (one) (append_assoc so_far (line x) (flat_map line next) ∙ (rw (is) at rest))
