-- The texts of single objects.
use Rattle.std.proofs.Common.{◌≡◌, ◌∙◌, refl, ap, ℕ, false, List, [], ◌∷◌, Ok, Err, IfOk, Result}
use Rattle.json.specs.Print.{quoted}
use Rattle.serde_json.specs.Data.{Data, string}
use Rattle.serde_json.specs.Written.{compact_text, has_float}
use Rattle.wm_json.specs.Objects.{always}
use Rattle.wm_json.proofs.PrintLemmas.{Prints, prints_object, prints_text}
use Rattle.wm_talk.specs.Told.{text_object}
use Rattle.wm_talk.specs.Values.{text_data}

prints_one : (key text : List ℕ) → Prints (text_data key text) (text_object key text)
prints_one key text = prints_object (always key (string text) ∷ []) (always key (quoted text) ∷ []) (refl, prints_text text, tt)

-- the bytes of a value that is the object of one text are that object's
pub one_text_is : (key text bytes : List ℕ) (value : Data) → value ≡ text_data key text → (has_float value ≡ false → bytes ≡ compact_text value) → bytes ≡ text_object key text
one_text_is key text bytes value is written = written (ap has_float is ∙ (prints_one key text).whole) ∙ (ap compact_text is ∙ (prints_one key text).text)

pub if_ok_weaker : {A : Type 0} {E : Type 0} {P Q : A → Type 0} (r : Result A E) → IfOk r P → ((x : A) → P x → Q x) → IfOk r Q
if_ok_weaker (Ok x) p weaker = weaker x p
if_ok_weaker (Err e) p weaker = tt
