-- What a writer was sent, one thing after another.
use Rattle.std.proofs.Common.{◌≡◌, None, Some, List, [], ◌∷◌, ◌++◌, ℕ, ◌<◌, ◌≤◌, ◌+◌, length, map, take, get_or, refl, sym, ap, ◌∙◌, append_assoc}
use Rattle.std.proofs.lemmas.List.{append-nil, take_all, take_more, map-append}
use Rattle.json.specs.Token.{Token, begin_array, begin_object, end_array, end_object}
use Rattle.json.specs.Print.{print}
use Rattle.json.specs.Written.{Written}
use Rattle.json.specs.Tree.{items_tokens, members_tokens}
use Rattle.serde_json.specs.Data.{Data, array, string}
use Rattle.serde_json.specs.View.{items_of}
use Rattle.serde_json.specs.Written.{compact_text, items_outline, members_outline}
use Rattle.serde_json.proofs.Texts.{print-outline}
use Rattle.wm_json.specs.Objects.{Field, members_with, object_with}
use Rattle.wm_written.specs.Sent.{Sends, sent, sent_all, sent_fields, sent_if}

-- nothing was sent
pub sends_nothing : (a : Written) → Sends a a []
sends_nothing a = record { tokens = sym (append-nil a.tokens); before = refl }

-- the one and then the other
pub sends_then : {a b c : Written} {xs ys : List Token} → Sends a b xs → Sends b c ys → Sends a c (xs ++ ys)
sends_then {a = a} {xs = xs} {ys = ys} first second =
    record { tokens = second.tokens ∙ ap (λ s. s ++ ys) first.tokens ∙ append_assoc a.tokens xs ys; before = second.before ∙ first.before }

-- with nothing behind
pub sends_last : {a b : Written} {xs : List Token} → Sends a b xs → Sends a b (xs ++ [])
sends_last {a = a} {xs = xs} first = record { tokens = first.tokens ∙ ap (λ s. a.tokens ++ s) (sym (append-nil xs)); before = first.before }

-- other tokens that are the same
pub sends_is : {a b : Written} {xs ys : List Token} → Sends a b xs → xs ≡ ys → Sends a b ys
sends_is {a = a} first same = record { tokens = first.tokens ∙ ap (λ s. a.tokens ++ s) same; before = first.before }

-- the same text by another name
pub text_is : {a b : Written} {name t u : List ℕ} → Sends a b (sent_if name (Some (string t))) → t ≡ u → Sends a b (sent_if name (Some (string u)))
text_is {name = name} first same = sends_is first (ap (λ s. sent_if name (Some (string s))) same)

-- the tokens of two lists of fields
pub fields_joined : (fs gs : List (Field Data)) → sent_fields (fs ++ gs) ≡ sent_fields fs ++ sent_fields gs
fields_joined [] gs = refl
fields_joined (f ∷ fs) gs =
    ap (λ s. sent_if f.0 f.1 ++ s) (fields_joined fs gs) ∙ sym (append_assoc (sent_if f.0 f.1) (sent_fields fs) (sent_fields gs))

-- the tokens of an array
items_are : (ds : List Data) → items_tokens (items_outline (items_of ds)) ≡ sent_all ds ++ end_array ∷ []
items_are [] = refl
items_are (d ∷ ds) = ap (λ s. sent d ++ s) (items_are ds) ∙ sym (append_assoc (sent d) (sent_all ds) (end_array ∷ []))

pub array_is : (ds : List Data) → sent (array (items_of ds)) ≡ begin_array ∷ (sent_all ds ++ end_array ∷ [])
array_is ds = ap (λ s. begin_array ∷ s) (items_are ds)

-- the tokens of an object
members_are : (fs : List (Field Data)) → members_tokens (members_outline (members_with fs)) ≡ sent_fields fs ++ end_object ∷ []
members_are [] = refl
members_are ((name, None) ∷ fs) = members_are fs
members_are ((name, Some d) ∷ fs) =
    ap (λ s. Token.key name ∷ (sent d ++ s)) (members_are fs) ∙ ap (λ s. Token.key name ∷ s) (sym (append_assoc (sent d) (sent_fields fs) (end_object ∷ [])))

pub object_is : (fs : List (Field Data)) → sent (object_with fs) ≡ begin_object ∷ (sent_fields fs ++ end_object ∷ [])
object_is fs = ap (λ s. begin_object ∷ s) (members_are fs)

-- one value more
all_joined : (ds : List Data) (d : Data) → sent_all (ds ++ d ∷ []) ≡ sent_all ds ++ sent d
all_joined [] d = append-nil (sent d)
all_joined (e ∷ ds) d = ap (λ s. sent e ++ s) (all_joined ds d) ∙ sym (append_assoc (sent e) (sent_all ds) (sent d))

module _ {A : Type 0} (value : A → Data) where
  pub taken_more : (xs : List A) (i : ℕ) (x : A) → i < length xs → sent_all (map value (take (i + 1) xs)) ≡ sent_all (map value (take i xs)) ++ sent (value (get_or xs i x))
  taken_more xs i x below =
      ap (λ ys. sent_all (map value ys)) (take_more xs i x below)
      ∙ ap sent_all (map-append value (take i xs) (get_or xs i x ∷ []))
      ∙ all_joined (map value (take i xs)) (value (get_or xs i x))

  -- what was sent for all of them, in brackets
  pub array_sent : (xs : List A) (i : ℕ) → length xs ≤ i → begin_array ∷ (sent_all (map value (take i xs)) ++ end_array ∷ []) ≡ sent (array (items_of (map value xs)))
  array_sent xs i above =
      ap (λ ys. begin_array ∷ (sent_all (map value ys) ++ end_array ∷ [])) (take_all i xs above) ∙ sym (array_is (map value xs))

-- the tokens of an object whose fields stand in two lists
pub object_of_two : (fs gs : List (Field Data)) → begin_object ∷ (sent_fields fs ++ (sent_fields gs ++ end_object ∷ [])) ≡ sent (object_with (fs ++ gs))
object_of_two fs gs =
    ap (λ s. begin_object ∷ s) (sym (append_assoc (sent_fields fs) (sent_fields gs) (end_object ∷ [])) ∙ ap (λ s. s ++ end_object ∷ []) (sym (fields_joined fs gs)))
    ∙ sym (object_is (fs ++ gs))

-- what a writer gives that had nothing and was sent a value
pub written_is : {old new : Written} {bytes : List ℕ} (value : Data) → old.before ≡ [] → old.tokens ≡ [] → Sends old new (sent value) → bytes ≡ new.before ++ print new.tokens → bytes ≡ compact_text value
written_is {new = new} value before tokens sends bytes =
    bytes ∙ ap (λ s. s ++ print new.tokens) (sends.before ∙ before)
    ∙ ap print (sends.tokens ∙ ap (λ s. s ++ sent value) tokens)
    ∙ print-outline value
