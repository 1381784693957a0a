-- What is printed for a value without floats.
use Rattle.std.proofs.Common.{◌≡◌, ℕ, ℤ, pos, negsuc, Bool, true, false, ◌||◌, List, [], ◌∷◌, ◌++◌, Option, None, Some, option_map, rules, refl, sym, ◌∙◌, ap, append_assoc}
use Rattle.std.specs.Prelude.{decimal, ⊤}
use Rattle.std.specs.Fmt.{signed_decimal}
use Rattle.std.specs.List.{join_with_byte}
use Rattle.json.specs.Print.{quoted}
use Rattle.serde_json.specs.Data.{Data, boolean, string}
use Rattle.serde_json.specs.Written.{compact_text, members_text, has_float, members_have_float}
use Rattle.wm_base.specs.declared.geometry.Rect.{Rect}
use Rattle.wm_json.specs.Arrays.{array_text}
use Rattle.wm_json.specs.Objects.{Field, members_with, object_with, array_with, or_null, whole_number, integer, rect_data, rect_fields, texts_with, object_text, null_or, flag_text, rect_text, rect_texts}
use Rattle.wm_json.proofs.TextLemmas.{array_is, array_whole}

-- the value has no float, and this text
pub record Prints (value : Data) (t : List ℕ) : Type 0 where
  pub text : compact_text value ≡ t
  pub whole : has_float value ≡ false

abbrev pub PrintIf : Option Data → Option (List ℕ) → Type 0
PrintIf None None = ⊤
PrintIf None (Some text) = ⊥
PrintIf (Some value) None = ⊥
PrintIf (Some value) (Some text) = Prints value text

abbrev pub Print : List (Field Data) → List (Field (List ℕ)) → Type 0
Print [] [] = ⊤
Print [] (t ∷ ts) = ⊥
Print (f ∷ fs) [] = ⊥
Print (f ∷ fs) (t ∷ ts) = (f.0 ≡ t.0) × PrintIf f.1 t.1 × Print fs ts

-- ---- single values

pub prints_text : (text : List ℕ) → Prints (string text) (quoted text)
prints_text text = record { text = refl; whole = refl }

pub prints_number : (n : ℕ) → Prints (whole_number n) (decimal n)
prints_number n = record { text = refl; whole = refl }

pub prints_integer : (z : ℤ) → Prints (integer z) (signed_decimal z)
prints_integer (pos n) = record { text = refl; whole = refl }
prints_integer (negsuc n) = record { text = refl; whole = refl }

pub prints_flag : (b : Bool) → Prints (boolean b) (flag_text b)
prints_flag true = record { text = refl; whole = refl }
prints_flag false = record { text = refl; whole = refl }

module _ {A : Type 0} (value : A → Data) (text : A → List ℕ) (prints : (x : A) → Prints (value x) (text x)) where
  pub prints_if : (o : Option A) → PrintIf (option_map value o) (option_map text o)
  prints_if None = tt
  prints_if (Some x) = prints x

  pub prints_or_null : (o : Option A) → Prints (or_null value o) (null_or text o)
  prints_or_null None = record { text = refl; whole = refl }
  prints_or_null (Some x) = prints x

  pub prints_array : (xs : List A) → Prints (array_with value xs) (array_text text xs)
  prints_array xs = record { text = array_is value text (λ x. (prints x).text) xs; whole = array_whole value (λ x. (prints x).whole) xs }

-- ---- objects

-- what follows a field
abbrev closing : List (List ℕ) → List ℕ
closing [] = 125 ∷ []
closing (t ∷ ts) = 44 ∷ (join_with_byte 44 (t ∷ ts) ++ 125 ∷ [])

joined : (t : List ℕ) (ts : List (List ℕ)) → join_with_byte 44 (t ∷ ts) ++ 125 ∷ [] ≡ t ++ closing ts
joined t [] = refl
joined t (u ∷ ts) = append_assoc t (44 ∷ join_with_byte 44 (u ∷ ts)) (125 ∷ [])

one : (k l v t : List ℕ) (after : List ℕ) (ts : List (List ℕ)) → k ≡ l → v ≡ t → after ≡ closing ts
    → quoted k ++ 58 ∷ (v ++ after) ≡ join_with_byte 44 ((quoted l ++ 58 ∷ t) ∷ ts) ++ 125 ∷ []
one k l v t after ts key is later =
    ap (λ x. quoted x ++ 58 ∷ (v ++ after)) key
    ∙ ap (λ x. quoted l ++ 58 ∷ (x ++ after)) is
    ∙ ap (λ x. quoted l ++ 58 ∷ (t ++ x)) later
    ∙ sym (append_assoc (quoted l) (58 ∷ t) (closing ts))
    ∙ sym (joined (quoted l ++ 58 ∷ t) ts)

-- the fields have no float, and their texts with the closing brace
record Printed (fs : List (Field Data)) (ts : List (Field (List ℕ))) : Type 0 where
  later : members_text true (members_with fs) ≡ closing (texts_with ts)
  first : members_text false (members_with fs) ≡ join_with_byte 44 (texts_with ts) ++ 125 ∷ []
  whole : members_have_float (members_with fs) ≡ false

printed : (fs : List (Field Data)) (ts : List (Field (List ℕ))) → Print fs ts → Printed fs ts
printed [] [] h = record { later = refl; first = refl; whole = refl }
printed [] (t ∷ ts) h = absurd h
printed ((k, None) ∷ fs) [] h = absurd h
printed ((k, Some v) ∷ fs) [] h = absurd h
printed ((k, None) ∷ fs) ((l, None) ∷ ts) h = let rest = printed fs ts h.2 in record { later = rest.later; first = rest.first; whole = rest.whole }
printed ((k, None) ∷ fs) ((l, Some t) ∷ ts) h = absurd h.1
printed ((k, Some v) ∷ fs) ((l, None) ∷ ts) h = absurd h.1
printed ((k, Some v) ∷ fs) ((l, Some t) ∷ ts) h =
    let rest = printed fs ts h.2 in
    let here = one k l (compact_text v) t (members_text true (members_with fs)) (texts_with ts) h.0 h.1.text rest.later in
    record { later = ap (λ x. 44 ∷ x) here; first = here; whole = ap (λ b. b || members_have_float (members_with fs)) h.1.whole ∙ rest.whole }

-- the object of the fields is the object of their texts
pub prints_object : (fs : List (Field Data)) (ts : List (Field (List ℕ))) → Print fs ts → Prints (object_with fs) (object_text ts)
prints_object fs ts h = let all = printed fs ts h in record { text = ap (λ x. 123 ∷ x) all.first; whole = all.whole }

pub prints_rect : (r : Rect) → Prints (rect_data r) (rect_text r)
prints_rect r =
    let fields : Print (rect_fields r) (rect_texts r) = search (rules, prints_number, prints_integer) in
    prints_object (rect_fields r) (rect_texts r) fields

print_both : (fs : List (Field Data)) (ts : List (Field (List ℕ))) (gs : List (Field Data)) (us : List (Field (List ℕ))) → Print fs ts → Print gs us → Print (fs ++ gs) (ts ++ us)
print_both [] [] gs us h k = k
print_both [] (t ∷ ts) gs us h k = absurd h
print_both (f ∷ fs) [] gs us h k = absurd h
print_both (f ∷ fs) (t ∷ ts) gs us h k = (h.0, h.1, print_both fs ts gs us h.2 k)

-- `Print` by a name that shows the fields
pub record PrintsGroup (fs : List (Field Data)) (ts : List (Field (List ℕ))) : Type 0 where
  pub fields : Print fs ts

-- the fields of one group and then those of another
pub prints_both : {fs : List (Field Data)} {ts : List (Field (List ℕ))} {gs : List (Field Data)} {us : List (Field (List ℕ))} → PrintsGroup fs ts → PrintsGroup gs us → PrintsGroup (fs ++ gs) (ts ++ us)
prints_both {fs} {ts} {gs} {us} h k = record { fields = print_both fs ts gs us h.fields k.fields }
