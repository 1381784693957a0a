-- Printed criteria are read again.
use Rattle.std.proofs.Common.{◌≡◌, ℕ, zero, suc, ◌≤◌, true, false, List, [], ◌∷◌, ◌++◌, length, Option, Some, None, refl, sym, ap, ◌∙◌, append_assoc, arith, codes, decimal}
use Rattle.std.specs.Prelude.{◌==◌, option_map}
use Rattle.std.proofs.lemmas.Bool.{ne_eqb}
use Rattle.std.proofs.lemmas.List.{append-nil}
use Rattle.wm_language.specs.declared.batch.Key.{Key}
use Rattle.wm_language.specs.declared.batch.Key.TheVariants as keys
use Rattle.wm_grammar.specs.declared.keys.KeyName.{KeyName}
use Rattle.wm_grammar.specs.declared.keys.KeyName.TheVariants as names
use Rattle.wm_language.specs.declared.batch.Criteria.{Criteria}
use Rattle.wm_words.specs.Pieces.{is_nil, ends_value, starts, until, from, skip, is_word, is_text, argument, unquote}
use Rattle.wm_grammar.specs.Criteria.{key_of, value_at, valued_at, key_at, place_of, has_place, closed_keys, keys_at, criteria_at}
use Rattle.wm_language.specs.Spelling.{quoted, escaped, key_text, keys_text, criteria_text}
use Rattle.wm_language.specs.Words.{IsArgument}
use Rattle.wm_grammar.specs.Readable.{IsNumber, IsReadableKey, AreNew, IsReadableCriteria}
use Rattle.wm_grammar.specs.Reading.{criteria_part}
use Rattle.wm_grammar.proofs.Loops.{keys_at_close}
use Rattle.wm_words.proofs.NumbersAgain.{NoDigit, number_clean, number_digits, natural_decimal, until_past, from_past}
use Rattle.wm_grammar.proofs.Again.{quoted_again}
use Rattle.wm_grammar.proofs.Spelled.{argument_again, is_long}

-- ---- one key

quoted_value : (s : List ℕ) → value_at (34 ∷ s) ≡ unquote s
unfolding value_at
quoted_value s = refl

valued_quoted : (name : KeyName) (x t : List ℕ) (k : Key) → key_of name x ≡ Some k → valued_at name (34 ∷ ((escaped x ++ 34 ∷ []) ++ t)) ≡ Some (k, t)
unfolding valued_at
valued_quoted name x t k e = rw (quoted_value ((escaped x ++ 34 ∷ []) ++ t), quoted_again x t, e) refl

no_value_end : NoDigit ends_value
no_value_end c low high =
    let a : (c == 32) ≡ false = ne_eqb c 32 (λ e. omega arith) in
    let b : (c == 9) ≡ false = ne_eqb c 9 (λ e. omega arith) in
    let d : (c == 93) ≡ false = ne_eqb c 93 (λ e. omega arith) in
    let f : (c == 34) ≡ false = ne_eqb c 34 (λ e. omega arith) in
    rw (a, b, d, f) refl

no_quote : (n : ℕ) (t : List ℕ) → IsNumber n → starts 34 (decimal n ++ t) ≡ false
no_quote n t lt =
    let d = number_digits n (is_long n lt) in
    ap (λ (u : List ℕ). starts 34 (u ++ t)) d.parts ∙ ne_eqb d.first 34 (λ e. omega (arith, d.low, e))

no_nil : (n : ℕ) → IsNumber n → is_nil (decimal n) ≡ false
no_nil n lt = ap is_nil (number_digits n (is_long n lt)).parts

number_value : (n : ℕ) (t : List ℕ) → IsNumber n → value_at (decimal n ++ 32 ∷ t) ≡ Some (decimal n, 32 ∷ t)
unfolding value_at
number_value n t lt =
    let clean = number_clean ends_value no_value_end n (is_long n lt) in
    rw (no_quote n (32 ∷ t) lt, until_past ends_value (decimal n) (32 ∷ t) clean refl, from_past ends_value (decimal n) (32 ∷ t) clean refl, no_nil n lt) refl

valued_number : (name : KeyName) (n : ℕ) (t : List ℕ) (k : Key) → IsNumber n → key_of name (decimal n) ≡ Some k → valued_at name (decimal n ++ 32 ∷ t) ≡ Some (k, 32 ∷ t)
unfolding valued_at
valued_number name n t k lt e = rw (number_value n t lt, e) refl

id_of : (n : ℕ) → IsNumber n → key_of names.Id (decimal n) ≡ Some (keys.Id n)
unfolding key_of
id_of n lt = ap (option_map keys.Id) (natural_decimal n lt)

other_text : (n : ℕ) → IsNumber n → is_text (decimal n) (codes "__focused__") ≡ false
unfolding is_text
other_text n lt =
    let d = number_digits n (is_long n lt) in
    let differ : (d.first == 95) ≡ false = ne_eqb d.first 95 (λ e. omega (arith, d.high, e)) in
    rw (d.parts, differ) refl

con_of : (n : ℕ) → IsNumber n → key_of names.Con (decimal n) ≡ Some (keys.Con (Some n))
unfolding key_of
con_of n lt = rw (other_text n lt, natural_decimal n lt) refl

quoted_key : (name : KeyName) (x t : List ℕ) (k : Key) → IsArgument x → (argument x ≡ Some x → key_of name x ≡ Some k) → valued_at name (quoted x ++ t) ≡ Some (k, t)
quoted_key name x t k a fits = valued_quoted name x t k (fits (argument_again x a))

focused_key : (t : List ℕ) → valued_at names.Con (codes "__focused__" ++ 32 ∷ t) ≡ Some (keys.Con None, 32 ∷ t)
unfolding valued_at value_at until from is_text key_of
focused_key t = refl

latest_key : (t : List ℕ) → valued_at names.Urgent (codes "latest" ++ 32 ∷ t) ≡ Some (keys.Urgent true, 32 ∷ t)
unfolding valued_at value_at until from is_word key_of
latest_key t = refl

oldest_key : (t : List ℕ) → valued_at names.Urgent (codes "oldest" ++ 32 ∷ t) ≡ Some (keys.Urgent false, 32 ∷ t)
unfolding valued_at value_at until from is_word key_of
oldest_key t = refl

pub key_again : (k : Key) (t : List ℕ) → IsReadableKey k → key_at (key_text k ++ 32 ∷ t) ≡ Some (k, 32 ∷ t)
unfolding key_at key_text until from is_word key_of
key_again (keys.Class x) t a = quoted_key names.Class x (32 ∷ t) (keys.Class x) a (λ h. rw h refl)
key_again (keys.Instance x) t a = quoted_key names.Instance x (32 ∷ t) (keys.Instance x) a (λ h. rw h refl)
key_again (keys.Role x) t a = quoted_key names.Role x (32 ∷ t) (keys.Role x) a (λ h. rw h refl)
key_again (keys.Kind x) t a = quoted_key names.Kind x (32 ∷ t) (keys.Kind x) a (λ h. rw h refl)
key_again (keys.Machine x) t a = quoted_key names.Machine x (32 ∷ t) (keys.Machine x) a (λ h. rw h refl)
key_again (keys.Title x) t a = quoted_key names.Title x (32 ∷ t) (keys.Title x) a (λ h. rw h refl)
key_again (keys.Mark x) t a = quoted_key names.Mark x (32 ∷ t) (keys.Mark x) a (λ h. rw h refl)
key_again (keys.Workspace x) t a = quoted_key names.Workspace x (32 ∷ t) (keys.Workspace x) a (λ h. rw h refl)
key_again (keys.Id n) t lt = valued_number names.Id n t (keys.Id n) lt (id_of n lt)
key_again (keys.Con None) t a = focused_key t
key_again (keys.Con (Some n)) t lt = valued_number names.Con n t (keys.Con (Some n)) lt (con_of n lt)
key_again (keys.Urgent true) t a = latest_key t
key_again (keys.Urgent false) t a = oldest_key t
key_again keys.Floating t a = refl
key_again keys.Tiling t a = refl
key_again keys.All t a = refl

-- ---- keys one after another

key_skip : (k : Key) (t : List ℕ) → skip (key_text k ++ t) ≡ key_text k ++ t
unfolding skip key_text
key_skip (keys.Class x) t = refl
key_skip (keys.Instance x) t = refl
key_skip (keys.Role x) t = refl
key_skip (keys.Kind x) t = refl
key_skip (keys.Machine x) t = refl
key_skip (keys.Title x) t = refl
key_skip (keys.Mark x) t = refl
key_skip (keys.Workspace x) t = refl
key_skip (keys.Id n) t = refl
key_skip (keys.Con None) t = refl
key_skip (keys.Con (Some n)) t = refl
key_skip (keys.Urgent true) t = refl
key_skip (keys.Urgent false) t = refl
key_skip keys.Floating t = refl
key_skip keys.Tiling t = refl
key_skip keys.All t = refl

key_open : (k : Key) (t : List ℕ) → starts 93 (key_text k ++ t) ≡ false
unfolding key_text
key_open (keys.Class x) t = refl
key_open (keys.Instance x) t = refl
key_open (keys.Role x) t = refl
key_open (keys.Kind x) t = refl
key_open (keys.Machine x) t = refl
key_open (keys.Title x) t = refl
key_open (keys.Mark x) t = refl
key_open (keys.Workspace x) t = refl
key_open (keys.Id n) t = refl
key_open (keys.Con None) t = refl
key_open (keys.Con (Some n)) t = refl
key_open (keys.Urgent true) t = refl
key_open (keys.Urgent false) t = refl
key_open keys.Floating t = refl
key_open keys.Tiling t = refl
key_open keys.All t = refl

keys_blank : (n : ℕ) (seen : List Key) (s : List ℕ) → keys_at n seen (32 ∷ s) ≡ keys_at n seen s
unfolding keys_at skip
keys_blank zero seen s = refl
keys_blank (suc n) seen s = refl

key_step : (n : ℕ) (seen : List Key) (k : Key) (t : List ℕ) → IsReadableKey k → has_place (place_of k) seen ≡ false → keys_at (suc n) seen (key_text k ++ 32 ∷ t) ≡ keys_at n (seen ++ k ∷ []) t
unfolding keys_at
key_step n seen k t a new = rw (key_skip k (32 ∷ t), key_open k (32 ∷ t), key_again k t a, new) (keys_blank n (seen ++ k ∷ []) t)

skip_close : (t : List ℕ) → skip (93 ∷ t) ≡ 93 ∷ t
unfolding skip
skip_close t = refl

closed_again : (seen : List Key) (t : List ℕ) → is_nil seen ≡ false → closed_keys seen (93 ∷ t) ≡ Some (seen, t)
closed_again seen t e = rw e refl

keys_done : (n : ℕ) (seen : List Key) (t : List ℕ) → is_nil seen ≡ false → keys_at n seen (93 ∷ t) ≡ Some (seen, t)
keys_done n seen t e = keys_at_close n seen (93 ∷ t) (ap (λ (u : List ℕ). starts 93 u) (skip_close t)) ∙ (ap (λ (u : List ℕ). closed_keys seen u) (skip_close t) ∙ closed_again seen t e)

keys_parts : (k : Key) (ks : List Key) (t : List ℕ) → keys_text (k ∷ ks) ++ t ≡ key_text k ++ 32 ∷ (keys_text ks ++ t)
unfolding keys_text
keys_parts k ks t = regroup (key_text k) (keys_text ks) t
  where
    regroup : (a b t : List ℕ) → ((a ++ 32 ∷ []) ++ b) ++ t ≡ a ++ 32 ∷ (b ++ t)
    regroup a b t = simp append_assoc

no_keys : (t : List ℕ) → keys_text [] ++ t ≡ t
unfolding keys_text
no_keys t = refl

pub keys_again : (ks seen : List Key) (n : ℕ) (t : List ℕ) → length ks ≤ n → AreNew seen ks → is_nil (seen ++ ks) ≡ false → keys_at n seen (keys_text ks ++ 93 ∷ t) ≡ Some (seen ++ ks, t)
keys_again [] seen n t le new some =
    let same : seen ++ [] ≡ seen = append-nil seen in
    ap (λ (u : List ℕ). keys_at n seen u) (no_keys (93 ∷ t)) ∙ (keys_done n seen t (ap is_nil (sym same) ∙ some) ∙ ap (λ (u : List Key). Some (u, t)) (sym same))
keys_again (k ∷ ks) seen zero t le new some = absurd (omega arith)
keys_again (k ∷ ks) seen (suc n) t le new some =
    let joined : (seen ++ k ∷ []) ++ ks ≡ seen ++ k ∷ ks = append_assoc seen (k ∷ []) ks in
    ap (λ (u : List ℕ). keys_at (suc n) seen u) (keys_parts k ks (93 ∷ t))
    ∙ (key_step n seen k (keys_text ks ++ 93 ∷ t) new.1 new.0
    ∙ (keys_again ks (seen ++ k ∷ []) n t (omega arith) new.2 (ap is_nil joined ∙ some) ∙ ap (λ (u : List Key). Some (u, t)) joined))

-- ---- criteria

-- what follows printed criteria
abbrev pub behind_criteria : Option Criteria → List ℕ → List ℕ
behind_criteria None t = t
behind_criteria (Some c) t = 32 ∷ t

criteria_some : (ks : List Key) (t : List ℕ) → is_nil ks ≡ false → length ks ≤ 16 → AreNew [] ks → criteria_at ((keys_text ks ++ codes "] ") ++ t) ≡ Some (ks, 32 ∷ t)
unfolding criteria_at
criteria_some ks t some few new = ap (λ (u : List ℕ). keys_at 16 [] u) (append_assoc (keys_text ks) (codes "] ") t) ∙ keys_again ks [] 16 (32 ∷ t) few new some

criteria_none : (t : List ℕ) → starts 91 t ≡ false → criteria_part t ≡ Some (None, t)
unfolding criteria_part
criteria_none t e = rw e refl

criteria_there : (c : Criteria) (t : List ℕ) → IsReadableCriteria (Some c) → criteria_part (criteria_text (Some c) ++ t) ≡ Some (Some c, 32 ∷ t)
unfolding criteria_part
criteria_there c t a = rw (criteria_some c.keys t a.0 a.1 a.2) refl

pub criteria_again : (o : Option Criteria) (t : List ℕ) → IsReadableCriteria o → starts 91 t ≡ false → criteria_part (criteria_text o ++ t) ≡ Some (o, behind_criteria o t)
criteria_again None t a e = criteria_none t e
criteria_again (Some c) t a e = criteria_there c t a
