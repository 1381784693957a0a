-- The forms of a group are those of its keys.
use Rattle.std.proofs.Common.{◌≡◌, ℕ, zero, suc, Bool, true, false, List, [], ◌∷◌, ◌++◌, Option, None, Some, IsTrue, refl}
use Rattle.std.proofs.lemmas.Bool.{and_parts}
use Rattle.std.specs.Prelude.{map}
use Rattle.std.specs.List.{list_all, slice_get}
use Rattle.std.specs.Option.{option_map_or, option_to_list}
use Rattle.wm_language.specs.declared.batch.Group.{Group}
use Rattle.wm_language.specs.declared.batch.Key.{Key}
use Rattle.wm_criteria.specs.Forms.{Forms, are_plain, has_forms, verdict_forms}
use Rattle.wm_criteria.specs.declared.verdict.Verdict.{Verdict}
use Rattle.wm_criteria.specs.declared.verdict.Verdict.TheVariants.{Ready, Bad, PatternRefused}
use Rattle.wm_criteria.specs.Patterns.{key_patterns, keys_of, pattern_of, patterns_of, to_build, unless_plain}
use Rattle.wm_criteria.specs.Plain.{is_plain}
use Rattle.wm_criteria.specs.Searching.{AreFormsOf, forms_at, group_keys}

-- the forms that were built are those of the keys
pub built_forms : (ks : List Key) → AreFormsOf ks (map to_build ks)
built_forms [] = tt
built_forms (k ∷ ks) = (refl, built_forms ks)

all_append : (xs ys : List (List ℕ)) → list_all is_plain (xs ++ ys) ≡ true → (list_all is_plain xs ≡ true) × (list_all is_plain ys ≡ true)
all_append [] ys h = (refl, h)
all_append (x ∷ xs) ys h =
    let p = and_parts (is_plain x) (list_all is_plain (xs ++ ys)) h in
    let q = all_append xs ys p.1 in
    (rw (p.0, q.0) refl, q.1)

needs_none : (o : Option (List ℕ)) → list_all is_plain (option_to_list o) ≡ true → None ≡ unless_plain o
needs_none None h = refl
needs_none (Some p) h = let q = and_parts (is_plain p) true h in rw q.0 refl

-- keys with plain patterns need no forms
pub plain_forms : (ks : List Key) → list_all is_plain (key_patterns ks) ≡ true → AreFormsOf ks []
plain_forms [] h = tt
plain_forms (k ∷ ks) h =
    let p = all_append (option_to_list (pattern_of k)) (key_patterns ks) h in
    (needs_none (pattern_of k) p.0, plain_forms ks p.1)

-- the keys of group n of some
abbrev pub keys_at : List Group → ℕ → List Key
keys_at gs n = option_map_or keys_of (slice_get gs n) []

-- a group of a text with plain patterns needs no forms
pub plain_group : (gs : List Group) (n : ℕ) → are_plain gs ≡ true → AreFormsOf (keys_at gs n) []
plain_group [] n h = tt
plain_group (g ∷ gs) zero h = plain_forms (keys_of g) (all_append (key_patterns (keys_of g)) (patterns_of gs) h).0
plain_group (g ∷ gs) (suc n) h = plain_group gs n (all_append (key_patterns (keys_of g)) (patterns_of gs) h).1

pub built_group : (gs : List Group) (n : ℕ) → AreFormsOf (keys_at gs n) (forms_at (map (λ g. map to_build (keys_of g)) gs) n)
built_group [] n = tt
built_group (g ∷ gs) zero = built_forms (keys_of g)
built_group (g ∷ gs) (suc n) = built_group gs n

pub built_verdict : (v : Verdict) (fs : Forms) (n : ℕ) → fs ≡ verdict_forms v → AreFormsOf (group_keys v n) (forms_at fs n)
built_verdict (Ready b) fs n e = rw e (built_group b.groups n)
built_verdict (Bad at) fs n e = tt
built_verdict (PatternRefused k) fs n e = tt

is_true : (b : Bool) → IsTrue b → b ≡ true
is_true true h = refl
is_true false h = absurd (cc)

pub plain_verdict : (v : Verdict) (n : ℕ) → IsTrue (has_forms v None) → AreFormsOf (group_keys v n) []
plain_verdict (Ready b) n h = plain_group b.groups n (is_true (are_plain b.groups) h)
plain_verdict (Bad at) n h = tt
plain_verdict (PatternRefused k) n h = tt

pub none_built : (v : Verdict) (forms : Option Forms) (n : ℕ) → forms ≡ None → IsTrue (has_forms v forms) → AreFormsOf (group_keys v n) []
none_built v forms n e h = plain_verdict v n (rw e at h)
