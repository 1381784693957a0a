-- Criteria of a whole text that end before the end of its front are criteria of the front.
use Rattle.std.proofs.Common.{◌≡◌, ℕ, zero, suc, ◌≤◌, ◌⊎◌, Bool, true, false, List, [], ◌∷◌, ◌++◌, length, Option, Some, None, refl, sym, ap, subst, arith, inl, inr}
use Rattle.std.specs.Prelude.{if◌then◌else◌, ◌==◌, ◌||◌, ◌&&◌, not, option_map}
use Rattle.std.proofs.lemmas.Bool.{eqb-true}
use Rattle.wm_language.specs.declared.batch.Key.{Key}
use Rattle.wm_grammar.specs.declared.keys.KeyName.{KeyName}
use Rattle.wm_words.specs.Pieces.{◌>>=◌, is_nil, is_blank, ends_name, ends_value, starts, until, from, skip, choice, unquote}
use Rattle.wm_grammar.specs.Openings.{before_rest}
use Rattle.wm_grammar.specs.Criteria.{key_of, value_at, valued_at, key_at, place_of, has_place, ends_key, closed_keys, and_keys, keys_at, criteria_at, flag_words, name_words}
use Rattle.wm_grammar.specs.Reading.{criteria_of, criteria_part}
use Rattle.wm_words.proofs.Cuts.{Cut, Suffix, suffix_refl, suffix_length, cut_suffix, behind_other, from_suffix, skip_cut, skip_cut_kept, Ext, Outcome, quoted_length, AllSome, if_some, unquote_cut}
use Rattle.wm_grammar.proofs.CutCommands.{bind_some, map_some, each_some, some_at, Tail, ext_if, ext_unless, map_ext, behind_quote}
use Rattle.wm_grammar.proofs.CutCriteria.{inside, key_map_suffix, key_with, key_behind, key_suffix, keys_suffix, behind_bracket}

-- ---- what is read of the whole text is read of the front, or ends behind it

-- no more follows than the rest w
abbrev pub Short : {A : Type 0} → List ℕ → A × List ℕ → Type 0
Short w x = length x.1 ≤ length w

-- the front reads as the whole does, or the whole reads to behind the front
abbrev pub Loose : {A : Type 0} → List ℕ → Option (A × List ℕ) → Option (A × List ℕ) → Type 0
Loose w front all = (all ≡ Ext w front) ⊎ AllSome (Short w) all

shorter : (z x w : List ℕ) → Suffix z x → length x ≤ length w → length z ≤ length w
shorter z x w t le = omega (arith, suffix_length z x t)

loose_if : {A : Type 0} (w : List ℕ) (b : Bool) (x y s t : Option (A × List ℕ)) → (b ≡ true → Loose w x s) → (b ≡ false → Loose w y t) → Loose w (if b then x else y) (if b then s else t)
loose_if w true x y s t h k = h refl
loose_if w false x y s t h k = k refl

loose_bind : {A B : Type 0} (w : List ℕ) (front all : Option (A × List ℕ)) (g : A × List ℕ → Option (B × List ℕ)) → Loose w front all → ((x : A × List ℕ) → front ≡ Some x → Loose w (g x) (g (x.0, x.1 ++ w))) → ((x : A × List ℕ) → AllSome (Tail x.1) (g x)) → Loose w (front >>= g) (all >>= g)
loose_bind w None all g (inl e) more tails = inl (ap (λ o. o >>= g) e)
loose_bind w (Some x) all g (inl e) more tails = subst (λ o. Loose w (g x) (o >>= g)) (sym e) (more x refl)
loose_bind w front all g (inr l) more tails = inr (bind_some (Short w) (Short w) all g l (λ x le. each_some (Tail x.1) (Short w) (g x) (tails x) (λ z t. shorter z.1 x.1 w t le)))

outcome_loose : {A : Type 0} (w : List ℕ) (front all : Option (A × List ℕ)) → Outcome w front all → Loose w front all
outcome_loose w front all (inl e) = inl e
outcome_loose w front None (inr (n, l)) = elim l [ ]
outcome_loose w front (Some x) (inr (n, l)) = inr (quoted_length w x.1 l)

-- a piece ends in the front, or behind it
from_either : (p : ℕ → Bool) (s w : List ℕ) → (1 ≤ length (from p s)) ⊎ (length (from p (s ++ w)) ≤ length w)
unfolding from
from_either p [] w = inr (suffix_length (from p w) w (from_suffix p w))
from_either p (c ∷ r) w = chosen (p c) (from_either p r w)
  where
    chosen : (b : Bool) → (1 ≤ length (from p r)) ⊎ (length (from p (r ++ w)) ≤ length w) → (1 ≤ length (if b then c ∷ r else from p r)) ⊎ (length (if b then c ∷ r ++ w else from p (r ++ w)) ≤ length w)
    chosen true h = inl (omega arith)
    chosen false h = h

-- ---- one key

bare_loose : (s w : List ℕ) → Loose w (if is_nil (until ends_value s) then None else Some (until ends_value s, from ends_value s)) (if is_nil (until ends_value (s ++ w)) then None else Some (until ends_value (s ++ w), from ends_value (s ++ w)))
bare_loose s w = by (from_either ends_value s w)
  where
    by : (1 ≤ length (from ends_value s)) ⊎ (length (from ends_value (s ++ w)) ≤ length w) → Loose w (if is_nil (until ends_value s) then None else Some (until ends_value s, from ends_value s)) (if is_nil (until ends_value (s ++ w)) then None else Some (until ends_value (s ++ w), from ends_value (s ++ w)))
    by (inl long) = let i = inside ends_value s w long in inl (rw (i.piece, i.rest) (ext_unless (is_nil (until ends_value s)) (until ends_value s) (from ends_value s) w))
    by (inr k) = inr (if_some (Short w) (is_nil (until ends_value (s ++ w))) None (Some (until ends_value (s ++ w), from ends_value (s ++ w))) (λ e. tt) (λ e. k))

value_loose : (s w : List ℕ) → Cut s → Loose w (value_at s) (value_at (s ++ w))
unfolding value_at
value_loose [] w h = elim h [ ]
value_loose (c ∷ r) w h = loose_if w (c == 34) (unquote r) _ (unquote (r ++ w)) _ (λ e. outcome_loose w (unquote r) (unquote (r ++ w)) (unquote_cut r w (behind_quote c r h e))) (λ e. bare_loose (c ∷ r) w)

valued_loose : (name : KeyName) (s w : List ℕ) → Cut s → Loose w (valued_at name s) (valued_at name (s ++ w))
unfolding valued_at
valued_loose name s w h = loose_bind w (value_at s) (value_at (s ++ w)) (λ v. option_map (before_rest v.1) (key_of name v.0)) (value_loose s w h) (λ x e. inl (map_ext (key_of name x.0) x.1 w)) (λ x. key_map_suffix (key_of name x.0) x.1 x.1 (suffix_refl x.1))

name_loose : (o : Option KeyName) (v w : List ℕ) → Cut v → Loose w (o >>= λ name. valued_at name v) (o >>= λ name. valued_at name (v ++ w))
name_loose None v w h = inl refl
name_loose (Some name) v w h = valued_loose name v w h

with_loose : (name rest w : List ℕ) → Cut rest → Loose w (key_with name rest) (key_with name (rest ++ w))
with_loose name [] w h = elim h [ ]
with_loose name (c ∷ v) w h = loose_if w (c == 61) _ _ _ _ (λ e. name_loose (choice name_words name) v w (behind_other c v h (λ f. omega (arith, f, eqb-true c 61 e)))) (λ e. inl (map_ext (choice flag_words name) (c ∷ v) w))

key_loose : (s w : List ℕ) → Cut s → Loose w (key_at s) (key_at (s ++ w))
unfolding key_at
key_loose s w h = by (from_either ends_name s w)
  where
    by : (1 ≤ length (from ends_name s)) ⊎ (length (from ends_name (s ++ w)) ≤ length w) → Loose w (key_with (until ends_name s) (from ends_name s)) (key_with (until ends_name (s ++ w)) (from ends_name (s ++ w)))
    by (inl long) = let i = inside ends_name s w long in rw (i.piece, i.rest) (with_loose (until ends_name s) (from ends_name s) w (cut_suffix (from ends_name s) s h (from_suffix ends_name s) long))
    by (inr k) = inr (each_some (Tail (from ends_name (s ++ w))) (Short w) (key_with (until ends_name (s ++ w)) (from ends_name (s ++ w))) (key_behind (until ends_name (s ++ w)) (from ends_name (s ++ w))) (λ z t. shorter z.1 (from ends_name (s ++ w)) w t k))

-- ---- keys one after another

closed_loose : (seen : List Key) (t w : List ℕ) → Cut t → Loose w (closed_keys seen t) (closed_keys seen (t ++ w))
closed_loose seen [] w h = elim h [ ]
closed_loose seen (c ∷ r) w h = inl (ext_if ((c == 93) && not (is_nil seen)) seen r w)

abbrev KeysAt : Type 0
KeysAt = List Key → List ℕ → Option (List Key × List ℕ)

and_suffix : (go : KeysAt) (seen : List Key) → ((seen : List Key) (s : List ℕ) → AllSome (Tail s) (go seen s)) → (x : Key × List ℕ) → AllSome (Tail x.1) (and_keys go seen x)
and_suffix go seen tails x = if_some (Tail x.1) (ends_key x.1 && not (has_place (place_of x.0) seen)) (go (seen ++ x.0 ∷ []) x.1) None (λ f. tails (seen ++ x.0 ∷ []) x.1) (λ f. tt)

and_loose : (go : KeysAt) (seen : List Key) (t w : List ℕ) → Cut t → ((seen : List Key) (s : List ℕ) → Cut s → Loose w (go seen s) (go seen (s ++ w))) → ((seen : List Key) (s : List ℕ) → AllSome (Tail s) (go seen s)) → (x : Key × List ℕ) → Suffix x.1 t → Loose w (and_keys go seen x) (and_keys go seen (x.0, x.1 ++ w))
and_loose go seen t w h i tails (k, []) x = inr (each_some (Tail w) (Short w) (and_keys go seen (k, w)) (and_suffix go seen tails (k, w)) (λ z s. suffix_length z.1 w s))
and_loose go seen t w h i tails (k, c ∷ r) x = loose_if w ((is_blank c || (c == 93)) && not (has_place (place_of k) seen)) (go (seen ++ k ∷ []) (c ∷ r)) None (go (seen ++ k ∷ []) (c ∷ r ++ w)) None (λ e. i (seen ++ k ∷ []) (c ∷ r) (cut_suffix (c ∷ r) t h x (omega arith))) (λ e. inl refl)

bracket_loose : {A : Type 0} (t w : List ℕ) → Cut t → (x y s u : Option (A × List ℕ)) → Loose w x s → Loose w y u → Loose w (if starts 93 t then x else y) (if starts 93 (t ++ w) then s else u)
bracket_loose [] w h x y s u g k = elim h [ ]
bracket_loose (c ∷ r) w h x y s u g k = loose_if w (c == 93) x y s u (λ e. g) (λ e. k)

keys_loose : (n : ℕ) (seen : List Key) (s w : List ℕ) → Cut s → Loose w (keys_at n seen s) (keys_at n seen (s ++ w))
unfolding keys_at
keys_loose zero seen s w h = rw (skip_cut s w h) (closed_loose seen (skip s) w (skip_cut_kept s h))
keys_loose (suc n) seen s w h =
    let cut : Cut (skip s) = skip_cut_kept s h in
    rw (skip_cut s w h) (bracket_loose (skip s) w cut (closed_keys seen (skip s)) (key_at (skip s) >>= and_keys (keys_at n) seen) (closed_keys seen (skip s ++ w)) (key_at (skip s ++ w) >>= and_keys (keys_at n) seen)
    (closed_loose seen (skip s) w cut)
    (loose_bind w (key_at (skip s)) (key_at (skip s ++ w)) (and_keys (keys_at n) seen) (key_loose (skip s) w cut)
    (λ x e. and_loose (keys_at n) seen (skip s) w cut (λ seen t k. keys_loose n seen t w k) (λ seen t. keys_suffix n seen t) x (some_at (Tail (skip s)) (key_at (skip s)) x (key_suffix (skip s)) e))
    (λ x. and_suffix (keys_at n) seen (λ seen t. keys_suffix n seen t) x)))

-- ---- criteria

keys_part : (w : List ℕ) (front all : Option (List Key × List ℕ)) → Loose w front all → Loose w (option_map (λ x. (criteria_of x.0, x.1)) front) (option_map (λ x. (criteria_of x.0, x.1)) all)
keys_part w None all (inl e) = inl (ap (option_map (λ x. (criteria_of x.0, x.1))) e)
keys_part w (Some x) all (inl e) = inl (ap (option_map (λ x. (criteria_of x.0, x.1))) e)
keys_part w front all (inr l) = inr (map_some (Short w) (Short w) all (λ x. (criteria_of x.0, x.1)) l (λ x t. t))

pub criteria_loose : (s w : List ℕ) → Cut s → Loose w (criteria_part s) (criteria_part (s ++ w))
unfolding criteria_part criteria_at
criteria_loose [] w h = elim h [ ]
criteria_loose (c ∷ r) w h = loose_if w (c == 91) (option_map (λ x. (criteria_of x.0, x.1)) (keys_at 16 [] r)) (Some (None, c ∷ r)) (option_map (λ x. (criteria_of x.0, x.1)) (keys_at 16 [] (r ++ w))) (Some (None, c ∷ r ++ w))
    (λ e. keys_part w (keys_at 16 [] r) (keys_at 16 [] (r ++ w)) (keys_loose 16 [] r w (behind_bracket c r h e))) (λ e. inl refl)
