-- Criteria of a text that was cut behind a ;, against those of the whole text.
use Rattle.std.proofs.Common.{◌≡◌, ℕ, zero, suc, ◌≤◌, Bool, true, false, List, [], ◌∷◌, ◌++◌, length, drop, Option, Some, None, refl, ap, arith}
use Rattle.std.specs.Prelude.{if◌then◌else◌, ◌==◌, ◌||◌, ◌&&◌, not, option_map}
use Rattle.std.proofs.lemmas.Bool.{eqb-true}
use Rattle.wm_language.specs.declared.batch.Key.{Key}
use Rattle.wm_grammar.specs.declared.keys.KeyName.{KeyName}
use Rattle.wm_words.specs.Pieces.{◌>>=◌, is_nil, is_blank, ends_name, ends_value, starts, until, from, skip, choice, unquote, with_byte}
use Rattle.wm_grammar.specs.Openings.{before_rest}
use Rattle.wm_grammar.specs.Criteria.{key_of, value_at, valued_at, key_at, place_of, has_place, ends_key, closed_keys, and_keys, keys_at, criteria_at, flag_words, name_words}
use Rattle.wm_grammar.specs.Reading.{criteria_of, criteria_part}
use Rattle.wm_words.proofs.Cuts.{Cut, Suffix, suffix_refl, suffix_cons, suffix_trans, cut_suffix, behind_other, cut_long, from_suffix, skip_cut, skip_cut_kept, skip_suffix, AllSome, if_some}
use Rattle.wm_grammar.proofs.CutCommands.{bind_some, map_some, each_some, any_some, Tail, unquote_suffix}

-- ---- what is read of the front is read of the whole text

-- the whole text gives the same, with the rest behind it
abbrev pub Grows : {A : Type 0} → List ℕ → Option (A × List ℕ) → Option (A × List ℕ) → Type 0
Grows w None all = Unit {0}
Grows w (Some x) all = all ≡ Some (x.0, x.1 ++ w)

-- the same, where something of the front follows what was read
abbrev pub GrowsLong : {A : Type 0} → List ℕ → Option (A × List ℕ) → Option (A × List ℕ) → Type 0
GrowsLong w None all = Unit {0}
GrowsLong w (Some x) all = 1 ≤ length x.1 → all ≡ Some (x.0, x.1 ++ w)

grows_long : {A : Type 0} (w : List ℕ) (front all : Option (A × List ℕ)) → Grows w front all → GrowsLong w front all
grows_long w None all g = tt
grows_long w (Some x) all g = λ long. g

grows_if : {A : Type 0} (w : List ℕ) (b : Bool) (x y s t : Option (A × List ℕ)) → (b ≡ true → Grows w x s) → (b ≡ false → Grows w y t) → Grows w (if b then x else y) (if b then s else t)
grows_if w true x y s t h k = h refl
grows_if w false x y s t h k = k refl

long_if : {A : Type 0} (w : List ℕ) (b : Bool) (x y s t : Option (A × List ℕ)) → GrowsLong w x s → GrowsLong w y t → GrowsLong w (if b then x else y) (if b then s else t)
long_if w true x y s t h k = h
long_if w false x y s t h k = k

grows_byte : (w : List ℕ) (c : ℕ) (front all : Option (List ℕ × List ℕ)) → Grows w front all → Grows w (with_byte c front) (with_byte c all)
grows_byte w c None all g = tt
grows_byte w c (Some x) all g = ap (with_byte c) g

close_first : (c : ℕ) (w : List ℕ) → (c == 34) ≡ true → unquote (c ∷ w) ≡ Some ([], w)
unfolding unquote
close_first c [] e = rw e refl
close_first c (d ∷ r) e = rw e refl

alone_grows : (b : Bool) (c : ℕ) (w : List ℕ) → (c == 34) ≡ b → Grows w (if b then Some ([], []) else None) (unquote (c ∷ w))
alone_grows true c w e = close_first c w e
alone_grows false c w e = tt

unquote_grows : (y w : List ℕ) → Grows w (unquote y) (unquote (y ++ w))
unfolding unquote
unquote_grows [] w = tt
unquote_grows (c ∷ []) w = alone_grows (c == 34) c w refl
unquote_grows (c ∷ d ∷ r) w = grows_if w (c == 34) (Some ([], d ∷ r)) _ (Some ([], d ∷ r ++ w)) _ (λ e. refl) (λ e.
    grows_if w ((c == 92) && ((d == 34) || (d == 92))) (with_byte d (unquote r)) (with_byte c (unquote (d ∷ r))) (with_byte d (unquote (r ++ w))) (with_byte c (unquote (d ∷ r ++ w)))
    (λ f. grows_byte w d (unquote r) (unquote (r ++ w)) (unquote_grows r w))
    (λ f. grows_byte w c (unquote (d ∷ r)) (unquote (d ∷ r ++ w)) (unquote_grows (d ∷ r) w)))

-- ---- a piece that ends inside the front

-- the piece and what follows it are the same
pub record Inside (p : ℕ → Bool) (u w : List ℕ) : Type 0 where
  pub piece : until p (u ++ w) ≡ until p u
  pub rest : from p (u ++ w) ≡ from p u ++ w

inside_chosen : (p : ℕ → Bool) (b : Bool) (c : ℕ) (r w : List ℕ) → p c ≡ b → 1 ≤ length (if b then c ∷ r else from p r) → (1 ≤ length (from p r) → Inside p r w) → Inside p (c ∷ r) w
unfolding until from
inside_chosen p true c r w e h i = record { piece = rw e refl; rest = rw e refl }
inside_chosen p false c r w e h i = record { piece = rw e (ap (λ (t : List ℕ). c ∷ t) (i h).piece); rest = rw e (i h).rest }

pub inside : (p : ℕ → Bool) (u w : List ℕ) → 1 ≤ length (from p u) → Inside p u w
unfolding from
inside p [] w h = absurd (omega arith)
inside p (c ∷ r) w h = inside_chosen p (p c) c r w refl h (λ k. inside p r w k)

-- ---- one key

bare_chosen : (b : Bool) (s w : List ℕ) → is_nil (until ends_value s) ≡ b → GrowsLong w (if b then None else Some (until ends_value s, from ends_value s)) (if is_nil (until ends_value (s ++ w)) then None else Some (until ends_value (s ++ w), from ends_value (s ++ w)))
bare_chosen true s w e = tt
bare_chosen false s w e = λ long. let i = inside ends_value s w long in rw (i.piece, i.rest, e) refl

value_grows : (s w : List ℕ) → GrowsLong w (value_at s) (value_at (s ++ w))
unfolding value_at until
value_grows [] w = tt
value_grows (c ∷ r) w = long_if w (c == 34) (unquote r) _ (unquote (r ++ w)) _ (grows_long w (unquote r) (unquote (r ++ w)) (unquote_grows r w)) (bare_chosen (is_nil (until ends_value (c ∷ r))) (c ∷ r) w refl)

map_grows : {A : Type 0} (w : List ℕ) (o : Option A) (r : List ℕ) → GrowsLong w (option_map (before_rest r) o) (option_map (before_rest (r ++ w)) o)
map_grows w None r = tt
map_grows w (Some k) r = λ long. refl

short_map : {A : Type 0} (w : List ℕ) (o : Option A) (all : Option (A × List ℕ)) → GrowsLong w (option_map (before_rest []) o) all
short_map w None all = tt
short_map w (Some k) all = λ long. absurd (omega arith)

value_then : (w : List ℕ) (name : KeyName) (front all : Option (List ℕ × List ℕ)) → GrowsLong w front all → GrowsLong w (front >>= λ v. option_map (before_rest v.1) (key_of name v.0)) (all >>= λ v. option_map (before_rest v.1) (key_of name v.0))
value_then w name None all g = tt
value_then w name (Some v) all g = by (key_of name v.0) refl
  where
    by : (o : Option Key) → key_of name v.0 ≡ o → GrowsLong w (option_map (before_rest v.1) o) (all >>= λ v. option_map (before_rest v.1) (key_of name v.0))
    by None e = tt
    by (Some k) e = λ long. rw (g long, e) refl

valued_grows : (name : KeyName) (s w : List ℕ) → GrowsLong w (valued_at name s) (valued_at name (s ++ w))
unfolding valued_at
valued_grows name s w = value_then w name (value_at s) (value_at (s ++ w)) (value_grows s w)

name_then : (o : Option KeyName) (v w : List ℕ) → GrowsLong w (o >>= λ name. valued_at name v) (o >>= λ name. valued_at name (v ++ w))
name_then None v w = tt
name_then (Some name) v w = valued_grows name v w

-- what key_at does with a name and what follows it
abbrev pub key_with : List ℕ → List ℕ → Option (Key × List ℕ)
key_with name rest = if starts 61 rest then choice name_words name >>= (λ n. valued_at n (drop 1 rest)) else option_map (before_rest rest) (choice flag_words name)

with_grows : (name rest w : List ℕ) → 1 ≤ length rest → GrowsLong w (key_with name rest) (key_with name (rest ++ w))
with_grows name [] w h = absurd (omega arith)
with_grows name (c ∷ v) w h = long_if w (c == 61) _ _ _ _ (name_then (choice name_words name) v w) (map_grows w (choice flag_words name) (c ∷ v))

key_chosen : (s w rest : List ℕ) → from ends_name s ≡ rest → GrowsLong w (key_with (until ends_name s) rest) (key_with (until ends_name (s ++ w)) (from ends_name (s ++ w)))
key_chosen s w [] e = short_map w (choice flag_words (until ends_name s)) (key_with (until ends_name (s ++ w)) (from ends_name (s ++ w)))
key_chosen s w (c ∷ v) e =
    let long : 1 ≤ length (from ends_name s) = rw e (omega arith) in
    let i = inside ends_name s w long in
    rw (i.piece, i.rest, e) (with_grows (until ends_name s) (c ∷ v) w (omega arith))

key_grows : (s w : List ℕ) → GrowsLong w (key_at s) (key_at (s ++ w))
unfolding key_at
key_grows s w = key_chosen s w (from ends_name s) refl

-- ---- what follows a key

value_suffix : (s : List ℕ) → AllSome (Tail s) (value_at s)
unfolding value_at
value_suffix [] = if_some (Tail []) (is_nil (until ends_value [])) None (Some (until ends_value [], from ends_value [])) (λ e. tt) (λ e. from_suffix ends_value [])
value_suffix (c ∷ r) = if_some (Tail (c ∷ r)) (c == 34) (unquote r) (if is_nil (until ends_value (c ∷ r)) then None else Some (until ends_value (c ∷ r), from ends_value (c ∷ r)))
    (λ e. each_some (Tail r) (Tail (c ∷ r)) (unquote r) (unquote_suffix r) (λ x k. suffix_cons c x.1 r k))
    (λ e. if_some (Tail (c ∷ r)) (is_nil (until ends_value (c ∷ r))) None (Some (until ends_value (c ∷ r), from ends_value (c ∷ r))) (λ f. tt) (λ f. from_suffix ends_value (c ∷ r)))

pub key_map_suffix : (o : Option Key) (r s : List ℕ) → Suffix r s → AllSome (Tail s) (option_map (before_rest r) o)
key_map_suffix None r s h = tt
key_map_suffix (Some k) r s h = h

valued_suffix : (name : KeyName) (s : List ℕ) → AllSome (Tail s) (valued_at name s)
unfolding valued_at
valued_suffix name s = bind_some (Tail s) (Tail s) (value_at s) (λ v. option_map (before_rest v.1) (key_of name v.0)) (value_suffix s) (λ v k. key_map_suffix (key_of name v.0) v.1 s k)

behind_suffix : (r s : List ℕ) → Suffix r s → Suffix (drop 1 r) s
behind_suffix [] s h = h
behind_suffix (c ∷ r) s h = suffix_trans r (c ∷ r) s (suffix_cons c r r (suffix_refl r)) h

pub key_behind : (name rest : List ℕ) → AllSome (Tail rest) (key_with name rest)
key_behind name rest = if_some (Tail rest) (starts 61 rest) _ _
    (λ e. bind_some (λ (n : KeyName). Unit {0}) (Tail rest) (choice name_words name) (λ n. valued_at n (drop 1 rest)) (any_some (choice name_words name)) (λ n u. each_some (Tail (drop 1 rest)) (Tail rest) (valued_at n (drop 1 rest)) (valued_suffix n (drop 1 rest)) (λ z t. suffix_trans z.1 (drop 1 rest) rest t (behind_suffix rest rest (suffix_refl rest)))))
    (λ e. key_map_suffix (choice flag_words name) rest rest (suffix_refl rest))

pub key_suffix : (s : List ℕ) → AllSome (Tail s) (key_at s)
unfolding key_at
key_suffix s = each_some (Tail (from ends_name s)) (Tail s) (key_at s) (key_behind (until ends_name s) (from ends_name s)) (λ z t. suffix_trans z.1 (from ends_name s) s t (from_suffix ends_name s))

-- ---- keys one after another

closed_grows : (seen : List Key) (t w : List ℕ) → 1 ≤ length t → Grows w (closed_keys seen t) (closed_keys seen (t ++ w))
closed_grows seen [] w h = absurd (omega arith)
closed_grows seen (c ∷ r) w h = grows_if w ((c == 93) && not (is_nil seen)) (Some (seen, r)) None (Some (seen, r ++ w)) None (λ e. refl) (λ e. tt)

closed_keys_suffix : (seen : List Key) (t : List ℕ) → AllSome (Tail t) (closed_keys seen t)
closed_keys_suffix seen t = if_some (Tail t) (starts 93 t && not (is_nil seen)) (Some (seen, drop 1 t)) None (λ e. behind_suffix t t (suffix_refl t)) (λ e. tt)

abbrev KeysAt : Type 0
KeysAt = List Key → List ℕ → Option (List Key × List ℕ)

and_grows : (go : KeysAt) (seen : List Key) (t w : List ℕ) → Cut t → ((seen : List Key) (s : List ℕ) → Cut s → Grows w (go seen s) (go seen (s ++ w))) → (front all : Option (Key × List ℕ)) → AllSome (Tail t) front → GrowsLong w front all → Grows w (front >>= and_keys go seen) (all >>= and_keys go seen)
and_grows go seen t w h i None all tails g = tt
and_grows go seen t w h i (Some (k, [])) all tails g = tt
and_grows go seen t w h i (Some (k, c ∷ r)) all tails g =
    let long : 1 ≤ length (c ∷ r) = omega arith in
    let cut : Cut (c ∷ r) = cut_suffix (c ∷ r) t h tails long in
    rw (g long) (grows_if w ((is_blank c || (c == 93)) && not (has_place (place_of k) seen)) (go (seen ++ k ∷ []) (c ∷ r)) None (go (seen ++ k ∷ []) (c ∷ r ++ w)) None (λ e. i (seen ++ k ∷ []) (c ∷ r) cut) (λ e. tt))

bracket_chosen : {A : Type 0} (t w : List ℕ) → Cut t → (x y s u : Option (A × List ℕ)) → Grows w x s → Grows w y u → Grows w (if starts 93 t then x else y) (if starts 93 (t ++ w) then s else u)
bracket_chosen [] w h x y s u g k = elim h [ ]
bracket_chosen (c ∷ r) w h x y s u g k = grows_if w (c == 93) x y s u (λ e. g) (λ e. k)

keys_grow : (n : ℕ) (seen : List Key) (s w : List ℕ) → Cut s → Grows w (keys_at n seen s) (keys_at n seen (s ++ w))
unfolding keys_at
keys_grow zero seen s w h = rw (skip_cut s w h) (closed_grows seen (skip s) w (cut_long (skip s) (skip_cut_kept s h)))
keys_grow (suc n) seen s w h =
    let cut : Cut (skip s) = skip_cut_kept s h in
    rw (skip_cut s w h) (bracket_chosen (skip s) w cut (closed_keys seen (skip s)) (key_at (skip s) >>= and_keys (keys_at n) seen) (closed_keys seen (skip s ++ w)) (key_at (skip s ++ w) >>= and_keys (keys_at n) seen)
    (closed_grows seen (skip s) w (cut_long (skip s) cut))
    (and_grows (keys_at n) seen (skip s) w cut (λ seen s k. keys_grow n seen s w k) (key_at (skip s)) (key_at (skip s ++ w)) (key_suffix (skip s)) (key_grows (skip s) w)))

pub keys_suffix : (n : ℕ) (seen : List Key) (s : List ℕ) → AllSome (Tail s) (keys_at n seen s)
unfolding keys_at
keys_suffix zero seen s = each_some (Tail (skip s)) (Tail s) (closed_keys seen (skip s)) (closed_keys_suffix seen (skip s)) (λ z t. suffix_trans z.1 (skip s) s t (skip_suffix s))
keys_suffix (suc n) seen s = if_some (Tail s) (starts 93 (skip s)) (closed_keys seen (skip s)) (key_at (skip s) >>= and_keys (keys_at n) seen)
    (λ e. each_some (Tail (skip s)) (Tail s) (closed_keys seen (skip s)) (closed_keys_suffix seen (skip s)) (λ z t. suffix_trans z.1 (skip s) s t (skip_suffix s)))
    (λ e. bind_some (Tail (skip s)) (Tail s) (key_at (skip s)) (and_keys (keys_at n) seen) (key_suffix (skip s)) (λ k t.
    if_some (Tail s) (ends_key k.1 && not (has_place (place_of k.0) seen)) (keys_at n (seen ++ k.0 ∷ []) k.1) None
    (λ f. each_some (Tail k.1) (Tail s) (keys_at n (seen ++ k.0 ∷ []) k.1) (keys_suffix n (seen ++ k.0 ∷ []) k.1) (λ z j. suffix_trans z.1 k.1 s j (suffix_trans k.1 (skip s) s t (skip_suffix s))))
    (λ f. tt)))

-- ---- criteria

keys_part : (w : List ℕ) (front all : Option (List Key × List ℕ)) → Grows w front all → Grows w (option_map (λ x. (criteria_of x.0, x.1)) front) (option_map (λ x. (criteria_of x.0, x.1)) all)
keys_part w None all g = tt
keys_part w (Some x) all g = ap (option_map (λ x. (criteria_of x.0, x.1))) g

-- behind the opening bracket
pub behind_bracket : (c : ℕ) (r : List ℕ) → Cut (c ∷ r) → (c == 91) ≡ true → Cut r
behind_bracket c r h e = behind_other c r h (λ f. omega (arith, f, eqb-true c 91 e))

pub criteria_grow : (s w : List ℕ) → Cut s → Grows w (criteria_part s) (criteria_part (s ++ w))
unfolding criteria_part criteria_at
criteria_grow [] w h = elim h [ ]
criteria_grow (c ∷ r) w h = grows_if w (c == 91) (option_map (λ x. (criteria_of x.0, x.1)) (keys_at 16 [] r)) (Some (None, c ∷ r)) (option_map (λ x. (criteria_of x.0, x.1)) (keys_at 16 [] (r ++ w))) (Some (None, c ∷ r ++ w))
    (λ e. keys_part w (keys_at 16 [] r) (keys_at 16 [] (r ++ w)) (keys_grow 16 [] r w (behind_bracket c r h e))) (λ e. refl)

pub criteria_suffix : (s : List ℕ) → AllSome (Tail s) (criteria_part s)
unfolding criteria_part criteria_at
criteria_suffix s = if_some (Tail s) (starts 91 s) (option_map (λ x. (criteria_of x.0, x.1)) (keys_at 16 [] (drop 1 s))) (Some (None, s))
    (λ e. map_some (Tail (drop 1 s)) (Tail s) (keys_at 16 [] (drop 1 s)) (λ x. (criteria_of x.0, x.1)) (keys_suffix 16 [] (drop 1 s)) (λ x t. suffix_trans x.1 (drop 1 s) s t (behind_suffix s s (suffix_refl s))))
    (λ e. suffix_refl s)
