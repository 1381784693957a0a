-- A text has no more patterns than bytes.
use Rattle.std.proofs.Common.{◌≡◌, ℕ, zero, suc, ◌+◌, ◌<◌, ◌≤◌, Bool, true, false, List, [], ◌∷◌, ◌++◌, length, drop, Option, Some, None, refl, arith, length-append}
use Rattle.std.specs.Prelude.{◌==◌, ◌||◌, ◌&&◌, not, option_map, if◌then◌else◌}
use Rattle.std.specs.Option.{option_to_list}
use Rattle.wm_language.specs.declared.command.Command.{Command}
use Rattle.wm_language.specs.declared.batch.Key.{Key}
use Rattle.wm_language.specs.declared.batch.Criteria.{Criteria}
use Rattle.wm_language.specs.declared.batch.Group.{Group}
use Rattle.wm_words.specs.Pieces.{◌>>=◌, is_blank, is_nil, skip, starts}
use Rattle.wm_grammar.specs.Criteria.{and_keys, closed_keys, criteria_at, ends_key, has_place, key_at, keys_at, place_of}
use Rattle.wm_grammar.specs.Openings.{command_at}
use Rattle.wm_grammar.specs.Reading.{Commands, Groups, and_commands, and_groups, before_commands, commands_at, criteria_of, criteria_part, group_at, group_of, groups_at, groups_of, some_groups}
use Rattle.wm_words.proofs.Cuts.{AllSome, if_some, skip_suffix, suffix_length}
use Rattle.wm_grammar.proofs.CutCommands.{Tail, bind_some, each_some, map_some, some_at, command_suffix}
use Rattle.wm_grammar.proofs.CutCriteria.{key_suffix}
use Rattle.wm_criteria.specs.Patterns.{criteria_keys, key_patterns, keys_of, pattern_of, patterns_of}

-- ---- keys

-- these keys, and what follows them, are no longer than so much
abbrev Within : ℕ → List Key × List ℕ → Type 0
Within n x = length x.0 + length x.1 ≤ n

skip_short : (s : List ℕ) → length (skip s) ≤ length s
skip_short s = suffix_length (skip s) s (skip_suffix s)

drop_short : (s : List ℕ) → length (drop 1 s) ≤ length s
drop_short [] = omega arith
drop_short (c ∷ r) = omega arith

closed_within : (seen : List Key) (t : List ℕ) (n : ℕ) → length seen + length t ≤ suc n → AllSome (Within n) (closed_keys seen t)
closed_within seen [] n h = tt
closed_within seen (c ∷ r) n h = if_some (Within n) ((c == 93) && not (is_nil seen)) (Some (seen, r)) None (λ e. omega arith) (λ e. tt)

-- behind a key: as many keys as bytes at most, and one byte more
and_keys_within : (m n : ℕ) (seen : List Key) (s : List ℕ) → ((seen : List Key) (r : List ℕ) (n : ℕ) → ends_key r ≡ true → length seen + length r ≤ suc n → AllSome (Within n) (keys_at m seen r)) → length seen + length s ≤ n → AllSome (Within n) (key_at s >>= and_keys (keys_at m) seen)
and_keys_within m n seen s go h = bind_some (Tail s) (Within n) (key_at s) (and_keys (keys_at m) seen) (key_suffix s) (λ k t.
    let short : length k.1 ≤ length s = suffix_length k.1 s t in
    let more : length (seen ++ k.0 ∷ []) ≡ length seen + 1 = length-append seen (k.0 ∷ []) in
    if_some (Within n) (ends_key k.1 && not (has_place (place_of k.0) seen)) (keys_at m (seen ++ k.0 ∷ []) k.1) None
    (λ e. go (seen ++ k.0 ∷ []) k.1 n (and_first (ends_key k.1) (not (has_place (place_of k.0) seen)) e) (omega arith))
    (λ e. tt)) where
      and_first : (a b : Bool) → (a && b) ≡ true → a ≡ true
      and_first true b e = refl
      and_first false b e = e

-- a blank is skipped where a key ends and ] does not stand
blank_skipped : (s : List ℕ) → ends_key s ≡ true → starts 93 (skip s) ≡ false → length (skip s) < length s
unfolding skip
blank_skipped [] e h = absurd (cc)
blank_skipped (c ∷ r) e h = by (is_blank c) (c == 93) refl e h where
  by : (blank closes : Bool) → (c == 93) ≡ closes → (blank || closes) ≡ true → starts 93 (if◌then◌else◌ {A = List ℕ} blank (skip r) (c ∷ r)) ≡ false → length (if◌then◌else◌ {A = List ℕ} blank (skip r) (c ∷ r)) < suc (length r)
  by true closes f e h = let short : length (skip r) ≤ length r = skip_short r in omega arith
  by false closes f e h = absurd (cc)

keys_within : (m : ℕ) (seen : List Key) (s : List ℕ) (n : ℕ) → ends_key s ≡ true → length seen + length s ≤ suc n → AllSome (Within n) (keys_at m seen s)
unfolding keys_at
keys_within zero seen s n e h = let short : length (skip s) ≤ length s = skip_short s in closed_within seen (skip s) n (omega arith)
keys_within (suc m) seen s n e h =
    let short : length (skip s) ≤ length s = skip_short s in
    if_some (Within n) (starts 93 (skip s)) (closed_keys seen (skip s)) (key_at (skip s) >>= and_keys (keys_at m) seen)
    (λ f. closed_within seen (skip s) n (omega arith))
    (λ f. let shorter : length (skip s) < length s = blank_skipped s e f in and_keys_within m n seen (skip s) (λ seen r n e h. keys_within m seen r n e h) (omega arith))

first_keys_within : (m : ℕ) (s : List ℕ) → AllSome (Within (length s)) (keys_at (suc m) [] s)
unfolding keys_at
first_keys_within m s =
    let short : length (skip s) ≤ length s = skip_short s in
    if_some (Within (length s)) (starts 93 (skip s)) (closed_keys [] (skip s)) (key_at (skip s) >>= and_keys (keys_at m) [])
    (λ f. closed_within [] (skip s) (length s) (omega arith))
    (λ f. and_keys_within m (length s) [] (skip s) (λ seen r n e h. keys_within m seen r n e h) (omega arith))

-- ---- groups

abbrev PartWithin : List ℕ → Option Criteria × List ℕ → Type 0
PartWithin s x = length (criteria_keys x.0) + length x.1 ≤ length s

criteria_within : (s : List ℕ) → AllSome (PartWithin s) (criteria_part s)
unfolding criteria_part criteria_at
criteria_within s = if_some (PartWithin s) (starts 91 s) (option_map (λ x. (criteria_of x.0, x.1)) (keys_at 16 [] (drop 1 s))) (Some (None, s))
    (λ e. map_some (Within (length (drop 1 s))) (PartWithin s) (keys_at 16 [] (drop 1 s)) (λ x. (criteria_of x.0, x.1)) (first_keys_within 15 (drop 1 s)) (λ x h. let short : length (drop 1 s) ≤ length s = drop_short s in omega arith))
    (λ e. omega arith)

abbrev Shorter : {A : Type 0} → List ℕ → A × List ℕ → Type 0
Shorter s x = length x.1 ≤ length s

and_commands_within : (go : List ℕ → Option Commands) (c : Command) (u s : List ℕ) → ((t : List ℕ) → AllSome (Shorter t) (go t)) → length u ≤ length s → AllSome (Shorter s) (and_commands go c u)
and_commands_within go c [] s all h = omega arith
and_commands_within go c (x ∷ rest) s all h = if_some (Shorter s) (x == 44) (option_map (before_commands c) (go rest)) (Some (c ∷ [], x ∷ rest))
    (λ e. map_some (Shorter rest) (Shorter s) (go rest) (before_commands c) (all rest) (λ m k. omega arith))
    (λ e. h)

commands_within : (n : ℕ) (s : List ℕ) → AllSome (Shorter s) (commands_at n s)
unfolding commands_at
commands_within zero s = tt
commands_within (suc n) s = bind_some (Tail (skip s)) (Shorter s) (command_at (skip s)) (λ c. and_commands (commands_at n) c.0 c.1) (command_suffix (skip s)) (λ c t.
    let short : length c.1 ≤ length (skip s) = suffix_length c.1 (skip s) t in
    let skipped : length (skip s) ≤ length s = skip_short s in
    and_commands_within (commands_at n) c.0 c.1 s (λ u. commands_within n u) (omega arith))

abbrev GroupWithin : List ℕ → Group × List ℕ → Type 0
GroupWithin s x = length (keys_of x.0) + length x.1 ≤ length s

group_within : (s : List ℕ) → AllSome (GroupWithin s) (group_at s)
unfolding group_at
group_within s = bind_some (PartWithin s) (GroupWithin s) (criteria_part s) (λ k. option_map (group_of k.0) (commands_at (length k.1) k.1)) (criteria_within s) (λ k h.
    map_some (Shorter k.1) (GroupWithin s) (commands_at (length k.1) k.1) (group_of k.0) (commands_within (length k.1) k.1) (λ m t. omega arith))

-- ---- patterns

one_pattern : (o : Option (List ℕ)) → length (option_to_list o) ≤ 1
one_pattern None = omega arith
one_pattern (Some p) = omega arith

key_patterns_within : (ks : List Key) → length (key_patterns ks) ≤ length ks
key_patterns_within [] = omega arith
key_patterns_within (k ∷ ks) =
    let one : length (option_to_list (pattern_of k)) ≤ 1 = one_pattern (pattern_of k) in
    let more : length (key_patterns ks) ≤ length ks = key_patterns_within ks in
    omega (arith, length-append (option_to_list (pattern_of k)) (key_patterns ks))

-- the patterns of some groups are no more than so many
abbrev Few : ℕ → List Group → Type 0
Few n gs = length (patterns_of gs) ≤ n

and_groups_within : (go : List ℕ → Groups) (g : Group × List ℕ) (s : List ℕ) → ((t : List ℕ) → AllSome (Few (length t)) (go t)) → GroupWithin s g → AllSome (Few (length s)) (and_groups go g)
and_groups_within go g s all h =
    let short : length (drop 1 g.1) ≤ length g.1 = drop_short g.1 in
    let here : length (key_patterns (keys_of g.0)) ≤ length (keys_of g.0) = key_patterns_within (keys_of g.0) in
    map_some (Few (length (drop 1 g.1))) (Few (length s)) (go (drop 1 g.1)) (λ gs. g.0 ∷ gs) (all (drop 1 g.1)) (λ gs k.
    let both : length (patterns_of (g.0 ∷ gs)) ≡ length (key_patterns (keys_of g.0)) + length (patterns_of gs) = length-append (key_patterns (keys_of g.0)) (patterns_of gs) in
    omega arith)

some_groups_within : (go : List ℕ → Groups) (t s : List ℕ) → ((u : List ℕ) → AllSome (Few (length u)) (go u)) → length t ≤ length s → AllSome (Few (length s)) (some_groups go t)
some_groups_within go [] s all h = omega arith
some_groups_within go (c ∷ r) s all h = if_some (Few (length s)) (c == 59) (go r) (group_at (c ∷ r) >>= and_groups go)
    (λ e. each_some (Few (length r)) (Few (length s)) (go r) (all r) (λ gs k. omega arith))
    (λ e. bind_some (GroupWithin (c ∷ r)) (Few (length s)) (group_at (c ∷ r)) (and_groups go) (group_within (c ∷ r)) (λ g k.
    each_some (Few (length (c ∷ r))) (Few (length s)) (and_groups go g) (and_groups_within go g (c ∷ r) all k) (λ gs f. omega arith)))

groups_within : (n : ℕ) (s : List ℕ) → AllSome (Few (length s)) (groups_at n s)
unfolding groups_at
groups_within zero s = tt
groups_within (suc n) s = some_groups_within (groups_at n) (skip s) s (λ u. groups_within n u) (skip_short s)

pub patterns_within : (text : List ℕ) (gs : List Group) → groups_of text ≡ Some gs → length (patterns_of gs) ≤ length text
unfolding groups_of
patterns_within text gs e = some_at (Few (length text)) (groups_at (suc (length text)) text) gs (groups_within (suc (length text)) text) e
