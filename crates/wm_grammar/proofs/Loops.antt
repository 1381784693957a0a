-- One step of reading keys, commands and groups one after another.
use Rattle.std.proofs.Common.{◌≡◌, ℕ, zero, suc, ◌-◌, ◌<◌, ◌≤◌, get_or, true, false, List, [], ◌∷◌, ◌++◌, length, take, drop, Option, Some, None, refl, sym, ap, ◌∙◌, append_assoc, arith}
use Rattle.std.specs.Prelude.{option_map, ◌==◌}
use Rattle.std.proofs.lemmas.Bool.{eq-eqb, ne_eqb}
use Rattle.std.proofs.lemmas.List.{take_all}
use Rattle.wm_language.specs.declared.command.Command.{Command}
use Rattle.wm_language.specs.declared.batch.Key.{Key}
use Rattle.wm_language.specs.declared.batch.Group.{Group}
use Rattle.wm_words.specs.Pieces.{◌>>=◌, starts, skip}
use Rattle.wm_grammar.specs.Openings.{command_at}
use Rattle.wm_grammar.specs.Criteria.{keys_at, key_at, closed_keys, and_keys}
use Rattle.wm_grammar.specs.Reading.{Commands, Groups, commands_at, and_commands, before_commands, groups_at, some_groups, group_at}

-- ---- keys

pub keys_at_more : (n : ℕ) (seen : List Key) (s : List ℕ) → 0 < n → starts 93 (skip s) ≡ false → keys_at n seen s ≡ (key_at (skip s) >>= and_keys (keys_at (n - 1)) seen)
unfolding keys_at
keys_at_more zero seen s h e = absurd (omega arith)
keys_at_more (suc n) seen s h e =
    let same : n ≡ suc n - 1 = omega arith in
    rw e (ap (λ (k : ℕ). key_at (skip s) >>= and_keys (keys_at k) seen) same)

pub keys_at_close : (n : ℕ) (seen : List Key) (s : List ℕ) → starts 93 (skip s) ≡ true → keys_at n seen s ≡ closed_keys seen (skip s)
unfolding keys_at
keys_at_close zero seen s e = refl
keys_at_close (suc n) seen s e = rw e refl

pub keys_at_last : (n : ℕ) (seen : List Key) (s : List ℕ) → n ≡ 0 → keys_at n seen s ≡ closed_keys seen (skip s)
unfolding keys_at
keys_at_last zero seen s e = refl
keys_at_last (suc n) seen s e = absurd (omega arith)

pub ruleset keys_steps = (keys_at_more, keys_at_close, keys_at_last)

-- ---- commands

-- commands that were read before, and what is still read
abbrev pub with_commands : List Command → Option Commands → Option Commands
with_commands front o = option_map (λ m. (front ++ m.0, m.1)) o

pub commands_at_more : (n : ℕ) (s : List ℕ) → 0 < n → commands_at n s ≡ (command_at (skip s) >>= λ c. and_commands (commands_at (n - 1)) c.0 c.1)
unfolding commands_at
commands_at_more zero s h = absurd (omega arith)
commands_at_more (suc n) s h =
    let same : n ≡ suc n - 1 = omega arith in
    ap (λ (k : ℕ). command_at (skip s) >>= λ c. and_commands (commands_at k) c.0 c.1) same

pub with_commands_more : (front : List Command) (c : Command) (o : Option Commands) → with_commands front (option_map (before_commands c) o) ≡ with_commands (front ++ c ∷ []) o
with_commands_more front c None = refl
with_commands_more front c (Some m) = ap (λ (cs : List Command). Some (cs, m.1)) (sym (append_assoc front (c ∷ []) m.0))

pub commands_at_none : (n : ℕ) (s : List ℕ) → n ≡ 0 → commands_at n s ≡ None
unfolding commands_at
commands_at_none zero s e = refl
commands_at_none (suc n) s e = absurd (omega arith)

pub ruleset commands_steps = (commands_at_more, with_commands_more, commands_at_none)

and_commands_comma : (go : List ℕ → Option Commands) (c : Command) (s : List ℕ) → 1 ≤ length s → get_or s 0 0 ≡ 44 → and_commands go c s ≡ option_map (before_commands c) (go (take (length s - 1) (drop 1 s)))
and_commands_comma go c [] h e = absurd (omega arith)
and_commands_comma go c (x ∷ xs) h e =
    let hit : (x == 44) ≡ true = eq-eqb x 44 e in
    rw hit (ap (λ (t : List ℕ). option_map (before_commands c) (go t)) (sym (take_all (suc (length xs) - 1) xs (omega arith))))

pub commands_step : (front : List Command) (c : Command) (n : ℕ) (rest behind : List ℕ) (all : Option Commands) → 0 < n → command_at (skip rest) ≡ Some (c, behind) → 1 ≤ length behind → get_or behind 0 0 ≡ 44 → with_commands front (commands_at n rest) ≡ all → with_commands (front ++ c ∷ []) (commands_at (n - 1) (take (length behind - 1) (drop 1 behind))) ≡ all
commands_step front c n rest behind all pos got long comma kept =
    let here : commands_at n rest ≡ option_map (before_commands c) (commands_at (n - 1) (take (length behind - 1) (drop 1 behind))) = commands_at_more n rest pos ∙ (ap (λ (o : Option (Command × List ℕ)). o >>= λ x. and_commands (commands_at (n - 1)) x.0 x.1) got ∙ and_commands_comma (commands_at (n - 1)) c behind long comma) in
    sym (with_commands_more front c (commands_at (n - 1) (take (length behind - 1) (drop 1 behind)))) ∙ (ap (λ (o : Option Commands). with_commands front o) (sym here) ∙ kept)

-- ---- groups

-- groups that were read before, and what is still read
abbrev pub with_groups : List Group → Groups → Groups
with_groups front o = option_map (λ gs. front ++ gs) o

pub with_groups_more : (front : List Group) (g : Group) (o : Groups) → with_groups front (option_map (λ gs. g ∷ gs) o) ≡ with_groups (front ++ g ∷ []) o
with_groups_more front g None = refl
with_groups_more front g (Some gs) = ap (λ (all : List Group). Some all) (sym (append_assoc front (g ∷ []) gs))

groups_at_more : (n : ℕ) (s : List ℕ) → groups_at (suc n) s ≡ some_groups (groups_at n) (skip s)
unfolding groups_at
groups_at_more n s = refl

less_one : (n : ℕ) → 0 < n → n ≡ suc (n - 1)
less_one n h = omega arith

some_groups_blank : (go : List ℕ → Groups) (s : List ℕ) → 1 ≤ length s → get_or s 0 0 ≡ 59 → some_groups go s ≡ go (take (length s - 1) (drop 1 s))
some_groups_blank go [] h e = absurd (omega arith)
some_groups_blank go (x ∷ xs) h e =
    let hit : (x == 59) ≡ true = eq-eqb x 59 e in
    rw hit (ap go (sym (take_all (suc (length xs) - 1) xs (omega arith))))

some_groups_one : (go : List ℕ → Groups) (s behind : List ℕ) (g : Group) → 1 ≤ length s → (get_or s 0 0 ≡ 59 → ⊥) → group_at s ≡ Some (g, behind) → some_groups go s ≡ option_map (λ gs. g ∷ gs) (go (drop 1 behind))
some_groups_one go [] behind g h e got = absurd (omega arith)
some_groups_one go (x ∷ xs) behind g h e got =
    let miss : (x == 59) ≡ false = ne_eqb x 59 e in
    rw (miss, got) refl

pub groups_blank : (front : List Group) (n : ℕ) (rest : List ℕ) (all : Groups) → 0 < n → 1 ≤ length (skip rest) → get_or (skip rest) 0 0 ≡ 59 → with_groups front (groups_at (suc n) rest) ≡ all → with_groups front (groups_at (suc (n - 1)) (take (length (skip rest) - 1) (drop 1 (skip rest)))) ≡ all
groups_blank front n rest all pos long semi kept =
    ap (λ (k : ℕ). with_groups front (groups_at k (take (length (skip rest) - 1) (drop 1 (skip rest))))) (sym (less_one n pos))
    ∙ (ap (λ (o : Groups). with_groups front o) (sym (groups_at_more n rest ∙ some_groups_blank (groups_at n) (skip rest) long semi)) ∙ kept)

pub groups_step : (front : List Group) (g : Group) (n : ℕ) (rest behind : List ℕ) (all : Groups) → 0 < n → 1 ≤ length (skip rest) → (get_or (skip rest) 0 0 ≡ 59 → ⊥) → group_at (skip rest) ≡ Some (g, behind) → with_groups front (groups_at (suc n) rest) ≡ all → with_groups (front ++ g ∷ []) (groups_at (suc (n - 1)) (drop 1 behind)) ≡ all
groups_step front g n rest behind all pos long other got kept =
    ap (λ (k : ℕ). with_groups (front ++ g ∷ []) (groups_at k (drop 1 behind))) (sym (less_one n pos))
    ∙ (sym (with_groups_more front g (groups_at n (drop 1 behind)))
    ∙ (ap (λ (o : Groups). with_groups front o) (sym (groups_at_more n rest ∙ some_groups_one (groups_at n) (skip rest) behind g long other got)) ∙ kept))
