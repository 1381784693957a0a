-- A text that runs turn by turn reads.
use Rattle.std.proofs.Common.{◌≡◌, ℕ, zero, suc, ◌-◌, ◌<◌, ◌≤◌, Bool, true, false, List, [], ◌∷◌, ◌++◌, length, drop, get_or, Option, Some, None, refl, sym, ap, subst, ◌∙◌, arith}
use Rattle.std.specs.Prelude.{if◌then◌else◌, ◌==◌, ◌||◌, not, option_map, is_some}
use Rattle.std.proofs.lemmas.Bool.{false≢true}
use Rattle.std.proofs.lemmas.List.{length-append, length-drop}
use Rattle.std.proofs.Math.Seq.{get_or-append_seam}
use Rattle.wm_language.specs.declared.command.Command.{Command}
use Rattle.wm_language.specs.declared.batch.Criteria.{Criteria}
use Rattle.wm_language.specs.declared.batch.Group.{Group}
use Rattle.wm_words.specs.Pieces.{◌>>=◌, skip}
use Rattle.wm_grammar.specs.Openings.{command_at}
use Rattle.wm_grammar.specs.Reading.{Commands, Groups, and_commands, commands_at, criteria_part, group_of, group_at, and_groups, some_groups, groups_at, groups_of, is_whole, ends_group}
use Rattle.wm_grammar.specs.Turns.{command_turn, front_turn}
use Rattle.wm_words.proofs.Cuts.{Cut, suffix_length, skip_suffix, AllSome}
use Rattle.wm_grammar.proofs.CutCommands.{some_at, Tail, command_suffix}
use Rattle.wm_grammar.proofs.CutCriteria.{criteria_suffix}
use Rattle.wm_grammar.proofs.TurnCuts.{nothing_behind}
use Rattle.wm_grammar.proofs.Bounds.{ran, runs, Runs, Rest, not_comma}

skip_shorter : (s : List ℕ) → length (skip s) ≤ length s
skip_shorter s = suffix_length (skip s) s (skip_suffix s)

pub nothing_runs : Runs true []
unfolding skip
nothing_runs = (1, refl)

-- ---- commands

abbrev CommandsThere : ℕ → List ℕ → Type 0
CommandsThere n s = (m : Commands) × (commands_at n s ≡ Some m) × Runs true (Rest m) × (length m.1 ≤ length s)

no_turn : (j : ℕ) (s : List ℕ) → length s ≤ 0 → runs j false s ≡ true → ⊥
no_turn zero s le run = absurd (false≢true run)
no_turn (suc j) [] le run = by (command_turn (skip [])) refl run
  where
    by : (o : Option (List ℕ)) → command_turn (skip []) ≡ o → ran (runs j) o ≡ true → ⊥
    by None e run = absurd (false≢true run)
    by (Some z) e run = nothing_behind z e
no_turn (suc j) (c ∷ r) le run = absurd (omega arith)

more_there : (n j : ℕ) (s : List ℕ) (c : Command) (x : ℕ) (rest : List ℕ) → command_at (skip s) ≡ Some (c, x ∷ rest) → (b : Bool) → (x == 44) ≡ b → runs j (not b) rest ≡ true → length (x ∷ rest) ≤ length s → (runs j false rest ≡ true → CommandsThere n rest) → CommandsThere (suc n) s
unfolding commands_at
more_there n j s c x rest f true e run le i =
    let m = i run in
    let got : and_commands (commands_at n) c (x ∷ rest) ≡ Some (c ∷ m.0.0, m.0.1) = rw (e, m.1) refl in
    ((c ∷ m.0.0, m.0.1), ap (λ (o : Option (Command × List ℕ)). o >>= λ k. and_commands (commands_at n) k.0 k.1) f ∙ got, m.2, omega (arith, m.3))
more_there n j s c x rest f false e run le i =
    let got : and_commands (commands_at n) c (x ∷ rest) ≡ Some (c ∷ [], x ∷ rest) = rw e refl in
    ((c ∷ [], x ∷ rest), ap (λ (o : Option (Command × List ℕ)). o >>= λ k. and_commands (commands_at n) k.0 k.1) f ∙ got, (j, run), le)

told_there : (n j : ℕ) (s : List ℕ) (c : Command) (e : List ℕ) → command_at (skip s) ≡ Some (c, e) → ran (runs j) (Some e) ≡ true → length e ≤ length s → ((rest : List ℕ) → length rest < length s → runs j false rest ≡ true → CommandsThere n rest) → CommandsThere (suc n) s
unfolding commands_at
told_there n j s c [] f run le i = ((c ∷ [], []), ap (λ (o : Option (Command × List ℕ)). o >>= λ k. and_commands (commands_at n) k.0 k.1) f, nothing_runs, omega arith)
told_there n j s c (x ∷ rest) f run le i = more_there n j s c x rest f (x == 44) refl run le (i rest (omega arith))

command_shorter : (s : List ℕ) (x : Command × List ℕ) → command_at (skip s) ≡ Some x → length x.1 ≤ length s
command_shorter s x f = omega (arith, suffix_length x.1 (skip s) (some_at (Tail (skip s)) (command_at (skip s)) x (command_suffix (skip s)) f), skip_shorter s)

commands_there : (n j : ℕ) (s : List ℕ) → runs j false s ≡ true → length s ≤ n → CommandsThere n s
commands_there zero j s run le = absurd (no_turn j s le run)
commands_there (suc n) zero s run le = absurd (false≢true run)
commands_there (suc n) (suc j) s run le = by (command_at (skip s)) refl run (λ rest lt r. commands_there n j rest r (omega arith))
  where
    by : (o : Option (Command × List ℕ)) → command_at (skip s) ≡ o → ran (runs j) (option_map (λ (x : Command × List ℕ). x.1) o) ≡ true → ((rest : List ℕ) → length rest < length s → runs j false rest ≡ true → CommandsThere n rest) → CommandsThere (suc n) s
    by None f run i = absurd (false≢true run)
    by (Some (c, e)) f run i = told_there n j s c e f run (command_shorter s (c, e) f) i

-- ---- groups

abbrev Reading : (List ℕ → Groups) → ℕ → Type 0
Reading go n = (i : ℕ) (r : List ℕ) → runs i true r ≡ true → length r < n → is_some (go r) ≡ true

map_there : {A B : Type 0} (o : Option A) (f : A → B) → is_some o ≡ true → is_some (option_map f o) ≡ true
map_there None f h = h
map_there (Some x) f h = refl

group_there : (go : List ℕ → Groups) (n j c : ℕ) (r : List ℕ) → length (c ∷ r) ≤ n → ran (runs j) (criteria_part (c ∷ r) >>= λ k. command_turn (skip k.1)) ≡ true → Reading go n → is_some (group_at (c ∷ r) >>= and_groups go) ≡ true
unfolding group_at
group_there go n j c r le run i = by (criteria_part (c ∷ r)) refl (criteria_suffix (c ∷ r)) run
  where
    by : (o : Option (Option Criteria × List ℕ)) → criteria_part (c ∷ r) ≡ o → AllSome (Tail (c ∷ r)) o → ran (runs j) (o >>= λ k. command_turn (skip k.1)) ≡ true → is_some (group_at (c ∷ r) >>= and_groups go) ≡ true
    by None e t run = absurd (false≢true run)
    by (Some k) e t run =
        let m = commands_there (length k.1) (suc j) k.1 run (omega arith) in
        let got : group_at (c ∷ r) ≡ Some (group_of k.0 m.0) = ap (λ (o : Option (Option Criteria × List ℕ)). o >>= λ k. option_map (group_of k.0) (commands_at (length k.1) k.1)) e ∙ ap (option_map (group_of k.0)) m.1 in
        let shorter : length (drop 1 m.0.1) < n = omega (arith, length-drop 1 m.0.1, m.3, suffix_length k.1 (c ∷ r) t) in
        let there : is_some (go (drop 1 m.0.1)) ≡ true = i m.2.0 (drop 1 m.0.1) m.2.1 shorter in
        ap (λ (o : Option (Group × List ℕ)). is_some (o >>= and_groups go)) got ∙ map_there (go (drop 1 m.0.1)) (λ (gs : List Group). (group_of k.0 m.0).0 ∷ gs) there

some_there : (go : List ℕ → Groups) (n j : ℕ) (s : List ℕ) → ran (runs j) (front_turn s) ≡ true → length s ≤ n → Reading go n → is_some (some_groups go s) ≡ true
some_there go n j [] run le i = refl
some_there go n j (c ∷ r) run le i = by (c == 59) refl run
  where
    by : (b : Bool) → (c == 59) ≡ b → ran (runs j) (if b then Some (c ∷ r) else criteria_part (c ∷ r) >>= λ k. command_turn (skip k.1)) ≡ true → is_some (if b then go r else group_at (c ∷ r) >>= and_groups go) ≡ true
    by true f run = i j r (subst (λ (b : Bool). runs j (not b) r ≡ true) (not_comma c f) run) (omega arith)
    by false f run = group_there go n j c r le run i

groups_there : (n j : ℕ) (t : List ℕ) → runs j true t ≡ true → length t < n → is_some (groups_at n t) ≡ true
unfolding groups_at
groups_there zero j t run lt = absurd (omega arith)
groups_there (suc n) zero t run lt = absurd (false≢true run)
groups_there (suc n) (suc j) t run lt = some_there (groups_at n) n j (skip t) run (omega (arith, skip_shorter t)) (λ i r h l. groups_there n i r h l)

-- ---- a text that ends with ;

cut_parts : (u : List ℕ) → Cut u → (a : List ℕ) × (u ≡ a ++ 59 ∷ [])
cut_parts [] h = elim h [ ]
cut_parts (c ∷ []) h = ([], ap (λ (k : ℕ). k ∷ []) h)
cut_parts (c ∷ d ∷ r) h = let i = cut_parts (d ∷ r) h in (c ∷ i.0, ap (λ (t : List ℕ). c ∷ t) i.1)

or_second : (a b : Bool) → b ≡ true → (a || b) ≡ true
or_second true b h = refl
or_second false b h = h

last_semi : (a : List ℕ) → (get_or (a ++ 59 ∷ []) (length (a ++ 59 ∷ []) - 1) 0 == 59) ≡ true
last_semi a =
    let same : length (a ++ 59 ∷ []) - 1 ≡ length a = omega (arith, length-append a (59 ∷ [])) in
    ap (λ (k : ℕ). get_or (a ++ 59 ∷ []) k 0 == 59) same ∙ ap (λ (k : ℕ). k == 59) (get_or-append_seam a 59 [] 0)

ends_there : (u : List ℕ) → Cut u → ends_group u ≡ true
ends_there u h = let a = cut_parts u h in subst (λ (t : List ℕ). ends_group t ≡ true) (sym a.1) (or_second (0 == length (a.0 ++ 59 ∷ [])) _ (last_semi a.0))

pub whole_there : (u : List ℕ) → Cut u → Runs true u → is_whole u ≡ true
unfolding groups_of
whole_there u h run = rw (ends_there u h) (groups_there (suc (length u)) run.0 u run.1 (omega arith))
