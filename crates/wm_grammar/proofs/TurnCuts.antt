-- The turns of reading a text: up to the end of each command, or over a blank group.
use Rattle.std.proofs.Common.{◌≡◌, ℕ, ◌⊎◌, Bool, true, false, List, [], ◌∷◌, ◌++◌, Option, Some, None, refl, sym, ap, subst, ◌∙◌, arith, inl, inr}
use Rattle.std.specs.Prelude.{if◌then◌else◌, ◌==◌, option_map}
use Rattle.wm_language.specs.declared.command.Command.{Command}
use Rattle.wm_language.specs.declared.batch.Criteria.{Criteria}
use Rattle.wm_words.specs.Pieces.{◌>>=◌, until, from, skip}
use Rattle.wm_words.specs.Forms.{verb_of}
use Rattle.wm_words.specs.Pieces.{is_word}
use Rattle.wm_grammar.specs.Openings.{command_at}
use Rattle.wm_grammar.specs.Reading.{criteria_of, criteria_part}
use Rattle.wm_grammar.specs.Criteria.{criteria_at}
use Rattle.std.proofs.lemmas.Bool.{eqb-true, false≢true}
use Rattle.wm_words.proofs.Cuts.{Cut, Suffix, suffix_refl, suffix_trans, cut_suffix, skip_cut, skip_cut_kept, skip_suffix, Quoted, AllSome, if_some}
use Rattle.wm_grammar.proofs.CutCommands.{bind_some, map_some, each_some, some_at, Tail, Weak, Kept, command_weak, command_suffix, command_kept}
use Rattle.wm_grammar.proofs.CutCriteria.{Grows, criteria_grow, criteria_suffix}
use Rattle.wm_grammar.specs.Turns.{command_turn, front_turn, turn_at, past_criteria, command_part}

abbrev pub Told : Command × List ℕ → List ℕ
Told x = x.1

-- ---- where a turn stops

pub command_turn_suffix : (s : List ℕ) → AllSome (λ e. Suffix e s) (command_turn s)
command_turn_suffix s = map_some (Tail s) (λ e. Suffix e s) (command_at s) (λ x. x.1) (command_suffix s) (λ x t. t)

front_turn_suffix : (s : List ℕ) → AllSome (λ e. Suffix e s) (front_turn s)
front_turn_suffix [] = suffix_refl []
front_turn_suffix (c ∷ r) = if_some (λ e. Suffix e (c ∷ r)) (c == 59) (Some (c ∷ r)) _ (λ e. suffix_refl (c ∷ r))
    (λ e. bind_some (Tail (c ∷ r)) (λ e. Suffix e (c ∷ r)) (criteria_part (c ∷ r)) (λ k. command_turn (skip k.1)) (criteria_suffix (c ∷ r)) (λ k t. each_some (λ e. Suffix e (skip k.1)) (λ e. Suffix e (c ∷ r)) (command_turn (skip k.1)) (command_turn_suffix (skip k.1)) (λ z j. suffix_trans z (skip k.1) (c ∷ r) j (suffix_trans (skip k.1) k.1 (c ∷ r) (skip_suffix k.1) t))))

pub turn_suffix : (fresh : Bool) (s : List ℕ) → AllSome (λ e. Suffix e s) (turn_at fresh s)
turn_suffix true s = each_some (λ e. Suffix e (skip s)) (λ e. Suffix e s) (front_turn (skip s)) (front_turn_suffix (skip s)) (λ z j. suffix_trans z (skip s) s j (skip_suffix s))
turn_suffix false s = each_some (λ e. Suffix e (skip s)) (λ e. Suffix e s) (command_turn (skip s)) (command_turn_suffix (skip s)) (λ z j. suffix_trans z (skip s) s j (skip_suffix s))

-- ---- a turn of a text that was cut behind a ;

-- the whole text stops there too; or behind a quote of the rest
abbrev pub Turned : List ℕ → Option (List ℕ) → List ℕ → Type 0
Turned w all e = (all ≡ Some (e ++ w)) ⊎ ((r : List ℕ) × (all ≡ Some r) × Quoted w r)

weak_turn : (w : List ℕ) (front all : Option (Command × List ℕ)) (e : List ℕ) → Weak w front all → option_map Told front ≡ Some e → Turned w (option_map Told all) e
weak_turn w None all e k h = absurd cc
weak_turn w (Some x) all e (inl f) h = let same : x.1 ≡ e = cc in inl (ap (option_map Told) f ∙ ap (λ (t : List ℕ). Some (t ++ w)) same)
weak_turn w (Some x) None e (inr l) h = elim l [ ]
weak_turn w (Some x) (Some y) e (inr l) h = inr (y.1, refl, l)

command_turned : (s w e : List ℕ) → Cut s → command_turn s ≡ Some e → Turned w (command_turn (s ++ w)) e
command_turned s w e h f = weak_turn w (command_at s) (command_at (s ++ w)) e (command_weak s w h) f

no_command : command_at [] ≡ None
unfolding command_at until from verb_of is_word
no_command = refl

pub none_some : (e : List ℕ) → None ≡ Some e → ⊥
none_some e h = cc

pub nothing_behind : (e : List ℕ) → command_turn (skip []) ≡ Some e → ⊥
unfolding skip
nothing_behind e h = let none : command_turn [] ≡ None = ap (option_map Told) no_command in absurd (none_some e (sym none ∙ h))

behind_criteria : (s w e r : List ℕ) → Cut s → Suffix r s → command_turn (skip r) ≡ Some e → Turned w (command_turn (skip (r ++ w))) e
behind_criteria s w e [] h t f = absurd (nothing_behind e f)
behind_criteria s w e (c ∷ r) h t f =
    let cut : Cut (c ∷ r) = cut_suffix (c ∷ r) s h t (omega arith) in
    rw (skip_cut (c ∷ r) w cut) (command_turned (skip (c ∷ r)) w e (skip_cut_kept (c ∷ r) cut) f)

front_then : (s w e : List ℕ) (front all : Option (Option Criteria × List ℕ)) → Cut s → AllSome (Tail s) front → Grows w front all → (front >>= λ k. command_turn (skip k.1)) ≡ Some e → Turned w (all >>= λ k. command_turn (skip k.1)) e
front_then s w e None all h t g f = absurd cc
front_then s w e (Some k) all h t g f = subst (λ (o : Option (Option Criteria × List ℕ)). Turned w (o >>= λ k. command_turn (skip k.1)) e) (sym g) (behind_criteria s w e k.1 h t f)

front_chosen : (b : Bool) (s w e : List ℕ) (front all : Option (List ℕ)) → (if b then Some s else front) ≡ Some e → (front ≡ Some e → Turned w all e) → Turned w (if b then Some (s ++ w) else all) e
front_chosen true s w e front all f k = let same : s ≡ e = cc in inl (ap (λ (t : List ℕ). Some (t ++ w)) same)
front_chosen false s w e front all f k = k f

front_turned : (s w e : List ℕ) → Cut s → front_turn s ≡ Some e → Turned w (front_turn (s ++ w)) e
front_turned [] w e h f = elim h [ ]
front_turned (c ∷ r) w e h f = front_chosen (c == 59) (c ∷ r) w e (criteria_part (c ∷ r) >>= λ k. command_turn (skip k.1)) (criteria_part (c ∷ r ++ w) >>= λ k. command_turn (skip k.1)) f
    (λ g. front_then (c ∷ r) w e (criteria_part (c ∷ r)) (criteria_part (c ∷ r ++ w)) h (criteria_suffix (c ∷ r)) (criteria_grow (c ∷ r) w h) g)

pub turned : (fresh : Bool) (u w e : List ℕ) → Cut u → turn_at fresh u ≡ Some e → Turned w (turn_at fresh (u ++ w)) e
turned true u w e h f = rw (skip_cut u w h) (front_turned (skip u) w e (skip_cut_kept u h) f)
turned false u w e h f = rw (skip_cut u w h) (command_turned (skip u) w e (skip_cut_kept u h) f)

-- ---- a turn of a text that ends with ; stops before its end

command_turn_kept : (s : List ℕ) → Cut s → AllSome (λ e. Cut e) (command_turn s)
command_turn_kept s h = map_some Kept (λ e. Cut e) (command_at s) (λ x. x.1) (command_kept s h) (λ x k. k)

behind_kept : (s r : List ℕ) → Cut s → Suffix r s → AllSome (λ e. Cut e) (command_turn (skip r))
behind_kept s [] h t = by (command_turn (skip [])) refl
  where
    by : (o : Option (List ℕ)) → command_turn (skip []) ≡ o → AllSome (λ e. Cut e) o
    by None f = tt
    by (Some e) f = absurd (nothing_behind e f)
behind_kept s (c ∷ r) h t = command_turn_kept (skip (c ∷ r)) (skip_cut_kept (c ∷ r) (cut_suffix (c ∷ r) s h t (omega arith)))

front_kept : (s : List ℕ) → Cut s → AllSome (λ e. Cut e) (front_turn s)
front_kept [] h = elim h [ ]
front_kept (c ∷ r) h = if_some (λ e. Cut e) (c == 59) (Some (c ∷ r)) _ (λ e. h) (λ e. bind_some (Tail (c ∷ r)) (λ e. Cut e) (criteria_part (c ∷ r)) (λ k. command_turn (skip k.1)) (criteria_suffix (c ∷ r)) (λ k t. behind_kept (c ∷ r) k.1 h t))

pub turn_kept : (fresh : Bool) (s : List ℕ) → Cut s → AllSome (λ e. Cut e) (turn_at fresh s)
turn_kept true s h = front_kept (skip s) (skip_cut_kept s h)
turn_kept false s h = command_turn_kept (skip s) (skip_cut_kept s h)

-- ---- where the command of such a turn begins

-- the text from its command on, which has the ;
pub record Begun (fresh : Bool) (u w : List ℕ) : Type 0 where
  pub start : List ℕ
  pub tail : Suffix start u
  pub cut : Cut start
  pub whole : command_part fresh (u ++ w) ≡ start ++ w

no_bracket : (c : ℕ) (r : List ℕ) → (c == 59) ≡ true → criteria_part (c ∷ r) ≡ None → ⊥
unfolding criteria_part
no_bracket c r e h = let semi : c ≡ 59 = eqb-true c 59 e in absurd (let none : criteria_part (59 ∷ r) ≡ None = subst (λ (d : ℕ). criteria_part (d ∷ r) ≡ None) semi h in cc)

begun_long : (s e k : List ℕ) → Cut s → Suffix k s → command_turn (skip k) ≡ Some e → Cut k
begun_long s e [] h t f = absurd (nothing_behind e f)
begun_long s e (c ∷ r) h t f = cut_suffix (c ∷ r) s h t (omega arith)

semi_start : (c : ℕ) (r : List ℕ) (k : Option Criteria × List ℕ) → (c == 59) ≡ true → criteria_part (c ∷ r) ≡ Some k → k.1 ≡ c ∷ r
unfolding criteria_part
semi_start c r k e h = by (c == 91) other h
  where
    other : (c == 91) ≡ false
    other = ap (λ (x : ℕ). x == 91) (eqb-true c 59 e)

    by : (b : Bool) → b ≡ false → (if b then option_map (λ x. (criteria_of x.0, x.1)) (criteria_at r) else Some (None, c ∷ r)) ≡ Some k → k.1 ≡ c ∷ r
    by true f h = absurd (false≢true (sym f))
    by false f h = cc

begun_front : (w : List ℕ) (c : ℕ) (r e : List ℕ) → Cut (c ∷ r) → front_turn (c ∷ r) ≡ Some e → (k : Option Criteria × List ℕ) → criteria_part (c ∷ r) ≡ Some k → Cut k.1
begun_front w c r e h f k g = by (c == 59) refl f
  where
    tail : Suffix k.1 (c ∷ r)
    tail = some_at (Tail (c ∷ r)) (criteria_part (c ∷ r)) k (criteria_suffix (c ∷ r)) g

    by : (b : Bool) → (c == 59) ≡ b → (if b then Some (c ∷ r) else criteria_part (c ∷ r) >>= λ k. command_turn (skip k.1)) ≡ Some e → Cut k.1
    by true q f = rw (semi_start c r k q g) h
    by false q f = begun_long (c ∷ r) e k.1 h tail (sym (ap (λ (o : Option (Option Criteria × List ℕ)). o >>= λ k. command_turn (skip k.1)) g) ∙ f)

begun_none : (c : ℕ) (r e : List ℕ) → front_turn (c ∷ r) ≡ Some e → criteria_part (c ∷ r) ≡ None → ⊥
begun_none c r e f g = by (c == 59) refl f
  where
    by : (b : Bool) → (c == 59) ≡ b → (if b then Some (c ∷ r) else criteria_part (c ∷ r) >>= λ k. command_turn (skip k.1)) ≡ Some e → ⊥
    by true q f = no_bracket c r q g
    by false q f = absurd (none_some e (sym (ap (λ (o : Option (Option Criteria × List ℕ)). o >>= λ k. command_turn (skip k.1)) g) ∙ f))

    none_some : (e : List ℕ) → None ≡ Some e → ⊥
    none_some e h = cc

begun_skipped : (u w : List ℕ) (s e : List ℕ) → skip u ≡ s → Cut s → Cut u → front_turn s ≡ Some e → Begun true u w
unfolding command_part
begun_skipped u w [] e same h cut f = elim h [ ]
begun_skipped u w (c ∷ r) e same h cut f = by (criteria_part (c ∷ r)) refl (criteria_grow (c ∷ r) w h)
  where
    whole : skip (u ++ w) ≡ c ∷ r ++ w
    whole = skip_cut u w cut ∙ ap (λ (t : List ℕ). t ++ w) same

    by : (o : Option (Option Criteria × List ℕ)) → criteria_part (c ∷ r) ≡ o → Grows w o (criteria_part (c ∷ r ++ w)) → Begun true u w
    by None g grows = absurd (begun_none c r e f g)
    by (Some k) g grows = record {
      start = k.1;
      tail = suffix_trans k.1 (skip u) u (subst (λ (t : List ℕ). Suffix k.1 t) (sym same) (some_at (Tail (c ∷ r)) (criteria_part (c ∷ r)) k (criteria_suffix (c ∷ r)) g)) (skip_suffix u);
      cut = begun_front w c r e h f k g;
      whole = ap (λ (t : List ℕ). past_criteria (u ++ w) (criteria_part t)) whole ∙ ap (past_criteria (u ++ w)) grows;
    }

pub begun : (fresh : Bool) (u w e : List ℕ) → Cut u → turn_at fresh u ≡ Some e → Begun fresh u w
unfolding command_part
begun true u w e h f = begun_skipped u w (skip u) e refl (skip_cut_kept u h) h f
begun false u w e h f = record { start = u; tail = suffix_refl u; cut = h; whole = refl }
