-- A turn of a whole text that stops before the end of its front is a turn of the front.
use Rattle.std.proofs.Common.{◌≡◌, ℕ, ◌≤◌, Bool, true, false, List, [], ◌∷◌, ◌++◌, length, Option, Some, None, sym, ap, subst, ◌∙◌, arith, inl, inr}
use Rattle.std.specs.Prelude.{if◌then◌else◌, ◌==◌, option_map}
use Rattle.std.proofs.lemmas.List.{length-append, append_cancel_right}
use Rattle.wm_language.specs.declared.command.Command.{Command}
use Rattle.wm_language.specs.declared.batch.Criteria.{Criteria}
use Rattle.wm_words.specs.Pieces.{◌>>=◌, skip}
use Rattle.wm_grammar.specs.Openings.{command_at}
use Rattle.wm_grammar.specs.Reading.{criteria_part}
use Rattle.wm_grammar.specs.Turns.{command_turn, front_turn, turn_at}
use Rattle.wm_words.proofs.Cuts.{Cut, Suffix, suffix_length, cut_suffix, skip_cut, skip_cut_kept, skip_suffix, quoted_length, AllSome}
use Rattle.wm_grammar.proofs.CutCommands.{bind_some, each_some, some_at, Tail, Weak, command_weak}
use Rattle.wm_grammar.proofs.CutCriteria.{criteria_suffix}
use Rattle.wm_grammar.proofs.CriteriaBack.{Short, Loose, criteria_loose}
use Rattle.wm_grammar.proofs.TurnCuts.{Told, command_turn_suffix, none_some}

some_same : (a b : List ℕ) → Some a ≡ Some b → a ≡ b
some_same a b h = cc

too_long : (e w : List ℕ) → 1 ≤ length e → length (e ++ w) ≤ length w → ⊥
too_long e w le h = absurd (omega (arith, length-append e w))

weak_back : (w : List ℕ) (front all : Option (Command × List ℕ)) (e : List ℕ) → Weak w front all → 1 ≤ length e → option_map Told all ≡ Some (e ++ w) → option_map Told front ≡ Some e
weak_back w None all e (inl g) le f = absurd (none_some (e ++ w) (sym (ap (option_map Told) g) ∙ f))
weak_back w (Some x) all e (inl g) le f = ap Some (append_cancel_right x.1 e w (some_same (x.1 ++ w) (e ++ w) (sym (ap (option_map Told) g) ∙ f)))
weak_back w front None e (inr l) le f = elim l [ ]
weak_back w front (Some y) e (inr l) le f = let same : y.1 ≡ e ++ w = some_same y.1 (e ++ w) f in absurd (too_long e w le (subst (λ (t : List ℕ). length t ≤ length w) same (quoted_length w y.1 l)))

command_back : (s w e : List ℕ) → Cut s → 1 ≤ length e → command_turn (s ++ w) ≡ Some (e ++ w) → command_turn s ≡ Some e
command_back s w e h le f = weak_back w (command_at s) (command_at (s ++ w)) e (command_weak s w h) le f

turn_shorter : (s : List ℕ) → AllSome (λ z. length z ≤ length s) (command_turn (skip s))
turn_shorter s = each_some (λ z. Suffix z (skip s)) (λ z. length z ≤ length s) (command_turn (skip s)) (command_turn_suffix (skip s)) (λ z j. omega (arith, suffix_length z (skip s) j, suffix_length (skip s) s (skip_suffix s)))

behind_back : (s w e r : List ℕ) → Cut s → Suffix r s → 1 ≤ length e → command_turn (skip (r ++ w)) ≡ Some (e ++ w) → command_turn (skip r) ≡ Some e
behind_back s w e [] h t le f = absurd (too_long e w le (some_at (λ z. length z ≤ length w) (command_turn (skip w)) (e ++ w) (turn_shorter w) f))
behind_back s w e (c ∷ r) h t le f =
    let cut : Cut (c ∷ r) = cut_suffix (c ∷ r) s h t (omega arith) in
    command_back (skip (c ∷ r)) w e (skip_cut_kept (c ∷ r) cut) le (subst (λ (u : List ℕ). command_turn u ≡ Some (e ++ w)) (skip_cut (c ∷ r) w cut) f)

criteria_back : (s w e : List ℕ) (front all : Option (Option Criteria × List ℕ)) → Cut s → AllSome (Tail s) front → Loose w front all → 1 ≤ length e → (all >>= λ k. command_turn (skip k.1)) ≡ Some (e ++ w) → (front >>= λ k. command_turn (skip k.1)) ≡ Some e
criteria_back s w e None all h t (inl g) le f = absurd (none_some (e ++ w) (sym (ap (λ (o : Option (Option Criteria × List ℕ)). o >>= λ k. command_turn (skip k.1)) g) ∙ f))
criteria_back s w e (Some k) all h t (inl g) le f = behind_back s w e k.1 h t le (sym (ap (λ (o : Option (Option Criteria × List ℕ)). o >>= λ k. command_turn (skip k.1)) g) ∙ f)
criteria_back s w e front all h t (inr l) le f = absurd (too_long e w le (some_at (λ z. length z ≤ length w) (all >>= λ k. command_turn (skip k.1)) (e ++ w) short f))
  where
    short : AllSome (λ z. length z ≤ length w) (all >>= λ k. command_turn (skip k.1))
    short = bind_some (Short w) (λ z. length z ≤ length w) all (λ k. command_turn (skip k.1)) l (λ k m. each_some (λ z. length z ≤ length k.1) (λ z. length z ≤ length w) (command_turn (skip k.1)) (turn_shorter k.1) (λ z j. omega arith))

front_chosen : (b : Bool) (s w e : List ℕ) (front all : Option (List ℕ)) → (if b then Some (s ++ w) else all) ≡ Some (e ++ w) → (all ≡ Some (e ++ w) → front ≡ Some e) → (if b then Some s else front) ≡ Some e
front_chosen true s w e front all f k = ap Some (append_cancel_right s e w (some_same (s ++ w) (e ++ w) f))
front_chosen false s w e front all f k = k f

front_back : (s w e : List ℕ) → Cut s → 1 ≤ length e → front_turn (s ++ w) ≡ Some (e ++ w) → front_turn s ≡ Some e
front_back [] w e h le f = elim h [ ]
front_back (c ∷ r) w e h le f = front_chosen (c == 59) (c ∷ r) w e (criteria_part (c ∷ r) >>= λ k. command_turn (skip k.1)) (criteria_part (c ∷ r ++ w) >>= λ k. command_turn (skip k.1)) f
    (λ g. criteria_back (c ∷ r) w e (criteria_part (c ∷ r)) (criteria_part (c ∷ r ++ w)) h (criteria_suffix (c ∷ r)) (criteria_loose (c ∷ r) w h) le g)

pub turn_back : (fresh : Bool) (u w e : List ℕ) → Cut u → 1 ≤ length e → turn_at fresh (u ++ w) ≡ Some (e ++ w) → turn_at fresh u ≡ Some e
turn_back true u w e h le f = front_back (skip u) w e (skip_cut_kept u h) le (subst (λ (t : List ℕ). front_turn t ≡ Some (e ++ w)) (skip_cut u w h) f)
turn_back false u w e h le f = command_back (skip u) w e (skip_cut_kept u h) le (subst (λ (t : List ℕ). command_turn t ≡ Some (e ++ w)) (skip_cut u w h) f)
