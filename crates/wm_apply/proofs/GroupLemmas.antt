-- The groups of a text are run one after another, and numbered from 0.
use Rattle.std.proofs.Common.{◌≡◌, ◌∙◌, sym, ap, ℕ, suc, ◌+◌, ◌-◌, ◌≤◌, get_or, List, [], ◌∷◌, length, take, drop, Option, arith, refl}
use Rattle.std.proofs.lemmas.List.{take_all}
use Rattle.std.specs.List.{slice_get}
use Rattle.std.specs.Option.{option_map_or}
use Rattle.wm_base.specs.declared.ids.ConId.{ConId}
use Rattle.wm_criteria.specs.declared.verdict.Verdict.{Verdict}
use Rattle.wm_criteria.specs.declared.verdict.Verdict.TheVariants.{Ready, Bad, PatternRefused}
use Rattle.wm_criteria.specs.Patterns.{keys_of}
use Rattle.wm_criteria.specs.Searching.{group_keys}
use Rattle.wm_language.specs.declared.batch.Group.{Group}
use Rattle.wm_language.specs.declared.command.Command.{Command}
use Rattle.wm_apply.specs.declared.targets.Targets.{Targets}
use Rattle.wm_apply.specs.Batches.{Outcome, commands_done, group_done, groups_done, groups_of, targets}
use Rattle.wm_layouts.specs.declared.plan.Env.{Env}

rest_is : (gs : List Group) → take (suc (length gs) - 1) gs ≡ gs
rest_is gs = take_all (suc (length gs) - 1) gs (omega arith)

-- what is done after the first group, and then after the others
pub done_step : (env : Env) (subject : Option ConId) (g d : Group) (gs all : List Group) (o u start : Outcome) → 1 ≤ length gs → g ≡ get_or gs 0 d → groups_done env subject gs o ≡ groups_done env subject all start → u ≡ group_done env subject g o
    → groups_done env subject (take (length gs - 1) (drop 1 gs)) u ≡ groups_done env subject all start
done_step env subject g d [] all o u start some first is e = absurd (omega arith)
done_step env subject g d (h ∷ gs) all o u start some first is e =
    ap (λ later. groups_done env subject later u) (rest_is gs) ∙ (ap (groups_done env subject gs) (e ∙ ap (λ x. group_done env subject x o) first) ∙ is)

zero_first : (n : ℕ) → n ≡ 0 + n
zero_first n = omega arith

keys_at : (verdict : Verdict) (n : ℕ) → group_keys verdict n ≡ option_map_or keys_of (slice_get (groups_of verdict) n) []
keys_at (Ready batch) n = refl
keys_at (Bad at) n = refl
keys_at (PatternRefused k) n = refl

-- the keys of the first group that is left are those of its number
pub keys_first : (verdict : Verdict) (g d : Group) (gs all : List Group) (number : ℕ) → groups_of verdict ≡ all → 1 ≤ length gs → g ≡ get_or gs 0 d → ((n : ℕ) → slice_get gs n ≡ slice_get all (n + number)) → group_keys verdict number ≡ keys_of g
keys_first verdict g d [] all number same some first is = absurd (omega arith)
keys_first verdict g d (h ∷ gs) all number same some first is =
    keys_at verdict number
    ∙ (ap (λ gs. option_map_or keys_of (slice_get gs number) []) same
    ∙ (ap (λ m. option_map_or keys_of (slice_get all m) []) (zero_first number) ∙ (ap (λ x. option_map_or keys_of x []) (sym (is 0)) ∙ ap keys_of (sym first))))

one_later : (n number : ℕ) → suc n + number ≡ n + (number + 1)
one_later n number = omega arith

-- the others are numbered on
pub numbered_step : (gs all : List Group) (number : ℕ) → 1 ≤ length gs → ((n : ℕ) → slice_get gs n ≡ slice_get all (n + number))
    → (n : ℕ) → slice_get (take (length gs - 1) (drop 1 gs)) n ≡ slice_get all (n + (number + 1))
numbered_step [] all number some is n = absurd (omega arith)
numbered_step (h ∷ gs) all number some is n =
    ap (λ xs. slice_get xs n) (rest_is gs) ∙ (is (suc n) ∙ ap (λ m. slice_get all m) (one_later n number))

-- one more is counted
pub few_step : (gs : List Group) (number most : ℕ) → 1 ≤ length gs → number + length gs ≤ most → number + 1 + length (take (length gs - 1) (drop 1 gs)) ≤ most
few_step [] number most some few = absurd (omega arith)
few_step (h ∷ gs) number most some few = let same : length (take (suc (length gs) - 1) gs) ≡ length gs = ap length (rest_is gs) in omega (arith, same, few)

-- what is done after one more group, whose targets are found first
pub group_step : (env : Env) (subject : Option ConId) (g : Group) (o u : Outcome) (found : Targets) (cs : List Command) → found ≡ targets g.criteria subject o.tree → cs ≡ g.commands → u ≡ commands_done env found cs o → u ≡ group_done env subject g o
group_step env subject g o u found cs is same e = e ∙ (ap (λ x. commands_done env x cs o) is ∙ ap (λ x. commands_done env (targets g.criteria subject o.tree) x o) same)
