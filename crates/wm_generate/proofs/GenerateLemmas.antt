-- Steps lead from histories to the one that their numbers make.
use Rattle.std.proofs.Common.{◌≡◌, refl, subst, sym, ℕ, zero, suc, ◌-◌, ◌<◌, List, ◌∷◌, arith}
use Rattle.wm_core.specs.DeskValue.{DeskValue, StandsFrom}
use Rattle.wm_history.specs.History.{History, Start}
use Rattle.wm_generate.specs.Numbers.{drawn, next, numbers}
use Rattle.wm_generate.specs.Steps.{entry_of, history_of}

-- the desk stands for a history that these numbers make the whole one
pub record Makes (start : Start) (desk : DeskValue) (left : List ℕ) (whole : History) : Type 0 where
  pub history : History
  pub stands : StandsFrom start desk history
  pub makes : history_of start left history ≡ whole

-- for each history that the old desk stood for, the new one is on the way to what all numbers make of it
pub record Leads (old : DeskValue) (all : List ℕ) (new : DeskValue) (left : List ℕ) : Type 0 where
  pub each : (start : Start) (history : History) → StandsFrom start old history → Makes start new left (history_of start all history)

pub begins : (desk : DeskValue) (all : List ℕ) → Leads desk all desk all
begins desk all = record { each = λ start history stands. record { history = history; stands = stands; makes = refl } }

goes_on : (old : DeskValue) (all : List ℕ) (desk next : DeskValue) (r : ℕ) (left : List ℕ) → Leads old all desk (r ∷ left)
    → ((start : Start) (history : History) → StandsFrom start desk history → StandsFrom start next (entry_of start history r ∷ history))
    → Leads old all next left
goes_on old all desk next r left leads takes = record {
  each = λ start history stands.
      let so_far = leads.each start history stands in
      record { history = entry_of start so_far.history r ∷ so_far.history; stands = takes start so_far.history so_far.stands; makes = so_far.makes };
}

first_number : (count x : ℕ) → 0 < count → numbers count x ≡ drawn (next x) ∷ numbers (count - 1) (next x)
first_number zero x some = let no : ⊥ = omega (arith, some) in absurd no
first_number (suc count) x some =
    let e : suc count - 1 ≡ count = omega arith in
    rw e refl

-- one step more, by the number y that comes after x
pub takes_one : (old : DeskValue) (all : List ℕ) (desk later : DeskValue) (count x y : ℕ) → 0 < count → y ≡ next x → Leads old all desk (numbers count x)
    → ((start : Start) (history : History) → StandsFrom start desk history → StandsFrom start later (entry_of start history (drawn y) ∷ history))
    → Leads old all later (numbers (count - 1) y)
takes_one old all desk later count x y some is leads takes =
    subst (λ n. Leads old all later (numbers (count - 1) n)) (sym is)
    (goes_on old all desk later (drawn (next x)) (numbers (count - 1) (next x)) (subst (Leads old all desk) (first_number count x some) leads)
    (λ start history stands. subst (λ n. StandsFrom start later (entry_of start history (drawn n) ∷ history)) is (takes start history stands)))

-- no number is left
pub arrives : (old new : DeskValue) (all : List ℕ) (left x : ℕ) → left ≡ 0 → Leads old all new (numbers left x)
    → (start : Start) (history : History) → StandsFrom start old history → StandsFrom start new (history_of start all history)
arrives old new all left x none leads start history stands =
    let there = (subst (λ n. Leads old all new (numbers n x)) none leads).each start history stands in
    subst (StandsFrom start new) there.makes there.stands
