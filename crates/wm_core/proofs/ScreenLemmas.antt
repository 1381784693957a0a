-- The screen of a desk: the first ground of what is shown.
use Rattle.std.proofs.Common.{◌≡◌, ℕ, zero, suc, List, [], ◌∷◌, drop, length, ap, ◌∙◌, ◌-◌}
use Rattle.wm_tree.specs.Sound.{IsSound}
use Rattle.wm_paint.specs.CanvasValue.{IsArea}
use Rattle.wm_txn.specs.Commits.{current, prefix}
use Rattle.wm_core.specs.DeskValue.{AreInStep, IsInStep}
use Rattle.wm_history.specs.History.{Entry, Start, first, accepted_of, tree}
use Rattle.wm_history.specs.Screen.{beginning, first_back, screen}
use Rattle.wm_history.proofs.BackLemmas.{arranged_first, first_within}
use Rattle.wm_history.proofs.BeginningLemmas.{current_is}

last_step : (start : Start) (history : List Entry) → AreInStep start history → IsInStep start history
last_step start [] h = h
last_step start (entry ∷ history) h = h.0

drop_step : (start : Start) (n : ℕ) (history : List Entry) → AreInStep start history → IsInStep start (drop n history)
drop_step start zero history h = last_step start history h
drop_step start (suc n) [] h = h
drop_step start (suc n) (entry ∷ history) h = drop_step start n history h.1

-- what holds after each beginning
pub beginning_step : (start : Start) (n : ℕ) (history : List Entry) → AreInStep start history → IsInStep start (beginning n history)
beginning_step start n history h = drop_step start (length history - n) history h

-- the last tree is sound
pub last_sound : (start : Start) (history : List Entry) → AreInStep start history → IsSound (tree start history)
last_sound start history h = (last_step start history h).sound

-- and so is the one after each beginning
beginning_sound : (start : Start) (n : ℕ) (history : List Entry) → AreInStep start history → IsSound (tree start (beginning n history))
beginning_sound start n history h = (beginning_step start n history h).sound

module _ (start : Start) (history : List Entry) (h : AreInStep start history) where
  -- the first ground of what is shown is the screen
  pub screen_is : first_back (current (first start) (accepted_of start history)) ≡ screen start history
  screen_is =
      let n = prefix (first start) (accepted_of start history) in
      ap first_back (current_is start history) ∙ arranged_first (tree start (beginning n history)) (beginning_sound start n history h)

  -- the screen is within the limits of an area
  pub screen_area : IsArea (screen start history)
  screen_area =
      let n = prefix (first start) (accepted_of start history) in
      first_within (tree start (beginning n history)) (beginning_sound start n history h)
