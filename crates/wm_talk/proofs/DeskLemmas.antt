-- The readings of a desk's events: what each one has, and where it ends.
use Rattle.std.proofs.Common.{◌≡◌, ◌∙◌, refl, subst, ℕ, zero, suc, ◌+◌, ◌-◌, ◌<◌, ◌≤◌, Bool, true, false, cond, List, [], ◌∷◌, drop, length, nat_lt, arith}
use Rattle.std.proofs.lemmas.Bool.Decides.{nat_tests}
use Rattle.wm_history.specs.Events.{events}
use Rattle.wm_history.specs.History.{History, Start}
use Rattle.wm_history.specs.Look.{look, told_view}
use Rattle.wm_history.specs.declared.look.Query.TheVariants as query
use Rattle.wm_json.specs.declared.views.EventBody.{EventBody}
use Rattle.wm_kept.specs.Above.{told_since}
use Rattle.wm_kept.specs.declared.above.Above.TheVariants.{Events, Lagged}
use Rattle.wm_kept.specs.Log.{numbered}
use Rattle.wm_talk.specs.Marks.{events_in, Rise}
use Rattle.wm_talk.specs.Talking.{last_number}

-- ---- events that are numbered one after another

rises : (n : ℕ) (bodies : List EventBody) → Rise n (numbered n bodies)
rises n [] = tt
rises n (body ∷ bodies) = (omega arith, rises (n + 1) bodies)

-- those behind the first k rise from there
behind_rises : (k n : ℕ) (bodies : List EventBody) → Rise (n + k) (drop k (numbered n bodies))
behind_rises zero n bodies = subst (λ m. Rise m (numbered n bodies)) (omega arith) (rises n bodies)
behind_rises (suc k) n [] = tt
behind_rises (suc k) n (body ∷ bodies) =
    subst (λ m. Rise m (drop k (numbered (n + 1) bodies))) (omega arith) (behind_rises k (n + 1) bodies)

ends : (n : ℕ) (bodies : List EventBody) → last_number n (numbered n bodies) ≡ n + length bodies
ends n [] = omega arith
ends n (body ∷ bodies) = ends (n + 1) bodies ∙ omega arith

-- they end where all end
behind_ends : (k n : ℕ) (bodies : List EventBody) → k ≤ length bodies → last_number (n + k) (drop k (numbered n bodies)) ≡ n + length bodies
behind_ends zero n bodies few = subst (λ m. last_number m (numbered n bodies) ≡ n + length bodies) (omega arith) (ends n bodies)
behind_ends (suc k) n [] few = absurd (omega (arith, few))
behind_ends (suc k) n (body ∷ bodies) few =
    subst (λ m. last_number m (drop k (numbered (n + 1) bodies)) ≡ n + suc (length bodies)) (omega arith)
    (behind_ends k (n + 1) bodies (omega (arith, few)) ∙ omega arith)

-- ---- what is told of them

since_rises : (n : ℕ) (all : List EventBody) → Rise n (events_in (told_view (told_since n all)))
since_rises n all = by_test (nat_lt (n + 4096) (length all))
  where
    by_test : (b : Bool) → Rise n (events_in (told_view (cond b (Lagged (length all - 4096 + 1)) (Events (drop n (numbered 0 all))))))
    by_test true = tt
    by_test false = subst (λ m. Rise m (drop n (numbered 0 all))) (omega arith) (behind_rises n 0 all)

since_ends : (n : ℕ) (all : List EventBody) → n ≤ length all → length all ≤ n + 4096 → last_number n (events_in (told_view (told_since n all))) ≡ length all
since_ends n all known few = by_test (nat_lt (n + 4096) (length all)) refl
  where
    by_test : (b : Bool) → nat_lt (n + 4096) (length all) ≡ b → last_number n (events_in (told_view (cond b (Lagged (length all - 4096 + 1)) (Events (drop n (numbered 0 all)))))) ≡ length all
    by_test true t =
        let many : n + 4096 < length all = grind (arith, nat_tests) in
        absurd (omega (arith, many, few))
    by_test false t = subst (λ m. last_number m (drop n (numbered 0 all)) ≡ length all) (omega arith) (behind_ends n 0 all known ∙ omega arith)

pub readings_rise : (start : Start) (history : History) (who n : ℕ) → Rise n (events_in (look start history who (query.Events n)))
readings_rise start history who n = since_rises n (events start history)

pub readings_end : (start : Start) (history : History) (who n : ℕ) → n ≤ length (events start history) → length (events start history) ≤ n + 4096
    → last_number n (events_in (look start history who (query.Events n))) ≡ length (events start history)
readings_end start history who n known few = since_ends n (events start history) known few
