-- What steps tell that leave the tree.
use Rattle.std.proofs.Common.{◌≡◌, ◌∙◌, refl, ap, ap₂, sym, ℕ, ◌≤◌, arith, Bool, true, false, cond, not, ◌&&◌, List, [], ◌∷◌, ◌++◌, length, Option, Some, None}
use Rattle.std.proofs.lemmas.List.{append-nil, append_assoc}
use Rattle.std.specs.Str.{bytes_eq}
use Rattle.wm_arrange.specs.Arranged.{arranged}
use Rattle.wm_changes.specs.Changes.{changes}
use Rattle.wm_changes.proofs.StillLemmas.{nothing_told}
use Rattle.wm_json.specs.declared.views.EventBody.{EventBody}
use Rattle.wm_json.specs.declared.views.EventBody.TheVariants as body
use Rattle.wm_kept.specs.Log.{Log, kept_of}
use Rattle.wm_tree.specs.TreeValue.{TreeValue}
use Rattle.wm_focus.proofs.MarkLists.{bytes_self}
use Rattle.wm_history.specs.Effect.{mode_after}
use Rattle.wm_history.specs.Events.{IsToldOn, later_events, mode_events, stop_events, own_events}

-- a step that leaves the tree tells only what is beside it
pub later_alone : (t : TreeValue) (mode : List ℕ) (stopped : Bool) (set : Option (List ℕ)) (stops : Bool) (event : Option EventBody)
    → changes t (arranged t) t (arranged t) ++ later_events mode stopped set stops event ≡ later_events mode stopped set stops event
later_alone t mode stopped set stops event = ap (λ told. told ++ later_events mode stopped set stops event) (nothing_told t (arranged t))

same_mode : (mode : List ℕ) → mode_events mode mode ≡ []
same_mode mode = ap (λ b. cond b [] (body.Mode mode ∷ [])) (bytes_self mode)

goes_on : (stopped : Bool) → stop_events stopped false ≡ []
goes_on true = refl
goes_on false = refl

-- nothing is beside the tree where no mode is set, the desk goes on, and the step tells nothing itself
pub nothing_later : (mode : List ℕ) (stopped : Bool) → later_events mode stopped None false None ≡ []
nothing_later mode stopped = ap₂ (λ m s. m ++ ([] ++ s)) (same_mode mode) (goes_on stopped)

pub nothing_by : (t : TreeValue) (mode : List ℕ) (stopped : Bool) → changes t (arranged t) t (arranged t) ++ later_events mode stopped None false None ≡ []
nothing_by t mode stopped = later_alone t mode stopped None false None ∙ nothing_later mode stopped

-- where nothing is told the log is as it was
pub told_nothing : (log : Log) (bodies : List EventBody) → bodies ≡ [] → IsToldOn log bodies log
told_nothing log bodies none all is = is ∙ ap kept_of (sym (ap (λ more. all ++ more) none ∙ append-nil all))

-- told one list and then another
pub told_both : (a b c : Log) (xs ys : List EventBody) → IsToldOn a xs b → IsToldOn b ys c → IsToldOn a (xs ++ ys) c
told_both a b c xs ys first second all is = second (all ++ xs) (first all is) ∙ ap kept_of (append_assoc all xs ys)

-- at most three are told beside the tree
pub few_later : (mode : List ℕ) (stopped : Bool) (set : Option (List ℕ)) (stops : Bool) (event : Option EventBody) → length (later_events mode stopped set stops event) ≤ 3
few_later mode stopped set stops event = by (bytes_eq (mode_after set mode) mode) event (not stopped && stops)
  where
    by : (a : Bool) (o : Option EventBody) (b : Bool) → length (cond a [] (body.Mode (mode_after set mode) ∷ []) ++ (own_events o ++ cond b (body.Shutdown ∷ []) [])) ≤ 3
    by true None true = omega arith
    by true None false = omega arith
    by true (Some p) true = omega arith
    by true (Some p) false = omega arith
    by false None true = omega arith
    by false None false = omega arith
    by false (Some p) true = omega arith
    by false (Some p) false = omega arith
