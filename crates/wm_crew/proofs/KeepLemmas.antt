-- What actors leave as it is of their passes, and what follows where all of them were told to stop.
use Rattle.std.proofs.Common.{◌≡◌, ◌≤◌, inl, inr, ℕ, zero, suc, ◌+◌, ◌-◌, ◌||◌, nat_lt, Bool, true, false, List, [], ◌∷◌, ◌++◌, map, drop, length, Option, Some, None, refl, ap, ap₂, sym, subst, ◌∙◌, arith}
use Rattle.std.proofs.lemmas.Bool.{ltb-true}
use Rattle.std.proofs.lemmas.List.Elements.{All-append, All-cons}
use Rattle.std.proofs.lemmas.Option.{none-some}
use Rattle.std.specs.List.{All}
use Rattle.wm_actors.specs.Exits.{Exits, TriedExit}
use Rattle.wm_actors.specs.Pictured.{Pictured, Screen}
use Rattle.wm_actors.specs.Paints.{AreRounds, IsLast, Last, Asked_alone, Painted, all_marks, last_marks}
use Rattle.wm_actors.specs.Pictures.{pictures}
use Rattle.wm_actors.specs.Since.{Lasts}
use Rattle.wm_actors.specs.Timed.{Timed}
use Rattle.wm_actors.specs.Worked.{Gate, Worked}
use Rattle.wm_actors.specs.Works.{Spot}
use Rattle.wm_actors.specs.declared.ending.ActorEnd.{ActorEnd}
use Rattle.wm_actors.specs.declared.ending.ActorEnd.TheVariants as end
use Rattle.wm_actors.specs.declared.serve.Failure.{Failure}
use Rattle.wm_history.specs.History.{History, Start, effect_after, opening_of, stopped}
use Rattle.wm_core.specs.Passes.{Pass}
use Rattle.wm_criteria.specs.Building.{Log}
use Rattle.wm_crew.specs.Crew.{Each, posts}
use Rattle.wm_crew.specs.Duties.{ServedAt, ServedBy}
use Rattle.wm_crew.proofs.CrewLemmas.{worse_else, worse_none, worse_then}
use Rattle.wm_crew.specs.Faults.{fault_of, rank, worse}
use Rattle.wm_crew.specs.declared.fault.Fault.{Fault}
use Rattle.wm_crew.specs.declared.fault.Fault.TheVariants as fault
use Rattle.wm_crew.specs.Status.{status_of}
use Rattle.wm_crew.specs.declared.status.ServeStatus.TheVariants as status
use Rattle.wm_crew.specs.Running.{Outside, RanAtPlaces, keep}
use Rattle.wm_layouts.specs.declared.plan.Plan.{Plan}
use Rattle.wm_ports.specs.Linking.{LinkTold}
use Rattle.wm_ports.specs.Listening.{ListenTold}
use Rattle.wm_session.specs.Served.{Stage}

tried_keep : (before now : Pass) → TriedExit before now → keep now ≡ keep before
tried_keep before now (inl saw) = ap keep saw.pass
tried_keep before now (inr said) = ap keep said.took.pass

exits_keep : (e : ActorEnd) (before now : Pass) → Exits e before now → keep now ≡ keep before
exits_keep end.Stopped before now is = ap keep is
exits_keep end.ListenFault before now tried = tried_keep before now tried
exits_keep end.WriteFault before now tried = tried_keep before now tried
exits_keep end.Exhausted before now tried = tried_keep before now tried
exits_keep end.NoMemory before now tried = tried_keep before now tried

worked_keep : {L E : Type 0} (told : L → Option LinkTold) (faults : L → ℕ) (served : Stage → Stage → E → Type 0) (fails : E → Option Failure)
    (first now : Spot) (old new : Gate L) (e : ActorEnd) → Worked told faults served fails first now old new e → keep now.pass ≡ keep first.pass
worked_keep told faults served fails first now old new e w = exits_keep e w.before.pass now.pass w.exits ∙ ap keep w.ended.carried.carried.pass

pub timed_keep : (first now : Pass) (hold : ℕ) (from to : Option (List ℕ)) (e : ActorEnd) → Timed first now hold from to e → keep now ≡ keep first
timed_keep first now hold from to e t = exits_keep e t.before now t.exits ∙ ap keep t.ended.since.carried.pass

pub pictured_keep : (first now : Pass) (from to : Screen) (e : ActorEnd) → Pictured first now from to e → keep now ≡ keep first
pictured_keep first now from to e p = exits_keep e p.before now p.exits ∙ ap keep p.ended.since.carried.pass

module _ {L A P B : Type 0} (link_told : L → Option LinkTold) (link_faults : L → ℕ) (told : A → Option (ListenTold L)) (faults : A → ℕ)
    (is_of : P → Type 0) (carried : P → Pass) (log : B → Log) where
  served_keep : (b : Bool) (p : P) (a : A) (k : B) (p' : P) (a' : A) (k' : B) (e : ActorEnd)
      → ServedBy link_told link_faults told faults is_of carried log b p a k p' a' k' e → is_of p' × (keep (carried p') ≡ keep (carried p))
  served_keep true p a k p' a' k' e s = (s.door, worked_keep link_told link_faults _ _ _ _ _ _ e s.worked)
  served_keep false p a k p' a' k' e s = (s.door, worked_keep link_told link_faults _ _ _ _ _ _ e s.worked)

  -- the passes of workers stay what they are
  each_keep : (ipc number : ℕ) (p : List P) (a : List A) (k : List B) (p' : List P) (a' : List A) (k' : List B) (ends : List ActorEnd)
      → length a ≡ length p → length k ≡ length p → length p' ≡ length p → length a' ≡ length p → length k' ≡ length p
      → Each (ServedAt link_told link_faults told faults is_of carried log ipc) number (posts p a k) (posts p' a' k') ends
      → All is_of p' × (map (λ x. keep (carried x)) p' ≡ map (λ x. keep (carried x)) p)
  each_keep ipc number [] a k [] a' k' ends la lk lp la' lk' each = (λ i d less. absurd (omega (arith, less)), refl)
  each_keep ipc number (x ∷ p) (y ∷ a) (z ∷ k) (x' ∷ p') (y' ∷ a') (z' ∷ k') (e ∷ ends) la lk lp la' lk' each =
      let one = served_keep (nat_lt number ipc) x y z x' y' z' e each.0 in
      let rest = each_keep ipc (suc number) p a k p' a' k' ends (omega (arith, la)) (omega (arith, lk)) (omega (arith, lp)) (omega (arith, la')) (omega (arith, lk')) each.1 in
      (All-cons is_of x' p' one.0 rest.0, ap₂ (λ f fs. f ∷ fs) one.1 rest.1)
  each_keep ipc number [] a k (x' ∷ p') a' k' ends la lk lp la' lk' each = absurd (omega (arith, lp))
  each_keep ipc number (x ∷ p) [] k p' a' k' ends la lk lp la' lk' each = absurd (omega (arith, la))
  each_keep ipc number (x ∷ p) (y ∷ a) [] p' a' k' ends la lk lp la' lk' each = absurd (omega (arith, lk))
  each_keep ipc number (x ∷ p) (y ∷ a) (z ∷ k) [] a' k' ends la lk lp la' lk' each = absurd (omega (arith, lp))
  each_keep ipc number (x ∷ p) (y ∷ a) (z ∷ k) (x' ∷ p') [] k' ends la lk lp la' lk' each = absurd (omega (arith, la'))
  each_keep ipc number (x ∷ p) (y ∷ a) (z ∷ k) (x' ∷ p') (y' ∷ a') [] ends la lk lp la' lk' each = absurd (omega (arith, lk'))
  each_keep ipc number (x ∷ p) (y ∷ a) (z ∷ k) (x' ∷ p') (y' ∷ a') (z' ∷ k') [] la lk lp la' lk' each = absurd each

  -- all passes stay what they are: each is one of the door, with its caller's number and its parts, and not within a call
  pub ran_keep : (ipc hold : ℕ) (passes passes' : List P) (from to : Outside A B) (fault : Option Fault)
      → length passes ≡ length from.doors + 2 → length from.builds ≡ length from.doors
      → RanAtPlaces link_told link_faults told faults log is_of carried ipc hold passes passes' from to fault
      → All is_of passes' × (map (λ x. keep (carried x)) passes' ≡ map (λ x. keep (carried x)) passes)
  ran_keep ipc hold passes passes' from to fault many builds ran = (
    subst (λ xs. All is_of xs) (sym ran.new_are) (All-append is_of ran.new.workers (ran.new.timer ∷ ran.new.painter ∷ []) workers.0
        (All-cons is_of ran.new.timer (ran.new.painter ∷ []) ran.ran.timer_door (All-cons is_of ran.new.painter [] ran.ran.painter_door (λ i d less. absurd (omega (arith, less)))))),
    ap (λ xs. map f xs) ran.new_are ∙ two ran.new.workers ran.new.timer ran.new.painter
        ∙ ap₂ (λ fs gs. fs ++ gs) workers.1 (ap₂ (λ g h. g ∷ h ∷ []) (timed_keep _ _ hold _ _ _ ran.ran.timed) (pictured_keep _ _ _ _ _ ran.ran.painted))
        ∙ sym (ap (λ xs. map f xs) ran.old_are ∙ two ran.old.workers ran.old.timer ran.old.painter),
  )
    where
      f : P → ℕ × (ℕ × (Bool × Option Plan))
      f x = keep (carried x)

      two : (xs : List P) (t p : P) → map f (xs ++ t ∷ p ∷ []) ≡ map f xs ++ f t ∷ f p ∷ []
      two [] t p = refl
      two (x ∷ xs) t p = ap (λ fs. f x ∷ fs) (two xs t p)

      long : (xs : List P) (t p : P) → length (xs ++ t ∷ p ∷ []) ≡ length xs + 2
      long [] t p = refl
      long (x ∷ xs) t p = omega (arith, long xs t p)

      as_doors : length ran.old.workers ≡ length from.doors
      as_doors = omega (arith, many, ap (λ (xs : List P). length xs) ran.old_are ∙ long ran.old.workers ran.old.timer ran.old.painter)

      workers : All is_of ran.new.workers × (map f ran.new.workers ≡ map f ran.old.workers)
      workers = each_keep ipc 0 ran.old.workers from.doors from.builds ran.new.workers to.doors to.builds ran.ran.served.ends
          (sym as_doors) (builds ∙ sym as_doors) ran.as_many (ran.as_many_doors ∙ sym as_doors) (ran.as_many_builds ∙ (builds ∙ sym as_doors)) ran.ran.served.each

-- ---- where all were told to stop

rank_of_some : (x : Fault) → rank (Some x) ≤ 3
rank_of_some (fault.Listen door) = omega arith
rank_of_some fault.Write = omega arith
rank_of_some fault.Exhausted = omega arith
rank_of_some fault.NoMemory = omega arith

none_of_both : (a b : Option Fault) → worse a b ≡ None → (a ≡ None) × (b ≡ None)
none_of_both None b e = (refl, sym (worse_none b) ∙ e)
none_of_both (Some x) b e = by_test (nat_lt (rank b) (rank (Some x))) refl
  where
    by_test : (t : Bool) → nat_lt (rank b) (rank (Some x)) ≡ t → (Some x ≡ None) × (b ≡ None)
    by_test true p =
        let none : b ≡ None = sym (worse_then (Some x) b p) ∙ e in
        absurd (omega (arith, ltb-true (rank b) (rank (Some x)) p, rank_of_some x, ap rank none))
    by_test false p = absurd (none-some x (sym (sym (worse_else (Some x) b p) ∙ e)))

stopped_end : (e : ActorEnd) → fault_of 0 e ≡ None → e ≡ end.Stopped
stopped_end end.Stopped is = refl
stopped_end end.ListenFault is = absurd (none-some _ (sym is))
stopped_end end.WriteFault is = absurd (none-some _ (sym is))
stopped_end end.Exhausted is = absurd (none-some _ (sym is))
stopped_end end.NoMemory is = absurd (none-some _ (sym is))

stopped_later : (start : Start) (k : ℕ) (history : History) → stopped start (drop k history) ≡ true → stopped start history ≡ true
stopped_later start zero history e = e
stopped_later start (suc k) [] e = e
stopped_later start (suc k) (entry ∷ history) e = ap (λ b. b || (effect_after start history entry).stops) (stopped_later start k history e)

last_stops : (start : Start) (later : History) (last : Last) → IsLast end.Stopped start later last → stopped start later ≡ true
last_stops start later (Painted round) is = stopped_later start (length later - round.asked) later is.0
last_stops start later (Asked_alone n) is = absurd is

-- a painter that was told to stop knows that the desk is to stop, whatever comes later
pub painted_until_stopped : (first now : Pass) (from to : Screen) (e : ActorEnd) → e ≡ end.Stopped → Pictured first now from to e → Lasts now (λ start seen. stopped start seen ≡ true)
painted_until_stopped first now from to e is p = subst (λ (x : ActorEnd). Pictured first now from to x → Lasts now (λ start seen. stopped start seen ≡ true)) (sym is) told p
  where
    told : Pictured first now from to end.Stopped → Lasts now (λ start seen. stopped start seen ≡ true)
    told q plan later opening begins =
        let here : Lasts q.before (λ start seen. AreRounds start seen q.ended.rounds × IsLast end.Stopped start seen q.ended.last × (pictures start seen (last_marks q.ended.last ++ all_marks q.ended.rounds) ≡ q.ended.bytes)) = q.ended.since.lasts in
        let there = subst (λ x. Lasts x (λ start seen. AreRounds start seen q.ended.rounds × IsLast end.Stopped start seen q.ended.last × (pictures start seen (last_marks q.ended.last ++ all_marks q.ended.rounds) ≡ q.ended.bytes))) (sym q.exits) here in
        last_stops (opening_of plan) later q.ended.last (there plan later opening begins).1

-- where all ended by being stopped, so did the painter
pub painter_of_none : (worked : Option Fault) (timer painter : ActorEnd) → worse worked (worse (fault_of 0 timer) (fault_of 0 painter)) ≡ None → painter ≡ end.Stopped
painter_of_none worked timer painter none = stopped_end painter ((none_of_both (fault_of 0 timer) (fault_of 0 painter) ((none_of_both worked (worse (fault_of 0 timer) (fault_of 0 painter)) none).1)).1)

-- only where there was no fault the status says so
pub no_fault : (f : Option Fault) → status_of f ≡ status.Done → f ≡ None
no_fault None is = refl
no_fault (Some (fault.Listen door)) is = absurd cc
no_fault (Some fault.Write) is = absurd cc
no_fault (Some fault.Exhausted) is = absurd cc
no_fault (Some fault.NoMemory) is = absurd cc
