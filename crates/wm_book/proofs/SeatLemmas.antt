-- What a book reads off the seats of its turnstile.
use Rattle.std.proofs.Common.{◌≡◌, ◌≤◌, ◌<◌, ◌^◌, ℕ, zero, suc, Bool, true, false, List, ◌∷◌, Option, Some, ap, arith, length, refl, subst, sym, ◌∙◌}
use Rattle.std.specs.Prelude.{IsSomeAnd}
use Rattle.wm_core.proofs.EntryLemmas.{history_begins, history_length, history_places}
use Rattle.wm_history.specs.Act.{Act, act_of}
use Rattle.wm_core.specs.Entries.{history_of}
use Rattle.wm_history.specs.History.{History, Start, answer, opening_of}
use Rattle.wm_history.specs.Look.{look}
use Rattle.wm_core.specs.Passes.{Looked, Saw, Took, places}
use Rattle.wm_history.specs.declared.look.Query.{Query}
use Rattle.wm_history.specs.declared.look.View.{View}
use Rattle.wm_core.specs.Passes as passes
use Rattle.wm_core.specs.declared.asked.Asked.{Asked}
use Rattle.wm_history.specs.declared.step.Answer.{Answer}
use Rattle.wm_book.specs.Carried.{carried}
use Rattle.wm_layouts.specs.declared.plan.Plan.{Plan}
use Rattle.std.proofs.lemmas.List.Elements.{All-cons}
use Rattle.std.specs.List.{All}
use Rattle.wm_turn.specs.Pass.{Gate, IsLegal, Pass, new_passes}
use Rattle.wm_turn.specs.declared.view.Mark.TheVariants.{Wrote, Read}
use Rattle.wm_history.specs.declared.step.Step.{Step}
use Rattle.wm_turn.specs.History as turn
use Rattle.wm_turn.specs.declared.view.Entry.{Entry}

-- a count that is neither above nor below the most steps is theirs
pub most_steps : (entries : List (Entry Step)) (count : ℕ) → count ≡ length entries → count ≤ 2 ^ 48 → 2 ^ 48 ≤ count → (length (history_of entries) ≡ 2 ^ 48) × (count ≡ length (history_of entries))
most_steps entries count is few many =
    let same = history_length entries in (omega (arith, same, is, few, many), omega (arith, same, is))

-- a count below the most steps leaves room for one more
pub room : (entries : List (Entry Step)) (count : ℕ) → count ≡ length entries → count < 2 ^ 48 → length entries < 2 ^ 48
room entries count is few = omega (arith, is, few)

-- and so it does in the history
pub room_there : (entries : List (Entry Step)) (count : ℕ) → count ≡ length entries → count < 2 ^ 48 → length (history_of entries) < 2 ^ 48
room_there entries count is few = omega (arith, history_length entries, is, few)

-- a caller that wrote no further entries took no further steps
pub same_places : (who : ℕ) (seen entries : List (Entry Step)) → turn.places who entries ≡ turn.places who seen → places who (history_of entries) ≡ places who (history_of seen)
same_places who seen entries same = history_places who entries ∙ (same ∙ sym (history_places who seen))

-- ---- calls

module _ (old entered : Pass Plan Step Asked) (off : old.turn ≡ false) (enters : entered ≡ record old { turn = true; seen = entered.seen }) (begins : turn.Begins old.seen entered.seen) where
  -- where the seat leaves without a mark, no more than what is seen has changed
  pub saw : (left : Pass Plan Step Asked) → left ≡ record entered { turn = false } → Saw (carried old) (carried left)
  saw left leaves =
      let is : left ≡ record old { turn = false; seen = entered.seen } = leaves ∙ ap (λ (s : Pass Plan Step Asked). record s { turn = false }) enters in
      subst (λ s. Saw (carried old) (carried s)) (sym is)
      (record { begins = history_begins old.seen entered.seen begins; pass = ap (λ (b : Bool). record (carried old) { turn = b; seen = history_of entered.seen }) (sym off) })

  -- where it leaves after a question was answered, it has a mark of that
  pub looked : (left : Pass Plan Step Asked) (asked : Asked) (tells : Start → History → Type 0) → left ≡ record entered { turn = false; mine = Read asked (length entered.seen) ∷ entered.mine }
      → IsSomeAnd old.opening (λ plan. tells (opening_of plan) (history_of entered.seen)) → Looked (carried old) (carried left) asked tells
  looked left asked tells leaves told =
      let is : left ≡ record old { turn = false; seen = entered.seen; mine = Read asked (length entered.seen) ∷ old.mine } =
      leaves ∙ ap (λ (s : Pass Plan Step Asked). record s { turn = false; mine = Read asked (length s.seen) ∷ s.mine }) enters in
      subst (λ s. Looked (carried old) (carried s) asked tells) (sym is)
      (record {
        begins = history_begins old.seen entered.seen begins;
        pass =
            ap (λ (b : Bool). record (carried old) { turn = b; seen = history_of entered.seen; mine = Read asked (length entered.seen) ∷ old.mine }) (sym off)
            ∙ ap (λ (n : ℕ). record (carried old) { seen = history_of entered.seen; mine = Read asked n ∷ old.mine }) (sym (history_length entered.seen));
        answer = told;
      })

  -- what the value shows its caller is what is seen from the opening
  pub sees : (view : View) (q : Query) (plan : Plan) (who : ℕ) → entered.opening ≡ Some plan → who ≡ entered.caller → view ≡ look (opening_of plan) (history_of entered.seen) who q
      → IsSomeAnd old.opening (λ plan. view ≡ look (opening_of plan) (history_of entered.seen) old.caller q)
  sees view q plan who opens his told =
      let opened : old.opening ≡ Some plan = ap (λ (s : Pass Plan Step Asked). s.opening) (sym enters) ∙ opens in
      let caller : who ≡ old.caller = his ∙ ap (λ (s : Pass Plan Step Asked). s.caller) enters in
      subst (λ (o : Option Plan). IsSomeAnd o (λ plan. view ≡ look (opening_of plan) (history_of entered.seen) old.caller q)) (sym opened)
      (told ∙ ap (λ (n : ℕ). look (opening_of plan) (history_of entered.seen) n q) caller)

  -- and where it logs a step, the step stands behind what was seen
  pub took : (logged left : Pass Plan Step Asked) (step form : Step) (said : Answer) (plan : Plan) (who : ℕ) → act_of form ≡ act_of step → turn.places old.caller entered.seen ≡ turn.places old.caller old.seen → length entered.seen < 2 ^ 48
      → logged ≡ record entered { seen = record { who = entered.caller; step = form } ∷ entered.seen; mine = Wrote (length entered.seen) ∷ entered.mine } → left ≡ record logged { turn = false }
      → entered.opening ≡ Some plan → who ≡ entered.caller → said ≡ answer (opening_of plan) (history_of entered.seen) (record { who = who; act = act_of step }) → Took (carried old) (carried left) (act_of step) said
  took logged left step form said plan who says own few logs leaves opens his told =
      let opened : old.opening ≡ Some plan = ap (λ (s : Pass Plan Step Asked). s.opening) (sym enters) ∙ opens in
      let caller : who ≡ old.caller = his ∙ ap (λ (s : Pass Plan Step Asked). s.caller) enters in
      let there : said ≡ answer (opening_of plan) (history_of entered.seen) (record { who = old.caller; act = act_of step }) =
      told ∙ ap (λ (n : ℕ). answer (opening_of plan) (history_of entered.seen) (record { who = n; act = act_of step })) caller in
      let is : left ≡ record old { turn = false; seen = record { who = old.caller; step = form } ∷ entered.seen; mine = Wrote (length entered.seen) ∷ old.mine } =
      leaves ∙ (ap (λ (s : Pass Plan Step Asked). record s { turn = false }) logs ∙ ap (λ (s : Pass Plan Step Asked). record s { turn = false; seen = record { who = s.caller; step = form } ∷ s.seen; mine = Wrote (length s.seen) ∷ s.mine }) enters) in
      subst (λ s. Took (carried old) (carried s) (act_of step) said) (sym is)
      (record {
        before = history_of entered.seen;
        begins = history_begins old.seen entered.seen begins;
        own = same_places old.caller old.seen entered.seen own;
        few = omega (arith, few, history_length entered.seen);
        pass =
            ap (λ (b : Bool). record (carried old) { turn = b; seen = record { who = old.caller; act = act_of form } ∷ history_of entered.seen; mine = Wrote (length entered.seen) ∷ old.mine }) (sym off)
            ∙ (ap (λ (act : Act). record (carried old) { seen = record { who = old.caller; act = act } ∷ history_of entered.seen; mine = Wrote (length entered.seen) ∷ old.mine }) says
            ∙ ap (λ (n : ℕ). record (carried old) { seen = record { who = old.caller; act = act_of step } ∷ history_of entered.seen; mine = Wrote n ∷ old.mine }) (sym (history_length entered.seen)));
        answer = subst (λ (o : Option Plan). IsSomeAnd o (λ plan. said ≡ answer (opening_of plan) (history_of entered.seen) (record { who = old.caller; act = act_of step }))) (sym opened) there;
      })

-- ---- seats that were just handed out

-- they have no marks, and have seen nothing
pub new_legal : (gate : Gate Plan) (opening : Plan) (caller count : ℕ) → All (IsLegal {S = Step} {Q = Asked}) (new_passes gate.door opening caller count)
new_legal gate opening caller zero = λ k seat none. absurd (omega (arith, none))
new_legal gate opening caller (suc more) = All-cons (IsLegal {S = Step} {Q = Asked}) _ _ (record { written = refl; in_order = tt; within = λ k mark none. absurd (omega (arith, none)) }) (new_legal gate opening (suc caller) more)
