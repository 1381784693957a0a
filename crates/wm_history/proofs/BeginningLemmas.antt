-- The arrangement that the transactions show is that of the tree after a beginning of the history.
use Rattle.std.proofs.Common.{◌≡◌, ℕ, zero, suc, ◌-◌, ◌+◌, leb, Bool, true, false, cond, not, ◌&&◌, List, [], ◌∷◌, ◌++◌, length, length-append, drop, Option, Some, None, refl, ap, sym, ◌∙◌, arith}
use Rattle.std.proofs.lemmas.List.{drop_at}
use Rattle.std.proofs.Math.ListN.{drop_of_length-le}
use Rattle.wm_base.specs.declared.errors.Limit.{Limit}
use Rattle.wm_base.specs.declared.ids.Buffer.{Buffer}
use Rattle.wm_base.specs.declared.properties.Props.{Props}
use Rattle.wm_criteria.specs.declared.verdict.Verdict.{Verdict}
use Rattle.wm_criteria.specs.declared.verdict.Verdict.TheVariants.{Ready, Bad, PatternRefused}
use Rattle.wm_tree.specs.TreeValue.{TreeValue}
use Rattle.wm_tree.specs.Words.{detached, settled}
use Rattle.wm_arrange.specs.declared.parts.Placed.{Placed}
use Rattle.wm_arrange.specs.Arranged.{arranged}
use Rattle.wm_txn.specs.Commits.{current, done, ended_transactions, prefix, prefix_of}
use Rattle.wm_txn.specs.Accepted.{accept, is_due, is_empty}
use Rattle.wm_txn.specs.History as commits
use Rattle.wm_txn.specs.History.{arrangement, is_open, parts_after}
use Rattle.wm_txn.specs.Schedule.{Transaction, differs, first_when, last_parts, or_here, past}
use Rattle.wm_txn.proofs.BeginLemmas.{beginning as begun_by}
use Rattle.wm_txn.proofs.LastingLemmas.{done_past}
use Rattle.wm_history.specs.Act.{Act, CommandText, KeyChoice, Run, Map, Close, Retitle, Urgent, Gone, OutputAdd, OutputRemove, Reserve, Key, Tick, Ack, Give, Deadline}
use Rattle.wm_apply.specs.Batches.{outcome}
use Rattle.wm_apply.specs.Quiet.{is_quiet}
use Rattle.wm_apply.proofs.QuietLemmas.{quiet_outcome}
use Rattle.wm_json.specs.declared.views.EventBody.{EventBody}
use Rattle.wm_history.specs.Keys.{bound, chosen}
use Rattle.wm_history.specs.Effect.{Effect, ack_said, done_or_refused, effect, has_no_pixels, idled, key_effect, limit_of, map_effect, ran, refused, run_effect, telling, window_answer}
use Rattle.wm_history.specs.History.{Entry, Start, effect_after, first, accepted_of, mode, tree}
use Rattle.wm_layouts.specs.declared.plan.Env.{Env}
use Rattle.wm_history.specs.Outputs.{add_answer, added, remove_answer, removed, reserve_answer, reserved}
use Rattle.wm_history.specs.Screen.{beginning}
use Rattle.wm_history.specs.Windows.{is_window, retitled, with_urgency}
use Rattle.wm_history.specs.declared.step.Answer.{Answer}
use Rattle.wm_history.specs.declared.step.Answer.TheVariants as answers

-- ---- the last arrangement is that of the tree

-- what is accepted of an entry leaves the arrangement that the entry leaves
accepted_parts : (o : commits.Opening) (entry : commits.Entry) (history : List commits.Entry) (before : List Placed) → parts_after (accept o entry history) before ≡ parts_after entry before
accepted_parts o (commits.Arranged newest fresh gone) history before = refl
accepted_parts o (commits.Acked v serial) history before = by (is_open o v history && is_due o v serial history)
  where
    by : (b : Bool) → parts_after (cond b (commits.Acked v serial) commits.Still) before ≡ before
    by true = refl
    by false = refl
accepted_parts o (commits.Gave v buffer) history before = by (is_open o v history && not (is_empty buffer.size))
  where
    by : (b : Bool) → parts_after (cond b (commits.Gave v buffer) commits.Still) before ≡ before
    by true = refl
    by false = refl
accepted_parts o (commits.Deadline number) history before = refl
accepted_parts o commits.Still history before = refl

-- an effect tells of the arrangement of the tree that it leaves
abbrev TellsParts : TreeValue → Effect → Type 0
TellsParts t e = parts_after e.told (arranged t) ≡ arranged e.tree

done_parts : (a : Answer) (new t : TreeValue) → TellsParts t (done_or_refused a t new)
done_parts answers.Done new t = refl
done_parts (answers.Mapped c) new t = refl
done_parts (answers.Replies replies) new t = refl
done_parts answers.Unbound new t = refl
done_parts answers.NoView new t = refl
done_parts answers.Empty new t = refl
done_parts (answers.BadSerial asked last) new t = refl
done_parts (answers.Full limit) new t = refl
done_parts answers.NameTaken new t = refl
done_parts answers.NoTarget new t = refl
done_parts answers.BadRect new t = refl

run_parts : (env : Env) (verdict : Verdict) (event : Option EventBody) (t : TreeValue) → TellsParts t (run_effect env verdict event t)
run_parts env (Ready batch) event t = by (is_quiet batch.groups) refl
  where
    by : (b : Bool) → is_quiet batch.groups ≡ b → TellsParts t (cond b (idled event (outcome env (Ready batch) None t)) (ran event t (outcome env (Ready batch) None t)))
    by true quiet = ap arranged (sym (quiet_outcome env batch None t quiet))
    by false quiet = refl
run_parts env (Bad at) event t = refl
run_parts env (PatternRefused pattern) event t = refl

key_parts : (env : Env) (chord : List ℕ) (choice : Option KeyChoice) (t : TreeValue) → TellsParts t (key_effect env chord choice t)
key_parts env chord None t = refl
key_parts env chord (Some choice) t = run_parts env choice.text.verdict (Some (bound chord choice.text.text)) t

map_parts : (env : Env) (t : TreeValue) (who : ℕ) (props : Props) (buffer : Buffer) (text : Option CommandText) (limit : Option Limit) → TellsParts t (map_effect env t who props buffer text limit)
map_parts env t who props buffer text None = refl
map_parts env t who props buffer text (Some limit) = refl

effect_parts : (env : Env) (mode : List ℕ) (t : TreeValue) (who : ℕ) (act : Act) → TellsParts t (effect env mode t who act)
effect_parts env mode t who (Run text) = run_parts env text.verdict None t
effect_parts env mode t who (Map props buffer text) = by (has_no_pixels buffer.size)
  where
    by : (b : Bool) → TellsParts t (cond b (refused answers.Empty t) (map_effect env t who props buffer text (limit_of props t)))
    by true = refl
    by false = map_parts env t who props buffer text (limit_of props t)
effect_parts env mode t who (Close v) = done_parts (window_answer t who v) (settled (detached v t)) t
effect_parts env mode t who (Retitle v title) = done_parts (window_answer t who v) (retitled v title t) t
effect_parts env mode t who (Urgent v on) = done_parts (window_answer t who v) (with_urgency v on t) t
effect_parts env mode t who Gone = refl
effect_parts env mode t who (OutputAdd plan) = done_parts (add_answer plan t) (added plan t) t
effect_parts env mode t who (OutputRemove name) = done_parts (remove_answer name t) (removed name t) t
effect_parts env mode t who (Reserve name edges) = done_parts (reserve_answer name t) (reserved name edges t) t
effect_parts env mode t who (Key chord choices) = key_parts env chord (chosen mode choices) t
effect_parts env mode t who (Tick payload) = refl
effect_parts env mode t who (Ack v serial) = by (is_window t who v)
  where
    by : (b : Bool) → TellsParts t (cond b (telling (commits.Acked v serial) (λ judge. ack_said (judge v serial)) t) (refused answers.NoView t))
    by true = refl
    by false = refl
effect_parts env mode t who (Give v buffer) = by (is_window t who v) (has_no_pixels buffer.size)
  where
    by : (b c : Bool) → TellsParts t (cond b (cond c (refused answers.Empty t) (telling (commits.Gave v buffer) (λ judge. answers.Done) t)) (refused answers.NoView t))
    by true true = refl
    by true false = refl
    by false c = refl
effect_parts env mode t who (Deadline number) = refl

pub arrangement_is : (start : Start) (history : List Entry) → arrangement (first start) (accepted_of start history) ≡ arranged (tree start history)
arrangement_is start [] = refl
arrangement_is start (entry ∷ history) =
    let told = (effect_after start history entry).told in
    accepted_parts (first start) told (accepted_of start history) (arrangement (first start) (accepted_of start history))
    ∙ (ap (parts_after told) (arrangement_is start history) ∙ effect_parts start.env (mode start history) (tree start history) entry.who entry.act)

-- ---- what is found is a beginning

-- the place is what is left of the history without some entries of its front
abbrev IsBehind : List commits.Entry → List commits.Entry → Type 0
IsBehind history place = (front : List commits.Entry) × (history ≡ front ++ place)

behind_step : (found : Option (List commits.Entry)) (passes : Bool) (entry : commits.Entry) (history place : List commits.Entry) → or_here found passes (entry ∷ history) ≡ Some place
    → ((z : List commits.Entry) → found ≡ Some z → IsBehind history z) → IsBehind (entry ∷ history) place
behind_step (Some z) passes entry history place h before =
    let same_place : z ≡ place = cc in
    let b = before z refl in
    (entry ∷ b.0, ap (λ y. entry ∷ y) (b.1 ∙ ap (λ y. b.0 ++ y) same_place))
behind_step None true entry history place h before = let same_place : entry ∷ history ≡ place = cc in ([], same_place)
behind_step None false entry history place h before = cc

behind_none : (passes : Bool) (place : List commits.Entry) → or_here None passes [] ≡ Some place → IsBehind [] place
behind_none true place h = let same_place : [] ≡ place = cc in ([], same_place)
behind_none false place h = cc

found_behind : (test : List commits.Entry → Bool) (n : ℕ) (history place : List commits.Entry) → first_when test n history ≡ Some place → IsBehind history place
found_behind test n [] place h = behind_none (leb n 0 && test []) place h
found_behind test n (entry ∷ history) place h =
    behind_step (first_when test n history) (leb n (length history + 1) && test (entry ∷ history)) entry history place h (λ z found. found_behind test n history z found)

accepted_length : (start : Start) (history : List Entry) → length (accepted_of start history) ≡ length history
accepted_length start [] = refl
accepted_length start (entry ∷ history) = ap suc (accepted_length start history)

accepted_drop : (start : Start) (n : ℕ) (history : List Entry) → drop n (accepted_of start history) ≡ accepted_of start (drop n history)
accepted_drop start zero history = refl
accepted_drop start (suc n) [] = refl
accepted_drop start (suc n) (entry ∷ history) = accepted_drop start n history

module _ (start : Start) (history : List Entry) where
  abbrev o : commits.Opening
  o = first start

  abbrev g : List commits.Entry
  g = accepted_of start history

  -- a place that was found is what was accepted of the beginning of its length
  place_is : (place : List commits.Entry) → IsBehind g place → place ≡ accepted_of start (beginning (length place) history)
  place_is place b =
      let n = length history - length place in
      let lengths : length g ≡ length b.0 + length place = ap length b.1 ∙ length-append b.0 place in
      let front : length b.0 ≡ n = omega (arith, lengths, accepted_length start history) in
      sym (drop_at b.0 place n front) ∙ (ap (drop n) (sym b.1) ∙ accepted_drop start n history)

  none_left : beginning 0 history ≡ []
  none_left = drop_of_length-le history (omega arith)

  -- the arrangement of the last of these transactions is that of the tree at its prefix
  transactions_parts : (i : ℕ) (transactions : List Transaction) → past o i g ≡ Some transactions → last_parts o transactions ≡ arranged (tree start (beginning (prefix_of transactions) history))
  transactions_parts i [] h = sym (ap (λ z. arranged (tree start z)) none_left)
  transactions_parts zero (t ∷ transactions) h = cc
  transactions_parts (suc i) (t ∷ transactions) h =
      let b = begun_by o g (past o i g) t transactions h in
      let behind = found_behind (differs o transactions) (length b.ended_place) g b.place b.found in
      let parts_are : t.parts ≡ arrangement o b.place = ap (λ (z : Transaction). z.parts) b.transaction_is in
      let prefix_is : t.prefix ≡ length b.place = ap (λ (z : Transaction). z.prefix) b.transaction_is in
      parts_are
      ∙ (ap (arrangement o) (place_is b.place behind)
      ∙ (arrangement_is start (beginning (length b.place) history) ∙ ap (λ n. arranged (tree start (beginning n history))) (sym prefix_is)))

  -- what is shown is the arrangement of the tree at the prefix of the frame
  pub current_is : current o g ≡ arranged (tree start (beginning (prefix o g) history))
  current_is = transactions_parts (done o g) (ended_transactions o g) (done_past o g)
