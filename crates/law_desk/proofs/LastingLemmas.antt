-- What lasts through words, texts and steps lasts through each history.
use Rattle.std.proofs.Common.{◌≡◌, ◌≢◌, ℕ, Bool, true, false, cond, not, List, [], ◌∷◌, ◌++◌, Option, None, Some, is_some, unwrap_or, refl, ap, sym, subst, ◌∙◌}
use Rattle.wm_base.specs.declared.errors.Limit.{Limit}
use Rattle.wm_base.specs.declared.geometry.Edges.{Edges}
use Rattle.wm_base.specs.declared.ids.ConId.{ConId}
use Rattle.wm_base.specs.declared.plan.OutputPlan.{OutputPlan}
use Rattle.wm_base.specs.declared.properties.Props.{Props}
use Rattle.wm_history.proofs.GoneLemmas.{owned_containers, some_part, still_containers}
use Rattle.wm_core.proofs.OpeningLemmas.{fit_plans}
use Rattle.wm_history.specs.Act.{Act, CommandText, KeyChoice, Run, Map, Close, Retitle, Urgent, Gone, OutputAdd, OutputRemove, Reserve, Key, Tick, Ack, Give, Deadline}
use Rattle.wm_history.specs.declared.step.Answer.{Answer}
use Rattle.wm_history.specs.declared.step.Answer.TheVariants as answers
use Rattle.wm_apply.specs.Batches.{outcome}
use Rattle.wm_apply.specs.Quiet.{is_quiet}
use Rattle.wm_history.specs.Effect.{ack_said, come_to, done_or_refused, effect, has_no_pixels, idled, key_effect, limit_at, limit_of, map_effect, mapped, mapped_id, raised_unless_full, ran, refused, run_effect, telling, then_outcome, window_answer}
use Rattle.wm_history.specs.Keys.{bound, chosen}
use Rattle.wm_json.specs.declared.views.EventBody.{EventBody}
use Rattle.wm_swallow.specs.Swallowing.{filled_at, swallower}
use Rattle.wm_history.specs.History.{Entry, Start, mode, opening_of, tree}
use Rattle.wm_criteria.specs.declared.verdict.Verdict.{Verdict}
use Rattle.wm_criteria.specs.declared.verdict.Verdict.TheVariants.{Ready, Bad, PatternRefused}
use Rattle.wm_layouts.specs.declared.plan.Env.{Env}
use Rattle.wm_txn.specs.History as commits
use Rattle.wm_base.specs.declared.ids.Buffer.{Buffer}
use Rattle.law_desk.specs.LastingLaws.{IsInOrder}
use Rattle.wm_history.specs.Outputs.{add_answer, added, remove_answer, removed, reserve_answer, reserved, reserved_at, unless_full}
use Rattle.wm_forest.specs.Change.{is_window_kind}
use Rattle.wm_opens.specs.Opens.{is_window_of, is_window_part}
use Rattle.wm_forest.specs.declared.part.ConKind.{ConKind}
use Rattle.wm_forest.specs.declared.part.ConKind.TheVariants.{Split, Window, Placeholder}
use Rattle.wm_forest.specs.declared.part.ConPart.{ConPart}
use Rattle.wm_history.specs.Windows.{AreContainers, is_caller, is_window, kind_owner, owned, part_owner, retitled, with_urgency, with_urgent, without_urgent, without_windows}
use Rattle.wm_floats.specs.Fullscreen.{fills_alone}
use Rattle.law_fullscreen.proofs.SingleLemmas.{has_of, single_of, single_opening}
use Rattle.law_lasting.proofs.LastSteps.{has_added, has_calmed, has_closed, has_detached, has_mapped, has_removed, has_reserved, has_swallowed, has_titled, has_urged}
use Rattle.law_lasting.proofs.LastTexts.{HasLast, has_outcome, has_settled}
use Rattle.law_lasting.proofs.ScratchpadLemmas.{back, both_lasts, from, openings_empty}
use Rattle.law_lasting.proofs.SingleLasts.{single_lasts}
use Rattle.law_lasting.specs.Lasting.{Lasts}
use Rattle.wm_layouts.proofs.FitLemmas.{output_rect}
use Rattle.wm_layouts.specs.declared.plan.Plan.{Plan}
use Rattle.wm_layouts.specs.Plan.{IsSound as IsSoundPlan, is_fit_rect}
use Rattle.wm_spaces.specs.Coming.{free_name, output_added_refusal, output_added_tree}
use Rattle.wm_spaces.specs.Names.{output_named}
use Rattle.wm_forest.proofs.ForestLemmas.{at_absent, only_absent, outside_end}
use Rattle.wm_tree.proofs.OutputLemmas.{sound-with_output}
use Rattle.wm_tree.proofs.StartLemmas.{sound-opening}
use Rattle.wm_base.specs.declared.geometry.Size.{Size}
use Rattle.wm_forest.specs.declared.kind.KindEdit.TheVariants as edits
use Rattle.wm_forest.specs.declared.place.NewCon.TheVariants as new
use Rattle.wm_forest.specs.Change.{without}
use Rattle.wm_forest.specs.Forest.{end}
use Rattle.wm_forest.specs.Look.{con_kind, has, kind_of, only}
use Rattle.wm_tree.specs.Outputs.{passed_by_output}
use Rattle.wm_forest.specs.Recency.{lists, outside}
use Rattle.wm_tree.specs.Sound.{IsSound}
use Rattle.wm_tree.specs.TreeValue.{TreeValue, newcomer_place, workspace_of}
use Rattle.wm_forest.specs.RootId.{id}
use Rattle.wm_tree.specs.Words.{attached, detached, edited, settled, with_raised}

-- ---- nodes that are not there

-- the tree is as it was without a node that it does not have
none_out : (v : ConId) (t : TreeValue) → has v t.nodes ≡ false → detached v t ≡ t
none_out v t none =
    let nodes : without v t.nodes ≡ t.nodes = at_absent v (λ row part kids floats rest. rest) end t.nodes none in
    let alone : only v t.nodes ≡ end = only_absent v t.nodes none in
    let recent : outside (only v t.nodes) t.recency ≡ t.recency = ap (λ f. outside f t.recency) alone ∙ outside_end t.recency in
    let urgent : outside (only v t.nodes) t.urgent ≡ t.urgent = ap (λ f. outside f t.urgent) alone ∙ outside_end t.urgent in
    ap (λ f. record t { nodes = f; recency = outside (only v t.nodes) t.recency; urgent = outside (only v t.nodes) t.urgent }) nodes
    ∙ (ap (λ r. record t { recency = r; urgent = outside (only v t.nodes) t.urgent }) recent ∙ ap (λ u. record t { urgent = u }) urgent)

-- an output that is added has a name of its own and a rectangle within the limits, and passes none
may_add : (taken fit : Bool) (passed : Option Limit) → cond taken answers.NameTaken (cond (not fit) answers.BadRect (unless_full passed)) ≡ answers.Done → (taken ≡ false) × (fit ≡ true) × (passed ≡ None)
may_add true fit passed h = cc
may_add false false passed h = cc
may_add false true None h = (refl, refl, refl)
may_add false true (Some limit) h = cc

-- a caller's window is one
owned_kind : (who : ℕ) (kind : ConKind) → is_caller who (kind_owner kind) ≡ true → is_window_kind kind ≡ true
owned_kind who (Split layout last) h = cc
owned_kind who (Window props owner natural) h = refl
owned_kind who (Placeholder props swallows) h = cc

owned_part : (who : ℕ) (o : Option ConPart) → is_caller who (part_owner o) ≡ true → is_window_part o ≡ true
owned_part who None h = cc
owned_part who (Some part) h = owned_kind who part.kind h

answered : (who : ℕ) (v : ConId) (t : TreeValue) → window_answer t who v ≡ answers.Done → is_window_of t v ≡ true
answered who v t h = by (is_window t who v) refl h
  where
    by : (b : Bool) → is_window t who v ≡ b → cond b answers.Done answers.NoView ≡ answers.Done → is_window_of t v ≡ true
    by true e z = owned_part who (kind_of con_kind v t.nodes) e
    by false e z = cc

module _ {P : TreeValue → Type 0} (k : Lasts P) where
  has_without : (vs : List ConId) (t : TreeValue) → AreContainers vs t → HasLast P t → HasLast P (without_windows vs t)
  has_without [] t each g = g
  has_without (v ∷ vs) t each g = has_without vs (detached v t) (still_containers v vs t g.sound each.1) (by (has v t.nodes) refl)
    where
      by : (b : Bool) → has v t.nodes ≡ b → HasLast P (detached v t)
      by true e = has_detached k v t g (each.0 e)
      by false e = subst (HasLast P) (sym (none_out v t e)) g

  has_done : (a : Answer) (new t : TreeValue) → HasLast P t → (a ≡ answers.Done → HasLast P new) → HasLast P (done_or_refused a t new).tree
  has_done answers.Done new t g h = h refl
  has_done other new t g h = g

  has_run : (env : Env) (verdict : Verdict) (event : Option EventBody) (t : TreeValue) → HasLast P t → HasLast P (run_effect env verdict event t).tree
  has_run env (Ready batch) event t g = by (is_quiet batch.groups)
    where
      by : (b : Bool) → HasLast P (cond b (idled event (outcome env (Ready batch) None t)) (ran event t (outcome env (Ready batch) None t))).tree
      by true = has_outcome k env (Ready batch) None t g
      by false = has_outcome k env (Ready batch) None t g
  has_run env (Bad at) event t g = g
  has_run env (PatternRefused pattern) event t g = g

  has_key : (env : Env) (chord : List ℕ) (choice : Option KeyChoice) (t : TreeValue) → HasLast P t → HasLast P (key_effect env chord choice t).tree
  has_key env chord None t g = g
  has_key env chord (Some choice) t g = has_run env choice.text.verdict (Some (bound chord choice.text.text)) t g

  -- a window that is mapped, in its place: that of a newcomer, or that of the placeholder that takes it
  has_come : (who : ℕ) (props : Props) (natural : Size) (o : Option ConId) (t : TreeValue) → swallower props t ≡ o → limit_at o t ≡ None → HasLast P t
      → HasLast P (settled (raised_unless_full (unwrap_or o (id t.next_id)) (come_to o t who props natural)))
  has_come who props natural None t e room g =
      let there : TreeValue = attached (newcomer_place t) (new.Window props who natural) t in
      has_mapped k who props natural (fills_alone (id t.next_id) (workspace_of there (id t.next_id)) there) (id t.next_id) t g room
  has_come who props natural (Some c) t e room g =
      let there : TreeValue = edited c (edits.Fill props who natural) t in
      let raises : Bool = fills_alone c (workspace_of there c) there in
      subst (λ z. HasLast P (settled (cond raises (with_raised c z) z))) (ap (λ o. filled_at o props who natural t) e) (has_swallowed k props who natural raises c t g)

  -- the text that a map brings
  has_then : (env : Env) (text : Option CommandText) (c : ConId) (t : TreeValue) → HasLast P t → HasLast P (then_outcome env text c t).tree
  has_then env None c t g = g
  has_then env (Some text) c t g = has_outcome k env text.verdict (Some c) t g

  has_map : (env : Env) (who : ℕ) (props : Props) (buffer : Buffer) (text : Option CommandText) (o : Option Limit) (t : TreeValue) → limit_of props t ≡ o → HasLast P t
      → HasLast P (map_effect env t who props buffer text o).tree
  has_map env who props buffer text (Some limit) t e g = g
  has_map env who props buffer text None t e g =
      has_then env text (mapped_id props t) (mapped t who props buffer.size) (has_come who props buffer.size (swallower props t) t refl e g)

  has_urgency : (v : ConId) (on : Bool) (t : TreeValue) → is_window_of t v ≡ true → HasLast P t → HasLast P (with_urgency v on t)
  has_urgency v true t window g = has_settled k (with_urgent v t) (step (lists v t.urgent) refl)
    where
      step : (b : Bool) → lists v t.urgent ≡ b → HasLast P (cond b t (record t { urgent = t.urgent ++ v ∷ [] }))
      step true e = g
      step false e = has_urged k v t g window e
  has_urgency v false t window g = has_settled k (without_urgent v t) (has_calmed k v t g)

  has_reserve : (o : Option ConId) (edges : Edges) (t : TreeValue) → HasLast P t → HasLast P (settled (reserved_at o edges t))
  has_reserve None edges t g = has_settled k t g
  has_reserve (Some o) edges t g = has_settled k (reserved_at (Some o) edges t) (has_reserved k o edges t g)

  has_add : (plan : OutputPlan) (t : TreeValue) → HasLast P t → add_answer plan t ≡ answers.Done → HasLast P (added plan t)
  has_add plan t g h =
      let may = may_add (is_some (output_named plan.name t)) (is_fit_rect plan.rect) (passed_by_output t.nodes t.next_id) h in
      let fine : output_added_refusal plan t ≡ None = rw (may.0, may.2) refl in
      has_settled k (output_added_tree plan t) (has_added k plan t g fine (sound-with_output plan (free_name t) t (output_rect plan.rect may.1) may.2 g.sound))

  -- a step keeps what lasts
  pub has_after : (env : Env) (mode : List ℕ) (t : TreeValue) (who : ℕ) (act : Act) → HasLast P t → HasLast P (effect env mode t who act).tree
  has_after env mode t who (Run text) g = has_run env text.verdict None t g
  has_after env mode t who (Map props buffer text) g = by (has_no_pixels buffer.size)
    where
      by : (b : Bool) → HasLast P (cond b (refused answers.Empty t) (map_effect env t who props buffer text (limit_of props t))).tree
      by true = g
      by false = has_map env who props buffer text (limit_of props t) t refl g
  has_after env mode t who (Close v) g = has_done (window_answer t who v) (settled (detached v t)) t g (λ h. has_closed k v t g (is_con h))
    where
      is_con : window_answer t who v ≡ answers.Done → kind_of con_kind v t.nodes ≢ None
      is_con h = by (is_window t who v) refl h
        where
          by : (b : Bool) → is_window t who v ≡ b → cond b answers.Done answers.NoView ≡ answers.Done → kind_of con_kind v t.nodes ≢ None
          by true e z = some_part who (kind_of con_kind v t.nodes) e
          by false e z = cc
  has_after env mode t who (Retitle v title) g = has_done (window_answer t who v) (retitled v title t) t g (λ h. has_settled k _ (has_titled k v title t g))
  has_after env mode t who (Urgent v on) g = has_done (window_answer t who v) (with_urgency v on t) t g (λ h. has_urgency v on t (answered who v t h) g)
  has_after env mode t who Gone g = has_settled k (without_windows (owned who t) t) (has_without (owned who t) t (owned_containers who t) g)
  has_after env mode t who (OutputAdd plan) g = has_done (add_answer plan t) (added plan t) t g (λ h. has_add plan t g h)
  has_after env mode t who (OutputRemove name) g = has_done (remove_answer name t) (removed name t) t g (λ h. has_settled k _ (has_removed k name t g))
  has_after env mode t who (Reserve name edges) g = has_done (reserve_answer name t) (reserved name edges t) t g (λ h. has_reserve (output_named name t) edges t g)
  has_after env mode t who (Key chord choices) g = has_key env chord (chosen mode choices) t g
  has_after env mode t who (Tick payload) g = g
  has_after env mode t who (Ack v serial) g = by (is_window t who v)
    where
      by : (b : Bool) → HasLast P (cond b (telling (commits.Acked v serial) (λ judge. ack_said (judge v serial)) t) (refused answers.NoView t)).tree
      by true = g
      by false = g
  has_after env mode t who (Give v buffer) g = by (is_window t who v) (has_no_pixels buffer.size)
    where
      by : (b c : Bool) → HasLast P (cond b (cond c (refused answers.Empty t) (telling (commits.Gave v buffer) (λ judge. answers.Done) t)) (refused answers.NoView t)).tree
      by true true = g
      by true false = g
      by false c = g
  has_after env mode t who (Deadline number) g = g

  -- and so does each history
  pub has_history : (start : Start) (history : List Entry) → HasLast P start.opened → HasLast P (tree start history)
  has_history start [] g = g
  has_history start (entry ∷ history) g = has_after start.env (mode start history) (tree start history) entry.who entry.act (has_history start history g)

-- ---- trees in order

pub histories_stay : (start : Start) (history : List Entry) → IsInOrder start.opened → IsInOrder (tree start history)
histories_stay start history o =
    let pad = has_history both_lasts start history (from start.opened o.sound o.scratchpad) in
    let one = has_history single_lasts start history (record { sound = o.sound; held = single_of start.opened o.sound o.fullscreen }) in
    record { sound = pad.sound; scratchpad = back (tree start history) pad; fullscreen = has_of (tree start history) one.sound one.held }

pub histories_are : (plan : Plan) (history : List Entry) → IsSoundPlan plan → IsInOrder (tree (opening_of plan) history)
histories_are plan history p =
    let s : IsSound (opening_of plan).opened = sound-opening plan.outputs plan.border plan.inner plan.outer p.some p.few (fit_plans plan.outputs plan.outputs refl p.fit) in
    histories_stay (opening_of plan) history
    (record {
      sound = s;
      scratchpad = (openings_empty plan.outputs plan.border plan.inner plan.outer).1;
      fullscreen = has_of (opening_of plan).opened s (single_opening plan.outputs plan.border plan.inner plan.outer);
    })
