-- A desk that stood for a history stands for it with one more entry.
use Rattle.std.proofs.Common.{◌≡◌, ℕ, suc, ◌+◌, ◌≤◌, Bool, true, false, cond, not, ◌&&◌, ◌||◌, List, [], ◌∷◌, length, Option, Some, None, is_some, refl, ap, ap₂, sym, subst, ◌++◌, ◌∙◌, arith}
use Rattle.std.proofs.lemmas.Bool.{false_from_ne_true, false≢true, or_right}
use Rattle.std.specs.List.{list_any}
use Rattle.wm_base.specs.declared.ids.Buffer.{Buffer}
use Rattle.wm_base.specs.declared.ids.ConId.{ConId}
use Rattle.wm_forest.specs.Look.{same}
use Rattle.wm_tree.specs.Sound.{IsSound}
use Rattle.wm_tree.specs.TreeValue.{TreeValue, opening_outputs}
use Rattle.wm_forest.specs.RootId.{id, root}
use Rattle.wm_layouts.specs.declared.plan.Plan.{Plan}
use Rattle.wm_arrange.specs.declared.parts.Placed.{Placed}
use Rattle.wm_arrange.specs.Arranged.{arranged}
use Rattle.wm_arrange.specs.Sizes.{content_size}
use Rattle.wm_txn.specs.History as commits
use Rattle.wm_txn.specs.History.{is_fresh, is_open, maps, open_after, was_open}
use Rattle.wm_txn.specs.Machine.{TxnValue, configured_of}
use Rattle.wm_txn.specs.Stands as transactions
use Rattle.wm_txn.proofs.AcceptedLemmas.{open_was}
use Rattle.wm_txn.proofs.StandingLemmas.{still_stands}
use Rattle.wm_opens.specs.Opens.{is_window_of, may_open, window_at, windows_at}
use Rattle.wm_opens.proofs.PlaceholderLemmas.{no_other_may_open}
use Rattle.wm_json.specs.declared.views.EventBody.{EventBody}
use Rattle.wm_core.specs.DeskValue.{DeskValue, Stands, StandsFrom, judge_of, may_come}
use Rattle.wm_history.specs.Follows.{Follows, kill_after, kill_in}
use Rattle.wm_history.specs.Frame.{quad_of, quads, what_of}
use Rattle.wm_changes.specs.Changes.{changes}
use Rattle.wm_kept.specs.Log.{Log, kept_of}
use Rattle.wm_history.specs.Events.{IsToldOn, events, later_events, told_by}
use Rattle.wm_history.proofs.EventLemmas.{later_alone, nothing_by, told_nothing}
use Rattle.wm_history.specs.Effect.{Effect, Judge, changing, closed, mode_after, passing, rearranged, refused, telling}
use Rattle.wm_history.specs.History.{Entry, Start, answer, done_by, effect_after, entries, first, judged, kill_of, mode, opening_of, tree}
use Rattle.wm_core.proofs.ContentLemmas.{content_held, contents_held}
use Rattle.wm_history.proofs.FollowLemmas.{closed_are, comes, opens}
use Rattle.wm_history.proofs.LookLemmas.{wants_same}
use Rattle.wm_history.proofs.OwnedLemmas.{owned_window}
use Rattle.wm_history.proofs.OpenLemmas.{counted_is_found, found_is_counted}
use Rattle.wm_core.proofs.ScreenLemmas.{last_sound}
use Rattle.wm_history.specs.Look.{wants}
use Rattle.wm_history.specs.Windows.{owned_in_order}
use Rattle.wm_history.specs.declared.state.Want.{Want}
use Rattle.wm_history.specs.declared.step.Answer.{Answer}
use Rattle.wm_txn.proofs.ReadingLemmas.{configured_is}
use Rattle.wm_txn.specs.Commits.{configured}
use Rattle.wm_txn.specs.Accepted.{accepted}
use Rattle.wm_txn.specs.Windows.{find}
use Rattle.wm_forest.specs.Counts.{count}
use Rattle.wm_base.specs.declared.geometry.Size.{Size}
use Rattle.wm_base.specs.declared.plan.OutputPlan.{OutputPlan}

pub entries_length : (start : Start) (history : List Entry) → length (entries start history) ≡ length history
entries_length start [] = refl
entries_length start (entry ∷ history) = ap suc (entries_length start history)

or_false : (b : Bool) → (b || false) ≡ b
or_false true = refl
or_false false = refl

module _ (d : DeskValue) (start : Start) (history : List Entry) (s : StandsFrom start d history) where
  abbrev o : commits.Opening
  o = first start

  abbrev h : List commits.Entry
  h = entries start history

  -- as many entries came as steps were taken
  pub place : length h ≡ d.steps
  place = entries_length start history ∙ sym s.counted

  -- what an entry does on the desk it does after the history
  pub effect_there : (entry : Entry) (e : Effect) → done_by d.plan.env d.mode d.tree entry ≡ e → effect_after start history entry ≡ e
  effect_there entry e is = ap (λ m. done_by start.env m (tree start history) entry) (sym s.mode_is) ∙ (ap₂ (λ env t. done_by env d.mode t entry) (sym s.env_is) (sym s.tree_is) ∙ is)

  -- and is answered as it is there
  pub answered : (entry : Entry) (e : Effect) → done_by d.plan.env d.mode d.tree entry ≡ e → e.answer (judged start history) ≡ answer start history entry
  answered entry e is = ap (λ (e : Effect). e.answer (judged start history)) (sym (effect_there entry e is))

  -- a step with this effect
  module _ (entry : Entry) (e : Effect) (txn : TxnValue) (log : Log) (kills : List (ℕ × ℕ)) (is : done_by d.plan.env d.mode d.tree entry ≡ e) (logged : IsToldOn d.events (told_by d.tree d.mode d.stopped e) log)
      (noted : (v : ConId) → may_come e.tree v ≡ true → kill_in kills v ≡ kill_after e.closes (d.steps + 1) v (kill_in d.kills v)) (came : (v : ConId) → may_come e.tree v ≡ true → may_come d.tree v ≡ true)
      (stands : transactions.Stands o (e.told ∷ h) txn) (same_open : (v : ConId) → open_after e.told v (is_window_of d.tree v) ≡ is_window_of e.tree v)
      (new : (v : ConId) → may_open e.tree v ≡ true → maps v e.told ≡ false) (later : (v : ConId) → may_open e.tree v ≡ true → may_open d.tree v ≡ true) (sound_next : IsSound e.tree)
    where
      there : e ≡ effect_after start history entry
      there = sym (effect_there entry e is)

      entries_there : e.told ∷ h ≡ entries start (entry ∷ history)
      entries_there = ap (λ (e : Effect). e.told ∷ h) there

      tree_there : e.tree ≡ tree start (entry ∷ history)
      tree_there = ap (λ (e : Effect). e.tree) there

      given : (v : ConId) → may_open e.tree v ≡ true → (maps v e.told || was_open o v h) ≡ false
      given v above = ap₂ (λ a b. a || b) (new v above) (s.given v (later v above))

      kill_there : (v : ConId) → may_come e.tree v ≡ true → kill_in kills v ≡ kill_after (effect_after start history entry).closes (length history + 1) v (kill_of start history v)
      kill_there v may =
          noted v may
          ∙ (ap (λ (e : Effect). kill_after e.closes (d.steps + 1) v (kill_in d.kills v)) there
          ∙ ap₂ (λ n k. kill_after (effect_after start history entry).closes (n + 1) v k) s.counted (s.kills_are v (came v may)))

      open_there : (v : ConId) → is_open o v (entries start (entry ∷ history)) ≡ is_window_of e.tree v
      open_there v = subst (λ z. is_open o v z ≡ is_window_of e.tree v) entries_there (ap (open_after e.told v) (s.open_is v) ∙ same_open v)

      events_there : log ≡ kept_of (events start (entry ∷ history))
      events_there =
          let all = events start history in
          logged all s.events_are
          ∙ (ap₂ (λ t m. kept_of (all ++ told_by t m d.stopped e)) s.tree_is s.mode_is
          ∙ ap₂ (λ b x. kept_of (all ++ told_by (tree start history) (mode start history) b x)) s.stopped_is there)

      pub stands_next : StandsFrom start (record { plan = d.plan; steps = d.steps + 1; tree = e.tree; txn = txn; mode = mode_after e.mode d.mode; stopped = d.stopped || e.stops; events = log; kills = kills }) (entry ∷ history)
      stands_next = record {
        env_is = s.env_is;
        config_is = s.config_is;
        counted = omega (arith, s.counted);
        tree_is = tree_there;
        in_step = (record { sound = subst IsSound tree_there sound_next; open_is = λ v. open_there v ∙ ap (λ t. is_window_of t v) tree_there }, s.in_step);
        mode_is = ap₂ mode_after (ap (λ (e : Effect). e.mode) there) s.mode_is;
        stopped_is = ap₂ (λ a b. a || b) s.stopped_is (ap (λ (e : Effect). e.stops) there);
        events_are = events_there;
        kills_are = kill_there;
        commits = subst (λ z. transactions.Stands o z txn) entries_there stands;
        open_is = open_there;
        given = λ v above. subst (λ z. was_open o v z ≡ false) entries_there (given v above);
      }

  -- a step that tells the transactions something, and leaves the tree
  pub stands_told : (entry : Entry) (told : commits.Entry) (said : Judge → Answer) (txn : TxnValue) → done_by d.plan.env d.mode d.tree entry ≡ telling told said d.tree
      → ((v : ConId) (b : Bool) → open_after told v b ≡ b) → ((v : ConId) → maps v told ≡ false) → transactions.Stands o (told ∷ h) txn
      → StandsFrom start (record { plan = d.plan; steps = d.steps + 1; tree = d.tree; txn = txn; mode = d.mode; stopped = d.stopped; events = d.events; kills = d.kills }) (entry ∷ history)
  stands_told entry told said txn is same_open new stands =
      subst (λ b. StandsFrom start (record { plan = d.plan; steps = d.steps + 1; tree = d.tree; txn = txn; mode = d.mode; stopped = b; events = d.events; kills = d.kills }) (entry ∷ history)) (or_false d.stopped)
      (stands_next entry (telling told said d.tree) txn d.events d.kills is (told_nothing d.events (told_by d.tree d.mode d.stopped (telling told said d.tree)) (nothing_by d.tree d.mode d.stopped)) (λ v may. refl) (λ v may. may) stands (λ v. same_open v (is_window_of d.tree v)) (λ v above. new v) (λ v may. may)
      (subst IsSound (sym s.tree_is) (last_sound start history s.in_step)))

  -- a step that is refused is counted
  pub stands_counted : (entry : Entry) (said : Answer) → done_by d.plan.env d.mode d.tree entry ≡ refused said d.tree
      → StandsFrom start (record { plan = d.plan; steps = d.steps + 1; tree = d.tree; txn = d.txn; mode = d.mode; stopped = d.stopped; events = d.events; kills = d.kills }) (entry ∷ history)
  stands_counted entry said is = stands_told entry commits.Still (λ judge. said) d.txn is (λ v b. refl) (λ v. refl) (still_stands o h d.txn s.commits)

  -- a step that leaves the tree, and tells the transactions nothing, is counted
  pub stands_passed : (entry : Entry) (said : Answer) (set : Option (List ℕ)) (stops : Bool) (event : Option EventBody) (log : Log) → done_by d.plan.env d.mode d.tree entry ≡ passing said d.tree set stops event
      → IsToldOn d.events (later_events d.mode d.stopped set stops event) log
      → StandsFrom start (record { plan = d.plan; steps = d.steps + 1; tree = d.tree; txn = d.txn; mode = mode_after set d.mode; stopped = d.stopped || stops; events = log; kills = d.kills }) (entry ∷ history)
  stands_passed entry said set stops event log is logged =
      stands_next entry (passing said d.tree set stops event) d.txn log d.kills is (subst (λ bodies. IsToldOn d.events bodies log) (sym (later_alone d.tree d.mode d.stopped set stops event)) logged) (λ v may. refl) (λ v may. may) (still_stands o h d.txn s.commits) (λ v. refl) (λ v above. refl) (λ v may. may)
      (subst IsSound (sym s.tree_is) (last_sound start history s.in_step))

  -- ---- a step that leaves a tree

  module _ (t : TreeValue) (fresh : Option (ConId × Buffer)) (sound : IsSound d.tree) (sound_new : IsSound t) (f : Follows d.tree t fresh) where
    -- its arrangement may come
    pub fits : transactions.IsFit o h (arranged t) fresh (closed d.tree t fresh)
    fits = record {
      new = λ v is. s.given v (f.fresh_id v is).0;
      shows = λ v there.
          ap (λ b. (is_fresh v fresh || b) && not (list_any (same v) (closed d.tree t fresh))) (s.open_is v)
          ∙ (opens d.tree t fresh sound sound_new f v ∙ counted_is_found v t sound_new (content_held (λ w. 1 ≤ windows_at w t) v (arranged t) (contents_held t) there));
    }

    not_fresh : (v : ConId) → may_open t v ≡ true → (b : Bool) → is_fresh v fresh ≡ b → b ≡ false
    not_fresh v above true e = absurd (false≢true (sym (f.fresh_id v e).1 ∙ above))
    not_fresh v above false e = refl

    -- an id that may open before may open after
    might : (v : ConId) → may_open t v ≡ true → may_open d.tree v ≡ true
    might v late = no_other_may_open d.tree t v sound sound_new f.opens late

    -- an id of the old tree that may still open is none of its windows
    not_yet : (v : ConId) → may_open d.tree v ≡ true → is_window_of d.tree v ≡ false
    not_yet v late = sym (s.open_is v) ∙ false_from_ne_true (is_open o v h) (λ opened. let bad : false ≡ true = sym (s.given v late) ∙ open_was o v h opened in cc)

    -- a window of the new tree was one, or might open
    came : (v : ConId) (b c : Bool) → is_window_of t v ≡ b → may_open t v ≡ c → (b || c) ≡ true → may_come d.tree v ≡ true
    came v true c there late may = by (is_fresh v fresh) refl (comes d.tree t fresh sound sound_new f v there)
      where
        by : (b : Bool) → is_fresh v fresh ≡ b → (b || is_window_of d.tree v) ≡ true → may_come d.tree v ≡ true
        by true e was = or_right (is_window_of d.tree v) (may_open d.tree v) (f.fresh_id v e).0
        by false e was = ap (λ b. b || may_open d.tree v) was
    came v false true there late may = or_right (is_window_of d.tree v) (may_open d.tree v) (might v late)
    came v false false there late may = cc

    -- and is none of those that went
    pub not_gone : (v : ConId) → may_come t v ≡ true → list_any (same v) (closed d.tree t fresh) ≡ false
    not_gone v may = closed_are d.tree t fresh sound sound_new f v ∙ by (is_window_of t v) (may_open t v) refl refl may
      where
        none : (a : Bool) → (a && false) ≡ false
        none true = refl
        none false = refl

        by : (b c : Bool) → is_window_of t v ≡ b → may_open t v ≡ c → (b || c) ≡ true → ((is_fresh v fresh || is_window_of d.tree v) && not b) ≡ false
        by true c there late may = none (is_fresh v fresh || is_window_of d.tree v)
        by false true there late may = rw (not_fresh v late (is_fresh v fresh) refl, not_yet v (might v late)) refl
        by false false there late may = cc

    pub stands_left : (entry : Entry) (said : Answer) (txn : TxnValue) (set : Option (List ℕ)) (stops : Bool) (ids : List ConId) (event : Option EventBody) (log : Log) (kills : List (ℕ × ℕ)) → done_by d.plan.env d.mode d.tree entry ≡ changing said d.tree t fresh set stops ids event
        → IsToldOn d.events (changes d.tree (arranged d.tree) t (arranged t) ++ later_events d.mode d.stopped set stops event) log
        → ((v : ConId) → may_come t v ≡ true → kill_in kills v ≡ kill_after ids (d.steps + 1) v (kill_in d.kills v)) → transactions.Stands o (rearranged d.tree t fresh ∷ h) txn
        → StandsFrom start (record { plan = d.plan; steps = d.steps + 1; tree = t; txn = txn; mode = mode_after set d.mode; stopped = d.stopped || stops; events = log; kills = kills }) (entry ∷ history)
    stands_left entry said txn set stops ids event log kills is logged noted stands =
        stands_next entry (changing said d.tree t fresh set stops ids event) txn log kills is logged noted (λ v may. came v (is_window_of t v) (may_open t v) refl refl may) stands (opens d.tree t fresh sound sound_new f) (λ v above. not_fresh v above (is_fresh v fresh) refl) might sound_new

  -- ---- what is asked of windows

  pub wants_seen : (who serial kill : ℕ) (windows : List ConId) (found : List Want) → windows ≡ owned_in_order who d.tree → found ≡ wants (λ v. configured_of (find v d.txn.windows)) (kill_in d.kills) serial kill windows
      → found ≡ wants (λ v. configured o v (accepted o h)) (kill_of start history) serial kill (owned_in_order who (tree start history))
  wants_seen who serial kill windows found listed made =
      made
      ∙ (ap (wants (λ v. configured_of (find v d.txn.windows)) (kill_in d.kills) serial kill) listed
      ∙ (wants_same (λ v. configured_of (find v d.txn.windows)) (λ v. configured o v (accepted o h)) (kill_in d.kills) (kill_of start history) serial kill (owned_in_order who d.tree)
      (configured_is o (accepted o h) d.txn s.commits) (λ v there. s.kills_are v (ap (λ b. b || may_open d.tree v) (owned_window who d.tree v there)))
      ∙ ap (λ z. wants (λ v. configured o v (accepted o h)) (kill_of start history) serial kill (owned_in_order who z)) s.tree_is))

-- ---- the opening

zero_by : (b : Bool) → cond {A = ℕ} b 0 0 ≡ 0
zero_by true = refl
zero_by false = refl

no_windows : (v : ConId) (k last inner outer : ℕ) (plans : List OutputPlan) → count (window_at v) (opening_outputs k last inner outer plans) ≡ 0
no_windows v k last inner outer [] = refl
no_windows v k last inner outer (plan ∷ plans) = omega (arith, zero_by (same (id (k + 1)) v), zero_by (same (id (last + k)) v), no_windows v (k + 1) last inner outer plans)

-- the opening of a plan has no windows
opens_empty : (plan : Plan) (v : ConId) → windows_at v (opening_of plan).opened ≡ 0
opens_empty plan v = omega (arith, zero_by (same root v), no_windows v 1 (1 + length plan.outputs) plan.inner plan.outer plan.outputs)

none_by : (o : Option Size) → (is_some o ≡ true → ⊥) → o ≡ None
none_by None h = refl
none_by (Some size) h = absurd (h refl)

-- nor does its arrangement have contents
pub no_content : (plan : Plan) (t : TreeValue) (parts : List Placed) → t ≡ (opening_of plan).opened → parts ≡ arranged t → (v : ConId) → content_size v parts ≡ None
no_content plan t parts opened laid v =
    ap (content_size v) laid
    ∙ none_by (content_size v (arranged t)) (λ some. let seen : 1 ≤ windows_at v t = content_held (λ w. 1 ≤ windows_at w t) v (arranged t) (contents_held t) some in omega (arith, ap (windows_at v) opened, opens_empty plan v))

not_window : (t : TreeValue) (v : ConId) → IsSound t → windows_at v t ≡ 0 → (b : Bool) → is_window_of t v ≡ b → false ≡ b
not_window t v sound none true e = absurd (omega (arith, found_is_counted v t sound e))
not_window t v sound none false e = refl

pub opens_no_window : (plan : Plan) (t : TreeValue) → t ≡ (opening_of plan).opened → IsSound t → (v : ConId) → is_window_of t v ≡ false
opens_no_window plan t opened sound v = sym (not_window t v sound (ap (windows_at v) opened ∙ opens_empty plan v) (is_window_of t v) refl)

-- a desk at the opening of its plan stands for the history without entries
pub stands_start : (plan : Plan) (t : TreeValue) (txn : TxnValue) (mode : List ℕ) (log : Log) (kills : List (ℕ × ℕ)) → mode ≡ (opening_of plan).mode → log ≡ kept_of [] → t ≡ (opening_of plan).opened → IsSound t → kills ≡ [] → transactions.Stands (first (opening_of plan)) [] txn
    → Stands (record { plan = plan; steps = 0; tree = t; txn = txn; mode = mode; stopped = false; events = log; kills = kills }) []
stands_start plan t txn mode log kills default told opened sound none stands = record {
  env_is = refl;
  config_is = refl;
  counted = refl;
  tree_is = opened;
  in_step = record { sound = subst IsSound opened sound; open_is = λ v. sym (opens_no_window plan t opened sound v) ∙ ap (λ z. is_window_of z v) opened };
  mode_is = default;
  stopped_is = refl;
  events_are = told;
  kills_are = λ v may. ap (λ m. kill_in m v) none;
  commits = stands;
  open_is = λ v. sym (opens_no_window plan t opened sound v);
  given = λ v above. refl;
}

-- ---- frames

-- buffers that agree make the same quads
pub quads_same : (f g : ConId → Option Buffer) (parts : List Placed) → ((v : ConId) → f v ≡ g v) → quads f parts ≡ quads g parts
quads_same f g [] h = refl
quads_same f g (p ∷ parts) h = ap₂ (λ x y. quad_of p (what_of p.part x) ++ y) (h p.con) (quads_same f g parts h)

-- what an effect is answered, where it is what the entry does
pub there_by : (d : DeskValue) (entry : Entry) (e : Effect) → done_by d.plan.env d.mode d.tree entry ≡ e → e.answer (judge_of d.txn) ≡ (done_by d.plan.env d.mode d.tree entry).answer (judge_of d.txn)
there_by d entry e is = ap (λ (e : Effect). e.answer (judge_of d.txn)) (sym is)
