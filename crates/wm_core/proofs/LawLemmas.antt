-- Laws of the frames of a history, by those of its transactions.
use Rattle.std.proofs.Common.{◌≡◌, ◌⊎◌, ◌≤◌, inl, inr, ℕ, zero, suc, ◌-◌, true, List, [], ◌∷◌, drop, length, Option, Some, None, is_some, refl, ap, sym, ◌∙◌}
use Rattle.std.proofs.lemmas.Bool.{or_right}
use Rattle.wm_base.specs.declared.geometry.Size.{Size}
use Rattle.wm_base.specs.declared.ids.ConId.{ConId}
use Rattle.wm_arrange.specs.Arranged.{arranged}
use Rattle.wm_arrange.specs.Sizes.{content_size}
use Rattle.wm_layouts.specs.declared.plan.Plan.{Plan}
use Rattle.wm_opens.specs.Opens.{is_window_of, windows_at}
use Rattle.wm_txn.specs.Commits.{done, ended_transactions, prefix, shown, transactions_up_to}
use Rattle.wm_txn.specs.Accepted.{accept}
use Rattle.wm_txn.specs.History as commits
use Rattle.wm_txn.specs.History.{is_open, maps, was_open}
use Rattle.wm_txn.specs.Schedule.{configure, last_parts}
use Rattle.wm_txn.proofs.AcceptedLemmas.{open_was}
use Rattle.wm_txn.proofs.LastingLemmas.{ends_twice, never_falls}
use Rattle.wm_txn.proofs.LastingLemmas as lasting
use Rattle.wm_txn.proofs.ReadingLemmas.{shown_is}
use Rattle.wm_txn.proofs.ShownLemmas.{has_configured_size, shows_answer, shows_opening}
use Rattle.wm_txn.proofs.StandingLemmas.{knows_windows}
use Rattle.wm_core.specs.DeskValue.{DeskValue, StandsFrom}
use Rattle.wm_history.specs.History.{Entry, Start, effect_after, entries, first, accepted_of, opening_of, tree}
use Rattle.wm_core.specs.Laws.{ContentsAreShown, EndsTwiceAtMost, FramesGoOn, OpenAreWindows, SecondAwaitsNobody, ShowsItsAnswer, ShowsTheOpening, ShowsOnlyConfigured, ShowsConfiguredSize, painted}
use Rattle.wm_history.specs.Screen.{beginning}
use Rattle.wm_history.proofs.BeginningLemmas.{current_is}
use Rattle.wm_core.proofs.ContentLemmas.{content_held, contents_held}
use Rattle.wm_history.proofs.OpenLemmas.{counted_is_found}
use Rattle.wm_core.proofs.ScreenLemmas.{beginning_step}
use Rattle.wm_core.proofs.StandsLemmas.{no_content}

-- a window that was open at a beginning was open since
was_since : (o : commits.Opening) (v : ConId) (start : Start) (n : ℕ) (history : List Entry) → was_open o v (entries start (drop n history)) ≡ true → was_open o v (entries start history) ≡ true
was_since o v start zero history h = h
was_since o v start (suc n) [] h = h
was_since o v start (suc n) (entry ∷ history) h = or_right (maps v (effect_after start history entry).told) (was_open o v (entries start history)) (was_since o v start n history h)

-- what the transactions accept of a step
abbrev accepts : Start → List Entry → Entry → commits.Entry
accepts start history entry = accept (first start) (effect_after start history entry).told (accepted_of start history)

pub frames_go_on : FramesGoOn
frames_go_on start history entry = never_falls (first start) (accepted_of start history) (accepts start history entry)

pub ends_twice_at_most : EndsTwiceAtMost
ends_twice_at_most start history entry = ends_twice (first start) (accepted_of start history) (accepts start history entry)

pub open_are_windows : OpenAreWindows
open_are_windows start d history s v = s.open_is v ∙ ap (λ t. is_window_of t v) s.tree_is

pub second_awaits_nobody : SecondAwaitsNobody
second_awaits_nobody start before after history entry s r t transactions place begun ends =
    lasting.second_awaits_nobody (first start) (entries start history) (effect_after start history entry).told before.txn after.txn s.commits r.commits t transactions place begun ends

-- ---- what a window shows

module _ (start : Start) (d : DeskValue) (history : List Entry) (s : StandsFrom start d history) (v : ConId) (size : Size) (content : content_size v (painted start history) ≡ Some size) where
  abbrev o : commits.Opening
  o = first start

  abbrev g : List commits.Entry
  g = accepted_of start history

  by_configure : (configured : Option (ℕ × Size)) → configure v (ended_transactions o g) ≡ configured → ShowsConfiguredSize start history v size ⊎ ShowsTheOpening start history v
  by_configure None e = inr (shows_opening o (entries start history) d.txn s.commits v size content e)
  by_configure (Some configured) e =
      let is : configured.1 ≡ size = has_configured_size o (entries start history) v size configured.1 configured.0 content e in
      inl (configured.0, e ∙ ap (λ z. Some (configured.0, z)) is, shows_answer o (entries start history) d.txn s.commits v configured.1 configured.0 e)

  -- the arrangement is that of the tree after a beginning, of which v is a window
  was_there : is_open o v (entries start (beginning (prefix o g) history)) ≡ true
  was_there =
      let n = prefix o g in
      let step = beginning_step start n history s.in_step in
      let t = tree start (beginning n history) in
      let some : is_some (content_size v (arranged t)) ≡ true = ap (λ parts. is_some (content_size v parts)) (sym (current_is start history)) ∙ ap is_some content in
      step.open_is v ∙ counted_is_found v t step.sound (content_held (λ w. 1 ≤ windows_at w t) v (arranged t) (contents_held t) some)

  shown_there : is_some (shown o v g) ≡ true
  shown_there =
      ap is_some (sym (shown_is o g d.txn s.commits v))
      ∙ (knows_windows o (entries start history) d.txn s.commits v
      ∙ was_since o v start (length history - prefix o g) history (open_was o v (entries start (beginning (prefix o g) history)) was_there))

pub shows_its_answer : ShowsItsAnswer
shows_its_answer start d history s v size content = by_configure start d history s v size content (configure v (ended_transactions (first start) (accepted_of start history))) refl

pub contents_are_shown : ContentsAreShown
contents_are_shown start d history s v size content = shown_there start d history s v size content

-- the opening of a plan shows no window
never_configured : (plan : Plan) (h : List commits.Entry) (v : ConId) (size : Size) → done (first (opening_of plan)) h ≡ 0 → content_size v (last_parts (first (opening_of plan)) (ended_transactions (first (opening_of plan)) h)) ≡ Some size → ⊥
never_configured plan h v size none_ended content =
    let o = first (opening_of plan) in
    let none : content_size v o.parts ≡ None = no_content plan (opening_of plan).opened o.parts refl refl v in
    let here : content_size v o.parts ≡ Some size = ap (λ n. content_size v (last_parts o (transactions_up_to o n h))) (sym none_ended) ∙ content in
    cc

pub shows_only_configured : ShowsOnlyConfigured
shows_only_configured d history s v size content =
    elim (shows_its_answer (opening_of d.plan) d history s v size content) [
      | inl configured ↦ configured
      | inr opened ↦ absurd (never_configured d.plan (accepted_of (opening_of d.plan) history) v size opened.0 content)
    ]
