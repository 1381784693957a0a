-- Each event is told at most once, and in order.
use Rattle.std.proofs.Common.{◌≡◌, refl, subst, sym, ℕ, if◌then◌else◌, ◌==◌, ◌≤◌, Bool, true, false, cond, List, [], ◌∷◌, ◌++◌, Option, None, Some, arith}
use Rattle.std.specs.List.{filter}
use Rattle.std.specs.Option.{option_map}
use Rattle.std.proofs.lemmas.Option.{none-some}
use Rattle.wm_history.specs.declared.look.View.{View}
use Rattle.wm_history.specs.declared.look.View.TheVariants as view
use Rattle.wm_frames.specs.declared.message.Message.{Message}
use Rattle.wm_json.specs.declared.views.EventView.{EventView}
use Rattle.wm_talk.specs.Marks.{AllAnswer, asked, events_in, events_over, Mark, read, Rise}
use Rattle.wm_talk.specs.Names.{names_in, value_of}
use Rattle.wm_talk.specs.Talking.{above_by, after_events, after_reply, begins, events_by, last_number, NEW, or_else, since_of, since_when, some_since, subscribe, subscribed}
use Rattle.wm_talk.specs.Told.{is_due}
use Rattle.wm_talk.specs.declared.got.Got.{Got}
use Rattle.wm_talk.specs.declared.names.Names.{Names}
use Rattle.wm_talk.specs.declared.since.Since.{Since}
use Rattle.wm_talk.specs.declared.talk.Talk.{Talk}

-- ---- nothing is subscribed

some_is_there : (n : ℕ) → Some n ≡ None → ⊥
some_is_there n e = none-some n (sym e)

or_first : (a b : Option ℕ) → or_else a b ≡ None → a ≡ None
or_first None b e = refl
or_first (Some n) b e = e

or_second : (a b : Option ℕ) → or_else a b ≡ None → b ≡ None
or_second None b e = e
or_second (Some n) b e = absurd (some_is_there n e)

if_none : (b : Bool) (x y : Option ℕ) → x ≡ None → y ≡ None → (if b then x else y) ≡ None
if_none true x y first second = first
if_none false x y first second = second

-- no kind of event is subscribed where no name is
not_since : (s : Since) (kind : ℕ) → some_since s ≡ None → since_of s kind ≡ None
not_since s kind none =
    let from1 = or_second s.workspace _ none in
    let from2 = or_second s.output _ from1 in
    let from3 = or_second s.mode _ from2 in
    let from4 = or_second s.window _ from3 in
    let from5 = or_second s.bars _ from4 in
    let from6 = or_second s.binding _ from5 in
    let from7 = or_second s.shutdown _ from6 in
    if_none (kind == 0) _ _ (or_first s.workspace _ none) (if_none (kind == 1) _ _ (or_first s.output _ from1)
    (if_none (kind == 2) _ _ (or_first s.mode _ from2) (if_none (kind == 3) _ _ (or_first s.window _ from3)
    (if_none (kind == 4) _ _ (or_first s.bars _ from4) (if_none (kind == 5) _ _ (or_first s.binding _ from5)
    (if_none (kind == 6) _ _ (or_first s.shutdown _ from6) (if_none (kind == 7) _ _ from7 refl)))))))

nothing_due : (s : Since) (events : List EventView) → some_since s ≡ None → filter (is_due s) events ≡ []
nothing_due s [] none = refl
nothing_due s (event ∷ events) none = rw (not_since s event.kind none) (nothing_due s events none)

-- ---- the number that was told up to

-- up to which number a talk has told events
abbrev bound_by : Option ℕ → ℕ → ℕ
bound_by None above = 0
bound_by (Some n) above = above

abbrev bound : Talk → ℕ
bound t = bound_by (some_since t.since) t.above

when_none : (before : Option ℕ) (asks : Bool) (last : ℕ) → since_when before asks last ≡ None → before ≡ None
when_none None asks last e = refl
when_none (Some n) asks last e = e

or_less : (a b a' b' : Option ℕ) → (a' ≡ None → a ≡ None) → (b' ≡ None → b ≡ None) → or_else a' b' ≡ None → or_else a b ≡ None
or_less None b None b' first second e = second e
or_less (Some n) b None b' first second e = first refl
or_less a b (Some m) b' first second e = absurd (some_is_there m e)

-- nothing is subscribed before where nothing is after
none_before : (s : Since) (names : Names) (last : ℕ) → some_since (subscribed s names last) ≡ None → some_since s ≡ None
none_before s names last =
    or_less s.workspace _ _ _ (when_none s.workspace names.workspace last) (or_less s.output _ _ _ (when_none s.output names.output last)
    (or_less s.mode _ _ _ (when_none s.mode names.mode last) (or_less s.window _ _ _ (when_none s.window names.window last)
    (or_less s.bars _ _ _ (when_none s.bars names.bars last) (or_less s.binding _ _ _ (when_none s.binding names.binding last)
    (or_less s.shutdown _ _ _ (when_none s.shutdown names.shutdown last) (when_none s.tick names.tick last)))))))

least : (n : ℕ) → 0 ≤ n
least n = omega arith

bound_by_grows : (a b : Option ℕ) (above last : ℕ) → (b ≡ None → a ≡ None) → bound_by a above ≤ bound_by b (begins (above_by a above) last)
bound_by_grows None b above last before = least (bound_by b (begins None last))
bound_by_grows (Some n) (Some m) above last before = omega arith
bound_by_grows (Some n) None above last before = absurd (some_is_there n (before refl))

subscribe_grows : (asks : Option Names) (last : ℕ) (t : Talk) → bound t ≤ bound (subscribe asks last t)
subscribe_grows None last t = omega arith
subscribe_grows (Some names) last t = bound_by_grows (some_since t.since) (some_since (subscribed t.since names last)) t.above last (none_before t.since names last)

either_grows : (b : Bool) (t next : Talk) → bound t ≤ bound next → bound t ≤ bound (if b then next else t)
either_grows true t next grows = grows
either_grows false t next grows = omega arith

reply_grows : (m : Message) (g : Got) (t : Talk) → bound t ≤ bound (after_reply m g t)
reply_grows m g t =
    let asks = option_map names_in (value_of m.payload) in
    either_grows (m.kind == 2) t (subscribe asks (events_by g) t) (subscribe_grows asks (events_by g) t)

-- ---- numbers that rise

weaker : (m n : ℕ) (events : List EventView) → m ≤ n → Rise n events → Rise m events
weaker m n [] least rise = tt
weaker m n (event ∷ events) least rise = (omega (arith, least, rise.0), rise.1)

some_rise : (test : EventView → Bool) (n : ℕ) (events more : List EventView) → Rise n events → Rise (last_number n events) more → Rise n (filter test events ++ more)
some_rise test n [] more rise on = on
some_rise test n (event ∷ events) more rise on = by_test (test event) (some_rise test event.number events more rise.1 on)
  where
    by_test : (b : Bool) → Rise event.number (filter test events ++ more) → Rise n (cond b (event ∷ filter test events) (filter test events) ++ more)
    by_test true rest = (rise.0, rest)
    by_test false rest = weaker n event.number (filter test events ++ more) (omega (arith, rise.0)) rest

reading_rises : (a : Option ℕ) (s : Since) (above : ℕ) (events more : List EventView) → some_since s ≡ a → Rise above events
    → Rise (bound_by a (last_number above events)) more → Rise (bound_by a above) (filter (is_due s) events ++ more)
reading_rises None s above events more none rise on = rw (nothing_due s events none) on
reading_rises (Some n) s above events more is rise on = some_rise (is_due s) above events more rise on

-- what is after a reading, by its events
after_is : (v : View) (t : Talk) → after_events v t ≡ record { since = t.since; above = last_number t.above (events_in v) }
after_is (view.Tree x) t = refl
after_is (view.Workspaces x) t = refl
after_is (view.Outputs x) t = refl
after_is (view.Marks x) t = refl
after_is (view.Modes x) t = refl
after_is (view.Mode x) t = refl
after_is (view.Config x) t = refl
after_is (view.State x) t = refl
after_is (view.Wants x) t = refl
after_is (view.Events x) t = refl
after_is (view.Lagged x) t = refl

rises : (marks : List Mark) (t : Talk) → AllAnswer t marks → Rise (bound t) (events_over t marks)
rises [] t all = tt
rises (asked m g ∷ marks) t all =
    let next = after_reply m g t in
    weaker (bound t) (bound next) (events_over next marks) (reply_grows m g t) (rises marks next all.1)
rises (read v ∷ marks) t all =
    let next = after_events v t in
    reading_rises (some_since t.since) t.since t.above (events_in v) (events_over next marks) refl all.0
    (subst (λ next'. Rise (bound next') (events_over next marks)) (after_is v t) (rises marks next all.1))

pub told_once : (marks : List Mark) → AllAnswer NEW marks → Rise 0 (events_over NEW marks)
told_once marks all = rises marks NEW all
