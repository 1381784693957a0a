-- Laws of what is told over messages and readings of events.
use Rattle.std.proofs.Common.{◌≡◌, ◌∙◌, refl, ap, sym, ℕ, if◌then◌else◌, ◌==◌, Bool, true, false, List, [], ◌∷◌, ◌++◌, map, Option, None, Some}
use Rattle.std.specs.Option.{option_map}
use Rattle.std.proofs.lemmas.List.{append-nil, append_assoc}
use Rattle.wm_history.specs.declared.look.View.{View}
use Rattle.wm_history.specs.declared.look.View.TheVariants as view
use Rattle.wm_frames.specs.declared.message.Message.{Message}
use Rattle.wm_talk.specs.Marks.{after_mark, after_marks, asked, events_at, Mark, read, told_at, told_over}
use Rattle.wm_talk.specs.Names.{names_in, value_of}
use Rattle.wm_talk.specs.Talking.{after_events, after_reply, events_by, since_of, since_when, subscribe, subscribed}
use Rattle.wm_talk.specs.Told.{event_message, first_tick, replied, reply_to, told}
use Rattle.wm_talk.specs.declared.got.Got.{Got}
use Rattle.wm_talk.specs.declared.names.Names.{Names}
use Rattle.wm_talk.specs.declared.since.Since.{Since}
use Rattle.wm_talk.specs.declared.talk.Talk.{Talk}

-- ---- a longer list

pub goes_on : (t : Talk) (marks more : List Mark) → told_over t (marks ++ more) ≡ told_over t marks ++ told_over (after_marks marks t) more
goes_on t [] more = refl
goes_on t (mark ∷ marks) more =
    ap (λ xs. told_at t mark ++ xs) (goes_on (after_mark mark t) marks more)
    ∙ sym (append_assoc (told_at t mark) (told_over (after_mark mark t) marks) (told_over (after_marks marks (after_mark mark t)) more))

-- ---- a reading

pub told_is : (t : Talk) (v : View) → told t v ≡ map event_message (events_at t (read v))
told_is t (view.Tree x) = refl
told_is t (view.Workspaces x) = refl
told_is t (view.Outputs x) = refl
told_is t (view.Marks x) = refl
told_is t (view.Modes x) = refl
told_is t (view.Mode x) = refl
told_is t (view.Config x) = refl
told_is t (view.State x) = refl
told_is t (view.Wants x) = refl
told_is t (view.Events x) = refl
told_is t (view.Lagged x) = refl

-- ---- names stay

-- what a subscription leaves as it was
stays : (before : Option ℕ) (asks : Bool) (last n : ℕ) → before ≡ Some n → since_when before asks last ≡ Some n
stays before asks last n e = rw e refl

if_stays : (b : Bool) (x y x' y' : Option ℕ) (n : ℕ) → (x ≡ Some n → x' ≡ Some n) → (y ≡ Some n → y' ≡ Some n) → (if b then x else y) ≡ Some n → (if b then x' else y') ≡ Some n
if_stays true x y x' y' n first second e = first e
if_stays false x y x' y' n first second e = second e

by_kind : (kind : ℕ) (s : Since) (names : Names) (last n : ℕ) → since_of s kind ≡ Some n → since_of (subscribed s names last) kind ≡ Some n
by_kind kind s names last n =
    if_stays (kind == 0) _ _ _ _ n (stays s.workspace names.workspace last n) (if_stays (kind == 1) _ _ _ _ n (stays s.output names.output last n)
    (if_stays (kind == 2) _ _ _ _ n (stays s.mode names.mode last n) (if_stays (kind == 3) _ _ _ _ n (stays s.window names.window last n)
    (if_stays (kind == 4) _ _ _ _ n (stays s.bars names.bars last n) (if_stays (kind == 5) _ _ _ _ n (stays s.binding names.binding last n)
    (if_stays (kind == 6) _ _ _ _ n (stays s.shutdown names.shutdown last n) (if_stays (kind == 7) _ _ _ _ n (stays s.tick names.tick last n) (λ e. e))))))))

subscribe_stays : (kind : ℕ) (asks : Option Names) (last : ℕ) (t : Talk) (n : ℕ) → since_of t.since kind ≡ Some n → since_of (subscribe asks last t).since kind ≡ Some n
subscribe_stays kind None last t n e = e
subscribe_stays kind (Some names) last t n e = by_kind kind t.since names last n e

reply_stays : (b : Bool) (kind : ℕ) (t next : Talk) (n : ℕ) → since_of t.since kind ≡ Some n → since_of next.since kind ≡ Some n → since_of (if b then next else t).since kind ≡ Some n
reply_stays true kind t next n was is = is
reply_stays false kind t next n was is = was

events_stay : (v : View) (t : Talk) → (after_events v t).since ≡ t.since
events_stay (view.Tree x) t = refl
events_stay (view.Workspaces x) t = refl
events_stay (view.Outputs x) t = refl
events_stay (view.Marks x) t = refl
events_stay (view.Modes x) t = refl
events_stay (view.Mode x) t = refl
events_stay (view.Config x) t = refl
events_stay (view.State x) t = refl
events_stay (view.Wants x) t = refl
events_stay (view.Events x) t = refl
events_stay (view.Lagged x) t = refl

mark_stays : (kind : ℕ) (mark : Mark) (t : Talk) (n : ℕ) → since_of t.since kind ≡ Some n → since_of (after_mark mark t).since kind ≡ Some n
mark_stays kind (asked m g) t n e =
    let next = subscribe (option_map names_in (value_of m.payload)) (events_by g) t in
    reply_stays (m.kind == 2) kind t next n e (subscribe_stays kind (option_map names_in (value_of m.payload)) (events_by g) t n e)
mark_stays kind (read v) t n e = rw (events_stay v t) e

pub names_stay : (t : Talk) (marks : List Mark) (kind n : ℕ) → since_of t.since kind ≡ Some n → since_of (after_marks marks t).since kind ≡ Some n
names_stay t [] kind n e = e
names_stay t (mark ∷ marks) kind n e = names_stay (after_mark mark t) marks kind n (mark_stays kind mark t n e)

-- ---- the first tick

none_again : (before after : Option ℕ) (n : ℕ) → before ≡ Some n → first_tick before after ≡ []
none_again before after n e = rw e refl

pub one_first_tick : (t : Talk) (marks : List Mark) (m : Message) (g : Got) (n : ℕ) → t.since.tick ≡ Some n → replied (after_marks marks t) m g ≡ reply_to m g
one_first_tick t marks m g n e =
    let now = after_marks marks t in
    ap (λ xs. reply_to m g ++ xs) (none_again now.since.tick (after_reply m g now).since.tick n (names_stay t marks 7 n e)) ∙ append-nil (reply_to m g)
