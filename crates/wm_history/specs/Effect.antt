-- What each step does to a desk: a case for each step.
use Rattle.std.specs.Prelude.{ℕ, ◌==◌, ◌||◌, not, Bool, false, if◌then◌else◌, List, [], ◌∷◌, ◌++◌, filter, map, Option, None, Some, unwrap_or, Result, Ok, Err}
use Rattle.wm_arrange.specs.Arranged.{arranged}
use Rattle.wm_base.specs.declared.errors.Limit.{Limit}
use Rattle.wm_base.specs.declared.geometry.Size.{Size}
use Rattle.wm_base.specs.declared.ids.Buffer.{Buffer}
use Rattle.wm_base.specs.declared.ids.ConId.{ConId}
use Rattle.wm_base.specs.declared.properties.Props.{Props}
use Rattle.wm_forest.specs.declared.kind.KindEdit.TheVariants as edits
use Rattle.wm_forest.specs.declared.place.NewCon.TheVariants as new
use Rattle.wm_forest.specs.Place.{passed_limit}
use Rattle.wm_floats.specs.Fullscreen.{fills_alone}
use Rattle.wm_tree.specs.TreeValue.{TreeValue, newcomer_place, workspace_of}
use Rattle.wm_forest.specs.RootId.{id}
use Rattle.wm_tree.specs.Words.{attached, detached, edited, settled, with_raised}
use Rattle.wm_history.specs.declared.step.Answer.{Answer}
use Rattle.wm_history.specs.declared.step.Answer.TheVariants.{Done, Mapped, Replies, Unbound, NoView, Empty, BadSerial, Full}
use Rattle.wm_json.specs.declared.views.EventBody.{EventBody}
use Rattle.wm_json.specs.declared.views.EventBody.TheVariants as body
use Rattle.wm_json.specs.declared.replies.Reply.{Reply}
use Rattle.wm_json.specs.declared.replies.Reply.TheVariants as reply
use Rattle.wm_history.specs.Act.{Act, CommandText, KeyChoice, Run, Map, Close, Retitle, Urgent, Gone, OutputAdd, OutputRemove, Reserve, Key, Tick, Ack, Give, Deadline}
use Rattle.wm_history.specs.Keys.{bound, chosen}
use Rattle.wm_history.specs.Outputs.{add_answer, added, remove_answer, removed, reserve_answer, reserved}
use Rattle.wm_history.specs.Windows.{is_window, without_owned, retitled, with_urgency}
use Rattle.wm_apply.specs.declared.applied.CommandReply.{CommandReply}
use Rattle.wm_apply.specs.declared.applied.CommandReply.TheVariants as applied
use Rattle.wm_apply.specs.Batches.{Outcome, outcome}
use Rattle.wm_apply.specs.Quiet.{is_quiet}
use Rattle.wm_opens.specs.Opens.{is_window_of}
use Rattle.wm_swallow.specs.Swallowing.{swallower}
use Rattle.wm_txn.specs.History as commits
use Rattle.wm_txn.specs.declared.answers.AckRefusal.{AckRefusal}
use Rattle.wm_txn.specs.declared.answers.AckRefusal.TheVariants as ack
use Rattle.wm_layouts.specs.declared.plan.Env.{Env}
use Rattle.wm_criteria.specs.declared.verdict.Verdict.{Verdict}
use Rattle.wm_criteria.specs.declared.verdict.Verdict.TheVariants.{Ready, Bad, PatternRefused}

-- what a window's acknowledgement of a serial is answered by the transactions
abbrev pub Judge : Type 0
Judge = ConId → ℕ → Result (Unit {0}) AckRefusal

pub record Effect : Type 0 where
  -- what the step is answered, where this one judges serials
  pub answer : Judge → Answer
  -- the tree that it leaves
  pub tree : TreeValue
  -- what it tells the transactions
  pub told : commits.Entry
  -- the mode that it sets, if any
  pub mode : Option (List ℕ)
  -- whether it stops the desk
  pub stops : Bool
  -- the windows that it asks to close
  pub closes : List ConId
  -- the event that it tells beside the trees, if any: of a tick, or of a key that was bound
  pub event : Option EventBody

-- the mode after a step that set this one, if any
abbrev pub mode_after : Option (List ℕ) → List ℕ → List ℕ
mode_after None before = before
mode_after (Some mode) before = mode

-- ---- what an effect is made of

-- a step that tells the transactions something, and leaves the tree
abbrev pub telling : commits.Entry → (Judge → Answer) → TreeValue → Effect
telling told answer t = record { answer = answer; tree = t; told = told; mode = None; stops = false; closes = []; event = None }

-- a step that leaves the tree, and tells the transactions nothing: it sets this mode, if any, stops the desk or not, and
-- tells this event, if any
abbrev pub passing : Answer → TreeValue → Option (List ℕ) → Bool → Option EventBody → Effect
passing answer t set stops event =
    record { answer = λ judge. answer; tree = t; told = commits.Still; mode = set; stops = stops; closes = []; event = event }

-- a refused step changes nothing, and tells nothing
abbrev pub refused : Answer → TreeValue → Effect
refused answer t = passing answer t None false None

abbrev pub fresh_ids : Option (ConId × Buffer) → List ConId
fresh_ids None = []
fresh_ids (Some window) = window.0 ∷ []

-- the windows that were closed: those of the old tree, or mapped since, that the new tree does not have
abbrev pub closed : TreeValue → TreeValue → Option (ConId × Buffer) → List ConId
closed old new fresh = filter (λ v. not (is_window_of new v)) (fresh_ids fresh ++ filter (is_window_of old) old.recency)

-- the arrangement of the new tree, the window that was mapped with its buffer, and the windows that were closed
abbrev pub rearranged : TreeValue → TreeValue → Option (ConId × Buffer) → commits.Entry
rearranged old new fresh = commits.Arranged (arranged new) fresh (closed old new fresh)

-- a step that leaves a new tree, opens this window with its buffer, if any, sets this mode, if any, stops the desk or not,
-- asks these windows to close, and tells this event, if any
abbrev pub changing : Answer → TreeValue → TreeValue → Option (ConId × Buffer) → Option (List ℕ) → Bool → List ConId → Option EventBody → Effect
changing answer old new fresh set stops closes event =
    record { answer = λ judge. answer; tree = new; told = rearranged old new fresh; mode = set; stops = stops; closes = closes; event = event }

-- a step that leaves a new tree, and opens this window with its buffer, if any
abbrev pub leaving : Answer → TreeValue → TreeValue → Option (ConId × Buffer) → Effect
leaving answer old new fresh = changing answer old new fresh None false [] None

-- a step that is done leaves the new tree; with another answer it is refused
abbrev pub done_or_refused : Answer → TreeValue → TreeValue → Effect
done_or_refused Done old new = leaving Done old new None
done_or_refused other old new = refused other old

-- ---- texts

abbrev pub reply_to : CommandReply → Reply
reply_to applied.Done = reply.Ok
reply_to (applied.Error text) = reply.Error text

-- the commands of a text were run, and this event is told, if any
abbrev pub ran : Option EventBody → TreeValue → Outcome → Effect
ran event old o = changing (Replies (map reply_to o.replies)) old o.tree None o.mode o.exit o.kills event

-- the commands of a text that leaves the tree alone were run: there is nothing to arrange
abbrev pub idled : Option EventBody → Outcome → Effect
idled event o = passing (Replies (map reply_to o.replies)) o.tree o.mode o.exit event

-- a text with this verdict: its commands run, or a reply says why they do not; this event is told, if any
abbrev pub run_effect : Env → Verdict → Option EventBody → TreeValue → Effect
run_effect env (Ready batch) event t = if is_quiet batch.groups then idled event (outcome env (Ready batch) None t) else ran event t (outcome env (Ready batch) None t)
run_effect env (Bad at) event t = passing (Replies (reply.Parse at ∷ [])) t None false event
run_effect env (PatternRefused pattern) event t = passing (Replies (reply.Pattern pattern ∷ [])) t None false event

-- ---- keys

-- the text of the key's choice runs, and that it was bound is told; without a choice nothing comes
abbrev pub key_effect : Env → List ℕ → Option KeyChoice → TreeValue → Effect
key_effect env chord None t = refused Unbound t
key_effect env chord (Some choice) t = run_effect env choice.text.verdict (Some (bound chord choice.text.text)) t

-- ---- windows

abbrev pub has_no_pixels : Size → Bool
has_no_pixels size = size.w == 0 || size.h == 0

-- a new container is raised, unless another one of its workspace is fullscreen
abbrev pub raised_unless_full : ConId → TreeValue → TreeValue
raised_unless_full c t = if fills_alone c (workspace_of t c) t then with_raised c t else t

-- the id of a window that is mapped: that of the placeholder that swallows it, else the next one
abbrev pub mapped_id : Props → TreeValue → ConId
mapped_id props t = unwrap_or (swallower props t) (id t.next_id)

-- the window of the caller is in its place: that of the placeholder, or that of a newcomer
abbrev pub come_to : Option ConId → TreeValue → ℕ → Props → Size → TreeValue
come_to None t who props natural = attached (newcomer_place t) (new.Window props who natural) t
come_to (Some c) t who props natural = edited c (edits.Fill props who natural) t

-- the tree with a window of the caller that is mapped: in its place, and raised, unless its workspace has a fullscreen one
abbrev pub mapped : TreeValue → ℕ → Props → Size → TreeValue
mapped t who props natural = settled (raised_unless_full (mapped_id props t) (come_to (swallower props t) t who props natural))

-- the first limit that a new window would pass; one that is swallowed passes none
abbrev pub limit_at : Option ConId → TreeValue → Option Limit
limit_at None t = passed_limit (newcomer_place t) t.nodes t.next_id
limit_at (Some c) t = None

abbrev pub limit_of : Props → TreeValue → Option Limit
limit_of props t = limit_at (swallower props t) t

-- what the text that a map brings does to a tree, where it reads, with the window as its subject
abbrev pub then_outcome : Env → Option CommandText → ConId → TreeValue → Outcome
then_outcome env None c t = record { tree = t; replies = []; mode = None; exit = false; kills = [] }
then_outcome env (Some text) c t = outcome env text.verdict (Some c) t

-- a window was opened with its buffer, and this was done then, of which no replies are told
abbrev pub opened : TreeValue → ConId × Buffer → Outcome → Effect
opened old window o = changing (Mapped window.0) old o.tree (Some window) o.mode o.exit o.kills None

abbrev pub map_effect : Env → TreeValue → ℕ → Props → Buffer → Option CommandText → Option Limit → Effect
map_effect env t who props buffer text (Some limit) = refused (Full limit) t
map_effect env t who props buffer text None = opened t (mapped_id props t, buffer) (then_outcome env text (mapped_id props t) (mapped t who props buffer.size))

-- what a step on a window of the caller is answered
abbrev pub window_answer : TreeValue → ℕ → ConId → Answer
window_answer t who v = if is_window t who v then Done else NoView

abbrev pub ack_said : Result (Unit {0}) AckRefusal → Answer
ack_said (Ok u) = Done
ack_said (Err ack.NoView) = NoView
ack_said (Err (ack.BadSerial asked last)) = BadSerial asked last

-- ---- each step

-- what a step of this caller does in this mode, where commands find this beside the tree
abbrev pub effect : Env → List ℕ → TreeValue → ℕ → Act → Effect
effect env mode t who (Run text) = run_effect env text.verdict None t
effect env mode t who (Map props buffer text) = if has_no_pixels buffer.size then refused Empty t else map_effect env t who props buffer text (limit_of props t)
effect env mode t who (Close v) = done_or_refused (window_answer t who v) t (settled (detached v t))
effect env mode t who (Retitle v title) = done_or_refused (window_answer t who v) t (retitled v title t)
effect env mode t who (Urgent v on) = done_or_refused (window_answer t who v) t (with_urgency v on t)
effect env mode t who Gone = leaving Done t (without_owned who t) None
effect env mode t who (OutputAdd plan) = done_or_refused (add_answer plan t) t (added plan t)
effect env mode t who (OutputRemove name) = done_or_refused (remove_answer name t) t (removed name t)
effect env mode t who (Reserve name edges) = done_or_refused (reserve_answer name t) t (reserved name edges t)
effect env mode t who (Key chord choices) = key_effect env chord (chosen mode choices) t
effect env mode t who (Tick payload) = passing Done t None false (Some (body.Tick false payload))
effect env mode t who (Ack v serial) = if is_window t who v then telling (commits.Acked v serial) (λ judge. ack_said (judge v serial)) t else refused NoView t
effect env mode t who (Give v buffer) =
    if is_window t who v then (if has_no_pixels buffer.size then refused Empty t else telling (commits.Gave v buffer) (λ judge. Done) t) else refused NoView t
effect env mode t who (Deadline number) = telling (commits.Deadline number) (λ judge. Done) t
