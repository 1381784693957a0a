-- Texts keep each window, where no container has floating windows, and leave none that has.
use Rattle.std.proofs.Common.{◌≡◌, ◌≢◌, ℕ, Bool, true, false, cond, not, List, [], ◌∷◌, Option, None, Some, refl, subst, ◌∙◌}
use Rattle.std.specs.Prelude.{is_some}
use Rattle.wm_apply.specs.Batches.{Outcome, command_done, commands_done, group_done, groups_done, groups_of, outcome, targets}
use Rattle.wm_apply.specs.Commands.{Course, course, course_tree, on, refused, whole}
use Rattle.wm_apply.specs.declared.rows.How.{How}
use Rattle.wm_apply.specs.declared.rows.How.TheVariants.{Matched, Handed, Focused}
use Rattle.wm_apply.specs.declared.targets.Targets.{Targets}
use Rattle.wm_apply.specs.OutputRows.{to_named_refusal}
use Rattle.wm_apply.specs.Rows.{come_refusal, focus_refusal, focus_tree, matched_subject, row_refusal, row_tree, whole_refusal, whole_tree}
use Rattle.wm_apply.specs.Subjects.{each_tree, is_there, one_tree, unless_refused}
use Rattle.wm_base.specs.declared.errors.ErrorText.TheVariants as texts
use Rattle.wm_base.specs.declared.errors.Refusal.{Refusal}
use Rattle.wm_base.specs.declared.ids.ConId.{ConId}
use Rattle.wm_criteria.specs.declared.verdict.Verdict.{Verdict}
use Rattle.wm_floats.specs.Scratchpad.{show_scratchpad_refusal, show_scratchpad_tree}
use Rattle.wm_focus.proofs.SubjectLemmas.{subject_there}
use Rattle.wm_focus.specs.Marks.{give_refusal, is_mark, mark_refusal, mark_tree}
use Rattle.wm_language.specs.declared.batch.Group.{Group}
use Rattle.wm_language.specs.declared.command.Command.{Command}
use Rattle.wm_language.specs.declared.command.Command.TheVariants as commands
use Rattle.wm_layouts.specs.declared.plan.Env.{Env}
use Rattle.wm_opens.proofs.KeptLemmas.{kept_settled}
use Rattle.wm_opens.proofs.OwnerLemmas.{owners_kept}
use Rattle.wm_opens.proofs.OpenLemmas.{seen_same}
use Rattle.wm_opens.proofs.SettleKeeps.{settling_keeps}
use Rattle.wm_opens.proofs.SureAppends.{sure_append}
use Rattle.wm_opens.proofs.SureCommands.{subject_con, sure_dir, sure_floating, sure_focus_dir, sure_laid, sure_output_some, sure_raised_some, sure_split, sure_swap, sure_to_mark, sure_to_named, sure_to_output, unless}
use Rattle.wm_opens.proofs.SureFloats.{sure_fullscreen, sure_hidden, sure_kind, sure_placed, sure_scratchpad, sure_stuck}
use Rattle.wm_opens.proofs.SureLemmas.{Sure, sure_refl, sure_windows}
use Rattle.wm_opens.proofs.SureMarks.{sure_mark, sure_unmark}
use Rattle.wm_opens.proofs.SureSizes.{sure_border, sure_cycled, sure_format, sure_gaps, sure_rect, sure_resized}
use Rattle.wm_opens.proofs.SureSpaces.{sure_focusing, sure_goal_sent, sure_goal_shown, sure_renamed}
use Rattle.wm_opens.proofs.TidyLemmas.{tidy_settled}
use Rattle.wm_opens.specs.Opens.{Holds, IsGood, is_owned_of, is_window_of}
use Rattle.wm_shared.specs.Showing.{focusing}
use Rattle.wm_shared.specs.Subject.{IsSubject, is_container, is_hidden, is_space}
use Rattle.wm_spaces.proofs.StandLemmas.{goal_by}
use Rattle.wm_spaces.specs.Outs.{output_at}
use Rattle.wm_spaces.specs.Renaming.{renamed_space}
use Rattle.wm_spaces.specs.Sending.{goal_sent_refusal}
use Rattle.wm_spaces.specs.Targets.{goal_of}
use Rattle.wm_tree.proofs.SettleLemmas.{sound-settled}
use Rattle.wm_forest.specs.declared.part.ConPart.{ConPart}
use Rattle.wm_forest.specs.Look.{con_kind, kind_of}
use Rattle.wm_tree.specs.Sound.{IsSound}
use Rattle.wm_tree.specs.TreeValue.{TreeValue, workspace_of}
use Rattle.wm_tree.specs.Words.{settled}

-- ---- one command on one subject

a_con : (c : ConId) (t : TreeValue) → IsSubject t c → is_space t c ≡ false → is_container t c ≡ true
a_con c t sub h = by (kind_of con_kind c t.nodes) (subject_con c t sub h)
  where
    by : (o : Option ConPart) → o ≢ None → is_some o ≡ true
    by None ok = absurd (ok refl)
    by (Some p) ok = refl

sure_mark_row : (c : ConId) (n : List ℕ) (add toggle : Bool) (t : TreeValue) → IsSubject t c → mark_refusal c n add toggle t ≡ None → Sure t (mark_tree c n add toggle t)
sure_mark_row c n add toggle t sub fits =
    let a = unless (is_space t c) texts.AtWorkspace _ fits in
    let b = unless (not (is_mark n)) texts.OutOfRange (give_refusal c n add t) a.1 in
    sure_mark c n add toggle t sub.sound (subject_there t c sub) (a_con c t sub a.0) b.1

matched_is : (how : How) (c x : ConId) → matched_subject how c ≡ Some x → c ≡ x
matched_is Matched c x h = cc
matched_is Handed c x h = cc
matched_is Focused c x h = cc

pub come_fits : (how : How) (c : ConId) (t : TreeValue) → focus_refusal how c t ≡ None → come_refusal c t ≡ None
come_fits Matched c t h = h
come_fits Handed c t h = h
come_fits Focused c t h = cc

sure_focus : (how : How) (c : ConId) (t : TreeValue) → IsSubject t c → focus_refusal how c t ≡ None → Sure t (focus_tree c t)
sure_focus how c t sub h = by_test (is_hidden t c) (come_fits how c t h)
  where
    by_test : (b : Bool) → cond b (show_scratchpad_refusal (Some c) t) None ≡ None → Sure t (cond b (show_scratchpad_tree (Some c) t) (focusing c t))
    by_test true fits = sure_scratchpad (Some c) t (λ x e. subst (IsSubject t) (matched_is Matched c x e) sub) sub.sound fits
    by_test false fits = sure_focusing c t sub.sound

-- a command on a subject, where it is not refused
pub sure_row : (env : Env) (how : How) (command : Command) (c : ConId) (t : TreeValue) → IsSubject t c → row_refusal env how command c t ≡ None → Sure t (row_tree env how command c t)
sure_row env how (commands.Split arg) c t sub h = sure_split c _ t sub.sound h
sure_row env how (commands.SetLayout arg) c t sub h = sure_laid c _ t sub.sound
sure_row env how (commands.CycleLayout cycle) c t sub h = sure_laid c _ t sub.sound
sure_row env how commands.Focus c t sub h = sure_focus how c t sub h
sure_row env how (commands.FocusDir d) c t sub h = sure_focus_dir d c t sub.sound
sure_row env how commands.FocusParent c t sub h = sure_raised_some _ t sub.sound
sure_row env how commands.FocusChild c t sub h = sure_raised_some _ t sub.sound
sure_row env how (commands.MoveDir d px) c t sub h = sure_dir c d px t sub.sound h
sure_row env how (commands.MoveToMark name) c t sub h = sure_to_mark c _ t sub h
sure_row env how (commands.Swap arg) c t sub h = sure_swap c _ _ t sub.sound h
sure_row env how (commands.Mark add toggle name) c t sub h = sure_mark_row c name add toggle t sub h
sure_row env how (commands.Unmark name) c t sub h = sure_unmark (matched_subject how c) name t sub.sound
sure_row env how (commands.FocusOutput arg) c t sub h = sure_output_some c arg (output_at c arg t) t refl sub.sound
sure_row env how (commands.MoveToOutput arg) c t sub h = sure_to_output c arg (output_at c arg t) t refl sub h
sure_row env how (commands.MoveToWorkspace target) c t sub h =
    let a = unless (is_space t c) texts.AtWorkspace (goal_sent_refusal (goal_of target t) c env.homes t) h in
    sure_goal_sent (goal_of target t) c env.homes t sub.sound (subject_con c t sub a.0) (goal_by target t (goal_of target t) refl sub.sound) a.1
sure_row env how (commands.MoveWorkspace arg) c t sub h =
    let a = unless (is_hidden t c) texts.NoWorkspace (to_named_refusal (output_at c arg t) (workspace_of t c) t) h in
    sure_to_named c arg (output_at c arg t) (workspace_of t c) t refl refl sub.sound a.1
sure_row env how (commands.FocusKind kind) c t sub h = sure_kind _ t sub.sound
sure_row env how (commands.Floating arg) c t sub h = sure_floating c arg t sub.sound h
sure_row env how (commands.Fullscreen arg) c t sub h = sure_fullscreen c _ t sub.sound
sure_row env how (commands.Sticky arg) c t sub h = sure_stuck _ c t sub.sound
sure_row env how (commands.MovePosition x y) c t sub h = sure_placed c x y t sub.sound
sure_row env how commands.MoveCenter c t sub h = sure_placed c _ _ t sub.sound
sure_row env how commands.MoveToScratchpad c t sub h = sure_hidden c t sub.sound h
sure_row env how commands.ScratchpadShow c t sub h = sure_scratchpad (matched_subject how c) t (λ x e. subst (IsSubject t) (matched_is how c x e) sub) sub.sound h
sure_row env how (commands.Resize grow side px ppt) c t sub h = sure_resized c grow side px ppt t sub.sound h
sure_row env how (commands.ResizeSet w high) c t sub h = sure_rect _ c t sub.sound
sure_row env how (commands.SetBorder border) c t sub h = sure_border border c t sub.sound
sure_row env how commands.CycleBorder c t sub h = sure_cycled c t sub.sound
sure_row env how (commands.Gaps outer all op px) c t sub h = sure_gaps c outer all op px t sub.sound
sure_row env how (commands.TitleFormat format) c t sub h = sure_format c format t sub.sound
sure_row env how other c t sub h = sure_refl t sub.sound

pub sure_whole : (env : Env) (command : Command) (t : TreeValue) → IsSound t → whole_refusal env command t ≡ None → Sure t (whole_tree env command t)
sure_whole env (commands.Workspace target) t s h = sure_goal_shown (goal_of target t) env.homes t s (goal_by target t (goal_of target t) refl s) h
sure_whole env (commands.Rename was name) t s h = sure_renamed (renamed_space was t) name t s
sure_whole env (commands.AppendLayout name) t s h = sure_append name env.layouts t s h
sure_whole env other t s h = sure_refl t s

-- ---- settled steps

pub holds_refl : (t : TreeValue) → IsGood t → Holds t t
holds_refl t g = record { good = g; keeps = λ v. refl; owners = λ who v. refl }

pub holds_trans : (a b c : TreeValue) → Holds a b → Holds b c → Holds a c
holds_trans a b c p q = record { good = q.good; keeps = λ v. q.keeps v ∙ p.keeps v; owners = λ who v. q.owners who v ∙ p.owners who v }

-- a sure step
pub holds_sure : (t new : TreeValue) → IsGood t → Sure t new → Holds t new
holds_sure t new g h = record {
  good = record { sound = h.sound; tidy = h.tidy g.tidy };
  keeps = λ v. sure_windows v t new g.sound h;
  owners = λ who v. owners_kept who v t new g.sound h.sound h.kept (sure_windows v t new g.sound h);
}

pub holds_settled : (t : TreeValue) → IsGood t → Holds t (settled t)
holds_settled t g = record {
  good = record { sound = sound-settled t g.sound; tidy = tidy_settled None t.nodes g.tidy };
  keeps = λ v. settling_keeps t v g.tidy;
  owners = λ who v. owners_kept who v t (settled t) g.sound (sound-settled t g.sound) (kept_settled t) (settling_keeps t v g.tidy);
}

-- a sure step, settled
pub then_settled : (t new : TreeValue) → IsGood t → Sure t new → Holds t (settled new)
then_settled t new g h =
    let first : Holds t new = holds_sure t new g h in
    holds_trans t new (settled new) first (holds_settled new first.good)

-- ---- subjects, commands and groups

holds_unless : (r : Option Refusal) (t new : TreeValue) → IsGood t → (r ≡ None → Holds t new) → Holds t (unless_refused r t new)
holds_unless None t new g h = h refl
holds_unless (Some e) t new g h = holds_refl t g

holds_one : (env : Env) (how : How) (command : Command) (c : ConId) (t : TreeValue) → IsGood t → Holds t (one_tree env how command c t)
holds_one env how command c t g = step (is_there c t) refl
  where
    after : TreeValue
    after = row_tree env how command c t

    step : (b : Bool) → is_there c t ≡ b → Holds t (cond b (unless_refused (row_refusal env how command c t) t (settled (row_tree env how command c t))) t)
    step true e = holds_unless (row_refusal env how command c t) t (settled (row_tree env how command c t)) g (λ h. then_settled t (row_tree env how command c t) g (sure_row env how command c t (record { sound = g.sound; kind = e }) h))
    step false e = holds_refl t g

holds_each : (env : Env) (how : How) (command : Command) (cs : List ConId) (t : TreeValue) → IsGood t → Holds t (each_tree env how command cs t)
holds_each env how command [] t g = holds_refl t g
holds_each env how command (c ∷ cs) t g =
    let first : Holds t (one_tree env how command c t) = holds_one env how command c t g in
    holds_trans t (one_tree env how command c t) (each_tree env how command (c ∷ cs) t) first (holds_each env how command cs (one_tree env how command c t) first.good)

holds_course : (env : Env) (c : Course) (command : Command) (t : TreeValue) → IsGood t → Holds t (course_tree env c command t)
holds_course env (refused e) command t g = holds_refl t g
holds_course env (on how cs) command t g = holds_each env how command cs t g
holds_course env whole command t g =
    holds_unless (whole_refusal env command t) t (settled (whole_tree env command t)) g (λ h. then_settled t (whole_tree env command t) g (sure_whole env command t g.sound h))

holds_commands : (env : Env) (found : Targets) (cs : List Command) (o : Outcome) → IsGood o.tree → Holds o.tree (commands_done env found cs o).tree
holds_commands env found [] o g = holds_refl o.tree g
holds_commands env found (c ∷ cs) o g =
    let first : Holds o.tree (command_done env found c o).tree = holds_course env (course env found c o.tree) c o.tree g in
    holds_trans o.tree (command_done env found c o).tree (commands_done env found (c ∷ cs) o).tree first (holds_commands env found cs (command_done env found c o) first.good)

holds_groups : (env : Env) (subject : Option ConId) (gs : List Group) (o : Outcome) → IsGood o.tree → Holds o.tree (groups_done env subject gs o).tree
holds_groups env subject [] o g = holds_refl o.tree g
holds_groups env subject (x ∷ gs) o g =
    let first : Holds o.tree (group_done env subject x o).tree = holds_commands env (targets x.criteria subject o.tree) x.commands o g in
    holds_trans o.tree (group_done env subject x o).tree (groups_done env subject (x ∷ gs) o).tree first (holds_groups env subject gs (group_done env subject x o) first.good)

-- what a text leaves of a good tree is good, and has its windows
pub holds_outcome : (env : Env) (verdict : Verdict) (subject : Option ConId) (t : TreeValue) → IsGood t → Holds t (outcome env verdict subject t).tree
holds_outcome env verdict subject t g = holds_groups env subject (groups_of verdict) (record { tree = t; replies = []; mode = None; exit = false; kills = [] }) g

-- what is a window before a text is one after it, and no other is
pub texts_leave : (env : Env) (verdict : Verdict) (subject : Option ConId) (t : TreeValue) (v : ConId) → IsGood t → is_window_of (outcome env verdict subject t).tree v ≡ is_window_of t v
texts_leave env verdict subject t v g =
    let h : Holds t (outcome env verdict subject t).tree = holds_outcome env verdict subject t g in
    seen_same t (outcome env verdict subject t).tree v g.sound h.good.sound (h.keeps v)

-- after a text each window is the same caller's
pub texts_keep_owners : (env : Env) (verdict : Verdict) (subject : Option ConId) (t : TreeValue) (who : ℕ) (v : ConId) → IsGood t → is_owned_of (outcome env verdict subject t).tree who v ≡ is_owned_of t who v
texts_keep_owners env verdict subject t who v g = let h : Holds t (outcome env verdict subject t).tree = holds_outcome env verdict subject t g in h.owners who v
