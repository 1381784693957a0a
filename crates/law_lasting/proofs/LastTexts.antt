-- Texts keep what lasts.
use Rattle.std.proofs.Common.{◌≡◌, Bool, true, false, cond, List, [], ◌∷◌, Option, None, Some, refl, subst}
use Rattle.wm_apply.specs.Batches.{Outcome, command_done, commands_done, group_done, groups_done, groups_of, outcome, targets}
use Rattle.wm_apply.specs.Commands.{Course, course, course_tree, on, refused, whole}
use Rattle.wm_apply.specs.declared.rows.How.{How}
use Rattle.wm_apply.specs.declared.rows.How.TheVariants.{Matched, Handed, Focused}
use Rattle.wm_apply.specs.declared.targets.Targets.{Targets}
use Rattle.wm_apply.specs.OutputRows.{to_named_refusal}
use Rattle.wm_apply.specs.Rows.{focus_refusal, focus_tree, matched_subject, row_refusal, row_tree, whole_refusal, whole_tree}
use Rattle.wm_apply.specs.Subjects.{each_tree, is_there, one_tree, unless_refused}
use Rattle.wm_base.specs.declared.errors.ErrorText.TheVariants as texts
use Rattle.wm_base.specs.declared.errors.Refusal.{Refusal}
use Rattle.wm_base.specs.declared.ids.ConId.{ConId}
use Rattle.wm_criteria.specs.declared.verdict.Verdict.{Verdict}
use Rattle.wm_language.specs.declared.batch.Group.{Group}
use Rattle.wm_language.specs.declared.command.Command.{Command}
use Rattle.wm_language.specs.declared.command.Command.TheVariants as commands
use Rattle.law_lasting.proofs.FreeNames.{new_goal}
use Rattle.law_lasting.proofs.LastAppends.{last_append}
use Rattle.law_lasting.proofs.LastCommands.{last_dir, last_floating, last_focus_dir, last_laid, last_output_some, last_raised_some, last_split, last_swap, last_to_mark, last_to_named, last_to_output}
use Rattle.law_lasting.proofs.LastFloats.{last_kind, last_placed, last_scratchpad, last_stuck}
use Rattle.law_lasting.proofs.LastSizes.{last_border, last_cycled, last_format, last_gaps, last_mark, last_rect, last_resized, last_unmark}
use Rattle.law_lasting.proofs.LastSpaces.{last_focusing, last_goal_sent, last_goal_shown, last_renamed}
use Rattle.law_lasting.proofs.RectLemmas.{set_fits}
use Rattle.law_lasting.specs.Lasting.{Lasts}
use Rattle.wm_layouts.specs.declared.plan.Env.{Env}
use Rattle.wm_opens.proofs.SureCommands.{subject_con, unless}
use Rattle.wm_opens.proofs.TextLemmas.{come_fits, sure_row, sure_whole}
use Rattle.wm_floats.specs.Scratchpad.{show_scratchpad_refusal, show_scratchpad_tree}
use Rattle.wm_shared.specs.Showing.{focusing}
use Rattle.wm_shared.specs.Subject.{IsSubject, is_hidden, is_space}
use Rattle.wm_spaces.proofs.StandLemmas.{goal_by}
use Rattle.wm_spaces.specs.Outs.{output_at}
use Rattle.wm_spaces.specs.Sending.{goal_sent_refusal}
use Rattle.wm_spaces.specs.Targets.{goal_of}
use Rattle.wm_tree.proofs.SettleLemmas.{sound-settled}
use Rattle.wm_tree.specs.Sound.{IsSound}
use Rattle.wm_tree.specs.TreeValue.{TreeValue, workspace_of}
use Rattle.wm_tree.specs.Words.{settled}

matched_is : (how : How) (c x : ConId) → matched_subject how c ≡ Some x → c ≡ x
matched_is Matched c x h = cc
matched_is Handed c x h = cc
matched_is Focused c x h = cc

-- a sound tree that has the property
pub record HasLast (P : TreeValue → Type 0) (t : TreeValue) : Type 0 where
  pub sound : IsSound t
  pub held : P t

module _ {P : TreeValue → Type 0} (k : Lasts P) where
  -- ---- one command on one subject

  last_focus : (how : How) (c : ConId) (t : TreeValue) → IsSubject t c → focus_refusal how c t ≡ None → P t → P (focus_tree c t)
  last_focus how c t sub h p = by_test (is_hidden t c) (come_fits how c t h)
    where
      by_test : (b : Bool) → cond b (show_scratchpad_refusal (Some c) t) None ≡ None → P (cond b (show_scratchpad_tree (Some c) t) (focusing c t))
      by_test true fits = last_scratchpad k (Some c) t (λ x e. subst (IsSubject t) (matched_is Matched c x e) sub) sub.sound fits p
      by_test false fits = last_focusing k c t sub.sound p

  -- a command on a subject, where it is not refused
  pub last_row : (env : Env) (how : How) (command : Command) (c : ConId) (t : TreeValue) → IsSubject t c → row_refusal env how command c t ≡ None → P t → P (row_tree env how command c t)
  last_row env how (commands.Split arg) c t sub h p = last_split k c _ t sub.sound h p
  last_row env how (commands.SetLayout arg) c t sub h p = last_laid k c _ t p
  last_row env how (commands.CycleLayout cycle) c t sub h p = last_laid k c _ t p
  last_row env how commands.Focus c t sub h p = last_focus how c t sub h p
  last_row env how (commands.FocusDir d) c t sub h p = last_focus_dir k d c t sub.sound p
  last_row env how commands.FocusParent c t sub h p = last_raised_some k _ t sub.sound p
  last_row env how commands.FocusChild c t sub h p = last_raised_some k _ t sub.sound p
  last_row env how (commands.MoveDir d px) c t sub h p = last_dir k c d px t sub.sound h p
  last_row env how (commands.MoveToMark name) c t sub h p = last_to_mark k c _ t sub h p
  last_row env how (commands.Swap arg) c t sub h p = last_swap k c _ _ t sub.sound h p
  last_row env how (commands.Mark add toggle name) c t sub h p = last_mark k c name add toggle t sub.sound p
  last_row env how (commands.Unmark name) c t sub h p = last_unmark k (matched_subject how c) name t p
  last_row env how (commands.FocusOutput arg) c t sub h p = last_output_some k (output_at c arg t) t p
  last_row env how (commands.MoveToOutput arg) c t sub h p = last_to_output k c arg (output_at c arg t) t refl sub h p
  last_row env how (commands.MoveToWorkspace target) c t sub h p =
      let a = unless (is_space t c) texts.AtWorkspace (goal_sent_refusal (goal_of target t) c env.homes t) h in
      last_goal_sent k (goal_of target t) c env.homes t sub.sound (subject_con c t sub a.0) (goal_by target t (goal_of target t) refl sub.sound) (new_goal target t) a.1 p
  last_row env how (commands.MoveWorkspace arg) c t sub h p =
      let a = unless (is_hidden t c) texts.NoWorkspace (to_named_refusal (output_at c arg t) (workspace_of t c) t) h in
      last_to_named k c arg (output_at c arg t) (workspace_of t c) t refl refl sub.sound a.1 p
  last_row env how (commands.FocusKind kind) c t sub h p = last_kind k _ t sub.sound p
  last_row env how (commands.Floating arg) c t sub h p = last_floating k c arg t sub.sound h p
  last_row env how (commands.Fullscreen arg) c t sub h p = k.filling c _ t sub.sound h p
  last_row env how (commands.Sticky arg) c t sub h p = last_stuck k _ c t p
  last_row env how (commands.MovePosition x y) c t sub h p = last_placed k c x y t h p
  last_row env how commands.MoveCenter c t sub h p = last_placed k c _ _ t h p
  last_row env how commands.MoveToScratchpad c t sub h p = k.hiding c t sub.sound h p
  last_row env how commands.ScratchpadShow c t sub h p = last_scratchpad k (matched_subject how c) t (λ x e. subst (IsSubject t) (matched_is how c x e) sub) sub.sound h p
  last_row env how (commands.Resize grow side px ppt) c t sub h p = last_resized k c grow side px ppt t h p
  last_row env how (commands.ResizeSet w high) c t sub h p = last_rect k _ c t (λ r. set_fits c w high t h r) p
  last_row env how (commands.SetBorder border) c t sub h p = last_border k border c t p
  last_row env how commands.CycleBorder c t sub h p = last_cycled k c t p
  last_row env how (commands.Gaps outer all op px) c t sub h p = last_gaps k c outer all op px t sub.sound p
  last_row env how (commands.TitleFormat format) c t sub h p = last_format k c format t p
  last_row env how other c t sub h p = p

  pub last_whole : (env : Env) (command : Command) (t : TreeValue) → IsSound t → whole_refusal env command t ≡ None → P t → P (whole_tree env command t)
  last_whole env (commands.Workspace target) t s h p = last_goal_shown k (goal_of target t) env.homes t s (goal_by target t (goal_of target t) refl s) (new_goal target t) h p
  last_whole env (commands.Rename was name) t s h p = last_renamed k was name t s h p
  last_whole env (commands.AppendLayout name) t s h p = last_append k name env.layouts t s h p
  last_whole env other t s h p = p

  -- ---- subjects, commands and groups

  pub has_settled : (t : TreeValue) → HasLast P t → HasLast P (settled t)
  has_settled t g = record { sound = sound-settled t g.sound; held = k.settling t g.sound g.held }

  has_unless : (r : Option Refusal) (t new : TreeValue) → HasLast P t → (r ≡ None → HasLast P new) → HasLast P (unless_refused r t new)
  has_unless None t new g h = h refl
  has_unless (Some e) t new g h = g

  has_one : (env : Env) (how : How) (command : Command) (c : ConId) (t : TreeValue) → HasLast P t → HasLast P (one_tree env how command c t)
  has_one env how command c t g = step (is_there c t) refl
    where
      done : IsSubject t c → row_refusal env how command c t ≡ None → HasLast P (settled (row_tree env how command c t))
      done sub h = has_settled (row_tree env how command c t) (record { sound = (sure_row env how command c t sub h).sound; held = last_row env how command c t sub h g.held })

      step : (b : Bool) → is_there c t ≡ b → HasLast P (cond b (unless_refused (row_refusal env how command c t) t (settled (row_tree env how command c t))) t)
      step true e = has_unless (row_refusal env how command c t) t (settled (row_tree env how command c t)) g (λ h. done (record { sound = g.sound; kind = e }) h)
      step false e = g

  has_each : (env : Env) (how : How) (command : Command) (cs : List ConId) (t : TreeValue) → HasLast P t → HasLast P (each_tree env how command cs t)
  has_each env how command [] t g = g
  has_each env how command (c ∷ cs) t g = has_each env how command cs (one_tree env how command c t) (has_one env how command c t g)

  has_course : (env : Env) (c : Course) (command : Command) (t : TreeValue) → HasLast P t → HasLast P (course_tree env c command t)
  has_course env (refused e) command t g = g
  has_course env (on how cs) command t g = has_each env how command cs t g
  has_course env whole command t g = has_unless (whole_refusal env command t) t (settled (whole_tree env command t)) g (λ h. done h)
    where
      done : whole_refusal env command t ≡ None → HasLast P (settled (whole_tree env command t))
      done h = has_settled (whole_tree env command t) (record { sound = (sure_whole env command t g.sound h).sound; held = last_whole env command t g.sound h g.held })

  has_commands : (env : Env) (found : Targets) (cs : List Command) (o : Outcome) → HasLast P o.tree → HasLast P (commands_done env found cs o).tree
  has_commands env found [] o g = g
  has_commands env found (c ∷ cs) o g = has_commands env found cs (command_done env found c o) (has_course env (course env found c o.tree) c o.tree g)

  has_groups : (env : Env) (subject : Option ConId) (gs : List Group) (o : Outcome) → HasLast P o.tree → HasLast P (groups_done env subject gs o).tree
  has_groups env subject [] o g = g
  has_groups env subject (x ∷ gs) o g = has_groups env subject gs (group_done env subject x o) (has_commands env (targets x.criteria subject o.tree) x.commands o g)

  -- what a text leaves of a sound tree that has the property has it
  pub has_outcome : (env : Env) (verdict : Verdict) (subject : Option ConId) (t : TreeValue) → HasLast P t → HasLast P (outcome env verdict subject t).tree
  has_outcome env verdict subject t g = has_groups env subject (groups_of verdict) (record { tree = t; replies = []; mode = None; exit = false; kills = [] }) g

  pub texts_last : (env : Env) (verdict : Verdict) (subject : Option ConId) (t : TreeValue) → IsSound t → P t → P (outcome env verdict subject t).tree
  texts_last env verdict subject t s p = (has_outcome env verdict subject t (record { sound = s; held = p })).held
