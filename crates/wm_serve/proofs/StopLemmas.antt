-- Which steps stop a desk: texts that have an exit.
use Rattle.std.proofs.Common.{◌≡◌, ◌∙◌, refl, sym, ap, ℕ, ◌||◌, Bool, true, false, if◌then◌else◌, List, [], ◌∷◌, Option, None, Some}
use Rattle.std.proofs.Math.Bool.{or-false, or_assoc}
use Rattle.std.specs.List.{list_any}
use Rattle.wm_apply.specs.Batches.{Outcome, command_done, commands_done, group_done, groups_done, outcome, targets}
use Rattle.wm_apply.specs.Commands.{is_exit}
use Rattle.wm_apply.specs.Quiet.{is_quiet}
use Rattle.wm_apply.specs.declared.targets.Targets.{Targets}
use Rattle.wm_base.specs.declared.ids.ConId.{ConId}
use Rattle.wm_history.specs.declared.step.Answer.{Answer}
use Rattle.wm_history.specs.declared.step.Answer.TheVariants as answers
use Rattle.wm_history.specs.Effect.{Effect, done_or_refused, idled, ran, run_effect}
use Rattle.wm_json.specs.declared.views.EventBody.{EventBody}
use Rattle.wm_criteria.specs.Verdict.{IsVerdict}
use Rattle.wm_criteria.specs.declared.verdict.Verdict.{Verdict}
use Rattle.wm_criteria.specs.declared.verdict.Verdict.TheVariants.{Bad, PatternRefused, Ready}
use Rattle.wm_grammar.specs.Reading.{batch_of}
use Rattle.wm_language.specs.declared.batch.Batch.{Batch}
use Rattle.wm_language.specs.declared.batch.Group.{Group}
use Rattle.wm_language.specs.declared.command.Command.{Command}
use Rattle.wm_layouts.specs.declared.plan.Env.{Env}
use Rattle.wm_tree.specs.TreeValue.{TreeValue}

abbrev pub exits_among : List Group → Bool
exits_among groups = list_any (λ g. list_any is_exit g.commands) groups

-- the batch, if there is one, has an exit
abbrev pub exits_in : Option Batch → Bool
exits_in None = false
exits_in (Some batch) = exits_among batch.groups

commands_exit : (env : Env) (found : Targets) (cs : List Command) (o : Outcome) → (commands_done env found cs o).exit ≡ o.exit || list_any is_exit cs
commands_exit env found [] o = sym (or-false o.exit)
commands_exit env found (c ∷ cs) o = commands_exit env found cs (command_done env found c o) ∙ or_assoc o.exit (is_exit c) (list_any is_exit cs)

groups_exit : (env : Env) (subject : Option ConId) (gs : List Group) (o : Outcome) → (groups_done env subject gs o).exit ≡ o.exit || exits_among gs
groups_exit env subject [] o = sym (or-false o.exit)
groups_exit env subject (g ∷ gs) o =
    groups_exit env subject gs (group_done env subject g o)
    ∙ ap (λ b. b || exits_among gs) (commands_exit env (targets g.criteria subject o.tree) g.commands o) ∙ or_assoc o.exit (list_any is_exit g.commands) (exits_among gs)

-- a text stops exactly where it has an exit, whatever its subject
pub outcome_exits : (env : Env) (batch : Batch) (subject : Option ConId) (t : TreeValue) → (outcome env (Ready batch) subject t).exit ≡ exits_among batch.groups
outcome_exits env batch subject t = groups_exit env subject batch.groups (record { tree = t; replies = []; mode = None; exit = false; kills = [] })

-- a text without an exit does not stop
pub text_goes_on : (env : Env) (text : List ℕ) (verdict : Verdict) (subject : Option ConId) (t : TreeValue) → IsVerdict text verdict → exits_in (batch_of text) ≡ false → (outcome env verdict subject t).exit ≡ false
text_goes_on env text (Ready batch) subject t is calm = outcome_exits env batch subject t ∙ (sym (ap exits_in is) ∙ calm)
text_goes_on env text (Bad at) subject t is calm = refl
text_goes_on env text (PatternRefused pattern) subject t is calm = refl

-- nor does running it
pub run_goes_on : (env : Env) (text : List ℕ) (verdict : Verdict) (event : Option EventBody) (t : TreeValue) → IsVerdict text verdict → exits_in (batch_of text) ≡ false → (run_effect env verdict event t).stops ≡ false
run_goes_on env text (Ready batch) event t is calm = by_test (is_quiet batch.groups)
  where
    done : (outcome env (Ready batch) None t).exit ≡ false
    done = text_goes_on env text (Ready batch) None t is calm

    by_test : (b : Bool) → (if b then idled event (outcome env (Ready batch) None t) else ran event t (outcome env (Ready batch) None t)).stops ≡ false
    by_test true = done
    by_test false = done
run_goes_on env text (Bad at) event t is calm = refl
run_goes_on env text (PatternRefused pattern) event t is calm = refl

-- ---- other steps

pub calm : (a : Answer) (old new : TreeValue) → (done_or_refused a old new).stops ≡ false
calm answers.Done old new = refl
calm (answers.Mapped c) old new = refl
calm (answers.Replies rs) old new = refl
calm answers.Unbound old new = refl
calm answers.NoView old new = refl
calm answers.Empty old new = refl
calm (answers.BadSerial asked last) old new = refl
calm (answers.Full limit) old new = refl
calm answers.NameTaken old new = refl
calm answers.NoTarget old new = refl
calm answers.BadRect old new = refl

pub calm_if : (b : Bool) (x y : Effect) → x.stops ≡ false → y.stops ≡ false → (if b then x else y).stops ≡ false
calm_if true x y first second = first
calm_if false x y first second = second
