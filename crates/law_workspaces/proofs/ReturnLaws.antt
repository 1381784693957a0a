-- Going back and forth comes to the workspace where one was.
use Rattle.std.proofs.Common.{◌≡◌, true, cond, Some, refl, ap, sym, ◌∙◌, subst}
use Rattle.wm_base.specs.declared.errors.ErrorText.TheVariants as texts
use Rattle.wm_base.specs.declared.ids.ConId.{ConId}
use Rattle.wm_language.specs.declared.arguments.Target.{Target}
use Rattle.wm_language.specs.declared.arguments.Target.TheVariants as targets
use Rattle.law_workspaces.proofs.FoundNames.{found_named}
use Rattle.law_workspaces.proofs.OutlineLemmas.{named_alike, outline}
use Rattle.law_workspaces.proofs.ShowLaws.{shows_it}
use Rattle.law_workspaces.proofs.StepLaws.{outline_showing}
use Rattle.law_workspaces.specs.Returned.{ComesBack}
use Rattle.wm_shared.proofs.ShowLemmas.{sound_showing, space_is}
use Rattle.wm_shared.proofs.SpaceLemmas.{placed}
use Rattle.wm_shared.specs.Showing.{showing}
use Rattle.wm_shared.specs.Subject.{is_space}
use Rattle.wm_spaces.proofs.StandLemmas.{goal_by}
use Rattle.wm_spaces.specs.declared.targets.Goal.TheVariants.{There, Refused}
use Rattle.wm_spaces.specs.Names.{space_named}
use Rattle.wm_spaces.specs.Shows.{goal_shown, show_tree}
use Rattle.wm_spaces.specs.Targets.{IsGoal, before, by_name, goal_of}
use Rattle.wm_tree.specs.Sound.{IsSound}
use Rattle.wm_tree.specs.TreeValue.{TreeValue, shown}

goal_space : (target : Target) (w : ConId) (t : TreeValue) → IsSound t → goal_of target t ≡ There w → is_space t w ≡ true
goal_space target w t s e = subst (λ g. IsGoal g t) e (goal_by target t (goal_of target t) refl s)

pub comes_back : ComesBack
comes_back target homes w n t s differ e ne h free =
    let ok = goal_space target w t s e in
    let p = placed w t s (space_is w t ok) in
    let law = shows_it target homes w p.output t s e p.held_by in
    let is_showing : show_tree target homes t ≡ showing w t = ap (λ g. goal_shown g homes t) e in
    let s_new : IsSound (show_tree target homes t) = subst IsSound (sym is_showing) (sound_showing w t ok s) in
    let seen : outline (show_tree target homes t).nodes ≡ outline t.nodes = ap (λ (z : TreeValue). outline z.nodes) is_showing ∙ outline_showing w t in
    let previous : (show_tree target homes t).previous ≡ Some n = law.1.other ne ∙ h in
    let found : space_named n (show_tree target homes t) ≡ Some (shown t) = named_alike n t.nodes (show_tree target homes t).nodes seen ∙ found_named n (shown t) t s differ h in
    let goal : goal_of targets.BackAndForth (show_tree target homes t) ≡ There (shown t) =
    ap (λ z. before z (show_tree target homes t)) previous
    ∙ (ap (λ b. cond b (Refused texts.NameReserved) (by_name n (space_named n (show_tree target homes t)))) free ∙ ap (by_name n) found) in
    let ok_back = goal_space targets.BackAndForth (shown t) (show_tree target homes t) s_new goal in
    let q = placed (shown t) (show_tree target homes t) s_new (space_is (shown t) (show_tree target homes t) ok_back) in
    (shows_it targets.BackAndForth homes (shown t) q.output (show_tree target homes t) s_new goal q.held_by).0.focused
