-- Showing a workspace that is shown already changes nothing.
use Rattle.std.proofs.Common.{◌≡◌, Bool, true, false, cond, List, ℕ, Option, Some, refl, ap, sym, ◌∙◌, subst}
use Rattle.wm_base.specs.declared.ids.ConId.{ConId}
use Rattle.law_commands.proofs.ShownLemmas.{IsShown, is_shown}
use Rattle.law_commands.specs.Showing.{ShowsOnce}
use Rattle.wm_shared.proofs.ShowLemmas.{sound_there, space_is}
use Rattle.wm_shared.proofs.SpaceLemmas.{placed}
use Rattle.wm_shared.specs.Showing.{followed, remembering, showing, shown_on, shown_there, space_name, with_current}
use Rattle.wm_spaces.proofs.AsideLemmas.{found_only}
use Rattle.wm_spaces.proofs.MoveLemmas.{on_held}
use Rattle.wm_tree.proofs.FocusLemmas.{root_first}
use Rattle.wm_forest.proofs.RecencyLemmas.{same_self}
use Rattle.wm_tree.specs.Along.{gone_along}
use Rattle.wm_forest.specs.Change.{at, shown_of}
use Rattle.wm_forest.specs.declared.kind.KindEdit.{KindEdit}
use Rattle.wm_forest.specs.declared.kind.KindEdit.TheVariants as edits
use Rattle.wm_forest.specs.declared.part.NodeKind.{NodeKind}
use Rattle.wm_forest.specs.declared.part.NodeKind.TheVariants.{Root, Output, Space, Con}
use Rattle.wm_forest.specs.declared.part.Part.{Part}
use Rattle.wm_forest.specs.Forest.{Forest, end, con}
use Rattle.wm_forest.specs.Kinds.{changed, kind_changed}
use Rattle.wm_forest.specs.Look.{first_alone, first_part, has, kind_by, only, same}
use Rattle.wm_tree.specs.Sets.{shown_by, with_shown}
use Rattle.wm_tree.specs.Sound.{IsSound}
use Rattle.wm_tree.specs.TreeValue.{TreeValue, current_in, parent, shown}
use Rattle.wm_forest.specs.RootId.{current_of, root}

-- ---- edits that change nothing

at_same : (c : ConId) (e : KindEdit) (f : Forest) → ((p : Part) → first_part (only c f) ≡ Some p → changed e p.kind ≡ p.kind) → at c kind_changed e f ≡ f
at_same c e end h = refl
at_same c e (con part kids floats rest) h = step (same part.id c) (has c kids) (has c floats) h (at_same c e kids) (at_same c e floats) (at_same c e rest)
  where
    Stays : Forest → Type 0
    Stays z = (p : Part) → first_part z ≡ Some p → changed e p.kind ≡ p.kind

    step : (a k l : Bool) → Stays (cond a (con part kids floats end) (cond k (only c kids) (cond l (only c floats) (only c rest))))
        → (Stays (only c kids) → at c kind_changed e kids ≡ kids) → (Stays (only c floats) → at c kind_changed e floats ≡ floats) → (Stays (only c rest) → at c kind_changed e rest ≡ rest)
        → cond a (kind_changed e part kids floats rest) (cond k (con part (at c kind_changed e kids) floats rest) (cond l (con part kids (at c kind_changed e floats) rest) (con part kids floats (at c kind_changed e rest)))) ≡ con part kids floats rest
    step true k l h u v w = ap (λ z. con (record part { kind = z }) kids floats rest) (h part refl)
    step false true l h u v w = ap (λ z. con part z floats rest) (u h)
    step false false true h u v w = ap (λ z. con part kids z rest) (v h)
    step false false false h u v w = ap (λ z. con part kids floats z) (w h)

current_kind : (o : ConId) (kind : NodeKind) → current_of kind ≡ o → changed (edits.Current o) kind ≡ kind
current_kind o (Root c) e = ap Root (sym e)
current_kind o (Output x) e = refl
current_kind o (Space x) e = refl
current_kind o (Con x) e = refl

shown_kind : (w : ConId) (kind : NodeKind) → shown_of kind ≡ Some w → changed (edits.Shown w) kind ≡ kind
shown_kind w (Root c) e = refl
shown_kind w (Output x) e = let one : w ≡ x.shown = cc in ap (λ z. Output (record x { shown = z })) one
shown_kind w (Space x) e = refl
shown_kind w (Con x) e = refl

part_alone : (f : Forest) → first_part (first_alone f) ≡ first_part f
part_alone end = refl
part_alone (con part kids floats rest) = refl

same_nodes : (t : TreeValue) (f : Forest) → f ≡ t.nodes → record t { nodes = f } ≡ t
same_nodes t f e = ap (λ z. record t { nodes = z }) e

-- where it is shown already, showing it there changes nothing
shows_same : (w o : ConId) (t : TreeValue) → IsSound t → IsShown w o t.nodes → shown_there w (parent t w) t ≡ t
shows_same w o t s h = ap (λ z. shown_there w z t) held ∙ (ap (λ z. followed (shown_on o t) w (with_shown w z)) one ∙ (ap (followed (shown_on o t) w) two ∙ three))
  where
    held : parent t w ≡ Some o
    held = on_held w o t s h.out h.on

    shows : shown_on o t ≡ Some w
    shows = ap (kind_by shown_of) (found_only o t.nodes (s.once o) h.out).1 ∙ h.shows

    stays_root : (p : Part) → first_part (only root t.nodes) ≡ Some p → changed (edits.Current o) p.kind ≡ p.kind
    stays_root p e =
        let first : first_part t.nodes ≡ Some p = sym (part_alone t.nodes) ∙ (ap first_part (sym (root_first t.nodes s.shaped s.rooted)) ∙ e) in
        current_kind o p.kind (ap current_in (sym first) ∙ h.now)

    one : with_current o t ≡ t
    one = same_nodes t (at root kind_changed (edits.Current o) t.nodes) (at_same root (edits.Current o) t.nodes stays_root)

    stays_output : (p : Part) → first_part (only o t.nodes) ≡ Some p → changed (edits.Shown w) p.kind ≡ p.kind
    stays_output p e = shown_kind w p.kind (ap (kind_by shown_of) (sym e) ∙ shows)

    two : with_shown w t ≡ t
    two = ap (λ z. shown_by z w t) held ∙ same_nodes t (at o kind_changed (edits.Shown w) t.nodes) (at_same o (edits.Shown w) t.nodes stays_output)

    three : followed (shown_on o t) w t ≡ t
    three = ap (λ z. followed z w t) shows ∙ ap (λ b. cond b t (gone_along w w t)) (same_self w w refl)

remembers_none : (t n : TreeValue) → n ≡ t → remembering t n ≡ t
remembers_none t n e = ap (remembering t) e ∙ ap (λ b. cond b t (record t { previous = space_name (shown t) t })) (same_self (shown t) (shown t) refl)

pub shows_once : ShowsOnce
shows_once w t s h =
    let p = placed w t s (space_is w t h) in
    let n : TreeValue = shown_there w (parent t w) t in
    let s_n : IsSound n = sound_there w t h s in
    let shown_n : IsShown w p.output n.nodes = subst (λ z. IsShown w p.output (shown_there w z t).nodes) (sym p.held_by) (is_shown w p.output t s h p.held_by) in
    by_test (same (shown t) (shown n)) n s_n p.output shown_n
  where
    Once : TreeValue → Type 0
    Once z = showing w z ≡ z

    again : (o : ConId) (z : TreeValue) → IsSound z → IsShown w o z.nodes → showing w z ≡ z
    again o z s h = remembers_none z (shown_there w (parent z w) z) (shows_same w o z s h)

    named : (n : TreeValue) (name : Option (List ℕ)) → IsSound n → IsSound (record n { previous = name })
    named n name s = record {
      shaped = s.shaped;
      rooted = s.rooted;
      once = s.once;
      fresh = s.fresh;
      low = s.low;
      above = s.above;
      known = s.known;
      few = s.few;
      few_spaces = s.few_spaces;
      few_marks = s.few_marks;
      ids = s.ids;
    }

    by_test : (b : Bool) (n : TreeValue) → IsSound n → (o : ConId) → IsShown w o n.nodes → Once (cond b n (record n { previous = space_name (shown t) t }))
    by_test true n s o h = again o n s h
    by_test false n s o h = again o (record n { previous = space_name (shown t) t }) (named n (space_name (shown t) t) s) h
