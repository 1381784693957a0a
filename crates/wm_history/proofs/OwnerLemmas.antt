-- The callers of the open windows, before and after a step.
use Rattle.std.proofs.Common.{◌≡◌, ◌≢◌, ℕ, ◌≤◌, ◌==◌, Bool, true, false, cond, not, ◌&&◌, ◌||◌, List, [], Option, Some, None, is_some, refl, ap, sym, subst, ◌∙◌, arith}
use Rattle.std.proofs.lemmas.Bool.Decides.{nat_tests}
use Rattle.std.specs.List.{list_any}
use Rattle.std.specs.Option.{option_or}
use Rattle.wm_base.specs.declared.ids.Buffer.{Buffer}
use Rattle.wm_base.specs.declared.ids.ConId.{ConId}
use Rattle.wm_forest.specs.Change.{is_window_kind}
use Rattle.wm_opens.proofs.OwnerLemmas.{owned_found, owned_seen}
use Rattle.wm_opens.specs.Opens.{is_owned_kind, is_owned_of, is_owned_part, is_window_of, is_window_part, owned_at}
use Rattle.std.proofs.lemmas.Bool.{false_from_ne_true, false≢true}
use Rattle.wm_forest.proofs.ForestLemmas.{only_absent}
use Rattle.wm_opens.proofs.PlaceholderLemmas.{window_may_not_open}
use Rattle.wm_forest.proofs.RecencyLemmas.{same_is}
use Rattle.wm_forest.specs.Counts.{count}
use Rattle.wm_forest.specs.declared.part.ConKind.{ConKind}
use Rattle.wm_forest.specs.declared.part.ConKind.TheVariants.{Split, Window, Placeholder}
use Rattle.wm_forest.specs.declared.part.ConPart.{ConPart}
use Rattle.wm_forest.specs.Look.{con_kind, first_part, has, kind_by, kind_of, same}
use Rattle.wm_tree.specs.Sound.{IsSound}
use Rattle.wm_tree.specs.TreeValue.{TreeValue}
use Rattle.wm_txn.specs.History.{is_fresh}
use Rattle.wm_history.specs.ByWindow.{left_of, value_at}
use Rattle.wm_history.specs.Follows.{AreOwners, Follows}
use Rattle.wm_history.specs.Effect.{closed}
use Rattle.wm_history.specs.Windows.{is_caller, is_window, kind_owner, owner_of, owner_then, part_owner}
use Rattle.wm_history.proofs.FollowLemmas.{closed_are}
use Rattle.wm_history.proofs.GoneLemmas.{some_part}

-- ---- looking a window up

kind_told : (who : ℕ) (kind : ConKind) → is_caller who (kind_owner kind) ≡ is_owned_kind who kind
kind_told who (Split layout last) = refl
kind_told who (Window props owner natural) = refl
kind_told who (Placeholder props swallows) = refl

part_told : (who : ℕ) (part : Option ConPart) → is_caller who (part_owner part) ≡ is_owned_part who part
part_told who None = refl
part_told who (Some p) = kind_told who p.kind

kind_known : (kind : ConKind) → is_window_kind kind ≡ is_some (kind_owner kind)
kind_known (Split layout last) = refl
kind_known (Window props owner natural) = refl
kind_known (Placeholder props swallows) = refl

-- what is a window has a caller
part_known : (part : Option ConPart) → is_window_part part ≡ is_some (part_owner part)
part_known None = refl
part_known (Some p) = kind_known p.kind

own : (n : ℕ) → (n == n) ≡ true
own n = grind (arith, nat_tests)

caller_is : (who : ℕ) (o : Option ℕ) → is_caller who o ≡ true → o ≡ Some who
caller_is who None h = cc
caller_is who (Some owner) h = ap Some (by h)
  where
    by : (owner == who) ≡ true → owner ≡ who
    by e = grind (arith, nat_tests)

-- a window of a caller is a container of the tree
pub window_there : (who : ℕ) (v : ConId) (t : TreeValue) → is_window t who v ≡ true → (has v t.nodes ≡ true) × (kind_of con_kind v t.nodes ≢ None)
window_there who v t h = (by (has v t.nodes) refl, some_part who (kind_of con_kind v t.nodes) h)
  where
    by : (b : Bool) → has v t.nodes ≡ b → b ≡ true
    by true e = refl
    by false e =
        let none : kind_of con_kind v t.nodes ≡ None = ap (λ f. kind_by con_kind (first_part f)) (only_absent v t.nodes e) in
        absurd (some_part who (kind_of con_kind v t.nodes) h none)

-- ---- after a step

no_and : (b : Bool) → (b && false) ≡ false
no_and true = refl
no_and false = refl

yes_and : (b : Bool) → (b && true) ≡ b
yes_and true = refl
yes_and false = refl

none_by : (o : Option ℕ) → is_some o ≡ false → o ≡ None
none_by None h = refl
none_by (Some n) h = cc

module _ (old new : TreeValue) (fresh : Option (ConId × Buffer)) (sound_old : IsSound old) (sound_new : IsSound new) (f : Follows old new fresh) where
  counted : (who : ℕ) (v : ConId) → is_owned_of new who v ≡ true → 1 ≤ count (owned_at who v) new.nodes
  counted who v h =
      let one : cond {A = ℕ} (is_owned_of new who v) 1 0 ≡ 1 = ap (λ b. cond {A = ℕ} b 1 0) h in
      omega (arith, one, owned_seen who v new.nodes (sound_new.once v))

  -- a window that stays has the caller that it had
  stays : (who : ℕ) (v : ConId) → is_fresh v fresh ≡ false → owner_of new v ≡ Some who → owner_of old v ≡ Some who
  stays who v other h =
      let mine : is_owned_of new who v ≡ true = sym (part_told who (kind_of con_kind v new.nodes)) ∙ (ap (is_caller who) h ∙ own who) in
      let was : is_owned_of old who v ≡ true = owned_found who v old sound_old (omega (arith, counted who v mine, f.owned who v other)) in
      caller_is who (owner_of old v) (part_told who (kind_of con_kind v old.nodes) ∙ was)

  open_told : (t : TreeValue) (v : ConId) (o : Option ℕ) → owner_of t v ≡ o → is_window_of t v ≡ is_some o
  open_told t v o e = part_known (kind_of con_kind v t.nodes) ∙ ap is_some e

  abbrev then : ConId → Option ℕ
  then v = owner_then new fresh v (owner_of old v)

  kept : (v : ConId) (who : ℕ) → owner_of new v ≡ Some who → then v ≡ Some who
  kept v who e = by (is_fresh v fresh) refl
    where
      by : (b : Bool) → is_fresh v fresh ≡ b → cond b (option_or (owner_of new v) (owner_of old v)) (owner_of old v) ≡ Some who
      by true is = ap (λ o. option_or o (owner_of old v)) e
      by false is = stays who v is e

  gone : (v : ConId) → owner_of new v ≡ None → cond (is_fresh v fresh || is_window_of old v) None (then v) ≡ None
  gone v e = by (is_fresh v fresh) (is_window_of old v) refl refl
    where
      by : (b c : Bool) → is_fresh v fresh ≡ b → is_window_of old v ≡ c → cond (b || c) None (cond b (option_or (owner_of new v) (owner_of old v)) (owner_of old v)) ≡ None
      by true c is was = refl
      by false true is was = refl
      by false false is was = none_by (owner_of old v) (sym (part_known (kind_of con_kind v old.nodes)) ∙ was)

  left : (v : ConId) (now : Option ℕ) → owner_of new v ≡ now → left_of (closed old new fresh) v (then v) ≡ now
  left v (Some who) e =
      let stayed : list_any (same v) (closed old new fresh) ≡ false =
      closed_are old new fresh sound_old sound_new f v ∙ (ap (λ b. (is_fresh v fresh || is_window_of old v) && not b) (open_told new v (Some who) e) ∙ no_and (is_fresh v fresh || is_window_of old v)) in
      ap (λ b. cond b None (then v)) stayed ∙ kept v who e
  left v None e =
      let went : list_any (same v) (closed old new fresh) ≡ (is_fresh v fresh || is_window_of old v) =
      closed_are old new fresh sound_old sound_new f v ∙ (ap (λ b. (is_fresh v fresh || is_window_of old v) && not b) (open_told new v None e) ∙ yes_and (is_fresh v fresh || is_window_of old v)) in
      ap (λ b. cond b None (then v)) went ∙ gone v e

  -- with the fresh one put in and those that closed taken out, the map has the callers of the new tree
  pub owners_after : (before added after : List (ℕ × ℕ)) (ids : List ConId) → ids ≡ closed old new fresh → AreOwners before old
      → ((v : ConId) → value_at added v ≡ owner_then new fresh v (value_at before v)) → ((v : ConId) → value_at after v ≡ left_of ids v (value_at added v)) → AreOwners after new
  owners_after before added after ids are were put took v =
      took v
      ∙ (ap (λ l. left_of l v (value_at added v)) are
      ∙ (ap (left_of (closed old new fresh) v) (put v ∙ ap (owner_then new fresh v) (were v))
      ∙ left v (owner_of new v) refl))

-- ---- one window

-- where the tree has not the fresh window, no caller is added
pub none_added : (t : TreeValue) (fresh : Option (ConId × Buffer)) (con : ConId) (buffer : Buffer) (v : ConId) (before : Option ℕ) → fresh ≡ Some (con, buffer) → owner_of t con ≡ None
    → before ≡ owner_then t fresh v before
none_added t fresh con buffer v before is none = subst (λ z. before ≡ owner_then t z v before) (sym is) (by (same con v) refl)
  where
    by : (b : Bool) → same con v ≡ b → before ≡ cond b (option_or (owner_of t v) before) before
    by true e = sym (ap (λ o. option_or o before) (ap (owner_of t) (sym (same_is con v e)) ∙ none))
    by false e = refl

-- where it has it, its caller is
pub one_added : (t : TreeValue) (fresh : Option (ConId × Buffer)) (con : ConId) (buffer : Buffer) (owner : ℕ) (v : ConId) (before : Option ℕ) → fresh ≡ Some (con, buffer) → owner_of t con ≡ Some owner
    → cond (same con v) (Some owner) before ≡ owner_then t fresh v before
one_added t fresh con buffer owner v before is some = subst (λ z. cond (same con v) (Some owner) before ≡ owner_then t z v before) (sym is) (by (same con v) refl)
  where
    by : (b : Bool) → same con v ≡ b → cond b (Some owner) before ≡ cond b (option_or (owner_of t v) before) before
    by true e = sym (ap (λ o. option_or o before) (ap (owner_of t) (sym (same_is con v e)) ∙ some))
    by false e = refl

-- where the fresh window is taken out again, the map has the callers of the old tree
pub owners_again : (old new : TreeValue) (fresh : Option (ConId × Buffer)) → IsSound old → Follows old new fresh → (before added after : List (ℕ × ℕ)) → AreOwners before old
    → ((v : ConId) → value_at added v ≡ owner_then new fresh v (value_at before v)) → ((v : ConId) → value_at after v ≡ cond (is_fresh v fresh) None (value_at added v)) → AreOwners after old
owners_again old new fresh sound f before added after were put took v = took v ∙ (ap (cond (is_fresh v fresh) None) (put v) ∙ by (is_fresh v fresh) refl)
  where
    not_yet : is_fresh v fresh ≡ true → owner_of old v ≡ None
    not_yet e =
        let no_window : is_window_of old v ≡ false = false_from_ne_true (is_window_of old v) (λ window. false≢true (sym (window_may_not_open old v sound window) ∙ (f.fresh_id v e).0)) in
        none_by (owner_of old v) (sym (part_known (kind_of con_kind v old.nodes)) ∙ no_window)

    by : (b : Bool) → is_fresh v fresh ≡ b → cond b None (cond b (option_or (owner_of new v) (value_at before v)) (value_at before v)) ≡ owner_of old v
    by true e = sym (not_yet e)
    by false e = were v

-- ---- the opening

-- a map without entries has the callers of a tree without windows
pub no_owners : (t : TreeValue) (owners : List (ℕ × ℕ)) → ((v : ConId) → is_window_of t v ≡ false) → owners ≡ [] → AreOwners owners t
no_owners t owners none empty v = ap (λ m. value_at m v) empty ∙ sym (none_by (owner_of t v) (sym (part_known (kind_of con_kind v t.nodes)) ∙ none v))
