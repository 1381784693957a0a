-- Showing workspaces, new ones too, keeps what holds of every tree.
use Rattle.std.proofs.Common.{◌≡◌, true, false, List, ℕ, Option, ap, subst}
use Rattle.std.specs.Option.{option_or}
use Rattle.wm_base.specs.declared.errors.Refusal.{Refusal}
use Rattle.wm_base.specs.declared.ids.ConId.{ConId}
use Rattle.wm_shared.specs.Refusing.{IsCause, full_error, refusal_by}
use Rattle.wm_shared.specs.Subject.{is_space}
use Rattle.wm_spaces.proofs.StandLemmas.{new_stands}
use Rattle.wm_shared.proofs.StandingLemmas.{stands_space}
use Rattle.wm_tree.specs.declared.refusal.TreeRefusal.{TreeRefusal}
use Rattle.wm_tree.specs.declared.refusal.TreeRefusal.TheVariants as refusals
use Rattle.wm_forest.specs.Look.{has}
use Rattle.wm_tree.specs.Outputs.{IsOutput, IsSpaceCause, passed_by_space, with_space}
use Rattle.wm_tree.specs.Sound.{IsSound}
use Rattle.wm_tree.specs.TreeValue.{TreeValue}
use Rattle.wm_forest.specs.RootId.{id}

-- a new workspace is one
pub new_is : (o w : ConId) (n : List ℕ) (t new : TreeValue) → new ≡ with_space o n t → w ≡ id t.next_id → IsSound new → IsSound t → IsOutput o t.nodes → is_space new w ≡ true
new_is o w n t new e i s_new s ok =
    let s' : IsSound (with_space o n t) = subst IsSound e s_new in
    rw (e, i) (stands_space (id t.next_id) (with_space o n t) s' (new_stands o n t s ok))

-- why a new workspace is refused on an output that is there
pub space_cause : (t : TreeValue) (o : ConId) (e : TreeRefusal) → has o t.nodes ≡ true → IsSpaceCause t o e → IsCause (full_error (passed_by_space t.nodes t.next_id)) (refusal_by e)
space_cause t o (refusals.Missing c) there h = let no : has o t.nodes ≡ false = h.1 in cc
space_cause t o (refusals.Full limit) there h = ap full_error h.1
space_cause t o refusals.NoMemory there h = tt

-- the same, where another cause is looked for behind it
pub space_cause_or : (t : TreeValue) (o : ConId) (e : TreeRefusal) (rest : Option Refusal) → has o t.nodes ≡ true → IsSpaceCause t o e → IsCause (option_or (full_error (passed_by_space t.nodes t.next_id)) rest) (refusal_by e)
space_cause_or t o (refusals.Missing c) rest there h = let no : has o t.nodes ≡ false = h.1 in cc
space_cause_or t o (refusals.Full limit) rest there h = ap (λ z. option_or (full_error z) rest) h.1
space_cause_or t o refusals.NoMemory rest there h = tt
