-- Why an exchange or a move is refused.
use Rattle.std.proofs.Common.{◌≡◌, Bool, true, false, inl, inr, Option, None, Some, refl, ap, sym}
use Rattle.std.specs.Prelude.{IfSome}
use Rattle.wm_base.specs.declared.errors.ErrorText.{ErrorText}
use Rattle.wm_base.specs.declared.errors.Refusal.TheVariants as refusals
use Rattle.wm_base.specs.declared.ids.ConId.{ConId}
use Rattle.wm_focus.proofs.SubjectLemmas.{tiled_is}
use Rattle.wm_shared.proofs.ShowLemmas.{workspace_is}
use Rattle.wm_shared.specs.Refusing.{refusal_by}
use Rattle.wm_shared.specs.Subject.{is_space}
use Rattle.wm_focus.specs.Swaps.{beside_refusal, exchange_refusal, is_part}
use Rattle.wm_forest.proofs.ForestLemmas.{only_absent}
use Rattle.wm_forest.specs.declared.place.Place.TheVariants.{After}
use Rattle.wm_tree.specs.declared.refusal.TreeRefusal.{TreeRefusal}
use Rattle.wm_tree.specs.declared.refusal.TreeRefusal.TheVariants.{Full, Missing, NoMemory}
use Rattle.wm_forest.specs.Look.{con_kind, first_part, has, kind_by, only}
use Rattle.wm_tree.specs.Move.{IsExchangeCause, IsMoveCause}
use Rattle.wm_tree.specs.Sound.{IsSound}
use Rattle.wm_tree.specs.TreeValue.{TreeValue, is_tiled_con, workspace_of}

-- a tiled container is there
pub tiled_there : (t : TreeValue) (c : ConId) → is_tiled_con t c ≡ true → has c t.nodes ≡ true
tiled_there t c h = by (has c t.nodes) refl where
  by : (b : Bool) → has c t.nodes ≡ b → has c t.nodes ≡ true
  by true e = e
  by false e = absurd ((tiled_is t c h).0 (ap (λ f. kind_by con_kind (first_part f)) (only_absent c t.nodes e)))

pub exchange_cause : (t : TreeValue) (c o : ConId) (text : ErrorText) (error : TreeRefusal) → is_part t c o ≡ false → is_tiled_con t c ≡ true → is_tiled_con t o ≡ true → IsExchangeCause t c o error
    → exchange_refusal c (Some o) text t ≡ Some (refusal_by error)
exchange_cause t c o text (Full limit) apart a b h = rw (apart, a, b, h.2) (ap (λ l. Some (refusals.Full l)) (sym h.3))
exchange_cause t c o text (Missing i) apart a b (inl w) = let here = tiled_there t c a in absurd (cc (w.1, here))
exchange_cause t c o text (Missing i) apart a b (inr w) = let here = tiled_there t o b in absurd (cc (w.2, here))
exchange_cause t c o text NoMemory apart a b h = absurd h

pub move_cause : (t : TreeValue) (c m : ConId) (error : TreeRefusal) → has m (only c t.nodes) ≡ false → is_tiled_con t m ≡ true → is_tiled_con t c ≡ true → IsMoveCause t c (After m) error
    → beside_refusal c (Some m) t ≡ Some (refusal_by error)
move_cause t c m (Full limit) apart a b h = rw (apart, a, b, h.2) refl
move_cause t c m (Missing i) apart a b (inl w) = let here = tiled_there t c b in absurd (cc (w.1, here))
move_cause t c m (Missing i) apart a b (inr w) = let here = tiled_there t m a in absurd (cc (w.2, here))
move_cause t c m NoMemory apart a b h = absurd h

-- the workspace of a container, if it has one
pub space_if : (c : ConId) (o : Option ConId) (t : TreeValue) → IsSound t → workspace_of t c ≡ o → IfSome o (λ w. is_space t w ≡ true)
space_if c None t s e = tt
space_if c (Some w) t s e = workspace_is c w t s e
