-- The laws: each step keeps at most one fullscreen container in each workspace of a sound tree.
use Rattle.std.proofs.Common.{◌≡◌, ℕ, zero, suc, ◌+◌, ◌≤◌, Bool, true, false, Option, None, Some, refl, sym, subst, arith}
use Rattle.std.specs.Option.{option_map}
use Rattle.std.specs.Prelude.{length}
use Rattle.wm_base.specs.declared.ids.ConId.{ConId}
use Rattle.wm_floats.proofs.FullLemmas.{fulls, none_left, one_less}
use Rattle.wm_floats.specs.Fullscreen.{full_in, fullscreen_tree, others_unfull}
use Rattle.wm_floats.specs.Windows.{full_set, restated, state_of}
use Rattle.law_fullscreen.proofs.ExchangeLemmas.{one_exchanged}
use Rattle.law_fullscreen.proofs.FillLemmas.{one_fullscreen}
use Rattle.law_fullscreen.proofs.HasOneLemmas.{has_single, single_has}
use Rattle.law_fullscreen.proofs.MoveLemmas.{one_along, one_moved, one_space_moved}
use Rattle.law_fullscreen.proofs.OutputLemmas.{none_open, one_without_output}
use Rattle.law_fullscreen.proofs.WordLemmas.{one_attached, one_detached, one_raised, one_settled, one_with_output, one_with_space, one_wrapped}
use Rattle.law_fullscreen.specs.Fullscreen.{HasOne, IsSingle, full_of}
use Rattle.law_fullscreen.specs.Laws.{AddedOutputsKeepOne, AddedSpacesKeepOne, ClosingKeepsOne, CountsAgree, ExchangingKeepsOne, FillingKeepsOne, GoingAlongKeepsOne, MappingKeepsOne, MovedSpacesKeepOne, MovingKeepsOne, OpeningsHaveOne, RaisingKeepsOne, RemovedOutputsKeepOne, SettlingKeepsOne, WrappingKeepsOne}
use Rattle.wm_tree.proofs.AlongLemmas.{along_by}
use Rattle.wm_tree.proofs.AttachLemmas.{sound-attached}
use Rattle.wm_forest.proofs.CountLemmas.{count-without}
use Rattle.wm_forest.proofs.EditLemmas.{fits_state}
use Rattle.wm_tree.proofs.ExchangeSound.{sound-exchanged}
use Rattle.wm_tree.proofs.MoveLemmas.{sound-moved}
use Rattle.wm_tree.proofs.OutputLemmas.{sound-with_output, sound-without_output}
use Rattle.wm_tree.proofs.PlaceLemmas.{place_fits}
use Rattle.wm_tree.proofs.RaiseLemmas.{sound-raised}
use Rattle.wm_tree.proofs.SettleLemmas.{sound-settled}
use Rattle.wm_tree.proofs.SpaceLemmas.{has_output, sound-space_moved, sound-with_space}
use Rattle.wm_tree.proofs.SoundLemmas.{sound-detached, sound-edited}
use Rattle.wm_tree.proofs.WrapLemmas.{sound-wrapped}
use Rattle.wm_tree.specs.Along.{gone_along}
use Rattle.wm_forest.specs.declared.kind.KindEdit.TheVariants as edits
use Rattle.wm_forest.specs.declared.part.ConState.{ConState}
use Rattle.wm_forest.specs.declared.place.NewCon.TheVariants as new
use Rattle.wm_forest.specs.Look.{first_kids, only}
use Rattle.wm_tree.specs.Move.{exchanged, moved, wrapped}
use Rattle.wm_tree.specs.Outputs.{space_moved, with_output, with_space, without_output}
use Rattle.wm_tree.specs.Sound.{IsSound}
use Rattle.wm_forest.specs.Spot.{spot_in, top}
use Rattle.wm_tree.specs.TreeValue.{TreeValue, newcomer_place, opening, workspace_of}
use Rattle.wm_tree.specs.Words.{attached, detached, settled, with_raised}

-- a step between sound trees
keeps : (t new : TreeValue) → IsSound t → IsSound new → (IsSingle t.nodes → IsSingle new.nodes) → HasOne t → HasOne new
keeps t new s n step one = single_has new n (step (has_single t s one))

-- ---- becoming fullscreen leaves a tree sound

sound_restated : (c : ConId) (o : Option ConState) (t : TreeValue) → IsSound t → IsSound (restated c o t)
sound_restated c None t s = s
sound_restated c (Some x) t s = sound-edited c (edits.State x) t (fits_state x (spot_in top c t.nodes) (first_kids (only c t.nodes))) s

sound_full_set : (on : Bool) (c : ConId) (t : TreeValue) → IsSound t → IsSound (full_set on c t)
sound_full_set on c t s = sound_restated c (option_map (λ (x : ConState). record x { fullscreen = on }) (state_of c t)) t s

-- the others of a workspace lose fullscreen one after another, of at most n
sound_others : (n : ℕ) (c w : ConId) (t : TreeValue) → fulls c t.nodes ≤ n → IsSound t → IsSound (others_unfull c (Some w) t)
sound_others zero c w t few s = by (full_in w c t.nodes) refl
  where
    by : (o : Option ConId) → full_in w c t.nodes ≡ o → IsSound (others_unfull c (Some w) t)
    by None e = subst IsSound (sym (none_left w c t e)) s
    by (Some i) e = let less = (one_less w c i t (full_set false i t) s e refl).1 in absurd (omega (arith, few, less))
sound_others (suc n) c w t few s = by (full_in w c t.nodes) refl (λ x k r. sound_others n c w x k r)
  where
    by : (o : Option ConId) → full_in w c t.nodes ≡ o → ((x : TreeValue) → fulls c x.nodes ≤ n → IsSound x → IsSound (others_unfull c (Some w) x)) → IsSound (others_unfull c (Some w) t)
    by None e next = subst IsSound (sym (none_left w c t e)) s
    by (Some i) e next =
        let one = one_less w c i t (full_set false i t) s e refl in
        let less = one.1 in
        subst IsSound one.0 (next (full_set false i t) (omega (arith, few, less)) (sound_full_set false i t s))

pub sound_fullscreen : (c : ConId) (on : Bool) (t : TreeValue) → IsSound t → IsSound (fullscreen_tree c on t)
sound_fullscreen c false t s = sound_full_set false c t s
sound_fullscreen c true t s = sound_full_set true c (others_unfull c (workspace_of t c) t) (by (workspace_of t c))
  where
    by : (o : Option ConId) → IsSound (others_unfull c o t)
    by None = s
    by (Some w) = sound_others (fulls c t.nodes) c w t (omega arith) s

-- ---- the laws

pub raising_keeps : RaisingKeepsOne
raising_keeps c t s = keeps t (with_raised c t) s (sound-raised c t s) (one_raised c t)

pub moving_keeps : MovingKeepsOne
moving_keeps c p t s g none = keeps t (moved c p t) s (sound-moved c p t (g.2.0 g.0) g.0 g.1 (g.2.2 g.0 g.1) g.2.1 none s) (one_moved c p t s g)

pub exchanging_keeps : ExchangingKeepsOne
exchanging_keeps a b t s first second ok shallow =
    keeps t (exchanged a b t) s (sound-exchanged a b t first second (ok.0 first) (ok.1 second) ok.2 ok.3 shallow s) (one_exchanged a b t s first second ok)

pub filling_keeps : FillingKeepsOne
filling_keeps c on t s = keeps t (fullscreen_tree c on t) s (sound_fullscreen c on t s) (one_fullscreen c on t s)

pub going_along_keeps : GoingAlongKeepsOne
going_along_keeps v w t s ok = keeps t (gone_along v w t) s (along_by v w t (gone_along v w t) refl ok s) (one_along v w t s.low)

pub wrapping_keeps : WrappingKeepsOne
wrapping_keeps c layout t s here tiled none = keeps t (wrapped c layout t) s (sound-wrapped c layout t here tiled none s) (one_wrapped c layout t)

pub settling_keeps : SettlingKeepsOne
settling_keeps t s = keeps t (settled t) s (sound-settled t s) (one_settled t)

pub mapping_keeps : MappingKeepsOne
mapping_keeps who props natural t s none =
    let fit = place_fits t s in
    keeps t (attached (newcomer_place t) (new.Window props who natural) t) s (sound-attached (newcomer_place t) (new.Window props who natural) t fit.0 fit.1 none s) (one_attached (newcomer_place t) (new.Window props who natural) t)

pub closing_keeps : ClosingKeepsOne
closing_keeps c t s ok = keeps t (detached c t) s (sound-detached c t ok s) (one_detached c t)

pub space_coming_keeps : AddedSpacesKeepOne
space_coming_keeps o name t s out none = keeps t (with_space o name t) s (sound-with_space o name t (has_output o t.nodes out) out none s) (one_with_space o name t)

pub space_moving_keeps : MovedSpacesKeepOne
space_moving_keeps w o t s ok unshown out = keeps t (space_moved w o t) s (sound-space_moved w o t s ok unshown out) (one_space_moved w o t ok)

pub output_coming_keeps : AddedOutputsKeepOne
output_coming_keeps plan name t s fit none = keeps t (with_output plan name t) s (sound-with_output plan name t fit none s) (one_with_output plan name t)

pub removing_keeps : RemovedOutputsKeepOne
removing_keeps o t s out = keeps t (without_output o t) s (sound-without_output o t out s) (one_without_output o t s out)

pub openings_have : OpeningsHaveOne
openings_have plans border inner outer w is = omega (arith, count-without full_of w (opening plans border inner outer).nodes, none_open 1 (1 + length plans) inner outer plans)

pub counts_agree : CountsAgree
counts_agree t s = (has_single t s, single_has t s)
