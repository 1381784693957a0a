-- A change at one node, by cases on where the node stands.
use Rattle.std.proofs.Common.{Bool, true, false, cond, Option, None, Some}
use Rattle.wm_base.specs.declared.ids.ConId.{ConId}
use Rattle.wm_forest.specs.declared.part.Part.{Part}
use Rattle.wm_forest.specs.declared.spot.Spot.{Spot}
use Rattle.wm_forest.specs.Forest.{Forest, end, con}
use Rattle.wm_forest.specs.Change.{at}
use Rattle.wm_forest.specs.Counts.{row_with}
use Rattle.wm_forest.specs.Look.{same, has, only}
use Rattle.wm_forest.specs.SoundRow.{Level, containers, below}
use Rattle.wm_forest.specs.Spot.{spot_below, spot_in, spot_of}

-- P speaks of the level and the spot of a row, the whole row, what is left of it, the change of that, the node, its spot and its row
module _ {X : Type 0} (c : ConId) (f : X → Part → Forest → Forest → Forest → Forest) (x : X)
    (P : Level → Spot → Forest → Forest → Forest → Forest → Option Spot → Forest → Type 0)
    (at_end : (l : Level) (s : Spot) (whole : Forest) → P l s whole end end end None end)
    (here : (l : Level) (s : Spot) (whole : Forest) (part : Part) (kids floats rest : Forest) → P l s whole (con part kids floats rest) (f x part kids floats rest) (con part kids floats end) (Some (spot_of s part)) whole)
    (in_kids : (l : Level) (s : Spot) (whole : Forest) (part : Part) (kids floats rest new found : Forest) (sp : Option Spot) (st : Forest) → P (below l) (spot_below true s part) kids kids new found sp st → P l s whole (con part kids floats rest) (con part new floats rest) found sp st)
    (in_floats : (l : Level) (s : Spot) (whole : Forest) (part : Part) (kids floats rest new found : Forest) (sp : Option Spot) (st : Forest) → P containers (spot_below false s part) floats floats new found sp st → P l s whole (con part kids floats rest) (con part kids new rest) found sp st)
    (behind : (l : Level) (s : Spot) (whole : Forest) (part : Part) (kids floats rest new found : Forest) (sp : Option Spot) (st : Forest) → P l s whole rest new found sp st → P l s whole (con part kids floats rest) (con part kids floats new) found sp st)
  where
    step : (a k m : Bool) (l : Level) (s : Spot) (whole : Forest) (part : Part) (kids floats rest : Forest)
        → P (below l) (spot_below true s part) kids kids (at c f x kids) (only c kids) (spot_in (spot_below true s part) c kids) (row_with c kids kids)
        → P containers (spot_below false s part) floats floats (at c f x floats) (only c floats) (spot_in (spot_below false s part) c floats) (row_with c floats floats)
        → P l s whole rest (at c f x rest) (only c rest) (spot_in s c rest) (row_with c whole rest)
        → P l s whole (con part kids floats rest)
        (cond a (f x part kids floats rest) (cond k (con part (at c f x kids) floats rest) (cond m (con part kids (at c f x floats) rest) (con part kids floats (at c f x rest)))))
        (cond a (con part kids floats end) (cond k (only c kids) (cond m (only c floats) (only c rest))))
        (cond a (Some (spot_of s part)) (cond k (spot_in (spot_below true s part) c kids) (cond m (spot_in (spot_below false s part) c floats) (spot_in s c rest))))
        (cond a whole (cond k (row_with c kids kids) (cond m (row_with c floats floats) (row_with c whole rest))))
    step true k m l s whole part kids floats rest p q r = here l s whole part kids floats rest
    step false true m l s whole part kids floats rest p q r = in_kids l s whole part kids floats rest (at c f x kids) (only c kids) (spot_in (spot_below true s part) c kids) (row_with c kids kids) p
    step false false true l s whole part kids floats rest p q r = in_floats l s whole part kids floats rest (at c f x floats) (only c floats) (spot_in (spot_below false s part) c floats) (row_with c floats floats) q
    step false false false l s whole part kids floats rest p q r = behind l s whole part kids floats rest (at c f x rest) (only c rest) (spot_in s c rest) (row_with c whole rest) r

    -- what holds at the node, and is handed up from a row, holds of the whole change
    pub by_place : (l : Level) (s : Spot) (whole forest : Forest) → P l s whole forest (at c f x forest) (only c forest) (spot_in s c forest) (row_with c whole forest)
    by_place l s whole end = at_end l s whole
    by_place l s whole (con part kids floats rest) =
        step (same part.id c) (has c kids) (has c floats) l s whole part kids floats rest
        (by_place (below l) (spot_below true s part) kids kids) (by_place containers (spot_below false s part) floats floats) (by_place l s whole rest)

module _ {X : Type 0} (c : ConId) (f : X → Part → Forest → Forest → Forest → Forest) (x : X) (P : Forest → Forest → Forest → Type 0) (at_end : P end end end)
    (here : (part : Part) (kids floats rest : Forest) → P (con part kids floats rest) (f x part kids floats rest) (con part kids floats end))
    (in_kids : (part : Part) (kids floats rest new found : Forest) → P kids new found → P (con part kids floats rest) (con part new floats rest) found)
    (in_floats : (part : Part) (kids floats rest new found : Forest) → P floats new found → P (con part kids floats rest) (con part kids new rest) found)
    (behind : (part : Part) (kids floats rest new found : Forest) → P rest new found → P (con part kids floats rest) (con part kids floats new) found)
  where
    step_plain : (a k l : Bool) (part : Part) (kids floats rest : Forest) → P kids (at c f x kids) (only c kids) → P floats (at c f x floats) (only c floats) → P rest (at c f x rest) (only c rest)
        → P (con part kids floats rest)
        (cond a (f x part kids floats rest) (cond k (con part (at c f x kids) floats rest) (cond l (con part kids (at c f x floats) rest) (con part kids floats (at c f x rest)))))
        (cond a (con part kids floats end) (cond k (only c kids) (cond l (only c floats) (only c rest))))
    step_plain true k l part kids floats rest p q r = here part kids floats rest
    step_plain false true l part kids floats rest p q r = in_kids part kids floats rest (at c f x kids) (only c kids) p
    step_plain false false true part kids floats rest p q r = in_floats part kids floats rest (at c f x floats) (only c floats) q
    step_plain false false false part kids floats rest p q r = behind part kids floats rest (at c f x rest) (only c rest) r

    -- the same, where neither level nor spot matters
    pub by_change : (forest : Forest) → P forest (at c f x forest) (only c forest)
    by_change end = at_end
    by_change (con part kids floats rest) = step_plain (same part.id c) (has c kids) (has c floats) part kids floats rest (by_change kids) (by_change floats) (by_change rest)
