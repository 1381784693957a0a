-- The placeholder that is found is there, and is one that takes the window.
use Rattle.std.proofs.Common.{◌≡◌, ◌+◌, ◌≤◌, Bool, true, false, cond, ◌||◌, ◌++◌, Option, Some, None, refl, sym, ◌∙◌, ap, arith}
use Rattle.std.specs.Prelude.{option_map}
use Rattle.std.specs.List.{find}
use Rattle.std.specs.Option.{option_map_or, option_or}
use Rattle.std.proofs.lemmas.List.Folds.{find-append}
use Rattle.wm_swallow.specs.Laws.{IsFirst, tiled_nodes}
use Rattle.wm_base.specs.declared.ids.ConId.{ConId}
use Rattle.wm_base.specs.declared.properties.Props.{Props}
use Rattle.wm_forest.specs.declared.part.Part.{Part}
use Rattle.wm_forest.specs.Forest.{Forest, end, con}
use Rattle.wm_forest.specs.Look.{first_part, has, only, same}
use Rattle.wm_forest.specs.SoundRow.{tally}
use Rattle.wm_forest.proofs.CountLemmas.{counted}
use Rattle.wm_forest.proofs.RecencyLemmas.{same_self}
use Rattle.wm_swallow.specs.Swallowing.{takes, takes_at}

own_there : (c : ConId) (part : Part) (kids floats rest : Forest) → part.id ≡ c → has c (con part kids floats rest) ≡ true
own_there c part kids floats rest e = rw (same_self part.id c e) refl

kids_there : (a k l r : Bool) → k ≡ true → (a || k || l || r) ≡ true
kids_there true k l r h = refl
kids_there false true l r h = refl
kids_there false false l r h = cc

rest_there : (a k l r : Bool) → r ≡ true → (a || k || l || r) ≡ true
rest_there true k l r h = refl
rest_there false true l r h = refl
rest_there false false true r h = refl
rest_there false false false r h = h

-- the placeholder that is found is there
pub taker_there : (props : Props) (c : ConId) (f : Forest) → takes_at props f ≡ Some c → has c f ≡ true
taker_there props c end h = cc
taker_there props c (con part kids floats rest) h = by (takes props part.kind) (takes_at props kids) refl (taker_there props c kids) (taker_there props c rest) h
  where
    by : (b : Bool) (o : Option ConId) → takes_at props kids ≡ o → (takes_at props kids ≡ Some c → has c kids ≡ true) → (takes_at props rest ≡ Some c → has c rest ≡ true)
        → cond b (Some part.id) (option_or o (takes_at props rest)) ≡ Some c → has c (con part kids floats rest) ≡ true
    by true o e k r g = own_there c part kids floats rest cc
    by false (Some d) e k r g = let here : Some d ≡ Some c = g in kids_there (same part.id c) (has c kids) (has c floats) (has c rest) (k (e ∙ here))
    by false None e k r g = rest_there (same part.id c) (has c kids) (has c floats) (has c rest) (r g)

-- ---- where each id is there once

abbrev pub takes_first : Props → Option Part → Bool
takes_first props o = option_map_or (λ (p : Part). takes props p.kind) o false

-- the node that is found takes the window
pub taker_takes : (props : Props) (c : ConId) (f : Forest) → tally c f ≤ 1 → takes_at props f ≡ Some c → takes_first props (first_part (only c f)) ≡ true
taker_takes props c end once h = cc
taker_takes props c (con part kids floats rest) once h =
    by (takes props part.kind) (takes_at props kids) refl refl (taker_takes props c kids (omega (arith, once))) (taker_takes props c rest (omega (arith, once))) h
  where
    below : (a k l : Bool) → same part.id c ≡ a → has c kids ≡ k → has c floats ≡ l → has c kids ≡ true → takes_first props (first_part (only c kids)) ≡ true
        → takes_first props (first_part (cond a (con part kids floats end) (cond k (only c kids) (cond l (only c floats) (only c rest))))) ≡ true
    below true k l ea ek el there ih =
        let counts : tally c (con part kids floats rest) ≡ 1 + tally c kids + tally c floats + tally c rest = rw ea refl in
        absurd (omega (arith, once, counts, counted c kids there))
    below false true l ea ek el there ih = ih
    below false false l ea ek el there ih = let no : false ≡ true = sym ek ∙ there in cc

    behind : (a k l : Bool) → same part.id c ≡ a → has c kids ≡ k → has c floats ≡ l → has c rest ≡ true → takes_first props (first_part (only c rest)) ≡ true
        → takes_first props (first_part (cond a (con part kids floats end) (cond k (only c kids) (cond l (only c floats) (only c rest))))) ≡ true
    behind true k l ea ek el there ih =
        let counts : tally c (con part kids floats rest) ≡ 1 + tally c kids + tally c floats + tally c rest = rw ea refl in
        absurd (omega (arith, once, counts, counted c rest there))
    behind false true l ea ek el there ih = absurd (omega (arith, once, counted c kids ek, counted c rest there))
    behind false false true ea ek el there ih = absurd (omega (arith, once, counted c floats el, counted c rest there))
    behind false false false ea ek el there ih = ih

    by : (b : Bool) (o : Option ConId) → takes props part.kind ≡ b → takes_at props kids ≡ o → (takes_at props kids ≡ Some c → takes_first props (first_part (only c kids)) ≡ true)
        → (takes_at props rest ≡ Some c → takes_first props (first_part (only c rest)) ≡ true) → cond b (Some part.id) (option_or o (takes_at props rest)) ≡ Some c
        → takes_first props (first_part (only c (con part kids floats rest))) ≡ true
    by true o t e k r g = let own : part.id ≡ c = cc in rw (same_self part.id c own) t
    by false (Some d) t e k r g =
        let here : Some d ≡ Some c = g in
        let found : takes_at props kids ≡ Some c = e ∙ here in
        below (same part.id c) (has c kids) (has c floats) refl refl refl (taker_there props c kids found) (k found)
    by false None t e k r g = behind (same part.id c) (has c kids) (has c floats) refl refl refl (taker_there props c rest g) (r g)

-- ---- the walk over the list of all nodes

abbrev found_in : Props → Forest → Option ConId
found_in props f = option_map (λ (p : Part). p.id) (find (λ (p : Part). takes props p.kind) (tiled_nodes f))

finds : (props : Props) (f : Forest) → takes_at props f ≡ found_in props f
finds props end = refl
finds props (con part kids floats rest) =
    by (takes props part.kind) (takes_at props kids) (takes_at props rest) (find (λ (p : Part). takes props p.kind) (tiled_nodes kids)) (find (λ (p : Part). takes props p.kind) (tiled_nodes rest)) (finds props kids) (finds props rest)
    ∙ ap (λ o. cond (takes props part.kind) (Some part.id) (option_map (λ (p : Part). p.id) o)) (sym (find-append (λ (p : Part). takes props p.kind) (tiled_nodes kids) (tiled_nodes rest)))
    ∙ whole (takes props part.kind) (find (λ (p : Part). takes props p.kind) (tiled_nodes kids ++ tiled_nodes rest))
  where
    by : (b : Bool) (x y : Option ConId) (k r : Option Part) → x ≡ option_map (λ (p : Part). p.id) k → y ≡ option_map (λ (p : Part). p.id) r
        → cond b (Some part.id) (option_or x y) ≡ cond b (Some part.id) (option_map (λ (p : Part). p.id) (option_or k r))
    by true x y k r e f = refl
    by false x y None r e f = rw (e, f) refl
    by false x y (Some p) r e f = rw e refl

    whole : (b : Bool) (o : Option Part) → cond b (Some part.id) (option_map (λ (p : Part). p.id) o) ≡ option_map (λ (p : Part). p.id) (cond b (Some part) o)
    whole true o = refl
    whole false o = refl

pub is_first : IsFirst
is_first props t = finds props t.nodes
