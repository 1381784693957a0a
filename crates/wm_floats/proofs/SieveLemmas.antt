-- Each container of a kind in a workspace is taken in by the sieve over the tree.
use Rattle.std.proofs.Common.{◌≡◌, Bool, true, false, cond, ◌&&◌, ◌||◌, not, List, Option, None, Some, refl, ap, sym, subst, ◌∙◌}
use Rattle.std.specs.Prelude.{is_some, option_and_then}
use Rattle.std.specs.Option.{option_map}
use Rattle.wm_base.specs.declared.ids.ConId.{ConId}
use Rattle.wm_floats.specs.declared.kinds.Kind.{Kind}
use Rattle.wm_floats.specs.declared.kinds.Kind.TheVariants as kinds
use Rattle.wm_floats.specs.Kinds.{is_flagged_state, is_of_space}
use Rattle.wm_floats.specs.Sieve.{Takes, TakesIn, is_kind, is_wanted, wants}
use Rattle.wm_forest.specs.Sieve.{is_taken}
use Rattle.wm_forest.specs.Change.{is_id}
use Rattle.wm_forest.specs.declared.part.ConPart.{ConPart}
use Rattle.wm_forest.specs.declared.part.NodeKind.{NodeKind}
use Rattle.wm_forest.specs.declared.part.NodeKind.TheVariants.{Root, Output, Space, Con}
use Rattle.wm_forest.specs.declared.part.Part.{Part}
use Rattle.wm_forest.specs.declared.spot.Spot.{Spot}
use Rattle.wm_forest.specs.Forest.{Forest, end, con}
use Rattle.wm_forest.specs.Look.{con_kind, first_floats, first_kids, first_part, has, kind_by, only, rest_of, same}
use Rattle.wm_forest.specs.Spot.{space_at, spot_below, spot_in, spot_of, top}
use Rattle.wm_tree.specs.TreeValue.{TreeValue, is_con, is_con_kind, is_tiled_spot}

-- a node that is found there is such a container of the workspace w
abbrev pub is_found : Kind → ConId → Option Part → Option Spot → Bool
is_found k w None spot = false
is_found k w (Some part) None = false
is_found k w (Some part) (Some s) = is_id w s.space && is_kind k s.tiled part.kind

in_kids : (a k l r : Bool) → k ≡ true → (a || k || l || r) ≡ true
in_kids true k l r h = refl
in_kids false true l r h = refl
in_kids false false l r h = cc

in_floats : (a k l r : Bool) → l ≡ true → (a || k || l || r) ≡ true
in_floats true k l r h = refl
in_floats false true l r h = refl
in_floats false false true r h = refl
in_floats false false false r h = cc

in_rest : (a k l r : Bool) → r ≡ true → (a || k || l || r) ≡ true
in_rest true k l r h = refl
in_rest false true l r h = refl
in_rest false false true r h = refl
in_rest false false false r h = h

-- such a node of a row is one that the row has
pub found_wanted : (k : Kind) (w c : ConId) (s : Spot) (row : Forest) → is_found k w (first_part (only c row)) (spot_in s c row) ≡ true → wants k w c s.space s.tiled row ≡ true
found_wanted k w c s end h = cc
found_wanted k w c s (con part kids floats rest) h =
    step (same part.id c) (has c kids) (has c floats) h (found_wanted k w c (spot_below true s part) kids) (found_wanted k w c (spot_below false s part) floats) (found_wanted k w c s rest)
  where
    step : (a d l : Bool)
        → is_found k w (first_part (cond a (con part kids floats end) (cond d (only c kids) (cond l (only c floats) (only c rest))))) (cond a (Some (spot_of s part)) (cond d (spot_in (spot_below true s part) c kids) (cond l (spot_in (spot_below false s part) c floats) (spot_in s c rest)))) ≡ true
        → (is_found k w (first_part (only c kids)) (spot_in (spot_below true s part) c kids) ≡ true → wants k w c (space_at s.space part) true kids ≡ true)
        → (is_found k w (first_part (only c floats)) (spot_in (spot_below false s part) c floats) ≡ true → wants k w c (space_at s.space part) false floats ≡ true)
        → (is_found k w (first_part (only c rest)) (spot_in s c rest) ≡ true → wants k w c s.space s.tiled rest ≡ true)
        → ((a && is_wanted k w (space_at s.space part) s.tiled part.kind) || wants k w c (space_at s.space part) true kids || wants k w c (space_at s.space part) false floats || wants k w c s.space s.tiled rest) ≡ true
    step true d l h x y z = rw h refl
    step false true l h x y z = in_kids false (wants k w c (space_at s.space part) true kids) (wants k w c (space_at s.space part) false floats) (wants k w c s.space s.tiled rest) (x h)
    step false false true h x y z = in_floats false (wants k w c (space_at s.space part) true kids) (wants k w c (space_at s.space part) false floats) (wants k w c s.space s.tiled rest) (y h)
    step false false false h x y z = in_rest false (wants k w c (space_at s.space part) true kids) (wants k w c (space_at s.space part) false floats) (wants k w c s.space s.tiled rest) (z h)

-- what a node is, and where it stands, as the definition of a kind asks it
abbrev is_of_kind : Kind → Option Part → Option Spot → Bool
is_of_kind kinds.Tiled part spot = is_con part && is_tiled_spot spot
is_of_kind kinds.Floating part spot = is_some (kind_by con_kind part) && not (is_con part && is_tiled_spot spot)
is_of_kind kinds.Flagged part spot = is_some (kind_by con_kind part) && not (is_con part && is_tiled_spot spot) && is_flagged_state (option_map (λ (p : ConPart). p.state) (kind_by con_kind part))

-- the same of a node that is there
abbrev is_of_node : Kind → NodeKind → Bool → Bool
is_of_node kinds.Tiled kind tiled = is_con_kind kind && tiled
is_of_node kinds.Floating kind tiled = is_some (con_kind kind) && not (is_con_kind kind && tiled)
is_of_node kinds.Flagged kind tiled = is_some (con_kind kind) && not (is_con_kind kind && tiled) && is_flagged_state (option_map (λ (p : ConPart). p.state) (con_kind kind))

same_kind : (k : Kind) (kind : NodeKind) (tiled : Bool) → is_kind k tiled kind ≡ is_of_node k kind tiled
same_kind kinds.Tiled (Root c) tiled = refl
same_kind kinds.Tiled (Output o) tiled = refl
same_kind kinds.Tiled (Space s) tiled = refl
same_kind kinds.Tiled (Con c) tiled = refl
same_kind kinds.Floating (Root c) tiled = refl
same_kind kinds.Floating (Output o) tiled = refl
same_kind kinds.Floating (Space s) tiled = refl
same_kind kinds.Floating (Con c) tiled = refl
same_kind kinds.Flagged (Root c) tiled = refl
same_kind kinds.Flagged (Output o) tiled = refl
same_kind kinds.Flagged (Space s) tiled = refl
same_kind kinds.Flagged (Con c) tiled = refl

never : (b : Bool) → (b && false) ≡ true → false ≡ true
never true h = h
never false h = h

-- a container of the workspace is found so
as_found : (k : Kind) (w : ConId) (part : Option Part) (spot : Option Spot) → (is_id w (option_and_then (λ (s : Spot). s.space) spot) && is_of_kind k part spot) ≡ true → is_found k w part spot ≡ true
as_found kinds.Tiled w None spot h = never (is_id w (option_and_then (λ (s : Spot). s.space) spot)) h
as_found kinds.Floating w None spot h = never (is_id w (option_and_then (λ (s : Spot). s.space) spot)) h
as_found kinds.Flagged w None spot h = never (is_id w (option_and_then (λ (s : Spot). s.space) spot)) h
as_found k w (Some part) None h = h
as_found kinds.Tiled w (Some part) (Some s) h = ap (λ b. is_id w s.space && b) (same_kind kinds.Tiled part.kind s.tiled) ∙ h
as_found kinds.Floating w (Some part) (Some s) h = ap (λ b. is_id w s.space && b) (same_kind kinds.Floating part.kind s.tiled) ∙ h
as_found kinds.Flagged w (Some part) (Some s) h = ap (λ b. is_id w s.space && b) (same_kind kinds.Flagged part.kind s.tiled) ∙ h

-- a container of the workspace is one that the tree has
pub space_wanted : (k : Kind) (w c : ConId) (t : TreeValue) → is_of_space k w t c ≡ true → wants k w c None false t.nodes ≡ true
space_wanted kinds.Tiled w c t h = found_wanted kinds.Tiled w c top t.nodes (as_found kinds.Tiled w (first_part (only c t.nodes)) (spot_in top c t.nodes) h)
space_wanted kinds.Floating w c t h = found_wanted kinds.Floating w c top t.nodes (as_found kinds.Floating w (first_part (only c t.nodes)) (spot_in top c t.nodes) h)
space_wanted kinds.Flagged w c t h = found_wanted kinds.Flagged w c top t.nodes (as_found kinds.Flagged w (first_part (only c t.nodes)) (spot_in top c t.nodes) h)

pub either : (a b : Bool) → a ≡ true → (a || b) ≡ true
either true b h = refl
either false b h = cc

or_right : (a b : Bool) → b ≡ true → (a || b) ≡ true
or_right true b h = refl
or_right false b h = h

chain : (a k l r : Bool) (t u v x : Bool) → ((a || t) ≡ true → u ≡ true) → ((k || u) ≡ true → v ≡ true) → ((l || v) ≡ true → x ≡ true) → ((a || k || l || r) || t) ≡ true → (r || x) ≡ true
chain a k l true t u v x p q s h = refl
chain true k l false t u v x p q s h = s (or_right l v (q (or_right k u (p refl))))
chain false true l false t u v x p q s h = s (or_right l v (q refl))
chain false false true false t u v x p q s h = s refl
chain false false false false t u v x p q s h = s (q (p h))

-- a row as its first node, what is below that, and what is behind it, and the workspace in which that stands
pub record IsFirst (space within : Option ConId) (row : Forest) (part : Part) (kids floats rest : Forest) : Type 0 where
  pub first : first_part row ≡ Some part
  pub inside : within ≡ space_at space part
  pub tiled : kids ≡ first_kids row
  pub loose : floats ≡ first_floats row
  pub behind : rest ≡ rest_of row

-- where the places of the first node and of those below it are taken, what is left is in the rest of the row
pub left_behind : (k : Kind) (w c : ConId) (space within : Option ConId) (tiled : Bool) (row : Forest) (part : Part) (kids floats rest : Forest) (t u v x : List Bool) → IsFirst space within row part kids floats rest
    → Takes k w within tiled part t u → TakesIn k w within true kids u v → TakesIn k w within false floats v x
    → (wants k w c space tiled row || is_taken c t) ≡ true → (wants k w c space tiled rest || is_taken c x) ≡ true
left_behind k w c space within tiled end part kids floats rest t u v x f p q s h = let no : None ≡ Some part = f.first in cc
left_behind k w c space within tiled (con own a b d) part kids floats rest t u v x f p q s h =
    let one : own ≡ part = cc in
    let Own : Part → Type 0 = λ z. ((same z.id c && is_wanted k w (space_at space z) tiled z.kind) || is_taken c t) ≡ true → is_taken c u ≡ true in
    let In : Option ConId → Type 0 = λ z. ((same part.id c && is_wanted k w z tiled part.kind) || is_taken c t) ≡ true → is_taken c u ≡ true in
    let Kids : Forest → Type 0 = λ z. (wants k w c (space_at space own) true z || is_taken c u) ≡ true → is_taken c v ≡ true in
    let KidsIn : Option ConId → Type 0 = λ z. (wants k w c z true kids || is_taken c u) ≡ true → is_taken c v ≡ true in
    let Floats : Forest → Type 0 = λ z. (wants k w c (space_at space own) false z || is_taken c v) ≡ true → is_taken c x ≡ true in
    let FloatsIn : Option ConId → Type 0 = λ z. (wants k w c z false floats || is_taken c v) ≡ true → is_taken c x ≡ true in
    let here : within ≡ space_at space own = f.inside ∙ ap (space_at space) (sym one) in
    let Rest : Forest → Type 0 = λ z. (wants k w c space tiled z || is_taken c x) ≡ true in
    subst Rest (sym f.behind)
    (chain (same own.id c && is_wanted k w (space_at space own) tiled own.kind) (wants k w c (space_at space own) true a) (wants k w c (space_at space own) false b) (wants k w c space tiled d)
    (is_taken c t) (is_taken c u) (is_taken c v) (is_taken c x) (subst Own (sym one) (subst In f.inside (p c))) (subst Kids f.tiled (subst KidsIn here (q c))) (subst Floats f.loose (subst FloatsIn here (s c))) h)
