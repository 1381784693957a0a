-- What a map has after a value was put in, whether it has an id, and what a map of places has.
use Rattle.std.proofs.Common.{◌≡◌, ℕ, ◌+◌, Bool, true, false, cond, ◌||◌, List, [], ◌∷◌, Option, Some, None, is_some, refl, ap, sym, ◌∙◌, arith}
use Rattle.std.proofs.lemmas.Bool.{eqb-true}
use Rattle.std.proofs.lemmas.Bool.Decides.{nat_tests}
use Rattle.std.specs.BTreeMap.{insert_entry, is_at}
use Rattle.std.specs.Map.{lookup}
use Rattle.std.specs.Option.{option_or}
use Rattle.std.specs.Ordering.{nat_cmp, is_eq, match_ordering}
use Rattle.std.specs.declared.cmp.Ordering.{Ordering}
use Rattle.std.specs.declared.cmp.Ordering.TheVariants.{Less, Equal, Greater}
use Rattle.wm_base.specs.declared.ids.ConId.{ConId}
use Rattle.wm_ids.proofs.EntryLemmas.{test_same}
use Rattle.wm_forest.specs.Look.{same}
use Rattle.wm_forest.specs.Recency.{place_from}
use Rattle.wm_arrange.specs.Maps.{holds, value_at}

both : {X : Type 0} (s : Bool) (w x : X) (y : Option X) → cond s (Some w) y ≡ cond s (Some w) (cond s (Some x) y)
both true w x y = refl
both false w x y = refl

swap : {X : Type 0} (t s : Bool) (x w : X) (y : Option X) → (t ≡ true → s ≡ true → t ≡ false) → cond t (Some x) (cond s (Some w) y) ≡ cond s (Some w) (cond t (Some x) y)
swap true true x w y h = let bad : true ≡ false = h refl refl in cc
swap true false x w y h = refl
swap false true x w y h = refl
swap false false x w y h = refl

-- a key that is not a's is not v's where v is a
apart : (a v : ConId) (key : ℕ) → is_at (nat_cmp a.0) key ≡ false → is_at (nat_cmp v.0) key ≡ true → same a v ≡ true → is_at (nat_cmp v.0) key ≡ false
apart a v key at at_v one =
    let same_key : v.0 ≡ key = eqb-true v.0 key (sym (test_same v.0 key) ∙ at_v) in
    let same_id : a.0 ≡ v.0 = eqb-true a.0 v.0 one in
    let bad : is_at (nat_cmp a.0) key ≡ true = test_same a.0 key ∙ grind (arith, nat_tests) in
    let wrong : true ≡ false = sym bad ∙ at in cc

insert_step : {X : Type 0} (a v : ConId) (w : X) (e : ℕ × X) (windows inserted : List (ℕ × X)) (r : Ordering) → nat_cmp a.0 e.0 ≡ r → value_at inserted v ≡ cond (same a v) (Some w) (value_at windows v)
    → value_at (match_ordering r ((a.0, w) ∷ e ∷ windows) ((e.0, w) ∷ windows) (e ∷ inserted)) v ≡ cond (same a v) (Some w) (value_at (e ∷ windows) v)
insert_step a v w e windows inserted Less at rest =
    let t : is_at (nat_cmp v.0) a.0 ≡ same a v = test_same v.0 a.0 ∙ grind (arith, nat_tests) in
    ap (λ b. cond b (Some w) (value_at (e ∷ windows) v)) t
insert_step a v w e windows inserted Equal at rest =
    let key : a.0 ≡ e.0 = eqb-true a.0 e.0 (sym (test_same a.0 e.0) ∙ ap is_eq at) in
    let t : is_at (nat_cmp v.0) e.0 ≡ same a v = test_same v.0 e.0 ∙ grind (arith, nat_tests) in
    rw t (both (same a v) w e.1 (value_at windows v))
insert_step a v w e windows inserted Greater at rest =
    ap (cond (is_at (nat_cmp v.0) e.0) (Some e.1)) rest ∙ swap (is_at (nat_cmp v.0) e.0) (same a v) e.1 w (value_at windows v) (apart a v e.0 (ap is_eq at))

pub find_insert : {X : Type 0} (a v : ConId) (w : X) (windows : List (ℕ × X)) → value_at (insert_entry nat_cmp windows a.0 w) v ≡ cond (same a v) (Some w) (value_at windows v)
find_insert a v w [] = let t : is_at (nat_cmp v.0) a.0 ≡ same a v = test_same v.0 a.0 ∙ grind (arith, nat_tests) in ap (λ b. cond b (Some w) None) t
find_insert a v w (e ∷ windows) = insert_step a v w e windows (insert_entry nat_cmp windows a.0 w) (nat_cmp a.0 e.0) refl (find_insert a v w windows)

some_cond : {X : Type 0} (b : Bool) (x : X) (o : Option X) → is_some (cond b (Some x) o) ≡ is_some o || b
some_cond true x None = refl
some_cond true x (Some y) = refl
some_cond false x None = refl
some_cond false x (Some y) = refl

pub holds_insert : {X : Type 0} (a v : ConId) (w : X) (map : List (ℕ × X)) → holds (insert_entry nat_cmp map a.0 w) v ≡ holds map v || same a v
holds_insert a v w map = ap is_some (find_insert a v w map) ∙ some_cond (same a v) w (value_at map v)

pub any_assoc : (a b c : Bool) → (a || b) || c ≡ a || (b || c)
any_assoc true b c = refl
any_assoc false b c = refl

there_step : {X : Type 0} (s : Bool) (w : X) (o : Option X) → (s ≡ true → is_some o ≡ true) → o ≡ option_or o (cond s (Some w) None)
there_step true w None h = let bad : false ≡ true = h refl in cc
there_step false w None h = refl
there_step s w (Some y) h = refl

same_value : {X : Type 0} (a c : ConId) (x : X) (map : List (ℕ × X)) → value_at map a ≡ Some x → same a c ≡ true → is_some (value_at map c) ≡ true
same_value a c x map there one = let alike : a.0 ≡ c.0 = eqb-true a.0 c.0 one in ap (λ n. is_some (lookup (is_at (nat_cmp n)) map)) (sym alike) ∙ ap is_some there

pub or_there : {X : Type 0} (a c : ConId) (w x : X) (map : List (ℕ × X)) → value_at map a ≡ Some x → value_at map c ≡ option_or (value_at map c) (cond (same a c) (Some w) None)
or_there a c w x map there = there_step (same a c) w (value_at map c) (λ one. same_value a c x map there one)

none_step : {X : Type 0} (s : Bool) (w : X) (o : Option X) → (s ≡ true → is_some o ≡ false) → cond s (Some w) o ≡ option_or o (cond s (Some w) None)
none_step true w None h = refl
none_step true w (Some y) h = let bad : true ≡ false = h refl in cc
none_step false w None h = refl
none_step false w (Some y) h = refl

no_value : {X : Type 0} (a c : ConId) (map : List (ℕ × X)) → value_at map a ≡ None → same a c ≡ true → is_some (value_at map c) ≡ false
no_value a c map none one = let alike : a.0 ≡ c.0 = eqb-true a.0 c.0 one in ap (λ n. is_some (lookup (is_at (nat_cmp n)) map)) (sym alike) ∙ ap is_some none

pub or_new : {X : Type 0} (a c : ConId) (w : X) (map : List (ℕ × X)) → value_at map a ≡ None → cond (same a c) (Some w) (value_at map c) ≡ option_or (value_at map c) (cond (same a c) (Some w) None)
or_new a c w map none = none_step (same a c) w (value_at map c) (λ one. no_value a c map none one)

-- a place that is kept, or else a later one, is the first from there on
pub place_step : (c id : ConId) (at : ℕ) (old : Option ℕ) (rest : List ConId) → option_or (option_or old (cond (same id c) (Some at) None)) (place_from (at + 1) c rest) ≡ option_or old (cond (same id c) (Some at) (place_from (at + 1) c rest))
place_step c id at (Some x) rest = refl
place_step c id at None rest = by_same (same id c)
  where
    by_same : (s : Bool) → option_or (cond s (Some at) None) (place_from (at + 1) c rest) ≡ cond s (Some at) (place_from (at + 1) c rest)
    by_same true = refl
    by_same false = refl
