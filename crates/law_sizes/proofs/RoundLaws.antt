-- The nearest of a row of floating windows is the next one by id, round both ends.
use Rattle.std.proofs.Common.{◌≡◌, ◌≢◌, ◌≤◌, ◌<◌, ◌+◌, Bool, true, false, cond, ◌||◌, Option, None, Some, refl, ap, sym, ◌∙◌, arith}
use Rattle.std.specs.Prelude.{◌-◌, nat_lt, is_none, option_and_then}
use Rattle.std.specs.Option.{option_map, option_or}
use Rattle.std.proofs.lemmas.Bool.Decides.{nat_tests}
use Rattle.law_sizes.specs.Rounds.{FocusesRound, GoesRound, IsBefore, IsFound, IsNext, IsTowards, windows_of}
use Rattle.wm_base.specs.declared.geometry.Dir.{Dir}
use Rattle.wm_base.specs.declared.geometry.Dir.TheVariants.{Left, Right, Up, Down}
use Rattle.wm_base.specs.declared.ids.ConId.{ConId}
use Rattle.wm_base.specs.declared.errors.ErrorText.TheVariants as texts
use Rattle.wm_base.specs.declared.errors.Refusal.{Refusal}
use Rattle.wm_base.specs.declared.errors.Refusal.TheVariants.{NoTarget}
use Rattle.wm_floats.specs.Rounds.{ahead, floats_at, focused_some, key_round, keys_round, nearest_round, off, round_in, round_to}
use Rattle.wm_shared.proofs.DownLemmas.{has_only}
use Rattle.wm_shared.proofs.KeyLemmas.{least_with}
use Rattle.wm_shared.specs.declared.keys.Key.{Key}
use Rattle.wm_shared.specs.Keys.{comes_before, least, lesser}
use Rattle.wm_shared.specs.Showing.{focusing}
use Rattle.wm_shared.specs.Subject.{is_hidden}
use Rattle.wm_tree.proofs.AttachLemmas.{has_row}
use Rattle.wm_forest.proofs.CountLemmas.{counted}
use Rattle.wm_forest.proofs.ForestLemmas.{only_absent}
use Rattle.wm_forest.proofs.RecencyLemmas.{same_is, same_self}
use Rattle.wm_forest.specs.declared.part.Part.{Part}
use Rattle.wm_forest.specs.declared.spot.Spot.{Spot}
use Rattle.wm_forest.specs.Forest.{Forest, end, con}
use Rattle.wm_forest.specs.Look.{first_floats, has, in_row, only, same}
use Rattle.wm_forest.specs.Spot.{spot_below, spot_in, spot_of, top}
use Rattle.wm_tree.specs.Sound.{IsSound}
use Rattle.wm_tree.specs.TreeValue.{TreeValue, workspace_of}

-- ---- the least key

-- the key of another one than c in the row, and no other one is nearer
record IsLowest (d : Dir) (c : ConId) (row : Forest) (k : Key) : Type 0 where
  listed : in_row k.id row ≡ true
  other : same k.id c ≡ false
  first : k.first ≡ off d c k.id
  low : (o : ConId) → in_row o row ≡ true → same o c ≡ false → k.first ≤ off d c o

abbrev IsLeast : Dir → ConId → Forest → Option Key → Type 0
IsLeast d c row None = (o : ConId) → in_row o row ≡ true → same o c ≡ true
IsLeast d c row (Some k) = IsLowest d c row k

no_later : (a b : Key) → comes_before b a ≡ true → b.first ≤ a.first
no_later a b h = grind (arith, nat_tests)

no_sooner : (a b : Key) → comes_before b a ≡ false → a.first ≤ b.first
no_sooner a b h = grind (arith, nat_tests)

or_right : (a b : Bool) → b ≡ true → (a || b) ≡ true
or_right true b h = refl
or_right false b h = h

module _ (d : Dir) (c : ConId) (part : Part) (kids floats rest : Forest) where
  abbrev own : Key
  own = record { first = off d c part.id; id = part.id }

  abbrev row : Forest
  row = con part kids floats rest

  -- the first one is c
  skipped : same part.id c ≡ true → (best : Option Key) → IsLeast d c rest best → IsLeast d c row best
  skipped e None h = λ o. by o (same part.id o) refl where
    by : (o : ConId) (b : Bool) → same part.id o ≡ b → (b || in_row o rest) ≡ true → same o c ≡ true
    by o true f k = same_self o c (sym (same_is part.id o f) ∙ same_is part.id c e)
    by o false f k = h o k
  skipped e (Some k) h = record { listed = or_right (same part.id k.id) (in_row k.id rest) h.listed; other = h.other; first = h.first; low = λ o. by o (same part.id o) refl } where
    by : (o : ConId) (b : Bool) → same part.id o ≡ b → (b || in_row o rest) ≡ true → same o c ≡ false → k.first ≤ off d c o
    by o true f l n = let one : same o c ≡ true = same_self o c (sym (same_is part.id o f) ∙ same_is part.id c e) in absurd (cc)
    by o false f l n = h.low o l n

  -- the first one is nearer
  here : same part.id c ≡ false → ((o : ConId) → in_row o rest ≡ true → same o c ≡ false → off d c part.id ≤ off d c o) → IsLowest d c row own
  here e h = record { listed = rw (same_self part.id part.id refl) refl; other = e; first = refl; low = λ o. by o (same part.id o) refl } where
    by : (o : ConId) (b : Bool) → same part.id o ≡ b → (b || in_row o rest) ≡ true → same o c ≡ false → off d c part.id ≤ off d c o
    by o true f l n = let one : part.id ≡ o = same_is part.id o f in rw one (omega arith)
    by o false f l n = h o l n

  -- one behind it is nearer
  behind : (k : Key) → k.first ≤ off d c part.id → IsLowest d c rest k → IsLowest d c row k
  behind k less h = record { listed = or_right (same part.id k.id) (in_row k.id rest) h.listed; other = h.other; first = h.first; low = λ o. by o (same part.id o) refl } where
    by : (o : ConId) (b : Bool) → same part.id o ≡ b → (b || in_row o rest) ≡ true → same o c ≡ false → k.first ≤ off d c o
    by o true f l n = let one : part.id ≡ o = same_is part.id o f in rw (← one) less
    by o false f l n = h.low o l n

  joined : same part.id c ≡ false → (best : Option Key) → IsLeast d c rest best → IsLeast d c row (lesser (Some own) best)
  joined e None h = here e (λ o l n. let one = h o l in absurd (cc))
  joined e (Some k) h = by (comes_before k own) refl where
    by : (b : Bool) → comes_before k own ≡ b → IsLeast d c row (cond b (Some k) (Some own))
    by true f = behind k (no_later own k f) h
    by false f = here e (λ o l n. let less = no_sooner own k f in let low = h.low o l n in omega (arith, less, low))

  one_more : (best : Option Key) → IsLeast d c rest best → IsLeast d c row (lesser (key_round d c part.id) best)
  one_more best h = by (same part.id c) refl where
    by : (b : Bool) → same part.id c ≡ b → IsLeast d c row (lesser (cond b None (Some own)) best)
    by true e = skipped e best h
    by false e = joined e best h

least_is : (d : Dir) (c : ConId) (row : Forest) → IsLeast d c row (least (keys_round d c row))
least_is d c end = λ o h. cc
least_is d c (con part kids floats rest) =
    let h = one_more d c part kids floats rest (least (keys_round d c rest)) (least_is d c rest) in
    rw (least_with (key_round d c part.id) (keys_round d c rest)) h

-- ---- the next one by id

-- how far ahead a greater id is, and one that is not greater
ahead_more : (a b : ConId) → a.0 < b.0 → a.0 + ahead a b ≡ b.0
ahead_more a b h = by (nat_lt a.0 b.0) refl where
  by : (t : Bool) → nat_lt a.0 b.0 ≡ t → a.0 + cond t (b.0 - a.0) (b.0 + 4294967296 - a.0) ≡ b.0
  by true e = omega (arith, h)
  by false e = let less : b.0 ≤ a.0 = grind (arith, nat_tests) in absurd (omega (arith, less, h))

ahead_less : (a b : ConId) → b.0 ≤ a.0 → a.0 < 4294967296 → a.0 + ahead a b ≡ b.0 + 4294967296
ahead_less a b h l = by (nat_lt a.0 b.0) refl where
  by : (t : Bool) → nat_lt a.0 b.0 ≡ t → a.0 + cond t (b.0 - a.0) (b.0 + 4294967296 - a.0) ≡ b.0 + 4294967296
  by true e = let less : a.0 < b.0 = grind (arith, nat_tests) in absurd (omega (arith, less, h))
  by false e = omega (arith, h, l)

-- one of two is smaller, or they are one
record Sides (a b : ConId) : Type 0 where
  at_most : nat_lt a.0 b.0 ≡ false → b.0 ≤ a.0
  above : nat_lt a.0 b.0 ≡ true → a.0 < b.0
  one : same a b ≡ true → a.0 ≡ b.0

sides : (a b : ConId) → Sides a b
sides a b = record { at_most = λ e. grind (arith, nat_tests); above = λ e. grind (arith, nat_tests); one = λ e. grind (arith, nat_tests) }

-- what differs from c where one id is below the other
differs : (a b : ConId) → a.0 ≢ b.0 → same a b ≡ false
differs a b n = by (same a b) refl where
  by : (t : Bool) → same a b ≡ t → same a b ≡ false
  by false e = e
  by true e = absurd (n ((sides a b).one e))

module _ (c : ConId) (row : Forest) (k : Key) (small : c.0 < 4294967296) (all : (o : ConId) → in_row o row ≡ true → o.0 < 4294967296) where
  next_greater : IsLowest Right c row k → (o : ConId) → in_row o row ≡ true → c.0 < o.0 → (c.0 < k.id.0) × (k.id.0 ≤ o.0)
  next_greater h o l m = by (nat_lt c.0 k.id.0) refl where
    near : k.first ≤ ahead c o
    near = h.low o l (differs o c (λ e. omega (arith, e, m)))

    by : (t : Bool) → nat_lt c.0 k.id.0 ≡ t → (c.0 < k.id.0) × (k.id.0 ≤ o.0)
    by true e =
        let up = (sides c k.id).above e in
        let mine = ahead_more c k.id up in
        let its = ahead_more c o m in
        (up, omega (arith, near, h.first, mine, its))
    by false e =
        let mine = ahead_less c k.id ((sides c k.id).at_most e) small in
        let its = ahead_more c o m in
        let most = all o l in
        absurd (omega (arith, near, h.first, mine, its, most))

  next_round : IsLowest Right c row k → ((o : ConId) → in_row o row ≡ true → o.0 ≤ c.0) → (o : ConId) → in_row o row ≡ true → k.id.0 ≤ o.0
  next_round h none o l = by (same o c) refl where
    by : (t : Bool) → same o c ≡ t → k.id.0 ≤ o.0
    by true e = let one = (sides o c).one e in let less = none k.id h.listed in omega (arith, one, less)
    by false e =
        let near = h.low o l e in
        let mine = ahead_less c k.id (none k.id h.listed) small in
        let its = ahead_less c o (none o l) small in
        omega (arith, near, h.first, mine, its)

  next_is : IsLowest Right c row k → IsNext c k.id row
  next_is h = record { listed = h.listed; other = h.other; greater = next_greater h; round = next_round h }

  before_smaller : IsLowest Left c row k → (o : ConId) → in_row o row ≡ true → o.0 < c.0 → (k.id.0 < c.0) × (o.0 ≤ k.id.0)
  before_smaller h o l m = by (nat_lt k.id.0 c.0) refl where
    near : k.first ≤ ahead o c
    near = h.low o l (differs o c (λ e. omega (arith, e, m)))

    by : (t : Bool) → nat_lt k.id.0 c.0 ≡ t → (k.id.0 < c.0) × (o.0 ≤ k.id.0)
    by true e =
        let up = (sides k.id c).above e in
        let mine = ahead_more k.id c up in
        let its = ahead_more o c m in
        (up, omega (arith, near, h.first, mine, its))
    by false e =
        let most = all k.id h.listed in
        let mine = ahead_less k.id c ((sides k.id c).at_most e) most in
        let its = ahead_more o c m in
        absurd (omega (arith, near, h.first, mine, its, most))

  before_round : IsLowest Left c row k → ((o : ConId) → in_row o row ≡ true → c.0 ≤ o.0) → (o : ConId) → in_row o row ≡ true → o.0 ≤ k.id.0
  before_round h none o l = by (same o c) refl where
    by : (t : Bool) → same o c ≡ t → o.0 ≤ k.id.0
    by true e = let one = (sides o c).one e in let more = none k.id h.listed in omega (arith, one, more)
    by false e =
        let near = h.low o l e in
        let mine = ahead_less k.id c (none k.id h.listed) (all k.id h.listed) in
        let its = ahead_less o c (none o l) (all o l) in
        omega (arith, near, h.first, mine, its)

  before_is : IsLowest Left c row k → IsBefore c k.id row
  before_is h = record { listed = h.listed; other = h.other; smaller = before_smaller h; round = before_round h }

  -- what holds to the right holds downwards, and so to the left and upwards
  towards : (d : Dir) → IsLowest d c row k → IsTowards d c k.id row
  towards Left h = before_is h
  towards Right h = next_is h
  towards Up h = before_is (record { listed = h.listed; other = h.other; first = h.first; low = h.low })
  towards Down h = next_is (record { listed = h.listed; other = h.other; first = h.first; low = h.low })

found_of : (d : Dir) (c : ConId) (row : Forest) → c.0 < 4294967296 → ((o : ConId) → in_row o row ≡ true → o.0 < 4294967296) → IsFound d c row (nearest_round d c row)
found_of d c row small all = by (least (keys_round d c row)) (least_is d c row) where
  by : (best : Option Key) → IsLeast d c row best → IsFound d c row (option_map (λ (k : Key). k.id) best)
  by None h = h
  by (Some k) h = towards c row k small all d h

-- ---- the row of a workspace

floats_found : (w : ConId) (f : Forest) → floats_at w f ≡ cond (has w f) (Some (first_floats (only w f))) None
floats_found w end = refl
floats_found w (con part kids floats rest) = step (same part.id w) (has w kids) (has w floats) (has w rest) (floats_found w kids) (floats_found w floats) (floats_found w rest) where
  step : (a k l r : Bool) → floats_at w kids ≡ cond k (Some (first_floats (only w kids))) None → floats_at w floats ≡ cond l (Some (first_floats (only w floats))) None → floats_at w rest ≡ cond r (Some (first_floats (only w rest))) None
      → cond a (Some floats) (option_or (floats_at w kids) (option_or (floats_at w floats) (floats_at w rest)))
      ≡ cond (a || k || l || r) (Some (first_floats (cond a (con part kids floats end) (cond k (only w kids) (cond l (only w floats) (only w rest)))))) None
  step true k l r x y z = refl
  step false true l r x y z = rw x refl
  step false false true r x y z = rw (x, y) refl
  step false false false true x y z = rw (x, y, z) refl
  step false false false false x y z = rw (x, y, z) refl

-- ---- ids

low_id : (o : ConId) (t : TreeValue) → IsSound t → has o t.nodes ≡ true → o.0 < 4294967296
low_id o t s h = by (nat_lt o.0 t.next_id) refl where
  by : (b : Bool) → nat_lt o.0 t.next_id ≡ b → o.0 < 4294967296
  by true e = let less : o.0 < t.next_id = grind (arith, nat_tests) in let ids = s.ids in omega (arith, less, ids)
  by false e =
      let more : t.next_id ≤ o.0 = grind (arith, nat_tests) in
      let none = s.fresh o more in
      let some = counted o t.nodes h in
      absurd (omega (arith, none, some))

spot_none : (c : ConId) (s : Spot) (f : Forest) → has c f ≡ false → spot_in s c f ≡ None
spot_none c s end h = refl
spot_none c s (con part kids floats rest) h = step (same part.id c) (has c kids) (has c floats) h (spot_none c s rest) where
  step : (a k l : Bool) → (a || k || l || has c rest) ≡ false → (has c rest ≡ false → spot_in s c rest ≡ None)
      → cond a (Some (spot_of s part)) (cond k (spot_in (spot_below true s part) c kids) (cond l (spot_in (spot_below false s part) c floats) (spot_in s c rest))) ≡ None
  step true k l h p = cc
  step false true l h p = cc
  step false false true h p = cc
  step false false false h p = p h

-- what has a workspace is there
spaced_there : (c w : ConId) (t : TreeValue) → workspace_of t c ≡ Some w → has c t.nodes ≡ true
spaced_there c w t h = by (has c t.nodes) refl where
  by : (b : Bool) → has c t.nodes ≡ b → has c t.nodes ≡ true
  by true e = e
  by false e = let gone = spot_none c top t.nodes e in let none : workspace_of t c ≡ None = ap (λ z. option_and_then (λ (s : Spot). s.space) z) gone in absurd (cc)

floats_has : (o : ConId) (f : Forest) → in_row o (first_floats f) ≡ true → has o f ≡ true
floats_has o end h = cc
floats_has o (con part kids floats rest) h = step (same part.id o) (has o kids) (has o floats) (has_row o floats h) where
  step : (a k l : Bool) → l ≡ true → (a || k || l || has o rest) ≡ true
  step true k l e = refl
  step false true l e = refl
  step false false l e = rw e refl

-- ---- the law

pub goes_round : GoesRound
goes_round c d t s = by (workspace_of t c) refl where
  none_there : (w : ConId) → has w t.nodes ≡ false → first_floats (only w t.nodes) ≡ end
  none_there w e = rw (only_absent w t.nodes e) refl

  by : (o : Option ConId) → workspace_of t c ≡ o → IsFound d c (windows_of o t) (option_and_then (round_in d c t.nodes) o)
  by None e = λ o h. cc
  by (Some w) e = rw (floats_found w t.nodes) (step (has w t.nodes) refl) where
    row : Forest
    row = first_floats (only w t.nodes)

    step : (b : Bool) → has w t.nodes ≡ b → IsFound d c row (option_and_then (nearest_round d c) (cond b (Some row) None))
    step true f = found_of d c row (low_id c t s (spaced_there c w t e)) (λ o h. low_id o t s (has_only o w t.nodes (floats_has o (only w t.nodes) h)))
    step false f = λ o h. let gone : in_row o row ≡ false = ap (in_row o) (none_there w f) in absurd (cc)

-- ---- the command

has_one : (o : Option ConId) (a : Bool) (e f : Refusal) → cond a (Some e) (cond (is_none o) (Some f) None) ≡ None → is_none o ≡ false
has_one o true e f h = cc
has_one None false e f h = cc
has_one (Some n) false e f h = refl

pub focuses_round : FocusesRound
focuses_round c d t s floats fine = rw floats (by (round_to d c t) (goes_round c d t s) some) where
  some : is_none (round_to d c t) ≡ false
  some = has_one (round_to d c t) (is_hidden t c) (NoTarget texts.NoWorkspace) (NoTarget texts.NoNeighbour) (rw floats at fine)

  by : (o : Option ConId) → IsFound d c (windows_of (workspace_of t c) t) o → is_none o ≡ false → (n : ConId) × (focused_some o t ≡ focusing n t) × IsTowards d c n (windows_of (workspace_of t c) t)
  by None h e = cc
  by (Some n) h e = (n, refl, h)
