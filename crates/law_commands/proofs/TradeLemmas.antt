-- Two containers without others below them that change places: their parts are traded.
use Rattle.std.proofs.Common.{◌≡◌, ℕ, ◌≤◌, Bool, true, false, cond, ◌||◌, ◌⊎◌, inl, inr, [], None, refl, ap, sym, ◌∙◌, arith}
use Rattle.wm_base.specs.declared.ids.ConId.{ConId}
use Rattle.wm_shared.proofs.DownLemmas.{Once, down_floats, down_kids, down_rest, once_floats, once_kids, once_rest}
use Rattle.wm_focus.proofs.OnlyLemmas.{found_there}
use Rattle.law_commands.proofs.PartMaps.{Light, count-mapped, mapped, mapped-mapped, mapped_alike, mapped_all, only_mapped, put, put_back, replaced_leaf}
use Rattle.wm_focus.proofs.TurnLemmas.{heads, heads_only}
use Rattle.wm_forest.proofs.CountLemmas.{tally-absent}
use Rattle.wm_tree.proofs.ExchangeSound.{Apart, Steps, count_filled, other_than_nobody, steps, zero_has}
use Rattle.wm_tree.proofs.MoveLemmas.{count-arriving}
use Rattle.wm_forest.proofs.RecencyLemmas.{same_is, same_self}
use Rattle.wm_forest.specs.Change.{arriving, hole, nobody, placed, replaced, unfull_kind}
use Rattle.wm_forest.specs.Counts.{row_length, share_of}
use Rattle.wm_forest.specs.declared.kind.KindEdit.TheVariants as edits
use Rattle.wm_forest.specs.declared.part.NodeKind.{NodeKind}
use Rattle.wm_forest.specs.declared.part.NodeKind.TheVariants.{Root, Output, Space, Con}
use Rattle.wm_forest.specs.declared.part.Part.{Part}
use Rattle.wm_forest.specs.Forest.{Forest, end, con}
use Rattle.wm_forest.specs.Kinds.{changed}
use Rattle.wm_forest.specs.Look.{con_kind, first_part, has, only, same}
use Rattle.wm_forest.specs.Exchange.{exchanged_nodes, holed}
use Rattle.wm_forest.specs.SoundRow.{one_of, tally}
use Rattle.wm_tree.specs.TreeValue.{is_con_kind}
use Rattle.law_commands.specs.Turning.{is_full_part}

-- ---- a container that comes to another place

abbrev pub came_kind : ℕ → Bool → NodeKind → NodeKind
came_kind share away kind = cond away (unfull_kind (placed share None kind)) (placed share None kind)

abbrev pub came : ℕ → Bool → Part → Part
came share away p = record p { kind = came_kind share away p.kind }

arriving_leaf : (share : ℕ) (away : Bool) (p : Part) → arriving share None away (con p end end end) ≡ con (came share away p) end end end
arriving_leaf share true p = refl
arriving_leaf share false p = refl

pub came_con : (share : ℕ) (away : Bool) (kind : NodeKind) → is_con_kind kind ≡ true → is_con_kind (came_kind share away kind) ≡ true
came_con share away (Root c) h = cc
came_con share away (Output o) h = cc
came_con share away (Space s) h = cc
came_con share true (Con c) h = refl
came_con share false (Con c) h = refl

pub came_share : (share : ℕ) (away : Bool) (kind : NodeKind) → is_con_kind kind ≡ true → share_of (came_kind share away kind) ≡ share
came_share share away (Root c) h = cc
came_share share away (Output o) h = cc
came_share share away (Space s) h = cc
came_share share true (Con c) h = refl
came_share share false (Con c) h = refl

-- one that is not fullscreen, and comes back to its share
kind_back : (s : ℕ) (x y : Bool) (kind : NodeKind) → is_con_kind kind ≡ true → is_full_part (con_kind kind) ≡ false → came_kind (share_of kind) y (came_kind s x kind) ≡ kind
kind_back s x y (Root c) h full = cc
kind_back s x y (Output o) h full = cc
kind_back s x y (Space w) h full = cc
kind_back s false false (Con c) h full = refl
kind_back s true false (Con c) h full = ap (λ b. Con (record c { state = record c.state { fullscreen = b } })) (sym full)
kind_back s false true (Con c) h full = ap (λ b. Con (record c { state = record c.state { fullscreen = b } })) (sym full)
kind_back s true true (Con c) h full = ap (λ b. Con (record c { state = record c.state { fullscreen = b } })) (sym full)

pub came_back : (s : ℕ) (x y : Bool) (p : Part) → is_con_kind p.kind ≡ true → is_full_part (con_kind p.kind) ≡ false → came (share_of p.kind) y (came s x p) ≡ p
came_back s x y p h full = ap (λ k. record p { kind = k }) (kind_back s x y p.kind h full)

-- one that takes its share along
kind_kept : (s : ℕ) (kind : NodeKind) → is_con_kind kind ≡ true → changed (edits.Share (share_of kind)) (came_kind s false kind) ≡ kind
kind_kept s (Root c) h = cc
kind_kept s (Output o) h = cc
kind_kept s (Space w) h = cc
kind_kept s (Con c) h = refl

pub share_kept : (s : ℕ) (p : Part) → is_con_kind p.kind ≡ true → record (came s false p) { kind = changed (edits.Share (share_of p.kind)) (came s false p).kind } ≡ p
share_kept s p h = ap (λ k. record p { kind = k }) (kind_kept s p.kind h)

-- ---- two ids

pub same_sym : (a b : ConId) → same a b ≡ false → same b a ≡ false
same_sym a b h = by (same b a) refl where
  by : (c : Bool) → same b a ≡ c → same b a ≡ false
  by false e = e
  by true e = let one = same_self a b (sym (same_is b a e)) in absurd (cc)

-- what is one of two is not the other
pub not_other : (x a b : ConId) → same a b ≡ false → same x a ≡ true → same x b ≡ false
not_other x a b h e = rw (same_is x a e) h

-- ---- two leaves

-- a and b are there once, have these parts, and nothing is below them
pub record Leaves (a b : ConId) (pa pb : Part) (f : Forest) : Type 0 where
  pub once : Once f
  pub low : tally nobody f ≡ 0
  pub first : only a f ≡ con pa end end end
  pub second : only b f ≡ con pb end end end
  pub first_con : is_con_kind pa.kind ≡ true
  pub second_con : is_con_kind pb.kind ≡ true
  pub two : same a b ≡ false

-- the parts of a and b, each in the place of the other
abbrev pub traded : ConId → Part → ConId → Part → Part → Part
traded a pa b pb part = cond (same part.id a) pb (cond (same part.id b) pa part)

module _ {a b : ConId} {pa pb : Part} {f : Forest} (l : Leaves a b pa pb f) where
  pub first_there : has a f ≡ true
  first_there = found_there a f pa (ap first_part l.first)

  pub second_there : has b f ≡ true
  second_there = found_there b f pb (ap first_part l.second)

  pub first_id : same pa.id a ≡ true
  first_id = let h = heads_only a f first_there in ap (heads a) (sym l.first) ∙ h

  pub second_id : same pb.id b ≡ true
  second_id = let h = heads_only b f second_there in ap (heads b) (sym l.second) ∙ h

  pub low_there : has nobody f ≡ false
  low_there = zero_has nobody f l.low

  pub apart : Apart a b f
  apart = record {
    first = first_there;
    second = second_there;
    outside = rw (l.first, not_other pa.id a b l.two first_id) refl;
    inside = rw (l.second, not_other pb.id b a (same_sym a b l.two) second_id) refl;
    none = low_there;
  }

  -- no node is nobody
  pub first_low : same nobody a ≡ false
  first_low = by (same nobody a) refl where
    by : (x : Bool) → same nobody a ≡ x → same nobody a ≡ false
    by false e = e
    by true e = let bad : has nobody f ≡ true = ap (λ z. has z f) (same_is nobody a e) ∙ first_there in let good = low_there in absurd (cc)

  pub second_low : same nobody b ≡ false
  second_low = by (same nobody b) refl where
    by : (x : Bool) → same nobody b ≡ x → same nobody b ≡ false
    by false e = e
    by true e = let bad : has nobody f ≡ true = ap (λ z. has z f) (same_is nobody b e) ∙ second_there in let good = low_there in absurd (cc)

-- ---- the exchange

abbrev hole_part : Part
hole_part = record { id = nobody; kind = Root nobody; marks = [] }

pub trade : (a b : ConId) (pa pb : Part) (sa sb : ℕ) (away : Bool) (f : Forest) → Leaves a b pa pb f → exchanged_nodes a b sa sb away f ≡ mapped (traded a (came sb away pa) b (came sa away pb)) f
trade a b pa pb sa sb away f l =
    let p : Apart a b f = apart l in
    let q : Steps a b sa sb away f = steps a b sa sb away f p in
    let xa : Part = came sb away pa in
    let xb : Part = came sa away pb in
    let x : Forest = arriving sb None away (only a f) in
    let y : Forest = arriving sa None away (only b (holed a f)) in
    let g : Forest = replaced b x (holed a f) in
    let xe : x ≡ con xa end end end = ap (λ z. arriving sb None away z) l.first ∙ arriving_leaf sb away pa in
    let ye : y ≡ con xb end end end = ap (λ z. arriving sa None away z) (q.b_same ∙ l.second) ∙ arriving_leaf sa away pb in
    let hole_one : ◌≡◌ {A = ℕ} (tally nobody hole) 1 = refl in
    let no_b = tally-absent b hole (other_than_nobody b f p.none p.second) in
    let one : holed a f ≡ mapped (put a hole_part) f = replaced_leaf a hole_part pa f (l.once a) p.first l.first in
    let b_once : tally b (holed a f) ≤ 1 = omega (arith, count_filled (one_of b) a hole f p.first refl, no_b, l.once b) in
    let two : g ≡ mapped (put b xa) (holed a f) = ap (λ z. replaced b z (holed a f)) xe ∙ replaced_leaf b xa pb (holed a f) b_once q.b_there (q.b_same ∙ l.second) in
    let x_none : tally nobody x ≡ 0 =
    count-arriving (one_of nobody) sb None (λ part. refl) (λ part. refl) away (only a f) ∙ (ap (tally nobody) l.first ∙ rw (same_sym nobody pa.id (rw (same_is pa.id a (first_id l)) (first_low l))) refl) in
    let g_once : tally nobody g ≤ 1 =
    omega (arith, count_filled (one_of nobody) b x (holed a f) q.b_there (ap row_length xe), count_filled (one_of nobody) a hole f p.first refl, hole_one, x_none, l.low) in
    let three : exchanged_nodes a b sa sb away f ≡ mapped (put nobody xb) g = ap (λ z. replaced nobody z g) ye ∙ replaced_leaf nobody xb hole_part g g_once q.hole_there q.hole_found in
    let steps_are : mapped (put nobody xb) g ≡ mapped (λ r. put nobody xb (put b xa (put a hole_part r))) f =
    ap (mapped (put nobody xb)) (two ∙ ap (mapped (put b xa)) one) ∙ (ap (mapped (put nobody xb)) (mapped-mapped (put b xa) (put a hole_part) f) ∙ mapped-mapped (put nobody xb) (λ r. put b xa (put a hole_part r)) f) in
    three ∙ (steps_are ∙ mapped_alike nobody (λ r. put nobody xb (put b xa (put a hole_part r))) (traded a xa b xb) (at_part xa xb (rw (same_is pa.id a (first_id l)) (same_sym nobody a (first_low l)))) f (low_there l))
  where
    at_part : (xa xb : Part) → same pa.id nobody ≡ false → (r : Part) → same r.id nobody ≡ false → put nobody (came sa away pb) (put b (came sb away pa) (put a hole_part r)) ≡ traded a (came sb away pa) b (came sa away pb) r
    at_part xa xb low r n = step (same r.id a) (same r.id b) refl refl where
      step : (u v : Bool) → same r.id a ≡ u → same r.id b ≡ v → put nobody (came sa away pb) (put b (came sb away pa) (cond u hole_part r)) ≡ cond u (came sa away pb) (cond v (came sb away pa) r)
      step true v eu ev = rw (second_low l) refl
      step false true eu ev = rw (ev, low) refl
      step false false eu ev = rw (ev, n) refl

-- ---- looking after a trade

module _ (a b : ConId) (pa pb : Part) (two : same a b ≡ false) (ia : same pa.id a ≡ true) (ib : same pb.id b ≡ true) where
  -- where a stands, b was
  pub was_b : (p : Part) → same (traded a pa b pb p).id a ≡ same p.id b
  was_b p = step (same p.id a) (same p.id b) refl refl where
    step : (u v : Bool) → same p.id a ≡ u → same p.id b ≡ v → same (cond u pb (cond v pa p)).id a ≡ v
    step true v eu ev = not_other pb.id b a (same_sym a b two) ib ∙ (sym (not_other p.id a b two eu) ∙ ev)
    step false true eu ev = ia
    step false false eu ev = eu

  -- where b stands, a was
  pub was_a : (p : Part) → same (traded a pa b pb p).id b ≡ same p.id a
  was_a p = step (same p.id a) (same p.id b) refl refl where
    step : (u v : Bool) → same p.id a ≡ u → same p.id b ≡ v → same (cond u pb (cond v pa p)).id b ≡ u
    step true v eu ev = ib
    step false true eu ev = not_other pa.id a b two ia
    step false false eu ev = ev

  -- all others stand where they stood
  pub was_same : (i : ConId) → same a i ≡ false → same b i ≡ false → (p : Part) → same (traded a pa b pb p).id i ≡ same p.id i
  was_same i na nb p = step (same p.id a) (same p.id b) refl refl where
    step : (u v : Bool) → same p.id a ≡ u → same p.id b ≡ v → same (cond u pb (cond v pa p)).id i ≡ same p.id i
    step true v eu ev = rw (same_is pb.id b ib, same_is p.id a eu) (nb ∙ sym na)
    step false true eu ev = rw (same_is pa.id a ia, same_is p.id b ev) (na ∙ sym nb)
    step false false eu ev = refl

  -- which node stood where i stands
  was : (i : ConId) → (j : ConId) × ((p : Part) → same (traded a pa b pb p).id i ≡ same p.id j)
  was i = step (same a i) (same b i) refl refl where
    step : (u v : Bool) → same a i ≡ u → same b i ≡ v → (j : ConId) × ((p : Part) → same (traded a pa b pb p).id i ≡ same p.id j)
    step true v eu ev = (b, λ p. ap (λ z. same (traded a pa b pb p).id z) (sym (same_is a i eu)) ∙ was_b p)
    step false true eu ev = (a, λ p. ap (λ z. same (traded a pa b pb p).id z) (sym (same_is b i ev)) ∙ was_a p)
    step false false eu ev = (i, was_same i eu ev)

  one_mapped : (i j : ConId) → ((p : Part) → same (traded a pa b pb p).id i ≡ same p.id j) → (f : Forest) → tally i (mapped (traded a pa b pb) f) ≡ tally j f
  one_mapped i j e f = count-mapped (one_of i) (one_of j) (traded a pa b pb) (λ p. ap (λ (z : Bool). cond z 1 0) (e p)) f

  -- each id is there once as before
  pub once_traded : (f : Forest) → Once f → Once (mapped (traded a pa b pb) f)
  once_traded f once = λ i. let w = was i in omega (arith, one_mapped i w.0 w.1 f, once w.0)

  -- the two leaves after a trade
  pub leaves_traded : (qa qb : Part) (f : Forest) → Leaves a b qa qb f → is_con_kind pa.kind ≡ true → is_con_kind pb.kind ≡ true → Leaves a b pa pb (mapped (traded a pa b pb) f)
  leaves_traded qa qb f l ca cb = record {
    once = once_traded f l.once;
    low = one_mapped nobody nobody (was_same nobody (same_sym nobody a (first_low l)) (same_sym nobody b (second_low l))) f ∙ l.low;
    first = only_mapped (traded a pa b pb) a b was_b f ∙ (ap (mapped (traded a pa b pb)) l.second ∙ ap (λ z. con z end end end) at_b);
    second = only_mapped (traded a pa b pb) b a was_a f ∙ (ap (mapped (traded a pa b pb)) l.first ∙ ap (λ z. con z end end end) at_a);
    first_con = ca;
    second_con = cb;
    two = two;
  } where
    at_b : traded a pa b pb qb ≡ pa
    at_b = rw (not_other qb.id b a (same_sym a b two) (second_id l), second_id l) refl

    at_a : traded a pa b pb qa ≡ pb
    at_a = rw (first_id l) refl

-- parts that are traded, and traded back
pub trade_back : (a b : ConId) (pa pb xa xb : Part) (f : Forest) → Leaves a b pa pb f → same xa.id a ≡ true → same xb.id b ≡ true → mapped (traded a pa b pb) (mapped (traded a xa b xb) f) ≡ f
trade_back a b pa pb xa xb f l ia ib =
    mapped-mapped (traded a pa b pb) (traded a xa b xb) f
    ∙ (mapped_all (λ r. traded a pa b pb (traded a xa b xb r)) (λ r. put b pb (put a pa r)) at_part f
    ∙ (sym (mapped-mapped (put b pb) (put a pa) f)
    ∙ (ap (mapped (put b pb)) (put_back a pa f (l.once a) (ap first_part l.first)) ∙ put_back b pb f (l.once b) (ap first_part l.second))))
  where
    at_part : (r : Part) → traded a pa b pb (traded a xa b xb r) ≡ put b pb (put a pa r)
    at_part r = step (same r.id a) (same r.id b) refl refl where
      step : (u v : Bool) → same r.id a ≡ u → same r.id b ≡ v → traded a pa b pb (cond u xb (cond v xa r)) ≡ put b pb (cond u pa r)
      step true v eu ev = rw (not_other xb.id b a (same_sym a b l.two) ib, ib, not_other pa.id a b l.two (first_id l)) refl
      step false true eu ev = rw (ia, ev) refl
      step false false eu ev = rw (eu, ev) refl

-- ---- nothing is below what is traded

pub light : (a b : ConId) (pa pb : Part) (f : Forest) → is_con_kind pa.kind ≡ true → is_con_kind pb.kind ≡ true → Once f → (has a f ≡ true → only a f ≡ con pa end end end) → (has b f ≡ true → only b f ≡ con pb end end end)
    → Light (traded a pa b pb) f
light a b pa pb end ca cb once u v = tt
light a b pa pb (con part kids floats rest) ca cb once u v = (
  step (same part.id a) (same part.id b) refl refl,
  light a b pa pb kids ca cb (once_kids part kids floats rest once) (λ h. sym (down_kids part kids floats rest once a h) ∙ u (has_of_kids a h)) (λ h. sym (down_kids part kids floats rest once b h) ∙ v (has_of_kids b h)),
  light a b pa pb floats ca cb (once_floats part kids floats rest once) (λ h. sym (down_floats part kids floats rest once a h) ∙ u (has_of_floats a h)) (λ h. sym (down_floats part kids floats rest once b h) ∙ v (has_of_floats b h)),
  light a b pa pb rest ca cb (once_rest part kids floats rest once) (λ h. sym (down_rest part kids floats rest once a h) ∙ u (has_of_rest a h)) (λ h. sym (down_rest part kids floats rest once b h) ∙ v (has_of_rest b h)),
)
  where
    node : Forest
    node = con part kids floats rest

    any : (p q r s : Bool) → (q ≡ true) ⊎ ((r ≡ true) ⊎ (s ≡ true)) → (p || q || r || s) ≡ true
    any true q r s h = refl
    any false true r s h = refl
    any false false true s h = refl
    any false false false true h = refl
    any false false false false (inl h) = cc
    any false false false false (inr (inl h)) = cc
    any false false false false (inr (inr h)) = cc

    has_of_kids : (i : ConId) → has i kids ≡ true → has i node ≡ true
    has_of_kids i h = any (same part.id i) (has i kids) (has i floats) (has i rest) (inl h)

    has_of_floats : (i : ConId) → has i floats ≡ true → has i node ≡ true
    has_of_floats i h = any (same part.id i) (has i kids) (has i floats) (has i rest) (inr (inl h))

    has_of_rest : (i : ConId) → has i rest ≡ true → has i node ≡ true
    has_of_rest i h = any (same part.id i) (has i kids) (has i floats) (has i rest) (inr (inr h))

    step : (s r : Bool) → same part.id a ≡ s → same part.id b ≡ r
        → (cond s pb (cond r pa part) ≡ part) ⊎ ((kids ≡ end) × (floats ≡ end) × (is_con_kind part.kind ≡ true) × (is_con_kind (cond s pb (cond r pa part)).kind ≡ true))
    step true r es er =
        let k : con part kids floats end ≡ con pa end end end = rw es at (u (rw es refl)) in
        let one : part ≡ pa = cc in
        let low : kids ≡ end = cc in
        let up : floats ≡ end = cc in
        inr (low, up, rw one ca, cb)
    step false true es er =
        let k : con part kids floats end ≡ con pb end end end = rw er at (v (rw er refl)) in
        let one : part ≡ pb = cc in
        let low : kids ≡ end = cc in
        let up : floats ≡ end = cc in
        inr (low, up, rw one cb, ca)
    step false false es er = inl refl
