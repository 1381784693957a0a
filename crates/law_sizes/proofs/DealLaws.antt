-- What each child gives or takes in a deal, and that the parts together are the amount.
use Rattle.std.proofs.Common.{◌≡◌, ℕ, ◌+◌, ◌≤◌, Bool, true, false, cond, not, ◌&&◌, ◌||◌, Option, None, Some, refl, ap, sym, ◌∙◌, subst, arith}
use Rattle.std.specs.Prelude.{◌==◌}
use Rattle.law_sizes.specs.Dealing.{AreDealt, AreDealtBy, Changes, ResizeDeals, parts, share_in, turn_of}
use Rattle.wm_base.specs.declared.errors.ErrorText.TheVariants as texts
use Rattle.wm_base.specs.declared.errors.Refusal.{Refusal}
use Rattle.wm_base.specs.declared.errors.Refusal.TheVariants.{NoTarget}
use Rattle.wm_base.specs.declared.ids.ConId.{ConId}
use Rattle.wm_shared.proofs.DownLemmas.{Once, not_below, once_kids, once_only, once_rest}
use Rattle.wm_shared.specs.Subject.{is_hidden, is_space}
use Rattle.wm_sizes.proofs.AnewLemmas.{anew}
use Rattle.wm_sizes.proofs.BoolLemmas.{both}
use Rattle.wm_sizes.proofs.FamilyLemmas.{rung_family}
use Rattle.wm_sizes.proofs.HandLemmas.{fitting, or_none}
use Rattle.wm_sizes.proofs.ShareLaws.{not_in, or_false}
use Rattle.wm_sizes.proofs.SumLemmas.{taken, total}
use Rattle.wm_sizes.specs.Climbing.{rung_of, side_axis}
use Rattle.wm_sizes.specs.Deals.{dealt, fits, fits_all, gained, is_named, is_partner, part, share_after, siblings, turn_after}
use Rattle.wm_sizes.specs.declared.climbing.Rung.{Rung}
use Rattle.wm_sizes.specs.declared.deals.Deal.{Deal}
use Rattle.wm_forest.specs.declared.shares.Sibling.{Sibling}
use Rattle.wm_sizes.specs.declared.tiled.Growth.{Growth}
use Rattle.wm_sizes.specs.Laws.{share_among}
use Rattle.wm_sizes.specs.Tiled.{HasFamily, cannot, children_of, lacks, length_of, rung_deal, rung_refusal, rung_tree, tiled_refusal}
use Rattle.wm_forest.proofs.RecencyLemmas.{same_is, same_self}
use Rattle.wm_forest.specs.Counts.{share_of, share_sum}
use Rattle.wm_forest.specs.Forest.{Forest, end, con}
use Rattle.wm_forest.specs.Look.{first_kids, in_row, only, same}
use Rattle.wm_tree.specs.Sound.{IsSound}
use Rattle.wm_tree.specs.TreeValue.{TreeValue}

-- ---- each child

turns_add : (d : Deal) (id : ConId) (m n : ℕ) → turn_after d id m + n ≡ m + turn_after d id n
turns_add d id m n = by (is_partner d id) where
  by : (b : Bool) → cond b (m + 1) m + n ≡ m + cond b (n + 1) n
  by true = omega arith
  by false = refl

no_more : (n : ℕ) → n + 0 ≡ n
no_more n = omega arith

-- the share of a child after the deal, and that it is one at least
record IsAfter (d : Deal) (turn : ℕ) (i : ConId) (row : Forest) : Type 0 where
  is : share_among i (dealt d turn (siblings row)) ≡ share_after d (record { id = i; share = share_in i row }) (turn + turn_of d i row)
  some : 1 ≤ share_after d (record { id = i; share = share_in i row }) (turn + turn_of d i row)

after_of : (d : Deal) (turn : ℕ) (i : ConId) (row : Forest) → in_row i row ≡ true → fits_all d turn (siblings row) ≡ true → IsAfter d turn i row
after_of d turn i end h f = cc
after_of d turn i (con own kids floats rest) h f = by (same own.id i) refl h (after_of d (turn_after d own.id turn) i rest) where
  here : Sibling
  here = record { id = own.id; share = share_of own.kind }

  fit : (fits d here turn ≡ true) × (fits_all d (turn_after d own.id turn) (siblings rest) ≡ true)
  fit = both (fits d here turn) (fits_all d (turn_after d own.id turn) (siblings rest)) f

  first : same own.id i ≡ true → IsAfter d turn i (con own kids floats rest)
  first e =
      let one : own.id ≡ i = same_is own.id i e in
      let After : ConId → ℕ → ℕ = λ j m. share_after d (record { id = j; share = share_of own.kind }) m in
      let now : After own.id turn ≡ After i (turn + 0) = ap (λ j. After j turn) one ∙ ap (After i) (sym (no_more turn)) in
      let some : 1 ≤ After own.id turn = (fitting d here turn fit.0).0 in
      record { is = rw e now; some = rw e (subst (λ (n : ℕ). 1 ≤ n) now some) }

  later : same own.id i ≡ false → IsAfter d (turn_after d own.id turn) i rest → IsAfter d turn i (con own kids floats rest)
  later e k =
      let add = turns_add d own.id turn (turn_of d i rest) in
      let After : ℕ → ℕ = λ m. share_after d (record { id = i; share = share_in i rest }) m in
      record { is = rw e (k.is ∙ ap After add); some = rw e (subst (λ (m : ℕ). 1 ≤ After m) add k.some) }

  by : (a : Bool) → same own.id i ≡ a → (a || in_row i rest) ≡ true → (in_row i rest ≡ true → fits_all d (turn_after d own.id turn) (siblings rest) ≡ true → IsAfter d (turn_after d own.id turn) i rest)
      → IsAfter d turn i (con own kids floats rest)
  by true e k u = first e
  by false e k u = later e (u k fit.1)

-- a share that is one at least was enough to give so much
exactly : (b : Bool) (old by : ℕ) → 1 ≤ gained b old by → Changes b by old (gained b old by)
exactly true old by h = refl
exactly false old by h = omega (arith, h)

partner_other : (d : Deal) (i : ConId) → is_partner d i ≡ true → same i d.node ≡ false
partner_other d i h = by (same i d.node) refl where
  by : (b : Bool) → same i d.node ≡ b → same i d.node ≡ false
  by false e = e
  by true e = let bad : (not true && is_named d.partner i) ≡ true = rw e at h in cc

-- the share of a partner, and of a child that is neither one nor the node
of_partner : (a n : Bool) (x y z : ℕ) → a ≡ false → (not a && n) ≡ true → cond a x (cond (not a && n) y z) ≡ y
of_partner true n x y z h k = cc
of_partner false true x y z h k = refl
of_partner false false x y z h k = cc

of_other : (a n : Bool) (x y z : ℕ) → a ≡ false → (not a && n) ≡ false → cond a x (cond (not a && n) y z) ≡ z
of_other true n x y z h k = cc
of_other false true x y z h k = cc
of_other false false x y z h k = refl

-- ---- all children

row_total : (row : Forest) → share_sum row ≡ total (siblings row)
row_total end = refl
row_total (con own kids floats rest) = let e = row_total rest in omega (arith, e)

taken_none : (d : Deal) (row : Forest) → in_row d.node row ≡ false → taken d (siblings row) ≡ 0
taken_none d end h = refl
taken_none d (con own kids floats rest) h =
    let o = or_false (same own.id d.node) (in_row d.node rest) h in
    let none = taken_none d rest o.1 in
    rw o.0 (omega (arith, none))

taken_once : (d : Deal) (row : Forest) → Once row → in_row d.node row ≡ true → taken d (siblings row) ≡ d.amount
taken_once d end once h = cc
taken_once d (con own kids floats rest) once h = by (same own.id d.node) refl h (taken_once d rest (once_rest own kids floats rest once)) where
  by : (a : Bool) → same own.id d.node ≡ a → (a || in_row d.node rest) ≡ true → (in_row d.node rest ≡ true → taken d (siblings rest) ≡ d.amount) → cond a d.amount 0 + taken d (siblings rest) ≡ d.amount
  by true e k u = let none = taken_none d rest (not_in d.node rest (not_below own kids floats rest once d.node e).2) in omega (arith, none)
  by false e k u = let all = u k in omega (arith, all)

-- what comes in is what goes out
abbrev Even : Bool → ℕ → ℕ → ℕ → ℕ → Type 0
Even true new gave old took = new + gave ≡ old + took
Even false new gave old took = new + took ≡ old + gave

one_even : (g a n : Bool) (share amount piece : ℕ) → 1 ≤ cond a (gained g share amount) (cond (not a && n) (gained (not g) share piece) share)
    → Even g (cond a (gained g share amount) (cond (not a && n) (gained (not g) share piece) share)) (cond (not a && n) piece 0) share (cond a amount 0)
one_even true true n share amount piece h = omega arith
one_even false true n share amount piece h = omega (arith, h)
one_even true false true share amount piece h = omega (arith, h)
one_even false false true share amount piece h = omega arith
one_even true false false share amount piece h = omega arith
one_even false false false share amount piece h = omega arith

add_even : (g : Bool) (a b c e k l m n : ℕ) → Even g a b c e → Even g k l m n → Even g (a + k) (b + l) (c + m) (e + n)
add_even true a b c e k l m n p q = omega (arith, p, q)
add_even false a b c e k l m n p q = omega (arith, p, q)

none_even : (g : Bool) → Even g 0 0 0 0
none_even true = refl
none_even false = refl

all_even : (d : Deal) (turn : ℕ) (row : Forest) → fits_all d turn (siblings row) ≡ true → Even d.grow (total (dealt d turn (siblings row))) (parts d turn row) (total (siblings row)) (taken d (siblings row))
all_even d turn end h = none_even d.grow
all_even d turn (con own kids floats rest) h =
    let x : Sibling = record { id = own.id; share = share_of own.kind } in
    let next : ℕ = turn_after d own.id turn in
    let b = both (fits d x turn) (fits_all d next (siblings rest)) h in
    let one = one_even d.grow (same own.id d.node) (is_named d.partner own.id) x.share d.amount (part d turn) (fitting d x turn b.0).0 in
    add_even d.grow (share_after d x turn) (cond (is_partner d own.id) (part d turn) 0) x.share (cond (same own.id d.node) d.amount 0)
    (total (dealt d next (siblings rest))) (parts d next rest) (total (siblings rest)) (taken d (siblings rest)) one (all_even d next rest b.1)

parts_taken : (g : Bool) (new gave old took : ℕ) → Even g new gave old took → new ≡ old → gave ≡ took
parts_taken true new gave old took h e = omega (arith, h, e)
parts_taken false new gave old took h e = omega (arith, h, e)

-- ---- the law

pub row_once : (p : ConId) (f : Forest) → Once f → Once (first_kids (only p f))
row_once p f once = by (only p f) (once_only p f once) where
  by : (g : Forest) → Once g → Once (first_kids g)
  by end o = o
  by (con own kids floats rest) o = once_kids own kids floats rest o

are_dealt : (d : Deal) (old new : Forest) → Once old → in_row d.node old ≡ true → fits_all d 0 (siblings old) ≡ true → siblings new ≡ dealt d 0 (siblings old) → share_sum new ≡ share_sum old → AreDealt d old new
are_dealt d old new once mine fit row sum = record { node = node; partner = partner; other = other; together = together; sum = sum } where
  After : ConId → ℕ
  After i = share_after d (record { id = i; share = share_in i old }) (0 + turn_of d i old)

  now : (i : ConId) → in_row i old ≡ true → share_in i new ≡ After i
  now i h = ap (share_among i) row ∙ (after_of d 0 i old h fit).is

  some : (i : ConId) → in_row i old ≡ true → 1 ≤ After i
  some i h = (after_of d 0 i old h fit).some

  node : Changes d.grow d.amount (share_in d.node old) (share_in d.node new)
  node =
      let me : same d.node d.node ≡ true = same_self d.node d.node refl in
      let is : After d.node ≡ gained d.grow (share_in d.node old) d.amount = rw me refl in
      subst (Changes d.grow d.amount (share_in d.node old)) (sym (now d.node mine ∙ is)) (exactly d.grow (share_in d.node old) d.amount (subst (λ (n : ℕ). 1 ≤ n) is (some d.node mine)))

  partner : (i : ConId) → in_row i old ≡ true → is_partner d i ≡ true → Changes (not d.grow) (part d (turn_of d i old)) (share_in i old) (share_in i new)
  partner i h p =
      let other : same i d.node ≡ false = partner_other d i p in
      let begin : 0 + turn_of d i old ≡ turn_of d i old = omega arith in
      let mine : After i ≡ gained (not d.grow) (share_in i old) (part d (0 + turn_of d i old)) =
      of_partner (same i d.node) (is_named d.partner i) (gained d.grow (share_in i old) d.amount) (gained (not d.grow) (share_in i old) (part d (0 + turn_of d i old))) (share_in i old) other p in
      let is : After i ≡ gained (not d.grow) (share_in i old) (part d (turn_of d i old)) = mine ∙ ap (λ m. gained (not d.grow) (share_in i old) (part d m)) begin in
      subst (Changes (not d.grow) (part d (turn_of d i old)) (share_in i old)) (sym (now i h ∙ is)) (exactly (not d.grow) (share_in i old) (part d (turn_of d i old)) (subst (λ (n : ℕ). 1 ≤ n) is (some i h)))

  other : (i : ConId) → in_row i old ≡ true → same i d.node ≡ false → is_partner d i ≡ false → share_in i new ≡ share_in i old
  other i h a p =
      let is : After i ≡ share_in i old =
      of_other (same i d.node) (is_named d.partner i) (gained d.grow (share_in i old) d.amount) (gained (not d.grow) (share_in i old) (part d (0 + turn_of d i old))) (share_in i old) a p in
      now i h ∙ is

  together : parts d 0 old ≡ d.amount
  together =
      let kept : total (dealt d 0 (siblings old)) ≡ total (siblings old) = ap total (sym row) ∙ (sym (row_total new) ∙ (sum ∙ row_total old)) in
      parts_taken d.grow (total (dealt d 0 (siblings old))) (parts d 0 old) (total (siblings old)) (taken d (siblings old)) (all_even d 0 old fit) kept ∙ taken_once d old once mine

pub no_error : (a : Bool) (e : Refusal) (o : Option Refusal) → cond a (Some e) o ≡ None → (a ≡ false) × (o ≡ None)
no_error true e o h = cc
no_error false e o h = (refl, h)

dealt_by : (g : Growth) (a : Option Rung) (t : TreeValue) → IsSound t → ((r : Rung) → a ≡ Some r → HasFamily r t.nodes) → rung_refusal g a t ≡ None → AreDealtBy g a t (rung_tree g a t)
dealt_by g None t s family fine = cc
dealt_by g (Some r) t s family fine =
    let row : Forest = children_of r.parent t in
    let d : Deal = rung_deal g r t in
    let n : ℕ = length_of g.side r.parent t in
    let f = family r refl in
    let first = no_error (lacks g.side r.node row) (NoTarget texts.NoNeighbour) (cond (cannot g n d row) (Some (NoTarget texts.CannotResize)) None) fine in
    let second = no_error (cannot g n d row) (NoTarget texts.CannotResize) None first.1 in
    let fit = or_none (g.ppt == 0 && n == 0) (fits_all d 0 (siblings row)) second.0 in
    let k = anew g r n d t (rung_tree g (Some r) t) s f refl first.0 second.0 refl in
    are_dealt d row (children_of r.parent (rung_tree g (Some r) t)) (row_once r.parent t.nodes s.once) f.node fit k.row k.sum

pub resize_deals : ResizeDeals
resize_deals c grow side px ppt t s tiled fine =
    let g : Growth = record { grow = grow; side = side; px = px; ppt = ppt } in
    let a = no_error (is_hidden t c) (NoTarget texts.NoWorkspace) (cond (is_space t c) (Some (NoTarget texts.AtWorkspace)) (tiled_refusal c g t)) (rw tiled at fine) in
    let b = no_error (is_space t c) (NoTarget texts.AtWorkspace) (tiled_refusal c g t) a.1 in
    rw tiled (dealt_by g (rung_of (side_axis side) c t) t s (λ r e. rung_family (side_axis side) c t r s e) b.1)
