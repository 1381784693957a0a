-- After a deal the children of the node have their new shares.
use Rattle.std.proofs.Common.{◌≡◌, ℕ, Bool, true, false, cond, ◌||◌, List, [], ◌∷◌, refl, sym, subst}
use Rattle.wm_base.specs.declared.ids.ConId.{ConId}
use Rattle.wm_shared.proofs.DownLemmas.{Once, down_floats, down_kids, down_rest, in_floats, in_rest, not_below, once_floats, once_kids, once_rest}
use Rattle.wm_sizes.specs.declared.deals.Deal.{Deal}
use Rattle.wm_sizes.specs.Deals.{dealt, share_after, siblings, turn_after}
use Rattle.wm_tree.proofs.AttachLemmas.{has_row}
use Rattle.wm_forest.proofs.ForestLemmas.{at_absent}
use Rattle.wm_forest.proofs.RecencyLemmas.{same_is, same_self}
use Rattle.wm_forest.specs.Change.{at}
use Rattle.wm_forest.specs.Counts.{share_of}
use Rattle.wm_forest.specs.declared.kind.KindEdit.TheVariants as edits
use Rattle.wm_forest.specs.declared.part.NodeKind.{NodeKind}
use Rattle.wm_forest.specs.declared.part.NodeKind.TheVariants.{Root, Output, Space, Con}
use Rattle.wm_forest.specs.declared.part.Part.{Part}
use Rattle.wm_forest.specs.declared.shares.Sibling.{Sibling}
use Rattle.wm_forest.specs.Forest.{Forest, end, con}
use Rattle.wm_forest.specs.Kinds.{changed, kind_changed}
use Rattle.wm_forest.specs.Look.{first_kids, first_part, has, in_row, only, same}
use Rattle.wm_tree.specs.TreeValue.{is_con, is_con_kind}

-- ---- siblings

-- the siblings, c with the share n
abbrev pub reshare : ConId → ℕ → List Sibling → List Sibling
reshare c n [] = []
reshare c n (x ∷ l) = record { id = x.id; share = cond (same x.id c) n x.share } ∷ reshare c n l

-- the siblings, each of the others with its share
abbrev pub reshare_all : List Sibling → List Sibling → List Sibling
reshare_all [] l = l
reshare_all (y ∷ ys) l = reshare y.id y.share (reshare_all ys l)

pub not_in : (c : ConId) (row : Forest) → has c row ≡ false → in_row c row ≡ false
not_in c row h = by (in_row c row) refl where
  by : (b : Bool) → in_row c row ≡ b → in_row c row ≡ false
  by false e = e
  by true e = let here = has_row c row e in absurd (cc)

pub or_false : (a b : Bool) → (a || b) ≡ false → (a ≡ false) × (b ≡ false)
or_false false b h = (refl, h)
or_false true b h = cc

reshare_none : (c : ConId) (n : ℕ) (row : Forest) → in_row c row ≡ false → reshare c n (siblings row) ≡ siblings row
reshare_none c n end h = refl
reshare_none c n (con part kids floats rest) h =
    let o = or_false (same part.id c) (in_row c rest) h in
    rw (o.0, reshare_none c n rest o.1) refl

reshare_dealt : (c : ConId) (n : ℕ) (d : Deal) (turn : ℕ) (row : Forest) → in_row c row ≡ false → reshare c n (dealt d turn (siblings row)) ≡ dealt d turn (siblings row)
reshare_dealt c n d turn end h = refl
reshare_dealt c n d turn (con part kids floats rest) h =
    let o = or_false (same part.id c) (in_row c rest) h in
    rw (o.0, reshare_dealt c n d (turn_after d part.id turn) rest o.1) refl

pub turned_false : (a b : ConId) → same a b ≡ false → same b a ≡ false
turned_false a b h = by (same b a) refl where
  by : (x : Bool) → same b a ≡ x → same b a ≡ false
  by false e = e
  by true e = let one = same_self a b (sym (same_is b a e)) in absurd (cc)

-- the first sibling is passed over by others
passed : (x : Sibling) (l : List Sibling) (d : Deal) (turn : ℕ) (row : Forest) → in_row x.id row ≡ false → reshare_all (dealt d turn (siblings row)) (x ∷ l) ≡ x ∷ reshare_all (dealt d turn (siblings row)) l
passed x l d turn end h = refl
passed x l d turn (con part kids floats rest) h =
    let o = or_false (same part.id x.id) (in_row x.id rest) h in
    let s = turned_false part.id x.id o.0 in
    rw (passed x l d (turn_after d part.id turn) rest o.1, s) refl

-- each sibling that has its new share is what the deal makes of all
pub all_reshared : (d : Deal) (turn : ℕ) (row : Forest) → Once row → reshare_all (dealt d turn (siblings row)) (siblings row) ≡ dealt d turn (siblings row)
all_reshared d turn end once = refl
all_reshared d turn (con part kids floats rest) once =
    let x : Sibling = record { id = part.id; share = share_of part.kind } in
    let me = same_self part.id part.id refl in
    let away = not_in part.id rest (not_below part kids floats rest once part.id me).2 in
    let next : ℕ = turn_after d part.id turn in
    let skip = passed x (siblings rest) d next rest away in
    let tail = all_reshared d next rest (once_rest part kids floats rest once) in
    let keep = reshare_dealt part.id (share_after d x turn) d next rest away in
    rw (skip, tail, me, keep) refl

-- ---- rows

is_share : (n : ℕ) (kind : NodeKind) → is_con_kind kind ≡ true → share_of (changed (edits.Share n) kind) ≡ n
is_share n (Root c) h = cc
is_share n (Output o) h = cc
is_share n (Space w) h = cc
is_share n (Con c) h = refl

-- c is a container where it is there
abbrev pub IsConThere : ConId → Forest → Type 0
IsConThere c f = has c f ≡ true → is_con (first_part (only c f)) ≡ true

module _ (c : ConId) (part : Part) (kids floats rest : Forest) (once : Once (con part kids floats rest)) (ok : IsConThere c (con part kids floats rest)) where
  or_one : (a k l r : Bool) → (k ≡ true) → (a || k || l || r) ≡ true
  or_one true k l r h = refl
  or_one false true l r h = refl
  or_one false false l r h = cc

  or_two : (a k l r : Bool) → (l ≡ true) → (a || k || l || r) ≡ true
  or_two true k l r h = refl
  or_two false true l r h = refl
  or_two false false true r h = refl
  or_two false false false r h = cc

  or_three : (a k l r : Bool) → (r ≡ true) → (a || k || l || r) ≡ true
  or_three true k l r h = refl
  or_three false true l r h = refl
  or_three false false true r h = refl
  or_three false false false r h = h

  con_kids : IsConThere c kids
  con_kids h = let e = down_kids part kids floats rest once c h in let k = ok (or_one (same part.id c) (has c kids) (has c floats) (has c rest) h) in rw (← e) k

  con_floats : IsConThere c floats
  con_floats h = let e = down_floats part kids floats rest once c h in let k = ok (or_two (same part.id c) (has c kids) (has c floats) (has c rest) h) in rw (← e) k

  con_rest : IsConThere c rest
  con_rest h = let e = down_rest part kids floats rest once c h in let k = ok (or_three (same part.id c) (has c kids) (has c floats) (has c rest) h) in rw (← e) k

-- the row with another share of c
row_reshared : (c : ConId) (n : ℕ) (row : Forest) → Once row → IsConThere c row → siblings (at c kind_changed (edits.Share n) row) ≡ reshare c n (siblings row)
row_reshared c n end once ok = refl
row_reshared c n (con part kids floats rest) once ok =
    step (same part.id c) refl (has c kids) refl (has c floats) refl (row_reshared c n rest (once_rest part kids floats rest once) (con_rest c part kids floats rest once ok))
  where
    step : (s : Bool) → same part.id c ≡ s → (k : Bool) → has c kids ≡ k → (l : Bool) → has c floats ≡ l → siblings (at c kind_changed (edits.Share n) rest) ≡ reshare c n (siblings rest)
        → siblings (cond s (con (record part { kind = changed (edits.Share n) part.kind }) kids floats rest) (cond k (con part (at c kind_changed (edits.Share n) kids) floats rest) (cond l (con part kids (at c kind_changed (edits.Share n) floats) rest) (con part kids floats (at c kind_changed (edits.Share n) rest)))))
        ≡ record { id = part.id; share = cond s n (share_of part.kind) } ∷ reshare c n (siblings rest)
    step true es k ek l el p =
        let there : has c (con part kids floats rest) ≡ true = rw es refl in
        let mine : is_con_kind part.kind ≡ true = rw es at (ok there) in
        let away = not_in c rest (not_below part kids floats rest once c es).2 in
        rw (is_share n part.kind mine, reshare_none c n rest away) refl
    step false es true ek l el p =
        let away = not_in c rest (gone_rest es ek) in
        rw (reshare_none c n rest away) refl
      where
        gone_rest : same part.id c ≡ false → has c kids ≡ true → has c rest ≡ false
        gone_rest s k = by (has c rest) refl where
          by : (b : Bool) → has c rest ≡ b → has c rest ≡ false
          by false e = e
          by true e = let o = in_rest part kids floats rest once c e in let bad = o.1 in absurd (cc)
    step false es false ek true el p =
        let away = not_in c rest (gone_rest el) in
        rw (reshare_none c n rest away) refl
      where
        gone_rest : has c floats ≡ true → has c rest ≡ false
        gone_rest k = by (has c rest) refl where
          by : (b : Bool) → has c rest ≡ b → has c rest ≡ false
          by false e = e
          by true e = let o = in_rest part kids floats rest once c e in let bad = o.2 in absurd (cc)
    step false es false ek false el p = rw p refl

-- ---- the children of a node

-- the children of p are those with another share of c, and so is the row itself
record Kept (c p : ConId) (n : ℕ) (old new : Forest) : Type 0 where
  there : has p new ≡ has p old
  found : siblings (first_kids (only p new)) ≡ reshare c n (siblings (first_kids (only p old)))
  row : siblings new ≡ reshare c n (siblings old)

same_kept : (c p : ConId) (n : ℕ) (f : Forest) → has c f ≡ false → Kept c p n f (at c kind_changed (edits.Share n) f) → Kept c p n f f
same_kept c p n f h k = subst (λ (g : Forest). Kept c p n f g) (at_absent c kind_changed (edits.Share n) f h) k

module _ (c p : ConId) (n : ℕ) (part : Part) (kids floats rest : Forest) where
  abbrev There : Forest → Forest → Type 0
  There old new = (has p new ≡ has p old) × (siblings (first_kids (only p new)) ≡ reshare c n (siblings (first_kids (only p old))))

  joined : (kind : NodeKind) (k l r : Forest) → Kept c p n kids k → Kept c p n floats l → Kept c p n rest r → There (con part kids floats rest) (con (record part { kind = kind }) k l r)
  joined kind k l r a b d = (rw (a.there, b.there, d.there) refl, rw (a.there, b.there) (by (same part.id p) (has p kids) (has p floats))) where
    by : (x y z : Bool) → siblings (first_kids (cond x (con (record part { kind = kind }) k l end) (cond y (only p k) (cond z (only p l) (only p r))))) ≡ reshare c n (siblings (first_kids (cond x (con part kids floats end) (cond y (only p kids) (cond z (only p floats) (only p rest))))))
    by true y z = a.row
    by false true z = a.found
    by false false true = b.found
    by false false false = d.found

kids_kept : (c p : ConId) (n : ℕ) (f : Forest) → Once f → IsConThere c f → Kept c p n f (at c kind_changed (edits.Share n) f)
kids_kept c p n end once ok = record { there = refl; found = refl; row = refl }
kids_kept c p n (con part kids floats rest) once ok =
    let j = step (same part.id c) refl (has c kids) refl (has c floats) refl
    (kids_kept c p n kids (once_kids part kids floats rest once) (con_kids c part kids floats rest once ok))
    (kids_kept c p n floats (once_floats part kids floats rest once) (con_floats c part kids floats rest once ok))
    (kids_kept c p n rest (once_rest part kids floats rest once) (con_rest c part kids floats rest once ok)) in
    record { there = j.0; found = j.1; row = row_reshared c n (con part kids floats rest) once ok }
  where
    step : (s : Bool) → same part.id c ≡ s → (k : Bool) → has c kids ≡ k → (l : Bool) → has c floats ≡ l
        → Kept c p n kids (at c kind_changed (edits.Share n) kids) → Kept c p n floats (at c kind_changed (edits.Share n) floats) → Kept c p n rest (at c kind_changed (edits.Share n) rest)
        → There c p n part kids floats rest (con part kids floats rest)
        (cond s (con (record part { kind = changed (edits.Share n) part.kind }) kids floats rest) (cond k (con part (at c kind_changed (edits.Share n) kids) floats rest) (cond l (con part kids (at c kind_changed (edits.Share n) floats) rest) (con part kids floats (at c kind_changed (edits.Share n) rest)))))
    step true es k ek l el x y z =
        let away = not_below part kids floats rest once c es in
        joined c p n part kids floats rest (changed (edits.Share n) part.kind) kids floats rest (same_kept c p n kids away.0 x) (same_kept c p n floats away.1 y) (same_kept c p n rest away.2 z)
    step false es true ek l el x y z =
        joined c p n part kids floats rest part.kind (at c kind_changed (edits.Share n) kids) floats rest x (same_kept c p n floats (no_floats ek) y) (same_kept c p n rest (no_rest ek) z)
      where
        no_floats : has c kids ≡ true → has c floats ≡ false
        no_floats k = by (has c floats) refl where
          by : (b : Bool) → has c floats ≡ b → has c floats ≡ false
          by false e = e
          by true e = let o = in_floats part kids floats rest once c e in let bad = o.1 in absurd (cc)

        no_rest : has c kids ≡ true → has c rest ≡ false
        no_rest k = by (has c rest) refl where
          by : (b : Bool) → has c rest ≡ b → has c rest ≡ false
          by false e = e
          by true e = let o = in_rest part kids floats rest once c e in let bad = o.1 in absurd (cc)
    step false es false ek true el x y z =
        joined c p n part kids floats rest part.kind kids (at c kind_changed (edits.Share n) floats) rest (same_kept c p n kids ek x) y (same_kept c p n rest (no_rest el) z)
      where
        no_rest : has c floats ≡ true → has c rest ≡ false
        no_rest k = by (has c rest) refl where
          by : (b : Bool) → has c rest ≡ b → has c rest ≡ false
          by false e = e
          by true e = let o = in_rest part kids floats rest once c e in let bad = o.2 in absurd (cc)
    step false es false ek false el x y z =
        joined c p n part kids floats rest part.kind kids floats (at c kind_changed (edits.Share n) rest) (same_kept c p n kids ek x) (same_kept c p n floats el y) z

-- the children of p in a forest with another share of c
pub kids_reshared : (c p : ConId) (n : ℕ) (f : Forest) → Once f → IsConThere c f → siblings (first_kids (only p (at c kind_changed (edits.Share n) f))) ≡ reshare c n (siblings (first_kids (only p f)))
kids_reshared c p n f once ok = (kids_kept c p n f once ok).found
