-- Going along the siblings.
use Rattle.std.proofs.Common.{◌≡◌, ℕ, ◌≤◌, Bool, true, false, ◌&&◌, [], length, refl, ap, arith}
use Rattle.std.proofs.lemmas.Bool.Decides.{nat_tests}
use Rattle.std.specs.Prelude.{nat_le, not, ◌==◌, ◌||◌}
use Rattle.wm_base.specs.declared.ids.ConId.{ConId}
use Rattle.wm_sizes.proofs.BoolLemmas.{both}
use Rattle.wm_sizes.specs.declared.deals.Deal.{Deal}
use Rattle.wm_sizes.specs.Deals.{fits, fits_all, gives, share_after, siblings}
use Rattle.wm_sizes.specs.declared.tiled.Growth.{Growth}
use Rattle.wm_sizes.specs.Tiled.{IsReady, cannot}
use Rattle.wm_forest.specs.declared.shares.Sibling.{Sibling}
use Rattle.wm_forest.specs.Counts.{row_length}
use Rattle.wm_forest.proofs.ForestLemmas.{only_absent}
use Rattle.wm_forest.specs.Forest.{Forest, end, con}
use Rattle.wm_forest.specs.Look.{first_kids, has, only}

-- a node that is not there has no children
pub no_children : (p : ConId) (f : Forest) → has p f ≡ false → siblings (first_kids (only p f)) ≡ []
no_children p f h = ap (λ g. siblings (first_kids g)) (only_absent p f h)

at_least : (m n : ℕ) → nat_le m n ≡ true → m ≤ n
at_least m n h = grind (arith, nat_tests)

-- ---- at the first sibling

pub siblings_length : (row : Forest) → length (siblings row) ≡ row_length row
siblings_length end = refl
siblings_length (con part kids floats rest) = let e = siblings_length rest in omega (arith, e)

pub or_none : (a b : Bool) → (a || not b) ≡ false → b ≡ true
or_none true b h = cc
or_none false true h = refl
or_none false false h = cc

pub first_ready : (g : Growth) (n : ℕ) (d : Deal) (row : Forest) → cannot g n d row ≡ false → d.amount ≤ 2305843009213693952 → row_length row ≤ 256 → IsReady d (siblings row)
first_ready g n d row h small few = record {
  small = small;
  few = omega (arith, siblings_length row, few);
  fit = or_none (g.ppt == 0 && n == 0) (fits_all d 0 (siblings row)) h;
}

-- a share that fits is from 1 to 1,048,576
pub fitting : (d : Deal) (s : Sibling) (turn : ℕ) → fits d s turn ≡ true → (1 ≤ share_after d s turn) × (share_after d s turn ≤ 1048576)
fitting d s turn h =
    let n : ℕ = share_after d s turn in
    let a = both (nat_le 1 n && nat_le n 1048576) (not (gives d s.id) || nat_le d.least n) h in
    let b = both (nat_le 1 n) (nat_le n 1048576) a.0 in
    (at_least 1 n b.0, at_least n 1048576 b.1)
