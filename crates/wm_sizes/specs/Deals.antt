-- What the children of a container give to one of them, and what it gives to them, as plain numbers.
use Rattle.std.specs.Prelude.{ℕ, ◌+◌, ◌-◌, ◌*◌, ◌/◌, ◌%◌, ◌==◌, nat_lt, nat_le, Bool, true, false, ◌&&◌, ◌||◌, not, if◌then◌else◌, List, [], ◌∷◌, ◌++◌, Option, None, Some}
use Rattle.wm_base.specs.declared.ids.ConId.{ConId}
use Rattle.wm_sizes.specs.declared.deals.Deal.{Deal}
use Rattle.wm_forest.specs.declared.shares.Sibling.{Sibling}
use Rattle.wm_forest.specs.Counts.{share_of}
use Rattle.wm_forest.specs.Forest.{Forest, end, con}
use Rattle.wm_forest.specs.Look.{same}

-- the amount that goes over: so many hundredths of all shares, or else the shares that so many pixels of the length have
abbrev pub amount : ℕ → ℕ → ℕ → ℕ → ℕ
amount sum length px ppt = if ppt == 0 then sum * px / length else sum * ppt / 100

-- a share that becomes larger, or smaller but not below 0
abbrev pub gained : Bool → ℕ → ℕ → ℕ
gained true share by = share + by
gained false share by = share - by

abbrev pub is_named : Option ConId → ConId → Bool
is_named None id = true
is_named (Some partner) id = same id partner

-- the child gives to the node, or takes from it: the one partner, or all children but the node
abbrev pub is_partner : Deal → ConId → Bool
is_partner d id = not (same id d.node) && is_named d.partner id

-- what a partner gives or takes that has so many partners before it: the first ones have one more than the others where
-- the amount is not cut evenly
abbrev pub part : Deal → ℕ → ℕ
part d turn = if d.partners == 0 then 0 else d.amount / d.partners + (if nat_lt turn (d.amount % d.partners) then 1 else 0)

-- the share of a child after the deal, which has so many partners before it
abbrev pub share_after : Deal → Sibling → ℕ → ℕ
share_after d child turn =
    if same child.id d.node then gained d.grow child.share d.amount
    else if is_partner d child.id then gained (not d.grow) child.share (part d turn)
    else child.share

abbrev pub turn_after : Deal → ConId → ℕ → ℕ
turn_after d id turn = if is_partner d id then turn + 1 else turn

-- who gives: the partners where the node grows, else the node itself
abbrev pub gives : Deal → ConId → Bool
gives d id = if d.grow then is_partner d id else same id d.node

-- a share is from 1 to 1,048,576, and who gives keeps the least share
abbrev pub fits : Deal → Sibling → ℕ → Bool
fits d child turn =
    nat_le 1 (share_after d child turn) && nat_le (share_after d child turn) 1048576 && (not (gives d child.id) || nat_le d.least (share_after d child turn))

abbrev pub fits_all : Deal → ℕ → List Sibling → Bool
fits_all d turn [] = true
fits_all d turn (child ∷ children) = fits d child turn && fits_all d (turn_after d child.id turn) children

-- the children with their shares after the deal
abbrev pub dealt : Deal → ℕ → List Sibling → List Sibling
dealt d turn [] = []
dealt d turn (child ∷ children) = record { id = child.id; share = share_after d child turn } ∷ dealt d (turn_after d child.id turn) children

-- the child with its share after the deal, where that is another one
abbrev pub change : Deal → ℕ → Sibling → List Sibling
change d turn child = if share_after d child turn == child.share then [] else record { id = child.id; share = share_after d child turn } ∷ []

-- the children whose shares change
abbrev pub changes : Deal → ℕ → List Sibling → List Sibling
changes d turn [] = []
changes d turn (child ∷ children) = change d turn child ++ changes d (turn_after d child.id turn) children

-- the nodes of a row with their shares
abbrev pub siblings : Forest → List Sibling
siblings end = []
siblings (con part kids floats rest) = record { id = part.id; share = share_of part.kind } ∷ siblings rest
