-- How the counts of faults of links and listeners go, answer by answer.
use Rattle.std.specs.Prelude.{ℕ, min, ◌+◌, ⊤}
use Rattle.wm_defs.specs.Counts.{LAST_COUNT}
use Rattle.wm_ports.specs.declared.links.Received.{Received}
use Rattle.wm_ports.specs.declared.links.Received.TheVariants as received
use Rattle.wm_ports.specs.declared.listens.Accepted.{Accepted}
use Rattle.wm_ports.specs.declared.listens.Accepted.TheVariants as accepted

-- one fault more, or the last value of a count
abbrev pub one_more : ℕ → ℕ
one_more count = min (count + 1) LAST_COUNT

-- the count after a receiving with this answer: one more where it failed, and else as before
abbrev pub after_receiving : Received → ℕ → ℕ
after_receiving received.Failed count = one_more count
after_receiving _ count = count

-- the count after an accepting with this answer
abbrev pub after_accepting : {L : Type 0} → Accepted L → ℕ → ℕ
after_accepting accepted.Failed count = one_more count
after_accepting _ count = count

-- what holds of the link that an accepting gave, where it gave one
abbrev pub IfLink : {L : Type 0} → Accepted L → (L → Type 0) → Type 0
IfLink (accepted.Link link) holds = holds link
IfLink _ holds = ⊤
