-- What came on a link since the session began, and what was sent.
use Rattle.std.specs.Prelude.{◌≡◌, ℕ, zero, suc, Bool, true, false, List, ◌++◌, take, Option, None, Some, ⊤}
use Rattle.wm_ports.specs.Linking.{LinkTold}
use Rattle.wm_ports.specs.Memory.{next}

-- a count of 64 bits that has gone on n times
abbrev pub next_times : ℕ → ℕ → ℕ
next_times zero count = count
next_times (suc n) count = next (next_times n count)

-- A link that told this has given the bytes received, has taken the bytes sent, and so many receivings got bytes or were quiet.
pub record Passed (t : LinkTold) (now : Option LinkTold) (received sent : List ℕ) (turns : ℕ) : Type 0 where
  pub left : List ℕ
  pub gave : t.left ≡ received ++ left
  pub told : now ≡ Some (record { left = left; sent = t.sent ++ sent; turns = next_times turns t.turns })

abbrev pub Since : Option LinkTold → Option LinkTold → List ℕ → List ℕ → ℕ → Type 0
Since None now received sent turns = ⊤
Since (Some t) now received sent turns = Passed t now received sent turns

-- the same where a first part of the bytes was sent
pub record SincePart (from now : Option LinkTold) (received sent : List ℕ) (turns : ℕ) : Type 0 where
  pub count : ℕ
  pub since : Since from now received (take count sent) turns

-- all of the bytes were sent, or a first part of them
abbrev pub SinceBy : Bool → Option LinkTold → Option LinkTold → List ℕ → List ℕ → ℕ → Type 0
SinceBy true from now received sent turns = Since from now received sent turns
SinceBy false from now received sent turns = SincePart from now received sent turns

-- all that the link told at first was received
abbrev pub IsSpent : Option LinkTold → List ℕ → Type 0
IsSpent None received = ⊤
IsSpent (Some t) received = received ≡ t.left
