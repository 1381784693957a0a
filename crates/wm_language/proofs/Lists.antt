-- Joining lists.
use Rattle.std.proofs.Common.{◌≡◌, List, ℕ, ◌++◌, append_assoc, ap, ◌∙◌}
use Rattle.std.proofs.Common.{Result, Ok, Err}
use Rattle.std.specs.Prelude.{OnOk}
use Rattle.std.proofs.lemmas.List.{append-nil, map-append}

pub ruleset joining = (append_assoc, append-nil, map-append)

-- what two writes one after another leave
pub two_writes : (old mid new a b : List ℕ) → mid ≡ old ++ a → new ≡ mid ++ b → new ≡ old ++ (a ++ b)
two_writes old mid new a b e f = f ∙ (ap (λ (t : List ℕ). t ++ b) e ∙ append_assoc old a b)

pub two_writes_on : {X E : Type 0} (r : Result X E) (old mid new a b : List ℕ) → mid ≡ old ++ a → OnOk r (new ≡ mid ++ b) → OnOk r (new ≡ old ++ (a ++ b))
two_writes_on (Ok x) old mid new a b e f = two_writes old mid new a b e f
two_writes_on (Err x) old mid new a b e f = f
