-- Items of an array that are read one after another.
use Rattle.std.proofs.Common.{List, ◌++◌, Ok}
use Rattle.wm_saved.specs.Answers.{Answer, ◌>>=◌}

-- an answer with what was read before in front
abbrev pub with_front : {A : Type 0} → List A → Answer (List A) → Answer (List A)
with_front xs rest = rest >>= λ ys. Ok (xs ++ ys)
