-- What a build logs of two buildings, one after the other.
use Rattle.std.proofs.Common.{ℕ, List, ◌++◌, Option, None, Some, ◌∙◌, ap, arith, append_assoc, length-append}
use Rattle.wm_criteria.specs.Building.{Grew, Log, Tells}

tells_both : (old mid new : Option (List (List ℕ))) (first second : List (List ℕ)) → Tells old mid first → Tells mid new second → Tells old new (first ++ second)
tells_both None mid new first second a b = a
tells_both (Some xs) mid new first second a b = (rw a at b) ∙ ap (λ (s : List (List ℕ)). Some s) (append_assoc xs first second)

-- what was refused in both is what was refused in the first and then in the second
pub grew_both : (old mid new : Log) (first second : List (List ℕ)) → Grew old mid first → Grew mid new second → Grew old new (first ++ second)
grew_both old mid new first second a b = record {
  kept = omega (arith, a.kept, b.kept);
  rose = omega (arith, a.rose, b.rose, b.kept, length-append first second);
  told = tells_both old.texts mid.texts new.texts first second a.told b.told;
}
