-- What a link of one kind or another tells.
use Rattle.std.specs.Prelude.{ℕ, Option}
use Rattle.cases_sessions.specs.declared.given.EitherLink.{EitherLink}
use Rattle.cases_sessions.specs.declared.given.EitherLink.TheVariants as either
use Rattle.wm_ports.specs.Linking.{LinkTold}

module _ {K L : Type 0} where
  abbrev pub told_of : (K → Option LinkTold) → (L → Option LinkTold) → EitherLink K L → Option LinkTold
  told_of one other (either.One link) = one link
  told_of one other (either.Other link) = other link

  abbrev pub faults_of : (K → ℕ) → (L → ℕ) → EitherLink K L → ℕ
  faults_of one other (either.One link) = one link
  faults_of one other (either.Other link) = other link
