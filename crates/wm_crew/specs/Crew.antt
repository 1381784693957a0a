-- Workers beside one another, and what each of them did.
use Rattle.std.specs.Prelude.{◌≡◌, ℕ, suc, List, [], ◌∷◌, Option, ⊤}
use Rattle.wm_crew.specs.Faults.{fault_among}
use Rattle.wm_actors.specs.declared.ending.ActorEnd.{ActorEnd}
use Rattle.wm_crew.specs.declared.fault.Fault.{Fault}

-- where a worker stands: its pass, its listener, and what it keeps
pub record Post (P A B : Type 0) : Type 0 where
  pub pass : P
  pub listen : A
  pub kept : B

module _ {P A B : Type 0} where
  abbrev pub post : P → A → B → Post P A B
  post pass listen kept = record { pass = pass; listen = listen; kept = kept }

  -- the posts of passes, listeners and what is kept, as many as there are of all three
  abbrev pub posts : List P → List A → List B → List (Post P A B)
  posts (pass ∷ passes) (listen ∷ listens) (kept ∷ more) = post pass listen kept ∷ posts passes listens more
  posts passes listens kept = []

module _ {P A B : Type 0} (does : ℕ → P → A → B → P → A → B → ActorEnd → Type 0) where
  -- each worker led from its post to this one, and ended so; the doors are numbered from here on
  abbrev pub Each : ℕ → List (Post P A B) → List (Post P A B) → List ActorEnd → Type 0
  Each number [] [] [] = ⊤
  Each number (from ∷ old) (to ∷ new) (e ∷ ends) = does number from.pass from.listen from.kept to.pass to.listen to.kept e × Each (suc number) old new ends
  Each number old new ends = ⊥

  -- each worker did its duty, and of their ends this fault counts, the doors being numbered from here on
  pub record AtAll (first : ℕ) (old new : List (Post P A B)) (fault : Option Fault) : Type 0 where
    pub ends : List ActorEnd
    pub each : Each first old new ends
    pub counts : fault ≡ fault_among first ends
