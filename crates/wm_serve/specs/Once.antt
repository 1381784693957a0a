-- A listener that gives one link: what it holds, and what it tells.
use Rattle.std.specs.Prelude.{◌≡◌, ◌<◌, ℕ, zero, suc, List, [], ◌∷◌, ◌++◌, Option, None, Some, ⊤}
use Rattle.wm_ports.specs.Listening.{ListenTold}
use Rattle.wm_ports.specs.declared.listens.Accepted.{Accepted}
use Rattle.wm_ports.specs.declared.listens.Accepted.TheVariants as accepted
use Rattle.wm_serve.specs.declared.rehearsed.RehearsedLink.{RehearsedLink}

-- the link that it was made with, that link as it was given back, and how many acceptings there were, a count of 64 bits
pub record OnceState : Type 0 where
  pub link : RehearsedLink
  pub left : Option RehearsedLink
  pub calls : ℕ

-- nothing was accepted yet
abbrev pub fresh : RehearsedLink → OnceState
fresh link = record { link = link; left = None; calls = 0 }

-- the link waits until the first accepting
abbrev pub waiting_at : RehearsedLink → ℕ → Option RehearsedLink
waiting_at link zero = Some link
waiting_at link (suc n) = None

-- so many acceptings that were quiet
abbrev pub quiets : ℕ → List (Accepted RehearsedLink)
quiets zero = []
quiets (suc n) = quiets n ++ accepted.Quiet ∷ []

-- what so many acceptings answered: the first one gave the link
abbrev pub answers : RehearsedLink → ℕ → List (Accepted RehearsedLink)
answers link zero = []
answers link (suc n) = accepted.Link link ∷ quiets n

abbrev pub list_of : Option RehearsedLink → List RehearsedLink
list_of None = []
list_of (Some link) = link ∷ []

-- It tells everything. The link that it was made with counts as given back to it then, so it stands first.
abbrev pub once_told : OnceState → Option (ListenTold RehearsedLink)
once_told s = Some (record { answers = answers s.link s.calls; returned = s.link ∷ list_of s.left })

-- a listener gave the link that it had
pub record IsGiven (old new : OnceState) : Type 0 where
  pub link : new.link ≡ old.link
  pub given : 0 < new.calls

-- each of these listeners gave its link
abbrev pub AreGiven : List OnceState → List OnceState → Type 0
AreGiven [] [] = ⊤
AreGiven (old ∷ olds) (new ∷ news) = IsGiven old new × AreGiven olds news
AreGiven olds news = ⊥
