-- The last binding of a chord in a mode.
use Rattle.std.proofs.Common.{◌≡◌, refl, ap, true, false, ℕ, List, ◌∷◌, Option, None, Some}
use Rattle.wm_binds.specs.declared.config.Bind.{Bind}
use Rattle.wm_script.specs.Lines.{or}
use Rattle.wm_script.specs.Out.{is_of, last_bind, where_of}

or_or : (a b c : Option Bind) → or (or a b) c ≡ or a (or b c)
or_or None b c = refl
or_or (Some x) b c = refl

-- the binding here is found, where none is behind it
pub found_here : (mode chord : List ℕ) (b : Bind) (binds : List Bind) (before : Option Bind) → is_of mode chord b ≡ true → or (last_bind mode chord binds) (Some b) ≡ or (last_bind mode chord (b ∷ binds)) before
found_here mode chord b binds before e = ap (λ o. o) (by (last_bind mode chord binds))
  where
    by : (o : Option Bind) → or o (Some b) ≡ or (or o (where_of mode chord b)) before
    by None = rw e refl
    by (Some x) = refl

pub not_here : (mode chord : List ℕ) (b : Bind) (binds : List Bind) (before : Option Bind) → is_of mode chord b ≡ false → or (last_bind mode chord binds) before ≡ or (last_bind mode chord (b ∷ binds)) before
not_here mode chord b binds before e = by (last_bind mode chord binds)
  where
    by : (o : Option Bind) → or o before ≡ or (or o (where_of mode chord b)) before
    by None = rw e refl
    by (Some x) = refl

pub all_behind : (o : Option Bind) → or o None ≡ o
all_behind None = refl
all_behind (Some b) = refl
