-- Bindings: a command for each chord of each mode.
use Rattle.std.specs.Prelude.{Bool, ◌&&◌, if◌then◌else◌, ℕ, List, [], ◌∷◌}
use Rattle.std.specs.Str.{bytes_eq}
use Rattle.wm_binds.specs.declared.config.Bind.{Bind}

abbrev pub bind_of : List ℕ → List ℕ → List ℕ → Bind
bind_of mode chord text = record { mode = mode; chord = chord; text = text }

-- they are of one mode and one chord
abbrev pub has_key_of : Bind → Bind → Bool
has_key_of b other = bytes_eq other.mode b.mode && bytes_eq other.chord b.chord

-- the bindings with one more, which takes the place of one of the same mode and chord
abbrev pub with_bind : Bind → List Bind → List Bind
with_bind b [] = b ∷ []
with_bind b (other ∷ binds) = if has_key_of b other then b ∷ binds else other ∷ with_bind b binds
