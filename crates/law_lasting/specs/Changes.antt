-- Changes of nodes, and places to which containers move, as commands use them.
use Rattle.std.specs.Prelude.{◌≡◌, ℕ, Bool, true, false, if◌then◌else◌, is_some}
use Rattle.wm_base.specs.declared.ids.ConId.{ConId}
use Rattle.wm_forest.specs.Counts.{one_con}
use Rattle.wm_forest.specs.declared.kind.KindEdit.{KindEdit}
use Rattle.wm_forest.specs.declared.kind.KindEdit.TheVariants as edits
use Rattle.wm_forest.specs.declared.part.ConState.{ConState}
use Rattle.wm_forest.specs.declared.part.Part.{Part}
use Rattle.wm_forest.specs.Look.{same}
use Rattle.wm_forest.specs.declared.place.Place.{Place}
use Rattle.wm_forest.specs.declared.place.Place.TheVariants.{After, Before, First, Last, Float, Scratchpad}

-- the change is not of a container's state
abbrev pub is_plain : KindEdit → Bool
is_plain (edits.State s) = false
is_plain other = true

-- the change is neither of a container's state nor of a workspace's name
abbrev pub is_calm : KindEdit → Bool
is_calm (edits.State s) = false
is_calm (edits.Name n) = false
is_calm other = true

-- the new state is fullscreen and flagged as the old one is, and has an outer rectangle where that has one
abbrev pub KeepsState : ConState → ConState → Type 0
KeepsState old now = (now.fullscreen ≡ old.fullscreen) × (now.flagged ≡ old.flagged) × (is_some old.rect ≡ true → is_some now.rect ≡ true)

-- the place is in the scratchpad
abbrev pub stows : Place → Bool
stows (After c) = false
stows (Before c) = false
stows (First c) = false
stows (Last c) = false
stows (Float w r) = false
stows (Scratchpad r) = true

-- one for a container with the id c
abbrev pub con_at : ConId → Part → ℕ
con_at c p = if same p.id c then one_con p.kind else 0
