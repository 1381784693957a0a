-- Who has a mark, and giving it to one container alone.
use Rattle.std.specs.Prelude.{◌≡◌, ℕ, Bool, true, false, ◌&&◌, not, if◌then◌else◌, List, [], ◌∷◌, ◌++◌, Option, None, Some}
use Rattle.std.specs.List.{list_any}
use Rattle.std.specs.Option.{option_or}
use Rattle.std.specs.Str.{bytes_eq}
use Rattle.wm_base.specs.declared.errors.Limit.TheVariants.{Marks}
use Rattle.wm_base.specs.declared.ids.ConId.{ConId}
use Rattle.wm_forest.specs.declared.part.Part.{Part}
use Rattle.wm_forest.specs.Change.{is_id}
use Rattle.wm_forest.specs.Forest.{Forest, end, con}
use Rattle.wm_forest.specs.Look.{has}
pub use Rattle.wm_forest.specs.Marks.{only_mark, that_mark}
use Rattle.wm_forest.specs.Marks.{other_marks}
use Rattle.wm_tree.specs.declared.refusal.TreeRefusal.{TreeRefusal}
use Rattle.wm_tree.specs.declared.refusal.TreeRefusal.TheVariants as refusals
use Rattle.wm_tree.specs.Move.{is_full_of_marks, marks_in, with_marks}
use Rattle.wm_tree.specs.TreeValue.{TreeValue}

-- the mark is among the marks
abbrev pub bears : List ℕ → List (List ℕ) → Bool
bears n marks = list_any (λ m. bytes_eq m n) marks

-- the first node, depth first, that has the mark and is not the one to be kept
abbrev pub bearer : Option ConId → List ℕ → Forest → Option ConId
bearer keep n end = None
bearer keep n (con part kids floats rest) =
    if not (is_id part.id keep) && bears n part.marks then Some part.id
    else option_or (bearer keep n kids) (option_or (bearer keep n floats) (bearer keep n rest))

-- c has the mark
abbrev pub is_marked : ConId → List ℕ → TreeValue → Bool
is_marked c n t = bears n (marks_in c t.nodes)

-- ---- taking off

-- a node without the mark, unless it is to be kept
abbrev pub part_off : Option ConId → List ℕ → Part → Part
part_off keep n part = if is_id part.id keep then part else record part { marks = other_marks n part.marks }

-- the forest in which no node has the mark but the one to be kept
abbrev pub taken_off : Option ConId → List ℕ → Forest → Forest
taken_off keep n end = end
taken_off keep n (con part kids floats rest) = con (part_off keep n part) (taken_off keep n kids) (taken_off keep n floats) (taken_off keep n rest)

-- a node without marks
abbrev pub bare_part : Part → Part
bare_part part = record part { marks = [] }

-- the forest in which no node has a mark
abbrev pub bare : Forest → Forest
bare end = end
bare (con part kids floats rest) = con (bare_part part) (bare kids) (bare floats) (bare rest)

-- the tree in which no other container than c has the mark
abbrev pub freed : ConId → List ℕ → TreeValue → TreeValue
freed c n t = record t { nodes = taken_off (Some c) n t.nodes }

-- ---- giving

-- the marks with this one last where it is not among them
abbrev pub with_mark : List ℕ → List (List ℕ) → List (List ℕ)
with_mark n marks = if bears n marks then marks else marks ++ n ∷ []

-- the marks that stay beside a new one: all where it is added, else none
abbrev pub kept_marks : List ℕ → Bool → List (List ℕ) → List (List ℕ)
kept_marks n add marks = if add then marks else that_mark n marks

-- the marks that stay where another one comes in their place: all or none
abbrev pub all_or_none : Bool → List (List ℕ) → List (List ℕ)
all_or_none add marks = if add then marks else []

-- the tree in which no other container than c has the mark, and c keeps what stays beside it
abbrev pub cleared : ConId → List ℕ → Bool → TreeValue → TreeValue
cleared c n add t = freed c n (with_marks c (kept_marks n add (marks_in c t.nodes)) t)

-- no other container has the mark, and c has it last or where it had it
abbrev pub given_mark : ConId → List ℕ → Bool → TreeValue → TreeValue
given_mark c n add t = freed c n (with_marks c (with_mark n (kept_marks n add (marks_in c t.nodes))) t)

-- the mark passes a limit once it is off all others and c keeps what stays beside it
abbrev pub is_full_for : ConId → List ℕ → Bool → TreeValue → Bool
is_full_for c n add t = is_full_of_marks c (cleared c n add t).nodes

abbrev pub IsGivingCause : ConId → List ℕ → Bool → TreeValue → TreeRefusal → Type 0
IsGivingCause c n add t (refusals.Missing i) = (i ≡ c) × (has c t.nodes ≡ false)
IsGivingCause c n add t (refusals.Full limit) = (has c t.nodes ≡ true) × (is_full_for c n add t ≡ true) × (limit ≡ Marks)
IsGivingCause c n add t refusals.NoMemory = (has c t.nodes ≡ true) × (is_full_for c n add t ≡ false)
