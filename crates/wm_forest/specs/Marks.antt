-- Changes of a node's marks.
use Rattle.std.specs.Prelude.{ℕ, List, [], filter, not, Option, None, Some}
use Rattle.std.specs.Str.{bytes_eq}
use Rattle.wm_forest.specs.declared.part.Part.{Part}
use Rattle.wm_forest.specs.Forest.{Forest, con}

-- other marks of a node
abbrev pub marks_word : List (List ℕ) → Part → Forest → Forest → Forest → Forest
marks_word marks part kids floats rest = con (record part { marks = marks }) kids floats rest

-- marks without this one
abbrev pub other_marks : List ℕ → List (List ℕ) → List (List ℕ)
other_marks n marks = filter (λ m. not (bytes_eq m n)) marks

-- the node c without the mark
abbrev pub unmark_word : List ℕ → Part → Forest → Forest → Forest → Forest
unmark_word n part kids floats rest = con (record part { marks = other_marks n part.marks }) kids floats rest

-- of the marks this one alone
abbrev pub that_mark : List ℕ → List (List ℕ) → List (List ℕ)
that_mark n marks = filter (λ m. bytes_eq m n) marks

-- of the marks the given one alone, or none
abbrev pub only_mark : Option (List ℕ) → List (List ℕ) → List (List ℕ)
only_mark None marks = []
only_mark (Some n) marks = that_mark n marks

-- the node with that mark alone, where it has it, or with none
abbrev pub keep_word : Option (List ℕ) → Part → Forest → Forest → Forest → Forest
keep_word kept part kids floats rest = con (record part { marks = only_mark kept part.marks }) kids floats rest
