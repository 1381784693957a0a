-- Laws of marks.
use Rattle.std.specs.Prelude.{◌≡◌, ℕ, Bool, true, false, List, None, Some}
use Rattle.wm_base.specs.declared.ids.ConId.{ConId}
use Rattle.wm_focus.specs.Marks.{bears, given_mark, holder_of, unmark_all}
use Rattle.wm_forest.specs.Look.{same}
use Rattle.wm_tree.specs.Move.{marks_in}
use Rattle.wm_tree.specs.Sound.{IsSound}
use Rattle.wm_tree.specs.TreeValue.{TreeValue}

-- the container that is found has the mark, and where none is found none has it
abbrev pub FindsMarked : Type 0
FindsMarked = (n : List ℕ) (t : TreeValue) → IsSound t → ((c : ConId) → holder_of n t ≡ Some c → bears n (marks_in c t.nodes) ≡ true) × (holder_of n t ≡ None → (c : ConId) → bears n (marks_in c t.nodes) ≡ false)

-- after a mark is given to c no other container has it
abbrev pub NoOtherHasIt : Type 0
NoOtherHasIt = (c other : ConId) (n : List ℕ) (add : Bool) (t : TreeValue) → same other c ≡ false → bears n (marks_in other (given_mark c n add t).nodes) ≡ false

-- after all marks, or this one, are taken off all containers none is found that has it
abbrev pub NoneIsLeft : Type 0
NoneIsLeft = (n : List ℕ) (t : TreeValue) → (holder_of n (unmark_all None t) ≡ None) × (holder_of n (unmark_all (Some n) t) ≡ None)
