-- The summary of a history.
use Rattle.std.specs.Prelude.{ℕ, List, ◌++◌, codes}
use Rattle.wm_history.specs.History.{History, Start}
use Rattle.wm_history.specs.Look.{look, state}
use Rattle.wm_history.specs.declared.look.Query.TheVariants as query
use Rattle.wm_lines.specs.Told.{state_text}
use Rattle.wm_talk.specs.Told.{view_json}

-- the lines of how far the history is, and the tree as a line of JSON
abbrev pub summary : Start → History → List ℕ
summary start history = state_text (state start history) ++ (view_json (look start history 0 query.Tree) ++ codes "\n")
