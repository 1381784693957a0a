-- The layout that a layout file describes, or its first fault. The fields of an object are looked at in the byte order of their keys.
use Rattle.std.specs.Prelude.{ℕ, suc, if◌then◌else◌, List, [], ◌∷◌, None, Ok, codes, decimal}
use Rattle.std.specs.Str.{bytes_eq}
use Rattle.serde_json.specs.Data.{Data, null, boolean, number, string, array, object, Items, no_items, item, Members, no_members, member}
use Rattle.wm_base.specs.declared.plan.Layout.{Layout}
use Rattle.wm_forest.specs.declared.part.Swallow.{Swallow}
use Rattle.wm_saved.specs.Answers.{Answer, ◌>>=◌, below, or_bad}
use Rattle.wm_saved.specs.Fields.{border_of, layout_of, marks_of, name_of, type_of}
use Rattle.wm_saved.specs.Swallows.{swallows_of}
use Rattle.wm_saved.specs.declared.reading.Head.{Head}
use Rattle.wm_saved.specs.declared.saved.SavedKind.{SavedKind}
use Rattle.wm_saved.specs.declared.saved.SavedKind.TheVariants.{Split, Placeholder}
use Rattle.wm_saved.specs.declared.saved.SavedNode.{SavedNode}

-- a split where it has nodes, else a placeholder with its name and with what it swallows
abbrev pub kind_of : Layout → List ℕ → List Swallow → List SavedNode → SavedKind
kind_of layout name swallows [] = Placeholder name swallows
kind_of layout name swallows (n ∷ ns) = Split layout (n ∷ ns)

-- what an object says before its nodes
abbrev pub head_of : List ℕ → Data → Answer Head
head_of path d =
    border_of path d
    >>= λ border. layout_of path d
    >>= λ layout. marks_of path d
    >>= λ marks. name_of path d
    >>= λ name. Ok (record { border = border; layout = layout; marks = marks; name = name })

-- what it says behind them: what it swallows, and its type
abbrev pub tail_of : List ℕ → Data → Answer (List Swallow)
tail_of path d = swallows_of path d >>= λ swallows. type_of path d >>= λ con. Ok swallows

-- the container that says this of itself
abbrev pub with_head : Head → List SavedNode → List Swallow → SavedNode
with_head h nodes swallows = record { border = h.border; marks = h.marks; kind = kind_of h.layout h.name swallows nodes }

abbrev pub finished : List ℕ → Data → Head → List SavedNode → Answer SavedNode
finished path d h nodes = tail_of path d >>= λ swallows. Ok (with_head h nodes swallows)

-- the container that an object describes whose nodes are these; keys that are not named here are passed over
abbrev pub container : List ℕ → Data → Answer (List SavedNode) → Answer SavedNode
container path d children = head_of path d >>= λ head. children >>= finished path d head

abbrev mutual
  -- an object is a container; anything else is at fault
  pub node_at : List ℕ → Data → Answer SavedNode
  node_at path null = or_bad path None
  node_at path (boolean b) = or_bad path None
  node_at path (number n) = or_bad path None
  node_at path (string s) = or_bad path None
  node_at path (array ds) = or_bad path None
  node_at path (object ms) = container path (object ms) (nodes_in path ms)

  -- the nodes of an object: those of its field nodes, none where it is missing
  pub nodes_in : List ℕ → Members → Answer (List SavedNode)
  nodes_in path no_members = Ok []
  nodes_in path (member k d ms) = if bytes_eq k (codes "nodes") then trees_at (below path k) d else nodes_in path ms

  -- an array of nodes; anything else is at fault
  pub trees_at : List ℕ → Data → Answer (List SavedNode)
  trees_at path null = or_bad path None
  trees_at path (boolean b) = or_bad path None
  trees_at path (number n) = or_bad path None
  trees_at path (string s) = or_bad path None
  trees_at path (array ds) = nodes_from path 0 ds
  trees_at path (object ms) = or_bad path None

  -- the nodes of an array from the place i on
  pub nodes_from : List ℕ → ℕ → Items → Answer (List SavedNode)
  nodes_from path i no_items = Ok []
  nodes_from path i (item d ds) = node_at (below path (decimal i)) d >>= λ n. nodes_from path (suc i) ds >>= λ ns. Ok (n ∷ ns)
