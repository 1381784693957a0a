-- A node with some of its parts put in their places.
use Rattle.wm_json.specs.declared.node_copies.Lists.{Lists}
use Rattle.wm_json.specs.declared.node_copies.Names.{Names}
use Rattle.wm_json.specs.declared.node_copies.Rows.{Rows}
use Rattle.wm_json.specs.declared.node_copies.Said.{Said}
use Rattle.wm_json.specs.declared.node_copies.Window.{Window}
use Rattle.wm_json.specs.declared.node_copies.Words.{Words}
use Rattle.wm_json.specs.declared.views.NodeView.{NodeView}
use Rattle.wm_json.specs.declared.views.NodeView.TheOpen.{NodeView-F}

abbrev pub with_names : Names → NodeView-F NodeView → NodeView-F NodeView
with_names names n = record n { name = names.name; output = names.output; current_workspace = names.current_workspace }

abbrev pub with_words : Words → NodeView-F NodeView → NodeView-F NodeView
with_words words n = record n { border = words.border; layout = words.layout; orientation = words.orientation; kind = words.kind }

abbrev pub with_lists : Lists → NodeView-F NodeView → NodeView-F NodeView
with_lists lists n = record n { focus = lists.focus; marks = lists.marks }

abbrev pub with_window : Window → NodeView-F NodeView → NodeView-F NodeView
with_window window n = record n { window_properties = window.properties; window_type = window.kind }

abbrev pub with_rows : Rows → NodeView-F NodeView → NodeView-F NodeView
with_rows rows n = record n { nodes = rows.nodes; floating_nodes = rows.floating }

-- all that a node says of itself
abbrev pub with_said : Said → NodeView-F NodeView → NodeView-F NodeView
with_said said n = with_lists said.lists (with_words said.words (with_names said.names n))
