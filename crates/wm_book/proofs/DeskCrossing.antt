-- Desks, steps and recorded desks may go to other threads, and other threads may use them.
use denote.Param.Send.{IsSend, IsSync, sendable}
use Rattle.std.proofs.Crossing.{crosses}
use Rattle.std.proofs.MapsCrossing as maps
use Rattle.std.proofs.option.Option.TheSendSync as option
use Rattle.wm_base.proofs.geometry.Edges.TheSendSync as edges
use Rattle.wm_base.proofs.ids.Buffer.TheSendSync as buffer
use Rattle.wm_base.proofs.ids.ConId.TheSendSync as con
use Rattle.wm_base.proofs.list.List.TheSendSync as list
use Rattle.wm_base.proofs.list.Str.TheSendSync as str
use Rattle.wm_base.proofs.plan.Border.TheSendSync as border
use Rattle.wm_base.proofs.plan.Layout.TheSendSync as layout
use Rattle.wm_base.proofs.plan.OutputPlan.TheSendSync as output
use Rattle.wm_base.proofs.properties.Props.TheSendSync as props
use Rattle.wm_base.proofs.text.Text.TheSendSync as text
use Rattle.wm_book.proofs.RegexCrossing.{prepared_send, prepared_sync}
use Rattle.wm_book.specs.contracts.entry.Entry as Entry
use Rattle.wm_book.specs.contracts.recorded.Recorded as Recorded
use Rattle.wm_core.below.circular_buffer.proofs.heap.HeapCircularBuffer.TheSendSync as buffers
use Rattle.wm_core.below.wm_ids.proofs.map.IdMap.TheSendSync as ids
use Rattle.wm_core.below.wm_kept.specs.contracts.kept.Kept as Kept
use Rattle.wm_core.below.wm_txn.proofs.txn.Txn.TheSendSync as txn
use Rattle.wm_history.proofs.client.ClientStep.TheSendSync as client
use Rattle.wm_core.specs.contracts.desk.Desk as Desk
use Rattle.wm_history.specs.contracts.step.Choice as Choice
use Rattle.wm_history.specs.contracts.step.Step as Step
use Rattle.wm_json.proofs.views.NodeView.TheLaws.TheKnot as node
use Rattle.wm_json.specs.contracts.views.EventBody as EventBody
use Rattle.wm_json.specs.contracts.views.EventView as EventView
use Rattle.wm_json.specs.contracts.views.NodeView as NodeView
use Rattle.wm_layouts.below.wm_saved.proofs.saved.SavedKind.TheLaws.TheKnot as saved
use Rattle.wm_layouts.below.wm_saved.specs.contracts.saved.SavedLayout as SavedLayout
use Rattle.wm_layouts.below.wm_saved.specs.contracts.saved.SavedNode as SavedNode
use Rattle.wm_layouts.specs.contracts.plan.Env as Env
use Rattle.wm_layouts.specs.contracts.plan.Plan as Plan
use Rattle.wm_tree.below.wm_forest.proofs.part.Part.TheSendSync as part
use Rattle.wm_tree.below.wm_forest.proofs.part.Swallow.TheSendSync as swallow
use Rattle.wm_tree.below.wm_forest.proofs.row.Row.TheLaws.TheKnot as row
use Rattle.wm_tree.below.wm_forest.specs.contracts.row.Cell as Cell
use Rattle.wm_tree.below.wm_forest.specs.contracts.row.Row as Row
use Rattle.wm_tree.specs.contracts.tree.Tree as Tree

-- the types of which it is known
ruleset known = (option.the_field_send, option.the_field_sync, edges.the_field_send, edges.the_field_sync, buffer.the_field_send, buffer.the_field_sync, con.the_field_send, con.the_field_sync, border.the_field_send, border.the_field_sync, output.the_field_send, output.the_field_sync, props.the_field_send, props.the_field_sync, part.the_field_send, part.the_field_sync, layout.the_field_send, layout.the_field_sync, swallow.the_field_send, swallow.the_field_sync, client.the_field_send, client.the_field_sync, text.the_send, text.the_sync, list.the_send, list.the_sync, str.the_send, str.the_sync, ids.the_send, ids.the_sync, buffers.the_send, buffers.the_sync, txn.the_send, txn.the_sync, maps.crosses, sendable, crosses)

-- a row of nodes, which holds itself
row_send : IsSend (Row.the_field).row
row_send = search (row.send-Row, known) depth 20

row_sync : IsSync (Row.the_field).row
row_sync = search (row.sync-Row, known) depth 20

cell_send : IsSend (Cell.the_field).row
cell_send = search (row.send-Cell, part.the_field_send, row_send) depth 6

cell_sync : IsSync (Cell.the_field).row
cell_sync = search (row.sync-Cell, part.the_field_sync, row_sync) depth 6

tree_send : IsSend Tree.the_row
tree_send = search (row_send, cell_send, known) depth 20

tree_sync : IsSync Tree.the_row
tree_sync = search (row_sync, cell_sync, known) depth 20

-- a saved container, which holds others, and the plan with its layouts
saved_send : IsSend (SavedNode.the_field).row
saved_send = search (saved.send-SavedNode, known) depth 20

saved_sync : IsSync (SavedNode.the_field).row
saved_sync = search (saved.sync-SavedNode, known) depth 20

layout_send : IsSend (SavedLayout.the_field).row
layout_send = search (saved_send, known) depth 20

layout_sync : IsSync (SavedLayout.the_field).row
layout_sync = search (saved_sync, known) depth 20

env_send : IsSend (Env.the_field).row
env_send = search (layout_send, known) depth 20

env_sync : IsSync (Env.the_field).row
env_sync = search (layout_sync, known) depth 20

plan_send : IsSend (Plan.the_field).row
plan_send = search (env_send, known) depth 20

plan_sync : IsSync (Plan.the_field).row
plan_sync = search (env_sync, known) depth 20

-- a node that is seen, which holds others
node_send : IsSend (NodeView.the_field).row
node_send = search (node.send-NodeView, known) depth 20

node_sync : IsSync (NodeView.the_field).row
node_sync = search (node.sync-NodeView, known) depth 20

body_send : IsSend (EventBody.the_field).row
body_send = search (node_send, known) depth 20

body_sync : IsSync (EventBody.the_field).row
body_sync = search (node_sync, known) depth 20

event_send : IsSend (EventView.the_field).row
event_send = search (body_send, known) depth 20

event_sync : IsSync (EventView.the_field).row
event_sync = search (body_sync, known) depth 20

kept_send : IsSend Kept.the_row
kept_send = search (event_send, known) depth 20

kept_sync : IsSync Kept.the_row
kept_sync = search (event_sync, known) depth 20

pub desk_send : IsSend Desk.the_row
desk_send = search (tree_send, kept_send, plan_send, known) depth 20

pub desk_sync : IsSync Desk.the_row
desk_sync = search (tree_sync, kept_sync, plan_sync, known) depth 20

choice_send : IsSend (Choice.the_field).row
choice_send = search (prepared_send, known) depth 20

choice_sync : IsSync (Choice.the_field).row
choice_sync = search (prepared_sync, known) depth 20

step_send : IsSend (Step.the_field).row
step_send = search (prepared_send, choice_send, known) depth 20

step_sync : IsSync (Step.the_field).row
step_sync = search (prepared_sync, choice_sync, known) depth 20

entry_send : IsSend (Entry.the_field).row
entry_send = search (step_send, known) depth 20

pub recorded_send : IsSend Recorded.the_row
recorded_send = search (desk_send, entry_send, known) depth 20

entry_sync : IsSync (Entry.the_field).row
entry_sync = search (step_sync, known) depth 20

pub recorded_sync : IsSync Recorded.the_row
recorded_sync = search (desk_sync, entry_sync, known) depth 20
