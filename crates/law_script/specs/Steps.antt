-- The lines that take steps and run no text, a case each.
use Rattle.std.specs.Prelude.{◌≡◌, ℕ, Bool, true, false, List, [], ◌∷◌, None, codes}
use Rattle.wm_base.specs.declared.geometry.Edges.{Edges}
use Rattle.wm_base.specs.declared.ids.Buffer.{Buffer}
use Rattle.wm_base.specs.declared.plan.OutputPlan.{OutputPlan}
use Rattle.wm_base.specs.declared.properties.Props.{Props}
use Rattle.wm_history.specs.declared.client.ClientStep.TheVariants.{Ack, Buffer as Give, Deadline}
use Rattle.wm_history.specs.declared.step.Step.{Step}
use Rattle.wm_history.specs.declared.step.Step.TheVariants.{Map, Retitle, Urgent, Close, Gone, Client, Tick, OutputAdd, OutputRemove, Reserve}
use Rattle.law_script.specs.Pieces.{AreOnce, AreProperties, AreProps, AreWords, IsId, IsInk, IsLong, IsName, IsPlace, IsQuoted, IsShort, IsSize, IsWidth, Property}

-- ---- windows

-- `map INK WxH` and properties, each at most once, in any order
pub record SaysMap (text : List ℕ) (props : Props) (buffer : Buffer) : Type 0 where
  pub ink : List ℕ
  pub size : List ℕ
  pub properties : List (List ℕ)
  pub given : List Property
  pub words : AreWords (codes "map" ∷ ink ∷ size ∷ properties) text
  pub is_ink : IsInk ink buffer.ink.0
  pub is_size : IsSize size buffer.size.w buffer.size.h
  pub are_properties : AreProperties properties given
  pub once : AreOnce given
  pub are_props : AreProps given props

-- `title ID "T"`
pub record SaysTitle (text : List ℕ) (con : ℕ) (title : List ℕ) : Type 0 where
  pub id : List ℕ
  pub quoted : List ℕ
  pub words : AreWords (codes "title" ∷ id ∷ quoted ∷ []) text
  pub is_id : IsId id con
  pub is_quoted : IsShort quoted title

-- `on` or `off`
abbrev pub switch : Bool → List ℕ
switch true = codes "on"
switch false = codes "off"

-- `urgent ID on` or `urgent ID off`
pub record SaysUrgent (text : List ℕ) (con : ℕ) (on : Bool) : Type 0 where
  pub id : List ℕ
  pub words : AreWords (codes "urgent" ∷ id ∷ switch on ∷ []) text
  pub is_id : IsId id con

-- `close ID`
pub record SaysClose (text : List ℕ) (con : ℕ) : Type 0 where
  pub id : List ℕ
  pub words : AreWords (codes "close" ∷ id ∷ []) text
  pub is_id : IsId id con

-- `gone`
abbrev pub SaysGone : List ℕ → Type 0
SaysGone text = AreWords (codes "gone" ∷ []) text

-- ---- clients and the timer

-- `ack ID SERIAL`
pub record SaysAck (text : List ℕ) (con n : ℕ) : Type 0 where
  pub id : List ℕ
  pub serial : List ℕ
  pub words : AreWords (codes "ack" ∷ id ∷ serial ∷ []) text
  pub is_id : IsId id con
  pub is_serial : IsLong serial n

-- `buffer ID INK WxH`
pub record SaysBuffer (text : List ℕ) (con : ℕ) (buffer : Buffer) : Type 0 where
  pub id : List ℕ
  pub ink : List ℕ
  pub size : List ℕ
  pub words : AreWords (codes "buffer" ∷ id ∷ ink ∷ size ∷ []) text
  pub is_id : IsId id con
  pub is_ink : IsInk ink buffer.ink.0
  pub is_size : IsSize size buffer.size.w buffer.size.h

-- `deadline NUMBER`
pub record SaysDeadline (text : List ℕ) (n : ℕ) : Type 0 where
  pub number : List ℕ
  pub words : AreWords (codes "deadline" ∷ number ∷ []) text
  pub is_number : IsLong number n

-- ---- outputs, and what all are told

-- nothing is reserved
pub record AreNoEdges (edges : Edges) : Type 0 where
  pub top : edges.top ≡ 0
  pub right : edges.right ≡ 0
  pub bottom : edges.bottom ≡ 0
  pub left : edges.left ≡ 0

-- this word, and `NAME X,Y WxH`: an output of which nothing is reserved
pub record SaysOutput (word : List ℕ) (text : List ℕ) (o : OutputPlan) : Type 0 where
  pub name : List ℕ
  pub place : List ℕ
  pub size : List ℕ
  pub words : AreWords (word ∷ name ∷ place ∷ size ∷ []) text
  pub is_name : IsName name o.name
  pub is_place : IsPlace place o.rect.x o.rect.y
  pub is_size : IsSize size o.rect.w o.rect.h
  pub reserved : AreNoEdges o.reserved

-- `output-add NAME X,Y WxH`
abbrev pub SaysAdded : List ℕ → OutputPlan → Type 0
SaysAdded text o = SaysOutput (codes "output-add") text o

-- `output-remove NAME`
pub record SaysRemoved (text said : List ℕ) : Type 0 where
  pub name : List ℕ
  pub words : AreWords (codes "output-remove" ∷ name ∷ []) text
  pub is_name : IsName name said

-- `reserve NAME TOP RIGHT BOTTOM LEFT`
pub record SaysReserve (text said : List ℕ) (edges : Edges) : Type 0 where
  pub name : List ℕ
  pub top : List ℕ
  pub right : List ℕ
  pub bottom : List ℕ
  pub left : List ℕ
  pub words : AreWords (codes "reserve" ∷ name ∷ top ∷ right ∷ bottom ∷ left ∷ []) text
  pub is_name : IsName name said
  pub is_top : IsWidth top edges.top
  pub is_right : IsWidth right edges.right
  pub is_bottom : IsWidth bottom edges.bottom
  pub is_left : IsWidth left edges.left

-- `tick "T"`, with a text of at most 4,096 bytes
pub record SaysTick (text said : List ℕ) : Type 0 where
  pub quoted : List ℕ
  pub words : AreWords (codes "tick" ∷ quoted ∷ []) text
  pub is_quoted : IsQuoted 4096 quoted said

-- ---- all of them

-- the text is a line that takes this step; a step that runs a text has none here
abbrev pub SaysStep : List ℕ → Step → Type 0
SaysStep text (Map props buffer None) = SaysMap text props buffer
SaysStep text (Retitle con title) = SaysTitle text con.0 title
SaysStep text (Urgent con on) = SaysUrgent text con.0 on
SaysStep text (Close con) = SaysClose text con.0
SaysStep text Gone = SaysGone text
SaysStep text (Client (Ack con serial)) = SaysAck text con.0 serial
SaysStep text (Client (Give con buffer)) = SaysBuffer text con.0 buffer
SaysStep text (Client (Deadline number)) = SaysDeadline text number
SaysStep text (OutputAdd o) = SaysAdded text o
SaysStep text (OutputRemove name) = SaysRemoved text name
SaysStep text (Reserve name edges) = SaysReserve text name edges
SaysStep text (Tick said) = SaysTick text said
SaysStep text other = ⊥

-- a step that a client may take on its link: it opens, retitles or closes a window, says whether it is urgent, acknowledges a
-- configure, or gives a buffer
abbrev pub IsOfClient : Step → Type 0
IsOfClient (Map props buffer then) = Unit {0}
IsOfClient (Retitle con title) = Unit {0}
IsOfClient (Urgent con on) = Unit {0}
IsOfClient (Close con) = Unit {0}
IsOfClient (Client (Ack con serial)) = Unit {0}
IsOfClient (Client (Give con buffer)) = Unit {0}
IsOfClient other = ⊥

-- the text is a line that takes this step on a client's link
pub record SaysOfClient (text : List ℕ) (step : Step) : Type 0 where
  pub of_client : IsOfClient step
  pub says : SaysStep text step
