-- The names of events, and those that a client asks to be told of.
use Rattle.std.specs.Prelude.{ℕ, Bool, false, ◌||◌, List, Option, option_and_then, codes}
use Rattle.std.specs.Str.{bytes_eq}
use Rattle.serde_json.specs.Data.{Data, null, boolean, number, string, array, object, Items, no_items, item}
use Rattle.serde_json.specs.Read.{read}
use Rattle.wm_talk.specs.Calls.{text_of}
use Rattle.wm_talk.specs.declared.names.Names.{Names}

-- the value that a payload is the JSON of, where it is JSON
abbrev pub value_of : List ℕ → Option Data
value_of payload = option_and_then read (text_of payload)

-- the value is the text of this name
abbrev pub is_named : List ℕ → Data → Bool
is_named name null = false
is_named name (boolean b) = false
is_named name (number n) = false
is_named name (string text) = bytes_eq text name
is_named name (array items) = false
is_named name (object fields) = false

-- one of the items is the text of this name
abbrev pub has_name : List ℕ → Items → Bool
has_name name no_items = false
has_name name (item value items) = is_named name value || has_name name items

-- the value is an array with the text of this name in it
abbrev pub asks : List ℕ → Data → Bool
asks name null = false
asks name (boolean b) = false
asks name (number n) = false
asks name (string text) = false
asks name (array items) = has_name name items
asks name (object fields) = false

-- the names of events that a value asks for; all else in it is passed over
abbrev pub names_in : Data → Names
names_in value = record {
  workspace = asks (codes "workspace") value;
  output = asks (codes "output") value;
  mode = asks (codes "mode") value;
  window = asks (codes "window") value;
  bars = asks (codes "barconfig_update") value;
  binding = asks (codes "binding") value;
  shutdown = asks (codes "shutdown") value;
  tick = asks (codes "tick") value;
}
