-- What the tool draws for a script: the picture of the last frame.
use Rattle.std.specs.Prelude.{ℕ, List, [], Result, Ok, Err}
use Rattle.wm_binds.specs.declared.config.Bind.{Bind}
use Rattle.wm_history.specs.Frame.{frame}
use Rattle.wm_history.specs.History.{History, Start, opening_of}
use Rattle.wm_history.specs.Screen.{screen}
use Rattle.wm_paint.specs.CanvasValue.{drawn, ppm}
use Rattle.wm_script.specs.Out.{history_from}
use Rattle.wm_script.specs.Script.{script}
use Rattle.wm_script.specs.declared.line.Line.{Line}
use Rattle.wm_script.specs.declared.refused.Refused.{Refused}
use Rattle.wm_script.specs.declared.script.Script.{Script}

-- the picture of the frame over the first output, as a portable pixmap
abbrev pub picture : Start → History → List ℕ
picture start history = ppm (drawn (screen start history) (frame start history).quads)

-- what is drawn for the lines after a history
abbrev pub drawn_from : Start → List Bind → List Line → List Refused → History → List ℕ
drawn_from start binds lines refused history = picture start (history_from start binds lines refused history)

-- what is drawn for a script
abbrev pub script_drawn : Script → List Refused → List ℕ
script_drawn s refused = drawn_from (opening_of s.plan) s.binds s.lines refused []

abbrev pub drawn_of : Result Script ℕ → List Refused → List ℕ
drawn_of (Ok s) refused = script_drawn s refused
drawn_of (Err line) refused = []

-- what is drawn for the bytes of a script; nothing where a line is outside the grammar
abbrev pub out_draw : List ℕ → List Refused → List ℕ
out_draw bytes refused = drawn_of (script bytes) refused
