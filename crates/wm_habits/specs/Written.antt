-- The lines by which a server asks something of a window.
use Rattle.std.specs.Prelude.{ℕ, List, ◌++◌, codes}
use Rattle.std.specs.Fmt.{decimal}
use Rattle.wm_base.specs.declared.geometry.Size.{Size}
use Rattle.wm_base.specs.declared.ids.Buffer.{Buffer}
use Rattle.wm_base.specs.declared.ids.ConId.{ConId}
use Rattle.wm_habits.specs.Saying.{size_text}

-- a window is to have another size
abbrev pub configure_text : ConId → ℕ → Size → List ℕ
configure_text con serial size = codes "configure " ++ (decimal con.0 ++ (codes " " ++ (decimal serial ++ (codes " " ++ size_text size))))

-- a window is to close
abbrev pub kill_text : ConId → ℕ → List ℕ
kill_text con number = codes "kill " ++ (decimal con.0 ++ (codes " " ++ decimal number))

-- a blue buffer
abbrev pub blue : Size → Buffer
blue size = record { ink = record { 0 = 255 }; size = size }
