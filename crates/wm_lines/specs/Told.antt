-- The lines that tell answers, what is asked of windows, and how far a desk is.
use Rattle.std.specs.Prelude.{ℕ, List, ◌++◌, codes}
use Rattle.std.specs.Fmt.{decimal}
use Rattle.wm_base.specs.declared.geometry.Size.{Size}
use Rattle.wm_base.specs.ErrorText.{word_of}
use Rattle.wm_history.specs.declared.step.Answer.{Answer}
use Rattle.wm_history.specs.declared.step.Answer.TheVariants as answers
use Rattle.wm_history.specs.declared.state.State.{State}
use Rattle.wm_history.specs.declared.state.Want.{Want}
use Rattle.wm_history.specs.declared.state.Want.TheVariants as want
use Rattle.wm_json.specs.Replies.{replies_text}
use Rattle.wm_paint.specs.FrameText.{new_line}

-- the line that tells an answer
abbrev pub answer_text : Answer → List ℕ
answer_text answers.Done = codes "ok" ++ new_line
answer_text (answers.Mapped id) = codes "ok " ++ (decimal id.0 ++ new_line)
answer_text (answers.Replies replies) = replies_text replies ++ new_line
answer_text answers.Unbound = codes "unbound" ++ new_line
answer_text answers.NoView = codes "no-view" ++ new_line
answer_text answers.Empty = codes "empty" ++ new_line
answer_text (answers.BadSerial asked last) = codes "bad-serial " ++ (decimal asked ++ (codes " " ++ (decimal last ++ new_line)))
answer_text (answers.Full limit) = codes "full " ++ (word_of limit ++ new_line)
answer_text answers.NameTaken = codes "name-taken" ++ new_line
answer_text answers.NoTarget = codes "no-target" ++ new_line
answer_text answers.BadRect = codes "bad-rect" ++ new_line

-- a size as `400x300`
abbrev pub size_text : Size → List ℕ
size_text size = decimal size.w ++ (codes "x" ++ decimal size.h)

-- the line of what is asked of a window
abbrev pub want_text : Want → List ℕ
want_text (want.Configure con serial size) = codes "configure " ++ (decimal con.0 ++ (codes " " ++ (decimal serial ++ (codes " " ++ (size_text size ++ new_line)))))
want_text (want.Kill con number) = codes "kill " ++ (decimal con.0 ++ (codes " " ++ (decimal number ++ new_line)))

-- how many steps there are, how many transactions have ended, how many steps had come when the last of them began, and how
-- many windows are open, a line each
abbrev pub state_text : State → List ℕ
state_text s =
    codes "steps " ++ decimal s.steps ++ codes "\ndone " ++ decimal s.done ++ codes "\nprefix " ++ decimal s.prefix ++ codes "\nwindows " ++ decimal s.windows ++ codes "\n"
