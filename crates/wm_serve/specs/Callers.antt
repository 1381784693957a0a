-- What the callers and the clients of a rehearsal do.
use Rattle.std.specs.Prelude.{ℕ, ◌-◌, ◌*◌, ◌==◌, ◌%◌, nat_lt, if◌then◌else◌, List, [], ◌∷◌, ◌++◌, map, codes}
use Rattle.std.specs.List.{flat_map}
use Rattle.wm_frames.specs.Frame.{frame}
use Rattle.wm_frames.specs.declared.message.Message.{Message}
use Rattle.wm_habits.specs.Acting.{opening}
use Rattle.wm_habits.specs.Speaking.{beginning}
use Rattle.wm_habits.specs.declared.habit.Habit.{Habit}
use Rattle.wm_habits.specs.declared.habit.Habit.TheVariants as habit
use Rattle.wm_serve.specs.Once.{OnceState, fresh}
use Rattle.wm_serve.specs.Running.{numbers}
use Rattle.wm_serve.specs.declared.rehearsed.RehearsedLink.{RehearsedLink}
use Rattle.wm_serve.specs.declared.rehearsed.RehearsedLink.TheVariants as link

-- ---- callers

-- the last of the eight commands of the caller of this number
abbrev pub last_command : ℕ → List ℕ
last_command i =
    if i % 4 == 0 then codes "workspace number 1" else if i % 4 == 1 then codes "workspace number 2" else if i % 4 == 2 then codes "workspace number 3" else codes "workspace number 4"

-- its commands, in their order
abbrev pub commands : ℕ → List (List ℕ)
commands i =
    codes "split toggle" ∷ codes "layout toggle all" ∷ codes "focus left" ∷ codes "focus right" ∷ codes "move left" ∷ codes "move right"
    ∷ codes "floating toggle" ∷ last_command i ∷ []

-- `exit`, where it is the first caller
abbrev pub last_text : ℕ → List (List ℕ)
last_text i = if i == 0 then codes "exit" ∷ [] else []

-- the texts that it sends: its commands twice, and then `exit` where it is the first caller
abbrev pub texts : ℕ → List (List ℕ)
texts i = commands i ++ (commands i ++ last_text i)

-- the message that runs a text
abbrev pub running : List ℕ → Message
running text = record { kind = 0; payload = text }

-- the bytes of the messages that run texts
unfoldable pub bytes_of : List (List ℕ) → List ℕ
bytes_of texts = flat_map frame (map running texts)

-- the link of the caller: it gives its messages, and has room for 65,536 bytes
abbrev pub caller_link : ℕ → RehearsedLink
caller_link i =
    link.Caller (record { left = bytes_of (texts i); sent = []; room = 65536; fails = []; quiet = []; calls = 0; turns = 0; faults = 0 })

-- ---- clients

-- the habit of the client of this number
abbrev pub habit_of : ℕ → Habit
habit_of i = if i % 4 == 0 then habit.AtOnce else if i % 4 == 1 then habit.Late 2 else if i % 4 == 2 then habit.Never else habit.Wrong

-- its link: the client begins by opening a window
abbrev pub client_link : ℕ → RehearsedLink
client_link i = link.Client (beginning (opening (habit_of i)) (codes "map 0000ff 640x480 class=\"c\""))

-- ---- listeners

-- the link at the door of this number: those of n callers come first, then those of n clients
abbrev pub link_at : ℕ → ℕ → RehearsedLink
link_at n door = if nat_lt door n then caller_link door else client_link (door - n)

-- the listeners of n callers and n clients, each with its link
abbrev pub doors_of : ℕ → List OnceState
doors_of n = map fresh (map (link_at n) (numbers 0 (2 * n)))
