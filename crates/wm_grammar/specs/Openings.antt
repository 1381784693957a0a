-- The forms of commands that end in a text: their keywords, and the text.
use Rattle.std.specs.Prelude.{ℕ, ◌-◌, Bool, true, false, ◌||◌, ◌&&◌, if◌then◌else◌, List, [], ◌∷◌, ◌++◌, length, drop, Option, Some, None, codes, option_map}
use Rattle.wm_language.specs.declared.arguments.OutArg.TheVariants as outs
use Rattle.wm_language.specs.declared.arguments.Target.TheVariants as targets
use Rattle.wm_language.specs.declared.arguments.SwapArg.TheVariants as swaps
use Rattle.wm_language.specs.declared.command.Command.{Command}
use Rattle.wm_language.specs.declared.command.Command.TheVariants as commands
use Rattle.wm_words.specs.declared.verbs.Verb.{Verb}
use Rattle.wm_words.specs.declared.verbs.Verb.TheVariants as verbs
use Rattle.wm_grammar.specs.declared.opening.Opening.{Opening}
use Rattle.wm_grammar.specs.declared.opening.Opening.TheVariants as openings
use Rattle.wm_words.specs.Pieces.{◌>>=◌, first_of, is_nil, is_end, is_gap, breaks_word, starts, until, from, has, skip, trim_end, ends, word, after, says, is_word, argument, unquote}
use Rattle.wm_words.specs.Forms.{past_one_to, past_to, past_with, verb_of, plain_form}

-- ---- which keywords a text follows: each way to read them, with what comes after them

-- Where one may be read as the text of another, the one with more keywords stands first.
abbrev pub Opened : Type 0
Opened = List (Opening × List ℕ)

-- a workspace, of a number or of a name
unfoldable pub targets_opened : Opening → Opening → List ℕ → Opened
targets_opened numbered named r = if says r (codes "number") then (numbered, after r) ∷ (named, r) ∷ [] else (named, r) ∷ []

unfoldable pub focus_opened : List ℕ → Opened
focus_opened r = if says r (codes "output") then (openings.FocusOutput, after r) ∷ [] else []

-- behind move, container, window and to
unfoldable pub move_to_opened : List ℕ → Opened
move_to_opened r =
    if says r (codes "workspace") then targets_opened openings.MoveToNumbered openings.MoveToWorkspace (after r)
    else if says r (codes "output") then (openings.MoveToOutput, after r) ∷ []
    else if says r (codes "mark") then (openings.MoveToMark, after r) ∷ []
    else []

unfoldable pub move_opened : List ℕ → Opened
move_opened r =
    if says r (codes "workspace")
    then (if says (past_one_to (after r)) (codes "output") then (openings.MoveWorkspace, after (past_one_to (after r))) ∷ move_to_opened r else move_to_opened r)
    else move_to_opened (past_to r)

-- behind with
abbrev pub swap_with : Option (List ℕ) → Opened
swap_with None = []
swap_with (Some c) = if says c (codes "mark") then (openings.SwapMark, after c) ∷ [] else []

unfoldable pub swap_opened : List ℕ → Opened
swap_opened r = swap_with (past_with r)

-- the word --toggle or not, behind --add or not
unfoldable pub toggle_opened : Bool → List ℕ → Opened
toggle_opened add r =
    if says r (codes "--toggle") then (openings.Mark add true, after r) ∷ (openings.Mark add false, r) ∷ []
    else (openings.Mark add false, r) ∷ []

unfoldable pub mark_opened : List ℕ → Opened
mark_opened r =
    if says r (codes "--add") then toggle_opened true (after r) ++ (openings.Mark false false, r) ∷ []
    else if says r (codes "--replace") then toggle_opened false (after r) ++ (openings.Mark false false, r) ∷ []
    else toggle_opened false r

unfoldable pub rename_opened : List ℕ → Opened
rename_opened r =
    if says r (codes "workspace")
    then (if says (after r) (codes "to") then (openings.RenameFocused, after (after r)) ∷ (openings.RenameNamed, after r) ∷ [] else (openings.RenameNamed, after r) ∷ [])
    else []

unfoldable pub opened : Verb → List ℕ → Opened
opened verbs.Split r = []
opened verbs.Layout r = []
opened verbs.Focus r = focus_opened r
opened verbs.Move r = move_opened r
opened verbs.Swap r = swap_opened r
opened verbs.Resize r = []
opened verbs.Floating r = []
opened verbs.Fullscreen r = []
opened verbs.Border r = []
opened verbs.Gaps r = []
opened verbs.Sticky r = []
opened verbs.Mark r = mark_opened r
opened verbs.Unmark r = (openings.Unmark, r) ∷ []
opened verbs.Workspace r = targets_opened openings.WorkspaceNumbered openings.Workspace r
opened verbs.Rename r = rename_opened r
opened verbs.Scratchpad r = []
opened verbs.Mode r = (openings.Mode, r) ∷ []
opened verbs.AppendLayout r = (openings.AppendLayout, r) ∷ []
opened verbs.TitleFormat r = (openings.TitleFormat, r) ∷ []
opened verbs.Kill r = []
opened verbs.Nop r = (openings.Nop, r) ∷ []
opened verbs.Idle r = (openings.Idle, r) ∷ []
opened verbs.Exit r = []

-- ---- the text behind the keywords

-- the text is one word
abbrev pub is_one_word : Opening → Bool
is_one_word openings.FocusOutput = true
is_one_word openings.MoveToOutput = true
is_one_word openings.MoveWorkspace = true
is_one_word o = false

-- a quoted text and what follows it, where the command ends there
abbrev pub closed : List ℕ × List ℕ → Option (List ℕ × List ℕ)
closed x = if ends (skip x.1) then Some (x.0, skip x.1) else None

-- a text up to the end of the command, and what follows
abbrev pub bare : Bool → List ℕ → List ℕ → Option (List ℕ × List ℕ)
bare one_word x rest = if is_nil x || (one_word && has breaks_word x) then None else Some (x, rest)

-- the text of a command, quoted or not, and what follows: the end of the command
unfoldable pub text_at : Bool → List ℕ → Option (List ℕ × List ℕ)
text_at one_word s =
    if starts 34 s then unquote (drop 1 s) >>= closed
    else bare one_word (trim_end (until is_end s)) (from is_end s)

-- the command of its keywords and its argument
abbrev pub named : Opening → List ℕ → Option Command
named openings.FocusOutput n = Some (commands.FocusOutput (outs.Named n))
named openings.MoveToWorkspace n = Some (commands.MoveToWorkspace (targets.Named n))
named openings.MoveToNumbered n = Some (commands.MoveToWorkspace (targets.Number n))
named openings.MoveToOutput n = Some (commands.MoveToOutput (outs.Named n))
named openings.MoveWorkspace n = Some (commands.MoveWorkspace (outs.Named n))
named openings.MoveToMark n = Some (commands.MoveToMark n)
named openings.SwapMark n = Some (commands.Swap (swaps.Mark n))
named (openings.Mark add toggle) n = Some (commands.Mark add toggle n)
named openings.Unmark n = Some (commands.Unmark (Some n))
named openings.Workspace n = Some (commands.Workspace (targets.Named n))
named openings.WorkspaceNumbered n = Some (commands.Workspace (targets.Number n))
named openings.RenameFocused n = Some (commands.Rename None n)
named openings.RenameNamed n = None
named openings.Mode n = Some (commands.Mode n)
named openings.AppendLayout n = Some (commands.AppendLayout n)
named openings.TitleFormat n = Some (commands.TitleFormat n)
named openings.Nop n = Some commands.Nop
named openings.Idle n = Some commands.Idle

-- the command of its keywords and its text, which is an argument unless the command is not done
unfoldable pub made : Opening → List ℕ → Option Command
made openings.Idle x = Some commands.Idle
made o x = argument x >>= named o

-- ---- renaming a named workspace

-- a word, quoted or not, and what follows
unfoldable pub word_at : List ℕ → Option (List ℕ × List ℕ)
word_at s =
    if starts 34 s then unquote (drop 1 s)
    else if is_nil (until is_gap s) || has breaks_word (until is_gap s) then None
    else Some (until is_gap s, from is_gap s)

-- behind the word to, which stands first
unfoldable pub past_keyword_to : List ℕ → Option (List ℕ)
past_keyword_to s = if is_word (until is_gap s) (codes "to") then Some (skip (from is_gap s)) else None

-- a value, and what follows
abbrev pub before_rest : {A : Type 0} → List ℕ → A → A × List ℕ
before_rest rest c = (c, rest)

-- the command of both names
abbrev pub renaming : List ℕ → List ℕ → Option Command
renaming was name = argument was >>= λ a. argument name >>= λ b. Some (commands.Rename (Some a) b)

-- behind to: the new name
abbrev pub renamed_to : List ℕ → List ℕ → Option (Command × List ℕ)
renamed_to was s = do
  name ← text_at false s
  a ← argument was
  b ← argument name.0
  Some (commands.Rename (Some a) b, name.1)

-- the word of the old name, to, and the new name
unfoldable pub renamed : List ℕ → Option (Command × List ℕ)
renamed s = do
  was ← word_at s
  behind ← past_keyword_to (skip was.1)
  renamed_to was.0 behind

-- ---- commands

-- the command of its keywords and the text at s, and what follows
unfoldable pub finished : Opening → List ℕ → Option (Command × List ℕ)
finished openings.RenameNamed s = renamed s
finished o s = text_at (is_one_word o) s >>= λ x. option_map (before_rest x.1) (made o x.0)

-- the first of the ways to read the keywords whose text fits; raw is the text up to the command's first end
unfoldable pub first_finished : List ℕ → List ℕ → Opened → Option (Command × List ℕ)
first_finished text raw [] = None
first_finished text raw (o ∷ os) = first_of (finished o.0 (drop (length raw - length o.1) text)) (first_finished text raw os)

-- the command of a verb
unfoldable pub verb_command : List ℕ → List ℕ → List ℕ → Verb → Option (Command × List ℕ)
verb_command text raw rest verb = first_of (option_map (before_rest rest) (plain_form verb (after raw))) (first_finished text raw (opened verb (after raw)))

-- the command at the front of a text that begins with no blank, and what follows: the end of the command
unfoldable pub command_at : List ℕ → Option (Command × List ℕ)
command_at text = verb_of (word (until is_end text)) >>= verb_command text (until is_end text) (from is_end text)
