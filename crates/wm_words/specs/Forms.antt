-- The forms of commands that have no text of their own: keywords and numbers alone.
use Rattle.std.specs.Prelude.{ℕ, Bool, true, false, ◌||◌, ◌&&◌, if◌then◌else◌, List, [], ◌∷◌, Option, Some, None, codes, option_map}
use Rattle.wm_base.specs.declared.geometry.Dir.{Dir}
use Rattle.wm_base.specs.declared.geometry.Dir.TheVariants as dirs
use Rattle.wm_base.specs.declared.plan.Border.TheVariants as borders
use Rattle.wm_language.specs.declared.arguments.SplitArg.{SplitArg}
use Rattle.wm_language.specs.declared.arguments.SplitArg.TheVariants as splits
use Rattle.wm_language.specs.declared.arguments.LayoutArg.{LayoutArg}
use Rattle.wm_language.specs.declared.arguments.LayoutArg.TheVariants as layouts
use Rattle.wm_language.specs.declared.arguments.Cycle.{Cycle}
use Rattle.wm_language.specs.declared.arguments.Cycle.TheVariants as cycles
use Rattle.wm_language.specs.declared.arguments.Kind.{Kind}
use Rattle.wm_language.specs.declared.arguments.Kind.TheVariants as kinds
use Rattle.wm_language.specs.declared.arguments.OnOff.{OnOff}
use Rattle.wm_language.specs.declared.arguments.OnOff.TheVariants as switches
use Rattle.wm_language.specs.declared.arguments.OutArg.{OutArg}
use Rattle.wm_language.specs.declared.arguments.OutArg.TheVariants as outs
use Rattle.wm_language.specs.declared.arguments.Target.{Target}
use Rattle.wm_language.specs.declared.arguments.Target.TheVariants as targets
use Rattle.wm_language.specs.declared.arguments.SwapArg.TheVariants as swaps
use Rattle.wm_language.specs.declared.arguments.Side.{Side}
use Rattle.wm_language.specs.declared.arguments.Side.TheVariants as sides
use Rattle.wm_language.specs.declared.arguments.GapOp.{GapOp}
use Rattle.wm_language.specs.declared.arguments.GapOp.TheVariants as ops
use Rattle.wm_language.specs.declared.command.Command.{Command}
use Rattle.wm_language.specs.declared.command.Command.TheVariants as commands
use Rattle.wm_words.specs.declared.verbs.Verb.{Verb}
use Rattle.wm_words.specs.declared.verbs.Verb.TheVariants as verbs
use Rattle.wm_words.specs.Pieces.{◌>>=◌, is_word, first_of, is_nil, word, after, says, choice, single, only, natural, integer, only_number}

-- ---- the words of each argument

abbrev pub dir_words : List (List ℕ × Dir)
dir_words = (codes "left", dirs.Left) ∷ (codes "right", dirs.Right) ∷ (codes "up", dirs.Up) ∷ (codes "down", dirs.Down) ∷ []

abbrev pub split_words : List (List ℕ × SplitArg)
split_words = (codes "h", splits.H) ∷ (codes "horizontal", splits.H) ∷ (codes "v", splits.V) ∷ (codes "vertical", splits.V) ∷ (codes "t", splits.Toggle) ∷ (codes "toggle", splits.Toggle) ∷ []

abbrev pub layout_words : List (List ℕ × LayoutArg)
layout_words = (codes "default", layouts.Default) ∷ (codes "splith", layouts.SplitH) ∷ (codes "splitv", layouts.SplitV) ∷ (codes "tabbed", layouts.Tabbed) ∷ (codes "stacking", layouts.Stacked) ∷ (codes "stacked", layouts.Stacked) ∷ []

abbrev pub cycle_words : List (List ℕ × Cycle)
cycle_words = (codes "split", cycles.Split) ∷ (codes "all", cycles.All) ∷ []

abbrev pub switch_words : List (List ℕ × OnOff)
switch_words = (codes "enable", switches.Enable) ∷ (codes "disable", switches.Disable) ∷ (codes "toggle", switches.Toggle) ∷ []

abbrev pub kind_words : List (List ℕ × Kind)
kind_words = (codes "floating", kinds.Floating) ∷ (codes "tiling", kinds.Tiling) ∷ (codes "mode_toggle", kinds.Toggle) ∷ []

abbrev pub op_words : List (List ℕ × GapOp)
op_words = (codes "set", ops.Set) ∷ (codes "plus", ops.Plus) ∷ (codes "minus", ops.Minus) ∷ []

-- which gaps: true is outer
abbrev pub gap_words : List (List ℕ × Bool)
gap_words = (codes "inner", false) ∷ (codes "outer", true) ∷ []

-- of which workspaces: true is all
abbrev pub scope_words : List (List ℕ × Bool)
scope_words = (codes "current", false) ∷ (codes "all", true) ∷ []

-- the side at which a window grows or shrinks
abbrev pub side_of : List ℕ → Option Side
side_of w = first_of (choice ((codes "width", sides.Width) ∷ (codes "height", sides.Height) ∷ []) w) (option_map sides.At (choice dir_words w))

-- an output by a keyword
abbrev pub output_of : List ℕ → Option OutArg
output_of w = first_of (choice ((codes "current", outs.Current) ∷ (codes "primary", outs.Primary) ∷ (codes "next", outs.Next) ∷ []) w) (option_map outs.At (choice dir_words w))

-- a workspace by a keyword
abbrev pub target_words : List (List ℕ × Target)
target_words = (codes "next", targets.Next) ∷ (codes "prev", targets.Prev) ∷ (codes "next_on_output", targets.NextOnOutput) ∷ (codes "prev_on_output", targets.PrevOnOutput) ∷ (codes "back_and_forth", targets.BackAndForth) ∷ []

-- one to which a container is moved: also the focused one
abbrev pub sent_words : List (List ℕ × Target)
sent_words = (codes "current", targets.Current) ∷ target_words

-- the first words of commands
abbrev pub tree_verbs : List (List ℕ × Verb)
tree_verbs = (codes "split", verbs.Split) ∷ (codes "layout", verbs.Layout) ∷ (codes "focus", verbs.Focus) ∷ (codes "move", verbs.Move) ∷ (codes "swap", verbs.Swap) ∷ (codes "resize", verbs.Resize) ∷ (codes "kill", verbs.Kill) ∷ (codes "mark", verbs.Mark) ∷ (codes "unmark", verbs.Unmark) ∷ []

abbrev pub window_verbs : List (List ℕ × Verb)
window_verbs = (codes "floating", verbs.Floating) ∷ (codes "fullscreen", verbs.Fullscreen) ∷ (codes "border", verbs.Border) ∷ (codes "gaps", verbs.Gaps) ∷ (codes "sticky", verbs.Sticky) ∷ (codes "title_format", verbs.TitleFormat) ∷ (codes "scratchpad", verbs.Scratchpad) ∷ []

abbrev pub desk_verbs : List (List ℕ × Verb)
desk_verbs = (codes "workspace", verbs.Workspace) ∷ (codes "rename", verbs.Rename) ∷ (codes "mode", verbs.Mode) ∷ (codes "append_layout", verbs.AppendLayout) ∷ (codes "nop", verbs.Nop) ∷ (codes "exec", verbs.Idle) ∷ (codes "open", verbs.Idle) ∷ (codes "reload", verbs.Idle) ∷ (codes "restart", verbs.Idle) ∷ (codes "exit", verbs.Exit) ∷ []

unfoldable pub verb_of : List ℕ → Option Verb
verb_of w = first_of (choice tree_verbs w) (first_of (choice window_verbs w) (choice desk_verbs w))

-- ---- optional words

-- without the word px, where it stands first
unfoldable pub past_px : List ℕ → List ℕ
past_px r = if says r (codes "px") then after r else r

-- without the words container or window, and then to, where they stand first
unfoldable pub past_to : List ℕ → List ℕ
past_to r = let c = if says r (codes "container") || says r (codes "window") then after r else r in if says c (codes "to") then after c else c

-- a whole command, where nothing more follows
abbrev pub whole : {A : Type 0} → List ℕ → A → Option A
whole r c = if is_nil r then Some c else None

-- ---- what follows the first word

unfoldable pub split_form : List ℕ → Option Command
split_form r = option_map commands.Split (only split_words r)

unfoldable pub layout_form : List ℕ → Option Command
layout_form r =
    if says r (codes "toggle")
    then option_map commands.CycleLayout (if is_nil (after r) then Some cycles.Bare else only cycle_words (after r))
    else option_map commands.SetLayout (only layout_words r)

-- an output by a keyword and nothing more
unfoldable pub only_output : List ℕ → Option OutArg
only_output r = single r >>= λ w. output_of w

-- what focus is told by one word
unfoldable pub focus_word : List ℕ → Option Command
focus_word w =
    if is_word w (codes "parent") then Some commands.FocusParent
    else if is_word w (codes "child") then Some commands.FocusChild
    else first_of (option_map commands.FocusKind (choice kind_words w)) (option_map commands.FocusDir (choice dir_words w))

unfoldable pub focus_form : List ℕ → Option Command
focus_form r =
    if is_nil r then Some commands.Focus
    else if says r (codes "output") then option_map commands.FocusOutput (only_output (after r))
    else if is_nil (after r) then focus_word (word r)
    else None

-- a direction, and the pixels behind it, 10 where there are none
unfoldable pub move_by : Dir → List ℕ → Option Command
move_by dir r =
    if is_nil r then Some (commands.MoveDir dir 10)
    else (natural (word r) >>= λ n. whole (past_px (after r)) (commands.MoveDir dir n))

unfoldable pub position_form : List ℕ → Option Command
position_form r =
    if says r (codes "center") then whole (after r) commands.MoveCenter
    else (integer (word r) >>= λ x. integer (word (past_px (after r))) >>= λ y. whole (past_px (after (past_px (after r)))) (commands.MovePosition x y))

-- behind move, container, window and to
unfoldable pub move_to_form : List ℕ → Option Command
move_to_form r =
    if says r (codes "workspace") then option_map commands.MoveToWorkspace (only sent_words (after r))
    else if says r (codes "output") then option_map commands.MoveToOutput (only_output (after r))
    else if says r (codes "scratchpad") then whole (after r) commands.MoveToScratchpad
    else if says r (codes "position") then position_form (after r)
    else None

-- without the word to, where it stands first
unfoldable pub past_one_to : List ℕ → List ℕ
past_one_to r = if says r (codes "to") then after r else r

-- behind move workspace
unfoldable pub move_workspace_form : List ℕ → Option Command
move_workspace_form r = if says (past_one_to r) (codes "output") then option_map commands.MoveWorkspace (only_output (after (past_one_to r))) else None

-- behind move, in a direction or not
abbrev pub move_in : Option Dir → List ℕ → Option Command
move_in (Some dir) r = move_by dir (after r)
move_in None r = if says r (codes "workspace") then first_of (move_workspace_form (after r)) (move_to_form r) else move_to_form (past_to r)

unfoldable pub move_form : List ℕ → Option Command
move_form r = move_in (choice dir_words (word r)) r

-- without the word container, where it stands first, and then with
unfoldable pub past_with : List ℕ → Option (List ℕ)
past_with r = let c = if says r (codes "container") then after r else r in if says c (codes "with") then Some (after c) else None

unfoldable pub swap_form : List ℕ → Option Command
swap_form r = past_with r >>= λ c.
    (if says c (codes "con_id") then option_map (λ n. commands.Swap (swaps.Con n)) (only_number (after c))
    else if says c (codes "id") then option_map (λ n. commands.Swap (swaps.Window n)) (only_number (after c))
    else None)

-- behind the pixels: hundredths, 0 where there are none
unfoldable pub hundredths : ℕ → List ℕ → Option (ℕ × ℕ)
hundredths px r =
    if is_nil r then Some (px, 0)
    else if says r (codes "or") then (natural (word (after r)) >>= λ ppt. (if says (after (after r)) (codes "ppt") then whole (after (after (after r))) (px, ppt) else None))
    else None

-- by how many pixels and hundredths
unfoldable pub amounts : List ℕ → Option (ℕ × ℕ)
amounts r =
    if is_nil r then Some (10, 10)
    else (natural (word r) >>= λ px. (if says (after r) (codes "px") then hundredths px (after (after r)) else None))

unfoldable pub resize_by : Bool → List ℕ → Option Command
resize_by grow r = side_of (word r) >>= λ side. option_map (λ n. commands.Resize grow side n.0 n.1) (amounts (after r))

unfoldable pub resize_set : List ℕ → Option Command
resize_set r = natural (word r) >>= λ w. natural (word (past_px (after r))) >>= λ h. whole (past_px (after (past_px (after r)))) (commands.ResizeSet w h)

unfoldable pub resize_form : List ℕ → Option Command
resize_form r =
    if says r (codes "set") then resize_set (after r)
    else if says r (codes "grow") then resize_by true (after r)
    else if says r (codes "shrink") then resize_by false (after r)
    else None

unfoldable pub fullscreen_form : List ℕ → Option Command
fullscreen_form r = if is_nil r then Some (commands.Fullscreen switches.Toggle) else option_map commands.Fullscreen (only switch_words r)

-- a border's width, 2 where none is given
unfoldable pub width_form : List ℕ → Option ℕ
width_form r = if is_nil r then Some 2 else only_number r

unfoldable pub border_form : List ℕ → Option Command
border_form r =
    if says r (codes "normal") then option_map (λ n. commands.SetBorder (borders.Normal n)) (width_form (after r))
    else if says r (codes "pixel") then option_map (λ n. commands.SetBorder (borders.Pixel n)) (width_form (after r))
    else if says r (codes "none") then whole (after r) (commands.SetBorder borders.Bare)
    else if says r (codes "toggle") then whole (after r) commands.CycleBorder
    else None

unfoldable pub gaps_form : List ℕ → Option Command
gaps_form r = choice gap_words (word r) >>= λ outer. choice scope_words (word (after r)) >>= λ all. choice op_words (word (after (after r))) >>= λ op. option_map (λ px. commands.Gaps outer all op px) (only_number (after (after (after r))))

unfoldable pub kill_form : List ℕ → Option Command
kill_form r = if is_nil r || (is_nil (after r) && (says r (codes "window") || says r (codes "client"))) then Some commands.Kill else None

unfoldable pub scratchpad_form : List ℕ → Option Command
scratchpad_form r = if says r (codes "show") then whole (after r) commands.ScratchpadShow else None

-- the command of a verb and what follows it, where it has no text
unfoldable pub plain_form : Verb → List ℕ → Option Command
plain_form verbs.Split r = split_form r
plain_form verbs.Layout r = layout_form r
plain_form verbs.Focus r = focus_form r
plain_form verbs.Move r = move_form r
plain_form verbs.Swap r = swap_form r
plain_form verbs.Resize r = resize_form r
plain_form verbs.Floating r = option_map commands.Floating (only switch_words r)
plain_form verbs.Fullscreen r = fullscreen_form r
plain_form verbs.Border r = border_form r
plain_form verbs.Gaps r = gaps_form r
plain_form verbs.Sticky r = option_map commands.Sticky (only switch_words r)
plain_form verbs.Mark r = None
plain_form verbs.Unmark r = whole r (commands.Unmark None)
plain_form verbs.Workspace r = option_map commands.Workspace (only target_words r)
plain_form verbs.Rename r = None
plain_form verbs.Scratchpad r = scratchpad_form r
plain_form verbs.Mode r = None
plain_form verbs.AppendLayout r = None
plain_form verbs.TitleFormat r = None
plain_form verbs.Kill r = kill_form r
plain_form verbs.Nop r = whole r commands.Nop
plain_form verbs.Idle r = whole r commands.Idle
plain_form verbs.Exit r = whole r commands.Exit
