-- What is read has a printed spelling: its texts are arguments, and its numbers fit.
use Rattle.std.proofs.Common.{◌≡◌, ℕ, zero, suc, ◌+◌, ◌-◌, ◌≤◌, Bool, true, false, List, [], ◌∷◌, ◌++◌, length, Option, Some, None, refl, sym, subst, ◌∙◌, append_assoc, arith, drop, ◌*◌, codes, ℤ}
use Rattle.std.specs.Prelude.{if◌then◌else◌, ◌==◌, ◌||◌, ◌&&◌, option_map, nat_le, nat_abs}
use Rattle.std.specs.Str.{is_utf8}
use Rattle.std.proofs.lemmas.Bool.{and_parts, leb-true, ltb-true}
use Rattle.std.proofs.Common.{lit<}
use Rattle.std.proofs.lemmas.List.{append-nil}
use Rattle.std.specs.Prelude.{nat_lt, not}
use Rattle.wm_base.specs.declared.geometry.Dir.{Dir}
use Rattle.wm_base.specs.declared.plan.Border.TheVariants as borders
use Rattle.wm_language.specs.declared.arguments.Cycle.TheVariants as cycles
use Rattle.wm_language.specs.declared.arguments.OnOff.TheVariants as switches
use Rattle.wm_language.specs.declared.arguments.OutArg.TheVariants as outs
use Rattle.wm_language.specs.declared.arguments.SwapArg.TheVariants as swaps
use Rattle.wm_language.specs.declared.arguments.Side.{Side}
use Rattle.wm_language.specs.declared.arguments.GapOp.{GapOp}
use Rattle.wm_language.specs.declared.command.Command.{Command}
use Rattle.wm_language.specs.declared.command.Command.TheVariants as commands
use Rattle.wm_words.specs.declared.verbs.Verb.{Verb}
use Rattle.wm_words.specs.declared.verbs.Verb.TheVariants as verbs
use Rattle.wm_grammar.specs.declared.opening.Opening.{Opening}
use Rattle.wm_grammar.specs.declared.opening.Opening.TheVariants as openings
use Rattle.wm_words.specs.Pieces.{◌>>=◌, first_of, is_nil, is_end, until, from, skip, word, after, is_word, says, choice, single, only, is_text, ends_name, starts, digit, digits_from, natural, integer, below_zero, above_zero, only_number, argument}
use Rattle.wm_words.specs.Forms.{move_in, side_of, split_words, layout_words, cycle_words, switch_words, kind_words, op_words, gap_words, scope_words, dir_words, sent_words, target_words, verb_of, plain_form, split_form, layout_form, whole, only_output, output_of, focus_word, focus_form, past_px, past_to, move_by, position_form, move_to_form, past_one_to, move_workspace_form, move_form, past_with, swap_form, hundredths, amounts, resize_by, resize_set, resize_form, fullscreen_form, width_form, border_form, gaps_form, kill_form, scratchpad_form}
use Rattle.wm_grammar.specs.Openings.{Opened, named, opened, finished, text_at, made, before_rest, renamed, word_at, past_keyword_to, command_at, verb_command, first_finished}
use Rattle.wm_language.specs.Words.{IsArgument}
use Rattle.wm_grammar.specs.Readable.{IsNumber, IsOutput, IsSentTo, IsShown, IsReadableCommand, IsReadableKey, AreNew, IsReadableCriteria, AreReadableCommands, IsReadableGroup, AreReadableGroups, IsReadable}
use Rattle.wm_language.specs.declared.batch.Key.{Key}
use Rattle.wm_language.specs.declared.batch.Key.TheVariants as keys
use Rattle.wm_grammar.specs.declared.keys.KeyName.{KeyName}
use Rattle.wm_grammar.specs.declared.keys.KeyName.TheVariants as names
use Rattle.wm_language.specs.declared.batch.Criteria.{Criteria}
use Rattle.wm_language.specs.declared.batch.Group.{Group}
use Rattle.wm_language.specs.declared.batch.Batch.{Batch}
use Rattle.wm_grammar.specs.Criteria.{key_of, value_at, valued_at, key_at, place_of, has_place, ends_key, closed_keys, and_keys, keys_at, criteria_at, flag_words, name_words, urgent_words}
use Rattle.wm_grammar.specs.Reading.{Commands, Groups, and_commands, before_commands, commands_at, criteria_of, criteria_part, group_of, group_at, and_groups, some_groups, groups_at, groups_of, batch_of, Reads}

-- ---- each value that is there

abbrev pub AllSome : {A : Type 0} → (A → Type 0) → Option A → Type 0
AllSome P None = Unit {0}
AllSome P (Some x) = P x

any_some : {A : Type 0} (o : Option A) → AllSome (λ (x : A). Unit {0}) o
any_some None = tt
any_some (Some x) = tt

bind_all : {A B : Type 0} (Q : A → Type 0) (P : B → Type 0) (o : Option A) (f : A → Option B) → AllSome Q o → ((x : A) → Q x → AllSome P (f x)) → AllSome P (o >>= f)
bind_all Q P None f h g = tt
bind_all Q P (Some x) f h g = g x h

map_all : {A B : Type 0} (Q : A → Type 0) (P : B → Type 0) (o : Option A) (f : A → B) → AllSome Q o → ((x : A) → Q x → P (f x)) → AllSome P (option_map f o)
map_all Q P None f h g = tt
map_all Q P (Some x) f h g = g x h

each_map : {A B : Type 0} (P : B → Type 0) (o : Option A) (f : A → B) → ((x : A) → P (f x)) → AllSome P (option_map f o)
each_map P None f g = tt
each_map P (Some x) f g = g x

first_all : {A : Type 0} (P : A → Type 0) (a b : Option A) → AllSome P a → AllSome P b → AllSome P (first_of a b)
first_all P None b h k = k
first_all P (Some x) b h k = h

if_all : {A : Type 0} (P : A → Type 0) (b : Bool) (x y : Option A) → AllSome P x → AllSome P y → AllSome P (if b then x else y)
if_all P true x y h k = h
if_all P false x y h k = k

whole_all : {A : Type 0} (P : A → Type 0) (r : List ℕ) (c : A) → P c → AllSome P (whole r c)
whole_all P r c h = if_all P (is_nil r) (Some c) None h tt

-- ---- numbers and arguments

digits_small : (w : List ℕ) (n : ℕ) → IsNumber n → AllSome IsNumber (digits_from n w)
unfolding digits_from
digits_small [] n lt = lt
digits_small (c ∷ cs) n lt = digit_then (digit c) n cs (λ m h. digits_small cs m h)
  where
    tested : (b : Bool) (m : ℕ) (cs : List ℕ) → nat_lt m 4294967296 ≡ b → ((m : ℕ) → IsNumber m → AllSome IsNumber (digits_from m cs)) → AllSome IsNumber (if b then digits_from m cs else None)
    tested true m cs e i = i m (ltb-true m 4294967296 e)
    tested false m cs e i = tt

    digit_then : (o : Option ℕ) (n : ℕ) (cs : List ℕ) → ((m : ℕ) → IsNumber m → AllSome IsNumber (digits_from m cs)) → AllSome IsNumber (o >>= λ d. if nat_lt (10 * n + d) 4294967296 then digits_from (10 * n + d) cs else None)
    digit_then None n cs i = tt
    digit_then (Some d) n cs i = tested (nat_lt (10 * n + d) 4294967296) (10 * n + d) cs refl i

natural_small : (w : List ℕ) → AllSome IsNumber (natural w)
unfolding natural
natural_small w = if_all IsNumber (is_nil w || nat_lt 10 (length w)) None (digits_from 0 w) tt (digits_small w 0 (lit< tt))

abbrev IsPlace : ℤ → Type 0
IsPlace z = IsNumber (nat_abs z)

below_small : (o : Option ℕ) → AllSome IsNumber o → AllSome IsPlace (below_zero o)
below_small None h = tt
below_small (Some zero) h = h
below_small (Some (suc n)) h = h

above_small : (o : Option ℕ) → AllSome IsNumber o → AllSome IsPlace (above_zero o)
above_small None h = tt
above_small (Some n) h = h

integer_small : (w : List ℕ) → AllSome IsPlace (integer w)
unfolding integer
integer_small [] = tt
integer_small (c ∷ cs) = if_all IsPlace (c == 45) (below_zero (natural cs)) (above_zero (natural (c ∷ cs))) (below_small (natural cs) (natural_small cs)) (above_small (natural (c ∷ cs)) (natural_small (c ∷ cs)))

only_small : (r : List ℕ) → AllSome IsNumber (only_number r)
only_small r = bind_all (λ (w : List ℕ). Unit {0}) IsNumber (single r) (λ w. natural w) (any_some (single r)) (λ w h. natural_small w)

argument_fits : (x : List ℕ) → AllSome IsArgument (argument x)
unfolding argument
argument_fits x = tested (is_utf8 x && nat_le (length x) 1024) refl
  where
    tested : (b : Bool) → (is_utf8 x && nat_le (length x) 1024) ≡ b → AllSome IsArgument (if b then Some x else None)
    tested true e = let both = and_parts (is_utf8 x) (nat_le (length x) 1024) e in record { utf8 = both.0; short = leb-true (length x) 1024 both.1 }
    tested false e = tt

-- ---- outputs and workspaces

output_fits : (w : List ℕ) → AllSome IsOutput (output_of w)
output_fits w = first_all IsOutput (choice ((codes "current", outs.Current) ∷ (codes "primary", outs.Primary) ∷ (codes "next", outs.Next) ∷ []) w) (option_map outs.At (choice dir_words w))
    (if_all IsOutput (is_word w (codes "current")) (Some outs.Current) (choice ((codes "primary", outs.Primary) ∷ (codes "next", outs.Next) ∷ []) w) tt
    (if_all IsOutput (is_word w (codes "primary")) (Some outs.Primary) (choice ((codes "next", outs.Next) ∷ []) w) tt
    (if_all IsOutput (is_word w (codes "next")) (Some outs.Next) None tt tt)))
    (each_map IsOutput (choice dir_words w) outs.At (λ d. tt))

only_output_fits : (r : List ℕ) → AllSome IsOutput (only_output r)
unfolding only_output
only_output_fits r = bind_all (λ (w : List ℕ). Unit {0}) IsOutput (single r) (λ w. output_of w) (any_some (single r)) (λ w h. output_fits w)

abbrev AllRows : {A : Type 0} → (A → Type 0) → List (List ℕ × A) → Type 0
AllRows P [] = Unit {0}
AllRows P (row ∷ rows) = P row.1 × AllRows P rows

choice_all : {A : Type 0} (P : A → Type 0) (table : List (List ℕ × A)) (w : List ℕ) → AllRows P table → AllSome P (choice table w)
choice_all P [] w h = tt
choice_all P (row ∷ rows) w h = if_all P (is_word w row.0) (Some row.1) (choice rows w) h.0 (choice_all P rows w h.1)

only_all : {A : Type 0} (P : A → Type 0) (table : List (List ℕ × A)) (r : List ℕ) → AllRows P table → AllSome P (only table r)
only_all P table r h = bind_all (λ (w : List ℕ). Unit {0}) P (single r) (λ w. choice table w) (any_some (single r)) (λ w k. choice_all P table w h)

-- ---- commands without a text

abbrev R : Command → Type 0
R = IsReadableCommand

abbrev Fits : Option Command → Type 0
Fits o = AllSome IsReadableCommand o

fits_if : (b : Bool) (x y : Option Command) → Fits x → Fits y → Fits (if b then x else y)
fits_if b x y h k = if_all R b x y h k

split_fits : (r : List ℕ) → Fits (split_form r)
unfolding split_form
split_fits r = each_map R (only split_words r) commands.Split (λ a. tt)

layout_fits : (r : List ℕ) → Fits (layout_form r)
unfolding layout_form
layout_fits r = fits_if (says r (codes "toggle")) (option_map commands.CycleLayout (if is_nil (after r) then Some cycles.Bare else only cycle_words (after r))) (option_map commands.SetLayout (only layout_words r))
    (each_map R (if is_nil (after r) then Some cycles.Bare else only cycle_words (after r)) commands.CycleLayout (λ a. tt)) (each_map R (only layout_words r) commands.SetLayout (λ a. tt))

focus_word_fits : (w : List ℕ) → Fits (focus_word w)
unfolding focus_word
focus_word_fits w = if_all R (is_word w (codes "parent")) (Some commands.FocusParent) _ tt (if_all R (is_word w (codes "child")) (Some commands.FocusChild) _ tt
    (first_all R (option_map commands.FocusKind (choice kind_words w)) (option_map commands.FocusDir (choice dir_words w)) (each_map R (choice kind_words w) commands.FocusKind (λ k. tt)) (each_map R (choice dir_words w) commands.FocusDir (λ d. tt))))

focus_fits : (r : List ℕ) → Fits (focus_form r)
unfolding focus_form
focus_fits r = if_all R (is_nil r) (Some commands.Focus) _ tt (if_all R (says r (codes "output")) (option_map commands.FocusOutput (only_output (after r))) _ (map_all IsOutput R (only_output (after r)) commands.FocusOutput (only_output_fits (after r)) (λ o h. h))
    (if_all R (is_nil (after r)) (focus_word (word r)) None (focus_word_fits (word r)) tt))

move_by_fits : (d : Dir) (r : List ℕ) → Fits (move_by d r)
unfolding move_by
move_by_fits d r = if_all R (is_nil r) (Some (commands.MoveDir d 10)) _ (lit< tt) (bind_all IsNumber R (natural (word r)) (λ n. whole (past_px (after r)) (commands.MoveDir d n)) (natural_small (word r)) (λ n h. whole_all R (past_px (after r)) (commands.MoveDir d n) h))

position_fits : (r : List ℕ) → Fits (position_form r)
unfolding position_form
position_fits r = if_all R (says r (codes "center")) (whole (after r) commands.MoveCenter) _ (whole_all R (after r) commands.MoveCenter tt)
    (bind_all IsPlace R (integer (word r)) (λ x. integer (word (past_px (after r))) >>= λ y. whole (past_px (after (past_px (after r)))) (commands.MovePosition x y)) (integer_small (word r)) (λ x h.
    bind_all IsPlace R (integer (word (past_px (after r)))) (λ y. whole (past_px (after (past_px (after r)))) (commands.MovePosition x y)) (integer_small (word (past_px (after r)))) (λ y k. whole_all R (past_px (after (past_px (after r)))) (commands.MovePosition x y) (h, k))))

move_to_fits : (r : List ℕ) → Fits (move_to_form r)
unfolding move_to_form
move_to_fits r = if_all R (says r (codes "workspace")) (option_map commands.MoveToWorkspace (only sent_words (after r))) _ (map_all IsSentTo R (only sent_words (after r)) commands.MoveToWorkspace (only_all IsSentTo sent_words (after r) (tt, (tt, (tt, (tt, (tt, (tt, tt))))))) (λ t h. h))
    (if_all R (says r (codes "output")) (option_map commands.MoveToOutput (only_output (after r))) _ (map_all IsOutput R (only_output (after r)) commands.MoveToOutput (only_output_fits (after r)) (λ o h. h))
    (if_all R (says r (codes "scratchpad")) (whole (after r) commands.MoveToScratchpad) _ (whole_all R (after r) commands.MoveToScratchpad tt)
    (if_all R (says r (codes "position")) (position_form (after r)) None (position_fits (after r)) tt)))

move_workspace_fits : (r : List ℕ) → Fits (move_workspace_form r)
unfolding move_workspace_form
move_workspace_fits r = if_all R (says (past_one_to r) (codes "output")) (option_map commands.MoveWorkspace (only_output (after (past_one_to r)))) None (map_all IsOutput R (only_output (after (past_one_to r))) commands.MoveWorkspace (only_output_fits (after (past_one_to r))) (λ o h. h)) tt

move_in_fits : (d : Option Dir) (r : List ℕ) → Fits (move_in d r)
move_in_fits (Some d) r = move_by_fits d (after r)
move_in_fits None r = if_all R (says r (codes "workspace")) (first_of (move_workspace_form (after r)) (move_to_form r)) (move_to_form (past_to r)) (first_all R (move_workspace_form (after r)) (move_to_form r) (move_workspace_fits (after r)) (move_to_fits r)) (move_to_fits (past_to r))

move_fits : (r : List ℕ) → Fits (move_form r)
unfolding move_form
move_fits r = move_in_fits (choice dir_words (word r)) r

swap_fits : (r : List ℕ) → Fits (swap_form r)
unfolding swap_form
swap_fits r = bind_all (λ (c : List ℕ). Unit {0}) R (past_with r) _ (any_some (past_with r)) (λ c u.
    if_all R (says c (codes "con_id")) (option_map (λ n. commands.Swap (swaps.Con n)) (only_number (after c))) _ (map_all IsNumber R (only_number (after c)) (λ n. commands.Swap (swaps.Con n)) (only_small (after c)) (λ n h. h))
    (if_all R (says c (codes "id")) (option_map (λ n. commands.Swap (swaps.Window n)) (only_number (after c))) None (map_all IsNumber R (only_number (after c)) (λ n. commands.Swap (swaps.Window n)) (only_small (after c)) (λ n h. h)) tt))

abbrev IsAmount : ℕ × ℕ → Type 0
IsAmount n = IsNumber n.0 × IsNumber n.1

hundredths_fits : (px : ℕ) (r : List ℕ) → IsNumber px → AllSome IsAmount (hundredths px r)
unfolding hundredths
hundredths_fits px r lt = if_all IsAmount (is_nil r) (Some (px, 0)) _ (lt, lit< tt) (if_all IsAmount (says r (codes "or")) _ None
    (bind_all IsNumber IsAmount (natural (word (after r))) (λ ppt. if says (after (after r)) (codes "ppt") then whole (after (after (after r))) (px, ppt) else None) (natural_small (word (after r))) (λ ppt h.
    if_all IsAmount (says (after (after r)) (codes "ppt")) (whole (after (after (after r))) (px, ppt)) None (whole_all IsAmount (after (after (after r))) (px, ppt) (lt, h)) tt)) tt)

amounts_fit : (r : List ℕ) → AllSome IsAmount (amounts r)
unfolding amounts
amounts_fit r = if_all IsAmount (is_nil r) (Some (10, 10)) _ (lit< tt, lit< tt) (bind_all IsNumber IsAmount (natural (word r)) (λ px. if says (after r) (codes "px") then hundredths px (after (after r)) else None) (natural_small (word r)) (λ px h.
    if_all IsAmount (says (after r) (codes "px")) (hundredths px (after (after r))) None (hundredths_fits px (after (after r)) h) tt))

resize_by_fits : (grow : Bool) (r : List ℕ) → Fits (resize_by grow r)
unfolding resize_by
resize_by_fits grow r = bind_all (λ (s : Side). Unit {0}) R (side_of (word r)) (λ side. option_map (λ n. commands.Resize grow side n.0 n.1) (amounts (after r))) (any_some (side_of (word r))) (λ side u. map_all IsAmount R (amounts (after r)) (λ n. commands.Resize grow side n.0 n.1) (amounts_fit (after r)) (λ n h. h))

resize_set_fits : (r : List ℕ) → Fits (resize_set r)
unfolding resize_set
resize_set_fits r = bind_all IsNumber R (natural (word r)) (λ w. natural (word (past_px (after r))) >>= λ h. whole (past_px (after (past_px (after r)))) (commands.ResizeSet w h)) (natural_small (word r)) (λ w lt.
    bind_all IsNumber R (natural (word (past_px (after r)))) (λ h. whole (past_px (after (past_px (after r)))) (commands.ResizeSet w h)) (natural_small (word (past_px (after r)))) (λ h lu. whole_all R (past_px (after (past_px (after r)))) (commands.ResizeSet w h) (lt, lu)))

resize_fits : (r : List ℕ) → Fits (resize_form r)
unfolding resize_form
resize_fits r = if_all R (says r (codes "set")) (resize_set (after r)) _ (resize_set_fits (after r)) (if_all R (says r (codes "grow")) (resize_by true (after r)) _ (resize_by_fits true (after r)) (if_all R (says r (codes "shrink")) (resize_by false (after r)) None (resize_by_fits false (after r)) tt))

fullscreen_fits : (r : List ℕ) → Fits (fullscreen_form r)
unfolding fullscreen_form
fullscreen_fits r = if_all R (is_nil r) (Some (commands.Fullscreen switches.Toggle)) (option_map commands.Fullscreen (only switch_words r)) tt (each_map R (only switch_words r) commands.Fullscreen (λ a. tt))

width_small : (r : List ℕ) → AllSome IsNumber (width_form r)
unfolding width_form
width_small r = if_all IsNumber (is_nil r) (Some 2) (only_number r) (lit< tt) (only_small r)

border_fits : (r : List ℕ) → Fits (border_form r)
unfolding border_form
border_fits r = if_all R (says r (codes "normal")) (option_map (λ n. commands.SetBorder (borders.Normal n)) (width_form (after r))) _ (map_all IsNumber R (width_form (after r)) (λ n. commands.SetBorder (borders.Normal n)) (width_small (after r)) (λ n h. h))
    (if_all R (says r (codes "pixel")) (option_map (λ n. commands.SetBorder (borders.Pixel n)) (width_form (after r))) _ (map_all IsNumber R (width_form (after r)) (λ n. commands.SetBorder (borders.Pixel n)) (width_small (after r)) (λ n h. h))
    (if_all R (says r (codes "none")) (whole (after r) (commands.SetBorder borders.Bare)) _ (whole_all R (after r) (commands.SetBorder borders.Bare) tt)
    (if_all R (says r (codes "toggle")) (whole (after r) commands.CycleBorder) None (whole_all R (after r) commands.CycleBorder tt) tt)))

gaps_fits : (r : List ℕ) → Fits (gaps_form r)
unfolding gaps_form
gaps_fits r = bind_all (λ (b : Bool). Unit {0}) R (choice gap_words (word r)) _ (any_some (choice gap_words (word r))) (λ outer u.
    bind_all (λ (b : Bool). Unit {0}) R (choice scope_words (word (after r))) _ (any_some (choice scope_words (word (after r)))) (λ all v.
    bind_all (λ (b : GapOp). Unit {0}) R (choice op_words (word (after (after r)))) _ (any_some (choice op_words (word (after (after r))))) (λ op w.
    map_all IsNumber R (only_number (after (after (after r)))) (λ px. commands.Gaps outer all op px) (only_small (after (after (after r)))) (λ px h. h))))

kill_fits : (r : List ℕ) → Fits (kill_form r)
unfolding kill_form
kill_fits r = if_all R (is_nil r || (is_nil (after r) && (says r (codes "window") || says r (codes "client")))) (Some commands.Kill) None tt tt

scratchpad_fits : (r : List ℕ) → Fits (scratchpad_form r)
unfolding scratchpad_form
scratchpad_fits r = if_all R (says r (codes "show")) (whole (after r) commands.ScratchpadShow) None (whole_all R (after r) commands.ScratchpadShow tt) tt

plain_fits : (v : Verb) (r : List ℕ) → Fits (plain_form v r)
unfolding plain_form
plain_fits verbs.Split r = split_fits r
plain_fits verbs.Layout r = layout_fits r
plain_fits verbs.Focus r = focus_fits r
plain_fits verbs.Move r = move_fits r
plain_fits verbs.Swap r = swap_fits r
plain_fits verbs.Resize r = resize_fits r
plain_fits verbs.Floating r = each_map R (only switch_words r) commands.Floating (λ a. tt)
plain_fits verbs.Fullscreen r = fullscreen_fits r
plain_fits verbs.Border r = border_fits r
plain_fits verbs.Gaps r = gaps_fits r
plain_fits verbs.Sticky r = each_map R (only switch_words r) commands.Sticky (λ a. tt)
plain_fits verbs.Mark r = tt
plain_fits verbs.Unmark r = whole_all R r (commands.Unmark None) tt
plain_fits verbs.Workspace r = map_all IsShown R (only target_words r) commands.Workspace (only_all IsShown target_words r (tt, (tt, (tt, (tt, (tt, tt)))))) (λ t h. h)
plain_fits verbs.Rename r = tt
plain_fits verbs.Scratchpad r = scratchpad_fits r
plain_fits verbs.Mode r = tt
plain_fits verbs.AppendLayout r = tt
plain_fits verbs.TitleFormat r = tt
plain_fits verbs.Kill r = kill_fits r
plain_fits verbs.Nop r = whole_all R r commands.Nop tt
plain_fits verbs.Idle r = whole_all R r commands.Idle tt
plain_fits verbs.Exit r = whole_all R r commands.Exit tt

-- ---- commands with a text

named_fits : (o : Opening) (n : List ℕ) → IsArgument n → Fits (named o n)
named_fits openings.FocusOutput n a = a
named_fits openings.MoveToWorkspace n a = a
named_fits openings.MoveToNumbered n a = a
named_fits openings.MoveToOutput n a = a
named_fits openings.MoveWorkspace n a = a
named_fits openings.MoveToMark n a = a
named_fits openings.SwapMark n a = a
named_fits (openings.Mark add toggle) n a = a
named_fits openings.Unmark n a = a
named_fits openings.Workspace n a = a
named_fits openings.WorkspaceNumbered n a = a
named_fits openings.RenameFocused n a = (tt, a)
named_fits openings.RenameNamed n a = tt
named_fits openings.Mode n a = a
named_fits openings.AppendLayout n a = a
named_fits openings.TitleFormat n a = a
named_fits openings.Nop n a = tt
named_fits openings.Idle n a = tt

from_argument : (o : Opening) (x : List ℕ) → Fits (argument x >>= named o)
from_argument o x = bind_all IsArgument R (argument x) (named o) (argument_fits x) (λ n a. named_fits o n a)

made_fits : (o : Opening) (x : List ℕ) → Fits (made o x)
unfolding made
made_fits openings.FocusOutput x = from_argument openings.FocusOutput x
made_fits openings.MoveToWorkspace x = from_argument openings.MoveToWorkspace x
made_fits openings.MoveToNumbered x = from_argument openings.MoveToNumbered x
made_fits openings.MoveToOutput x = from_argument openings.MoveToOutput x
made_fits openings.MoveWorkspace x = from_argument openings.MoveWorkspace x
made_fits openings.MoveToMark x = from_argument openings.MoveToMark x
made_fits openings.SwapMark x = from_argument openings.SwapMark x
made_fits (openings.Mark add toggle) x = from_argument (openings.Mark add toggle) x
made_fits openings.Unmark x = from_argument openings.Unmark x
made_fits openings.Workspace x = from_argument openings.Workspace x
made_fits openings.WorkspaceNumbered x = from_argument openings.WorkspaceNumbered x
made_fits openings.RenameFocused x = from_argument openings.RenameFocused x
made_fits openings.RenameNamed x = from_argument openings.RenameNamed x
made_fits openings.Mode x = from_argument openings.Mode x
made_fits openings.AppendLayout x = from_argument openings.AppendLayout x
made_fits openings.TitleFormat x = from_argument openings.TitleFormat x
made_fits openings.Nop x = from_argument openings.Nop x
made_fits openings.Idle x = tt

-- what is read of a text, and what follows it
abbrev Front : Command × List ℕ → Type 0
Front x = IsReadableCommand x.0

renamed_fits : (s : List ℕ) → AllSome Front (renamed s)
unfolding renamed
renamed_fits s =
    bind_all (λ (x : List ℕ × List ℕ). Unit {0}) Front (word_at s) _ (any_some (word_at s)) (λ was u.
    bind_all (λ (x : List ℕ). Unit {0}) Front (past_keyword_to (skip was.1)) _ (any_some (past_keyword_to (skip was.1))) (λ behind v.
    bind_all (λ (x : List ℕ × List ℕ). Unit {0}) Front (text_at false behind) _ (any_some (text_at false behind)) (λ name w.
    bind_all IsArgument Front (argument was.0) _ (argument_fits was.0) (λ a h.
    bind_all IsArgument Front (argument name.0) _ (argument_fits name.0) (λ b k. (h, k))))))

text_fits : (o : Opening) (one : Bool) (s : List ℕ) → AllSome Front (text_at one s >>= λ x. option_map (before_rest x.1) (made o x.0))
text_fits o one s = bind_all (λ (x : List ℕ × List ℕ). Unit {0}) Front (text_at one s) (λ x. option_map (before_rest x.1) (made o x.0)) (any_some (text_at one s)) (λ x u. map_all R Front (made o x.0) (before_rest x.1) (made_fits o x.0) (λ c h. h))

finished_fits : (o : Opening) (s : List ℕ) → AllSome Front (finished o s)
unfolding finished
finished_fits openings.FocusOutput s = text_fits openings.FocusOutput true s
finished_fits openings.MoveToWorkspace s = text_fits openings.MoveToWorkspace false s
finished_fits openings.MoveToNumbered s = text_fits openings.MoveToNumbered false s
finished_fits openings.MoveToOutput s = text_fits openings.MoveToOutput true s
finished_fits openings.MoveWorkspace s = text_fits openings.MoveWorkspace true s
finished_fits openings.MoveToMark s = text_fits openings.MoveToMark false s
finished_fits openings.SwapMark s = text_fits openings.SwapMark false s
finished_fits (openings.Mark add toggle) s = text_fits (openings.Mark add toggle) false s
finished_fits openings.Unmark s = text_fits openings.Unmark false s
finished_fits openings.Workspace s = text_fits openings.Workspace false s
finished_fits openings.WorkspaceNumbered s = text_fits openings.WorkspaceNumbered false s
finished_fits openings.RenameFocused s = text_fits openings.RenameFocused false s
finished_fits openings.RenameNamed s = renamed_fits s
finished_fits openings.Mode s = text_fits openings.Mode false s
finished_fits openings.AppendLayout s = text_fits openings.AppendLayout false s
finished_fits openings.TitleFormat s = text_fits openings.TitleFormat false s
finished_fits openings.Nop s = text_fits openings.Nop false s
finished_fits openings.Idle s = text_fits openings.Idle false s

first_fits : (text raw : List ℕ) (os : Opened) → AllSome Front (first_finished text raw os)
unfolding first_finished
first_fits text raw [] = tt
first_fits text raw (o ∷ os) = first_all Front (finished o.0 (drop (length raw - length o.1) text)) (first_finished text raw os) (finished_fits o.0 (drop (length raw - length o.1) text)) (first_fits text raw os)

verb_fits : (text raw rest : List ℕ) (v : Verb) → AllSome Front (verb_command text raw rest v)
unfolding verb_command
verb_fits text raw rest v = first_all Front (option_map (before_rest rest) (plain_form v (after raw))) (first_finished text raw (opened v (after raw))) (map_all R Front (plain_form v (after raw)) (before_rest rest) (plain_fits v (after raw)) (λ c h. h)) (first_fits text raw (opened v (after raw)))

pub command_fits : (text : List ℕ) → AllSome Front (command_at text)
unfolding command_at
command_fits text = bind_all (λ (v : Verb). Unit {0}) Front (verb_of (word (until is_end text))) (verb_command text (until is_end text) (from is_end text)) (any_some (verb_of (word (until is_end text)))) (λ v u. verb_fits text (until is_end text) (from is_end text) v)

-- ---- keys

key_of_fits : (name : KeyName) (x : List ℕ) → AllSome IsReadableKey (key_of name x)
unfolding key_of
key_of_fits names.Class x = map_all IsArgument IsReadableKey (argument x) keys.Class (argument_fits x) (λ n h. h)
key_of_fits names.Instance x = map_all IsArgument IsReadableKey (argument x) keys.Instance (argument_fits x) (λ n h. h)
key_of_fits names.Role x = map_all IsArgument IsReadableKey (argument x) keys.Role (argument_fits x) (λ n h. h)
key_of_fits names.Kind x = map_all IsArgument IsReadableKey (argument x) keys.Kind (argument_fits x) (λ n h. h)
key_of_fits names.Machine x = map_all IsArgument IsReadableKey (argument x) keys.Machine (argument_fits x) (λ n h. h)
key_of_fits names.Title x = map_all IsArgument IsReadableKey (argument x) keys.Title (argument_fits x) (λ n h. h)
key_of_fits names.Mark x = map_all IsArgument IsReadableKey (argument x) keys.Mark (argument_fits x) (λ n h. h)
key_of_fits names.Workspace x = map_all IsArgument IsReadableKey (argument x) keys.Workspace (argument_fits x) (λ n h. h)
key_of_fits names.Id x = map_all IsNumber IsReadableKey (natural x) keys.Id (natural_small x) (λ n h. h)
key_of_fits names.Con x = if_all IsReadableKey (is_text x (codes "__focused__")) (Some (keys.Con None)) (option_map (λ n. keys.Con (Some n)) (natural x)) tt (map_all IsNumber IsReadableKey (natural x) (λ n. keys.Con (Some n)) (natural_small x) (λ n h. h))
key_of_fits names.Urgent x = each_map IsReadableKey (choice urgent_words x) keys.Urgent (λ b. tt)

abbrev KeyFront : Key × List ℕ → Type 0
KeyFront x = IsReadableKey x.0

valued_fits : (name : KeyName) (s : List ℕ) → AllSome KeyFront (valued_at name s)
unfolding valued_at
valued_fits name s = bind_all (λ (x : List ℕ × List ℕ). Unit {0}) KeyFront (value_at s) (λ v. option_map (before_rest v.1) (key_of name v.0)) (any_some (value_at s)) (λ v u. map_all IsReadableKey KeyFront (key_of name v.0) (before_rest v.1) (key_of_fits name v.0) (λ k h. h))

key_fits : (s : List ℕ) → AllSome KeyFront (key_at s)
unfolding key_at
key_fits s = if_all KeyFront (starts 61 (from ends_name s)) _ _
    (bind_all (λ (n : KeyName). Unit {0}) KeyFront (choice name_words (until ends_name s)) (λ name. valued_at name (drop 1 (from ends_name s))) (any_some (choice name_words (until ends_name s))) (λ name u. valued_fits name (drop 1 (from ends_name s))))
    (map_all IsReadableKey KeyFront (choice flag_words (until ends_name s)) (before_rest (from ends_name s)) (choice_all IsReadableKey flag_words (until ends_name s) (tt, (tt, (tt, tt)))) (λ k h. h))

-- the keys that were read are those seen, and new ones
pub record AreRead (n : ℕ) (seen : List Key) (x : List Key × List ℕ) : Type 0 where
  pub others : List Key
  pub parts : x.0 ≡ seen ++ others
  pub new : AreNew seen others
  pub few : length others ≤ n
  pub some : is_nil x.0 ≡ false

closed_read : (n : ℕ) (seen : List Key) (s : List ℕ) → AllSome (AreRead n seen) (closed_keys seen s)
closed_read n seen s = tested (starts 93 s) (is_nil seen) refl
  where
    tested : (a b : Bool) → is_nil seen ≡ b → AllSome (AreRead n seen) (if a && not b then Some (seen, drop 1 s) else None)
    tested true true e = tt
    tested true false e = record { others = []; parts = sym (append-nil seen); new = tt; few = omega arith; some = e }
    tested false true e = tt
    tested false false e = tt

more_read : (n : ℕ) (seen : List Key) (k : Key) (x : List Key × List ℕ) → IsReadableKey k → has_place (place_of k) seen ≡ false → AreRead n (seen ++ k ∷ []) x → AreRead (suc n) seen x
more_read n seen k x a new i = record { others = k ∷ i.others; parts = i.parts ∙ append_assoc seen (k ∷ []) i.others; new = (new, a, i.new); few = omega (arith, i.few); some = i.some }

each_some : {A : Type 0} (Q P : A → Type 0) (o : Option A) → ((x : A) → Q x → P x) → AllSome Q o → AllSome P o
each_some Q P None f h = tt
each_some Q P (Some x) f h = f x h

and_read : (n : ℕ) (seen : List Key) (go : List Key → List ℕ → Option (List Key × List ℕ)) → ((seen : List Key) (s : List ℕ) → AllSome (AreRead n seen) (go seen s)) → (k : Key × List ℕ) → IsReadableKey k.0 → AllSome (AreRead (suc n) seen) (and_keys go seen k)
and_read n seen go i k a = tested (ends_key k.1) (has_place (place_of k.0) seen) refl
  where
    tested : (b c : Bool) → has_place (place_of k.0) seen ≡ c → AllSome (AreRead (suc n) seen) (if b && not c then go (seen ++ k.0 ∷ []) k.1 else None)
    tested true true e = tt
    tested true false e = each_some (AreRead n (seen ++ k.0 ∷ [])) (AreRead (suc n) seen) (go (seen ++ k.0 ∷ []) k.1) (λ x h. more_read n seen k.0 x a e h) (i (seen ++ k.0 ∷ []) k.1)
    tested false true e = tt
    tested false false e = tt

keys_read : (n : ℕ) (seen : List Key) (s : List ℕ) → AllSome (AreRead n seen) (keys_at n seen s)
unfolding keys_at
keys_read zero seen s = closed_read zero seen (skip s)
keys_read (suc n) seen s = if_all (AreRead (suc n) seen) (starts 93 (skip s)) (closed_keys seen (skip s)) (key_at (skip s) >>= and_keys (keys_at n) seen) (closed_read (suc n) seen (skip s))
    (bind_all KeyFront (AreRead (suc n) seen) (key_at (skip s)) (and_keys (keys_at n) seen) (key_fits (skip s)) (λ k a. and_read n seen (keys_at n) (λ seen s. keys_read n seen s) k a))

abbrev CriteriaFront : Option Criteria × List ℕ → Type 0
CriteriaFront x = IsReadableCriteria x.0

read_criteria : (x : List Key × List ℕ) → AreRead 16 [] x → IsReadableCriteria (criteria_of x.0)
read_criteria x i = (i.some, rw i.parts i.few, rw i.parts i.new)

criteria_fits : (text : List ℕ) → AllSome CriteriaFront (criteria_part text)
unfolding criteria_part criteria_at
criteria_fits text = if_all CriteriaFront (starts 91 text) (option_map (λ x. (criteria_of x.0, x.1)) (criteria_at (drop 1 text))) (Some (None, text)) (map_all (AreRead 16 []) CriteriaFront (criteria_at (drop 1 text)) (λ x. (criteria_of x.0, x.1)) (keys_read 16 [] (drop 1 text)) (λ x i. read_criteria x i)) tt

-- ---- commands and groups

abbrev CommandsFront : Commands → Type 0
CommandsFront m = (is_nil m.0 ≡ false) × AreReadableCommands m.0

and_commands_fit : (go : List ℕ → Option Commands) → ((s : List ℕ) → AllSome CommandsFront (go s)) → (c : Command) (rest : List ℕ) → IsReadableCommand c → AllSome CommandsFront (and_commands go c rest)
and_commands_fit go i c [] a = (refl, (a, tt))
and_commands_fit go i c (x ∷ rest) a = if_all CommandsFront (x == 44) (option_map (before_commands c) (go rest)) (Some (c ∷ [], x ∷ rest)) (map_all CommandsFront CommandsFront (go rest) (before_commands c) (i rest) (λ m h. (refl, (a, h.1)))) (refl, (a, tt))

commands_fit : (n : ℕ) (text : List ℕ) → AllSome CommandsFront (commands_at n text)
unfolding commands_at
commands_fit zero text = tt
commands_fit (suc n) text = bind_all Front CommandsFront (command_at (skip text)) (λ c. and_commands (commands_at n) c.0 c.1) (command_fits (skip text)) (λ c a. and_commands_fit (commands_at n) (λ s. commands_fit n s) c.0 c.1 a)

abbrev GroupFront : Group × List ℕ → Type 0
GroupFront x = IsReadableGroup x.0

group_fits : (text : List ℕ) → AllSome GroupFront (group_at text)
unfolding group_at
group_fits text = bind_all CriteriaFront GroupFront (criteria_part text) (λ k. option_map (group_of k.0) (commands_at (length k.1) k.1)) (criteria_fits text) (λ k a.
    map_all CommandsFront GroupFront (commands_at (length k.1) k.1) (group_of k.0) (commands_fit (length k.1) k.1) (λ m h. (a, h.0, h.1)))

some_groups_fit : (go : List ℕ → Groups) → ((s : List ℕ) → AllSome AreReadableGroups (go s)) → (s : List ℕ) → AllSome AreReadableGroups (some_groups go s)
some_groups_fit go i [] = tt
some_groups_fit go i (c ∷ rest) = if_all AreReadableGroups (c == 59) (go rest) (group_at (c ∷ rest) >>= and_groups go) (i rest)
    (bind_all GroupFront AreReadableGroups (group_at (c ∷ rest)) (and_groups go) (group_fits (c ∷ rest)) (λ g a. map_all AreReadableGroups AreReadableGroups (go (drop 1 g.1)) (λ gs. g.0 ∷ gs) (i (drop 1 g.1)) (λ gs h. (a, h))))

groups_fit : (n : ℕ) (text : List ℕ) → AllSome AreReadableGroups (groups_at n text)
unfolding groups_at
groups_fit zero text = tt
groups_fit (suc n) text = some_groups_fit (groups_at n) (λ s. groups_fit n s) (skip text)

batch_fits : (text : List ℕ) → AllSome IsReadable (batch_of text)
unfolding groups_of
batch_fits text = map_all AreReadableGroups IsReadable (groups_of text) (λ gs. record { groups = gs }) (groups_fit (suc (length text)) text) (λ gs h. h)

pub readable : (text : List ℕ) (b : Batch) → Reads text b → IsReadable b
readable text b e = let P : Option Batch → Type 0 = λ o. AllSome IsReadable o in subst P e (batch_fits text)
