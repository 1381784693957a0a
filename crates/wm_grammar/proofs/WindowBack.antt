-- A text of a form of keywords and numbers alone reads as its command.
use Rattle.std.proofs.Common.{◌≡◌, ℕ, Bool, true, false, List, [], ◌∷◌, ◌++◌, Option, Some, None, refl, ap, ◌∙◌, codes}
use Rattle.std.specs.Prelude.{option_map}
use Rattle.wm_base.specs.declared.geometry.Dir.{Dir}
use Rattle.wm_base.specs.declared.geometry.Dir.TheVariants as dirs
use Rattle.wm_base.specs.declared.plan.Border.TheVariants as borders
use Rattle.wm_language.specs.declared.arguments.OnOff.{OnOff}
use Rattle.wm_language.specs.declared.arguments.OnOff.TheVariants as switches
use Rattle.wm_language.specs.declared.arguments.Target.{Target}
use Rattle.wm_language.specs.declared.arguments.Side.{Side}
use Rattle.wm_language.specs.declared.arguments.Side.TheVariants as sides
use Rattle.wm_language.specs.declared.arguments.GapOp.{GapOp}
use Rattle.wm_language.specs.declared.arguments.GapOp.TheVariants as ops
use Rattle.wm_language.specs.declared.arguments.Kind.{Kind}
use Rattle.wm_language.specs.declared.arguments.Kind.TheVariants as kinds
use Rattle.wm_language.specs.declared.arguments.SplitArg.{SplitArg}
use Rattle.wm_language.specs.declared.arguments.LayoutArg.{LayoutArg}
use Rattle.wm_language.specs.declared.arguments.OutArg.{OutArg}
use Rattle.wm_language.specs.declared.command.Command.{Command}
use Rattle.wm_language.specs.declared.command.Command.TheVariants as commands
use Rattle.wm_words.specs.declared.verbs.Verb.{Verb}
use Rattle.wm_words.specs.declared.verbs.Verb.TheVariants as verbs
use Rattle.wm_words.specs.Pieces.{first_of, is_nil, word, after, is_text, says, choice, only, natural, only_number}
use Rattle.wm_words.specs.Forms.{dir_words, switch_words, op_words, gap_words, scope_words, side_of, target_words, tree_verbs, window_verbs, desk_verbs, verb_of, past_px, whole, hundredths, amounts, resize_by, resize_set, resize_form, fullscreen_form, width_form, border_form, gaps_form, scratchpad_form, plain_form}
use Rattle.wm_language.specs.Words.{in_small}
use Rattle.wm_language.specs.Slots.{Slot, said, number, signed, Optional, left_out, there}
use Rattle.wm_language.specs.Arguments.{direction_word, kind_word, switch_word, side_word, grow_word, gaps_word, scope_word, change_word, SplitWord, split_h, split_horizontal, split_v, split_vertical, split_t, split_toggle, LayoutWord, layout_default, layout_splith, layout_splitv, layout_tabbed, layout_stacking, layout_stacked, OutputWord, output_at, output_current, output_primary, output_next, TargetWord, target_next, target_prev, target_next_on_output, target_prev_on_output, target_back_and_forth, IdleWord, idle_exec, idle_open, idle_reload, idle_restart, To, to_alone, to_container, to_window}
use Rattle.wm_language.specs.TreeForms.{split_by, layout_set, layout_toggle, layout_toggle_split, layout_toggle_all, focus_alone, focus_direction, focus_parent, focus_child, focus_kind, focus_output, MoveToForm, to_workspace, to_current, to_output, to_scratchpad, to_position, to_center, move_direction, move_pixels, move_to, move_workspace, swap_con_id, swap_id, kill_alone, kill_window, kill_client}
use Rattle.wm_language.specs.WindowForms.{ResizeForm, resize_alone, resize_px, resize_ppt, resize_to, SwitchForm, floating_switch, fullscreen_switch, fullscreen_alone, sticky_switch, BorderForm, border_normal, border_normal_wide, border_pixel, border_pixel_wide, border_none, border_toggle, GapsForm, gaps_changed, DeskForm, scratchpad_show, workspace_word, unmark_alone, nop_alone, idle_alone, exit_alone, KeywordForm, of_split, of_layout, of_focus, of_move, of_swap, of_resize, of_switch, of_border, of_gaps, of_kill, of_desk}
use Rattle.wm_grammar.proofs.RowLemmas.{Row, proper, exact, choice_back, only_back, only_number_back}
use Rattle.wm_grammar.proofs.TreeBack.{says_it, if_yes, if_no, px_end, px_number, target_back, split_back, layout_back, focus_back, move_back, swap_back, kill_back}

-- ---- resize

abbrev side_words : List (List ℕ × Side)
side_words = (codes "width", sides.Width) ∷ (codes "height", sides.Height) ∷ []

side_exact : (s : Side) → first_of (exact side_words (side_word s)) (option_map sides.At (exact dir_words (side_word s))) ≡ Some s
unfolding is_text
side_exact sides.Width = refl
side_exact sides.Height = refl
side_exact (sides.At dirs.Left) = refl
side_exact (sides.At dirs.Right) = refl
side_exact (sides.At dirs.Up) = refl
side_exact (sides.At dirs.Down) = refl

side_back : (w : List ℕ) (s : Side) → in_small w ≡ side_word s → side_of w ≡ Some s
side_back w s e = rw (choice_back side_words w (side_word s) e, choice_back dir_words w (side_word s) e) (side_exact s)

-- what stands behind grow or shrink
by_back : (grow : Bool) (s : Side) (n : ℕ × ℕ) (r : List ℕ) → in_small (word r) ≡ side_word s → amounts (after r) ≡ Some n → resize_by grow r ≡ Some (commands.Resize grow s n.0 n.1)
unfolding resize_by
by_back grow s n r e f = rw (side_back (word r) s e, f) refl

grow_back : (grow : Bool) (r : List ℕ) (c : Command) → in_small (word r) ≡ grow_word grow → resize_by grow (after r) ≡ Some c → resize_form r ≡ Some c
unfolding resize_form is_text
grow_back true r c e f =
    let a : says r (codes "set") ≡ false = says_it r (codes "grow") (codes "set") false e refl in
    let b : says r (codes "grow") ≡ true = says_it r (codes "grow") (codes "grow") true e refl in
    rw (a, b) f
grow_back false r c e f =
    let a : says r (codes "set") ≡ false = says_it r (codes "shrink") (codes "set") false e refl in
    let b : says r (codes "grow") ≡ false = says_it r (codes "shrink") (codes "grow") false e refl in
    let d : says r (codes "shrink") ≡ true = says_it r (codes "shrink") (codes "shrink") true e refl in
    rw (a, b, d) f

no_amount : (r : List ℕ) → r ≡ [] → amounts r ≡ Some (10, 10)
unfolding amounts
no_amount r e = if_yes _ _ _ _ (ap is_nil e) refl

px_amount : (px : ℕ) (n : ℕ × ℕ) (r : List ℕ) → is_nil r ≡ false → natural (word r) ≡ Some px → in_small (word (after r)) ≡ codes "px" → hundredths px (after (after r)) ≡ Some n → amounts r ≡ Some n
unfolding amounts is_text
px_amount px n r some e f k =
    let a : says (after r) (codes "px") ≡ true = says_it (after r) (codes "px") (codes "px") true f refl in
    if_no _ _ _ _ some (rw (e, a) k)

no_hundredths : (px : ℕ) (r : List ℕ) → r ≡ [] → hundredths px r ≡ Some (px, 0)
unfolding hundredths
no_hundredths px r e = if_yes _ _ _ _ (ap is_nil e) refl

some_hundredths : (px ppt : ℕ) (r : List ℕ) → is_nil r ≡ false → in_small (word r) ≡ codes "or" → natural (word (after r)) ≡ Some ppt → in_small (word (after (after r))) ≡ codes "ppt" → after (after (after r)) ≡ [] → hundredths px r ≡ Some (px, ppt)
unfolding hundredths is_text
some_hundredths px ppt r some e f g h =
    let a : says r (codes "or") ≡ true = says_it r (codes "or") (codes "or") true e refl in
    let b : says (after (after r)) (codes "ppt") ≡ true = says_it (after (after r)) (codes "ppt") (codes "ppt") true g refl in
    let d : is_nil (after (after (after r))) ≡ true = ap is_nil h in
    if_no _ _ _ _ some (rw (a, f, b, d) refl)

set_back : (w h : ℕ) (px px' : List Slot) → Optional (codes "px") px → Optional (codes "px") px' → (rest e r : List ℕ) → Row (number w ∷ (px ++ number h ∷ px')) rest e r → (resize_set r ≡ Some (commands.ResizeSet w h)) × (e ≡ rest)
unfolding resize_set
set_back w h px px' o o' rest e r k =
    let f = px_number px o h px' rest e (after r) k.3 in
    let l = px_end px' o' rest e (after (past_px (after r))) f.3 in
    let a : natural (word r) ≡ Some w = k.1 in
    let b : natural (word (past_px (after r))) ≡ Some h = f.1 in
    let d : past_px (after (past_px (after r))) ≡ [] = l.0 in
    (rw (a, b, d) refl, l.1)

resize_back : (slots : List Slot) (c : Command) → ResizeForm slots c → (rest e r : List ℕ) → Row slots rest e r → (in_small (word r) ≡ codes "resize") × (resize_form (after r) ≡ Some c) × (e ≡ rest)
unfolding resize_form is_text
resize_back slots c (resize_alone grow s) rest e r h = (h.1, grow_back grow (after r) c h.2.1 (by_back grow s (10, 10) (after (after r)) h.2.2.1 (no_amount (after (after (after r))) h.2.2.2.0)), h.2.2.2.1)
resize_back slots c (resize_px grow s n) rest e r h =
    let k = h.2.2.2 in
    (h.1, grow_back grow (after r) c h.2.1 (by_back grow s (n, 0) (after (after r)) h.2.2.1 (px_amount n (n, 0) (after (after (after r))) k.0 k.1 k.3.1 (no_hundredths n (after (after (after (after (after r))))) k.3.2.0))), k.3.2.1)
resize_back slots c (resize_ppt grow s n m) rest e r h =
    let k = h.2.2.2 in
    let l = k.3.2 in
    (h.1, grow_back grow (after r) c h.2.1 (by_back grow s (n, m) (after (after r)) h.2.2.1 (px_amount n (n, m) (after (after (after r))) k.0 k.1 k.3.1 (some_hundredths n m (after (after (after (after (after r))))) l.0 l.1 l.2.1 l.2.3.1 l.2.3.2.0))), l.2.3.2.1)
resize_back slots c (resize_to w k {px = px} {px' = px'} o o') rest e r h =
    let s = set_back w k px px' o o' rest e (after (after r)) h.2.2 in
    (h.1, if_yes _ _ _ _ (says_it (after r) (codes "set") (codes "set") true h.2.1 refl) s.0, s.1)

-- ---- switches

switch_exact : (a : OnOff) → exact switch_words (switch_word a) ≡ Some a
unfolding is_text
switch_exact switches.Enable = refl
switch_exact switches.Disable = refl
switch_exact switches.Toggle = refl

switch_back : (f : OnOff → Command) (a : OnOff) (r : List ℕ) → in_small (word r) ≡ switch_word a → after r ≡ [] → option_map f (only switch_words r) ≡ Some (f a)
switch_back f a r e g = ap (option_map f) (only_back switch_words r (switch_word a) e g ∙ switch_exact a)

fullscreen_back : (a : OnOff) (r : List ℕ) → is_nil r ≡ false → in_small (word r) ≡ switch_word a → after r ≡ [] → fullscreen_form r ≡ Some (commands.Fullscreen a)
unfolding fullscreen_form
fullscreen_back a r some e g = if_no _ _ _ _ some (switch_back commands.Fullscreen a r e g)

fullscreen_none : (r : List ℕ) → r ≡ [] → fullscreen_form r ≡ Some (commands.Fullscreen switches.Toggle)
unfolding fullscreen_form
fullscreen_none r e = if_yes _ _ _ _ (ap is_nil e) refl

-- ---- borders, gaps

no_width : (r : List ℕ) → r ≡ [] → width_form r ≡ Some 2
unfolding width_form
no_width r e = if_yes _ _ _ _ (ap is_nil e) refl

some_width : (r : List ℕ) (n : ℕ) → is_nil r ≡ false → natural (word r) ≡ Some n → after r ≡ [] → width_form r ≡ Some n
unfolding width_form
some_width r n some e f = if_no _ _ _ _ some (only_number_back r n e f)

normal_back : (r : List ℕ) (n : ℕ) → in_small (word r) ≡ codes "normal" → width_form (after r) ≡ Some n → border_form r ≡ Some (commands.SetBorder (borders.Normal n))
unfolding border_form is_text
normal_back r n e f =
    let a : says r (codes "normal") ≡ true = says_it r (codes "normal") (codes "normal") true e refl in
    rw (a, f) refl

pixel_back : (r : List ℕ) (n : ℕ) → in_small (word r) ≡ codes "pixel" → width_form (after r) ≡ Some n → border_form r ≡ Some (commands.SetBorder (borders.Pixel n))
unfolding border_form is_text
pixel_back r n e f =
    let a : says r (codes "normal") ≡ false = says_it r (codes "pixel") (codes "normal") false e refl in
    let b : says r (codes "pixel") ≡ true = says_it r (codes "pixel") (codes "pixel") true e refl in
    rw (a, b, f) refl

border_back : (slots : List Slot) (c : Command) → BorderForm slots c → (rest e r : List ℕ) → Row slots rest e r → (in_small (word r) ≡ codes "border") × (border_form (after r) ≡ Some c) × (e ≡ rest)
unfolding border_form is_text
border_back slots c border_normal rest e r h = (h.1, normal_back (after r) 2 h.2.1 (no_width (after (after r)) h.2.2.0), h.2.2.1)
border_back slots c (border_normal_wide n) rest e r h = (h.1, normal_back (after r) n h.2.1 (some_width (after (after r)) n h.2.2.0 h.2.2.1 h.2.2.3.0), h.2.2.3.1)
border_back slots c border_pixel rest e r h = (h.1, pixel_back (after r) 2 h.2.1 (no_width (after (after r)) h.2.2.0), h.2.2.1)
border_back slots c (border_pixel_wide n) rest e r h = (h.1, pixel_back (after r) n h.2.1 (some_width (after (after r)) n h.2.2.0 h.2.2.1 h.2.2.3.0), h.2.2.3.1)
border_back slots c border_none rest e r h =
    let a : says (after r) (codes "normal") ≡ false = says_it (after r) (codes "none") (codes "normal") false h.2.1 refl in
    let b : says (after r) (codes "pixel") ≡ false = says_it (after r) (codes "none") (codes "pixel") false h.2.1 refl in
    let d : says (after r) (codes "none") ≡ true = says_it (after r) (codes "none") (codes "none") true h.2.1 refl in
    let f : is_nil (after (after r)) ≡ true = ap is_nil h.2.2.0 in
    (h.1, rw (a, b, d, f) refl, h.2.2.1)
border_back slots c border_toggle rest e r h =
    let a : says (after r) (codes "normal") ≡ false = says_it (after r) (codes "toggle") (codes "normal") false h.2.1 refl in
    let b : says (after r) (codes "pixel") ≡ false = says_it (after r) (codes "toggle") (codes "pixel") false h.2.1 refl in
    let d : says (after r) (codes "none") ≡ false = says_it (after r) (codes "toggle") (codes "none") false h.2.1 refl in
    let g : says (after r) (codes "toggle") ≡ true = says_it (after r) (codes "toggle") (codes "toggle") true h.2.1 refl in
    let f : is_nil (after (after r)) ≡ true = ap is_nil h.2.2.0 in
    (h.1, rw (a, b, d, g, f) refl, h.2.2.1)

gap_exact : (b : Bool) → exact gap_words (gaps_word b) ≡ Some b
unfolding is_text
gap_exact true = refl
gap_exact false = refl

scope_exact : (b : Bool) → exact scope_words (scope_word b) ≡ Some b
unfolding is_text
scope_exact true = refl
scope_exact false = refl

op_exact : (o : GapOp) → exact op_words (change_word o) ≡ Some o
unfolding is_text
op_exact ops.Set = refl
op_exact ops.Plus = refl
op_exact ops.Minus = refl

gaps_back : (slots : List Slot) (c : Command) → GapsForm slots c → (rest e r : List ℕ) → Row slots rest e r → (in_small (word r) ≡ codes "gaps") × (gaps_form (after r) ≡ Some c) × (e ≡ rest)
unfolding gaps_form
gaps_back slots c (gaps_changed outer all op n) rest e r h =
    let k = h.2 in
    let t : List ℕ = after r in
    let a : choice gap_words (word t) ≡ Some outer = choice_back gap_words (word t) (gaps_word outer) k.1 ∙ gap_exact outer in
    let b : choice scope_words (word (after t)) ≡ Some all = choice_back scope_words (word (after t)) (scope_word all) k.2.1 ∙ scope_exact all in
    let d : choice op_words (word (after (after t))) ≡ Some op = choice_back op_words (word (after (after t))) (change_word op) k.2.2.1 ∙ op_exact op in
    let f : only_number (after (after (after t))) ≡ Some n = only_number_back (after (after (after t))) n k.2.2.2.1 k.2.2.2.3.0 in
    (h.1, rw (a, b, d, f) refl, k.2.2.2.3.1)

-- ---- verbs

abbrev pub verb_exact : List ℕ → Option Verb
verb_exact n = first_of (exact tree_verbs n) (first_of (exact window_verbs n) (exact desk_verbs n))

pub verb_back : (w n : List ℕ) (v : Verb) → in_small w ≡ n → verb_exact n ≡ Some v → verb_of w ≡ Some v
unfolding verb_of
verb_back w n v e f = rw (choice_back tree_verbs w n e, choice_back window_verbs w n e, choice_back desk_verbs w n e) f

-- the reading finds the verb and the command behind it
pub record PlainBack (c : Command) (rest e r : List ℕ) : Type 0 where
  pub verb : Verb
  pub found : verb_of (word r) ≡ Some verb
  pub plain : plain_form verb (after r) ≡ Some c
  pub same : e ≡ rest

scratchpad_back : (r : List ℕ) → in_small (word r) ≡ codes "show" → after r ≡ [] → scratchpad_form r ≡ Some commands.ScratchpadShow
unfolding scratchpad_form is_text
scratchpad_back r e f =
    let a : says r (codes "show") ≡ true = says_it r (codes "show") (codes "show") true e refl in
    let b : is_nil (after r) ≡ true = ap is_nil f in
    rw (a, b) refl

idle_exact : (n : List ℕ) → IdleWord n → verb_exact n ≡ Some verbs.Idle
unfolding is_text
idle_exact n idle_exec = refl
idle_exact n idle_open = refl
idle_exact n idle_reload = refl
idle_exact n idle_restart = refl

whole_back : (r : List ℕ) (c : Command) → r ≡ [] → whole r c ≡ Some c
whole_back r c e = ap (λ (t : List ℕ). whole t c) e

desk_back : (slots : List Slot) (c : Command) → DeskForm slots c → (rest e r : List ℕ) → Row slots rest e r → PlainBack c rest e r
unfolding plain_form is_text
desk_back slots c scratchpad_show rest e r h = record { verb = verbs.Scratchpad; found = verb_back (word r) (codes "scratchpad") verbs.Scratchpad h.1 refl; plain = scratchpad_back (after r) h.2.1 h.2.2.0; same = h.2.2.1 }
desk_back slots c (workspace_word {w = w} {t = t} s) rest e r h = record { verb = verbs.Workspace; found = verb_back (word r) (codes "workspace") verbs.Workspace h.1 refl; plain = ap (option_map commands.Workspace) (only_back target_words (after r) w h.2.1 h.2.2.0 ∙ target_back w t s); same = h.2.2.1 }
desk_back slots c unmark_alone rest e r h = record { verb = verbs.Unmark; found = verb_back (word r) (codes "unmark") verbs.Unmark h.1 refl; plain = whole_back (after r) (commands.Unmark None) h.2.0; same = h.2.1 }
desk_back slots c nop_alone rest e r h = record { verb = verbs.Nop; found = verb_back (word r) (codes "nop") verbs.Nop h.1 refl; plain = whole_back (after r) commands.Nop h.2.0; same = h.2.1 }
desk_back slots c (idle_alone {w = w} s) rest e r h = record { verb = verbs.Idle; found = verb_back (word r) w verbs.Idle h.1 (idle_exact w s); plain = whole_back (after r) commands.Idle h.2.0; same = h.2.1 }
desk_back slots c exit_alone rest e r h = record { verb = verbs.Exit; found = verb_back (word r) (codes "exit") verbs.Exit h.1 refl; plain = whole_back (after r) commands.Exit h.2.0; same = h.2.1 }

switches_back : (slots : List Slot) (c : Command) → SwitchForm slots c → (rest e r : List ℕ) → Row slots rest e r → PlainBack c rest e r
unfolding plain_form is_text
switches_back slots c (floating_switch a) rest e r h = record { verb = verbs.Floating; found = verb_back (word r) (codes "floating") verbs.Floating h.1 refl; plain = switch_back commands.Floating a (after r) h.2.1 h.2.2.0; same = h.2.2.1 }
switches_back slots c (fullscreen_switch a) rest e r h = record { verb = verbs.Fullscreen; found = verb_back (word r) (codes "fullscreen") verbs.Fullscreen h.1 refl; plain = fullscreen_back a (after r) h.2.0 h.2.1 h.2.2.0; same = h.2.2.1 }
switches_back slots c fullscreen_alone rest e r h = record { verb = verbs.Fullscreen; found = verb_back (word r) (codes "fullscreen") verbs.Fullscreen h.1 refl; plain = fullscreen_none (after r) h.2.0; same = h.2.1 }
switches_back slots c (sticky_switch a) rest e r h = record { verb = verbs.Sticky; found = verb_back (word r) (codes "sticky") verbs.Sticky h.1 refl; plain = switch_back commands.Sticky a (after r) h.2.1 h.2.2.0; same = h.2.2.1 }

pub plain_back : (slots : List Slot) (c : Command) → KeywordForm slots c → (rest e r : List ℕ) → Row slots rest e r → PlainBack c rest e r
unfolding plain_form is_text
plain_back slots c (of_split f) rest e r h = let k = split_back slots c f rest e r h in record { verb = verbs.Split; found = verb_back (word r) (codes "split") verbs.Split k.0 refl; plain = k.1; same = k.2 }
plain_back slots c (of_layout f) rest e r h = let k = layout_back slots c f rest e r h in record { verb = verbs.Layout; found = verb_back (word r) (codes "layout") verbs.Layout k.0 refl; plain = k.1; same = k.2 }
plain_back slots c (of_focus f) rest e r h = let k = focus_back slots c f rest e r h in record { verb = verbs.Focus; found = verb_back (word r) (codes "focus") verbs.Focus k.0 refl; plain = k.1; same = k.2 }
plain_back slots c (of_move f) rest e r h = let k = move_back slots c f rest e r h in record { verb = verbs.Move; found = verb_back (word r) (codes "move") verbs.Move k.0 refl; plain = k.1; same = k.2 }
plain_back slots c (of_swap f) rest e r h = let k = swap_back slots c f rest e r h in record { verb = verbs.Swap; found = verb_back (word r) (codes "swap") verbs.Swap k.0 refl; plain = k.1; same = k.2 }
plain_back slots c (of_resize f) rest e r h = let k = resize_back slots c f rest e r h in record { verb = verbs.Resize; found = verb_back (word r) (codes "resize") verbs.Resize k.0 refl; plain = k.1; same = k.2 }
plain_back slots c (of_switch f) rest e r h = switches_back slots c f rest e r h
plain_back slots c (of_border f) rest e r h = let k = border_back slots c f rest e r h in record { verb = verbs.Border; found = verb_back (word r) (codes "border") verbs.Border k.0 refl; plain = k.1; same = k.2 }
plain_back slots c (of_gaps f) rest e r h = let k = gaps_back slots c f rest e r h in record { verb = verbs.Gaps; found = verb_back (word r) (codes "gaps") verbs.Gaps k.0 refl; plain = k.1; same = k.2 }
plain_back slots c (of_kill f) rest e r h = let k = kill_back slots c f rest e r h in record { verb = verbs.Kill; found = verb_back (word r) (codes "kill") verbs.Kill k.0 refl; plain = k.1; same = k.2 }
plain_back slots c (of_desk f) rest e r h = desk_back slots c f rest e r h

-- ---- their keywords are names

split_proper : (w : List ℕ) (a : SplitArg) → SplitWord w a → proper (said w ∷ []) ≡ true
split_proper w a split_h = refl
split_proper w a split_horizontal = refl
split_proper w a split_v = refl
split_proper w a split_vertical = refl
split_proper w a split_t = refl
split_proper w a split_toggle = refl

layout_proper : (w : List ℕ) (a : LayoutArg) → LayoutWord w a → proper (said w ∷ []) ≡ true
layout_proper w a layout_default = refl
layout_proper w a layout_splith = refl
layout_proper w a layout_splitv = refl
layout_proper w a layout_tabbed = refl
layout_proper w a layout_stacking = refl
layout_proper w a layout_stacked = refl

output_proper : (w : List ℕ) (o : OutArg) → OutputWord w o → proper (said w ∷ []) ≡ true
output_proper w o (output_at dirs.Left) = refl
output_proper w o (output_at dirs.Right) = refl
output_proper w o (output_at dirs.Up) = refl
output_proper w o (output_at dirs.Down) = refl
output_proper w o output_current = refl
output_proper w o output_primary = refl
output_proper w o output_next = refl

target_proper : (w : List ℕ) (t : Target) → TargetWord w t → proper (said w ∷ []) ≡ true
target_proper w t target_next = refl
target_proper w t target_prev = refl
target_proper w t target_next_on_output = refl
target_proper w t target_prev_on_output = refl
target_proper w t target_back_and_forth = refl

pub idle_proper : (w : List ℕ) (slots : List Slot) → IdleWord w → proper (said w ∷ slots) ≡ proper slots
idle_proper w slots idle_exec = refl
idle_proper w slots idle_open = refl
idle_proper w slots idle_reload = refl
idle_proper w slots idle_restart = refl

direction_proper : (d : Dir) (slots : List Slot) → proper (said (direction_word d) ∷ slots) ≡ proper slots
direction_proper dirs.Left slots = refl
direction_proper dirs.Right slots = refl
direction_proper dirs.Up slots = refl
direction_proper dirs.Down slots = refl

kind_proper : (k : Kind) → proper (said (kind_word k) ∷ []) ≡ true
kind_proper kinds.Floating = refl
kind_proper kinds.Tiling = refl
kind_proper kinds.Toggle = refl

switch_proper : (a : OnOff) → proper (said (switch_word a) ∷ []) ≡ true
switch_proper switches.Enable = refl
switch_proper switches.Disable = refl
switch_proper switches.Toggle = refl

side_proper : (s : Side) (slots : List Slot) → proper (said (side_word s) ∷ slots) ≡ proper slots
side_proper sides.Width slots = refl
side_proper sides.Height slots = refl
side_proper (sides.At d) slots = direction_proper d slots

px_proper : (px : List Slot) → Optional (codes "px") px → (slots : List Slot) → proper (px ++ slots) ≡ proper slots
px_proper px left_out slots = refl
px_proper px there slots = refl

px_last : (px : List Slot) → Optional (codes "px") px → proper px ≡ true
px_last px left_out = refl
px_last px there = refl

pub one_to_proper : (to : List Slot) → Optional (codes "to") to → (slots : List Slot) → proper (to ++ slots) ≡ proper slots
one_to_proper to left_out slots = refl
one_to_proper to there slots = refl

pub to_proper : (to : List Slot) → To to → (slots : List Slot) → proper (to ++ slots) ≡ proper slots
to_proper to (to_alone o) slots = one_to_proper to o slots
to_proper to (to_container {to = more} o) slots = one_to_proper more o slots
to_proper to (to_window {to = more} o) slots = one_to_proper more o slots

pub container_proper : (c : List Slot) → Optional (codes "container") c → (slots : List Slot) → proper (c ++ slots) ≡ proper slots
container_proper c left_out slots = refl
container_proper c there slots = refl

move_to_proper : (slots : List Slot) (c : Command) → MoveToForm slots c → proper slots ≡ true
move_to_proper slots c (to_workspace {w = w} {t = t} s) = target_proper w t s
move_to_proper slots c to_current = refl
move_to_proper slots c (to_output {w = w} {o = o} s) = output_proper w o s
move_to_proper slots c to_scratchpad = refl
move_to_proper slots c (to_position x y {px = px} {px' = px'} o o') = px_proper px o (signed y ∷ px') ∙ px_last px' o'
move_to_proper slots c to_center = refl

resize_proper : (slots : List Slot) (c : Command) → ResizeForm slots c → proper slots ≡ true
resize_proper slots c (resize_alone true s) = side_proper s []
resize_proper slots c (resize_alone false s) = side_proper s []
resize_proper slots c (resize_px true s n) = side_proper s (number n ∷ said (codes "px") ∷ [])
resize_proper slots c (resize_px false s n) = side_proper s (number n ∷ said (codes "px") ∷ [])
resize_proper slots c (resize_ppt true s n m) = side_proper s (number n ∷ said (codes "px") ∷ said (codes "or") ∷ number m ∷ said (codes "ppt") ∷ [])
resize_proper slots c (resize_ppt false s n m) = side_proper s (number n ∷ said (codes "px") ∷ said (codes "or") ∷ number m ∷ said (codes "ppt") ∷ [])
resize_proper slots c (resize_to w h {px = px} {px' = px'} o o') = px_proper px o (number h ∷ px') ∙ px_last px' o'

gaps_proper : (slots : List Slot) (c : Command) → GapsForm slots c → proper slots ≡ true
gaps_proper slots c (gaps_changed true true ops.Set n) = refl
gaps_proper slots c (gaps_changed true true ops.Plus n) = refl
gaps_proper slots c (gaps_changed true true ops.Minus n) = refl
gaps_proper slots c (gaps_changed true false ops.Set n) = refl
gaps_proper slots c (gaps_changed true false ops.Plus n) = refl
gaps_proper slots c (gaps_changed true false ops.Minus n) = refl
gaps_proper slots c (gaps_changed false true ops.Set n) = refl
gaps_proper slots c (gaps_changed false true ops.Plus n) = refl
gaps_proper slots c (gaps_changed false true ops.Minus n) = refl
gaps_proper slots c (gaps_changed false false ops.Set n) = refl
gaps_proper slots c (gaps_changed false false ops.Plus n) = refl
gaps_proper slots c (gaps_changed false false ops.Minus n) = refl

pub keyword_proper : (slots : List Slot) (c : Command) → KeywordForm slots c → proper slots ≡ true
keyword_proper slots c (of_split (split_by {w = w} {a = a} s)) = split_proper w a s
keyword_proper slots c (of_layout (layout_set {w = w} {a = a} s)) = layout_proper w a s
keyword_proper slots c (of_layout layout_toggle) = refl
keyword_proper slots c (of_layout layout_toggle_split) = refl
keyword_proper slots c (of_layout layout_toggle_all) = refl
keyword_proper slots c (of_focus focus_alone) = refl
keyword_proper slots c (of_focus (focus_direction d)) = direction_proper d []
keyword_proper slots c (of_focus focus_parent) = refl
keyword_proper slots c (of_focus focus_child) = refl
keyword_proper slots c (of_focus (focus_kind k)) = kind_proper k
keyword_proper slots c (of_focus (focus_output {w = w} {o = o} s)) = output_proper w o s
keyword_proper slots c (of_move (move_direction d)) = direction_proper d []
keyword_proper slots c (of_move (move_pixels d n {px = px} o)) = direction_proper d (number n ∷ px) ∙ px_last px o
keyword_proper slots c (of_move (move_to {to = to} {slots = more} t s)) = to_proper to t more ∙ move_to_proper more c s
keyword_proper slots c (of_move (move_workspace {to = to} {w = w} {o = o} t s)) = one_to_proper to t (said (codes "output") ∷ said w ∷ []) ∙ output_proper w o s
keyword_proper slots c (of_swap (swap_con_id {c = front} n o)) = container_proper front o (said (codes "with") ∷ said (codes "con_id") ∷ number n ∷ [])
keyword_proper slots c (of_swap (swap_id {c = front} n o)) = container_proper front o (said (codes "with") ∷ said (codes "id") ∷ number n ∷ [])
keyword_proper slots c (of_resize f) = resize_proper slots c f
keyword_proper slots c (of_switch (floating_switch a)) = switch_proper a
keyword_proper slots c (of_switch (fullscreen_switch a)) = switch_proper a
keyword_proper slots c (of_switch fullscreen_alone) = refl
keyword_proper slots c (of_switch (sticky_switch a)) = switch_proper a
keyword_proper slots c (of_border border_normal) = refl
keyword_proper slots c (of_border (border_normal_wide n)) = refl
keyword_proper slots c (of_border border_pixel) = refl
keyword_proper slots c (of_border (border_pixel_wide n)) = refl
keyword_proper slots c (of_border border_none) = refl
keyword_proper slots c (of_border border_toggle) = refl
keyword_proper slots c (of_gaps f) = gaps_proper slots c f
keyword_proper slots c (of_kill kill_alone) = refl
keyword_proper slots c (of_kill kill_window) = refl
keyword_proper slots c (of_kill kill_client) = refl
keyword_proper slots c (of_desk scratchpad_show) = refl
keyword_proper slots c (of_desk (workspace_word {w = w} {t = t} s)) = target_proper w t s
keyword_proper slots c (of_desk unmark_alone) = refl
keyword_proper slots c (of_desk nop_alone) = refl
keyword_proper slots c (of_desk (idle_alone {w = w} s)) = idle_proper w [] s
keyword_proper slots c (of_desk exit_alone) = refl
