-- What reads as a command of keywords and numbers alone is of one of its forms.
use Rattle.std.proofs.Common.{◌≡◌, ℕ, Bool, true, false, List, [], ◌∷◌, ◌++◌, Option, Some, None, refl, sym, subst, codes}
use Rattle.std.specs.Prelude.{if◌then◌else◌, option_map}
use Rattle.wm_base.specs.declared.geometry.Dir.{Dir}
use Rattle.wm_base.specs.declared.plan.Border.{Border}
use Rattle.wm_base.specs.declared.plan.Border.TheVariants as borders
use Rattle.wm_language.specs.declared.arguments.OnOff.{OnOff}
use Rattle.wm_language.specs.declared.arguments.OnOff.TheVariants as switches
use Rattle.wm_language.specs.declared.arguments.Side.{Side}
use Rattle.wm_language.specs.declared.arguments.Side.TheVariants as sides
use Rattle.wm_language.specs.declared.arguments.GapOp.{GapOp}
use Rattle.wm_language.specs.declared.command.Command.{Command}
use Rattle.wm_language.specs.declared.command.Command.TheVariants as commands
use Rattle.wm_words.specs.declared.verbs.Verb.{Verb}
use Rattle.wm_words.specs.declared.verbs.Verb.TheVariants as verbs
use Rattle.wm_words.specs.Pieces.{◌>>=◌, first_of, is_nil, word, after, says, choice, only, natural, only_number}
use Rattle.wm_words.specs.Forms.{dir_words, switch_words, op_words, gap_words, scope_words, side_of, target_words, tree_verbs, window_verbs, desk_verbs, verb_of, past_px, whole, split_form, layout_form, focus_form, move_form, swap_form, hundredths, amounts, resize_by, resize_set, resize_form, fullscreen_form, width_form, border_form, gaps_form, kill_form, scratchpad_form, plain_form}
use Rattle.wm_words.proofs.Cuts.{AllSome, if_some}
use Rattle.wm_grammar.proofs.CutCommands.{bind_some, map_some, each_some}
use Rattle.wm_language.specs.Words.{in_small, IsNatural}
use Rattle.wm_language.specs.Slots.{Slot, said, number}
use Rattle.wm_language.specs.Arguments.{direction_word, switch_word, side_word, grow_word, gaps_word, scope_word, change_word, TargetWord, target_next, target_prev, target_next_on_output, target_prev_on_output, target_back_and_forth, IdleWord, idle_exec, idle_open, idle_reload, idle_restart}
use Rattle.wm_language.specs.TreeForms.{SplitForm, LayoutForm, FocusForm, MoveForm, SwapForm, KillForm}
use Rattle.wm_language.specs.WindowForms.{ResizeForm, resize_alone, resize_px, resize_ppt, resize_to, SwitchForm, floating_switch, fullscreen_switch, fullscreen_alone, sticky_switch, BorderForm, border_normal, border_normal_wide, border_pixel, border_pixel_wide, border_none, border_toggle, GapsForm, gaps_changed, DeskForm, scratchpad_show, workspace_word, unmark_alone, nop_alone, idle_alone, exit_alone, KeywordForm, of_split, of_layout, of_focus, of_move, of_swap, of_resize, of_switch, of_border, of_gaps, of_kill, of_desk}
use Rattle.wm_language.specs.Spoken.{Forms}
use Rattle.wm_grammar.proofs.ByteLemmas.{word_told}
use Rattle.wm_grammar.proofs.NumberLemmas.{natural_told}
use Rattle.wm_grammar.proofs.FilledLemmas.{begun, nothing_left, Plainly, plain_end, plain_fill, whole_told, said_told, plain_more, choice_told, first_told, only_told, only_number_told, plain_last}
use Rattle.wm_grammar.proofs.TreeTold.{dir_told, px_told, px_more, whole_then, split_told, layout_told, focus_told, move_told, swap_told, kill_told}

-- ---- resize

side_dir : (n : List ℕ) (d : Dir) → n ≡ direction_word d → n ≡ side_word (sides.At d)
side_dir n d e = e

side_told : (w : List ℕ) → AllSome (λ s. in_small w ≡ side_word s) (side_of w)
side_told w = first_told (λ s. in_small w ≡ side_word s) (choice ((codes "width", sides.Width) ∷ (codes "height", sides.Height) ∷ []) w) (option_map sides.At (choice dir_words w))
    (choice_told (λ n s. n ≡ side_word s) ((codes "width", sides.Width) ∷ (codes "height", sides.Height) ∷ []) (refl, (refl, tt)) w)
    (map_some (λ d. in_small w ≡ direction_word d) (λ s. in_small w ≡ side_word s) (choice dir_words w) sides.At (dir_told w) (λ d e. side_dir (in_small w) d e))

-- what stands behind the side
abbrev ByF : Bool → Side → Forms
ByF grow s slots c = ResizeForm (said (codes "resize") ∷ said (grow_word grow) ∷ said (side_word s) ∷ slots) c

-- the command of its amounts
abbrev By : Bool → Side → ℕ × ℕ → Command
By grow s n = commands.Resize grow s n.0 n.1

-- the amounts are told by the text
abbrev Amounts : Bool → Side → (List Slot → List Slot) → List ℕ → ℕ × ℕ → Type 0
Amounts grow s front r n = Plainly (λ slots c. ByF grow s (front slots) c) r (By grow s n)

hundredths_filled : (grow : Bool) (s : Side) (px ppt : ℕ) (r : List ℕ) → says r (codes "or") ≡ true → IsNatural ppt (word (after r)) → says (after (after r)) (codes "ppt") ≡ true → is_nil (after (after (after r))) ≡ true → Amounts grow s (λ slots. number px ∷ said (codes "px") ∷ slots) r (px, ppt)
hundredths_filled grow s px ppt r e h f g =
    record {
      slots = said (codes "or") ∷ number ppt ∷ said (codes "ppt") ∷ [];
      form = resize_ppt grow s px ppt;
      filled = begun (said (codes "or")) (number ppt ∷ said (codes "ppt") ∷ []) r (word_told (word r) (codes "or") e) (begun (number ppt) (said (codes "ppt") ∷ []) (after r) h (begun (said (codes "ppt")) [] (after (after r)) (word_told (word (after (after r))) (codes "ppt") f) (nothing_left (after (after (after r))) g)));
    }

hundredths_told : (grow : Bool) (s : Side) (px : ℕ) (r : List ℕ) → AllSome (Amounts grow s (λ slots. number px ∷ said (codes "px") ∷ slots) r) (hundredths px r)
unfolding hundredths
hundredths_told grow s px r =
    let P : ℕ × ℕ → Type 0 = Amounts grow s (λ slots. number px ∷ said (codes "px") ∷ slots) r in
    let last : ℕ → Option (ℕ × ℕ) = λ ppt. if is_nil (after (after (after r))) then Some (px, ppt) else None in
    let second : ℕ → Option (ℕ × ℕ) = λ ppt. if says (after (after r)) (codes "ppt") then last ppt else None in
    if_some P (is_nil r) (Some (px, 0)) (if says r (codes "or") then natural (word (after r)) >>= second else None)
    (λ e. plain_end (λ slots c. ByF grow s (number px ∷ said (codes "px") ∷ slots) c) r (By grow s (px, 0)) (resize_px grow s px) e)
    (λ e. if_some P (says r (codes "or")) (natural (word (after r)) >>= second) None
    (λ f. bind_some (λ n. IsNatural n (word (after r))) P (natural (word (after r))) second (natural_told (word (after r))) (λ ppt h.
    if_some P (says (after (after r)) (codes "ppt")) (last ppt) None (λ g. if_some P (is_nil (after (after (after r)))) (Some (px, ppt)) None (λ k. hundredths_filled grow s px ppt r f h g k) (λ k. tt)) (λ g. tt)))
    (λ f. tt))

amounts_filled : (grow : Bool) (s : Side) (px : ℕ) (r : List ℕ) (n : ℕ × ℕ) → IsNatural px (word r) → says (after r) (codes "px") ≡ true → Amounts grow s (λ slots. number px ∷ said (codes "px") ∷ slots) (after (after r)) n → Amounts grow s (λ slots. slots) r n
amounts_filled grow s px r n h e k = record { slots = number px ∷ said (codes "px") ∷ k.slots; form = k.form; filled = begun (number px) (said (codes "px") ∷ k.slots) r h (begun (said (codes "px")) k.slots (after r) (word_told (word (after r)) (codes "px") e) k.filled) }

amounts_told : (grow : Bool) (s : Side) (r : List ℕ) → AllSome (Amounts grow s (λ slots. slots) r) (amounts r)
unfolding amounts
amounts_told grow s r =
    let P : ℕ × ℕ → Type 0 = Amounts grow s (λ slots. slots) r in
    let second : ℕ → Option (ℕ × ℕ) = λ px. if says (after r) (codes "px") then hundredths px (after (after r)) else None in
    if_some P (is_nil r) (Some (10, 10)) (natural (word r) >>= second)
    (λ e. plain_end (ByF grow s) r (By grow s (10, 10)) (resize_alone grow s) e)
    (λ e. bind_some (λ n. IsNatural n (word r)) P (natural (word r)) second (natural_told (word r)) (λ px h.
    if_some P (says (after r) (codes "px")) (hundredths px (after (after r))) None
    (λ f. each_some (Amounts grow s (λ slots. number px ∷ said (codes "px") ∷ slots) (after (after r))) P (hundredths px (after (after r))) (hundredths_told grow s px (after (after r))) (λ n k. amounts_filled grow s px r n h f k))
    (λ f. tt)))

resize_by_told : (grow : Bool) (r : List ℕ) → AllSome (Plainly (λ slots c. ResizeForm (said (codes "resize") ∷ said (grow_word grow) ∷ slots) c) r) (resize_by grow r)
unfolding resize_by
resize_by_told grow r =
    let F : Forms = λ slots c. ResizeForm (said (codes "resize") ∷ said (grow_word grow) ∷ slots) c in
    bind_some (λ s. in_small (word r) ≡ side_word s) (Plainly F r) (side_of (word r)) (λ side. option_map (λ n. commands.Resize grow side n.0 n.1) (amounts (after r))) (side_told (word r)) (λ s h.
    map_some (Amounts grow s (λ slots. slots) (after r)) (Plainly F r) (amounts (after r)) (λ n. commands.Resize grow s n.0 n.1) (amounts_told grow s (after r)) (λ n k. plain_fill F (said (side_word s)) r (By grow s n) h k))

set_filled : (r : List ℕ) (w h : ℕ) → IsNatural w (word r) → IsNatural h (word (past_px (after r))) → past_px (after (past_px (after r))) ≡ [] → Plainly (λ slots c. ResizeForm (said (codes "resize") ∷ said (codes "set") ∷ slots) c) r (commands.ResizeSet w h)
set_filled r w h a b e =
    let last = px_told (after (past_px (after r))) e in
    let first = px_more (after r) (number h ∷ last.0) (begun (number h) last.0 (past_px (after r)) b last.2) in
    record { slots = number w ∷ (first.0 ++ number h ∷ last.0); form = resize_to w h first.1 last.1; filled = begun (number w) (first.0 ++ number h ∷ last.0) r a first.2 }

resize_set_told : (r : List ℕ) → AllSome (Plainly (λ slots c. ResizeForm (said (codes "resize") ∷ said (codes "set") ∷ slots) c) r) (resize_set r)
unfolding resize_set
resize_set_told r =
    let P : Command → Type 0 = Plainly (λ slots c. ResizeForm (said (codes "resize") ∷ said (codes "set") ∷ slots) c) r in
    let last : ℕ → ℕ → Option Command = λ w h. whole (past_px (after (past_px (after r)))) (commands.ResizeSet w h) in
    let second : ℕ → Option Command = λ w. natural (word (past_px (after r))) >>= last w in
    bind_some (λ n. IsNatural n (word r)) P (natural (word r)) second (natural_told (word r)) (λ w a.
    bind_some (λ n. IsNatural n (word (past_px (after r)))) P (natural (word (past_px (after r)))) (last w) (natural_told (word (past_px (after r)))) (λ h b.
    whole_then P (past_px (after (past_px (after r)))) (commands.ResizeSet w h) (λ e. set_filled r w h a b e)))

abbrev ResizeF : Forms
ResizeF slots c = ResizeForm (said (codes "resize") ∷ slots) c

resize_told : (r : List ℕ) → AllSome (Plainly ResizeF r) (resize_form r)
unfolding resize_form
resize_told r = if_some (Plainly ResizeF r) (says r (codes "set")) (resize_set (after r)) (if says r (codes "grow") then resize_by true (after r) else (if says r (codes "shrink") then resize_by false (after r) else None))
    (λ e. said_told ResizeF (codes "set") r (resize_set (after r)) e (resize_set_told (after r)))
    (λ e. if_some (Plainly ResizeF r) (says r (codes "grow")) (resize_by true (after r)) (if says r (codes "shrink") then resize_by false (after r) else None)
    (λ f. said_told ResizeF (codes "grow") r (resize_by true (after r)) f (resize_by_told true (after r)))
    (λ f. if_some (Plainly ResizeF r) (says r (codes "shrink")) (resize_by false (after r)) None
    (λ g. said_told ResizeF (codes "shrink") r (resize_by false (after r)) g (resize_by_told false (after r)))
    (λ g. tt)))

-- ---- switches

-- a form whose last slot is a switch
on_switch : (F : Forms) (f : OnOff → Command) → ((a : OnOff) → F (said (switch_word a) ∷ []) (f a)) → (r : List ℕ) → AllSome (Plainly F r) (option_map f (only switch_words r))
on_switch F f g r = map_some (λ a. (in_small (word r) ≡ switch_word a) × (after r ≡ [])) (Plainly F r) (only switch_words r) f
    (only_told (λ n a. n ≡ switch_word a) switch_words (refl, (refl, (refl, tt))) r)
    (λ a h. plain_last F (said (switch_word a)) r (f a) (g a) h.0 h.1)

fullscreen_told : (r : List ℕ) → AllSome (Plainly (λ slots c. SwitchForm (said (codes "fullscreen") ∷ slots) c) r) (fullscreen_form r)
unfolding fullscreen_form
fullscreen_told r =
    let F : Forms = λ slots c. SwitchForm (said (codes "fullscreen") ∷ slots) c in
    if_some (Plainly F r) (is_nil r) (Some (commands.Fullscreen switches.Toggle)) (option_map commands.Fullscreen (only switch_words r)) (λ e. plain_end F r (commands.Fullscreen switches.Toggle) fullscreen_alone e) (λ e. on_switch F commands.Fullscreen fullscreen_switch r)

-- ---- borders, gaps

width_told : (F : Forms) (f : ℕ → Border) → F [] (commands.SetBorder (f 2)) → ((n : ℕ) → F (number n ∷ []) (commands.SetBorder (f n))) → (r : List ℕ) → AllSome (Plainly F r) (option_map (λ n. commands.SetBorder (f n)) (width_form r))
unfolding width_form
width_told F f none some r = by (is_nil r) refl
  where
    by : (b : Bool) → is_nil r ≡ b → AllSome (Plainly F r) (option_map (λ n. commands.SetBorder (f n)) (if b then Some 2 else only_number r))
    by true e = plain_end F r (commands.SetBorder (f 2)) none e
    by false e = map_some (λ n. IsNatural n (word r) × (after r ≡ [])) (Plainly F r) (only_number r) (λ n. commands.SetBorder (f n)) (only_number_told r) (λ n h. plain_last F (number n) r (commands.SetBorder (f n)) (some n) h.0 h.1)

abbrev BorderF : Forms
BorderF slots c = BorderForm (said (codes "border") ∷ slots) c

border_told : (r : List ℕ) → AllSome (Plainly BorderF r) (border_form r)
unfolding border_form
border_told r =
    let normal : Option Command = option_map (λ n. commands.SetBorder (borders.Normal n)) (width_form (after r)) in
    let pixel : Option Command = option_map (λ n. commands.SetBorder (borders.Pixel n)) (width_form (after r)) in
    let none : Option Command = whole (after r) (commands.SetBorder borders.Bare) in
    let toggle : Option Command = whole (after r) commands.CycleBorder in
    if_some (Plainly BorderF r) (says r (codes "normal")) normal (if says r (codes "pixel") then pixel else (if says r (codes "none") then none else (if says r (codes "toggle") then toggle else None)))
    (λ e. said_told BorderF (codes "normal") r normal e (width_told (λ slots c. BorderF (said (codes "normal") ∷ slots) c) borders.Normal border_normal border_normal_wide (after r)))
    (λ e. if_some (Plainly BorderF r) (says r (codes "pixel")) pixel (if says r (codes "none") then none else (if says r (codes "toggle") then toggle else None))
    (λ f. said_told BorderF (codes "pixel") r pixel f (width_told (λ slots c. BorderF (said (codes "pixel") ∷ slots) c) borders.Pixel border_pixel border_pixel_wide (after r)))
    (λ f. if_some (Plainly BorderF r) (says r (codes "none")) none (if says r (codes "toggle") then toggle else None)
    (λ g. said_told BorderF (codes "none") r none g (whole_told (λ slots c. BorderF (said (codes "none") ∷ slots) c) (after r) (commands.SetBorder borders.Bare) border_none))
    (λ g. if_some (Plainly BorderF r) (says r (codes "toggle")) toggle None
    (λ h. said_told BorderF (codes "toggle") r toggle h (whole_told (λ slots c. BorderF (said (codes "toggle") ∷ slots) c) (after r) commands.CycleBorder border_toggle))
    (λ h. tt))))

abbrev GapsF : Forms
GapsF slots c = GapsForm (said (codes "gaps") ∷ slots) c

gaps_filled : (r : List ℕ) (outer all : Bool) (op : GapOp) (n : ℕ) → in_small (word r) ≡ gaps_word outer → in_small (word (after r)) ≡ scope_word all → in_small (word (after (after r))) ≡ change_word op → IsNatural n (word (after (after (after r)))) × (after (after (after (after r))) ≡ []) → Plainly GapsF r (commands.Gaps outer all op n)
gaps_filled r outer all op n a b c h =
    record {
      slots = said (gaps_word outer) ∷ said (scope_word all) ∷ said (change_word op) ∷ number n ∷ [];
      form = gaps_changed outer all op n;
      filled = begun (said (gaps_word outer)) (said (scope_word all) ∷ said (change_word op) ∷ number n ∷ []) r a (begun (said (scope_word all)) (said (change_word op) ∷ number n ∷ []) (after r) b (begun (said (change_word op)) (number n ∷ []) (after (after r)) c (begun (number n) [] (after (after (after r))) h.0 h.1)));
    }

gaps_told : (r : List ℕ) → AllSome (Plainly GapsF r) (gaps_form r)
unfolding gaps_form
gaps_told r =
    let P : Command → Type 0 = Plainly GapsF r in
    let fourth : Bool → Bool → GapOp → Option Command = λ outer all op. option_map (λ px. commands.Gaps outer all op px) (only_number (after (after (after r)))) in
    let third : Bool → Bool → Option Command = λ outer all. choice op_words (word (after (after r))) >>= fourth outer all in
    let second : Bool → Option Command = λ outer. choice scope_words (word (after r)) >>= third outer in
    bind_some (λ b. in_small (word r) ≡ gaps_word b) P (choice gap_words (word r)) second (choice_told (λ n b. n ≡ gaps_word b) gap_words (refl, (refl, tt)) (word r)) (λ outer a.
    bind_some (λ b. in_small (word (after r)) ≡ scope_word b) P (choice scope_words (word (after r))) (third outer) (choice_told (λ n b. n ≡ scope_word b) scope_words (refl, (refl, tt)) (word (after r))) (λ all b.
    bind_some (λ o. in_small (word (after (after r))) ≡ change_word o) P (choice op_words (word (after (after r)))) (fourth outer all) (choice_told (λ n o. n ≡ change_word o) op_words (refl, (refl, (refl, tt))) (word (after (after r)))) (λ op c.
    map_some (λ n. IsNatural n (word (after (after (after r)))) × (after (after (after (after r))) ≡ [])) P (only_number (after (after (after r)))) (λ px. commands.Gaps outer all op px) (only_number_told (after (after (after r)))) (λ n h. gaps_filled r outer all op n a b c h))))

-- ---- the desk

scratchpad_told : (r : List ℕ) → AllSome (Plainly (λ slots c. DeskForm (said (codes "scratchpad") ∷ slots) c) r) (scratchpad_form r)
unfolding scratchpad_form
scratchpad_told r =
    let F : Forms = λ slots c. DeskForm (said (codes "scratchpad") ∷ slots) c in
    if_some (Plainly F r) (says r (codes "show")) (whole (after r) commands.ScratchpadShow) None (λ e. said_told F (codes "show") r (whole (after r) commands.ScratchpadShow) e (whole_told (λ slots c. F (said (codes "show") ∷ slots) c) (after r) commands.ScratchpadShow scratchpad_show)) (λ e. tt)

workspace_told : (r : List ℕ) → AllSome (Plainly (λ slots c. DeskForm (said (codes "workspace") ∷ slots) c) r) (option_map commands.Workspace (only target_words r))
workspace_told r =
    let F : Forms = λ slots c. DeskForm (said (codes "workspace") ∷ slots) c in
    map_some (λ t. TargetWord (in_small (word r)) t × (after r ≡ [])) (Plainly F r) (only target_words r) commands.Workspace
    (only_told TargetWord target_words (target_next, (target_prev, (target_next_on_output, (target_prev_on_output, (target_back_and_forth, tt))))) r)
    (λ t h. plain_last F (said (in_small (word r))) r (commands.Workspace t) (workspace_word h.0) refl h.1)

-- ---- verbs

-- the words of a verb
abbrev pub IsVerb : Verb → List ℕ → Type 0
IsVerb verbs.Split n = n ≡ codes "split"
IsVerb verbs.Layout n = n ≡ codes "layout"
IsVerb verbs.Focus n = n ≡ codes "focus"
IsVerb verbs.Move n = n ≡ codes "move"
IsVerb verbs.Swap n = n ≡ codes "swap"
IsVerb verbs.Resize n = n ≡ codes "resize"
IsVerb verbs.Floating n = n ≡ codes "floating"
IsVerb verbs.Fullscreen n = n ≡ codes "fullscreen"
IsVerb verbs.Border n = n ≡ codes "border"
IsVerb verbs.Gaps n = n ≡ codes "gaps"
IsVerb verbs.Sticky n = n ≡ codes "sticky"
IsVerb verbs.Mark n = n ≡ codes "mark"
IsVerb verbs.Unmark n = n ≡ codes "unmark"
IsVerb verbs.Workspace n = n ≡ codes "workspace"
IsVerb verbs.Rename n = n ≡ codes "rename"
IsVerb verbs.Scratchpad n = n ≡ codes "scratchpad"
IsVerb verbs.Mode n = n ≡ codes "mode"
IsVerb verbs.AppendLayout n = n ≡ codes "append_layout"
IsVerb verbs.TitleFormat n = n ≡ codes "title_format"
IsVerb verbs.Kill n = n ≡ codes "kill"
IsVerb verbs.Nop n = n ≡ codes "nop"
IsVerb verbs.Idle n = IdleWord n
IsVerb verbs.Exit n = n ≡ codes "exit"

abbrev Named : List ℕ → Verb → Type 0
Named n v = IsVerb v n

pub verb_told : (w : List ℕ) → AllSome (λ v. IsVerb v (in_small w)) (verb_of w)
unfolding verb_of
verb_told w =
    first_told (λ v. IsVerb v (in_small w)) (choice tree_verbs w) (first_of (choice window_verbs w) (choice desk_verbs w)) (choice_told Named tree_verbs (refl, (refl, (refl, (refl, (refl, (refl, (refl, (refl, (refl, tt))))))))) w)
    (first_told (λ v. IsVerb v (in_small w)) (choice window_verbs w) (choice desk_verbs w) (choice_told Named window_verbs (refl, (refl, (refl, (refl, (refl, (refl, (refl, tt))))))) w)
    (choice_told Named desk_verbs (refl, (refl, (refl, (refl, (refl, (idle_exec, (idle_open, (idle_reload, (idle_restart, (refl, tt)))))))))) w))

-- behind the verb
abbrev pub BehindVerb : Verb → Forms
BehindVerb v slots c = (n : List ℕ) → IsVerb v n → KeywordForm (said n ∷ slots) c

-- the verb is one word
of_name : (name n : List ℕ) (slots : List Slot) (c : Command) → n ≡ name → KeywordForm (said name ∷ slots) c → KeywordForm (said n ∷ slots) c
of_name name n slots c e f = subst (λ (m : List ℕ). KeywordForm (said m ∷ slots) c) (sym e) f

pub plain_told : (v : Verb) (r : List ℕ) → AllSome (Plainly (BehindVerb v) r) (plain_form v r)
unfolding plain_form
plain_told verbs.Split r = plain_more (λ slots c. SplitForm (said (codes "split") ∷ slots) c) (BehindVerb verbs.Split) r (λ slots c f n e. of_name (codes "split") n slots c e (of_split f)) (split_form r) (split_told r)
plain_told verbs.Layout r = plain_more (λ slots c. LayoutForm (said (codes "layout") ∷ slots) c) (BehindVerb verbs.Layout) r (λ slots c f n e. of_name (codes "layout") n slots c e (of_layout f)) (layout_form r) (layout_told r)
plain_told verbs.Focus r = plain_more (λ slots c. FocusForm (said (codes "focus") ∷ slots) c) (BehindVerb verbs.Focus) r (λ slots c f n e. of_name (codes "focus") n slots c e (of_focus f)) (focus_form r) (focus_told r)
plain_told verbs.Move r = plain_more (λ slots c. MoveForm (said (codes "move") ∷ slots) c) (BehindVerb verbs.Move) r (λ slots c f n e. of_name (codes "move") n slots c e (of_move f)) (move_form r) (move_told r)
plain_told verbs.Swap r = plain_more (λ slots c. SwapForm (said (codes "swap") ∷ slots) c) (BehindVerb verbs.Swap) r (λ slots c f n e. of_name (codes "swap") n slots c e (of_swap f)) (swap_form r) (swap_told r)
plain_told verbs.Resize r = plain_more ResizeF (BehindVerb verbs.Resize) r (λ slots c f n e. of_name (codes "resize") n slots c e (of_resize f)) (resize_form r) (resize_told r)
plain_told verbs.Floating r = on_switch (BehindVerb verbs.Floating) commands.Floating (λ a n e. of_name (codes "floating") n (said (switch_word a) ∷ []) (commands.Floating a) e (of_switch (floating_switch a))) r
plain_told verbs.Fullscreen r = plain_more (λ slots c. SwitchForm (said (codes "fullscreen") ∷ slots) c) (BehindVerb verbs.Fullscreen) r (λ slots c f n e. of_name (codes "fullscreen") n slots c e (of_switch f)) (fullscreen_form r) (fullscreen_told r)
plain_told verbs.Border r = plain_more BorderF (BehindVerb verbs.Border) r (λ slots c f n e. of_name (codes "border") n slots c e (of_border f)) (border_form r) (border_told r)
plain_told verbs.Gaps r = plain_more GapsF (BehindVerb verbs.Gaps) r (λ slots c f n e. of_name (codes "gaps") n slots c e (of_gaps f)) (gaps_form r) (gaps_told r)
plain_told verbs.Sticky r = on_switch (BehindVerb verbs.Sticky) commands.Sticky (λ a n e. of_name (codes "sticky") n (said (switch_word a) ∷ []) (commands.Sticky a) e (of_switch (sticky_switch a))) r
plain_told verbs.Mark r = tt
plain_told verbs.Unmark r = whole_told (BehindVerb verbs.Unmark) r (commands.Unmark None) (λ n e. of_name (codes "unmark") n [] (commands.Unmark None) e (of_desk unmark_alone))
plain_told verbs.Workspace r = plain_more (λ slots c. DeskForm (said (codes "workspace") ∷ slots) c) (BehindVerb verbs.Workspace) r (λ slots c f n e. of_name (codes "workspace") n slots c e (of_desk f)) (option_map commands.Workspace (only target_words r)) (workspace_told r)
plain_told verbs.Rename r = tt
plain_told verbs.Scratchpad r = plain_more (λ slots c. DeskForm (said (codes "scratchpad") ∷ slots) c) (BehindVerb verbs.Scratchpad) r (λ slots c f n e. of_name (codes "scratchpad") n slots c e (of_desk f)) (scratchpad_form r) (scratchpad_told r)
plain_told verbs.Mode r = tt
plain_told verbs.AppendLayout r = tt
plain_told verbs.TitleFormat r = tt
plain_told verbs.Kill r = plain_more (λ slots c. KillForm (said (codes "kill") ∷ slots) c) (BehindVerb verbs.Kill) r (λ slots c f n e. of_name (codes "kill") n slots c e (of_kill f)) (kill_form r) (kill_told r)
plain_told verbs.Nop r = whole_told (BehindVerb verbs.Nop) r commands.Nop (λ n e. of_name (codes "nop") n [] commands.Nop e (of_desk nop_alone))
plain_told verbs.Idle r = whole_told (BehindVerb verbs.Idle) r commands.Idle (λ n e. of_desk (idle_alone e))
plain_told verbs.Exit r = whole_told (BehindVerb verbs.Exit) r commands.Exit (λ n e. of_name (codes "exit") n [] commands.Exit e (of_desk exit_alone))
