-- What reads as a command on the tree is of one of its forms.
use Rattle.std.proofs.Common.{◌≡◌, ℕ, Bool, true, false, List, [], ◌∷◌, ◌++◌, Option, Some, None, refl, sym, subst, codes, inl, inr}
use Rattle.std.specs.Prelude.{if◌then◌else◌, ◌||◌, ◌&&◌, option_map, ℤ}
use Rattle.std.proofs.lemmas.Bool.{or_cases, and_parts}
use Rattle.wm_base.specs.declared.geometry.Dir.{Dir}
use Rattle.wm_language.specs.declared.arguments.Cycle.{Cycle}
use Rattle.wm_language.specs.declared.arguments.Cycle.TheVariants as cycles
use Rattle.wm_language.specs.declared.arguments.Kind.{Kind}
use Rattle.wm_language.specs.declared.arguments.OutArg.{OutArg}
use Rattle.wm_language.specs.declared.arguments.OutArg.TheVariants as outs
use Rattle.wm_language.specs.declared.arguments.Target.{Target}
use Rattle.wm_language.specs.declared.arguments.SwapArg.TheVariants as swaps
use Rattle.wm_language.specs.declared.command.Command.{Command}
use Rattle.wm_language.specs.declared.command.Command.TheVariants as commands
use Rattle.wm_words.specs.Pieces.{◌>>=◌, first_of, is_nil, word, after, is_word, says, choice, only, natural, integer, only_number}
use Rattle.wm_words.specs.Forms.{dir_words, split_words, layout_words, cycle_words, kind_words, sent_words, output_of, past_px, past_to, past_one_to, past_with, whole, split_form, layout_form, only_output, focus_word, focus_form, move_by, position_form, move_to_form, move_workspace_form, move_in, move_form, swap_form, kill_form}
use Rattle.wm_words.proofs.Cuts.{AllSome, if_some}
use Rattle.wm_grammar.proofs.CutCommands.{bind_some, map_some, each_some}
use Rattle.wm_language.specs.Words.{in_small, IsNatural, IsInteger}
use Rattle.wm_language.specs.Slots.{Slot, said, number, signed, Filled, Optional, left_out, there}
use Rattle.wm_language.specs.Arguments.{direction_word, SplitWord, split_h, split_horizontal, split_v, split_vertical, split_t, split_toggle, LayoutWord, layout_default, layout_splith, layout_splitv, layout_tabbed, layout_stacking, layout_stacked, kind_word, OutputWord, output_at, output_current, output_primary, output_next, target_next, target_prev, target_next_on_output, target_prev_on_output, target_back_and_forth, To, to_alone, to_container, to_window}
use Rattle.wm_language.specs.TreeForms.{SplitForm, split_by, LayoutForm, layout_set, layout_toggle, layout_toggle_split, layout_toggle_all, FocusForm, focus_alone, focus_direction, focus_parent, focus_child, focus_kind, focus_output, MoveToForm, to_workspace, to_current, to_output, to_scratchpad, to_position, to_center, MoveForm, move_direction, move_pixels, move_to, move_workspace, SwapForm, swap_con_id, swap_id, KillForm, kill_alone, kill_window, kill_client}
use Rattle.wm_language.specs.Spoken.{Forms}
use Rattle.wm_grammar.proofs.ByteLemmas.{word_told}
use Rattle.wm_grammar.proofs.NumberLemmas.{natural_told, integer_told}
use Rattle.wm_grammar.proofs.FilledLemmas.{begun, nothing_left, Plainly, plain_end, whole_told, said_told, fill_told, Rows, choice_told, first_told, alone_told, only_told, only_number_told, plain_last, optional_told, optional_last}

-- ---- split, layout

pub split_told : (r : List ℕ) → AllSome (Plainly (λ slots c. SplitForm (said (codes "split") ∷ slots) c) r) (split_form r)
unfolding split_form
split_told r = map_some (λ a. SplitWord (in_small (word r)) a × (after r ≡ [])) (Plainly (λ slots c. SplitForm (said (codes "split") ∷ slots) c) r) (only split_words r) commands.Split
    (only_told SplitWord split_words (split_h, (split_horizontal, (split_v, (split_vertical, (split_t, (split_toggle, tt)))))) r)
    (λ a h. plain_last (λ slots c. SplitForm (said (codes "split") ∷ slots) c) (said (in_small (word r))) r (commands.Split a) (split_by h.0) refl h.1)

abbrev LayoutF : Forms
LayoutF slots c = LayoutForm (said (codes "layout") ∷ slots) c

abbrev ToggleF : Forms
ToggleF slots c = LayoutForm (said (codes "layout") ∷ said (codes "toggle") ∷ slots) c

abbrev CycleQ : List ℕ → Cycle → Type 0
CycleQ n a = LayoutForm (said (codes "layout") ∷ said (codes "toggle") ∷ said n ∷ []) (commands.CycleLayout a)

cycle_told : (r : List ℕ) → AllSome (Plainly ToggleF r) (option_map commands.CycleLayout (if is_nil r then Some cycles.Bare else only cycle_words r))
cycle_told r = by (is_nil r) refl
  where
    by : (b : Bool) → is_nil r ≡ b → AllSome (Plainly ToggleF r) (option_map commands.CycleLayout (if b then Some cycles.Bare else only cycle_words r))
    by true e = plain_end ToggleF r (commands.CycleLayout cycles.Bare) layout_toggle e
    by false e = map_some (λ a. CycleQ (in_small (word r)) a × (after r ≡ [])) (Plainly ToggleF r) (only cycle_words r) commands.CycleLayout
        (only_told CycleQ cycle_words (layout_toggle_split, (layout_toggle_all, tt)) r)
        (λ a h. plain_last ToggleF (said (in_small (word r))) r (commands.CycleLayout a) h.0 refl h.1)

pub layout_told : (r : List ℕ) → AllSome (Plainly LayoutF r) (layout_form r)
unfolding layout_form
layout_told r = if_some (Plainly LayoutF r) (says r (codes "toggle")) (option_map commands.CycleLayout (if is_nil (after r) then Some cycles.Bare else only cycle_words (after r))) (option_map commands.SetLayout (only layout_words r))
    (λ e. said_told LayoutF (codes "toggle") r (option_map commands.CycleLayout (if is_nil (after r) then Some cycles.Bare else only cycle_words (after r))) e (cycle_told (after r)))
    (λ e. map_some (λ a. LayoutWord (in_small (word r)) a × (after r ≡ [])) (Plainly LayoutF r) (only layout_words r) commands.SetLayout
    (only_told LayoutWord layout_words (layout_default, (layout_splith, (layout_splitv, (layout_tabbed, (layout_stacking, (layout_stacked, tt)))))) r)
    (λ a h. plain_last LayoutF (said (in_small (word r))) r (commands.SetLayout a) (layout_set h.0) refl h.1))

-- ---- outputs

abbrev pub IsDirection : List ℕ → Dir → Type 0
IsDirection n d = n ≡ direction_word d

pub dir_told : (w : List ℕ) → AllSome (λ d. in_small w ≡ direction_word d) (choice dir_words w)
dir_told w = choice_told IsDirection dir_words (refl, (refl, (refl, (refl, tt)))) w

output_dir : (n : List ℕ) (d : Dir) → n ≡ direction_word d → OutputWord n (outs.At d)
output_dir n d e = subst (λ (m : List ℕ). OutputWord m (outs.At d)) (sym e) (output_at d)

pub output_told : (w : List ℕ) → AllSome (OutputWord (in_small w)) (output_of w)
output_told w = first_told (OutputWord (in_small w)) (choice ((codes "current", outs.Current) ∷ (codes "primary", outs.Primary) ∷ (codes "next", outs.Next) ∷ []) w) (option_map outs.At (choice dir_words w))
    (choice_told OutputWord ((codes "current", outs.Current) ∷ (codes "primary", outs.Primary) ∷ (codes "next", outs.Next) ∷ []) (output_current, (output_primary, (output_next, tt))) w)
    (map_some (λ d. in_small w ≡ direction_word d) (OutputWord (in_small w)) (choice dir_words w) outs.At (dir_told w) (λ d e. output_dir (in_small w) d e))

pub only_output_told : (r : List ℕ) → AllSome (λ o. OutputWord (in_small (word r)) o × (after r ≡ [])) (only_output r)
unfolding only_output
only_output_told r = alone_told (λ o. OutputWord (in_small (word r)) o × (after r ≡ [])) output_of r (λ e. each_some (OutputWord (in_small (word r))) (λ o. OutputWord (in_small (word r)) o × (after r ≡ [])) (output_of (word r)) (output_told (word r)) (λ o k. (k, e)))

-- a form whose last slot is an output
on_output : (F : Forms) (f : OutArg → Command) → ((w : List ℕ) (o : OutArg) → OutputWord w o → F (said w ∷ []) (f o)) → (r : List ℕ) → AllSome (Plainly F r) (option_map f (only_output r))
on_output F f g r = map_some (λ o. OutputWord (in_small (word r)) o × (after r ≡ [])) (Plainly F r) (only_output r) f (only_output_told r) (λ o h. plain_last F (said (in_small (word r))) r (f o) (g (in_small (word r)) o h.0) refl h.1)

-- ---- focus

abbrev FocusF : Forms
FocusF slots c = FocusForm (said (codes "focus") ∷ slots) c

abbrev FocusQ : List ℕ → Command → Type 0
FocusQ n c = FocusForm (said (codes "focus") ∷ said n ∷ []) c

focus_kind_at : (n : List ℕ) (k : Kind) → n ≡ kind_word k → FocusQ n (commands.FocusKind k)
focus_kind_at n k e = subst (λ (m : List ℕ). FocusQ m (commands.FocusKind k)) (sym e) (focus_kind k)

focus_dir_at : (n : List ℕ) (d : Dir) → n ≡ direction_word d → FocusQ n (commands.FocusDir d)
focus_dir_at n d e = subst (λ (m : List ℕ). FocusQ m (commands.FocusDir d)) (sym e) (focus_direction d)

focus_word_told : (w : List ℕ) → AllSome (FocusQ (in_small w)) (focus_word w)
unfolding focus_word
focus_word_told w = if_some (FocusQ (in_small w)) (is_word w (codes "parent")) (Some commands.FocusParent) (if is_word w (codes "child") then Some commands.FocusChild else first_of (option_map commands.FocusKind (choice kind_words w)) (option_map commands.FocusDir (choice dir_words w)))
    (λ e. subst (λ (n : List ℕ). FocusQ n commands.FocusParent) (sym (word_told w (codes "parent") e)) focus_parent)
    (λ e. if_some (FocusQ (in_small w)) (is_word w (codes "child")) (Some commands.FocusChild) (first_of (option_map commands.FocusKind (choice kind_words w)) (option_map commands.FocusDir (choice dir_words w)))
    (λ f. subst (λ (n : List ℕ). FocusQ n commands.FocusChild) (sym (word_told w (codes "child") f)) focus_child)
    (λ f. first_told (FocusQ (in_small w)) (option_map commands.FocusKind (choice kind_words w)) (option_map commands.FocusDir (choice dir_words w))
    (map_some (λ k. in_small w ≡ kind_word k) (FocusQ (in_small w)) (choice kind_words w) commands.FocusKind (choice_told (λ n k. n ≡ kind_word k) kind_words (refl, (refl, (refl, tt))) w) (λ k e. focus_kind_at (in_small w) k e))
    (map_some (λ d. in_small w ≡ direction_word d) (FocusQ (in_small w)) (choice dir_words w) commands.FocusDir (dir_told w) (λ d e. focus_dir_at (in_small w) d e))))

pub focus_told : (r : List ℕ) → AllSome (Plainly FocusF r) (focus_form r)
unfolding focus_form
focus_told r = if_some (Plainly FocusF r) (is_nil r) (Some commands.Focus) (if says r (codes "output") then option_map commands.FocusOutput (only_output (after r)) else (if is_nil (after r) then focus_word (word r) else None))
    (λ e. plain_end FocusF r commands.Focus focus_alone e)
    (λ e. if_some (Plainly FocusF r) (says r (codes "output")) (option_map commands.FocusOutput (only_output (after r))) (if is_nil (after r) then focus_word (word r) else None)
    (λ f. said_told FocusF (codes "output") r (option_map commands.FocusOutput (only_output (after r))) f (on_output (λ slots c. FocusF (said (codes "output") ∷ slots) c) commands.FocusOutput (λ w o h. focus_output h) (after r)))
    (λ f. if_some (Plainly FocusF r) (is_nil (after r)) (focus_word (word r)) None
    (λ g. each_some (FocusQ (in_small (word r))) (Plainly FocusF r) (focus_word (word r)) (focus_word_told (word r)) (λ c h. plain_last FocusF (said (in_small (word r))) r c h refl (nothing_left (after r) g)))
    (λ g. tt)))

-- ---- move

abbrev MoveF : Forms
MoveF slots c = MoveForm (said (codes "move") ∷ slots) c

-- blanks and px, or nothing, up to the end
pub px_told : (r : List ℕ) → past_px r ≡ [] → (o : List Slot) × Optional (codes "px") o × Filled o r
unfolding past_px
px_told r e = optional_last (codes "px") r e

pub px_more : (r : List ℕ) (slots : List Slot) → Filled slots (past_px r) → (o : List Slot) × Optional (codes "px") o × Filled (o ++ slots) r
unfolding past_px
px_more r slots f = optional_told (codes "px") r slots f

pub whole_then : (P : Command → Type 0) (r : List ℕ) (c : Command) → (r ≡ [] → P c) → AllSome P (whole r c)
whole_then P r c f = if_some P (is_nil r) (Some c) None (λ e. f (nothing_left r e)) (λ e. tt)

pixels_told : (d : Dir) (n : ℕ) (r : List ℕ) → IsNatural n (word r) → past_px (after r) ≡ [] → Plainly (λ slots c. MoveF (said (direction_word d) ∷ slots) c) r (commands.MoveDir d n)
pixels_told d n r h e =
    let px = px_told (after r) e in
    record { slots = number n ∷ px.0; form = move_pixels d n px.1; filled = begun (number n) px.0 r h px.2 }

move_by_told : (d : Dir) (r : List ℕ) → AllSome (Plainly (λ slots c. MoveF (said (direction_word d) ∷ slots) c) r) (move_by d r)
unfolding move_by
move_by_told d r =
    let P : Command → Type 0 = Plainly (λ slots c. MoveF (said (direction_word d) ∷ slots) c) r in
    if_some P (is_nil r) (Some (commands.MoveDir d 10)) (natural (word r) >>= λ n. whole (past_px (after r)) (commands.MoveDir d n))
    (λ e. plain_end (λ slots c. MoveF (said (direction_word d) ∷ slots) c) r (commands.MoveDir d 10) (move_direction d) e)
    (λ e. bind_some (λ n. IsNatural n (word r)) P (natural (word r)) (λ n. whole (past_px (after r)) (commands.MoveDir d n)) (natural_told (word r)) (λ n h. whole_then P (past_px (after r)) (commands.MoveDir d n) (λ f. pixels_told d n r h f)))

position_filled : (r : List ℕ) (x y : ℤ) → IsInteger x (word r) → IsInteger y (word (past_px (after r))) → past_px (after (past_px (after r))) ≡ [] → Plainly (λ slots c. MoveToForm (said (codes "position") ∷ slots) c) r (commands.MovePosition x y)
position_filled r x y h k e =
    let last = px_told (after (past_px (after r))) e in
    let first = px_more (after r) (signed y ∷ last.0) (begun (signed y) last.0 (past_px (after r)) k last.2) in
    record { slots = signed x ∷ (first.0 ++ signed y ∷ last.0); form = to_position x y first.1 last.1; filled = begun (signed x) (first.0 ++ signed y ∷ last.0) r h first.2 }

position_told : (r : List ℕ) → AllSome (Plainly (λ slots c. MoveToForm (said (codes "position") ∷ slots) c) r) (position_form r)
unfolding position_form
position_told r =
    let F : Forms = λ slots c. MoveToForm (said (codes "position") ∷ slots) c in
    let P : Command → Type 0 = Plainly F r in
    let last : ℤ → ℤ → Option Command = λ x y. whole (past_px (after (past_px (after r)))) (commands.MovePosition x y) in
    let second : ℤ → Option Command = λ x. integer (word (past_px (after r))) >>= last x in
    if_some P (says r (codes "center")) (whole (after r) commands.MoveCenter) (integer (word r) >>= second)
    (λ e. said_told F (codes "center") r (whole (after r) commands.MoveCenter) e (whole_told (λ slots c. F (said (codes "center") ∷ slots) c) (after r) commands.MoveCenter to_center))
    (λ e. bind_some (λ x. IsInteger x (word r)) P (integer (word r)) second (integer_told (word r)) (λ x h.
    bind_some (λ y. IsInteger y (word (past_px (after r)))) P (integer (word (past_px (after r)))) (last x) (integer_told (word (past_px (after r)))) (λ y k.
    whole_then P (past_px (after (past_px (after r)))) (commands.MovePosition x y) (λ f. position_filled r x y h k f))))

abbrev SentQ : List ℕ → Target → Type 0
SentQ n t = MoveToForm (said (codes "workspace") ∷ said n ∷ []) (commands.MoveToWorkspace t)

sent_rows : Rows SentQ sent_words
sent_rows = (to_current, (to_workspace target_next, (to_workspace target_prev, (to_workspace target_next_on_output, (to_workspace target_prev_on_output, (to_workspace target_back_and_forth, tt))))))

sent_told : (r : List ℕ) → AllSome (Plainly (λ slots c. MoveToForm (said (codes "workspace") ∷ slots) c) r) (option_map commands.MoveToWorkspace (only sent_words r))
sent_told r = map_some (λ t. SentQ (in_small (word r)) t × (after r ≡ [])) (Plainly (λ slots c. MoveToForm (said (codes "workspace") ∷ slots) c) r) (only sent_words r) commands.MoveToWorkspace (only_told SentQ sent_words sent_rows r)
    (λ t h. plain_last (λ slots c. MoveToForm (said (codes "workspace") ∷ slots) c) (said (in_small (word r))) r (commands.MoveToWorkspace t) h.0 refl h.1)

move_to_told : (r : List ℕ) → AllSome (Plainly MoveToForm r) (move_to_form r)
unfolding move_to_form
move_to_told r =
    let workspace : Option Command = option_map commands.MoveToWorkspace (only sent_words (after r)) in
    let output : Option Command = option_map commands.MoveToOutput (only_output (after r)) in
    let scratchpad : Option Command = whole (after r) commands.MoveToScratchpad in
    let position : Option Command = position_form (after r) in
    if_some (Plainly MoveToForm r) (says r (codes "workspace")) workspace (if says r (codes "output") then output else (if says r (codes "scratchpad") then scratchpad else (if says r (codes "position") then position else None)))
    (λ e. said_told MoveToForm (codes "workspace") r workspace e (sent_told (after r)))
    (λ e. if_some (Plainly MoveToForm r) (says r (codes "output")) output (if says r (codes "scratchpad") then scratchpad else (if says r (codes "position") then position else None))
    (λ f. said_told MoveToForm (codes "output") r output f (on_output (λ slots c. MoveToForm (said (codes "output") ∷ slots) c) commands.MoveToOutput (λ w o h. to_output h) (after r)))
    (λ f. if_some (Plainly MoveToForm r) (says r (codes "scratchpad")) scratchpad (if says r (codes "position") then position else None)
    (λ g. said_told MoveToForm (codes "scratchpad") r scratchpad g (whole_told (λ slots c. MoveToForm (said (codes "scratchpad") ∷ slots) c) (after r) commands.MoveToScratchpad to_scratchpad))
    (λ g. if_some (Plainly MoveToForm r) (says r (codes "position")) position None (λ h. said_told MoveToForm (codes "position") r position h (position_told (after r))) (λ h. tt))))

-- container or window, and to
pub past_to_told : (r : List ℕ) (slots : List Slot) → Filled slots (past_to r) → (to : List Slot) × To to × Filled (to ++ slots) r
unfolding past_to
past_to_told r slots f = by (says r (codes "container")) (says r (codes "window")) refl refl f
  where
    by : (a b : Bool) → says r (codes "container") ≡ a → says r (codes "window") ≡ b → Filled slots (if says (if a || b then after r else r) (codes "to") then after (if a || b then after r else r) else (if a || b then after r else r)) → (to : List Slot) × To to × Filled (to ++ slots) r
    by true b e g f = let o = optional_told (codes "to") (after r) slots f in (said (codes "container") ∷ o.0, to_container o.1, begun (said (codes "container")) (o.0 ++ slots) r (word_told (word r) (codes "container") e) o.2)
    by false true e g f = let o = optional_told (codes "to") (after r) slots f in (said (codes "window") ∷ o.0, to_window o.1, begun (said (codes "window")) (o.0 ++ slots) r (word_told (word r) (codes "window") g) o.2)
    by false false e g f = let o = optional_told (codes "to") r slots f in (o.0, to_alone o.1, o.2)

moved_to : (r : List ℕ) (c : Command) → Plainly MoveToForm (past_to r) c → Plainly MoveF r c
moved_to r c k = let o = past_to_told r k.slots k.filled in record { slots = o.0 ++ k.slots; form = move_to o.1 k.form; filled = o.2 }

moved_here : (r : List ℕ) (c : Command) → Plainly MoveToForm r c → Plainly MoveF r c
moved_here r c k = record { slots = k.slots; form = move_to (to_alone left_out) k.form; filled = k.filled }

abbrev WorkspaceF : Forms
WorkspaceF slots c = MoveF (said (codes "workspace") ∷ slots) c

pub one_to_told : (r : List ℕ) (slots : List Slot) → Filled slots (past_one_to r) → (o : List Slot) × Optional (codes "to") o × Filled (o ++ slots) r
unfolding past_one_to
one_to_told r slots f = optional_told (codes "to") r slots f

workspace_output : (r : List ℕ) (o : OutArg) → says (past_one_to r) (codes "output") ≡ true → OutputWord (in_small (word (after (past_one_to r)))) o × (after (after (past_one_to r)) ≡ []) → Plainly WorkspaceF r (commands.MoveWorkspace o)
workspace_output r o e h =
    let w : List ℕ = in_small (word (after (past_one_to r))) in
    let two = begun (said (codes "output")) (said w ∷ []) (past_one_to r) (word_told (word (past_one_to r)) (codes "output") e) (begun (said w) [] (after (past_one_to r)) refl h.1) in
    let to = one_to_told r (said (codes "output") ∷ said w ∷ []) two in
    record { slots = to.0 ++ said (codes "output") ∷ said w ∷ []; form = move_workspace to.1 h.0; filled = to.2 }

move_workspace_told : (r : List ℕ) → AllSome (Plainly WorkspaceF r) (move_workspace_form r)
unfolding move_workspace_form
move_workspace_told r = if_some (Plainly WorkspaceF r) (says (past_one_to r) (codes "output")) (option_map commands.MoveWorkspace (only_output (after (past_one_to r)))) None
    (λ e. map_some (λ o. OutputWord (in_small (word (after (past_one_to r)))) o × (after (after (past_one_to r)) ≡ [])) (Plainly WorkspaceF r) (only_output (after (past_one_to r))) commands.MoveWorkspace (only_output_told (after (past_one_to r))) (λ o h. workspace_output r o e h))
    (λ e. tt)

pub move_told : (r : List ℕ) → AllSome (Plainly MoveF r) (move_form r)
unfolding move_form
move_told r = by (choice dir_words (word r)) (dir_told (word r))
  where
    by : (o : Option Dir) → AllSome (λ d. in_small (word r) ≡ direction_word d) o → AllSome (Plainly MoveF r) (move_in o r)
    by (Some d) h = fill_told MoveF (said (direction_word d)) r (move_by d (after r)) h (move_by_told d (after r))
    by None h = if_some (Plainly MoveF r) (says r (codes "workspace")) (first_of (move_workspace_form (after r)) (move_to_form r)) (move_to_form (past_to r))
        (λ e. first_told (Plainly MoveF r) (move_workspace_form (after r)) (move_to_form r)
        (said_told MoveF (codes "workspace") r (move_workspace_form (after r)) e (move_workspace_told (after r)))
        (each_some (Plainly MoveToForm r) (Plainly MoveF r) (move_to_form r) (move_to_told r) (moved_here r)))
        (λ e. each_some (Plainly MoveToForm (past_to r)) (Plainly MoveF r) (move_to_form (past_to r)) (move_to_told (past_to r)) (moved_to r))

-- ---- swap, kill

abbrev SwapF : Forms
SwapF slots c = SwapForm (said (codes "swap") ∷ slots) c

-- what stands behind container, or not, and with
pub record With (r c : List ℕ) : Type 0 where
  pub front : List Slot
  pub optional : Optional (codes "container") front
  pub more : (slots : List Slot) → Filled slots c → Filled (front ++ said (codes "with") ∷ slots) r

pub with_told : (r : List ℕ) → AllSome (With r) (past_with r)
unfolding past_with
with_told r = by (says r (codes "container")) refl
  where
    by : (b : Bool) → says r (codes "container") ≡ b → AllSome (With r) (if says (if b then after r else r) (codes "with") then Some (after (if b then after r else r)) else None)
    by true e = if_some (With r) (says (after r) (codes "with")) (Some (after (after r))) None
        (λ f. record { front = said (codes "container") ∷ []; optional = there; more = λ slots k. begun (said (codes "container")) (said (codes "with") ∷ slots) r (word_told (word r) (codes "container") e) (begun (said (codes "with")) slots (after r) (word_told (word (after r)) (codes "with") f) k) })
        (λ f. tt)
    by false e = if_some (With r) (says r (codes "with")) (Some (after r)) None
        (λ f. record { front = []; optional = left_out; more = λ slots k. begun (said (codes "with")) slots r (word_told (word r) (codes "with") f) k })
        (λ f. tt)

con_id_told : (r c : List ℕ) (n : ℕ) → With r c → says c (codes "con_id") ≡ true → IsNatural n (word (after c)) × (after (after c) ≡ []) → Plainly SwapF r (commands.Swap (swaps.Con n))
con_id_told r c n w e h = record { slots = w.front ++ said (codes "with") ∷ said (codes "con_id") ∷ number n ∷ []; form = swap_con_id n w.optional; filled = w.more (said (codes "con_id") ∷ number n ∷ []) (begun (said (codes "con_id")) (number n ∷ []) c (word_told (word c) (codes "con_id") e) (begun (number n) [] (after c) h.0 h.1)) }

id_told : (r c : List ℕ) (n : ℕ) → With r c → says c (codes "id") ≡ true → IsNatural n (word (after c)) × (after (after c) ≡ []) → Plainly SwapF r (commands.Swap (swaps.Window n))
id_told r c n w e h = record { slots = w.front ++ said (codes "with") ∷ said (codes "id") ∷ number n ∷ []; form = swap_id n w.optional; filled = w.more (said (codes "id") ∷ number n ∷ []) (begun (said (codes "id")) (number n ∷ []) c (word_told (word c) (codes "id") e) (begun (number n) [] (after c) h.0 h.1)) }

pub swap_told : (r : List ℕ) → AllSome (Plainly SwapF r) (swap_form r)
unfolding swap_form
swap_told r =
    let con : List ℕ → Option Command = λ c. option_map (λ n. commands.Swap (swaps.Con n)) (only_number (after c)) in
    let window : List ℕ → Option Command = λ c. option_map (λ n. commands.Swap (swaps.Window n)) (only_number (after c)) in
    bind_some (With r) (Plainly SwapF r) (past_with r) (λ c. if says c (codes "con_id") then con c else (if says c (codes "id") then window c else None)) (with_told r) (λ c w.
    if_some (Plainly SwapF r) (says c (codes "con_id")) (con c) (if says c (codes "id") then window c else None)
    (λ e. map_some (λ n. IsNatural n (word (after c)) × (after (after c) ≡ [])) (Plainly SwapF r) (only_number (after c)) (λ n. commands.Swap (swaps.Con n)) (only_number_told (after c)) (λ n h. con_id_told r c n w e h))
    (λ e. if_some (Plainly SwapF r) (says c (codes "id")) (window c) None
    (λ f. map_some (λ n. IsNatural n (word (after c)) × (after (after c) ≡ [])) (Plainly SwapF r) (only_number (after c)) (λ n. commands.Swap (swaps.Window n)) (only_number_told (after c)) (λ n h. id_told r c n w f h))
    (λ f. tt)))

abbrev KillF : Forms
KillF slots c = KillForm (said (codes "kill") ∷ slots) c

pub kill_told : (r : List ℕ) → AllSome (Plainly KillF r) (kill_form r)
unfolding kill_form
kill_told r = if_some (Plainly KillF r) (is_nil r || (is_nil (after r) && (says r (codes "window") || says r (codes "client")))) (Some commands.Kill) None (λ e. by e) (λ e. tt)
  where
    by : (is_nil r || (is_nil (after r) && (says r (codes "window") || says r (codes "client")))) ≡ true → Plainly KillF r commands.Kill
    by e = elim (or_cases (is_nil r) (is_nil (after r) && (says r (codes "window") || says r (codes "client"))) e) [
      | inl f ↦ plain_end KillF r commands.Kill kill_alone f
      | inr f ↦
          let both = and_parts (is_nil (after r)) (says r (codes "window") || says r (codes "client")) f in
          elim (or_cases (says r (codes "window")) (says r (codes "client")) both.1) [
            | inl g ↦ plain_last KillF (said (codes "window")) r commands.Kill kill_window (word_told (word r) (codes "window") g) (nothing_left (after r) both.0)
            | inr g ↦ plain_last KillF (said (codes "client")) r commands.Kill kill_client (word_told (word r) (codes "client") g) (nothing_left (after r) both.0)
          ]
    ]
