-- A text of a form of keywords and numbers on the tree reads as its command.
use Rattle.std.proofs.Common.{◌≡◌, ℕ, Bool, true, false, List, [], ◌∷◌, ◌++◌, Option, Some, None, refl, sym, ap, subst, ◌∙◌, codes, arith}
use Rattle.std.specs.Prelude.{if◌then◌else◌, ◌||◌, option_map, ℤ}
use Rattle.wm_base.specs.declared.geometry.Dir.{Dir}
use Rattle.wm_base.specs.declared.geometry.Dir.TheVariants as dirs
use Rattle.wm_language.specs.declared.arguments.SplitArg.{SplitArg}
use Rattle.wm_language.specs.declared.arguments.LayoutArg.{LayoutArg}
use Rattle.wm_language.specs.declared.arguments.Kind.{Kind}
use Rattle.wm_language.specs.declared.arguments.Kind.TheVariants as kinds
use Rattle.wm_language.specs.declared.arguments.OutArg.{OutArg}
use Rattle.wm_language.specs.declared.arguments.OutArg.TheVariants as outs
use Rattle.wm_language.specs.declared.arguments.Target.{Target}
use Rattle.wm_language.specs.declared.command.Command.{Command}
use Rattle.wm_language.specs.declared.command.Command.TheVariants as commands
use Rattle.wm_words.specs.Pieces.{◌>>=◌, first_of, is_nil, until, from, skip, word, after, is_word, is_text, says, choice, integer, only_number}
use Rattle.wm_words.specs.Forms.{dir_words, split_words, layout_words, cycle_words, kind_words, target_words, sent_words, output_of, past_px, past_to, past_one_to, past_with, whole, split_form, layout_form, only_output, focus_word, focus_form, move_by, position_form, move_to_form, move_workspace_form, move_in, move_form, swap_form, kill_form}
use Rattle.wm_language.specs.Words.{in_small}
use Rattle.wm_language.specs.Slots.{Slot, said, number, signed, Optional, left_out, there}
use Rattle.wm_language.specs.Arguments.{direction_word, SplitWord, split_h, split_horizontal, split_v, split_vertical, split_t, split_toggle, LayoutWord, layout_default, layout_splith, layout_splitv, layout_tabbed, layout_stacking, layout_stacked, kind_word, OutputWord, output_at, output_current, output_primary, output_next, TargetWord, target_next, target_prev, target_next_on_output, target_prev_on_output, target_back_and_forth, To, to_alone, to_container, to_window}
use Rattle.wm_language.specs.TreeForms.{SplitForm, split_by, LayoutForm, layout_set, layout_toggle, layout_toggle_split, layout_toggle_all, FocusForm, focus_alone, focus_direction, focus_parent, focus_child, focus_kind, focus_output, MoveToForm, to_workspace, to_current, to_output, to_scratchpad, to_position, to_center, MoveForm, move_direction, move_pixels, move_to, move_workspace, SwapForm, swap_con_id, swap_id, KillForm, kill_alone, kill_window, kill_client}
use Rattle.wm_grammar.proofs.ByteLemmas.{word_says}
use Rattle.wm_grammar.proofs.RowLemmas.{Row, NoName, exact, choice_back, single_back, only_back, only_number_back}

-- where a word says what it is known to be, or not
pub says_it : (r n name : List ℕ) (b : Bool) → in_small (word r) ≡ n → is_text n name ≡ b → says r name ≡ b
says_it r n name b e f = word_says (word r) n name e ∙ f

pub if_yes : {A : Type 0} (b : Bool) (x y z : A) → b ≡ true → x ≡ z → (if b then x else y) ≡ z
if_yes true x y z e f = f
if_yes false x y z e f = absurd cc

pub if_no : {A : Type 0} (b : Bool) (x y z : A) → b ≡ false → y ≡ z → (if b then x else y) ≡ z
if_no true x y z e f = absurd cc
if_no false x y z e f = f

-- ---- split, layout

split_exact : (w : List ℕ) (a : SplitArg) → SplitWord w a → exact split_words w ≡ Some a
unfolding is_text
split_exact w a split_h = refl
split_exact w a split_horizontal = refl
split_exact w a split_v = refl
split_exact w a split_vertical = refl
split_exact w a split_t = refl
split_exact w a split_toggle = refl

pub split_back : (slots : List Slot) (c : Command) → SplitForm slots c → (rest e r : List ℕ) → Row slots rest e r → (in_small (word r) ≡ codes "split") × (split_form (after r) ≡ Some c) × (e ≡ rest)
unfolding split_form
split_back slots c (split_by {w = w} {a = a} s) rest e r h =
    let tail = h.2 in
    (h.1, ap (option_map commands.Split) (only_back split_words (after r) w tail.1 tail.2.0 ∙ split_exact w a s), tail.2.1)

layout_exact : (w : List ℕ) (a : LayoutArg) → LayoutWord w a → (is_text w (codes "toggle") ≡ false) × (exact layout_words w ≡ Some a)
unfolding is_text
layout_exact w a layout_default = (refl, refl)
layout_exact w a layout_splith = (refl, refl)
layout_exact w a layout_splitv = (refl, refl)
layout_exact w a layout_tabbed = (refl, refl)
layout_exact w a layout_stacking = (refl, refl)
layout_exact w a layout_stacked = (refl, refl)

pub layout_back : (slots : List Slot) (c : Command) → LayoutForm slots c → (rest e r : List ℕ) → Row slots rest e r → (in_small (word r) ≡ codes "layout") × (layout_form (after r) ≡ Some c) × (e ≡ rest)
unfolding layout_form is_text
layout_back slots c (layout_set {w = w} {a = a} s) rest e r h =
    let k = layout_exact w a s in
    (h.1, if_no _ _ _ _ (says_it (after r) w (codes "toggle") false h.2.1 k.0) (ap (option_map commands.SetLayout) (only_back layout_words (after r) w h.2.1 h.2.2.0 ∙ k.1)), h.2.2.1)
layout_back slots c layout_toggle rest e r h =
    (h.1, if_yes _ _ _ _ (says_it (after r) (codes "toggle") (codes "toggle") true h.2.1 refl) (ap (option_map commands.CycleLayout) (if_yes _ _ _ _ (ap is_nil h.2.2.0) refl)), h.2.2.1)
layout_back slots c layout_toggle_split rest e r h =
    (h.1, if_yes _ _ _ _ (says_it (after r) (codes "toggle") (codes "toggle") true h.2.1 refl) (ap (option_map commands.CycleLayout) (if_no _ _ _ _ h.2.2.0 (only_back cycle_words (after (after r)) (codes "split") h.2.2.1 h.2.2.2.0))), h.2.2.2.1)
layout_back slots c layout_toggle_all rest e r h =
    (h.1, if_yes _ _ _ _ (says_it (after r) (codes "toggle") (codes "toggle") true h.2.1 refl) (ap (option_map commands.CycleLayout) (if_no _ _ _ _ h.2.2.0 (only_back cycle_words (after (after r)) (codes "all") h.2.2.1 h.2.2.2.0))), h.2.2.2.1)

-- ---- outputs

pub dir_exact : (d : Dir) → exact dir_words (direction_word d) ≡ Some d
unfolding is_text
dir_exact dirs.Left = refl
dir_exact dirs.Right = refl
dir_exact dirs.Up = refl
dir_exact dirs.Down = refl

abbrev output_words : List (List ℕ × OutArg)
output_words = (codes "current", outs.Current) ∷ (codes "primary", outs.Primary) ∷ (codes "next", outs.Next) ∷ []

output_exact : (w : List ℕ) (o : OutArg) → OutputWord w o → first_of (exact output_words w) (option_map outs.At (exact dir_words w)) ≡ Some o
unfolding is_text
output_exact w o (output_at dirs.Left) = refl
output_exact w o (output_at dirs.Right) = refl
output_exact w o (output_at dirs.Up) = refl
output_exact w o (output_at dirs.Down) = refl
output_exact w o output_current = refl
output_exact w o output_primary = refl
output_exact w o output_next = refl

pub output_back : (w n : List ℕ) (o : OutArg) → in_small w ≡ n → OutputWord n o → output_of w ≡ Some o
output_back w n o e s = rw (choice_back output_words w n e, choice_back dir_words w n e) (output_exact n o s)

pub only_output_back : (r n : List ℕ) (o : OutArg) → in_small (word r) ≡ n → after r ≡ [] → OutputWord n o → only_output r ≡ Some o
unfolding only_output
only_output_back r n o e f s = ap (λ (k : Option (List ℕ)). k >>= output_of) (single_back r f) ∙ output_back (word r) n o e s

-- ---- focus

abbrev focus_exact : List ℕ → Option Command
focus_exact n =
    if is_text n (codes "parent") then Some commands.FocusParent
    else if is_text n (codes "child") then Some commands.FocusChild
    else first_of (option_map commands.FocusKind (exact kind_words n)) (option_map commands.FocusDir (exact dir_words n))

focus_word_back : (w n : List ℕ) → in_small w ≡ n → focus_word w ≡ focus_exact n
unfolding focus_word
focus_word_back w n e = rw (word_says w n (codes "parent") e, word_says w n (codes "child") e, choice_back kind_words w n e, choice_back dir_words w n e) refl

-- focus and one word
focus_one : (r n : List ℕ) (c : Command) → is_nil r ≡ false → in_small (word r) ≡ n → after r ≡ [] → is_text n (codes "output") ≡ false → focus_exact n ≡ Some c → focus_form r ≡ Some c
unfolding focus_form
focus_one r n c some e f miss k = if_no _ _ _ _ some (if_no _ _ _ _ (says_it r n (codes "output") false e miss) (if_yes _ _ _ _ (ap is_nil f) (focus_word_back (word r) n e ∙ k)))

focus_dir_exact : (d : Dir) → (is_text (direction_word d) (codes "output") ≡ false) × (focus_exact (direction_word d) ≡ Some (commands.FocusDir d))
unfolding is_text
focus_dir_exact dirs.Left = (refl, refl)
focus_dir_exact dirs.Right = (refl, refl)
focus_dir_exact dirs.Up = (refl, refl)
focus_dir_exact dirs.Down = (refl, refl)

focus_kind_exact : (k : Kind) → (is_text (kind_word k) (codes "output") ≡ false) × (focus_exact (kind_word k) ≡ Some (commands.FocusKind k))
unfolding is_text
focus_kind_exact kinds.Floating = (refl, refl)
focus_kind_exact kinds.Tiling = (refl, refl)
focus_kind_exact kinds.Toggle = (refl, refl)

pub focus_back : (slots : List Slot) (c : Command) → FocusForm slots c → (rest e r : List ℕ) → Row slots rest e r → (in_small (word r) ≡ codes "focus") × (focus_form (after r) ≡ Some c) × (e ≡ rest)
unfolding focus_form is_text
focus_back slots c focus_alone rest e r h = (h.1, if_yes _ _ _ _ (ap is_nil h.2.0) refl, h.2.1)
focus_back slots c (focus_direction d) rest e r h = let k = focus_dir_exact d in (h.1, focus_one (after r) (direction_word d) (commands.FocusDir d) h.2.0 h.2.1 h.2.2.0 k.0 k.1, h.2.2.1)
focus_back slots c focus_parent rest e r h = (h.1, focus_one (after r) (codes "parent") commands.FocusParent h.2.0 h.2.1 h.2.2.0 refl refl, h.2.2.1)
focus_back slots c focus_child rest e r h = (h.1, focus_one (after r) (codes "child") commands.FocusChild h.2.0 h.2.1 h.2.2.0 refl refl, h.2.2.1)
focus_back slots c (focus_kind k) rest e r h = let x = focus_kind_exact k in (h.1, focus_one (after r) (kind_word k) (commands.FocusKind k) h.2.0 h.2.1 h.2.2.0 x.0 x.1, h.2.2.1)
focus_back slots c (focus_output {w = w} {o = o} s) rest e r h =
    (h.1, if_no _ _ _ _ h.2.0 (if_yes _ _ _ _ (says_it (after r) (codes "output") (codes "output") true h.2.1 refl) (ap (option_map commands.FocusOutput) (only_output_back (after (after r)) w o h.2.2.1 h.2.2.2.0 s))), h.2.2.2.1)

-- ---- words that may be left out

px_nothing : past_px [] ≡ []
unfolding past_px until from skip is_word
px_nothing = refl

-- the word px, or nothing, up to the end
pub px_end : (px : List Slot) → Optional (codes "px") px → (rest e r : List ℕ) → Row px rest e r → (past_px r ≡ []) × (e ≡ rest)
unfolding past_px is_text
px_end px left_out rest e r h = (ap past_px h.0 ∙ px_nothing, h.1)
px_end px there rest e r h = (if_yes _ _ _ _ (says_it r (codes "px") (codes "px") true h.1 refl) h.2.0, h.2.1)

px_kept : (r : List ℕ) → NoName (word r) → past_px r ≡ r
unfolding past_px
px_kept r h = if_no _ _ _ _ (h 112 (120 ∷ []) (omega arith)) refl

px_gone : (r : List ℕ) → in_small (word r) ≡ codes "px" → past_px r ≡ after r
unfolding past_px is_text
px_gone r h = if_yes _ _ _ _ (says_it r (codes "px") (codes "px") true h refl) refl

pub px_signed : (px : List Slot) → Optional (codes "px") px → (z : ℤ) (slots : List Slot) (rest e r : List ℕ) → Row (px ++ signed z ∷ slots) rest e r → Row (signed z ∷ slots) rest e (past_px r)
px_signed px left_out z slots rest e r h = subst (Row (signed z ∷ slots) rest e) (sym (px_kept r h.2)) h
px_signed px there z slots rest e r h = subst (Row (signed z ∷ slots) rest e) (sym (px_gone r h.1)) h.2

pub px_number : (px : List Slot) → Optional (codes "px") px → (n : ℕ) (slots : List Slot) (rest e r : List ℕ) → Row (px ++ number n ∷ slots) rest e r → Row (number n ∷ slots) rest e (past_px r)
px_number px left_out n slots rest e r h = subst (Row (number n ∷ slots) rest e) (sym (px_kept r h.2)) h
px_number px there n slots rest e r h = subst (Row (number n ∷ slots) rest e) (sym (px_gone r h.1)) h.2

-- the first word is none that may be left out, and no direction
pub record Names (r : List ℕ) : Type 0 where
  pub name : List ℕ
  pub is : in_small (word r) ≡ name
  pub no_to : is_text name (codes "to") ≡ false
  pub no_container : is_text name (codes "container") ≡ false
  pub no_window : is_text name (codes "window") ≡ false
  pub no_dir : exact dir_words name ≡ None

-- container or window, and to, are passed over
to_gone : (r : List ℕ) → Names r → past_to r ≡ r
unfolding past_to
to_gone r n =
    let a : says r (codes "container") ≡ false = says_it r n.name (codes "container") false n.is n.no_container in
    let b : says r (codes "window") ≡ false = says_it r n.name (codes "window") false n.is n.no_window in
    let c : says r (codes "to") ≡ false = says_it r n.name (codes "to") false n.is n.no_to in
    rw (a, b, c) refl

to_alone_gone : (r : List ℕ) → in_small (word r) ≡ codes "to" → past_to r ≡ after r
unfolding past_to is_text
to_alone_gone r h =
    let a : says r (codes "container") ≡ false = says_it r (codes "to") (codes "container") false h refl in
    let b : says r (codes "window") ≡ false = says_it r (codes "to") (codes "window") false h refl in
    let c : says r (codes "to") ≡ true = says_it r (codes "to") (codes "to") true h refl in
    rw (a, b, c) refl

-- behind container or window
word_gone : (r : List ℕ) (name : List ℕ) → in_small (word r) ≡ name → (is_text name (codes "container") || is_text name (codes "window")) ≡ true → past_to r ≡ (if says (after r) (codes "to") then after (after r) else after r)
unfolding past_to
word_gone r name h k =
    let a : (says r (codes "container") || says r (codes "window")) ≡ true = ap (λ (b : Bool). b || says r (codes "window")) (word_says (word r) name (codes "container") h) ∙ (ap (λ (b : Bool). is_text name (codes "container") || b) (word_says (word r) name (codes "window") h) ∙ k) in
    rw a refl

word_to_gone : (r name : List ℕ) (slots : List Slot) → ((rest e r : List ℕ) → Row slots rest e r → Names r) → (to : List Slot) → Optional (codes "to") to → (rest e : List ℕ) → in_small (word r) ≡ name → (is_text name (codes "container") || is_text name (codes "window")) ≡ true → Row (to ++ slots) rest e (after r) → Row slots rest e (past_to r)
unfolding is_text
word_to_gone r name slots names to left_out rest e h k f =
    let n = names rest e (after r) f in
    let c : says (after r) (codes "to") ≡ false = says_it (after r) n.name (codes "to") false n.is n.no_to in
    subst (Row slots rest e) (sym (word_gone r name h k ∙ if_no _ _ _ _ c refl)) f
word_to_gone r name slots names to there rest e h k f =
    let c : says (after r) (codes "to") ≡ true = says_it (after r) (codes "to") (codes "to") true f.1 refl in
    subst (Row slots rest e) (sym (word_gone r name h k ∙ if_yes _ _ _ _ c refl)) f.2

pub to_back : (to slots : List Slot) → To to → ((rest e r : List ℕ) → Row slots rest e r → Names r) → (rest e r : List ℕ) → Row (to ++ slots) rest e r → Row slots rest e (past_to r)
unfolding is_text
to_back to slots (to_alone left_out) names rest e r h = subst (Row slots rest e) (sym (to_gone r (names rest e r h))) h
to_back to slots (to_alone there) names rest e r h = subst (Row slots rest e) (sym (to_alone_gone r h.1)) h.2
to_back to slots (to_container {to = more} o) names rest e r h = word_to_gone r (codes "container") slots names more o rest e h.1 refl h.2
to_back to slots (to_window {to = more} o) names rest e r h = word_to_gone r (codes "window") slots names more o rest e h.1 refl h.2

-- the first word of what stands behind move, where it is no direction and not workspace
pub record Moved (r : List ℕ) : Type 0 where
  pub no_dir : choice dir_words (word r) ≡ None
  pub no_workspace : says r (codes "workspace") ≡ false

no_dir_at : (r n : List ℕ) → in_small (word r) ≡ n → exact dir_words n ≡ None → choice dir_words (word r) ≡ None
no_dir_at r n e f = choice_back dir_words (word r) n e ∙ f

pub moved_word : (r n : List ℕ) → in_small (word r) ≡ n → exact dir_words n ≡ None → is_text n (codes "workspace") ≡ false → Moved r
moved_word r n e f g = record { no_dir = no_dir_at r n e f; no_workspace = says_it r n (codes "workspace") false e g }

pub one_to_back : (to : List Slot) → Optional (codes "to") to → (slots : List Slot) (rest e r : List ℕ) → Row (to ++ said (codes "output") ∷ slots) rest e r → Row (said (codes "output") ∷ slots) rest e (past_one_to r)
unfolding past_one_to is_text
one_to_back to left_out slots rest e r h = subst (Row (said (codes "output") ∷ slots) rest e) (sym (if_no (says r (codes "to")) (after r) r r (says_it r (codes "output") (codes "to") false h.1 refl) refl)) h
one_to_back to there slots rest e r h = subst (Row (said (codes "output") ∷ slots) rest e) (sym (if_yes (says r (codes "to")) (after r) r (after r) (says_it r (codes "to") (codes "to") true h.1 refl) refl)) h.2

-- ---- move

whole_back : (r : List ℕ) (c : Command) → r ≡ [] → whole r c ≡ Some c
whole_back r c e = ap (λ (t : List ℕ). whole t c) e

move_by_back : (d : Dir) (n : ℕ) (px : List Slot) → Optional (codes "px") px → (rest e r : List ℕ) → Row (number n ∷ px) rest e r → (move_by d r ≡ Some (commands.MoveDir d n)) × (e ≡ rest)
unfolding move_by
move_by_back d n px o rest e r h =
    let k = px_end px o rest e (after r) h.3 in
    (if_no _ _ _ _ h.0 (ap (λ (x : Option ℕ). x >>= λ m. whole (past_px (after r)) (commands.MoveDir d m)) h.1 ∙ whole_back (past_px (after r)) (commands.MoveDir d n) k.0), k.1)

position_back : (x y : ℤ) (px px' : List Slot) → Optional (codes "px") px → Optional (codes "px") px' → (rest e r : List ℕ) → Row (signed x ∷ (px ++ signed y ∷ px')) rest e r → (position_form r ≡ Some (commands.MovePosition x y)) × (e ≡ rest)
unfolding position_form
position_back x y px px' o o' rest e r h =
    let k = px_signed px o y px' rest e (after r) h.3 in
    let l = px_end px' o' rest e (after (past_px (after r))) k.3 in (
      if_no _ _ _ _ (h.2 99 (101 ∷ 110 ∷ 116 ∷ 101 ∷ 114 ∷ []) (omega arith)) (ap (λ (o : Option ℤ). o >>= λ x. integer (word (past_px (after r))) >>= λ y. whole (past_px (after (past_px (after r)))) (commands.MovePosition x y)) h.1
          ∙ (ap (λ (o : Option ℤ). o >>= λ y. whole (past_px (after (past_px (after r)))) (commands.MovePosition x y)) k.1 ∙ whole_back (past_px (after (past_px (after r)))) (commands.MovePosition x y) l.0)),
      l.1,
    )

-- the keyword of a workspace
target_exact : (w : List ℕ) (t : Target) → TargetWord w t → (exact sent_words w ≡ Some t) × (exact target_words w ≡ Some t) × (is_text w (codes "to") ≡ false) × (is_text w (codes "output") ≡ false)
unfolding is_text
target_exact w t target_next = (refl, refl, refl, refl)
target_exact w t target_prev = (refl, refl, refl, refl)
target_exact w t target_next_on_output = (refl, refl, refl, refl)
target_exact w t target_prev_on_output = (refl, refl, refl, refl)
target_exact w t target_back_and_forth = (refl, refl, refl, refl)

pub target_back : (w : List ℕ) (t : Target) → TargetWord w t → exact target_words w ≡ Some t
target_back w t s = (target_exact w t s).1

pub move_to_back : (slots : List Slot) (c : Command) → MoveToForm slots c → (rest e r : List ℕ) → Row slots rest e r → (move_to_form r ≡ Some c) × (e ≡ rest)
unfolding move_to_form position_form is_text
move_to_back slots c (to_workspace {w = w} {t = t} s) rest e r h = (if_yes _ _ _ _ (says_it r (codes "workspace") (codes "workspace") true h.1 refl) (ap (option_map commands.MoveToWorkspace) (only_back sent_words (after r) w h.2.1 h.2.2.0 ∙ (target_exact w t s).0)), h.2.2.1)
move_to_back slots c to_current rest e r h = (if_yes _ _ _ _ (says_it r (codes "workspace") (codes "workspace") true h.1 refl) (ap (option_map commands.MoveToWorkspace) (only_back sent_words (after r) (codes "current") h.2.1 h.2.2.0)), h.2.2.1)
move_to_back slots c (to_output {w = w} {o = o} s) rest e r h =
    (if_no _ _ _ _ (says_it r (codes "output") (codes "workspace") false h.1 refl) (if_yes _ _ _ _ (says_it r (codes "output") (codes "output") true h.1 refl) (ap (option_map commands.MoveToOutput) (only_output_back (after r) w o h.2.1 h.2.2.0 s))), h.2.2.1)
move_to_back slots c to_scratchpad rest e r h =
    (if_no _ _ _ _ (says_it r (codes "scratchpad") (codes "workspace") false h.1 refl) (if_no _ _ _ _ (says_it r (codes "scratchpad") (codes "output") false h.1 refl) (if_yes _ _ _ _ (says_it r (codes "scratchpad") (codes "scratchpad") true h.1 refl) (whole_back (after r) commands.MoveToScratchpad h.2.0))), h.2.1)
move_to_back slots c (to_position x y {px = px} {px' = px'} o o') rest e r h =
    let k = position_back x y px px' o o' rest e (after r) h.2 in
    (if_no _ _ _ _ (says_it r (codes "position") (codes "workspace") false h.1 refl) (if_no _ _ _ _ (says_it r (codes "position") (codes "output") false h.1 refl) (if_no _ _ _ _ (says_it r (codes "position") (codes "scratchpad") false h.1 refl) (if_yes _ _ _ _ (says_it r (codes "position") (codes "position") true h.1 refl) k.0))), k.1)
move_to_back slots c to_center rest e r h =
    (if_no _ _ _ _ (says_it r (codes "position") (codes "workspace") false h.1 refl) (if_no _ _ _ _ (says_it r (codes "position") (codes "output") false h.1 refl) (if_no _ _ _ _ (says_it r (codes "position") (codes "scratchpad") false h.1 refl) (if_yes _ _ _ _ (says_it r (codes "position") (codes "position") true h.1 refl) (if_yes _ _ _ _ (says_it (after r) (codes "center") (codes "center") true h.2.1 refl) (whole_back (after (after r)) commands.MoveCenter h.2.2.0))))), h.2.2.1)

names_at : (r n : List ℕ) → in_small (word r) ≡ n → is_text n (codes "to") ≡ false → is_text n (codes "container") ≡ false → is_text n (codes "window") ≡ false → exact dir_words n ≡ None → Names r
names_at r n e a b c d = record { name = n; is = e; no_to = a; no_container = b; no_window = c; no_dir = d }

move_to_names : (slots : List Slot) (c : Command) → MoveToForm slots c → (rest e r : List ℕ) → Row slots rest e r → Names r
unfolding is_text
move_to_names slots c (to_workspace s) rest e r h = names_at r (codes "workspace") h.1 refl refl refl refl
move_to_names slots c to_current rest e r h = names_at r (codes "workspace") h.1 refl refl refl refl
move_to_names slots c (to_output s) rest e r h = names_at r (codes "output") h.1 refl refl refl refl
move_to_names slots c to_scratchpad rest e r h = names_at r (codes "scratchpad") h.1 refl refl refl refl
move_to_names slots c (to_position x y o o') rest e r h = names_at r (codes "position") h.1 refl refl refl refl
move_to_names slots c to_center rest e r h = names_at r (codes "position") h.1 refl refl refl refl

-- no direction, and not workspace
move_on : (r : List ℕ) (c : Command) → Moved r → move_to_form (past_to r) ≡ Some c → move_form r ≡ Some c
unfolding move_form
move_on r c m e = rw (m.no_dir, m.no_workspace) e

-- workspace, and no output behind it
workspace_on : (r n : List ℕ) (c : Command) → in_small (word r) ≡ codes "workspace" → in_small (word (after r)) ≡ n → is_text n (codes "to") ≡ false → is_text n (codes "output") ≡ false → move_to_form r ≡ Some c → move_form r ≡ Some c
unfolding move_form move_workspace_form past_one_to is_text
workspace_on r n c e f no_to no_output k =
    let a : choice dir_words (word r) ≡ None = no_dir_at r (codes "workspace") e refl in
    let b : says r (codes "workspace") ≡ true = says_it r (codes "workspace") (codes "workspace") true e refl in
    let d : says (after r) (codes "to") ≡ false = says_it (after r) n (codes "to") false f no_to in
    let g : says (after r) (codes "output") ≡ false = says_it (after r) n (codes "output") false f no_output in
    rw (a, b, d, g) k

move_alone : (slots : List Slot) (c : Command) → MoveToForm slots c → (rest e r : List ℕ) → Row slots rest e r → (move_form r ≡ Some c) × (e ≡ rest)
unfolding is_text
move_alone slots c (to_workspace {w = w} {t = t} s) rest e r h = let k = move_to_back slots c (to_workspace s) rest e r h in let x = target_exact w t s in (workspace_on r w c h.1 h.2.1 x.2 x.3 k.0, k.1)
move_alone slots c to_current rest e r h = let k = move_to_back slots c to_current rest e r h in (workspace_on r (codes "current") c h.1 h.2.1 refl refl k.0, k.1)
move_alone slots c (to_output s) rest e r h = let k = move_to_back slots c (to_output s) rest e (past_to r) (to_back [] slots (to_alone left_out) (move_to_names slots c (to_output s)) rest e r h) in (move_on r c (moved_word r (codes "output") h.1 refl refl) k.0, k.1)
move_alone slots c to_scratchpad rest e r h = let k = move_to_back slots c to_scratchpad rest e (past_to r) (to_back [] slots (to_alone left_out) (move_to_names slots c to_scratchpad) rest e r h) in (move_on r c (moved_word r (codes "scratchpad") h.1 refl refl) k.0, k.1)
move_alone slots c (to_position x y o o') rest e r h = let k = move_to_back slots c (to_position x y o o') rest e (past_to r) (to_back [] slots (to_alone left_out) (move_to_names slots c (to_position x y o o')) rest e r h) in (move_on r c (moved_word r (codes "position") h.1 refl refl) k.0, k.1)
move_alone slots c to_center rest e r h = let k = move_to_back slots c to_center rest e (past_to r) (to_back [] slots (to_alone left_out) (move_to_names slots c to_center) rest e r h) in (move_on r c (moved_word r (codes "position") h.1 refl refl) k.0, k.1)

move_behind : (to slots : List Slot) (c : Command) → To to → MoveToForm slots c → (rest e r : List ℕ) → Row (to ++ slots) rest e r → Moved r → (move_form r ≡ Some c) × (e ≡ rest)
move_behind to slots c t s rest e r h m = let k = move_to_back slots c s rest e (past_to r) (to_back to slots t (move_to_names slots c s) rest e r h) in (move_on r c m k.0, k.1)

move_all : (to slots : List Slot) (c : Command) → To to → MoveToForm slots c → (rest e r : List ℕ) → Row (to ++ slots) rest e r → (move_form r ≡ Some c) × (e ≡ rest)
unfolding is_text
move_all to slots c (to_alone left_out) s rest e r h = move_alone slots c s rest e r h
move_all to slots c (to_alone there) s rest e r h = move_behind to slots c (to_alone there) s rest e r h (moved_word r (codes "to") h.1 refl refl)
move_all to slots c (to_container o) s rest e r h = move_behind to slots c (to_container o) s rest e r h (moved_word r (codes "container") h.1 refl refl)
move_all to slots c (to_window o) s rest e r h = move_behind to slots c (to_window o) s rest e r h (moved_word r (codes "window") h.1 refl refl)

workspace_to_back : (to : List Slot) (w : List ℕ) (o : OutArg) → Optional (codes "to") to → OutputWord w o → (rest e r : List ℕ) → Row (said (codes "workspace") ∷ (to ++ said (codes "output") ∷ said w ∷ [])) rest e r → (move_form r ≡ Some (commands.MoveWorkspace o)) × (e ≡ rest)
unfolding move_form move_workspace_form is_text
workspace_to_back to w o t s rest e r h =
    let k = one_to_back to t (said w ∷ []) rest e (after r) h.2 in
    let a : choice dir_words (word r) ≡ None = no_dir_at r (codes "workspace") h.1 refl in
    let b : says r (codes "workspace") ≡ true = says_it r (codes "workspace") (codes "workspace") true h.1 refl in
    let d : says (past_one_to (after r)) (codes "output") ≡ true = says_it (past_one_to (after r)) (codes "output") (codes "output") true k.1 refl in
    let f : only_output (after (past_one_to (after r))) ≡ Some o = only_output_back (after (past_one_to (after r))) w o k.2.1 k.2.2.0 s in
    (rw (a, b, d, f) refl, k.2.2.1)

pub move_back : (slots : List Slot) (c : Command) → MoveForm slots c → (rest e r : List ℕ) → Row slots rest e r → (in_small (word r) ≡ codes "move") × (move_form (after r) ≡ Some c) × (e ≡ rest)
unfolding move_form move_by
move_back slots c (move_direction d) rest e r h =
    let a : choice dir_words (word (after r)) ≡ Some d = choice_back dir_words (word (after r)) (direction_word d) h.2.1 ∙ dir_exact d in
    (h.1, rw a (if_yes _ _ _ _ (ap is_nil h.2.2.0) refl), h.2.2.1)
move_back slots c (move_pixels d n {px = px} o) rest e r h =
    let a : choice dir_words (word (after r)) ≡ Some d = choice_back dir_words (word (after r)) (direction_word d) h.2.1 ∙ dir_exact d in
    let k = move_by_back d n px o rest e (after (after r)) h.2.2 in
    (h.1, ap (λ (x : Option Dir). move_in x (after r)) a ∙ k.0, k.1)
move_back slots c (move_to {to = to} {slots = more} t s) rest e r h = let k = move_all to more c t s rest e (after r) h.2 in (h.1, k.0, k.1)
move_back slots c (move_workspace {to = to} {w = w} {o = o} t s) rest e r h = let k = workspace_to_back to w o t s rest e (after r) h.2 in (h.1, k.0, k.1)

-- ---- swap, kill

-- behind container, or not, and with
pub with_back : (front : List Slot) → Optional (codes "container") front → (slots : List Slot) (rest e r : List ℕ) → Row (front ++ said (codes "with") ∷ slots) rest e r → (t : List ℕ) × (past_with r ≡ Some t) × Row slots rest e t
unfolding past_with is_text
with_back front left_out slots rest e r h =
    let a : says r (codes "container") ≡ false = says_it r (codes "with") (codes "container") false h.1 refl in
    let b : says r (codes "with") ≡ true = says_it r (codes "with") (codes "with") true h.1 refl in
    (after r, rw (a, b) refl, h.2)
with_back front there slots rest e r h =
    let a : says r (codes "container") ≡ true = says_it r (codes "container") (codes "container") true h.1 refl in
    let b : says (after r) (codes "with") ≡ true = says_it (after r) (codes "with") (codes "with") true h.2.1 refl in
    (after (after r), rw (a, b) refl, h.2.2)

pub swap_back : (slots : List Slot) (c : Command) → SwapForm slots c → (rest e r : List ℕ) → Row slots rest e r → (in_small (word r) ≡ codes "swap") × (swap_form (after r) ≡ Some c) × (e ≡ rest)
unfolding swap_form is_text
swap_back slots c (swap_con_id {c = front} n o) rest e r h =
    let w = with_back front o (said (codes "con_id") ∷ number n ∷ []) rest e (after r) h.2 in
    let a : says w.0 (codes "con_id") ≡ true = says_it w.0 (codes "con_id") (codes "con_id") true w.2.1 refl in
    let b : only_number (after w.0) ≡ Some n = only_number_back (after w.0) n w.2.2.1 w.2.2.3.0 in
    (h.1, rw (w.1, a, b) refl, w.2.2.3.1)
swap_back slots c (swap_id {c = front} n o) rest e r h =
    let w = with_back front o (said (codes "id") ∷ number n ∷ []) rest e (after r) h.2 in
    let a : says w.0 (codes "con_id") ≡ false = says_it w.0 (codes "id") (codes "con_id") false w.2.1 refl in
    let d : says w.0 (codes "id") ≡ true = says_it w.0 (codes "id") (codes "id") true w.2.1 refl in
    let b : only_number (after w.0) ≡ Some n = only_number_back (after w.0) n w.2.2.1 w.2.2.3.0 in
    (h.1, rw (w.1, a, d, b) refl, w.2.2.3.1)

pub kill_back : (slots : List Slot) (c : Command) → KillForm slots c → (rest e r : List ℕ) → Row slots rest e r → (in_small (word r) ≡ codes "kill") × (kill_form (after r) ≡ Some c) × (e ≡ rest)
unfolding kill_form is_text
kill_back slots c kill_alone rest e r h = let a : is_nil (after r) ≡ true = ap is_nil h.2.0 in (h.1, rw a refl, h.2.1)
kill_back slots c kill_window rest e r h =
    let a : is_nil (after r) ≡ false = h.2.0 in
    let b : is_nil (after (after r)) ≡ true = ap is_nil h.2.2.0 in
    let d : says (after r) (codes "window") ≡ true = says_it (after r) (codes "window") (codes "window") true h.2.1 refl in
    (h.1, rw (a, b, d) refl, h.2.2.1)
kill_back slots c kill_client rest e r h =
    let a : is_nil (after r) ≡ false = h.2.0 in
    let b : is_nil (after (after r)) ≡ true = ap is_nil h.2.2.0 in
    let d : says (after r) (codes "window") ≡ false = says_it (after r) (codes "client") (codes "window") false h.2.1 refl in
    let f : says (after r) (codes "client") ≡ true = says_it (after r) (codes "client") (codes "client") true h.2.1 refl in
    (h.1, rw (a, b, d, f) refl, h.2.2.1)
