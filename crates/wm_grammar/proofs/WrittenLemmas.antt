-- The written text of a form is a spelling of its command: a quoted argument is never a keyword.
use Rattle.std.proofs.Common.{◌≡◌, ℕ, suc, ◌<◌, ◌≤◌, ◌⊎◌, Bool, true, false, List, [], ◌∷◌, ◌++◌, length, Some, refl, sym, ap, subst, ◌∙◌, arith, codes, inl, inr}
use Rattle.std.specs.Prelude.{◌||◌, ◌&&◌, nat_le, ℤ, pos, negsuc, nat_abs, decimal}
use Rattle.std.specs.Fmt.{signed_decimal}
use Rattle.std.proofs.lemmas.Bool.{or_parts, false≢true, true≢false, le-leb}
use Rattle.std.proofs.lemmas.List.{append-nil}
use Rattle.wm_language.specs.declared.command.Command.{Command}
use Rattle.wm_language.specs.Spelling.{escaped, quoted}
use Rattle.wm_words.specs.Pieces.{is_nil, is_end, until, from, has, word, after, natural, integer, unquote}
use Rattle.wm_words.proofs.NumbersAgain.{natural_decimal}
use Rattle.wm_grammar.proofs.Again.{unquote_again}
use Rattle.wm_grammar.proofs.CutCommands.{some_at}
use Rattle.wm_language.specs.Bytes.{IsDigit, Each}
use Rattle.wm_language.specs.Words.{small, in_small, nothing, Quoted, IsNatural, IsInteger}
use Rattle.wm_language.specs.Slots.{Slot, said, number, signed, word as one_word, text, anything, Fills, Filled, keywords, Optional, left_out, there}
use Rattle.wm_language.specs.Arguments.{To, to_alone, to_container, to_window}
use Rattle.wm_language.specs.TreeForms.{split_by, layout_set, layout_toggle, layout_toggle_split, layout_toggle_all, focus_alone, focus_direction, focus_parent, focus_child, focus_kind, focus_output, MoveToForm, to_workspace, to_current, to_output, to_scratchpad, to_position, to_center, move_direction, move_pixels, move_to, move_workspace, swap_con_id, swap_id, kill_alone, kill_window, kill_client}
use Rattle.wm_language.specs.WindowForms.{resize_alone, resize_px, resize_ppt, resize_to, floating_switch, fullscreen_switch, fullscreen_alone, sticky_switch, border_normal, border_normal_wide, border_pixel, border_pixel_wide, border_none, border_toggle, gaps_changed, scratchpad_show, workspace_word, unmark_alone, nop_alone, idle_alone, exit_alone, KeywordForm, of_split, of_layout, of_focus, of_move, of_swap, of_resize, of_switch, of_border, of_gaps, of_kill, of_desk}
use Rattle.wm_language.specs.ArgumentForms.{MoveToArgument, send_workspace, send_numbered, send_output, send_mark, Adding, add_nothing, add_there, replace_there, Toggling, toggle_nothing, toggle_there, ArgumentForm, focus_named, move_sent, workspace_moved, swap_mark, mark_named, unmark_named, workspace_named, workspace_numbered, rename_focused, rename_named, mode_named, layout_appended, title_set, nop_text, idle_text}
use Rattle.wm_language.specs.Spoken.{IsMeant, IsPlain, IsFree, IsCommand}
use Rattle.wm_language.specs.Batches.{last_group, Spells}
use Rattle.wm_language.specs.Written.{CanStand, CanAllStand, piece_of, written, alone}
use Rattle.wm_grammar.proofs.NumberLemmas.{natural_told, integer_told}
use Rattle.wm_grammar.proofs.TextLemmas.{Closed, unquote_told}
use Rattle.wm_grammar.proofs.RowLemmas.{is_other, clean_bytes, clean, clean_some, others_clean, proper, if_parts, said_bare, Row, filled_row, filled_unblanked, head_of}
use Rattle.wm_grammar.proofs.WindowBack.{keyword_proper}
use Rattle.wm_grammar.proofs.ArgumentBack.{argument_proper}

-- ---- pieces

quoted_is : (x : List ℕ) → Quoted x (quoted x)
quoted_is x =
    let k = some_at (Closed (escaped x ++ 34 ∷ [])) (unquote (escaped x ++ 34 ∷ [])) (x, []) (unquote_told (escaped x ++ 34 ∷ [])) (unquote_again x []) in
    record { body = k.body; whole = ap (λ (t : List ℕ). 34 ∷ t) k.whole; inside = k.inside }

nothing_quoted : Quoted [] (quoted [])
unfolding escaped
nothing_quoted = record { body = []; whole = refl; inside = nothing }

decimal_is : (n : ℕ) → n < 4294967296 → IsNatural n (decimal n)
decimal_is n h = some_at (λ m. IsNatural m (decimal n)) (natural (decimal n)) n (natural_told (decimal n)) (natural_decimal n h)

signed_is : (z : ℤ) → nat_abs z < 4294967296 → IsInteger z (signed_decimal z)
signed_is (pos n) h = inr (record { size = n; natural = decimal_is n h; value = refl })
signed_is (negsuc n) h = inl (record { size = suc n; digits = decimal (suc n); whole = refl; natural = decimal_is (suc n) h; value = refl })

-- a name has no capitals
no_capital : (c : ℕ) → is_other c ≡ false → (nat_le 65 c && nat_le c 90) ≡ false
no_capital c h = (or_parts (nat_le 65 c && nat_le c 90) (nat_le 48 c && nat_le c 57) h).0

small_same : (n : List ℕ) → has (λ c. nat_le 65 c && nat_le c 90) n ≡ false → in_small n ≡ n
unfolding has
small_same [] h = refl
small_same (c ∷ n) h =
    let both = or_parts (nat_le 65 c && nat_le c 90) (has (λ c. nat_le 65 c && nat_le c 90) n) h in
    let one : small c ≡ c = rw both.0 refl in
    ap (λ (k : ℕ). k ∷ in_small n) one ∙ ap (λ (t : List ℕ). c ∷ t) (small_same n both.1)

name_small : (n : List ℕ) → clean n ≡ true → in_small n ≡ n
name_small n h = small_same n (others_clean (λ c. nat_le 65 c && nat_le c 90) no_capital n (clean_some n h))

fills_piece : (s : Slot) (slots : List Slot) → proper (s ∷ slots) ≡ true → CanStand s → Fills s (piece_of s)
fills_piece (said n) slots h k = name_small n (if_parts (clean n) (proper slots) h).0
fills_piece (number n) slots h k = decimal_is n k
fills_piece (signed z) slots h k = signed_is z k
fills_piece (one_word x) slots h k = (k, inl (quoted_is x))
fills_piece (text x) slots h k = (k, inl (quoted_is x))
fills_piece anything slots h k = ([], inl nothing_quoted)

proper_more : (s : Slot) (slots : List Slot) → proper (s ∷ slots) ≡ true → proper slots ≡ true
proper_more (said n) slots h = (if_parts (clean n) (proper slots) h).1
proper_more (number n) slots h = h
proper_more (signed z) slots h = h
proper_more (one_word x) slots h = h
proper_more (text x) slots h = h
proper_more anything slots h = h

pub filled_written : (slots : List Slot) → proper slots ≡ true → CanAllStand slots → Filled slots (written slots)
filled_written [] h k = refl
filled_written (s ∷ []) h k = record { piece = piece_of s; blanks = []; others = []; whole = sym (append-nil (piece_of s)); fills = fills_piece s [] h k.0; blank = tt; gap = tt; more = refl }
filled_written (s ∷ t ∷ slots) h k = record { piece = piece_of s; blanks = 32 ∷ []; others = written (t ∷ slots); whole = refl; fills = fills_piece s (t ∷ slots) h k.0; blank = (inl refl, tt); gap = tt; more = filled_written (t ∷ slots) (proper_more s (t ∷ slots) h) k.1 }

-- ---- a quoted argument is never a keyword

-- behind its keywords the form has an argument
abbrev Argued : List Slot → Type 0
Argued [] = ⊥
Argued (said n ∷ slots) = Argued slots
Argued (number n ∷ slots) = ⊥
Argued (signed z ∷ slots) = ⊥
Argued (one_word x ∷ slots) = Unit {0}
Argued (text x ∷ slots) = Unit {0}
Argued (anything ∷ slots) = Unit {0}

-- keywords and numbers alone
abbrev plain_only : List Slot → Bool
plain_only [] = true
plain_only (said n ∷ slots) = plain_only slots
plain_only (number n ∷ slots) = plain_only slots
plain_only (signed z ∷ slots) = plain_only slots
plain_only (one_word x ∷ slots) = false
plain_only (text x ∷ slots) = false
plain_only (anything ∷ slots) = false

-- the first word of the written text, and what follows it
record Spoken (n : List ℕ) (slots : List Slot) (r : List ℕ) : Type 0 where
  first : word r ≡ n
  others : after r ≡ until is_end (written slots ++ [])
  some : is_nil r ≡ false

spoken : (n : List ℕ) (s : Slot) (slots : List Slot) (r : List ℕ) → proper (said n ∷ s ∷ slots) ≡ true → CanAllStand (s ∷ slots) → r ≡ until is_end (written (said n ∷ s ∷ slots) ++ []) → Spoken n (s ∷ slots) r
spoken n s slots r h k e =
    let both = if_parts (clean n) (proper (s ∷ slots)) h in
    let d = head_of n (32 ∷ []) (written (s ∷ slots)) [] (said_bare n n both.0 (name_small n both.0)) (inl refl, tt) tt tt (filled_unblanked (s ∷ slots) (written (s ∷ slots)) both.1 (filled_written (s ∷ slots) both.1 k)) in
    let raw : r ≡ n ++ (32 ∷ [] ++ until is_end (written (s ∷ slots) ++ [])) = e ∙ d.raw in
    record { first = ap word raw ∙ d.first; others = ap after raw ∙ d.others; some = ap is_nil raw ∙ d.some }

-- a text that begins with a quote
quote_word : (t r : List ℕ) → r ≡ until is_end (34 ∷ t) → (u : List ℕ) × (word r ≡ 34 ∷ u)
unfolding until
quote_word t r e = (word (until is_end t), ap word e)

-- no keyword is a quoted text
no_quote : (m u w : List ℕ) → clean m ≡ true → in_small w ≡ m → w ≡ 34 ∷ u → ⊥
no_quote m u w h e f = false≢true (ap clean (sym (ap in_small f) ∙ e) ∙ h)

-- nor is it a number
no_quote_number : (n : ℕ) (u w : List ℕ) → natural w ≡ Some n → w ≡ 34 ∷ u → ⊥
no_quote_number n u w e f =
    let k : IsNatural n (34 ∷ u) = subst (IsNatural n) f (some_at (λ m. IsNatural m w) (natural w) n (natural_told w) e) in
    omega (arith, k.digits.0.0)

no_quote_integer : (z : ℤ) (u w : List ℕ) → integer w ≡ Some z → w ≡ 34 ∷ u → ⊥
no_quote_integer z u w e f = by (subst (IsInteger z) f (some_at (λ y. IsInteger y w) (integer w) z (integer_told w) e))
  where
    by : IsInteger z (34 ∷ u) → ⊥
    by (inl k) = elim (heads k.digits k.whole) [ ]
      where
        heads : (d : List ℕ) → 34 ∷ u ≡ 45 ∷ d → ⊥
        heads d g = absurd cc
    by (inr k) = omega (arith, k.natural.digits.0.0)

-- no keyword is a number
is_digit_other : (c : ℕ) → IsDigit c → is_other c ≡ true
is_digit_other c h = let a : nat_le 48 c ≡ true = le-leb 48 c h.0 in let b : nat_le c 57 ≡ true = le-leb c 57 h.1 in by (nat_le 65 c && nat_le c 90) a b
  where
    by : (x : Bool) → nat_le 48 c ≡ true → nat_le c 57 ≡ true → (x || (nat_le 48 c && nat_le c 57)) ≡ true
    by true a b = refl
    by false a b = rw (a, b) refl

no_digits : (n : List ℕ) → clean n ≡ true → 1 ≤ length n → Each IsDigit n → ⊥
unfolding has
no_digits [] h l k = omega arith
no_digits (c ∷ n) h l k =
    let clean : has is_other (c ∷ n) ≡ false = others_clean is_other (λ c e. e) (c ∷ n) h in
    true≢false (sym (is_digit_other c k.0) ∙ (or_parts (is_other c) (has is_other n) clean).0)

no_number : (n : List ℕ) (k : ℕ) → clean n ≡ true → natural n ≡ Some k → ⊥
no_number n k h e = let i = some_at (λ m. IsNatural m n) (natural n) k (natural_told n) e in no_digits n h i.some i.digits

digit_there : (c : ℕ) (n : List ℕ) → has is_other (c ∷ n) ≡ false → 1 ≤ length n → Each IsDigit n → ⊥
unfolding has
digit_there c [] h l k = omega arith
digit_there c (d ∷ n) h l k =
    let one = or_parts (is_other c) (has is_other (d ∷ n)) h in
    let two = or_parts (is_other d) (has is_other n) one.1 in
    true≢false (sym (is_digit_other d k.0) ∙ two.0)

no_integer : (n : List ℕ) (z : ℤ) → clean n ≡ true → integer n ≡ Some z → ⊥
no_integer n z h e = by (some_at (λ y. IsInteger y n) (integer n) z (integer_told n) e)
  where
    by : IsInteger z n → ⊥
    by (inl k) = digit_there 45 k.digits (others_clean is_other (λ c e. e) (45 ∷ k.digits) (ap clean_bytes (sym k.whole) ∙ clean_some n h)) k.natural.some k.natural.digits
    by (inr k) = no_digits n h k.natural.some k.natural.digits

-- what fits the written text at all has no more keywords than the form
most : (slots others : List Slot) (rest e r : List ℕ) → proper slots ≡ true → CanAllStand slots → Argued slots → proper others ≡ true → r ≡ until is_end (written slots ++ []) → Row others rest e r → keywords others ≤ keywords slots
most slots [] rest e r h k a p w f = omega arith
most slots (number n ∷ others) rest e r h k a p w f = omega arith
most slots (signed z ∷ others) rest e r h k a p w f = omega arith
most slots (one_word x ∷ others) rest e r h k a p w f = omega arith
most slots (text x ∷ others) rest e r h k a p w f = omega arith
most slots (anything ∷ others) rest e r h k a p w f = omega arith
most [] (said m ∷ others) rest e r h k a p w f = elim a [ ]
most (said n ∷ []) (said m ∷ others) rest e r h k a p w f = elim a [ ]
most (said n ∷ s ∷ slots) (said m ∷ others) rest e r h k a p w f =
    let o = spoken n s slots r h k.1 w in
    let more = most (s ∷ slots) others rest e (after r) (proper_more (said n) (s ∷ slots) h) k.1 a (proper_more (said m) others p) o.others f.2 in
    omega (arith, more)
most (number n ∷ slots) (said m ∷ others) rest e r h k a p w f = elim a [ ]
most (signed z ∷ slots) (said m ∷ others) rest e r h k a p w f = elim a [ ]
most (one_word x ∷ []) (said m ∷ others) rest e r h k a p w f = let q = quote_word _ r w in absurd (no_quote m q.0 (word r) (if_parts (clean m) (proper others) p).0 f.1 q.1)
most (one_word x ∷ s ∷ slots) (said m ∷ others) rest e r h k a p w f = let q = quote_word _ r w in absurd (no_quote m q.0 (word r) (if_parts (clean m) (proper others) p).0 f.1 q.1)
most (text x ∷ []) (said m ∷ others) rest e r h k a p w f = let q = quote_word _ r w in absurd (no_quote m q.0 (word r) (if_parts (clean m) (proper others) p).0 f.1 q.1)
most (text x ∷ s ∷ slots) (said m ∷ others) rest e r h k a p w f = let q = quote_word _ r w in absurd (no_quote m q.0 (word r) (if_parts (clean m) (proper others) p).0 f.1 q.1)
most (anything ∷ []) (said m ∷ others) rest e r h k a p w f = let q = quote_word _ r w in absurd (no_quote m q.0 (word r) (if_parts (clean m) (proper others) p).0 f.1 q.1)
most (anything ∷ s ∷ slots) (said m ∷ others) rest e r h k a p w f = let q = quote_word _ r w in absurd (no_quote m q.0 (word r) (if_parts (clean m) (proper others) p).0 f.1 q.1)

-- a form of keywords and numbers alone does not fit a text that begins with a quote
never_quoted : (others : List Slot) (t rest e r : List ℕ) → plain_only others ≡ true → proper others ≡ true → r ≡ until is_end (34 ∷ t) → Row others rest e r → ⊥
unfolding until
never_quoted [] t rest e r o p w f = false≢true (sym (ap is_nil w) ∙ ap is_nil f.0)
never_quoted (said m ∷ others) t rest e r o p w f = let q = quote_word t r w in no_quote m q.0 (word r) (if_parts (clean m) (proper others) p).0 f.1 q.1
never_quoted (number n ∷ others) t rest e r o p w f = let q = quote_word t r w in no_quote_number n q.0 (word r) f.1 q.1
never_quoted (signed z ∷ others) t rest e r o p w f = let q = quote_word t r w in no_quote_integer z q.0 (word r) f.1 q.1
never_quoted (one_word x ∷ others) t rest e r o p w f = absurd (false≢true o)
never_quoted (text x ∷ others) t rest e r o p w f = absurd (false≢true o)
never_quoted (anything ∷ others) t rest e r o p w f = absurd (false≢true o)

never : (slots others : List Slot) (rest e r : List ℕ) → proper slots ≡ true → CanAllStand slots → Argued slots → plain_only others ≡ true → proper others ≡ true → r ≡ until is_end (written slots ++ []) → Row others rest e r → ⊥
never [] others rest e r h k a o p w f = a
never (said n ∷ []) others rest e r h k a o p w f = a
never (said n ∷ s ∷ slots) [] rest e r h k a o p w f = let x = spoken n s slots r h k.1 w in false≢true (sym x.some ∙ ap is_nil f.0)
never (said n ∷ s ∷ slots) (said m ∷ others) rest e r h k a o p w f =
    let x = spoken n s slots r h k.1 w in
    never (s ∷ slots) others rest e (after r) (proper_more (said n) (s ∷ slots) h) k.1 a o (proper_more (said m) others p) x.others f.2
never (said n ∷ s ∷ slots) (number m ∷ others) rest e r h k a o p w f = let x = spoken n s slots r h k.1 w in no_number n m (if_parts (clean n) (proper (s ∷ slots)) h).0 (ap natural (sym x.first) ∙ f.1)
never (said n ∷ s ∷ slots) (signed z ∷ others) rest e r h k a o p w f = let x = spoken n s slots r h k.1 w in no_integer n z (if_parts (clean n) (proper (s ∷ slots)) h).0 (ap integer (sym x.first) ∙ f.1)
never (said n ∷ s ∷ slots) (one_word x ∷ others) rest e r h k a o p w f = false≢true o
never (said n ∷ s ∷ slots) (text x ∷ others) rest e r h k a o p w f = false≢true o
never (said n ∷ s ∷ slots) (anything ∷ others) rest e r h k a o p w f = false≢true o
never (number n ∷ slots) others rest e r h k a o p w f = a
never (signed z ∷ slots) others rest e r h k a o p w f = a
never (one_word x ∷ []) others rest e r h k a o p w f = never_quoted others _ rest e r o p w f
never (one_word x ∷ s ∷ slots) others rest e r h k a o p w f = never_quoted others _ rest e r o p w f
never (text x ∷ []) others rest e r h k a o p w f = never_quoted others _ rest e r o p w f
never (text x ∷ s ∷ slots) others rest e r h k a o p w f = never_quoted others _ rest e r o p w f
never (anything ∷ []) others rest e r h k a o p w f = never_quoted others _ rest e r o p w f
never (anything ∷ s ∷ slots) others rest e r h k a o p w f = never_quoted others _ rest e r o p w f

-- ---- what the slots of each form are

px_only : (name : List ℕ) (px : List Slot) → Optional name px → (slots : List Slot) → plain_only (px ++ slots) ≡ plain_only slots
px_only name px left_out slots = refl
px_only name px there slots = refl

px_last : (name : List ℕ) (px : List Slot) → Optional name px → plain_only px ≡ true
px_last name px left_out = refl
px_last name px there = refl

to_only : (to : List Slot) → To to → (slots : List Slot) → plain_only (to ++ slots) ≡ plain_only slots
to_only to (to_alone o) slots = px_only (codes "to") to o slots
to_only to (to_container {to = more} o) slots = px_only (codes "to") more o slots
to_only to (to_window {to = more} o) slots = px_only (codes "to") more o slots

move_to_only : (slots : List Slot) (c : Command) → MoveToForm slots c → plain_only slots ≡ true
move_to_only slots c (to_workspace s) = refl
move_to_only slots c to_current = refl
move_to_only slots c (to_output s) = refl
move_to_only slots c to_scratchpad = refl
move_to_only slots c (to_position x y {px = px} {px' = px'} o o') = px_only (codes "px") px o (signed y ∷ px') ∙ px_last (codes "px") px' o'
move_to_only slots c to_center = refl

keyword_only : (slots : List Slot) (c : Command) → KeywordForm slots c → plain_only slots ≡ true
keyword_only slots c (of_split (split_by s)) = refl
keyword_only slots c (of_layout (layout_set s)) = refl
keyword_only slots c (of_layout layout_toggle) = refl
keyword_only slots c (of_layout layout_toggle_split) = refl
keyword_only slots c (of_layout layout_toggle_all) = refl
keyword_only slots c (of_focus focus_alone) = refl
keyword_only slots c (of_focus (focus_direction d)) = refl
keyword_only slots c (of_focus focus_parent) = refl
keyword_only slots c (of_focus focus_child) = refl
keyword_only slots c (of_focus (focus_kind k)) = refl
keyword_only slots c (of_focus (focus_output s)) = refl
keyword_only slots c (of_move (move_direction d)) = refl
keyword_only slots c (of_move (move_pixels d n {px = px} o)) = px_last (codes "px") px o
keyword_only slots c (of_move (move_to {to = to} {slots = more} t s)) = to_only to t more ∙ move_to_only more c s
keyword_only slots c (of_move (move_workspace {to = to} {w = w} t s)) = px_only (codes "to") to t (said (codes "output") ∷ said w ∷ [])
keyword_only slots c (of_swap (swap_con_id {c = front} n o)) = px_only (codes "container") front o (said (codes "with") ∷ said (codes "con_id") ∷ number n ∷ [])
keyword_only slots c (of_swap (swap_id {c = front} n o)) = px_only (codes "container") front o (said (codes "with") ∷ said (codes "id") ∷ number n ∷ [])
keyword_only slots c (of_resize (resize_alone g s)) = refl
keyword_only slots c (of_resize (resize_px g s n)) = refl
keyword_only slots c (of_resize (resize_ppt g s n m)) = refl
keyword_only slots c (of_resize (resize_to w h {px = px} {px' = px'} o o')) = px_only (codes "px") px o (number h ∷ px') ∙ px_last (codes "px") px' o'
keyword_only slots c (of_switch (floating_switch a)) = refl
keyword_only slots c (of_switch (fullscreen_switch a)) = refl
keyword_only slots c (of_switch fullscreen_alone) = refl
keyword_only slots c (of_switch (sticky_switch a)) = refl
keyword_only slots c (of_border border_normal) = refl
keyword_only slots c (of_border (border_normal_wide n)) = refl
keyword_only slots c (of_border border_pixel) = refl
keyword_only slots c (of_border (border_pixel_wide n)) = refl
keyword_only slots c (of_border border_none) = refl
keyword_only slots c (of_border border_toggle) = refl
keyword_only slots c (of_gaps (gaps_changed outer all op n)) = refl
keyword_only slots c (of_kill kill_alone) = refl
keyword_only slots c (of_kill kill_window) = refl
keyword_only slots c (of_kill kill_client) = refl
keyword_only slots c (of_desk scratchpad_show) = refl
keyword_only slots c (of_desk (workspace_word s)) = refl
keyword_only slots c (of_desk unmark_alone) = refl
keyword_only slots c (of_desk nop_alone) = refl
keyword_only slots c (of_desk (idle_alone s)) = refl
keyword_only slots c (of_desk exit_alone) = refl

one_argued : (name : List ℕ) (o slots : List Slot) → Optional name o → Argued slots → Argued (o ++ slots)
one_argued name o slots left_out a = a
one_argued name o slots there a = a

to_argued : (to slots : List Slot) → To to → Argued slots → Argued (to ++ slots)
to_argued to slots (to_alone o) a = one_argued (codes "to") to slots o a
to_argued to slots (to_container {to = more} o) a = one_argued (codes "to") more slots o a
to_argued to slots (to_window {to = more} o) a = one_argued (codes "to") more slots o a

sent_argued : (slots : List Slot) (c : Command) → MoveToArgument slots c → Argued slots
sent_argued slots c (send_workspace n) = tt
sent_argued slots c (send_numbered n) = tt
sent_argued slots c (send_output n) = tt
sent_argued slots c (send_mark n) = tt

mark_argued : (how flag : List Slot) (add toggle : Bool) (n : List ℕ) → Adding how add → Toggling flag toggle → Argued (how ++ (flag ++ text n ∷ []))
mark_argued how flag add toggle n add_nothing toggle_nothing = tt
mark_argued how flag add toggle n add_nothing toggle_there = tt
mark_argued how flag add toggle n add_there toggle_nothing = tt
mark_argued how flag add toggle n add_there toggle_there = tt
mark_argued how flag add toggle n replace_there toggle_nothing = tt
mark_argued how flag add toggle n replace_there toggle_there = tt

argued : (slots : List Slot) (c : Command) → ArgumentForm slots c → Argued slots
argued slots c (focus_named n) = tt
argued slots c (move_sent {to = to} {slots = more} t f) = to_argued to more t (sent_argued more c f)
argued slots c (workspace_moved {to = to} n o) = one_argued (codes "to") to (said (codes "output") ∷ one_word n ∷ []) o tt
argued slots c (swap_mark {c = front} n o) = one_argued (codes "container") front (said (codes "with") ∷ said (codes "mark") ∷ text n ∷ []) o tt
argued slots c (mark_named {how = how} {flag = flag} {add = add} {toggle = toggle} n a t) = mark_argued how flag add toggle n a t
argued slots c (unmark_named n) = tt
argued slots c (workspace_named n) = tt
argued slots c (workspace_numbered n) = tt
argued slots c (rename_focused n) = tt
argued slots c (rename_named was n) = tt
argued slots c (mode_named n) = tt
argued slots c (layout_appended n) = tt
argued slots c (title_set n) = tt
argued slots c (nop_text n) = tt
argued slots c (idle_text s) = tt

-- ---- the written text

is_meant : (slots : List Slot) → proper slots ≡ true → CanAllStand slots → Argued slots → IsMeant slots (written slots ++ [])
is_meant slots h k a =
    record {
      alone = λ others f. never slots others f.behind (from is_end (written slots ++ [])) (until is_end (written slots ++ [])) h k a (keyword_only others f.command f.form) (keyword_proper others f.command f.form) refl (filled_row others f.spelled f.behind (until is_end (written slots ++ [])) (from is_end (written slots ++ [])) (keyword_proper others f.command f.form) f.filled f.ends (ap (until is_end) f.whole) (ap (from is_end) f.whole));
      longest = λ others f. most slots others f.behind (from is_end (written slots ++ [])) (until is_end (written slots ++ [])) h k a (argument_proper others f.command f.form) refl (filled_row others f.spelled f.behind (until is_end (written slots ++ [])) (from is_end (written slots ++ [])) (argument_proper others f.command f.form) f.filled f.ends (ap (until is_end) f.whole) (ap (from is_end) f.whole));
    }

one_command : (c : Command) (t : List ℕ) → IsPlain c t ⊎ IsFree c [] t → Spells t (alone c)
one_command c t h =
    let is : IsCommand c [] t = record { blanks = []; others = t; whole = refl; blank = tt; is = h } in
    last_group (record { front = []; others = t; whole = refl; criteria = refl; commands = is })

pub form_spelled : (slots : List Slot) (c : Command) → KeywordForm slots c ⊎ ArgumentForm slots c → CanAllStand slots → Spells (written slots) (alone c)
form_spelled slots c (inl f) k = one_command c (written slots) (inl (record { slots = slots; form = f; filled = filled_written slots (keyword_proper slots c f) k }))
form_spelled slots c (inr f) k = one_command c (written slots) (inr (record { slots = slots; form = f; filled = filled_written slots (argument_proper slots c f) k; meant = is_meant slots (argument_proper slots c f) k (argued slots c f) }))
