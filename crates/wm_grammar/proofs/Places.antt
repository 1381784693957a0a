-- Printed sizes, places and renamings are read again.
use Rattle.std.proofs.Common.{◌≡◌, ℕ, suc, ◌≤◌, true, false, List, [], ◌∷◌, ◌++◌, Some, refl, sym, ap, ◌∙◌, append_assoc, arith, codes, decimal, ℤ, pos, negsuc}
use Rattle.std.specs.Prelude.{◌==◌, nat_abs}
use Rattle.std.specs.Fmt.{signed_decimal}
use Rattle.std.proofs.lemmas.Bool.{ne_eqb}
use Rattle.wm_language.specs.declared.command.Command.TheVariants as commands
use Rattle.wm_words.specs.declared.verbs.Verb.TheVariants as verbs
use Rattle.wm_grammar.specs.declared.opening.Opening.TheVariants as openings
use Rattle.wm_words.specs.Pieces.{◌>>=◌, is_blank, is_end, until, from, has, skip, ends, word, after, is_word, natural, integer, below_zero, above_zero, unquote}
use Rattle.wm_words.specs.Forms.{verb_of, plain_form, past_px, past_to, position_form, move_to_form, move_form, resize_set, resize_form}
use Rattle.wm_grammar.specs.Openings.{opened, rename_opened, finished, text_at, closed, renamed, word_at, past_keyword_to, command_at}
use Rattle.wm_language.specs.Spelling.{escaped, position_text, sides_text, renaming_text}
use Rattle.wm_language.specs.Words.{IsArgument}
use Rattle.wm_grammar.specs.Readable.{IsNumber}
use Rattle.wm_words.proofs.NumbersAgain.{stops_at, number_word, number_after, number_other, natural_decimal, number_has, no_end, number_digits}
use Rattle.wm_grammar.proofs.Again.{unquote_again, command_plain, quoted_again, closed_again}
use Rattle.wm_grammar.proofs.Again.{command_opened}
use Rattle.wm_grammar.proofs.Spelled.{argument_again, is_long, skip_first, skip_number, past_px_end}

-- ---- sizes

px_more : (t : List ℕ) → past_px (skip (codes " px" ++ (codes " " ++ t))) ≡ skip t
unfolding past_px until from skip is_word
px_more t = refl

set_number : (w h : ℕ) → IsNumber w → IsNumber h → resize_set (decimal w ++ (codes " px" ++ (codes " " ++ (decimal h ++ codes " px")))) ≡ Some (commands.ResizeSet w h)
unfolding resize_set
set_number w h lt lu =
    let t : List ℕ = decimal h ++ codes " px" in
    let rest : List ℕ = codes " px" ++ (codes " " ++ t) in
    rw (number_word w rest (is_long w lt) refl, natural_decimal w lt, number_after w rest (is_long w lt) refl, px_more t, skip_number h (codes " px") lu, number_word h (codes " px") (is_long h lu) refl, natural_decimal h lu, number_after h (codes " px") (is_long h lu) refl, past_px_end) refl

regroup : (a b c d e : List ℕ) → (a ++ b) ++ ((c ++ d) ++ e) ≡ a ++ (b ++ (c ++ (d ++ e)))
regroup a b c d e = simp append_assoc

set_skipped : (w h : ℕ) → IsNumber w → IsNumber h → resize_set (skip ((decimal w ++ codes " px") ++ (codes " " ++ decimal h ++ codes " px"))) ≡ Some (commands.ResizeSet w h)
set_skipped w h lt lu =
    ap (λ (u : List ℕ). resize_set (skip u)) (regroup (decimal w) (codes " px") (codes " ") (decimal h) (codes " px"))
    ∙ (ap (λ (u : List ℕ). resize_set u) (skip_number w (codes " px" ++ (codes " " ++ (decimal h ++ codes " px"))) lt) ∙ set_number w h lt lu)

set_clean : (w h : ℕ) → IsNumber w → IsNumber h → has is_end ((decimal w ++ codes " px") ++ (codes " " ++ decimal h ++ codes " px")) ≡ false
unfolding has
set_clean w h lt lu =
    ap (λ (u : List ℕ). has is_end u) (regroup (decimal w) (codes " px") (codes " ") (decimal h) (codes " px"))
    ∙ (number_has is_end no_end w (is_long w lt) (codes " px" ++ (codes " " ++ (decimal h ++ codes " px"))) ∙ number_has is_end no_end h (is_long h lu) (codes " px"))

pub sides_again : (w h : ℕ) (e : List ℕ) → IsNumber w → IsNumber h → ends e ≡ true → command_at (sides_text w h ++ e) ≡ Some (commands.ResizeSet w h, e)
unfolding verb_of until from has skip is_word plain_form resize_form sides_text
sides_again w h e lt lu end = command_plain (sides_text w h) e verbs.Resize (commands.ResizeSet w h) (set_clean w h lt lu) end refl (set_skipped w h lt lu)

-- ---- numbers below 0 or not

signed_word : (z : ℤ) (t : List ℕ) → IsNumber (nat_abs z) → stops_at is_blank t ≡ true → word (signed_decimal z ++ t) ≡ signed_decimal z
unfolding until
signed_word (pos n) t lt stop = number_word n t (is_long n lt) stop
signed_word (negsuc n) t lt stop = ap (λ (u : List ℕ). 45 ∷ u) (number_word (suc n) t (is_long (suc n) lt) stop)

signed_after : (z : ℤ) (t : List ℕ) → IsNumber (nat_abs z) → stops_at is_blank t ≡ true → after (signed_decimal z ++ t) ≡ skip t
unfolding from
signed_after (pos n) t lt stop = number_after n t (is_long n lt) stop
signed_after (negsuc n) t lt stop = number_after (suc n) t (is_long (suc n) lt) stop

signed_skip : (z : ℤ) (t : List ℕ) → IsNumber (nat_abs z) → skip (signed_decimal z ++ t) ≡ signed_decimal z ++ t
signed_skip (pos n) t lt = skip_number n t lt
signed_skip (negsuc n) t lt = skip_first 45 (decimal (suc n) ++ t) refl

signed_has : (z : ℤ) (t : List ℕ) → IsNumber (nat_abs z) → has is_end (signed_decimal z ++ t) ≡ has is_end t
unfolding has
signed_has (pos n) t lt = number_has is_end no_end n (is_long n lt) t
signed_has (negsuc n) t lt = number_has is_end no_end (suc n) (is_long (suc n) lt) t

signed_other : (z : ℤ) (c : ℕ) (name : List ℕ) → IsNumber (nat_abs z) → 65 ≤ c → is_word (signed_decimal z) (c ∷ name) ≡ false
unfolding is_word
signed_other (pos n) c name lt big = number_other n c name (is_long n lt) big
signed_other (negsuc n) c name lt big = let differ : (45 == c) ≡ false = ne_eqb 45 c (λ e. omega (arith, e)) in rw differ refl

integer_digits : (c : ℕ) (cs : List ℕ) → (c == 45) ≡ false → integer (c ∷ cs) ≡ above_zero (natural (c ∷ cs))
unfolding integer
integer_digits c cs e = rw e refl

integer_below : (cs : List ℕ) → integer (45 ∷ cs) ≡ below_zero (natural cs)
unfolding integer
integer_below cs = refl

signed_integer : (z : ℤ) → IsNumber (nat_abs z) → integer (signed_decimal z) ≡ Some z
signed_integer (pos n) lt =
    let d = number_digits n (is_long n lt) in
    let differ : (d.first == 45) ≡ false = ne_eqb d.first 45 (λ e. omega (arith, d.low, e)) in
    ap (λ (u : List ℕ). integer u) d.parts ∙ (integer_digits d.first d.others differ ∙ (ap (λ (u : List ℕ). above_zero (natural u)) (sym d.parts) ∙ ap above_zero (natural_decimal n lt)))
signed_integer (negsuc n) lt = integer_below (decimal (suc n)) ∙ ap below_zero (natural_decimal (suc n) lt)

position_signed : (x y : ℤ) → IsNumber (nat_abs x) → IsNumber (nat_abs y) → position_form (signed_decimal x ++ (codes " px" ++ (codes " " ++ (signed_decimal y ++ codes " px")))) ≡ Some (commands.MovePosition x y)
unfolding position_form
position_signed x y lt lu =
    let t : List ℕ = signed_decimal y ++ codes " px" in
    let rest : List ℕ = codes " px" ++ (codes " " ++ t) in
    rw (signed_word x rest lt refl, signed_other x 99 (codes "enter") lt (omega arith), signed_integer x lt, signed_after x rest lt refl, px_more t, signed_skip y (codes " px") lu, signed_word y (codes " px") lu refl, signed_integer y lu, signed_after y (codes " px") lu refl, past_px_end) refl

position_skipped : (x y : ℤ) → IsNumber (nat_abs x) → IsNumber (nat_abs y) → position_form (skip ((signed_decimal x ++ codes " px") ++ (codes " " ++ signed_decimal y ++ codes " px"))) ≡ Some (commands.MovePosition x y)
position_skipped x y lt lu =
    ap (λ (u : List ℕ). position_form (skip u)) (regroup (signed_decimal x) (codes " px") (codes " ") (signed_decimal y) (codes " px"))
    ∙ (ap (λ (u : List ℕ). position_form u) (signed_skip x (codes " px" ++ (codes " " ++ (signed_decimal y ++ codes " px"))) lt) ∙ position_signed x y lt lu)

position_clean : (x y : ℤ) → IsNumber (nat_abs x) → IsNumber (nat_abs y) → has is_end ((signed_decimal x ++ codes " px") ++ (codes " " ++ signed_decimal y ++ codes " px")) ≡ false
unfolding has
position_clean x y lt lu =
    ap (λ (u : List ℕ). has is_end u) (regroup (signed_decimal x) (codes " px") (codes " ") (signed_decimal y) (codes " px"))
    ∙ (signed_has x (codes " px" ++ (codes " " ++ (signed_decimal y ++ codes " px"))) lt ∙ signed_has y (codes " px") lu)

pub position_again : (x y : ℤ) (e : List ℕ) → IsNumber (nat_abs x) → IsNumber (nat_abs y) → ends e ≡ true → command_at (position_text x y ++ e) ≡ Some (commands.MovePosition x y, e)
unfolding verb_of until from has skip is_word plain_form move_form past_to move_to_form position_text
position_again x y e lt lu end = command_plain (position_text x y) e verbs.Move (commands.MovePosition x y) (position_clean x y lt lu) end refl (position_skipped x y lt lu)

-- ---- renaming a named workspace

word_quoted : (s : List ℕ) → word_at (34 ∷ s) ≡ unquote s
unfolding word_at
word_quoted s = refl

to_behind : (t : List ℕ) → past_keyword_to (skip (codes " to " ++ 34 ∷ t)) ≡ Some (34 ∷ t)
unfolding past_keyword_to until from skip is_word
to_behind t = refl

text_quoted : (t : List ℕ) → text_at false (34 ∷ t) ≡ (unquote t >>= closed)
unfolding text_at
text_quoted t = refl

renamed_again : (was name e : List ℕ) → IsArgument was → IsArgument name → ends e ≡ true → renamed (34 ∷ (escaped was ++ 34 ∷ (codes " to " ++ 34 ∷ ((escaped name ++ 34 ∷ []) ++ e)))) ≡ Some (commands.Rename (Some was) name, e)
unfolding renamed
renamed_again was name e a b end =
    let t : List ℕ = (escaped name ++ 34 ∷ []) ++ e in
    rw (word_quoted (escaped was ++ 34 ∷ (codes " to " ++ 34 ∷ t)), unquote_again was (codes " to " ++ 34 ∷ t), to_behind t, text_quoted t, quoted_again name e, closed_again name e end, argument_again was a, argument_again name b) refl

renaming_parts : (was name e : List ℕ) → renaming_text was name ++ e ≡ codes "rename workspace " ++ 34 ∷ (escaped was ++ 34 ∷ (codes " to " ++ 34 ∷ ((escaped name ++ 34 ∷ []) ++ e)))
unfolding renaming_text
renaming_parts was name e = ap (λ (u : List ℕ). codes "rename workspace " ++ 34 ∷ u) (moved (escaped was) (codes " to " ++ 34 ∷ (escaped name ++ 34 ∷ [])) e)
  where
    moved : (a b e : List ℕ) → ((a ++ 34 ∷ []) ++ b) ++ e ≡ a ++ 34 ∷ (b ++ e)
    moved a b e = simp append_assoc

pub renaming_again : (was name e : List ℕ) → IsArgument was → IsArgument name → ends e ≡ true → command_at (renaming_text was name ++ e) ≡ Some (commands.Rename (Some was) name, e)
unfolding verb_of until from has skip is_word plain_form opened rename_opened finished
renaming_again was name e a b end =
    ap (λ (u : List ℕ). command_at u) (renaming_parts was name e)
    ∙ command_opened (codes "rename workspace ") verbs.Rename openings.RenameNamed (λ r. []) refl (λ r. refl) (λ r. refl) (λ r. refl) (escaped was ++ 34 ∷ (codes " to " ++ 34 ∷ ((escaped name ++ 34 ∷ []) ++ e))) (commands.Rename (Some was) name, e) (renamed_again was name e a b end)
