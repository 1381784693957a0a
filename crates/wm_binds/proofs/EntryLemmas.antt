-- What a line says is within the limits of a plan.
use Rattle.std.proofs.Common.{◌≡◌, refl, Bool, true, false, ◌&&◌, cond, ℕ, ◌≤◌, List, [], ◌∷◌, length, Option, None, Some, Result, Ok, Err, arith}
use Rattle.std.specs.Prelude.{codes, nat_le, take_while, drop}
use Rattle.std.specs.Char.{is_ascii_digit}
use Rattle.std.specs.Str.{bytes_eq}
use Rattle.std.proofs.lemmas.Bool.{leb-true}
use Rattle.serde_json.specs.Data.{Data}
use Rattle.serde_json.specs.Read.{read as read_text}
use Rattle.wm_base.specs.declared.errors.Limit.{Limit}
use Rattle.wm_base.specs.declared.geometry.Rect.{Rect}
use Rattle.wm_base.specs.declared.plan.Border.TheVariants as border
use Rattle.wm_layouts.specs.Plan.{is_fit_rect}
use Rattle.wm_saved.specs.Answers.{◌>>=◌}
use Rattle.wm_saved.specs.Limits as saved
use Rattle.wm_saved.specs.Reading.{trees_at}
use Rattle.wm_saved.specs.declared.refusal.LayoutRefusal.{LayoutRefusal}
use Rattle.wm_saved.specs.declared.saved.SavedNode.{SavedNode}
use Rattle.wm_saved.proofs.FitLemmas.{trees_fit}
use Rattle.wm_fields.specs.Fields.{behind, decimal_value, if_end, number_at, or_else, or_none}
use Rattle.wm_fields.specs.Fields.{output_of}
use Rattle.wm_fields.specs.Quoted.{quoted_at}
use Rattle.wm_binds.specs.Lines.{bind_at, border_at, command_of, entry_of, first_word, gaps_at, home_at, if_read, is_bar, is_passed, last_number, layout_at, layout_of, mode_at, on_output, other_of, output_at, plan_of, rect_at, said_of, says_nothing, width_at}
use Rattle.wm_binds.specs.Fit.{IsFitEntry, IsFitLayout}
use Rattle.wm_binds.specs.Words.{command_word_at, gap_at, name_at, passed_word, past_blanks, text_of, word_then}
use Rattle.wm_binds.specs.declared.entry.Entry.TheVariants.{Nothing, Passed, Bar, Mode, Close, Border, Home, Output}

abbrev pub If : {A : Type 0} → (A → Type 0) → Option A → Type 0
If P None = Unit {0}
If P (Some x) = P x

-- ---- what lines say

none_if : {A B : Type 0} (P : A → Type 0) (Q : B → Type 0) (o : Option A) (f : A → Option B) → If P o → ((x : A) → P x → If Q (f x)) → If Q (or_none o f)
none_if P Q None f known then = tt
none_if P Q (Some x) f known then = then x known

any_if : {A B : Type 0} (Q : B → Type 0) (o : Option A) (f : A → Option B) → ((x : A) → If Q (f x)) → If Q (or_none o f)
any_if Q None f then = tt
any_if Q (Some x) f then = then x

else_if : {B : Type 0} (Q : B → Type 0) (o : Option (List ℕ)) (f : List ℕ → Option B) (other : Option B) → ((text : List ℕ) → If Q (f text)) → If Q other → If Q (or_else o f other)
else_if Q None f other then otherwise = otherwise
else_if Q (Some text) f other then otherwise = then text

end_if : {B : Type 0} (Q : B → Type 0) (x : B) (text : List ℕ) → Q x → If Q (if_end x text)
end_if Q x [] q = q
end_if Q x (c ∷ cs) q = tt

both : (a b : Bool) → (a && b) ≡ true → b ≡ true
both true b e = e
both false b e = cc

abbrev AtMost : ℕ → ℕ → Type 0
AtMost most n = n ≤ most

abbrev FirstAtMost : ℕ → ℕ × List ℕ → Type 0
FirstAtMost most n = n.0 ≤ most

abbrev digits_of : List ℕ → List ℕ
digits_of text = take_while is_ascii_digit text

abbrev read_of : List ℕ → ℕ × List ℕ
read_of text = (decimal_value 0 (digits_of text), drop (length (digits_of text)) text)

abbrev is_number : ℕ → List ℕ → Bool
is_number most text = nat_le 1 (length (digits_of text)) && nat_le (length (digits_of text)) 20 && nat_le (decimal_value 0 (digits_of text)) most

read_within : (most : ℕ) (text : List ℕ) (t : Bool) → is_number most text ≡ t → If (FirstAtMost most) (cond t (Some (read_of text)) None)
read_within most text true e = leb-true (decimal_value 0 (digits_of text)) most (both (nat_le 1 (length (digits_of text)) && nat_le (length (digits_of text)) 20) _ e)
read_within most text false e = tt

number_if : (most : ℕ) (text : List ℕ) → If (FirstAtMost most) (number_at most text)
number_if most text = read_within most text (is_number most text) refl

last_if : (most : ℕ) (text : List ℕ) → If (AtMost most) (last_number most text)
last_if most text = none_if (FirstAtMost most) (AtMost most) (number_at most text) _ (number_if most text) (λ n known. end_if (AtMost most) n.0 n.1 known)

width_if : (text : List ℕ) → If (AtMost 64) (width_at text)
width_if [] = omega arith
width_if (c ∷ cs) = any_if (AtMost 64) (gap_at (c ∷ cs)) _ (λ rest. last_if 64 rest)

command_if : (chord text : List ℕ) → If IsFitEntry (command_of chord text)
command_if chord [] = tt
command_if chord (c ∷ cs) = any_if IsFitEntry (text_of (c ∷ cs)) _ (λ text. tt)

bind_if : (text : List ℕ) → If IsFitEntry (bind_at text)
bind_if text =
    any_if IsFitEntry (name_at (passed_word (codes "--release") text)) _ (λ chord. any_if IsFitEntry (gap_at chord.1) _ (λ rest. command_if chord.0 (passed_word (codes "--release") rest)))

mode_if : (text : List ℕ) → If IsFitEntry (mode_at text)
mode_if text =
    any_if IsFitEntry (quoted_at (passed_word (codes "--pango_markup") text)) _ (λ name. any_if IsFitEntry (gap_at name.1) _ (λ rest.
    any_if IsFitEntry (behind (codes "{") rest) _ (λ left. end_if IsFitEntry (Mode name.0) left tt)))

border_if : (text : List ℕ) → If IsFitEntry (border_at text)
border_if text =
    else_if IsFitEntry (behind (codes "none") text) _ _ (λ rest. end_if IsFitEntry (Border border.Bare) rest tt)
    (else_if IsFitEntry (behind (codes "pixel") text) _ _ (λ rest. none_if (AtMost 64) IsFitEntry (width_at rest) _ (width_if rest) (λ n known. known))
    (else_if IsFitEntry (behind (codes "normal") text) _ _ (λ rest. none_if (AtMost 64) IsFitEntry (width_at rest) _ (width_if rest) (λ n known. known)) tt))

gaps_if : (text : List ℕ) → If IsFitEntry (gaps_at text)
gaps_if text =
    else_if IsFitEntry (word_then (codes "inner") text) _ _ (λ rest. none_if (AtMost 1000) IsFitEntry (last_number 1000 rest) _ (last_if 1000 rest) (λ n known. known))
    (else_if IsFitEntry (word_then (codes "outer") text) _ _ (λ rest. none_if (AtMost 1000) IsFitEntry (last_number 1000 rest) _ (last_if 1000 rest) (λ n known. known)) tt)

home_if : (text : List ℕ) → If IsFitEntry (home_at text)
home_if text =
    any_if IsFitEntry (command_word_at text) _ (λ name. any_if IsFitEntry (on_output name.1) _ (λ rest.
    any_if IsFitEntry (command_word_at rest) _ (λ output. end_if IsFitEntry (Home name.0 output.0) output.1 tt)))

placed_if : (name rest : List ℕ) (rect : Rect) → If IsFitEntry (cond (is_fit_rect rect) (if_end (Output (output_of name rect)) rest) None)
placed_if name rest rect = by (is_fit_rect rect) refl
  where
    by : (t : Bool) → is_fit_rect rect ≡ t → If IsFitEntry (cond t (if_end (Output (output_of name rect)) rest) None)
    by true e = end_if IsFitEntry (Output (output_of name rect)) rest (e, record { top = omega arith; right = omega arith; bottom = omega arith; left = omega arith })
    by false e = tt

output_if : (text : List ℕ) → If IsFitEntry (output_at text)
output_if text =
    any_if IsFitEntry (name_at text) _ (λ name. any_if IsFitEntry (gap_at name.1) _ (λ place. any_if IsFitEntry (rect_at place) _ (λ rect. placed_if name.0 rect.1 rect.0)))

limited_if : (trees : List SavedNode) (limit : Option Limit) → IsFitLayout (record { trees = trees }) → If IsFitLayout (if_read (saved.limited trees limit))
limited_if trees None fit = fit
limited_if trees (Some limit) fit = tt

trees_if : (value : Data) (r : Result (List SavedNode) LayoutRefusal) → trees_at [] value ≡ r → If IsFitLayout (if_read (r >>= λ trees. saved.limited trees (saved.passed trees)))
trees_if value (Ok trees) e = limited_if trees (saved.passed trees) (trees_fit [] value trees e)
trees_if value (Err x) e = tt

read_if : (value : Data) → If IsFitLayout (if_read (saved.layout_at value))
read_if value = trees_if value (trees_at [] value) refl

layout_if : (text : List ℕ) → If IsFitEntry (layout_at text)
layout_if text =
    any_if IsFitEntry (name_at text) _ (λ name. any_if IsFitEntry (gap_at name.1) _ (λ rest.
    none_if IsFitLayout IsFitEntry (layout_of rest) _ (any_if IsFitLayout (text_of rest) _ (λ t. any_if IsFitLayout (read_text t) _ read_if)) (λ layout fit. fit)))

other_if : (text : List ℕ) → If IsFitEntry (other_of text)
other_if text = by (bytes_eq text (codes "}")) (is_bar text) (is_passed (first_word text))
  where
    by : (a b c : Bool) → If IsFitEntry (cond a (Some Close) (cond b (Some Bar) (cond c (Some Passed) None)))
    by true b c = tt
    by false true c = tt
    by false false true = tt
    by false false false = tt

plan_if : (text : List ℕ) → If IsFitEntry (plan_of text)
plan_if text =
    else_if IsFitEntry (word_then (codes "default_border") text) _ _ border_if
    (else_if IsFitEntry (word_then (codes "gaps") text) _ _ gaps_if
    (else_if IsFitEntry (word_then (codes "workspace") text) _ _ home_if
    (else_if IsFitEntry (word_then (codes "output") text) _ _ output_if (other_if text))))

said_if : (text : List ℕ) → If IsFitEntry (said_of text)
said_if text =
    else_if IsFitEntry (word_then (codes "bindsym") text) _ _ bind_if
    (else_if IsFitEntry (word_then (codes "mode") text) _ _ mode_if
    (else_if IsFitEntry (word_then (codes "saved_layout") text) _ _ layout_if (plan_if text)))

pub entry_if : (text : List ℕ) → If IsFitEntry (entry_of text)
entry_if text = by (says_nothing (past_blanks text))
  where
    by : (t : Bool) → If IsFitEntry (cond t (Some Nothing) (said_of (past_blanks text)))
    by true = tt
    by false = said_if (past_blanks text)
