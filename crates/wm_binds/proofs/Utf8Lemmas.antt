-- A text whose lines are UTF-8 is UTF-8.
use Rattle.std.proofs.Common.{◌≡◌, refl, ap, sym, subst, ℕ, ◌+◌, Bool, true, false, cond, eqb, List, [], ◌∷◌, ◌++◌, append-nil, append_assoc, Result, Ok, Err, arith}
use Rattle.std.specs.Str.{IsUtf8, is_utf8}
use Rattle.std.proofs.lemmas.Bool.{eqb-true}
use Rattle.std.proofs.lemmas.Str.{IsUtf8-append, IsUtf8-from_ascii, IsUtf8-from_is_utf8, IsUtf8-nil, is_utf8-from_IsUtf8}
use Rattle.std.proofs.lemmas.Str.Ascii.{IsAscii-cons, IsAscii-nil}
use Rattle.wm_fields.specs.Split.{lines_of, onto_first}
use Rattle.wm_binds.specs.Letters.{Letters, end}
use Rattle.wm_binds.specs.LettersReading.{read_by, text_by}
use Rattle.wm_binds.specs.Reading.{go_on}
use Rattle.wm_binds.specs.Blocks.{blank_draft}
use Rattle.wm_binds.specs.declared.draft.Draft.{Draft}
use Rattle.wm_binds.specs.declared.draft.LineRefusal.{LineRefusal}
use Rattle.wm_binds.specs.declared.draft.LineRefusal.TheVariants as faults

-- each of these texts is UTF-8
abbrev AreUtf8 : List (List ℕ) → Type 0
AreUtf8 [] = Unit {0}
AreUtf8 (text ∷ texts) = IsUtf8 text × AreUtf8 texts

-- lines, with this at the front of the first
abbrev with_front : List ℕ → List (List ℕ) → List (List ℕ)
with_front front [] = front ∷ []
with_front front (line ∷ lines) = (front ++ line) ∷ lines

front_onto : (front : List ℕ) (c : ℕ) (lines : List (List ℕ)) → with_front front (onto_first c lines) ≡ with_front (front ++ c ∷ []) lines
front_onto front c [] = refl
front_onto front c (line ∷ lines) = ap (λ l. l ∷ lines) (sym (append_assoc front (c ∷ []) line))

feed_utf8 : (c : ℕ) → eqb c 10 ≡ true → IsUtf8 (c ∷ [])
feed_utf8 c is = let small = eqb-true c 10 is in IsUtf8-from_ascii (c ∷ []) (IsAscii-cons c [] (omega (arith, small)) IsAscii-nil)

no_front : (lines : List (List ℕ)) → AreUtf8 lines → AreUtf8 (with_front [] lines)
no_front [] are = (IsUtf8-nil, tt)
no_front (line ∷ lines) are = are

-- a line feed or another byte behind this front
one_more : (t : Bool) (front : List ℕ) (c : ℕ) (cs : List ℕ) → eqb c 10 ≡ t
    → (AreUtf8 (with_front [] (lines_of cs)) → IsUtf8 cs) → (AreUtf8 (with_front (front ++ c ∷ []) (lines_of cs)) → IsUtf8 ((front ++ c ∷ []) ++ cs))
    → AreUtf8 (with_front front (cond t ([] ∷ lines_of cs) (onto_first c (lines_of cs)))) → IsUtf8 (front ++ c ∷ cs)
one_more true front c cs is behind longer are =
    IsUtf8-append front (c ∷ cs) (subst IsUtf8 (append-nil front) are.0) (IsUtf8-append (c ∷ []) cs (feed_utf8 c is) (behind (no_front (lines_of cs) are.1)))
one_more false front c cs is behind longer are =
    subst IsUtf8 (append_assoc front (c ∷ []) cs) (longer (subst AreUtf8 (front_onto front c (lines_of cs)) are))

-- the front of the first line, and all that follows
behind_front : (text front : List ℕ) → AreUtf8 (with_front front (lines_of text)) → IsUtf8 (front ++ text)
behind_front [] front are = subst IsUtf8 (sym (append-nil front)) are.0
behind_front (c ∷ cs) front are = one_more (eqb c 10) front c cs refl (behind_front cs []) (behind_front cs (front ++ c ∷ [])) are

lines_utf8 : (text : List ℕ) → AreUtf8 (lines_of text) → IsUtf8 text
lines_utf8 text are = behind_front text [] (no_front (lines_of text) are)

on_ok : (count : ℕ) (d : Draft) (texts : List (List ℕ)) (r : Result (Letters × Draft) LineRefusal)
    → ((letters : Letters) (draft : Draft) → read_by count letters draft texts ≡ Ok d → AreUtf8 texts)
    → go_on count r (λ letters draft. read_by count letters draft texts) ≡ Ok d → AreUtf8 texts
on_ok count d texts (Ok a) then e = then a.0 a.1 e
on_ok count d texts (Err f) then e = cc

one_read : (t : Bool) (count : ℕ) (d : Draft) (text : List ℕ) (texts : List (List ℕ)) (r : Result (Letters × Draft) LineRefusal) → is_utf8 text ≡ t
    → ((letters : Letters) (draft : Draft) → read_by count letters draft texts ≡ Ok d → AreUtf8 texts)
    → go_on count (cond t r (Err faults.Outside)) (λ letters draft. read_by count letters draft texts) ≡ Ok d → AreUtf8 (text ∷ texts)
one_read true count d text texts r is then e = (IsUtf8-from_is_utf8 text is, on_ok count d texts r then e)
one_read false count d text texts r is then e = cc

-- lines that are read are UTF-8
read_utf8 : (texts : List (List ℕ)) (count : ℕ) (letters : Letters) (draft d : Draft) → read_by count letters draft texts ≡ Ok d → AreUtf8 texts
read_utf8 [] count letters draft d e = tt
read_utf8 (text ∷ texts) count letters draft d e =
    one_read (is_utf8 text) (count + 1) d text texts (text_by letters draft draft.block text) refl (λ l b. read_utf8 texts (count + 1) l b d) e

pub read_text : (text : List ℕ) (d : Draft) → read_by 0 end blank_draft (lines_of text) ≡ Ok d → is_utf8 text ≡ true
read_text text d e = is_utf8-from_IsUtf8 text (lines_utf8 text (read_utf8 (lines_of text) 0 end blank_draft d e))
