-- Names by their letters find what the list of the names says.
use Rattle.std.proofs.Common.{◌≡◌, ◌∙◌, refl, ap, sym, subst, Bool, true, false, ◌&&◌, cond, ℕ, zero, suc, ◌+◌, ◌≤◌, List, [], ◌∷◌, ◌++◌, length, Option, None, Some, arith}
use Rattle.std.specs.Prelude.{nat_eq, nat_le, if◌then◌else◌, codes}
use Rattle.std.specs.List.{starts_with}
use Rattle.std.proofs.lemmas.Bool.{eqb-true, eqb-false, le-leb, lt-leb, leb-true, leb-false}
use Rattle.wm_fields.specs.Fields.{behind, or_none}
use Rattle.wm_binds.specs.Letters.{Letters, end, letter, found, or_here, put, put_name, spelled}
use Rattle.wm_binds.specs.Naming.{longer, longest, name_length, put_in, replaced_behind, set_at, value_of}
use Rattle.wm_binds.specs.LettersReading.{Finds}
use Rattle.wm_binds.specs.Words.{gap_at, word_at}
use Rattle.wm_binds.specs.declared.naming.Name.{Name}

abbrev Found : Type 0
Found = Option (ℕ × List ℕ)

-- a name where the text begins with it
abbrev if_begun : List ℕ → List ℕ → List ℕ → Found → Found
if_begun name value text old = if starts_with nat_eq text name then longer (length name) value old else old

-- ---- one name

abbrev name_of : ℕ → List ℕ → Found
name_of n value = Some (n, value)

abbrev no_name : Found
no_name = None

-- what is found of a name alone
spelled_finds : (c : ℕ) (rest value text : List ℕ) → found (spelled c rest value) text ≡ if_begun (c ∷ rest) value text None
spelled_finds c [] value [] = refl
spelled_finds c [] value (d ∷ ds) = by (nat_eq c d)
  where
    by : (b : Bool) → cond b (name_of 1 value) no_name ≡ cond (b && true) (name_of 1 value) no_name
    by true = refl
    by false = refl
spelled_finds c (e ∷ es) value [] = refl
spelled_finds c (e ∷ es) value (d ∷ ds) = by (nat_eq c d) (starts_with nat_eq ds (e ∷ es)) (spelled_finds e es value ds)
  where
    by : (b s : Bool) → found (spelled e es value) ds ≡ cond s (name_of (length (e ∷ es)) value) no_name
        → cond b (or_here None (found (spelled e es value) ds)) no_name ≡ cond (b && s) (name_of (length (c ∷ e ∷ es)) value) no_name
    by true true h = ap (or_here None) h ∙ ap (λ n. name_of n value) (omega arith)
    by true false h = ap (or_here None) h
    by false s h = refl

-- ---- one more name

abbrev length_of : Found → ℕ
length_of None = 1
length_of (Some p) = p.0

-- what is found has letters
some_length : (letters : Letters) (text : List ℕ) → 1 ≤ length_of (found letters text)
some_length end text = omega arith
some_length (letter c value below others) [] = omega arith
some_length (letter c value below others) (d ∷ ds) = by (nat_eq c d) value (found below ds) (some_length others (d ∷ ds))
  where
    by : (b : Bool) (h : Option (List ℕ)) (o : Found) → 1 ≤ length_of (found others (d ∷ ds)) → 1 ≤ length_of (cond b (or_here h o) (found others (d ∷ ds)))
    by true h (Some p) e = omega arith
    by true (Some x) None e = omega arith
    by true None None e = omega arith
    by false h o e = e

-- a name that ends with this letter is shorter than those that go on
here : (held : Option (List ℕ)) (o : Found) (value : List ℕ) → 1 ≤ length_of o → or_here (Some value) o ≡ longer 1 value (or_here held o)
here held (Some p) value h = sym (ap (λ b. cond b (name_of 1 value) (name_of (p.0 + 1) p.1)) (lt-leb (p.0 + 1) 1 (omega (arith, h))))
here (Some x) None value h = refl
here None None value h = refl

more : (a b : ℕ) → nat_le (a + 1) (b + 1) ≡ nat_le a b
more a b = by (nat_le a b) refl
  where
    by : (t : Bool) → nat_le a b ≡ t → nat_le (a + 1) (b + 1) ≡ t
    by true e = le-leb (a + 1) (b + 1) (omega (arith, leb-true a b e))
    by false e = lt-leb (a + 1) (b + 1) (omega (arith, leb-false a b e))

-- the longer of two names is the longer one behind one more letter
deeper : (held : Option (List ℕ)) (o : Found) (value : List ℕ) (n : ℕ) → or_here held (longer n value o) ≡ longer (n + 1) value (or_here held o)
deeper held (Some p) value n = by (nat_le p.0 n) ∙ sym (ap (λ b. cond b (name_of (n + 1) value) (name_of (p.0 + 1) p.1)) (more p.0 n))
  where
    by : (t : Bool) → or_here held (cond t (name_of n value) (Some p)) ≡ cond t (name_of (n + 1) value) (name_of (p.0 + 1) p.1)
    by true = refl
    by false = refl
deeper (Some x) None value n = sym (ap (λ b. cond b (name_of (n + 1) value) (name_of 1 x)) (le-leb 1 (n + 1) (omega arith)))
deeper None None value n = refl

deeper_by : (held : Option (List ℕ)) (o : Found) (value : List ℕ) (n m : ℕ) → m ≡ n + 1 → or_here held (longer n value o) ≡ longer m value (or_here held o)
deeper_by held o value n m e = subst (λ k. or_here held (longer n value o) ≡ longer k value (or_here held o)) (sym e) (deeper held o value n)

-- the name goes on with this letter: its tests agree
same_letter : (s u v : Bool) (n : ℕ) (value : List ℕ) (x a g : Found) → v ≡ u → x ≡ cond s (longer n value a) a
    → cond u x g ≡ cond (v && s) (longer n value (cond u a g)) (cond u a g)
same_letter s true true n value x a g e h = h
same_letter s false false n value x a g e h = refl
same_letter s true false n value x a g e h = cc
same_letter s false true n value x a g e h = cc

-- it goes on with another letter
other_letter : (s u v : Bool) (n : ℕ) (value : List ℕ) (a g h : Found) → (v ≡ true → u ≡ false) → h ≡ cond (v && s) (longer n value g) g
    → cond u a h ≡ cond (v && s) (longer n value (cond u a g)) (cond u a g)
other_letter s true true n value a g h apart e = let no = apart refl in cc
other_letter s true false n value a g h apart e = refl
other_letter s false v n value a g h apart e = e

-- two letters that differ are not both the third
apart : (b c d : ℕ) → nat_eq b c ≡ false → nat_eq c d ≡ true → nat_eq b d ≡ false
apart b c d e f = by (nat_eq b d) refl
  where
    by : (t : Bool) → nat_eq b d ≡ t → t ≡ false
    by false g = refl
    by true g = absurd (eqb-false b c e (eqb-true b d g ∙ sym (eqb-true c d f)))

found_put : (c : ℕ) (rest value : List ℕ) (letters : Letters) (text : List ℕ) → found (put c rest value letters) text ≡ if_begun (c ∷ rest) value text (found letters text)
found_put c rest value end text = spelled_finds c rest value text
found_put c [] value (letter b held below others) [] = by (nat_eq b c)
  where
    by : (t : Bool) → found (cond t (letter b (Some value) below others) (letter b held below (put c [] value others))) [] ≡ None
    by true = refl
    by false = refl
found_put c [] value (letter b held below others) (d ∷ ds) = by (nat_eq b c) refl (found_put c [] value others (d ∷ ds))
  where
    by : (t : Bool) → nat_eq b c ≡ t → found (put c [] value others) (d ∷ ds) ≡ if_begun (c ∷ []) value (d ∷ ds) (found others (d ∷ ds))
        → found (cond t (letter b (Some value) below others) (letter b held below (put c [] value others))) (d ∷ ds)
        ≡ if_begun (c ∷ []) value (d ∷ ds) (found (letter b held below others) (d ∷ ds))
    by true e h = same_letter true (nat_eq b d) (nat_eq c d) 1 value (or_here (Some value) (found below ds)) (or_here held (found below ds)) (found others (d ∷ ds)) (ap (λ x. nat_eq x d) (sym (eqb-true b c e))) (here held (found below ds) value (some_length below ds))
    by false e h = other_letter true (nat_eq b d) (nat_eq c d) 1 value (or_here held (found below ds)) (found others (d ∷ ds)) (found (put c [] value others) (d ∷ ds)) (apart b c d e) h
found_put c (e ∷ es) value (letter b held below others) [] = by (nat_eq b c)
  where
    by : (t : Bool) → found (cond t (letter b held (put e es value below) others) (letter b held below (put c (e ∷ es) value others))) [] ≡ None
    by true = refl
    by false = refl
found_put c (e ∷ es) value (letter b held below others) (d ∷ ds) = by (nat_eq b c) refl (found_put e es value below ds) (found_put c (e ∷ es) value others (d ∷ ds))
  where
    under : (t : Bool) → or_here held (cond t (longer (length (e ∷ es)) value (found below ds)) (found below ds))
        ≡ cond t (longer (length (c ∷ e ∷ es)) value (or_here held (found below ds))) (or_here held (found below ds))
    under true = deeper_by held (found below ds) value (length (e ∷ es)) (length (c ∷ e ∷ es)) (omega arith)
    under false = refl

    by : (t : Bool) → nat_eq b c ≡ t → found (put e es value below) ds ≡ if_begun (e ∷ es) value ds (found below ds)
        → found (put c (e ∷ es) value others) (d ∷ ds) ≡ if_begun (c ∷ e ∷ es) value (d ∷ ds) (found others (d ∷ ds))
        → found (cond t (letter b held (put e es value below) others) (letter b held below (put c (e ∷ es) value others))) (d ∷ ds)
        ≡ if_begun (c ∷ e ∷ es) value (d ∷ ds) (found (letter b held below others) (d ∷ ds))
    by true q h k =
        same_letter (starts_with nat_eq ds (e ∷ es)) (nat_eq b d) (nat_eq c d) (length (c ∷ e ∷ es)) value (or_here held (found (put e es value below) ds)) (or_here held (found below ds)) (found others (d ∷ ds))
        (ap (λ x. nat_eq x d) (sym (eqb-true b c q))) (ap (or_here held) h ∙ under (starts_with nat_eq ds (e ∷ es)))
    by false q h k =
        other_letter (starts_with nat_eq ds (e ∷ es)) (nat_eq b d) (nat_eq c d) (length (c ∷ e ∷ es)) value (or_here held (found below ds)) (found others (d ∷ ds)) (found (put c (e ∷ es) value others) (d ∷ ds))
        (apart b c d q) k

-- ---- the list of names

abbrev pub HasLetters : List ℕ → Type 0
HasLetters [] = ⊥
HasLetters (c ∷ cs) = Unit {0}

put_has : (name value : List ℕ) (letters : Letters) (text : List ℕ) → HasLetters name → found (put_name name value letters) text ≡ if_begun name value text (found letters text)
put_has [] value letters text has = absurd has
put_has (c ∷ cs) value letters text has = found_put c cs value letters text

-- with one more name the letters find what the list says with it
pub finds_put : (letters : Letters) (names : List Name) (n : Name) → HasLetters n.name → Finds letters names → Finds (put_name n.name n.value letters) (n ∷ names)
finds_put letters names n has finds = record { same = λ text. put_has n.name n.value letters text has ∙ ap (if_begun n.name n.value text) (finds.same text) }

pub finds_none : Finds end []
finds_none = record { same = λ text. refl }

-- ---- what is replaced

abbrev Finder : Type 0
Finder = List ℕ → Found

replaced_same : (f g : Finder) → ((text : List ℕ) → f text ≡ g text) → (skipped : ℕ) (text : List ℕ) → replaced_behind f skipped text ≡ replaced_behind g skipped text
replaced_same f g same skipped [] = refl
replaced_same f g same zero (c ∷ cs) = by (nat_eq c 36) (replaced_same f g same (name_length (g cs)) cs) (replaced_same f g same 0 cs)
  where
    by : (t : Bool) → replaced_behind f (name_length (g cs)) cs ≡ replaced_behind g (name_length (g cs)) cs → replaced_behind f 0 cs ≡ replaced_behind g 0 cs
        → cond t (put_in (f cs) ++ replaced_behind f (name_length (f cs)) cs) (c ∷ replaced_behind f 0 cs)
        ≡ cond t (put_in (g cs) ++ replaced_behind g (name_length (g cs)) cs) (c ∷ replaced_behind g 0 cs)
    by true h k = ap (λ o. put_in o ++ replaced_behind f (name_length o) cs) (same cs) ∙ ap (λ r. put_in (g cs) ++ r) h
    by false h k = ap (λ r. c ∷ r) k
replaced_same f g same (suc skipped) (c ∷ cs) = replaced_same f g same skipped cs

-- letters that find what the names say replace what they replace
pub replaced_by : (letters : Letters) (names : List Name) (text : List ℕ) → Finds letters names → replaced_behind (found letters) 0 text ≡ replaced_behind (longest names) 0 text
replaced_by letters names text finds = replaced_same (found letters) (longest names) finds.same 0 text

or_none_same : {A B : Type 0} (o : Option A) (f g : A → Option B) → ((x : A) → f x ≡ g x) → or_none o f ≡ or_none o g
or_none_same None f g same = refl
or_none_same (Some x) f g same = same x

value_same : (f g : Finder) → ((text : List ℕ) → f text ≡ g text) → (name text : List ℕ) → value_of f name text ≡ value_of g name text
value_same f g same [] text = refl
value_same f g same (n ∷ ns) [] = refl
value_same f g same (n ∷ ns) (c ∷ cs) = ap (λ v. Some (record { name = n ∷ ns; value = v })) (replaced_same f g same 0 (c ∷ cs))

-- and set what they set
pub set_by : (letters : Letters) (names : List Name) (text : List ℕ) → Finds letters names → set_at (found letters) text ≡ set_at (longest names) text
set_by letters names text finds =
    or_none_same {A = List ℕ} {B = Name} (behind (codes "$") text) _ _ (λ t. or_none_same {A = List ℕ × List ℕ} {B = Name} (word_at t) _ _ (λ name. or_none_same {A = List ℕ} {B = Name} (gap_at name.1) _ _ (value_same (found letters) (longest names) finds.same name.0)))

or_none_gives : {A B : Type 0} (P : Type 0) (o : Option A) (f : A → Option B) (y : B) → ((x : A) → f x ≡ Some y → P) → or_none o f ≡ Some y → P
or_none_gives P None f y gives e = cc
or_none_gives P (Some x) f y gives e = gives x e

abbrev name_in : Option Name → List ℕ
name_in None = []
name_in (Some n) = n.name

value_has : (f : Finder) (name text : List ℕ) (n : Name) → value_of f name text ≡ Some n → HasLetters n.name
value_has f [] text n e = cc
value_has f (c ∷ cs) [] n e = cc
value_has f (c ∷ cs) (d ∷ ds) n e = let same : c ∷ cs ≡ n.name = ap name_in e in subst HasLetters same tt

-- a name that is set has letters
pub set_has : (f : Finder) (text : List ℕ) (n : Name) → set_at f text ≡ Some n → HasLetters n.name
set_has f text n =
    or_none_gives {A = List ℕ} {B = Name} _ (behind (codes "$") text) _ n (λ t. or_none_gives {A = List ℕ × List ℕ} {B = Name} _ (word_at t) _ n (λ name. or_none_gives {A = List ℕ} {B = Name} _ (gap_at name.1) _ n (λ rest. value_has f name.0 rest n)))
