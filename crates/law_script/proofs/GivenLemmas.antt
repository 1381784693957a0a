-- What the reader keeps of properties, and what comes of them.
use Rattle.std.proofs.Common.{◌≡◌, ◌∙◌, refl, ap, sym, subst, ℕ, suc, ◌+◌, ◌≤◌, ◌⊎◌, inl, inr, List, [], ◌∷◌, Option, None, Some, arith}
use Rattle.std.specs.List.{AllByRecursion}
use Rattle.wm_fields.specs.Properties.{none_given, once, or_text}
use Rattle.law_script.proofs.Turns.{same_some}
use Rattle.law_script.specs.Pieces.{AreOnce, Field, Class, Instance, Role, Kind, Machine, Title, Gives, IsGiven, IsMissing, Property}

-- ---- what is given so far

abbrev pub type_of : {A : Type 0} → A → Type 0
type_of {A} x = A

-- what the reader keeps of the properties
abbrev pub Given : Type 0
Given = type_of none_given

-- what is given of a property
abbrev pub get : Field → Given → Option (List ℕ)
get Class g = g.class
get Instance g = g.instance
get Role g = g.role
get Kind g = g.kind
get Machine g = g.machine
get Title g = g.title

-- with a text for a property
abbrev pub put : Field → List ℕ → Given → Given
put Class x g = record g { class = Some x }
put Instance x g = record g { instance = Some x }
put Role x g = record g { role = Some x }
put Kind x g = record g { kind = Some x }
put Machine x g = record g { machine = Some x }
put Title x g = record g { title = Some x }

pub put_there : (f : Field) (x : List ℕ) (g : Given) → get f (put f x g) ≡ Some x
put_there Class x g = refl
put_there Instance x g = refl
put_there Role x g = refl
put_there Kind x g = refl
put_there Machine x g = refl
put_there Title x g = refl

pub put_others : (f k : Field) (x : List ℕ) (g : Given) → ¬ (f ≡ k) → get k (put f x g) ≡ get k g
put_others Class Class x g other = absurd (other refl)
put_others Instance Instance x g other = absurd (other refl)
put_others Role Role x g other = absurd (other refl)
put_others Kind Kind x g other = absurd (other refl)
put_others Machine Machine x g other = absurd (other refl)
put_others Title Title x g other = absurd (other refl)
put_others f k x g other = refl

same_field : (f k : Field) → (f ≡ k) ⊎ ¬ (f ≡ k)
same_field Class Class = inl refl
same_field Instance Instance = inl refl
same_field Role Role = inl refl
same_field Kind Kind = inl refl
same_field Machine Machine = inl refl
same_field Title Title = inl refl
same_field f k = inr (λ e. cc)

pub one_if : Option (List ℕ) → ℕ
one_if None = 1
one_if (Some x) = 0

-- how many properties may still be given
pub left : Given → ℕ
left g = one_if g.class + one_if g.instance + one_if g.role + one_if g.kind + one_if g.machine + one_if g.title

pub left_less : (f : Field) (x : List ℕ) (g : Given) → get f g ≡ None → left g ≡ suc (left (put f x g))
unfolding left one_if
left_less Class x g e = rw e (omega arith)
left_less Instance x g e = rw e (omega arith)
left_less Role x g e = rw e (omega arith)
left_less Kind x g e = rw e (omega arith)
left_less Machine x g e = rw e (omega arith)
left_less Title x g e = rw e (omega arith)

pub once_by : {C : Type 0} (o : Option (List ℕ)) (g h : Given) → (o ≡ None → g ≡ h → C) → once o g ≡ Some h → C
once_by None g h go e = go refl (same_some g h e)
once_by (Some x) g h go e = cc

-- ---- what comes of properties

-- a property is given by one of these, or is what it was before
abbrev pub Comes : List Property → Field → Option (List ℕ) → Option (List ℕ) → Type 0
Comes ps k old new = ((x : List ℕ) × IsGiven ps k x × (new ≡ Some x)) ⊎ (IsMissing ps k × (new ≡ old))

-- none of them is given yet
abbrev pub AreFree : List Property → Given → Type 0
AreFree ps g = AllByRecursion (λ p. get p.field g ≡ None) ps

missing_given : (ps : List Property) (f k : Field) (x : List ℕ) → f ≡ k → IsMissing ps f → IsGiven ps k x → ⊥
missing_given [] f k x same missing given = given
missing_given (p ∷ ps) f k x same missing (inl given) = missing.0 (given.0 ∙ sym same)
missing_given (p ∷ ps) f k x same missing (inr given) = missing_given ps f k x same missing.1 given

pub comes_more : (p : Property) (ps : List Property) (k : Field) (g : Given) (new : Option (List ℕ)) → IsMissing ps p.field → Comes ps k (get k (put p.field p.said g)) new → Comes (p ∷ ps) k (get k g) new
comes_more p ps k g new missing comes = by (same_field p.field k) comes
  where
    by : (p.field ≡ k) ⊎ ¬ (p.field ≡ k) → Comes ps k (get k (put p.field p.said g)) new → Comes (p ∷ ps) k (get k g) new
    by (inl same) (inl c) = absurd (missing_given ps p.field k c.0 same missing c.1)
    by (inl same) (inr c) = inl (p.said, inl (same, refl), c.1 ∙ subst (λ f. get f (put p.field p.said g) ≡ Some p.said) same (put_there p.field p.said g))
    by (inr other) (inl c) = inl (c.0, inr c.1, c.2)
    by (inr other) (inr c) = inr ((other, c.0), c.1 ∙ put_others p.field k p.said g other)

pub free_more : (f : Field) (x : List ℕ) (g : Given) (ps : List Property) → IsMissing ps f → AreFree ps g → AreFree ps (put f x g)
free_more f x g [] missing free = tt
free_more f x g (p ∷ ps) missing free = (put_others f p.field x g (λ e. missing.0 (sym e)) ∙ free.0, free_more f x g ps missing.1 free.1)

pub free_missing : (f : Field) (x : List ℕ) (g : Given) (ps : List Property) → AreFree ps (put f x g) → IsMissing ps f
free_missing f x g [] free = tt
free_missing f x g (p ∷ ps) free = (λ e. taken (sym (subst (λ k. get k (put f x g) ≡ Some x) (sym e) (put_there f x g)) ∙ free.0), free_missing f x g ps free.1)
  where
    taken : Some x ≡ None → ⊥
    taken e = cc

pub free_before : (f : Field) (x : List ℕ) (g : Given) (ps : List Property) → IsMissing ps f → AreFree ps (put f x g) → AreFree ps g
free_before f x g [] missing free = tt
free_before f x g (p ∷ ps) missing free = (sym (put_others f p.field x g (λ e. missing.0 (sym e))) ∙ free.0, free_before f x g ps missing.1 free.1)

-- ---- the properties of a window

given_once : (ps : List Property) (f : Field) (x y : List ℕ) → AreOnce ps → IsGiven ps f x → IsGiven ps f y → x ≡ y
given_once [] f x y once a b = absurd a
given_once (p ∷ ps) f x y once (inl a) (inl b) = sym a.1 ∙ b.1
given_once (p ∷ ps) f x y once (inl a) (inr b) = absurd (missing_given ps p.field f y a.0 once.0 b)
given_once (p ∷ ps) f x y once (inr a) (inl b) = absurd (missing_given ps p.field f x b.0 once.0 a)
given_once (p ∷ ps) f x y once (inr a) (inr b) = given_once ps f x y once.1 a b

pub gives_same : (ps : List Property) (f : Field) (missing said : List ℕ) (new : Option (List ℕ)) → AreOnce ps → Gives ps f missing said → Comes ps f None new → or_text new missing ≡ said
gives_same ps f missing said new once (inl a) (inl b) = ap (λ o. or_text o missing) b.2 ∙ given_once ps f b.0 said once b.1 a
gives_same ps f missing said new once (inl a) (inr b) = absurd (missing_given ps f f said refl b.0 a)
gives_same ps f missing said new once (inr a) (inl b) = absurd (missing_given ps f f b.0 refl a.0 b.1)
gives_same ps f missing said new once (inr a) (inr b) = ap (λ o. or_text o missing) b.1 ∙ sym a.1

pub comes_gives : (ps : List Property) (f : Field) (missing : List ℕ) (new : Option (List ℕ)) → Comes ps f None new → Gives ps f missing (or_text new missing)
comes_gives ps f missing new (inl a) = inl (subst (λ o. IsGiven ps f (or_text o missing)) (sym a.2) a.1)
comes_gives ps f missing new (inr a) = inr (a.0, ap (λ o. or_text o missing) a.1)

pub none_free : (ps : List Property) → AreFree ps none_given
none_free [] = tt
none_free (p ∷ ps) = (none_get p.field, none_free ps)
  where
    none_get : (f : Field) → get f none_given ≡ None
    none_get Class = refl
    none_get Instance = refl
    none_get Role = refl
    none_get Kind = refl
    none_get Machine = refl
    none_get Title = refl

pub none_left : left none_given ≤ 6
unfolding left one_if
none_left = omega arith
