-- Filling in a title format, from one percent sign to the next.
use Rattle.std.proofs.Common.{◌≡◌, ◌≢◌, ◌∙◌, ap, sym, subst, refl, ℕ, suc, ◌<◌, ◌+◌, Bool, true, false, cond, eqb, List, [], ◌∷◌, ◌++◌, append-nil, drop, length, get_or, Option, Some, None, Bor, codes, arith}
use Rattle.std.specs.Option.{MatchOption}
use Rattle.std.specs.List.{starts_with}
use Rattle.std.specs.Str.{IsCharBoundary}
use Rattle.std.specs.Str.Pattern.{FindsTextPrefix}
use Rattle.std.proofs.lemmas.Bool.{ne_eqb}
use Rattle.std.proofs.lemmas.List.{length-append}
use Rattle.std.proofs.lemmas.Str.Pattern.{IsSplitOnceResult, split_parts, starts_text}
use Rattle.wm_base.specs.declared.properties.Props.{Props}
use Rattle.wm_arrange.specs.TitleText.{filled, marks_text, named, put, IsAtSign, IsBehind}

otherwise : (b : Bool) (x y : List ℕ) → b ≡ false → cond b x y ≡ y
otherwise true x y h = cc
otherwise false x y h = refl

-- text without a percent sign stays as it is
plain : (p : Props) (xs ys : List ℕ) → ((i : ℕ) → i < length xs → get_or xs i 0 ≢ 37) → filled p (xs ++ ys) ≡ xs ++ filled p ys
plain p [] ys none = refl
plain p (x ∷ xs) ys none =
    otherwise (eqb x 37) (put (named p (xs ++ ys)) (filled p (xs ++ ys))) (x ∷ filled p (xs ++ ys)) (ne_eqb x 37 (none 0 (omega arith)))
    ∙ ap (λ l. x ∷ l) (plain p xs ys (λ i l. none (suc i) (omega (arith, l))))

pub at_sign : (p : Props) (bs : List ℕ) (r : Option (Bor (List ℕ) × Bor (List ℕ))) → IsSplitOnceResult 37 bs r
    → MatchOption r (filled p bs ≡ bs) (λ x. IsAtSign p bs x.0.now x.1.now)
at_sign p bs None h = ap (filled p) (sym (append-nil bs)) ∙ (plain p bs [] (split_parts 37 bs None h (omega arith)) ∙ append-nil bs)
at_sign p bs (Some x) h =
    let parts = split_parts 37 bs (Some x) h (omega arith) in
    record {
      value = ap (filled p) parts.0 ∙ plain p x.0.now (37 ∷ x.1.now) parts.1;
      shorter = omega (arith, ap length parts.0, length-append x.0.now (37 ∷ x.1.now));
    }

pub behind_name : (name text : List ℕ) (r : Option (Bor (List ℕ)))
    → MatchOption r (FindsTextPrefix name text None) (λ x. (n : ℕ) × FindsTextPrefix name text (Some n) × (x.now ≡ drop n text) × (length x.now + n ≡ length text))
    → MatchOption r (starts_with eqb text name ≡ false) (λ x. IsBehind text name x.now)
behind_name name text None h = sym (starts_text false name text h)
behind_name name text (Some x) h = record {
  starts = sym (starts_text true name text (h.0, h.1, subst (IsCharBoundary text) (sym h.1.0) h.1.2));
  whole = h.1.1 ∙ ap (λ l. name ++ l) (sym h.2);
}

-- ---- each property in place of its name

-- a property in place of a name of n bytes
put_is : (p : Props) (after behind value : List ℕ) (n : ℕ) → named p after ≡ Some (value, n) → drop n (filled p after) ≡ filled p behind → filled p (37 ∷ after) ≡ value ++ filled p behind
put_is p after behind value n e d = ap (λ o. put o (filled p after)) e ∙ ap (λ l. value ++ l) d

pub title_is : (p : Props) (after behind : List ℕ) → IsBehind after (codes "title") behind → filled p (37 ∷ after) ≡ p.title ++ filled p behind
title_is p after behind h = put_is p after behind p.title 5 (rw h.starts refl) (ap (λ t. drop 5 (filled p t)) h.whole)

pub class_is : (p : Props) (after behind : List ℕ) → starts_with eqb after (codes "title") ≡ false → IsBehind after (codes "class") behind → filled p (37 ∷ after) ≡ p.class ++ filled p behind
class_is p after behind e h = put_is p after behind p.class 5 (rw (e, h.starts) refl) (ap (λ t. drop 5 (filled p t)) h.whole)

pub instance_is : (p : Props) (after behind : List ℕ) → starts_with eqb after (codes "title") ≡ false → starts_with eqb after (codes "class") ≡ false → IsBehind after (codes "instance") behind
    → filled p (37 ∷ after) ≡ p.instance ++ filled p behind
instance_is p after behind e f h = put_is p after behind p.instance 8 (rw (e, f, h.starts) refl) (ap (λ t. drop 8 (filled p t)) h.whole)

pub machine_is : (p : Props) (after behind : List ℕ) → starts_with eqb after (codes "title") ≡ false → starts_with eqb after (codes "class") ≡ false → starts_with eqb after (codes "instance") ≡ false
    → IsBehind after (codes "machine") behind → filled p (37 ∷ after) ≡ p.machine ++ filled p behind
machine_is p after behind e f g h = put_is p after behind p.machine 7 (rw (e, f, g, h.starts) refl) (ap (λ t. drop 7 (filled p t)) h.whole)

pub none_is : (p : Props) (after : List ℕ) → starts_with eqb after (codes "title") ≡ false → starts_with eqb after (codes "class") ≡ false → starts_with eqb after (codes "instance") ≡ false → starts_with eqb after (codes "machine") ≡ false
    → filled p (37 ∷ after) ≡ codes "%" ++ filled p after
none_is p after e f g h = rw (e, f, g, h) refl

-- ---- a format that is the title alone, and no marks

pub only_title : (p : Props) (format : List ℕ) (marks : List (List ℕ)) → format ≡ codes "%title" → marks ≡ [] → filled p format ++ marks_text marks ≡ p.title
only_title p format marks f m = ap (λ l. filled p l ++ marks_text marks) f ∙ (ap (λ l. (p.title ++ []) ++ marks_text l) m ∙ (append-nil (p.title ++ []) ∙ append-nil p.title))
