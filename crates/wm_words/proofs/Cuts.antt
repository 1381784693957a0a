-- Reading a text that was cut behind a ;, against reading it whole.
use Rattle.std.proofs.Common.{◌≡◌, ℕ, ◌≤◌, ◌⊎◌, Bool, true, false, List, [], ◌∷◌, ◌++◌, length, Option, Some, None, refl, sym, ap, subst, ◌∙◌, append_assoc, arith, inl, inr}
use Rattle.std.specs.Prelude.{if◌then◌else◌, ◌==◌, ◌||◌, ◌&&◌, option_map}
use Rattle.std.proofs.lemmas.Bool.{eqb-true, false≢true}
use Rattle.std.proofs.lemmas.List.{length-append}
use Rattle.wm_words.specs.Pieces.{◌>>=◌, is_blank, until, from, skip, ends, unquote, with_byte}

-- ---- texts that end with ;

-- the last byte is ;
abbrev pub Cut : List ℕ → Type 0
Cut [] = ⊥
Cut (c ∷ []) = c ≡ 59
Cut (c ∷ d ∷ r) = Cut (d ∷ r)

-- r is what is left of u after some of its bytes
abbrev pub Suffix : List ℕ → List ℕ → Type 0
Suffix r u = (a : List ℕ) × (u ≡ a ++ r)

pub suffix_refl : (u : List ℕ) → Suffix u u
suffix_refl u = ([], refl)

pub suffix_cons : (c : ℕ) (r u : List ℕ) → Suffix r u → Suffix r (c ∷ u)
suffix_cons c r u s = (c ∷ s.0, ap (λ (t : List ℕ). c ∷ t) s.1)

pub suffix_trans : (a b c : List ℕ) → Suffix a b → Suffix b c → Suffix a c
suffix_trans a b c s t = (t.0 ++ s.0, t.1 ∙ (ap (λ (u : List ℕ). t.0 ++ u) s.1 ∙ sym (append_assoc t.0 s.0 a)))

pub suffix_length : (r u : List ℕ) → Suffix r u → length r ≤ length u
suffix_length r u s = omega (arith, ap length s.1, length-append s.0 r)

cut_tail : (c : ℕ) (s : List ℕ) → Cut (c ∷ s) → 1 ≤ length s → Cut s
cut_tail c [] h le = absurd (omega arith)
cut_tail c (d ∷ r) h le = h

cut_behind : (a r : List ℕ) → Cut (a ++ r) → 1 ≤ length r → Cut r
cut_behind [] r h le = h
cut_behind (c ∷ a) r h le = cut_behind a r (cut_tail c (a ++ r) h (omega (arith, length-append a r))) le

pub cut_suffix : (r u : List ℕ) → Cut u → Suffix r u → 1 ≤ length r → Cut r
cut_suffix r u h s le = cut_behind s.0 r (subst (λ (t : List ℕ). Cut t) s.1 h) le

-- behind a byte that is no ;
pub behind_other : (c : ℕ) (r : List ℕ) → Cut (c ∷ r) → (c ≡ 59 → ⊥) → Cut r
behind_other c [] h other = absurd (other h)
behind_other c (d ∷ r) h other = h

pub cut_long : (u : List ℕ) → Cut u → 1 ≤ length u
cut_long [] h = elim h [ ]
cut_long (c ∷ r) h = omega arith

-- ---- pieces of them

until_chosen : (b : Bool) (c : ℕ) (x y : List ℕ) → x ≡ y → (if b then [] else c ∷ x) ≡ (if b then [] else c ∷ y)
until_chosen b c x y e = ap (λ (t : List ℕ). if b then [] else c ∷ t) e

pub until_cut : (p : ℕ → Bool) → p 59 ≡ true → (u w : List ℕ) → Cut u → until p (u ++ w) ≡ until p u
unfolding until
until_cut p stop [] w h = elim h [ ]
until_cut p stop (c ∷ []) w h = let hit : p c ≡ true = ap p h ∙ stop in rw hit refl
until_cut p stop (c ∷ d ∷ r) w h = until_chosen (p c) c (until p (d ∷ r ++ w)) (until p (d ∷ r)) (until_cut p stop (d ∷ r) w h)

from_chosen : (b : Bool) (c : ℕ) (s w x y : List ℕ) → x ≡ y ++ w → (if b then c ∷ s ++ w else x) ≡ (if b then c ∷ s else y) ++ w
from_chosen true c s w x y e = refl
from_chosen false c s w x y e = e

pub from_cut : (p : ℕ → Bool) → p 59 ≡ true → (u w : List ℕ) → Cut u → from p (u ++ w) ≡ from p u ++ w
unfolding from
from_cut p stop [] w h = elim h [ ]
from_cut p stop (c ∷ []) w h = let hit : p c ≡ true = ap p h ∙ stop in rw hit refl
from_cut p stop (c ∷ d ∷ r) w h = from_chosen (p c) c (d ∷ r) w (from p (d ∷ r ++ w)) (from p (d ∷ r)) (from_cut p stop (d ∷ r) w h)

suffix_chosen : (b : Bool) (c : ℕ) (x r : List ℕ) → Suffix x r → Suffix (if b then c ∷ r else x) (c ∷ r)
suffix_chosen true c x r s = suffix_refl (c ∷ r)
suffix_chosen false c x r s = suffix_cons c x r s

pub from_suffix : (p : ℕ → Bool) (u : List ℕ) → Suffix (from p u) u
unfolding from
from_suffix p [] = suffix_refl []
from_suffix p (c ∷ r) = suffix_chosen (p c) c (from p r) r (from_suffix p r)

cut_chosen : (b : Bool) (c : ℕ) (x s : List ℕ) → Cut (c ∷ s) → Cut x → Cut (if b then c ∷ s else x)
cut_chosen true c x s h k = h
cut_chosen false c x s h k = k

pub from_cut_kept : (p : ℕ → Bool) → p 59 ≡ true → (u : List ℕ) → Cut u → Cut (from p u)
unfolding from
from_cut_kept p stop [] h = elim h [ ]
from_cut_kept p stop (c ∷ []) h = let hit : p c ≡ true = ap p h ∙ stop in rw hit h
from_cut_kept p stop (c ∷ d ∷ r) h = cut_chosen (p c) c (from p (d ∷ r)) (d ∷ r) h (from_cut_kept p stop (d ∷ r) h)

-- skip is from at the first byte that is no blank
skip_chosen : (b : Bool) (c : ℕ) (s w x y : List ℕ) → x ≡ y ++ w → (if b then x else c ∷ s ++ w) ≡ (if b then y else c ∷ s) ++ w
skip_chosen true c s w x y e = e
skip_chosen false c s w x y e = refl

pub skip_cut : (u w : List ℕ) → Cut u → skip (u ++ w) ≡ skip u ++ w
unfolding skip
skip_cut [] w h = elim h [ ]
skip_cut (c ∷ []) w h = let miss : is_blank c ≡ false = ap is_blank h in rw miss refl
skip_cut (c ∷ d ∷ r) w h = skip_chosen (is_blank c) c (d ∷ r) w (skip (d ∷ r ++ w)) (skip (d ∷ r)) (skip_cut (d ∷ r) w h)

skip_kept_chosen : (b : Bool) (c : ℕ) (x s : List ℕ) → Cut (c ∷ s) → Cut x → Cut (if b then x else c ∷ s)
skip_kept_chosen true c x s h k = k
skip_kept_chosen false c x s h k = h

pub skip_cut_kept : (u : List ℕ) → Cut u → Cut (skip u)
unfolding skip
skip_cut_kept [] h = elim h [ ]
skip_cut_kept (c ∷ []) h = let miss : is_blank c ≡ false = ap is_blank h in rw miss h
skip_cut_kept (c ∷ d ∷ r) h = skip_kept_chosen (is_blank c) c (skip (d ∷ r)) (d ∷ r) h (skip_cut_kept (d ∷ r) h)

skip_suffix_chosen : (b : Bool) (c : ℕ) (x r : List ℕ) → Suffix x r → Suffix (if b then x else c ∷ r) (c ∷ r)
skip_suffix_chosen true c x r s = suffix_cons c x r s
skip_suffix_chosen false c x r s = suffix_refl (c ∷ r)

pub skip_suffix : (u : List ℕ) → Suffix (skip u) u
unfolding skip
skip_suffix [] = suffix_refl []
skip_suffix (c ∷ r) = skip_suffix_chosen (is_blank c) c (skip r) r (skip_suffix r)

pub ends_cut : (u w : List ℕ) → Cut u → ends (u ++ w) ≡ ends u
ends_cut [] w h = elim h [ ]
ends_cut (c ∷ r) w h = refl

-- ---- what reading the whole text gives, of what reading its front gives

-- what was read, with the rest of the whole text behind it
abbrev pub Ext : {A : Type 0} → List ℕ → Option (A × List ℕ) → Option (A × List ℕ)
Ext w o = option_map (λ x. (x.0, x.1 ++ w)) o

-- a quote of the rest w was read, and r follows
abbrev pub Quoted : List ℕ → List ℕ → Type 0
Quoted w r = (a : List ℕ) × (b : List ℕ) × (w ≡ a ++ 34 ∷ (b ++ r))

-- something was read, up to behind a quote of the rest w
abbrev pub Late : {A : Type 0} → List ℕ → Option (A × List ℕ) → Type 0
Late w None = ⊥
Late w (Some x) = Quoted w x.1

-- the front reads as the whole does; or it does not read, since a quote is closed behind it
abbrev pub Outcome : {A : Type 0} → List ℕ → Option (A × List ℕ) → Option (A × List ℕ) → Type 0
Outcome w front all = (all ≡ Ext w front) ⊎ ((front ≡ None) × Late w all)

pub quoted_more : (w r s : List ℕ) → Quoted w r → Suffix s r → Quoted w s
quoted_more w r s q t = (q.0, q.1 ++ t.0, q.2 ∙ ap (λ (u : List ℕ). q.0 ++ 34 ∷ u) (ap (λ (u : List ℕ). q.1 ++ u) t.1 ∙ sym (append_assoc q.1 t.0 s)))

pub quoted_length : (w r : List ℕ) → Quoted w r → length r ≤ length w
quoted_length w r q = omega (arith, ap length q.2, length-append q.0 (34 ∷ (q.1 ++ r)), length-append q.1 r)

-- ---- each value that is there

abbrev pub AllSome : {A : Type 0} → (A → Type 0) → Option A → Type 0
AllSome P None = Unit {0}
AllSome P (Some x) = P x

abbrev Keep : {A : Type 0} → A → Option A
Keep x = Some x

pub late_bind : {A B : Type 0} (w : List ℕ) (all : Option (A × List ℕ)) (g : A × List ℕ → Option (B × List ℕ)) → Late w all → ((x : A × List ℕ) → AllSome (λ z. Suffix z.1 x.1) (g x)) → Outcome w None (all >>= g)
late_bind w None g l tails = elim l [ ]
late_bind {A} {B} w (Some x) g l tails = by (g x) (tails x)
  where
    by : (o : Option (B × List ℕ)) → AllSome (λ z. Suffix z.1 x.1) o → Outcome w None o
    by None t = inl refl
    by (Some z) t = inr (refl, quoted_more w x.1 z.1 l t)

pub outcome_bind : {A B : Type 0} (w : List ℕ) (front all : Option (A × List ℕ)) (g : A × List ℕ → Option (B × List ℕ)) → Outcome w front all → ((x : A × List ℕ) → front ≡ Some x → Outcome w (g x) (g (x.0, x.1 ++ w))) → ((x : A × List ℕ) → AllSome (λ z. Suffix z.1 x.1) (g x)) → Outcome w (front >>= g) (all >>= g)
outcome_bind w None all g (inl e) more tails = inl (ap (λ o. o >>= g) e)
outcome_bind w (Some x) all g (inl e) more tails = subst (λ o. Outcome w (g x) (o >>= g)) (sym e) (more x refl)
outcome_bind w front all g (inr (n, l)) more tails = subst (λ o. Outcome w (o >>= g) (all >>= g)) (sym n) (late_bind w all g l tails)

-- ---- quoted texts

byte_all : (P Q : List ℕ × List ℕ → Type 0) (c : ℕ) (o : Option (List ℕ × List ℕ)) → AllSome P o → ((x : List ℕ × List ℕ) → P x → Q (c ∷ x.0, x.1)) → AllSome Q (with_byte c o)
byte_all P Q c None h f = tt
byte_all P Q c (Some x) h f = f x h

-- what stands behind the closing quote
abbrev pub Closing : List ℕ → List ℕ × List ℕ → Type 0
Closing s x = (a : List ℕ) × (s ≡ a ++ 34 ∷ x.1)

pub if_some : {A : Type 0} (P : A → Type 0) (b : Bool) (x y : Option A) → (b ≡ true → AllSome P x) → (b ≡ false → AllSome P y) → AllSome P (if b then x else y)
if_some P true x y h k = h refl
if_some P false x y h k = k refl

pub unquote_closing : (s : List ℕ) → AllSome (Closing s) (unquote s)
unfolding unquote
unquote_closing [] = tt
unquote_closing (c ∷ []) = if_some (Closing (c ∷ [])) (c == 34) (Some ([], [])) None (λ e. ([], ap (λ (k : ℕ). k ∷ []) (eqb-true c 34 e))) (λ e. tt)
unquote_closing (c ∷ d ∷ r) = if_some (Closing (c ∷ d ∷ r)) (c == 34) (Some ([], d ∷ r)) _ (λ e. ([], ap (λ (k : ℕ). k ∷ d ∷ r) (eqb-true c 34 e))) (λ e.
    if_some (Closing (c ∷ d ∷ r)) ((c == 92) && ((d == 34) || (d == 92))) (with_byte d (unquote r)) (with_byte c (unquote (d ∷ r)))
    (λ f. byte_all (Closing r) (Closing (c ∷ d ∷ r)) d (unquote r) (unquote_closing r) (λ x h. (c ∷ d ∷ h.0, ap (λ (t : List ℕ). c ∷ d ∷ t) h.1)))
    (λ f. byte_all (Closing (d ∷ r)) (Closing (c ∷ d ∷ r)) c (unquote (d ∷ r)) (unquote_closing (d ∷ r)) (λ x h. (c ∷ h.0, ap (λ (t : List ℕ). c ∷ t) h.1))))

outcome_byte : (w : List ℕ) (c : ℕ) (front all : Option (List ℕ × List ℕ)) → Outcome w front all → Outcome w (with_byte c front) (with_byte c all)
outcome_byte w c None all (inl e) = inl (ap (with_byte c) e)
outcome_byte w c (Some x) all (inl e) = inl (ap (with_byte c) e)
outcome_byte w c front None (inr (n, l)) = elim l [ ]
outcome_byte w c front (Some x) (inr (n, l)) = inr (ap (with_byte c) n, l)

pub outcome_if : {A : Type 0} (w : List ℕ) (b : Bool) (x y s t : Option (A × List ℕ)) → (b ≡ true → Outcome w x s) → (b ≡ false → Outcome w y t) → Outcome w (if b then x else y) (if b then s else t)
outcome_if w true x y s t h k = h refl
outcome_if w false x y s t h k = k refl

semi_first : (c : ℕ) (w : List ℕ) → c ≡ 59 → unquote (c ∷ w) ≡ with_byte c (unquote w)
unfolding unquote
semi_first c [] e = rw e refl
semi_first c (d ∷ r) e = rw e refl

alone_none : (c : ℕ) → c ≡ 59 → unquote (c ∷ []) ≡ None
unfolding unquote
alone_none c e = rw e refl

late_here : (w : List ℕ) (c : ℕ) (o : Option (List ℕ × List ℕ)) → AllSome (Closing w) o → Outcome w None (with_byte c o)
late_here w c None h = inl refl
late_here w c (Some x) h = inr (refl, (h.0, [], h.1))

no_escape : (d : ℕ) → d ≡ 59 → ((d == 34) || (d == 92)) ≡ false
no_escape d e = rw e refl

and_second : (a b : Bool) → (a && b) ≡ true → b ≡ true
and_second true b e = e
and_second false b e = absurd cc

pub unquote_cut : (y w : List ℕ) → Cut y → Outcome w (unquote y) (unquote (y ++ w))
unfolding unquote
unquote_cut [] w h = elim h [ ]
unquote_cut (c ∷ []) w h = subst (λ o. Outcome w o (unquote (c ∷ w))) (sym (alone_none c h)) (subst (λ o. Outcome w None o) (sym (semi_first c w h)) (late_here w c (unquote w) (unquote_closing w)))
unquote_cut (c ∷ d ∷ []) w h = outcome_if w (c == 34) (Some ([], d ∷ [])) _ (Some ([], d ∷ w)) _ (λ e. inl refl) (λ e.
    outcome_if w ((c == 92) && ((d == 34) || (d == 92))) (with_byte d (unquote [])) (with_byte c (unquote (d ∷ []))) (with_byte d (unquote w)) (with_byte c (unquote (d ∷ w)))
    (λ f. absurd (false≢true (sym (no_escape d h) ∙ and_second (c == 92) ((d == 34) || (d == 92)) f)))
    (λ f. outcome_byte w c (unquote (d ∷ [])) (unquote (d ∷ w)) (unquote_cut (d ∷ []) w h)))
unquote_cut (c ∷ d ∷ e ∷ r) w h = outcome_if w (c == 34) (Some ([], d ∷ e ∷ r)) _ (Some ([], d ∷ e ∷ r ++ w)) _ (λ f. inl refl) (λ f.
    outcome_if w ((c == 92) && ((d == 34) || (d == 92))) (with_byte d (unquote (e ∷ r))) (with_byte c (unquote (d ∷ e ∷ r))) (with_byte d (unquote (e ∷ r ++ w))) (with_byte c (unquote (d ∷ e ∷ r ++ w)))
    (λ g. outcome_byte w d (unquote (e ∷ r)) (unquote (e ∷ r ++ w)) (unquote_cut (e ∷ r) w h))
    (λ g. outcome_byte w c (unquote (d ∷ e ∷ r)) (unquote (d ∷ e ∷ r ++ w)) (unquote_cut (d ∷ e ∷ r) w h)))
