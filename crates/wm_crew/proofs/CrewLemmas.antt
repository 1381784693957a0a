-- What two crews beside one another did, as one.
use Rattle.std.proofs.Common.{◌≡◌, ℕ, suc, ◌+◌, Bool, true, false, nat_lt, if◌then◌else◌, List, [], ◌∷◌, ◌++◌, length, Option, Some, None, refl, ap, sym, subst, ◌∙◌, arith, slice_index_or, slice_set}
use Rattle.std.proofs.lemmas.Bool.{le-ltb, lt-ltb, ltb-false, ltb-true}
use Rattle.wm_crew.specs.Crew.{AtAll, Each, Post, post, posts}
use Rattle.wm_crew.specs.Running.{all, crew}
use Rattle.wm_crew.specs.Faults.{fault_among, fault_of, rank, worse}
use Rattle.wm_actors.specs.declared.ending.ActorEnd.{ActorEnd}
use Rattle.wm_crew.specs.declared.fault.Fault.{Fault}
use Rattle.wm_crew.specs.declared.fault.Fault.TheVariants as fault

-- ---- which fault counts

pub worse_none : (f : Option Fault) → worse None f ≡ f
worse_none None = refl
worse_none (Some (fault.Listen door)) = refl
worse_none (Some fault.Write) = refl
worse_none (Some fault.Exhausted) = refl
worse_none (Some fault.NoMemory) = refl

pub worse_then : (f g : Option Fault) → nat_lt (rank g) (rank f) ≡ true → worse f g ≡ g
worse_then f g p = ap (λ b. if b then g else f) p

pub worse_else : (f g : Option Fault) → nat_lt (rank g) (rank f) ≡ false → worse f g ≡ f
worse_else f g p = ap (λ b. if b then g else f) p

worse_once : (f g h : Option Fault) → worse f (worse g h) ≡ worse (worse f g) h
worse_once f g h = by_tests (nat_lt (rank g) (rank f)) refl (nat_lt (rank h) (rank g)) refl
  where
    by_tests : (x : Bool) → nat_lt (rank g) (rank f) ≡ x → (y : Bool) → nat_lt (rank h) (rank g) ≡ y → worse f (worse g h) ≡ worse (worse f g) h
    by_tests true p true q =
        let below : nat_lt (rank h) (rank f) ≡ true = lt-ltb (rank h) (rank f) (omega (arith, ltb-true (rank g) (rank f) p, ltb-true (rank h) (rank g) q)) in
        ap (λ a. worse f a) (worse_then g h q) ∙ worse_then f h below ∙ sym (ap (λ a. worse a h) (worse_then f g p) ∙ worse_then g h q)
    by_tests true p false q = ap (λ a. worse f a) (worse_else g h q) ∙ worse_then f g p ∙ sym (ap (λ a. worse a h) (worse_then f g p) ∙ worse_else g h q)
    by_tests false p true q = ap (λ a. worse f a) (worse_then g h q) ∙ sym (ap (λ a. worse a h) (worse_else f g p))
    by_tests false p false q =
        let above : nat_lt (rank h) (rank f) ≡ false = le-ltb (rank h) (rank f) (omega (arith, ltb-false (rank g) (rank f) p, ltb-false (rank h) (rank g) q)) in
        ap (λ a. worse f a) (worse_else g h q) ∙ worse_else f g p ∙ sym (ap (λ a. worse a h) (worse_else f g p) ∙ worse_else f h above)

+-zero : (n : ℕ) → n + 0 ≡ n
+-zero n = omega arith

shift : (n k : ℕ) → suc n + k ≡ n + suc k
shift n k = omega arith

fault_append : (first : ℕ) (ends more : List ActorEnd) → fault_among first (ends ++ more) ≡ worse (fault_among first ends) (fault_among (first + length ends) more)
fault_append first [] more = sym (ap (λ n. worse None (fault_among n more)) (+-zero first) ∙ worse_none (fault_among first more))
fault_append first (e ∷ ends) more =
    ap (λ f. worse (fault_of first e) f) (fault_append (suc first) ends more)
    ∙ worse_once (fault_of first e) (fault_among (suc first) ends) (fault_among (suc first + length ends) more)
    ∙ ap (λ n. worse (worse (fault_of first e) (fault_among (suc first) ends)) (fault_among n more)) (shift first (length ends))

-- ---- posts

module _ {P A B : Type 0} where
  pub posts_append : (p q : List P) (a b : List A) (k l : List B) → length a ≡ length p → length k ≡ length p
      → posts (p ++ q) (a ++ b) (k ++ l) ≡ posts p a k ++ posts q b l
  posts_append [] q [] b [] l same also = refl
  posts_append (x ∷ p) q (y ∷ a) b (z ∷ k) l same also = ap (λ rest. post x y z ∷ rest) (posts_append p q a b k l (omega (arith, same)) (omega (arith, also)))
  posts_append [] q (y ∷ a) b k l same also = absurd (omega (arith, same))
  posts_append [] q [] b (z ∷ k) l same also = absurd (omega (arith, also))
  posts_append (x ∷ p) q [] b k l same also = absurd (omega (arith, same))
  posts_append (x ∷ p) q (y ∷ a) b [] l same also = absurd (omega (arith, also))

  pub length_posts : (p : List P) (a : List A) (k : List B) → length a ≡ length p → length k ≡ length p → length (posts p a k) ≡ length p
  length_posts [] a k same also = refl
  length_posts (x ∷ p) (y ∷ a) (z ∷ k) same also = ap suc (length_posts p a k (omega (arith, same)) (omega (arith, also)))
  length_posts (x ∷ p) [] k same also = absurd (omega (arith, same))
  length_posts (x ∷ p) (y ∷ a) [] same also = absurd (omega (arith, also))

-- ---- two crews

module _ {P A B : Type 0} (does : ℕ → P → A → B → P → A → B → ActorEnd → Type 0) where
  each_append : (number next : ℕ) (old new : List (Post P A B)) (ends : List ActorEnd) (more after : List (Post P A B)) (others : List ActorEnd)
      → next ≡ number + length old → Each does number old new ends → Each does next more after others → Each does number (old ++ more) (new ++ after) (ends ++ others)
  each_append number next [] [] [] more after others is each also = subst (λ n. Each does n more after others) (is ∙ +-zero number) also
  each_append number next (from ∷ old) (to ∷ new) (e ∷ ends) more after others is each also =
      (each.0, each_append (suc number) next old new ends more after others (is ∙ sym (shift number (length old))) each.1 also)
  each_append number next [] (to ∷ new) ends more after others is each also = absurd each
  each_append number next [] [] (e ∷ ends) more after others is each also = absurd each
  each_append number next (from ∷ old) [] ends more after others is each also = absurd each
  each_append number next (from ∷ old) (to ∷ new) [] more after others is each also = absurd each

  as_many : (number : ℕ) (old new : List (Post P A B)) (ends : List ActorEnd) → Each does number old new ends → length ends ≡ length old
  as_many number [] [] [] each = refl
  as_many number (from ∷ old) (to ∷ new) (e ∷ ends) each = ap suc (as_many (suc number) old new ends each.1)
  as_many number [] (to ∷ new) ends each = absurd each
  as_many number [] [] (e ∷ ends) each = absurd each
  as_many number (from ∷ old) [] ends each = absurd each
  as_many number (from ∷ old) (to ∷ new) [] each = absurd each

  pub halves : (first next : ℕ) (old new more after : List (Post P A B)) (f g : Option Fault) → next ≡ first + length old
      → AtAll does first old new f → AtAll does next more after g → AtAll does first (old ++ more) (new ++ after) (worse f g)
  halves first next old new more after f g is one other = record {
    ends = one.ends ++ other.ends;
    each = each_append first next old new one.ends more after other.ends is one.each other.each;
    counts = counts;
  }
    where
      place : next ≡ first + length one.ends
      place = is ∙ ap (λ n. first + n) (sym (as_many first old new one.ends one.each))

      counts : worse f g ≡ fault_among first (one.ends ++ other.ends)
      counts = ap (λ x. worse x g) one.counts ∙ ap (λ x. worse (fault_among first one.ends) x) (other.counts ∙ ap (λ n. fault_among n other.ends) place)
          ∙ sym (fault_append first one.ends other.ends)

  -- the first worker, and the others beside it, where slices are left like this
  pub beside : (first : ℕ) (p : List P) (a : List A) (k : List B) (more : List (Post P A B)) (p' q' p1 q1 : List P) (a' b' a1 b1 : List A) (k' l' k1 l1 : List B) (f g h : Option Fault)
      → (length p ≡ 1) × (length a ≡ 1) × (length k ≡ 1) → h ≡ worse f g
      → (p' ≡ p1) × (a' ≡ a1) × (k' ≡ k1) × (q' ≡ q1) × (b' ≡ b1) × (l' ≡ l1)
      → AtAll does first (posts p a k) (posts p1 a1 k1) f → AtAll does (first + 1) more (posts q1 b1 l1) g
      → AtAll does first (posts p a k ++ more) (posts p' a' k' ++ posts q' b' l') h
  beside first p a k more p' q' p1 q1 a' b' a1 b1 k' l' k1 l1 f g h one is same mine others =
      subst (λ x. AtAll does first (posts p a k ++ more) x h) (sym left)
      (subst (λ x. AtAll does first (posts p a k ++ more) (posts p1 a1 k1 ++ posts q1 b1 l1) x) (sym is)
      (halves first (first + 1) (posts p a k) (posts p1 a1 k1) more (posts q1 b1 l1) f g counted mine others))
    where
      counted : first + 1 ≡ first + length (posts p a k)
      counted = ap (λ n. first + n) (sym (length_posts p a k (one.1 ∙ sym one.0) (one.2 ∙ sym one.0) ∙ one.0))

      left : (posts p' a' k' ++ posts q' b' l') ≡ (posts p1 a1 k1 ++ posts q1 b1 l1)
      left = ap (λ x. posts x a' k' ++ posts q' b' l') same.0 ∙ ap (λ x. posts p1 x k' ++ posts q' b' l') same.1 ∙ ap (λ x. posts p1 a1 x ++ posts q' b' l') same.2
          ∙ ap (λ x. posts p1 a1 k1 ++ posts x b' l') same.3 ∙ ap (λ x. posts p1 a1 k1 ++ posts q1 x l') same.4 ∙ ap (λ x. posts p1 a1 k1 ++ posts q1 b1 x) same.5

  worse_end : (g : Option Fault) → worse g None ≡ g
  worse_end None = refl
  worse_end (Some (fault.Listen door)) = refl
  worse_end (Some fault.Write) = refl
  worse_end (Some fault.Exhausted) = refl
  worse_end (Some fault.NoMemory) = refl

  -- the only worker
  pub only : (first : ℕ) (p : List P) (a : List A) (k : List B) (x : P) (y : A) (z : B) (x' : P) (y' : A) (z' : B) (e : ActorEnd) (f : Option Fault)
      → length p ≡ 1 → length a ≡ length p → length k ≡ length p
      → does first (slice_index_or p 0 x) (slice_index_or a 0 y) (slice_index_or k 0 z) x' y' z' e → f ≡ fault_of first e
      → AtAll does first (posts p a k) (posts (slice_set p 0 x') (slice_set a 0 y') (slice_set k 0 z')) f
  only first (one ∷ []) (two ∷ []) (three ∷ []) x y z x' y' z' e f is same also did counts =
      record { ends = e ∷ []; each = (did, tt); counts = counts ∙ sym (worse_end (fault_of first e)) }
  only first [] a k x y z x' y' z' e f is same also did counts = absurd (omega (arith, is))
  only first (one ∷ two ∷ more) a k x y z x' y' z' e f is same also did counts = absurd (omega (arith, is))
  only first (one ∷ []) [] k x y z x' y' z' e f is same also did counts = absurd (omega (arith, same))
  only first (one ∷ []) (two ∷ three ∷ more) k x y z x' y' z' e f is same also did counts = absurd (omega (arith, same))
  only first (one ∷ []) (two ∷ []) [] x y z x' y' z' e f is same also did counts = absurd (omega (arith, also))
  only first (one ∷ []) (two ∷ []) (three ∷ four ∷ more) x y z x' y' z' e f is same also did counts = absurd (omega (arith, also))

-- ---- the timer's pass and the painter's behind those of the workers

module _ {P : Type 0} where
  pub two_behind : (workers timer painter : List P) (t p : P) → length timer ≡ 1 → length painter ≡ 1
      → workers ++ (timer ++ painter) ≡ all (crew workers (slice_index_or timer 0 t) (slice_index_or painter 0 p))
  two_behind workers (x ∷ []) (y ∷ []) t p one two = refl
  two_behind workers [] painter t p one two = absurd (omega (arith, one))
  two_behind workers (x ∷ z ∷ more) painter t p one two = absurd (omega (arith, one))
  two_behind workers (x ∷ []) [] t p one two = absurd (omega (arith, two))
  two_behind workers (x ∷ []) (y ∷ z ∷ more) t p one two = absurd (omega (arith, two))

  pub two_set : (workers timer painter : List P) (t p : P) → length timer ≡ 1 → length painter ≡ 1
      → workers ++ (slice_set timer 0 t ++ slice_set painter 0 p) ≡ all (crew workers t p)
  two_set workers (x ∷ []) (y ∷ []) t p one two = refl
  two_set workers [] painter t p one two = absurd (omega (arith, one))
  two_set workers (x ∷ z ∷ more) painter t p one two = absurd (omega (arith, one))
  two_set workers (x ∷ []) [] t p one two = absurd (omega (arith, two))
  two_set workers (x ∷ []) (y ∷ z ∷ more) t p one two = absurd (omega (arith, two))
