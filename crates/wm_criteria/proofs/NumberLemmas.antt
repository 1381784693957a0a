-- The numbers of patterns, and what stops at one of them.
use Rattle.std.proofs.Common.{◌≡◌, ℕ, zero, suc, ◌+◌, ◌-◌, ◌≤◌, Bool, true, false, List, [], ◌∷◌, ◌++◌, length, take, drop, get_or, take_all, Option, Some, None, IsTrue, refl, sym, ◌∙◌, ap, subst, arith, append_assoc, length-append, ne_eqb, eq-eqb, eqb-true, zero-add}
use Rattle.std.specs.Prelude.{◌==◌, is_some, map, option_map, option_and_then, if◌then◌else◌, Result, Ok, Err, IsErrAnd}
use Rattle.std.specs.List.{flat_map, slice_get}
use Rattle.std.specs.Option.{option_to_list}
use Rattle.wm_criteria.specs.declared.forms.Stop.{Stop}
use Rattle.wm_criteria.specs.declared.forms.Stop.TheVariants.{Refused, NoMemory}
use Rattle.wm_criteria.specs.Building.{Grew, Log}
use Rattle.wm_criteria.specs.Patterns.{numbered, pattern_at, patterns_of, unless_plain}
use Rattle.wm_criteria.specs.Stop.{IsStop, stop_texts}
use Rattle.wm_criteria.specs.Verdict.{IsVerdict, refused_patterns}
use Rattle.wm_criteria.specs.declared.verdict.Verdict.TheVariants.{PatternRefused}
use Rattle.wm_criteria.proofs.BuildingLemmas.{grew_both}
use Rattle.wm_criteria.proofs.CountLemmas.{patterns_within}
use Rattle.wm_grammar.specs.Reading.{Reads, groups_of}
use Rattle.wm_language.specs.declared.batch.Batch.{Batch}
use Rattle.wm_language.specs.declared.batch.Group.{Group}

-- the patterns ys, numbered from second on, are among xs, numbered from first on
pub record IsAmong (first : ℕ) (xs : List (List ℕ)) (second : ℕ) (ys : List (List ℕ)) : Type 0 where
  pub same : (n : ℕ) → IsTrue (is_some (numbered second ys n)) → numbered first xs n ≡ numbered second ys n

pub among_itself : (first : ℕ) (xs : List (List ℕ)) → IsAmong first xs first xs
among_itself first xs = record { same = λ n h. refl }

pub among_more : (first : ℕ) (xs : List (List ℕ)) (second : ℕ) (ys : List (List ℕ)) (third : ℕ) (zs : List (List ℕ)) → IsAmong first xs second ys → IsAmong second ys third zs → IsAmong first xs third zs
among_more first xs second ys third zs a b = record {
  same = λ n h. a.same n (subst (λ (o : Option (List ℕ)). IsTrue (is_some o)) (sym (b.same n h)) h) ∙ b.same n h;
}

-- the choice that a number makes, over what its test says
abbrev chosen : Bool → List ℕ → Option (List ℕ) → Option (List ℕ)
chosen b x o = if b then Some x else o

numbered_from : (first : ℕ) (xs : List (List ℕ)) (n : ℕ) → IsTrue (is_some (numbered first xs n)) → first ≤ n
numbered_from first [] n h = absurd (cc)
numbered_from first (x ∷ xs) n h = by (n == first) refl h (λ k. numbered_from (first + 1) xs n k) where
  by : (b : Bool) → (n == first) ≡ b → IsTrue (is_some (chosen b x (numbered (first + 1) xs n))) → (IsTrue (is_some (numbered (first + 1) xs n)) → first + 1 ≤ n) → first ≤ n
  by true e k more = let same : n ≡ first = eqb-true n first e in omega arith
  by false e k more = let here : first + 1 ≤ n = more k in omega arith

numbered_front : (first : ℕ) (xs ys : List (List ℕ)) (n : ℕ) → IsTrue (is_some (numbered first xs n)) → numbered first (xs ++ ys) n ≡ numbered first xs n
numbered_front first [] ys n h = absurd (cc)
numbered_front first (x ∷ xs) ys n h = by (n == first) h (λ k. numbered_front (first + 1) xs ys n k) where
  by : (b : Bool) → IsTrue (is_some (chosen b x (numbered (first + 1) xs n))) → (IsTrue (is_some (numbered (first + 1) xs n)) → numbered (first + 1) (xs ++ ys) n ≡ numbered (first + 1) xs n) → chosen b x (numbered (first + 1) (xs ++ ys) n) ≡ chosen b x (numbered (first + 1) xs n)
  by true k more = refl
  by false k more = more k

numbered_back : (first : ℕ) (xs ys : List (List ℕ)) (n : ℕ) → IsTrue (is_some (numbered (first + length xs) ys n)) → numbered first (xs ++ ys) n ≡ numbered (first + length xs) ys n
numbered_back first [] ys n h = ap (λ (k : ℕ). numbered k ys n) (omega arith)
numbered_back first (x ∷ xs) ys n h =
    let past : first + length (x ∷ xs) ≤ n = numbered_from (first + length (x ∷ xs)) ys n h in
    let other : (n == first) ≡ false = ne_eqb n first (λ (e : n ≡ first). let no : ⊥ = absurd (omega arith) in no) in
    let places : first + 1 + length xs ≡ first + length (x ∷ xs) = omega arith in
    let behind : IsTrue (is_some (numbered (first + 1 + length xs) ys n)) = subst (λ (k : ℕ). IsTrue (is_some (numbered k ys n))) (sym places) h in
    rw other (numbered_back (first + 1) xs ys n behind ∙ ap (λ (k : ℕ). numbered k ys n) places)

-- the first ones are among all
pub among_front : (first : ℕ) (xs ys : List (List ℕ)) → IsAmong first (xs ++ ys) first xs
among_front first xs ys = record { same = numbered_front first xs ys }

-- and so are those behind them
pub among_back : (first : ℕ) (xs ys : List (List ℕ)) → IsAmong first (xs ++ ys) (first + length xs) ys
among_back first xs ys = record { same = numbered_back first xs ys }

-- ---- one more item of a list is dealt with

pub first_split : {A : Type 0} (rest : List A) (x : A) → 1 ≤ length rest → x ≡ get_or rest 0 x → rest ≡ x ∷ take (length rest - 1) (drop 1 rest)
first_split [] x h e = absurd (omega arith)
first_split {A} (y ∷ t) x h e =
    let behind : take (length (y ∷ t) - 1) t ≡ t = take_all (length (y ∷ t) - 1) t (omega arith) in
    ap (λ (z : A). z ∷ t) (sym e) ∙ ap (λ (s : List A). x ∷ s) (sym behind)

pub mapped_step : {A X : Type 0} (f : A → X) (rest after : List A) (x : A) (front pushed all : List X) (y : X) → rest ≡ x ∷ after → front ++ map f rest ≡ all → pushed ≡ front ++ y ∷ [] → y ≡ f x → pushed ++ map f after ≡ all
mapped_step f rest after x front pushed all y split kept push is =
    rw (push, is) (append_assoc front (f x ∷ []) (map f after) ∙ (ap (λ s. front ++ map f s) (sym split) ∙ kept))

pub number_step : {A : Type 0} (f : A → List (List ℕ)) (rest after : List A) (x : A) (number next total : ℕ) → rest ≡ x ∷ after → number + length (flat_map f rest) ≡ total → next ≡ number + length (f x) → next + length (flat_map f after) ≡ total
number_step f rest after x number next total split kept is =
    let long : length (flat_map f rest) ≡ length (f x) + length (flat_map f after) = ap (λ s. length (flat_map f s)) split ∙ length-append (f x) (flat_map f after) in
    omega arith

pub among_step : {A : Type 0} (f : A → List (List ℕ)) (rest after : List A) (x : A) (first : ℕ) (all : List (List ℕ)) (number next : ℕ) → rest ≡ x ∷ after → IsAmong first all number (flat_map f rest) → next ≡ number + length (f x) → IsAmong first all next (flat_map f after)
among_step f rest after x first all number next split kept is =
    let here : IsAmong first all number (f x ++ flat_map f after) = subst (λ s. IsAmong first all number (flat_map f s)) split kept in
    rw is (among_more first all number (f x ++ flat_map f after) (number + length (f x)) (flat_map f after) here (among_back number (f x) (flat_map f after)))

-- the patterns of an item are among all
pub among_item : {A : Type 0} (f : A → List (List ℕ)) (rest after : List A) (x : A) (first : ℕ) (all : List (List ℕ)) (number : ℕ) → rest ≡ x ∷ after → IsAmong first all number (flat_map f rest) → IsAmong first all number (f x)
among_item f rest after x first all number split kept =
    let here : IsAmong first all number (f x ++ flat_map f after) = subst (λ s. IsAmong first all number (flat_map f s)) split kept in
    among_more first all number (f x ++ flat_map f after) number (f x) here (among_front number (f x) (flat_map f after))

-- ---- what stops among some patterns stops among all

there : (o : Option (List ℕ)) → IsTrue (is_some (unless_plain o)) → IsTrue (is_some o)
there None h = h
there (Some p) h = refl

pub stop_among : (first : ℕ) (xs : List (List ℕ)) (second : ℕ) (ys : List (List ℕ)) (e : Stop) → IsAmong first xs second ys → IsStop second ys e → IsStop first xs e
stop_among first xs second ys NoMemory a h = h
stop_among first xs second ys (Refused n) a h = subst (λ (o : Option (List ℕ)). IsTrue (is_some (unless_plain o))) (sym (a.same n (there (numbered second ys n) h))) h

texts_among : (first : ℕ) (xs : List (List ℕ)) (second : ℕ) (ys : List (List ℕ)) (e : Stop) → IsAmong first xs second ys → IsStop second ys e → stop_texts second ys e ≡ stop_texts first xs e
texts_among first xs second ys NoMemory a h = refl
texts_among first xs second ys (Refused n) a h = ap (λ (o : Option (List ℕ)). option_to_list o) (sym (a.same n (there (numbered second ys n) h)))

pub grew_stop : (old mid new : Log) (first : ℕ) (xs : List (List ℕ)) (second : ℕ) (ys : List (List ℕ)) (e : Stop) → IsAmong first xs second ys → IsStop second ys e → Grew old mid [] → Grew mid new (stop_texts second ys e) → Grew old new (stop_texts first xs e)
grew_stop old mid new first xs second ys e a h before after = subst (λ (s : List (List ℕ)). Grew old new s) (texts_among first xs second ys e a h) (grew_both old mid new [] (stop_texts second ys e) before after)

-- an error that was handed on is the same one
pub handed_on : {X : Type 0} (r : Result X Stop) (e : Stop) → IsErrAnd r (λ x. x ≡ e) → r ≡ Err e
handed_on (Ok x) e h = absurd h
handed_on (Err x) e h = ap (λ (y : Stop). Err y) h

-- ---- numbers among all the patterns of a text

numbered_get : (first k : ℕ) (ps : List (List ℕ)) → numbered first ps (first + k) ≡ slice_get ps k
numbered_get first k [] = refl
numbered_get first zero (p ∷ ps) = let same : (first + 0 == first) ≡ true = eq-eqb (first + 0) first (omega arith) in rw same refl
numbered_get first (suc k) (p ∷ ps) =
    let other : (first + suc k == first) ≡ false = ne_eqb (first + suc k) first (λ (e : first + suc k ≡ first). let no : ⊥ = absurd (omega arith) in no) in
    let place : first + suc k ≡ first + 1 + k = omega arith in
    rw other (ap (λ (n : ℕ). numbered (first + 1) ps n) place ∙ numbered_get (first + 1) k ps)

groups_read : (o : Option (List Group)) (b : Batch) → option_map (λ gs. record { groups = gs }) o ≡ Some b → o ≡ Some b.groups
groups_read None b e = cc
groups_read (Some gs) b e = let same : record { groups = gs } ≡ b = cc in ap (λ (x : Batch). Some x.groups) same

-- of a text that reads, the pattern of a number is the one among those of its groups
pub pattern_read : (text : List ℕ) (b : Batch) (n : ℕ) → Reads text b → numbered 0 (patterns_of b.groups) n ≡ pattern_at text n
pattern_read text b n reads =
    let groups : groups_of text ≡ Some b.groups = groups_read (groups_of text) b reads in
    ap (λ (k : ℕ). numbered 0 (patterns_of b.groups) k) (sym (zero-add n)) ∙ (numbered_get 0 n (patterns_of b.groups) ∙ sym (ap (option_and_then (λ gs. slice_get (patterns_of gs) n)) groups))

-- and there are no more patterns than bytes
pub patterns_few : (text : List ℕ) (b : Batch) → Reads text b → length (patterns_of b.groups) ≤ length text
patterns_few text b reads = patterns_within text b.groups (groups_read (groups_of text) b reads)

pub stop_read : (text : List ℕ) (b : Batch) (n : ℕ) → Reads text b → IsStop 0 (patterns_of b.groups) (Refused n) → IsVerdict text (PatternRefused n)
stop_read text b n reads h = subst (λ (o : Option (List ℕ)). IsTrue (is_some (unless_plain o))) (pattern_read text b n reads) h

pub texts_read : (text : List ℕ) (b : Batch) (n : ℕ) → Reads text b → stop_texts 0 (patterns_of b.groups) (Refused n) ≡ refused_patterns text (PatternRefused n)
texts_read text b n reads = ap (λ (o : Option (List ℕ)). option_to_list o) (pattern_read text b n reads)
