-- No front of a text that reads and ends with ; goes farther than the search finds.
use Rattle.std.proofs.Common.{◌≡◌, ℕ, zero, suc, ◌+◌, ◌-◌, ◌<◌, ◌≤◌, Bool, true, false, List, [], ◌∷◌, ◌++◌, length, take, drop, get_or, Option, Some, None, refl, sym, ap, subst, ◌∙◌, append_assoc, arith, inl, inr}
use Rattle.std.specs.Prelude.{IfSome, IfOk, Result, Ok, Err, if◌then◌else◌, ◌==◌, ◌||◌, not, option_map, is_some}
use Rattle.std.proofs.lemmas.Bool.{eqb-true, ne_eqb, false≢true, and_parts, false_from_ne_true}
use Rattle.std.proofs.Math.Seq.{drop-append_seam}
use Rattle.std.proofs.lemmas.List.{length-append, length-take, take_at, take-append-drop, take_all, take_more}
use Rattle.wm_language.specs.declared.command.Command.{Command}
use Rattle.wm_language.specs.declared.batch.Criteria.{Criteria}
use Rattle.wm_language.specs.declared.batch.Group.{Group}
use Rattle.wm_words.specs.Pieces.{◌>>=◌, first_of, has, skip}
use Rattle.wm_grammar.specs.Openings.{command_at}
use Rattle.wm_grammar.specs.Reading.{Commands, Groups, and_commands, before_commands, commands_at, criteria_part, group_of, group_at, and_groups, some_groups, groups_at, groups_of, is_whole, ends_group}
use Rattle.wm_grammar.specs.Turns.{command_turn, front_turn, turn_at, command_part}
use Rattle.wm_words.specs.Pieces.{is_semicolon}
use Rattle.wm_grammar.specs.Farthest.{before_quote, before_last_quote, cut_off, inside, here, behind, farthest}
use Rattle.wm_words.proofs.Cuts.{Cut, Suffix, suffix_length, quoted_length, AllSome, if_some}
use Rattle.wm_grammar.proofs.CutCommands.{bind_some, map_some, each_some, some_at}
use Rattle.wm_grammar.proofs.TurnCuts.{Turned, turned, Begun, begun, turn_suffix, turn_kept}

-- ---- a text that reads, turn by turn

abbrev pub ran : (Bool → List ℕ → Bool) → Option (List ℕ) → Bool
ran go None = false
ran go (Some []) = true
ran go (Some (c ∷ r)) = go (not (c == 44)) r

abbrev pub runs : ℕ → Bool → List ℕ → Bool
runs zero fresh t = false
runs (suc n) fresh t = ran (runs n) (turn_at fresh t)

abbrev pub Runs : Bool → List ℕ → Type 0
Runs fresh t = (n : ℕ) × (runs n fresh t ≡ true)

-- ---- what was there

pub bind_inv : {A B : Type 0} (o : Option A) (f : A → Option B) (y : B) → (o >>= f) ≡ Some y → (x : A) × (o ≡ Some x) × (f x ≡ Some y)
bind_inv None f y e = absurd cc
bind_inv (Some x) f y e = (x, refl, e)

pub map_inv : {A B : Type 0} (o : Option A) (f : A → B) (y : B) → option_map f o ≡ Some y → (x : A) × (o ≡ Some x) × (f x ≡ y)
map_inv None f y e = absurd cc
map_inv (Some x) f y e = (x, refl, cc)

turn_runs : (fresh : Bool) (s e : List ℕ) (n : ℕ) → turn_at fresh s ≡ Some e → ran (runs n) (Some e) ≡ true → Runs fresh s
turn_runs fresh s e n f h = (suc n, ap (ran (runs n)) f ∙ h)

-- ---- commands that read run

abbrev pub Rest : Commands → List ℕ
Rest m = drop 1 m.1

more_run : (n : ℕ) (c : Command) (x : ℕ) (rest s : List ℕ) (m : Commands) → turn_at false s ≡ Some (x ∷ rest) → (b : Bool) → (x == 44) ≡ b → (if b then option_map (before_commands c) (commands_at n rest) else Some (c ∷ [], x ∷ rest)) ≡ Some m → Runs true (Rest m) → ((k : Commands) → commands_at n rest ≡ Some k → Runs true (Rest k) → Runs false rest) → Runs false s
more_run n c x rest s m f true e h run i =
    let v = map_inv (commands_at n rest) (before_commands c) m h in
    let same : m.1 ≡ v.0.1 = ap (λ (k : Commands). k.1) (sym v.2) in
    let inner = i v.0 v.1 (subst (λ (t : List ℕ). Runs true (drop 1 t)) same run) in
    turn_runs false s (x ∷ rest) inner.0 f (ap (λ (b : Bool). runs inner.0 (not b) rest) e ∙ inner.1)
more_run n c x rest s m f false e h run i =
    let same : m.1 ≡ x ∷ rest = cc in
    let inner : Runs true rest = subst (λ (t : List ℕ). Runs true (drop 1 t)) same run in
    turn_runs false s (x ∷ rest) inner.0 f (ap (λ (b : Bool). runs inner.0 (not b) rest) e ∙ inner.1)

front_run : (n : ℕ) (s : List ℕ) (m : Commands) (c : Command) (e : List ℕ) → turn_at false s ≡ Some e → and_commands (commands_at n) c e ≡ Some m → Runs true (Rest m) → ((rest : List ℕ) (k : Commands) → commands_at n rest ≡ Some k → Runs true (Rest k) → Runs false rest) → Runs false s
front_run n s m c [] f h run i = turn_runs false s [] 0 f refl
front_run n s m c (x ∷ rest) f h run i = more_run n c x rest s m f (x == 44) refl h run (i rest)

commands_run : (n : ℕ) (s : List ℕ) (m : Commands) → commands_at n s ≡ Some m → Runs true (Rest m) → Runs false s
unfolding commands_at
commands_run zero s m h run = absurd cc
commands_run (suc n) s m h run =
    let v = bind_inv (command_at (skip s)) (λ c. and_commands (commands_at n) c.0 c.1) m h in
    front_run n s m v.0.0 v.0.1 (ap (option_map (λ (x : Command × List ℕ). x.1)) v.1) v.2 run (λ rest k e r. commands_run n rest k e r)

-- ---- groups that read run

from_false : (t s : List ℕ) → Runs false s → turn_at true t ≡ turn_at false s → Runs true t
from_false t s (zero, h) e = absurd (false≢true h)
from_false t s (suc n, h) e = (suc n, ap (ran (runs n)) e ∙ h)

turn_criteria : (c : ℕ) (r : List ℕ) (k : Option Criteria × List ℕ) → (c == 59) ≡ false → criteria_part (c ∷ r) ≡ Some k → front_turn (c ∷ r) ≡ command_turn (skip k.1)
turn_criteria c r k other e = rw (other, e) refl

group_run : (s t : List ℕ) (g : Group × List ℕ) (c : ℕ) (r : List ℕ) → skip t ≡ c ∷ r → (c == 59) ≡ false → group_at (c ∷ r) ≡ Some g → Runs true (drop 1 g.1) → Runs true t
unfolding group_at
group_run s t g c r e other h run =
    let v = bind_inv (criteria_part (c ∷ r)) (λ k. option_map (group_of k.0) (commands_at (length k.1) k.1)) g h in
    let k = v.0 in
    let m = map_inv (commands_at (length k.1) k.1) (group_of k.0) g v.2 in
    let same : g.1 ≡ m.0.1 = ap (λ (x : Group × List ℕ). x.1) (sym m.2) in
    let inner = commands_run (length k.1) k.1 m.0 m.1 (subst (λ (u : List ℕ). Runs true (drop 1 u)) same run) in
    let turn : turn_at true t ≡ turn_at false k.1 = ap front_turn e ∙ turn_criteria c r k other v.1 in
    from_false t k.1 inner turn

pub not_comma : (c : ℕ) → (c == 59) ≡ true → (c == 44) ≡ false
not_comma c e = ap (λ (x : ℕ). x == 44) (eqb-true c 59 e)

some_run : (go : List ℕ → Groups) (t s : List ℕ) (gs : List Group) → skip t ≡ s → some_groups go s ≡ Some gs → ((r : List ℕ) (hs : List Group) → go r ≡ Some hs → Runs true r) → Runs true t
some_run go t [] gs e h i = turn_runs true t [] 0 (ap front_turn e) refl
some_run go t (c ∷ r) gs e h i = by (c == 59) refl h
  where
    by : (b : Bool) → (c == 59) ≡ b → (if b then go r else group_at (c ∷ r) >>= and_groups go) ≡ Some gs → Runs true t
    by true f h =
        let inner = i r gs h in
        turn_runs true t (c ∷ r) inner.0 (ap front_turn e ∙ rw f refl) (ap (λ (b : Bool). runs inner.0 (not b) r) (not_comma c f) ∙ inner.1)
    by false f h =
        let v = bind_inv (group_at (c ∷ r)) (and_groups go) gs h in
        let m = map_inv (go (drop 1 v.0.1)) (λ (hs : List Group). v.0.0 ∷ hs) gs v.2 in
        group_run t t v.0 c r e f v.1 (i (drop 1 v.0.1) m.0 m.1)

groups_run : (n : ℕ) (t : List ℕ) (gs : List Group) → groups_at n t ≡ Some gs → Runs true t
unfolding groups_at
groups_run zero t gs h = absurd cc
groups_run (suc n) t gs h = some_run (groups_at n) t (skip t) gs refl h (λ r hs e. groups_run n r hs e)

-- ---- what the search finds lies in the text

first_some : (P : ℕ → Type 0) (a b : Option ℕ) → AllSome P a → AllSome P b → AllSome P (first_of a b)
first_some P None b h k = k
first_some P (Some x) b h k = h

quote_step : (c : ℕ) (r : List ℕ) (o : Option (List ℕ)) → AllSome (λ b. length b < length r) o → AllSome (λ b. length b < length (c ∷ r)) (before_quote c o)
quote_step c r None h = if_some (λ b. length b < length (c ∷ r)) (c == 34) (Some []) None (λ e. omega arith) (λ e. tt)
quote_step c r (Some b) h = omega arith

quote_shorter : (x : List ℕ) → AllSome (λ b. length b < length x) (before_last_quote x)
unfolding before_last_quote
quote_shorter [] = tt
quote_shorter (c ∷ r) = quote_step c r (before_last_quote r) (quote_shorter r)

abbrev Within : List ℕ → ℕ → Type 0
Within t n = n ≤ length t

cut_shorter : (t c e : List ℕ) → AllSome (λ b. length b < length t) (cut_off t c e)
unfolding cut_off
cut_shorter t c e = bind_some (λ b. length b < length (take (length t - length e) t)) (λ b. length b < length t) (before_last_quote (take (length t - length e) t)) (λ b. if has is_semicolon (drop (length t - length c) b) then Some b else None) (quote_shorter (take (length t - length e) t)) (λ b lt.
    if_some (λ b. length b < length t) (has is_semicolon (drop (length t - length c) b)) (Some b) None (λ f. omega (arith, length-take (length t - length e) t)) (λ f. tt))

inside_bound : (go : Bool → List ℕ → Option ℕ) (fresh : Bool) (t e : List ℕ) → ((f : Bool) (s : List ℕ) → AllSome (Within s) (go f s)) → AllSome (Within t) (inside go fresh t e)
unfolding inside
inside_bound go fresh t e i = bind_some (λ b. length b < length t) (Within t) (cut_off t (command_part fresh t) e) (λ b. option_map (λ k. k + (length t - length b)) (go fresh b)) (cut_shorter t (command_part fresh t) e) (λ b lt. map_some (Within b) (Within t) (go fresh b) (λ k. k + (length t - length b)) (i fresh b) (λ k le. omega arith))

here_bound : (go : Bool → List ℕ → Option ℕ) (fresh : Bool) (t e : List ℕ) → Suffix e t → ((f : Bool) (s : List ℕ) → AllSome (Within s) (go f s)) → AllSome (Within t) (here go fresh t e)
unfolding here
here_bound go fresh t [] x i = inside_bound go fresh t [] i
here_bound go fresh t (c ∷ r) x i =
    let le : length (c ∷ r) ≤ length t = suffix_length (c ∷ r) t x in
    if_some (Within t) (c == 59) (Some (length r)) (inside go fresh t (c ∷ r)) (λ g. omega arith) (λ g. inside_bound go fresh t (c ∷ r) i)

behind_bound : (go : Bool → List ℕ → Option ℕ) (fresh : Bool) (t e : List ℕ) → Suffix e t → ((f : Bool) (s : List ℕ) → AllSome (Within s) (go f s)) → AllSome (Within t) (behind go fresh t e)
unfolding behind
behind_bound go fresh t [] x i = here_bound go fresh t [] x i
behind_bound go fresh t (c ∷ r) x i =
    let le : length (c ∷ r) ≤ length t = suffix_length (c ∷ r) t x in
    first_some (Within t) (go (not (c == 44)) r) (here go fresh t (c ∷ r)) (each_some (Within r) (Within t) (go (not (c == 44)) r) (i (not (c == 44)) r) (λ n k. omega arith)) (here_bound go fresh t (c ∷ r) x i)

pub farthest_bound : (n : ℕ) (fresh : Bool) (t : List ℕ) → AllSome (Within t) (farthest n fresh t)
unfolding farthest
farthest_bound zero fresh t = tt
farthest_bound (suc n) fresh t = bind_some (λ e. Suffix e t) (Within t) (turn_at fresh t) (behind (farthest n) fresh t) (turn_suffix fresh t) (λ e x. behind_bound (farthest n) fresh t e x (λ f s. farthest_bound n f s))

-- ---- nothing that reads is missed

quote_found : (s : List ℕ) → (z : List ℕ) × (before_last_quote (34 ∷ s) ≡ Some z)
unfolding before_last_quote
quote_found s = by (before_last_quote s)
  where
    by : (o : Option (List ℕ)) → (z : List ℕ) × (before_quote 34 o ≡ Some z)
    by None = ([], refl)
    by (Some b) = (34 ∷ b, refl)

quote_behind : (p s : List ℕ) → (z : List ℕ) × (before_last_quote (p ++ 34 ∷ s) ≡ Some (p ++ z))
unfolding before_last_quote
quote_behind [] s = quote_found s
quote_behind (c ∷ p) s = let i = quote_behind p s in (i.0, ap (before_quote c) i.1)

or_true : (a : Bool) → (a || true) ≡ true
or_true true = refl
or_true false = refl

cut_has : (u w : List ℕ) → Cut u → has is_semicolon (u ++ w) ≡ true
unfolding has
cut_has [] w h = elim h [ ]
cut_has (c ∷ []) w h = rw h refl
cut_has (c ∷ d ∷ r) w h = ap (λ (b : Bool). (c == 59) || b) (cut_has (d ∷ r) w h) ∙ or_true (c == 59)

-- the search finds a place that is not before the end of u
abbrev Found : Option ℕ → List ℕ → Type 0
Found o w = (n : ℕ) × (o ≡ Some n) × (n ≤ length w)

inside_is : (go : Bool → List ℕ → Option ℕ) (fresh : Bool) (t e b : List ℕ) (n : ℕ) → before_last_quote (take (length t - length e) t) ≡ Some b → has is_semicolon (drop (length t - length (command_part fresh t)) b) ≡ true → go fresh b ≡ Some n → inside go fresh t e ≡ Some (n + (length t - length b))
unfolding inside cut_off
inside_is go fresh t e b n before semi got = rw (before, semi, got) refl

semi_behind : (fresh : Bool) (u w v : List ℕ) → Begun fresh u w → has is_semicolon (drop (length (u ++ w) - length (command_part fresh (u ++ w))) (u ++ v)) ≡ true
semi_behind fresh u w v y =
    let p : List ℕ = y.tail.0 in
    let count : length (u ++ w) - length (command_part fresh (u ++ w)) ≡ length p = omega (arith, length-append u w, ap length y.whole, length-append y.start w, ap length y.tail.1, length-append p y.start) in
    let parts : u ++ v ≡ p ++ (y.start ++ v) = ap (λ (t : List ℕ). t ++ v) y.tail.1 ∙ append_assoc p y.start v in
    let left : drop (length (u ++ w) - length (command_part fresh (u ++ w))) (u ++ v) ≡ y.start ++ v = ap (λ (n : ℕ). drop n (u ++ v)) count ∙ (ap (λ (t : List ℕ). drop (length p) t) parts ∙ drop-append_seam p (y.start ++ v)) in
    ap (has is_semicolon) left ∙ cut_has y.start v y.cut

inside_found : (go : Bool → List ℕ → Option ℕ) (fresh : Bool) (e u w a b : List ℕ) → w ≡ a ++ 34 ∷ (b ++ e) → Begun fresh u w → ((v : List ℕ) → length (u ++ v) < length (u ++ w) → Found (go fresh (u ++ v)) v) → Found (inside go fresh (u ++ w) e) w
inside_found go fresh e u w a b quote y i =
    let t : List ℕ = u ++ w in
    let parts : t ≡ ((u ++ a) ++ 34 ∷ b) ++ e = ap (λ (x : List ℕ). u ++ x) quote ∙ regroup u a b e in
    let len : length ((u ++ a) ++ 34 ∷ b) ≡ length t - length e = omega (arith, ap length parts, length-append ((u ++ a) ++ 34 ∷ b) e) in
    let taken : take (length t - length e) t ≡ (u ++ a) ++ 34 ∷ b = ap (λ (x : List ℕ). take (length t - length e) x) parts ∙ take_at ((u ++ a) ++ 34 ∷ b) e (length t - length e) len in
    let z = quote_behind (u ++ a) b in
    let v : List ℕ = a ++ z.0 in
    let front : (u ++ a) ++ z.0 ≡ u ++ v = append_assoc u a z.0 in
    let before : before_last_quote (take (length t - length e) t) ≡ Some (u ++ v) = ap before_last_quote taken ∙ (z.1 ∙ ap Some front) in
    let short : length (u ++ v) < length (take (length t - length e) t) = some_at (λ x. length x < length (take (length t - length e) t)) (before_last_quote (take (length t - length e) t)) (u ++ v) (quote_shorter (take (length t - length e) t)) before in
    let shorter : length (u ++ v) < length t = omega (arith, length-take (length t - length e) t) in
    let f = i v shorter in
    let got : go fresh (u ++ v) ≡ Some f.0 = f.1 in
    let le : f.0 ≤ length v = f.2 in
    (f.0 + (length t - length (u ++ v)), inside_is go fresh t e (u ++ v) f.0 before (semi_behind fresh u w v y) got, omega (arith, le, length-append u w, length-append u v))
  where
    regroup : (u a b e : List ℕ) → u ++ (a ++ 34 ∷ (b ++ e)) ≡ ((u ++ a) ++ 34 ∷ b) ++ e
    regroup u a b e = simp append_assoc

either_found : (o p : Option ℕ) (w : List ℕ) → AllSome (λ n. n ≤ length w) o → Found p w → Found (first_of o p) w
either_found None p w h f = f
either_found (Some n) p w h f = (n, refl, h)

if_found : (b : Bool) (o p : Option ℕ) (w : List ℕ) → Found o w → Found p w → Found (if b then o else p) w
if_found true o p w f g = f
if_found false o p w f g = g

here_found : (k : ℕ) (fresh : Bool) (t e w : List ℕ) → length e ≤ length w → Found (inside (farthest k) fresh t e) w → Found (here (farthest k) fresh t e) w
unfolding here
here_found k fresh t [] w le f = f
here_found k fresh t (c ∷ r) w le f = if_found (c == 59) (Some (length r)) (inside (farthest k) fresh t (c ∷ r)) w (length r, refl, omega arith) f

late_found : (k : ℕ) (fresh : Bool) (t e u w : List ℕ) → length e ≤ length w → Found (inside (farthest k) fresh t e) w → Found (behind (farthest k) fresh t e) w
unfolding behind
late_found k fresh t [] u w le f = here_found k fresh t [] w le f
late_found k fresh t (c ∷ r) u w le f =
    either_found (farthest k (not (c == 44)) r) (here (farthest k) fresh t (c ∷ r)) w (each_some (Within r) (λ n. n ≤ length w) (farthest k (not (c == 44)) r) (farthest_bound k (not (c == 44)) r) (λ n h. omega arith)) (here_found k fresh t (c ∷ r) w le f)

first_found : (o p : Option ℕ) (w : List ℕ) → Found o w → Found (first_of o p) w
first_found None p w f = absurd (none_found f)
  where
    none_found : Found None w → ⊥
    none_found f = absurd (let e : None ≡ Some f.0 = f.1 in cc)
first_found (Some n) p w f = f

here_semi : (k : ℕ) (fresh : Bool) (t w : List ℕ) (c : ℕ) → c ≡ 59 → here (farthest k) fresh t (c ∷ w) ≡ Some (length w)
unfolding here
here_semi k fresh t w c e = rw e refl

exact_found : (k : ℕ) (fresh : Bool) (t w : List ℕ) (c : ℕ) (r : List ℕ) → Cut (c ∷ r) → (Cut r → Found (farthest k (not (c == 44)) (r ++ w)) w) → Found (behind (farthest k) fresh t (c ∷ r ++ w)) w
unfolding behind
exact_found k fresh t w c [] h i = rw (here_semi k fresh t w c h) (either_found (farthest k (not (c == 44)) w) (Some (length w)) w (farthest_bound k (not (c == 44)) w) (length w, refl, omega arith))
exact_found k fresh t w c (d ∷ r) h i = first_found (farthest k (not (c == 44)) (d ∷ r ++ w)) (here (farthest k) fresh t (c ∷ d ∷ r ++ w)) w (i h)

farthest_turn : (k : ℕ) (fresh : Bool) (t e : List ℕ) → turn_at fresh t ≡ Some e → farthest (suc k) fresh t ≡ behind (farthest k) fresh t e
unfolding farthest
farthest_turn k fresh t e f = ap (λ (o : Option (List ℕ)). o >>= behind (farthest k) fresh t) f

by_eq : (w : List ℕ) (o p : Option ℕ) → o ≡ p → Found p w → Found o w
by_eq w o p e f = (f.0, e ∙ f.1, f.2)

ended : (k j : ℕ) (fresh : Bool) (u w e : List ℕ) → Cut u → turn_at fresh u ≡ Some e → ran (runs j) (Some e) ≡ true → length (u ++ w) < suc k → ((i : ℕ) (f : Bool) (s v : List ℕ) → Cut s → runs i f s ≡ true → length (s ++ v) < k → Found (farthest k f (s ++ v)) v) → Cut e → Suffix e u → Turned w (turn_at fresh (u ++ w)) e → Found (farthest (suc k) fresh (u ++ w)) w
ended k j fresh u w [] h f run lt i kept x t = elim kept [ ]
ended k j fresh u w (c ∷ r) h f run lt i kept x (inl g) =
    let le : length (c ∷ r) ≤ length u = suffix_length (c ∷ r) u x in
    by_eq w (farthest (suc k) fresh (u ++ w)) (behind (farthest k) fresh (u ++ w) (c ∷ r ++ w)) (farthest_turn k fresh (u ++ w) (c ∷ r ++ w) g)
    (exact_found k fresh (u ++ w) w c r kept (λ cut. i j (not (c == 44)) r w cut run (omega (arith, length-append u w, length-append r w))))
ended k j fresh u w (c ∷ r) h f run lt i kept x (inr (e, g, q)) =
    by_eq w (farthest (suc k) fresh (u ++ w)) (behind (farthest k) fresh (u ++ w) e) (farthest_turn k fresh (u ++ w) e g)
    (late_found k fresh (u ++ w) e u w (quoted_length w e q) (inside_found (farthest k) fresh e u w q.0 q.1 q.2 (begun fresh u w _ h f) (λ v short. i (suc j) fresh u v h (ap (ran (runs j)) f ∙ run) (omega arith))))

complete : (k j : ℕ) (fresh : Bool) (u w : List ℕ) → Cut u → runs j fresh u ≡ true → length (u ++ w) < k → Found (farthest k fresh (u ++ w)) w
complete zero j fresh u w h run lt = absurd (omega arith)
complete (suc k) zero fresh u w h run lt = absurd (false≢true run)
complete (suc k) (suc j) fresh u w h run lt = by (turn_at fresh u) refl run (λ i f s v c r l. complete k i f s v c r l)
  where
    by : (o : Option (List ℕ)) → turn_at fresh u ≡ o → ran (runs j) o ≡ true → ((i : ℕ) (f : Bool) (s v : List ℕ) → Cut s → runs i f s ≡ true → length (s ++ v) < k → Found (farthest k f (s ++ v)) v) → Found (farthest (suc k) fresh (u ++ w)) w
    by None e run i = absurd (false≢true run)
    by (Some e) f run i = ended k j fresh u w e h f run lt i (some_at (λ e. Cut e) (turn_at fresh u) e (turn_kept fresh u h) f) (some_at (λ e. Suffix e u) (turn_at fresh u) e (turn_suffix fresh u) f) (turned fresh u w e h f)

-- ---- places up to which the text reads

cut_end : (xs : List ℕ) → Cut (xs ++ 59 ∷ [])
cut_end [] = refl
cut_end (c ∷ []) = refl
cut_end (c ∷ d ∷ r) = cut_end (d ∷ r)

last_split : (s : List ℕ) → 1 ≤ length s → s ≡ take (length s - 1) s ++ get_or s (length s - 1) 0 ∷ []
last_split s h = sym (take_all (length s - 1 + 1) s (omega arith)) ∙ take_more s (length s - 1) 0 (omega arith)

ends_cut : (s : List ℕ) → 1 ≤ length s → ends_group s ≡ true → Cut s
ends_cut s le h =
    let some : (0 == length s) ≡ false = ne_eqb 0 (length s) (λ e. omega (arith, e)) in
    let last : (get_or s (length s - 1) 0 == 59) ≡ true = rw some at h in
    let semi : get_or s (length s - 1) 0 ≡ 59 = eqb-true (get_or s (length s - 1) 0) 59 last in
    let parts : s ≡ take (length s - 1) s ++ 59 ∷ [] = last_split s le ∙ ap (λ (c : ℕ). take (length s - 1) s ++ c ∷ []) semi in
    subst (λ (t : List ℕ). Cut t) (sym parts) (cut_end (take (length s - 1) s))

some_groups_there : (t : List ℕ) (o : Groups) → groups_of t ≡ o → is_some o ≡ true → Runs true t
unfolding groups_of
some_groups_there t None e h = absurd (false≢true h)
some_groups_there t (Some gs) e h = groups_run (suc (length t)) t gs e

-- each place up to which the text reads has at least as many bytes behind it as the search found
pub whole_found : (text : List ℕ) (m : ℕ) → 0 < m → m ≤ length text → is_whole (take m text) ≡ true → (n : ℕ) × (farthest (suc (length text)) true text ≡ Some n) × (m + n ≤ length text)
whole_found text m pos le h =
    let u : List ℕ = take m text in
    let w : List ℕ = drop m text in
    let len : length u ≡ m = omega (arith, length-take m text) in
    let both = and_parts (ends_group u) (is_some (groups_of u)) h in
    let run = some_groups_there u (groups_of u) refl both.1 in
    let parts : u ++ w ≡ text = take-append-drop m text in
    let f = complete (suc (length text)) run.0 true u w (ends_cut u (omega arith) both.0) run.1 (omega (arith, ap length parts)) in
    (f.0, ap (λ (t : List ℕ). farthest (suc (length text)) true t) (sym parts) ∙ f.1, omega (arith, f.2, length-append u w, ap length parts, len))

-- ---- the search as a loop

if_some_from : (P : ℕ → Type 0) (o : Option ℕ) → AllSome P o → IfSome o P
if_some_from P None h = tt
if_some_from P (Some n) h = h

pub farthest_within : (n : ℕ) (fresh : Bool) (t : List ℕ) (o : Option ℕ) → o ≡ farthest n fresh t → IfSome o (λ k. k ≤ length t)
farthest_within n fresh t o e = subst (λ (p : Option ℕ). IfSome p (λ k. k ≤ length t)) (sym e) (if_some_from (Within t) (farthest n fresh t) (farthest_bound n fresh t))

pub farthest_none : (n : ℕ) (fresh : Bool) (t : List ℕ) → n ≡ 0 → farthest n fresh t ≡ None
unfolding farthest
farthest_none zero fresh t e = refl
farthest_none (suc n) fresh t e = absurd (omega arith)

pub farthest_more : (n : ℕ) (fresh : Bool) (t : List ℕ) → 0 < n → farthest n fresh t ≡ (turn_at fresh t >>= behind (farthest (n - 1)) fresh t)
unfolding farthest
farthest_more zero fresh t h = absurd (omega arith)
farthest_more (suc n) fresh t h = let same : n ≡ suc n - 1 = omega arith in ap (λ (k : ℕ). turn_at fresh t >>= behind (farthest k) fresh t) same

pub first_assoc : (a b c : Option ℕ) → first_of (first_of a b) c ≡ first_of a (first_of b c)
first_assoc None b c = refl
first_assoc (Some x) b c = refl

pub search_none : (n : ℕ) (fresh : Bool) (t : List ℕ) (best all : Option ℕ) → n ≤ 0 → first_of (farthest n fresh t) best ≡ all → best ≡ all
search_none n fresh t best all z h = ap (λ (o : Option ℕ). first_of o best) (sym (farthest_none n fresh t (omega arith))) ∙ h

pub search_stop : (n : ℕ) (fresh : Bool) (t : List ℕ) (best all : Option ℕ) → 0 < n → turn_at fresh t ≡ None → first_of (farthest n fresh t) best ≡ all → best ≡ all
search_stop n fresh t best all pos e h = ap (λ (o : Option ℕ). first_of o best) (sym (farthest_more n fresh t pos ∙ ap (λ (o : Option (List ℕ)). o >>= behind (farthest (n - 1)) fresh t) e)) ∙ h

behind_none : (go : Bool → List ℕ → Option ℕ) (fresh : Bool) (t e : List ℕ) → length e < 1 → behind go fresh t e ≡ here go fresh t e
unfolding behind
behind_none go fresh t [] lt = refl
behind_none go fresh t (c ∷ r) lt = absurd (omega arith)

behind_some : (go : Bool → List ℕ → Option ℕ) (fresh : Bool) (t e : List ℕ) → 1 ≤ length e → behind go fresh t e ≡ first_of (go (not (get_or e 0 0 == 44)) (take (length e - 1) (drop 1 e))) (here go fresh t e)
unfolding behind
behind_some go fresh t [] le = absurd (omega arith)
behind_some go fresh t (c ∷ r) le = ap (λ (x : List ℕ). first_of (go (not (c == 44)) x) (here go fresh t (c ∷ r))) (sym (take_all (suc (length r) - 1) r (omega arith)))

farthest_at : (n : ℕ) (fresh : Bool) (t e : List ℕ) → 0 < n → turn_at fresh t ≡ Some e → farthest n fresh t ≡ behind (farthest (n - 1)) fresh t e
farthest_at n fresh t e pos f = farthest_more n fresh t pos ∙ ap (λ (o : Option (List ℕ)). o >>= behind (farthest (n - 1)) fresh t) f

pub search_end : (n : ℕ) (fresh : Bool) (t e : List ℕ) (best all : Option ℕ) → 0 < n → turn_at fresh t ≡ Some e → length e < 1 → first_of (farthest n fresh t) best ≡ all → first_of (here (farthest (n - 1)) fresh t e) best ≡ all
search_end n fresh t e best all pos f lt h = ap (λ (o : Option ℕ). first_of o best) (sym (farthest_at n fresh t e pos f ∙ behind_none (farthest (n - 1)) fresh t e lt)) ∙ h

pub search_more : (n : ℕ) (fresh : Bool) (t e : List ℕ) (best all : Option ℕ) → 0 < n → turn_at fresh t ≡ Some e → 1 ≤ length e → first_of (farthest n fresh t) best ≡ all → first_of (farthest (n - 1) (not (get_or e 0 0 == 44)) (take (length e - 1) (drop 1 e))) (first_of (here (farthest (n - 1)) fresh t e) best) ≡ all
search_more n fresh t e best all pos f le h =
    let next : Option ℕ = farthest (n - 1) (not (get_or e 0 0 == 44)) (take (length e - 1) (drop 1 e)) in
    let found : Option ℕ = here (farthest (n - 1)) fresh t e in
    let whole : farthest n fresh t ≡ first_of next found = farthest_at n fresh t e pos f ∙ behind_some (farthest (n - 1)) fresh t e le in
    sym (first_assoc next found best) ∙ (ap (λ (o : Option ℕ). first_of o best) (sym whole) ∙ h)

pub found_within : {E : Type 0} (n : ℕ) (fresh : Bool) (t : List ℕ) (r : Result (Option ℕ) E) → IfOk r (λ o. o ≡ farthest n fresh t) → IfOk r (λ o. IfSome o (λ k. k ≤ length t))
found_within n fresh t (Ok o) h = farthest_within n fresh t o h
found_within n fresh t (Err e) h = tt

-- ---- no place behind the one that was found

some_same : (a b : ℕ) (o : Option ℕ) → o ≡ Some a → o ≡ Some b → a ≡ b
some_same a b o e f = cc

some_none : (a : ℕ) (o : Option ℕ) → o ≡ Some a → o ≡ None → ⊥
some_none a o e f = absurd cc

pub none_whole : (text : List ℕ) → farthest (length text + 1) true text ≡ None → (m : ℕ) → 0 < m → m ≤ length text → is_whole (take m text) ≡ false
none_whole text none m pos le =
    let same : length text + 1 ≡ suc (length text) = omega arith in
    false_from_ne_true (is_whole (take m text)) (λ h. let f = whole_found text m pos le h in some_none f.0 (farthest (suc (length text)) true text) f.1 (ap (λ (k : ℕ). farthest k true text) (sym same) ∙ none))

pub some_whole : (text : List ℕ) (b : ℕ) → farthest (length text + 1) true text ≡ Some b → (m : ℕ) → length text - b < m → m ≤ length text → is_whole (take m text) ≡ false
some_whole text b some m pos le =
    let same : length text + 1 ≡ suc (length text) = omega arith in
    false_from_ne_true (is_whole (take m text)) (λ h.
    let f = whole_found text m (omega arith) le h in
    let found : f.0 ≡ b = some_same f.0 b (farthest (suc (length text)) true text) f.1 (ap (λ (k : ℕ). farthest k true text) (sym same) ∙ some) in
    absurd (omega (arith, f.2, found)))
