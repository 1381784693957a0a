-- What the search finds is a place up to which the text reads.
use Rattle.std.proofs.Common.{◌≡◌, ℕ, zero, suc, ◌+◌, ◌-◌, Bool, true, false, List, [], ◌∷◌, ◌++◌, length, take, drop, Option, Some, None, refl, sym, ap, subst, ◌∙◌, append_assoc, arith}
use Rattle.std.specs.Prelude.{if◌then◌else◌, ◌==◌, not, option_map}
use Rattle.std.proofs.lemmas.Bool.{eqb-true}
use Rattle.std.proofs.lemmas.List.{length-append, take_at, take-append-drop}
use Rattle.wm_words.specs.Pieces.{◌>>=◌, first_of, has, skip, is_semicolon}
use Rattle.wm_grammar.specs.Reading.{IsReach, is_whole, groups_of, groups_at}
use Rattle.wm_grammar.specs.Turns.{turn_at, command_part}
use Rattle.wm_grammar.specs.Farthest.{Search, before_quote, before_last_quote, cut_off, inside, here, behind, farthest}
use Rattle.wm_words.proofs.Cuts.{Cut, Suffix}
use Rattle.wm_grammar.proofs.CutCommands.{some_at}
use Rattle.wm_grammar.proofs.TurnCuts.{turn_suffix}
use Rattle.wm_grammar.proofs.TurnBack.{turn_back}
use Rattle.wm_grammar.proofs.Bounds.{ran, runs, Runs, bind_inv, map_inv, not_comma, none_whole, some_whole}
use Rattle.wm_grammar.proofs.RunsRead.{nothing_runs, whole_there}

-- the text reads up to a place that b bytes follow
pub record Exact (fresh : Bool) (t : List ℕ) (b : ℕ) : Type 0 where
  pub front : List ℕ
  pub rest : List ℕ
  pub whole : t ≡ front ++ rest
  pub after : length rest ≡ b
  pub cut : Cut front
  pub run : Runs fresh front

abbrev Exactly : Search → Type 0
Exactly go = (f : Bool) (s : List ℕ) (k : ℕ) → go f s ≡ Some k → Exact f s k

some_same : (a b : ℕ) → Some a ≡ Some b → a ≡ b
some_same a b h = cc

cut_more : (a : List ℕ) (c : ℕ) (r : List ℕ) → Cut (c ∷ r) → Cut (a ++ c ∷ r)
cut_more [] c r h = h
cut_more (d ∷ []) c r h = h
cut_more (d ∷ e ∷ a) c r h = cut_more (e ∷ a) c r h

cut_cons : (c : ℕ) (r : List ℕ) → Cut r → Cut (c ∷ r)
cut_cons c [] h = elim h [ ]
cut_cons c (d ∷ r) h = h

-- ---- behind the turn

later_exact : (fresh : Bool) (t : List ℕ) (c : ℕ) (r : List ℕ) (b : ℕ) → turn_at fresh t ≡ Some (c ∷ r) → Suffix (c ∷ r) t → Exact (not (c == 44)) r b → Exact fresh t b
later_exact fresh t c r b f x y =
    let u : List ℕ = x.0 ++ c ∷ y.front in
    let parts : t ≡ u ++ y.rest = x.1 ∙ (ap (λ (s : List ℕ). x.0 ++ c ∷ s) y.whole ∙ sym (append_assoc x.0 (c ∷ y.front) y.rest)) in
    let cut : Cut u = cut_more x.0 c y.front (cut_cons c y.front y.cut) in
    let stop : turn_at fresh (u ++ y.rest) ≡ Some (c ∷ y.front ++ y.rest) = ap (turn_at fresh) (sym parts) ∙ (f ∙ ap (λ (s : List ℕ). Some (c ∷ s)) y.whole) in
    let turn : turn_at fresh u ≡ Some (c ∷ y.front) = turn_back fresh u y.rest (c ∷ y.front) cut (omega arith) stop in
    record { front = u; rest = y.rest; whole = parts; after = y.after; cut = cut; run = (suc y.run.0, ap (ran (runs y.run.0)) turn ∙ y.run.1) }

-- ---- at the end of the turn

stop_exact : (fresh : Bool) (t : List ℕ) (c : ℕ) (r : List ℕ) → turn_at fresh t ≡ Some (c ∷ r) → Suffix (c ∷ r) t → (c == 59) ≡ true → Exact fresh t (length r)
stop_exact fresh t c r f x semi =
    let u : List ℕ = x.0 ++ c ∷ [] in
    let parts : t ≡ u ++ r = x.1 ∙ sym (append_assoc x.0 (c ∷ []) r) in
    let cut : Cut u = cut_more x.0 c [] (eqb-true c 59 semi) in
    let turn : turn_at fresh u ≡ Some (c ∷ []) = turn_back fresh u r (c ∷ []) cut (omega arith) (ap (turn_at fresh) (sym parts) ∙ f) in
    let run : ran (runs nothing_runs.0) (Some (c ∷ [])) ≡ true = ap (λ (b : Bool). runs nothing_runs.0 (not b) []) (not_comma c semi) ∙ nothing_runs.1 in
    record { front = u; rest = r; whole = parts; after = refl; cut = cut; run = (suc nothing_runs.0, ap (ran (runs nothing_runs.0)) turn ∙ run) }

-- ---- inside the turn

quote_step : (c : ℕ) (r b : List ℕ) (o : Option (List ℕ)) → before_quote c o ≡ Some b → ((d : List ℕ) → o ≡ Some d → (z : List ℕ) × (r ≡ d ++ z)) → (z : List ℕ) × (c ∷ r ≡ b ++ z)
quote_step c r b None e i = (c ∷ r, nil (c == 34) e)
  where
    nil : (q : Bool) → (if q then Some [] else None) ≡ Some b → c ∷ r ≡ b ++ (c ∷ r)
    nil true e = let same : b ≡ [] = cc in rw same refl
    nil false e = absurd cc
quote_step c r b (Some d) e i =
    let z = i d refl in
    let same : c ∷ d ≡ b = cc in
    (z.0, ap (λ (s : List ℕ). c ∷ s) z.1 ∙ ap (λ (s : List ℕ). s ++ z.0) same)

quote_front : (x b : List ℕ) → before_last_quote x ≡ Some b → (z : List ℕ) × (x ≡ b ++ z)
unfolding before_last_quote
quote_front [] b e = absurd cc
quote_front (c ∷ r) b e = quote_step c r b (before_last_quote r) e (λ d f. quote_front r d f)

cut_front : (t c e b : List ℕ) → cut_off t c e ≡ Some b → (z : List ℕ) × (t ≡ b ++ z)
unfolding cut_off
cut_front t c e b h =
    let n : ℕ = length t - length e in
    let v = bind_inv (before_last_quote (take n t)) (λ b. if has is_semicolon (drop (length t - length c) b) then Some b else None) b h in
    let same : v.0 ≡ b = chosen (has is_semicolon (drop (length t - length c) v.0)) v.0 v.2 in
    let z = quote_front (take n t) v.0 v.1 in
    let parts : t ≡ (v.0 ++ z.0) ++ drop n t = sym (take-append-drop n t) ∙ ap (λ (s : List ℕ). s ++ drop n t) z.1 in
    (z.0 ++ drop n t, parts ∙ (append_assoc v.0 z.0 (drop n t) ∙ ap (λ (s : List ℕ). s ++ (z.0 ++ drop n t)) same))
  where
    chosen : (q : Bool) (d : List ℕ) → (if q then Some d else None) ≡ Some b → d ≡ b
    chosen true d e = cc
    chosen false d e = absurd cc

front_exact : (fresh : Bool) (t d z : List ℕ) (k b : ℕ) → t ≡ d ++ z → k + (length t - length d) ≡ b → Exact fresh d k → Exact fresh t b
front_exact fresh t d z k b e h y =
    let parts : t ≡ y.front ++ (y.rest ++ z) = e ∙ (ap (λ (s : List ℕ). s ++ z) y.whole ∙ append_assoc y.front y.rest z) in
    let count : length (y.rest ++ z) ≡ b = omega (arith, length-append y.rest z, y.after, h, ap length e, length-append d z) in
    record { front = y.front; rest = y.rest ++ z; whole = parts; after = count; cut = y.cut; run = y.run }

inside_exact : (go : Search) (fresh : Bool) (t e : List ℕ) (b : ℕ) → inside go fresh t e ≡ Some b → Exactly go → Exact fresh t b
unfolding inside
inside_exact go fresh t e b h i =
    let v = bind_inv (cut_off t (command_part fresh t) e) (λ d. option_map (λ k. k + (length t - length d)) (go fresh d)) b h in
    let m = map_inv (go fresh v.0) (λ k. k + (length t - length v.0)) b v.2 in
    let z = cut_front t (command_part fresh t) e v.0 v.1 in
    front_exact fresh t v.0 z.0 m.0 b z.1 m.2 (i fresh v.0 m.0 m.1)

-- ---- all places

here_exact : (go : Search) (fresh : Bool) (t e : List ℕ) (b : ℕ) → turn_at fresh t ≡ Some e → Suffix e t → here go fresh t e ≡ Some b → Exactly go → Exact fresh t b
unfolding here
here_exact go fresh t [] b f x h i = inside_exact go fresh t [] b h i
here_exact go fresh t (c ∷ r) b f x h i = by (c == 59) refl h
  where
    by : (q : Bool) → (c == 59) ≡ q → (if q then Some (length r) else inside go fresh t (c ∷ r)) ≡ Some b → Exact fresh t b
    by true g h = subst (λ (k : ℕ). Exact fresh t k) (some_same (length r) b h) (stop_exact fresh t c r f x g)
    by false g h = inside_exact go fresh t (c ∷ r) b h i

behind_exact : (go : Search) (fresh : Bool) (t e : List ℕ) (b : ℕ) → turn_at fresh t ≡ Some e → Suffix e t → behind go fresh t e ≡ Some b → Exactly go → Exact fresh t b
unfolding behind
behind_exact go fresh t [] b f x h i = here_exact go fresh t [] b f x h i
behind_exact go fresh t (c ∷ r) b f x h i = by (go (not (c == 44)) r) refl h
  where
    by : (o : Option ℕ) → go (not (c == 44)) r ≡ o → first_of o (here go fresh t (c ∷ r)) ≡ Some b → Exact fresh t b
    by None g h = here_exact go fresh t (c ∷ r) b f x h i
    by (Some k) g h = later_exact fresh t c r b f x (i (not (c == 44)) r b (g ∙ h))

exact : (n : ℕ) (fresh : Bool) (t : List ℕ) (b : ℕ) → farthest n fresh t ≡ Some b → Exact fresh t b
unfolding farthest
exact zero fresh t b h = absurd cc
exact (suc n) fresh t b h = by (turn_at fresh t) refl h (λ f s k g. exact n f s k g)
  where
    by : (o : Option (List ℕ)) → turn_at fresh t ≡ o → (o >>= behind (farthest n) fresh t) ≡ Some b → Exactly (farthest n) → Exact fresh t b
    by None f h i = absurd cc
    by (Some e) f h i = behind_exact (farthest n) fresh t e b f (some_at (λ e. Suffix e t) (turn_at fresh t) e (turn_suffix fresh t) f) h i

-- ---- how far the text reads

whole_empty : (text : List ℕ) → is_whole (take 0 text) ≡ true
unfolding groups_of groups_at skip
whole_empty text = refl

pub some_reach : (text : List ℕ) (b : ℕ) → farthest (length text + 1) true text ≡ Some b → IsReach text (length text - b)
some_reach text b h =
    let y = exact (length text + 1) true text b h in
    let len : length y.front ≡ length text - b = omega (arith, y.after, ap length y.whole, length-append y.front y.rest) in
    let taken : take (length text - b) text ≡ y.front = ap (λ (t : List ℕ). take (length text - b) t) y.whole ∙ take_at y.front y.rest (length text - b) len in
    record { within = omega arith; whole = ap is_whole taken ∙ whole_there y.front y.cut y.run; greatest = λ m lt le. some_whole text b h m lt le }

pub none_reach : (text : List ℕ) → farthest (length text + 1) true text ≡ None → IsReach text 0
none_reach text h = record { within = omega arith; whole = whole_empty text; greatest = λ m lt le. none_whole text h m lt le }
