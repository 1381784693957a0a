-- A text reads as a command exactly where it is that command, whatever stands behind its end.
use Rattle.std.proofs.Common.{◌≡◌, ℕ, suc, ◌-◌, ◌<◌, ◌≤◌, ◌⊎◌, Bool, true, false, List, [], ◌∷◌, ◌++◌, length, drop, Option, Some, None, refl, sym, ap, subst, ◌∙◌, append_assoc, arith, codes, inl, inr}
use Rattle.std.specs.Prelude.{if◌then◌else◌, ◌||◌, option_map}
use Rattle.std.proofs.lemmas.List.{length-append, drop_at}
use Rattle.wm_language.specs.declared.command.Command.{Command}
use Rattle.wm_words.specs.declared.verbs.Verb.{Verb}
use Rattle.wm_words.specs.declared.verbs.Verb.TheVariants as verbs
use Rattle.wm_grammar.specs.declared.opening.Opening.{Opening}
use Rattle.wm_words.specs.Pieces.{first_of, is_blank, is_end, until, from, word, after, says}
use Rattle.wm_words.specs.Forms.{past_one_to, past_to, past_with, verb_of, plain_form}
use Rattle.wm_grammar.specs.Openings.{opened, before_rest, finished, first_finished, verb_command, command_at}
use Rattle.wm_words.proofs.Cuts.{AllSome, if_some, Suffix, suffix_refl, suffix_trans, from_suffix, skip_suffix}
use Rattle.wm_grammar.proofs.CutCommands.{some_at}
use Rattle.wm_grammar.proofs.Bounds.{bind_inv}
use Rattle.wm_language.specs.Bytes.{MayFollow}
use Rattle.wm_language.specs.Words.{in_small}
use Rattle.wm_language.specs.Slots.{Slot, said, keywords}
use Rattle.wm_language.specs.WindowForms.{KeywordForm}
use Rattle.wm_language.specs.ArgumentForms.{ArgumentForm}
use Rattle.wm_language.specs.Spoken.{Forms, Fits, IsMeant, IsPlain, IsFree}
use Rattle.wm_grammar.proofs.ByteLemmas.{until_from, from_stops, at_ends}
use Rattle.wm_grammar.proofs.TextLemmas.{skip_unblanked}
use Rattle.wm_grammar.proofs.FilledLemmas.{begun, Plainly}
use Rattle.wm_grammar.proofs.FoundLemmas.{Stands, Found, found_fill, found_more}
use Rattle.wm_grammar.proofs.RankedWays.{Way, Ranked, ways_of, targets_ranked, to_count, move_to_ranked, with_count, swap_with_ranked, ranked, all_ways, Below, Falls, all_fall}
use Rattle.wm_grammar.proofs.WindowTold.{IsVerb, verb_told, BehindVerb, plain_told}
use Rattle.wm_grammar.proofs.ArgumentTold.{BehindArgument, WayTold, EachWay, all_told}
use Rattle.wm_grammar.proofs.RowLemmas.{filled_row}
use Rattle.wm_grammar.proofs.WindowBack.{PlainBack, plain_back, keyword_proper}
use Rattle.wm_grammar.proofs.ArgumentBack.{Member, ArgumentBack, argument_back, argument_proper}

-- ---- each way goes on from a place of the text

after_suffix : (r : List ℕ) → Suffix (after r) r
after_suffix r = suffix_trans (after r) (from is_blank r) r (skip_suffix (from is_blank r)) (from_suffix is_blank r)

abbrev Within : List ℕ → Way → Type 0
Within r w = Suffix w.1.1 r

ways_if : (P : Way → Type 0) (b : Bool) (x y : Ranked) → EachWay P x → EachWay P y → EachWay P (if b then x else y)
ways_if P true x y h k = h
ways_if P false x y h k = k

suffix_if : (r : List ℕ) (b : Bool) (x y : List ℕ) → Suffix x r → Suffix y r → Suffix (if b then x else y) r
suffix_if r true x y h k = h
suffix_if r false x y h k = k

two_suffix : (r t : List ℕ) → Suffix t r → Suffix (after t) r
two_suffix r t h = suffix_trans (after t) t r (after_suffix t) h

past_one_suffix : (r : List ℕ) → Suffix (past_one_to r) r
unfolding past_one_to
past_one_suffix r = suffix_if r (says r (codes "to")) (after r) r (after_suffix r) (suffix_refl r)

past_to_suffix : (r : List ℕ) → Suffix (past_to r) r
unfolding past_to
past_to_suffix r = by (says r (codes "container") || says r (codes "window"))
  where
    by : (b : Bool) → Suffix (if says (if b then after r else r) (codes "to") then after (if b then after r else r) else (if b then after r else r)) r
    by true = suffix_if r (says (after r) (codes "to")) (after (after r)) (after r) (two_suffix r (after r) (after_suffix r)) (after_suffix r)
    by false = suffix_if r (says r (codes "to")) (after r) r (after_suffix r) (suffix_refl r)

past_with_suffix : (r : List ℕ) → AllSome (λ c. Suffix c r) (past_with r)
unfolding past_with
past_with_suffix r = by (says r (codes "container"))
  where
    by : (b : Bool) → AllSome (λ c. Suffix c r) (if says (if b then after r else r) (codes "with") then Some (after (if b then after r else r)) else None)
    by true = if_some (λ c. Suffix c r) (says (after r) (codes "with")) (Some (after (after r))) None (λ e. two_suffix r (after r) (after_suffix r)) (λ e. tt)
    by false = if_some (λ c. Suffix c r) (says r (codes "with")) (Some (after r)) None (λ e. after_suffix r) (λ e. tt)

targets_within : (s r : List ℕ) (k : ℕ) (a b : Opening) → Suffix s r → EachWay (Within r) (targets_ranked k a b s)
targets_within s r k a b h = ways_if (Within r) (says s (codes "number")) ((suc k, (a, after s)) ∷ (k, (b, s)) ∷ []) ((k, (b, s)) ∷ []) (two_suffix r s h, (h, tt)) (h, tt)

move_to_within : (s r : List ℕ) (k : ℕ) → Suffix s r → EachWay (Within r) (move_to_ranked k s)
move_to_within s r k h = ways_if (Within r) (says s (codes "workspace")) _ _ (targets_within (after s) r (suc k) _ _ (two_suffix r s h)) (ways_if (Within r) (says s (codes "output")) _ _ (two_suffix r s h, tt) (ways_if (Within r) (says s (codes "mark")) _ _ (two_suffix r s h, tt) tt))

swap_within : (r : List ℕ) (k : ℕ) (o : Option (List ℕ)) → AllSome (λ c. Suffix c r) o → EachWay (Within r) (swap_with_ranked k o)
swap_within r k None h = tt
swap_within r k (Some c) h = ways_if (Within r) (says c (codes "mark")) _ _ (two_suffix r c h, tt) tt

all_within : (v : Verb) (r : List ℕ) → EachWay (Within r) (ranked v r)
all_within verbs.Split r = tt
all_within verbs.Layout r = tt
all_within verbs.Focus r = ways_if (Within r) (says r (codes "output")) _ _ (after_suffix r, tt) tt
all_within verbs.Move r =
    ways_if (Within r) (says r (codes "workspace")) _ _ (ways_if (Within r) (says (past_one_to (after r)) (codes "output")) _ _ (two_suffix r (past_one_to (after r)) (suffix_trans (past_one_to (after r)) (after r) r (past_one_suffix (after r)) (after_suffix r)), (after_suffix r, tt)) (move_to_within r r 0 (suffix_refl r))) (move_to_within (past_to r) r (to_count r) (past_to_suffix r))
all_within verbs.Swap r = swap_within r (with_count r) (past_with r) (past_with_suffix r)
all_within verbs.Resize r = tt
all_within verbs.Floating r = tt
all_within verbs.Fullscreen r = tt
all_within verbs.Border r = tt
all_within verbs.Gaps r = tt
all_within verbs.Sticky r = tt
all_within verbs.Mark r =
    let one = after_suffix r in
    let two = two_suffix r (after r) (after_suffix r) in
    let none = suffix_refl r in
    ways_if (Within r) (says r (codes "--add")) _ _ (ways_if (Within r) (says (after r) (codes "--toggle")) _ _ (two, (one, (none, tt))) (one, (none, tt)))
    (ways_if (Within r) (says r (codes "--replace")) _ _ (ways_if (Within r) (says (after r) (codes "--toggle")) _ _ (two, (one, (none, tt))) (one, (none, tt)))
    (ways_if (Within r) (says r (codes "--toggle")) _ _ (one, (none, tt)) (none, tt)))
all_within verbs.Unmark r = (suffix_refl r, tt)
all_within verbs.Workspace r = targets_within r r 0 _ _ (suffix_refl r)
all_within verbs.Rename r = ways_if (Within r) (says r (codes "workspace")) _ _ (ways_if (Within r) (says (after r) (codes "to")) _ _ (two_suffix r (after r) (after_suffix r), (after_suffix r, tt)) (after_suffix r, tt)) tt
all_within verbs.Scratchpad r = tt
all_within verbs.Mode r = (suffix_refl r, tt)
all_within verbs.AppendLayout r = (suffix_refl r, tt)
all_within verbs.TitleFormat r = (suffix_refl r, tt)
all_within verbs.Kill r = tt
all_within verbs.Nop r = (suffix_refl r, tt)
all_within verbs.Idle r = (suffix_refl r, tt)
all_within verbs.Exit r = tt

-- ---- the first way that fits

abbrev first_ranked : (Way → Option (Command × List ℕ)) → Ranked → Option (Command × List ℕ)
first_ranked f [] = None
first_ranked f (w ∷ ws) = first_of (f w) (first_ranked f ws)

finished_ranked : (t raw : List ℕ) (ws : Ranked) → first_finished t raw (ways_of ws) ≡ first_ranked (λ w. finished w.1.0 (drop (length raw - length w.1.1) t)) ws
unfolding first_finished
finished_ranked t raw [] = refl
finished_ranked t raw (w ∷ ws) = ap (λ (o : Option (Command × List ℕ)). first_of (finished w.1.0 (drop (length raw - length w.1.1) t)) o) (finished_ranked t raw ws)

ranked_same : (f g : Way → Option (Command × List ℕ)) (ws : Ranked) → EachWay (λ w. f w ≡ g w) ws → first_ranked f ws ≡ first_ranked g ws
ranked_same f g [] h = refl
ranked_same f g (w ∷ ws) h = ap (λ (o : Option (Command × List ℕ)). first_of o (first_ranked f ws)) h.0 ∙ ap (λ (o : Option (Command × List ℕ)). first_of (g w) o) (ranked_same f g ws h.1)

each_more : (P Q : Way → Type 0) → ((w : Way) → P w → Q w) → (ws : Ranked) → EachWay P ws → EachWay Q ws
each_more P Q f [] h = tt
each_more P Q f (w ∷ ws) h = (f w h.0, each_more P Q f ws h.1)

-- the text from a place before the first end of a command on
place : (raw e s : List ℕ) → Suffix s raw → drop (length raw - length s) (raw ++ e) ≡ s ++ e
place raw e s h =
    let n : length raw - length s ≡ length h.0 = omega (arith, ap length h.1, length-append h.0 s) in
    ap (drop (length raw - length s)) (ap (λ (t : List ℕ). t ++ e) h.1 ∙ append_assoc h.0 s e) ∙ drop_at h.0 (s ++ e) (length raw - length s) (sym n)

-- the ways of a verb, over the text up to the first end of a command and the rest of it
abbrev at_way : List ℕ → Way → Option (Command × List ℕ)
at_way e w = finished w.1.0 (w.1.1 ++ e)

finished_all : (v : Verb) (raw e : List ℕ) → first_finished (raw ++ e) raw (opened v (after raw)) ≡ first_ranked (at_way e) (ranked v (after raw))
finished_all v raw e =
    ap (first_finished (raw ++ e) raw) (sym (all_ways v (after raw)))
    ∙ (finished_ranked (raw ++ e) raw (ranked v (after raw))
    ∙ ranked_same (λ w. finished w.1.0 (drop (length raw - length w.1.1) (raw ++ e))) (at_way e) (ranked v (after raw))
    (each_more (Within (after raw)) (λ w. finished w.1.0 (drop (length raw - length w.1.1) (raw ++ e)) ≡ at_way e w) (λ w h. ap (finished w.1.0) (place raw e w.1.1 (suffix_trans w.1.1 (after raw) raw h (after_suffix raw)))) (ranked v (after raw)) (all_within v (after raw))))

-- what a command reads as, once its verb is known
abbrev Read : Verb → List ℕ → List ℕ → Option (Command × List ℕ)
Read v raw e = first_of (option_map (before_rest e) (plain_form v (after raw))) (first_ranked (at_way e) (ranked v (after raw)))

read_of : (t : List ℕ) (v : Verb) → verb_of (word (until is_end t)) ≡ Some v → command_at t ≡ Read v (until is_end t) (from is_end t)
unfolding command_at verb_command
read_of t v h =
    let raw : List ℕ = until is_end t in
    let e : List ℕ = from is_end t in
    rw h (ap (λ (o : Option (Command × List ℕ)). first_of (option_map (before_rest e) (plain_form v (after raw))) o) (ap (λ (u : List ℕ). first_finished u raw (opened v (after raw))) (sym (until_from is_end t)) ∙ finished_all v raw e))

-- ---- the one with the most keywords

record Picked (f : Way → Option (Command × List ℕ)) (ws : Ranked) (x : Command × List ℕ) : Type 0 where
  way : Way
  member : Member way ws
  fits : f way ≡ Some x
  most : (v : Way) (y : Command × List ℕ) → Member v ws → f v ≡ Some y → v.0 ≤ way.0

below_member : (k : ℕ) (ws : Ranked) (w : Way) → Below k ws → Member w ws → w.0 < k
below_member k [] w h m = elim m [ ]
below_member k (v ∷ ws) w h (inl e) = let same : w.0 ≡ v.0 = ap (λ (u : Way). u.0) e in omega (arith, same, h.0)
below_member k (v ∷ ws) w h (inr m) = below_member k ws w h.1 m

none_some : (o : Option (Command × List ℕ)) (x : Command × List ℕ) → o ≡ None → o ≡ Some x → ⊥
none_some o x h k = absurd cc

picked : (f : Way → Option (Command × List ℕ)) (ws : Ranked) (x : Command × List ℕ) → Falls ws → first_ranked f ws ≡ Some x → Picked f ws x
picked f [] x h e = absurd cc
picked f (w ∷ ws) x h e = by (f w) refl e (λ k. picked f ws x h.1 k)
  where
    by : (o : Option (Command × List ℕ)) → f w ≡ o → first_of o (first_ranked f ws) ≡ Some x → (first_ranked f ws ≡ Some x → Picked f ws x) → Picked f (w ∷ ws) x
    by None g e i =
        let p = i e in
        record { way = p.way; member = inr p.member; fits = p.fits; most = λ v y m k. most p v y m k }
      where
        most : Picked f ws x → (v : Way) (y : Command × List ℕ) → Member v (w ∷ ws) → f v ≡ Some y → v.0 ≤ (i e).way.0
        most p v y (inl s) k = absurd (none_some (f w) y g (ap f (sym s) ∙ k))
        most p v y (inr m) k = (i e).most v y m k
    by (Some y) g e i = record { way = w; member = inl refl; fits = g ∙ e; most = most }
      where
        most : (v : Way) (z : Command × List ℕ) → Member v (w ∷ ws) → f v ≡ Some z → v.0 ≤ w.0
        most v z (inl s) k = let same : v.0 ≡ w.0 = ap (λ (u : Way). u.0) s in omega (arith, same)
        most v z (inr m) k = omega (arith, below_member w.0 ws v h.0 m)

picked_back : (f : Way → Option (Command × List ℕ)) (ws : Ranked) (w : Way) (x : Command × List ℕ) → Falls ws → Member w ws → f w ≡ Some x → ((v : Way) (y : Command × List ℕ) → Member v ws → f v ≡ Some y → v.0 ≤ w.0) → first_ranked f ws ≡ Some x
picked_back f [] w x h m e most = elim m [ ]
picked_back f (u ∷ ws) w x h (inl s) e most = ap (λ (o : Option (Command × List ℕ)). first_of o (first_ranked f ws)) (ap f (sym s) ∙ e)
picked_back f (u ∷ ws) w x h (inr m) e most = by (f u) refl (picked_back f ws w x h.1 m e (λ v y n k. most v y (inr n) k))
  where
    by : (o : Option (Command × List ℕ)) → f u ≡ o → first_ranked f ws ≡ Some x → first_of o (first_ranked f ws) ≡ Some x
    by None g i = i
    by (Some y) g i = absurd (omega (arith, most u y (inl refl) g, below_member u.0 ws w h.0 m))

-- ---- what fits at the front of a text

-- a form of keywords alone
plain_fits : (t : List ℕ) (v : Verb) (c : Command) → verb_of (word (until is_end t)) ≡ Some v → plain_form v (after (until is_end t)) ≡ Some c → IsPlain c (until is_end t)
plain_fits t v c h k =
    let raw : List ℕ = until is_end t in
    let is : IsVerb v (in_small (word raw)) = some_at (λ v. IsVerb v (in_small (word raw))) (verb_of (word raw)) v (verb_told (word raw)) h in
    let p = some_at (Plainly (BehindVerb v) (after raw)) (plain_form v (after raw)) c (plain_told v (after raw)) k in
    record { slots = said (in_small (word raw)) ∷ p.slots; form = p.form (in_small (word raw)) is; filled = begun (said (in_small (word raw))) p.slots raw refl p.filled }

plain_at : (t : List ℕ) (c : Command) → IsPlain c (until is_end t) → (slots : List Slot) × Fits KeywordForm slots t
plain_at t c p = (p.slots, record { command = c; spelled = until is_end t; behind = from is_end t; whole = sym (until_from is_end t); ends = at_ends (from is_end t) (from_stops is_end t); form = p.form; filled = p.filled })

-- a form that has a free argument, with so many keywords
abbrev WithKeywords : ℕ → Forms
WithKeywords k slots c = ArgumentForm slots c × (keywords slots ≡ k)

each_member : (P : Way → Type 0) (ws : Ranked) (w : Way) → EachWay P ws → Member w ws → P w
each_member P [] w h m = elim m [ ]
each_member P (v ∷ ws) w h (inl e) = subst P (sym e) h.0
each_member P (v ∷ ws) w h (inr m) = each_member P ws w h.1 m

way_fits : (t : List ℕ) (v : Verb) (w : Way) (x : Command × List ℕ) → verb_of (word (until is_end t)) ≡ Some v → Member w (ranked v (after (until is_end t))) → at_way (from is_end t) w ≡ Some x → Stands (WithKeywords (suc w.0)) t x
way_fits t v w x h m k =
    let raw : List ℕ = until is_end t in
    let e : List ℕ = from is_end t in
    let n : List ℕ = in_small (word raw) in
    let is : IsVerb v n = some_at (λ v. IsVerb v n) (verb_of (word raw)) v (verb_told (word raw)) h in
    let told : WayTold v (after raw) e w = each_member (WayTold v (after raw) e) (ranked v (after raw)) w (all_told v (after raw) e (skip_unblanked (from is_blank raw)) (at_ends e (from_stops is_end t))) m in
    let f = some_at (Found (BehindArgument v w.0) (after raw) e) (at_way e w) x told k in
    let g = found_more (BehindArgument v w.0) (λ slots c. WithKeywords (suc w.0) (said n ∷ slots) c) (after raw) e x (λ slots c b. (b.0 n is, ap (λ (k : ℕ). suc k) b.1)) f in
    subst (λ (u : List ℕ). Stands (WithKeywords (suc w.0)) u x) (until_from is_end t) (found_fill (WithKeywords (suc w.0)) (said n) raw e x refl g).stands

stands_fits : (k : ℕ) (t : List ℕ) (x : Command × List ℕ) → Stands (WithKeywords k) t x → (slots : List Slot) × Fits ArgumentForm slots t × (keywords slots ≡ k)
stands_fits k t x s = (s.slots, record { command = x.0; spelled = s.spelled; behind = x.1; whole = s.whole; ends = s.ends; form = s.form.0; filled = s.filled }, s.form.1)

-- a text of a form, word by word
keyword_row : (t : List ℕ) (slots : List Slot) → (f : Fits KeywordForm slots t) → PlainBack f.command f.behind (from is_end t) (until is_end t)
keyword_row t slots f = plain_back slots f.command f.form f.behind (from is_end t) (until is_end t) (filled_row slots f.spelled f.behind (until is_end t) (from is_end t) (keyword_proper slots f.command f.form) f.filled f.ends (ap (until is_end) f.whole) (ap (from is_end) f.whole))

argument_row : (t : List ℕ) (slots : List Slot) → (f : Fits ArgumentForm slots t) → ArgumentBack slots f.command f.behind (from is_end t) (until is_end t)
argument_row t slots f = argument_back slots f.command f.form f.behind (from is_end t) (until is_end t) f.ends (filled_row slots f.spelled f.behind (until is_end t) (from is_end t) (argument_proper slots f.command f.form) f.filled f.ends (ap (until is_end) f.whole) (ap (from is_end) f.whole))

same_verb : (o : Option Verb) (v w : Verb) → o ≡ Some v → o ≡ Some w → v ≡ w
same_verb o v w h k = cc

none_plain : (o : Option Command) (c : Command) → o ≡ None → o ≡ Some c → ⊥
none_plain o c h k = absurd cc

-- ---- what reads is the command

pub record CommandTold (t : List ℕ) (x : Command × List ℕ) : Type 0 where
  pub text : List ℕ
  pub whole : t ≡ text ++ x.1
  pub ends : MayFollow x.1
  pub is : IsPlain x.0 text ⊎ IsFree x.0 x.1 text

some_same : (x y : Command × List ℕ) → Some x ≡ Some y → x ≡ y
some_same x y e = cc

free_told : (t : List ℕ) (v : Verb) (x : Command × List ℕ) → verb_of (word (until is_end t)) ≡ Some v → plain_form v (after (until is_end t)) ≡ None → first_ranked (at_way (from is_end t)) (ranked v (after (until is_end t))) ≡ Some x → CommandTold t x
free_told t v x h miss e =
    let raw : List ℕ = until is_end t in
    let p = picked (at_way (from is_end t)) (ranked v (after raw)) x (all_fall v (after raw)) e in
    let s = way_fits t v p.way x h p.member p.fits in
    let alone : (others : List Slot) → Fits KeywordForm others t → ⊥ = λ others f.
    let b = keyword_row t others f in
    let same : b.verb ≡ v = same_verb (verb_of (word raw)) b.verb v b.found h in
    none_plain (plain_form v (after raw)) f.command miss (ap (λ (u : Verb). plain_form u (after raw)) (sym same) ∙ b.plain)
    in
    let longest : (others : List Slot) → Fits ArgumentForm others t → keywords others ≤ keywords s.slots = λ others f.
    let b = argument_row t others f in
    let same : b.verb ≡ v = same_verb (verb_of (word raw)) b.verb v b.found h in
    let member : Member b.way (ranked v (after raw)) = subst (λ (u : Verb). Member b.way (ranked u (after raw))) same b.member in
    omega (arith, b.rank, s.form.1, p.most b.way (f.command, f.behind) member b.fits)
    in
    let meant : IsMeant s.slots (s.spelled ++ x.1) = subst (λ (u : List ℕ). IsMeant s.slots u) s.whole (record { alone = alone; longest = longest }) in
    record { text = s.spelled; whole = s.whole; ends = s.ends; is = inr (record { slots = s.slots; form = s.form.0; filled = s.filled; meant = meant }) }

pub command_told : (t : List ℕ) (x : Command × List ℕ) → command_at t ≡ Some x → CommandTold t x
unfolding command_at
command_told t x e =
    let raw : List ℕ = until is_end t in
    let rest : List ℕ = from is_end t in
    let b = bind_inv (verb_of (word raw)) (verb_command t raw rest) x e in
    by b.0 b.1 (plain_form b.0 (after raw)) refl (sym (read_of t b.0 b.1) ∙ e)
  where
    by : (v : Verb) → verb_of (word (until is_end t)) ≡ Some v → (o : Option Command) → plain_form v (after (until is_end t)) ≡ o → first_of (option_map (before_rest (from is_end t)) (plain_form v (after (until is_end t)))) (first_ranked (at_way (from is_end t)) (ranked v (after (until is_end t)))) ≡ Some x → CommandTold t x
    by v h None g e = free_told t v x h g (ap (λ (o : Option Command). first_of (option_map (before_rest (from is_end t)) o) (first_ranked (at_way (from is_end t)) (ranked v (after (until is_end t))))) (sym g) ∙ e)
    by v h (Some c) g e =
        let here : Command × List ℕ = (c, from is_end t) in
        let same : here ≡ x = some_same here x (ap (λ (o : Option Command). first_of (option_map (before_rest (from is_end t)) o) (first_ranked (at_way (from is_end t)) (ranked v (after (until is_end t))))) (sym g) ∙ e) in
        let told : CommandTold t here = record { text = until is_end t; whole = sym (until_from is_end t); ends = at_ends (from is_end t) (from_stops is_end t); is = inl (plain_fits t v c h g) } in
        subst (CommandTold t) same told

-- ---- the command reads

plain_read : (t : List ℕ) (c : Command) (slots : List Slot) → (f : Fits KeywordForm slots t) → command_at t ≡ Some (f.command, f.behind)
plain_read t c slots f =
    let b = keyword_row t slots f in
    read_of t b.verb b.found ∙ (ap (λ (o : Option Command). first_of (option_map (before_rest (from is_end t)) o) (first_ranked (at_way (from is_end t)) (ranked b.verb (after (until is_end t))))) b.plain ∙ ap (λ (r : List ℕ). Some (f.command, r)) b.same)

free_read : (t : List ℕ) (slots : List Slot) → IsMeant slots t → (f : Fits ArgumentForm slots t) → command_at t ≡ Some (f.command, f.behind)
free_read t slots m f =
    let raw : List ℕ = until is_end t in
    let b = argument_row t slots f in
    let most : (v : Way) (y : Command × List ℕ) → Member v (ranked b.verb (after raw)) → at_way (from is_end t) v ≡ Some y → v.0 ≤ b.way.0 = λ v y k g.
    let s = stands_fits (suc v.0) t y (way_fits t b.verb v y b.found k g) in
    omega (arith, m.longest s.0 s.1, s.2, b.rank)
    in
    let ways : first_ranked (at_way (from is_end t)) (ranked b.verb (after raw)) ≡ Some (f.command, f.behind) = picked_back (at_way (from is_end t)) (ranked b.verb (after raw)) b.way (f.command, f.behind) (all_fall b.verb (after raw)) b.member b.fits most in
    read_of t b.verb b.found ∙ by b.verb b.found (plain_form b.verb (after raw)) refl ways
  where
    by : (v : Verb) → verb_of (word (until is_end t)) ≡ Some v → (o : Option Command) → plain_form v (after (until is_end t)) ≡ o → first_ranked (at_way (from is_end t)) (ranked v (after (until is_end t))) ≡ Some (f.command, f.behind) → first_of (option_map (before_rest (from is_end t)) (plain_form v (after (until is_end t)))) (first_ranked (at_way (from is_end t)) (ranked v (after (until is_end t)))) ≡ Some (f.command, f.behind)
    by v h None g ways = ap (λ (o : Option Command). first_of (option_map (before_rest (from is_end t)) o) (first_ranked (at_way (from is_end t)) (ranked v (after (until is_end t))))) g ∙ ways
    by v h (Some c) g ways = let p = plain_at t c (plain_fits t v c h g) in absurd (m.alone p.0 p.1)

pub command_back : (c : Command) (text behind : List ℕ) → MayFollow behind → IsPlain c text ⊎ IsFree c behind text → command_at (text ++ behind) ≡ Some (c, behind)
command_back c text behind l (inl p) = plain_read (text ++ behind) c p.slots (record { command = c; spelled = text; behind = behind; whole = refl; ends = l; form = p.form; filled = p.filled })
command_back c text behind l (inr f) = free_read (text ++ behind) f.slots f.meant (record { command = c; spelled = text; behind = behind; whole = refl; ends = l; form = f.form; filled = f.filled })
