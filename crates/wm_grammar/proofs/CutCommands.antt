-- A command of a text that was cut behind a ;, against the command of the whole text.
use Rattle.std.proofs.Common.{◌≡◌, ℕ, ◌-◌, ◌<◌, ◌≤◌, ◌⊎◌, Bool, true, false, List, [], ◌∷◌, ◌++◌, length, take, drop, Option, Some, None, refl, sym, ap, subst, ◌∙◌, append_assoc, arith, inl, inr, codes}
use Rattle.std.specs.Prelude.{if◌then◌else◌, ◌==◌, ◌||◌, ◌&&◌, option_map}
use Rattle.std.proofs.lemmas.Bool.{eqb-true}
use Rattle.std.proofs.lemmas.List.{length-append, drop-append-le, take-append-drop, length-drop}
use Rattle.wm_language.specs.declared.command.Command.{Command}
use Rattle.wm_language.specs.declared.command.Command.TheVariants as commands
use Rattle.wm_words.specs.declared.verbs.Verb.{Verb}
use Rattle.wm_grammar.specs.declared.opening.Opening.{Opening}
use Rattle.wm_grammar.specs.declared.opening.Opening.TheVariants as openings
use Rattle.wm_words.specs.Pieces.{◌>>=◌, first_of, is_nil, is_end, is_gap, breaks_word, until, from, has, skip, trim_end, ends, word, after, is_word, argument, unquote}
use Rattle.wm_words.specs.Forms.{verb_of, plain_form}
use Rattle.wm_grammar.specs.Openings.{Opened, opened, closed, bare, text_at, made, word_at, past_keyword_to, renamed, before_rest, finished, first_finished, verb_command, command_at}
use Rattle.wm_words.proofs.Cuts.{Cut, Suffix, suffix_refl, suffix_cons, suffix_trans, cut_suffix, behind_other, cut_long, until_cut, from_cut, from_suffix, from_cut_kept, skip_cut, skip_cut_kept, skip_suffix, ends_cut, Ext, Late, Outcome, AllSome, outcome_bind, Closing, unquote_closing, unquote_cut, outcome_if, if_some}

-- ---- each value that is there

pub bind_some : {A B : Type 0} (P : A → Type 0) (Q : B → Type 0) (o : Option A) (f : A → Option B) → AllSome P o → ((x : A) → P x → AllSome Q (f x)) → AllSome Q (o >>= f)
bind_some P Q None f h g = tt
bind_some P Q (Some x) f h g = g x h

pub map_some : {A B : Type 0} (P : A → Type 0) (Q : B → Type 0) (o : Option A) (f : A → B) → AllSome P o → ((x : A) → P x → Q (f x)) → AllSome Q (option_map f o)
map_some P Q None f h g = tt
map_some P Q (Some x) f h g = g x h

pub each_some : {A : Type 0} (P Q : A → Type 0) (o : Option A) → AllSome P o → ((x : A) → P x → Q x) → AllSome Q o
each_some P Q None h g = tt
each_some P Q (Some x) h g = g x h

pub any_some : {A : Type 0} (o : Option A) → AllSome (λ (x : A). Unit {0}) o
any_some None = tt
any_some (Some x) = tt

pub some_at : {A : Type 0} (P : A → Type 0) (o : Option A) (x : A) → AllSome P o → o ≡ Some x → P x
some_at P None x h e = absurd cc
some_at P (Some y) x h e = let same : y ≡ x = cc in subst P same h

pub ext_if : {A : Type 0} (b : Bool) (a : A) (r w : List ℕ) → (if b then Some (a, r ++ w) else None) ≡ Ext w (if b then Some (a, r) else None)
ext_if true a r w = refl
ext_if false a r w = refl

pub ext_unless : {A : Type 0} (b : Bool) (a : A) (r w : List ℕ) → (if b then None else Some (a, r ++ w)) ≡ Ext w (if b then None else Some (a, r))
ext_unless true a r w = refl
ext_unless false a r w = refl

-- what follows what was read is a suffix of the text
abbrev pub Tail : {A : Type 0} → List ℕ → A × List ℕ → Type 0
Tail s x = Suffix x.1 s

-- ---- quoted texts

closed_suffix : (x : List ℕ × List ℕ) → AllSome (Tail x.1) (closed x)
closed_suffix x = if_some (Tail x.1) (ends (skip x.1)) (Some (x.0, skip x.1)) None (λ e. skip_suffix x.1) (λ e. tt)

closed_cut : (w : List ℕ) (x : List ℕ × List ℕ) → Cut x.1 → Outcome w (closed x) (closed (x.0, x.1 ++ w))
closed_cut w x h = inl (rw (skip_cut x.1 w h, ends_cut (skip x.1) w (skip_cut_kept x.1 h)) (ext_if (ends (skip x.1)) x.0 (skip x.1) w))

-- behind an opening quote
pub behind_quote : (c : ℕ) (r : List ℕ) → Cut (c ∷ r) → (c == 34) ≡ true → Cut r
behind_quote c r h e = behind_other c r h (λ f. omega (arith, f, eqb-true c 34 e))

closing_cut : (y : List ℕ) (x : List ℕ × List ℕ) → Cut y → unquote y ≡ Some x → Cut x.1
closing_cut y x h e =
    let k = some_at (Closing y) (unquote y) x (unquote_closing y) e in
    behind_other 34 x.1 (cut_suffix (34 ∷ x.1) y h (k.0, k.1) (omega arith)) (λ f. absurd (omega (arith, f)))

closing_suffix : (y : List ℕ) (x : List ℕ × List ℕ) → Closing y x → Suffix x.1 y
closing_suffix y x k = (k.0 ++ 34 ∷ [], k.1 ∙ sym (append_assoc k.0 (34 ∷ []) x.1))

pub unquote_suffix : (y : List ℕ) → AllSome (Tail y) (unquote y)
unquote_suffix y = each_some (Closing y) (Tail y) (unquote y) (unquote_closing y) (closing_suffix y)

quoted_cut : (y w : List ℕ) → Cut y → Outcome w (unquote y >>= closed) (unquote (y ++ w) >>= closed)
quoted_cut y w h = outcome_bind w (unquote y) (unquote (y ++ w)) closed (unquote_cut y w h) (λ x e. closed_cut w x (closing_cut y x h e)) closed_suffix

text_cut : (one : Bool) (s w : List ℕ) → Cut s → Outcome w (text_at one s) (text_at one (s ++ w))
unfolding text_at
text_cut one [] w h = elim h [ ]
text_cut one (c ∷ r) w h = outcome_if w (c == 34) (unquote r >>= closed) _ (unquote (r ++ w) >>= closed) _ (λ e. quoted_cut r w (behind_quote c r h e))
    (λ e. inl (rw (until_cut is_end refl (c ∷ r) w h, from_cut is_end refl (c ∷ r) w h) (ext_unless (is_nil (trim_end (until is_end (c ∷ r))) || (one && has breaks_word (trim_end (until is_end (c ∷ r))))) (trim_end (until is_end (c ∷ r))) (from is_end (c ∷ r)) w)))

bare_suffix : (one : Bool) (x r s : List ℕ) → Suffix r s → AllSome (Tail s) (bare one x r)
bare_suffix one x r s h = if_some (Tail s) (is_nil x || (one && has breaks_word x)) None (Some (x, r)) (λ e. tt) (λ e. h)

text_suffix : (one : Bool) (s : List ℕ) → AllSome (Tail s) (text_at one s)
unfolding text_at
text_suffix one [] = bare_suffix one (trim_end (until is_end [])) (from is_end []) [] (from_suffix is_end [])
text_suffix one (c ∷ r) = if_some (Tail (c ∷ r)) (c == 34) (unquote r >>= closed) (bare one (trim_end (until is_end (c ∷ r))) (from is_end (c ∷ r)))
    (λ e. bind_some (Tail r) (Tail (c ∷ r)) (unquote r) closed (unquote_suffix r) (λ x k. each_some (Tail x.1) (Tail (c ∷ r)) (closed x) (closed_suffix x) (λ z t. suffix_trans z.1 x.1 (c ∷ r) t (suffix_cons c x.1 r k))))
    (λ e. bare_suffix one (trim_end (until is_end (c ∷ r))) (from is_end (c ∷ r)) (c ∷ r) (from_suffix is_end (c ∷ r)))

-- ---- renaming

word_cut : (s w : List ℕ) → Cut s → Outcome w (word_at s) (word_at (s ++ w))
unfolding word_at
word_cut [] w h = elim h [ ]
word_cut (c ∷ r) w h = outcome_if w (c == 34) (unquote r) _ (unquote (r ++ w)) _ (λ e. unquote_cut r w (behind_quote c r h e))
    (λ e. inl (rw (until_cut is_gap refl (c ∷ r) w h, from_cut is_gap refl (c ∷ r) w h) (ext_unless (is_nil (until is_gap (c ∷ r)) || has breaks_word (until is_gap (c ∷ r))) (until is_gap (c ∷ r)) (from is_gap (c ∷ r)) w)))

word_suffix : (s : List ℕ) → AllSome (Tail s) (word_at s)
unfolding word_at
word_suffix [] = if_some (Tail []) (is_nil (until is_gap []) || has breaks_word (until is_gap [])) None (Some (until is_gap [], from is_gap [])) (λ e. tt) (λ e. from_suffix is_gap [])
word_suffix (c ∷ r) = if_some (Tail (c ∷ r)) (c == 34) (unquote r) (if is_nil (until is_gap (c ∷ r)) || has breaks_word (until is_gap (c ∷ r)) then None else Some (until is_gap (c ∷ r), from is_gap (c ∷ r)))
    (λ e. each_some (Tail r) (Tail (c ∷ r)) (unquote r) (unquote_suffix r) (λ x k. suffix_cons c x.1 r k))
    (λ e. if_some (Tail (c ∷ r)) (is_nil (until is_gap (c ∷ r)) || has breaks_word (until is_gap (c ∷ r))) None (Some (until is_gap (c ∷ r), from is_gap (c ∷ r))) (λ f. tt) (λ f. from_suffix is_gap (c ∷ r)))

word_kept_plain : (s : List ℕ) (x : List ℕ × List ℕ) → Cut s → (b : Bool) → (if b then None else Some (until is_gap s, from is_gap s)) ≡ Some x → Cut x.1
word_kept_plain s x h true e = absurd cc
word_kept_plain s x h false e = let same : from is_gap s ≡ x.1 = ap2 e in subst (λ (t : List ℕ). Cut t) same (from_cut_kept is_gap refl s h)
  where
    ap2 : Some (until is_gap s, from is_gap s) ≡ Some x → from is_gap s ≡ x.1
    ap2 e = cc

word_kept : (s : List ℕ) (x : List ℕ × List ℕ) → Cut s → word_at s ≡ Some x → Cut x.1
unfolding word_at
word_kept [] x h e = elim h [ ]
word_kept (c ∷ r) x h e = by (c == 34) refl e
  where
    by : (b : Bool) → (c == 34) ≡ b → (if b then unquote r else (if is_nil (until is_gap (c ∷ r)) || has breaks_word (until is_gap (c ∷ r)) then None else Some (until is_gap (c ∷ r), from is_gap (c ∷ r)))) ≡ Some x → Cut x.1
    by true f e = closing_cut r x (behind_quote c r h f) e
    by false f e = word_kept_plain (c ∷ r) x h (is_nil (until is_gap (c ∷ r)) || has breaks_word (until is_gap (c ∷ r))) e

abbrev Longer : List ℕ → Option (List ℕ) → Option (List ℕ)
Longer w o = option_map (λ t. t ++ w) o

longer_if : (b : Bool) (r w : List ℕ) → (if b then Some (r ++ w) else None) ≡ Longer w (if b then Some r else None)
longer_if true r w = refl
longer_if false r w = refl

keyword_cut : (s w : List ℕ) → Cut s → past_keyword_to (s ++ w) ≡ Longer w (past_keyword_to s)
unfolding past_keyword_to
keyword_cut s w h = rw (until_cut is_gap refl s w h, from_cut is_gap refl s w h, skip_cut (from is_gap s) w (from_cut_kept is_gap refl s h)) (longer_if (is_word (until is_gap s) (codes "to")) (skip (from is_gap s)) w)

keyword_kept : (s : List ℕ) → Cut s → AllSome (λ t. Cut t) (past_keyword_to s)
unfolding past_keyword_to
keyword_kept s h = if_some (λ t. Cut t) (is_word (until is_gap s) (codes "to")) (Some (skip (from is_gap s))) None (λ e. skip_cut_kept (from is_gap s) (from_cut_kept is_gap refl s h)) (λ e. tt)

keyword_suffix : (s : List ℕ) → AllSome (λ t. Suffix t s) (past_keyword_to s)
unfolding past_keyword_to
keyword_suffix s = if_some (λ t. Suffix t s) (is_word (until is_gap s) (codes "to")) (Some (skip (from is_gap s))) None (λ e. suffix_trans (skip (from is_gap s)) (from is_gap s) s (skip_suffix (from is_gap s)) (from_suffix is_gap s)) (λ e. tt)

-- behind the new name: both names are arguments
abbrev both_named : List ℕ → List ℕ × List ℕ → Option (Command × List ℕ)
both_named was name = argument was >>= λ a. argument name.0 >>= λ b. Some (commands.Rename (Some a) b, name.1)

named_ext : (a b : Option (List ℕ)) (r w : List ℕ) → (a >>= λ x. b >>= λ y. Some (commands.Rename (Some x) y, r ++ w)) ≡ Ext w (a >>= λ x. b >>= λ y. Some (commands.Rename (Some x) y, r))
named_ext None b r w = refl
named_ext (Some x) None r w = refl
named_ext (Some x) (Some y) r w = refl

named_suffix : (was : List ℕ) (name : List ℕ × List ℕ) → AllSome (Tail name.1) (both_named was name)
named_suffix was name = bind_some (λ (x : List ℕ). Unit {0}) (Tail name.1) (argument was) (λ a. argument name.0 >>= λ b. Some (commands.Rename (Some a) b, name.1)) (any_some (argument was)) (λ a u. bind_some (λ (x : List ℕ). Unit {0}) (Tail name.1) (argument name.0) (λ b. Some (commands.Rename (Some a) b, name.1)) (any_some (argument name.0)) (λ b v. suffix_refl name.1))

-- behind the old name and the word to
abbrev new_named : List ℕ → List ℕ → Option (Command × List ℕ)
new_named was behind = text_at false behind >>= both_named was

new_cut : (was behind w : List ℕ) → Cut behind → Outcome w (new_named was behind) (new_named was (behind ++ w))
new_cut was behind w h = outcome_bind w (text_at false behind) (text_at false (behind ++ w)) (both_named was) (text_cut false behind w h) (λ x e. inl (named_ext (argument was) (argument x.0) x.1 w)) (λ x. named_suffix was x)

new_suffix : (was behind : List ℕ) → AllSome (Tail behind) (new_named was behind)
new_suffix was behind = bind_some (Tail behind) (Tail behind) (text_at false behind) (both_named was) (text_suffix false behind) (λ x k. each_some (Tail x.1) (Tail behind) (both_named was x) (named_suffix was x) (λ z t. suffix_trans z.1 x.1 behind t k))

-- behind the old name
abbrev to_named : List ℕ × List ℕ → Option (Command × List ℕ)
to_named was = past_keyword_to (skip was.1) >>= new_named was.0

to_chosen : (was w : List ℕ) (o : Option (List ℕ)) → AllSome (λ t. Cut t) o → Outcome w (o >>= new_named was) (Longer w o >>= new_named was)
to_chosen was w None h = inl refl
to_chosen was w (Some t) h = new_cut was t w h

to_cut : (w : List ℕ) (x : List ℕ × List ℕ) → Cut x.1 → Outcome w (to_named x) (to_named (x.0, x.1 ++ w))
to_cut w x h = rw (skip_cut x.1 w h, keyword_cut (skip x.1) w (skip_cut_kept x.1 h)) (to_chosen x.0 w (past_keyword_to (skip x.1)) (keyword_kept (skip x.1) (skip_cut_kept x.1 h)))

to_suffix : (x : List ℕ × List ℕ) → AllSome (Tail x.1) (to_named x)
to_suffix x = bind_some (λ t. Suffix t (skip x.1)) (Tail x.1) (past_keyword_to (skip x.1)) (new_named x.0) (keyword_suffix (skip x.1)) (λ t k. each_some (Tail t) (Tail x.1) (new_named x.0 t) (new_suffix x.0 t) (λ z j. suffix_trans z.1 t x.1 j (suffix_trans t (skip x.1) x.1 k (skip_suffix x.1))))

renamed_cut : (s w : List ℕ) → Cut s → Outcome w (renamed s) (renamed (s ++ w))
unfolding renamed
renamed_cut s w h = outcome_bind w (word_at s) (word_at (s ++ w)) to_named (word_cut s w h) (λ x e. to_cut w x (word_kept s x h e)) to_suffix

renamed_suffix : (s : List ℕ) → AllSome (Tail s) (renamed s)
unfolding renamed
renamed_suffix s = bind_some (Tail s) (Tail s) (word_at s) to_named (word_suffix s) (λ x k. each_some (Tail x.1) (Tail s) (to_named x) (to_suffix x) (λ z t. suffix_trans z.1 x.1 s t k))

-- ---- finishing a command

pub map_ext : {A : Type 0} (m : Option A) (r w : List ℕ) → option_map (before_rest (r ++ w)) m ≡ Ext w (option_map (before_rest r) m)
map_ext None r w = refl
map_ext (Some c) r w = refl

map_suffix : (m : Option Command) (r : List ℕ) → AllSome (Tail r) (option_map (before_rest r) m)
map_suffix None r = tt
map_suffix (Some c) r = suffix_refl r

made_cut : (o : Opening) (one : Bool) (s w : List ℕ) → Cut s → Outcome w (text_at one s >>= λ x. option_map (before_rest x.1) (made o x.0)) (text_at one (s ++ w) >>= λ x. option_map (before_rest x.1) (made o x.0))
made_cut o one s w h = outcome_bind w (text_at one s) (text_at one (s ++ w)) (λ x. option_map (before_rest x.1) (made o x.0)) (text_cut one s w h) (λ x e. inl (map_ext (made o x.0) x.1 w)) (λ x. map_suffix (made o x.0) x.1)

made_suffix : (o : Opening) (one : Bool) (s : List ℕ) → AllSome (Tail s) (text_at one s >>= λ x. option_map (before_rest x.1) (made o x.0))
made_suffix o one s = bind_some (Tail s) (Tail s) (text_at one s) (λ x. option_map (before_rest x.1) (made o x.0)) (text_suffix one s) (λ x k. each_some (Tail x.1) (Tail s) (option_map (before_rest x.1) (made o x.0)) (map_suffix (made o x.0) x.1) (λ z t. suffix_trans z.1 x.1 s t k))

finished_cut : (o : Opening) (s w : List ℕ) → Cut s → Outcome w (finished o s) (finished o (s ++ w))
unfolding finished
finished_cut openings.FocusOutput s w h = made_cut openings.FocusOutput true s w h
finished_cut openings.MoveToWorkspace s w h = made_cut openings.MoveToWorkspace false s w h
finished_cut openings.MoveToNumbered s w h = made_cut openings.MoveToNumbered false s w h
finished_cut openings.MoveToOutput s w h = made_cut openings.MoveToOutput true s w h
finished_cut openings.MoveWorkspace s w h = made_cut openings.MoveWorkspace true s w h
finished_cut openings.MoveToMark s w h = made_cut openings.MoveToMark false s w h
finished_cut openings.SwapMark s w h = made_cut openings.SwapMark false s w h
finished_cut (openings.Mark add toggle) s w h = made_cut (openings.Mark add toggle) false s w h
finished_cut openings.Unmark s w h = made_cut openings.Unmark false s w h
finished_cut openings.Workspace s w h = made_cut openings.Workspace false s w h
finished_cut openings.WorkspaceNumbered s w h = made_cut openings.WorkspaceNumbered false s w h
finished_cut openings.RenameFocused s w h = made_cut openings.RenameFocused false s w h
finished_cut openings.RenameNamed s w h = renamed_cut s w h
finished_cut openings.Mode s w h = made_cut openings.Mode false s w h
finished_cut openings.AppendLayout s w h = made_cut openings.AppendLayout false s w h
finished_cut openings.TitleFormat s w h = made_cut openings.TitleFormat false s w h
finished_cut openings.Nop s w h = made_cut openings.Nop false s w h
finished_cut openings.Idle s w h = made_cut openings.Idle false s w h

finished_suffix : (o : Opening) (s : List ℕ) → AllSome (Tail s) (finished o s)
unfolding finished
finished_suffix openings.FocusOutput s = made_suffix openings.FocusOutput true s
finished_suffix openings.MoveToWorkspace s = made_suffix openings.MoveToWorkspace false s
finished_suffix openings.MoveToNumbered s = made_suffix openings.MoveToNumbered false s
finished_suffix openings.MoveToOutput s = made_suffix openings.MoveToOutput true s
finished_suffix openings.MoveWorkspace s = made_suffix openings.MoveWorkspace true s
finished_suffix openings.MoveToMark s = made_suffix openings.MoveToMark false s
finished_suffix openings.SwapMark s = made_suffix openings.SwapMark false s
finished_suffix (openings.Mark add toggle) s = made_suffix (openings.Mark add toggle) false s
finished_suffix openings.Unmark s = made_suffix openings.Unmark false s
finished_suffix openings.Workspace s = made_suffix openings.Workspace false s
finished_suffix openings.WorkspaceNumbered s = made_suffix openings.WorkspaceNumbered false s
finished_suffix openings.RenameFocused s = made_suffix openings.RenameFocused false s
finished_suffix openings.RenameNamed s = renamed_suffix s
finished_suffix openings.Mode s = made_suffix openings.Mode false s
finished_suffix openings.AppendLayout s = made_suffix openings.AppendLayout false s
finished_suffix openings.TitleFormat s = made_suffix openings.TitleFormat false s
finished_suffix openings.Nop s = made_suffix openings.Nop false s
finished_suffix openings.Idle s = made_suffix openings.Idle false s

-- the front reads as the whole does, or the whole reads up to behind a quote of the rest
abbrev pub Weak : {A : Type 0} → List ℕ → Option (A × List ℕ) → Option (A × List ℕ) → Type 0
Weak w front all = (all ≡ Ext w front) ⊎ Late w all

first_weak : (w : List ℕ) (a b s t : Option (Command × List ℕ)) → Outcome w a s → Weak w b t → Weak w (first_of a b) (first_of s t)
first_weak w None b s t (inl e) k = subst (λ o. Weak w b (first_of o t)) (sym e) k
first_weak w (Some x) b s t (inl e) k = inl (ap (λ o. first_of o t) e)
first_weak w a b None t (inr (n, l)) k = elim l [ ]
first_weak w a b (Some x) t (inr (n, l)) k = inr l

drop_suffix : (k : ℕ) (s : List ℕ) → Suffix (drop k s) s
drop_suffix k s = (take k s, sym (take-append-drop k s))

first_cut : (text w raw : List ℕ) (os : Opened) → Cut text → length raw < length text → Weak w (first_finished text raw os) (first_finished (text ++ w) raw os)
unfolding first_finished
first_cut text w raw [] h lt = inl refl
first_cut text w raw (o ∷ os) h lt =
    let k : ℕ = length raw - length o.1 in
    let cut : Cut (drop k text) = cut_suffix (drop k text) text h (drop_suffix k text) (omega (arith, length-drop k text)) in
    let same : drop k (text ++ w) ≡ drop k text ++ w = drop-append-le k text w (omega arith) in
    first_weak w (finished o.0 (drop k text)) (first_finished text raw os) (finished o.0 (drop k (text ++ w))) (first_finished (text ++ w) raw os) (subst (λ (u : List ℕ). Outcome w (finished o.0 (drop k text)) (finished o.0 u)) (sym same) (finished_cut o.0 (drop k text) w cut)) (first_cut text w raw os h lt)

first_suffix : (text raw : List ℕ) (os : Opened) → AllSome (Tail text) (first_finished text raw os)
unfolding first_finished
first_suffix text raw [] = tt
first_suffix text raw (o ∷ os) = either (finished o.0 (drop (length raw - length o.1) text)) (first_finished text raw os)
    (each_some (Tail (drop (length raw - length o.1) text)) (Tail text) (finished o.0 (drop (length raw - length o.1) text)) (finished_suffix o.0 (drop (length raw - length o.1) text)) (λ z t. suffix_trans z.1 (drop (length raw - length o.1) text) text t (drop_suffix (length raw - length o.1) text)))
    (first_suffix text raw os)
  where
    either : (a b : Option (Command × List ℕ)) → AllSome (Tail text) a → AllSome (Tail text) b → AllSome (Tail text) (first_of a b)
    either None b h k = k
    either (Some x) b h k = h

either_some : (text : List ℕ) (a b : Option (Command × List ℕ)) → AllSome (Tail text) a → AllSome (Tail text) b → AllSome (Tail text) (first_of a b)
either_some text None b h k = k
either_some text (Some x) b h k = h

plain_weak : (m : Option Command) (rest w : List ℕ) (b t : Option (Command × List ℕ)) → Weak w b t → Weak w (first_of (option_map (before_rest rest) m) b) (first_of (option_map (before_rest (rest ++ w)) m) t)
plain_weak None rest w b t k = k
plain_weak (Some c) rest w b t k = inl refl

verb_weak : (text w raw rest : List ℕ) (v : Verb) → Cut text → length raw < length text → Weak w (verb_command text raw rest v) (verb_command (text ++ w) raw (rest ++ w) v)
unfolding verb_command
verb_weak text w raw rest v h lt = plain_weak (plain_form v (after raw)) rest w (first_finished text raw (opened v (after raw))) (first_finished (text ++ w) raw (opened v (after raw))) (first_cut text w raw (opened v (after raw)) h lt)

verb_chosen : (o : Option Verb) (text w raw rest : List ℕ) → Cut text → length raw < length text → Weak w (o >>= verb_command text raw rest) (o >>= verb_command (text ++ w) raw (rest ++ w))
verb_chosen None text w raw rest h lt = inl refl
verb_chosen (Some v) text w raw rest h lt = verb_weak text w raw rest v h lt

until_from : (p : ℕ → Bool) (u : List ℕ) → until p u ++ from p u ≡ u
unfolding until from
until_from p [] = refl
until_from p (c ∷ r) = split_chosen (p c) c (until p r) (from p r) r (until_from p r)
  where
    split_chosen : (b : Bool) (c : ℕ) (x y r : List ℕ) → x ++ y ≡ r → (if b then [] else c ∷ x) ++ (if b then c ∷ r else y) ≡ c ∷ r
    split_chosen true c x y r e = refl
    split_chosen false c x y r e = ap (λ (t : List ℕ). c ∷ t) e

pub command_weak : (text w : List ℕ) → Cut text → Weak w (command_at text) (command_at (text ++ w))
unfolding command_at
command_weak text w h =
    let raw : List ℕ = until is_end text in
    let rest : List ℕ = from is_end text in
    let long : 1 ≤ length rest = cut_long rest (from_cut_kept is_end refl text h) in
    let short : length raw < length text = omega (arith, ap length (until_from is_end text), length-append raw rest) in
    rw (until_cut is_end refl text w h, from_cut is_end refl text w h) (verb_chosen (verb_of (word raw)) text w raw rest h short)

pub command_suffix : (text : List ℕ) → AllSome (Tail text) (command_at text)
unfolding command_at verb_command
command_suffix text = bind_some (λ (v : Verb). Unit {0}) (Tail text) (verb_of (word (until is_end text))) (verb_command text (until is_end text) (from is_end text)) (any_some (verb_of (word (until is_end text)))) (λ v u.
    either_some text (option_map (before_rest (from is_end text)) (plain_form v (after (until is_end text)))) (first_finished text (until is_end text) (opened v (after (until is_end text))))
    (each_some (Tail (from is_end text)) (Tail text) (option_map (before_rest (from is_end text)) (plain_form v (after (until is_end text)))) (map_suffix (plain_form v (after (until is_end text))) (from is_end text)) (λ z t. suffix_trans z.1 (from is_end text) text t (from_suffix is_end text)))
    (first_suffix text (until is_end text) (opened v (after (until is_end text)))))

-- ---- what follows a command of a text that ends with ; ends with ; too

abbrev pub Kept : {A : Type 0} → A × List ℕ → Type 0
Kept x = Cut x.1

closed_kept : (x : List ℕ × List ℕ) → Cut x.1 → AllSome Kept (closed x)
closed_kept x h = if_some Kept (ends (skip x.1)) (Some (x.0, skip x.1)) None (λ e. skip_cut_kept x.1 h) (λ e. tt)

self_some : {A : Type 0} (o : Option A) → AllSome (λ x. o ≡ Some x) o
self_some None = tt
self_some (Some x) = refl

quoted_kept : (y : List ℕ) → Cut y → AllSome Kept (unquote y >>= closed)
quoted_kept y h = bind_some (λ x. unquote y ≡ Some x) Kept (unquote y) closed (self_some (unquote y)) (λ x e. closed_kept x (closing_cut y x h e))

text_kept : (one : Bool) (s : List ℕ) → Cut s → AllSome Kept (text_at one s)
unfolding text_at
text_kept one [] h = elim h [ ]
text_kept one (c ∷ r) h = if_some Kept (c == 34) (unquote r >>= closed) (bare one (trim_end (until is_end (c ∷ r))) (from is_end (c ∷ r))) (λ e. quoted_kept r (behind_quote c r h e))
    (λ e. if_some Kept (is_nil (trim_end (until is_end (c ∷ r))) || (one && has breaks_word (trim_end (until is_end (c ∷ r))))) None (Some (trim_end (until is_end (c ∷ r)), from is_end (c ∷ r))) (λ f. tt) (λ f. from_cut_kept is_end refl (c ∷ r) h))

map_kept : (m : Option Command) (r : List ℕ) → Cut r → AllSome Kept (option_map (before_rest r) m)
map_kept None r h = tt
map_kept (Some c) r h = h

made_kept : (o : Opening) (one : Bool) (s : List ℕ) → Cut s → AllSome Kept (text_at one s >>= λ x. option_map (before_rest x.1) (made o x.0))
made_kept o one s h = bind_some Kept Kept (text_at one s) (λ x. option_map (before_rest x.1) (made o x.0)) (text_kept one s h) (λ x k. map_kept (made o x.0) x.1 k)

both_kept : (was : List ℕ) (name : List ℕ × List ℕ) → Cut name.1 → AllSome Kept (both_named was name)
both_kept was name h = bind_some (λ (x : List ℕ). Unit {0}) Kept (argument was) (λ a. argument name.0 >>= λ b. Some (commands.Rename (Some a) b, name.1)) (any_some (argument was)) (λ a u. bind_some (λ (x : List ℕ). Unit {0}) Kept (argument name.0) (λ b. Some (commands.Rename (Some a) b, name.1)) (any_some (argument name.0)) (λ b v. h))

renamed_kept : (s : List ℕ) → Cut s → AllSome Kept (renamed s)
unfolding renamed
renamed_kept s h = bind_some (λ x. word_at s ≡ Some x) Kept (word_at s) to_named (self_some (word_at s)) (λ x e.
    bind_some (λ t. Cut t) Kept (past_keyword_to (skip x.1)) (new_named x.0) (keyword_kept (skip x.1) (skip_cut_kept x.1 (word_kept s x h e))) (λ t k.
    bind_some Kept Kept (text_at false t) (both_named x.0) (text_kept false t k) (λ name j. both_kept x.0 name j)))

finished_kept : (o : Opening) (s : List ℕ) → Cut s → AllSome Kept (finished o s)
unfolding finished
finished_kept openings.FocusOutput s h = made_kept openings.FocusOutput true s h
finished_kept openings.MoveToWorkspace s h = made_kept openings.MoveToWorkspace false s h
finished_kept openings.MoveToNumbered s h = made_kept openings.MoveToNumbered false s h
finished_kept openings.MoveToOutput s h = made_kept openings.MoveToOutput true s h
finished_kept openings.MoveWorkspace s h = made_kept openings.MoveWorkspace true s h
finished_kept openings.MoveToMark s h = made_kept openings.MoveToMark false s h
finished_kept openings.SwapMark s h = made_kept openings.SwapMark false s h
finished_kept (openings.Mark add toggle) s h = made_kept (openings.Mark add toggle) false s h
finished_kept openings.Unmark s h = made_kept openings.Unmark false s h
finished_kept openings.Workspace s h = made_kept openings.Workspace false s h
finished_kept openings.WorkspaceNumbered s h = made_kept openings.WorkspaceNumbered false s h
finished_kept openings.RenameFocused s h = made_kept openings.RenameFocused false s h
finished_kept openings.RenameNamed s h = renamed_kept s h
finished_kept openings.Mode s h = made_kept openings.Mode false s h
finished_kept openings.AppendLayout s h = made_kept openings.AppendLayout false s h
finished_kept openings.TitleFormat s h = made_kept openings.TitleFormat false s h
finished_kept openings.Nop s h = made_kept openings.Nop false s h
finished_kept openings.Idle s h = made_kept openings.Idle false s h

either_kept : (a b : Option (Command × List ℕ)) → AllSome Kept a → AllSome Kept b → AllSome Kept (first_of a b)
either_kept None b h k = k
either_kept (Some x) b h k = h

first_kept : (text raw : List ℕ) (os : Opened) → Cut text → length raw < length text → AllSome Kept (first_finished text raw os)
unfolding first_finished
first_kept text raw [] h lt = tt
first_kept text raw (o ∷ os) h lt =
    let k : ℕ = length raw - length o.1 in
    let cut : Cut (drop k text) = cut_suffix (drop k text) text h (drop_suffix k text) (omega (arith, length-drop k text)) in
    either_kept (finished o.0 (drop k text)) (first_finished text raw os) (finished_kept o.0 (drop k text) cut) (first_kept text raw os h lt)

pub command_kept : (text : List ℕ) → Cut text → AllSome Kept (command_at text)
unfolding command_at verb_command
command_kept text h =
    let raw : List ℕ = until is_end text in
    let rest : List ℕ = from is_end text in
    let long : 1 ≤ length rest = cut_long rest (from_cut_kept is_end refl text h) in
    let short : length raw < length text = omega (arith, ap length (until_from is_end text), length-append raw rest) in
    bind_some (λ (v : Verb). Unit {0}) Kept (verb_of (word raw)) (verb_command text raw rest) (any_some (verb_of (word raw))) (λ v u.
    either_kept (option_map (before_rest rest) (plain_form v (after raw))) (first_finished text raw (opened v (after raw))) (map_kept (plain_form v (after raw)) rest (from_cut_kept is_end refl text h)) (first_kept text raw (opened v (after raw)) h short))
