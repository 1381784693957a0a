-- The ways to read the keywords of a command, each with the number of keywords behind the verb: those with more stand first.
use Rattle.std.proofs.Common.{◌≡◌, ℕ, suc, ◌<◌, Bool, true, false, List, [], ◌∷◌, ◌++◌, Option, Some, None, refl, sym, ap, ◌∙◌, arith, codes}
use Rattle.std.specs.Prelude.{if◌then◌else◌, ◌||◌}
use Rattle.wm_words.specs.declared.verbs.Verb.{Verb}
use Rattle.wm_words.specs.declared.verbs.Verb.TheVariants as verbs
use Rattle.wm_grammar.specs.declared.opening.Opening.{Opening}
use Rattle.wm_grammar.specs.declared.opening.Opening.TheVariants as openings
use Rattle.wm_words.specs.Pieces.{word, after, is_word, is_text, says}
use Rattle.wm_words.specs.Forms.{past_one_to, past_to, past_with}
use Rattle.wm_grammar.specs.Openings.{Opened, targets_opened, focus_opened, move_to_opened, move_opened, swap_with, swap_opened, toggle_opened, mark_opened, rename_opened, opened}
use Rattle.wm_grammar.proofs.ByteLemmas.{word_told, word_says}

abbrev pub Way : Type 0
Way = ℕ × (Opening × List ℕ)

abbrev pub Ranked : Type 0
Ranked = List Way

-- without the numbers
abbrev pub ways_of : Ranked → Opened
ways_of [] = []
ways_of (w ∷ ws) = w.1 ∷ ways_of ws

abbrev pub targets_ranked : ℕ → Opening → Opening → List ℕ → Ranked
targets_ranked k numbered named r = if says r (codes "number") then (suc k, (numbered, after r)) ∷ (k, (named, r)) ∷ [] else (k, (named, r)) ∷ []

abbrev pub focus_ranked : List ℕ → Ranked
focus_ranked r = if says r (codes "output") then (1, (openings.FocusOutput, after r)) ∷ [] else []

abbrev pub move_to_ranked : ℕ → List ℕ → Ranked
move_to_ranked k r =
    if says r (codes "workspace") then targets_ranked (suc k) openings.MoveToNumbered openings.MoveToWorkspace (after r)
    else if says r (codes "output") then (suc k, (openings.MoveToOutput, after r)) ∷ []
    else if says r (codes "mark") then (suc k, (openings.MoveToMark, after r)) ∷ []
    else []

-- the word to, where it stands first
abbrev pub one_to_count : List ℕ → ℕ
one_to_count r = if says r (codes "to") then 1 else 0

-- container or window, and to
abbrev pub to_count : List ℕ → ℕ
to_count r = if says r (codes "container") || says r (codes "window") then suc (one_to_count (after r)) else one_to_count r

abbrev pub move_ranked : List ℕ → Ranked
move_ranked r =
    if says r (codes "workspace")
    then (if says (past_one_to (after r)) (codes "output") then (suc (suc (one_to_count (after r))), (openings.MoveWorkspace, after (past_one_to (after r)))) ∷ (1, (openings.MoveToWorkspace, after r)) ∷ [] else move_to_ranked 0 r)
    else move_to_ranked (to_count r) (past_to r)

-- container, where it stands first, and with
abbrev pub with_count : List ℕ → ℕ
with_count r = if says r (codes "container") then 2 else 1

abbrev pub swap_with_ranked : ℕ → Option (List ℕ) → Ranked
swap_with_ranked k None = []
swap_with_ranked k (Some c) = if says c (codes "mark") then (suc k, (openings.SwapMark, after c)) ∷ [] else []

abbrev pub swap_ranked : List ℕ → Ranked
swap_ranked r = swap_with_ranked (with_count r) (past_with r)

abbrev pub mark_ranked : List ℕ → Ranked
mark_ranked r =
    if says r (codes "--add") then (if says (after r) (codes "--toggle") then (2, (openings.Mark true true, after (after r))) ∷ (1, (openings.Mark true false, after r)) ∷ (0, (openings.Mark false false, r)) ∷ [] else (1, (openings.Mark true false, after r)) ∷ (0, (openings.Mark false false, r)) ∷ [])
    else if says r (codes "--replace") then (if says (after r) (codes "--toggle") then (2, (openings.Mark false true, after (after r))) ∷ (1, (openings.Mark false false, after r)) ∷ (0, (openings.Mark false false, r)) ∷ [] else (1, (openings.Mark false false, after r)) ∷ (0, (openings.Mark false false, r)) ∷ [])
    else if says r (codes "--toggle") then (1, (openings.Mark false true, after r)) ∷ (0, (openings.Mark false false, r)) ∷ []
    else (0, (openings.Mark false false, r)) ∷ []

abbrev pub rename_ranked : List ℕ → Ranked
rename_ranked r =
    if says r (codes "workspace")
    then (if says (after r) (codes "to") then (2, (openings.RenameFocused, after (after r))) ∷ (1, (openings.RenameNamed, after r)) ∷ [] else (1, (openings.RenameNamed, after r)) ∷ [])
    else []

abbrev pub ranked : Verb → List ℕ → Ranked
ranked verbs.Split r = []
ranked verbs.Layout r = []
ranked verbs.Focus r = focus_ranked r
ranked verbs.Move r = move_ranked r
ranked verbs.Swap r = swap_ranked r
ranked verbs.Resize r = []
ranked verbs.Floating r = []
ranked verbs.Fullscreen r = []
ranked verbs.Border r = []
ranked verbs.Gaps r = []
ranked verbs.Sticky r = []
ranked verbs.Mark r = mark_ranked r
ranked verbs.Unmark r = (0, (openings.Unmark, r)) ∷ []
ranked verbs.Workspace r = targets_ranked 0 openings.WorkspaceNumbered openings.Workspace r
ranked verbs.Rename r = rename_ranked r
ranked verbs.Scratchpad r = []
ranked verbs.Mode r = (0, (openings.Mode, r)) ∷ []
ranked verbs.AppendLayout r = (0, (openings.AppendLayout, r)) ∷ []
ranked verbs.TitleFormat r = (0, (openings.TitleFormat, r)) ∷ []
ranked verbs.Kill r = []
ranked verbs.Nop r = (0, (openings.Nop, r)) ∷ []
ranked verbs.Idle r = (0, (openings.Idle, r)) ∷ []
ranked verbs.Exit r = []

-- ---- they are the ways of the reading

ways_if : (b : Bool) (x y : Ranked) (s t : Opened) → ways_of x ≡ s → ways_of y ≡ t → ways_of (if b then x else y) ≡ (if b then s else t)
ways_if true x y s t e f = e
ways_if false x y s t e f = f

ways_if_told : (b : Bool) (x y : Ranked) (s t : Opened) → (b ≡ true → ways_of x ≡ s) → ways_of y ≡ t → ways_of (if b then x else y) ≡ (if b then s else t)
ways_if_told true x y s t e f = e refl
ways_if_told false x y s t e f = f

targets_ways : (k : ℕ) (numbered named : Opening) (r : List ℕ) → ways_of (targets_ranked k numbered named r) ≡ targets_opened numbered named r
unfolding targets_opened
targets_ways k numbered named r = ways_if (says r (codes "number")) ((suc k, (numbered, after r)) ∷ (k, (named, r)) ∷ []) ((k, (named, r)) ∷ []) ((numbered, after r) ∷ (named, r) ∷ []) ((named, r) ∷ []) refl refl

move_to_ways : (k : ℕ) (r : List ℕ) → ways_of (move_to_ranked k r) ≡ move_to_opened r
unfolding move_to_opened
move_to_ways k r =
    ways_if (says r (codes "workspace")) _ _ _ _ (targets_ways (suc k) openings.MoveToNumbered openings.MoveToWorkspace (after r))
    (ways_if (says r (codes "output")) _ _ _ _ refl (ways_if (says r (codes "mark")) _ _ _ _ refl refl))

-- a word is one name at most
pub other_word : (w name other : List ℕ) → is_word w name ≡ true → is_text name other ≡ false → is_word w other ≡ false
other_word w name other e f = word_says w name other (word_told w name e) ∙ f

-- where output stands behind workspace, or behind workspace and to, there stands no number
no_number : (r : List ℕ) → says (past_one_to r) (codes "output") ≡ true → says r (codes "number") ≡ false
unfolding past_one_to is_text
no_number r h = by (says r (codes "to")) refl h
  where
    by : (b : Bool) → says r (codes "to") ≡ b → says (if b then after r else r) (codes "output") ≡ true → says r (codes "number") ≡ false
    by true e f = other_word (word r) (codes "to") (codes "number") e refl
    by false e f = other_word (word r) (codes "output") (codes "number") f refl

named_alone : (r : List ℕ) → says r (codes "workspace") ≡ true → says (after r) (codes "number") ≡ false → move_to_opened r ≡ (openings.MoveToWorkspace, after r) ∷ []
unfolding move_to_opened targets_opened
named_alone r e f = rw (e, f) refl

move_ways : (r : List ℕ) → ways_of (move_ranked r) ≡ move_opened r
unfolding move_opened
move_ways r =
    ways_if_told (says r (codes "workspace")) _ _ _ _
    (λ e. ways_if_told (says (past_one_to (after r)) (codes "output")) _ _ _ _
    (λ f. ap (λ (ws : Opened). (openings.MoveWorkspace, after (past_one_to (after r))) ∷ ws) (sym (named_alone r e (no_number (after r) f))))
    (move_to_ways 0 r))
    (move_to_ways (to_count r) (past_to r))

swap_with_ways : (k : ℕ) (o : Option (List ℕ)) → ways_of (swap_with_ranked k o) ≡ swap_with o
swap_with_ways k None = refl
swap_with_ways k (Some c) = ways_if (says c (codes "mark")) _ _ _ _ refl refl

mark_ways : (r : List ℕ) → ways_of (mark_ranked r) ≡ mark_opened r
unfolding mark_opened toggle_opened
mark_ways r = by (says r (codes "--add")) (says r (codes "--replace")) (says r (codes "--toggle")) (says (after r) (codes "--toggle"))
  where
    by : (a b c d : Bool) →
        ways_of (if a then (if d then (2, (openings.Mark true true, after (after r))) ∷ (1, (openings.Mark true false, after r)) ∷ (0, (openings.Mark false false, r)) ∷ [] else (1, (openings.Mark true false, after r)) ∷ (0, (openings.Mark false false, r)) ∷ []) else (if b then (if d then (2, (openings.Mark false true, after (after r))) ∷ (1, (openings.Mark false false, after r)) ∷ (0, (openings.Mark false false, r)) ∷ [] else (1, (openings.Mark false false, after r)) ∷ (0, (openings.Mark false false, r)) ∷ []) else (if c then (1, (openings.Mark false true, after r)) ∷ (0, (openings.Mark false false, r)) ∷ [] else (0, (openings.Mark false false, r)) ∷ [])))
        ≡ (if a then (if d then (openings.Mark true true, after (after r)) ∷ (openings.Mark true false, after r) ∷ [] else (openings.Mark true false, after r) ∷ []) ++ (openings.Mark false false, r) ∷ [] else (if b then (if d then (openings.Mark false true, after (after r)) ∷ (openings.Mark false false, after r) ∷ [] else (openings.Mark false false, after r) ∷ []) ++ (openings.Mark false false, r) ∷ [] else (if c then (openings.Mark false true, after r) ∷ (openings.Mark false false, r) ∷ [] else (openings.Mark false false, r) ∷ [])))
    by true b c true = refl
    by true b c false = refl
    by false true c true = refl
    by false true c false = refl
    by false false true d = refl
    by false false false d = refl

rename_ways : (r : List ℕ) → ways_of (rename_ranked r) ≡ rename_opened r
unfolding rename_opened
rename_ways r = ways_if (says r (codes "workspace")) _ _ _ _ (ways_if (says (after r) (codes "to")) _ _ _ _ refl refl) refl

focus_ways : (r : List ℕ) → ways_of (focus_ranked r) ≡ focus_opened r
unfolding focus_opened
focus_ways r = ways_if (says r (codes "output")) _ _ _ _ refl refl

pub all_ways : (v : Verb) (r : List ℕ) → ways_of (ranked v r) ≡ opened v r
unfolding opened swap_opened
all_ways verbs.Split r = refl
all_ways verbs.Layout r = refl
all_ways verbs.Focus r = focus_ways r
all_ways verbs.Move r = move_ways r
all_ways verbs.Swap r = swap_with_ways (with_count r) (past_with r)
all_ways verbs.Resize r = refl
all_ways verbs.Floating r = refl
all_ways verbs.Fullscreen r = refl
all_ways verbs.Border r = refl
all_ways verbs.Gaps r = refl
all_ways verbs.Sticky r = refl
all_ways verbs.Mark r = mark_ways r
all_ways verbs.Unmark r = refl
all_ways verbs.Workspace r = targets_ways 0 openings.WorkspaceNumbered openings.Workspace r
all_ways verbs.Rename r = rename_ways r
all_ways verbs.Scratchpad r = refl
all_ways verbs.Mode r = refl
all_ways verbs.AppendLayout r = refl
all_ways verbs.TitleFormat r = refl
all_ways verbs.Kill r = refl
all_ways verbs.Nop r = refl
all_ways verbs.Idle r = refl
all_ways verbs.Exit r = refl

-- ---- each has fewer keywords than those before it

abbrev pub Below : ℕ → Ranked → Type 0
Below k [] = Unit {0}
Below k (w ∷ ws) = (w.0 < k) × Below k ws

abbrev pub Falls : Ranked → Type 0
Falls [] = Unit {0}
Falls (w ∷ ws) = Below w.0 ws × Falls ws

falls_if : (b : Bool) (x y : Ranked) → Falls x → Falls y → Falls (if b then x else y)
falls_if true x y h k = h
falls_if false x y h k = k

targets_fall : (k : ℕ) (numbered named : Opening) (r : List ℕ) → Falls (targets_ranked k numbered named r)
targets_fall k numbered named r = falls_if (says r (codes "number")) ((suc k, (numbered, after r)) ∷ (k, (named, r)) ∷ []) ((k, (named, r)) ∷ []) ((omega arith, tt), (tt, tt)) (tt, tt)

move_to_fall : (k : ℕ) (r : List ℕ) → Falls (move_to_ranked k r)
move_to_fall k r = falls_if (says r (codes "workspace")) _ _ (targets_fall (suc k) openings.MoveToNumbered openings.MoveToWorkspace (after r)) (falls_if (says r (codes "output")) _ _ (tt, tt) (falls_if (says r (codes "mark")) _ _ (tt, tt) tt))

swap_fall : (k : ℕ) (o : Option (List ℕ)) → Falls (swap_with_ranked k o)
swap_fall k None = tt
swap_fall k (Some c) = falls_if (says c (codes "mark")) _ _ (tt, tt) tt

one_more : (n : ℕ) → 1 < suc (suc n)
one_more n = omega arith

three : (1 < 2) × (0 < 2)
three = (omega arith, omega arith)

pub all_fall : (v : Verb) (r : List ℕ) → Falls (ranked v r)
all_fall verbs.Split r = tt
all_fall verbs.Layout r = tt
all_fall verbs.Focus r = falls_if (says r (codes "output")) _ _ (tt, tt) tt
all_fall verbs.Move r = falls_if (says r (codes "workspace")) _ _ (falls_if (says (past_one_to (after r)) (codes "output")) _ _ ((one_more (one_to_count (after r)), tt), (tt, tt)) (move_to_fall 0 r)) (move_to_fall (to_count r) (past_to r))
all_fall verbs.Swap r = swap_fall (with_count r) (past_with r)
all_fall verbs.Resize r = tt
all_fall verbs.Floating r = tt
all_fall verbs.Fullscreen r = tt
all_fall verbs.Border r = tt
all_fall verbs.Gaps r = tt
all_fall verbs.Sticky r = tt
all_fall verbs.Mark r =
    falls_if (says r (codes "--add")) _ _ (falls_if (says (after r) (codes "--toggle")) _ _ ((three.0, (three.1, tt)), ((omega arith, tt), (tt, tt))) ((omega arith, tt), (tt, tt)))
    (falls_if (says r (codes "--replace")) _ _ (falls_if (says (after r) (codes "--toggle")) _ _ ((three.0, (three.1, tt)), ((omega arith, tt), (tt, tt))) ((omega arith, tt), (tt, tt)))
    (falls_if (says r (codes "--toggle")) _ _ ((omega arith, tt), (tt, tt)) (tt, tt)))
all_fall verbs.Unmark r = (tt, tt)
all_fall verbs.Workspace r = targets_fall 0 openings.WorkspaceNumbered openings.Workspace r
all_fall verbs.Rename r = falls_if (says r (codes "workspace")) _ _ (falls_if (says (after r) (codes "to")) _ _ ((omega arith, tt), (tt, tt)) (tt, tt)) tt
all_fall verbs.Scratchpad r = tt
all_fall verbs.Mode r = (tt, tt)
all_fall verbs.AppendLayout r = (tt, tt)
all_fall verbs.TitleFormat r = (tt, tt)
all_fall verbs.Kill r = tt
all_fall verbs.Nop r = (tt, tt)
all_fall verbs.Idle r = (tt, tt)
all_fall verbs.Exit r = tt
