-- Each way to read the keywords of a command, where its text fits, is one of the forms that have a free argument.
use Rattle.std.proofs.Common.{◌≡◌, ℕ, suc, ◌+◌, Bool, true, false, List, [], ◌∷◌, ◌++◌, Option, Some, None, refl, sym, ap, subst, ◌∙◌, append_assoc, arith, codes}
use Rattle.std.specs.Prelude.{if◌then◌else◌, ◌||◌}
use Rattle.std.proofs.lemmas.Bool.{or_parts}
use Rattle.wm_language.specs.declared.arguments.OutArg.TheVariants as outs
use Rattle.wm_language.specs.declared.arguments.Target.TheVariants as targets
use Rattle.wm_language.specs.declared.arguments.SwapArg.TheVariants as swaps
use Rattle.wm_language.specs.declared.command.Command.{Command}
use Rattle.wm_language.specs.declared.command.Command.TheVariants as commands
use Rattle.wm_words.specs.declared.verbs.Verb.{Verb}
use Rattle.wm_words.specs.declared.verbs.Verb.TheVariants as verbs
use Rattle.wm_grammar.specs.declared.opening.Opening.TheVariants as openings
use Rattle.wm_words.specs.Pieces.{◌>>=◌, is_blank, is_gap, until, from, has, skip, word, after, says, argument}
use Rattle.wm_words.specs.Forms.{past_one_to, past_to, past_with}
use Rattle.wm_grammar.specs.Openings.{text_at, made, word_at, past_keyword_to, renamed, renamed_to, finished}
use Rattle.wm_language.specs.Words.{IsArgument, in_small, IsText}
use Rattle.wm_words.proofs.Cuts.{AllSome}
use Rattle.wm_grammar.proofs.CutCommands.{bind_some, each_some}
use Rattle.wm_language.specs.Bytes.{IsSeparator, First, MayFollow}
use Rattle.wm_language.specs.Slots.{Slot, said, word as one_word, text, Filled, keywords, Optional, left_out, there}
use Rattle.wm_language.specs.Arguments.{To, to_alone, to_container, to_window}
use Rattle.wm_language.specs.ArgumentForms.{MoveToArgument, send_workspace, send_numbered, send_output, send_mark, Adding, add_nothing, add_there, replace_there, Toggling, toggle_nothing, toggle_there, ArgumentForm, focus_named, move_sent, workspace_moved, swap_mark, mark_named, unmark_named, workspace_named, workspace_numbered, rename_focused, rename_named, mode_named, layout_appended, title_set, nop_text, idle_text}
use Rattle.wm_language.specs.Spoken.{Forms}
use Rattle.wm_grammar.proofs.ByteLemmas.{word_told, skipped, until_clean, no_end_told}
use Rattle.wm_grammar.proofs.TextLemmas.{Unblanked, skip_unblanked, argument_told, TextTold, text_told}
use Rattle.wm_grammar.proofs.FoundLemmas.{Found, found_fill, found_more, found_told, text_way, word_way, anything_way, filled_last, some_text, text_first, word_first, WordTold, word_at_told, ToTold, past_to_told, name_gap, to_gap}
use Rattle.wm_grammar.proofs.RankedWays.{Way, Ranked, targets_ranked, focus_ranked, one_to_count, to_count, move_to_ranked, move_ranked, swap_with_ranked, swap_ranked, mark_ranked, rename_ranked, ranked}
use Rattle.wm_grammar.proofs.WindowTold.{IsVerb}

-- ---- the old name of a workspace, to, and the new one

first_clean : (t x : List ℕ) → has is_gap t ≡ false → in_small t ≡ codes "to" → First (λ c. IsSeparator c → ⊥) (t ++ x)
unfolding has
first_clean [] x h e = absurd cc
first_clean (c ∷ t) x h e = no_end_told c (or_parts (is_blank c) _ (or_parts (is_gap c) (has is_gap t) h).0).1

renamed_whole : (p b t d q g x : List ℕ) → (p ++ (b ++ (t ++ (d ++ (q ++ g))))) ++ x ≡ p ++ (b ++ (t ++ (d ++ (q ++ (g ++ x)))))
renamed_whole p b t d q g x =
    append_assoc p (b ++ (t ++ (d ++ (q ++ g)))) x
    ∙ ap (λ (u : List ℕ). p ++ u) (append_assoc b (t ++ (d ++ (q ++ g))) x
    ∙ ap (λ (u : List ℕ). b ++ u) (append_assoc t (d ++ (q ++ g)) x
    ∙ ap (λ (u : List ℕ). t ++ u) (append_assoc d (q ++ g) x
    ∙ ap (λ (u : List ℕ). d ++ u) (append_assoc q g x))))

renamed_found : (F : Forms) → ((was n : List ℕ) → F (one_word was ∷ said (codes "to") ∷ text n ∷ []) (commands.Rename (Some was) n)) → (r e : List ℕ) → MayFollow e → (was : List ℕ × List ℕ) → WordTold (r ++ e) was → (b : List ℕ) → ToTold (skip was.1) b → (name : List ℕ × List ℕ) → TextTold IsText b name → IsArgument was.0 → IsArgument name.0 → Found F r e (commands.Rename (Some was.0) name.0, name.1)
renamed_found F form r e l was w b t name k a c =
    let s = skipped was.1 in
    let to : List ℕ = until is_gap (skip was.1) in
    let last = filled_last (text name.0) k.piece k.blanks (c, k.is) k.blank in
    let second : Filled (said (codes "to") ∷ text name.0 ∷ []) (to ++ (t.blanks ++ (k.piece ++ k.blanks))) = record { piece = to; blanks = t.blanks; others = k.piece ++ k.blanks; whole = refl; fills = t.said; blank = t.blank; gap = to_gap to t.blanks k.piece (k.blanks ++ name.1) b t.stops t.kept (text_first name.0 k.piece k.is) k.whole (k.piece ++ k.blanks); more = last } in
    let first : First (λ c. IsSeparator c → ⊥) (skip was.1) = subst (λ (u : List ℕ). First (λ c. IsSeparator c → ⊥) u) (sym t.whole) (first_clean to (t.blanks ++ b) (until_clean is_gap (skip was.1)) t.said) in
    let all : Filled (one_word was.0 ∷ said (codes "to") ∷ text name.0 ∷ []) (w.piece ++ (s.blanks ++ (to ++ (t.blanks ++ (k.piece ++ k.blanks))))) = record { piece = w.piece; blanks = s.blanks; others = to ++ (t.blanks ++ (k.piece ++ k.blanks)); whole = refl; fills = (a, w.is); blank = s.blank; gap = name_gap w.piece s.blanks (skip was.1) was.1 s.whole w.closed (skip_unblanked was.1) first (to ++ (t.blanks ++ (k.piece ++ k.blanks))); more = second } in
    let one : skip was.1 ≡ to ++ (t.blanks ++ (k.piece ++ (k.blanks ++ name.1))) = t.whole ∙ ap (λ (u : List ℕ). to ++ (t.blanks ++ u)) k.whole in
    let two : was.1 ≡ s.blanks ++ (to ++ (t.blanks ++ (k.piece ++ (k.blanks ++ name.1)))) = s.whole ∙ ap (λ (u : List ℕ). s.blanks ++ u) one in
    record {
      some = some_text r e w.piece was.1 (word_first was.0 w.piece w.is) w.whole l;
      stands = record {
        slots = one_word was.0 ∷ said (codes "to") ∷ text name.0 ∷ [];
        spelled = w.piece ++ (s.blanks ++ (to ++ (t.blanks ++ (k.piece ++ k.blanks))));
        whole = w.whole ∙ (ap (λ (u : List ℕ). w.piece ++ u) two ∙ sym (renamed_whole w.piece s.blanks to t.blanks k.piece k.blanks name.1));
        ends = k.ends;
        form = form was.0 name.0;
        filled = all;
      };
    }

renamed_way : (F : Forms) → ((was n : List ℕ) → F (one_word was ∷ said (codes "to") ∷ text n ∷ []) (commands.Rename (Some was) n)) → (r e : List ℕ) → MayFollow e → AllSome (Found F r e) (renamed (r ++ e))
unfolding renamed
renamed_way F form r e l =
    let P : Command × List ℕ → Type 0 = Found F r e in
    bind_some (WordTold (r ++ e)) P (word_at (r ++ e)) (λ was. past_keyword_to (skip was.1) >>= λ behind. renamed_to was.0 behind) (word_at_told (r ++ e)) (λ was w.
    bind_some (ToTold (skip was.1)) P (past_keyword_to (skip was.1)) (λ behind. renamed_to was.0 behind) (past_to_told (skip was.1)) (λ b t.
    bind_some (TextTold IsText b) P (text_at false b) (λ name. argument was.0 >>= λ x. argument name.0 >>= λ y. Some (commands.Rename (Some x) y, name.1)) (text_told b t.kept) (λ name k.
    bind_some (λ x. (x ≡ was.0) × IsArgument x) P (argument was.0) (λ x. argument name.0 >>= λ y. Some (commands.Rename (Some x) y, name.1)) (argument_told was.0) (λ x a.
    bind_some (λ y. (y ≡ name.0) × IsArgument y) P (argument name.0) (λ y. Some (commands.Rename (Some x) y, name.1)) (argument_told name.0) (λ y c.
    let have : Found F r e (commands.Rename (Some was.0) name.0, name.1) = renamed_found F form r e l was w b t name k (subst IsArgument a.0 a.1) (subst IsArgument c.0 c.1) in
    subst (λ (m : List ℕ). P (commands.Rename (Some m) y, name.1)) (sym a.0) (subst (λ (m : List ℕ). P (commands.Rename (Some was.0) m, name.1)) (sym c.0) have))))))

-- ---- behind the verb

-- a form that has a free argument, with so many keywords behind the verb
abbrev pub BehindArgument : Verb → ℕ → Forms
BehindArgument v k slots c = ((n : List ℕ) → IsVerb v n → ArgumentForm (said n ∷ slots) c) × (keywords slots ≡ k)

-- a way whose text fits is such a form
abbrev pub WayTold : Verb → List ℕ → List ℕ → Way → Type 0
WayTold v r e w = AllSome (Found (BehindArgument v w.0) r e) (finished w.1.0 (w.1.1 ++ e))

abbrev pub EachWay : (Way → Type 0) → Ranked → Type 0
EachWay P [] = Unit {0}
EachWay P (w ∷ ws) = P w × EachWay P ws

ways_if : (P : Way → Type 0) (b : Bool) (x y : Ranked) → (b ≡ true → EachWay P x) → (b ≡ false → EachWay P y) → EachWay P (if b then x else y)
ways_if P true x y h k = h refl
ways_if P false x y h k = k refl

at_name : (name n : List ℕ) (slots : List Slot) (c : Command) → n ≡ name → ArgumentForm (said name ∷ slots) c → ArgumentForm (said n ∷ slots) c
at_name name n slots c e f = subst (λ (m : List ℕ). ArgumentForm (said m ∷ slots) c) (sym e) f

after_unblanked : (r : List ℕ) → Unblanked (after r)
after_unblanked r = skip_unblanked (from is_blank r)

said_way : (F : Forms) (name r e : List ℕ) (o : Option (Command × List ℕ)) → says r name ≡ true → AllSome (Found (λ slots c. F (said name ∷ slots) c) (after r) e) o → AllSome (Found F r e) o
said_way F name r e o h k = found_told F (said name) r e o (word_told (word r) name h) k

focus_ways : (r e : List ℕ) → MayFollow e → EachWay (WayTold verbs.Focus r e) (focus_ranked r)
unfolding finished made
focus_ways r e l = ways_if (WayTold verbs.Focus r e) (says r (codes "output")) ((1, (openings.FocusOutput, after r)) ∷ []) []
    (λ h. (said_way (BehindArgument verbs.Focus 1) (codes "output") r e (finished openings.FocusOutput (after r ++ e)) h (word_way (λ slots c. BehindArgument verbs.Focus 1 (said (codes "output") ∷ slots) c) (λ n. commands.FocusOutput (outs.Named n)) (λ x. (λ n q. at_name (codes "focus") n (said (codes "output") ∷ one_word x ∷ []) (commands.FocusOutput (outs.Named x)) q (focus_named x), refl)) (after r) e l), tt))
    (λ h. tt)

workspace_ways : (r e : List ℕ) → Unblanked r → MayFollow e → EachWay (WayTold verbs.Workspace r e) (targets_ranked 0 openings.WorkspaceNumbered openings.Workspace r)
unfolding finished made
workspace_ways r e u l =
    let named : WayTold verbs.Workspace r e (0, (openings.Workspace, r)) = text_way (BehindArgument verbs.Workspace 0) (λ n. commands.Workspace (targets.Named n)) (λ x. (λ n q. at_name (codes "workspace") n (text x ∷ []) (commands.Workspace (targets.Named x)) q (workspace_named x), refl)) r e u l in
    ways_if (WayTold verbs.Workspace r e) (says r (codes "number")) ((1, (openings.WorkspaceNumbered, after r)) ∷ (0, (openings.Workspace, r)) ∷ []) ((0, (openings.Workspace, r)) ∷ [])
    (λ h. (said_way (BehindArgument verbs.Workspace 1) (codes "number") r e (finished openings.WorkspaceNumbered (after r ++ e)) h (text_way (λ slots c. BehindArgument verbs.Workspace 1 (said (codes "number") ∷ slots) c) (λ n. commands.Workspace (targets.Number n)) (λ x. (λ n q. at_name (codes "workspace") n (said (codes "number") ∷ text x ∷ []) (commands.Workspace (targets.Number x)) q (workspace_numbered x), refl)) (after r) e (after_unblanked r) l), (named, tt)))
    (λ h. (named, tt))

-- ---- move

-- behind TO, where so many keywords stand there
abbrev Sent : ℕ → ℕ → Forms
Sent m k slots c = MoveToArgument slots c × (keywords slots + m ≡ k)

abbrev SentTold : ℕ → List ℕ → List ℕ → Way → Type 0
SentTold m r e w = AllSome (Found (Sent m w.0) r e) (finished w.1.0 (w.1.1 ++ e))

sent_ways : (m : ℕ) (r e : List ℕ) → MayFollow e → EachWay (SentTold m r e) (move_to_ranked m r)
unfolding finished made
sent_ways m r e l =
    let named : says r (codes "workspace") ≡ true → SentTold m r e (suc m, (openings.MoveToWorkspace, after r)) = λ h. said_way (Sent m (suc m)) (codes "workspace") r e (finished openings.MoveToWorkspace (after r ++ e)) h (text_way (λ slots c. Sent m (suc m) (said (codes "workspace") ∷ slots) c) (λ n. commands.MoveToWorkspace (targets.Named n)) (λ x. (send_workspace x, omega arith)) (after r) e (after_unblanked r) l) in
    ways_if (SentTold m r e) (says r (codes "workspace")) (targets_ranked (suc m) openings.MoveToNumbered openings.MoveToWorkspace (after r)) (if says r (codes "output") then (suc m, (openings.MoveToOutput, after r)) ∷ [] else (if says r (codes "mark") then (suc m, (openings.MoveToMark, after r)) ∷ [] else []))
    (λ h. ways_if (SentTold m r e) (says (after r) (codes "number")) ((suc (suc m), (openings.MoveToNumbered, after (after r))) ∷ (suc m, (openings.MoveToWorkspace, after r)) ∷ []) ((suc m, (openings.MoveToWorkspace, after r)) ∷ [])
    (λ k. (said_way (Sent m (suc (suc m))) (codes "workspace") r e (finished openings.MoveToNumbered (after (after r) ++ e)) h (said_way (λ slots c. Sent m (suc (suc m)) (said (codes "workspace") ∷ slots) c) (codes "number") (after r) e (finished openings.MoveToNumbered (after (after r) ++ e)) k (text_way (λ slots c. Sent m (suc (suc m)) (said (codes "workspace") ∷ said (codes "number") ∷ slots) c) (λ n. commands.MoveToWorkspace (targets.Number n)) (λ x. (send_numbered x, omega arith)) (after (after r)) e (after_unblanked (after r)) l)), (named h, tt)))
    (λ k. (named h, tt)))
    (λ h. ways_if (SentTold m r e) (says r (codes "output")) ((suc m, (openings.MoveToOutput, after r)) ∷ []) (if says r (codes "mark") then (suc m, (openings.MoveToMark, after r)) ∷ [] else [])
    (λ k. (said_way (Sent m (suc m)) (codes "output") r e (finished openings.MoveToOutput (after r ++ e)) k (word_way (λ slots c. Sent m (suc m) (said (codes "output") ∷ slots) c) (λ n. commands.MoveToOutput (outs.Named n)) (λ x. (send_output x, omega arith)) (after r) e l), tt))
    (λ k. ways_if (SentTold m r e) (says r (codes "mark")) ((suc m, (openings.MoveToMark, after r)) ∷ []) []
    (λ g. (said_way (Sent m (suc m)) (codes "mark") r e (finished openings.MoveToMark (after r ++ e)) g (text_way (λ slots c. Sent m (suc m) (said (codes "mark") ∷ slots) c) (λ n. commands.MoveToMark n) (λ x. (send_mark x, omega arith)) (after r) e (after_unblanked r) l), tt))
    (λ g. tt)))

each_way : (P Q : Way → Type 0) → ((w : Way) → P w → Q w) → (ws : Ranked) → EachWay P ws → EachWay Q ws
each_way P Q f [] h = tt
each_way P Q f (w ∷ ws) h = (f w h.0, each_way P Q f ws h.1)

lifted : (to : List Slot) → To to → (m k : ℕ) (slots : List Slot) (c : Command) → keywords (to ++ slots) ≡ keywords slots + m → Sent m k slots c → BehindArgument verbs.Move k (to ++ slots) c
lifted to t m k slots c e s = (λ n q. at_name (codes "move") n (to ++ slots) c q (move_sent t s.0), e ∙ s.1)

-- what stands behind TO, with TO before it
to_found : (r e : List ℕ) (k : ℕ) (x : Command × List ℕ) → Found (Sent (to_count r) k) (past_to r) e x → Found (BehindArgument verbs.Move k) r e x
unfolding past_to
to_found r e k x f = by (says r (codes "container")) (says r (codes "window")) refl refl f
  where
    F : Forms
    F = BehindArgument verbs.Move k

    behind_word : (name : List ℕ) → To (said name ∷ []) → To (said name ∷ said (codes "to") ∷ []) → says r name ≡ true → (d : Bool) → says (after r) (codes "to") ≡ d → Found (Sent (suc (if d then 1 else 0)) k) (if d then after (after r) else after r) e x → Found F r e x
    behind_word name one two h true g f = found_fill F (said name) r e x (word_told (word r) name h) (found_fill (λ slots c. F (said name ∷ slots) c) (said (codes "to")) (after r) e x (word_told (word (after r)) (codes "to") g)
        (found_more (Sent 2 k) (λ slots c. F (said name ∷ said (codes "to") ∷ slots) c) (after (after r)) e x (λ slots c s. lifted (said name ∷ said (codes "to") ∷ []) two 2 k slots c (omega arith) s) f))
    behind_word name one two h false g f = found_fill F (said name) r e x (word_told (word r) name h) (found_more (Sent 1 k) (λ slots c. F (said name ∷ slots) c) (after r) e x (λ slots c s. lifted (said name ∷ []) one 1 k slots c (omega arith) s) f)

    alone : (d : Bool) → says r (codes "to") ≡ d → Found (Sent (if d then 1 else 0) k) (if d then after r else r) e x → Found F r e x
    alone true g f = found_fill F (said (codes "to")) r e x (word_told (word r) (codes "to") g) (found_more (Sent 1 k) (λ slots c. F (said (codes "to") ∷ slots) c) (after r) e x (λ slots c s. lifted (said (codes "to") ∷ []) (to_alone there) 1 k slots c (omega arith) s) f)
    alone false g f = found_more (Sent 0 k) F r e x (λ slots c s. lifted [] (to_alone left_out) 0 k slots c (omega arith) s) f

    by : (a b : Bool) → says r (codes "container") ≡ a → says r (codes "window") ≡ b → Found (Sent (if a || b then suc (one_to_count (after r)) else one_to_count r) k) (if says (if a || b then after r else r) (codes "to") then after (if a || b then after r else r) else (if a || b then after r else r)) e x → Found F r e x
    by true b h g f = behind_word (codes "container") (to_container left_out) (to_container there) h (says (after r) (codes "to")) refl f
    by false true h g f = behind_word (codes "window") (to_window left_out) (to_window there) g (says (after r) (codes "to")) refl f
    by false false h g f = alone (says r (codes "to")) refl f

-- the same with no TO at all
here_found : (r e : List ℕ) (k : ℕ) (x : Command × List ℕ) → Found (Sent 0 k) r e x → Found (BehindArgument verbs.Move k) r e x
here_found r e k x f = found_more (Sent 0 k) (BehindArgument verbs.Move k) r e x (λ slots c s. lifted [] (to_alone left_out) 0 k slots c (omega arith) s) f

here_told : (r e : List ℕ) (w : Way) → SentTold 0 r e w → WayTold verbs.Move r e w
here_told r e w h = each_some (Found (Sent 0 w.0) r e) (Found (BehindArgument verbs.Move w.0) r e) (finished w.1.0 (w.1.1 ++ e)) h (λ x f. here_found r e w.0 x f)

to_told : (r e : List ℕ) (w : Way) → SentTold (to_count r) (past_to r) e w → WayTold verbs.Move r e w
to_told r e w h = each_some (Found (Sent (to_count r) w.0) (past_to r) e) (Found (BehindArgument verbs.Move w.0) r e) (finished w.1.0 (w.1.1 ++ e)) h (λ x f. to_found r e w.0 x f)

-- workspace to output and a name
moved_form : (to : List Slot) (x n : List ℕ) → Optional (codes "to") to → n ≡ codes "move" → ArgumentForm (said n ∷ said (codes "workspace") ∷ (to ++ said (codes "output") ∷ one_word x ∷ [])) (commands.MoveWorkspace (outs.Named x))
moved_form to x n o q = at_name (codes "move") n (said (codes "workspace") ∷ (to ++ said (codes "output") ∷ one_word x ∷ [])) (commands.MoveWorkspace (outs.Named x)) q (workspace_moved x o)

moved_told : (r e : List ℕ) → MayFollow e → says r (codes "workspace") ≡ true → says (past_one_to (after r)) (codes "output") ≡ true → WayTold verbs.Move r e (suc (suc (one_to_count (after r))), (openings.MoveWorkspace, after (past_one_to (after r))))
unfolding finished made past_one_to
moved_told r e l h k = by (says (after r) (codes "to")) refl k
  where
    by : (d : Bool) → says (after r) (codes "to") ≡ d → says (if d then after (after r) else after r) (codes "output") ≡ true → AllSome (Found (BehindArgument verbs.Move (suc (suc (if d then 1 else 0)))) r e) (finished openings.MoveWorkspace (after (if d then after (after r) else after r) ++ e))
    by true g k =
        let F : Forms = BehindArgument verbs.Move 3 in
        let way : Option (Command × List ℕ) = finished openings.MoveWorkspace (after (after (after r)) ++ e) in
        said_way F (codes "workspace") r e way h (said_way (λ slots c. F (said (codes "workspace") ∷ slots) c) (codes "to") (after r) e way g (said_way (λ slots c. F (said (codes "workspace") ∷ said (codes "to") ∷ slots) c) (codes "output") (after (after r)) e way k
        (word_way (λ slots c. F (said (codes "workspace") ∷ said (codes "to") ∷ said (codes "output") ∷ slots) c) (λ n. commands.MoveWorkspace (outs.Named n)) (λ x. (λ n q. moved_form (said (codes "to") ∷ []) x n there q, refl)) (after (after (after r))) e l)))
    by false g k =
        let F : Forms = BehindArgument verbs.Move 2 in
        let way : Option (Command × List ℕ) = finished openings.MoveWorkspace (after (after r) ++ e) in
        said_way F (codes "workspace") r e way h (said_way (λ slots c. F (said (codes "workspace") ∷ slots) c) (codes "output") (after r) e way k
        (word_way (λ slots c. F (said (codes "workspace") ∷ said (codes "output") ∷ slots) c) (λ n. commands.MoveWorkspace (outs.Named n)) (λ x. (λ n q. moved_form [] x n left_out q, refl)) (after (after r)) e l))

named_told : (r e : List ℕ) → MayFollow e → says r (codes "workspace") ≡ true → WayTold verbs.Move r e (1, (openings.MoveToWorkspace, after r))
unfolding finished made
named_told r e l h = here_told r e (1, (openings.MoveToWorkspace, after r)) (said_way (Sent 0 1) (codes "workspace") r e (finished openings.MoveToWorkspace (after r ++ e)) h (text_way (λ slots c. Sent 0 1 (said (codes "workspace") ∷ slots) c) (λ n. commands.MoveToWorkspace (targets.Named n)) (λ x. (send_workspace x, refl)) (after r) e (after_unblanked r) l))

move_ways : (r e : List ℕ) → MayFollow e → EachWay (WayTold verbs.Move r e) (move_ranked r)
move_ways r e l = ways_if (WayTold verbs.Move r e) (says r (codes "workspace")) (if says (past_one_to (after r)) (codes "output") then (suc (suc (one_to_count (after r))), (openings.MoveWorkspace, after (past_one_to (after r)))) ∷ (1, (openings.MoveToWorkspace, after r)) ∷ [] else move_to_ranked 0 r) (move_to_ranked (to_count r) (past_to r))
    (λ h. ways_if (WayTold verbs.Move r e) (says (past_one_to (after r)) (codes "output")) ((suc (suc (one_to_count (after r))), (openings.MoveWorkspace, after (past_one_to (after r)))) ∷ (1, (openings.MoveToWorkspace, after r)) ∷ []) (move_to_ranked 0 r)
    (λ k. (moved_told r e l h k, (named_told r e l h, tt)))
    (λ k. each_way (SentTold 0 r e) (WayTold verbs.Move r e) (here_told r e) (move_to_ranked 0 r) (sent_ways 0 r e l)))
    (λ h. each_way (SentTold (to_count r) (past_to r) e) (WayTold verbs.Move r e) (to_told r e) (move_to_ranked (to_count r) (past_to r)) (sent_ways (to_count r) (past_to r) e l))

-- ---- swap

swap_form : (front : List Slot) (x n : List ℕ) → Optional (codes "container") front → n ≡ codes "swap" → ArgumentForm (said n ∷ (front ++ said (codes "with") ∷ said (codes "mark") ∷ text x ∷ [])) (commands.Swap (swaps.Mark x))
swap_form front x n o q = at_name (codes "swap") n (front ++ said (codes "with") ∷ said (codes "mark") ∷ text x ∷ []) (commands.Swap (swaps.Mark x)) q (swap_mark x o)

swap_ways : (r e : List ℕ) → MayFollow e → EachWay (WayTold verbs.Swap r e) (swap_ranked r)
unfolding finished made past_with
swap_ways r e l = by (says r (codes "container")) refl
  where
    by : (b : Bool) → says r (codes "container") ≡ b → EachWay (WayTold verbs.Swap r e) (swap_with_ranked (if b then 2 else 1) (if says (if b then after r else r) (codes "with") then Some (after (if b then after r else r)) else None))
    by true h = with (says (after r) (codes "with")) refl
      where
        F : Forms
        F = BehindArgument verbs.Swap 3

        with : (d : Bool) → says (after r) (codes "with") ≡ d → EachWay (WayTold verbs.Swap r e) (swap_with_ranked 2 (if d then Some (after (after r)) else None))
        with false g = tt
        with true g = ways_if (WayTold verbs.Swap r e) (says (after (after r)) (codes "mark")) ((3, (openings.SwapMark, after (after (after r)))) ∷ []) []
            (λ k. (
              said_way F (codes "container") r e (finished openings.SwapMark (after (after (after r)) ++ e)) h (said_way (λ slots c. F (said (codes "container") ∷ slots) c) (codes "with") (after r) e (finished openings.SwapMark (after (after (after r)) ++ e)) g (said_way (λ slots c. F (said (codes "container") ∷ said (codes "with") ∷ slots) c) (codes "mark") (after (after r)) e (finished openings.SwapMark (after (after (after r)) ++ e)) k
                  (text_way (λ slots c. F (said (codes "container") ∷ said (codes "with") ∷ said (codes "mark") ∷ slots) c) (λ n. commands.Swap (swaps.Mark n)) (λ x. (λ n q. swap_form (said (codes "container") ∷ []) x n there q, refl)) (after (after (after r))) e (after_unblanked (after (after r))) l))),
              tt,
            ))
            (λ k. tt)
    by false h = with (says r (codes "with")) refl
      where
        F : Forms
        F = BehindArgument verbs.Swap 2

        with : (d : Bool) → says r (codes "with") ≡ d → EachWay (WayTold verbs.Swap r e) (swap_with_ranked 1 (if d then Some (after r) else None))
        with false g = tt
        with true g = ways_if (WayTold verbs.Swap r e) (says (after r) (codes "mark")) ((2, (openings.SwapMark, after (after r))) ∷ []) []
            (λ k. (
              said_way F (codes "with") r e (finished openings.SwapMark (after (after r) ++ e)) g (said_way (λ slots c. F (said (codes "with") ∷ slots) c) (codes "mark") (after r) e (finished openings.SwapMark (after (after r) ++ e)) k
                  (text_way (λ slots c. F (said (codes "with") ∷ said (codes "mark") ∷ slots) c) (λ n. commands.Swap (swaps.Mark n)) (λ x. (λ n q. swap_form [] x n left_out q, refl)) (after (after r)) e (after_unblanked (after r)) l)),
              tt,
            ))
            (λ k. tt)

-- ---- mark

mark_form : (how flag : List Slot) (add toggle : Bool) (x n : List ℕ) → Adding how add → Toggling flag toggle → n ≡ codes "mark" → ArgumentForm (said n ∷ (how ++ (flag ++ text x ∷ []))) (commands.Mark add toggle x)
mark_form how flag add toggle x n a t q = at_name (codes "mark") n (how ++ (flag ++ text x ∷ [])) (commands.Mark add toggle x) q (mark_named x a t)

mark_alone : (r e : List ℕ) → Unblanked r → MayFollow e → WayTold verbs.Mark r e (0, (openings.Mark false false, r))
unfolding finished made
mark_alone r e u l = text_way (BehindArgument verbs.Mark 0) (λ n. commands.Mark false false n) (λ x. (λ n q. mark_form [] [] false false x n add_nothing toggle_nothing q, refl)) r e u l

mark_toggle : (r e : List ℕ) → MayFollow e → says r (codes "--toggle") ≡ true → WayTold verbs.Mark r e (1, (openings.Mark false true, after r))
unfolding finished made
mark_toggle r e l h =
    let F : Forms = BehindArgument verbs.Mark 1 in
    said_way F (codes "--toggle") r e (finished (openings.Mark false true) (after r ++ e)) h (text_way (λ slots c. F (said (codes "--toggle") ∷ slots) c) (λ n. commands.Mark false true n) (λ x. (λ n q. mark_form [] (said (codes "--toggle") ∷ []) false true x n add_nothing toggle_there q, refl)) (after r) e (after_unblanked r) l)

mark_how : (name r e : List ℕ) (add : Bool) → Adding (said name ∷ []) add → MayFollow e → says r name ≡ true → WayTold verbs.Mark r e (1, (openings.Mark add false, after r))
unfolding finished made
mark_how name r e add a l h =
    let F : Forms = BehindArgument verbs.Mark 1 in
    said_way F name r e (finished (openings.Mark add false) (after r ++ e)) h (text_way (λ slots c. F (said name ∷ slots) c) (λ n. commands.Mark add false n) (λ x. (λ n q. mark_form (said name ∷ []) [] add false x n a toggle_nothing q, refl)) (after r) e (after_unblanked r) l)

mark_both : (name r e : List ℕ) (add : Bool) → Adding (said name ∷ []) add → MayFollow e → says r name ≡ true → says (after r) (codes "--toggle") ≡ true → WayTold verbs.Mark r e (2, (openings.Mark add true, after (after r)))
unfolding finished made
mark_both name r e add a l h k =
    let F : Forms = BehindArgument verbs.Mark 2 in
    let way : Option (Command × List ℕ) = finished (openings.Mark add true) (after (after r) ++ e) in
    said_way F name r e way h (said_way (λ slots c. F (said name ∷ slots) c) (codes "--toggle") (after r) e way k (text_way (λ slots c. F (said name ∷ said (codes "--toggle") ∷ slots) c) (λ n. commands.Mark add true n) (λ x. (λ n q. mark_form (said name ∷ []) (said (codes "--toggle") ∷ []) add true x n a toggle_there q, refl)) (after (after r)) e (after_unblanked (after r)) l))

how_ways : (name r e : List ℕ) (add : Bool) → Adding (said name ∷ []) add → Unblanked r → MayFollow e → says r name ≡ true → EachWay (WayTold verbs.Mark r e) (if says (after r) (codes "--toggle") then (2, (openings.Mark add true, after (after r))) ∷ (1, (openings.Mark add false, after r)) ∷ (0, (openings.Mark false false, r)) ∷ [] else (1, (openings.Mark add false, after r)) ∷ (0, (openings.Mark false false, r)) ∷ [])
how_ways name r e add a u l h = ways_if (WayTold verbs.Mark r e) (says (after r) (codes "--toggle")) _ _
    (λ k. (mark_both name r e add a l h k, (mark_how name r e add a l h, (mark_alone r e u l, tt))))
    (λ k. (mark_how name r e add a l h, (mark_alone r e u l, tt)))

mark_ways : (r e : List ℕ) → Unblanked r → MayFollow e → EachWay (WayTold verbs.Mark r e) (mark_ranked r)
mark_ways r e u l = ways_if (WayTold verbs.Mark r e) (says r (codes "--add")) _ _
    (λ h. how_ways (codes "--add") r e true add_there u l h)
    (λ h. ways_if (WayTold verbs.Mark r e) (says r (codes "--replace")) _ _
    (λ k. how_ways (codes "--replace") r e false replace_there u l k)
    (λ k. ways_if (WayTold verbs.Mark r e) (says r (codes "--toggle")) _ _
    (λ g. (mark_toggle r e l g, (mark_alone r e u l, tt)))
    (λ g. (mark_alone r e u l, tt))))

-- ---- rename

rename_ways : (r e : List ℕ) → MayFollow e → EachWay (WayTold verbs.Rename r e) (rename_ranked r)
unfolding finished made
rename_ways r e l =
    let named : says r (codes "workspace") ≡ true → WayTold verbs.Rename r e (1, (openings.RenameNamed, after r)) = λ h. said_way (BehindArgument verbs.Rename 1) (codes "workspace") r e (renamed (after r ++ e)) h (renamed_way (λ slots c. BehindArgument verbs.Rename 1 (said (codes "workspace") ∷ slots) c) (λ was x. (λ n q. at_name (codes "rename") n (said (codes "workspace") ∷ one_word was ∷ said (codes "to") ∷ text x ∷ []) (commands.Rename (Some was) x) q (rename_named was x), refl)) (after r) e l) in
    ways_if (WayTold verbs.Rename r e) (says r (codes "workspace")) (if says (after r) (codes "to") then (2, (openings.RenameFocused, after (after r))) ∷ (1, (openings.RenameNamed, after r)) ∷ [] else (1, (openings.RenameNamed, after r)) ∷ []) []
    (λ h. ways_if (WayTold verbs.Rename r e) (says (after r) (codes "to")) ((2, (openings.RenameFocused, after (after r))) ∷ (1, (openings.RenameNamed, after r)) ∷ []) ((1, (openings.RenameNamed, after r)) ∷ [])
    (λ k. (said_way (BehindArgument verbs.Rename 2) (codes "workspace") r e (finished openings.RenameFocused (after (after r) ++ e)) h (said_way (λ slots c. BehindArgument verbs.Rename 2 (said (codes "workspace") ∷ slots) c) (codes "to") (after r) e (finished openings.RenameFocused (after (after r) ++ e)) k (text_way (λ slots c. BehindArgument verbs.Rename 2 (said (codes "workspace") ∷ said (codes "to") ∷ slots) c) (λ n. commands.Rename None n) (λ x. (λ n q. at_name (codes "rename") n (said (codes "workspace") ∷ said (codes "to") ∷ text x ∷ []) (commands.Rename None x) q (rename_focused x), refl)) (after (after r)) e (after_unblanked (after r)) l)), (named h, tt)))
    (λ k. (named h, tt)))
    (λ h. tt)

-- ---- all verbs

pub all_told : (v : Verb) (r e : List ℕ) → Unblanked r → MayFollow e → EachWay (WayTold v r e) (ranked v r)
unfolding finished made
all_told verbs.Split r e u l = tt
all_told verbs.Layout r e u l = tt
all_told verbs.Focus r e u l = focus_ways r e l
all_told verbs.Move r e u l = move_ways r e l
all_told verbs.Swap r e u l = swap_ways r e l
all_told verbs.Resize r e u l = tt
all_told verbs.Floating r e u l = tt
all_told verbs.Fullscreen r e u l = tt
all_told verbs.Border r e u l = tt
all_told verbs.Gaps r e u l = tt
all_told verbs.Sticky r e u l = tt
all_told verbs.Mark r e u l = mark_ways r e u l
all_told verbs.Unmark r e u l = (text_way (BehindArgument verbs.Unmark 0) (λ n. commands.Unmark (Some n)) (λ x. (λ n q. at_name (codes "unmark") n (text x ∷ []) (commands.Unmark (Some x)) q (unmark_named x), refl)) r e u l, tt)
all_told verbs.Workspace r e u l = workspace_ways r e u l
all_told verbs.Rename r e u l = rename_ways r e l
all_told verbs.Scratchpad r e u l = tt
all_told verbs.Mode r e u l = (text_way (BehindArgument verbs.Mode 0) (λ n. commands.Mode n) (λ x. (λ n q. at_name (codes "mode") n (text x ∷ []) (commands.Mode x) q (mode_named x), refl)) r e u l, tt)
all_told verbs.AppendLayout r e u l = (text_way (BehindArgument verbs.AppendLayout 0) (λ n. commands.AppendLayout n) (λ x. (λ n q. at_name (codes "append_layout") n (text x ∷ []) (commands.AppendLayout x) q (layout_appended x), refl)) r e u l, tt)
all_told verbs.TitleFormat r e u l = (text_way (BehindArgument verbs.TitleFormat 0) (λ n. commands.TitleFormat n) (λ x. (λ n q. at_name (codes "title_format") n (text x ∷ []) (commands.TitleFormat x) q (title_set x), refl)) r e u l, tt)
all_told verbs.Kill r e u l = tt
all_told verbs.Nop r e u l = (text_way (BehindArgument verbs.Nop 0) (λ n. commands.Nop) (λ x. (λ n q. at_name (codes "nop") n (text x ∷ []) commands.Nop q (nop_text x), refl)) r e u l, tt)
all_told verbs.Idle r e u l = (anything_way (BehindArgument verbs.Idle 0) commands.Idle ((λ n q. idle_text q), refl) r e u l, tt)
all_told verbs.Exit r e u l = tt
