-- Lines are run one after another, and the frame that they leave is drawn.
use Rattle.std.proofs.Common.{◌≡◌, ◌∙◌, refl, ap, sym, subst, ℕ, ◌+◌, ◌-◌, get_or, ◌≤◌, List, [], ◌∷◌, ◌++◌, Option, None, Some, length, take, drop}
use Rattle.wm_binds.specs.declared.config.Bind.{Bind}
use Rattle.wm_core.specs.DeskValue.{DeskValue, Stands}
use Rattle.wm_history.specs.History.{History, Start, opening_of}
use Rattle.wm_criteria.specs.Building.{Log}
use Rattle.wm_script.specs.Out.{after, after_effect, steps_of, texts_from, texts_run, told}
use Rattle.wm_script.specs.Refusals.{refusal_at}
use Rattle.wm_script.specs.declared.line.Line.{Line}
use Rattle.wm_script.specs.declared.refused.Refused.{Refused}
use Rattle.wm_tool.specs.Drawing.{drawn_from, picture}
use Rattle.wm_tool.specs.Running.{Draws, Holds, IsBackedBy, Leads, NotesLine, NotesSome}
use Rattle.wm_tool.proofs.LineLemmas.{line_longer, line_same, rest_is, steps_counted}
use Rattle.wm_tool.proofs.RunLemmas.{made, plays_step, stops_step}

-- what leads on leads on where it tells nothing
quiet : (old new : DeskValue) (step : History → History) (says : History → List ℕ) (before text : List ℕ) → Leads old new step says before text → Leads old new step (λ h. []) [] []
quiet old new step says before text leads = λ history stands. ((leads history stands).0, refl)

module _ (start : Start) (binds : List Bind) (desk : DeskValue) (before : List Refused) (whole : List Refused → List ℕ) (texts : List Refused → List (Option (List ℕ)))
    (first l1 l2 : Log) (g d : Line) (rest : List Line) (some : 1 ≤ length rest) (is : g ≡ get_or rest 0 d) (same : opening_of desk.plan ≡ start)
    (p : Draws desk before (drawn_from start binds rest) whole (texts_from start binds rest) texts first l1)
  where
    abbrev others : List Line
    others = take (length rest - 1) (drop 1 rest)

    first_line : Draws desk before (drawn_from start binds (g ∷ others)) whole (texts_from start binds (g ∷ others)) texts first l1
    first_line = subst (λ ls. Draws desk before (drawn_from start binds ls) whole (texts_from start binds ls) texts first l1) (rest_is g d rest some is) p

    pub stops_line : NotesSome (opening_of desk.plan) binds desk g before l1 l2 → IsBackedBy texts first l2
    stops_line notes =
        let n = subst (λ o. NotesSome o binds desk g before l1 l2) same notes first_line.runs.history first_line.runs.stands in
        let stops = stops_step (Some []) (Some []) desk before n.0 [] (after start binds g) (λ rs h. []) (drawn_from start binds (g ∷ others)) (drawn_from start binds others) whole
        (λ h. texts_run start binds h g.deed) (texts_from start binds (g ∷ others)) (texts_from start binds others) texts first l1 l2
        (line_longer start binds g) (λ rs h. refl) first_line n.1 in
        (stops.0, stops.1)

    pub draws_line : (refused : List Refused) (next : DeskValue) (piece text : List ℕ) → NotesLine (opening_of desk.plan) binds desk g before refused l1 l2
        → (refusal_at desk.steps before ≡ None → Leads desk next (after (opening_of desk.plan) binds g refused) (told (opening_of desk.plan) binds g refused) piece text)
        → next.steps ≡ desk.steps + steps_of g.deed → Draws next refused (drawn_from start binds others) whole (texts_from start binds others) texts first l2
    draws_line refused next piece text notes leads moved =
        let h = first_line.runs.history in
        plays_step (Some []) (Some []) desk before refused [] (after start binds g) (λ rs h. []) (drawn_from start binds (g ∷ others)) (drawn_from start binds others) whole
        (λ h. texts_run start binds h g.deed) (texts_from start binds (g ∷ others)) (texts_from start binds others) texts first l1 l2
        (line_longer start binds g) (λ rs h. refl) first_line (subst (λ o. NotesLine o binds desk g before refused l1 l2) same notes h first_line.runs.stands)
        next [] (λ rs h. refl)
        (λ rs more h rising. (ap (λ d. after_effect d h) (line_same start binds g rs more h rising), refl))
        (λ none. quiet desk next (after start binds g refused) (told start binds g refused) piece text
        (subst (λ o. Leads desk next (after o binds g refused) (told o binds g refused) piece text) same (leads none)))
        (moved ∙ ap (λ n. desk.steps + n) (sym (steps_counted start binds h g.deed)))

-- ---- the end

none_said : (said : List ℕ) → Holds (Some []) (Some []) said → said ≡ []
none_said [] e = refl
none_said (x ∷ said) e = cc

-- what was drawn is the whole
drawn_whole : (start : Start) (binds : List Bind) (desk : DeskValue) (refused : List Refused) (whole : List Refused → List ℕ) (ahead : List Refused → History → List (Option (List ℕ)))
    (texts : List Refused → List (Option (List ℕ))) (first log : Log)
    → (p : Draws desk refused (drawn_from start binds []) whole ahead texts first log) → picture start p.runs.history ≡ whole refused
drawn_whole start binds desk refused whole ahead texts first log p =
    ap (λ xs. xs ++ picture start p.runs.history) (sym (none_said p.runs.said p.runs.taken))
    ∙ made (Some []) (Some []) desk refused [] (drawn_from start binds []) whole p.runs

-- the picture of the desk's frame is what is drawn for the lines
pub drawn_is : (start : Start) (binds : List Bind) (lines : List Line) (desk : DeskValue) (refused : List Refused) (ahead : List Refused → History → List (Option (List ℕ)))
    (texts : List Refused → List (Option (List ℕ))) (first log : Log) (bytes : List ℕ) → start ≡ opening_of desk.plan
    → Draws desk refused (drawn_from start binds []) (λ rs. drawn_from start binds lines rs []) ahead texts first log → ((history : History) → Stands desk history → bytes ≡ picture (opening_of desk.plan) history)
    → bytes ≡ drawn_from start binds lines refused []
drawn_is start binds lines desk refused ahead texts first log bytes same p is =
    is p.runs.history p.runs.stands
    ∙ (ap (λ s. picture s p.runs.history) (sym same) ∙ drawn_whole start binds desk refused (λ rs. drawn_from start binds lines rs []) ahead texts first log p)
