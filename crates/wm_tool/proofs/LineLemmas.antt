-- One line of a script is played: what it adds to the history, and what it tells.
use Rattle.std.proofs.Common.{◌≡◌, ◌∙◌, refl, ap, sym, subst, ℕ, suc, ◌+◌, ◌-◌, get_or, ◌<◌, ◌≤◌, List, [], ◌∷◌, ◌++◌, Option, None, length, take, drop, arith}
use Rattle.std.proofs.lemmas.List.{take_all}
use Rattle.std.specs.List.{AllByRecursion}
use Rattle.wm_binds.specs.declared.config.Bind.{Bind}
use Rattle.wm_core.specs.DeskValue.{DeskValue, Stands}
use Rattle.wm_history.specs.History.{History, Start, opening_of}
use Rattle.wm_criteria.specs.Building.{Log}
use Rattle.wm_script.specs.Out.{after, after_effect, effect_of, effect_text, effect_with, out_from, steps_of, texts_from, texts_run, told}
use Rattle.wm_script.specs.Playing.{TellsLine}
use Rattle.wm_script.specs.Refusals.{IsRising, refusal_at}
use Rattle.wm_script.specs.declared.line.Deed.{Deed}
use Rattle.wm_script.specs.declared.line.Deed.TheVariants as deed
use Rattle.wm_script.specs.declared.line.Line.{Line}
use Rattle.wm_script.specs.declared.refused.Refused.{Refused}
use Rattle.wm_tool.specs.Running.{Leads, NotesLine, NotesSome, Plays, Stops, noted_at}
use Rattle.wm_tool.proofs.RefusalLemmas.{noted_is, refusal_same}
use Rattle.wm_tool.proofs.RunLemmas.{plays_step, stops_step}

-- ---- one line

-- it has as many texts as steps
pub steps_counted : (start : Start) (binds : List Bind) (h : History) (d : Deed) → length (texts_run start binds h d) ≡ steps_of d
steps_counted start binds h (deed.Run text) = refl
steps_counted start binds h (deed.Do s) = refl
steps_counted start binds h (deed.Key chord) = refl
steps_counted start binds h deed.Paint = refl
steps_counted start binds h (deed.Look q) = refl

pub one_step : (d : Deed) → steps_of d ≤ 1
one_step (deed.Run text) = omega arith
one_step (deed.Do s) = omega arith
one_step (deed.Key chord) = omega arith
one_step deed.Paint = omega arith
one_step (deed.Look q) = omega arith

deed_longer : (start : Start) (binds : List Bind) (who : ℕ) (refusal : Option ℕ) (h : History) (d : Deed) → length (after_effect (effect_with start binds who refusal h d) h) ≡ length h + length (texts_run start binds h d)
deed_longer start binds who refusal h (deed.Run text) = omega arith
deed_longer start binds who refusal h (deed.Do s) = omega arith
deed_longer start binds who refusal h (deed.Key chord) = omega arith
deed_longer start binds who refusal h deed.Paint = omega arith
deed_longer start binds who refusal h (deed.Look q) = omega arith

pub line_longer : (start : Start) (binds : List Bind) (l : Line) (rs : List Refused) (h : History) → length (after start binds l rs h) ≡ length h + length (texts_run start binds h l.deed)
line_longer start binds l rs h = deed_longer start binds l.who (refusal_at (length h) rs) h l.deed

deed_same : (start : Start) (binds : List Bind) (who : ℕ) (d : Deed) (rs more : List Refused) (h : History) → IsRising (length (after_effect (effect_with start binds who (refusal_at (length h) rs) h d) h)) more
    → effect_with start binds who (refusal_at (length h) (rs ++ more)) h d ≡ effect_with start binds who (refusal_at (length h) rs) h d
deed_same start binds who (deed.Run text) rs more h rising = ap (λ r. effect_with start binds who r h (deed.Run text)) (refusal_same (length h) rs more rising)
deed_same start binds who (deed.Do s) rs more h rising = ap (λ r. effect_with start binds who r h (deed.Do s)) (refusal_same (length h) rs more rising)
deed_same start binds who (deed.Key chord) rs more h rising = ap (λ r. effect_with start binds who r h (deed.Key chord)) (refusal_same (length h) rs more rising)
deed_same start binds who deed.Paint rs more h rising = refl
deed_same start binds who (deed.Look q) rs more h rising = refl

-- what is refused behind it changes nothing of it
pub line_same : (start : Start) (binds : List Bind) (l : Line) (rs more : List Refused) (h : History) → IsRising (length (after start binds l rs h)) more → effect_of start binds l (rs ++ more) h ≡ effect_of start binds l rs h
line_same start binds l rs more h rising = deed_same start binds l.who l.deed rs more h rising

-- a line that was played leads on, with the refusal that came
pub line_leads : (desk next : DeskValue) (binds : List Bind) (l : Line) (refusal : Option ℕ) (before refused : List Refused) (piece text : List ℕ) → refused ≡ before ++ noted_at desk.steps refusal
    → TellsLine desk next binds l refusal text → refusal_at desk.steps before ≡ None → Leads desk next (after (opening_of desk.plan) binds l refused) (told (opening_of desk.plan) binds l refused) piece (piece ++ text)
line_leads desk next binds l refusal before refused piece text grown plays none = λ history stands.
    let start = opening_of desk.plan in
    let tells = plays history stands in
    let same : refusal_at (length history) refused ≡ refusal =
    ap (λ n. refusal_at n refused) (sym stands.counted) ∙ (ap (refusal_at desk.steps) grown ∙ noted_is desk.steps refusal before none) in (
      subst (λ r. Stands next (after_effect (effect_with start binds l.who r history l.deed) history)) (sym same) tells.stands,
      ap (λ t. piece ++ t) (tells.told ∙ ap (λ r. effect_text start history (effect_with start binds l.who r history l.deed)) (sym same)),
    )

-- ---- the lines that are left

pub none_left : (rest : List Line) → length rest < 1 → rest ≡ []
none_left [] few = refl
none_left (l ∷ rest) few = absurd (omega (arith, few))

pub rest_is : {A : Type 0} (g d : A) (rest : List A) → 1 ≤ length rest → g ≡ get_or rest 0 d → rest ≡ g ∷ take (length rest - 1) (drop 1 rest)
rest_is g d [] some is = absurd (omega arith)
rest_is g d (l ∷ rest) some is = ap (λ x. x ∷ rest) (sym is) ∙ ap (λ xs. g ∷ xs) (sym (take_all (suc (length rest) - 1) rest (omega arith)))

-- what holds of each line holds of each that is left
pub rest_fit : {A : Type 0} (P : A → Type 0) (rest : List A) → 1 ≤ length rest → AllByRecursion P rest → AllByRecursion P (take (length rest - 1) (drop 1 rest))
rest_fit P [] some all = absurd (omega arith)
rest_fit P (l ∷ rest) some all = subst (AllByRecursion P) (sym (take_all (suc (length rest) - 1) rest (omega arith))) all.1

-- ---- one line is played

module _ (start : Start) (binds : List Bind) (old now : Option (List ℕ)) (desk : DeskValue) (before : List Refused) (piece : List ℕ) (whole : List Refused → List ℕ) (texts : List Refused → List (Option (List ℕ)))
    (first l1 l2 : Log) (g d : Line) (rest : List Line) (some : 1 ≤ length rest) (is : g ≡ get_or rest 0 d) (same : opening_of desk.plan ≡ start)
    (p : Plays old now desk before piece (out_from start binds rest) whole (texts_from start binds rest) texts first l1)
  where
    abbrev pub others : List Line
    others = take (length rest - 1) (drop 1 rest)

    first_line : Plays old now desk before piece (out_from start binds (g ∷ others)) whole (texts_from start binds (g ∷ others)) texts first l1
    first_line = subst (λ ls. Plays old now desk before piece (out_from start binds ls) whole (texts_from start binds ls) texts first l1) (rest_is g d rest some is) p

    pub stops_line : NotesSome (opening_of desk.plan) binds desk g before l1 l2 → Stops old now whole texts first l2
    stops_line notes =
        let n = subst (λ o. NotesSome o binds desk g before l1 l2) same notes first_line.runs.history first_line.runs.stands in
        stops_step old now desk before n.0 piece (after start binds g) (told start binds g) (out_from start binds (g ∷ others)) (out_from start binds others) whole
        (λ h. texts_run start binds h g.deed) (texts_from start binds (g ∷ others)) (texts_from start binds others) texts first l1 l2
        (line_longer start binds g) (λ rs h. refl) first_line n.1

    pub plays_line : (refused : List Refused) (next : DeskValue) (text : List ℕ) → NotesLine (opening_of desk.plan) binds desk g before refused l1 l2
        → (refusal_at desk.steps before ≡ None → Leads desk next (after (opening_of desk.plan) binds g refused) (told (opening_of desk.plan) binds g refused) piece text)
        → next.steps ≡ desk.steps + steps_of g.deed → Plays old now next refused text (out_from start binds others) whole (texts_from start binds others) texts first l2
    plays_line refused next text notes leads moved =
        let h = first_line.runs.history in
        plays_step old now desk before refused piece (after start binds g) (told start binds g) (out_from start binds (g ∷ others)) (out_from start binds others) whole
        (λ h. texts_run start binds h g.deed) (texts_from start binds (g ∷ others)) (texts_from start binds others) texts first l1 l2
        (line_longer start binds g) (λ rs h. refl) first_line (subst (λ o. NotesLine o binds desk g before refused l1 l2) same notes h first_line.runs.stands)
        next text (λ rs h. refl)
        (λ rs more h rising. let same = line_same start binds g rs more h rising in (ap (λ d. after_effect d h) same, ap (effect_text start h) same))
        (subst (λ o. refusal_at desk.steps before ≡ None → Leads desk next (after o binds g refused) (told o binds g refused) piece text) same leads)
        (moved ∙ ap (λ n. desk.steps + n) (sym (steps_counted start binds h g.deed)))
