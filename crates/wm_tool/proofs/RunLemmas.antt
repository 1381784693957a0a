-- A desk takes steps one after another, and what they tell is written in pieces.
use Rattle.std.proofs.Common.{◌≡◌, ◌∙◌, refl, ap, ap₂, sym, subst, ℕ, suc, ◌+◌, inl, inr, List, [], ◌∷◌, ◌++◌, Option, None, Some, Result, Ok, Err, length, take, drop, arith, length-append, append_assoc}
use Rattle.std.specs.Prelude.{IfErr, IfOk, IsErrAnd, OnErr, OnOk}
use Rattle.std.proofs.lemmas.List.{append-nil, drop_all, take_all, take-append-drop}
use Rattle.wm_core.specs.DeskValue.{DeskValue, Stands}
use Rattle.wm_criteria.specs.Building.{Log}
use Rattle.wm_history.specs.History.{History}
use Rattle.wm_ports.specs.Told.{TakesAll, TakesPart}
use Rattle.wm_tool.specs.declared.replay.Stop.{Stop}
use Rattle.wm_script.proofs.RefusalLemmas.{grew_none}
use Rattle.wm_script.specs.Out.{entry_of, run_with}
use Rattle.wm_script.specs.Refusals.{IsBacked, IsRising, refusal_at, verdict_of}
use Rattle.wm_script.specs.declared.refused.Refused.{Refused}
use Rattle.wm_tool.specs.Ending.{HasStopped}
use Rattle.wm_tool.specs.Output.{run_entry}
use Rattle.wm_tool.specs.Running.{Finishes, Grows, Holds, IsBackedTo, Leads, Notes, Plays, Runs, Stops, Writes, fresh}
use Rattle.wm_history.specs.Act.{Run, act_of}
use Rattle.wm_history.specs.declared.step.Step.TheVariants as steps_of
use Rattle.wm_criteria.specs.declared.prepared.Prepared.{Prepared}
use Rattle.wm_criteria.specs.Verdict.{IsVerdict}
use Rattle.wm_tool.proofs.RefusalLemmas.{backed_more, keeps_noted, refusal_before, refusal_same, rising_weaker, verdict_is}

-- ---- the beginning

holds_none : (old : Option (List ℕ)) → Holds old old []
holds_none None = tt
holds_none (Some t) = ap (λ xs. Some xs) (sym (append-nil t))

pub nothing_backed : (texts : List (Option (List ℕ))) (log : Log) → IsBacked texts [] log log
nothing_backed texts log = record { rising = tt; fair = tt; grew = grew_none log }

pub begins : (old : Option (List ℕ)) (desk : DeskValue) (refused : List Refused) (piece : List ℕ) (tells : List Refused → History → List ℕ) (ahead : List Refused → History → List (Option (List ℕ))) (log : Log)
    → refused ≡ [] → piece ≡ [] → Stands desk [] → Plays old old desk refused piece tells (λ rs. tells rs []) ahead (λ rs. ahead rs []) log log
begins old desk refused piece tells ahead log none empty stands =
    rw (none, empty) (record {
      runs = record { history = []; stands = stands; said = []; taken = holds_none old; makes = λ more rising. refl };
      past = [];
      counted = stands.counted;
      backed = record { below = tt; backed = nothing_backed [] log };
      goes = λ more rising. refl;
    })

-- ---- what was written when a run stops

take_said : (said ahead : List ℕ) → take (length said) (said ++ ahead) ≡ said
take_said [] ahead = refl
take_said (x ∷ said) ahead = ap (λ xs. x ∷ xs) (take_said said ahead)

part_of : (old now : Option (List ℕ)) (said ahead whole : List ℕ) → Holds old now said → said ++ ahead ≡ whole → TakesPart old now whole
part_of None now said ahead whole taken makes = tt
part_of (Some t) now said ahead whole taken makes = (
  length said,
  record {
    within = omega (arith, ap length (sym makes), length-append said ahead);
    grown = taken ∙ ap (λ xs. Some (t ++ xs)) (sym (ap (take (length said)) (sym makes) ∙ take_said said ahead));
  },
)

holds_more : (old now new : Option (List ℕ)) (said piece : List ℕ) → Holds old now said → TakesAll now new piece → Holds old new (said ++ piece)
holds_more None now new said piece taken takes = tt
holds_more (Some t) now new said piece taken takes =
    let takes' = subst (λ o. TakesAll o new piece) taken takes in
    takes' ∙ ap (λ xs. Some xs) (append_assoc t said piece)

split_piece : (said piece rest : List ℕ) (n : ℕ) → (said ++ take n piece) ++ (drop n piece ++ rest) ≡ said ++ (piece ++ rest)
split_piece said piece rest n =
    append_assoc said (take n piece) (drop n piece ++ rest)
    ∙ ap (λ xs. said ++ xs) (sym (append_assoc (take n piece) (drop n piece) rest) ∙ ap (λ xs. xs ++ rest) (take-append-drop n piece))

fails_part : (old now new : Option (List ℕ)) (said piece rest whole : List ℕ) → Holds old now said → said ++ (piece ++ rest) ≡ whole → TakesPart now new piece → TakesPart old new whole
fails_part None now new said piece rest whole taken makes takes = tt
fails_part (Some t) now new said piece rest whole taken makes takes =
    let part = subst (λ o. TakesPart o new piece) taken takes in
    part_of (Some t) new (said ++ take part.0 piece) (drop part.0 piece ++ rest) whole
    (part.1.grown ∙ ap (λ xs. Some xs) (append_assoc t said (take part.0 piece)))
    (split_piece said piece rest part.0 ∙ makes)

pub made : (old now : Option (List ℕ)) (desk : DeskValue) (refused : List Refused) (piece : List ℕ) (tells : List Refused → History → List ℕ) (whole : List Refused → List ℕ)
    → (r : Runs old now desk refused piece tells whole) → r.said ++ (piece ++ tells refused r.history) ≡ whole refused
made old now desk refused piece tells whole r = subst (λ rs. r.said ++ (piece ++ tells rs r.history) ≡ whole rs) (append-nil refused) (r.makes [] tt)

-- a run that ends with the error of a part of it has stopped as that part did
pub stopped_as : {A : Type 0} (old new : ℕ) (e : Stop) (r : Result A Stop) → HasStopped old new e → IsErrAnd r (λ s. s ≡ e) → IfErr r (HasStopped old new)
stopped_as old new e (Ok x) h k = tt
stopped_as old new e (Err s) h k = subst (HasStopped old new) (sym k) h

pub on_err : {A : Type 0} {E : Type 0} {P : Type 0} (r : Result A E) → P → OnErr r P
on_err (Ok x) p = tt
on_err (Err e) p = p

module _ (old now new : Option (List ℕ)) (desk : DeskValue) (refused : List Refused) (piece : List ℕ) (tells : List Refused → History → List ℕ) (whole : List Refused → List ℕ)
    (ahead : List Refused → History → List (Option (List ℕ))) (texts : List Refused → List (Option (List ℕ))) (first log : Log) (p : Plays old now desk refused piece tells whole ahead texts first log)
  where
    -- the refusals so far are backed by all steps
    pub backed_now : IsBacked (texts refused) refused first log
    backed_now =
        subst (λ ts. IsBacked ts refused first log) (subst (λ rs. p.past ++ ahead rs p.runs.history ≡ texts rs) (append-nil refused) (p.goes [] tt))
        (backed_more desk.steps p.past (ahead refused p.runs.history) refused first log p.counted p.backed)

    -- a run whose sink fails has written a first part
    pub fails : TakesPart now new piece → Stops old new whole texts first log
    fails takes = (refused, backed_now, fails_part old now new p.runs.said piece (tells refused p.runs.history) (whole refused) p.runs.taken (made old now desk refused piece tells whole p.runs) takes)

    -- a run that stops before it wrote what it holds has written a first part
    pub holds_part : TakesPart old now (whole refused)
    holds_part = part_of old now p.runs.said (piece ++ tells refused p.runs.history) (whole refused) p.runs.taken (made old now desk refused piece tells whole p.runs)

    -- a first part of the piece is written, and the rest of it is held
    pub writes : (held : List ℕ) → Writes now new piece held → Plays old new desk refused held tells whole ahead texts first log
    writes held w = record {
      runs = record {
        history = p.runs.history;
        stands = p.runs.stands;
        said = p.runs.said ++ take w.count piece;
        taken = holds_more old now new p.runs.said (take w.count piece) p.runs.taken w.taken;
        makes = λ more rising.
            ap (λ xs. (p.runs.said ++ take w.count piece) ++ (xs ++ tells (refused ++ more) p.runs.history)) w.left
            ∙ (split_piece p.runs.said piece (tells (refused ++ more) p.runs.history) w.count ∙ p.runs.makes more rising);
      };
      past = p.past;
      counted = p.counted;
      backed = p.backed;
      goes = p.goes;
    }

-- a run to the end has written all, with its last piece
pub ends : (old now new : Option (List ℕ)) (desk : DeskValue) (refused : List Refused) (piece : List ℕ) (tells : List Refused → History → List ℕ) (whole : List Refused → List ℕ)
    → ((rs : List Refused) (history : History) → tells rs history ≡ []) → Runs old now desk refused piece tells whole → TakesAll now new piece → TakesAll old new (whole refused)
ends None now new desk refused piece tells whole none r takes = tt
ends (Some t) now new desk refused piece tells whole none r takes =
    holds_more (Some t) now new r.said piece r.taken takes
    ∙ ap (λ xs. Some (t ++ xs)) (ap (λ xs. r.said ++ xs) (sym (append-nil piece) ∙ ap (λ xs. piece ++ xs) (sym (none refused r.history))) ∙ made (Some t) now desk refused piece tells whole r)

none_taken : (now : Option (List ℕ)) → TakesAll now now []
none_taken None = tt
none_taken (Some t) = ap (λ xs. Some xs) (sym (append-nil t))

pub ends_written : (old now : Option (List ℕ)) (desk : DeskValue) (refused : List Refused) (tells : List Refused → History → List ℕ) (whole : List Refused → List ℕ)
    → ((rs : List Refused) (history : History) → tells rs history ≡ []) → Runs old now desk refused [] tells whole → TakesAll old now (whole refused)
ends_written old now desk refused tells whole none r = ends old now now desk refused [] tells whole none r (none_taken now)

-- a run to the end with nothing held
pub finishes : (old now : Option (List ℕ)) (desk : DeskValue) (refused : List Refused) (tells : List Refused → History → List ℕ) (whole : List Refused → List ℕ)
    (ahead : List Refused → History → List (Option (List ℕ))) (texts : List Refused → List (Option (List ℕ))) (first log : Log) → ((rs : List Refused) (history : History) → tells rs history ≡ [])
    → Plays old now desk refused [] tells whole ahead texts first log → Finishes old now whole refused texts first log
finishes old now desk refused tells whole ahead texts first log none p =
    (backed_now old now now desk refused [] tells whole ahead texts first log p, ends_written old now desk refused tells whole none p.runs)

pub writes_none : (now : Option (List ℕ)) (piece : List ℕ) → Writes now now piece piece
writes_none now piece = record { count = 0; taken = none_taken now; left = refl }

pub writes_all : (now new : Option (List ℕ)) (piece held : List ℕ) → TakesAll now new piece → held ≡ [] → Writes now new piece held
writes_all now new piece held takes none =
    record { count = length piece; taken = subst (TakesAll now new) (sym (take_all (length piece) piece (omega arith))) takes; left = none ∙ sym (drop_all (length piece) piece (omega arith)) }

-- ---- one line or message

module _ (old now : Option (List ℕ)) (desk : DeskValue) (before later_refused : List Refused) (piece : List ℕ)
    (step : List Refused → History → History) (says tells later : List Refused → History → List ℕ) (whole : List Refused → List ℕ)
    (steps : History → List (Option (List ℕ))) (ahead behind : List Refused → History → List (Option (List ℕ))) (texts : List Refused → List (Option (List ℕ))) (first l1 l2 : Log)
    (longer : (rs : List Refused) (h : History) → length (step rs h) ≡ length h + length (steps h))
    (parts : (rs : List Refused) (h : History) → ahead rs h ≡ steps h ++ behind rs (step rs h))
    (p : Plays old now desk before piece tells whole ahead texts first l1)
    (notes : Notes desk.steps (steps p.runs.history) before later_refused l1 l2)
  where
    abbrev h : History
    h = p.runs.history

    -- what held with the refusals before the step holds with those after it
    holds_after : (P : List Refused → Type 0) → ((more : List Refused) → IsRising (length h) more → P (before ++ more)) → (more : List Refused) → IsRising (length (step later_refused h)) more → P (later_refused ++ more)
    holds_after P held more rising = by_grown notes.grown
      where
        by_grown : Grows desk.steps (steps h) before later_refused → P (later_refused ++ more)
        by_grown (inl e) = subst (λ rs. P (rs ++ more)) (sym e) (held more (rising_weaker (length (step later_refused h)) (length h) more (omega (arith, longer later_refused h)) rising))
        by_grown (inr g) =
            subst (λ rs. P (rs ++ more)) (sym g.2)
            (subst P (sym (append_assoc before (g.0 ∷ []) more))
            (held (g.0 ∷ more) (
              omega (arith, g.1, p.runs.stands.counted),
              rising_weaker (length (step later_refused h)) (g.0.place + 1) more (omega (arith, g.1, p.runs.stands.counted, g.3, longer later_refused h)) rising,
            )))

    makes_after : (more : List Refused) → IsRising (length (step later_refused h)) more → p.runs.said ++ (piece ++ tells (later_refused ++ more) h) ≡ whole (later_refused ++ more)
    makes_after more rising = holds_after (λ rs. p.runs.said ++ (piece ++ tells rs h) ≡ whole rs) p.runs.makes more rising

    goes_after : (more : List Refused) → IsRising (length (step later_refused h)) more → p.past ++ ahead (later_refused ++ more) h ≡ texts (later_refused ++ more)
    goes_after more rising = holds_after (λ rs. p.past ++ ahead rs h ≡ texts rs) p.goes more rising

    counted_after : desk.steps + length (steps h) ≡ length (p.past ++ steps h)
    counted_after = omega (arith, p.counted, length-append p.past (steps h))

    backed_after : IsBackedTo (desk.steps + length (steps h)) (p.past ++ steps h) later_refused first l2
    backed_after = notes.backed p.past first p.counted p.backed

    -- a step that want of memory stopped
    pub stops_step : Stops old now whole texts first l2
    stops_step = (
      later_refused,
      subst (λ ts. IsBacked ts later_refused first l2)
          (append_assoc p.past (steps h) (behind later_refused (step later_refused h))
          ∙ (ap (λ xs. p.past ++ xs) (sym (parts later_refused h)) ∙ subst (λ rs. p.past ++ ahead rs h ≡ texts rs) (append-nil later_refused) (goes_after [] tt)))
          (backed_more (desk.steps + length (steps h)) (p.past ++ steps h) (behind later_refused (step later_refused h)) later_refused first l2 counted_after backed_after),
      part_of old now p.runs.said (piece ++ tells later_refused h) (whole later_refused) p.runs.taken
          (subst (λ rs. p.runs.said ++ (piece ++ tells rs h) ≡ whole rs) (append-nil later_refused) (makes_after [] tt)),
    )

    -- a step that was taken
    pub plays_led : (next : DeskValue) (text : List ℕ)
        → ((more : List Refused) → IsRising (length (step later_refused h)) more
        → tells (later_refused ++ more) h ≡ says (later_refused ++ more) h ++ later (later_refused ++ more) (step (later_refused ++ more) h))
        → ((rs more : List Refused) (h : History) → IsRising (length (step rs h)) more → (step (rs ++ more) h ≡ step rs h) × (says (rs ++ more) h ≡ says rs h))
        → (refusal_at desk.steps before ≡ None → Leads desk next (step later_refused) (says later_refused) piece text) → next.steps ≡ desk.steps + length (steps h)
        → Plays old now next later_refused text later whole behind texts first l2
    plays_led next text splits same leads moved =
        let led = leads (refusal_before desk.steps before p.backed.below) h p.runs.stands in
        record {
          runs = record {
            history = step later_refused h;
            stands = led.0;
            said = p.runs.said;
            taken = p.runs.taken;
            makes = λ more rising.
                let s = same later_refused more h rising in
                let rs = later_refused ++ more in
                let ahead_text = later rs (step later_refused h) in
                ap (λ xs. p.runs.said ++ xs)
                (ap (λ xs. xs ++ ahead_text) led.1
                ∙ (append_assoc piece (says later_refused h) ahead_text
                ∙ ap (λ xs. piece ++ xs) (sym (splits more rising ∙ (ap (λ x. x ++ later rs (step rs h)) s.1 ∙ ap (λ z. says later_refused h ++ later rs z) s.0)))))
                ∙ makes_after more rising;
          };
          past = p.past ++ steps h;
          counted = moved ∙ counted_after;
          backed = subst (λ n. IsBackedTo n (p.past ++ steps h) later_refused first l2) (sym moved) backed_after;
          goes = λ more rising.
              let rs = later_refused ++ more in
              append_assoc p.past (steps h) (behind rs (step later_refused h))
              ∙ (ap (λ xs. p.past ++ xs) (ap (λ z. steps h ++ behind rs z) (sym (same later_refused more h rising).0) ∙ sym (parts rs h)) ∙ goes_after more rising);
        }

    -- a step that was taken, and what is told is split alike after each history
    pub plays_step : (next : DeskValue) (text : List ℕ) → ((rs : List Refused) (h : History) → tells rs h ≡ says rs h ++ later rs (step rs h))
        → ((rs more : List Refused) (h : History) → IsRising (length (step rs h)) more → (step (rs ++ more) h ≡ step rs h) × (says (rs ++ more) h ≡ says rs h))
        → (refusal_at desk.steps before ≡ None → Leads desk next (step later_refused) (says later_refused) piece text) → next.steps ≡ desk.steps + length (steps h)
        → Plays old now next later_refused text later whole behind texts first l2
    plays_step next text splits same leads moved = plays_led next text (λ more rising. splits (later_refused ++ more) h) same leads moved

-- a text is run as before, whatever is refused behind it
pub run_same : (who : ℕ) (rs more : List Refused) (h : History) (text : List ℕ) → IsRising (suc (length h)) more → run_entry who (rs ++ more) h text ≡ run_entry who rs h text
run_same who rs more h text rising = ap (λ refusal. run_with who refusal text) (refusal_same (length h) rs more rising)

-- ---- a text that is run

-- a text that was prepared at the place is the one that the history has
pub run_entry_is : (who place : ℕ) (history : History) (before after_refused : List Refused) (text : List ℕ) (p : Prepared) → refusal_at place before ≡ None → place ≡ length history → p.text ≡ text
    → IsVerdict text p.verdict → after_refused ≡ before ++ fresh place p.verdict → entry_of who (act_of (steps_of.Run p)) ≡ run_entry who after_refused history text
run_entry_is who place history before after_refused text p none at same is grown =
    ap₂ (λ t v. entry_of who (Run (record { text = t; verdict = v }))) same
    (sym (verdict_is place before text p.verdict none is) ∙ (ap (λ rs. verdict_of rs place text) (sym grown) ∙ ap (λ n. verdict_of after_refused n text) at))

pub unchanged : (place : ℕ) (steps : List (Option (List ℕ))) (rs : List Refused) (log : Log) → Notes place steps rs rs log log
unchanged place steps rs log = keeps_noted place steps rs rs log log refl (grew_none log)

pub on_ok : {A : Type 0} {E : Type 0} {P : Type 0} (r : Result A E) → P → OnOk r P
on_ok (Ok x) p = p
on_ok (Err e) p = tt

pub ok_weaker : {A : Type 0} {E : Type 0} {P Q : Type 0} (r : Result A E) → OnOk r P → (P → Q) → OnOk r Q
ok_weaker (Ok x) p weaker = weaker p
ok_weaker (Err e) p weaker = tt

pub err_weaker : {A : Type 0} {E : Type 0} {P Q : Type 0} (r : Result A E) → OnErr r P → (P → Q) → OnErr r Q
err_weaker (Ok x) p weaker = tt
err_weaker (Err e) p weaker = weaker p

pub if_ok_weaker : {A : Type 0} {E : Type 0} {P Q : A → Type 0} (r : Result A E) → IfOk r P → ((x : A) → P x → Q x) → IfOk r Q
if_ok_weaker (Ok x) p weaker = weaker x p
if_ok_weaker (Err e) p weaker = tt

pub either_way : {A : Type 0} {E : Type 0} {P : Type 0} (r : Result A E) → OnOk r P → OnErr r P → P
either_way (Ok x) ok err = ok
either_way (Err e) ok err = err
