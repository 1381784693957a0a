-- Lists of refusals: what is at a place, and what one more changes.
use Rattle.std.proofs.Common.{◌≡◌, ◌∙◌, refl, ap, sym, subst, ℕ, zero, suc, ◌+◌, ◌<◌, ◌≤◌, inl, inr, Bool, true, false, cond, eqb, List, [], ◌∷◌, ◌++◌, length, Option, None, Some, is_some, arith}
use Rattle.std.specs.Prelude.{IsTrue, option_and_then}
use Rattle.std.specs.List.{AllByRecursion}
use Rattle.std.specs.Option.{option_to_list}
use Rattle.std.proofs.lemmas.Bool.{eqb-true}
use Rattle.std.proofs.lemmas.Bool.Decides.{Decides-eqb}
use Rattle.std.proofs.lemmas.List.{append-nil}
use Rattle.std.proofs.lemmas.Grind.{flat_map-append}
use Rattle.wm_criteria.specs.Building.{Grew, Log}
use Rattle.wm_criteria.specs.Patterns.{pattern_at, unless_plain}
use Rattle.wm_criteria.specs.Verdict.{IsVerdict, refused_patterns}
use Rattle.wm_criteria.specs.declared.verdict.Verdict.{Verdict}
use Rattle.wm_criteria.specs.declared.verdict.Verdict.TheVariants.{Ready, Bad, PatternRefused}
use Rattle.wm_criteria.proofs.BuildingLemmas.{grew_both}
use Rattle.wm_grammar.specs.Reading.{batch_of, groups_of}
use Rattle.wm_binds.specs.declared.config.Bind.{Bind}
use Rattle.wm_history.specs.History.{History, Start, mode}
use Rattle.wm_script.proofs.RefusalLemmas.{reach_is, reads_pattern}
use Rattle.wm_script.specs.Out.{bound_text, last_bind, text_of_step, text_run, texts_run}
use Rattle.wm_script.specs.Playing.{IsRefusal, pattern_of}
use Rattle.wm_script.specs.Refusals.{IsBacked, IsRefusable, IsRising, pattern_in, patterns_in, refusal_at, text_at, verdict_by, verdict_of}
use Rattle.wm_script.specs.declared.line.Deed.{Deed}
use Rattle.wm_script.specs.declared.line.Deed.TheVariants as deed
use Rattle.wm_script.specs.declared.refused.Refused.{Refused}
use Rattle.wm_tool.specs.Running.{Backs, IsBackedTo, Notes, fresh, noted_at}

-- ---- places

pub rising_weaker : (n m : ℕ) (rs : List Refused) → m ≤ n → IsRising n rs → IsRising m rs
rising_weaker n m [] less rising = tt
rising_weaker n m (r ∷ rs) less rising = (omega (arith, less, rising.0), rising.1)

rising_push : (n : ℕ) (rs : List Refused) (r : Refused) → n ≤ r.place → AllByRecursion (λ (q : Refused). q.place < r.place) rs → IsRising n rs → IsRising n (rs ++ r ∷ [])
rising_push n [] r within below rising = (within, tt)
rising_push n (q ∷ rs) r within below rising = (rising.0, rising_push (q.place + 1) rs r (omega (arith, below.0)) below.1 rising.1)

by_place : (b : Bool) (p : ℕ) (x y : Option ℕ) → (b ≡ false → x ≡ y) → cond b (Some p) x ≡ cond b (Some p) y
by_place true p x y h = refl
by_place false p x y h = h refl

none_behind : (b : Bool) (p : ℕ) (x : Option ℕ) → cond b (Some p) x ≡ None → (b ≡ false) × (x ≡ None)
none_behind true p x h = cc
none_behind false p x h = (refl, h)

other_place : (n : ℕ) (r : Refused) (x : Option ℕ) → suc n ≤ r.place → x ≡ None → cond (eqb r.place n) (Some r.pattern) x ≡ None
other_place n r x later none = by_test (eqb r.place n) refl
  where
    by_test : (b : Bool) → eqb r.place n ≡ b → cond b (Some r.pattern) x ≡ None
    by_test true e = let same : r.place ≡ n = eqb-true r.place n e in absurd (omega (arith, later, same))
    by_test false e = none

-- nothing is refused at a place before all others
refusal_later : (n : ℕ) (rs : List Refused) → IsRising (suc n) rs → refusal_at n rs ≡ None
refusal_later n [] rising = refl
refusal_later n (r ∷ rs) rising = other_place n r (refusal_at n rs) rising.0 (refusal_later n rs (rising_weaker (r.place + 1) (suc n) rs (omega (arith, rising.0)) rising.1))

below_place : (n : ℕ) (r : Refused) (x : Option ℕ) → r.place < n → x ≡ None → cond (eqb r.place n) (Some r.pattern) x ≡ None
below_place n r x before none = by_test (eqb r.place n) refl
  where
    by_test : (b : Bool) → eqb r.place n ≡ b → cond b (Some r.pattern) x ≡ None
    by_test true e = let same : r.place ≡ n = eqb-true r.place n e in absurd (omega (arith, before, same))
    by_test false e = none

-- nor at one behind all others
pub refusal_before : (n : ℕ) (rs : List Refused) → AllByRecursion (λ (r : Refused). r.place < n) rs → refusal_at n rs ≡ None
refusal_before n [] below = refl
refusal_before n (r ∷ rs) below = below_place n r (refusal_at n rs) below.0 (refusal_before n rs below.1)

refusal_append : (n : ℕ) (rs xs : List Refused) → refusal_at n rs ≡ None → refusal_at n (rs ++ xs) ≡ refusal_at n xs
refusal_append n [] xs none = refl
refusal_append n (r ∷ rs) xs none =
    let h = none_behind (eqb r.place n) r.pattern (refusal_at n rs) none in
    ap (λ b. cond b (Some r.pattern) (refusal_at n (rs ++ xs))) h.0 ∙ refusal_append n rs xs h.1

-- later refusals change nothing at a place
pub refusal_same : (n : ℕ) (rs more : List Refused) → IsRising (suc n) more → refusal_at n (rs ++ more) ≡ refusal_at n rs
refusal_same n [] more rising = refusal_later n more rising
refusal_same n (r ∷ rs) more rising = by_place (eqb r.place n) r.pattern (refusal_at n (rs ++ more)) (refusal_at n rs) (λ _. refusal_same n rs more rising)

-- ---- verdicts

same_place : (n : ℕ) → eqb n n ≡ true
same_place n = (Decides-eqb n n).1 refl

fresh_refusal : (n k : ℕ) → refusal_at n (fresh n (PatternRefused k)) ≡ Some k
fresh_refusal n k = ap (λ b. cond b (Some k) None) (same_place n)

-- the verdict on a text is the one that its refusal, noted at its place, makes of it
pub verdict_is : (n : ℕ) (before : List Refused) (text : List ℕ) (v : Verdict) → refusal_at n before ≡ None → IsVerdict text v → verdict_of (before ++ fresh n v) n text ≡ v
verdict_is n before text (Ready batch) none is = ap (λ r. verdict_by (batch_of text) r text) (refusal_append n before [] none) ∙ ap (λ b. verdict_by b None text) is
verdict_is n before text (Bad at) none is =
    ap (λ r. verdict_by (batch_of text) r text) (refusal_append n before [] none) ∙ (ap (λ b. verdict_by b None text) is.0 ∙ ap (λ k. Bad k) (sym (reach_is text at is.1)))
verdict_is n before text (PatternRefused k) none is =
    ap (λ r. verdict_by (batch_of text) r text) (refusal_append n before (fresh n (PatternRefused k)) none ∙ fresh_refusal n k) ∙ reads_pattern text k (groups_of text) refl is

-- ---- what is backed

all_push : {A : Type 0} (P : A → Type 0) (xs : List A) (x : A) → AllByRecursion P xs → P x → AllByRecursion P (xs ++ x ∷ [])
all_push P [] x all p = (p, tt)
all_push P (y ∷ ys) x all p = (all.0, all_push P ys x all.1 p)

below_weaker : (n m : ℕ) (rs : List Refused) → n ≤ m → AllByRecursion (λ (r : Refused). r.place < n) rs → AllByRecursion (λ (r : Refused). r.place < m) rs
below_weaker n m [] less all = tt
below_weaker n m (r ∷ rs) less all = (omega (arith, less, all.0), below_weaker n m rs less all.1)

-- what stands behind changes no text before it
text_front : (past xs : List (Option (List ℕ))) (n : ℕ) → n < length past → text_at (past ++ xs) n ≡ text_at past n
text_front [] xs n less = absurd (omega (arith, less))
text_front (x ∷ past) xs zero less = refl
text_front (x ∷ past) xs (suc n) less = text_front past xs n (omega (arith, less))

text_end : (past : List (Option (List ℕ))) (text : Option (List ℕ)) → text_at (past ++ text ∷ []) (length past) ≡ text
text_end [] text = by text
  where
    by : (o : Option (List ℕ)) → text_at (o ∷ []) 0 ≡ o
    by None = refl
    by (Some t) = refl
text_end (x ∷ past) text = text_end past text

pattern_front : (past xs : List (Option (List ℕ))) (r : Refused) → r.place < length past → pattern_in (past ++ xs) r ≡ pattern_in past r
pattern_front past xs r less = ap (λ o. option_and_then (λ t. pattern_at t r.pattern) o) (text_front past xs r.place less)

fair_front : (n : ℕ) (past xs : List (Option (List ℕ))) (rs : List Refused) → n ≡ length past → AllByRecursion (λ (r : Refused). r.place < n) rs → AllByRecursion (IsRefusable past) rs → AllByRecursion (IsRefusable (past ++ xs)) rs
fair_front n past xs [] at below fair = tt
fair_front n past xs (r ∷ rs) at below fair = (
  subst (λ o. IsTrue (is_some (unless_plain o))) (sym (pattern_front past xs r (omega (arith, at, below.0)))) fair.0,
  fair_front n past xs rs at below.1 fair.1,
)

patterns_front : (n : ℕ) (past xs : List (Option (List ℕ))) (rs : List Refused) → n ≡ length past → AllByRecursion (λ (r : Refused). r.place < n) rs → patterns_in (past ++ xs) rs ≡ patterns_in past rs
patterns_front n past xs [] at below = refl
patterns_front n past xs (r ∷ rs) at below =
    ap (λ o. option_to_list o ++ patterns_in (past ++ xs) rs) (pattern_front past xs r (omega (arith, at, below.0)))
    ∙ ap (λ ps. option_to_list (pattern_in past r) ++ ps) (patterns_front n past xs rs at below.1)

-- refusals that are backed are so whatever steps come behind
pub backed_more : (n : ℕ) (past xs : List (Option (List ℕ))) (rs : List Refused) (old new : Log) → n ≡ length past → IsBackedTo n past rs old new → IsBacked (past ++ xs) rs old new
backed_more n past xs rs old new at b = record {
  rising = b.backed.rising;
  fair = fair_front n past xs rs at b.below b.backed.fair;
  grew = subst (Grew old new) (sym (patterns_front n past xs rs at b.below)) b.backed.grew;
}

-- steps that refuse nothing keep what is backed
pub keeps_noted : (place : ℕ) (steps : List (Option (List ℕ))) (before after : List Refused) (old new : Log) → after ≡ before → Grew old new [] → Notes place steps before after old new
keeps_noted place steps before after old new same grew = record {
  grown = inl same;
  backed = λ past first at b.
      let more = backed_more place past steps before first old at b in
      subst (λ rs. IsBackedTo (place + length steps) (past ++ steps) rs first new) (sym same)
      record {
        below = below_weaker place (place + length steps) before (omega arith) b.below;
        backed = record {
          rising = more.rising;
          fair = more.fair;
          grew = subst (Grew first new) (append-nil (patterns_in (past ++ steps) before)) (grew_both first old new (patterns_in (past ++ steps) before) [] more.grew grew);
        };
      };
}

module _ (place k : ℕ) (text : List ℕ) (before : List Refused) (old new : Log)
    (refusable : IsTrue (is_some (unless_plain (pattern_at text k)))) (grew : Grew old new (option_to_list (pattern_at text k)))
  where
    abbrev pub r : Refused
    r = record { place = place; pattern = k }

    pattern_is : (past : List (Option (List ℕ))) → place ≡ length past → pattern_in (past ++ Some text ∷ []) r ≡ pattern_at text k
    pattern_is past at = ap (λ o. option_and_then (λ x. pattern_at x k) o) (ap (λ n. text_at (past ++ Some text ∷ []) n) at ∙ text_end past (Some text))

    pub backs_refusal : Backs place (Some text ∷ []) before (before ++ r ∷ []) old new
    backs_refusal = λ past first at b.
        let texts : List (Option (List ℕ)) = past ++ Some text ∷ [] in
        let pattern = pattern_is past at in
        let more = backed_more place past (Some text ∷ []) before first old at b in
        record {
          below = all_push (λ (q : Refused). q.place < place + 1) before r (below_weaker place (place + 1) before (omega arith) b.below) (omega arith);
          backed = record {
            rising = rising_push 0 before r (omega arith) b.below b.backed.rising;
            fair = all_push (IsRefusable texts) before r more.fair (subst (λ o. IsTrue (is_some (unless_plain o))) (sym pattern) refusable);
            grew = subst (Grew first new) (sym (flat_map-append (λ q. option_to_list (pattern_in texts q)) before (r ∷ []) ∙ ap (λ xs. patterns_in texts before ++ xs) (append-nil (option_to_list (pattern_in texts r)) ∙ ap option_to_list pattern)))
                (grew_both first old new (patterns_in texts before) (option_to_list (pattern_at text k)) more.grew grew);
          };
        }

noted : (place : ℕ) (text : List ℕ) (k : ℕ) (before after : List Refused) (old new : Log) → IsTrue (is_some (unless_plain (pattern_at text k))) → Grew old new (option_to_list (pattern_at text k))
    → after ≡ before ++ noted_at place (Some k) → Notes place (Some text ∷ []) before after old new
noted place text k before after old new refusable grew grown = record {
  grown = inr (record { place = place; pattern = k }, refl, grown, omega arith);
  backed = subst (λ rs. Backs place (Some text ∷ []) before rs old new) (sym grown) (backs_refusal place k text before old new refusable grew);
}

-- a text with a verdict keeps what is backed, with the refusal that the verdict is
pub notes_verdict : (place : ℕ) (text : List ℕ) (v : Verdict) (before after : List Refused) (old new : Log) → IsVerdict text v → after ≡ before ++ fresh place v
    → Grew old new (refused_patterns text v) → Notes place (Some text ∷ []) before after old new
notes_verdict place text (Ready batch) before after old new is grown grew = keeps_noted place (Some text ∷ []) before after old new (grown ∙ append-nil before) grew
notes_verdict place text (Bad at) before after old new is grown grew = keeps_noted place (Some text ∷ []) before after old new (grown ∙ append-nil before) grew
notes_verdict place text (PatternRefused k) before after old new is grown grew = noted place text k before after old new is grew grown

-- ---- the refusal of a line

-- a step with this text or with none keeps what is backed, with the refusal that came
notes_step : (place : ℕ) (text : Option (List ℕ)) (refusal : Option ℕ) (before after : List Refused) (old new : Log) → after ≡ before ++ noted_at place refusal → IsRefusal text refusal old new
    → Notes place (text ∷ []) before after old new
notes_step place text None before after old new grown is = keeps_noted place (text ∷ []) before after old new (grown ∙ append-nil before) is
notes_step place None (Some k) before after old new grown is = absurd (no_text k is.0)
  where
    no_text : (k : ℕ) → IsTrue (is_some (unless_plain (pattern_of None k))) → ⊥
    no_text k e = let bad : false ≡ true = e in cc
notes_step place (Some text) (Some k) before after old new grown is = noted place text k before after old new is.0 is.1 grown

-- where there is no step nothing is refused
notes_none : (place : ℕ) (refusal : Option ℕ) (before after : List Refused) (old new : Log) → after ≡ before ++ noted_at place refusal → IsRefusal None refusal old new → Notes place [] before after old new
notes_none place None before after old new grown is = keeps_noted place [] before after old new (grown ∙ append-nil before) is
notes_none place (Some k) before after old new grown is = let bad : false ≡ true = is.0 in cc

pub notes_line : (start : Start) (binds : List Bind) (history : History) (d : Deed) (place : ℕ) (refusal : Option ℕ) (before after : List Refused) (old new : Log)
    → after ≡ before ++ noted_at place refusal → IsRefusal (text_run start binds history d) refusal old new → Notes place (texts_run start binds history d) before after old new
notes_line start binds history (deed.Run text) place refusal before after old new grown is = notes_step place (Some text) refusal before after old new grown is
notes_line start binds history (deed.Do s) place refusal before after old new grown is = notes_step place (text_of_step s) refusal before after old new grown is
notes_line start binds history (deed.Key chord) place refusal before after old new grown is = notes_step place (bound_text (last_bind (mode start history) chord binds)) refusal before after old new grown is
notes_line start binds history deed.Paint place refusal before after old new grown is = notes_none place refusal before after old new grown is
notes_line start binds history (deed.Look q) place refusal before after old new grown is = notes_none place refusal before after old new grown is

-- ---- the refusal that a list has at a place

-- the refusal that came is the one at its place
pub noted_is : (place : ℕ) (refusal : Option ℕ) (before : List Refused) → refusal_at place before ≡ None → refusal_at place (before ++ noted_at place refusal) ≡ refusal
noted_is place None before none = refusal_append place before [] none
noted_is place (Some k) before none = refusal_append place before (noted_at place (Some k)) none ∙ fresh_refusal place k
