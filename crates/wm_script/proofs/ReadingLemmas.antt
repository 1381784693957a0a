-- A script is read line by line, and what is read is within the limits.
use Rattle.std.proofs.Common.{◌≡◌, ◌∙◌, refl, ap, sym, subst, Bool, true, false, ◌&&◌, cond, is_some, ℕ, ◌+◌, ◌≤◌, List, [], ◌∷◌, ◌++◌, length, length-append, Option, None, Some, Result, Ok, Err, arith}
use Rattle.std.specs.Prelude.{nat_lt, option_map}
use Rattle.std.specs.List.{AllByRecursion}
use Rattle.wm_base.specs.declared.errors.NoMemory.{NoMemory}
use Rattle.wm_base.specs.declared.plan.OutputPlan.{OutputPlan}
use Rattle.wm_binds.proofs.EntryLemmas.{If}
use Rattle.wm_binds.proofs.SoundLemmas.{IfRead, blank_fit, layouts_more, no_edges, output_keeps}
use Rattle.wm_binds.specs.Binds.{has_key_of, with_bind}
use Rattle.wm_binds.specs.Blocks.{bound, with_output}
use Rattle.wm_binds.specs.Fit.{IsFitDraft}
use Rattle.wm_binds.specs.declared.config.Bind.{Bind}
use Rattle.wm_binds.specs.declared.draft.Draft.{Draft}
use Rattle.wm_binds.specs.declared.draft.LineRefusal.{LineRefusal}
use Rattle.wm_binds.specs.declared.draft.LineRefusal.TheVariants as faults
use Rattle.wm_grammar.specs.Reading.{batch_of}
use Rattle.wm_layouts.specs.Plan.{FitOutputs, NamesDiffer, is_taken}
use Rattle.wm_script.specs.Lines.{IsFitSaid}
use Rattle.wm_script.specs.Script.{IsFirstBad, IsFitBind, IsFitLine, IsFitReading, IsFitScript, IsTaken, OnTaken, at_first, bound_in, drafted, go_on, is_mode, or_standard, planned, reading_from, reading_on, script_from, script_of, where_done, with_said, with_text}
use Rattle.wm_script.specs.declared.reading.Reading.{Reading}
use Rattle.wm_script.specs.declared.said.Said.{Said}
use Rattle.wm_script.specs.declared.said.Said.TheVariants.{Nothing, Version, Output, Border, Inner, Outer, Mode, Bind as Binds, Layout, Does}
use Rattle.wm_script.specs.declared.script.Script.{Script}

all_push : {A : Type 0} (P : A → Type 0) (xs : List A) (x : A) → AllByRecursion P xs → P x → AllByRecursion P (xs ++ x ∷ [])
all_push P [] x all p = (p, tt)
all_push P (y ∷ ys) x all p = (all.0, all_push P ys x all.1 p)

-- ---- the plan

record IsFitPlan (d : Draft) : Type 0 where
  pub draft : IsFitDraft d
  pub binds : AllByRecursion IsFitBind d.binds

bind_all : (b : Bind) (bs : List Bind) → IsFitBind b → AllByRecursion IsFitBind bs → AllByRecursion IsFitBind (with_bind b bs)
bind_all b [] fit all = (fit, tt)
bind_all b (other ∷ bs) fit all = by (has_key_of b other) (bind_all b bs fit all.1)
  where
    by : (t : Bool) → AllByRecursion IsFitBind (with_bind b bs) → AllByRecursion IsFitBind (cond t (b ∷ bs) (other ∷ with_bind b bs))
    by true rest = (fit, all.1)
    by false rest = (all.0, rest)

output_binds : (d : Draft) (o : OutputPlan) → IfRead (λ (x : Draft). x.binds ≡ d.binds) (with_output d o)
output_binds d o = by (is_taken o.name d.outputs) (nat_lt (length d.outputs) 8)
  where
    by : (a b : Bool) → IfRead {E = LineRefusal} (λ (x : Draft). x.binds ≡ d.binds) (cond a (Err faults.Outside) (cond b (Ok (record d { outputs = d.outputs ++ o ∷ [] })) (Err faults.Full)))
    by true b = tt
    by false true = refl
    by false false = tt

done_fit : (d : Draft) (r : Result Draft LineRefusal) → AllByRecursion IsFitBind d.binds → IfRead IsFitDraft r → IfRead (λ (x : Draft). x.binds ≡ d.binds) r → If IsFitPlan (where_done r)
done_fit d (Ok x) all fit same = record { draft = fit; binds = subst (AllByRecursion IsFitBind) (sym same) all }
done_fit d (Err e) all fit same = tt

bound_fit : (d : Draft) (mode chord text : List ℕ) → IsFitPlan d → length text ≤ 16777216 → If IsFitPlan (bound_in d mode chord text)
bound_fit d mode chord text fit short = by (is_mode d mode && is_some (batch_of text))
  where
    by : (t : Bool) → If IsFitPlan (cond t (Some (bound d mode chord text)) None)
    by true = record {
      draft = record { few = fit.draft.few; fit = fit.draft.fit; names = fit.draft.names; border = fit.draft.border; inner = fit.draft.inner; outer = fit.draft.outer; layouts = fit.draft.layouts };
      binds = bind_all _ d.binds short fit.binds;
    }
    by false = tt

drafted_keeps : (d : Draft) (said : Said) → IsFitPlan d → IsFitSaid said → If IsFitPlan (drafted d said)
drafted_keeps d (Output o) fit one = done_fit d (with_output d o) fit.binds (output_keeps d o fit.draft one) (output_binds d o)
drafted_keeps d (Border b) fit one = record {
  draft = record { few = fit.draft.few; fit = fit.draft.fit; names = fit.draft.names; border = one; inner = fit.draft.inner; outer = fit.draft.outer; layouts = fit.draft.layouts };
  binds = fit.binds;
}
drafted_keeps d (Inner n) fit one = record {
  draft = record { few = fit.draft.few; fit = fit.draft.fit; names = fit.draft.names; border = fit.draft.border; inner = one; outer = fit.draft.outer; layouts = fit.draft.layouts };
  binds = fit.binds;
}
drafted_keeps d (Outer n) fit one = record {
  draft = record { few = fit.draft.few; fit = fit.draft.fit; names = fit.draft.names; border = fit.draft.border; inner = fit.draft.inner; outer = one; layouts = fit.draft.layouts };
  binds = fit.binds;
}
drafted_keeps d (Mode name) fit one = record {
  draft = record { few = fit.draft.few; fit = fit.draft.fit; names = fit.draft.names; border = fit.draft.border; inner = fit.draft.inner; outer = fit.draft.outer; layouts = fit.draft.layouts };
  binds = fit.binds;
}
drafted_keeps d (Binds mode chord text) fit one = bound_fit d mode chord text fit one
drafted_keeps d (Layout name layout) fit one = record {
  draft = record { few = fit.draft.few; fit = fit.draft.fit; names = fit.draft.names; border = fit.draft.border; inner = fit.draft.inner; outer = fit.draft.outer; layouts = layouts_more d.layouts (name, layout) fit.draft.layouts one };
  binds = fit.binds;
}
drafted_keeps d other fit one = tt

-- ---- one more line

-- what was read with one more line is within the limits, and has one more line of callers at most
record Keeps (r next : Reading) : Type 0 where
  pub fit : IsFitReading r → IsFitReading next
  pub few : length next.lines ≤ length r.lines + 1

planned_keeps : (r next : Reading) (o : Option Draft) → (IsFitReading r → If IsFitPlan o) → planned r o ≡ Some next → Keeps r next
planned_keeps r next None fit e = cc
planned_keeps r next (Some d) fit e = by r.begun e
  where
    by : (t : Bool) → cond t None (Some (record r { opened = true; draft = d })) ≡ Some next → Keeps r next
    by true e = cc
    by false e = subst (λ (o : Option Reading). If (Keeps r) o) e (record {
      fit = λ read. let plan = fit read in record { draft = plan.draft; binds = plan.binds; lines = read.lines };
      few = omega arith;
    })

said_next : (r next : Reading) (said : Said) → IsFitSaid said → with_said r said ≡ Some next → Keeps r next
said_next r next Nothing one e = subst (λ (o : Option Reading). If (Keeps r) o) e (record { fit = λ read. read; few = omega arith })
said_next r next Version one e = by r.opened e
  where
    by : (t : Bool) → cond t None (Some (record r { opened = true })) ≡ Some next → Keeps r next
    by true e = cc
    by false e = subst (λ (o : Option Reading). If (Keeps r) o) e (record { fit = λ read. record { draft = read.draft; binds = read.binds; lines = read.lines }; few = omega arith })
said_next r next (Does line) one e = subst (λ (o : Option Reading). If (Keeps r) o) e (record {
  fit = λ read. record { draft = read.draft; binds = read.binds; lines = all_push IsFitLine r.lines line read.lines one };
  few = omega (arith, length-append r.lines (line ∷ []));
})
said_next r next other one e = planned_keeps r next (drafted r.draft other) (λ read. drafted_keeps r.draft other (record { draft = read.draft; binds = read.binds }) one) e

pub said_fit : (r next : Reading) (said : Said) → IsFitSaid said → with_said r said ≡ Some next → IsFitReading r → IsFitReading next
said_fit r next said one e = (said_next r next said one e).fit

-- a line that was taken adds one line of callers at most
pub taken_few : (r next : Reading) (said : Said) (result : Result Bool NoMemory) → IsFitSaid said → IsTaken (with_said r said) next result → OnTaken result (length next.lines ≤ length r.lines + 1)
taken_few r next said (Ok true) one e = (said_next r next said one e).few
taken_few r next said (Ok false) one e = tt
taken_few r next said (Err x) one e = tt

-- ---- the beginning and the end

pub first_fit : IsFitReading at_first
first_fit = record {
  draft = record { few = blank_fit.few; fit = blank_fit.fit; names = blank_fit.names; border = tt; inner = blank_fit.inner; outer = blank_fit.outer; layouts = blank_fit.layouts };
  binds = tt;
  lines = tt;
}

record AreOutputs (os : List OutputPlan) : Type 0 where
  pub some : 1 ≤ length os
  pub few : length os ≤ 8
  pub fit : FitOutputs os
  pub names : NamesDiffer os

outputs_fit : (os : List OutputPlan) → length os ≤ 8 → FitOutputs os → NamesDiffer os → AreOutputs (or_standard os)
outputs_fit [] few fit names = record { some = omega arith; few = omega arith; fit = ((refl, no_edges), tt); names = (refl, tt) }
outputs_fit (o ∷ os) few fit names = record { some = omega arith; few = few; fit = fit; names = names }

pub script_fit : (r : Reading) (s : Script) → s ≡ script_of r → IsFitReading r → IsFitScript s
script_fit r s is fit =
    let outputs = outputs_fit r.draft.outputs fit.draft.few fit.draft.fit fit.draft.names in
    subst IsFitScript (sym is) (record {
      plan = record {
        some = outputs.some;
        few = outputs.few;
        fit = outputs.fit;
        names = outputs.names;
        border = fit.draft.border;
        inner = fit.draft.inner;
        outer = fit.draft.outer;
        layouts = fit.draft.layouts;
      };
      binds = fit.binds;
      lines = fit.lines;
    })

-- ---- one line after another

pub refused : (count : ℕ) (r : Reading) (text : List ℕ) (texts : List (List ℕ)) → with_text r text ≡ None → script_from count r (text ∷ texts) ≡ Err (count + 1)
refused count r text texts e = ap (λ o. go_on (count + 1) o (λ next. script_from (count + 1) next texts)) e

pub read : (count : ℕ) (r next : Reading) (text : List ℕ) (texts : List (List ℕ)) → with_text r text ≡ Some next → script_from (count + 1) next texts ≡ script_from count r (text ∷ texts)
read count r next text texts e = sym (ap (λ o. go_on (count + 1) o (λ next. script_from (count + 1) next texts)) e)

-- ---- the first bad line

abbrev OnlyOk : Result Script ℕ → Type 0
OnlyOk (Ok s) = Unit {0}
OnlyOk (Err n) = ⊥

ok_or_err : {P : Type 0} (s : Script) (n : ℕ) → Ok s ≡ Err n → P
ok_or_err s n e = absurd (subst OnlyOk e tt)

abbrev number_of : Result Script ℕ → ℕ
number_of (Ok s) = 0
number_of (Err n) = n

-- the bad line among these texts, behind so many lines
record IsFirstBadFrom (count : ℕ) (first : Reading) (texts : List (List ℕ)) (line : ℕ) : Type 0 where
  pub before : List (List ℕ)
  pub text : List ℕ
  pub later : List (List ℕ)
  pub whole : texts ≡ before ++ text ∷ later
  pub counted : line ≡ count + length before + 1
  pub reading : Reading
  pub said : reading_from first before ≡ Some reading
  pub bad : with_text reading text ≡ None

bad_from : (count : ℕ) (first : Reading) (text : List ℕ) (texts : List (List ℕ)) (line : ℕ) (o : Option Reading) → with_text first text ≡ o
    → ((next : Reading) (k : ℕ) → script_from (count + 1) next texts ≡ Err k → IsFirstBadFrom (count + 1) next texts k)
    → go_on (count + 1) o (λ next. script_from (count + 1) next texts) ≡ Err line → IsFirstBadFrom count first (text ∷ texts) line
bad_from count first text texts line None is more e =
    record { before = []; text = text; later = texts; whole = refl; counted = let at : count + 1 ≡ line = ap number_of e in omega (arith, at); reading = first; said = refl; bad = is }
bad_from count first text texts line (Some next) is more e =
    let rest = more next line e in
    record {
      before = text ∷ rest.before;
      text = rest.text;
      later = rest.later;
      whole = ap (λ xs. text ∷ xs) rest.whole;
      counted = omega (arith, rest.counted);
      reading = rest.reading;
      said = ap (λ o. reading_on o (λ n. reading_from n rest.before)) is ∙ rest.said;
      bad = rest.bad;
    }

first_bad_from : (count : ℕ) (first : Reading) (texts : List (List ℕ)) (line : ℕ) → script_from count first texts ≡ Err line → IsFirstBadFrom count first texts line
first_bad_from count first [] line e = ok_or_err (script_of first) line e
first_bad_from count first (text ∷ texts) line e = bad_from count first text texts line (with_text first text) refl (λ next k. first_bad_from (count + 1) next texts k) e

pub first_bad : (texts : List (List ℕ)) (line : ℕ) → script_from 0 at_first texts ≡ Err line → IsFirstBad texts line
first_bad texts line e =
    let b = first_bad_from 0 at_first texts line e in
    record { before = b.before; text = b.text; later = b.later; whole = b.whole; counted = omega (arith, b.counted); reading = b.reading; said = b.said; bad = b.bad }

-- ---- the lines of a script

said_from : (count : ℕ) (texts : List (List ℕ)) (s : Script) (o : Option Reading) → ((next : Reading) → script_from (count + 1) next texts ≡ Ok s → option_map script_of (reading_from next texts) ≡ Some s)
    → go_on (count + 1) o (λ next. script_from (count + 1) next texts) ≡ Ok s → option_map script_of (reading_on o (λ next. reading_from next texts)) ≡ Some s
said_from count texts s None more e = ok_or_err s (count + 1) (sym e)
said_from count texts s (Some next) more e = more next e

abbrev script_in : Script → Result Script ℕ → Script
script_in other (Ok s) = s
script_in other (Err n) = other

says_from : (count : ℕ) (first : Reading) (texts : List (List ℕ)) (s : Script) → script_from count first texts ≡ Ok s → option_map script_of (reading_from first texts) ≡ Some s
says_from count first [] s e = ap (λ r. Some (script_in s r)) e
says_from count first (text ∷ texts) s e = said_from count texts s (with_text first text) (λ next. says_from (count + 1) next texts s) e

pub says : (texts : List (List ℕ)) (s : Script) → script_from 0 at_first texts ≡ Ok s → option_map script_of (reading_from at_first texts) ≡ Some s
says texts s e = says_from 0 at_first texts s e
