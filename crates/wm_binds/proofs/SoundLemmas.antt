-- What is read is within the limits of a plan.
use Rattle.std.proofs.Common.{◌≡◌, ◌∙◌, refl, ap, sym, subst, Bool, true, false, ◌||◌, cond, ℕ, ◌+◌, ◌≤◌, List, [], ◌∷◌, ◌++◌, length, length-append, Option, None, Some, Result, Ok, Err, arith}
use Rattle.std.specs.Prelude.{◌-◌, codes, nat_le, nat_lt}
use Rattle.std.specs.Str.{bytes_eq, is_utf8}
use Rattle.std.proofs.lemmas.Bool.{ltb-true}
use Rattle.std.proofs.lemmas.Slice.Eq.{bytes_eq-Decides}
use Rattle.wm_base.specs.declared.plan.OutputPlan.{OutputPlan}
use Rattle.wm_layouts.specs.Plan.{FitLayouts, FitOutputs, IsFitEdges, IsFitOutput, IsSound, NamesDiffer, is_taken}
use Rattle.wm_saved.specs.declared.saved.SavedLayout.{SavedLayout}
use Rattle.wm_fields.specs.Split.{lines_of}
use Rattle.wm_binds.specs.Letters.{end}
use Rattle.wm_binds.specs.LettersReading.{read_by}
use Rattle.wm_binds.specs.declared.config.Config.{Config}
use Rattle.wm_binds.proofs.ReadingLemmas.{read_is}
use Rattle.wm_binds.specs.Blocks.{at_block, at_top, blank_draft, in_bar, in_mode, with_output}
use Rattle.wm_binds.specs.Fit.{IsFitDraft, IsFitEntry, IsFitLayout}
use Rattle.wm_binds.specs.Lines.{entry_of}
use Rattle.wm_binds.specs.Naming.{longest, replaced, set_at, set_line}
use Rattle.wm_binds.specs.Reading as reading
use Rattle.wm_binds.specs.Words.{past_blanks}
use Rattle.wm_binds.specs.declared.draft.Block.{Block}
use Rattle.wm_binds.specs.declared.draft.Block.TheVariants as block
use Rattle.wm_binds.specs.declared.draft.Draft.{Draft}
use Rattle.wm_binds.specs.declared.draft.LineRefusal.{LineRefusal}
use Rattle.wm_binds.specs.declared.draft.LineRefusal.TheVariants as faults
use Rattle.wm_binds.specs.declared.entry.Entry.{Entry}
use Rattle.wm_binds.specs.declared.entry.Entry.TheVariants.{Nothing, Passed, Bar, Mode, Close, Key, Border, Inner, Outer, Home, Output, Layout}
use Rattle.wm_binds.specs.declared.naming.Name.{Name}
use Rattle.wm_binds.proofs.EntryLemmas.{If, entry_if}

-- ---- what was read so far

abbrev pub IfRead : {A E : Type 0} → (A → Type 0) → Result A E → Type 0
IfRead P (Ok x) = P x
IfRead P (Err e) = Unit {0}

or_false : (b : Bool) → (b || false) ≡ b
or_false true = refl
or_false false = refl

or_or : (a b c : Bool) → (a || (b || c)) ≡ ((a || b) || c)
or_or true b c = refl
or_or false b c = refl

taken_more : (n : List ℕ) (os : List OutputPlan) (o : OutputPlan) → is_taken n (os ++ o ∷ []) ≡ (is_taken n os || bytes_eq o.name n)
taken_more n [] o = or_false (bytes_eq o.name n)
taken_more n (p ∷ os) o = ap (λ b. bytes_eq p.name n || b) (taken_more n os o) ∙ or_or (bytes_eq p.name n) (is_taken n os) (bytes_eq o.name n)

other_way : (a b : List ℕ) → bytes_eq a b ≡ false → bytes_eq b a ≡ false
other_way a b e = by (bytes_eq b a) refl
  where
    by : (x : Bool) → bytes_eq b a ≡ x → x ≡ false
    by false same = refl
    by true same = let yes : bytes_eq a b ≡ true = (bytes_eq-Decides a b).1 (sym ((bytes_eq-Decides b a).0 same)) in cc

neither : (a b : Bool) → (a || b) ≡ false → (a ≡ false) × (b ≡ false)
neither true b e = cc
neither false b e = (refl, e)

differ_more : (os : List OutputPlan) (o : OutputPlan) → NamesDiffer os → is_taken o.name os ≡ false → NamesDiffer (os ++ o ∷ [])
differ_more [] o d new = (refl, tt)
differ_more (p ∷ os) o d new =
    let parts = neither (bytes_eq p.name o.name) (is_taken o.name os) new in
    (taken_more p.name os o ∙ (ap (λ b. b || bytes_eq o.name p.name) d.0 ∙ other_way p.name o.name parts.0), differ_more os o d.1 parts.1)

fit_more : (os : List OutputPlan) (o : OutputPlan) → FitOutputs os → IsFitOutput o → FitOutputs (os ++ o ∷ [])
fit_more [] o fit one = (one, tt)
fit_more (p ∷ os) o fit one = (fit.0, fit_more os o fit.1 one)

pub layouts_more : (ls : List (List ℕ × SavedLayout)) (l : List ℕ × SavedLayout) → FitLayouts ls → IsFitLayout l.1 → FitLayouts (ls ++ l ∷ [])
layouts_more [] l fit one = (one, tt)
layouts_more (x ∷ ls) l fit one = (fit.0, layouts_more ls l fit.1 one)

pub output_keeps : (d : Draft) (o : OutputPlan) → IsFitDraft d → IsFitOutput o → IfRead IsFitDraft (with_output d o)
output_keeps d o fit one = by (is_taken o.name d.outputs) (nat_lt (length d.outputs) 8) refl refl
  where
    by : (a b : Bool) → is_taken o.name d.outputs ≡ a → nat_lt (length d.outputs) 8 ≡ b
        → IfRead {E = LineRefusal} IsFitDraft (cond a (Err faults.Outside) (cond b (Ok (record d { outputs = d.outputs ++ o ∷ [] })) (Err faults.Full)))
    by true b e f = tt
    by false true e f =
        record {
          few = omega (arith, length-append d.outputs (o ∷ []), ltb-true (length d.outputs) 8 f);
          fit = fit_more d.outputs o fit.fit one;
          names = differ_more d.outputs o fit.names e;
          border = fit.border;
          inner = fit.inner;
          outer = fit.outer;
          layouts = fit.layouts;
        }
    by false false e f = tt

top_keeps : (d : Draft) (e : Entry) → IsFitDraft d → IsFitEntry e → IfRead IsFitDraft (at_top d e)
top_keeps d Nothing fit one = fit
top_keeps d Passed fit one = fit
top_keeps d Bar fit one = record { few = fit.few; fit = fit.fit; names = fit.names; border = fit.border; inner = fit.inner; outer = fit.outer; layouts = fit.layouts }
top_keeps d (Mode name) fit one = record { few = fit.few; fit = fit.fit; names = fit.names; border = fit.border; inner = fit.inner; outer = fit.outer; layouts = fit.layouts }
top_keeps d Close fit one = tt
top_keeps d (Key chord text) fit one = record { few = fit.few; fit = fit.fit; names = fit.names; border = fit.border; inner = fit.inner; outer = fit.outer; layouts = fit.layouts }
top_keeps d (Border b) fit one = record { few = fit.few; fit = fit.fit; names = fit.names; border = one; inner = fit.inner; outer = fit.outer; layouts = fit.layouts }
top_keeps d (Inner n) fit one = record { few = fit.few; fit = fit.fit; names = fit.names; border = fit.border; inner = one; outer = fit.outer; layouts = fit.layouts }
top_keeps d (Outer n) fit one = record { few = fit.few; fit = fit.fit; names = fit.names; border = fit.border; inner = fit.inner; outer = one; layouts = fit.layouts }
top_keeps d (Home name output) fit one = record { few = fit.few; fit = fit.fit; names = fit.names; border = fit.border; inner = fit.inner; outer = fit.outer; layouts = fit.layouts }
top_keeps d (Output o) fit one = output_keeps d o fit one
top_keeps d (Layout name layout) fit one =
    record { few = fit.few; fit = fit.fit; names = fit.names; border = fit.border; inner = fit.inner; outer = fit.outer; layouts = layouts_more d.layouts (name, layout) fit.layouts one }

kept : (d : Draft) (b : Block) → IsFitDraft d → IsFitDraft (at_block d b)
kept d b fit = record { few = fit.few; fit = fit.fit; names = fit.names; border = fit.border; inner = fit.inner; outer = fit.outer; layouts = fit.layouts }

mode_keeps : (d : Draft) (mode : List ℕ) (e : Entry) → IsFitDraft d → IfRead IsFitDraft (in_mode d mode e)
mode_keeps d mode Nothing fit = fit
mode_keeps d mode (Key chord text) fit = record { few = fit.few; fit = fit.fit; names = fit.names; border = fit.border; inner = fit.inner; outer = fit.outer; layouts = fit.layouts }
mode_keeps d mode Close fit = kept d block.Top fit
mode_keeps d mode other fit = tt

entered_keeps : (d : Draft) (b : Block) (e : Entry) → IsFitDraft d → IsFitEntry e → IfRead IsFitDraft (reading.entered d b e)
entered_keeps d block.Top e fit one = top_keeps d e fit one
entered_keeps d (block.Mode name) e fit one = mode_keeps d name e fit
entered_keeps d block.Bar e fit one = fit

bar_keeps : (d : Draft) (text : List ℕ) → IsFitDraft d → IsFitDraft (in_bar d text)
bar_keeps d text fit = by (bytes_eq (past_blanks text) (codes "}"))
  where
    by : (t : Bool) → IsFitDraft (cond t (at_block d block.Top) d)
    by true = kept d block.Top fit
    by false = fit

abbrev FitAfter : List Name × Draft → Type 0
FitAfter after = IsFitDraft after.1

outside_keeps : (d : Draft) (o : Option Entry) → IsFitDraft d → If IsFitEntry o → IfRead IsFitDraft (reading.or_outside o (reading.entered d d.block))
outside_keeps d None fit one = tt
outside_keeps d (Some e) fit one = entered_keeps d d.block e fit one

draft_keeps : (names : List Name) (r : Result Draft LineRefusal) → IfRead IsFitDraft r → IfRead FitAfter (reading.with_draft names r)
draft_keeps names (Ok d) fit = fit
draft_keeps names (Err e) fit = tt

with_room : (d : Draft) (n : ℕ) → IsFitDraft d → IsFitDraft (record d { room = n })
with_room d n fit = record { few = fit.few; fit = fit.fit; names = fit.names; border = fit.border; inner = fit.inner; outer = fit.outer; layouts = fit.layouts }

-- what is read is kept where what is done with it is
read_in_keeps : {A : Type 0} (P : A → Type 0) (d : Draft) (text : List ℕ) (go : Draft → Result A LineRefusal) → IsFitDraft d → ((e : Draft) → IsFitDraft e → IfRead P (go e)) → IfRead P (reading.read_in d text go)
read_in_keeps P d text go fit keeps = by (nat_le (length text) d.room)
  where
    by : (t : Bool) → IfRead P (cond t (go (record d { room = d.room - length text })) (Err faults.Outside))
    by true = keeps (record d { room = d.room - length text }) (with_room d (d.room - length text) fit)
    by false = tt

set_keeps : (names : List Name) (d : Draft) (o : Option Name) → IsFitDraft d → IfRead FitAfter (reading.or_outside o (λ n. reading.read_in d n.value (λ e. Ok (n ∷ names, e))))
set_keeps names d None fit = tt
set_keeps names d (Some n) fit = read_in_keeps FitAfter d n.value (λ e. Ok (n ∷ names, e)) fit (λ e kept. kept)

names_keep : (names : List Name) (d : Draft) (b : Block) (text : List ℕ) → IsFitDraft d → IfRead FitAfter (reading.names_after names d b text)
names_keep names d block.Top text fit = set_keeps names d (set_at (longest names) text) fit
names_keep names d (block.Mode name) text fit = tt
names_keep names d block.Bar text fit = tt

either_keeps : (names : List Name) (d : Draft) (text : List ℕ) (o : Option (List ℕ)) → IsFitDraft d → IfRead FitAfter (reading.set_or_entered names d text o)
either_keeps names d text None fit =
    draft_keeps names (reading.read_in d (replaced (longest names) text) (λ e. reading.or_outside (entry_of (replaced (longest names) text)) (reading.entered e e.block)))
    (read_in_keeps IsFitDraft d (replaced (longest names) text) (λ e. reading.or_outside (entry_of (replaced (longest names) text)) (reading.entered e e.block)) fit
    (λ e kept. outside_keeps e (entry_of (replaced (longest names) text)) kept (entry_if (replaced (longest names) text))))
either_keeps names d text (Some rest) fit = names_keep names d d.block rest fit

text_keeps : (names : List Name) (d : Draft) (b : Block) (text : List ℕ) → IsFitDraft d → IfRead FitAfter (reading.after_text names d b text)
text_keeps names d block.Top text fit = either_keeps names d text (set_line text) fit
text_keeps names d (block.Mode name) text fit = either_keeps names d text (set_line text) fit
text_keeps names d block.Bar text fit = bar_keeps d text fit

line_keeps : (names : List Name) (d : Draft) (text : List ℕ) → IsFitDraft d → IfRead FitAfter (reading.after_line names d text)
line_keeps names d text fit = by (is_utf8 text)
  where
    by : (t : Bool) → IfRead FitAfter (cond t (reading.after_text names d d.block text) (Err faults.Outside))
    by true = text_keeps names d d.block text fit
    by false = tt

-- ---- all lines

end_keeps : (count : ℕ) (d : Draft) (b : Block) → IsFitDraft d → IfRead IsFitDraft (reading.at_end count d b)
end_keeps count d block.Top fit = fit
end_keeps count d (block.Mode name) fit = tt
end_keeps count d block.Bar fit = tt

on_kept : (count : ℕ) (texts : List (List ℕ)) (r : Result (List Name × Draft) LineRefusal) → IfRead FitAfter r
    → ((names : List Name) (d : Draft) → IsFitDraft d → IfRead IsFitDraft (reading.read_from count names d texts))
    → IfRead IsFitDraft (reading.go_on count r (λ names d. reading.read_from count names d texts))
on_kept count texts (Ok after) fit more = more after.0 after.1 fit
on_kept count texts (Err e) fit more = tt

read_keeps : (texts : List (List ℕ)) (count : ℕ) (names : List Name) (d : Draft) → IsFitDraft d → IfRead IsFitDraft (reading.read_from count names d texts)
read_keeps [] count names d fit = end_keeps count d d.block fit
read_keeps (text ∷ texts) count names d fit = on_kept (count + 1) texts (reading.after_line names d text) (line_keeps names d text fit) (read_keeps texts (count + 1))

pub blank_fit : IsFitDraft blank_draft
blank_fit = record { few = omega arith; fit = tt; names = tt; border = omega arith; inner = omega arith; outer = omega arith; layouts = tt }

-- ---- the plan

pub no_edges : IsFitEdges (record { top = 0; right = 0; bottom = 0; left = 0 })
no_edges = record { top = omega arith; right = omega arith; bottom = omega arith; left = omega arith }

pub record IsFitOutputs (os : List OutputPlan) : Type 0 where
  pub some : 1 ≤ length os
  pub few : length os ≤ 8
  pub fit : FitOutputs os
  pub names : NamesDiffer os

outputs_fit : (os : List OutputPlan) → length os ≤ 8 → FitOutputs os → NamesDiffer os → IsFitOutputs (reading.or_one_output os)
outputs_fit [] few fit names = record { some = omega arith; few = omega arith; fit = ((refl, no_edges), tt); names = (refl, tt) }
outputs_fit (o ∷ os) few fit names = record { some = omega arith; few = few; fit = fit; names = names }

plan_sound : (text : List ℕ) (d : Draft) → IsFitDraft d → IsSound (reading.plan_of text d)
plan_sound text d fit =
    let outputs = outputs_fit d.outputs fit.few fit.fit fit.names in
    record {
      some = outputs.some;
      few = outputs.few;
      fit = outputs.fit;
      names = outputs.names;
      border = fit.border;
      inner = fit.inner;
      outer = fit.outer;
      layouts = fit.layouts;
    }

-- the plan of a configuration is sound
pub config_sound : (text : List ℕ) (d : Draft) (c : Config) → c ≡ reading.config_of text d → read_by 0 end blank_draft (lines_of text) ≡ Ok d → IsSound c.plan
config_sound text d c is e =
    let read : reading.read_from 0 [] blank_draft (lines_of text) ≡ Ok d = sym (read_is (lines_of text)) ∙ e in
    let fit : IsFitDraft d = subst (IfRead IsFitDraft) read (read_keeps (lines_of text) 0 [] blank_draft blank_fit) in
    subst (λ x. IsSound x.plan) (sym is) (plan_sound text d fit)
