-- What preparing a text says of its refusal.
use Rattle.std.proofs.Common.{◌≡◌, ◌∙◌, refl, ap, sym, subst, ℕ, zero, suc, ◌<◌, ◌≤◌, ◌⊎◌, inl, inr, Bool, true, false, cond, List, [], length, take, Option, None, Some, is_some, arith}
use Rattle.std.specs.Prelude.{slice_get, IsTrue, option_and_then, option_map}
use Rattle.std.proofs.lemmas.List.{append-nil}
use Rattle.wm_history.specs.Act.{text_of}
use Rattle.wm_criteria.specs.Building.{Grew, Log, Tells}
use Rattle.wm_criteria.specs.Patterns.{pattern_at, patterns_of, unless_plain}
use Rattle.wm_criteria.specs.Verdict.{IsVerdict, refused_patterns}
use Rattle.wm_criteria.specs.declared.prepared.Prepared.{Prepared}
use Rattle.wm_criteria.specs.declared.verdict.Verdict.{Verdict}
use Rattle.wm_criteria.specs.declared.verdict.Verdict.TheVariants.{Ready, Bad, PatternRefused}
use Rattle.wm_grammar.specs.Reading.{batch_of, groups_of, is_whole, IsReach}
use Rattle.wm_language.specs.declared.batch.Group.{Group}
use Rattle.wm_script.specs.Out.{text_with}
use Rattle.wm_script.specs.Playing.{IsRefusal, pattern_in}
use Rattle.wm_script.specs.Refusals.{reach, verdict_by}
use Rattle.wm_txn.specs.Commits.{greatest}

-- ---- verdicts

greatest_step : (b : Bool) (m n : ℕ) (rest : ℕ) → (n ≡ suc m → b ≡ true) → (n < suc m → b ≡ false) → n ≤ suc m → (n ≤ m → rest ≡ n) → cond b (suc m) rest ≡ n
greatest_step true m n rest here above within before = by_case (b_or n m within)
  where
    b_or : (n m : ℕ) → n ≤ suc m → (n ≡ suc m) ⊎ (n < suc m)
    b_or zero m h = inr (omega arith)
    b_or (suc n) zero h = inl (omega (arith, h))
    b_or (suc n) (suc m) h = elim (b_or n m (omega (arith, h))) [ inl e ↦ inl (ap (λ k. suc k) e) | inr l ↦ inr (omega (arith, l)) ]

    by_case : (n ≡ suc m) ⊎ (n < suc m) → suc m ≡ n
    by_case (inl e) = sym e
    by_case (inr l) = let bad : true ≡ false = above l in cc
greatest_step false m n rest here above within before = before (by_less n m within (λ e. let bad : false ≡ true = here e in cc))
  where
    by_less : (n m : ℕ) → n ≤ suc m → (n ≡ suc m → ⊥) → n ≤ m
    by_less zero m h not = omega arith
    by_less (suc n) zero h not = absurd (not (omega (arith, h)))
    by_less (suc n) (suc m) h not = let less : n ≤ m = by_less n m (omega (arith, h)) (λ e. not (ap (λ k. suc k) e)) in omega (arith, less)

greatest_is : (test : ℕ → Bool) (m n : ℕ) → n ≤ m → test n ≡ true → ((k : ℕ) → n < k → k ≤ m → test k ≡ false) → greatest test m ≡ n
greatest_is test zero n within holds above = omega (arith, within)
greatest_is test (suc m) n within holds above =
    greatest_step (test (suc m)) m n (greatest test m) (λ e. ap test (sym e) ∙ holds) (λ less. above (suc m) less (omega arith)) within
    (λ less. greatest_is test m n less holds (λ k more most. above k more (omega (arith, most))))

pub reach_is : (text : List ℕ) (n : ℕ) → IsReach text n → n ≡ reach text
reach_is text n r = sym (greatest_is (λ k. is_whole (take k text)) (length text) n r.within r.whole r.greatest)

no_pattern : (text : List ℕ) (k : ℕ) → groups_of text ≡ None → IsTrue (is_some (unless_plain (pattern_at text k))) → ⊥
no_pattern text k e refusable =
    let none : pattern_at text k ≡ None = ap (λ gs. option_and_then (λ g. slice_get (patterns_of g) k) gs) e in
    let bad : false ≡ true = subst (λ o. IsTrue (is_some (unless_plain o))) none refusable in
    cc

pub reads_pattern : (text : List ℕ) (k : ℕ) (gs : Option (List Group)) → groups_of text ≡ gs → IsTrue (is_some (unless_plain (pattern_at text k))) → verdict_by (batch_of text) (Some k) text ≡ PatternRefused k
reads_pattern text k None e refusable = absurd (no_pattern text k e refusable)
reads_pattern text k (Some gs) e refusable = ap (λ x. verdict_by (option_map (λ g. record { groups = g }) x) (Some k) text) e

-- the verdict on a text is the one that its refusal makes of it
verdict_is : (text : List ℕ) (v : Verdict) → IsVerdict text v → v ≡ verdict_by (batch_of text) (pattern_in v) text
verdict_is text (Ready batch) is = sym (ap (λ b. verdict_by b None text) is)
verdict_is text (Bad at) is = sym (ap (λ b. verdict_by b None text) is.0 ∙ ap (λ k. Bad k) (sym (reach_is text at is.1)))
verdict_is text (PatternRefused k) is = sym (reads_pattern text k (groups_of text) refl is)

-- a prepared text counts with its refusal
pub judged : (p : Prepared) (text : List ℕ) (noted : Option ℕ) → p.text ≡ text → IsVerdict text p.verdict → noted ≡ pattern_in p.verdict → text_of p ≡ text_with noted text
judged p text noted same is at =
    ap (λ t. record { text = t; verdict = p.verdict }) same
    ∙ ap (λ v. record { text = text; verdict = v }) (verdict_is text p.verdict is ∙ ap (λ n. verdict_by (batch_of text) n text) (sym at))

refused_by_verdict : (text : List ℕ) (v : Verdict) (old new : Log) → IsVerdict text v → Grew old new (refused_patterns text v) → IsRefusal (Some text) (pattern_in v) old new
refused_by_verdict text (Ready batch) old new is grew = grew
refused_by_verdict text (Bad at) old new is grew = grew
refused_by_verdict text (PatternRefused k) old new is grew = (is, grew)

-- the pattern that is noted was refused
pub was_refused : (text : List ℕ) (v : Verdict) (noted : Option ℕ) (old new : Log) → IsVerdict text v → noted ≡ pattern_in v → Grew old new (refused_patterns text v) → IsRefusal (Some text) noted old new
was_refused text v noted old new is at grew = subst (λ n. IsRefusal (Some text) n old new) (sym at) (refused_by_verdict text v old new is grew)

-- ---- nothing was refused

tells_nothing : (t : Option (List (List ℕ))) → Tells t t []
tells_nothing None = tt
tells_nothing (Some told) = ap (λ xs. Some xs) (sym (append-nil told))

pub grew_none : (log : Log) → Grew log log []
grew_none log = record { kept = omega arith; rose = omega arith; told = tells_nothing log.texts }

pub none_refused : (text : Option (List ℕ)) (noted : Option ℕ) (log : Log) → noted ≡ None → IsRefusal text noted log log
none_refused text noted log none = subst (λ n. IsRefusal text n log log) (sym none) (grew_none log)
