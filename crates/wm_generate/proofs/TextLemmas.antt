-- The texts that are run read, and have no patterns.
use Rattle.std.proofs.Common.{◌≡◌, ℕ, ◌%◌, ◌/◌, Bool, true, false, List, [], Option, None, Some, Result, Ok, Err, refl, sym, subst}
use Rattle.std.specs.Prelude.{IfOk, IsTrue, ◌==◌, ◌||◌, if◌then◌else◌, is_some, option_map, unwrap_or, codes}
use Rattle.wm_language.specs.declared.batch.Batch.{Batch}
use Rattle.wm_language.specs.declared.batch.Group.{Group}
use Rattle.wm_grammar.specs.Reading.{groups_of}
use Rattle.wm_criteria.specs.Forms.{are_plain, has_forms}
use Rattle.wm_criteria.specs.Verdict.{IsVerdict, OnRefusal}
use Rattle.wm_criteria.specs.declared.prepared.Prepared.{Prepared}
use Rattle.wm_criteria.specs.Prepared.{is_built}
use Rattle.wm_criteria.specs.declared.verdict.Verdict.{Verdict}
use Rattle.wm_criteria.specs.declared.verdict.Verdict.TheVariants.{Ready, Bad, PatternRefused}
use Rattle.wm_grammar.specs.Reading as G
use Rattle.wm_grammar.specs.Openings as O
use Rattle.wm_words.specs.Pieces as W
use Rattle.wm_words.specs.Forms as F
use Rattle.std.specs.Str as S
use Rattle.wm_generate.specs.Texts.{has_plain, ready, reads_plain, showing, text_by}

either : (test : Bool) (a b : List ℕ) → IsTrue (reads_plain a) → IsTrue (reads_plain b) → IsTrue (reads_plain (if test then a else b))
either true a b p q = p
either false a b p q = q

showing_reads : (n : ℕ) → IsTrue (reads_plain (showing n))
unfolding G.groups_of G.groups_at G.group_at G.criteria_part G.commands_at O.command_at O.verb_command O.first_finished O.finished O.opened O.targets_opened O.focus_opened O.move_to_opened O.move_opened O.text_at O.made W.until W.from W.has W.skip W.trim_end W.is_word W.is_text W.single W.digits_from W.natural W.argument W.unquote F.verb_of F.past_px F.past_to F.split_form F.layout_form F.only_output F.focus_word F.focus_form F.move_by F.position_form F.move_to_form F.past_one_to F.move_workspace_form F.move_form F.plain_form S.is_utf8 S.chars lib.Utf8.encode
showing_reads n =
    either (n % 4 == 0) (codes "workspace number 1") _ refl (either (n % 4 == 1) (codes "workspace number 2") _ refl
    (either (n % 4 == 2) (codes "workspace number 3") (codes "workspace number 4") refl refl))

-- each text reads, and has no pattern that is to be built
pub text_reads : (q : ℕ) → IsTrue (reads_plain (text_by q))
unfolding G.groups_of G.groups_at G.group_at G.criteria_part G.commands_at O.command_at O.verb_command O.first_finished O.finished O.opened O.targets_opened O.focus_opened O.move_to_opened O.move_opened O.text_at O.made W.until W.from W.has W.skip W.trim_end W.is_word W.is_text W.single W.digits_from W.natural W.argument W.unquote F.verb_of F.past_px F.past_to F.split_form F.layout_form F.only_output F.focus_word F.focus_form F.move_by F.position_form F.move_to_form F.past_one_to F.move_workspace_form F.move_form F.plain_form S.is_utf8 S.chars lib.Utf8.encode
text_reads q =
    either (q % 8 == 0) (codes "split toggle") _ refl (either (q % 8 == 1) (codes "layout toggle all") _ refl
    (either (q % 8 == 2) (codes "focus left") _ refl (either (q % 8 == 3) (codes "focus right") _ refl
    (either (q % 8 == 4) (codes "move left") _ refl (either (q % 8 == 5) (codes "move right") _ refl
    (either (q % 8 == 6) (codes "floating toggle") (showing (q / 8)) refl (showing_reads (q / 8))))))))

ready_by : (o : Option (List Group)) (b : Batch) → option_map (λ gs. record { groups = gs }) o ≡ Some b → Ready b ≡ Ready (record { groups = unwrap_or o [] })
ready_by None b e = cc
ready_by (Some gs) b e = cc

never_bad : (o : Option (List Group)) {A : Type 0} → IsTrue (has_plain o) → option_map {U = Batch} (λ gs. record { groups = gs }) o ≡ None → A
never_bad None plain e = cc
never_bad (Some gs) plain e = cc

-- what reading such a text says
pub is_ready : (text : List ℕ) (v : Verdict) → IsTrue (reads_plain text) → IsVerdict text v → OnRefusal v ⊥ → v ≡ ready text
is_ready text (Ready batch) plain is never = ready_by (groups_of text) batch is
is_ready text (Bad at) plain is never = never_bad (groups_of text) plain is.0
is_ready text (PatternRefused n) plain is never = absurd never

built_by : (o : Option (List Group)) (forms : Bool) → IsTrue (has_plain o) → IsTrue (forms || are_plain (unwrap_or o []))
built_by None forms plain = cc
built_by (Some gs) true plain = refl
built_by (Some gs) false plain = plain

-- such a text needs no built patterns
pub ready_built : (text : List ℕ) (p : Prepared) → IsTrue (reads_plain text) → p.verdict ≡ ready text → IsTrue (is_built p)
ready_built text p plain is =
    subst (λ v. IsTrue (has_forms v p.forms)) (sym is) (built_by (groups_of text) (is_some p.forms) plain)

module _ (q : ℕ) where
  ready_as : (text : List ℕ) (p : Prepared) → text ≡ text_by q → IsVerdict text p.verdict → OnRefusal p.verdict ⊥ → p.verdict ≡ ready (text_by q)
  ready_as text p is verdict never = is_ready (text_by q) p.verdict (text_reads q) (subst (λ t. IsVerdict t p.verdict) is verdict) never

  -- the verdict on a prepared text
  pub prepared_ready : {E : Type 0} (text : List ℕ) (r : Result Prepared E) → text ≡ text_by q → IfOk r (λ p. IsVerdict text p.verdict) → IfOk r (λ p. OnRefusal p.verdict ⊥)
      → IfOk r (λ p. p.verdict ≡ ready (text_by q))
  prepared_ready text (Ok p) is verdict never = ready_as text p is verdict never
  prepared_ready text (Err e) is verdict never = tt

  -- and it needs no built patterns
  pub prepared_built : {E : Type 0} (text : List ℕ) (r : Result Prepared E) → text ≡ text_by q → IfOk r (λ p. IsVerdict text p.verdict) → IfOk r (λ p. OnRefusal p.verdict ⊥)
      → IfOk r (λ p. IsTrue (is_built p))
  prepared_built text (Ok p) is verdict never = ready_built (text_by q) p (text_reads q) (ready_as text p is verdict never)
  prepared_built text (Err e) is verdict never = tt
