-- Printed answers read back.
use Rattle.std.proofs.Common.{◌≡◌, refl, [], ◌∷◌, ◌++◌, Some, codes, arith}
use Rattle.std.specs.Fmt.{decimal}
use Rattle.wm_base.specs.declared.errors.Limit.TheVariants as limits
use Rattle.wm_history.specs.declared.step.Answer.{Answer}
use Rattle.wm_history.specs.declared.step.Answer.TheVariants as answers
use Rattle.wm_habits.proofs.WrittenLemmas.{number_read}
use Rattle.wm_lines.specs.Told.{answer_text}
use Rattle.law_lines.specs.Answers.{IsPlain, answer_of}

pub reads_back : (a : Answer) → IsPlain a → answer_of (answer_text a) ≡ Some a
reads_back answers.Done plain = refl
reads_back (answers.Mapped id) plain = rw (number_read 4294967295 id.0 (10 ∷ []) (omega (arith, plain)) (omega (arith, plain)) refl) refl
reads_back (answers.Replies replies) plain = absurd plain
reads_back answers.Unbound plain = refl
reads_back answers.NoView plain = refl
reads_back answers.Empty plain = refl
reads_back (answers.BadSerial asked last) plain =
    rw (
      number_read 18446744073709551615 asked (codes " " ++ (decimal last ++ 10 ∷ [])) (omega (arith, plain.0)) (omega (arith, plain.0)) refl,
      number_read 18446744073709551615 last (10 ∷ []) (omega (arith, plain.1)) (omega (arith, plain.1)) refl,
    ) refl
reads_back (answers.Full limits.Containers) plain = refl
reads_back (answers.Full limits.Outputs) plain = refl
reads_back (answers.Full limits.Workspaces) plain = refl
reads_back (answers.Full limits.Children) plain = refl
reads_back (answers.Full limits.Depth) plain = refl
reads_back (answers.Full limits.Marks) plain = refl
reads_back (answers.Full limits.Ids) plain = refl
reads_back answers.NameTaken plain = refl
reads_back answers.NoTarget plain = refl
reads_back answers.BadRect plain = refl
