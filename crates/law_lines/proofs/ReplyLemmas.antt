-- Different answers are printed differently.
use Rattle.std.proofs.Common.{◌≡◌, ◌∙◌, refl, ap, sym, ℕ, List, [], ◌∷◌, ◌++◌, Option, None, Some, codes, map, arith}
use Rattle.std.specs.Fmt.{decimal}
use Rattle.std.specs.List.{AllByRecursion, join_with_byte}
use Rattle.std.proofs.lemmas.List.{append_assoc, append_cancel_right}
use Rattle.wm_base.specs.ErrorText.{text_of}
use Rattle.wm_base.specs.declared.errors.ErrorText.{ErrorText}
use Rattle.wm_base.specs.declared.errors.ErrorText.TheVariants as errors
use Rattle.wm_history.specs.declared.step.Answer.{Answer}
use Rattle.wm_history.specs.declared.step.Answer.TheVariants as answers
use Rattle.wm_fields.specs.Fields.{behind, number_at, or_else, or_none}
use Rattle.wm_habits.proofs.WrittenLemmas.{number_read}
use Rattle.wm_json.specs.Replies.{reply_text, replies_text}
use Rattle.wm_json.specs.declared.replies.Reply.{Reply}
use Rattle.wm_json.specs.declared.replies.Reply.TheVariants as replies
use Rattle.wm_lines.specs.Told.{answer_text}
use Rattle.law_lines.proofs.AnswerLemmas.{reads_back}
use Rattle.law_lines.specs.Answers.{IsFitAnswer, IsFitReply, IsPlain, answer_of}

abbrev of_some : {A : Type 0} → A → Option A → A
of_some x None = x
of_some x (Some y) = y

same_some : {A : Type 0} (x y : A) → Some x ≡ Some y → x ≡ y
same_some x y e = ap (of_some x) e

-- ---- one reply is read

abbrev error_text : ErrorText → List ℕ
error_text error = codes "{\"error\":\"" ++ text_of error ++ codes "\",\"success\":false}"

-- this error, where its object stands there, or else another reading
abbrev or_error : ErrorText → List ℕ → Option (Reply × List ℕ) → Option (Reply × List ℕ)
or_error error text other = or_else (behind (error_text error) text) (λ rest. Some (replies.Error error, rest)) other

abbrev errors_at : List ℕ → Option (Reply × List ℕ)
errors_at text =
    or_error errors.NoMatch text (
    or_error errors.NotWindow text (
    or_error errors.NotTiled text (
    or_error errors.NotFloating text (
    or_error errors.NoNeighbour text (
    or_error errors.NoOutput text (
    or_error errors.NoWorkspace text (
    or_error errors.NoMark text (
    or_error errors.NoContainer text (
    or_error errors.NoMode text (
    or_error errors.NoLayout text (
    or_error errors.NameTaken text (
    or_error errors.AtWorkspace text (
    or_error errors.ManyMatch text (
    or_error errors.NameReserved text (
    or_error errors.NoPrevious text (
    or_error errors.CannotResize text (
    or_error errors.OutOfRange text (
    or_error errors.SameContainer text (
    or_error errors.FullContainers text (
    or_error errors.FullWorkspaces text (
    or_error errors.FullChildren text (
    or_error errors.FullDepth text (
    or_error errors.FullMarks text (
    or_error errors.FullIds text (
    or_error errors.ScratchEmpty text (
    or_error errors.NoCriteria text (
    None)))))))))))))))))))))))))))

abbrev parse_at : List ℕ → Option (Reply × List ℕ)
parse_at text = or_none (number_at 18446744073709551615 text) (λ at. or_none (behind (codes "\",\"parse_error\":true,\"success\":false}") at.1) (λ rest. Some (replies.Parse at.0, rest)))

abbrev pattern_at : List ℕ → Option (Reply × List ℕ)
pattern_at text = or_none (number_at 4294967295 text) (λ n. or_none (behind (codes " is refused\",\"success\":false}") n.1) (λ rest. Some (replies.Pattern n.0, rest)))

-- a reply, and what is behind it
abbrev reply_at : List ℕ → Option (Reply × List ℕ)
reply_at text =
    or_else (behind (codes "{\"success\":true}") text) (λ rest. Some (replies.Ok, rest))
    (or_else (behind (codes "{\"error\":\"parse error at byte ") text) parse_at
    (or_else (behind (codes "{\"error\":\"pattern ") text) pattern_at (errors_at text)))

error_reads : (error : ErrorText) (rest : List ℕ) → reply_at (reply_text (replies.Error error) ++ rest) ≡ Some (replies.Error error, rest)
error_reads errors.NoMatch rest = refl
error_reads errors.NotWindow rest = refl
error_reads errors.NotTiled rest = refl
error_reads errors.NotFloating rest = refl
error_reads errors.NoNeighbour rest = refl
error_reads errors.NoOutput rest = refl
error_reads errors.NoWorkspace rest = refl
error_reads errors.NoMark rest = refl
error_reads errors.NoContainer rest = refl
error_reads errors.NoMode rest = refl
error_reads errors.NoLayout rest = refl
error_reads errors.NameTaken rest = refl
error_reads errors.AtWorkspace rest = refl
error_reads errors.ManyMatch rest = refl
error_reads errors.NameReserved rest = refl
error_reads errors.NoPrevious rest = refl
error_reads errors.CannotResize rest = refl
error_reads errors.OutOfRange rest = refl
error_reads errors.SameContainer rest = refl
error_reads errors.FullContainers rest = refl
error_reads errors.FullWorkspaces rest = refl
error_reads errors.FullChildren rest = refl
error_reads errors.FullDepth rest = refl
error_reads errors.FullMarks rest = refl
error_reads errors.FullIds rest = refl
error_reads errors.ScratchEmpty rest = refl
error_reads errors.NoCriteria rest = refl

reply_reads : (r : Reply) (rest : List ℕ) → IsFitReply r → reply_at (reply_text r ++ rest) ≡ Some (r, rest)
reply_reads replies.Ok rest fit = refl
reply_reads (replies.Error error) rest fit = error_reads error rest
reply_reads (replies.Parse at) rest fit =
    ap (λ t. reply_at (codes "{\"error\":\"parse error at byte " ++ t)) (append_assoc (decimal at) (codes "\",\"parse_error\":true,\"success\":false}") rest)
    ∙ rw (number_read 18446744073709551615 at (codes "\",\"parse_error\":true,\"success\":false}" ++ rest) (omega (arith, fit)) (omega (arith, fit)) refl) refl
reply_reads (replies.Pattern n) rest fit =
    ap (λ t. reply_at (codes "{\"error\":\"pattern " ++ t)) (append_assoc (decimal n) (codes " is refused\",\"success\":false}") rest)
    ∙ rw (number_read 4294967295 n (codes " is refused\",\"success\":false}" ++ rest) (omega (arith, fit)) (omega (arith, fit)) refl) refl

-- two replies that are printed alike are one
record AreSame (a b : Reply) (x y : List ℕ) : Type 0 where
  pub reply : a ≡ b
  pub rest : x ≡ y

replies_same : (a b : Reply) (x y : List ℕ) → IsFitReply a → IsFitReply b → reply_text a ++ x ≡ reply_text b ++ y → AreSame a b x y
replies_same a b x y fit_a fit_b e =
    let both : (a, x) ≡ (b, y) = same_some (a, x) (b, y) (sym (reply_reads a x fit_a) ∙ (ap reply_at e ∙ reply_reads b y fit_b)) in
    record { reply = ap (λ p. p.0) both; rest = ap (λ p. p.1) both }

-- ---- all replies are read

abbrev first_of : List ℕ → ℕ
first_of [] = 0
first_of (c ∷ cs) = c

reply_first : (r : Reply) (rest : List ℕ) → first_of (reply_text r ++ rest) ≡ 123
reply_first replies.Ok rest = refl
reply_first (replies.Error error) rest = refl
reply_first (replies.Parse at) rest = refl
reply_first (replies.Pattern n) rest = refl

abbrev joined : List Reply → List ℕ
joined given = join_with_byte 44 (map reply_text given)

end_first : (b : Reply) (rest : List ℕ) → 93 ∷ [] ≡ reply_text b ++ rest → ⊥
end_first b rest e = let same : 93 ≡ 123 = ap first_of e ∙ reply_first b rest in absurd (omega (arith, same))

comma_first : (xs ys : List ℕ) → 93 ∷ xs ≡ 44 ∷ ys → ⊥
comma_first xs ys e = let same : 93 ≡ 44 = ap first_of e in absurd (omega (arith, same))

abbrev tail_of : List ℕ → List ℕ
tail_of [] = []
tail_of (c ∷ cs) = cs

joined_same : (ps qs : List Reply) → AllByRecursion IsFitReply ps → AllByRecursion IsFitReply qs → joined ps ++ 93 ∷ [] ≡ joined qs ++ 93 ∷ [] → ps ≡ qs
joined_same [] [] fit_a fit_b e = refl
joined_same [] (b ∷ []) fit_a fit_b e = absurd (end_first b (93 ∷ []) e)
joined_same [] (b ∷ d ∷ qs) fit_a fit_b e = absurd (end_first b ((44 ∷ joined (d ∷ qs)) ++ 93 ∷ []) (e ∙ append_assoc (reply_text b) (44 ∷ joined (d ∷ qs)) (93 ∷ [])))
joined_same (a ∷ []) [] fit_a fit_b e = absurd (end_first a (93 ∷ []) (sym e))
joined_same (a ∷ c ∷ ps) [] fit_a fit_b e = absurd (end_first a ((44 ∷ joined (c ∷ ps)) ++ 93 ∷ []) (sym e ∙ append_assoc (reply_text a) (44 ∷ joined (c ∷ ps)) (93 ∷ [])))
joined_same (a ∷ []) (b ∷ []) fit_a fit_b e = ap (λ r. r ∷ []) ((replies_same a b (93 ∷ []) (93 ∷ []) fit_a.0 fit_b.0 e).reply)
joined_same (a ∷ []) (b ∷ d ∷ qs) fit_a fit_b e =
    let same : AreSame a b (93 ∷ []) ((44 ∷ joined (d ∷ qs)) ++ 93 ∷ []) =
    replies_same a b (93 ∷ []) ((44 ∷ joined (d ∷ qs)) ++ 93 ∷ []) fit_a.0 fit_b.0 (e ∙ append_assoc (reply_text b) (44 ∷ joined (d ∷ qs)) (93 ∷ [])) in
    absurd (comma_first [] (joined (d ∷ qs) ++ 93 ∷ []) same.rest)
joined_same (a ∷ c ∷ ps) (b ∷ []) fit_a fit_b e =
    let same : AreSame a b ((44 ∷ joined (c ∷ ps)) ++ 93 ∷ []) (93 ∷ []) =
    replies_same a b ((44 ∷ joined (c ∷ ps)) ++ 93 ∷ []) (93 ∷ []) fit_a.0 fit_b.0 (sym (append_assoc (reply_text a) (44 ∷ joined (c ∷ ps)) (93 ∷ [])) ∙ e) in
    absurd (comma_first [] (joined (c ∷ ps) ++ 93 ∷ []) (sym same.rest))
joined_same (a ∷ c ∷ ps) (b ∷ d ∷ qs) fit_a fit_b e =
    let same : AreSame a b ((44 ∷ joined (c ∷ ps)) ++ 93 ∷ []) ((44 ∷ joined (d ∷ qs)) ++ 93 ∷ []) =
    replies_same a b ((44 ∷ joined (c ∷ ps)) ++ 93 ∷ []) ((44 ∷ joined (d ∷ qs)) ++ 93 ∷ []) fit_a.0 fit_b.0
    (sym (append_assoc (reply_text a) (44 ∷ joined (c ∷ ps)) (93 ∷ [])) ∙ (e ∙ append_assoc (reply_text b) (44 ∷ joined (d ∷ qs)) (93 ∷ []))) in
    let more : c ∷ ps ≡ d ∷ qs = joined_same (c ∷ ps) (d ∷ qs) fit_a.1 fit_b.1 (ap tail_of same.rest) in
    ap (λ r. r ∷ (c ∷ ps)) same.reply ∙ ap (λ rs. b ∷ rs) more

-- ---- all answers

given_same : (ps qs : List Reply) → AllByRecursion IsFitReply ps → AllByRecursion IsFitReply qs → replies_text ps ++ 10 ∷ [] ≡ replies_text qs ++ 10 ∷ [] → ps ≡ qs
given_same ps qs fit_a fit_b e = joined_same ps qs fit_a fit_b (ap tail_of (append_cancel_right (replies_text ps) (replies_text qs) (10 ∷ []) e))

-- a line of replies tells no other answer
given_none : (given : List Reply) → answer_of (answer_text (answers.Replies given)) ≡ None
given_none given = refl

not_given : (given : List Reply) (b : Answer) → IsPlain b → answer_text (answers.Replies given) ≡ answer_text b → ⊥
not_given given b plain e = no (sym (given_none given) ∙ (ap answer_of e ∙ reads_back b plain))
  where
    no : None ≡ Some b → ⊥
    no f = cc

plain_same : (a b : Answer) → IsPlain a → IsPlain b → answer_text a ≡ answer_text b → a ≡ b
plain_same a b plain_a plain_b e = same_some a b (sym (reads_back a plain_a) ∙ (ap answer_of e ∙ reads_back b plain_b))

-- an answer is of replies, or plain
data IsKind (a : Answer) : Type 0 where
  Given : (given : List Reply) → a ≡ answers.Replies given → AllByRecursion IsFitReply given → IsKind a
  Plain : IsPlain a → IsKind a

kind_of : (a : Answer) → IsFitAnswer a → IsKind a
kind_of (answers.Replies given) fit = Given given refl fit
kind_of other fit = Plain fit

by_kind : (a b : Answer) → IsKind a → IsKind b → answer_text a ≡ answer_text b → a ≡ b
by_kind a b (Given x is_a fit_a) (Given y is_b fit_b) e =
    let told : answer_text (answers.Replies x) ≡ answer_text (answers.Replies y) = sym (ap answer_text is_a) ∙ (e ∙ ap answer_text is_b) in
    is_a ∙ (ap (λ rs. answers.Replies rs) (given_same x y fit_a fit_b told) ∙ sym is_b)
by_kind a b (Given x is_a fit_a) (Plain plain) e = absurd (not_given x b plain (sym (ap answer_text is_a) ∙ e))
by_kind a b (Plain plain) (Given y is_b fit_b) e = absurd (not_given y a plain (sym (ap answer_text is_b) ∙ sym e))
by_kind a b (Plain plain_a) (Plain plain_b) e = plain_same a b plain_a plain_b e

pub told_once : (a b : Answer) → IsFitAnswer a → IsFitAnswer b → answer_text a ≡ answer_text b → a ≡ b
told_once a b fit_a fit_b e = by_kind a b (kind_of a fit_a) (kind_of b fit_b) e
