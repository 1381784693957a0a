-- The answer that a line tells.
use Rattle.std.specs.Prelude.{ℕ, ◌<◌, List, [], ◌∷◌, ◌++◌, Option, None, Some, codes, if◌then◌else◌}
use Rattle.std.specs.List.{AllByRecursion}
use Rattle.std.specs.Str.{bytes_eq}
use Rattle.wm_base.specs.ErrorText.{word_of}
use Rattle.wm_base.specs.declared.errors.Limit.{Limit}
use Rattle.wm_base.specs.declared.errors.Limit.TheVariants as limits
use Rattle.wm_history.specs.declared.step.Answer.{Answer}
use Rattle.wm_history.specs.declared.step.Answer.TheVariants as answers
use Rattle.wm_fields.specs.Fields.{behind, number_at, or_else, or_none, serial_at}
use Rattle.wm_json.specs.declared.replies.Reply.{Reply}
use Rattle.wm_json.specs.declared.replies.Reply.TheVariants as replies
use Rattle.wm_lines.specs.Lines.{con_of}

-- the value, where a line feed and nothing else is left
abbrev pub if_feed : Answer → List ℕ → Option Answer
if_feed a text = if bytes_eq text (10 ∷ []) then Some a else None

-- `ID`
abbrev pub mapped_at : List ℕ → Option Answer
mapped_at text = or_none (number_at 4294967295 text) (λ id. if_feed (answers.Mapped (con_of id.0)) id.1)

-- `ASKED LAST`
abbrev pub bad_serial_at : List ℕ → Option Answer
bad_serial_at text =
    or_none (serial_at text) (λ asked. or_none (behind (codes " ") asked.1) (λ rest. or_none (serial_at rest) (λ last. if_feed (answers.BadSerial asked.0 last.0) last.1)))

-- this limit, where its word stands there, or else another reading
abbrev pub or_limit : Limit → List ℕ → Option Answer → Option Answer
or_limit limit text other = if bytes_eq text (word_of limit ++ 10 ∷ []) then Some (answers.Full limit) else other

-- `WORD`
abbrev pub full_at : List ℕ → Option Answer
full_at text =
    or_limit limits.Containers text (or_limit limits.Outputs text (or_limit limits.Workspaces text (or_limit limits.Children text
    (or_limit limits.Depth text (or_limit limits.Marks text (or_limit limits.Ids text None))))))

-- an answer of one word
abbrev pub or_word : List ℕ → Answer → List ℕ → Option Answer → Option Answer
or_word word a text other = if bytes_eq text (word ++ 10 ∷ []) then Some a else other

-- the answer that a line tells, with its line feed; None for one of replies, which is JSON
abbrev pub answer_of : List ℕ → Option Answer
answer_of line =
    or_else (behind (codes "ok ") line) mapped_at
    (or_else (behind (codes "bad-serial ") line) bad_serial_at
    (or_else (behind (codes "full ") line) full_at
    (or_word (codes "ok") answers.Done line
    (or_word (codes "unbound") answers.Unbound line
    (or_word (codes "no-view") answers.NoView line
    (or_word (codes "empty") answers.Empty line
    (or_word (codes "name-taken") answers.NameTaken line
    (or_word (codes "no-target") answers.NoTarget line
    (or_word (codes "bad-rect") answers.BadRect line None)))))))))

-- it has no replies, and its numbers are within their types
abbrev pub IsPlain : Answer → Type 0
IsPlain (answers.Replies given) = ⊥
IsPlain (answers.Mapped id) = id.0 < 4294967296
IsPlain (answers.BadSerial asked last) = (asked < 18446744073709551616) × (last < 18446744073709551616)
IsPlain other = Unit {0}

-- the numbers of a reply are within their types
abbrev pub IsFitReply : Reply → Type 0
IsFitReply (replies.Parse at) = at < 18446744073709551616
IsFitReply (replies.Pattern pattern) = pattern < 4294967296
IsFitReply other = Unit {0}

-- the numbers of an answer, and of its replies, are within their types
abbrev pub IsFitAnswer : Answer → Type 0
IsFitAnswer (answers.Replies given) = AllByRecursion IsFitReply given
IsFitAnswer other = IsPlain other
