-- What a run wrote that could not read its input.
use Rattle.std.proofs.Common.{◌≡◌, ◌∙◌, refl, ap, subst, sym, ℕ, ◌≤◌, List, [], length, Option, None, Some, Result, Ok, Err, arith}
use Rattle.std.specs.Prelude.{IsErrAnd}
use Rattle.std.proofs.lemmas.List.{append-nil, drop_all}
use Rattle.wm_criteria.specs.Building.{Log}
use Rattle.wm_ports.specs.Told.{ReadsAll, ReadsPart, TakesPart}
use Rattle.wm_ports.specs.declared.whole.ReadFault.{ReadFault}
use Rattle.wm_ports.specs.declared.whole.ReadFault.TheVariants as faults
use Rattle.wm_tool.specs.declared.words.Command.{Command}
use Rattle.wm_tool.specs.Ending.{EndsOn, HasRead, HasWritten, ReadsWhole, ending_of, texts_in}
use Rattle.wm_tool.specs.Status.{of_read}
use Rattle.wm_script.specs.declared.refused.Refused.{Refused}
use Rattle.wm_tool.specs.declared.status.Status.{Status}
use Rattle.wm_tool.specs.declared.status.Status.TheVariants as status
use Rattle.wm_tool.proofs.RunLemmas.{nothing_backed}

pub nothing_taken : (t : Option (List ℕ)) (whole : List ℕ) → TakesPart t t whole
nothing_taken None whole = tt
nothing_taken (Some taken) whole = (0, record { within = omega arith; grown = ap (λ xs. Some xs) (sym (append-nil taken)) })

unread_written : (c : Command) (log : Log) (fault : ReadFault) (rest t : Option (List ℕ))
    → HasWritten c log log (of_read fault) rest t t
unread_written c log fault None t = tt
unread_written c log faults.Failed (Some bytes) t = refl
unread_written c log (faults.TooLarge read) (Some bytes) t = refl
unread_written c log faults.NoMemory (Some bytes) t = ([], nothing_backed (texts_in c bytes []) log, nothing_taken t _)

-- a run that could not read its input wrote nothing
pub unread_ended : (c : Command) (log : Log) (fault : ReadFault) (rest t : Option (List ℕ)) (r : Result (List Refused) Status) → IsErrAnd r (λ s. s ≡ of_read fault)
    → HasWritten c log log (ending_of r) rest t t
unread_ended c log fault rest t (Ok refused) e = absurd e
unread_ended c log fault rest t (Err s) e =
    subst (λ z. HasWritten c log log z rest t t) (sym e) (unread_written c log fault rest t)

-- ---- what was read

part_of_all : (xs : List ℕ) (new : Option (List ℕ)) → new ≡ Some [] → ReadsPart (Some xs) new
part_of_all xs new is = (length xs, (omega arith, is ∙ ap (λ ys. Some ys) (sym (drop_all (length xs) xs (omega arith)))))

whole : (c : Command) (bytes xs : List ℕ) (s : Status) (new : Option (List ℕ)) → EndsOn c bytes s → length bytes ≤ 16777216 → ReadsAll (Some xs) new bytes → ReadsWhole c xs new s
whole c bytes xs s new ends within all =
    record { whole = all.1; within = subst (λ b. length b ≤ 16777216) all.0 within; ended = subst (λ b. EndsOn c b s) all.0 ends }

-- a run on bytes that were read to their end, and that ended so, has read what its status says
pub read_by : (c : Command) (bytes : List ℕ) (s : Status) (old new : Option (List ℕ)) → EndsOn c bytes s → length bytes ≤ 16777216 → ReadsAll old new bytes → HasRead c s old new
read_by c bytes (status.Done refused) None new ends within all = tt
read_by c bytes (status.Done refused) (Some xs) new ends within all = whole c bytes xs (status.Done refused) new ends within all
read_by c bytes (status.BadScript line) None new ends within all = tt
read_by c bytes (status.BadScript line) (Some xs) new ends within all = whole c bytes xs (status.BadScript line) new ends within all
read_by c bytes (status.BadFrames at) None new ends within all = tt
read_by c bytes (status.BadFrames at) (Some xs) new ends within all = whole c bytes xs (status.BadFrames at) new ends within all
read_by c bytes (status.Truncated left) None new ends within all = tt
read_by c bytes (status.Truncated left) (Some xs) new ends within all = whole c bytes xs (status.Truncated left) new ends within all
read_by c bytes status.WriteFault None new ends within all = tt
read_by c bytes status.WriteFault (Some xs) new ends within all = whole c bytes xs status.WriteFault new ends within all
read_by c bytes status.NoMemory None new ends within all = tt
read_by c bytes status.NoMemory (Some xs) new ends within all = part_of_all xs new all.1
read_by c bytes status.BadWords old new ends within all = absurd ends
read_by c bytes (status.TooLarge read) old new ends within all = absurd ends
read_by c bytes status.ReadFault old new ends within all = absurd ends
