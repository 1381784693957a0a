-- What receivings and sendings do to what came on a link since a session began.
use Rattle.std.proofs.Common.{◌≡◌, ◌∙◌, refl, ap, sym, subst, ℕ, suc, ◌+◌, Bool, true, false, List, [], ◌++◌, length, take, drop, Option, None, Some, arith, append_assoc}
use Rattle.std.proofs.Math.Seq.{take-append-add}
use Rattle.std.proofs.lemmas.List.{append-nil, take_all, take-append-drop}
use Rattle.wm_ports.specs.Linking.{IsReceived, LinkTold, SendsAll, SendsPart}
use Rattle.wm_ports.specs.declared.links.Received.TheVariants as received
use Rattle.wm_session.specs.Linked.{IsSpent, Since, SinceBy, SincePart, next_times}

pub since_start : (link : Option LinkTold) → Since link link [] [] 0
since_start None = tt
since_start (Some t) = record {
  left = t.left;
  gave = refl;
  told = ap {A = List ℕ} (λ sent. Some (record t { sent = sent })) (sym (append-nil t.sent));
}

pub since_sent : (from now new : Option LinkTold) (got sent bytes : List ℕ) (turns : ℕ) → Since from now got sent turns → SendsAll now new bytes → Since from new got (sent ++ bytes) turns
since_sent None now new got sent bytes turns s e = tt
since_sent (Some t) now new got sent bytes turns s e =
    let grown : new ≡ Some (record { left = s.left; sent = (t.sent ++ sent) ++ bytes; turns = next_times turns t.turns }) = subst (λ m. SendsAll m new bytes) s.told e in
    record {
      left = s.left;
      gave = s.gave;
      told = grown ∙ ap {A = List ℕ} (λ all. Some (record { left = s.left; sent = all; turns = next_times turns t.turns })) (append_assoc t.sent sent bytes);
    }

pub since_part : (from now new : Option LinkTold) (got sent bytes : List ℕ) (turns : ℕ) → Since from now got sent turns → SendsPart now new bytes → SincePart from new got (sent ++ bytes) turns
since_part from now new got sent bytes turns s p = record {
  count = length sent + p.count;
  since = subst (λ all. Since from new got all turns) (sym (take-append-add sent bytes p.count)) (since_sent from now new got sent (take p.count bytes) turns s p.sent);
}

-- all of the bytes, or a first part of them
abbrev pub SendsBy : Bool → Option LinkTold → Option LinkTold → List ℕ → Type 0
SendsBy true now new bytes = SendsAll now new bytes
SendsBy false now new bytes = SendsPart now new bytes

pub since_by : (whole : Bool) (from now new : Option LinkTold) (got sent bytes : List ℕ) (turns : ℕ) → Since from now got sent turns → SendsBy whole now new bytes → SinceBy whole from new got (sent ++ bytes) turns
since_by true from now new got sent bytes turns s e = since_sent from now new got sent bytes turns s e
since_by false from now new got sent bytes turns s e = since_part from now new got sent bytes turns s e

pub since_unsent : (from now : Option LinkTold) (got sent : List ℕ) (turns : ℕ) → Since from now got sent turns → SincePart from now got sent turns
since_unsent from now got sent turns s = record { count = length sent; since = subst (λ all. Since from now got all turns) (sym (take_all (length sent) sent (omega arith))) s }

pub since_got : (from now new : Option LinkTold) (got sent room : List ℕ) (turns n : ℕ) → Since from now got sent turns → IsReceived now new (received.Got n) room → Since from new (got ++ take n room) sent (suc turns)
since_got None now new got sent room turns n s r = tt
since_got (Some t) now new got sent room turns n s r =
    let is = subst (λ m. IsReceived m new (received.Got n) room) s.told r in
    record {
      left = drop n s.left;
      gave = s.gave ∙ ap (λ l. got ++ l) (sym (take-append-drop n s.left) ∙ ap (λ l. l ++ drop n s.left) (sym is.bytes)) ∙ sym (append_assoc got (take n room) (drop n s.left));
      told = is.told;
    }

pub since_quiet : (from now new : Option LinkTold) (got sent room : List ℕ) (turns : ℕ) → Since from now got sent turns → IsReceived now new received.Quiet room → Since from new got sent (suc turns)
since_quiet None now new got sent room turns s r = tt
since_quiet (Some t) now new got sent room turns s r = record {
  left = s.left;
  gave = s.gave;
  told = subst (λ m. IsReceived m new received.Quiet room) s.told r;
}

pub since_failed : (from now new : Option LinkTold) (got sent room : List ℕ) (turns : ℕ) → Since from now got sent turns → IsReceived now new received.Failed room → Since from new got sent turns
since_failed None now new got sent room turns s r = tt
since_failed (Some t) now new got sent room turns s r = record { left = s.left; gave = s.gave; told = subst (λ m. IsReceived m new received.Failed room) s.told r }

pub since_end : (from now new : Option LinkTold) (got sent room : List ℕ) (turns : ℕ) → Since from now got sent turns → IsReceived now new received.End room → Since from new got sent turns × IsSpent from got
since_end None now new got sent room turns s r = (tt, tt)
since_end (Some t) now new got sent room turns s r =
    let is = subst (λ m. IsReceived m new received.End room) s.told r in
    (record { left = s.left; gave = s.gave; told = is.1 }, sym (s.gave ∙ ap (λ l. got ++ l) is.0 ∙ append-nil got))
