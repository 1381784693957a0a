-- What a receiving of a link in memory answers, case by case.
use Rattle.std.proofs.Common.{◌≡◌, ℕ, ◌+◌, ◌-◌, ◌<◌, true, false, List, [], ◌∷◌, ◌++◌, length, take, drop, min, Option, None, Some, Ok, refl, sym, subst, ◌∙◌, ap, arith, append_assoc}
use Rattle.wm_ports.specs.LinkMemory.{LinkState, answer_of, chosen, given}
use Rattle.wm_ports.specs.Linking.{IsSent, LinkTold, SendsAll, after_sending}
use Rattle.wm_ports.specs.Memory.{is_listed, next}
use Rattle.wm_ports.proofs.ToldLemmas.{slice_to_end, take_sum}
use Rattle.wm_ports.specs.declared.links.Received.TheVariants as received

pub answer-failed :
    (s : LinkState) (room : ℕ) → is_listed s.fails (next s.calls) ≡ true → received.Failed ≡ answer_of s room
answer-failed s room fails = ap (λ b. chosen b (is_listed s.quiet (next s.calls)) (given s.left room)) (sym fails)

pub answer-quiet :
    (s : LinkState) (room : ℕ) → is_listed s.fails (next s.calls) ≡ false → is_listed s.quiet (next s.calls) ≡ true
    → received.Quiet ≡ answer_of s room
answer-quiet s room fails quiet =
    ap (λ b. chosen false b (given s.left room)) (sym quiet)
    ∙ ap (λ b. chosen b (is_listed s.quiet (next s.calls)) (given s.left room)) (sym fails)

pub answer-given :
    (s : LinkState) (room : ℕ) → is_listed s.fails (next s.calls) ≡ false → is_listed s.quiet (next s.calls) ≡ false
    → given s.left room ≡ answer_of s room
answer-given s room fails quiet =
    ap (λ b. chosen false b (given s.left room)) (sym quiet)
    ∙ ap (λ b. chosen b (is_listed s.quiet (next s.calls)) (given s.left room)) (sym fails)

pub given-end : (left : List ℕ) (room : ℕ) → 0 < room → min room (length left) ≡ 0 → received.End ≡ given left room
given-end [] room some none = refl
given-end (first ∷ rest) room some none = let no : ⊥ = omega (arith, some, none) in absurd no

pub given-some : (left : List ℕ) (room : ℕ) → (min room (length left) ≡ 0 → ⊥) → received.Got (min room (length left)) ≡ given left room
given-some [] room some = absurd (some (omega arith))
given-some (first ∷ rest) room some = refl

-- ---- sending all

pub sends-step :
    (old mid new : Option LinkTold) (bytes : List ℕ) (at n : ℕ)
    → SendsAll old mid (take at bytes) → IsSent mid new (Ok n) (take (length bytes - at) (drop at bytes))
    → SendsAll old new (take (at + n) bytes)
sends-step None mid new bytes at n before step = tt
sends-step (Some t) mid new bytes at n before step =
    let grown : new ≡ Some (after_sending (after_sending t (take at bytes)) (take n (drop at bytes))) =
    subst (λ m. IsSent m new (Ok n) (drop at bytes)) before
    (subst (λ l. IsSent mid new (Ok n) l) (slice_to_end at bytes) step)
    in grown ∙ ap (λ sent. Some (record t { sent = sent })) (append_assoc t.sent (take at bytes) (take n (drop at bytes)) ∙ ap (λ l. t.sent ++ l) (sym (take_sum at n bytes)))
