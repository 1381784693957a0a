-- The texts that callers send, and the bytes of their messages.
use Rattle.std.proofs.Common.{◌≡◌, ◌∙◌, ◌≤◌, refl, sym, ap, arith, ℕ, suc, zero, ◌+◌, ◌%◌, ◌==◌, Bool, true, false, if◌then◌else◌, List, [], ◌∷◌, ◌++◌, length, map, codes, append_assoc, Result, Ok, Err, IfOk, OnOk}
use Rattle.std.proofs.lemmas.Grind.{flat_map-append}
use Rattle.std.proofs.lemmas.List.{append-nil, map-append}
use Rattle.std.proofs.lemmas.Str.{is_utf8-from_IsUtf8}
use Rattle.std.specs.List.{AllByRecursion, flat_map}
use Rattle.std.specs.Str.{IsUtf8}
use lib.Utf8.{encode}
use Rattle.wm_frames.specs.Frame.{frame}
use Rattle.wm_ports.specs.LinkMemory.{LinkState}
use Rattle.wm_serve.specs.Callers.{bytes_of, caller_link, commands, link_at, last_text, running, texts}
use Rattle.wm_serve.specs.Once.{fresh}
use Rattle.wm_serve.specs.Running.{numbers}
use Rattle.wm_serve.specs.declared.rehearsed.RehearsedLink.TheVariants as link
use Rattle.wm_serve.proofs.LinkLemmas.{IsText}

is_text : (text : List ℕ) → IsUtf8 text → length text ≤ 262144 → IsText text
is_text text utf8 short = record { utf8 = is_utf8-from_IsUtf8 text utf8; short = short }

-- what holds of all of two lists holds of all of both
pub all_both : (P : List ℕ → Type 0) (xs ys : List (List ℕ)) → AllByRecursion P xs → AllByRecursion P ys → AllByRecursion P (xs ++ ys)
all_both P [] ys first second = second
all_both P (x ∷ xs) ys first second = (first.0, all_both P xs ys first.1 second)

one_of : (a b c : Bool) → IsText (if a then codes "workspace number 1" else if b then codes "workspace number 2" else if c then codes "workspace number 3" else codes "workspace number 4")
unfolding encode
one_of true b c = is_text (codes "workspace number 1") (codes "workspace number 1", (refl, refl)) (omega arith)
one_of false true c = is_text (codes "workspace number 2") (codes "workspace number 2", (refl, refl)) (omega arith)
one_of false false true = is_text (codes "workspace number 3") (codes "workspace number 3", (refl, refl)) (omega arith)
one_of false false false = is_text (codes "workspace number 4") (codes "workspace number 4", (refl, refl)) (omega arith)

commands_texts : (i : ℕ) → AllByRecursion IsText (commands i)
unfolding encode
commands_texts i = (
  is_text (codes "split toggle") (codes "split toggle", (refl, refl)) (omega arith),
  (
    is_text (codes "layout toggle all") (codes "layout toggle all", (refl, refl)) (omega arith),
    (
      is_text (codes "focus left") (codes "focus left", (refl, refl)) (omega arith),
      (
        is_text (codes "focus right") (codes "focus right", (refl, refl)) (omega arith),
        (
          is_text (codes "move left") (codes "move left", (refl, refl)) (omega arith),
          (
            is_text (codes "move right") (codes "move right", (refl, refl)) (omega arith),
            (
              is_text (codes "floating toggle") (codes "floating toggle", (refl, refl)) (omega arith),
              (
                one_of (i % 4 == 0) (i % 4 == 1) (i % 4 == 2),
                tt,
              ),
            ),
          ),
        ),
      ),
    ),
  ),
)

-- to which nothing was added
pub none_added : (bytes : List ℕ) → bytes ≡ bytes ++ bytes_of []
unfolding bytes_of
none_added bytes = sym (append-nil bytes)

exit_texts : (b : Bool) → AllByRecursion IsText (if b then codes "exit" ∷ [] else [])
unfolding encode
exit_texts true = (is_text (codes "exit") (codes "exit", (refl, refl)) (omega arith), tt)
exit_texts false = tt

pub are_texts : (i : ℕ) → AllByRecursion IsText (texts i)
are_texts i = all_both IsText (commands i) (commands i ++ last_text i) (commands_texts i) (all_both IsText (commands i) (last_text i) (commands_texts i) (exit_texts (i == 0)))

-- the bytes of more texts
pub bytes_more : (xs ys : List (List ℕ)) → bytes_of (xs ++ ys) ≡ bytes_of xs ++ bytes_of ys
unfolding bytes_of
bytes_more xs ys = ap (λ ms. flat_map frame ms) (map-append running xs ys) ∙ flat_map-append frame (map running xs) (map running ys)

-- bytes to which those of texts were added, and then those of more texts
pub added : (old mid new : List ℕ) (xs ys : List (List ℕ)) → mid ≡ old ++ bytes_of xs → new ≡ mid ++ bytes_of ys → new ≡ old ++ bytes_of (xs ++ ys)
added old mid new xs ys first second =
    second ∙ ap (λ b. b ++ bytes_of ys) first ∙ append_assoc old (bytes_of xs) (bytes_of ys) ∙ ap (λ b. old ++ b) (sym (bytes_more xs ys))

pub then_added : {E : Type 0} (r : Result (Unit {0}) E) (old mid new : List ℕ) (xs ys : List (List ℕ)) → mid ≡ old ++ bytes_of xs → OnOk r (new ≡ mid ++ bytes_of ys)
    → OnOk r (new ≡ old ++ bytes_of (xs ++ ys))
then_added (Ok done) old mid new xs ys first second = added old mid new xs ys first second
then_added (Err e) old mid new xs ys first second = tt

numbers_more : (first count : ℕ) → numbers first count ++ (first + count) ∷ [] ≡ numbers first (suc count)
numbers_more first zero = ap (λ k. k ∷ []) (omega arith)
numbers_more first (suc count) = ap (λ ks. first ∷ ks) (ap (λ k. numbers (suc first) count ++ k ∷ []) (omega arith) ∙ numbers_more (suc first) count)

zero_more : (k : ℕ) → k ≡ 0 + k
zero_more k = omega arith

-- one more door
pub doors_more : (n door next : ℕ) → next ≡ suc door → map fresh (map (link_at n) (numbers 0 door)) ++ fresh (link_at n door) ∷ [] ≡ map fresh (map (link_at n) (numbers 0 next))
doors_more n door next is =
    sym (ap (λ ls. map fresh ls) (map-append (link_at n) (numbers 0 door) (door ∷ [])) ∙ map-append fresh (map (link_at n) (numbers 0 door)) (link_at n door ∷ []))
    ∙ ap (λ ks. map fresh (map (link_at n) ks)) (ap (λ k. numbers 0 door ++ k ∷ []) (zero_more door) ∙ numbers_more 0 door ∙ ap (λ k. numbers 0 k) (sym is))

-- the link of a caller has no bytes but these
pub caller_made : (i : ℕ) (s : LinkState) → s.left ≡ bytes_of (texts i) → s.sent ≡ [] → s.room ≡ 65536 → s.fails ≡ [] → s.quiet ≡ [] → s.calls ≡ 0 → s.turns ≡ 0 → s.faults ≡ 0
    → link.Caller s ≡ caller_link i
caller_made i s left sent room fails quiet calls turns faults =
    ap {A = List ℕ} (λ x. link.Caller (record s { left = x })) left
    ∙ ap {A = List ℕ} (λ x. link.Caller (record s { left = bytes_of (texts i); sent = x })) sent
    ∙ ap {A = ℕ} (λ x. link.Caller (record s { left = bytes_of (texts i); sent = []; room = x })) room
    ∙ ap {A = List ℕ} (λ x. link.Caller (record s { left = bytes_of (texts i); sent = []; room = 65536; fails = x })) fails
    ∙ ap {A = List ℕ} (λ x. link.Caller (record s { left = bytes_of (texts i); sent = []; room = 65536; fails = []; quiet = x })) quiet
    ∙ ap {A = ℕ} (λ x. link.Caller (record s { left = bytes_of (texts i); sent = []; room = 65536; fails = []; quiet = []; calls = x })) calls
    ∙ ap {A = ℕ} (λ x. link.Caller (record { left = bytes_of (texts i); sent = []; room = 65536; fails = []; quiet = []; calls = 0; turns = x; faults = s.faults })) turns
    ∙ ap {A = ℕ} (λ x. link.Caller (record { left = bytes_of (texts i); sent = []; room = 65536; fails = []; quiet = []; calls = 0; turns = 0; faults = x })) faults

pub caller_new : {E : Type 0} (i : ℕ) (r : Result LinkState E) (bytes fails quiet : List ℕ) → bytes ≡ bytes_of (texts i) → fails ≡ [] → quiet ≡ []
    → IfOk r (λ s. s.left ≡ bytes) → IfOk r (λ s. s.sent ≡ []) → IfOk r (λ s. s.room ≡ 65536) → IfOk r (λ s. s.fails ≡ fails) → IfOk r (λ s. s.quiet ≡ quiet)
    → IfOk r (λ s. s.calls ≡ 0) → IfOk r (λ s. s.turns ≡ 0) → IfOk r (λ s. s.faults ≡ 0) → IfOk r (λ made. link.Caller made ≡ caller_link i)
caller_new i (Ok s) bytes fails quiet bytes_are no_fails no_quiet left sent room f q calls turns faults =
    caller_made i s (left ∙ bytes_are) sent room (f ∙ no_fails) (q ∙ no_quiet) calls turns faults
caller_new i (Err e) bytes fails quiet bytes_are no_fails no_quiet left sent room f q calls turns faults = tt
