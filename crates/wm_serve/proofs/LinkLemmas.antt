-- What a link gives whose bytes are the messages that run texts.
use Rattle.std.proofs.Common.{◌≡◌, ◌∙◌, ◌≤◌, refl, sym, ap, ap₂, subst, arith, ℕ, true, if◌then◌else◌, List, [], ◌∷◌, ◌++◌, length, map, None, Some}
use Rattle.std.proofs.lemmas.List.{append-nil}
use Rattle.std.specs.List.{AllByRecursion}
use Rattle.std.specs.Str.{is_utf8}
use Rattle.wm_frames.proofs.FrameLemmas.{reading-frames}
use Rattle.wm_frames.proofs.ReadingLemmas.{reading-append}
use Rattle.wm_frames.specs.Frame.{IsShort}
use Rattle.wm_frames.specs.Reading.{messages, reading, tail}
use Rattle.wm_talk.specs.Calls.{call_of, run_call}
use Rattle.wm_talk.specs.declared.calls.Call.TheVariants as call
use Rattle.wm_serve.specs.Callers.{bytes_of, running}
use Rattle.wm_serve.proofs.TextLemmas.{Runs, asked_texts, call_text}

-- a text that a message can carry
pub record IsText (text : List ℕ) : Type 0 where
  pub utf8 : is_utf8 text ≡ true
  pub short : length text ≤ 262144

run_of : (text : List ℕ) → is_utf8 text ≡ true → call_of (running text) ≡ call.Run text
run_of text utf8 = ap (λ b. run_call (if b then Some text else None)) utf8

-- messages that run texts run these texts
pub running_texts : (ts : List (List ℕ)) → AllByRecursion IsText ts → asked_texts (map running ts) ≡ ts
running_texts [] all = refl
running_texts (t ∷ ts) all = ap₂ (λ c rest. call_text c ++ rest) (run_of t all.0.utf8) (running_texts ts all.1)

running_run : (ts : List (List ℕ)) → AllByRecursion IsText ts → AllByRecursion Runs (map running ts)
running_run [] all = tt
running_run (t ∷ ts) all = (ap (λ c. length (call_text c)) (run_of t all.0.utf8), running_run ts all.1)

running_short : (ts : List (List ℕ)) → AllByRecursion IsText ts → AllByRecursion IsShort (map running ts)
running_short [] all = tt
running_short (t ∷ ts) all = (record { kind = omega arith; payload = all.0.short }, running_short ts all.1)

none_read : messages [] ≡ []
unfolding reading
none_read = refl

whole : (ts : List (List ℕ)) → AllByRecursion IsText ts → messages (bytes_of ts) ≡ map running ts
unfolding bytes_of
whole ts all =
    ap messages (sym (append-nil (bytes_of ts)))
    ∙ ap (λ r. r.messages) (reading-frames (map running ts) [] (running_short ts all))
    ∙ ap (λ ms. map running ts ++ ms) none_read ∙ append-nil (map running ts)

-- the messages of the bytes received, and others behind them, are those of all bytes
pub received_first : (ts : List (List ℕ)) (received left : List ℕ) → AllByRecursion IsText ts → bytes_of ts ≡ received ++ left
    → messages received ++ messages (tail received ++ left) ≡ map running ts
received_first ts received left all is = sym (ap (λ r. r.messages) (reading-append received left)) ∙ ap messages (sym is) ∙ whole ts all

first_all : {A : Type 0} (P : A → Type 0) (xs ys zs : List A) → xs ++ ys ≡ zs → AllByRecursion P zs → AllByRecursion P xs
first_all P [] ys zs is all = tt
first_all P (x ∷ xs) ys zs is all =
    let both : AllByRecursion P (x ∷ (xs ++ ys)) = subst (λ l. AllByRecursion P l) (sym is) all in
    (both.0, first_all P xs ys (xs ++ ys) refl both.1)

pub received_run : (ts : List (List ℕ)) (received left : List ℕ) → AllByRecursion IsText ts → bytes_of ts ≡ received ++ left → AllByRecursion Runs (messages received)
received_run ts received left all is =
    first_all Runs (messages received) (messages (tail received ++ left)) (map running ts) (received_first ts received left all is) (running_run ts all)
