-- A client that answers lines, and what it has to say.
use Rattle.std.proofs.Common.{◌≡◌, refl, sym, ◌∙◌, ap, ℕ, List, [], ◌∷◌, ◌++◌, Some, append_assoc}
use Rattle.wm_cut.proofs.CutLemmas.{joins, lines_first, rest_first}
use Rattle.wm_cut.specs.Lines.{behind_line, first_line, lines_in, rest_in}
use Rattle.wm_habits.specs.Acting.{Acting, after_line, after_lines, bytes_said, said_over}
use Rattle.wm_habits.specs.Speaking.{Speaking, answering, hears}

-- ---- lines one after another

after_append : (a : Acting) (lines more : List (List ℕ)) → after_lines a (lines ++ more) ≡ after_lines (after_lines a lines) more
after_append a [] more = refl
after_append a (line ∷ lines) more = after_append (after_line a line) lines more

said_append : (a : Acting) (lines more : List (List ℕ)) → said_over a (lines ++ more) ≡ said_over a lines ++ said_over (after_lines a lines) more
said_append a [] more = refl
said_append a (line ∷ lines) more =
    ap (λ bs. bytes_said a line ++ bs) (said_append (after_line a line) lines more)
    ∙ sym (append_assoc (bytes_said a line) (said_over (after_line a line) lines) (said_over (after_lines (after_line a line) lines) more))

speaking_is : (a b : Acting) (heard left say said : List ℕ) → a ≡ b → heard ≡ left → say ≡ said
    → ◌≡◌ {A = Speaking} (record { acting = a; heard = heard; say = say }) (record { acting = b; heard = left; say = said })
speaking_is a b heard left say said acts hears says = cc

-- bytes that were sent behind others
pub sends : (a : Acting) (bytes more say : List ℕ) → answering a (bytes ++ more) say ≡ hears (answering a bytes say) more
sends a bytes more say =
    let j = joins bytes more in
    let lines = lines_in bytes in
    let later = lines_in (rest_in bytes ++ more) in
    speaking_is (after_lines a (lines_in (bytes ++ more))) (after_lines (after_lines a lines) later) (rest_in (bytes ++ more)) (rest_in (rest_in bytes ++ more))
    (say ++ said_over a (lines_in (bytes ++ more))) ((say ++ said_over a lines) ++ said_over (after_lines a lines) later)
    (ap (λ ls. after_lines a ls) j.lines ∙ after_append a lines later)
    j.rest
    (ap (λ ls. say ++ said_over a ls) j.lines ∙ (ap (λ bs. say ++ bs) (said_append a lines later)
    ∙ sym (append_assoc say (said_over a lines) (said_over (after_lines a lines) later))))

-- the first line is answered
pub answers : (a : Acting) (bytes say line : List ℕ) → first_line bytes ≡ Some line
    → answering (after_line a line) (behind_line bytes) (say ++ bytes_said a line) ≡ answering a bytes say
answers a bytes say line first =
    let lines = lines_in (behind_line bytes) in
    speaking_is (after_lines (after_line a line) lines) (after_lines a (lines_in bytes)) (rest_in (behind_line bytes)) (rest_in bytes)
    ((say ++ bytes_said a line) ++ said_over (after_line a line) lines) (say ++ said_over a (lines_in bytes))
    (ap (λ ls. after_lines a ls) (sym (lines_first bytes line first)))
    (sym (rest_first bytes line first))
    (append_assoc say (bytes_said a line) (said_over (after_line a line) lines) ∙ ap (λ ls. say ++ said_over a ls) (sym (lines_first bytes line first)))

pub heard_as_one : (s : Speaking) (bytes more : List ℕ) → hears (hears s bytes) more ≡ hears s (bytes ++ more)
heard_as_one s bytes more =
    sym (sends s.acting (s.heard ++ bytes) more s.say) ∙ ap {A = List ℕ} (λ bs. answering s.acting bs s.say) (append_assoc s.heard bytes more)
