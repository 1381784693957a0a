-- The commands that callers of a rehearsal send do not stop a desk, and only the last text of the first of them does.
use Rattle.std.proofs.Common.{◌≡◌, ◌≤◌, refl, sym, ap, subst, arith, ℕ, suc, zero, ◌%◌, ◌==◌, Bool, true, false, if◌then◌else◌, List, [], ◌∷◌, ◌++◌, length, take, codes, append_assoc}
use Rattle.std.proofs.lemmas.Bool.{eqb-true}
use Rattle.std.specs.Str.{chars, is_utf8}
use lib.Utf8.{encode}
use Rattle.wm_words.specs.Forms.{verb_of, past_px, past_to, split_form, layout_form, only_output, focus_word, focus_form, move_by, position_form, move_to_form, past_one_to, move_workspace_form, move_form, past_with, swap_form, hundredths, amounts, resize_by, resize_set, resize_form, fullscreen_form, width_form, border_form, gaps_form, kill_form, scratchpad_form, plain_form}
use Rattle.wm_words.specs.Pieces.{until, from, has, skip, trim_end, is_word, is_text, single, digits_from, natural, integer, argument, unquote}
use Rattle.wm_grammar.specs.Openings.{targets_opened, focus_opened, move_to_opened, move_opened, swap_opened, toggle_opened, mark_opened, rename_opened, opened, text_at, made, word_at, past_keyword_to, renamed, finished, first_finished, verb_command, command_at}
use Rattle.wm_grammar.specs.Reading.{commands_at, criteria_part, group_at, groups_at, groups_of, batch_of}
use Rattle.std.specs.List.{AllByRecursion}
use Rattle.wm_serve.specs.Callers.{commands, texts}
use Rattle.wm_serve.proofs.CallerLemmas.{all_both}
use Rattle.wm_serve.proofs.StopLemmas.{exits_in}

-- the text has no exit
abbrev pub Stays : List ℕ → Type 0
Stays text = exits_in (batch_of text) ≡ false

one_of : (a b c : Bool) → Stays (if a then codes "workspace number 1" else if b then codes "workspace number 2" else if c then codes "workspace number 3" else codes "workspace number 4")
unfolding chars is_utf8 encode commands_at criteria_part group_at groups_at groups_of targets_opened focus_opened move_to_opened move_opened swap_opened toggle_opened mark_opened rename_opened opened text_at made word_at past_keyword_to renamed finished first_finished verb_command command_at verb_of past_px past_to split_form layout_form only_output focus_word focus_form move_by position_form move_to_form past_one_to move_workspace_form move_form past_with swap_form hundredths amounts resize_by resize_set resize_form fullscreen_form width_form border_form gaps_form kill_form scratchpad_form plain_form until from has skip trim_end is_word is_text single digits_from natural integer argument unquote
one_of true b c = refl
one_of false true c = refl
one_of false false true = refl
one_of false false false = refl

pub commands_stay : (i : ℕ) → AllByRecursion Stays (commands i)
unfolding chars is_utf8 encode commands_at criteria_part group_at groups_at groups_of targets_opened focus_opened move_to_opened move_opened swap_opened toggle_opened mark_opened rename_opened opened text_at made word_at past_keyword_to renamed finished first_finished verb_command command_at verb_of past_px past_to split_form layout_form only_output focus_word focus_form move_by position_form move_to_form past_one_to move_workspace_form move_form past_with swap_form hundredths amounts resize_by resize_set resize_form fullscreen_form width_form border_form gaps_form kill_form scratchpad_form plain_form until from has skip trim_end is_word is_text single digits_from natural integer argument unquote
commands_stay i = (refl, (refl, (refl, (refl, (refl, (refl, (refl, (one_of (i % 4 == 0) (i % 4 == 1) (i % 4 == 2), tt))))))))

-- ---- the first of a caller's texts

stay_take : (k : ℕ) (xs : List (List ℕ)) → AllByRecursion Stays xs → AllByRecursion Stays (take k xs)
stay_take zero xs every = tt
stay_take (suc k) [] every = tt
stay_take (suc k) (x ∷ xs) every = (every.0, stay_take k xs every.1)

take_front : (k : ℕ) (xs ys : List (List ℕ)) → k ≤ length xs → take k (xs ++ ys) ≡ take k xs
take_front zero xs ys few = refl
take_front (suc k) [] ys few = absurd (omega (arith, few))
take_front (suc k) (x ∷ xs) ys few = ap (λ ts. x ∷ ts) (take_front k xs ys (omega (arith, few)))

-- the commands, twice
abbrev twice : ℕ → List (List ℕ)
twice i = commands i ++ commands i

length_twice : (i : ℕ) → length (twice i) ≡ 16
length_twice i = refl

-- the first caller sends one text more
pub length_first : length (texts 0) ≡ 17
length_first = refl

twice_stay : (i : ℕ) → AllByRecursion Stays (twice i)
twice_stay i = all_both Stays (commands i) (commands i) (commands_stay i) (commands_stay i)

first_stay : (i : ℕ) (b : Bool) (k : ℕ) → (b ≡ true → k ≤ 16) → AllByRecursion Stays (take k (twice i ++ (if b then codes "exit" ∷ [] else [])))
first_stay i true k few =
    subst (AllByRecursion Stays) (sym (take_front k (twice i) (codes "exit" ∷ []) (omega (arith, few refl, length_twice i)))) (stay_take k (twice i) (twice_stay i))
first_stay i false k few = stay_take k (twice i ++ []) (all_both Stays (twice i) [] (twice_stay i) tt)

-- the first texts of a caller have no exit, but for the last one of the first caller
pub texts_stay : (i k : ℕ) → (i ≡ 0 → k ≤ 16) → AllByRecursion Stays (take k (texts i))
texts_stay i k few =
    subst (λ ts. AllByRecursion Stays (take k ts)) (append_assoc (commands i) (commands i) (if i == 0 then codes "exit" ∷ [] else []))
    (first_stay i (i == 0) k (λ is. few (eqb-true i 0 is)))
