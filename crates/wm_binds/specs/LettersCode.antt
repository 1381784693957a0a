-- How the logic stores letters: as the list of them and of their ends, read back from the list's end with a stack.
use Rattle.std.specs.Prelude.{◌≡◌, ℕ, List, [], ◌∷◌, ◌++◌, Option, None, Some, refl}
use Rattle.std.proofs.Common.{◌∙◌, ap}
use Rattle.std.specs.Coded.{Coded, code_by, coded_list, coded_option, coded_ℕ, coded×}
use Rattle.wm_binds.specs.Letters.{Letters, end, letter}

abbrev pub Symbol : Type 0
Symbol = Option (ℕ × Option (List ℕ))

-- each letter with its value, and an end
abbrev pub symbols : Letters → List Symbol
symbols end = None ∷ []
symbols (letter c value below others) = Some (c, value) ∷ (symbols below ++ symbols others)

-- an end is put on the stack, and a letter takes two from it
abbrev read_symbol : Symbol → List Letters → List Letters
read_symbol None stack = end ∷ stack
read_symbol (Some s) (below ∷ others ∷ stack) = letter s.0 s.1 below others ∷ stack
read_symbol (Some s) stack = stack

abbrev read_symbols : List Symbol → List Letters → List Letters
read_symbols [] stack = stack
read_symbols (s ∷ ss) stack = read_symbol s (read_symbols ss stack)

abbrev first_letters : List Letters → Letters
first_letters [] = end
first_letters (letters ∷ stack) = letters

read_symbols-append : (xs ys : List Symbol) (stack : List Letters) → read_symbols (xs ++ ys) stack ≡ read_symbols xs (read_symbols ys stack)
read_symbols-append [] ys stack = refl
read_symbols-append (x ∷ xs) ys stack = ap (read_symbol x) (read_symbols-append xs ys stack)

pub read_symbols-symbols : (letters : Letters) (stack : List Letters) → read_symbols (symbols letters) stack ≡ letters ∷ stack
read_symbols-symbols end stack = refl
read_symbols-symbols (letter c value below others) stack =
    ap (read_symbol (Some (c, value)))
    (read_symbols-append (symbols below) (symbols others) stack
    ∙ ap (read_symbols (symbols below)) (read_symbols-symbols others stack)
    ∙ read_symbols-symbols below (others ∷ stack))

abbrev pub letters_code : Coded Letters
letters_code = code_by (List Symbol) (coded_list (coded_option (coded× coded_ℕ (coded_option (coded_list coded_ℕ))))) symbols (λ ss. first_letters (read_symbols ss [])) (λ x. ap first_letters (read_symbols-symbols x []))
