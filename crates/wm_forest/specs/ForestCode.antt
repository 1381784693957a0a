-- How the logic stores a forest: as the list of its parts and ends, read back from the list's end with a stack.
use Rattle.std.specs.Prelude.{◌≡◌, List, [], ◌∷◌, ◌++◌, Option, None, Some, refl}
use Rattle.std.proofs.Common.{◌∙◌, ap}
use Rattle.std.specs.Coded.{Coded, code_by, coded_list, coded_option}
use Rattle.wm_forest.specs.contracts.part.Part.{the_row}
use Rattle.wm_forest.specs.declared.part.Part.{Part}
use Rattle.wm_forest.specs.Forest.{Forest, end, con}

-- the parts in the order of the nodes, and an end for each row
abbrev pub symbols : Forest → List (Option Part)
symbols end = None ∷ []
symbols (con part kids floats rest) = Some part ∷ (symbols kids ++ (symbols floats ++ symbols rest))

-- an end puts a row on the stack, and a part takes three rows from it
abbrev read_symbol : Option Part → List Forest → List Forest
read_symbol None stack = end ∷ stack
read_symbol (Some part) (kids ∷ floats ∷ rest ∷ stack) = con part kids floats rest ∷ stack
read_symbol (Some part) stack = stack

-- the rows that symbols stand for, the last symbol read first
abbrev read_symbols : List (Option Part) → List Forest → List Forest
read_symbols [] stack = stack
read_symbols (s ∷ ss) stack = read_symbol s (read_symbols ss stack)

abbrev first_row : List Forest → Forest
first_row [] = end
first_row (row ∷ stack) = row

read_symbols-append : (xs ys : List (Option Part)) (stack : List Forest) → read_symbols (xs ++ ys) stack ≡ read_symbols xs (read_symbols ys stack)
read_symbols-append [] ys stack = refl
read_symbols-append (x ∷ xs) ys stack = ap (read_symbol x) (read_symbols-append xs ys stack)

pub read_symbols-symbols : (f : Forest) (stack : List Forest) → read_symbols (symbols f) stack ≡ f ∷ stack
read_symbols-symbols end stack = refl
read_symbols-symbols (con part kids floats rest) stack =
    ap (read_symbol (Some part))
    (read_symbols-append (symbols kids) (symbols floats ++ symbols rest) stack
    ∙ ap (read_symbols (symbols kids)) (read_symbols-append (symbols floats) (symbols rest) stack
    ∙ ap (read_symbols (symbols floats)) (read_symbols-symbols rest stack)
    ∙ read_symbols-symbols floats (rest ∷ stack))
    ∙ read_symbols-symbols kids (floats ∷ rest ∷ stack))

abbrev pub forest_code : Coded Forest
forest_code = code_by (List (Option Part)) (coded_list (coded_option the_row.coded)) symbols (λ ss. first_row (read_symbols ss [])) (λ f. ap first_row (read_symbols-symbols f []))
