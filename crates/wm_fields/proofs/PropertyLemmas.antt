-- Properties on a line.
use Rattle.std.proofs.Common.{◌≡◌, ◌∙◌, ℕ, zero, suc, ◌-◌, ◌<◌, List, [], ◌∷◌, length, Option, Some, ap, sym, arith}
use Rattle.wm_fields.specs.declared.properties.Given.{Given}
use Rattle.wm_fields.specs.Fields.{or_none}
use Rattle.wm_fields.specs.Properties.{none_given, properties_at, property_at, props_of, window_at}

-- after one property come the others
pub properties_more : (most : ℕ) (given next : Given) (text rest : List ℕ) → 0 < most → 0 < length text → property_at given text ≡ Some (next, rest)
    → properties_at (most - 1) next rest ≡ properties_at most given text
properties_more zero given next text rest few some e = absurd (omega (arith, few))
properties_more (suc n) given next [] rest few some e = absurd (omega (arith, some))
properties_more (suc n) given next (c ∷ cs) rest few some e =
    let one : suc n - 1 ≡ n = omega arith in
    ap (λ k. properties_at k next rest) one ∙ sym (ap (λ z. or_none z (λ found. properties_at n found.0 found.1)) e)

-- the properties that a line gives make those of the window
pub window_is : (text : List ℕ) (none : Given) (given : Option Given) → none ≡ none_given → given ≡ properties_at 6 none text → window_at text ≡ or_none given (λ g. Some (props_of g))
window_is text none given e f = ap (λ z. or_none z (λ g. Some (props_of g))) (ap (λ g. properties_at 6 g text) (sym e) ∙ sym f)
