use Rattle.std.proofs.Common.{◌≡◌, ◌∙◌, ◌≤◌, ℕ, List, Option, Some, None, ap, ap₂, arith, codes}
use Rattle.std.specs.Prelude.{IfSome, unwrap_or}
use Rattle.std.specs.Str.Parse.{ExplainsUnsignedError, HasUnsignedDigitsIfOk, ParsesUnsigned}
use Rattle.clap.specs.Words.{Row, found_of, rows_of}
use Rattle.wm_options.specs.Options.{number_of, options_in}
use Rattle.wm_options.specs.declared.words.Options.{Options}
use Rattle.wm_options.proofs.ReadLemmas.{number_read}
use Rattle.wm_options.proofs.words.options_in.Goals as goal

abbrev made : ℕ → Option ℕ → Options
made hold rehearse = record { hold_ms = hold; rehearse = rehearse }

-- the options, from what each of the two arguments gives
options_are : (rows : List Row) (hold : ℕ) (given rehearse : Option ℕ) → hold ≡ unwrap_or given 200 → given ≡ number_of (codes "hold") rows → rehearse ≡ number_of (codes "rehearse") rows
    → made hold rehearse ≡ options_in rows
options_are rows hold given rehearse or is there = ap₂ made (or ∙ ap (λ o. unwrap_or o 200) is) there

in_range : (hold : ℕ) (given : Option ℕ) → hold ≡ unwrap_or given 200 → IfSome given (λ n. (1 ≤ n) × (n ≤ 10000)) → (1 ≤ hold) × (hold ≤ 10000)
in_range hold None or h = (omega arith, omega arith)
in_range hold (Some n) or h = (omega (arith, h.0), omega (arith, h.1))

pub returns : goal.returns
returns c =
    let f = found_of c.args.matches.now in
    let hold = number_read _ (λ bs r. ParsesUnsigned 64 10 bs r × ExplainsUnsignedError 10 bs r × HasUnsignedDigitsIfOk bs r) 64 1 10000 f (codes "hold") c.get_one.result
    c.get_one.ensures.none c.get_one.ensures.value (λ u x g. g.0) (omega arith) c.requires.0 in
    let rehearse = number_read _ (λ bs r. ParsesUnsigned 32 10 bs r × ExplainsUnsignedError 10 bs r × HasUnsignedDigitsIfOk bs r) 32 1 8 f (codes "rehearse") c.get_one-2.result
    c.get_one-2.ensures.none c.get_one-2.ensures.value (λ u x g. g.0) (omega arith) c.requires.1 in
    let range = in_range c.unwrap_or.result c.get_one.result c.unwrap_or.ensures hold.1 in
    record {
      asked = options_are (rows_of f) c.unwrap_or.result c.get_one.result c.get_one-2.result c.unwrap_or.ensures hold.0 rehearse.0;
      in_range = (range.0, range.1, rehearse.1);
    }
