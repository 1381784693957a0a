use Rattle.std.proofs.Common.{◌≡◌, ◌∙◌, ap, ap₂, rules, codes, subst, ℤ, Some, true}
use Rattle.std.proofs.lemmas.Result.{IfOk-weaker}
use Rattle.std.specs.Prelude.{pos}
use Rattle.clap.specs.Words.{NarrowsTo, Rule, app_of, new_app, new_rule, rule_of, with_rule}
use Rattle.clap.specs.Simple.{on_top}
use Rattle.clap.specs.declared.builder.arg.Arg.{Arg}
use Rattle.clap.specs.declared.builder.value_parser.ValueParser.{ValueParser}
use Rattle.clap.specs.declared.builder.value_parser.ValueParser.TheVariants as parser
use Rattle.wm_options.specs.Options.{hold, rehearse}
use Rattle.wm_options.proofs.words.command.Goals as goal

-- a range of whole numbers without a sign
unsigned : (p r : ValueParser) (low high : ℤ) → p ≡ parser.Unsigned 0 18446744073709551615 → low ≡ pos 1 → high ≡ pos 10000
    → NarrowsTo p (Some low) (Some high) r → r ≡ parser.Unsigned 1 10000
unsigned p r low high all from to narrows =
    subst (λ (h : ℤ). NarrowsTo (parser.Unsigned 0 18446744073709551615) (Some (pos 1)) (Some h) r) to
    (subst (λ (l : ℤ). NarrowsTo (parser.Unsigned 0 18446744073709551615) (Some l) (Some high) r) from (subst (λ (q : ValueParser). NarrowsTo q (Some low) (Some high) r) all narrows))

-- and one of numbers that may have a sign
signed : (p r : ValueParser) (low high : ℤ) → p ≡ parser.Signed (pos 0) (pos 4294967295) → low ≡ pos 1 → high ≡ pos 8
    → NarrowsTo p (Some low) (Some high) r → r ≡ parser.Signed (pos 1) (pos 8)
signed p r low high all from to narrows =
    subst (λ (h : ℤ). NarrowsTo (parser.Signed (pos 0) (pos 4294967295)) (Some (pos 1)) (Some h) r) to
    (subst (λ (l : ℤ). NarrowsTo (parser.Signed (pos 0) (pos 4294967295)) (Some l) (Some high) r) from (subst (λ (q : ValueParser). NarrowsTo q (Some low) (Some high) r) all narrows))

-- an argument with a parser
parsing : (a b : Arg) (r : Rule) (q : ValueParser) → b ≡ record a { value_parser = b.value_parser } → b.value_parser ≡ Some q → rule_of a ≡ r → rule_of b ≡ record r { parser = Some q }
parsing a b r q same is rule = ap rule_of same ∙ ap₂ (λ (x : Rule) o. record x { parser = o }) rule is

pub returns : goal.returns
returns c =
    let hold_given = c.value_parser-hold.ensures.given in
    let hold_made = unsigned c.value_parser.result c.range.result _ _ c.value_parser.ensures c.new-2.ensures.start c.new-2.ensures.end c.range.ensures in
    let hold_parser : c.value_parser-hold.result.value_parser ≡ Some (parser.Unsigned 1 10000) = hold_given.1 ∙ ap Some (hold_given.2 ∙ hold_made) in
    let rehearse_given = c.value_parser-rehearse.ensures.given in
    let rehearse_made = signed c.value_parser-2.result c.range-2.result _ _ c.value_parser-2.ensures c.new-4.ensures.start c.new-4.ensures.end c.range-2.ensures in
    let rehearse_parser : c.value_parser-rehearse.result.value_parser ≡ Some (parser.Signed (pos 1) (pos 8)) = rehearse_given.1 ∙ ap Some (rehearse_given.2 ∙ rehearse_made) in
    let hold_long : rule_of c.long.result ≡ record (new_rule (codes "hold")) { long = Some (codes "hold") } = search rules in
    let hold_is : rule_of c.value_parser-hold.result ≡ hold = parsing c.long.result c.value_parser-hold.result _ _ c.value_parser-hold.ensures.others hold_parser hold_long in
    let rehearse_long : rule_of c.long-2.result ≡ record (new_rule (codes "rehearse")) { long = Some (codes "rehearse") } = search rules in
    let rehearse_is : rule_of c.value_parser-rehearse.result ≡ rehearse = parsing c.long-2.result c.value_parser-rehearse.result _ _ c.value_parser-rehearse.ensures.others rehearse_parser rehearse_long in
    let start_is : app_of c.disable_help_flag.result ≡ on_top (λ s. record s { no_binary_name = true; disable_help_flag = true }) (new_app (codes "i3desk")) =
    rw (c.disable_help_flag.ensures, c.no_binary_name.ensures) (ap (on_top (λ s. record s { no_binary_name = true; disable_help_flag = true })) c.new-5.ensures.app) in
    let first_is : app_of c.in_ok-arg.field-0 ≡ with_rule (on_top (λ s. record s { no_binary_name = true; disable_help_flag = true }) (new_app (codes "i3desk"))) hold =
    c.in_ok-arg.ensures.shape (search rules) ∙ ap₂ with_rule start_is hold_is in
    IfOk-weaker c.arg-2.result _ _ (λ made added. added.shape (search rules) ∙ ap₂ with_rule first_is rehearse_is) c.arg-2.ensures
