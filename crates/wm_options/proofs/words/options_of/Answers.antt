use Rattle.std.proofs.Common.{◌≡◌, ◌∙◌, ap, map, string_bytes}
use Rattle.clap.specs.Words.{app_of, is_simple, is_simple_and_free, kind_of}
use Rattle.clap.specs.declared.error.kind.ErrorKind.TheVariants.{OutOfMemory}
use Rattle.wm_options.proofs.AskedLemmas.{are_spelled, given, no_words, not_asked, not_taken, simple, simple_and_free}
use Rattle.wm_options.specs.Options.{options_of}
use Rattle.wm_options.proofs.words.options_of.Goals as goal

pub options_in-requires : goal.options_in-requires
options_in-requires c = are_spelled c.in_ok-command.field-0 c.in-Ok.matches c.in_ok-command.ensures c.in-Ok.ensures.parsed

pub returns-in-Ok-clause-asked : goal.returns-in-Ok-clause-asked
returns-in-Ok-clause-asked c =
    given (app_of c.in_ok-command.field-0) (map string_bytes c.args.words.now) _ c.options_in.result c.in_ok-command.ensures
    (c.in-Ok.ensures.kinds (ap is_simple_and_free c.in_ok-command.ensures ∙ simple_and_free))
    (c.in-Ok.ensures.matches (ap is_simple c.in_ok-command.ensures ∙ simple)).0 c.options_in.ensures.asked

pub returns-in-Ok-clause-no_words : goal.returns-in-Ok-clause-no_words
returns-in-Ok-clause-no_words c none = returns-in-Ok-clause-asked c ∙ (ap (λ words. options_of (map string_bytes words)) none ∙ no_words)

pub returns : goal.returns
returns c =
    let app = app_of c.in_ok-command.field-0 in
    let words = map string_bytes c.args.words.now in
    let other = λ (memory : kind_of c.in-Err.error ≡ OutOfMemory). c.in_default.not-OutOfMemory (c.kind.ensures ∙ memory) in
    let asked = not_asked app words (kind_of c.in-Err.error) c.in_ok-command.ensures (c.in-Err.ensures.kinds (ap is_simple_and_free c.in_ok-command.ensures ∙ simple_and_free)) other in
    record {
      asked = asked;
      refused = λ none. not_taken app words (kind_of c.in-Err.error) c.in_ok-command.ensures c.in-Err.ensures.passes other;
      in_range = tt;
      no_words = λ none. asked ∙ (ap (λ words. options_of (map string_bytes words)) none ∙ no_words);
    }
