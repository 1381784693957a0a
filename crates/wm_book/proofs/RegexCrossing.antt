-- Patterns, and texts with the built forms of their patterns, may go to other threads, and other threads may use them.
use denote.Param.Send.{IsSend, IsSync, sendable}
use Rattle.std.proofs.Crossing.{crosses}
use Rattle.std.proofs.option.Option.TheSendSync as option
use Rattle.wm_base.proofs.list.List.TheSendSync as list
use Rattle.wm_base.proofs.list.Str.TheSendSync as str
use Rattle.wm_criteria.proofs.verdict.Verdict.TheSendSync as verdict
use Rattle.wm_criteria.specs.contracts.form.Form as Form
use Rattle.wm_criteria.specs.contracts.prepared.Prepared as Prepared
use Rattle.wm_criteria.below.regex.specs.contracts.pattern.Pattern as Pattern
use Rattle.wm_criteria.below.regex.specs.contracts.string.regex.Regex as Regex
use Rattle.wm_criteria.below.regex_class.proofs.Class.TheSendSync as class
use Rattle.wm_criteria.below.regex_dfa.proofs.dfa.Dfa.TheSendSync as dfa
use Rattle.wm_criteria.below.regex_extract.proofs.frames.Frame.TheSendSync as frame
use Rattle.wm_criteria.below.regex_hir.proofs.hir.Hir.TheLaws.TheKnot as hir
use Rattle.wm_criteria.below.regex_hir.proofs.look.Look.TheSendSync as look
use Rattle.wm_criteria.below.regex_hir.specs.contracts.hir.Hir as Hir
use Rattle.wm_criteria.below.regex_literal.proofs.byte_set.ByteSet.TheSendSync as byte_set
use Rattle.wm_criteria.below.regex_literal.proofs.caseless.Caseless.TheSendSync as caseless
use Rattle.wm_criteria.below.regex_literal.proofs.ladder.Ladder.TheSendSync as ladder
use Rattle.wm_criteria.below.regex_literal.proofs.prefilter.Prefilter.TheSendSync as prefilter
use Rattle.wm_criteria.below.regex_meta.proofs.plan.Role.TheSendSync as role
use Rattle.wm_criteria.below.regex_meta.specs.contracts.plan.Plan as Plan
use Rattle.wm_criteria.below.regex_meta.specs.contracts.plan.Plans as Plans
use Rattle.wm_criteria.below.regex_meta.specs.contracts.program.Program as Program
use Rattle.wm_criteria.below.regex_meta.specs.contracts.signs.Signs as Signs

-- the types of which it is known
ruleset known = (option.the_field_send, option.the_field_sync, class.the_field_send, class.the_field_sync, look.the_field_send, look.the_field_sync, role.the_field_send, role.the_field_sync, frame.the_field_send, frame.the_field_sync, ladder.the_field_send, ladder.the_field_sync, dfa.the_field_send, dfa.the_field_sync, prefilter.the_send, prefilter.the_sync, caseless.the_send, caseless.the_sync, byte_set.the_send, byte_set.the_sync, list.the_send, list.the_sync, str.the_send, str.the_sync, verdict.the_field_send, verdict.the_field_sync, sendable, crosses)

-- a pattern as a tree, which holds itself
hir_send : IsSend (Hir.the_field).row
hir_send = search (hir.send-Hir, known) depth 20

hir_sync : IsSync (Hir.the_field).row
hir_sync = search (hir.sync-Hir, known) depth 20

plan_send : IsSend (Plan.the_field).row
plan_send = search (hir_send, known) depth 20

plan_sync : IsSync (Plan.the_field).row
plan_sync = search (hir_sync, known) depth 20

plans_send : IsSend (Plans.the_field).row
plans_send = search (plan_send, known) depth 20

plans_sync : IsSync (Plans.the_field).row
plans_sync = search (plan_sync, known) depth 20

signs_send : IsSend (Signs.the_field).row
signs_send = search (hir_send, known) depth 20

signs_sync : IsSync (Signs.the_field).row
signs_sync = search (hir_sync, known) depth 20

program_send : IsSend (Program.the_field).row
program_send = search (hir_send, plans_send, signs_send, known) depth 20

program_sync : IsSync (Program.the_field).row
program_sync = search (hir_sync, plans_sync, signs_sync, known) depth 20

pattern_send : IsSend (Pattern.the_field).row
pattern_send = search (program_send, known) depth 20

pattern_sync : IsSync (Pattern.the_field).row
pattern_sync = search (program_sync, known) depth 20

regex_send : IsSend (Regex.the_field).row
regex_send = search (pattern_send, known) depth 20

regex_sync : IsSync (Regex.the_field).row
regex_sync = search (pattern_sync, known) depth 20

form_send : IsSend Form.the_row
form_send = search (regex_send, known) depth 20

form_sync : IsSync Form.the_row
form_sync = search (regex_sync, known) depth 20

-- a text that was read
pub prepared_send : IsSend (Prepared.the_field).row
prepared_send = search (form_send, known) depth 20

pub prepared_sync : IsSync (Prepared.the_field).row
prepared_sync = search (form_sync, known) depth 20
