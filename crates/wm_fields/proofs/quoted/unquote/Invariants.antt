use Rattle.std.proofs.Common.{◌≡◌, ◌≤◌, length, false}
use Rattle.wm_fields.specs.Quoted.{onto_text, unquoted}
use Rattle.wm_fields.proofs.quoted.unquote.Given as goal

-- what was said so far, and what is left, make the whole
abbrev pub invariant-loop-rest : goal.invariant-loop-rest
invariant-loop-rest l = record {
  shorter : length l.rest ≤ length l.text;
  said : onto_text l.said.items (unquoted l.escaped l.rest) ≡ onto_text l.initial.said.items (unquoted false l.text);
}

abbrev pub decreases-loop-rest : goal.decreases-loop-rest
decreases-loop-rest l = length l.rest
