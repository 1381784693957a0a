use Rattle.std.proofs.Common.{◌∙◌, ◌++◌, ap, append_assoc, sym, List}
use Rattle.wm_core.specs.declared.asked.Asked.{Asked}
use Rattle.wm_turn.specs.declared.view.Mark.{Mark}
use Rattle.wm_clients.specs.Served.{ServedClient, Stage}
use Rattle.wm_clients.specs.declared.ending.ClientEnd.{ClientEnd}
use Rattle.wm_actors.specs.Worked.{IsCarried}
use Rattle.wm_actors.proofs.clients.ClientsServeUnit.serve.Goals as goal

-- a client's session leaves marks, and then that of the step that closes its windows
carried_served : (first now : Stage) (e : ClientEnd) → ServedClient first now e → IsCarried first.pass now.pass
carried_served first now e s = record {
  marks = s.gone ++ s.marks;
  carried = record {
    pass = s.pass ∙ ap {A = List (Mark Asked)} (λ mine. record first.pass { seen = now.pass.seen; mine = mine }) (sym (append_assoc s.gone s.marks first.pass.mine));
    begins = s.begins;
  };
}

pub returns-clause-carried : goal.returns-clause-carried
returns-clause-carried g c = carried_served _ _ _ c.client_session.ensures.served
