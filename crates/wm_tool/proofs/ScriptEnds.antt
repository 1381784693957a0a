-- What a run on a script wrote when it has ended.
use Rattle.std.proofs.Common.{◌≡◌, refl, subst, sym, ℕ, List, [], Option, Result, Ok, Err}
use Rattle.std.specs.Prelude.{IsErrAnd}
use Rattle.wm_criteria.specs.Building.{Log}
use Rattle.wm_ports.specs.Told.{TakesAll}
use Rattle.wm_script.specs.Out.{out_of, texts_of}
use Rattle.wm_script.specs.Refusals.{IsBacked}
use Rattle.wm_script.specs.Script.{script}
use Rattle.wm_script.specs.declared.refused.Refused.{Refused}
use Rattle.wm_script.specs.declared.script.Script.{Script}
use Rattle.wm_script.specs.declared.script.ScriptRefusal.{ScriptRefusal}
use Rattle.wm_script.specs.declared.script.ScriptRefusal.TheVariants as refusals
use Rattle.wm_tool.specs.declared.replay.Stop.{Stop}
use Rattle.wm_tool.specs.declared.replay.Stop.TheVariants as stops
use Rattle.wm_tool.specs.declared.status.Status.{Status}
use Rattle.wm_tool.specs.declared.words.Command.TheVariants as commands
use Rattle.wm_tool.specs.Drawing.{drawn_of}
use Rattle.wm_tool.specs.Ending.{WritesOn, ending_of, texts_in}
use Rattle.wm_tool.specs.Running.{Stops}
use Rattle.wm_tool.specs.Status.{of_script, of_stop}
use Rattle.wm_tool.proofs.EndLemmas.{nothing_taken}
use Rattle.wm_tool.proofs.RunLemmas.{nothing_backed}

module _ (bytes : List ℕ) (l1 l2 : Log) (old new : Option (List ℕ)) where
  -- ---- a run to the end

  finished : (out : Result Script ℕ → List Refused → List ℕ) (s : Script) (refused listed : List Refused) → script bytes ≡ Ok s → listed ≡ refused
      → IsBacked (texts_of (Ok s) refused) refused l1 l2 × TakesAll old new (out (Ok s) refused) → IsBacked (texts_of (script bytes) listed) listed l1 l2 × TakesAll old new (out (script bytes) listed)
  finished out s refused listed is same ends =
      subst (λ r. IsBacked (texts_of r listed) listed l1 l2 × TakesAll old new (out r listed)) (sym is)
      (subst (λ rs. IsBacked (texts_of (Ok s) rs) rs l1 l2 × TakesAll old new (out (Ok s) rs)) (sym same) ends)

  pub replay_finished : (s : Script) (refused listed : List Refused) → script bytes ≡ Ok s → listed ≡ refused
      → IsBacked (texts_of (Ok s) refused) refused l1 l2 × TakesAll old new (out_of (Ok s) refused) → WritesOn commands.Replay bytes l1 l2 (ending_of (Ok listed)) old new
  replay_finished s refused listed is same ends = finished out_of s refused listed is same ends

  pub draw_finished : (s : Script) (refused listed : List Refused) → script bytes ≡ Ok s → listed ≡ refused
      → IsBacked (texts_of (Ok s) refused) refused l1 l2 × TakesAll old new (drawn_of (Ok s) refused) → WritesOn commands.Draw bytes l1 l2 (ending_of (Ok listed)) old new
  draw_finished s refused listed is same ends = finished drawn_of s refused listed is same ends

  -- ---- a run that a fault of the sink or want of memory stopped

  replay_part : (stop : Stop) → Stops old new (out_of (script bytes)) (texts_of (script bytes)) l1 l2 → WritesOn commands.Replay bytes l1 l2 (of_stop stop) old new
  replay_part stops.WriteFault s = (s.0, s.1, s.2)
  replay_part stops.NoMemory s = (s.0, s.1, s.2)

  draw_part : (stop : Stop) → Stops old new (drawn_of (script bytes)) (texts_of (script bytes)) l1 l2 → WritesOn commands.Draw bytes l1 l2 (of_stop stop) old new
  draw_part stops.WriteFault s = (s.0, s.1, s.2)
  draw_part stops.NoMemory s = (s.0, s.1, s.2)

  pub replay_stopped : (s : Script) (stop : Stop) (r : Result (List Refused) Status) → script bytes ≡ Ok s → IsErrAnd r (λ z. z ≡ of_stop stop)
      → Stops old new (out_of (Ok s)) (texts_of (Ok s)) l1 l2 → WritesOn commands.Replay bytes l1 l2 (ending_of r) old new
  replay_stopped s stop (Ok x) is e part = absurd e
  replay_stopped s stop (Err z) is e part =
      subst (λ z. WritesOn commands.Replay bytes l1 l2 z old new) (sym e) (replay_part stop (subst (λ r. Stops old new (out_of r) (texts_of r) l1 l2) (sym is) part))

  pub draw_stopped : (s : Script) (stop : Stop) (r : Result (List Refused) Status) → script bytes ≡ Ok s → IsErrAnd r (λ z. z ≡ of_stop stop)
      → Stops old new (drawn_of (Ok s)) (texts_of (Ok s)) l1 l2 → WritesOn commands.Draw bytes l1 l2 (ending_of r) old new
  draw_stopped s stop (Ok x) is e part = absurd e
  draw_stopped s stop (Err z) is e part =
      subst (λ z. WritesOn commands.Draw bytes l1 l2 z old new) (sym e) (draw_part stop (subst (λ r. Stops old new (drawn_of r) (texts_of r) l1 l2) (sym is) part))

-- ---- bytes that are no script

replay_nothing : (bytes : List ℕ) (log : Log) (t : Option (List ℕ)) (refusal : ScriptRefusal) → WritesOn commands.Replay bytes log log (of_script refusal) t t
replay_nothing bytes log t (refusals.BadLine line) = refl
replay_nothing bytes log t refusals.NoMemory = ([], nothing_backed (texts_in commands.Replay bytes []) log, nothing_taken t _)

draw_nothing : (bytes : List ℕ) (log : Log) (t : Option (List ℕ)) (refusal : ScriptRefusal) → WritesOn commands.Draw bytes log log (of_script refusal) t t
draw_nothing bytes log t (refusals.BadLine line) = refl
draw_nothing bytes log t refusals.NoMemory = ([], nothing_backed (texts_in commands.Draw bytes []) log, nothing_taken t _)

-- a run on bytes that are no script wrote nothing
pub nothing_replayed : (bytes : List ℕ) (log : Log) (t : Option (List ℕ)) (refusal : ScriptRefusal) (r : Result (List Refused) Status) → IsErrAnd r (λ s. s ≡ of_script refusal)
    → WritesOn commands.Replay bytes log log (ending_of r) t t
nothing_replayed bytes log t refusal (Ok x) e = absurd e
nothing_replayed bytes log t refusal (Err s) e = subst (λ z. WritesOn commands.Replay bytes log log z t t) (sym e) (replay_nothing bytes log t refusal)

pub nothing_drawn : (bytes : List ℕ) (log : Log) (t : Option (List ℕ)) (refusal : ScriptRefusal) (r : Result (List Refused) Status) → IsErrAnd r (λ s. s ≡ of_script refusal)
    → WritesOn commands.Draw bytes log log (ending_of r) t t
nothing_drawn bytes log t refusal (Ok x) e = absurd e
nothing_drawn bytes log t refusal (Err s) e = subst (λ z. WritesOn commands.Draw bytes log log z t t) (sym e) (draw_nothing bytes log t refusal)
