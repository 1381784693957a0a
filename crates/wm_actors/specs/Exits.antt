-- The step `exit` of an actor that failed.
use Rattle.std.specs.Prelude.{◌≡◌, ◌⊎◌, codes}
use Rattle.wm_criteria.specs.Verdict.{IsVerdict}
use Rattle.wm_criteria.specs.declared.verdict.Verdict.{Verdict}
use Rattle.wm_history.specs.Act.{Act}
use Rattle.wm_history.specs.Act as act
use Rattle.wm_core.specs.Passes.{Pass, Saw, Took}
use Rattle.wm_history.specs.declared.step.Answer.{Answer}
use Rattle.wm_actors.specs.declared.ending.ActorEnd.{ActorEnd}
use Rattle.wm_actors.specs.declared.ending.ActorEnd.TheVariants as end

-- the step is the text `exit`, with the verdict on it
pub record IsExit (said : Act) : Type 0 where
  pub verdict : Verdict
  pub verdict_is : IsVerdict (codes "exit") verdict
  pub text : said ≡ act.Run (record { text = codes "exit"; verdict = verdict })

-- `exit` is the last entry that the pass has seen, and its last mark
pub record SaidExit (before now : Pass) : Type 0 where
  pub said : Act
  pub answer : Answer
  pub exit : IsExit said
  pub took : Took before now said answer

-- The step `exit` was taken, or it was refused, or there was no memory to make it.
abbrev pub TriedExit : Pass → Pass → Type 0
TriedExit before now = Saw before now ⊎ SaidExit before now

-- An actor that ended otherwise than by being stopped tried the step `exit` then, so that all end.
abbrev pub Exits : ActorEnd → Pass → Pass → Type 0
Exits end.Stopped before now = now ≡ before
Exits other before now = TriedExit before now
