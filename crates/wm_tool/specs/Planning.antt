-- The plan of a desk that reads no script.
use Rattle.std.specs.Prelude.{◌≡◌, []}
use Rattle.wm_layouts.specs.Plan.{IsStandard}
use Rattle.wm_layouts.specs.declared.plan.Plan.{Plan}

-- the standard plan, with no text of a configuration
pub record IsPlain (p : Plan) : Type 0 where
  pub standard : IsStandard p
  pub config : p.config ≡ []
