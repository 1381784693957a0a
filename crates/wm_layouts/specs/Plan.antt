-- When a plan is sound.
use Rattle.std.specs.Prelude.{◌≡◌, ◌*◌, ◌≤◌, pos, negsuc, int_le, nat_le, Bool, false, ◌&&◌, ◌||◌, IsTrue, ℕ, List, [], ◌∷◌, length, codes}
use Rattle.std.specs.Str.{bytes_eq}
use Rattle.wm_base.specs.declared.geometry.Rect.{Rect}
use Rattle.wm_base.specs.declared.geometry.Edges.{Edges}
use Rattle.wm_base.specs.declared.plan.Border.{Border}
use Rattle.wm_base.specs.declared.plan.Border.TheVariants.{Normal, Pixel, Bare}
use Rattle.wm_base.specs.declared.plan.OutputPlan.{OutputPlan}
use Rattle.wm_saved.specs.declared.saved.SavedLayout.{SavedLayout}
use Rattle.wm_saved.specs.Limits.{is_fit}
use Rattle.wm_layouts.specs.declared.plan.Env.{Env}
use Rattle.wm_layouts.specs.declared.plan.Plan.{Plan}

-- a place from -131,072 to 131,071
abbrev pub is_fit_place : Rect → Bool
is_fit_place r = int_le (negsuc 131071) r.x && int_le r.x (pos 131071) && int_le (negsuc 131071) r.y && int_le r.y (pos 131071)

-- sides of 1 to 16,384, and an area of at most 33,554,432
abbrev pub is_fit_size : Rect → Bool
is_fit_size r = nat_le 1 r.w && nat_le r.w 16384 && nat_le 1 r.h && nat_le r.h 16384 && nat_le (r.w * r.h) 33554432

-- an output may have the rectangle
abbrev pub is_fit_rect : Rect → Bool
is_fit_rect r = is_fit_place r && is_fit_size r

pub record IsFitEdges (e : Edges) : Type 0 where
  pub top : e.top ≤ 16384
  pub right : e.right ≤ 16384
  pub bottom : e.bottom ≤ 16384
  pub left : e.left ≤ 16384

abbrev pub IsFitOutput : OutputPlan → Type 0
IsFitOutput o = IsTrue (is_fit_rect o.rect) × IsFitEdges o.reserved

abbrev pub IsFitBorder : Border → Type 0
IsFitBorder (Normal n) = n ≤ 64
IsFitBorder (Pixel n) = n ≤ 64
IsFitBorder Bare = Unit {0}

-- each output is within its limits
abbrev pub FitOutputs : List OutputPlan → Type 0
FitOutputs [] = Unit {0}
FitOutputs (o ∷ os) = IsFitOutput o × FitOutputs os

-- one of the outputs has the name
abbrev pub is_taken : List ℕ → List OutputPlan → Bool
is_taken n [] = false
is_taken n (o ∷ os) = bytes_eq o.name n || is_taken n os

-- no two outputs have one name
abbrev pub NamesDiffer : List OutputPlan → Type 0
NamesDiffer [] = Unit {0}
NamesDiffer (o ∷ os) = (is_taken o.name os ≡ false) × NamesDiffer os

-- the borders and marks of each layout are within their limits
abbrev pub FitLayouts : List (List ℕ × SavedLayout) → Type 0
FitLayouts [] = Unit {0}
FitLayouts (l ∷ ls) = IsTrue (is_fit l.1) × FitLayouts ls

-- there are 1 to 8 outputs, each within its limits and with a name of its own, and the border, the gaps and the layouts are
-- within theirs
pub record IsSound (p : Plan) : Type 0 where
  pub some : 1 ≤ length p.outputs
  pub few : length p.outputs ≤ 8
  pub fit : FitOutputs p.outputs
  pub names : NamesDiffer p.outputs
  pub border : IsFitBorder p.border
  pub inner : p.inner ≤ 1000
  pub outer : p.outer ≤ 1000
  pub layouts : FitLayouts p.env.layouts

-- the outputs of the standard plan
abbrev pub default_outputs : List OutputPlan
default_outputs =
    record {
      name = codes "DP-1";
      rect = record { x = pos 0; y = pos 0; w = 1000; h = 800 };
      reserved = record { top = 0; right = 0; bottom = 0; left = 0 };
    }
    ∷ []

-- no modes but the default one, no layouts and no homes
abbrev pub bare_env : Env
bare_env = record { modes = []; layouts = []; homes = [] }

-- the standard plan, so far as a desk opens by it: its outputs, no borders, no gaps, no modes, no layouts and no homes
pub record IsStandard (p : Plan) : Type 0 where
  pub outputs : p.outputs ≡ default_outputs
  pub border : p.border ≡ Bare
  pub inner : p.inner ≡ 0
  pub outer : p.outer ≡ 0
  pub env : p.env ≡ bare_env
