-- How readings one after another, and one or else another, come to a value.
use Rattle.std.proofs.Common.{◌≡◌, refl, ap, ℕ, List, [], ◌∷◌, Option, None, Some, Bool, true, false, cond}
use Rattle.std.specs.Option.{option_map}
use Rattle.wm_fields.specs.Fields.{if_end, or_else, or_none}
use Rattle.wm_lines.specs.Lines.{or_step}
use Rattle.wm_script.specs.Lines.{or}
use Rattle.wm_history.specs.declared.step.Step.{Step}

abbrev of_some : {A : Type 0} → A → Option A → A
of_some x None = x
of_some x (Some y) = y

pub same_some : {A : Type 0} (x y : A) → Some x ≡ Some y → x ≡ y
same_some x y e = ap (of_some x) e

pub none_by : {A B C : Type 0} (o : Option A) (f : A → Option B) (y : B) → ((x : A) → o ≡ Some x → f x ≡ Some y → C) → or_none o f ≡ Some y → C
none_by None f y go e = cc
none_by (Some x) f y go e = go x refl e

pub else_by : {A C : Type 0} (o : Option (List ℕ)) (f : List ℕ → Option A) (other : Option A) (y : A)
    → ((rest : List ℕ) → o ≡ Some rest → f rest ≡ Some y → C) → (other ≡ Some y → C) → or_else o f other ≡ Some y → C
else_by None f other y here there e = there e
else_by (Some rest) f other y here there e = here rest refl e

pub step_by : {C : Type 0} (o other : Option Step) (y : Step) → (o ≡ Some y → C) → (other ≡ Some y → C) → or_step o other ≡ Some y → C
step_by None other y here there e = there e
step_by (Some x) other y here there e = here e

pub or_by : {A C : Type 0} (o other : Option A) (y : A) → (o ≡ Some y → C) → (other ≡ Some y → C) → or o other ≡ Some y → C
or_by None other y here there e = there e
or_by (Some x) other y here there e = here e

pub map_by : {A B C : Type 0} (f : A → B) (o : Option A) (y : B) → ((x : A) → o ≡ Some x → f x ≡ y → C) → option_map f o ≡ Some y → C
map_by f None y go e = cc
map_by f (Some x) y go e = go x refl (same_some (f x) y e)

pub end_by : {A C : Type 0} (x : A) (text : List ℕ) (y : A) → (text ≡ [] → x ≡ y → C) → if_end x text ≡ Some y → C
end_by x [] y go e = go refl (same_some x y e)
end_by x (c ∷ cs) y go e = cc

-- a test that lets a value through
pub test_by : {A C : Type 0} (t : Bool) (o : Option A) (y : A) → (t ≡ true → o ≡ Some y → C) → cond t o None ≡ Some y → C
test_by true o y go e = go refl e
test_by false o y go e = cc
