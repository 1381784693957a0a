-- Climbing once finds what climbing for each aim finds.
use Rattle.std.proofs.Common.{◌≡◌, false, Option, None, Some, refl, ap, sym, ◌∙◌}
use Rattle.wm_base.specs.declared.geometry.Dir.{Dir}
use Rattle.wm_base.specs.declared.ids.ConId.{ConId}
use Rattle.wm_focus.proofs.RungLemmas.{Held, held, held_by, held_floats, held_kids, held_rest, nearest_none}
use Rattle.wm_focus.specs.declared.rungs.Aim.{Aim}
use Rattle.wm_focus.specs.declared.rungs.Aim.TheVariants.{Around, Beside, Out}
use Rattle.wm_focus.specs.declared.rungs.Climbed.{Climbed}
use Rattle.wm_focus.specs.declared.rungs.Ways.{Ways}
use Rattle.wm_focus.specs.Rungs.{nearest, rung}
use Rattle.wm_focus.specs.Walks.{climbed, climbed_by, further, ways}
use Rattle.wm_forest.specs.declared.part.Part.{Part}
use Rattle.wm_forest.specs.Focus.{row_holder}
use Rattle.wm_forest.specs.Forest.{Forest}
use Rattle.wm_forest.specs.Look.{first_floats, first_kids, first_part, rest_of, same}

-- what is found for an aim
abbrev way : Aim → Ways → Option ConId
way Beside w = w.beside
way Around w = w.around
way Out w = w.out

-- what the three climbs find together
abbrev join : Option Held → Option Held → Option Held → Option Climbed
join None b o = None
join (Some a) None o = None
join (Some a) (Some b) None = None
join (Some a) (Some b) (Some o) = Some (record { child = a.child; ways = record { beside = a.found; around = b.found; out = o.found } })

module _ (d : Dir) (c : ConId) (row : Forest) where
  joined : climbed d c row ≡ join (held Beside d c row) (held Around d c row) (held Out d c row)
  joined = by (row_holder c row)
    where
      by : (o : Option ConId) → climbed_by o (ways d c row) ≡ join (held_by o (nearest Beside d c row)) (held_by o (nearest Around d c row)) (held_by o (nearest Out d c row))
      by None = refl
      by (Some i) = refl

  -- what one climb finds is what the climb for an aim finds
  pub held_of : (aim : Aim) (x : Climbed) → climbed d c row ≡ Some x → held aim d c row ≡ Some (record { child = x.child; found = way aim x.ways })
  held_of aim x h = by aim (row_holder c row) h
    where
      by : (a : Aim) (o : Option ConId) → climbed_by o (ways d c row) ≡ Some x → held_by o (nearest a d c row) ≡ Some (record { child = x.child; found = way a x.ways })
      by a None h = cc
      by Beside (Some i) h = let one : record { child = i; ways = ways d c row } ≡ x = cc in ap (λ (y : Climbed). Some (record { child = y.child; found = y.ways.beside })) one
      by Around (Some i) h = let one : record { child = i; ways = ways d c row } ≡ x = cc in ap (λ (y : Climbed). Some (record { child = y.child; found = y.ways.around })) one
      by Out (Some i) h = let one : record { child = i; ways = ways d c row } ≡ x = cc in ap (λ (y : Climbed). Some (record { child = y.child; found = y.ways.out })) one

  pub held_not : (aim : Aim) → climbed d c row ≡ None → held aim d c row ≡ None
  held_not aim h = by (row_holder c row) h
    where
      by : (o : Option ConId) → climbed_by o (ways d c row) ≡ None → held_by o (nearest aim d c row) ≡ None
      by None h = refl
      by (Some i) h = cc

  -- where the three climbs find these, the one climb finds them
  join_is : (a b o : Option Held) → held Beside d c row ≡ a → held Around d c row ≡ b → held Out d c row ≡ o → climbed d c row ≡ join a b o
  join_is a b o p q r =
      joined ∙ (ap (λ z. join z (held Around d c row) (held Out d c row)) p ∙ (ap (λ z. join a z (held Out d c row)) q ∙ ap (λ z. join a b z) r))

pub climb_kids : (d : Dir) (c : ConId) (row : Forest) (part : Part) (x : Climbed) → first_part row ≡ Some part → same part.id c ≡ false → climbed d c (first_kids row) ≡ Some x
    → climbed d c row ≡ Some (record { child = part.id; ways = further x.ways d (rung part.kind (first_kids row) x.child) })
climb_kids d c row part x h s k =
    join_is d c row _ _ _ (held_kids Beside d c row part _ h s (held_of d c (first_kids row) Beside x k)) (held_kids Around d c row part _ h s (held_of d c (first_kids row) Around x k))
    (held_kids Out d c row part _ h s (held_of d c (first_kids row) Out x k))

pub climb_floats : (d : Dir) (c : ConId) (row : Forest) (part : Part) (x : Climbed) → first_part row ≡ Some part → same part.id c ≡ false → climbed d c (first_kids row) ≡ None → climbed d c (first_floats row) ≡ Some x
    → climbed d c row ≡ Some (record { child = part.id; ways = x.ways })
climb_floats d c row part x h s n k =
    let none = λ (aim : Aim). held_not d c (first_kids row) aim n in
    join_is d c row _ _ _ (held_floats Beside d c row part _ h s (none Beside) (held_of d c (first_floats row) Beside x k)) (held_floats Around d c row part _ h s (none Around) (held_of d c (first_floats row) Around x k))
    (held_floats Out d c row part _ h s (none Out) (held_of d c (first_floats row) Out x k))

pub climb_rest : (d : Dir) (c : ConId) (row : Forest) (part : Part) → first_part row ≡ Some part → same part.id c ≡ false → climbed d c (first_kids row) ≡ None → climbed d c (first_floats row) ≡ None
    → climbed d c row ≡ climbed d c (rest_of row)
climb_rest d c row part h s n m =
    let same_held = λ (aim : Aim). held_rest aim d c row part h s (held_not d c (first_kids row) aim n) (held_not d c (first_floats row) aim m) in
    join_is d c row (held Beside d c (rest_of row)) (held Around d c (rest_of row)) (held Out d c (rest_of row)) (same_held Beside) (same_held Around) (same_held Out) ∙ sym (joined d c (rest_of row))

-- nothing is found above a node that is not there
pub ways_none : (d : Dir) (c : ConId) (row : Forest) → climbed d c row ≡ None → ways d c row ≡ record { beside = None; around = None; out = None }
ways_none d c row h =
    rw (nearest_none Beside d c row (held_not d c row Beside h), nearest_none Around d c row (held_not d c row Around h), nearest_none Out d c row (held_not d c row Out h)) refl
