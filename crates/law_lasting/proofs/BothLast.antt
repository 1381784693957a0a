-- Two properties of trees that last, last together.
use Rattle.law_lasting.specs.Lasting.{Lasts}
use Rattle.wm_tree.specs.TreeValue.{TreeValue}

-- each word keeps each of the two
pub both_last : {P Q : TreeValue → Type 0} → Lasts P → Lasts Q → Lasts (λ t. P t × Q t)
both_last p q = record {
  alike = λ t new e f g j h. (p.alike t new e f g j h.0, q.alike t new e f g j h.1);
  editing = λ c edit t e f h. (p.editing c edit t e f h.0, q.editing c edit t e f h.1);
  renaming = λ was name w t e f g h. (p.renaming was name w t e f g h.0, q.renaming was name w t e f g h.1);
  restating = λ c old now t e f g h. (p.restating c old now t e f g h.0, q.restating c old now t e f g h.1);
  filling = λ c on t e f h. (p.filling c on t e f h.0, q.filling c on t e f h.1);
  stripping = λ c t h. (p.stripping c t h.0, q.stripping c t h.1);
  unmarking = λ c mark t h. (p.unmarking c mark t h.0, q.unmarking c mark t h.1);
  giving = λ c mark add t e h. (p.giving c mark add t e h.0, q.giving c mark add t e h.1);
  taking_off = λ keep mark t h. (p.taking_off keep mark t h.0, q.taking_off keep mark t h.1);
  baring = λ t h. (p.baring t h.0, q.baring t h.1);
  urging = λ v t e f g h. (p.urging v t e f g h.0, q.urging v t e f g h.1);
  calming = λ v t h. (p.calming v t h.0, q.calming v t h.1);
  raising = λ c t e h. (p.raising c t e h.0, q.raising c t e h.1);
  moving = λ c at t e f g i j h. (p.moving c at t e f g i j h.0, q.moving c at t e f g i j h.1);
  exchanging = λ a b t e f g h. (p.exchanging a b t e f g h.0, q.exchanging a b t e f g h.1);
  space_moving = λ w o t e f g j h. (p.space_moving w o t e f g j h.0, q.space_moving w o t e f g j h.1);
  going_along = λ v w t e f h. (p.going_along v w t e f h.0, q.going_along v w t e f h.1);
  hiding = λ c t e f h. (p.hiding c t e f h.0, q.hiding c t e f h.1);
  putting_away = λ w c t e f g h. (p.putting_away w c t e f g h.0, q.putting_away w c t e f g h.1);
  sinking = λ c t e f h. (p.sinking c t e f h.0, q.sinking c t e f h.1);
  attaching = λ who props natural t e f h. (p.attaching who props natural t e f h.0, q.attaching who props natural t e f h.1);
  joining = λ c newcomer t e f h. (p.joining c newcomer t e f h.0, q.joining c newcomer t e f h.1);
  wrapping = λ c layout t e f g h. (p.wrapping c layout t e f g h.0, q.wrapping c layout t e f g h.1);
  space_coming = λ o name t e f g j h. (p.space_coming o name t e f g j h.0, q.space_coming o name t e f g j h.1);
  output_coming = λ plan t e f g h. (p.output_coming plan t e f g h.0, q.output_coming plan t e f g h.1);
  detaching = λ c t e f h. (p.detaching c t e f h.0, q.detaching c t e f h.1);
  settling = λ t e h. (p.settling t e h.0, q.settling t e h.1);
  output_going = λ o t e f h. (p.output_going o t e f h.0, q.output_going o t e f h.1);
}
