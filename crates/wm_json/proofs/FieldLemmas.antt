-- Fields that are added the last first are the members in order.
use Rattle.std.proofs.Common.{◌≡◌, ℕ, Bool, true, false, ◌&&◌, List, [], ◌∷◌, None, Some, Ordering, Less, Equal, Greater, nat_cmp, true≢false, refl, sym, ◌∙◌, ap}
use Rattle.std.specs.Cmp.Lexicographic.{slice_cmp}
use Rattle.std.specs.List.{list_all}
use Rattle.std.specs.Ordering.{is_lt}
use Rattle.serde_json.specs.Data.{Data, Members, no_members, member, put as with_member}
use Rattle.wm_json.specs.Objects.{Field, members_with, put_fields}

abbrev is_before : List ℕ → List ℕ → Bool
is_before k l = is_lt (slice_cmp nat_cmp k l)

-- each key is before those after it
abbrev pub are_in_order : List (Field Data) → Bool
are_in_order [] = true
are_in_order (f ∷ fs) = list_all (λ g. is_before f.0 g.0) fs && are_in_order fs

both : (a b : Bool) → (a && b) ≡ true → (a ≡ true) × (b ≡ true)
both true b h = (refl, h)
both false b h = absurd (true≢false (sym h))

in_front : (k : List ℕ) (d : Data) (l : List ℕ) (e : Data) (ms : Members) (o : Ordering) → slice_cmp nat_cmp k l ≡ o → is_lt o ≡ true → with_member k d (member l e ms) ≡ member k d (member l e ms)
in_front k d l e ms Less is h = rw is
in_front k d l e ms Equal is h = absurd (true≢false (sym h))
in_front k d l e ms Greater is h = absurd (true≢false (sym h))

first : (k : List ℕ) (d : Data) (fs : List (Field Data)) → list_all (λ g. is_before k g.0) fs ≡ true → with_member k d (members_with fs) ≡ member k d (members_with fs)
first k d [] h = refl
first k d ((l, None) ∷ fs) h = first k d fs (both _ _ h).1
first k d ((l, Some e) ∷ fs) h = in_front k d l e (members_with fs) (slice_cmp nat_cmp k l) refl (both _ _ h).0

-- members that are added in order, the last first
pub put_in_order : (fs : List (Field Data)) → are_in_order fs ≡ true → put_fields fs no_members ≡ members_with fs
put_in_order [] h = refl
put_in_order ((k, None) ∷ fs) h = put_in_order fs (both _ _ h).1
put_in_order ((k, Some d) ∷ fs) h = ap (with_member k d) (put_in_order fs (both _ _ h).1) ∙ first k d fs (both _ _ h).0
