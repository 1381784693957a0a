use Rattle.std.proofs.Common.{◌≡◌, ◌++◌, codes, string_bytes}
use Rattle.std.specs.Fmt.{signed_decimal}
use Rattle.std.proofs.lemmas.Int.{to_z-of_z}
use Rattle.wm_language.specs.Spelling.{position_text}
use Rattle.wm_language.proofs.Lists.{two_writes_on}
use Rattle.wm_language.proofs.printing.put_position.Goals as goal

pub returns : goal.returns
unfolding position_text
returns c =
    let fx = c.ranges.x in
    let fy = c.ranges.y in
    let one : string_bytes c.put_place.new.out ≡ string_bytes c.args.out.now ++ (codes "move position " ++ signed_decimal c.args.x ++ codes " px") = simp to_z-of_z at c.in_ok-put_place.ensures in
    let two = simp to_z-of_z at c.put_place-2.ensures in
    two_writes_on c.put_place-2.result _ _ _ _ _ one two
