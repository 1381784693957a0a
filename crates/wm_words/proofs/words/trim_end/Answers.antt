use Rattle.std.proofs.Common.{◌≡◌, true, false, length, get_or, ◌-◌}
use Rattle.wm_words.specs.Pieces.{is_blank}
use Rattle.wm_words.proofs.Pieces.{trim_end-last_kept, trim_end-last_blank}
use Rattle.wm_words.proofs.words.trim_end.Goals as goal

pub returns-then-not-at : goal.returns-then-not-at
returns-then-not-at c =
    let kept : is_blank (get_or c.loop-rest.rest.now (length c.loop-rest.rest.now - 1) 0) ≡ false = cc in
    let h = trim_end-last_kept c.loop-rest.rest.now c.in-len1-up.len_at_least kept in
    cc (h, c.loop-rest.invariant)

pub loop-rest-preserved : goal.loop-rest-preserved
loop-rest-preserved c =
    let blank : is_blank (get_or c.loop-rest.rest.now (length c.loop-rest.rest.now - 1) 0) ≡ true = cc in
    let h = trim_end-last_blank c.loop-rest.rest.now c.in-len1-up.len_at_least blank in
    cc (h, c.loop-rest.invariant)
