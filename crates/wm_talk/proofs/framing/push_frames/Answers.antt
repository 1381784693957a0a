use Rattle.std.proofs.Common.{◌≡◌, ◌≤◌, ◌-◌, ◌∙◌, ◌++◌, ◌∷◌, [], List, ap, append_assoc, arith, drop, get_or, length, suc, sym, take}
use Rattle.std.proofs.lemmas.List.{take_all}
use Rattle.wm_frames.specs.Frame.{frame}
use Rattle.wm_talk.specs.Frames.{frames}
use Rattle.wm_talk.proofs.framing.push_frames.Goals as goal

rest_is : {A : Type 0} (g d : A) (rest : List A) → 1 ≤ length rest → g ≡ get_or rest 0 d → rest ≡ g ∷ take (length rest - 1) (drop 1 rest)
rest_is g d [] some is = absurd (omega arith)
rest_is g d (l ∷ rest) some is = ap (λ x. x ∷ rest) (sym is) ∙ ap (λ xs. g ∷ xs) (sym (take_all (suc (length rest) - 1) rest (omega arith)))

pub loop-rest-preserved : goal.loop-rest-preserved
loop-rest-preserved c =
    let rest = c.loop-rest.rest.now in
    let m = c.message-item.result in
    let others = take (length rest - 1) (drop 1 rest) in
    ap (λ xs. xs ++ frames others) c.in_ok-push_frame.ensures
    ∙ (append_assoc c.loop-rest.bytes.items (frame m) (frames others)
    ∙ (ap (λ ms. c.loop-rest.bytes.items ++ frames ms) (sym (rest_is m _ rest c.in-len1-up.len_at_least c.message-item.is)) ∙ c.loop-rest.invariant))
