use Rattle.std.proofs.Common.{◌≡◌, ℕ, List, ◌++◌, length, ◌∙◌, ap, append_assoc}
use Rattle.std.specs.Int.{w32, to_le_bytes}
use Rattle.wm_frames.specs.Frame.{MAGIC}
use Rattle.wm_frames.proofs.message.encode.Goals as goal

-- two pieces at the end are their join at the end
joined : (old first all head named payload : List ℕ) → all ≡ first ++ payload → first ≡ old ++ head → head ≡ named → all ≡ old ++ (named ++ payload)
joined old first all head named payload e f g =
    e ∙ ap (λ xs. xs ++ payload) (f ∙ ap (λ xs. old ++ xs) g) ∙ append_assoc old named payload

pub returns-clause-ok : goal.returns-clause-ok
returns-clause-ok c =
    joined c.args.out.now.items c.add.new.out.items c.add-2.new.out.items c.head_of-head.result
    (MAGIC ++ to_le_bytes w32 (length c.args.m.now.payload) ++ to_le_bytes w32 c.args.m.now.kind) c.args.m.now.payload
    (c.add-2.ensures.items ∙ ap (λ xs. c.add.new.out.items ++ xs) c.items-payload.ensures)
    (c.add.ensures.items ∙ ap (λ xs. xs ++ c.head_of-head.result) c.reserve.ensures.items)
    (c.head_of-head.ensures ∙ ap (λ xs. MAGIC ++ to_le_bytes w32 (length xs) ++ to_le_bytes w32 c.args.m.now.kind) c.items-payload.ensures)
