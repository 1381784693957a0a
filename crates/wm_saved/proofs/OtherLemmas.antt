-- Fields of other keys are passed over.
use Rattle.std.proofs.Common.{◌≡◌, ℕ, zero, suc, ◌<◌, Bool, true, false, ◌||◌, if◌then◌else◌, List, [], ◌∷◌, Option, Ok, Ordering, Less, Equal, Greater, nat_cmp, is_eq, codes, get_or, length, arith, refl, sym, ◌∙◌, ap, true≢false}
use Rattle.std.specs.List.{list_any}
use Rattle.std.specs.Ordering.{match_ordering}
use Rattle.std.specs.Cmp.Lexicographic.{slice_cmp}
use Rattle.std.specs.Str.{bytes_eq}
use Rattle.std.proofs.lemmas.Map.Text.{is_eq-slice_cmp}
use Rattle.std.proofs.lemmas.Slice.Eq.{bytes_eq-Decides}
use Rattle.serde_json.specs.Data.{Data, Members, no_members, member, put}
use Rattle.serde_json.proofs.Views.{get_member-put_other}
use Rattle.wm_saved.specs.Answers.{Answer, ◌>>=◌, below}
use Rattle.wm_saved.specs.Others.{keys, PassesOverOthers}
use Rattle.wm_base.specs.declared.plan.Layout.TheVariants.{SplitH}
use Rattle.wm_saved.specs.Fields.{bordered, found, found_array, frame_in, layout_in, mark_at, text_in, type_in, width_in}
use Rattle.wm_saved.specs.Swallows.{swallow_at}
use Rattle.wm_saved.specs.Reading.{nodes_in, trees_at, with_head}
use Rattle.wm_saved.specs.declared.fields.Frame.TheVariants as frames
use Rattle.wm_saved.specs.declared.saved.SavedNode.{SavedNode}

both_false : (a b : Bool) → (a || b) ≡ false → (a ≡ false) × (b ≡ false)
both_false true b e = absurd cc
both_false false b e = (refl, e)

each_false : (p : List ℕ → Bool) (xs : List (List ℕ)) (i : ℕ) → list_any p xs ≡ false → i < length xs → p (get_or xs i []) ≡ false
each_false p [] i e l = absurd (omega arith)
each_false p (x ∷ xs) zero e l = (both_false (p x) (list_any p xs) e).0
each_false p (x ∷ xs) (suc i) e l = each_false p xs i (both_false (p x) (list_any p xs) e).1 (omega arith)

differs : (k q : List ℕ) → bytes_eq k q ≡ false → q ≡ k → ⊥
differs k q e is = true≢false (sym ((bytes_eq-Decides k q).1 (sym is)) ∙ e)

-- the nodes of an object are the same with another field
passed_here : (path k : List ℕ) (d : Data) (rest : Answer (List SavedNode)) → bytes_eq k (codes "nodes") ≡ false → (if bytes_eq k (codes "nodes") then trees_at (below path k) d else rest) ≡ rest
passed_here path k d rest e = ap (λ b. if b then trees_at (below path k) d else rest) e

nodes_put_at : (o : Ordering) (path k l : List ℕ) (d e : Data) (ms : Members) → slice_cmp nat_cmp k l ≡ o → bytes_eq k (codes "nodes") ≡ false → nodes_in path (put k d ms) ≡ nodes_in path ms
    → nodes_in path (match_ordering o (member k d (member l e ms)) (member l d ms) (member l e (put k d ms))) ≡ nodes_in path (member l e ms)
nodes_put_at Less path k l d e ms is other more = passed_here path k d (nodes_in path (member l e ms)) other
nodes_put_at Equal path k l d e ms is other more =
    let same : k ≡ l = (bytes_eq-Decides k l).0 (sym (is_eq-slice_cmp k l) ∙ ap is_eq is) in
    let apart : bytes_eq l (codes "nodes") ≡ false = ap (λ x. bytes_eq x (codes "nodes")) (sym same) ∙ other in
    passed_here path l d (nodes_in path ms) apart ∙ sym (passed_here path l e (nodes_in path ms) apart)
nodes_put_at Greater path k l d e ms is other more = ap (λ r. if bytes_eq l (codes "nodes") then trees_at (below path l) e else r) more

nodes_put : (path k : List ℕ) (d : Data) (ms : Members) → bytes_eq k (codes "nodes") ≡ false → nodes_in path (put k d ms) ≡ nodes_in path ms
nodes_put path k d no_members other = passed_here path k d (nodes_in path no_members) other
nodes_put path k d (member l e ms) other = nodes_put_at (slice_cmp nat_cmp k l) path k l d e ms refl other (nodes_put path k d ms other)

-- what an object is read as, by the values of its keys
abbrev read_of : List ℕ → Option Data → Option Data → Option Data → Option Data → Option Data → Answer (List SavedNode) → Option Data → Option Data → Answer SavedNode
read_of path border width layout marks name children swallows kind =
    ((found (below path (codes "border")) frames.Normal frame_in border >>= λ f. found (below path (codes "current_border_width")) 2 width_in width >>= λ w. Ok (bordered f w))
    >>= λ b. found (below path (codes "layout")) SplitH layout_in layout
    >>= λ l. found_array mark_at (below path (codes "marks")) marks
    >>= λ m. found (below path (codes "name")) [] text_in name
    >>= λ n. Ok (record { border = b; layout = l; marks = m; name = n }))
    >>= λ head. children
    >>= λ nodes. (found_array swallow_at (below path (codes "swallows")) swallows >>= λ s. found (below path (codes "type")) tt type_in kind >>= λ con. Ok s)
    >>= λ s. Ok (with_head head nodes s)

-- another field changes nothing
pub passes_over_others : PassesOverOthers
passes_over_others path k d ms e =
    let other : (i : ℕ) → i < 8 → get_or keys i [] ≡ k → ⊥ = λ i l. differs k (get_or keys i []) (each_false (bytes_eq k) keys i e l) in
    λ i. read_of path
    (get_member-put_other (codes "border") k d ms (other 0 (omega arith)) i)
    (get_member-put_other (codes "current_border_width") k d ms (other 1 (omega arith)) i)
    (get_member-put_other (codes "layout") k d ms (other 2 (omega arith)) i)
    (get_member-put_other (codes "marks") k d ms (other 3 (omega arith)) i)
    (get_member-put_other (codes "name") k d ms (other 4 (omega arith)) i)
    (nodes_put path k d ms (each_false (bytes_eq k) keys 5 e (omega arith)) i)
    (get_member-put_other (codes "swallows") k d ms (other 6 (omega arith)) i)
    (get_member-put_other (codes "type") k d ms (other 7 (omega arith)) i)
