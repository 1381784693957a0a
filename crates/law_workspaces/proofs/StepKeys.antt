-- The keys of workspaces: what is found among them is the place of a workspace in the order.
use Rattle.std.proofs.Common.{◌≡◌, ℕ, ◌≤◌, Bool, true, false, cond, ◌||◌, ◌⊎◌, inl, inr, List, ◌++◌, Option, None, Some, refl, ap, sym, ◌∙◌, subst, arith}
use Rattle.std.specs.Option.{option_or}
use Rattle.wm_base.specs.declared.ids.ConId.{ConId}
use Rattle.law_workspaces.proofs.BestLemmas.{In, append_best, beside, best_of, in_either, in_left, in_right}
use Rattle.law_workspaces.proofs.NameLemmas.{seen}
use Rattle.law_workspaces.proofs.OutlineLemmas.{keys_on}
use Rattle.wm_shared.proofs.StandingLemmas.{either, shown_row}
use Rattle.wm_shared.specs.declared.keys.Key.{Key}
use Rattle.wm_shared.specs.Keys.{with_key}
use Rattle.wm_spaces.specs.declared.order.Pick.{Pick}
use Rattle.wm_spaces.specs.declared.order.Pick.TheVariants as picking
use Rattle.wm_spaces.specs.Order.{best_on, best_with, better, key_if, keys_in, picks, space_key}
use Rattle.wm_spaces.specs.Targets.{best_at, focused_key, key_id, neighbour, own_key, past, spaces_of}
use Rattle.wm_tree.proofs.AttachLemmas.{has_row}
use Rattle.wm_tree.proofs.FocusLemmas.{current_there, outputs_of}
use Rattle.wm_forest.proofs.OnceLemmas.{in_kids, in_rest, only_kids, only_rest}
use Rattle.wm_forest.proofs.RecencyLemmas.{same_is, same_self}
use Rattle.wm_forest.specs.declared.part.NodeKind.{NodeKind}
use Rattle.wm_forest.specs.declared.part.NodeKind.TheVariants.{Root, Output, Space, Con}
use Rattle.wm_forest.specs.declared.part.SpacePart.{SpacePart}
use Rattle.wm_forest.specs.Forest.{Forest, end, con}
use Rattle.wm_forest.specs.Look.{first_kids, first_part, has, in_row, kind_by, kind_of, node_in, same, space_kind}
use Rattle.wm_forest.specs.SoundRow.{IsNode, IsSoundRow, outputs, spaces, tally}
use Rattle.wm_forest.specs.Spot.{room_below}
use Rattle.wm_tree.specs.Sound.{IsSound}
use Rattle.wm_tree.specs.TreeValue.{TreeValue, current, shown}

abbrev all : Forest → List Key
all row = keys_in picking.All row

-- ---- the best of a row is that of its keys

row_best : (back : Bool) (p : Pick) (row : Forest) (m : Option Key) → best_with back (keys_in p row) m ≡ best_of back p (keys_in picking.All row) m
row_best back p end m = refl
row_best back p (con part kids floats rest) m = step (space_kind part.kind) (row_best back p rest m)
  where
    step : (s : Option SpacePart) → best_with back (keys_in p rest) m ≡ best_of back p (keys_in picking.All rest) m
        → best_with back (with_key (key_if p part.id s) (keys_in p rest)) m ≡ best_of back p (with_key (key_if picking.All part.id s) (keys_in picking.All rest)) m
    step None e = e
    step (Some s) e = choose (picks p (space_key part.id s.name))
      where
        choose : (b : Bool) → best_with back (with_key (cond b (Some (space_key part.id s.name)) None) (keys_in p rest)) m
            ≡ cond b (better back (Some (space_key part.id s.name)) (best_of back p (keys_in picking.All rest) m)) (best_of back p (keys_in picking.All rest) m)
        choose true = ap (better back (Some (space_key part.id s.name))) e
        choose false = e

on_best : (back : Bool) (p : Pick) (row : Forest) → best_on back p row ≡ best_of back p (keys_on picking.All row) None
on_best back p end = refl
on_best back p (con part kids floats rest) =
    row_best back p kids (best_on back p rest)
    ∙ (ap (best_of back p (keys_in picking.All kids)) (on_best back p rest) ∙ sym (append_best back p (keys_in picking.All kids) (keys_on picking.All rest) None))

-- the keys of the current output's workspaces (`here`), or of all
abbrev pub keys_at : Bool → TreeValue → List Key
keys_at true t = keys_in picking.All (spaces_of (current t) t)
keys_at false t = keys_on picking.All (first_kids t.nodes)

at_best : (here back : Bool) (p : Pick) (t : TreeValue) → best_at here back p t ≡ best_of back p (keys_at here t) None
at_best true back p t = row_best back p (spaces_of (current t) t) None
at_best false back p t = on_best back p (first_kids t.nodes)

-- the neighbour is that of the keys
pub goes : (here back : Bool) (t : TreeValue) → neighbour here back t ≡ key_id (beside back (focused_key t) (keys_at here t)) (shown t)
goes here back t =
    ap (λ z. key_id (option_or z (best_at here back picking.All t)) (shown t)) (at_best here back (past back (focused_key t)) t)
    ∙ ap (λ z. key_id (option_or (best_of back (past back (focused_key t)) (keys_at here t) None) z) (shown t)) (at_best here back picking.All t)

-- ---- the workspace of a key

module _ (k : Key) where
  pub listed : (row : Forest) → In k (keys_in picking.All row) → in_row k.id row ≡ true
  listed end i = absurd i
  listed (con part kids floats rest) i = step (space_kind part.kind) i (listed rest)
    where
      step : (s : Option SpacePart) → In k (with_key (key_if picking.All part.id s) (keys_in picking.All rest)) → (In k (keys_in picking.All rest) → in_row k.id rest ≡ true) → (same part.id k.id || in_row k.id rest) ≡ true
      step None i ih = either (same part.id k.id) (in_row k.id rest) (ih i)
      step (Some s) (inl one) ih = rw (same_self part.id k.id (ap (λ (z : Key). z.id) one)) refl
      step (Some s) (inr i) ih = either (same part.id k.id) (in_row k.id rest) (ih i)

  outs_has : (row : Forest) → In k (keys_on picking.All row) → has k.id row ≡ true
  outs_has end i = absurd i
  outs_has (con part kids floats rest) i = step (in_either k (keys_in picking.All kids) (keys_on picking.All rest) i) (outs_has rest)
    where
      step : In k (keys_in picking.All kids) ⊎ In k (keys_on picking.All rest) → (In k (keys_on picking.All rest) → has k.id rest ≡ true) → has k.id (con part kids floats rest) ≡ true
      step (inl i) ih = in_kids k.id part kids floats rest (has_row k.id kids (listed kids i))
      step (inr i) ih = in_rest k.id part kids floats rest (ih i)

  abbrev Own : Forest → Type 0
  Own f = own_key k.id (kind_by space_kind (first_part f)) ≡ k

  row_own : (row : Forest) → tally k.id row ≤ 1 → In k (keys_in picking.All row) → own_key k.id (seen k.id row) ≡ k
  row_own end once i = absurd i
  row_own (con part kids floats rest) once i = step (space_kind part.kind) refl i (row_own rest (omega (arith, once)))
    where
      behind : In k (keys_in picking.All rest) → own_key k.id (seen k.id rest) ≡ k → own_key k.id (seen k.id (con part kids floats rest)) ≡ k
      behind i e = ap (λ z. own_key k.id (kind_by space_kind (first_part z))) (only_rest k.id part kids floats rest once (has_row k.id rest (listed rest i))) ∙ e

      step : (s : Option SpacePart) → space_kind part.kind ≡ s → In k (with_key (key_if picking.All part.id s) (keys_in picking.All rest)) → (In k (keys_in picking.All rest) → own_key k.id (seen k.id rest) ≡ k)
          → own_key k.id (seen k.id (con part kids floats rest)) ≡ k
      step None e i ih = behind i (ih i)
      step (Some s) e (inl one) ih =
          let mine : part.id ≡ k.id = ap (λ (z : Key). z.id) one in
          rw (same_self part.id k.id mine, e) (ap (λ z. space_key z s.name) (sym mine) ∙ one)
      step (Some s) e (inr i) ih = behind i (ih i)

  outs_own : (row : Forest) → tally k.id row ≤ 1 → In k (keys_on picking.All row) → own_key k.id (seen k.id row) ≡ k
  outs_own end once i = absurd i
  outs_own (con part kids floats rest) once i = step (in_either k (keys_in picking.All kids) (keys_on picking.All rest) i) (outs_own rest (omega (arith, once)))
    where
      step : In k (keys_in picking.All kids) ⊎ In k (keys_on picking.All rest) → (In k (keys_on picking.All rest) → own_key k.id (seen k.id rest) ≡ k) → own_key k.id (seen k.id (con part kids floats rest)) ≡ k
      step (inl i) ih = ap (λ z. own_key k.id (kind_by space_kind (first_part z))) (only_kids k.id part kids floats rest once (has_row k.id kids (listed kids i))) ∙ row_own kids (omega (arith, once)) i
      step (inr i) ih = ap (λ z. own_key k.id (kind_by space_kind (first_part z))) (only_rest k.id part kids floats rest once (outs_has rest i)) ∙ ih i

  -- a key of one of the workspaces is its own
  pub tree_own : (t : TreeValue) → IsSound t → In k (keys_on picking.All (first_kids t.nodes)) → own_key k.id (kind_of space_kind k.id t.nodes) ≡ k
  tree_own t s = by t.nodes (s.once k.id)
    where
      by : (f : Forest) → tally k.id f ≤ 1 → In k (keys_on picking.All (first_kids f)) → own_key k.id (seen k.id f) ≡ k
      by end once i = absurd i
      by (con part kids floats rest) once i = ap (λ z. own_key k.id (kind_by space_kind (first_part z))) (only_kids k.id part kids floats rest once (outs_has kids i)) ∙ outs_own kids (omega (arith, once)) i

  pub node_all : (o : ConId) (row : Forest) → In k (keys_in picking.All (first_kids (node_in o row))) → In k (keys_on picking.All row)
  node_all o end i = absurd i
  node_all o (con part kids floats rest) i = step (same part.id o) i (node_all o rest)
    where
      step : (b : Bool) → In k (keys_in picking.All (first_kids (cond b (con part kids floats rest) (node_in o rest)))) → (In k (keys_in picking.All (first_kids (node_in o rest))) → In k (keys_on picking.All rest))
          → In k (keys_in picking.All kids ++ keys_on picking.All rest)
      step true i ih = in_left k (keys_in picking.All kids) (keys_on picking.All rest) i
      step false i ih = in_right k (keys_in picking.All kids) (keys_on picking.All rest) (ih i)

  pub here_all : (here : Bool) (t : TreeValue) → In k (keys_at here t) → In k (keys_on picking.All (first_kids t.nodes))
  here_all true t i = node_all (current t) (first_kids t.nodes) i
  here_all false t i = i

  -- where its workspace is the focused one, it is the focused key
  pub focused_own : (here : Bool) (t : TreeValue) → IsSound t → In k (keys_at here t) → shown t ≡ k.id → focused_key t ≡ k
  focused_own here t s i e = ap (λ z. own_key z (kind_of space_kind z t.nodes)) e ∙ tree_own t s (here_all here t i)

-- ---- the key of a workspace

pub record HasKey (w : ConId) (ks : List Key) : Type 0 where
  pub key : Key
  pub there : In key ks
  pub is : key.id ≡ w

row_key : (w : ConId) (tiled : Bool) (room : ℕ) (row : Forest) → IsSoundRow spaces tiled room row → in_row w row ≡ true → HasKey w (keys_in picking.All row)
row_key w tiled room end p h = cc
row_key w tiled room (con part kids floats rest) p h = step (same part.id w) refl h (row_key w tiled room rest p.4)
  where
    here : (kind : NodeKind) → IsNode spaces tiled room part.id kind part.marks kids → same part.id w ≡ true → HasKey w (with_key (key_if picking.All part.id (space_kind kind)) (keys_in picking.All rest))
    here (Root c) n e = absurd n
    here (Output o) n e = absurd n
    here (Space s) n e = record { key = space_key part.id s.name; there = inl refl; is = same_is part.id w e }
    here (Con c) n e = absurd n

    widen : (o : Option Key) → HasKey w (keys_in picking.All rest) → HasKey w (with_key o (keys_in picking.All rest))
    widen None r = r
    widen (Some k) r = record { key = r.key; there = inr r.there; is = r.is }

    step : (b : Bool) → same part.id w ≡ b → (b || in_row w rest) ≡ true → (in_row w rest ≡ true → HasKey w (keys_in picking.All rest)) → HasKey w (with_key (key_if picking.All part.id (space_kind part.kind)) (keys_in picking.All rest))
    step true e h ih = here part.kind p.0 e
    step false e h ih = widen (key_if picking.All part.id (space_kind part.kind)) (ih h)

pub node_key : (w o : ConId) (row : Forest) → IsSoundRow outputs true 32 row → in_row w (first_kids (node_in o row)) ≡ true → HasKey w (keys_in picking.All (first_kids (node_in o row)))
node_key w o end p h = cc
node_key w o (con part kids floats rest) p h = step (same part.id o) h (node_key w o rest p.4)
  where
    step : (b : Bool) → in_row w (first_kids (cond b (con part kids floats rest) (node_in o rest))) ≡ true → (in_row w (first_kids (node_in o rest)) ≡ true → HasKey w (keys_in picking.All (first_kids (node_in o rest))))
        → HasKey w (keys_in picking.All (first_kids (cond b (con part kids floats rest) (node_in o rest))))
    step true h ih = row_key w true (room_below 32 part.kind) kids p.2 h
    step false h ih = ih h

-- the focused key is among those of the current output, and among all
pub focused_listed : (here : Bool) (t : TreeValue) → IsSound t → In (focused_key t) (keys_at here t)
focused_listed here t s = by here
  where
    rows : IsSoundRow outputs true 32 (first_kids t.nodes)
    rows = outputs_of t.nodes s.shaped

    own : HasKey (shown t) (keys_at true t)
    own = node_key (shown t) (current t) (first_kids t.nodes) rows (shown_row (current t) (first_kids t.nodes) rows (current_there t.nodes s.shaped s.rooted))

    one : focused_key t ≡ own.key
    one = focused_own own.key true t s own.there (sym own.is)

    by : (b : Bool) → In (focused_key t) (keys_at b t)
    by true = subst (λ z. In z (keys_at true t)) (sym one) own.there
    by false = subst (λ z. In z (keys_at false t)) (sym one) (here_all own.key true t own.there)

-- two keys of one workspace are one
pub same_key : (j k : Key) (t : TreeValue) → IsSound t → In j (keys_on picking.All (first_kids t.nodes)) → In k (keys_on picking.All (first_kids t.nodes)) → j.id ≡ k.id → j ≡ k
same_key j k t s in_j in_k e = sym (tree_own j t s in_j) ∙ (ap (λ z. own_key z (kind_of space_kind z t.nodes)) e ∙ tree_own k t s in_k)
