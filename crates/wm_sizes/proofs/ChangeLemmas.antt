-- The children whose shares change get them in one walk, and that is what the deal says.
use Rattle.std.proofs.Common.{◌≡◌, ℕ, Bool, true, false, cond, ◌==◌, ◌||◌, List, [], ◌∷◌, ◌++◌, refl, ap, sym, ◌∙◌}
use Rattle.std.proofs.lemmas.Bool.{eqb-true}
use Rattle.wm_base.specs.declared.ids.ConId.{ConId}
use Rattle.wm_shared.proofs.DownLemmas.{Once, has_only, in_floats, in_kids, in_rest, not_below, once_floats, once_kids, once_rest}
use Rattle.wm_sizes.proofs.AnewLemmas.{row_once}
use Rattle.wm_sizes.proofs.SetLemmas.{edited_stays}
use Rattle.wm_sizes.proofs.ShareLaws.{not_in, or_false, turned_false}
use Rattle.wm_sizes.specs.declared.deals.Deal.{Deal}
use Rattle.wm_sizes.specs.Deals.{changes, dealt, share_after, siblings, turn_after}
use Rattle.wm_sizes.specs.Tiled.{children_of, shares_set}
use Rattle.wm_forest.proofs.OnceLemmas as anywhere
use Rattle.wm_forest.proofs.RecencyLemmas.{same_self}
use Rattle.wm_forest.specs.Change.{at}
use Rattle.wm_forest.specs.Counts.{share_of}
use Rattle.wm_forest.specs.declared.kind.KindEdit.TheVariants as edits
use Rattle.wm_forest.specs.declared.part.NodeKind.{NodeKind}
use Rattle.wm_forest.specs.declared.part.NodeKind.TheVariants.{Root, Output, Space, Con}
use Rattle.wm_forest.specs.declared.part.Part.{Part}
use Rattle.wm_forest.specs.declared.shares.Sibling.{Sibling}
use Rattle.wm_forest.specs.Forest.{Forest, end, con}
use Rattle.wm_forest.specs.Kinds.{changed, kind_changed}
use Rattle.wm_forest.specs.Look.{first_kids, has, in_row, only, same}
use Rattle.wm_forest.specs.Shares.{first_shared, left_behind, shared, shared_part, shares_word}
use Rattle.wm_tree.proofs.AttachLemmas.{has_row}
use Rattle.wm_tree.specs.TreeValue.{TreeValue}
use Rattle.wm_tree.specs.Words.{edited, with_shares}

-- ---- one by one

-- the forest in which each of the siblings has its share
abbrev sets : List Sibling → Forest → Forest
sets [] f = f
sets (s ∷ l) f = at s.id kind_changed (edits.Share s.share) (sets l f)

set_nodes : (l : List Sibling) (t : TreeValue) → shares_set l t ≡ record t { nodes = sets l t.nodes }
set_nodes [] t = refl
set_nodes (s ∷ l) t = ap (edited s.id (edits.Share s.share)) (set_nodes l t)

there : (l : List Sibling) (i : ConId) (f : Forest) → has i (sets l f) ≡ has i f
there [] i f = refl
there (s ∷ l) i f = (edited_stays s.id i (edits.Share s.share) (sets l f)).there ∙ there l i f

-- each of the siblings is there
abbrev AreThere : List Sibling → Forest → Type 0
AreThere [] f = Unit {0}
AreThere (s ∷ l) f = (has s.id f ≡ true) × AreThere l f

also_there : (l : List Sibling) (f g : Forest) → ((i : ConId) → has i f ≡ true → has i g ≡ true) → AreThere l f → AreThere l g
also_there [] f g up h = tt
also_there (s ∷ l) f g up h = (up s.id h.0, also_there l f g up h.1)

row_there : (d : Deal) (turn : ℕ) (row f : Forest) → ((i : ConId) → in_row i row ≡ true → has i f ≡ true) → AreThere (dealt d turn (siblings row)) f
row_there d turn end f h = tt
row_there d turn (con part kids floats rest) f h =
    (h part.id (rw (same_self part.id part.id refl) refl), row_there d (turn_after d part.id turn) rest f (λ i k. h i (or_right (same part.id i) (in_row i rest) k)))
  where
    or_right : (a b : Bool) → b ≡ true → (a || b) ≡ true
    or_right true b h = refl
    or_right false b h = h

-- siblings that are all in one part of a forest
module _ (part : Part) (kids floats rest : Forest) (once : Once (con part kids floats rest)) where
  sets_kids : (l : List Sibling) → AreThere l kids → sets l (con part kids floats rest) ≡ con part (sets l kids) floats rest
  sets_kids [] h = refl
  sets_kids (s ∷ l) h = ap (at s.id kind_changed (edits.Share s.share)) (sets_kids l h.1) ∙ rw (in_kids part kids floats rest once s.id h.0, there l s.id kids, h.0) refl

  sets_floats : (l : List Sibling) → AreThere l floats → sets l (con part kids floats rest) ≡ con part kids (sets l floats) rest
  sets_floats [] h = refl
  sets_floats (s ∷ l) h =
      let n = in_floats part kids floats rest once s.id h.0 in
      ap (at s.id kind_changed (edits.Share s.share)) (sets_floats l h.1) ∙ rw (n.0, n.1, there l s.id floats, h.0) refl

  sets_rest : (l : List Sibling) → AreThere l rest → sets l (con part kids floats rest) ≡ con part kids floats (sets l rest)
  sets_rest [] h = refl
  sets_rest (s ∷ l) h =
      let n = in_rest part kids floats rest once s.id h.0 in
      ap (at s.id kind_changed (edits.Share s.share)) (sets_rest l h.1) ∙ rw (n.0, n.1, n.2) refl

-- ---- along a row

-- a node with the share that it has
kind_same : (n : ℕ) (kind : NodeKind) → share_of kind ≡ n → changed (edits.Share n) kind ≡ kind
kind_same n (Root c) h = refl
kind_same n (Output o) h = refl
kind_same n (Space w) h = refl
kind_same n (Con c) h = let set : ℕ → NodeKind = λ m. Con (record c { share = m }) in ap set (sym h)

-- c is not the first of the siblings
abbrev Misses : ConId → List Sibling → Type 0
Misses c [] = Unit {0}
Misses c (s ∷ l) = same c s.id ≡ false

missed : (part : Part) (l : List Sibling) → Misses part.id l → (first_shared l part ≡ part) × (left_behind l part.id ≡ l)
missed part [] h = (refl, refl)
missed part (s ∷ l) h = (rw h refl, rw h refl)

changes_miss : (c : ConId) (d : Deal) (turn : ℕ) (row : Forest) → in_row c row ≡ false → Misses c (changes d turn (siblings row))
changes_miss c d turn end h = tt
changes_miss c d turn (con part kids floats rest) h =
    let o = or_false (same part.id c) (in_row c rest) h in
    let n : ℕ = share_after d (record { id = part.id; share = share_of part.kind }) turn in
    by (n == share_of part.kind) n (turned_false part.id c o.0) (changes_miss c d (turn_after d part.id turn) rest o.1)
  where
    by : (b : Bool) (n : ℕ) → same c part.id ≡ false → Misses c (changes d (turn_after d part.id turn) (siblings rest)) → Misses c (cond b [] (record { id = part.id; share = n } ∷ []) ++ changes d (turn_after d part.id turn) (siblings rest))
    by true n other more = more
    by false n other more = other

-- a row whose nodes have their shares after the deal, of which those are listed that change
row_shared : (d : Deal) (turn : ℕ) (row : Forest) → Once row → sets (dealt d turn (siblings row)) row ≡ shared (changes d turn (siblings row)) row
row_shared d turn end once = refl
row_shared d turn (con part kids floats rest) once =
    ap (at part.id kind_changed (edits.Share n)) (sets_rest part kids floats rest once (dealt d next (siblings rest)) (row_there d next rest rest (λ i h. has_row i rest h)))
    ∙ (rw me refl ∙ by (n == x.share) refl (row_shared d next rest (once_rest part kids floats rest once)))
  where
    x : Sibling
    x = record { id = part.id; share = share_of part.kind }

    n : ℕ
    n = share_after d x turn

    next : ℕ
    next = turn_after d part.id turn

    me : same part.id part.id ≡ true
    me = same_self part.id part.id refl

    by : (b : Bool) → (n == x.share) ≡ b → sets (dealt d next (siblings rest)) rest ≡ shared (changes d next (siblings rest)) rest
        → con (shared_part n part) kids floats (sets (dealt d next (siblings rest)) rest) ≡ shared (cond b [] (record { id = part.id; share = n } ∷ []) ++ changes d next (siblings rest)) (con part kids floats rest)
    by false e more = rw me (ap (con (shared_part n part) kids floats) more)
    by true e more =
        let k = missed part (changes d next (siblings rest)) (changes_miss part.id d next rest (not_in part.id rest (not_below part kids floats rest once part.id me).2)) in
        ap (λ z. con (record part { kind = z }) kids floats (sets (dealt d next (siblings rest)) rest)) (kind_same n part.kind (sym (eqb-true n x.share e)))
        ∙ rw (k.0, k.1) (ap (con part kids floats) more)

-- ---- the tree

kids_there : (i p : ConId) (f : Forest) → has i (first_kids (only p f)) ≡ true → has i f ≡ true
kids_there i p f h = has_only i p f (up (only p f) h) where
  up : (g : Forest) → has i (first_kids g) ≡ true → has i g ≡ true
  up end h = cc
  up (con part kids floats rest) h = anywhere.in_kids i part kids floats rest h

-- where one list says of the children of p one by one what the other says in one walk
walked : (p : ConId) (l m : List Sibling) (f : Forest) → Once f → AreThere l (first_kids (only p f)) → sets l (first_kids (only p f)) ≡ shared m (first_kids (only p f)) → sets l f ≡ at p shares_word m f
walked p l m end once h e = e
walked p l m (con part kids floats rest) once h e =
    step (same part.id p) (has p kids) (has p floats) (walked p l m kids (once_kids part kids floats rest once)) (walked p l m floats (once_floats part kids floats rest once)) (walked p l m rest (once_rest part kids floats rest once)) h e
  where
    Walked : Forest → Forest → Forest → Type 0
    Walked below old new = AreThere l (first_kids below) → sets l (first_kids below) ≡ shared m (first_kids below) → sets l old ≡ new

    all : (f : Forest) → AreThere l (first_kids (only p f)) → AreThere l f
    all f h = also_there l (first_kids (only p f)) f (λ i k. kids_there i p f k) h

    step : (s k o : Bool) → Walked (only p kids) kids (at p shares_word m kids) → Walked (only p floats) floats (at p shares_word m floats) → Walked (only p rest) rest (at p shares_word m rest)
        → Walked (cond s (con part kids floats end) (cond k (only p kids) (cond o (only p floats) (only p rest)))) (con part kids floats rest)
        (cond s (con part (shared m kids) floats rest) (cond k (con part (at p shares_word m kids) floats rest) (cond o (con part kids (at p shares_word m floats) rest) (con part kids floats (at p shares_word m rest)))))
    step true k o u v w h e = sets_kids part kids floats rest once l h ∙ ap (λ g. con part g floats rest) e
    step false true o u v w h e = sets_kids part kids floats rest once l (all kids h) ∙ ap (λ g. con part g floats rest) (u h e)
    step false false true u v w h e = sets_floats part kids floats rest once l (all floats h) ∙ ap (λ g. con part kids g rest) (v h e)
    step false false false u v w h e = sets_rest part kids floats rest once l (all rest h) ∙ ap (con part kids floats) (w h e)

-- giving the children that change their shares does what the deal says
pub children_changed : (p : ConId) (d : Deal) (t : TreeValue) → Once t.nodes → with_shares p (changes d 0 (siblings (children_of p t))) t ≡ shares_set (dealt d 0 (siblings (children_of p t))) t
children_changed p d t once =
    let kids : Forest = children_of p t in
    let done = walked p (dealt d 0 (siblings kids)) (changes d 0 (siblings kids)) t.nodes once (row_there d 0 kids kids (λ i h. has_row i kids h)) (row_shared d 0 kids (row_once p t.nodes once)) in
    sym (set_nodes (dealt d 0 (siblings kids)) t ∙ ap (λ n. record t { nodes = n }) done)
