-- What showing a workspace leaves as it was: the outputs, and their workspaces with their names, in their order.
use Rattle.std.proofs.Common.{ℕ, ◌≡◌, Bool, true, false, cond, ◌||◌, ◌++◌, List, [], ◌∷◌, Option, None, Some, refl, ap, sym, ◌∙◌}
use Rattle.std.specs.Option.{option_or}
use Rattle.wm_base.specs.declared.ids.ConId.{ConId}
use Rattle.law_workspaces.specs.Moved.{row_ids}
use Rattle.wm_shared.specs.declared.keys.Key.{Key}
use Rattle.wm_shared.specs.Keys.{with_key}
use Rattle.wm_shared.specs.Showing.{followed, shown_on, shown_there, with_current}
use Rattle.wm_spaces.specs.declared.order.Pick.{Pick}
use Rattle.wm_spaces.specs.Names.{space_called, space_in_row, space_on}
use Rattle.wm_spaces.specs.Order.{key_if, keys_in}
use Rattle.wm_tree.specs.Along.{gone_along, nowhere}
use Rattle.wm_forest.specs.Sticky.{loosened, sticky}
use Rattle.wm_forest.specs.Change.{at, nobody, unfull}
use Rattle.wm_forest.specs.declared.kind.KindEdit.{KindEdit}
use Rattle.wm_forest.specs.declared.kind.KindEdit.TheVariants as edits
use Rattle.wm_forest.specs.declared.part.NodeKind.{NodeKind}
use Rattle.wm_forest.specs.declared.part.NodeKind.TheVariants.{Root, Output, Space, Con}
use Rattle.wm_forest.specs.declared.part.Part.{Part}
use Rattle.wm_forest.specs.declared.part.SpacePart.{SpacePart}
use Rattle.wm_forest.specs.declared.place.Place.TheVariants.{Float}
use Rattle.wm_forest.specs.Forest.{Forest, end, con}
use Rattle.wm_forest.specs.Kinds.{changed, kind_changed}
use Rattle.wm_forest.specs.Look.{first_floats, first_kids, has, in_row, node_in, only, same, space_kind}
use Rattle.wm_forest.specs.Place.{put_word}
use Rattle.wm_forest.specs.RootId.{root}
use Rattle.wm_tree.specs.Sets.{shown_by, with_shown}
use Rattle.wm_tree.specs.TreeValue.{TreeValue, parent}

-- a node without what it shows, or what is current
abbrev pub blank : NodeKind → NodeKind
blank (Root c) = Root nobody
blank (Output o) = Output (record o { shown = nobody })
blank (Space s) = Space s
blank (Con c) = Con c

-- a forest without its floating rows, and without what is shown and current
abbrev pub outline : Forest → Forest
outline end = end
outline (con part kids floats rest) = con (record part { kind = blank part.kind }) (outline kids) end (outline rest)

-- a change of one node that is not seen in it
module _ {X : Type 0} (c : ConId) (f : X → Part → Forest → Forest → Forest → Forest) (x : X) (here : (part : Part) (kids floats rest : Forest) → outline (f x part kids floats rest) ≡ con (record part { kind = blank part.kind }) (outline kids) end (outline rest)) where
  outline_at : (g : Forest) → outline (at c f x g) ≡ outline g
  outline_at end = refl
  outline_at (con part kids floats rest) = step (same part.id c) (has c kids) (has c floats) (outline_at kids) (outline_at rest)
    where
      step : (a k l : Bool) → outline (at c f x kids) ≡ outline kids → outline (at c f x rest) ≡ outline rest
          → outline (cond a (f x part kids floats rest) (cond k (con part (at c f x kids) floats rest) (cond l (con part kids (at c f x floats) rest) (con part kids floats (at c f x rest))))) ≡ con (record part { kind = blank part.kind }) (outline kids) end (outline rest)
      step true k l u v = here part kids floats rest
      step false true l u v = ap (λ z. con (record part { kind = blank part.kind }) z end (outline rest)) u
      step false false true u v = refl
      step false false false u v = ap (λ z. con (record part { kind = blank part.kind }) (outline kids) end z) v

outline_edited : (c : ConId) (e : KindEdit) → ((kind : NodeKind) → blank (changed e kind) ≡ blank kind) → (g : Forest) → outline (at c kind_changed e g) ≡ outline g
outline_edited c e keeps = outline_at c kind_changed e (λ part kids floats rest. ap (λ z. con (record part { kind = z }) (outline kids) end (outline rest)) (keeps part.kind))

blank_current : (o : ConId) (kind : NodeKind) → blank (changed (edits.Current o) kind) ≡ blank kind
blank_current o (Root c) = refl
blank_current o (Output p) = refl
blank_current o (Space s) = refl
blank_current o (Con c) = refl

blank_shown : (w : ConId) (kind : NodeKind) → blank (changed (edits.Shown w) kind) ≡ blank kind
blank_shown w (Root c) = refl
blank_shown w (Output p) = refl
blank_shown w (Space s) = refl
blank_shown w (Con c) = refl

outline_shown_by : (p : Option ConId) (w : ConId) (t : TreeValue) → outline (shown_by p w t).nodes ≡ outline t.nodes
outline_shown_by None w t = refl
outline_shown_by (Some o) w t = outline_edited o (edits.Shown w) (blank_shown w) t.nodes

pub outline_shown : (w : ConId) (t : TreeValue) → outline (with_shown w t).nodes ≡ outline t.nodes
outline_shown w t = outline_shown_by (parent t w) w t

outline_along : (v w : ConId) (t : TreeValue) → outline (gone_along v w t).nodes ≡ outline t.nodes
outline_along v w t =
    outline_at w (put_word (Float w nowhere)) (unfull nobody (sticky (first_floats (only v t.nodes)))) (λ part kids floats rest. refl) (at v loosened end t.nodes)
    ∙ outline_at v loosened end (λ part kids floats rest. refl) t.nodes

outline_followed : (v : Option ConId) (w : ConId) (t : TreeValue) → outline (followed v w t).nodes ≡ outline t.nodes
outline_followed None w t = refl
outline_followed (Some v) w t = step (same v w)
  where
    step : (b : Bool) → outline (cond b t (gone_along v w t)).nodes ≡ outline t.nodes
    step true = refl
    step false = outline_along v w t

-- showing a workspace is not seen in it
pub outline_there : (w : ConId) (o : Option ConId) (t : TreeValue) → outline (shown_there w o t).nodes ≡ outline t.nodes
outline_there w None t = refl
outline_there w (Some o) t =
    let t1 : TreeValue = with_current o t in
    outline_followed (shown_on o t) w (with_shown w t1) ∙ (outline_shown w t1 ∙ outline_edited root (edits.Current o) (blank_current o) t.nodes)

-- ---- what is seen in it

outline_kids : (f : Forest) → first_kids (outline f) ≡ outline (first_kids f)
outline_kids end = refl
outline_kids (con part kids floats rest) = refl

outline_node : (o : ConId) (row : Forest) → node_in o (outline row) ≡ outline (node_in o row)
outline_node o end = refl
outline_node o (con part kids floats rest) = step (same part.id o) (outline_node o rest)
  where
    step : (b : Bool) → node_in o (outline rest) ≡ outline (node_in o rest)
        → cond b (con (record part { kind = blank part.kind }) (outline kids) end (outline rest)) (node_in o (outline rest)) ≡ outline (cond b (con part kids floats rest) (node_in o rest))
    step true e = refl
    step false e = e

outline_in : (i : ConId) (row : Forest) → in_row i (outline row) ≡ in_row i row
outline_in i end = refl
outline_in i (con part kids floats rest) = ap (λ z. same part.id i || z) (outline_in i rest)

outline_ids : (row : Forest) → row_ids (outline row) ≡ row_ids row
outline_ids end = refl
outline_ids (con part kids floats rest) = ap (λ z. part.id ∷ z) (outline_ids rest)

blank_space : (kind : NodeKind) → space_kind (blank kind) ≡ space_kind kind
blank_space (Root c) = refl
blank_space (Output o) = refl
blank_space (Space s) = refl
blank_space (Con c) = refl

outline_keys : (p : Pick) (row : Forest) → keys_in p (outline row) ≡ keys_in p row
outline_keys p end = refl
outline_keys p (con part kids floats rest) =
    ap (λ (z : Option SpacePart). with_key (key_if p part.id z) (keys_in p (outline rest))) (blank_space part.kind) ∙ ap (λ (z : List Key). with_key (key_if p part.id (space_kind part.kind)) z) (outline_keys p rest)

-- two forests of one outline have the same row of outputs, as far as that is seen
rows_alike : (f g : Forest) → outline g ≡ outline f → outline (first_kids g) ≡ outline (first_kids f)
rows_alike f g e = sym (outline_kids g) ∙ (ap first_kids e ∙ outline_kids f)

-- and of the workspaces on each
spaces_alike : (o : ConId) (f g : Forest) → outline g ≡ outline f → outline (first_kids (node_in o (first_kids g))) ≡ outline (first_kids (node_in o (first_kids f)))
spaces_alike o f g e = sym (path g) ∙ (ap (λ z. first_kids (node_in o (first_kids z))) e ∙ path f)
  where
    path : (h : Forest) → first_kids (node_in o (first_kids (outline h))) ≡ outline (first_kids (node_in o (first_kids h)))
    path h = ap (λ z. first_kids (node_in o z)) (outline_kids h) ∙ (ap first_kids (outline_node o (first_kids h)) ∙ outline_kids (node_in o (first_kids h)))

pub outs_alike : (i : ConId) (f g : Forest) → outline g ≡ outline f → in_row i (first_kids g) ≡ in_row i (first_kids f)
outs_alike i f g e = sym (outline_in i (first_kids g)) ∙ (ap (in_row i) (rows_alike f g e) ∙ outline_in i (first_kids f))

pub ids_alike : (o : ConId) (f g : Forest) → outline g ≡ outline f → row_ids (first_kids (node_in o (first_kids g))) ≡ row_ids (first_kids (node_in o (first_kids f)))
ids_alike o f g e = sym (outline_ids (first_kids (node_in o (first_kids g)))) ∙ (ap row_ids (spaces_alike o f g e) ∙ outline_ids (first_kids (node_in o (first_kids f))))

pub keys_alike : (p : Pick) (o : ConId) (f g : Forest) → outline g ≡ outline f → keys_in p (first_kids (node_in o (first_kids g))) ≡ keys_in p (first_kids (node_in o (first_kids f)))
keys_alike p o f g e = sym (outline_keys p (first_kids (node_in o (first_kids g)))) ∙ (ap (keys_in p) (spaces_alike o f g e) ∙ outline_keys p (first_kids (node_in o (first_kids f))))

-- the keys of all workspaces on a row of outputs
abbrev pub keys_on : Pick → Forest → List Key
keys_on p end = []
keys_on p (con part kids floats rest) = keys_in p kids ++ keys_on p rest

outline_all : (p : Pick) (row : Forest) → keys_on p (outline row) ≡ keys_on p row
outline_all p end = refl
outline_all p (con part kids floats rest) = ap (λ z. z ++ keys_on p (outline rest)) (outline_keys p kids) ∙ ap (λ z. keys_in p kids ++ z) (outline_all p rest)

pub all_alike : (p : Pick) (f g : Forest) → outline g ≡ outline f → keys_on p (first_kids g) ≡ keys_on p (first_kids f)
all_alike p f g e = sym (outline_all p (first_kids g)) ∙ (ap (keys_on p) (rows_alike f g e) ∙ outline_all p (first_kids f))

-- ---- names

outline_called : (n : List ℕ) (row : Forest) → space_in_row n (outline row) ≡ space_in_row n row
outline_called n end = refl
outline_called n (con part kids floats rest) =
    ap (λ (z : Option SpacePart). cond (space_called n z) (Some part.id) (space_in_row n (outline rest))) (blank_space part.kind) ∙ ap (λ z. cond (space_called n (space_kind part.kind)) (Some part.id) z) (outline_called n rest)

outline_named : (n : List ℕ) (row : Forest) → space_on n (outline row) ≡ space_on n row
outline_named n end = refl
outline_named n (con part kids floats rest) = ap (λ z. option_or z (space_on n (outline rest))) (outline_called n kids) ∙ ap (option_or (space_in_row n kids)) (outline_named n rest)

pub named_alike : (n : List ℕ) (f g : Forest) → outline g ≡ outline f → space_on n (first_kids g) ≡ space_on n (first_kids f)
named_alike n f g e = sym (outline_named n (first_kids g)) ∙ (ap (space_on n) (rows_alike f g e) ∙ outline_named n (first_kids f))
