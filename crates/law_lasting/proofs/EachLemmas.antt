-- What holds of each node of a forest, under the words by which forests change.
use Rattle.std.proofs.Common.{ℕ, Bool, true, false, cond, Option, None, Some}
use Rattle.wm_base.specs.declared.geometry.Rect.{Rect}
use Rattle.wm_base.specs.declared.ids.ConId.{ConId}
use Rattle.law_lasting.specs.Each.{Each, IsLoose}
use Rattle.wm_forest.proofs.ChangeLemmas.{by_change}
use Rattle.wm_tree.specs.Along.{gone_along, nowhere}
use Rattle.wm_forest.specs.Sticky.{is_sticky, loose, loosened, sticky}
use Rattle.wm_forest.specs.Change.{append, arriving, at, hole, in_place, is_vacant, nobody, placed, raised_in, replaced, settled_row, shown_of, to_end, unfull, unfull_kind, without, raised_at}
use Rattle.wm_forest.specs.Counts.{but}
use Rattle.wm_forest.specs.declared.part.Part.{Part}
use Rattle.wm_forest.specs.declared.place.Place.{Place}
use Rattle.wm_forest.specs.declared.place.Place.TheVariants.{After, Before, First, Last, Float, Scratchpad}
use Rattle.wm_forest.specs.Forest.{Forest, end, con}
use Rattle.wm_forest.specs.Look.{first_alone, first_floats, first_kids, in_row, node_in, only, same}
use Rattle.wm_forest.specs.Exchange.{exchanged_nodes, holed}
use Rattle.wm_forest.specs.Taking.{taking_in}
use Rattle.wm_forest.specs.Place.{put, put_word}
use Rattle.wm_tree.specs.TreeValue.{TreeValue}

module _ (Q : Part → Type 0) where
  -- ---- a change at one node

  -- F tells of the node that is found
  pub each_at : {X : Type 0} (c : ConId) (f : X → Part → Forest → Forest → Forest → Forest) (x : X) (F : Forest → Type 0)
      → ((part : Part) (kids floats rest : Forest) → F (con part kids floats end) → Each Q (con part kids floats rest) → Each Q (f x part kids floats rest)) → (forest : Forest) → F (only c forest) → Each Q forest → Each Q (at c f x forest)
  each_at c f x F own =
      by_change c f x (λ old new found. F found → Each Q old → Each Q new) (λ g p. p)
      (λ part kids floats rest g p. own part kids floats rest g p)
      (λ part kids floats rest new found h g p. (p.0, h g p.1, p.2, p.3))
      (λ part kids floats rest new found h g p. (p.0, p.1, h g p.2, p.3))
      (λ part kids floats rest new found h g p. (p.0, p.1, p.2, h g p.3))

  pub each_change : {X : Type 0} (c : ConId) (f : X → Part → Forest → Forest → Forest → Forest) (x : X)
      → ((part : Part) (kids floats rest : Forest) → Each Q (con part kids floats rest) → Each Q (f x part kids floats rest)) → (forest : Forest) → Each Q forest → Each Q (at c f x forest)
  each_change c f x own forest p = each_at c f x (λ g. Unit {0}) (λ part kids floats rest g q. own part kids floats rest q) forest tt p

  -- ---- rows

  pub each_append : (a b : Forest) → Each Q a → Each Q b → Each Q (append a b)
  each_append end b p q = q
  each_append (con part kids floats rest) b p q = (p.0, p.1, p.2, each_append rest b p.3 q)

  pub each_only : (c : ConId) (f : Forest) → Each Q f → Each Q (only c f)
  each_only c =
      by_change c (λ row part kids floats rest. rest) end (λ old new found. Each Q old → Each Q found) (λ p. p)
      (λ part kids floats rest p. (p.0, p.1, p.2, tt))
      (λ part kids floats rest new found h p. h p.1)
      (λ part kids floats rest new found h p. h p.2)
      (λ part kids floats rest new found h p. h p.3)

  pub each_without : (c : ConId) (f : Forest) → Each Q f → Each Q (without c f)
  each_without c f p = each_change c (λ row part kids floats rest. rest) end (λ part kids floats rest q. q.3) f p

  each_first_kids : (f : Forest) → Each Q f → Each Q (first_kids f)
  each_first_kids end p = p
  each_first_kids (con part kids floats rest) p = p.1

  each_first_floats : (f : Forest) → Each Q f → Each Q (first_floats f)
  each_first_floats end p = p
  each_first_floats (con part kids floats rest) p = p.2

  pub each_put : (p : Place) (row f : Forest) → Each Q row → Each Q f → Each Q (put p row f)
  each_put (After c) row f q h = each_change c (put_word (After c)) row (λ part kids floats rest p. (p.0, p.1, p.2, each_append row rest q p.3)) f h
  each_put (Before c) row f q h = each_change c (put_word (Before c)) row (λ part kids floats rest p. each_append row (con part kids floats rest) q p) f h
  each_put (First c) row f q h = each_change c (put_word (First c)) row (λ part kids floats rest p. (p.0, each_append row kids q p.1, p.2, p.3)) f h
  each_put (Last c) row f q h = each_change c (put_word (Last c)) row (λ part kids floats rest p. (p.0, each_append kids row p.1 q, p.2, p.3)) f h
  each_put (Float w r) row f q h = each_change w (put_word (Float w r)) row (λ part kids floats rest p. (p.0, p.1, each_append floats row p.2 q, p.3)) f h
  each_put (Scratchpad r) row f q h = each_change (record { 0 = 1 }) (put_word (Scratchpad r)) row (λ part kids floats rest p. (p.0, p.1, each_append floats row p.2 q, p.3)) f h

  -- what a node holds comes into another one
  pub each_taking : (h : ConId) (gone f : Forest) → Each Q gone → Each Q f → Each Q (at h taking_in gone f)
  each_taking h gone f q p =
      each_change h taking_in gone
      (λ part kids floats rest r. (r.0, each_append kids (first_kids gone) r.1 (each_first_kids gone q), each_append floats (first_floats gone) r.2 (each_first_floats gone q), r.3)) f p

  each_but : (c : ConId) (f : Forest) → Each Q f → Each Q (but c f)
  each_but c end p = p
  each_but c (con part kids floats rest) p = step (same part.id c) (each_but c rest p.3)
    where
      step : (b : Bool) → Each Q (but c rest) → Each Q (cond b rest (con part kids floats (but c rest)))
      step true q = p.3
      step false q = (p.0, p.1, p.2, q)

  each_node_in : (c : ConId) (f : Forest) → Each Q f → Each Q (first_alone (node_in c f))
  each_node_in c end p = p
  each_node_in c (con part kids floats rest) p = step (same part.id c) (each_node_in c rest p.3)
    where
      step : (b : Bool) → Each Q (first_alone (node_in c rest)) → Each Q (first_alone (cond b (con part kids floats rest) (node_in c rest)))
      step true q = (p.0, p.1, p.2, tt)
      step false q = q

  pub each_to_end : (c : ConId) (f : Forest) → Each Q f → Each Q (to_end c f)
  each_to_end c f p = step (in_row c f)
    where
      step : (b : Bool) → Each Q (cond b (append (but c f) (first_alone (node_in c f))) f)
      step true = each_append (but c f) (first_alone (node_in c f)) (each_but c f p) (each_node_in c f p)
      step false = p

  -- ---- sticky windows and settling

  each_loose : (f : Forest) → Each Q f → Each Q (loose f)
  each_loose end p = p
  each_loose (con part kids floats rest) p = step (is_sticky part.kind) (each_loose rest p.3)
    where
      step : (b : Bool) → Each Q (loose rest) → Each Q (cond b (loose rest) (con part kids floats (loose rest)))
      step true q = q
      step false q = (p.0, p.1, p.2, q)

  each_sticky : (f : Forest) → Each Q f → Each Q (sticky f)
  each_sticky end p = p
  each_sticky (con part kids floats rest) p = step (is_sticky part.kind) (each_sticky rest p.3)
    where
      step : (b : Bool) → Each Q (sticky rest) → Each Q (cond b (con part kids floats (sticky rest)) (sticky rest))
      step true q = (p.0, p.1, p.2, q)
      step false q = q

  pub each_settled : (shown : Option ConId) (f : Forest) → Each Q f → Each Q (settled_row shown f)
  each_settled shown end p = p
  each_settled shown (con part kids floats rest) p =
      step (is_vacant shown part.id part.kind (settled_row (shown_of part.kind) kids) floats) (each_settled (shown_of part.kind) kids p.1) (each_settled shown rest p.3)
    where
      step : (b : Bool) → Each Q (settled_row (shown_of part.kind) kids) → Each Q (settled_row shown rest)
          → Each Q (cond b (settled_row shown rest) (con part (settled_row (shown_of part.kind) kids) floats (settled_row shown rest)))
      step true k q = q
      step false k q = (p.0, k, p.2, q)

  -- ---- exchanging

  pub each_replaced : (c : ConId) (node f : Forest) → Each Q node → Each Q f → Each Q (replaced c node f)
  each_replaced c end f q p = each_change c in_place end (λ part kids floats rest r. r) f p
  each_replaced c (con part kids floats rest) f q p = each_change c in_place (con part kids floats rest) (λ pt ks fs rs r. (q.0, q.1, q.2, r.3)) f p

module _ {Q : Part → Type 0} (k : IsLoose Q) where
  pub each_unfull : (c : ConId) (f : Forest) → Each Q f → Each Q (unfull c f)
  each_unfull c end p = p
  each_unfull c (con part kids floats rest) p = (step (same part.id c), each_unfull c kids p.1, each_unfull c floats p.2, each_unfull c rest p.3)
    where
      step : (b : Bool) → Q (cond b part (record part { kind = unfull_kind part.kind }))
      step true = p.0
      step false = k.unfulled part p.0

  pub each_raised : (c : ConId) (w : Option ConId) (f : Forest) → Each Q f → Each Q (raised_at c w f)
  each_raised c None f p = p
  each_raised c (Some w) f p = each_change Q w raised_in c (λ part kids floats rest q. (q.0, each_unfull c kids q.1, each_to_end Q c (unfull c floats) (each_unfull c floats q.2), q.3)) f p

  pub each_arriving : (share : ℕ) (rect : Option Rect) (away : Bool) (f : Forest) → Each Q f → Each Q (arriving share rect away f)
  each_arriving share rect away end p = p
  each_arriving share rect true (con part kids floats rest) p =
      (k.unfulled (record part { kind = placed share rect part.kind }) (k.placed share rect part p.0), each_unfull nobody kids p.1, each_unfull nobody floats p.2, p.3)
  each_arriving share rect false (con part kids floats rest) p = (k.placed share rect part p.0, p.1, p.2, p.3)

  pub each_along : (v w : ConId) (t : TreeValue) → Each Q t.nodes → Each Q (gone_along v w t).nodes
  each_along v w t p =
      each_put Q (Float w nowhere) (unfull nobody (sticky (first_floats (only v t.nodes)))) (at v loosened end t.nodes)
      (each_unfull nobody (sticky (first_floats (only v t.nodes))) (each_sticky Q (first_floats (only v t.nodes)) (each_first_floats Q (only v t.nodes) (each_only Q v t.nodes p))))
      (each_change Q v loosened end (λ part kids floats rest q. (q.0, q.1, each_loose Q floats q.2, q.3)) t.nodes p)

  -- the hole may stand for a while in the place of a node
  pub each_exchanged : Each Q hole → (a b : ConId) (sa sb : ℕ) (away : Bool) (f : Forest) → Each Q f → Each Q (exchanged_nodes a b sa sb away f)
  each_exchanged empty a b sa sb away f p =
      let with_hole : Each Q (holed a f) = each_replaced Q a hole f empty p in
      let half : Each Q (replaced b (arriving sb None away (only a f)) (holed a f)) = each_replaced Q b (arriving sb None away (only a f)) (holed a f) (each_arriving sb None away (only a f) (each_only Q a f p)) with_hole in
      each_replaced Q nobody (arriving sa None away (only b (holed a f))) (replaced b (arriving sb None away (only a f)) (holed a f)) (each_arriving sa None away (only b (holed a f)) (each_only Q b (holed a f) with_hole)) half
