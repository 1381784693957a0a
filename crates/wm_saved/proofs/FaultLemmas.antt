-- The first fault's path leads to a value that is there.
use Rattle.std.proofs.Common.{◌≡◌, ℕ, suc, ◌+◌, Bool, true, false, if◌then◌else◌, List, [], ◌∷◌, ◌++◌, Option, Some, None, Ok, Err, Ordering, Less, Equal, Greater, nat_cmp, is_eq, codes, decimal, refl, sym, ◌∙◌, ap, subst, arith, true≢false, inl, inr}
use Rattle.std.specs.Prelude.{option_and_then}
use Rattle.std.specs.Ordering.{match_ordering}
use Rattle.std.specs.Cmp.Lexicographic.{slice_cmp}
use Rattle.std.specs.Str.{bytes_eq}
use Rattle.std.proofs.lemmas.Cmp.{nat_list_cmp_total, tied_itself}
use Rattle.std.proofs.lemmas.Map.Text.{is_eq-slice_cmp}
use Rattle.std.proofs.lemmas.Slice.Eq.{bytes_eq-Decides}
use Rattle.serde_json.specs.Data.{Data, null, boolean, number, string, array, object, Items, no_items, item, Members, no_members, member}
use Rattle.serde_json.specs.Find.{as_array, at, get, get_item, get_member}
use Rattle.wm_base.specs.declared.plan.Layout.TheVariants.{SplitH}
use Rattle.wm_criteria.specs.Plain.{is_plain}
use Rattle.wm_forest.specs.declared.part.SwallowKey.{SwallowKey}
use Rattle.wm_saved.specs.Answers.{Answer, ◌>>=◌, below, or_bad}
use Rattle.wm_saved.specs.Faults.{FaultsAreThere, IsThere, Step, to_key, to_place, down, led, step_word}
use Rattle.wm_saved.specs.Fields.{array_of, bordered, border_of, field, found, found_array, frame_in, items_from, layout_in, layout_of, mark_at, mark_in, marks_of, name_of, text_in, type_in, type_of, width_in}
use Rattle.wm_saved.specs.Reading.{container, finished, head_of, node_at, nodes_from, nodes_in, tail_of, trees_at, with_head}
use Rattle.wm_saved.specs.Swallows.{Keys, and_pattern, and_patterns, found_pattern, key_of, keyed, pattern_of, plain_only, properties, some_of, swallow_at, swallows_of}
use Rattle.wm_saved.specs.declared.fields.Frame.TheVariants as frames
use Rattle.wm_saved.specs.declared.refusal.LayoutRefusal.{LayoutRefusal}
use Rattle.wm_saved.specs.declared.refusal.LayoutRefusal.TheVariants.{BadField, PatternRefused}
use Rattle.wm_saved.specs.declared.saved.SavedNode.{SavedNode}

abbrev error_or : {A : Type 0} → LayoutRefusal → Answer A → LayoutRefusal
error_or e (Ok x) = e
error_or e (Err z) = z

same_error : {A : Type 0} (x y : LayoutRefusal) (m n : Answer A) → m ≡ Err x → n ≡ Err y → m ≡ n → x ≡ y
same_error x y m n is so e = ap (error_or x) (sym is ∙ (e ∙ so))

-- each refusal of what is read first, or of what is read by it
chain : {A B : Type 0} (P : LayoutRefusal → Type 0) (m : Answer A) (f : A → Answer B) → ((e : LayoutRefusal) → m ≡ Err e → P e) → ((x : A) (e : LayoutRefusal) → f x ≡ Err e → P e) → (e : LayoutRefusal) → (m >>= f) ≡ Err e → P e
chain P (Ok x) f a b e is = b x e is
chain P (Err z) f a b e is = a e (ap (λ r. Err (error_or z r)) is)

step_down : (path : List ℕ) (s : Step) (d v : Data) (e : LayoutRefusal) → down s d ≡ Some v → IsThere (below path (step_word s)) v e → IsThere path d e
step_down path s d v e is t = (s ∷ t.0, t.1, ap (option_and_then (led t.0)) is ∙ t.2, t.3)

or_bad_there : {A : Type 0} (path : List ℕ) (d : Data) (o : Option A) (e : LayoutRefusal) → or_bad path o ≡ Err e → IsThere path d e
or_bad_there path d (Some x) e is = absurd cc
or_bad_there path d None e is = subst (IsThere path d) (same_error (BadField path) e (or_bad path None) (Err e) refl refl is) ([], d, refl, inl refl)

-- ---- fields

found_there : {A : Type 0} (path key : List ℕ) (missing : A) (rule : Data → Option A) (d : Data) (o : Option Data) → get key d ≡ o → (e : LayoutRefusal) → found (below path key) missing rule o ≡ Err e → IsThere path d e
found_there path key missing rule d None is e er = absurd cc
found_there path key missing rule d (Some v) is e er = step_down path (to_key key) d v e is (or_bad_there (below path key) v (rule v) e er)

field_there : {A : Type 0} (path key : List ℕ) (missing : A) (rule : Data → Option A) (d : Data) (e : LayoutRefusal) → field path key missing rule d ≡ Err e → IsThere path d e
field_there path key missing rule d = found_there path key missing rule d (get key d) refl

abbrev Each : {A : Type 0} → (List ℕ → Data → Answer A) → Type 0
Each rule = (path : List ℕ) (d : Data) (e : LayoutRefusal) → rule path d ≡ Err e → IsThere path d e

items_there : {A : Type 0} (rule : List ℕ → Data → Answer A) → Each rule → (path : List ℕ) (whole : Data) (i : ℕ) (ds : Items) → ((n : ℕ) → at (i + n) whole ≡ get_item n ds)
    → (e : LayoutRefusal) → items_from rule path i ds ≡ Err e → IsThere path whole e
items_there rule each path whole i no_items k e er = absurd cc
items_there rule each path whole i (item d ds) k e er =
    let first : i ≡ i + 0 = omega arith in
    chain (IsThere path whole) (rule (below path (decimal i)) d) (λ x. items_from rule path (suc i) ds >>= λ xs. Ok (x ∷ xs))
    (λ z zr. step_down path (to_place i) whole d z (ap (λ j. at j whole) first ∙ k 0) (each (below path (decimal i)) d z zr))
    (λ x. chain (IsThere path whole) (items_from rule path (suc i) ds) (λ xs. Ok (x ∷ xs))
    (items_there rule each path whole (suc i) ds (λ n. let next : suc i + n ≡ i + suc n = omega arith in ap (λ j. at j whole) next ∙ k (suc n)))
    (λ xs z zr. absurd cc))
    e er

array_there : {A : Type 0} (rule : List ℕ → Data → Answer A) → Each rule → (path : List ℕ) (d : Data) (e : LayoutRefusal) → array_of rule path (as_array d) ≡ Err e → IsThere path d e
array_there {A} rule each path null e er = or_bad_there {A = List A} path null None e er
array_there {A} rule each path (boolean b) e er = or_bad_there {A = List A} path (boolean b) None e er
array_there {A} rule each path (number n) e er = or_bad_there {A = List A} path (number n) None e er
array_there {A} rule each path (string s) e er = or_bad_there {A = List A} path (string s) None e er
array_there rule each path (array ds) e er = items_there rule each path (array ds) 0 ds (λ n. let same : 0 + n ≡ n = omega arith in ap (λ j. get_item j ds) same) e er
array_there {A} rule each path (object ms) e er = or_bad_there {A = List A} path (object ms) None e er

found_array_there : {A : Type 0} (rule : List ℕ → Data → Answer A) → Each rule → (path key : List ℕ) (d : Data) (o : Option Data) → get key d ≡ o
    → (e : LayoutRefusal) → found_array rule (below path key) o ≡ Err e → IsThere path d e
found_array_there rule each path key d None is e er = absurd cc
found_array_there rule each path key d (Some v) is e er = step_down path (to_key key) d v e is (array_there rule each (below path key) v e er)

mark_there : Each mark_at
mark_there path d e er = or_bad_there path d (mark_in d) e er

border_there : Each border_of
border_there path d =
    chain (IsThere path d) (field path (codes "border") frames.Normal frame_in d) (λ f. field path (codes "current_border_width") 2 width_in d >>= λ w. Ok (bordered f w))
    (field_there path (codes "border") frames.Normal frame_in d)
    (λ f. chain (IsThere path d) (field path (codes "current_border_width") 2 width_in d) (λ w. Ok (bordered f w)) (field_there path (codes "current_border_width") 2 width_in d) (λ w e er. absurd cc))

head_there : Each head_of
head_there path d =
    chain (IsThere path d) (border_of path d) (λ b. layout_of path d >>= λ l. marks_of path d >>= λ m. name_of path d >>= λ n. Ok (record { border = b; layout = l; marks = m; name = n })) (border_there path d)
    (λ b. chain (IsThere path d) (layout_of path d) (λ l. marks_of path d >>= λ m. name_of path d >>= λ n. Ok (record { border = b; layout = l; marks = m; name = n })) (field_there path (codes "layout") SplitH layout_in d)
    (λ l. chain (IsThere path d) (marks_of path d) (λ m. name_of path d >>= λ n. Ok (record { border = b; layout = l; marks = m; name = n })) (found_array_there mark_at mark_there path (codes "marks") d (get (codes "marks") d) refl)
    (λ m. chain (IsThere path d) (name_of path d) (λ n. Ok (record { border = b; layout = l; marks = m; name = n })) (field_there path (codes "name") [] text_in d)
    (λ n e er. absurd cc))))

-- ---- swallows

plain_there : (path : List ℕ) (d : Data) (p : List ℕ) (b : Bool) (e : LayoutRefusal) → (if b then Ok (Some p) else Err (PatternRefused path)) ≡ Err e → IsThere path d e
plain_there path d p true e er = absurd cc
plain_there path d p false e er = subst (IsThere path d) (same_error {A = Option (List ℕ)} (PatternRefused path) e (Err (PatternRefused path)) (Err e) refl refl er) ([], d, refl, inr refl)

found_pattern_there : (path key : List ℕ) (d : Data) (o : Option Data) → get key d ≡ o → (e : LayoutRefusal) → found_pattern (below path key) o ≡ Err e → IsThere path d e
found_pattern_there path key d None is e er = absurd cc
found_pattern_there path key d (Some v) is e er =
    step_down path (to_key key) d v e is
    (chain (IsThere (below path key) v) (or_bad (below path key) (text_in v)) (plain_only (below path key)) (or_bad_there (below path key) v (text_in v)) (λ p. plain_there (below path key) v p (is_plain p)) e er)

patterns_there : (keys : Keys) (path : List ℕ) (ks : List SwallowKey) (d : Data) (e : LayoutRefusal) → and_patterns keys path ks d ≡ Err e → IsThere path d e
unfolding and_patterns
patterns_there keys path [] d e er = absurd cc
patterns_there keys path (k ∷ ks) d e er =
    chain (IsThere path d) (and_pattern keys path k d) (λ more. and_patterns more path ks d)
    (chain (IsThere path d) (pattern_of path (key_of k) d) (λ p. Ok (keys ++ keyed k p)) (found_pattern_there path (key_of k) d (get (key_of k) d) refl) (λ p z zr. absurd cc))
    (λ more. patterns_there more path ks d)
    e er

some_there : (path : List ℕ) (d : Data) (keys : Keys) (e : LayoutRefusal) → some_of path keys ≡ Err e → IsThere path d e
some_there path d [] e er = or_bad_there path d None e er
some_there path d (k ∷ ks) e er = absurd cc

swallow_there : Each swallow_at
unfolding swallow_at
swallow_there path d = chain (IsThere path d) (and_patterns [] path properties d) (some_of path) (patterns_there [] path properties d) (some_there path d)

tail_there : Each tail_of
tail_there path d =
    chain (IsThere path d) (swallows_of path d) (λ s. type_of path d >>= λ con. Ok s) (found_array_there swallow_at swallow_there path (codes "swallows") d (get (codes "swallows") d) refl)
    (λ s. chain (IsThere path d) (type_of path d) (λ con. Ok s) (field_there path (codes "type") tt type_in d) (λ con e er. absurd cc))

-- ---- nodes

container_there : (path : List ℕ) (d : Data) (children : Answer (List SavedNode)) → ((e : LayoutRefusal) → children ≡ Err e → IsThere path d e) → (e : LayoutRefusal) → container path d children ≡ Err e → IsThere path d e
container_there path d children c =
    chain (IsThere path d) (head_of path d) (λ h. children >>= finished path d h) (head_there path d)
    (λ h. chain (IsThere path d) children (finished path d h) c
    (λ ns. chain (IsThere path d) (tail_of path d) (λ s. Ok (with_head h ns s)) (tail_there path d) (λ s e er. absurd cc)))

either : (o : Ordering) (a b : Option Data) → is_eq o ≡ false → match_ordering o a b a ≡ a
either Less a b e = refl
either Equal a b e = absurd (true≢false e)
either Greater a b e = refl

turned : (xs ys : List ℕ) (b : Bool) → bytes_eq xs ys ≡ b → bytes_eq ys xs ≡ false → b ≡ false
turned xs ys true e other = absurd (true≢false (sym ((bytes_eq-Decides ys xs).1 (sym ((bytes_eq-Decides xs ys).0 e))) ∙ other))
turned xs ys false e other = refl

-- the member of another key is not that of this one
later : (q k : List ℕ) (d : Data) (ms : Members) → bytes_eq k q ≡ false → get_member q (member k d ms) ≡ get_member q ms
later q k d ms other = either (slice_cmp nat_cmp q k) (get_member q ms) (Some d) (is_eq-slice_cmp q k ∙ turned q k (bytes_eq q k) refl other)

first_member : (q k : List ℕ) (d : Data) (ms : Members) → k ≡ q → get_member q (member k d ms) ≡ Some d
first_member q k d ms is = subst (λ x. get_member q (member x d ms) ≡ Some d) (sym is) (ap (λ o. match_ordering o (get_member q ms) (Some d) (get_member q ms)) (tied_itself nat_list_cmp_total q))

which_there : (path k : List ℕ) (d : Data) (ms whole : Members) (b : Bool) → bytes_eq k (codes "nodes") ≡ b → get_member (codes "nodes") whole ≡ get_member (codes "nodes") (member k d ms)
    → ((e : LayoutRefusal) → trees_at (below path k) d ≡ Err e → IsThere (below path k) d e)
    → (get_member (codes "nodes") whole ≡ get_member (codes "nodes") ms → (e : LayoutRefusal) → nodes_in path ms ≡ Err e → IsThere path (object whole) e)
    → (e : LayoutRefusal) → (if b then trees_at (below path k) d else nodes_in path ms) ≡ Err e → IsThere path (object whole) e
which_there path k d ms whole true test is here behind e er =
    let same : k ≡ codes "nodes" = (bytes_eq-Decides k (codes "nodes")).0 test in
    let found : get_member k whole ≡ Some d = ap (λ x. get_member x whole) same ∙ (is ∙ first_member (codes "nodes") k d ms same) in
    step_down path (to_key k) (object whole) d e found (here e er)
which_there path k d ms whole false test is here behind e er = behind (is ∙ later (codes "nodes") k d ms test) e er

mutual
  node_there : (path : List ℕ) (d : Data) (e : LayoutRefusal) → node_at path d ≡ Err e → IsThere path d e
  node_there path null e er = or_bad_there {A = SavedNode} path null None e er
  node_there path (boolean b) e er = or_bad_there {A = SavedNode} path (boolean b) None e er
  node_there path (number n) e er = or_bad_there {A = SavedNode} path (number n) None e er
  node_there path (string s) e er = or_bad_there {A = SavedNode} path (string s) None e er
  node_there path (array ds) e er = or_bad_there {A = SavedNode} path (array ds) None e er
  node_there path (object ms) e er = container_there path (object ms) (nodes_in path ms) (nodes_in_there path ms ms refl) e er

  nodes_in_there : (path : List ℕ) (ms whole : Members) → get_member (codes "nodes") whole ≡ get_member (codes "nodes") ms → (e : LayoutRefusal) → nodes_in path ms ≡ Err e → IsThere path (object whole) e
  nodes_in_there path no_members whole is e er = absurd cc
  nodes_in_there path (member k d ms) whole is e er = which_there path k d ms whole (bytes_eq k (codes "nodes")) refl is (trees_there (below path k) d) (nodes_in_there path ms whole) e er

  trees_there : (path : List ℕ) (d : Data) (e : LayoutRefusal) → trees_at path d ≡ Err e → IsThere path d e
  trees_there path null e er = or_bad_there {A = List SavedNode} path null None e er
  trees_there path (boolean b) e er = or_bad_there {A = List SavedNode} path (boolean b) None e er
  trees_there path (number n) e er = or_bad_there {A = List SavedNode} path (number n) None e er
  trees_there path (string s) e er = or_bad_there {A = List SavedNode} path (string s) None e er
  trees_there path (array ds) e er = nodes_there path (array ds) 0 ds (λ n. let same : 0 + n ≡ n = omega arith in ap (λ j. get_item j ds) same) e er
  trees_there path (object ms) e er = or_bad_there {A = List SavedNode} path (object ms) None e er

  nodes_there : (path : List ℕ) (whole : Data) (i : ℕ) (ds : Items) → ((n : ℕ) → at (i + n) whole ≡ get_item n ds) → (e : LayoutRefusal) → nodes_from path i ds ≡ Err e → IsThere path whole e
  nodes_there path whole i no_items k e er = absurd cc
  nodes_there path whole i (item d ds) k e er =
      let first : i ≡ i + 0 = omega arith in
      chain (IsThere path whole) (node_at (below path (decimal i)) d) (λ x. nodes_from path (suc i) ds >>= λ xs. Ok (x ∷ xs))
      (λ z zr. step_down path (to_place i) whole d z (ap (λ j. at j whole) first ∙ k 0) (node_there (below path (decimal i)) d z zr))
      (λ x. chain (IsThere path whole) (nodes_from path (suc i) ds) (λ xs. Ok (x ∷ xs))
      (nodes_there path whole (suc i) ds (λ n. let next : suc i + n ≡ i + suc n = omega arith in ap (λ j. at j whole) next ∙ k (suc n)))
      (λ xs z zr. absurd cc))
      e er

pub faults_are_there : FaultsAreThere
faults_are_there d e er = trees_there [] d e er
