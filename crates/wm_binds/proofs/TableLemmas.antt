-- Bindings and names are found by their keys.
use Rattle.std.proofs.Common.{◌≡◌, ◌∙◌, refl, ap, ap₂, sym, subst, Bool, true, false, not, ◌&&◌, ◌||◌, cond, ℕ, suc, ◌+◌, ◌<◌, List, [], ◌∷◌, ◌++◌, length, map, arith}
use Rattle.std.specs.Prelude.{slice_set, String, string_bytes}
use Rattle.std.specs.List.{list_any, position_or_len}
use Rattle.std.specs.Str.{bytes_eq}
use Rattle.std.specs.String.{string_eq}
use Rattle.indexmap.specs.IndexSet.{insert_key}
use Rattle.std.specs.declared.alloc.Global.{Global}
use Rattle.std.proofs.lemmas.Slice.Eq.{bytes_eq-Decides}
use Rattle.wm_binds.specs.Binds.{has_key_of, with_bind}
use Rattle.wm_binds.specs.Blocks.{with_name}
use Rattle.wm_binds.specs.Table.{AreKeys, IsKey}
use Rattle.wm_binds.specs.declared.config.Bind.{Bind}

abbrev Key : Type 0
Key = String Global × String Global

abbrev pub same_key : Key → Key → Bool
same_key x y = string_eq x.0 y.0 && string_eq x.1 y.1

other_way : (a b : List ℕ) → bytes_eq a b ≡ bytes_eq b a
other_way a b = by (bytes_eq a b) (bytes_eq b a) refl refl
  where
    by : (x y : Bool) → bytes_eq a b ≡ x → bytes_eq b a ≡ y → x ≡ y
    by true true e f = refl
    by false false e f = refl
    by true false e f = let yes : bytes_eq b a ≡ true = (bytes_eq-Decides b a).1 (sym ((bytes_eq-Decides a b).0 e)) in cc
    by false true e f = let yes : bytes_eq a b ≡ true = (bytes_eq-Decides a b).1 (sym ((bytes_eq-Decides b a).0 f)) in cc

-- keys are the same where the bindings are of one mode and chord
key_is : (k e : Key) (b other : Bind) → IsKey k b → IsKey e other → same_key k e ≡ has_key_of b other
key_is k e b other this that =
    ap₂ (λ x y. x && y)
    (ap₂ bytes_eq this.0 that.0 ∙ other_way b.mode other.mode)
    (ap₂ bytes_eq this.1 that.1 ∙ other_way b.chord other.chord)

both : (a b : Bool) → (a && b) ≡ true → (a ≡ true) × (b ≡ true)
both true b e = (refl, e)
both false b e = cc

-- a key that stands for a binding stands for one of the same mode and chord
key_of_same : (k e : Key) (b : Bind) → IsKey k b → same_key k e ≡ true → IsKey e b
key_of_same k e b this same =
    let parts = both (string_eq k.0 e.0) (string_eq k.1 e.1) same in
    (sym ((bytes_eq-Decides (string_bytes k.0) (string_bytes e.0)).0 parts.0) ∙ this.0, sym ((bytes_eq-Decides (string_bytes k.1) (string_bytes e.1)).0 parts.1) ∙ this.1)

-- a binding was put at this place
pub record IsPut (k : Key) (b : Bind) (keys : List Key) (binds : List Bind) (place : ℕ) : Type 0 where
  pub set : slice_set binds place b ≡ with_bind b binds
  pub keyed : AreKeys keys (slice_set binds place b)
  pub within : place < length binds

put_here : (k e : Key) (b o : Bind) (ks : List Key) (bs : List Bind) → IsKey k b → same_key k e ≡ true → has_key_of b o ≡ true → AreKeys ks bs → IsPut k b (e ∷ ks) (o ∷ bs) 0
put_here k e b o ks bs this same here keys = record {
  set = sym (ap (λ t. cond t (b ∷ bs) (o ∷ with_bind b bs)) here);
  keyed = (key_of_same k e b this same, keys);
  within = omega arith;
}

put_behind : (k e : Key) (b o : Bind) (ks : List Key) (bs : List Bind) (place : ℕ) → IsKey e o → has_key_of b o ≡ false → IsPut k b ks bs place → IsPut k b (e ∷ ks) (o ∷ bs) (suc place)
put_behind k e b o ks bs place that other put = record {
  set = ap (λ xs. o ∷ xs) put.set ∙ sym (ap (λ t. cond t (b ∷ bs) (o ∷ with_bind b bs)) other);
  keyed = (that, put.keyed);
  within = omega (arith, put.within);
}

put : (k : Key) (b : Bind) (keys : List Key) (binds : List Bind) → IsKey k b → AreKeys keys binds → list_any (same_key k) keys ≡ true → IsPut k b keys binds (position_or_len (same_key k) keys)
put k b [] binds this keyed among = cc
put k b (e ∷ ks) [] this keyed among = absurd keyed
put k b (e ∷ ks) (o ∷ bs) this keyed among = by (same_key k e) refl (put k b ks bs this keyed.1)
  where
    by : (t : Bool) → same_key k e ≡ t → (list_any (same_key k) ks ≡ true → IsPut k b ks bs (position_or_len (same_key k) ks)) → IsPut k b (e ∷ ks) (o ∷ bs) (position_or_len (same_key k) (e ∷ ks))
    by true same rest = subst (IsPut k b (e ∷ ks) (o ∷ bs)) (sym (ap (λ t. cond (not t) (1 + position_or_len (same_key k) ks) 0) same)) (put_here k e b o ks bs this same (sym (key_is k e b o this keyed.0) ∙ same) keyed.1)
    by false same rest =
        let one : suc (position_or_len (same_key k) ks) ≡ 1 + position_or_len (same_key k) ks = omega arith in
        subst (IsPut k b (e ∷ ks) (o ∷ bs)) (one ∙ sym (ap (λ t. cond (not t) (1 + position_or_len (same_key k) ks) 0) same))
        (put_behind k e b o ks bs (position_or_len (same_key k) ks) keyed.0 (sym (key_is k e b o this keyed.0) ∙ same) (rest (ap (λ t. t || list_any (same_key k) ks) (sym same) ∙ among)))

not_new : (found among : Bool) → found ≡ not among → found ≡ false → among ≡ true
not_new found true e f = refl
not_new found false e f = let bad : true ≡ false = sym e ∙ f in cc

is_new : (found among : Bool) → found ≡ not among → found ≡ true → among ≡ false
is_new found false e f = refl
is_new found true e f = let bad : false ≡ true = sym e ∙ f in cc

-- a binding whose key is one of these takes the place of that one
pub put_again : (k : Key) (b : Bind) (keys : List Key) (binds items : List Bind) (place : ℕ) (found : Bool) → IsKey k b → AreKeys keys binds → items ≡ binds → found ≡ not (list_any (same_key k) keys) → found ≡ false
    → place ≡ position_or_len (same_key k) keys → IsPut k b keys items place
put_again k b keys binds items place found this keyed same e f at =
    subst (IsPut k b keys items) (sym at) (put k b keys items this (subst (AreKeys keys) (sym same) keyed) (not_new found (list_any (same_key k) keys) e f))

-- the keys stay then
pub keys_again : (k : Key) (keys : List Key) (found : Bool) → found ≡ not (list_any (same_key k) keys) → found ≡ false → insert_key same_key keys k ≡ keys
keys_again k keys found e f = ap (λ t. cond t keys (keys ++ k ∷ [])) (not_new found (list_any (same_key k) keys) e f)

neither : (a b : Bool) → (a || b) ≡ false → (a ≡ false) × (b ≡ false)
neither true b e = cc
neither false b e = (refl, e)

put_last : (k : Key) (b : Bind) (keys : List Key) (binds : List Bind) → IsKey k b → AreKeys keys binds → list_any (same_key k) keys ≡ false → binds ++ b ∷ [] ≡ with_bind b binds
put_last k b [] [] this keyed none = refl
put_last k b [] (o ∷ bs) this keyed none = absurd keyed
put_last k b (e ∷ ks) [] this keyed none = absurd keyed
put_last k b (e ∷ ks) (o ∷ bs) this keyed none =
    let parts = neither (same_key k e) (list_any (same_key k) ks) none in
    ap (λ xs. o ∷ xs) (put_last k b ks bs this keyed.1 parts.1) ∙ sym (ap (λ t. cond t (b ∷ bs) (o ∷ with_bind b bs)) (sym (key_is k e b o this keyed.0) ∙ parts.0))

-- a binding whose key is none of these goes last
pub put_new : (k : Key) (b : Bind) (keys : List Key) (binds items : List Bind) (found : Bool) → IsKey k b → AreKeys keys binds → items ≡ binds → found ≡ not (list_any (same_key k) keys) → found ≡ true → items ++ b ∷ [] ≡ with_bind b binds
put_new k b keys binds items found this keyed same e f = ap (λ xs. xs ++ b ∷ []) same ∙ put_last k b keys binds this keyed (is_new found (list_any (same_key k) keys) e f)

keyed_last : (k : Key) (b : Bind) (keys : List Key) (binds : List Bind) → IsKey k b → AreKeys keys binds → AreKeys (keys ++ k ∷ []) (binds ++ b ∷ [])
keyed_last k b [] [] this keyed = (this, tt)
keyed_last k b [] (o ∷ bs) this keyed = absurd keyed
keyed_last k b (e ∷ ks) [] this keyed = absurd keyed
keyed_last k b (e ∷ ks) (o ∷ bs) this keyed = (keyed.0, keyed_last k b ks bs this keyed.1)

-- so does its key
pub keyed_new : (k : Key) (b : Bind) (keys : List Key) (binds items : List Bind) (found : Bool) → IsKey k b → AreKeys keys binds → items ≡ binds → found ≡ not (list_any (same_key k) keys) → found ≡ true
    → AreKeys (insert_key same_key keys k) (items ++ b ∷ [])
keyed_new k b keys binds items found this keyed same e f =
    subst (λ ks. AreKeys ks (items ++ b ∷ [])) (sym (ap (λ t. cond t keys (keys ++ k ∷ [])) (is_new found (list_any (same_key k) keys) e f)))
    (subst (λ xs. AreKeys (keys ++ k ∷ []) (xs ++ b ∷ [])) (sym same) (keyed_last k b keys binds this keyed))

-- ---- names

-- a name is among names where its bytes are among theirs
pub name_among : (name : List ℕ) (keys : List (String Global)) (names : List (List ℕ)) → map string_bytes keys ≡ names → list_any (λ k. bytes_eq name (string_bytes k)) keys ≡ list_any (bytes_eq name) names
name_among name keys names same = by keys ∙ ap (list_any (bytes_eq name)) same
  where
    by : (ks : List (String Global)) → list_any (λ k. bytes_eq name (string_bytes k)) ks ≡ list_any (bytes_eq name) (map string_bytes ks)
    by [] = refl
    by (k ∷ ks) = ap (λ t. bytes_eq name (string_bytes k) || t) (by ks)

-- so they are of a key of that name
key_among : (key : String Global) (name : List ℕ) (keys : List (String Global)) (names : List (List ℕ)) → string_bytes key ≡ name → map string_bytes keys ≡ names → list_any (string_eq key) keys ≡ list_any (bytes_eq name) names
key_among key name keys names this same = ap (λ n. list_any (λ k. bytes_eq n (string_bytes k)) keys) this ∙ name_among name keys names same

-- a name whose key is none of these comes last
pub name_new : (key : String Global) (name : List ℕ) (keys : List (String Global)) (names : List (List ℕ)) (found : Bool) → string_bytes key ≡ name → map string_bytes keys ≡ names → found ≡ not (list_any (string_eq key) keys) → found ≡ true
    → with_name name names ≡ names ++ name ∷ []
name_new key name keys names found this same e f =
    ap (λ t. cond t names (names ++ name ∷ [])) (sym (key_among key name keys names this same) ∙ is_new found (list_any (string_eq key) keys) e f)

-- a name whose key is one of these is there
pub name_again : (key : String Global) (name : List ℕ) (keys : List (String Global)) (names : List (List ℕ)) (found : Bool) → string_bytes key ≡ name → map string_bytes keys ≡ names → found ≡ not (list_any (string_eq key) keys) → found ≡ false
    → with_name name names ≡ names
name_again key name keys names found this same e f =
    ap (λ t. cond t names (names ++ name ∷ [])) (sym (key_among key name keys names this same) ∙ not_new found (list_any (string_eq key) keys) e f)
