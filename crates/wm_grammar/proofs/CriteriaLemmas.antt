-- Criteria: what stands between the brackets, and what the reading takes of it.
use Rattle.std.proofs.Common.{◌≡◌, ℕ, zero, suc, ◌-◌, ◌≤◌, Bool, true, false, List, [], ◌∷◌, ◌++◌, length, drop, Option, Some, None, refl, sym, ap, subst, ◌∙◌, append_assoc, arith}
use Rattle.std.specs.Prelude.{◌==◌, ◌&&◌, not, option_map}
use Rattle.std.proofs.lemmas.Bool.{and_parts, eqb-true, false≢true, true≢false}
use Rattle.std.proofs.lemmas.List.{append-nil}
use Rattle.wm_language.specs.declared.batch.Key.{Key}
use Rattle.wm_language.specs.declared.batch.Criteria.{Criteria}
use Rattle.wm_words.specs.Pieces.{◌>>=◌, is_nil, starts, skip}
use Rattle.wm_words.proofs.Cuts.{AllSome, if_some}
use Rattle.wm_grammar.specs.Criteria.{place_of, has_place, ends_key, key_at, closed_keys, and_keys, keys_at, criteria_at}
use Rattle.wm_grammar.specs.Reading.{criteria_of, criteria_part}
use Rattle.wm_grammar.proofs.CutCommands.{bind_some, map_some, each_some}
use Rattle.wm_grammar.proofs.Loops.{keys_at_more, keys_at_close}
use Rattle.wm_language.specs.Bytes.{IsBlank, Each}
use Rattle.wm_language.specs.Criteria.{IsKey, AreKeys, Once, Bracketed}
use Rattle.wm_language.specs.Batches.{AreCriteria}
use Rattle.wm_grammar.proofs.ByteLemmas.{skipped, skip_blanks, skip_kept, blank_true}
use Rattle.wm_grammar.proofs.KeyLemmas.{KeyTold, key_told, key_back, key_opens, once_more, once_place}

-- ---- what reads is criteria

-- keys with blanks at both ends, up to ]
abbrev Inner : List Key → List ℕ → List ℕ → Type 0
Inner [] s rest = (b : List ℕ) × (s ≡ b ++ 93 ∷ rest) × Each IsBlank b
Inner (k ∷ ks) s rest = (b : List ℕ) × (inner : List ℕ) × (d : List ℕ) × (s ≡ b ++ (inner ++ (d ++ 93 ∷ rest))) × Each IsBlank b × Each IsBlank d × AreKeys (k ∷ ks) inner

-- the keys that are read behind those seen
record Keys (n : ℕ) (seen : List Key) (s : List ℕ) (x : List Key × List ℕ) : Type 0 where
  more : List Key
  all : x.0 ≡ seen ++ more
  some : is_nil x.0 ≡ false
  few : length more ≤ n
  once : Once seen → Once (seen ++ more)
  inner : Inner more s x.1

starts_byte : (c : ℕ) (t : List ℕ) → starts c t ≡ true → t ≡ c ∷ drop 1 t
starts_byte c [] h = absurd (false≢true h)
starts_byte c (d ∷ t) h = ap (λ (k : ℕ). k ∷ t) (eqb-true d c h)

not_true : (b : Bool) → not b ≡ true → b ≡ false
not_true true h = absurd (false≢true h)
not_true false h = refl

closed_told : (n : ℕ) (seen : List Key) (s : List ℕ) → AllSome (Keys n seen s) (closed_keys seen (skip s))
closed_told n seen s = if_some (Keys n seen s) (starts 93 (skip s) && not (is_nil seen)) (Some (seen, drop 1 (skip s))) None
    (λ e.
    let both = and_parts (starts 93 (skip s)) (not (is_nil seen)) e in
    let b = skipped s in
    record { more = []; all = sym (append-nil seen); some = not_true (is_nil seen) both.1; few = omega arith; once = λ o. subst Once (sym (append-nil seen)) o; inner = (b.blanks, b.whole ∙ ap (λ (t : List ℕ). b.blanks ++ t) (starts_byte 93 (skip s) both.0), b.blank) })
    (λ e. tt)

-- a key, and those behind it
inner_more : (k : Key) (ks : List Key) (s b key u rest : List ℕ) → s ≡ b ++ (key ++ u) → Each IsBlank b → IsKey k key → ends_key u ≡ true → Inner ks u rest → Inner (k ∷ ks) s rest
inner_more k [] s b key u rest e h is l i = (b, key, i.0, e ∙ ap (λ (t : List ℕ). b ++ (key ++ t)) i.1, h, i.2, is)
inner_more k (l ∷ ls) s b key u rest e h is end i =
    let some : 1 ≤ length i.0 = long i.0 i.3 end in
    let whole : key ++ u ≡ (key ++ (i.0 ++ i.1)) ++ (i.2 ++ 93 ∷ rest) = ap (λ (t : List ℕ). key ++ t) (i.3 ∙ sym (append_assoc i.0 i.1 (i.2 ++ 93 ∷ rest))) ∙ sym (append_assoc key (i.0 ++ i.1) (i.2 ++ 93 ∷ rest)) in
    let keys : AreKeys (k ∷ l ∷ ls) (key ++ (i.0 ++ i.1)) = record { key = key; blanks = i.0; others = i.1; whole = refl; is = is; blank = i.4; some = some; more = i.6 } in
    (b, key ++ (i.0 ++ i.1), i.2, e ∙ ap (λ (t : List ℕ). b ++ t) whole, h, i.5, keys)
  where
    first_opens : (ls : List Key) (t : List ℕ) → AreKeys (l ∷ ls) t → (v : List ℕ) → ends_key (t ++ v) ≡ false
    first_opens [] t a v = (key_opens l t a).unended v
    first_opens (m ∷ ms) t a v = ap (λ (w : List ℕ). ends_key (w ++ v)) a.whole ∙ (ap ends_key (append_assoc a.key (a.blanks ++ a.others) v) ∙ (key_opens l a.key a.is).unended ((a.blanks ++ a.others) ++ v))

    long : (d : List ℕ) → u ≡ d ++ (i.1 ++ (i.2 ++ 93 ∷ rest)) → ends_key u ≡ true → 1 ≤ length d
    long [] f g = absurd (true≢false (sym g ∙ (ap ends_key f ∙ first_opens ls i.1 i.6 (i.2 ++ 93 ∷ rest))))
    long (c ∷ d) f g = omega arith

seen_more : (seen more : List Key) (k : Key) → (seen ++ k ∷ []) ++ more ≡ seen ++ k ∷ more
seen_more seen more k = append_assoc seen (k ∷ []) more

keys_more : (n : ℕ) (seen : List Key) (s : List ℕ) (k : Key × List ℕ) (x : List Key × List ℕ) → KeyTold (skip s) k → ends_key k.1 ≡ true → has_place (place_of k.0) seen ≡ false → Keys n (seen ++ k.0 ∷ []) k.1 x → Keys (suc n) seen s x
keys_more n seen s k x t end new i =
    let b = skipped s in
    record {
      more = k.0 ∷ i.more;
      all = i.all ∙ seen_more seen i.more k.0;
      some = i.some;
      few = omega (arith, i.few);
      once = λ o. subst Once (seen_more seen i.more k.0) (i.once (once_more seen k.0 o new));
      inner = inner_more k.0 i.more s b.blanks t.text k.1 x.1 (b.whole ∙ ap (λ (u : List ℕ). b.blanks ++ u) t.whole) b.blank t.is end i.inner;
    }

keys_told : (n : ℕ) (seen : List Key) (s : List ℕ) → AllSome (Keys n seen s) (keys_at n seen s)
unfolding keys_at
keys_told zero seen s = closed_told zero seen s
keys_told (suc n) seen s = if_some (Keys (suc n) seen s) (starts 93 (skip s)) (closed_keys seen (skip s)) (key_at (skip s) >>= and_keys (keys_at n) seen)
    (λ e. closed_told (suc n) seen s)
    (λ e. bind_some (KeyTold (skip s)) (Keys (suc n) seen s) (key_at (skip s)) (and_keys (keys_at n) seen) (key_told (skip s)) (λ k t.
    if_some (Keys (suc n) seen s) (ends_key k.1 && not (has_place (place_of k.0) seen)) (keys_at n (seen ++ k.0 ∷ []) k.1) None
    (λ f.
    let both = and_parts (ends_key k.1) (not (has_place (place_of k.0) seen)) f in
    each_some (Keys n (seen ++ k.0 ∷ []) k.1) (Keys (suc n) seen s) (keys_at n (seen ++ k.0 ∷ []) k.1) (keys_told n (seen ++ k.0 ∷ []) k.1) (λ x i. keys_more n seen s k x t both.0 (not_true (has_place (place_of k.0) seen) both.1) i))
    (λ f. tt)))

-- the text between the brackets, and what follows
record BracketsTold (s : List ℕ) (x : List Key × List ℕ) : Type 0 where
  text : List ℕ
  whole : 91 ∷ s ≡ text ++ x.1
  is : Bracketed x.0 text

brackets_whole : (b i d rest : List ℕ) → 91 ∷ (b ++ (i ++ (d ++ 93 ∷ rest))) ≡ (91 ∷ (b ++ (i ++ (d ++ 93 ∷ [])))) ++ rest
brackets_whole b i d rest = ap (λ (t : List ℕ). 91 ∷ t) (sym (append_assoc b (i ++ (d ++ 93 ∷ [])) rest ∙ ap (λ (t : List ℕ). b ++ t) (append_assoc i (d ++ 93 ∷ []) rest ∙ ap (λ (t : List ℕ). i ++ t) (append_assoc d (93 ∷ []) rest))))

brackets_of : (s : List ℕ) (x : List Key × List ℕ) (ks : List Key) → x.0 ≡ ks → is_nil x.0 ≡ false → length ks ≤ 16 → Once ks → Inner ks s x.1 → BracketsTold s x
brackets_of s x [] e some few once i = absurd (true≢false (sym (ap is_nil e) ∙ some))
brackets_of s x (k ∷ ks) e some few once i =
    let text : List ℕ = 91 ∷ (i.0 ++ (i.1 ++ (i.2 ++ 93 ∷ []))) in
    let is : Bracketed (k ∷ ks) text = record { front = i.0; inner = i.1; back = i.2; whole = refl; front_blank = i.4; back_blank = i.5; keys = i.6; few = few; once = once } in
    record { text = text; whole = ap (λ (t : List ℕ). 91 ∷ t) i.3 ∙ brackets_whole i.0 i.1 i.2 x.1; is = subst (λ (l : List Key). Bracketed l text) (sym e) is }

brackets_told : (s : List ℕ) → AllSome (BracketsTold s) (criteria_at s)
unfolding criteria_at
brackets_told s = each_some (Keys 16 [] s) (BracketsTold s) (keys_at 16 [] s) (keys_told 16 [] s) (λ x k. brackets_of s x k.more k.all k.some k.few (k.once tt) k.inner)

-- the criteria at the front of a text, or none, and what follows
pub record PartTold (t : List ℕ) (x : Option Criteria × List ℕ) : Type 0 where
  pub front : List ℕ
  pub whole : t ≡ front ++ x.1
  pub is : AreCriteria x.0 front

part_of : (s : List ℕ) (x : List Key × List ℕ) → BracketsTold s x → PartTold (91 ∷ s) (criteria_of x.0, x.1)
part_of s x b = record { front = b.text; whole = b.whole; is = record { blanks = []; others = b.text; whole = refl; blank = tt; is = b.is } }

pub part_told : (t : List ℕ) → AllSome (PartTold t) (criteria_part t)
unfolding criteria_part
part_told [] = record { front = []; whole = refl; is = refl }
part_told (c ∷ s) = if_some (PartTold (c ∷ s)) (c == 91) (option_map (λ x. (criteria_of x.0, x.1)) (criteria_at s)) (Some (None, c ∷ s))
    (λ e. subst (λ (t : List ℕ). AllSome (PartTold t) (option_map (λ x. (criteria_of x.0, x.1)) (criteria_at s))) (sym (ap (λ (k : ℕ). k ∷ s) (eqb-true c 91 e))) (map_some (BracketsTold s) (PartTold (91 ∷ s)) (criteria_at s) (λ x. (criteria_of x.0, x.1)) (brackets_told s) (part_of s)))
    (λ e. record { front = []; whole = refl; is = refl })

-- ---- criteria that stand in the text are taken

blank_ends : (d t : List ℕ) → Each IsBlank d → ends_key (d ++ 93 ∷ t) ≡ true
blank_ends [] t h = refl
blank_ends (c ∷ d) t h = rw (blank_true c h.0) refl

some_blank_ends : (d t : List ℕ) → Each IsBlank d → 1 ≤ length d → ends_key (d ++ t) ≡ true
some_blank_ends [] t h k = absurd (omega arith)
some_blank_ends (c ∷ d) t h k = rw (blank_true c h.0) refl

closing : (d t : List ℕ) → Each IsBlank d → skip (d ++ 93 ∷ t) ≡ 93 ∷ t
closing d t h = skip_blanks d (93 ∷ t) h ∙ skip_kept 93 t refl

seen_some : (seen : List Key) (k : Key) → is_nil (seen ++ k ∷ []) ≡ false
seen_some [] k = refl
seen_some (l ∷ ls) k = refl

keys_end : (n : ℕ) (seen : List Key) (d t : List ℕ) → Each IsBlank d → is_nil seen ≡ false → keys_at n seen (d ++ 93 ∷ t) ≡ Some (seen, t)
keys_end n seen d t h some =
    let s : skip (d ++ 93 ∷ t) ≡ 93 ∷ t = closing d t h in
    keys_at_close n seen (d ++ 93 ∷ t) (ap (starts 93) s) ∙ (ap (closed_keys seen) s ∙ rw some refl)

-- one key
key_step : (n : ℕ) (seen : List Key) (k : Key) (b key u : List ℕ) → Each IsBlank b → IsKey k key → ends_key u ≡ true → has_place (place_of k) seen ≡ false → keys_at (suc n) seen (b ++ (key ++ u)) ≡ keys_at n (seen ++ k ∷ []) u
key_step n seen k b key u h is end new =
    let o = key_opens k key is in
    let s : skip (b ++ (key ++ u)) ≡ key ++ u = skip_blanks b (key ++ u) h ∙ o.unblanked u in
    let more : keys_at (suc n) seen (b ++ (key ++ u)) ≡ (key_at (skip (b ++ (key ++ u))) >>= and_keys (keys_at (suc n - 1)) seen) = keys_at_more (suc n) seen (b ++ (key ++ u)) (omega arith) (ap (starts 93) s ∙ o.opened u) in
    let one : suc n - 1 ≡ n = omega arith in
    more ∙ (ap (λ (t : List ℕ). key_at t >>= and_keys (keys_at (suc n - 1)) seen) s
    ∙ (ap (λ (o : Option (Key × List ℕ)). o >>= and_keys (keys_at (suc n - 1)) seen) (key_back k key u is end)
    ∙ (rw (end, new) (ap (λ (m : ℕ). keys_at m (seen ++ k ∷ []) u) one))))

keys_back : (ks : List Key) (n : ℕ) (seen : List Key) (b inner d t : List ℕ) → length ks ≤ n → Each IsBlank b → Each IsBlank d → AreKeys ks inner → Once (seen ++ ks) → keys_at n seen (b ++ (inner ++ (d ++ 93 ∷ t))) ≡ Some (seen ++ ks, t)
keys_back [] n seen b inner d t le h l a o = elim a [ ]
keys_back (k ∷ ks) zero seen b inner d t le h l a o = absurd (omega arith)
keys_back (k ∷ []) (suc n) seen b inner d t le h l a o =
    key_step n seen k b inner (d ++ 93 ∷ t) h a (blank_ends d t l) (once_place seen k [] o) ∙ keys_end n (seen ++ k ∷ []) d t l (seen_some seen k)
keys_back (k ∷ m ∷ ks) (suc n) seen b inner d t le h l a o =
    let tail : List ℕ = a.blanks ++ (a.others ++ (d ++ 93 ∷ t)) in
    let whole : inner ++ (d ++ 93 ∷ t) ≡ a.key ++ tail = ap (λ (s : List ℕ). s ++ (d ++ 93 ∷ t)) a.whole ∙ (append_assoc a.key (a.blanks ++ a.others) (d ++ 93 ∷ t) ∙ ap (λ (s : List ℕ). a.key ++ s) (append_assoc a.blanks a.others (d ++ 93 ∷ t))) in
    let once : Once ((seen ++ k ∷ []) ++ m ∷ ks) = subst Once (sym (seen_more seen (m ∷ ks) k)) o in
    let step : keys_at (suc n) seen (b ++ (a.key ++ tail)) ≡ keys_at n (seen ++ k ∷ []) tail = key_step n seen k b a.key tail h a.is (some_blank_ends a.blanks (a.others ++ (d ++ 93 ∷ t)) a.blank a.some) (once_place seen k (m ∷ ks) o) in
    let rest = keys_back (m ∷ ks) n (seen ++ k ∷ []) a.blanks a.others d t (omega arith) a.blank l a.more once in
    ap (λ (s : List ℕ). keys_at (suc n) seen (b ++ s)) whole ∙ (step ∙ (rest ∙ ap (λ (l : List Key). Some (l, t)) (seen_more seen (m ∷ ks) k)))

criteria_back : (ks : List Key) (text t : List ℕ) → Bracketed ks text → criteria_part (text ++ t) ≡ Some (criteria_of ks, t)
unfolding criteria_part criteria_at
criteria_back ks text t k =
    ap (λ (s : List ℕ). criteria_part (s ++ t)) k.whole
    ∙ (ap criteria_part (sym (brackets_whole k.front k.inner k.back t))
    ∙ ap (option_map (λ x. (criteria_of x.0, x.1))) (keys_back ks 16 [] k.front k.inner k.back t k.few k.front_blank k.back_blank k.keys k.once))

-- where no bracket stands, there are no criteria
pub no_criteria : (t : List ℕ) → starts 91 t ≡ false → criteria_part t ≡ Some (None, t)
unfolding criteria_part
no_criteria t h = rw h refl

-- criteria that blanks stand before: behind the blanks
pub part_back : (c : Criteria) (front t : List ℕ) → AreCriteria (Some c) front → (g : List ℕ) × (skip (front ++ t) ≡ g) × (criteria_part g ≡ Some (Some c, t))
part_back c front t b =
    let k = b.is in
    let others : b.others ++ t ≡ 91 ∷ (k.front ++ (k.inner ++ (k.back ++ 93 ∷ t))) = ap (λ (s : List ℕ). s ++ t) k.whole ∙ sym (brackets_whole k.front k.inner k.back t) in
    let s : skip (front ++ t) ≡ b.others ++ t = ap (λ (u : List ℕ). skip (u ++ t)) b.whole ∙ (ap skip (append_assoc b.blanks b.others t) ∙ (skip_blanks b.blanks (b.others ++ t) b.blank ∙ (ap skip others ∙ (skip_kept 91 (k.front ++ (k.inner ++ (k.back ++ 93 ∷ t))) refl ∙ sym others)))) in
    (b.others ++ t, s, criteria_back c.keys b.others t k)
