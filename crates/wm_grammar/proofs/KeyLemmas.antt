-- Keys of criteria: what stands in the text, and what the reading takes of it.
use Rattle.std.proofs.Common.{◌≡◌, ℕ, Bool, true, false, List, [], ◌∷◌, ◌++◌, drop, Some, None, refl, sym, ap, subst, ◌∙◌, append_assoc, arith, codes, inl, inr}
use Rattle.std.specs.Prelude.{if◌then◌else◌, ◌==◌, ◌||◌, option_map}
use Rattle.std.proofs.lemmas.Bool.{or_parts, or_cases, eqb-true, eqb-false, ne_eqb, false≢true, true≢false}
use Rattle.std.proofs.lemmas.List.{append-nil}
use Rattle.wm_language.specs.declared.batch.Key.{Key}
use Rattle.wm_language.specs.declared.batch.Key.TheVariants as keys
use Rattle.wm_grammar.specs.declared.keys.KeyName.{KeyName}
use Rattle.wm_grammar.specs.declared.keys.KeyName.TheVariants as names
use Rattle.wm_words.specs.Pieces.{◌>>=◌, is_nil, is_blank, is_text, ends_name, ends_value, starts, until, from, has, skip, choice, natural, argument, unquote}
use Rattle.wm_words.proofs.Cuts.{AllSome, if_some}
use Rattle.wm_words.proofs.NumbersAgain.{stops_at, until_past, from_past}
use Rattle.wm_grammar.specs.Openings.{before_rest}
use Rattle.wm_grammar.specs.Criteria.{name_words, flag_words, urgent_words, key_of, value_at, valued_at, key_at, place_of, has_place, ends_key}
use Rattle.wm_language.specs.Words.{IsArgument, in_small, small, Quoted, IsNatural}
use Rattle.wm_grammar.proofs.Spelled.{argument_again}
use Rattle.wm_grammar.proofs.CutCommands.{bind_some, map_some, each_some}
use Rattle.wm_language.specs.Bytes.{IsBlank, IsQuote}
use Rattle.wm_language.specs.Criteria.{name_of, IsBareValue, IsValue, HasValue, IsPattern, UrgentWord, urgent_latest, urgent_newest, urgent_last, urgent_recent, urgent_oldest, urgent_first, IsKey, HasNot, Once}
use Rattle.wm_grammar.proofs.ByteLemmas.{blank_told, blank_false, no_blank_told, each_has, has_each, until_clean, until_from, text_same, has_small}
use Rattle.wm_grammar.proofs.NumberLemmas.{natural_told, natural_back}
use Rattle.wm_grammar.proofs.TextLemmas.{Closed, unquote_told, unquote_back, argument_told, quote_first, nil_long}
use Rattle.wm_grammar.proofs.FilledLemmas.{choice_told}
use Rattle.wm_grammar.proofs.RowLemmas.{exact, choice_back}

-- ---- values

-- a value at the front, and what follows it
pub record ValueTold (s : List ℕ) (x : List ℕ × List ℕ) : Type 0 where
  pub piece : List ℕ
  pub whole : s ≡ piece ++ x.1
  pub is : IsValue x.0 piece

value_byte : (c : ℕ) → ends_value c ≡ false → (IsBlank c → ⊥) × (c ≡ 93 → ⊥) × (IsQuote c → ⊥)
value_byte c h =
    let a = or_parts (is_blank c || (c == 93)) (c == 34) h in
    let b = or_parts (is_blank c) (c == 93) a.0 in
    (no_blank_told c b.0, eqb-false c 93 b.1, eqb-false c 34 a.1)

byte_value : (c : ℕ) → (IsBlank c → ⊥) × (c ≡ 93 → ⊥) × (IsQuote c → ⊥) → ends_value c ≡ false
byte_value c h =
    let a = blank_false c h.0 in
    let b : (c == 93) ≡ false = ne_eqb c 93 h.1 in
    let d : (c == 34) ≡ false = ne_eqb c 34 h.2 in
    rw (a, b, d) refl

bare_value : (s : List ℕ) → AllSome (ValueTold s) (if is_nil (until ends_value s) then None else Some (until ends_value s, from ends_value s))
bare_value s = if_some (ValueTold s) (is_nil (until ends_value s)) None (Some (until ends_value s, from ends_value s)) (λ e. tt) (λ e.
    let is : IsBareValue (until ends_value s) = record { some = nil_long (until ends_value s) e; each = has_each ends_value (λ c. (IsBlank c → ⊥) × (c ≡ 93 → ⊥) × (IsQuote c → ⊥)) value_byte (until ends_value s) (until_clean ends_value s) } in
    record { piece = until ends_value s; whole = sym (until_from ends_value s); is = inr (refl, is) })

quoted_value : (t : List ℕ) (x : List ℕ × List ℕ) → Closed t x → ValueTold (34 ∷ t) x
quoted_value t x k = record { piece = 34 ∷ (k.body ++ 34 ∷ []); whole = ap (λ (s : List ℕ). 34 ∷ s) (k.whole ∙ sym (append_assoc k.body (34 ∷ []) x.1)); is = inl (record { body = k.body; whole = refl; inside = k.inside }) }

value_told : (s : List ℕ) → AllSome (ValueTold s) (value_at s)
unfolding value_at
value_told [] = bare_value []
value_told (c ∷ t) = if_some (ValueTold (c ∷ t)) (c == 34) (unquote t) (if is_nil (until ends_value (c ∷ t)) then None else Some (until ends_value (c ∷ t), from ends_value (c ∷ t)))
    (λ e. subst (λ (s : List ℕ). AllSome (ValueTold s) (unquote t)) (sym (quote_first c t e)) (each_some (Closed t) (ValueTold (34 ∷ t)) (unquote t) (unquote_told t) (quoted_value t)))
    (λ e. bare_value (c ∷ t))

-- the key ends here: at a blank or ]
abbrev pub KeyEnds : List ℕ → Type 0
KeyEnds u = ends_key u ≡ true

ends_stop : (u : List ℕ) → KeyEnds u → (stops_at ends_value u ≡ true) × (stops_at ends_name u ≡ true) × (starts 61 u ≡ false)
ends_stop [] h = absurd (false≢true h)
ends_stop (c ∷ r) h =
    elim (or_cases (is_blank c) (c == 93) h) [
      | inl e ↦ elim (blank_told c e) [
        | inl f ↦ (ap ends_value f, ap ends_name f, ap (λ (n : ℕ). n == 61) f)
        | inr f ↦ (ap ends_value f, ap ends_name f, ap (λ (n : ℕ). n == 61) f)
      ]
      | inr e ↦ let f : c ≡ 93 = eqb-true c 93 e in (ap ends_value f, ap ends_name f, ap (λ (n : ℕ). n == 61) f)
    ]

value_quoted : (x p u : List ℕ) → Quoted x p → value_at (p ++ u) ≡ Some (x, u)
unfolding value_at
value_quoted x p u q = ap (λ (s : List ℕ). value_at (s ++ u)) q.whole ∙ (ap (λ (s : List ℕ). value_at (34 ∷ s)) (append_assoc q.body (34 ∷ []) u) ∙ unquote_back q.body x u q.inside)

value_plain : (x u : List ℕ) → is_nil x ≡ false → starts 34 (x ++ u) ≡ false → has ends_value x ≡ false → stops_at ends_value u ≡ true → value_at (x ++ u) ≡ Some (x, u)
unfolding value_at
value_plain x u some quote clean stop =
    let a : until ends_value (x ++ u) ≡ x = until_past ends_value x u clean stop in
    let b : from ends_value (x ++ u) ≡ u = from_past ends_value x u clean stop in
    rw (quote, a, b, some) refl

value_first : (x u : List ℕ) → IsBareValue x → (is_nil x ≡ false) × (starts 34 (x ++ u) ≡ false)
value_first [] u h = absurd (omega (arith, h.some))
value_first (c ∷ x) u h = (refl, ne_eqb c 34 h.each.0.2)

value_back : (x p u : List ℕ) → IsValue x p → KeyEnds u → value_at (p ++ u) ≡ Some (x, u)
value_back x p u (inl q) k = value_quoted x p u q
value_back x p u (inr h) k =
    let f = value_first x u h.1 in
    let clean : has ends_value x ≡ false = each_has ends_value (λ c. (IsBlank c → ⊥) × (c ≡ 93 → ⊥) × (IsQuote c → ⊥)) byte_value x h.1.each in
    ap (λ (s : List ℕ). value_at (s ++ u)) h.0 ∙ value_plain x u f.0 f.1 clean (ends_stop u k).0

-- ---- names

abbrev name_text : KeyName → List ℕ
name_text names.Class = codes "class"
name_text names.Instance = codes "instance"
name_text names.Role = codes "window_role"
name_text names.Kind = codes "window_type"
name_text names.Machine = codes "machine"
name_text names.Title = codes "title"
name_text names.Mark = codes "con_mark"
name_text names.Workspace = codes "workspace"
name_text names.Id = codes "id"
name_text names.Con = codes "con_id"
name_text names.Urgent = codes "urgent"

name_told : (w : List ℕ) → AllSome (λ n. in_small w ≡ name_text n) (choice name_words w)
name_told w = choice_told (λ m n. m ≡ name_text n) name_words (refl, (refl, (refl, (refl, (refl, (refl, (refl, (refl, (refl, (refl, (refl, tt))))))))))) w

text_key : (make : List ℕ → Key) (name key written x : List ℕ) → ((y : List ℕ) → HasValue name (IsPattern y) (key ++ 61 ∷ written) → IsKey (make y) (key ++ 61 ∷ written)) → in_small key ≡ name → IsValue x written → AllSome (λ k. IsKey k (key ++ 61 ∷ written)) (option_map make (argument x))
text_key make name key written x is e v = map_some (λ y. (y ≡ x) × IsArgument y) (λ k. IsKey k (key ++ 61 ∷ written)) (argument x) make (argument_told x) (λ y h. is y (record { key = key; written = written; value = x; whole = refl; named = e; is = v; means = (h.1, sym h.0) }))

key_of_told : (n : KeyName) (key written x : List ℕ) → in_small key ≡ name_text n → IsValue x written → AllSome (λ k. IsKey k (key ++ 61 ∷ written)) (key_of n x)
unfolding key_of
key_of_told names.Class key written x e v = text_key keys.Class (codes "class") key written x (λ y h. h) e v
key_of_told names.Instance key written x e v = text_key keys.Instance (codes "instance") key written x (λ y h. h) e v
key_of_told names.Role key written x e v = text_key keys.Role (codes "window_role") key written x (λ y h. h) e v
key_of_told names.Kind key written x e v = text_key keys.Kind (codes "window_type") key written x (λ y h. h) e v
key_of_told names.Machine key written x e v = text_key keys.Machine (codes "machine") key written x (λ y h. h) e v
key_of_told names.Title key written x e v = text_key keys.Title (codes "title") key written x (λ y h. h) e v
key_of_told names.Mark key written x e v = text_key keys.Mark (codes "con_mark") key written x (λ y h. h) e v
key_of_told names.Workspace key written x e v = text_key keys.Workspace (codes "workspace") key written x (λ y h. h) e v
key_of_told names.Id key written x e v = map_some (λ n. IsNatural n x) (λ k. IsKey k (key ++ 61 ∷ written)) (natural x) keys.Id (natural_told x) (λ n h. record { key = key; written = written; value = x; whole = refl; named = e; is = v; means = h })
key_of_told names.Con key written x e v = if_some (λ k. IsKey k (key ++ 61 ∷ written)) (is_text x (codes "__focused__")) (Some (keys.Con None)) (option_map (λ n. keys.Con (Some n)) (natural x))
    (λ f. record { key = key; written = written; value = x; whole = refl; named = e; is = v; means = text_same x (codes "__focused__") f })
    (λ f. map_some (λ n. IsNatural n x) (λ k. IsKey k (key ++ 61 ∷ written)) (natural x) (λ n. keys.Con (Some n)) (natural_told x) (λ n h. record { key = key; written = written; value = x; whole = refl; named = e; is = v; means = h }))
key_of_told names.Urgent key written x e v = map_some (λ b. UrgentWord (in_small x) b) (λ k. IsKey k (key ++ 61 ∷ written)) (choice urgent_words x) keys.Urgent (choice_told UrgentWord urgent_words (urgent_latest, (urgent_newest, (urgent_last, (urgent_recent, (urgent_oldest, (urgent_first, tt)))))) x) (λ b h. record { key = key; written = written; value = x; whole = refl; named = e; is = v; means = h })

-- ---- keys

-- a key at the front, and what follows it
pub record KeyTold (s : List ℕ) (x : Key × List ℕ) : Type 0 where
  pub text : List ℕ
  pub whole : s ≡ text ++ x.1
  pub is : IsKey x.0 text

abbrev IsFlag : List ℕ → Key → Type 0
IsFlag n k = (m : List ℕ) → in_small m ≡ n → IsKey k m

flag_told : (w : List ℕ) → AllSome (λ k. IsKey k w) (choice flag_words w)
flag_told w = each_some (λ k. IsFlag (in_small w) k) (λ k. IsKey k w) (choice flag_words w) (choice_told IsFlag flag_words ((λ m e. e), ((λ m e. e), ((λ m e. e), tt))) w) (λ k f. f w refl)

starts_there : (c : ℕ) (t : List ℕ) → starts c t ≡ true → t ≡ c ∷ drop 1 t
starts_there c [] h = absurd (false≢true h)
starts_there c (d ∷ t) h = ap (λ (k : ℕ). k ∷ t) (eqb-true d c h)

valued_told : (n : KeyName) (key t : List ℕ) → in_small key ≡ name_text n → AllSome (λ x. KeyTold (key ++ 61 ∷ t) x) (valued_at n t)
unfolding valued_at
valued_told n key t e = bind_some (ValueTold t) (KeyTold (key ++ 61 ∷ t)) (value_at t) (λ v. option_map (before_rest v.1) (key_of n v.0)) (value_told t) (λ v h.
    map_some (λ k. IsKey k (key ++ 61 ∷ h.piece)) (KeyTold (key ++ 61 ∷ t)) (key_of n v.0) (before_rest v.1) (key_of_told n key h.piece v.0 e h.is) (λ k is.
    record { text = key ++ 61 ∷ h.piece; whole = ap (λ (s : List ℕ). key ++ 61 ∷ s) h.whole ∙ sym (append_assoc key (61 ∷ h.piece) v.1); is = is }))

pub key_told : (s : List ℕ) → AllSome (KeyTold s) (key_at s)
unfolding key_at
key_told s =
    let key : List ℕ = until ends_name s in
    let t : List ℕ = from ends_name s in
    if_some (KeyTold s) (starts 61 t) (choice name_words key >>= (λ n. valued_at n (drop 1 t))) (option_map (before_rest t) (choice flag_words key))
    (λ e.
    let whole : key ++ 61 ∷ drop 1 t ≡ s = ap (λ (u : List ℕ). key ++ u) (sym (starts_there 61 t e)) ∙ until_from ends_name s in
    bind_some (λ n. in_small key ≡ name_text n) (KeyTold s) (choice name_words key) (λ n. valued_at n (drop 1 t)) (name_told key) (λ n h. subst (λ (u : List ℕ). AllSome (KeyTold u) (valued_at n (drop 1 t))) whole (valued_told n key (drop 1 t) h)))
    (λ e. map_some (λ k. IsKey k key) (KeyTold s) (choice flag_words key) (before_rest t) (flag_told key) (λ k is. record { text = key; whole = sym (until_from ends_name s); is = is }))

-- ---- a key that stands in the text is taken

small_name : (c : ℕ) → ends_name c ≡ true → ends_name (small c) ≡ true
small_name c h =
    elim (or_cases (is_blank c || (c == 61)) (c == 93) h) [
      | inl e ↦ elim (or_cases (is_blank c) (c == 61) e) [
        | inl g ↦ elim (blank_told c g) [
          | inl f ↦ ap (λ (n : ℕ). ends_name (small n)) f
          | inr f ↦ ap (λ (n : ℕ). ends_name (small n)) f
        ]
        | inr f ↦ ap (λ (n : ℕ). ends_name (small n)) (eqb-true c 61 f)
      ]
      | inr f ↦ ap (λ (n : ℕ). ends_name (small n)) (eqb-true c 93 f)
    ]

name_clean : (key n : List ℕ) → in_small key ≡ n → has ends_name n ≡ false → has ends_name key ≡ false
name_clean key n e h = has_small ends_name small_name key (ap (has ends_name) e ∙ h)

name_clean_all : (n : KeyName) → has ends_name (name_text n) ≡ false
unfolding has
name_clean_all names.Class = refl
name_clean_all names.Instance = refl
name_clean_all names.Role = refl
name_clean_all names.Kind = refl
name_clean_all names.Machine = refl
name_clean_all names.Title = refl
name_clean_all names.Mark = refl
name_clean_all names.Workspace = refl
name_clean_all names.Id = refl
name_clean_all names.Con = refl
name_clean_all names.Urgent = refl

name_exact : (n : KeyName) → exact name_words (name_text n) ≡ Some n
unfolding is_text
name_exact names.Class = refl
name_exact names.Instance = refl
name_exact names.Role = refl
name_exact names.Kind = refl
name_exact names.Machine = refl
name_exact names.Title = refl
name_exact names.Mark = refl
name_exact names.Workspace = refl
name_exact names.Id = refl
name_exact names.Con = refl
name_exact names.Urgent = refl

key_at_name : (n : KeyName) (key t : List ℕ) → in_small key ≡ name_text n → key_at (key ++ 61 ∷ t) ≡ valued_at n t
unfolding key_at
key_at_name n key t e =
    let clean : has ends_name key ≡ false = name_clean key (name_text n) e (name_clean_all n) in
    let a : until ends_name (key ++ 61 ∷ t) ≡ key = until_past ends_name key (61 ∷ t) clean refl in
    let b : from ends_name (key ++ 61 ∷ t) ≡ 61 ∷ t = from_past ends_name key (61 ∷ t) clean refl in
    let d : choice name_words key ≡ Some n = choice_back name_words key (name_text n) e ∙ name_exact n in
    rw (a, b, d) refl

valued_back : (n : KeyName) (x p u : List ℕ) (k : Key) → IsValue x p → KeyEnds u → key_of n x ≡ Some k → valued_at n (p ++ u) ≡ Some (k, u)
unfolding valued_at
valued_back n x p u k v e f = rw (value_back x p u v e, f) refl

-- a key that has a value
has_back : (n : KeyName) (k : Key) (Means : List ℕ → Type 0) (text u : List ℕ) → HasValue (name_text n) Means text → KeyEnds u → ((x : List ℕ) → Means x → key_of n x ≡ Some k) → key_at (text ++ u) ≡ Some (k, u)
has_back n k Means text u h e f =
    ap (λ (s : List ℕ). key_at (s ++ u)) h.whole
    ∙ (ap key_at (append_assoc h.key (61 ∷ h.written) u)
    ∙ (key_at_name n h.key (h.written ++ u) h.named ∙ valued_back n h.value h.written u k h.is e (f h.value h.means)))

key_at_flag : (k : Key) (key n u : List ℕ) → in_small key ≡ n → has ends_name n ≡ false → exact flag_words n ≡ Some k → KeyEnds u → key_at (key ++ u) ≡ Some (k, u)
unfolding key_at
key_at_flag k key n u e c f h =
    let s = ends_stop u h in
    let clean : has ends_name key ≡ false = name_clean key n e c in
    let a : until ends_name (key ++ u) ≡ key = until_past ends_name key u clean s.1 in
    let b : from ends_name (key ++ u) ≡ u = from_past ends_name key u clean s.1 in
    let d : choice flag_words key ≡ Some k = choice_back flag_words key n e ∙ f in
    let g : starts 61 u ≡ false = s.2 in
    rw (a, b, g, d) refl

pattern_of : (make : List ℕ → Key) (x v : List ℕ) → IsPattern x v → option_map make (argument v) ≡ Some (make x)
pattern_of make x v h = ap (option_map make) (ap argument h.1 ∙ argument_again x h.0)

urgent_exact : (w : List ℕ) (b : Bool) → UrgentWord w b → exact urgent_words w ≡ Some b
unfolding is_text
urgent_exact w b urgent_latest = refl
urgent_exact w b urgent_newest = refl
urgent_exact w b urgent_last = refl
urgent_exact w b urgent_recent = refl
urgent_exact w b urgent_oldest = refl
urgent_exact w b urgent_first = refl

-- a number is not __focused__
no_focus : (n : ℕ) (x : List ℕ) → IsNatural n x → is_text x (codes "__focused__") ≡ false
unfolding is_text
no_focus n [] h = absurd (omega (arith, h.some))
no_focus n (c ∷ x) h = let miss : (c == 95) ≡ false = ne_eqb c 95 (λ e. omega (arith, e, h.digits.0.1)) in rw miss refl

con_number : (n : ℕ) (x : List ℕ) → IsNatural n x → key_of names.Con x ≡ Some (keys.Con (Some n))
unfolding key_of
con_number n x h = rw (no_focus n x h, natural_back n x h) refl

con_focused : (x : List ℕ) → x ≡ codes "__focused__" → key_of names.Con x ≡ Some (keys.Con None)
unfolding key_of is_text
con_focused x e = ap (key_of names.Con) e

urgent_key : (b : Bool) (x : List ℕ) → UrgentWord (in_small x) b → key_of names.Urgent x ≡ Some (keys.Urgent b)
unfolding key_of
urgent_key b x h = ap (option_map keys.Urgent) (choice_back urgent_words x (in_small x) refl ∙ urgent_exact (in_small x) b h)

id_key : (n : ℕ) (x : List ℕ) → IsNatural n x → key_of names.Id x ≡ Some (keys.Id n)
unfolding key_of
id_key n x h = ap (option_map keys.Id) (natural_back n x h)

pub key_back : (k : Key) (text u : List ℕ) → IsKey k text → KeyEnds u → key_at (text ++ u) ≡ Some (k, u)
unfolding key_of has is_text
key_back (keys.Class x) text u h e = has_back names.Class (keys.Class x) (IsPattern x) text u h e (pattern_of keys.Class x)
key_back (keys.Instance x) text u h e = has_back names.Instance (keys.Instance x) (IsPattern x) text u h e (pattern_of keys.Instance x)
key_back (keys.Role x) text u h e = has_back names.Role (keys.Role x) (IsPattern x) text u h e (pattern_of keys.Role x)
key_back (keys.Kind x) text u h e = has_back names.Kind (keys.Kind x) (IsPattern x) text u h e (pattern_of keys.Kind x)
key_back (keys.Machine x) text u h e = has_back names.Machine (keys.Machine x) (IsPattern x) text u h e (pattern_of keys.Machine x)
key_back (keys.Title x) text u h e = has_back names.Title (keys.Title x) (IsPattern x) text u h e (pattern_of keys.Title x)
key_back (keys.Mark x) text u h e = has_back names.Mark (keys.Mark x) (IsPattern x) text u h e (pattern_of keys.Mark x)
key_back (keys.Workspace x) text u h e = has_back names.Workspace (keys.Workspace x) (IsPattern x) text u h e (pattern_of keys.Workspace x)
key_back (keys.Id n) text u h e = has_back names.Id (keys.Id n) (λ v. IsNatural n v) text u h e (id_key n)
key_back (keys.Con None) text u h e = has_back names.Con (keys.Con None) (λ v. v ≡ codes "__focused__") text u h e con_focused
key_back (keys.Con (Some n)) text u h e = has_back names.Con (keys.Con (Some n)) (λ v. IsNatural n v) text u h e (con_number n)
key_back (keys.Urgent b) text u h e = has_back names.Urgent (keys.Urgent b) (λ v. UrgentWord (in_small v) b) text u h e (urgent_key b)
key_back keys.Floating text u h e = key_at_flag keys.Floating text (codes "floating") u h refl refl e
key_back keys.Tiling text u h e = key_at_flag keys.Tiling text (codes "tiling") u h refl refl e
key_back keys.All text u h e = key_at_flag keys.All text (codes "all") u h refl refl e

-- ---- the first byte of a key

-- no blank, and not ]
pub record Opens (t : List ℕ) : Type 0 where
  pub some : is_nil t ≡ false
  pub unblanked : (u : List ℕ) → skip (t ++ u) ≡ t ++ u
  pub opened : (u : List ℕ) → starts 93 (t ++ u) ≡ false
  pub unended : (u : List ℕ) → ends_key (t ++ u) ≡ false

opens_first : (c : ℕ) (t : List ℕ) → is_blank c ≡ false → (c == 93) ≡ false → Opens (c ∷ t)
unfolding skip
opens_first c t h k = record { some = refl; unblanked = λ u. rw h refl; opened = λ u. k; unended = λ u. rw (h, k) refl }

opens_name : (key n rest : List ℕ) → in_small key ≡ n → has ends_name n ≡ false → is_nil n ≡ false → Opens (key ++ rest)
unfolding has
opens_name [] n rest e h k = absurd (true≢false (ap is_nil e ∙ k))
opens_name (c ∷ key) n rest e h k =
    let clean = or_parts (ends_name c) (has ends_name key) (name_clean (c ∷ key) n e h) in
    let a = or_parts (is_blank c || (c == 61)) (c == 93) clean.0 in
    opens_first c (key ++ rest) (or_parts (is_blank c) (c == 61) a.0).0 a.1

opens_alone : (key n : List ℕ) → in_small key ≡ n → has ends_name n ≡ false → is_nil n ≡ false → Opens key
opens_alone key n e h k = subst Opens (append-nil key) (opens_name key n [] e h k)

opens_value : (n : List ℕ) (Means : List ℕ → Type 0) (text : List ℕ) → HasValue n Means text → has ends_name n ≡ false → is_nil n ≡ false → Opens text
opens_value n Means text h c k = subst Opens (sym h.whole) (opens_name h.key n (61 ∷ h.written) h.named c k)

pub key_opens : (k : Key) (text : List ℕ) → IsKey k text → Opens text
unfolding has
key_opens (keys.Class x) text h = opens_value (codes "class") (IsPattern x) text h refl refl
key_opens (keys.Instance x) text h = opens_value (codes "instance") (IsPattern x) text h refl refl
key_opens (keys.Role x) text h = opens_value (codes "window_role") (IsPattern x) text h refl refl
key_opens (keys.Kind x) text h = opens_value (codes "window_type") (IsPattern x) text h refl refl
key_opens (keys.Machine x) text h = opens_value (codes "machine") (IsPattern x) text h refl refl
key_opens (keys.Title x) text h = opens_value (codes "title") (IsPattern x) text h refl refl
key_opens (keys.Mark x) text h = opens_value (codes "con_mark") (IsPattern x) text h refl refl
key_opens (keys.Workspace x) text h = opens_value (codes "workspace") (IsPattern x) text h refl refl
key_opens (keys.Id n) text h = opens_value (codes "id") (λ v. IsNatural n v) text h refl refl
key_opens (keys.Con None) text h = opens_value (codes "con_id") (λ v. v ≡ codes "__focused__") text h refl refl
key_opens (keys.Con (Some n)) text h = opens_value (codes "con_id") (λ v. IsNatural n v) text h refl refl
key_opens (keys.Urgent b) text h = opens_value (codes "urgent") (λ v. UrgentWord (in_small v) b) text h refl refl
key_opens keys.Floating text h = opens_alone text (codes "floating") h refl refl
key_opens keys.Tiling text h = opens_alone text (codes "tiling") h refl refl
key_opens keys.All text h = opens_alone text (codes "all") h refl refl

-- ---- each key once

-- the name at a place
abbrev name_at : ℕ → List ℕ
name_at n =
    if n == 0 then codes "class" else if n == 1 then codes "instance" else if n == 2 then codes "window_role" else if n == 3 then codes "window_type" else if n == 4 then codes "machine" else if n == 5 then codes "title" else if n == 6 then codes "con_mark" else if n == 7 then codes "workspace" else if n == 8 then codes "id" else if n == 9 then codes "con_id" else if n == 10 then codes "urgent" else if n == 11 then codes "floating" else if n == 12 then codes "tiling" else codes "all"

name_of_place : (k : Key) → name_at (place_of k) ≡ name_of k
name_of_place (keys.Class x) = refl
name_of_place (keys.Instance x) = refl
name_of_place (keys.Role x) = refl
name_of_place (keys.Kind x) = refl
name_of_place (keys.Machine x) = refl
name_of_place (keys.Title x) = refl
name_of_place (keys.Mark x) = refl
name_of_place (keys.Workspace x) = refl
name_of_place (keys.Id n) = refl
name_of_place (keys.Con o) = refl
name_of_place (keys.Urgent b) = refl
name_of_place keys.Floating = refl
name_of_place keys.Tiling = refl
name_of_place keys.All = refl

place_at : List ℕ → ℕ
place_at n =
    if is_text n (codes "class") then 0 else if is_text n (codes "instance") then 1 else if is_text n (codes "window_role") then 2 else if is_text n (codes "window_type") then 3 else if is_text n (codes "machine") then 4 else if is_text n (codes "title") then 5 else if is_text n (codes "con_mark") then 6 else if is_text n (codes "workspace") then 7 else if is_text n (codes "id") then 8 else if is_text n (codes "con_id") then 9 else if is_text n (codes "urgent") then 10 else if is_text n (codes "floating") then 11 else if is_text n (codes "tiling") then 12 else 13

place_of_name : (k : Key) → place_at (name_of k) ≡ place_of k
unfolding place_at is_text
place_of_name (keys.Class x) = refl
place_of_name (keys.Instance x) = refl
place_of_name (keys.Role x) = refl
place_of_name (keys.Kind x) = refl
place_of_name (keys.Machine x) = refl
place_of_name (keys.Title x) = refl
place_of_name (keys.Mark x) = refl
place_of_name (keys.Workspace x) = refl
place_of_name (keys.Id n) = refl
place_of_name (keys.Con o) = refl
place_of_name (keys.Urgent b) = refl
place_of_name keys.Floating = refl
place_of_name keys.Tiling = refl
place_of_name keys.All = refl

same_name : (k l : Key) → place_of k ≡ place_of l → name_of k ≡ name_of l
same_name k l e = sym (name_of_place k) ∙ (ap name_at e ∙ name_of_place l)

same_place : (k l : Key) → name_of k ≡ name_of l → place_of k ≡ place_of l
same_place k l e = sym (place_of_name k) ∙ (ap place_at e ∙ place_of_name l)

has_not_more : (n : List ℕ) (seen : List Key) (k : Key) → HasNot n seen → (name_of k ≡ n → ⊥) → HasNot n (seen ++ k ∷ [])
has_not_more n [] k h f = (f, tt)
has_not_more n (l ∷ ls) k h f = (h.0, has_not_more n ls k h.1 f)

pub once_more : (seen : List Key) (k : Key) → Once seen → has_place (place_of k) seen ≡ false → Once (seen ++ k ∷ [])
unfolding has_place
once_more [] k h e = (tt, tt)
once_more (l ∷ ls) k h e =
    let both = or_parts (place_of l == place_of k) (has_place (place_of k) ls) e in
    (has_not_more (name_of l) ls k h.0 (λ f. eqb-false (place_of l) (place_of k) both.0 (same_place l k (sym f))), once_more ls k h.1 both.1)

has_not_at : (n : List ℕ) (seen : List Key) (k : Key) (ks : List Key) → HasNot n (seen ++ k ∷ ks) → name_of k ≡ n → ⊥
has_not_at n [] k ks h e = h.0 e
has_not_at n (l ∷ ls) k ks h e = has_not_at n ls k ks h.1 e

pub once_place : (seen : List Key) (k : Key) (ks : List Key) → Once (seen ++ k ∷ ks) → has_place (place_of k) seen ≡ false
unfolding has_place
once_place [] k ks h = refl
once_place (l ∷ ls) k ks h =
    let miss : (place_of l == place_of k) ≡ false = ne_eqb (place_of l) (place_of k) (λ e. has_not_at (name_of l) ls k ks h.0 (sym (same_name l k e))) in
    rw miss (once_place ls k ks h.1)
