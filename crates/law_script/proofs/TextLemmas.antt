-- Quoted texts and names are read as they stand.
use Rattle.std.proofs.Common.{◌≡◌, ◌∙◌, refl, ap, sym, subst, Bool, true, false, cond, eqb, not, ℕ, suc, ◌+◌, ◌≤◌, ◌&&◌, ◌||◌, inl, inr, List, [], ◌∷◌, ◌++◌, length, take, drop, take_while, Option, None, Some, nat_eq, arith}
use Rattle.std.specs.Prelude.{nat_le}
use Rattle.std.specs.List.{AllByRecursion, flat_map, prefix_len, starts_with}
use Rattle.std.specs.Str.{is_utf8, IsUtf8}
use Rattle.std.proofs.Math.Seq.{drop-append_seam}
use Rattle.std.proofs.lemmas.Bool.{and_parts, eqb-false, eqb-true, le-leb, leb-true, ne_eqb, not-true}
use Rattle.std.proofs.lemmas.List.{append_assoc}
use Rattle.std.proofs.lemmas.Str.{IsUtf8-from_is_utf8, is_utf8-from_IsUtf8}
use Rattle.wm_fields.specs.Fields.{behind, or_none}
use Rattle.wm_fields.specs.Quoted.{name_at, onto_text, quoted_at, quoted_within, short_text, text_within, unquoted, word_at}
use Rattle.law_script.proofs.Turns.{none_by, same_some, test_by}
use Rattle.law_script.proofs.WordLemmas.{Ends, Reads, Starts, behind_split, front_all, front_and_rest, front_is}
use Rattle.law_script.specs.Pieces.{BeginsWithout, IsName, IsPiece, IsQuoted, IsWord, Piece, Byte, Mark, Backslash, Feed, Both, meant, written}

-- ---- what stands between quotation marks

inside_reads : (pieces : List Piece) (rest : List ℕ) → AllByRecursion IsPiece pieces → unquoted false (flat_map written pieces ++ 34 ∷ rest) ≡ Some (flat_map meant pieces, rest)
inside_reads [] rest fit = refl
inside_reads (Byte c ∷ ps) rest fit = rw (ne_eqb c 34 fit.0.0, ne_eqb c 92 fit.0.1) (ap (onto_text (c ∷ [])) (inside_reads ps rest fit.1))
inside_reads (Mark ∷ ps) rest fit = ap (λ o. onto_text [] (onto_text (34 ∷ []) o)) (inside_reads ps rest fit.1)
inside_reads (Backslash ∷ ps) rest fit = ap (λ o. onto_text [] (onto_text (92 ∷ []) o)) (inside_reads ps rest fit.1)
inside_reads (Feed ∷ ps) rest fit = ap (λ o. onto_text [] (onto_text (10 ∷ []) o)) (inside_reads ps rest fit.1)
inside_reads (Both c ∷ ps) rest fit =
    rw (ne_eqb c 34 fit.0.0, ne_eqb c 92 fit.0.1, ne_eqb c 110 fit.0.2) (ap (λ o. onto_text [] (onto_text (92 ∷ c ∷ []) o)) (inside_reads ps rest fit.1))

-- a text is pieces, a quotation mark, and what is behind that
record IsInside (text said rest : List ℕ) : Type 0 where
  pub pieces : List Piece
  pub fit : AllByRecursion IsPiece pieces
  pub whole : text ≡ flat_map written pieces ++ 34 ∷ rest
  pub means : said ≡ flat_map meant pieces

one_more : (p : Piece) (text said rest : List ℕ) → IsPiece p → IsInside text said rest → IsInside (written p ++ text) (meant p ++ said) rest
one_more p text said rest fit is = record {
  pieces = p ∷ is.pieces;
  fit = (fit, is.fit);
  whole = ap (λ t. written p ++ t) is.whole ∙ sym (append_assoc (written p) (flat_map written is.pieces) (34 ∷ rest));
  means = ap (λ s. meant p ++ s) is.means;
}

onto_by : {C : Type 0} (s : List ℕ) (o : Option (List ℕ × List ℕ)) (said rest : List ℕ) → ((x : List ℕ) → o ≡ Some (x, rest) → s ++ x ≡ said → C) → onto_text s o ≡ Some (said, rest) → C
onto_by s None said rest go e = cc
onto_by s (Some found) said rest go e =
    let same : (s ++ found.0, found.1) ≡ (said, rest) = same_some _ _ e in
    go found.0 (ap (λ r. Some (found.0, r)) (ap (λ p. p.1) same)) (ap (λ p. p.0) same)

-- the backslash before what is read
abbrev before_it : Bool → List ℕ
before_it true = 92 ∷ []
before_it false = []

plain_step : (c : ℕ) (cs said rest : List ℕ) → ((s : List ℕ) → unquoted true cs ≡ Some (s, rest) → IsInside (92 ∷ cs) s rest) → ((s : List ℕ) → unquoted false cs ≡ Some (s, rest) → IsInside cs s rest)
    → unquoted false (c ∷ cs) ≡ Some (said, rest) → IsInside (c ∷ cs) said rest
plain_step c cs said rest escaped plain e = by (eqb c 34) (eqb c 92) refl refl e
  where
    by : (a b : Bool) → eqb c 34 ≡ a → eqb c 92 ≡ b → cond a (Some ([], cs)) (onto_text (cond b [] (c ∷ [])) (unquoted b cs)) ≡ Some (said, rest) → IsInside (c ∷ cs) said rest
    by true b is is_not f =
        let same : ([], cs) ≡ (said, rest) = same_some _ _ f in
        record { pieces = []; fit = tt; whole = ap (λ d. d ∷ cs) (eqb-true c 34 is) ∙ ap (λ p. 34 ∷ p.1) same; means = ap (λ p. p.0) (sym same) }
    by false true is is_not f = onto_by [] (unquoted true cs) said rest (λ s g same.
        subst (λ d. IsInside (d ∷ cs) said rest) (sym (eqb-true c 92 is_not)) (subst (λ x. IsInside (92 ∷ cs) x rest) same (escaped s g))) f
    by false false is is_not f = onto_by (c ∷ []) (unquoted false cs) said rest (λ s g same.
        subst (λ x. IsInside (c ∷ cs) x rest) same (one_more (Byte c) cs s rest (eqb-false c 34 is, eqb-false c 92 is_not) (plain s g))) f

escaped_step : (d : ℕ) (ds said rest : List ℕ) → ((s : List ℕ) → unquoted false ds ≡ Some (s, rest) → IsInside ds s rest) → unquoted true (d ∷ ds) ≡ Some (said, rest) → IsInside (92 ∷ d ∷ ds) said rest
escaped_step d ds said rest plain e = by (eqb d 34) (eqb d 92) (eqb d 110) refl refl refl e
  where
    by : (a b n : Bool) → eqb d 34 ≡ a → eqb d 92 ≡ b → eqb d 110 ≡ n → onto_text (cond (a || b) (d ∷ []) (cond n (10 ∷ []) (92 ∷ d ∷ []))) (unquoted false ds) ≡ Some (said, rest)
        → IsInside (92 ∷ d ∷ ds) said rest
    by true b n p q r f = onto_by (d ∷ []) (unquoted false ds) said rest (λ s g same.
        let at : d ≡ 34 = eqb-true d 34 p in
        subst (λ k. IsInside (92 ∷ k ∷ ds) said rest) (sym at) (subst (λ x. IsInside (92 ∷ 34 ∷ ds) x rest) (ap (λ k. k ∷ s) (sym at) ∙ same) (one_more Mark ds s rest tt (plain s g)))) f
    by false true n p q r f = onto_by (d ∷ []) (unquoted false ds) said rest (λ s g same.
        let at : d ≡ 92 = eqb-true d 92 q in
        subst (λ k. IsInside (92 ∷ k ∷ ds) said rest) (sym at) (subst (λ x. IsInside (92 ∷ 92 ∷ ds) x rest) (ap (λ k. k ∷ s) (sym at) ∙ same) (one_more Backslash ds s rest tt (plain s g)))) f
    by false false true p q r f = onto_by (10 ∷ []) (unquoted false ds) said rest (λ s g same.
        let at : d ≡ 110 = eqb-true d 110 r in
        subst (λ k. IsInside (92 ∷ k ∷ ds) said rest) (sym at) (subst (λ x. IsInside (92 ∷ 110 ∷ ds) x rest) same (one_more Feed ds s rest tt (plain s g)))) f
    by false false false p q r f = onto_by (92 ∷ d ∷ []) (unquoted false ds) said rest (λ s g same.
        subst (λ x. IsInside (92 ∷ d ∷ ds) x rest) same (one_more (Both d) ds s rest (eqb-false d 34 p, eqb-false d 92 q, eqb-false d 110 r) (plain s g))) f

inside_is : (escaped : Bool) (text said rest : List ℕ) → unquoted escaped text ≡ Some (said, rest) → IsInside (before_it escaped ++ text) said rest
inside_is escaped [] said rest e = cc
inside_is true (d ∷ ds) said rest e = escaped_step d ds said rest (λ s. inside_is false ds s rest) e
inside_is false (c ∷ cs) said rest e = plain_step c cs said rest (λ s. inside_is true cs s rest) (λ s. inside_is false cs s rest) e

-- ---- texts within a limit

within_is : (most : ℕ) (bytes : List ℕ) → IsUtf8 bytes → length bytes ≤ most → text_within most bytes ≡ Some bytes
within_is most bytes text short = rw (is_utf8-from_IsUtf8 bytes text, le-leb (length bytes) most short) refl

-- the bytes are a text within a limit
record IsWithin (most : ℕ) (said : List ℕ) : Type 0 where
  pub utf8 : IsUtf8 said
  pub few : length said ≤ most

within_by : {C : Type 0} (most : ℕ) (bytes said : List ℕ) → (bytes ≡ said → IsWithin most bytes → C) → text_within most bytes ≡ Some said → C
within_by most bytes said go e = test_by (is_utf8 bytes && nat_le (length bytes) most) (Some bytes) said (λ t f.
    let both : (is_utf8 bytes ≡ true) × (nat_le (length bytes) most ≡ true) = and_parts _ _ t in
    go (same_some bytes said f) (record { utf8 = IsUtf8-from_is_utf8 bytes both.0; few = leb-true (length bytes) most both.1 })) e

-- ---- quoted texts

pub quoted_reads : (most : ℕ) (text said rest : List ℕ) → IsQuoted most text said → quoted_within most (text ++ rest) ≡ Some (said, rest)
quoted_reads most text said rest is =
    let inside : unquoted false ((flat_map written is.pieces ++ 34 ∷ []) ++ rest) ≡ Some (flat_map meant is.pieces, rest) =
    ap (unquoted false) (append_assoc (flat_map written is.pieces) (34 ∷ []) rest) ∙ inside_reads is.pieces rest is.fit in
    let within : text_within most (flat_map meant is.pieces) ≡ Some said =
    ap (text_within most) (sym is.means) ∙ within_is most said is.utf8 is.few in
    ap (λ t. quoted_within most (t ++ rest)) is.whole
    ∙ ap (λ o. or_none o (λ found. or_none (text_within most found.0) (λ s. Some (s, found.1)))) inside
    ∙ ap (λ o. or_none o (λ s. Some (s, rest))) within

pub quoted_word : (most : ℕ) (text said : List ℕ) → IsQuoted most text said → Reads (quoted_within most) text said
quoted_word most text said is = λ rest ends. quoted_reads most text said rest is

-- a text is a quoted text, and what is behind it
pub record IsQuotedOff (most : ℕ) (text said rest : List ℕ) : Type 0 where
  pub front : List ℕ
  pub whole : text ≡ front ++ rest
  pub is : IsQuoted most front said

pub quoted_split : (most : ℕ) (text said rest : List ℕ) → quoted_within most text ≡ Some (said, rest) → IsQuotedOff most text said rest
quoted_split most text said rest e =
    none_by (behind (34 ∷ []) text) _ (said, rest) (λ inside a f. none_by (unquoted false inside) _ (said, rest) (λ found b g. none_by (text_within most found.0) _ (said, rest) (λ s c h.
    within_by most found.0 s (λ same within.
    let is : IsInside inside found.0 found.1 = inside_is false inside found.0 found.1 b in
    let both : (s, found.1) ≡ (said, rest) = same_some _ _ h in
    let told : found.0 ≡ said = same ∙ ap (λ p. p.0) both in
    let off : IsQuotedOff most text found.0 found.1 = record {
      front = 34 ∷ (flat_map written is.pieces ++ 34 ∷ []);
      whole = behind_split (34 ∷ []) text inside a ∙ ap (λ t. 34 ∷ t) (is.whole ∙ sym (append_assoc (flat_map written is.pieces) (34 ∷ []) found.1));
      is = record { pieces = is.pieces; fit = is.fit; whole = refl; means = is.means; utf8 = within.utf8; few = within.few };
    } in
    subst (λ r. IsQuotedOff most text said r) (ap (λ p. p.1) both) (subst (λ x. IsQuotedOff most text x found.1) told off)) c) g) f) e

quoted_starts : (most : ℕ) (text said : List ℕ) → IsQuoted most text said → Starts text
quoted_starts most text said is = subst Starts (sym is.whole) (λ e. absurd (omega (arith, e)))

-- ---- names

abbrev is_inner : ℕ → Bool
is_inner c = not (eqb c 32)

inner_passes : (text : List ℕ) → AllByRecursion (λ c. ¬ (c ≡ 32)) text → AllByRecursion (λ c. is_inner c ≡ true) text
inner_passes [] all = tt
inner_passes (c ∷ cs) all = (rw (ne_eqb c 32 all.0) refl, inner_passes cs all.1)

inner_is : (c : ℕ) → is_inner c ≡ true → ¬ (c ≡ 32)
inner_is c e = eqb-false c 32 (not-true (eqb c 32) e)

ends_inner : (rest : List ℕ) → Ends rest → take_while is_inner rest ≡ []
ends_inner [] ends = refl
ends_inner (c ∷ cs) ends = rw ends refl

word_reads : (text rest : List ℕ) → IsWord text → Ends rest → word_at (text ++ rest) ≡ Some (text, rest)
word_reads text rest is ends =
    let whole : take_while is_inner (text ++ rest) ≡ text = front_is is_inner text rest (inner_passes text is.unspaced) (ends_inner rest ends) in
    rw (whole, le-leb 1 (length text) is.some, within_is 1024 text is.utf8 is.few, drop-append_seam text rest) refl

not_quoted : (text rest : List ℕ) → 1 ≤ length text → BeginsWithout 34 text → starts_with nat_eq (text ++ rest) (34 ∷ []) ≡ false
not_quoted [] rest some begins = absurd (omega (arith, some))
not_quoted (c ∷ cs) rest some begins = rw (ne_eqb 34 c (λ e. begins (sym e))) refl

pub name_word : (text name : List ℕ) → IsName text name → Reads name_at text name
name_word text name (inl is) = λ rest ends.
    let quoted : starts_with nat_eq (text ++ rest) (34 ∷ []) ≡ true = ap (λ t. starts_with nat_eq (t ++ rest) (34 ∷ [])) is.whole in
    ap (λ t. cond t (quoted_at (text ++ rest)) (word_at (text ++ rest))) quoted ∙ quoted_reads 1024 text name rest is
name_word text name (inr is) = λ rest ends.
    ap (λ t. cond t (quoted_at (text ++ rest)) (word_at (text ++ rest))) (not_quoted text rest is.0.some is.0.unquoted)
    ∙ word_reads text rest is.0 ends ∙ ap (λ s. Some (s, rest)) (sym is.1)

-- a text is a name, and what is behind it
pub record IsNamed (text name rest : List ℕ) : Type 0 where
  pub front : List ℕ
  pub whole : text ≡ front ++ rest
  pub is : IsName front name

front_unquoted : (text : List ℕ) → starts_with nat_eq text (34 ∷ []) ≡ false → BeginsWithout 34 (take_while is_inner text)
front_unquoted [] e = tt
front_unquoted (c ∷ cs) e = by (is_inner c) (prefix_len is_inner cs)
  where
    other : ¬ (c ≡ 34)
    other same = absurd (both_so (subst (λ d. starts_with nat_eq (d ∷ cs) (34 ∷ []) ≡ false) same e))
      where
        both_so : true ≡ false → ⊥
        both_so f = cc

    by : (t : Bool) (n : ℕ) → BeginsWithout 34 (take (cond t (1 + n) 0) (c ∷ cs))
    by true n = let one : 1 + n ≡ suc n = omega arith in rw one other
    by false n = tt

word_split : (text name rest : List ℕ) → starts_with nat_eq text (34 ∷ []) ≡ false → word_at text ≡ Some (name, rest) → IsNamed text name rest
word_split text name rest bare e =
    let word = take_while is_inner text in
    test_by (nat_le 1 (length word)) (or_none (short_text word) (λ said. Some (said, drop (length word) text))) (name, rest) (λ t f.
    none_by (short_text word) _ (name, rest) (λ said a g. within_by 1024 word said (λ same within.
    let both : (said, drop (length word) text) ≡ (name, rest) = same_some _ _ g in
    record {
      front = word;
      whole = front_and_rest is_inner text ∙ ap (λ r. word ++ r) (ap (λ p. p.1) both);
      is = inr (
        record {
          some = leb-true 1 (length word) t;
          few = within.few;
          utf8 = within.utf8;
          unspaced = front_all is_inner inner_is text;
          unquoted = front_unquoted text bare;
        },
        sym (same ∙ ap (λ p. p.0) both),
      );
    }) a) f) e

pub name_split : (text name rest : List ℕ) → name_at text ≡ Some (name, rest) → IsNamed text name rest
name_split text name rest e = by (starts_with nat_eq text (34 ∷ [])) refl e
  where
    by : (t : Bool) → starts_with nat_eq text (34 ∷ []) ≡ t → cond t (quoted_at text) (word_at text) ≡ Some (name, rest) → IsNamed text name rest
    by true is f = let off : IsQuotedOff 1024 text name rest = quoted_split 1024 text name rest f in record { front = off.front; whole = off.whole; is = inl off.is }
    by false is f = word_split text name rest is f

word_starts : (text : List ℕ) → IsWord text → Starts text
word_starts text is = by text is.some is.unspaced
  where
    by : (t : List ℕ) → 1 ≤ length t → AllByRecursion (λ c. ¬ (c ≡ 32)) t → Starts t
    by [] some all = absurd (omega (arith, some))
    by (c ∷ cs) some all = all.0

pub name_starts : (text name : List ℕ) → IsName text name → Starts text
name_starts text name (inl is) = quoted_starts 1024 text name is
name_starts text name (inr is) = word_starts text is.0

pub short_starts : (most : ℕ) (text said : List ℕ) → IsQuoted most text said → Starts text
short_starts most text said is = quoted_starts most text said is
