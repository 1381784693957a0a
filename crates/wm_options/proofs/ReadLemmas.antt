-- What the matches of the two options hold: a text that is read passed the parser of its option.
use Rattle.std.proofs.Common.{◌≡◌, ◌∙◌, ◌<◌, ◌≤◌, ◌==◌, ℕ, Bool, true, false, cond, List, [], ◌∷◌, length, map, drop, Option, Some, None, Ok, Err, Result, ap, inl, inr, refl, sym, subst, arith}
use Rattle.std.specs.List.{All, slice_index_or}
use Rattle.std.specs.Str.{bytes_eq}
use Rattle.std.specs.Prelude.{option_map, slice_get, unwrap_or, pos, ◌^◌, IfSome}
use Rattle.std.specs.Borrow.{Bor}
use Rattle.std.specs.Str.Parse.{ParsesUnsigned, IsNumeral, starts_with_minus, without_leading_plus}
use Rattle.std.proofs.lemmas.Int.{ints}
use Rattle.std.proofs.lemmas.List.Elements.{All-get_or}
use Rattle.std.proofs.lemmas.Slice.Eq.{bytes_eq-Decides}
use Rattle.clap.specs.Lexer.{without_minus}
use Rattle.clap.specs.Facts.{Entry, EntryPasses, HasReading, PassesArg, args_of, groups_of, parser_of, parser_of_value}
use Rattle.clap.specs.Built.{IsAuto, IsParsedFrom, SameRules}
use Rattle.clap.specs.Matches.{ReadsOne, found_of, matched_of, one_text}
use Rattle.clap.specs.Values.{Accepts, IsSignedIn, IsUnsignedIn, read_as, reading_of}
use Rattle.clap.specs.Walk.{Rule, Text, rows_of, rule_of}
use Rattle.clap.proofs.CallerLemmas.{entry_by_id, same_rules_by_id}
use Rattle.clap.proofs.WalkLemmas.{one_text-rows}
use Rattle.wm_options.specs.Options.{IsSpelled, Spells, number_of, spelled}
use Rattle.clap.specs.declared.parser.matches.Found.{Found}
use Rattle.clap.specs.declared.builder.arg.Arg.{Arg}
use Rattle.clap.specs.declared.builder.command.Command.{Command}
use Rattle.clap.specs.declared.builder.command.Command.TheViews.{out-Command}
use Rattle.clap.specs.declared.builder.value_parser.Reading.{Reading}
use Rattle.clap.specs.declared.builder.value_parser.ValueParser.{ValueParser}
use Rattle.clap.specs.declared.parser.matches.ArgMatches.{ArgMatches}
use Rattle.clap.specs.declared.parser.matches.MatchedArg.{MatchedArg}

none_some : {A : Type 0} (x : A) → None ≡ Some x → ⊥
none_some x e = cc

some_some : {A : Type 0} (x y : A) → Some x ≡ Some y → y ≡ x
some_some x y e = cc

head_read : (P : Text → Type 0) (how : Reading) (t : Text) (vs : List (Bor Text)) → All (λ v. P v.now) vs → option_map (λ s. read_as how s.now) (slice_get vs 0) ≡ Some t
    → (v : Text) × (t ≡ read_as how v) × P v
head_read P how t [] h e = absurd (none_some t e)
head_read P how t (v ∷ vs) h e = (v.now, some_some _ _ e, All-get_or (λ (w : Bor Text). P w.now) (v ∷ vs) 0 v (omega arith) h)

-- what the entry of an argument gives, where it has a first value
first_read : (c : Command) (id : Text) (e : Entry) (t : Text) → groups_of c ≡ [] → (id ≡ [] → ⊥) → e.0.now ≡ id → EntryPasses c e
    → option_map (λ s. read_as e.1.reading s.now) (slice_get e.1.vals.items 0) ≡ Some t
    → (v : Text) × (t ≡ read_as e.1.reading v) × PassesArg c id v × HasReading c id e.1.reading
first_read c id e t no_groups named key pass text =
    let no_group : e.1.is_group ≡ true → ⊥ = λ g. elim (pass.3 g) [
      | inl empty ↦ named (sym key ∙ empty)
      | inr lots ↦
          let bad : 0 < 0 = rw no_groups at lots in
          absurd (omega arith)
    ] in
    let all : All (λ v. PassesArg c id v.now) e.1.vals.items = elim pass.0 [
      | inl g ↦ absurd (no_group g)
      | inr vals ↦ subst (λ (w : Text). All (λ v. PassesArg c w v.now) e.1.vals.items) key vals
    ] in
    let reads : HasReading c id e.1.reading = elim pass.4 [
      | inl g ↦ absurd (no_group g)
      | inr h ↦ subst (λ (w : Text). HasReading c w e.1.reading) key h
    ] in
    let first = head_read (λ v. PassesArg c id v) e.1.reading t e.1.vals.items all text in
    (first.0, first.1, first.2, reads)

-- a text that is read of an argument of the caller's passed that argument's parser
pub optional_read : (old : Command) (m : ArgMatches) (p : IsParsedFrom old m) → (out-Command old).has_globals ≡ false → groups_of p.built ≡ []
    → (k : ℕ) (d : Arg) → k < length (args_of old)
    → ((j : ℕ) (e : Arg) → j < length (args_of old) → bytes_eq (slice_index_or (args_of old) j e).id.now (slice_index_or (args_of old) k d).id.now ≡ true → j ≡ k)
    → ((slice_index_or (args_of old) k d).id.now ≡ [] → ⊥) → (IsAuto (slice_index_or (args_of old) k d) → ⊥)
    → (q : ValueParser) → (slice_index_or (args_of old) k d).value_parser ≡ Some q
    → (t : Text) → one_text (found_of m) (slice_index_or (args_of old) k d).id.now ≡ Some t
    → (v : Text) × (t ≡ read_as (reading_of q) v) × Accepts (slice_index_or (args_of old) k d).ignore_case q v
optional_read old m p globals no_groups k d lt unique named own q parser t text = go (matched_of (found_of m) (slice_index_or (args_of old) k d).id.now) refl
  where
    accepts_of : (a y : Arg) (v : Text) → SameRules a y → a.value_parser ≡ Some q → Accepts y.ignore_case (parser_of y) v → Accepts a.ignore_case q v
    accepts_of a y v s is read =
        let as_q : Accepts y.ignore_case q v = subst (λ (w : ValueParser). Accepts y.ignore_case w v) (ap parser_of_value (s.parser q is)) read in
        subst (λ (b : Bool). Accepts b q v) s.ignore_case as_q

    finish : (e : Entry) → ((v : Text) × (t ≡ read_as e.1.reading v) × PassesArg p.built (slice_index_or (args_of old) k d).id.now v × HasReading p.built (slice_index_or (args_of old) k d).id.now e.1.reading)
        → (v : Text) × (t ≡ read_as (reading_of q) v) × Accepts (slice_index_or (args_of old) k d).ignore_case q v
    finish e read =
        let pass = read.2 in
        let same = same_rules_by_id old m p k d lt unique own pass.0 pass.1 pass.2 pass.3 pass.4.0 in
        let how = read.3 in
        let read_same = same_rules_by_id old m p k d lt unique own how.0 how.1 how.2 how.3 how.4.0 in
        let is : e.1.reading ≡ reading_of q = sym how.4.1 ∙ ap reading_of (ap parser_of_value (read_same.parser q parser)) in
        (read.0, read.1 ∙ ap (λ (r : Reading). read_as r read.0) is, accepts_of _ pass.1 read.0 same parser pass.4.1)

    go : (o : Option MatchedArg) → matched_of (found_of m) (slice_index_or (args_of old) k d).id.now ≡ o
        → (v : Text) × (t ≡ read_as (reading_of q) v) × Accepts (slice_index_or (args_of old) k d).ignore_case q v
    go None e = absurd (none_some t (rw e at text))
    go (Some x) e =
        let parsed = p.parsed (p.from.globals ∙ globals) in
        let got = entry_by_id (EntryPasses p.built) (found_of m).entries.items (slice_index_or (args_of old) k d).id.now x parsed.values e in
        let text_x : option_map (λ s. read_as x.reading s.now) (slice_get x.vals.items 0) ≡ Some t = rw e at text in
        let text_e = subst (λ (y : MatchedArg). option_map (λ s. read_as y.reading s.now) (slice_get y.vals.items 0) ≡ Some t) (sym got.1) text_x in
        finish got.0 (first_read p.built _ got.0 t no_groups named ((bytes_eq-Decides _ _).0 got.2) got.3 text_e)

-- two arguments, by their rules
pub two_args : (xs : List Arg) (r s : Rule) → map rule_of xs ≡ r ∷ s ∷ [] → (length xs ≡ 2) × ((d : Arg) → rule_of (slice_index_or xs 0 d) ≡ r) × ((d : Arg) → rule_of (slice_index_or xs 1 d) ≡ s)
two_args [] r s e = cc
two_args (x ∷ []) r s e = cc
two_args (x ∷ y ∷ []) r s e = (refl, λ d. ap (λ (l : List Rule). slice_index_or l 0 r) e, λ d. ap (λ (l : List Rule). slice_index_or l 1 r) e)
two_args (x ∷ y ∷ z ∷ zs) r s e = absurd (let bad = ap length e in omega arith)

without_minus-cond : (t : Text) → without_minus t ≡ cond (starts_with_minus t) (drop 1 t) t
without_minus-cond [] = refl
without_minus-cond (x ∷ xs) = go (x == 45)
  where
    go : (b : Bool) → unwrap_or (cond b (Some xs) None) (x ∷ xs) ≡ cond b xs (x ∷ xs)
    go true = refl
    go false = refl

-- a text that a range of positive numbers takes has no minus
pub signed_text : (low high : ℕ) (t : Text) → 1 ≤ low → IsSignedIn (pos low) (pos high) t
    → Spells low high (without_minus t)
signed_text low high t positive passed = go (starts_with_minus t) refl
  where
    go : (b : Bool) → starts_with_minus t ≡ b → Spells low high (without_minus t)
    go true minus =
        let low_ok = rw minus at passed.2 in
        absurd (omega (arith, ints))
    go false minus =
        let same : without_minus t ≡ t = without_minus-cond t ∙ ap (λ b. cond b (drop 1 t) t) minus in
        let numeral : IsNumeral 10 (without_leading_plus t) = rw minus at passed.0 in
        let low_ok = rw minus at passed.2 in
        let high_ok = rw minus at passed.3 in
        rw same (numeral, omega (arith, ints), omega (arith, ints))

-- a text without a sign of its own
pub unsigned_text : (low high : ℕ) (t : Text) → IsUnsignedIn low high t → Spells low high t
unsigned_text low high t passed = (passed.0, passed.2, passed.3)

-- the number that is read of an argument
pub number_read : (E : Type 0) (G : Text → Result ℕ E → Type 0) (k low high : ℕ) (f : Found) (id : Text) (r : Option ℕ)
    → (one_text f id ≡ None → r ≡ None) → ((t : Text) → one_text f id ≡ Some t → ReadsOne G t r)
    → ((u : Text) (x : Result ℕ E) → G u x → ParsesUnsigned k 10 u x) → high < 2 ^ k → IsSpelled low high id (rows_of f)
    → (r ≡ number_of id (rows_of f)) × IfSome r (λ n. (low ≤ n) × (n ≤ high))
number_read E G k low high f id r none value only fits spells = go (one_text f id) refl
  where
    some : (t : Text) → one_text f id ≡ Some t → (o : Option ℕ) → ReadsOne G t o → (o ≡ number_of id (rows_of f)) × IfSome o (λ n. (low ≤ n) × (n ≤ high))
    some t e (Some v) h =
        let parsed = only t (Ok v) h in
        let here = sym (one_text-rows f id) ∙ e in
        let spelled_here = spells t here in
        (ap Some parsed.1 ∙ sym (ap (option_map spelled) here), (omega (arith, parsed.1), omega (arith, parsed.1)))
    some t e None h =
        let spelled_here = spells t (sym (one_text-rows f id) ∙ e) in
        absurd (only t (Err h.0) h.1 (spelled_here.0, omega arith))

    go : (o : Option Text) → one_text f id ≡ o → (r ≡ number_of id (rows_of f)) × IfSome r (λ n. (low ≤ n) × (n ≤ high))
    go None e =
        let nothing = none e in
        rw nothing (sym (ap (option_map spelled) (sym (one_text-rows f id) ∙ e)), tt)
    go (Some t) e = some t e r (value t e)
