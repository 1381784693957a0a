-- What the matches of the command of the two options give.
use Rattle.std.proofs.Common.{◌≡◌, ◌∙◌, ◌<◌, ◌⊎◌, ℕ, zero, suc, Bool, true, false, List, [], ◌∷◌, length, map, Some, None, ap, ap₂, codes, inl, inr, refl, sym, subst, arith, slice_index}
use Rattle.std.specs.List.{All, slice_index_or}
use Rattle.std.specs.Str.{bytes_eq}
use Rattle.std.specs.Prelude.{pos}
use Rattle.std.proofs.lemmas.Slice.Eq.{bytes_eq-Decides}
use Rattle.clap.proofs.OnLiterals.{clap_on_literals}
use Rattle.clap.proofs.SimpleLemmas.{is_false, is_nil}
use Rattle.clap.proofs.WalkLemmas.{both, one_text-rows}
use Rattle.clap.specs.Built.{IsParsedFrom, NamesNoGroup}
use Rattle.clap.specs.Facts.{args_of, groups_of}
use Rattle.clap.specs.Faults.{fault_of, is_simple_and_free}
use Rattle.clap.specs.Kinds.{IsAmong, Kinds}
use Rattle.clap.specs.Matches.{found_of, one_text}
use Rattle.clap.specs.Simple.{App, app_of, has_plain_fields, is_simple, matches_of}
use Rattle.clap.specs.Takes.{takes}
use Rattle.clap.specs.Values.{Accepts, read_as, reading_of}
use Rattle.clap.specs.Walk.{Row, Rule, Text, is_simple_arg, one_of, rows_of, rule_of}
use Rattle.clap.specs.declared.builder.arg.Arg.{Arg}
use Rattle.clap.specs.declared.builder.command.Command.{Command}
use Rattle.clap.specs.declared.builder.command.Command.TheViews.{out-Command}
use Rattle.clap.specs.declared.builder.value_parser.ValueParser.{ValueParser}
use Rattle.clap.specs.declared.builder.value_parser.ValueParser.TheVariants as parser
use Rattle.clap.specs.declared.error.kind.ErrorKind.{ErrorKind}
use Rattle.clap.specs.declared.error.kind.ErrorKind.TheVariants.{OutOfMemory}
use Rattle.clap.specs.declared.parser.matches.ArgMatches.{ArgMatches}
use Rattle.wm_options.proofs.ReadLemmas.{optional_read, signed_text, two_args, unsigned_text}
use Rattle.wm_options.specs.Options.{AreSpelled, Spells, command, hold, options_in, options_of, rehearse, unless}
use Rattle.wm_options.specs.declared.words.Options.{Options}

-- ---- the command

pub simple : is_simple command ≡ true
unfolding clap_on_literals
simple = refl

pub simple_and_free : is_simple_and_free command ≡ true
unfolding clap_on_literals
simple_and_free = refl

-- without words
pub no_words : options_of [] ≡ Some (record { hold_ms = 200; rehearse = None })
unfolding clap_on_literals
no_words = refl

-- ---- the two arguments

groupless : (a : Arg) → is_simple_arg a ≡ true → a.groups.items ≡ []
groupless a e = is_nil _ (both _ _ (both _ _ (both _ _ e).1).1).0

each_of_two : (P : Arg → Type 0) (xs : List Arg) → length xs ≡ 2 → ((d : Arg) → P (slice_index_or xs 0 d)) → ((d : Arg) → P (slice_index_or xs 1 d)) → All P xs
each_of_two P xs two here there zero d lt = here d
each_of_two P xs two here there (suc zero) d lt = there d
each_of_two P xs two here there (suc (suc k)) d lt = absurd (omega arith)

an_arg : (xs : List Arg) → length xs ≡ 2 → Arg
an_arg [] e = absurd (omega arith)
an_arg (x ∷ xs) e = x

-- no two of the two arguments have one name
apart : (xs : List Arg) (k : ℕ) (d : Arg) → length xs ≡ 2 → k < 2 → ((e : Arg) → (slice_index_or xs 0 e).id.now ≡ codes "hold") → ((e : Arg) → (slice_index_or xs 1 e).id.now ≡ codes "rehearse")
    → (j : ℕ) (e : Arg) → j < length xs → bytes_eq (slice_index_or xs j e).id.now (slice_index_or xs k d).id.now ≡ true → j ≡ k
apart xs zero d two lt here there zero e under same = refl
apart xs zero d two lt here there (suc zero) e under same =
    let one : codes "rehearse" ≡ codes "hold" = sym (there e) ∙ ((bytes_eq-Decides _ _).0 same ∙ here d) in
    absurd (let bad : 114 ≡ 104 = ap (λ (t : Text). slice_index t 0) one in omega arith)
apart xs zero d two lt here there (suc (suc j)) e under same = absurd (omega arith)
apart xs (suc zero) d two lt here there zero e under same =
    let one : codes "hold" ≡ codes "rehearse" = sym (here e) ∙ ((bytes_eq-Decides _ _).0 same ∙ there d) in
    absurd (let bad : 104 ≡ 114 = ap (λ (t : Text). slice_index t 0) one in omega arith)
apart xs (suc zero) d two lt here there (suc zero) e under same = refl
apart xs (suc zero) d two lt here there (suc (suc j)) e under same = absurd (omega arith)
apart xs (suc (suc k)) d two lt here there j e under same = absurd (omega arith)

-- ---- what is read of them

module _ (old : Command) (m : ArgMatches) (app : app_of old ≡ command) (p : IsParsedFrom old m) where
  rules : map rule_of (args_of old) ≡ hold ∷ rehearse ∷ []
  rules = ap (λ (a : App). a.top.rules) app

  two : length (args_of old) ≡ 2
  two = (two_args (args_of old) hold rehearse rules).0

  at_hold : (d : Arg) → rule_of (slice_index_or (args_of old) 0 d) ≡ hold
  at_hold = (two_args (args_of old) hold rehearse rules).1

  at_rehearse : (d : Arg) → rule_of (slice_index_or (args_of old) 1 d) ≡ rehearse
  at_rehearse = (two_args (args_of old) hold rehearse rules).2

  plain : has_plain_fields (out-Command old) ≡ true
  plain = ap (λ (a : App). a.top.is_plain) app

  globals : (out-Command old).has_globals ≡ false
  globals = is_false _ (both _ _ (both _ _ (both _ _ plain).1).1).0

  no_groups : groups_of p.built ≡ []
  no_groups =
      let none : NamesNoGroup old = each_of_two (λ (a : Arg). a.groups.items ≡ []) (args_of old) two
      (λ d. groupless (slice_index_or (args_of old) 0 d) (ap (λ (r : Rule). r.is_simple) (at_hold d)))
      (λ d. groupless (slice_index_or (args_of old) 1 d) (ap (λ (r : Rule). r.is_simple) (at_rehearse d))) in
      (p.from.same_groups none).1 ∙ is_nil _ (both _ _ plain).0

  read_at : (k : ℕ) (d : Arg) (name : Text) (q : ValueParser) → k < 2 → (slice_index_or (args_of old) k d).id.now ≡ name → (slice_index_or (args_of old) k d).value_parser ≡ Some q
      → (name ≡ [] → ⊥) → (name ≡ codes "help" → ⊥) → (name ≡ codes "version" → ⊥)
      → (t : Text) → one_of name (rows_of (found_of m)) ≡ Some t
      → (v : Text) × (t ≡ read_as (reading_of q) v) × Accepts (slice_index_or (args_of old) k d).ignore_case q v
  read_at k d name q lt id q_is named no_help no_version t text =
      let under : k < length (args_of old) = omega (arith, two) in
      optional_read old m p globals no_groups k d under
      (apart (args_of old) k d two lt (λ e. ap (λ (r : Rule). r.id) (at_hold e)) (λ e. ap (λ (r : Rule). r.id) (at_rehearse e)))
      (λ e. named (sym id ∙ e))
      (λ auto. elim auto [ inl h ↦ no_help (sym id ∙ h) | inr h ↦ no_version (sym id ∙ h) ])
      q q_is t (ap (one_text (found_of m)) id ∙ (one_text-rows (found_of m) name ∙ text))

  -- what the two options are given are numbers in their ranges
  pub are_spelled : AreSpelled (rows_of (found_of m))
  are_spelled =
      let d = an_arg (args_of old) two in (
        λ t text.
            let read = read_at 0 d (codes "hold") (parser.Unsigned 1 10000) (omega arith) (ap (λ (r : Rule). r.id) (at_hold d)) (ap (λ (r : Rule). r.parser) (at_hold d))
            (λ e. let bad : 104 ≡ 0 = ap (λ (u : Text). slice_index u 0) e in absurd (omega arith))
            (λ e. let bad : 111 ≡ 101 = ap (λ (u : Text). slice_index u 1) e in absurd (omega arith))
            (λ e. let bad : 104 ≡ 118 = ap (λ (u : Text). slice_index u 0) e in absurd (omega arith)) t text in
            subst (Spells 1 10000) (sym read.1) (unsigned_text 1 10000 read.0 read.2),
        λ t text.
            let read = read_at 1 d (codes "rehearse") (parser.Signed (pos 1) (pos 8)) (omega arith) (ap (λ (r : Rule). r.id) (at_rehearse d)) (ap (λ (r : Rule). r.parser) (at_rehearse d))
            (λ e. let bad : 114 ≡ 0 = ap (λ (u : Text). slice_index u 0) e in absurd (omega arith))
            (λ e. let bad : 114 ≡ 104 = ap (λ (u : Text). slice_index u 0) e in absurd (omega arith))
            (λ e. let bad : 114 ≡ 118 = ap (λ (u : Text). slice_index u 0) e in absurd (omega arith)) t text in
            subst (Spells 1 8) (sym read.1) (signed_text 1 8 read.0 (omega arith) read.2),
      )

-- ---- what the words ask for

pub given : (a : App) (words : List Text) (rows : List Row) (o : Options) → a ≡ command → fault_of a words ≡ [] → rows ≡ matches_of a words → o ≡ options_in rows → Some o ≡ options_of words
given a words rows o is free there made =
    sym (ap₂ unless (ap (λ b. fault_of b words) (sym is) ∙ free) (sym (made ∙ ap options_in (there ∙ ap (λ b. matches_of b words) is))))

at_fault : (kinds : Kinds) (k : ErrorKind) (o : Options) → IsAmong k kinds → None ≡ unless kinds o
at_fault [] k o among = absurd among
at_fault (x ∷ xs) k o among = refl

not_true : (b : Bool) → (b ≡ true → ⊥) → b ≡ false
not_true true never = absurd (never refl)
not_true false never = refl

-- an error that is not want of memory
pub not_taken : (a : App) (words : List Text) (k : ErrorKind) → a ≡ command → (takes a words ≡ true → k ≡ OutOfMemory) → (k ≡ OutOfMemory → ⊥) → takes command words ≡ false
not_taken a words k is passes other = not_true _ (λ taken. other (passes (ap (λ b. takes b words) is ∙ taken)))

pub not_asked : (a : App) (words : List Text) (k : ErrorKind) → a ≡ command → (k ≡ OutOfMemory) ⊎ IsAmong k (fault_of a words) → (k ≡ OutOfMemory → ⊥) → None ≡ options_of words
not_asked a words k is (inl memory) other = absurd (other memory)
not_asked a words k is (inr among) other = at_fault _ k _ (subst (λ b. IsAmong k (fault_of b words)) is among)
