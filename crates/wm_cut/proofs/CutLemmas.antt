-- Lines and what is behind them, case by case.
use Rattle.std.proofs.Common.{◌≡◌, refl, sym, ◌∙◌, ap, subst, ℕ, zero, suc, ◌+◌, ◌<◌, ◌≤◌, true, false, List, [], ◌∷◌, ◌++◌, length, take, drop, get_or, Option, None, Some, inl, inr, arith, if◌then◌else◌}
use Rattle.std.proofs.Math.Nat.{zero-add}
use Rattle.std.proofs.Math.Seq.{drop-append-add, take-append_seam}
use Rattle.std.proofs.lemmas.Bool.{cases_Bool, eqb-true}
use Rattle.std.proofs.lemmas.List.{append-nil, drop-append-le, length-append}
use Rattle.std.proofs.lemmas.Option.{none-some, same_Some}
use Rattle.std.specs.Option.{is_some, option_map}
use Rattle.memchr.specs.Find.{IsFirstByte, is_byte}
use Rattle.wm_cut.specs.Lines.{begun, behind_line, end_after, end_in, first_line, is_feed, lines_in, rest_in}

-- ---- by the first byte

first_feed : (byte : ℕ) (bytes : List ℕ) → is_feed byte ≡ true → first_line (byte ∷ bytes) ≡ Some []
first_feed byte bytes feed = rw feed refl

first_other : (byte : ℕ) (bytes : List ℕ) → is_feed byte ≡ false → first_line (byte ∷ bytes) ≡ option_map (λ line. byte ∷ line) (first_line bytes)
first_other byte bytes other = rw other refl

behind_feed : (byte : ℕ) (bytes : List ℕ) → is_feed byte ≡ true → behind_line (byte ∷ bytes) ≡ bytes
behind_feed byte bytes feed = rw feed refl

behind_other : (byte : ℕ) (bytes : List ℕ) → is_feed byte ≡ false → behind_line (byte ∷ bytes) ≡ behind_line bytes
behind_other byte bytes other = rw other refl

lines_feed : (byte : ℕ) (bytes : List ℕ) → is_feed byte ≡ true → lines_in (byte ∷ bytes) ≡ [] ∷ lines_in bytes
lines_feed byte bytes feed = rw feed refl

lines_other : (byte : ℕ) (bytes : List ℕ) → is_feed byte ≡ false → lines_in (byte ∷ bytes) ≡ begun byte (lines_in bytes)
lines_other byte bytes other = rw other refl

rest_whole : (byte : ℕ) (bytes line : List ℕ) → first_line (byte ∷ bytes) ≡ Some line → rest_in (byte ∷ bytes) ≡ rest_in bytes
rest_whole byte bytes line first = ap (λ o. if is_some o then rest_in bytes else byte ∷ bytes) first

rest_none : (byte : ℕ) (bytes : List ℕ) → first_line (byte ∷ bytes) ≡ None → rest_in (byte ∷ bytes) ≡ byte ∷ bytes
rest_none byte bytes first = ap (λ o. if is_some o then rest_in bytes else byte ∷ bytes) first

-- ---- the first line in front of others

shorter : (byte : ℕ) (o : Option (List ℕ)) (line : List ℕ) → option_map (λ l. byte ∷ l) o ≡ Some line
    → (l : List ℕ) × (o ≡ Some l) × (byte ∷ l ≡ line)
shorter byte None line is = absurd (none-some line is)
shorter byte (Some l) line is = (l, refl, same_Some (byte ∷ l) line is)

none_shorter : (byte : ℕ) (o : Option (List ℕ)) → option_map (λ l. byte ∷ l) o ≡ None → o ≡ None
none_shorter byte None is = refl
none_shorter byte (Some l) is = absurd (none-some (byte ∷ l) (sym is))

-- bytes whose first line is this, in front of whatever comes later
pub record Fronts (bytes line later : List ℕ) : Type 0 where
  pub lines : lines_in (bytes ++ later) ≡ line ∷ lines_in (behind_line bytes ++ later)
  pub rest : rest_in (bytes ++ later) ≡ rest_in (behind_line bytes ++ later)
  pub first : first_line (bytes ++ later) ≡ Some line
  pub behind : behind_line (bytes ++ later) ≡ behind_line bytes ++ later
  pub whole : bytes ≡ line ++ (10 ∷ behind_line bytes)

fronts_feed : (byte : ℕ) (bytes later : List ℕ) → is_feed byte ≡ true → Fronts (byte ∷ bytes) [] later
fronts_feed byte bytes later feed =
    let behind : bytes ≡ behind_line (byte ∷ bytes) = sym (behind_feed byte bytes feed) in
    record {
      lines = lines_feed byte (bytes ++ later) feed ∙ ap (λ r. [] ∷ lines_in (r ++ later)) behind;
      rest = rest_whole byte (bytes ++ later) [] (first_feed byte (bytes ++ later) feed) ∙ ap (λ r. rest_in (r ++ later)) behind;
      first = first_feed byte (bytes ++ later) feed;
      behind = behind_feed byte (bytes ++ later) feed ∙ ap (λ r. r ++ later) behind;
      whole = ap (λ b. b ∷ bytes) (eqb-true byte 10 feed) ∙ ap (λ r. 10 ∷ r) behind;
    }

fronts_other : (byte : ℕ) (bytes l later : List ℕ) → is_feed byte ≡ false → Fronts bytes l later → Fronts (byte ∷ bytes) (byte ∷ l) later
fronts_other byte bytes l later other below =
    let behind : behind_line bytes ≡ behind_line (byte ∷ bytes) = sym (behind_other byte bytes other) in
    let first : first_line (byte ∷ (bytes ++ later)) ≡ Some (byte ∷ l) = first_other byte (bytes ++ later) other ∙ ap (λ o. option_map (λ x. byte ∷ x) o) below.first in
    record {
      lines = lines_other byte (bytes ++ later) other ∙ (ap (λ ls. begun byte ls) below.lines ∙ ap (λ r. (byte ∷ l) ∷ lines_in (r ++ later)) behind);
      rest = rest_whole byte (bytes ++ later) (byte ∷ l) first ∙ (below.rest ∙ ap (λ r. rest_in (r ++ later)) behind);
      first = first;
      behind = behind_other byte (bytes ++ later) other ∙ (below.behind ∙ ap (λ r. r ++ later) behind);
      whole = ap (λ bs. byte ∷ bs) below.whole ∙ ap (λ r. (byte ∷ l) ++ (10 ∷ r)) behind;
    }

pub fronts : (bytes line later : List ℕ) → first_line bytes ≡ Some line → Fronts bytes line later
fronts [] line later first = absurd (none-some line first)
fronts (byte ∷ bytes) line later first =
    elim (cases_Bool (is_feed byte)) [
      | inl feed ↦ subst (λ l. Fronts (byte ∷ bytes) l later) (same_Some [] line (sym (first_feed byte bytes feed) ∙ first)) (fronts_feed byte bytes later feed)
      | inr other ↦
          let s = shorter byte (first_line bytes) line (sym (first_other byte bytes other) ∙ first) in
          subst (λ l. Fronts (byte ∷ bytes) l later) s.2 (fronts_other byte bytes s.0 later other (fronts bytes s.0 later s.1))
    ]

pub no_line : (bytes : List ℕ) → first_line bytes ≡ None → (lines_in bytes ≡ []) × (rest_in bytes ≡ bytes)
no_line [] first = (refl, refl)
no_line (byte ∷ bytes) first =
    elim (cases_Bool (is_feed byte)) [
      | inl feed ↦ absurd (none-some [] (sym first ∙ first_feed byte bytes feed))
      | inr other ↦
          let none : first_line bytes ≡ None = none_shorter byte (first_line bytes) (sym (first_other byte bytes other) ∙ first) in
          (lines_other byte bytes other ∙ ap (λ ls. begun byte ls) (no_line bytes none).0, rest_none byte bytes first)
    ]

-- ---- bytes that come in two pieces

-- the lines of two pieces are those of the first, and then those of its rest with the second; so is the rest
pub record Joins (bytes more : List ℕ) : Type 0 where
  pub lines : lines_in (bytes ++ more) ≡ lines_in bytes ++ lines_in (rest_in bytes ++ more)
  pub rest : rest_in (bytes ++ more) ≡ rest_in (rest_in bytes ++ more)

joins_none : (bytes more : List ℕ) → first_line bytes ≡ None → Joins bytes more
joins_none bytes more first =
    let none = no_line bytes first in
    record {
      lines = ap (λ r. lines_in (r ++ more)) (sym none.1) ∙ ap (λ ls. ls ++ lines_in (rest_in bytes ++ more)) (sym none.0);
      rest = ap (λ r. rest_in (r ++ more)) (sym none.1);
    }

joins_feed : (byte : ℕ) (bytes more : List ℕ) → is_feed byte ≡ true → Joins bytes more → Joins (byte ∷ bytes) more
joins_feed byte bytes more feed below =
    let rest : rest_in bytes ≡ rest_in (byte ∷ bytes) = sym (rest_whole byte bytes [] (first_feed byte bytes feed)) in
    record {
      lines = lines_feed byte (bytes ++ more) feed ∙ (ap (λ ls. [] ∷ ls) below.lines
          ∙ (ap (λ ls. ls ++ lines_in (rest_in bytes ++ more)) (sym (lines_feed byte bytes feed)) ∙ ap (λ r. lines_in (byte ∷ bytes) ++ lines_in (r ++ more)) rest));
      rest = rest_whole byte (bytes ++ more) [] (first_feed byte (bytes ++ more) feed) ∙ (below.rest ∙ ap (λ r. rest_in (r ++ more)) rest);
    }

begun_append : (byte : ℕ) (lines line : List (List ℕ)) (first : List ℕ) (others : List (List ℕ)) → lines ≡ first ∷ others
    → begun byte (lines ++ line) ≡ begun byte lines ++ line
begun_append byte lines line first others is = rw is refl

-- the first line, and what is behind it, where nothing comes later
pub lines_first : (bytes line : List ℕ) → first_line bytes ≡ Some line → lines_in bytes ≡ line ∷ lines_in (behind_line bytes)
lines_first bytes line first =
    ap (λ bs. lines_in bs) (sym (append-nil bytes))
    ∙ ((fronts bytes line [] first).lines ∙ ap (λ bs. line ∷ lines_in bs) (append-nil (behind_line bytes)))

pub rest_first : (bytes line : List ℕ) → first_line bytes ≡ Some line → rest_in bytes ≡ rest_in (behind_line bytes)
rest_first bytes line first =
    ap (λ bs. rest_in bs) (sym (append-nil bytes)) ∙ ((fronts bytes line [] first).rest ∙ ap (λ bs. rest_in bs) (append-nil (behind_line bytes)))

pub behind_shorter : (bytes line : List ℕ) → first_line bytes ≡ Some line → length (behind_line bytes) < length bytes
behind_shorter bytes line first =
    omega (arith, ap (λ bs. length bs) (fronts bytes line [] first).whole, length-append line (10 ∷ behind_line bytes))

joins_other : (byte : ℕ) (bytes more : List ℕ) → is_feed byte ≡ false → Joins bytes more → (o : Option (List ℕ)) → first_line bytes ≡ o → Joins (byte ∷ bytes) more
joins_other byte bytes more other below None first = joins_none (byte ∷ bytes) more (first_other byte bytes other ∙ ap (λ o. option_map (λ l. byte ∷ l) o) first)
joins_other byte bytes more other below (Some l) first =
    let longer : first_line (byte ∷ bytes) ≡ Some (byte ∷ l) = first_other byte bytes other ∙ ap (λ o. option_map (λ x. byte ∷ x) o) first in
    let rest : rest_in bytes ≡ rest_in (byte ∷ bytes) = sym (rest_whole byte bytes (byte ∷ l) longer) in
    record {
      lines = lines_other byte (bytes ++ more) other ∙ (ap (λ ls. begun byte ls) below.lines
          ∙ (begun_append byte (lines_in bytes) (lines_in (rest_in bytes ++ more)) l (lines_in (behind_line bytes)) (lines_first bytes l first)
          ∙ (ap (λ ls. ls ++ lines_in (rest_in bytes ++ more)) (sym (lines_other byte bytes other)) ∙ ap (λ r. lines_in (byte ∷ bytes) ++ lines_in (r ++ more)) rest)));
      rest = rest_whole byte (bytes ++ more) (byte ∷ l) (fronts (byte ∷ bytes) (byte ∷ l) more longer).first ∙ (below.rest ∙ ap (λ r. rest_in (r ++ more)) rest);
    }

pub joins : (bytes more : List ℕ) → Joins bytes more
joins [] more = record { lines = refl; rest = refl }
joins (byte ∷ bytes) more =
    elim (cases_Bool (is_feed byte)) [
      | inl feed ↦ joins_feed byte bytes more feed (joins bytes more)
      | inr other ↦ joins_other byte bytes more other (joins bytes more) (first_line bytes) refl
    ]

-- ---- how many bytes the first line has

counted : (o : Option (List ℕ)) (k : ℕ) → option_map length o ≡ Some k → (line : List ℕ) × (o ≡ Some line) × (length line ≡ k)
counted None k is = absurd (none-some k is)
counted (Some line) k is = (line, refl, same_Some (length line) k is)

uncounted : (o : Option (List ℕ)) → option_map length o ≡ None → o ≡ None
uncounted None is = refl
uncounted (Some line) is = absurd (none-some (length line) (sym is))

record Cuts (bytes : List ℕ) (k : ℕ) : Type 0 where
  within : k < length bytes
  line : first_line bytes ≡ Some (take k bytes)
  behind : behind_line bytes ≡ drop (k + 1) bytes

cuts_line : (bytes line : List ℕ) → first_line bytes ≡ Some line → Cuts bytes (length line)
cuts_line bytes line first =
    let whole : bytes ≡ line ++ (10 ∷ behind_line bytes) = (fronts bytes line [] first).whole in
    record {
      within = omega (arith, ap length whole, length-append line (10 ∷ behind_line bytes));
      line = first ∙ ap (λ l. Some l) (sym (ap (λ bs. take (length line) bs) whole ∙ take-append_seam line (10 ∷ behind_line bytes)));
      behind = sym (ap (λ bs. drop (length line + 1) bs) whole ∙ drop-append-add line (10 ∷ behind_line bytes) 1);
    }

cuts : (bytes : List ℕ) (k : ℕ) → end_in bytes ≡ Some k → Cuts bytes k
cuts bytes k end =
    let s = counted (first_line bytes) k end in
    subst (λ n. Cuts bytes n) s.2 (cuts_line bytes s.0 s.1)

pub end_within : (bytes : List ℕ) (k : ℕ) → end_in bytes ≡ Some k → k < length bytes
end_within bytes k end = (cuts bytes k end).within

pub line_of_end : (bytes : List ℕ) (k : ℕ) → end_in bytes ≡ Some k → Some (take k bytes) ≡ first_line bytes
line_of_end bytes k end = sym (cuts bytes k end).line

pub no_end : (bytes : List ℕ) → end_in bytes ≡ None → None ≡ first_line bytes
no_end bytes end = sym (uncounted (first_line bytes) end)

pub behind_end : (bytes : List ℕ) (k : ℕ) → end_in bytes ≡ Some k → behind_line bytes ≡ drop (k + 1) bytes
behind_end bytes k end = (cuts bytes k end).behind

behind_none : (bytes : List ℕ) → first_line bytes ≡ None → behind_line bytes ≡ []
behind_none [] first = refl
behind_none (byte ∷ bytes) first =
    elim (cases_Bool (is_feed byte)) [
      | inl feed ↦ absurd (none-some [] (sym first ∙ first_feed byte bytes feed))
      | inr other ↦ behind_other byte bytes other ∙ behind_none bytes (none_shorter byte (first_line bytes) (sym (first_other byte bytes other) ∙ first))
    ]

pub behind_no_end : (bytes : List ℕ) → end_in bytes ≡ None → behind_line bytes ≡ drop (length bytes) bytes
behind_no_end bytes end = behind_none bytes (uncounted (first_line bytes) end) ∙ sym (drop_all bytes)
  where
    drop_all : (bs : List ℕ) → drop (length bs) bs ≡ []
    drop_all [] = refl
    drop_all (b ∷ bs) = drop_all bs

-- ---- the end that a search finds

longer : (byte : ℕ) (o : Option (List ℕ)) → option_map length (option_map (λ l. byte ∷ l) o) ≡ option_map suc (option_map length o)
longer byte None = refl
longer byte (Some l) = refl

end_other : (byte : ℕ) (bytes : List ℕ) → is_feed byte ≡ false → end_in (byte ∷ bytes) ≡ option_map suc (end_in bytes)
end_other byte bytes other = ap (λ o. option_map length o) (first_other byte bytes other) ∙ longer byte (first_line bytes)

end_feed : (byte : ℕ) (bytes : List ℕ) → is_feed byte ≡ true → end_in (byte ∷ bytes) ≡ Some 0
end_feed byte bytes feed = ap (λ o. option_map length o) (first_feed byte bytes feed)

nowhere : (bytes : List ℕ) → ((k : ℕ) → k < length bytes → ¬ (is_feed (get_or bytes k 0) ≡ true)) → end_in bytes ≡ None
nowhere [] nothing = refl
nowhere (byte ∷ bytes) nothing =
    elim (cases_Bool (is_feed byte)) [
      | inl feed ↦ absurd (nothing 0 (omega arith) feed)
      | inr other ↦ end_other byte bytes other ∙ ap (λ o. option_map suc o) (nowhere bytes (λ k less. nothing (suc k) (omega (arith, less))))
    ]

found : (bytes : List ℕ) (k : ℕ) → k < length bytes → ((j : ℕ) → j < k → ¬ (is_feed (get_or bytes j 0) ≡ true)) → is_feed (get_or bytes k 0) ≡ true
    → end_in bytes ≡ Some k
found [] k less before here = absurd (omega (arith, less))
found (byte ∷ bytes) zero less before here = end_feed byte bytes here
found (byte ∷ bytes) (suc k) less before here =
    elim (cases_Bool (is_feed byte)) [
      | inl feed ↦ absurd (before 0 (omega arith) feed)
      | inr other ↦ end_other byte bytes other ∙ ap (λ o. option_map suc o) (found bytes k (omega (arith, less)) (λ j under. before (suc j) (omega (arith, under))) here)
    ]

pub end_found : (bytes : List ℕ) (r : Option ℕ) → IsFirstByte (is_byte 10) bytes r → r ≡ end_in bytes
end_found bytes None nothing = sym (nowhere bytes (λ k less. nothing k (omega arith) less))
end_found bytes (Some k) there = sym (found bytes k there.0.high (λ j under. there.0.before j (omega arith) under) there.1)

-- ---- bytes that come behind others

no_further : (o : Option ℕ) → o ≡ option_map (λ end. 0 + end) o
no_further None = refl
no_further (Some end) = ap (λ n. Some n) (sym (zero-add end))

further : (n : ℕ) (o : Option ℕ) → option_map suc (option_map (λ end. n + end) o) ≡ option_map (λ end. suc n + end) o
further n None = refl
further n (Some end) = let e : suc (n + end) ≡ suc n + end = omega arith in ap (λ m. Some m) e

later_end : (o : Option ℕ) (n : ℕ) (bytes : List ℕ) → option_map suc (end_after o n bytes) ≡ end_after (option_map suc o) (suc n) bytes
later_end None n bytes = further n (end_in bytes)
later_end (Some end) n bytes = refl

end_append : (bytes more : List ℕ) → end_in (bytes ++ more) ≡ end_after (end_in bytes) (length bytes) more
end_append [] more = no_further (end_in more)
end_append (byte ∷ bytes) more =
    elim (cases_Bool (is_feed byte)) [
      | inl feed ↦ end_feed byte (bytes ++ more) feed ∙ ap (λ o. end_after o (length (byte ∷ bytes)) more) (sym (end_feed byte bytes feed))
      | inr other ↦ end_other byte (bytes ++ more) other
          ∙ (ap (λ o. option_map suc o) (end_append bytes more)
          ∙ (later_end (end_in bytes) (length bytes) more ∙ ap (λ o. end_after o (length (byte ∷ bytes)) more) (sym (end_other byte bytes other))))
    ]

pub end_grows : (items more : List ℕ) (at before : ℕ) (end new : Option ℕ) → at ≤ length items → end ≡ end_in (drop at items)
    → before ≡ length (drop at items) → new ≡ end_after end before more → new ≡ end_in (drop at (items ++ more))
end_grows items more at before end new within was count is =
    is ∙ (ap (λ o. end_after o before more) was ∙ (ap (λ n. end_after (end_in (drop at items)) n more) count
    ∙ (sym (end_append (drop at items) more) ∙ ap (λ bs. end_in bs) (sym (drop-append-le at items more within)))))
