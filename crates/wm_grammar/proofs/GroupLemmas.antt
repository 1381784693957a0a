-- Groups and batches: what reads is what the text spells, and the other way round.
use Rattle.std.proofs.Common.{◌≡◌, ℕ, zero, suc, ◌<◌, ◌≤◌, ◌⊎◌, Bool, true, false, List, [], ◌∷◌, ◌++◌, length, drop, Option, Some, None, refl, sym, ap, subst, ◌∙◌, append_assoc, arith, inl, inr}
use Rattle.std.specs.Prelude.{◌==◌, option_map}
use Rattle.std.proofs.lemmas.Bool.{eqb-true, eqb-false, false≢true, true≢false}
use Rattle.std.proofs.lemmas.List.{length-append, append-nil}
use Rattle.wm_language.specs.declared.command.Command.{Command}
use Rattle.wm_language.specs.declared.batch.Criteria.{Criteria}
use Rattle.wm_language.specs.declared.batch.Group.{Group}
use Rattle.wm_language.specs.declared.batch.Batch.{Batch}
use Rattle.wm_words.specs.Pieces.{◌>>=◌, is_nil, is_end, starts, until, skip, is_word}
use Rattle.wm_words.specs.Forms.{verb_of}
use Rattle.wm_words.proofs.Cuts.{AllSome, if_some}
use Rattle.wm_grammar.specs.Openings.{command_at}
use Rattle.wm_grammar.specs.Reading.{Commands, before_commands, and_commands, commands_at, criteria_part, group_of, group_at, and_groups, some_groups, groups_at, groups_of, batch_of, Reads}
use Rattle.wm_language.specs.Spelling.{spelling}
use Rattle.wm_grammar.specs.Readable.{IsReadable}
use Rattle.wm_grammar.proofs.BatchesAgain.{batch_again}
use Rattle.wm_grammar.proofs.Fits.{readable}
use Rattle.wm_grammar.proofs.CutCommands.{bind_some, map_some, each_some, some_at}
use Rattle.wm_language.specs.Bytes.{IsBlank, IsSeparator, Each, MayFollow}
use Rattle.wm_language.specs.Spoken.{IsPlain, IsFree, Blanked, IsCommand}
use Rattle.wm_language.specs.Batches.{AreCommands, AreCriteria, IsGroup, AreGroups, last_blank, last_group, blank_then, group_then, Spells}
use Rattle.wm_grammar.proofs.ByteLemmas.{each_append, skipped, skip_blanks, skip_kept, ends_until}
use Rattle.wm_grammar.proofs.TextLemmas.{Unblanked, unblanked_append, unblanked_kept, skip_unblanked}
use Rattle.wm_grammar.proofs.RowLemmas.{filled_unblanked}
use Rattle.wm_grammar.proofs.WindowBack.{keyword_proper}
use Rattle.wm_grammar.proofs.ArgumentBack.{argument_proper}
use Rattle.wm_grammar.proofs.SpokenLemmas.{CommandTold, command_told, command_back}
use Rattle.wm_grammar.proofs.CriteriaLemmas.{PartTold, part_told, part_back, no_criteria}

-- ---- commands that read

-- what stands behind a group: nothing, or `;`
abbrev pub GroupEnds : List ℕ → Type 0
GroupEnds [] = Unit {0}
GroupEnds (c ∷ t) = c ≡ 59

group_ends : (e : List ℕ) → GroupEnds e → MayFollow e
group_ends [] h = tt
group_ends (c ∷ t) h = inr h

record CommandsTold (t : List ℕ) (m : Commands) : Type 0 where
  text : List ℕ
  whole : t ≡ text ++ m.1
  ends : GroupEnds m.1
  are : AreCommands m.0 m.1 text

command_of : (t : List ℕ) (x : Command × List ℕ) → CommandTold (skip t) x → (text : List ℕ) × (t ≡ text ++ x.1) × IsCommand x.0 x.1 text
command_of t x k =
    let b = skipped t in
    (b.blanks ++ k.text, b.whole ∙ (ap (λ (u : List ℕ). b.blanks ++ u) k.whole ∙ sym (append_assoc b.blanks k.text x.1)), record { blanks = b.blanks; others = k.text; whole = refl; blank = b.blank; is = k.is })

one_told : (t : List ℕ) (c : Command) (r : List ℕ) → CommandTold (skip t) (c, r) → GroupEnds r → CommandsTold t (c ∷ [], r)
one_told t c r k e = let o = command_of t (c, r) k in record { text = o.0; whole = o.1; ends = e; are = o.2 }

-- a command and those behind the ,
then_are : (c : Command) (cs : List Command) (first others behind : List ℕ) → IsCommand c (44 ∷ (others ++ behind)) first → AreCommands cs behind others → AreCommands (c ∷ cs) behind (first ++ 44 ∷ others)
then_are c [] first others behind h k = elim k [ ]
then_are c (d ∷ cs) first others behind h k = record { first = first; others = others; whole = refl; is = h; more = k }

more_told : (t : List ℕ) (c : Command) (rest : List ℕ) (m : Commands) → CommandTold (skip t) (c, 44 ∷ rest) → CommandsTold rest m → CommandsTold t (before_commands c m)
more_told t c rest m k h =
    let o = command_of t (c, 44 ∷ rest) k in
    let is : IsCommand c (44 ∷ (h.text ++ m.1)) o.0 = subst (λ (u : List ℕ). IsCommand c (44 ∷ u) o.0) h.whole o.2 in
    record {
      text = o.0 ++ 44 ∷ h.text;
      whole = o.1 ∙ (ap (λ (u : List ℕ). o.0 ++ 44 ∷ u) h.whole ∙ sym (append_assoc o.0 (44 ∷ h.text) m.1));
      ends = h.ends;
      are = then_are c m.0 o.0 h.text m.1 is h.are;
    }

comma_first : (x : ℕ) (rest : List ℕ) → (x == 44) ≡ true → x ∷ rest ≡ 44 ∷ rest
comma_first x rest e = ap (λ (k : ℕ). k ∷ rest) (eqb-true x 44 e)

other_end : (x : ℕ) → (x == 44) ≡ false → IsSeparator x → x ≡ 59
other_end x e (inl h) = absurd (eqb-false x 44 e h)
other_end x e (inr h) = h

commands_told : (n : ℕ) (t : List ℕ) → AllSome (CommandsTold t) (commands_at n t)
unfolding commands_at
commands_told zero t = tt
commands_told (suc n) t = bind_some (CommandTold (skip t)) (CommandsTold t) (command_at (skip t)) (λ c. and_commands (commands_at n) c.0 c.1) (all (command_at (skip t)) (λ x e. command_told (skip t) x e)) (λ x k. by x.0 x.1 k (λ rest. commands_told n rest))
  where
    all : (o : Option (Command × List ℕ)) → ((x : Command × List ℕ) → o ≡ Some x → CommandTold (skip t) x) → AllSome (CommandTold (skip t)) o
    all None f = tt
    all (Some x) f = f x refl

    by : (c : Command) (r : List ℕ) → CommandTold (skip t) (c, r) → ((rest : List ℕ) → AllSome (CommandsTold rest) (commands_at n rest)) → AllSome (CommandsTold t) (and_commands (commands_at n) c r)
    by c [] k go = one_told t c [] k tt
    by c (x ∷ rest) k go = if_some (CommandsTold t) (x == 44) (option_map (before_commands c) (commands_at n rest)) (Some (c ∷ [], x ∷ rest))
        (λ e. map_some (CommandsTold rest) (CommandsTold t) (commands_at n rest) (before_commands c) (go rest) (λ m h. more_told t c rest m (subst (λ (u : List ℕ). CommandTold (skip t) (c, u)) (comma_first x rest e) k) h))
        (λ e. one_told t c (x ∷ rest) k (other_end x e k.ends))

-- ---- groups that read

record GroupTold (t : List ℕ) (g : Group × List ℕ) : Type 0 where
  text : List ℕ
  whole : t ≡ text ++ g.1
  ends : GroupEnds g.1
  is : IsGroup g.0 g.1 text

group_told : (t : List ℕ) → AllSome (GroupTold t) (group_at t)
unfolding group_at
group_told t = bind_some (PartTold t) (GroupTold t) (criteria_part t) (λ k. option_map (group_of k.0) (commands_at (length k.1) k.1)) (part_told t) (λ k p.
    map_some (CommandsTold k.1) (GroupTold t) (commands_at (length k.1) k.1) (group_of k.0) (commands_told (length k.1) k.1) (λ m c.
    record {
      text = p.front ++ c.text;
      whole = p.whole ∙ (ap (λ (u : List ℕ). p.front ++ u) c.whole ∙ sym (append_assoc p.front c.text m.1));
      ends = c.ends;
      is = record { front = p.front; others = c.text; whole = refl; criteria = p.is; commands = c.are };
    }))

-- blanks before what is there
blanked_more : (Is : List ℕ → Type 0) (b text : List ℕ) → Each IsBlank b → Blanked Is text → Blanked Is (b ++ text)
blanked_more Is b text h k = record { blanks = b ++ k.blanks; others = k.others; whole = ap (λ (u : List ℕ). b ++ u) k.whole ∙ sym (append_assoc b k.blanks k.others); blank = each_append IsBlank b k.blanks h k.blank; is = k.is }

commands_more : (cs : List Command) (behind b text : List ℕ) → Each IsBlank b → AreCommands cs behind text → AreCommands cs behind (b ++ text)
commands_more [] behind b text h k = elim k [ ]
commands_more (c ∷ []) behind b text h k = blanked_more (λ t. IsPlain c t ⊎ IsFree c behind t) b text h k
commands_more (c ∷ d ∷ cs) behind b text h k = record { first = b ++ k.first; others = k.others; whole = ap (λ (u : List ℕ). b ++ u) k.whole ∙ sym (append_assoc b k.first (44 ∷ k.others)); is = blanked_more (λ t. IsPlain c t ⊎ IsFree c (44 ∷ (k.others ++ behind)) t) b k.first h k.is; more = k.more }

group_more : (g : Group) (behind b text : List ℕ) → Each IsBlank b → IsGroup g behind text → IsGroup g behind (b ++ text)
group_more g behind b text h k = by g.criteria k.criteria
  where
    by : (o : Option Criteria) → AreCriteria o k.front → IsGroup (record { criteria = o; commands = g.commands }) behind (b ++ text)
    by None e =
        let text_is : text ≡ k.others = k.whole ∙ ap (λ (u : List ℕ). u ++ k.others) e in
        record { front = []; others = b ++ text; whole = refl; criteria = refl; commands = commands_more g.commands behind b text h (subst (AreCommands g.commands behind) (sym text_is) k.commands) }
    by (Some c) e = record { front = b ++ k.front; others = k.others; whole = ap (λ (u : List ℕ). b ++ u) k.whole ∙ sym (append_assoc b k.front k.others); criteria = blanked_more _ b k.front h e; commands = k.commands }

nothing_told : (n : ℕ) → AllSome (λ gs. gs ≡ []) (groups_at n [])
unfolding groups_at skip
nothing_told zero = tt
nothing_told (suc n) = refl

all_blank : (t b : List ℕ) → t ≡ b ++ [] → Each IsBlank b → Each IsBlank t
all_blank t b e h = subst (Each IsBlank) (sym (e ∙ append-nil b)) h

last_told : (t b text : List ℕ) (g : Group) → t ≡ b ++ (text ++ []) → Each IsBlank b → IsGroup g [] text → AreGroups t (g ∷ [])
last_told t b text g e h k = subst (λ (u : List ℕ). AreGroups u (g ∷ [])) (sym (e ∙ ap (λ (u : List ℕ). b ++ u) (append-nil text))) (last_group (group_more g [] b text h k))

then_told : (t b text : List ℕ) (g : Group) (x : ℕ) (rest : List ℕ) (gs : List Group) → t ≡ b ++ (text ++ x ∷ rest) → x ≡ 59 → Each IsBlank b → IsGroup g (x ∷ rest) text → AreGroups rest gs → AreGroups t (g ∷ gs)
then_told t b text g x rest gs e s h k more =
    let whole : t ≡ (b ++ text) ++ 59 ∷ rest = e ∙ (sym (append_assoc b text (x ∷ rest)) ∙ ap (λ (c : ℕ). (b ++ text) ++ c ∷ rest) s) in
    group_then (b ++ text) rest whole (group_more g (59 ∷ rest) b text h (subst (λ (c : ℕ). IsGroup g (c ∷ rest) text) s k)) more

groups_told : (n : ℕ) (t : List ℕ) → AllSome (AreGroups t) (groups_at n t)
unfolding groups_at
groups_told zero t = tt
groups_told (suc n) t = by (skip t) (skipped t).whole (λ rest. groups_told n rest)
  where
    b : List ℕ
    b = (skipped t).blanks

    after_group : (g : Group × List ℕ) (u : List ℕ) → t ≡ b ++ u → GroupTold u g → ((rest : List ℕ) → AllSome (AreGroups rest) (groups_at n rest)) → AllSome (AreGroups t) (and_groups (groups_at n) g)
    after_group (g, []) u e k go = map_some (λ gs. gs ≡ []) (AreGroups t) (groups_at n []) (λ gs. g ∷ gs) (nothing_told n) (λ gs s. subst (λ (l : List Group). AreGroups t (g ∷ l)) (sym s) (last_told t b k.text g (e ∙ ap (λ (v : List ℕ). b ++ v) k.whole) (skipped t).blank k.is))
    after_group (g, x ∷ rest) u e k go = map_some (AreGroups rest) (AreGroups t) (groups_at n rest) (λ gs. g ∷ gs) (go rest) (λ gs h. then_told t b k.text g x rest gs (e ∙ ap (λ (v : List ℕ). b ++ v) k.whole) k.ends (skipped t).blank k.is h)

    by : (u : List ℕ) → t ≡ b ++ u → ((rest : List ℕ) → AllSome (AreGroups rest) (groups_at n rest)) → AllSome (AreGroups t) (some_groups (groups_at n) u)
    by [] e go = last_blank (all_blank t b e (skipped t).blank)
    by (c ∷ rest) e go = if_some (AreGroups t) (c == 59) (groups_at n rest) (group_at (c ∷ rest) >>= and_groups (groups_at n))
        (λ f. each_some (AreGroups rest) (AreGroups t) (groups_at n rest) (go rest) (λ gs h. blank_then b rest (e ∙ ap (λ (k : ℕ). b ++ k ∷ rest) (eqb-true c 59 f)) (skipped t).blank h))
        (λ f. bind_some (GroupTold (c ∷ rest)) (AreGroups t) (group_at (c ∷ rest)) (and_groups (groups_at n)) (group_told (c ∷ rest)) (λ g k. after_group g (c ∷ rest) e k go))

pub spelled : (text : List ℕ) (b : Batch) → Reads text b → Spells text b
unfolding groups_of
spelled text b h = some_at (λ (c : Batch). Spells text c) (batch_of text) b (map_some (AreGroups text) (λ (c : Batch). Spells text c) (groups_of text) (λ gs. record { groups = gs }) (groups_told (suc (length text)) text) (λ gs k. k)) h

-- ---- commands that stand in the text are read

-- a command without the blanks before it
record Bared (c : Command) (behind text : List ℕ) : Type 0 where
  blanks : List ℕ
  others : List ℕ
  whole : text ≡ blanks ++ others
  blank : Each IsBlank blanks
  kept : skip (text ++ behind) ≡ others ++ behind
  is : IsPlain c others ⊎ IsFree c behind others
  reads : command_at (others ++ behind) ≡ Some (c, behind)

unblanked_of : (c : Command) (behind text : List ℕ) → IsPlain c text ⊎ IsFree c behind text → Unblanked text
unblanked_of c behind text (inl p) = filled_unblanked p.slots text (keyword_proper p.slots c p.form) p.filled
unblanked_of c behind text (inr f) = filled_unblanked f.slots text (argument_proper f.slots c f.form) f.filled

bared : (c : Command) (behind text : List ℕ) → MayFollow behind → IsCommand c behind text → Bared c behind text
bared c behind text l k =
    record {
      blanks = k.blanks;
      others = k.others;
      whole = k.whole;
      blank = k.blank;
      kept = ap (λ (u : List ℕ). skip (u ++ behind)) k.whole ∙ (ap skip (append_assoc k.blanks k.others behind) ∙ (skip_blanks k.blanks (k.others ++ behind) k.blank ∙ unblanked_kept (k.others ++ behind) (unblanked_append k.others behind (unblanked_of c behind k.others k.is) l)));
      is = k.is;
      reads = command_back c k.others behind l k.is;
    }

nothing_reads : (e : List ℕ) → MayFollow e → command_at e ≡ None
unfolding command_at verb_of until is_word
nothing_reads e l = let h : until is_end e ≡ [] = ends_until e l in rw h refl

none_some : (o : Option (Command × List ℕ)) (x : Command × List ℕ) → o ≡ None → o ≡ Some x → ⊥
none_some o x h k = absurd cc

reads_some : (c : Command) (text behind : List ℕ) → MayFollow behind → command_at (text ++ behind) ≡ Some (c, behind) → 1 ≤ length text
reads_some c [] behind l h = absurd (none_some (command_at behind) (c, behind) (nothing_reads behind l) h)
reads_some c (x ∷ text) behind l h = omega arith

-- the commands without the blanks before the first
record Front (cs : List Command) (behind text : List ℕ) : Type 0 where
  others : List ℕ
  kept : skip (text ++ behind) ≡ others ++ behind
  again : skip (others ++ behind) ≡ others ++ behind
  are : AreCommands cs behind others
  first : Command
  rest : List ℕ
  reads : command_at (others ++ behind) ≡ Some (first, rest)

skip_twice : (t u : List ℕ) → skip t ≡ u → skip u ≡ u
skip_twice t u e = ap skip (sym e) ∙ (unblanked_kept (skip t) (skip_unblanked t) ∙ e)

bare_command : (c : Command) (behind others : List ℕ) → IsPlain c others ⊎ IsFree c behind others → IsCommand c behind others
bare_command c behind others h = record { blanks = []; others = others; whole = refl; blank = tt; is = h }

front_of : (cs : List Command) (behind text : List ℕ) → MayFollow behind → AreCommands cs behind text → Front cs behind text
front_of [] behind text l k = elim k [ ]
front_of (c ∷ []) behind text l k =
    let b = bared c behind text l k in
    record { others = b.others; kept = b.kept; again = skip_twice (text ++ behind) (b.others ++ behind) b.kept; are = bare_command c behind b.others b.is; first = c; rest = behind; reads = b.reads }
front_of (c ∷ d ∷ cs) behind text l k =
    let more : List ℕ = 44 ∷ (k.others ++ behind) in
    let b = bared c more k.first (inl refl) k.is in
    let whole : text ++ behind ≡ k.first ++ more = ap (λ (u : List ℕ). u ++ behind) k.whole ∙ append_assoc k.first (44 ∷ k.others) behind in
    let same : (b.others ++ 44 ∷ k.others) ++ behind ≡ b.others ++ more = append_assoc b.others (44 ∷ k.others) behind in
    let kept : skip (text ++ behind) ≡ (b.others ++ 44 ∷ k.others) ++ behind = ap skip whole ∙ (b.kept ∙ sym same) in
    record {
      others = b.others ++ 44 ∷ k.others;
      kept = kept;
      again = skip_twice (text ++ behind) ((b.others ++ 44 ∷ k.others) ++ behind) kept;
      are = record { first = b.others; others = k.others; whole = refl; is = bare_command c more b.others b.is; more = k.more };
      first = c;
      rest = more;
      reads = ap command_at same ∙ b.reads;
    }

commands_long : (cs : List Command) (behind text : List ℕ) → MayFollow behind → AreCommands cs behind text → length cs ≤ length text
commands_long [] behind text l k = elim k [ ]
commands_long (c ∷ []) behind text l k =
    let b = bared c behind text l k in
    omega (arith, reads_some c b.others behind l b.reads, ap length b.whole, length-append b.blanks b.others)
commands_long (c ∷ d ∷ cs) behind text l k = omega (arith, commands_long (d ∷ cs) behind k.others l k.more, ap length k.whole, length-append k.first (44 ∷ k.others))

ends_here : (go : List ℕ → Option Commands) (c : Command) (e : List ℕ) → GroupEnds e → and_commands go c e ≡ Some (c ∷ [], e)
ends_here go c [] h = refl
ends_here go c (x ∷ t) h = let miss : (x == 44) ≡ false = ap (λ (k : ℕ). k == 44) h in rw miss refl

commands_step : (n : ℕ) (t : List ℕ) (c : Command) (r : List ℕ) → command_at (skip t) ≡ Some (c, r) → commands_at (suc n) t ≡ and_commands (commands_at n) c r
unfolding commands_at
commands_step n t c r e = rw e refl

commands_back : (cs : List Command) (n : ℕ) (behind text : List ℕ) → length cs ≤ n → GroupEnds behind → AreCommands cs behind text → commands_at n (text ++ behind) ≡ Some (cs, behind)
commands_back [] n behind text le l k = elim k [ ]
commands_back (c ∷ cs) zero behind text le l k = absurd (omega arith)
commands_back (c ∷ []) (suc n) behind text le l k =
    let b = bared c behind text (group_ends behind l) k in
    commands_step n (text ++ behind) c behind (ap command_at b.kept ∙ b.reads) ∙ ends_here (commands_at n) c behind l
commands_back (c ∷ d ∷ cs) (suc n) behind text le l k =
    let more : List ℕ = 44 ∷ (k.others ++ behind) in
    let b = bared c more k.first (inl refl) k.is in
    let whole : text ++ behind ≡ k.first ++ more = ap (λ (u : List ℕ). u ++ behind) k.whole ∙ append_assoc k.first (44 ∷ k.others) behind in
    let step : commands_at (suc n) (text ++ behind) ≡ option_map (before_commands c) (commands_at n (k.others ++ behind)) = commands_step n (text ++ behind) c more (ap command_at (ap skip whole ∙ b.kept) ∙ b.reads) in
    step ∙ ap (option_map (before_commands c)) (commands_back (d ∷ cs) n behind k.others (omega arith) l k.more)

-- ---- groups that stand in the text are read

record GroupBack (g : Group) (behind text : List ℕ) : Type 0 where
  others : List ℕ
  kept : skip (text ++ behind) ≡ others
  some : is_nil others ≡ false
  other : starts 59 others ≡ false
  reads : group_at others ≡ Some (g, behind)

bracket_none : (s : List ℕ) → command_at (91 ∷ s) ≡ None
unfolding command_at verb_of until is_word
bracket_none s = refl

semicolon_none : (s : List ℕ) → command_at (59 ∷ s) ≡ None
unfolding command_at verb_of until is_word
semicolon_none s = refl

-- where a command reads stand no [ and no ;
first_byte : (t : List ℕ) (x : Command × List ℕ) → command_at t ≡ Some x → (is_nil t ≡ false) × (starts 91 t ≡ false) × (starts 59 t ≡ false)
first_byte [] x h = absurd (none_some (command_at []) x (nothing_reads [] tt) h)
first_byte (c ∷ t) x h = (refl, by (c == 91) refl, by' (c == 59) refl)
  where
    by : (b : Bool) → (c == 91) ≡ b → (c == 91) ≡ false
    by true e = absurd (none_some (command_at (91 ∷ t)) x (bracket_none t) (ap (λ (k : ℕ). command_at (k ∷ t)) (sym (eqb-true c 91 e)) ∙ h))
    by false e = e

    by' : (b : Bool) → (c == 59) ≡ b → (c == 59) ≡ false
    by' true e = absurd (none_some (command_at (59 ∷ t)) x (semicolon_none t) (ap (λ (k : ℕ). command_at (k ∷ t)) (sym (eqb-true c 59 e)) ∙ h))
    by' false e = e

group_reads : (o : Option Criteria) (cs : List Command) (u t behind : List ℕ) → criteria_part u ≡ Some (o, t) → commands_at (length t) t ≡ Some (cs, behind) → group_at u ≡ Some (record { criteria = o; commands = cs }, behind)
unfolding group_at
group_reads o cs u t behind e f = rw (e, f) refl

abbrev has_criteria : Option (Option Criteria × List ℕ) → Bool
has_criteria None = false
has_criteria (Some (None, t)) = false
has_criteria (Some (Some c, t)) = true

none_criteria : (o : Option (Option Criteria × List ℕ)) (p t : List ℕ) (c : Criteria) → o ≡ Some (None, p) → o ≡ Some (Some c, t) → ⊥
none_criteria o p t c e f = false≢true (sym (ap has_criteria e) ∙ ap has_criteria f)

criteria_first : (u : List ℕ) (c : Criteria) (t : List ℕ) → criteria_part u ≡ Some (Some c, t) → (is_nil u ≡ false) × (starts 59 u ≡ false)
criteria_first [] c t h = absurd (none_criteria (criteria_part []) [] t c (no_criteria [] refl) h)
criteria_first (x ∷ u) c t h = (refl, by (x == 91) refl)
  where
    by : (b : Bool) → (x == 91) ≡ b → (x == 59) ≡ false
    by true e = ap (λ (k : ℕ). k == 59) (eqb-true x 91 e)
    by false e = absurd (none_criteria (criteria_part (x ∷ u)) (x ∷ u) t c (no_criteria (x ∷ u) e) h)

group_back : (g : Group) (behind text : List ℕ) → GroupEnds behind → IsGroup g behind text → GroupBack g behind text
group_back g behind text l k = by g.criteria k.criteria
  where
    e : MayFollow behind
    e = group_ends behind l

    by : (o : Option Criteria) → AreCriteria o k.front → GroupBack (record { criteria = o; commands = g.commands }) behind text
    by None h =
        let text_is : text ≡ k.others = k.whole ∙ ap (λ (u : List ℕ). u ++ k.others) h in
        let f = front_of g.commands behind k.others e k.commands in
        let u : List ℕ = f.others ++ behind in
        let first = first_byte u (f.first, f.rest) f.reads in
        let long : length g.commands ≤ length u = omega (arith, commands_long g.commands behind f.others e f.are, length-append f.others behind) in
        record { others = u; kept = ap (λ (t : List ℕ). skip (t ++ behind)) text_is ∙ f.kept; some = first.0; other = first.2; reads = group_reads None g.commands u u behind (no_criteria u first.1) (commands_back g.commands (length u) behind f.others long l f.are) }
    by (Some c) h =
        let t : List ℕ = k.others ++ behind in
        let p = part_back c k.front t h in
        let first = criteria_first p.0 c t p.2 in
        let long : length g.commands ≤ length t = omega (arith, commands_long g.commands behind k.others e k.commands, length-append k.others behind) in
        record { others = p.0; kept = ap (λ (u : List ℕ). skip (u ++ behind)) k.whole ∙ (ap skip (append_assoc k.front k.others behind) ∙ p.1); some = first.0; other = first.1; reads = group_reads (Some c) g.commands p.0 t behind p.2 (commands_back g.commands (length t) behind k.others long l k.commands) }

groups_one : (n : ℕ) (t u : List ℕ) (g : Group) (behind : List ℕ) → skip t ≡ u → is_nil u ≡ false → starts 59 u ≡ false → group_at u ≡ Some (g, behind) → groups_at (suc n) t ≡ option_map (λ gs. g ∷ gs) (groups_at n (drop 1 behind))
unfolding groups_at
groups_one n t u g behind e some other reads = ap (some_groups (groups_at n)) e ∙ by u some other reads
  where
    by : (u : List ℕ) → is_nil u ≡ false → starts 59 u ≡ false → group_at u ≡ Some (g, behind) → some_groups (groups_at n) u ≡ option_map (λ gs. g ∷ gs) (groups_at n (drop 1 behind))
    by [] some other reads = absurd (true≢false some)
    by (c ∷ r) some other reads = rw (other, reads) refl

groups_none : (n : ℕ) (t : List ℕ) → skip t ≡ [] → groups_at (suc n) t ≡ Some []
unfolding groups_at
groups_none n t e = rw e refl

groups_semicolon : (n : ℕ) (t rest : List ℕ) → skip t ≡ 59 ∷ rest → groups_at (suc n) t ≡ groups_at n rest
unfolding groups_at
groups_semicolon n t rest e = rw e refl

blank_skipped : (t : List ℕ) → Each IsBlank t → skip t ≡ []
unfolding skip
blank_skipped t h = ap skip (sym (append-nil t)) ∙ skip_blanks t [] h

some_text : (t u : List ℕ) → skip t ≡ u → is_nil u ≡ false → 1 ≤ length t
unfolding skip
some_text [] u e h = absurd (true≢false (ap is_nil e ∙ h))
some_text (c ∷ t) u e h = omega arith

groups_back : (t : List ℕ) (gs : List Group) → AreGroups t gs → (n : ℕ) → length t < n → groups_at n t ≡ Some gs
groups_back t gs a zero le = absurd (omega arith)
groups_back t gs (last_blank h) (suc n) le = groups_none n t (blank_skipped t h)
groups_back t gs (last_group {g = g} h) (suc n) le =
    let b = group_back g [] t tt h in
    let kept : skip t ≡ b.others = ap skip (sym (append-nil t)) ∙ b.kept in
    groups_one n t b.others g [] kept b.some b.other b.reads ∙ ap (option_map (λ gs. g ∷ gs)) (nothing n (omega (arith, some_text t b.others kept b.some)))
  where
    nothing : (n : ℕ) → 1 ≤ n → groups_at n [] ≡ Some []
    nothing zero h = absurd (omega arith)
    nothing (suc n) h = groups_none n [] (blank_skipped [] tt)
groups_back t gs (blank_then front others e h k) (suc n) le =
    groups_semicolon n t others (ap skip e ∙ (skip_blanks front (59 ∷ others) h ∙ skip_kept 59 others refl)) ∙ groups_back others gs k n (omega (arith, ap length e, length-append front (59 ∷ others)))
groups_back t gs (group_then {g = g} {gs = more} front others e h k) (suc n) le =
    let b = group_back g (59 ∷ others) front refl h in
    groups_one n t b.others g (59 ∷ others) (ap skip e ∙ b.kept) b.some b.other b.reads ∙ ap (option_map (λ gs. g ∷ gs)) (groups_back others more k n (omega (arith, ap length e, length-append front (59 ∷ others))))

pub reads : (text : List ℕ) (b : Batch) → Spells text b → Reads text b
unfolding groups_of
reads text b h = ap (option_map (λ gs. record { groups = gs })) (groups_back text b.groups h (suc (length text)) (omega arith))

-- ---- what follows

same_batch : (o : Option Batch) (a b : Batch) → o ≡ Some a → o ≡ Some b → a ≡ b
same_batch o a b h k = cc

pub one_batch : (text : List ℕ) (a b : Batch) → Spells text a → Spells text b → a ≡ b
one_batch text a b h k = same_batch (batch_of text) a b (reads text a h) (reads text b k)

pub printed : (b : Batch) → IsReadable b → Spells (spelling b) b
printed b h = spelled (spelling b) b (batch_again b h)

pub printable : (text : List ℕ) (b : Batch) → Spells text b → IsReadable b
printable text b h = readable text b (reads text b h)
