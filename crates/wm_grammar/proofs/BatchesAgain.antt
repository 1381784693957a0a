-- Printed batches are read again.
use Rattle.std.proofs.Common.{◌≡◌, ℕ, zero, suc, ◌≤◌, Bool, true, false, List, [], ◌∷◌, ◌++◌, length, drop, Option, Some, None, refl, sym, ap, ◌∙◌, append_assoc, arith}
use Rattle.std.specs.Prelude.{◌==◌, ◌||◌, ◌&&◌, option_map, nat_le}
use Rattle.std.proofs.lemmas.Bool.{and_parts, leb-true, ne_eqb, eqb-true, true≢false}
use Rattle.std.proofs.lemmas.List.{length-append}
use Rattle.wm_base.specs.declared.plan.Border.TheVariants as borders
use Rattle.wm_language.specs.declared.arguments.SplitArg.TheVariants as splits
use Rattle.wm_language.specs.declared.arguments.LayoutArg.TheVariants as layouts
use Rattle.wm_language.specs.declared.arguments.Cycle.TheVariants as cycles
use Rattle.wm_language.specs.declared.arguments.Kind.TheVariants as kinds
use Rattle.wm_language.specs.declared.command.Command.{Command}
use Rattle.wm_language.specs.declared.command.Command.TheVariants as commands
use Rattle.wm_language.specs.declared.batch.Criteria.{Criteria}
use Rattle.wm_language.specs.declared.batch.Group.{Group}
use Rattle.wm_language.specs.declared.batch.Batch.{Batch}
use Rattle.wm_words.specs.Pieces.{is_blank, ends, starts, skip}
use Rattle.wm_language.specs.Spelling.{spelled, move_text, position_text, sides_text, resize_text, gaps_text, renaming_text, criteria_text, commands_text, more_commands_text, group_text, groups_text, more_groups_text, spelling}
use Rattle.wm_grammar.specs.Readable.{IsReadableCommand, AreReadableCommands, IsReadableGroup, AreReadableGroups, IsReadable}
use Rattle.wm_grammar.specs.Reading.{Commands, Groups, and_commands, before_commands, commands_at, group_at, some_groups, groups_at, groups_of, Reads}
use Rattle.wm_grammar.proofs.Commands.{command_again}
use Rattle.wm_grammar.proofs.KeysAgain.{criteria_again, behind_criteria}

-- ---- how texts begin

-- the first byte is a letter from a to z
abbrev pub has_letter : List ℕ → Bool
has_letter [] = false
has_letter (c ∷ r) = nat_le 97 c && nat_le c 122

-- what a text that begins with a letter does not begin with
pub record Begins (s t : List ℕ) : Type 0 where
  pub kept : skip (s ++ t) ≡ s ++ t
  pub bracket : starts 91 (s ++ t) ≡ false
  pub group : starts 59 (s ++ t) ≡ false
  pub long : 1 ≤ length s

letter_skip : (c : ℕ) (r : List ℕ) → is_blank c ≡ false → skip (c ∷ r) ≡ c ∷ r
unfolding skip
letter_skip c r h = rw h refl

letter_begins : (s t : List ℕ) → has_letter s ≡ true → Begins s t
letter_begins [] t h = absurd cc
letter_begins (c ∷ r) t h =
    let both = and_parts (nat_le 97 c) (nat_le c 122) h in
    let low : 97 ≤ c = leb-true 97 c both.0 in
    let space : (c == 32) ≡ false = ne_eqb c 32 (λ e. omega arith) in
    let tab : (c == 9) ≡ false = ne_eqb c 9 (λ e. omega arith) in
    let clear : is_blank c ≡ false = rw (space, tab) refl in
    record { kept = letter_skip c (r ++ t) clear; bracket = ne_eqb c 91 (λ e. omega arith); group = ne_eqb c 59 (λ e. omega arith); long = omega arith }

spelled_letter : (c : Command) → has_letter (spelled c) ≡ true
unfolding spelled move_text position_text sides_text resize_text gaps_text renaming_text
spelled_letter (commands.Split splits.H) = refl
spelled_letter (commands.Split splits.V) = refl
spelled_letter (commands.Split splits.Toggle) = refl
spelled_letter (commands.SetLayout layouts.Default) = refl
spelled_letter (commands.SetLayout layouts.SplitH) = refl
spelled_letter (commands.SetLayout layouts.SplitV) = refl
spelled_letter (commands.SetLayout layouts.Tabbed) = refl
spelled_letter (commands.SetLayout layouts.Stacked) = refl
spelled_letter (commands.CycleLayout cycles.Bare) = refl
spelled_letter (commands.CycleLayout cycles.Split) = refl
spelled_letter (commands.CycleLayout cycles.All) = refl
spelled_letter commands.Focus = refl
spelled_letter (commands.FocusDir d) = refl
spelled_letter commands.FocusParent = refl
spelled_letter commands.FocusChild = refl
spelled_letter (commands.FocusKind kinds.Floating) = refl
spelled_letter (commands.FocusKind kinds.Tiling) = refl
spelled_letter (commands.FocusKind kinds.Toggle) = refl
spelled_letter (commands.FocusOutput o) = refl
spelled_letter (commands.MoveDir d n) = refl
spelled_letter (commands.MoveToWorkspace t) = refl
spelled_letter (commands.MoveToOutput o) = refl
spelled_letter (commands.MoveWorkspace o) = refl
spelled_letter (commands.MoveToMark m) = refl
spelled_letter commands.MoveToScratchpad = refl
spelled_letter (commands.MovePosition x y) = refl
spelled_letter commands.MoveCenter = refl
spelled_letter (commands.Swap a) = refl
spelled_letter (commands.Resize true side px ppt) = refl
spelled_letter (commands.Resize false side px ppt) = refl
spelled_letter (commands.ResizeSet w h) = refl
spelled_letter (commands.Floating a) = refl
spelled_letter (commands.Fullscreen a) = refl
spelled_letter (commands.SetBorder (borders.Normal n)) = refl
spelled_letter (commands.SetBorder (borders.Pixel n)) = refl
spelled_letter (commands.SetBorder borders.Bare) = refl
spelled_letter commands.CycleBorder = refl
spelled_letter (commands.Gaps true all op px) = refl
spelled_letter (commands.Gaps false all op px) = refl
spelled_letter (commands.Sticky a) = refl
spelled_letter (commands.Mark true true n) = refl
spelled_letter (commands.Mark true false n) = refl
spelled_letter (commands.Mark false true n) = refl
spelled_letter (commands.Mark false false n) = refl
spelled_letter (commands.Unmark None) = refl
spelled_letter (commands.Unmark (Some m)) = refl
spelled_letter (commands.Workspace t) = refl
spelled_letter (commands.Rename None n) = refl
spelled_letter (commands.Rename (Some w) n) = refl
spelled_letter commands.ScratchpadShow = refl
spelled_letter (commands.Mode m) = refl
spelled_letter (commands.AppendLayout l) = refl
spelled_letter (commands.TitleFormat t) = refl
spelled_letter commands.Kill = refl
spelled_letter commands.Nop = refl
spelled_letter commands.Idle = refl
spelled_letter commands.Exit = refl

-- ---- commands

-- the end of a group: ; or the end of the text
abbrev pub ends_text : List ℕ → Bool
ends_text [] = true
ends_text (c ∷ r) = c == 59

group_ends : (e : List ℕ) → ends_text e ≡ true → ends e ≡ true
group_ends [] h = refl
group_ends (c ∷ r) h = or_right (c == 44) (c == 59) h
  where
    or_right : (a b : Bool) → b ≡ true → (a || b) ≡ true
    or_right true b e = refl
    or_right false b e = e

more_ends : (cs : List Command) (e : List ℕ) → ends_text e ≡ true → ends (more_commands_text cs ++ e) ≡ true
unfolding more_commands_text
more_ends [] e h = group_ends e h
more_ends (c ∷ cs) e h = refl

last_command : (go : List ℕ → Option Commands) (c : Command) (e : List ℕ) → ends_text e ≡ true → and_commands go c e ≡ Some (c ∷ [], e)
last_command go c [] h = refl
last_command go c (x ∷ r) h =
    let same : x ≡ 59 = eqb-true x 59 h in
    rw same refl

commands_blank : (n : ℕ) (s : List ℕ) → commands_at n (32 ∷ s) ≡ commands_at n s
unfolding commands_at skip
commands_blank zero s = refl
commands_blank (suc n) s = refl

command_step : (n : ℕ) (c : Command) (t : List ℕ) → IsReadableCommand c → ends t ≡ true → commands_at (suc n) (spelled c ++ t) ≡ and_commands (commands_at n) c t
unfolding commands_at
command_step n c t a end =
    let b = letter_begins (spelled c) t (spelled_letter c) in
    rw (b.kept, command_again c t a end) refl

commands_parts : (c : Command) (cs : List Command) (e : List ℕ) → commands_text (c ∷ cs) ++ e ≡ spelled c ++ (more_commands_text cs ++ e)
unfolding commands_text
commands_parts c cs e = append_assoc (spelled c) (more_commands_text cs) e

more_parts : (d : Command) (ds : List Command) (e : List ℕ) → more_commands_text (d ∷ ds) ++ e ≡ 44 ∷ 32 ∷ (commands_text (d ∷ ds) ++ e)
unfolding more_commands_text commands_text
more_parts d ds e = refl

no_more : (e : List ℕ) → more_commands_text [] ++ e ≡ e
unfolding more_commands_text
no_more e = refl

pub commands_again : (c : Command) (cs : List Command) (n : ℕ) (e : List ℕ) → length (c ∷ cs) ≤ n → AreReadableCommands (c ∷ cs) → ends_text e ≡ true → commands_at n (commands_text (c ∷ cs) ++ e) ≡ Some (c ∷ cs, e)
commands_again c cs zero e le a end = absurd (omega arith)
commands_again c [] (suc n) e le a end =
    ap (λ (u : List ℕ). commands_at (suc n) u) (commands_parts c [] e)
    ∙ (command_step n c (more_commands_text [] ++ e) a.0 (more_ends [] e end)
    ∙ (ap (λ (u : List ℕ). and_commands (commands_at n) c u) (no_more e) ∙ last_command (commands_at n) c e end))
commands_again c (d ∷ ds) (suc n) e le a end =
    ap (λ (u : List ℕ). commands_at (suc n) u) (commands_parts c (d ∷ ds) e)
    ∙ (command_step n c (more_commands_text (d ∷ ds) ++ e) a.0 (more_ends (d ∷ ds) e end)
    ∙ (ap (λ (u : List ℕ). and_commands (commands_at n) c u) (more_parts d ds e)
    ∙ ap (λ (o : Option Commands). option_map (before_commands c) o) (commands_blank n (commands_text (d ∷ ds) ++ e) ∙ commands_again d ds n e (omega arith) a.1 end)))

more_long : (cs : List Command) → length cs ≤ length (more_commands_text cs)
unfolding more_commands_text
more_long [] = omega arith
more_long (c ∷ cs) = omega (arith, more_long cs, length-append (spelled c) (more_commands_text cs))

commands_long : (c : Command) (cs : List Command) → length (c ∷ cs) ≤ length (commands_text (c ∷ cs))
unfolding commands_text
commands_long c cs =
    let b = letter_begins (spelled c) [] (spelled_letter c) in
    omega (arith, b.long, more_long cs, length-append (spelled c) (more_commands_text cs))

commands_begin : (c : Command) (cs : List Command) (t : List ℕ) → Begins (spelled c) (more_commands_text cs ++ t)
commands_begin c cs t = letter_begins (spelled c) (more_commands_text cs ++ t) (spelled_letter c)

-- ---- groups

behind_commands : (o : Option Criteria) (n : ℕ) (t : List ℕ) → commands_at n (behind_criteria o t) ≡ commands_at n t
behind_commands None n t = refl
behind_commands (Some c) n t = commands_blank n t

behind_long : (o : Option Criteria) (t : List ℕ) → length t ≤ length (behind_criteria o t)
behind_long None t = omega arith
behind_long (Some c) t = omega arith

group_parts : (o : Option Criteria) (cs : List Command) (e : List ℕ) → (criteria_text o ++ commands_text cs) ++ e ≡ criteria_text o ++ (commands_text cs ++ e)
group_parts o cs e = append_assoc (criteria_text o) (commands_text cs) e

group_found : (o : Option Criteria) (c : Command) (cs : List Command) (e : List ℕ) → IsReadableGroup (record { criteria = o; commands = c ∷ cs }) → ends_text e ≡ true → group_at ((criteria_text o ++ commands_text (c ∷ cs)) ++ e) ≡ Some (record { criteria = o; commands = c ∷ cs }, e)
unfolding group_at
group_found o c cs e a end =
    let t : List ℕ = commands_text (c ∷ cs) ++ e in
    let bracket : starts 91 t ≡ false = ap (λ (u : List ℕ). starts 91 u) (commands_parts c cs e) ∙ (commands_begin c cs e).bracket in
    let long : length (c ∷ cs) ≤ length (behind_criteria o t) = omega (arith, commands_long c cs, length-append (commands_text (c ∷ cs)) e, behind_long o t) in
    rw (group_parts o (c ∷ cs) e, criteria_again o t a.0 bracket, behind_commands o (length (behind_criteria o t)) t, commands_again c cs (length (behind_criteria o t)) e long a.2 end) refl

pub group_again : (g : Group) (e : List ℕ) → IsReadableGroup g → ends_text e ≡ true → group_at (group_text g ++ e) ≡ Some (g, e)
group_again g e a end = by g.criteria g.commands a
  where
    by : (o : Option Criteria) (cs : List Command) → IsReadableGroup (record { criteria = o; commands = cs }) → group_at ((criteria_text o ++ commands_text cs) ++ e) ≡ Some (record { criteria = o; commands = cs }, e)
    by o [] a = absurd (true≢false a.1)
    by o (c ∷ cs) a = group_found o c cs e a end

-- a printed group begins with no blank and no ;
pub record Opens (s : List ℕ) : Type 0 where
  pub kept : skip s ≡ s
  pub group : starts 59 s ≡ false
  pub long : 1 ≤ length s

group_opens : (g : Group) (t : List ℕ) → IsReadableGroup g → Opens (group_text g ++ t)
unfolding skip
group_opens g t a = by g.criteria g.commands a
  where
    by : (o : Option Criteria) (cs : List Command) → IsReadableGroup (record { criteria = o; commands = cs }) → Opens ((criteria_text o ++ commands_text cs) ++ t)
    by o [] a = absurd (true≢false a.1)
    by (Some k) (c ∷ cs) a = record { kept = refl; group = refl; long = omega arith }
    by None (c ∷ cs) a =
        let b = commands_begin c cs t in
        let parts = commands_parts c cs t in
        record { kept = ap skip parts ∙ (b.kept ∙ sym parts); group = ap (λ (u : List ℕ). starts 59 u) parts ∙ b.group; long = omega (arith, b.long, length-append (spelled c) (more_commands_text cs ++ t), ap length parts) }

groups_blank : (n : ℕ) (s : List ℕ) → groups_at n (32 ∷ s) ≡ groups_at n s
unfolding groups_at skip
groups_blank zero s = refl
groups_blank (suc n) s = refl

groups_none : (n : ℕ) → groups_at (suc n) [] ≡ Some []
unfolding groups_at skip
groups_none n = refl

some_group : (go : List ℕ → Groups) (s e : List ℕ) (g : Group) → starts 59 s ≡ false → 1 ≤ length s → group_at s ≡ Some (g, e) → some_groups go s ≡ option_map (λ gs. g ∷ gs) (go (drop 1 e))
some_group go [] e g h le got = absurd (omega arith)
some_group go (c ∷ r) e g h le got = rw (h, got) refl

group_step : (n : ℕ) (g : Group) (e : List ℕ) → IsReadableGroup g → ends_text e ≡ true → groups_at (suc n) (group_text g ++ e) ≡ option_map (λ gs. g ∷ gs) (groups_at n (drop 1 e))
unfolding groups_at
group_step n g e a end =
    let o = group_opens g e a in
    rw o.kept (some_group (groups_at n) (group_text g ++ e) e g o.group o.long (group_again g e a end))

groups_parts : (g : Group) (gs : List Group) → groups_text (g ∷ gs) ≡ group_text g ++ more_groups_text gs
unfolding groups_text
groups_parts g gs = refl

more_groups_end : (gs : List Group) → ends_text (more_groups_text gs) ≡ true
unfolding more_groups_text
more_groups_end [] = refl
more_groups_end (g ∷ gs) = refl

behind_none : drop 1 (more_groups_text []) ≡ []
unfolding more_groups_text
behind_none = refl

behind_some : (h : Group) (hs : List Group) → drop 1 (more_groups_text (h ∷ hs)) ≡ 32 ∷ groups_text (h ∷ hs)
unfolding more_groups_text groups_text
behind_some h hs = refl

no_groups : groups_text [] ≡ []
unfolding groups_text
no_groups = refl

pub groups_again : (gs : List Group) (n : ℕ) → length gs ≤ n → AreReadableGroups gs → groups_at (suc n) (groups_text gs) ≡ Some gs
groups_again [] n le a = ap (λ (u : List ℕ). groups_at (suc n) u) no_groups ∙ groups_none n
groups_again (g ∷ gs) zero le a = absurd (omega arith)
groups_again (g ∷ []) (suc n) le a =
    ap (λ (u : List ℕ). groups_at (suc (suc n)) u) (groups_parts g [])
    ∙ (group_step (suc n) g (more_groups_text []) a.0 (more_groups_end [])
    ∙ ap (λ (o : Groups). option_map (λ gs. g ∷ gs) o) (ap (λ (u : List ℕ). groups_at (suc n) u) behind_none ∙ groups_none n))
groups_again (g ∷ h ∷ hs) (suc n) le a =
    ap (λ (u : List ℕ). groups_at (suc (suc n)) u) (groups_parts g (h ∷ hs))
    ∙ (group_step (suc n) g (more_groups_text (h ∷ hs)) a.0 (more_groups_end (h ∷ hs))
    ∙ ap (λ (o : Groups). option_map (λ gs. g ∷ gs) o) (ap (λ (u : List ℕ). groups_at (suc n) u) (behind_some h hs) ∙ (groups_blank (suc n) (groups_text (h ∷ hs)) ∙ groups_again (h ∷ hs) n (omega arith) a.1)))

more_groups_long : (gs : List Group) → length gs ≤ length (more_groups_text gs)
unfolding more_groups_text
more_groups_long [] = omega arith
more_groups_long (g ∷ gs) = omega (arith, more_groups_long gs, length-append (group_text g) (more_groups_text gs))

groups_long : (gs : List Group) → AreReadableGroups gs → length gs ≤ length (groups_text gs)
unfolding groups_text
groups_long [] a = omega arith
groups_long (g ∷ gs) a =
    let o = group_opens g [] a.0 in
    omega (arith, o.long, length-append (group_text g) [], more_groups_long gs, length-append (group_text g) (more_groups_text gs))

pub batch_again : (b : Batch) → IsReadable b → Reads (spelling b) b
unfolding groups_of
batch_again b a = ap (λ (o : Groups). option_map (λ gs. record { groups = gs }) o) (groups_again b.groups (length (groups_text b.groups)) (groups_long b.groups a) a)
