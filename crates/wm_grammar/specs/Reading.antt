-- Reading a text as a batch, and the place at which a text stops reading.
use Rattle.std.specs.Prelude.{◌≡◌, ℕ, zero, suc, ◌-◌, ◌<◌, ◌≤◌, Bool, true, false, ◌||◌, ◌&&◌, ◌==◌, if◌then◌else◌, List, [], ◌∷◌, length, take, drop, Option, Some, None, option_map, is_some, slice_index}
use Rattle.wm_language.specs.declared.command.Command.{Command}
use Rattle.wm_language.specs.declared.batch.Key.{Key}
use Rattle.wm_language.specs.declared.batch.Criteria.{Criteria}
use Rattle.wm_language.specs.declared.batch.Group.{Group}
use Rattle.wm_language.specs.declared.batch.Batch.{Batch}
use Rattle.wm_words.specs.Pieces.{◌>>=◌, starts, skip}
use Rattle.wm_grammar.specs.Openings.{command_at}
use Rattle.wm_grammar.specs.Criteria.{criteria_at}

-- ---- commands separated by ,

abbrev pub Commands : Type 0
Commands = List Command × List ℕ

abbrev pub before_commands : Command → Commands → Commands
before_commands c m = (c ∷ m.0, m.1)

-- behind a command: more where , stands there, and else the end of the group
abbrev pub and_commands : (List ℕ → Option Commands) → Command → List ℕ → Option Commands
and_commands go c [] = Some (c ∷ [], [])
and_commands go c (x ∷ rest) = if x == 44 then option_map (before_commands c) (go rest) else Some (c ∷ [], x ∷ rest)

-- one to n commands, and what follows: the end of the group
unfoldable pub commands_at : ℕ → List ℕ → Option Commands
commands_at zero text = None
commands_at (suc n) text = command_at (skip text) >>= λ c. and_commands (commands_at n) c.0 c.1

-- ---- groups separated by ;

abbrev pub criteria_of : List Key → Option Criteria
criteria_of keys = Some (record { keys = keys })

-- the criteria at the front, where [ stands there, and what follows
unfoldable pub criteria_part : List ℕ → Option (Option Criteria × List ℕ)
criteria_part text = if starts 91 text then option_map (λ x. (criteria_of x.0, x.1)) (criteria_at (drop 1 text)) else Some (None, text)

abbrev pub group_of : Option Criteria → Commands → Group × List ℕ
group_of criteria m = (record { criteria = criteria; commands = m.0 }, m.1)

-- a group that is not blank, at the front of a text that begins with no blank, and what follows
unfoldable pub group_at : List ℕ → Option (Group × List ℕ)
group_at text = criteria_part text >>= λ k. option_map (group_of k.0) (commands_at (length k.1) k.1)

abbrev pub Groups : Type 0
Groups = Option (List Group)

-- behind a group: more groups
abbrev pub and_groups : (List ℕ → Groups) → Group × List ℕ → Groups
and_groups go g = option_map (λ gs. g.0 ∷ gs) (go (drop 1 g.1))

-- groups from a text that begins with no blank
abbrev pub some_groups : (List ℕ → Groups) → List ℕ → Groups
some_groups go [] = Some []
some_groups go (c ∷ rest) = if c == 59 then go rest else group_at (c ∷ rest) >>= and_groups go

-- the groups of a text that has fewer than n
unfoldable pub groups_at : ℕ → List ℕ → Groups
groups_at zero text = None
groups_at (suc n) text = some_groups (groups_at n) (skip text)

-- the groups of a text: of their ends each takes a byte but the last, so they are at most one more than the bytes
unfoldable pub groups_of : List ℕ → Groups
groups_of text = groups_at (suc (length text)) text

-- the batch of which the text is a spelling
abbrev pub batch_of : List ℕ → Option Batch
batch_of text = option_map (λ gs. record { groups = gs }) (groups_of text)

-- the text is a spelling of the batch
abbrev pub Reads : List ℕ → Batch → Type 0
Reads text batch = batch_of text ≡ Some batch

-- ---- how far a text reads

-- the last byte is ;
abbrev pub ends_group : List ℕ → Bool
ends_group text = (0 == length text) || (slice_index text (length text - 1) == 59)

-- the text is empty, or it reads and ends with ;
abbrev pub is_whole : List ℕ → Bool
is_whole text = ends_group text && is_some (groups_of text)

-- n is the greatest number of bytes at the front that are empty, or read and end with ;
pub record IsReach (text : List ℕ) (n : ℕ) : Type 0 where
  pub within : n ≤ length text
  pub whole : is_whole (take n text) ≡ true
  pub greatest : (m : ℕ) → n < m → m ≤ length text → is_whole (take m text) ≡ false
