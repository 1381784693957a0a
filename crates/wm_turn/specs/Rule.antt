-- The rule of a turnstile: what holds of its words, its slot and the views of its seats between any two steps.
use Rattle.std.specs.Prelude.{◌≡◌, ◌≤◌, ◌<◌, ℕ, ◌+◌, ◌-◌, ◌%◌, ◌^◌, ◌==◌, Bool, true, false, if◌then◌else◌, List, [], ◌∷◌, ◌++◌, length, Option, None, Some, ⊤}
use mathlib.Core.Option as slot
use lib.ListN.{get_elem?}
use Rattle.std.specs.List.{All, sum_by}
use Rattle.atomic_table.specs.Table.{State}
use Rattle.wm_turn.specs.declared.view.Calls.{Calls}
use Rattle.wm_turn.specs.declared.view.Entry.{Entry}
use Rattle.wm_turn.specs.declared.view.Stage.{Stage}
use Rattle.wm_turn.specs.declared.view.Stage.TheVariants.{Idle, Waits, Turn, Noted}
use Rattle.wm_turn.specs.declared.view.View.{View}
use Rattle.wm_turn.specs.History.{Begins, places, longer, wrote}

-- ---- what one view says

abbrev pub one_if : Bool → ℕ
one_if true = 1
one_if false = 0

-- 1 where this ticket is held at this stage
abbrev pub has_ticket : ℕ → Stage → ℕ
has_ticket number Idle = 0
has_ticket number (Waits ticket) = one_if (ticket == number)
has_ticket number (Turn ticket) = one_if (ticket == number)
has_ticket number (Noted ticket) = one_if (ticket == number)

-- 1 where some ticket is held at this stage
abbrev pub has_any : Stage → ℕ
has_any Idle = 0
has_any (Waits ticket) = 1
has_any (Turn ticket) = 1
has_any (Noted ticket) = 1

-- 1 where the slot is held at this stage
abbrev pub has_slot : Stage → ℕ
has_slot Idle = 0
has_slot (Waits ticket) = 0
has_slot (Turn ticket) = 0
has_slot (Noted ticket) = 1

-- who has the turn has the ticket that is served
abbrev pub IsServed : ℕ → Stage → Type 0
IsServed serving Idle = ⊤
IsServed serving (Waits ticket) = ⊤
IsServed serving (Turn ticket) = ticket ≡ serving
IsServed serving (Noted ticket) = ticket ≡ serving

-- who holds the slot has seen the whole history
abbrev pub HasSeenAll : {S : Type 0} → List (Entry S) → Stage → List (Entry S) → Type 0
HasSeenAll history Idle seen = ⊤
HasSeenAll history (Waits ticket) seen = ⊤
HasSeenAll history (Turn ticket) seen = ⊤
HasSeenAll history (Noted ticket) seen = seen ≡ history

-- the entries of this number in the history are these calls
abbrev pub AreCalls : {S : Type 0} → List (Entry S) → Calls → Type 0
AreCalls history calls = places calls.caller history ≡ calls.places

-- 1 where these are the calls of this number
abbrev pub is_of : ℕ → Calls → ℕ
is_of number calls = one_if (calls.caller == number)

module _ {O S Q : Type 0} where
  -- the calls under a view's own number
  abbrev pub own_calls : View O S Q → Calls
  own_calls v = record { caller = v.caller; places = wrote v.mine }

  -- the calls of each number that a view holds, its own first; a spent one holds none
  abbrev pub calls_of : View O S Q → List Calls
  calls_of v = if v.parts == 0 then [] else own_calls v ∷ v.old_calls

  -- how often a view holds this number
  abbrev pub holds : ℕ → View O S Q → ℕ
  holds number v = sum_by (is_of number) (calls_of v)

  -- what the rule says of each view; most of it holds of a spent one by itself
  pub record Fits (opening : O) (seats spare serving : ℕ) (history : List (Entry S)) (v : View O S Q) : Type 0 where
    pub served : IsServed serving v.stage
    -- what it has seen begins the history, and is all of it where it holds the slot
    pub seen_begins : Begins v.seen history
    pub seen_all : HasSeenAll history v.stage v.seen
    -- what was seen before a joining begins what it has seen
    pub old_begin : All (λ old. Begins old v.seen) v.old_seen
    -- the calls of its numbers are the entries that stand under them, in what it has seen and in the whole history
    pub calls_seen : All (AreCalls v.seen) (calls_of v)
    pub calls_made : All (AreCalls history) (calls_of v)
    -- all views have one opening and one number of seats
    pub opening_is : 0 < v.parts → v.opening ≡ Some opening
    pub seats_is : 0 < v.parts → v.seats ≡ seats
    -- a spent view has no ticket
    pub some_parts : has_any v.stage ≤ v.parts
    -- one view at most has a spare, which is less than its parts
    pub spare_below : 0 < v.parts → v.spare < v.parts
    pub only_spare : 0 < v.spare → v.spare ≡ spare

  -- ---- what all views say together

  -- the tickets that are out are the numbers from `serving` up to below `ticket`, each in one view
  pub record AreQueued (ticket serving : ℕ) (views : List (View O S Q)) : Type 0 where
    pub gone : (number : ℕ) → number < serving → sum_by (λ v. has_ticket number v.stage) views ≡ 0
    pub out : (number : ℕ) → serving ≤ number → number < ticket → sum_by (λ v. has_ticket number v.stage) views ≡ 1
    pub to_come : (number : ℕ) → ticket ≤ number → sum_by (λ v. has_ticket number v.stage) views ≡ 0
    -- so many views have one
    pub waiting : serving + sum_by (λ v. has_any v.stage) views ≡ ticket

  -- the views hold all parts, and each number at most once; the numbers that are held or in the history are below those
  -- that are still to be given
  pub record AreNumbered (seats spare : ℕ) (history : List (Entry S)) (views : List (View O S Q)) : Type 0 where
    pub parts_are : sum_by (λ v. v.parts) views ≡ seats
    pub spare_is : sum_by (λ v. v.spare) views ≡ spare
    pub once : (number : ℕ) → sum_by (holds number) views ≤ 1
    pub below : (number : ℕ) → 0 < sum_by (holds number) views → number + spare < seats
    pub entries_below : All (λ entry. entry.who + spare < seats) history

  -- a view that is not spent has seen the whole history
  pub record IsSeen (history : List (Entry S)) (views : List (View O S Q)) : Type 0 where
    pub by : ℕ
    pub view : View O S Q
    pub there : get_elem? views by ≡ slot.some view
    pub live : 0 < view.parts
    pub all : view.seen ≡ history

-- the slot is at home exactly where no view has noted; it then holds a value with the opening, which stands for the history
abbrev pub IsHome : {V O S : Type 0} → (V → O) → (V → List (Entry S) → Type 0) → O → List (Entry S) → ℕ → slot.Option (Option V) → Type 0
IsHome opening_of stands opening history noted slot.none = noted ≡ 1
IsHome opening_of stands opening history noted (slot.some None) = ⊥
IsHome opening_of stands opening history noted (slot.some (Some value)) = (noted ≡ 0) × (opening_of value ≡ opening) × stands value history

module _ {V O S Q : Type 0} (opening_of : V → O) (stands : V → List (Entry S) → Type 0) (seats : ℕ) (opening : O) where
  -- the rule
  pub record IsKept (state : State (Option V) (View O S Q)) : Type 0 where
    -- the one history
    pub history : List (Entry S)
    -- how many tickets were drawn, and which one is served
    pub ticket : ℕ
    pub serving : ℕ
    -- how many seats are still to be split off
    pub spare : ℕ
    -- what lies in the slot
    pub home : slot.Option (Option V)
    -- the words are the tickets, modulo 2 ^ 64, and the count, which is the length of the history
    pub words_are : state.words ≡ ticket % 2 ^ 64 ∷ serving % 2 ^ 64 ∷ length history ∷ []
    pub few : length history ≤ 2 ^ 48
    pub few_seats : seats ≤ 4096
    pub homes_are : state.homes ≡ home ∷ []
    pub home_is : IsHome opening_of stands opening history (sum_by (λ v. has_slot v.stage) state.views) home
    pub queued : AreQueued ticket serving state.views
    pub numbered : AreNumbered seats spare history state.views
    pub fit : (by : ℕ) (v : View O S Q) → get_elem? state.views by ≡ slot.some v → Fits opening seats spare serving history v
    pub seen : IsSeen history state.views

-- ---- how views are made, cut and joined

module _ {O S Q : Type 0} where
  -- the view of the first seat
  abbrev pub first_view : ℕ → O → View O S Q
  first_view seats opening = record {
    stage = Idle;
    caller = 0;
    spare = seats - 1;
    parts = seats;
    seats = seats;
    opening = Some opening;
    seen = [];
    mine = [];
    old_seen = [];
    old_calls = [];
  }

  -- what is left of a view of which a seat was split off
  abbrev pub left_by_split : View O S Q → View O S Q
  left_by_split v = record v { spare = v.spare - 1; parts = v.parts - 1 }

  -- a view with the next number, which has seen as much
  abbrev pub new_by_split : View O S Q → View O S Q
  new_by_split v = record {
    stage = Idle;
    caller = v.seats - v.spare;
    spare = 0;
    parts = 1;
    seats = v.seats;
    opening = v.opening;
    seen = v.seen;
    mine = [];
    old_seen = [];
    old_calls = [];
  }

  -- a view that has seen the longer of both, has the parts of both, and keeps what both have seen and the other's calls
  abbrev pub joined : View O S Q → View O S Q → View O S Q
  joined v other = record v {
    parts = v.parts + other.parts;
    seen = longer other.seen v.seen;
    old_seen = v.seen ∷ other.seen ∷ (other.old_seen ++ v.old_seen);
    old_calls = own_calls other ∷ (other.old_calls ++ v.old_calls);
  }

  -- the view of a seat that was joined away
  abbrev pub spent : View O S Q
  spent = record {
    stage = Idle;
    caller = 0;
    spare = 0;
    parts = 0;
    seats = 0;
    opening = None;
    seen = [];
    mine = [];
    old_seen = [];
    old_calls = [];
  }
