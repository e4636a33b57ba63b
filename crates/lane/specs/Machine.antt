-- The lane as a machine: its states, its events, when each event is allowed and what it does. It has no threads: a run of threads is some
-- sequence of these events.
use Rattle.std.specs.Prelude.{◌≡◌, ◌≢◌, ℕ, ◌+◌, ◌<◌, cond, true, false, ◌==◌, List, [], ◌∷◌, ◌++◌, length}
use Rattle.plan_parts.specs.declared.block.Block.{Block}
use Rattle.lane.specs.declared.message.Taken.{Taken}
use Rattle.lane.specs.declared.message.Taken.TheVariants.{Row, End, Stop, Quit}
use Rattle.lane.specs.MessageKinds.{has_end, is_done, row_count}
use Rattle.plan_parts.specs.declared.ranges.TheConstants.{MAX_ROWS}

-- the numbers of files and takers, and the capacity of the queue in messages
pub record Size : Type 0 where
  pub files : ℕ
  pub takers : ℕ
  pub capacity : ℕ

-- the queue, the list that each file sent, the numbers of Stops and Quits put, and the list that each taker took
pub record State : Type 0 where
  pub queue : List Taken
  pub sent : ℕ → List Taken
  pub stops : ℕ
  pub quits : ℕ
  pub took : ℕ → List Taken

-- nothing was put or taken
abbrev pub opening : State
opening = record { queue = []; sent = λ file. []; stops = 0; quits = 0; took = λ taker. [] }

-- what the ends do: put a row, an end mark, a Stop or a Quit, and take the next message
pub data Event : Type 0 where
  PutRow : (file : ℕ) (block : Block) → Event
  PutEnd : (file : ℕ) → Event
  PutStop : Event
  PutQuit : Event
  TakeNext : (taker : ℕ) → Event

-- the queue is not full
abbrev pub HasRoom : Size → State → Type 0
HasRoom n s = length s.queue < n.capacity

-- when an event is allowed
abbrev pub Allowed : Size → State → Event → Type 0
Allowed n s (PutRow file block) = (file < n.files) × HasRoom n s × (has_end (s.sent file) ≡ false) × (row_count (s.sent file) < MAX_ROWS)
Allowed n s (PutEnd file) = (file < n.files) × HasRoom n s × (has_end (s.sent file) ≡ false)
Allowed n s PutStop = HasRoom n s × ((file : ℕ) → file < n.files → has_end (s.sent file) ≡ true) × (s.quits ≡ 0) × (s.stops < n.takers)
Allowed n s PutQuit = HasRoom n s × (s.stops ≡ 0) × (s.quits < n.takers)
Allowed n s (TakeNext taker) = (taker < n.takers) × (s.queue ≢ []) × (is_done (s.took taker) ≡ false)

-- g, except x at k
abbrev pub with_at : {A : Type 0} → (ℕ → A) → ℕ → A → ℕ → A
with_at g k x j = cond (j == k) x (g j)

-- the message is appended to the file's list and to the queue
abbrev pub put : ℕ → Taken → State → State
put file m s = record { queue = s.queue ++ m ∷ []; sent = with_at s.sent file (s.sent file ++ m ∷ []); stops = s.stops; quits = s.quits; took = s.took }

-- the first message m moves to the end of the taker's list, and the remainder is the queue
abbrev pub take_front : ℕ → Taken → List Taken → State → State
take_front taker m rest s = record { queue = rest; sent = s.sent; stops = s.stops; quits = s.quits; took = with_at s.took taker (s.took taker ++ m ∷ []) }

-- takes the first message, if there is one
abbrev pub take_next : ℕ → List Taken → State → State
take_next taker [] s = s
take_next taker (m ∷ rest) s = take_front taker m rest s

-- what an event does
abbrev pub after : State → Event → State
after s (PutRow file block) = put file (Row file (length (s.sent file)) block) s
after s (PutEnd file) = put file (End file (row_count (s.sent file))) s
after s PutStop = record { queue = s.queue ++ Stop ∷ []; sent = s.sent; stops = s.stops + 1; quits = s.quits; took = s.took }
after s PutQuit = record { queue = s.queue ++ Quit ∷ []; sent = s.sent; stops = s.stops; quits = s.quits + 1; took = s.took }
after s (TakeNext taker) = take_next taker s.queue s

-- the state after a sequence of events
abbrev pub after_all : State → List Event → State
after_all s [] = s
after_all s (e ∷ es) = after_all (after s e) es

-- each event of the sequence is allowed when it comes
abbrev pub AreAllowed : Size → State → List Event → Type 0
AreAllowed n s [] = Unit {0}
AreAllowed n s (e ∷ es) = Allowed n s e × AreAllowed n (after s e) es

-- a state that the machine reaches from the opening state
abbrev pub IsReached : Size → State → Type 0
IsReached n s = (events : List Event) × AreAllowed n opening events × (after_all opening events ≡ s)
