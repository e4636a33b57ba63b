-- Laws of the lane: every run of the machine stays lawful, what leaves of a file is a prefix of what it sent, each kind of step of the code
-- is one event of the machine, and the threads of a run never all wait.
use Rattle.std.specs.Prelude.{◌≡◌, ℕ, ◌+◌, ◌<◌, ◌≤◌, ◌⊎◌, cond, nat_lt, List, [], ◌∷◌, ◌++◌, length, take, slice_set, Some}
use Rattle.std.specs.List.{AllByRecursion, count_by}
use mathlib.Core.Option.{some}
use lib.ListN.{get_elem?}
use Rattle.lane.specs.declared.message.Taken.{Taken}
use Rattle.lane.specs.declared.message.Taken.TheVariants.{Row, End, Stop, Quit}
use Rattle.lane.specs.declared.part.Part.{Part}
use Rattle.lane.specs.declared.part.Part.TheVariants.{Count}
use Rattle.lane.specs.Message.{of, is_at}
use Rattle.lane.specs.Machine.{Size, State, opening, Event, PutRow, PutEnd, PutStop, PutQuit, TakeNext, Allowed, after, after_all, AreAllowed}
use Rattle.lane.specs.Lawful.{over, IsPlaced, IsLawful}
use Rattle.lane.specs.Whole.{IsWhole}
use Rattle.lane.specs.Rule.{Role, role_of, IsLaneAt, IsLane, all_parts}
use Rattle.lane.specs.Threads.{Threads, AreThreads, IsNext, CanContinue, AreSteps, HaveFinished, IsUnderway, steps_remaining, all_steps}
use Rattle.lane.specs.Steps.{with_message, IsFree, MaySend, MayTake, taker_in, IsFull, full_view}

-- from the opening state every sequence of allowed events leads to a lawful state
abbrev pub RunsStayLawful : Type 0
RunsStayLawful = (n : Size) (events : List Event) → AreAllowed n opening events → IsLawful n (after_all opening events)

-- what leaves the queue at an event, and during a sequence of events, in order
abbrev pub leaves : State → Event → List Taken
leaves s (PutRow file block) = []
leaves s (PutEnd file) = []
leaves s PutStop = []
leaves s PutQuit = []
leaves s (TakeNext taker) = take 1 s.queue

abbrev pub leaving : State → List Event → List Taken
leaving s [] = []
leaving s (e ∷ es) = leaves s e ++ leaving (after s e) es

-- in every run, what has left of a file, in the order of leaving, and then what the queue has of it, is what the file sent
abbrev pub LeavingIsPrefixOfSent : Type 0
LeavingIsPrefixOfSent = (n : Size) (events : List Event) → AreAllowed n opening events → (file : ℕ) → of file (leaving opening events) ++ of file (after_all opening events).queue ≡ (after_all opening events).sent file

-- in every lawful state the first messages of a file left, each once and no others, they were taken as they were sent, and the queue has
-- the remainder of the file's list
pub record IsPrefixTaken (n : Size) (s : State) (file : ℕ) : Type 0 where
  pub taken : ℕ → ℕ
  pub split : take (taken file) (s.sent file) ++ of file s.queue ≡ s.sent file
  pub once : (p : ℕ) → over n.takers (λ taker. count_by (is_at file p) (s.took taker)) ≡ cond (nat_lt p (taken file)) 1 0
  pub placed : (taker : ℕ) → AllByRecursion (IsPlaced s.sent taken) (s.took taker)

abbrev pub TakenIsPrefixOfSent : Type 0
TakenIsPrefixOfSent = (n : Size) (s : State) → IsLawful n s → (file : ℕ) → IsPrefixTaken n s file

-- the event that sends the message: Put row, Put end, Put stop or Put quit
abbrev pub send_event : Taken → Event
send_event (Row file place block) = PutRow file block
send_event (End file rows) = PutEnd file
send_event Stop = PutStop
send_event Quit = PutQuit

-- every send of the ends is that event, allowed in the lane's state: the message is appended to the queue, and only the pass's own part
-- changes
abbrev pub SendIsAnEvent : Type 0
SendIsAnEvent =
    (n : Size) (s : State) (items : List Taken) (views : List (List Part)) (pass capacity : ℕ) (v : List Part) (m : Taken)
    → IsLaneAt n s items views → get_elem? views pass ≡ some v → length items < capacity → MaySend capacity v m
    → Allowed n s (send_event m) × IsLaneAt n (after s (send_event m)) (items ++ m ∷ []) (slice_set views pass (with_message v m))

-- every receive of a take end is Take, whatever message comes: the first message leaves the queue
abbrev pub ReceiveIsAnEvent : Type 0
ReceiveIsAnEvent =
    (n : Size) (s : State) (m : Taken) (items : List Taken) (views : List (List Part)) (pass : ℕ) (v : List Part)
    → IsLaneAt n s (m ∷ items) views → get_elem? views pass ≡ some v → MayTake v
    → Allowed n s (TakeNext (taker_in v)) × IsLaneAt n (after s (TakeNext (taker_in v))) items (slice_set views pass (with_message v m))

-- the first pass gets all parts of the lane that it counted: this is the opening state
abbrev pub MakeIsTheOpening : Type 0
MakeIsTheOpening =
    (items : List Taken) (views : List (List Part)) (pass files takers capacity : ℕ)
    → IsLane items views → get_elem? views pass ≡ some (Count files takers capacity ∷ [])
    → (items ≡ []) × IsLaneAt (record { files = files; takers = takers; capacity = capacity }) opening [] (slice_set views pass (all_parts files takers capacity) ++ [] ∷ [])

-- a part that moves to a new pass, and parts that join another pass, are no event: the state is unchanged
abbrev pub SplitIsNoEvent : Type 0
SplitIsNoEvent =
    (n : Size) (s : State) (items : List Taken) (views : List (List Part)) (pass : ℕ) (first part : Part) (rest : List Part) (role : Role)
    → IsLaneAt n s items views → get_elem? views pass ≡ some (first ∷ part ∷ rest) → role_of part ≡ Some role → IsFree role (first ∷ rest)
    → IsLaneAt n s items (slice_set views pass (first ∷ rest) ++ (part ∷ []) ∷ [])

abbrev pub JoinIsNoEvent : Type 0
JoinIsNoEvent =
    (n : Size) (s : State) (items : List Taken) (views : List (List Part)) (pass other : ℕ) (v u : List Part)
    → IsLaneAt n s items views → get_elem? views pass ≡ some v → (other ≡ pass → ⊥) → get_elem? views other ≡ some u
    → IsLaneAt n s items (slice_set (slice_set views pass (v ++ u)) other [])

-- a look by a pass that has all parts, once all Stops were put and all takers are done, finds nothing, and the lane is complete
abbrev pub LookFindsNothing : Type 0
LookFindsNothing =
    (n : Size) (s : State) (items : List Taken) (views : List (List Part)) (pass files takers capacity : ℕ) (sent took : List (List Taken))
    → IsLaneAt n s items views → get_elem? views pass ≡ some (full_view files takers capacity sent took) → IsFull takers files sent took
    → (items ≡ []) × IsWhole (record { capacity = capacity; sent = sent; took = took })

-- in every lawful state to which its threads can bring the lane, they have all finished, or some thread can continue
abbrev pub SomeThreadCanContinue : Type 0
SomeThreadCanContinue = (n : Size) (t : Threads) (s : State) → AreThreads n t → IsLawful n s → IsUnderway t s → HaveFinished t s ⊎ CanContinue n t s

-- each step reduces the number of steps that remain by one
abbrev pub StepsRunOut : Type 0
StepsRunOut = (n : Size) (t : Threads) (s : State) (e : Event) → IsNext t s e → Allowed n s e → steps_remaining t (after s e) + 1 ≡ steps_remaining t s

-- however the steps of the threads interleave, from the opening state there are at most `all_steps`, and after any of them some thread can
-- continue until all have finished
abbrev pub RunsEnd : Type 0
RunsEnd =
    (n : Size) (t : Threads) (events : List Event) → AreThreads n t → AreSteps n t opening events
    → (length events ≤ all_steps t) × (HaveFinished t (after_all opening events) ⊎ CanContinue n t (after_all opening events))
