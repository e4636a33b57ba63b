-- What is true of the lane between any two events.
use Rattle.std.specs.Prelude.{◌≡◌, ℕ, zero, suc, ◌+◌, ◌<◌, ◌≤◌, cond, nat_lt, true, List, [], length, drop, slice_get, Some, ◌⊎◌}
use Rattle.std.specs.List.{count_by, AllByRecursion}
use Rattle.lane.specs.declared.message.Taken.{Taken}
use Rattle.lane.specs.declared.message.Taken.TheVariants.{Row, End, Stop, Quit}
use Rattle.lane.specs.Message.{of, is_at, Rises}
use Rattle.lane.specs.MessageKinds.{is_stop, is_quit, has_end}
use Rattle.lane.specs.MessageOrders.{IsFrom, MarksLast, AreStops, StopsLast}
use Rattle.lane.specs.Machine.{Size, State}

-- g 0 + g 1 + .. + g (n - 1)
abbrev pub over : ℕ → (ℕ → ℕ) → ℕ
over zero g = 0
over (suc n) g = over n g + g n

-- the message is the one that its file sent at its position, and is among the first that left the queue
abbrev pub IsPlaced : (ℕ → List Taken) → (ℕ → ℕ) → Taken → Type 0
IsPlaced sent taken (Row file place block) = (place < taken file) × (slice_get (sent file) place ≡ Some (Row file place block))
IsPlaced sent taken (End file rows) = (rows < taken file) × (slice_get (sent file) rows ≡ Some (End file rows))
IsPlaced sent taken Stop = Unit {0}
IsPlaced sent taken Quit = Unit {0}

-- a state of the lane in which nothing is lost, duplicated or out of order
pub record IsLawful (n : Size) (s : State) : Type 0 where
  -- each file sent rows with places 0, 1, 2, .. and then at most one end mark with their count, last
  pub lists : (file : ℕ) → IsFrom file 0 (s.sent file)
  -- there are no other files and takers
  pub files : (file : ℕ) → n.files ≤ file → s.sent file ≡ []
  pub takers : (taker : ℕ) → n.takers ≤ taker → s.took taker ≡ []
  -- `taken` has the number of messages of each file that were taken: the first ones, each once, by one taker, and no others
  pub taken : ℕ → ℕ
  pub within : (file : ℕ) → taken file ≤ length (s.sent file)
  pub once : (file p : ℕ) → over n.takers (λ taker. count_by (is_at file p) (s.took taker)) ≡ cond (nat_lt p (taken file)) 1 0
  pub placed : (taker : ℕ) → AllByRecursion (IsPlaced s.sent taken) (s.took taker)
  -- in each taker's list the positions of one file rise
  pub rises : (taker : ℕ) → Rises (s.took taker)
  -- the queue has the remainder of each file's list, in order
  pub rest : (file : ℕ) → of file s.queue ≡ drop (taken file) (s.sent file)
  -- after a Stop the queue has only Stops, and once a Stop was taken it has nothing else
  pub stops_last : StopsLast s.queue
  pub stopped : (taker : ℕ) → 0 < count_by is_stop (s.took taker) → AreStops s.queue
  -- a Stop is put only once every file has ended
  pub ended : 0 < s.stops → (file : ℕ) → file < n.files → has_end (s.sent file) ≡ true
  -- the queue has at most as many messages as its capacity
  pub room : length s.queue ≤ n.capacity
  -- the Stops put are the Stops in the queue and the Stops taken, at most one for each taker; the same for Quits; there are never both
  pub stops : count_by is_stop s.queue + over n.takers (λ taker. count_by is_stop (s.took taker)) ≡ s.stops
  pub quits : count_by is_quit s.queue + over n.takers (λ taker. count_by is_quit (s.took taker)) ≡ s.quits
  pub few_stops : s.stops ≤ n.takers
  pub few_quits : s.quits ≤ n.takers
  pub one_kind : (s.stops ≡ 0) ⊎ (s.quits ≡ 0)
  -- a Stop or Quit is the last message that its taker took
  pub marks : (taker : ℕ) → MarksLast (s.took taker)
