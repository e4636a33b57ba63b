-- The threads of a run, what each of them does with the lane, and when all of them have finished.
use Rattle.std.specs.Prelude.{◌≡◌, ℕ, ◌+◌, ◌-◌, ◌*◌, ◌<◌, ◌≤◌, cond, true, false, List, [], ◌∷◌, length, slice_get, Some}
use Rattle.plan_parts.specs.declared.block.Block.{Block}
use Rattle.plan_parts.specs.declared.ranges.TheConstants.{MAX_ROWS}
use Rattle.lane.specs.MessageKinds.{has_end, is_done, row_count}
use Rattle.lane.specs.Machine.{Size, State, Event, PutRow, PutEnd, PutStop, PutQuit, TakeNext, Allowed, after}
use Rattle.lane.specs.Lawful.{over}

-- how the closer ends the valuers: by Stops, or by Quits if the start of a thread was refused
pub data Closing : Type 0 where
  ByStops : Closing
  ByQuits : Closing

-- the threads that run: the readers of the files with numbers below `readers`, the valuers with numbers below `valuers`, and the closer;
-- each reader puts a row for each of its blocks, in order, and then its end mark
pub record Threads : Type 0 where
  pub readers : ℕ
  pub valuers : ℕ
  pub blocks : ℕ → List Block
  pub closing : Closing

-- a lane of this size can have these threads
pub record AreThreads (n : Size) (t : Threads) : Type 0 where
  pub room : 0 < n.capacity
  pub readers : t.readers ≤ n.files
  pub valuers : t.valuers ≤ n.takers
  pub few : (file : ℕ) → length (t.blocks file) ≤ MAX_ROWS
  -- no reader runs without a valuer, and a lane is stopped only if all its threads run
  pub some_valuer : 0 < t.readers → 0 < t.valuers
  pub all : t.closing ≡ ByStops → (t.readers ≡ n.files) × (t.valuers ≡ n.takers)

-- every reader has put its end mark
abbrev pub HaveEnded : Threads → State → Type 0
HaveEnded t s = (file : ℕ) → file < t.readers → has_end (s.sent file) ≡ true

-- the marks that were put
abbrev pub marks : State → ℕ
marks s = s.stops + s.quits

-- the event is the next that some thread makes, as soon as the lane allows it: a reader puts its next row, or the end mark if it has none;
-- the closer, once every reader has ended, puts a mark for each valuer; a valuer takes until it has taken a mark
abbrev pub IsNext : Threads → State → Event → Type 0
IsNext t s (PutRow file block) = (file < t.readers) × (has_end (s.sent file) ≡ false) × (slice_get (t.blocks file) (row_count (s.sent file)) ≡ Some block)
IsNext t s (PutEnd file) = (file < t.readers) × (has_end (s.sent file) ≡ false) × (row_count (s.sent file) ≡ length (t.blocks file))
IsNext t s PutStop = (t.closing ≡ ByStops) × HaveEnded t s × (marks s < t.valuers)
IsNext t s PutQuit = (t.closing ≡ ByQuits) × HaveEnded t s × (marks s < t.valuers)
IsNext t s (TakeNext taker) = (taker < t.valuers) × (is_done (s.took taker) ≡ false)

-- some thread can continue: its next event is allowed
abbrev pub CanContinue : Size → Threads → State → Type 0
CanContinue n t s = (e : Event) × IsNext t s e × Allowed n s e

-- each event of the sequence is the next of some thread, and is allowed when it comes
abbrev pub AreSteps : Size → Threads → State → List Event → Type 0
AreSteps n t s [] = Unit {0}
AreSteps n t s (e ∷ es) = IsNext t s e × Allowed n s e × AreSteps n t (after s e) es

-- every thread has finished: each reader has put its end mark, the closer has put a mark for each valuer, and each valuer has taken one
pub record HaveFinished (t : Threads) (s : State) : Type 0 where
  pub read : HaveEnded t s
  pub closed : marks s ≡ t.valuers
  pub valued : (taker : ℕ) → taker < t.valuers → is_done (s.took taker) ≡ true

-- the lane is in a state to which its threads can bring it: no reader put more rows than it has blocks, a taker without a thread took
-- nothing, and the closer put marks of its kind, at most one for each valuer, and only once every reader had ended
pub record IsUnderway (t : Threads) (s : State) : Type 0 where
  pub put : (file : ℕ) → file < t.readers → row_count (s.sent file) ≤ length (t.blocks file)
  pub idle : (taker : ℕ) → t.valuers ≤ taker → s.took taker ≡ []
  pub stops : t.closing ≡ ByStops → s.quits ≡ 0
  pub quits : t.closing ≡ ByQuits → s.stops ≡ 0
  pub few : marks s ≤ t.valuers
  pub ended : 0 < marks s → HaveEnded t s

-- what the file's reader must still put
abbrev pub puts_remaining : Threads → State → ℕ → ℕ
puts_remaining t s file = (length (t.blocks file) - row_count (s.sent file)) + cond (has_end (s.sent file)) 0 1

-- the number of steps that remain: two for each message that must still be put, and one for each that must still be taken
abbrev pub steps_remaining : Threads → State → ℕ
steps_remaining t s = 2 * (over t.readers (λ file. puts_remaining t s file) + (t.valuers - marks s)) + length s.queue

-- the largest number of steps of the threads: each row, each end mark and each valuer's mark is put once and taken once
abbrev pub all_steps : Threads → ℕ
all_steps t = 2 * (over t.readers (λ file. length (t.blocks file) + 1) + t.valuers)
