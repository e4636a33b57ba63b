-- What the ends store, and what is true while a lane is opened and its parts join again.
use Rattle.std.specs.Prelude.{◌≡◌, ℕ, ◌-◌, ◌*◌, ◌<◌, ◌≤◌, true, false, List, [], ◌∷◌, ◌++◌, length, map, replicate}
use Rattle.std.specs.List.{AllByRecursion, sum_by}
use Rattle.atomic_table.specs.declared.badge.Badge.{Badge}
use Rattle.crossbeam_channel.specs.declared.flavors.array.Doing.{Doing}
use Rattle.crossbeam_channel.specs.declared.flavors.array.Key.{Key}
use Rattle.crossbeam_channel.specs.declared.flavors.array.Rows.{Rows}
use Rattle.crossbeam_channel.specs.Claims.{IsKeyed}
use Rattle.crossbeam_channel.specs.Fifo.{Forks}
use Rattle.lane.specs.declared.message.Taken.{Taken}
use Rattle.lane.specs.declared.part.Part.{Part}
use Rattle.lane.specs.declared.part.Part.TheVariants.{Put, Take, Close}
use Rattle.lane.specs.Machine.{Size}
use Rattle.lane.specs.Message.{IsEndedFrom}
use Rattle.lane.specs.MessageKinds.{has_end, is_done, row_count}
use Rattle.lane.specs.MessageOrders.{IsFrom}
use Rattle.lane.specs.Whole.{IsWhole}
use Rattle.lane.specs.Ends.{Lane, PutEndView, TakeEndView, ArePutsFrom, AreTakesFrom}
use Rattle.lane.specs.Rule.{IsLane, put_parts, take_parts}
use Rattle.lane.specs.Steps.{full_view, IsFull}
use Rattle.lane.specs.EndFields.{lane_at, sent_in, took_in, sent_lists, taken_lists, gathering_in}
use Rattle.lane.specs.inner.Views.{IsOrdered, without_second, second_alone}
use Rattle.plan_parts.specs.declared.ranges.TheConstants.{MAX_ROWS}

-- the channel is the lane's
abbrev pub IsChannelOf : {Q M L A : Type 0} → Lane → Rows (Badge (Key Taken)) (Doing Taken (List Part)) Q M (Key Taken) L A → Type 0
IsChannelOf lane c = (lane_at c ≡ lane) × IsKeyed c

-- the second part of the view may move to a new pass
abbrev pub MayGive : List Part → Type 0
MayGive v = (pass : ℕ) → Forks IsLane pass v (without_second v) (second_alone v)

-- the list of a put end that may still send: n rows and nothing else
pub record IsOpenPut (v : List Part) (file capacity count : ℕ) : Type 0 where
  pub part : v ≡ Put file capacity (sent_in v) ∷ []
  pub list : IsFrom file 0 (sent_in v)
  pub unended : has_end (sent_in v) ≡ false
  pub rows : row_count (sent_in v) ≡ count
  pub places : length (sent_in v) ≡ count
  pub few : count ≤ MAX_ROWS

-- the list of an ended put: n rows and the end mark
pub record IsEndedPut (v : List Part) (file capacity count : ℕ) : Type 0 where
  pub part : v ≡ Put file capacity (sent_in v) ∷ []
  pub list : IsEndedFrom file 0 (sent_in v)
  pub rows : row_count (sent_in v) ≡ count
  pub few : count ≤ MAX_ROWS

pub record IsTake (v : List Part) (taker capacity : ℕ) : Type 0 where
  pub part : v ≡ Take taker capacity (took_in v) ∷ []
  pub ordered : IsOrdered (took_in v)

-- the closer's part alone: no Stop or Quit was put
pub record IsCloser (v : List Part) (files takers capacity : ℕ) : Type 0 where
  pub part : v ≡ Close files takers capacity 0 0 ∷ []
  pub some_taker : 0 < takers

-- all Stops were put, and the put parts of all files joined
pub record IsStopping (v : List Part) (takers capacity : ℕ) : Type 0 where
  pub part : v ≡ Close (length (sent_lists v)) takers capacity takers 0 ∷ put_parts capacity 0 (sent_lists v)
  pub some_taker : 0 < takers

-- all parts of the lane, with the lists of all files and of all takers, who are done
pub record IsAllIn (v : List Part) (takers capacity : ℕ) : Type 0 where
  pub part : v ≡ full_view (length (sent_lists v)) takers capacity (sent_lists v) (taken_lists v)
  pub full : IsFull takers (length (sent_lists v)) (sent_lists v) (taken_lists v)

pub record IsGathered (v : List Part) (count : ℕ) : Type 0 where
  pub whole : IsWhole (gathering_in v)
  pub rows : sum_by row_count (sent_lists v) ≡ count

-- the view is that of a closer
abbrev pub IsClosers : List Part → Type 0
IsClosers (Close files takers capacity stops quits ∷ v) = Unit {0}
IsClosers _ = ⊥

-- some ended parts joined the closer's part, and the ended parts of the remaining files will
pub record IsJoining (size : Size) (lane : Lane) (all rest : List PutEndView) (v : List Part) (count : ℕ) : Type 0 where
  pub part : v ≡ Close size.files size.takers size.capacity 0 0 ∷ put_parts size.capacity 0 (sent_lists v)
  pub lists : sent_lists v ++ map (λ p. p.sent) rest ≡ map (λ p. p.sent) all
  pub puts : ArePutsFrom lane size.files (length (sent_lists v)) rest
  pub ended : AllByRecursion (λ l. has_end l ≡ true) (sent_lists v)
  pub rows : sum_by row_count (sent_lists v) ≡ count
  pub few : count ≤ length (sent_lists v) * MAX_ROWS

-- the ended parts of all files joined the closer's
pub record IsJoined (v : List Part) (files takers capacity : ℕ) : Type 0 where
  pub part : v ≡ Close files takers capacity 0 0 ∷ put_parts capacity 0 (sent_lists v)
  pub all_files : length (sent_lists v) ≡ files
  pub ended : AllByRecursion (λ l. has_end l ≡ true) (sent_lists v)

-- some take parts joined the closer's part, and those of the remaining takers will
pub record IsGathering (size : Size) (lane : Lane) (sent : List (List Taken)) (all rest : List TakeEndView) (v : List Part) : Type 0 where
  pub part : v ≡ full_view size.files size.takers size.capacity sent (taken_lists v)
  pub lists : taken_lists v ++ map (λ t. t.took) rest ≡ map (λ t. t.took) all
  pub takes : AreTakesFrom lane size.takers (length (taken_lists v)) rest
  pub done : AllByRecursion (λ l. is_done l ≡ true) (taken_lists v)
  pub rest_done : AllByRecursion (λ t. is_done t.took ≡ true) rest

-- the closer's view while put ends, and then take ends, are given away: the ends from number k on remain
abbrev pub puts_remaining : ℕ → ℕ → ℕ → ℕ → List Part
puts_remaining files takers capacity k = Close files takers capacity 0 0 ∷ (put_parts capacity k (replicate (files - k) []) ++ take_parts capacity 0 (replicate takers []))

abbrev pub takes_remaining : ℕ → ℕ → ℕ → ℕ → List Part
takes_remaining files takers capacity k = Close files takers capacity 0 0 ∷ take_parts capacity k (replicate (takers - k) [])
