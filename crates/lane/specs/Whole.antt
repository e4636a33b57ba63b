-- The messages gathered at the end are complete.
use Rattle.std.specs.Prelude.{◌≡◌, ℕ, ◌<◌, List, length, slice_get, Some}
use Rattle.std.specs.List.{count_by, sum_by, All}
use Rattle.lane.specs.declared.message.Taken.{Taken}
use Rattle.lane.specs.declared.message.Taken.TheVariants.{Row, End, Stop, Quit}
use Rattle.lane.specs.Message.{is_at, IsEndedFrom, Rises, EndsInStop}

-- the capacity of the queue in messages, the messages that each file sent, and the messages that each taker took
pub record GatheredView : Type 0 where
  pub capacity : ℕ
  pub sent : List (List Taken)
  pub took : List (List Taken)

-- the list of this file has m at position p
abbrev pub IsSentAt : List (List Taken) → ℕ → ℕ → Taken → Type 0
IsSentAt sent file p m = (list : List Taken) × (slice_get sent file ≡ Some list) × (slice_get list p ≡ Some m)

-- a taken row or end mark is the message that was sent at its position
abbrev pub IsSent : List (List Taken) → Taken → Type 0
IsSent sent (Row file place block) = IsSentAt sent file place (Row file place block)
IsSent sent (End file rows) = IsSentAt sent file rows (End file rows)
IsSent sent Stop = Unit {0}
IsSent sent Quit = Unit {0}

-- every message that was sent was taken exactly once, and nothing else was taken
pub record IsWhole (g : GatheredView) : Type 0 where
  -- each file sent rows with places 0, 1, 2, .., and then its end mark with their number
  pub sents : (file : ℕ) (list : List Taken) → slice_get g.sent file ≡ Some list → IsEndedFrom file 0 list
  -- each position of each of these lists was taken exactly once, by one taker
  pub once : (file p : ℕ) (list : List Taken) → slice_get g.sent file ≡ Some list → p < length list → sum_by (λ took. count_by (is_at file p) took) g.took ≡ 1
  -- only what was sent was taken, unchanged, and one Stop for each taker, last
  pub only : All (λ took. All (IsSent g.sent) took) g.took
  pub stops : All EndsInStop g.took
  -- in each taker's list, the positions of each file rise
  pub rises : All Rises g.took
