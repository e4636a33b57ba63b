-- How contracts see the ends of a lane: by the end of the channel and the pass that they have.
use Rattle.std.specs.Prelude.{ℕ, ◌+◌, List, [], ◌∷◌}
use Rattle.atomic_table.specs.declared.badge.Badge.{Badge}
use Rattle.crossbeam_channel.specs.declared.flavors.array.Doing.{Doing}
use Rattle.crossbeam_channel.specs.declared.flavors.array.Key.{Key}
use Rattle.crossbeam_channel.specs.declared.flavors.array.Rows.{Rows}
use Rattle.crossbeam_channel.specs.Claims.{Pass, view}
use Rattle.crossbeam_channel.specs.Ends.{ruled_capacity}
use Rattle.lane.specs.declared.message.Taken.{Taken}
use Rattle.lane.specs.declared.part.Part.{Part}
use Rattle.lane.specs.declared.part.Part.TheVariants.{Put, Take, Close}
use Rattle.lane.specs.Ends.{Lane, PutEndView, TakeEndView, CloserView, GivenUpView, EndedView, StoppedView}
use Rattle.lane.specs.Whole.{GatheredView}

-- what the first part of a view knows: its list, and the number of Quits, or of all marks, that the closer put
abbrev pub sent_in : List Part → List Taken
sent_in (Put file capacity sent ∷ v) = sent
sent_in _ = []

abbrev pub took_in : List Part → List Taken
took_in (Take taker capacity took ∷ v) = took
took_in _ = []

abbrev pub quits_in : List Part → ℕ
quits_in (Close files takers capacity stops quits ∷ v) = quits
quits_in _ = 0

abbrev pub marks_in : List Part → ℕ
marks_in (Close files takers capacity stops quits ∷ v) = stops + quits
marks_in _ = 0

-- the lists of all put parts, and of all take parts
abbrev pub sent_lists : List Part → List (List Taken)
sent_lists [] = []
sent_lists (Put file capacity sent ∷ v) = sent ∷ sent_lists v
sent_lists (_ ∷ v) = sent_lists v

abbrev pub taken_lists : List Part → List (List Taken)
taken_lists [] = []
taken_lists (Take taker capacity took ∷ v) = took ∷ taken_lists v
taken_lists (_ ∷ v) = taken_lists v

-- the capacity that the closer's part counted
abbrev pub capacity_in : List Part → ℕ
capacity_in (Close files takers capacity stops quits ∷ v) = capacity
capacity_in _ = 0

abbrev pub gathering_in : List Part → GatheredView
gathering_in v = record { capacity = capacity_in v; sent = sent_lists v; took = taken_lists v }

-- an end of the channel with its pass: the lane, and what the pass knows
pub record SeatView : Type 0 where
  pub lane : Lane
  pub known : List Part

-- the capacity of the lane's queue, in messages
abbrev pub capacity_of : SeatView → ℕ
capacity_of s = s.lane.2

-- the lane of a channel, whose capacity is the channel's
abbrev pub lane_at : {Q M L A : Type 0} → Rows (Badge (Key Taken)) (Doing Taken (List Part)) Q M (Key Taken) L A → Lane
lane_at c = (c.stamps.shared.table_id, c.stamps.shared.key, ruled_capacity c)

-- an end of the channel c with the pass p
abbrev pub seated : {Q M L A : Type 0} → Rows (Badge (Key Taken)) (Doing Taken (List Part)) Q M (Key Taken) L A → Pass Taken (List Part) → SeatView
seated c p = record { lane = lane_at c; known = view p }

-- the ends of a lane, by their ends of the channel
abbrev pub put_end_view : SeatView → ℕ → PutEndView
put_end_view s file = record { lane = s.lane; file = file; sent = sent_in s.known }

abbrev pub take_end_view : SeatView → ℕ → TakeEndView
take_end_view s taker = record { lane = s.lane; taker = taker; took = took_in s.known }

abbrev pub closer_view : SeatView → ℕ → ℕ → CloserView
closer_view s files takers = record { lane = s.lane; files = files; takers = takers }

abbrev pub given_up_view : SeatView → GivenUpView
given_up_view s = record { lane = s.lane; quits = quits_in s.known }

abbrev pub ended_view : SeatView → EndedView
ended_view s = record { lane = s.lane; marks = marks_in s.known }

abbrev pub stopped_view : SeatView → ℕ → StoppedView
stopped_view s takers = record { lane = s.lane; takers = takers; sent = sent_lists s.known }

-- the gathered messages, by what the pass with all parts knows
abbrev pub gathered_view : Pass Taken (List Part) → GatheredView
gathered_view p = gathering_in (view p)
