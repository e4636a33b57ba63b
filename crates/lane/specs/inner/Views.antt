-- What a take guarantees, and how views change while a lane is opened.
use Rattle.std.specs.Prelude.{◌≡◌, ◌+◌, List, [], ◌∷◌}
use Rattle.lane.specs.declared.message.Taken.{Taken}
use Rattle.lane.specs.declared.part.Part.{Part}
use Rattle.lane.specs.declared.part.Part.TheVariants.{Count}
use Rattle.lane.specs.Message.{Rises}
use Rattle.lane.specs.MessageOrders.{EndsClose, MarksLast}
use Rattle.lane.specs.Rule.{all_parts}
use Rattle.lane.specs.EndFields.{took_in}
use Rattle.lane.specs.Steps.{with_message}

-- what is true of the messages that one taker took: positions of one file rise, nothing of a file follows its end mark, and Stop or Quit is
-- last
pub record IsOrdered (took : List Taken) : Type 0 where
  pub rises : Rises took
  pub ends : EndsClose took
  pub marks : MarksLast took

-- a take guarantees that the message was appended to the taker's list, which is in order
abbrev pub Takes : List Part → Taken → List Part → Type 0
Takes v m w = (w ≡ with_message v m) × IsOrdered (took_in w)

-- how the views change while the lane is opened: one more file, taker or unit of capacity; the count becomes all parts; the second part
-- moves to a new pass
abbrev pub more_files : List Part → List Part
more_files (Count files takers capacity ∷ v) = Count (files + 1) takers capacity ∷ v
more_files _ = []

abbrev pub more_takers : List Part → List Part
more_takers (Count files takers capacity ∷ v) = Count files (takers + 1) capacity ∷ v
more_takers _ = []

abbrev pub more_places : List Part → List Part
more_places (Count files takers capacity ∷ v) = Count files takers (capacity + 1) ∷ v
more_places _ = []

abbrev pub opened_view : List Part → List Part
opened_view (Count files takers capacity ∷ v) = all_parts files takers capacity
opened_view _ = []

abbrev pub without_second : List Part → List Part
without_second [] = []
without_second (first ∷ []) = first ∷ []
without_second (first ∷ second ∷ rest) = first ∷ rest

abbrev pub second_alone : List Part → List Part
second_alone [] = []
second_alone (first ∷ []) = []
second_alone (first ∷ second ∷ rest) = second ∷ []
