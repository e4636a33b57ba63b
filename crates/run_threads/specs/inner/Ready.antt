-- What is allocated before the first thread starts.
use Rattle.std.specs.Prelude.{◌≡◌, ℕ, ◌≤◌, [], vec_capacity}
use Rattle.std.specs.Global.{Vec}
use Rattle.run_threads.specs.declared.result_room.ResultRoom.{ResultRoom}

-- an empty list with capacity for `count` items
pub record HasRoom {A : Type 0} (count : ℕ) (list : Vec A) : Type 0 where
  pub empty : list.items ≡ []
  pub room : count ≤ vec_capacity list

-- lists with capacity for the results of the readers and the valuers
pub record IsRoomFor (files valuers : ℕ) (room : ResultRoom) : Type 0 where
  pub reads : HasRoom files room.reads
  pub ended : HasRoom files room.ended
  pub answers : HasRoom files room.answers
  pub values : HasRoom valuers room.values
  pub takers : HasRoom valuers room.takers
  pub items : HasRoom valuers room.items
