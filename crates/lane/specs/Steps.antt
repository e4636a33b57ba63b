-- The steps of the code: how a send or a receive changes the view of its pass, and which sends and receives the ends make.
use Rattle.std.specs.Prelude.{◌≡◌, ℕ, ◌+◌, ◌<◌, true, false, cond, List, [], ◌∷◌, ◌++◌, length, Some}
use Rattle.std.specs.List.{AllByRecursion}
use Rattle.lane.specs.declared.message.Taken.{Taken}
use Rattle.lane.specs.declared.message.Taken.TheVariants.{Row, End, Stop, Quit}
use Rattle.lane.specs.declared.part.Part.{Part}
use Rattle.lane.specs.declared.part.Part.TheVariants.{Count, Put, Take, Close}
use Rattle.lane.specs.MessageKinds.{has_end, is_done, is_stop, is_quit, row_count}
use Rattle.lane.specs.Rule.{Role, Closer, role_of, Has, put_parts, take_parts}
use Rattle.plan_parts.specs.declared.ranges.TheConstants.{MAX_ROWS}

-- a part after its pass sent or took the message
abbrev pub more_part : Part → Taken → Part
more_part (Count files takers capacity) m = Count files takers capacity
more_part (Put file capacity sent) m = Put file capacity (sent ++ m ∷ [])
more_part (Take taker capacity took) m = Take taker capacity (took ++ m ∷ [])
more_part (Close files takers capacity stops quits) m = Close files takers capacity (stops + cond (is_stop m) 1 0) (quits + cond (is_quit m) 1 0)

-- the view after its first part sent or took the message
abbrev pub with_message : List Part → Taken → List Part
with_message [] m = []
with_message (part ∷ v) m = more_part part m ∷ v

-- no part of the view is of the role
abbrev pub IsFree : Role → List Part → Type 0
IsFree role v = AllByRecursion (λ part. role_of part ≡ Some role → ⊥) v

-- the view has the put parts of all files, and each has ended
abbrev pub HasEnded : ℕ → List Part → Type 0
HasEnded files v = (file : ℕ) → file < files → (capacity : ℕ) × (sent : List Taken) × Has (Put file capacity sent) v × (has_end sent ≡ true)

-- what a put end sends: the next row, or the end mark
abbrev pub PutSends : ℕ → List Taken → Taken → Type 0
PutSends file sent (Row f place block) = (f ≡ file) × (place ≡ length sent) × (has_end sent ≡ false) × (row_count sent < MAX_ROWS)
PutSends file sent (End f rows) = (f ≡ file) × (rows ≡ row_count sent) × (has_end sent ≡ false)
PutSends file sent Stop = ⊥
PutSends file sent Quit = ⊥

-- what the closer sends: a Stop once it has the ended parts of all files, or a Quit, never both kinds
abbrev pub CloseSends : ℕ → ℕ → ℕ → ℕ → List Part → Taken → Type 0
CloseSends files takers stops quits v (Row f place block) = ⊥
CloseSends files takers stops quits v (End f rows) = ⊥
CloseSends files takers stops quits v Stop = HasEnded files v × (quits ≡ 0) × (stops < takers)
CloseSends files takers stops quits v Quit = (stops ≡ 0) × (quits < takers)

-- what the ends of a lane with this capacity send
abbrev pub MaySend : ℕ → List Part → Taken → Type 0
MaySend n [] m = ⊥
MaySend n (Count files takers capacity ∷ v) m = ⊥
MaySend n (Take taker capacity took ∷ v) m = ⊥
MaySend n (Put file capacity sent ∷ v) m = (v ≡ []) × (capacity ≡ n) × PutSends file sent m
MaySend n (Close files takers capacity stops quits ∷ v) m = IsFree Closer v × (capacity ≡ n) × CloseSends files takers stops quits v m

-- a take end takes until it is done
abbrev pub MayTake : List Part → Type 0
MayTake [] = ⊥
MayTake (Count files takers capacity ∷ v) = ⊥
MayTake (Put file capacity sent ∷ v) = ⊥
MayTake (Take taker capacity took ∷ v) = (v ≡ []) × (is_done took ≡ false)
MayTake (Close files takers capacity stops quits ∷ v) = ⊥

-- the taker of the first part
abbrev pub taker_in : List Part → ℕ
taker_in [] = 0
taker_in (Count files takers capacity ∷ v) = 0
taker_in (Put file capacity sent ∷ v) = 0
taker_in (Take taker capacity took ∷ v) = taker
taker_in (Close files takers capacity stops quits ∷ v) = 0

-- the view of a closer that has all parts, once all Stops were put
abbrev pub full_view : ℕ → ℕ → ℕ → List (List Taken) → List (List Taken) → List Part
full_view files takers capacity sent took = Close files takers capacity takers 0 ∷ (put_parts capacity 0 sent ++ take_parts capacity 0 took)

-- these are the lists of all files and of all takers, and every taker is done
pub record IsFull (takers files : ℕ) (sent took : List (List Taken)) : Type 0 where
  pub all_files : length sent ≡ files
  pub all_takers : length took ≡ takers
  pub some_taker : 0 < takers
  pub done : AllByRecursion (λ l. is_done l ≡ true) took
