-- The rule of the lane's channel: what it holds and what its passes know is a state of the lane machine.
use Rattle.std.specs.Prelude.{◌≡◌, ℕ, ◌+◌, ◌<◌, List, [], ◌∷◌, ◌++◌, ◌⊎◌, Option, Some, None, replicate}
use Rattle.std.specs.List.{AllByRecursion}
use mathlib.Core.Option.{some}
use lib.ListN.{get_elem?}
use Rattle.lane.specs.declared.message.Taken.{Taken}
use Rattle.lane.specs.declared.part.Part.{Part}
use Rattle.lane.specs.declared.part.Part.TheVariants.{Count, Put, Take, Close}
use Rattle.lane.specs.Machine.{Size, State, IsReached}
use Rattle.lane.specs.Lawful.{IsLawful}

-- who has the part
pub data Role : Type 0 where
  Putter : (file : ℕ) → Role
  Taker : (taker : ℕ) → Role
  Closer : Role
  deriving Discrete as same_role

-- the lane has this role
abbrev pub IsRole : Size → Role → Type 0
IsRole n (Putter file) = file < n.files
IsRole n (Taker taker) = taker < n.takers
IsRole n Closer = Unit {0}

-- the part of a role: a put part has what its file sent, a take part what its taker took, the closer's part the numbers of Stops and Quits
-- put
abbrev pub part_of : Size → State → Role → Part
part_of n s (Putter file) = Put file n.capacity (s.sent file)
part_of n s (Taker taker) = Take taker n.capacity (s.took taker)
part_of n s Closer = Close n.files n.takers n.capacity s.stops s.quits

abbrev pub role_of : Part → Option Role
role_of (Count files takers capacity) = None
role_of (Put file capacity sent) = Some (Putter file)
role_of (Take taker capacity took) = Some (Taker taker)
role_of (Close files takers capacity stops quits) = Some Closer

-- the part is in the view
abbrev pub Has : Part → List Part → Type 0
Has part [] = ⊥
Has part (x ∷ v) = (part ≡ x) ⊎ Has part v

-- the part is of a role whose seat is this pass
abbrev pub IsSeated : Size → State → (Role → ℕ) → ℕ → Part → Type 0
IsSeated n s seat pass part = (role : Role) × IsRole n role × (part ≡ part_of n s role) × (seat role ≡ pass)

-- every part is at least once in the view of its seat, and in no other, and the views have nothing else
pub record AreSeated (n : Size) (s : State) (seat : Role → ℕ) (views : List (List Part)) : Type 0 where
  pub only : (pass : ℕ) (v : List Part) → get_elem? views pass ≡ some v → AllByRecursion (IsSeated n s seat pass) v
  pub stands : (role : Role) → IsRole n role → (v : List Part) × (get_elem? views (seat role) ≡ some v) × Has (part_of n s role) v

-- the lane is in the state s of its machine: a run of allowed events leads to it, it is lawful, its queue is what the channel holds, and
-- the views have its lists and numbers
pub record IsLaneAt (n : Size) (s : State) (items : List Taken) (views : List (List Part)) : Type 0 where
  pub reached : IsReached n s
  pub lawful : IsLawful n s
  pub queue : s.queue ≡ items
  pub seat : Role → ℕ
  pub seated : AreSeated n s seat views

-- the lane is not open yet: the first pass counts its files, its takers and its capacity, and nothing was put
pub record IsCounting (items : List Taken) (views : List (List Part)) : Type 0 where
  pub nothing : items ≡ []
  pub files : ℕ
  pub takers : ℕ
  pub capacity : ℕ
  pub first : get_elem? views 0 ≡ some (Count files takers capacity ∷ [])
  pub others : (pass : ℕ) (v : List Part) → get_elem? views pass ≡ some v → (pass ≡ 0 → ⊥) → v ≡ []

-- the rule of the channel
abbrev pub IsLane : List Taken → List (List Part) → Type 0
IsLane items views = IsCounting items views ⊎ ((n : Size) × (s : State) × IsLaneAt n s items views)

-- the parts of these lists, numbered from k on
abbrev pub parts_from : (ℕ → List Taken → Part) → ℕ → List (List Taken) → List Part
parts_from part k [] = []
parts_from part k (list ∷ rest) = part k list ∷ parts_from part (k + 1) rest

-- the put parts of these lists, from file k on, and the take parts, from taker k on
abbrev pub put_parts : ℕ → ℕ → List (List Taken) → List Part
put_parts capacity k sent = parts_from (λ file list. Put file capacity list) k sent

abbrev pub take_parts : ℕ → ℕ → List (List Taken) → List Part
take_parts capacity k took = parts_from (λ taker list. Take taker capacity list) k took

-- all parts of a lane that is opened: nothing was put or taken
abbrev pub all_parts : ℕ → ℕ → ℕ → List Part
all_parts files takers capacity = Close files takers capacity 0 0 ∷ (put_parts capacity 0 (replicate files []) ++ take_parts capacity 0 (replicate takers []))
