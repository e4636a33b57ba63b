-- The values of pits and schedules, and the best of them. `n` is the number of blocks.
use Rattle.std.specs.Prelude.{◌≡◌, ℕ, zero, suc, ◌+◌, ◌*◌, ◌≤◌, Bool, true, if◌then◌else◌, List, ℤ, pos, ◌+ℤ◌, ◌*ℤ◌, ◌≤ℤ◌}
use Rattle.fewer_arcs.specs.Mined.{IsMinedInOrder, IsPit, IsSchedule}

-- f 0 + f 1 + .. + f (n - 1)
abbrev pub sum : ℕ → (ℕ → ℤ) → ℤ
sum zero f = pos 0
sum (suc n) f = sum n f +ℤ f n

abbrev pub count : ℕ → (ℕ → ℕ) → ℕ
count zero f = 0
count (suc n) f = count n f + f n

-- one of these choices, none of which has a larger value
abbrev pub IsBest : {X : Type 0} → (X → Type 0) → (X → ℤ) → X → Type 0
IsBest {X} Is worth best = Is best × ((other : X) → Is other → (worth other) ≤ℤ (worth best))

-- UPIT: the value of a pit's blocks
abbrev pub pit_value : ℕ → (ℕ → ℤ) → (ℕ → Bool) → ℤ
pit_value n value pit = sum n (λ b. if pit b then value b else pos 0)

abbrev pub IsUltimatePit : List (List ℕ) → ℕ → (ℕ → ℤ) → (ℕ → Bool) → Type 0
IsUltimatePit lists n value pit = IsBest (IsPit lists) (pit_value n value) pit

-- CPIT: the value of each block times the weight of its period. A block in a period with weight 0 adds nothing, as if it were never
-- mined.
abbrev pub schedule_value : ℕ → (ℕ → ℕ) → (ℕ → ℤ) → (ℕ → ℕ) → ℤ
schedule_value n weight value period_of = sum n (λ b. pos (weight (period_of b)) *ℤ value b)

-- the best of the schedules within limits, which may be any condition
abbrev pub IsBestSchedule : List (List ℕ) → ((ℕ → ℕ) → Bool) → ℕ → (ℕ → ℕ) → (ℕ → ℤ) → (ℕ → ℕ) → Type 0
IsBestSchedule lists is_within n weight value period_of =
    IsBest (λ other. IsSchedule lists other × (is_within other ≡ true)) (schedule_value n weight value) period_of

-- PCPSP: a share of each block by period and destination, an integer in some unit
abbrev pub Shares : Type 0
Shares = ℕ → ℕ → ℕ → ℕ

-- the share of a block that is mined in a period, and by the period's end
abbrev pub mined_in : ℕ → Shares → ℕ → ℕ → ℕ
mined_in destinations shares b period = count destinations (shares b period)

abbrev pub mined_by : ℕ → Shares → ℕ → ℕ → ℕ
mined_by destinations shares b period = count (suc period) (mined_in destinations shares b)

-- what shares are chosen for: the number of blocks, of periods and of destinations, the unit of shares, the weight of each period, and the
-- value of each block at each destination
pub record ShareModel : Type 0 where
  pub blocks : ℕ
  pub periods : ℕ
  pub destinations : ℕ
  pub unit : ℕ
  pub weight : ℕ → ℕ
  pub value : ℕ → ℕ → ℤ

-- each share times the weight of its period and the value of its block at its destination
abbrev pub shares_value : ShareModel → Shares → ℤ
shares_value m shares = sum m.blocks (λ b. sum m.periods (λ period.
    sum m.destinations (λ d. pos (m.weight period * shares b period d) *ℤ m.value b d)))

-- at most `unit` of each block is mined, and by the end of a period no more of a block than of each predecessor
pub record IsSharedOut (lists : List (List ℕ)) (unit destinations : ℕ) (shares : Shares) : Type 0 where
  pub order : IsMinedInOrder lists (mined_by destinations shares)
  pub most : (b period : ℕ) → mined_by destinations shares b period ≤ unit

abbrev pub AreBestShares : List (List ℕ) → (Shares → Bool) → ShareModel → Shares → Type 0
AreBestShares lists are_within m shares =
    IsBest (λ other. IsSharedOut lists m.unit m.destinations other × (are_within other ≡ true)) (shares_value m) shares

-- the weights of the periods never rise, and are 0 after the last period
pub record Fall (periods : ℕ) (weight : ℕ → ℕ) : Type 0 where
  pub falls : (period : ℕ) → weight (suc period) ≤ weight period
  pub ends : weight periods ≡ 0
