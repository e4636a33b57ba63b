-- What the lanes of a window see and retain. A window has 64 codes from `base` on; lane i is the block with the code base + i, if its
-- cone is the window's, with the rows `own`.
use Rattle.std.specs.Prelude.{◌≡◌, ℕ, ◌+◌, ◌-◌, ◌<◌, ◌≤◌, ◌^◌, Bool, true, false, List, All, Contains, length, map, slice_get, slice_index, slice_index_or, ◌⊎◌}
use Rattle.std.specs.List.Sorted.{IsStrictlyIncreasing}
use Rattle.precedence.specs.inner.lanes.Bits.{has_bit}
use Rattle.precedence.specs.inner.Rows.{is_in_rows}
use Rattle.precedence.specs.inner.ZoneTables.{rows_of_table}
use Rattle.precedence.specs.declared.cones.block_cones.BlockCones.{BlockCones}
use Rattle.precedence.specs.declared.cones.cone_rows.Row.{Row}
use Rattle.precedence.specs.declared.cones.cone_table.ConeTable.{ConeTable}
use Rattle.precedence.specs.declared.lanes.covering.TheConstants.{COVERS}
use Rattle.precedence.specs.declared.lanes.strips.Found.{Found}
use Rattle.precedence.specs.declared.lanes.strips.Cover.{Cover}
use Rattle.precedence.specs.declared.lanes.strip.Strip.{Strip}
use Rattle.precedence.specs.declared.lanes.strips.Strips.{Strips}
use Rattle.precedence.specs.declared.lanes.strips.Sight.{Sight}
use Rattle.precedence.specs.declared.lanes.strips.Window.{Window}
use Rattle.precedence.specs.declared.lanes.strips.Windows.{Windows}
use Rattle.precedence.specs.inner.Between.{cone_of, is_in_cone, IsBetween}

-- ---- bits: lane i sees the bit i + k of a strip at the strip's distance start + k

-- the distance is one of the strip
abbrev pub HasDistance : Strip → ℕ → Type 0
HasDistance strip e = (strip.start ≤ e) × (e < strip.start + strip.len)

-- lane i sees a block of the strip at the distance e
pub record SeesAt (strip : Strip) (i e : ℕ) : Type 0 where
  pub distance : HasDistance strip e
  pub bit : has_bit strip.word (i + (e - strip.start)) ≡ true

-- lane i sees a block of the strip at the distance e, and from there `distance` is in the rows of a cone
pub record Meets (strip : Strip) (rows : List Row) (distance i e : ℕ) : Type 0 where
  pub sees : SeesAt strip i e
  pub lower : e ≤ distance
  pub below : is_in_rows 0 rows (distance - e) ≡ true

-- lane i meets the rows by the strip with the number
abbrev pub MeetsAt : List Strip → List Row → (distance k i : ℕ) → Type 0
MeetsAt strips rows distance k i = (k < length strips) × (e : ℕ) × ((s : Strip) → Meets (slice_index_or strips k s) rows distance i e)

-- by one of the strips
abbrev pub MeetsIn : List Strip → List Row → (distance i : ℕ) → Type 0
MeetsIn strips rows distance i = (k : ℕ) × MeetsAt strips rows distance k i

-- the rows of the table with the number, by the strips of that table
abbrev pub MeetsTable : List ConeTable → List Strips → (distance n i : ℕ) → Type 0
MeetsTable tables by_table distance n i =
    (n < length tables) × ((t : ConeTable) (s : Strips) → MeetsIn (slice_index_or by_table n s).strips.items (slice_index_or tables n t).rows.items distance i)

-- the rows of some table
abbrev pub MeetsAny : List ConeTable → List Strips → (distance i : ℕ) → Type 0
MeetsAny tables by_table distance i = (n : ℕ) × MeetsTable tables by_table distance n i

-- some lanes may be dropped, each for the reason `Why`
pub record MayDrop (Why : ℕ → Type 0) (lanes rest : ℕ) : Type 0 where
  pub among : (i : ℕ) → has_bit rest i ≡ true → has_bit lanes i ≡ true
  pub dropped : (i : ℕ) → has_bit lanes i ≡ true → has_bit rest i ≡ true ⊎ Why i

-- exactly the lanes with the reason `Why` are dropped
pub record Drops (Why : ℕ → Type 0) (lanes rest : ℕ) : Type 0 where
  pub may : MayDrop Why lanes rest
  pub none : (i : ℕ) → has_bit rest i ≡ true → Why i → ⊥

-- all lanes see a block of the cover's strip at each of its distances
pub record IsCover (lanes : ℕ) (by_table : List Strips) (cover : Cover) : Type 0 where
  pub table : cover.first < cover.past → cover.table < length by_table
  pub strip : (s : Strips) → cover.first < cover.past → cover.strip < length (slice_index_or by_table cover.table s).strips.items
  pub all : (i e : ℕ) (s : Strips) (t : Strip) → cover.first ≤ e → e < cover.past → has_bit lanes i ≡ true
      → SeesAt (slice_index_or (slice_index_or by_table cover.table s).strips.items cover.strip t) i e

-- at most `COVERS` covers
pub record AreCovers (lanes : ℕ) (by_table : List Strips) (covers : List Cover) : Type 0 where
  pub all : All (IsCover lanes by_table) covers
  pub few : length covers ≤ COVERS

-- bits of offsets from the distance `start` on are cleared only if all lanes see a block between, for any lanes that have these covers
pub record AreUncovered (tables : List ConeTable) (covers : List Cover) (start offsets rest : ℕ) : Type 0 where
  pub among : (k : ℕ) → has_bit rest k ≡ true → has_bit offsets k ≡ true
  pub covered : (lanes i k : ℕ) (by_table : List Strips) → length by_table ≡ length tables → All (IsCover lanes by_table) covers
      → has_bit lanes i ≡ true → has_bit offsets k ≡ true → has_bit rest k ≡ false → MeetsAny tables by_table (start + k) i

-- the lane is among the lanes found at a distance
abbrev pub IsFoundFor : List Found → (i distance : ℕ) → Type 0
IsFoundFor found i distance =
    (k : ℕ) × (k < length found) × ((f : Found) → ((slice_index_or found k f).distance ≡ distance) × (has_bit (slice_index_or found k f).lanes i ≡ true))

-- the lane sees a block there that is retained
pub record IsRetained (tables : List ConeTable) (sight : Sight) (lanes i distance : ℕ) : Type 0 where
  pub lane : has_bit lanes i ≡ true
  pub seen : (k : ℕ) × (k < length sight.all.strips.items) × ((s : Strip) → SeesAt (slice_index_or sight.all.strips.items k s) i distance)
  pub alone : MeetsAny tables sight.by_table.items distance i → ⊥

-- at each offset of the strip that is not in `offsets`, each lane that sees a block has another one between
abbrev pub HasOffsets : List ConeTable → List Strips → (lanes : ℕ) → Strip → (offsets : ℕ) → Type 0
HasOffsets tables by_table lanes strip offsets =
    (i k : ℕ) → k < strip.len → has_bit lanes i ≡ true → has_bit strip.word (i + k) ≡ true → has_bit offsets k ≡ false
    → MeetsAny tables by_table (strip.start + k) i

-- what lanes retain at the distances below `upto`, in order
pub record AreFound (tables : List ConeTable) (sight : Sight) (lanes upto : ℕ) (found : List Found) : Type 0 where
  pub rising : IsStrictlyIncreasing (map (λ f. f.distance) found)
  pub below : All (λ f. f.distance < upto) found
  pub sound : (k i : ℕ) (f : Found) → k < length found → has_bit (slice_index_or found k f).lanes i ≡ true
      → IsRetained tables sight lanes i (slice_index_or found k f).distance
  pub complete : (j i distance : ℕ) (s : Strip) → distance < upto → j < length sight.all.strips.items → has_bit lanes i ≡ true
      → SeesAt (slice_index_or sight.all.strips.items j s) i distance
      → IsFoundFor found i distance ⊎ MeetsAny tables sight.by_table.items distance i

-- what lanes retain of the first `number` strips is found
pub record AreFoundBy (tables : List ConeTable) (sight : Sight) (lanes number : ℕ) (found : List Found) : Type 0 where
  pub upto : ℕ
  pub are : AreFound tables sight lanes upto found
  pub small : upto ≤ 10 ^ 15
  pub passed : (k : ℕ) (s : Strip) → k < number → k < length sight.all.strips.items
      → (slice_index_or sight.all.strips.items k s).start + (slice_index_or sight.all.strips.items k s).len ≤ upto
  pub coming : (k : ℕ) (s : Strip) → number ≤ k → k < length sight.all.strips.items → upto ≤ (slice_index_or sight.all.strips.items k s).start

-- ---- blocks

-- the blocks of a model by identifier: their codes and zones, the number of each zone's table, and the tables
pub record Scene : Type 0 where
  pub codes : List ℕ
  pub zones : List ℕ
  pub of_zone : List ℕ
  pub tables : List ConeTable

abbrev pub scene : BlockCones → Scene
scene b = record { codes = b.places.now.codes.items; zones = b.zones.now; of_zone = b.tables.now.of_zone.items; tables = b.tables.now.tables.items }

-- the number of the table for a block's cone
abbrev pub table_of : Scene → ℕ → ℕ
table_of b id = slice_index b.of_zone (slice_index b.zones id)

-- the rows of a table
abbrev pub rows_of : Scene → ℕ → List Row
rows_of b number = rows_of_table (slice_get b.tables number)

-- the kinds of blocks: all, or the blocks whose cones have one table
abbrev pub any_block : ℕ → Type 0
any_block id = id ≡ id

abbrev pub of_table : Scene → ℕ → ℕ → Type 0
of_table b number id = table_of b id ≡ number

-- the block is of this kind and has the code
pub record IsBlockAt (b : Scene) (Is : ℕ → Type 0) (code id : ℕ) : Type 0 where
  pub within : id < length b.codes
  pub code_is : slice_index b.codes id ≡ code
  pub kind : Is id

-- the strip has the bits of the blocks of this kind that its lanes can see and that come before the block `upto`
pub record IsStrip (b : Scene) (Is : ℕ → Type 0) (own : List Row) (base upto : ℕ) (strip : Strip) : Type 0 where
  pub inside : (e : ℕ) → HasDistance strip e → is_in_rows 0 own e ≡ true
  pub sound : (p : ℕ) → has_bit strip.word p ≡ true → (id : ℕ) × IsBlockAt b Is (base + strip.start + p) id
  pub complete : (p id : ℕ) → p < strip.len + 63 → id < upto → IsBlockAt b Is (base + strip.start + p) id → has_bit strip.word p ≡ true

-- strips that end by `at`, with each distance before it at which some lane sees a block of this kind
pub record AreStrips (b : Scene) (Is : ℕ → Type 0) (own : List Row) (base at : ℕ) (strips : List Strip) : Type 0 where
  pub each : All (IsStrip b Is own base (length b.codes)) strips
  pub ends : (k : ℕ) (s : Strip) → k < length strips → (slice_index_or strips k s).start + (slice_index_or strips k s).len ≤ at
  pub all : (i e id : ℕ) → i < 64 → e < at → is_in_rows 0 own e ≡ true → IsBlockAt b Is (base + i + e) id
      → (k : ℕ) × (k < length strips) × ((s : Strip) → HasDistance (slice_index_or strips k s) e)

-- a window sees everything before `at`
pub record Sees (b : Scene) (own : List Row) (base at : ℕ) (sight : Sight) : Type 0 where
  pub every : AreStrips b any_block own base at sight.all.strips.items
  pub tables : length sight.by_table.items ≡ length b.tables
  pub each : (number : ℕ) (s : Strips) → number < length sight.by_table.items
      → AreStrips b (of_table b number) own base at (slice_index_or sight.by_table.items number s).strips.items

-- as seen from the code `from`, the block `id` at the distance e has `distance` in its cone
pub record IsBetweenAt (b : Scene) (own : List Row) (from distance e number id : ℕ) : Type 0 where
  pub above : is_in_rows 0 own e ≡ true
  pub at : IsBlockAt b (of_table b number) (from + e) id
  pub lower : e ≤ distance
  pub below : is_in_rows 0 (rows_of b number) (distance - e) ≡ true

-- some block is between
abbrev pub HasBetween : Scene → List Row → (from distance : ℕ) → Type 0
HasBetween b own from distance = (e : ℕ) × (number : ℕ) × (id : ℕ) × IsBetweenAt b own from distance e number id

-- the lane i retains at a distance exactly if the block with the code `from` does, whose cone has the rows `own`
pub record IsLane (b : Scene) (own : List Row) (from i : ℕ) (found : List Found) : Type 0 where
  pub rising : IsStrictlyIncreasing (map (λ f. f.distance) found)
  pub sound : (distance : ℕ) → IsFoundFor found i distance
      → (is_in_rows 0 own distance ≡ true) × ((id : ℕ) × IsBlockAt b any_block (from + distance) id) × (HasBetween b own from distance → ⊥)
  pub complete : (distance id : ℕ) → is_in_rows 0 own distance ≡ true → IsBlockAt b any_block (from + distance) id
      → IsFoundFor found i distance ⊎ HasBetween b own from distance

-- a window has what each of its lanes retains
pub record IsWindow (b : Scene) (number : ℕ) (window : Window) : Type 0 where
  pub lanes : (i : ℕ) → has_bit window.lanes i ≡ true → i < 64 → IsLane b (rows_of b number) (window.base + i) i window.found.items

-- the block with the code is a lane of the window
pub record HasLane (window : Window) (code : ℕ) : Type 0 where
  pub low : window.base ≤ code
  pub up : code < window.base + 64
  pub bit : has_bit window.lanes (code - window.base) ≡ true

-- there is a window for each table, and a sight by table
pub record AreWindows (b : Scene) (windows : Windows) : Type 0 where
  pub tables : length windows.windows.items ≡ length b.tables
  pub sight : length windows.sight.by_table.items ≡ length b.tables
  pub each : (number : ℕ) (w : Window) → number < length windows.windows.items → IsWindow b number (slice_index_or windows.windows.items number w)

-- the rows of each block's cone
abbrev pub cones_of : Scene → ℕ → List Row
cones_of b = cone_of b.tables b.of_zone b.zones

-- an identifier is in the cone of another
abbrev pub is_above : Scene → ℕ → ℕ → Bool
is_above b = is_in_cone b.codes (cones_of b)

-- the reduced list: the identifiers in the cone of a block that are in the cone of no other block there
pub record AreRetained (b : Scene) (id : ℕ) (retained : List ℕ) : Type 0 where
  pub rising : IsStrictlyIncreasing retained
  pub sound : (c : ℕ) → Contains retained c → (c < length b.codes) × (is_above b id c ≡ true) × ((d : ℕ) → IsBetween b.codes (cones_of b) id c d → ⊥)
  pub complete : (c : ℕ) → c < length b.codes → is_above b id c ≡ true → Contains retained c ⊎ ((d : ℕ) × IsBetween b.codes (cones_of b) id c d)
