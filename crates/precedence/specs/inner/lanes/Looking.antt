-- What a strip adds to what a window sees.
use Rattle.std.specs.Prelude.{◌≡◌, ℕ, ◌+◌, ◌-◌, ◌<◌, ◌≤◌, true, false, ◌⊎◌, List, length, slice_index, slice_index_or}
use Rattle.precedence.specs.inner.lanes.Bits.{has_bit}
use Rattle.precedence.specs.inner.lanes.Windows.{any_block, HasDistance, IsBlockAt, of_table, Scene, table_of}
use Rattle.precedence.specs.inner.Rows.{is_in_rows, start_of}
use Rattle.precedence.specs.declared.cones.cone_rows.Row.{Row}
use Rattle.precedence.specs.declared.lanes.strip.Strip.{Strip}
use Rattle.precedence.specs.declared.lanes.strips.Strips.{Strips}
use Rattle.precedence.specs.declared.lanes.strips.Sight.{Sight}

-- the blocks from `id` to `past` (exclusive) have cones of one table; the bits are their codes as seen from the code `from`, below `most`
pub record IsRange (b : Scene) (id past from most bits : ℕ) : Type 0 where
  pub later : id < past
  pub within : past ≤ length b.codes
  pub table : (c : ℕ) → id ≤ c → c < past → table_of b c ≡ table_of b id
  pub below : (p : ℕ) → has_bit bits p ≡ true → p < most
  pub sound : (p : ℕ) → has_bit bits p ≡ true → (c : ℕ) × (id ≤ c) × (c < past) × (slice_index b.codes c ≡ from + p)
  pub complete : (p c : ℕ) → p < most → id ≤ c → c < past → slice_index b.codes c ≡ from + p → has_bit bits p ≡ true

-- the word has only bits of blocks of this kind, as seen from the code `from`, and all bits below `most` of the blocks before `upto`
pub record HasBlocks (b : Scene) (Is : ℕ → Type 0) (from most upto word : ℕ) : Type 0 where
  pub sound : (p : ℕ) → has_bit word p ≡ true → (id : ℕ) × IsBlockAt b Is (from + p) id
  pub complete : (p id : ℕ) → p < most → id < upto → IsBlockAt b Is (from + p) id → has_bit word p ≡ true

-- the word has the bits of two others
pub record IsJoined (one other word : ℕ) : Type 0 where
  pub left : (p : ℕ) → has_bit one p ≡ true → has_bit word p ≡ true
  pub right : (p : ℕ) → has_bit other p ≡ true → has_bit word p ≡ true
  pub either : (p : ℕ) → has_bit word p ≡ true → has_bit one p ≡ false → has_bit other p ≡ true

-- the strips have the same distances
pub record IsLike (strip s : Strip) : Type 0 where
  pub start : s.start ≡ strip.start
  pub len : s.len ≡ strip.len

-- the bits are put into the last strip, which is appended if it is missing
pub record IsPut (strip : Strip) (bits : ℕ) (old new : List Strip) : Type 0 where
  pub more : length old ≤ length new
  pub few : length new ≤ length old + 1
  pub some : 0 < length new
  pub kept : (k : ℕ) (s : Strip) → k + 1 < length new → slice_index_or new k s ≡ slice_index_or old k s
  pub like : (s : Strip) → IsLike strip (slice_index_or new (length new - 1) s)
  pub alone : (s : Strip) → length old < length new → (slice_index_or new (length old) s).word ≡ bits
  pub lacking : (s : Strip) → length old < length new → 0 < length old → (slice_index_or old (length old - 1) s).start ≡ strip.start → ⊥
  pub there : (s : Strip) → length new ≡ length old → (slice_index_or old (length old - 1) s).start ≡ strip.start
  pub joined : (s : Strip) → length new ≡ length old
      → IsJoined (slice_index_or old (length old - 1) s).word bits (slice_index_or new (length old - 1) s).word

-- a strip has the distances of another one, and the bits of the blocks of this kind before `upto`
pub record IsPart (b : Scene) (Is : ℕ → Type 0) (from upto : ℕ) (strip s : Strip) : Type 0 where
  pub like : IsLike strip s
  pub blocks : HasBlocks b Is from (strip.len + 63) upto s.word

-- strips have one more with these distances, if a lane sees such a block there
pub record IsGrown (b : Scene) (Is : ℕ → Type 0) (from upto : ℕ) (strip : Strip) (old new : List Strip) : Type 0 where
  pub more : length old ≤ length new
  pub few : length new ≤ length old + 1
  pub kept : (k : ℕ) (s : Strip) → k < length old → slice_index_or new k s ≡ slice_index_or old k s
  pub last : (s : Strip) → length old < length new → IsPart b Is from upto strip (slice_index_or new (length old) s)
  pub none : length new ≡ length old → HasBlocks b Is from (strip.len + 63) upto 0

-- such a strip is appended to the strips of each table
pub record AreGrown (b : Scene) (from upto : ℕ) (strip : Strip) (old new : List Strips) : Type 0 where
  pub tables : length new ≡ length old
  pub each : (n : ℕ) (s : Strips) → n < length old
      → IsGrown b (of_table b n) from upto strip (slice_index_or old n s).strips.items (slice_index_or new n s).strips.items

-- such a strip is appended to the strips of all blocks and of each table
pub record HasAdded (b : Scene) (base : ℕ) (strip : Strip) (old new : Sight) : Type 0 where
  pub all : IsGrown b any_block (base + strip.start) (length b.codes) strip old.all.strips.items new.all.strips.items
  pub by_table : AreGrown b (base + strip.start) (length b.codes) strip old.by_table.items new.by_table.items

-- strips that end by a distance
abbrev pub EndBy : ℕ → List Strip → Type 0
EndBy at strips = (k : ℕ) (s : Strip) → k < length strips → (slice_index_or strips k s).start + (slice_index_or strips k s).len ≤ at

abbrev pub TablesEndBy : ℕ → List Strips → Type 0
TablesEndBy at by_table = (n : ℕ) (s : Strips) → n < length by_table → EndBy at (slice_index_or by_table n s).strips.items

-- the same, but the last one may have the distances of this strip
abbrev pub EndByOrLike : Strip → List Strip → Type 0
EndByOrLike strip strips = (k : ℕ) (s : Strip) → k < length strips
    → ((slice_index_or strips k s).start + (slice_index_or strips k s).len ≤ strip.start) ⊎ ((k + 1 ≡ length strips) × IsLike strip (slice_index_or strips k s))

-- the first row that ends after a distance
pub record IsRowFrom (rows : List Row) (at : ℕ) (row : Row) : Type 0 where
  pub some : row.first < row.past
  pub left : at < row.past
  pub inside : (e : ℕ) → row.first ≤ e → e < row.past → is_in_rows 0 rows e ≡ true
  pub none : (e : ℕ) → at ≤ e → e < row.first → is_in_rows 0 rows e ≡ false

-- no lane sees a block at the distances from `at` to `to` (exclusive)
abbrev pub HasNone : Scene → List Row → (base at to : ℕ) → Type 0
HasNone b own base at to = (i e id : ℕ) → i < 64 → at ≤ e → e < to → is_in_rows 0 own e ≡ true → IsBlockAt b any_block (base + i + e) id → ⊥

-- the next distances from `at` on at which some lane sees a block
pub record IsNext (b : Scene) (own : List Row) (base at : ℕ) (strip : Strip) : Type 0 where
  pub later : at ≤ strip.start
  pub inside : (e : ℕ) → HasDistance strip e → is_in_rows 0 own e ≡ true
  pub first : strip.id ≡ start_of (base + strip.start) b.codes
  pub passed : HasNone b own base at strip.start
