-- Blocks that follow one another along x and whose cones have the same table.
use Rattle.std.specs.Prelude.{◌≡◌, ℕ, ◌+◌, ◌<◌, List, length, slice_index}

-- the j-th block after a block has the j-th code after its code, and its cone the same table
pub record Follows (codes of_zone zones : List ℕ) (id j : ℕ) : Type 0 where
  pub within : id + j < length codes
  pub code : slice_index codes (id + j) ≡ slice_index codes id + j
  pub table : slice_index of_zone (slice_index zones (id + j)) ≡ slice_index of_zone (slice_index zones id)

-- `count` blocks, from `id` on, follow one another with the same table
abbrev pub HaveSameConeFrom : (codes of_zone zones : List ℕ) (id count : ℕ) → Type 0
HaveSameConeFrom codes of_zone zones id count = (j : ℕ) → j < count → Follows codes of_zone zones id j

-- each block has the number of such blocks from it on
pub record HaveSameCone (codes of_zone zones same_cone : List ℕ) : Type 0 where
  pub each : length same_cone ≡ length codes
  pub follow : (id : ℕ) → id < length codes → HaveSameConeFrom codes of_zone zones id (slice_index same_cone id)

-- `count` codes, from the index `id` on, follow one another
abbrev pub FollowFrom : (codes : List ℕ) (id count : ℕ) → Type 0
FollowFrom codes id count = (j : ℕ) → j < count → (id + j < length codes) × (slice_index codes (id + j) ≡ slice_index codes id + j)

-- each code has the number of such codes from it on
abbrev pub FollowAlong : (codes follow : List ℕ) → Type 0
FollowAlong codes follow = (length follow ≡ length codes) × ((id : ℕ) → id < length codes → FollowFrom codes id (slice_index follow id))
