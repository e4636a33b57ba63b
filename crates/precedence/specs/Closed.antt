-- Closed lists of predecessors: an arc joins each block to each of its predecessors that a path reaches.
use Rattle.std.specs.Prelude.{ℕ, zero, suc, ◌<◌, List, [], Contains, slice_index_or}

-- an arc leads from b to c: c is a predecessor of b
abbrev pub HasArc : List (List ℕ) → ℕ → ℕ → Type 0
HasArc lists b c = Contains (slice_index_or lists b []) c

-- each block has predecessors with larger identifiers only
abbrev pub ComeLater : List (List ℕ) → Type 0
ComeLater lists = (b c : ℕ) → HasArc lists b c → b < c

-- a path from b to c along arcs, with n blocks between
abbrev pub HasPath : List (List ℕ) → ℕ → ℕ → ℕ → Type 0
HasPath lists zero b c = HasArc lists b c
HasPath lists (suc n) b c = (d : ℕ) × HasArc lists b d × HasPath lists n d c

-- a predecessor of a block is also a predecessor of each of the block's predecessors from which a path leads to it
abbrev pub AreClosed : List (List ℕ) → Type 0
AreClosed lists = (b c d n : ℕ) → HasArc lists b c → HasArc lists b d → HasPath lists n d c → HasArc lists d c
