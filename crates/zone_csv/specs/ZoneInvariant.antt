-- The properties of every zone file's blocks and fault.
use Rattle.std.specs.Prelude.{◌≡◌, ℕ, ◌+◌, ◌≤◌, List, [], length, All, ◌⊎◌, MatchOption}
use Rattle.records.specs.Records.{records_of}
use Rattle.plan_parts.specs.declared.grid.Grid.{Grid}
use Rattle.plan_parts.specs.declared.ranges.TheConstants.{MAX_ROWS}
use Rattle.zone_csv.specs.Zone.{blocks_of, fault_of}

-- a zone file has at most a million blocks
abbrev pub HasFewBlocks : Grid → ℕ → List ℕ → Type 0
HasFewBlocks grid zone text = length (blocks_of grid zone text) ≤ MAX_ROWS

-- all its blocks are of its zone
abbrev pub HasOwnBlocks : Grid → ℕ → List ℕ → Type 0
HasOwnBlocks grid zone text = All (λ block. block.zone ≡ zone) (blocks_of grid zone text)

-- its records are the header and one block each; or its fault belongs to the record after its blocks, or to the header
abbrev pub AccountsForRecords : Grid → ℕ → List ℕ → Type 0
AccountsForRecords grid zone text =
    MatchOption (fault_of grid zone text) (length (records_of text) ≡ length (blocks_of grid zone text) + 1)
    (λ fault. (fault.row ≡ length (blocks_of grid zone text) + 2) ⊎ ((fault.row ≡ 1) × (blocks_of grid zone text ≡ [])))
