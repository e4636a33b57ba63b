-- The largest length of a zone file.
use Rattle.std.specs.Prelude.{ℕ}
use Rattle.plan_parts.specs.declared.ranges.TheConstants.{MAX_FILE_BYTES}

-- the largest number of bytes of a zone file
abbrev pub most_bytes : ℕ
most_bytes = MAX_FILE_BYTES
