-- The properties of a model file that is being read.
use Rattle.std.specs.Prelude.{◌≡◌, ◌<◌, ◌≤◌, true, ℕ, ℤ, List, [], length, All}
use Rattle.minelib_reading.specs.HeaderNumbers.{count_in}
use Rattle.minelib_reading.specs.ModelDraft.{is_heading}
use Rattle.minelib_reading.specs.declared.model.key.Header.{Header}
use Rattle.minelib_reading.specs.declared.model.key.Section.{Section}
use Rattle.minelib_reading.specs.inner.ModelParts.{number_limit}
use Rattle.minelib_lines.specs.declared.header_key.HeaderKey.{HeaderKey}
use Rattle.minelib_lines.specs.declared.header_key.HeaderKey.TheVariants as key
use Rattle.plan_parts.specs.declared.ranges.TheConstants.{MAX_BLOCKS}

-- numbers are below the limits of their keys; within the header there are no values; and each block has one value for each
-- destination
pub record KeepsModel (blocks : ℕ) (header : Header) (section : Section) (values : List (List ℤ)) : Type 0 where
  pub few : blocks ≤ MAX_BLOCKS
  pub numbers : (k : HeaderKey) → count_in header k < number_limit k
  pub heading : is_heading section ≡ true → values ≡ []
  pub width : All (λ of_block. length of_block ≡ count_in header key.Destinations) values
