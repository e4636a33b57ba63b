-- The codes of a cone's blocks.
use Rattle.std.proofs.Common.{◌≡◌, ℕ, ◌+◌, ◌-◌, ◌<◌, ◌≤◌, ◌&&◌, Bool, true, false, nat_lt, nat_le, max, refl, sym, ap, ◌∙◌, arith, if◌then◌else◌}
use Rattle.std.specs.Int.{abs_diff}
use Rattle.std.proofs.lemmas.Bool.{lt-ltb, ltb-true, ltb-false, le-leb}
use Rattle.std.proofs.lemmas.Bool.Decides.{nat_tests}
use Rattle.plan_parts.specs.declared.block.Block.{Block}
use Rattle.plan_parts.specs.declared.cone.Cone.{Cone}
use Rattle.plan_parts.specs.declared.cone.Slope.{Slope}
use Rattle.plan_parts.specs.declared.grid.Grid.{Grid}
use Rattle.precedence.specs.Codes.{place_code}
use Rattle.precedence.specs.Cone.{is_above, is_within_slopes, slope_along_x, slope_along_y}
use Rattle.precedence.specs.inner.Reach.{CountsRow, slope_across}
use Rattle.precedence.specs.inner.Rows.{center, is_in_row}
use Rattle.precedence.specs.declared.cones.cone_rows.SideCounts.{SideCounts}
use Rattle.precedence.specs.declared.cones.cone_rows.Row.{Row}

-- `high` is in the row i of the bench dz above `low`
pub record IsAt (rows dz i : ℕ) (low high : Block) : Type 0 where
  pub bench : high.z ≡ low.z + dz
  pub row : high.y + rows ≡ low.y + i

module _ (grid : Grid) (cone : Cone) (rows dz i : ℕ) (low high : Block) (up : 1 ≤ dz) (within : dz
    ≤ cone.k) (at : IsAt rows dz i low high) where
  same_rise : high.z - low.z ≡ dz
  same_rise = omega (arith, at.bench)

  same_side : nat_lt low.y high.y ≡ nat_lt rows i
  same_side = let r = at.row in grind (arith, nat_tests)

  same_rows : abs_diff low.y high.y ≡ abs_diff i rows
  same_rows = omega (arith, at.row)

  -- only the test of the slopes remains
  pub above_is : is_above grid cone low high
      ≡ is_within_slopes grid (slope_along_x cone low high) (slope_across cone rows i) (abs_diff low.x high.x) (abs_diff i rows) dz
  above_is =
      let higher : nat_lt low.z high.z ≡ true = lt-ltb _ _ (omega (arith, at.bench)) in
      let near : nat_le (high.z - low.z) cone.k ≡ true = le-leb _ _ (omega (arith, at.bench)) in
      let slope : slope_along_y cone low high ≡ slope_across cone rows i = ap (λ b. if b then cone.north else cone.south) same_side in
      λ j. higher j && (near j && is_within_slopes grid (slope_along_x cone low high) (slope j)
      (abs_diff low.x high.x) (same_rows j) (same_rise j))

-- a code next to the middle of a row, on either side
outside : (low high middle x y west east : ℕ) → high + x ≡ (low + middle) + y → 10000 ≤ middle → west ≤ 10000
    → (nat_le (low + (middle + 1 - west)) high && nat_lt high (low + (middle + max east 1)))
    ≡ (if nat_lt x y then nat_lt (y - x) east else nat_lt (x - y) west)
outside low high middle x y west east e far few = grind (arith, nat_tests)

-- a row with these counts has exactly the codes of its blocks above
module _ (grid : Grid) (cone : Cone) (rows dz i : ℕ) (counts : SideCounts) (counted : CountsRow grid cone rows dz i counts)
    (low high : Block) (up : 1 ≤ dz) (within : dz ≤ cone.k) (small : rows < 10000) (at : IsAt rows dz i low high) where
  slopes : Slope → ℕ → Bool
  slopes along dx = is_within_slopes grid along (slope_across cone rows i) dx (abs_diff i rows) dz

  -- the test on the side of `high`
  abbrev on_side : Bool → Bool
  on_side east = if east then nat_lt (high.x - low.x) counts.east else nat_lt (low.x - high.x) counts.west

  side_is : is_above grid cone low high ≡ on_side (nat_lt low.x high.x)
  unfolding slopes
  side_is = above_is grid cone rows dz i low high up within at ∙ by (nat_lt low.x high.x) refl
    where
      by : (b : Bool) → nat_lt low.x high.x ≡ b → slopes (if b then cone.east else cone.west) (abs_diff low.x high.x) ≡ on_side b
      by true e =
          let bx = high.x_in_grid in
          let east = ltb-true low.x high.x e in
          let d : abs_diff low.x high.x ≡ high.x - low.x = omega arith in
          ap (slopes cone.east) d ∙ counted.east (high.x - low.x) (omega arith)
      by false e =
          let ax = low.x_in_grid in
          let west = ltb-false low.x high.x e in
          let d : abs_diff low.x high.x ≡ low.x - high.x = omega arith in
          ap (slopes cone.west) d ∙ counted.west (low.x - high.x) (omega arith)

  -- the two codes, by the middle of the row
  apart_is : place_code high + low.x ≡ (place_code low + center rows dz i) + high.x
  apart_is = omega (arith, at.bench, at.row)

  far : 10000 ≤ center rows dz i
  far = omega arith

  pub row_exact : (row : Row) → row.first ≡ center rows dz i + 1 - counts.west → row.past ≡ center rows dz i + max counts.east 1
      → is_in_row (place_code low) row (place_code high) ≡ is_above grid cone low high
  row_exact row first past =
      (λ j. nat_le (place_code low + first j) (place_code high) && nat_lt (place_code high) (place_code low + past j))
      ∙ outside (place_code low) (place_code high) (center rows dz i) low.x high.x counts.west counts.east apart_is far counted.few_west
      ∙ sym side_is
