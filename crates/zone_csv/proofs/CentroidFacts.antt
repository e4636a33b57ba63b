-- An index and the coordinate of its blocks.
use Rattle.std.proofs.Common.{◌≡◌, ℕ, ◌+◌, ◌*◌, ◌/◌, ◌%◌, ◌<◌, true, refl, sym, ◌∙◌, arith, ap, ℤ, pos, negsuc}
use Rattle.std.specs.Prelude.{◌-ℤ◌, ◌==◌, unsigned_abs}
use Rattle.std.proofs.lemmas.Bool.{eqb-true, eq-eqb}
use Rattle.std.proofs.lemmas.Int.{ints}
use Rattle.std.proofs.lemmas.Nat.{div-add-mod'}
use Rattle.std.proofs.Math.Nat.{mul-div_left, div-lt_iff_lt-mul}
use Rattle.plan_parts.specs.declared.grid.Axis.{Axis}
use Rattle.zone_csv.specs.Cell.{index_at, is_on_step, smallest}
use Rattle.zone_csv.specs.EncodedRow.{IsInGrid, centroid}

module _ (axis : Axis) (some : 0 < axis.size) where
  abbrev size : ℕ
  size = 1000 * axis.size

  -- the index of a coordinate's blocks
  pub index_is_centroid : (coordinate : ℤ) (index : ℕ) → IsInGrid axis coordinate → is_on_step axis coordinate ≡ true
      → index_at axis coordinate ≡ index → (coordinate ≡ centroid axis index) × (index < 10000)
  index_is_centroid coordinate index within step answer = by (coordinate -ℤ smallest axis) refl step answer
    where
      by : (above : ℤ) → (coordinate -ℤ smallest axis) ≡ above → (unsigned_abs above % size == 0) ≡ true → unsigned_abs above / size ≡ index
          → (coordinate ≡ centroid axis index) × (index < 10000)
      by (negsuc k) e step count = absurd (omega (arith, ints, e, within.0))
      by (pos k) e step count =
          let none : k % size ≡ 0 = eqb-true (k % size) 0 step in
          let sum : k / size * size + k % size ≡ k = div-add-mod' k size in
          let product : k / size * size ≡ index * size = ap (λ n. n * size) count in
          let all : k ≡ index * size = omega (arith, sum, none, product) in
          let low : k < 10000 * size = omega (arith, ints, e, within.1) in
          let few : k / size < 10000 = (div-lt_iff_lt-mul {k = size} {x = k} {y = 10000} (omega arith)).1 low in
          (omega (arith, ints, e, all), omega (arith, count, few))

  -- a coordinate at a multiple of the size above the origin is on a step, and is the centroid of the blocks with that multiple as
  -- index
  pub whole_sizes : (coordinate : ℤ) (above : ℕ) → IsInGrid axis coordinate → above ≡ unsigned_abs (coordinate -ℤ smallest axis)
      → above % size ≡ 0
      → (is_on_step axis coordinate ≡ true) × (coordinate ≡ centroid axis (above / size))
  whole_sizes coordinate above within is none =
      let step : is_on_step axis coordinate ≡ true =
      eq-eqb (unsigned_abs (coordinate -ℤ smallest axis) % size) 0 (ap (λ n. n % size) (sym is) ∙ none) in
      (step, (index_is_centroid coordinate (above / size) within step (ap (λ n. n / size) (sym is))).0)

  whole_blocks : (index : ℕ) → index * size / size ≡ index
  whole_blocks index = mul-div_left index (omega arith)

  far : (index : ℕ) → (centroid axis index -ℤ smallest axis) ≡ pos (index * size)
  far index = omega (arith, ints)

  -- that number of sizes above the origin has that index
  pub centroid_index : (index : ℕ) → index_at axis (centroid axis index) ≡ index
  centroid_index index = rw (far index) (whole_blocks index)

  pub centroid_on_step : (index : ℕ) → is_on_step axis (centroid axis index) ≡ true
  centroid_on_step index =
      let sum : index * size / size * size + index * size % size ≡ index * size = div-add-mod' (index * size) size in
      let product : index * size / size * size ≡ index * size = ap (λ n. n * size) (whole_blocks index) in
      rw (far index) (eq-eqb (index * size % size) 0 (omega (arith, sum, product)))

  pub centroid_in_grid : (index : ℕ) → index < 10000 → IsInGrid axis (centroid axis index)
  centroid_in_grid index small =
      let count : index * size / size ≡ index = whole_blocks index in
      let few : index * size / size < 10000 = omega (arith, count, small) in
      let low : index * size < 10000 * size = (div-lt_iff_lt-mul {k = size} {x = index * size} {y = 10000} (omega arith)).0 few in
      (omega (arith, ints), omega (arith, ints, low))
