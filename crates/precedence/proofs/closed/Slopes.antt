-- A block in the cone above a block of a cone is itself in that cone, except for the number of benches.
use Rattle.std.proofs.Common.{◌≡◌, ℕ, ◌+◌, ◌-◌, ◌*◌, ◌<◌, ◌≤◌, Bool, true, false, nat_lt, refl, sym, ap, subst, ◌∙◌, arith, ⊎_elim, if◌then◌else◌}
use Rattle.std.specs.Int.{abs_diff}
use Rattle.std.proofs.Math.Nat.{mul-le-mul, mul-le-mul_left, mul-le-mul_right, le_of_mul-le-mul_left}
use Rattle.std.proofs.lemmas.Bool.{cases_lt, leb-true, le-leb, le-ltb, lt-ltb}
use Rattle.plan_parts.specs.PlanInvariant.{IsCone}
use Rattle.plan_parts.specs.declared.block.Block.{Block}
use Rattle.plan_parts.specs.declared.cone.Cone.{Cone}
use Rattle.plan_parts.specs.declared.grid.Grid.{Grid}
use Rattle.precedence.specs.Cone.{is_within_slopes, square}

-- ---- squares

-- two products are no more than two squares
two_products : (s t : ℕ) → 2 * (s * t) ≤ s * s + t * t
two_products s t = ⊎_elim
    (λ less. by_gap s t (t - s) (omega arith))
    (λ le. let more = by_gap t s (s - t) (omega arith) in omega (arith, more))
    (cases_lt s t)
  where
    by_gap : (s t k : ℕ) → t ≡ s + k → 2 * (s * t) ≤ s * s + t * t
    by_gap s t k is = subst (λ t. 2 * (s * t) ≤ s * s + t * t) (sym is) (omega arith)

-- the number with the smaller square is not larger
less_by_square : (m n : ℕ) → m * m ≤ n * n → m ≤ n
less_by_square m n le = ⊎_elim
    (λ more.
    let up : n + 1 ≤ m = omega arith in
    let grown : (n + 1) * (n + 1) ≤ m * m = mul-le-mul up up in
    absurd (omega (arith, grown, le)))
    (λ no_more. no_more)
    (cases_lt n m)

-- lengths along two paths, one after the other
module _ (a b c d e f : ℕ) (one : square a + square b ≤ square e) (other : square c + square d ≤ square f) where
  crossed : a * c + b * d ≤ e * f
  crossed = less_by_square (a * c + b * d) (e * f)
      (let both : (square a + square b) * (square c + square d) ≤ square e * square f = mul-le-mul one other in
      omega (arith, both, two_products (a * d) (b * c)))

  pub joined : (x y : ℕ) → x ≤ a + c → y ≤ b + d → square x + square y ≤ square (e + f)
  joined x y along across =
      let xs : x * x ≤ (a + c) * (a + c) = mul-le-mul along along in
      let ys : y * y ≤ (b + d) * (b + d) = mul-le-mul across across in
      omega (arith, xs, ys, crossed, one, other)

-- ---- distances on either side, by weights of the sides

weight : ℕ → ℕ → ℕ → ℕ → ℕ
weight up down low high = if nat_lt low high then up else down

module _ (up down low high : ℕ) where
  upward : low < high → weight up down low high ≡ up
  unfolding weight
  upward lt = ap (λ b. if b then up else down) (lt-ltb low high lt)

  downward : high ≤ low → weight up down low high ≡ down
  unfolding weight
  downward le = ap (λ b. if b then up else down) (le-ltb low high le)

  pub far : ℕ
  far = abs_diff low high * weight up down low high

  far_up : low < high → far ≡ (high - low) * up
  unfolding far
  far_up lt = let d : abs_diff low high ≡ high - low = omega arith in λ j. d j * upward lt j

  far_down : high ≤ low → far ≡ (low - high) * down
  unfolding far
  far_down le = let d : abs_diff low high ≡ low - high = omega arith in λ j. d j * downward le j

-- one of the two distances is 0
far_both : (up down low high : ℕ) → far up down low high ≡ (high - low) * up + (low - high) * down
far_both up down low high = ⊎_elim
    (λ lt. let none : low - high ≡ 0 = omega arith in omega (arith, far_up up down low high lt, ap (λ n. n * down) none))
    (λ le. let none : high - low ≡ 0 = omega arith in omega (arith, far_down up down low high le, ap (λ n. n * up) none))
    (cases_lt low high)

in_parts : (whole first second k : ℕ) → whole ≤ first + second → whole * k ≤ first * k + second * k
in_parts whole first second k le = omega (arith, mul-le-mul_right k le)

-- no path through a third point is shorter
pub through : (up down low mid high : ℕ) → far up down low high ≤ far up down low mid + far up down mid high
through up down low mid high =
    let ups = in_parts (high - low) (mid - low) (high - mid) up (omega arith) in
    let downs = in_parts (low - high) (low - mid) (mid - high) down (omega arith) in
    omega (arith, ups, downs, far_both up down low high, far_both up down low mid, far_both up down mid high)

-- ---- slopes on different sides, with the same numbers below

-- the test of slopes in common numbers: o and n are the runs of the slopes on the other sides
module _ (sx sy sz p q r s o n dx dy dz : ℕ) where
  abbrev left : ℕ
  left = square (dx * (sx * p * s)) + square (dy * (sy * r * q))

  abbrev right : ℕ
  right = square (dz * (sz * q * s))

  left_is : square (dx * (sx * p * o * (s * n))) + square (dy * (sy * r * n * (q * o))) ≡ square (o * n) * left
  left_is = omega arith

  right_is : square (dz * (sz * (q * o) * (s * n))) ≡ square (o * n) * right
  right_is = omega arith

  pub in_common : left ≤ right
      → square (dx * (sx * p * o * (s * n))) + square (dy * (sy * r * n * (q * o))) ≤ square (dz * (sz * (q * o) * (s * n)))
  in_common le = let more : square (o * n) * left ≤ square (o * n) * right = mul-le-mul_left (square (o * n)) le in omega (arith, left_is, right_is, more)

  pub out_of_common : 1 ≤ o → 1 ≤ n
      → square (dx * (sx * p * o * (s * n))) + square (dy * (sy * r * n * (q * o))) ≤ square (dz * (sz * (q * o) * (s * n)))
      → left ≤ right
  out_of_common some_o some_n le =
      let some : 1 * 1 ≤ o * n = mul-le-mul some_o some_n in
      let positive : 1 * 1 ≤ (o * n) * (o * n) = mul-le-mul some some in
      le_of_mul-le-mul_left (subst (λ m. m ≤ square (o * n) * right) left_is (subst (λ m. square (dx * (sx * p * o * (s * n))) + square (dy * (sy * r * n * (q * o))) ≤ m) right_is le)) positive

-- ---- a cone

module _ (grid : Grid) (cone : Cone) where
  abbrev along : ℕ
  along = cone.east.q * cone.west.q

  abbrev across : ℕ
  across = cone.north.q * cone.south.q

  abbrev east : ℕ
  east = grid.x.size * cone.east.p * cone.west.q * across

  abbrev west : ℕ
  west = grid.x.size * cone.west.p * cone.east.q * across

  abbrev north : ℕ
  north = grid.y.size * cone.north.p * cone.south.q * along

  abbrev south : ℕ
  south = grid.y.size * cone.south.p * cone.north.q * along

  abbrev rise : ℕ
  rise = grid.z.size * along * across

  -- the test by the sides of the other block
  abbrev is_within : Bool → Bool → ℕ → ℕ → ℕ → Bool
  is_within is_east is_north dx dy dz = is_within_slopes grid (if is_east then cone.east else cone.west) (if is_north then cone.north else cone.south) dx dy dz

  abbrev IsCommon : Bool → Bool → ℕ → ℕ → ℕ → Type 0
  IsCommon is_east is_north dx dy dz =
      square (dx * (if is_east then east else west)) + square (dy * (if is_north then north else south)) ≤ square (dz * rise)

  to_common : (is_east is_north : Bool) (dx dy dz : ℕ) → is_within is_east is_north dx dy dz ≡ true → IsCommon is_east is_north dx dy dz
  to_common true true dx dy dz h = omega (arith, in_common grid.x.size grid.y.size grid.z.size cone.east.p cone.east.q cone.north.p cone.north.q cone.west.q cone.south.q dx dy dz (leb-true _ _ h))
  to_common true false dx dy dz h = omega (arith, in_common grid.x.size grid.y.size grid.z.size cone.east.p cone.east.q cone.south.p cone.south.q cone.west.q cone.north.q dx dy dz (leb-true _ _ h))
  to_common false true dx dy dz h = omega (arith, in_common grid.x.size grid.y.size grid.z.size cone.west.p cone.west.q cone.north.p cone.north.q cone.east.q cone.south.q dx dy dz (leb-true _ _ h))
  to_common false false dx dy dz h = omega (arith, in_common grid.x.size grid.y.size grid.z.size cone.west.p cone.west.q cone.south.p cone.south.q cone.east.q cone.north.q dx dy dz (leb-true _ _ h))

  module _ (is : IsCone cone) where
    from_common : (is_east is_north : Bool) (dx dy dz : ℕ) → IsCommon is_east is_north dx dy dz → is_within is_east is_north dx dy dz ≡ true
    from_common true true dx dy dz h = le-leb _ _ (out_of_common grid.x.size grid.y.size grid.z.size cone.east.p cone.east.q cone.north.p cone.north.q cone.west.q cone.south.q dx dy dz is.0.1.1.0 is.0.3.1.0 (omega (arith, h)))
    from_common true false dx dy dz h = le-leb _ _ (out_of_common grid.x.size grid.y.size grid.z.size cone.east.p cone.east.q cone.south.p cone.south.q cone.west.q cone.north.q dx dy dz is.0.1.1.0 is.0.2.1.0 (omega (arith, h)))
    from_common false true dx dy dz h = le-leb _ _ (out_of_common grid.x.size grid.y.size grid.z.size cone.west.p cone.west.q cone.north.p cone.north.q cone.east.q cone.south.q dx dy dz is.0.0.1.0 is.0.3.1.0 (omega (arith, h)))
    from_common false false dx dy dz h = le-leb _ _ (out_of_common grid.x.size grid.y.size grid.z.size cone.west.p cone.west.q cone.south.p cone.south.q cone.east.q cone.north.q dx dy dz is.0.0.1.0 is.0.2.1.0 (omega (arith, h)))

    far_is : (up down low high : ℕ) → far up down low high ≡ abs_diff low high * (if nat_lt low high then up else down)
    unfolding far weight
    far_is up down low high = refl

    -- `high` is inside the slopes above `low`, whatever the number of benches
    abbrev pub is_inside : Block → Block → Bool
    is_inside low high = is_within (nat_lt low.x high.x) (nat_lt low.y high.y) (abs_diff low.x high.x) (abs_diff low.y high.y) (high.z - low.z)

    common : (low high : Block) → is_inside low high ≡ true
        → square (far east west low.x high.x) + square (far north south low.y high.y) ≤ square ((high.z - low.z) * rise)
    common low high h =
        let Fits : ℕ → ℕ → Type 0 = λ x y. square x + square y ≤ square ((high.z - low.z) * rise) in
        subst (λ x. Fits x (far north south low.y high.y)) (sym (far_is east west low.x high.x))
        (subst (λ y. Fits (abs_diff low.x high.x * (if nat_lt low.x high.x then east else west)) y) (sym (far_is north south low.y high.y))
        (to_common (nat_lt low.x high.x) (nat_lt low.y high.y) (abs_diff low.x high.x) (abs_diff low.y high.y) (high.z - low.z) h))

    uncommon : (low high : Block) → square (far east west low.x high.x) + square (far north south low.y high.y) ≤ square ((high.z - low.z) * rise)
        → is_inside low high ≡ true
    uncommon low high h =
        let Fits : ℕ → ℕ → Type 0 = λ x y. square x + square y ≤ square ((high.z - low.z) * rise) in
        from_common (nat_lt low.x high.x) (nat_lt low.y high.y) (abs_diff low.x high.x) (abs_diff low.y high.y) (high.z - low.z)
        (subst (λ y. Fits (abs_diff low.x high.x * (if nat_lt low.x high.x then east else west)) y) (far_is north south low.y high.y)
        (subst (λ x. Fits x (far north south low.y high.y)) (far_is east west low.x high.x) h))

    pub inside_through : (low mid high : Block) → low.z ≤ mid.z → mid.z ≤ high.z → is_inside low mid ≡ true → is_inside mid high ≡ true
        → is_inside low high ≡ true
    inside_through low mid high up more first second =
        let gap : high.z - low.z ≡ (mid.z - low.z) + (high.z - mid.z) = omega arith in
        let split : (mid.z - low.z) * rise + (high.z - mid.z) * rise ≡ (high.z - low.z) * rise = omega arith ∙ ap (λ n. n * rise) (sym gap) in
        uncommon low high
        (subst (λ n. square (far east west low.x high.x) + square (far north south low.y high.y) ≤ square n) split
        (joined (far east west low.x mid.x) (far north south low.y mid.y) (far east west mid.x high.x) (far north south mid.y high.y)
        ((mid.z - low.z) * rise) ((high.z - mid.z) * rise) (common low mid first) (common mid high second)
        (far east west low.x high.x) (far north south low.y high.y)
        (through east west low.x mid.x high.x) (through north south low.y mid.y high.y)))
