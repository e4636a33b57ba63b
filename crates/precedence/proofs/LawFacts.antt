-- The reasons for the theorems about predecessors.
use Rattle.std.proofs.Common.{◌≡◌, ℕ, ◌+◌, ◌-◌, ◌*◌, ◌<◌, ◌≤◌, ◌==◌, ◌&&◌, Bool, true, false, List, [], ◌∷◌, Option, Some, None, All, Contains, filter, length, map, get_or, slice_get, nat_lt, nat_le, refl, sym, ap, ◌∙◌, arith, ⊎_elim, if◌then◌else◌}
use Rattle.std.specs.Int.{abs_diff}
use Rattle.std.specs.List.{range_with_len, list_any}
use Rattle.std.specs.List.Sorted.{IsStrictlyIncreasing}
use Rattle.std.proofs.Math.Nat.{mul-le-mul, mul-le-mul_left, le_of_mul-le-mul_left}
use Rattle.std.proofs.Math.Bool.{and-false}
use Rattle.std.proofs.lemmas.List.Folds.{list_any_at, list_any_none}
use Rattle.std.proofs.lemmas.Bool.{cases_Bool, cases_lt, le-leb, le-ltb, lt-leb, lt-ltb, ltb-true, eqb-true, eq-eqb, and_parts}
use Rattle.std.proofs.lemmas.List.{get_or-map, get_or_default}
use Rattle.std.proofs.lemmas.List.Elements.{All-contains, All-filter, All-same, filter_passes}
use Rattle.std.proofs.lemmas.List.FromFn.{get_or-range_with_len, length-range_with_len}
use Rattle.std.proofs.lemmas.List.Kept.{IsStrictlyIncreasing-filter}
use Rattle.std.proofs.lemmas.Option.{slice_get_within}
use Rattle.plan_parts.specs.Plan.{PlanParts}
use Rattle.plan_parts.specs.PlanInvariant.{IsCone}
use Rattle.plan_parts.specs.declared.block.Block.{Block}
use Rattle.plan_parts.specs.declared.cone.Cone.{Cone}
use Rattle.plan_parts.specs.declared.cone.Slope.{Slope}
use Rattle.plan_parts.specs.declared.grid.Grid.{Grid}
use Rattle.precedence.specs.Cone.{above, is_above, is_within_slopes, positions_where, preds, slope_along_x, slope_along_y, square}
use Rattle.precedence.specs.ConeLaws.{above_by, even_cone, has_pred, is_above_by, is_pred_by, preds_by, IsEven}
use Rattle.precedence.specs.Identifier.{id}
use Rattle.precedence.specs.Numbering.{IsNumbering, NumberingView}
use Rattle.precedence.proofs.AllLists.{all_at}
use Rattle.precedence.proofs.PositionsWhere.{nowhere, where_at, where_filter}

-- ---- the slope on a side

-- cones with the same slopes towards a block and the same height contain it alike
seen_same_cone : (grid : Grid) (one other : Cone) (low high : Block) → slope_along_x one low high ≡ slope_along_x other low high
    → slope_along_y one low high ≡ slope_along_y other low high → one.k ≡ other.k → is_above grid one low high ≡ is_above grid other low high
seen_same_cone grid one other low high along across benches =
    λ j. nat_lt low.z high.z
    && (nat_le (high.z - low.z) (benches j)
    && is_within_slopes grid (along j) (across j) (abs_diff low.x high.x) (abs_diff low.y high.y) (high.z - low.z))

-- the chosen slope, if the other one changes
first_taken : (m n : ℕ) (first second other : Slope) → m < n → (if nat_lt m n then first else other) ≡ (if nat_lt m n then first else second)
first_taken m n first second other less =
    let yes : nat_lt m n ≡ true = lt-ltb m n less in
    (λ j. if yes j then first else other) ∙ (λ j. if sym yes j then first else second)

second_taken : (m n : ℕ) (first second other : Slope) → n < m → (if nat_lt m n then other else second) ≡ (if nat_lt m n then first else second)
second_taken m n first second other more =
    let no : nat_lt m n ≡ false = le-ltb m n (omega arith) in
    (λ j. if no j then other else second) ∙ (λ j. if sym no j then first else second)

module _ (grid : Grid) (cone : Cone) (low high : Block) where
  pub east_alone : (west : Slope) → low.x < high.x → is_above grid (record cone { west = west }) low high ≡ is_above grid cone low high
  east_alone west less =
      seen_same_cone grid (record cone { west = west }) cone low high (first_taken low.x high.x cone.east cone.west west less) refl refl

  pub west_alone : (east : Slope) → high.x < low.x → is_above grid (record cone { east = east }) low high ≡ is_above grid cone low high
  west_alone east more =
      seen_same_cone grid (record cone { east = east }) cone low high (second_taken low.x high.x cone.east cone.west east more) refl refl

  pub north_alone : (south : Slope) → low.y < high.y → is_above grid (record cone { south = south }) low high ≡ is_above grid cone low high
  north_alone south less =
      seen_same_cone grid (record cone { south = south }) cone low high refl (first_taken low.y high.y cone.north cone.south south less) refl

  pub south_alone : (north : Slope) → high.y < low.y → is_above grid (record cone { north = north }) low high ≡ is_above grid cone low high
  south_alone north more =
      seen_same_cone grid (record cone { north = north }) cone low high refl (second_taken low.y high.y cone.north cone.south north more) refl

-- ---- one slope

-- a factor on both sides
factor_out : (c a b : ℕ) → 0 < c → nat_le (c * a) (c * b) ≡ nat_le a b
factor_out c a b some = ⊎_elim
    (λ more. lt-leb (c * a) (c * b) (⊎_elim
    (λ less. less)
    (λ at_most. absurd (let back : a ≤ b = le_of_mul-le-mul_left at_most some in omega arith))
    (cases_lt (c * b) (c * a))) ∙ sym (lt-leb a b more))
    (λ le. le-leb (c * a) (c * b) (mul-le-mul_left c le) ∙ sym (le-leb a b le))
    (cases_lt b a)

either : (b : Bool) (s : Slope) → (if b then s else s) ≡ s
either true s = refl
either false s = refl

-- the test's sides with p for the rise and q for the run of the slope
even_slopes : (grid : Grid) (slope : Slope) (dx dy dz : ℕ) → 1 ≤ slope.q
    → is_within_slopes grid slope slope dx dy dz
    ≡ nat_le (square slope.p * (square (dx * grid.x.size) + square (dy * grid.y.size))) (square slope.q * square (dz * grid.z.size))
even_slopes grid slope dx dy dz some =
    let left : square (dx * (grid.x.size * slope.p * slope.q)) + square (dy * (grid.y.size * slope.p * slope.q))
    ≡ square slope.q * (square slope.p * (square (dx * grid.x.size) + square (dy * grid.y.size))) = omega arith in
    let right : square (dz * (grid.z.size * slope.q * slope.q))
    ≡ square slope.q * (square slope.q * square (dz * grid.z.size)) = omega arith in
    let positive : 0 < square slope.q = mul-le-mul some some in
    (λ j. nat_le (left j) (right j)) ∙ factor_out (square slope.q) _ _ positive

pub one_slope_is : (grid : Grid) (slope : Slope) (k : ℕ) (low high : Block) → 1 ≤ slope.q
    → is_above grid (even_cone slope k) low high ≡ is_above_by grid slope k low high
one_slope_is grid slope k low high some =
    let along : slope_along_x (even_cone slope k) low high ≡ slope = either (nat_lt low.x high.x) slope in
    let across : slope_along_y (even_cone slope k) low high ≡ slope = either (nat_lt low.y high.y) slope in
    let dx = abs_diff low.x high.x in
    let dy = abs_diff low.y high.y in
    let dz = high.z - low.z in
    (λ j. nat_lt low.z high.z && (nat_le dz k && is_within_slopes grid (along j) (across j) dx dy dz))
    ∙ (λ j. nat_lt low.z high.z && (nat_le dz k && even_slopes grid slope dx dy dz some j))

even_above : (grid : Grid) (found : Option Cone) (blocks : List Block) (low : Block)
    → ((cone : Cone) → found ≡ Some cone → IsEven cone × (1 ≤ cone.east.q)) → above grid found blocks low ≡ above_by grid found blocks low
even_above grid None blocks low h = refl
even_above grid (Some cone) blocks low h = λ j. positions_where (λ high. same high j) 0 blocks
  where
    same : (high : Block) → is_above grid cone low high ≡ is_above_by grid cone.east cone.k low high
    same high = ap (λ (c : Cone). is_above grid c low high) (h cone refl).0 ∙ one_slope_is grid cone.east cone.k low high (h cone refl).1

pub even_zones_are : (plan : PlanParts) (blocks : List Block) → All IsCone plan.cones → All IsEven plan.cones
    → preds plan blocks ≡ preds_by plan blocks
even_zones_are plan blocks cones even =
    λ j. map (λ low. even_above plan.grid (slice_get plan.cones low.zone) blocks low (one_slope_at low) j) blocks
  where
    one_slope_at : (low : Block) (cone : Cone) → slice_get plan.cones low.zone ≡ Some cone → IsEven cone × (1 ≤ cone.east.q)
    one_slope_at low cone is =
        let there = slice_get_within plan.cones low.zone cone is in
        (all_at IsEven plan.cones low.zone cone even there is, (all_at IsCone plan.cones low.zone cone cones there is).0.0.1.0)

-- ---- the lists of all blocks

pub range_rises : (a n : ℕ) → IsStrictlyIncreasing (range_with_len a n)
range_rises a n k lt =
    let long = length-range_with_len a n in
    omega (arith, get_or-range_with_len a n k 0 (omega arith), get_or-range_with_len a n (k + 1) 0 (omega arith))

range_below : (n : ℕ) → All (λ k. k < n) (range_with_len 0 n)
range_below n k d lt = let long = length-range_with_len 0 n in omega (arith, get_or-range_with_len 0 n k d (omega arith))

above_where : (grid : Grid) (o : Option Cone) (blocks : List Block) (low : Block)
    → above grid o blocks low ≡ positions_where (is_pred_by grid o low) 0 blocks
above_where grid None blocks low = sym (nowhere 0 blocks)
above_where grid (Some cone) blocks low = refl

module _ (plan : PlanParts) (blocks : List Block) (i : ℕ) (d : Block) (lt : i < length blocks) where
  abbrev low : Block
  low = get_or blocks i d

  abbrev is_pred : Block → Bool
  is_pred high = is_pred_by plan.grid (slice_get plan.cones low.zone) low high

  abbrev passes : ℕ → Bool
  passes k = is_pred (get_or blocks k d)

  list_where : get_or (preds plan blocks) i [] ≡ positions_where is_pred 0 blocks
  list_where =
      get_or-map (λ low. above plan.grid (slice_get plan.cones low.zone) blocks low) blocks i d [] lt
      ∙ above_where plan.grid (slice_get plan.cones low.zone) blocks low

  list_is : get_or (preds plan blocks) i [] ≡ filter passes (range_with_len 0 (length blocks))
  list_is = list_where ∙ where_at is_pred d blocks

  higher : (o : Option Cone) (high : Block) → is_pred_by plan.grid o low high ≡ true → low.z < high.z
  higher None high h = let no : ⊥ = cc in absurd no
  higher (Some cone) high h = ltb-true low.z high.z (and_parts (nat_lt low.z high.z) _ h).0

  pub lie_higher : All (λ k. (k < length blocks) × (low.z < (get_or blocks k d).z)) (get_or (preds plan blocks) i [])
  lie_higher = All-same (λ k. (k < length blocks) × (low.z < (get_or blocks k d).z)) _ _ list_is (λ k e within. (
    All-filter passes (λ k. k < length blocks) (range_with_len 0 (length blocks)) (range_below (length blocks)) k e within,
    higher (slice_get plan.cones low.zone) _ (filter_passes passes (range_with_len 0 (length blocks)) k e within),
  ))

  rise_at : IsStrictlyIncreasing (get_or (preds plan blocks) i [])
  rise_at = rw list_is (IsStrictlyIncreasing-filter passes (range_with_len 0 (length blocks)) (range_rises 0 (length blocks)))

pub preds_higher : (plan : PlanParts) (blocks : List Block) (i k : ℕ) (d : Block) → i < length blocks
    → Contains (get_or (preds plan blocks) i []) k → (k < length blocks) × ((get_or blocks i d).z < (get_or blocks k d).z)
preds_higher plan blocks i k d lt has =
    All-contains (λ k. (k < length blocks) × ((get_or blocks i d).z < (get_or blocks k d).z)) _ k (lie_higher plan blocks i d lt) has

pub lists_rise : (plan : PlanParts) (blocks : List Block) (i : ℕ) → i < length blocks
    → IsStrictlyIncreasing (get_or (preds plan blocks) i [])
lists_rise plan [] i lt = absurd (omega arith)
lists_rise plan (b ∷ bs) i lt = rise_at plan (b ∷ bs) i b lt

-- ---- the numbered list

module _ (listed : List Block) (n : NumberingView) (numbering : IsNumbering listed n) (p : Block → Bool) where
  -- some block of the list has the identifier and passes, exactly if the block with that identifier passes
  some_passes : (k : ℕ) (d : Block) → k < length listed
      → list_any (λ high. (id listed high == k) && p high) listed ≡ p (get_or n.blocks k d)
  some_passes k d lt = ⊎_elim
      (λ passes.
      let at = get_or n.positions k 0 in
      let at_position = numbering.at_position k d lt in
      let own : (id listed (get_or listed at d) == k) ≡ true = eq-eqb _ _ (ap (id listed) at_position ∙ numbering.identifiers k d lt) in
      let good : p (get_or listed at d) ≡ true = ap p at_position ∙ passes in
      list_any_at (λ high. (id listed high == k) && p high) listed at d (numbering.within k lt) (λ j. own j && good j) ∙ sym passes)
      (λ fails. list_any_none (λ high. (id listed high == k) && p high) listed (λ i e within. ⊎_elim
      (λ own.
      let there : get_or n.positions k 0 ≡ i = ap (λ m. get_or n.positions m 0) (sym (eqb-true _ _ own)) ∙ numbering.found i e within in
      let same : get_or listed i e ≡ get_or n.blocks k d =
      get_or_default listed i e d within ∙ ap (λ m. get_or listed m d) (sym there) ∙ numbering.at_position k d lt in
      ap (λ b. (id listed (get_or listed i e) == k) && b) (ap p same ∙ fails) ∙ and-false (id listed (get_or listed i e) == k))
      (λ other. ap (λ b. b && p (get_or listed i e)) other)
      (cases_Bool (id listed (get_or listed i e) == k))) ∙ sym fails)
      (cases_Bool (p (get_or n.blocks k d)))

pub of_the_list : (plan : PlanParts) (listed : List Block) (n : NumberingView) (i : ℕ) (d : Block) → IsNumbering listed n → i < length listed
    → get_or (preds plan n.blocks) i [] ≡ filter (has_pred plan listed (get_or n.blocks i d)) (range_with_len 0 (length listed))
of_the_list plan listed n i d numbering lt =
    let own = is_pred plan n.blocks i d (omega (arith, numbering.blocks)) in
    let here = has_pred plan listed (get_or n.blocks i d) in
    list_where plan n.blocks i d (omega (arith, numbering.blocks))
    ∙ where_filter own here 0 n.blocks (λ k e within.
    let same : k ≡ 0 + k = omega arith in
    sym (some_passes listed n numbering own k e (omega (arith, numbering.blocks))) ∙ ap here same)
    ∙ ap (λ len. filter here (range_with_len 0 len)) numbering.blocks
