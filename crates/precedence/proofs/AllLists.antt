-- The rows of the zones' cones contain exactly the blocks above each block.
use Rattle.std.proofs.Common.{◌≡◌, ℕ, ◌+◌, ◌-◌, ◌<◌, ◌≤◌, ◌^◌, ◌&&◌, Bool, false, List, [], ◌∷◌, Some, All, length, map, get_or, nat_lt, nat_le, slice_get, refl, sym, ap, subst, ◌∙◌, arith, ⊎_elim, if◌then◌else◌}
use Rattle.std.specs.Int.{abs_diff}
use Rattle.std.specs.List.Sorted.{IsStrictlyIncreasing}
use Rattle.std.specs.Simd.Lanes.{zip2}
use Rattle.std.proofs.lemmas.Bool.{cases_lt, le-ltb}
use Rattle.std.proofs.lemmas.List.{get_or-map, get_or_default, length-map}
use Rattle.std.proofs.lemmas.List.Kept.{AllPairs-from_increasing}
use Rattle.std.proofs.lemmas.Simd.{get_or-zip2, length-zip2}
use Rattle.std.proofs.lemmas.Option.{slice_get_cases, slice_get-get_or, get_or_from_slice_get}
use Rattle.std.proofs.lemmas.List.Elements.{All-head, All-map, All-tail}
use Rattle.plan_parts.specs.Plan.{PlanParts}
use Rattle.plan_parts.specs.declared.block.Block.{Block}
use Rattle.plan_parts.specs.declared.cone.Cone.{Cone}
use Rattle.plan_parts.specs.declared.grid.Grid.{Grid}
use Rattle.precedence.specs.Codes.{place_code, place_codes}
use Rattle.precedence.specs.declared.places.code.TheConstants.{CODES}
use Rattle.precedence.specs.Cone.{above, is_above, is_within_slopes, positions_where, preds, slope_along_x, slope_along_y}
use Rattle.precedence.specs.Zones.{HasZones}
use Rattle.precedence.specs.inner.LazyPredsFields.{lazy_lists_of, IsLazyPreds}
use Rattle.precedence.specs.inner.Lists.{in_cone, in_cones}
use Rattle.precedence.specs.inner.Rows.{is_in_rows, AreInOrder, IsTable, IsWithin}
use Rattle.precedence.specs.inner.ZoneTables.{HasTables, IsExact, zone_rows}
use Rattle.precedence.specs.declared.cones.cone_table.ConeTable.{ConeTable}
use Rattle.precedence.specs.declared.cones.cone_rows.Extent.{Extent}
use Rattle.precedence.specs.declared.cones.cone_rows.Row.{Row}
use Rattle.precedence.specs.declared.lists.lazy_preds.LazyPreds.TheInside.{Inside}
use Rattle.precedence.proofs.PositionsWhere.{length-positions_where}
use Rattle.precedence.proofs.ranges.RangesOfRows.{before_rows}

-- an element of the list meets what all elements meet
pub all_at : {X : Type 0} (P : X → Type 0) (xs : List X) (k : ℕ) (x : X) → All P xs → k < length xs → slice_get xs k ≡ Some x → P x
all_at P xs k x all lt is = subst P (get_or_from_slice_get xs k x x is) (all k x lt)

-- a test of codes finds the blocks that pass the same test
pub blocks_where : (test : ℕ → Bool) (other : Block → Bool) (n : ℕ) (bs : List Block) → All (λ b. test (place_code b) ≡ other b) bs
    → positions_where test n (place_codes bs) ≡ positions_where other n bs
blocks_where test other n [] h = refl
blocks_where test other n (b ∷ bs) h =
    let first = All-head (λ b. test (place_code b) ≡ other b) b bs h in
    let rest = blocks_where test other (n + 1) bs (All-tail (λ b. test (place_code b) ≡ other b) b bs h) in
    λ j. if first j then n ∷ rest j else rest j

-- lists by the zones and codes of blocks equal lists by the blocks
zipped : (one : ℕ → ℕ → List ℕ) (list : Block → List ℕ) (bs : List Block) → All (λ b. one b.zone (place_code b) ≡ list b) bs
    → zip2 one (map (λ b. b.zone) bs) (place_codes bs) ≡ map list bs
zipped one list [] h = refl
zipped one list (b ∷ bs) h =
    let first = All-head (λ b. one b.zone (place_code b) ≡ list b) b bs h in
    let rest = zipped one list bs (All-tail (λ b. one b.zone (place_code b) ≡ list b) b bs h) in
    λ j. first j ∷ rest j

-- an earlier block is neither in a row of a block's cone nor above it
none_before : (grid : Grid) (cone : Cone) (rows : List Row) (low high : Block) → AreInOrder rows → place_code high < place_code low
    → is_in_rows (place_code low) rows (place_code high) ≡ is_above grid cone low high
none_before grid cone rows low high order lt =
    let lower : nat_lt low.z high.z ≡ false =
    le-ltb low.z high.z (omega (arith, lt, low.x_in_grid, low.y_in_grid, high.x_in_grid, high.y_in_grid)) in
    before_rows (place_code low) (place_code high) 0 rows order.0 order.1 (omega arith)
    ∙ sym (ap (λ b. b && (nat_le (high.z - low.z) cone.k && is_within_slopes grid (slope_along_x cone low high) (slope_along_y cone low high) (abs_diff low.x high.x) (abs_diff low.y high.y) (high.z - low.z))) lower)

module _ (plan : PlanParts) (extents : List Extent) (tables : List ConeTable) (of_zone : List ℕ) (blocks : List Block)
    (has : HasTables plan.grid plan.cones extents tables of_zone)
    (near : (i j : ℕ) (d : Block) (e : Extent) → i ≤ j → j < length blocks
    → IsWithin (get_or extents (get_or blocks i d).zone e) (get_or blocks i d) (get_or blocks j d))
    (rising : IsStrictlyIncreasing (place_codes blocks)) (zones : HasZones plan blocks) where
  abbrev place : ℕ → ℕ
  place zone = get_or of_zone zone 0

  nowhere : Extent
  nowhere = record { rows = 0; benches = 0; few_rows = omega arith; few_benches = omega arith }

  code_is : (k : ℕ) (d : Block) → k < length blocks → get_or (place_codes blocks) k 0 ≡ place_code (get_or blocks k d)
  code_is k d lt = get_or-map place_code blocks k d 0 lt

  -- an earlier block has a smaller code
  less_before : (j k : ℕ) (d e : Block) → j < k → k < length blocks → place_code (get_or blocks j e) < place_code (get_or blocks k d)
  less_before j k d e before lt =
      let long = length-map blocks place_code in
      omega (
        arith,
        code_is j e (omega arith),
        code_is k d lt,
        AllPairs-from_increasing (place_codes blocks) rising j k 0 before (omega (arith, long)),
      )

  -- the rows contain another block's code exactly if that block is above
  exact_is : (cone : Cone) (rows : List Row) (k j : ℕ) (d e : Block) → k < length blocks → j < length blocks → AreInOrder rows
      → IsTable plan.grid cone (get_or extents (get_or blocks k d).zone nowhere) rows
      → is_in_rows (place_code (get_or blocks k d)) rows (place_code (get_or blocks j e)) ≡ is_above plan.grid cone (get_or blocks k d) (get_or blocks j e)
  exact_is cone rows k j d e lt within order table = ⊎_elim
      (λ before. none_before plan.grid cone rows (get_or blocks k d) (get_or blocks j e) order (less_before j k d e before lt))
      (λ after. table.exact (get_or blocks k d) (get_or blocks j e)
      (subst (IsWithin (get_or extents (get_or blocks k d).zone nowhere) (get_or blocks k d)) (get_or_default blocks j d e within)
      (near k j d nowhere after within)))
      (cases_lt j k)

  -- the list of one block
  list_is : (k : ℕ) (d : Block) → k < length blocks → (get_or blocks k d).zone < length plan.cones
      → in_cone tables of_zone (place_codes blocks) (get_or blocks k d).zone (place_code (get_or blocks k d))
      ≡ above plan.grid (slice_get plan.cones (get_or blocks k d).zone) blocks (get_or blocks k d)
  list_is k d lt here =
      let low = get_or blocks k d in
      ⊎_elim
      (λ found.
      let table : ConeTable = found.0 in
      let cone : Cone = table.cone in
      let own : get_or plan.cones low.zone cone ≡ cone =
      sym (has.same low.zone cone table here)
      ∙ ap (λ (t : ConeTable). t.cone) (get_or_from_slice_get tables (place low.zone) table table found.2) in
      let same : slice_get plan.cones low.zone ≡ Some cone =
      slice_get-get_or plan.cones low.zone cone here ∙ ap (λ (c : Cone). Some c) own in
      let exact = all_at (IsExact plan.grid plan.cones extents) tables (place low.zone) table has.exact found.1 found.2 in
      rw (found.2, same) (blocks_where (is_in_rows (place_code low) table.rows.items) (is_above plan.grid cone low) 0 blocks
      (λ j e within. exact_is cone table.rows.items k j d e lt within (10 ^ 15, table.in_order) (exact.each low.zone cone nowhere here own))))
      (λ past. let below = has.below low.zone 0 (omega (arith, has.zones)) in absurd (omega (arith, past.0)))
      ((slice_get_cases tables (place low.zone)).1)

  pub preds_are : in_cones tables of_zone (place_codes blocks) (map (λ b. b.zone) blocks) (place_codes blocks) ≡ preds plan blocks
  preds_are = zipped (in_cone tables of_zone (place_codes blocks)) (λ low. above plan.grid (slice_get plan.cones low.zone) blocks low) blocks
      (λ k d lt. list_is k d lt (zones k d lt))

-- every code of a block is small
pub codes_small : (blocks : List Block) → All (λ c. c < CODES) (place_codes blocks)
codes_small blocks = All-map (λ c. c < CODES) place_code blocks (λ k d lt. small (get_or blocks k d))
  where
    small : (b : Block) → place_code b < CODES
    small b = omega (arith, b.x_in_grid, b.y_in_grid, b.z_in_grid)

-- the result of a search
module _ (f : Inside) (keeps : IsLazyPreds f) where
  abbrev one : ℕ → ℕ → List ℕ
  one = in_cone f.tables.tables.items f.tables.of_zone.items f.places.codes.items

  pub lazy_length : length (lazy_lists_of f) ≡ length f.zones.items
  lazy_length = length-zip2 one f.zones.items f.places.codes.items keeps.each

  pub found_at : (lists : List (List ℕ)) (id zone from : ℕ) → lazy_lists_of f ≡ lists → id < length lists
      → zone ≡ get_or f.zones.items id zone → from ≡ get_or f.places.codes.items id from → get_or lists id [] ≡ one zone from
  found_at lists id zone from is lt of_block at_place =
      ap (λ lists. get_or lists id []) (sym is)
      ∙ get_or-zip2 one f.zones.items f.places.codes.items id zone from []
      (omega (arith, lazy_length, ap length is)) (omega (arith, lazy_length, ap length is, keeps.each))
      ∙ (λ j. one (sym of_block j) (sym at_place j))

  -- a list has no more identifiers than there are blocks
  pub few_found : (lists : List (List ℕ)) (id zone from : ℕ) → lazy_lists_of f ≡ lists → id < length lists
      → zone ≡ get_or f.zones.items id zone → from ≡ get_or f.places.codes.items id from → length (get_or lists id []) < 2 ^ 63
  few_found lists id zone from is lt of_block at_place =
      let test = is_in_rows from (zone_rows f.tables.tables.items f.tables.of_zone.items zone) in
      omega (
        arith,
        ap length (found_at lists id zone from is lt of_block at_place),
        length-positions_where test 0 f.places.codes.items,
        f.places.few,
      )
