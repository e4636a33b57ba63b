-- Row by row and bench by bench, the rows of a cone contain exactly the blocks above.
use Rattle.std.proofs.Common.{◌≡◌, ℕ, ◌+◌, ◌-◌, ◌*◌, ◌^◌, ◌<◌, ◌≤◌, ◌&&◌, ◌||◌, Bool, true, false, List, [], ◌∷◌, ◌++◌, nat_lt, nat_le, max, min, refl, sym, ap, ◌∙◌, arith, ⊎_elim}
use Rattle.std.proofs.Math.Bool.{and-false, or-false, or_assoc}
use Rattle.std.proofs.lemmas.Bool.{cases_lt, lt-ltb, le-ltb, ltb-true, leb-true, and_parts}
use Rattle.std.proofs.lemmas.Bool.Decides.{nat_tests}
use Rattle.plan_parts.specs.declared.block.Block.{Block}
use Rattle.plan_parts.specs.declared.cone.Cone.{Cone}
use Rattle.plan_parts.specs.declared.grid.Grid.{Grid}
use Rattle.precedence.specs.Codes.{place_code}
use Rattle.precedence.specs.Cone.{is_above}
use Rattle.precedence.specs.inner.Reach.{CountsRow}
use Rattle.precedence.specs.inner.Rows.{center, edge, is_in_row, is_in_rows, LieApart, IsWithin, AreExactUpTo, IsTable}
use Rattle.precedence.specs.inner.ZoneTables.{IsWider}
use Rattle.precedence.specs.declared.cones.cone_rows.Extent.{Extent}
use Rattle.precedence.specs.declared.cones.cone_rows.SideCounts.{SideCounts}
use Rattle.precedence.specs.declared.cones.cone_rows.Row.{Row}
use Rattle.precedence.proofs.Geometry.{IsAt, row_exact}

-- ---- rows at the end

pub in_rows_push : (from : ℕ) (rows : List Row) (row : Row) (c : ℕ)
    → is_in_rows from (rows ++ row ∷ []) c ≡ (is_in_rows from rows c || is_in_row from row c)
in_rows_push from [] row c = or-false (is_in_row from row c)
in_rows_push from (r ∷ rows) row c =
    ap (λ b. is_in_row from r c || b) (in_rows_push from rows row c)
    ∙ sym (or_assoc (is_in_row from r c) (is_in_rows from rows c) (is_in_row from row c))

pub apart_push : (low : ℕ) (rows : List Row) (high : ℕ) (row : Row) (up : ℕ) → LieApart low rows high → high ≤ row.first
    → row.first < row.past → row.past ≤ up → LieApart low (rows ++ row ∷ []) up
apart_push low [] high row up h le some past = (omega arith, some, past)
apart_push low (r ∷ rows) high row up h le some past = (h.0, h.1, apart_push r.past rows high row up h.2 le some past)

pub apart_more : (low : ℕ) (rows : List Row) (high up : ℕ) → LieApart low rows high → high ≤ up → LieApart low rows up
apart_more low [] high up h le = omega arith
apart_more low (r ∷ rows) high up h le = (h.0, h.1, apart_more r.past rows high up h.2 le)

-- every row ends at the common end or before
pub apart_all : (low : ℕ) (rows : List Row) (high : ℕ) → low ≤ 10 ^ 15 → LieApart low rows high → LieApart low rows (10 ^ 15)
apart_all low [] high le h = le
apart_all low (row ∷ rows) high le h = (h.0, h.1, apart_all row.past rows high (omega (arith, row.small)) h.2)

-- ---- the codes of pairs of blocks

module _ (extent : Extent) (low high : Block) (near : IsWithin extent low high) where
  -- between two edges is exactly the row
  at_row : (dz i : ℕ) → 1 ≤ dz → i ≤ 2 * extent.rows → place_code low + edge extent.rows dz i ≤ place_code high
      → place_code high < place_code low + edge extent.rows dz (i + 1) → IsAt extent.rows dz i low high
  at_row dz i up within above below =
      let bench : high.z ≡ low.z + dz = omega arith in
      record { bench = bench; row = omega arith }

  -- between the last row of a bench and the next bench is nothing
  between_benches : (dz : ℕ) → nat_lt (place_code high) (place_code low + edge extent.rows dz (2 * extent.rows + 1))
      ≡ nat_lt (place_code high) (place_code low + edge extent.rows (dz + 1) 0)
  between_benches dz = grind (arith, nat_tests)

  -- a block on a higher bench is at the first edge or after
  past_first : low.z < high.z → place_code low + edge extent.rows 1 0 ≤ place_code high
  past_first lt = omega arith

  -- a block at most `top` benches higher is before the edge after them
  before_last : (top : ℕ) → high.z ≤ low.z + top → place_code high < place_code low + edge extent.rows (top + 1) 0
  before_last top le = omega arith

-- ---- the next row

-- a row between two edges adds exactly the blocks above with codes between them
between : (high low edge next first past : ℕ) (above : Bool) → edge ≤ first → past ≤ next → first ≤ past
    → (low + edge ≤ high → high < low + next → (nat_le (low + first) high && nat_lt high (low + past)) ≡ above)
    → ((nat_lt high (low + edge) && above) || (nat_le (low + first) high && nat_lt high (low + past))) ≡ (nat_lt high (low + next) && above)
between high low edge next first past above begin end order exact = ⊎_elim
    (λ before. grind (arith, nat_tests, or-false))
    (λ after. ⊎_elim
    (λ inside. let exact_here = exact after inside in grind (arith, nat_tests))
    (λ beyond. grind (arith, nat_tests, and-false))
    (cases_lt high (low + next)))
    (cases_lt high (low + edge))

module _ (grid : Grid) (cone : Cone) (extent : Extent) (dz i : ℕ) (up : 1 ≤ dz) (within : dz ≤ cone.k) (inside : i ≤ 2 * extent.rows)
    (counts : SideCounts) (counted : CountsRow grid cone extent.rows dz i counts)
    (row : Row) (first : row.first ≡ center extent.rows dz i + 1 - counts.west)
    (past : row.past ≡ center extent.rows dz i + max counts.east 1) where
  after_edge : edge extent.rows dz i ≤ row.first
  after_edge = omega arith

  before_edge : row.past ≤ edge extent.rows dz (i + 1)
  before_edge = omega arith

  -- the row contains exactly the blocks above between its edges
  row_adds : (low high : Block) → IsWithin extent low high
      → ((nat_lt (place_code high) (place_code low + edge extent.rows dz i) && is_above grid cone low high) || is_in_row (place_code low) row (place_code high))
      ≡ (nat_lt (place_code high) (place_code low + edge extent.rows dz (i + 1)) && is_above grid cone low high)
  row_adds low high near =
      between (place_code high) (place_code low) (edge extent.rows dz i) (edge extent.rows dz (i + 1)) row.first row.past
      (is_above grid cone low high) after_edge before_edge row.in_order (λ after before.
      row_exact grid cone extent.rows dz i counts counted low high up within extent.few_rows
      (at_row extent low high near dz i up inside after before) row first past)

  pub exact_with_row : row.first < row.past → (rows : List Row) → AreExactUpTo grid cone extent (edge extent.rows dz i) rows
      → AreExactUpTo grid cone extent (edge extent.rows dz (i + 1)) (rows ++ row ∷ [])
  exact_with_row some rows h = record {
    apart = apart_push 0 rows (edge extent.rows dz i) row (edge extent.rows dz (i + 1)) h.apart after_edge some before_edge;
    exact = λ low high near.
        in_rows_push (place_code low) rows row (place_code high)
        ∙ ap (λ b. b || is_in_row (place_code low) row (place_code high)) (h.exact low high near)
        ∙ row_adds low high near;
  }

  -- a row with no codes adds nothing
  pub exact_without_row : row.past ≤ row.first → (rows : List Row) → AreExactUpTo grid cone extent (edge extent.rows dz i) rows
      → AreExactUpTo grid cone extent (edge extent.rows dz (i + 1)) rows
  exact_without_row empty rows h = record {
    apart = apart_more 0 rows (edge extent.rows dz i) (edge extent.rows dz (i + 1)) h.apart
        (omega (arith, after_edge, before_edge, row.in_order));
    exact = λ low high near.
        let none : is_in_row (place_code low) row (place_code high) ≡ false = grind (arith, nat_tests, empty) in
        h.exact low high near
        ∙ sym (or-false (nat_lt (place_code high) (place_code low + edge extent.rows dz i) && is_above grid cone low high))
        ∙ ap (λ b. (nat_lt (place_code high) (place_code low + edge extent.rows dz i) && is_above grid cone low high) || b) (sym none)
        ∙ row_adds low high near;
  }

-- ---- the next bench, and all benches

-- two tests, if every value that passes the second passes the first, or none does
always : (p q : Bool) → (q ≡ true → p ≡ true) → (p && q) ≡ q
always true q h = refl
always false true h = h refl
always false false h = refl

never : (p q : Bool) → (q ≡ true → p ≡ false) → (p && q) ≡ false
never true true h = h refl
never true false h = refl
never false q h = refl

module _ (grid : Grid) (cone : Cone) (extent : Extent) where
  pub exact_without_rows : AreExactUpTo grid cone extent (edge extent.rows 1 0) []
  exact_without_rows = record {
    apart = omega arith;
    exact = λ low high near. sym (never _ _ (λ lies.
        le-ltb _ _ (past_first extent low high near (ltb-true low.z high.z (and_parts (nat_lt low.z high.z) _ lies).0))));
  }

  pub exact_after_bench : (dz : ℕ) (rows : List Row) → AreExactUpTo grid cone extent (edge extent.rows dz (2 * extent.rows + 1)) rows
      → AreExactUpTo grid cone extent (edge extent.rows (dz + 1) 0) rows
  exact_after_bench dz rows h = record {
    apart = apart_more 0 rows (edge extent.rows dz (2 * extent.rows + 1)) (edge extent.rows (dz + 1) 0) h.apart
        (omega arith);
    exact = λ low high near. h.exact low high near ∙ ap (λ b. b && is_above grid cone low high) (between_benches extent low high near dz);
  }

  -- a block above is on one of the benches
  high_enough : (low high : Block) → IsWithin extent low high → is_above grid cone low high ≡ true
      → high.z ≤ low.z + min cone.k extent.benches
  high_enough low high near lies =
      let higher : nat_lt low.z high.z ≡ true = (and_parts (nat_lt low.z high.z) _ lies).0 in
      let looked : nat_le (high.z - low.z) cone.k ≡ true =
      (and_parts (nat_le (high.z - low.z) cone.k) _ (and_parts (nat_lt low.z high.z) _ lies).1).0 in
      omega (arith, ltb-true low.z high.z higher, leb-true _ _ looked, near.benches)

  -- the rows are correct for a smaller extent
  pub narrower : (other : Extent) (rows : List Row) → IsWider extent other → IsTable grid cone extent rows → IsTable grid cone other rows
  narrower other rows wide h = record {
    high = h.high;
    apart = h.apart;
    exact = λ low high near. h.exact low high (record {
      rows = omega (arith, near.rows, wide.rows);
      benches = omega (arith, near.benches, wide.benches);
    });
  }

  pub is_table : (top : ℕ) (rows : List Row) → top ≡ min cone.k extent.benches → AreExactUpTo grid cone extent (edge extent.rows (top + 1) 0) rows
      → IsTable grid cone extent rows
  is_table top rows e h = record {
    high = edge extent.rows (top + 1) 0;
    apart = h.apart;
    exact = λ low high near. h.exact low high near ∙ always _ _ (λ lies.
        lt-ltb _ _ (before_last extent low high near top (omega (arith, high_enough low high near lies))));
  }
