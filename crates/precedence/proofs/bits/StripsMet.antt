-- What lanes meet by some strips.
use Rattle.std.proofs.Common.{◌≡◌, ℕ, ◌+◌, ◌-◌, ◌<◌, ◌≤◌, List, length, get_or, ◌⊎◌, ⊎_elim, sym, ap, subst, ◌∙◌, arith}
use Rattle.std.specs.List.Sorted.{IsStrictlyIncreasing}
use Rattle.std.proofs.lemmas.Bool.{cases_lt, both_ways}
use Rattle.std.proofs.lemmas.List.{get_or-map, get_or_read, length-map}
use Rattle.precedence.specs.inner.lanes.Windows.{Meets, MeetsAt}
use Rattle.precedence.specs.inner.Rows.{pasts, start_of, LieApart}
use Rattle.precedence.specs.declared.cones.cone_rows.Row.{Row}
use Rattle.precedence.specs.declared.lanes.strip.Strip.{Strip}
use Rattle.precedence.specs.declared.lanes.strips.Strips.{Strips}
use Rattle.precedence.proofs.Members.{some_of}
use Rattle.precedence.proofs.ranges.RowOfCode.{in_none, long, past_some}
use Rattle.precedence.proofs.ranges.RangesOfRows.{pasts_rise}
use Rattle.precedence.proofs.ranges.Starts.{no_less, start_before_in, start_within}

-- the start of a strip, and the number of strips
pub start_at : (strips : Strips) (starts : List ℕ) → starts ≡ strips.starts.items → (k : ℕ) (s : Strip) → k < length strips.strips.items
    → get_or starts k 0 ≡ (get_or strips.strips.items k s).start
start_at strips starts is k s lt = ap (λ ns. get_or ns k 0) (is ∙ strips.each) ∙ get_or-map (λ (t : Strip). t.start) strips.strips.items k s 0 lt

pub as_many : (strips : Strips) (starts : List ℕ) → starts ≡ strips.starts.items → length starts ≡ length strips.strips.items
as_many strips starts is = ap length (is ∙ strips.each) ∙ length-map strips.strips.items (λ (t : Strip). t.start)

-- the starts ascend
pub starts_rise : (strips : Strips) (starts : List ℕ) → starts ≡ strips.starts.items → IsStrictlyIncreasing starts
starts_rise strips starts is k lt =
    let within : k + 1 < length strips.strips.items = omega (arith, as_many strips starts is, lt) in
    let s = some_of strips.strips.items (k + 1) within in
    let some = (get_or strips.strips.items k s).some in
    omega (arith, some, strips.apart k (k + 1) s (omega arith) within, start_at strips starts is k s (omega arith), start_at strips starts is (k + 1) s within)

-- a later strip starts no earlier
pub starts_later : (strips : Strips) (j k : ℕ) (s : Strip) → j ≤ k → k < length strips.strips.items
    → (get_or strips.strips.items j s).start ≤ (get_or strips.strips.items k s).start
starts_later strips j k s le lt = ⊎_elim
    (λ less. omega (arith, strips.apart j k s less lt))
    (λ no. let same : j ≡ k = omega arith in omega (arith, ap (λ n. (get_or strips.strips.items n s).start) same))
    (cases_lt j k)

-- no lane meets the rows by a strip, if the rows before one end too early for all its distances and that row starts too late
pub no_meeting : (strip : Strip) (rows : List Row) (high distance i e row : ℕ) → LieApart 0 rows high → row ≤ length rows
    → ((k : ℕ) → k < row → get_or (pasts rows) k 0 + 63 ≤ distance - strip.start)
    → (row < length rows → (d : Row) → distance - strip.start < (get_or rows row d).first)
    → Meets strip rows distance i e → ⊥
no_meeting strip rows high distance i e row apart inside before begins meets =
    let start_le : strip.start ≤ e = meets.sees.distance.0 in
    let end_lt : e < strip.start + strip.len = meets.sees.distance.1 in
    let few : strip.len ≤ 64 = strip.few in
    let lower : e ≤ distance = meets.lower in
    both_ways _
    (in_none 0 (distance - e) high row rows apart inside (λ k lt. omega (arith, before k lt)) (λ lt d. omega (arith, begins lt d)))
    meets.below

-- no lane meets the rows by the strips after the k-th that can have no distance from which the remainder is in a row before the row that
-- the k-th reaches
pub none_passed : (strips : List Strip) (rows : List Row) (high distance k m start row : ℕ) → LieApart 0 rows high
    → ((j : ℕ) (s : Strip) → k ≤ j → j < length strips → start ≤ (get_or strips j s).start)
    → ((s : Strip) → (get_or strips k s).start ≡ start)
    → row ≡ start_of (distance - start - 63 + 1) (pasts rows)
    → (row < length rows → (d : Row) → distance - start < (get_or rows row d).first)
    → ((j : ℕ) (s : Strip) → k < j → j < m → j < length strips → (row ≡ 0) ⊎ (get_or (pasts rows) (row - 1) 0 + 63 ≤ distance - (get_or strips j s).start))
    → (j i : ℕ) → k ≤ j → j < m → MeetsAt strips rows distance j i → ⊥
none_passed strips rows high distance k m start row apart later at row_is begins passed j i from up (lt, e, meets) =
    let s = some_of strips j lt in
    no_meeting (get_or strips j s) rows high distance i e row apart inside (before s)
    (λ within d. omega (arith, begins within d, later j s from lt))
    (meets s)
  where
    inside : row ≤ length rows
    inside = omega (arith, row_is, start_within (distance - start - 63 + 1) (pasts rows), long rows)

    reached : (n : ℕ) → n < row → get_or (pasts rows) n 0 + 63 ≤ distance - start
    reached n less = omega (
      arith,
      start_before_in (distance - start - 63 + 1) n (pasts rows) (omega (arith, row_is)),
      past_some rows high n apart (omega (arith, inside)),
    )

    before : (s : Strip) (n : ℕ) → n < row → get_or (pasts rows) n 0 + 63 ≤ distance - (get_or strips j s).start
    before s n less = ⊎_elim
        (λ after. ⊎_elim
        (λ none. absurd (omega (arith, none)))
        (λ far. omega (arith, far, no_less (pasts rows) n (row - 1) (pasts_rise 0 rows high apart) (omega arith) (omega (arith, inside, long rows))))
        (passed j s after up lt))
        (λ le.
        let same : j ≡ k = omega (arith, le) in
        let first : (get_or strips j s).start ≡ start = ap (λ n. (get_or strips n s).start) same ∙ at s in
        omega (arith, first, reached n less))
        (cases_lt k j)

-- no lane sees a distance of a strip that starts later
pub none_there : (strips : List Strip) (rows : List Row) (distance j i : ℕ) → (j < length strips → (s : Strip) → distance < (get_or strips j s).start)
    → MeetsAt strips rows distance j i → ⊥
none_there strips rows distance j i later (lt, e, meets) =
    let s = some_of strips j lt in
    omega (arith, later lt s, (meets s).sees.distance.0, (meets s).lower)

-- a lane meets the rows by the strip with the number
module _ (strips : List Strip) (rows : List Row) (distance k i : ℕ) (strip : Strip) (lt : k < length strips) (is : strip ≡ get_or strips k strip) where
  pub meets_at : (e : ℕ) × Meets strip rows distance i e → MeetsAt strips rows distance k i
  meets_at meets = (lt, meets.0, λ s. subst (λ (t : Strip). Meets t rows distance i meets.0) (get_or_read strips k strip lt is s) meets.1)

  pub at_meets : MeetsAt strips rows distance k i → (e : ℕ) × Meets strip rows distance i e
  at_meets meets = (meets.1, subst (λ (t : Strip). Meets t rows distance i meets.1) (sym is) (meets.2 strip))
