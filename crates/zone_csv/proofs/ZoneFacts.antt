-- A zone file has exactly the blocks and the fault that its records state; its blocks are within the maximum, and of its zone.
use Rattle.std.proofs.Common.{◌≡◌, ℕ, ◌+◌, ◌<◌, ◌≤◌, List, [], ◌∷◌, length, arith, refl, sym, ◌∙◌, ap, subst, inl, inr, Ok, Err, Some, None, min}
use Rattle.std.specs.Prelude.{Result, Option, All, MatchOption, ◌⊎◌, ◌↔◌, drop}
use Rattle.std.specs.Result.{ok_prefix}
use Rattle.std.proofs.Math.Nat.{min-eq_left}
use Rattle.std.proofs.lemmas.List.Elements.{All-nil, All-cons}
use Rattle.records.specs.Records.{records_of}
use Rattle.plan_parts.specs.declared.block.Block.{Block}
use Rattle.plan_parts.specs.declared.grid.Grid.{Grid}
use Rattle.zone_csv.proofs.ColumnFacts.{header_named, header_refused}
use Rattle.zone_csv.proofs.RefusedRowFacts.{row_refused}
use Rattle.zone_csv.proofs.RowFacts.{fault_of_row, row_encoded, row_within, zone_of_row}
use Rattle.zone_csv.specs.Cell.{a_fault}
use Rattle.zone_csv.specs.Header.{columns_of}
use Rattle.zone_csv.specs.NamedColumns.{NamesColumns}
use Rattle.zone_csv.specs.RefusedRow.{HasSizes}
use Rattle.zone_csv.specs.Row.{row_of}
use Rattle.zone_csv.specs.Zone.{below_header, blocks_of, fault_of, first_fault, results_of_records, results_of_rows}
use Rattle.zone_csv.specs.ZoneReaderView.{Ahead, ZoneReaderView}
use Rattle.zone_csv.specs.ZoneInvariant.{AccountsForRecords, HasFewBlocks, HasOwnBlocks}
use Rattle.zone_csv.specs.ZoneStates.{RowsState, ZoneFails, ZoneStates, header_record}
use Rattle.zone_csv.specs.declared.columns.Columns.{Columns}
use Rattle.zone_csv.specs.declared.row_fault.Column.TheVariants as column
use Rattle.zone_csv.specs.declared.row_fault.RowFault.{RowFault}
use Rattle.zone_csv.specs.declared.row_fault.RowFaultKind.TheVariants.{MissingColumn}

-- rows that are read as these blocks, up to the end or this fault; and the records of a file
abbrev RowsRead : Grid → ℕ → Columns → ℕ → List (List (List ℕ)) → List Block → Option RowFault → Type 0
RowsRead grid zone columns number [] [] None = Unit {0}
RowsRead grid zone columns number [] [] (Some fault) = ⊥
RowsRead grid zone columns number [] (block ∷ blocks) fault = ⊥
RowsRead grid zone columns number (row ∷ rows) [] None = ⊥
RowsRead grid zone columns number (row ∷ rows) [] (Some fault) = row_of grid zone columns number row ≡ Err fault
RowsRead grid zone columns number (row ∷ rows) (block ∷ blocks) fault =
    (row_of grid zone columns number row ≡ Ok block) × RowsRead grid zone columns (number + 1) rows blocks fault

abbrev ZoneReads : Grid → ℕ → List (List (List ℕ)) → List Block → Option RowFault → Type 0
ZoneReads grid zone records blocks fault =
    (columns : Columns) × NamesColumns (header_record records) columns × RowsRead grid zone columns 2 (drop 1 records) blocks fault

abbrev HeaderRefused : List (List (List ℕ)) → List Block → RowFault → Type 0
HeaderRefused records blocks fault = (blocks ≡ []) × (columns_of (header_record records) ≡ Err fault)

-- what records show: if there is a fault, it may be the header's
abbrev pub ReportRecords : Grid → ℕ → List (List (List ℕ)) → List Block → Option RowFault → Type 0
ReportRecords grid zone records blocks None = ZoneReads grid zone records blocks None
ReportRecords grid zone records blocks (Some fault) = HeaderRefused records blocks fault ⊎ ZoneReads grid zone records blocks (Some fault)

-- each of `rows` rows from this number on has a block, or the fault is of the row after the blocks
abbrev Accounts : ℕ → ℕ → Option RowFault → ℕ → Type 0
Accounts rows number None blocks = rows ≡ blocks
Accounts rows number (Some fault) blocks = fault.row ≡ blocks + number

-- the same for a whole file, whose first record is the header
abbrev IsWhole : ℕ → Option RowFault → List Block → Type 0
IsWhole records fault blocks =
    MatchOption fault (records ≡ length blocks + 1) (λ f. (f.row ≡ length blocks + 2) ⊎ ((f.row ≡ 1) × (blocks ≡ [])))

-- without records, the header has no cells
empty_header : columns_of [] ≡ Err (a_fault 1 column.X MissingColumn)
unfolding columns_of
empty_header = refl

-- no cells name no columns
no_columns : (columns : Columns) → NamesColumns [] columns → ⊥
no_columns columns named = absurd (cc (empty_header, (header_named []).back columns named))

no_header : (fault : RowFault) → columns_of [] ≡ Err fault → Some (a_fault 1 column.X MissingColumn) ≡ Some fault
no_header fault e = let here = empty_header in cc

module _ (grid : Grid) (zone : ℕ) where
  module _ (columns : Columns) where
    -- rows are read as what they state
    rows_reported : (rows : List (List (List ℕ))) (number : ℕ)
        → RowsRead grid zone columns number rows (ok_prefix (results_of_rows grid zone columns rows number))
        (first_fault (results_of_rows grid zone columns rows number))
    rows_reported [] number = tt
    rows_reported (row ∷ rows) number =
        by (row_of grid zone columns number row) refl (rows_reported rows (number + 1))
      where
        by : (r : Result Block RowFault) → row_of grid zone columns number row ≡ r
            → RowsRead grid zone columns (number + 1) rows
            (ok_prefix (results_of_rows grid zone columns rows (number + 1))) (first_fault (results_of_rows grid zone columns rows (number + 1)))
            → RowsRead grid zone columns number
            (row ∷ rows) (ok_prefix (r ∷ results_of_rows grid zone columns rows (number + 1))) (first_fault (r
            ∷ results_of_rows grid zone columns rows (number + 1)))
        by (Ok b) states rest = (states, rest)
        by (Err fault) fails rest = fails

    -- and state what they are read as
    reported_rows : (rows : List (List (List ℕ))) (number : ℕ) (blocks : List Block) (fault : Option RowFault)
        → RowsRead grid zone columns number rows blocks fault
        → (first_fault (results_of_rows grid zone columns rows number) ≡ fault) × (ok_prefix (results_of_rows grid zone columns rows number) ≡ blocks)
    reported_rows [] number [] None h = (refl, refl)
    reported_rows (row ∷ rows) number [] (Some fault) fails =
        (rw fails refl, rw fails refl)
    reported_rows (row ∷ rows) number (b ∷ blocks) fault (states, rest) =
        let more = reported_rows rows (number + 1) blocks fault rest in
        (rw states more.0, rw states (ap (λ bs. b ∷ bs) more.1))
    reported_rows _ number _ _ h = absurd h

    -- rows that state blocks are within the maximum, the blocks are of the zone, and each row has one, up to the row with the fault
    rows_kept : (rows : List (List (List ℕ))) (number : ℕ) (blocks : List Block) (fault : Option RowFault) → number ≤ 1000002
        → RowsRead grid zone columns number rows blocks fault
        → (length blocks + number ≤ 1000002) × All (λ (b : Block). b.zone ≡ min zone 63) blocks
        × Accounts (length rows) number fault (length blocks)
    rows_kept [] number [] None counted h = (omega (arith, counted), All-nil (λ (b : Block). b.zone ≡ min zone 63), refl)
    rows_kept (row ∷ rows) number [] (Some fault) counted fails =
        let here : fault.row ≡ number = fault_of_row grid zone columns number row fault fails in
        (omega (arith, counted), All-nil (λ (b : Block). b.zone ≡ min zone 63), omega (arith, here))
    rows_kept (row ∷ rows) number (b ∷ blocks) fault counted (states, rest) =
        let here : number ≤ 1000001 = row_within grid zone columns number row b states in
        let more = rows_kept rows (number + 1) blocks fault (omega (arith, here)) rest in (
          omega (arith, more.0),
          All-cons (λ (b : Block). b.zone ≡ min zone 63) b blocks (zone_of_row grid zone columns number row b states) more.1,
          accounts fault more.2,
        )
      where
        accounts : (fault : Option RowFault) → Accounts (length rows) (number + 1) fault (length blocks)
            → Accounts (length (row ∷ rows)) number fault (length (b ∷ blocks))
        accounts None h = omega (arith, h)
        accounts (Some fault) h = omega (arith, h)
    rows_kept _ number _ _ counted h = absurd h

  -- records show what they state
  pub reported : (records : List (List (List ℕ)))
      → ReportRecords grid zone records (ok_prefix (results_of_records grid zone records)) (first_fault (results_of_records grid zone records))
  reported [] = inl (refl, empty_header)
  reported (header ∷ rows) = by (columns_of header) refl
    where
      below : (columns : Columns) (blocks : List Block) (fault : Option RowFault) → NamesColumns header columns
          → RowsRead grid zone columns 2 rows blocks fault
          → ReportRecords grid zone (header ∷ rows) blocks fault
      below columns blocks None named states = (columns, named, states)
      below columns blocks (Some fault) named states = inr (columns, named, states)

      by : (r : Result Columns RowFault) → columns_of header ≡ r
          → ReportRecords grid zone (header ∷ rows) (ok_prefix (below_header grid zone r rows)) (first_fault (below_header grid zone r rows))
      by (Ok columns) e =
          let named = (header_named header).reported columns e in
          below columns _ _ named (rows_reported columns rows 2)
      by (Err fault) e = inl (refl, e)

  -- and state what they show
  stated_records : (records : List (List (List ℕ))) (blocks : List Block) (fault : Option RowFault)
      → ZoneReads grid zone records blocks fault
      → (first_fault (results_of_records grid zone records) ≡ fault) × (ok_prefix (results_of_records grid zone records) ≡ blocks)
  stated_records [] blocks fault (columns, named, states) = absurd (no_columns columns named)
  stated_records (header ∷ rows) blocks fault (columns, named, states) =
      let above = (header_named header).back columns named in
      let below = reported_rows columns rows 2 blocks fault states in
      (rw above below.0, rw above below.1)

  pub report_back : (records : List (List (List ℕ))) (blocks : List Block) (fault : Option RowFault) → ReportRecords grid zone records blocks fault
      → (first_fault (results_of_records grid zone records) ≡ fault) × (ok_prefix (results_of_records grid zone records) ≡ blocks)
  report_back records blocks None states = stated_records records blocks None states
  report_back records blocks (Some fault) (inr states) = stated_records records blocks (Some fault) states
  report_back [] blocks (Some fault) (inl (none, fails)) = (no_header fault fails, sym none)
  report_back (header ∷ rows) blocks (Some fault) (inl (none, fails)) =
      (rw fails refl, rw fails (sym none))

  following : (records : List (List (List ℕ))) (blocks : List Block) (fault : Option RowFault) → ZoneReads grid zone records blocks fault
      → (length blocks ≤ 1000000) × All (λ (b : Block). b.zone ≡ min zone 63) blocks × IsWhole (length records) fault blocks
  following [] blocks fault (columns, named, states) = absurd (no_columns columns named)
  following (header ∷ rows) blocks fault (columns, named, states) =
      let all = rows_kept columns rows 2 blocks fault (omega arith) states in
      (omega (arith, all.0), all.1, whole fault all.2)
    where
      whole : (fault : Option RowFault) → Accounts (length rows) 2 fault (length blocks) → IsWhole (length (header ∷ rows)) fault blocks
      whole None h = omega (arith, h)
      whole (Some fault) h = inl h

  kept : (records : List (List (List ℕ))) (blocks : List Block) (fault : Option RowFault) → ReportRecords grid zone records blocks fault
      → (length blocks ≤ 1000000) × All (λ (b : Block). b.zone ≡ min zone 63) blocks × IsWhole (length records) fault blocks
  kept records blocks None states = following records blocks None states
  kept records blocks (Some fault) (inr states) = following records blocks (Some fault) states
  kept records blocks (Some fault) (inl (none, fails)) =
      let few : length blocks ≤ 1000000 = omega (arith, ap length none) in (
        few,
        subst (All (λ (b : Block). b.zone ≡ min zone 63)) (sym none) (All-nil (λ (b : Block). b.zone ≡ min zone 63)),
        inr (((header_refused (header_record records)).reported fault fails).0, none),
      )

pub zone_reported : (grid : Grid) (zone : ℕ) (text : List ℕ)
    → ReportRecords grid zone (records_of text) (blocks_of grid zone text) (fault_of grid zone text)
unfolding blocks_of fault_of
zone_reported grid zone text = reported grid zone (records_of text)

-- if the grid's blocks have sizes, what is read is what is encoded
module _ (grid : Grid) (zone : ℕ) (sizes : HasSizes grid) (small : zone < 64) where
  rows_stated : (columns : Columns) (number : ℕ) (rows : List (List (List ℕ))) (blocks : List Block) (fault : Option RowFault)
      → RowsRead grid zone columns number rows blocks fault ↔ RowsState grid zone columns number rows blocks fault
  rows_stated columns number [] [] None = (λ h. h, λ h. h)
  rows_stated columns number [] [] (Some fault) = (λ h. h, λ h. h)
  rows_stated columns number [] (b ∷ blocks) fault = (λ h. h, λ h. h)
  rows_stated columns number (row ∷ rows) [] None = (λ h. h, λ h. h)
  rows_stated columns number (row ∷ rows) [] (Some fault) =
      let all = row_refused grid zone columns number row sizes in (all.reported fault, all.back fault)
  rows_stated columns number (row ∷ rows) (b ∷ blocks) fault =
      let here = row_encoded grid zone columns number row sizes.0 sizes.1 sizes.2 small in
      let more = rows_stated columns (number + 1) rows blocks fault in
      (λ h. (here.reported b h.0, more.0 h.1), λ h. (here.back b h.0, more.1 h.1))

  -- a zone file has these blocks and no fault, or these and this fault, if and only if its records encode them and fail like this
  zone_reported_by : (text : List ℕ) (blocks : List Block) (fault : Option RowFault)
      → ((fault_of grid zone text ≡ fault) × (blocks_of grid zone text ≡ blocks)) ↔ ReportRecords grid zone (records_of text) blocks fault
  unfolding blocks_of fault_of
  zone_reported_by text blocks fault = (to, report_back grid zone (records_of text) blocks fault)
    where
      to : (fault_of grid zone text ≡ fault) × (blocks_of grid zone text ≡ blocks) → ReportRecords grid zone (records_of text) blocks fault
      to h =
          subst (λ bs. ReportRecords grid zone (records_of text) bs fault) h.1
          (subst (ReportRecords grid zone (records_of text) (blocks_of grid zone text)) h.0 (zone_reported grid zone text))

  pub zone_states : (text : List ℕ) (blocks : List Block)
      → ((fault_of grid zone text ≡ None) × (blocks_of grid zone text ≡ blocks)) ↔ ZoneStates grid zone (records_of text) blocks None
  zone_states text blocks =
      let reports = zone_reported_by text blocks None in (
        λ h. let t = reports.0 h in (t.0, t.1, (rows_stated t.0 2 (drop 1 (records_of text)) blocks None).0 t.2),
        λ h. reports.1 (h.0, h.1, (rows_stated h.0 2 (drop 1 (records_of text)) blocks None).1 h.2),
      )

  pub zone_fails : (text : List ℕ) (blocks : List Block) (fault : RowFault)
      → ((fault_of grid zone text ≡ Some fault) × (blocks_of grid zone text ≡ blocks)) ↔ ZoneFails grid zone (records_of text) blocks fault
  zone_fails text blocks fault = (λ h. to ((zone_reported_by text blocks (Some fault)).0 h), λ h. (zone_reported_by text blocks (Some fault)).1 (from h))
    where
      header : List (List ℕ)
      header = header_record (records_of text)

      to : ReportRecords grid zone (records_of text) blocks (Some fault) → ZoneFails grid zone (records_of text) blocks fault
      to (inl (none, fails)) = let h = (header_refused header).reported fault fails in inl (none, h.0, h.1)
      to (inr (columns, named, rows)) = inr (columns, named, (rows_stated columns 2 (drop 1 (records_of text)) blocks (Some fault)).0 rows)

      from : ZoneFails grid zone (records_of text) blocks fault → ReportRecords grid zone (records_of text) blocks (Some fault)
      from (inl (none, row, first)) = inl (none, (header_refused header).back fault (row, first))
      from (inr (columns, named, rows)) = inr (columns, named, (rows_stated columns 2 (drop 1 (records_of text)) blocks (Some fault)).1 rows)

-- so a reader at the start of the file returns exactly that
pub reader_returns : (grid : Grid) (zone : ℕ) (text : List ℕ) (view : ZoneReaderView)
    → view ≡ Ahead (blocks_of grid zone text) (fault_of grid zone text) → (blocks : List Block) (fault : Option RowFault)
    → (view ≡ Ahead blocks fault) ↔ ((fault_of grid zone text ≡ fault) × (blocks_of grid zone text ≡ blocks))
reader_returns grid zone text view says blocks fault = (
  λ is. let same : Ahead (blocks_of grid zone text) (fault_of grid zone text) ≡ Ahead blocks fault = sym says ∙ is in (cc, cc),
  λ back. says ∙ (λ i. Ahead (back.1 i) (back.0 i)),
)

pub zone_invariant : (grid : Grid) (zone : ℕ) (text : List ℕ)
    → (length (blocks_of grid zone text) ≤ 1000000) × All (λ (b : Block). b.zone ≡ min zone 63) (blocks_of grid zone text)
    × IsWhole (length (records_of text)) (fault_of grid zone text) (blocks_of grid zone text)
zone_invariant grid zone text = kept grid zone (records_of text) _ _ (zone_reported grid zone text)

pub few_blocks : (grid : Grid) (zone : ℕ) (text : List ℕ) → HasFewBlocks grid zone text
few_blocks grid zone text = (zone_invariant grid zone text).0

pub own_blocks : (grid : Grid) (zone : ℕ) (text : List ℕ) → zone < 64 → HasOwnBlocks grid zone text
own_blocks grid zone text small =
    let same : min zone 63 ≡ zone = min-eq_left (omega (arith, small)) in
    subst (λ n. All (λ (b : Block). b.zone ≡ n) (blocks_of grid zone text)) same (zone_invariant grid zone text).1

pub accounts_for_records : (grid : Grid) (zone : ℕ) (text : List ℕ) → AccountsForRecords grid zone text
accounts_for_records grid zone text = (zone_invariant grid zone text).2
