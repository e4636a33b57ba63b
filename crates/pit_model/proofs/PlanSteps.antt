-- Reading a plan record by record: what the remaining records add to the earlier ones.
use Rattle.std.proofs.Common.{◌≡◌, ◌<◌, ◌≤◌, ℕ, suc, ◌+◌, true, false, List, [], ◌∷◌, Result, Ok, Err, refl, sym, ◌∙◌, ap, arith, length, nat_le}
use Rattle.std.proofs.lemmas.Bool.Decides.{nat_tests}
use Rattle.pit_units.specs.Steps.{◌>>=◌}
use Rattle.records.specs.RecordCells.{cells_of}
use Rattle.plan_parts.specs.Plan.{PlanParts}
use Rattle.pit_model.specs.PlanRecords.{record_of}
use Rattle.pit_model.specs.Planned.{at_row, finished, planned, record_at, records_from}
use Rattle.records.specs.RecordReader.{RecordReaderView, Rows, Over, GaveUp, TakesRow}
use Rattle.records.specs.Records.{records_of}
use Rattle.pit_model.specs.Stated.{Stated, nothing_stated}
use Rattle.pit_model.specs.declared.plan_fault.PlanFault.{PlanFault}
use Rattle.pit_model.specs.declared.plan_fault.PlanFaultKind.TheVariants.{TooMany}
use Rattle.pit_units.specs.OrMemory.{Gives}
use Rattle.pit_units.specs.declared.or_memory.OrMemory.{OrMemory}
use Rattle.pit_units.specs.declared.or_memory.OrMemory.TheVariants.{Fault, OutOfMemory}

-- the plan of these records; the first has this number
abbrev pub plan_from : List (List (List ℕ)) → ℕ → Stated → Result PlanParts PlanFault
plan_from rows n s = records_from n s rows >>= λ last. at_row (n + length rows) (finished last)

pub all_planned : (text : List ℕ) → plan_from (records_of text) 1 nothing_stated ≡ planned text
all_planned text =
    let same : 1 + length (records_of text) ≡ length (records_of text) + 1 = omega arith in
    ap (λ n. records_from 1 nothing_stated (records_of text) >>= λ last. at_row n (finished last)) same

-- the remaining records state this plan
abbrev pub Leads : RecordReaderView → ℕ → Stated → Result PlanParts PlanFault → Type 0
Leads (Rows rows) n s stated = plan_from rows n s ≡ stated
Leads Over n s stated = ⊥
Leads GaveUp n s stated = ⊥

-- a record whose number is within the maximum, and one whose number is above it
pub numbered : (n : ℕ) (s : Stated) (row : List (List ℕ)) → n ≤ 10000
    → record_at n s row ≡ at_row n (record_of s (cells_of row))
numbered n s row few = let test : nat_le n 10000 ≡ true = grind (arith, nat_tests) in rw test refl

pub too_many : (n : ℕ) (s : Stated) (row : List (List ℕ)) → 10000 < n → record_at n s row ≡ Err (record { row = n; kind = TooMany })
too_many n s row past = let test : nat_le n 10000 ≡ false = grind (arith, nat_tests) in rw test refl

-- the first of these records
one : (row : List (List ℕ)) (rows : List (List (List ℕ))) (n : ℕ) (s : Stated)
    → plan_from (row ∷ rows) n s ≡ (record_at n s row >>= λ next. plan_from rows (n + 1) next)
one row rows n s =
    let last : n + length (row ∷ rows) ≡ n + 1 + length rows = omega arith in
    let next : suc n ≡ n + 1 = omega arith in
    ap (λ k. (record_at n s row >>= λ x. records_from (suc n) x rows) >>= λ last. at_row k (finished last)) last
    ∙ ap (λ k. (record_at n s row >>= λ x. records_from k x rows)
    >>= λ last. at_row (n + 1 + length rows) (finished last)) next
    ∙ by (record_at n s row)
  where
    by : (r : Result Stated PlanFault)
        → ((r >>= λ x. records_from (n + 1) x rows) >>= λ last. at_row (n + 1 + length rows) (finished last))
        ≡ (r >>= λ x. plan_from rows (n + 1) x)
    by (Ok next) = refl
    by (Err fault) = refl

-- a record was read: it and the remaining records are the records that remained before
took : (E : Type 0) (old : RecordReaderView) (fields : List (List ℕ))
    (after : RecordReaderView) (n : ℕ) (s : Stated) (stated : Result PlanParts PlanFault)
    → TakesRow {E = E} old (Ok true) fields after → Leads old n s stated
    → (rest : List (List (List ℕ))) × ((after ≡ Rows rest) × (plan_from (fields ∷ rest) n s ≡ stated))
took E (Rows []) fields after n s stated t h = absurd (cc (t.0))
took E (Rows (row ∷ rows)) fields after n s stated t h = (rows, (t.2, ap (λ f. plan_from (f ∷ rows) n s) t.1 ∙ h))
took E Over fields after n s stated t h = absurd h
took E GaveUp fields after n s stated t h = absurd t

pub ended : (E : Type 0) (old : RecordReaderView) (fields : List (List ℕ))
    (after : RecordReaderView) (n : ℕ) (s : Stated) (stated : Result PlanParts PlanFault)
    → TakesRow {E = E} old (Ok false) fields after → Leads old n s stated → at_row n (finished s) ≡ stated
ended E (Rows []) fields after n s stated t h = let same : n ≡ n + 0 = omega arith in ap (λ k. at_row k (finished s)) same ∙ h
ended E (Rows (row ∷ rows)) fields after n s stated t h = absurd (cc (t.0))
ended E Over fields after n s stated t h = absurd h
ended E GaveUp fields after n s stated t h = absurd t

-- the record states what comes next, or has a fault
pub admitted : (E : Type 0) (old : RecordReaderView) (fields : List (List ℕ))
    (after : RecordReaderView) (n : ℕ) (s next : Stated) (stated : Result PlanParts PlanFault)
    → TakesRow {E = E} old (Ok true) fields after → Leads old n s stated → record_at n s fields ≡ Ok next
    → Leads after (n + 1) next stated
admitted E old fields after n s next stated t h states =
    let p = took E old fields after n s stated t h in
    rw p.1.0 (sym (one fields p.0 n s ∙ ap (λ r. r >>= λ x. plan_from p.0 (n + 1) x) states) ∙ p.1.1)

pub refused : (E : Type 0) (old : RecordReaderView) (fields : List (List ℕ))
    (after : RecordReaderView) (n : ℕ) (s next : Stated) (error : OrMemory PlanFault)
    (stated : Result PlanParts PlanFault)
    → TakesRow {E = E} old (Ok true) fields after → Leads old n s stated
    → Gives {A = Unit {0}} (λ _. next) (Err error) (record_at n s fields)
    → Gives {A = PlanParts} (λ plan. plan) (Err error) stated
refused E old fields after n s next OutOfMemory stated t h fails = tt
refused E old fields after n s next (Fault fault) stated t h fails =
    let p = took E old fields after n s stated t h in
    sym p.1.1 ∙ one fields p.0 n s ∙ ap (λ r. r >>= λ x. plan_from p.0 (n + 1) x) fails
