-- A text states a plan if and only if its records encode it. Otherwise the first invalid record has the fault, or a part is
-- missing.
use Rattle.std.specs.Prelude.{◌≡◌, ℕ, suc, ◌+◌, ◌≤◌, ◌==◌, ◌||◌, nat_le, not, Bool, true, false, List, [], ◌∷◌, ◌++◌, length, ℤ, Option, Some, None, Result, Ok, Err, ◌⊎◌, if◌then◌else◌}
use Rattle.std.proofs.Common.{refl, arith, sym, ◌∙◌, ap, subst, inl, inr, leb-true}
use Rattle.std.proofs.lemmas.Bool.{le-leb, ne_eqb, not-false}
use Rattle.pit_units.specs.Steps.{◌>>=◌}
use Rattle.plan_parts.specs.Plan.{PlanParts}
use Rattle.plan_parts.specs.PlanInvariant.{plan_of}
use Rattle.plan_parts.specs.declared.grid.Grid.{Grid}
use Rattle.pit_units.proofs.Exactly.{Exactly, done, same, tested, then_}
use Rattle.pit_model.proofs.KeyFacts.{key_back, key_found}
use Rattle.pit_model.proofs.PartFaults.{part_fails}
use Rattle.pit_model.proofs.PartsAdded.{part_added}
use Rattle.pit_model.proofs.FailsExactly.{FailsExactly, asks, no_fault}
use Rattle.pit_model.specs.AddedParts.{AddsPart}
use Rattle.pit_model.specs.FailedParts.{Asks, CellsFail, PartFails, RecordFails}
use Rattle.pit_model.specs.PlanKeys.{IsKey, key_of}
use Rattle.pit_model.specs.Planned.{at_row, finished, planned, record_at, records_from, whole_plan}
use Rattle.pit_model.specs.PlanRecords.{key_record, record_of}
use Rattle.pit_model.specs.EncodedPlan.{ArePlan, CellsAdd, EncodePlan, IsFirstFault, IsFirstSpoiled, IsLacking, RecordStates, RecordsState}
use Rattle.records.specs.RecordCells.{cells_of}
use Rattle.records.specs.Records.{records_of}
use Rattle.pit_model.specs.Stated.{Stated, nothing_stated}
use Rattle.pit_model.specs.declared.plan_fault.PlanFault.{PlanFault}
use Rattle.pit_model.specs.declared.plan_fault.PlanFaultKind.{PlanFaultKind}
use Rattle.pit_model.specs.declared.plan_fault.PlanFaultKind.TheVariants.{Key, Missing, TooMany}
use Rattle.pit_model.specs.declared.plan_key.PlanKey.{PlanKey}

at : {A : Type 0} {r : Result A PlanFaultKind} {P : A → Type 0} (number : ℕ) → Exactly r P → Exactly (at_row number r) P
at {A} {r} {P} number all = record { reported = λ y e. all.reported y (reported r y e); back = λ y h. ap (at_row number) (all.back y h) }
  where
    reported : (r : Result A PlanFaultKind) (y : A) → at_row number r ≡ Ok y → r ≡ Ok y
    reported (Ok x) y e = ap Ok (same x y e)
    reported (Err kind) y e = absurd cc

-- the record with a key, and a record of cells
keyed : (s : Stated) (first : List ℕ) (cells : List (List ℕ))
    → Exactly (key_record (key_of first) s cells) (λ next. (k : PlanKey) × IsKey first k × AddsPart k s cells next)
keyed s first cells = record {
  reported = λ next e. reported (key_of first) refl next e;
  back = λ next h. ap (λ o. key_record o s cells) (key_back first h.0 h.1) ∙ (part_added s cells h.0).back next h.2;
}
  where
    reported : (o : Option PlanKey) → key_of first ≡ o → (next : Stated) → key_record o s cells ≡ Ok next
        → (k : PlanKey) × IsKey first k × AddsPart k s cells next
    reported None is next e = absurd cc
    reported (Some k) is next e = (k, key_found first k is, (part_added s cells k).reported next e)

of_key : (s : Stated) (first : List ℕ) (cells : List (List ℕ))
    → record_of s (first ∷ cells) ≡ key_record (key_of first) s (first ∷ cells)
of_key s first cells =
    let some : (length (first ∷ cells) == 0) ≡ false = ne_eqb (length (first ∷ cells)) 0 (λ e. omega (arith, e)) in rw some refl

cells_stated : (s : Stated) (cells : List (List ℕ)) → Exactly (record_of s cells) (CellsAdd s cells)
cells_stated s [] = done s
cells_stated s (first ∷ cells) =
    subst (λ r. Exactly r (CellsAdd s (first ∷ cells))) (sym (of_key s first cells)) (keyed s first (first ∷ cells))

keyed_fails : (s : Stated) (first : List ℕ) (cells : List (List ℕ))
    → FailsExactly (key_record (key_of first) s cells)
    (Asks ((k : PlanKey) × IsKey first k) Key (λ kind. (k : PlanKey) × IsKey first k × PartFails k s cells kind))
keyed_fails s first cells = by (key_of first) refl
  where
    Fault : PlanFaultKind → Type 0
    Fault = Asks ((k : PlanKey) × IsKey first k) Key (λ kind. (k : PlanKey) × IsKey first k × PartFails k s cells kind)

    by : (o : Option PlanKey) → key_of first ≡ o → FailsExactly (key_record o s cells) Fault
    by None is =
        asks {r = Err Key} {t = true} Key (λ e. absurd cc) (λ h. absurd (cc (is, key_back first h.0 h.1)))
        (λ h. absurd (cc (is, key_back first h.0 h.1)))
    by (Some k) is = record { reported = reported; back = back }
      where
        reported : (f : PlanFaultKind) → key_record (Some k) s cells ≡ Err f → Fault f
        reported f e = let key = key_found first k is in inr ((k, key), (k, key, (part_fails s cells k).reported f e))

        back : (f : PlanFaultKind) → Fault f → key_record (Some k) s cells ≡ Err f
        back f (inl (never, same)) = absurd (never (k, key_found first k is))
        back f (inr (some, (j, key, fails))) =
            let one : Some k ≡ Some j = sym is ∙ key_back first j key in
            ap (λ o. key_record o s cells) one ∙ (part_fails s cells j).back f fails

cells_fail : (s : Stated) (cells : List (List ℕ)) → FailsExactly (record_of s cells) (CellsFail s cells)
cells_fail s [] = no_fault s
cells_fail s (first ∷ cells) =
    subst (λ r. FailsExactly r (CellsFail s (first ∷ cells))) (sym (of_key s first cells)) (keyed_fails s first (first ∷ cells))

-- the record with a number
module _ (number : ℕ) (s : Stated) (row : List (List ℕ)) where
  few : not (nat_le number 10000) ≡ false → number ≤ 10000
  few e = leb-true number 10000 (not-false (nat_le number 10000) e)

  many : number ≤ 10000 → not (nat_le number 10000) ≡ false
  many h = rw (le-leb number 10000 h) refl

  pub record_stated : Exactly (record_at number s row) (RecordStates number s row)
  record_stated = at number (tested TooMany few many (cells_stated s (cells_of row)))

  kind_fails : FailsExactly (if not (nat_le number 10000) then Err TooMany else record_of s (cells_of row)) (RecordFails number s (cells_of row))
  kind_fails = asks TooMany few many (λ h. cells_fail s (cells_of row))

  record_reported : (fault : PlanFault) → record_at number s row ≡ Err fault → (fault.row ≡ number) × RecordFails number s (cells_of row) fault.kind
  record_reported fault e = by (if not (nat_le number 10000) then Err TooMany else record_of s (cells_of row)) refl e
    where
      by : (r : Result Stated PlanFaultKind) → (if not (nat_le number 10000) then Err TooMany else record_of s (cells_of row)) ≡ r
          → at_row number r ≡ Err fault → (fault.row ≡ number) × RecordFails number s (cells_of row) fault.kind
      by (Ok next) is e = absurd cc
      by (Err kind) is e =
          let same : record { row = number; kind = kind } ≡ fault = cc in (
            ap (λ (f : PlanFault). f.row) (sym same),
            kind_fails.reported fault.kind (is ∙ ap (λ (f : PlanFault). Err f.kind) same),
          )

  record_back : (fault : PlanFault) → fault.row ≡ number → RecordFails number s (cells_of row) fault.kind → record_at number s row ≡ Err fault
  record_back fault place fails =
      ap (at_row number) (kind_fails.back fault.kind fails) ∙ (λ i. Err (record { row = sym place i; kind = fault.kind }))

records_stated : (number : ℕ) (s : Stated) (rows : List (List (List ℕ))) → Exactly (records_from number s rows) (RecordsState number s rows)
records_stated number s [] = done s
records_stated number s (row ∷ rows) = then_ (record_stated number s row) (λ next. records_stated (suc number) next rows)

-- the parts of a plan, none of them missing
module _ (s : Stated) where
  Parts : Option (List ℕ) → Option Grid → Option ℕ → Option ℤ → Type 0
  Parts name grid periods rate = (s.name ≡ name) × (s.grid ≡ grid) × (s.periods ≡ periods) × (s.rate ≡ rate)

  some : {A : Type 0} (xs : List A) → (length xs == 0) ≡ false → 1 ≤ length xs
  some [] e = absurd cc
  some (x ∷ xs) e = omega arith

  none : {A : Type 0} (xs : List A) → 1 ≤ length xs → (length xs == 0) ≡ false
  none xs h = ne_eqb (length xs) 0 (λ e. omega (arith, h, e))

  pub plan_finished : Exactly (finished s) (ArePlan s)
  plan_finished = record { reported = λ p e. reported s.name s.grid s.periods s.rate refl refl refl refl p e; back = back }
    where
      reported : (name : Option (List ℕ)) (grid : Option Grid) (periods : Option ℕ) (rate : Option ℤ)
          → s.name ≡ name → s.grid ≡ grid → s.periods ≡ periods → s.rate ≡ rate
          → (p : PlanParts) → whole_plan name grid periods rate s ≡ Ok p → ArePlan s p
      reported (Some name) (Some grid) (Some periods) (Some rate) n g k r p e = by (length s.cones == 0) refl (length s.formulas == 0) refl e
        where
          by : (c : Bool) → (length s.cones == 0) ≡ c → (f : Bool) → (length s.formulas == 0) ≡ f
              → (if c || f then Err Missing else Ok (plan_of name grid s.cones s.formulas (record { periods = periods; rate = rate }) s.resources s.limits)) ≡ Ok p → ArePlan s p
          by true c f d e = absurd cc
          by false c true d e = absurd cc
          by false c false d e =
              subst (ArePlan s) (same (plan_of name grid s.cones s.formulas (record { periods = periods; rate = rate }) s.resources s.limits) p e) (record {
                name = n;
                grid = g;
                cones = (some s.cones c, refl);
                formulas = (some s.formulas d, refl);
                periods = k;
                rate = r;
                resources = refl;
                limits = refl;
              })
      reported None grid periods rate n g k r p e = absurd cc
      reported (Some name) None periods rate n g k r p e = absurd cc
      reported (Some name) (Some grid) None rate n g k r p e = absurd cc
      reported (Some name) (Some grid) (Some periods) None n g k r p e = absurd cc

      back : (p : PlanParts) → ArePlan s p → finished s ≡ Ok p
      back p h =
          (λ i. whole_plan (h.name i) (h.grid i) (h.periods i) (h.rate i) s)
          ∙ ap (λ missing. if missing then Err Missing else Ok (plan_of p.name p.grid s.cones s.formulas (record { periods = p.periods; rate = p.rate }) s.resources s.limits))
          (ap (λ c. c || (length s.formulas == 0)) (none s.cones h.cones.0) ∙ none s.formulas h.formulas.0)
          ∙ (λ i. Ok (record {
            name = p.name;
            grid = p.grid;
            cones = sym h.cones.1 i;
            formulas = sym h.formulas.1 i;
            periods = p.periods;
            rate = p.rate;
            resources = sym h.resources i;
            limits = sym h.limits i;
          }))

  -- its only fault is that a part is missing
  lacks : (kind : PlanFaultKind) → finished s ≡ Err kind → kind ≡ Missing
  lacks kind e = reported s.name s.grid s.periods s.rate e
    where
      reported : (name : Option (List ℕ)) (grid : Option Grid) (periods : Option ℕ) (rate : Option ℤ) → whole_plan name grid periods rate s ≡ Err kind
          → kind ≡ Missing
      reported (Some name) (Some grid) (Some periods) (Some rate) e = by ((length s.cones == 0) || (length s.formulas == 0)) e
        where
          by : (t : Bool) → (if t then Err Missing else Ok (plan_of name grid s.cones s.formulas (record { periods = periods; rate = rate }) s.resources s.limits)) ≡ Err kind
              → kind ≡ Missing
          by true e = let same : Missing ≡ kind = cc in sym same
          by false e = absurd cc
      reported None grid periods rate e = let same : Missing ≡ kind = cc in sym same
      reported (Some name) None periods rate e = let same : Missing ≡ kind = cc in sym same
      reported (Some name) (Some grid) None rate e = let same : Missing ≡ kind = cc in sym same
      reported (Some name) (Some grid) (Some periods) None e = let same : Missing ≡ kind = cc in sym same

  lacking : ((p : PlanParts) → ¬ (ArePlan s p)) → finished s ≡ Err Missing
  lacking never = by (finished s) refl
    where
      by : (r : Result PlanParts PlanFaultKind) → finished s ≡ r → finished s ≡ Err Missing
      by (Ok p) is = absurd (never p (plan_finished.reported p is))
      by (Err kind) is = is ∙ ap Err (lacks kind is)

pub plan_encoded : (text : List ℕ) → Exactly (planned text) (EncodePlan (records_of text))
plan_encoded text =
    then_ (records_stated 1 nothing_stated (records_of text)) (λ s. at (length (records_of text) + 1) (plan_finished s))

first_reported : (rows : List (List (List ℕ))) (number : ℕ) (s : Stated) (fault : PlanFault) → records_from number s rows ≡ Err fault
    → IsFirstFault number s rows fault
first_reported [] number s fault e = absurd cc
first_reported (row ∷ rows) number s fault e = by (λ next e. first_reported rows (suc number) next fault e) (record_at number s row) refl e
  where
    by : ((next : Stated) → records_from (suc number) next rows ≡ Err fault → IsFirstFault (suc number) next rows fault)
        → (r : Result Stated PlanFault) → record_at number s row ≡ r → (r >>= λ next. records_from (suc number) next rows) ≡ Err fault
        → IsFirstFault number s (row ∷ rows) fault
    by more (Ok next) is e = inr (next, (record_stated number s row).reported next is, more next e)
    by more (Err other) is e = inl (record_reported number s row fault (is ∙ e))

first_back : (rows : List (List (List ℕ))) (number : ℕ) (s : Stated) (fault : PlanFault) → IsFirstFault number s rows fault
    → records_from number s rows ≡ Err fault
first_back [] number s fault first = absurd first
first_back (row ∷ rows) number s fault (inl (place, fails)) = rw (record_back number s row fault place fails) refl
first_back (row ∷ rows) number s fault (inr (next, states, more)) =
    rw ((record_stated number s row).back next states) (first_back rows (suc number) next fault more)

abbrev IsFault : List ℕ → PlanFault → Type 0
IsFault text fault = IsFirstFault 1 nothing_stated (records_of text) fault ⊎ IsLacking (records_of text) fault

pub planned_fails : (text : List ℕ) (fault : PlanFault) → planned text ≡ Err fault → IsFault text fault
planned_fails text fault e = by (records_from 1 nothing_stated (records_of text)) refl e
  where
    number : ℕ
    number = length (records_of text) + 1

    ends : (s : Stated) → RecordsState 1 nothing_stated (records_of text) s → (r : Result PlanParts PlanFaultKind)
        → finished s ≡ r
        → at_row number r ≡ Err fault → IsLacking (records_of text) fault
    ends s all (Ok q) is e = absurd cc
    ends s all (Err kind) is e =
        let same : record { row = number; kind = kind } ≡ fault = cc in (
          s,
          all,
          λ p are. absurd (cc (is, (plan_finished s).back p are)),
          ap (λ (f : PlanFault). f.kind) (sym same) ∙ lacks s kind is,
          ap (λ (f : PlanFault). f.row) (sym same),
        )

    by : (r : Result Stated PlanFault) → records_from 1 nothing_stated (records_of text) ≡ r
        → (r >>= λ s. at_row number (finished s)) ≡ Err fault
        → IsFault text fault
    by (Ok s) is e = inr (ends s ((records_stated 1 nothing_stated (records_of text)).reported s is) (finished s) refl e)
    by (Err other) is e =
        let same : other ≡ fault = cc in
        inl (first_reported (records_of text) 1 nothing_stated fault (is ∙ ap Err same))

pub fails_planned : (text : List ℕ) (fault : PlanFault) → IsFault text fault → planned text ≡ Err fault
fails_planned text fault (inl first) = rw (first_back (records_of text) 1 nothing_stated fault first) refl
fails_planned text fault (inr (s, all, never, kind, place)) =
    rw ((records_stated 1 nothing_stated (records_of text)).back s all, lacking s never) (λ i. Err (record { row = sym place i; kind = sym kind i }))

-- the first record that states nothing ends the reading, whatever records follow
record Stops (number : ℕ) (s : Stated) (rows : List (List (List ℕ))) (fault : PlanFault) : Type 0 where
  before : List (List (List ℕ))
  bad : List (List ℕ)
  following : List (List (List ℕ))
  cut : rows ≡ before ++ bad ∷ following
  place : fault.row ≡ length before + number
  state : Stated
  begun : RecordsState number s before state
  stops : (others : List (List (List ℕ))) → records_from number s (before ++ bad ∷ others) ≡ Err fault

first_stops : (rows : List (List (List ℕ))) (number : ℕ) (s : Stated) (fault : PlanFault) → IsFirstFault number s rows fault
    → Stops number s rows fault
first_stops [] number s fault first = absurd first
first_stops (row ∷ rows) number s fault (inl (place, fails)) = record {
  before = [];
  bad = row;
  following = rows;
  cut = refl;
  place = omega (arith, place);
  state = s;
  begun = refl;
  stops = λ others. rw (record_back number s row fault place fails) refl;
}
first_stops (row ∷ rows) number s fault (inr (next, states, more)) =
    let later = first_stops rows (suc number) next fault more in
    record {
      before = row ∷ later.before;
      bad = later.bad;
      following = later.following;
      cut = ap (λ rows. row ∷ rows) later.cut;
      place = omega (arith, later.place);
      state = later.state;
      begun = (next, states, later.begun);
      stops = λ others. rw ((record_stated number s row).back next states) (later.stops others);
    }

pub plan_spoiled : (text : List ℕ) (fault : PlanFault) → planned text ≡ Err fault
    → IsFirstSpoiled (records_of text) fault.row ⊎ IsLacking (records_of text) fault
plan_spoiled text fault e =
    elim (planned_fails text fault e) [
      | inl first ↦ inl (let stop = first_stops (records_of text) 1 nothing_stated fault first in record {
        before = stop.before;
        bad = stop.bad;
        following = stop.following;
        cut = stop.cut;
        place = stop.place;
        state = stop.state;
        begun = stop.begun;
        spoiled = λ others p encoded.
            absurd (cc (stop.stops others, (records_stated 1 nothing_stated (stop.before ++ stop.bad ∷ others)).back encoded.0 encoded.1));
      })
      | inr lacks ↦ inr lacks
    ]
