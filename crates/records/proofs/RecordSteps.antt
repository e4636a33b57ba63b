-- A record of a text has at least one byte, so reading all records ends, and taking them one at a time returns all.
use Rattle.std.proofs.Common.{◌≡◌, ◌+◌, ◌-◌, ◌<◌, ◌≤◌, Bool, true, false, ℕ, zero, suc, List, [], ◌∷◌, ◌++◌, length, Option, Some, None, IfSome, All, if◌then◌else◌, refl, ap, ◌∙◌, arith, rules, inl, length-append}
use Rattle.std.proofs.lemmas.List.Elements.{All-nil, All-cons}
use Rattle.csv.specs.Machine.{Read, step, is_end, ends_at_end, field_after, fields_after, next_record}
use Rattle.csv.specs.Reading.{default_config, is_bom, NextIs, ReadRecord, ReadsNext, pending_of, records_from, records_next, source_of, strip_bom, took_first, is_flexible, reader_trim, reader_config, reader_state}
use Rattle.csv.specs.declared.parser.State.{State}
use Rattle.csv.specs.declared.parser.State.TheVariants as st
use Rattle.csv.specs.declared.parser.Action.{Action}
use Rattle.csv.specs.declared.parser.Action.TheVariants as act
use Rattle.csv.specs.declared.reader.Reader.{Reader}
use Rattle.csv.specs.declared.reader.Trim.TheVariants as trim
use Rattle.records.specs.Records.{records_of}
use Rattle.records.specs.inner.RecordsAhead.{IsBetweenRecords, TakesNext, rows_from}

-- a byte that ends a record puts the machine in a state in which the end of the text ends no record
ends-between : (s : State) (c : ℕ) → is_end (step default_config s c).1 ≡ true → ends_at_end (step default_config s c).0 ≡ false
ends-between st.StartRecord c h = grind rules
ends-between other c h = grind rules

-- a record that ends has the current field as its last one
ends-with-cell : (a : Action) (fields : List (List ℕ)) (field : List ℕ) → is_end a ≡ true → 0 < length (fields_after a fields field)
ends-with-cell act.EndRecord fields field h = rw (length-append fields (field ∷ [])) (omega arith)
ends-with-cell other fields field h = cc h

-- after the read of a record: a state between records, at least one cell, and at most `most` unread bytes
record Leaves (read : Read) (most : ℕ) : Type 0 where
  between : ends_at_end read.1 ≡ false
  cells : 0 < length read.0
  bytes : length read.2 ≤ most

leaves-more : (found : Option Read) (n m : ℕ) → n ≤ m → IfSome found (λ read. Leaves read n) → IfSome found (λ read. Leaves read m)
leaves-more None n m h l = tt
leaves-more (Some read) n m h l = record { between = l.between; cells = l.cells; bytes = omega (arith, l.bytes, h) }

-- at least one byte is taken, if there are bytes
leaves : (state : State) (fields : List (List ℕ)) (field bytes : List ℕ)
    → IfSome (next_record default_config state fields field bytes) (λ read. Leaves read (length bytes - 1))
unfolding next_record
leaves state fields field [] = at-end (ends_at_end state)
  where
    at-end : (b : Bool) → IfSome (if b then Some (fields ++ (field ∷ []), st.StartRecord, []) else None) (λ read. Leaves read (0 - 1))
    at-end true = record { between = refl; cells = ends-with-cell act.EndRecord fields field refl; bytes = omega arith }
    at-end false = tt
leaves state fields field (c ∷ rest) =
    by (is_end (step default_config state c).1) refl
    (leaves-more _ (length rest - 1) (length (c ∷ rest) - 1) (omega arith)
    (leaves (step default_config state c).0 (fields_after (step default_config state c).1 fields field)
    (field_after (step default_config state c).1 c field) rest))
  where
    by : (b : Bool) → is_end (step default_config state c).1 ≡ b
        → IfSome (next_record default_config (step default_config state c).0 (fields_after (step default_config state c).1 fields field)
        (field_after (step default_config state c).1 c field) rest)
        (λ read. Leaves read (length (c ∷ rest) - 1))
        → IfSome (next_record default_config state fields field (c ∷ rest)) (λ read. Leaves read (length (c ∷ rest) - 1))
    by true h more = rw h (record {
      between = ends-between state c h;
      cells =
          ends-with-cell (step default_config state c).1 fields field h;
      bytes = omega arith;
    })
    by false h more = rw h more

-- after a read between two records
abbrev Taken : List ℕ → Read → Type 0
Taken bytes read = (ends_at_end read.1 ≡ false) × (0 < length read.0) × (length read.2 < length bytes)

takes : (state : State) (bytes : List ℕ) → ends_at_end state ≡ false
    → IfSome (next_record default_config state [] [] bytes) (λ read. Taken bytes read)
unfolding next_record
takes state [] h = rw h tt
takes state (c ∷ rest) h = longer (next_record default_config state [] [] (c ∷ rest)) (leaves state [] [] (c ∷ rest))
  where
    longer : (found : Option Read) → IfSome found (λ read. Leaves read (length (c ∷ rest) - 1)) → IfSome found (λ read. Taken (c ∷ rest) read)
    longer None l = tt
    longer (Some read) l = (l.between, l.cells, omega (arith, l.bytes))

-- the records do not depend on the requested number, once it is large enough
enough : (n m : ℕ) (state : State) (bytes : List ℕ) → ends_at_end state ≡ false → length bytes < n → length bytes < m
    → records_from default_config n state bytes ≡ records_from default_config m state bytes
unfolding records_from
enough zero m state bytes h a b = absurd (omega (arith, a))
enough (suc n) zero state bytes h a b = absurd (omega (arith, b))
enough (suc n) (suc m) state bytes h a b =
    by (next_record default_config state [] [] bytes) (takes state bytes h) (λ s xs between x y. enough n m s xs between x y)
  where
    by : (found : Option Read) → IfSome found (λ read. Taken bytes read)
        → ((s : State) (xs : List ℕ) → ends_at_end s ≡ false → length xs < n → length xs < m
        → records_from default_config n s xs ≡ records_from default_config m s xs)
        → records_next (records_from default_config n) found ≡ records_next (records_from default_config m) found
    by None t more = refl
    by (Some read) t more = ap (λ rows. read.0 ∷ rows) (more read.1 read.2 t.0 (omega (arith, t.2, a)) (omega (arith, t.2, b)))

-- the number of a text's records is at most the number of its bytes, and each record has a cell
kept : (n : ℕ) (state : State) (bytes : List ℕ) → ends_at_end state ≡ false
    → (length (records_from default_config n state bytes) ≤ length bytes)
    × All (λ row. 0 < length row) (records_from default_config n state bytes)
unfolding records_from
kept zero state bytes h = (omega arith, All-nil (λ row. 0 < length row))
kept (suc n) state bytes h = by (next_record default_config state [] [] bytes) (takes state bytes h) (λ s xs between. kept n s xs between)
  where
    by : (found : Option Read) → IfSome found (λ read. Taken bytes read)
        → ((s : State) (xs : List ℕ) → ends_at_end s ≡ false → (length (records_from default_config n s xs) ≤ length xs)
        × All (λ row. 0 < length row) (records_from default_config n s xs))
        → (length (records_next (records_from default_config n) found) ≤ length bytes)
        × All (λ row. 0 < length row) (records_next (records_from default_config n) found)
    by None t more = (omega arith, All-nil (λ row. 0 < length row))
    by (Some read) t more =
        let rest = more read.1 read.2 t.0 in (omega (arith, rest.0, t.2), All-cons (λ row. 0 < length row) _ _ t.1 rest.1)

shorter-text : (text : List ℕ) → length (strip_bom text) ≤ length text
unfolding strip_bom
shorter-text (a ∷ b ∷ c ∷ rest) = by (is_bom a b c)
  where
    by : (mark : Bool) → length (if mark then rest else a ∷ b ∷ c ∷ rest) ≤ length (a ∷ b ∷ c ∷ rest)
    by true = omega arith
    by false = omega arith
shorter-text _ = omega arith

-- the number of a text's records is at most the number of its bytes, and no record is without a cell
pub few_records : (text : List ℕ) → length (records_of text) ≤ length text
few_records text =
    let all = kept (length (strip_bom text) + 1) st.StartRecord (strip_bom text) refl in omega (arith, all.0, shorter-text text)

pub records_have_cells : (text : List ℕ) → All (λ row. 0 < length row) (records_of text)
records_have_cells text = (kept (length (strip_bom text) + 1) st.StartRecord (strip_bom text) refl).1

-- a read of the unread bytes takes the first remaining record, or finds none
rows-next : (state : State) (bytes : List ℕ) → ends_at_end state ≡ false
    → rows_from state bytes ≡ records_next rows_from (next_record default_config state [] [] bytes)
unfolding records_from
rows-next state bytes h =
    enough (length bytes + 1) (suc (length bytes)) state bytes h (omega arith) (omega arith)
    ∙ by (next_record default_config state [] [] bytes) (takes state bytes h)
  where
    by : (found : Option Read) → IfSome found (λ read. Taken bytes read)
        → records_next (records_from default_config (length bytes)) found ≡ records_next rows_from found
    by None t = refl
    by (Some read) t = ap (λ rows. read.0 ∷ rows) (enough (length bytes) (length read.2 + 1) read.1 read.2 t.0 t.2 (omega arith))

-- what a read shows of the remaining records
shows : (state after : State) (bytes rest : List ℕ) (found : Bool) (fields : List (List ℕ)) → ends_at_end state ≡ false
    → NextIs (next_record default_config state [] [] bytes) found fields after rest
    → (found ≡ true → (ends_at_end after ≡ false) × (rows_from state bytes ≡ fields ∷ rows_from after rest) × (0 < length fields))
    × (found ≡ false → rows_from state bytes ≡ [])
shows state after bytes rest found fields h n =
    by (next_record default_config state [] [] bytes) (rows-next state bytes h) (takes state bytes h) n
  where
    by : (read : Option Read) → rows_from state bytes ≡ records_next rows_from read → IfSome read (λ r. Taken bytes r)
        → NextIs read found fields after rest
        → (found ≡ true → (ends_at_end after ≡ false) × (rows_from state bytes ≡ fields ∷ rows_from after rest) × (0 < length fields))
        × (found ≡ false → rows_from state bytes ≡ [])
    by None e t n = ((λ yes. cc (n, yes)), λ no. e)
    by (Some r) e t n = ((λ yes. rw (n.1, n.2, n.3) (t.0, e, t.1)), λ no. cc (n.0, no))

-- the same for a reader, by the bytes that the read did not take
takes-by : {R : Type 0} (known : R → Option (List ℕ)) (old new : Reader R) (found : Bool) (fields : List (List ℕ)) (rest : Option (List ℕ))
    → (set : IsBetweenRecords known old) → source_of known new ≡ rest → reader_config new ≡ default_config → reader_trim new ≡ trim.None
    → is_flexible new ≡ true → took_first new ≡ true
    → ReadsNext default_config (reader_state old) (Some set.bytes) rest found fields (reader_state new)
    → TakesNext known old new found fields
takes-by known old new found fields None set e config plain flexible first r = absurd r
takes-by known old new true fields (Some xs) set e config plain flexible first r =
    let s = (shows (reader_state old) (reader_state new) set.bytes xs true fields set.between r).0 refl in (
      record { plain = plain; ready = inl first; config = config; flexible = flexible; between = s.0; bytes = xs; source = e },
      rw (set.source, e) s.1,
      s.2,
    )
takes-by known old new false fields (Some xs) set e config plain flexible first r =
    rw set.source ((shows (reader_state old) (reader_state new) set.bytes xs false fields set.between r).1 refl)

pub reader-takes : {R : Type 0} (known : R → Option (List ℕ)) (old new : Reader R) (found : Bool) (fields : List (List ℕ))
    → IsBetweenRecords known old → ReadRecord known old new found fields → is_flexible new ≡ is_flexible old → took_first new ≡ true
    → TakesNext known old new found fields
reader-takes known old new found fields set read flexible first =
    takes-by known old new found fields (pending_of (known new.rdr) new) set (rw read.1 refl)
    (read.2 ∙ set.config) (read.3 ∙ set.plain) (flexible ∙ set.flexible) first
    (rw (set.source, set.config) at read.0)
