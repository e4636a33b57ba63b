-- The columns of a header are the columns that it names.
use Rattle.std.proofs.Common.{◌≡◌, ℕ, zero, suc, ◌+◌, ◌<◌, Bool, true, false, List, [], ◌∷◌, length, arith, refl, sym, ◌∙◌, ap, subst, Ok, Err}
use Rattle.std.specs.Prelude.{Result, if◌then◌else◌}
use Rattle.records.specs.Cells.{trimmed, is_word}
use Rattle.pit_units.proofs.Exactly.{Exactly, each, made, same}
use Rattle.zone_csv.proofs.Refuses.{Of, Refuses, fault_is, made_refuses, passes, step}
use Rattle.zone_csv.specs.Cell.{a_fault, trimmed_at}
use Rattle.zone_csv.specs.Columns.{all_columns, column_name}
use Rattle.zone_csv.specs.Header.{columns_of, each_place, one_place, places_in, places_of}
use Rattle.zone_csv.specs.NamedColumns.{IsFirstUnnamed, LacksColumn, NamesColumn, NamesColumns}
use Rattle.zone_csv.specs.declared.row_fault.Column.{Column}
use Rattle.zone_csv.specs.declared.row_fault.Column.TheVariants.{X}
use Rattle.zone_csv.specs.declared.row_fault.RowFault.{RowFault}
use Rattle.zone_csv.specs.declared.row_fault.RowFaultKind.{RowFaultKind}
use Rattle.zone_csv.specs.declared.row_fault.RowFaultKind.TheVariants.{MissingColumn, TwiceColumn}

module _ (name : List ℕ) (no_name : is_word [] name ≡ false) where
  abbrev Is : List (List ℕ) → ℕ → Type 0
  Is cells q = is_word (trimmed_at cells q) name ≡ true

  abbrev One : List (List ℕ) → ℕ → Type 0
  One cells q = Is cells q × ((r : ℕ) → Is cells r → r ≡ q)

  -- what the found places show: no cell is the name, or exactly one, or two are
  abbrev Found : List (List ℕ) → ℕ → List ℕ → Type 0
  Found cells n [] = (q : ℕ) → Is cells q → ⊥
  Found cells n (p ∷ []) = (q : ℕ) × (p ≡ n + q) × One cells q
  Found cells n (p ∷ second ∷ more) = (q : ℕ) × (r : ℕ) × Is cells q × Is cells r × (q < r)

  found : (cells : List (List ℕ)) (n : ℕ) → Found cells n (places_of name cells n)
  found [] n = λ q h. absurd (cc (no_name, h))
  found (cell ∷ cells) n = by (is_word (trimmed cell) name) refl (places_of name cells (n + 1)) (found cells (n + 1))
    where
      first : ((q : ℕ) → Is cells q → ⊥) → (r : ℕ) → Is (cell ∷ cells) r → r ≡ 0
      first none zero h = refl
      first none (suc r) h = absurd (none r h)

      following : is_word (trimmed cell) name ≡ false → (q : ℕ) → ((r : ℕ) → Is cells r → r ≡ q) → (r : ℕ) → Is (cell ∷ cells) r → r ≡ suc q
      following is q only zero h = absurd (cc (is, h))
      following is q only (suc r) h = ap suc (only r h)

      none_following : is_word (trimmed cell) name ≡ false → ((q : ℕ) → Is cells q → ⊥) → (r : ℕ) → Is (cell ∷ cells) r → ⊥
      none_following is none zero h = absurd (cc (is, h))
      none_following is none (suc r) h = none r h

      by : (t : Bool) → is_word (trimmed cell) name ≡ t → (ps : List ℕ) → Found cells (n + 1) ps → Found (cell ∷ cells) n (if t then n ∷ ps else ps)
      by true is [] none = (0, omega arith, (is, first none))
      by true is (p ∷ []) one = (0, suc one.0, is, one.2.0, omega arith)
      by true is (p ∷ second ∷ more) two = (0, suc two.0, is, two.2, omega arith)
      by false is [] none = none_following is none
      by false is (p ∷ []) one = (suc one.0, omega (arith, one.1), (one.2.0, following is one.0 one.2.1))
      by false is (p ∷ second ∷ more) two = (suc two.0, suc two.1, two.2, two.3, omega (arith, two.4))

  pub place_named : (header : List (List ℕ)) (p : ℕ) → places_of name header 0 ≡ p ∷ [] → NamesColumn header name p
  place_named header p e =
      let one = subst (Found header 0) e (found header 0) in
      let same : one.0 ≡ p = omega (arith, one.1) in
      subst (NamesColumn header name) same one.2

  pub named_place : (header : List (List ℕ)) (p : ℕ) → NamesColumn header name p → places_of name header 0 ≡ p ∷ []
  named_place header p h = by (places_of name header 0) (found header 0)
    where
      by : (ps : List ℕ) → Found header 0 ps → ps ≡ p ∷ []
      by [] none = absurd (none p h.0)
      by (q ∷ []) one =
          let same : one.0 ≡ p = h.1 one.0 one.2.0 in
          let place : q ≡ p = omega (arith, one.1, same) in
          ap (λ m. m ∷ []) place
      by (q ∷ second ∷ more) two =
          let first : two.0 ≡ p = h.1 two.0 two.2 in
          let other : two.1 ≡ p = h.1 two.1 two.3 in
          absurd (omega (arith, first, other, two.4))

-- a column with one place has no other
one_stands : (column : Column) (places : List ℕ) (place : ℕ) → one_place column places ≡ Ok place → places ≡ place ∷ []
one_stands column [] place e = absurd cc
one_stands column (p ∷ []) place e = ap (λ q. q ∷ []) (same p place e)
one_stands column (p ∷ second ∷ more) place e = absurd cc

-- an empty cell names no column
no_name : (column : Column) → is_word [] (column_name column) ≡ false
no_name X = refl
no_name other = refl

module _ (header : List (List ℕ)) where
  abbrev IsNamed : Column → ℕ → Type 0
  IsNamed column place = NamesColumn header (column_name column) place

  -- a column is at one place, and at no other, if and only if it is named there
  one_named : (column : Column) → Exactly (one_place column (places_in header column)) (IsNamed column)
  one_named column = record {
    reported = λ place e. place_named (column_name column) (no_name column) header place (one_stands column (places_in header column) place e);
    back = λ place named. ap (one_place column) (named_place (column_name column) (no_name column) header place named);
  }

  pub header_named : Exactly (columns_of header) (NamesColumns header)
  unfolding columns_of
  header_named =
      made (λ places. record { width = length header; places = places }) (each one_named all_columns)
      (λ places named. record { width = refl; places = named })
      (λ columns named. (columns.places, named.places, λ i. record { width = sym named.width i; places = columns.places }))

-- the fault is of the first column that it does not name
module _ (header : List (List ℕ)) where
  abbrev Lacks : Column → RowFaultKind → Type 0
  Lacks column kind = LacksColumn header (column_name column) kind

  place_refused : (column : Column)
      → Refuses (one_place column (places_in header column)) (Of 1 (λ f. (f.column ≡ column) × Lacks column f.kind))
  place_refused column = by (places_in header column) (found (column_name column) (no_name column) header 0)
    where
      Fault : RowFault → Type 0
      Fault = Of 1 (λ f. (f.column ≡ column) × Lacks column f.kind)

      by : (ps : List ℕ) → Found (column_name column) (no_name column) header 0 ps → Refuses (one_place column ps) Fault
      by ps stands = record { reported = reported ps stands; back = λ f h. back ps stands f.kind h.1.1 ∙ is f h.0 h.1.0 }
        where
          reported : (ps : List ℕ) → Found (column_name column) (no_name column) header 0 ps → (f : RowFault) → one_place column ps ≡ Err f → Fault f
          reported [] none f e = subst Fault (fault_is (a_fault 1 column MissingColumn) f e) (refl, (refl, none))
          reported (p ∷ []) one f e = absurd cc
          reported (p ∷ second ∷ more) two f e = subst Fault (fault_is (a_fault 1 column TwiceColumn) f e) (refl, (refl, two))

          back : (ps : List ℕ) → Found (column_name column) (no_name column) header 0 ps → (k : RowFaultKind) → Lacks column k
              → one_place column ps ≡ Err (a_fault 1 column k)
          back [] none MissingColumn h = refl
          back [] none TwiceColumn h = absurd (none h.0 h.2)
          back (p ∷ []) one MissingColumn h = absurd (h one.0 one.2.0)
          back (p ∷ []) one TwiceColumn h =
              let first : h.0 ≡ one.0 = one.2.1 h.0 h.2 in
              let other : h.1 ≡ one.0 = one.2.1 h.1 h.3 in
              absurd (omega (arith, first, other, h.4))
          back (p ∷ second ∷ more) two MissingColumn h = absurd (h two.0 two.2)
          back (p ∷ second ∷ more) two TwiceColumn h = refl
          back ps stands k h = absurd h

          is : (f : RowFault) → f.row ≡ 1 → f.column ≡ column → ◌≡◌ {A = Result ℕ RowFault} (Err (a_fault 1 column f.kind)) (Err f)
          is f row at = λ i. Err (record { row = sym row i; column = sym at i; kind = f.kind })

  each_refused : (columns : List Column) → Refuses (each_place header columns) (Of 1 (IsFirstUnnamed header columns))
  each_refused [] = passes 1 []
  each_refused (column ∷ columns) =
      step 1 (one_named header column) (place_refused column) (λ place. made_refuses (λ places. place ∷ places) (each_refused columns))

  pub header_refused : Refuses (columns_of header) (Of 1 (IsFirstUnnamed header all_columns))
  unfolding columns_of
  header_refused = made_refuses (λ places. record { width = length header; places = places }) (each_refused all_columns)
