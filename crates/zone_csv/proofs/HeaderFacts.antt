-- The places of a header's columns, one after the other.
use Rattle.std.proofs.Common.{◌≡◌, ℕ, List, [], ◌∷◌, ◌++◌, append_assoc, arith, drop, get_or, refl, set, sym, take, ap, ◌+◌, ◌<◌, ◌∙◌, length, Ok, Err}
use Rattle.std.specs.Prelude.{Result}
use Rattle.std.proofs.lemmas.List.{drop_more, take_more_set}
use Rattle.pit_units.specs.Steps.{◌>>=◌}
use Rattle.zone_csv.specs.Columns.{all_columns}
use Rattle.zone_csv.specs.Header.{each_place, one_place, places_in}
use Rattle.zone_csv.specs.declared.row_fault.Column.{Column}
use Rattle.zone_csv.specs.declared.row_fault.RowFault.{RowFault}

-- another place
pub each_more : (header : List (List ℕ)) (prefix : List ℕ) (column : Column) (columns : List Column) (place : ℕ)
    → one_place column (places_in header column) ≡ Ok place
    → (each_place header (column ∷ columns) >>= λ places. Ok (prefix ++ places))
    ≡ (each_place header columns >>= λ places. Ok ((prefix ++ place ∷ []) ++ places))
each_more header prefix column columns place is = rw is (by (each_place header columns))
  where
    by : (r : Result (List ℕ) RowFault)
        → ((r >>= λ places. Ok (place ∷ places)) >>= λ places. Ok (prefix ++ places)) ≡ (r >>= λ places. Ok ((prefix ++ place ∷ []) ++ places))
    by (Ok places) = ap Ok (sym (append_assoc prefix (place ∷ []) places))
    by (Err fault) = refl

-- the column's place is stored, and the remaining columns decide as before
pub each_step : (header : List (List ℕ)) (places : List ℕ) (k : ℕ) (column : Column) (place : ℕ) → k < length places
    → length places ≡ length all_columns → column ≡ get_or all_columns k column → one_place column (places_in header column) ≡ Ok place
    → each_place header all_columns ≡ (each_place header (drop k all_columns) >>= λ ahead. Ok (take k places ++ ahead))
    → each_place header all_columns
    ≡ (each_place header (drop (k + 1) all_columns) >>= λ ahead. Ok (take (k + 1) (set places k place) ++ ahead))
each_step header places k column place within five at is before =
    before
    ∙ ap (λ left. each_place header left >>= λ ahead. Ok (take k places ++ ahead))
    (drop_more all_columns k column (omega (arith, within, five)) ∙ ap (λ c. c ∷ drop (k + 1) all_columns) (sym at))
    ∙ each_more header (take k places) column (drop (k + 1) all_columns) place is
    ∙ ap (λ prefix. each_place header (drop (k + 1) all_columns) >>= λ ahead. Ok (prefix ++ ahead)) (sym (take_more_set places k place within))
