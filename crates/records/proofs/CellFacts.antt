-- The ends that cells and records lose.
use Rattle.std.proofs.Common.{All, ◌≡◌, ◌<◌, ◌==◌, ◌+◌, ◌-◌, ◌++◌, ℕ, zero, suc, List, [], ◌∷◌, Bool, true, false, arith, refl, sym, ◌∙◌, ap, length, length-append, get_or, map, take, cond, Some, None}
use Rattle.std.proofs.lemmas.Bool.{eqb-true}
use Rattle.std.proofs.lemmas.List.{take_more, take_all, length-map, length-take-le}
use Rattle.std.proofs.lemmas.List.Elements.{All-get_or, All-head}
use Rattle.std.proofs.Math.ListN.{get_or-map}
use Rattle.csv.proofs.RecordFacts.{field-get}
use Rattle.csv.specs.Records.{field_at}
use Rattle.records.specs.Cells.{is_blank, kept_from, without_end, without_trailing_blanks, trimmed}
use Rattle.records.specs.RecordCells.{without_empty_end, cells_of, cell_at}

-- a list is the elements before its last one, followed by the last one
pub split_last : {A : Type 0} (xs : List A) (d : A) → 0 < length xs → take (length xs - 1) xs ++ get_or xs (length xs - 1) d ∷ [] ≡ xs
split_last xs d h =
    let i : length xs - 1 < length xs = omega arith in
    let e : (length xs - 1) + 1 ≡ length xs = omega arith in
    sym (take_more xs (length xs - 1) d i) ∙ ap (λ n. take n xs) e ∙ take_all (length xs) xs (omega arith)

-- an element at the end that passes is dropped
end_goes : {A : Type 0} (passes : A → Bool) (xs : List A) (x : A) → passes x ≡ true
    → without_end passes (xs ++ x ∷ []) ≡ without_end passes xs
end_goes passes [] x h = rw h refl
end_goes passes (y ∷ xs) x h = rw (end_goes passes xs x h) refl

-- an element before retained ones is retained
before_some : {A : Type 0} (passes : A → Bool) (x : A) (kept : List A) → 0 < length kept → kept_from passes x kept ≡ x ∷ kept
before_some passes x [] some = absurd (omega arith)
before_some passes x (y ∷ kept) some = refl

-- another element is retained, and so are all before it
end_stays : {A : Type 0} (passes : A → Bool) (xs : List A) (x : A) → passes x ≡ false
    → without_end passes (xs ++ x ∷ []) ≡ xs ++ x ∷ []
end_stays passes [] x h = rw h refl
end_stays passes (y ∷ xs) x h =
    let some : 0 < length (xs ++ x ∷ []) = omega (arith, length-append xs (x ∷ [])) in
    rw (end_stays passes xs x h) (before_some passes y (xs ++ x ∷ []) some)

pub blank_at_end : (xs : List ℕ) → 0 < length xs → is_blank (get_or xs (length xs - 1) 0) ≡ true
    → without_trailing_blanks (take (length xs - 1) xs) ≡ without_trailing_blanks xs
blank_at_end xs some h = sym (end_goes is_blank (take (length xs - 1) xs) _ h) ∙ ap without_trailing_blanks (split_last xs 0 some)

pub other_at_end : (xs : List ℕ) → 0 < length xs → is_blank (get_or xs (length xs - 1) 0) ≡ false → without_trailing_blanks xs ≡ xs
other_at_end xs some h =
    sym (ap without_trailing_blanks (split_last xs 0 some)) ∙ end_stays is_blank (take (length xs - 1) xs) _ h ∙ split_last xs 0 some

-- a cell without blanks keeps all its bytes
end_kept : (cell : List ℕ) → 0 < length cell → All (λ b. is_blank b ≡ false) cell → without_trailing_blanks cell ≡ cell
end_kept cell some h =
    other_at_end cell some (All-get_or (λ b. is_blank b ≡ false) cell (length cell - 1) 0 (omega (arith, some)) h)

pub all_kept : (cell : List ℕ) → All (λ b. is_blank b ≡ false) cell → trimmed cell ≡ cell
all_kept [] h = refl
all_kept (b ∷ cell) h = rw (All-head (λ c. is_blank c ≡ false) b cell h) (end_kept (b ∷ cell) (omega arith) h)

-- a list with no element is empty
empty_is : {A : Type 0} (xs : List A) → (length xs == 0) ≡ true → xs ≡ []
empty_is [] h = refl
empty_is (x ∷ xs) h = absurd (omega (arith, eqb-true (suc (length xs)) 0 h))

-- dropping the empty cells at the end changes no cell, since a cell after the end counts as empty
pub cell_stays : (cells : List (List ℕ)) (i : ℕ) → get_or (without_empty_end cells) i [] ≡ get_or cells i []
cell_stays [] i = refl
cell_stays (c ∷ cells) i = by_kept (without_empty_end cells) (λ k. cell_stays cells k) i
  where
    last_stays : (empty : Bool) → (length c == 0) ≡ empty → ((k : ℕ) → [] ≡ get_or cells k []) → (i : ℕ)
        → get_or (cond empty [] (c ∷ [])) i [] ≡ get_or (c ∷ cells) i []
    last_stays true e more zero = sym (empty_is c e)
    last_stays false e more zero = refl
    last_stays true e more (suc i) = more i
    last_stays false e more (suc i) = more i

    by_kept : (kept : List (List ℕ)) → ((k : ℕ) → get_or kept k [] ≡ get_or cells k []) → (i : ℕ)
        → get_or (kept_from (λ cell. length cell == 0) c kept) i [] ≡ get_or (c ∷ cells) i []
    by_kept [] more i = last_stays (length c == 0) refl more i
    by_kept (d ∷ kept) more zero = refl
    by_kept (d ∷ kept) more (suc i) = more i

-- the cell at a place is the trimmed field there, or empty
pub at_cell : (fields : List (List ℕ)) (i : ℕ) → cell_at (cells_of fields) i ≡ trimmed (get_or fields i [])
at_cell fields i = cell_stays (map trimmed fields) i ∙ get_or-map trimmed fields i []

-- the field there, by csv's result for the place
pub field_there : (fields : List (List ℕ)) (i : ℕ) (field : List ℕ) → field_at fields i ≡ Some field → field ≡ get_or fields i []
field_there fields i field h = sym (field-get fields i field h)

pub none_there : (fields : List (List ℕ)) (i : ℕ) → field_at fields i ≡ None → [] ≡ get_or fields i []
unfolding field_at
none_there [] i h = refl
none_there (f ∷ fields) zero h = absurd (cc)
none_there (f ∷ fields) (suc i) h = none_there fields i h

-- counting cells one by one: after the next cell, the count is its place + 1 if it is not empty
pub one_empty : (fields : List (List ℕ)) (i n : ℕ) → i < length fields → (length (cell_at (cells_of fields) i) == 0) ≡ true
    → n ≡ length (without_empty_end (take i (map trimmed fields))) → n ≡ length (without_empty_end (take (i + 1) (map trimmed fields)))
one_empty fields i n h e counted =
    let there : i < length (map trimmed fields) = simp length-map h in
    let same : get_or (map trimmed fields) i [] ≡ cell_at (cells_of fields) i = sym (cell_stays (map trimmed fields) i) in
    let none : (length (get_or (map trimmed fields) i []) == 0) ≡ true = ap (λ c. length c == 0) same ∙ e in
    counted ∙ sym (ap length (ap without_empty_end (take_more (map trimmed fields) i [] there)
    ∙ end_goes (λ c. length c == 0) (take i (map trimmed fields)) _ none))

pub one_full : (fields : List (List ℕ)) (i : ℕ) → i < length fields → (length (cell_at (cells_of fields) i) == 0) ≡ false
    → i + 1 ≡ length (without_empty_end (take (i + 1) (map trimmed fields)))
one_full fields i h e =
    let there : i < length (map trimmed fields) = simp length-map h in
    let same : get_or (map trimmed fields) i [] ≡ cell_at (cells_of fields) i = sym (cell_stays (map trimmed fields) i) in
    let some : (length (get_or (map trimmed fields) i []) == 0) ≡ false = ap (λ c. length c == 0) same ∙ e in
    let whole : without_empty_end (take (i + 1) (map trimmed fields)) ≡ take (i + 1) (map trimmed fields) =
    ap without_empty_end (take_more (map trimmed fields) i [] there) ∙ end_stays (λ c. length c == 0) (take i (map trimmed fields)) _ some
    ∙ sym (take_more (map trimmed fields) i [] there) in
    sym (ap length whole ∙ length-take-le (i + 1) (map trimmed fields) (omega arith))
