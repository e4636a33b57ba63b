-- The number of rising coefficients is at most their largest place; rows with another one.
use Rattle.std.proofs.Common.{◌≡◌, ℕ, ◌+◌, ◌-◌, ◌<◌, ◌≤◌, true, List, [], ◌∷◌, ◌++◌, length, Option, Some, None, refl, sym, ap, ◌∙◌, arith}
use Rattle.std.proofs.lemmas.Bool.Decides.{nat_tests}
use Rattle.std.proofs.lemmas.List.{length-map, length_push, map-append}
use Rattle.std.specs.Prelude.{slice_get}
use Rattle.std.specs.Global.{Vec}
use Rattle.mine_instance.specs.Order.{coef_before}
use Rattle.mine_instance.specs.declared.coefs.coef.Coef.{Coef}
use Rattle.minelib_reading.specs.ModelDraft.{is_after, last_of}
use Rattle.minelib_reading.specs.inner.CountedItems.{last_d, last_r, lists_in, most_up_to}

pub next_place : (last : Option Coef) (n : ℕ) (c : Coef) → last_d last < 256 → last_r last < 256 → n ≤ most_up_to last → is_after coef_before last c ≡ true
    → n + 1 ≤ most_up_to (Some c)
next_place None n c d r low following = omega (arith, low)
next_place (Some last) n c d r low following = grind (arith, nat_tests, d, r, low, following)

added : (coefs : List Coef) (c : Coef) → slice_get (coefs ++ c ∷ []) (length coefs) ≡ Some c
added [] c = refl
added (first ∷ coefs) c = added coefs c

pub last_added : (coefs : List Coef) (c : Coef) → Some c ≡ last_of (coefs ++ c ∷ [])
last_added coefs c =
    let place : length (coefs ++ c ∷ []) - 1 ≡ length coefs = rw (length_push coefs c) (omega arith) in
    sym (ap (slice_get (coefs ++ c ∷ [])) place ∙ added coefs c)

pub one_row_more : {A : Type 0} (rows : List (Vec A)) (row : Vec A) → lists_in (rows ++ row ∷ []) ≡ lists_in rows ++ row.items ∷ []
one_row_more {A} rows row = map-append (λ (r : Vec A). r.items) rows (row ∷ [])

pub rows_counted : {A : Type 0} (rows : List (Vec A)) → length (lists_in rows) ≡ length rows
rows_counted {A} rows = length-map rows (λ (r : Vec A). r.items)
