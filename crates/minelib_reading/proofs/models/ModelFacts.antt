-- The keys and the header of a model file.
use Rattle.std.proofs.Common.{◌≡◌, ℕ, Bool, true, false, List, [], ◌∷◌, length, refl, ap, arith, Ok, Err, Some, None, position, nat_lt}
use Rattle.std.specs.List.{list_any, position_or_len}
use Rattle.std.proofs.lemmas.Bool.{ltb-false}
use Rattle.std.proofs.lemmas.List.Elements.{All-from_get_or}
use Rattle.std.proofs.lemmas.List.Folds.{list_any_at, list_any_none}
use Rattle.std.proofs.lemmas.List.Quantifiers.{position-Some}
use Rattle.std.proofs.lemmas.List.Sums.{fails_before_first}
use Rattle.minelib_reading.specs.ModelKeys.{key_in, key_of}
use Rattle.minelib_reading.specs.inner.ModelParts.{only_value}
use Rattle.minelib_lines.specs.declared.problem.Problem.{Problem}
use Rattle.text_lines.specs.declared.text_fault.TextKind.{TextKind}

pub key_of_one : (problem : Problem) (fields : List (List ℕ)) (word : List ℕ) → only_value fields ≡ Ok word
    → key_of problem fields ≡ key_in problem word
key_of_one problem (value ∷ []) word e = ap (key_in problem) (cc)
key_of_one problem fields word e = absurd (cc)

pub key_of_none : (problem : Problem) (fields : List (List ℕ)) (kind : TextKind) → only_value fields ≡ Err kind
    → key_of problem fields ≡ None
key_of_none problem (value ∷ []) kind e = absurd (cc)
key_of_none problem fields kind e = refl

-- if a byte is found, it is at the first place; if not, there is none
pub place_found : (p : ℕ → Bool) (xs : List ℕ) (k : ℕ) → position p xs ≡ Some k → (position_or_len p xs ≡ k) × (list_any p xs ≡ true)
place_found p xs k e = at (nat_lt (position_or_len p xs) (length xs)) refl where
  at : (t : Bool) → nat_lt (position_or_len p xs) (length xs) ≡ t → (position_or_len p xs ≡ k) × (list_any p xs ≡ true)
  at true f =
      let first : position p xs ≡ Some (position_or_len p xs) = rw f refl in
      let there = position-Some p xs k 0 e in
      (cc, list_any_at p xs k 0 there.0 there.1)
  at false f =
      let none : position p xs ≡ None = rw f refl in
      absurd (cc)

pub place_not_found : (p : ℕ → Bool) (xs : List ℕ) → position p xs ≡ None → list_any p xs ≡ false
place_not_found p xs e = at (nat_lt (position_or_len p xs) (length xs)) refl where
  at : (t : Bool) → nat_lt (position_or_len p xs) (length xs) ≡ t → list_any p xs ≡ false
  at true f =
      let first : position p xs ≡ Some (position_or_len p xs) = rw f refl in
      absurd (cc)
  at false f =
      list_any_none p xs (All-from_get_or (λ x. p x ≡ false) xs 0
      (λ k h. fails_before_first p xs k 0 (omega (arith, h, ltb-false (position_or_len p xs) (length xs) f))))
