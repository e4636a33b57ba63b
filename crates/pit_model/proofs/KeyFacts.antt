-- A cell is the key with its word, and no other key.
use Rattle.std.specs.Prelude.{◌≡◌, ℕ, Bool, true, false, List, Option, Some, None, codes, if◌then◌else◌}
use Rattle.std.proofs.Common.{refl, sym, ◌∙◌, subst}
use Rattle.std.specs.Option.{option_map}
use Rattle.std.specs.Str.{str_to_ascii_lowercase}
use Rattle.std.proofs.lemmas.Slice.Eq.{bytes_eq-Decides}
use Rattle.records.specs.Cells.{is_word}
use Rattle.pit_model.specs.PlanKeys.{IsKey, formula_key_of, formula_word, key_of, key_word}
use Rattle.pit_model.specs.declared.draft.formulas.FormulaKey.{FormulaKey}
use Rattle.pit_model.specs.declared.draft.formulas.FormulaKey.TheVariants.{Mill, Leach, Dump}
use Rattle.pit_model.specs.declared.plan_key.PlanKey.{PlanKey}
use Rattle.pit_model.specs.declared.plan_key.PlanKey.TheVariants as key

-- the first option whose test passes
first_or : {K : Type 0} (P : K → Type 0) (t : Bool) (k : K) (others : Option K) → (t ≡ true → P k) → ((j : K) → others ≡ Some j → P j)
    → (j : K) → (if t then Some k else others) ≡ Some j → P j
first_or P true k others here later j e = let same : k ≡ j = cc in subst P same (here refl)
first_or P false k others here later j e = later j e

formula_found : (cell : List ℕ) (k : FormulaKey) → formula_key_of cell ≡ Some k → is_word cell (formula_word k) ≡ true
formula_found cell =
    first_or IsFormula (is_word cell (codes "mill")) Mill _ (λ e. e) (
    first_or IsFormula (is_word cell (codes "leach")) Leach _ (λ e. e) (
    first_or IsFormula (is_word cell (codes "dump")) Dump None (λ e. e) (λ j e. absurd cc)))
  where
    IsFormula : FormulaKey → Type 0
    IsFormula k = is_word cell (formula_word k) ≡ true

pub key_found : (cell : List ℕ) (k : PlanKey) → key_of cell ≡ Some k → IsKey cell k
key_found cell =
    first_or (IsKey cell) (is_word cell (codes "name")) key.Name _ (λ e. e) (
    first_or (IsKey cell) (is_word cell (codes "grid")) key.Grid _ (λ e. e) (
    first_or (IsKey cell) (is_word cell (codes "zone")) key.Zone _ (λ e. e) (
    first_or (IsKey cell) (is_word cell (codes "periods")) key.Periods _ (λ e. e) (
    first_or (IsKey cell) (is_word cell (codes "rate")) key.Rate _ (λ e. e) (
    first_or (IsKey cell) (is_word cell (codes "resource")) key.Resource _ (λ e. e) (
    first_or (IsKey cell) (is_word cell (codes "limit")) key.Limit _ (λ e. e) (
    by (formula_key_of cell) refl)))))))
  where
    by : (o : Option FormulaKey) → formula_key_of cell ≡ o → (j : PlanKey) → option_map key.Destination o ≡ Some j → IsKey cell j
    by None is j e = absurd cc
    by (Some k) is j e = let same : key.Destination k ≡ j = cc in subst (IsKey cell) same (formula_found cell k is)

-- a cell that is a word is no other word
other : (cell v w : List ℕ) → is_word cell v ≡ true → is_word v w ≡ false → is_word cell w ≡ false
other cell v w is differs = by (is_word cell w) refl
  where
    low : List ℕ → List ℕ
    low = str_to_ascii_lowercase

    by : (t : Bool) → is_word cell w ≡ t → is_word cell w ≡ false
    by false e = e
    by true e =
        let same : low v ≡ low w = sym ((bytes_eq-Decides (low cell) (low v)).0 is) ∙ (bytes_eq-Decides (low cell) (low w)).0 e in
        let equal : is_word v w ≡ true = (bytes_eq-Decides (low v) (low w)).1 same in
        absurd (cc (equal, differs))

pub key_back : (cell : List ℕ) (k : PlanKey) → IsKey cell k → key_of cell ≡ Some k
key_back cell k is = by k (λ w e. other cell (key_word k) w is e) is
  where
    by : (k : PlanKey) → ((w : List ℕ) → is_word (key_word k) w ≡ false → is_word cell w ≡ false) → IsKey cell k → key_of cell ≡ Some k
    by key.Name not_this is = rw is refl
    by key.Grid not_this is = rw (not_this (codes "name") refl, is) refl
    by key.Zone not_this is = rw (not_this (codes "name") refl, not_this (codes "grid") refl, is) refl
    by key.Periods not_this is = rw (not_this (codes "name") refl, not_this (codes "grid") refl, not_this (codes "zone") refl, is) refl
    by key.Rate not_this is = rw (not_this (codes "name") refl, not_this (codes "grid") refl, not_this (codes "zone") refl, not_this (codes "periods") refl, is) refl
    by key.Resource not_this is =
        rw (not_this (codes "name") refl, not_this (codes "grid") refl, not_this (codes "zone") refl, not_this (codes "periods") refl, not_this (codes "rate") refl, is) refl
    by key.Limit not_this is =
        rw (
          not_this (codes "name") refl,
          not_this (codes "grid") refl,
          not_this (codes "zone") refl,
          not_this (codes "periods") refl,
          not_this (codes "rate") refl,
          not_this (codes "resource") refl,
          is,
        ) refl
    by (key.Destination Mill) not_this is =
        rw (
          not_this (codes "name") refl,
          not_this (codes "grid") refl,
          not_this (codes "zone") refl,
          not_this (codes "periods") refl,
          not_this (codes "rate") refl,
          not_this (codes "resource") refl,
          not_this (codes "limit") refl,
          is,
        ) refl
    by (key.Destination Leach) not_this is =
        rw (
          not_this (codes "name") refl,
          not_this (codes "grid") refl,
          not_this (codes "zone") refl,
          not_this (codes "periods") refl,
          not_this (codes "rate") refl,
          not_this (codes "resource") refl,
          not_this (codes "limit") refl,
          not_this (codes "mill") refl,
          is,
        ) refl
    by (key.Destination Dump) not_this is =
        rw (
          not_this (codes "name") refl,
          not_this (codes "grid") refl,
          not_this (codes "zone") refl,
          not_this (codes "periods") refl,
          not_this (codes "rate") refl,
          not_this (codes "resource") refl,
          not_this (codes "limit") refl,
          not_this (codes "mill") refl,
          not_this (codes "leach") refl,
          is,
        ) refl
