-- The largest of some numbers is the member that none exceeds; so the lines of a UPIT file have it.
use Rattle.std.proofs.Common.{◌≡◌, ◌<◌, ⊎_elim, ℕ, ◌+◌, List, [], ◌∷◌, ◌++◌, true, false, arith, refl, sym, subst, ◌∙◌, ap, length, get_or}
use Rattle.std.specs.Prelude.{ℤ, pos, ◌≤ℤ◌, int_le, codes, decimal}
use Rattle.std.specs.List.{AllZip, position_or_len}
use Rattle.std.proofs.lemmas.Bool.{cases_lt}
use Rattle.std.proofs.lemmas.Int.{ints}
use Rattle.std.proofs.lemmas.List.Sums.{AllPass-from_list_all, fails_before_first, list_all-from_AllPass, passes_at_first}
use Rattle.pit_units.specs.Decimal.{shortest}
use Rattle.mine_instance.specs.Largest.{is_largest, largest}
use Rattle.mine_instance.specs.Instance.{Instance}
use Rattle.minelib_lines.specs.Lines.{lines_from, line_of, text_of}
use Rattle.minelib_writing.specs.TextLaws.{best_lines, IsBest}
use Rattle.minelib_writing.specs.Written.{largest_line, text_upit, upit_header}
use Rattle.minelib_writing.proofs.SectionsWritten.{text_of-append}

le_is : (m n : ℤ) → m ≤ℤ n → int_le m n ≡ true
le_is m n h = grind (arith, ints)

is_le : (m n : ℤ) → int_le m n ≡ true → m ≤ℤ n
is_le m n h = grind (arith, ints)

same : (m n : ℤ) → m ≤ℤ n → n ≤ℤ m → m ≡ n
same m n low high = omega (arith, ints, low, high)

largest_is : (values : List ℤ) (best : ℤ) → IsBest values best → largest values ≡ best
largest_is values best is = same (largest values) best (is.most place (pos 0) within) (is_le best (largest values) above)
  where
    place : ℕ
    place = position_or_len (is_largest values) values

    passes : is_largest values best ≡ true
    passes = list_all-from_AllPass (λ m. int_le m best) values (λ k d below. le_is (get_or values k d) best (is.most k d below))

    not_before : is.one.0 < place → ⊥
    not_before before =
        let fails : is_largest values (get_or values is.one.0 best) ≡ false =
        fails_before_first (is_largest values) values is.one.0 best before in
        let never : true ≡ false = sym passes ∙ subst (λ v. is_largest values v ≡ false) is.one.2 fails in
        absurd cc

    within : place < length values
    within = ⊎_elim (λ before. absurd (not_before before)) (λ following. omega (arith, following, is.one.1)) (cases_lt is.one.0 place)

    above : int_le best (largest values) ≡ true
    above =
        subst (λ v. int_le v (largest values) ≡ true) is.one.2
        (AllPass-from_list_all (λ m. int_le m (largest values)) values (passes_at_first (is_largest values) values (pos 0) within)
        is.one.0 best is.one.1)

lines_are : (n : ℕ) (values : List (List ℤ)) (best : List ℤ) → AllZip IsBest values best
    → text_of (lines_from largest_line n values) ≡ best_lines n best
lines_are n [] [] are = refl
lines_are n [] (b ∷ best) are = absurd are
lines_are n (of_block ∷ values) [] are = absurd are
lines_are n (of_block ∷ values) (b ∷ best) are =
    λ i. (line_of (decimal n ∷ shortest (largest_is of_block b are.0 i) ∷ []) ++ 10 ∷ []) ++ lines_are (n + 1) values best are.1 i

pub upit_is : (i : Instance) (best : List ℤ) → AllZip IsBest i.values best
    → text_upit i
    ≡ text_of (upit_header i) ++ ((codes "OBJECTIVE_FUNCTION:" ++ 10 ∷ []) ++ best_lines 0 best)
unfolding text_upit
upit_is i best are =
    let keys = upit_header i in
    text_of-append keys (codes "OBJECTIVE_FUNCTION:" ∷ lines_from largest_line 0 i.values)
    ∙ ap (λ lines. text_of keys ++ ((codes "OBJECTIVE_FUNCTION:" ++ 10 ∷ []) ++ lines)) (lines_are 0 i.values best are)
