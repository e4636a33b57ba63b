-- A written text begins in the usual form.
use Rattle.std.proofs.Common.{◌≡◌, ℕ, ◌+◌, ◌/◌, ◌%◌, ◌^◌, ◌<◌, ◌≤◌, ◌⊎◌, true, List, [], ◌∷◌, ◌++◌, length, drop, arith, refl, ap, sym, subst, ◌∙◌, inl, inr, append_assoc}
use Rattle.std.proofs.lemmas.Bool.{and_parts}
use Rattle.std.proofs.Math.Seq.{drop-append_seam}
use Rattle.std.proofs.lemmas.Fmt.{decimal_is_IsNumeral_wide, length-decimal-le_wide}
use Rattle.std.specs.Char.{is_ascii_digit}
use Rattle.std.specs.Fmt.{decimal}
use Rattle.pit_units.specs.Decimal.{all_digits, fraction_text, size_text, six_digits}
use Rattle.pit_units.specs.Prefix.{digits_ahead, past_point, IsUsual}
use Rattle.pit_units.proofs.Written.{decimals, decimals_pass, digits_pass, kept_length, point_part}

counted : (ds more : List ℕ) → all_digits ds ≡ true → digits_ahead (ds ++ more) ≡ length ds + digits_ahead more
counted [] more h = omega arith
counted (d ∷ ds) more h =
    let parts = and_parts (is_ascii_digit d) (all_digits ds) h in
    rw parts.0 (omega (arith, counted ds more parts.1))

-- up to 12 digits before something else, which may be a point with few digits after it
usual : (max : ℕ) (ds more : List ℕ) → all_digits ds ≡ true → 0 < length ds → length ds ≤ 12 → digits_ahead more ≡ 0
    → digits_ahead (past_point more) ≤ max
    → IsUsual max (ds ++ more)
usual max ds more pass some few stop coarse =
    let count : digits_ahead (ds ++ more) ≡ length ds = omega (arith, counted ds more pass, stop) in
    record {
      some = omega (arith, count, some);
      few = omega (arith, count, few);
      coarse = subst (λ text. digits_ahead (past_point text) ≤ max)
          (sym (ap (λ n. drop n (ds ++ more)) count ∙ drop-append_seam ds more)) coarse;
    }

-- the text after the integer part
stops : (m : ℕ) (rest : List ℕ) → digits_ahead rest ≡ 0 → (((fraction_text m ≡ []) × (decimals m ≡ [])) ⊎ (fraction_text m ≡ 46 ∷ decimals m))
    → digits_ahead (fraction_text m ++ rest) ≡ 0
stops m rest stop (inl none) = rw none.0 stop
stops m rest stop (inr is) = rw is refl

coarse : (m : ℕ) (rest : List ℕ) → digits_ahead rest ≡ 0 → past_point rest ≡ []
    → (((fraction_text m ≡ []) × (decimals m ≡ [])) ⊎ (fraction_text m ≡ 46 ∷ decimals m)) → digits_ahead (past_point (fraction_text m ++ rest)) ≤ 6
coarse m rest stop none_following (inl none) = rw (none.0, none_following) (omega arith)
coarse m rest stop none_following (inr is) = rw is (omega (arith, counted (decimals m) rest (decimals_pass m), kept_length (six_digits m), stop))

pub written_usual : (n : ℕ) (rest : List ℕ) → n < 10 ^ 18 → digits_ahead rest ≡ 0 → past_point rest ≡ [] → IsUsual 6 (size_text n ++ rest)
written_usual n rest small stop none_following =
    let m = n % 10 ^ 6 in
    let numeral = decimal_is_IsNumeral_wide (n / 10 ^ 6) (omega arith) in
    let few = length-decimal-le_wide 12 (n / 10 ^ 6) (omega arith) (omega arith) (omega arith) in
    subst (IsUsual 6) (sym (append_assoc (decimal (n / 10 ^ 6)) (fraction_text m) rest))
    (usual 6 (decimal (n / 10 ^ 6)) (fraction_text m ++ rest) (digits_pass (decimal (n / 10 ^ 6)) numeral.0.1) numeral.0.0 few
    (stops m rest stop (point_part m)) (coarse m rest stop none_following (point_part m)))
