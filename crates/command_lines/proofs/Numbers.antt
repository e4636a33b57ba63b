-- What clap's getter of a number guarantees, by the rows.
use Rattle.std.proofs.Common.{◌≡◌, ◌∙◌, ◌⊎◌, ◌<◌, ◌≤◌, ◌^◌, ℕ, List, Option, Some, None, Result, Ok, Err, ap, arith, inl, inr, refl, subst, sym, unwrap_or}
use Rattle.std.specs.Str.Parse.{IsNumeral, ParsesUnsigned, digits_value, without_leading_plus}
use Rattle.clap.proofs.WalkLemmas.{one_text-rows}
use Rattle.clap.specs.Matches.{ReadsOne, one_text}
use Rattle.clap.specs.Words.{Row, Text, one_of, rows_of}
use Rattle.clap.specs.declared.parser.matches.Found.{Found}
use Rattle.command_lines.specs.CommandLine.{FindsNumber, IsNumberOf}

-- the argument has this number
abbrev pub HasNumber : List Row → Text → ℕ → Type 0
HasNumber rows id n = (text : Text) × (one_of id rows ≡ Some text) × IsNumberOf text n

-- the number that was read is the argument's; or the argument has no number in range
abbrev pub ReadsNumber : List Row → Text → ℕ → Option ℕ → Type 0
ReadsNumber rows id most (Some n) = HasNumber rows id n
ReadsNumber rows id most None = (n : ℕ) → FindsNumber rows id most n → ⊥

one_text_is : (o : Option Text) (t u : Text) → o ≡ Some t → o ≡ Some u → t ≡ u
one_text_is o t u a b = ap (λ x. unwrap_or x t) (sym a ∙ b)

pub reads_number : {E : Type 0} (G : List ℕ → Result ℕ E → Type 0) (f : Found) (id : Text) (most : ℕ) (r : Option ℕ) → most < 2 ^ 64
    → ((u : List ℕ) (x : Result ℕ E) → G u x → ParsesUnsigned 64 10 u x)
    → (one_text f id ≡ None → r ≡ None) → ((t : List ℕ) → one_text f id ≡ Some t → ReadsOne G t r) → ReadsNumber (rows_of f) id most r
reads_number {E} G f id most r fits only none value = go (one_text f id) refl r none value
  where
    go : (o : Option (List ℕ)) → one_text f id ≡ o → (r : Option ℕ)
        → (one_text f id ≡ None → r ≡ None) → ((t : List ℕ) → one_text f id ≡ Some t → ReadsOne G t r) → ReadsNumber (rows_of f) id most r
    go None e (Some n) none value =
        let bad : Some n ≡ None = none e in
        cc
    go None e None none value = λ n found.
        let bad : None ≡ Some found.0 = sym e ∙ one_text-rows f id ∙ found.1 in
        cc
    go (Some t) e (Some v) none value =
        let h = only t (Ok v) (value t e) in
        (t, sym (one_text-rows f id) ∙ e, (h.0.0, h.1))
    go (Some t) e None none value = λ n found.
        let text : found.0 ≡ t = one_text_is (one_of id (rows_of f)) found.0 t found.1 (sym (one_text-rows f id) ∙ e) in
        let numeral : IsNumeral 10 (without_leading_plus t) = subst (λ u. IsNumeral 10 (without_leading_plus u)) text found.2.0 in
        let is : n ≡ digits_value 10 (without_leading_plus t) = found.2.1 ∙ ap (λ u. digits_value 10 (without_leading_plus u)) text in
        let small : digits_value 10 (without_leading_plus t) < 2 ^ 64 = rw (← is) (omega (arith, found.4, fits)) in
        let h = value t e in
        absurd (only t (Err h.0) h.1 (numeral, small))

-- an argument with a number out of range has no number in range
pub out_of_range : (rows : List Row) (id : Text) (most n : ℕ) → HasNumber rows id n → (n < 1) ⊎ ((1 ≤ n) × (most < n)) → (m : ℕ)
    → FindsNumber rows id most m → ⊥
out_of_range rows id most n has out m found =
    let text : found.0 ≡ has.0 = one_text_is (one_of id rows) found.0 has.0 found.1 has.1 in
    let same : m ≡ n = found.2.1 ∙ ap (λ u. digits_value 10 (without_leading_plus u)) text ∙ sym has.2.1 in
    let low = found.3 in
    let high = found.4 in
    elim out [ inl under ↦ absurd (omega (arith, same, low, under)) | inr over ↦ absurd (omega (arith, same, high, over.1)) ]
