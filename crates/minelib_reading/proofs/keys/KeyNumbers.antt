-- What the value of a header key states and encodes.
use Rattle.std.specs.Prelude.{List, Ok, negsuc, pos, unsigned_abs, ℕ, ℤ, ◌≤ℤ◌}
use Rattle.std.proofs.Common.{arith, refl, subst, sym, true, ◌+◌, ◌≡◌}
use Rattle.std.proofs.lemmas.Bool.{eq-eqb, eqb-true}
use Rattle.std.proofs.lemmas.Int.{ints}
use Rattle.std.proofs.lemmas.Slice.Eq.{bytes_eq-Decides}
use Rattle.std.specs.Str.{bytes_eq}
use Rattle.pit_units.proofs.Exactly.{Exactly, as_, done, holds, made, then_}
use Rattle.pit_units.specs.EncodedNumbers.{EncodesBelow, EncodesInteger, EncodesNumber}
use Rattle.plan_parts.specs.Name.{is_name}
use Rattle.plan_parts.specs.declared.ranges.TheConstants.{MAX_BLOCKS, MAX_DESTINATIONS, MAX_PERIODS, MAX_RATE, MAX_RESOURCES}
use Rattle.text_lines.proofs.FieldFacts.{below, number, whole}
use Rattle.text_lines.specs.declared.text_fault.TextKind.TheVariants.{Count, Name}
use Rattle.minelib_lines.specs.HeaderKeys.{type_text}
use Rattle.minelib_lines.specs.StatedHeader.{StatedHeader}
use Rattle.minelib_lines.specs.declared.header_key.HeaderKey.{HeaderKey}
use Rattle.minelib_lines.specs.declared.header_key.HeaderKey.TheVariants as key
use Rattle.minelib_lines.specs.declared.problem.Problem.{Problem}
use Rattle.minelib_reading.proofs.keys.HeaderFacts.{count_there}
use Rattle.minelib_reading.specs.HeaderNumbers.{with_key}
use Rattle.minelib_reading.specs.ModelDraft.{name_with}
use Rattle.minelib_reading.specs.ModelKeys.{number_stated}
use Rattle.minelib_reading.specs.StatedModel.{header_stated}
use Rattle.minelib_reading.specs.declared.model.key.Header.{Header}
use Rattle.minelib_reading.specs.encoded.EncodedModel.{EncodesKey}

-- the number that is stored for a key's value: 0 if the value must only be correct
abbrev Keeps : Problem → ℕ → HeaderKey → List ℕ → ℕ → Type 0
Keeps problem n key.Name value number = (is_name value ≡ true) × (number ≡ 0)
Keeps problem n key.Type value number = (value ≡ type_text problem) × (number ≡ 0)
Keeps problem n key.Blocks value number = EncodesBelow (MAX_BLOCKS + 1) value n × (number ≡ 0)
Keeps problem n key.Periods value number = EncodesInteger 1 MAX_PERIODS value number
Keeps problem n key.Destinations value number = EncodesInteger 1 MAX_DESTINATIONS value number
Keeps problem n key.Resources value number = EncodesBelow (MAX_RESOURCES + 1) value number
Keeps problem n key.General value number = EncodesBelow 1 value number
Keeps problem n key.Rate value number = EncodesNumber 6 (pos 0) MAX_RATE value (pos number)

-- a number that is not negative equals its absolute value
pub from_zero : (z : ℤ) → pos 0 ≤ℤ z → pos (unsigned_abs z) ≡ z
from_zero (pos k) h = refl
from_zero (negsuc k) h = absurd (omega (arith, ints))

keeps : (p : Problem) (n : ℕ) (k : HeaderKey) (value : List ℕ) → Exactly (number_stated p n k value) (Keeps p n k value)
unfolding number_stated
keeps p n key.Name value = holds Name (done 0)
keeps p n key.Type value =
    let d = bytes_eq-Decides value (type_text p) in
    as_ (holds Name (done 0)) (λ y h. (d.0 h.0, h.1)) (λ y h. (d.1 h.0, h.1))
keeps p n key.Blocks value =
    as_ (then_ (below 64000001 value) (λ blocks. holds Count (done 0)))
    (λ y h. (subst (EncodesBelow 64000001 value) (eqb-true h.0 n h.2.0) h.1, h.2.1)) (λ y h. (n, h.0, (eq-eqb n n refl, h.1)))
keeps p n key.Periods value = whole 1 MAX_PERIODS value
keeps p n key.Destinations value = whole 1 MAX_DESTINATIONS value
keeps p n key.Resources value = below 9 value
keeps p n key.General value = below 1 value
keeps p n key.Rate value =
    made unsigned_abs (number 6 (pos 0) MAX_RATE value (omega arith)) (λ m h. subst (EncodesNumber 6 (pos 0) MAX_RATE value) (sym (from_zero m h.1)) h)
    (λ k h. (pos k, h, refl))

-- the value encodes what the header then states
pub number_reported : (p : Problem) (n : ℕ) (k : HeaderKey) (value name : List ℕ) (h : Header) (number : ℕ) → number_stated p n k value ≡ Ok number
    → EncodesKey p n (header_stated (name_with k value name) (with_key h k number)) k value
number_reported p n k value name h number e = by k ((keeps p n k value).reported number e)
  where
    by : (k : HeaderKey) → Keeps p n k value number → EncodesKey p n (header_stated (name_with k value name) (with_key h k number)) k value
    by key.Name s = (refl, s.0)
    by key.Type s = s.0
    by key.Blocks s = s.0
    by key.Periods s = subst (EncodesInteger 1 MAX_PERIODS value) (sym (count_there h number key.Periods)) s
    by key.Destinations s = subst (EncodesInteger 1 MAX_DESTINATIONS value) (sym (count_there h number key.Destinations)) s
    by key.Resources s = subst (EncodesBelow (MAX_RESOURCES + 1) value) (sym (count_there h number key.Resources)) s
    by key.General s = subst (EncodesBelow 1 value) (omega (arith, s.1)) s
    by key.Rate s = subst (λ m. EncodesNumber 6 (pos 0) MAX_RATE value (pos m)) (sym (count_there h number key.Rate)) s

-- the number that a header stores for a key
abbrev pub reported : StatedHeader → HeaderKey → ℕ
reported m key.Periods = m.periods
reported m key.Destinations = m.destinations
reported m key.Resources = m.resources
reported m key.Rate = unsigned_abs m.rate
reported m k = 0

pub number_back : (p : Problem) (n : ℕ) (m : StatedHeader) (k : HeaderKey) (value : List ℕ) → EncodesKey p n m k value
    → number_stated p n k value ≡ Ok (reported m k)
number_back p n m k value s = (keeps p n k value).back (reported m k) (by k s)
  where
    by : (k : HeaderKey) → EncodesKey p n m k value → Keeps p n k value (reported m k)
    by key.Name s = (s.1, refl)
    by key.Type s = (s, refl)
    by key.Blocks s = (s, refl)
    by key.Periods s = s
    by key.Destinations s = s
    by key.Resources s = s
    by key.General s = s
    by key.Rate s = subst (EncodesNumber 6 (pos 0) MAX_RATE value) (sym (from_zero m.rate s.1)) s
