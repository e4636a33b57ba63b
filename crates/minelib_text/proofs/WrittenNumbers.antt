-- The text that is written of a number encodes it, and a line of written fields encodes them.
use Rattle.std.specs.Prelude.{List, decimal, pos, ℕ, ℤ, ◌%◌, ◌*◌, ◌^◌}
use Rattle.std.proofs.Common.{All, [], ap, arith, length, map, refl, subst, sym, ◌-◌, ◌<◌, ◌∷◌, ◌≡◌, ◌≤◌}
use Rattle.std.proofs.lemmas.List.Elements.{All-head, All-tail}
use Rattle.std.specs.List.{AllZip}
use Rattle.pit_units.proofs.Standing.{read_stands}
use Rattle.pit_units.proofs.Written.{shortest_read, whole_read}
use Rattle.pit_units.specs.Decimal.{shortest}
use Rattle.pit_units.specs.DecimalRange.{IsInDecimalRange}
use Rattle.pit_units.specs.EncodedNumbers.{EncodesBelow, EncodesInteger, EncodesSize}
use Rattle.pit_units.specs.StandsFor.{StandsFor}
use Rattle.text_lines.proofs.PlainText.{IsLine}
use Rattle.text_lines.specs.TextLines.{fields_of}
use Rattle.minelib_lines.specs.Lines.{line_of}
use Rattle.minelib_reading.proofs.lines.FormFacts.{fields_plain}
use Rattle.minelib_reading.specs.LineFields.{Below, Decimal, EncodesField, EncodesValue, Field, FieldKind, Letter, Millionths, Thousandths, ValueOf, letter_text, of_kind}
use Rattle.minelib_text.proofs.PlainLines.{plain_line}

pub below_written : (limit n : ℕ) → n < limit → limit ≤ 10 ^ 18 → EncodesBelow limit (decimal n) n
below_written limit n low small =
    (read_stands 0 (decimal n) (pos (n * 10 ^ 6)) (omega arith) (whole_read n (omega (arith, low, small))), low)

pub within_written : (low high n : ℕ) → low ≤ n → n ≤ high → high ≤ 10 ^ 18 → EncodesInteger low high (decimal n) n
within_written low high n from to small =
    (read_stands 0 (decimal n) (pos (n * 10 ^ 6)) (omega arith) (whole_read n (omega (arith, to, small))), from, to)

pub decimal_written : (z : ℤ) → IsInDecimalRange z → StandsFor 6 (shortest z) z
decimal_written z small = read_stands 6 (shortest z) z (omega arith) (shortest_read 6 z (omega arith) small (omega arith))

pub size_written : (decimals most n : ℕ) → decimals ≤ 6 → n ≤ most → most ≤ 10 ^ 24 → n % 10 ^ (6 - decimals) ≡ 0
    → EncodesSize decimals most (shortest (pos n)) n
size_written decimals most n few low small fine =
    (read_stands decimals (shortest (pos n)) (pos n) few (shortest_read decimals (pos n) few (omega (arith, low, small)) fine), low)

-- a field as it is written, and the values for which it is read back
abbrev pub written_value : (kind : FieldKind) → ValueOf kind → List ℕ
written_value (Below limit) n = decimal n
written_value (Thousandths most) n = shortest (pos n)
written_value (Millionths most) n = shortest (pos n)
written_value Decimal m = shortest m
written_value Letter letter = letter_text letter

abbrev pub written : List Field → List (List ℕ)
written fields = map (λ field. written_value field.0 field.1) fields

abbrev pub IsWritable : (kind : FieldKind) → ValueOf kind → Type 0
IsWritable (Below limit) n = (n < limit) × (limit ≤ 10 ^ 18)
IsWritable (Thousandths most) n = (n ≤ most) × (most ≤ 10 ^ 24) × (n % 10 ^ 3 ≡ 0)
IsWritable (Millionths most) n = (n ≤ most) × (most ≤ 10 ^ 24)
IsWritable Decimal m = IsInDecimalRange m
IsWritable Letter letter = Unit {0}

abbrev pub AreWritable : List Field → Type 0
AreWritable [] = Unit {0}
AreWritable (field ∷ fields) = IsWritable field.0 field.1 × AreWritable fields

value_back : (kind : FieldKind) (value : ValueOf kind) → IsWritable kind value → EncodesValue kind (written_value kind value) value
value_back (Below limit) n h = below_written limit n h.0 h.1
value_back (Thousandths most) n h = size_written 3 most n (omega arith) h.0 h.1 h.2
value_back (Millionths most) n h = size_written 6 most n (omega arith) h.0 h.1 (omega arith)
value_back Decimal m h = decimal_written m h
value_back Letter letter h = refl

fields_back : (fields : List Field) → AreWritable fields → AllZip EncodesField (written fields) fields
fields_back [] h = tt
fields_back (field ∷ fields) h = (value_back field.0 field.1 h.0, fields_back fields h.1)

-- the line of written fields encodes them
pub line_back : (texts : List (List ℕ)) (fields : List Field) → texts ≡ written fields → 0 < length texts → AreWritable fields
    → IsLine (line_of texts) × AllZip EncodesField (fields_of (line_of texts)) fields
line_back texts fields are some h =
    let encoded = subst (λ texts. AllZip EncodesField texts fields) (sym are) (fields_back fields h) in
    plain_line texts (λ texts. AllZip EncodesField texts fields) some (fields_plain texts fields encoded) encoded

-- values of one kind
pub written_same : (kind : FieldKind) (values : List (ValueOf kind)) → map (written_value kind) values ≡ written (of_kind kind values)
written_same kind [] = refl
written_same kind (value ∷ values) = ap (λ more. written_value kind value ∷ more) (written_same kind values)

pub each_writable : (kind : FieldKind) (values : List (ValueOf kind)) → All (IsWritable kind) values → AreWritable (of_kind kind values)
each_writable kind [] all = tt
each_writable kind (value ∷ values) all =
    (All-head (IsWritable kind) value values all, each_writable kind values (All-tail (IsWritable kind) value values all))
