-- A line is a list of fields. A form has the kind of each field, with its range, and the part of the item that the field encodes.
use Rattle.std.specs.Prelude.{◌≡◌, ℕ, ◌==◌, not, List, [], ◌∷◌, length, map, ℤ, codes, Result, Ok, Err, if◌then◌else◌}
use Rattle.std.specs.List.{AllZip}
use Rattle.std.specs.Str.{bytes_eq}
use Rattle.pit_units.specs.EncodedNumbers.{EncodesBelow, EncodesSize}
use Rattle.pit_units.specs.StandsFor.{StandsFor}
use Rattle.pit_units.specs.Steps.{◌>>=◌}
use Rattle.text_lines.specs.FieldValues.{all_by, first_by}
use Rattle.text_lines.specs.StatedFields.{below_in, decimal_in, size_in}
use Rattle.text_lines.specs.declared.text_fault.TextKind.{TextKind}
use Rattle.text_lines.specs.declared.text_fault.TextKind.TheVariants.{Fields, Name}
use Rattle.minelib_reading.specs.declared.model.limit_lines.LimitLetter.{LimitLetter}
use Rattle.minelib_reading.specs.declared.model.limit_lines.LimitLetter.TheVariants.{G, I, L}

-- the text of a limit's letter, and the letter of a text
abbrev pub letter_text : LimitLetter → List ℕ
letter_text L = codes "L"
letter_text G = codes "G"
letter_text I = codes "I"

abbrev pub letter_in : List ℕ → Result LimitLetter TextKind
letter_in text =
    if bytes_eq text (codes "L") then Ok L
    else (if bytes_eq text (codes "G") then Ok G
    else (if bytes_eq text (codes "I") then Ok I else Err Name))

-- an integer from 0 on, below a limit; millionths from 0 to `most`, with at most three or six decimals; the millionths of any decimal;
-- a limit's letter
pub data FieldKind : Type 0 where
  Below : (limit : ℕ) → FieldKind
  Thousandths : (most : ℕ) → FieldKind
  Millionths : (most : ℕ) → FieldKind
  Decimal : FieldKind
  Letter : FieldKind

abbrev pub ValueOf : FieldKind → Type 0
ValueOf (Below limit) = ℕ
ValueOf (Thousandths most) = ℕ
ValueOf (Millionths most) = ℕ
ValueOf Decimal = ℤ
ValueOf Letter = LimitLetter

-- the value of a text, or its error
abbrev pub value_in : (kind : FieldKind) → List ℕ → Result (ValueOf kind) TextKind
value_in (Below limit) = below_in limit
value_in (Thousandths most) = size_in 3 most
value_in (Millionths most) = size_in 6 most
value_in Decimal = decimal_in
value_in Letter = letter_in

-- the text encodes the value
abbrev pub EncodesValue : (kind : FieldKind) → List ℕ → ValueOf kind → Type 0
EncodesValue (Below limit) text n = EncodesBelow limit text n
EncodesValue (Thousandths most) text n = EncodesSize 3 most text n
EncodesValue (Millionths most) text n = EncodesSize 6 most text n
EncodesValue Decimal text m = StandsFor 6 text m
EncodesValue Letter text letter = text ≡ letter_text letter

-- the fields of a line, each with its part of an item: a field and those after it, or all other fields; and the item with these
-- values, or an error
pub data Form (A : Type 0) : Type 0 where
  Then : (kind : FieldKind) (part : A → ValueOf kind) (next : ValueOf kind → Form A) → Form A
  Others : (kind : FieldKind) (parts : A → List (ValueOf kind)) (made : List (ValueOf kind) → Result A TextKind) → Form A
  End : Result A TextKind → Form A

-- the item of texts, read from left to right up to the first error
abbrev pub item_in : {A : Type 0} → Form A → List (List ℕ) → Result A TextKind
item_in (Then kind part next) texts = first_by (value_in kind) texts >>= λ first. item_in (next first.0) first.1
item_in (Others kind parts made) texts = all_by (value_in kind) [] texts >>= made
item_in (End made) texts = if not (length texts == 0) then Err Fields else made

-- the fields of an item, each with its value
abbrev pub Field : Type 0
Field = (kind : FieldKind) × ValueOf kind

abbrev pub of_kind : (kind : FieldKind) → List (ValueOf kind) → List Field
of_kind kind values = map (λ value. (kind, value)) values

abbrev pub fields_by : {A : Type 0} → Form A → A → List Field
fields_by (Then kind part next) item = (kind, part item) ∷ fields_by (next (part item)) item
fields_by (Others kind parts made) item = of_kind kind (parts item)
fields_by (End made) item = []

-- each text encodes a field of the item
abbrev pub EncodesField : List ℕ → Field → Type 0
EncodesField text field = EncodesValue field.0 text field.1

abbrev pub EncodesItem : {A : Type 0} → Form A → List (List ℕ) → A → Type 0
EncodesItem form texts item = AllZip EncodesField texts (fields_by form item)
