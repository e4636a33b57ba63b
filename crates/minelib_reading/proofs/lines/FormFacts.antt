-- Every form: an item is read exactly if the fields encode it, also if they are counted after an error, and none of them has a colon.
use Rattle.std.specs.Prelude.{Bool, Err, List, Ok, Result, codes, if◌then◌else◌, not, pos, ℕ, ◌%◌, ◌==◌, ◌^◌}
use Rattle.std.proofs.Common.{All, [], ap, arith, false, length, refl, subst, sym, true, ◌<◌, ◌∙◌, ◌∷◌, ◌≡◌, ◌≤◌}
use Rattle.std.proofs.lemmas.Bool.{ne_eqb}
use Rattle.std.proofs.lemmas.List.Elements.{All-cons, All-nil}
use Rattle.std.proofs.lemmas.Slice.Eq.{bytes_eq-Decides}
use Rattle.std.proofs.lemmas.Slice.Zip.{AllZip-long}
use Rattle.std.specs.List.{AllZip, list_any}
use Rattle.std.specs.Str.{bytes_eq}
use Rattle.pit_units.proofs.Exactly.{Exactly, as_, counted, each}
use Rattle.pit_units.proofs.Multiples.{stands_multiple}
use Rattle.pit_units.specs.DecimalRange.{IsInDecimalRange}
use Rattle.pit_units.specs.Steps.{◌>>=◌, each_of}
use Rattle.text_lines.proofs.FieldFacts.{any, below, size}
use Rattle.text_lines.proofs.LaterFields.{all_each}
use Rattle.text_lines.proofs.PlainText.{EachField, IsField, all_weaker, is_plain, none_from_all}
use Rattle.text_lines.specs.FieldValues.{kind_by}
use Rattle.text_lines.specs.TextLines.{fields_of}
use Rattle.text_lines.specs.declared.text_fault.TextKind.{TextKind}
use Rattle.text_lines.specs.declared.text_fault.TextKind.TheVariants.{Fields, Name}
use Rattle.minelib_reading.proofs.keys.Keyless.{have_colon, keyless, number_field, plain_no_colon}
use Rattle.minelib_reading.specs.LineFields.{Below, Decimal, EncodesField, EncodesItem, EncodesValue, End, Field, FieldKind, Form, Letter, Millionths, Others, Then, Thousandths, ValueOf, fields_by, item_in, letter_in, letter_text, of_kind, value_in}
use Rattle.minelib_reading.specs.ModelKeys.{is_colon}
use Rattle.minelib_reading.specs.declared.model.limit_lines.LimitLetter.{LimitLetter}
use Rattle.minelib_reading.specs.declared.model.limit_lines.LimitLetter.TheVariants.{G, I, L}

-- a step, and the step after it if it passes
known : {B C F : Type 0} {r : Result B F} {next : B → Result C F} {P : B → Type 0} {Q : B → C → Type 0} → Exactly r P
    → ((x : B) → P x → Exactly (next x) (Q x)) → Exactly (r >>= next) (λ y. (x : B) × P x × Q x y)
known {B} {C} {F} {r} {next} {P} {Q} first following = record {
  reported = λ y e. reported r refl y e;
  back = λ y h. ap (λ s. s >>= next) (first.back h.0 h.1) ∙ (following h.0 h.1).back y h.2;
}
  where
    reported : (s : Result B F) → r ≡ s → (y : C) → (s >>= next) ≡ Ok y → (x : B) × P x × Q x y
    reported (Ok x) is y e = let h = first.reported x is in (x, h, (following x h).reported y e)
    reported (Err fault) is y e = absurd cc

letter_exact : (text : List ℕ) → Exactly (letter_in text) (λ letter. text ≡ letter_text letter)
letter_exact text = record {
  reported = λ letter e. reported (bytes_eq text (codes "L")) (bytes_eq text (codes "G")) (bytes_eq text (codes "I")) refl refl refl letter e;
  back = back;
}
  where
    is : (word : List ℕ) → bytes_eq text word ≡ true → text ≡ word
    is word e = (bytes_eq-Decides text word).0 e

    reported : (l g i : Bool) → bytes_eq text (codes "L") ≡ l → bytes_eq text (codes "G") ≡ g → bytes_eq text (codes "I") ≡ i → (letter : LimitLetter)
        → (if l then Ok L else (if g then Ok G else (if i then Ok I else Err Name))) ≡ Ok letter → text ≡ letter_text letter
    reported true g i at_l at_g at_i letter e = let same : L ≡ letter = cc in is (codes "L") at_l ∙ ap letter_text same
    reported false true i at_l at_g at_i letter e = let same : G ≡ letter = cc in is (codes "G") at_g ∙ ap letter_text same
    reported false false true at_l at_g at_i letter e = let same : I ≡ letter = cc in is (codes "I") at_i ∙ ap letter_text same
    reported false false false at_l at_g at_i letter e = absurd cc

    back : (letter : LimitLetter) → text ≡ letter_text letter → letter_in text ≡ Ok letter
    back L e = rw e refl
    back G e = rw e refl
    back I e = rw e refl

value_exact : (kind : FieldKind) (text : List ℕ) → Exactly (value_in kind text) (EncodesValue kind text)
value_exact (Below limit) text = below limit text
value_exact (Thousandths most) text = size 3 most text (omega arith)
value_exact (Millionths most) text = size 6 most text (omega arith)
value_exact Decimal text = any text
value_exact Letter text = letter_exact text

-- the values in range
abbrev pub Fits : (kind : FieldKind) → ValueOf kind → Type 0
Fits (Below limit) n = n < limit
Fits (Thousandths most) n = (n ≤ most) × (n % 10 ^ 3 ≡ 0)
Fits (Millionths most) n = n ≤ most
Fits Decimal m = IsInDecimalRange m
Fits Letter letter = Unit {0}

abbrev pub Fit : List Field → Type 0
Fit [] = Unit {0}
Fit (field ∷ fields) = Fits field.0 field.1 × Fit fields

value_fits : (kind : FieldKind) (text : List ℕ) (value : ValueOf kind) → EncodesValue kind text value → Fits kind value
value_fits (Below limit) text n h = h.1
value_fits (Thousandths most) text n h = (h.1, stands_multiple 3 text (pos n) (omega arith) h.0)
value_fits (Millionths most) text n h = h.1
value_fits Decimal text m h = h.in_range
value_fits Letter text letter h = tt

pub fields_fit : (texts : List (List ℕ)) (fields : List Field) → AllZip EncodesField texts fields → Fit fields
fields_fit [] [] h = tt
fields_fit (text ∷ texts) (field ∷ fields) h = (value_fits field.0 text field.1 h.0, fields_fit texts fields h.1)
fields_fit texts fields h = absurd h

pub each_fits : (kind : FieldKind) (values : List (ValueOf kind)) → Fit (of_kind kind values) → All (Fits kind) values
each_fits kind [] h = All-nil (Fits kind)
each_fits kind (value ∷ values) h = All-cons (Fits kind) value values h.0 (each_fits kind values h.1)

zip_same : (kind : FieldKind) (texts : List (List ℕ)) (values : List (ValueOf kind))
    → AllZip (EncodesValue kind) texts values ≡ AllZip EncodesField texts (of_kind kind values)
zip_same kind [] [] = refl
zip_same kind [] (value ∷ values) = refl
zip_same kind (text ∷ texts) [] = refl
zip_same kind (text ∷ texts) (value ∷ values) = ap (λ more. EncodesValue kind text value × more) (zip_same kind texts values)

-- values in range make an item with this property exactly if the values are the item's parts
abbrev pub Makes : {A : Type 0} → Form A → (A → Type 0) → Type 0
Makes (End made) P = Exactly made P
Makes (Then kind part next) P = (value : ValueOf kind) → Fits kind value → Makes (next value) (λ x. (part x ≡ value) × P x)
Makes (Others kind parts made) P = (values : List (ValueOf kind)) → Fit (of_kind kind values) → Exactly (made values) (λ x. (parts x ≡ values) × P x)

pub first_step : {A B : Type 0} (r : Result A TextKind) (texts : List (List ℕ)) (next : A × List (List ℕ) → Result B TextKind)
    → (r >>= λ x. next (x, texts)) ≡ ((r >>= λ x. Ok (x, texts)) >>= next)
first_step (Ok x) texts next = refl
first_step (Err kind) texts next = refl

pub item_exact : {A : Type 0} (form : Form A) (texts : List (List ℕ)) (P : A → Type 0) → Makes form P
    → Exactly (item_in form texts) (λ x. EncodesItem form texts x × P x)
item_exact (End made) [] P makes = as_ makes (λ x p. (tt, p)) (λ x h. h.1)
item_exact {A} (End made) (text ∷ texts) P makes = record { reported = λ x e. absurd (never x e); back = λ x h. absurd h.0 }
  where
    some : (length (text ∷ texts) == 0) ≡ false
    some = ne_eqb (length (text ∷ texts)) 0 (λ e. omega (arith, e))

    never : (x : A) → (if not (length (text ∷ texts) == 0) then Err Fields else made) ≡ Ok x → ⊥
    never x e = let no = rw some at e in absurd cc
item_exact (Then kind part next) [] P makes = record { reported = λ x e. absurd cc; back = λ x h. absurd h.0 }
item_exact {A} (Then kind part next) (text ∷ texts) P makes =
    subst (λ r. Exactly r (λ x. EncodesItem (Then kind part next) (text ∷ texts) x × P x)) (first_step (value_in kind text) texts following)
    (as_ (steps (λ value h. item_exact (next value) texts (λ x. (part x ≡ value) × P x) (makes value (value_fits kind text value h)))) to from)
  where
    following : ValueOf kind × List (List ℕ) → Result A TextKind
    following first = item_in (next first.0) first.1

    Rest : ValueOf kind → A → Type 0
    Rest value x = EncodesItem (next value) texts x × ((part x ≡ value) × P x)

    steps : ((value : ValueOf kind) → EncodesValue kind text value → Exactly (item_in (next value) texts) (Rest value))
        → Exactly (value_in kind text >>= λ value. item_in (next value) texts) (λ x. (value : ValueOf kind) × EncodesValue kind text value × Rest value x)
    steps rest = known (value_exact kind text) rest

    to : (x : A) → (value : ValueOf kind) × EncodesValue kind text value × Rest value x → EncodesItem (Then kind part next) (text ∷ texts) x × P x
    to x (value, h, (more, (is, p))) = ((subst (EncodesValue kind text) (sym is) h, subst (λ value. EncodesItem (next value) texts x) (sym is) more), p)

    from : (x : A) → EncodesItem (Then kind part next) (text ∷ texts) x × P x → (value : ValueOf kind) × EncodesValue kind text value × Rest value x
    from x h = (part x, h.0.0, (h.0.1, (refl, h.1)))
item_exact {A} (Others kind parts made) texts P makes =
    subst (λ r. Exactly r (λ x. EncodesItem (Others kind parts made) texts x × P x)) (sym (all_each (value_in kind) [] texts made)) (as_ steps to from)
  where
    Are : List (ValueOf kind) → Type 0
    Are values = AllZip (EncodesValue kind) texts values

    as_fields : (values : List (ValueOf kind)) → Are values → AllZip EncodesField texts (of_kind kind values)
    as_fields values h = subst (λ T. T) (zip_same kind texts values) h

    steps : Exactly (each_of (value_in kind) texts >>= made) (λ x. (values : List (ValueOf kind)) × Are values × ((parts x ≡ values) × P x))
    steps = known (each (value_exact kind) texts) (λ values h. makes values (fields_fit texts (of_kind kind values) (as_fields values h)))

    to : (x : A) → (values : List (ValueOf kind)) × Are values × ((parts x ≡ values) × P x) → EncodesItem (Others kind parts made) texts x × P x
    to x (values, h, (is, p)) = (as_fields (parts x) (subst Are (sym is) h), p)

    from : (x : A) → EncodesItem (Others kind parts made) texts x × P x → (values : List (ValueOf kind)) × Are values × ((parts x ≡ values) × P x)
    from x h = (parts x, subst (λ T. T) (sym (zip_same kind texts (parts x))) h.0, (refl, h.1))

-- with the fields counted first
pub same_width : {A : Type 0} (form : Form A) (texts : List (List ℕ)) (x : A) → EncodesItem form texts x → length texts ≡ length (fields_by form x)
same_width form texts x h = sym (AllZip-long EncodesField texts (fields_by form x) h)

pub line_exact : {A : Type 0} (form : Form A) (texts : List (List ℕ)) (P : A → Type 0) (count : ℕ) → Makes form P
    → Exactly (if not (length texts == count) then Err Fields else item_in form texts)
    (λ x. (length (fields_by form x) ≡ count) × (EncodesItem form texts x × P x))
line_exact form texts P count makes =
    as_ (counted Fields (length texts) count (item_exact form texts P makes))
    (λ x h. (sym (same_width form texts x h.1.0) ∙ h.0, h.1)) (λ x h. (same_width form texts x h.1.0 ∙ h.0, h.1))

-- with the fields counted after an error
pub kind_after : {A : Type 0} (r : Result A TextKind) (n m : ℕ) (kind : TextKind) → r ≡ Err kind
    → (if not (n == m) then Err Fields else r) ≡ Err (kind_by (n == m) kind)
kind_after {A} r n m kind e = by (n == m)
  where
    by : (t : Bool) → ◌≡◌ {A = Result A TextKind} (if not t then Err Fields else r) (Err (kind_by t kind))
    by true = e
    by false = refl

-- a text that encodes a value is a field
value_plain : (kind : FieldKind) (text : List ℕ) (value : ValueOf kind) → EncodesValue kind text value → IsField text
value_plain (Below limit) text n h = number_field 0 text _ h.0
value_plain (Thousandths most) text n h = number_field 3 text _ h.0
value_plain (Millionths most) text n h = number_field 6 text _ h.0
value_plain Decimal text m h = number_field 6 text m h
value_plain Letter text L h = rw h (record { some = omega arith; bytes = refl })
value_plain Letter text G h = rw h (record { some = omega arith; bytes = refl })
value_plain Letter text I h = rw h (record { some = omega arith; bytes = refl })

pub fields_plain : (texts : List (List ℕ)) (fields : List Field) → AllZip EncodesField texts fields → EachField texts
fields_plain [] [] h = tt
fields_plain (text ∷ texts) (field ∷ fields) h = (value_plain field.0 text field.1 h.0, fields_plain texts fields h.1)
fields_plain texts fields h = absurd h

fields_keyless : (texts : List (List ℕ)) → EachField texts → have_colon texts ≡ false
fields_keyless [] each = refl
fields_keyless (text ∷ texts) each =
    let none = none_from_all is_colon text (all_weaker is_plain (λ c. not (is_colon c)) plain_no_colon text each.0.bytes) in
    rw (none, fields_keyless texts each.1) refl

-- a line whose fields encode values has no colon
pub line_keyless : (line : List ℕ) (fields : List Field) → AllZip EncodesField (fields_of line) fields → list_any is_colon line ≡ false
line_keyless line fields h = keyless line (fields_keyless (fields_of line) (fields_plain (fields_of line) fields h))
