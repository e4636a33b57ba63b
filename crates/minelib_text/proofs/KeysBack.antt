-- The key lines of a model file spell what they are written of.
use Rattle.std.specs.Prelude.{AllPairs, Bool, List, filter, if◌then◌else◌, nat_le, negsuc, pos, ℕ, ℤ, ◌&&◌, ◌^◌, ◌≢◌, ◌≤ℤ◌, ◌⊎◌}
use Rattle.std.proofs.Common.{All, [], ap, append_assoc, arith, false, inl, inr, length, map, refl, subst, sym, true, ◌++◌, ◌+◌, ◌∙◌, ◌∷◌, ◌≡◌, ◌≤◌}
use Rattle.std.proofs.lemmas.Bool.{and_parts, leb-true}
use Rattle.std.proofs.lemmas.Bool.Decides.{nat_tests}
use Rattle.std.proofs.lemmas.Int.{ints}
use Rattle.std.proofs.lemmas.List.{get_or-map}
use Rattle.std.proofs.lemmas.List.Elements.{All-head, All-tail, Contains-append_right, filter_passes}
use Rattle.std.proofs.lemmas.List.Kept.{AllPairs-filter}
use Rattle.std.specs.List.{Contains, list_all}
use Rattle.pit_units.specs.DecimalRange.{IsInDecimalRange}
use Rattle.plan_parts.specs.Name.{is_name, is_name_byte}
use Rattle.plan_parts.specs.declared.ranges.TheConstants.{MAX_BLOCKS, MAX_DESTINATIONS, MAX_PERIODS, MAX_RESOURCES}
use Rattle.mine_instance.specs.Valid.{IsHorizon}
use Rattle.text_lines.proofs.PlainText.{IsField, IsLine, all_parts, all_weaker, first_read, is_inner, is_plain}
use Rattle.minelib_lines.specs.HeaderKeys.{has_key, header_keys, key_word, keys_of, place, type_text}
use Rattle.minelib_lines.specs.HeaderTable.{key_line, key_lines, key_text}
use Rattle.minelib_lines.specs.StatedHeader.{StatedHeader}
use Rattle.minelib_lines.specs.declared.header_key.HeaderKey.{HeaderKey}
use Rattle.minelib_lines.specs.declared.header_key.HeaderKey.TheVariants as key
use Rattle.minelib_lines.specs.declared.problem.Problem.{Problem}
use Rattle.minelib_lines.specs.declared.problem.Problem.TheVariants.{Cpit, Pcpsp}
use Rattle.minelib_reading.proofs.keys.HeaderFacts.{contains_cases, each_key}
use Rattle.minelib_reading.proofs.keys.Keyless.{number_field}
use Rattle.minelib_reading.proofs.lines.PrecTests.{pairs_differ}
use Rattle.minelib_reading.specs.encoded.EncodedKeys.{IsKeyLine}
use Rattle.minelib_reading.specs.encoded.EncodedModel.{AreHeaderLines, EncodesKey, IsHeaderLine}
use Rattle.minelib_text.proofs.LinesBack.{AreWritten, none_written, numbered, then_written}
use Rattle.minelib_text.proofs.PlainLines.{inner_field, only_field}
use Rattle.minelib_text.proofs.WrittenNumbers.{below_written, decimal_written, within_written}

-- a key, a colon and what is behind it are a line
key_is_line : (word rest : List ℕ) → IsField word → list_all is_inner rest ≡ true → IsLine (word ++ 58 ∷ rest)
key_is_line [] rest h inner = absurd (omega (arith, h.some))
key_is_line (c ∷ cs) rest h inner = record {
  inner = all_parts is_inner (c ∷ cs) (58 ∷ rest) (inner_field (c ∷ cs) h) inner;
  is_read = first_read c (cs ++ 58 ∷ rest) (and_parts (is_plain c) (list_all is_plain cs) h.bytes).0;
}

-- the line of a section's key
pub section_line : (word : List ℕ) → IsField word → IsLine (word ++ 58 ∷ []) × IsKeyLine word (word ++ 58 ∷ []) []
section_line word h = (
  key_is_line word [] h refl,
  record { before = word; following = []; cut = refl; key_alone = only_field word h; fields_are = refl },
)

pub word_field : (c : ℕ) (cs : List ℕ) → list_all is_plain (c ∷ cs) ≡ true → IsField (c ∷ cs)
word_field c cs h = record { some = omega arith; bytes = h }

name_byte : (c : ℕ) → is_name_byte c ≡ true → is_plain c ≡ true
name_byte c h = grind (arith, nat_tests)

name_field : (name : List ℕ) → is_name name ≡ true → IsField name
name_field name is =
    let parts = and_parts (nat_le 1 (length name) && nat_le (length name) 64) (list_all is_name_byte name) is in
    let sizes = and_parts (nat_le 1 (length name)) (nat_le (length name) 64) parts.0 in
    record { some = omega (arith, leb-true 1 (length name) sizes.0); bytes = all_weaker is_name_byte is_plain name_byte name parts.1 }

-- a header of a file of n blocks, whose keys' values are in their ranges
pub record IsHeader (n : ℕ) (m : StatedHeader) : Type 0 where
  pub few : n ≤ 64000000
  pub name : is_name m.name ≡ true
  pub horizon : IsHorizon m.periods m.resources m.rate
  pub destinations : (1 ≤ m.destinations) × (m.destinations ≤ 8)

-- the text that is written of each key's value spells it
rate_small : (rate : ℤ) → (pos 0 ≤ℤ rate) × (rate ≤ℤ pos (10 ^ 6)) → IsInDecimalRange rate
rate_small (pos k) within = omega (arith, ints, within.1)
rate_small (negsuc k) within = absurd (omega (arith, ints, within.0))

key_encodes : (p : Problem) (n : ℕ) (m : StatedHeader) → IsHeader n m → (k : HeaderKey) → EncodesKey p n m k (key_text (type_text p) n m k)
key_encodes p n m is key.Name = (refl, is.name)
key_encodes p n m is key.Type = refl
key_encodes p n m is key.Blocks = below_written (MAX_BLOCKS + 1) n (omega (arith, is.few)) (omega arith)
key_encodes p n m is key.Periods =
    within_written 1 MAX_PERIODS m.periods is.horizon.periods_1_to_100.0 is.horizon.periods_1_to_100.1 (omega arith)
key_encodes p n m is key.Destinations = within_written 1 MAX_DESTINATIONS m.destinations is.destinations.0 is.destinations.1 (omega arith)
key_encodes p n m is key.Resources = below_written (MAX_RESOURCES + 1) m.resources (omega (arith, is.horizon.at_most_8_resources)) (omega arith)
key_encodes p n m is key.General = below_written 1 0 (omega arith) (omega arith)
key_encodes p n m is key.Rate =
    (decimal_written m.rate (rate_small m.rate is.horizon.rate_0_to_1), is.horizon.rate_0_to_1.0, is.horizon.rate_0_to_1.1)

-- and is a field
type_field : (p : Problem) → IsField (type_text p)
type_field Pcpsp = word_field _ _ refl
type_field Cpit = word_field _ _ refl

value_field : (p : Problem) (n : ℕ) (m : StatedHeader) → IsHeader n m → (k : HeaderKey) → IsField (key_text (type_text p) n m k)
value_field p n m is key.Name = name_field m.name is.name
value_field p n m is key.Type = type_field p
value_field p n m is key.Blocks = number_field 0 _ _ (key_encodes p n m is key.Blocks).0
value_field p n m is key.Periods = number_field 0 _ _ (key_encodes p n m is key.Periods).0
value_field p n m is key.Destinations = number_field 0 _ _ (key_encodes p n m is key.Destinations).0
value_field p n m is key.Resources = number_field 0 _ _ (key_encodes p n m is key.Resources).0
value_field p n m is key.General = number_field 0 _ _ (key_encodes p n m is key.General).0
value_field p n m is key.Rate = number_field 6 _ _ (key_encodes p n m is key.Rate).0

key_field : (k : HeaderKey) → IsField (key_word k)
key_field key.Name = word_field _ _ refl
key_field k = word_field _ _ refl

-- the line of a key spells its value
pub header_line : (p : Problem) (n : ℕ) (m : StatedHeader) → IsHeader n m → (k : HeaderKey) → has_key p k ≡ true
    → IsLine (key_line k (key_text (type_text p) n m k)) × IsHeaderLine p n m (key_line k (key_text (type_text p) n m k)) k
header_line p n m is k has =
    let text = key_text (type_text p) n m k in
    let is_value = value_field p n m is k in
    let line : (key_word k ++ 58 ∷ []) ++ 32 ∷ text ≡ key_word k ++ 58 ∷ 32 ∷ text = append_assoc (key_word k) (58 ∷ []) (32 ∷ text) in (
      subst IsLine (sym line) (key_is_line (key_word k) (32 ∷ text) (key_field k) (inner_field text is_value)),
      record {
        value = text;
        is_key = record {
          before = key_word k;
          following = 32 ∷ text;
          cut = line;
          key_alone = only_field (key_word k) (key_field k);
          fields_are = only_field text is_value;
        };
        of_problem = has;
        says = key_encodes p n m is k;
      },
    )

abbrev pub EncodesHeader : Problem → ℕ → StatedHeader → ℕ → List ℕ → HeaderKey → Type 0
EncodesHeader p n m = λ _ line k. IsHeaderLine p n m line k

keys_written : (p : Problem) (n : ℕ) (m : StatedHeader) → IsHeader n m → (i : ℕ) (keys : List HeaderKey) → All (λ k. has_key p k ≡ true) keys
    → AreWritten (EncodesHeader p n m) i (key_lines (key_text (type_text p) n m) keys) keys
keys_written p n m is i [] has = none_written (EncodesHeader p n m) i
keys_written p n m is i (k ∷ keys) has =
    then_written (EncodesHeader p n m) i _ _ k keys (header_line p n m is k (All-head (λ k. has_key p k ≡ true) k keys has))
    (keys_written p n m is (i + 1) keys (All-tail (λ k. has_key p k ≡ true) k keys has))

-- no key stands twice among all, and each that a problem has stands among its own
keys_differ : AllPairs (λ k j. k ≢ j) header_keys
keys_differ i j d less within same =
    pairs_differ (map place header_keys) refl i j (place d) less within
    (get_or-map place header_keys i d (place d) (omega (arith, less, within)) ∙ ap (λ k. place k) same
    ∙ sym (get_or-map place header_keys j d (place d) within))

still_there : (passes : HeaderKey → Bool) (keys : List HeaderKey) (k : HeaderKey) → passes k ≡ true → Contains keys k
    → Contains (filter passes keys) k
still_there passes [] k has c = absurd (omega (arith, c.1))
still_there passes (j ∷ keys) k has c = by (still_there passes keys k has) (passes j) refl (contains_cases j keys k c.0 c.1 c.2)
  where
    by : (Contains keys k → Contains (filter passes keys) k) → (t : Bool) → passes j ≡ t → (j ≡ k) ⊎ Contains keys k
        → Contains (if t then j ∷ filter passes keys else filter passes keys) k
    by later true is (inl same) = (0, omega arith, same)
    by later true is (inr there) = Contains-append_right (j ∷ []) (filter passes keys) k (later there)
    by later false is (inl same) = let never : passes j ≡ true = ap passes same ∙ has in absurd cc
    by later false is (inr there) = later there

key_stands : (p : Problem) (k : HeaderKey) → has_key p k ≡ true → Contains (keys_of p) k
key_stands p k has = still_there (has_key p) header_keys k has (each_key k)

pub header_lines : (p : Problem) (n : ℕ) (m : StatedHeader) → IsHeader n m
    → All IsLine (key_lines (key_text (type_text p) n m) (keys_of p))
    × ((number : ℕ) → AreHeaderLines p n (numbered number (key_lines (key_text (type_text p) n m) (keys_of p))) m)
header_lines p n m is =
    let w = keys_written p n m is 0 (keys_of p) (filter_passes (has_key p) header_keys) in (
      w.each,
      λ number. record {
        keys = keys_of p;
        encoded = w.encoded number;
        once = AllPairs-filter (λ k j. k ≢ j) (has_key p) header_keys keys_differ;
        all = key_stands p;
      },
    )
