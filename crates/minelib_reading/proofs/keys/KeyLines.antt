-- Key lines: cut at their first colon, and found by their keys.
use Rattle.std.specs.Prelude.{◌≡◌, ℕ, ◌+◌, ◌<◌, Bool, true, false, List, [], ◌∷◌, ◌++◌, length, drop, Option, Some, None, if◌then◌else◌, All}
use Rattle.std.specs.List.{list_any, before_first, after_first, find, position_or_len}
use Rattle.std.specs.Option.{option_map}
use Rattle.std.specs.Str.{bytes_eq}
use Rattle.std.proofs.Common.{refl, sym, ◌∙◌, ap, subst, arith}
use Rattle.std.proofs.lemmas.Bool.{eqb-true, or_parts, or_right}
use Rattle.std.proofs.lemmas.List.{take_at, drop_at, drop-drop}
use Rattle.std.proofs.lemmas.List.Elements.{All-head, All-tail, filter_passes}
use Rattle.std.proofs.lemmas.List.Sums.{passes_at_first, split_at_first}
use Rattle.std.proofs.lemmas.Slice.Eq.{bytes_eq-Decides}
use Rattle.text_lines.specs.TextLines.{fields_of}
use Rattle.minelib_lines.specs.declared.problem.Problem.{Problem}
use Rattle.minelib_lines.specs.declared.problem.Problem.TheVariants.{Pcpsp, Cpit}
use Rattle.minelib_reading.specs.ModelKeys.{header_or, is_colon, key_in, key_of, section_in, sections, section_text}
use Rattle.minelib_reading.specs.ModelDraft.{is_next}
use Rattle.minelib_lines.specs.HeaderKeys.{has_key, header_keys, key_word, keys_of}
use Rattle.minelib_reading.specs.encoded.EncodedKeys.{IsKeyLine}
use Rattle.minelib_lines.specs.declared.header_key.HeaderKey.{HeaderKey}
use Rattle.minelib_lines.specs.declared.header_key.HeaderKey.TheVariants as key
use Rattle.minelib_reading.specs.declared.model.key.ModelKey.{ModelKey}
use Rattle.minelib_reading.specs.declared.model.key.ModelKey.TheVariants as model_key
use Rattle.minelib_reading.specs.declared.model.key.Section.{Section}
use Rattle.minelib_reading.specs.declared.model.key.Section.TheVariants.{Heading, Objective, Coefs, Limits}
use Rattle.minelib_reading.proofs.keys.Keyless.{have_colon, keyless}

-- a line with a colon is cut at the first one
colon_inside : (line : List ℕ) → list_any is_colon line ≡ true → position_or_len is_colon line < length line
colon_inside [] some = absurd cc
colon_inside (b ∷ bytes) some = by (λ later. colon_inside bytes later) (is_colon b) refl some
  where
    by : (list_any is_colon bytes ≡ true → position_or_len is_colon bytes < length bytes) → (t : Bool) → is_colon b ≡ t
        → list_any is_colon (b ∷ bytes) ≡ true → position_or_len is_colon (b ∷ bytes) < length (b ∷ bytes)
    by deeper true e some = rw e (omega arith)
    by deeper false e some = let later = deeper (rw e at some) in rw e (omega (arith, later))

first_cut : (line : List ℕ) → list_any is_colon line ≡ true → line ≡ before_first is_colon line ++ 58 ∷ after_first is_colon line
first_cut line some =
    let inside = colon_inside line some in
    split_at_first is_colon line 58 inside
    ∙ ap (λ c. before_first is_colon line ++ c ∷ after_first is_colon line) (eqb-true _ 58 (passes_at_first is_colon line 58 inside))

-- the first colon follows bytes without a colon
colon_place : (prefix rest : List ℕ) → list_any is_colon prefix ≡ false → position_or_len is_colon (prefix ++ 58 ∷ rest) ≡ length prefix
colon_place [] rest none = refl
colon_place (c ∷ prefix) rest none =
    let parts = or_parts (is_colon c) (list_any is_colon prefix) none in
    rw (parts.0, colon_place prefix rest parts.1) (omega arith)

has_colon : (prefix rest : List ℕ) → list_any is_colon (prefix ++ 58 ∷ rest) ≡ true
has_colon [] rest = refl
has_colon (c ∷ prefix) rest = rw (has_colon prefix rest) (or_right (is_colon c) true refl)

after_front : (prefix rest : List ℕ) → drop (length prefix + 1) (prefix ++ 58 ∷ rest) ≡ rest
after_front prefix rest = sym (drop-drop 1 (length prefix) (prefix ++ 58 ∷ rest)) ∙ ap (drop 1) (drop_at prefix (58 ∷ rest) (length prefix) refl)

-- a line as the reader cuts it
pub record IsCutLine (key line : List ℕ) (fields : List (List ℕ)) : Type 0 where
  pub colon : list_any is_colon line ≡ true
  pub key_is : fields_of (before_first is_colon line) ≡ key ∷ []
  pub fields_are : fields_of (after_first is_colon line) ≡ fields

pub key_line : (key line : List ℕ) (fields : List (List ℕ)) → IsCutLine key line fields → IsKeyLine key line fields
key_line key line fields c = record {
  before = before_first is_colon line;
  following = after_first is_colon line;
  cut = first_cut line c.colon;
  key_alone = c.key_is;
  fields_are = c.fields_are;
}

pub cut_line : (key line : List ℕ) (fields : List (List ℕ)) → list_any is_colon key ≡ false → IsKeyLine key line fields
    → IsCutLine key line fields
cut_line key line fields none k = subst (λ line. IsCutLine key line fields) (sym k.cut) (record {
  colon = has_colon k.before k.following;
  key_is = ap fields_of prefix ∙ k.key_alone;
  fields_are = ap fields_of rest ∙ k.fields_are;
})
  where
    no_colon : list_any is_colon k.before ≡ false
    no_colon = keyless k.before (ap have_colon k.key_alone ∙ rw none refl)

    prefix : before_first is_colon (k.before ++ 58 ∷ k.following) ≡ k.before
    prefix = rw (colon_place k.before k.following no_colon) (take_at k.before (58 ∷ k.following) (length k.before) refl)

    rest : after_first is_colon (k.before ++ 58 ∷ k.following) ≡ k.following
    rest = rw (colon_place k.before k.following no_colon) (after_front k.before k.following)

-- a word is the key's own, in the files of the problem
abbrev pub IsKeyOf : Problem → List ℕ → ModelKey → Type 0
IsKeyOf problem word (model_key.Header k) = (word ≡ key_word k) × (has_key problem k ≡ true)
IsKeyOf problem word (model_key.Section section) = word ≡ section_text section

-- an item that is found passes the test, and has the property of all items
found_is : {A : Type 0} (passes : A → Bool) (Is : A → Type 0) (xs : List A) (x : A) → All Is xs → find passes xs ≡ Some x
    → (passes x ≡ true) × Is x
found_is passes Is [] x are e = absurd cc
found_is passes Is (y ∷ ys) x are e = by (found_is passes Is ys x (All-tail Is y ys are)) (passes y) refl e
  where
    by : (find passes ys ≡ Some x → (passes x ≡ true) × Is x) → (t : Bool) → passes y ≡ t → (if t then Some y else find passes ys) ≡ Some x
        → (passes x ≡ true) × Is x
    by later true is e =
        let same : y ≡ x = cc in subst (λ x. (passes x ≡ true) × Is x) same (is, All-head Is y ys are)
    by later false is e = later e

section_is : (problem : Problem) (word : List ℕ) (found : ModelKey) → section_in word ≡ Some found → IsKeyOf problem word found
section_is problem word found e = by (find (λ s. bytes_eq word (section_text s)) sections) refl e
  where
    by : (r : Option Section) → find (λ s. bytes_eq word (section_text s)) sections ≡ r → option_map model_key.Section r ≡ Some found
        → IsKeyOf problem word found
    by None is e = absurd cc
    by (Some section) is e =
        let same : model_key.Section section ≡ found = cc in
        let passes = found_is (λ s. bytes_eq word (section_text s)) (λ _. Unit {0}) sections section (λ i d inside. tt) is in
        subst (IsKeyOf problem word) same ((bytes_eq-Decides word (section_text section)).0 passes.0)

key_in_is : (problem : Problem) (word : List ℕ) (found : ModelKey) → key_in problem word ≡ Some found → IsKeyOf problem word found
key_in_is problem word found e = by (find (λ k. bytes_eq word (key_word k)) (keys_of problem)) refl e
  where
    by : (r : Option HeaderKey) → find (λ k. bytes_eq word (key_word k)) (keys_of problem) ≡ r → header_or r word ≡ Some found
        → IsKeyOf problem word found
    by None is e = section_is problem word found e
    by (Some k) is e =
        let same : model_key.Header k ≡ found = cc in
        let passes = found_is (λ k. bytes_eq word (key_word k)) (λ k. has_key problem k ≡ true) (keys_of problem) k
        (filter_passes (has_key problem) header_keys) is in
        subst (IsKeyOf problem word) same ((bytes_eq-Decides word (key_word k)).0 passes.0, passes.1)

-- the fields before a colon are one key
pub record IsFound (problem : Problem) (fields : List (List ℕ)) (found : ModelKey) : Type 0 where
  pub word : List ℕ
  pub alone : fields ≡ word ∷ []
  pub is : IsKeyOf problem word found

pub key_found : (problem : Problem) (fields : List (List ℕ)) (found : ModelKey) → key_of problem fields ≡ Some found
    → IsFound problem fields found
key_found problem [] found e = absurd cc
key_found problem (word ∷ []) found e = record { word = word; alone = refl; is = key_in_is problem word found e }
key_found problem (word ∷ other ∷ more) found e = absurd cc

-- a property of each section and the next
pub next_by : (P : Section → Section → Type 0) → P Heading Objective → P Objective Coefs → P Coefs Limits
    → (now next : Section) → is_next now next ≡ true → P now next
next_by P objective coefs limits Heading Objective e = objective
next_by P objective coefs limits Objective Coefs e = coefs
next_by P objective coefs limits Coefs Limits e = limits
next_by P objective coefs limits Limits Heading e = absurd cc
next_by P objective coefs limits now next e = absurd cc

-- and each key is found
pub header_found : (problem : Problem) (k : HeaderKey) → has_key problem k ≡ true → key_in problem (key_word k) ≡ Some (model_key.Header k)
header_found Pcpsp key.Name has = refl
header_found Pcpsp k has = refl
header_found Cpit key.Destinations has = absurd cc
header_found Cpit key.General has = absurd cc
header_found Cpit k has = refl

pub section_found : (problem : Problem) (now section : Section) → is_next now section ≡ true
    → key_in problem (section_text section) ≡ Some (model_key.Section section)
section_found Pcpsp now section next =
    next_by (λ _ s. key_in Pcpsp (section_text s) ≡ Some (model_key.Section s)) refl refl refl now section next
section_found Cpit now section next =
    next_by (λ _ s. key_in Cpit (section_text s) ≡ Some (model_key.Section s)) refl refl refl now section next

-- no key has a colon
pub header_plain : (k : HeaderKey) → list_any is_colon (key_word k) ≡ false
header_plain key.Name = refl
header_plain k = refl

pub section_plain : (section : Section) → list_any is_colon (section_text section) ≡ false
section_plain Heading = refl
section_plain section = refl
