-- The kinds of a model file's lines: a header key, a section's key, or an item; and how the code reads key lines.
use Rattle.std.specs.Prelude.{Bool, Err, List, None, Ok, Option, Result, if◌then◌else◌, not, ℕ, ◌==◌}
use Rattle.std.proofs.Common.{Some, [], ap, arith, false, length, refl, true, ◌∙◌, ◌∷◌, ◌≡◌}
use Rattle.std.proofs.lemmas.Bool.{ne_eqb}
use Rattle.std.specs.List.{after_first, before_first, list_any}
use Rattle.pit_units.specs.Steps.{◌>>=◌}
use Rattle.text_lines.specs.StatedFields.{field_at}
use Rattle.text_lines.specs.TextLines.{fields_of}
use Rattle.text_lines.specs.declared.text_fault.TextKind.{TextKind}
use Rattle.text_lines.specs.declared.text_fault.TextKind.TheVariants.{Fields, Key, Missing, Twice}
use Rattle.minelib_lines.specs.HeaderKeys.{has_key, key_word}
use Rattle.minelib_lines.specs.declared.header_key.HeaderKey.{HeaderKey}
use Rattle.minelib_reading.proofs.keys.KeyLines.{key_found, key_line}
use Rattle.minelib_reading.specs.HeaderNumbers.{is_given, with_key}
use Rattle.minelib_reading.specs.ModelDraft.{ModelDraftView, is_heading, is_next, is_ready, name_with}
use Rattle.minelib_reading.specs.ModelKeys.{is_colon, key_of, number_stated, section_text}
use Rattle.minelib_reading.specs.ModelText.{item_stated, key_stated, keyed_stated, line_stated, section_stated}
use Rattle.minelib_reading.specs.declared.model.key.ModelKey.{ModelKey}
use Rattle.minelib_reading.specs.declared.model.key.ModelKey.TheVariants as model_key
use Rattle.minelib_reading.specs.declared.model.key.Section.{Section}
use Rattle.minelib_reading.specs.declared.model.key.Section.TheVariants.{Coefs, Heading, Limits, Objective}
use Rattle.minelib_reading.specs.inner.ModelParts.{only_value}
use Rattle.minelib_reading.specs.encoded.EncodedKeys.{IsKeyLine}

pub each_line : (P : Result ModelDraftView TextKind → Type 0) (d : ModelDraftView) (line : List ℕ) → P (Err Key)
    → ((k : HeaderKey) (fields : List (List ℕ)) → IsKeyLine (key_word k) line fields → has_key d.problem k ≡ true → P (key_stated d k fields))
    → ((section : Section) (fields : List (List ℕ)) → IsKeyLine (section_text section) line fields → P (section_stated d section fields))
    → (d.section ≡ Objective → P (item_stated d Objective (fields_of line)))
    → (d.section ≡ Coefs → P (item_stated d Coefs (fields_of line)))
    → (d.section ≡ Limits → P (item_stated d Limits (fields_of line)))
    → P (line_stated d line)
unfolding line_stated
each_line P d line stray header section values coef limit = by (list_any is_colon line) refl
  where
    prefix : List (List ℕ)
    prefix = fields_of (before_first is_colon line)

    fields : List (List ℕ)
    fields = fields_of (after_first is_colon line)

    cut : (word : List ℕ) → list_any is_colon line ≡ true → prefix ≡ word ∷ [] → IsKeyLine word line fields
    cut word colon alone = key_line word line fields (record { colon = colon; key_is = alone; fields_are = refl })

    keyed : (found : Option ModelKey) → list_any is_colon line ≡ true → key_of d.problem prefix ≡ found → P (keyed_stated d found fields)
    keyed None colon e = stray
    keyed (Some (model_key.Header k)) colon e =
        let found = key_found d.problem prefix (model_key.Header k) e in
        header k fields (cut (key_word k) colon (found.alone ∙ ap (λ word. word ∷ []) found.is.0)) found.is.1
    keyed (Some (model_key.Section s)) colon e =
        let found = key_found d.problem prefix (model_key.Section s) e in
        section s fields (cut (section_text s) colon (found.alone ∙ ap (λ word. word ∷ []) found.is))

    item : (s : Section) → d.section ≡ s → P (item_stated d s (fields_of line))
    item Heading here = stray
    item Objective here = values here
    item Coefs here = coef here
    item Limits here = limit here

    by : (t : Bool) → list_any is_colon line ≡ t
        → P (if t then keyed_stated d (key_of d.problem prefix) fields else item_stated d d.section (fields_of line))
    by true colon = keyed (key_of d.problem prefix) colon refl
    by false none = item d.section refl

-- the code reads the only value, and counts no fields
pub key_taken : (d : ModelDraftView) (k : HeaderKey) (fields : List (List ℕ))
    → key_stated d k fields
    ≡ (if not (is_heading d.section) then Err Key
    else (if is_given k d.header then Err Twice
    else (only_value fields >>= λ value. number_stated d.problem d.blocks k value
    >>= λ number. Ok (record d { header = with_key d.header k number; name = name_with k value d.name }))))
unfolding key_stated
key_taken d k fields = tests (is_heading d.section) (is_given k d.header)
  where
    after : List ℕ → ℕ → Result ModelDraftView TextKind
    after value number = Ok (record d { header = with_key d.header k number; name = name_with k value d.name })

    one : (fields : List (List ℕ))
        → (if not (length fields == 1) then Err Fields
        else (number_stated d.problem d.blocks k (field_at fields 0) >>= after (field_at fields 0)))
        ≡ (only_value fields >>= λ value. number_stated d.problem d.blocks k value >>= after value)
    one [] = refl
    one (value ∷ []) = refl
    one (value ∷ other ∷ more) =
        let many : (length (value ∷ other ∷ more) == 1) ≡ false = ne_eqb (length (value ∷ other ∷ more)) 1 (λ e. omega (arith, e)) in
        rw many refl

    tests : (heading given : Bool)
        → (if not heading then Err Key else (if given then Err Twice else (if not (length fields == 1) then Err Fields
        else (number_stated d.problem d.blocks k (field_at fields 0) >>= after (field_at fields 0)))))
        ≡ (if not heading then Err Key else (if given then Err Twice
        else (only_value fields >>= λ value. number_stated d.problem d.blocks k value >>= after value)))
    tests true false = one fields
    tests true true = refl
    tests false given = refl

pub section_taken : (d : ModelDraftView) (section : Section) (fields : List (List ℕ))
    → section_stated d section fields
    ≡ (if not (is_next d.section section) then Err Key
    else (if not (length fields == 0) then Err Fields
    else (if not (is_ready d d.section) then Err Missing
    else Ok (record d { section = section }))))
unfolding section_stated
section_taken d section fields = refl
