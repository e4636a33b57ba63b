-- The lines of a list, one for each item.
use Rattle.std.proofs.Common.{◌≡◌, ℕ, suc, zero, ◌+◌, ◌<◌, List, [], ◌∷◌, ◌++◌, length, map, take, drop, append-nil, get_or, refl, ◌∙◌, ap, sym, arith}
use Rattle.std.proofs.lemmas.List.{get_or-map, length-map}
use Rattle.std.proofs.Math.Seq.{drop-cons}
use Rattle.std.specs.List.{concat, flat_map}
use Rattle.std.specs.Prelude.{codes}
use Rattle.minelib_lines.specs.HeaderKeys.{key_word}
use Rattle.minelib_lines.specs.HeaderTable.{key_line, key_lines}
use Rattle.minelib_lines.specs.Lines.{line_of, lines_from, text_of}
use Rattle.minelib_lines.specs.declared.header_key.HeaderKey.{HeaderKey}
use Rattle.minelib_writing.specs.inner.Parts.{line_parts}

pub length-lines_from : {A : Type 0} (fields : ℕ → A → List (List ℕ)) (n : ℕ) (xs : List A) → length (lines_from fields n xs) ≡ length xs
length-lines_from fields n [] = refl
length-lines_from fields n (x ∷ xs) = ap suc (length-lines_from fields (n + 1) xs)

-- the line at a position is the line of the item there
pub get_or-lines_from : {A : Type 0} (fields : ℕ → A → List (List ℕ)) (n i j : ℕ) (xs : List A) (d : A) → i < length xs → n + i ≡ j
    → get_or (lines_from fields n xs) i [] ≡ line_of (fields j (get_or xs i d))
get_or-lines_from fields n i j [] d h e = absurd (omega arith)
get_or-lines_from fields n zero j (x ∷ xs) d h e = ap (λ k. line_of (fields k x)) (omega arith)
get_or-lines_from fields n (suc i) j (x ∷ xs) d h e = get_or-lines_from fields (n + 1) i j xs d (omega arith) (omega arith)

-- the line of the item at a position
pub line_at : {A : Type 0} (fields : ℕ → A → List (List ℕ)) (i : ℕ) (xs : List A) (x : A) → i < length xs → x ≡ get_or xs i x
    → get_or (lines_from fields 0 xs) i [] ≡ line_of (fields i x)
line_at fields i xs x h e = get_or-lines_from fields 0 i i xs x h (omega arith) ∙ ap (λ y. line_of (fields i y)) (sym e)

-- and its text
pub text_at : (lines : List (List ℕ)) (i : ℕ) → i < length lines → text_of (take 1 (drop i lines)) ≡ get_or lines i [] ++ 10 ∷ []
text_at lines i h = ap (λ rest. text_of (take 1 rest)) (drop-cons lines i [] h) ∙ append-nil (get_or lines i [] ++ 10 ∷ [])

-- the part at a position is a single part
pub part_at : (parts : List (List ℕ)) (i : ℕ) → i < length parts → concat (take 1 (drop i parts)) ≡ get_or parts i []
part_at parts i h = ap (λ rest. concat (take 1 rest)) (drop-cons parts i [] h) ∙ append-nil (get_or parts i [])

-- a part for each item
pub line_parts_count : {A : Type 0} (fields : ℕ → A → List (List ℕ)) (xs : List A)
    → length (line_parts (lines_from fields 0 xs)) ≡ length xs
line_parts_count fields xs = length-map (lines_from fields 0 xs) (λ line. line ++ 10 ∷ []) ∙ length-lines_from fields 0 xs

-- the part of the item at a position
pub line_part : {A : Type 0} (fields : ℕ → A → List (List ℕ)) (i : ℕ) (xs : List A) (x : A) → i < length xs → x ≡ get_or xs i x
    → concat (take 1 (drop i (line_parts (lines_from fields 0 xs)))) ≡ line_of (fields i x) ++ 10 ∷ []
line_part fields i xs x h e =
    let lines = lines_from fields 0 xs in
    part_at (line_parts lines) i (omega (arith, h, line_parts_count fields xs))
    ∙ get_or-map (λ line. line ++ 10 ∷ []) lines i [] [] (omega (arith, h, length-lines_from fields 0 xs))
    ∙ ap (λ line. line ++ 10 ∷ []) (line_at fields i xs x h e)

-- a field, and then a field for each item
pub line_of-map : {A : Type 0} (first : List ℕ) (field : A → List ℕ) (xs : List A)
    → line_of (first ∷ map field xs) ≡ first ++ flat_map (λ x. 32 ∷ field x) xs
line_of-map first field [] = sym (append-nil first)
line_of-map first field (x ∷ xs) = ap (λ rest. first ++ 32 ∷ rest) (line_of-map (field x) field xs)

texts_of : {A : Type 0} (fields : A → List (List ℕ)) (text : A → List ℕ) → ((x : A) → line_of (fields x) ++ 10 ∷ [] ≡ text x)
    → (xs : List A) → text_of (map (λ x. line_of (fields x)) xs) ≡ flat_map text xs
texts_of fields text each [] = refl
texts_of fields text each (x ∷ xs) = rw (each x, texts_of fields text each xs) refl

-- the lines of keys are the texts of the keys
pub key_texts : (text : HeaderKey → List ℕ) (keys : List HeaderKey)
    → text_of (key_lines text keys) ≡ flat_map (λ k. key_line k (text k) ++ 10 ∷ []) keys
key_texts text keys = texts_of (λ k. (key_word k ++ codes ":") ∷ text k ∷ []) (λ k. key_line k (text k) ++ 10 ∷ []) (λ k. refl) keys
