-- What is found for each element of a list, where something is found for each.
use Rattle.std.proofs.Common.{◌≡◌, ℕ, zero, suc, true, is_some, List, [], ◌∷◌, ◌<◌, length, get_or, Option, Some, None, refl, sym, ap, ◌∙◌, arith}
use Rattle.std.specs.List.{All, slice_get, filter_map, cons_option}
use Rattle.std.specs.Option.{option_and_then}
use Rattle.std.proofs.lemmas.Bool.{false≢true}
use Rattle.std.proofs.lemmas.List.Elements.{All-tail}
use Rattle.std.proofs.lemmas.Option.{slice_get_read}

abbrev IsFound : {A B : Type 0} → (A → Option B) → A → Type 0
IsFound f x = is_some (f x) ≡ true

length-lazy : {A B : Type 0} (f : A → Option B) (x : A) (found : Option B) (rest : List B) → is_some found ≡ true
    → length (cons_option found rest) ≡ suc (length rest)
length-lazy f x None rest is = absurd (false≢true is)
length-lazy f x (Some y) rest is = refl

pub all_found : {A B : Type 0} (f : A → Option B) (xs : List A) → All (IsFound f) xs → length (filter_map f xs) ≡ length xs
all_found f [] all = refl
all_found f (x ∷ xs) all =
    length-lazy f x (f x) (filter_map f xs) (all 0 x (omega arith))
    ∙ ap suc (all_found f xs (All-tail (IsFound f) x xs all))

first_found : {B : Type 0} (found : Option B) (rest : List B) → is_some found ≡ true → slice_get (cons_option found rest) zero ≡ found
first_found None rest is = absurd (false≢true is)
first_found (Some y) rest is = refl

later_found : {B : Type 0} (found : Option B) (rest : List B) (i : ℕ) → is_some found ≡ true
    → slice_get (cons_option found rest) (suc i) ≡ slice_get rest i
later_found None rest i is = absurd (false≢true is)
later_found (Some y) rest i is = refl

pub found_at : {A B : Type 0} (f : A → Option B) (xs : List A) (i : ℕ) → All (IsFound f) xs
    → slice_get (filter_map f xs) i ≡ option_and_then f (slice_get xs i)
found_at f [] i all = refl
found_at f (x ∷ xs) zero all = first_found (f x) (filter_map f xs) (all 0 x (omega arith))
found_at f (x ∷ xs) (suc i) all =
    later_found (f x) (filter_map f xs) i (all 0 x (omega arith)) ∙ found_at f xs i (All-tail (IsFound f) x xs all)

-- what is found for an element that is read
pub found_there : {A B : Type 0} (f : A → Option B) (xs : List A) (ys : List B) (i : ℕ) (x : A) → All (IsFound f) xs
    → filter_map f xs ≡ ys → i < length ys → x ≡ get_or xs i x → slice_get ys i ≡ f x
found_there f xs ys i x all is within read =
    let below : i < length xs = omega (arith, within, ap length is, all_found f xs all) in
    ap (λ zs. slice_get zs i) (sym is) ∙ found_at f xs i all ∙ ap (option_and_then f) (slice_get_read xs _ i x refl below read)

pub ruleset found = (all_found, found_at)
