-- Files that are opened one after the other.
use Rattle.std.proofs.Common.{◌≡◌, ◌∙◌, ◌<◌, ℕ, List, [], ◌∷◌, ◌++◌, Option, get_or, length, refl, sym, ap, append_assoc, append-nil, arith}
use Rattle.devices.specs.files.Opening.{Opening, Opened, all_opened}

none_opened : (paths : List (List ℕ)) → all_opened paths [] ≡ []
none_opened [] = refl
none_opened (path ∷ paths) = refl

-- before any file was tried
pub opened_first : (paths : List (List ℕ)) (old : List Opening) → old ≡ old ++ all_opened paths []
opened_first paths old = sym (append-nil old) ∙ ap (λ l. old ++ l) (sym (none_opened paths))

-- another file
one_more : (paths : List (List ℕ)) (remainders : List (Option (List ℕ))) (path : List ℕ) (remaining : Option (List ℕ))
    → length remainders < length paths → path ≡ get_or paths (length remainders) path
    → all_opened paths (remainders ++ remaining ∷ []) ≡ all_opened paths remainders ++ Opened path remaining ∷ []
one_more [] remainders path remaining few is = absurd (omega (arith, few))
one_more (p ∷ paths) [] path remaining few is = ap (λ q. Opened q remaining ∷ all_opened paths []) (sym is) ∙ ap (λ rest. Opened path remaining ∷ rest) (none_opened paths)
one_more (p ∷ paths) (l ∷ remainders) path remaining few is = ap (λ rest. Opened p l ∷ rest) (one_more paths remainders path remaining (omega (arith, few)) is)

pub opened_more : (paths : List (List ℕ)) (remainders : List (Option (List ℕ))) (path : List ℕ) (remaining : Option (List ℕ))
    (old now new : List Opening) → length remainders < length paths → path ≡ get_or paths (length remainders) path
    → now ≡ old ++ all_opened paths remainders → new ≡ now ++ Opened path remaining ∷ [] → new ≡ old ++ all_opened paths (remainders ++ remaining ∷ [])
opened_more paths remainders path remaining old now new few is before more =
    more ∙ ap (λ l. l ++ Opened path remaining ∷ []) before ∙ append_assoc old (all_opened paths remainders) (Opened path remaining ∷ [])
    ∙ ap (λ l. old ++ l) (sym (one_more paths remainders path remaining few is))
