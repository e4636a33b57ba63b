-- The bytes that a file holds after writes that did not happen, and one that did.
use Rattle.std.proofs.Common.{ℕ, List, ◌++◌, take, Option, Some, None, ◌∙◌, ap, append-nil}
use Rattle.std.specs.Io.KnownBytes.{Keeps, Appends}
use Rattle.std.proofs.KnownBytes.{Keeps-refl, Keeps-trans}

-- bytes appended to unchanged ones
pub appends_after : (a b c : Option (List ℕ)) (bs : List ℕ) → Keeps a b → Appends b c bs → Appends a c bs
appends_after None b c bs kept appended = tt
appends_after (Some x) None c bs kept appended = absurd kept
appends_after (Some x) (Some y) None bs kept appended = absurd appended
appends_after (Some x) (Some y) (Some z) bs kept appended = appended ∙ ap (λ l. l ++ bs) kept

-- no bytes are appended
pub keeps_after_none : (a b c : Option (List ℕ)) (bs : List ℕ) → Keeps a b → Appends b c (take 0 bs) → Keeps a c
keeps_after_none None b c bs kept appended = tt
keeps_after_none (Some x) None c bs kept appended = absurd kept
keeps_after_none (Some x) (Some y) None bs kept appended = absurd appended
keeps_after_none (Some x) (Some y) (Some z) bs kept appended = appended ∙ append-nil y ∙ kept

pub keeps_self : (a : Option (List ℕ)) → Keeps a a
keeps_self a = Keeps-refl a

pub keeps_after : (a b c : Option (List ℕ)) → Keeps a b → Keeps b c → Keeps a c
keeps_after a b c = Keeps-trans a b c
