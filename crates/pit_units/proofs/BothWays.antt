-- If a stated result equals an encoded value, a call with that result returns exactly the encoded values.
use Rattle.std.proofs.Common.{◌≡◌, Result, Ok, Err, refl, sym, ◌∙◌}
use Rattle.std.specs.Prelude.{IfOk, MatchResult}
use Rattle.pit_units.specs.OrMemory.{Gives}
use Rattle.pit_units.specs.declared.or_memory.OrMemory.{OrMemory}
use Rattle.pit_units.specs.declared.or_memory.OrMemory.TheVariants.{Fault, OutOfMemory}

-- a value that is read is encoded so
pub found_of : {A F : Type 0} (Encodes : A → Type 0) (result : Result A (OrMemory F)) (stated : Result A F)
    → ((x : A) → stated ≡ Ok x → Encodes x) → Gives (λ x. x) result stated → IfOk result Encodes
found_of Encodes (Ok x) stated encoded gives = encoded x gives
found_of Encodes (Err (Fault fault)) stated encoded gives = tt
found_of Encodes (Err OutOfMemory) stated encoded gives = tt

-- a value that is encoded so is read, unless memory is refused
pub only_of : {A F : Type 0} (x : A) (result : Result A (OrMemory F)) (stated : Result A F) → stated ≡ Ok x → Gives (λ x. x) result stated
    → MatchResult result (λ y. y ≡ x) (λ error. error ≡ OutOfMemory)
only_of x (Ok y) stated is gives = let same : Ok y ≡ Ok x = sym gives ∙ is in cc
only_of x (Err (Fault fault)) stated is gives = let clash : Err fault ≡ Ok x = sym gives ∙ is in absurd cc
only_of x (Err OutOfMemory) stated is gives = refl
