-- The result of a call that may allocate memory.
use Rattle.std.specs.Prelude.{◌≡◌, Result, Ok, Err}
use Rattle.pit_units.specs.declared.or_memory.OrMemory.{OrMemory}
use Rattle.pit_units.specs.declared.or_memory.OrMemory.TheVariants.{Fault, OutOfMemory}

-- the call returns the stated value, as seen through `view`, or the stated error, unless memory was refused
abbrev pub Gives : {A B F : Type 0} → (A → B) → Result A (OrMemory F) → Result B F → Type 0
Gives view (Ok x) stated = stated ≡ Ok (view x)
Gives view (Err (Fault fault)) stated = stated ≡ Err fault
Gives view (Err OutOfMemory) stated = Unit {0}
