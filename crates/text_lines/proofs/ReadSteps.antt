-- The consequences of a step of reading without an error.
use Rattle.std.specs.Prelude.{◌≡◌, Bool, true, false, Result, Ok, Err, if◌then◌else◌}
use Rattle.std.proofs.Common.{refl}
use Rattle.pit_units.specs.Steps.{◌>>=◌}
use Rattle.text_lines.specs.Reading.{in_file}
use Rattle.text_lines.specs.declared.text_fault.LineFault.{LineFault}
use Rattle.text_lines.specs.declared.text_fault.TextFile.{TextFile}

-- a step after another; the part has both values as arguments, because a `let` would copy them to each use
pub bind_ok : {A B F : Type 0} (r : Result A F) (next : A → Result B F) (y : B) → (r >>= next) ≡ Ok y → (x : A) × (r ≡ Ok x)
    × (next x ≡ Ok y)
bind_ok (Ok x) next y e = (x, refl, e)
bind_ok (Err fault) next y e = absurd cc

pub bind_then : {A B F P : Type 0} (r : Result A F) (next : A → Result B F) (y : B) → (r >>= next) ≡ Ok y
    → ((x : A) → r ≡ Ok x → next x ≡ Ok y → P) → P
bind_then r next y e part = let b = bind_ok r next y e in part b.0 b.1 b.2

-- a step after a test that must pass
pub then_ok : {A F : Type 0} (t : Bool) (fault : F) (r : Result A F) (y : A) → (if t then r else Err fault) ≡ Ok y → (t ≡ true) × (r ≡ Ok y)
then_ok true fault r y e = (refl, e)
then_ok false fault r y e = absurd cc

pub then_err : {A F : Type 0} (t : Bool) (fault other : F) (x : A) → (if t then Ok x else Err fault) ≡ Err other → (t ≡ false)
    × (fault ≡ other)
then_err true fault other x e = absurd cc
then_err false fault other x e = (refl, cc)

pub same_ok : {A F : Type 0} (x y : A) → ◌≡◌ {A = Result A F} (Ok x) (Ok y) → x ≡ y
same_ok x y e = cc

pub err_same : {B : Type 0} (f g : LineFault) → ◌≡◌ {A = Result B LineFault} (Err f) (Err g) → f ≡ g
err_same f g e = cc

pub in_file_ok : {A : Type 0} (file : TextFile) (r : Result A LineFault) (x : A) → in_file file r ≡ Ok x → r ≡ Ok x
in_file_ok file (Ok y) x e = cc
in_file_ok file (Err fault) x e = absurd cc
