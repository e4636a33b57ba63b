-- Steps fail exactly if the step that finds the error is reached and finds it.
use Rattle.std.specs.Prelude.{◌≡◌, ◌≢◌, Bool, true, false, Result, Ok, Err, if◌then◌else◌}
use Rattle.std.proofs.Common.{refl, ◌∙◌, ap}
use Rattle.pit_units.specs.Steps.{◌>>=◌}
use Rattle.pit_units.proofs.Exactly.{Exactly}

pub record Fails {A F : Type 0} (r : Result A F) (fault : F) (Q : Type 0) : Type 0 where
  pub reported : r ≡ Err fault → Q
  pub back : Q → r ≡ Err fault

pub other_fault : {A F : Type 0} (f g : F) → ◌≡◌ {A = Result A F} (Err f) (Err g) → f ≡ g
other_fault f g e = cc

-- a step that never has this error
pub fails_then : {A B F : Type 0} {r : Result A F} {next : A → Result B F} {P : A → Type 0} {Q : A → Type 0} (fault : F) → Exactly r P
    → r ≢ Err fault → ((x : A) → Fails (next x) fault (Q x)) → Fails (r >>= next) fault ((x : A) × P x × Q x)
fails_then {A} {B} {F} {r} {next} {P} {Q} fault first never following = record { reported = reported r refl; back = back }
  where
    reported : (s : Result A F) → r ≡ s → (s >>= next) ≡ Err fault → (x : A) × P x × Q x
    reported (Ok x) is e = (x, first.reported x is, (following x).reported e)
    reported (Err other) is e = absurd (never (is ∙ ap Err (other_fault other fault e)))

    back : (x : A) × P x × Q x → (r >>= next) ≡ Err fault
    back h = ap (λ s. s >>= next) (first.back h.0 h.1) ∙ (following h.0).back h.2

-- after a test for another error
pub fails_after : {A F : Type 0} {r : Result A F} {fault : F} {Q T : Type 0} {t : Bool} (other : F) → other ≢ fault → (t ≡ false → T)
    → (T → t ≡ false) → Fails r fault Q → Fails (if t then Err other else r) fault (T × Q)
fails_after {A} {F} {r} {fault} {Q} {T} {t} other differs to from all =
    record { reported = reported t refl; back = λ h. rw (from h.0) (all.back h.1) }
  where
    reported : (b : Bool) → t ≡ b → (if b then Err other else r) ≡ Err fault → T × Q
    reported true is e = absurd (differs (other_fault other fault e))
    reported false is e = (to is, all.reported e)

-- the test that finds the error
pub fails_here : {A F : Type 0} {T : Type 0} {t : Bool} (r : Result A F) (fault : F) → (t ≡ true → T) → (T → t ≡ true) → r ≢ Err fault
    → Fails (if t then Err fault else r) fault T
fails_here {A} {F} {T} {t} r fault to from never = record { reported = reported t refl; back = λ h. rw (from h) refl }
  where
    reported : (b : Bool) → t ≡ b → (if b then Err fault else r) ≡ Err fault → T
    reported true is e = to is
    reported false is e = absurd (never e)
