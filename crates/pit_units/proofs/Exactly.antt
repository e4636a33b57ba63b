-- Results of steps in both directions: one term for each line.
use Rattle.std.specs.Prelude.{◌≡◌, ℕ, ◌==◌, not, Bool, true, false, List, [], ◌∷◌, Result, Ok, Err, if◌then◌else◌}
use Rattle.std.specs.List.{AllZip}
use Rattle.std.proofs.Common.{refl, sym, ◌∙◌, ap, subst, eqb-true}
use Rattle.std.proofs.lemmas.Bool.{eq-eqb, not-false}
use Rattle.pit_units.specs.Steps.{◌>>=◌, each_of}

-- a result has the property, and every value with the property is the result
pub record Exactly {A F : Type 0} (r : Result A F) (P : A → Type 0) : Type 0 where
  pub reported : (y : A) → r ≡ Ok y → P y
  pub back : (y : A) → P y → r ≡ Ok y

pub same : {A F : Type 0} (x y : A) → ◌≡◌ {A = Result A F} (Ok x) (Ok y) → x ≡ y
same x y e = cc

pub done : {A F : Type 0} (x : A) → Exactly {A = A} {F = F} (Ok x) (λ y. y ≡ x)
done x = record { reported = λ y e. sym (same x y e); back = λ y e. ap Ok (sym e) }

-- a step, and the step after it
pub then_ : {A B F : Type 0} {r : Result A F} {next : A → Result B F} {P : A → Type 0} {Q : A → B → Type 0} → Exactly r P
    → ((x : A) → Exactly (next x) (Q x)) → Exactly (r >>= next) (λ y. (x : A) × P x × Q x y)
then_ {A} {B} {F} {r} {next} {P} {Q} first following = record { reported = λ y e. reported r refl y e; back = back }
  where
    reported : (s : Result A F) → r ≡ s → (y : B) → (s >>= next) ≡ Ok y → (x : A) × P x × Q x y
    reported (Ok x) is y e = (x, first.reported x is, (following x).reported y e)
    reported (Err fault) is y e = absurd cc

    back : (y : B) → (x : A) × P x × Q x y → (r >>= next) ≡ Ok y
    back y h = ap (λ s. s >>= next) (first.back h.0 h.1) ∙ (following h.0).back y h.2

-- a test before a step: it passes exactly if a condition holds
pub tested : {A F : Type 0} {r : Result A F} {P : A → Type 0} {t : Bool} {T : Type 0} (fault : F) → (t ≡ false → T) → (T → t ≡ false)
    → Exactly r P → Exactly (if t then Err fault else r) (λ y. T × P y)
tested {A} {F} {r} {P} {t} {T} fault to from all = record {
  reported = λ y e. reported t refl y e;
  back = λ y h. rw (from h.0) (all.back y h.1);
}
  where
    reported : (b : Bool) → t ≡ b → (y : A) → (if b then Err fault else r) ≡ Ok y → T × P y
    reported true is y e = absurd cc
    reported false is y e = (to is, all.reported y e)

-- a test that must pass
pub holds : {A F : Type 0} {r : Result A F} {P : A → Type 0} {t : Bool} (fault : F) → Exactly r P
    → Exactly (if t then r else Err fault) (λ y. (t ≡ true) × P y)
holds {A} {F} {r} {P} {t} fault all = record { reported = λ y e. reported t refl y e; back = λ y h. rw h.0 (all.back y h.1) }
  where
    reported : (b : Bool) → t ≡ b → (y : A) → (if b then r else Err fault) ≡ Ok y → (t ≡ true) × P y
    reported true is y e = (is, all.reported y e)
    reported false is y e = absurd cc

-- equal numbers of cells
pub counted : {A F : Type 0} {r : Result A F} {P : A → Type 0} (fault : F) (n m : ℕ) → Exactly r P
    → Exactly (if not (n == m) then Err fault else r) (λ y. (n ≡ m) × P y)
counted fault n m all = tested fault (λ e. eqb-true n m (not-false (n == m) e)) (λ e. rw (eq-eqb n m e) refl) all

-- a function of a result
pub made : {A B F : Type 0} {r : Result A F} {P : A → Type 0} {Q : B → Type 0} (f : A → B) → Exactly r P → ((x : A) → P x → Q (f x))
    → ((y : B) → Q y → (x : A) × P x × (f x ≡ y)) → Exactly (r >>= λ x. Ok (f x)) Q
made {A} {B} {F} {r} {P} {Q} f all to from = record {
  reported = λ y e. reported r refl y e;
  back = λ y h. let x = from y h in ap (λ s. s >>= λ x. Ok (f x)) (all.back x.0 x.1) ∙ ap Ok x.2;
}
  where
    reported : (s : Result A F) → r ≡ s → (y : B) → (s >>= λ x. Ok (f x)) ≡ Ok y → Q y
    reported (Ok x) is y e = subst Q (same (f x) y e) (to x (all.reported x is))
    reported (Err fault) is y e = absurd cc

-- an equivalent property
pub as_ : {A F : Type 0} {r : Result A F} {P Q : A → Type 0} → Exactly r P → ((y : A) → P y → Q y) → ((y : A) → Q y → P y) → Exactly r Q
as_ all to from = record { reported = λ y e. to y (all.reported y e); back = λ y h. all.back y (from y h) }

-- a step for each element
pub each : {A B F : Type 0} {step : A → Result B F} {P : A → B → Type 0} → ((x : A) → Exactly (step x) (P x))
    → (xs : List A) → Exactly (each_of step xs) (AllZip P xs)
each {A} {B} {F} {step} {P} one [] = record { reported = none; back = some }
  where
    none : (ys : List B) → ◌≡◌ {A = Result (List B) F} (Ok []) (Ok ys) → AllZip P [] ys
    none [] e = tt
    none (y ∷ ys) e = absurd cc

    some : (ys : List B) → AllZip P [] ys → ◌≡◌ {A = Result (List B) F} (Ok []) (Ok ys)
    some [] h = refl
    some (y ∷ ys) h = absurd h
each {A} {B} {F} {step} {P} one (x ∷ xs) = as_ (steps (each one xs)) to from
  where
    Steps : List B → Type 0
    Steps all = (y : B) × P x y × ((ys : List B) × AllZip P xs ys × (all ≡ y ∷ ys))

    steps : Exactly (each_of step xs) (AllZip P xs) → Exactly (each_of step (x ∷ xs)) Steps
    steps all = then_ (one x) (λ y. then_ all (λ ys. done (y ∷ ys)))

    to : (all : List B) → Steps all → AllZip P (x ∷ xs) all
    to all (y, h, (ys, more, is)) = subst (AllZip P (x ∷ xs)) (sym is) (h, more)

    from : (all : List B) → AllZip P (x ∷ xs) all → Steps all
    from [] h = absurd h
    from (y ∷ ys) h = (y, h.0, (ys, h.1, refl))
