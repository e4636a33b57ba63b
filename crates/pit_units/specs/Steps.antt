-- Steps one after the other, up to the first error.
use Rattle.std.specs.Prelude.{List, [], ◌∷◌, Result, Ok, Err}

-- a step after a step without an error
infixl 10 ◌>>=◌
abbrev pub ◌>>=◌ : {A B F : Type 0} → Result A F → (A → Result B F) → Result B F
(Ok x) >>= next = next x
(Err fault) >>= next = Err fault

-- a step for each element, up to the first error
abbrev pub each_of : {A B F : Type 0} → (A → Result B F) → List A → Result (List B) F
each_of step [] = Ok []
each_of step (x ∷ xs) = step x >>= λ y. each_of step xs >>= λ ys. Ok (y ∷ ys)
