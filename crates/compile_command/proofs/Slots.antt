-- Slots that are made one after another.
use Rattle.std.proofs.Common.{◌≡◌, List, [], ◌∷◌, ◌++◌, sym, ◌∙◌, ap, append_assoc, append-nil}

-- another one, for the same path under another name
following : {A : Type 0} (l xs m n : List A) (x y : A) → m ≡ l ++ xs → x ≡ y → n ≡ m ++ x ∷ [] → n ≡ l ++ (xs ++ y ∷ [])
following l xs m n x y first same then =
    then ∙ ap (λ z. m ++ z ∷ []) same ∙ ap (λ k. k ++ y ∷ []) first ∙ append_assoc l xs (y ∷ [])

-- five of them
pub five_after : {A : Type 0} (l m1 m2 m3 m4 m5 : List A) (a b c d e p q r s t : A) → a ≡ p → b ≡ q → c ≡ r → d ≡ s → e ≡ t
    → m1 ≡ l ++ a ∷ [] → m2 ≡ m1 ++ b ∷ [] → m3 ≡ m2 ++ c ∷ [] → m4 ≡ m3 ++ d ∷ [] → m5 ≡ m4 ++ e ∷ []
    → m5 ≡ l ++ p ∷ q ∷ r ∷ s ∷ t ∷ []
five_after l m1 m2 m3 m4 m5 a b c d e p q r s t ep eq er es et one two three four five =
    let first : m1 ≡ l ++ p ∷ [] = following l [] l m1 a p (sym (append-nil l)) ep one in
    let second : m2 ≡ l ++ p ∷ q ∷ [] = following l (p ∷ []) m1 m2 b q first eq two in
    let third : m3 ≡ l ++ p ∷ q ∷ r ∷ [] = following l (p ∷ q ∷ []) m2 m3 c r second er three in
    let fourth : m4 ≡ l ++ p ∷ q ∷ r ∷ s ∷ [] = following l (p ∷ q ∷ r ∷ []) m3 m4 d s third es four in
    following l (p ∷ q ∷ r ∷ s ∷ []) m4 m5 e t fourth et five
