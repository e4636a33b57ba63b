-- What an output took after several puts, if it reports its bytes.
use Rattle.std.proofs.Common.{◌≡◌, ◌∙◌, ℕ, ◌+◌, ◌-◌, ◌≤◌, List, ◌++◌, length, take, drop, Option, Some, None, refl, sym, ap, subst, arith, append_assoc, append-nil, length-drop, take-add, take_all}
use Rattle.devices.specs.Device.{added}

pub took_none : (a : Option (List ℕ)) (bytes : List ℕ) → a ≡ added (take 0 bytes) a
took_none None bytes = refl
took_none (Some held) bytes = ap Some (sym (append-nil held))

added_twice : (x y : List ℕ) (a : Option (List ℕ)) → added y (added x a) ≡ added (x ++ y) a
added_twice x y None = refl
added_twice x y (Some held) = ap Some (append_assoc held x y)

pub took_more : (a b c : Option (List ℕ)) (bytes : List ℕ) (n m : ℕ) → b ≡ added (take n bytes) a
    → c ≡ added (take m (take (length bytes - n) (drop n bytes))) b → c ≡ added (take (n + m) bytes) a
took_more a b c bytes n m first second =
    let rest : take (length bytes - n) (drop n bytes) ≡ drop n bytes =
    take_all (length bytes - n) (drop n bytes) (omega (arith, length-drop n bytes)) in
    subst (λ xs. c ≡ added (take m xs) b) rest second ∙ ap (added (take m (drop n bytes))) first
    ∙ added_twice (take n bytes) (take m (drop n bytes)) a ∙ ap (λ xs. added xs a) (sym (take-add n m bytes))

pub took_all : (a b : Option (List ℕ)) (bytes : List ℕ) (n : ℕ) → length bytes ≤ n → b ≡ added (take n bytes) a → b ≡ added bytes a
took_all a b bytes n all took = subst (λ xs. b ≡ added xs a) (take_all n bytes all) took
