-- The facts about the parts of a list, position by position.
use Rattle.std.proofs.Common.{◌≡◌, ℕ, ◌+◌, ◌-◌, ◌<◌, ◌≤◌, List, All, length, take, drop, get_or, ◌⊎◌, arith, subst, ap, ◌∙◌, inl, inr}
use Rattle.std.specs.Prelude.{HoldsAt, OnOk, Result, Ok, Err}
use Rattle.std.proofs.lemmas.List.{get_or_default, get_or-take, get_or-drop, length-take, length-drop}
use Rattle.std.proofs.lemmas.Bool.{cases_lt}
use Rattle.minelib_writing.specs.inner.KeptParts.{HoldsFrom}
pub use Rattle.std.proofs.lemmas.List.Elements.{All-more}

-- about the positions before one, and from it on
pub holds_then : {Holds : ℕ → Type 0} (i j k : ℕ) → HoldsFrom Holds i j → HoldsFrom Holds j k → HoldsFrom Holds i k
holds_then {Holds} i j k first then place low high = by_order (cases_lt place j)
  where
    by_order : (place < j) ⊎ (j ≤ place) → Holds place
    by_order (inl before) = first place low before
    by_order (inr following) = then place following high

-- about one position
pub holds_one : (Holds : ℕ → Type 0) (i : ℕ) → Holds i → HoldsFrom Holds i (i + 1)
holds_one Holds i here place low high = let same : i ≡ place = omega (arith, low, high) in subst Holds same here

module _ {X : Type 0} (P : X → Type 0) where
  -- about the item at a position
  pub kept_at : (xs : List X) (i : ℕ) (x : X) → i < length xs → x ≡ get_or xs i x → P x → HoldsAt P xs i
  kept_at xs i x within read one d = subst P (read ∙ get_or_default xs i x d within) one

  -- about the items from a position on
  pub kept_part : (xs : List X) (i n : ℕ) → i + n ≤ length xs → All P (take n (drop i xs)) → HoldsFrom (HoldsAt P xs) i (i + n)
  kept_part xs i n within all place low high d =
      let back : i + (place - i) ≡ place = omega arith in
      subst P
      (get_or-take n (drop i xs) (place - i) d (omega arith) ∙ get_or-drop i xs (place - i) d ∙ ap (λ k. get_or xs k d) back)
      (all (place - i) d (omega (arith, length-take n (drop i xs), length-drop i xs)))

  -- about all positions, and so about all items
  pub kept_all : (xs : List X) (n : ℕ) → n ≡ length xs → HoldsFrom (HoldsAt P xs) 0 n → All P xs
  kept_all xs n long each k d within = each k (omega arith) (omega arith) d

-- three facts about an `Ok` are one
pub on_ok_three : {T E A B C D : Type 0} (r : Result T E) → (A → B → C → D) → OnOk r A → OnOk r B → OnOk r C → OnOk r D
on_ok_three (Ok x) f a b c = f a b c
on_ok_three (Err e) f a b c = tt
