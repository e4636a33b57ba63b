-- How an opened lane is given away, part by part, and how the ends are made, passed to threads and given back.
use Rattle.std.proofs.Common.{◌≡◌, ℕ, zero, suc, ◌+◌, ◌-◌, ◌<◌, List, [], ◌∷◌, ◌++◌, Some, replicate, length, refl, sym, ap, ◌∙◌, subst, arith, get_or, Option, None, IfSome, option_to_list, All, length-append}
use Rattle.lane.specs.declared.part.Part.{Part}
use Rattle.lane.specs.declared.part.Part.TheVariants.{Put, Take, Close}
use Rattle.lane.specs.Rule.{Role, Putter, Taker, Closer, role_of, put_parts, take_parts}
use Rattle.lane.specs.Steps.{IsFree}
use Rattle.lane.specs.inner.Views.{without_second, second_alone}
use Rattle.lane.specs.Ends.{Lane, AreEndsFrom, ends_from, PutEndView, first_puts}
use Rattle.lane.specs.inner.Kept.{MayGive, puts_remaining, takes_remaining}
use Rattle.lane.proofs.Seats.{all_joined}
use Rattle.lane.proofs.Rules.{gives, free_parts}
use Rattle.std.proofs.lemmas.List.Elements.{All-nil, All-cons}

-- the first part that remains
one_remains : (f k : ℕ) → k < f → f - k ≡ suc (f - (k + 1))
one_remains f k l = omega arith

given_away : (v : List Part) (first part : Part) (rest : List Part) (role : Role) → v ≡ first ∷ part ∷ rest → role_of part ≡ Some role
    → IsFree role (first ∷ rest) → MayGive v × (without_second v ≡ first ∷ rest) × (second_alone v ≡ part ∷ [])
given_away v first part rest role e named free =
    (subst MayGive (sym e) (λ pass. gives pass first part rest role named free), ap without_second e, ap second_alone e)

pub put_given : (f w c k : ℕ) → k < f → MayGive (puts_remaining f w c k) × (without_second (puts_remaining f w c k) ≡ puts_remaining f w c (k + 1))
    × (second_alone (puts_remaining f w c k) ≡ Put k c [] ∷ [])
put_given f w c k l =
    let puts : List Part = put_parts c (k + 1) (replicate (f - (k + 1)) []) in
    let takes : List Part = take_parts c 0 (replicate w []) in
    given_away (puts_remaining f w c k) (Close f w c 0 0) (Put k c []) (puts ++ takes) (Putter k)
    (ap (λ n. Close f w c 0 0 ∷ (put_parts c k (replicate n []) ++ take_parts c 0 (replicate w []))) (one_remains f k l)) refl (
      (λ (x : Some Closer ≡ Some (Putter k)). cc),
      all_joined (λ p. role_of p ≡ Some (Putter k) → ⊥) puts takes
          (free_parts (Putter k) (λ i y. Put i c y) (k + 1) (replicate (f - (k + 1)) [])
          (λ j y le. λ (x : Some (Putter j) ≡ Some (Putter k)). let z : j ≡ k = cc in let bad : ⊥ = omega arith in bad))
          (free_parts (Putter k) (λ i y. Take i c y) 0 (replicate w []) (λ j y le. λ (x : Some (Taker j) ≡ Some (Putter k)). cc)),
    )

pub take_given : (f w c k : ℕ) → k < w → MayGive (takes_remaining f w c k) × (without_second (takes_remaining f w c k) ≡ takes_remaining f w c (k + 1))
    × (second_alone (takes_remaining f w c k) ≡ Take k c [] ∷ [])
take_given f w c k l =
    given_away (takes_remaining f w c k) (Close f w c 0 0) (Take k c []) (take_parts c (k + 1) (replicate (w - (k + 1)) [])) (Taker k)
    (ap (λ n. Close f w c 0 0 ∷ take_parts c k (replicate n [])) (one_remains w k l)) refl (
      (λ (x : Some Closer ≡ Some (Taker k)). cc),
      free_parts (Taker k) (λ i y. Take i c y) (k + 1) (replicate (w - (k + 1)) [])
          (λ j y le. λ (x : Some (Taker j) ≡ Some (Taker k)). let z : j ≡ k = cc in let bad : ⊥ = omega arith in bad),
    )

-- the ends that are made with numbers from k on are ends of the lane, n in all, and the next one is appended
pub ends_are : {E : Type 0} (lane_of : E → Lane) (number : E → ℕ) (lane : Lane) (make : ℕ → E) (k n all : ℕ)
    → ((i : ℕ) → lane_of (make i) ≡ lane) → ((i : ℕ) → number (make i) ≡ i) → k + n ≡ all
    → AreEndsFrom lane_of number lane all k (ends_from make k n)
ends_are lane_of number lane make k zero all l i e = omega arith
ends_are lane_of number lane make k (suc n) all l i e =
    (l k, i k, ends_are lane_of number lane make (k + 1) n all l i (omega arith))

pub ends_count : {E : Type 0} (make : ℕ → E) (k n : ℕ) → length (ends_from make k n) ≡ n
ends_count make k zero = refl
ends_count make k (suc n) = ap suc (ends_count make (k + 1) n)

ends_more : {E : Type 0} (make : ℕ → E) (k n m : ℕ) → k + n ≡ m → ends_from make k (suc n) ≡ ends_from make k n ++ make m ∷ []
ends_more make k zero m s = ap (λ i. make i ∷ []) (let z : k ≡ m = omega arith in z)
ends_more make k (suc n) m s = ap (λ l. make k ∷ l) (ends_more make (k + 1) n m (omega arith))

pub ends_next : {E : Type 0} (make : ℕ → E) (n : ℕ) → ends_from make 0 (n + 1) ≡ ends_from make 0 n ++ make n ∷ []
ends_next make n = ap (ends_from make 0) (let z : n + 1 ≡ suc n = omega arith in z) ∙ ends_more make 0 n n (omega arith)

module _ {E : Type 0} where
  pub ends_back : (lane_of : E → Lane) (number : E → ℕ) (lane : Lane) (all k : ℕ) (xs ys : List E) → length ys ≡ length xs
      → ((i : ℕ) (d e : E) → i < length xs → lane_of (get_or ys i d) ≡ lane_of (get_or xs i e))
      → ((i : ℕ) (d e : E) → i < length xs → number (get_or ys i d) ≡ number (get_or xs i e))
      → AreEndsFrom lane_of number lane all k xs → AreEndsFrom lane_of number lane all k ys
  ends_back lane_of number lane all k [] [] len l f h = h
  ends_back lane_of number lane all k [] (y ∷ ys) len l f h = absurd (omega arith)
  ends_back lane_of number lane all k (x ∷ xs) [] len l f h = absurd (omega arith)
  ends_back lane_of number lane all k (x ∷ xs) (y ∷ ys) len l f h = (
    l 0 y x (omega arith) ∙ h.0,
    f 0 y x (omega arith) ∙ h.1,
    ends_back lane_of number lane all (k + 1) xs ys (omega arith) (λ i d e b. l (suc i) d e (omega arith))
        (λ i d e b. f (suc i) d e (omega arith)) h.2,
  )

  -- the last of a list of one end is that end
  pub last_end : (P : E → Type 0) (first : E) (items rest : List E) (o : Option E) → items ≡ rest ++ option_to_list o
      → items ≡ first ∷ [] → P first → IfSome o P
  last_end P first items rest None e h p = tt
  last_end P first items [] (Some x) e h p = subst P (sym (ap (λ (l : List E). get_or l 0 x) (sym e ∙ h))) p
  last_end P first items (y ∷ rest) (Some x) e h p =
      absurd (let n = ap (λ (l : List E). length l) (sym e ∙ h) in let l = length-append rest (x ∷ []) in let z : ⊥ = omega arith in z)

pub first_puts_unsent : (lane : Lane) (k n : ℕ) → All (λ (p : PutEndView). p.sent ≡ []) (first_puts lane k n)
first_puts_unsent lane k zero = All-nil (λ (p : PutEndView). p.sent ≡ [])
first_puts_unsent lane k (suc n) = All-cons (λ (p : PutEndView). p.sent ≡ []) _ _ refl (first_puts_unsent lane (k + 1) n)
