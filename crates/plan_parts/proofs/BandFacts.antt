-- Bands in order: a scan finds the same band as a binary search.
use Rattle.std.proofs.Common.{◌≡◌, ◌↔◌, ◌<◌, ◌≤◌, ℕ, zero, suc, ◌+◌, ◌-◌, List, [], ◌∷◌, Bool, true, false, nat_lt, nat_le, Option, Some, None, arith, refl, sym, ◌∙◌, ap, subst, cond, All, length, get_or, take}
use Rattle.std.proofs.Math.Nat.{suc-add}
use Rattle.std.proofs.lemmas.Bool.{and_parts}
use Rattle.std.proofs.lemmas.Bool.Decides.{nat_tests}
use Rattle.std.proofs.lemmas.List.Sorted.{IsNonDecreasingBy-from_all_adjacent, IsPartitionedBy-leb}
use Rattle.std.specs.Bool.{Decides, IsTrue}
use Rattle.std.specs.List.{filter, last_or, slice_get, AllAdjacentBelow, AllWithin, IsAllAdjacentAnswer}
use Rattle.std.specs.List.Sorted.{IsPartitionPoint, IsPartitionedBy}
use Rattle.std.specs.Option.{option_map_or}
use Rattle.std.proofs.Math.Bool.{and-false}
use Rattle.plan_parts.specs.PartLaws.{IsBandOf}
use Rattle.plan_parts.specs.formulas.Bands.{recovery_at}
use Rattle.plan_parts.specs.formulas.BandsInvariant.{AreBands, starts_rise}
use Rattle.plan_parts.specs.declared.formulas.band.Band.{Band}

-- bands whose neighbours rise are rising bands
rise_yes : (bands : List Band) → AllAdjacentBelow (λ b c. true ≡ nat_lt b.start c.start) bands (length bands) → starts_rise bands ≡ true
rise_yes [] h = refl
rise_yes (b ∷ []) h = refl
rise_yes (b ∷ (c ∷ bands)) h =
    let more : starts_rise (c ∷ bands) ≡ true = rise_yes (c ∷ bands) (λ k d below. rw suc-add at (h (suc k) d (omega arith))) in
    rw (sym (h 0 b (omega arith)), more) refl

rise_no : (bands : List Band) (k : ℕ) → k + 1 < length bands
    → ((d : Band) → false ≡ nat_lt (get_or bands k d).start (get_or bands (k + 1) d).start)
    → starts_rise bands ≡ false
rise_no [] k below h = absurd (omega arith)
rise_no (b ∷ []) k below h = absurd (omega arith)
rise_no (b ∷ (c ∷ bands)) zero below h = rw (sym (h b)) refl
rise_no (b ∷ (c ∷ bands)) (suc k) below h =
    let rest : starts_rise (c ∷ bands) ≡ false = rise_no (c ∷ bands) k (omega arith) (λ d. rw suc-add at (h d)) in
    rw rest (and-false (nat_lt b.start c.start))

pub rise_decided : (bands : List Band) (r : Bool) → IsAllAdjacentAnswer (λ b c t. t ≡ nat_lt b.start c.start) bands r → r ≡ starts_rise bands
rise_decided bands true h = sym (rise_yes bands h)
rise_decided bands false h = sym (rise_no bands h.0 h.1 h.2)

-- a later band begins no lower
rise_adjacent : (bands : List Band) → starts_rise bands ≡ true → AllAdjacentBelow (λ b c. b.start ≤ c.start) bands (length bands)
rise_adjacent [] h k d below = absurd (omega arith)
rise_adjacent (b ∷ []) h k d below = absurd (omega arith)
rise_adjacent (b ∷ (c ∷ bands)) h zero d below = let parts =
    and_parts (nat_lt b.start c.start) (starts_rise (c ∷ bands)) h in grind (arith, nat_tests)
rise_adjacent (b ∷ (c ∷ bands)) h (suc k) d below =
    let parts = and_parts (nat_lt b.start c.start) (starts_rise (c ∷ bands)) h in
    rw suc-add (rise_adjacent (c ∷ bands) parts.1 k d (omega arith))

pub parted : (bands : List Band) (grade : ℕ) → starts_rise bands ≡ true → IsPartitionedBy (λ b. nat_le b.start grade) bands
parted bands grade h =
    IsPartitionedBy-leb (λ b. b.start) bands grade (IsNonDecreasingBy-from_all_adjacent (λ b. b.start) bands (rise_adjacent bands h))

-- if the elements before a place pass and the others fail, the passing elements are those before it
none_pass : {X : Type 0} (p : X → Bool) (xs : List X) → AllWithin (λ x. p x ≡ false) xs 0 (length xs) → filter p xs ≡ []
none_pass p [] fail = refl
none_pass p (x ∷ xs) fail =
    rw (fail 0 x (omega arith) (omega arith)) (none_pass p xs (λ k d low high. fail (suc k) d (omega arith) (omega arith)))

pub first_pass : {X : Type 0} (p : X → Bool) (xs : List X) (i : ℕ) → IsPartitionPoint (λ x. p x ≡ true) (λ x. p x ≡ false) xs i
    → i ≤ length xs
    → filter p xs ≡ take i xs
first_pass p xs zero point within = none_pass p xs point.1
first_pass p [] (suc i) point within = refl
first_pass p (x ∷ xs) (suc i) point within =
    rw (point.0 0 x (omega arith) (omega arith))
    (ap (λ ys. x ∷ ys) (first_pass p xs i
    ((λ k d low high. point.0 (suc k) d (omega arith) (omega arith)), (λ k d low high. point.1 (suc k) d (omega arith) (omega arith)))
    (omega arith)))

-- the last element is the one at the last place
last_after : {X : Type 0} (o : Option X) (x : X) (xs : List X) → last_or o (x ∷ xs) ≡ slice_get (x ∷ xs) (length xs)
last_after o x [] = refl
last_after o x (y ∷ xs) = last_after (Some x) y xs

pub last_is : {X : Type 0} (xs : List X) → last_or None xs ≡ slice_get xs (length xs - 1)
last_is [] = refl
last_is (x ∷ xs) = last_after None x xs ∙ ap (slice_get (x ∷ xs)) (omega arith)

-- the last band that begins at or below the grade has the recovery
pub recovery_is : (bands begun : List Band) (grade : ℕ) (found : Option Band) → filter (λ b. nat_le b.start grade) bands ≡ begun
    → found ≡ slice_get begun (length begun - 1) → option_map_or (λ (b : Band). b.recovery) found 0 ≡ recovery_at bands grade
recovery_is bands begun grade found passed is =
    ap (λ (o : Option Band). option_map_or (λ (b : Band). b.recovery) o 0) (is ∙ sym (last_is begun) ∙ ap (last_or None) (sym passed))

-- if bands rise, all bands after one begin above it
all_above : (b : Band) (bands : List Band) → starts_rise (b ∷ bands) ≡ true → All (λ c. b.start < c.start) bands
all_above b [] h k d below = absurd (omega arith)
all_above b (c ∷ bands) h zero d below =
    let parts = and_parts (nat_lt b.start c.start) (starts_rise (c ∷ bands)) h in grind (arith, nat_tests)
all_above b (c ∷ bands) h (suc k) d below =
    let parts = and_parts (nat_lt b.start c.start) (starts_rise (c ∷ bands)) h in
    let above : c.start < (get_or bands k d).start = all_above c bands parts.1 k d (omega arith) in
    grind (arith, nat_tests)

rise_after : (b : Band) (bands : List Band) → starts_rise (b ∷ bands) ≡ true → starts_rise bands ≡ true
rise_after b [] h = refl
rise_after b (c ∷ bands) h = (and_parts (nat_lt b.start c.start) (starts_rise (c ∷ bands)) h).1

-- of the bands that begin at or below the grade, the last one begins highest
last_begun : (o : Option Band) (bands : List Band) (grade : ℕ) (b : Band) → starts_rise bands ≡ true → IsBandOf bands grade b
    → last_or o (filter (λ c. nat_le c.start grade) bands) ≡ Some b
last_begun o [] grade b rise is = absurd (omega (arith, is.one.1))
last_begun o (c ∷ bands) grade b rise is =
    at_place (λ o rest. last_begun o bands grade b (rise_after c bands rise) rest) is.one.0 is.one.1 is.one.2
  where
    pick : Bool → Option Band
    pick t = last_or o (cond t (c ∷ filter (λ d. nat_le d.start grade) bands) (filter (λ d. nat_le d.start grade) bands))

    by_test : (t : Bool) → last_or (Some c) (filter (λ d. nat_le d.start grade) bands) ≡ Some b
        → last_or o (filter (λ d. nat_le d.start grade) bands) ≡ Some b → pick t ≡ Some b
    by_test true with_c without = with_c
    by_test false with_c without = without

    following : (k : ℕ) → k < length bands → get_or bands k b ≡ b → IsBandOf bands grade b
    following k below e = record {
      one = (k, below, e);
      begun = is.begun;
      highest = λ n d low. is.highest (suc n) d (omega arith);
    }

    -- all bands after the band begin above the grade
    none_following : c ≡ b → AllWithin (λ d. nat_le d.start grade ≡ false) bands 0 (length bands)
    none_following e k d low below =
        let above : c.start < (get_or bands k d).start = all_above c bands rise k d below in
        let high : (get_or bands k d).start ≤ grade → (get_or bands k d).start ≤ b.start = is.highest (suc k) d (omega arith) in
        let same : c.start ≡ b.start = ap (λ (d : Band). d.start) e in
        grind (arith, nat_tests)

    le_is : b.start ≤ grade → nat_le b.start grade ≡ true
    le_is low = grind (arith, nat_tests)

    at_place : ((o : Option Band) → IsBandOf bands grade b → last_or o (filter (λ d. nat_le d.start grade) bands) ≡ Some b)
        → (k : ℕ) → k < suc (length bands) → get_or (c ∷ bands) k b ≡ b → pick (nat_le c.start grade) ≡ Some b
    at_place later zero below e =
        let here : nat_le c.start grade ≡ true = rw e (le_is is.begun) in
        rw here (rw (none_pass (λ d. nat_le d.start grade) bands (none_following e)) (ap Some e))
    at_place later (suc k) below e =
        let rest : IsBandOf bands grade b = following k (omega arith) e in
        by_test (nat_le c.start grade) (later (Some c) rest) (later o rest)

pub recovers_by_band : (bands : List Band) (grade : ℕ) (b : Band) → AreBands bands → IsBandOf bands grade b
    → recovery_at bands grade ≡ b.recovery
recovers_by_band bands grade b are is =
    ap (λ (o : Option Band). option_map_or (λ (c : Band). c.recovery) o 0) (last_begun None bands grade b are.rising is)

pub recovers_nothing : (bands : List Band) (grade : ℕ) → All (λ (b : Band). grade < b.start) bands → recovery_at bands grade ≡ 0
recovers_nothing bands grade above =
    rw (none_pass (λ (b : Band). nat_le b.start grade) bands (λ k d low below. beyond (above k d below))) refl
  where
    beyond : {start : ℕ} → grade < start → nat_le start grade ≡ false
    beyond above = grind (arith, nat_tests)

-- the result of the test, as a fact
pub answered : {K : Type 0} {E : K → K → Bool} → ((x y : K) → Decides (E x y) (x ≡ y)) → (x y : K) (r : Bool) → r ≡ E x y → IsTrue r ↔ (x ≡ y)
answered {E = E} reported x y r e = subst (λ answer. IsTrue answer ↔ (x ≡ y)) (sym e) (reported x y)
