-- The best pits and schedules are the same, and none has a larger value than the ultimate pit.
use Rattle.std.proofs.Common.{◌≡◌, ℕ, zero, suc, ◌+◌, ◌-◌, ◌*◌, ◌<◌, ◌≤◌, ◌↔◌, Bool, true, false, if◌then◌else◌, ltb, min, List, ℤ, pos, ◌+ℤ◌, ◌*ℤ◌, ◌≤ℤ◌, arith, refl, sym, ap, ◌∙◌, subst, add-mul, zero-mul, mul-zero, mul-add}
use Rattle.std.proofs.lemmas.Bool.{ltb-false, ltb-true, lt-ltb}
use Rattle.std.proofs.lemmas.Int.{ints}
use Rattle.std.proofs.Math.IntN.{*ℤ-zero}
use Rattle.precedence.specs.Closed.{ComeLater, HasArc}
use Rattle.fewer_arcs.specs.Reduced.{reduced}
use Rattle.fewer_arcs.specs.Mined.{IsPit, IsSchedule}
use Rattle.fewer_arcs.specs.Optima.{sum, count, IsBest, pit_value, schedule_value, shares_value, Shares, mined_in, mined_by, Fall, IsSharedOut, ShareModel, IsUltimatePit, IsBestSchedule, AreBestShares}
use Rattle.fewer_arcs.proofs.Sums.{none_of, one_more, sum_le, sum_of_two, sum_same, sum_times, times_more, times_mono, times_times}
use Rattle.fewer_arcs.proofs.SameOptima.{mined_back, mined_there, pit_back, pit_there, schedule_back, schedule_there}

-- equal choices have equal best choices
best_of : {X : Type 0} (P Q : X → Type 0) (worth : X → ℤ) → ((x : X) → P x → Q x) → ((x : X) → Q x → P x)
    → (x : X) → IsBest P worth x → IsBest Q worth x
best_of P Q worth there back x best = (there x best.0, λ other own. best.1 other (back other own))

module _ (lists : List (List ℕ)) (later : ComeLater lists) where
  pub best_pits : (n : ℕ) (value : ℕ → ℤ) (pit : ℕ → Bool) → IsUltimatePit (reduced lists) n value pit ↔ IsUltimatePit lists n value pit
  best_pits n value pit = (
    best_of (IsPit (reduced lists)) (IsPit lists) (pit_value n value) (pit_there lists later) (pit_back lists later) pit,
    best_of (IsPit lists) (IsPit (reduced lists)) (pit_value n value) (pit_back lists later) (pit_there lists later) pit,
  )

  pub best_schedules : (is_within : (ℕ → ℕ) → Bool) (n : ℕ) (weight : ℕ → ℕ) (value : ℕ → ℤ) (period_of : ℕ → ℕ)
      → IsBestSchedule (reduced lists) is_within n weight value period_of ↔ IsBestSchedule lists is_within n weight value period_of
  best_schedules is_within n weight value period_of =
      let few = λ (other : ℕ → ℕ). IsSchedule (reduced lists) other × (is_within other ≡ true) in
      let all = λ (other : ℕ → ℕ). IsSchedule lists other × (is_within other ≡ true) in
      let there : (other : ℕ → ℕ) → few other → all other = λ other own. (schedule_there lists later other own.0, own.1) in
      let back : (other : ℕ → ℕ) → all other → few other = λ other own. (schedule_back lists later other own.0, own.1) in
      let worth = schedule_value n weight value in
      (best_of few all worth there back period_of, best_of all few worth back there period_of)

  pub best_shares : (are_within : Shares → Bool) (m : ShareModel) (shares : Shares)
      → AreBestShares (reduced lists) are_within m shares ↔ AreBestShares lists are_within m shares
  best_shares are_within m shares =
      let few = λ (other : Shares). IsSharedOut (reduced lists) m.unit m.destinations other × (are_within other ≡ true) in
      let all = λ (other : Shares). IsSharedOut lists m.unit m.destinations other × (are_within other ≡ true) in
      let there : (other : Shares) → few other → all other = λ other own.
      (record { order = mined_there lists later (mined_by m.destinations other) own.0.order; most = own.0.most }, own.1) in
      let back : (other : Shares) → all other → few other = λ other own.
      (record { order = mined_back lists later (mined_by m.destinations other) own.0.order; most = own.0.most }, own.1) in
      let worth = shares_value m in
      (best_of few all worth there back shares, best_of all few worth back there shares)

falls_to : (periods : ℕ) (weight : ℕ → ℕ) → Fall periods weight → (a d : ℕ) → weight (a + d) ≤ weight a
falls_to periods weight fall a zero = let same : a + 0 ≡ a = omega arith in omega (arith, ap weight same)
falls_to periods weight fall a (suc d) =
    let next : a + suc d ≡ suc (a + d) = omega arith in
    omega (arith, ap weight next, falls_to periods weight fall a d, fall.falls (a + d))

no_weight : (weight : ℕ → ℕ) → Fall 0 weight → (period : ℕ) → weight period ≡ 0
no_weight weight fall period =
    let all : 0 + period ≡ period = omega arith in
    omega (arith, falls_to 0 weight fall 0 period, ap weight all, fall.ends)

-- a weight is the last period's weight for a block mined by its end, plus the weight above it
abbrev lower : (weight : ℕ → ℕ) (last : ℕ) → ℕ → ℕ
lower weight last period = weight period - weight last

lower_falls : (last : ℕ) (weight : ℕ → ℕ) → Fall (suc last) weight → Fall last (lower weight last)
lower_falls last weight fall = record {
  falls = λ period. omega (arith, fall.falls period);
  ends = omega arith;
}

module _ (lists : List (List ℕ)) (n : ℕ) (value : ℕ → ℤ) (pit : ℕ → Bool) (best : IsUltimatePit lists n value pit) where
  abbrev pub most : ℤ
  most = pit_value n value pit

  no_value : (f : ℕ → ℕ) → ((b : ℕ) → f b ≡ 0) → sum n (λ b. pos (f b) *ℤ value b) ≡ pos 0
  no_value f none = sum_same n (λ b. pos (f b) *ℤ value b) (λ b. pos 0 *ℤ value b) (λ b. ap (λ k. pos k *ℤ value b) (none b))
      ∙ sum_times n 0 value ∙ none_of (sum n value)

  -- the value of undivided blocks in periods
  module _ (period_of : ℕ → ℕ) (is : IsSchedule lists period_of) where
    abbrev by_end : ℕ → ℕ → Bool
    by_end last b = ltb (period_of b) (suc last)

    is_pit : (last : ℕ) → IsPit lists (by_end last)
    is_pit last b c arc own =
        lt-ltb (period_of c) (suc last) (omega (arith, is b c arc, ltb-true (period_of b) (suc last) own))

    in_two : (last : ℕ) (weight : ℕ → ℕ) → Fall (suc last) weight → (b : ℕ)
        → pos (weight (period_of b)) *ℤ value b
        ≡ (pos (weight last) *ℤ (if by_end last b then value b else pos 0)) +ℤ (pos (lower weight last (period_of b)) *ℤ value b)
    in_two last weight fall b = by (by_end last b) refl
      where
        by : (t : Bool) → ltb (period_of b) (suc last) ≡ t → pos (weight (period_of b)) *ℤ value b
            ≡ (pos (weight last) *ℤ (if t then value b else pos 0)) +ℤ (pos (lower weight last (period_of b)) *ℤ value b)
        by true e =
            let p = period_of b in
            let back : p + (last - p) ≡ last = omega (arith, ltb-true p (suc last) e) in
            let low : weight last ≤ weight p = subst (λ k. weight k ≤ weight p) back (falls_to (suc last) weight fall p (last - p)) in
            let whole : weight p ≡ weight last + lower weight last p = omega (arith, low) in
            ap (λ k. pos k *ℤ value b) whole ∙ times_more (weight last) (lower weight last p) (value b)
        by false e =
            let p = period_of b in
            let on : suc last + (p - suc last) ≡ p = omega (arith, ltb-false p (suc last) e) in
            let small : weight p ≤ weight (suc last) = subst (λ k. weight k ≤ weight (suc last)) on (falls_to (suc last) weight fall (suc last) (p - suc last)) in
            let none : weight p ≡ 0 = omega (arith, small, fall.ends) in
            let none' : lower weight last p ≡ 0 = omega (arith, none) in
            ap (λ k. pos k *ℤ value b) none ∙ none_of (value b) ∙ sym (no_more (weight last) (lower weight last p) none')
          where
            no_more : (a k : ℕ) → k ≡ 0 → (pos a *ℤ pos 0) +ℤ (pos k *ℤ value b) ≡ pos 0
            no_more a k none = omega (arith, ints, *ℤ-zero (pos a), ap (λ k. pos k *ℤ value b) none, none_of (value b))

    pub schedule_below : (periods : ℕ) (weight : ℕ → ℕ) → Fall periods weight
        → (schedule_value n weight value period_of) ≤ℤ (pos (weight 0) *ℤ most)
    schedule_below zero weight fall =
        let none = no_value (λ b. weight (period_of b)) (λ b. no_weight weight fall (period_of b)) in
        omega (arith, ints, none, ap (λ k. pos k *ℤ most) fall.ends, none_of most)
    schedule_below (suc last) weight fall =
        let first = λ (b : ℕ). pos (weight last) *ℤ (if by_end last b then value b else pos 0) in
        let rest = λ (b : ℕ). pos (lower weight last (period_of b)) *ℤ value b in
        let cut = sum_same n (λ b. pos (weight (period_of b)) *ℤ value b) (λ b. first b +ℤ rest b) (in_two last weight fall) ∙ sum_of_two n first rest in
        let pits = sum_times n (weight last) (λ b. if by_end last b then value b else pos 0) in
        let one = times_mono (weight last) (pit_value n value (by_end last)) most (best.1 (by_end last) (is_pit last)) in
        let from : 0 + last ≡ last = omega arith in
        let low : weight last ≤ weight 0 = omega (arith, falls_to (suc last) weight fall 0 last, ap weight from) in
        let whole : weight last + lower weight last 0 ≡ weight 0 = omega (arith, low) in
        let all = times_more (weight last) (lower weight last 0) most in
        omega (arith, ints, cut, pits, one, schedule_below last (lower weight last) (lower_falls last weight fall), all, ap (λ k. pos k *ℤ most) whole)

  -- the value of shares: amounts in order, up to some unit
  abbrev KeepOrder : (ℕ → ℕ) → Type 0
  KeepOrder amount = (b c : ℕ) → HasArc lists b c → amount b ≤ amount c

  -- a unit is its last part, for the blocks that are mined completely, and the parts below it
  part_below : (unit : ℕ) (amount : ℕ → ℕ) → KeepOrder amount → ((b : ℕ) → amount b ≤ unit)
      → (sum n (λ b. pos (amount b) *ℤ value b)) ≤ℤ (pos unit *ℤ most)
  part_below zero amount order few =
      omega (arith, ints, no_value amount (λ b. omega (arith, few b)), none_of most)
  part_below (suc unit) amount order few =
      let whole = λ (b : ℕ). ltb unit (amount b) in
      let below = λ (b : ℕ). min (amount b) unit in
      let first = λ (b : ℕ). if whole b then value b else pos 0 in
      let rest = λ (b : ℕ). pos (below b) *ℤ value b in
      let cut = sum_same n (λ b. pos (amount b) *ℤ value b) (λ b. first b +ℤ rest b) (λ b. in_two b (whole b) refl) ∙ sum_of_two n first rest in
      let is : IsPit lists whole = λ b c arc own. lt-ltb unit (amount c) (omega (arith, order b c arc, ltb-true unit (amount b) own)) in
      omega (
        arith,
        ints,
        cut,
        best.1 whole is,
        one_more unit most,
        part_below unit below (λ b c arc. omega (arith, order b c arc)) (λ b. omega arith),
      )
    where
      in_two : (b : ℕ) (t : Bool) → ltb unit (amount b) ≡ t
          → pos (amount b) *ℤ value b ≡ (if t then value b else pos 0) +ℤ (pos (min (amount b) unit) *ℤ value b)
      in_two b true e =
          let all : amount b ≡ suc unit = omega (arith, few b, ltb-true unit (amount b) e) in
          let cut : min (amount b) unit ≡ unit = omega (arith, all) in
          omega (arith, ints, ap (λ k. pos k *ℤ value b) all, ap (λ k. pos k *ℤ value b) cut, one_more unit (value b))
      in_two b false e =
          let cut : min (amount b) unit ≡ amount b = omega (arith, ltb-false unit (amount b) e) in
          omega (arith, ints, ap (λ k. pos k *ℤ value b) cut)

  -- a sum by the weights of periods is the sum by the weights above the last weight, plus the last weight of all
  weighed : (periods last : ℕ) (weight : ℕ → ℕ) (f : ℕ → ℕ) → ((period : ℕ) → period < periods → weight last ≤ weight period)
      → count periods (λ period. weight period * f period)
      ≡ weight last * count periods f + count periods (λ period. lower weight last period * f period)
  weighed zero last weight f low = omega arith
  weighed (suc periods) last weight f low =
      let here : weight periods ≡ weight last + lower weight last periods = omega (arith, low periods (omega arith)) in
      let two = ap (λ k. k * f periods) here ∙ add-mul (weight last) (lower weight last periods) (f periods) in
      omega (arith, two, mul-add (weight last) (count periods f) (f periods), weighed periods last weight f (λ period lt. low period (omega (arith, lt))))

  module _ (unit : ℕ) (f : ℕ → ℕ → ℕ) (order : (last : ℕ) → KeepOrder (λ b. count (suc last) (f b)))
      (few : (b last : ℕ) → count (suc last) (f b) ≤ unit) where
    abbrev amounts : ℕ → (ℕ → ℕ) → ℕ → ℕ
    amounts periods weight b = count periods (λ period. weight period * f b period)

    amounts_below : (periods : ℕ) (weight : ℕ → ℕ) → Fall periods weight
        → (sum n (λ b. pos (amounts periods weight b) *ℤ value b)) ≤ℤ (pos (weight 0 * unit) *ℤ most)
    amounts_below zero weight fall =
        let none = no_value (λ b. 0) (λ b. refl) in
        omega (arith, ints, none, ap (λ k. pos (k * unit) *ℤ most) fall.ends, none_of most)
    amounts_below (suc last) weight fall =
        let mined = λ (b : ℕ). count (suc last) (f b) in
        let first = λ (b : ℕ). pos (weight last) *ℤ (pos (mined b) *ℤ value b) in
        let rest = λ (b : ℕ). pos (amounts last (lower weight last) b) *ℤ value b in
        let cut = sum_same n (λ b. pos (amounts (suc last) weight b) *ℤ value b) (λ b. first b +ℤ rest b) in_two ∙ sum_of_two n first rest in
        let parts = sum_times n (weight last) (λ b. pos (mined b) *ℤ value b) in
        let one = times_mono (weight last) (sum n (λ b. pos (mined b) *ℤ value b)) (pos unit *ℤ most) (part_below unit mined (order last) (λ b. few b last)) in
        let from : 0 + last ≡ last = omega arith in
        let low : weight last ≤ weight 0 = omega (arith, falls_to (suc last) weight fall 0 last, ap weight from) in
        let whole : weight last + lower weight last 0 ≡ weight 0 = omega (arith, low) in
        let all = sym (times_more (weight last * unit) (lower weight last 0 * unit) most)
        ∙ ap (λ k. pos k *ℤ most) (sym (add-mul (weight last) (lower weight last 0) unit) ∙ ap (λ k. k * unit) whole) in
        omega (arith, ints, cut, parts, one, times_times (weight last) unit most, amounts_below last (lower weight last) (lower_falls last weight fall), all)
      where
        in_two : (b : ℕ) → pos (amounts (suc last) weight b) *ℤ value b
            ≡ (pos (weight last) *ℤ (pos (count (suc last) (f b)) *ℤ value b)) +ℤ (pos (amounts last (lower weight last) b) *ℤ value b)
        in_two b =
            let low : (period : ℕ) → period < suc last → weight last ≤ weight period = λ period lt.
            let back : period + (last - period) ≡ last = omega (arith, lt) in
            omega (arith, falls_to (suc last) weight fall period (last - period), ap weight back) in
            let none : lower weight last last * f b last ≡ 0 = ap (λ k. k * f b last) (lower_falls last weight fall).ends ∙ zero-mul (f b last) in
            let split : amounts (suc last) weight b ≡ weight last * count (suc last) (f b) + amounts last (lower weight last) b
            = omega (arith, weighed (suc last) last weight (f b) low, none) in
            ap (λ k. pos k *ℤ value b) split ∙ times_more (weight last * count (suc last) (f b)) (amounts last (lower weight last) b) (value b)
            ∙ ap (λ x. x +ℤ (pos (amounts last (lower weight last) b) *ℤ value b)) (times_times (weight last) (count (suc last) (f b)) (value b))

  -- shares at destinations at which no block has a value above its value in the pit
  module _ (destinations : ℕ) (worth : ℕ → ℕ → ℤ) (above : (b d : ℕ) → d < destinations → (worth b d) ≤ℤ (value b)) where
    at_all : (upto : ℕ) → upto ≤ destinations → (b w : ℕ) (share : ℕ → ℕ)
        → (sum upto (λ d. pos (w * share d) *ℤ worth b d)) ≤ℤ (pos (w * count upto share) *ℤ value b)
    at_all zero up b w share = omega (arith, ints, ap (λ k. pos k *ℤ value b) (mul-zero w), none_of (value b))
    at_all (suc upto) up b w share =
        omega (
          arith,
          ints,
          at_all upto (omega (arith, up)) b w share,
          times_mono (w * share upto) (worth b upto) (value b) (above b upto (omega (arith, up))),
          times_more (w * count upto share) (w * share upto) (value b),
          ap (λ k. pos k *ℤ value b) (mul-add w (count upto share) (share upto)),
        )

    in_all : (periods : ℕ) (weight : ℕ → ℕ) (shares : Shares) (b : ℕ)
        → (sum periods (λ period. sum destinations (λ d. pos (weight period * shares b period d) *ℤ worth b d)))
        ≤ℤ (pos (count periods (λ period. weight period * mined_in destinations shares b period)) *ℤ value b)
    in_all zero weight shares b = omega (arith, ints, none_of (value b))
    in_all (suc periods) weight shares b =
        omega (
          arith,
          ints,
          in_all periods weight shares b,
          at_all destinations (omega arith) b (weight periods) (shares b periods),
          times_more (count periods (λ period. weight period * mined_in destinations shares b period))
              (weight periods * mined_in destinations shares b periods) (value b),
        )

    pub shares_below : (unit periods : ℕ) (weight : ℕ → ℕ) (shares : Shares) → Fall periods weight → IsSharedOut lists unit destinations shares
        → (shares_value (record { blocks = n; periods = periods; destinations = destinations; unit = unit; weight = weight; value = worth }) shares)
        ≤ℤ (pos (weight 0 * unit) *ℤ most)
    shares_below unit periods weight shares fall is =
        let each = sum_le n (λ b. sum periods (λ period. sum destinations (λ d. pos (weight period * shares b period d) *ℤ worth b d)))
        (λ b. pos (count periods (λ period. weight period * mined_in destinations shares b period)) *ℤ value b) (in_all periods weight shares) in
        omega (arith, ints, each, amounts_below unit (mined_in destinations shares) (λ last b c arc. is.order b c arc last) is.most periods weight fall)
