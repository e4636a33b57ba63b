-- Pits, periods and mined shares by reduced lists.
use Rattle.std.proofs.Common.{◌≡◌, ℕ, ◌≤◌, Bool, true, List, arith}
use Rattle.fewer_arcs.specs.Reduced.{reduced}
use Rattle.fewer_arcs.specs.Mined.{IsMinedInOrder, IsPit, IsSchedule}
use Rattle.precedence.specs.Closed.{ComeLater}
use Rattle.fewer_arcs.proofs.Same.{among, holds}

module _ (lists : List (List ℕ)) (later : ComeLater lists) where
  pub pit_there : (pit : ℕ → Bool) → IsPit (reduced lists) pit → IsPit lists pit
  pit_there pit is = holds lists later (λ b c. pit b ≡ true → pit c ≡ true) (λ a b c first then' own. then' (first own)) is

  pub pit_back : (pit : ℕ → Bool) → IsPit lists pit → IsPit (reduced lists) pit
  pit_back pit is = λ b c has. is b c (among lists b c has)

  pub mined_there : (mined : ℕ → ℕ → ℕ) → IsMinedInOrder (reduced lists) mined → IsMinedInOrder lists mined
  mined_there mined is =
      holds lists later (λ b c. (period : ℕ) → mined b period ≤ mined c period) (λ a b c first then' period. omega (arith, first period, then' period)) is

  pub mined_back : (mined : ℕ → ℕ → ℕ) → IsMinedInOrder lists mined → IsMinedInOrder (reduced lists) mined
  mined_back mined is = λ b c has. is b c (among lists b c has)

  pub schedule_there : (period_of : ℕ → ℕ) → IsSchedule (reduced lists) period_of → IsSchedule lists period_of
  schedule_there period_of is = holds lists later (λ b c. period_of c ≤ period_of b) (λ a b c first then'. omega arith) is

  pub schedule_back : (period_of : ℕ → ℕ) → IsSchedule lists period_of → IsSchedule (reduced lists) period_of
  schedule_back period_of is = λ b c has. is b c (among lists b c has)
