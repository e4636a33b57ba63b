-- A list has one reduced list only.
use Rattle.std.proofs.Common.{◌≡◌, ℕ, List, Contains, ⊎_elim}
use Rattle.fewer_arcs.specs.ReducedList.{IsReduced}
use Rattle.precedence.proofs.Members.{one_list}

module _ (lists : List (List ℕ)) (list : List ℕ) where
  there_too : (one other : List ℕ) → IsReduced lists list one → IsReduced lists list other → (c : ℕ) → Contains one c → Contains other c
  there_too one other a b c has = ⊎_elim (λ own. own) (λ w. absurd (a.apart c has w)) (b.dropped c (a.among c has))

  pub is_one : (one other : List ℕ) → IsReduced lists list one → IsReduced lists list other → one ≡ other
  is_one one other a b = one_list one other a.rising b.rising (there_too one other a b) (there_too other one b a)
