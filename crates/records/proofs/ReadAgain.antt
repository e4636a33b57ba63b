-- The results of a reader of records after it returned its end or refused memory.
use Rattle.std.proofs.Common.{◌≡◌, ℕ, Bool, false, List, ◌∷◌, Result, Ok, Err, ap, refl, subst}
use Rattle.std.specs.Prelude.{IsErr}
use Rattle.records.specs.RecordReader.{RecordReaderView, Rows, Over, GaveUp, TakesRow}

over_again : {E : Type 0} (again : Result Bool E) (fields : List (List ℕ)) (after : RecordReaderView) → TakesRow Over again fields after
    → again ≡ Ok false
over_again (Ok found) fields after h = ap Ok h.0
over_again (Err refusal) fields after h = absurd h

given_up_again : {E : Type 0} (again : Result Bool E) (fields : List (List ℕ)) (after : RecordReaderView) → TakesRow GaveUp again fields after
    → IsErr again
given_up_again (Ok found) fields after h = absurd h
given_up_again (Err refusal) fields after h = refl

pub ended_again : {E : Type 0} (old then after : RecordReaderView) (fields more : List (List ℕ)) (again : Result Bool E)
    → TakesRow {E = E} old (Ok false) fields then → TakesRow then again more after → again ≡ Ok false
ended_again (Rows (row ∷ rows)) then after fields more again h next = absurd (cc h.0)
ended_again GaveUp then after fields more again h next = absurd h
ended_again old then after fields more again h next = over_again again more after (subst (λ v. TakesRow v again more after) h.1 next)

pub refused_again : {E : Type 0} (old then after : RecordReaderView) (fields more : List (List ℕ)) (refusal : E) (again : Result Bool E)
    → TakesRow old (Err refusal) fields then → TakesRow then again more after → IsErr again
refused_again Over then after fields more refusal again h next = absurd h
refused_again old then after fields more refusal again h next =
    given_up_again again more after (subst (λ v. TakesRow v again more after) h next)
