-- Tested lists of identifiers are predecessors, and predecessors pass the tests.
use Rattle.std.specs.Prelude.{◌≡◌, ◌≢◌, ℕ, suc, ◌<◌, ◌==◌, true, false, not, List, [], ◌∷◌, All, AllPairs}
use Rattle.std.proofs.Common.{refl, sym, arith}
use Rattle.std.proofs.lemmas.Bool.{and_parts, ne_eqb, not-true, or_parts}
use Rattle.std.proofs.lemmas.Bool.Decides.{nat_tests}
use Rattle.std.proofs.lemmas.List.Elements.{All-cons, All-nil}
use Rattle.std.proofs.lemmas.List.Folds.{list_any_none}
use Rattle.std.proofs.lemmas.List.Kept.{AllPairs-cons}
use Rattle.mine_instance.specs.Valid.{ArePredsOf}
use Rattle.minelib_reading.specs.LineForms.{all_differ, has_id}

pub stands_not : (own : ℕ) (ids : List ℕ) → All (λ id. id ≢ own) ids → has_id ids own ≡ false
stands_not own ids h = list_any_none (λ id. id == own) ids (λ k d within. ne_eqb _ own (h k d within))

pub differ_again : (ids : List ℕ) → AllPairs (λ id other. id ≢ other) ids → all_differ ids ≡ true
differ_again [] h = refl
differ_again (id ∷ ids) h =
    let none = stands_not id ids (λ k d within same. h 0 (suc k) d (omega arith) (omega arith) (sym same)) in
    let others = differ_again ids (λ i j d before within. h (suc i) (suc j) d (omega arith) (omega arith)) in
    rw (none, others) refl

pub preds_pass : (own n : ℕ) (ids : List ℕ) → ArePredsOf own n ids → (has_id ids own ≡ false) × (all_differ ids ≡ true)
preds_pass own n ids h = (stands_not own ids h.others, differ_again ids h.distinct)

-- a number that is not in a list differs from each number in the list
pub others_differ : (own : ℕ) (ids : List ℕ) → has_id ids own ≡ false → All (λ id. id ≢ own) ids
others_differ own [] e = All-nil (λ id. id ≢ own)
others_differ own (id ∷ ids) e =
    let parts = or_parts (id == own) (has_id ids own) e in
    All-cons (λ other. other ≢ own) id ids (grind (arith, nat_tests, parts.0)) (others_differ own ids parts.1)

-- if no number appears twice, each two differ
pub pairs_differ : (ids : List ℕ) → all_differ ids ≡ true → AllPairs (λ id other. id ≢ other) ids
pairs_differ [] e = λ i j d less high. absurd (omega arith)
pairs_differ (id ∷ ids) e =
    let parts = and_parts (not (has_id ids id)) (all_differ ids) e in
    let others = others_differ id ids (not-true (has_id ids id) parts.0) in
    AllPairs-cons (λ id other. id ≢ other) id ids (λ k d within same. others k d within (sym same)) (pairs_differ ids parts.1)

pub passed_preds : (own n : ℕ) (ids : List ℕ) → All (λ id. id < n) ids → has_id ids own ≡ false → all_differ ids ≡ true
    → ArePredsOf own n ids
passed_preds own n ids low other differ = record { below = low; others = others_differ own ids other; distinct = pairs_differ ids differ }
