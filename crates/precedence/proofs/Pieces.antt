-- One list and its ends: the next part, and each part.
use Rattle.std.proofs.Common.{◌≡◌, ℕ, zero, suc, ◌+◌, ◌-◌, ◌<◌, ◌≤◌, List, [], ◌∷◌, ◌++◌, Some, length, take, drop, get_or, slice_get, sum_by, refl, sym, ap, ◌∙◌, arith, length-append, length-take, length-drop}
use Rattle.std.proofs.Math.Seq.{drop-append_seam}
use Rattle.std.proofs.lemmas.List.{take_all, take-append-le, drop-append-le}
use Rattle.std.proofs.lemmas.List.Sums.{sum_by-cons}
use Rattle.precedence.specs.inner.PredsFields.{pieces, start_at, AreEnds}

ends_within : (from : ℕ) (ends : List ℕ) (len : ℕ) → AreEnds from ends len → from ≤ len
ends_within from [] len h = omega arith
ends_within from (end ∷ ends) len h = let rest = ends_within end ends len h.1 in omega (arith, h.0)

ends_push : (from : ℕ) (ends : List ℕ) (len more : ℕ) → AreEnds from ends len → len ≤ more → AreEnds from (ends ++ more ∷ []) more
ends_push from [] len more h le = (omega arith, refl)
ends_push from (end ∷ ends) len more h le = (h.0, ends_push end ends len more h.1 le)

pieces_push : (flat xs : List ℕ) (from : ℕ) (ends : List ℕ) → AreEnds from ends (length flat)
    → pieces (flat ++ xs) from (ends ++ length (flat ++ xs) ∷ []) ≡ pieces flat from ends ++ xs ∷ []
pieces_push flat xs from [] h =
    let len = length-append flat xs in
    let rest : drop from (flat ++ xs) ≡ xs = ap (λ n. drop n (flat ++ xs)) h ∙ drop-append_seam flat xs in
    ap (λ ys. ys ∷ []) (ap (take (length (flat ++ xs) - from)) rest ∙ take_all (length (flat ++ xs) - from) xs (omega arith))
pieces_push flat xs from (end ∷ ends) h =
    let within = ends_within end ends (length flat) h.1 in
    let long = length-drop from flat in
    let first : take (end - from) (drop from (flat ++ xs)) ≡ take (end - from) (drop from flat) =
    ap (take (end - from)) (drop-append-le from flat xs (omega (arith, h.0)))
    ∙ take-append-le (end - from) (drop from flat) xs (omega arith) in
    (λ i. first i ∷ pieces_push flat xs end ends h.1 i)

-- the next part, with its end
pub pushed : (flat xs now ends more : List ℕ) (end : ℕ) → AreEnds 0 ends (length flat) → now ≡ flat ++ xs → more ≡ ends ++ end ∷ []
    → end ≡ length now → AreEnds 0 more (length now) × (pieces now 0 more ≡ pieces flat 0 ends ++ xs ∷ [])
pushed flat xs now ends more end h added is last =
    rw (is, last, added)
    (ends_push 0 ends (length flat) (length (flat ++ xs)) h (omega (arith, length-append flat xs)), pieces_push flat xs 0 ends h)

pub arcs_are : (flat : List ℕ) (from : ℕ) (ends : List ℕ) → AreEnds from ends (length flat)
    → from + sum_by length (pieces flat from ends) ≡ length flat
arcs_are flat from [] h = omega arith
arcs_are flat from (end ∷ ends) h =
    let within = ends_within end ends (length flat) h.1 in
    let rest = arcs_are flat end ends h.1 in
    let cons = sum_by-cons length (take (end - from) (drop from flat)) (pieces flat end ends) in
    let long = length-take (end - from) (drop from flat) in
    let dropped = length-drop from flat in
    omega (arith, h.0)

pub as_many_pieces : (flat : List ℕ) (from : ℕ) (ends : List ℕ) → length (pieces flat from ends) ≡ length ends
as_many_pieces flat from [] = refl
as_many_pieces flat from (end ∷ ends) = ap (λ n. suc n) (as_many_pieces flat end ends)

-- the part at k
pub start_is : (from : ℕ) (ends : List ℕ) (k : ℕ) → 0 < k → k ≤ length ends → start_at from ends k ≡ get_or ends (k - 1) 0
start_is from ends zero some le = absurd (omega arith)
start_is from [] (suc k) some le = absurd (omega arith)
start_is from (end ∷ ends) (suc zero) some le = refl
start_is from (end ∷ ends) (suc (suc k)) some le =
    let same : suc (suc k) - 1 ≡ suc k = omega arith in
    let less : suc k - 1 ≡ k = omega arith in
    start_is end ends (suc k) (omega arith) (omega arith) ∙ ap (λ n. get_or ends n 0) less ∙ ap (λ n. get_or (end ∷ ends) n 0) (sym same)

pub piece_within : (from : ℕ) (ends : List ℕ) (len k : ℕ) → AreEnds from ends len → k < length ends
    → (start_at from ends k ≤ get_or ends k 0) × (get_or ends k 0 ≤ len)
piece_within from [] len k h lt = absurd (omega arith)
piece_within from (end ∷ ends) len zero h lt = (h.0, ends_within end ends len h.1)
piece_within from (end ∷ ends) len (suc k) h lt = piece_within end ends len k h.1 (omega arith)

pub piece_is : (flat : List ℕ) (from : ℕ) (ends : List ℕ) (k : ℕ) → k < length ends
    → slice_get (pieces flat from ends) k ≡ Some (take (get_or ends k 0 - start_at from ends k) (drop (start_at from ends k) flat))
piece_is flat from [] k lt = absurd (omega arith)
piece_is flat from (end ∷ ends) zero lt = refl
piece_is flat from (end ∷ ends) (suc k) lt = piece_is flat end ends k (omega arith)

pub ruleset parts = (piece_within, piece_is)
