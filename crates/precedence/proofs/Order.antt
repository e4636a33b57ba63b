-- The order of identifiers is the order of the codes.
use Rattle.std.proofs.Common.{◌≡◌, ℕ, ◌+◌, ◌<◌, ◌≤◌, true, List, [], ◌∷◌, length, get_or, cond, count_by, nat_eq, nat_lt, refl, sym, ◌∙◌, arith, ⊎_elim}
use Rattle.std.proofs.lemmas.Bool.{cases_lt, lt-ltb}
use Rattle.std.proofs.lemmas.Bool.Decides.{nat_tests}
use Rattle.std.proofs.lemmas.List.Sums.{sum_by-cons, sum_by-le-sum_by}
use Rattle.plan_parts.specs.declared.block.Block.{Block}
use Rattle.precedence.specs.Codes.{place_code, place_codes}
use Rattle.precedence.specs.Identifier.{comes_before, id, is_same_cell}
use Rattle.precedence.specs.Numbering.{IsNumbering, NumberingView}

before_is : (a b : Block) → comes_before a b ≡ nat_lt (place_code a) (place_code b)
before_is a b = grind (arith, nat_tests)

pub same_is : (a b : Block) → is_same_cell a b ≡ nat_eq (place_code a) (place_code b)
same_is a b = grind (arith, nat_tests)

-- an identifier is the number of smaller codes
pub id_is : (bs : List Block) (b : Block) → id bs b ≡ count_by (λ c. nat_lt c (place_code b)) (place_codes bs)
id_is [] b = refl
id_is (a ∷ bs) b =
    sum_by-cons (λ a. cond (comes_before a b) 1 0) a bs ∙ (λ j. cond (before_is a b j) 1 0 + id_is bs b j)
    ∙ sym (sum_by-cons (λ c. cond (nat_lt c (place_code b)) 1 0) (place_code a) (place_codes bs))

fewer : (bs : List Block) (a b : Block) → place_code a ≤ place_code b → id bs a ≤ id bs b
fewer bs a b le =
    let below : Block → ℕ → ℕ = λ b c. cond (nat_lt c (place_code b)) 1 0 in
    omega (arith, id_is bs a, id_is bs b, sum_by-le-sum_by (below a) (below b) (place_codes bs) (λ c. ones c (place_code a) (place_code b) le))
  where
    ones : (c m n : ℕ) → m ≤ n → cond (nat_lt c m) 1 0 ≤ cond (nat_lt c n) 1 0
    ones c m n le = grind (arith, nat_tests)

-- blocks by identifier are in order
pub in_order : (listed : List Block) (n : NumberingView) (i k : ℕ) (d : Block) → IsNumbering listed n → i < k → k < length listed
    → comes_before (get_or n.blocks i d) (get_or n.blocks k d) ≡ true
in_order listed n i k d numbering lt within =
    let a = get_or n.blocks i d in
    let b = get_or n.blocks k d in
    before_is a b
    ∙ lt-ltb (place_code a) (place_code b) (⊎_elim
    (λ less. less)
    (λ more. absurd (omega (arith, fewer listed b a more, numbering.identifiers i d (omega arith), numbering.identifiers k d within)))
    (cases_lt (place_code a) (place_code b)))
