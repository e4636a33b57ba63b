-- Steps along the blocks, the resources and the rows of values.
use Rattle.std.proofs.Common.{◌≡◌, ℕ, suc, ◌+◌, ◌*◌, ◌<◌, ◌≤◌, Bool, true, false, cond, List, [], ◌∷◌, ◌++◌, length, map, take, get_or, All, Option, Some, refl, sym, ◌∙◌, ap, arith, append_assoc, append-nil, length-append, eq-eqb, zero-mul, ⊎_elim}
use Rattle.std.specs.Prelude.{filter, slice_get, slice_index, ◌==◌}
use Rattle.std.specs.List.{cons_option, flat_map, filter_map, range_with_len, enumerate_from, list_any}
use Rattle.std.proofs.lemmas.Bool.{cases_Bool, eqb-true}
use Rattle.std.proofs.lemmas.List.{length-map, map-append}
use Rattle.std.proofs.lemmas.List.Concat.{flat_map-append, length-flat_map}
use Rattle.std.proofs.lemmas.List.Elements.{filter-append}
use Rattle.std.proofs.lemmas.List.Folds.{find_at}
use Rattle.std.proofs.lemmas.List.FromFn.{length-enumerate_from, length-range_with_len}
use Rattle.std.proofs.lemmas.List.Sums.{count_by-le-length, length-filter, position_or_len_is, sum_by-le}
use Rattle.std.proofs.lemmas.Option.{slice_get-get_or}
use Rattle.plan_parts.specs.declared.block.Block.{Block}
use Rattle.plan_parts.specs.declared.resource.Resource.{Resource}
use Rattle.precedence.specs.Identifier.{id}
use Rattle.precedence.specs.Numbering.{IsNumbering, NumberingView}
use Rattle.precedence.proofs.PositionsWhere.{numbered_more}
use Rattle.precedence.proofs.ranges.RangesOfRows.{range_more}
use Rattle.mine_instance.specs.OfModel.{block_of_id, by_identifier}
use Rattle.mine_instance.specs.coefs.CoveredPairs.{covers, pair_with, covering}

-- the pairs of the next destination
pub pairs_next : (resources : List Resource) (d : ℕ)
    → flat_map (covering resources) (range_with_len 0 (d + 1)) ≡ flat_map (covering resources) (range_with_len 0 d) ++ covering resources d
pairs_next resources d = rw (range_more 0 d d (omega arith), flat_map-append, append-nil)

-- the lists of numbered elements, with the list of the next element
pub numbered_next : {X A : Type 0} (f : ℕ × X → List A) (xs : List X) (i : ℕ) (x : X) → i < length xs → x ≡ get_or xs i x
    → flat_map f (enumerate_from 0 (take (i + 1) xs)) ≡ flat_map f (enumerate_from 0 (take i xs)) ++ f (i, x)
numbered_next f xs i x h is = rw (numbered_more xs i x h is, flat_map-append, append-nil)

one_pair : (d i : ℕ) (r : Resource) (b : Bool)
    → map (pair_with d) (cond b ((i, r) ∷ []) []) ≡ cond b ((d, i) ∷ []) []
one_pair d i r true = refl
one_pair d i r false = refl

-- the pairs of the next resource
pub covering_next : (resources : List Resource) (d i : ℕ) (r : Resource) → i < length resources → r ≡ get_or resources i r
    → covering (take (i + 1) resources) d ≡ covering (take i resources) d ++ cond (list_any (λ e. e == d) r.covers) ((d, i) ∷ []) []
covering_next resources d i r h is =
    rw (numbered_more resources i r h is, filter-append, map-append)
    (ap (λ last. covering (take i resources) d ++ last) (one_pair d i r (covers d (i, r))))

-- a destination's pairs are at most as many as the resources
pub pairs_few : (resources : List Resource) (a n : ℕ) → length resources ≤ 8
    → length (flat_map (covering resources) (range_with_len a n)) ≤ n * 8
pairs_few resources a n few =
    let destinations = range_with_len a n in
    let each : All (λ d. length (covering resources d) ≤ 8) destinations = λ k d h. covering_few (get_or destinations k d) in
    let most = sum_by-le (λ d. length (covering resources d)) 8 destinations each in
    omega (arith, length-flat_map (covering resources) destinations, most, length-range_with_len a n)
  where
    covering_few : (d : ℕ) → length (covering resources d) ≤ 8
    covering_few d =
        let numbered = enumerate_from 0 resources in
        let pass = count_by-le-length (covers d) numbered in
        omega (
          arith,
          length-map (filter (covers d) numbered) (pair_with d),
          length-filter (covers d) numbered,
          length-enumerate_from 0 resources,
        )

-- concatenated lists of the same length
pub length-flat : {X A : Type 0} (f : X → List A) (width : ℕ) → ((x : X) → length (f x) ≡ width) → (xs : List X)
    → length (flat_map f xs) ≡ length xs * width
length-flat f width each [] = sym (zero-mul width)
length-flat f width each (x ∷ xs) =
    length-append (f x) (flat_map f xs)
    ∙ (let rest : length (flat_map f xs) ≡ length xs * width = length-flat f width each xs in
    let one : length (f x) ≡ width = each x in
    grind arith)

-- the block with an identifier is the block in the numbering
block_found : (listed : List Block) (n : NumberingView) → IsNumbering listed n → (k : ℕ) (d : Block) → k < length n.blocks
    → block_of_id listed k ≡ Some (get_or n.blocks k d)
block_found listed n is k d h =
    let q = slice_index n.positions k in
    let low : k < length listed = let same : length n.blocks ≡ length listed = is.blocks in omega arith in
    let within : q < length listed = is.within k low in
    find_at (λ b. id listed b == k) listed
    ∙ ap (slice_get listed) (position_or_len_is (λ b. id listed b == k) listed q d (omega arith)
    (λ j g. ⊎_elim
    (λ own.
    let there : slice_index n.positions (id listed (get_or listed j d)) ≡ j = is.found j d (omega arith) in
    let e : q ≡ j = ap (slice_index n.positions) (sym (eqb-true _ _ own)) ∙ there in
    absurd (omega arith))
    (λ other. other)
    (cases_Bool (id listed (get_or listed j d) == k)))
    (λ g. eq-eqb _ _ (ap (id listed) (is.at_position k d low) ∙ is.identifiers k d low)))
    ∙ slice_get-get_or listed q d within ∙ ap Some (is.at_position k d low)

-- if each number finds its element, the list of found elements
all_found : {X : Type 0} (f : ℕ → Option X) (a : ℕ) (xs : List X) → ((k : ℕ) (d : X) → k < length xs → f (a + k) ≡ Some (get_or xs k d))
    → filter_map f (range_with_len a (length xs)) ≡ xs
all_found f a [] each = refl
all_found f a (x ∷ xs) each =
    let here : a ≡ a + 0 = omega arith in
    ap (λ o. cons_option o (filter_map f (range_with_len (a + 1) (length xs)))) (ap f here ∙ each 0 x (omega arith))
    ∙ ap (λ rest. x ∷ rest) (all_found f (a + 1) xs (λ k d h.
    let next : (a + 1) + k ≡ a + suc k = omega arith in ap f next ∙ each (suc k) d (omega arith)))

-- blocks in order of identifier are the blocks of the numbering
pub by_identifier_is : (listed : List Block) (n : NumberingView) → IsNumbering listed n → by_identifier listed ≡ n.blocks
by_identifier_is listed n is =
    ap (λ m. filter_map (block_of_id listed) (range_with_len 0 m)) (sym is.blocks)
    ∙ all_found (block_of_id listed) 0 n.blocks (λ k d h.
    let here : 0 + k ≡ k = omega arith in ap (block_of_id listed) here ∙ block_found listed n is k d h)

-- a list that grew by one part
pub grown : {X : Type 0} (base old new prefix more next : List X) → new ≡ old ++ more → old ≡ base ++ prefix → next ≡ prefix ++ more
    → new ≡ base ++ next
grown base old new prefix more next added is e = rw (added, is, e, append_assoc)
