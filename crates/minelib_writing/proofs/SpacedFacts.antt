-- A range of identifiers is a part of the text of 0, 1, 2, ..
use Rattle.std.proofs.Common.{◌≡◌, ℕ, zero, suc, ◌+◌, ◌*◌, ◌^◌, ◌-◌, ◌<◌, ◌≤◌, List, [], ◌∷◌, ◌++◌, length, take, drop, get_or, ap, sym, ⊎_elim, ◌∙◌, arith, append_assoc, append-nil, length-append}
use Rattle.std.specs.Prelude.{decimal}
use Rattle.std.specs.List.{range_with_len}
use Rattle.std.proofs.Math.Seq.{drop-append_seam, get_or-append_seam, take-append_seam}
use Rattle.std.proofs.lemmas.List.{get_or_append_left, get_or_default}
use Rattle.std.proofs.lemmas.Bool.{cases_lt}
use Rattle.std.proofs.lemmas.Fmt.{length-decimal-le_wide}
use Rattle.std.proofs.lemmas.Grind.{flat_map-append}
use Rattle.minelib_writing.specs.inner.Spaced.{spaced, start_in, AreStarts}

pub range_parts : (a m n : ℕ) → range_with_len a (m + n) ≡ range_with_len a m ++ range_with_len (a + m) n
range_parts a zero n =
    let long : 0 + n ≡ n = omega arith in
    let from : a ≡ a + 0 = omega arith in
    λ j. range_with_len (from j) (long j)
range_parts a (suc m) n =
    let long : suc m + n ≡ suc (m + n) = omega arith in
    let from : (a + 1) + m ≡ a + suc m = omega arith in
    ap (range_with_len a) long ∙ ap (λ xs. a ∷ xs) (range_parts (a + 1) m n ∙ ap (λ f. range_with_len (a + 1) m ++ range_with_len f n) from)

-- the numbers below n are the numbers below m, and the others
below_parts : (m n : ℕ) → m ≤ n → range_with_len 0 n ≡ range_with_len 0 m ++ range_with_len m (n - m)
below_parts m n le =
    let long : n ≡ m + (n - m) = omega arith in
    let from : 0 + m ≡ m = omega arith in
    ap (range_with_len 0) long ∙ range_parts 0 m (n - m) ∙ ap (λ f. range_with_len 0 m ++ range_with_len f (n - m)) from

spaced-append : (xs ys : List ℕ) → spaced (xs ++ ys) ≡ spaced xs ++ spaced ys
spaced-append xs ys = flat_map-append (λ id. 32 ∷ decimal id) xs ys

-- the next identifier
pub spaced_next : (first n : ℕ) → spaced (range_with_len first (n + 1)) ≡ spaced (range_with_len first n) ++ 32 ∷ decimal (first + n)
spaced_next first n =
    ap spaced (range_parts first n 1) ∙ spaced-append (range_with_len first n) ((first + n) ∷ [])
    ∙ ap (λ t. spaced (range_with_len first n) ++ t) (append-nil (32 ∷ decimal (first + n)))

pub spaced_below : (n : ℕ) → spaced (range_with_len 0 (n + 1)) ≡ spaced (range_with_len 0 n) ++ 32 ∷ decimal n
spaced_below n =
    let last : 0 + n ≡ n = omega arith in
    spaced_next 0 n ∙ ap (λ k. spaced (range_with_len 0 n) ++ 32 ∷ decimal k) last

-- each identifier takes at most nine bytes
pub start_within : (n : ℕ) → n ≤ 10 ^ 8 → start_in n ≤ 9 * n
start_within zero le = omega arith
start_within (suc n) le =
    let one : suc n ≡ n + 1 = omega arith in
    let digits : length (decimal n) ≤ 8 = length-decimal-le_wide 8 n (omega arith) (omega arith) (omega arith) in
    omega (
      arith,
      start_within n (omega arith),
      digits,
      ap start_in one,
      ap length (spaced_below n),
      length-append (spaced (range_with_len 0 n)) (32 ∷ decimal n),
    )

-- the next start
pub starts_push : (starts : List ℕ) (start : ℕ) → AreStarts starts → start ≡ start_in (length starts) → AreStarts (starts ++ start ∷ [])
starts_push starts start are is id lt = ⊎_elim
    (λ before. get_or_append_left starts (start ∷ []) 0 id before ∙ are id before)
    (λ last.
    let here : id ≡ length starts = omega (arith, length-append starts (start ∷ [])) in
    ap (λ k. get_or (starts ++ start ∷ []) k 0) here ∙ get_or-append_seam starts start [] 0 ∙ is ∙ ap start_in (sym here))
    (cases_lt id (length starts))

-- a text of three parts, cut to the middle one
middle : (a b c : List ℕ) → take (length (a ++ b) - length a) (drop (length a) (a ++ (b ++ c))) ≡ b
middle a b c =
    let long : length (a ++ b) - length a ≡ length b = omega (arith, length-append a b) in
    ap (take (length (a ++ b) - length a)) (drop-append_seam a (b ++ c)) ∙ ap (λ k. take k (b ++ c)) long ∙ take-append_seam b c

-- the identifiers before the end of a range are those before its start, and the range
range_after : (first past : ℕ) → first ≤ past
    → spaced (range_with_len 0 past) ≡ spaced (range_with_len 0 first) ++ spaced (range_with_len first (past - first))
range_after first past le =
    ap spaced (below_parts first past le) ∙ spaced-append (range_with_len 0 first) (range_with_len first (past - first))

pub starts_rise : (first past : ℕ) → first ≤ past → start_in first ≤ start_in past
starts_rise first past le =
    let a = spaced (range_with_len 0 first) in
    let b = spaced (range_with_len first (past - first)) in
    omega (arith, ap length (range_after first past le), length-append a b)

pub part_of_text : (n first past : ℕ) → first ≤ past → past ≤ n
    → take (start_in past - start_in first) (drop (start_in first) (spaced (range_with_len 0 n)))
    ≡ spaced (range_with_len first (past - first))
part_of_text n first past le within =
    let a = spaced (range_with_len 0 first) in
    let b = spaced (range_with_len first (past - first)) in
    let c = spaced (range_with_len past (n - past)) in
    let to_past : spaced (range_with_len 0 past) ≡ a ++ b = range_after first past le in
    let whole : spaced (range_with_len 0 n) ≡ a ++ (b ++ c) = range_after past n within ∙ ap (λ t. t ++ c) to_past ∙ append_assoc a b c in
    ap (λ t. take (start_in past - start_in first) (drop (start_in first) t)) whole
    ∙ ap (λ t. take (length t - length a) (drop (length a) (a ++ (b ++ c)))) to_past
    ∙ middle a b c

-- the starts give the text of a range
pub range_within : (starts text : List ℕ) (n first past a b : ℕ) → AreStarts starts → text ≡ spaced (range_with_len 0 n) → n < length starts
    → first ≤ past → past ≤ n → a ≡ get_or starts first a → b ≡ get_or starts past b → (a ≤ b) × (b ≤ length text)
range_within starts text n first past a b are is long le most low high =
    let at_first = get_or_default starts first a 0 (omega arith) in
    let at_past = get_or_default starts past b 0 (omega arith) in
    let rises = starts_rise first past le in
    let inside = starts_rise past n most in
    (omega (arith, are first (omega arith), are past (omega arith)), omega (arith, are past (omega arith), ap length is))

pub range_is : (starts text : List ℕ) (n first past a b : ℕ) → AreStarts starts → text ≡ spaced (range_with_len 0 n) → n < length starts
    → first ≤ past → past ≤ n → a ≡ get_or starts first a → b ≡ get_or starts past b
    → take (b - a) (drop a text) ≡ spaced (range_with_len first (past - first))
range_is starts text n first past a b are is long le most low high =
    let at_first : a ≡ start_in first = low ∙ get_or_default starts first a 0 (omega arith) ∙ are first (omega arith) in
    let at_past : b ≡ start_in past = high ∙ get_or_default starts past b 0 (omega arith) ∙ are past (omega arith) in
    (λ j. take (at_past j - at_first j) (drop (at_first j) (is j))) ∙ part_of_text n first past le most

-- the text of one identifier
pub one_text : (id : ℕ) → spaced (range_with_len id ((id + 1) - id)) ≡ 32 ∷ decimal id
one_text id =
    let one : (id + 1) - id ≡ 1 = omega arith in
    ap (λ n. spaced (range_with_len id n)) one ∙ append-nil (32 ∷ decimal id)
