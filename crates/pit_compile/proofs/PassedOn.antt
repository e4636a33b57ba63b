-- What the valuers hand on of a whole gathering is complete.
use Rattle.std.proofs.Common.{◌≡◌, ℕ, ◌+◌, ◌<◌, ◌≤◌, Bool, false, ◌&&◌, cond, eqb, List, [], ◌∷◌, length, map, get_or, Some, refl, sym, ap, subst, ◌∙◌, arith}
use Rattle.std.specs.List.{All, AllByRecursion, count_by, flat_map, sum_by, slice_get}
use Rattle.std.proofs.lemmas.Bool.Decides.{nat_tests}
use Rattle.std.proofs.lemmas.List.Elements.{recursion_from_All, All-from_recursion, All-append, All-nil, All-weaker}
use Rattle.std.proofs.lemmas.List.Sums.{sum_by-append, sum_by-cons}
use Rattle.std.proofs.lemmas.Option.{same_Some, slice_get_within, slice_get-get_or, get_or_from_slice_get}
use Rattle.collector.specs.Complete.{Fits, IsComplete}
use Rattle.collector.specs.Found.{is_row_at, is_end_of}
use Rattle.lane.specs.declared.message.Taken.{Taken}
use Rattle.lane.specs.declared.message.Taken.TheVariants.{Row, End}
use Rattle.lane.specs.Message.{is_at, IsEndedFrom}
use Rattle.lane.specs.MessageKinds.{row_count}
use Rattle.lane.specs.Whole.{GatheredView, IsSent, IsWhole}
use Rattle.pit_compile.proofs.SentRows.{counted, rows-counted, row-sent, end-sent, ended-length}
use Rattle.plan_parts.specs.declared.formulas.formula.Formula.{Formula}
use Rattle.rows.specs.Valued.{row_by}
use Rattle.valuers.specs.Valuing.{items_by, rows_by}
use Rattle.rows.specs.declared.item.Item.{Item}
use Rattle.rows.specs.declared.item.Item.TheVariants as item
use Rattle.rows.specs.declared.item.Valued.{Valued}

-- the item is a row of what its file sent, or its end mark with the number of these rows
abbrev pub IsOf : List Formula → List (List Taken) → Item → Type 0
IsOf fs sent (item.Row v) = (list : List Taken) × (slice_get sent v.file ≡ Some list) × (slice_get (rows_by fs list) v.place ≡ Some v)
IsOf fs sent (item.End file n) = (list : List Taken) × (slice_get sent file ≡ Some list) × (n ≡ length (rows_by fs list))

abbrev AreEnded : List (List Taken) → Type 0
AreEnded sent = (file : ℕ) (list : List Taken) → slice_get sent file ≡ Some list → IsEndedFrom file 0 list

-- of the file that sent this list
pub row-of : (fs : List Formula) (sent : List (List Taken)) (file : ℕ) (list : List Taken) (v : Valued) → slice_get sent file ≡ Some list →
    v.file ≡ file → IsOf fs sent (item.Row v) → slice_get (rows_by fs list) v.place ≡ Some v
row-of fs sent file list v got same of =
    ap (λ l. slice_get (rows_by fs l) v.place) (same_Some list of.0 (sym got ∙ sym (ap (slice_get sent) same) ∙ of.1)) ∙ of.2

pub end-of : (fs : List Formula) (sent : List (List Taken)) (file : ℕ) (list : List Taken) (f n : ℕ) → slice_get sent file ≡ Some list →
    f ≡ file → IsOf fs sent (item.End f n) → n ≡ length (rows_by fs list)
end-of fs sent file list f n got same of =
    of.2 ∙ ap (λ l. length (rows_by fs l)) (same_Some of.0 list (sym of.1 ∙ ap (slice_get sent) same ∙ got))

-- what a valuer hands on of messages that were sent
are-of : (fs : List Formula) (sent : List (List Taken)) → AreEnded sent → (ms : List Taken) → AllByRecursion (IsSent sent) ms →
    AllByRecursion (IsOf fs sent) (items_by fs ms)
are-of fs sent ended [] all = tt
are-of fs sent ended (Row f p b ∷ ms) all =
    let at = all.0 in
    ((at.0, at.1, row-sent fs f 0 p f p b at.0 (ended f at.0 at.1) at.2), are-of fs sent ended ms all.1)
are-of fs sent ended (End f n ∷ ms) all =
    let at = all.0 in
    ((at.0, at.1, end-sent fs f 0 n f n at.0 (ended f at.0 at.1) at.2), are-of fs sent ended ms all.1)
are-of fs sent ended (m ∷ ms) all = are-of fs sent ended ms all.1

-- what all valuers hand on
abbrev pub all_items : List (List Item) → List Item
all_items lists = flat_map (λ list. list) lists

-- so it is with it
all-there : (fs : List Formula) (sent : List (List Taken)) → AreEnded sent → (tooks : List (List Taken)) →
    AllByRecursion (λ took. All (IsSent sent) took) tooks → All (IsOf fs sent) (all_items (map (items_by fs) tooks))
all-there fs sent ended [] all = All-nil (IsOf fs sent)
all-there fs sent ended (took ∷ tooks) all =
    All-append (IsOf fs sent) (items_by fs took) (all_items (map (items_by fs) tooks))
    (All-from_recursion (IsOf fs sent) (items_by fs took)
    (are-of fs sent ended took (recursion_from_All (IsSent sent) took all.0)))
    (all-there fs sent ended tooks all.1)

-- whether it is the file's item of that position: a row at its place, an end mark behind its rows
abbrev is_item_at : ℕ → ℕ → Item → Bool
is_item_at file p (item.Row v) = eqb v.file file && eqb v.place p
is_item_at file p (item.End f n) = eqb f file && eqb n p

-- counts of one list and of another go together
counted-same : {X Y : Type 0} (p : X → Bool) (q : Y → Bool) (x : X) (y : Y) (xs : List X) (ys : List Y) → p x ≡ q y →
    count_by p xs ≡ count_by q ys → count_by p (x ∷ xs) ≡ count_by q (y ∷ ys)
counted-same p q x y xs ys same rest =
    counted p x xs ∙ ap (λ b. cond b 1 0 + count_by p xs) same ∙ ap (λ n. cond (q y) 1 0 + n) rest ∙ sym (counted q y ys)

-- of a position as many items are handed on as messages were taken
items-taken : (fs : List Formula) (file p : ℕ) (ms : List Taken) → count_by (is_item_at file p) (items_by fs ms) ≡ count_by (is_at file p) ms
items-taken fs file p [] = refl
items-taken fs file p (Row f q b ∷ ms) =
    counted-same (is_item_at file p) (is_at file p) (item.Row (row_by fs f q b)) (Row f q b) (items_by fs ms) ms refl (items-taken fs file p ms)
items-taken fs file p (End f n ∷ ms) =
    counted-same (is_item_at file p) (is_at file p) (item.End f n) (End f n) (items_by fs ms) ms refl (items-taken fs file p ms)
items-taken fs file p (m ∷ ms) =
    let none : count_by (is_at file p) (m ∷ ms) ≡ 0 + count_by (is_at file p) ms = counted (is_at file p) m ms in
    omega (arith, none, items-taken fs file p ms)

all-taken : (fs : List Formula) (file p : ℕ) (tooks : List (List Taken)) →
    count_by (is_item_at file p) (all_items (map (items_by fs) tooks)) ≡ sum_by (λ took. count_by (is_at file p) took) tooks
all-taken fs file p [] = refl
all-taken fs file p (took ∷ tooks) =
    sum_by-append (λ x. cond (is_item_at file p x) 1 0) (items_by fs took) (all_items (map (items_by fs) tooks))
    ∙ ap (λ n. n + count_by (is_item_at file p) (all_items (map (items_by fs) tooks))) (items-taken fs file p took)
    ∙ ap (λ n. count_by (is_at file p) took + n) (all-taken fs file p tooks)
    ∙ sym (sum_by-cons (λ t. count_by (is_at file p) t) took tooks)

-- tests that answer the same of each item count the same
count-same : (p q : Item → Bool) (items : List Item) → AllByRecursion (λ i. p i ≡ q i) items → count_by p items ≡ count_by q items
count-same p q [] all = refl
count-same p q (i ∷ items) all = counted-same p q i i items items all.0 (count-same p q items all.1)

not-both : (f file p r : ℕ) → (f ≡ file → p ≡ r → ⊥) → (eqb f file && eqb p r) ≡ false
not-both f file p r differs = grind (arith, nat_tests, differs)

as-both : (f file n r : ℕ) → (f ≡ file → n ≡ r) → eqb f file ≡ (eqb f file && eqb n r)
as-both f file n r same_then = grind (arith, nat_tests, same_then)

-- the end mark of a file stands behind its rows, and a row before it
end-at : (fs : List Formula) (sent : List (List Taken)) (file : ℕ) (list : List Taken) → slice_get sent file ≡ Some list → (i : Item) →
    IsOf fs sent i → is_end_of file i ≡ is_item_at file (length (rows_by fs list)) i
end-at fs sent file list got (item.Row v) of =
    sym (not-both v.file file v.place (length (rows_by fs list)) (λ same at_end.
    let within = slice_get_within (rows_by fs list) v.place v (row-of fs sent file list v got same of) in
    omega arith))
end-at fs sent file list got (item.End f n) of =
    as-both f file n (length (rows_by fs list)) (λ same. end-of fs sent file list f n got same of)

row-at : (fs : List Formula) (sent : List (List Taken)) (file place : ℕ) (list : List Taken) → slice_get sent file ≡ Some list →
    place < length (rows_by fs list) → (i : Item) → IsOf fs sent i → is_row_at file place i ≡ is_item_at file place i
row-at fs sent file place list got below (item.Row v) of = refl
row-at fs sent file place list got below (item.End f n) of =
    sym (not-both f file n place (λ same at_place. let following = end-of fs sent file list f n got same of in omega arith))

-- the number of rows that a file sent
abbrev size : List Formula → List (List Taken) → ℕ → ℕ
size fs sent file = length (rows_by fs (get_or sent file []))

fits : (fs : List Formula) (sent : List (List Taken)) (i : Item) → IsOf fs sent i → Fits (length sent) (size fs sent) i
fits fs sent (item.Row v) of = (
  slice_get_within sent v.file of.0 of.1,
  subst (λ (l : List Taken). v.place < length (rows_by fs l)) (sym (get_or_from_slice_get sent v.file of.0 [] of.1))
      (slice_get_within (rows_by fs of.0) v.place v of.2),
)
fits fs sent (item.End f n) of = (
  slice_get_within sent f of.0 of.1,
  of.2 ∙ ap (λ l. length (rows_by fs l)) (sym (get_or_from_slice_get sent f of.0 [] of.1)),
)

pub all-of : (fs : List Formula) (g : GatheredView) → IsWhole g → All (IsOf fs g.sent) (all_items (map (items_by fs) g.took))
all-of fs g whole =
    all-there fs g.sent whole.sents g.took (recursion_from_All (λ took. All (IsSent g.sent) took) g.took whole.only)

-- one item has the position of a message that was sent
once : (fs : List Formula) (g : GatheredView) → IsWhole g → (test : Item → Bool) (file p : ℕ) (list : List Taken) →
    slice_get g.sent file ≡ Some list → p < length list → ((i : Item) → IsOf fs g.sent i → test i ≡ is_item_at file p i) →
    count_by test (all_items (map (items_by fs) g.took)) ≡ 1
once fs g whole test file p list got within same =
    let items = all_items (map (items_by fs) g.took) in
    let Same : Item → Type 0 = λ i. test i ≡ is_item_at file p i in
    count-same test (is_item_at file p) items
    (recursion_from_All Same items (All-weaker (IsOf fs g.sent) Same same items (all-of fs g whole)))
    ∙ all-taken fs file p g.took ∙ whole.once file p list got within

pub complete : (fs : List Formula) (g : GatheredView) → IsWhole g → All (λ list. row_count list ≤ 1000000) g.sent →
    IsComplete (length g.sent) (all_items (map (items_by fs) g.took))
complete fs g whole few =
    let list : ℕ → List Taken = λ file. get_or g.sent file [] in
    let got : (file : ℕ) → file < length g.sent → slice_get g.sent file ≡ Some (list file)
    = λ file within. slice_get-get_or g.sent file [] within in
    let long : (file : ℕ) → file < length g.sent → length (list file) ≡ size fs g.sent file + 1
    = λ file within. ended-length fs file 0 (list file) (whole.sents file (list file) (got file within)) in
    record {
      counts = size fs g.sent;
      few = λ file within.
          subst (λ (n : ℕ). n ≤ 1000000) (sym (rows-counted fs (list file))) (few file [] within);
      ends = λ file within.
          once fs g whole (is_end_of file) file (size fs g.sent file) (list file) (got file within) (omega (arith, long file within))
          (end-at fs g.sent file (list file) (got file within));
      rows = λ file place within below.
          once fs g whole (is_row_at file place) file place (list file) (got file within) (omega (arith, long file within))
          (row-at fs g.sent file place (list file) (got file within) below);
      others = All-weaker (IsOf fs g.sent) (Fits (length g.sent) (size fs g.sent)) (fits fs g.sent)
          (all_items (map (items_by fs) g.took)) (all-of fs g whole);
    }
