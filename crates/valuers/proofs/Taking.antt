-- One more message of a taker, and what is handed on of it.
use Rattle.std.proofs.Common.{◌≡◌, ◌++◌, List, [], ◌∷◌, length, take, drop, refl, arith, ap, sym, ◌∙◌, append_assoc, length-append, length-take}
use Rattle.std.proofs.Math.Seq.{take-append_seam, take-length}
use Rattle.std.proofs.lemmas.Bool.{true≢false}
use Rattle.std.proofs.lemmas.List.Elements.{All-append}
use Rattle.std.proofs.lemmas.List.{drop-append-le, take-append-le}
use Rattle.std.specs.Prelude.{All, Result, Ok, Err, OnOk, OnErr, IsFalse}
use Rattle.std.specs.Result.{is_err}
use Rattle.lane.specs.declared.message.Taken.{Taken}
use Rattle.lane.specs.declared.message.Taken.TheVariants.{Row, End, Stop, Quit}
use Rattle.plan_parts.specs.declared.formulas.formula.Formula.{Formula}
use Rattle.rows.specs.declared.item.Item.{Item}
use Rattle.rows.specs.declared.item.Item.TheVariants as item
use Rattle.rows.specs.Valued.{row_by}
use Rattle.valuers.specs.Valuing.{items_by}

module _ (first later : List Taken) (m : Taken) (h : later ≡ first ++ drop (length first) later) where
  pub after_more : drop (length first) (later ++ m ∷ []) ≡ drop (length first) later ++ m ∷ []
  after_more =
      drop-append-le
      (length first)
      later
      (m ∷ [])
      (omega (arith, ap length h, length-append first (drop (length first) later)))

  pub took_more : later ++ m ∷ [] ≡ first ++ drop (length first) (later ++ m ∷ [])
  took_more =
      ap (λ w. w ++ m ∷ []) h
      ∙ append_assoc first (drop (length first) later) (m ∷ [])
      ∙ ap (λ w. first ++ w) (sym after_more)

pub items_of_both : (formulas : List Formula) (xs ys : List Taken)
    → items_by formulas (xs ++ ys) ≡ items_by formulas xs ++ items_by formulas ys
items_of_both formulas [] ys = refl
items_of_both formulas (Row file place block ∷ xs) ys =
    ap (λ w. item.Row (row_by formulas file place block) ∷ w) (items_of_both formulas xs ys)
items_of_both formulas (End file rows ∷ xs) ys = ap (λ w. item.End file rows ∷ w) (items_of_both formulas xs ys)
items_of_both formulas (Stop ∷ xs) ys = items_of_both formulas xs ys
items_of_both formulas (Quit ∷ xs) ys = items_of_both formulas xs ys

pub prefix_more : (prefix xs ys : List Item) → prefix ≡ take (length prefix) xs → prefix ≡ take (length prefix) (xs ++ ys)
prefix_more prefix xs ys h =
    h ∙ sym (take-append-le (length prefix) xs ys (omega (arith, ap length h, length-take (length prefix) xs)))

-- what was handed on still is a front, where one more message was taken
module _ (formulas : List Formula) (first later : List Taken) (m : Taken) (h : later ≡ first ++ drop (length first) later) where
  pub items_more : items_by formulas (drop (length first) (later ++ m ∷ []))
      ≡ items_by formulas (drop (length first) later) ++ items_by formulas (m ∷ [])
  items_more =
      ap (items_by formulas) (after_more first later m h) ∙ items_of_both formulas (drop (length first) later) (m ∷ [])

  pub prefix_stays : (prefix : List Item) → prefix ≡ take (length prefix) (items_by formulas (drop (length first) later))
      → prefix ≡ take (length prefix) (items_by formulas (drop (length first) (later ++ m ∷ [])))
  prefix_stays prefix is =
      rw items_more (prefix_more prefix (items_by formulas (drop (length first) later)) (items_by formulas (m ∷ [])) is)

-- an item was appended or refused: the items are all or still a front of all
module _ {E : Type 0} (old new more all : List Item) (is : all ≡ old ++ more) where
  pub all_where_pushed : (r : Result (Unit {0}) E) → OnOk r (new ≡ old ++ more) → IsFalse (is_err r) → new ≡ all
  all_where_pushed (Ok done) pushed fine = pushed ∙ sym is
  all_where_pushed (Err fault) pushed fine = absurd (true≢false fine)

  pub prefix_where_pushed : (r : Result (Unit {0}) E) → OnOk r (new ≡ old ++ more) → OnErr r (new ≡ old) → new ≡ take (length new) all
  prefix_where_pushed (Ok done) pushed kept = rw (pushed ∙ sym is) (sym (take-length all))
  prefix_where_pushed (Err fault) pushed kept = rw (kept, is) (sym (take-append_seam old more))

-- what holds of the items before and of what was appended holds of all
pub all_stay : {E : Type 0} (P : Item → Type 0) (old new more : List Item) (r : Result (Unit {0}) E) → OnOk r (new ≡ old ++ more)
    → OnErr r (new ≡ old) → OnOk r (All P more) → All P old → All P new
all_stay P old new more (Ok done) pushed kept are so_far = rw pushed (All-append P old more so_far are)
all_stay P old new more (Err fault) pushed kept are so_far = rw kept so_far
