-- The kind of a line's fault is the kind of the first requirement that it violates.
use Rattle.std.specs.Prelude.{Bool, Err, List, Ok, Result, if◌then◌else◌, not, pos, unsigned_abs, ℕ, ℤ, ◌*◌, ◌-ℤ◌, ◌/◌, ◌==◌, ◌^◌, ◌||◌, ◌≢◌}
use Rattle.std.proofs.Common.{All, [], ap, subst, sym, ◌∙◌, arith, drop, false, length, refl, true, ◌<◌, ◌∷◌, ◌≡◌}
use Rattle.std.proofs.lemmas.Bool.{eq-eqb, eqb-false, eqb-true, le-ltb, ne_eqb, not-false, not-true}
use Rattle.std.proofs.lemmas.List.{nil_from_length}
use Rattle.std.proofs.lemmas.List.Elements.{All-cons, All-nil}
use Rattle.std.specs.List.{AllZip}
use Rattle.pit_units.specs.EncodedNumbers.{EncodesBelow}
use Rattle.text_lines.proofs.LaterFields.{all_each}
use Rattle.text_lines.specs.FieldValues.{all_by, first_by}
use Rattle.pit_units.proofs.Fails.{Fails, fails_after, fails_here, fails_then, other_fault}
use Rattle.pit_units.specs.Decimal.{decimal_within}
use Rattle.pit_units.specs.Steps.{◌>>=◌, each_of}
use Rattle.pit_units.specs.declared.fault.DecFault.{DecFault}
use Rattle.pit_units.specs.declared.fault.DecFault.TheVariants as dec
use Rattle.mine_instance.specs.Valid.{ArePredsOf}
use Rattle.pit_units.proofs.Exactly.{each}
use Rattle.text_lines.proofs.FieldFacts.{below}
use Rattle.text_lines.specs.StatedFields.{below_in, number_in, number_in_field}
use Rattle.text_lines.specs.declared.text_fault.TextKind.{TextKind}
use Rattle.text_lines.specs.declared.text_fault.TextKind.TheVariants.{Count, Fields, Key, Missing, Number, Order, Range, TooFine, Twice}
use Rattle.minelib_reading.proofs.lines.FormFacts.{first_step}
use Rattle.minelib_reading.proofs.lines.PrecTests.{passed_preds, preds_pass}
use Rattle.minelib_reading.specs.ModelDraft.{ModelDraftView, is_next, is_ready}
use Rattle.minelib_reading.specs.ModelText.{section_stated}
use Rattle.minelib_reading.specs.PrecText.{preds_stated}
use Rattle.minelib_reading.specs.LineFields.{item_in}
use Rattle.minelib_reading.specs.LineForms.{all_differ, preds_form, preds_with, has_id}
use Rattle.minelib_reading.specs.declared.model.key.Section.{Section}
use Rattle.minelib_reading.specs.encoded.EncodedItems.{NumbersThen}

below_each : (n : ℕ) (fields : List (List ℕ)) (ids : List ℕ) → AllZip (EncodesBelow n) fields ids → All (λ id. id < n) ids
below_each n [] [] h = All-nil (λ id. id < n)
below_each n (field ∷ fields) (id ∷ ids) h = All-cons (λ id. id < n) id ids h.0.1 (below_each n fields ids h.1)
below_each n fields ids h = absurd h

-- after a test for another fault
unless : {A : Type 0} {r : Result A TextKind} {kind : TextKind} (t : Bool) (other : TextKind) → other ≢ kind → r ≢ Err kind
    → (if t then Err other else r) ≢ Err kind
unless {A} {r} {kind} true other differs never e = differs (other_fault other kind e)
unless {A} {r} {kind} false other differs never e = never e

-- a number has only a number's faults
module _ (kind : TextKind) (no_number : Number ≢ kind) (no_fine : TooFine ≢ kind) (no_range : Range ≢ kind) where
  said_never : (d : Result ℤ DecFault) → number_in_field d ≢ Err kind
  said_never (Ok m) e = absurd cc
  said_never (Err dec.Number) e = no_number (other_fault Number kind e)
  said_never (Err dec.TooFine) e = no_fine (other_fault TooFine kind e)
  said_never (Err dec.Range) e = no_range (other_fault Range kind e)

  below_never : (limit : ℕ) (field : List ℕ) → below_in limit field ≢ Err kind
  unfolding below_in
  below_never limit field e =
      by (number_in 0 (pos 0) (pos (limit * 10 ^ 6) -ℤ pos 1) field) (said_never (decimal_within 0 (pos 0) (pos (limit * 10 ^ 6) -ℤ pos 1) field)) e
    where
      by : (r : Result ℤ TextKind) → r ≢ Err kind → (r >>= λ m. Ok (unsigned_abs m / 10 ^ 6)) ≡ Err kind → ⊥
      by (Ok m) never e = absurd cc
      by (Err other) never e = never (ap Err (other_fault other kind e))

  each_never : (limit : ℕ) (fields : List (List ℕ)) → each_of (below_in limit) fields ≢ Err kind
  each_never limit [] e = absurd cc
  each_never limit (field ∷ fields) e =
      by (below_in limit field) (below_never limit field) (each_of (below_in limit) fields) (each_never limit fields) e
    where
      by : (r : Result ℕ TextKind) → r ≢ Err kind → (rest : Result (List ℕ) TextKind) → rest ≢ Err kind
          → (r >>= λ x. rest >>= λ xs. Ok (x ∷ xs)) ≡ Err kind → ⊥
      by (Ok x) never (Ok xs) later e = absurd cc
      by (Ok x) never (Err other) later e = later (ap Err (other_fault other kind e))
      by (Err other) never rest later e = never (ap Err (other_fault other kind e))

  -- the numbers of a line of predecessors, and then the fault
  numbers_then : (n own : ℕ) (fields : List (List ℕ)) {Q : ℕ → ℕ → List ℕ → Type 0} → Fields ≢ kind
      → ((id k : ℕ) (ids : List ℕ) → Fails (preds_with own id k ids) kind (Q id k ids)) → Fails (preds_stated n own fields) kind (NumbersThen n fields Q)
  unfolding preds_stated
  numbers_then n own [] no_fields following =
      record { reported = λ e. absurd (no_fields (other_fault Fields kind e)); back = λ h. absurd (omega (arith, h.0)) }
  numbers_then n own (id ∷ []) no_fields following =
      record { reported = λ e. absurd (no_fields (other_fault Fields kind e)); back = λ h. absurd (omega (arith, h.0)) }
  numbers_then n own (first ∷ second ∷ others) {Q} no_fields following =
      fails_after Fields no_fields (λ e. omega arith) (λ h. le-ltb _ 2 h)
      (subst (λ r. Fails r kind Numbers) same (
      fails_then kind (below n first) (below_never n first) (λ id.
      fails_then kind (below n second) (below_never n second) (λ k.
      fails_then kind (each (below n) others) (each_never n others) (λ ids.
      following id k ids)))))
    where
      Numbers : Type 0
      Numbers = (id : ℕ) × EncodesBelow n first id × ((k : ℕ) × EncodesBelow n second k × ((ids : List ℕ) × AllZip (EncodesBelow n) others ids × Q id k ids))

      from_second : (id : ℕ)
          → (below_in n second >>= λ k. each_of (below_in n) others >>= preds_with own id k)
          ≡ (first_by (below_in n) (second ∷ others) >>= λ k. all_by (below_in n) [] k.1 >>= preds_with own id k.0)
      from_second id =
          (λ i. below_in n second >>= λ k. sym (all_each (below_in n) [] others (preds_with own id k)) i)
          ∙ first_step (below_in n second) others (λ k. all_by (below_in n) [] k.1 >>= preds_with own id k.0)

      same : (below_in n first >>= λ id. below_in n second >>= λ k. each_of (below_in n) others >>= preds_with own id k)
          ≡ item_in (preds_form n own) (first ∷ second ∷ others)
      same =
          (λ i. below_in n first >>= λ id. from_second id i)
          ∙ first_step (below_in n first) (second ∷ others) (λ id. first_by (below_in n) id.1 >>= λ k. all_by (below_in n) [] k.1 >>= preds_with own id.0 k.0)

pub order_fails : (n own : ℕ) (fields : List (List ℕ))
    → Fails (preds_stated n own fields) Order (NumbersThen n fields (λ id k ids. id ≢ own))
order_fails n own fields =
    numbers_then Order (λ e. absurd cc) (λ e. absurd cc) (λ e. absurd cc) n own fields (λ e. absurd cc) (λ id k ids.
    fails_here _ Order (λ e. eqb-false id own (not-true (id == own) e)) (λ differs. rw (ne_eqb id own differs) refl)
    (unless (not (k == length ids)) Count (λ e. absurd cc)
    (unless (has_id ids own || not (all_differ ids)) Twice (λ e. absurd cc) (λ e. absurd cc))))

pub count_fails : (n own : ℕ) (fields : List (List ℕ))
    → Fails (preds_stated n own fields) Count (NumbersThen n fields (λ id k ids. (id ≡ own) × (k ≢ length ids)))
count_fails n own fields =
    numbers_then Count (λ e. absurd cc) (λ e. absurd cc) (λ e. absurd cc) n own fields (λ e. absurd cc) (λ id k ids.
    fails_after Order (λ e. absurd cc) (λ e. eqb-true id own (not-false (id == own) e)) (λ is. rw (eq-eqb id own is) refl)
    (fails_here _ Count (λ e. eqb-false k (length ids) (not-true (k == length ids) e)) (λ differs. rw (ne_eqb k (length ids) differs) refl)
    (unless (has_id ids own || not (all_differ ids)) Twice (λ e. absurd cc) (λ e. absurd cc))))

pub twice_fails : (n own : ℕ) (fields : List (List ℕ))
    → Fails (preds_stated n own fields) Twice
    (NumbersThen n fields (λ id k ids. (id ≡ own) × ((k ≡ length ids) × ¬ (ArePredsOf own n ids))))
twice_fails n own fields = record { reported = λ e. to (steps.reported e); back = λ h. steps.back (from h) }
  where
    Tested : Type 0
    Tested = NumbersThen n fields (λ id k ids. (id ≡ own) × ((k ≡ length ids) × ((has_id ids own || not (all_differ ids)) ≡ true)))

    Twofold : Type 0
    Twofold = NumbersThen n fields (λ id k ids. (id ≡ own) × ((k ≡ length ids) × ¬ (ArePredsOf own n ids)))

    steps : Fails (preds_stated n own fields) Twice Tested
    steps =
        numbers_then Twice (λ e. absurd cc) (λ e. absurd cc) (λ e. absurd cc) n own fields (λ e. absurd cc) (λ id k ids.
        fails_after Order (λ e. absurd cc) (λ e. eqb-true id own (not-false (id == own) e)) (λ is. rw (eq-eqb id own is) refl)
        (fails_after Count (λ e. absurd cc) (λ e. eqb-true k (length ids) (not-false (k == length ids) e)) (λ is. rw (eq-eqb k (length ids) is) refl)
        (fails_here (Ok ids) Twice (λ e. e) (λ e. e) (λ e. absurd cc))))

    passes : (ids : List ℕ) → ArePredsOf own n ids → (has_id ids own || not (all_differ ids)) ≡ true → ⊥
    passes ids are fails = let p = preds_pass own n ids are in let none = rw (p.0, p.1) at fails in cc

    some_fails : (ids : List ℕ) → All (λ id. id < n) ids → ¬ (ArePredsOf own n ids) → (has_id ids own || not (all_differ ids)) ≡ true
    some_fails ids low never = by (has_id ids own) (all_differ ids) refl refl
      where
        by : (stands differ : Bool) → has_id ids own ≡ stands → all_differ ids ≡ differ → (stands || not differ) ≡ true
        by true differ e g = refl
        by false false e g = refl
        by false true e g = absurd (never (passed_preds own n ids low e g))

    to : Tested → Twofold
    to (two, (id, of_id, (k, of_k, (ids, of_ids, (own_is, (counts, fails)))))) =
        (two, (id, of_id, (k, of_k, (ids, of_ids, (own_is, (counts, λ are. passes ids are fails))))))

    from : Twofold → Tested
    from (two, (id, of_id, (k, of_k, (ids, of_ids, (own_is, (counts, fails)))))) =
        (two, (id, of_id, (k, of_k, (ids, of_ids, (own_is, (counts, some_fails ids (below_each n (drop 2 fields) ids of_ids) fails))))))

-- the line of a section's key
module _ (d : ModelDraftView) (section : Section) (fields : List (List ℕ)) where
  pub key_fails : Fails (section_stated d section fields) Key (is_next d.section section ≡ false)
  unfolding section_stated
  key_fails =
      fails_here _ Key (not-true (is_next d.section section)) (λ e. rw e refl)
      (unless (not (length fields == 0)) Fields (λ e. absurd cc)
      (unless (not (is_ready d d.section)) Missing (λ e. absurd cc) (λ e. absurd cc)))

  pub fields_fails : Fails (section_stated d section fields) Fields ((is_next d.section section ≡ true) × (fields ≢ []))
  unfolding section_stated
  fields_fails =
      fails_after Key (λ e. absurd cc) (not-false (is_next d.section section)) (λ e. rw e refl)
      (fails_here _ Fields (λ e none. eqb-false (length fields) 0 (not-true (length fields == 0) e) (ap length none))
      (λ some. rw (ne_eqb (length fields) 0 (λ e. some (nil_from_length fields e))) refl)
      (unless (not (is_ready d d.section)) Missing (λ e. absurd cc) (λ e. absurd cc)))

  pub missing_fails : Fails (section_stated d section fields) Missing
      ((is_next d.section section ≡ true) × ((fields ≡ []) × (is_ready d d.section ≡ false)))
  unfolding section_stated
  missing_fails =
      fails_after Key (λ e. absurd cc) (not-false (is_next d.section section)) (λ e. rw e refl)
      (fails_after Fields (λ e. absurd cc) (λ e. nil_from_length fields (eqb-true (length fields) 0 (not-false (length fields == 0) e)))
      (λ none. rw (eq-eqb (length fields) 0 (ap length none)) refl)
      (fails_here _ Missing (not-true (is_ready d d.section)) (λ e. rw e refl) (λ e. absurd cc)))
