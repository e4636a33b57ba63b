-- The places of a file's rows after another row.
use Rattle.std.proofs.Common.{◌≡◌, ℕ, ◌≤◌, eqb, false, List, length, Some, None, refl, sym, ap, ◌∙◌, ⊎_elim}
use Rattle.std.specs.List.{slice_get}
use Rattle.std.specs.Option.{option_and_then}
use Rattle.std.proofs.lemmas.Bool.{cond-true, cond-false, cases_lt, eqb-true, false_from_ne_true, eq-eqb}
use Rattle.std.proofs.lemmas.Option.{slice_get_past}
use Rattle.rows.specs.declared.item.Valued.{Valued}
use Rattle.collector.specs.inner.ItemsByFile.{if_at, slot}
use Rattle.collector.specs.inner.WithAt.{with_at}
use Rattle.collector.proofs.WithAt.{get-kept, get-new, get-store}

pub eqb-other : (a b : ℕ) → (a ≡ b → ⊥) → eqb a b ≡ false
eqb-other a b differs = false_from_ne_true (eqb a b) (λ e. differs (eqb-true a b e))

pub if_at-other : (v : Valued) (place : ℕ) → (v.place ≡ place → ⊥) → if_at place v ≡ None
if_at-other v place differs = cond-false (eqb v.place place) (Some v) None (eqb-other v.place place differs)

pub if_at-same : (v : Valued) (place : ℕ) → v.place ≡ place → if_at place v ≡ Some v
if_at-same v place e = cond-true (eqb v.place place) (Some v) None (eq-eqb v.place place e)

pub slot-at : (rows : List Valued) (place : ℕ) (v : Valued) → slice_get rows place ≡ Some v → slot rows place ≡ if_at place v
slot-at rows place v e = ap (option_and_then (if_at place)) e

pub slot-past : (rows : List Valued) (place : ℕ) → length rows ≤ place → slot rows place ≡ None
slot-past rows place past = ap (option_and_then (if_at place)) (slice_get_past rows place past)

-- the row that was stored, at its place
pub slot-store : (rows : List Valued) (v : Valued) → slot (with_at rows v.place v) v.place ≡ Some v
slot-store rows v = slot-at (with_at rows v.place v) v.place v (get-store rows v.place v) ∙ if_at-same v v.place refl

-- and the rows of other places: a place that is filled by a row of another place is as empty as before
pub slot-kept : (rows : List Valued) (v : Valued) (place : ℕ) → (v.place ≡ place → ⊥)
    → slot (with_at rows v.place v) place ≡ slot rows place
slot-kept rows v place differs =
    ⊎_elim (λ within. ap (option_and_then (if_at place)) (get-kept rows v.place place v (λ e. differs (sym e)) within))
    (λ past. ⊎_elim
    (λ filled. slot-at (with_at rows v.place v) place v filled ∙ if_at-other v place differs ∙ sym (slot-past rows place past))
    (λ beyond. slot-past (with_at rows v.place v) place beyond ∙ sym (slot-past rows place past))
    (get-new rows v.place place v past))
    (cases_lt place (length rows))
