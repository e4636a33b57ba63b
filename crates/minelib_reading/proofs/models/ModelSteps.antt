-- What a line of a model file that states something encodes, and how it changes the content so far.
use Rattle.std.specs.Prelude.{Bool, Err, IsOk, List, Ok, Result, if◌then◌else◌, not, ℕ}
use Rattle.std.proofs.Common.{[], arith, false, length, refl, subst, sym, true, ◌++◌, ◌∷◌, ◌≡◌}
use Rattle.std.proofs.lemmas.Bool.{not-false, or_parts}
use Rattle.std.proofs.lemmas.List.{nil_from_length}
use Rattle.pit_units.proofs.Exactly.{Exactly, as_, counted, done, holds as passes, tested, then_}
use Rattle.plan_parts.specs.PlanInvariant.{is_turned, stands_before}
use Rattle.text_lines.specs.StatedFields.{field_at}
use Rattle.text_lines.specs.declared.text_fault.TextKind.{TextKind}
use Rattle.text_lines.specs.declared.text_fault.TextKind.TheVariants.{Fields, Key, Missing, Order, Twice}
use Rattle.minelib_lines.specs.declared.header_key.HeaderKey.{HeaderKey}
use Rattle.minelib_lines.specs.declared.header_key.HeaderKey.TheVariants as key
use Rattle.minelib_reading.proofs.keys.HeaderFacts.{name_kept, number_kept}
use Rattle.minelib_reading.proofs.keys.KeyNumbers.{number_back, number_reported, reported}
use Rattle.minelib_reading.proofs.lines.LineFacts.{coef_exact, limit_exact, values_exact}
use Rattle.minelib_reading.specs.HeaderNumbers.{count_in, is_given, with_key}
use Rattle.minelib_reading.specs.ModelDraft.{ModelDraftView, is_after, is_heading, is_next, is_ready, last_of, name_with}
use Rattle.minelib_reading.specs.ModelKeys.{number_stated}
use Rattle.minelib_reading.specs.ModelText.{item_stated, key_stated, section_stated}
use Rattle.minelib_reading.specs.StatedModel.{header_stated}
use Rattle.minelib_reading.specs.declared.model.key.Section.{Section}
use Rattle.minelib_reading.specs.declared.model.key.Section.TheVariants.{Coefs, Limits, Objective}
use Rattle.minelib_reading.specs.encoded.EncodedAdditions.{AddsItem, KeepsOthers, ReadsKey, StatesKey}
use Rattle.minelib_reading.specs.encoded.EncodedModel.{EncodesKey}

-- a header key with these fields after its colon
pub record SetsKey (d : ModelDraftView) (k : HeaderKey) (fields : List (List ℕ)) (next : ModelDraftView) : Type 0 where
  pub heading : is_heading d.section ≡ true
  pub new : is_given k d.header ≡ false
  pub value : List ℕ
  pub one : fields ≡ value ∷ []
  pub number : ℕ
  pub says : EncodesKey d.problem d.blocks (header_stated next.name next.header) k value
  pub is : next ≡ record d { header = with_key d.header k number; name = name_with k value d.name }

-- a section's key with these fields after its colon
pub record BeginsSection (d : ModelDraftView) (section : Section) (fields : List (List ℕ)) (next : ModelDraftView) : Type 0 where
  pub follows : is_next d.section section ≡ true
  pub none : fields ≡ []
  pub ready : is_ready d d.section ≡ true
  pub is : next ≡ record d { section = section }

-- a test that must pass
holds : {A : Type 0} {r : Result A TextKind} {P : A → Type 0} (fault : TextKind) (t : Bool) → Exactly r P
    → Exactly (if not t then Err fault else r) (λ y. (t ≡ true) × P y)
holds fault t all = tested fault (not-false t) (λ e. rw e refl) all

itself : {A : Type 0} (r : Result A TextKind) → Exactly r (λ y. r ≡ Ok y)
itself r = record { reported = λ y e. e; back = λ y e. e }

module _ (d : ModelDraftView) (k : HeaderKey) (fields : List (List ℕ)) where
  abbrev with_value : ℕ → ModelDraftView
  with_value number = record d { header = with_key d.header k number; name = name_with k (field_at fields 0) d.name }

  abbrev Sets : ModelDraftView → Type 0
  Sets next =
      (is_heading d.section ≡ true)
      × ((is_given k d.header ≡ false)
      × ((length fields ≡ 1)
      × ((number : ℕ) × (number_stated d.problem d.blocks k (field_at fields 0) ≡ Ok number) × (next ≡ with_value number))))

  pub key_exact : Exactly (key_stated d k fields) Sets
  unfolding key_stated
  key_exact =
      holds Key (is_heading d.section) (tested Twice (λ e. e) (λ e. e) (counted Fields (length fields) 1 (
      then_ (itself (number_stated d.problem d.blocks k (field_at fields 0))) (λ number. done (with_value number)))))

pub key_step : (d next : ModelDraftView) (k : HeaderKey) (fields : List (List ℕ)) → key_stated d k fields ≡ Ok next → SetsKey d k fields next
key_step d next k fields e = by fields ((key_exact d k fields).reported next e)
  where
    by : (fields : List (List ℕ)) → Sets d k fields next → SetsKey d k fields next
    by (value ∷ []) (heading, (new, (one, (number, stated, is)))) = record {
      heading = heading;
      new = new;
      value = value;
      one = refl;
      number = number;
      says = subst (λ (e : ModelDraftView). EncodesKey d.problem d.blocks (header_stated e.name e.header) k value) (sym is)
          (number_reported d.problem d.blocks k value d.name d.header number stated);
      is = is;
    }
    by [] (heading, (new, (one, h))) = absurd (omega (arith, one))
    by (value ∷ other ∷ more) (heading, (new, (one, h))) = absurd (omega (arith, one))

others_kept : (d : ModelDraftView) (k : HeaderKey) (value : List ℕ) (number : ℕ)
    → KeepsOthers d k (record d { header = with_key d.header k number; name = name_with k value d.name })
others_kept d k value number = record {
  numbers = λ j differ. number_kept d.header k j number differ;
  name = name_kept k value d.name;
  rest = refl;
}

-- the value encodes what its key then states, and other keys are unchanged
pub key_encoded : (d next : ModelDraftView) (k : HeaderKey) (fields : List (List ℕ)) → key_stated d k fields ≡ Ok next → StatesKey d k fields next
key_encoded d next k fields e =
    let s = key_step d next k fields e in
    (s.value, s.one, s.says, subst (KeepsOthers d k) (sym s.is) (others_kept d k s.value s.number))

-- and a value that encodes something is read
pub key_read : (k : HeaderKey) → ReadsKey k
key_read k d h value heading new encodes =
    let number = number_back d.problem d.blocks h k value encodes in
    let read = (key_exact d k (value ∷ [])).back (with_value d k (value ∷ []) (reported h k)) (heading, (new, (refl, (reported h k, number, refl)))) in
    subst IsOk (sym read) refl

pub section_step : (d next : ModelDraftView) (section : Section) (fields : List (List ℕ)) → section_stated d section fields ≡ Ok next
    → BeginsSection d section fields next
unfolding section_stated
section_step d next section fields e =
    let s = (holds Key (is_next d.section section) (counted Fields (length fields) 0 (
    holds Missing (is_ready d d.section) (done (record d { section = section }))))).reported next e in
    record { follows = s.0; none = nil_from_length fields s.1.0; ready = s.1.1.0; is = s.1.1.1 }

-- a line adds the values of a block, a coefficient or a limit if and only if its fields encode it, and it follows the last one
module _ (d : ModelDraftView) (fields : List (List ℕ)) where
  pub values_added : Exactly (item_stated d Objective fields) (AddsItem d Objective fields)
  values_added =
      as_ (then_ (values_exact d.blocks (count_in d.header key.Destinations) (length d.values) fields) (λ vs.
      done (record d { values = d.values ++ vs ∷ [] })))
      (λ next h. (h.0, h.2, h.1)) (λ next h. (h.0, h.2, h.1))

  pub coef_added : Exactly (item_stated d Coefs fields) (AddsItem d Coefs fields)
  coef_added =
      as_ (then_ (coef_exact d.problem d.blocks (count_in d.header key.Destinations) (count_in d.header key.Resources) fields) (λ c.
      passes Order (done (record d { coefs = d.coefs ++ c ∷ [] })))) (λ next h. (h.0, h.2.1, h.1, h.2.0)) (λ next h. (h.0, h.2, (h.3, h.1)))

  pub limit_added : Exactly (item_stated d Limits fields) (AddsItem d Limits fields)
  limit_added =
      as_ (then_ (limit_exact (count_in d.header key.Resources) (count_in d.header key.Periods) fields) (λ l.
      tested {T = (is_turned l.bound ≡ false) × (is_after stands_before (last_of d.limits) l ≡ true)} Order
      (λ e. let p = or_parts _ _ e in (p.0, not-false (is_after stands_before (last_of d.limits) l) p.1)) (λ h. rw (h.0, h.1) refl)
      (done (record d { limits = d.limits ++ l ∷ [] }))))
      (λ next h. (h.0, h.2.1, h.1, h.2.0.0, h.2.0.1)) (λ next h. (h.0, h.2, ((h.3, h.4), h.1)))
