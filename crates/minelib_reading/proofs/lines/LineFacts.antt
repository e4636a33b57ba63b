-- A line states exactly what its fields encode.
use Rattle.std.specs.Prelude.{List, Ok, ℕ, ℤ, ◌%◌, ◌*◌, ◌/◌, ◌^◌}
use Rattle.std.proofs.Common.{[], ap, arith, false, length, refl, subst, sym, true, ◌+◌, ◌∙◌, ◌∷◌, ◌≡◌, ◌≤◌}
use Rattle.std.proofs.lemmas.List.{length-map}
use Rattle.std.proofs.lemmas.Bool.{not-false, or_parts}
use Rattle.std.proofs.lemmas.Bool.Decides.{nat_tests}
use Rattle.std.specs.List.{list_any}
use Rattle.pit_units.proofs.Exactly.{Exactly, as_, counted, done, tested}
use Rattle.plan_parts.proofs.BlockFacts.{block_again, block_parts}
use Rattle.plan_parts.specs.Block.{block_with}
use Rattle.plan_parts.specs.declared.block.Block.{Block}
use Rattle.plan_parts.specs.declared.limit.Bound.{Bound}
use Rattle.plan_parts.specs.declared.limit.Bound.TheVariants.{AtLeast, AtMost, Between}
use Rattle.plan_parts.specs.declared.limit.Limit.{Limit}
use Rattle.mine_instance.specs.Valid.{ArePredsOf}
use Rattle.mine_instance.specs.declared.coefs.coef.Coef.{Coef}
use Rattle.minelib_lines.specs.declared.problem.Problem.{Problem}
use Rattle.minelib_lines.specs.declared.problem.Problem.TheVariants.{Cpit, Pcpsp}
use Rattle.text_lines.specs.TextLines.{fields_of}
use Rattle.text_lines.specs.declared.text_fault.TextKind.TheVariants.{Count, Fields, Order, Twice}
use Rattle.minelib_reading.proofs.lines.FormFacts.{Makes, each_fits, item_exact, line_exact, line_keyless, same_width}
use Rattle.minelib_reading.proofs.lines.PrecTests.{passed_preds, preds_pass}
use Rattle.minelib_reading.specs.BlockText.{block_stated}
use Rattle.minelib_reading.specs.LineFields.{Below, Decimal, Field, fields_by, item_in, letter_text}
use Rattle.minelib_reading.specs.LineForms.{all_differ, block_form, bound_form, coef_form, first_of, letter_of, limit_form, preds_form, second_of, has_id, values_form}
use Rattle.minelib_reading.specs.ModelKeys.{is_colon}
use Rattle.minelib_reading.specs.ModelText.{coef_stated, limit_stated, limit_width, values_stated}
use Rattle.minelib_reading.specs.PrecText.{preds_stated}
use Rattle.minelib_reading.specs.declared.model.limit_lines.LimitLetter.{LimitLetter}
use Rattle.minelib_reading.specs.declared.model.limit_lines.LimitLetter.TheVariants.{G, I, L}
use Rattle.minelib_reading.specs.encoded.EncodedItems.{EncodesBlock, EncodesCoef, EncodesLimit, EncodesPreds, EncodesValues}

-- nothing else of an item
abbrev All_ : {A : Type 0} → A → Type 0
All_ x = Unit {0}

-- a block
block_makes : (before : ℕ) → Makes (block_form before) All_
block_makes before id _ x in_x y in_y z in_z tonnes in_tonnes grade in_grade zone in_zone = as_ (counted Order id before (done made)) to from
  where
    made : Block
    made = block_with x y z (tonnes / 1000) grade zone

    Parts : Block → Type 0
    Parts b =
        (b.zone ≡ zone) × ((b.grade ≡ grade) × ((b.kg * 1000 ≡ tonnes) × ((b.z ≡ z) × ((b.y ≡ y) × ((b.x ≡ x) × ((before ≡ id) × Unit {0}))))))

    to : (b : Block) → (id ≡ before) × (b ≡ made) → Parts b
    to b (own, is) =
        let rest : tonnes % 10 ^ 3 ≡ 0 = in_tonnes.1 in
        let parts = block_parts x y z (tonnes / 1000) grade zone (in_x, in_y, in_z, omega (arith, in_tonnes.0), in_grade, in_zone) in
        let kg = ap (λ kg. kg * 1000) parts.3 ∙ omega (arith, rest) in
        subst Parts (sym is) (parts.5, (parts.4, (kg, (parts.2, (parts.1, (parts.0, (sym own, tt)))))))

    from : (b : Block) → Parts b → (id ≡ before) × (b ≡ made)
    from b (of_zone, (of_grade, (of_kg, (of_z, (of_y, (of_x, (own, _))))))) =
        let kg : tonnes / 1000 ≡ b.kg = omega (arith, of_kg) in
        (sym own, sym (rw (sym of_x, sym of_y, sym of_z, kg, sym of_grade, sym of_zone) (block_again b)))

pub block_fields_exact : (before : ℕ) (fields : List (List ℕ))
    → Exactly (item_in (block_form before) fields) (λ b. EncodesBlock before fields b × Unit {0})
block_fields_exact before fields = item_exact (block_form before) fields All_ (block_makes before)

pub block_exact : (before : ℕ) (fields : List (List ℕ)) → Exactly (block_stated before fields) (EncodesBlock before fields)
unfolding block_stated
block_exact before fields =
    as_ (line_exact (block_form before) fields All_ 7 (block_makes before)) (λ b h. h.1.0) (λ b h. (refl, (h, tt)))

-- predecessors
preds_makes : (n own : ℕ) → Makes (preds_form n own) (ArePredsOf own n)
preds_makes n own id _ k _ ids low = as_ (counted Order id own (counted Count k (length ids)
    (tested Twice (λ e. let p = or_parts _ _ e in (p.0, not-false (all_differ ids) p.1)) (λ h. rw (h.0, h.1) refl) (done ids)))) to from
  where
    Tests : List ℕ → Type 0
    Tests all = (id ≡ own) × ((k ≡ length ids) × (((has_id ids own ≡ false) × (all_differ ids ≡ true)) × (all ≡ ids)))

    Parts : List ℕ → Type 0
    Parts all = (all ≡ ids) × ((length all ≡ k) × ((own ≡ id) × ArePredsOf own n all))

    to : (all : List ℕ) → Tests all → Parts all
    to all (is_own, (counts, (differ, is))) =
        let are = passed_preds own n ids (each_fits (Below n) ids low) differ.0 differ.1 in
        (is, (ap length is ∙ sym counts, (sym is_own, subst (ArePredsOf own n) (sym is) are)))

    from : (all : List ℕ) → Parts all → Tests all
    from all (is, (counts, (is_own, are))) =
        (sym is_own, (sym counts ∙ ap length is, (preds_pass own n ids (subst (ArePredsOf own n) is are), is)))

pub preds_fields_exact : (n own : ℕ) (fields : List (List ℕ)) → Exactly (item_in (preds_form n own) fields) (EncodesPreds n own fields)
preds_fields_exact n own fields = item_exact (preds_form n own) fields (ArePredsOf own n) (preds_makes n own)

pub preds_exact : (n own : ℕ) (fields : List (List ℕ)) → Exactly (preds_stated n own fields) (EncodesPreds n own fields)
unfolding preds_stated
preds_exact n own fields =
    as_ (tested {T = 2 ≤ length fields} Fields (λ e. grind (arith, nat_tests, e)) (λ h. grind (arith, nat_tests, h)) (preds_fields_exact n own fields))
    (λ ids h. h.1) (λ ids h. (omega (arith, same_width (preds_form n own) fields ids h.0), h))

-- values
values_makes : (n before : ℕ) → Makes (values_form n before) All_
values_makes n before b _ values _ =
    as_ (counted Order b before (done values)) (λ all h. (h.1, (sym h.0, tt))) (λ all h. (sym h.1.0, h.0))

pub values_exact : (n destinations before : ℕ) (fields : List (List ℕ))
    → Exactly (values_stated n destinations before fields) (EncodesValues n destinations before fields)
unfolding values_stated
values_exact n destinations before fields =
    as_ (line_exact (values_form n before) fields All_ (destinations + 1) (values_makes n before))
    (λ vs h. (h.1.0, omega (arith, h.0, width vs))) (λ vs h. (omega (arith, h.1, width vs), (h.0, tt)))
  where
    as_field : ℤ → Field
    as_field v = (Decimal, v)

    width : (vs : List ℤ) → length (fields_by (values_form n before) vs) ≡ length vs + 1
    width vs = omega (arith, length-map vs as_field)

-- coefficients
abbrev OfProblem : Problem → Coef → Type 0
OfProblem Pcpsp c = Unit {0}
OfProblem Cpit c = c.d ≡ 0

coef_makes : (p : Problem) (n destinations resources : ℕ) → Makes (coef_form p n destinations resources) (OfProblem p)
coef_makes Pcpsp n destinations resources = λ b _ d _ r _ v _.
    as_ (done (record { b = b; d = d; r = r; v = v })) (λ c is. (ap (λ c. c.v) is, (ap (λ c. c.r) is, (ap (λ c. c.d) is, (ap (λ c. c.b) is, tt)))))
    (λ c h. λ i. record { b = h.1.1.1.0 i; d = h.1.1.0 i; r = h.1.0 i; v = h.0 i })
coef_makes Cpit n destinations resources = λ b _ r _ v _.
    as_ (done (record { b = b; d = 0; r = r; v = v })) (λ c is. (ap (λ c. c.v) is, (ap (λ c. c.r) is, (ap (λ c. c.b) is, ap (λ c. c.d) is))))
    (λ c h. λ i. record { b = h.1.1.0 i; d = h.1.1.1 i; r = h.1.0 i; v = h.0 i })

pub coef_fields_exact : (p : Problem) (n destinations resources : ℕ) (fields : List (List ℕ))
    → Exactly (item_in (coef_form p n destinations resources) fields) (EncodesCoef p n destinations resources fields)
coef_fields_exact Pcpsp n destinations resources fields =
    as_ (item_exact (coef_form Pcpsp n destinations resources) fields (OfProblem Pcpsp) (coef_makes Pcpsp n destinations resources)) (λ c h. h.0) (λ c h. (h, tt))
coef_fields_exact Cpit n destinations resources fields = item_exact (coef_form Cpit n destinations resources) fields (OfProblem Cpit) (coef_makes Cpit n destinations resources)

pub coef_exact : (p : Problem) (n destinations resources : ℕ) (fields : List (List ℕ))
    → Exactly (coef_stated p n destinations resources fields) (EncodesCoef p n destinations resources fields)
unfolding coef_stated
coef_exact Pcpsp n destinations resources fields =
    as_ (line_exact (coef_form Pcpsp n destinations resources) fields All_ 4 (coef_makes Pcpsp n destinations resources)) (λ c h. h.1.0) (λ c h. (refl, (h, tt)))
coef_exact Cpit n destinations resources fields =
    as_ (line_exact (coef_form Cpit n destinations resources) fields (λ c. c.d ≡ 0) 3 (coef_makes Cpit n destinations resources)) (λ c h. h.1) (λ c h. (refl, h))

-- limits
parts_of : (l m : Limit) → l ≡ m
    → (first_of l.bound ≡ first_of m.bound) × ((letter_of l.bound ≡ letter_of m.bound) × ((l.period ≡ m.period) × ((l.resource ≡ m.resource) × Unit {0})))
parts_of l m is = (ap (λ l. first_of l.bound) is, (ap (λ l. letter_of l.bound) is, (ap (λ l. l.period) is, (ap (λ l. l.resource) is, tt))))

abbrev bound_with : LimitLetter → ℤ → ℤ → Bound
bound_with L v w = AtMost v
bound_with G v w = AtLeast v
bound_with I v w = Between v w

bound_again : (bound : Bound) → bound ≡ bound_with (letter_of bound) (first_of bound) (second_of bound)
bound_again (AtMost v) = refl
bound_again (AtLeast v) = refl
bound_again (Between v w) = refl

limit_again : (l : Limit) (resource period : ℕ) (letter : LimitLetter) (v w : ℤ)
    → (first_of l.bound ≡ v) × ((letter_of l.bound ≡ letter) × ((l.period ≡ period) × ((l.resource ≡ resource) × Unit {0}))) → second_of l.bound ≡ w
    → l ≡ record { resource = resource; period = period; bound = bound_with letter v w }
limit_again l resource period letter v w h of_w =
    let bound = bound_again l.bound ∙ (λ i. bound_with (h.1.0 i) (h.0 i) (of_w i)) in
    λ i. record { resource = h.1.1.1.0 i; period = h.1.1.0 i; bound = bound i }

limit_makes : (resources periods : ℕ) → Makes (limit_form resources periods) All_
limit_makes resources periods resource _ period _ L _ v _ =
    as_ (done (record { resource = resource; period = period; bound = AtMost v })) (λ l is. parts_of l _ is)
    (λ l h. limit_again l resource period L v (second_of l.bound) h refl)
limit_makes resources periods resource _ period _ G _ v _ =
    as_ (done (record { resource = resource; period = period; bound = AtLeast v })) (λ l is. parts_of l _ is)
    (λ l h. limit_again l resource period G v (second_of l.bound) h refl)
limit_makes resources periods resource _ period _ I _ v _ = λ w _.
    as_ (done (record { resource = resource; period = period; bound = Between v w })) (λ l is. (ap (λ l. second_of l.bound) is, parts_of l _ is))
    (λ l h. limit_again l resource period I v w h.1 h.0)

pub limit_fields_exact : (resources periods : ℕ) (fields : List (List ℕ))
    → Exactly (item_in (limit_form resources periods) fields) (λ l. EncodesLimit resources periods fields l × Unit {0})
limit_fields_exact resources periods fields = item_exact (limit_form resources periods) fields All_ (limit_makes resources periods)

-- an interval has five fields, and another limit four
width : (resources periods : ℕ) (fields : List (List ℕ)) (l : Limit) → EncodesLimit resources periods fields l → length fields ≡ limit_width fields
width resources periods [] l h = absurd h
width resources periods (r ∷ []) l h = absurd h.1
width resources periods (r ∷ t ∷ []) l h = absurd h.1.1
width resources periods (r ∷ t ∷ letter ∷ rest) l h =
    by (letter_of l.bound) h.1.1.0 (omega (arith, same_width (limit_form resources periods) (r ∷ t ∷ letter ∷ rest) l h))
  where
    by : (k : LimitLetter) → letter ≡ letter_text k
        → length (r ∷ t ∷ letter ∷ rest) ≡ 4 + length (fields_by (bound_form l.resource l.period k (first_of l.bound)) l)
        → length (r ∷ t ∷ letter ∷ rest) ≡ limit_width (r ∷ t ∷ letter ∷ rest)
    by L is count = rw is count
    by G is count = rw is count
    by I is count = rw is count

pub limit_exact : (resources periods : ℕ) (fields : List (List ℕ)) → Exactly (limit_stated resources periods fields) (EncodesLimit resources periods fields)
unfolding limit_stated
limit_exact resources periods fields =
    as_ (counted Fields (length fields) (limit_width fields) (limit_fields_exact resources periods fields)) (λ l h. h.1.0)
    (λ l h. (width resources periods fields l h, (h, tt)))

-- a line of these has no colon
pub coef_fields_keyless : (p : Problem) (n destinations resources : ℕ) (line : List ℕ) (c : Coef)
    → EncodesCoef p n destinations resources (fields_of line) c → list_any is_colon line ≡ false
coef_fields_keyless Pcpsp n destinations resources line c s = line_keyless line (fields_by (coef_form Pcpsp n destinations resources) c) s
coef_fields_keyless Cpit n destinations resources line c s = line_keyless line (fields_by (coef_form Cpit n destinations resources) c) s.0

pub values_keyless : (n destinations before : ℕ) (line : List ℕ) (row : List ℤ) → values_stated n destinations before (fields_of line) ≡ Ok row
    → list_any is_colon line ≡ false
values_keyless n destinations before line row e = line_keyless line _ ((values_exact n destinations before (fields_of line)).reported row e).0

pub coef_keyless : (p : Problem) (n destinations resources : ℕ) (line : List ℕ) (c : Coef)
    → coef_stated p n destinations resources (fields_of line) ≡ Ok c → list_any is_colon line ≡ false
coef_keyless p n destinations resources line c e =
    coef_fields_keyless p n destinations resources line c ((coef_exact p n destinations resources (fields_of line)).reported c e)

pub limit_keyless : (resources periods : ℕ) (line : List ℕ) (l : Limit) → limit_stated resources periods (fields_of line) ≡ Ok l
    → list_any is_colon line ≡ false
limit_keyless resources periods line l e = line_keyless line _ ((limit_exact resources periods (fields_of line)).reported l e)
