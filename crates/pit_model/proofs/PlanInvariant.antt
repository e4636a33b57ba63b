-- The parts that the records of a plan state are in range.
use Rattle.std.specs.Prelude.{◌≡◌, ◌≢◌, ℕ, suc, ◌+◌, ◌^◌, ◌<◌, ◌≤◌, Bool, false, List, [], ◌∷◌, ◌++◌, length, drop, position, All, pos, ◌≤ℤ◌, Some, unwrap_or}
use Rattle.std.proofs.Common.{refl, sym, subst, arith, inl, inr, length-append, length-drop}
use Rattle.std.proofs.lemmas.Int.{ints}
use Rattle.std.proofs.lemmas.List.Elements.{All-nil, All-cons, All-push, All-weaker}
use Rattle.std.proofs.lemmas.List.Quantifiers.{position-Some}
use Rattle.std.specs.List.{list_any}
use Rattle.std.specs.Str.{bytes_eq}
use Rattle.records.specs.RecordCells.{cell_at, cells_of}
use Rattle.plan_parts.specs.Plan.{PlanParts}
use Rattle.plan_parts.specs.formulas.BandsInvariant.{IsBand}
use Rattle.plan_parts.specs.formulas.Formula.{IsFormulaInRange}
use Rattle.plan_parts.specs.PlanInvariant.{plan_of, has_repeat, AreCovers, AreTonnes, IsBound, IsCone, IsGrid, IsPlan, IsSlope, RiseStrictly}
use Rattle.plan_parts.specs.declared.cone.Cone.{Cone}
use Rattle.plan_parts.specs.declared.cone.Slope.{Slope}
use Rattle.plan_parts.specs.declared.formulas.band.Band.{Band}
use Rattle.plan_parts.specs.declared.formulas.formula.Formula.{Formula}
use Rattle.plan_parts.specs.declared.formulas.formula.Formula.TheVariants.{Mill, Leach, Dump}
use Rattle.plan_parts.specs.declared.formulas.formula.NamedFormula.{NamedFormula}
use Rattle.plan_parts.specs.declared.limit.Bound.{Bound}
use Rattle.plan_parts.specs.declared.limit.Bound.TheVariants.{AtMost, AtLeast, Between}
use Rattle.plan_parts.specs.declared.limit.Limit.{Limit}
use Rattle.plan_parts.specs.declared.resource.Resource.{Resource}
use Rattle.plan_parts.specs.declared.ranges.TheConstants.{MAX_DESTINATIONS, MAX_RESOURCES, MAX_ZONES}
use Rattle.pit_model.proofs.Limits.{All-with_limit, rises}
use Rattle.pit_model.specs.AddedParts.{AddsPart}
use Rattle.pit_model.specs.EncodedParts.{EncodeBands, EncodesBound, EncodesCone, EncodesFormula, EncodesSlope, NameDestinations}
use Rattle.pit_model.specs.EncodedPlan.{CellsAdd, EncodePlan, RecordsState}
use Rattle.pit_model.specs.Stated.{Stated, is_same_place, nothing_stated, with_destination, with_limit, with_resource}
use Rattle.pit_model.specs.declared.draft.formulas.FormulaKey.{FormulaKey}
use Rattle.pit_model.specs.declared.draft.formulas.FormulaKey.TheVariants as formula_key
use Rattle.pit_model.specs.declared.plan_key.PlanKey.{PlanKey}
use Rattle.pit_model.specs.declared.plan_key.PlanKey.TheVariants as key
use Rattle.pit_model.specs.inner.DraftFields.{KeepsStated}

no_limits : RiseStrictly []
no_limits i j d before within = absurd (omega arith)

nothing_in_range : KeepsStated nothing_stated
nothing_in_range = search (arith, All-nil, no_limits)

-- a list shorter than its maximum can get another element
room : {A : Type 0} (xs : List A) (x : A) (most : ℕ) → length xs ≤ most → length xs ≢ most → length (xs ++ x ∷ []) ≤ most
room xs x most within free = omega (arith, length-append xs (x ∷ []), free)

-- inserting a limit of a stated resource and period
pub limit_in_range : (s : Stated) (l : Limit) → KeepsStated s → l.resource < length s.resources → l.period < unwrap_or s.periods 0
    → IsBound l.bound → list_any (λ m. is_same_place l m) s.limits ≡ false → KeepsStated (record s { limits = with_limit l s.limits })
limit_in_range s l kept there early bound none =
    search (
      All-with_limit (λ m. (m.resource < length s.resources) × (m.period < unwrap_or s.periods 0) × IsBound m.bound) l s.limits
          (there, early, bound) kept.limits,
      rises l s.limits kept.rising none,
    )

-- an encoded slope, cone or list of bands is in range
slope_in_range : (rise run : List ℕ) (s : Slope) → EncodesSlope rise run s → IsSlope s
slope_in_range rise run s h = ((h.0.1, h.0.2), (h.1.1, h.1.2))

cone_in_range : (cells : List (List ℕ)) (cone : Cone) → EncodesCone cells cone → IsCone cone
cone_in_range cells cone (inl h) =
    let east = slope_in_range _ _ cone.east h.east in
    ((east, subst IsSlope (sym h.others.0) east, subst IsSlope (sym h.others.1) east, subst IsSlope (sym h.others.2) east), (h.k.1, h.k.2))
cone_in_range cells cone (inr h) = (
  (slope_in_range _ _ cone.east h.east, slope_in_range _ _ cone.west h.west, slope_in_range _ _ cone.north h.north, slope_in_range _ _ cone.south h.south),
  (h.k.1, h.k.2),
)

bands_in_range : (cells : List (List ℕ)) (bands : List Band) → EncodeBands cells bands → All IsBand bands
bands_in_range [] [] h = All-nil IsBand
bands_in_range (start ∷ recovery ∷ cells) (band ∷ bands) h =
    All-cons IsBand band bands (omega (arith, ints, h.0.0.2), h.0.1.2) (bands_in_range cells bands h.1)
bands_in_range _ _ h = absurd h

formula_is_in_range : (k : FormulaKey) (cells : List (List ℕ)) (formula : Formula) → EncodesFormula k cells formula → IsFormulaInRange formula
formula_is_in_range formula_key.Mill cells (Mill recovery price cost) h = (h.1.2, h.2.2, h.3.2)
formula_is_in_range formula_key.Leach cells (Leach bands price cost) h = (
  record { count = (h.3, h.4); in_range = bands_in_range (drop 4 cells) bands h.2; rising = h.5 },
  h.0.2,
  h.1.2,
)
formula_is_in_range formula_key.Dump cells (Dump cost) h = h.1.2
formula_is_in_range _ cells _ h = absurd h

-- the number of a named element is below the length
number_there : {A : Type 0} (test : A → Bool) (xs : List A) (n : ℕ) → position test xs ≡ Some n → n < length xs
number_there test [] n is = absurd cc
number_there test (x ∷ xs) n is = (position-Some test (x ∷ xs) n x is).0

covers_in_range : (formulas : List NamedFormula) (cells : List (List ℕ)) (covers : List ℕ) → NameDestinations formulas cells covers
    → All (λ n. n < length formulas) covers × (length covers ≡ length cells)
covers_in_range formulas [] [] h = (All-nil _, refl)
covers_in_range formulas (cell ∷ cells) (n ∷ covers) h =
    let more = covers_in_range formulas cells covers h.1 in (
      All-cons (λ n. n < length formulas) n covers (number_there (λ (f : NamedFormula). bytes_eq f.name cell) formulas n h.0) more.0,
      omega (arith, more.1),
    )
covers_in_range formulas _ _ h = absurd h

tonnes_in_range : (cells : List (List ℕ)) (b : Bound) → EncodesBound cells b → AreTonnes b
tonnes_in_range cells (AtMost v) h = (h.2.1, h.2.2)
tonnes_in_range cells (AtLeast v) h = (h.2.1, h.2.2)
tonnes_in_range cells (Between v w) h = ((h.2.1, h.2.2), (h.3.1, h.3.2))

-- adding a destination, and adding a resource
destination_in_range : (s : Stated) (name : List ℕ) (formula : Formula) → KeepsStated s → IsFormulaInRange formula → length s.formulas ≢ 8
    → KeepsStated (with_destination s name formula)
destination_in_range s name formula kept formula_in_range free =
    let new : NamedFormula = record { name = name; formula = formula } in
    let more : length (s.formulas ++ new ∷ []) ≡ length s.formulas + 1 = length-append s.formulas (new ∷ []) in
    search (
      room s.formulas new MAX_DESTINATIONS kept.destinations free,
      All-push (λ f. IsFormulaInRange f.formula) s.formulas new kept.formulas formula_in_range,
      All-weaker (λ r. All (λ n. n < length s.formulas) r.covers) (λ r. All (λ n. n < length (s.formulas ++ new ∷ [])) r.covers)
          (λ r all. All-weaker (λ n. n < length s.formulas)
          (λ n. n < length (s.formulas ++ new ∷ [])) (λ n small. omega (arith, more)) r.covers all)
          s.resources kept.covers,
    )

resource_in_range : (s : Stated) (cells : List (List ℕ)) (name covers : List ℕ) → KeepsStated s → 3 ≤ length cells
    → NameDestinations s.formulas (drop 2 cells) covers → has_repeat covers ≡ false → length s.resources ≢ 8
    → KeepsStated (with_resource s name covers)
resource_in_range s cells name covers kept many named once free =
    let are = covers_in_range s.formulas (drop 2 cells) covers named in
    let new : Resource = record { name = name; covers = covers } in
    let more : length (s.resources ++ new ∷ []) ≡ length s.resources + 1 = length-append s.resources (new ∷ []) in
    search (
      room s.resources new MAX_RESOURCES kept.resources free,
      All-push (λ r. All (λ n. n < length s.formulas) r.covers) s.resources new kept.covers are.0,
      All-push (λ r. AreCovers r.covers) s.resources new kept.covers_once (omega (arith, are.1, length-drop 2 cells, many), once),
      All-weaker (λ l. (l.resource < length s.resources) × (l.period < unwrap_or s.periods 0) × IsBound l.bound)
          (λ l. (l.resource < length (s.resources ++ new ∷ [])) × (l.period < unwrap_or s.periods 0) × IsBound l.bound)
          (λ l h. (omega (arith, more, h.0), h.1, h.2)) s.limits kept.limits,
    )

-- if the parts are in range, so are the parts after a record
part_in_range : (k : PlanKey) (s next : Stated) (cells : List (List ℕ)) → KeepsStated s → AddsPart k s cells next → KeepsStated next
part_in_range key.Name s next cells kept (name, two, of_name, none, is) = subst KeepsStated (sym is) search
part_in_range key.Grid s next cells kept (g, h, none, is) =
    let grid : IsGrid g = (
      ((h.x.1, h.x.2), (h.along_x.1, h.along_x.2)),
      ((h.y.1, h.y.2), (h.along_y.1, h.along_y.2)),
      ((h.z.1, h.z.2), (h.along_z.1, h.along_z.2)),
    ) in
    subst KeepsStated (sym is) (search grid)
part_in_range key.Zone s next cells kept (cone, encodes, free, is) =
    subst KeepsStated (sym is)
    (search (room s.cones cone MAX_ZONES kept.zones free, All-push IsCone s.cones cone kept.cones (cone_in_range cells cone encodes)))
part_in_range (key.Destination k) s next cells kept (name, formula, of_name, encodes, new, free, is) =
    subst KeepsStated (sym is) (destination_in_range s name formula kept (formula_is_in_range k cells formula encodes) free)
part_in_range key.Periods s next cells kept (n, two, of_n, none, is) =
    let in_range : (1 ≤ n) × (n ≤ 100) = (of_n.1, of_n.2) in
    subst KeepsStated (sym is) (search (
      in_range,
      All-weaker (λ l. (l.resource < length s.resources) × (l.period < unwrap_or s.periods 0) × IsBound l.bound)
          (λ l. (l.resource < length s.resources) × (l.period < n) × IsBound l.bound)
          (λ l h. let small : l.period < unwrap_or s.periods 0 = h.1 in absurd (omega (arith, rw none at small))) s.limits kept.limits,
    ))
part_in_range key.Rate s next cells kept (rate, two, of_rate, none, is) =
    let in_range : (pos 0 ≤ℤ rate) × (rate ≤ℤ pos (10 ^ 6)) = (of_rate.1, of_rate.2) in
    subst KeepsStated (sym is) (search in_range)
part_in_range key.Resource s next cells kept (name, covers, many, of_name, named, once, none, free, is) =
    subst KeepsStated (sym is) (resource_in_range s cells name covers kept many named once free)
part_in_range key.Limit s next cells kept (l, (of_resource, of_period, of_bound), alone, straight, is) =
    let there = number_there (λ (r : Resource). bytes_eq r.name (cell_at cells 1)) s.resources l.resource of_resource in
    subst KeepsStated (sym is)
    (limit_in_range s l kept there of_period.1 (record { tonnes = tonnes_in_range cells l.bound of_bound; straight = straight }) alone)

-- the same for a record, and for records in sequence
record_in_range : (s next : Stated) (cells : List (List ℕ)) → KeepsStated s → CellsAdd s cells next → KeepsStated next
record_in_range s next [] kept is = subst KeepsStated (sym is) kept
record_in_range s next (first ∷ cells) kept (k, is_key, adds) = part_in_range k s next (first ∷ cells) kept adds

records_in_range : (number : ℕ) (s last : Stated) (rows : List (List (List ℕ))) → KeepsStated s → RecordsState number s rows last → KeepsStated last
records_in_range number s last [] kept all = subst KeepsStated (sym all) kept
records_in_range number s last (row ∷ rows) kept (next, states, more) =
    records_in_range (suc number) next last rows (record_in_range s next (cells_of row) kept states.1) more

-- the plan is in range
pub encoded_plan : (rows : List (List (List ℕ))) (p : PlanParts) → EncodePlan rows p → IsPlan p
encoded_plan rows p (s, all, are) = by (records_in_range 1 nothing_stated s rows nothing_in_range all)
  where
    by : KeepsStated s → IsPlan p
    by kept =
        subst IsPlan same (search (
          are.cones.0,
          are.formulas.0,
          rw are.grid at kept.grid,
          rw are.periods at kept.periods,
          rw are.rate at kept.rate,
          rw are.periods at kept.limits,
        ))
      where
        same : plan_of p.name p.grid s.cones s.formulas (record { periods = p.periods; rate = p.rate }) s.resources s.limits ≡ p
        same i = record {
          name = p.name;
          grid = p.grid;
          cones = sym are.cones.1 i;
          formulas = sym are.formulas.1 i;
          periods = p.periods;
          rate = p.rate;
          resources = sym are.resources i;
          limits = sym are.limits i;
        }
