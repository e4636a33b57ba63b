-- A record states something if and only if its cells encode the part that it adds.
use Rattle.std.specs.Prelude.{◌≡◌, ◌≢◌, ◌⊎◌, ◌↔◌, ℕ, ◌*◌, ◌^◌, ◌%◌, ◌≤◌, drop, ◌==◌, ◌||◌, nat_le, nat_lt, not, Bool, true, false, List, [], ◌∷◌, length, ℤ, pos, negsuc, unsigned_abs, unwrap_or, codes, if◌then◌else◌, Option, Some, None, is_some, Result, Ok, Err}
use Rattle.std.proofs.Common.{refl, sym, ◌∙◌, ap, subst, arith, inl, inr, eqb-true, leb-true, length-drop}
use Rattle.std.proofs.lemmas.Bool.{eq-eqb, eqb-false, le-leb, le-ltb, ltb-false, ne_eqb, not-false, or_parts}
use Rattle.std.proofs.lemmas.Int.{ints}
use Rattle.std.proofs.lemmas.Slice.Eq.{bytes_eq-Decides}
use Rattle.std.specs.List.{list_any}
use Rattle.pit_units.proofs.Exactly.{Exactly, as_, counted, done, each, tested, then_}
use Rattle.pit_units.specs.EncodedNumbers.{EncodesBelow, EncodesInteger, EncodesNumber}
use Rattle.pit_units.specs.Steps.{◌>>=◌, each_of}
use Rattle.records.specs.RecordCells.{cell_at}
use Rattle.plan_parts.specs.formulas.BandsInvariant.{starts_rise}
use Rattle.plan_parts.specs.PlanInvariant.{has_repeat, is_turned}
use Rattle.pit_model.proofs.CellFacts.{below, name, named, number, origin, size, tonnes, whole}
use Rattle.pit_model.specs.AddedParts.{AddsPart}
use Rattle.pit_model.specs.DestinationRecords.{band_in, bands_in, destination_record, fresh_destination, rising}
use Rattle.pit_model.specs.PlanRecords.{bound_in, covers_in, equal_zone, grid_by, grid_record, is_letter, key_record, limit_record, name_record, periods_record, rate_record, resource_record, sided_zone, slope_in, zone_record}
use Rattle.pit_model.specs.EncodedCells.{EncodesOrigin, EncodesSize, EncodesTonnes, IsNameOf}
use Rattle.pit_model.specs.EncodedParts.{EncodeBands, EncodesBand, EncodesBound, EncodesFormula, EncodesSlope, NameDestinations}
use Rattle.pit_model.specs.Stated.{Stated, destination_named, is_same_place, resource_named, with_destination, with_limit, with_resource, with_zone}
use Rattle.pit_model.specs.StatedCells.{number_of, tonnes_in}
use Rattle.pit_model.specs.declared.draft.formulas.FormulaKey.TheVariants as formula_key
use Rattle.pit_model.specs.declared.plan_fault.PlanFaultKind.{PlanFaultKind}
use Rattle.pit_model.specs.declared.plan_fault.PlanFaultKind.TheVariants.{Name, Order, TooMany, Twice, Width}
use Rattle.pit_model.specs.declared.plan_key.PlanKey.{PlanKey}
use Rattle.pit_model.specs.declared.plan_key.PlanKey.TheVariants as key
use Rattle.plan_parts.specs.declared.cone.Slope.{Slope}
use Rattle.plan_parts.specs.declared.formulas.band.Band.{Band}
use Rattle.plan_parts.specs.declared.formulas.formula.Formula.{Formula}
use Rattle.plan_parts.specs.declared.formulas.formula.Formula.TheVariants.{Mill, Leach, Dump}
use Rattle.plan_parts.specs.declared.formulas.formula.NamedFormula.{NamedFormula}
use Rattle.plan_parts.specs.declared.limit.Bound.{Bound}
use Rattle.plan_parts.specs.declared.limit.Bound.TheVariants.{AtMost, AtLeast, Between}
use Rattle.plan_parts.specs.declared.limit.Limit.{Limit}

pub none_of : {A : Type 0} (o : Option A) → is_some o ≡ false → o ≡ None
none_of None e = refl
none_of (Some x) e = absurd cc

-- a part that is not stated yet, and fewer parts than the maximum
once : {A F X : Type 0} {r : Result A F} {P : A → Type 0} (o : Option X) (fault : F) → Exactly r P
    → Exactly (if is_some o then Err fault else r) (λ y. (o ≡ None) × P y)
once o fault all = tested fault (none_of o) (λ e. ap is_some e) all

room : {A F : Type 0} {r : Result A F} {P : A → Type 0} (n m : ℕ) (fault : F) → Exactly r P
    → Exactly (if n == m then Err fault else r) (λ y. (n ≢ m) × P y)
room n m fault all = tested fault (eqb-false n m) (ne_eqb n m) all

-- a result after a test that passes
following : {A F : Type 0} {r : Result A F} {P : A → Type 0} {t : Bool} {T : Type 0} (fault : F) → (t ≡ false → T) → (T → t ≡ false)
    → (T → Exactly r P) → Exactly (if t then Err fault else r) (λ y. T × P y)
following {A} {F} {r} {P} {t} {T} fault to from all = record {
  reported = λ y e. reported t refl y e;
  back = λ y h. rw (from h.0) ((all h.0).back y h.1);
}
  where
    reported : (b : Bool) → t ≡ b → (y : A) → (if b then Err fault else r) ≡ Ok y → T × P y
    reported true is y e = absurd cc
    reported false is y e = let here = to is in (here, (all here).reported y e)

-- one of two results, by a test
chosen : {A F : Type 0} {r q : Result A F} {P Q : A → Type 0} (t : Bool) → Exactly r P → Exactly q Q
    → Exactly (if t then r else q) (λ y. ((t ≡ true) × P y) ⊎ ((t ≡ false) × Q y))
chosen {A} {F} {r} {q} {P} {Q} t one other = record { reported = λ y e. reported t refl y e; back = back }
  where
    reported : (b : Bool) → t ≡ b → (y : A) → (if b then r else q) ≡ Ok y → ((t ≡ true) × P y) ⊎ ((t ≡ false) × Q y)
    reported true is y e = inl (is, one.reported y e)
    reported false is y e = inr (is, other.reported y e)

    back : (y : A) → ((t ≡ true) × P y) ⊎ ((t ≡ false) × Q y) → (if t then r else q) ≡ Ok y
    back y (inl h) = rw h.0 (one.back y h.1)
    back y (inr h) = rw h.0 (other.back y h.1)

nothing : {A F : Type 0} (fault : F) → Exactly {A = A} (Err fault) (λ y. ⊥)
nothing fault = record { reported = λ y e. absurd cc; back = λ y h. absurd h }

-- parts that several cells state
pub slope : (rise run : List ℕ) → Exactly (slope_in rise run) (EncodesSlope rise run)
slope rise run = as_ steps to from
  where
    Steps : Slope → Type 0
    Steps s = (p : ℕ) × EncodesInteger 1 1000 rise p × ((q : ℕ) × EncodesInteger 1 1000 run q × (s ≡ record { p = p; q = q }))

    steps : Exactly (slope_in rise run) Steps
    steps = then_ (whole 1 1000 rise) (λ p. then_ (whole 1 1000 run) (λ q. done (record { p = p; q = q })))

    to : (s : Slope) → Steps s → EncodesSlope rise run s
    to s (p, of_p, (q, of_q, is)) = subst (EncodesSlope rise run) (sym is) (of_p, of_q)

    from : (s : Slope) → EncodesSlope rise run s → Steps s
    from s h = (s.p, h.0, (s.q, h.1, refl))

pub band : (start recovery : List ℕ) → Exactly (band_in start recovery) (EncodesBand start recovery)
band start recovery = as_ steps to from
  where
    Steps : Band → Type 0
    Steps b =
        (m : ℤ) × EncodesNumber 6 (pos 0) (pos (10 ^ 12)) start m
        × ((part : ℕ) × EncodesInteger 0 1000 recovery part × (b ≡ record { start = unsigned_abs m; recovery = part }))

    steps : Exactly (band_in start recovery) Steps
    steps =
        then_ (number 6 (pos 0) (pos (10 ^ 12)) start (omega arith)) (λ m. then_ (whole 0 1000 recovery) (λ part.
        done (record { start = unsigned_abs m; recovery = part })))

    to : (b : Band) → Steps b → EncodesBand start recovery b
    to b (pos n, of_m, (part, of_part, is)) = subst (EncodesBand start recovery) (sym is) (of_m, of_part)
    to b (negsuc n, of_m, rest) = absurd (omega (arith, ints, of_m.1))

    from : (b : Band) → EncodesBand start recovery b → Steps b
    from b h = (pos b.start, h.0, (b.recovery, h.1, refl))

pub bands : (cells : List (List ℕ)) → length cells % 2 ≡ 0 → Exactly (bands_in cells) (EncodeBands cells)
bands [] even = record { reported = none; back = some }
  where
    none : (all : List Band) → ◌≡◌ {A = Result (List Band) PlanFaultKind} (Ok []) (Ok all) → EncodeBands [] all
    none [] e = tt
    none (b ∷ all) e = absurd cc

    some : (all : List Band) → EncodeBands [] all → ◌≡◌ {A = Result (List Band) PlanFaultKind} (Ok []) (Ok all)
    some [] h = refl
    some (b ∷ all) h = absurd h
bands (lone ∷ []) even = absurd (omega (arith, even))
bands (start ∷ recovery ∷ cells) even = as_ (steps (bands cells (omega (arith, even)))) to from
  where
    Steps : List Band → Type 0
    Steps all = (b : Band) × EncodesBand start recovery b × ((rest : List Band) × EncodeBands cells rest × (all ≡ b ∷ rest))

    steps : Exactly (bands_in cells) (EncodeBands cells) → Exactly (bands_in (start ∷ recovery ∷ cells)) Steps
    steps rest = then_ (band start recovery) (λ b. then_ rest (λ all. done (b ∷ all)))

    to : (all : List Band) → Steps all → EncodeBands (start ∷ recovery ∷ cells) all
    to all (b, h, (rest, more, is)) = subst (EncodeBands (start ∷ recovery ∷ cells)) (sym is) (h, more)

    from : (all : List Band) → EncodeBands (start ∷ recovery ∷ cells) all → Steps all
    from [] h = absurd h
    from (b ∷ rest) h = (b, h.0, (rest, h.1, refl))

-- each band has two cells
pub pairs : (cells : List (List ℕ)) (all : List Band) → EncodeBands cells all → length cells ≡ 2 * length all
pairs [] [] h = refl
pairs (start ∷ recovery ∷ cells) (b ∷ all) h = let rest = pairs cells all h.1 in omega (arith, rest)
pairs _ _ h = absurd h

rises : (all : List Band)
    → Exactly (rising all) (λ same. (starts_rise all ≡ true) × ((length all ≤ 16) × (same ≡ all)))
rises all =
    tested Order (λ e. not-false (starts_rise all) e) (λ h. rw h refl)
    (tested TooMany (λ e. leb-true (length all) 16 (not-false (nat_le (length all) 16) e)) (λ h. rw (le-leb (length all) 16 h) refl) (done all))

pub covers : (formulas : List NamedFormula) (cells : List (List ℕ)) → Exactly (covers_in formulas cells) (NameDestinations formulas cells)
covers formulas cells =
    subst (λ r. Exactly r (NameDestinations formulas cells)) (sym (stepwise cells)) (each (λ cell. named (destination_named formulas cell)) cells)
  where
    stepwise : (cells : List (List ℕ)) → covers_in formulas cells ≡ each_of (λ cell. number_of (destination_named formulas cell)) cells
    stepwise [] = refl
    stepwise (cell ∷ cells) =
        ap (λ rest. number_of (destination_named formulas cell) >>= λ number. rest >>= λ numbers. Ok (number ∷ numbers)) (stepwise cells)

-- the width of a leach and of a limit, and the letter of a limit
abbrev pub HasLeachWidth : List (List ℕ) → Type 0
HasLeachWidth cells = (6 ≤ length cells) × (length cells % 2 ≡ 0)

pub leach_width : (cells : List (List ℕ)) → ((nat_lt (length cells) 6 || not (length cells % 2 == 0)) ≡ false) ↔ HasLeachWidth cells
leach_width cells = (
  λ e.
      let h = or_parts (nat_lt (length cells) 6) (not (length cells % 2 == 0)) e in
      (ltb-false (length cells) 6 h.0, eqb-true (length cells % 2) 0 (not-false (length cells % 2 == 0) h.1)),
  λ h. rw (le-ltb (length cells) 6 h.0, eq-eqb (length cells % 2) 0 h.1) refl,
)

pub letter_is : (cells : List (List ℕ)) (letter : List ℕ) → is_letter cells letter ≡ true → cell_at cells 3 ≡ letter
letter_is cells letter e = (bytes_eq-Decides (cell_at cells 3) letter).0 e

abbrev pub IsAsWide : List (List ℕ) → Type 0
IsAsWide cells = length cells ≡ (if is_letter cells (codes "I") then 6 else 5)

module _ (s : Stated) (cells : List (List ℕ)) where
  abbrev c : ℕ → List ℕ
  c place = cell_at cells place

  name_added : Exactly (name_record s cells) (AddsPart key.Name s cells)
  name_added = as_ steps to from
    where
      Steps : Stated → Type 0
      Steps next = (length cells ≡ 2) × ((n : List ℕ) × IsNameOf (c 1) n × ((s.name ≡ None) × (next ≡ record s { name = Some n })))

      steps : Exactly (name_record s cells) Steps
      steps = counted Width (length cells) 2 (then_ (name (c 1)) (λ n. once s.name Twice (done (record s { name = Some n }))))

      to : (next : Stated) → Steps next → AddsPart key.Name s cells next
      to next (two, (n, of_n, (none, is))) = (n, two, of_n, none, is)

      from : (next : Stated) → AddsPart key.Name s cells next → Steps next
      from next (n, two, of_n, none, is) = (two, (n, of_n, (none, is)))

  grid_added : Exactly (grid_record s cells) (AddsPart key.Grid s cells)
  grid_added = as_ steps to from
    where
      Steps : Stated → Type 0
      Steps next =
          (length cells ≡ 7) × ((x : ℤ) × EncodesOrigin (c 1) x × ((y : ℤ) × EncodesOrigin (c 2) y × ((z : ℤ) × EncodesOrigin (c 3) z
          × ((a : ℕ) × EncodesSize (c 4) a × ((b : ℕ) × EncodesSize (c 5) b × ((d : ℕ) × EncodesSize (c 6) d
          × ((s.grid ≡ None) × (next ≡ record s { grid = Some (grid_by x y z a b d) }))))))))

      steps : Exactly (grid_record s cells) Steps
      steps =
          counted Width (length cells) 7 (then_ (origin (c 1)) (λ x. then_ (origin (c 2)) (λ y. then_ (origin (c 3)) (λ z.
          then_ (size (c 4)) (λ a. then_ (size (c 5)) (λ b. then_ (size (c 6)) (λ d.
          once s.grid Twice (done (record s { grid = Some (grid_by x y z a b d) })))))))))

      to : (next : Stated) → Steps next → AddsPart key.Grid s cells next
      to next (seven, (x, of_x, (y, of_y, (z, of_z, (a, of_a, (b, of_b, (d, of_d, (none, is)))))))) = (
        grid_by x y z a b d,
        record {
          seven = seven;
          x = of_x;
          y = of_y;
          z = of_z;
          along_x = of_a;
          along_y = of_b;
          along_z = of_d;
        },
        none,
        is,
      )

      from : (next : Stated) → AddsPart key.Grid s cells next → Steps next
      from next (g, encodes, none, is) = (
        encodes.seven,
        (
          g.x.origin,
          encodes.x,
          (
            g.y.origin,
            encodes.y,
            (
              g.z.origin,
              encodes.z,
              (g.x.size, encodes.along_x, (g.y.size, encodes.along_y, (g.z.size, encodes.along_z, (none, is)))),
            ),
          ),
        ),
      )

  -- a zone with one slope, or with four
  abbrev Equal : Stated → Type 0
  Equal next =
      (slope : Slope) × EncodesSlope (c 1) (c 2) slope × ((k : ℕ) × EncodesInteger 1 20 (c 3) k
      × ((length s.cones ≢ 64) × (next ≡ with_zone s (record { east = slope; west = slope; north = slope; south = slope; k = k }))))

  equal : Exactly (equal_zone s cells) Equal
  equal =
      then_ (slope (c 1) (c 2)) (λ slope. then_ (whole 1 20 (c 3)) (λ k.
      room (length s.cones) 64 TooMany (done (with_zone s (record { east = slope; west = slope; north = slope; south = slope; k = k })))))

  abbrev Sided : Stated → Type 0
  Sided next =
      (east : Slope) × EncodesSlope (c 1) (c 2) east × ((west : Slope) × EncodesSlope (c 3) (c 4) west
      × ((north : Slope) × EncodesSlope (c 5) (c 6) north × ((south : Slope) × EncodesSlope (c 7) (c 8) south
      × ((k : ℕ) × EncodesInteger 1 20 (c 9) k
      × ((length s.cones ≢ 64) × (next ≡ with_zone s (record { east = east; west = west; north = north; south = south; k = k })))))))

  sided : Exactly (sided_zone s cells) Sided
  sided =
      then_ (slope (c 1) (c 2)) (λ east. then_ (slope (c 3) (c 4)) (λ west. then_ (slope (c 5) (c 6)) (λ north.
      then_ (slope (c 7) (c 8)) (λ south. then_ (whole 1 20 (c 9)) (λ k.
      room (length s.cones) 64 TooMany (done (with_zone s (record { east = east; west = west; north = north; south = south; k = k }))))))))

  zone_added : Exactly (zone_record s cells) (AddsPart key.Zone s cells)
  zone_added = as_ steps to from
    where
      Steps : Stated → Type 0
      Steps next =
          (((length cells == 4) ≡ true) × Equal next)
          ⊎ (((length cells == 4) ≡ false) × ((((length cells == 10) ≡ true) × Sided next) ⊎ (((length cells == 10) ≡ false) × ⊥)))

      steps : Exactly (zone_record s cells) Steps
      steps = chosen (length cells == 4) equal (chosen (length cells == 10) sided (nothing Width))

      to : (next : Stated) → Steps next → AddsPart key.Zone s cells next
      to next (inl (four, (slope, of_slope, (k, of_k, (free, is))))) = (
        record { east = slope; west = slope; north = slope; south = slope; k = k },
        inl (record { four = eqb-true (length cells) 4 four; east = of_slope; others = (refl, refl, refl); k = of_k }),
        free,
        is,
      )
      to next (inr (more, inl (ten, (east, of_east, (west, of_west, (north, of_north, (south, of_south, (k, of_k, (free, is))))))))) = (
        record { east = east; west = west; north = north; south = south; k = k },
        inr (record {
          ten = eqb-true (length cells) 10 ten;
          east = of_east;
          west = of_west;
          north = of_north;
          south = of_south;
          k = of_k;
        }),
        free,
        is,
      )
      to next (inr (more, inr none)) = absurd none.1

      from : (next : Stated) → AddsPart key.Zone s cells next → Steps next
      from next (cone, inl encodes, free, is) =
          let all : cone ≡ record { east = cone.east; west = cone.east; north = cone.east; south = cone.east; k = cone.k } =
          λ i. record { east = cone.east; west = encodes.others.0 i; north = encodes.others.1 i; south = encodes.others.2 i; k = cone.k } in
          inl (eq-eqb (length cells) 4 encodes.four, (cone.east, encodes.east, (cone.k, encodes.k, (free, is ∙ ap (with_zone s) all))))
      from next (cone, inr encodes, free, is) =
          let four : (length cells == 4) ≡ false = rw encodes.ten refl in
          inr (
            four,
            inl (
              eq-eqb (length cells) 10 encodes.ten,
              (cone.east, encodes.east, (cone.west, encodes.west, (cone.north, encodes.north, (cone.south, encodes.south, (cone.k, encodes.k, (free, is)))))),
            ),
          )

  -- a destination with a new NAME, if there are fewer than the maximum
  abbrev Fresh : List ℕ → Formula → Stated → Type 0
  Fresh n formula next = (destination_named s.formulas n ≡ None) × ((length s.formulas ≢ 8) × (next ≡ with_destination s n formula))

  fresh : (n : List ℕ) (formula : Formula) → Exactly (fresh_destination s n formula) (Fresh n formula)
  fresh n formula =
      once (destination_named s.formulas n) Twice (room (length s.formulas) 8 TooMany (done (with_destination s n formula)))

  mill_added : Exactly (destination_record formula_key.Mill s cells) (AddsPart (key.Destination formula_key.Mill) s cells)
  mill_added = as_ steps to (λ next h. from next h.0 h.1 h.2 h.3 h.4 h.5 h.6)
    where
      Steps : Stated → Type 0
      Steps next =
          (length cells ≡ 5) × ((n : List ℕ) × IsNameOf (c 1) n × ((recovery : ℕ) × EncodesInteger 0 1000 (c 2) recovery
          × ((price : ℕ) × EncodesInteger 0 (10 ^ 8) (c 3) price × ((cost : ℕ) × EncodesInteger 0 (10 ^ 7) (c 4) cost
          × Fresh n (Mill recovery price cost) next))))

      steps : Exactly (destination_record formula_key.Mill s cells) Steps
      steps =
          counted Width (length cells) 5 (then_ (name (c 1)) (λ n. then_ (whole 0 1000 (c 2)) (λ recovery.
          then_ (whole 0 (10 ^ 8) (c 3)) (λ price. then_ (whole 0 (10 ^ 7) (c 4)) (λ cost. fresh n (Mill recovery price cost))))))

      to : (next : Stated) → Steps next → AddsPart (key.Destination formula_key.Mill) s cells next
      to next (five, (n, of_n, (recovery, of_recovery, (price, of_price, (cost, of_cost, (new, (free, is))))))) =
          (n, Mill recovery price cost, of_n, (five, of_recovery, of_price, of_cost), new, free, is)

      from : (next : Stated) (n : List ℕ) (formula : Formula) → IsNameOf (c 1) n → EncodesFormula formula_key.Mill cells formula
          → destination_named s.formulas n ≡ None → length s.formulas ≢ 8 → next ≡ with_destination s n formula → Steps next
      from next n (Mill recovery price cost) of_n encodes new free is =
          (encodes.0, (n, of_n, (recovery, encodes.1, (price, encodes.2, (cost, encodes.3, (new, (free, is)))))))
      from next n formula of_n encodes new free is = absurd encodes

  dump_added : Exactly (destination_record formula_key.Dump s cells) (AddsPart (key.Destination formula_key.Dump) s cells)
  dump_added = as_ steps to (λ next h. from next h.0 h.1 h.2 h.3 h.4 h.5 h.6)
    where
      Steps : Stated → Type 0
      Steps next =
          (length cells ≡ 3) × ((n : List ℕ) × IsNameOf (c 1) n × ((cost : ℕ) × EncodesInteger 0 (10 ^ 7) (c 2) cost × Fresh n (Dump cost) next))

      steps : Exactly (destination_record formula_key.Dump s cells) Steps
      steps = counted Width (length cells) 3 (then_ (name (c 1)) (λ n. then_ (whole 0 (10 ^ 7) (c 2)) (λ cost. fresh n (Dump cost))))

      to : (next : Stated) → Steps next → AddsPart (key.Destination formula_key.Dump) s cells next
      to next (three, (n, of_n, (cost, of_cost, (new, (free, is))))) = (n, Dump cost, of_n, (three, of_cost), new, free, is)

      from : (next : Stated) (n : List ℕ) (formula : Formula) → IsNameOf (c 1) n → EncodesFormula formula_key.Dump cells formula
          → destination_named s.formulas n ≡ None → length s.formulas ≢ 8 → next ≡ with_destination s n formula → Steps next
      from next n (Dump cost) of_n encodes new free is = (encodes.0, (n, of_n, (cost, encodes.1, (new, (free, is)))))
      from next n formula of_n encodes new free is = absurd encodes

  leach_added : Exactly (destination_record formula_key.Leach s cells) (AddsPart (key.Destination formula_key.Leach) s cells)
  leach_added = as_ steps to (λ next h. from next h.0 h.1 h.2 h.3 h.4 h.5 h.6)
    where
      Steps : Stated → Type 0
      Steps next =
          HasLeachWidth cells × ((n : List ℕ) × IsNameOf (c 1) n × ((price : ℕ) × EncodesInteger 0 (10 ^ 8) (c 2) price
          × ((cost : ℕ) × EncodesInteger 0 (10 ^ 7) (c 3) cost × ((all : List Band) × EncodeBands (drop 4 cells) all
          × ((destination_named s.formulas n ≡ None)
          × ((risen : List Band) × ((starts_rise all ≡ true) × ((length all ≤ 16) × (risen ≡ all)))
          × ((length s.formulas ≢ 8) × (next ≡ with_destination s n (Leach risen price cost)))))))))

      steps : Exactly (destination_record formula_key.Leach s cells) Steps
      steps =
          following Width (leach_width cells).0 (leach_width cells).1 (λ many.
          let even : length (drop 4 cells) % 2 ≡ 0 = omega (arith, length-drop 4 cells, many.0, many.1) in
          then_ (name (c 1)) (λ n. then_ (whole 0 (10 ^ 8) (c 2)) (λ price. then_ (whole 0 (10 ^ 7) (c 3)) (λ cost.
          then_ (bands (drop 4 cells) even) (λ all. once (destination_named s.formulas n) Twice (then_ (rises all) (λ risen.
          room (length s.formulas) 8 TooMany (done (with_destination s n (Leach risen price cost))))))))))

      to : (next : Stated) → Steps next → AddsPart (key.Destination formula_key.Leach) s cells next
      to next (many, (n, of_n, (price, of_price, (cost, of_cost, (all, of_all, (new, (risen, (rise, (few, same_bands)), (free, is)))))))) =
          let two = pairs (drop 4 cells) all of_all in
          let some : 1 ≤ length all = omega (arith, length-drop 4 cells, many.0, two) in (
            n,
            Leach all price cost,
            of_n,
            (of_price, of_cost, of_all, some, few, rise),
            new,
            free,
            is ∙ ap (λ all. with_destination s n (Leach all price cost)) same_bands,
          )

      from : (next : Stated) (n : List ℕ) (formula : Formula) → IsNameOf (c 1) n → EncodesFormula formula_key.Leach cells formula
          → destination_named s.formulas n ≡ None → length s.formulas ≢ 8 → next ≡ with_destination s n formula → Steps next
      from next n (Leach all price cost) of_n encodes new free is =
          let two = pairs (drop 4 cells) all encodes.2 in
          let many : 6 ≤ length cells = omega (arith, length-drop 4 cells, two, encodes.3) in
          let even : length cells % 2 ≡ 0 = omega (arith, length-drop 4 cells, two, encodes.3) in (
            (many, even),
            (
              n,
              of_n,
              (
                price,
                encodes.0,
                (
                  cost,
                  encodes.1,
                  (
                    all,
                    encodes.2,
                    (
                      new,
                      (all, (encodes.5, (encodes.4, refl)), (free, is)),
                    ),
                  ),
                ),
              ),
            ),
          )
      from next n formula of_n encodes new free is = absurd encodes

  periods_added : Exactly (periods_record s cells) (AddsPart key.Periods s cells)
  periods_added = as_ steps to from
    where
      Steps : Stated → Type 0
      Steps next = (length cells ≡ 2) × ((n : ℕ) × EncodesInteger 1 100 (c 1) n × ((s.periods ≡ None) × (next ≡ record s { periods = Some n })))

      steps : Exactly (periods_record s cells) Steps
      steps = counted Width (length cells) 2 (then_ (whole 1 100 (c 1)) (λ n. once s.periods Twice (done (record s { periods = Some n }))))

      to : (next : Stated) → Steps next → AddsPart key.Periods s cells next
      to next (two, (n, of_n, (none, is))) = (n, two, of_n, none, is)

      from : (next : Stated) → AddsPart key.Periods s cells next → Steps next
      from next (n, two, of_n, none, is) = (two, (n, of_n, (none, is)))

  rate_added : Exactly (rate_record s cells) (AddsPart key.Rate s cells)
  rate_added = as_ steps to from
    where
      Steps : Stated → Type 0
      Steps next =
          (length cells ≡ 2)
          × ((r : ℤ) × EncodesNumber 6 (pos 0) (pos (10 ^ 6)) (c 1) r × ((s.rate ≡ None) × (next ≡ record s { rate = Some r })))

      steps : Exactly (rate_record s cells) Steps
      steps =
          counted Width (length cells) 2 (then_ (number 6 (pos 0) (pos (10 ^ 6)) (c 1) (omega arith)) (λ r.
          once s.rate Twice (done (record s { rate = Some r }))))

      to : (next : Stated) → Steps next → AddsPart key.Rate s cells next
      to next (two, (r, of_r, (none, is))) = (r, two, of_r, none, is)

      from : (next : Stated) → AddsPart key.Rate s cells next → Steps next
      from next (r, two, of_r, none, is) = (two, (r, of_r, (none, is)))

  resource_added : Exactly (resource_record s cells) (AddsPart key.Resource s cells)
  resource_added = as_ steps to from
    where
      New : List ℕ → List ℕ → Type 0
      New n all = (resource_named s.resources n ≡ None) × (has_repeat all ≡ false)

      Steps : Stated → Type 0
      Steps next =
          (3 ≤ length cells) × ((n : List ℕ) × IsNameOf (c 1) n × ((all : List ℕ) × NameDestinations s.formulas (drop 2 cells) all
          × (New n all × ((length s.resources ≢ 8) × (next ≡ with_resource s n all)))))

      new : (n all : List ℕ) → (is_some (resource_named s.resources n) || has_repeat all) ≡ false → New n all
      new n all e =
          let h = or_parts (is_some (resource_named s.resources n)) (has_repeat all) e in (none_of (resource_named s.resources n) h.0, h.1)

      fails : (n all : List ℕ) → New n all → (is_some (resource_named s.resources n) || has_repeat all) ≡ false
      fails n all h = ap (λ (o : Option ℕ). is_some o || has_repeat all) h.0 ∙ h.1

      steps : Exactly (resource_record s cells) Steps
      steps =
          tested Width (ltb-false (length cells) 3) (le-ltb (length cells) 3) (then_ (name (c 1)) (λ n.
          then_ (covers s.formulas (drop 2 cells)) (λ all. tested Twice (new n all) (fails n all)
          (room (length s.resources) 8 TooMany (done (with_resource s n all))))))

      to : (next : Stated) → Steps next → AddsPart key.Resource s cells next
      to next (three, (n, of_n, (all, are, (fresh, (free, is))))) = (n, all, three, of_n, are, fresh.1, fresh.0, free, is)

      from : (next : Stated) → AddsPart key.Resource s cells next → Steps next
      from next (n, all, three, of_n, are, once, none, free, is) = (three, (n, of_n, (all, are, ((none, once), (free, is)))))

  -- the letter of a limit, and its numbers
  abbrev pub Numbers : Bound → Type 0
  Numbers (AtMost v) = (c 3 ≡ codes "L") × EncodesTonnes (c 4) v
  Numbers (AtLeast v) = (c 3 ≡ codes "G") × EncodesTonnes (c 4) v
  Numbers (Between v w) = (c 3 ≡ codes "I") × EncodesTonnes (c 4) v × EncodesTonnes (c 5) w

  pub bound : Exactly (bound_in cells) Numbers
  bound = record {
    reported = λ b e. reported (is_letter cells (codes "I")) (is_letter cells (codes "L")) (is_letter cells (codes "G")) refl refl refl b e;
    back = back;
  }
    where
      is : (letter : List ℕ) → is_letter cells letter ≡ true → c 3 ≡ letter
      is = letter_is cells

      one : (make : ℤ → Bound) → Exactly (tonnes_in (c 4) >>= λ v. Ok (make v)) (λ b. (v : ℤ) × EncodesTonnes (c 4) v × (b ≡ make v))
      one make = then_ (tonnes (c 4)) (λ v. done (make v))

      two : Exactly (tonnes_in (c 4) >>= λ v. tonnes_in (c 5) >>= λ w. Ok (Between v w))
          (λ b. (v : ℤ) × EncodesTonnes (c 4) v × ((w : ℤ) × EncodesTonnes (c 5) w × (b ≡ Between v w)))
      two = then_ (tonnes (c 4)) (λ v. then_ (tonnes (c 5)) (λ w. done (Between v w)))

      reported : (i l g : Bool) → is_letter cells (codes "I") ≡ i → is_letter cells (codes "L") ≡ l → is_letter cells (codes "G") ≡ g → (b : Bound)
          → (if i then (tonnes_in (c 4) >>= λ v. tonnes_in (c 5) >>= λ w. Ok (Between v w))
          else (if l then (tonnes_in (c 4) >>= λ v. Ok (AtMost v))
          else (if g then (tonnes_in (c 4) >>= λ v. Ok (AtLeast v))
          else Err Name))) ≡ Ok b → Numbers b
      reported true l g at_i at_l at_g b e = let h = two.reported b e in subst Numbers (sym h.2.2) (is (codes "I") at_i, h.1, h.2.1)
      reported false true g at_i at_l at_g b e = let h = (one AtMost).reported b e in subst Numbers (sym h.2) (is (codes "L") at_l, h.1)
      reported false false true at_i at_l at_g b e = let h = (one AtLeast).reported b e in subst Numbers (sym h.2) (is (codes "G") at_g, h.1)
      reported false false false at_i at_l at_g b e = absurd cc

      back : (b : Bound) → Numbers b → bound_in cells ≡ Ok b
      back (AtMost v) h = rw h.0 ((one AtMost).back (AtMost v) (v, h.1, refl))
      back (AtLeast v) h = rw h.0 ((one AtLeast).back (AtLeast v) (v, h.1, refl))
      back (Between v w) h = rw h.0 (two.back (Between v w) (v, h.1, (w, h.2, refl)))

  pub bound_to : IsAsWide cells → (b : Bound) → Numbers b → EncodesBound cells b
  bound_to many (AtMost v) h = (rw h.0 at many, h.0, h.1)
  bound_to many (AtLeast v) h = (rw h.0 at many, h.0, h.1)
  bound_to many (Between v w) h = (rw h.0 at many, h.0, h.1, h.2)

  pub bound_from : (b : Bound) → EncodesBound cells b → IsAsWide cells × Numbers b
  bound_from (AtMost v) h = (rw h.1 h.0, (h.1, h.2))
  bound_from (AtLeast v) h = (rw h.1 h.0, (h.1, h.2))
  bound_from (Between v w) h = (rw h.1 h.0, (h.1, h.2, h.3))

  limit_added : Exactly (limit_record s cells) (AddsPart key.Limit s cells)
  limit_added = as_ steps to from
    where
      Alone : Limit → Stated → Type 0
      Alone l next =
          (list_any (λ m. is_same_place l m) s.limits ≡ false)
          × ((is_turned l.bound ≡ false) × (next ≡ record s { limits = with_limit l s.limits }))

      Steps : Stated → Type 0
      Steps next =
          IsAsWide cells × ((resource : ℕ) × (resource_named s.resources (c 1) ≡ Some resource)
          × ((period : ℕ) × EncodesBelow (unwrap_or s.periods 0) (c 2) period × ((b : Bound) × Numbers b
          × Alone (record { resource = resource; period = period; bound = b }) next)))

      steps : Exactly (limit_record s cells) Steps
      steps =
          counted Width (length cells) (if is_letter cells (codes "I") then 6 else 5) (
          then_ (named (resource_named s.resources (c 1))) (λ resource. then_ (below (unwrap_or s.periods 0) (c 2)) (λ period.
          then_ bound (λ b. let l : Limit = record { resource = resource; period = period; bound = b } in
          tested Twice (λ e. e) (λ e. e) (tested Order (λ e. e) (λ e. e) (done (record s { limits = with_limit l s.limits })))))))

      to : (next : Stated) → Steps next → AddsPart key.Limit s cells next
      to next (many, (resource, of_resource, (period, of_period, (b, of_b, (alone, (straight, is)))))) = (
        record { resource = resource; period = period; bound = b },
        (of_resource, of_period, bound_to many b of_b),
        alone,
        straight,
        is,
      )

      from : (next : Stated) → AddsPart key.Limit s cells next → Steps next
      from next (l, (of_resource, of_period, of_b), alone, straight, is) =
          let b = bound_from l.bound of_b in
          (b.0, (l.resource, of_resource, (l.period, of_period, (l.bound, b.1, (alone, (straight, is))))))

  pub part_added : (k : PlanKey) → Exactly (key_record (Some k) s cells) (AddsPart k s cells)
  part_added key.Name = name_added
  part_added key.Grid = grid_added
  part_added key.Zone = zone_added
  part_added (key.Destination formula_key.Mill) = mill_added
  part_added (key.Destination formula_key.Leach) = leach_added
  part_added (key.Destination formula_key.Dump) = dump_added
  part_added key.Periods = periods_added
  part_added key.Rate = rate_added
  part_added key.Resource = resource_added
  part_added key.Limit = limit_added
