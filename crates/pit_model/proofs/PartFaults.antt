-- A record has the fault of the first requirement that it violates, and no other.
use Rattle.std.specs.Prelude.{◌≡◌, ◌≢◌, ◌⊎◌, ℕ, ◌*◌, ◌/◌, ◌^◌, ◌%◌, ◌≤◌, drop, ◌==◌, ◌||◌, nat_le, not, Bool, true, false, List, [], ◌∷◌, length, ℤ, pos, negsuc, ◌*ℤ◌, ◌-ℤ◌, int_div, unsigned_abs, unwrap_or, codes, if◌then◌else◌, Option, Some, None, is_some, Result, Ok, Err}
use Rattle.std.proofs.Common.{refl, sym, ◌∙◌, ap, subst, arith, inl, inr, eqb-true, leb-true, length-drop}
use Rattle.std.proofs.lemmas.Bool.{eq-eqb, eqb-false, le-leb, le-ltb, ltb-false, ne_eqb, not-false, or_parts}
use Rattle.std.proofs.lemmas.Slice.Eq.{bytes_eq-Decides}
use Rattle.std.specs.List.{list_any}
use Rattle.pit_units.proofs.Exactly.{same}
use Rattle.pit_units.specs.EncodedNumbers.{EncodesBelow, EncodesInteger, EncodesNumber}
use Rattle.pit_units.specs.Steps.{◌>>=◌}
use Rattle.records.specs.RecordCells.{cell_at}
use Rattle.plan_parts.specs.formulas.BandsInvariant.{starts_rise}
use Rattle.plan_parts.specs.Name.{is_name}
use Rattle.plan_parts.specs.PlanInvariant.{has_repeat, is_turned}
use Rattle.pit_model.proofs.CellFacts.{below, name, named, number, origin, size, whole}
use Rattle.pit_model.proofs.PartsAdded.{IsAsWide, Numbers, bands, bound, bound_from, bound_to, covers, leach_width, letter_is, none_of}
use Rattle.pit_model.proofs.FailsExactly.{FailsExactly, asks, asks_number, asks_step, no_fault, number_reports, restated}
use Rattle.pit_model.specs.AddedParts.{EncodesLimit}
use Rattle.pit_model.specs.DestinationRecords.{band_in, bands_in, destination_more, destination_record, fresh_destination, rising}
use Rattle.pit_model.specs.FailedParts.{Asks, AsksBands, AsksBound, AsksInteger, AsksName, AsksNamed, AsksNew, AsksNumber, AsksOfBands, AsksOfLimit, AsksOrigin, AsksRoom, AsksSize, AsksSlope, AsksTonnes, DestinationFails, EqualZoneFails, HasLetter, HasLimitWidth, IsNewResource, NoMore, PartFails, SidedZoneFails, ZoneFails}
use Rattle.pit_model.specs.PlanRecords.{bound_in, covers_in, equal_zone, is_letter, key_record, limit_more, limit_record, resource_record, sided_zone, slope_in, zone_record}
use Rattle.pit_model.specs.EncodedCells.{EncodesOrigin, EncodesSize, EncodesTonnes, IsNameOf}
use Rattle.pit_model.specs.EncodedParts.{EncodeBands, EncodesBand, EncodesSlope, NameDestinations}
use Rattle.pit_model.specs.Stated.{Stated, destination_named, is_same_place, resource_named, with_destination}
use Rattle.pit_model.specs.StatedCells.{below_in, integer_in, name_in, number_in, number_of, origin_in, size_in, tonnes_in}
use Rattle.pit_model.specs.declared.draft.formulas.FormulaKey.{FormulaKey}
use Rattle.pit_model.specs.declared.draft.formulas.FormulaKey.TheVariants as formula_key
use Rattle.pit_model.specs.declared.plan_fault.PlanFaultKind.{PlanFaultKind}
use Rattle.pit_model.specs.declared.plan_fault.PlanFaultKind.TheVariants.{Name, Order, TooMany, Twice, Width}
use Rattle.pit_model.specs.declared.plan_key.PlanKey.{PlanKey}
use Rattle.pit_model.specs.declared.plan_key.PlanKey.TheVariants as key
use Rattle.plan_parts.specs.declared.cone.Slope.{Slope}
use Rattle.plan_parts.specs.declared.formulas.band.Band.{Band}
use Rattle.plan_parts.specs.declared.formulas.formula.Formula.{Formula}
use Rattle.plan_parts.specs.declared.formulas.formula.Formula.TheVariants.{Mill, Leach, Dump}
use Rattle.plan_parts.specs.declared.formulas.formula.NamedFormula.{NamedFormula}
use Rattle.plan_parts.specs.declared.limit.Bound.{Bound}
use Rattle.plan_parts.specs.declared.limit.Bound.TheVariants.{AtMost, AtLeast, Between}
use Rattle.plan_parts.specs.declared.limit.Limit.{Limit}

-- nested steps are steps in sequence
flat : {A B C F : Type 0} (r : Result A F) (f : A → Result B F) (g : B → Result C F) → ((r >>= f) >>= g) ≡ (r >>= λ x. f x >>= g)
flat (Ok x) f g = refl
flat (Err fault) f g = refl

bind_itself : {A F : Type 0} (r : Result A F) → r ≡ (r >>= λ x. Ok x)
bind_itself (Ok x) = refl
bind_itself (Err fault) = refl

module _ {B : Type 0} {Q : PlanFaultKind → Type 0} where
  -- a cell, and then the next requirements
  then_number : (decimals : ℕ) (low high : ℤ) (cell : List ℕ) (next : ℤ → Result B PlanFaultKind) → decimals ≤ 6
      → ((m : ℤ) → EncodesNumber decimals low high cell m → FailsExactly (next m) Q)
      → FailsExactly (number_in decimals low high cell >>= next) (AsksNumber decimals cell (EncodesNumber decimals low high cell) Q)
  then_number decimals low high cell next few following =
      let all = number decimals low high cell few in
      asks_number decimals cell all (number_reports decimals low high cell few (λ m. m) all (bind_itself (number_in decimals low high cell))) following

  then_whole : (low high : ℕ) (cell : List ℕ) (next : ℕ → Result B PlanFaultKind) → ((n : ℕ) → EncodesInteger low high cell n → FailsExactly (next n) Q)
      → FailsExactly (integer_in low high cell >>= next) (AsksInteger low high cell Q)
  then_whole low high cell next following =
      asks_number 0 cell (whole low high cell)
      (number_reports 0 (pos (low * 10 ^ 6)) (pos (high * 10 ^ 6)) cell (omega arith) (λ m. unsigned_abs m / 10 ^ 6) (whole low high cell) refl)
      following

  then_below : (limit : ℕ) (cell : List ℕ) (next : ℕ → Result B PlanFaultKind) → ((n : ℕ) → EncodesBelow limit cell n → FailsExactly (next n) Q)
      → FailsExactly (below_in limit cell >>= next) (AsksNumber 0 cell (EncodesBelow limit cell) Q)
  then_below limit cell next following =
      asks_number 0 cell (below limit cell)
      (number_reports 0 (pos 0) (pos (limit * 10 ^ 6) -ℤ pos 1) cell (omega arith) (λ m. unsigned_abs m / 10 ^ 6) (below limit cell) refl) following

  then_origin : (cell : List ℕ) (next : ℤ → Result B PlanFaultKind) → ((mm : ℤ) → EncodesOrigin cell mm → FailsExactly (next mm) Q)
      → FailsExactly (origin_in cell >>= next) (AsksOrigin cell Q)
  then_origin cell next following =
      asks_number 3 cell (origin cell)
      (number_reports 3 (negsuc 999999999999 *ℤ pos 1000) (pos (10 ^ 12) *ℤ pos 1000) cell (omega arith) (λ m. int_div m (pos 1000)) (origin cell) refl)
      following

  then_size : (cell : List ℕ) (next : ℕ → Result B PlanFaultKind) → ((mm : ℕ) → EncodesSize cell mm → FailsExactly (next mm) Q)
      → FailsExactly (size_in cell >>= next) (AsksSize cell Q)
  then_size cell next following =
      asks_number 3 cell (size cell)
      (number_reports 3 (pos 1000) (pos (100000 * 1000)) cell (omega arith) (λ m. unsigned_abs m / 1000) (size cell) refl) following

  then_tonnes : (cell : List ℕ) (next : ℤ → Result B PlanFaultKind) → ((v : ℤ) → EncodesTonnes cell v → FailsExactly (next v) Q)
      → FailsExactly (tonnes_in cell >>= next) (AsksTonnes cell Q)
  then_tonnes cell next following = then_number 6 (pos 0) (pos (10 ^ 18)) cell next (omega arith) following

  then_name : (cell : List ℕ) (next : List ℕ → Result B PlanFaultKind) → ((n : List ℕ) → IsNameOf cell n → FailsExactly (next n) Q)
      → FailsExactly (name_in cell >>= next) (AsksName cell Q)
  then_name cell next following = asks_step Name (name cell) (only (is_name cell)) following
    where
      only : (t : Bool) (f : PlanFaultKind) → ◌≡◌ {A = Result (List ℕ) PlanFaultKind} (if t then Ok cell else Err Name) (Err f) → f ≡ Name
      only true f e = absurd cc
      only false f e = let same : Name ≡ f = cc in sym same

  then_named : (o : Option ℕ) (next : ℕ → Result B PlanFaultKind) → ((n : ℕ) → o ≡ Some n → FailsExactly (next n) Q)
      → FailsExactly (number_of o >>= next) (Asks ((n : ℕ) × (o ≡ Some n)) Name Q)
  then_named o next following = asks_step Name (named o) (only o) following
    where
      only : (o : Option ℕ) (f : PlanFaultKind) → number_of o ≡ Err f → f ≡ Name
      only (Some n) f e = absurd cc
      only None f e = let same : Name ≡ f = cc in sym same

  -- a part that is not stated yet, and fewer parts than the maximum
  once : {X : Type 0} {r : Result B PlanFaultKind} (o : Option X) → (o ≡ None → FailsExactly r Q)
      → FailsExactly (if is_some o then Err Twice else r) (Asks (o ≡ None) Twice Q)
  once o following = asks Twice (none_of o) (λ e. ap is_some e) following

  as_many : {r : Result B PlanFaultKind} (n m : ℕ) → FailsExactly r Q → FailsExactly (if not (n == m) then Err Width else r) (Asks (n ≡ m) Width Q)
  as_many n m all = asks Width (λ e. eqb-true n m (not-false (n == m) e)) (λ e. rw (eq-eqb n m e) refl) (λ e. all)

module _ {B : Type 0} {Q : PlanFaultKind → Type 0} where
  then_slope : (rise run : List ℕ) (next : Slope → Result B PlanFaultKind) → ((s : Slope) → EncodesSlope rise run s → FailsExactly (next s) Q)
      → FailsExactly (slope_in rise run >>= next) (AsksSlope rise run Q)
  then_slope rise run next following =
      subst (λ r. FailsExactly r (AsksSlope rise run Q)) (sym (flat (integer_in 1 1000 rise) _ next)) (
      then_whole 1 1000 rise _ (λ p of_p.
      subst (λ r. FailsExactly r (AsksInteger 1 1000 run Q)) (sym (flat (integer_in 1 1000 run) (λ q. Ok (record { p = p; q = q })) next)) (
      then_whole 1 1000 run _ (λ q of_q. following (record { p = p; q = q }) (of_p, of_q)))))

room : {A : Type 0} (n m : ℕ) (x : A) → FailsExactly (if n == m then Err TooMany else Ok x) (Asks (n ≢ m) TooMany NoMore)
room n m x = asks TooMany (eqb-false n m) (ne_eqb n m) (λ free. no_fault x)

-- bands, and the destinations of a resource
then_bands : {B : Type 0} {Q : PlanFaultKind → Type 0} (cells : List (List ℕ)) (next : List Band → Result B PlanFaultKind) → length cells % 2 ≡ 0
    → ((all : List Band) → EncodeBands cells all → FailsExactly (next all) Q) → FailsExactly (bands_in cells >>= next) (AsksBands cells Q)
then_bands [] next even following = following [] tt
then_bands (lone ∷ []) next even following = absurd (omega (arith, even))
then_bands {B} {Q} (start ∷ recovery ∷ cells) next even following =
    subst (λ r. FailsExactly r Pair) (sym (flat (band_in start recovery) (λ b. bands_in cells >>= λ all. Ok (b ∷ all)) next)) (
    subst (λ r. FailsExactly r Pair) (sym (flat (number_in 6 (pos 0) (pos (10 ^ 12)) start) _ rest)) (
    then_number 6 (pos 0) (pos (10 ^ 12)) start _ (omega arith) (λ m of_m.
    subst (λ r. FailsExactly r Half) (sym (flat (integer_in 0 1000 recovery) (λ part. Ok (record { start = unsigned_abs m; recovery = part })) rest)) (
    then_whole 0 1000 recovery _ (λ part of_part.
    let b : Band = record { start = unsigned_abs m; recovery = part } in
    subst (λ r. FailsExactly r (AsksBands cells Q)) (sym (flat (bands_in cells) (λ all. Ok (b ∷ all)) next)) (
    then_bands cells (λ all. next (b ∷ all)) (omega (arith, even)) (λ all encodes.
    following (b ∷ all) (encoded m of_m part of_part, encodes))))))))
  where
    Half : PlanFaultKind → Type 0
    Half = AsksInteger 0 1000 recovery (AsksBands cells Q)

    Pair : PlanFaultKind → Type 0
    Pair = AsksBands (start ∷ recovery ∷ cells) Q

    rest : Band → Result B PlanFaultKind
    rest b = (bands_in cells >>= λ all. Ok (b ∷ all)) >>= next

    encoded : (m : ℤ) → EncodesNumber 6 (pos 0) (pos (10 ^ 12)) start m → (part : ℕ) → EncodesInteger 0 1000 recovery part
        → EncodesBand start recovery (record { start = unsigned_abs m; recovery = part })
    encoded (pos n) of_m part of_part = (of_m, of_part)
    encoded (negsuc n) of_m part of_part = absurd (omega (arith, of_m.1))

then_covers : {B : Type 0} {Q : PlanFaultKind → Type 0} (formulas : List NamedFormula) (cells : List (List ℕ))
    (next : List ℕ → Result B PlanFaultKind) → ((all : List ℕ) → NameDestinations formulas cells all → FailsExactly (next all) Q)
    → FailsExactly (covers_in formulas cells >>= next) (AsksNamed formulas cells Q)
then_covers formulas [] next following = following [] tt
then_covers {Q} formulas (cell ∷ cells) next following =
    subst (λ r. FailsExactly r (AsksNamed formulas (cell ∷ cells) Q)) (sym (flat (number_of (destination_named formulas cell)) _ next)) (
    then_named (destination_named formulas cell) _ (λ n is.
    subst (λ r. FailsExactly r (AsksNamed formulas cells Q)) (sym (flat (covers_in formulas cells) (λ all. Ok (n ∷ all)) next)) (
    then_covers formulas cells (λ all. next (n ∷ all)) (λ all are. following (n ∷ all) (is, are)))))

module _ (s : Stated) (cells : List (List ℕ)) where
  abbrev c : ℕ → List ℕ
  c place = cell_at cells place

  zone_fails : FailsExactly (zone_record s cells) (ZoneFails s cells)
  zone_fails = by (length cells == 4) refl (length cells == 10) refl
    where
      equal : FailsExactly (equal_zone s cells) (EqualZoneFails s cells)
      equal = then_slope (c 1) (c 2) _ (λ slope is. then_whole 1 20 (c 3) _ (λ k of_k. room (length s.cones) 64 _))

      sided : FailsExactly (sided_zone s cells) (SidedZoneFails s cells)
      sided =
          then_slope (c 1) (c 2) _ (λ east _. then_slope (c 3) (c 4) _ (λ west _. then_slope (c 5) (c 6) _ (λ north _.
          then_slope (c 7) (c 8) _ (λ south _. then_whole 1 20 (c 9) _ (λ k _. room (length s.cones) 64 _)))))

      by : (four : Bool) → (length cells == 4) ≡ four → (ten : Bool) → (length cells == 10) ≡ ten
          → FailsExactly (if four then equal_zone s cells else (if ten then sided_zone s cells else Err Width)) (ZoneFails s cells)
      by true four ten is = record {
        reported = λ f e. inr (inl (eqb-true (length cells) 4 four), inl (eqb-true (length cells) 4 four, equal.reported f e));
        back = back;
      }
        where
          back : (f : PlanFaultKind) → ZoneFails s cells f → equal_zone s cells ≡ Err f
          back f (inl (never, same)) = absurd (never (inl (eqb-true (length cells) 4 four)))
          back f (inr (wide, inl (is, fails))) = equal.back f fails
          back f (inr (wide, inr (is, fails))) = absurd (omega (arith, is, eqb-true (length cells) 4 four))
      by false four true ten = record {
        reported = λ f e. inr (inr (eqb-true (length cells) 10 ten), inr (eqb-true (length cells) 10 ten, sided.reported f e));
        back = back;
      }
        where
          back : (f : PlanFaultKind) → ZoneFails s cells f → sided_zone s cells ≡ Err f
          back f (inl (never, same)) = absurd (never (inr (eqb-true (length cells) 10 ten)))
          back f (inr (wide, inl (is, fails))) = absurd (omega (arith, is, eqb-true (length cells) 10 ten))
          back f (inr (wide, inr (is, fails))) = sided.back f fails
      by false four false ten = record { reported = reported; back = back }
        where
          never : (length cells ≡ 4) ⊎ (length cells ≡ 10) → ⊥
          never (inl is) = eqb-false (length cells) 4 four is
          never (inr is) = eqb-false (length cells) 10 ten is

          reported : (f : PlanFaultKind) → ◌≡◌ {A = Result Stated PlanFaultKind} (Err Width) (Err f) → ZoneFails s cells f
          reported f e = let same : Width ≡ f = cc in inl (never, sym same)

          back : (f : PlanFaultKind) → ZoneFails s cells f → ◌≡◌ {A = Result Stated PlanFaultKind} (Err Width) (Err f)
          back f (inl (not, same)) = ap Err (sym same)
          back f (inr (wide, fails)) = absurd (never wide)

  -- a destination with the NAME of its cell
  fresh : (n : List ℕ) (formula : Formula) → IsNameOf (c 1) n → FailsExactly (fresh_destination s n formula) (AsksNew s (c 1) (AsksRoom s))
  fresh n formula is =
      subst (λ m. FailsExactly (fresh_destination s n formula) (AsksNew s m (AsksRoom s))) is.1
      (once (destination_named s.formulas n) (λ new. room (length s.formulas) 8 (with_destination s n formula)))

  -- bands that rise, at most 16
  risen : (even : length (drop 4 cells) % 2 ≡ 0) (n : List ℕ) (price cost : ℕ) (all : List Band) → EncodeBands (drop 4 cells) all
      → FailsExactly (rising all >>= λ bands. destination_more s n (Leach bands price cost))
      (AsksOfBands (drop 4 cells) (λ bands. starts_rise bands ≡ true) Order
      (AsksOfBands (drop 4 cells) (λ bands. length bands ≤ 16) TooMany (AsksRoom s)))
  risen even n price cost all encodes = by (starts_rise all) refl (nat_le (length all) 16) refl
    where
      only : (other : List Band) → EncodeBands (drop 4 cells) other → other ≡ all
      only other h = same other all (sym ((bands (drop 4 cells) even).back other h) ∙ (bands (drop 4 cells) even).back all encodes)

      more : FailsExactly (destination_more s n (Leach all price cost)) (AsksRoom s)
      more = room (length s.formulas) 8 (with_destination s n (Leach all price cost))

      Rise : List Band → Type 0
      Rise bands = starts_rise bands ≡ true

      Few : List Band → Type 0
      Few bands = length bands ≤ 16

      by : (rise : Bool) → starts_rise all ≡ rise → (few : Bool) → nat_le (length all) 16 ≡ few
          → FailsExactly ((if not rise then Err Order else (if not few then Err TooMany else Ok all)) >>= λ bands. destination_more s n (Leach bands price cost))
          (AsksOfBands (drop 4 cells) Rise Order (AsksOfBands (drop 4 cells) Few TooMany (AsksRoom s)))
      by true rise true few =
          asks {t = false} Order (λ e. (all, encodes, rise)) (λ h. refl)
          (λ h. asks {t = false} TooMany (λ e. (all, encodes, leb-true (length all) 16 few)) (λ h. refl) (λ h. more))
      by true rise false few =
          asks {t = false} Order (λ e. (all, encodes, rise)) (λ h. refl)
          (λ h. asks {r = destination_more s n (Leach all price cost)} {t = true} TooMany (λ e. absurd cc)
          (λ h. let within = subst Few (only h.0 h.1) h.2 in absurd (cc (few, le-leb (length all) 16 within))) (λ h. more))
      by false rise few of_few =
          asks {r = destination_more s n (Leach all price cost)} {t = true} Order (λ e. absurd cc)
          (λ h. let rises = subst Rise (only h.0 h.1) h.2 in absurd (cc (rise, rises)))
          (λ h. absurd (cc (rise, subst Rise (only h.0 h.1) h.2)))

  destination_fails : (k : FormulaKey) → FailsExactly (destination_record k s cells) (DestinationFails k s cells)
  destination_fails formula_key.Mill =
      as_many (length cells) 5 (then_name (c 1) _ (λ n is. then_whole 0 1000 (c 2) _ (λ recovery _. then_whole 0 (10 ^ 8) (c 3) _ (λ price _.
      then_whole 0 (10 ^ 7) (c 4) _ (λ cost _. fresh n (Mill recovery price cost) is)))))
  destination_fails formula_key.Leach =
      asks Width (leach_width cells).0 (leach_width cells).1 (λ many.
      let even : length (drop 4 cells) % 2 ≡ 0 = omega (arith, length-drop 4 cells, many.0, many.1) in
      then_name (c 1) _ (λ n is. then_whole 0 (10 ^ 8) (c 2) _ (λ price _. then_whole 0 (10 ^ 7) (c 3) _ (λ cost _.
      then_bands (drop 4 cells) _ even (λ all encodes.
      subst (λ m. FailsExactly (if is_some (destination_named s.formulas n) then Err Twice
      else (rising all >>= λ bands. destination_more s n (Leach bands price cost))) (AsksNew s m
      (AsksOfBands (drop 4 cells) (λ bands. starts_rise bands ≡ true) Order
      (AsksOfBands (drop 4 cells) (λ bands. length bands ≤ 16) TooMany (AsksRoom s))))) is.1 (
      once (destination_named s.formulas n) (λ new. risen even n price cost all encodes)))))))
  destination_fails formula_key.Dump =
      as_many (length cells) 3 (then_name (c 1) _ (λ n is. then_whole 0 (10 ^ 7) (c 2) _ (λ cost _. fresh n (Dump cost) is)))

  resource_fails : FailsExactly (resource_record s cells) (PartFails key.Resource s cells)
  resource_fails =
      asks Width (ltb-false (length cells) 3) (le-ltb (length cells) 3) (λ three. then_name (c 1) _ (λ n is.
      then_covers s.formulas (drop 2 cells) _ (λ all are.
      asks Twice (new n is all are) (old n is all are) (λ fresh. room (length s.resources) 8 _))))
    where
      new : (n : List ℕ) → IsNameOf (c 1) n → (all : List ℕ) → NameDestinations s.formulas (drop 2 cells) all
          → (is_some (resource_named s.resources n) || has_repeat all) ≡ false → IsNewResource s cells
      new n is all are e =
          let h = or_parts (is_some (resource_named s.resources n)) (has_repeat all) e in
          (subst (λ m. resource_named s.resources m ≡ None) is.1 (none_of (resource_named s.resources n) h.0), (all, are, h.1))

      old : (n : List ℕ) → IsNameOf (c 1) n → (all : List ℕ) → NameDestinations s.formulas (drop 2 cells) all
          → IsNewResource s cells → (is_some (resource_named s.resources n) || has_repeat all) ≡ false
      old n is all are h =
          let one = covers s.formulas (drop 2 cells) in
          let same_covers : h.1.0 ≡ all = same h.1.0 all (sym (one.back h.1.0 h.1.1) ∙ one.back all are) in
          let none : resource_named s.resources n ≡ None = subst (λ m. resource_named s.resources m ≡ None) (sym is.1) h.0 in
          ap (λ (o : Option ℕ). is_some o || has_repeat all) none ∙ subst (λ all. has_repeat all ≡ false) same_covers h.1.2

  -- the width of a limit
  lettered : (letter : List ℕ) → c 3 ≢ letter → is_letter cells letter ≡ false
  lettered letter differs = by (is_letter cells letter) refl
    where
      by : (t : Bool) → is_letter cells letter ≡ t → is_letter cells letter ≡ false
      by true e = absurd (differs (letter_is cells letter e))
      by false e = e

  other_letter : (letter : List ℕ) → is_letter cells letter ≡ false → c 3 ≢ letter
  other_letter letter e is = absurd (cc (e, (bytes_eq-Decides (c 3) letter).1 is))

  limit_width : IsAsWide cells → HasLimitWidth cells
  limit_width = by (is_letter cells (codes "I")) refl
    where
      by : (t : Bool) → is_letter cells (codes "I") ≡ t → length cells ≡ (if t then 6 else 5) → HasLimitWidth cells
      by true e h = inl (letter_is cells (codes "I") e, h)
      by false e h = inr (other_letter (codes "I") e, h)

  width_limit : HasLimitWidth cells → IsAsWide cells
  width_limit (inl (is, six)) = rw is six
  width_limit (inr (differs, five)) = rw (lettered (codes "I") differs) five

  -- its letter and its tonnes
  then_bound : {B : Type 0} {Q : PlanFaultKind → Type 0} (next : Bound → Result B PlanFaultKind)
      → ((b : Bound) → Numbers s cells b → FailsExactly (next b) Q) → FailsExactly (bound_in cells >>= next) (AsksBound cells Q)
  then_bound {B} {Q} next following =
      by (is_letter cells (codes "I")) refl (is_letter cells (codes "L")) refl (is_letter cells (codes "G")) refl
    where
      Second : PlanFaultKind → Type 0
      Second kind = ((c 3 ≡ codes "I") × AsksTonnes (c 5) Q kind) ⊎ ((c 3 ≢ codes "I") × Q kind)

      lone : (make : ℤ → Bound) → c 3 ≢ codes "I" → ((v : ℤ) → EncodesTonnes (c 4) v → Numbers s cells (make v))
          → FailsExactly ((tonnes_in (c 4) >>= λ v. Ok (make v)) >>= next) (AsksTonnes (c 4) Second)
      lone make differs numbers =
          subst (λ r. FailsExactly r (AsksTonnes (c 4) Second)) (sym (flat (tonnes_in (c 4)) (λ v. Ok (make v)) next)) (
          then_tonnes (c 4) _ (λ v of_v. restated (following (make v) (numbers v of_v)) (λ f h. inr (differs, h)) last))
        where
          last : (f : PlanFaultKind) → Second f → Q f
          last f (inl h) = absurd (differs h.0)
          last f (inr h) = h.1

      two : c 3 ≡ codes "I"
          → FailsExactly ((tonnes_in (c 4) >>= λ v. tonnes_in (c 5) >>= λ w. Ok (Between v w)) >>= next) (AsksTonnes (c 4) Second)
      two is =
          subst (λ r. FailsExactly r (AsksTonnes (c 4) Second)) (sym (flat (tonnes_in (c 4)) _ next)) (
          then_tonnes (c 4) _ (λ v of_v. restated (second v of_v) (λ f h. inl (is, h)) last))
        where
          second : (v : ℤ) → EncodesTonnes (c 4) v → FailsExactly ((tonnes_in (c 5) >>= λ w. Ok (Between v w)) >>= next) (AsksTonnes (c 5) Q)
          second v of_v =
              subst (λ r. FailsExactly r (AsksTonnes (c 5) Q)) (sym (flat (tonnes_in (c 5)) (λ w. Ok (Between v w)) next)) (
              then_tonnes (c 5) _ (λ w of_w. following (Between v w) (is, of_v, of_w)))

          last : (f : PlanFaultKind) → Second f → AsksTonnes (c 5) Q f
          last f (inl h) = h.1
          last f (inr h) = absurd (h.0 is)

      has : {r : Result B PlanFaultKind} → HasLetter cells → FailsExactly r (AsksTonnes (c 4) Second) → FailsExactly r (AsksBound cells Q)
      has letter all = asks {t = false} Name (λ e. letter) (λ h. refl) (λ h. all)

      by : (i : Bool) → is_letter cells (codes "I") ≡ i → (l : Bool) → is_letter cells (codes "L") ≡ l → (g : Bool) → is_letter cells (codes "G") ≡ g
          → FailsExactly ((if i then (tonnes_in (c 4) >>= λ v. tonnes_in (c 5) >>= λ w. Ok (Between v w))
          else (if l then (tonnes_in (c 4) >>= λ v. Ok (AtMost v))
          else (if g then (tonnes_in (c 4) >>= λ v. Ok (AtLeast v))
          else Err Name))) >>= next) (AsksBound cells Q)
      by true at_i l at_l g at_g = let is = letter_is cells (codes "I") at_i in has (inr (inr is)) (two is)
      by false at_i true at_l g at_g =
          let is = letter_is cells (codes "L") at_l in
          has (inl is) (lone AtMost (other_letter (codes "I") at_i) (λ v of_v. (is, of_v)))
      by false at_i false at_l true at_g =
          let is = letter_is cells (codes "G") at_g in
          has (inr (inl is)) (lone AtLeast (other_letter (codes "I") at_i) (λ v of_v. (is, of_v)))
      by false at_i false at_l false at_g =
          asks {r = Err Name} {t = true} Name (λ e. absurd cc) (λ h. absurd (never h)) (λ h. absurd (never h))
        where
          never : HasLetter cells → ⊥
          never (inl is) = other_letter (codes "L") at_l is
          never (inr (inl is)) = other_letter (codes "G") at_g is
          never (inr (inr is)) = other_letter (codes "I") at_i is

  one_limit : (l m : Limit) → EncodesLimit s cells l → EncodesLimit s cells m → l ≡ m
  one_limit l m of_l of_m =
      let resource : Some l.resource ≡ Some m.resource = sym of_l.0 ∙ of_m.0 in
      let of_resource : l.resource ≡ m.resource = cc in
      let periods = below (unwrap_or s.periods 0) (c 2) in
      let of_period = same l.period m.period (sym (periods.back l.period of_l.1) ∙ periods.back m.period of_m.1) in
      let all = bound s cells in
      let of_bound = same l.bound m.bound
      (sym (all.back l.bound (bound_from s cells l.bound of_l.2).1) ∙ all.back m.bound (bound_from s cells m.bound of_m.2).1) in
      λ i. record { resource = of_resource i; period = of_period i; bound = of_bound i }

  limit_fails : FailsExactly (limit_record s cells) (PartFails key.Limit s cells)
  limit_fails =
      asks Width (λ e. limit_width (eqb-true (length cells) many (not-false (length cells == many) e)))
      (λ h. rw (eq-eqb (length cells) many (width_limit h)) refl) (λ wide.
      then_named (resource_named s.resources (c 1)) _ (λ resource of_resource.
      then_below (unwrap_or s.periods 0) (c 2) _ (λ period of_period. then_bound _ (λ b of_b.
      last (record { resource = resource; period = period; bound = b }) (of_resource, of_period, bound_to s cells (width_limit wide) b of_b)))))
    where
      many : ℕ
      many = if is_letter cells (codes "I") then 6 else 5

      Alone : Limit → Type 0
      Alone l = list_any (λ m. is_same_place l m) s.limits ≡ false

      Straight : Limit → Type 0
      Straight l = is_turned l.bound ≡ false

      last : (l : Limit) → EncodesLimit s cells l
          → FailsExactly (limit_more s l) (AsksOfLimit s cells Alone Twice (AsksOfLimit s cells Straight Order NoMore))
      last l encodes =
          asks Twice (λ e. (l, encodes, e)) (λ h. subst Alone (one_limit h.0 l h.1 encodes) h.2)
          (λ h. asks Order (λ e. (l, encodes, e)) (λ h. subst Straight (one_limit h.0 l h.1 encodes) h.2) (λ h. no_fault _))

  pub part_fails : (k : PlanKey) → FailsExactly (key_record (Some k) s cells) (PartFails k s cells)
  part_fails key.Name = as_many (length cells) 2 (then_name (c 1) _ (λ n is. once s.name (λ none. no_fault _)))
  part_fails key.Grid =
      as_many (length cells) 7 (then_origin (c 1) _ (λ x _. then_origin (c 2) _ (λ y _. then_origin (c 3) _ (λ z _.
      then_size (c 4) _ (λ a _. then_size (c 5) _ (λ b _. then_size (c 6) _ (λ d _. once s.grid (λ none. no_fault _))))))))
  part_fails key.Zone = zone_fails
  part_fails (key.Destination k) = destination_fails k
  part_fails key.Periods = as_many (length cells) 2 (then_whole 1 100 (c 1) _ (λ n _. once s.periods (λ none. no_fault _)))
  part_fails key.Rate =
      as_many (length cells) 2 (then_number 6 (pos 0) (pos (10 ^ 6)) (c 1) _ (omega arith) (λ r _. once s.rate (λ none. no_fault _)))
  part_fails key.Resource = resource_fails
  part_fails key.Limit = limit_fails
