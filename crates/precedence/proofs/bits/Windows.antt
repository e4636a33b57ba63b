-- What the lanes of a window retain, by blocks and by identifiers.
use Rattle.std.proofs.Common.{◌≡◌, ℕ, ◌+◌, ◌-◌, ◌^◌, ◌<◌, ◌≤◌, ◌||◌, ◌++◌, ◌∷◌, [], true, false, List, Contains, length, get_or, map, nat_le, nat_lt, slice_set, inl, inr, refl, sym, ap, subst, ◌∙◌, arith, ⊎_elim}
use Rattle.std.specs.List.Sorted.{IsStrictlyIncreasing}
use Rattle.std.proofs.lemmas.Bool.{and_parts, both_ways, cases_eq, cases_lt, leb-true, ltb-true, or_cases}
use Rattle.std.proofs.lemmas.Bool.Decides.{nat_tests}
use Rattle.std.proofs.lemmas.List.{get_or_default, get_or-map, get_or-set_other, get_or-set_same, length-map}
use Rattle.std.proofs.Math.ListN.{length-set}
use Rattle.std.proofs.lemmas.List.Elements.{Contains-append_left, Contains-get_or, Contains-push, Contains-push_cases}
use Rattle.std.proofs.lemmas.List.Kept.{AllPairs-from_increasing}
use Rattle.std.proofs.lemmas.Option.{slice_get-get_or}
use Rattle.precedence.specs.inner.lanes.Bits.{has_bit}
use Rattle.precedence.specs.inner.lanes.Windows.{any_block, cones_of, of_table, rows_of, scene, table_of, AreFound, AreRetained, AreStrips, AreWindows, HasBetween, HasLane, IsBlockAt, IsLane, IsRetained, IsWindow, MeetsAny, Scene, Sees, SeesAt}
use Rattle.precedence.specs.inner.Rows.{is_in_row, is_in_rows, start_of}
use Rattle.precedence.specs.inner.Between.{IsBetween}
use Rattle.precedence.specs.inner.ZoneTables.{rows_of_table}
use Rattle.precedence.specs.declared.cones.block_cones.BlockCones.{BlockCones}
use Rattle.precedence.specs.declared.cones.cone_rows.Row.{Row}
use Rattle.precedence.specs.declared.cones.cone_table.ConeTable.{ConeTable}
use Rattle.precedence.specs.declared.lanes.strip.Strip.{Strip}
use Rattle.precedence.specs.declared.lanes.strips.Found.{Found}
use Rattle.precedence.specs.declared.lanes.strips.Sight.{Sight}
use Rattle.precedence.specs.declared.lanes.strips.Window.{Window}
use Rattle.precedence.specs.declared.lanes.strips.Windows.{Windows}
use Rattle.precedence.proofs.bits.Looking.{table_below}
use Rattle.precedence.proofs.bits.Words.{no_bit}
use Rattle.precedence.proofs.Members.{rising_push, some_of}
use Rattle.precedence.proofs.ranges.SameCone.{one_code, start_at}
use Rattle.precedence.proofs.ranges.Starts.{no_less}

-- ---- rows by their distances

-- a distance in rows is small
pub small_in_rows : (rows : List Row) (e : ℕ) → is_in_rows 0 rows e ≡ true → e < 10 ^ 15
small_in_rows [] e h = absurd (let no : ⊥ = cc in no)
small_in_rows (row ∷ rows) e h = ⊎_elim
    (λ here. omega (arith, ltb-true e (0 + row.past) (and_parts (nat_le (0 + row.first) e) (nat_lt e (0 + row.past)) here).1, row.small))
    (λ later. small_in_rows rows e later)
    (or_cases (is_in_row 0 row e) (is_in_rows 0 rows e) h)

rows_from : (from e : ℕ) (rows : List Row) → is_in_rows from rows (from + e) ≡ is_in_rows 0 rows e
rows_from from e [] = refl
rows_from from e (row ∷ rows) = λ j. row_from row j || rows_from from e rows j
  where
    row_from : (row : Row) → is_in_row from row (from + e) ≡ is_in_row 0 row e
    row_from row = grind (arith, nat_tests)

above_from : (from c : ℕ) (rows : List Row) → is_in_rows from rows c ≡ true → from ≤ c
above_from from c [] h = absurd (let no : ⊥ = cc in no)
above_from from c (row ∷ rows) h = ⊎_elim
    (λ here. omega (arith, leb-true (from + row.first) c (and_parts (nat_le (from + row.first) c) (nat_lt c (from + row.past)) here).0))
    (λ later. above_from from c rows later)
    (or_cases (is_in_row from row c) (is_in_rows from rows c) h)

distance_of : (from c e : ℕ) (rows : List Row) → c ≡ from + e → is_in_rows from rows c ≡ true → is_in_rows 0 rows e ≡ true
distance_of from c e rows at h = sym (rows_from from e rows) ∙ sym (ap (λ n. is_in_rows from rows n) at) ∙ h

at_distance : (from c e : ℕ) (rows : List Row) → c ≡ from + e → is_in_rows 0 rows e ≡ true → is_in_rows from rows c ≡ true
at_distance from c e rows at h = ap (λ n. is_in_rows from rows n) at ∙ rows_from from e rows ∙ h

-- ---- blocks between

block_at : (b : Scene) (Is : ℕ → Type 0) (code other id : ℕ) → code ≡ other → IsBlockAt b Is code id → IsBlockAt b Is other id
block_at b Is code other id same at = record { within = at.within; code_is = at.code_is ∙ same; kind = at.kind }

module _ (b : Scene) (Is : ℕ → Type 0) (own : List Row) (base at : ℕ) (strips : List Strip) (are : AreStrips b Is own base at strips) where
  seen_there : (k i e : ℕ) (s : Strip) → k < length strips → SeesAt (get_or strips k s) i e
      → (is_in_rows 0 own e ≡ true) × ((id : ℕ) × IsBlockAt b Is (base + i + e) id)
  seen_there k i e s lt sees =
      let strip = get_or strips k s in
      let is = are.each k s lt in
      let w = is.sound (i + (e - strip.start)) sees.bit in
      (is.inside e sees.distance, (w.0, block_at b Is _ _ w.0 (omega (arith, sees.distance.0)) w.1))

  there_seen : (i e id : ℕ) → i < 64 → e < at → is_in_rows 0 own e ≡ true → IsBlockAt b Is (base + i + e) id
      → (k : ℕ) × (k < length strips) × ((s : Strip) → SeesAt (get_or strips k s) i e)
  there_seen i e id few lt inside block =
      let w = are.all i e id few lt inside block in (
        w.0,
        w.1,
        λ s.
            let strip = get_or strips w.0 s in
            let has = w.2 s in
            record {
              distance = has;
              bit = (are.each w.0 s w.1).complete (i + (e - strip.start)) id (omega (arith, has.0, has.1)) block.within
                  (block_at b Is _ _ id (omega (arith, has.0)) block);
            },
      )

module _ (cones : BlockCones) (own : List Row) (base : ℕ) (sight : Sight) (sees : Sees (scene cones) own base (10 ^ 15) sight) (i : ℕ) where
  abbrev b : Scene
  b = scene cones

  rows_are : (n : ℕ) (t : ConeTable) → n < length b.tables → rows_of b n ≡ (get_or b.tables n t).rows.items
  rows_are n t lt = ap rows_of_table (slice_get-get_or b.tables n t lt)

  -- a lane that sees a block from which the distance is in its cone has a block between
  meets_between : (distance : ℕ) → MeetsAny b.tables sight.by_table.items distance i → HasBetween b own (base + i) distance
  meets_between distance (n, (in_tables, meets)) =
      let lt : n < length sight.by_table.items = omega (arith, in_tables, sees.tables) in
      let t = some_of b.tables n in_tables in
      let s = some_of sight.by_table.items n lt in
      let strips = (get_or sight.by_table.items n s).strips.items in
      let w = meets t s in
      let at = w.1 in
      let e = at.1 in
      let strip = some_of strips w.0 at.0 in
      let met = at.2 strip in
      let there = seen_there b (of_table b n) own base (10 ^ 15) strips (sees.each n s lt) w.0 i e strip at.0 met.sees in (
        e,
        n,
        there.1.0,
        record { above = there.0; at = there.1.1; lower = met.lower; below = ap (λ rows. is_in_rows 0 rows (distance - e)) (rows_are n t in_tables) ∙ met.below },
      )

  between_meets : i < 64 → (distance : ℕ) → HasBetween b own (base + i) distance → MeetsAny b.tables sight.by_table.items distance i
  between_meets few distance w =
      let e = w.0 in
      let n = w.1 in
      let id = w.2 in
      let h = w.3 in
      let low = table_below cones id h.at.within in
      let number : n < length b.tables = omega (arith, low, h.at.kind) in (
        n,
        (
          number,
          λ t s.
              let strips = (get_or sight.by_table.items n s).strips.items in
              let there = there_seen b (of_table b n) own base (10 ^ 15) strips (sees.each n s (omega (arith, number, sees.tables))) i e id few
              (small_in_rows own e h.above) h.above h.at in (
                there.0,
                (
                  there.1,
                  e,
                  λ strip. record {
                    sees = there.2 strip;
                    lower = h.lower;
                    below = ap (λ rows. is_in_rows 0 rows (distance - e)) (sym (rows_are n t number)) ∙ h.below;
                  },
                ),
              ),
        ),
      )

  -- the result for the lane is the reduced list of its block
  lane : (lanes : ℕ) (found : List Found) → AreFound b.tables sight lanes (10 ^ 15) found → has_bit lanes i ≡ true → i < 64
      → IsLane b own (base + i) i found
  lane lanes found are has few = record {
    rising = are.rising;
    sound = λ distance w.
        let f = some_of found w.0 w.1 in
        let at = w.2 f in
        let kept = subst (λ n. IsRetained b.tables sight lanes i n) at.0 (are.sound w.0 i f w.1 at.1) in
        let strips = sight.all.strips.items in
        let seen = kept.seen in
        let s = some_of strips seen.0 seen.1 in
        let there = seen_there b any_block own base (10 ^ 15) strips sees.every seen.0 i distance s seen.1 (seen.2 s) in
        (there.0, there.1, λ between. kept.alone (between_meets few distance between));
    complete = λ distance id inside block.
        let strips = sight.all.strips.items in
        let small = small_in_rows own distance inside in
        let there = there_seen b any_block own base (10 ^ 15) strips sees.every i distance id few small inside block in
        let s = some_of strips there.0 there.1 in
        ⊎_elim
        (λ yes. inl yes)
        (λ meets. inr (meets_between distance meets))
        (are.complete there.0 i distance s small there.1 has (there.2 s));
  }

-- ---- windows

pub no_window : (b : Scene) (number : ℕ) (w : Window) → w.lanes ≡ 0 → IsWindow b number w
no_window b number w none = record { lanes = λ i has few. absurd (no_bit i (subst (λ n. has_bit n i ≡ true) none has)) }

pub window_of : (cones : BlockCones) (number : ℕ) (w : Window) (sight : Sight) → Sees (scene cones) (rows_of (scene cones) number) w.base (10 ^ 15) sight
    → AreFound cones.tables.now.tables.items sight w.lanes (10 ^ 15) w.found.items → IsWindow (scene cones) number w
window_of cones number w sight sees are = record {
  lanes = λ i has few. lane cones (rows_of (scene cones) number) w.base sight sees i w.lanes w.found.items are has few;
}

-- windows with one replaced
pub windows_with : (b : Scene) (old new : Windows) (number : ℕ) (w : Window) → AreWindows b old
    → new.windows.items ≡ slice_set old.windows.items number w → length new.sight.by_table.items ≡ length b.tables → IsWindow b number w
    → AreWindows b new
windows_with b old new number w h is sight window =
    let long : length new.windows.items ≡ length old.windows.items = ap length is ∙ length-set old.windows.items number w in
    record {
      tables = omega (arith, long, h.tables);
      sight = sight;
      each = λ n d lt. ⊎_elim
          (λ same.
          let here = ap (λ (xs : List Window). get_or xs n d) is ∙ ap (λ m. get_or (slice_set old.windows.items m w) n d) (sym same)
          ∙ get_or-set_same old.windows.items n w d (omega (arith, lt, long)) in
          subst (λ (x : Window). IsWindow b n x) (sym here) (subst (λ m. IsWindow b m w) (sym same) window))
          (λ other.
          let there = ap (λ (xs : List Window). get_or xs n d) is ∙ get_or-set_other old.windows.items number n w d other in
          subst (λ (x : Window). IsWindow b n x) (sym there) (h.each n d (omega (arith, lt, long))))
          (cases_eq n number);
    }

pub lane_of : (b : Scene) (w : Window) (id : ℕ) → IsWindow b (table_of b id) w → HasLane w (get_or b.codes id 0)
    → IsLane b (rows_of b (table_of b id)) (get_or b.codes id 0) (get_or b.codes id 0 - w.base) w.found.items
lane_of b w id window has =
    let at : w.base + (get_or b.codes id 0 - w.base) ≡ get_or b.codes id 0 = omega (arith, has.low) in
    subst (λ n. IsLane b (rows_of b (table_of b id)) n (get_or b.codes id 0 - w.base) w.found.items) at
    (window.lanes (get_or b.codes id 0 - w.base) has.bit (omega (arith, has.low, has.up)))

-- ---- the identifiers that a lane retains

-- the identifier at index j of the results for the lane
pub record IsOf (codes : List ℕ) (from lane : ℕ) (found : List Found) (j c : ℕ) : Type 0 where
  pub within : c < length codes
  pub code : (f : Found) → get_or codes c 0 ≡ from + (get_or found j f).distance
  pub bit : (f : Found) → has_bit (get_or found j f).lanes lane ≡ true

-- the identifiers of the first k results for the lane
pub record AreListed (codes : List ℕ) (from lane k : ℕ) (found : List Found) (ids : List ℕ) : Type 0 where
  pub rising : IsStrictlyIncreasing ids
  pub sound : (c : ℕ) → Contains ids c → (j : ℕ) × (j < k) × IsOf codes from lane found j c
  pub complete : (j : ℕ) (f : Found) → j < k → j < length found → has_bit (get_or found j f).lanes lane ≡ true
      → (c : ℕ) × Contains ids c × IsOf codes from lane found j c

module _ (codes : List ℕ) (rises : IsStrictlyIncreasing codes) (from lane : ℕ) (found : List Found)
    (rising : IsStrictlyIncreasing (map (λ (f : Found). f.distance) found)) where
  module _ (k : ℕ) (ids : List ℕ) (h : AreListed codes from lane k found ids) (within : k < length found) where
    bit_at_k : (g : Found) (f : Found) → has_bit (get_or found k g).lanes lane ≡ true → has_bit (get_or found k f).lanes lane ≡ true
    bit_at_k g f bit = ap (λ (x : Found). has_bit x.lanes lane) (get_or_default found k f g within) ∙ bit

    -- the lane does not retain the next block
    pub listed_skip : (g : Found) → has_bit (get_or found k g).lanes lane ≡ false → AreListed codes from lane (k + 1) found ids
    listed_skip g none = record {
      rising = h.rising;
      sound = λ c has. let w = h.sound c has in (w.0, (let lt = w.1 in omega (arith, lt)), w.2);
      complete = λ j f lt in' bit. ⊎_elim
          (λ less. h.complete j f less in' bit)
          (λ le.
          let same : j ≡ k = omega arith in
          absurd (both_ways (has_bit (get_or found k g).lanes lane) none
          (bit_at_k f g (subst (λ n. has_bit (get_or found n f).lanes lane ≡ true) same bit))))
          (cases_lt j k);
    }

    -- the lane retains the next block
    pub listed_push : (id : ℕ) → IsOf codes from lane found k id → AreListed codes from lane (k + 1) found (ids ++ id ∷ [])
    listed_push id of = record {
      rising = rising_push ids id h.rising (λ n d lt. before _ (h.sound _ (Contains-get_or ids n d lt)));
      sound = λ c has. ⊎_elim
          (λ old. let w = h.sound c old in (w.0, (let lt = w.1 in omega (arith, lt)), w.2))
          (λ new. (k, omega arith, subst (λ n. IsOf codes from lane found k n) new of))
          (Contains-push_cases ids id c has);
      complete = λ j f lt in' bit. ⊎_elim
          (λ less. let w = h.complete j f less in' bit in (w.0, Contains-append_left ids (id ∷ []) w.0 w.1, w.2))
          (λ le.
          let same : k ≡ j = omega arith in
          (id, Contains-push ids id, subst (λ n. IsOf codes from lane found n id) same of))
          (cases_lt j k);
    }
      where
        before : (c : ℕ) → (j : ℕ) × (j < k) × IsOf codes from lane found j c → c < id
        before c w =
            let f = some_of found k within in
            let lt : w.0 < length found = (let less = w.1 in omega (arith, less)) in
            let long = length-map found (λ (g : Found). g.distance) in
            let low = get_or-map (λ (g : Found). g.distance) found w.0 f 0 lt in
            let up = get_or-map (λ (g : Found). g.distance) found k f 0 within in
            let less = AllPairs-from_increasing (map (λ (g : Found). g.distance) found) rising w.0 k 0 w.1 (omega arith) in
            ⊎_elim
            (λ lt. lt)
            (λ le. absurd (omega (arith, no_less codes id c rises le w.2.within, w.2.code f, of.code f, low, up, less)))
            (cases_lt c id)

-- ---- reduced lists

module _ (b : Scene) (rises : IsStrictlyIncreasing b.codes) (id : ℕ) where
  abbrev from : ℕ
  from = get_or b.codes id 0

  abbrev own : List Row
  own = rows_of b (table_of b id)

  has_between_if_between : (c d e : ℕ) → get_or b.codes c 0 ≡ from + e → IsBetween b.codes (cones_of b) id c d → HasBetween b own from e
  has_between_if_between c d e at lies =
      let low = above_from from (get_or b.codes d 0) own lies.above in
      let up = above_from (get_or b.codes d 0) (get_or b.codes c 0) (cones_of b d) lies.below in
      let f = get_or b.codes d 0 - from in (
        f,
        table_of b d,
        d,
        record {
          above = distance_of from (get_or b.codes d 0) f own (omega arith) lies.above;
          at = record { within = lies.within; code_is = omega arith; kind = refl };
          lower = omega arith;
          below = distance_of (get_or b.codes d 0) (get_or b.codes c 0) (e - f) (cones_of b d) (omega arith) lies.below;
        },
      )

  between_if_has_between : (c e : ℕ) → get_or b.codes c 0 ≡ from + e → HasBetween b own from e → (d : ℕ) × IsBetween b.codes (cones_of b) id c d
  between_if_has_between c e at w =
      let f = w.0 in
      let d = w.2 in
      let h = w.3 in
      let up = h.lower in
      let here = h.at.code_is in (
        d,
        record {
          within = h.at.within;
          above = at_distance from (get_or b.codes d 0) f own here h.above;
          below = at_distance (get_or b.codes d 0) (get_or b.codes c 0) (e - f) (cones_of b d) (omega arith)
              (ap (λ n. is_in_rows 0 (rows_of b n) (e - f)) h.at.kind ∙ h.below);
        },
      )

  pub retained : (lane : ℕ) (found : List Found) (ids : List ℕ) → IsLane b own from lane found → AreListed b.codes from lane (length found) found ids
      → AreRetained b id ids
  retained lane found ids is h = record {
    rising = h.rising;
    sound = λ c has.
        let w = h.sound c has in
        let f = some_of found w.0 w.1 in
        let e = (get_or found w.0 f).distance in
        let at = w.2.code f in
        let there = is.sound e (w.0, w.1, λ g. (ap (λ (x : Found). x.distance) (get_or_default found w.0 g f w.1), w.2.bit g)) in
        (w.2.within, at_distance from (get_or b.codes c 0) e own at there.0, λ d lies. there.2 (has_between_if_between c d e at lies));
    complete = λ c lt above.
        let low = above_from from (get_or b.codes c 0) own above in
        let e = get_or b.codes c 0 - from in
        let at : get_or b.codes c 0 ≡ from + e = omega arith in
        ⊎_elim
        (λ there.
        let f = some_of found there.0 there.1 in
        let w = h.complete there.0 f there.1 there.1 (there.2 f).1 in
        let one = w.2.code f in
        let two = (there.2 f).0 in
        let same = one_code b.codes w.0 c rises w.2.within lt (omega (arith, one, two, at)) in
        inl (subst (λ n. Contains ids n) same w.1))
        (λ between. inr (between_if_has_between c e at between))
        (is.complete e c (distance_of from (get_or b.codes c 0) e own at above) (record { within = lt; code_is = at; kind = refl }));
  }

  -- the index of a block that the lane retains
  pub place_of : (lane : ℕ) (found : List Found) → IsLane b own from lane found → (k : ℕ) (f : Found) → k < length found
      → f ≡ get_or found k f → has_bit f.lanes lane ≡ true
      → (f.distance < 10 ^ 15) × IsOf b.codes from lane found k (start_of (from + f.distance) b.codes)
  place_of lane found is k f lt at bit =
      let here : (g : Found) → get_or found k g ≡ f = λ g. get_or_default found k g f lt ∙ sym at in
      let w = is.sound f.distance (k, lt, λ g. (ap (λ (x : Found). x.distance) (here g), ap (λ (x : Found). has_bit x.lanes lane) (here g) ∙ bit)) in
      let block = w.1.1 in
      let place = start_at b.codes w.1.0 rises block.within (from + f.distance) block.code_is in (
        small_in_rows own f.distance w.0,
        subst (λ n. IsOf b.codes from lane found k n) (sym place) (record {
          within = block.within;
          code = λ g. block.code_is ∙ ap (λ (x : Found). from + x.distance) (sym (here g));
          bit = λ g. ap (λ (x : Found). has_bit x.lanes lane) (here g) ∙ bit;
        }),
      )

-- the index of a block, by borrowed lists
pub place_seen : (b : Scene) → IsStrictlyIncreasing b.codes → (id : ℕ) (w : Window) → IsWindow b (table_of b id) w → HasLane w (get_or b.codes id 0)
    → (seen : List ℕ) → seen ≡ b.codes → (items : List Found) → items ≡ w.found.items → (k : ℕ) (f : Found) → k < length items
    → f ≡ get_or items k f → has_bit f.lanes (get_or seen id 0 - w.base) ≡ true
    → (f.distance < 10 ^ 15)
    × IsOf b.codes (get_or b.codes id 0) (get_or b.codes id 0 - w.base) w.found.items k (start_of (get_or seen id 0 + f.distance) seen)
place_seen b rises id w window has seen value items same k f lt is bit =
    let lane = get_or b.codes id 0 - w.base in
    let place = place_of b rises id lane w.found.items (lane_of b w id window has) k f (omega (arith, lt, ap length same))
    (is ∙ ap (λ (fs : List Found). get_or fs k f) same) (subst (λ (cs : List ℕ). has_bit f.lanes (get_or cs id 0 - w.base) ≡ true) value bit) in (
      place.0,
      subst (λ (cs : List ℕ). IsOf b.codes (get_or b.codes id 0) lane w.found.items k (start_of (get_or cs id 0 + f.distance) cs)) (sym value) place.1,
    )
