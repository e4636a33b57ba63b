-- What the lanes of a window retain, strip by strip and distance by distance.
use Rattle.std.proofs.Common.{◌≡◌, ◌≢◌, ℕ, ◌+◌, ◌-◌, ◌<◌, ◌≤◌, ◌&&◌, ◌++◌, ◌∷◌, [], true, false, min, List, All, length, get_or, map, inl, inr, ◌⊎◌, refl, sym, ap, subst, ◌∙◌, arith, ⊎_elim}
use Rattle.std.specs.List.Sorted.{IsStrictlyIncreasing}
use Rattle.std.proofs.lemmas.Bool.{and_from, and_parts, cases_Bool, cases_lt, cases_order}
use Rattle.std.proofs.lemmas.List.{get_or_append_left, get_or_default, get_or_push, length-append, map-append}
use Rattle.std.proofs.lemmas.List.Elements.{All-map, All-push}
use Rattle.precedence.specs.inner.lanes.Bits.{has_bit}
use Rattle.precedence.specs.inner.lanes.Windows.{AreFound, AreFoundBy, Drops, HasDistance, HasOffsets, IsFoundFor, IsRetained, MayDrop, MeetsAny, SeesAt}
use Rattle.precedence.specs.declared.cones.cone_table.ConeTable.{ConeTable}
use Rattle.precedence.specs.declared.lanes.strip.Strip.{Strip}
use Rattle.precedence.specs.declared.lanes.strips.Found.{Found}
use Rattle.precedence.specs.declared.lanes.strips.Sight.{Sight}
use Rattle.precedence.specs.declared.lanes.strips.Strips.{Strips}
use Rattle.precedence.proofs.bits.Words.{no_bit}
use Rattle.precedence.proofs.Members.{rising_push}

-- ---- lanes dropped in turn

pub drops_both : (Why : ℕ → Type 0) (there some rest : ℕ) → MayDrop Why there some → Drops Why some rest → Drops Why there rest
drops_both Why there some rest first then = record {
  may = record {
    among = λ i has. first.among i (then.may.among i has);
    dropped = λ i has. ⊎_elim (λ kept. then.may.dropped i kept) (λ why. inr why) (first.dropped i has);
  };
  none = then.none;
}

-- ---- the offsets of a strip

-- offsets are cleared if each lane that sees a block there has another one between
pub offsets_cleared : (tables : List ConeTable) (by_table : List Strips) (lanes : ℕ) (strip : Strip) (before after : ℕ)
    → HasOffsets tables by_table lanes strip before
    → ((i k : ℕ) → has_bit lanes i ≡ true → has_bit before k ≡ true → has_bit after k ≡ false → MeetsAny tables by_table (strip.start + k) i)
    → HasOffsets tables by_table lanes strip after
offsets_cleared tables by_table lanes strip before after has covered i k lt lane bit gone = ⊎_elim
    (λ old. covered i k lane old gone)
    (λ none. has i k lt lane bit none)
    (cases_Bool (has_bit before k))

-- ---- what is found

distances_rise : (found : List Found) (f : Found) → IsStrictlyIncreasing (map (λ (g : Found). g.distance) found)
    → All (λ (g : Found). g.distance < f.distance) found → IsStrictlyIncreasing (map (λ (g : Found). g.distance) (found ++ f ∷ []))
distances_rise found f rising below =
    rw (map-append (λ (g : Found). g.distance) found (f ∷ []))
    (rising_push (map (λ (g : Found). g.distance) found) f.distance rising (All-map (λ d. d < f.distance) (λ (g : Found). g.distance) found below))

found_push : (found : List Found) (f : Found) (i distance : ℕ) → IsFoundFor found i distance → IsFoundFor (found ++ f ∷ []) i distance
found_push found f i distance has =
    let lt = has.1 in (
      has.0,
      omega (arith, lt, length-append found (f ∷ [])),
      λ g. subst (λ (x : Found). (x.distance ≡ distance) × (has_bit x.lanes i ≡ true)) (sym (get_or_append_left found (f ∷ []) g has.0 has.1)) (has.2 g),
    )

found_last : (found : List Found) (f : Found) (i distance : ℕ) → f.distance ≡ distance → has_bit f.lanes i ≡ true → IsFoundFor (found ++ f ∷ []) i distance
found_last found f i distance at has = (
  length found,
  omega (arith, length-append found (f ∷ [])),
  λ g. subst (λ (x : Found). (x.distance ≡ distance) × (has_bit x.lanes i ≡ true)) (sym (get_or_push found f g (length found) refl)) (at, has),
)

module _ (tables : List ConeTable) (sight : Sight) (lanes : ℕ) where
  abbrev strips : List Strip
  strips = sight.all.strips.items

  abbrev Between : (distance i : ℕ) → Type 0
  Between = MeetsAny tables sight.by_table.items

  -- nothing is retained before a later distance
  pub found_more : (upto until : ℕ) (found : List Found) → AreFound tables sight lanes upto found → upto ≤ until
      → ((j i d : ℕ) (s : Strip) → j < length strips → has_bit lanes i ≡ true → SeesAt (get_or strips j s) i d → upto ≤ d → d < until → Between d i)
      → AreFound tables sight lanes until found
  found_more upto until found h le none = record {
    rising = h.rising;
    below = λ k d lt. omega (arith, h.below k d lt);
    sound = h.sound;
    complete = λ j i distance s lt within lane sees. ⊎_elim
        (λ low. h.complete j i distance s low within lane sees)
        (λ up. inr (none j i distance s within lane sees up lt))
        (cases_lt distance upto);
  }

  module _ (number : ℕ) (s : Strip) (within : number < length strips) (is : s ≡ get_or strips number s) where
    at : (t : Strip) → get_or strips number t ≡ s
    at t = get_or_default strips number t s within ∙ sym is

    -- no other strip has a distance of this one
    only : (j i distance : ℕ) (t : Strip) → j < length strips → HasDistance s distance → SeesAt (get_or strips j t) i distance → SeesAt s i distance
    only j i distance t lt has sees = ⊎_elim
        (λ same. subst (λ (x : Strip). SeesAt x i distance) (ap (λ n. get_or strips n t) same ∙ at t) sees)
        (λ other. absurd (⊎_elim
        (λ less. omega (arith, sight.all.apart j number t less within, ap (λ (x : Strip). x.start) (at t), sees.distance.1, has.0))
        (λ more. omega (arith, sight.all.apart number j t more lt, ap (λ (x : Strip). x.start) (at t), ap (λ (x : Strip). x.len) (at t), sees.distance.0, has.1))
        other))
        (cases_order j number)

    -- the strip begins
    pub found_start : (found : List Found) → AreFoundBy tables sight lanes number found → AreFound tables sight lanes s.start found
    found_start found h = found_more h.upto s.start found h.are (omega (arith, h.coming number s (omega arith) within, ap (λ (x : Strip). x.start) is))
        (λ j i d t lt lane sees up low. absurd (⊎_elim
        (λ less. omega (arith, sees.distance.1, h.passed j t less lt))
        (λ le. ⊎_elim
        (λ more. omega (arith, sees.distance.0, sight.all.apart number j t more lt, ap (λ (x : Strip). x.start) (at t)))
        (λ no. let same : number ≡ j = omega arith in omega (arith, sees.distance.0, ap (λ (x : Strip). x.start) (sym (at t)), ap (λ n. (get_or strips n t).start) same))
        (cases_lt number j))
        (cases_lt j number)))

    -- the strip ends
    pub found_end : (found : List Found) → AreFound tables sight lanes (s.start + s.len) found → AreFoundBy tables sight lanes (number + 1) found
    found_end found h = record {
      upto = s.start + s.len;
      are = h;
      small = s.small;
      passed = λ k t lt in'. ⊎_elim
          (λ less. omega (arith, sight.all.apart k number t less within, ap (λ (x : Strip). x.start) (at t)))
          (λ le. let same : number ≡ k = omega arith in
          omega (arith, ap (λ (x : Strip). x.start) (at t), ap (λ (x : Strip). x.len) (at t), ap (λ n. (get_or strips n t).start) same, ap (λ n. (get_or strips n t).len) same))
          (cases_lt k number);
      coming = λ k t le in'. omega (arith, sight.all.apart number k t (omega arith) in', ap (λ (x : Strip). x.start) (at t), ap (λ (x : Strip). x.len) (at t));
    }

    -- nothing is retained at the offsets that are skipped
    pub found_skipped : (offsets at next : ℕ) (found : List Found) → AreFound tables sight lanes (s.start + min at s.len) found → at ≤ next
        → HasOffsets tables sight.by_table.items lanes s offsets → ((k : ℕ) → at ≤ k → k < next → has_bit offsets k ≡ false)
        → AreFound tables sight lanes (s.start + min next s.len) found
    found_skipped offsets at next found h le has none = found_more (s.start + min at s.len) (s.start + min next s.len) found h (omega (arith, le))
        (λ j i d t lt lane sees up low.
        let bit = (only j i d t lt (omega (arith, up), omega (arith, low)) sees).bit in
        let there : s.start + (d - s.start) ≡ d = omega (arith, up) in
        subst (λ n. Between n i) there
        (has i (d - s.start) (omega (arith, up, low)) lane bit (none (d - s.start) (omega (arith, up, low)) (omega (arith, up, low)))))

    module _ (distance offset there rest : ℕ) (found : List Found) (h : AreFound tables sight lanes (s.start + min offset s.len) found)
        (is_there : distance ≡ s.start + offset) (in_strip : offset < s.len)
        (seen : (i : ℕ) → has_bit there i ≡ (has_bit lanes i && has_bit s.word (i + offset))) (may : MayDrop (Between distance) there rest) where
      has : HasDistance s distance
      has = (omega (arith, is_there), omega (arith, is_there, in_strip))

      there_at : (j i d : ℕ) (t : Strip) → j < length strips → has_bit lanes i ≡ true → SeesAt (get_or strips j t) i d → d ≡ distance
          → (has_bit rest i ≡ true) ⊎ Between d i
      there_at j i d t lt lane sees here =
          let bit = (only j i d t lt (omega (arith, here, is_there), omega (arith, here, is_there, in_strip)) sees).bit in
          let same : d - s.start ≡ offset = omega (arith, here, is_there) in
          ⊎_elim
          (λ kept. inl kept)
          (λ between. inr (subst (λ n. Between n i) (sym here) between))
          (may.dropped i (seen i ∙ and_from _ _ lane (subst (λ n. has_bit s.word (i + n) ≡ true) same bit)))

      -- nothing is retained at the distance
      pub found_not : rest ≡ 0 → AreFound tables sight lanes (s.start + min (offset + 1) s.len) found
      found_not none = found_more (s.start + min offset s.len) (s.start + min (offset + 1) s.len) found h (omega arith)
          (λ j i d t lt lane sees up low. ⊎_elim
          (λ kept. absurd (no_bit i (subst (λ n. has_bit n i ≡ true) none kept)))
          (λ between. between)
          (there_at j i d t lt lane sees (omega (arith, up, low, is_there, in_strip))))

      module _ (none : (i : ℕ) → has_bit rest i ≡ true → Between distance i → ⊥) where
        retained : (f : Found) (i : ℕ) → f.distance ≡ distance → f.lanes ≡ rest → has_bit f.lanes i ≡ true → IsRetained tables sight lanes i f.distance
        retained f i at_distance lanes_are bit =
            let kept : has_bit rest i ≡ true = subst (λ n. has_bit n i ≡ true) lanes_are bit in
            let both = and_parts (has_bit lanes i) _ (sym (seen i) ∙ may.among i kept) in
            let same : offset ≡ distance - s.start = omega (arith, is_there) in
            let bit_there = subst (λ n. has_bit s.word (i + n) ≡ true) same both.1 in
            subst (λ n. IsRetained tables sight lanes i n) (sym at_distance) (record {
              lane = both.0;
              seen = (number, within, λ t. subst (λ (x : Strip). SeesAt x i distance) (sym (at t)) (record { distance = has; bit = bit_there }));
              alone = none i kept;
            })

        -- these lanes retain what they see there
        found_these : (f : Found) → f.distance ≡ distance → f.lanes ≡ rest → AreFound tables sight lanes (s.start + min (offset + 1) s.len) (found ++ f ∷ [])
        found_these f at_distance lanes_are = record {
          rising = distances_rise found f h.rising (λ k d lt. omega (arith, h.below k d lt, at_distance, is_there));
          below = All-push (λ (x : Found). x.distance < s.start + min (offset + 1) s.len) found f
              (λ k d less. omega (arith, h.below k d less)) (omega (arith, at_distance, is_there, in_strip));
          sound = λ k i g lt. All-push (λ (x : Found). has_bit x.lanes i ≡ true → IsRetained tables sight lanes i x.distance) found f
              (λ k g less. h.sound k i g less) (retained f i at_distance lanes_are) k g lt;
          complete = λ j i d t lt in' lane sees. ⊎_elim
              (λ less. ⊎_elim (λ old. inl (found_push found f i d old)) (λ between. inr between) (h.complete j i d t less in' lane sees))
              (λ le.
              let here : d ≡ distance = omega (arith, le, lt, is_there, in_strip) in
              ⊎_elim
              (λ kept. inl (found_last found f i d (at_distance ∙ sym here) (subst (λ n. has_bit n i ≡ true) (sym lanes_are) kept)))
              (λ between. inr between)
              (there_at j i d t in' lane sees here))
              (cases_lt d (s.start + min offset s.len));
        }

        -- what lanes retain at the distance is added, if some lane does
        pub found_next : (after : List Found) → (rest ≢ 0 → (f : Found) × (f.distance ≡ distance) × (f.lanes ≡ rest) × (after ≡ found ++ f ∷ []))
            → (rest ≡ 0 → after ≡ found) → AreFound tables sight lanes (s.start + min (offset + 1) s.len) after
        found_next after some same = ⊎_elim
            (λ kept.
            let w = some (λ e. omega (arith, kept, e)) in
            subst (λ (fs : List Found). AreFound tables sight lanes (s.start + min (offset + 1) s.len) fs) (sym w.3) (found_these w.0 w.1 w.2))
            (λ no.
            let e : rest ≡ 0 = omega (arith, no) in
            subst (λ (fs : List Found). AreFound tables sight lanes (s.start + min (offset + 1) s.len) fs) (sym (same e)) (found_not e))
            (cases_lt 0 rest)
