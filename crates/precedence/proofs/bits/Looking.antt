-- What a strip adds to what a window sees.
use Rattle.std.proofs.Common.{◌≡◌, ℕ, ◌+◌, ◌-◌, ◌<◌, ◌≤◌, ◌&&◌, Bool, true, false, List, [], ◌∷◌, ◌++◌, length, map, set, get_or, max, min, nat_le, nat_lt, refl, sym, ap, subst, ◌∙◌, arith, ⊎_elim, length-append}
use Rattle.std.proofs.lemmas.Bool.{and_parts, cases_eq, cases_lt, false≢true, le-leb, leb-true, lt-ltb, ltb-true}
use Rattle.precedence.specs.inner.SameCone.{HaveSameConeFrom, Follows}
use Rattle.std.proofs.lemmas.List.Elements.{All-get_or}
use Rattle.std.proofs.lemmas.List.{get_or-map, get_or-set_other, get_or-set_same, get_or_append_left, get_or_push, get_or_read, length-set, map-append, map-set, set-get_or}
use Rattle.precedence.specs.inner.lanes.Bits.{has_bit}
use Rattle.precedence.specs.inner.lanes.Windows.{AreStrips, HasDistance, IsBlockAt, IsStrip, Sees, any_block, of_table, scene, table_of}
use Rattle.precedence.specs.inner.lanes.Looking.{EndBy, HasAdded, HasBlocks, HasNone, IsGrown, IsJoined, IsLike, IsNext, IsPart, IsPut, IsRowFrom, IsRange}
use Rattle.precedence.specs.inner.lanes.Strips.{AreApart}
use Rattle.precedence.specs.inner.Rows.{is_in_rows, pasts, start_of, LieApart}
use Rattle.precedence.specs.inner.Between.{codes_in}
use Rattle.precedence.specs.declared.cones.block_cones.BlockCones.{BlockCones}
use Rattle.precedence.specs.declared.cones.cone_rows.Row.{Row}
use Rattle.precedence.specs.declared.lanes.strip.Strip.{Strip}
use Rattle.precedence.specs.declared.lanes.strips.Sight.{Sight}
use Rattle.precedence.proofs.bits.Words.{no_bit}
use Rattle.precedence.proofs.ranges.RowOfCode.{in_this_row, none_above, not_past, row_is, some_codes}
use Rattle.precedence.proofs.ranges.Starts.{no_less, start_before}
use Rattle.precedence.proofs.ranges.SameCone.{first_follows}

-- the number of the table for a block's cone
pub table_read : (b : BlockCones) (id number : ℕ) → id < length (codes_in b) → number ≡ get_or b.tables.now.of_zone.items (get_or b.zones.now id 0) number
    → table_of (scene b) id ≡ number
table_read b id number lt is =
    let zone = All-get_or (λ z. z < length b.tables.now.of_zone.items) b.zones.now id 0 (let each = b.each in omega (arith, each, lt)) b.zoned in
    sym (get_or_read b.tables.now.of_zone.items (get_or b.zones.now id 0) number zone is 0)

pub table_below : (b : BlockCones) (id : ℕ) → id < length (codes_in b) → table_of (scene b) id < length b.tables.now.tables.items
table_below b id lt =
    let each = b.each in
    b.tables.now.below (get_or b.zones.now id 0) 0 (b.zoned id 0 (omega (arith, each, lt)))

-- ---- stretches

abbrev pub HaveSameConeIn : BlockCones → (id count : ℕ) → Type 0
HaveSameConeIn b id count = HaveSameConeFrom (codes_in b) b.tables.now.of_zone.items b.zones.now id count

pub same_cone_in : (b : BlockCones) (id count : ℕ) → id < length (codes_in b) → count ≡ max (get_or b.same_cone.now id 0) 1 → HaveSameConeIn b id count
same_cone_in b id count lt is j less = ⊎_elim
    (λ some. b.have_same_cone.follow id lt j some)
    (λ none.
    let first : 0 ≡ j = omega (arith, none, is, less) in
    subst (λ (n : ℕ). Follows (codes_in b) b.tables.now.of_zone.items b.zones.now id n) first (first_follows (codes_in b) b.tables.now.of_zone.items b.zones.now id lt))
    (cases_lt j (get_or b.same_cone.now id 0))

pub range_is : (b : BlockCones) (id past from most first count bits : ℕ) → id < length (codes_in b) → from + first ≡ get_or (codes_in b) id 0 → past ≡ id + count
    → 0 < count → HaveSameConeIn b id count → ((p : ℕ) → has_bit bits p ≡ (nat_le first p && nat_lt p (min (first + count) most)))
    → IsRange (scene b) id past from most bits
range_is b id past from most first count bits lt at is some same_cone exact = record {
  later = omega (arith, is, some);
  within = let last = (same_cone (count - 1) (omega (arith, some))).within in omega (arith, is, some, last);
  table = λ c le less.
      let same = (same_cone (c - id) (omega (arith, is, le, less))).table in
      let there : id + (c - id) ≡ c = omega (arith, le) in
      subst (λ (n : ℕ). table_of (scene b) n ≡ table_of (scene b) id) there same;
  below = λ p bit. let in_it = inside p bit in omega (arith, in_it.1);
  sound = λ p bit.
      let in_it = inside p bit in
      let k = p - first in
      let less : k < count = omega (arith, in_it.0, in_it.1) in
      let h = same_cone k less in
      (id + k, omega arith, omega (arith, is, less), let code = h.code in omega (arith, code, at, in_it.0));
  complete = λ p c less le before code.
      let h = same_cone (c - id) (omega (arith, is, le, before)) in
      let there : id + (c - id) ≡ c = omega (arith, le) in
      let same : get_or (codes_in b) c 0 ≡ get_or (codes_in b) id 0 + (c - id) = ap (λ n. get_or (codes_in b) n 0) (sym there) ∙ h.code in
      let low : nat_le first p ≡ true = le-leb _ _ (omega (arith, same, code, at)) in
      let up : nat_lt p (min (first + count) most) ≡ true = lt-ltb _ _ (omega (arith, same, code, at, is, le, before, less)) in
      exact p ∙ (λ j. low j && up j);
}
  where
    inside : (p : ℕ) → has_bit bits p ≡ true → (first ≤ p) × (p < min (first + count) most)
    inside p bit =
        let both = and_parts (nat_le first p) (nat_lt p (min (first + count) most)) (sym (exact p) ∙ bit) in
        (leb-true _ _ both.0, ltb-true _ _ both.1)

-- ---- words

pub joined_below : (one other word most p : ℕ) → IsJoined one other word → ((q : ℕ) → has_bit one q ≡ true → q < most)
    → ((q : ℕ) → has_bit other q ≡ true → q < most) → has_bit word p ≡ true → p < most
joined_below one other word most p joins low up bit = either (has_bit one p) refl
  where
    either : (x : Bool) → has_bit one p ≡ x → p < most
    either true is = low p is
    either false is = up p (joins.either p bit is)

module _ (b : BlockCones) (Is : ℕ → Type 0) (from most : ℕ) where
  -- no block comes before the first one
  pub has_none : (id : ℕ) → ((c : ℕ) → c < id → get_or (codes_in b) c 0 < from) → HasBlocks (scene b) Is from most id 0
  has_none id before = record {
    sound = λ p bit. absurd (no_bit p bit);
    complete = λ p c lt less at. let code = at.code_is in absurd (omega (arith, before c less, code));
  }

  -- a stretch of blocks of this kind
  pub has_range : (id past top bits : ℕ) → IsRange (scene b) id past from top bits → (word all : ℕ) → most ≤ top → ((c : ℕ) → id ≤ c → c < past → Is c)
      → IsJoined word bits all → HasBlocks (scene b) Is from most id word → HasBlocks (scene b) Is from most past all
  has_range id past top bits range word all le kind joins had = record {
    sound = λ p bit. old_or_new p bit (has_bit word p) refl;
    complete = λ p c lt less at. ⊎_elim
        (λ before. joins.left p (had.complete p c lt before at))
        (λ later. joins.right p (range.complete p c (omega (arith, lt, le)) later less at.code_is))
        (cases_lt c id);
  }
    where
      found : (p : ℕ) → has_bit bits p ≡ true → (c : ℕ) × IsBlockAt (scene b) Is (from + p) c
      found p bit =
          let at = range.sound p bit in (
            at.0,
            record {
              within = let within = range.within in omega (arith, within, at.2);
              code_is = at.3;
              kind = kind at.0 at.1 at.2;
            },
          )

      old_or_new : (p : ℕ) → has_bit all p ≡ true → (x : Bool) → has_bit word p ≡ x → (c : ℕ) × IsBlockAt (scene b) Is (from + p) c
      old_or_new p bit true is = had.sound p is
      old_or_new p bit false is = found p (joins.either p bit is)

  -- no block from one on, up to another, has one of the codes
  abbrev pub NoneFrom : (id past : ℕ) → Type 0
  NoneFrom id past = (p c : ℕ) → id ≤ c → c < past → p < most → IsBlockAt (scene b) Is (from + p) c → ⊥

  pub has_past : (id past word : ℕ) → NoneFrom id past → HasBlocks (scene b) Is from most id word → HasBlocks (scene b) Is from most past word
  has_past id past word none had = record {
    sound = had.sound;
    complete = λ p c lt less at. ⊎_elim
        (λ before. had.complete p c lt before at)
        (λ later. absurd (none p c later less lt at))
        (cases_lt c id);
  }

  -- all blocks from one on are too far, if that block is
  pub too_far : (id : ℕ) → (id < length (codes_in b) → from + most ≤ get_or (codes_in b) id 0) → NoneFrom id (length (codes_in b))
  too_far id far p c later less lt at =
      let beyond = no_less (codes_in b) id c b.places.now.rising later less in
      let code = at.code_is in
      omega (arith, far (omega (arith, later, less)), beyond, code, lt)

-- ---- strips

module _ (b : BlockCones) (Is : ℕ → Type 0) (from : ℕ) (strip : Strip) (base : List Strip) where
  pub grown_none : (id : ℕ) → HasBlocks (scene b) Is from (strip.len + 63) id 0 → IsGrown (scene b) Is from id strip base base
  grown_none id had = record {
    more = omega arith;
    few = omega arith;
    kept = λ k s lt. refl;
    last = λ s lt. absurd (omega arith);
    none = λ same. had;
  }

  -- bits put in for blocks of this kind
  module _ (id past bits : ℕ) (old new : List Strip) (range : IsRange (scene b) id past from 128 bits) (kind : (c : ℕ) → id ≤ c → c < past → Is c)
      (ends : EndBy strip.start base) (put : IsPut strip bits old new) (had : IsGrown (scene b) Is from id strip base old) where
    few_bits : strip.len + 63 ≤ 128
    few_bits = let few = strip.few in omega (arith, few)

    -- the last strip is this strip, or this strip is missing
    is_new : length old ≡ length base → length old < length new
    is_new same = ⊎_elim
        (λ lt. lt)
        (λ le.
        let one : Strip = strip in
        let equal : length new ≡ length old = let more = put.more in omega (arith, le, more) in
        let some = put.some in
        let place : length old - 1 < length base = omega (arith, some, equal, same) in
        let start = put.there one equal in
        let kept = had.kept (length old - 1) one place in
        let end = ends (length old - 1) one place in
        let long = (get_or base (length old - 1) one).some in
        absurd (omega (arith, start, ap (λ (s : Strip). s.start) kept, end, long)))
        (cases_lt (length old) (length new))

    is_old : length base < length old → length new ≡ length old
    is_old lt = ⊎_elim
        (λ more.
        let one : Strip = strip in
        let few = had.few in
        let last = had.last one lt in
        let place : length base ≡ length old - 1 = omega (arith, few, lt) in
        let start : (get_or old (length old - 1) one).start ≡ strip.start = subst (λ (n : ℕ). (get_or old n one).start ≡ strip.start) place last.like.start in
        absurd (put.lacking one more (omega (arith, lt)) start))
        (λ no. let more = put.more in omega (arith, more, no))
        (cases_lt (length old) (length new))

    appended : length old ≡ length base → IsGrown (scene b) Is from past strip base new
    appended same =
        let new_one = is_new same in
        let few = put.few in
        record {
          more = omega (arith, same, new_one);
          few = omega (arith, same, few);
          kept = λ k s lt. put.kept k s (omega (arith, lt, same, new_one)) ∙ had.kept k s lt;
          last = λ s lt. subst (λ (n : ℕ). IsPart (scene b) Is from past strip (get_or new n s)) same (record {
            like = let place : length new - 1 ≡ length old = omega (arith, few, new_one) in
                subst (λ (n : ℕ). IsLike strip (get_or new n s)) place (put.like s);
            blocks = rw (put.alone s new_one) (has_range b Is from (strip.len + 63) id past 128 bits range 0 bits few_bits kind nothing_before (had.none same));
          });
          none = λ equal. absurd (omega (arith, equal, new_one, same));
        }
      where
        nothing_before : IsJoined 0 bits bits
        nothing_before = record {
          left = λ p bit. absurd (no_bit p bit);
          right = λ p bit. bit;
          either = λ p bit none. bit;
        }

    joined_there : length base < length old → IsGrown (scene b) Is from past strip base new
    joined_there lt =
        let equal = is_old lt in
        let few = had.few in
        let place : length old - 1 ≡ length base = omega (arith, few, lt) in
        record {
          more = omega (arith, equal, lt);
          few = omega (arith, equal, few);
          kept = λ k s less. put.kept k s (omega (arith, less, equal, lt)) ∙ had.kept k s less;
          last = λ s less.
              let part = had.last s lt in
              record {
                like = let there : length new - 1 ≡ length base = omega (arith, equal, place) in
                    subst (λ (n : ℕ). IsLike strip (get_or new n s)) there (put.like s);
                blocks = has_range b Is from (strip.len + 63) id past 128 bits range (get_or old (length base) s).word (get_or new (length base) s).word few_bits kind
                    (subst (λ (n : ℕ). IsJoined (get_or old n s).word bits (get_or new n s).word) place (put.joined s equal)) part.blocks;
              };
          none = λ none. absurd (omega (arith, none, equal, lt));
        }

    pub grown_more : IsGrown (scene b) Is from past strip base new
    grown_more = ⊎_elim joined_there (λ le. let more = had.more in appended (omega (arith, le, more))) (cases_lt (length base) (length old))

  pub grown_past : (id past : ℕ) (new : List Strip) → NoneFrom b Is from (strip.len + 63) id past → IsGrown (scene b) Is from id strip base new
      → IsGrown (scene b) Is from past strip base new
  grown_past id past new none had = record {
    more = had.more;
    few = had.few;
    kept = had.kept;
    last = λ s lt. let part = had.last s lt in record {
      like = part.like;
      blocks = has_past b Is from (strip.len + 63) id past _ none part.blocks;
    };
    none = λ same. has_past b Is from (strip.len + 63) id past 0 none (had.none same);
  }

-- ---- distances

-- strips that end by a distance end by a later one
pub end_later : (at to : ℕ) (strips : List Strip) → at ≤ to → EndBy at strips → EndBy to strips
end_later at to strips le ends k s lt = omega (arith, ends k s lt, le)

-- a window that sees everything before a distance sees everything before a later one, if there is no block between
pub sees_all : (b : BlockCones) (own : List Row) (base at to : ℕ) (sight : Sight) → at ≤ to → Sees (scene b) own base at sight → HasNone (scene b) own base at to
    → Sees (scene b) own base to sight
sees_all b own base at to sight le had none = record {
  every = rest any_block sight.all.strips.items had.every;
  tables = had.tables;
  each = λ n s lt. rest (of_table (scene b) n) (get_or sight.by_table.items n s).strips.items (had.each n s lt);
}
  where
    rest : (Is : ℕ → Type 0) (strips : List Strip) → AreStrips (scene b) Is own base at strips → AreStrips (scene b) Is own base to strips
    rest Is strips all = record {
      each = all.each;
      ends = end_later at to strips le all.ends;
      all = λ i e id few lt own_e is. ⊎_elim
          (λ before. all.all i e id few before own_e is)
          (λ later. absurd (none i e id few later lt own_e (record { within = is.within; code_is = is.code_is; kind = refl })))
          (cases_lt e at);
    }

-- if strips miss no block before the next strip, they miss none before its end
module _ (b : BlockCones) (own : List Row) (base at : ℕ) (strip : Strip) (next : IsNext (scene b) own base at strip) where
  module _ (Is : ℕ → Type 0) (old new : List Strip) (grown : IsGrown (scene b) Is (base + strip.start) (length (codes_in b)) strip old new) where
    strip_is : (s : Strip) → IsPart (scene b) Is (base + strip.start) (length (codes_in b)) strip s → IsStrip (scene b) Is own base (length (codes_in b)) s
    strip_is s part =
        let start = part.like.start in
        let len = part.like.len in
        record {
          inside = λ e has. next.inside e (omega (arith, has.0, start), omega (arith, has.1, start, len));
          sound = λ p bit. rw start (part.blocks.sound p bit);
          complete = λ p id lt less is. part.blocks.complete p id (omega (arith, lt, len)) less (rw start at is);
        }

    -- each strip is an old one or the last one
    at_each : (P : Strip → Type 0) (k : ℕ) (d : Strip) → k < length new → (k < length old → P (get_or old k d)) → (length old < length new
        → P (get_or new (length old) d)) → P (get_or new k d)
    at_each P k d lt before last = ⊎_elim
        (λ less. rw (grown.kept k d less) (before less))
        (λ le.
        let few = grown.few in
        let place : length old ≡ k = omega (arith, few, lt, le) in
        subst (λ (n : ℕ). P (get_or new n d)) place (last (omega (arith, lt, place))))
        (cases_lt k (length old))

    strips_grow : AreStrips (scene b) Is own base strip.start old → AreStrips (scene b) Is own base (strip.start + strip.len) new
    strips_grow had = record {
      each = λ k d lt. at_each (IsStrip (scene b) Is own base (length (codes_in b))) k d lt (λ less. had.each k d less)
          (λ some. strip_is (get_or new (length old) d) (grown.last d some));
      ends = λ k d lt. at_each (λ s. s.start + s.len ≤ strip.start + strip.len) k d lt (λ less. omega (arith, had.ends k d less))
          (λ some. let like = (grown.last d some).like in omega (arith, like.start, like.len));
      all = λ i e id few lt own_e is. ⊎_elim
          (λ before.
          let found = had.all i e id few before own_e is in
          let more = grown.more in
          (found.0, omega (arith, found.1, more), λ s. rw (grown.kept found.0 s found.1) (found.2 s)))
          (λ here. in_last i e id few here lt is)
          (cases_lt e strip.start);
    }
      where
        in_last : (i e id : ℕ) → i < 64 → strip.start ≤ e → e < strip.start + strip.len → IsBlockAt (scene b) Is (base + i + e) id
            → (k : ℕ) × (k < length new) × ((s : Strip) → HasDistance (get_or new k s) e)
        in_last i e id few here lt is = ⊎_elim
            (λ some. (length old, some, λ s. let like = (grown.last s some).like in (omega (arith, here, like.start), omega (arith, lt, like.start, like.len))))
            (λ le.
            let more = grown.more in
            let none = grown.none (omega (arith, more, le)) in
            let there : base + i + e ≡ base + strip.start + (i + (e - strip.start)) = omega (arith, here) in
            let bit = none.complete (i + (e - strip.start)) id (omega (arith, few, here, lt)) is.within (subst (λ (n : ℕ). IsBlockAt (scene b) Is n id) there is) in
            absurd (no_bit (i + (e - strip.start)) bit))
            (cases_lt (length old) (length new))

  pub sees_more : (old new : Sight) → HasAdded (scene b) base strip old new → Sees (scene b) own base at old
      → Sees (scene b) own base (strip.start + strip.len) new
  sees_more old new added had =
      let there = sees_all b own base at strip.start old next.later had next.passed in
      record {
        every = strips_grow any_block old.all.strips.items new.all.strips.items added.all there.every;
        tables = added.by_table.tables ∙ had.tables;
        each = λ n s lt.
            let less : n < length old.by_table.items = let same = added.by_table.tables in omega (arith, lt, same) in
            strips_grow (of_table (scene b) n) (get_or old.by_table.items n s).strips.items (get_or new.by_table.items n s).strips.items
            (added.by_table.each n s less) (there.each n s less);
      }

pub none_join : (b : BlockCones) (own : List Row) (base at mid to : ℕ) → HasNone (scene b) own base at mid → HasNone (scene b) own base mid to → HasNone (scene b) own base at to
none_join b own base at mid to low up i e id few le lt own_e is = ⊎_elim
    (λ less. low i e id few le less own_e is)
    (λ more. up i e id few more lt own_e is)
    (cases_lt e mid)

-- the first row that ends after a distance
module _ (rows : List Row) (at high i : ℕ) (apart : LieApart 0 rows high) (is : i ≡ start_of (at + 1) (pasts rows)) where
  seen_is : i ≡ start_of (at - 0 + 1) (pasts rows)
  seen_is = let same : at + 1 ≡ at - 0 + 1 = omega arith in is ∙ ap (λ n. start_of n (pasts rows)) same

  outside : (e : ℕ) → at ≤ e → (i < length rows → (d : Row) → e < (get_or rows i d).first) → is_in_rows 0 rows e ≡ false
  outside e le before = none_above 0 at high i rows apart seen_is e le (λ lt d. omega (arith, before lt d))

  pub no_row_from : length rows ≤ i → (e : ℕ) → at ≤ e → is_in_rows 0 rows e ≡ false
  no_row_from past e le = outside e le (λ less d. absurd (omega (arith, less, past)))

  pub row_from_is : (row : Row) → i < length rows → row ≡ get_or rows i row → IsRowFrom rows at row
  row_from_is row within row_at =
      let some_here = some_codes rows high i row apart within row_at in
      record {
        some = some_here;
        left = ⊎_elim
            (λ more. omega (arith, some_here, more))
            (λ le. let past = not_past 0 at high rows apart i row seen_is within row_at (omega (arith, le)) in omega (arith, past))
            (cases_lt at row.first);
        inside = λ e low up. in_this_row 0 e i rows row within row_at (omega (arith, low)) (omega (arith, up));
        none = λ e le lt. outside e le (λ less d. let same = row_is rows i row within row_at d in omega (arith, lt, ap (λ (r : Row). r.first) same));
      }

-- without distances, no lane sees a block
pub none_without : (b : BlockCones) (own : List Row) (base at to : ℕ) → ((e : ℕ) → at ≤ e → e < to → is_in_rows 0 own e ≡ false)
    → HasNone (scene b) own base at to
none_without b own base at to outside k e id few le lt own_e at_e = absurd (false≢true (sym (outside e le lt) ∙ own_e))

pub none_to : (b : BlockCones) (own : List Row) (base at start : ℕ) (row : Row) → IsRowFrom own at row → start ≡ max at row.first
    → HasNone (scene b) own base at start
none_to b own base at start row first is = none_without b own base at start (λ e le lt. first.none e le (omega (arith, lt, is, le)))

-- no block from the first one on is near enough
pub none_seen : (b : BlockCones) (own : List Row) (base start to id : ℕ) → id ≡ start_of (base + start) (codes_in b)
    → (id < length (codes_in b) → base + 63 + to ≤ get_or (codes_in b) id 0) → HasNone (scene b) own base start to
none_seen b own base start to id is far k e other few le lt own_e at_e =
    let code = at_e.code_is in
    let within = at_e.within in
    let later = start_before (base + start) other (codes_in b) within (omega (arith, code, le)) in
    let up = no_less (codes_in b) id other b.places.now.rising (omega (arith, is, later)) within in
    absurd (omega (arith, far (omega (arith, is, later, within)), up, code, few, lt))

-- ---- strips put in

abbrev starts_of : List Strip → List ℕ
starts_of strips = map (λ (s : Strip). s.start) strips

pub push_each : (starts : List ℕ) (strips : List Strip) (s : Strip) → starts ≡ starts_of strips → starts ++ s.start ∷ [] ≡ starts_of (strips ++ s ∷ [])
push_each starts strips s each = ap (λ xs. xs ++ s.start ∷ []) each ∙ sym (map-append (λ (t : Strip). t.start) strips (s ∷ []))

module _ (old : List Strip) (s : Strip) where
  abbrev pushed : List Strip
  pushed = old ++ s ∷ []

  longer : length pushed ≡ length old + 1
  longer = length-append old (s ∷ [])

  before_it : (k : ℕ) (d : Strip) → k < length old → get_or pushed k d ≡ get_or old k d
  before_it k d lt = get_or_append_left old (s ∷ []) d k lt

  it : (k : ℕ) (d : Strip) → length old ≡ k → get_or pushed k d ≡ s
  it k d is = get_or_push old s d k is

  pub push_apart : EndBy s.start old → AreApart old → AreApart pushed
  push_apart ends apart j k d less lt = ⊎_elim
      (λ before.
      let e = before_it j d (omega (arith, less, before)) in
      let f = before_it k d before in
      omega (arith, apart j k d less before, ap (λ (t : Strip). t.start) e, ap (λ (t : Strip). t.len) e, ap (λ (t : Strip). t.start) f))
      (λ last.
      let e = before_it j d (omega (arith, less, lt, longer)) in
      let f = it k d (omega (arith, lt, last, longer)) in
      omega (arith, ends j d (omega (arith, less, lt, longer)), ap (λ (t : Strip). t.start) e, ap (λ (t : Strip). t.len) e, ap (λ (t : Strip). t.start) f))
      (cases_lt k (length old))

  pub grown_push : (b : BlockCones) (Is : ℕ → Type 0) (from upto : ℕ) (strip : Strip) → IsLike strip s → HasBlocks (scene b) Is from (strip.len + 63) upto s.word
      → IsGrown (scene b) Is from upto strip old pushed
  grown_push b Is from upto strip like blocks = record {
    more = omega (arith, longer);
    few = omega (arith, longer);
    kept = λ k d lt. before_it k d lt;
    last = λ d lt. rw (it (length old) d refl) (record { like = like; blocks = blocks });
    none = λ same. absurd (omega (arith, same, longer));
  }

-- a strip that replaces a strip with the same distances
module _ (old : List Strip) (s : Strip) (k : ℕ) (within : k < length old) (read : Strip) (is_read : read ≡ get_or old k read)
    (start : s.start ≡ read.start) (len : s.len ≡ read.len) where
  had : (d : Strip) → read ≡ get_or old k d
  had d = get_or_read old k read within is_read d

  abbrev written : List Strip
  written = set old k s

  as_long : length written ≡ length old
  as_long = length-set old k s

  start_at : (j : ℕ) (d : Strip) → j < length old → IsLike (get_or old j d) (get_or written j d)
  start_at j d lt = ⊎_elim
      (λ same. rw same (
      let e = get_or-set_same old k s d within in
      record {
        start = ap (λ (t : Strip). t.start) e ∙ start ∙ ap (λ (t : Strip). t.start) (had d);
        len = ap (λ (t : Strip). t.len) e ∙ len ∙ ap (λ (t : Strip). t.len) (had d);
      }))
      (λ other. let e = get_or-set_other old k j s d other in
      record { start = ap (λ (t : Strip). t.start) e; len = ap (λ (t : Strip). t.len) e })
      (cases_eq j k)

  pub set_each : starts_of old ≡ starts_of written
  set_each = sym (
      map-set (λ (t : Strip). t.start) old k s
      ∙ ap (set (starts_of old) k) (start ∙ ap (λ (t : Strip). t.start) is_read ∙ sym (get_or-map (λ (t : Strip). t.start) old k read 0 within))
      ∙ set-get_or (starts_of old) k 0
      )

  pub set_apart : AreApart old → AreApart written
  set_apart apart i j d less lt =
      let low = start_at i d (omega (arith, less, lt, as_long)) in
      let up = start_at j d (omega (arith, lt, as_long)) in
      omega (arith, apart i j d less (omega (arith, lt, as_long)), low.start, low.len, up.start)
