use Rattle.std.proofs.Common.{◌≡◌, ℕ, ◌+◌, ◌<◌, ◌≤◌, List, ◌∷◌, [], ◌++◌, set, sym, refl, ap, subst, ◌∙◌, length, get_or, arith, ⊎_elim}
use Rattle.std.proofs.lemmas.Bool.{cases_eq}
use Rattle.std.proofs.lemmas.List.{get_or-set_other, get_or-set_same, get_or_read, length-set}
use Rattle.precedence.specs.inner.lanes.Windows.{any_block, of_table, scene}
use Rattle.precedence.specs.inner.lanes.Looking.{HasBlocks, IsGrown, IsJoined}
use Rattle.precedence.specs.declared.lanes.strip.Strip.{Strip}
use Rattle.precedence.specs.declared.lanes.strips.Strips.{Strips}
use Rattle.precedence.specs.inner.Between.{codes_in}
use Rattle.precedence.proofs.bits.Looking.{grown_more, grown_none, grown_past, grown_push, has_none, has_past, has_range, table_below, table_read, too_far}
use Rattle.precedence.proofs.ranges.Starts.{from_start, start_before_in}
use Rattle.precedence.proofs.lanes.looking.add_strip.Goals as goal
use Rattle.precedence.proofs.lanes.looking.add_strip.Goals.{then-loop-id-test+else-codes-id, else-loop-id-test}

pub loop-id-init : goal.loop-id-init
loop-id-init c =
    let b = c.args.cones.now in
    let strip = c.args.strip in
    let from = c.args.base + strip.start in
    let before = λ (k : ℕ) (lt : k < strip.id). start_before_in from k (codes_in b) (let first = c.requires.first in omega (arith, lt, first)) in
    record {
      later = omega arith;
      same = refl;
      blocks = has_none b any_block from (strip.len + 63) strip.id before;
      by_table = record {
        tables = refl;
        each = λ n s lt. grown_none b (of_table (scene b) n) from strip (get_or c.args.sight.now.by_table.items n s).strips.items strip.id
            (has_none b (of_table (scene b) n) from (strip.len + 63) strip.id before);
      };
    }

pub range_from-bits-requires-clause-low : goal.range_from-bits-requires-clause-low
range_from-bits-requires-clause-low c =
    let b = c.args.cones.now in
    let from = c.args.base + c.args.strip.start in
    let later = c.loop-id.invariant.later in
    let first = c.requires.first in
    from_start from c.loop-id.id (codes_in b) b.places.now.rising (omega (arith, later, first))
    (let lt = c.loop-id-test.true in omega (arith, lt, ap length c.as_slice-codes.ensures.value))

pub loop-id-preserved : goal.loop-id-preserved
loop-id-preserved c =
    let b = c.args.cones.now in
    let strip = c.args.strip in
    let from = c.args.base + strip.start in
    let had = c.loop-id.invariant in
    let id = c.loop-id.id in
    let range = c.range_from-bits.ensures in
    let past = c.range_from-bits.result.1 in
    let bits = c.range_from-bits.result.0 in
    let lt : id < length (codes_in b) = omega (arith, range.later, range.within) in
    let number = c.index-number.result.now in
    let table = table_read b id number lt c.index-number.ensures in
    let first = c.args.sight.now.by_table.items in
    let old = c.loop-id.sight.by_table.items in
    let new = c.add_bits.new.strips in
    let within : number < length old = let tables = had.by_table.tables in let each = c.requires.tables in omega (arith, table_below b id lt, table, tables, each) in
    let joins : IsJoined c.loop-id.word bits c.joined-word.result =
    record { left = c.joined-word.ensures.left; right = c.joined-word.ensures.right; either = c.joined-word.ensures.either } in
    let few = strip.few in
    record {
      later = let later = had.later in omega (arith, later, range.later);
      same = had.same;
      blocks = has_range b any_block from (strip.len + 63) id past 128 bits range c.loop-id.word c.joined-word.result (omega (arith, few))
          (λ i le less. refl) joins had.blocks;
      by_table = record {
        tables = length-set old number new ∙ had.by_table.tables;
        each = λ n s in_n. ⊎_elim
            (λ same.
            let written : get_or (set old number new) n s ≡ new = rw same (get_or-set_same old number new s within) in
            let read : c.index_mut.result.now ≡ get_or old n s = rw same (get_or_read old number c.index_mut.result.now within c.index_mut.ensures.value s) in
            let before = subst (λ (t : Strips). IsGrown (scene b) (of_table (scene b) n) from id strip (get_or first n s).strips.items t.strips.items) (sym read) (had.by_table.each n s in_n) in
            subst (λ (t : Strips). IsGrown (scene b) (of_table (scene b) n) from past strip (get_or first n s).strips.items t.strips.items) (sym written)
            (grown_more b (of_table (scene b) n) from strip (get_or first n s).strips.items id past bits c.index_mut.result.now.strips.items new.strips.items range
            (λ i le less. range.table i le less ∙ table ∙ sym same) (c.requires.tables_end n s in_n) c.in_ok-add_bits.ensures before))
            (λ other.
            let kept : get_or (set old number new) n s ≡ get_or old n s = get_or-set_other old number n new s other in
            subst (λ (t : Strips). IsGrown (scene b) (of_table (scene b) n) from past strip (get_or first n s).strips.items t.strips.items) (sym kept)
            (grown_past b (of_table (scene b) n) from strip (get_or first n s).strips.items id past (get_or old n s).strips.items
            (λ p i le less lt at. other (sym at.kind ∙ range.table i le less ∙ table)) (had.by_table.each n s in_n)))
            (cases_eq n number);
      };
    }

pub returns-clause-added : goal.returns-clause-added
returns-clause-added c =
    let b = c.args.cones.now in
    let strip = c.args.strip in
    let from = c.args.base + strip.start in
    let had = c.loop-id.invariant in
    let id = c.loop-id.id in
    let s = c.with_word.result in
    let value = c.as_slice-codes.ensures.value in
    let here = ap (λ cs. get_or cs id 0) value in
    let far : id < length (codes_in b) → from + (strip.len + 63) ≤ get_or (codes_in b) id 0 =
    λ lt. elim c.loop-id-test.branch [
      | then-loop-id-test+else-codes-id w ↦ omega (arith, w.if-codes-id.false, here, c.from.ensures)
      | else-loop-id-test w ↦ absurd (omega (arith, lt, w.loop-id-test.false, ap length value))
    ] in
    let last = had.blocks in
    let blocks : HasBlocks (scene b) any_block from (strip.len + 63) (length (codes_in b)) s.word =
    rw c.with_word.ensures.word (has_past b any_block from (strip.len + 63) id (length (codes_in b)) c.loop-id.word (too_far b any_block from (strip.len + 63) id far) last) in
    let first = c.args.sight.now in
    let old = c.loop-id.sight in
    let new = c.push_strip.new.strips in
    let grown = grown_push old.all.strips.items s b any_block from (length (codes_in b)) strip c.with_word.ensures.like blocks in
    let pushed : new.strips.items ≡ old.all.strips.items ++ s ∷ [] = c.in_ok-push_strip.ensures in
    record {
      all = subst (λ (xs : List Strip). IsGrown (scene b) any_block from (length (codes_in b)) strip xs new.strips.items) had.same
          (rw pushed grown);
      by_table = record {
        tables = had.by_table.tables;
        each = λ n d lt. grown_past b (of_table (scene b) n) from strip (get_or first.by_table.items n d).strips.items id (length (codes_in b))
            (get_or old.by_table.items n d).strips.items (too_far b (of_table (scene b) n) from (strip.len + 63) id far) (had.by_table.each n d lt);
      };
    }
