use Rattle.std.proofs.Common.{◌≡◌, ◌+◌, ◌-◌, ◌++◌, ◌∷◌, [], ◌∙◌, length, ap, refl, sym, arith, length-append}
use Rattle.std.specs.Prelude.{decimal}
use Rattle.std.specs.List.{range_with_len}
use Rattle.minelib_writing.specs.inner.Spaced.{spaced, start_in}
use Rattle.minelib_writing.proofs.SpacedFacts.{spaced_below, start_within, starts_push}
use Rattle.minelib_writing.proofs.id_text.IdText.below.Goals as goal

pub overflow_cast-len : goal.overflow_cast-len
overflow_cast-len c =
    let id = c.loop-id.id in
    let text = c.in_ok-append_field.ensures ∙ ap (λ t. t ++ 32 ∷ decimal id) c.loop-id.invariant.text ∙ sym (spaced_below id) in
    omega (
      arith,
      c.len.ensures,
      c.append_field.new.out.ok,
      ap length text,
      c.requires,
      c.loop-id-test.true,
      start_within (id + 1) (omega (arith, c.requires, c.loop-id-test.true)),
    )

pub loop-id-init : goal.loop-id-init
loop-id-init c =
    let first : c.push.new.self.items ≡ 0 ∷ [] = c.in_ok-push.ensures.items ∙ ap (λ s. s ++ 0 ∷ []) c.in_ok-starts.ensures.items in
    record {
      text = c.new-text.ensures.items;
      count = ap length first;
      starts = rw first (starts_push [] 0 (λ id lt. absurd (omega (arith, lt))) refl);
    }

pub loop-id-preserved : goal.loop-id-preserved
loop-id-preserved c =
    let id = c.loop-id.id in
    let starts = c.loop-id.starts.items in
    let text = c.in_ok-append_field.ensures ∙ ap (λ t. t ++ 32 ∷ decimal id) c.loop-id.invariant.text ∙ sym (spaced_below id) in
    let start : c.len.result ≡ start_in (length starts) =
    omega (arith, c.len.ensures, c.append_field.new.out.ok, ap length text, ap start_in c.loop-id.invariant.count) in
    record {
      text = text;
      count =
          omega (arith, ap length c.in_ok-push-2.ensures.items, length-append starts (c.len.result ∷ []), c.loop-id.invariant.count);
      starts = rw c.in_ok-push-2.ensures.items (starts_push starts c.len.result c.loop-id.invariant.starts start);
    }

pub invariant_of-result : goal.invariant_of-result
invariant_of-result c =
    let starts = c.loop-id.starts.items in
    let count : c.loop-id.id ≡ length starts - 1 = omega (arith, c.loop-id.invariant.count) in
    record {
      text = c.loop-id.invariant.text ∙ ap (λ n. spaced (range_with_len 0 n)) count;
      starts = c.loop-id.invariant.starts;
      some = omega (arith, c.loop-id.invariant.count);
    }

pub returns : goal.returns
returns c =
    let count : length c.loop-id.starts.items - 1 ≡ c.args.count =
    omega (arith, c.loop-id.invariant.count, c.loop-id-test.false, c.loop-id.auto.id-end) in
    count
