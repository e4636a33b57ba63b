use Rattle.std.proofs.Common.{arith, rules, inl, inr, ◌≡◌, true, get_or}
use Rattle.std.proofs.lemmas.List.Sums.{prefix_len-le-length}
use Rattle.std.specs.Char.{is_ascii_digit}
use Rattle.pit_units.proofs.Digits.{more_digits, small_value}
use Rattle.pit_units.proofs.LeadingFacts.{after_all_digits, after_digits, digits_up_to, digits_alone_there, most_digits, stops_there}
use Rattle.pit_units.proofs.prefix.leading_digits.Goals as goal
use Rattle.pit_units.proofs.prefix.leading_digits.Goals.{then-place-eq-MOST_DIGITS-via-then-place-eq-MOST_DIGITS, then-place-eq-MOST_DIGITS-via-else-place-eq-MOST_DIGITS+then-not-is_ascii_digit}

pub returns-then-place-eq-MOST_DIGITS-clause-digits : goal.returns-then-place-eq-MOST_DIGITS-clause-digits
returns-then-place-eq-MOST_DIGITS-clause-digits c =
    digits_up_to c.args.text.now c.loop-place.place c.loop-place.number (omega arith) c.loop-place.invariant

pub overflow_mul-number : goal.overflow_mul-number
overflow_mul-number c =
    omega (arith, small_value c.loop-place.place 18 c.loop-place.number c.loop-place.invariant.0 c.loop-place.invariant.1.0)

pub overflow_add-number : goal.overflow_add-number
overflow_add-number c = omega (
  arith,
  c.from.ensures,
  c.from.type_inv,
  small_value c.loop-place.place 18 c.loop-place.number c.loop-place.invariant.0 c.loop-place.invariant.1.0,
)

pub loop-place-preserved : goal.loop-place-preserved
loop-place-preserved c =
    let digit : is_ascii_digit (get_or c.args.text.now c.loop-place.place 0) ≡ true = search rules in (
      omega arith,
      rw c.from.ensures (more_digits c.args.text.now c.loop-place.place c.loop-place.number
          (omega arith) digit c.loop-place.invariant.1),
    )

pub returns-clause-digits : goal.returns-clause-digits
returns-clause-digits c = digits_alone_there c.args.text.now c.loop-place.place c.loop-place.number (omega arith) c.loop-place.invariant

pub returns-then-place-eq-MOST_DIGITS-clause-rest : goal.returns-then-place-eq-MOST_DIGITS-clause-rest
returns-then-place-eq-MOST_DIGITS-clause-rest c =
    let so_far = c.loop-place.invariant in
    let most = most_digits c.args.text.now c.loop-place.place (omega arith) so_far.0 so_far.1.1.1 in
    after_digits c.args.text.now c.loop-place.place (omega arith) (elim c.then-place-eq-MOST_DIGITS.branch [
      | then-place-eq-MOST_DIGITS-via-then-place-eq-MOST_DIGITS w ↦ most (inl (omega arith))
      | then-place-eq-MOST_DIGITS-via-else-place-eq-MOST_DIGITS+then-not-is_ascii_digit w ↦ most
          (inr (stops_there c.args.text.now c.loop-place.place (search rules)))
    ])

pub returns-clause-rest : goal.returns-clause-rest
returns-clause-rest c =
    let so_far = c.loop-place.invariant in
    let ahead = prefix_len-le-length is_ascii_digit c.args.text.now in
    after_all_digits c.args.text.now c.loop-place.place (omega arith)
    (most_digits c.args.text.now c.loop-place.place (omega arith) so_far.0 so_far.1.1.1 (inr (omega (arith, ahead))))
