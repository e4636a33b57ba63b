use Rattle.std.proofs.Common.{◌≡◌, ◌+◌, ◌/◌, ◌<◌, true, length, get_or, inl, inr, ⊎_elim, sym, ap, subst, ◌∙◌, arith}
use Rattle.std.proofs.lemmas.Bool.{and_from, cases_lt, eqb-true}
use Rattle.precedence.specs.inner.Outside.{x_of, IsInColumns}
use Rattle.precedence.specs.inner.lanes.Bits.{has_bit}
use Rattle.precedence.proofs.bits.Words.{no_bit}
use Rattle.precedence.proofs.lists.outside.is_outside.Goals as goal

pub returns-in-Some : goal.returns-in-Some
returns-in-Some c = λ yes m low up within.
    let sides = c.args.sides in
    let columns = c.args.places.now.columns.items in
    let code = get_or c.args.places.now.codes.items m 0 in
    let k = c.args.id / 64 in
    let value = c.deref.ensures.value in
    let found = c.in-Some.ensures.lookup.3 in
    let lt : k < length columns = omega (arith, found.0, ap length value) in
    let here : get_or columns k 0 ≡ c.in-Some.seen.now = ap (λ xs. get_or xs k 0) (sym value) ∙ sym (found.1 0) in
    let h = subst (λ n. IsInColumns n code) here (c.args.places.now.spanned k m lt (omega (arith, low)) up within) in
    let x = x_of code in
    let same : x / 79 ≡ x / 79 + 0 = omega arith in
    record {
      small = h.small;
      out = ⊎_elim
          (λ west. inl west)
          (λ le. ⊎_elim
          (λ inside. absurd (no_bit (x / 79) (subst (λ n. has_bit n (x / 79) ≡ true) (eqb-true _ _ yes)
          (c.seen_at.ensures (x / 79) ∙ and_from _ _ h.bit (subst (λ i. has_bit sides.columns i ≡ true) same (sides.between x le inside h.small))))))
          (λ east. inr east)
          (cases_lt x sides.east))
          (cases_lt x sides.west);
    }
