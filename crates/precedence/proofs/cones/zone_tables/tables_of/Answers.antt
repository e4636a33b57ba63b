use Rattle.std.proofs.Common.{◌≡◌, ◌<◌, ◌∷◌, [], length, get_or, sym, ap, ◌∙◌, arith, ⊎_elim}
use Rattle.std.proofs.lemmas.Bool.{cases_lt}
use Rattle.std.proofs.lemmas.List.{length_push, get_or_append_left, get_or_push, get_or_default}
use Rattle.std.proofs.lemmas.List.Elements.{All-push}
use Rattle.precedence.specs.declared.cones.cone_table.ConeTable.{ConeTable}
use Rattle.precedence.proofs.cones.zone_tables.tables_of.Goals as goal

pub loop-cone-preserved : goal.loop-cone-preserved
loop-cone-preserved c =
    let of_zone = c.loop-cone.of_zone.items in
    let place = c.in_ok-place.place in
    let pushed = c.in_ok-push.ensures.items in
    let had = c.loop-cone.invariant in
    let e = c.in_ok-place.ensures in
    record {
      zones = omega (arith, ap length pushed, length_push of_zone place, had.zones);
      below = rw pushed (All-push (λ t. t < length c.place_of.new.tables.items) of_zone place
          (λ k d lt. omega (arith, had.below k d lt, e.has.more)) e.has.within);
      same = λ z cone table lt. rw pushed (⊎_elim
          (λ earlier. rw (get_or_append_left of_zone (place ∷ []) 0 z (omega (arith, had.zones)))
          (ap (λ (t : ConeTable). t.cone) (e.has.kept (get_or of_zone z 0) table (had.below z 0 (omega (arith, had.zones))))
          ∙ had.same z cone table earlier))
          (λ last.
          let here : z ≡ c.loop-cone.cone-index = omega arith in
          rw (get_or_push of_zone place 0 z (had.zones ∙ sym here))
          (e.has.cone_is table ∙ get_or_default c.args.cones.now c.loop-cone.cone-index _ cone c.loop-cone-test.true
          ∙ ap (λ k. get_or c.args.cones.now k cone) (sym here)))
          (cases_lt z c.loop-cone.cone-index));
      exact = e.exact;
    }
