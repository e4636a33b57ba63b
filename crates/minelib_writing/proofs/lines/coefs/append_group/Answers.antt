use Rattle.std.proofs.Common.{◌≡◌, ◌++◌, ◌∙◌, [], All, ap, refl, subst}
use Rattle.std.specs.Prelude.{slice_index_or}
use Rattle.std.proofs.lemmas.Result.{on_ok_weaker}
use Rattle.mine_instance.specs.Largest.{first_largest}
use Rattle.mine_instance.specs.coefs.Groups.{coefs_in, pairs_of}
use Rattle.minelib_writing.specs.inner.CoefParts.{FitsForm}
use Rattle.minelib_writing.specs.declared.lines.coefs.CoefForm.TheVariants.{OfChosen}
use Rattle.minelib_writing.proofs.CoefFacts.{chosen_parts, has_some, of_pair}
use Rattle.minelib_writing.proofs.lines.coefs.append_group.Goals as goal

pub of_block-requires : goal.of_block-requires
of_block-requires g c =
    let group = c.args.group.now in
    let fit = subst (λ form. All (FitsForm g.V.ValueList.list form) (coefs_in group)) c.in-OfChosen.is c.requires.fit in
    (has_some g.V.ValueList.list c.in-OfChosen.values group.b
    (of_pair (FitsForm g.V.ValueList.list (OfChosen c.in-OfChosen.values)) group.b group.v (pairs_of group.pairs) (pairs_of group.pairs) 0 refl c.requires.some
    fit).2).0

pub first_largest-destination-requires : goal.first_largest-destination-requires
first_largest-destination-requires g c =
    let group = c.args.group.now in
    let fit = subst (λ form. All (FitsForm g.V.ValueList.list form) (coefs_in group)) c.in-OfChosen.is c.requires.fit in
    rw c.of_block.ensures
    (has_some g.V.ValueList.list c.in-OfChosen.values group.b
    (of_pair (FitsForm g.V.ValueList.list (OfChosen c.in-OfChosen.values)) group.b group.v (pairs_of group.pairs) (pairs_of group.pairs) 0 refl c.requires.some
    fit).2).1

pub returns-in-OfChosen-clause-text : goal.returns-in-OfChosen-clause-text
returns-in-OfChosen-clause-text g c =
    let group = c.args.group.now in
    let values = c.in-OfChosen.values in
    let at : c.first_largest-destination.result ≡ first_largest (slice_index_or (g.V.ValueList.list values.now) group.b []) =
    c.first_largest-destination.ensures.value ∙ ap first_largest c.of_block.ensures in
    rw c.in-OfChosen.is
    (on_ok_weaker c.append_at.result
    (λ text.
    text ∙ ap (λ more. c.args.out.now.items ++ more)
    (chosen_parts g.V.ValueList.list values group.b group.v c.first_largest-destination.result (pairs_of group.pairs) at))
    c.append_at.ensures.text)
