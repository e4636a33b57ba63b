use Rattle.std.proofs.Common.{◌≡◌, ℕ, ◌<◌, List, [], All, length, get_or, ap, subst, sym, arith}
use Rattle.std.proofs.lemmas.List.{get_or_default}
use Rattle.mine_instance.specs.Instance.{Instance}
use Rattle.minelib_writing.proofs.files.write_prec.Goals as goal

-- predecessors are blocks
pub write_lists-requires-clause-below : goal.write_lists-requires-clause-below
write_lists-requires-clause-below g c k d within j e inside =
    let i = c.args.instance.now in
    let seen_preds : g.P.PredLists.lists c.instance.inside.preds ≡ i.preds = ap (λ (i : Instance). i.preds) c.instance.view_is in
    let valid = c.requires in
    let lists = i.preds in
    let there : k < length lists = rw seen_preds at within in
    let same : get_or lists k d ≡ get_or lists k [] = get_or_default lists k d [] there in
    let below : All (λ id. id < length i.blocks) (get_or lists k d) =
    subst (λ (ids : List ℕ). All (λ id. id < length i.blocks) ids) (sym same) (valid.preds k there).below in
    let known : get_or (get_or (g.P.PredLists.lists c.instance.inside.preds) k d) j e ≡ get_or (get_or lists k d) j e =
    ap (λ (ls : List (List ℕ)). get_or (get_or ls k d) j e) seen_preds in
    omega (arith, known, below j e (rw seen_preds at inside), ap length seen_preds, valid.lengths.preds)

pub write_lists-requires-clause-few : goal.write_lists-requires-clause-few
write_lists-requires-clause-few g c =
    let seen_preds : g.P.PredLists.lists c.instance.inside.preds ≡ c.args.instance.now.preds = ap (λ (i : Instance). i.preds) c.instance.view_is in
    let lengths = c.requires.lengths in
    omega (arith, ap length seen_preds, lengths.preds, lengths.few)
