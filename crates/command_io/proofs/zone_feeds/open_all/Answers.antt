use Rattle.std.proofs.Common.{◌≡◌, ◌∙◌, ◌<◌, [], ◌∷◌, ◌++◌, Some, ap, append_assoc, arith, get_or, inl, inr, length, map, refl, rules, string_bytes, subst, sym}
use Rattle.std.proofs.lemmas.List.{get_or-map, length-map, map_push}
use Rattle.std.proofs.lemmas.Option.{slice_get-get_or}
use Rattle.std.proofs.lemmas.Result.{err_from_is_err_and}
use Rattle.devices.specs.feeds.FeedState.{all_remaining}
use Rattle.devices.specs.files.Opening.{Opened, Unopened, all_opened}
use Rattle.command_io.proofs.OpenedInOrder.{opened_first, opened_more}
use Rattle.command_io.proofs.zone_feeds.open_all.Goals as goal

pub loop-file-init : goal.loop-file-init
loop-file-init g c = record {
  opened = opened_first (map string_bytes c.args.paths.now) (g.O.Opener.opened c.args.files.now)
      ∙ ap (λ feeds. g.O.Opener.opened c.args.files.now ++ all_opened (map string_bytes c.args.paths.now) (all_remaining g.O.Opened.Feed.state feeds))
      (sym c.new-feeds.ensures.items);
  count = ap length c.new-feeds.ensures.items;
}

pub loop-file-preserved : goal.loop-file-preserved
loop-file-preserved g c =
    let path = c.index-paths-file.result in
    let state = g.O.Opened.Feed.state in
    let paths = map string_bytes c.args.paths.now in
    let remainders = all_remaining state c.loop-file.feeds.items in
    let is : path ≡ get_or c.args.paths.now c.loop-file.file path = search rules in
    let count : length remainders ≡ c.loop-file.file = length-map c.loop-file.feeds.items (λ feed. (state feed).remaining) ∙ c.loop-file.invariant.count in
    let few : length remainders < length paths = omega (arith, count, length-map c.args.paths.now string_bytes, c.loop-file-test.true) in
    let at : string_bytes path ≡ get_or paths (length remainders) (string_bytes path) =
    ap string_bytes is ∙ sym (get_or-map string_bytes c.args.paths.now c.loop-file.file path (string_bytes path) c.loop-file-test.true)
    ∙ ap (λ i. get_or paths i (string_bytes path)) (sym count) in
    let grown : c.push.new.self.items ≡ c.loop-file.feeds.items ++ c.in-Ok.feed ∷ [] = search rules in
    record {
      opened = opened_more paths remainders (string_bytes path) (state c.in-Ok.feed).remaining _ _ _ few at c.loop-file.invariant.opened
          (subst (λ p. g.O.Opener.opened c.open.new.self ≡ g.O.Opener.opened c.loop-file.files ++ Opened p (state c.in-Ok.feed).remaining ∷ [])
          c.as_str.ensures.value c.in-Ok.ensures.opened.opened)
          ∙ ap (λ fs. g.O.Opener.opened c.args.files.now ++ all_opened paths fs)
          (sym (ap (all_remaining state) grown ∙ map_push (λ feed. (state feed).remaining) c.loop-file.feeds.items c.in-Ok.feed));
      count = search rules;
    }

pub returns-in_default-clause-refused : goal.returns-in_default-clause-refused
returns-in_default-clause-refused g c =
    let path = c.index-paths-file.result in
    let state = g.O.Opened.Feed.state in
    let paths = map string_bytes c.args.paths.now in
    let remainders = all_remaining state c.loop-file.feeds.items in
    let is : path ≡ get_or c.args.paths.now c.loop-file.file path = search rules in
    let count : length remainders ≡ c.loop-file.file = length-map c.loop-file.feeds.items (λ feed. (state feed).remaining) ∙ c.loop-file.invariant.count in
    let within : c.loop-file.file < length paths = omega (arith, length-map c.args.paths.now string_bytes, c.loop-file-test.true) in
    let old = g.O.Opener.opened c.args.files.now in
    inl (
      c.loop-file.file,
      refl,
      record {
        remainders = remainders;
        before = count;
        path = string_bytes path;
        stands = slice_get-get_or paths c.loop-file.file (string_bytes path) within
            ∙ ap Some (get_or-map string_bytes c.args.paths.now c.loop-file.file path (string_bytes path) c.loop-file-test.true
            ∙ sym (ap string_bytes is));
        opened = subst (λ p. g.O.Opener.opened c.open.new.self ≡ g.O.Opener.opened c.loop-file.files ++ Unopened p ∷ [])
            c.as_str.ensures.value c.in_default.ensures.refused
            ∙ ap (λ l. l ++ Unopened (string_bytes path) ∷ []) c.loop-file.invariant.opened
            ∙ append_assoc old (all_opened paths remainders) (Unopened (string_bytes path) ∷ []);
      },
    )

pub returns-in_err-push-clause-refused : goal.returns-in_err-push-clause-refused
returns-in_err-push-clause-refused g c =
    let path = c.index-paths-file.result in
    let state = g.O.Opened.Feed.state in
    let paths = map string_bytes c.args.paths.now in
    let remainders = all_remaining state c.loop-file.feeds.items in
    let is : path ≡ get_or c.args.paths.now c.loop-file.file path = search rules in
    let count : length remainders ≡ c.loop-file.file = length-map c.loop-file.feeds.items (λ feed. (state feed).remaining) ∙ c.loop-file.invariant.count in
    let few : length remainders < length paths = omega (arith, count, length-map c.args.paths.now string_bytes, c.loop-file-test.true) in
    let at : string_bytes path ≡ get_or paths (length remainders) (string_bytes path) =
    ap string_bytes is ∙ sym (get_or-map string_bytes c.args.paths.now c.loop-file.file path (string_bytes path) c.loop-file-test.true)
    ∙ ap (λ i. get_or paths i (string_bytes path)) (sym count) in
    let p = err_from_is_err_and c.from_residual.result c.from_residual.ensures.1 in
    rw (p.1, p.2) (inr (
      refl,
      (
        remainders ++ (state c.in-Ok.feed).remaining ∷ [],
        opened_more paths remainders (string_bytes path) (state c.in-Ok.feed).remaining _ _ _ few at c.loop-file.invariant.opened
            (subst (λ p. g.O.Opener.opened c.open.new.self ≡ g.O.Opener.opened c.loop-file.files ++ Opened p (state c.in-Ok.feed).remaining ∷ [])
            c.as_str.ensures.value c.in-Ok.ensures.opened.opened),
      ),
    ))
