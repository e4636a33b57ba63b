-- The text of blocks and that of predecessors spell them.
use Rattle.std.specs.Prelude.{List, decimal, ℕ, ◌^◌, ◌≢◌}
use Rattle.std.proofs.Common.{[], ap, arith, eqb, length, refl, subst, sym, ◌<◌, ◌∷◌, ◌≡◌, ◌≤◌}
use Rattle.std.proofs.lemmas.Bool.{eqb-true, ne_eqb}
use Rattle.std.proofs.lemmas.List.Elements.{All-cons, All-contains}
use Rattle.std.proofs.lemmas.List.Kept.{AllPairs-cons}
use Rattle.std.proofs.lemmas.Map.Keys.{IsDistinct-from_apart}
use Rattle.std.proofs.lemmas.Map.Steps.{length-le_from_distinct_below}
use Rattle.std.proofs.lemmas.Map.Views.{Contains-from_any}
use Rattle.plan_parts.specs.declared.block.Block.{Block}
use Rattle.mine_instance.specs.Valid.{ArePreds, ArePredsOf}
use Rattle.text_lines.proofs.PlainText.{IsLine}
use Rattle.text_lines.specs.TextLines.{fields_of}
use Rattle.minelib_lines.specs.Lines.{line_of, lines_from, text_of}
use Rattle.minelib_writing.specs.Written.{block_line, prec_line}
use Rattle.minelib_reading.proofs.models.Places.{is_place, stands_there}
use Rattle.minelib_reading.specs.LineFields.{Below, fields_by}
use Rattle.minelib_reading.specs.LineForms.{block_form, preds_form}
use Rattle.minelib_reading.specs.encoded.EncodedItems.{EncodesBlock, EncodesPreds}
use Rattle.minelib_reading.specs.encoded.EncodedTexts.{EncodeBlocks, EncodePreds}
use Rattle.minelib_text.proofs.LinesBack.{text_encodes}
use Rattle.minelib_text.proofs.WrittenNumbers.{each_writable, line_back, written_same}

block_written : (id : ℕ) (b : Block) → id < 64000000
    → IsLine (line_of (block_line id b)) × EncodesBlock id (fields_of (line_of (block_line id b))) b
block_written id b low = line_back (block_line id b) (fields_by (block_form id) b) refl (omega arith) (
  (low, omega arith),
  (
    (b.x_in_grid, omega arith),
    (
      (b.y_in_grid, omega arith),
      (
        (b.z_in_grid, omega arith),
        ((omega (arith, b.kg_in_range), omega arith, omega arith), ((b.grade_in_range, omega arith), ((b.zone_in_range, omega arith), tt))),
      ),
    ),
  ),
)

pub blocks_back : (blocks : List Block) → length blocks ≤ 64000000 → EncodeBlocks (text_of (lines_from block_line 0 blocks)) blocks
blocks_back blocks few =
    text_encodes (λ id line b. EncodesBlock id (fields_of line) b) block_line blocks (λ done b rest whole.
    block_written (length done) b (omega (arith, few, is_place blocks done b rest whole)))

-- there are fewer predecessors than blocks, since none is the block itself
fewer : (own n : ℕ) (ids : List ℕ) → own < n → ArePredsOf own n ids → length ids < n
fewer own n ids below h =
    let all = All-cons (λ id. id < n) own ids below h.below in
    let apart = AllPairs-cons (λ a b. a ≢ b) own ids (λ k d within same. h.others k d within (sym same)) h.distinct in
    omega (
      arith,
      length-le_from_distinct_below (own ∷ ids) n
          (IsDistinct-from_apart eqb (own ∷ ids) (λ i j d before within. ne_eqb _ _ (apart i j d before within)))
          (λ q found. All-contains (λ id. id < n) (own ∷ ids) q all (Contains-from_any eqb-true q (own ∷ ids) found)),
    )

preds_written : (n own : ℕ) (ids : List ℕ) → n ≤ 64000000 → own < n → ArePredsOf own n ids
    → IsLine (line_of (prec_line own ids)) × EncodesPreds n own (fields_of (line_of (prec_line own ids))) ids
preds_written n own ids few low are =
    let small : n ≤ 10 ^ 18 = omega (arith, few) in
    let each = each_writable (Below n) ids (λ k d within. (are.below k d within, small)) in
    let back = line_back (prec_line own ids) (fields_by (preds_form n own) ids)
    (ap (λ more. decimal own ∷ decimal (length ids) ∷ more) (written_same (Below n) ids)) (omega arith)
    ((low, small), ((fewer own n ids low are, small), each)) in
    (back.0, (back.1, are))

pub preds_back : (n : ℕ) (lists : List (List ℕ)) → n ≤ 64000000 → length lists ≡ n → ArePreds n lists
    → EncodePreds n (text_of (lines_from prec_line 0 lists)) lists
preds_back n lists few as_many h = (
  as_many,
  text_encodes (λ own line ids. EncodesPreds n own (fields_of line) ids) prec_line lists (λ done ids rest whole.
      let within = is_place lists done ids rest whole in
      preds_written n (length done) ids few (omega (arith, within, as_many))
      (subst (ArePredsOf (length done) n) (stands_there lists done ids rest whole []) (h (length done) within))),
)
