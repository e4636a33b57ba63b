-- The texts of a valid instance denote it, and that of a CPIT denotes the CPIT.
use Rattle.std.specs.Prelude.{List, ℕ}
use Rattle.std.proofs.Common.{All, [], ap, arith, length, map, refl, ◌+◌, ◌∷◌, ◌≡◌}
use Rattle.std.proofs.lemmas.List.{length-map}
use Rattle.std.proofs.lemmas.List.Elements.{All-cons, All-map, All-nil}
use Rattle.pit_units.specs.DecimalRange.{IsInDecimalRange}
use Rattle.mine_instance.specs.Instance.{Instance}
use Rattle.mine_instance.specs.WellFormed.{IsWellFormed, IsWellFormedCpit}
use Rattle.mine_instance.specs.Valid.{IsValid}
use Rattle.mine_instance.specs.cpit.Cpit.{CpitParts}
use Rattle.mine_instance.specs.cpit.CpitInvariant.{IsCpit}
use Rattle.minelib_lines.specs.Lines.{line_of, lines_from}
use Rattle.minelib_lines.specs.declared.problem.Problem.TheVariants.{Cpit, Pcpsp}
use Rattle.minelib_writing.specs.Written.{text_blocks, text_cpit, text_pcpsp, text_prec, value_line}
use Rattle.minelib_reading.proofs.encoded.EncodedDenotes.{encoded_cpit, encoded_denoted}
use Rattle.minelib_reading.specs.Denotes.{Denotes, DenotesCpit}
use Rattle.minelib_reading.specs.StatedModel.{alone, model_of, model_of_cpit}
use Rattle.minelib_text.proofs.BlocksBack.{blocks_back, preds_back}
use Rattle.minelib_text.proofs.ModelBack.{IsWritable, model_back}

pub written_again : (i : Instance) → IsValid i → IsWellFormed i → Denotes (text_blocks i) (text_prec i) (text_pcpsp i) i
unfolding text_blocks text_prec text_pcpsp
written_again i valid kept = encoded_denoted (text_blocks i) (text_prec i) (text_pcpsp i) i (record {
  of_blocks = blocks_back i.blocks valid.lengths.few;
  of_preds = preds_back (length i.blocks) i.preds valid.lengths.few valid.lengths.preds valid.preds;
  of_model = model_back Pcpsp (length i.blocks) (model_of i) (record {
    few = valid.lengths.few;
    model = record {
      name = kept.name;
      horizon = valid.horizon;
      count = valid.lengths.values;
      destinations = valid.destinations;
      single = tt;
      coefs = valid.coefs;
      limits = valid.limits;
    };
    values = kept.values;
    coefs = kept.coefs;
    limits = kept.limits;
  });
})

lines_from-map : {A B : Type 0} (fields : ℕ → B → List (List ℕ)) (f : A → B) (n : ℕ) (xs : List A)
    → lines_from fields n (map f xs) ≡ lines_from (λ k x. fields k (f x)) n xs
lines_from-map fields f n [] = refl
lines_from-map fields f n (x ∷ xs) = ap (λ lines. line_of (fields n (f x)) ∷ lines) (lines_from-map fields f (n + 1) xs)

writable : (c : CpitParts) → IsCpit c → IsWellFormedCpit c → IsWritable Cpit (length c.values) (model_of_cpit c)
writable c is kept = record {
  few = is.few;
  model = record {
    name = kept.name;
    horizon = is.horizon;
    count = length-map c.values alone;
    destinations = record {
      from_1_to_8 = (omega arith, omega arith);
      one_each = All-map (λ vs. length vs ≡ 1) alone c.values (λ k d within. refl);
    };
    single = refl;
    coefs = is.coefs;
    limits = is.limits;
  };
  values = All-map (λ vs. All IsInDecimalRange vs) alone c.values
      (λ k d within. All-cons IsInDecimalRange _ [] (kept.values k d within) (All-nil IsInDecimalRange));
  coefs = kept.coefs;
  limits = kept.limits;
}

pub written_cpit_again : (c : CpitParts) → IsCpit c → IsWellFormedCpit c → DenotesCpit (length c.values) (text_cpit c) c
unfolding text_cpit
written_cpit_again c is kept =
    let lines = model_back Cpit (length c.values) (model_of_cpit c) (writable c is kept) in
    encoded_cpit (length c.values) (text_cpit c) c
    (rw (lines_from-map value_line alone 0 c.values) at lines)
