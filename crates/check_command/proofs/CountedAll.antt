-- Counting one file after the other counts the texts of all files.
use Rattle.std.specs.Prelude.{◌≡◌, ℕ, List, length, Option, None, Some, Result, Ok, Err}
use Rattle.std.proofs.Common.{refl, ap}
use Rattle.devices.specs.feeds.Fed.{IfFed}
use Rattle.devices.specs.feeds.FeedState.{FeedState}
use Rattle.devices.specs.declared.feeds.fed_fault.FedFault.{FedFault}
use Rattle.devices.specs.declared.feeds.fed_fault.FedFault.TheVariants.{Text, Unread}
use Rattle.pit_units.specs.Steps.{◌>>=◌}
use Rattle.minelib_reading.specs.BlockText.{blocks_in}
use Rattle.minelib_reading.specs.Denotes.{cpit_denoted, denoted}
use Rattle.minelib_reading.specs.FedCounts.{IsFedAnswer, arcs_counted, blocks_counted, model_counted}
use Rattle.minelib_reading.specs.ModelDraft.{ModelDraftView}
use Rattle.minelib_reading.specs.ModelText.{model_in}
use Rattle.minelib_reading.specs.PrecText.{preds_in}
use Rattle.minelib_lines.specs.declared.problem.Problem.TheVariants as problem
use Rattle.plan_parts.specs.declared.block.Block.{Block}
use Rattle.text_lines.specs.Fed.{IsTextOf}
use Rattle.text_lines.specs.Reading.{in_file}
use Rattle.text_lines.specs.declared.text_fault.LineFault.{LineFault}
use Rattle.text_lines.specs.declared.text_fault.TextFault.{TextFault}
use Rattle.text_lines.specs.declared.text_fault.TextFile.{TextFile}
use Rattle.text_lines.specs.declared.text_fault.TextFile.TheVariants.{Blocks, Prec, Pcpsp, Cpit}
use Rattle.check_command.specs.Counts.{Texts, counted, cpit_counted}
use Rattle.check_command.specs.inner.CountSteps.{counted_in, counted_on, no_counts}
use Rattle.check_command.specs.declared.counts.Counts.{Counts}

module _ (limit : ℕ) (old new : FeedState) where
  counted_with : {A : Type 0} (rule : List ℕ → Result A LineFault) (counts : A → Counts) (answer : Result A (FedFault LineFault))
      → IfFed answer (IsFedAnswer rule limit old new)
      → IfFed (answer >>= λ x. Ok (counts x)) (IsFedAnswer (λ text. rule text >>= λ x. Ok (counts x)) limit old new)
  counted_with rule counts (Ok x) fed =
      record { text = fed.text; is_text = fed.is_text; answers = ap (λ r. r >>= λ x. Ok (counts x)) fed.answers }
  counted_with rule counts (Err (Text fault)) fed =
      record { text = fed.text; is_text = fed.is_text; answers = ap (λ r. r >>= λ x. Ok (counts x)) fed.answers }
  counted_with rule counts (Err (Unread fault)) fed = tt

  module _ (c : Counts) where
    pub blocks_reported : (answer : Result ℕ (FedFault LineFault)) → IfFed answer (IsFedAnswer blocks_counted limit old new)
        → IfFed (answer >>= λ n. Ok (record c { blocks = n })) (IsFedAnswer (counted_in Blocks c) limit old new)
    unfolding counted_in
    blocks_reported answer fed = counted_with blocks_counted (λ n. record c { blocks = n }) answer fed

    pub arcs_reported : (answer : Result ℕ (FedFault LineFault)) → IfFed answer (IsFedAnswer (arcs_counted c.blocks) limit old new)
        → IfFed (answer >>= λ n. Ok (record c { arcs = n })) (IsFedAnswer (counted_in Prec c) limit old new)
    unfolding counted_in
    arcs_reported answer fed = counted_with (arcs_counted c.blocks) (λ n. record c { arcs = n }) answer fed

    pub model_reported : (answer : Result (ℕ × ℕ) (FedFault LineFault))
        → IfFed answer (IsFedAnswer (model_counted problem.Pcpsp c.blocks) limit old new)
        → IfFed (answer >>= λ x. Ok (record c { coefficients = x.0; limits = x.1 })) (IsFedAnswer (counted_in Pcpsp c) limit old new)
    unfolding counted_in
    model_reported answer fed =
        counted_with (model_counted problem.Pcpsp c.blocks) (λ x. record c { coefficients = x.0; limits = x.1 }) answer fed

    pub cpit_reported : (answer : Result (ℕ × ℕ) (FedFault LineFault))
        → IfFed answer (IsFedAnswer (model_counted problem.Cpit c.blocks) limit old new)
        → IfFed (answer >>= λ x. Ok (record c { cpit = Some x.0 })) (IsFedAnswer (counted_in Cpit c) limit old new)
    unfolding counted_in
    cpit_reported answer fed = counted_with (model_counted problem.Cpit c.blocks) (λ x. record c { cpit = Some x.0 }) answer fed

-- a file after valid ones
pub reported : (file : TextFile) (c : Counts) (limit : ℕ) (old new : FeedState) (answer : Result Counts LineFault)
    → IsFedAnswer (counted_in file c) limit old new answer → IsFedAnswer (counted_on file (Ok c)) limit old new (in_file file answer)
unfolding counted_on
reported file c limit old new answer fed = record { text = fed.text; is_text = fed.is_text; answers = ap (in_file file) fed.answers }

-- and after an invalid line
pub passed : (file : TextFile) (fault : TextFault) (limit : ℕ) (old new : FeedState) → (text : List ℕ) × IsTextOf limit old new text
    → IsFedAnswer (counted_on file (Err fault)) limit old new (Err fault)
unfolding counted_on
passed file fault limit old new went = record { text = went.0; is_text = went.1; answers = refl }

-- the counts of the three files, and then of the fourth, if there is one
abbrev pub counted_three : List ℕ → List ℕ → List ℕ → Result Counts TextFault
counted_three blocks prec pcpsp = counted_on Pcpsp (counted_on Prec (counted_on Blocks (Ok no_counts) blocks) prec) pcpsp

abbrev pub counted_four : Result Counts TextFault → Option (List ℕ) → Result Counts TextFault
counted_four so_far None = so_far
counted_four so_far (Some text) = counted_on Cpit so_far text

-- both ways of counting give the same counts
abbrev pub AreCounted : Texts → Type 0
AreCounted texts = counted_four (counted_three texts.blocks texts.prec texts.pcpsp) texts.cpit ≡ counted texts

bad_blocks : (texts : Texts) (fault : LineFault) → blocks_in texts.blocks ≡ Err fault → AreCounted texts
unfolding counted_on counted_in counted denoted cpit_counted cpit_denoted blocks_counted arcs_counted model_counted
bad_blocks texts fault eb = at texts.cpit refl where
  at : (o : Option (List ℕ)) → texts.cpit ≡ o → AreCounted texts
  at None ec = rw (eb, ec) refl
  at (Some text) ec = rw (eb, ec) refl

bad_prec : (texts : Texts) (all : List Block) (fault : LineFault) → blocks_in texts.blocks ≡ Ok all
    → preds_in (length all) texts.prec ≡ Err fault → AreCounted texts
unfolding counted_on counted_in counted denoted cpit_counted cpit_denoted blocks_counted arcs_counted model_counted
bad_prec texts all fault eb ep = at texts.cpit refl where
  at : (o : Option (List ℕ)) → texts.cpit ≡ o → AreCounted texts
  at None ec = rw (eb, ep, ec) refl
  at (Some text) ec = rw (eb, ep, ec) refl

bad_model : (texts : Texts) (all : List Block) (lists : List (List ℕ)) (fault : LineFault) → blocks_in texts.blocks ≡ Ok all
    → preds_in (length all) texts.prec ≡ Ok lists → model_in problem.Pcpsp (length all) texts.pcpsp ≡ Err fault → AreCounted texts
unfolding counted_on counted_in counted denoted cpit_counted cpit_denoted blocks_counted arcs_counted model_counted
bad_model texts all lists fault eb ep em = at texts.cpit refl where
  at : (o : Option (List ℕ)) → texts.cpit ≡ o → AreCounted texts
  at None ec = rw (eb, ep, em, ec) refl
  at (Some text) ec = rw (eb, ep, em, ec) refl

good : (texts : Texts) (all : List Block) (lists : List (List ℕ)) (d : ModelDraftView) → blocks_in texts.blocks ≡ Ok all
    → preds_in (length all) texts.prec ≡ Ok lists → model_in problem.Pcpsp (length all) texts.pcpsp ≡ Ok d → AreCounted texts
unfolding counted_on counted_in counted denoted cpit_counted cpit_denoted blocks_counted arcs_counted model_counted
good texts all lists d eb ep em = at texts.cpit refl where
  last : (text : List ℕ) (r : Result ModelDraftView LineFault) → texts.cpit ≡ Some text → model_in problem.Cpit (length all) text ≡ r
      → AreCounted texts
  last text (Ok cpit) ec el = rw (eb, ep, em, ec, el) refl
  last text (Err fault) ec el = rw (eb, ep, em, ec, el) refl

  at : (o : Option (List ℕ)) → texts.cpit ≡ o → AreCounted texts
  at None ec = rw (eb, ep, em, ec) refl
  at (Some text) ec = last text (model_in problem.Cpit (length all) text) ec refl

pub counted_all : (texts : Texts) → AreCounted texts
counted_all texts = by_blocks (blocks_in texts.blocks) refl where
  by_model : (all : List Block) (lists : List (List ℕ)) (r : Result ModelDraftView LineFault) → blocks_in texts.blocks ≡ Ok all
      → preds_in (length all) texts.prec ≡ Ok lists → model_in problem.Pcpsp (length all) texts.pcpsp ≡ r → AreCounted texts
  by_model all lists (Ok d) eb ep em = good texts all lists d eb ep em
  by_model all lists (Err fault) eb ep em = bad_model texts all lists fault eb ep em

  by_prec : (all : List Block) (r : Result (List (List ℕ)) LineFault) → blocks_in texts.blocks ≡ Ok all
      → preds_in (length all) texts.prec ≡ r → AreCounted texts
  by_prec all (Ok lists) eb ep = by_model all lists (model_in problem.Pcpsp (length all) texts.pcpsp) eb ep refl
  by_prec all (Err fault) eb ep = bad_prec texts all fault eb ep

  by_blocks : (r : Result (List Block) LineFault) → blocks_in texts.blocks ≡ r → AreCounted texts
  by_blocks (Ok all) eb = by_prec all (preds_in (length all) texts.prec) eb refl
  by_blocks (Err fault) eb = bad_blocks texts fault eb
