-- What holds of the rows of zone files, and of what the files send.
use Rattle.std.proofs.Common.{◌≡◌, ◌<◌, ◌≤◌, ◌+◌, ◌*◌, ◌++◌, ℕ, List, [], ◌∷◌, refl, sym, ◌∙◌, ap, arith, length, length-append, All}
use Rattle.std.specs.List.{flat_map}
use Rattle.std.proofs.lemmas.List.Elements.{All-nil, All-cons, All-append, All-head, All-tail, All-weaker}
use Rattle.lane.specs.Message.{sent_from}
use Rattle.lane.specs.MessageKinds.{row_count}
use Rattle.plan_parts.specs.PlanFormulas.{formulas_of_plan}
use Rattle.plan_parts.specs.Plan.{PlanParts}
use Rattle.plan_parts.specs.declared.block.Block.{Block}
use Rattle.plan_parts.specs.declared.formulas.formula.Formula.{Formula}
use Rattle.plan_parts.specs.declared.grid.Grid.{Grid}
use Rattle.rows.specs.Valued.{row_by, worths_by}
use Rattle.valuers.specs.Valuing.{rows_by}
use Rattle.rows.specs.declared.item.Valued.{Valued}
use Rattle.zone_csv.specs.Zone.{blocks_of}
use Rattle.pit_compile.specs.inner.ModelRows.{HasPlace, AreModelRows}
use Rattle.pit_compile.proofs.SentRows.{rows-counted}
use Rattle.pit_compile.specs.Rows.{files_send}
use Rattle.pit_compile.specs.inner.ValuedRows.{valued_from, valued_in, valued_rows}

-- what holds of every zone file
pub record AreZoneFiles : Type 0 where
  pub few : (grid : Grid) (zone : ℕ) (text : List ℕ) → length (blocks_of grid zone text) ≤ 1000000
  pub own : (grid : Grid) (zone : ℕ) (text : List ℕ) → zone < 64 → All (λ b. b.zone ≡ zone) (blocks_of grid zone text)

-- zone files that have few blocks each have few rows
count_from : (formulas : List Formula) (file n : ℕ) (blocks : List Block) → length (valued_from blocks formulas file n) ≡ length blocks
count_from formulas file n [] = refl
count_from formulas file n (b ∷ blocks) = let rest = count_from formulas file (n + 1) blocks in omega arith

count_there : (grid : Grid) (formulas : List Formula) → AreZoneFiles → (texts : List (List ℕ)) (n : ℕ)
    → length (valued_in texts grid formulas n) ≤ 1000000 * length texts
count_there grid formulas files [] n = omega arith
count_there grid formulas files (text ∷ texts) n =
    let rest = count_there grid formulas files texts (n + 1) in
    let mine = files.few grid n text in
    let count = count_from formulas n 0 (blocks_of grid n text) in
    let both = length-append (valued_from (blocks_of grid n text) formulas n 0) (valued_in texts grid formulas (n + 1)) in
    omega arith

-- a row as a zone file of a plan can have it
abbrev IsModelRow : PlanParts → Valued → Type 0
IsModelRow plan row =
    HasPlace row × (row.block.zone < length plan.cones) × (row.worths ≡ worths_by (formulas_of_plan plan) row.block)

file_rows : (plan : PlanParts) (file n : ℕ) (blocks : List Block) → file < length plan.cones → n + length blocks ≤ 1000000
    → All (λ b. b.zone ≡ file) blocks → All (IsModelRow plan) (valued_from blocks (formulas_of_plan plan) file n)
file_rows plan file n [] there few own = All-nil (IsModelRow plan)
file_rows plan file n (b ∷ blocks) there few own =
    let zone : b.zone ≡ file = All-head (λ b. b.zone ≡ file) b blocks own in
    All-cons (IsModelRow plan) _ (valued_from blocks (formulas_of_plan plan) file (n + 1)) (omega arith, omega arith, refl)
    (file_rows plan file (n + 1) blocks there (omega arith) (All-tail (λ b. b.zone ≡ file) b blocks own))

all_rows : (plan : PlanParts) → AreZoneFiles → (texts : List (List ℕ)) (n : ℕ) → n + length texts ≤ length plan.cones → length plan.cones ≤ 64
    → All (IsModelRow plan) (valued_in texts plan.grid (formulas_of_plan plan) n)
all_rows plan files [] n there most = All-nil (IsModelRow plan)
all_rows plan files (text ∷ texts) n there most =
    let few = files.few plan.grid n text in
    All-append (IsModelRow plan) (valued_from (blocks_of plan.grid n text) (formulas_of_plan plan) n 0)
    (valued_in texts plan.grid (formulas_of_plan plan) (n + 1))
    (file_rows plan n 0 (blocks_of plan.grid n text) (omega arith) (omega arith) (files.own plan.grid n text (omega arith)))
    (all_rows plan files texts (n + 1) (omega arith) most)

pub are_model_rows : (plan : PlanParts) (texts : List (List ℕ)) → AreZoneFiles → length texts ≡ length plan.cones → length plan.cones ≤ 64
    → AreModelRows plan (valued_rows plan texts)
are_model_rows plan texts files count most =
    let rows = valued_rows plan texts in
    let counted = count_there plan.grid (formulas_of_plan plan) files texts 0 in
    let all = all_rows plan files texts 0 (omega arith) most in
    record {
      few = omega arith;
      placed = All-weaker (IsModelRow plan) HasPlace (λ row h. h.0) rows all;
      zones = All-weaker (IsModelRow plan) (λ (row : Valued). row.block.zone < length plan.cones) (λ row h. h.1) rows all;
      valued = All-weaker (IsModelRow plan) (λ (row : Valued). row.worths ≡ worths_by (formulas_of_plan plan) row.block) (λ row h. h.2) rows all;
    }

-- the rows of what a file sends are the rows of its blocks
rows_sent : (formulas : List Formula) (file n : ℕ) (blocks : List Block)
    → rows_by formulas (sent_from file n blocks) ≡ valued_from blocks formulas file n
rows_sent formulas file n [] = refl
rows_sent formulas file n (b ∷ blocks) = ap (λ rows. row_by formulas file n b ∷ rows) (rows_sent formulas file (n + 1) blocks)

pub sent_rows : (grid : Grid) (formulas : List Formula) (n : ℕ) (texts : List (List ℕ))
    → flat_map (rows_by formulas) (files_send n grid texts) ≡ valued_in texts grid formulas n
sent_rows grid formulas n [] = refl
sent_rows grid formulas n (text ∷ texts) =
    rw (rows_sent formulas n 0 (blocks_of grid n text))
    (ap (λ rows. valued_from (blocks_of grid n text) formulas n 0 ++ rows) (sent_rows grid formulas (n + 1) texts))

-- each file sends few rows
few_sent : (file n : ℕ) (blocks : List Block) → row_count (sent_from file n blocks) ≡ length blocks
few_sent file n blocks =
    sym (rows-counted [] (sent_from file n blocks)) ∙ ap length (rows_sent [] file n blocks) ∙ count_from [] file n blocks

pub few_sents : (grid : Grid) → AreZoneFiles → (n : ℕ) (texts : List (List ℕ))
    → All (λ sent. row_count sent ≤ 1000000) (files_send n grid texts)
few_sents grid files n [] = All-nil (λ sent. row_count sent ≤ 1000000)
few_sents grid files n (text ∷ texts) =
    let mine = files.few grid n text in
    let count = few_sent n 0 (blocks_of grid n text) in
    All-cons (λ sent. row_count sent ≤ 1000000) _ (files_send (n + 1) grid texts) (omega arith) (few_sents grid files (n + 1) texts)
