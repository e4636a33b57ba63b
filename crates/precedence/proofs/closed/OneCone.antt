-- Lists of predecessors are closed if all zones have the same cone.
use Rattle.std.proofs.Common.{◌≡◌, ℕ, ◌-◌, ◌<◌, ◌≤◌, ◌&&◌, zero, suc, Bool, true, List, [], ◌∷◌, Some, All, length, get_or, slice_get, nat_le, nat_lt, sym, ap, ◌∙◌, arith, ⊎_elim}
use Rattle.std.proofs.lemmas.Bool.{and_parts, cases_lt, le-leb, leb-true, lt-ltb, ltb-true}
use Rattle.std.proofs.lemmas.List.{get_or-map, length-map}
use Rattle.std.proofs.lemmas.Option.{slice_get-get_or}
use Rattle.plan_parts.specs.Plan.{PlanParts}
use Rattle.plan_parts.specs.PlanInvariant.{IsCone}
use Rattle.plan_parts.specs.declared.block.Block.{Block}
use Rattle.plan_parts.specs.declared.cone.Cone.{Cone}
use Rattle.precedence.specs.Cone.{above, is_above, positions_where, preds}
use Rattle.precedence.specs.Zones.{HasZones}
use Rattle.precedence.specs.IdRanges.{is_in}
use Rattle.precedence.proofs.PositionsWhere.{exact_nowhere, exact_where}
use Rattle.precedence.specs.Closed.{AreClosed, HasArc, HasPath}
use Rattle.precedence.proofs.Members.{contains_true, in_list, true_contains}
use Rattle.precedence.proofs.closed.Slopes.{inside_through, is_inside}

module _ (plan : PlanParts) (blocks : List Block) (cone : Cone) (is : IsCone cone) (one : All (λ (own : Cone). own ≡ cone) plan.cones)
    (zones : HasZones plan blocks) (any : Block) where
  abbrev lists : List (List ℕ)
  lists = preds plan blocks

  abbrev at : ℕ → Block
  at b = get_or blocks b any

  abbrev above_in : Block → Block → Bool
  above_in low high = is_above plan.grid cone low high

  long : length lists ≡ length blocks
  long = length-map blocks (λ (low : Block). above plan.grid (slice_get plan.cones low.zone) blocks low)

  list_is : (b : ℕ) → b < length blocks → get_or lists b [] ≡ positions_where (above_in (at b)) 0 blocks
  list_is b lt =
      let zone = (at b).zone in
      let there : zone < length plan.cones = zones b any lt in
      get_or-map (λ (low : Block). above plan.grid (slice_get plan.cones low.zone) blocks low) blocks b any [] lt
      ∙ ap (λ o. above plan.grid o blocks (at b)) (slice_get-get_or plan.cones zone cone there ∙ ap (λ (c : Cone). Some c) (one zone cone there))

  -- an arc leads from one block to another above it
  record IsAbove (b c : ℕ) : Type 0 where
    low : b < length blocks
    high : c < length blocks
    higher : (at b).z < (at c).z
    near : (at c).z - (at b).z ≤ cone.k
    inside : is_inside plan.grid cone is (at b) (at c) ≡ true

  exact : (b c : ℕ) → HasArc lists b c → IsAbove b c
  exact b c has =
      let lt : b < length blocks = omega (arith, in_list lists b c has, long) in
      let in' : is_in (positions_where (above_in (at b)) 0 blocks) c ≡ true = ap (λ list. is_in list c) (sym (list_is b lt)) ∙ contains_true (get_or lists b []) c has in
      ⊎_elim
      (λ within.
      let yes : above_in (at b) (at c) ≡ true = sym (exact_where (above_in (at b)) c blocks any within) ∙ in' in
      let first = and_parts (nat_lt (at b).z (at c).z) _ yes in
      let second = and_parts (nat_le ((at c).z - (at b).z) cone.k) _ first.1 in
      record { low = lt; high = within; higher = ltb-true _ _ first.0; near = leb-true _ _ second.0; inside = second.1 })
      (λ past. absurd (
      let none = exact_nowhere (above_in (at b)) c blocks any past in
      let bad : ⊥ = cc in bad))
      (cases_lt c (length blocks))

  made : (b c : ℕ) → IsAbove b c → HasArc lists b c
  made b c is_above_it =
      let up : nat_lt (at b).z (at c).z ≡ true = lt-ltb _ _ is_above_it.higher in
      let near : nat_le ((at c).z - (at b).z) cone.k ≡ true = le-leb _ _ is_above_it.near in
      let yes : above_in (at b) (at c) ≡ true = λ j. up j && (near j && is_above_it.inside j) in
      true_contains (get_or lists b []) c
      (ap (λ list. is_in list c) (list_is b is_above_it.low) ∙ exact_where (above_in (at b)) c blocks any is_above_it.high ∙ yes)

  -- along a path, the last block is inside the slopes above the first
  record IsFarAbove (b c : ℕ) : Type 0 where
    low : b < length blocks
    high : c < length blocks
    higher : (at b).z < (at c).z
    inside : is_inside plan.grid cone is (at b) (at c) ≡ true

  along_path : (n b c : ℕ) → HasPath lists n b c → IsFarAbove b c
  along_path zero b c arc = let a = exact b c arc in record { low = a.low; high = a.high; higher = a.higher; inside = a.inside }
  along_path (suc n) b c path =
      let first = exact b path.0 path.1 in
      let rest = along_path n path.0 c path.2 in
      let up = first.higher in
      let more = rest.higher in
      record {
        low = first.low;
        high = rest.high;
        higher = omega arith;
        inside = inside_through plan.grid cone is (at b) (at path.0) (at c) (omega arith) (omega arith) first.inside rest.inside;
      }

  pub closed_at : AreClosed lists
  closed_at b c d n all own path =
      let whole = exact b c all in
      let first = exact b d own in
      let rest = along_path n d c path in
      let up = first.higher in
      let reach = whole.near in
      made d c (record { low = rest.low; high = rest.high; higher = rest.higher; near = omega arith; inside = rest.inside })

pub closed : (plan : PlanParts) (blocks : List Block) (cone : Cone) → IsCone cone → All (λ (own : Cone). own ≡ cone) plan.cones
    → HasZones plan blocks → AreClosed (preds plan blocks)
closed plan [] cone is one zones b c d n all own path = absurd (let lt = in_list (preds plan []) b c all in omega arith)
closed plan (x ∷ xs) cone is one zones b c d n all own path = closed_at plan (x ∷ xs) cone is one zones x b c d n all own path
