-- The result of a reader after it returned its end, its fault or `OutOfMemory`.
use Rattle.std.proofs.Common.{◌≡◌, ◌∙◌, [], Option, None, Some, Result, Ok, Err, refl, subst, sym}
use Rattle.plan_parts.specs.declared.block.Block.{Block}
use Rattle.zone_csv.specs.ZoneReaderView.{Ahead, Answers, NoMemory, Reported, ZoneReaderView, answer_of, last_answer, rest_of}
use Rattle.zone_csv.specs.declared.row_fault.RowFault.{RowFault}
use Rattle.pit_units.specs.declared.or_memory.OrMemory.{OrMemory}
use Rattle.pit_units.specs.declared.or_memory.OrMemory.TheVariants.{Fault, OutOfMemory}

reported_again : (last : Option RowFault) (again : Result (Option Block) (OrMemory RowFault)) (after : ZoneReaderView) → Answers (Reported last) again after
    → again ≡ last_answer last
reported_again last (Err OutOfMemory) after h = absurd h.0
reported_again last (Ok found) after h = h.0
reported_again last (Err (Fault fault)) after h = h.0

refused_again : (again : Result (Option Block) (OrMemory RowFault)) (after : ZoneReaderView) → Answers NoMemory again after → again ≡ Err OutOfMemory
refused_again (Err OutOfMemory) after h = refl
refused_again (Ok found) after h = h.0
refused_again (Err (Fault fault)) after h = h.0

-- the result after the last block, which is the end or a fault
last_again : (old then after : ZoneReaderView) (last : Option RowFault) (again : Result (Option Block) (OrMemory RowFault))
    → (last_answer last ≡ answer_of old) × (then ≡ rest_of old) → Answers then again after → again ≡ last_answer last
last_again (Ahead [] same) then after last again h next = reported_again same again after (subst (λ v. Answers v again after) h.1 next) ∙ sym h.0
last_again (Reported same) then after last again h next = reported_again same again after (subst (λ v. Answers v again after) h.1 next) ∙ sym h.0
last_again old then after None again h next = absurd (cc h.0)
last_again old then after (Some fault) again h next = absurd (cc h.0)

pub ended_again : (old then after : ZoneReaderView) (again : Result (Option Block) (OrMemory RowFault)) → Answers old (Ok None) then
    → Answers then again after → again ≡ Ok None
ended_again old then after again h next = last_again old then after None again h next

pub fault_again : (old then after : ZoneReaderView) (fault : OrMemory RowFault) (again : Result (Option Block) (OrMemory RowFault)) → Answers old (Err fault) then
    → Answers then again after → again ≡ Err fault
fault_again old then after (Fault fault) again h next = last_again old then after (Some fault) again h next
fault_again old then after OutOfMemory again h next = refused_again again after (subst (λ v. Answers v again after) h.1 next)
