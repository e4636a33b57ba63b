use Rattle.plan_parts.proofs.Names.{not_text}
use Rattle.plan_parts.proofs.name.Name.read.Goals as goal

-- bytes that are no text are no NAME
pub returns-in_default : goal.returns-in_default
returns-in_default c = not_text c.args.bytes.now c.in_default.ensures.cases.0
