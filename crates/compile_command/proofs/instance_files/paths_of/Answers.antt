use Rattle.std.proofs.Common.{Err, Ok, Result, rules}
use Rattle.std.specs.Prelude.{IfOk}
use Rattle.compile_command.proofs.instance_files.paths_of.Goals as goal

where_ok : {A E : Type 0} {P Q : A → Type 0} → ((a : A) → P a → Q a) → (answer : Result A E) → IfOk answer P → IfOk answer Q
where_ok f (Ok a) h = f a h
where_ok f (Err fault) h = _

pub returns : goal.returns
returns c = where_ok (λ paths made name. let h = made name in search rules) c.each.result c.each.ensures
