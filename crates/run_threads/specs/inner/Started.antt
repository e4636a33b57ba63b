-- The starts of threads, step by step.
use Rattle.std.specs.Prelude.{◌≡◌, ℕ, ◌+◌, ◌-◌, ◌<◌, ◌≤◌, Bool, true, false, map, vec_len, IsFalse, IsTrue, IfOk, IfErr, Result}
use Rattle.std.specs.List.{All}
use Rattle.std.specs.Global.{Vec}
use Rattle.lane.specs.Ends.{Lane}
use Rattle.plan_parts.specs.Plan.{PlanParts}
use Rattle.run_threads.specs.Starts.{StartsView, AreSettled, AreSpent, AreTooFew, IsInOrder}

-- after a start that succeeded, or was refused
abbrev pub after_start : Bool → StartsView → StartsView
after_start true starts = record starts { spent = starts.spent + 1 }
after_start false starts = record starts { refused = true }

-- after the start of a reader that succeeded, or was refused
abbrev pub after_reader : Bool → StartsView → StartsView
after_reader true starts = record starts { spent = starts.spent + 1; readers = starts.readers + 1 }
after_reader false starts = record starts { refused = true }

-- after `count` more starts; `refused` says whether a further start was refused
abbrev pub after_starts : ℕ → Bool → StartsView → StartsView
after_starts count refused starts = record starts { spent = starts.spent + count; refused = refused }

-- the same for readers
abbrev pub after_readers : ℕ → Bool → StartsView → StartsView
after_readers count refused starts = record starts { spent = starts.spent + count; readers = starts.readers + count; refused = refused }

-- after a join
abbrev pub after_join : StartsView → StartsView
after_join starts = record starts { joined = starts.joined + 1 }

-- after `count` joins
abbrev pub after_joins : ℕ → StartsView → StartsView
after_joins count starts = record starts { joined = starts.joined + count }

-- how many valuers were started
abbrev pub valuers_in : StartsView → ℕ
valuers_in starts = starts.spent - starts.readers

-- after a mark was sent to each valuer that was started
abbrev pub after_marks : StartsView → StartsView
after_marks starts = record starts { marks = valuers_in starts }

-- every reader that was started was joined, and no mark was sent yet
pub record MayMark (starts : StartsView) : Type 0 where
  pub unmarked : starts.marks ≡ 0
  pub readers : starts.joined ≡ starts.readers

-- threads started one after the other under one plan, each with one of these ends of the lane, until a start was refused
pub record AreStarted {H E : Type 0} (end : H → E) (lane : E → Lane) (plan : H → PlanParts) (own : PlanParts)
    (given : Vec E) (handles : Vec H) (refused : Bool) : Type 0 where
  pub ends : IsFalse refused → map end handles.items ≡ given.items
  pub lanes : (one : Lane) → All (λ e. lane e ≡ one) given.items → All (λ h. lane (end h) ≡ one) handles.items
  pub plans : All (λ h. plan h ≡ own) handles.items
  pub count : vec_len handles ≤ vec_len given
  pub short : IsTrue refused → vec_len handles < vec_len given
  pub whole : IsFalse refused → vec_len handles ≡ vec_len given

-- the starts before and after a scope with one thread for each valuer and for each file, for what it returns
pub record StartsInScope {A B : Type 0} (valuers files : ℕ) (old new : StartsView) (answer : Result A B) : Type 0 where
  pub started : IfOk answer (λ _. AreSpent (valuers + files) new)
  pub refused : IfErr answer (λ _. AreTooFew (valuers + files) new)
  pub order : IsInOrder valuers new
  pub settled : AreSettled old new
