-- The lines of a text of which a feed gave a prefix.
use Rattle.std.specs.Prelude.{◌≡◌, ◌≢◌, All, ℕ, ◌+◌, ◌-◌, ◌<◌, ◌≤◌, Bool, true, false, List, [], ◌∷◌, ◌++◌, length, take, Option, IfOk, IfSome, IsErrOf, IsTrue, OnErr, OnOk, Result, Ok, Err}
use Rattle.pit_units.specs.declared.or_memory.OrMemory.{OrMemory}
use Rattle.pit_units.specs.declared.or_memory.OrMemory.TheVariants.{Fault, OutOfMemory}
use Rattle.devices.specs.feeds.Feed.{put_back}
use Rattle.devices.specs.feeds.FeedState.{FeedState}
use Rattle.devices.specs.feeds.FeedSteps.{remaining_after}
use Rattle.devices.specs.declared.feeds.slurp.SlurpFault.{SlurpFault}
use Rattle.devices.specs.declared.feeds.slurp.SlurpFault.TheVariants as slurp
use Rattle.text_lines.specs.Reading.{read_lines}
use Rattle.text_lines.specs.TextLines.{Line, end_of, lines_in, lines_of, numbered_lines, without_mark}
use Rattle.text_lines.specs.declared.text_fault.LineFault.{LineFault}
use Rattle.text_lines.specs.declared.text_fault.TextKind.{TextKind}

pub record WaitingView : Type 0 where
  -- the number of the next line
  pub number : ℕ
  -- whether a line was read, so that no byte order mark can follow
  pub begun : Bool
  -- the bytes that were given, and whose lines were not read
  pub held : List ℕ

-- before the first byte
abbrev pub none_held : WaitingView
none_held = record { number = 1; begun = false; held = [] }

-- bytes that may start with a mark, if no line was read
abbrev pub unmarked : Bool → List ℕ → List ℕ
unmarked true bytes = bytes
unmarked false bytes = without_mark bytes

-- the lines that are still to be read, if these bytes follow the held bytes
unfoldable pub lines_to_come : WaitingView → List ℕ → List Line
lines_to_come w more = numbered_lines w.number (lines_of (unmarked w.begun (w.held ++ more)))

-- the number of the line after the last of these lines
unfoldable pub end_to_come : WaitingView → List ℕ → ℕ
end_to_come w more = w.number + length (lines_of (unmarked w.begun (w.held ++ more)))

-- the lines of the first held bytes, and the number of the line after the last of them
abbrev pub leading_lines : WaitingView → ℕ → List Line
leading_lines w count = numbered_lines w.number (lines_of (unmarked w.begun (take count w.held)))

abbrev pub leading_end : WaitingView → ℕ → ℕ
leading_end w count = w.number + length (lines_of (unmarked w.begun (take count w.held)))

-- bytes whose last one ends a line
pub record AreWholeLines (chunk : List ℕ) : Type 0 where
  pub prefix : List ℕ
  pub ends : chunk ≡ prefix ++ 10 ∷ []

-- none of these bytes ends a line
abbrev pub NoLineEnd : List ℕ → Type 0
NoLineEnd bytes = All (λ b. b ≢ 10) bytes

-- a feed gave n bytes
pub record Gave (n : ℕ) (remaining_old remaining_new : Option (List ℕ)) : Type 0 where
  pub bytes : List ℕ
  pub count : length bytes ≡ n
  pub remaining : remaining_old ≡ put_back bytes remaining_new

-- a feed gave n bytes, which are held after the others
pub record Held (n : ℕ) (old new : WaitingView) (remaining_old remaining_new : Option (List ℕ)) : Type 0 where
  pub bytes : List ℕ
  pub count : length bytes ≡ n
  pub number : new.number ≡ old.number
  pub begun : new.begun ≡ old.begun
  pub held : new.held ≡ old.held ++ bytes
  pub remaining : remaining_old ≡ put_back bytes remaining_new

-- the effect of one pull on a feed, by its result, which is the number of bytes given, unless memory for the bytes was refused before
pub record IsPulledOnce (old new : FeedState) (answer : Result ℕ SlurpFault) : Type 0 where
  pub end : IfOk answer (λ n. n ≡ 0 → IfSome old.remaining (λ bytes. bytes ≡ []))
  pub counts : IfOk answer (λ n. new.given ≡ old.given + n)
  pub works : OnOk answer (new.failures ≡ old.failures)
  -- the reason for each error; nothing was given then
  pub refused_given : OnErr answer (new.given ≡ old.given)
  pub failed : IsErrOf answer slurp.FeedFailed → new.failures ≡ old.failures + 1
  pub memory : IsErrOf answer slurp.OutOfMemory → new.failures ≡ old.failures
  pub not_long : answer ≢ Err slurp.TooLong
  pub sure : IsTrue old.is_sure → answer ≢ Err slurp.FeedFailed
  -- for every result
  pub onward : old.given ≤ new.given
  pub stands : new.remaining ≡ remaining_after (new.given - old.given) old.remaining
  pub stays_sure : IsTrue old.is_sure → IsTrue new.is_sure

-- a feed gave fewer than `most` bytes, and has none left, as far as it reports them
pub record GaveAll (most : ℕ) (old new : FeedState) : Type 0 where
  pub bytes : List ℕ
  pub count : length bytes ≡ new.given - old.given
  pub few : length bytes < most
  pub remaining : old.remaining ≡ put_back bytes new.remaining
  pub none : IfSome new.remaining (λ rest. rest ≡ [])

-- lines of the held bytes were read: whatever bytes follow, the remaining lines of the text continue from this state
pub record Took {S : Type 0} (admit : S → List ℕ → Result S TextKind) (before after : S) (old new : WaitingView) : Type 0 where
  pub reads : (more : List ℕ) → read_lines admit before (lines_to_come old more) ≡ read_lines admit after (lines_to_come new more)
  pub ends : (more : List ℕ) → end_to_come old more ≡ end_to_come new more
  pub few : new.number + length new.held ≤ old.number + length old.held
  pub on : old.number ≤ new.number

-- a line of the held bytes is invalid, whatever bytes follow
abbrev pub HasInvalidLine : {S : Type 0} → (S → List ℕ → Result S TextKind) → S → WaitingView → LineFault → Type 0
HasInvalidLine admit state w fault = (more : List ℕ) → read_lines admit state (lines_to_come w more) ≡ Err fault

-- the lines that have ended were read; or one of them is invalid, or memory was refused
abbrev pub TakesEnded : {S : Type 0} → (S → List ℕ → Result S TextKind) → S → S → WaitingView → WaitingView
    → Result (Unit {0}) (OrMemory LineFault) → Type 0
TakesEnded admit before after old new (Ok _) = Took admit before after old new
TakesEnded admit before after old new (Err (Fault fault)) = HasInvalidLine admit before old fault
TakesEnded admit before after old new (Err OutOfMemory) = Unit {0}

-- the progress of reading a feed that may still give `rest` of `most` bytes: whatever bytes follow, the lines to come continue from this
-- state
pub record SoFar {S : Type 0} (admit : S → List ℕ → Result S TextKind) (before now : S) (w : WaitingView) (rest most : ℕ)
    (remaining_old remaining_new : Option (List ℕ)) : Type 0 where
  pub text : List ℕ
  pub count : length text + rest ≡ most
  pub gave : remaining_old ≡ put_back text remaining_new
  pub reads : (more : List ℕ) → read_lines admit before (lines_in (text ++ more)) ≡ read_lines admit now (lines_to_come w more)
  pub ends : (more : List ℕ) → end_of (text ++ more) ≡ end_to_come w more
  pub few : w.number + length w.held ≤ length text + 1
  pub first : 1 ≤ w.number
