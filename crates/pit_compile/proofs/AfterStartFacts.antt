-- Which refusals come behind the start of the threads.
use Rattle.std.proofs.Common.{◌≡◌, ℕ, ◌+◌, List, [], ◌∷◌, Option, Some, None, Ok, Err, refl, subst}
use Rattle.std.specs.Option.{option_or}
use Rattle.rows.specs.declared.item.Valued.{Valued}
use Rattle.devices.specs.declared.feeds.fed_fault.FedFault.TheVariants.{Unread, Text}
use Rattle.devices.specs.declared.feeds.slurp.SlurpFault.TheVariants as slurp
use Rattle.run_threads.specs.Reading.{ReadAnswer}
use Rattle.pit_compile.specs.inner.AfterStart.{IsAfterStart}
use Rattle.pit_compile.specs.inner.ReadAnswers.{refusal_in, refusal_of}
use Rattle.pit_compile.specs.inner.Repeats.{IsRepeat}
use Rattle.refusals.specs.declared.refusal.Refusal.{Refusal}
use Rattle.refusals.specs.declared.refusal.Refusal.TheVariants.{Settings, NoThread, FeedFailed, TooLong, Row, Same, SinkFailed, OutOfMemory}

after_reading : (file : ℕ) (answer : ReadAnswer) (refusal : Refusal) → refusal_of file answer ≡ Some refusal → IsAfterStart refusal
after_reading file (Ok done) refusal e = absurd cc
after_reading file (Err (Text fault)) refusal e = let is : Row file fault ≡ refusal = cc in subst IsAfterStart is tt
after_reading file (Err (Unread slurp.FeedFailed)) refusal e = let is : FeedFailed file ≡ refusal = cc in subst IsAfterStart is tt
after_reading file (Err (Unread slurp.TooLong)) refusal e = let is : TooLong file ≡ refusal = cc in subst IsAfterStart is tt
after_reading file (Err (Unread slurp.OutOfMemory)) refusal e = let is : OutOfMemory ≡ refusal = cc in subst IsAfterStart is tt

-- the first of two, or else the second
after_either : (own later : Option Refusal) (refusal : Refusal) → ((r : Refusal) → own ≡ Some r → IsAfterStart r)
    → (later ≡ Some refusal → IsAfterStart refusal) → option_or own later ≡ Some refusal → IsAfterStart refusal
after_either None later refusal first second e = second e
after_either (Some r) later refusal first second e = let is : r ≡ refusal = cc in subst IsAfterStart is (first r refl)

-- readers answer once they run
pub read_after : (n : ℕ) (answers : List ReadAnswer) (refusal : Refusal) → refusal_in n answers ≡ Some refusal
    → IsAfterStart refusal
read_after n [] refusal e = absurd cc
read_after n (answer ∷ answers) refusal e =
    after_either (refusal_of n answer) (refusal_in (n + 1) answers) refusal (λ r is. after_reading n answer r is)
    (λ later. read_after (n + 1) answers refusal later) e

pub repeat_after : (rows : List Valued) (refusal : Refusal) → IsRepeat rows refusal → IsAfterStart refusal
repeat_after rows (Same first again) is = tt
repeat_after rows OutOfMemory is = tt
repeat_after rows (Settings kind) is = absurd is
repeat_after rows NoThread is = absurd is
repeat_after rows (FeedFailed file) is = absurd is
repeat_after rows (TooLong file) is = absurd is
repeat_after rows (Row file fault) is = absurd is
repeat_after rows (SinkFailed which) is = absurd is
