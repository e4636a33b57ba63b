-- Reads a text while a feed gives it: each step keeps the lines read and the lines to come.
use Rattle.std.proofs.Common.{◌≡◌, ◌≢◌, ℕ, ◌+◌, ◌-◌, ◌<◌, ◌≤◌, IsTrue, true, List, [], ◌++◌, length, take, drop, refl, sym, ap, subst, ◌∙◌, arith, Result, Ok, Err, Option, Some, None, IfSome}
use Rattle.std.proofs.lemmas.List.{take_all, append_assoc, append-nil, length-append, length-take-le, length-drop, take-append-drop, nil_from_length}
use Rattle.devices.specs.feeds.Fed.{IfFed, fed_fault}
use Rattle.devices.specs.feeds.Feed.{put_back}
use Rattle.devices.specs.feeds.FeedState.{FeedState}
use Rattle.devices.specs.feeds.FeedSteps.{remaining_after}
use Rattle.devices.specs.feeds.ReadWhole.{FailsAsFed, ReadsFeed}
use Rattle.devices.specs.declared.feeds.slurp.SlurpFault.{SlurpFault}
use Rattle.devices.specs.declared.feeds.slurp.SlurpFault.TheVariants.{FeedFailed}
use Rattle.devices.proofs.Giving.{put_back-append}
use Rattle.pit_units.specs.declared.or_memory.OrMemory.{OrMemory}
use Rattle.pit_units.specs.declared.or_memory.OrMemory.TheVariants.{Fault, OutOfMemory}
use Rattle.pit_units.specs.Steps.{◌>>=◌}
use Rattle.text_lines.specs.Fed.{IsFedReading, IsTextOf}
use Rattle.text_lines.specs.Reading.{Leaves, read_lines}
use Rattle.text_lines.specs.TextLines.{end_of, lines_in, lines_of, numbered_lines}
use Rattle.text_lines.specs.declared.text_fault.LineFault.{LineFault}
use Rattle.text_lines.specs.declared.text_fault.TextKind.{TextKind}
use Rattle.text_lines.specs.inner.Waiting.{AreWholeLines, Gave, GaveAll, HasInvalidLine, Held, SoFar, TakesEnded, Took, WaitingView, end_to_come, leading_end, leading_lines, lines_to_come, none_held, unmarked}
use Rattle.text_lines.proofs.ChunkFacts.{lines_append, lines_few, numbered_append, read_append, unmarked_append, unmarked_short, unmarked_whole}

pub put_nothing : (remaining : Option (List ℕ)) → remaining ≡ put_back [] remaining
put_nothing None = refl
put_nothing (Some bytes) = refl

-- a feed that gave nothing and has nothing left had nothing left before
pub none_after : (old new : Option (List ℕ)) (bytes : List ℕ) → old ≡ put_back bytes new → length bytes ≡ 0 → IfSome old (λ all. all ≡ [])
    → IfSome new (λ rest. rest ≡ [])
none_after old None bytes gave count none = tt
none_after None (Some rest) bytes gave count none = absurd cc
none_after (Some all) (Some rest) bytes gave count none =
    let nothing : bytes ≡ [] = nil_from_length bytes count in
    let same : Some all ≡ Some (bytes ++ rest) = gave in
    let whole : all ≡ bytes ++ rest = cc in
    ap (λ prefix. prefix ++ rest) (sym nothing) ∙ sym whole ∙ none

-- the text of a feed that has nothing left
text_reported : (old new : Option (List ℕ)) (text : List ℕ) → old ≡ put_back text new → IfSome new (λ rest. rest ≡ [])
    → IfSome old (λ bytes. text ≡ bytes)
text_reported None new text gave none = tt
text_reported (Some all) None text gave none = absurd cc
text_reported (Some all) (Some rest) text gave none =
    let same : Some all ≡ Some (text ++ rest) = gave in
    let whole : all ≡ text ++ rest = cc in
    sym (whole ∙ ap (λ more. text ++ more) none ∙ append-nil text)

-- more bytes were given than the limit
pub long_reported : (old new : Option (List ℕ)) (text : List ℕ) (limit : ℕ) → old ≡ put_back text new → limit < length text
    → IfSome old (λ bytes. limit < length bytes)
long_reported None new text limit gave long = tt
long_reported (Some all) None text limit gave long = absurd cc
long_reported (Some all) (Some rest) text limit gave long =
    let same : Some all ≡ Some (text ++ rest) = gave in
    let whole : all ≡ text ++ rest = cc in
    rw whole (rw (length-append text rest) (omega (arith, long)))

short_reported : (old new : Option (List ℕ)) (text : List ℕ) (limit : ℕ) → old ≡ put_back text new → IfSome new (λ rest. rest ≡ [])
    → length text ≤ limit → IfSome old (λ bytes. length bytes ≤ limit)
short_reported None new text limit gave none short = tt
short_reported (Some all) new text limit gave none short = rw (sym (text_reported (Some all) new text gave none)) short

-- too many bytes are left after a prefix
long_after : (old mid : Option (List ℕ)) (prefix : List ℕ) (limit more : ℕ) → old ≡ put_back prefix mid → length prefix + more ≡ limit
    → IfSome mid (λ bytes. more < length bytes) → IfSome old (λ bytes. limit < length bytes)
long_after None mid prefix limit more gave all long = tt
long_after (Some whole) None prefix limit more gave all long = absurd cc
long_after (Some whole) (Some rest) prefix limit more gave all long =
    let same : Some whole ≡ Some (prefix ++ rest) = gave in
    let joined : whole ≡ prefix ++ rest = cc in
    rw joined (rw (length-append prefix rest) (omega (arith, all, long)))

-- an error in the remainder of a feed is an error of the complete feed, which gave this prefix before
pub fails_after : (old mid new : FeedState) (prefix : List ℕ) (limit more : ℕ) (fault : SlurpFault)
    → old.remaining ≡ put_back prefix mid.remaining → length prefix + more ≡ limit → mid.given ≡ old.given + length prefix
    → mid.failures ≡ old.failures → FailsAsFed more mid new fault → FailsAsFed limit old new fault
fails_after old mid new prefix limit more fault gave all counts works fails = record {
  failed = λ e. fails.failed e ∙ ap (λ n. n + 1) works;
  failed_first = λ e. omega (arith, fails.failed_first e, all, counts);
  long = λ e. long_after old.remaining mid.remaining prefix limit more gave all (fails.long e);
  long_counts = λ e. omega (arith, fails.long_counts e, all, counts);
  long_works = λ e. fails.long_works e ∙ works;
  memory_works = λ e. fails.memory_works e ∙ works;
  memory_first = λ e. omega (arith, fails.memory_first e, all, counts);
}

-- a feed with an error
pub refused_text : {A : Type 0} (limit : ℕ) (old new : FeedState) (answer : Result A SlurpFault) (fault : SlurpFault) → answer ≡ Err fault
    → FailsAsFed limit old new fault → (IsTrue old.is_sure → fault ≢ FeedFailed) → old.given ≤ new.given
    → new.given ≤ old.given + (limit + 1) → new.remaining ≡ remaining_after (new.given - old.given) old.remaining
    → (IsTrue old.is_sure → IsTrue new.is_sure) → ReadsFeed limit old new answer
refused_text {A} limit old new answer fault is fails sure onward reads stands stays =
    subst (ReadsFeed limit old new) (sym is) (record {
      used_up = tt;
      within = tt;
      works = tt;
      refused = fails;
      sure = λ s e. sure s (same e);
      onward = onward;
      reads = reads;
      stands = stands;
      stays_sure = stays;
    })
  where
    same : ◌≡◌ {A = Result A SlurpFault} (Err fault) (Err FeedFailed) → fault ≡ FeedFailed
    same e = cc

-- a text that was dropped
pub passed : (limit : ℕ) (old new : FeedState) → GaveAll (limit + 1) old new
    → IfSome old.remaining (λ bytes. length bytes ≤ limit) × IfSome new.remaining (λ bytes. bytes ≡ [])
passed limit old new all = (
  short_reported old.remaining new.remaining all.bytes limit all.remaining all.none (omega (arith, all.few)),
  all.none,
)

pub passed_text : (limit : ℕ) (old new : FeedState) → GaveAll (limit + 1) old new → (text : List ℕ) × IsTextOf limit old new text
passed_text limit old new all = (
  all.bytes,
  record { reported = text_reported old.remaining new.remaining all.bytes all.remaining all.none; short = omega (arith, all.few); whole = all.count },
)

pub too_many : (limit : ℕ) (old new : Option (List ℕ)) → Gave (limit + 1) old new → IfSome old (λ bytes. limit < length bytes)
too_many limit old new gave = long_reported old new gave.bytes limit gave.remaining (omega (arith, gave.count))

-- before the first byte
pub none_yet : {S : Type 0} (admit : S → List ℕ → Result S TextKind) (state : S) (most : ℕ) (remaining : Option (List ℕ))
    → SoFar admit state state none_held most most remaining remaining
unfolding lines_to_come end_to_come
none_yet admit state most remaining = record {
  text = [];
  count = omega arith;
  gave = put_nothing remaining;
  reads = λ more. refl;
  ends = λ more. omega arith;
  few = omega arith;
  first = omega arith;
}

come_same : (w v : WaitingView) (bytes more : List ℕ) → v.number ≡ w.number → v.begun ≡ w.begun → v.held ≡ w.held ++ bytes
    → lines_to_come w (bytes ++ more) ≡ lines_to_come v more
unfolding lines_to_come
come_same w v bytes more number begun held =
    rw (number, begun, held, append_assoc w.held bytes more) refl

end_same : (w v : WaitingView) (bytes more : List ℕ) → v.number ≡ w.number → v.begun ≡ w.begun → v.held ≡ w.held ++ bytes
    → end_to_come w (bytes ++ more) ≡ end_to_come v more
unfolding end_to_come
end_same w v bytes more number begun held =
    rw (number, begun, held, append_assoc w.held bytes more) refl

-- a pull
pub held_more : {S : Type 0} (admit : S → List ℕ → Result S TextKind) (before now : S) (w v : WaitingView) (rest next n most : ℕ)
    (old remaining new : Option (List ℕ)) → SoFar admit before now w rest most old remaining → Held n w v remaining new → next + n ≡ rest
    → SoFar admit before now v next most old new
held_more admit before now w v rest next n most old remaining new so held fewer = record {
  text = so.text ++ held.bytes;
  count = rw (length-append so.text held.bytes) (omega (arith, so.count, held.count, fewer));
  gave = so.gave ∙ ap (put_back so.text) held.remaining ∙ put_back-append so.text held.bytes new;
  reads = λ more.
      ap (λ bytes. read_lines admit before (lines_in bytes)) (append_assoc so.text held.bytes more) ∙ so.reads (held.bytes ++ more)
      ∙ ap (read_lines admit now) (come_same w v held.bytes more held.number held.begun held.held);
  ends = λ more.
      ap end_of (append_assoc so.text held.bytes more) ∙ so.ends (held.bytes ++ more)
      ∙ end_same w v held.bytes more held.number held.begun held.held;
  few = rw (length-append so.text held.bytes, held.held, length-append w.held held.bytes, held.number) (omega (arith, so.few));
  first = rw held.number so.first;
}

-- lines that were read
pub took_more : {S : Type 0} (admit : S → List ℕ → Result S TextKind) (before now after : S) (w v : WaitingView) (rest most : ℕ)
    (old new : Option (List ℕ)) → SoFar admit before now w rest most old new → Took admit now after w v
    → SoFar admit before after v rest most old new
took_more admit before now after w v rest most old new so took = record {
  text = so.text;
  count = so.count;
  gave = so.gave;
  reads = λ more. so.reads more ∙ took.reads more;
  ends = λ more. so.ends more ∙ took.ends more;
  few = omega (arith, so.few, took.few);
  first = omega (arith, so.first, took.on);
}

-- the lines of a part, followed by the lines of the bytes to come
come_after : (w : WaitingView) (count : ℕ) (more : List ℕ) → AreWholeLines (take count w.held)
    → lines_of (unmarked w.begun (w.held ++ more))
    ≡ lines_of (unmarked w.begun (take count w.held)) ++ lines_of (drop count w.held ++ more)
come_after w count more whole =
    let chunk = take count w.held in
    let cut : w.held ++ more ≡ chunk ++ (drop count w.held ++ more) =
    ap (λ bytes. bytes ++ more) (sym (take-append-drop count w.held)) ∙ append_assoc chunk (drop count w.held) more in
    ap (λ bytes. lines_of (unmarked w.begun bytes)) cut
    ∙ ap lines_of (unmarked_append w.begun chunk (drop count w.held ++ more) whole)
    ∙ lines_append (unmarked w.begun chunk) (drop count w.held ++ more) (unmarked_whole w.begun chunk whole)

numbered_after : (w v : WaitingView) (count : ℕ) (more : List ℕ) → AreWholeLines (take count w.held)
    → v.number ≡ leading_end w count → v.begun ≡ true → v.held ≡ drop count w.held
    → lines_to_come w more ≡ leading_lines w count ++ lines_to_come v more
unfolding lines_to_come
numbered_after w v count more whole number begun held =
    ap (numbered_lines w.number) (come_after w count more whole)
    ∙ numbered_append w.number (lines_of (unmarked w.begun (take count w.held))) (lines_of (drop count w.held ++ more))
    ∙ rw (number, begun, held) refl

pub took : {S : Type 0} (admit : S → List ℕ → Result S TextKind) (before after : S) (w v : WaitingView) (count : ℕ)
    → count ≤ length w.held → AreWholeLines (take count w.held)
    → read_lines admit before (leading_lines w count) ≡ Ok after
    → v.number ≡ leading_end w count → v.begun ≡ true → v.held ≡ drop count w.held
    → Took admit before after w v
unfolding end_to_come
took admit before after w v count within whole read number begun held = record {
  reads = λ more.
      ap (read_lines admit before) (numbered_after w v count more whole number begun held)
      ∙ read_append admit before (leading_lines w count) (lines_to_come v more)
      ∙ ap (λ r. r >>= λ next. read_lines admit next (lines_to_come v more)) read;
  ends = λ more.
      let lines = lines_of (unmarked w.begun (take count w.held)) in
      ap (λ all. w.number + length all) (come_after w count more whole)
      ∙ ap (λ n. w.number + n) (length-append lines (lines_of (drop count w.held ++ more)))
      ∙ rw (number, begun, held) (omega arith);
  few =
      let size : length (take count w.held) ≡ count = length-take-le count w.held within in
      let following : length v.held + count ≡ length w.held = rw (held, length-drop count w.held) (omega (arith, within)) in
      omega (arith, number, following, size, lines_few (unmarked w.begun (take count w.held)), unmarked_short w.begun (take count w.held));
  on = omega (arith, number);
}

pub invalid : {S : Type 0} (admit : S → List ℕ → Result S TextKind) (before : S) (w : WaitingView) (count : ℕ) (fault : LineFault)
    → AreWholeLines (take count w.held)
    → read_lines admit before (leading_lines w count) ≡ Err fault → HasInvalidLine admit before w fault
invalid admit before w count fault whole read more =
    let v : WaitingView = record {
      number = w.number + length (lines_of (unmarked w.begun (take count w.held)));
      begun = true;
      held = drop count w.held;
    } in
    ap (read_lines admit before) (numbered_after w v count more whole refl refl refl)
    ∙ read_append admit before (leading_lines w count) (lines_to_come v more)
    ∙ ap (λ r. r >>= λ next. read_lines admit next (lines_to_come v more)) read

-- the reason why lines were not read
pub refused : {S : Type 0} (admit : S → List ℕ → Result S TextKind) (before after : S) (w v : WaitingView) (count : ℕ)
    (error : OrMemory LineFault) → AreWholeLines (take count w.held)
    → Leaves {A = ℕ} after (Err error) (read_lines admit before (leading_lines w count))
    → TakesEnded admit before after w v (Err error)
refused admit before after w v count (Fault fault) whole read = invalid admit before w count fault whole read
refused admit before after w v count OutOfMemory whole read = tt

-- the held bytes end the text
pub last_lines : (w : WaitingView) (count : ℕ) → length w.held ≤ count → lines_to_come w [] ≡ leading_lines w count
unfolding lines_to_come
last_lines w count all = rw (append-nil w.held, take_all count w.held all) refl

pub last_end : (w : WaitingView) (count : ℕ) → length w.held ≤ count → end_to_come w [] ≡ leading_end w count
unfolding end_to_come
last_end w count all = rw (append-nil w.held, take_all count w.held all) refl

-- the text has ended, and its last lines are the held lines
module _ {S : Type 0} (admit : S → List ℕ → Result S TextKind) (before now after : S) (v w : WaitingView) (rest n limit count : ℕ)
    (old mid new : FeedState) (read_before : SoFar admit before now v rest (limit + 1) old.remaining mid.remaining)
    (held : Held n v w mid.remaining new.remaining) (zero : n ≡ 0) (some : 0 < rest) (counts : new.given - old.given + rest ≡ limit + 1)
    (none : IfSome mid.remaining (λ bytes. bytes ≡ [])) (all : length w.held ≤ count) where
  so : SoFar admit before now w rest (limit + 1) old.remaining new.remaining
  so = held_more admit before now v w rest rest n (limit + 1) _ _ _ read_before held (omega (arith, zero))

  whole_text : IsTextOf limit old new so.text
  whole_text = record {
    reported = text_reported old.remaining new.remaining so.text so.gave (none_after _ _ held.bytes held.remaining (held.count ∙ zero) none);
    short = omega (arith, so.count, some);
    whole = omega (arith, so.count, counts);
  }

  lines_left : read_lines admit before (lines_in so.text) ≡ read_lines admit now (leading_lines w count)
  lines_left =
      ap (λ bytes. read_lines admit before (lines_in bytes)) (sym (append-nil so.text)) ∙ so.reads []
      ∙ ap (read_lines admit now) (last_lines w count all)

  pub read_whole : (end : ℕ) → read_lines admit now (leading_lines w count) ≡ Ok after → end ≡ leading_end w count
      → IsFedReading admit limit old new before after (Ok end)
  read_whole end read number = record {
    text = so.text;
    is_text = whole_text;
    reads = (lines_left ∙ read, number ∙ sym (last_end w count all) ∙ sym (so.ends []) ∙ ap end_of (append-nil so.text));
  }

  pub read_faulty : (error : OrMemory LineFault) → Leaves {A = ℕ} after (Err error) (read_lines admit now (leading_lines w count))
      → IfFed (Err (fed_fault error)) (IsFedReading admit limit old new before after)
  read_faulty (Fault fault) read = record { text = so.text; is_text = whole_text; reads = lines_left ∙ read }
  read_faulty OutOfMemory read = tt

-- a line is invalid, and the remainder of the text was dropped
pub read_invalid : {S : Type 0} (admit : S → List ℕ → Result S TextKind) (before now after : S) (w : WaitingView) (rest limit : ℕ)
    (old mid new : FeedState) (fault : LineFault) → SoFar admit before now w rest (limit + 1) old.remaining mid.remaining
    → HasInvalidLine admit now w fault → GaveAll rest mid new → new.given - old.given + rest ≡ limit + 1 + (new.given - mid.given)
    → IsFedReading admit limit old new before after (Err fault)
read_invalid admit before now after w rest limit old mid new fault so bad all counts = record {
  text = so.text ++ all.bytes;
  is_text = record {
    reported = text_reported old.remaining new.remaining (so.text ++ all.bytes)
        (so.gave ∙ ap (put_back so.text) all.remaining ∙ put_back-append so.text all.bytes new.remaining) all.none;
    short = rw (length-append so.text all.bytes) (omega (arith, so.count, all.few));
    whole = rw (length-append so.text all.bytes) (omega (arith, so.count, all.count, counts));
  };
  reads = so.reads all.bytes ∙ bad all.bytes;
}
