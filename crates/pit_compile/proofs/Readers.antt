-- What the answers of all readers say of the zone files.
use Rattle.std.proofs.Common.{◌≡◌, ◌<◌, ◌≤◌, ◌+◌, ℕ, suc, List, [], ◌∷◌, true, false, nat_lt, Option, Some, None, Ok, Err, MatchOption, refl, sym, ◌∙◌, ap, subst, arith, length, take, replicate}
use Rattle.std.specs.Prelude.{slice_get, IfSome}
use Rattle.std.specs.Option.{option_map}
use Rattle.std.proofs.lemmas.Bool.Decides.{nat_tests}
use Rattle.std.proofs.lemmas.List.{length-replicate}
use Rattle.std.proofs.lemmas.Option.{MatchOption-at_none, MatchOption-at_some}
use Rattle.lane.specs.Message.{sent_from}
use Rattle.lane.specs.declared.message.Taken.{Taken}
use Rattle.plan_parts.specs.declared.grid.Grid.{Grid}
use Rattle.plan_parts.specs.Plan.{PlanParts}
use Rattle.run_threads.specs.MostBytes.{most_bytes}
use Rattle.run_threads.specs.Reading.{AreRead, IsRead, IsReadTo, ReadAnswer}
use Rattle.run_threads.specs.Refusing.{HasFailed}
use Rattle.devices.specs.feeds.FeedState.{FeedState, all_remaining}
use Rattle.devices.specs.declared.feeds.fed_fault.FedFault.TheVariants.{Unread, Text}
use Rattle.devices.specs.declared.feeds.slurp.SlurpFault.TheVariants as slurp
use Rattle.zone_csv.specs.Zone.{blocks_of}
use Rattle.zone_csv.specs.declared.row_fault.RowFault.{RowFault}
use Rattle.pit_compile.specs.inner.ReadAnswers.{refusal_in, refusal_of}
use Rattle.pit_compile.specs.ZoneFiles.{AreGiven}
use Rattle.pit_compile.specs.Compiling.{IsNotCompiled}
use Rattle.pit_compile.specs.Rows.{fault_in, file_fault, files_send}
use Rattle.refusals.specs.declared.refusal.Refusal.{Refusal}
use Rattle.refusals.specs.declared.refusal.Refusal.TheVariants.{FeedFailed, TooLong, Row, OutOfMemory}

-- a file that was read is not too long, and has the fault of its rows
fault_read : (grid : Grid) (n : ℕ) (remaining : Option (List ℕ)) (fault : Option RowFault) (sent : List Taken)
    (h : IsReadTo grid n remaining fault sent) → file_fault grid n h.text ≡ option_map (Row n) fault
fault_read grid n remaining fault sent h =
    let short : length h.text ≤ most_bytes = h.short in
    let test : nat_lt most_bytes (length h.text) ≡ false = grind (arith, nat_tests) in
    rw test (ap (option_map (Row n)) h.fault_is)

too_long : (grid : Grid) (n : ℕ) (text : List ℕ) → most_bytes < length text → file_fault grid n text ≡ Some (TooLong n)
too_long grid n text h = let test : nat_lt most_bytes (length text) ≡ true = grind (arith, nat_tests) in rw test refl

-- texts that feeds may have had which had this left
some_text : (remaining : Option (List ℕ)) → (text : List ℕ) × IfSome remaining (λ bytes. text ≡ bytes)
some_text None = ([], tt)
some_text (Some bytes) = (bytes, refl)

some_texts : (remainders : List (Option (List ℕ))) → (texts : List (List ℕ)) × AreGiven remainders texts
some_texts [] = ([], tt)
some_texts (l ∷ ls) =
    let one = some_text l in
    let more = some_texts ls in (one.0 ∷ more.0, (one.1, more.1))

-- a text that is longer than some number
longer : (n : ℕ) → (text : List ℕ) × (n < length text)
longer n =
    let count : length (replicate (n + 1) 0) ≡ n + 1 = length-replicate (n + 1) 0 in
    let above : n < n + 1 = omega arith in
    (replicate (n + 1) 0, subst (λ k. n < k) (sym count) above)

long_text : (remaining : Option (List ℕ)) → IfSome remaining (λ bytes. most_bytes < length bytes)
    → (text : List ℕ) × IfSome remaining (λ bytes. text ≡ bytes) × (most_bytes < length text)
long_text None h = let long = longer most_bytes in (long.0, tt, long.1)
long_text (Some bytes) h = (bytes, refl, h)

-- these texts are given, they have no fault, and this is what their files send
pub record AreAllRead (grid : Grid) (n : ℕ) (remainders : List (Option (List ℕ))) (sents : List (List Taken)) : Type 0 where
  pub texts : List (List ℕ)
  pub given : AreGiven remainders texts
  pub no_fault : fault_in texts grid n ≡ None
  pub sent : sents ≡ files_send n grid texts

-- by the states of feeds
module _ {F : Type 0} (state : F → FeedState) where
  -- the reader of this file failed, and the refusal says why
  pub record IsUnread (grid : Grid) (refusal : Refusal) : Type 0 where
    file : ℕ
    feed : F
    answer : ReadAnswer
    sent : List Taken
    unread : IsRead state grid file feed answer sent
    is : refusal_of file answer ≡ Some refusal

  -- that of the file which stands this many behind the first: whatever text it has, those before it have no fault
  pub record IsFirstUnread (grid : Grid) (n : ℕ) (feeds : List F) (refusal : Refusal) : Type 0 where
    of : IsUnread grid refusal
    following : ℕ
    is_file : of.file ≡ n + following
    stands : slice_get feeds following ≡ Some of.feed
    texts : List ℕ → List (List ℕ)
    given : (text : List ℕ) → IfSome (state of.feed).remaining (λ bytes. text ≡ bytes) → AreGiven (all_remaining state feeds) (texts text)
    none_before : (text : List ℕ) → fault_in (take following (texts text)) grid n ≡ None
    found : (text : List ℕ) (r : Refusal) → file_fault grid of.file text ≡ Some r → fault_in (texts text) grid n ≡ Some r

  -- what is told of the files behind one that was read
  after_read : (grid : Grid) (n : ℕ) (feed : F) (feeds : List F) (sent : List Taken) (sents : List (List Taken))
      → IsReadTo grid n (state feed).remaining None sent → (refusal : Option Refusal)
      → MatchOption refusal (AreAllRead grid (n + 1) (all_remaining state feeds) sents) (IsFirstUnread grid (n + 1) feeds)
      → MatchOption refusal (AreAllRead grid n (all_remaining state (feed ∷ feeds)) (sent ∷ sents)) (IsFirstUnread grid n (feed ∷ feeds))
  after_read grid n feed feeds sent sents h None rest = record {
    texts = h.text ∷ rest.texts;
    given = (h.given, rest.given);
    no_fault = rw (fault_read grid n (state feed).remaining None sent h) rest.no_fault;
    sent = ap (λ s. s ∷ sents) h.sent_is ∙ ap (λ others. sent_from n 0 (blocks_of grid n h.text) ∷ others) rest.sent;
  }
  after_read grid n feed feeds sent sents h (Some refusal) rest =
      let none : file_fault grid n h.text ≡ None = fault_read grid n (state feed).remaining None sent h in
      record {
        of = rest.of;
        following = suc rest.following;
        is_file = rest.is_file ∙ omega arith;
        stands = rest.stands;
        texts = λ text. h.text ∷ rest.texts text;
        given = λ text is. (h.given, rest.given text is);
        none_before = λ text. rw none (rest.none_before text);
        found = λ text r e. rw none (rest.found text r e);
      }

  -- the first file was not read
  first_unread : (grid : Grid) (n : ℕ) (f : F) (fs : List F) (answer : ReadAnswer) (sent : List Taken) (refusal : Refusal)
      → IsRead state grid n f answer sent → refusal_of n answer ≡ Some refusal → IsFirstUnread grid n (f ∷ fs) refusal
  first_unread grid n f fs answer sent refusal unread is =
      let others = some_texts (all_remaining state fs) in
      record {
        of = record { file = n; feed = f; answer = answer; sent = sent; unread = unread; is = is };
        following = 0;
        is_file = omega arith;
        stands = refl;
        texts = λ text. text ∷ others.0;
        given = λ text is. (is, others.1);
        none_before = λ text. refl;
        found = λ text r e. rw e refl;
      }

  pub states : (grid : Grid) (n : ℕ) (feeds : List F) (answers : List ReadAnswer) (sents : List (List Taken))
      → AreRead state grid n feeds answers sents
      → MatchOption (refusal_in n answers) (AreAllRead grid n (all_remaining state feeds) sents) (IsFirstUnread grid n feeds)
  states grid n [] [] [] h = record { texts = []; given = tt; no_fault = refl; sent = refl }
  states grid n (f ∷ fs) (Ok done ∷ answers) (s ∷ ss) h =
      after_read grid n f fs s ss h.0 (refusal_in (n + 1) answers) (states grid (n + 1) fs answers ss h.1)
  states grid n (f ∷ fs) (Err (Text fault) ∷ answers) (s ∷ ss) h = first_unread grid n f fs (Err (Text fault)) s (Row n fault) h.0 refl
  states grid n (f ∷ fs) (Err (Unread slurp.FeedFailed) ∷ answers) (s ∷ ss) h = first_unread grid n f fs (Err (Unread slurp.FeedFailed)) s (FeedFailed n) h.0 refl
  states grid n (f ∷ fs) (Err (Unread slurp.TooLong) ∷ answers) (s ∷ ss) h = first_unread grid n f fs (Err (Unread slurp.TooLong)) s (TooLong n) h.0 refl
  states grid n (f ∷ fs) (Err (Unread slurp.OutOfMemory) ∷ answers) (s ∷ ss) h = first_unread grid n f fs (Err (Unread slurp.OutOfMemory)) s OutOfMemory h.0 refl
  states grid n _ _ _ h = absurd h

  pub all_read : (grid : Grid) (feeds : List F) (answers : List ReadAnswer) (sents : List (List Taken))
      → AreRead state grid 0 feeds answers sents → refusal_in 0 answers ≡ None → AreAllRead grid 0 (all_remaining state feeds) sents
  all_read grid feeds answers sents h e = MatchOption-at_none _ (IsFirstUnread grid 0 feeds) e (states grid 0 feeds answers sents h)

  -- why a file was not read is why nothing is compiled
  why_unread : (plan : PlanParts) (feeds : List F) (refusal : Refusal) → IsFirstUnread plan.grid 0 feeds refusal
      → IsNotCompiled plan (all_remaining state feeds) (HasFailed state feeds) refusal
  why_unread plan feeds refusal h = by h.of.answer h.of.unread h.of.is
    where
      file : ℕ
      file = h.of.file

      -- so it is of a refusal that is the one of the answer
      Why : Refusal → Type 0
      Why why = IsNotCompiled plan (all_remaining state feeds) (HasFailed state feeds) why

      by : (answer : ReadAnswer) → IsRead state plan.grid file h.of.feed answer h.of.sent
          → refusal_of file answer ≡ Some refusal → Why refusal
      by (Ok done) e is = absurd cc
      by (Err (Text fault)) e is =
          let found = h.found e.text (Row file fault) (fault_read plan.grid file (state h.of.feed).remaining (Some fault) h.of.sent e) in
          let own : Row file fault ≡ refusal = cc in
          subst Why own (record { texts = h.texts e.text; given = h.given e.text e.given; refused = found })
      by (Err (Unread slurp.FeedFailed)) e is =
          let same : h.following ≡ h.of.file = omega (arith, h.is_file) in
          let some = some_text (state h.of.feed).remaining in
          let why : IsNotCompiled plan (all_remaining state feeds) (HasFailed state feeds) (FeedFailed file) = record {
            texts = h.texts some.0;
            given = h.given some.0 some.1;
            none_before = subst (λ f. fault_in (take f (h.texts some.0)) plan.grid 0 ≡ None) same (h.none_before some.0);
            failed = record { feed = h.of.feed; stands = subst (λ f. slice_get feeds f ≡ Some h.of.feed) same h.stands; refused = e };
          } in
          let own : FeedFailed file ≡ refusal = cc in
          subst Why own why
      by (Err (Unread slurp.TooLong)) e is =
          let long = long_text (state h.of.feed).remaining e in
          let found = h.found long.0 (TooLong file) (too_long plan.grid file long.0 long.2) in
          let own : TooLong file ≡ refusal = cc in
          subst Why own (record { texts = h.texts long.0; given = h.given long.0 long.1; refused = found })
      by (Err (Unread slurp.OutOfMemory)) e is = let own : OutOfMemory ≡ refusal = cc in subst Why own tt

  pub not_read : (plan : PlanParts) (feeds : List F) (answers : List ReadAnswer) (sents : List (List Taken))
      (refusal : Refusal) → AreRead state plan.grid 0 feeds answers sents → refusal_in 0 answers ≡ Some refusal
      → IsNotCompiled plan (all_remaining state feeds) (HasFailed state feeds) refusal
  not_read plan feeds answers sents refusal h e =
      why_unread plan feeds refusal (MatchOption-at_some _ (IsFirstUnread plan.grid 0 feeds) refusal e
      (states plan.grid 0 feeds answers sents h))

  -- there are as many answers and lists as feeds
  pub as_many : (grid : Grid) (n : ℕ) (feeds : List F) (answers : List ReadAnswer) (sents : List (List Taken))
      → AreRead state grid n feeds answers sents → (length answers ≡ length feeds) × (length sents ≡ length feeds)
  as_many grid n [] [] [] h = (refl, refl)
  as_many grid n (f ∷ fs) (a ∷ answers) (s ∷ ss) h =
      let rest = as_many grid (n + 1) fs answers ss h.1 in (omega arith, omega arith)
  as_many grid n _ _ _ h = absurd h
