-- Why a check reports no counts, in other words, and the exit status for it.
use Rattle.std.proofs.Common.{◌≡◌, ◌≢◌, ◌⊎◌, ◌-◌, ℕ, List, [], Result, Some, None, inl, inr, refl, ap, ◌∙◌, sym, subst, Ok, IfSome, arith}
use Rattle.devices.specs.feeds.FeedState.{FeedState}
use Rattle.devices.specs.feeds.FeedSteps.{remaining_after}
use Rattle.devices.specs.files.Opening.{Opening, OpensFeed}
use Rattle.devices.specs.declared.feeds.slurp.TheConstants.{LARGEST_LIMIT}
use Rattle.devices.specs.feeds.ReadWhole.{FailsAsFed}
use Rattle.text_lines.specs.declared.text_fault.TextFault.{TextFault}
use Rattle.text_lines.specs.declared.text_fault.TextFile.{TextFile}
use Rattle.check_command.specs.Checked.{AreReadBefore, FailsIn, IsCheckStatus, IsFoundIn, IsMissing, IsRead, IsUntried, path_of}
use Rattle.check_command.specs.inner.CheckSteps.{CountsAll, CountsOn, HasTextWith}
use Rattle.check_command.specs.inner.CountSteps.{counted_on, no_counts}
use Rattle.check_command.proofs.CountedAll.{counted_all}
use Rattle.minelib_reading.specs.FedCounts.{IsFedAnswer}
use Rattle.devices.specs.declared.feeds.slurp.SlurpFault.{SlurpFault}
use Rattle.devices.specs.declared.feeds.slurp.SlurpFault.TheVariants as slurp
use Rattle.text_lines.specs.declared.text_fault.TextFile.TheVariants.{Blocks, Prec, Pcpsp, Cpit}
use Rattle.check_command.specs.Counts.{Texts}
use Rattle.check_command.specs.declared.counts.Counts.{Counts}
use Rattle.refusals.specs.declared.refusal.Refusal.TheVariants.{OutOfMemory}
use Rattle.command_io.specs.FaultLine.{Ends}
use Rattle.command_io.specs.Refused.{status_of, unread}
use Rattle.command_io.specs.declared.refused.Refused.{Refused}
use Rattle.command_io.specs.declared.refused.Refused.TheVariants.{Run}
use Rattle.command_io.specs.declared.refused.source.Source.TheVariants as source

module _ (base : List ℕ) {F T : Type 0} (state : F → FeedState) (path : T → List ℕ) where
  -- a file that was counted
  pub counted_file : (file : TextFile) (asked : List ℕ) (first : FeedState) (old new : List Opening) (feed : F)
      (so_far answer : Result Counts TextFault) → asked ≡ path_of base file → OpensFeed asked old new first
      → (opened : T) × (path opened ≡ asked) → IsFedAnswer (counted_on file so_far) LARGEST_LIMIT first (state feed) answer
      → IfSome (state feed).remaining (λ bytes. bytes ≡ []) → (state feed).failures ≡ first.failures
      → (state feed).remaining ≡ remaining_after ((state feed).given - first.given) first.remaining
      → CountsOn base state path file old new so_far answer
  counted_file file asked first old new feed so_far answer at opened there fed ended kept stands =
      let all : (state feed).given - first.given ≡ (state feed).given = omega (arith, opened.given) in inl (
        fed.text,
        record {
          first = first;
          opened = subst (λ p. OpensFeed p old new first) at opened;
          feed = feed;
          of_file = stands ∙ ap (λ n. remaining_after n first.remaining) all;
          read = record { whole = fed.is_text.reported; counts = omega (arith, opened.given, fed.is_text.whole); works = kept };
          short = fed.is_text.short;
          ended = ended;
          there = (there.0, there.1 ∙ at);
        },
        fed.answers,
      )

  -- a file that is required
  has_text : (file : TextFile) (old new : List Opening) (before after : Result Counts TextFault) → file ≢ Cpit
      → CountsOn base state path file old new before after
      → HasTextWith base state path file (λ text. after ≡ counted_on file before text) old new
  has_text file old new before after needed (inl has) = has
  has_text file old new before after needed (inr gone) = absurd (needed gone.0)

  pub is_read : (file : TextFile) (old new : List Opening) (before after : Result Counts TextFault) → file ≢ Cpit
      → CountsOn base state path file old new before after → IsRead base state path file old new
  is_read file old new before after needed counted = let has = has_text file old new before after needed counted in (has.0, has.1)

  -- the counts of files one after the other are the counts of all
  module _ (old m1 m2 m3 new : List Opening) (blocks prec pcpsp answer : Result Counts TextFault) where
    all_counted : HasTextWith base state path Blocks (λ text. blocks ≡ counted_on Blocks (Ok no_counts) text) old m1
        → HasTextWith base state path Prec (λ text. prec ≡ counted_on Prec blocks text) m1 m2
        → HasTextWith base state path Pcpsp (λ text. pcpsp ≡ counted_on Pcpsp prec text) m2 m3
        → CountsOn base state path Cpit m3 new pcpsp answer → CountsAll base state path old new answer
    all_counted b p m (inl c) =
        let texts : Texts = record { blocks = b.0; prec = p.0; pcpsp = m.0; cpit = Some c.0 } in (
          texts,
          record { after_blocks = m1; after_prec = m2; after_pcpsp = m3; blocks = b.1; prec = p.1; pcpsp = m.1; cpit = c.1 },
          sym (counted_all texts) ∙ sym (
              c.2 ∙ ap (λ r. counted_on Cpit r c.0)
              (m.2 ∙ ap (λ r. counted_on Pcpsp r m.0) (p.2 ∙ ap (λ r. counted_on Prec r p.0) b.2))
              ),
        )
    all_counted b p m (inr gone) =
        let texts : Texts = record { blocks = b.0; prec = p.0; pcpsp = m.0; cpit = None } in (
          texts,
          record { after_blocks = m1; after_prec = m2; after_pcpsp = m3; blocks = b.1; prec = p.1; pcpsp = m.1; cpit = gone.1 },
          sym (counted_all texts) ∙ sym (
              gone.2 ∙ m.2 ∙ ap (λ r. counted_on Pcpsp r m.0) (p.2 ∙ ap (λ r. counted_on Prec r p.0) b.2)
              ),
        )

    pub counted_files : CountsOn base state path Blocks old m1 (Ok no_counts) blocks → CountsOn base state path Prec m1 m2 blocks prec
        → CountsOn base state path Pcpsp m2 m3 prec pcpsp → CountsOn base state path Cpit m3 new pcpsp answer
        → CountsAll base state path old new answer
    counted_files b p m c =
        all_counted (has_text Blocks old m1 _ _ (λ e. absurd cc) b) (has_text Prec m1 m2 _ _ (λ e. absurd cc) p)
        (has_text Pcpsp m2 m3 _ _ (λ e. absurd cc) m) c

  -- a file that was not read to its end
  pub unread_file : (file : TextFile) (asked : List ℕ) (first : FeedState) (old new : List Opening) (feed : F) (fault : SlurpFault)
      (why : Refused) → asked ≡ path_of base file → OpensFeed asked old new first → (opened : T) × (path opened ≡ asked)
      → (state feed).remaining ≡ remaining_after ((state feed).given - first.given) first.remaining
      → FailsAsFed LARGEST_LIMIT first (state feed) fault → why ≡ unread (source.Text file) fault
      → FailsIn base state path file old new why ⊎ (IsMissing base file old new why ⊎ IsUntried old new why)
  unread_file file asked first old new feed fault why at opened there stands fails e =
      let all : (state feed).given - first.given ≡ (state feed).given = omega (arith, opened.given) in inl (
        first,
        subst (λ p. OpensFeed p old new first) at opened,
        (feed, stands ∙ ap (λ n. remaining_after n first.remaining) all, (fault, fails, e)),
        (there.0, there.1 ∙ at),
      )

  module _ (old new : List Opening) where
    -- an error of one file after those that were read is an error of all files
    pub found_in_file : (file : TextFile) (mid : List Opening) (why : Refused) → AreReadBefore base state path file old mid
        → FailsIn base state path file mid new why ⊎ (IsMissing base file mid new why ⊎ IsUntried mid new why)
        → IsFoundIn base state path old new why
    found_in_file file mid why read (inl h) = inl (file, record { mid = mid; before = read; fails = inl h })
    found_in_file file mid why read (inr (inl h)) = inl (file, record { mid = mid; before = read; fails = inr h })
    found_in_file file mid why read (inr (inr h)) =
        inr (inr (h.0, inl (file, subst (λ n. AreReadBefore base state path file old n) (sym h.1) read)))

    -- the exit statuses for a check's errors
    unread_listed : (file : TextFile) (fault : SlurpFault) → IsCheckStatus (status_of (unread (source.Text file) fault))
    unread_listed file slurp.FeedFailed = inr (inr (inl refl))
    unread_listed file slurp.TooLong = inr (inl refl)
    unread_listed file slurp.OutOfMemory = inr (inr (inr refl))

    fails_listed : (file : TextFile) (mid : List Opening) (why : Refused)
        → FailsIn base state path file mid new why ⊎ IsMissing base file mid new why → IsCheckStatus (status_of why)
    fails_listed file mid why (inl h) = subst (λ w. IsCheckStatus (status_of w)) (sym h.2.2.2) (unread_listed file h.2.2.0)
    fails_listed file mid why (inr h) = subst (λ w. IsCheckStatus (status_of w)) (sym h.2) (inr (inr (inl refl)))

    listed : (why : Refused) → IsFoundIn base state path old new why → IsCheckStatus (status_of why)
    listed why (inl h) = fails_listed h.0 h.1.mid why h.1.fails
    listed why (inr (inl h)) = subst (λ w. IsCheckStatus (status_of w)) (sym h.1) (inr (inl refl))
    listed why (inr (inr h)) = subst (λ w. IsCheckStatus (status_of w)) (sym h.0) (inr (inr (inr refl)))

    -- a check ends with the status for its error
    pub status_listed : (why : Refused) (err_old err_new : List ℕ) (status : ℕ) → IsFoundIn base state path old new why
        → Ends why err_old err_new status → IsCheckStatus status
    status_listed why err_old err_new status h (inl reported, none) = subst IsCheckStatus (sym reported.0) (listed why h)
    status_listed why err_old err_new status h (inr reported, none) = inr (inr (inr reported.0))

    unread_memory : (file : TextFile) (fault : SlurpFault) → status_of (unread (source.Text file) fault) ≡ 4
        → unread (source.Text file) fault ≡ Run OutOfMemory
    unread_memory file slurp.FeedFailed four = absurd (omega (arith, four))
    unread_memory file slurp.TooLong four = absurd (omega (arith, four))
    unread_memory file slurp.OutOfMemory four = refl

    fails_memory : (file : TextFile) (mid : List Opening) (why : Refused)
        → FailsIn base state path file mid new why ⊎ IsMissing base file mid new why → status_of why ≡ 4 → why ≡ Run OutOfMemory
    fails_memory file mid why (inl h) four = h.2.2.2 ∙ unread_memory file h.2.2.0 (ap status_of (sym h.2.2.2) ∙ four)
    fails_memory file mid why (inr h) four =
        let three : 3 ≡ 4 = ap status_of (sym h.2) ∙ four in absurd (omega (arith, three))

    memory : (why : Refused) → IsFoundIn base state path old new why → status_of why ≡ 4 → why ≡ Run OutOfMemory
    memory why (inl h) four = fails_memory h.0 h.1.mid why h.1.fails four
    memory why (inr (inl h)) four = let one : 1 ≡ 4 = ap status_of (sym h.1) ∙ four in absurd (omega (arith, one))
    memory why (inr (inr h)) four = h.0

    -- if memory was refused, no line was appended
    pub no_memory : (why : Refused) (err_old err_new : List ℕ) (status : ℕ) → IsFoundIn base state path old new why
        → Ends why err_old err_new status → status ≡ 4 → err_new ≡ err_old
    no_memory why err_old err_new status h (inl reported, none) four = none (memory why h (sym reported.0 ∙ four))
    no_memory why err_old err_new status h (inr reported, none) four = reported.1
