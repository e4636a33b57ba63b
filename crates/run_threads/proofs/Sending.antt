-- How a reader goes through its zone file, block by block, and what it then did with the file.
use Rattle.std.proofs.Common.{◌≡◌, ℕ, ◌+◌, ◌<◌, ◌≤◌, true, List, [], ◌∷◌, ◌++◌, length, Option, Some, None, Ok, Err, ap, ◌∙◌, refl, subst, arith, append_assoc, length-append, ⊎_elim}
use Rattle.std.specs.Prelude.{IfSome}
use Rattle.std.proofs.lemmas.Bool.{cases_Bool}
use Rattle.devices.specs.feeds.Fed.{fed_fault}
use Rattle.devices.specs.feeds.FeedState.{FeedState}
use Rattle.devices.specs.declared.feeds.fed_fault.FedFault.TheVariants.{Unread}
use Rattle.devices.specs.declared.feeds.slurp.SlurpFault.{SlurpFault}
use Rattle.devices.specs.declared.feeds.slurp.SlurpFault.TheVariants.{FeedFailed, TooLong}
use Rattle.devices.specs.declared.feeds.slurp.SlurpFault.TheVariants as slurp
use Rattle.lane.specs.Message.{sent_from}
use Rattle.lane.specs.declared.message.Taken.{Taken}
use Rattle.lane.specs.declared.message.Taken.TheVariants as message
use Rattle.plan_parts.specs.declared.block.Block.{Block}
use Rattle.plan_parts.specs.declared.grid.Grid.{Grid}
use Rattle.zone_csv.specs.Zone.{blocks_of, fault_of}
use Rattle.zone_csv.specs.ZoneReaderView.{ZoneReaderView, Ahead, Answers, last_answer}
use Rattle.zone_csv.specs.declared.row_fault.RowFault.{RowFault}
use Rattle.pit_units.specs.declared.or_memory.OrMemory.{OrMemory}
use Rattle.pit_units.specs.declared.or_memory.OrMemory.TheVariants.{Fault, OutOfMemory}
use Rattle.run_threads.specs.MostBytes.{most_bytes}
use Rattle.run_threads.specs.Reading.{IsRead}
use Rattle.run_threads.specs.inner.Sending.{IsSending, IsAllBut, HasPut}

-- behind the last block there is no block, the end where no fault is, or that fault
no_block : (last : Option RowFault) (b : Block) → Ok (Some b) ≡ last_answer last → ⊥
no_block None b e = absurd cc
no_block (Some x) b e = absurd cc

ended : (last : Option RowFault) → Ok None ≡ last_answer last → last ≡ None
ended None e = refl
ended (Some x) e = absurd cc

failed : (last : Option RowFault) (x : RowFault) → Err (Fault x) ≡ last_answer last → last ≡ Some x
failed None x e = absurd cc
failed (Some y) x e = cc

module _ (file : ℕ) (whole : List Block) (fault : Option RowFault) where
  row_put : (sent : List Taken) (new : ZoneReaderView) (b : Block) (rest : List Block)
      → sent ++ sent_from file (length sent) rest ≡ sent_from file 0 whole → length sent + length rest ≤ 1000000
      → Answers (Ahead rest fault) (Ok (Some b)) new → IsSending file whole fault (sent ++ message.Row file (length sent) b ∷ []) new
  row_put sent new b [] e few n = absurd (no_block fault b n.0)
  row_put sent new b (x ∷ rest) e few n =
      let same : b ≡ x = cc (n.0) in
      let m : Taken = message.Row file (length sent) b in
      let longer : length (sent ++ m ∷ []) ≡ length sent + 1 = length-append sent (m ∷ []) in
      record {
        rest = rest;
        says = n.1;
        makes_up = append_assoc sent (m ∷ []) (sent_from file (length (sent ++ m ∷ [])) rest)
            ∙ (ap (λ k. sent ++ m ∷ sent_from file k rest) longer
            ∙ (ap (λ y. sent ++ message.Row file (length sent) y ∷ sent_from file (length sent + 1) rest) same ∙ e));
        few = omega arith;
      }

  -- once the row of a block is put, what was put and what is still to be said make up the file again
  pub puts_row : (sent : List Taken) (old new : ZoneReaderView) (b : Block) → IsSending file whole fault sent old
      → Answers old (Ok (Some b)) new
      → IsSending file whole fault (sent ++ message.Row file (length sent) b ∷ []) new
  puts_row sent old new b s answers =
      row_put sent new b s.rest s.makes_up s.few (subst (λ v. Answers v (Ok (Some b)) new) s.says answers)

  all_put : (sent : List Taken) (new : ZoneReaderView) (rest : List Block)
      → sent ++ sent_from file (length sent) rest ≡ sent_from file 0 whole
      → Answers (Ahead rest fault) (Ok None) new → (fault ≡ None) × IsAllBut file whole sent
  all_put sent new [] e n = (ended fault n.0, e)
  all_put sent new (x ∷ rest) e n = absurd (cc (n.0))

  pub puts_all : (sent : List Taken) (old new : ZoneReaderView) → IsSending file whole fault sent old → Answers old (Ok None) new
      → (fault ≡ None) × IsAllBut file whole sent
  puts_all sent old new s answers = all_put sent new s.rest s.makes_up (subst (λ v. Answers v (Ok None) new) s.says answers)

  stopped : (sent : List Taken) (new : ZoneReaderView) (x : OrMemory RowFault) (rest : List Block)
      → sent ++ sent_from file (length sent) rest ≡ sent_from file 0 whole
      → Answers (Ahead rest fault) (Err x) new → HasPut file whole fault (Err x) sent
  stopped sent new (Fault x) [] e n = (failed fault x n.0, e)
  stopped sent new (Fault x) (y ∷ rest) e n = absurd (cc (n.0))
  stopped sent new OutOfMemory rest e n = tt

  pub stops : (sent : List Taken) (old new : ZoneReaderView) (x : OrMemory RowFault) → IsSending file whole fault sent old
      → Answers old (Err x) new → HasPut file whole fault (Err x) sent
  stops sent old new x s answers = stopped sent new x s.rest s.makes_up (subst (λ v. Answers v (Err x) new) s.says answers)

module _ {F : Type 0} (state : F → FeedState) (grid : Grid) (file : ℕ) (feed : F) where
  -- why a feed gave no text
  pub gives_none : (new : F) (fault : SlurpFault) (sent : List Taken) → (fault ≡ FeedFailed → (state new).failures ≡ (state feed).failures + 1)
      → ((state feed).is_sure ≡ true → fault ≡ FeedFailed → ⊥) → (fault ≡ TooLong → IfSome (state feed).remaining (λ bytes. most_bytes < length bytes))
      → IsRead state grid file feed (Err (Unread fault)) sent
  gives_none new FeedFailed sent refused unsure long = record {
    unsure = ⊎_elim (λ sure. absurd (unsure sure refl)) (λ other. other) (cases_Bool (state feed).is_sure);
    now = new;
    refused = refused refl;
  }
  gives_none new TooLong sent refused unsure long = long refl
  gives_none new slurp.OutOfMemory sent refused unsure long = tt

  -- of the text that a feed gave, what was put with the end mark after it
  module _ (text : List ℕ) (sent : List Taken) (given : IfSome (state feed).remaining (λ bytes. text ≡ bytes)) (short : length text ≤ most_bytes) where
    pub text_read : HasPut file (blocks_of grid file text) (fault_of grid file text) (Ok tt) sent
        → IsRead state grid file feed (Ok tt) (sent ++ message.End file (length sent) ∷ [])
    text_read put = record { text = text; given = given; short = short; fault_is = put.0; sent_is = put.1 }

    pub text_stopped : (error : OrMemory RowFault) → HasPut file (blocks_of grid file text) (fault_of grid file text) (Err error) sent
        → IsRead state grid file feed (Err (fed_fault error)) (sent ++ message.End file (length sent) ∷ [])
    text_stopped (Fault fault) put = record { text = text; given = given; short = short; fault_is = put.0; sent_is = put.1 }
    text_stopped OutOfMemory put = tt
