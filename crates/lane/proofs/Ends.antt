-- What the ends store as they send, join and pass on their parts.
use Rattle.std.proofs.Common.{◌≡◌, ℕ, ◌+◌, ◌<◌, Bool, true, false, ◌||◌, List, [], ◌∷◌, ◌++◌, length, refl, sym, ap, ◌∙◌, subst, arith, length-append}
use Rattle.std.proofs.lemmas.List.Folds.{list_any-append}
use Rattle.plan_parts.specs.declared.block.Block.{Block}
use Rattle.lane.specs.declared.message.Taken.{Taken}
use Rattle.lane.specs.declared.message.Taken.TheVariants.{Row, End}
use Rattle.lane.specs.declared.part.Part.{Part}
use Rattle.lane.specs.declared.part.Part.TheVariants.{Put}
use Rattle.lane.specs.Message.{IsEndedFrom}
use Rattle.lane.specs.MessageKinds.{is_row, is_end, row_count, has_end}
use Rattle.lane.specs.MessageOrders.{IsFrom}
use Rattle.lane.specs.Steps.{with_message}
use Rattle.lane.specs.EndFields.{sent_in}
use Rattle.lane.specs.inner.Kept.{IsOpenPut, IsEndedPut}
use Rattle.lane.proofs.Lists.{count_more}
use Rattle.lane.proofs.Messages.{from_more, ended_from}

-- the view of a put end after a send
put_part : (v w : List Part) (f c : ℕ) (m : Taken) → v ≡ Put f c (sent_in v) ∷ [] → w ≡ with_message v m
    → (sent_in w ≡ sent_in v ++ m ∷ []) × (w ≡ Put f c (sent_in w) ∷ [])
put_part v w f c m is e =
    let x : w ≡ Put f c (sent_in v ++ m ∷ []) ∷ [] = e ∙ ap (λ (u : List Part). with_message u m) is in
    let a : sent_in w ≡ sent_in v ++ m ∷ [] = ap sent_in x in
    (a, x ∙ (λ i. Put f c (sym a i) ∷ []))

pub row_put : (v w : List Part) (f c count : ℕ) (b : Block) → IsOpenPut v f c count → w ≡ with_message v (Row f count b) → count < 1000000
    → IsOpenPut w f c (count + 1)
row_put v w f c count b h e few =
    let m : Taken = Row f count b in
    let p = put_part v w f c m h.part e in
    let list : IsFrom f 0 (sent_in v ++ m ∷ []) = from_more f 0 (sent_in v) m count (omega (arith, h.places)) h.list h.unended (refl, refl, tt) in
    let open' : has_end (sent_in v ++ m ∷ []) ≡ false =
    list_any-append is_end (sent_in v) (m ∷ []) ∙ ap (λ (x : Bool). x || false) h.unended in
    record {
      part = p.1;
      list = subst (IsFrom f 0) (sym p.0) list;
      unended = ap has_end p.0 ∙ open';
      rows = ap row_count p.0 ∙ (let z : row_count (sent_in v ++ m ∷ []) ≡ count + 1 =
          omega (arith, count_more is_row (sent_in v) m, h.rows) in z);
      places = ap (λ (l : List Taken). length l) p.0
          ∙ (let z : length (sent_in v ++ m ∷ []) ≡ count + 1 = omega (arith, length-append (sent_in v) (m ∷ []), h.places) in z);
      few = omega arith;
    }

pub end_put : (v w : List Part) (f c count : ℕ) → IsOpenPut v f c count → w ≡ with_message v (End f count) → IsEndedPut w f c count
end_put v w f c count h e =
    let m : Taken = End f count in
    let p = put_part v w f c m h.part e in
    let list : IsFrom f 0 (sent_in v ++ m ∷ []) = from_more f 0 (sent_in v) m count (omega (arith, h.places)) h.list h.unended (refl, refl, refl) in
    let ended : has_end (sent_in v ++ m ∷ []) ≡ true =
    list_any-append is_end (sent_in v) (m ∷ []) ∙ ap (λ (x : Bool). x || true) h.unended in
    record {
      part = p.1;
      list = subst (IsEndedFrom f 0) (sym p.0) (ended_from f 0 (sent_in v ++ m ∷ []) list ended);
      rows = ap row_count p.0 ∙ (let z : row_count (sent_in v ++ m ∷ []) ≡ count = omega (arith, count_more is_row (sent_in v) m, h.rows) in z);
      few = h.few;
    }
