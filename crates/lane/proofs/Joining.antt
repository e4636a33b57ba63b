-- How the parts of all ends return to the closer.
use Rattle.std.proofs.Common.{◌≡◌, ℕ, ◌+◌, ◌<◌, ◌≤◌, true, List, [], ◌∷◌, ◌++◌, length, map, refl, sym, ap, ◌∙◌, subst, arith, append_assoc, append-nil, length-append, Some, sum_by, All}
use Rattle.std.specs.List.{AllByRecursion}
use Rattle.std.proofs.lemmas.List.Sums.{sum_by_push}
use Rattle.std.proofs.lemmas.List.Elements.{recursion_from_All}
use Rattle.crossbeam_channel.specs.Fifo.{Pops, Learns}
use Rattle.lane.specs.declared.message.Taken.{Taken}
use Rattle.lane.specs.declared.message.Taken.TheVariants.{Stop}
use Rattle.lane.specs.declared.part.Part.{Part}
use Rattle.lane.specs.declared.part.Part.TheVariants.{Put, Take, Close}
use Rattle.lane.specs.Machine.{Size}
use Rattle.lane.specs.MessageKinds.{has_end, is_done, row_count}
use Rattle.lane.specs.Whole.{IsWhole}
use Rattle.lane.specs.Rule.{Putter, Closer, IsLane, put_parts, take_parts}
use Rattle.lane.specs.Steps.{MaySend, full_view}
use Rattle.lane.specs.EndFields.{sent_lists, taken_lists, gathering_in}
use Rattle.lane.specs.Ends.{Lane, PutEndView, TakeEndView, ArePutsFrom, AreTakesFrom}
use Rattle.lane.specs.inner.Kept.{IsJoining, IsStopping, IsGathering, IsAllIn}
use Rattle.lane.proofs.Lists.{all_more}
use Rattle.lane.proofs.Rules.{part_joins, sents_all, tooks_all, free_parts, ended_view, looked}

-- the put parts alone, with no take part after them
puts_alone : (c : ℕ) (sent : List (List Taken)) → put_parts c 0 sent ≡ put_parts c 0 sent ++ take_parts c 0 []
puts_alone c sent = sym (append-nil (put_parts c 0 sent))

sents_alone : (c : ℕ) (sent : List (List Taken)) → sent_lists (put_parts c 0 sent) ≡ sent
sents_alone c sent = ap sent_lists (puts_alone c sent) ∙ sents_all c 0 0 sent []

tooks_alone : (c : ℕ) (sent : List (List Taken)) → taken_lists (put_parts c 0 sent) ≡ []
tooks_alone c sent = ap taken_lists (puts_alone c sent) ∙ tooks_all c 0 0 sent []

module _ (size : Size) (lane : Lane) (all : List PutEndView) where
  pub join_more : (v u : List Part) (p : PutEndView) (rest : List PutEndView) (n k : ℕ) → IsJoining size lane all (p ∷ rest) v n
      → u ≡ v ++ Put p.file size.capacity p.sent ∷ [] → has_end p.sent ≡ true → k ≡ row_count p.sent → k ≤ 1000000
      → IsJoining size lane all rest u (n + k)
  join_more v u p rest n k h e ended count few =
      let lists : List (List Taken) = sent_lists v in
      let is : u ≡ Close size.files size.takers size.capacity 0 0 ∷ put_parts size.capacity 0 (lists ++ p.sent ∷ []) =
      e ∙ (ap (λ (x : List Part). x ++ Put p.file size.capacity p.sent ∷ []) h.part
      ∙ (ap (λ i. (Close size.files size.takers size.capacity 0 0 ∷ put_parts size.capacity 0 lists) ++ Put i size.capacity p.sent ∷ []) h.puts.1
      ∙ part_joins (λ i l. Put i size.capacity l) (Close size.files size.takers size.capacity 0 0 ∷ []) lists p.sent)) in
      let new : sent_lists u ≡ lists ++ p.sent ∷ [] = ap sent_lists is ∙ sents_alone size.capacity (lists ++ p.sent ∷ []) in
      let longer : length (sent_lists u) ≡ length lists + 1 =
      ap (λ (l : List (List Taken)). length l) new ∙ length-append lists (p.sent ∷ []) in
      record {
        part = is ∙ ap (λ l. Close size.files size.takers size.capacity 0 0 ∷ put_parts size.capacity 0 l) (sym new);
        lists = ap (λ l. l ++ map (λ q. q.sent) rest) new ∙ (append_assoc lists (p.sent ∷ []) (map (λ q. q.sent) rest) ∙ h.lists);
        puts = subst (λ i. ArePutsFrom lane size.files i rest) (sym longer) h.puts.2;
        ended = subst (AllByRecursion (λ l. has_end l ≡ true)) (sym new) (all_more (λ l. has_end l ≡ true) lists p.sent h.ended ended);
        rows = ap (sum_by row_count) new ∙ (sum_by_push row_count lists p.sent ∙ (λ i. h.rows i + sym count i));
        few = let old = h.few in omega arith;
      }

pub may_stop : (v : List Part) (files takers c k : ℕ) (sent : List (List Taken)) → v ≡ Close files takers c k 0 ∷ put_parts c 0 sent
    → length sent ≡ files → AllByRecursion (λ l. has_end l ≡ true) sent → k < takers → MaySend c v Stop
may_stop v files takers c k sent e len ended l =
    subst (λ u. MaySend c u Stop) (sym e) (free_parts Closer (λ i l. Put i c l) 0 sent (λ j l le. λ (x : Some (Putter j) ≡ Some Closer). cc), refl, (ended_view files c sent len ended, refl, l))

module _ (takers c : ℕ) (lane : Lane) (all : List TakeEndView) where
  pub gather_begin : (v : List Part) → IsStopping v takers c → AreTakesFrom lane takers 0 all
      → All (λ (t : TakeEndView). is_done t.took ≡ true) all → IsGathering (record { files = length (sent_lists v); takers = takers; capacity = c }) lane (sent_lists v) all all v
  gather_begin v h takes done =
      let none : taken_lists v ≡ [] = ap taken_lists h.part ∙ tooks_alone c (sent_lists v) in
      record {
        part = h.part ∙ (ap (λ x. Close (length (sent_lists v)) takers c takers 0 ∷ x) (puts_alone c (sent_lists v))
            ∙ ap (λ l. full_view (length (sent_lists v)) takers c (sent_lists v) l) (sym none));
        lists = ap (λ l. l ++ map (λ t. t.took) all) none;
        takes = subst (λ (l : List (List Taken)). AreTakesFrom lane takers (length l) all) (sym none) takes;
        done = subst (AllByRecursion (λ l. is_done l ≡ true)) (sym none) tt;
        rest_done = recursion_from_All (λ (t : TakeEndView). is_done t.took ≡ true) all done;
      }

module _ (size : Size) (lane : Lane) (all : List TakeEndView) (sent : List (List Taken)) where
  pub gather_more : (v u : List Part) (t : TakeEndView) (rest : List TakeEndView) → IsGathering size lane sent all (t ∷ rest) v
      → u ≡ v ++ Take t.taker size.capacity t.took ∷ [] → IsGathering size lane sent all rest u
  gather_more v u t rest h e =
      let lists : List (List Taken) = taken_lists v in
      let is : u ≡ full_view size.files size.takers size.capacity sent (lists ++ t.took ∷ []) =
      e ∙ (ap (λ (x : List Part). x ++ Take t.taker size.capacity t.took ∷ []) h.part
      ∙ (ap (λ i. full_view size.files size.takers size.capacity sent lists ++ Take i size.capacity t.took ∷ []) h.takes.1
      ∙ part_joins (λ i l. Take i size.capacity l) (Close size.files size.takers size.capacity size.takers 0 ∷ put_parts size.capacity 0 sent) lists t.took)) in
      let new : taken_lists u ≡ lists ++ t.took ∷ [] = ap taken_lists is ∙ tooks_all size.capacity 0 0 sent (lists ++ t.took ∷ []) in
      let longer : length (taken_lists u) ≡ length lists + 1 =
      ap (λ (l : List (List Taken)). length l) new ∙ length-append lists (t.took ∷ []) in
      record {
        part = is ∙ ap (λ l. full_view size.files size.takers size.capacity sent l) (sym new);
        lists = ap (λ l. l ++ map (λ q. q.took) rest) new ∙ (append_assoc lists (t.took ∷ []) (map (λ q. q.took) rest) ∙ h.lists);
        takes = subst (λ i. AreTakesFrom lane size.takers i rest) (sym longer) h.takes.2;
        done = subst (AllByRecursion (λ l. is_done l ≡ true)) (sym new)
            (all_more (λ l. is_done l ≡ true) lists t.took h.done h.rest_done.0);
        rest_done = h.rest_done.1;
      }

  pub gather_done : (v : List Part) → IsGathering size lane sent all [] v → length sent ≡ size.files → 0 < size.takers
      → IsAllIn v size.takers size.capacity × (sent_lists v ≡ sent) × (taken_lists v ≡ map (λ t. t.took) all)
  gather_done v h len some =
      let same : sent_lists v ≡ sent = ap sent_lists h.part ∙ sents_all size.capacity 0 0 sent (taken_lists v) in
      let count : length (sent_lists v) ≡ size.files = ap (λ (l : List (List Taken)). length l) same ∙ len in (
        record {
          part = h.part ∙ (λ i. full_view (sym count i) size.takers size.capacity (sym same i) (taken_lists v));
          full = record { all_files = refl; all_takers = h.takes; some_taker = some; done = h.done };
        },
        same,
        sym (append-nil (taken_lists v)) ∙ h.lists,
      )

pub look_empty : (pass : ℕ) (v : List Part) (takers c : ℕ) → IsAllIn v takers c → Pops IsLane pass v (λ x w. ⊥)
look_empty pass v takers c h x items views l at = absurd (let e = (looked pass v takers c h (x ∷ items) views l at).0 in cc)

pub look_whole : (pass : ℕ) (v : List Part) (takers c : ℕ) → IsAllIn v takers c → Learns IsLane pass v (λ items. IsWhole (gathering_in v))
look_whole pass v takers c h items views l at = (looked pass v takers c h items views l at).1

-- a list that is used up has one item less
pub one_less : {A : Type 0} (l r : List A) (x : A) (n m : ℕ) → n ≡ length l → l ≡ x ∷ r → n ≡ m + 1 → m ≡ length r
one_less l r x n m a e b = let short = ap (λ (k : List _). length k) e in omega arith

pub nothing_remains : {A : Type 0} (l : List A) → length l ≡ 0 → l ≡ []
nothing_remains [] h = refl
nothing_remains (x ∷ xs) h = absurd (omega arith)
