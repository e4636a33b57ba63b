-- What follows from a lawful lane: what one taker took is in order. Once all Stops were put and every taker is done, the messages gathered
-- are complete.
use Rattle.std.proofs.Common.{◌≡◌, ⊎_elim, ℕ, zero, suc, ◌+◌, ◌<◌, ◌≤◌, Bool, true, cond, List, [], ◌∷◌, length, take, drop, get_or, slice_get, Some, None, refl, sym, ap, ◌∙◌, subst, arith, count_by, sum_by, length-drop, All, false, map}
use Rattle.std.specs.List.{AllByRecursion}
use Rattle.std.proofs.lemmas.Bool.{cases_lt, lt-ltb, false≢true, true≢false, eq-eqb}
use Rattle.std.proofs.lemmas.List.Elements.{All-from_recursion, recursion_from_All}
use Rattle.std.proofs.lemmas.List.Sums.{sum_by_push}
use Rattle.std.proofs.lemmas.Option.{slice_get_within, slice_get-get_or}
use Rattle.std.proofs.Math.Seq.{take-suc, take-length}
use Rattle.lane.specs.declared.message.Taken.{Taken}
use Rattle.lane.specs.declared.message.Taken.TheVariants.{Row, End, Stop, Quit}
use Rattle.lane.specs.Message.{of, is_at, IsEndedFrom, Rises, EndsInStop, is_of, position}
use Rattle.lane.specs.MessageKinds.{is_stop, is_quit, is_done}
use Rattle.lane.specs.MessageOrders.{MarksLast, AreStops, EndsClose, IsFrom}
use Rattle.lane.specs.Machine.{Size, State}
use Rattle.lane.specs.Lawful.{over, IsPlaced, IsLawful}
use Rattle.lane.specs.Whole.{IsSent, IsWhole}
use Rattle.lane.proofs.Lists.{all_weaker, all_get, all_at, some_at, count_front, over_le}
use Rattle.lane.proofs.Messages.{ended_from, counted_none, front_yes, placed_below, from_place}
use Rattle.std.specs.List.Sorted.{IsStrictlyIncreasing}
use Rattle.std.proofs.lemmas.List.Kept.{AllPairs-from_increasing}
use Rattle.lane.specs.inner.Views.{IsOrdered}

rising_tail : (m : Taken) (rest : List Taken) (b : Bool) → IsStrictlyIncreasing (map position (cond b (m ∷ rest) rest))
    → IsStrictlyIncreasing (map position rest)
rising_tail m rest true h k within =
    AllPairs-from_increasing (position m ∷ map position rest) h (suc k) (suc (k + 1)) 0 (omega arith) (omega arith)
rising_tail m rest false h k within = h k within

rises_tail : (m : Taken) (ms : List Taken) → Rises (m ∷ ms) → Rises ms
rises_tail m ms h f = rising_tail m (of f ms) (is_of f m) (h f)

none_between : (n k : ℕ) (ms : List Taken) → AllByRecursion (λ p. n < p) (map position ms) → AllByRecursion (λ p. p < k) (map position ms)
    → k ≤ n + 1 → ms ≡ []
none_between n k [] a b l = refl
none_between n k (m ∷ ms) a b l = absurd (let x = a.0 in let y = b.0 in let z : ⊥ = omega arith in z)

-- if all rows are at their positions and rise, nothing follows an end mark
ends_close : (sent : ℕ → List Taken) (taken : ℕ → ℕ) → ((f : ℕ) → IsFrom f 0 (sent f)) → ((f : ℕ) → taken f ≤ length (sent f))
    → (ms : List Taken) → AllByRecursion (IsPlaced sent taken) ms → Rises ms → EndsClose ms
ends_close sent taken lists within [] h r = tt
ends_close sent taken lists within (End f n ∷ ms) h r =
    let all : IsStrictlyIncreasing (n ∷ map position (of f ms)) =
    subst (λ (l : List Taken). IsStrictlyIncreasing (map position l)) (front_yes f (End f n) ms (eq-eqb f f refl)) (r f) in
    let last : length (sent f) ≡ suc n = (from_place f 0 (sent f) n (End f n) (lists f) h.0.1).2 refl in
    let above = recursion_from_All (λ p. n < p) (map position (of f ms))
    (λ k d within. AllPairs-from_increasing (n ∷ map position (of f ms)) all 0 (suc k) d (omega arith) (omega arith)) in (
      none_between n (taken f) (of f ms) above (placed_below sent taken f ms h.1) (omega (arith, last, within f)),
      ends_close sent taken lists within ms h.1 (rises_tail (End f n) ms r),
    )
ends_close sent taken lists within (m ∷ ms) h r = ends_close sent taken lists within ms h.1 (rises_tail m ms r)

pub ordered : (n : Size) (s : State) (w : ℕ) → IsLawful n s → IsOrdered (s.took w)
ordered n s w h =
    record { rises = h.rises w; ends = ends_close s.sent h.taken h.lists h.within (s.took w) (h.placed w) (h.rises w); marks = h.marks w }

over_least : (n : ℕ) (g : ℕ → ℕ) → ((k : ℕ) → k < n → 1 ≤ g k) → n ≤ over n g
over_least zero g h = omega arith
over_least (suc n) g h = let r = over_least n g (λ k l. h k (omega arith)) in let l =
    h n (omega arith) in let goal : suc n ≤ over n g + g n = omega arith in goal

-- the sum over the first lists is the sum over their takers
sum_front : (F : List Taken → ℕ) (took : ℕ → List Taken) (lists : List (List Taken))
    → ((i : ℕ) (l : List Taken) → slice_get lists i ≡ Some l → l ≡ took i) → (n : ℕ) → n ≤ length lists
    → sum_by F (take n lists) ≡ over n (λ j. F (took j))
sum_front F took lists h zero l = refl
sum_front F took lists h (suc n) l =
    let is : get_or lists n [] ≡ took n = h n _ (slice_get-get_or lists n [] (omega arith)) in
    ap (sum_by F) (take-suc lists n [] (omega arith))
    ∙ (sum_by_push F (take n lists) (get_or lists n []) ∙ (λ i. sum_front F took lists h n (omega arith) i + F (is i)))

-- a done taker that took no Quit took a Stop, which is its last message
ends_in_stop : (ms : List Taken) → is_done ms ≡ true → count_by is_quit ms ≡ 0 → MarksLast ms → EndsInStop ms
ends_in_stop [] d q m = absurd (false≢true d)
ends_in_stop (Stop ∷ ms) d q m = m.0 refl
ends_in_stop (Quit ∷ ms) d q m = absurd (let c = count_front is_quit Quit ms in let z : ⊥ = omega arith in z)
ends_in_stop (x ∷ ms) d q m = ends_in_stop ms d (omega (arith, count_front is_quit x ms)) m.1

has_stop : (ms : List Taken) → EndsInStop ms → 1 ≤ count_by is_stop ms
has_stop [] h = absurd h
has_stop (Stop ∷ ms) h = omega (arith, count_front is_stop Stop ms)
has_stop (Quit ∷ ms) h = absurd h
has_stop (x ∷ ms) h = omega (arith, count_front is_stop x ms, has_stop ms h)

no_stops_remain : (ms : List Taken) → AreStops ms → count_by is_stop ms ≡ 0 → ms ≡ []
no_stops_remain [] h c = refl
no_stops_remain (m ∷ ms) h c =
    absurd (true≢false (sym h.0 ∙ (counted_none (is_stop m) (count_by is_stop ms) (sym (count_front is_stop m ms) ∙ c)).0))

-- all Stops were put, and these are the lists of the lane's files and takers, who are all done
module _ (n : Size) (s : State) (h : IsLawful n s) (sent took : List (List Taken))
    (files : length sent ≡ n.files) (takers : length took ≡ n.takers) (some' : 0 < n.takers)
    (sent_is : (f : ℕ) (l : List Taken) → slice_get sent f ≡ Some l → l ≡ s.sent f)
    (took_is : (w : ℕ) (l : List Taken) → slice_get took w ≡ Some l → l ≡ s.took w)
    (done : AllByRecursion (λ l. is_done l ≡ true) took) (stops : s.stops ≡ n.takers) where
  no_quits : s.quits ≡ 0
  no_quits = ⊎_elim (λ (z : s.stops ≡ 0). absurd (omega arith)) (λ (z : s.quits ≡ 0). z) h.one_kind

  taken_quits : (w : ℕ) → w < n.takers → count_by is_quit (s.took w) ≡ 0
  taken_quits w l = let c = over_le n.takers (λ v. count_by is_quit (s.took v)) w l in omega (arith, h.quits, no_quits)

  taker_done : (w : ℕ) → w < n.takers → is_done (s.took w) ≡ true
  taker_done w l = let x = some_at took w (omega arith) in ap is_done (sym (took_is w x.0 x.1)) ∙ all_get (λ l. is_done l ≡ true) took w x.0 done x.1

  taker_stops : (w : ℕ) → w < n.takers → EndsInStop (s.took w)
  taker_stops w l = ends_in_stop (s.took w) (taker_done w l) (taken_quits w l) (h.marks w)

  pub queue_empty : s.queue ≡ []
  queue_empty =
      let all = over_least n.takers (λ w. count_by is_stop (s.took w)) (λ w l. has_stop (s.took w) (taker_stops w l)) in
      no_stops_remain s.queue (h.stopped 0
      (let c = has_stop (s.took 0) (taker_stops 0 some') in let z : 0 < count_by is_stop (s.took 0) =
      omega arith in z)) (omega (arith, h.stops, all))

  all_taken : (f : ℕ) → h.taken f ≡ length (s.sent f)
  all_taken f =
      let e : [] ≡ drop (h.taken f) (s.sent f) = ap (of f) (sym queue_empty) ∙ h.rest f in
      let l = ap (λ (x : List Taken). length x) e in
      omega (arith, length-drop (h.taken f) (s.sent f), h.within f)

  sent_here : (f : ℕ) (p : ℕ) (m : Taken) → slice_get (s.sent f) p ≡ Some m → (l : List Taken) × (slice_get sent f ≡ Some l)
      × (slice_get l p ≡ Some m)
  sent_here f p m e =
      let below : f < n.files = ⊎_elim (λ (l : f < n.files). l) (λ (l : n.files ≤ f). absurd (let q : slice_get (s.sent f) p ≡ None =
      ap (λ (x : List Taken). slice_get x p) (h.files f l) in let z : ⊥ = cc in z)) (cases_lt f n.files) in
      let x = some_at sent f (omega arith) in
      (x.0, x.1, ap (λ (l : List Taken). slice_get l p) (sent_is f x.0 x.1) ∙ e)

  was_sent : (m : Taken) → IsPlaced s.sent h.taken m → IsSent sent m
  was_sent (Row f p b) q = sent_here f p (Row f p b) q.1
  was_sent (End f k) q = sent_here f k (End f k) q.1
  was_sent _ q = tt

  pub whole : (capacity : ℕ) → IsWhole (record { capacity = capacity; sent = sent; took = took })
  whole capacity = record {
    sents = λ f l e.
        let same = sent_is f l e in
        let below : f < n.files = let z = slice_get_within sent f l e in omega arith in
        subst (IsEndedFrom f 0) (sym same) (ended_from f 0 (s.sent f) (h.lists f) (h.ended (omega arith) f below));
    once = λ f p l e below.
        let same = ap (λ (x : List Taken). length x) (sent_is f l e) in
        let F : List Taken → ℕ = λ x. count_by (is_at f p) x in
        ap (sum_by F) (sym (take-length took))
        ∙ (sum_front F s.took took took_is (length took) (omega arith) ∙ ap (λ k. over k (λ j. F (s.took j))) takers)
        ∙ (h.once f p ∙ ap (λ (b : Bool). cond {A = ℕ} b 1 0) (lt-ltb p (h.taken f) (omega (arith, all_taken f))));
    only = All-from_recursion (λ (x : List Taken). All (IsSent sent) x) took (all_at (λ (x : List Taken). All (IsSent sent) x) took
        (λ w l e. All-from_recursion (IsSent sent) l
        (all_weaker (IsPlaced s.sent h.taken) (IsSent sent) was_sent l
        (subst (AllByRecursion (IsPlaced s.sent h.taken)) (sym (took_is w l e)) (h.placed w)))));
    stops = All-from_recursion EndsInStop took
        (all_at EndsInStop took (λ w l e. subst EndsInStop (sym (took_is w l e))
        (taker_stops w (let z = slice_get_within took w l e in omega arith))));
    rises = All-from_recursion Rises took (all_at Rises took (λ w l e. subst Rises (sym (took_is w l e)) (h.rises w)));
  }
