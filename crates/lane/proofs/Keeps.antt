-- Every allowed event of the machine leaves a lawful state.
use Rattle.std.proofs.Common.{◌≡◌, ⊎_elim, inl, inr, ℕ, suc, ◌+◌, ◌<◌, ◌≤◌, Bool, true, false, cond, ◌==◌, ◌&&◌, nat_lt, List, [], ◌∷◌, ◌++◌, length, map, drop, slice_get, Some, refl, sym, ap, ◌∙◌, subst, arith, count_by, length-append}
use Rattle.std.specs.List.{AllByRecursion}
use Rattle.std.specs.List.Sorted.{IsStrictlyIncreasing}
use Rattle.std.proofs.lemmas.Bool.{cases_Bool, cases_lt, eq-eqb, le-ltb, true≢false}
use Rattle.std.proofs.lemmas.Bool.Decides.{nat_tests}
use Rattle.std.proofs.lemmas.List.{drop-append-le, map-append}
use Rattle.lane.specs.declared.message.Taken.{Taken}
use Rattle.lane.specs.declared.message.Taken.TheVariants.{Row, End, Stop, Quit}
use Rattle.lane.specs.Message.{is_of, of, position, is_at, Rises}
use Rattle.lane.specs.MessageKinds.{is_stop, is_quit, is_mark, row_count, has_end, is_done}
use Rattle.lane.specs.MessageOrders.{IsFrom, MarksLast, AreStops, StopsLast}
use Rattle.lane.specs.Machine.{Size, State, opening, Event, PutRow, PutEnd, PutStop, PutQuit, TakeNext, HasRoom, Allowed, with_at, put, take_front, take_next, after, after_all, AreAllowed, IsReached}
use Rattle.lane.specs.Lawful.{over, IsPlaced, IsLawful}
use Rattle.lane.proofs.Lists.{all_more, all_weaker, get_more, drop_front, count_more, count_front, with_at_all, with_at_here, over_zero, over_le, over_at}
use Rattle.lane.proofs.Messages.{rising_more, of_yes, of_no, front_yes, front_no, one_file, of_one, mark_of_none, of_is_no_mark, from_more, rows_all, from_place, placed_all, placed_later, placed_below, marks_more, stops_none, stops_more}

pub begins : (n : Size) → IsLawful n opening
begins n = record {
  lists = λ f. tt;
  files = λ f _. refl;
  takers = λ w _. refl;
  taken = λ f. 0;
  within = λ f. omega arith;
  once = λ f p. over_zero n.takers (λ w. 0) (λ k. refl) ∙ sym (ap (λ (b : Bool). cond {A = ℕ} b 1 0) (le-ltb p 0 (omega arith)));
  placed = λ w. tt;
  rises = λ w f k within. absurd (omega arith);
  rest = λ f. refl;
  stops_last = tt;
  stopped = λ w _. tt;
  ended = λ l. absurd (omega arith);
  room = omega arith;
  stops = omega (arith, over_zero n.takers (λ w. 0) (λ k. refl));
  quits = omega (arith, over_zero n.takers (λ w. 0) (λ k. refl));
  few_stops = omega arith;
  few_quits = omega arith;
  one_kind = inl refl;
  marks = λ w. tt;
}

module _ (n : Size) (s : State) (h : IsLawful n s) where
  -- a file that may still send: no Stop was put
  no_stops : (f : ℕ) → f < n.files → has_end (s.sent f) ≡ false → s.stops ≡ 0
  no_stops f l e = ⊎_elim (λ (some : 0 < s.stops). absurd (true≢false (sym (h.ended some f l) ∙ e))) (λ (none : s.stops
      ≤ 0). let z : s.stops ≡ 0 = omega arith in z) (cases_lt 0 s.stops)

  none_queued : s.stops ≡ 0 → count_by is_stop s.queue ≡ 0
  none_queued z = omega (arith, h.stops)

  none_taken : s.stops ≡ 0 → (w : ℕ) → count_by is_stop (s.took w) ≡ 0
  none_taken z w =
      ⊎_elim (λ (l : w < n.takers). let c =
      over_le n.takers (λ v. count_by is_stop (s.took v)) w l in let z' : count_by is_stop (s.took w) ≡ 0 =
      omega (arith, h.stops) in z')
      (λ (l : n.takers ≤ w). ap (λ (ms : List Taken). count_by is_stop ms) (h.takers w l))
      (cases_lt w n.takers)

  puts : (f : ℕ) (m : Taken) → HasRoom n s → f < n.files → has_end (s.sent f) ≡ false → is_of f m ≡ true → IsFrom f 0 (s.sent f ++ m ∷ [])
      → IsLawful n (put f m s)
  puts f m room below open' is new =
      let z = no_stops f below open' in
      let data' = of_is_no_mark f m is in
      record {
        lists = with_at_all (λ j l. IsFrom j 0 l) s.sent f (s.sent f ++ m ∷ []) new (λ j _. h.lists j);
        files = with_at_all (λ j l. n.files ≤ j → l ≡ []) s.sent f (s.sent f ++ m ∷ []) (λ l. absurd (omega arith)) (λ j _. h.files j);
        takers = h.takers;
        taken = h.taken;
        within = with_at_all (λ j l. h.taken j ≤ length l) s.sent f
            (s.sent f ++ m ∷ []) (omega (arith, h.within f, length-append (s.sent f) (m ∷ []))) (λ j _. h.within j);
        once = h.once;
        placed = λ w. all_weaker (IsPlaced s.sent h.taken) (IsPlaced (put f m s).sent h.taken)
            (placed_later s.sent (put f m s).sent h.taken h.taken
            (λ g p x e. with_at_all (λ j l. slice_get (s.sent j) p ≡ Some x → slice_get l p ≡ Some x) s.sent f
            (s.sent f ++ m ∷ []) (get_more (s.sent f) (m ∷ []) p x) (λ j _ q. q) g e)
            (λ g. omega arith))
            (s.took w) (h.placed w);
        rises = h.rises;
        rest = with_at_all (λ j l. of j (s.queue ++ m ∷ []) ≡ drop (h.taken j) l) s.sent f (s.sent f ++ m ∷ [])
            (of_yes f s.queue m is ∙ (ap (λ l. l ++ m ∷ []) (h.rest f) ∙ sym (drop-append-le (h.taken f) (s.sent f) (m ∷ []) (h.within f))))
            (λ j ne. of_no j s.queue m (of_one f j m is ne) ∙ h.rest j);
        stops_last = stops_none s.queue m (none_queued z);
        stopped = λ w some. absurd (let c = none_taken z w in let bad : ⊥ = omega arith in bad);
        ended = λ some. absurd (omega arith);
        room = omega (arith, length-append s.queue (m ∷ []));
        stops = omega (arith, h.stops, count_more is_stop s.queue m, ap (λ (b : Bool). cond {A = ℕ} b 1 0) data'.0);
        quits = omega (arith, h.quits, count_more is_quit s.queue m, ap (λ (b : Bool). cond {A = ℕ} b 1 0) data'.1);
        few_stops = h.few_stops;
        few_quits = h.few_quits;
        one_kind = h.one_kind;
        marks = h.marks;
      }

  put_stop : Allowed n s PutStop → IsLawful n (after s PutStop)
  put_stop a = record {
    lists = h.lists;
    files = h.files;
    takers = h.takers;
    taken = h.taken;
    within = h.within;
    once = h.once;
    placed = h.placed;
    rises = h.rises;
    rest = λ j. of_no j s.queue Stop refl ∙ h.rest j;
    stops_last = stops_more s.queue h.stops_last;
    stopped = λ w some. all_more (λ m. is_stop m ≡ true) s.queue Stop (h.stopped w some) refl;
    ended = λ _. a.1;
    room = omega (arith, a.0, length-append s.queue (Stop ∷ []));
    stops = omega (arith, h.stops, count_more is_stop s.queue Stop);
    quits = omega (arith, h.quits, count_more is_quit s.queue Stop);
    few_stops = omega (arith, a.3);
    few_quits = h.few_quits;
    one_kind = inr a.2;
    marks = h.marks;
  }

  put_quit : Allowed n s PutQuit → IsLawful n (after s PutQuit)
  put_quit a = record {
    lists = h.lists;
    files = h.files;
    takers = h.takers;
    taken = h.taken;
    within = h.within;
    once = h.once;
    placed = h.placed;
    rises = h.rises;
    rest = λ j. of_no j s.queue Quit refl ∙ h.rest j;
    stops_last = stops_none s.queue Quit (none_queued a.1);
    stopped = λ w some. absurd (let c = none_taken a.1 w in let bad : ⊥ = omega arith in bad);
    ended = λ some. absurd (omega (arith, a.1));
    room = omega (arith, a.0, length-append s.queue (Quit ∷ []));
    stops = omega (arith, h.stops, count_more is_stop s.queue Quit);
    quits = omega (arith, h.quits, count_more is_quit s.queue Quit);
    few_stops = h.few_stops;
    few_quits = omega (arith, a.2);
    one_kind = inl a.1;
    marks = h.marks;
  }

  -- the first message leaves: taken' is the number of messages of each file taken then
  module _ (w : ℕ) (m : Taken) (rest : List Taken)
      (front : s.queue ≡ m ∷ rest) (below : w < n.takers) (undone : is_done (s.took w) ≡ false) where
    counted : (p : Taken → Bool) → over n.takers (λ v. count_by p (with_at s.took w (s.took w ++ m ∷ []) v))
        ≡ over n.takers (λ v. count_by p (s.took v)) + cond (p m) 1 0
    counted p =
        let a = over_at (λ (ms : List Taken). count_by p ms) n.takers s.took w (s.took w ++ m ∷ []) below in
        let b = count_more p (s.took w) m in
        omega arith

    -- what the queue loses, the taker gets
    moved : (p : Taken → Bool) → count_by p rest + over n.takers (λ v. count_by p (with_at s.took w (s.took w ++ m ∷ []) v))
        ≡ count_by p s.queue + over n.takers (λ v. count_by p (s.took v))
    moved p =
        let c : count_by p s.queue ≡ cond (p m) 1 0 + count_by p rest =
        ap (λ (ms : List Taken). count_by p ms) front ∙ count_front p m rest in
        omega (arith, counted p)

    stopped_then : (v : ℕ) → 0 < count_by is_stop (with_at s.took w (s.took w ++ m ∷ []) v) → AreStops rest
    stopped_then =
        let queued : StopsLast (m ∷ rest) = subst StopsLast front h.stops_last in
        let P : ℕ → List Taken → Type 0 = λ v l. 0 < count_by is_stop l → AreStops rest in
        let all_stops : (v : ℕ) → 0 < count_by is_stop (s.took v) → AreStops rest = λ v some. (subst AreStops front (h.stopped v some)).1 in
        with_at_all P s.took w (s.took w ++ m ∷ [])
        (λ some. ⊎_elim (λ (t : is_stop m ≡ true). queued.0 t)
        (λ (t : is_stop m ≡ false). all_stops w
        (let c = count_more is_stop (s.took w) m in let d =
        ap (λ (b : Bool). cond {A = ℕ} b 1 0) t in let l : 0 < count_by is_stop (s.took w) = omega arith in l))
        (cases_Bool (is_stop m)))
        (λ v _. all_stops v)

    module _ (taken' : ℕ → ℕ) (grows : (j : ℕ) → h.taken j ≤ taken' j) (within' : (j : ℕ) → taken' j ≤ length (s.sent j))
        (counts : (j p : ℕ) → cond {A = ℕ} (nat_lt p (h.taken j)) 1 0 + cond (is_at j p m) 1 0 ≡ cond (nat_lt p (taken' j)) 1 0)
        (here : IsPlaced s.sent taken' m) (next : (j : ℕ) → is_of j m ≡ true → position m ≡ h.taken j)
        (rest' : (j : ℕ) → of j rest ≡ drop (taken' j) (s.sent j)) where
      rises_then : Rises (s.took w ++ m ∷ [])
      rises_then j =
          ⊎_elim
          (λ (t : is_of j m ≡ true).
          let e : map position (of j (s.took w ++ m ∷ [])) ≡ map position (of j (s.took w)) ++ position m ∷ [] =
          ap (map position) (of_yes j (s.took w) m t) ∙ map-append position (of j (s.took w)) (m ∷ []) in
          subst IsStrictlyIncreasing (sym e)
          (rising_more (map position (of j (s.took w))) (position m) (h.rises w j)
          (subst (λ k. AllByRecursion (λ p. p < k) (map position (of j (s.took w)))) (sym (next j t))
          (placed_below s.sent h.taken j (s.took w) (h.placed w)))))
          (λ (t : is_of j m ≡ false). subst (λ (l : List Taken). IsStrictlyIncreasing (map position l))
          (sym (of_no j (s.took w) m t)) (h.rises w j))
          (cases_Bool (is_of j m))

      takes : IsLawful n (take_front w m rest s)
      takes = record {
        lists = h.lists;
        files = h.files;
        takers = with_at_all (λ v l. n.takers ≤ v → l ≡ []) s.took w (s.took w ++ m ∷ []) (λ l. absurd (omega arith)) (λ v _. h.takers v);
        taken = taken';
        within = within';
        once = λ j p. counted (is_at j p) ∙ (ap (λ k. k + cond (is_at j p m) 1 0) (h.once j p) ∙ counts j p);
        placed = with_at_all (λ v l. AllByRecursion (IsPlaced s.sent taken') l) s.took w (s.took w ++ m ∷ [])
            (all_more (IsPlaced s.sent taken') (s.took w) m
            (all_weaker (IsPlaced s.sent h.taken) (IsPlaced s.sent taken') (placed_later s.sent s.sent h.taken taken' (λ f p x e. e) grows)
            (s.took w) (h.placed w)) here)
            (λ v _. all_weaker (IsPlaced s.sent h.taken) (IsPlaced s.sent taken')
            (placed_later s.sent s.sent h.taken taken' (λ f p x e. e) grows) (s.took v) (h.placed v));
        rises = with_at_all (λ v l. Rises l) s.took w (s.took w ++ m ∷ []) rises_then (λ v _. h.rises v);
        rest = rest';
        stops_last = (subst StopsLast front h.stops_last).1;
        stopped = stopped_then;
        ended = h.ended;
        room = omega (arith, h.room, ap (λ (l : List Taken). length l) front);
        stops = moved is_stop ∙ h.stops;
        quits = moved is_quit ∙ h.quits;
        few_stops = h.few_stops;
        few_quits = h.few_quits;
        one_kind = h.one_kind;
        marks = with_at_all (λ v l. MarksLast l) s.took w (s.took w ++ m ∷ []) (marks_more (s.took w) m undone) (λ v _. h.marks v);
      }

-- one more message leaves: the first k + 1 positions are the first k and position k
one_more : (p k : ℕ) → cond {A = ℕ} (nat_lt p k) 1 0 + cond (k == p) 1 0 ≡ cond (nat_lt p (k + 1)) 1 0
one_more p k = grind (arith, nat_tests)

module _ (n : Size) (s : State) (h : IsLawful n s) (w : ℕ) (m : Taken) (ms : List Taken)
    (front : s.queue ≡ m ∷ ms) (below : w < n.takers) (undone : is_done (s.took w) ≡ false) where
  take_mark : is_mark m ≡ true → IsLawful n (take_front w m ms s)
  take_mark t =
      takes n s h w m ms front below undone h.taken (λ j. omega arith) h.within
      (λ j p. ap (λ (b : Bool). cond {A = ℕ} (nat_lt p (h.taken j)) 1 0 + cond (b && (position m == p)) 1 0) (mark_of_none j m t)
      ∙ (let z : cond {A = ℕ} (nat_lt p (h.taken j)) 1 0 + 0 ≡ cond (nat_lt p (h.taken j)) 1 0 = omega arith in z))
      (placed_all s.sent h.taken m (λ j e. absurd (true≢false (sym e ∙ mark_of_none j m t))))
      (λ j e. absurd (true≢false (sym e ∙ mark_of_none j m t)))
      (λ j. sym (front_no j m ms (mark_of_none j m t)) ∙ (sym (ap (of j) front) ∙ h.rest j))

  take_of : (f : ℕ) → is_of f m ≡ true → IsLawful n (take_front w m ms s)
  take_of f is =
      let taken' : ℕ → ℕ = with_at h.taken f (h.taken f + 1) in
      let here : taken' f ≡ h.taken f + 1 = with_at_here h.taken f (h.taken f + 1) in
      let d = drop_front (s.sent f) (h.taken f) m (of f ms) (sym (h.rest f) ∙ (ap (of f) front ∙ front_yes f m ms is)) in
      let at' : position m ≡ h.taken f = let r = (from_place f 0 (s.sent f) (h.taken f) m (h.lists f) d.0).1 in omega arith in
      takes n s h w m ms front below undone taken'
      (with_at_all (λ j l. h.taken j ≤ l) h.taken f (h.taken f + 1) (omega arith) (λ j _. omega arith))
      (with_at_all (λ j l. l ≤ length (s.sent j)) h.taken f (h.taken f + 1) (omega (arith, d.2)) (λ j _. h.within j))
      (λ j p. with_at_all (λ i l. cond {A = ℕ} (nat_lt p (h.taken i)) 1 0 + cond (is_at i p m) 1 0 ≡ cond (nat_lt p l) 1 0) h.taken f
      (h.taken f + 1)
      (ap (λ (b : Bool). cond {A = ℕ} (nat_lt p (h.taken f)) 1 0 + cond (b && (position m == p)) 1 0) is
      ∙ (ap (λ (k : ℕ). cond {A = ℕ} (nat_lt p (h.taken f)) 1 0 + cond (k == p) 1 0) at' ∙ one_more p (h.taken f)))
      (λ i ne. ap (λ (b : Bool). cond {A = ℕ} (nat_lt p (h.taken i)) 1 0 + cond (b && (position m == p)) 1 0) (of_one f i m is ne)
      ∙ (let z : cond {A = ℕ} (nat_lt p (h.taken i)) 1 0 + 0 ≡ cond (nat_lt p (h.taken i)) 1 0 = omega arith in z))
      j)
      (placed_all s.sent taken' m (λ j e. subst (λ i. (position m < taken' i) × (slice_get (s.sent i) (position m) ≡ Some m))
      (sym (one_file f j m is e)) (omega (arith, at', here), ap (slice_get (s.sent f)) at' ∙ d.0)))
      (λ j e. at' ∙ ap h.taken (sym (one_file f j m is e)))
      (with_at_all (λ j l. of j ms ≡ drop l (s.sent j)) h.taken f (h.taken f + 1)
      (sym d.1 ∙ ap (λ k. drop k (s.sent f)) (let z : suc (h.taken f) ≡ h.taken f + 1 = omega arith in z))
      (λ j ne. sym (front_no j m ms (of_one f j m is ne)) ∙ (sym (ap (of j) front) ∙ h.rest j)))

take_any : (n : Size) (s : State) (h : IsLawful n s) (w : ℕ) (m : Taken) (ms : List Taken) → s.queue ≡ m ∷ ms → w < n.takers
    → is_done (s.took w) ≡ false → IsLawful n (take_front w m ms s)
take_any n s h w (Row f p b) ms front below undone = take_of n s h w (Row f p b) ms front below undone f (eq-eqb f f refl)
take_any n s h w (End f k) ms front below undone = take_of n s h w (End f k) ms front below undone f (eq-eqb f f refl)
take_any n s h w Stop ms front below undone = take_mark n s h w Stop ms front below undone refl
take_any n s h w Quit ms front below undone = take_mark n s h w Quit ms front below undone refl

take_queue : (n : Size) (s : State) (h : IsLawful n s) (w : ℕ) (q : List Taken) → s.queue ≡ q → w < n.takers → is_done (s.took w) ≡ false
    → IsLawful n (take_next w q s)
take_queue n s h w [] e below undone = h
take_queue n s h w (m ∷ ms) e below undone = take_any n s h w m ms e below undone

pub keeps : (n : Size) (s : State) (e : Event) → IsLawful n s → Allowed n s e → IsLawful n (after s e)
keeps n s (PutRow f b) h a = puts n s h f (Row f (length (s.sent f)) b) a.1 a.0 a.2 (eq-eqb f f refl)
    (from_more f 0 (s.sent f) (Row f (length (s.sent f)) b) (length (s.sent f)) (omega arith) (h.lists f) a.2 (refl, refl, tt))
keeps n s (PutEnd f) h a = puts n s h f (End f (row_count (s.sent f))) a.1 a.0 a.2 (eq-eqb f f refl)
    (from_more f 0 (s.sent f) (End f (row_count (s.sent f))) (row_count (s.sent f))
    (omega (arith, rows_all f 0 (s.sent f) (h.lists f) a.2)) (h.lists f) a.2 (refl, refl, refl))
keeps n s PutStop h a = put_stop n s h a
keeps n s PutQuit h a = put_quit n s h a
keeps n s (TakeNext w) h a = take_queue n s h w s.queue refl a.0 a.2

pub keeps_all : (n : Size) (s : State) (es : List Event) → IsLawful n s → AreAllowed n s es → IsLawful n (after_all s es)
keeps_all n s [] h a = h
keeps_all n s (e ∷ es) h a = keeps_all n (after s e) es (keeps n s e h a.0) a.1

-- a run continues by one event
allowed_more : (n : Size) (s : State) (es : List Event) (e : Event) → AreAllowed n s es → Allowed n (after_all s es) e
    → AreAllowed n s (es ++ e ∷ [])
allowed_more n s [] e a l = (l, tt)
allowed_more n s (x ∷ es) e a l = (a.0, allowed_more n (after s x) es e a.1 l)

after_more : (s : State) (es : List Event) (e : Event) → after_all s (es ++ e ∷ []) ≡ after (after_all s es) e
after_more s [] e = refl
after_more s (x ∷ es) e = after_more (after s x) es e

pub reaches : (n : Size) (s : State) (e : Event) → IsReached n s → Allowed n s e → IsReached n (after s e)
reaches n s e r a = (
  r.0 ++ e ∷ [],
  allowed_more n opening r.0 e r.1 (subst (λ t. Allowed n t e) (sym r.2) a),
  after_more opening r.0 e
      ∙ ap (λ t. after t e) r.2,
)
