-- The threads of a run never all wait, and the number of their steps is bounded.
use Rattle.std.proofs.Common.{◌≡◌, ◌≢◌, ⊎_elim, ◌⊎◌, inl, inr, ℕ, zero, suc, ◌+◌, ◌-◌, ◌<◌, ◌≤◌, Bool, true, false, cond, ◌||◌, List, [], ◌∷◌, ◌++◌, length, refl, sym, ap, ◌∙◌, subst, arith, count_by, length-append}
use Rattle.std.proofs.lemmas.Bool.{cases_Bool, cases_lt, cases_eq, true≢false}
use Rattle.std.proofs.lemmas.List.Folds.{list_any-append}
use Rattle.std.proofs.lemmas.Option.{slice_get_within}
use Rattle.lane.specs.declared.message.Taken.{Taken}
use Rattle.lane.specs.declared.message.Taken.TheVariants.{Row, End, Stop, Quit}
use Rattle.lane.specs.MessageKinds.{is_row, is_end, is_stop, is_quit, row_count, has_end, is_done}
use Rattle.lane.specs.MessageOrders.{MarksLast}
use Rattle.lane.specs.Machine.{Size, State, opening, Event, PutRow, PutEnd, PutStop, PutQuit, TakeNext, HasRoom, Allowed, with_at, put, take_next, after, after_all}
use Rattle.lane.specs.Lawful.{over, IsLawful}
use Rattle.lane.specs.Threads.{Closing, ByStops, ByQuits, Threads, AreThreads, HaveEnded, marks, IsNext, CanContinue, AreSteps, HaveFinished, IsUnderway, puts_remaining, steps_remaining}
use Rattle.lane.specs.Laws.{SomeThreadCanContinue, StepsRunOut, RunsEnd}
use Rattle.lane.proofs.Lists.{some_at, count_more, count_front, with_at_all, with_at_here, with_at_else, over_same, over_at}
use Rattle.lane.proofs.Keeps.{begins, keeps}

-- sums over numbers
over_plus : (n : ℕ) (g h : ℕ → ℕ) → over n (λ k. g k + h k) ≡ over n g + over n h
over_plus zero g h = refl
over_plus (suc n) g h = omega (arith, over_plus n g h)

-- a sum after a change at one number
over_change : (n : ℕ) (g h : ℕ → ℕ) (k : ℕ) → k < n → ((j : ℕ) → (j ≡ k → ⊥) → g j ≡ h j) → over n g + h k ≡ over n h + g k
over_change n g h k l same =
    let e : over n g ≡ over n (λ j. with_at h k (g k) j) = over_same n g (λ j. with_at h k (g k) j)
    (λ j _. with_at_all (λ i x. g i ≡ x) h k (g k) refl same j) in
    omega (arith, over_at (λ (x : ℕ). x) n h k (g k) l)

over_reaches : (n v : ℕ) (g : ℕ → ℕ) → v ≤ n → ((k : ℕ) → k < v → 1 ≤ g k) → v ≤ over n g
over_reaches zero v g l h = l
over_reaches (suc n) v g l h =
    ⊎_elim
    (λ (q : n < v).
    let r = over_reaches n n g (omega arith) (λ k b. h k (omega arith)) in
    let last = h n q in
    let goal : v ≤ over n g + g n = omega arith in goal)
    (λ (q : v ≤ n). let r = over_reaches n v g q h in let goal : v ≤ over n g + g n = omega arith in goal)
    (cases_lt n v)

-- a sum of ones and zeros, which are all zero from v on
over_few : (n v : ℕ) (g : ℕ → ℕ) → ((k : ℕ) → g k ≤ 1) → ((k : ℕ) → v ≤ k → g k ≡ 0) → (over n g ≤ n) × (over n g ≤ v)
over_few zero v g ones none = (omega arith, omega arith)
over_few (suc n) v g ones none =
    let r = over_few n v g ones none in
    let one = ones n in
    let all : over n g + g n ≤ suc n = omega (arith, r.0) in (
      all,
      ⊎_elim (λ (q : n < v). let goal : over n g + g n ≤ v = omega arith in goal)
          (λ (q : v ≤ n). let z = none n q in let goal : over n g + g n ≤ v = omega (arith, r.1) in goal) (cases_lt n v),
    )

over_fewer : (n v : ℕ) (g : ℕ → ℕ) (w : ℕ) → w < v → v ≤ n → g w ≡ 0 → ((k : ℕ) → g k ≤ 1) → ((k : ℕ) → v ≤ k → g k ≡ 0)
    → over n g < v
over_fewer n v g w below within z ones none =
    let g' : ℕ → ℕ = λ k. with_at g w 1 k in
    let r = over_few n v g' (with_at_all (λ k x. x ≤ 1) g w 1 (omega arith) (λ k _. ones k))
    (with_at_all (λ k x. v ≤ k → x ≡ 0) g w 1 (λ l. absurd (omega arith)) (λ k _. none k)) in
    omega (arith, r.1, over_at (λ (x : ℕ). x) n g w 1 (omega arith))

-- the marks in a list: none if it is not done, otherwise one, which is last
mark_count : List Taken → ℕ
mark_count ms = count_by is_stop ms + count_by is_quit ms

no_mark : (ms : List Taken) → is_done ms ≡ false → mark_count ms ≡ 0
unfolding mark_count
no_mark [] e = refl
no_mark (Stop ∷ ms) e = absurd (true≢false e)
no_mark (Quit ∷ ms) e = absurd (true≢false e)
no_mark (m ∷ ms) e = omega (arith, count_front is_stop m ms, count_front is_quit m ms, no_mark ms e)

some_mark : (ms : List Taken) → is_done ms ≡ true → 1 ≤ mark_count ms
unfolding mark_count
some_mark [] e = absurd (true≢false (sym e))
some_mark (Stop ∷ ms) e = omega (arith, count_front is_stop Stop ms)
some_mark (Quit ∷ ms) e = omega (arith, count_front is_quit Quit ms)
some_mark (m ∷ ms) e = omega (arith, count_front is_stop m ms, count_front is_quit m ms, some_mark ms e)

one_mark : (ms : List Taken) → MarksLast ms → mark_count ms ≤ 1
unfolding mark_count
one_mark [] h = omega arith
one_mark (Stop ∷ ms) h = subst (λ l. mark_count (Stop ∷ l) ≤ 1) (sym (h.0 refl)) (omega arith)
one_mark (Quit ∷ ms) h = subst (λ l. mark_count (Quit ∷ l) ≤ 1) (sym (h.0 refl)) (omega arith)
one_mark (m ∷ ms) h = omega (arith, count_front is_stop m ms, count_front is_quit m ms, one_mark ms h.1)

-- a test is true of all numbers below n, or false of one
all_or_one : (n : ℕ) (b : ℕ → Bool) → ((k : ℕ) → k < n → b k ≡ true) ⊎ ((k : ℕ) × (k < n) × (b k ≡ false))
all_or_one zero b = inl (λ k l. absurd (omega arith))
all_or_one (suc n) b =
    ⊎_elim
    (λ (all : (k : ℕ) → k < n → b k ≡ true).
    ⊎_elim
    (λ (e : b n ≡ true). inl (λ k l. ⊎_elim (λ (q : k ≡ n). ap b q ∙ e) (λ (ne : k ≡ n → ⊥). all k (omega arith)) (cases_eq k n)))
    (λ (e : b n ≡ false). inr (n, omega arith, e)) (cases_Bool (b n)))
    (λ (one : (k : ℕ) × (k < n) × (b k ≡ false)). inr (one.0, omega (arith, one.1), one.2))
    (all_or_one n b)

none_or_some : (ms : List Taken) → (ms ≡ []) ⊎ (ms ≢ [])
none_or_some [] = inl refl
none_or_some (m ∷ ms) = inr (λ (e : (m ∷ ms) ≡ []). cc)

either_closing : (c : Closing) → (c ≡ ByStops) ⊎ (c ≡ ByQuits)
either_closing ByStops = inl refl
either_closing ByQuits = inr refl

module _ (n : Size) (t : Threads) (s : State) (are : AreThreads n t) (h : IsLawful n s) (u : IsUnderway t s) where
  -- each mark that was put is in the queue or was taken
  marks_are : mark_count s.queue + over n.takers (λ w. mark_count (s.took w)) ≡ marks s
  unfolding mark_count
  marks_are =
      omega (arith, h.stops, h.quits, over_plus n.takers (λ w. count_by is_stop (s.took w)) (λ w. count_by is_quit (s.took w)))

  all_valued : ((w : ℕ) → w < t.valuers → is_done (s.took w) ≡ true) → t.valuers ≤ marks s
  all_valued done =
      omega (
        arith,
        marks_are,
        over_reaches n.takers t.valuers (λ w. mark_count (s.took w)) are.valuers (λ w l. some_mark (s.took w)
            (done w l)),
      )

  one_unvalued : (w : ℕ) → w < t.valuers → is_done (s.took w) ≡ false → s.queue ≡ [] → marks s < t.valuers
  one_unvalued w below undone empty =
      let none : mark_count s.queue ≡ 0 = ap mark_count empty ∙ no_mark [] refl in
      omega (
        arith,
        marks_are,
        over_fewer n.takers t.valuers (λ v. mark_count (s.took v)) w below are.valuers (no_mark (s.took w) undone)
            (λ v. one_mark (s.took v) (h.marks v)) (λ v l. ap mark_count (u.idle v l) ∙ no_mark [] refl),
      )

  -- some valuer takes the queue's first message, unless all have taken a mark
  takes : s.queue ≢ [] → CanContinue n t s ⊎ ((w : ℕ) → w < t.valuers → is_done (s.took w) ≡ true)
  takes some =
      ⊎_elim (λ (all : (w : ℕ) → w < t.valuers → is_done (s.took w) ≡ true). inr all)
      (λ (one : (w : ℕ) × (w < t.valuers) × (is_done (s.took w) ≡ false)). inl (
        TakeNext one.0,
        (one.1, one.2),
        (omega (arith, one.1, are.valuers), some, one.2),
      ))
      (all_or_one t.valuers (λ w. is_done (s.took w)))

  room_for : s.queue ≡ [] → HasRoom n s
  room_for empty = omega (arith, ap (λ (ms : List Taken). length ms) empty, are.room)

  puts : (f : ℕ) → f < t.readers → has_end (s.sent f) ≡ false → s.queue ≡ [] → CanContinue n t s
  puts f below open' empty =
      ⊎_elim
      (λ (more : row_count (s.sent f) < length (t.blocks f)).
      let b = some_at (t.blocks f) (row_count (s.sent f)) more in (
        PutRow f b.0,
        (below, open', b.1),
        (omega (arith, are.readers), room_for empty, open', omega (arith, are.few f)),
      ))
      (λ (all : length (t.blocks f) ≤ row_count (s.sent f)). (
        PutEnd f,
        (below, open', omega (arith, u.put f below)),
        (omega (arith, are.readers), room_for empty, open'),
      ))
      (cases_lt (row_count (s.sent f)) (length (t.blocks f)))

  closes : HaveEnded t s → marks s < t.valuers → s.queue ≡ [] → CanContinue n t s
  closes ended less empty =
      ⊎_elim
      (λ (c : t.closing ≡ ByStops). (
        PutStop,
        (c, ended, less),
        (room_for empty, (λ f l. ended f (omega (arith, (are.all c).0))), u.stops c, omega (arith, are.valuers)),
      ))
      (λ (c : t.closing ≡ ByQuits). (PutQuit, (c, ended, less), (room_for empty, u.quits c, omega (arith, are.valuers))))
      (either_closing t.closing)

  some_continues : HaveFinished t s ⊎ CanContinue n t s
  some_continues =
      ⊎_elim
      (λ (ended : HaveEnded t s).
      ⊎_elim
      (λ (less : marks s < t.valuers).
      ⊎_elim (λ (empty : s.queue ≡ []). inr (closes ended less empty))
      (λ (some : s.queue ≢ []).
      ⊎_elim (λ (c : CanContinue n t s). inr c)
      (λ (all : (w : ℕ) → w < t.valuers → is_done (s.took w) ≡ true). absurd (omega (arith, all_valued all)))
      (takes some))
      (none_or_some s.queue))
      (λ (closed : t.valuers ≤ marks s).
      ⊎_elim
      (λ (all : (w : ℕ) → w < t.valuers → is_done (s.took w) ≡ true). inl (record { read = ended; closed = omega (arith, u.few); valued = all }))
      (λ (one : (w : ℕ) × (w < t.valuers) × (is_done (s.took w) ≡ false)).
      ⊎_elim (λ (empty : s.queue ≡ []). absurd (omega (arith, one_unvalued one.0 one.1 one.2 empty)))
      (λ (some : s.queue ≢ []). inr (TakeNext one.0, (one.1, one.2), (omega (arith, one.1, are.valuers), some, one.2)))
      (none_or_some s.queue))
      (all_or_one t.valuers (λ w. is_done (s.took w))))
      (cases_lt (marks s) t.valuers))
      (λ (one : (f : ℕ) × (f < t.readers) × (has_end (s.sent f) ≡ false)).
      ⊎_elim (λ (empty : s.queue ≡ []). inr (puts one.0 one.1 one.2 empty))
      (λ (some : s.queue ≢ []).
      ⊎_elim (λ (c : CanContinue n t s). inr c)
      (λ (all : (w : ℕ) → w < t.valuers → is_done (s.took w) ≡ true).
      let valuer = are.some_valuer (omega (arith, one.1)) in
      absurd (true≢false (sym (u.ended (omega (arith, all_valued all)) one.0 one.1) ∙ one.2)))
      (takes some))
      (none_or_some s.queue))
      (all_or_one t.readers (λ f. has_end (s.sent f)))

pub some_thread_can_continue : SomeThreadCanContinue
some_thread_can_continue n t s are h u = some_continues n t s are h u

-- a file with one message appended
module _ (t : Threads) (s : State) (f : ℕ) (m : Taken) (below : f < t.readers) where
  puts_less : puts_remaining t (put f m s) f + 1 ≡ puts_remaining t s f → steps_remaining t (put f m s) + 1 ≡ steps_remaining t s
  puts_less less =
      let c = over_change t.readers (λ j. puts_remaining t (put f m s) j) (λ j. puts_remaining t s j) f below
      (λ j ne. ap (λ (l : List Taken). (length (t.blocks j) - row_count l) + cond (has_end l) 0 1)
      (with_at_else s.sent f (s.sent f ++ m ∷ []) j ne)) in
      omega (arith, length-append s.queue (m ∷ []))

  put_underway : IsUnderway t s → has_end (s.sent f) ≡ false → row_count (s.sent f ++ m ∷ []) ≤ length (t.blocks f) → IsUnderway t (put f m s)
  put_underway u open' few = record {
    put = with_at_all (λ j l. j < t.readers → row_count l ≤ length (t.blocks j)) s.sent f (s.sent f ++ m ∷ []) (λ _. few) (λ j _. u.put j);
    idle = u.idle;
    stops = u.stops;
    quits = u.quits;
    few = u.few;
    ended = λ some. absurd (true≢false (sym (u.ended some f below) ∙ open'));
  }

take_less : (t : Threads) (s : State) (w : ℕ) (q : List Taken) → s.queue ≡ q → q ≢ [] → steps_remaining t (take_next w q s) + 1 ≡ steps_remaining t s
take_less t s w [] e some = absurd (some refl)
take_less t s w (m ∷ rest) e some = omega (arith, ap (λ (ms : List Taken). length ms) e)

pub steps_run_out : StepsRunOut
steps_run_out n t s (PutRow f b) next allowed =
    let m : Taken = Row f (length (s.sent f)) b in
    puts_less t s f m next.0
    (let here = ap (λ (l : List Taken). (length (t.blocks f) - row_count l) + cond (has_end l) 0 1) (with_at_here s.sent f (s.sent f ++ m ∷ [])) in
    let open' : has_end (s.sent f ++ m ∷ []) ≡ false = list_any-append is_end (s.sent f) (m ∷ []) ∙ ap (λ (x : Bool). x || false) next.1 in
    let rows = count_more is_row (s.sent f) m in
    let more = slice_get_within (t.blocks f) (row_count (s.sent f)) b next.2 in
    let before = ap (λ (x : Bool). cond {A = ℕ} x 0 1) next.1 in
    let then = ap (λ (x : Bool). cond {A = ℕ} x 0 1) open' in
    omega arith)
steps_run_out n t s (PutEnd f) next allowed =
    let m : Taken = End f (row_count (s.sent f)) in
    puts_less t s f m next.0
    (let here = ap (λ (l : List Taken). (length (t.blocks f) - row_count l) + cond (has_end l) 0 1) (with_at_here s.sent f (s.sent f ++ m ∷ [])) in
    let ended : has_end (s.sent f ++ m ∷ []) ≡ true = list_any-append is_end (s.sent f) (m ∷ []) ∙ ap (λ (x : Bool). x || true) next.1 in
    let rows = count_more is_row (s.sent f) m in
    let all = next.2 in
    let before = ap (λ (x : Bool). cond {A = ℕ} x 0 1) next.1 in
    let then = ap (λ (x : Bool). cond {A = ℕ} x 0 1) ended in
    omega arith)
steps_run_out n t s PutStop next allowed = let less = next.2 in omega (arith, length-append s.queue (Stop ∷ []))
steps_run_out n t s PutQuit next allowed = let less = next.2 in omega (arith, length-append s.queue (Quit ∷ []))
steps_run_out n t s (TakeNext w) next allowed = take_less t s w s.queue refl allowed.1

take_underway : (t : Threads) (s : State) (w : ℕ) (q : List Taken) → IsUnderway t s → w < t.valuers → IsUnderway t (take_next w q s)
take_underway t s w [] u below = u
take_underway t s w (m ∷ rest) u below = record {
  put = u.put;
  idle = with_at_all (λ v l. t.valuers ≤ v → l ≡ []) s.took w (s.took w ++ m ∷ []) (λ l. absurd (omega arith)) (λ v _. u.idle v);
  stops = u.stops;
  quits = u.quits;
  few = u.few;
  ended = u.ended;
}

stays_underway : (n : Size) (t : Threads) (s : State) (e : Event) → IsUnderway t s → IsNext t s e → Allowed n s e → IsUnderway t (after s e)
stays_underway n t s (PutRow f b) u next allowed =
    let m : Taken = Row f (length (s.sent f)) b in
    put_underway t s f m next.0 u next.1
    (omega (arith, count_more is_row (s.sent f) m, slice_get_within (t.blocks f) (row_count (s.sent f)) b next.2))
stays_underway n t s (PutEnd f) u next allowed =
    let m : Taken = End f (row_count (s.sent f)) in
    put_underway t s f m next.0 u next.1 (omega (arith, count_more is_row (s.sent f) m, next.2))
stays_underway n t s PutStop u next allowed = record {
  put = u.put;
  idle = u.idle;
  stops = u.stops;
  quits = λ c. absurd (let z : ByStops ≡ ByQuits = sym next.0 ∙ c in cc);
  few = let less = next.2 in omega arith;
  ended = λ _. next.1;
}
stays_underway n t s PutQuit u next allowed = record {
  put = u.put;
  idle = u.idle;
  stops = λ c. absurd (let z : ByStops ≡ ByQuits = sym c ∙ next.0 in cc);
  quits = u.quits;
  few = let less = next.2 in omega arith;
  ended = λ _. next.1;
}
stays_underway n t s (TakeNext w) u next allowed = take_underway t s w s.queue u next.0

-- during the steps of the threads
steps_end : (n : Size) (t : Threads) (s : State) (es : List Event) → AreThreads n t → IsLawful n s → IsUnderway t s → AreSteps n t s es
    → (length es + steps_remaining t (after_all s es) ≡ steps_remaining t s) × (HaveFinished t (after_all s es) ⊎ CanContinue n t (after_all s es))
steps_end n t s [] are h u a = (omega arith, some_continues n t s are h u)
steps_end n t s (e ∷ es) are h u a =
    let r = steps_end n t (after s e) es are (keeps n s e h a.1) (stays_underway n t s e u a.0 a.1) a.2 in
    let less = steps_run_out n t s e a.0 a.1 in
    (omega (arith, r.0), r.1)

pub runs_end : RunsEnd
runs_end n t events are steps =
    let r = steps_end n t opening events are (begins n)
    (record {
      put = λ f _. omega arith;
      idle = λ w _. refl;
      stops = λ _. refl;
      quits = λ _. refl;
      few = omega arith;
      ended = λ some. absurd (omega arith);
    })
    steps in
    let all = over_same t.readers (λ f. puts_remaining t opening f) (λ f. length (t.blocks f) + 1) (λ f _. omega arith) in
    (omega (arith, r.0), r.1)
