-- Each step of the code is one event of the machine.
use Rattle.std.proofs.Common.{◌≡◌, ⊎_elim, ℕ, ◌+◌, ◌<◌, true, false, List, [], ◌∷◌, ◌++◌, length, take, set, refl, sym, ap, ◌∙◌, subst, arith, append-nil, append_assoc, take-append-drop}
use Rattle.std.specs.List.{AllByRecursion}
use mathlib.Core.Option.{some}
use lib.ListN.{get_elem?}
use Rattle.std.proofs.lemmas.Bool.{cases_Bool, eq-eqb}
use Rattle.lane.specs.declared.message.Taken.{Taken}
use Rattle.lane.specs.declared.message.Taken.TheVariants.{Row, End, Stop, Quit}
use Rattle.lane.specs.declared.part.Part.{Part}
use Rattle.lane.specs.declared.part.Part.TheVariants.{Put, Take, Close}
use Rattle.lane.specs.Message.{is_of, of}
use Rattle.lane.specs.MessageKinds.{has_end, is_done, row_count}
use Rattle.lane.specs.Machine.{Size, State, opening, Event, PutRow, PutEnd, PutStop, PutQuit, TakeNext, Allowed, with_at, put, take_front, take_next, after, after_all}
use Rattle.lane.specs.Rule.{Role, Putter, Taker, Closer, IsRole, part_of, IsSeated, AreSeated, IsLaneAt}
use Rattle.lane.specs.Steps.{with_message, IsFree, HasEnded, PutSends, CloseSends}
use Rattle.lane.specs.Laws.{RunsStayLawful, leaves, leaving, LeavingIsPrefixOfSent, TakenIsPrefixOfSent, send_event, SendIsAnEvent, ReceiveIsAnEvent, SplitIsNoEvent, JoinIsNoEvent}
use Rattle.lane.proofs.Lists.{with_at_here, with_at_else, with_at_all}
use Rattle.lane.proofs.Messages.{of_yes, of_no, of_one, front_yes, front_no}
use Rattle.lane.proofs.Keeps.{begins, keeps, keeps_all, reaches}
use Rattle.lane.proofs.Seats.{at_part, seated_as, changed, given, joined}

pub runs_stay_lawful : RunsStayLawful
runs_stay_lawful n events allowed = keeps_all n opening events (begins n) allowed

pub taken_is_prefix : TakenIsPrefixOfSent
taken_is_prefix n s h f = record {
  taken = h.taken;
  split = ap (λ l. take (h.taken f) (s.sent f) ++ l) (h.rest f) ∙ take-append-drop (h.taken f) (s.sent f);
  once = h.once f;
  placed = h.placed;
}

-- a put part, a take part and the closer's part in a view are as the state specifies them
pub put_is : (n : Size) (s : State) (seat : Role → ℕ) (pass f c : ℕ) (ms : List Taken) → IsSeated n s seat pass (Put f c ms) → (f < n.files)
    × (c ≡ n.capacity) × (ms ≡ s.sent f)
put_is n s seat pass f c ms h =
    let r = seated_as n s seat pass (Put f c ms) (Putter f) h refl in
    let e : Put f c ms ≡ Put f n.capacity (s.sent f) = r.1 in
    let b : c ≡ n.capacity = cc in let d : ms ≡ s.sent f = cc in (r.0, b, d)

pub take_is : (n : Size) (s : State) (seat : Role → ℕ) (pass w c : ℕ) (ms : List Taken) → IsSeated n s seat pass (Take w c ms)
    → (w < n.takers) × (c ≡ n.capacity) × (ms ≡ s.took w)
take_is n s seat pass w c ms h =
    let r = seated_as n s seat pass (Take w c ms) (Taker w) h refl in
    let e : Take w c ms ≡ Take w n.capacity (s.took w) = r.1 in
    let b : c ≡ n.capacity = cc in let d : ms ≡ s.took w = cc in (r.0, b, d)

pub close_is : (n : Size) (s : State) (seat : Role → ℕ) (pass f w c x y : ℕ) → IsSeated n s seat pass (Close f w c x y) → (f ≡ n.files)
    × (w ≡ n.takers) × (c ≡ n.capacity) × (x ≡ s.stops) × (y ≡ s.quits)
close_is n s seat pass f w c x y h =
    let e : Close f w c x y ≡ Close n.files n.takers n.capacity s.stops s.quits =
    (seated_as n s seat pass (Close f w c x y) Closer h refl).1 in
    let a : f ≡ n.files = cc in let b : w ≡ n.takers = cc in let d : c ≡ n.capacity = cc in let i : x ≡ s.stops =
    cc in let j : y ≡ s.quits = cc in (a, b, d, i, j)

-- an event that changes the part of one role: the lane is in the state after it
moves : (n : Size) (s t : State) (e : Event) (items items' : List Taken) (views : List (List Part))
    (pass : ℕ) (role : Role) (old new : Part) (rest : List Part)
    → IsLaneAt n s items views → get_elem? views pass ≡ some (old ∷ rest) → old ≡ part_of n s role → IsRole n role → IsFree role rest
    → Allowed n s e → after s e ≡ t → t.queue ≡ items' → new ≡ part_of n t role
    → ((r : Role) → (r ≡ role → ⊥) → part_of n t r ≡ part_of n s r)
    → IsLaneAt n (after s e) items' (set views pass (new ∷ rest))
moves n s t e items items' views pass role old new rest h at old_is is free allowed t_is queue new_is same =
    let at' : get_elem? views pass ≡ some (part_of n s role ∷ rest) = at ∙ ap (λ p. some (p ∷ rest)) old_is in
    let seated : AreSeated n t h.seat (set views pass (part_of n t role ∷ rest)) =
    changed n s t h.seat views pass role rest h.seated at' is free same in
    record {
      reached = reaches n s e h.reached allowed;
      lawful = keeps n s e h.lawful allowed;
      queue = ap (λ (u : State). u.queue) t_is ∙ queue;
      seat = h.seat;
      seated = subst (λ u. AreSeated n u h.seat (set views pass (new ∷ rest))) (sym t_is)
          (subst (λ p. AreSeated n t h.seat (set views pass (p ∷ rest))) (sym new_is) seated);
    }

-- the other parts stay if a file sends or a taker takes
put_same : (n : Size) (s : State) (f : ℕ) (m : Taken) (r : Role) → (r ≡ Putter f → ⊥) → part_of n (put f m s) r ≡ part_of n s r
put_same n s f m (Putter g) ne =
    ap (λ l. Put g n.capacity l) (with_at_else s.sent f (s.sent f ++ m ∷ []) g (λ e. ne (ap (λ k. Putter k) e)))
put_same n s f m (Taker w) ne = refl
put_same n s f m Closer ne = refl

take_same : (n : Size) (s : State) (w : ℕ) (m : Taken) (rest : List Taken) (r : Role) → (r ≡ Taker w → ⊥)
    → part_of n (take_front w m rest s) r ≡ part_of n s r
take_same n s w m rest (Putter g) ne = refl
take_same n s w m rest (Taker v) ne =
    ap (λ l. Take v n.capacity l) (with_at_else s.took w (s.took w ++ m ∷ []) v (λ e. ne (ap (λ k. Taker k) e)))
take_same n s w m rest Closer ne = refl

-- what a put end sends
put_moves : (n : Size) (s : State) (e : Event) (items : List Taken) (views : List (List Part)) (pass f c : ℕ) (ms : List Taken)
    (v : List Part) (m : Taken)
    → IsLaneAt n s items views → get_elem? views pass ≡ some (Put f c ms ∷ v) → IsFree (Putter f) v
    → (f < n.files) × (c ≡ n.capacity) × (ms ≡ s.sent f) → Allowed n s e → after s e ≡ put f m s
    → IsLaneAt n (after s e) (items ++ m ∷ []) (set views pass (Put f c (ms ++ m ∷ []) ∷ v))
put_moves n s e items views pass f c ms v m h at free p allowed is =
    moves n s (put f m s) e items (items ++ m ∷ []) views pass (Putter f) (Put f c ms) (Put f c (ms ++ m ∷ [])) v h at
    (λ i. Put f (p.1 i) (p.2 i)) p.0 free allowed is (ap (λ l. l ++ m ∷ []) h.queue)
    ((λ i. Put f (p.1 i) (p.2 i ++ m ∷ [])) ∙ ap (λ l. Put f n.capacity l) (sym (with_at_here s.sent f (s.sent f ++ m ∷ []))))
    (put_same n s f m)

put_event : (n : Size) (s : State) (items : List Taken) (views : List (List Part)) (pass f c : ℕ) (ms : List Taken) (v : List Part) (m : Taken)
    → IsLaneAt n s items views → get_elem? views pass ≡ some (Put f c ms ∷ v) → IsFree (Putter f) v → length items < c → PutSends f ms m
    → Allowed n s (send_event m)
    × IsLaneAt n (after s (send_event m)) (items ++ m ∷ []) (set views pass (Put f c (ms ++ m ∷ []) ∷ v))
put_event n s items views pass f c ms v (Row g k b) h at free room q =
    let p = put_is n s h.seat pass f c ms (h.seated.only pass (Put f c ms ∷ v) at).0 in
    let list : ms ≡ s.sent g = p.2 ∙ ap s.sent (sym q.0) in
    let place : length (s.sent g) ≡ k = ap (λ (l : List Taken). length l) (sym list) ∙ sym q.1 in
    let allowed : Allowed n s (PutRow g b) = (
      omega (arith, p.0, q.0),
      omega (arith, ap (λ (l : List Taken). length l) h.queue, p.1),
      ap has_end (sym list) ∙ q.2,
      subst (λ l. row_count l < 1000000) list q.3,
    ) in
    (allowed, put_moves n s (PutRow g b) items views pass f c ms v (Row g k b) h at free p allowed (λ i. put (q.0 i) (Row g (place i) b) s))
put_event n s items views pass f c ms v (End g k) h at free room q =
    let p = put_is n s h.seat pass f c ms (h.seated.only pass (Put f c ms ∷ v) at).0 in
    let list : ms ≡ s.sent g = p.2 ∙ ap s.sent (sym q.0) in
    let rows : row_count (s.sent g) ≡ k = ap row_count (sym list) ∙ sym q.1 in
    let allowed : Allowed n s (PutEnd g) =
    (omega (arith, p.0, q.0), omega (arith, ap (λ (l : List Taken). length l) h.queue, p.1), ap has_end (sym list) ∙ q.2) in
    (allowed, put_moves n s (PutEnd g) items views pass f c ms v (End g k) h at free p allowed (λ i. put (q.0 i) (End g (rows i)) s))
put_event n s items views pass f c ms v _ h at free room q = absurd q

-- all files have ended if the view has their ended parts
all_ended : (n : Size) (s : State) (seat : Role → ℕ) (pass files : ℕ) (v : List Part) → AllByRecursion (IsSeated n s seat pass) v
    → HasEnded files v → (f : ℕ) → f < files → has_end (s.sent f) ≡ true
all_ended n s seat pass files v seated ended f l =
    let e = ended f l in
    let p = put_is n s seat pass f e.0 e.1 (at_part (IsSeated n s seat pass) (Put f e.0 e.1) v e.2 seated) in
    ap has_end (sym p.2) ∙ e.3

close_same : (n : Size) (s t : State) → s.sent ≡ t.sent → s.took ≡ t.took → (r : Role) → (r ≡ Closer → ⊥) → part_of n t r ≡ part_of n s r
close_same n s t a b (Putter g) ne = ap (λ (k : ℕ → List Taken). Put g n.capacity (k g)) (sym a)
close_same n s t a b (Taker v) ne = ap (λ (k : ℕ → List Taken). Take v n.capacity (k v)) (sym b)
close_same n s t a b Closer ne = absurd (ne refl)

-- what the closer sends
close_event : (n : Size) (s : State) (items : List Taken) (views : List (List Part)) (pass f w c x y : ℕ) (v : List Part) (m : Taken)
    → IsLaneAt n s items views → get_elem? views pass ≡ some (Close f w c x y ∷ v) → IsFree Closer v → length items < c
    → CloseSends f w x y v m
    → Allowed n s (send_event m)
    × IsLaneAt n (after s (send_event m)) (items ++ m ∷ []) (set views pass (with_message (Close f w c x y ∷ v) m))
close_event n s items views pass f w c x y v Stop h at free room q =
    let all = h.seated.only pass (Close f w c x y ∷ v) at in
    let p = close_is n s h.seat pass f w c x y all.0 in
    let quits : y + 0 ≡ s.quits = omega (arith, p.4) in
    let allowed : Allowed n s PutStop = (
      omega (arith, ap (λ (l : List Taken). length l) h.queue, p.2),
      (λ g l. all_ended n s h.seat pass f v all.1 q.0 g (omega (arith, p.0))),
      omega (arith, p.4, q.1),
      omega (arith, p.1, p.3, q.2),
    ) in (
      allowed,
      moves n s (after s PutStop) PutStop items (items ++ Stop ∷ []) views pass Closer
          (Close f w c x y) (Close f w c (x + 1) (y + 0)) v h at
          (λ i. Close (p.0 i) (p.1 i) (p.2 i) (p.3 i) (p.4 i)) tt free allowed refl (ap (λ l. l ++ Stop ∷ []) h.queue)
          (λ i. Close (p.0 i) (p.1 i) (p.2 i) (p.3 i + 1) (quits i))
          (close_same n s (after s PutStop) refl refl),
    )
close_event n s items views pass f w c x y v Quit h at free room q =
    let p = close_is n s h.seat pass f w c x y (h.seated.only pass (Close f w c x y ∷ v) at).0 in
    let stops : x + 0 ≡ s.stops = omega (arith, p.3) in
    let allowed : Allowed n s PutQuit =
    (omega (arith, ap (λ (l : List Taken). length l) h.queue, p.2), omega (arith, p.3, q.0), omega (arith, p.1, p.4, q.1)) in (
      allowed,
      moves n s (after s PutQuit) PutQuit items (items ++ Quit ∷ []) views pass Closer
          (Close f w c x y) (Close f w c (x + 0) (y + 1)) v h at
          (λ i. Close (p.0 i) (p.1 i) (p.2 i) (p.3 i) (p.4 i)) tt free allowed refl (ap (λ l. l ++ Quit ∷ []) h.queue)
          (λ i. Close (p.0 i) (p.1 i) (p.2 i) (stops i) (p.4 i + 1))
          (close_same n s (after s PutQuit) refl refl),
    )
close_event n s items views pass f w c x y v _ h at free room q = absurd q

pub send_is_an_event : SendIsAnEvent
send_is_an_event n s items views pass capacity (Put f c ms ∷ v) m h at room q =
    put_event n s items views pass f c ms v m h at (subst (IsFree (Putter f)) (sym q.0) tt) (omega (arith, q.1)) q.2
send_is_an_event n s items views pass capacity (Close f w c x y ∷ v) m h at room q =
    close_event n s items views pass f w c x y v m h at q.0 (omega (arith, q.1)) q.2
send_is_an_event n s items views pass capacity _ m h at room q = absurd q

pub receive_is_an_event : ReceiveIsAnEvent
receive_is_an_event n s m items views pass (Take w c ms ∷ v) h at q =
    let p = take_is n s h.seat pass w c ms (h.seated.only pass (Take w c ms ∷ v) at).0 in
    let allowed : Allowed n s (TakeNext w) =
    (p.0, (λ (e : s.queue ≡ []). let z : (m ∷ items) ≡ [] = sym h.queue ∙ e in cc), ap is_done (sym p.2) ∙ q.1) in (
      allowed,
      moves n s (take_front w m items s) (TakeNext w) (m ∷ items) items views pass (Taker w) (Take w c ms) (Take w c (ms ++ m ∷ [])) v h at
          (λ i. Take w (p.1 i) (p.2 i)) p.0 (subst (IsFree (Taker w)) (sym q.0) tt) allowed (ap (λ l. take_next w l s) h.queue) refl
          ((λ i. Take w (p.1 i) (p.2 i ++ m ∷ [])) ∙ ap (λ l. Take w n.capacity l) (sym (with_at_here s.took w (s.took w ++ m ∷ []))))
          (take_same n s w m items),
    )
receive_is_an_event n s m items views pass _ h at q = absurd q

pub split_is_no_event : SplitIsNoEvent
split_is_no_event n s items views pass first part rest role h at named free =
    let g = given n s h.seat views pass role first part rest h.seated at named free in
    record { reached = h.reached; lawful = h.lawful; queue = h.queue; seat = g.0; seated = g.1 }

pub join_is_no_event : JoinIsNoEvent
join_is_no_event n s items views pass other v u h at apart at' =
    let j = joined n s h.seat views pass other v u h.seated at apart at' in
    record { reached = h.reached; lawful = h.lawful; queue = h.queue; seat = j.0; seated = j.1 }

file_put : (s : State) (pre : List Taken) (f g : ℕ) (m : Taken) → is_of g m ≡ true → of f pre ++ of f s.queue ≡ s.sent f
    → of f (pre ++ []) ++ of f (s.queue ++ m ∷ []) ≡ with_at s.sent g (s.sent g ++ m ∷ []) f
file_put s pre f g m is h =
    with_at_all (λ j l. of j pre ++ of j s.queue ≡ s.sent j → of j (pre ++ []) ++ of j (s.queue ++ m ∷ []) ≡ l) s.sent g (s.sent g ++ m ∷ [])
    (λ q. rw (append-nil pre, of_yes g s.queue m is, sym q) (sym (append_assoc (of g pre) (of g s.queue) (m ∷ []))))
    (λ j ne q. rw (append-nil pre, of_no j s.queue m (of_one g j m is ne)) q) f h

mark_put : (s : State) (pre : List Taken) (f : ℕ) (m : Taken) → is_of f m ≡ false → of f pre ++ of f s.queue ≡ s.sent f
    → of f (pre ++ []) ++ of f (s.queue ++ m ∷ []) ≡ s.sent f
mark_put s pre f m is h = rw (append-nil pre, of_no f s.queue m is) h

next_taken : (s : State) (pre : List Taken) (f w : ℕ) (q : List Taken) → of f pre ++ of f q ≡ s.sent f → s.queue ≡ q
    → of f (pre ++ take 1 q) ++ of f (take_next w q s).queue ≡ (take_next w q s).sent f
next_taken s pre f w [] h e = ap (λ l. of f l ++ of f s.queue) (append-nil pre) ∙ (ap (λ l. of f pre ++ of f l) e ∙ h)
next_taken s pre f w (m ∷ rest) h e =
    ⊎_elim
    (λ (t : is_of f m ≡ true). rw (of_yes f pre m t, append_assoc (of f pre) (m ∷ []) (of f rest), sym (front_yes f m rest t)) h)
    (λ (t : is_of f m ≡ false). rw (of_no f pre m t, sym (front_no f m rest t)) h)
    (cases_Bool (is_of f m))

event_leaves : (s : State) (e : Event) (pre : List Taken) (f : ℕ) → of f pre ++ of f s.queue ≡ s.sent f
    → of f (pre ++ leaves s e) ++ of f (after s e).queue ≡ (after s e).sent f
event_leaves s (PutRow g b) pre f h = file_put s pre f g (Row g (length (s.sent g)) b) (eq-eqb g g refl) h
event_leaves s (PutEnd g) pre f h = file_put s pre f g (End g (row_count (s.sent g))) (eq-eqb g g refl) h
event_leaves s PutStop pre f h = mark_put s pre f Stop refl h
event_leaves s PutQuit pre f h = mark_put s pre f Quit refl h
event_leaves s (TakeNext w) pre f h = next_taken s pre f w s.queue h refl

run_leaves : (s : State) (es : List Event) (pre : List Taken) (f : ℕ) → of f pre ++ of f s.queue ≡ s.sent f
    → of f (pre ++ leaving s es) ++ of f (after_all s es).queue ≡ (after_all s es).sent f
run_leaves s [] pre f h = ap (λ l. of f l ++ of f s.queue) (append-nil pre) ∙ h
run_leaves s (e ∷ es) pre f h =
    ap (λ l. of f l ++ of f (after_all (after s e) es).queue) (sym (append_assoc pre (leaves s e) (leaving (after s e) es)))
    ∙ run_leaves (after s e) es (pre ++ leaves s e) f (event_leaves s e pre f h)

pub leaving_is_prefix : LeavingIsPrefixOfSent
leaving_is_prefix n events allowed f = run_leaves opening events [] f refl
