-- Each step of the passes keeps the rule of the lane.
use Rattle.std.proofs.Common.{◌≡◌, ⊎_elim, inl, inr, ℕ, zero, suc, ◌+◌, ◌<◌, ◌≤◌, true, List, [], ◌∷◌, ◌++◌, length, set, slice_get, Some, None, refl, sym, ap, ◌∙◌, subst, arith, append_assoc}
use Rattle.std.specs.List.{AllByRecursion}
use Rattle.std.proofs.lemmas.Bool.{cases_eq}
use mathlib.Core.Option.{some, some-injective, some-ne-none}
use lib.ListN.{get_elem?}
use Rattle.crossbeam_channel.specs.Fifo.{Pushes, Pops, Forks, Merges, Learns}
use Rattle.atomic_table.proofs.Lists.{at_longer, set_here, set_else}
use Rattle.lane.specs.declared.message.Taken.{Taken}
use Rattle.lane.specs.declared.part.Part.{Part}
use Rattle.lane.specs.declared.part.Part.TheVariants.{Count, Put, Take}
use Rattle.lane.specs.MessageKinds.{has_end}
use Rattle.lane.specs.Machine.{Size, State, opening, TakeNext, after}
use Rattle.lane.specs.Whole.{IsWhole}
use Rattle.lane.specs.Rule.{Role, role_of, IsSeated, AreSeated, IsLaneAt, IsCounting, IsLane, parts_from, put_parts, take_parts, all_parts}
use Rattle.lane.specs.Steps.{with_message, IsFree, HasEnded, MaySend, MayTake, full_view}
use Rattle.lane.specs.Laws.{send_event, MakeIsTheOpening, LookFindsNothing}
use Rattle.lane.specs.EndFields.{sent_lists, taken_lists, gathering_in, capacity_in}
use Rattle.lane.specs.inner.Views.{IsOrdered, Takes}
use Rattle.lane.specs.inner.Kept.{IsClosers, IsAllIn}
use Rattle.lane.proofs.Lists.{all_get, some_at}
use Rattle.lane.proofs.Seats.{at_part, has_left, has_right, has_part, at_within, role_of_part, every_set, every_more, opened}
use Rattle.lane.proofs.Keeps.{begins}
use Rattle.lane.proofs.Steps.{put_is, take_is, close_is, send_is_an_event, receive_is_an_event, split_is_no_event, join_is_no_event}
use Rattle.lane.proofs.Wholes.{ordered, whole, queue_empty}

-- a pass whose view is neither spent nor the count: the lane is open
open_at : (P : List Part → Type 0) (items : List Taken) (views : List (List Part)) (pass : ℕ) (v : List Part) → IsLane items views
    → get_elem? views pass ≡ some v → P v → (P [] → ⊥) → ((f w c : ℕ) → P (Count f w c ∷ []) → ⊥)
    → (n : Size) × (s : State) × IsLaneAt n s items views
open_at P items views pass v h at has not_spent not_count =
    ⊎_elim
    (λ (c : IsCounting items views). absurd (⊎_elim
    (λ (e : pass ≡ 0). not_count c.files c.takers c.capacity
    (subst P (some-injective _ _ (sym at ∙ (ap (get_elem? views) e ∙ c.first))) has))
    (λ (ne : pass ≡ 0 → ⊥). not_spent (subst P (c.others pass v at ne) has))
    (cases_eq pass 0)))
    (λ (o : (n : Size) × (s : State) × IsLaneAt n s items views). o)
    h

pub starts : IsLane [] ((Count 0 0 0 ∷ []) ∷ [])
starts = inl (record { nothing = refl; files = 0; takers = 0; capacity = 0; first = refl; others = later })
  where
    later : (pass : ℕ) (v : List Part) → get_elem? ((Count 0 0 0 ∷ []) ∷ []) pass ≡ some v → (pass ≡ 0 → ⊥) → v ≡ []
    later zero v e ne = absurd (ne refl)
    later (suc pass) v e ne = absurd (some-ne-none v (sym e))

-- while the lane is counted, its first pass has the count
count_at : (items : List Taken) (views : List (List Part)) (pass f w c : ℕ) → IsLane items views
    → get_elem? views pass ≡ some (Count f w c ∷ []) → IsCounting items views × (pass ≡ 0)
count_at items views pass f w c h at =
    ⊎_elim
    (λ (k : IsCounting items views). (
      k,
      ⊎_elim (λ (e : pass ≡ 0). e) (λ (ne : pass ≡ 0 → ⊥). absurd (let z : (Count f w c ∷ []) ≡ [] =
          k.others pass (Count f w c ∷ []) at ne in cc)) (cases_eq pass 0),
    ))
    (λ (o : (n : Size) × (s : State) × IsLaneAt n s items views). absurd
    (let q = (o.2.seated.only pass (Count f w c ∷ []) at).0 in
    let z : None ≡ Some q.0 = ap role_of q.2 ∙ role_of_part o.0 o.1 q.0 in cc))
    h

pub counts : (pass f w c f' w' c' : ℕ) → Forks IsLane pass (Count f w c ∷ []) (Count f' w' c' ∷ []) []
counts pass f w c f' w' c' items views h at =
    let k = count_at items views pass f w c h at in
    let vs : List (List Part) = set views pass (Count f' w' c' ∷ []) in
    inl (record {
      nothing = k.0.nothing;
      files = f';
      takers = w';
      capacity = c';
      first = at_longer vs ([] ∷ []) 0 (Count f' w' c'
          ∷ []) (subst (λ i. get_elem? vs i ≡ some (Count f' w' c' ∷ [])) k.1
          (set_here views pass (Count f' w' c' ∷ []) (at_within views pass _ at)));
      others = every_more (λ j u. (j ≡ 0 → ⊥) → u ≡ []) vs [] (λ _. refl)
          (every_set (λ j u. (j ≡ 0 → ⊥) → u ≡ []) views pass (Count f' w' c' ∷ []) (λ ne. absurd (ne k.1))
          (λ j u _ e ne. k.0.others j u e ne));
    })

pub make_is_the_opening : MakeIsTheOpening
make_is_the_opening items views pass f w c h at =
    let k = count_at items views pass f w c h at in
    let n : Size = record { files = f; takers = w; capacity = c } in (
      k.0.nothing,
      record {
        reached = ([], tt, refl);
        lawful = begins n;
        queue = refl;
        seat = λ r. 0;
        seated = subst (λ i. AreSeated n opening (λ r. 0) (set views i (all_parts f w c) ++ [] ∷ [])) (sym k.1)
            (opened n views (Count f w c ∷ []) (ap (get_elem? views) (sym k.1) ∙ at) k.0.others);
      },
    )

pub opens : (pass f w c : ℕ) → Forks IsLane pass (Count f w c ∷ []) (all_parts f w c) []
opens pass f w c items views h at =
    let r = make_is_the_opening items views pass f w c h at in
    inr (
      record { files = f; takers = w; capacity = c },
      opening,
      subst (λ l. IsLaneAt (record { files = f; takers = w; capacity = c }) opening l
          (set views pass (all_parts f w c) ++ [] ∷ [])) (sym r.0) r.1,
    )

pub gives : (pass : ℕ) (first part : Part) (rest : List Part) (role : Role) → role_of part ≡ Some role → IsFree role (first ∷ rest)
    → Forks IsLane pass (first ∷ part ∷ rest) (first ∷ rest) (part ∷ [])
gives pass first part rest role named free items views h at =
    let o = open_at (λ u. u ≡ first ∷ part ∷ rest) items views pass (first ∷ part ∷ rest) h at refl (λ e. cc)
    (λ f w c e. let z : (part ∷ rest) ≡ [] = cc in cc) in
    inr (o.0, o.1, split_is_no_event o.0 o.1 items views pass first part rest role o.2 at named free)

pub joins : (pass : ℕ) (v : List Part) (other : ℕ) (u : List Part) → IsClosers v → Merges IsLane pass v other u (v ++ u) []
joins pass v other u closer items views h at apart at' =
    let o = open_at IsClosers items views pass v h at closer (λ e. e) (λ f w c e. e) in
    inr (
      o.0,
      o.1,
      join_is_no_event o.0 o.1 items views pass other v u o.2 at apart
          (sym (set_else views pass other (v ++ u) apart) ∙ at'),
    )

pub sends : (n pass : ℕ) (v : List Part) (m : Taken) → MaySend n v m → Pushes IsLane n pass v m (λ w. w ≡ with_message v m)
sends n pass v m q items views room h at =
    let o = open_at (λ u. MaySend n u m) items views pass v h at q (λ e. e) (λ f w c e. e) in
    (with_message v m, inr (o.0, after o.1 (send_event m), (send_is_an_event o.0 o.1 items views pass n v m o.2 at room q).1), refl)

pub takes : (pass : ℕ) (v : List Part) → MayTake v → Pops IsLane pass v (Takes v)
takes pass (Take w c ms ∷ v) q m items views h at =
    let o = open_at MayTake (m ∷ items) views pass (Take w c ms ∷ v) h at q (λ e. e) (λ f x d e. e) in
    let r = receive_is_an_event o.0 o.1 m items views pass (Take w c ms ∷ v) o.2 at q in
    let after' : State = after o.1 (TakeNext w) in
    let new : List Part = Take w c (ms ++ m ∷ []) ∷ v in
    let p = take_is o.0 after' r.1.seat pass w c
    (ms ++ m ∷ []) (r.1.seated.only pass new (set_here views pass new (at_within views pass _ at))).0 in
    (new, inr (o.0, after', r.1), (refl, subst IsOrdered (sym p.2) (ordered o.0 after' w r.1.lawful)))
takes pass _ q m items views h at = absurd q

pub look_finds_nothing : LookFindsNothing
look_finds_nothing n s items views pass files takers c sent took h at full =
    let parts : List Part = put_parts c 0 sent ++ take_parts c 0 took in
    let all = h.seated.only pass (full_view files takers c sent took) at in
    let p = close_is n s h.seat pass files takers c takers 0 all.0 in
    let sent_is : (f : ℕ) (l : List Taken) → slice_get sent f ≡ Some l → l ≡ s.sent f =
    λ f l e. (put_is n s h.seat pass f c l
    (at_part (IsSeated n s h.seat pass) (Put f c l) parts
    (has_left _ (put_parts c 0 sent) (take_parts c 0 took) (has_part (λ i x. Put i c x) 0 sent f f l (omega arith) e)) all.1)).2 in
    let took_is : (w : ℕ) (l : List Taken) → slice_get took w ≡ Some l → l ≡ s.took w =
    λ w l e. (take_is n s h.seat pass w c l
    (at_part (IsSeated n s h.seat pass) (Take w c l) parts
    (has_right _ (put_parts c 0 sent) (take_parts c 0 took) (has_part (λ i x. Take i c x) 0 took w w l (omega arith) e)) all.1)).2 in
    let a : length sent ≡ n.files = full.all_files ∙ p.0 in
    let b : length took ≡ n.takers = full.all_takers ∙ p.1 in
    let d : 0 < n.takers = subst (λ k. 0 < k) p.1 full.some_taker in
    let e : s.stops ≡ n.takers = sym p.3 ∙ p.1 in (
      sym h.queue ∙ queue_empty n s h.lawful sent took a b d sent_is took_is full.done e,
      whole n s h.lawful sent took a b d sent_is took_is full.done e c,
    )

-- the look of a lane that is done finds nothing, and shows that the lane is complete
pub looked : (pass : ℕ) (v : List Part) (takers c : ℕ) → IsAllIn v takers c
    → Learns IsLane pass v (λ items. (items ≡ []) × IsWhole (gathering_in v))
looked pass v takers c all items views h at =
    let o = open_at IsClosers items views pass v h at (subst IsClosers (sym all.part) tt) (λ e. e) (λ f w d e. e) in
    let whole = look_finds_nothing o.0 o.1 items views pass (length (sent_lists v)) takers c (sent_lists v) (taken_lists v) o.2
    (at ∙ ap some all.part) all.full in
    let counted : c ≡ capacity_in v = sym (ap capacity_in all.part) in
    (whole.0, subst (λ k. IsWhole (record { capacity = k; sent = sent_lists v; took = taken_lists v })) counted whole.1)

sents_take : (c k : ℕ) (took : List (List Taken)) → sent_lists (take_parts c k took) ≡ []
sents_take c k [] = refl
sents_take c k (x ∷ took) = sents_take c (k + 1) took

pub sents_all : (c k j : ℕ) (sent took : List (List Taken)) → sent_lists (put_parts c k sent ++ take_parts c j took) ≡ sent
sents_all c k j [] took = sents_take c j took
sents_all c k j (x ∷ sent) took = ap (λ l. x ∷ l) (sents_all c (k + 1) j sent took)

tooks_take : (c k : ℕ) (took : List (List Taken)) → taken_lists (take_parts c k took) ≡ took
tooks_take c k [] = refl
tooks_take c k (x ∷ took) = ap (λ l. x ∷ l) (tooks_take c (k + 1) took)

pub tooks_all : (c k j : ℕ) (sent took : List (List Taken)) → taken_lists (put_parts c k sent ++ take_parts c j took) ≡ took
tooks_all c k j [] took = tooks_take c j took
tooks_all c k j (x ∷ sent) took = tooks_all c (k + 1) j sent took

parts_more : (part : ℕ → List Taken → Part) (k : ℕ) (lists : List (List Taken)) (l : List Taken) (n : ℕ) → k + length lists ≡ n
    → parts_from part k (lists ++ l ∷ []) ≡ parts_from part k lists ++ part n l ∷ []
parts_more part k [] l n s = ap (λ i. part i l ∷ []) (let z : k ≡ n = omega arith in z)
parts_more part k (x ∷ lists) l n s = ap (λ v. part k x ∷ v) (parts_more part (k + 1) lists l n (omega arith))

-- one more part joins the closer's parts
pub part_joins : (part : ℕ → List Taken → Part) (v : List Part) (lists : List (List Taken)) (l : List Taken)
    → (v ++ parts_from part 0 lists) ++ part (length lists) l ∷ [] ≡ v ++ parts_from part 0 (lists ++ l ∷ [])
part_joins part v lists l =
    append_assoc v (parts_from part 0 lists) (part (length lists) l ∷ [])
    ∙ ap (λ u. v ++ u) (sym (parts_more part 0 lists l (length lists) (omega arith)))

-- the ended parts of all files
pub ended_view : (files c : ℕ) (lists : List (List Taken)) → length lists ≡ files → AllByRecursion (λ l. has_end l ≡ true) lists
    → HasEnded files (put_parts c 0 lists)
ended_view files c lists len h f l =
    let x = some_at lists f (omega arith) in (
      c,
      x.0,
      has_part (λ i y. Put i c y) 0 lists f f x.0 (omega arith) x.1,
      all_get (λ y. has_end y ≡ true) lists f x.0 h x.1,
    )

-- parts of other roles
pub free_parts : (role : Role) (part : ℕ → List Taken → Part) (k : ℕ) (lists : List (List Taken))
    → ((j : ℕ) (l : List Taken) → k ≤ j → role_of (part j l) ≡ Some role → ⊥) → IsFree role (parts_from part k lists)
free_parts role part k [] f = tt
free_parts role part k (x ∷ lists) f = (f k x (omega arith), free_parts role part (k + 1) lists (λ j l le. f j l (omega arith)))
