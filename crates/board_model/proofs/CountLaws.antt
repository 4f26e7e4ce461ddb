-- How many steps a call takes.
use Rattle.std.proofs.Common.{◌≡◌, ℕ, ◌+◌, ◌*◌, ◌<◌, true, false, List, [], ◌∷◌, ◌++◌, length, arith, refl, sym, ap, ◌∙◌}
use Rattle.std.specs.Prelude.{nat_le}
use Rattle.std.proofs.lemmas.Bool.{le-leb, leb-true}
use Rattle.std.proofs.lemmas.List.{length_push}
use Rattle.board_cell_model.specs.declared.access.Access.{Access}
use Rattle.board_cell_model.specs.OwedAccesses.{Reading, finished, is_finished, opening, trying}
use Rattle.board_model.specs.TypeTable.{value_words}
use Rattle.board_model.specs.Requests.{Fetch, Request, fill, fresh, get, publish, put, table, update}
use Rattle.board_model.specs.Parties.{Running, is_done, reading}
use Rattle.board_model.specs.LawfulSession.{State}
use Rattle.board_model.specs.Sound.{IsCalling, IsReading}
use Rattle.board_model.specs.LawsOfCounts.{FillsTakeTheirWords, FinishedGetsAreShort, GetsAloneTakeTheirWords, IsLast, OtherCallsTakeOneStep, RunningGetsAreShort, UpdatesTakeTheirWords, is_long}
use Rattle.board_model.proofs.GetLemmas.{IsEnded}
use Rattle.board_model.proofs.RunningLemmas.{get_ended, runs}

trying_count : (list : List (List ℕ)) (w n p : ℕ) (x : Reading) → IsReading list w n p x → n < 1 + (p + 1) * (w + 1)
trying_count list w n p opening h = omega (arith, h)
trying_count list w n p (trying c ws) h = omega (arith, h.most, h.size)
trying_count list w n p (finished c ws) h = absurd h

pub running_get : RunningGetsAreShort
running_get s party r f sound run rq = trying_count (s.published f.board f.entry) f.shape.words (length r.so_far) r.passed (reading f.shape.words r.so_far) (runs s party r (get f) sound run rq).try

pub finished_is : (x : Reading) → is_finished x ≡ true → (c : ℕ) × (ws : List ℕ) × (x ≡ finished c ws)
finished_is opening e = absurd cc
finished_is (trying c ws) e = absurd cc
finished_is (finished c ws) e = (c, ws, refl)

get_end : (s : State) (party : List ℕ) (r : Running) (a : Access) (f : Fetch) → IsLast s party r a → r.request ≡ get f → (c : ℕ) × (ws : List ℕ) × IsEnded (s.published f.board f.entry) f.shape.words (length r.so_far) r.passed c ws
get_end s party r a f h rq =
    let d : is_finished (reading f.shape.words (r.so_far ++ a ∷ [])) ≡ true = ap (λ (q : Request). is_done q (r.so_far ++ a ∷ [])) (sym rq) ∙ h.done in
    let x = finished_is (reading f.shape.words (r.so_far ++ a ∷ [])) d in
    (x.0, x.1, get_ended s party r a f x.0 x.1 h.takes rq x.2)

pub finished_get : FinishedGetsAreShort
finished_get s party r a f h rq =
    let x = get_end s party r a f h rq in
    omega (arith, length_push r.so_far a, x.2.tried.most, x.2.full)

pub get_alone : GetsAloneTakeTheirWords
get_alone s party r a f h rq z =
    let x = get_end s party r a f h rq in
    let p : r.passed * (f.shape.words + 1) ≡ 0 = rw z (omega arith) in
    omega (arith, length_push r.so_far a, x.2.tried.most, x.2.tried.least, x.2.full, p)

pub update_count : UpdatesTakeTheirWords
update_count s party r a u h rq =
    let g = runs s party r (update u) h.takes.sound h.takes.runs rq in
    let d : nat_le (length (value_words u.value) + 1) (length (r.so_far ++ a ∷ [])) ≡ true = ap (λ (q : Request). is_done q (r.so_far ++ a ∷ [])) (sym rq) ∙ h.done in
    let l = leb-true (length (value_words u.value) + 1) (length (r.so_far ++ a ∷ [])) d in
    omega (arith, length_push r.so_far a, g.size, g.steps, l)

pub fill_count : FillsTakeTheirWords
fill_count s party r a l v h rq =
    let g = runs s party r (fill l v) h.takes.sound h.takes.runs rq in
    let d : nat_le (length (value_words v) + 1) (length (r.so_far ++ a ∷ [])) ≡ true = ap (λ (q : Request). is_done q (r.so_far ++ a ∷ [])) (sym rq) ∙ h.done in
    let m = leb-true (length (value_words v) + 1) (length (r.so_far ++ a ∷ [])) d in
    omega (arith, length_push r.so_far a, g.1.size, g.1.steps, m)

nothing_taken : (s : State) (party : List ℕ) (r : Running) (q : Request) → is_long q ≡ false → IsCalling s party r q → length r.so_far ≡ 0
nothing_taken s party r (table c) e h = h.0
nothing_taken s party r (get f) e h = absurd cc
nothing_taken s party r (fresh l) e h = h.0
nothing_taken s party r (update u) e h = absurd cc
nothing_taken s party r (put l i w) e h = h.0
nothing_taken s party r (publish l) e h = h.0
nothing_taken s party r (fill l v) e h = absurd cc

done_at_once : (q : Request) (accesses : List Access) → is_long q ≡ false → nat_le 1 (length accesses) ≡ true → is_done q accesses ≡ true
done_at_once (table c) so_far e h = h
done_at_once (get f) so_far e h = absurd cc
done_at_once (fresh l) so_far e h = h
done_at_once (update u) so_far e h = absurd cc
done_at_once (put l i w) so_far e h = h
done_at_once (publish l) so_far e h = h
done_at_once (fill l v) so_far e h = absurd cc

pub one_step : OtherCallsTakeOneStep
one_step s party r a h e =
    let z = nothing_taken s party r r.request e (runs s party r r.request h.sound h.runs refl) in
    let n = length_push r.so_far a in
    let l : nat_le 1 (length (r.so_far ++ a ∷ [])) ≡ true = le-leb 1 (length (r.so_far ++ a ∷ [])) (omega (arith, n)) in
    (done_at_once r.request (r.so_far ++ a ∷ []) e l, omega (arith, n, z))
