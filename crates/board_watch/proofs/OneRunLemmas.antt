-- What is told of a script's lines is settled by the lines.
use Rattle.std.proofs.Common.{◌≡◌, ℕ, true, List, [], ◌∷◌, ◌++◌, map, refl, sym, ap, subst, ◌∙◌, append_assoc, inl, inr, Option, Some, None}
use Rattle.std.specs.Prelude.{codes}
use Rattle.std.proofs.lemmas.Bool.{false≢true}
use Rattle.std.proofs.lemmas.List.{append-nil}
use Rattle.board_cell_model.specs.declared.access.Access.TheVariants as access
use Rattle.board_model.specs.declared.answer.Answer.TheVariants as answer
use Rattle.board_model.specs.declared.answer.Reply.TheVariants as reply
use Rattle.script_model.specs.declared.line.ScriptLine.{ScriptLine}
use Rattle.script_model.specs.LawsOfComposition.{Pair, state_met}
use Rattle.script_model.specs.ScriptAnswers.{ScriptAnswer, is_refused, of_boards}
use Rattle.script_model.specs.ScriptSession.{IsRight, Session}
use Rattle.script_model.specs.ScriptTurns.{ScriptState}
use Rattle.script_model.proofs.AnswerLaws.{one_answer}
use Rattle.script_moments.specs.Moments.{Moment}
use Rattle.script_moments.specs.Watchers.{AskedId}
use Rattle.script_exchanges.specs.declared.line.Drive.TheVariants.{Watchers}
use Rattle.script_exchanges.specs.declared.line.DriveLine.{DriveLine}
use Rattle.script_exchanges.specs.declared.line.DriveLine.TheVariants.{Script, Start, Turn}
use Rattle.script_exchanges.specs.DrivenParties.{abandoned_by, held_back, if_kept, kept_with, let_go, party_text}
use Rattle.script_exchanges.specs.Exchanges.{Exchanges, SpellsAll, Told, given, said}
use Rattle.script_feed.proofs.DriveLines.{head_is, rest_is}
use Rattle.script_written.proofs.OneLineLemmas.{one_drive_line}
use Rattle.script_watches.specs.Watchings.{Watching, new_watching, next_line, taken}
use Rattle.script_watches.specs.WatchExchanges.{AreToldIds, IsExchange, IsToldId, Leads, OfScript, OfStart, OfTurn, Watchings, fed_with, id_line, kept_of, no_watchings, pairs_of_id, pairs_of_ids, said_of}
use Rattle.board_watch.specs.LawsOfWatchRuns.{InputsHaveOneRun}

-- ---- right pairs

-- two right answers to one line are one
same_pair : (s : ScriptState) (p q : Pair) → IsRight s p.0 p.1 → IsRight s q.0 q.1 → p.0 ≡ q.0 → p ≡ q
same_pair s p q h k e =
    let a : p.1 ≡ q.1 = one_answer s p.0 p.1 q.1 h (subst (λ (l : ScriptLine). IsRight s l q.1) (sym e) k) in
    ap (λ (l : ScriptLine). (l, p.1)) e ∙ ap (λ (b : ScriptAnswer). (q.0, b)) a

same_moment : (m n : Moment) → m.met ≡ n.met → m.pair ≡ n.pair → m ≡ n
same_moment m n e f = ap (λ (s : ScriptState). record { met = s; pair = m.pair }) e ∙ ap (λ (p : Pair). record { met = n.met; pair = p }) f

-- ---- ids that are asked for

same_id : (x y : AskedId) → x.begun ≡ y.begun → x.ended ≡ y.ended → x.id ≡ y.id → x ≡ y
same_id x y begun ended id =
    ap (λ (m : Moment). record { begun = m; ended = x.ended; id = x.id }) begun
    ∙ ap (λ (m : Moment). record { begun = y.begun; ended = m; id = x.id }) ended
    ∙ ap (λ (n : ℕ). record { begun = y.begun; ended = y.ended; id = n }) id

id_is : (i j : ℕ) → of_boards (answer.Step access.Table (Some (reply.Id i))) ≡ of_boards (answer.Step access.Table (Some (reply.Id j))) → i ≡ j
id_is i j e = cc

one_id : (fed : Session) (party handle : List ℕ) (x y : AskedId) → IsToldId fed party handle x → IsToldId fed party handle y → x ≡ y
one_id fed party handle x y h k =
    let begun : x.begun.pair ≡ y.begun.pair = h.is.begun ∙ sym k.is.begun in
    let right : IsRight (state_met (fed ++ x.begun.pair ∷ [])) y.ended.pair.0 y.ended.pair.1 = subst (λ (p : Pair). IsRight (state_met (fed ++ p ∷ [])) y.ended.pair.0 y.ended.pair.1) (sym begun) k.ended_right in
    let lines : x.ended.pair.0 ≡ y.ended.pair.0 = ap (λ (p : Pair). p.0) h.is.ended ∙ sym (ap (λ (p : Pair). p.0) k.is.ended) in
    let ended : x.ended.pair ≡ y.ended.pair = same_pair (state_met (fed ++ x.begun.pair ∷ [])) x.ended.pair y.ended.pair h.ended_right right lines in
    let id : x.id ≡ y.id = id_is x.id y.id (ap (λ (p : Pair). p.1) (sym h.is.ended ∙ ended ∙ k.is.ended)) in
    let first : x.begun ≡ y.begun = same_moment x.begun y.begun (h.begun_met ∙ sym k.begun_met) begun in
    let second : x.ended ≡ y.ended = same_moment x.ended y.ended (h.ended_met ∙ ap (λ (p : Pair). state_met (fed ++ p ∷ [])) begun ∙ sym k.ended_met) ended in
    same_id x y first second id

one_ids : (hs : List (List ℕ)) (xs ys : List AskedId) (fed : Session) (party : List ℕ) → AreToldIds fed party hs xs → AreToldIds fed party hs ys → xs ≡ ys
one_ids [] [] [] fed party h k = refl
one_ids [] [] (y ∷ ys) fed party h k = absurd k
one_ids [] (x ∷ xs) ys fed party h k = absurd h
one_ids (g ∷ hs) [] ys fed party h k = absurd h
one_ids (g ∷ hs) (x ∷ xs) [] fed party h k = absurd k
one_ids (g ∷ hs) (x ∷ xs) (y ∷ ys) fed party h k =
    let e : x ≡ y = one_id fed party g x y h.0 k.0 in
    let rest : xs ≡ ys = one_ids hs xs ys (fed ++ pairs_of_id x) party h.1 (subst (λ (z : AskedId). AreToldIds (fed ++ pairs_of_id z) party hs ys) (sym e) k.1) in
    ap (λ (z : AskedId). z ∷ xs) e ∙ ap (λ (zs : List AskedId). y ∷ zs) rest

-- a begin that is accepted isn't refused
clash : (fed : Session) (party handle : List ℕ) (x : AskedId) (a : ScriptAnswer) → IsToldId fed party handle x → IsRight (state_met fed) (id_line party handle) a → is_refused a ≡ true → ⊥
clash fed party handle x a h right refused =
    let accepted : IsRight (state_met fed) (id_line party handle) (of_boards answer.Begun) = subst (λ (p : Pair). IsRight (state_met fed) p.0 p.1) h.is.begun h.begun_right in
    false≢true (ap is_refused (one_answer (state_met fed) (id_line party handle) (of_boards answer.Begun) a accepted right) ∙ refused)

-- behind one id
behind : (fed : Session) (x : AskedId) (xs : List AskedId) (l : ScriptLine) (a : ScriptAnswer) → IsRight (state_met (fed ++ pairs_of_ids (x ∷ xs))) l a → IsRight (state_met ((fed ++ pairs_of_id x) ++ pairs_of_ids xs)) l a
behind fed x xs l a h = subst (λ (f : Session). IsRight (state_met f) l a) (sym (append_assoc fed (pairs_of_id x) (pairs_of_ids xs))) h

at_once : (fed : Session) (l : ScriptLine) (a : ScriptAnswer) → IsRight (state_met (fed ++ [])) l a → IsRight (state_met fed) l a
at_once fed l a h = subst (λ (f : Session). IsRight (state_met f) l a) (append-nil fed) h

-- where all ids are told, no begin for one of them is refused
not_both : (first others : List (List ℕ)) (handle : List ℕ) (xs ys : List AskedId) (fed : Session) (party : List ℕ) (a : ScriptAnswer)
    → AreToldIds fed party (first ++ handle ∷ others) xs → AreToldIds fed party first ys → IsRight (state_met (fed ++ pairs_of_ids ys)) (id_line party handle) a → is_refused a ≡ true → ⊥
not_both [] others handle [] ys fed party a h k right refused = absurd h
not_both [] others handle (x ∷ xs) [] fed party a h k right refused = clash fed party handle x a h.0 (at_once fed (id_line party handle) a right) refused
not_both [] others handle (x ∷ xs) (y ∷ ys) fed party a h k right refused = absurd k
not_both (f ∷ fs) others handle [] ys fed party a h k right refused = absurd h
not_both (f ∷ fs) others handle (x ∷ xs) [] fed party a h k right refused = absurd k
not_both (f ∷ fs) others handle (x ∷ xs) (y ∷ ys) fed party a h k right refused =
    let e : x ≡ y = one_id fed party f x y h.0 k.0 in
    not_both fs others handle xs ys (fed ++ pairs_of_id y) party a (subst (λ (z : AskedId). AreToldIds (fed ++ pairs_of_id z) party (fs ++ handle ∷ others) xs) e h.1) k.1 (behind fed y ys (id_line party handle) a right) refused

-- two begins that are refused are one, and so are the ids that were told before
one_down : (first more : List (List ℕ)) (g h : List ℕ) (os ps : List (List ℕ)) (xs ys : List AskedId) (a b : ScriptAnswer) (fed : Session) (party : List ℕ)
    → first ++ g ∷ os ≡ more ++ h ∷ ps → AreToldIds fed party first xs → AreToldIds fed party more ys
    → IsRight (state_met (fed ++ pairs_of_ids xs)) (id_line party g) a → IsRight (state_met (fed ++ pairs_of_ids ys)) (id_line party h) b → is_refused a ≡ true → is_refused b ≡ true
    → pairs_of_ids xs ++ (id_line party g, a) ∷ [] ≡ pairs_of_ids ys ++ (id_line party h, b) ∷ []
one_down [] [] g h os ps [] [] a b fed party e t k r q ra qb =
    ap (λ (p : Pair). p ∷ []) (same_pair (state_met fed) (id_line party g, a) (id_line party h, b) (at_once fed (id_line party g) a r) (at_once fed (id_line party h) b q) (ap (id_line party) (head_is g h os ps e)))
one_down [] [] g h os ps [] (y ∷ ys) a b fed party e t k r q ra qb = absurd k
one_down [] [] g h os ps (x ∷ xs) ys a b fed party e t k r q ra qb = absurd t
one_down [] (m ∷ ms) g h os ps [] [] a b fed party e t k r q ra qb = absurd k
one_down [] (m ∷ ms) g h os ps [] (y ∷ ys) a b fed party e t k r q ra qb =
    absurd (clash fed party m y a k.0 (subst (λ (n : List ℕ). IsRight (state_met fed) (id_line party n) a) (head_is g m os (ms ++ h ∷ ps) e) (at_once fed (id_line party g) a r)) ra)
one_down [] (m ∷ ms) g h os ps (x ∷ xs) ys a b fed party e t k r q ra qb = absurd t
one_down (f ∷ fs) [] g h os ps [] ys a b fed party e t k r q ra qb = absurd t
one_down (f ∷ fs) [] g h os ps (x ∷ xs) [] a b fed party e t k r q ra qb =
    absurd (clash fed party f x b t.0 (subst (λ (n : List ℕ). IsRight (state_met fed) (id_line party n) b) (sym (head_is f h (fs ++ g ∷ os) ps e)) (at_once fed (id_line party h) b q)) qb)
one_down (f ∷ fs) [] g h os ps (x ∷ xs) (y ∷ ys) a b fed party e t k r q ra qb = absurd k
one_down (f ∷ fs) (m ∷ ms) g h os ps [] ys a b fed party e t k r q ra qb = absurd t
one_down (f ∷ fs) (m ∷ ms) g h os ps (x ∷ xs) [] a b fed party e t k r q ra qb = absurd k
one_down (f ∷ fs) (m ∷ ms) g h os ps (x ∷ xs) (y ∷ ys) a b fed party e t k r q ra qb =
    let same : f ≡ m = head_is f m (fs ++ g ∷ os) (ms ++ h ∷ ps) e in
    let id : x ≡ y = one_id fed party f x y t.0 (subst (λ (n : List ℕ). IsToldId fed party n y) (sym same) k.0) in
    let told : AreToldIds (fed ++ pairs_of_id x) party ms ys = subst (λ (z : AskedId). AreToldIds (fed ++ pairs_of_id z) party ms ys) (sym id) k.1 in
    let next : IsRight (state_met ((fed ++ pairs_of_id x) ++ pairs_of_ids ys)) (id_line party h) b = subst (λ (z : AskedId). IsRight (state_met ((fed ++ pairs_of_id z) ++ pairs_of_ids ys)) (id_line party h) b) (sym id) (behind fed y ys (id_line party h) b q) in
    let rest = one_down fs ms g h os ps xs ys a b (fed ++ pairs_of_id x) party (rest_is f m (fs ++ g ∷ os) (ms ++ h ∷ ps) e) t.1 told (behind fed x xs (id_line party g) a r) next ra qb in
    append_assoc (pairs_of_id x) (pairs_of_ids xs) ((id_line party g, a) ∷ [])
    ∙ ap (λ (f : Session). pairs_of_id x ++ f) rest
    ∙ ap (λ (z : AskedId). pairs_of_id z ++ (pairs_of_ids ys ++ (id_line party h, b) ∷ [])) id
    ∙ sym (append_assoc (pairs_of_id y) (pairs_of_ids ys) ((id_line party h, b) ∷ []))

-- ---- what is told of a line

-- what is told and what stands afterwards are the same
record AreOne (told more : List Told) (t u : Watchings) : Type 0 where
  told_is : told ≡ more
  after_is : t ≡ u

-- both are these, of something that is settled
both_given : {A : Type 0} (f : A → List Told) (g : A → Watchings) (a b : A) (told more : List Told) (t u : Watchings) → a ≡ b → told ≡ f a → t ≡ g a → more ≡ f b → u ≡ g b → AreOne told more t u
both_given f g a b told more t u e ta ga tb gb = record {
  told_is = ta ∙ ap f e ∙ sym tb;
  after_is = ga ∙ ap g e ∙ sym gb;
}

both_said : (s t u : Watchings) (told more text : List Told) → told ≡ text → t ≡ s → more ≡ text → u ≡ s → AreOne told more t u
both_said s t u told more text a b c d = record { told_is = a ∙ sym c; after_is = b ∙ sym d }

one_script : (s t u : Watchings) (l : ScriptLine) (told more : List Told) (o : Option (List ℕ)) → OfScript s l o told t → OfScript s l o more u → AreOne told more t u
one_script s t u l told more None h k =
    both_given (λ (a : ScriptAnswer). given (l, a) ∷ []) (λ (a : ScriptAnswer). fed_with s ((l, a) ∷ []) (let_go s.of (abandoned_by l) (is_refused a))) h.answer k.answer told more t u (one_answer (state_met s.fed) l h.answer k.answer h.right k.right) h.told_is h.after k.told_is k.after
one_script s t u l told more (Some party) h k = both_said s t u told more _ h.0 h.1 k.0 k.1

one_start : (s t u : Watchings) (party listener : List ℕ) (handles : List (List ℕ)) (told more : List Told) (o : Option Watching) → OfStart s party listener handles o told t → OfStart s party listener handles o more u → AreOne told more t u
one_start s t u party listener handles told more (Some x) h k = both_said s t u told more _ h.0 h.1 k.0 k.1
one_start s t u party listener handles told more None (inl h) (inl k) =
    both_given (λ (asked : List AskedId). map given (pairs_of_ids asked) ++ said (party_text (codes "watching") party) ∷ [])
    (λ (asked : List AskedId). fed_with s (pairs_of_ids asked) (kept_with s.of party (Some (new_watching listener handles s.fed asked)))) h.asked k.asked told more t u (one_ids handles h.asked k.asked s.fed party h.ids k.ids) h.told_is h.after k.told_is k.after
one_start s t u party listener handles told more None (inl h) (inr k) =
    absurd (not_both k.first k.others k.handle h.asked k.asked s.fed party k.answer (subst (λ (hs : List (List ℕ)). AreToldIds s.fed party hs h.asked) k.parts h.ids) k.ids k.right k.refused)
one_start s t u party listener handles told more None (inr h) (inl k) =
    absurd (not_both h.first h.others h.handle k.asked h.asked s.fed party h.answer (subst (λ (hs : List (List ℕ)). AreToldIds s.fed party hs k.asked) h.parts k.ids) h.ids h.right h.refused)
one_start s t u party listener handles told more None (inr h) (inr k) =
    both_given (λ (pairs : Session). map given pairs ++ said (party_text (codes "unwatched") party) ∷ []) (λ (pairs : Session). fed_with s pairs s.of)
    (pairs_of_ids h.asked ++ (id_line party h.handle, h.answer) ∷ []) (pairs_of_ids k.asked ++ (id_line party k.handle, k.answer) ∷ []) told more t u
    (one_down h.first k.first h.handle k.handle h.others k.others h.asked k.asked h.answer k.answer s.fed party (sym h.parts ∙ k.parts) h.ids k.ids h.right k.right h.refused k.refused) h.told_is h.after k.told_is k.after

one_turn : (s t u : Watchings) (party : List ℕ) (told more : List Told) (o : Option Watching) → OfTurn s party o told t → OfTurn s party o more u → AreOne told more t u
one_turn s t u party told more None h k = both_said s t u told more _ h.0 h.1 k.0 k.1
one_turn s t u party told more (Some x) h k =
    both_given (λ (a : ScriptAnswer). given (next_line party x, a) ∷ said_of party (taken s.fed party x a)) (λ (a : ScriptAnswer). fed_with s ((next_line party x, a) ∷ []) (kept_with s.of party (kept_of (taken s.fed party x a)))) h.answer k.answer told more t u (one_answer (state_met s.fed) (next_line party x) h.answer k.answer h.right k.right) h.told_is h.after k.told_is k.after

one_exchange : (s t u : Watchings) (l : DriveLine) (told more : List Told) → IsExchange s l told t → IsExchange s l more u → AreOne told more t u
one_exchange s t u (Script l) told more h k = one_script s t u l told more (if_kept s.of (held_back l)) h.exchanged k.exchanged
one_exchange s t u (Start party []) told more h k = absurd h.exchanged
one_exchange s t u (Start party (listener ∷ handles)) told more h k = one_start s t u party listener handles told more (s.of party) h.exchanged k.exchanged
one_exchange s t u (Turn party) told more h k = one_turn s t u party told more (s.of party) h.exchanged k.exchanged

-- ---- whole runs

one_run : (lines : List (List ℕ)) (xs ys : Exchanges) (s t u : Watchings) → SpellsAll Watchers lines xs → SpellsAll Watchers lines ys → Leads s xs t → Leads s ys u → xs ≡ ys
one_run [] [] [] s t u a b h k = refl
one_run [] [] (y ∷ ys) s t u a b h k = absurd b
one_run [] (x ∷ xs) ys s t u a b h k = absurd a
one_run (bytes ∷ more) [] ys s t u a b h k = absurd a
one_run (bytes ∷ more) (x ∷ xs) [] s t u a b h k = absurd b
one_run (bytes ∷ more) ((l, told) ∷ xs) ((m, tolds) ∷ ys) s t u a b h k =
    let line : m ≡ l = one_drive_line Watchers bytes m l b.0 a.0 in
    let same : AreOne told tolds h.0 k.0 = one_exchange s h.0 k.0 l told tolds h.1 (subst (λ (n : DriveLine). IsExchange s n tolds k.0) line k.1) in
    let rest : xs ≡ ys = one_run more xs ys h.0 t u a.1 b.1 h.2 (subst (λ (v : Watchings). Leads v ys u) (sym same.after_is) k.2) in
    rw (line, same.told_is, rest) refl

pub one_run_of : InputsHaveOneRun
one_run_of input xs ys a b h k = one_run _ xs ys no_watchings h.0 k.0 a b h.1 k.1
