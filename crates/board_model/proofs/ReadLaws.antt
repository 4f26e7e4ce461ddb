-- What a get and a look have read when they end.
use Rattle.std.proofs.Common.{◌≡◌, ℕ, List, [], ◌∷◌, ◌++◌, length, map, arith, refl, sym, ap, subst, ◌∙◌, Option, Some, None}
use Rattle.std.specs.Prelude.{slice_get, ◌==◌, nat_le, is_some, IfSome}
use Rattle.std.proofs.lemmas.Bool.{le-leb}
use Rattle.std.proofs.lemmas.List.{nil_from_length}
use Rattle.board_layout.specs.declared.type_detail.TypeDetail.{TypeDetail}
use Rattle.board_cell_model.specs.declared.access.Access.{Access}
use Rattle.board_model.specs.declared.answer.Reply.{Reply}
use Rattle.board_model.specs.declared.answer.Reply.TheVariants as reply
use Rattle.board_cell_model.specs.OwedAccesses.{Reading, is_finished, finished, heard, opening, owed_of, to_read, trying}
use Rattle.board_model.specs.TypeTable.{value_type_of}
use Rattle.board_model.specs.Requests.{Request, fill, fresh, get, publish, put, table, update}
use Rattle.board_model.specs.Replies.{ask, latest}
use Rattle.board_model.specs.Memory.{IsStanding}
use Rattle.board_model.specs.Parties.{Running, owed, reading, reply_of_look, reply_of_reading, reply_read}
use Rattle.board_model.specs.LawfulSession.{State}
use Rattle.board_model.specs.LawsOfReads.{RepliesAreRead, RepliesComeWithTheLastWord, GetsReadTheLastValue, IsTaking, ReadsAreReplies}
use Rattle.board_model.proofs.GetLemmas.{is_counter}
use Rattle.board_model.proofs.LineCases.{IsStepOf, step_of}
use Rattle.board_model.proofs.RunningLemmas.{get_ended, own_cell, read_gives, read_is, runs}

pub last_value : GetsReadTheLastValue
last_value s party r a f c ws st rq e =
    let x = get_ended s party r a f c ws st rq e in
    (x.words, x.counter)

abbrev some_reply : Reply → Option Reply
some_reply t = Some t

reading_reply : (type : TypeDetail) (x : Reading) (t : Reply) → reply_of_reading type x ≡ Some t → (c : ℕ) × (ws : List ℕ) × (x ≡ finished c ws) × (t ≡ reply.Got (value_type_of type) ws c)
reading_reply type opening t e = absurd cc
reading_reply type (trying c ws) t e = absurd cc
reading_reply type (finished c ws) t e = (c, ws, refl, cc)

look_reply : (g : ℕ) (vs : List ℕ) (v : ℕ) (t : Reply) → vs ≡ v ∷ [] → reply_of_look g vs ≡ Some t → t ≡ reply.Fresh (g == v)
look_reply g vs v t q e =
    let x : some_reply (reply.Fresh (g == v)) ≡ some_reply t = ap (reply_of_look g) (sym q) ∙ e in
    cc

read_reply : (s : State) (party : List ℕ) (r : Running) (a : Access) (t : Reply) (q : Request) → r.request ≡ q → IsTaking s party r a → reply_read q (r.so_far ++ a ∷ []) ≡ Some t → t ≡ (ask s.standing s.published party q).reply
read_reply s party r a t (table c) rq st e = absurd cc
read_reply s party r a t (get f) rq st e =
    let x = reading_reply f.type (reading f.shape.words (r.so_far ++ a ∷ [])) t e in
    let y = last_value s party r a f x.0 x.1 st rq x.2 in
    x.3 ∙ ap (λ (ws : List ℕ). reply.Got (value_type_of f.type) ws x.0) y.0 ∙ ap (λ (c : ℕ). reply.Got (value_type_of f.type) (latest (s.published f.board f.entry)) c) y.1
read_reply s party r a t (fresh l) rq st e =
    let g = runs s party r (fresh l) st.sound st.runs rq in
    let n : owed_of a ≡ to_read l.board l.shape.first = st.next ∙ ap (λ (q : Request). owed q r.so_far) rq in
    let x = read_is a l.board l.shape.first n in
    let w : slice_get (s.memory l.board) l.shape.first ≡ Some x.0 = subst (λ (y : Access). IsStanding s.memory y) x.1 st.word in
    let c : x.0 ≡ length (s.published l.board l.entry) = is_counter (s.memory l.board) l.shape (s.published l.board l.entry) x.0 l.shape.first (own_cell s st.sound l.board l.entry l.shape g.1.place) refl (read_gives (s.memory l.board) l.shape.first x.0 w) in
    let z : r.so_far ≡ [] = nil_from_length r.so_far g.0 in
    let h : map heard (r.so_far ++ a ∷ []) ≡ x.0 ∷ [] = ap (λ (xs : List Access). map heard (xs ++ a ∷ [])) z ∙ ap (λ (y : Access). heard y ∷ []) x.1 in
    look_reply l.generation (map heard (r.so_far ++ a ∷ [])) x.0 t h e ∙ ap (λ (k : ℕ). reply.Fresh (l.generation == k)) c
read_reply s party r a t (update u) rq st e = absurd cc
read_reply s party r a t (put l i w) rq st e = absurd cc
read_reply s party r a t (publish l) rq st e = absurd cc
read_reply s party r a t (fill l v) rq st e = absurd cc

pub reads_are_replies : ReadsAreReplies
reads_are_replies s party r a t st e = read_reply s party r a t r.request refl st e

-- ---- the reply that is told

read_at_end : (type : TypeDetail) (x : Reading) → is_some (reply_of_reading type x) ≡ is_finished x
read_at_end type opening = refl
read_at_end type (trying c ws) = refl
read_at_end type (finished c ws) = refl

look_at_end : (g : ℕ) (so_far : List Access) → is_some (reply_of_look g (map heard so_far)) ≡ nat_le 1 (length so_far)
look_at_end g [] = refl
look_at_end g (a ∷ more) = sym (le-leb 1 (length (a ∷ more)) (omega arith))

pub reply_at_end : RepliesComeWithTheLastWord
reply_at_end (table c) so_far h = absurd cc
reply_at_end (get f) so_far h = read_at_end f.type (reading f.shape.words so_far)
reply_at_end (fresh l) so_far h = look_at_end l.generation so_far
reply_at_end (update u) so_far h = absurd cc
reply_at_end (put l i w) so_far h = absurd cc
reply_at_end (publish l) so_far h = absurd cc
reply_at_end (fill l v) so_far h = absurd cc

pub told_is_read : RepliesAreRead
told_is_read s party r a told sound run h right = at told (reply_read r.request (r.so_far ++ a ∷ [])) refl (st.reply.last ∙ sym (reply_at_end r.request (r.so_far ++ a ∷ []) h)) st.reply.reply
  where
    st : IsStepOf s party r a told
    st = step_of s party r a told run right

    at : (t o : Option Reply) → reply_read r.request (r.so_far ++ a ∷ []) ≡ o → is_some t ≡ is_some o → IfSome t (λ x. x ≡ (ask s.standing s.published party r.request).reply) → t ≡ o
    at None None e i k = refl
    at None (Some y) e i k = absurd cc
    at (Some x) None e i k = absurd cc
    at (Some x) (Some y) e i k =
        let z : y ≡ (ask s.standing s.published party r.request).reply = reads_are_replies s party r a y (record { sound = sound; runs = run; next = st.next; word = st.word }) e in
        ap (λ (w : Reply). Some w) (k ∙ sym z)
