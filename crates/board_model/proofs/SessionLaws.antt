-- Laws of whole sessions.
use Rattle.std.proofs.Common.{◌≡◌, ℕ, ◌+◌, ◌≤◌, Bool, true, false, List, [], ◌∷◌, ◌++◌, length, map, arith, refl, sym, ap, subst, ◌∙◌, Option, Some}
use Rattle.std.specs.Prelude.{◌==◌, if◌then◌else◌}
use Rattle.std.proofs.lemmas.Bool.{eqb-true, eqb-false, eq-eqb, ne_eqb}
use Rattle.std.proofs.lemmas.List.{append-nil, length-append, length_push, nil_from_length}
use Rattle.board_layout.specs.declared.shape.CellShape.{CellShape}
use Rattle.board_cell_model.specs.declared.access.Access.{Access}
use Rattle.board_model.specs.declared.answer.Answer.{Answer}
use Rattle.board_model.specs.declared.answer.Answer.TheVariants as answer
use Rattle.board_model.specs.declared.answer.Reply.{Reply}
use Rattle.board_model.specs.declared.answer.Reply.TheVariants as reply
use Rattle.board_model.specs.declared.line.Line.{Line}
use Rattle.board_model.specs.declared.line.Line.TheVariants as line
use Rattle.board_model.specs.TypeTable.{value_type_of, value_words}
use Rattle.board_model.specs.Requests.{Published, Request, fill, fresh, get, publish, put, table, update}
use Rattle.board_model.specs.Replies.{ask, latest, lists_after, published_at, word_put}
use Rattle.board_model.specs.Parties.{Party, Running, running}
use Rattle.board_model.specs.LawfulSession.{IsLawfulFrom, IsRight, Session, State, after, after_step, start, state_after, stepped}
use Rattle.board_model.specs.Sound.{IsCalling, IsWriting, Sound}
use Rattle.board_model.specs.LawsOfSessions.{FreshMeansUnpublished, GenerationsNeverFall, IsGot, IsLooked, IsPublicationOf, IsPublished, ListsOnlyGrow, NoGetIsStale, OneGenerationOneValue, OneWriteHandle, Pairs, at_one, at_two, is_publication, publishes_entry, publishes_by, publications_in}
use Rattle.board_model.proofs.CopyLemmas.{latest_push}
use Rattle.board_model.proofs.RunningLemmas.{drawn_in, runs}
use Rattle.board_model.proofs.SoundLemmas.{sound_after, sound_from, sound_session, sound_start}
use Rattle.board_model.proofs.LineCases.{IsStepOf, step_of}
use Rattle.board_model.proofs.GrowthLemmas.{IsGrowth, line_growth, session_growth}

-- ---- sessions

pub lawful_split : (xs ys : Session) (s : State) → IsLawfulFrom s (xs ++ ys) → IsLawfulFrom s xs × IsLawfulFrom (state_after s xs) ys
lawful_split [] ys s h = (tt, h)
lawful_split (x ∷ xs) ys s h =
    let k = lawful_split xs ys (after s x.0 x.1) h.1 in
    ((h.0, k.0), k.1)

pub state_append : (xs ys : Session) (s : State) → state_after s (xs ++ ys) ≡ state_after (state_after s xs) ys
state_append [] ys s = refl
state_append (x ∷ xs) ys s = state_append xs ys (after s x.0 x.1)

-- ---- the pairs of a session

-- two right pairs with a lawful part between them
pub record IsApart (p : Pairs) : Type 0 where
  pub sound : Sound (at_one p)
  pub one : IsRight (at_one p) p.one.0 p.one.1
  pub next : Sound (after (at_one p) p.one.0 p.one.1)
  pub between : IsLawfulFrom (after (at_one p) p.one.0 p.one.1) p.between
  pub state : at_two p ≡ state_after (after (at_one p) p.one.0 p.one.1) p.between
  pub last : Sound (at_two p)
  pub two : IsRight (at_two p) p.two.0 p.two.1

pub apart : (p : Pairs) → IsApart p
apart p =
    let a = lawful_split p.before (p.one ∷ (p.between ++ p.two ∷ [])) start p.lawful in
    let s1 : Sound (at_one p) = sound_from start p.before sound_start a.0 in
    let s2 : Sound (after (at_one p) p.one.0 p.one.1) = sound_after (at_one p) p.one.0 p.one.1 a.1.0 s1 in
    let b = lawful_split p.between (p.two ∷ []) (after (at_one p) p.one.0 p.one.1) a.1.1 in
    let e : at_two p ≡ state_after (after (at_one p) p.one.0 p.one.1) p.between = state_append p.before (p.one ∷ p.between) start in
    record {
      sound = s1;
      one = a.1.0;
      next = s2;
      between = b.0;
      state = e;
      last = subst Sound (sym e) (sound_from (after (at_one p) p.one.0 p.one.1) p.between s2 b.0);
      two = subst (λ (s : State). IsRight s p.two.0 p.two.1) (sym e) b.1.0;
    }

-- a right step of a running call
pub pair_step : (s : State) (x : Line × Answer) (party : List ℕ) (r : Running) (a : Access) (told : Option Reply) → s.parties party ≡ running r → x.0 ≡ line.Step party → x.1 ≡ answer.Step a told → IsRight s x.0 x.1 → IsStepOf s party r a told
pair_step s x party r a told run l e h =
    let h1 : IsRight s (line.Step party) x.1 = subst (λ (y : Line). IsRight s y x.1) l h in
    let h2 : IsRight s (line.Step party) (answer.Step a told) = subst (λ (y : Answer). IsRight s (line.Step party) y) e h1 in
    step_of s party r a told run h2

-- what a get gave
pub record IsGiven (s : State) (b i : ℕ) (ws : List ℕ) (g : ℕ) : Type 0 where
  pub words : ws ≡ latest (s.published b i)
  pub number : g ≡ length (s.published b i)
  pub drawn : b ≤ s.standing.tables.last_board

given : (s : State) (x : Line × Answer) (b i g : ℕ) (ws : List ℕ) → Sound s → IsRight s x.0 x.1 → IsGot s x b i ws g → IsGiven s b i ws g
given s x b i g ws sound h got =
    let st = pair_step s x got.party got.call got.access (Some (reply.Got (value_type_of got.fetch.type) ws g)) got.runs got.line got.answer h in
    let c = runs s got.party got.call (get got.fetch) sound got.runs got.request in
    let e : reply.Got (value_type_of got.fetch.type) ws g ≡ reply.Got (value_type_of got.fetch.type) (latest (s.published got.fetch.board got.fetch.entry)) (length (s.published got.fetch.board got.fetch.entry)) = st.reply.reply ∙ ap (λ (q : Request). (ask s.standing s.published got.party q).reply) got.request in
    let w : ws ≡ latest (s.published got.fetch.board got.fetch.entry) = cc in
    let n : g ≡ length (s.published got.fetch.board got.fetch.entry) = cc in
    record {
      words = w ∙ rw (got.board, got.place) refl;
      number = n ∙ rw (got.board, got.place) refl;
      drawn = omega (arith, drawn_in s sound got.fetch.board got.fetch.entry got.fetch.shape c.place, got.board);
    }

looked : (s : State) (x : Line × Answer) (b i g : ℕ) (is : Bool) → IsRight s x.0 x.1 → IsLooked s x b i g is → is ≡ (g == length (s.published b i))
looked s x b i g is h k =
    let st = pair_step s x k.party k.call k.access (Some (reply.Fresh is)) k.runs k.line k.answer h in
    let e : reply.Fresh is ≡ reply.Fresh (k.look.generation == length (s.published k.look.board k.look.entry)) = st.reply.reply ∙ ap (λ (q : Request). (ask s.standing s.published k.party q).reply) k.request in
    let w : is ≡ (k.look.generation == length (s.published k.look.board k.look.entry)) = cc in
    w ∙ rw (k.board, k.place, k.value) refl

-- ---- the laws

-- from one pair to the other
between_growth : (p : Pairs) (b i : ℕ) → b ≤ (at_one p).standing.tables.last_board → IsGrowth (at_one p) (at_two p) b i ((if publishes_entry (at_one p) p.one.0 p.one.1 b i then 1 else 0) + publications_in (after (at_one p) p.one.0 p.one.1) p.between b i)
between_growth p b i le =
    let a = apart p in
    subst (λ (s : State). IsGrowth (at_one p) s b i ((if publishes_entry (at_one p) p.one.0 p.one.1 b i then 1 else 0) + publications_in (after (at_one p) p.one.0 p.one.1) p.between b i)) (sym a.state)
    (session_growth (p.one ∷ p.between) (at_one p) b i le (a.one, a.between))

pub same_values : OneGenerationOneValue
same_values p b i g ws vs x y =
    let a = apart p in
    let k = given (at_one p) p.one b i g ws a.sound a.one x in
    let l = given (at_two p) p.two b i g vs a.last a.two y in
    let m = between_growth p b i k.drawn in
    let z : length m.more ≡ 0 = omega (arith, k.number, l.number, length-append ((at_one p).published b i) m.more, ap length m.list) in
    let e : (at_two p).published b i ≡ (at_one p).published b i = m.list ∙ ap (λ (c : List (List ℕ)). (at_one p).published b i ++ c) (nil_from_length m.more z) ∙ append-nil ((at_one p).published b i) in
    k.words ∙ ap latest (sym e) ∙ sym l.words

pub rising : GenerationsNeverFall
rising p b i g h ws vs x y =
    let a = apart p in
    let k = given (at_one p) p.one b i g ws a.sound a.one x in
    let l = given (at_two p) p.two b i h vs a.last a.two y in
    let m = between_growth p b i k.drawn in
    omega (arith, k.number, l.number, length-append ((at_one p).published b i) m.more, ap length m.list)

-- the list after a publication
after_is : (s : State) (x : Line × Answer) (party : List ℕ) (r : Running) (a : Access) (told : Option Reply) → s.parties party ≡ running r → x.0 ≡ line.Step party → x.1 ≡ answer.Step a told → after s x.0 x.1 ≡ stepped s party r a told
after_is s x party r a told run l e = ap (λ (y : Line). after s y x.1) l ∙ ap (λ (y : Answer). after s (line.Step party) y) e ∙ ap (λ (y : Party). after_step s party y a told) run

abbrev IsAdded : State → Published → ℕ → ℕ → ℕ → List ℕ → Type 0
IsAdded s lists b i g ws = (lists b i ≡ s.published b i ++ ws ∷ []) × (g ≡ length (s.published b i) + 1) × (b ≤ s.standing.tables.last_board)

published_here : (lists : Published) (b i : ℕ) (v : List ℕ) → published_at lists b i v b i ≡ lists b i ++ v ∷ []
published_here lists b i v = rw (eq-eqb b b refl, eq-eqb i i refl) refl

added : (s : State) → Sound s → (party name : List ℕ) (c j : ℕ) (sh : CellShape) (at : ℕ) (is_loan : Bool) (v : List ℕ) → IsWriting s party name c j sh at is_loan → (b i g : ℕ) (ws : List ℕ) → c ≡ b → j ≡ i → v ≡ ws → g ≡ at + 1 → IsAdded s (published_at s.published c j v) b i g ws
added s sound party name c j sh at is_loan v w b i g ws p q r t =
    let f : published_at s.published c j v b i ≡ published_at s.published b i ws b i = rw (p, q, r) refl in
    let n : length (s.published c j) ≡ length (s.published b i) = rw (p, q) refl in
    (f ∙ published_here s.published b i ws, t ∙ ap (λ (y : ℕ). y + 1) (w.generation ∙ n), omega (arith, drawn_in s sound c j sh w.place, p))

added_by : (s : State) → Sound s → (party : List ℕ) (r : Running) (t : Reply) (b i g : ℕ) (ws : List ℕ) (q : Request) → IsCalling s party r q → IsPublicationOf q b i ws g → IsAdded s (lists_after s.published q t) b i g ws
added_by s sound party r t b i g ws (table c) h k = absurd k
added_by s sound party r t b i g ws (get f) h k = absurd k
added_by s sound party r t b i g ws (fresh l) h k = absurd k
added_by s sound party r t b i g ws (put l j w) h k = absurd k
added_by s sound party r t b i g ws (update u) h k = added s sound party u.handle u.board u.entry u.shape u.generation false (value_words u.value) h.writes b i g ws k.0 k.1 k.2 k.3
added_by s sound party r t b i g ws (publish l) h k = added s sound party l.loan l.board l.entry l.shape l.generation true (map word_put l.words) h.2.writes b i g ws k.0 k.1 k.2 k.3
added_by s sound party r t b i g ws (fill l v) h k = added s sound party l.loan l.board l.entry l.shape l.generation true (value_words v) h.1.writes b i g ws k.0 k.1 k.2 k.3

published : (s : State) (x : Line × Answer) (b i g : ℕ) (ws : List ℕ) → Sound s → IsPublished s x b i ws g → IsAdded s (after s x.0 x.1).published b i g ws
published s x b i g ws sound k =
    let a = added_by s sound k.party k.call k.told b i g ws k.call.request (runs s k.party k.call k.call.request sound k.runs refl) k.request in
    let e : (after s x.0 x.1).published b i ≡ lists_after s.published k.call.request k.told b i = ap (λ (y : State). y.published b i) (after_is s x k.party k.call k.access (Some k.told) k.runs k.line k.answer) in
    (e ∙ a.0, a.1, a.2)

pub later : NoGetIsStale
later p b i g h ws vs x y =
    let a = apart p in
    let s1 : State = after (at_one p) p.one.0 p.one.1 in
    let k = published (at_one p) p.one b i g ws a.sound x in
    let one = line_growth (at_one p) p.one.0 p.one.1 b i k.2 a.one in
    let l = given (at_two p) p.two b i h vs a.last a.two y in
    let m = session_growth p.between s1 b i (omega (arith, one.drawn, k.2)) a.between in
    let q : (at_two p).published b i ≡ s1.published b i ++ m.more = ap (λ (s : State). s.published b i) a.state ∙ m.list in
    let n : length (s1.published b i) ≡ g = ap length k.0 ∙ length_push ((at_one p).published b i) ws ∙ sym k.1 in
    let t : h ≡ g + length m.more = l.number ∙ ap length q ∙ length-append (s1.published b i) m.more ∙ ap (λ (z : ℕ). z + length m.more) n in (
      omega (arith, t),
      λ e.
          let z : length m.more ≡ 0 = omega (arith, t, e) in
          let r : (at_two p).published b i ≡ (at_one p).published b i ++ ws ∷ [] = q ∙ ap (λ (c : List (List ℕ)). s1.published b i ++ c) (nil_from_length m.more z) ∙ append-nil (s1.published b i) ∙ k.0 in
          sym (l.words ∙ ap latest r ∙ latest_push ((at_one p).published b i) ws),
    )

-- a pair that ends a get publishes nothing
got_alone : (s : State) (x : Line × Answer) (b i g c j : ℕ) (ws : List ℕ) → IsGot s x b i ws g → publishes_entry s x.0 x.1 c j ≡ false
got_alone s x b i g c j ws k = ap (λ (y : Line). publishes_entry s y x.1 c j) k.line ∙ ap (λ (y : Answer). publishes_entry s (line.Step k.party) y c j) k.answer ∙ ap (λ (y : Party). publishes_by y (Some (reply.Got (value_type_of k.fetch.type) ws g)) c j) k.runs ∙ ap (λ (q : Request). is_publication q c j) k.request

same_plus : (g n : ℕ) → (g == g + n) ≡ (n == 0)
same_plus g n = at (n == 0) (eqb-true n 0) (eqb-false n 0)
  where
    at : (z : Bool) → (z ≡ true → n ≡ 0) → (z ≡ false → n ≡ 0 → ⊥) → (g == g + n) ≡ z
    at true t f = eq-eqb g (g + n) (omega (arith, t refl))
    at false t f = ne_eqb g (g + n) (λ e. f refl (omega arith))

pub still : FreshMeansUnpublished
still p b i g ws is x y =
    let a = apart p in
    let k = given (at_one p) p.one b i g ws a.sound a.one x in
    let l = looked (at_two p) p.two b i g is a.two y in
    let m = between_growth p b i k.drawn in
    let n : ℕ = publications_in (after (at_one p) p.one.0 p.one.1) p.between b i in
    let z : ◌≡◌ {A = ℕ} (if publishes_entry (at_one p) p.one.0 p.one.1 b i then 1 else 0) 0 = ap (λ (q : Bool). if q then 1 else 0) (got_alone (at_one p) p.one b i g b i ws x) in
    let c : length ((at_two p).published b i) ≡ g + n = ap length m.list ∙ length-append ((at_one p).published b i) m.more ∙ omega (arith, k.number, m.count, z) in
    l ∙ ap (λ (q : ℕ). g == q) c ∙ same_plus g n

pub growing : ListsOnlyGrow
growing p b i le =
    let m = between_growth p b i le in
    (m.more, m.list, m.count)

pub one_handle : OneWriteHandle
one_handle pairs b i h = (sound_session pairs h).things.handles b i
