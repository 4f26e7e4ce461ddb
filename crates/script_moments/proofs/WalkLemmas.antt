-- A get, from its begin to its end.
use Rattle.std.proofs.Common.{◌≡◌, ℕ, ◌+◌, ◌-◌, ◌*◌, ◌<◌, ◌≤◌, Bool, true, false, cond, List, [], ◌∷◌, ◌++◌, length, arith, refl, sym, ap, subst, ◌∙◌, Option, Some, None}
use Rattle.std.proofs.lemmas.List.{length_push}
use Rattle.std.proofs.lemmas.Bool.{eqb-true, eqb-false}
use Rattle.std.proofs.Math.Nat.{mul-le-mul_right}
use Rattle.std.specs.Prelude.{◌==◌, if◌then◌else◌, is_some}
use Rattle.board_layout.specs.declared.shape.CellShape.{CellShape}
use Rattle.board_cell_model.specs.declared.access.Access.{Access}
use Rattle.board_model.specs.declared.answer.Answer.{Answer}
use Rattle.board_model.specs.declared.answer.Answer.TheVariants as answer
use Rattle.board_model.specs.declared.answer.Reason.{Reason}
use Rattle.board_model.specs.declared.answer.Reply.{Reply}
use Rattle.board_model.specs.declared.answer.Reply.TheVariants as reply
use Rattle.board_model.specs.declared.line.Call.TheVariants as call
use Rattle.board_model.specs.declared.line.Line.{Line}
use Rattle.board_model.specs.declared.line.Line.TheVariants as board_line
use Rattle.board_model.specs.declared.tables.Entry.{Entry}
use Rattle.board_model.specs.declared.tables.ThingKind.TheVariants as thing_kind
use Rattle.board_model.specs.declared.value.ValueType.{ValueType}
use Rattle.board_cell_model.specs.OwedAccesses.{current_at, Reading, finished, hear, heard, is_finished, opening, owed_of, owed_read, to_read, trying}
use Rattle.board_model.specs.TypeTable.{value_type_of}
use Rattle.board_model.specs.Tables.{entry_at, entry_of}
use Rattle.board_layout.specs.Layout.{cell_shape}
use Rattle.board_model.specs.Things.{Held, held_of_kind}
use Rattle.board_model.specs.Requests.{Fetch, Request, and_then, get, handled, request_of}
use Rattle.board_model.specs.Replies.{ask, latest, lists_after}
use Rattle.board_model.specs.Parties.{Party, Running, begun, free, gone, is_done, notice, owed, reading, running}
use Rattle.board_model.specs.LawfulSession.{IsRight, State, after, after_step, call_reason, free_reason, reason_of, stepped}
use Rattle.board_model.specs.Sound.{IsCell, IsReading, Sound}
use Rattle.board_model.specs.LawsOfSessions.{IsGot}
use Rattle.board_model.proofs.GetLemmas.{IsRead, is_counter, reading_push}
use Rattle.board_model.proofs.RunningLemmas.{get_ended, get_read, own_cell, runs}
use Rattle.board_model.proofs.KeptLemmas.{party_here}
use Rattle.board_model.proofs.LineCases.{accepted, step_of}
use Rattle.board_model.proofs.SoundLemmas.{sound_after}
use Rattle.board_model.proofs.CountLaws.{finished_is}
use Rattle.script_moments.proofs.ChainLemmas.{Link, link_grows, link_leaves}

-- ---- the begin

-- the get goes to the entry of the handle
pub record IsFetch (s : State) (party h : List ℕ) (f : Fetch) : Type 0 where
  pub thing : Held
  pub held : held_of_kind s.standing thing_kind.ReadHandle party h ≡ Some thing
  pub entry : Entry
  pub there : entry_at s.standing.tables thing.board (entry_of thing.kind) ≡ Some entry
  pub is : f ≡ record { board = thing.board; entry = entry_of thing.kind; shape = cell_shape entry.cell; type = entry.value; handle = h; name = None }

pub free_none : (x : Party) (o : Option Reason) → free_reason x o ≡ None → o ≡ None
free_none free o e = e
free_none (running r) o e = absurd cc
free_none gone o e = absurd cc

abbrev fetch_of : List ℕ → Held → Entry → Fetch
fetch_of h t e = record { board = t.board; entry = entry_of t.kind; shape = cell_shape e.cell; type = e.value; handle = h; name = None }

-- a get that found what it uses
record IsAskedFor (s : State) (party h : List ℕ) (f : Fetch) : Type 0 where
  fetch : IsFetch s party h f
  request : request_of s.standing s.published party (call.Get h None) ≡ Some (get f)

asked_for : (s : State) (party h : List ℕ) → call_reason s.standing party (call.Get h None) (request_of s.standing s.published party (call.Get h None)) ≡ None → (f : Fetch) × IsAskedFor s party h f
asked_for s party h ok = at (held_of_kind s.standing thing_kind.ReadHandle party h) refl ok
  where
    inner : (t : Held) → held_of_kind s.standing thing_kind.ReadHandle party h ≡ Some t → (o : Option Entry) → handled s.standing t ≡ o → call_reason s.standing party (call.Get h None) (and_then o (λ e. Some (get (fetch_of h t e)))) ≡ None → (f : Fetch) × IsAskedFor s party h f
    inner t e None g k = absurd cc
    inner t e (Some x) g k = (
      fetch_of h t x,
      record {
        fetch = record { thing = t; held = e; entry = x; there = g; is = refl };
        request = ap (λ (o : Option Held). and_then o (λ y. and_then (handled s.standing y) (λ z. Some (get (fetch_of h y z))))) e ∙ ap (λ (o : Option Entry). and_then o (λ z. Some (get (fetch_of h t z)))) g;
      },
    )

    at : (o : Option Held) → held_of_kind s.standing thing_kind.ReadHandle party h ≡ o → call_reason s.standing party (call.Get h None) (and_then o (λ t. and_then (handled s.standing t) (λ e. Some (get (fetch_of h t e))))) ≡ None → (f : Fetch) × IsAskedFor s party h f
    at None e k = absurd cc
    at (Some t) e k = inner t e (handled s.standing t) refl k

-- ---- how slow a get may be: after n steps it has tried again only where the list had grown

abbrev pub IsSlow : ℕ → ℕ → ℕ → Reading → Type 0
IsSlow w low n opening = n ≡ 0
IsSlow w low n (trying c ws) = (low ≤ c) × (n ≤ 1 + (c - low) * (w + 1) + length ws)
IsSlow w low n (finished c ws) = ⊥

opens_slow : (w low n v len : ℕ) → n ≡ 0 → v ≡ len → low ≤ len → IsSlow w low (n + 1) (trying v [])
opens_slow w low n v len z e le = (omega arith, omega arith)

again_slow : (w low n v c len : ℕ) (ws : List ℕ) → v ≡ len → c ≤ len → (v ≡ c → ⊥) → length ws ≡ w → low ≤ c → n ≤ 1 + (c - low) * (w + 1) + length ws → IsSlow w low (n + 1) (trying v [])
again_slow w low n v c len ws e below ne full le most =
    let l : (c - low + 1) * (w + 1) ≤ (v - low) * (w + 1) = mul-le-mul_right (w + 1) (omega arith) in
    (omega arith, omega (arith, l))

more_slow : (w low n v c : ℕ) (ws : List ℕ) → low ≤ c → n ≤ 1 + (c - low) * (w + 1) + length ws → IsSlow w low (n + 1) (trying c (ws ++ v ∷ []))
more_slow w low n v c ws le most = (le, omega (arith, length_push ws v))

-- one word more
pub slow_on : (words : List ℕ) (c : CellShape) (list : List (List ℕ)) (low n p v : ℕ) (r : Reading) → IsCell words c list → IsReading list c.words n p r → IsRead words c r v → is_finished (hear c.words r v) ≡ false → (n ≡ 0 → low ≤ length list) → IsSlow c.words low n r → IsSlow c.words low (n + 1) (hear c.words r v)
slow_on words c list low n p v opening cell h rd f le k =
    let i : rd.i ≡ c.first = cc (rd.next) in
    opens_slow c.words low n v (length list) k (is_counter words c list v rd.i cell i rd.word) (le k)
slow_on words c list low n p v (trying counter ws) cell h rd f le k = at (length ws == c.words) (λ q. eqb-true (length ws) c.words q) rd.next f
  where
    shut : (b : Bool) → (b ≡ false → v ≡ counter → ⊥) → is_finished (cond b (finished counter ws) (trying v [])) ≡ false → v ≡ length list → length ws ≡ c.words → IsSlow c.words low (n + 1) (cond b (finished counter ws) (trying v []))
    shut true ne f' e full = absurd cc
    shut false ne f' e full = again_slow c.words low n v counter (length list) ws e h.below (ne refl) full k.0 k.1

    at : (b : Bool) → (b ≡ true → length ws ≡ c.words)
        → to_read rd.board rd.i ≡ to_read rd.of (if b then c.first else current_at c counter + length ws)
        → is_finished (if b then (if v == counter then finished counter ws else trying v []) else trying counter (ws ++ v ∷ [])) ≡ false
        → IsSlow c.words low (n + 1) (if b then (if v == counter then finished counter ws else trying v []) else trying counter (ws ++ v ∷ []))
    at true t nx f' =
        let i : rd.i ≡ c.first = cc (nx) in
        shut (v == counter) (eqb-false v counter) f' (is_counter words c list v rd.i cell i rd.word) (t refl)
    at false t nx f' = more_slow c.words low n v counter ws k.0 k.1
slow_on words c list low n p v (finished counter ws) cell h rd f le k = absurd k

-- the last word
slow_end : (w low n v : ℕ) (r : Reading) (c : ℕ) (ws : List ℕ) → hear w r v ≡ finished c ws → IsSlow w low n r → (low ≤ c) × (n ≤ 1 + (c - low) * (w + 1) + length ws)
slow_end w low n v opening c ws e k = absurd cc
slow_end w low n v (trying counter vs) c ws e k = at (length vs == w) (v == counter) e
  where
    at : (b d : Bool) → (if b then (if d then finished counter vs else trying v []) else trying counter (vs ++ v ∷ [])) ≡ finished c ws → (low ≤ c) × (n ≤ 1 + (c - low) * (w + 1) + length ws)
    at true true q =
        let x : counter ≡ c = cc in
        let y : vs ≡ ws = cc in
        (omega (arith, x, k.0), subst (λ (z : List ℕ). n ≤ 1 + (c - low) * (w + 1) + length z) y (subst (λ (z : ℕ). n ≤ 1 + (z - low) * (w + 1) + length vs) x k.1))
    at true false q = absurd cc
    at false d q = absurd cc
slow_end w low n v (finished counter vs) c ws e k = absurd k

-- ---- a get that runs

pub record IsRun (party : List ℕ) (f : Fetch) (low n : ℕ) (s : State) : Type 0 where
  pub sound : Sound s
  pub call : Running
  pub runs : s.parties party ≡ running call
  pub request : call.request ≡ get f
  pub count : length call.so_far ≡ n
  pub slow : IsSlow f.shape.words low n (reading f.shape.words call.so_far)

-- lines of others change nothing of it
pub run_link : (party : List ℕ) (f : Fetch) (low n : ℕ) (s t : State) → Link party s t → IsRun party f low n s → IsRun party f low n t
run_link party f low n s t link r =
    let k = link_leaves party s t link r.sound in
    let c = k.runs r.call r.runs in
    record {
      sound = (link_grows party s t link r.sound).sound;
      call = record r.call { passed = c.0 };
      runs = c.1;
      request = r.request;
      count = r.count;
      slow = r.slow;
    }

pub after_step_is : (s : State) (party : List ℕ) (r : Running) (a : Access) (told : Option Reply) → s.parties party ≡ running r → after s (board_line.Step party) (answer.Step a told) ≡ stepped s party r a told
after_step_is s party r a told e = ap (λ (y : Party). after_step s party y a told) e

is_true : (told : Option Reply) (b : Bool) → is_some told ≡ b → told ≡ None → b ≡ false
is_true told b e n = sym e ∙ ap is_some n

-- a step that goes on
pub run_step : (party : List ℕ) (f : Fetch) (low n : ℕ) (s : State) (a : Access) → IsRun party f low n s → (n ≡ 0 → low ≤ length (s.published f.board f.entry)) → IsRight s (board_line.Step party) (answer.Step a None)
    → IsRun party f low (n + 1) (after s (board_line.Step party) (answer.Step a None))
run_step party f low n s a r le ok =
    let st = step_of s party r.call a None r.runs ok in
    let g = runs s party r.call (get f) r.sound r.runs r.request in
    let next : owed_of a ≡ owed_read f.board f.shape (reading f.shape.words r.call.so_far) = st.next ∙ ap (λ (q : Request). owed q r.call.so_far) r.request in
    let x = get_read s f r.call.so_far a next st.word in
    let hears : reading f.shape.words (r.call.so_far ++ a ∷ []) ≡ hear f.shape.words (reading f.shape.words r.call.so_far) x.v = reading_push f.shape.words r.call.so_far a ∙ ap (hear f.shape.words (reading f.shape.words r.call.so_far)) x.heard in
    let last : is_finished (reading f.shape.words (r.call.so_far ++ a ∷ [])) ≡ false = ap (λ (q : Request). is_done q (r.call.so_far ++ a ∷ [])) (sym r.request) ∙ sym st.reply.last in
    let open_still : is_finished (hear f.shape.words (reading f.shape.words r.call.so_far) x.v) ≡ false = ap is_finished (sym hears) ∙ last in
    let reads : IsReading (s.published f.board f.entry) f.shape.words n r.call.passed (reading f.shape.words r.call.so_far) = subst (λ (m : ℕ). IsReading (s.published f.board f.entry) f.shape.words m r.call.passed (reading f.shape.words r.call.so_far)) r.count g.try in
    let slow = slow_on (s.memory f.board) f.shape (s.published f.board f.entry) low n r.call.passed x.v (reading f.shape.words r.call.so_far) (own_cell s r.sound f.board f.entry f.shape g.place) reads x.read open_still le r.slow in
    record {
      sound = sound_after s (board_line.Step party) (answer.Step a None) ok r.sound;
      call = record r.call { so_far = r.call.so_far ++ a ∷ [] };
      runs = ap (λ (t : State). t.parties party) (after_step_is s party r.call a None r.runs) ∙ party_here (λ p. notice a (s.parties p)) party _;
      request = r.request;
      count = length_push r.call.so_far a ∙ ap (λ (m : ℕ). m + 1) r.count;
      slow = subst (IsSlow f.shape.words low (n + 1)) (sym hears) slow;
    }

-- the end of a get after n steps and one more, at its last step
pub record IsGotBy (f : Fetch) (low n : ℕ) (s t : State) (value : List ℕ) (g : ℕ) : Type 0 where
  pub words : value ≡ latest (s.published f.board f.entry)
  pub some : 0 < g
  pub generation : g ≡ length (s.published f.board f.entry)
  pub lists : t.published f.board f.entry ≡ s.published f.board f.entry
  pub standing : t.standing ≡ s.standing
  pub above : low ≤ g
  pub few : n + 1 ≤ f.shape.words + 2 + (g - low) * (f.shape.words + 1)
  pub many : f.shape.words + 2 ≤ n + 1

got_is : (x y : ValueType) (vs ws : List ℕ) (g h : ℕ) → reply.Got x vs g ≡ reply.Got y ws h → (vs ≡ ws) × (g ≡ h)
got_is x y vs ws g h e = (cc, cc)

-- a get of the party ends
pub record IsOwnGot (party : List ℕ) (s : State) (pair : Line × Answer) (b i : ℕ) (value : List ℕ) (g : ℕ) : Type 0 where
  pub got : IsGot s pair b i value g
  pub own : got.party ≡ party

pub run_end : (party : List ℕ) (f : Fetch) (low n : ℕ) (s : State) (a : Access) (type : ValueType) (words : List ℕ) (g : ℕ) → f.name ≡ None → IsRun party f low n s → IsRight s (board_line.Step party) (answer.Step a (Some (reply.Got type words g)))
    → IsGotBy f low n s (after s (board_line.Step party) (answer.Step a (Some (reply.Got type words g)))) words g
run_end party f low n s a type words g no_name r ok =
    let t : Reply = reply.Got type words g in
    let st = step_of s party r.call a (Some t) r.runs ok in
    let told : t ≡ (ask s.standing s.published party (get f)).reply = st.reply.reply ∙ ap (λ (q : Request). (ask s.standing s.published party q).reply) r.request in
    let g0 = runs s party r.call (get f) r.sound r.runs r.request in
    let cell = own_cell s r.sound f.board f.entry f.shape g0.place in
    let gives = got_is type (value_type_of f.type) words (latest (s.published f.board f.entry)) g (length (s.published f.board f.entry)) told in
    let done : is_finished (reading f.shape.words (r.call.so_far ++ a ∷ [])) ≡ true = ap (λ (q : Request). is_done q (r.call.so_far ++ a ∷ [])) (sym r.request) ∙ sym st.reply.last in
    let end = finished_is (reading f.shape.words (r.call.so_far ++ a ∷ [])) done in
    let ended = get_ended s party r.call a f end.0 end.1 (record { sound = r.sound; runs = r.runs; next = st.next; word = st.word }) r.request end.2 in
    let heard_end : hear f.shape.words (reading f.shape.words r.call.so_far) (heard a) ≡ finished end.0 end.1 = sym (reading_push f.shape.words r.call.so_far a) ∙ end.2 in
    let slow = slow_end f.shape.words low n (heard a) (reading f.shape.words r.call.so_far) end.0 end.1 heard_end r.slow in
    let is_g : end.0 ≡ g = ended.counter ∙ sym gives.1 in
    let slow_g : n ≤ 1 + (g - low) * (f.shape.words + 1) + length end.1 = subst (λ (m : ℕ). n ≤ 1 + (m - low) * (f.shape.words + 1) + length end.1) is_g slow.1 in
    let moved = after_step_is s party r.call a (Some t) r.runs in
    record {
      words = gives.0;
      some = omega (arith, cell.some, gives.1);
      generation = gives.1;
      lists = ap (λ (u : State). u.published f.board f.entry) moved ∙ ap (λ (q : Request). lists_after s.published q t f.board f.entry) r.request;
      standing = ap (λ (u : State). u.standing) moved ∙ ap (λ (q : Request). (ask s.standing s.published party q).standing) r.request ∙ unnamed f no_name;
      above = omega (arith, is_g, slow.0);
      few = omega (arith, slow_g, ended.full);
      many = omega (arith, ended.tried.least, ended.full, r.count);
    }
  where
    unnamed : (f : Fetch) → f.name ≡ None → (ask s.standing s.published party (get f)).standing ≡ s.standing
    unnamed f e = rw e refl

type_is : (x y : ValueType) (vs ws : List ℕ) (g h : ℕ) → reply.Got x vs g ≡ reply.Got y ws h → x ≡ y
type_is x y vs ws g h e = cc

-- the pair that ends it
pub run_got : (party : List ℕ) (f : Fetch) (low n : ℕ) (s : State) (a : Access) (type : ValueType) (words : List ℕ) (g : ℕ) → IsRun party f low n s → IsRight s (board_line.Step party) (answer.Step a (Some (reply.Got type words g)))
    → IsOwnGot party s (board_line.Step party, answer.Step a (Some (reply.Got type words g))) f.board f.entry words g
run_got party f low n s a type words g r ok =
    let st = step_of s party r.call a (Some (reply.Got type words g)) r.runs ok in
    let told : reply.Got type words g ≡ (ask s.standing s.published party (get f)).reply = st.reply.reply ∙ ap (λ (q : Request). (ask s.standing s.published party q).reply) r.request in
    let k = type_is type (value_type_of f.type) words (latest (s.published f.board f.entry)) g (length (s.published f.board f.entry)) told in
    record {
      got = record { party = party; call = r.call; fetch = f; access = a; runs = r.runs; request = r.request; board = refl; place = refl; line = refl; answer = ap (λ (t : ValueType). answer.Step a (Some (reply.Got t words g))) k };
      own = refl;
    }

-- a get that begins
pub record IsBegunRun (party h : List ℕ) (s : State) : Type 0 where
  pub fetch : Fetch
  pub asked : IsFetch s party h fetch
  pub run : (low : ℕ) → IsRun party fetch low 0 (after s (board_line.Begin party (call.Get h None)) answer.Begun)

pub run_begun : (party h : List ℕ) (s : State) → Sound s → IsRight s (board_line.Begin party (call.Get h None)) answer.Begun → IsBegunRun party h s
run_begun party h s sound ok =
    let why = accepted (reason_of s (board_line.Begin party (call.Get h None))) answer.Begun refl ok.reason in
    let x = asked_for s party h (free_none (s.parties party) _ why) in
    record {
      fetch = x.0;
      asked = x.1.fetch;
      run = λ low. record {
        sound = sound_after s (board_line.Begin party (call.Get h None)) answer.Begun ok sound;
        call = record { request = get x.0; so_far = []; passed = 0 };
        runs = party_here s.parties party (begun (request_of s.standing s.published party (call.Get h None))) ∙ ap begun x.1.request;
        request = refl;
        count = refl;
        slow = refl;
      };
    }
