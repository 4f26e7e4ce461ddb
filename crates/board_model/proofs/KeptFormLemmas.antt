-- Each line keeps the forms of boards, things and parties.
use Rattle.std.proofs.Common.{◌≡◌, ℕ, ◌+◌, ◌≤◌, Bool, true, false, cond, List, [], ◌∷◌, ◌++◌, length, arith, refl, sym, subst, Option, Some, None}
use Rattle.std.specs.Prelude.{not, is_some, if◌then◌else◌}
use Rattle.std.specs.List.{AllByRecursion, list_all, list_any}
use Rattle.std.specs.Str.{bytes_eq}
use Rattle.board_cell_model.specs.declared.access.Access.{Access}
use Rattle.board_cell_model.specs.declared.access.Access.TheVariants as access
use Rattle.board_model.specs.declared.answer.Answer.{Answer}
use Rattle.board_model.specs.declared.answer.Reason.{Reason}
use Rattle.board_model.specs.declared.answer.Reason.TheVariants as reason
use Rattle.board_model.specs.declared.line.Call.{Call}
use Rattle.board_model.specs.declared.line.Call.TheVariants as call
use Rattle.board_model.specs.declared.line.Line.{Line}
use Rattle.board_model.specs.declared.line.Line.TheVariants as line
use Rattle.board_model.specs.declared.tables.Board.{Board}
use Rattle.board_model.specs.declared.tables.ThingKind.{ThingKind}
use Rattle.board_model.specs.declared.tables.ThingKind.TheVariants as thing_kind
use Rattle.board_model.specs.LineGrammar.{IsCall, is_name}
use Rattle.board_model.specs.Tables.{is_numbered, is_of_board, kind_of, port_of, same_kind, without_first}
use Rattle.board_model.specs.TableCalls.{boards_left}
use Rattle.board_model.specs.Things.{Held, Standing, held_of_kind, is_held_as, of_kind, thing_of}
use Rattle.board_model.specs.Requests.{Fetch, Request, TableCall, and_then, create, info, discard, id, open_, loan, keys, nodes, gen, entry, entry_mut, fill, fresh, get, handle_of, handled, identified, loan_of, publish, put, reader, request_of, table, update, writer}
use Rattle.board_model.specs.Replies.{ask, latest, released_thing, with_fetched}
use Rattle.board_model.specs.Parties.{Party, Running, begun, free, gone, notice, running, with_party}
use Rattle.board_model.specs.LawfulSession.{IsLawfulFrom, IsRight, Session, State, after, call_reason, free_reason, has_key_type, is_taken, reason_of, start, state_after}
use Rattle.board_model.specs.Sound.{BoardTables, IsCalling, Sound}
use Rattle.board_model.specs.LawsOfForms.{AreFormed, AreFormedTables, IsFormedBoard, IsFormedParty, IsFormedInTable, IsFormedRequest, IsFormedThing, SessionsKeepForms}
use Rattle.board_model.specs.LawsOfBounds.{IsWithin}
use Rattle.board_model.proofs.ListLemmas.{same_bytes}
use Rattle.board_model.proofs.ThingLemmas.{all_found, all_without}
use Rattle.board_model.proofs.DrawLemmas.{line_within, within_start}
use Rattle.board_model.proofs.RunningLemmas.{runs}
use Rattle.board_model.proofs.LineCases.{after_cases}
use Rattle.board_model.proofs.SoundLemmas.{sound_after, sound_start}
use Rattle.board_model.proofs.FormLemmas.{formed_named, formed_same, formed_table}

-- ---- tables

formed_value : (s : Standing) (party : List ℕ) (f : Fetch) (ws : List ℕ) (g n : ℕ) (name : Option (List ℕ)) → AreFormedTables s.tables n → AreFormedTables (with_fetched s party f ws g name).tables (n + 1)
formed_value s party f ws g n None h = formed_same s.tables n h
formed_value s party f ws g n (Some v) h = formed_same s.tables n h

formed_ask : (s : State) (party : List ℕ) (r : Running) (n : ℕ) (q : Request) → AreFormedTables s.standing.tables n → is_name party ≡ true → IsFormedRequest n q → IsCalling s party r q → AreFormedTables (ask s.standing s.published party q).standing.tables (n + 1)
formed_ask s party r n (table c) h p k x = formed_table s party n c h p k x.1
formed_ask s party r n (get f) h p k x = formed_value s.standing party f (latest (s.published f.board f.entry)) (length (s.published f.board f.entry)) n f.name h
formed_ask s party r n (fresh l) h p k x = formed_same s.standing.tables n h
formed_ask s party r n (update u) h p k x = formed_same s.standing.tables n h
formed_ask s party r n (put l i w) h p k x = formed_same s.standing.tables n h
formed_ask s party r n (publish l) h p k x = formed_named s.standing.tables party l.loan l.handle n h
formed_ask s party r n (fill l v) h p k x = formed_named s.standing.tables party l.loan l.handle n h

without_shorter : {X : Type 0} (p : X → Bool) (xs : List X) → length (without_first p xs) ≤ length xs
without_shorter p [] = omega arith
without_shorter {X = X} p (x ∷ xs) = at (p x) (without_shorter p xs)
  where
    at : (z : Bool) → length (without_first p xs) ≤ length xs → length (cond z xs (x ∷ without_first p xs)) ≤ length (x ∷ xs)
    at true ih = omega arith
    at false ih = omega (arith, ih)

formed_left : (boards : List Board) (board : ℕ) (things : List Held) → AllByRecursion IsFormedBoard boards → AllByRecursion IsFormedBoard (boards_left boards board things)
formed_left boards board things h = at (list_any (is_of_board board) things)
  where
    at : (z : Bool) → AllByRecursion IsFormedBoard (cond z boards (without_first (is_numbered board) boards))
    at true = h
    at false = all_without IsFormedBoard (is_numbered board) boards h

formed_release : (t : BoardTables) (party name : List ℕ) (n : ℕ) (o : Option Held) → AreFormedTables t n → AreFormedTables (released_thing t party name o) (n + 1)
formed_release t party name n None h = formed_same t n h
formed_release t party name n (Some x) h = record {
  boards = formed_left t.boards x.board (without_first (is_held_as party name) t.things) h.boards;
  things = all_without (IsFormedThing t.last_port) (is_held_as party name) t.things h.things;
  few = omega (arith, without_shorter (is_held_as party name) t.things, h.few);
}

-- ---- parties

formed_with : (n : ℕ) (ps : List ℕ → Party) (party p : List ℕ) (x : Party) → IsFormedParty n party x → IsFormedParty n p (ps p) → IsFormedParty n p (with_party ps party x p)
formed_with n ps party p x h k = at (bytes_eq p party) (same_bytes p party)
  where
    at : (z : Bool) → (z ≡ true → p ≡ party) → IsFormedParty n p (cond z x (ps p))
    at true e = subst (λ (y : List ℕ). IsFormedParty n y x) (sym (e refl)) h
    at false e = k

formed_noticed : (n : ℕ) (a : Access) (p : List ℕ) (x : Party) → IsFormedParty n p x → IsFormedParty n p (notice a x)
formed_noticed n access.Table p free h = tt
formed_noticed n access.Table p (running q) h = h
formed_noticed n access.Table p gone h = tt
formed_noticed n (access.Read b w v) p free h = tt
formed_noticed n (access.Read b w v) p (running q) h = h
formed_noticed n (access.Read b w v) p gone h = tt
formed_noticed n (access.Write b w v) p free h = tt
formed_noticed n (access.Write b w v) p (running q) h = h
formed_noticed n (access.Write b w v) p gone h = tt

-- a begin that is accepted has no reason of its call
call_accepted : (x : Party) (o : Option Reason) → free_reason x o ≡ None → o ≡ None
call_accepted free o e = e
call_accepted (running r) o e = absurd cc
call_accepted gone o e = absurd cc

typed_call : (a b c d : Bool) → (if a then Some reason.Taken else if not b then Some reason.Type else if not c then Some reason.Index else if not d then Some reason.Unfilled else None) ≡ None → b ≡ true
typed_call true b c d e = absurd cc
typed_call false false c d e = absurd cc
typed_call false true c d e = refl

and_formed : {A : Type 0} (n : ℕ) (p : List ℕ) (o : Option A) (f : A → Option Request) → ((x : A) → IsFormedParty n p (begun (f x))) → IsFormedParty n p (begun (and_then o f))
and_formed n p None f h = tt
and_formed n p (Some x) f h = h x

and_formed_known : {A : Type 0} (n : ℕ) (p : List ℕ) (o : Option A) (f : A → Option Request) → ((x : A) → o ≡ Some x → IsFormedParty n p (begun (f x))) → IsFormedParty n p (begun (and_then o f))
and_formed_known n p None f h = tt
and_formed_known n p (Some x) f h = h x refl

-- what is identified is a thing
kind_found : (k : ThingKind) (o : Option Held) (t : Held) → of_kind k o ≡ Some t → o ≡ Some t
kind_found k None t e = absurd cc
kind_found k (Some x) t e = at (same_kind (kind_of x.kind) k) e
  where
    at : (z : Bool) → cond z (Some x) None ≡ Some t → Some x ≡ Some t
    at true q = q
    at false q = absurd cc

handle_found : (a : Bool) (o : Option Held) (t : Held) → cond a None o ≡ Some t → o ≡ Some t
handle_found true o t e = absurd cc
handle_found false o t e = e

one_found : (a b c : Bool) (x y z w : Option Held) (t : Held) → cond a x (cond b y (cond c z w)) ≡ Some t → (P : Type 0) → (x ≡ Some t → P) → (y ≡ Some t → P) → (z ≡ Some t → P) → (w ≡ Some t → P) → P
one_found true b c x y z w t e P p q r u = p e
one_found false true c x y z w t e P p q r u = q e
one_found false false true x y z w t e P p q r u = r e
one_found false false false x y z w t e P p q r u = u e

identified_port : (n : ℕ) (s : State) (p name : List ℕ) (t : Held) → AreFormedTables s.standing.tables n → s.standing.tables.last_port ≤ n → identified s.standing p name ≡ Some t → port_of t.kind ≤ n
identified_port n s p name t w z e =
    one_found (is_some (held_of_kind s.standing thing_kind.Reader p name)) (is_some (held_of_kind s.standing thing_kind.Writer p name)) (is_some (held_of_kind s.standing thing_kind.ReadHandle p name))
    (held_of_kind s.standing thing_kind.Reader p name) (held_of_kind s.standing thing_kind.Writer p name) (held_of_kind s.standing thing_kind.ReadHandle p name) (handle_of s.standing p name) t e (port_of t.kind ≤ n)
    (λ f. port (kind_found thing_kind.Reader (thing_of s.standing.tables.things p name) t f))
    (λ f. port (kind_found thing_kind.Writer (thing_of s.standing.tables.things p name) t f))
    (λ f. port (kind_found thing_kind.ReadHandle (thing_of s.standing.tables.things p name) t f))
    (λ f. port (kind_found thing_kind.WriteHandle (thing_of s.standing.tables.things p name) t (handle_found (is_some (s.standing.loans p name)) (held_of_kind s.standing thing_kind.WriteHandle p name) t f)))
  where
    port : thing_of s.standing.tables.things p name ≡ Some t → port_of t.kind ≤ n
    port f = omega (arith, (all_found (IsFormedThing s.standing.tables.last_port) (is_held_as p name) s.standing.tables.things t w.things f).port, z)

formed_begun : (n : ℕ) (s : State) (p : List ℕ) (c : Call) → AreFormedTables s.standing.tables n → s.standing.tables.last_port ≤ n → is_name p ≡ true → IsCall c → reason_of s (line.Begin p c) ≡ None → IsFormedParty n p (begun (request_of s.standing s.published p c))
formed_begun n s p (call.Create f name k limits attributes entries) w z m h e =
    let q = call_accepted (s.parties p) (call_reason s.standing p (call.Create f name k limits attributes entries) (Some (table (create f name k limits attributes entries)))) e in
    let t : list_all (has_key_type k) entries ≡ true = typed_call (is_taken s.standing p (Some f)) (list_all (has_key_type k) entries) true true q in
    (m, record { text = h.1; bounds = h.2; pairs = h.3; each = h.4; types = t })
formed_begun n s p (call.Open f name k limits needs) w z m h e = (m, record { text = h.1; needed = h.3 })
formed_begun n s p (call.Reader r f) w z m h e = and_formed n p (held_of_kind s.standing thing_kind.Factory p f) _ (λ t. (m, tt))
formed_begun n s p (call.Writer x f) w z m h e = and_formed n p (held_of_kind s.standing thing_kind.Factory p f) _ (λ t. (m, tt))
formed_begun n s p (call.Entry d r k type) w z m h e = and_formed n p (held_of_kind s.standing thing_kind.Reader p r) _ (λ t. (m, tt))
formed_begun n s p (call.EntryMut d x k type) w z m h e = and_formed n p (held_of_kind s.standing thing_kind.Writer p x) _ (λ t. (m, tt))
formed_begun n s p (call.Get d v) w z m h e = and_formed n p (held_of_kind s.standing thing_kind.ReadHandle p d) _ (λ t. and_formed n p (handled s.standing t) _ (λ y. (m, tt)))
formed_begun n s p (call.Fresh d v) w z m h e = and_formed n p (held_of_kind s.standing thing_kind.ReadHandle p d) _ (λ t. and_formed n p (handled s.standing t) _ (λ y. and_formed n p (s.standing.values p v) _ (λ k. (m, tt))))
formed_begun n s p (call.Update d v) w z m h e = and_formed n p (handle_of s.standing p d) _ (λ t. and_formed n p (handled s.standing t) _ (λ y. (m, tt)))
formed_begun n s p (call.Loan l d) w z m h e = and_formed n p (handle_of s.standing p d) _ (λ t. and_formed n p (handled s.standing t) _ (λ y. (m, tt)))
formed_begun n s p (call.Discard l d) w z m h e = and_formed n p (loan_of s.standing p l) _ (λ x. and_formed n p (handled s.standing x.0) _ (λ y. (m, tt)))
formed_begun n s p (call.Put l i x) w z m h e = and_formed n p (loan_of s.standing p l) _ (λ x. and_formed n p (handled s.standing x.0) _ (λ y. (m, tt)))
formed_begun n s p (call.Publish l d) w z m h e = and_formed n p (loan_of s.standing p l) _ (λ x. and_formed n p (handled s.standing x.0) _ (λ y. (m, tt)))
formed_begun n s p (call.Fill l d v) w z m h e = and_formed n p (loan_of s.standing p l) _ (λ x. and_formed n p (handled s.standing x.0) _ (λ y. (m, tt)))
formed_begun n s p (call.Keys f) w z m h e = and_formed n p (held_of_kind s.standing thing_kind.Factory p f) _ (λ t. (m, tt))
formed_begun n s p (call.Nodes f) w z m h e = and_formed n p (held_of_kind s.standing thing_kind.Factory p f) _ (λ t. (m, tt))
formed_begun n s p (call.Info f) w z m h e = and_formed n p (held_of_kind s.standing thing_kind.Factory p f) _ (λ t. (m, tt))
formed_begun n s p (call.Id d) w z m h e = and_formed_known n p (identified s.standing p d) _ (λ t f. (m, identified_port n s p d t w z f))
formed_begun n s p (call.Gen d) w z m h e = and_formed n p (handle_of s.standing p d) _ (λ t. (m, tt))

-- a call's port stays below a larger number
weaker_table : (n : ℕ) (c : TableCall) → IsFormedInTable n c → IsFormedInTable (n + 1) c
weaker_table n (create f name k limits attributes entries) h = h
weaker_table n (open_ f name k limits needs) h = h
weaker_table n (reader name x) h = tt
weaker_table n (writer name x) h = tt
weaker_table n (entry name x k type) h = tt
weaker_table n (entry_mut name x k type) h = tt
weaker_table n (loan l) h = tt
weaker_table n (discard l) h = tt
weaker_table n (keys x) h = tt
weaker_table n (nodes x) h = tt
weaker_table n (info x) h = tt
weaker_table n (id x) h = omega (arith, h)
weaker_table n (gen x) h = tt

weaker_request : (n : ℕ) (q : Request) → IsFormedRequest n q → IsFormedRequest (n + 1) q
weaker_request n (table c) h = weaker_table n c h
weaker_request n (get f) h = tt
weaker_request n (fresh l) h = tt
weaker_request n (update u) h = tt
weaker_request n (put l i w) h = tt
weaker_request n (publish l) h = tt
weaker_request n (fill l v) h = tt

weaker_party : (n : ℕ) (p : List ℕ) (x : Party) → IsFormedParty n p x → IsFormedParty (n + 1) p x
weaker_party n p free h = tt
weaker_party n p (running r) h = (h.0, weaker_request n r.request h.1)
weaker_party n p gone h = tt

-- ---- lines

pub line_formed : (s : State) (l : Line) (a : Answer) (n : ℕ) → IsRight s l a → Sound s → IsWithin s n → AreFormed s n → AreFormed (after s l a) (n + 1)
line_formed s l a n r sound w h = after_cases (λ (x : State). AreFormed x (n + 1)) s l a r
    (record { tables = formed_same s.standing.tables n h.tables; parties = λ p. weaker_party n p (s.parties p) (h.parties p) })
    (λ party c ok e. record {
      tables = formed_same s.standing.tables n h.tables;
      parties = λ p. grown s.parties party p (begun (request_of s.standing s.published party c)) (formed_begun n s party c h.tables w.ports ok.0 ok.1 e) (h.parties p);
    })
    (λ party. record { tables = formed_same s.standing.tables n h.tables; parties = λ p. grown s.parties party p gone tt (h.parties p) })
    (λ party name _. record { tables = formed_release s.standing.tables party name n (thing_of s.standing.tables.things party name) h.tables; parties = λ p. weaker_party n p (s.parties p) (h.parties p) })
    (λ party q x run st. record {
      tables = formed_same s.standing.tables n h.tables;
      parties = λ p. grown (λ y. notice x (s.parties y)) party p (running (record q { so_far = q.so_far ++ x ∷ [] })) (own party q run) (formed_noticed n x p (s.parties p) (h.parties p));
    })
    (λ party q x t run st. record {
      tables = formed_ask s party q n q.request h.tables (own party q run).0 (own party q run).1 (runs s party q q.request sound run refl);
      parties = λ p. grown (λ y. notice x (s.parties y)) party p free tt (formed_noticed n x p (s.parties p) (h.parties p));
    })
  where
    own : (party : List ℕ) (q : Running) → s.parties party ≡ running q → IsFormedParty n party (running q)
    own party q run = subst (λ (x : Party). IsFormedParty n party x) run (h.parties party)

    grown : (ps : List ℕ → Party) (party p : List ℕ) (x : Party) → IsFormedParty n party x → IsFormedParty n p (ps p) → IsFormedParty (n + 1) p (with_party ps party x p)
    grown ps party p x f k = weaker_party n p (with_party ps party x p) (formed_with n ps party p x f k)

formed_from : (pairs : Session) (s : State) (n m : ℕ) → m ≡ n + length pairs → IsLawfulFrom s pairs → Sound s → IsWithin s n → AreFormed s n → AreFormed (state_after s pairs) m
formed_from [] s n m e h sound w k = subst (λ (j : ℕ). AreFormed s j) (sym (omega (arith, e))) k
formed_from (x ∷ xs) s n m e h sound w k =
    formed_from xs (after s x.0 x.1) (n + 1) m (omega (arith, e)) h.1 (sound_after s x.0 x.1 h.0 sound) (line_within s x.0 x.1 n h.0 w) (line_formed s x.0 x.1 n h.0 sound w k)

pub session_formed : SessionsKeepForms
session_formed pairs h = formed_from pairs start 0 (length pairs) (omega arith) h sound_start within_start (record { tables = record { boards = tt; things = tt; few = omega arith }; parties = λ p. tt })
