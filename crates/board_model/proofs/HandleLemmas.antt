-- A handle that is asked for its id: its entry stands.
use Rattle.std.proofs.Common.{◌≡◌, ℕ, Bool, true, false, cond, List, [], ◌∷◌, ◌++◌, refl, sym, ap, subst, ◌∙◌, Option, Some, None}
use Rattle.std.specs.Prelude.{if◌then◌else◌, is_some}
use Rattle.std.specs.List.{AllByRecursion}
use Rattle.std.specs.Str.{bytes_eq}
use Rattle.board_cell_model.specs.declared.access.Access.{Access}
use Rattle.board_cell_model.specs.declared.access.Access.TheVariants as access
use Rattle.board_model.specs.declared.answer.Answer.{Answer}
use Rattle.board_model.specs.declared.line.Call.{Call}
use Rattle.board_model.specs.declared.line.Call.TheVariants as call
use Rattle.board_model.specs.declared.line.Line.{Line}
use Rattle.board_model.specs.declared.tables.Board.{Board}
use Rattle.board_model.specs.declared.tables.Kind.{Kind}
use Rattle.board_model.specs.declared.tables.Kind.TheVariants as kind
use Rattle.board_model.specs.declared.tables.ThingKind.{ThingKind}
use Rattle.board_model.specs.declared.tables.ThingKind.TheVariants as thing_kind
use Rattle.board_model.specs.Tables.{board_at, entry_at, entry_in, kind_of, same_kind}
use Rattle.board_model.specs.Things.{Held, Standing, held_of_kind, is_held_as, of_kind, thing_of}
use Rattle.board_model.specs.Requests.{Published, Request, TableCall, and_then, create, info, entry, entry_mut, fill, fresh, get, discard, handle_of, handled, identified, id, open_, loan, keys, nodes, loan_of, publish, put, reader, request_of, table, gen, update, writer}
use Rattle.board_model.specs.Parties.{Party, Running, begun, free, gone, notice, running, with_party}
use Rattle.board_model.specs.LawfulSession.{IsLawfulFrom, IsRight, Session, State, after, state_after}
use Rattle.board_model.specs.Sound.{BoardTables, HasBoard, HasEntry, HasEntryAt, IsCalling, IsOfBoard, IsParty, Sound}
use Rattle.board_model.proofs.ThingLemmas.{all_found}
use Rattle.board_model.proofs.LineCases.{after_cases}
use Rattle.board_model.proofs.BoardLemmas.{KeepsBoards, line_boards}
use Rattle.board_model.proofs.SoundLemmas.{sound_after}

-- ---- what is asked

-- if the call asks for the id of a handle, the handle's entry stands
abbrev HasAskedIn : BoardTables → TableCall → Type 0
HasAskedIn t (id x) = HasEntry t x
HasAskedIn t c = Unit {0}

-- the same of any call
abbrev pub HasAsked : BoardTables → Request → Type 0
HasAsked t (table c) = HasAskedIn t c
HasAsked t q = Unit {0}

-- and of the call that a party runs
abbrev pub HasAskedOf : BoardTables → Party → Type 0
HasAskedOf t (running r) = HasAsked t r.request
HasAskedOf t party = Unit {0}

-- and of every party
abbrev pub AreAsked : BoardTables → (List ℕ → Party) → Type 0
AreAsked t parties = (p : List ℕ) → HasAskedOf t (parties p)

-- ---- a thing that is found

of_kind_found : (k : ThingKind) (o : Option Held) (x : Held) → of_kind k o ≡ Some x → o ≡ Some x
of_kind_found k None x e = absurd cc
of_kind_found k (Some y) x e = at (same_kind (kind_of y.kind) k) e
  where
    at : (b : Bool) → cond b (Some y) None ≡ Some x → Some y ≡ Some x
    at true q = q
    at false q = absurd cc

unlent_found : (b : Bool) (o : Option Held) (x : Held) → (if b then None else o) ≡ Some x → o ≡ Some x
unlent_found true o x e = absurd cc
unlent_found false o x e = e

-- the first of two that is there
first_found : {T : Type 0} (a b : Option Held) (x : Held) → (a ≡ Some x → T) → (b ≡ Some x → T) → (if is_some a then a else b) ≡ Some x → T
first_found None b x f g e = g e
first_found (Some y) b x f g e = f e

-- a reader, a writer or a handle
identified_found : (s : Standing) (party name : List ℕ) (x : Held) → identified s party name ≡ Some x → thing_of s.tables.things party name ≡ Some x
identified_found s party name x e =
    let o : Option Held = thing_of s.tables.things party name in
    let handle : Option Held = handle_of s party name in
    let read : Option Held = held_of_kind s thing_kind.ReadHandle party name in
    let write : Option Held = held_of_kind s thing_kind.Writer party name in
    first_found (held_of_kind s thing_kind.Reader party name) (if is_some write then write else if is_some read then read else handle) x (of_kind_found thing_kind.Reader o x)
    (first_found write (if is_some read then read else handle) x (of_kind_found thing_kind.Writer o x)
    (first_found read handle x (of_kind_found thing_kind.ReadHandle o x)
    (λ q. of_kind_found thing_kind.WriteHandle o x (unlent_found (is_some (s.loans party name)) (held_of_kind s thing_kind.WriteHandle party name) x q)))) e

-- ---- a call that begins

found_then : {A : Type 0} (t : BoardTables) (o : Option A) (f : A → Option Request) → ((x : A) → o ≡ Some x → HasAskedOf t (begun (f x))) → HasAskedOf t (begun (and_then o f))
found_then t None f h = tt
found_then t (Some x) f h = h x refl

asked_begun : (s : Standing) (lists : Published) (party : List ℕ) → AllByRecursion (HasEntry s.tables) s.tables.things → (c : Call) → HasAskedOf s.tables (begun (request_of s lists party c))
asked_begun s lists party all (call.Create f name k limits attributes entries) = tt
asked_begun s lists party all (call.Open f name k limits needs) = tt
asked_begun s lists party all (call.Reader r f) = found_then s.tables (held_of_kind s thing_kind.Factory party f) (λ t. Some (table (reader r t))) (λ t _. tt)
asked_begun s lists party all (call.Writer w f) = found_then s.tables (held_of_kind s thing_kind.Factory party f) (λ t. Some (table (writer w t))) (λ t _. tt)
asked_begun s lists party all (call.Entry n r k type) = found_then s.tables (held_of_kind s thing_kind.Reader party r) (λ t. Some (table (entry n t k type))) (λ t _. tt)
asked_begun s lists party all (call.EntryMut m w k type) = found_then s.tables (held_of_kind s thing_kind.Writer party w) (λ t. Some (table (entry_mut m t k type))) (λ t _. tt)
asked_begun s lists party all (call.Get n v) = found_then s.tables (held_of_kind s thing_kind.ReadHandle party n) _ (λ t _. found_then s.tables (handled s t) _ (λ e _. tt))
asked_begun s lists party all (call.Fresh n v) = found_then s.tables (held_of_kind s thing_kind.ReadHandle party n) _ (λ t _. found_then s.tables (handled s t) _ (λ e _. found_then s.tables (s.values party v) _ (λ k _. tt)))
asked_begun s lists party all (call.Update m v) = found_then s.tables (handle_of s party m) _ (λ t _. found_then s.tables (handled s t) _ (λ e _. tt))
asked_begun s lists party all (call.Loan l m) = found_then s.tables (handle_of s party m) _ (λ t _. found_then s.tables (handled s t) _ (λ e _. tt))
asked_begun s lists party all (call.Discard l m) = found_then s.tables (loan_of s party l) _ (λ x _. found_then s.tables (handled s x.0) _ (λ e _. tt))
asked_begun s lists party all (call.Put l i w) = found_then s.tables (loan_of s party l) _ (λ x _. found_then s.tables (handled s x.0) _ (λ e _. tt))
asked_begun s lists party all (call.Publish l m) = found_then s.tables (loan_of s party l) _ (λ x _. found_then s.tables (handled s x.0) _ (λ e _. tt))
asked_begun s lists party all (call.Fill l m v) = found_then s.tables (loan_of s party l) _ (λ x _. found_then s.tables (handled s x.0) _ (λ e _. tt))
asked_begun s lists party all (call.Keys f) = found_then s.tables (held_of_kind s thing_kind.Factory party f) _ (λ t _. tt)
asked_begun s lists party all (call.Nodes f) = found_then s.tables (held_of_kind s thing_kind.Factory party f) _ (λ t _. tt)
asked_begun s lists party all (call.Info f) = found_then s.tables (held_of_kind s thing_kind.Factory party f) _ (λ t _. tt)
asked_begun s lists party all (call.Id n) = found_then s.tables (identified s party n) _ (λ t e. all_found (HasEntry s.tables) (is_held_as party n) s.tables.things t all (identified_found s party n t e))
asked_begun s lists party all (call.Gen m) = found_then s.tables (handle_of s party m) _ (λ t _. tt)

-- ---- the parties after a line, over the tables before it

asked_with : (t : BoardTables) (ps : List ℕ → Party) (p party : List ℕ) (x : Party) → HasAskedOf t x → HasAskedOf t (ps party) → HasAskedOf t (with_party ps p x party)
asked_with t ps p party x h k = at (bytes_eq party p)
  where
    at : (z : Bool) → HasAskedOf t (cond z x (ps party))
    at true = h
    at false = k

asked_noticed : (t : BoardTables) (a : Access) (x : Party) → HasAskedOf t x → HasAskedOf t (notice a x)
asked_noticed t access.Table x h = h
asked_noticed t (access.Read b w v) x h = h
asked_noticed t (access.Write b w v) free h = tt
asked_noticed t (access.Write b w v) (running r) h = h
asked_noticed t (access.Write b w v) gone h = tt

asked_parties : (s : State) (l : Line) (a : Answer) → IsRight s l a → Sound s → AreAsked s.standing.tables s.parties → AreAsked s.standing.tables (after s l a).parties
asked_parties s l a r sound h = after_cases (λ (x : State). AreAsked s.standing.tables x.parties) s l a r h
    (λ party c _ _ p. asked_with s.standing.tables s.parties party p (begun (request_of s.standing s.published party c)) (asked_begun s.standing s.published party sound.things.entries c) (h p))
    (λ party p. asked_with s.standing.tables s.parties party p gone tt (h p))
    (λ party name _. h)
    (λ party q x run _ p. asked_with s.standing.tables (λ y. notice x (s.parties y)) party p (running (record q { so_far = q.so_far ++ x ∷ [] })) (subst (HasAskedOf s.standing.tables) run (h party)) (asked_noticed s.standing.tables x (s.parties p) (h p)))
    (λ party q x t _ _ p. asked_with s.standing.tables (λ y. notice x (s.parties y)) party p free tt (asked_noticed s.standing.tables x (s.parties p) (h p)))

-- ---- the tables after a line

-- the board of a thing that its party holds stands
board_stands : (s : State) → Sound s → (party name : List ℕ) (board : ℕ) → IsOfBoard s.standing.tables party name board → is_some (board_at s.standing.tables board) ≡ true
board_stands s sound party name board h =
    let thing_stands = all_found (HasBoard s.standing.tables) (is_held_as party name) s.standing.tables.things h.thing sound.things.standing h.found in
    ap (λ (b : ℕ). is_some (board_at s.standing.tables b)) (sym h.is_of) ∙ thing_stands

module _ (s new : State) (sound : Sound s) (later : Sound new) (keeps : KeepsBoards s.standing.tables new.standing.tables) where
  -- an entry that stood stands where its board does
  entry_kept : (board i : ℕ) → is_some (board_at new.standing.tables board) ≡ true → is_some (entry_at s.standing.tables board i) ≡ true → is_some (entry_at new.standing.tables board i) ≡ true
  entry_kept board i stands h = at (board_at s.standing.tables board) refl h (board_at new.standing.tables board) refl stands
    where
      at : (o : Option Board) → board_at s.standing.tables board ≡ o → is_some (entry_in o i) ≡ true → (u : Option Board) → board_at new.standing.tables board ≡ u → is_some u ≡ true → is_some (entry_at new.standing.tables board i) ≡ true
      at None e f u g k = absurd cc
      at (Some b) e f None g k = absurd cc
      at (Some b) e f (Some c) g k =
          let stood : board_at s.standing.tables board ≡ Some c = keeps board c (sound.boards.numbered board b e) g in
          ap (λ (z : Option Board). is_some (entry_in z i)) (g ∙ sym stood) ∙ h

  handle_kept : (board : ℕ) (k : Kind) → is_some (board_at new.standing.tables board) ≡ true → HasEntryAt s.standing.tables board k → HasEntryAt new.standing.tables board k
  handle_kept board kind.Factory stands h = tt
  handle_kept board (kind.Reader port) stands h = tt
  handle_kept board (kind.Writer port) stands h = tt
  handle_kept board (kind.ReadHandle i) stands h = entry_kept board i stands h
  handle_kept board (kind.WriteHandle i port) stands h = entry_kept board i stands h

  asked_kept : (p : List ℕ) (r : Running) (q : Request) → IsCalling new p r q → HasAsked s.standing.tables q → HasAsked new.standing.tables q
  asked_kept p r (table (id x)) c h = handle_kept x.board x.kind (board_stands new later p x.name x.board c.1) h
  asked_kept p r (table (create f name k limits attributes entries)) c h = tt
  asked_kept p r (table (open_ f name k limits needs)) c h = tt
  asked_kept p r (table (reader name x)) c h = tt
  asked_kept p r (table (writer name x)) c h = tt
  asked_kept p r (table (entry name x k type)) c h = tt
  asked_kept p r (table (entry_mut name x k type)) c h = tt
  asked_kept p r (table (loan l)) c h = tt
  asked_kept p r (table (discard l)) c h = tt
  asked_kept p r (table (keys x)) c h = tt
  asked_kept p r (table (nodes x)) c h = tt
  asked_kept p r (table (info x)) c h = tt
  asked_kept p r (table (gen x)) c h = tt
  asked_kept p r (get f) c h = tt
  asked_kept p r (fresh l) c h = tt
  asked_kept p r (update u) c h = tt
  asked_kept p r (put l i w) c h = tt
  asked_kept p r (publish l) c h = tt
  asked_kept p r (fill l v) c h = tt

  party_kept : (p : List ℕ) (x : Party) → IsParty new p x → HasAskedOf s.standing.tables x → HasAskedOf new.standing.tables x
  party_kept p free c h = tt
  party_kept p (running r) c h = asked_kept p r r.request c h
  party_kept p gone c h = tt

-- ---- sessions

asked_after : (s : State) (l : Line) (a : Answer) → IsRight s l a → Sound s → AreAsked s.standing.tables s.parties → AreAsked (after s l a).standing.tables (after s l a).parties
asked_after s l a r sound h p =
    let later : Sound (after s l a) = sound_after s l a r sound in
    party_kept s (after s l a) sound later (line_boards s l a r sound) p ((after s l a).parties p) (later.parties p) (asked_parties s l a r sound h p)

pub asked_session : (pairs : Session) (s : State) → IsLawfulFrom s pairs → Sound s → AreAsked s.standing.tables s.parties → AreAsked (state_after s pairs).standing.tables (state_after s pairs).parties
asked_session [] s lawful sound h = h
asked_session (x ∷ xs) s lawful sound h = asked_session xs (after s x.0 x.1) lawful.1 (sound_after s x.0 x.1 lawful.0 sound) (asked_after s x.0 x.1 lawful.0 sound h)
