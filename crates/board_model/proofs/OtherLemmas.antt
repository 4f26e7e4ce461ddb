-- What a line leaves of the parties that it doesn't name.
use Rattle.std.proofs.Common.{◌≡◌, ℕ, ◌+◌, List, [], ◌∷◌, ◌++◌, map, refl, ap, ◌∙◌, Option, Some, None}
use Rattle.std.specs.Str.{bytes_eq}
use Rattle.board_cell_model.specs.declared.access.Access.{Access}
use Rattle.board_cell_model.specs.declared.access.Access.TheVariants as access
use Rattle.board_model.specs.declared.answer.Answer.TheVariants as answer
use Rattle.board_model.specs.declared.answer.Reply.{Reply}
use Rattle.board_model.specs.declared.line.Line.TheVariants as line
use Rattle.board_model.specs.declared.tables.ThingKind.{ThingKind}
use Rattle.board_model.specs.TypeTable.{key_detail, same_key, value_detail}
use Rattle.board_model.specs.Tables.{board_at, board_named, entry_found}
use Rattle.board_model.specs.TableCalls.{asked, create_refusals, created, entry_mut_refusals, entry_refusals, first_of, id_of, joined, number_of, open_refusals, reader_refusals, with_read_handle, with_reader, with_write_handle, with_writer, writer_refusals}
use Rattle.board_model.specs.Things.{Held, is_held_as, thing_of, with_at}
use Rattle.board_model.specs.Requests.{Fetch, Request, TableCall, create, discard, entry, entry_mut, fill, fresh, gen, get, id, info, keys, loan, nodes, open_, publish, put, reader, request_of, table, update, writer}
use Rattle.board_model.specs.Replies.{added_of, ask, ask_tables, keeps_key, latest, released_thing, with_fetched}
use Rattle.board_model.specs.Parties.{Party, Running, begun, count_write, free, gone, notice, running, with_party}
use Rattle.board_model.specs.LawfulSession.{State, after, after_step}
use Rattle.board_model.specs.Sound.{BoardTables, IsCalling, IsHeldThing, IsTableCall, Sound}
use Rattle.board_model.specs.LawsOfOthers.{HoldsTheSame, IsLeft, LinesLeaveOthers}
use Rattle.board_model.proofs.ListLemmas.{other_bytes}
use Rattle.board_model.proofs.ThingLemmas.{anew_found_other, different_bytes, find_push_other, found_as, held_by_other}
use Rattle.board_model.proofs.DropLemmas.{others_found}
use Rattle.board_model.proofs.KeptLemmas.{party_there}
use Rattle.board_model.proofs.RunningLemmas.{runs}

pub left_same : (s : State) (q : List ℕ) → IsLeft s s q
left_same s q = record {
  holds = record { things = λ name. refl; loans = λ name. refl; values = λ name. refl };
  runs = λ r e. (r.passed, e);
  stays_free = λ e. e;
  stays_gone = λ e. e;
}

-- ---- things

asked_things : {A E : Type 0} (t : BoardTables) (o : Option E) (x : A) (new : BoardTables) (q n : List ℕ) → thing_of new.things q n ≡ thing_of t.things q n → thing_of (asked o x new t).1.things q n ≡ thing_of t.things q n
asked_things t None x new q n h = h
asked_things t (Some e) x new q n h = refl

-- what another holds is where it was
held_there : {A : Type 0} (f : List ℕ → List ℕ → Option A) (party name : List ℕ) (x : Option A) (q n : List ℕ) → (q ≡ party → ⊥) → with_at f party name x q n ≡ f q n
held_there f party name x q n ne = rw (different_bytes q party ne) refl

module _ (s : State) (sound : Sound s) (party q n : List ℕ) (ne : q ≡ party → ⊥) where
  pushed : (y : Held) → y.holder ≡ party → thing_of (s.standing.tables.things ++ y ∷ []) q n ≡ thing_of s.standing.tables.things q n
  pushed y h = find_push_other (is_held_as q n) s.standing.tables.things y (held_by_other q party n y h ne)

  owner : (k : ThingKind) (x : Held) → IsHeldThing s.standing party k x → x.holder ≡ party
  owner k x h = (found_as s.standing.tables.things party x.name x h.found).holder

  in_table : (c : TableCall) → IsTableCall s party c → thing_of (ask_tables s.standing s.published party c).standing.tables.things q n ≡ thing_of s.standing.tables.things q n
  in_table (create f name k limits attributes entries) h =
      asked_things s.standing.tables (first_of (create_refusals (same_key k) s.standing.tables.boards name (map added_of entries))) (s.standing.tables.last_board + 1)
      (created s.standing.tables party f name (key_detail k) limits attributes (map added_of entries)) q n (pushed _ refl)
  in_table (open_ f name k limits needs) h =
      asked_things s.standing.tables (first_of (open_refusals bytes_eq s.standing.tables.things party (board_named s.standing.tables name) (key_detail k) limits needs)) (number_of (board_named s.standing.tables name))
      (joined s.standing.tables party f (board_named s.standing.tables name)) q n (pushed _ refl)
  in_table (reader name x) h =
      asked_things s.standing.tables (first_of (reader_refusals s.standing.tables.things (board_at s.standing.tables x.board))) (s.standing.tables.last_port + 1) (with_reader s.standing.tables x name) q n (pushed _ (owner _ x h.1))
  in_table (writer name x) h =
      asked_things s.standing.tables (first_of (writer_refusals s.standing.tables.things (board_at s.standing.tables x.board))) (s.standing.tables.last_port + 1) (with_writer s.standing.tables x name) q n (pushed _ (owner _ x h.1))
  in_table (entry name x k type) h =
      asked_things s.standing.tables (first_of (entry_refusals (entry_found (board_at s.standing.tables x.board) (keeps_key k) (value_detail type)))) (id_of (entry_found (board_at s.standing.tables x.board) (keeps_key k) (value_detail type)))
      (with_read_handle s.standing.tables x name (entry_found (board_at s.standing.tables x.board) (keeps_key k) (value_detail type))) q n (pushed _ (owner _ x h.1))
  in_table (entry_mut name x k type) h =
      asked_things s.standing.tables (first_of (entry_mut_refusals s.standing.tables.things x.board (entry_found (board_at s.standing.tables x.board) (keeps_key k) (value_detail type)))) (id_of (entry_found (board_at s.standing.tables x.board) (keeps_key k) (value_detail type)))
      (with_write_handle s.standing.tables x name (entry_found (board_at s.standing.tables x.board) (keeps_key k) (value_detail type))) q n (pushed _ (owner _ x h.1))
  in_table (loan l) h = anew_found_other s.standing.tables.things party l.handle l.loan q n ne
  in_table (discard l) h = anew_found_other s.standing.tables.things party l.loan l.handle q n ne
  in_table (keys x) h = refl
  in_table (nodes x) h = refl
  in_table (info x) h = refl
  in_table (id x) h = refl
  in_table (gen x) h = refl

  in_fetched : (f : Fetch) (ws : List ℕ) (g : ℕ) (name : Option (List ℕ)) → thing_of (with_fetched s.standing party f ws g name).tables.things q n ≡ thing_of s.standing.tables.things q n
  in_fetched f ws g None = refl
  in_fetched f ws g (Some m) = refl

  in_call : (r : Running) (c : Request) → IsCalling s party r c → thing_of (ask s.standing s.published party c).standing.tables.things q n ≡ thing_of s.standing.tables.things q n
  in_call r (table c) h = in_table c h.1
  in_call r (get f) h = in_fetched f (latest (s.published f.board f.entry)) _ f.name
  in_call r (fresh l) h = refl
  in_call r (update u) h = refl
  in_call r (put l i w) h = refl
  in_call r (publish l) h = anew_found_other s.standing.tables.things party l.loan l.handle q n ne
  in_call r (fill l v) h = anew_found_other s.standing.tables.things party l.loan l.handle q n ne

  loans_in_table : (c : TableCall) → (ask_tables s.standing s.published party c).standing.loans q n ≡ s.standing.loans q n
  loans_in_table (create f name k limits attributes entries) = refl
  loans_in_table (open_ f name k limits needs) = refl
  loans_in_table (reader name x) = refl
  loans_in_table (writer name x) = refl
  loans_in_table (entry name x k type) = refl
  loans_in_table (entry_mut name x k type) = refl
  loans_in_table (loan l) = held_there s.standing.loans party l.loan _ q n ne
  loans_in_table (discard l) = held_there s.standing.loans party l.loan _ q n ne
  loans_in_table (keys x) = refl
  loans_in_table (nodes x) = refl
  loans_in_table (info x) = refl
  loans_in_table (id x) = refl
  loans_in_table (gen x) = refl

  loans_in_fetched : (f : Fetch) (ws : List ℕ) (g : ℕ) (name : Option (List ℕ)) → (with_fetched s.standing party f ws g name).loans q n ≡ s.standing.loans q n
  loans_in_fetched f ws g None = refl
  loans_in_fetched f ws g (Some m) = refl

  loans_in_call : (c : Request) → (ask s.standing s.published party c).standing.loans q n ≡ s.standing.loans q n
  loans_in_call (table c) = loans_in_table c
  loans_in_call (get f) = loans_in_fetched f (latest (s.published f.board f.entry)) _ f.name
  loans_in_call (fresh l) = refl
  loans_in_call (update u) = refl
  loans_in_call (put l i w) = held_there s.standing.loans party l.loan _ q n ne
  loans_in_call (publish l) = held_there s.standing.loans party l.loan _ q n ne
  loans_in_call (fill l v) = held_there s.standing.loans party l.loan _ q n ne

  values_in_table : (c : TableCall) → (ask_tables s.standing s.published party c).standing.values q n ≡ s.standing.values q n
  values_in_table (create f name k limits attributes entries) = refl
  values_in_table (open_ f name k limits needs) = refl
  values_in_table (reader name x) = refl
  values_in_table (writer name x) = refl
  values_in_table (entry name x k type) = refl
  values_in_table (entry_mut name x k type) = refl
  values_in_table (loan l) = refl
  values_in_table (discard l) = refl
  values_in_table (keys x) = refl
  values_in_table (nodes x) = refl
  values_in_table (info x) = refl
  values_in_table (id x) = refl
  values_in_table (gen x) = refl

  values_in_fetched : (f : Fetch) (ws : List ℕ) (g : ℕ) (name : Option (List ℕ)) → (with_fetched s.standing party f ws g name).values q n ≡ s.standing.values q n
  values_in_fetched f ws g None = refl
  values_in_fetched f ws g (Some m) = held_there s.standing.values party m _ q n ne

  values_in_call : (c : Request) → (ask s.standing s.published party c).standing.values q n ≡ s.standing.values q n
  values_in_call (table c) = values_in_table c
  values_in_call (get f) = values_in_fetched f (latest (s.published f.board f.entry)) _ f.name
  values_in_call (fresh l) = refl
  values_in_call (update u) = refl
  values_in_call (put l i w) = refl
  values_in_call (publish l) = refl
  values_in_call (fill l v) = refl

  in_drop : (name : List ℕ) (o : Option Held) → thing_of s.standing.tables.things party name ≡ o → thing_of (released_thing s.standing.tables party name o).things q n ≡ thing_of s.standing.tables.things q n
  in_drop name None e = refl
  in_drop name (Some x) e = others_found s.standing.tables party name x e q n ne

-- ---- calls

noticed : (a : Access) (r : Running) → (n : ℕ) × (notice a (running r) ≡ running (record r { passed = n }))
noticed access.Table r = (r.passed, refl)
noticed (access.Read b w v) r = (r.passed, refl)
noticed (access.Write b w v) r = (count_write r b w, refl)

free_noticed : (a : Access) → notice a free ≡ free
free_noticed access.Table = refl
free_noticed (access.Read b w v) = refl
free_noticed (access.Write b w v) = refl

gone_noticed : (a : Access) → notice a gone ≡ gone
gone_noticed access.Table = refl
gone_noticed (access.Read b w v) = refl
gone_noticed (access.Write b w v) = refl

-- another party began, or was abandoned
party_left : (s new : State) (party q : List ℕ) (x : Party) → (q ≡ party → ⊥) → new.parties ≡ with_party s.parties party x → new.standing ≡ s.standing → IsLeft s new q
party_left s new party q x ne parties standing =
    let there : new.parties q ≡ s.parties q = ap (λ (f : List ℕ → Party). f q) parties ∙ party_there s.parties party x q ne in
    record {
      holds = record {
        things = λ name. ap (λ t. thing_of t.tables.things q name) standing;
        loans = λ name. ap (λ t. t.loans q name) standing;
        values = λ name. ap (λ t. t.values q name) standing;
      };
      runs = λ r e. (r.passed, there ∙ e);
      stays_free = λ e. there ∙ e;
      stays_gone = λ e. there ∙ e;
    }

-- another party made an access
access_left : (s new : State) (party q : List ℕ) (a : Access) (x : Party) → (q ≡ party → ⊥) → new.parties ≡ with_party (λ p. notice a (s.parties p)) party x → HoldsTheSame s.standing new.standing q → IsLeft s new q
access_left s new party q a x ne parties holds =
    let there : new.parties q ≡ notice a (s.parties q) = ap (λ (f : List ℕ → Party). f q) parties ∙ party_there (λ p. notice a (s.parties p)) party x q ne in
    record {
      holds = holds;
      runs = λ r e. let k = noticed a r in (k.0, there ∙ ap (notice a) e ∙ k.1);
      stays_free = λ e. there ∙ ap (notice a) e ∙ free_noticed a;
      stays_gone = λ e. there ∙ ap (notice a) e ∙ gone_noticed a;
    }

-- ---- lines

step_left : (s : State) (p q : List ℕ) → Sound s → (q ≡ p → ⊥) → (x : Party) → s.parties p ≡ x → (a : Access) (told : Option Reply) → IsLeft s (after_step s p x a told) q
step_left s p q sound ne free e a told = left_same s q
step_left s p q sound ne gone e a told = left_same s q
step_left s p q sound ne (running r) e a None =
    access_left s (after_step s p (running r) a None) p q a _ ne refl (record { things = λ name. refl; loans = λ name. refl; values = λ name. refl })
step_left s p q sound ne (running r) e a (Some t) =
    access_left s (after_step s p (running r) a (Some t)) p q a _ ne refl (record {
      things = λ name. in_call s sound p q name ne r r.request (runs s p r r.request sound e refl);
      loans = λ name. loans_in_call s sound p q name ne r.request;
      values = λ name. values_in_call s sound p q name ne r.request;
    })

pub line_left : LinesLeaveOthers
line_left s (line.Begin p c) answer.Begun q sound off = party_left s (after s (line.Begin p c) answer.Begun) p q (begun (request_of s.standing s.published p c)) (other_bytes q p off) refl refl
line_left s (line.Begin p c) (answer.Refused why) q sound off = left_same s q
line_left s (line.Begin p c) (answer.Step a told) q sound off = left_same s q
line_left s (line.Begin p c) answer.Gone q sound off = left_same s q
line_left s (line.Begin p c) (answer.Words ws) q sound off = left_same s q
line_left s (line.Step p) answer.Begun q sound off = left_same s q
line_left s (line.Step p) (answer.Refused why) q sound off = left_same s q
line_left s (line.Step p) (answer.Step a told) q sound off = step_left s p q sound (other_bytes q p off) (s.parties p) refl a told
line_left s (line.Step p) answer.Gone q sound off = left_same s q
line_left s (line.Step p) (answer.Words ws) q sound off = left_same s q
line_left s (line.Release p t) answer.Begun q sound off = left_same s q
line_left s (line.Release p t) (answer.Refused why) q sound off = left_same s q
line_left s (line.Release p t) (answer.Step a told) q sound off =
    let ne = other_bytes q p off in
    record {
      holds = record {
        things = λ name. in_drop s sound p q name ne t (thing_of s.standing.tables.things p t) refl;
        loans = λ name. held_there s.standing.loans p t None q name ne;
        values = λ name. held_there s.standing.values p t None q name ne;
      };
      runs = λ r e. (r.passed, e);
      stays_free = λ e. e;
      stays_gone = λ e. e;
    }
line_left s (line.Release p t) answer.Gone q sound off = left_same s q
line_left s (line.Release p t) (answer.Words ws) q sound off = left_same s q
line_left s (line.Abandon p) answer.Begun q sound off = left_same s q
line_left s (line.Abandon p) (answer.Refused why) q sound off = left_same s q
line_left s (line.Abandon p) (answer.Step a told) q sound off = left_same s q
line_left s (line.Abandon p) answer.Gone q sound off = party_left s (after s (line.Abandon p) answer.Gone) p q gone (other_bytes q p off) refl refl
line_left s (line.Abandon p) (answer.Words ws) q sound off = left_same s q
line_left s (line.Words m) a q sound off = left_same s q
