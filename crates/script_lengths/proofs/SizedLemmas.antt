-- Right answers tell short lists.
use Rattle.std.proofs.Common.{◌≡◌, ℕ, ◌+◌, ◌≤◌, Bool, true, false, cond, List, [], ◌∷◌, length, arith, refl, sym, ap, subst, Option, Some, None, Result, Ok, Err}
use Rattle.std.specs.Prelude.{IfSome}
use Rattle.std.specs.Str.{bytes_eq}
use Rattle.std.proofs.lemmas.List.{length-map}
use Rattle.board_cell_model.specs.declared.access.Access.{Access}
use Rattle.board_cell_model.specs.declared.access.Access.TheVariants as access
use Rattle.board_model.specs.declared.answer.Answer.{Answer}
use Rattle.board_model.specs.declared.answer.Answer.TheVariants as answer
use Rattle.board_model.specs.declared.answer.Reply.{Reply}
use Rattle.board_model.specs.declared.answer.Reply.TheVariants as reply
use Rattle.board_model.specs.declared.line.Line.{Line}
use Rattle.board_model.specs.declared.line.Line.TheVariants as line
use Rattle.board_model.specs.declared.tables.Board.{Board}
use Rattle.board_model.specs.Tables.{board_at, is_numbered, is_of_board}
use Rattle.board_model.specs.TypeTable.{key_of, key_type_of}
use Rattle.board_model.specs.Things.{Held}
use Rattle.board_model.specs.Requests.{Request, TableCall, create, info, entry, entry_mut, fill, fresh, get, discard, id, open_, loan, keys, nodes, publish, put, reader, table, gen, update, writer}
use Rattle.board_model.specs.Replies.{ask, ask_tables, is_before, keys_in, nodes_of, number_or, placed_once}
use Rattle.board_model.specs.Parties.{Party, Running, free, gone, running}
use Rattle.board_model.specs.LawfulSession.{IsLawful, IsOwedStep, IsRight, IsToldStep, Session, State, reason_of, start, state_after}
use Rattle.board_model.specs.Sound.{IsCalling, Sound}
use Rattle.board_model.proofs.KeptFormLemmas.{session_formed}
use Rattle.board_model.proofs.LineCases.{accepted}
use Rattle.board_model.proofs.RunningLemmas.{own_cell, runs}
use Rattle.board_model.proofs.SoundLemmas.{sound_session}
use Rattle.board_model.proofs.ThingLemmas.{all_found}
use Rattle.script_lengths.specs.SizedAnswers.{IsSizedAnswer, IsSizedReply}
use Rattle.script_lengths.specs.BoardSizes.{AreSmall, HasShortLines, IsSmallBoard, RightAnswersAreShort, RightAnswersAreSized}
use Rattle.script_lengths.proofs.BoardSizeLemmas.{session_small}
use Rattle.script_lengths.proofs.TextLemmas.{answers_short}

-- ---- lists that are told

placed_few : (x : List ℕ) (names : List (List ℕ)) → length (placed_once x names) ≤ length names + 1
placed_few x [] = omega arith
placed_few x (y ∷ ys) = at (bytes_eq x y) (is_before x y) (placed_few x ys)
  where
    at : (a b : Bool) → length (placed_once x ys) ≤ length ys + 1 → length (cond a (y ∷ ys) (cond b (x ∷ y ∷ ys) (y ∷ placed_once x ys))) ≤ length (y ∷ ys) + 1
    at true b ih = omega arith
    at false true ih = omega arith
    at false false ih = omega (arith, ih)

nodes_few : (b : ℕ) (things : List Held) → length (nodes_of b things) ≤ length things
nodes_few b [] = omega arith
nodes_few b (t ∷ ts) = at (is_of_board b t) (nodes_few b ts)
  where
    at : (z : Bool) → length (nodes_of b ts) ≤ length ts → length (cond z (placed_once t.holder (nodes_of b ts)) (nodes_of b ts)) ≤ length (t ∷ ts)
    at true ih = omega (arith, ih, placed_few t.holder (nodes_of b ts))
    at false ih = omega (arith, ih)

told_sized : {E : Type 0} (n : ℕ) (error : E → Reply) (r : Result ℕ E) → ((e : E) → IsSizedReply n (error e)) → IsSizedReply n (number_or error r)
told_sized n error (Ok x) h = tt
told_sized n error (Err e) h = h e

module _ (s : State) (sound : Sound s) (n : ℕ) (few : length s.standing.tables.things ≤ n) (small : AreSmall s) where
  keys_few : (b : ℕ) (o : Option Board) → board_at s.standing.tables b ≡ o → length (keys_in o) ≤ 273
  keys_few b None e = omega arith
  keys_few b (Some x) e =
      let k : length x.entries ≤ 273 = all_found IsSmallBoard (is_numbered b) s.standing.tables.boards x small.boards e in
      omega (arith, k, length-map x.entries (λ y. key_of (key_type_of x.key) y.key.bytes))

  table_sized : (party : List ℕ) (c : TableCall) → IsSizedReply n (ask_tables s.standing s.published party c).reply
  table_sized party (create f name k limits attributes entries) = told_sized n reply.CreateError _ (λ e. tt)
  table_sized party (open_ f name k limits needs) = told_sized n reply.OpenError _ (λ e. tt)
  table_sized party (reader name x) = told_sized n reply.ReaderError _ (λ e. tt)
  table_sized party (writer name x) = told_sized n reply.WriterError _ (λ e. tt)
  table_sized party (entry name x k type) = told_sized n reply.EntryError _ (λ e. tt)
  table_sized party (entry_mut name x k type) = told_sized n reply.EntryMutError _ (λ e. tt)
  table_sized party (loan l) = tt
  table_sized party (discard l) = tt
  table_sized party (keys x) = keys_few x.board (board_at s.standing.tables x.board) refl
  table_sized party (nodes x) = omega (arith, nodes_few x.board s.standing.tables.things, few)
  table_sized party (info x) = tt
  table_sized party (id x) = tt
  table_sized party (gen x) = tt

  reply_sized : (party : List ℕ) (r : Running) (q : Request) → IsCalling s party r q → IsSizedReply n (ask s.standing s.published party q).reply
  reply_sized party r (table c) k = table_sized party c
  reply_sized party r (get f) k =
      let c = own_cell s sound f.board f.entry f.shape k.place in
      omega (arith, c.size, c.inside, small.words f.board)
  reply_sized party r (fresh l) k = tt
  reply_sized party r (update u) k = tt
  reply_sized party r (put l i w) k = tt
  reply_sized party r (publish l) k = tt
  reply_sized party r (fill l v) k = tt

  -- ---- answers

  same_sized : (told : Option Reply) (t : Reply) → IfSome told (λ x. x ≡ t) → IsSizedReply n t → IfSome told (IsSizedReply n)
  same_sized None t h k = tt
  same_sized (Some x) t h k = subst (IsSizedReply n) (sym h) k

  step_sized : (party : List ℕ) (x : Party) → s.parties party ≡ x → (a : Access) (told : Option Reply) → IsOwedStep x (answer.Step a told) → IsToldStep s party x (answer.Step a told) → IfSome told (IsSizedReply n)
  step_sized party free e a told o t = absurd o
  step_sized party gone e a told o t = absurd o
  step_sized party (running r) e a told o t = same_sized told (ask s.standing s.published party r.request).reply t.reply (reply_sized party r r.request (runs s party r r.request sound e refl))

  listed_step : (x : Party) (ws : List ℕ) → IsOwedStep x (answer.Words ws) → ⊥
  listed_step free ws o = o
  listed_step gone ws o = o
  listed_step (running r) ws o = o

  answer_sized : (l : Line) (a : Answer) → IsRight s l a → IsSizedAnswer n a
  answer_sized l answer.Begun r = tt
  answer_sized l (answer.Refused why) r = tt
  answer_sized l answer.Gone r = tt
  answer_sized (line.Begin party c) (answer.Step a told) r = absurd (cc (r.owed (accepted (reason_of s (line.Begin party c)) (answer.Step a told) refl r.reason)))
  answer_sized (line.Step party) (answer.Step a told) r =
      let e = accepted (reason_of s (line.Step party)) (answer.Step a told) refl r.reason in
      step_sized party (s.parties party) refl a told (r.owed e) (r.reply e)
  answer_sized (line.Release party name) (answer.Step a told) r =
      let e : answer.Step a told ≡ answer.Step access.Table (Some reply.Done) = r.owed (accepted (reason_of s (line.Release party name)) (answer.Step a told) refl r.reason) in
      subst (IsSizedAnswer n) (sym e) tt
  answer_sized (line.Abandon party) (answer.Step a told) r = absurd (cc (r.owed (accepted (reason_of s (line.Abandon party)) (answer.Step a told) refl r.reason)))
  answer_sized (line.Words b) (answer.Step a told) r = absurd (r.owed (accepted (reason_of s (line.Words b)) (answer.Step a told) refl r.reason))
  answer_sized (line.Begin party c) (answer.Words ws) r = absurd (cc (r.owed (accepted (reason_of s (line.Begin party c)) (answer.Words ws) refl r.reason)))
  answer_sized (line.Step party) (answer.Words ws) r = absurd (listed_step (s.parties party) ws (r.owed (accepted (reason_of s (line.Step party)) (answer.Words ws) refl r.reason)))
  answer_sized (line.Release party name) (answer.Words ws) r = absurd (cc (r.owed (accepted (reason_of s (line.Release party name)) (answer.Words ws) refl r.reason)))
  answer_sized (line.Abandon party) (answer.Words ws) r = absurd (cc (r.owed (accepted (reason_of s (line.Abandon party)) (answer.Words ws) refl r.reason)))
  answer_sized (line.Words b) (answer.Words ws) r =
      let e : ws ≡ s.memory b = r.word (accepted (reason_of s (line.Words b)) (answer.Words ws) refl r.reason) in
      omega (arith, ap length e, small.words b)

-- where at most n parties may be nodes
pub sized_within : (pairs : Session) (l : Line) (a : Answer) (n : ℕ) → length pairs ≤ n → IsLawful pairs → HasShortLines pairs → IsRight (state_after start pairs) l a → IsSizedAnswer n a
sized_within pairs l a n le ok z r =
    let f = session_formed pairs ok in
    answer_sized (state_after start pairs) (sound_session pairs ok) n (omega (arith, f.tables.few, le)) (session_small pairs ok z) l a r

pub right_sized : RightAnswersAreSized
right_sized pairs l a ok z r = sized_within pairs l a (length pairs) (omega arith) ok z r

pub right_short : RightAnswersAreShort
right_short pairs l a ok z r = answers_short (length pairs) a r.answer (right_sized pairs l a ok z r)
