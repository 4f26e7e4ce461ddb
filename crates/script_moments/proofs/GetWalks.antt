-- Gets and rounds of gets, along the own moments of a party.
use Rattle.std.proofs.Common.{◌≡◌, ℕ, ◌+◌, ◌≤◌, List, [], ◌∷◌, ◌++◌, length, arith, sym, ap, subst, ◌∙◌, Option, Some, None}
use Rattle.std.specs.List.{AllByRecursion}
use Rattle.board_cell_model.specs.declared.access.Access.{Access}
use Rattle.board_model.specs.declared.answer.Answer.{Answer}
use Rattle.board_model.specs.declared.answer.Answer.TheVariants as answer
use Rattle.board_model.specs.declared.answer.Reply.{Reply}
use Rattle.board_model.specs.declared.answer.Reply.TheVariants as reply
use Rattle.board_model.specs.declared.line.Call.TheVariants as call
use Rattle.board_model.specs.declared.line.Line.{Line}
use Rattle.board_model.specs.declared.line.Line.TheVariants as board_line
use Rattle.board_model.specs.declared.tables.ThingKind.TheVariants as thing_kind
use Rattle.board_model.specs.declared.value.ValueType.{ValueType}
use Rattle.board_model.specs.LawfulSession as boards
use Rattle.board_model.specs.Parties.{Party, Running, running}
use Rattle.board_model.specs.Requests.{Fetch}
use Rattle.board_model.specs.Sound.{Sound}
use Rattle.board_model.specs.Things.{held_of_kind, of_kind, thing_of}
use Rattle.script_model.specs.declared.line.ScriptLine.{ScriptLine}
use Rattle.script_model.specs.declared.line.ScriptLine.TheVariants as line
use Rattle.script_model.specs.ScriptAnswers.{ScriptAnswer, of_boards}
use Rattle.script_model.specs.ScriptTurns.{EventTurn, ScriptState, turn_of}
use Rattle.script_model.specs.ScriptSession.{IsRight, after, after_turn}
use Rattle.script_model.specs.LawsOfRules.{IsRuled}
use Rattle.script_model.proofs.RuleLemmas.{ruled}
use Rattle.script_model.specs.LawsOfComposition.{EndsGet, Pair, of_pair}
use Rattle.script_moments.specs.Moments.{Moment, end_of, left}
use Rattle.script_moments.specs.Gets.{Ends, Get, GoesOn, IsGet, moments_of_get}
use Rattle.script_moments.proofs.ChainLemmas.{Chain, Grows, IsAlone, Link, begin_alone, grows_by, grows_more, grows_same, link_grows, link_leaves, step_alone}
use Rattle.script_moments.proofs.WalkLemmas.{IsFetch, IsGotBy, IsRun, run_begun, run_end, run_got, run_link, run_step}

-- ---- one line of a script

one_grows : (s : boards.State) (x : Line × Answer) → boards.IsRight s x.0 x.1 → Sound s → Grows s (boards.after s x.0 x.1)
one_grows s x ok sound = grows_by (x ∷ []) s (ok, tt) sound

pub pair_grows : (s : ScriptState) (l : ScriptLine) (a : ScriptAnswer) → IsRight s l a → Sound s.boards → Grows s.boards (after s l a).boards
pair_grows s l a ok sound = at l a (turn_of s l) (ruled s l a ok)
  where
    at : (l : ScriptLine) (a : ScriptAnswer) (o : Option EventTurn) → IsRuled s l a o → Grows s.boards (after_turn s l a o).boards
    at l a (Some t) k = grows_same s.boards sound
    at (line.Board l) a None k = subst (λ (b : ScriptAnswer). Grows s.boards (after_turn s (line.Board l) b None).boards) (sym k.is) (one_grows s.boards (l, k.answer) k.right sound)
    at (line.Event p q) a None k = absurd k
    at (line.Expire p) a None k = absurd k

-- along own moments
pub chain_grows : (party : List ℕ) (ms : List Moment) (s : ScriptState) → Chain party s ms → Sound s.boards → Grows s.boards (end_of s ms).boards
chain_grows party [] s h sound = grows_same s.boards sound
chain_grows party (m ∷ ms) s h sound =
    let a = link_grows party s.boards m.met.boards h.0 sound in
    let b = pair_grows m.met m.pair.0 m.pair.1 h.1 a.sound in
    let c = chain_grows party ms (left m) h.2 b.sound in
    grows_more s.boards m.met.boards _ a (grows_more m.met.boards (left m).boards _ b c)

-- ---- own moments

-- the moment is the boards' alone, and leads so
pub record IsOwn (m : Moment) (x : Line × Answer) : Type 0 where
  pub right : boards.IsRight m.met.boards x.0 x.1
  pub state : (left m).boards ≡ boards.after m.met.boards x.0 x.1

pub own_is : (m : Moment) (x : Line × Answer) → m.pair ≡ of_pair x → (IsRight m.met (line.Board x.0) (of_boards x.1) → IsAlone m.met x) → IsRight m.met m.pair.0 m.pair.1 → IsOwn m x
own_is m x e alone ok =
    let k = alone (subst (λ (p : Pair). IsRight m.met p.0 p.1) e ok) in
    record {
      right = k.right;
      state = ap (λ (p : Pair). (after m.met p.0 p.1).boards) e ∙ k.state;
    }

pub own_step : (m : Moment) (party : List ℕ) (a : Access) (told : Option Reply) → m.pair ≡ of_pair (board_line.Step party, answer.Step a told) → IsRight m.met m.pair.0 m.pair.1 → IsOwn m (board_line.Step party, answer.Step a told)
own_step m party a told e ok = own_is m (board_line.Step party, answer.Step a told) e (step_alone m.met party a told) ok

pub own_begin : (m : Moment) (party h : List ℕ) → m.pair ≡ of_pair (board_line.Begin party (call.Get h None), answer.Begun) → IsRight m.met m.pair.0 m.pair.1 → IsOwn m (board_line.Begin party (call.Get h None), answer.Begun)
own_begin m party h e ok = own_is m (board_line.Begin party (call.Get h None), answer.Begun) e (begin_alone m.met party (call.Get h None)) ok

-- ---- the steps of a get

-- the first of a get's steps
abbrev pub first_step : List Moment → Moment → Moment
first_step [] e = e
first_step (m ∷ ms) e = m

-- what the party holds is the same
abbrev pub SameThings : List ℕ → boards.State → boards.State → Type 0
SameThings party s t = (name : List ℕ) → thing_of t.standing.tables.things party name ≡ thing_of s.standing.tables.things party name

pub record IsWalked (party : List ℕ) (f : Fetch) (low n : ℕ) (s : ScriptState) (steps : List Moment) (e : Moment) (value : List ℕ) (g : ℕ) : Type 0 where
  pub got : IsGotBy f low (n + length steps) e.met.boards (left e).boards value g
  pub ends : EndsGet e.met e.pair party f.board f.entry value g
  pub things : SameThings party s.boards (left e).boards
  pub to_end : Grows s.boards e.met.boards
  pub past : Grows s.boards (left e).boards

standing_things : (party : List ℕ) (s t : boards.State) → t.standing ≡ s.standing → SameThings party s t
standing_things party s t e name = ap (λ x. thing_of x.tables.things party name) e

stepped_standing : (s : boards.State) (party : List ℕ) (r : Running) (a : Access) → s.parties party ≡ running r → (boards.after s (board_line.Step party) (answer.Step a None)).standing ≡ s.standing
stepped_standing s party r a e = ap (λ (y : Party). (boards.after_step s party y a None).standing) e

module _ (party : List ℕ) (f : Fetch) (low : ℕ) (type : ValueType) (value : List ℕ) (g : ℕ) (no_name : f.name ≡ None) where
  pub walk : (steps : List Moment) (e : Moment) (s : ScriptState) (n : ℕ) → Chain party s (steps ++ e ∷ []) → AllByRecursion (GoesOn party) steps → Ends party e type value g → IsRun party f low n s.boards
      → (n ≡ 0 → low ≤ length ((first_step steps e).met.boards.published f.board f.entry)) → IsWalked party f low n s steps e value g
  walk [] e s n h go ends r le =
      let own = own_step e party ends.0 (Some (reply.Got type value g)) ends.1 h.1 in
      let k = link_leaves party s.boards e.met.boards h.0 r.sound in
      let a = link_grows party s.boards e.met.boards h.0 r.sound in
      let run = run_link party f low n s.boards e.met.boards h.0 r in
      let finish = run_got party f low n e.met.boards ends.0 type value g run own.right in
      let got = run_end party f low n e.met.boards ends.0 type value g no_name run own.right in
      let b : Grows e.met.boards (left e).boards = pair_grows e.met e.pair.0 e.pair.1 h.1 a.sound in
      let got' : IsGotBy f low n e.met.boards (left e).boards value g = subst (λ (t : boards.State). IsGotBy f low n e.met.boards t value g) (sym own.state) got in
      let zero : n ≡ n + 0 = omega arith in
      record {
        got = subst (λ (m : ℕ). IsGotBy f low m e.met.boards (left e).boards value g) zero got';
        ends = record { ends = (board_line.Step party, answer.Step ends.0 (Some (reply.Got type value g))); is = ends.1; got = finish.got; own = finish.own };
        things = λ name. standing_things party e.met.boards (left e).boards got'.standing name ∙ k.holds.things name;
        to_end = a;
        past = grows_more s.boards e.met.boards (left e).boards a b;
      }
  walk (m ∷ ms) e s n h go ends r le =
      let own = own_step m party go.0.0 None go.0.1 h.1 in
      let k = link_leaves party s.boards m.met.boards h.0 r.sound in
      let a = link_grows party s.boards m.met.boards h.0 r.sound in
      let run = run_link party f low n s.boards m.met.boards h.0 r in
      let next : IsRun party f low (n + 1) (left m).boards = subst (IsRun party f low (n + 1)) (sym own.state) (run_step party f low n m.met.boards go.0.0 run le own.right) in
      let b : Grows m.met.boards (left m).boards = pair_grows m.met m.pair.0 m.pair.1 h.1 a.sound in
      let ab : Grows s.boards (left m).boards = grows_more s.boards m.met.boards (left m).boards a b in
      let same : (left m).boards.standing ≡ m.met.boards.standing = ap (λ (t : boards.State). t.standing) own.state ∙ stepped_standing m.met.boards party run.call go.0.0 run.runs in
      let w = walk ms e (left m) (n + 1) h.2 go.1 ends next (λ z. absurd (omega arith)) in
      let count : (n + 1) + length ms ≡ n + length (m ∷ ms) = omega arith in
      record {
        got = subst (λ (c : ℕ). IsGotBy f low c e.met.boards (left e).boards value g) count w.got;
        ends = w.ends;
        things = λ name. w.things name ∙ standing_things party m.met.boards (left m).boards same name ∙ k.holds.things name;
        to_end = grows_more s.boards (left m).boards e.met.boards ab w.to_end;
        past = grows_more s.boards (left m).boards (left e).boards ab w.past;
      }

first_link : (party : List ℕ) (steps : List Moment) (e : Moment) (s : ScriptState) → Chain party s (steps ++ e ∷ []) → Link party s.boards (first_step steps e).met.boards
first_link party [] e s h = h.0
first_link party (m ∷ ms) e s h = h.0

-- ---- a whole get

pub record IsWalk (party h : List ℕ) (s : ScriptState) (x : Get) : Type 0 where
  pub fetch : Fetch
  pub asked : IsFetch x.begun.met.boards party h fetch
  pub held : held_of_kind s.boards.standing thing_kind.ReadHandle party h ≡ Some asked.thing
  pub got : (low : ℕ) → low ≤ length ((first_step x.steps x.ended).met.boards.published fetch.board fetch.entry) → IsGotBy fetch low (length x.steps) x.ended.met.boards (left x.ended).boards x.words x.generation
  pub ends : EndsGet x.ended.met x.ended.pair party fetch.board fetch.entry x.words x.generation
  pub things : SameThings party s.boards (left x.ended).boards
  pub before : SameThings party s.boards x.begun.met.boards
  pub to_begin : Grows s.boards x.begun.met.boards
  pub to_first : Grows s.boards (first_step x.steps x.ended).met.boards
  pub to_end : Grows s.boards x.ended.met.boards
  pub past : Grows s.boards (left x.ended).boards
  pub on : Grows x.begun.met.boards x.ended.met.boards

unnamed : (s : boards.State) (party h : List ℕ) (f : Fetch) → IsFetch s party h f → f.name ≡ None
unnamed s party h f k = ap (λ (y : Fetch). y.name) k.is

pub get_walk : (party h : List ℕ) (s : ScriptState) (x : Get) → Chain party s (moments_of_get x) → IsGet party h x → Sound s.boards → IsWalk party h s x
get_walk party h s x c k sound =
    let own = own_begin x.begun party h k.begun c.1 in
    let keeps = link_leaves party s.boards x.begun.met.boards c.0 sound in
    let a = link_grows party s.boards x.begun.met.boards c.0 sound in
    let start = run_begun party h x.begun.met.boards a.sound own.right in
    let run = λ (low : ℕ). subst (IsRun party start.fetch low 0) (sym own.state) (start.run low) in
    let b : Grows x.begun.met.boards (left x.begun).boards = pair_grows x.begun.met x.begun.pair.0 x.begun.pair.1 c.1 a.sound in
    let ab : Grows s.boards (left x.begun).boards = grows_more s.boards x.begun.met.boards (left x.begun).boards a b in
    let same : (left x.begun).boards.standing ≡ x.begun.met.boards.standing = ap (λ (t : boards.State). t.standing) own.state in
    let link = first_link party x.steps x.ended (left x.begun) c.2 in
    let none = unnamed x.begun.met.boards party h start.fetch start.asked in
    let whole = λ (low : ℕ) (le : low ≤ length ((first_step x.steps x.ended).met.boards.published start.fetch.board start.fetch.entry)). walk party start.fetch low x.type x.words x.generation none x.steps x.ended (left x.begun) 0 c.2 k.steps k.ended (run low) (λ z. le) in
    let w = whole 0 (omega arith) in
    record {
      fetch = start.fetch;
      asked = start.asked;
      held = ap (of_kind thing_kind.ReadHandle) (sym (keeps.holds.things h)) ∙ start.asked.held;
      got = λ low le. subst (λ (m : ℕ). IsGotBy start.fetch low m x.ended.met.boards (left x.ended).boards x.words x.generation) (omega arith) (whole low le).got;
      ends = w.ends;
      things = λ name. w.things name ∙ standing_things party x.begun.met.boards (left x.begun).boards same name ∙ keeps.holds.things name;
      before = keeps.holds.things;
      to_begin = a;
      to_first = grows_more s.boards (left x.begun).boards _ ab (link_grows party (left x.begun).boards _ link ab.sound);
      to_end = grows_more s.boards (left x.begun).boards _ ab w.to_end;
      past = grows_more s.boards (left x.begun).boards _ ab w.past;
      on = grows_more x.begun.met.boards (left x.begun).boards _ b w.to_end;
    }
