-- Steps of calls on boards, and what is taken out of a judge for a step.
use Rattle.std.proofs.Common.{◌≡◌, ℕ, List, [], ◌∷◌, ◌++◌, refl, sym, ap, subst, ◌∙◌, Option, Some, None}
use Rattle.std.specs.Prelude.{option_map}
use Rattle.board_cell_model.specs.declared.access.Access.{Access}
use Rattle.board_model.specs.declared.answer.Answer.TheVariants as answer
use Rattle.board_model.specs.declared.answer.Reply.{Reply}
use Rattle.board_model.specs.declared.line.Line.TheVariants as board_line
use Rattle.board_model.specs.AnswerGrammar.{answer_line}
use Rattle.board_model.specs.LawfulSession.{IsTold, stepped}
use Rattle.board_model.specs.LineGrammar.{IsLine}
use Rattle.board_model.specs.Memory.{IsStanding, after_access, memory_after}
use Rattle.board_model.specs.Parties.{Running, free, notice, running}
use Rattle.board_model.specs.Replies.{ask, lists_after}
use Rattle.board_model.specs.Requests.{Published, Request}
use Rattle.board_model.specs.Things.{Standing}
use Rattle.script_model.specs.declared.line.ScriptLine.TheVariants as line
use Rattle.script_model.specs.ScriptTurns.{ScriptState}
use Rattle.script_board_tables.specs.declared.calls.BoardCall.{BoardCall}
use Rattle.script_board_tables.specs.declared.step.Stepped.TheVariants.{GoesOn, Ends}
use Rattle.script_board_tables.specs.declared.tables.BoardTables.{BoardTables}
use Rattle.script_board_tables.specs.LawsOfSteps.{RunningCallsCanStep}
use Rattle.script_board_tables.specs.Steps.{CanStep, EndsAs, GoesOnAs, Steps}
use Rattle.script_board_tables.specs.Tables.{Has, published_of}
use Rattle.script_event_tables.specs.declared.event_table.EventTable.{EventTable}
use Rattle.script_event_tables.specs.EventTables.{AreEvents}
use Rattle.script_judge.specs.declared.judge.Judge.{Judge}
use Rattle.script_judge.specs.declared.task.Task.{Task}
use Rattle.script_judge.specs.declared.task.Task.TheVariants as task
use Rattle.script_judge.specs.Judges.{IsLed, IsLedBut, IsOut, IsReached, IsTaskPut, IsTelling, Represents, RepresentsBut, Tells, TellsStep, task_of, thing_in}
use Rattle.script_judge.proofs.EventLemmas.{kept_of}
use Rattle.script_judge.proofs.FreeLines.{steps_board}
use Rattle.script_judge.proofs.Lines.{IsQuiet}
use Rattle.script_judge.proofs.Stands.{put_here, task_is, telling}
use Rattle.script_judge.proofs.Tasks.{IsTaskIn, RunsOnBoards, others_notice, out_put, runs_by, task_out, tasks_out, tasks_put}

-- ---- taken out

-- without the task that was taken out the judge stands for the state
pub but_of : (old mid : Judge) (party : List ℕ) (s : ScriptState) → IsTaskPut old mid party None → Represents old s → RepresentsBut mid party s
but_of old mid party s put rep = record {
  boards = subst (λ (b : BoardTables). Has b s.boards.standing s.boards.memory s.boards.published) (sym put.boards) rep.boards;
  events = subst (λ (x : EventTable). AreEvents x (kept_of s.events)) (sym put.events) rep.events;
  things = λ p n. ap (option_map thing_in) (put.things p n) ∙ rep.things p n;
  out = task_out (task_of old) (task_of mid) party put.tasks;
  others = tasks_out (task_of old) (task_of mid) party s put.tasks rep.tasks;
}

-- and the task is the party's
pub out_of : (old : Judge) (party : List ℕ) (s : ScriptState) (t : Task) (o : Option Task) → o ≡ task_of old party → o ≡ Some t → Represents old s → IsOut t party s
out_of old party s t o found is rep = subst (IsTaskIn s party) (sym found ∙ is) (rep.tasks party)

pub led_but : (old mid : Judge) (party : List ℕ) (t : Task) (o : Option Task) → IsTaskPut old mid party None → o ≡ task_of old party → o ≡ Some t → IsLed old → IsLedBut mid party t
led_but old mid party t o put found is led = record {
  state = led.state;
  count = led.count;
  represents = but_of old mid party led.state put led.represents;
  out = out_of old party led.state t o found is led.represents;
  reached = led.reached;
}

-- so a step that is told right without it is told right with it
pub tells_by : (old mid new : Judge) (party : List ℕ) (t : Task) (o : Option Task) (text : List ℕ) → IsTaskPut old mid party None → o ≡ task_of old party → o ≡ Some t → TellsStep mid new party t text → Tells old new (line.Board (board_line.Step party)) text
tells_by old mid new party t o text put found is step s count rep reached = step s count (but_of old mid party s put rep) (out_of old party s t o found is rep) reached

-- ---- a step of a call on boards

module _ (old : Judge) (party : List ℕ) (c : BoardCall) (s : ScriptState) (count : ℕ) (rep : RepresentsBut old party s) (out : IsOut (task.OnBoards c) party s) (reached : IsReached s count) where
  runs : RunsOnBoards c (s.boards.parties party) (s.events.asked party) (s.events.session.doing party)
  runs = runs_by s party c out

  pub can_go_on : RunningCallsCanStep → CanStep old.boards c
  can_go_on law = law old.boards s.boards reached.lines party runs.running_call c (record { has = rep.boards; sound = reached.sound; within = reached.within; few = reached.short; formed = reached.formed }) runs.party runs.call runs.come

  quiet_party : IsQuiet s party
  quiet_party = record { asked = runs.asked; doing = runs.doing }

  module _ (formed : IsLine (board_line.Step party)) (text : List ℕ) (mid : BoardTables) where
    module _ (new : Judge) (a : Access) (next : BoardCall) (steps : Steps old.boards mid party c (GoesOn a next)) (put : IsTaskPut (record old { boards = mid }) new party (Some (task.OnBoards next))) (text_is : text ≡ answer_line (answer.Step a None)) where
      pub goes_on : IsTelling new (line.Board (board_line.Step party)) text s
      goes_on =
          let g : GoesOnAs old.boards mid next a runs.running_call.request runs.running_call.so_far = steps runs.running_call.request runs.running_call.so_far runs.call runs.come in
          let t : ScriptState = record s { boards = stepped s.boards party runs.running_call a None } in
          let stands : IsStanding s.boards.memory a = subst (λ (m : ℕ → List ℕ). IsStanding m a) rep.boards.memory g.stands in
          let told : IsTold s.boards party runs.running_call a None = record { last = sym g.goes_on; reply = tt } in
          let next_running : Running = record runs.running_call { so_far = runs.running_call.so_far ++ a ∷ [] } in
          let has : Has mid s.boards.standing (after_access s.boards.memory a) s.boards.published = record {
            standing = g.has.standing ∙ rep.boards.standing;
            memory = g.has.memory ∙ ap (λ (m : ℕ → List ℕ). after_access m a) rep.boards.memory;
            lists = g.has.lists ∙ rep.boards.lists;
          } in
          let runs_on : IsTaskIn t party (Some (task.OnBoards next)) =
          task_is (Some (task.OnBoards next)) (running next_running) (t.boards.parties party) None (s.events.asked party) None (s.events.session.doing party)
          (put_here (λ p. notice a (s.boards.parties p)) party (running next_running)) runs.asked runs.doing (g.request, g.come) in
          telling new s (line.Board (board_line.Step party)) text
          (steps_board (Represents new) s party runs.running_call runs.party quiet_party text a None g.owed stands told formed (λ x h. reached.form (board_line.Step party) x h)
          (record {
            boards = subst (λ (b : BoardTables). Has b s.boards.standing (after_access s.boards.memory a) s.boards.published) (sym put.boards) has;
            events = subst (λ (x : EventTable). AreEvents x (kept_of s.events)) (sym put.events) rep.events;
            things = λ p n. ap (option_map thing_in) (put.things p n) ∙ rep.things p n;
            tasks = tasks_put (task_of old) (task_of new) party (Some (task.OnBoards next)) s t put.tasks rep.others (others_notice s t party a (running next_running) refl refl refl) runs_on;
          }) text_is)

    module _ (a : Access) (told : Reply) (steps : Steps old.boards mid party c (Ends a told)) (text_is : text ≡ answer_line (answer.Step a (Some told))) where
      pub ends : IsTelling (record old { boards = mid }) (line.Board (board_line.Step party)) text s
      ends =
          let new : Judge = record old { boards = mid } in
          let q : Request = runs.running_call.request in
          let g : EndsAs old.boards mid party a told runs.running_call.request runs.running_call.so_far = steps runs.running_call.request runs.running_call.so_far runs.call runs.come in
          let t : ScriptState = record s { boards = stepped s.boards party runs.running_call a (Some told) } in
          let stands : IsStanding s.boards.memory a = subst (λ (m : ℕ → List ℕ). IsStanding m a) rep.boards.memory g.stands in
          let due : IsTold s.boards party runs.running_call a (Some told) = record {
            last = sym g.done;
            reply = g.reply ∙ ap (λ (x : Standing). (ask x (published_of old.boards) party runs.running_call.request).reply) rep.boards.standing ∙ ap (λ (l : Published). (ask s.boards.standing l party runs.running_call.request).reply) rep.boards.lists;
          } in
          let has : Has mid t.boards.standing t.boards.memory t.boards.published = record {
            standing = g.has.standing ∙ ap (λ (x : Standing). (ask x (published_of old.boards) party runs.running_call.request).standing) rep.boards.standing ∙ ap (λ (l : Published). (ask s.boards.standing l party runs.running_call.request).standing) rep.boards.lists;
            memory = g.has.memory ∙ ap (λ (m : ℕ → List ℕ). memory_after (after_access m a) runs.running_call.request told) rep.boards.memory;
            lists = g.has.lists ∙ ap (λ (l : Published). lists_after l runs.running_call.request told) rep.boards.lists;
          } in
          let rests : IsTaskIn t party None =
          task_is None free (t.boards.parties party) None (s.events.asked party) None (s.events.session.doing party)
          (put_here (λ p. notice a (s.boards.parties p)) party free) runs.asked runs.doing tt in
          telling new s (line.Board (board_line.Step party)) text
          (steps_board (Represents new) s party runs.running_call runs.party quiet_party text a (Some told) g.owed stands due formed (λ x h. reached.form (board_line.Step party) x h)
          (record {
            boards = has;
            events = rep.events;
            things = rep.things;
            tasks = tasks_put (task_of old) (task_of new) party None s t (out_put (task_of old) party rep.out) rep.others (others_notice s t party a free refl refl refl) rests;
          }) text_is)
