use Rattle.board_event.proofs.listener.EventListener.try_wait_all_in.Goals as goal

pub returns-clause-calls : goal.returns-clause-calls
returns-clause-calls g c = λ e here. (let calls = c.take_all_in.ensures.calls e here in (calls.0, calls.1, c.take_all_in.new.callback, calls.2))

pub returns-clause-reached : goal.returns-clause-reached
returns-clause-reached g c = λ e here. (let calls = c.take_all_in.ensures.reached e here in (calls.0, calls.1, c.take_all_in.new.callback, calls.2))
