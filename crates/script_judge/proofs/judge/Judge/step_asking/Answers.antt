use Rattle.script_judge.proofs.EventSteps.{ask_step}
use Rattle.script_judge.proofs.Stands.{from_nothing, on_ok}
use Rattle.script_judge.proofs.judge.Judge.step_asking.Goals as goal

pub made-requires : goal.made-requires
made-requires c = c.requires.led

pub returns : goal.returns
returns c = on_ok (λ e s count rep out reached.
    let m = c.in_ok-reply.ensures s count rep out reached in
    ask_step c.made.new.self c.args.party.now c.args.ask c.in_ok-reply.reply s count _ out reached c.requires.line m.0 m.1 (from_nothing _ _ _ c.requires.empty e)) c.push_event_asked.result c.push_event_asked.ensures.ok
