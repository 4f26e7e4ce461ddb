use Rattle.std.proofs.Common.{◌∙◌, refl, sym}
use Rattle.std.proofs.lemmas.Result.{on_ok_weaker}
use Rattle.script_feed.specs.KeptOf as map
use Rattle.script_watchers.specs.declared.watch.Progress.TheVariants.{GoesOn, Refused, Reports}
use Rattle.script_feed.proofs.KeptLemmas.{put_back}
use Rattle.script_watchers.proofs.MachineLemmas.{goes_so, now_of, refused_so, reports_so, room_at, spelled_at, stands_for, tells, turned, unwatched_so}
use Rattle.script_watchers.proofs.machine.WatcherMachineDrives.turn.Goals as goal

pub returns-in_default : goal.returns-in_default
returns-in_default g c = on_ok_weaker c.say.result (λ e. tells g.M.RunsLines.stands c.args.self.now _ _ _ (λ xs s h. unwatched_so g.M.RunsLines.stands c.args.self.now.driven _ xs s c.args.party c.say.new.told.items h c.requires.line (sym c.in_default.ensures.taken) refl c.take.ensures.rest (rw c.requires.empty at e))) c.say.ensures

pub write_line-requires : goal.write_line-requires
write_line-requires g c = record { room = room_at g.M.RunsLines.stands c.args.self.now.driven c.requires.work.0 c.requires.work.1.state.state c.args.party c.in-Some.watch (now_of g.M.RunsLines.stands c.args.self.now c.requires.work.0 c.requires.work.1) c.in-Some.ensures.taken }

pub give-requires-clause-stands : goal.give-requires-clause-stands
give-requires-clause-stands g c = (c.requires.work.1.state.state.fed, stands_for g.M.RunsLines.stands c.args.self.now.driven c.requires.work.0 c.requires.work.1.state.state (now_of g.M.RunsLines.stands c.args.self.now c.requires.work.0 c.requires.work.1))

pub give-requires-clause-spelled : goal.give-requires-clause-spelled
give-requires-clause-spelled g c = spelled_at g.M.RunsLines.stands c.args.self.now.driven c.requires.work.0 c.requires.work.1.state.state c.args.party c.in-Some.watch c.deref.result.now (now_of g.M.RunsLines.stands c.args.self.now c.requires.work.0 c.requires.work.1) c.in-Some.ensures.taken c.requires.line (λ x k. c.deref.ensures.value ∙ c.in_ok-write_line.ensures x k)

pub took-requires : goal.took-requires
took-requires g c = record { room = room_at g.M.RunsLines.stands c.args.self.now.driven c.requires.work.0 c.requires.work.1.state.state c.args.party c.in-Some.watch (now_of g.M.RunsLines.stands c.args.self.now c.requires.work.0 c.requires.work.1) c.in-Some.ensures.taken }

pub returns-in-GoesOn : goal.returns-in-GoesOn
returns-in-GoesOn g c = on_ok_weaker c.keep.result (λ kept. tells g.M.RunsLines.stands c.args.self.now _ _ _ (λ xs s h.
    let t = turned g.M.RunsLines.stands c.args.self.now.driven c.give.new.machine xs s c.args.party c.in-Some.watch c.took.new.self GoesOn c.deref.result.now c.deref-2.result.now c.give.new.answer.items h c.in-Some.ensures.taken c.requires.line (λ x k. c.deref.ensures.value ∙ c.in_ok-write_line.ensures x k) (c.in_ok-give.ensures.ok s.fed (stands_for g.M.RunsLines.stands c.args.self.now.driven xs s h)) c.deref-2.ensures.value (rw c.in-GoesOn.is at c.in_ok-took.ensures) in
    goes_so g.M.RunsLines.stands c.args.self.now.driven _ xs s c.args.party c.took.new.self c.deref.result.now c.give.new.answer.items c.give.new.told.items h c.requires.line t
    (put_back (map.kept_of c.args.self.now.driven.kept) (map.kept_of c.take.new.self) (map.kept_of c.keep.new.self) c.args.party c.took.new.self c.take.ensures.rest kept) (rw c.requires.empty at c.in_ok-give.ensures.told))) c.keep.ensures.ok

pub returns-in-Refused : goal.returns-in-Refused
returns-in-Refused g c = on_ok_weaker c.say-in-Refused.result (λ e. tells g.M.RunsLines.stands c.args.self.now _ _ _ (λ xs s h.
    let t = turned g.M.RunsLines.stands c.args.self.now.driven c.give.new.machine xs s c.args.party c.in-Some.watch c.took.new.self Refused c.deref.result.now c.deref-2.result.now c.give.new.answer.items h c.in-Some.ensures.taken c.requires.line (λ x k. c.deref.ensures.value ∙ c.in_ok-write_line.ensures x k) (c.in_ok-give.ensures.ok s.fed (stands_for g.M.RunsLines.stands c.args.self.now.driven xs s h)) c.deref-2.ensures.value (rw c.in-Refused.is at c.in_ok-took.ensures) in
    let told = rw c.requires.empty at c.in_ok-give.ensures.told in
    refused_so g.M.RunsLines.stands c.args.self.now.driven _ xs s c.args.party c.took.new.self c.deref.result.now c.give.new.answer.items c.say-in-Refused.new.told.items h c.requires.line t c.take.ensures.rest (rw told at e))) c.say-in-Refused.ensures

pub returns-in_ok-say_report-in-Reports : goal.returns-in_ok-say_report-in-Reports
returns-in_ok-say_report-in-Reports g c = on_ok_weaker c.keep-in-Reports.result (λ kept. tells g.M.RunsLines.stands c.args.self.now _ _ _ (λ xs s h.
    let t = turned g.M.RunsLines.stands c.args.self.now.driven c.give.new.machine xs s c.args.party c.in-Some.watch c.took.new.self Reports c.deref.result.now c.deref-2.result.now c.give.new.answer.items h c.in-Some.ensures.taken c.requires.line (λ x k. c.deref.ensures.value ∙ c.in_ok-write_line.ensures x k) (c.in_ok-give.ensures.ok s.fed (stands_for g.M.RunsLines.stands c.args.self.now.driven xs s h)) c.deref-2.ensures.value (rw c.in-Reports.is at c.in_ok-took.ensures) in
    let told = rw c.requires.empty at c.in_ok-give.ensures.told in
    reports_so g.M.RunsLines.stands c.args.self.now.driven _ xs s c.args.party c.took.new.self c.deref.result.now c.give.new.answer.items c.say_report.new.told.items h c.requires.line t
    (put_back (map.kept_of c.args.self.now.driven.kept) (map.kept_of c.take.new.self) (map.kept_of c.keep-in-Reports.new.self) c.args.party c.took.new.self c.take.ensures.rest kept) (λ r says. rw told at (c.in_ok-say_report-in-Reports.ensures r says)))) c.keep-in-Reports.ensures.ok
