use Rattle.std.proofs.Common.{◌≡◌, ℕ, true, false, refl, subst, ◌∙◌, Option, Vec, Global}
use Rattle.std.specs.Prelude.{IfNone, IfSome, is_some}
use Rattle.board_model.specs.declared.answer.Answer.TheVariants as answer
use Rattle.board_model.specs.declared.answer.Reason.TheVariants as reason
use Rattle.board_model.specs.declared.line.Line.TheVariants as board_line
use Rattle.board_model.specs.LawfulSession.{State}
use Rattle.board_model.specs.Tables.{board_at}
use Rattle.script_boards.specs.Machine as boards
use Rattle.script_boards.proofs.Listings.{on_ok}
use Rattle.script_machine.proofs.Turns.{from_nothing, listed_right, same_boards, told_alone, unlisted_right}
use Rattle.script_boards.proofs.StepWants.{takes_unrefused}
use Rattle.script_model.specs.declared.line.ScriptLine.TheVariants as line
use Rattle.script_machine.proofs.Wants.{alone_accepted, answered_wants, takes_anyway}
use Rattle.script_machine.proofs.machine.Machine.tell_words.Goals as goal

pub returns-in-Some-clause-tells : goal.returns-in-Some-clause-tells
returns-in-Some-clause-tells g c =
    let m = c.args.self.now.boards in
    let n = c.args.board in
    let found = c.in_ok-words.ensures in
    let stands = subst (λ (o : Option (Vec ℕ Global)). IfSome o (λ ws. (s : State) → boards.Represents m s → is_some (board_at s.standing.tables n) ≡ true)) c.in-Some.is found.stands in
    let words = subst (λ (o : Option (Vec ℕ Global)). IfSome o (λ ws. (s : State) → boards.Represents m s → ws.items ≡ s.memory n)) c.in-Some.is found.words in
    on_ok (λ e s count rep reached.
    told_alone _ s (board_line.Words n) (answer.Words c.deref.result.now) _ refl c.requires.line
    (listed_right s.boards n c.deref.result.now (stands s.boards rep.boards) (c.deref.ensures.value ∙ words s.boards rep.boards) c.push_listing.ensures.numbers c.requires.line)
    (same_boards c.args.self.now s c.words_of.new.self found.same rep) (from_nothing _ _ _ c.requires.empty e)) c.push_listing.result c.push_listing.ensures.told

pub returns-in-None-clause-tells : goal.returns-in-None-clause-tells
returns-in-None-clause-tells g c =
    let m = c.args.self.now.boards in
    let n = c.args.board in
    let found = c.in_ok-words.ensures in
    let none = subst (λ (o : Option (Vec ℕ Global)). IfNone o ((s : State) → boards.Represents m s → is_some (board_at s.standing.tables n) ≡ false)) c.in-None.is found.none in
    on_ok (λ e s count rep reached.
    told_alone _ s (board_line.Words n) (answer.Refused reason.NoBoard) _ refl c.requires.line
    (unlisted_right s.boards n (none s.boards rep.boards) c.requires.line)
    (same_boards c.args.self.now s c.words_of.new.self found.same rep) (from_nothing _ _ _ c.requires.empty e)) c.push_refused.result c.push_refused.ensures.ok

pub returns-in_err-words-clause-memory : goal.returns-in_err-words-clause-memory
returns-in_err-words-clause-memory g c =
    takes_anyway c.from_residual.result c.args.self.now (line.Board (board_line.Words c.args.board)) c.args.out.now (λ s count rep reached.
    alone_accepted s (board_line.Words c.args.board) refl (takes_unrefused s.boards (board_line.Words c.args.board) (c.in_err-words.ensures.memory s.boards rep.boards reached.boards)))

pub returns-in-Some-clause-memory : goal.returns-in-Some-clause-memory
returns-in-Some-clause-memory g c =
    let m = c.args.self.now.boards in
    let n = c.args.board in
    let stands = subst (λ (o : Option (Vec ℕ Global)). IfSome o (λ ws. (s : State) → boards.Represents m s → is_some (board_at s.standing.tables n) ≡ true)) c.in-Some.is c.in_ok-words.ensures.stands in
    takes_anyway c.push_listing.result c.args.self.now (line.Board (board_line.Words c.args.board)) c.args.out.now (λ s count rep reached. alone_accepted s (board_line.Words n) refl (rw (stands s.boards rep.boards) refl))

pub returns-in-None-clause-memory : goal.returns-in-None-clause-memory
returns-in-None-clause-memory g c =
    let m = c.args.self.now.boards in
    let n = c.args.board in
    let none = subst (λ (o : Option (Vec ℕ Global)). IfNone o ((s : State) → boards.Represents m s → is_some (board_at s.standing.tables n) ≡ false)) c.in-None.is c.in_ok-words.ensures.none in
    answered_wants c.push_refused.result c.args.self.now (board_line.Words n) c.args.out.now (answer.Refused reason.NoBoard) c.push_refused.ensures.room (λ s count rep reached. refl)
    (λ s count rep reached. unlisted_right s.boards n (none s.boards rep.boards) c.requires.line)
    (λ s count rep reached no. absurd (no tt))
