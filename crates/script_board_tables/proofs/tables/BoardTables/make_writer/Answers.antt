use Rattle.std.proofs.Common.{◌≡◌, ◌+◌, true, false, refl, rules, sym}
use Rattle.std.specs.Prelude.{nat_le}
use Rattle.board_model.specs.declared.answer.Reply.TheVariants as reply
use Rattle.board_names.specs.declared.errors.boards.WriterCreateError.TheVariants as error
use Rattle.board_model.specs.Requests as requests
use Rattle.board_model.specs.TableCalls.{first_of, writer_refusals, with_writer}
use Rattle.board_model.specs.Tables.{board_at, holds_at, writer_slots}
use Rattle.script_board_tables.specs.Tables.{tables_of}
use Rattle.script_board_tables.proofs.AskLemmas.{call_made, call_refused}
use Rattle.script_board_tables.proofs.tables.BoardTables.make_writer.Goals as goal

pub returns-then-has_all_writers : goal.returns-then-has_all_writers
returns-then-has_all_writers c =
    let t = tables_of c.args.self.now in
    let of = c.args.factory.now in
    let full : true ≡ holds_at (board_at t of.board) (λ b. nat_le b.max_writers (writer_slots b.number t.things)) = search rules in
    call_refused c.args.self.now c.args.party.now (requests.table (requests.writer c.args.name of)) reply.WriterError (t.last_port + 1) (with_writer t of c.args.name) (first_of (writer_refusals t.things (board_at t of.board)))
    error.ExceedsMaxSupportedWriters refl (rw (sym full) refl) refl refl

pub returns : goal.returns
returns c =
    let t = tables_of c.args.self.now in
    let of = c.args.factory.now in
    let room : false ≡ holds_at (board_at t of.board) (λ b. nat_le b.max_writers (writer_slots b.number t.things)) = search rules in
    call_made c.args.self.now c.args.party.now (requests.table (requests.writer c.args.name of)) reply.WriterError (t.last_port + 1) (with_writer t of c.args.name) (first_of (writer_refusals t.things (board_at t of.board)))
    refl (rw (sym room) refl) refl refl _ c.in_ok-make_port.ensures
