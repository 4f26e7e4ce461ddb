use Rattle.std.proofs.Common.{◌≡◌, refl, ap, rules}
use Rattle.board_model.specs.Requests as requests
use Rattle.script_board_tables.specs.declared.calls.BoardCall.TheVariants as call
use Rattle.script_board_tables.specs.declared.requests.Found.{Found}
use Rattle.script_board_tables.specs.Calls.{lending, lent_found}
use Rattle.script_board_tables.specs.Tables.{published_of, standing_of}
use Rattle.script_board_tables.proofs.FindLemmas.{a_lent, on_loan, on_plain}
use Rattle.script_board_tables.proofs.tables.BoardTables.find_discard.Goals as goal

pub returns-in-Some : goal.returns-in-Some
returns-in-Some c =
    let s = standing_of c.args.self.now in
    let lists = published_of c.args.self.now in
    let lent = c.in-Some.lent in
    let detail = c.in-Some.field-0-1 in
    let found : a_lent (lent, detail) ≡ lent_found s lists c.args.party.now c.args.loan c.args.handle = search rules in
    let f = c.plain.result in
    on_loan s lists c.args.loan c.args.handle (λ x. requests.table (requests.discard x)) c.args.party.now lent detail found f
    (on_plain s f (call.Discard lent) (requests.table (requests.discard (lending detail lent))) f.typed f.indexed f.filled c.plain.ensures (record { type = detail; request = refl }) refl
    (ap (λ (g : Found). g.typed) c.plain.ensures) (ap (λ (g : Found). g.indexed) c.plain.ensures) (ap (λ (g : Found). g.filled) c.plain.ensures))
