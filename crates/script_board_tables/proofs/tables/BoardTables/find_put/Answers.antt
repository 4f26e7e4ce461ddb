use Rattle.std.proofs.Common.{◌≡◌, refl, ap, rules}
use Rattle.std.specs.Prelude.{nat_lt}
use Rattle.board_model.specs.Requests as requests
use Rattle.script_board_tables.specs.declared.calls.BoardCall.TheVariants as call
use Rattle.script_board_tables.specs.declared.requests.Found.{Found}
use Rattle.script_board_tables.specs.Calls.{lending, lent_found}
use Rattle.script_board_tables.specs.Tables.{published_of, standing_of}
use Rattle.script_board_tables.proofs.FindLemmas.{a_lent, on_loan, on_plain}
use Rattle.script_board_tables.proofs.tables.BoardTables.find_put.Goals as goal

pub returns-in-Some : goal.returns-in-Some
returns-in-Some c =
    let s = standing_of c.args.self.now in
    let lists = published_of c.args.self.now in
    let lent = c.in-Some.lent in
    let detail = c.in-Some.field-0-1 in
    let found : a_lent (lent, detail) ≡ lent_found s lists c.args.party.now c.args.loan c.args.loan = search rules in
    let f = c.plain-found.result in
    let indexed = nat_lt c.args.index lent.shape.words in
    on_loan s lists c.args.loan c.args.loan (λ x. requests.put x c.args.index c.args.word) c.args.party.now lent detail found (record f { indexed = indexed })
    (on_plain s f (call.Put lent c.args.index c.args.word) (requests.put (lending detail lent) c.args.index c.args.word) f.typed indexed f.filled c.plain-found.ensures (record { type = detail; request = refl }) refl
    (ap (λ (g : Found). g.typed) c.plain-found.ensures) refl (ap (λ (g : Found). g.filled) c.plain-found.ensures))
