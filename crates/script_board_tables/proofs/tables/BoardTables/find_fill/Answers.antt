use Rattle.std.proofs.Common.{◌≡◌, refl, ap, rules}
use Rattle.board_model.specs.Requests as requests
use Rattle.board_model.specs.TypeTable.{same_type, type_of, value_detail, value_words}
use Rattle.script_board_tables.specs.declared.calls.Publishing.{Publishing}
use Rattle.script_board_tables.specs.declared.calls.BoardCall.TheVariants as call
use Rattle.script_board_tables.specs.declared.requests.Found.{Found}
use Rattle.script_board_tables.specs.Calls.{lending, lent_found}
use Rattle.script_board_tables.specs.Tables.{published_of, standing_of}
use Rattle.script_board_tables.proofs.FindLemmas.{a_lent, on_loan, on_plain}
use Rattle.script_board_tables.proofs.tables.BoardTables.find_fill.Goals as goal

pub returns-in_ok-value_words-in-Some : goal.returns-in_ok-value_words-in-Some
returns-in_ok-value_words-in-Some c =
    let s = standing_of c.args.self.now in
    let lists = published_of c.args.self.now in
    let lent = c.in-Some.lent in
    let detail = c.in-Some.detail in
    let found : a_lent (lent, detail) ≡ lent_found s lists c.args.party.now c.args.loan c.args.handle = search rules in
    let f = c.plain-found.result in
    let words : c.from_vec-words.result ≡ value_words c.args.value = search rules in
    let typed : c.same_type.result ≡ same_type (value_detail (type_of c.args.value)) detail = search rules in
    let publishing : Publishing = record { board = lent.board; entry = lent.entry; shape = lent.shape; generation = lent.generation; words = c.from_vec-words.result; written = 0 } in
    on_loan s lists c.args.loan c.args.handle (λ x. requests.fill x c.args.value) c.args.party.now lent detail found (record f { typed = c.same_type.result })
    (on_plain s f (call.Fill publishing lent.loan lent.handle) (requests.fill (lending detail lent) c.args.value) c.same_type.result f.indexed f.filled c.plain-found.ensures
    (record { type = detail; put_words = lent.words; value = c.args.value; words = words; request = refl }) refl
    typed (ap (λ (g : Found). g.indexed) c.plain-found.ensures) (ap (λ (g : Found). g.filled) c.plain-found.ensures))
