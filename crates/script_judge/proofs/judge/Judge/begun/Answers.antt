use Rattle.std.proofs.Common.{◌≡◌, sym, ap, ◌∙◌}
use Rattle.board_model.specs.Requests as requests
use Rattle.script_board_tables.specs.Tables.{published_of, standing_of}
use Rattle.script_judge.specs.Judges.{name_taken}
use Rattle.script_judge.proofs.Others.{call_found, not_false, not_true, unfilled_found, unindexed_found, untyped_found}
use Rattle.script_judge.proofs.judge.Judge.begun.Goals as goal

pub returns-then-not-found : goal.returns-then-not-found
returns-then-not-found c =
    let taken : name_taken c.args.self.now c.args.party.now (requests.new_name c.args.call.now) ≡ c.is_taken.result = ap (name_taken c.args.self.now c.args.party.now) (sym c.new_name.ensures) ∙ sym c.is_taken.ensures in
    untyped_found (standing_of c.args.self.now.boards) (name_taken c.args.self.now c.args.party.now (requests.new_name c.args.call.now)) (requests.request_of (standing_of c.args.self.now.boards) (published_of c.args.self.now.boards) c.args.party.now c.args.call.now) c.in-Some.found c.in_ok-found.field-0 c.in_ok-found.ensures c.in-Some.is (taken ∙ c.if-is_taken.false) (not_true _ c.if-not-found.true)

pub returns-then-not-found-2 : goal.returns-then-not-found-2
returns-then-not-found-2 c =
    let taken : name_taken c.args.self.now c.args.party.now (requests.new_name c.args.call.now) ≡ c.is_taken.result = ap (name_taken c.args.self.now c.args.party.now) (sym c.new_name.ensures) ∙ sym c.is_taken.ensures in
    unindexed_found (standing_of c.args.self.now.boards) (name_taken c.args.self.now c.args.party.now (requests.new_name c.args.call.now)) (requests.request_of (standing_of c.args.self.now.boards) (published_of c.args.self.now.boards) c.args.party.now c.args.call.now) c.in-Some.found c.in_ok-found.field-0 c.in_ok-found.ensures c.in-Some.is (taken ∙ c.if-is_taken.false) (not_false _ c.if-not-found.false) (not_true _ c.if-not-found-2.true)

pub returns-then-not-found-3 : goal.returns-then-not-found-3
returns-then-not-found-3 c =
    let taken : name_taken c.args.self.now c.args.party.now (requests.new_name c.args.call.now) ≡ c.is_taken.result = ap (name_taken c.args.self.now c.args.party.now) (sym c.new_name.ensures) ∙ sym c.is_taken.ensures in
    unfilled_found (standing_of c.args.self.now.boards) (name_taken c.args.self.now c.args.party.now (requests.new_name c.args.call.now)) (requests.request_of (standing_of c.args.self.now.boards) (published_of c.args.self.now.boards) c.args.party.now c.args.call.now) c.in-Some.found c.in_ok-found.field-0 c.in_ok-found.ensures c.in-Some.is (taken ∙ c.if-is_taken.false) (not_false _ c.if-not-found.false) (not_false _ c.if-not-found-2.false) (not_true _ c.if-not-found-3.true)

pub returns : goal.returns
returns c =
    let taken : name_taken c.args.self.now c.args.party.now (requests.new_name c.args.call.now) ≡ c.is_taken.result = ap (name_taken c.args.self.now c.args.party.now) (sym c.new_name.ensures) ∙ sym c.is_taken.ensures in
    call_found (standing_of c.args.self.now.boards) (name_taken c.args.self.now c.args.party.now (requests.new_name c.args.call.now)) (requests.request_of (standing_of c.args.self.now.boards) (published_of c.args.self.now.boards) c.args.party.now c.args.call.now) c.in-Some.found c.in_ok-found.field-0 c.in_ok-found.ensures c.in-Some.is (taken ∙ c.if-is_taken.false) (not_false _ c.if-not-found.false) (not_false _ c.if-not-found-2.false) (not_false _ c.if-not-found-3.false)
