use Rattle.std.proofs.Common.{◌≡◌, refl, sym, ◌∙◌}
use Rattle.std.specs.Prelude.{codes}
use Rattle.std.proofs.lemmas.Result.{IfOk-weaker, on_err_weaker}
use Rattle.board_model.proofs.ListLemmas.{same_bytes}
use Rattle.script_exchanges.specs.DriveGrammar.{start_word}
use Rattle.script_feed.proofs.DriveLines.{plain_kept, some_word, start_found, start_kept, start_only, turn_found, turn_only}
use Rattle.script_feed.proofs.parse.parse_drive.Goals as goal

pub returns-in_default-clause-only : goal.returns-in_default-clause-only
returns-in_default-clause-only c = absurd (some_word c.args.bytes.now (sym c.of-words.ensures ∙ c.in_default.ensures))

pub returns-then-is_word-clause-found : goal.returns-then-is_word-clause-found
returns-then-is_word-clause-found c =
    let word : c.in-Some.word.now ≡ codes "turn" = same_bytes c.in-Some.word.now (codes "turn") (sym c.is_word.ensures ∙ c.if-is_word.true) in
    turn_found c.args.drive c.args.bytes.now c.if-bytes-gt-MOST_BYTES.false c.in-Some.word.now c.next.new.self (sym c.of-words.ensures ∙ c.in-Some.ensures) c.turn_of.result word c.turn_of.ensures

pub returns-then-is_word-clause-only : goal.returns-then-is_word-clause-only
returns-then-is_word-clause-only c =
    let word : c.in-Some.word.now ≡ codes "turn" = same_bytes c.in-Some.word.now (codes "turn") (sym c.is_word.ensures ∙ c.if-is_word.true) in
    turn_only c.args.drive c.args.bytes.now c.if-bytes-gt-MOST_BYTES.false c.in-Some.word.now c.next.new.self (sym c.of-words.ensures ∙ c.in-Some.ensures) c.turn_of.result word c.turn_of.ensures

pub returns-then-is_start_word-clause-found : goal.returns-then-is_start_word-clause-found
returns-then-is_start_word-clause-found c =
    let word : c.in-Some.word.now ≡ start_word c.args.drive = same_bytes c.in-Some.word.now (start_word c.args.drive) (sym c.is_start_word.ensures ∙ c.if-is_start_word.true) in
    IfOk-weaker c.start_of.result _ _ (λ o e. start_found c.args.drive c.args.bytes.now c.if-bytes-gt-MOST_BYTES.false c.in-Some.word.now c.next.new.self (sym c.of-words.ensures ∙ c.in-Some.ensures) o word e) c.start_of.ensures.ok

pub returns-then-is_start_word-clause-only : goal.returns-then-is_start_word-clause-only
returns-then-is_start_word-clause-only c =
    let word : c.in-Some.word.now ≡ start_word c.args.drive = same_bytes c.in-Some.word.now (start_word c.args.drive) (sym c.is_start_word.ensures ∙ c.if-is_start_word.true) in
    IfOk-weaker c.start_of.result _ _ (λ o e. start_only c.args.drive c.args.bytes.now c.if-bytes-gt-MOST_BYTES.false c.in-Some.word.now c.next.new.self (sym c.of-words.ensures ∙ c.in-Some.ensures) o word e) c.start_of.ensures.ok

pub returns-then-is_start_word-clause-memory : goal.returns-then-is_start_word-clause-memory
returns-then-is_start_word-clause-memory c =
    let word : c.in-Some.word.now ≡ start_word c.args.drive = same_bytes c.in-Some.word.now (start_word c.args.drive) (sym c.is_start_word.ensures ∙ c.if-is_start_word.true) in
    on_err_weaker c.start_of.result (λ h. start_kept c.args.drive c.args.bytes.now c.if-bytes-gt-MOST_BYTES.false c.in-Some.word.now c.next.new.self (sym c.of-words.ensures ∙ c.in-Some.ensures) _ word refl h) c.start_of.ensures.memory

pub returns-clause-memory : goal.returns-clause-memory
returns-clause-memory c =
    on_err_weaker c.script_line_of.result (λ h. plain_kept c.args.drive c.args.bytes.now c.if-bytes-gt-MOST_BYTES.false c.in-Some.word.now c.next.new.self (sym c.of-words.ensures ∙ c.in-Some.ensures) h) c.script_line_of.ensures.memory
