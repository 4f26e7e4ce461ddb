use Rattle.std.proofs.Common.{◌≡◌, subst, sym, refl}
use Rattle.std.specs.Prelude.{Ok}
use Rattle.board_layout.specs.Bytes.{details}
use Rattle.board_model.specs.Tables.{board_at}
use Rattle.board_service.specs.declared.made.Made.{Made}
use Rattle.board_service.specs.Domain.{after_open, open_answer}
use Rattle.board_domain.specs.Kept.{ShowsBoard}
use Rattle.board_domain.proofs.AskedLemmas.{as_asked}
use Rattle.board_domain.proofs.KeptLemmas.{board_to_open, held_opened, shown_still}
use Rattle.board_domain.proofs.kept.open_board.Goals as goal

pub kept_of-requires : goal.kept_of-requires
kept_of-requires g c =
    let K = g.K.ZeroCopySend in
    board_to_open c.args.state.now.tables c.args.node c.args.name.now (details K.type_bytes K.SIZE K.ALIGNMENT) c.args.limits c.args.verifier.now
    c.in_ok-made.made c.in_ok-made.ensures.answer

pub returns-in-Ok-open_unrefused-clause-kept : goal.returns-in-Ok-open_unrefused-clause-kept
returns-in-Ok-open_unrefused-clause-kept g c =
    let kept = c.in-Ok.kept in
    shown_still c.args.state.now.tables c.open_unrefused.new.self c.args.node c.args.name.now kept.made.number kept.config kept.attributes
    c.in-Ok-open_unrefused.ensures.ok c.in-Ok.ensures.kept

pub returns-in-Ok-open_unrefused-clause-asked : goal.returns-in-Ok-open_unrefused-clause-asked
returns-in-Ok-open_unrefused-clause-asked g c =
    let K = g.K.ZeroCopySend in
    let kept = c.in-Ok.kept in
    let d = c.args.state.now.tables in
    as_asked d c.args.node c.args.name.now (details K.type_bytes K.SIZE K.ALIGNMENT) c.args.limits c.args.verifier.now
    c.in_ok-made.made c.facts.ensures kept.config kept.attributes (after_open d c.args.node c.args.name.now) c.in_ok-made.ensures.answer refl
    (subst (λ (m : Made). ShowsBoard (board_at d.tables m.number) kept.config kept.attributes) c.in-Ok.ensures.made c.in-Ok.ensures.kept)

pub returns-in-Ok-open_unrefused-clause-held : goal.returns-in-Ok-open_unrefused-clause-held
returns-in-Ok-open_unrefused-clause-held g c =
    let K = g.K.ZeroCopySend in
    let keys = details K.type_bytes K.SIZE K.ALIGNMENT in
    let kept = c.in-Ok.kept in
    let d = c.args.state.now.tables in
    let ok = subst (λ (m : Made). Ok m ≡ open_answer d c.args.node c.args.name.now keys c.args.limits c.args.verifier.now) (sym c.in-Ok.ensures.made) c.in_ok-made.ensures.answer in
    let asked = as_asked d c.args.node c.args.name.now keys c.args.limits c.args.verifier.now
    kept.made c.facts.ensures kept.config kept.attributes (after_open d c.args.node c.args.name.now) ok refl c.in-Ok.ensures.kept in
    held_opened d c.open_unrefused.new.self c.args.node c.args.name.now keys c.args.limits c.args.verifier.now
    kept.made kept.config kept.attributes c.facts.ensures ok c.in-Ok-open_unrefused.ensures.ok c.in-Ok.ensures.kept asked.keyed
