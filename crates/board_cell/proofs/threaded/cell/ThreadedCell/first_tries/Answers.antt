use Rattle.std.proofs.Common.{◌≡◌, ℕ, ◌-◌, ◌<◌, List, [], ◌∷◌, ◌++◌, refl, sym, ap, ◌∙◌, subst, arith}
use Rattle.std.proofs.lemmas.List.{append-nil}
use Rattle.std.proofs.lemmas.Result.{IfOk-weaker}
use Rattle.board_cell_model.specs.OwedAccesses.{is_finished}
use Rattle.board_cell.specs.Calls.{words_of}
use Rattle.board_cell.specs.Views.{reader_of, with_note, AfterTriesWithin}
use Rattle.board_cell.proofs.Climbs.{tried_again_within}
use Rattle.board_cell.proofs.threaded.cell.ThreadedCell.first_tries.Goals as goal

pub returns-then-after-opened-clause-ok : goal.returns-then-after-opened-clause-ok
returns-then-after-opened-clause-ok c =
    let x = reader_of c.args.seat.now.me.0 in
    let after : ℕ = c.try_once-after.result in
    let words : List ℕ = words_of c.try_once-after.new.call.reading in
    let a = c.try_once-after.ensures.accepted (c.if-after-opened.true ∙ sym c.requires.seat.2) in
    let out : c.replace.new.dest.items ≡ words = ap (λ v. v.items) c.replace.ensures.after ∙ c.into_buffer.ensures.words (ap (λ k. is_finished k.reading) a.1) in
    subst (λ (ws : List ℕ). AfterTriesWithin c.args.tries x c.try_once-after.new.seat.me.0 c.args.opened after ws) (sym out) record {
      after = record {
        y = with_note x after words;
        is = ap (λ m. m.0) a.0;
        notes = refl;
        reached = refl;
        rest = [];
        climbs = tt;
        ends = sym c.if-after-opened.true;
        loads = ap (λ (l : List ℕ). l ++ after ∷ []) (sym (append-nil x.loads));
      };
      few = c.requires.some;
    }

pub returns-clause-ok : goal.returns-clause-ok
returns-clause-ok c =
    let x = reader_of c.args.seat.now.me.0 in
    let after : ℕ = c.try_once-after.result in
    let a = c.try_once-after.ensures.again (λ e. c.if-after-opened.false (e ∙ c.requires.seat.2)) in
    let up = c.try_once-after.ensures.reached.1 in
    let opened = c.requires.seat.2 in
    let not = c.if-after-opened.false in
    let more : c.args.opened < after = omega arith in
    let some = c.requires.some in
    IfOk-weaker c.try_later.result _ _
    (λ g t. tried_again_within c.args.tries (c.args.tries - 1) x c.try_once-after.new.seat.me.0 c.try_later.new.seat.me.0 c.args.opened after g c.try_later.new.out.items (ap (λ m. m.0) a.0) more (omega arith) t)
    c.try_later.ensures.ok
