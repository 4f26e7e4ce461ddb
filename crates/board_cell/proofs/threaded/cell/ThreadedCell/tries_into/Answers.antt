use Rattle.std.proofs.Common.{◌≡◌, ℕ, ◌-◌, ◌<◌, List, [], ◌∷◌, ◌++◌, refl, sym, ap, subst, arith}
use Rattle.std.proofs.lemmas.List.{append-nil}
use Rattle.board_cell.specs.Views.{reader_of, with_note, AfterTriesWithin}
use Rattle.board_cell.proofs.Climbs.{tried_again_within}
use Rattle.board_cell.proofs.threaded.cell.ThreadedCell.tries_into.Goals as goal

pub returns-then-after-opened-clause-ok : goal.returns-then-after-opened-clause-ok
returns-then-after-opened-clause-ok c =
    let x = reader_of c.args.seat.now.me.0 in
    let after : ℕ = c.first_try-after.result in
    let words : List ℕ = c.first_try-after.new.words in
    let told = c.first_try-after.ensures.accepted c.if-after-opened.true in record {
      after = record {
        y = with_note x after words;
        is = ap (λ m. m.0) told;
        notes = refl;
        reached = refl;
        rest = [];
        climbs = tt;
        ends = sym c.if-after-opened.true;
        loads = ap (λ (l : List ℕ). l ++ after ∷ []) (sym (append-nil x.loads));
      };
      few = c.requires.some;
    }

pub returns-in-Ok-clause-ok : goal.returns-in-Ok-clause-ok
returns-in-Ok-clause-ok c =
    let x = reader_of c.args.seat.now.me.0 in
    let after : ℕ = c.first_try-after.result in
    let not = c.if-after-opened.false in
    let again = c.first_try-after.ensures.again not in
    let up = c.first_try-after.ensures.reached.1 in
    let more : c.args.opened < after = omega arith in
    let some = c.requires.some in
    let words : List ℕ = c.try_later.new.out.items in
    let out : c.copy_words.new.to ≡ words = cc in
    subst (λ (ws : List ℕ). AfterTriesWithin c.args.tries x c.try_later.new.seat.me.0 c.args.opened c.in-Ok.generation ws) (sym out) (tried_again_within c.args.tries (c.args.tries - 1) x c.first_try-after.new.seat.me.0 c.try_later.new.seat.me.0 c.args.opened after c.in-Ok.generation words (ap (λ m. m.0) again) more (omega arith) c.in-Ok.ensures.ok)
