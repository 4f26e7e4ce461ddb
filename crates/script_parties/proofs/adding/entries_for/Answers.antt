use Rattle.std.proofs.Common.{map, sym, subst, arith, List}
use Rattle.std.specs.List.{AllByRecursion}
use Rattle.std.specs.Prelude.{All}
use Rattle.std.proofs.lemmas.Grind.{common_steps}
use Rattle.board_layout.specs.Layout.{IsShape}
use Rattle.board_model.specs.Tables.{Added, shapes_of}
use Rattle.board_service.specs.declared.new_entry.NewEntry.{NewEntry}
use Rattle.board_service.specs.Entries.{as_added}
use Rattle.script_parties.specs.Named.{HasShortKey}
use Rattle.script_parties.proofs.NewEntries.{have_shapes, made_all, short_push}
use Rattle.script_parties.proofs.adding.entries_for.Goals as goal

pub loop-entry-preserved : goal.loop-entry-preserved
loop-entry-preserved c = record {
  made = grind (arith, common_steps);
  keys = subst (λ (es : List NewEntry). AllByRecursion HasShortKey (map as_added es)) (sym c.in_ok-push.ensures.items) (short_push c.loop-entry.new.items _ c.loop-entry.invariant.keys c.key_bytes.ensures.short);
}

pub returns-clause-shapes : goal.returns-clause-shapes
returns-clause-shapes c =
    subst (λ (es : List Added). All IsShape (shapes_of es)) (sym (made_all c.loop-entry.new.items c.loop-entry.entry-index c.args.entries.now c.loop-entry-test.false c.loop-entry.invariant.made)) (have_shapes c.args.entries.now)
