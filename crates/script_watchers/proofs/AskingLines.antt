-- The lines that ask for an id.
use Rattle.std.proofs.Common.{◌≡◌, ℕ, ◌≤◌, true, List, ◌∷◌, ◌++◌, length, length-append, arith, sym, subst}
use Rattle.std.specs.Prelude.{codes}
use Rattle.board_model.specs.LineGrammar.{is_name}
use Rattle.board_model.specs.declared.line.Line.TheVariants as board_line
use Rattle.script_model.specs.declared.line.ScriptLine.{ScriptLine}
use Rattle.script_model.specs.declared.line.ScriptLine.TheVariants as line
use Rattle.script_model.specs.ScriptGrammar.{SpellsLine, script_spell}
use Rattle.script_feed.proofs.GivenLemmas.{short_name}
use Rattle.script_watches.specs.WatchExchanges.{id_line}

pub id_spelled : (party handle bytes : List ℕ) → is_name party ≡ true → is_name handle ≡ true → bytes ≡ script_spell (id_line party handle) → SpellsLine bytes (id_line party handle)
id_spelled party handle bytes p h e = record {
  line = (p, h);
  bytes = e;
  short = subst (λ (l : List ℕ). length l ≤ 4096) (sym e)
      (omega (arith, short_name party p, short_name handle h, length-append (codes "begin") (32 ∷ (party ++ 32 ∷ (codes "id" ++ 32 ∷ handle))), length-append party (32 ∷ (codes "id" ++ 32 ∷ handle)), length-append (codes "id") (32 ∷ handle)));
}

abbrev pub step_line : List ℕ → ScriptLine
step_line party = line.Board (board_line.Step party)

pub step_spelled : (party bytes : List ℕ) → is_name party ≡ true → bytes ≡ script_spell (step_line party) → SpellsLine bytes (step_line party)
step_spelled party bytes p e = record {
  line = p;
  bytes = e;
  short = subst (λ (l : List ℕ). length l ≤ 4096) (sym e) (omega (arith, short_name party p, length-append (codes "step") (32 ∷ party)));
}
