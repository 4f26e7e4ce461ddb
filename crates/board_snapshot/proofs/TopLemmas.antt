-- What a run that ended well comes to, and which statuses runs have.
use Rattle.std.proofs.Common.{◌≡◌, ℕ, ◌<◌, List, [], ◌∷◌, length, map, arith, refl, subst, sym, ◌∙◌, Option}
use Rattle.std.specs.Prelude.{Result, Ok, Err}
use Rattle.std.specs.Io.KnownBytes.{IsAtEnd}
use Rattle.script_model.specs.ScriptSession as script
use Rattle.script_loop.specs.declared.error.ScriptError.{ScriptError}
use Rattle.script_loop.specs.Runs.{Stream}
use Rattle.script_endings.specs.Endings.{status_of}
use Rattle.script_endings.proofs.StatusLemmas.{bad_status}
use Rattle.script_exchanges.specs.declared.line.Drive.TheVariants.{Snapshots}
use Rattle.script_exchanges.specs.Exchanges.{AreLinesOf, Exchanges, fed_session}
use Rattle.script_drive.specs.DriveRuns.{DriveRuns}
use Rattle.script_snapshots.specs.SnapshotExchanges.{IsLawful, no_takings}
use Rattle.script_snapshots.proofs.TakingLaws.{fed_lawful_law, takings_short, written_law}
use Rattle.board_snapshot.specs.Top.{IsSnapshotRun}
use Rattle.board_snapshot.proofs.WrittenLemmas.{fed_written, read_back}

-- nothing is a lawful script
pub none_lawful : IsLawful []
none_lawful = (no_takings, refl)

fed_is_lawful : (xs : Exchanges) → IsLawful xs → script.IsLawful (fed_session xs)
fed_is_lawful xs h = subst script.IsLawful (fed_lawful_law.fed xs h.0 h.1) (fed_lawful_law.lawful xs h.0 h.1)

module _ (answer : Result (Unit {0}) ScriptError) (status : ℕ) (source sink : Stream) (r : DriveRuns Snapshots IsLawful 4294967295 source sink answer) (is : status ≡ status_of answer) where
  -- with status 0 the script was run to its end
  pub run_is : status ≡ 0 → IsSnapshotRun source sink
  run_is zero = at answer r (sym is ∙ zero)
    where
      at : (a : Result (Unit {0}) ScriptError) → DriveRuns Snapshots IsLawful 4294967295 source sink a → status_of a ≡ 0 → IsSnapshotRun source sink
      at (Ok x) h e = record {
        exchanges = h.ok.exchanges;
        lines = h.ok.lines;
        output = h.ok.output;
        lawful = h.ok.lawful;
        fed = fed_is_lawful h.ok.exchanges h.ok.lawful;
        written = λ input k. fed_written input h.ok.exchanges (subst (λ (o : Option (List ℕ)). AreLinesOf Snapshots o h.ok.exchanges) k h.ok.lines) h.ok.lawful;
        read_back = λ input k. read_back input h.ok.exchanges (subst (λ (o : Option (List ℕ)). AreLinesOf Snapshots o h.ok.exchanges) k h.ok.lines) h.ok.lawful;
        moments = λ s met party a y w. written_law met.earlier s met.leads party a y w;
        short = λ s met party x taking. takings_short met.earlier s met.leads party x taking;
      }
      at (Err x) h e = absurd (bad_status x 0 (omega arith) e)

  pub run_ends : status ≡ 0 → IsAtEnd source.after
  run_ends zero = at answer r (sym is ∙ zero)
    where
      at : (a : Result (Unit {0}) ScriptError) → DriveRuns Snapshots IsLawful 4294967295 source sink a → status_of a ≡ 0 → IsAtEnd source.after
      at (Ok x) h e = h.end
      at (Err x) h e = absurd (bad_status x 0 (omega arith) e)

  -- it is never that of words
  pub no_words_status : status ≡ 2 → ⊥
  no_words_status two = at answer (sym is ∙ two)
    where
      at : (a : Result (Unit {0}) ScriptError) → status_of a ≡ 2 → ⊥
      at (Ok x) e = omega (arith, e)
      at (Err x) e = bad_status x 2 (omega arith) e

-- texts are those of words
pub some_words : {A : Type 0} (f : A → List ℕ) (ws : List A) → (map f ws ≡ [] → ⊥) → 0 < length ws
some_words f [] h = absurd (h refl)
some_words f (w ∷ ws) h = omega arith
