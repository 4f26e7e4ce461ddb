-- What a factory keeps of its board, and what its calls answer.
use Rattle.std.specs.Prelude.{ℕ, List}
use Rattle.board_model.specs.Tables.{board_at}
use Rattle.board_handles.specs.BoardEnds.{Core}
use Rattle.board_domain.specs.Services.{FactorySeen}
use Rattle.board_domain.specs.declared.kept.Kept.{Kept}
use Rattle.board_domain.specs.Kept.{ShowsBoard}

-- the factory of a board by this name, with what is kept
abbrev pub factory_of : Kept → List ℕ → FactorySeen
factory_of kept name = record { made = kept.made; name = name; config = kept.config; attributes = kept.attributes }

-- what is kept is what is fixed of the board, which stands
abbrev pub KeepsBoard : Core → FactorySeen → Type 0
KeepsBoard d f = ShowsBoard (board_at d.tables f.made.number) f.config f.attributes
