-- Why the calls on a domain are refused, if they are. Memory is wanted only where nothing refuses a call.
use Rattle.std.specs.Prelude.{◌≡◌, ℕ, List, map, Option, None}
use Rattle.std.specs.Str.{bytes_eq}
use Rattle.board_names.specs.declared.errors.boards.BlackboardCreateError.{BlackboardCreateError}
use Rattle.board_names.specs.declared.errors.boards.BlackboardOpenError.{BlackboardOpenError}
use Rattle.board_names.specs.declared.errors.boards.ReaderCreateError.{ReaderCreateError}
use Rattle.board_names.specs.declared.errors.boards.WriterCreateError.{WriterCreateError}
use Rattle.board_names.specs.declared.errors.boards.EntryHandleError.{EntryHandleError}
use Rattle.board_names.specs.declared.errors.boards.EntryHandleMutError.{EntryHandleMutError}
use Rattle.board_model.specs.declared.attributes.Requirements.{Requirements}
use Rattle.board_model.specs.declared.tables.Entry.{Entry}
use Rattle.board_model.specs.declared.tables.Limits.{Limits}
use Rattle.board_model.specs.declared.value.AddedEntry.{AddedEntry}
use Rattle.board_model.specs.declared.value.Key.{Key}
use Rattle.board_model.specs.declared.value.KeyType.{KeyType}
use Rattle.board_model.specs.declared.value.ValueType.{ValueType}
use Rattle.board_model.specs.Replies.{added_of, keeps_key}
use Rattle.board_model.specs.TableCalls.{create_refusals, entry_mut_refusals, entry_refusals, first_of, open_refusals, reader_refusals, writer_refusals}
use Rattle.board_model.specs.Tables.{Added, board_at, board_named, entry_found}
use Rattle.board_model.specs.Things.{Held}
use Rattle.board_model.specs.TypeTable.{key_detail, same_key, value_detail}
use Rattle.script_parties.specs.Parties.{Parties}

-- nothing refuses the call
abbrev pub IsUnrefused : {E : Type 0} → Option E → Type 0
IsUnrefused refusal = refusal ≡ None

-- the entries of a script that a new board is to have, as the tables take them
abbrev pub added : List AddedEntry → List Added
added entries = map added_of entries

-- of the making of a board
abbrev pub create_refusal : Parties → List ℕ → KeyType → List AddedEntry → Option BlackboardCreateError
create_refusal p name k entries = first_of (create_refusals (same_key k) p.tables.boards name (added entries))

-- of the opening of a board
abbrev pub open_refusal : Parties → List ℕ → List ℕ → KeyType → Limits → Requirements → Option BlackboardOpenError
open_refusal p party name k limits needs =
    first_of (open_refusals bytes_eq p.tables.things party (board_named p.tables name) (key_detail k) limits needs)

-- of a reader, and of a writer, at a factory
abbrev pub reader_refusal : Parties → Held → Option ReaderCreateError
reader_refusal p x = first_of (reader_refusals p.tables.things (board_at p.tables x.board))

abbrev pub writer_refusal : Parties → Held → Option WriterCreateError
writer_refusal p x = first_of (writer_refusals p.tables.things (board_at p.tables x.board))

-- the entry of a thing's board that is looked up, with its place
abbrev pub entry_wanted : Parties → Held → Key → ValueType → Option (ℕ × Entry)
entry_wanted p x k type = entry_found (board_at p.tables x.board) (keeps_key k) (value_detail type)

-- of a read handle at a reader, and of a write handle at a writer
abbrev pub entry_refusal : Parties → Held → Key → ValueType → Option EntryHandleError
entry_refusal p x k type = first_of (entry_refusals (entry_wanted p x k type))

abbrev pub entry_mut_refusal : Parties → Held → Key → ValueType → Option EntryHandleMutError
entry_mut_refusal p x k type = first_of (entry_mut_refusals p.tables.things x.board (entry_wanted p x k type))
