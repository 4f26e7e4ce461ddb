-- What the calls of a core are asked, whose keys are of one of the key types of a script.
use Rattle.std.specs.Prelude.{◌≡◌, true, ℕ, Bool, List, Option}
use Rattle.board_layout.specs.declared.type_detail.TypeDetail.{TypeDetail}
use Rattle.board_model.specs.declared.tables.Entry.{Entry}
use Rattle.board_model.specs.declared.tables.ThingKind.{ThingKind}
use Rattle.board_model.specs.declared.value.Key.{Key}
use Rattle.board_model.specs.Replies.{keeps_key}
use Rattle.board_model.specs.ShortKeys.{IsShortKey}
use Rattle.board_model.specs.TypeTable.{key_detail, type_of_key}
use Rattle.board_service.specs.Domain.{Domain, entry_for, held, stands_as}

-- the core's thing stands, is of the kind, and is of a board whose keys are of the key's type
abbrev pub IsOfKeyType : {C : Type 0} → Domain C → Key → ℕ → ThingKind → Type 0
IsOfKeyType d k thing kind = stands_as d (key_detail (type_of_key k)) thing kind ≡ true

-- the entry of the board of the core's thing, with this key and these details of its values
abbrev pub entry_sought : {C : Type 0} → Domain C → ℕ → Key → TypeDetail → Option (ℕ × Entry)
entry_sought d thing k value = entry_for d (held d thing) (keeps_key k) value

-- two tests of keys agree on short ones
abbrev pub AgreeOnPairs : (List ℕ → List ℕ → Bool) → (List ℕ → List ℕ → Bool) → Type 0
AgreeOnPairs s t = (a b : List ℕ) → IsShortKey a → IsShortKey b → s a b ≡ t a b
