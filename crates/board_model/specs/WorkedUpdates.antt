-- An update of four words that was worked out by hand, with the words of its board between its steps.
use Rattle.std.specs.Prelude.{ℕ, List, [], ◌∷◌, ◌++◌, codes}
use Rattle.board_cell_model.specs.declared.access.Access.TheVariants as access
use Rattle.board_model.specs.declared.answer.Reply.TheVariants as reply
use Rattle.board_model.specs.declared.line.Call.TheVariants as call
use Rattle.board_model.specs.declared.value.Value.TheVariants as value
use Rattle.board_model.specs.declared.value.ValueType.TheVariants as type
use Rattle.board_model.specs.LawfulSession.{Session}
use Rattle.board_model.specs.WorkedSessions.{accepted, last_step, listed, set_up, one_step}

-- the counter, a word that is not used, and the two copies of the value
abbrev pub cell : ℕ → List ℕ → List ℕ → List ℕ
cell generation first second = generation ∷ 0 ∷ first ++ second

-- the value before the update, which readers may copy until it ends
abbrev pub old_value : List ℕ
old_value = 1 ∷ 2 ∷ 3 ∷ 4 ∷ []

-- what stands after the first step of an update that writes a word a step
abbrev pub after_one_word : List ℕ
after_one_word = cell 1 old_value (5 ∷ 0 ∷ 0 ∷ 0 ∷ [])

-- what stands where its first step writes all of them, and the steps behind it change nothing
abbrev pub after_all_words : List ℕ
after_all_words = cell 1 old_value (5 ∷ 6 ∷ 7 ∷ 8 ∷ [])

-- an update with these words after its first step
abbrev pub updated : List ℕ → Session
updated words =
    set_up type.Q4 (value.Q4 1 2 3 4) ++ (
    accepted (codes "a") (call.Update (codes "m") (value.Q4 5 6 7 8))
    ∷ one_step (codes "a") (access.Write 1 6 5)
    ∷ listed 1 words
    ∷ one_step (codes "a") (access.Write 1 7 6)
    ∷ one_step (codes "a") (access.Write 1 8 7)
    ∷ one_step (codes "a") (access.Write 1 9 8)
    ∷ listed 1 (cell 1 old_value (5 ∷ 6 ∷ 7 ∷ 8 ∷ []))
    ∷ last_step (codes "a") (access.Write 1 0 2) reply.Done
    ∷ listed 1 (cell 2 old_value (5 ∷ 6 ∷ 7 ∷ 8 ∷ []))
    ∷ [])
