-- Lines with their answers that were judged by hand.
use Rattle.std.specs.Prelude.{ℕ, false, List, [], ◌∷◌, ◌++◌, codes}
use Rattle.board_cell_model.specs.declared.access.Access.TheVariants as access
use Rattle.board_event_model.specs.declared.call.WaitMode.TheVariants as mode
use Rattle.board_model.specs.declared.answer.Reply.TheVariants as reply
use Rattle.board_model.specs.declared.line.Call.{Call}
use Rattle.board_model.specs.declared.line.Call.TheVariants as call
use Rattle.board_model.specs.declared.value.Key.TheVariants as key
use Rattle.board_model.specs.declared.value.KeyType.TheVariants as key_type
use Rattle.board_model.specs.declared.value.Value.TheVariants as value
use Rattle.board_model.specs.declared.value.ValueType.TheVariants as type
use Rattle.board_model.specs.WorkedSessions as boards
use Rattle.script_model.specs.declared.line.EventRequest.TheVariants as request
use Rattle.script_model.specs.declared.reply.EventReply.TheVariants as event_reply
use Rattle.script_model.specs.LawsOfComposition.{of_pair}
use Rattle.script_model.specs.ScriptSession.{Session}
use Rattle.script_model.specs.WorkedScripts.{asks, told}
use Rattle.script_rules.specs.declared.rule.Rule.TheVariants as rule
use Rattle.script_rules.specs.SessionPairs.{AreLawful, BreaksAt}

-- a party begins to make a board of one number
abbrev pub a_board_begins : List (List ℕ)
a_board_begins = codes "begin a create f b u64 add u64:1 u64:7" ∷ codes "ok" ∷ []

-- and has made it
abbrev pub a_board : List (List ℕ)
a_board = a_board_begins ++ codes "step a" ∷ codes "table = ok 1" ∷ []

-- it takes a writer and a write handle, and begins an update
abbrev pub an_update_begins : List (List ℕ)
an_update_begins =
    a_board ++ (
    codes "begin a writer w f" ∷ codes "ok"
    ∷ codes "step a" ∷ codes "table = ok 1"
    ∷ codes "begin a entrymut m w u64:1 u64" ∷ codes "ok"
    ∷ codes "step a" ∷ codes "table = ok 0"
    ∷ codes "begin a update m u64:9" ∷ codes "ok"
    ∷ [])

-- a party listens on a queue, and begins a wait
abbrev pub a_wait_begins : List (List ℕ)
a_wait_begins =
    codes "begin a listen e queue q" ∷ codes "ok"
    ∷ codes "step a" ∷ codes "table = ok"
    ∷ codes "begin a wait e one try" ∷ codes "ok"
    ∷ []

-- ---- the same lines and answers, as sessions

-- the board
abbrev pub new_board : Call
new_board = call.Create (codes "f") (codes "b") key_type.U64 boards.unlimited [] (boards.added (key.U64 1) (value.U64 7) ∷ [])

-- the handle of its entry
abbrev pub new_handle : Call
new_handle = call.EntryMut (codes "m") (codes "w") (key.U64 1) type.U64

-- the update of it
abbrev pub new_update : Call
new_update = call.Update (codes "m") (value.U64 9)

-- of `a_board_begins`
abbrev pub board_begun : Session
board_begun = of_pair (boards.accepted (codes "a") new_board) ∷ []

-- of `a_board`
abbrev pub board_made : Session
board_made = board_begun ++ of_pair (boards.last_step (codes "a") access.Table (reply.Number 1)) ∷ []

-- of `an_update_begins`
abbrev pub update_begun : Session
update_begun =
    board_made ++ (
    of_pair (boards.accepted (codes "a") (call.Writer (codes "w") (codes "f")))
    ∷ of_pair (boards.last_step (codes "a") access.Table (reply.Number 1))
    ∷ of_pair (boards.accepted (codes "a") new_handle)
    ∷ of_pair (boards.last_step (codes "a") access.Table (reply.Number 0))
    ∷ of_pair (boards.accepted (codes "a") new_update)
    ∷ [])

-- of `a_wait_begins`
abbrev pub wait_begun : Session
wait_begun =
    asks (codes "a") (request.ListenQueue (codes "e") (codes "q"))
    ∷ told (codes "a") event_reply.Done
    ∷ asks (codes "a") (request.Wait (codes "e") false mode.Try)
    ∷ []

-- what a judge says of these lines
pub record WorkedPairs : Type 0 where
  pub empty : AreLawful [] 0
  pub gone : AreLawful (codes "abandon a" ∷ codes "gone" ∷ []) 1
  pub reason : BreaksAt (codes "abandon a" ∷ codes "gone" ∷ codes "step a" ∷ codes "refused idle" ∷ []) 2 rule.Reason
  pub answer : BreaksAt (codes "abandon a" ∷ []) 1 rule.Answer
  pub line : BreaksAt (codes "abandon" ∷ codes "gone" ∷ []) 1 rule.Line
  pub reply : BreaksAt (a_board_begins ++ codes "step a" ∷ codes "table = ok 2" ∷ []) 2 rule.Reply
  pub word : BreaksAt (a_board ++ codes "words 1" ∷ codes "words 1 0 8 0" ∷ []) 3 rule.Word
  pub owed : BreaksAt (an_update_begins ++ codes "step a" ∷ codes "write 1:2 9" ∷ []) 8 rule.Owed
  pub event : BreaksAt (a_wait_begins ++ codes "step a" ∷ codes "pop queue:q 5 = id 5" ∷ []) 4 rule.Event
