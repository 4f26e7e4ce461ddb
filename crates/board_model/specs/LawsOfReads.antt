-- Laws of what a get and a look have read.
use Rattle.std.specs.Prelude.{◌≡◌, ℕ, Bool, true, false, List, [], ◌∷◌, ◌++◌, length, Option, Some, is_some}
use Rattle.board_cell_model.specs.declared.access.Access.{Access}
use Rattle.board_model.specs.declared.answer.Answer.TheVariants as answer
use Rattle.board_model.specs.declared.answer.Reply.{Reply}
use Rattle.board_model.specs.declared.line.Line.TheVariants as line
use Rattle.board_cell_model.specs.OwedAccesses.{finished, owed_of}
use Rattle.board_model.specs.Requests.{Fetch, Request, fresh, get}
use Rattle.board_model.specs.Replies.{ask, latest}
use Rattle.board_model.specs.Memory.{IsStanding}
use Rattle.board_model.specs.Parties.{Running, is_done, owed, reading, reply_read, running}
use Rattle.board_model.specs.LawfulSession.{IsRight, State}
use Rattle.board_model.specs.Sound.{Sound}

-- a party's call takes the access that it owes, and a word that is read is the one that stands
pub record IsTaking (s : State) (party : List ℕ) (r : Running) (a : Access) : Type 0 where
  pub sound : Sound s
  pub runs : s.parties party ≡ running r
  pub next : owed_of a ≡ owed r.request r.so_far
  pub word : IsStanding s.memory a

-- the words of a get's last try are the last that were published, and its counter is how many there are
abbrev pub GetsReadTheLastValue : Type 0
GetsReadTheLastValue = (s : State) (party : List ℕ) (r : Running) (a : Access) (f : Fetch) (c : ℕ) (words : List ℕ)
    → IsTaking s party r a → r.request ≡ get f → reading f.shape.words (r.so_far ++ a ∷ []) ≡ finished c words
    → (words ≡ latest (s.published f.board f.entry)) × (c ≡ length (s.published f.board f.entry))

-- the reply that the words read give, of a get or a look, is that of the board asked one call at a time
abbrev pub ReadsAreReplies : Type 0
ReadsAreReplies = (s : State) (party : List ℕ) (r : Running) (a : Access) (t : Reply)
    → IsTaking s party r a → reply_read r.request (r.so_far ++ a ∷ []) ≡ Some t
    → t ≡ (ask s.standing s.published party r.request).reply

-- ---- the reply that is told

-- the calls whose reply comes from the words that they read
abbrev pub reads_words : Request → Bool
reads_words (get f) = true
reads_words (fresh l) = true
reads_words request = false

-- the words read give a reply exactly where they are all of the call's
abbrev pub RepliesComeWithTheLastWord : Type 0
RepliesComeWithTheLastWord = (request : Request) (so_far : List Access) → reads_words request ≡ true → is_some (reply_read request so_far) ≡ is_done request so_far

-- what a get or a look is told is what it has read
abbrev pub RepliesAreRead : Type 0
RepliesAreRead = (s : State) (party : List ℕ) (r : Running) (a : Access) (told : Option Reply)
    → Sound s → s.parties party ≡ running r → reads_words r.request ≡ true → IsRight s (line.Step party) (answer.Step a told)
    → told ≡ reply_read r.request (r.so_far ++ a ∷ [])
