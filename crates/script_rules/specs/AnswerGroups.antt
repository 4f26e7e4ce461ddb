-- The tokens of an answer, in the groups in which it is judged.
use Rattle.std.specs.Prelude.{ℕ, Bool, true, false, ◌&&◌, ◌||◌, ◌==◌, if◌then◌else◌, List, [], ◌∷◌, codes, drop, length, take}
use Rattle.std.specs.List.{slice_split}
use Rattle.std.specs.Str.{bytes_eq}
use Rattle.board_model.specs.declared.line.Line.TheVariants as board_line
use Rattle.script_model.specs.declared.line.ScriptLine.{ScriptLine}
use Rattle.script_model.specs.declared.line.ScriptLine.TheVariants as line

-- the pieces between the spaces
abbrev pub tokens_of : List ℕ → List (List ℕ)
tokens_of text = slice_split (λ b. b == 32) text

-- the first token is this one
abbrev pub begins_with : List (List ℕ) → List ℕ → Bool
begins_with [] word = false
begins_with (t ∷ ts) word = bytes_eq t word

-- the tokens before the reply
abbrev pub before_reply : List (List ℕ) → List (List ℕ)
before_reply [] = []
before_reply (t ∷ ts) = if bytes_eq t (codes "=") then [] else t ∷ before_reply ts

-- the reply, with the token that begins it
abbrev pub from_reply : List (List ℕ) → List (List ℕ)
from_reply [] = []
from_reply (t ∷ ts) = if bytes_eq t (codes "=") then t ∷ ts else from_reply ts

-- a scan or swap: of what event and which word
abbrev pub takes_words : List (List ℕ) → Bool
takes_words ts = begins_with ts (codes "scan") || begins_with ts (codes "swap")

-- an access of which only the place is owed
abbrev pub finds_something : List (List ℕ) → Bool
finds_something ts = begins_with ts (codes "read") || (begins_with ts (codes "listener") || (begins_with ts (codes "signal") || begins_with ts (codes "pop")))

-- how many tokens of an access are owed; what a read, a look, a signal, a scan, a swap or a pop found comes behind them
abbrev pub owed_tokens : List (List ℕ) → ℕ
owed_tokens ts = if takes_words ts then 3 else if finds_something ts then 2 else length ts

-- the tokens of an answer, by what they speak of
pub record Groups : Type 0 where
  pub owed : List (List ℕ)
  pub word : List (List ℕ)
  pub event : List (List ℕ)
  pub reply : List (List ℕ)

-- an access: what is owed, then a word that was read, or what an event answered
abbrev pub access_groups : List (List ℕ) → List (List ℕ) → Groups
access_groups ts replied = record {
  owed = take (owed_tokens ts) ts;
  word = if begins_with ts (codes "read") then drop (owed_tokens ts) ts else [];
  event = if begins_with ts (codes "read") then [] else drop (owed_tokens ts) ts;
  reply = replied;
}

-- the answer to a step is an access with its reply, that to `words` lists words, and every other one is its form
abbrev pub groups_of : ScriptLine → List (List ℕ) → Groups
groups_of (line.Board (board_line.Step party)) ts = access_groups (before_reply ts) (from_reply ts)
groups_of (line.Board (board_line.Words board)) ts = record { owed = take 1 ts; word = drop 1 ts; event = []; reply = [] }
groups_of l ts = record { owed = ts; word = []; event = []; reply = [] }

-- a refusal with its reason
abbrev pub refusal_of : List (List ℕ) → List (List ℕ)
refusal_of ts = if begins_with ts (codes "refused") then ts else []

-- the same tokens
abbrev pub same_tokens : List (List ℕ) → List (List ℕ) → Bool
same_tokens [] [] = true
same_tokens [] (y ∷ ys) = false
same_tokens (x ∷ xs) [] = false
same_tokens (x ∷ xs) (y ∷ ys) = bytes_eq x y && same_tokens xs ys
