-- A reader of the ids that answers tell, from their bytes.
use Rattle.std.specs.Prelude.{ℕ, Bool, true, false, if◌then◌else◌, List, [], ◌∷◌, codes, Option, Some, None}
use Rattle.std.specs.Str.{bytes_eq}
use Rattle.script_grammar.specs.TokenReading.{◌>>=◌, read_number, split_tokens}

-- what stands behind the first word that is an equals sign, which is the one before the reply
abbrev pub behind_equals : List (List ℕ) → Option (List (List ℕ))
behind_equals [] = None
behind_equals (t ∷ ts) = if bytes_eq t (codes "=") then Some ts else behind_equals ts

-- the words of an answer's reply
abbrev pub reply_words : List ℕ → Option (List (List ℕ))
reply_words text = behind_equals (split_tokens text)

-- all words are numbers
abbrev pub numbers_in : List (List ℕ) → Option (List ℕ)
numbers_in [] = Some []
numbers_in (t ∷ ts) = read_number t >>= λ n. numbers_in ts >>= λ ns. Some (n ∷ ns)

-- the ids of a reply, `ids` and numbers or `none`
abbrev pub ids_in : List (List ℕ) → Option (List ℕ)
ids_in [] = None
ids_in (t ∷ ts) = if bytes_eq t (codes "ids") then numbers_in ts else Some []

-- the ids that the last step of a wait is told
abbrev pub told_ids : List ℕ → Option (List ℕ)
told_ids text = reply_words text >>= ids_in

-- the id of a reply, `id` and a number
abbrev pub id_in : List (List ℕ) → Option ℕ
id_in [] = None
id_in (t ∷ []) = None
id_in (t ∷ n ∷ ts) = read_number n

abbrev pub told_id : List ℕ → Option ℕ
told_id text = reply_words text >>= id_in

-- these, where they are told
abbrev pub ids_if : Bool → List ℕ → Option (List ℕ)
ids_if true ids = Some ids
ids_if false ids = None
