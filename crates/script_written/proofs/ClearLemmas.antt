-- What a program that drives parties tells of lines and of its own is clear.
use Rattle.std.proofs.Common.{◌≡◌, ℕ, zero, suc, ◌+◌, Bool, true, false, eqb, List, [], ◌∷◌, ◌++◌, length, map, get_or, refl, sym, subst, Option, Some, None}
use Rattle.std.specs.Prelude.{◌==◌, if◌then◌else◌, codes, decimal, slice_index}
use Rattle.std.specs.List.{join_with_byte, slice_split, onto_first, AllByRecursion}
use Rattle.std.proofs.lemmas.List.Splits.{slice_split-cons_no, slice_split-cons_yes}
use Rattle.board_model.specs.AnswerGrammar.{number_text, reply_text, words_text}
use Rattle.board_model.specs.declared.answer.Reply.TheVariants as reply
use Rattle.board_model.specs.declared.value.ValueType.{ValueType}
use Rattle.board_model.specs.declared.value.ValueType.TheVariants as type
use Rattle.board_model.specs.LineGrammar.{is_name}
use Rattle.board_model.specs.Lines.{lines_of, whole_parts}
use Rattle.script_model.specs.declared.line.ScriptLine.{ScriptLine}
use Rattle.script_model.specs.LawsOfComposition.{state_met}
use Rattle.script_model.specs.ScriptAnswers.{ScriptAnswer}
use Rattle.script_model.specs.ScriptGrammar.{script_spell}
use Rattle.script_model.specs.ScriptSession.{IsLawful, IsRight, Session}
use Rattle.script_model.proofs.CompositionLemmas.{sound_at}
use Rattle.script_grammar.proofs.BoardAnswerLemmas.{flat_number}
use Rattle.script_grammar.proofs.ScriptAnswerLemmas.{right_is_one_line}
use Rattle.script_grammar.proofs.SplitLemmas.{IsFree, free_append, free_joined, free_lacks, free_name}
use Rattle.script_moments.specs.Moments.{Moment}
use Rattle.script_exchanges.specs.declared.line.Drive.{Drive}
use Rattle.script_exchanges.specs.declared.line.DriveLine.{DriveLine}
use Rattle.script_exchanges.specs.declared.line.DriveLine.TheVariants.{Script, Start, Turn}
use Rattle.script_exchanges.specs.DriveGrammar.{SpellsDrive}
use Rattle.script_exchanges.specs.DrivenParties.{party_text}
use Rattle.script_exchanges.specs.Exchanges.{Exchange, Exchanges, SpellsAll, Told, given, said}
use Rattle.script_snapshots.specs.Takings.{next_of}
use Rattle.script_written.specs.GivenLines.{AreClear, IsClear, is_given}

-- ---- the lines of an input hold no newline

abbrev pub AreFree : List (List ℕ) → Type 0
AreFree ts = AllByRecursion (IsFree 10) ts

abbrev is_newline : ℕ → Bool
is_newline b = eqb b 10

first_free : (x : ℕ) (parts : List (List ℕ)) → eqb x 10 ≡ false → AreFree parts → AreFree (onto_first x parts)
first_free x [] e h = (rw e refl, tt)
first_free x (t ∷ ts) e h = (rw (e, h.0) refl, h.1)

split_free : (bs : List ℕ) → AreFree (slice_split is_newline bs)
split_free [] = (refl, tt)
split_free (x ∷ xs) = at (eqb x 10) refl (split_free xs)
  where
    at : (b : Bool) → eqb x 10 ≡ b → AreFree (slice_split is_newline xs) → AreFree (slice_split is_newline (x ∷ xs))
    at true e h = subst AreFree (sym (slice_split-cons_yes is_newline x xs e)) (refl, h)
    at false e h = subst AreFree (sym (slice_split-cons_no is_newline x xs e)) (first_free x (slice_split is_newline xs) e h)

last_free : (x : List ℕ) (b : Bool) → IsFree 10 x → AreFree (if b then [] else x ∷ [])
last_free x true h = tt
last_free x false h = (h, tt)

whole_free : (parts : List (List ℕ)) → AreFree parts → AreFree (whole_parts parts)
whole_free [] h = tt
whole_free (x ∷ []) h = last_free x (length x == 0) h.0
whole_free (x ∷ y ∷ more) h = (h.0, whole_free (y ∷ more) h.1)

pub lines_free : (input : List ℕ) → AreFree (lines_of input)
lines_free input = whole_free (slice_split is_newline input) (split_free input)

-- the line of a plain script holds none
abbrev pub IsFreeLine : DriveLine → Type 0
IsFreeLine (Script l) = IsFree 10 (script_spell l)
IsFreeLine (Start party things) = Unit {0}
IsFreeLine (Turn party) = Unit {0}

line_free : (d : Drive) (bytes : List ℕ) (l : DriveLine) → IsFree 10 bytes → SpellsDrive d bytes l → IsFreeLine l
line_free d bytes (Script l) h s = subst (IsFree 10) s.bytes h
line_free d bytes (Start party things) h s = tt
line_free d bytes (Turn party) h s = tt

abbrev pub AreFreeLines : Exchanges → Type 0
AreFreeLines xs = AllByRecursion (λ (x : Exchange). IsFreeLine x.0) xs

all_free : (d : Drive) (lines : List (List ℕ)) (xs : Exchanges) → AreFree lines → SpellsAll d lines xs → AreFreeLines xs
all_free d [] [] h s = tt
all_free d (bytes ∷ more) (x ∷ xs) h s = (line_free d bytes x.0 h.0 s.0, all_free d more xs h.1 s.1)
all_free d [] (x ∷ xs) h s = absurd s
all_free d (bytes ∷ more) [] h s = absurd s

-- ---- what is said holds none

pub name_free : (n : List ℕ) → is_name n ≡ true → IsFree 10 n
name_free n h = free_name 10 refl n h

decimal_free : (n : ℕ) → IsFree 10 (decimal n)
decimal_free n = let h : IsFree 10 (32 ∷ decimal n) = flat_number n in h

decimals_free : (ns : List ℕ) → AreFree (map decimal ns)
decimals_free [] = tt
decimals_free (n ∷ ns) = (decimal_free n, decimals_free ns)

bool_free : (b : Bool) → IsFree 10 (codes "bool:" ++ (if b then codes "false" else codes "true"))
bool_free true = refl
bool_free false = refl

words_free : (t : ValueType) (ws : List ℕ) → IsFree 10 (words_text t ws)
words_free type.Bool ws = bool_free (slice_index ws 0 == 0)
words_free type.U64 ws = free_append 10 (codes "u64:") (join_with_byte 44 (map decimal ws)) refl (free_joined 10 44 refl (map decimal ws) (decimals_free ws))
words_free type.Q4 ws = free_append 10 (codes "q4:") (join_with_byte 44 (map decimal ws)) refl (free_joined 10 44 refl (map decimal ws) (decimals_free ws))

pub got_free : (t : ValueType) (ws : List ℕ) (g : ℕ) → IsFree 10 (reply_text (reply.Got t ws g))
got_free t ws g = free_append 10 (words_text t ws) (codes " gen" ++ number_text g) (words_free t ws) (free_append 10 (codes " gen") (number_text g) refl (flat_number g))

pub said_free : (word party : List ℕ) → IsFree 10 word → IsFree 10 party → IsFree 10 (party_text word party)
said_free word party h k = free_append 10 word (32 ∷ party) h k

-- the lines of an input, each as its exchange has it
pub input_free : (d : Drive) (input : List ℕ) (xs : Exchanges) → SpellsAll d (lines_of input) xs → AreFreeLines xs
input_free d input xs h = all_free d (lines_of input) xs (lines_free input) h

pub names_free : (ns : List (List ℕ)) → AllByRecursion (λ n. is_name n ≡ true) ns → AreFree ns
names_free [] h = tt
names_free (n ∷ ns) h = (name_free n h.0, names_free ns h.1)

-- a handle that isn't there has no bytes
pub index_free : (hs : List (List ℕ)) (n : ℕ) → AreFree hs → IsFree 10 (get_or hs n [])
index_free [] n h = refl
index_free (x ∷ xs) zero h = h.0
index_free (x ∷ xs) (suc n) h = index_free xs n h.1

-- the line that begins a get, or steps
pub next_free : (party handle : List ℕ) (o : Option (Moment × List Moment)) → IsFree 10 party → IsFree 10 handle → IsFree 10 (script_spell (next_of party handle o))
next_free party handle None p h = free_joined 10 32 refl (codes "begin" ∷ party ∷ codes "get" ∷ handle ∷ []) (refl, (p, (refl, (h, tt))))
next_free party handle (Some get) p h = free_joined 10 32 refl (codes "step" ∷ party ∷ []) (refl, (p, tt))

-- ---- what is told is clear

-- one line that is said
pub text_clear : (text : List ℕ) → IsFree 10 text → is_given text ≡ false → IsClear (said text)
text_clear text free other = (free_lacks 10 text free, other)

-- a word and a party, and nothing else
pub says_clear : (word party : List ℕ) (told : List Told) → IsFree 10 word → is_given (party_text word party) ≡ false → IsFree 10 party → told ≡ said (party_text word party) ∷ [] → AreClear told
says_clear word party told free other named e = subst AreClear (sym e) (text_clear (party_text word party) (said_free word party free named) other, tt)

-- a line that is given after a lawful session, with its right answer
pub pair_clear : (fed : Session) (l : ScriptLine) (a : ScriptAnswer) → IsLawful fed → IsFree 10 (script_spell l) → IsRight (state_met fed) l a → IsClear (given (l, a))
pair_clear fed l a lawful line right = (free_lacks 10 (script_spell l) line, right_is_one_line (state_met fed) l a (0 + length fed) (sound_at fed lawful) right)
