-- The bytes of the generated lines.
use Rattle.std.proofs.Common.{◌≡◌, ℕ, zero, suc, ◌*◌, ◌<◌, ◌≤◌, ◌^◌, Bool, true, false, cond, List, [], ◌∷◌, ◌++◌, length, map, arith, rules, refl, sym, ap, subst, ◌∙◌, append_assoc, lit<, None}
use Rattle.std.specs.Prelude.{◌==◌, ◌&&◌, codes, decimal, nat_le, not}
use Rattle.std.specs.List.{AllByRecursion, join_with_byte, list_all}
use Rattle.std.proofs.lemmas.Bool.{leb-true}
use Rattle.std.proofs.lemmas.Fmt.{decimal_digit, length-decimal-le}
use Rattle.std.proofs.lemmas.List.{length-append}
use Rattle.std.proofs.lemmas.List.Concat.{flat_map-cons}
use Rattle.board_model.specs.declared.line.Call.{Call}
use Rattle.board_model.specs.declared.line.Call.TheVariants as call
use Rattle.board_model.specs.declared.line.Line.{Line}
use Rattle.board_model.specs.declared.line.Line.TheVariants as line
use Rattle.board_model.specs.declared.value.Key.TheVariants as key
use Rattle.board_model.specs.declared.value.Value.TheVariants as value
use Rattle.board_model.specs.declared.value.ValueType.TheVariants as type
use Rattle.board_model.specs.LineGrammar.{IsCall, IsLine, call_tokens, is_name, is_name_byte, spell, tokens}
use Rattle.board_model.specs.Lines as text
use Rattle.board_model.specs.Lines.{IsOneLine}
use Rattle.script_model.specs.declared.line.ScriptLine.{ScriptLine}
use Rattle.script_model.specs.declared.line.ScriptLine.TheVariants as script_line
use Rattle.script_model.specs.ScriptGrammar.{SpellsLine}
use Rattle.script_model.specs.ScriptOutput.{SpellsAll}
use Rattle.script_model.specs.ScriptSession.{Session, asked_lines}
use Rattle.script_grammar.proofs.ReaderLemmas.{both}
use Rattle.script_grammar.proofs.SplitLemmas.{IsFree, free_append, free_joined, free_lacks, free_name, free_number, lacks}
use Rattle.board_model.proofs.ThingLemmas.{all_push}
use Rattle.script_loop.proofs.LineLemmas.{lines_more}
use Rattle.script_generator.specs.Counting.{SpellsCall, SpellsPlain, is_plain_call}
use Rattle.script_generator.specs.Generator.{asked_by, choice, create_board, drawn, generated, line_for, number_drawn, open_board, opening, reader_calls, writer_calls}
use Rattle.script_generator.specs.LawsOfGenerator.{GeneratedScriptsAreScripts, script_bytes}
use Rattle.script_generator.proofs.GeneratorEnds.{line_is_plain}

-- ---- tokens

-- a short token without a newline
record IsToken (t : List ℕ) : Type 0 where
  free : IsFree 10 t
  short : length t ≤ 100

abbrev AreTokens : List (List ℕ) → Type 0
AreTokens ts = AllByRecursion IsToken ts

word : (t : List ℕ) → lacks 10 t ≡ true → nat_le (length t) 100 ≡ true → IsToken t
word t h k = record { free = h; short = leb-true (length t) 100 k }

number : (k : ℕ) → k < 2 ^ 64 → IsToken (decimal k)
number k lt = record { free = free_number 10 refl k lt; short = let l = length-decimal-le 20 k (omega arith) (omega (arith, lt)) lt in omega (arith, l) }

numbered : (prefix : List ℕ) (k : ℕ) → lacks 10 prefix ≡ true → nat_le (length prefix) 10 ≡ true → k < 2 ^ 64 → IsToken (prefix ++ decimal k)
numbered prefix k h few lt = record {
  free = free_append 10 prefix (decimal k) h (free_number 10 refl k lt);
  short = let l = length-decimal-le 20 k (omega arith) (omega (arith, lt)) lt in omega (arith, length-append prefix (decimal k), leb-true (length prefix) 10 few, l);
}

four_length : (d : List ℕ) → length d ≤ 20 → length (join_with_byte 44 (d ∷ d ∷ d ∷ d ∷ [])) ≤ 90
four_length d l =
    let one = length-append d (44 ∷ d) in
    let two = length-append d (44 ∷ (d ++ 44 ∷ d)) in
    let three = length-append d (44 ∷ (d ++ 44 ∷ (d ++ 44 ∷ d))) in
    omega (arith, l, one, two, three)

four : (k : ℕ) → k < 2 ^ 64 → IsToken (codes "q4:" ++ join_with_byte 44 (decimal k ∷ decimal k ∷ decimal k ∷ decimal k ∷ []))
four k lt =
    let f = free_number 10 refl k lt in
    let d = decimal k in
    record {
      free = free_append 10 (codes "q4:") (join_with_byte 44 (d ∷ d ∷ d ∷ d ∷ [])) refl (free_joined 10 44 refl (d ∷ d ∷ d ∷ d ∷ []) (f, (f, (f, (f, tt)))));
      short = let l = four_length d (length-decimal-le 20 k (omega arith) (omega (arith, lt)) lt) in omega (arith, length-append (codes "q4:") (join_with_byte 44 (d ∷ d ∷ d ∷ d ∷ [])), l);
    }

-- ---- lines

-- a short line of the grammar without a newline
record IsSpelled (l : Line) : Type 0 where
  line : IsLine l
  each : AreTokens (tokens l)
  few : length (tokens l) ≤ 30

all_free : (ts : List (List ℕ)) → AreTokens ts → AllByRecursion (IsFree 10) ts
all_free [] h = tt
all_free (t ∷ ts) h = (h.0.free, all_free ts h.1)

joined_short : (ts : List (List ℕ)) → AreTokens ts → length (join_with_byte 32 ts) ≤ 101 * length ts
joined_short [] h = omega arith
joined_short (t ∷ []) h = omega (arith, h.0.short)
joined_short (t ∷ u ∷ us) h =
    omega (arith, length-append t (32 ∷ join_with_byte 32 (u ∷ us)), h.0.short, joined_short (u ∷ us) h.1)

one_line : (l : Line) → IsSpelled l → IsOneLine (spell l)
one_line l h = free_lacks 10 (spell l) (free_joined 10 32 refl (tokens l) (all_free (tokens l) h.each))

spells : (l : Line) → IsSpelled l → SpellsLine (spell l) (script_line.Board l)
spells l h = record { line = h.line; bytes = refl; short = omega (arith, joined_short (tokens l) h.each, h.few) }

-- the party's name is one, and a token
record IsParty (p : List ℕ) : Type 0 where
  name : is_name p ≡ true
  token : IsToken p

-- a call of the grammar with short tokens
record IsSpelledCall (c : Call) : Type 0 where
  formed : IsCall c
  each : AreTokens (call_tokens c)
  few : length (call_tokens c) ≤ 20

begins : (p : List ℕ) (c : Call) → IsParty p → IsSpelledCall c → IsSpelled (line.Begin p c)
begins p c h k = record {
  line = (h.name, k.formed);
  each = (word (codes "begin") refl refl, (h.token, k.each));
  few = omega (arith, k.few);
}

takes_step : (p : List ℕ) → IsParty p → IsSpelled (line.Step p)
takes_step p h = record {
  line = h.name;
  each = (word (codes "step") refl refl, (h.token, tt));
  few = omega arith;
}

w : IsParty (codes "w")
w = record { name = refl; token = word (codes "w") refl refl }

a : IsParty (codes "a")
a = record { name = refl; token = word (codes "a") refl refl }

b : IsParty (codes "b")
b = record { name = refl; token = word (codes "b") refl refl }

-- ---- the opening

key_0 : IsToken (codes "u64:" ++ decimal 0)
key_0 = numbered (codes "u64:") 0 refl refl (omega arith)

key_1 : IsToken (codes "u64:" ++ decimal 1)
key_1 = numbered (codes "u64:") 1 refl refl (omega arith)

creates : IsSpelledCall create_board
creates = record {
  formed = search rules;
  each = (word (codes "create") refl refl, (word (codes "f") refl refl, (word (codes "gen") refl refl, (word (codes "u64") refl refl, (word (codes "add") refl refl, (key_0, (key_0, (word (codes "add") refl refl, (key_1, (four 0 (omega arith), tt))))))))));
  few = omega arith;
}

opens : IsSpelledCall open_board
opens = record {
  formed = search rules;
  each = (word (codes "open") refl refl, (word (codes "f") refl refl, (word (codes "gen") refl refl, (word (codes "u64") refl refl, tt))));
  few = omega arith;
}

all_append : {X : Type 0} (P : X → Type 0) (xs ys : List X) → AllByRecursion P xs → AllByRecursion P ys → AllByRecursion P (xs ++ ys)
all_append P [] ys h k = k
all_append P (x ∷ xs) ys h k = (h.0, all_append P xs ys h.1 k)

asks : (p : List ℕ) (calls : List Call) → IsParty p → AllByRecursion IsSpelledCall calls → AllByRecursion IsSpelled (asked_by p calls)
asks p [] h k = tt
asks p (c ∷ calls) h k =
    subst (λ (ls : List Line). AllByRecursion IsSpelled ls) (sym (flat_map-cons (λ (x : Call). line.Begin p x ∷ line.Step p ∷ []) c calls))
    (begins p c h k.0, (takes_step p h, asks p calls h k.1))

by_writer : AllByRecursion IsSpelledCall writer_calls
by_writer = (
  creates,
  (
    record { formed = (refl, refl); each = (word (codes "writer") refl refl, (word (codes "p") refl refl, (word (codes "f") refl refl, tt))); few = omega arith },
    (
      record {
        formed = (refl, refl, omega arith);
        each = (word (codes "entrymut") refl refl, (word (codes "m0") refl refl, (word (codes "p") refl refl, (key_0, (word (codes "u64") refl refl, tt)))));
        few = omega arith;
      },
      (
        record {
          formed = (refl, refl, omega arith);
          each = (word (codes "entrymut") refl refl, (word (codes "m1") refl refl, (word (codes "p") refl refl, (key_1, (word (codes "q4") refl refl, tt)))));
          few = omega arith;
        },
        tt,
      ),
    ),
  ),
)

by_reader : AllByRecursion IsSpelledCall reader_calls
by_reader = (
  opens,
  (
    record { formed = (refl, refl); each = (word (codes "reader") refl refl, (word (codes "r") refl refl, (word (codes "f") refl refl, tt))); few = omega arith },
    (
      record {
        formed = (refl, refl, omega arith);
        each = (word (codes "entry") refl refl, (word (codes "h0") refl refl, (word (codes "r") refl refl, (key_0, (word (codes "u64") refl refl, tt)))));
        few = omega arith;
      },
      (
        record {
          formed = (refl, refl, omega arith);
          each = (word (codes "entry") refl refl, (word (codes "h1") refl refl, (word (codes "r") refl refl, (key_1, (word (codes "q4") refl refl, tt)))));
          few = omega arith;
        },
        tt,
      ),
    ),
  ),
)

opening_spelled : AllByRecursion IsSpelled opening
opening_spelled =
    all_append IsSpelled (asked_by (codes "w") writer_calls) (asked_by (codes "a") reader_calls ++ asked_by (codes "b") reader_calls) (asks (codes "w") writer_calls w by_writer)
    (all_append IsSpelled (asked_by (codes "a") reader_calls) (asked_by (codes "b") reader_calls) (asks (codes "a") reader_calls a by_reader) (asks (codes "b") reader_calls b by_reader))

-- ---- the bytes of the opening

joined : (p : List ℕ) (ts : List (List ℕ)) → 0 < length ts → codes "begin " ++ (p ++ (codes " " ++ join_with_byte 32 ts)) ≡ join_with_byte 32 (codes "begin" ∷ p ∷ ts)
joined p [] lt = absurd (omega arith)
joined p (t ∷ ts) lt = refl

-- a call with its bytes
asks_so : (p bytes : List ℕ) (c : Call) → IsParty p → IsSpelledCall c → is_plain_call c ≡ true → 0 < length (call_tokens c) → bytes ≡ join_with_byte 32 (call_tokens c) → SpellsCall p bytes c
asks_so p bytes c h k plain lt e =
    let same : codes "begin " ++ (p ++ (codes " " ++ bytes)) ≡ spell (line.Begin p c) = ap (λ (x : List ℕ). codes "begin " ++ (p ++ (codes " " ++ x))) e ∙ joined p (call_tokens c) lt in
    record {
      begin = record { spelled = subst (λ (x : List ℕ). SpellsLine x (script_line.Board (line.Begin p c))) (sym same) (spells (line.Begin p c) (begins p c h k)); plain = plain };
      step = record { spelled = spells (line.Step p) (takes_step p h); plain = refl };
    }

-- the digits that stand in the opening
with_digits : (f : List ℕ → List ℕ → List ℕ) → f (codes "0") (codes "1") ≡ f (decimal 0) (decimal 1)
with_digits f = ap (λ (x : List ℕ). f x (codes "1")) (sym (decimal_digit 0 (lit< tt))) ∙ ap (λ (x : List ℕ). f (decimal 0) x) (sym (decimal_digit 1 (lit< tt)))

pub asks_create : SpellsCall (codes "w") (codes "create f gen u64 add u64:0 u64:0 add u64:1 q4:0,0,0,0") create_board
asks_create =
    asks_so (codes "w") _ create_board w by_writer.0 refl (omega arith)
    (with_digits (λ (z o : List ℕ).
    join_with_byte 32 (codes "create" ∷ codes "f" ∷ codes "gen" ∷ codes "u64" ∷ codes "add" ∷ (codes "u64:" ++ z) ∷ (codes "u64:" ++ z) ∷ codes "add" ∷ (codes "u64:" ++ o)
    ∷ (codes "q4:" ++ join_with_byte 44 (z ∷ z ∷ z ∷ z ∷ [])) ∷ [])))

pub asks_writer : SpellsCall (codes "w") (codes "writer p f") (call.Writer (codes "p") (codes "f"))
asks_writer = asks_so (codes "w") _ (call.Writer (codes "p") (codes "f")) w by_writer.1.0 refl (omega arith) refl

pub asks_first_write : SpellsCall (codes "w") (codes "entrymut m0 p u64:0 u64") (call.EntryMut (codes "m0") (codes "p") (key.U64 0) type.U64)
asks_first_write =
    asks_so (codes "w") _ (call.EntryMut (codes "m0") (codes "p") (key.U64 0) type.U64) w by_writer.1.1.0 refl (omega arith)
    (with_digits (λ (z o : List ℕ). join_with_byte 32 (codes "entrymut" ∷ codes "m0" ∷ codes "p" ∷ (codes "u64:" ++ z) ∷ codes "u64" ∷ [])))

pub asks_second_write : SpellsCall (codes "w") (codes "entrymut m1 p u64:1 q4") (call.EntryMut (codes "m1") (codes "p") (key.U64 1) type.Q4)
asks_second_write =
    asks_so (codes "w") _ (call.EntryMut (codes "m1") (codes "p") (key.U64 1) type.Q4) w by_writer.1.1.1.0 refl (omega arith)
    (with_digits (λ (z o : List ℕ). join_with_byte 32 (codes "entrymut" ∷ codes "m1" ∷ codes "p" ∷ (codes "u64:" ++ o) ∷ codes "q4" ∷ [])))

-- a party of the grammar is one of its names
party : (p : List ℕ) → is_name p ≡ true → IsParty p
party p h =
    let sized = (both (not (length p == 0) && nat_le (length p) 16) (list_all is_name_byte p) h).0 in
    let few = leb-true (length p) 16 (both (not (length p == 0)) (nat_le (length p) 16) sized).1 in
    record { name = h; token = record { free = free_name 10 refl p h; short = omega (arith, few) } }

module _ (p : List ℕ) (h : is_name p ≡ true) where
  pub asks_open : SpellsCall p (codes "open f gen u64") open_board
  asks_open = asks_so p _ open_board (party p h) by_reader.0 refl (omega arith) refl

  pub asks_reader : SpellsCall p (codes "reader r f") (call.Reader (codes "r") (codes "f"))
  asks_reader = asks_so p _ (call.Reader (codes "r") (codes "f")) (party p h) by_reader.1.0 refl (omega arith) refl

  pub asks_first_read : SpellsCall p (codes "entry h0 r u64:0 u64") (call.Entry (codes "h0") (codes "r") (key.U64 0) type.U64)
  asks_first_read =
      asks_so p _ (call.Entry (codes "h0") (codes "r") (key.U64 0) type.U64) (party p h) by_reader.1.1.0 refl (omega arith)
      (with_digits (λ (z o : List ℕ). join_with_byte 32 (codes "entry" ∷ codes "h0" ∷ codes "r" ∷ (codes "u64:" ++ z) ∷ codes "u64" ∷ [])))

  pub asks_second_read : SpellsCall p (codes "entry h1 r u64:1 q4") (call.Entry (codes "h1") (codes "r") (key.U64 1) type.Q4)
  asks_second_read =
      asks_so p _ (call.Entry (codes "h1") (codes "r") (key.U64 1) type.Q4) (party p h) by_reader.1.1.1.0 refl (omega arith)
      (with_digits (λ (z o : List ℕ). join_with_byte 32 (codes "entry" ∷ codes "h1" ∷ codes "r" ∷ (codes "u64:" ++ o) ∷ codes "q4" ∷ [])))

-- ---- the lines that are drawn

either : (t : Bool) (x y : Line) → IsSpelled x → IsSpelled y → IsSpelled (cond t x y)
either true x y h k = h
either false x y h k = k

gets : (h : List ℕ) → is_name h ≡ true → IsToken h → IsSpelledCall (call.Get h None)
gets h e t = record { formed = (e, tt); each = (word (codes "get") refl refl, (t, tt)); few = omega arith }

updates_one : (k : ℕ) → k < 2 ^ 64 → IsSpelledCall (call.Update (codes "m0") (value.U64 k))
updates_one k lt = record {
  formed = (refl, lt);
  each = (word (codes "update") refl refl, (word (codes "m0") refl refl, (numbered (codes "u64:") k refl refl lt, tt)));
  few = omega arith;
}

updates_four : (k : ℕ) → k < 2 ^ 64 → IsSpelledCall (call.Update (codes "m1") (value.Q4 k k k k))
updates_four k lt = record {
  formed = (refl, (lt, lt, lt, lt));
  each = (word (codes "update") refl refl, (word (codes "m1") refl refl, (four k lt, tt)));
  few = omega arith;
}

line_spelled : (c k : ℕ) → k < 2 ^ 64 → IsSpelled (line_for c k)
line_spelled c k lt =
    let first = gets (codes "h0") refl (word (codes "h0") refl refl) in
    let second = gets (codes "h1") refl (word (codes "h1") refl refl) in
    either (c == 0) _ _ (begins _ _ w (updates_one k lt))
    (either (c == 1) _ _ (begins _ _ w (updates_four k lt))
    (either (c == 2) _ _ (begins _ _ a first)
    (either (c == 3) _ _ (begins _ _ a second)
    (either (c == 4) _ _ (begins _ _ b first)
    (either (c == 5) _ _ (begins _ _ b second)
    (either (nat_le c 9) _ _ (takes_step _ w)
    (either (nat_le c 12) _ _ (takes_step _ a) (takes_step _ b))))))))

pub spells_drawn : (c k : ℕ) (bytes : List ℕ) → k < 2 ^ 64 → bytes ≡ spell (line_for c k) → SpellsPlain bytes (line_for c k)
spells_drawn c k bytes lt e = record {
  spelled = subst (λ (x : List ℕ). SpellsLine x (script_line.Board (line_for c k))) (sym e) (spells (line_for c k) (line_spelled c k lt));
  plain = line_is_plain c k;
}

drawn_spelled : (n k : ℕ) → k ≤ 1000000 → AllByRecursion IsSpelled (drawn n k)
drawn_spelled n zero few = tt
drawn_spelled n (suc k) few =
    all_push IsSpelled (drawn n k) (line_for (choice (number_drawn n (suc k))) (suc k)) (drawn_spelled n k (omega (arith, few))) (line_spelled (choice (number_drawn n (suc k))) (suc k) (omega (arith, few)))

-- ---- the script

spells_lines : (ls : List Line) → AllByRecursion IsSpelled ls → (session : Session) → asked_lines session ≡ map script_line.Board ls → SpellsAll (text.lines_of (script_bytes ls)) session
spells_lines [] h [] e = tt
spells_lines [] h (p ∷ ps) e = absurd cc
spells_lines (l ∷ ls) h [] e = absurd cc
spells_lines (l ∷ ls) h (p ∷ ps) e =
    let same : p.0 ≡ script_line.Board l = cc e in
    let rest : asked_lines ps ≡ map script_line.Board ls = cc e in
    let bytes : script_bytes (l ∷ ls) ≡ spell l ++ 10 ∷ script_bytes ls =
    flat_map-cons (λ (x : Line). spell x ++ 10 ∷ []) l ls ∙ append_assoc (spell l) (10 ∷ []) (script_bytes ls) in
    let cut : text.lines_of (script_bytes (l ∷ ls)) ≡ spell l ∷ text.lines_of (script_bytes ls) =
    ap (λ (x : List ℕ). text.lines_of x) bytes ∙ lines_more (spell l) (script_bytes ls) (one_line l h.0) in
    subst (λ (xs : List (List ℕ)). SpellsAll xs (p ∷ ps)) (sym cut)
    (subst (λ (x : ScriptLine). SpellsLine (spell l) x) (sym same) (spells l h.0), spells_lines ls h.1 ps rest)

pub scripts_are_scripts : GeneratedScriptsAreScripts
scripts_are_scripts n session few e =
    spells_lines (generated n) (all_append IsSpelled opening (drawn n n) opening_spelled (drawn_spelled n n few)) session e
