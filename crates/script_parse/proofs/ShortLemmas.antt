-- Lines that are read in short ways.
use Rattle.std.proofs.Common.{◌≡◌, ℕ, ◌+◌, ◌<◌, ◌≤◌, true, List, ◌∷◌, ◌++◌, length, take, drop, get_or, arith, Some, None, refl, sym, ap, ◌∙◌, eqb}
use Rattle.std.specs.Prelude.{◌&&◌, Bool, codes, nat_le, not}
use Rattle.std.specs.List.{list_all}
use Rattle.std.proofs.lemmas.Bool.{leb-true}
use Rattle.std.proofs.lemmas.List.{length-append}
use Rattle.board_event_model.specs.declared.call.WaitMode.{WaitMode}
use Rattle.board_model.specs.declared.line.Call.TheVariants as call
use Rattle.board_model.specs.declared.line.Line.TheVariants as board_line
use Rattle.board_model.specs.declared.value.Value.{Value}
use Rattle.board_model.specs.LineGrammar.{is_name, is_name_byte}
use Rattle.script_model.specs.declared.line.EventRequest.TheVariants as request
use Rattle.script_model.specs.declared.line.ScriptLine.TheVariants as line
use Rattle.script_model.specs.ScriptGrammar.{SpellsLine, count_text, mode_text}
use Rattle.script_grammar.specs.EventReading.{count_words, mode_words, read_count, read_mode}
use Rattle.script_grammar.specs.TokenReading.{behind, read_name, read_number, read_value}
use Rattle.script_grammar.proofs.NumeralLemmas.{number_takes}
use Rattle.script_grammar.proofs.ReaderLemmas.{beside_takes, both}
use Rattle.script_grammar.proofs.TokenLemmas.{behind_is, name_takes, value_takes}
use Rattle.script_parse.specs.Short.{IsCut}
use Rattle.script_parse.proofs.TokenLemmas.{parts_at}

name_short : (t : List ℕ) → is_name t ≡ true → length t ≤ 16
name_short t h = leb-true (length t) 16 (both (not (eqb (length t) 0)) (nat_le (length t) 16) (both (not (eqb (length t) 0) && nat_le (length t) 16) (list_all is_name_byte t) h).0).1

-- a name that is read behind `step`
pub step_spelled : (bytes rest party : List ℕ) → Some rest ≡ behind (codes "step ") bytes → Some party ≡ read_name rest → SpellsLine bytes (line.Board (board_line.Step party))
step_spelled bytes rest party cut read =
    let taken = name_takes rest party (sym read) in
    let whole : bytes ≡ codes "step " ++ party = behind_is (codes "step ") bytes rest (sym cut) ∙ ap (λ (end : List ℕ). codes "step " ++ end) taken.token in
    record {
      line = taken.named;
      bytes = whole;
      short = omega (arith, ap length whole, length-append (codes "step ") party, name_short party taken.named);
    }

-- what stands before a space and behind it
pub is_parted : (text front rest : List ℕ) (at : ℕ) → at < length text → get_or text at 0 ≡ 32 → front ≡ take at text → rest ≡ drop (at + 1) text → text ≡ front ++ 32 ∷ rest
is_parted text front rest at lt space first left =
    parts_at 32 text at lt space ∙ (ap (λ (x : List ℕ). x ++ 32 ∷ drop (at + 1) text) (sym first) ∙ ap (λ (x : List ℕ). front ++ 32 ∷ x) (sym left))

-- what stands before the first space behind `begin`, and behind it
pub is_cut : (bytes begun party asked : List ℕ) → Some begun ≡ behind (codes "begin ") bytes → begun ≡ party ++ 32 ∷ asked → IsCut bytes party asked
is_cut bytes begun party asked cut parts = behind_is (codes "begin ") bytes begun (sym cut) ∙ ap (λ (end : List ℕ). codes "begin " ++ end) parts

-- the party and the word of a line that is cut
of_party : (word bytes front party asked text : List ℕ) → IsCut bytes front asked → Some text ≡ behind word asked → front ≡ party → bytes ≡ codes "begin " ++ (party ++ 32 ∷ (word ++ text))
of_party word bytes front party asked text cut found is =
    cut ∙ (ap (λ (x : List ℕ). codes "begin " ++ (x ++ 32 ∷ asked)) is ∙ ap (λ (x : List ℕ). codes "begin " ++ (party ++ 32 ∷ x)) (behind_is word asked text (sym found)))

-- what stands behind a name
named : (text name rest found : List ℕ) → text ≡ name ++ 32 ∷ rest → name ≡ found → text ≡ found ++ 32 ∷ rest
named text name rest found parts is = parts ∙ ap (λ (x : List ℕ). x ++ 32 ∷ rest) is

-- one name behind `get`
pub get_spelled : (bytes front asked text party handle : List ℕ) → IsCut bytes front asked → length bytes ≤ 4096 → Some text ≡ behind (codes "get ") asked → Some party ≡ read_name front → Some handle ≡ read_name text
    → SpellsLine bytes (line.Board (board_line.Begin party (call.Get handle None)))
get_spelled bytes front asked text party handle cut short found read read_handle =
    let p = name_takes front party (sym read) in
    let h = name_takes text handle (sym read_handle) in
    record {
      line = (p.named, (h.named, tt));
      bytes = of_party (codes "get ") bytes front party asked text cut found p.token ∙ ap (λ (end : List ℕ). codes "begin " ++ (party ++ 32 ∷ (codes "get " ++ end))) h.token;
      short = short;
    }

-- a name and a value behind `update`
pub update_spelled : (bytes front asked text party name rest handle : List ℕ) (value : Value) → IsCut bytes front asked → length bytes ≤ 4096 → Some text ≡ behind (codes "update ") asked → Some party ≡ read_name front
    → text ≡ name ++ 32 ∷ rest → Some handle ≡ read_name name → Some value ≡ read_value rest → SpellsLine bytes (line.Board (board_line.Begin party (call.Update handle value)))
update_spelled bytes front asked text party name rest handle value cut short found read parts read_handle read_rest =
    let p = name_takes front party (sym read) in
    let h = name_takes name handle (sym read_handle) in
    let v = value_takes rest value (sym read_rest) in
    record {
      line = (p.named, (h.named, v.is));
      bytes = of_party (codes "update ") bytes front party asked text cut found p.token
          ∙ ap (λ (end : List ℕ). codes "begin " ++ (party ++ 32 ∷ (codes "update " ++ end))) (named text name rest handle parts h.token ∙ ap (λ (x : List ℕ). handle ++ 32 ∷ x) v.token);
      short = short;
    }

-- a name and a number behind `notify`
pub notify_spelled : (bytes front asked text party name rest notifier : List ℕ) (id : ℕ) → IsCut bytes front asked → length bytes ≤ 4096 → Some text ≡ behind (codes "notify ") asked → Some party ≡ read_name front
    → text ≡ name ++ 32 ∷ rest → Some notifier ≡ read_name name → Some id ≡ read_number rest → SpellsLine bytes (line.Event party (request.Notify notifier id))
notify_spelled bytes front asked text party name rest notifier id cut short found read parts read_notifier read_rest =
    let p = name_takes front party (sym read) in
    let h = name_takes name notifier (sym read_notifier) in
    let n = number_takes rest id (sym read_rest) in
    record {
      line = (p.named, (h.named, n.1));
      bytes = of_party (codes "notify ") bytes front party asked text cut found p.token
          ∙ ap (λ (end : List ℕ). codes "begin " ++ (party ++ 32 ∷ (codes "notify " ++ end))) (named text name rest notifier parts h.token ∙ ap (λ (x : List ℕ). notifier ++ 32 ∷ x) n.0);
      short = short;
    }

mode_takes : (t : List ℕ) (m : WaitMode) → read_mode t ≡ Some m → t ≡ mode_text m
unfolding read_mode
mode_takes t m e = beside_takes mode_text mode_words t m e (refl, (refl, (refl, tt)))

count_takes : (t : List ℕ) (many : Bool) → read_count t ≡ Some many → t ≡ count_text many
unfolding read_count
count_takes t many e = beside_takes count_text count_words t many e (refl, (refl, tt))

-- for what a wait is, and how long
wait_text : (rest count how : List ℕ) (many : Bool) (m : WaitMode) → rest ≡ count ++ 32 ∷ how → Some many ≡ read_count count → Some m ≡ read_mode how → rest ≡ count_text many ++ 32 ∷ mode_text m
wait_text rest count how many m parts read read_how =
    named rest count how (count_text many) parts (count_takes count many (sym read)) ∙ ap (λ (x : List ℕ). count_text many ++ 32 ∷ x) (mode_takes how m (sym read_how))

-- a name behind `wait`, for what it is, and how long
pub wait_spelled : (bytes front asked text party name rest listener count how : List ℕ) (many : Bool) (m : WaitMode) → IsCut bytes front asked → length bytes ≤ 4096 → Some text ≡ behind (codes "wait ") asked → Some party ≡ read_name front
    → text ≡ name ++ 32 ∷ rest → Some listener ≡ read_name name → rest ≡ count ++ 32 ∷ how → Some many ≡ read_count count → Some m ≡ read_mode how → SpellsLine bytes (line.Event party (request.Wait listener many m))
wait_spelled bytes front asked text party name rest listener count how many m cut short found read parts read_listener parts_rest read_count read_how =
    let p = name_takes front party (sym read) in
    let h = name_takes name listener (sym read_listener) in
    record {
      line = (p.named, h.named);
      bytes = of_party (codes "wait ") bytes front party asked text cut found p.token
          ∙ ap (λ (end : List ℕ). codes "begin " ++ (party ++ 32 ∷ (codes "wait " ++ end)))
          (named text name rest listener parts h.token ∙ ap (λ (x : List ℕ). listener ++ 32 ∷ x) (wait_text rest count how many m parts_rest read_count read_how));
      short = short;
    }
