-- What is looked at in answers.
use Rattle.std.proofs.Common.{◌≡◌, ℕ, zero, suc, ◌+◌, ◌-◌, ◌<◌, ◌≤◌, Bool, true, false, List, [], ◌∷◌, ◌++◌, length, take, drop, get_or, refl, sym, ap, subst, ◌∙◌, arith, append_assoc, eqb, All, Option, Some}
use Rattle.std.specs.Prelude.{codes, decimal, if◌then◌else◌, map, nat_eq, slice_index, ◌==◌}
use Rattle.std.specs.List.{AllByRecursion, starts_with}
use Rattle.std.proofs.lemmas.List.{length-append, take-append-le, take_all}
use Rattle.std.proofs.Math.Seq.{drop-append_seam}
use Rattle.std.proofs.lemmas.List.Elements.{recursion_from_All}
use Rattle.board_cell_model.specs.declared.access.Access.{Access}
use Rattle.board_cell_model.specs.declared.access.Access.TheVariants as access
use Rattle.board_event_model.specs.declared.access.EventAccess.{EventAccess}
use Rattle.board_event_model.specs.declared.access.EventAccess.TheVariants as event_access
use Rattle.board_event_model.specs.declared.access.EventAnswer.{EventAnswer}
use Rattle.board_event_model.specs.declared.kind.EventKind.{EventKind}
use Rattle.board_model.specs.declared.answer.Answer.TheVariants as answer
use Rattle.board_model.specs.declared.answer.Reply.{Reply}
use Rattle.board_model.specs.declared.answer.Reply.TheVariants as reply
use Rattle.board_model.specs.declared.value.ValueType.{ValueType}
use Rattle.board_model.specs.declared.value.ValueType.TheVariants as type
use Rattle.board_model.specs.AnswerGrammar.{IsAccess, access_text, place_text, reply_text, words_text}
use Rattle.board_model.specs.LineGrammar.{IsNumber}
use Rattle.script_model.specs.declared.reply.EventReply.{EventReply}
use Rattle.script_model.specs.ScriptAnswers.{ScriptAnswer, expired, is_refused, of_ask, of_boards, of_event, script_answer_line}
use Rattle.script_grammar.specs.TokenReading.{read_number}
use Rattle.script_grammar.proofs.NumeralLemmas.{number_again}
use Rattle.script_grammar.proofs.SplitLemmas.{IsFree, free_append, free_joined, free_lacks, free_number}
use Rattle.script_exchanges.specs.DrivenParties.{Got}
use Rattle.script_feed.specs.AnswerLooks.{EndsGet, GoesOnGet, lacks}

-- ---- refusals

event_refusal : (k : EventKind) (name : List ℕ) (x : EventAccess) (a : EventAnswer) (told : Option EventReply) → starts_with nat_eq (script_answer_line (of_event k name x a told)) (codes "refused ") ≡ false
event_refusal k name event_access.Listener a told = refl
event_refusal k name (event_access.Set id) a told = refl
event_refusal k name event_access.Post a told = refl
event_refusal k name (event_access.Push id) a told = refl
event_refusal k name event_access.Signal a told = refl
event_refusal k name (event_access.Scan w) a told = refl
event_refusal k name (event_access.Clear id) a told = refl
event_refusal k name (event_access.Swap w) a told = refl
event_refusal k name event_access.Pop a told = refl

step_refusal : (a : Access) (told : Option Reply) → starts_with nat_eq (script_answer_line (of_boards (answer.Step a told))) (codes "refused ") ≡ false
step_refusal access.Table told = refl
step_refusal (access.Read b i v) told = refl
step_refusal (access.Write b i v) told = refl

-- only the text of a refusal begins so
pub refusal_is : (a : ScriptAnswer) → starts_with nat_eq (script_answer_line a) (codes "refused ") ≡ is_refused a
refusal_is (of_boards answer.Begun) = refl
refusal_is (of_boards (answer.Refused why)) = refl
refusal_is (of_boards (answer.Step a told)) = step_refusal a told
refusal_is (of_boards answer.Gone) = refl
refusal_is (of_boards (answer.Words ws)) = refl
refusal_is (of_ask r) = refl
refusal_is (of_event k name x a told) = event_refusal k name x a told
refusal_is expired = refl

-- ---- the first place of a byte

bare : (c : ℕ) (text : List ℕ) → lacks c text ≡ true → AllByRecursion (λ b. eqb b c ≡ false) text
bare c text h = recursion_from_All (λ b. eqb b c ≡ false) text (free_lacks c text h)

-- where a byte stands behind a text that lacks it
first_place : (c : ℕ) (a b : List ℕ) (at : ℕ) → eqb c c ≡ true → AllByRecursion (λ x. eqb x c ≡ false) a → get_or (a ++ c ∷ b) at 0 ≡ c → AllByRecursion (λ x. eqb x c ≡ false) (take at (a ++ c ∷ b)) → at < length (a ++ c ∷ b) → at ≡ length a
first_place c [] b zero same apart found first lt = refl
first_place c [] b (suc at) same apart found first lt = absurd (let k = first.0 in cc)
first_place c (x ∷ a) b zero same apart found first lt = absurd (let k = apart.0 in let e : eqb x c ≡ true = ap (λ (y : ℕ). eqb y c) found ∙ same in cc)
first_place c (x ∷ a) b (suc at) same apart found first lt =
    let k = first_place c a b at same apart.1 found first.1 (omega arith) in omega arith

same_byte : (c : ℕ) → eqb c c ≡ true
same_byte c = grind arith

pub record IsPlace (c : ℕ) (text : List ℕ) (at : ℕ) : Type 0 where
  pub inside : at < length text
  pub found : get_or text at 0 ≡ c
  pub first : All (λ b. eqb b c ≡ false) (take at text)

pub place_is : (c : ℕ) (text a b : List ℕ) (at : ℕ) → lacks c a ≡ true → text ≡ a ++ c ∷ b → IsPlace c text at → at ≡ length a
place_is c text a b at h e p =
    first_place c a b at (same_byte c) (bare c a h) (ap (λ (t : List ℕ). get_or t at 0) (sym e) ∙ p.found) (subst (λ (t : List ℕ). AllByRecursion (λ x. eqb x c ≡ false) (take at t)) e (recursion_from_All (λ x. eqb x c ≡ false) (take at text) p.first)) (omega (arith, p.inside, ap (λ (t : List ℕ). length t) e))

-- no place in a text that lacks the byte
at_any : (c : ℕ) (text : List ℕ) (at : ℕ) → AllByRecursion (λ x. eqb x c ≡ false) text → at < length text → get_or text at 0 ≡ c → ⊥
at_any c [] at h lt e = omega arith
at_any c (x ∷ xs) zero h lt e = let k = h.0 in let f : eqb x c ≡ true = ap (λ (y : ℕ). eqb y c) e ∙ same_byte c in cc
at_any c (x ∷ xs) (suc at) h lt e = at_any c xs at h.1 (omega arith) e

pub no_place : (c : ℕ) (text : List ℕ) (at : ℕ) → lacks c text ≡ true → IsPlace c text at → ⊥
no_place c text at h p = at_any c text at (bare c text h) p.inside p.found

-- a byte that stands in a text is found
some_place : (c : ℕ) (a b : List ℕ) → AllByRecursion (λ x. eqb x c ≡ false) (a ++ c ∷ b) → ⊥
some_place c [] b h = let k = h.0 in let f = same_byte c in cc
some_place c (x ∷ a) b h = some_place c a b h.1

pub has_place : (c : ℕ) (text a b : List ℕ) → text ≡ a ++ c ∷ b → All (λ x. eqb x c ≡ false) text → ⊥
has_place c text a b e h = some_place c a b (subst (AllByRecursion (λ x. eqb x c ≡ false)) e (recursion_from_All (λ x. eqb x c ≡ false) text h))

-- ---- what stands behind it

skip_list : (a s : List ℕ) (c : ℕ) (b : List ℕ) → drop (length a + (length s + 1)) (a ++ c ∷ (s ++ b)) ≡ b
skip_list a s c b =
    let l : length a + (length s + 1) ≡ length (a ++ c ∷ s) = omega (arith, length-append a (c ∷ s)) in
    ap (λ (n : ℕ). drop n (a ++ c ∷ (s ++ b))) l ∙ ap (drop (length (a ++ c ∷ s))) (sym (append_assoc a (c ∷ s) b)) ∙ drop-append_seam (a ++ c ∷ s) b

pub behind_is : (c : ℕ) (text a s b : List ℕ) (at skipped : ℕ) → lacks c a ≡ true → length s + 1 ≡ skipped → text ≡ a ++ c ∷ (s ++ b) → IsPlace c text at → drop (at + skipped) text ≡ b
behind_is c text a s b at skipped h n e p =
    ap (λ (i : ℕ). drop (i + skipped) text) (place_is c text a (s ++ b) at h e p) ∙ ap (λ (i : ℕ). drop (length a + i) text) (sym n) ∙ ap (drop (length a + (length s + 1))) e ∙ skip_list a s c b

pub behind_fits : (c : ℕ) (text a s b : List ℕ) (at skipped : ℕ) → lacks c a ≡ true → length s + 1 ≡ skipped → text ≡ a ++ c ∷ (s ++ b) → IsPlace c text at → at + skipped ≤ length text
behind_fits c text a s b at skipped h n e p =
    omega (arith, place_is c text a (s ++ b) at h e p, n, ap (λ (t : List ℕ). length t) e, length-append a (c ∷ (s ++ b)), length-append s b)

pub last_is : (text a : List ℕ) (b : ℕ) → text ≡ a ++ b ∷ [] → take (length text - 1) text ≡ a
last_is text a b e =
    let l : length text - 1 ≡ length a = omega (arith, ap (λ (t : List ℕ). length t) e, length-append a (b ∷ [])) in
    ap (λ (n : ℕ). take n text) l ∙ ap (take (length a)) e ∙ take-append-le (length a) a (b ∷ []) (omega arith) ∙ take_all (length a) a (omega arith)

-- ---- the texts of a get

free_place : (b i v : ℕ) → IsNumber b → IsNumber i → IsNumber v → IsFree 61 (place_text b i v)
free_place b i v hb hi hv =
    free_append 61 (decimal b) (codes ":" ++ (decimal i ++ (codes " " ++ decimal v))) (free_number 61 refl b hb)
    (free_append 61 (decimal i) (codes " " ++ decimal v) (free_number 61 refl i hi) (free_number 61 refl v hv))

free_access : (a : Access) → IsAccess a → IsFree 61 (access_text a)
free_access access.Table h = refl
free_access (access.Read b i v) h = free_place b i v h.0 h.1 h.2
free_access (access.Write b i v) h = free_place b i v h.0 h.1 h.2

-- a step that goes on has no equals sign
pub going_lacks : (bytes : List ℕ) → GoesOnGet bytes → lacks 61 bytes ≡ true
going_lacks bytes g =
    subst (IsFree 61) (sym g.2) (free_append 61 (access_text g.0 ++ []) (10 ∷ []) (free_append 61 (access_text g.0) [] (free_access g.0 g.1.0) refl) refl)

-- before the reply
abbrev pub before_reply : Access → List ℕ
before_reply a = access_text a ++ codes " "

pub before_lacks : (a : Access) → IsAccess a → lacks 61 (before_reply a) ≡ true
before_lacks a h = free_append 61 (access_text a) (codes " ") (free_access a h) refl

abbrev pub told_of : Got → List ℕ
told_of x = reply_text (reply.Got x.type x.words x.generation)

pub ending_is : (bytes : List ℕ) (x : Got) (e : EndsGet bytes x) → bytes ≡ before_reply e.0 ++ 61 ∷ (codes " " ++ (told_of x ++ 10 ∷ []))
ending_is bytes x e =
    e.2 ∙ append_assoc (access_text e.0) (codes " = " ++ told_of x) (10 ∷ []) ∙ sym (append_assoc (access_text e.0) (codes " ") (61 ∷ (codes " " ++ (told_of x ++ 10 ∷ []))))

-- its words

free_decimals : (ws : List ℕ) → AllByRecursion IsNumber ws → AllByRecursion (IsFree 32) (map decimal ws)
free_decimals [] h = tt
free_decimals (w ∷ ws) h = (free_number 32 refl w h.0, free_decimals ws h.1)

free_bool : (b : Bool) → IsFree 32 (codes "bool:" ++ (if b then codes "false" else codes "true"))
free_bool true = refl
free_bool false = refl

pub words_lack : (t : ValueType) (ws : List ℕ) → AllByRecursion IsNumber ws → lacks 32 (words_text t ws) ≡ true
words_lack type.Bool ws h = free_bool (slice_index ws 0 == 0)
words_lack type.U64 ws h = free_joined 32 44 refl (map decimal ws) (free_decimals ws h)
words_lack type.Q4 ws h = free_joined 32 44 refl (map decimal ws) (free_decimals ws h)

pub told_is : (x : Got) → told_of x ≡ words_text x.type x.words ++ 32 ∷ (codes "gen " ++ decimal x.generation)
told_is x = refl

pub number_is : (g : ℕ) → IsNumber g → read_number (decimal g) ≡ Some g
number_is g h = number_again g h
