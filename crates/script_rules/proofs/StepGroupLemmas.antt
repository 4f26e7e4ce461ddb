-- The groups of an answer to a step.
use Rattle.std.proofs.Common.{◌≡◌, ℕ, Bool, true, false, List, [], ◌∷◌, ◌++◌, refl, sym, ap, subst, ◌∙◌, Option, Some, None, append_assoc}
use Rattle.std.specs.Prelude.{codes, decimal, if◌then◌else◌, not, ◌==◌}
use Rattle.std.specs.List.{AllByRecursion, join_with_byte}
use Rattle.std.specs.Str.{bytes_eq}
use Rattle.std.proofs.lemmas.List.{append-nil}
use Rattle.std.proofs.lemmas.List.Splits.{slice_split_at, slice_split_none}
use Rattle.board_cell_model.specs.declared.access.Access.{Access}
use Rattle.board_cell_model.specs.declared.access.Access.TheVariants as access
use Rattle.board_event_model.specs.declared.access.EventAccess.{EventAccess}
use Rattle.board_event_model.specs.declared.access.EventAccess.TheVariants as event_access
use Rattle.board_event_model.specs.declared.access.EventAnswer.{EventAnswer}
use Rattle.board_event_model.specs.declared.access.EventAnswer.TheVariants as event_answer
use Rattle.board_event_model.specs.declared.kind.EventKind.{EventKind}
use Rattle.board_event_model.specs.declared.kind.EventKind.TheVariants as kind
use Rattle.board_model.specs.declared.line.Line.TheVariants as board_line
use Rattle.board_model.specs.AnswerGrammar.{IsAccess, access_text}
use Rattle.board_model.specs.LineGrammar.{IsNumber}
use Rattle.board_model.proofs.ListLemmas.{same_bytes}
use Rattle.script_model.specs.declared.line.ScriptLine.TheVariants as line
use Rattle.script_model.specs.ScriptGrammar.{is_event_name}
use Rattle.script_model.specs.ScriptAnswers.{IsAnswerTo, IsFormedAccess, PrintsNumbers, event_access_text, event_text}
use Rattle.script_grammar.proofs.SplitLemmas.{IsFree, Lacks, free_append, free_event_name, free_lacks, free_number}
use Rattle.script_rules.specs.declared.rule.Rule.TheVariants as rule
use Rattle.script_rules.specs.PrintedAnswers as printed
use Rattle.script_rules.specs.PrintedAnswers.{IsStepAccess, StepAccess, StepReply, a_step, printed_text, step_access_text, step_reply_text, step_told_text}
use Rattle.script_rules.specs.AnswerGroups.{Groups, access_groups, before_reply, from_reply, groups_of, refusal_of, same_tokens, tokens_of}
use Rattle.script_rules.specs.BrokenRules.{first_group}
use Rattle.script_rules.specs.StepGroups.{StepsAreGrouped, event_found, owed_event, place_token, reply_tokens, step_groups, yes_token}

-- ---- tokens

-- a token: no space is in it, and it isn't the one that begins a reply
pub record IsPlain (t : List ℕ) : Type 0 where
  pub lacks : Lacks 32 t
  pub other : bytes_eq t (codes "=") ≡ false

is_not : (b : Bool) → (b ≡ true → ⊥) → b ≡ false
is_not true f = absurd (f refl)
is_not false f = refl

plain_free : (t : List ℕ) → IsFree 32 t → IsFree 61 t → IsPlain t
plain_free t h k = record {
  lacks = free_lacks 32 t h;
  other = is_not (bytes_eq t (codes "=")) (λ e.
      let q : t ≡ codes "=" = same_bytes t (codes "=") e in
      let f : IsFree 61 (codes "=") = subst (IsFree 61) q k in
      cc);
}

plain_number : (n : ℕ) → IsNumber n → IsPlain (decimal n)
plain_number n h = plain_free (decimal n) (free_number 32 refl n h) (free_number 61 refl n h)

one_token : (t : List ℕ) (told : Option StepReply) → IsPlain t → tokens_of (t ++ step_told_text told) ≡ t ∷ reply_tokens told
one_token t None p = ap tokens_of (append-nil t) ∙ slice_split_none (λ b. b == 32) t p.lacks
one_token t (Some r) p = slice_split_at (λ b. b == 32) t 32 (61 ∷ 32 ∷ step_reply_text r) p.lacks refl

all_tokens : (t : List ℕ) (ts : List (List ℕ)) (told : Option StepReply) → AllByRecursion IsPlain (t ∷ ts) → tokens_of (join_with_byte 32 (t ∷ ts) ++ step_told_text told) ≡ (t ∷ ts) ++ reply_tokens told
all_tokens t [] told p = one_token t told p.0
all_tokens t (u ∷ us) told p =
    ap tokens_of (append_assoc t (32 ∷ join_with_byte 32 (u ∷ us)) (step_told_text told))
    ∙ slice_split_at (λ b. b == 32) t 32 (join_with_byte 32 (u ∷ us) ++ step_told_text told) p.0.lacks refl
    ∙ ap (λ (xs : List (List ℕ)). t ∷ xs) (all_tokens u us told p.1)

-- ---- the reply is cut off

before_is : (ts : List (List ℕ)) (told : Option StepReply) → AllByRecursion IsPlain ts → before_reply (ts ++ reply_tokens told) ≡ ts
before_is [] None p = refl
before_is [] (Some r) p = refl
before_is (t ∷ ts) told p = ap (λ (b : Bool). if b then [] else t ∷ before_reply (ts ++ reply_tokens told)) p.0.other ∙ ap (λ (xs : List (List ℕ)). t ∷ xs) (before_is ts told p.1)

from_is : (ts : List (List ℕ)) (told : Option StepReply) → AllByRecursion IsPlain ts → from_reply (ts ++ reply_tokens told) ≡ reply_tokens told
from_is [] None p = refl
from_is [] (Some r) p = refl
from_is (t ∷ ts) told p = ap (λ (b : Bool). if b then t ∷ (ts ++ reply_tokens told) else from_reply (ts ++ reply_tokens told)) p.0.other ∙ from_is ts told p.1

-- the text of an answer to a step, by its groups: it refuses nothing
pub record IsGroupedAs (party text : List ℕ) (g : Groups) : Type 0 where
  pub groups : groups_of (line.Board (board_line.Step party)) (tokens_of text) ≡ g
  pub refusal : refusal_of (tokens_of text) ≡ []

-- the groups of an access with its reply
pub grouped : (party : List ℕ) (text t : List ℕ) (ts : List (List ℕ)) (told : Option StepReply) → text ≡ join_with_byte 32 (t ∷ ts) ++ step_told_text told → AllByRecursion IsPlain (t ∷ ts) → bytes_eq t (codes "refused") ≡ false
    → IsGroupedAs party text (access_groups (t ∷ ts) (reply_tokens told))
grouped party text t ts told e p r =
    let k : tokens_of text ≡ (t ∷ ts) ++ reply_tokens told = ap tokens_of e ∙ all_tokens t ts told p in
    record {
      groups = ap (λ (xs : List (List ℕ)). access_groups (before_reply xs) (from_reply xs)) k
          ∙ ap (λ (xs : List (List ℕ)). access_groups xs (from_reply ((t ∷ ts) ++ reply_tokens told))) (before_is (t ∷ ts) told p)
          ∙ ap (access_groups (t ∷ ts)) (from_is (t ∷ ts) told p);
      refusal = ap refusal_of k ∙ ap (λ (b : Bool). if b then (t ∷ ts) ++ reply_tokens told else []) r;
    }

-- ---- accesses to boards

plain_place : (b w : ℕ) → IsNumber b → IsNumber w → IsPlain (place_token b w)
plain_place b w h k = plain_free (place_token b w)
    (free_append 32 (decimal b) (58 ∷ decimal w) (free_number 32 refl b h) (free_number 32 refl w k))
    (free_append 61 (decimal b) (58 ∷ decimal w) (free_number 61 refl b h) (free_number 61 refl w k))

plain_word : (t : List ℕ) → Lacks 32 t → bytes_eq t (codes "=") ≡ false → IsPlain t
plain_word t h k = record { lacks = h; other = k }

-- a word of the format
plain_literal : (t : List ℕ) → IsFree 32 t → bytes_eq t (codes "=") ≡ false → IsPlain t
plain_literal t h k = plain_word t (free_lacks 32 t h) k

board_step : (party : List ℕ) (a : Access) (told : Option StepReply) → IsAccess a → IsGroupedAs party (access_text a ++ step_told_text told) (step_groups (printed.board_access a) told)
board_step party access.Table told h = grouped party _ (codes "table") [] told refl (plain_literal (codes "table") refl refl, tt) refl
board_step party (access.Read b w v) told h =
    grouped party _ (codes "read") (place_token b w ∷ decimal v ∷ []) told
    (ap (λ (t : List ℕ). (codes "read " ++ t) ++ step_told_text told) (sym (append_assoc (decimal b) (58 ∷ decimal w) (32 ∷ decimal v))))
    (plain_literal (codes "read") refl refl, (plain_place b w h.0 h.1, (plain_number v h.2, tt))) refl
board_step party (access.Write b w v) told h =
    grouped party _ (codes "write") (place_token b w ∷ decimal v ∷ []) told
    (ap (λ (t : List ℕ). (codes "write " ++ t) ++ step_told_text told) (sym (append_assoc (decimal b) (58 ∷ decimal w) (32 ∷ decimal v))))
    (plain_literal (codes "write") refl refl, (plain_place b w h.0 h.1, (plain_number v h.2, tt))) refl

-- ---- accesses to events

plain_event : (k : EventKind) (name : List ℕ) → is_event_name name ≡ true → IsPlain (event_text k name)
plain_event kind.Bits name h = plain_word (event_text kind.Bits name) (free_lacks 32 (event_text kind.Bits name) (free_event_name 32 refl name h)) refl
plain_event kind.Queue name h = plain_word (event_text kind.Queue name) (free_lacks 32 (event_text kind.Queue name) (free_event_name 32 refl name h)) refl

plain_found : (a : EventAccess) (b : EventAnswer) → IsAnswerTo a b → AllByRecursion IsPlain (event_found a b)
plain_found event_access.Listener event_answer.Yes h = (plain_literal (codes "yes") refl refl, tt)
plain_found event_access.Listener b h = (no_plain b, tt)
  where
    no_plain : (b : EventAnswer) → IsPlain (yes_token b)
    no_plain event_answer.Yes = plain_literal (codes "yes") refl refl
    no_plain b = plain_literal (codes "no") refl refl
plain_found event_access.Signal b h = (no_plain b, tt)
  where
    no_plain : (b : EventAnswer) → IsPlain (yes_token b)
    no_plain event_answer.Yes = plain_literal (codes "yes") refl refl
    no_plain b = plain_literal (codes "no") refl refl
plain_found (event_access.Set id) b h = tt
plain_found event_access.Post b h = tt
plain_found (event_access.Push id) b h = tt
plain_found (event_access.Clear id) b h = tt
plain_found (event_access.Scan word) (event_answer.Word v) h = (plain_number v h, tt)
plain_found (event_access.Scan word) b h = absurd h
plain_found (event_access.Swap word) (event_answer.Word v) h = (plain_number v h, tt)
plain_found (event_access.Swap word) b h = absurd h
plain_found event_access.Pop (event_answer.Id id) h = (plain_number id h, tt)
plain_found event_access.Pop event_answer.Empty h = (plain_literal (codes "none") refl refl, tt)
plain_found event_access.Pop b h = absurd h

plain_owed : (e : List ℕ) (a : EventAccess) → IsPlain e → PrintsNumbers a → AllByRecursion IsPlain (owed_event e a)
plain_owed e event_access.Listener p h = (plain_literal (codes "listener") refl refl, (p, tt))
plain_owed e (event_access.Set id) p h = (plain_literal (codes "set") refl refl, (p, (plain_number id h, tt)))
plain_owed e event_access.Post p h = (plain_literal (codes "post") refl refl, (p, tt))
plain_owed e (event_access.Push id) p h = (plain_literal (codes "push") refl refl, (p, tt))
plain_owed e event_access.Signal p h = (plain_literal (codes "signal") refl refl, (p, tt))
plain_owed e (event_access.Scan word) p h = (plain_literal (codes "scan") refl refl, (p, (plain_number word h, tt)))
plain_owed e (event_access.Clear id) p h = (plain_literal (codes "clear") refl refl, (p, (plain_number id h, tt)))
plain_owed e (event_access.Swap word) p h = (plain_literal (codes "swap") refl refl, (p, (plain_number word h, tt)))
plain_owed e event_access.Pop p h = (plain_literal (codes "pop") refl refl, (p, tt))

all_both : (xs ys : List (List ℕ)) → AllByRecursion IsPlain xs → AllByRecursion IsPlain ys → AllByRecursion IsPlain (xs ++ ys)
all_both [] ys h k = k
all_both (x ∷ xs) ys h k = (h.0, all_both xs ys h.1 k)

-- the tokens of an access, joined
event_joined : (k : EventKind) (name : List ℕ) (a : EventAccess) (b : EventAnswer) → event_access_text k name a b ≡ join_with_byte 32 (owed_event (event_text k name) a ++ event_found a b)
event_joined k name event_access.Listener event_answer.Yes = refl
event_joined k name event_access.Listener b = refl
event_joined k name (event_access.Set id) b = refl
event_joined k name event_access.Post b = refl
event_joined k name (event_access.Push id) b = refl
event_joined k name event_access.Signal event_answer.Yes = refl
event_joined k name event_access.Signal b = refl
event_joined k name (event_access.Scan word) b = refl
event_joined k name (event_access.Clear id) b = refl
event_joined k name (event_access.Swap word) b = refl
event_joined k name event_access.Pop (event_answer.Id id) = refl
event_joined k name event_access.Pop b = refl

-- the groups of its tokens
event_groups : (e : List ℕ) (a : EventAccess) (b : EventAnswer) (more : List (List ℕ)) → access_groups (owed_event e a ++ event_found a b) more ≡ record { owed = owed_event e a; word = []; event = event_found a b; reply = more }
event_groups e event_access.Listener b more = refl
event_groups e (event_access.Set id) b more = refl
event_groups e event_access.Post b more = refl
event_groups e (event_access.Push id) b more = refl
event_groups e event_access.Signal b more = refl
event_groups e (event_access.Scan word) b more = refl
event_groups e (event_access.Clear id) b more = refl
event_groups e (event_access.Swap word) b more = refl
event_groups e event_access.Pop b more = refl

-- an access has a first token
record HasFirst (ts : List (List ℕ)) : Type 0 where
  first : List ℕ
  rest : List (List ℕ)
  is : ts ≡ first ∷ rest
  other : bytes_eq first (codes "refused") ≡ false

event_first : (e : List ℕ) (a : EventAccess) (more : List (List ℕ)) → HasFirst (owed_event e a ++ more)
event_first e event_access.Listener more = record { first = _; rest = _; is = refl; other = refl }
event_first e (event_access.Set id) more = record { first = _; rest = _; is = refl; other = refl }
event_first e event_access.Post more = record { first = _; rest = _; is = refl; other = refl }
event_first e (event_access.Push id) more = record { first = _; rest = _; is = refl; other = refl }
event_first e event_access.Signal more = record { first = _; rest = _; is = refl; other = refl }
event_first e (event_access.Scan word) more = record { first = _; rest = _; is = refl; other = refl }
event_first e (event_access.Clear id) more = record { first = _; rest = _; is = refl; other = refl }
event_first e (event_access.Swap word) more = record { first = _; rest = _; is = refl; other = refl }
event_first e event_access.Pop more = record { first = _; rest = _; is = refl; other = refl }

event_step : (party : List ℕ) (k : EventKind) (name : List ℕ) (a : EventAccess) (b : EventAnswer) (told : Option StepReply) → IsFormedAccess name a b None
    → IsGroupedAs party (event_access_text k name a b ++ step_told_text told) (step_groups (printed.event_access k name a b) told)
event_step party k name a b told h =
    let ts : List (List ℕ) = owed_event (event_text k name) a ++ event_found a b in
    let f = event_first (event_text k name) a (event_found a b) in
    let plain : AllByRecursion IsPlain ts = all_both (owed_event (event_text k name) a) (event_found a b) (plain_owed (event_text k name) a (plain_event k name h.text) h.numbers) (plain_found a b h.answers) in
    let text : event_access_text k name a b ++ step_told_text told ≡ join_with_byte 32 ts ++ step_told_text told = ap (λ (t : List ℕ). t ++ step_told_text told) (event_joined k name a b) in
    let g = grouped party _ f.first f.rest told (text ∙ ap (λ (xs : List (List ℕ)). join_with_byte 32 xs ++ step_told_text told) f.is) (subst (AllByRecursion IsPlain) f.is plain) f.other in
    record {
      groups = g.groups ∙ ap (λ (xs : List (List ℕ)). access_groups xs (reply_tokens told)) (sym f.is) ∙ event_groups (event_text k name) a b (reply_tokens told);
      refusal = g.refusal;
    }

-- ---- all answers to steps

pub step_grouped : (party : List ℕ) (a : StepAccess) (told : Option StepReply) → IsStepAccess a → IsGroupedAs party (step_access_text a ++ step_told_text told) (step_groups a told)
step_grouped party (printed.board_access a) told h = board_step party a told h
step_grouped party (printed.event_access k name a b) told h = event_step party k name a b told h.1

pub steps_grouped : StepsAreGrouped
steps_grouped = record {
  groups = λ party a told h. (step_grouped party a told h).groups;
  rule = λ party right a due told h k.
      let x = step_grouped party right due h in
      let y = step_grouped party a told k in
      let one : List (List ℕ) = tokens_of (printed_text (a_step right due)) in
      let two : List (List ℕ) = tokens_of (printed_text (a_step a told)) in
      let g1 : Groups = groups_of (line.Board (board_line.Step party)) one in
      let g2 : Groups = groups_of (line.Board (board_line.Step party)) two in
      ap (λ (ts : List (List ℕ)). if not (same_tokens ts (refusal_of two)) then Some rule.Reason else first_group g1 g2) x.refusal
      ∙ ap (λ (ts : List (List ℕ)). if not (same_tokens [] ts) then Some rule.Reason else first_group g1 g2) y.refusal
      ∙ ap (λ (g : Groups). first_group g g2) x.groups
      ∙ ap (first_group (step_groups right due)) y.groups;
}
