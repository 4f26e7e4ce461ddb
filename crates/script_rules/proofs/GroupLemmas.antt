-- The groups of an answer are all of its tokens, so an answer with the same groups is the same.
use Rattle.std.proofs.Common.{◌≡◌, ℕ, Bool, true, false, List, [], ◌∷◌, ◌++◌, take, drop, refl, sym, ap, ◌∙◌, Option, Some, None}
use Rattle.std.specs.Prelude.{if◌then◌else◌, ◌&&◌, not, codes}
use Rattle.std.specs.List.{join_with_byte}
use Rattle.std.specs.Str.{bytes_eq}
use Rattle.std.proofs.lemmas.Bool.{and_parts}
use Rattle.std.proofs.lemmas.List.{append-nil, take-append-drop}
use Rattle.std.proofs.lemmas.List.Splits.{join_with_byte-slice_split}
use Rattle.board_model.specs.declared.line.Line.TheVariants as board_line
use Rattle.board_model.proofs.ListLemmas.{same_bytes}
use Rattle.board_model.proofs.ThingLemmas.{same_to_itself}
use Rattle.script_model.specs.declared.line.ScriptLine.{ScriptLine}
use Rattle.script_model.specs.declared.line.ScriptLine.TheVariants as line
use Rattle.script_rules.specs.declared.rule.Rule.{Rule}
use Rattle.script_rules.specs.declared.rule.Rule.TheVariants as rule
use Rattle.script_rules.specs.AnswerGroups.{Groups, access_groups, before_reply, begins_with, from_reply, groups_of, owed_tokens, refusal_of, same_tokens, tokens_of}
use Rattle.script_rules.specs.BrokenRules.{BreaksNoneWhereRight, broken_rule, first_group}

-- ---- the same tokens

both_heads : (x y : List ℕ) (xs ys : List (List ℕ)) → x ≡ y → xs ≡ ys → x ∷ xs ≡ y ∷ ys
both_heads x y xs ys e f = cc

pub same_is : (xs ys : List (List ℕ)) → same_tokens xs ys ≡ true → xs ≡ ys
same_is [] [] e = refl
same_is [] (y ∷ ys) e = absurd cc
same_is (x ∷ xs) [] e = absurd cc
same_is (x ∷ xs) (y ∷ ys) e =
    let h = and_parts (bytes_eq x y) (same_tokens xs ys) e in
    both_heads x y xs ys (same_bytes x y h.0) (same_is xs ys h.1)

pub same_self : (xs : List (List ℕ)) → same_tokens xs xs ≡ true
same_self [] = refl
same_self (x ∷ xs) = ap (λ (b : Bool). b && same_tokens xs xs) (same_to_itself x) ∙ same_self xs

-- ---- the groups are all tokens

abbrev whole : Groups → List (List ℕ)
whole g = (g.owed ++ (g.word ++ g.event)) ++ g.reply

reply_cut : (ts : List (List ℕ)) → before_reply ts ++ from_reply ts ≡ ts
reply_cut [] = refl
reply_cut (t ∷ ts) = at (bytes_eq t (codes "=")) (reply_cut ts)
  where
    at : (b : Bool) → before_reply ts ++ from_reply ts ≡ ts → (if b then [] else t ∷ before_reply ts) ++ (if b then t ∷ ts else from_reply ts) ≡ t ∷ ts
    at true e = refl
    at false e = ap (λ (xs : List (List ℕ)). t ∷ xs) e

access_whole : (ts more : List (List ℕ)) → whole (access_groups ts more) ≡ ts ++ more
access_whole ts more = at (begins_with ts (codes "read"))
  where
    parts : take (owed_tokens ts) ts ++ drop (owed_tokens ts) ts ≡ ts
    parts = take-append-drop (owed_tokens ts) ts

    at : (b : Bool) → (take (owed_tokens ts) ts ++ ((if b then drop (owed_tokens ts) ts else []) ++ (if b then [] else drop (owed_tokens ts) ts))) ++ more ≡ ts ++ more
    at true = ap (λ (xs : List (List ℕ)). (take (owed_tokens ts) ts ++ xs) ++ more) (append-nil (drop (owed_tokens ts) ts)) ∙ ap (λ (xs : List (List ℕ)). xs ++ more) parts
    at false = ap (λ (xs : List (List ℕ)). xs ++ more) parts

form_whole : (ts : List (List ℕ)) → (ts ++ []) ++ [] ≡ ts
form_whole ts = append-nil (ts ++ []) ∙ append-nil ts

groups_whole : (l : ScriptLine) (ts : List (List ℕ)) → whole (groups_of l ts) ≡ ts
groups_whole (line.Board (board_line.Begin p c)) ts = form_whole ts
groups_whole (line.Board (board_line.Step p)) ts = access_whole (before_reply ts) (from_reply ts) ∙ reply_cut ts
groups_whole (line.Board (board_line.Release p n)) ts = form_whole ts
groups_whole (line.Board (board_line.Abandon p)) ts = form_whole ts
groups_whole (line.Board (board_line.Words b)) ts = append-nil (take 1 ts ++ (drop 1 ts ++ [])) ∙ ap (λ (xs : List (List ℕ)). take 1 ts ++ xs) (append-nil (drop 1 ts)) ∙ take-append-drop 1 ts
groups_whole (line.Event p q) ts = form_whole ts
groups_whole (line.Expire p) ts = form_whole ts

-- ---- no rule is broken

record AreSame (x y : Groups) : Type 0 where
  owed : same_tokens x.owed y.owed ≡ true
  word : same_tokens x.word y.word ≡ true
  event : same_tokens x.event y.event ≡ true
  reply : same_tokens x.reply y.reply ≡ true

all_true : (a b c d : Bool) → (if not a then Some rule.Owed else if not b then Some rule.Word else if not c then Some rule.Event else if not d then Some rule.Reply else None) ≡ None → (a ≡ true) × (b ≡ true) × (c ≡ true) × (d ≡ true)
all_true true true true true h = (refl, refl, refl, refl)
all_true true true true false h = absurd cc
all_true true true false d h = absurd cc
all_true true false c d h = absurd cc
all_true false b c d h = absurd cc

all_same : (x y : Groups) → first_group x y ≡ None → AreSame x y
all_same x y e =
    let k = all_true _ _ _ _ e in
    record { owed = k.0; word = k.1; event = k.2; reply = k.3 }

same_whole : (x y : Groups) → AreSame x y → whole x ≡ whole y
same_whole x y h =
    let o = same_is x.owed y.owed h.owed in
    let w = same_is x.word y.word h.word in
    let e = same_is x.event y.event h.event in
    let r = same_is x.reply y.reply h.reply in
    cc

no_group : (b : Bool) (o : Option Rule) → (if not b then Some rule.Reason else o) ≡ None → o ≡ None
no_group true o e = e
no_group false o e = absurd cc

pub none_same : (l : ScriptLine) (right text : List ℕ) → broken_rule l right text ≡ None → right ≡ text
none_same l right text e =
    let g = no_group _ _ e in
    let w = same_whole (groups_of l (tokens_of right)) (groups_of l (tokens_of text)) (all_same (groups_of l (tokens_of right)) (groups_of l (tokens_of text)) g) in
    let t : tokens_of right ≡ tokens_of text = sym (groups_whole l (tokens_of right)) ∙ w ∙ groups_whole l (tokens_of text) in
    sym (join_with_byte-slice_split 32 right) ∙ ap (join_with_byte 32) t ∙ join_with_byte-slice_split 32 text

group_self : (g : Groups) → first_group g g ≡ None
group_self g = rw (same_self g.owed, same_self g.word, same_self g.event, same_self g.reply) refl

pub self_none : (l : ScriptLine) (text : List ℕ) → broken_rule l text text ≡ None
self_none l text = ap (λ (b : Bool). if not b then Some rule.Reason else first_group (groups_of l (tokens_of text)) (groups_of l (tokens_of text))) (same_self (refusal_of (tokens_of text))) ∙ group_self (groups_of l (tokens_of text))

pub none_where_right : BreaksNoneWhereRight
none_where_right = record { none = none_same; right = self_none }

-- ---- the rules of an answer that differs

abbrev is_late : Option Rule → Bool
is_late None = true
is_late (Some rule.Line) = false
is_late (Some rule.Answer) = false
is_late (Some r) = true

late_group : (a b c d e : Bool) → is_late (if not a then Some rule.Reason else if not b then Some rule.Owed else if not c then Some rule.Word else if not d then Some rule.Event else if not e then Some rule.Reply else None) ≡ true
late_group true true true true true = refl
late_group true true true true false = refl
late_group true true true false e = refl
late_group true true false d e = refl
late_group true false c d e = refl
late_group false b c d e = refl

broken_late : (l : ScriptLine) (right text : List ℕ) → is_late (broken_rule l right text) ≡ true
broken_late l right text =
    let x : Groups = groups_of l (tokens_of right) in
    let y : Groups = groups_of l (tokens_of text) in
    late_group (same_tokens (refusal_of (tokens_of right)) (refusal_of (tokens_of text))) (same_tokens x.owed y.owed) (same_tokens x.word y.word) (same_tokens x.event y.event) (same_tokens x.reply y.reply)

pub not_line : (l : ScriptLine) (right text : List ℕ) → broken_rule l right text ≡ Some rule.Line → ⊥
not_line l right text e =
    let h : true ≡ false = sym (broken_late l right text) ∙ ap is_late e in
    cc

pub not_answer : (l : ScriptLine) (right text : List ℕ) → broken_rule l right text ≡ Some rule.Answer → ⊥
not_answer l right text e =
    let h : true ≡ false = sym (broken_late l right text) ∙ ap is_late e in
    cc
