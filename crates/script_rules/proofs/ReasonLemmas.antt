-- An answer breaks the rule of reasons exactly where it isn't refused as its line is.
use Rattle.std.proofs.Common.{◌≡◌, ℕ, Bool, true, false, List, [], ◌∷◌, ◌++◌, drop, refl, sym, ap, ◌∙◌, Option, Some, None}
use Rattle.std.specs.Prelude.{codes, if◌then◌else◌, not, ◌==◌}
use Rattle.std.specs.List.{join_with_byte}
use Rattle.std.specs.Str.{bytes_eq}
use Rattle.std.proofs.lemmas.List.Splits.{join_with_byte-slice_split, slice_split_at}
use Rattle.board_model.specs.declared.answer.Answer.TheVariants as answer
use Rattle.board_model.specs.declared.answer.Reason.{Reason}
use Rattle.board_model.specs.declared.answer.Reason.TheVariants as reason
use Rattle.board_model.specs.AnswerGrammar.{reason_text}
use Rattle.script_model.specs.ScriptAnswers.{IsScriptAnswer, ScriptAnswer, expired, of_ask, of_boards, of_event, script_answer_text}
use Rattle.script_model.specs.ScriptRules.{IsReasoned, script_reason}
use Rattle.script_grammar.proofs.SplitLemmas.{free_lacks}
use Rattle.script_rules.specs.declared.rule.Rule.{Rule}
use Rattle.script_rules.specs.declared.rule.Rule.TheVariants as rule
use Rattle.script_rules.specs.AnswerGroups.{refusal_of, same_tokens, tokens_of}
use Rattle.script_rules.specs.NamedRules.{ReasonsAreJudged}
use Rattle.script_rules.proofs.GroupLemmas.{same_is}
use Rattle.script_rules.proofs.NamedLemmas.{refuses_none}

-- ---- the words of reasons

named_reason : List ℕ → Reason
named_reason text =
    if bytes_eq text (codes "abandoned") then reason.Abandoned else
    if bytes_eq text (codes "busy") then reason.Busy else
    if bytes_eq text (codes "idle") then reason.Idle else
    if bytes_eq text (codes "unknown") then reason.Unknown else
    if bytes_eq text (codes "taken") then reason.Taken else
    if bytes_eq text (codes "type") then reason.Type else
    if bytes_eq text (codes "index") then reason.Index else
    if bytes_eq text (codes "unfilled") then reason.Unfilled else
    if bytes_eq text (codes "notwaiting") then reason.NotWaiting else
    reason.NoBoard

reason_again : (why : Reason) → named_reason (reason_text why) ≡ why
unfolding named_reason
reason_again reason.Abandoned = refl
reason_again reason.Busy = refl
reason_again reason.Idle = refl
reason_again reason.Unknown = refl
reason_again reason.Taken = refl
reason_again reason.Type = refl
reason_again reason.Index = refl
reason_again reason.Unfilled = refl
reason_again reason.NotWaiting = refl
reason_again reason.NoBoard = refl

-- ---- refusals

refused : Reason → ScriptAnswer
refused why = of_boards (answer.Refused why)

-- all tokens of a refusal are one
refusal_tokens : (why : Reason) → refusal_of (tokens_of (codes "refused " ++ reason_text why)) ≡ tokens_of (codes "refused " ++ reason_text why)
refusal_tokens why =
    let e : tokens_of (codes "refused " ++ reason_text why) ≡ codes "refused" ∷ tokens_of (reason_text why) = slice_split_at (λ b. b == 32) (codes "refused") 32 (reason_text why) (free_lacks 32 (codes "refused") refl) refl in
    ap refusal_of e ∙ sym e

first_token : (why : Reason) → tokens_of (codes "refused " ++ reason_text why) ≡ [] → ⊥
first_token why e =
    let k : tokens_of (codes "refused " ++ reason_text why) ≡ codes "refused" ∷ tokens_of (reason_text why) = slice_split_at (λ b. b == 32) (codes "refused") 32 (reason_text why) (free_lacks 32 (codes "refused") refl) refl in
    let q : codes "refused" ∷ tokens_of (reason_text why) ≡ [] = sym k ∙ e in
    cc

same_reason : (why other : Reason) → tokens_of (codes "refused " ++ reason_text why) ≡ tokens_of (codes "refused " ++ reason_text other) → why ≡ other
same_reason why other e =
    let texts : codes "refused " ++ reason_text why ≡ codes "refused " ++ reason_text other =
    sym (join_with_byte-slice_split 32 (codes "refused " ++ reason_text why)) ∙ ap (join_with_byte 32) e ∙ join_with_byte-slice_split 32 (codes "refused " ++ reason_text other) in
    sym (reason_again why) ∙ ap (λ (t : List ℕ). named_reason (drop 8 t)) texts ∙ reason_again other

-- the same refusal, or none
settles : (o : Option Reason) (right a : ScriptAnswer) → IsScriptAnswer right → IsScriptAnswer a → IsReasoned o right
    → refusal_of (tokens_of (script_answer_text right)) ≡ refusal_of (tokens_of (script_answer_text a)) → IsReasoned o a
settles (Some why) right a f g h e = at a g (ap (λ (x : ScriptAnswer). refusal_of (tokens_of (script_answer_text x))) (sym h) ∙ e)
  where
    none : (x : ScriptAnswer) → IsScriptAnswer x → IsReasoned None x → refusal_of (tokens_of (codes "refused " ++ reason_text why)) ≡ refusal_of (tokens_of (script_answer_text x)) → IsReasoned (Some why) x
    none x i k q = absurd (first_token why (sym (refusal_tokens why) ∙ q ∙ refuses_none x i k))

    at : (x : ScriptAnswer) → IsScriptAnswer x → refusal_of (tokens_of (codes "refused " ++ reason_text why)) ≡ refusal_of (tokens_of (script_answer_text x)) → IsReasoned (Some why) x
    at (of_boards answer.Begun) i q = none (of_boards answer.Begun) i tt q
    at (of_boards (answer.Refused other)) i q = ap (λ (z : Reason). of_boards (answer.Refused z)) (sym (same_reason why other (sym (refusal_tokens why) ∙ q ∙ refusal_tokens other)))
    at (of_boards (answer.Step x told)) i q = none (of_boards (answer.Step x told)) i tt q
    at (of_boards answer.Gone) i q = none (of_boards answer.Gone) i tt q
    at (of_boards (answer.Words ws)) i q = none (of_boards (answer.Words ws)) i tt q
    at (of_ask r) i q = none (of_ask r) i tt q
    at (of_event k n x b told) i q = none (of_event k n x b told) i tt q
    at expired i q = none expired i tt q
settles None right a f g h e = at a g (sym (refuses_none right f h) ∙ e)
  where
    at : (x : ScriptAnswer) → IsScriptAnswer x → [] ≡ refusal_of (tokens_of (script_answer_text x)) → IsReasoned None x
    at (of_boards answer.Begun) i q = tt
    at (of_boards (answer.Refused other)) i q = absurd (first_token other (sym (refusal_tokens other) ∙ sym q))
    at (of_boards (answer.Step x told)) i q = tt
    at (of_boards answer.Gone) i q = tt
    at (of_boards (answer.Words ws)) i q = tt
    at (of_ask r) i q = tt
    at (of_event k n x b told) i q = tt
    at expired i q = tt

-- ---- the law

reason_first : (b : Bool) (o : Option Rule) → (b ≡ true → ⊥) → (if not b then Some rule.Reason else o) ≡ Some rule.Reason
reason_first true o h = absurd (h refl)
reason_first false o h = refl

pub reasons_judged : ReasonsAreJudged
reasons_judged s l right a ok g h =
    reason_first (same_tokens (refusal_of (tokens_of (script_answer_text right))) (refusal_of (tokens_of (script_answer_text a)))) _
    (λ e. h (settles (script_reason s l) right a ok.answer g ok.reason (same_is (refusal_of (tokens_of (script_answer_text right))) (refusal_of (tokens_of (script_answer_text a))) e)))
