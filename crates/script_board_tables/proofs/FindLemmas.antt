-- Calls on loans, looked up.
use Rattle.std.proofs.Common.{◌≡◌, ℕ, Bool, List, [], Option, Some, None, refl, sym, ap, ◌∙◌, subst}
use Rattle.std.specs.Prelude.{option_map}
use Rattle.board_layout.specs.declared.type_detail.TypeDetail.{TypeDetail}
use Rattle.board_model.specs.declared.tables.Entry.{Entry}
use Rattle.board_model.specs.LawfulSession.{is_filled, is_indexed, is_typed}
use Rattle.board_model.specs.Requests as requests
use Rattle.board_model.specs.Requests.{Lending, Published, Request, and_then, handled, loan_of}
use Rattle.board_model.specs.Things.{Held, Standing}
use Rattle.script_board_tables.specs.declared.calls.BoardCall.{BoardCall}
use Rattle.script_board_tables.specs.declared.calls.Lent.{Lent}
use Rattle.script_board_tables.specs.declared.requests.Found.{Found}
use Rattle.script_board_tables.specs.Calls.{HasCome, IsFor, IsFound, IsFoundFor, lending, lent_found, lent_of, plain_of}

abbrev pub a_lent : Lent × TypeDetail → Option (Lent × TypeDetail)
a_lent x = Some x

-- a call that was plain before these were set is the request
pub on_plain : (s : Standing) (f : Found) (c : BoardCall) (q : Request) (typed indexed filled : Bool) → f ≡ plain_of c → IsFor c q → HasCome c [] → typed ≡ is_typed s q → indexed ≡ is_indexed q → filled ≡ is_filled q
    → IsFoundFor s (record { call = f.call; typed = typed; indexed = indexed; filled = filled }) q
on_plain s f c q typed indexed filled plain is come t i l = record {
  request = subst (λ (g : Found). IsFor g.call q) (sym plain) is;
  come = subst (λ (g : Found). HasCome g.call []) (sym plain) come;
  typed = t;
  indexed = i;
  filled = l;
}

module _ (s : Standing) (lists : Published) (l m : List ℕ) (make : Lending → Request) where
  abbrev made_of : Lent × TypeDetail → Request
  made_of x = make (lending x.1 x.0)

  at_entry : (x : Held × List (Option ℕ)) (o : Option Entry) → and_then o (λ e. Some (make (lending e.value (lent_of lists x.0 e l m x.1)))) ≡ option_map made_of (and_then o (λ e. Some (lent_of lists x.0 e l m x.1, e.value)))
  at_entry x None = refl
  at_entry x (Some e) = refl

  at_loan : (o : Option (Held × List (Option ℕ))) → and_then o (λ x. requests.lending s lists l m x.0 x.1 make) ≡ option_map made_of (and_then o (λ x. and_then (handled s x.0) (λ e. Some (lent_of lists x.0 e l m x.1, e.value))))
  at_loan None = refl
  at_loan (Some x) = at_entry x (handled s x.0)

  -- a call on a loan that was looked up is the request
  pub on_loan : (party : List ℕ) (lent : Lent) (detail : TypeDetail) → a_lent (lent, detail) ≡ lent_found s lists party l m → (f : Found) → IsFoundFor s f (make (lending detail lent))
      → IsFound s (Some f) (and_then (loan_of s party l) (λ x. requests.lending s lists l m x.0 x.1 make))
  on_loan party lent detail found f is = subst (λ (o : Option Request). IsFound s (Some f) o) (ap (option_map made_of) found ∙ sym (at_loan (loan_of s party l))) is
