-- What the calls on loans do to a machine is what they do to the state.
use Rattle.std.proofs.Common.{◌≡◌, ℕ, List, set, sym, ap, ◌∙◌, Some, None}
use Rattle.board_model.specs.Requests.{Lending}
use Rattle.board_model.specs.Replies.{given_back, lent, none_put, with_word}
use Rattle.board_model.specs.Things.{with_name}
use Rattle.board_model.specs.LawfulSession.{State}
use Rattle.script_parties.specs.Parties.{Parties}
use Rattle.script_boards.specs.declared.machine.BoardMachine.{BoardMachine}
use Rattle.script_boards.specs.LoanCalls.{IsGivenBack, IsLoaned, IsWordPut}
use Rattle.script_boards.specs.Loans.{lent_words}
use Rattle.script_boards.specs.Machine.{tables_of}
use Rattle.script_boards.proofs.Seats.{of_name, with_at-same}

module _ (s : State) {C : Type 0} (mid new : BoardMachine C) (tables : s.standing.tables ≡ tables_of mid) (loans : (p n : List ℕ) → s.standing.loans p n ≡ lent_words mid p n) (party : List ℕ) (l : Lending) where
  module _ (h : IsLoaned mid new party l.handle l.loan l.shape.words) where
    pub lent_tables : (lent s.standing party l).tables ≡ tables_of new
    lent_tables = ap (λ t. with_name t party l.handle l.loan) tables ∙ ap (λ (d : Parties). d.tables) (sym h.domain)

    pub lent_loans : (p n : List ℕ) → (lent s.standing party l).loans p n ≡ lent_words new p n
    lent_loans p n = with_at-same s.standing.loans (lent_words mid) party l.loan (Some (none_put l.shape.words)) loans p n ∙ sym (of_name h.loans p n)

  module _ (h : IsGivenBack mid new party l.loan l.handle) where
    pub given_back_tables : (given_back s.standing party l).tables ≡ tables_of new
    given_back_tables = ap (λ t. with_name t party l.loan l.handle) tables ∙ ap (λ (d : Parties). d.tables) (sym h.domain)

    pub given_back_loans : (p n : List ℕ) → (given_back s.standing party l).loans p n ≡ lent_words new p n
    given_back_loans p n = with_at-same s.standing.loans (lent_words mid) party l.loan None loans p n ∙ sym (of_name h.loans p n)

  pub put_loans : (i w : ℕ) → IsWordPut mid new party l.loan i w → s.standing.loans party l.loan ≡ Some l.words → (p n : List ℕ) → (with_word s.standing party l i w).loans p n ≡ lent_words new p n
  put_loans i w h words p n =
      with_at-same s.standing.loans (lent_words mid) party l.loan (Some (set l.words i (Some w))) loans p n
      ∙ sym (of_name (h.loans l.words (sym (loans party l.loan) ∙ words)) p n)
