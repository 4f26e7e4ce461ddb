-- A create and an open that are read are calls with the name of a board.
use Rattle.std.proofs.Common.{◌≡◌, Bool, true, false, List, ℕ, refl, Option, Some, None}
use Rattle.std.specs.Prelude.{codes}
use Rattle.board_model.specs.declared.line.Call.{Call}
use Rattle.board_model.specs.declared.line.Call.TheVariants as call
use Rattle.board_model.specs.Requests.{and_then}
use Rattle.script_grammar.specs.LineReading.{read_board, read_create, read_entries, read_limit, read_needs, read_open, read_pair, read_parts}
use Rattle.script_grammar.specs.TokenReading.{◌>>=◌, guard, is_end}
use Rattle.script_parse.specs.declared.unkept.Made.{Made}
use Rattle.script_parse.specs.Kept.{board_made}

-- what is read makes something, if something is
abbrev Makes : Option Call → Type 0
Makes o = None ≡ and_then o board_made → None ≡ o

made_by : {A : Type 0} (o : Option A) (f : A → Option Call) → ((x : A) → Makes (f x)) → Makes (o >>= f)
made_by None f h e = refl
made_by (Some x) f h e = h x e

made_where : (b : Bool) (c : Call) (m : Made) → board_made c ≡ Some m → Makes (guard b (Some c))
made_where true c m h e = absurd cc
made_where false c m h e = refl

pub create_makes : (ts : List (List ℕ)) → None ≡ and_then (read_create ts) board_made → None ≡ read_create ts
unfolding read_create
create_makes ts =
    made_by (read_board ts) (λ b. read_limit (codes "writers") b.1 >>= λ w. read_parts 8 (codes "attr") read_pair w.1 >>= λ attributes. read_entries attributes.1 >>= λ entries. Some (call.Create b.0.0 b.0.1 b.0.2 (record { shared = b.0.3; max_writers = w.0 }) attributes.0 entries))
    (λ b. made_by (read_limit (codes "writers") b.1) (λ w. read_parts 8 (codes "attr") read_pair w.1 >>= λ attributes. read_entries attributes.1 >>= λ entries. Some (call.Create b.0.0 b.0.1 b.0.2 (record { shared = b.0.3; max_writers = w.0 }) attributes.0 entries))
    (λ w. made_by (read_parts 8 (codes "attr") read_pair w.1) (λ attributes. read_entries attributes.1 >>= λ entries. Some (call.Create b.0.0 b.0.1 b.0.2 (record { shared = b.0.3; max_writers = w.0 }) attributes.0 entries))
    (λ attributes. made_by (read_entries attributes.1) (λ entries. Some (call.Create b.0.0 b.0.1 b.0.2 (record { shared = b.0.3; max_writers = w.0 }) attributes.0 entries)) (λ entries e. absurd cc))))

pub open_makes : (ts : List (List ℕ)) → None ≡ and_then (read_open ts) board_made → None ≡ read_open ts
unfolding read_open
open_makes ts =
    made_by (read_board ts) (λ b. read_needs b.1 >>= λ needs. guard (is_end needs.1) (Some (call.Open b.0.0 b.0.1 b.0.2 b.0.3 needs.0)))
    (λ b. made_by (read_needs b.1) (λ needs. guard (is_end needs.1) (Some (call.Open b.0.0 b.0.1 b.0.2 b.0.3 needs.0))) (λ needs. made_where (is_end needs.1) (call.Open b.0.0 b.0.1 b.0.2 b.0.3 needs.0) _ refl))
