use Rattle.std.proofs.Common.{◌≡◌, ℕ, Bool, true, false, cond, List, Option, refl, sym, ap, ◌∙◌}
use Rattle.std.specs.Prelude.{◌||◌}
use Rattle.std.specs.BTreeSet as set
use Rattle.std.specs.Cmp.Lexicographic.{slice_cmp}
use Rattle.std.specs.Ordering.{nat_cmp}
use Rattle.std.specs.Str.{bytes_eq}
use Rattle.std.proofs.lemmas.Map.Text.{is_eq-slice_cmp}
use Rattle.board_model.specs.Tables.{holds_at}
use Rattle.script_parties.proofs.lists.add_party.Goals as goal

either_or : (b o : Bool) → cond b true o ≡ (o || b)
either_or true true = refl
either_or true false = refl
either_or false true = refl
either_or false false = refl

pub returns-in-Ok : goal.returns-in-Ok
returns-in-Ok c = λ p.
    let before = set.contains (slice_cmp nat_cmp) c.args.parties.now p in
    c.in-Ok.ensures.updates.0 p ∙ ap (λ b. cond b true before) (is_eq-slice_cmp c.in-Some.party p) ∙ either_or (bytes_eq c.in-Some.party p) before
    ∙ sym (ap (λ (o : Option (List ℕ)). before || holds_at o (λ q. bytes_eq q p)) c.in-Some.is)
