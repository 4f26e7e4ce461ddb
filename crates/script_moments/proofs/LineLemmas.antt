-- How a snapshot goes on, line by line.
use Rattle.std.proofs.Common.{◌≡◌, ℕ, true, List, [], ◌∷◌, ◌++◌, length, arith, refl, sym, ap, subst, ◌∙◌, Some, None, append_assoc}
use Rattle.std.specs.Prelude.{slice_get}
use Rattle.std.specs.List.{AllByRecursion, flat_map}
use Rattle.std.proofs.lemmas.List.{append-nil}
use Rattle.std.proofs.lemmas.List.Concat.{flat_map-append}
use Rattle.board_model.proofs.ThingLemmas.{all_push, same_to_itself}
use Rattle.script_model.specs.ScriptSession.{IsLawful}
use Rattle.script_model.specs.LawsOfComposition.{Pair}
use Rattle.script_model.specs.LawsOfLines.{names}
use Rattle.script_moments.specs.Moments.{Moment, next_moment}
use Rattle.script_moments.specs.Gets.{Ends, Get, GoesOn, IsBegin, IsOpen, IsPart, IsRound, Round, moments_of, moments_of_get, ended_get}
use Rattle.script_moments.specs.SnapshotLines.{GetBegins, GetEnds, GetGoesOn, OthersLeaveSnapshots, RoundEnds, SnapshotEnds, SnapshotsBegin, SnapshotsGoOn}
use Rattle.script_moments.specs.Snapshots.{moments_of_snapshot}
use Rattle.script_moments.proofs.SessionLemmas.{all_lawful, own_more, own_same}

others_leave : OthersLeaveSnapshots
others_leave before since party hs x pair h ok off = record {
  lawful = all_lawful before since pair h.lawful ok;
  own = own_same before since party pair (moments_of_snapshot x) off h.own;
  rounds = h.rounds;
  unlike = h.unlike;
  part = h.part;
}

pub part_begins : (party h : List ℕ) (hs : List (List ℕ)) (gets : Round) (o : Moment × List Moment) → slice_get hs (length gets) ≡ Some h → IsOpen party h o → IsPart party hs gets None → IsPart party hs gets (Some o)
part_begins party h [] [] o e k p = absurd cc
part_begins party h (g ∷ hs) [] o e k p =
    let q : g ≡ h = cc in
    subst (λ (n : List ℕ). IsOpen party n o) (sym q) k
part_begins party h [] (x ∷ xs) o e k p = absurd p
part_begins party h (g ∷ hs) (x ∷ xs) o e k p = (p.0, part_begins party h hs xs o e k p.1)

get_begins : GetBegins
get_begins before since party handle hs rounds gets pair h ok e b =
    let on : names party pair.0 ≡ true = ap (λ (p : Pair). names party p.0) b ∙ same_to_itself party in
    record {
      lawful = all_lawful before since pair h.lawful ok;
      own = own_more before since party pair (flat_map moments_of rounds ++ (moments_of gets ++ [])) on h.own ∙ append_assoc (flat_map moments_of rounds) (moments_of gets ++ []) (next_moment before since pair ∷ []) ∙ ap (λ (ms : List Moment). flat_map moments_of rounds ++ ms) (append_assoc (moments_of gets) [] (next_moment before since pair ∷ []));
      rounds = h.rounds;
      unlike = h.unlike;
      part = part_begins party handle hs gets (next_moment before since pair, []) e (record { begun = b; steps = tt }) h.part;
    }

pub part_goes : (party : List ℕ) (hs : List (List ℕ)) (gets : Round) (m n : Moment) (steps : List Moment) → GoesOn party n → IsPart party hs gets (Some (m, steps)) → IsPart party hs gets (Some (m, steps ++ n ∷ []))
part_goes party [] [] m n steps k p = absurd p
part_goes party (h ∷ hs) [] m n steps k p = record { begun = p.begun; steps = all_push (GoesOn party) steps n p.steps k }
part_goes party [] (x ∷ xs) m n steps k p = absurd p
part_goes party (h ∷ hs) (x ∷ xs) m n steps k p = (p.0, part_goes party hs xs m n steps k p.1)

get_goes_on : GetGoesOn
get_goes_on before since party hs rounds gets m steps pair h ok k =
    let on : names party pair.0 ≡ true = ap (λ (p : Pair). names party p.0) k.1 ∙ same_to_itself party in
    record {
      lawful = all_lawful before since pair h.lawful ok;
      own = own_more before since party pair (flat_map moments_of rounds ++ (moments_of gets ++ m ∷ steps)) on h.own ∙ append_assoc (flat_map moments_of rounds) (moments_of gets ++ m ∷ steps) (next_moment before since pair ∷ []) ∙ ap (λ (ms : List Moment). flat_map moments_of rounds ++ ms) (append_assoc (moments_of gets) (m ∷ steps) (next_moment before since pair ∷ []));
      rounds = h.rounds;
      unlike = h.unlike;
      part = part_goes party hs gets m (next_moment before since pair) steps k h.part;
    }

pub part_ends : (party : List ℕ) (hs : List (List ℕ)) (gets : Round) (m : Moment) (steps : List Moment) (x : Get) → x.begun ≡ m → x.steps ≡ steps → Ends party x.ended x.type x.words x.generation → IsPart party hs gets (Some (m, steps)) → IsPart party hs (gets ++ x ∷ []) None
part_ends party [] [] m steps x e f k p = absurd p
part_ends party (h ∷ hs) [] m steps x e f k p = (record { begun = subst (IsBegin party h) (sym e) p.begun; steps = subst (AllByRecursion (GoesOn party)) (sym f) p.steps; ended = k }, tt)
part_ends party [] (y ∷ ys) m steps x e f k p = absurd p
part_ends party (h ∷ hs) (y ∷ ys) m steps x e f k p = (p.0, part_ends party hs ys m steps x e f k p.1)

get_ends : GetEnds
get_ends before since party hs rounds gets m steps pair type words g h ok k =
    let n : Moment = next_moment before since pair in
    let x : Get = ended_get m steps n type words g in
    let on : names party pair.0 ≡ true = ap (λ (p : Pair). names party p.0) k.1 ∙ same_to_itself party in
    let one : moments_of (gets ++ x ∷ []) ≡ moments_of gets ++ (moments_of_get x ++ []) = flat_map-append moments_of_get gets (x ∷ []) in
    let all : (moments_of gets ++ m ∷ steps) ++ n ∷ [] ≡ moments_of (gets ++ x ∷ []) ++ [] =
    append_assoc (moments_of gets) (m ∷ steps) (n ∷ []) ∙ ap (λ (ms : List Moment). moments_of gets ++ ms) (sym (append-nil (moments_of_get x))) ∙ sym one ∙ sym (append-nil (moments_of (gets ++ x ∷ []))) in
    record {
      lawful = all_lawful before since pair h.lawful ok;
      own = own_more before since party pair (flat_map moments_of rounds ++ (moments_of gets ++ m ∷ steps)) on h.own ∙ append_assoc (flat_map moments_of rounds) (moments_of gets ++ m ∷ steps) (n ∷ []) ∙ ap (λ (ms : List Moment). flat_map moments_of rounds ++ ms) all;
      rounds = h.rounds;
      unlike = h.unlike;
      part = part_ends party hs gets m steps x refl refl k h.part;
    }

pub part_round : (party : List ℕ) (hs : List (List ℕ)) (gets : Round) → length gets ≡ length hs → IsPart party hs gets None → IsRound party hs gets
part_round party [] [] e p = tt
part_round party (h ∷ hs) [] e p = absurd (omega arith)
part_round party [] (x ∷ xs) e p = absurd p
part_round party (h ∷ hs) (x ∷ xs) e p = (p.0, part_round party hs xs (omega arith) p.1)

round_ends : RoundEnds
round_ends before since party hs rounds gets h e u = record {
  lawful = h.lawful;
  own = h.own ∙ rounds_are;
  rounds = all_push (IsRound party hs) rounds gets h.rounds (part_round party hs gets e h.part);
  unlike = u;
  part = tt;
}
  where
    rounds_are : flat_map moments_of rounds ++ (moments_of gets ++ []) ≡ flat_map moments_of (rounds ++ gets ∷ []) ++ []
    rounds_are = sym (append-nil (flat_map moments_of (rounds ++ gets ∷ [])) ∙ flat_map-append moments_of rounds (gets ∷ []))

starts : SnapshotsBegin
starts before party hs ok = record { lawful = subst IsLawful (sym (append-nil before)) ok; own = refl; rounds = tt; unlike = tt; part = tt }

written : SnapshotEnds
written before since party hs earlier one gets h e alike = record { snapshot = h; none = refl; whole = part_round party hs gets e h.part; earlier = earlier; one = one; rounds = refl; alike = alike }

pub go_on : SnapshotsGoOn
go_on = record { start = starts; others = others_leave; begins = get_begins; goes_on = get_goes_on; ends = get_ends; round = round_ends; written = written }
