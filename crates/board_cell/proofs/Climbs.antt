-- The counters of tries climb.
use Rattle.std.proofs.Common.{◌≡◌, ℕ, ◌+◌, ◌<◌, ◌≤◌, List, [], ◌∷◌, ◌++◌, refl, ap, ◌∙◌, append_assoc, arith}
use Rattle.atomic_table.specs.Seated.{TableId}
use Rattle.board_cell.specs.Passes.{note, ClimbsFrom, last_from, ReaderSeen, Gets, GetsWithin, GetsAreNoOlder}
use Rattle.board_cell.specs.Views.{AfterTries, AfterTriesWithin, with_open, reader_of}
use Rattle.board_cell.specs.declared.threaded.view.ReaderView.{ReaderView}
use Rattle.board_cell.specs.declared.threaded.view.View.{View}
use Rattle.board_cell.specs.declared.threaded.view.View.TheVariants.{Reader}

pub climbs_push : (x : ℕ) (xs : List ℕ) (n : ℕ) → ClimbsFrom x xs → last_from x xs < n → ClimbsFrom x (xs ++ n ∷ [])
climbs_push x [] n c l = (l, tt)
climbs_push x (y ∷ ys) n c l = (c.0, climbs_push y ys n c.1 l)

pub last_push : (x : ℕ) (xs : List ℕ) (n : ℕ) → last_from x (xs ++ n ∷ []) ≡ n
last_push x [] n = refl
last_push x (y ∷ ys) n = last_push y ys n

climbs_up : (x : ℕ) (xs : List ℕ) → ClimbsFrom x xs → x ≤ last_from x xs
climbs_up x [] c = omega arith
climbs_up x (y ∷ ys) c = omega (arith, c.0, climbs_up y ys c.1)

-- a get is of the generation that was known to be reached, or of a later one
pub no_older : GetsAreNoOlder
no_older g words old new gets =
    let loads = gets.loads in
    omega (arith, loads.begins, climbs_up loads.first loads.rest loads.climbs, loads.ends)

-- what a pass over a seat with this view is seen as
abbrev pub seen : TableId → View → ReaderSeen
seen cell v = let y = reader_of v in record { cell = cell; notes = y.notes; loads = y.loads; reached = y.reached }

-- what a pass gains by a try that is opened and by those after it
pub got : (opened g : ℕ) (words : List ℕ) (cell cell' : TableId) (u v w : View) → cell' ≡ cell → v ≡ Reader (with_open (reader_of u) opened) → (reader_of u).reached ≤ opened → AfterTries (reader_of v) w opened g words → Gets g words (seen cell u) (seen cell' w)
got opened g words cell cell' u v w same begins low a =
    let x = reader_of u in
    let is : reader_of w ≡ a.y = ap reader_of a.is in
    let begun : reader_of v ≡ with_open x opened = ap reader_of begins in record {
      cell = same;
      notes = ap (λ (r : ReaderView). r.notes) is ∙ a.notes ∙ ap (λ (r : ReaderView). r.notes ++ note g words ∷ []) begun;
      reached = ap (λ (r : ReaderView). r.reached) is ∙ a.reached;
      loads = record {
        first = opened;
        rest = a.rest;
        begins = low;
        climbs = a.climbs;
        ends = a.ends;
        gained = ap (λ (r : ReaderView). r.loads) is ∙ a.loads ∙ ap (λ (r : ReaderView). (r.loads ++ a.rest) ++ g ∷ []) begun ∙ append_assoc (x.loads ++ opened ∷ []) a.rest (g ∷ []) ∙ append_assoc x.loads (opened ∷ []) (a.rest ++ g ∷ []);
      };
    }

pub got_within : (tries opened g : ℕ) (words : List ℕ) (cell cell' : TableId) (u v w : View) → cell' ≡ cell → v ≡ Reader (with_open (reader_of u) opened) → (reader_of u).reached ≤ opened → AfterTriesWithin tries (reader_of v) w opened g words → GetsWithin tries g words (seen cell u) (seen cell' w)
unfolding got
got_within tries opened g words cell cell' u v w same begins low a = record {
  gets = got opened g words cell cell' u v w same begins low a.after;
  few = a.few;
}

-- tries after one that met a greater counter
pub tried_again : (x : ReaderView) (m v : View) (opened after g : ℕ) (words : List ℕ) → m ≡ Reader (with_open x after) → opened < after → AfterTries (reader_of m) v after g words → AfterTries x v opened g words
tried_again x m v opened after g words begins more a =
    let is : reader_of m ≡ with_open x after = ap reader_of begins in record {
      y = a.y;
      is = a.is;
      notes = a.notes ∙ ap (λ (r : ReaderView). r.notes ++ note g words ∷ []) is;
      reached = a.reached;
      rest = after ∷ a.rest;
      climbs = (more, a.climbs);
      ends = a.ends;
      loads = a.loads ∙ ap (λ (r : ReaderView). (r.loads ++ a.rest) ++ g ∷ []) is ∙ ap (λ (l : List ℕ). l ++ g ∷ []) (append_assoc x.loads (after ∷ []) a.rest);
    }

pub tried_again_within : (tries left : ℕ) (x : ReaderView) (m v : View) (opened after g : ℕ) (words : List ℕ) → m ≡ Reader (with_open x after) → opened < after → left + 1 ≡ tries → AfterTriesWithin left (reader_of m) v after g words → AfterTriesWithin tries x v opened g words
unfolding tried_again
tried_again_within tries left x m v opened after g words begins more one a = record {
  after = tried_again x m v opened after g words begins more a.after;
  few = let few = a.few in omega arith;
}
